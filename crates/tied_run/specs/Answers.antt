-- What a script with ties answers to each command: what a script without them does, but for edits and for
-- the list of ties.
use Rattle.std.specs.Prelude.{ℕ, Option, Some, None, is_some, List, [], ◌++◌, codes}
use Rattle.std.specs.Fmt.{decimal}
use Rattle.std.specs.List.{count_by, enumerate_from, flat_map}
use Rattle.khe_instance.specs.declared.parts.Parts.{Parts}
use Rattle.edit_script.specs.declared.commands.Command.TheVariants as base
use Rattle.evaluation_report.specs.Answers.{ok_line}
use Rattle.script_run.specs.Answers.{answer}
use Rattle.followers.specs.Names.{row_of}
use Rattle.followers.specs.Tables.{made, refusal}
use Rattle.followers.specs.declared.edits.Tie.{Tie}
use Rattle.followers.specs.declared.edits.TiedEdit.{TiedEdit}
use Rattle.followers.specs.declared.edits.TiedEdit.TheVariants as edit
use Rattle.followers.specs.declared.edits.TiedRefusal.{TiedRefusal}
use Rattle.followers.specs.declared.lines.TiedCommand.{TiedCommand}
use Rattle.followers.specs.declared.lines.TiedCommand.TheVariants as command
use Rattle.tied_run.specs.Plays.{TiedPlay, loose, meet}

-- the answer to what is refused
abbrev pub tied_refused_line : TiedRefusal → List ℕ
tied_refused_line r = codes "refused " ++ decimal (row_of r).0 ++ codes " " ++ (row_of r).1 ++ codes "\n"

-- a refusal, or what was made
abbrev pub tied_outcome_line : Option TiedRefusal → Option ℕ → List ℕ
tied_outcome_line (Some r) n = tied_refused_line r
tied_outcome_line None n = ok_line n

abbrev pub edit_answer : Parts → TiedPlay → TiedEdit → List ℕ
edit_answer p w e = tied_outcome_line (refusal p w.state e) (made w.state e)

-- the line of a tie, that of a meet which may have none, and those of all meets
abbrev pub line_of_tie : ℕ → Tie → List ℕ
line_of_tie m t = codes "tie " ++ decimal m ++ codes " " ++ decimal t.leader.0 ++ codes " " ++ decimal t.offset
    ++ codes "\n"

abbrev pub tie_line : ℕ → Option Tie → List ℕ
tie_line m None = []
tie_line m (Some t) = line_of_tie m t

abbrev pub numbered_line : ℕ × Option Tie → List ℕ
numbered_line (m, tie) = tie_line m tie

abbrev pub tie_lines : List (Option Tie) → List ℕ
tie_lines ties = flat_map numbered_line (enumerate_from 0 ties)

-- how many there are, and then their lines
abbrev pub count_line : ℕ → List ℕ
count_line n = codes "ties " ++ decimal n ++ codes "\n"

abbrev pub ties_text : List (Option Tie) → List ℕ
ties_text ties = count_line (count_by is_some ties) ++ tie_lines ties

-- what a command answers
unfoldable pub tied_answer : Parts → TiedPlay → TiedCommand → List ℕ
tied_answer p w (command.Base (base.Edit e)) = edit_answer p w (edit.Base e)
tied_answer p w (command.Base c) = answer p (loose w) c
tied_answer p w (command.Tie m n offset) = edit_answer p w (edit.Tie (meet m) (meet n) offset)
tied_answer p w (command.Untie m) = edit_answer p w (edit.Untie (meet m))
tied_answer p w command.Ties = ties_text w.state.ties
