-- What a script with ties plays on, and what each command makes of it.
use Rattle.std.specs.Prelude.{ℕ, None, length, map, replicate}
use Rattle.khe_engine.specs.States.{State}
use Rattle.khe_base.specs.declared.numbers.MeetId.{MeetId}
use Rattle.khe_instance.specs.declared.parts.Parts.{Parts}
use Rattle.edit_script.specs.declared.commands.Command.TheVariants as base
use Rattle.script_run.specs.Plays.{Play, PlayOf, marked, unless}
use Rattle.followers.specs.Tables.{edited, refusal}
use Rattle.followers.specs.Ties.{TiedState}
use Rattle.followers.specs.Worlds.{TiedWorld}
use Rattle.followers.specs.declared.edits.TiedEdit.{TiedEdit}
use Rattle.followers.specs.declared.edits.TiedEdit.TheVariants as edit
use Rattle.followers.specs.declared.lines.TiedCommand.{TiedCommand}
use Rattle.followers.specs.declared.lines.TiedCommand.TheVariants as command

abbrev pub TiedPlay : Type 0
TiedPlay = PlayOf TiedState

-- what a world with ties is to a script, and the same without its ties
abbrev pub tied_play_of : TiedWorld → TiedPlay
tied_play_of w = record { state = w.now; saved = w.saved }

abbrev pub loose : TiedPlay → Play
loose w = record { state = w.state.state; saved = map (λ (t : TiedState). t.state) w.saved }

-- a state without ties
abbrev pub untied : State → TiedState
untied s = record { state = s; ties = replicate (length s.slots) None }

abbrev pub meet : ℕ → MeetId
meet m = record { 0 = m }

-- what an edit makes of it, where it is not refused
abbrev pub by_edit : Parts → TiedPlay → TiedEdit → TiedPlay
by_edit p w e = unless (refusal p w.state e) w (record w { state = edited w.state e })

-- what a command makes of it
unfoldable pub tied_played : Parts → TiedPlay → TiedCommand → TiedPlay
tied_played p w (command.Base (base.Edit e)) = by_edit p w (edit.Base e)
tied_played p w (command.Base c) = marked w c
tied_played p w (command.Tie m n offset) = by_edit p w (edit.Tie (meet m) (meet n) offset)
tied_played p w (command.Untie m) = by_edit p w (edit.Untie (meet m))
tied_played p w command.Ties = w
