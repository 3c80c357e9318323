-- What a line of a script with ties says: one of three commands on ties, or what it says in a script without them.
use Rattle.std.specs.Prelude.{ℕ, ◌==◌, Bool, if◌then◌else◌, Option, Some, None, Result, Ok, Err, List, [], ◌∷◌, codes, get_or, length}
use Rattle.std.specs.Option.{option_map_or}
use Rattle.std.specs.Str.{bytes_eq}
use Rattle.edit_script.specs.Numbers.{numbers}
use Rattle.edit_script.specs.Reading.{reading}
use Rattle.edit_script.specs.Words.{words}
use Rattle.edit_script.specs.declared.commands.Command.{Command}
use Rattle.edit_script.specs.declared.commands.LineFault.{LineFault}
use Rattle.edit_script.specs.declared.commands.LineFault.TheVariants.{BadCount, BadNumber}
use Rattle.followers.specs.declared.lines.TieWord.{TieWord}
use Rattle.followers.specs.declared.lines.TieWord.TheVariants as word
use Rattle.followers.specs.declared.lines.TiedCommand.{TiedCommand}
use Rattle.followers.specs.declared.lines.TiedCommand.TheVariants as command

-- the names of the three, and how many numbers follow each
unfoldable pub row_of : TieWord → List ℕ × ℕ
row_of word.Tie = (codes "tie", 3)
row_of word.Untie = (codes "untie", 1)
row_of word.Ties = (codes "ties", 0)

abbrev pub is_name : TieWord → List ℕ → Bool
is_name w bytes = bytes_eq (row_of w).0 bytes

-- the one of the three that a word is
abbrev pub word_of : List ℕ → Option TieWord
word_of bytes = if is_name word.Tie bytes then Some word.Tie else if is_name word.Untie bytes
    then Some word.Untie else if is_name word.Ties bytes then Some word.Ties else None

-- what one asks for, by the numbers after it
abbrev pub command_by : TieWord → ℕ → ℕ → ℕ → TiedCommand
command_by word.Tie m n offset = command.Tie m n offset
command_by word.Untie m _ _ = command.Untie m
command_by word.Ties _ _ _ = command.Ties

abbrev pub command_of : TieWord → List ℕ → TiedCommand
command_of w ns = command_by w (get_or ns 0 0) (get_or ns 1 0) (get_or ns 2 0)

abbrev pub by_tied_word : TieWord → List (List ℕ) → Result TiedCommand LineFault
by_tied_word w rest =
    if length rest == (row_of w).1 then option_map_or (λ ns. Ok (command_of w ns)) (numbers rest) (Err BadNumber)
    else Err BadCount

-- the reading of a script without ties
abbrev pub based : Result Command LineFault → Result TiedCommand LineFault
based (Ok c) = Ok (command.Base c)
based (Err fault) = Err fault

-- what the words of a line say, where they say this without ties
abbrev pub by_tied_words : List (List ℕ) → Result TiedCommand LineFault → Result TiedCommand LineFault
by_tied_words [] base = base
by_tied_words (first ∷ rest) base = option_map_or (λ w. by_tied_word w rest) (word_of first) base

unfoldable pub tied_reading : List ℕ → Result TiedCommand LineFault
tied_reading line = by_tied_words (words line) (based (reading line))
