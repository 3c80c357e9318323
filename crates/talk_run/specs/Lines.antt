-- What a line of a talk says: what it says in a script, and two commands more.
use Rattle.std.specs.Prelude.{ℕ, ◌==◌, ◌&&◌, nat_le, Bool, if◌then◌else◌, Result, Ok, Err, List, [], ◌∷◌, codes, get_or}
use Rattle.std.specs.Prelude.{IsTrue, length}
use Rattle.std.specs.Option.{option_map_or}
use Rattle.std.specs.Str.{bytes_eq}
use Rattle.khe_base.specs.declared.limits.TheConstants.{BUDGET, CHAIN_MOVES}
use Rattle.edit_script.specs.Numbers.{numbers}
use Rattle.edit_script.specs.Reading.{reading}
use Rattle.edit_script.specs.Words.{words}
use Rattle.edit_script.specs.declared.commands.Command.{Command}
use Rattle.edit_script.specs.declared.commands.LineFault.{LineFault}
use Rattle.edit_script.specs.declared.commands.LineFault.TheVariants.{UnknownCommand, BadCount, BadNumber}
use Rattle.talk_run.specs.declared.commands.Chains.{Chains}
use Rattle.talk_run.specs.declared.commands.TalkCommand.{TalkCommand}
use Rattle.talk_run.specs.declared.commands.TalkCommand.TheVariants as command

-- a depth and a budget that a repair may have
abbrev pub are_chains : Chains → Bool
are_chains c = nat_le 1 c.depth && nat_le c.depth CHAIN_MOVES && nat_le 1 c.budget && nat_le c.budget BUDGET

-- a repair by chains, where there are such
abbrev pub chains_by : Chains → Result TalkCommand LineFault
chains_by c = if are_chains c then Ok (command.Repair c) else Err BadNumber

-- the depth, the budget and the diversifier, in this order
abbrev pub chains_of : List ℕ → Chains
chains_of ns = record { depth = get_or ns 0 0; budget = get_or ns 1 0; diversifier = get_or ns 2 0 }

-- the words after `repair`
abbrev pub repair_by : List (List ℕ) → Result TalkCommand LineFault
repair_by rest =
    if length rest == 3 then option_map_or (λ ns. chains_by (chains_of ns)) (numbers rest) (Err BadNumber)
    else Err BadCount

-- no word stands after `archive`
abbrev pub archive_by : List (List ℕ) → Result TalkCommand LineFault
archive_by rest = if length rest == 0 then Ok command.Archive else Err BadCount

-- what words say that no command of scripts begins
abbrev pub by_more : List (List ℕ) → Result TalkCommand LineFault
by_more [] = Err UnknownCommand
by_more (word ∷ rest) =
    if bytes_eq (codes "repair") word then repair_by rest else if bytes_eq (codes "archive") word
    then archive_by rest else Err UnknownCommand

-- what words say, where they say this in a script
abbrev pub with_more : Result Command LineFault → List (List ℕ) → Result TalkCommand LineFault
with_more (Ok c) ws = Ok (command.Base c)
with_more (Err UnknownCommand) ws = by_more ws
with_more (Err BadCount) ws = Err BadCount
with_more (Err BadNumber) ws = Err BadNumber

unfoldable pub talk_reading : List ℕ → Result TalkCommand LineFault
talk_reading line = with_more (reading line) (words line)

-- the chains of a command are such as a repair may have
abbrev pub IsFit : TalkCommand → Type 0
IsFit (command.Base c) = Unit {0}
IsFit (command.Repair c) = IsTrue (are_chains c)
IsFit command.Archive = Unit {0}
