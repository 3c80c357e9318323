use Rattle.std.proofs.Common.{◌≡◌, ◌++◌, map, drop, All}
use Rattle.khe_instance.specs.States.{IsGiven}
use Rattle.xhstt_entries.specs.Spelled.{entries_of, entry_of}
use Rattle.xhstt_entries.proofs.Own.{Stands}
use Rattle.xhstt_entries.proofs.spelling.entries.Given as goal

-- what is made and what the rest will make is the whole, and the rest of the duties is that of the rest of
-- the meets
abbrev pub invariant-loop-meet : goal.invariant-loop-meet
invariant-loop-meet l = record {
  made : l.entries ++ map (entry_of l.inst l.rest) (drop l.meet-index l.meets) ≡ entries_of l.inst l.plain;
  stands : Stands l.inst (drop l.meet-index l.meets) l.rest;
  given : All (IsGiven l.inst) l.rest;
}
