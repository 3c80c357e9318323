-- What the lists hold so far, with what the events that are left bring, is the whole.
use Rattle.std.proofs.Common.{◌≡◌, ◌++◌, drop, length, List, ℕ}
use Rattle.xhstt_resolve.specs.Roles.{held, places_from, places_with}
use Rattle.xhstt_resolve.proofs.roles.roles_of.Given as goal

abbrev pub invariant-loop-event : goal.invariant-loop-event
invariant-loop-event l = record {
  whole : length l.names ≡ length l.lists.items;
  added : (role : List ℕ) → held l.names l.lists.items role ++ places_from role l.event (drop l.event l.instance.events)
      ≡ places_with l.instance role;
}
