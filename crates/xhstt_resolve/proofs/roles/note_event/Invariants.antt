-- What the lists hold so far, with what the event resources that are left bring, is the whole.
use Rattle.std.proofs.Common.{◌≡◌, ◌++◌, drop, length, map, List, ℕ}
use Rattle.xhstt_resolve.specs.Members.{numbers_from, numbers_where}
use Rattle.xhstt_resolve.specs.Points.{has_role}
use Rattle.xhstt_resolve.specs.Roles.{held, role_place}
use Rattle.xhstt_resolve.proofs.roles.note_event.Given as goal

abbrev pub invariant-loop-place : goal.invariant-loop-place
invariant-loop-place l = record {
  whole : length l.names ≡ length l.lists.items;
  added : (role : List ℕ) → held l.names l.lists.items role
      ++ map (role_place l.event) (numbers_from (has_role role) l.place (drop l.place l.resources))
      ≡ held l.fn.names l.fn.lists.items role ++ map (role_place l.event) (numbers_where (has_role role) l.resources);
}
