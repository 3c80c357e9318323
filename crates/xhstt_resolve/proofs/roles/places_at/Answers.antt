-- What stands between the two searches.
use Rattle.std.proofs.Common.{◌∙◌, ◌≡◌, ◌≤◌, sym, ap, subst, ltb, leb, true, false, length, take, rules}
use Rattle.std.specs.List.Sorted.{IsNonDecreasingBy, IsPartitionPoint}
use Rattle.std.proofs.lemmas.List.Sorted.{IsPartitionPoint-from_clause, IsPartitionedBy-leb, IsPartitionedBy-ltb}
use Rattle.std.proofs.lemmas.List.Sorted.{IsNonDecreasingBy-drop}
use Rattle.xhstt_resolve.proofs.RolesLemmas.{between, event_in}
use Rattle.xhstt_resolve.proofs.roles.places_at.Goals as goal

pub returns : goal.returns
returns c =
    let ps = c.args.places.now in
    let e = c.args.event in
    let start = c.partition_point-start.result in
    let end = c.partition_point-end.result in
    let back = c.split_at.ensures.back in
    let low = IsPartitionPoint-from_clause (λ p. ltb p.event e) ps start c.partition_point-start.ensures.partitioned
    (IsPartitionedBy-ltb event_in ps e c.requires) (λ a r f k. search rules) in
    let up = subst (IsNonDecreasingBy event_in) (sym back) (IsNonDecreasingBy-drop event_in start ps c.requires) in
    let high = IsPartitionPoint-from_clause (λ p. leb p.event e) c.split_at.result.1.now end
    c.partition_point-end.ensures.partitioned (IsPartitionedBy-leb event_in c.split_at.result.1.now e up)
    (λ a r f k. search rules) in
    c.split_at-2.ensures.front
    ∙ ap (take end) back
    ∙ between ps e start end low c.partition_point-start.ensures.bound
    (subst (λ qs. IsPartitionPoint (λ p. leb p.event e ≡ true) (λ p. leb p.event e ≡ false) qs end) back high)
    (subst (λ qs. end ≤ length qs) back c.partition_point-end.ensures.bound)
