-- The rules of parts are in range.
use Rattle.std.proofs.Common.{ℕ, ◌≡◌, ◌<◌, ◌≤◌, List, [], ◌∷◌, length, map, sym, ◌∙◌, arith, All, get_or}
use Rattle.std.proofs.lemmas.List.{length-map}
use Rattle.std.proofs.lemmas.List.Elements.{All-nil, All-cons, All-head, All-tail, All-map}
use Rattle.khe_base.proofs.ListLemmas.{none_of, none-each}
use Rattle.khe_base.specs.declared.limits.TheConstants.{LISTED}
use Rattle.khe_instance.specs.WellMade.{AreBounds, AreListed, IsTimes, IsRule, IsConstraint}
use Rattle.khe_instance.specs.declared.rules.EventPair.{EventPair}
use Rattle.khe_instance.specs.declared.rules.Spread.{Spread}
use Rattle.xhstt_references.specs.Ids.{event_ids}
use Rattle.xhstt_references.specs.References.{unknown, unknown_in_pair, unknown_in_applies, unknown_in_constraint}
use Rattle.xhstt_resolve.specs.Limits.{listed_groups}
use Rattle.xhstt_resolve.specs.Members.{time_set, times_in, listed_resources, listed_times}
use Rattle.xhstt_resolve.specs.Parts.{constraint_of, events_from, parts_of, resource_of}
use Rattle.xhstt_resolve.specs.Rules.{group_set, group_sets, pair_of, pairs_of, rule_of, spread_of}
use Rattle.xhstt_shape.specs.WellFormed as shape
use Rattle.xhstt_resolve.proofs.WellMadeFaults.{IsFaultless, IsWithin}
use Rattle.xhstt_resolve.proofs.WellMadeLists.{length-set_of}
use Rattle.xhstt_resolve.proofs.WellMadeParts.{event_known}
use Rattle.xhstt_shape.specs.declared.constraints.RawApplies.{RawApplies}
use Rattle.xhstt_shape.specs.declared.constraints.RawApplies.TheVariants.{Events, Groups, Pairs, Resources}
use Rattle.xhstt_shape.specs.declared.constraints.RawConstraint.{RawConstraint}
use Rattle.xhstt_shape.specs.declared.constraints.RawPair.{RawPair}
use Rattle.xhstt_shape.specs.declared.constraints.RawRule.{RawRule}
use Rattle.xhstt_shape.specs.declared.constraints.RawRule.TheVariants.{AssignTime, AssignResource, SplitEvents}
use Rattle.xhstt_shape.specs.declared.constraints.RawRule.TheVariants.{DistributeSplitEvents, PreferTimes}
use Rattle.xhstt_shape.specs.declared.constraints.RawRule.TheVariants.{PreferResources, AvoidSplitAssignments}
use Rattle.xhstt_shape.specs.declared.constraints.RawRule.TheVariants.{SpreadEvents, LinkEvents, OrderEvents}
use Rattle.xhstt_shape.specs.declared.constraints.RawRule.TheVariants.{AvoidClashes, AvoidUnavailableTimes}
use Rattle.xhstt_shape.specs.declared.constraints.RawRule.TheVariants.{LimitIdleTimes, ClusterBusyTimes, LimitBusyTimes}
use Rattle.xhstt_shape.specs.declared.constraints.RawRule.TheVariants.{LimitWorkload}
use Rattle.xhstt_shape.specs.declared.constraints.RawSpread.{RawSpread}
use Rattle.xhstt_shape.specs.declared.records.RawInstance.{RawInstance}
use Rattle.xhstt_shape.specs.declared.records.Ref.{Ref}
use Rattle.xhstt_references.specs.Directories.{directory_of}

times_sized : (i : RawInstance) (numbers : List ℕ) → IsTimes (parts_of i) (time_set i numbers)
times_sized i numbers = length-set_of (length i.times) numbers ∙ sym (length-map i.times (λ t. t.id.text))

group_timed : (i : RawInstance) (group : Ref) → IsTimes (parts_of i) (group_set i group)
group_timed i group = times_sized i (times_in i group.id)

groups_listed : (i : RawInstance) (groups : List Ref) → length groups ≤ LISTED
    → AreListed (parts_of i) (group_sets i groups)
groups_listed i groups few = (
  All-map (IsTimes (parts_of i)) (group_set i) groups (λ k d l. group_timed i (get_or groups k d)),
  omega
      (arith, few, length-map groups (group_set i)),
)

abbrev IsPairMade : RawInstance → EventPair → Type 0
IsPairMade i q = (q.first.0 < length (events_from i 0 i.events)) × (q.second.0 < length (events_from i 0 i.events))
    × AreBounds q.min q.max

bounds : (least greatest : ℕ) → shape.AreBounds least greatest → AreBounds least greatest
bounds least greatest is = (omega (arith, is.0), omega (arith, is.1))

pair_made : (i : RawInstance) (p : RawPair) → unknown_in_pair (directory_of i) p ≡ [] → shape.IsPair p
    → IsPairMade i (pair_of i p)
pair_made i p none form =
    let parts = none_of (unknown (event_ids i) (p.first ∷ [])) (unknown (event_ids i) (p.second ∷ [])) none in
    (event_known i p.first parts.0, event_known i p.second parts.1, bounds p.min p.max form)

pairs_made : (i : RawInstance) (applies : RawApplies) → shape.ArePairs applies
    → unknown_in_applies (directory_of i) applies ≡ [] → All (IsPairMade i) (pairs_of i applies)
pairs_made i (Events groups events) form none = absurd form
pairs_made i (Groups groups) form none = absurd form
pairs_made i (Resources groups resources) form none = absurd form
pairs_made i (Pairs pairs) form none =
    let each = none-each (unknown_in_pair (directory_of i)) pairs none in
    All-map (IsPairMade i) (pair_of i) pairs (λ k d l. pair_made i _ (each k d l) (form k d l))

spreads_made : (i : RawInstance) (groups : List RawSpread) → All shape.IsSpread groups
    → All (λ (s : Spread). IsTimes (parts_of i) s.group × AreBounds s.min s.max) (map (spread_of i) groups)
spreads_made i groups form =
    All-map (λ (s : Spread). IsTimes (parts_of i) s.group × AreBounds s.min s.max) (spread_of i) groups
    (λ k d l. let s = get_or groups k d in (group_timed i s.reference, bounds s.min s.max (form k d l)))

rule_made : (i : RawInstance) (applies : RawApplies) (rule : RawRule) → shape.IsRule rule → shape.FitsRule rule applies
    → unknown_in_applies (directory_of i) applies ≡ [] → listed_groups rule ≤ LISTED
    → IsRule (parts_of i) (rule_of i applies rule)
rule_made i applies AssignTime form fits none few = tt
rule_made i applies (AssignResource role) form fits none few = tt
rule_made i applies (SplitEvents a b c d) form fits none few = (bounds a b form.0, bounds c d form.1)
rule_made i applies (DistributeSplitEvents d least greatest) form fits none few =
    (form.0, bounds least greatest form.1)
rule_made i applies (PreferTimes groups times duration) form fits none few =
    (times_sized i (listed_times i groups times), form)
rule_made i applies (PreferResources groups resources role) form fits none few =
    length-set_of (length i.resources) (listed_resources i groups resources)
    ∙ sym (length-map i.resources (resource_of i))
rule_made i applies (AvoidSplitAssignments role) form fits none few = tt
rule_made i applies (SpreadEvents groups) form fits none few =
    (spreads_made i groups form, omega (arith, few, length-map groups (spread_of i)))
rule_made i applies LinkEvents form fits none few = tt
rule_made i applies OrderEvents form fits none few = pairs_made i applies fits none
rule_made i applies AvoidClashes form fits none few = tt
rule_made i applies (AvoidUnavailableTimes groups times) form fits none few =
    times_sized i (listed_times i groups times)
rule_made i applies (LimitIdleTimes groups least greatest) form fits none few =
    (groups_listed i groups few, bounds least greatest form)
rule_made i applies (ClusterBusyTimes groups least greatest) form fits none few =
    (groups_listed i groups few, bounds least greatest form)
rule_made i applies (LimitBusyTimes groups least greatest) form fits none few =
    (groups_listed i groups few, bounds least greatest form)
rule_made i applies (LimitWorkload least greatest) form fits none few = bounds least greatest form

-- a list of numbers that come from elements, in the limit
listed_each : (cs : List RawConstraint) → All (λ n. n ≤ LISTED) (map (λ (c : RawConstraint). listed_groups c.rule) cs)
    → All (λ c. listed_groups c.rule ≤ LISTED) cs
listed_each [] all = All-nil (λ (c : RawConstraint). listed_groups c.rule ≤ LISTED)
listed_each (c ∷ cs) all =
    let rest = map (λ (x : RawConstraint). listed_groups x.rule) cs in
    All-cons (λ (x : RawConstraint). listed_groups x.rule ≤ LISTED) c cs
    (All-head (λ n. n ≤ LISTED) (listed_groups c.rule) rest all)
    (listed_each cs (All-tail (λ n. n ≤ LISTED) (listed_groups c.rule) rest all))

constraint_made : (i : RawInstance) (c : RawConstraint) → shape.IsConstraint c
    → unknown_in_constraint (directory_of i) c ≡ [] → listed_groups c.rule ≤ LISTED
    → IsConstraint (parts_of i) (constraint_of i c)
constraint_made i c form none few = record {
  weight = omega (arith, form.weight);
  rule =
      rule_made i c.applies c.rule form.rule form.applies
      (none_of (unknown_in_applies (directory_of i) c.applies) _ none).0 few;
}

pub constraints_made : (i : RawInstance) → IsFaultless i → IsWithin i → shape.IsInstance i
    → All (IsConstraint (parts_of i)) (map (constraint_of i) i.constraints)
constraints_made i sound small formed =
    let few = listed_each i.constraints small.listed in
    All-map (IsConstraint (parts_of i)) (constraint_of i) i.constraints
    (λ k d l. constraint_made i _ (formed.constraints k d l) (sound.in_constraints k d l) (few k d l))
