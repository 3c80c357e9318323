-- A graph whose families serve every kind has the values of the slots that these were told.
use Rattle.std.proofs.Common.{ℕ, ◌≡◌, ◌<◌, Some, List, length, map, get_or}
use Rattle.std.proofs.Common.{slice_get, sym, ap, ◌∙◌, arith}
use Rattle.std.specs.Prelude.{Bool, false, not, true}
use Rattle.std.specs.Option.{option_map}
use Rattle.std.proofs.lemmas.Grind.{same_number_lists}
use Rattle.std.proofs.lemmas.List.{length-map}
use Rattle.std.proofs.lemmas.Option.{get_or_from_slice_get, slice_get-map}
use Rattle.std.proofs.lemmas.Simd.{map-map}
use Rattle.khe_base.proofs.ListLemmas.{there}
use Rattle.khe_base.specs.declared.sums.Totals.{Totals}
use Rattle.khe_instance.specs.Costs.{costs_of, totals_of}
use Rattle.khe_instance.specs.declared.parts.Parts.{Parts}
use Rattle.khe_instance.specs.declared.points.Monitor.{Monitor}
use Rattle.khe_told.specs.Agreement.{deviation_in}
use Rattle.khe_told.specs.declared.edits.Edit.{Edit}
use Rattle.khe_told.specs.declared.slots.Slot.{Slot}
use Rattle.monitor_graph.specs.Boards.{Board, HaveSameRest, KeepsValues, deviations_of, fixed_of, grouping_of, rate_of}
use Rattle.monitor_graph.specs.Edits.{is_attached}
use Rattle.monitor_graph.specs.Edits as groups
use Rattle.monitor_graph.specs.Values.{IsOf, costs_in}
use Rattle.monitor_graph.specs.declared.lines.Line.{Line}
use Rattle.khe_engine.specs.States.{HaveSameGroups, State, attaches, edited, state_of}
use Rattle.khe_engine.specs.Values.{HasValues, costs, deviations_in, totals}
use Rattle.khe_engine.proofs.StateLaws.{edited_groups, same_attached}

-- they are those of the slots, and what are those of the slots are the values
pub value_at : (p : Parts) (s : List Slot) (b : Board) (i : ℕ) (m : Monitor) → HasValues p s b
    → slice_get p.monitors i ≡ Some m
    → slice_get (deviations_of b) i ≡ Some (deviation_in p s m)
unfolding deviations_in
value_at p s b i m h at = ap (λ ds. slice_get ds i) h.deviations ∙ slice_get-map (deviation_in p s) p.monitors i
    ∙ ap (option_map (deviation_in p s)) at

pub values_all : (p : Parts) (s : List Slot) (ds : List ℕ) → length ds ≡ length p.monitors
    → ((i : ℕ) (m : Monitor) → slice_get p.monitors i ≡ Some m → slice_get ds i ≡ Some (deviation_in p s m))
    → ds ≡ deviations_in p s
unfolding deviations_in
values_all p s ds many each =
    let long = length-map p.monitors (deviation_in p s) in
    same_number_lists ds (map (deviation_in p s) p.monitors) (many ∙ sym long) (λ k l.
    let t = there p.monitors k (omega (arith, l, many)) in
    let d = deviation_in p s t.value in
    get_or_from_slice_get ds k d 0 (each k t.value t.found)
    ∙ sym (get_or_from_slice_get (map (deviation_in p s) p.monitors) k d 0
    (slice_get-map (deviation_in p s) p.monitors k ∙ ap (option_map (deviation_in p s)) t.found)))

-- a graph with such deviations, which is else one of the instance, has the values
pub all_set : (p : Parts) (s : List Slot) (b b2 : Board) → IsOf b p → HaveSameRest b b2
    → length (deviations_of b2) ≡ length p.monitors
    → ((i : ℕ) (m : Monitor) → slice_get p.monitors i ≡ Some m
    → slice_get (deviations_of b2) i ≡ Some (deviation_in p s m)) → HasValues p s b2
all_set p s b b2 of same many each = record {
  deviations = values_all p s (deviations_of b2) many each;
  rates = sym (sym (map-map rate_of fixed_of b.lines) ∙ ap (map rate_of) same.lines ∙ map-map rate_of fixed_of b2.lines)
      ∙ of;
}

-- after an edit of monitors and groups, and after more room
pub values_kept : (p : Parts) (s : List Slot) (b b2 : Board) → HasValues p s b → KeepsValues b b2 → HasValues p s b2
values_kept p s b b2 h k = record { deviations = k.deviations ∙ h.deviations; rates = k.rates ∙ h.rates }

pub values_same : (p : Parts) (s : List Slot) (b b2 : Board) → HasValues p s b → b2.lines ≡ b.lines → HasValues p s b2
values_same p s b b2 h e = record {
  deviations = ap (map (λ (x : Line). x.deviation)) e ∙ h.deviations;
  rates =
      ap (map rate_of) e ∙ h.rates;
}

-- all but the deviations stays
pub same_groups : (a b : Board) → HaveSameRest a b → HaveSameGroups a b
same_groups a b h = record {
  grouping = λ i. record {
    attached = (sym (map-map (λ (x : Line). x.attached) fixed_of a.lines) ∙ ap (map (λ (x : Line). x.attached)) h.lines
        ∙ map-map (λ (x : Line). x.attached) fixed_of b.lines) i;
    groups = h.groups i;
  };
  marked = h.marked;
  seats = h.seats;
}

-- what the graph answers, of the state
pub value_is : (p : Parts) (s : List Slot) (b : Board) (m r : ℕ) → HasValues p s b → m < length p.monitors
    → r ≡ get_or (deviations_of b) m 0
    → option_map (deviation_in p s) (slice_get p.monitors m) ≡ Some r
unfolding deviations_in
value_is p s b m r h l e =
    let t = there p.monitors m l in
    let d = deviation_in p s t.value in
    let at = slice_get-map (deviation_in p s) p.monitors m ∙ ap (option_map (deviation_in p s)) t.found in
    ap (option_map (deviation_in p s)) t.found
    ∙ ap Some (sym (get_or_from_slice_get (map (deviation_in p s) p.monitors) m d 0 at)
    ∙ sym (ap (λ ds. get_or ds m 0) h.deviations) ∙ sym e)

pub costs_same : (p : Parts) (s : List Slot) (b : Board) → HasValues p s b → costs_in p b ≡ costs p (state_of s b)
costs_same p s b h = ap (costs_of p (λ n. not (is_attached (grouping_of b) n))) h.deviations

-- the totals of a graph of these slots; and groups have no part in them
pub totals_same : (p : Parts) (s : List Slot) (b : Board) (t : Totals) → HasValues p s b
    → t ≡ totals_of p (costs_in p b) → t ≡ totals p (state_of s b)
totals_same p s b t h e = e ∙ ap (totals_of p) (costs_same p s b h)

pub totals_grouped : (p : Parts) (s : State) (e : Edit) → groups.is_of_groups e ≡ true → attaches e ≡ false
    → totals p s ≡ totals p (edited s e)
totals_grouped p s e ours none =
    ap (λ (xs : List Bool). totals_of p (costs_of p (λ n. not (get_or xs n false)) (deviations_in p s.slots)))
    (sym (same_attached s.grouping e none))
    ∙ ap (totals p) (sym (edited_groups s e ours))
