-- A state is the one that its plain lists give.
use Rattle.std.proofs.Common.{ℕ, ◌≡◌, ◌+◌, ◌<◌, ◌≤◌, nat_lt, true, Option, Some, None, List, [], ◌∷◌, ◌++◌, length}
use Rattle.std.proofs.Common.{get_or, drop, refl, sym, ap, ◌∙◌}
use Rattle.std.specs.Prelude.{is_some}
use Rattle.std.specs.List.{cons_option}
use Rattle.std.proofs.lemmas.Bool.{and_from, lt-ltb}
use Rattle.std.proofs.lemmas.List.{append-nil, append_assoc, at_drop_all, at_drop_more}
use Rattle.std.proofs.lemmas.List.Concat.{flat_map-cons}
use Rattle.khe_base.specs.declared.numbers.ResourceId.{ResourceId}
use Rattle.khe_instance.specs.States.{IsValid}
use Rattle.khe_instance.specs.WellMade.{AreWellMade}
use Rattle.khe_instance.specs.declared.parts.Parts.{Parts}
use Rattle.khe_instance.specs.declared.states.Meet.{Meet}
use Rattle.khe_instance.specs.declared.states.Plain.{Plain}
use Rattle.khe_instance.specs.declared.states.Task.{Task}
use Rattle.khe_told.proofs.ValidLaws.{listed_valid}
use Rattle.khe_told.specs.Lists.{meet_in, meets_in, tasks_in, tasks_of, tasks_with}
use Rattle.khe_told.specs.Slots.{is_live, no_slot, slot_at}
use Rattle.khe_told.specs.Valid.{AreValid}
use Rattle.khe_told.specs.declared.slots.Slot.{Slot}
use Rattle.monitor_graph.proofs.ListedLaws.{listed_attached, listed_groups, listed_kept}
use Rattle.monitor_graph.proofs.ValueLaws.{as_many}
use Rattle.monitor_graph.specs.Boards.{Board, grouping_of}
use Rattle.monitor_graph.specs.Groups.{AreGroups}
use Rattle.monitor_graph.specs.Listed.{detached_from, groups_from}
use Rattle.monitor_graph.specs.Values.{IsOf}
use Rattle.khe_solution.specs.Reading.{has_place}
use Rattle.khe_engine.proofs.OpeningLaws.{span_is}
use Rattle.khe_engine.specs.Openings.{IsStateOf}
use Rattle.khe_engine.specs.States.{state_of}

-- where nothing is left, what is listed is the whole
pub listed_end : {A B : Type 0} (f : List A → List B) (made whole : List B) (k : ℕ) (s : List A) → f [] ≡ []
    → length s ≤ k → made ++ f (drop k s) ≡ whole → made ≡ whole
listed_end f made whole k s none l w = sym (append-nil made) ∙ ap (λ xs. made ++ xs) (sym (at_drop_all f s k l ∙ none))
    ∙ w

-- one more slot's meet
one_meet : (o : Option Meet) (rest : List Meet) → cons_option o [] ++ rest ≡ cons_option o rest
one_meet None rest = refl
one_meet (Some m) rest = refl

pub meets_next : (made more whole : List Meet) (k : ℕ) (s : List Slot) (o : Option Meet) → k < length s
    → o ≡ meet_in (slot_at s k) → more ≡ made ++ cons_option o []
    → made ++ meets_in (drop k s) ≡ whole → more ++ meets_in (drop (k + 1) s) ≡ whole
meets_next made more whole k s o l is m w =
    let rest = meets_in (drop (k + 1) s) in
    ap (λ ms. ms ++ rest) m ∙ append_assoc made (cons_option o []) rest
    ∙ ap (λ ms. made ++ ms) (one_meet o rest ∙ ap (λ x. cons_option x rest) is
    ∙ sym (at_drop_more meets_in s k no_slot l))
    ∙ w

-- one more slot's tasks
pub tasks_next : (made more whole : List Task) (k : ℕ) (s : List Slot) → k < length s
    → more ≡ made ++ tasks_of (slot_at s k)
    → made ++ tasks_in (drop k s) ≡ whole → more ++ tasks_in (drop (k + 1) s) ≡ whole
tasks_next made more whole k s l m w =
    let rest = tasks_in (drop (k + 1) s) in
    ap (λ ts. ts ++ rest) m ∙ append_assoc made (tasks_of (slot_at s k)) rest
    ∙ ap (λ ts. made ++ ts) (sym (flat_map-cons tasks_of (slot_at s k) (drop (k + 1) s))
    ∙ sym (at_drop_more tasks_in s k no_slot l))
    ∙ w

-- a place of a meet
pub place_is : (x : Slot) (m : Meet) (k : ℕ) → meet_in x ≡ Some m → k < length x.given → has_place x k ≡ true
place_is x m k h l = and_from (is_live x) (nat_lt k (length x.given)) (ap is_some (span_is x m h))
    (lt-ltb k (length x.given) l)

-- one more place's task
pub task_next : (made more whole : List Task) (m : Meet) (k : ℕ) (given : List (Option ResourceId))
    (r : Option ResourceId) → k < length given → r ≡ get_or given k None
    → more ≡ made ++ record { task = record { meet = m.meet; place = k }; resource = r } ∷ []
    → made ++ tasks_with m k (drop k given) ≡ whole → more ++ tasks_with m (k + 1) (drop (k + 1) given) ≡ whole
task_next made more whole m k given r l is e w =
    let here : Option ResourceId → Task = λ o. record { task = record { meet = m.meet; place = k }; resource = o } in
    let rest = tasks_with m (k + 1) (drop (k + 1) given) in
    ap (λ ts. ts ++ rest) e ∙ append_assoc made (here r ∷ []) rest
    ∙ ap (λ ts. made ++ ts) (ap (λ o. here o ∷ rest) is ∙ sym (at_drop_more (tasks_with m k) given k None l))
    ∙ w

-- the lists of a state are those of a valid timetable, and it is the state that they give
pub record AreListed (s : List Slot) (b : Board) (plain : Plain) : Type 0 where
  pub meets : plain.meets ≡ meets_in s
  pub tasks : plain.tasks ≡ tasks_in s
  pub detached : plain.detached ≡ detached_from 0 (grouping_of b).attached
  pub groups : plain.groups ≡ groups_from 0 b.groups

pub listed_state : (p : Parts) (s : List Slot) (b : Board) (plain : Plain) → AreValid p s → IsOf b p
    → AreGroups (length b.lines) b.groups → AreListed s b plain → IsStateOf p plain (state_of s b)
listed_state p s b plain v of g l =
    let attached = listed_attached p b plain (as_many b p of) l.detached in
    let groups = listed_groups b plain g.numbers l.groups in
    record {
      told = v.told;
      meets = sym l.meets;
      tasks = sym l.tasks;
      grouping = λ i. record { attached = attached i; groups = groups i };
    }

pub listed_whole : (p : Parts) (s : List Slot) (b : Board) (plain : Plain) → AreWellMade p → AreValid p s → IsOf b p
    → AreGroups (length b.lines) b.groups → AreListed s b plain → IsValid p plain
listed_whole p s b plain made v of g l = listed_valid p s plain made v l.meets l.tasks
    (listed_kept p b plain (as_many b p of) g l.detached l.groups)
