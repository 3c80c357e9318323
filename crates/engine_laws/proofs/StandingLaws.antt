-- The states of an engine stand: the one that it is opened with, and the one after each accepted edit.
use Rattle.std.proofs.Common.{ℕ, zero, suc, ◌≡◌, ◌≢◌, ◌≤◌, ◌<◌, ◌+◌, ◌-◌, drop, inl, inr, Bool, true, false, cond, Option}
use Rattle.std.proofs.Common.{Some, None, List, [], ◌∷◌, ◌++◌, length, refl, sym, ap, subst, ◌∙◌, arith, set}
use Rattle.std.proofs.Common.{get_or}
use Rattle.std.specs.Prelude.{◌==◌, not, All, AllPairs}
use Rattle.std.specs.List.{find}
use Rattle.std.specs.Option.{option_map}
use Rattle.std.proofs.lemmas.Bool.{both_ways, cases_eq, cases_lt, eqb-true, ne_eqb}
use Rattle.std.proofs.lemmas.List.{length-set}
use Rattle.std.proofs.lemmas.List.Elements.{All-from_get_or, All-head, All-tail}
use Rattle.std.proofs.lemmas.List.Folds.{list_any_none}
use Rattle.std.proofs.lemmas.List.FromFn.{length-map-range_with_len}
use Rattle.std.proofs.lemmas.List.Sums.{sum_by-cons, sum_by-remove, sum_by_push}
use Rattle.std.proofs.lemmas.Option.{slice_get-get_or, slice_get_past, slice_get_within}
use Rattle.engine_laws.specs.Standing.{SavedStand, Stands}
use Rattle.khe_base.proofs.ListLemmas.{all-there, get-other, get-set}
use Rattle.khe_base.specs.declared.limits.TheConstants.{GROUPS}
use Rattle.khe_base.specs.declared.numbers.MonitorId.{MonitorId}
use Rattle.khe_engine.proofs.StateLaws.{edited_groups, edited_meets, other_sort, refusal_groups, refusal_meets}
use Rattle.khe_engine.specs.Openings.{IsStateOf}
use Rattle.khe_engine.specs.States.{State, edited, refusal}
use Rattle.khe_engine.specs.Worlds.{Saved, around, closed, fresh, from_mark, grown, last_saved}
use Rattle.khe_instance.specs.Evaluated.{is_detached}
use Rattle.khe_instance.specs.States.{IsGroup, IsValid}
use Rattle.khe_instance.specs.WellMade.{AreWellMade}
use Rattle.khe_instance.specs.declared.parts.Parts.{Parts}
use Rattle.khe_instance.specs.declared.states.Group.{Group}
use Rattle.khe_instance.specs.declared.states.Plain.{Plain}
use Rattle.khe_solution.proofs.EditLaws.{edit_slots, edit_valid}
use Rattle.khe_solution.proofs.OpenLaws.{open_valid}
use Rattle.khe_told.specs.Valid.{AreValid}
use Rattle.khe_told.specs.declared.changes.Change.{Change}
use Rattle.khe_told.specs.declared.edits.Edit.{Edit}
use Rattle.khe_told.specs.declared.edits.Edit.TheVariants.{Assign, Unassign, MoveTo, Split, Merge, SwapMeets, Give}
use Rattle.khe_told.specs.declared.edits.Edit.TheVariants.{Take, Regive, SwapTasks, Attach, Detach, MakeGroup}
use Rattle.khe_told.specs.declared.edits.Edit.TheVariants.{DropGroup, AddChild, RemoveChild}
use Rattle.monitor_graph.proofs.EditLaws.{add_known, drop_known, make_known, remove_known}
use Rattle.monitor_graph.proofs.OpenLaws.{at_number, group_of, long_numbered}
use Rattle.monitor_graph.proofs.SeatLaws.{among_no, among_yes, child_in_group, child_place, group_is, listed, yes_among}
use Rattle.monitor_graph.specs.Boards.{Grouping}
use Rattle.monitor_graph.specs.Edits as groups
use Rattle.monitor_graph.specs.Groups.{AreGroups, Groups, children_at, free_number, is_among, occurs, place_of, without}
use Rattle.monitor_graph.specs.Opened.{numbered_groups}

-- children of a group: each is one of n monitors, and stands there once
abbrev AreChildren : ℕ → List MonitorId → Type 0
AreChildren n xs = ((m : ℕ) → is_among m xs ≡ true → m < n) × ((m : ℕ) → occurs m xs ≤ 1)

no_children : (n : ℕ) → AreChildren n []
no_children n = (λ m h. absurd (both_ways false refl h), λ m. omega arith)

each_child : (n : ℕ) (gs : Groups) → AreGroups n gs → (k : ℕ) → AreChildren n (children_at gs k)
each_child n gs v k = (λ m h. v.known k m h, λ m. v.once k m)

-- one group is another
put_each : (n : ℕ) (gs : Groups) (g : ℕ) (o : Option (List MonitorId)) → AreGroups n gs → g < length gs
    → AreChildren n (listed (Some o)) → (k : ℕ) → AreChildren n (children_at (set gs g o) k)
put_each n gs g o v l new k = elim (cases_eq g k) [
  | inl e ↦ subst (AreChildren n)
      (sym (ap (λ j. children_at (set gs g o) j) (sym e) ∙ ap listed (get-set gs g o l))) new
  | inr d ↦ subst (AreChildren n) (sym (ap listed (get-other gs g k o d))) (each_child n gs v k)
]

put : (n : ℕ) (gs : Groups) (g : ℕ) (o : Option (List MonitorId)) → AreGroups n gs → g < length gs
    → AreChildren n (listed (Some o)) → AreGroups n (set gs g o)
put n gs g o v l new =
    let each = put_each n gs g o v l new in
    record {
      numbers = length-set gs g o ∙ v.numbers;
      known = λ k m h. (each k).0 m h;
      once = λ k m. (each k).1 m;
    }

-- a child more
one_more : (n : ℕ) (xs : List MonitorId) (v : MonitorId) → AreChildren n xs → v.0 < n → is_among v.0 xs ≡ false
    → AreChildren n (xs ++ v ∷ [])
one_more n xs v h low fresh =
    (λ m a. known m (v.0 == m) refl (counted m) (among_yes m (xs ++ v ∷ []) a), λ m. once m (v.0 == m) refl (counted m))
  where
    counted : (m : ℕ) → occurs m (xs ++ v ∷ []) ≡ occurs m xs + cond (v.0 == m) 1 0
    counted m = sum_by_push (λ (c : MonitorId). cond (c.0 == m) 1 0) xs v

    known : (m : ℕ) (t : Bool) → (v.0 == m) ≡ t → occurs m (xs ++ v ∷ []) ≡ occurs m xs + cond t 1 0
        → 0 < occurs m (xs ++ v ∷ []) → m < n
    known m true e c l = subst (λ k. k < n) (eqb-true v.0 m e) low
    known m false e c l = h.0 m (yes_among m xs (omega (arith, c, l)))

    once : (m : ℕ) (t : Bool) → (v.0 == m) ≡ t → occurs m (xs ++ v ∷ []) ≡ occurs m xs + cond t 1 0
        → occurs m (xs ++ v ∷ []) ≤ 1
    once m true e c =
        let z = subst (λ k. occurs k xs ≡ 0) (eqb-true v.0 m e) (among_no v.0 xs fresh) in omega (arith, c, z)
    once m false e c = let l = h.1 m in omega (arith, c, l)

-- a child less
one_less : (n : ℕ) (xs : List MonitorId) (v : MonitorId) → AreChildren n xs → is_among v.0 xs ≡ true
    → AreChildren n (without v.0 xs)
one_less n xs v h there = (
  λ m a. h.0 m (yes_among m xs (let l = among_yes m (without v.0 xs) a in let k = less m in omega (arith, k, l))),
  λ m. let k = less m in let l = h.1 m in omega (arith, k, l),
)
  where
    less : (m : ℕ) → occurs m (without v.0 xs) ≤ occurs m xs
    less m =
        let p = child_place xs v.0 v there in
        let a = sum_by-remove (λ (c : MonitorId). cond (c.0 == m) 1 0) xs (place_of v.0 xs) v p.0 in
        omega (arith, a)

-- after an accepted edit of monitors and groups
abbrev KeepsMonitors : ℕ → Grouping → Type 0
KeepsMonitors n s = (length s.attached ≡ n) × AreGroups n s.groups

group_edit : (n : ℕ) (s : Grouping) (e : Edit) → length s.attached ≡ n → AreGroups n s.groups
    → groups.is_of_groups e ≡ true → groups.refusal s e ≡ None → KeepsMonitors n (groups.edited s e)
group_edit n s (Attach m) l v o h = (length-set s.attached m.0 true ∙ l, v)
group_edit n s (Detach m) l v o h = (length-set s.attached m.0 false ∙ l, v)
group_edit n s MakeGroup l v o h =
    (l, put n s.groups (free_number s.groups) (Some []) v (make_known s h) (no_children n))
group_edit n s (DropGroup g) l v o h =
    (l, put n s.groups g.0 None v (slice_get_within s.groups g.0 (Some []) (drop_known s g h)) (no_children n))
group_edit n s (AddChild g m) l v o h =
    let a = add_known s g m h in
    let xs = children_at s.groups g.0 in
    let low = slice_get_within s.groups g.0 (Some xs) (group_is s.groups g.0 a.there) in
    let more = one_more n xs m (each_child n s.groups v g.0) (subst (λ k. m.0 < k) l a.known) a.fresh in
    (l, put n s.groups g.0 (Some (xs ++ m ∷ [])) v low more)
group_edit n s (RemoveChild g m) l v o h =
    let a = remove_known s g m h in
    let xs = children_at s.groups g.0 in
    let low = slice_get_within s.groups g.0 (Some xs)
    (group_is s.groups g.0 (child_in_group s.groups g.0 m.0 a.1)) in
    (l, put n s.groups g.0 (Some (without m.0 xs)) v low (one_less n xs m (each_child n s.groups v g.0) a.1))
group_edit n s (Assign a b) l v o h = absurd (both_ways false refl o)
group_edit n s (Unassign a) l v o h = absurd (both_ways false refl o)
group_edit n s (MoveTo a b) l v o h = absurd (both_ways false refl o)
group_edit n s (Split a b) l v o h = absurd (both_ways false refl o)
group_edit n s (Merge a b) l v o h = absurd (both_ways false refl o)
group_edit n s (SwapMeets a b) l v o h = absurd (both_ways false refl o)
group_edit n s (Give a b) l v o h = absurd (both_ways false refl o)
group_edit n s (Take a) l v o h = absurd (both_ways false refl o)
group_edit n s (Regive a b) l v o h = absurd (both_ways false refl o)
group_edit n s (SwapTasks a b) l v o h = absurd (both_ways false refl o)

pub edits_stand : (p : Parts) (s : State) (e : Edit) → Stands p s → refusal p s e ≡ None → Stands p (edited s e)
edits_stand p s e v h = by (groups.is_of_groups e) refl
  where
    by : (b : Bool) → groups.is_of_groups e ≡ b → Stands p (edited s e)
    by true o =
        let k = group_edit (length p.monitors) s.grouping e v.attached v.groups o (sym (refusal_groups p s e o) ∙ h) in
        subst (Stands p) (sym (edited_groups s e o)) (record { slots = v.slots; attached = k.0; groups = k.1 })
    by false o =
        let ours = other_sort e o in
        let accepted = sym (refusal_meets p s e o) ∙ h in
        subst (Stands p) (sym (edited_meets s e o)) (record {
          slots = subst (AreValid p) (edit_slots p s.slots e v.slots ours accepted)
              (edit_valid p s.slots e v.slots ours accepted);
          attached = v.attached;
          groups = v.groups;
        })

-- children that differ stand once each
differ_once : (m : ℕ) (xs : List MonitorId) → AllPairs (λ x y. x ≢ y) xs → occurs m xs ≤ 1
differ_once m [] h = omega arith
differ_once m (x ∷ xs) h =
    by (x.0 == m) refl (sum_by-cons (λ (c : MonitorId). cond (c.0 == m) 1 0) x xs)
    (differ_once m xs (λ i j d l r. h (suc i) (suc j) d (omega (arith, l)) (omega (arith, r))))
  where
    same : (y z : MonitorId) → y.0 ≡ z.0 → y ≡ z
    same y z e = λ i. record { 0 = e i }

    by : (t : Bool) → (x.0 == m) ≡ t → occurs m (x ∷ xs) ≡ cond t 1 0 + occurs m xs → occurs m xs ≤ 1
        → occurs m (x ∷ xs) ≤ 1
    by true e c l =
        let z = among_no m xs (list_any_none (λ (c : MonitorId). c.0 == m) xs
        (All-from_get_or (λ (c : MonitorId). (c.0 == m) ≡ false) xs x
        (λ k low. ne_eqb (get_or xs k x).0 m
        (λ q. h 0 (suc k) x (omega arith) (omega (arith, low)) (same x (get_or xs k x) (eqb-true x.0 m e ∙ sym q)))))) in
        omega (arith, c, z)
    by false e c l = omega (arith, c, l)

-- the groups of a timetable
of_group : (p : Parts) (g : Group) → IsGroup p g → AreChildren (length p.monitors) g.children
of_group p g v = (
  λ m h. let d : MonitorId = record { 0 = m } in let q = child_place g.children m d h in
      subst (λ k. k < length p.monitors) q.1
      (all-there (λ (c : MonitorId). c.0 < length p.monitors) g.children (place_of m g.children)
      (get_or g.children (place_of m g.children) d) v.children
      (slice_get-get_or g.children (place_of m g.children) d q.0)),
  λ m. differ_once m g.children v.once,
)

of_number : (p : Parts) (gs : List Group) (k : ℕ) → All (IsGroup p) gs
    → AreChildren (length p.monitors) (listed (Some (group_of k gs)))
of_number p [] k v = no_children (length p.monitors)
of_number p (g ∷ gs) k v = by (g.group.0 == k) (of_number p gs k (All-tail (IsGroup p) g gs v))
  where
    by : (t : Bool) → AreChildren (length p.monitors) (listed (Some (group_of k gs)))
        → AreChildren (length p.monitors) (listed (Some (option_map (λ (x : Group). x.children)
        (cond t (Some g) (find (λ (x : Group). x.group.0 == k) gs)))))
    by true rest = of_group p g (All-head (IsGroup p) g gs v)
    by false rest = rest

numbered : (p : Parts) (many : ℕ) (gs : List Group) (k : ℕ) → All (IsGroup p) gs
    → AreChildren (length p.monitors) (children_at (numbered_groups many gs) k)
numbered p many gs k v =
    let all = numbered_groups many gs in
    let long = long_numbered many gs in
    elim (cases_lt k many) [
      | inl l ↦ subst (AreChildren (length p.monitors))
          (sym (ap listed (slice_get-get_or all k None (omega (arith, long, l))
          ∙ ap Some (at_number many gs k None l)))) (of_number p gs k v)
      | inr h ↦ subst (AreChildren (length p.monitors))
          (sym (ap listed (slice_get_past all k (omega (arith, long, h))))) (no_children (length p.monitors))
    ]

opened_groups : (p : Parts) (many : ℕ) (gs : List Group) → many ≡ GROUPS → All (IsGroup p) gs
    → AreGroups (length p.monitors) (numbered_groups many gs)
opened_groups p many gs e v = record {
  numbers = long_numbered many gs ∙ e;
  known = λ k m h. (numbered p many gs k v).0 m h;
  once = λ k m. (numbered p many gs k v).1 m;
}

pub opened_stand : (p : Parts) (plain : Plain) (s : State) → AreWellMade p → IsValid p plain → IsStateOf p plain s
    → Stands p s
opened_stand p plain s made v is = record {
  slots = open_valid p s.slots plain made is.told is.meets is.tasks v;
  attached = ap (λ (g : Grouping). length g.attached) is.grouping
      ∙ length-map-range_with_len (λ n. not (is_detached plain n)) 0 (length p.monitors);
  groups = subst (λ (g : Grouping). AreGroups (length p.monitors) g.groups) (sym is.grouping)
      (opened_groups p GROUPS plain.groups refl v.groups);
}

-- what is saved at the marks after an edit, and after one is closed
grown_stand : (p : Parts) (cs : List Change) (xs : List Saved) → SavedStand p xs → SavedStand p (grown cs xs)
grown_stand p cs [] v = v
grown_stand p cs (x ∷ xs) v = v

closed_stand : (p : Parts) (xs : List Saved) → SavedStand p xs → SavedStand p (closed xs)
closed_stand p [] v = v
closed_stand p (x ∷ []) v = tt
closed_stand p (x ∷ y ∷ rest) v = v.1

pub marks_stand : (p : Parts) (s : State) (xs : List Saved) → Stands p s → SavedStand p xs
    → ((cs : List Change) → SavedStand p (grown cs xs)) × SavedStand p (fresh s ∷ xs) × SavedStand p (closed xs)
marks_stand p s xs v w = (λ cs. grown_stand p cs xs w, (v, w), closed_stand p xs w)

-- back at a mark
dropped_stand : (p : Parts) (n : ℕ) (xs : List Saved) → SavedStand p xs → SavedStand p (drop n xs)
dropped_stand p zero xs w = w
dropped_stand p (suc n) [] w = w
dropped_stand p (suc n) (x ∷ xs) w = dropped_stand p n xs w.1

back_stand : (p : Parts) (s : State) (xs : List Saved) → Stands p s → SavedStand p xs
    → Stands p (last_saved s xs) × SavedStand p (fresh (last_saved s xs) ∷ around xs)
back_stand p s [] v w = (v, (v, tt))
back_stand p s (x ∷ xs) v w = (w.0, w)

pub undone_stand : (p : Parts) (s : State) (xs : List Saved) → Stands p s → SavedStand p xs
    → (Stands p (last_saved s xs) × SavedStand p (fresh (last_saved s xs) ∷ around xs))
    × ((k : ℕ) → Stands p (last_saved s (from_mark k xs))
    × SavedStand p (fresh (last_saved s (from_mark k xs)) ∷ around (from_mark k xs)))
undone_stand p s xs v w = (
  back_stand p s xs v w,
  λ k. back_stand p s (from_mark k xs) v (dropped_stand p (length xs - k) xs w),
)
