-- What an accepted edit of monitors and groups finds, and that its record leads back.
use Rattle.std.proofs.Common.{ℕ, ◌≡◌, ◌+◌, ◌<◌, ◌≤◌, suc, nat_lt, nat_le, Bool, true, false, cond, Option, Some, None}
use Rattle.std.proofs.Common.{List, [], ◌∷◌, ◌++◌, length, get_or, set, set-set, slice_get, refl, sym, ap, ◌∙◌, subst}
use Rattle.std.proofs.Common.{arith}
use Rattle.std.specs.Prelude.{◌==◌, ◌||◌, not, is_none, is_some}
use Rattle.std.specs.Option.{option_and_then}
use Rattle.std.specs.List.{insert, remove}
use Rattle.std.proofs.lemmas.Bool.{eqb-true, eq-eqb, both_ways, not-false, leb-false, ltb-false}
use Rattle.std.proofs.lemmas.List.{length-set, set-get_or}
use Rattle.std.proofs.lemmas.List.Edits.{length-remove}
use Rattle.std.proofs.lemmas.List.Sums.{sum_by-remove, passes_at_first}
use Rattle.std.proofs.lemmas.Option.{get_or_from_slice_get, slice_get-get_or, slice_get_within}
use Rattle.khe_base.specs.declared.numbers.GroupId.{GroupId}
use Rattle.khe_base.specs.declared.numbers.MonitorId.{MonitorId}
use Rattle.khe_told.specs.declared.edits.Edit.{Edit}
use Rattle.khe_told.specs.declared.edits.Edit.TheVariants.{Assign, Unassign, MoveTo, Split, Merge, SwapMeets, Give}
use Rattle.khe_told.specs.declared.edits.Edit.TheVariants.{Take, Regive, SwapTasks, Attach, Detach, MakeGroup}
use Rattle.khe_told.specs.declared.edits.Edit.TheVariants.{DropGroup, AddChild, RemoveChild}
use Rattle.khe_told.specs.declared.refusals.Refusal.{Refusal}
use Rattle.khe_told.specs.declared.refusals.Refusal.TheVariants.{NoSuchMonitor, NoSuchGroup, Attached, Detached}
use Rattle.khe_told.specs.declared.refusals.Refusal.TheVariants.{IsChild, NotChild, GroupsFull, NotEmpty}
use Rattle.monitor_graph.proofs.SeatLaws.{group_is, child_place, child_in_group, no_among, listed}
use Rattle.monitor_graph.specs.Boards.{Grouping}
use Rattle.monitor_graph.specs.Edits.{is_of_groups, is_attached, first_refusal, no_monitor, no_group, refusal, edited}
use Rattle.monitor_graph.specs.Edits.{back_of, undone, CanInsert, CanUndo}
use Rattle.monitor_graph.specs.Groups.{Groups, AreGroups, children_at, has_group, has_child, is_among, occurs, place_of}
use Rattle.monitor_graph.specs.Groups.{without, free_number}
use Rattle.khe_base.proofs.ListLemmas.{get-set}

-- tests that an accepted edit passed
abbrev IsThere : {A : Type 0} → Option A → Type 0
IsThere None = ⊥
IsThere (Some a) = Unit {0}

some-none : {A : Type 0} (a : A) → Some a ≡ None → ⊥
some-none a h = subst IsThere h tt

passes : (t : Bool) (r : Refusal) (rest : List (Bool × Refusal)) → cond t (Some r) (first_refusal rest) ≡ None
    → (t ≡ false) × (first_refusal rest ≡ None)
passes true r rest h = absurd (some-none r h)
passes false r rest h = (refl, h)

pub monitor_known : (s : Grouping) (m : ℕ) (rest : List (Bool × Refusal)) → first_refusal (no_monitor s m ∷ rest) ≡ None
    → (m < length s.attached) × (first_refusal rest ≡ None)
monitor_known s m rest h = let p = passes (nat_le (length s.attached) m) NoSuchMonitor rest h in
    (leb-false (length s.attached) m p.0, p.1)

pub group_known : (s : Grouping) (g : ℕ) (rest : List (Bool × Refusal)) → first_refusal (no_group s g ∷ rest) ≡ None
    → (has_group s.groups g ≡ true) × (first_refusal rest ≡ None)
group_known s g rest h = let p = passes (not (has_group s.groups g)) NoSuchGroup rest h in
    (not-false (has_group s.groups g) p.0, p.1)

pub attach_known : (s : Grouping) (m : MonitorId) → refusal s (Attach m) ≡ None
    → (m.0 < length s.attached) × (is_attached s m.0 ≡ false)
attach_known s m h =
    let rest : List (Bool × Refusal) = (is_attached s m.0, Attached) ∷ [] in
    let a = monitor_known s m.0 rest h in (a.0, (passes (is_attached s m.0) Attached [] a.1).0)

pub detach_known : (s : Grouping) (m : MonitorId) → refusal s (Detach m) ≡ None
    → (m.0 < length s.attached) × (is_attached s m.0 ≡ true)
detach_known s m h =
    let rest : List (Bool × Refusal) = (not (is_attached s m.0), Detached) ∷ [] in
    let a = monitor_known s m.0 rest h in (
      a.0,
      not-false (is_attached s m.0)
          (passes (not (is_attached s m.0)) Detached [] a.1).0,
    )

pub make_known : (s : Grouping) → refusal s MakeGroup ≡ None → free_number s.groups < length s.groups
make_known s h = leb-false (length s.groups) (free_number s.groups)
    (passes (nat_le (length s.groups) (free_number s.groups)) GroupsFull [] h).0

no_length : (xs : List MonitorId) → nat_lt 0 (length xs) ≡ false → xs ≡ []
no_length [] h = refl
no_length (x ∷ xs) h = absurd (let l = ltb-false 0 (length (x ∷ xs)) h in omega (arith, l))

pub drop_known : (s : Grouping) (g : GroupId) → refusal s (DropGroup g) ≡ None → slice_get s.groups g.0 ≡ Some (Some [])
drop_known s g h =
    let rest : List (Bool × Refusal) = (nat_lt 0 (length (children_at s.groups g.0)), NotEmpty) ∷ [] in
    let a = group_known s g.0 rest h in
    let b = passes (nat_lt 0 (length (children_at s.groups g.0))) NotEmpty [] a.1 in
    group_is s.groups g.0 a.0 ∙ ap (λ xs. Some (Some xs)) (no_length (children_at s.groups g.0) b.0)

pub add_known : (s : Grouping) (g : GroupId) (m : MonitorId) → refusal s (AddChild g m) ≡ None
    → CanInsert s g.0 m.0 (length (children_at s.groups g.0))
add_known s g m h =
    let last : List (Bool × Refusal) = (has_child s.groups g.0 m.0, IsChild) ∷ [] in
    let rest : List (Bool × Refusal) = no_monitor s m.0 ∷ last in
    let a = group_known s g.0 rest h in
    let b = monitor_known s m.0 last a.1 in
    record {
      there = a.0;
      known = b.0;
      place = omega arith;
      fresh =
          (passes (has_child s.groups g.0 m.0) IsChild [] b.1).0;
    }

pub remove_known : (s : Grouping) (g : GroupId) (m : MonitorId) → refusal s (RemoveChild g m) ≡ None
    → (m.0 < length s.attached) × (has_child s.groups g.0 m.0 ≡ true)
remove_known s g m h =
    let last : List (Bool × Refusal) = (not (has_child s.groups g.0 m.0), NotChild) ∷ [] in
    let rest : List (Bool × Refusal) = no_monitor s m.0 ∷ last in
    let a = group_known s g.0 rest h in
    let b = monitor_known s m.0 last a.1 in
    (b.0, not-false (has_child s.groups g.0 m.0) (passes (not (has_child s.groups g.0 m.0)) NotChild [] b.1).0)

-- one place of a list and back
set_back : {A : Type 0} (xs : List A) (i : ℕ) (y x : A) → slice_get xs i ≡ Some x → set (set xs i y) i x ≡ xs
set_back xs i y x h = set-set xs i y x ∙ ap (set xs i) (sym (get_or_from_slice_get xs i x x h)) ∙ set-get_or xs i x

children_now : (gs : Groups) (g : ℕ) (xs ys : List MonitorId) → slice_get gs g ≡ Some (Some xs)
    → children_at (set gs g (Some ys)) g ≡ ys
children_now gs g xs ys h = ap listed (get-set gs g (Some ys) (slice_get_within gs g (Some xs) h))

-- a child that is added last and removed
without_push : (v : MonitorId) (xs : List MonitorId) → is_among v.0 xs ≡ false → without v.0 (xs ++ v ∷ []) ≡ xs
without_push v [] h = ap (λ t. remove (v ∷ []) (cond (not t) 1 0)) (eq-eqb v.0 v.0 refl)
without_push v (x ∷ xs) h = go (x.0 == v.0) h (without_push v xs)
  where
    go : (t : Bool) → (t || is_among v.0 xs) ≡ false → (is_among v.0 xs ≡ false → without v.0 (xs ++ v ∷ []) ≡ xs)
        → remove (x ∷ xs ++ v ∷ []) (cond (not t) (1 + place_of v.0 (xs ++ v ∷ [])) 0) ≡ x ∷ xs
    go true f r = absurd (both_ways true f refl)
    go false f r =
        let p = place_of v.0 (xs ++ v ∷ []) in
        let q : 1 + p ≡ suc p = omega arith in
        ap (remove (x ∷ xs ++ v ∷ [])) q ∙ ap (λ ys. x ∷ ys) (r f)

-- a child that is removed and put back
insert_back : (v : MonitorId) (xs : List MonitorId) → is_among v.0 xs ≡ true
    → insert (without v.0 xs) (place_of v.0 xs) v ≡ xs
insert_back v [] h = absurd (both_ways false refl h)
insert_back v (x ∷ xs) h = go (x.0 == v.0) refl h (insert_back v xs)
  where
    go : (t : Bool) → (x.0 == v.0) ≡ t → (t || is_among v.0 xs) ≡ true
        → (is_among v.0 xs ≡ true → insert (without v.0 xs) (place_of v.0 xs) v ≡ xs)
        → insert (remove (x ∷ xs) (cond (not t) (1 + place_of v.0 xs) 0)) (cond (not t) (1 + place_of v.0 xs) 0) v
        ≡ x ∷ xs
    go true e f r = λ i. record { 0 = sym (eqb-true x.0 v.0 e) i } ∷ xs
    go false e f r =
        let p = place_of v.0 xs in
        let q : 1 + p ≡ suc p = omega arith in
        ap (λ n. insert (remove (x ∷ xs) n) n v) q ∙ ap (λ ys. x ∷ ys) (r f)

among_push : (v : MonitorId) (xs : List MonitorId) → is_among v.0 (xs ++ v ∷ []) ≡ true
among_push v [] = ap (λ t. t || false) (eq-eqb v.0 v.0 refl)
among_push v (x ∷ xs) = go (x.0 == v.0) (among_push v xs)
  where
    go : (t : Bool) → is_among v.0 (xs ++ v ∷ []) ≡ true → (t || is_among v.0 (xs ++ v ∷ [])) ≡ true
    go true h = refl
    go false h = h

gone : (v : MonitorId) (xs : List MonitorId) → is_among v.0 xs ≡ true → occurs v.0 xs ≤ 1
    → is_among v.0 (without v.0 xs) ≡ false
gone v xs h l =
    let p = child_place xs v.0 v h in
    let a = ap (λ (n : ℕ). occurs v.0 (without v.0 xs) + cond (n == v.0) 1 0) (sym p.1)
    ∙ sum_by-remove (λ (c : MonitorId). cond (c.0 == v.0) 1 0) xs (place_of v.0 xs) v p.0 in
    let b : occurs v.0 (without v.0 xs) + 1 ≡ occurs v.0 xs =
    ap (λ t. occurs v.0 (without v.0 xs) + cond t 1 0) (sym (eq-eqb v.0 v.0 refl)) ∙ a in
    no_among v.0 (without v.0 xs) (omega (arith, b, l))

-- the lowest free number is free
pub free_there : (s : Grouping) → refusal s MakeGroup ≡ None → slice_get s.groups (free_number s.groups) ≡ Some None
free_there s h =
    let l = make_known s h in
    slice_get-get_or s.groups (free_number s.groups) None l
    ∙ ap Some (at_none (get_or s.groups (free_number s.groups) None) (passes_at_first is_none s.groups None l))
  where
    at_none : (o : Option (List MonitorId)) → is_none o ≡ true → o ≡ None
    at_none None h = refl
    at_none (Some xs) h = absurd (both_ways false refl h)

-- the record of an edit leads back
pub back_grouping : (s : Grouping) (e : Edit) → is_of_groups e ≡ true → refusal s e ≡ None
    → undone (edited s e) (back_of s e) ≡ s
back_grouping s (Attach m) o h =
    let k = attach_known s m h in
    λ i. record s {
      attached = (set-set s.attached m.0 true false ∙ ap (set s.attached m.0) (sym k.1)
          ∙ set-get_or s.attached m.0 false) i;
    }
back_grouping s (Detach m) o h =
    let k = detach_known s m h in
    λ i. record s {
      attached = (set-set s.attached m.0 false true ∙ ap (set s.attached m.0) (sym k.1)
          ∙ set-get_or s.attached m.0 false) i;
    }
back_grouping s MakeGroup o h = λ i. record s
    { groups = set_back s.groups (free_number s.groups) (Some []) None (free_there s h) i }
back_grouping s (DropGroup g) o h = λ i. record s { groups = set_back s.groups g.0 None (Some []) (drop_known s g h) i }
back_grouping s (AddChild g m) o h =
    let k = add_known s g m h in
    let cs = children_at s.groups g.0 in
    let there = group_is s.groups g.0 k.there in
    λ i. record s {
      groups = (ap (λ xs. set (set s.groups g.0 (Some (cs ++ m ∷ []))) g.0 (Some (without m.0 xs)))
          (children_now s.groups g.0 cs (cs ++ m ∷ []) there)
          ∙ ap (λ xs. set (set s.groups g.0 (Some (cs ++ m ∷ []))) g.0 (Some xs)) (without_push m cs k.fresh)
          ∙ set_back s.groups g.0 (Some (cs ++ m ∷ [])) (Some cs) there) i;
    }
back_grouping s (RemoveChild g m) o h =
    let k = remove_known s g m h in
    let cs = children_at s.groups g.0 in
    let there = group_is s.groups g.0 (child_in_group s.groups g.0 m.0 k.1) in
    λ i. record s {
      groups = (ap (λ xs. set (set s.groups g.0 (Some (without m.0 cs))) g.0 (Some (insert xs (place_of m.0 cs) m)))
          (children_now s.groups g.0 cs (without m.0 cs) there)
          ∙ ap (λ xs. set (set s.groups g.0 (Some (without m.0 cs))) g.0 (Some xs)) (insert_back m cs k.1)
          ∙ set_back s.groups g.0 (Some (without m.0 cs)) (Some cs) there) i;
    }
back_grouping s (Assign a b) o h = absurd (both_ways false refl o)
back_grouping s (Unassign a) o h = absurd (both_ways false refl o)
back_grouping s (MoveTo a b) o h = absurd (both_ways false refl o)
back_grouping s (Split a b) o h = absurd (both_ways false refl o)
back_grouping s (Merge a b) o h = absurd (both_ways false refl o)
back_grouping s (SwapMeets a b) o h = absurd (both_ways false refl o)
back_grouping s (Give a b) o h = absurd (both_ways false refl o)
back_grouping s (Take a) o h = absurd (both_ways false refl o)
back_grouping s (Regive a b) o h = absurd (both_ways false refl o)
back_grouping s (SwapTasks a b) o h = absurd (both_ways false refl o)

pub back_leads : (s : Grouping) (e : Edit) (monitors : ℕ) → AreGroups monitors s.groups → is_of_groups e ≡ true
    → refusal s e ≡ None → CanUndo (edited s e) (back_of s e)
back_leads s (Attach m) n v o h = let k = attach_known s m h in let l = length-set s.attached m.0 true in
    omega (arith, k, l)
back_leads s (Detach m) n v o h = let k = detach_known s m h in let l = length-set s.attached m.0 false in
    omega (arith, k, l)
back_leads s MakeGroup n v o h = get-set s.groups (free_number s.groups) (Some []) (make_known s h)
back_leads s (DropGroup g) n v o h = get-set s.groups g.0 None
    (slice_get_within s.groups g.0 (Some []) (drop_known s g h))
back_leads s (AddChild g m) n v o h =
    let k = add_known s g m h in
    let cs = children_at s.groups g.0 in
    ap (is_among m.0) (children_now s.groups g.0 cs (cs ++ m ∷ []) (group_is s.groups g.0 k.there)) ∙ among_push m cs
back_leads s (RemoveChild g m) n v o h =
    let k = remove_known s g m h in
    let cs = children_at s.groups g.0 in
    let there = group_is s.groups g.0 (child_in_group s.groups g.0 m.0 k.1) in
    let now = children_now s.groups g.0 cs (without m.0 cs) there in
    let p = child_place cs m.0 m k.1 in
    let shorter = length-remove cs (place_of m.0 cs) p.0 in
    record {
      there = ap (λ (o : Option (Option (List MonitorId))). is_some (option_and_then (λ x. x) o))
          (get-set s.groups g.0 (Some (without m.0 cs)) (slice_get_within s.groups g.0 (Some cs) there));
      known = k.0;
      place = (let low = p.0 in let long = ap length now in omega (arith, shorter, low, long));
      fresh = ap (is_among m.0) now ∙ gone m cs k.1 (v.once g.0 m.0);
    }
back_leads s (Assign a b) n v o h = absurd (both_ways false refl o)
back_leads s (Unassign a) n v o h = absurd (both_ways false refl o)
back_leads s (MoveTo a b) n v o h = absurd (both_ways false refl o)
back_leads s (Split a b) n v o h = absurd (both_ways false refl o)
back_leads s (Merge a b) n v o h = absurd (both_ways false refl o)
back_leads s (SwapMeets a b) n v o h = absurd (both_ways false refl o)
back_leads s (Give a b) n v o h = absurd (both_ways false refl o)
back_leads s (Take a) n v o h = absurd (both_ways false refl o)
back_leads s (Regive a b) n v o h = absurd (both_ways false refl o)
back_leads s (SwapTasks a b) n v o h = absurd (both_ways false refl o)
