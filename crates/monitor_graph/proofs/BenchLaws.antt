-- Groups as they sit on benches, one for each group number.
use Rattle.std.proofs.Common.{ℕ, ◌≡◌, ◌+◌, ◌-◌, ◌<◌, ◌≤◌, nat_eq, nat_le, Bool, true, false, cond, Option, Some, None, List, []}
use Rattle.std.proofs.Common.{length, get_or, set, slice_get, refl, sym, ap, ◌∙◌, arith, subst}
use Rattle.std.specs.Prelude.{is_none, is_some, MatchOption}
use Rattle.std.specs.List.{insert, position_or_len, remove}
use Rattle.std.specs.Option.{option_map}
use Rattle.std.proofs.lemmas.Bool.{both_ways, eqb-true, eqb-false, le-leb}
use Rattle.std.proofs.lemmas.List.{get_or-map, get_or-set_other, get_or-set_same, length-map, map-set, set-get_or}
use Rattle.std.proofs.lemmas.List.Edits.{length-insert, length-remove}
use Rattle.std.proofs.lemmas.List.Sums.{position_or_len_is}
use Rattle.std.proofs.lemmas.Option.{slice_get-get_or, slice_get-map, slice_get_within}
use Rattle.khe_base.proofs.ListLemmas.{get-set}
use Rattle.khe_base.specs.Bits.{is_set}
use Rattle.khe_base.specs.declared.limits.TheConstants.{GROUPS}
use Rattle.khe_base.specs.declared.numbers.GroupId.{GroupId}
use Rattle.khe_base.specs.declared.numbers.MonitorId.{MonitorId}
use Rattle.monitor_graph.proofs.SeatLaws.{child_in_group, child_place, dropped, free_is, group_is, inserted, listed, made}
use Rattle.monitor_graph.proofs.SeatLaws.{removed, room_set}
use Rattle.monitor_graph.specs.Groups.{Groups, children_at, has_group, has_child, place_of, free_number, without}
use Rattle.monitor_graph.specs.Groups.{seats_at, HasSeat, HaveRoom, HaveAsMany}
use Rattle.monitor_graph.specs.Seating.{Seating, Sitting, sitting, groups_on, seats_on, bit_of, AreSeated}

-- the bench of a number
pub bench_at : (bs : List Sitting) (g : ℕ) (d : Sitting) → g < length bs
    → slice_get (groups_on bs) g ≡ Some (get_or bs g d).group
bench_at bs g d l = slice_get-map (λ (s : Sitting). s.group) bs g
    ∙ ap (option_map (λ (s : Sitting). s.group)) (slice_get-get_or bs g d l)

pub seats_bench : (bs : List Sitting) (g : ℕ) (d : Sitting) → g < length bs
    → seats_at (seats_on bs) g ≡ (get_or bs g d).seats
seats_bench bs g d l = get_or-map (λ (s : Sitting). s.seats) bs g d 0 l

pub groups_set : (bs : List Sitting) (g : ℕ) (s : Sitting) → groups_on (set bs g s) ≡ set (groups_on bs) g s.group
groups_set bs g s = map-set (λ (s : Sitting). s.group) bs g s

pub seats_set : (bs : List Sitting) (g : ℕ) (s d : Sitting) → g < length bs → s.seats ≡ (get_or bs g d).seats
    → seats_on (set bs g s) ≡ seats_on bs
seats_set bs g s d l e = map-set (λ (s : Sitting). s.seats) bs g s
    ∙ ap (set (seats_on bs) g) (e ∙ sym (seats_bench bs g d l)) ∙ set-get_or (seats_on bs) g 0

pub benches_long : (bs : List Sitting) → length (groups_on bs) ≡ length bs
benches_long bs = length-map bs (λ (s : Sitting). s.group)

-- the number of a group is that of a bench
pub known_bench : (bs : List Sitting) (gs : Groups) (g : ℕ) → groups_on bs ≡ gs → has_group gs g ≡ true → g < length bs
known_bench bs gs g e h =
    let l = slice_get_within gs g (Some (children_at gs g)) (group_is gs g h) in
    let a = ap length e in
    let b = benches_long bs in
    omega (arith, l, a, b)

pub sitting_at : (bs : List Sitting) (gs : Groups) (g : ℕ) (old : Sitting) → groups_on bs ≡ gs → g < length bs
    → old ≡ get_or bs g old → sitting old.group ≡ children_at gs g
sitting_at bs gs g old e l o = ap (λ (s : Sitting). sitting s.group) o ∙ sym (ap listed (bench_at bs g old l))
    ∙ ap (λ x. children_at x g) e

-- the first number of no group
pub first_free : (bs : List Sitting) (k : ℕ) (d : Sitting) → k ≤ length bs
    → ((j : ℕ) → j < k → is_none (get_or bs j d).group ≡ false)
    → (k < length bs → is_none (get_or bs k d).group ≡ true) → position_or_len is_none (groups_on bs) ≡ k
first_free bs k d l before at =
    let long = benches_long bs in
    position_or_len_is is_none (groups_on bs) k None (omega (arith, l, long))
    (λ j m. ap is_none (get_or-map (λ (s : Sitting). s.group) bs j d None (omega (arith, l, m))) ∙ before j m)
    (λ m. let low : k < length bs = omega (arith, m, long) in
    ap is_none (get_or-map (λ (s : Sitting). s.group) bs k d None low) ∙ at low)

pub none_is : (o : Option (List MonitorId)) → is_some o ≡ false → is_none o ≡ true
none_is None h = refl
none_is (Some xs) h = absurd (both_ways true h refl)

pub free_answer : (bs : List Sitting) (r : Option GroupId)
    → MatchOption r (length bs ≤ position_or_len is_none (groups_on bs))
    (λ g. (g.0 ≡ position_or_len is_none (groups_on bs)) × (g.0 < length bs))
    → MatchOption r (nat_le (length (groups_on bs)) (free_number (groups_on bs)) ≡ true)
    (λ g. (g.0 ≡ free_number (groups_on bs)) × (slice_get (groups_on bs) g.0 ≡ Some None))
free_answer bs None h = le-leb (length (groups_on bs)) (free_number (groups_on bs))
    (let a = benches_long bs in omega (arith, a, h))
free_answer bs (Some g) h = free_is (groups_on bs) g.0 h.0
    (let a = benches_long bs in let b = h.1 in omega (arith, a, b))

-- benches after one of them changed its group
pub record AreTurned (bs : List Sitting) (gs : Groups) (rooms : List ℕ) (monitors many : ℕ) (held : List ℕ) : Type 0 where
  pub kept : AreSeated (groups_on bs) monitors many held
  pub room : HaveRoom (groups_on bs) (seats_on bs)
  pub groups : groups_on bs ≡ gs
  pub seats : seats_on bs ≡ rooms

turned_to : (bs : List Sitting) (g : ℕ) (old new : Sitting) (o : Option (List MonitorId)) (monitors many : ℕ)
    (held : List ℕ)
    → g < length bs → old ≡ get_or bs g old → new ≡ record old { group = o } → HaveRoom (groups_on bs) (seats_on bs)
    → length (listed (Some o)) ≤ seats_at (seats_on bs) g → AreSeated (set (groups_on bs) g o) monitors many held
    → AreTurned (set bs g new) (set (groups_on bs) g o) (seats_on bs) monitors many held
turned_to bs g old new o monitors many held l e n room small s =
    let same : groups_on (set bs g new) ≡ set (groups_on bs) g o =
    groups_set bs g new ∙ ap (λ (x : Sitting). set (groups_on bs) g x.group) n in
    let seats : seats_on (set bs g new) ≡ seats_on bs =
    seats_set bs g new old l (ap (λ (x : Sitting). x.seats) n ∙ ap (λ (x : Sitting). x.seats) e) in
    let there : g < length (groups_on bs) = (let a = benches_long bs in omega (arith, a, l)) in
    record {
      kept = subst (λ x. AreSeated x monitors many held) (sym same) s;
      room = subst (λ x. HaveRoom x (seats_on (set bs g new))) (sym same)
          (subst (λ x. HaveRoom (set (groups_on bs) g o) x) (sym seats)
          (room_set (groups_on bs) (seats_on bs) g o there room small));
      groups = same;
      seats = seats;
    }

-- a child more
pub record CanSit (v : Seating) (g k : ℕ) (m : MonitorId) : Type 0 where
  pub there : has_group v.groups g ≡ true
  pub known : m.0 < v.monitors
  pub place : k ≤ length (children_at v.groups g)
  pub fresh : has_child v.groups g m.0 ≡ false
  pub room : HasSeat v.groups v.seats g

pub sits : (bs : List Sitting) (g k : ℕ) (m : MonitorId) (old new : Sitting) (monitors many : ℕ) (held held2 : List ℕ)
    → AreSeated (groups_on bs) monitors many held → HaveRoom (groups_on bs) (seats_on bs)
    → CanSit (record { groups = groups_on bs; monitors = monitors; seats = seats_on bs }) g k m
    → old ≡ get_or bs g old → new ≡ record old { group = Some (insert (sitting old.group) k m) }
    → length held2 ≡ length held
    → ((n : ℕ) → is_set held2 n ≡ cond (nat_eq n (bit_of m.0 g)) true (is_set held n))
    → AreTurned (set bs g new) (set (groups_on bs) g (Some (insert (children_at (groups_on bs) g) k m))) (seats_on bs)
    monitors (many + 1) held2
sits bs g k m old new monitors many held held2 s room c e n long bits =
    let gs = groups_on bs in
    let l = known_bench bs gs g refl c.there in
    let xs = children_at gs g in
    let number : g < GROUPS = (let a = benches_long bs in let b = s.numbers in omega (arith, a, b, l)) in
    let more = length-insert xs k m c.place in
    let seat : length xs < seats_at (seats_on bs) g = c.room number in
    turned_to bs g old new (Some (insert xs k m)) monitors (many + 1) held2 l e
    (n ∙ ap (λ x. record old { group = Some (insert x k m) }) (sitting_at bs gs g old refl l e)) room
    (omega (arith, more, seat))
    (inserted gs monitors many held held2 g k m xs s (group_is gs g c.there) c.place c.known c.fresh long bits)

-- a child fewer
pub leaves : (bs : List Sitting) (g : ℕ) (m : MonitorId) (old new : Sitting) (monitors many : ℕ) (held held2 : List ℕ)
    → AreSeated (groups_on bs) monitors many held → HaveRoom (groups_on bs) (seats_on bs)
    → has_child (groups_on bs) g m.0 ≡ true
    → old ≡ get_or bs g old → new ≡ record old { group = Some (without m.0 (sitting old.group)) }
    → length held2 ≡ length held
    → ((n : ℕ) → is_set held2 n ≡ cond (nat_eq n (bit_of m.0 g)) false (is_set held n))
    → AreTurned (set bs g new) (set (groups_on bs) g (Some (without m.0 (children_at (groups_on bs) g)))) (seats_on bs)
    monitors (many - 1) held2
leaves bs g m old new monitors many held held2 s room h e n long bits =
    let gs = groups_on bs in
    let there = child_in_group gs g m.0 h in
    let l = known_bench bs gs g refl there in
    let xs = children_at gs g in
    let at = child_place xs m.0 m h in
    let fewer = length-remove xs (place_of m.0 xs) at.0 in
    let seat = room g in
    turned_to bs g old new (Some (without m.0 xs)) monitors (many - 1) held2 l e
    (n ∙ ap (λ x. record old { group = Some (without m.0 x) }) (sitting_at bs gs g old refl l e)) room
    (omega (arith, fewer, seat))
    (removed gs monitors many held held2 g (place_of m.0 xs) m.0 m xs s (group_is gs g there) at.0 at.1 long bits)

-- the child at its place is taken out
pub left_by : (old new : Sitting) (k m : ℕ) (xs : List MonitorId) → sitting old.group ≡ xs → k ≡ place_of m xs
    → new ≡ record old { group = Some (remove (sitting old.group) k) }
    → new ≡ record old { group = Some (without m (sitting old.group)) }
left_by old new k m xs e p n =
    n ∙ ap (λ j. record old { group = Some (remove (sitting old.group) j) }) (p ∙ ap (place_of m) (sym e))

-- a group that comes, and one that goes
pub comes : (bs : List Sitting) (g : ℕ) (old new : Sitting) (monitors many : ℕ) (held : List ℕ)
    → AreSeated (groups_on bs) monitors many held → HaveRoom (groups_on bs) (seats_on bs)
    → slice_get (groups_on bs) g ≡ Some None → old ≡ get_or bs g old → new ≡ record old { group = Some [] }
    → AreTurned (set bs g new) (set (groups_on bs) g (Some [])) (seats_on bs) monitors many held
comes bs g old new monitors many held s room h e n =
    let l : g < length bs = (let a = slice_get_within (groups_on bs) g None h in let b = benches_long bs in omega
    (arith, a, b)) in
    turned_to bs g old new (Some []) monitors many held l e n room (omega arith)
    (made (groups_on bs) monitors many held g s h)

pub goes : (bs : List Sitting) (g : ℕ) (old new : Sitting) (monitors many : ℕ) (held : List ℕ)
    → AreSeated (groups_on bs) monitors many held → HaveRoom (groups_on bs) (seats_on bs)
    → slice_get (groups_on bs) g ≡ Some (Some []) → old ≡ get_or bs g old → new ≡ record old { group = None }
    → AreTurned (set bs g new) (set (groups_on bs) g None) (seats_on bs) monitors many held
goes bs g old new monitors many held s room h e n =
    let l : g < length bs = (let a = slice_get_within (groups_on bs) g (Some []) h in let b = benches_long bs in omega
    (arith, a, b)) in
    turned_to bs g old new None monitors many held l e n room (omega arith)
    (dropped (groups_on bs) monitors many held g s h)

-- more room at one number
pub same_groups : (bs : List Sitting) (g : ℕ) (old new : Sitting) → g < length bs → old ≡ get_or bs g old
    → new.group ≡ old.group → groups_on (set bs g new) ≡ groups_on bs
same_groups bs g old new l e n =
    groups_set bs g new
    ∙ ap (set (groups_on bs) g) (n ∙ ap (λ (s : Sitting). s.group) e
    ∙ sym (get_or-map (λ (s : Sitting). s.group) bs g old None l))
    ∙ set-get_or (groups_on bs) g None

pub more_seats : (bs : List Sitting) (g : ℕ) (old new : Sitting) → g < length bs → old ≡ get_or bs g old
    → old.seats ≤ new.seats → HaveAsMany (seats_on bs) (seats_on (set bs g new))
more_seats bs g old new l e n k = go (nat_eq k g) refl
  where
    there : g < length (seats_on bs)
    there = let a = length-map bs (λ (s : Sitting). s.seats) in omega (arith, a, l)

    now : seats_on (set bs g new) ≡ set (seats_on bs) g new.seats
    now = map-set (λ (s : Sitting). s.seats) bs g new

    go : (t : Bool) → nat_eq k g ≡ t → seats_at (seats_on bs) k ≤ seats_at (seats_on (set bs g new)) k
    go true f =
        let same = eqb-true k g f in
        let a = ap (seats_at (seats_on bs)) same ∙ seats_bench bs g old l ∙ ap (λ (s : Sitting). s.seats) (sym e) in
        let b = ap (seats_at (seats_on (set bs g new))) same ∙ ap (λ x. seats_at x g) now
        ∙ get_or-set_same (seats_on bs) g new.seats 0 there in
        omega (arith, a, b, n)
    go false f =
        let a = ap (λ x. seats_at x k) now ∙ get_or-set_other (seats_on bs) g k new.seats 0 (eqb-false k g f) in
        omega (arith, a)

pub room_kept : (gs : Groups) (before after : List ℕ) → HaveRoom gs before → HaveAsMany before after → HaveRoom gs after
room_kept gs before after r m g = let a = r g in let b = m g in omega (arith, a, b)

-- the room at a number
pub seats_turned : (bs : List Sitting) (g : ℕ) (new : Sitting) → g < length bs
    → seats_at (seats_on (set bs g new)) g ≡ new.seats
seats_turned bs g new l =
    ap (λ x. seats_at x g) (map-set (λ (s : Sitting). s.seats) bs g new)
    ∙ get_or-set_same (seats_on bs) g new.seats 0 (let a = length-map bs (λ (s : Sitting). s.seats) in omega (arith, a, l))

-- and the children
pub children_turned : (bs : List Sitting) (g : ℕ) (new : Sitting) → g < length bs
    → children_at (groups_on (set bs g new)) g ≡ sitting new.group
children_turned bs g new l =
    ap (λ x. children_at x g) (groups_set bs g new)
    ∙ ap listed (get-set (groups_on bs) g new.group (let a = benches_long bs in omega (arith, a, l)))
