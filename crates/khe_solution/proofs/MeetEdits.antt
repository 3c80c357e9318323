-- The edits of meets: Split and Merge.
use Rattle.std.proofs.Common.{ℕ, ◌≡◌, ◌+◌, ◌-◌, ◌<◌, ◌≤◌, zero, suc, Bool, true, false, cond, Option, Some, None, List}
use Rattle.std.proofs.Common.{[], ◌∷◌, length, set, slice_get, refl, sym, ap, subst, ◌∙◌, arith, get_or-set_same}
use Rattle.std.proofs.Common.{get_or-set_other, set-set}
use Rattle.std.specs.Prelude.{IfSome, ◌==◌, is_none, is_some, replicate}
use Rattle.std.specs.Option.{option_map_or}
use Rattle.std.proofs.lemmas.Bool.{and_parts, eq-eqb, eqb-true, leb-false}
use Rattle.std.proofs.lemmas.List.{length-set, set-get_or}
use Rattle.std.proofs.lemmas.List.Elements.{All-get_or, All-set}
use Rattle.std.proofs.lemmas.List.Sums.{sum_by-set, passes_at_first}
use Rattle.khe_base.specs.declared.numbers.MeetId.{MeetId}
use Rattle.khe_base.specs.declared.numbers.ResourceId.{ResourceId}
use Rattle.khe_base.specs.declared.numbers.TimeId.{TimeId}
use Rattle.khe_instance.specs.declared.parts.EventInfo.{EventInfo}
use Rattle.khe_instance.specs.declared.parts.Parts.{Parts}
use Rattle.khe_told.specs.Slots.{no_slot, slot_at, emptied, length_of, held, held_by, is_live, start_of}
use Rattle.khe_told.specs.Fits.{AreTold, IsSlot}
use Rattle.khe_told.specs.declared.slots.Slot.{Slot}
use Rattle.khe_told.specs.declared.slots.Span.{Span}
use Rattle.khe_told.specs.declared.edits.Edit.TheVariants.{Split, Merge}
use Rattle.khe_instance.specs.Lookups.{place_at}
use Rattle.khe_solution.specs.Reading.{is_fixed_event, is_free_of, free_slot, same_resource, same_given, follows}
use Rattle.khe_solution.specs.Refusing.{first_refusal, split_row, merge_row}
use Rattle.khe_solution.specs.Editing.{edited, with_meet, later, cut_at, joined_at}
use Rattle.khe_solution.specs.Changing.{changes, cutting, joining, whole, first_part, second_part, joined, cut_changes}
use Rattle.khe_solution.specs.Changing.{join_changes}
use Rattle.khe_solution.specs.Backs.{back_of, undone, undone_changes}
use Rattle.khe_told.specs.Valid.{AreValid, IsKeptBy, IsFixedAs}
use Rattle.khe_solution.proofs.Basics.{true-false, not-false, passed, live_there, set_comm}
use Rattle.khe_solution.proofs.EditingLaws.{span_of}
use Rattle.khe_solution.proofs.Stages.{Goes, not_fixed}
use Rattle.khe_solution.proofs.CutJoin.{ArePair, both_set, with_none, row, cutting_leads, joining_leads}
use Rattle.khe_told.proofs.SlotLaws.{told_after}
use Rattle.khe_solution.proofs.Owners.{equal_places, free_there, one_held}
use Rattle.khe_solution.proofs.Works.{Works}

-- two of the slots in which something else stands
set_first : (s : List Slot) (m n : ℕ) (u v : Slot) → m < length s → slot_at (both_set s m n u v) m ≡ u
set_first s m n u v l = let k = length-set s n v in get_or-set_same (set s n v) m u no_slot (omega (arith, k, l))

set_second : (s : List Slot) (m n : ℕ) (u v : Slot) → (n ≡ m → ⊥) → n < length s → slot_at (both_set s m n u v) n ≡ v
set_second s m n u v d l = get_or-set_other (set s n v) m n u no_slot d ∙ get_or-set_same s n v no_slot l

set_again : (s : List Slot) (m n : ℕ) (u v u2 v2 : Slot) → (n ≡ m → ⊥)
    → both_set (both_set s m n u v) m n u2 v2 ≡ both_set s m n u2 v2
set_again s m n u v u2 v2 d =
    ap (λ q. set q m u2) (set_comm (set s n v) m n u v2 d ∙ ap (λ q. set q m u) (set-set s n v v2))
    ∙ set-set (set s n v2) m u u2

set_none : (s : List Slot) (m n : ℕ) → both_set s m n (slot_at s m) (slot_at s n) ≡ s
set_none s m n = ap (λ q. set q m (slot_at s m)) (set-get_or s n no_slot) ∙ set-get_or s m no_slot

-- a valid state in which two slots of an event hold as much together
valid_pair : (p : Parts) (s : List Slot) (m n : ℕ) (u v : Slot) → AreValid p s → ArePair p s m n
    → AreTold p (both_set s m n u v)
    → ((e : ℕ) → held_by e u + held_by e v ≡ held_by e (slot_at s m) + held_by e (slot_at s n))
    → ((e : ℕ) (event : EventInfo) (t : TimeId) → slice_get p.events e ≡ Some event → event.fixed ≡ Some t
    → IsFixedAs e t event.duration u × IsFixedAs e t event.duration v)
    → IsKeptBy p u → IsKeptBy p v → AreValid p (both_set s m n u v)
valid_pair p s m n u v ok w told h fix i j = record {
  told = told;
  whole = λ e event g.
      let l = length-set s n v in
      let a = sum_by-set (held_by e) s n v no_slot w.second in
      let first : m < length (set s n v) = let k = w.first in omega (arith, l, k) in
      let b = sum_by-set (held_by e) (set s n v) m u no_slot first in
      let same : held_by e (slot_at (set s n v) m) ≡ held_by e (slot_at s m) =
      ap (held_by e) (get_or-set_other s n m v no_slot (λ q. w.apart (sym q))) in
      let c = ok.whole e event g in
      let d = h e in
      omega (arith, a, b, same, c, d);
  fixed = λ e event t g f.
      let q = fix e event t g f in
      All-set (IsFixedAs e t event.duration) (set s n v) m u q.0
      (All-set (IsFixedAs e t event.duration) s n v q.1 (ok.fixed e event t g f));
  kept = All-set (IsKeptBy p) (set s n v) m u i (All-set (IsKeptBy p) s n v j ok.kept);
}

-- what two slots of one event hold
held_pair : (b c : Bool) (q r q2 r2 : ℕ) → c ≡ b → q + r ≡ q2 + r2 → cond b q 0 + cond c r 0 ≡ cond b q2 0 + cond c r2 0
held_pair true true q r q2 r2 e h = h
held_pair false false q r q2 r2 e h = refl
held_pair true false q r q2 r2 e h = absurd (true-false (sym e))
held_pair false true q r q2 r2 e h = absurd (true-false e)

-- a slot with the meet of another of its event, as far as its places are kept
kept_with : (p : Parts) (x z : Slot) (d : ℕ) (t : Option TimeId) → z.event.0 ≡ x.event.0 → is_live x ≡ true
    → IsKeptBy p x → IsKeptBy p (with_meet z d t x.given)
kept_with p x z d t e live h k place r a b c = h k place r (ap (λ q. place_at p.events q k) (sym e) ∙ a) b live

kept_empty : (p : Parts) (z : Slot) → IsKeptBy p (emptied z)
kept_empty p z k place r a b c = absurd (true-false (sym c))

-- a meet that can be cut, with the free slot for the rest
pub record MayCut (p : Parts) (s : List Slot) (m : MeetId) (cut : ℕ) : Type 0 where
  pub live : is_live (slot_at s m.0) ≡ true
  pub free : is_fixed_event p (slot_at s m.0).event.0 ≡ false
  pub some : 1 ≤ cut
  pub less : cut < length_of (slot_at s m.0)

pub may_cut : (p : Parts) (s : List Slot) (m : MeetId) (cut : ℕ) → first_refusal (split_row p s m cut) ≡ None
    → MayCut p s m cut
may_cut p s m cut h =
    let x = slot_at s m.0 in
    let a = passed (split_row p s m cut) h in
    let zero : cut ≡ 0 → ⊥ = λ e. true-false (sym (eq-eqb cut 0 e) ∙ a.1.1.0) in
    let less = leb-false (length_of x) cut a.1.1.1.0 in
    record { live = not-false (is_live x) a.0; free = a.1.0; some = positive cut zero; less = omega (arith, less) }
  where
    positive : (n : ℕ) → (n ≡ 0 → ⊥) → 1 ≤ n
    positive zero d = absurd (d refl)
    positive (suc n) d = omega arith

pub new_slot : (p : Parts) (s : List Slot) (m : MeetId) → AreTold p s → is_live (slot_at s m.0) ≡ true
    → 2 ≤ length_of (slot_at s m.0)
    → ArePair p s m.0 (free_slot s (slot_at s m.0).event.0)
    × ((slot_at s (free_slot s (slot_at s m.0).event.0)).span ≡ None)
new_slot p s m t live d =
    let x = slot_at s m.0 in
    let e = x.event.0 in
    let n = free_slot s e in
    let z = slot_at s n in
    let l = live_there s m.0 live in
    let k = free_there p s m.0 t l d in
    let is = and_parts (z.event.0 == e) (is_none z.span) (passes_at_first (is_free_of e) s no_slot k) in
    let own : z.event.0 ≡ e = eqb-true z.event.0 e is.0 in
    let none : z.span ≡ None = no_span z.span is.1 in (
      record {
        told = t;
        apart = λ q. true-false (sym live ∙ ap (λ j. is_live (slot_at s j)) (sym q) ∙ ap is_some none);
        first = l;
        second = k;
        event = own;
        places = equal_places p s m.0 n t l k own;
      },
      none,
    )
  where
    no_span : (o : Option Span) → is_none o ≡ true → o ≡ None
    no_span None h = refl
    no_span (Some y) h = absurd (true-false (sym h))

split_goes : (p : Parts) (s : List Slot) (m : MeetId) (cut n : ℕ) → AreValid p s → MayCut p s m cut → ArePair p s m.0 n
    → (slot_at s n).span ≡ None
    → Goes p s (cut_changes s m cut (record { 0 = n })) (cut_at s m.0 cut n)
split_goes p s m cut n v c w none =
    let x = slot_at s m.0 in
    let z = slot_at s n in
    let g = x.given in
    let hx = span_of x.span (start_of x) c.live refl in
    let u = with_meet x cut (start_of x) g in
    let y = with_meet z (length_of x - cut) (later cut (start_of x)) g in
    let leads = cutting_leads p s m (record { 0 = n }) (length_of x) cut (start_of x) w hx none c.some c.less in
    let lz : length_of z ≡ 0 = ap (λ o. option_map_or (λ (q : Span). q.duration) o 0) none in
    let sum : cut + (length_of x - cut) ≡ length_of x + length_of z = let k = c.less in omega (arith, lz, k) in
    let kx = All-get_or (IsKeptBy p) s m.0 no_slot w.first v.kept in
    record {
      fits = leads.fits;
      slots = leads.slots;
      valid = valid_pair p s m.0 n u y v w (subst (AreTold p) leads.slots
          (told_after p s (cut_changes s m cut (record { 0 = n })) v.told leads.fits))
          (λ e. held_pair (x.event.0 == e) (z.event.0 == e) cut (length_of x - cut) (length_of x) (length_of z)
          (ap (λ q. q == e) w.event) sum)
          (λ e event t a f. (
            (λ q r. absurd (not_fixed p x e event t c.free a f q)),
            (λ q r. absurd (not_fixed p x e event t c.free a f (sym w.event ∙ q))),
          ))
          (kept_with p x x cut (start_of x) refl c.live kx)
          (kept_with p x z (length_of x - cut) (later cut (start_of x)) w.event c.live kx);
    }

pub split_works : (p : Parts) (s : List Slot) (m : MeetId) (cut : ℕ) → AreValid p s
    → first_refusal (split_row p s m cut) ≡ None → Works p s (Split m cut)
unfolding changes edited back_of undone undone_changes
split_works p s m cut v h =
    let x = slot_at s m.0 in
    let c = may_cut p s m cut h in
    let long : 2 ≤ length_of x = let a = c.some in let b = c.less in omega (arith, a, b) in
    let f = new_slot p s m v.told c.live long in
    let w = f.0 in
    let n = free_slot s x.event.0 in
    let z = slot_at s n in
    let g = x.given in
    let t = start_of x in
    let rest = length_of x - cut in
    let u = with_meet x cut t g in
    let y = with_meet z rest (later cut t) g in
    let s2 = both_set s m.0 n u y in
    let ix = set_first s m.0 n u y w.first in
    let iz = set_second s m.0 n u y w.apart w.second in
    let sum : cut + rest ≡ length_of x = let k = c.less in omega (arith, k) in
    let hx = span_of x.span t c.live refl in
    let empty = (All-get_or (IsSlot p) s n no_slot w.second v.told.slots).empty f.1 in
    let backx : with_meet x (cut + rest) t g ≡ x =
    ap (λ d. with_meet x d t g) sum ∙ (λ i. record x { span = sym hx i }) in
    let backz : emptied y ≡ z = λ i. record z {
      span = sym f.1 i;
      given =
          (ap (λ k. replicate k None) (sym w.places) ∙ sym empty) i;
    } in
    record {
      goes = split_goes p s m cut n v c w f.1;
      back = (λ i. both_set s2 m.0 n (with_meet (ix i) (length_of (ix i) + length_of (iz i)) (start_of (ix i))
          (ix i).given) (emptied (iz i)))
          ∙ set_again s m.0 n u y (with_meet x (cut + rest) t g) (emptied y) w.apart
          ∙ (λ i. both_set s m.0 n (backx i) (backz i))
          ∙ set_none s m.0 n;
      list = (λ i. cutting (ix i).given (joined m (ix i) (iz i)) (whole m (ix i)) (whole (record { 0 = n }) (iz i)))
          ∙ (λ i. cutting g (record { meet = m; duration = sum i; start = t }) (first_part m x cut)
          (second_part (record { 0 = n }) x cut));
    }

-- where one meet follows another
later_start : (t : Option TimeId) (d : ℕ) (u : Option TimeId) → follows t d u ≡ true → later d t ≡ u
later_start None d None h = refl
later_start None d (Some b) h = absurd (true-false (sym h))
later_start (Some a) d None h = absurd (true-false (sym h))
later_start (Some a) d (Some b) h = ap (λ n. Some (record { 0 = n })) (eqb-true (a.0 + d) b.0 h)

later_end : (t : Option TimeId) (d k n : ℕ) (u : Option TimeId) → follows t d u ≡ true → IfSome u (λ q. q.0 + k ≤ n)
    → IfSome t (λ q. q.0 + (d + k) ≤ n)
later_end None d k n u h e = tt
later_end (Some a) d k n None h e = absurd (true-false (sym h))
later_end (Some a) d k n (Some b) h e = let f = eqb-true (a.0 + d) b.0 h in omega (arith, f, e)

resource_same : (a b : Option ResourceId) → same_resource a b ≡ true → a ≡ b
resource_same None None h = refl
resource_same None (Some b) h = absurd (true-false (sym h))
resource_same (Some a) None h = absurd (true-false (sym h))
resource_same (Some a) (Some b) h = ap (λ n. Some (record { 0 = n })) (sym (eqb-true b.0 a.0 h))

given_same : (xs ys : List (Option ResourceId)) → length ys ≡ length xs → same_given xs ys ≡ true → ys ≡ xs
given_same [] [] e h = refl
given_same [] (b ∷ bs) e h = absurd (omega (arith, e))
given_same (a ∷ rest) [] e h = absurd (true-false (sym h))
given_same (a ∷ rest) (b ∷ bs) e h =
    let k = and_parts (same_resource a b) (same_given rest bs) h in
    let l : length bs ≡ length rest = omega (arith, e) in
    λ i. sym (resource_same a b k.0) i ∷ given_same rest bs l k.1 i

-- two meets that can be joined
record MayJoin (p : Parts) (s : List Slot) (a b : MeetId) : Type 0 where
  pub pair : ArePair p s a.0 b.0
  pub first : is_live (slot_at s a.0) ≡ true
  pub second : is_live (slot_at s b.0) ≡ true
  pub start : follows (start_of (slot_at s a.0)) (length_of (slot_at s a.0)) (start_of (slot_at s b.0)) ≡ true
  pub given : (slot_at s b.0).given ≡ (slot_at s a.0).given

may_join : (p : Parts) (s : List Slot) (a b : MeetId) → AreTold p s → first_refusal (merge_row s a b) ≡ None
    → MayJoin p s a b
may_join p s a b t h =
    let x = slot_at s a.0 in
    let z = slot_at s b.0 in
    let k = passed (merge_row s a b) h in
    let live = not-false (is_live x) k.0 in
    let live2 = not-false (is_live z) k.1.0 in
    let l = live_there s a.0 live in
    let l2 = live_there s b.0 live2 in
    let own : z.event.0 ≡ x.event.0 = sym (eqb-true x.event.0 z.event.0 (not-false _ k.1.1.1.0)) in
    let places = equal_places p s a.0 b.0 t l l2 own in
    record {
      pair = record {
        told = t;
        apart = λ e. true-false (sym (eq-eqb a.0 b.0 (sym e)) ∙ k.1.1.0);
        first = l;
        second = l2;
        event = own;
        places = places;
      };
      first = live;
      second = live2;
      start = not-false _ k.1.1.1.1.0;
      given = given_same x.given z.given places (not-false _ k.1.1.1.1.1.0);
    }

-- a meet of an event with a preassigned time is the only one of it
alone : (p : Parts) (s s2 : List Slot) (a b : MeetId) (e : ℕ) (event : EventInfo) (t : TimeId) → AreValid p s
    → MayJoin p s a b → slice_get p.events e ≡ Some event → event.fixed ≡ Some t
    → (slot_at s a.0).event.0 ≡ e → held e s2 ≡ held e s
    → length_of (slot_at s a.0) + length_of (slot_at s b.0) ≤ held e s2 → ⊥
alone p s s2 a b e event t v j g f own h l =
    let x = slot_at s a.0 in
    let z = slot_at s b.0 in
    let w = j.pair in
    let fx = All-get_or (IsFixedAs e t event.duration) s a.0 no_slot w.first (v.fixed e event t g f) own j.first in
    let fz = All-get_or (IsFixedAs e t event.duration) s b.0 no_slot w.second (v.fixed e event t g f) (w.event ∙ own)
    j.second in
    let ix = All-get_or (IsSlot p) s a.0 no_slot w.first v.told.slots in
    let d : 1 ≤ length_of x = lasts x.span j.first ix.duration in
    let c = v.whole e event g in
    let q = fx.1 in
    let r = fz.1 in
    omega (arith, q, r, d, c, h, l)
  where
    lasts : (o : Option Span) → is_some o ≡ true → IfSome o (λ y. 1 ≤ y.duration)
        → 1 ≤ option_map_or (λ (y : Span). y.duration) o 0
    lasts None k i = absurd (true-false (sym k))
    lasts (Some y) k i = i

merge_goes : (p : Parts) (s : List Slot) (a b : MeetId) → AreValid p s → MayJoin p s a b
    → Goes p s (join_changes s a b) (joined_at s a.0 b.0)
merge_goes p s a b v j =
    let x = slot_at s a.0 in
    let z = slot_at s b.0 in
    let w = j.pair in
    let g = x.given in
    let t = start_of x in
    let d = length_of x + length_of z in
    let hx = span_of x.span t j.first refl in
    let hz = span_of z.span (start_of z) j.second refl in
    let iz = All-get_or (IsSlot p) s b.0 no_slot w.second v.told.slots in
    let endz : IfSome (start_of z) (λ q. q.0 + length_of z ≤ length p.times) =
    subst (λ o. IfSome o (λ (y : Span). IfSome y.start (λ q. q.0 + y.duration ≤ length p.times))) hz iz.ends in
    let leads = joining_leads p s a b (length_of x) (length_of z) t (start_of z) w hx hz j.given
    (later_end t (length_of x) (length_of z) (length p.times) (start_of z) j.start endz) in
    let u = with_meet x d t g in
    let y = emptied z in
    let s2 = both_set s a.0 b.0 u y in
    let same : both_set s a.0 b.0 u (with_none z (row (length g))) ≡ s2 =
    λ i. both_set s a.0 b.0 u (with_none z (row (sym w.places i))) in
    let to = leads.slots ∙ same in
    let told : AreTold p s2 = subst (AreTold p) to (told_after p s (join_changes s a b) v.told leads.fits) in
    let sum : d + 0 ≡ length_of x + length_of z = omega arith in
    let sums : (e : ℕ) → held_by e u + held_by e y ≡ held_by e x + held_by e z =
    λ e. held_pair (x.event.0 == e) (z.event.0 == e) d 0 (length_of x) (length_of z) (ap (λ q. q == e) w.event) sum in
    let kx = All-get_or (IsKeptBy p) s a.0 no_slot w.first v.kept in
    record {
      fits = leads.fits;
      slots = to;
      valid = valid_pair p s a.0 b.0 u y v w told sums
          (λ e event q k f. (
            (λ own live. absurd (both_fixed e event q k f own told sums)),
            (λ own live. absurd (true-false (sym live))),
          ))
          (kept_with p x x d t refl j.first kx) (kept_empty p z);
    }
  where
    both_fixed : (e : ℕ) (event : EventInfo) (q : TimeId) → slice_get p.events e ≡ Some event → event.fixed ≡ Some q
        → (slot_at s a.0).event.0 ≡ e
        → AreTold p (joined_at s a.0 b.0)
        → ((k : ℕ) → held_by k (with_meet (slot_at s a.0) (length_of (slot_at s a.0) + length_of (slot_at s b.0))
        (start_of (slot_at s a.0)) (slot_at s a.0).given) + held_by k (emptied (slot_at s b.0))
        ≡ held_by k (slot_at s a.0) + held_by k (slot_at s b.0)) → ⊥
    both_fixed e event q k f own told sums =
        let x = slot_at s a.0 in
        let z = slot_at s b.0 in
        let w = j.pair in
        let u = with_meet x (length_of x + length_of z) (start_of x) x.given in
        let y = emptied z in
        let s1 = set s b.0 y in
        let s2 = both_set s a.0 b.0 u y in
        let n = length-set s b.0 y in
        let m = length-set s1 a.0 u in
        let first : a.0 < length s1 = let i = w.first in omega (arith, n, i) in
        let there : a.0 < length s2 = let i = w.first in omega (arith, n, m, i) in
        let h1 = sum_by-set (held_by e) s b.0 y no_slot w.second in
        let h2 = sum_by-set (held_by e) s1 a.0 u no_slot first in
        let same : held_by e (slot_at s1 a.0) ≡ held_by e x =
        ap (held_by e) (get_or-set_other s b.0 a.0 y no_slot (λ i. w.apart (sym i))) in
        let all = sums e in
        let total : held e s2 ≡ held e s = omega (arith, h1, h2, same, all) in
        let one = one_held e s2 a.0 there in
        let mine : held_by e (slot_at s2 a.0) ≡ length_of x + length_of z =
        ap (held_by e) (set_first s a.0 b.0 u y w.first)
        ∙ ap (λ c. cond c (length_of x + length_of z) 0) (eq-eqb x.event.0 e own) in
        let big : length_of x + length_of z ≤ held e s2 = omega (arith, one, mine) in
        alone p s s2 a b e event q v j k f own total big

pub merge_works : (p : Parts) (s : List Slot) (a b : MeetId) → AreValid p s → first_refusal (merge_row s a b) ≡ None
    → Works p s (Merge a b)
unfolding changes edited back_of undone undone_changes
merge_works p s a b v h =
    let x = slot_at s a.0 in
    let z = slot_at s b.0 in
    let j = may_join p s a b v.told h in
    let w = j.pair in
    let g = x.given in
    let t = start_of x in
    let dx = length_of x in
    let d = dx + length_of z in
    let u = with_meet x d t g in
    let y = emptied z in
    let s2 = both_set s a.0 b.0 u y in
    let ix = set_first s a.0 b.0 u y w.first in
    let iz = set_second s a.0 b.0 u y w.apart w.second in
    let hx = span_of x.span t j.first refl in
    let hz = span_of z.span (start_of z) j.second refl in
    let rest : d - dx ≡ length_of z = omega arith in
    let next = later_start t dx (start_of z) j.start in
    let backx : with_meet x dx t g ≡ x = λ i. record x { span = sym hx i } in
    let backz : with_meet z (d - dx) (later dx t) g ≡ z =
    (λ i. with_meet z (rest i) (next i) (sym j.given i)) ∙ (λ i. record z { span = sym hz i }) in
    record {
      goes = merge_goes p s a b v j;
      back = (λ i. both_set s2 a.0 b.0 (with_meet (ix i) dx (start_of (ix i)) (ix i).given)
          (with_meet (iz i) (length_of (ix i) - dx) (later dx (start_of (ix i))) (ix i).given))
          ∙ set_again s a.0 b.0 u y (with_meet x dx t g) (with_meet z (d - dx) (later dx t) g) w.apart
          ∙ (λ i. both_set s a.0 b.0 (backx i) (backz i))
          ∙ set_none s a.0 b.0;
      list = (λ i. joining (ix i).given (first_part a (ix i) dx) (second_part b (ix i) dx) (whole a (ix i)))
          ∙ (λ i. joining g (whole a x) (record { meet = b; duration = rest i; start = next i }) (joined a x z));
    }
