-- One meet that becomes two, and two that become one: the stages, each on one of two slots of an event.
use Rattle.std.proofs.Common.{ℕ, ◌≡◌, ◌+◌, ◌-◌, ◌<◌, ◌≤◌, Bool, true, false, cond, Option, Some, None, List, [], ◌∷◌}
use Rattle.std.proofs.Common.{◌++◌, length, set, slice_get, refl, sym, ap, subst, ◌∙◌, arith, get_or-set_same}
use Rattle.std.proofs.Common.{get_or-set_other, set-set}
use Rattle.std.specs.Prelude.{replicate, IfSome, ◌==◌}
use Rattle.std.specs.Option.{option_map_or}
use Rattle.std.proofs.lemmas.Bool.{both_ways}
use Rattle.std.proofs.lemmas.List.{length-set, length-replicate, set-get_or}
use Rattle.std.proofs.Math.Seq.{map-set_same}
use Rattle.std.proofs.lemmas.List.Sums.{sum_by-set}
use Rattle.std.proofs.lemmas.List.Elements.{All-get_or, All-set}
use Rattle.khe_base.specs.declared.numbers.MeetId.{MeetId}
use Rattle.khe_base.specs.declared.numbers.ResourceId.{ResourceId}
use Rattle.khe_base.specs.declared.numbers.TimeId.{TimeId}
use Rattle.khe_instance.specs.declared.parts.Parts.{Parts}
use Rattle.khe_told.proofs.SlotLaws.{all_fit_both, after_both}
use Rattle.khe_told.specs.Slots.{no_slot, slot_at, emptied, length_of, held_by}
use Rattle.khe_told.specs.Changes.{changed, meet_of, after, after_all}
use Rattle.khe_told.specs.Fits.{AreTold, IsSlot, Suits, AllFit}
use Rattle.khe_told.specs.declared.slots.Slot.{Slot}
use Rattle.khe_told.specs.declared.slots.Span.{Span}
use Rattle.khe_told.specs.declared.changes.Change.{Change}
use Rattle.khe_told.specs.declared.changes.Change.TheVariants as change
use Rattle.khe_solution.specs.Editing.{later}
use Rattle.khe_solution.specs.Changing.{takes_from, gives_from, lifts, places, cutting, joining}
use Rattle.khe_solution.proofs.Basics.{IsThere, set_comm}
use Rattle.khe_solution.proofs.Rows.{Below, nothing_given, takes_fit, gives_fit}

-- a list of changes that leads from one told state to another
pub record Leads (p : Parts) (s : List Slot) (cs : List Change) (s2 : List Slot) : Type 0 where
  pub fits : AllFit p s cs
  pub slots : after_all s cs ≡ s2

pub leads_both : (p : Parts) (s s2 s3 : List Slot) (cs ds : List Change) → Leads p s cs s2 → Leads p s2 ds s3
    → Leads p s (cs ++ ds) s3
leads_both p s s2 s3 cs ds a b = record {
  fits = all_fit_both p s cs ds a.fits (subst (λ x. AllFit p x ds) (sym a.slots) b.fits);
  slots = after_both s cs ds ∙ ap (λ x. after_all x ds) a.slots ∙ b.slots;
}

-- one change of one slot
pub leads_one : (p : Parts) (s : List Slot) (m : ℕ) (u v : Slot) (c : Change) → m < length s → meet_of c ≡ m → Suits u c
    → changed u c ≡ v → AreTold p (set s m v) → Leads p (set s m u) (c ∷ []) (set s m v)
leads_one p s m u v c l e f g t =
    let there : slot_at (set s m u) m ≡ u = get_or-set_same s m u no_slot l in
    let turned : after (set s m u) c ≡ set s m v =
    ap (λ n. set (set s m u) n (changed (slot_at (set s m u) n) c)) e
    ∙ ap (λ z. set (set s m u) m (changed z c)) there ∙ ap (set (set s m u) m) g ∙ set-set s m u v in
    record {
      fits = (
        record {
          there = let j = length-set s m u in omega (arith, j, l, e);
          suits = subst (λ n. Suits (slot_at (set s m u) n) c) (sym e) (subst (λ z. Suits z c) (sym there) f);
          told = subst (AreTold p) (sym turned) t;
        },
        tt,
      );
      slots = turned;
    }

-- two slots of a state in place of others that hold as much or more together
pub told_two : (p : Parts) (s : List Slot) (m n : ℕ) (u v : Slot) → AreTold p s → (n ≡ m → ⊥) → m < length s
    → n < length s → emptied u ≡ emptied (slot_at s m) → emptied v ≡ emptied (slot_at s n)
    → IsSlot p u → IsSlot p v → ((e : ℕ) → held_by e u + held_by e v ≤ held_by e (slot_at s m) + held_by e
    (slot_at s n)) → AreTold p (set (set s m u) n v)
told_two p s m n u v t d l k a b i j h =
    let other : slot_at (set s m u) n ≡ slot_at s n = get_or-set_other s m n u no_slot d in
    let k2 : n < length (set s m u) = let z = length-set s m u in omega (arith, z, k) in
    record {
      whose = map-set_same emptied (set s m u) n v no_slot (b ∙ sym (ap emptied other))
          ∙ map-set_same emptied s m u no_slot a ∙ t.whose;
      slots = All-set (IsSlot p) (set s m u) n v j (All-set (IsSlot p) s m u i t.slots);
      durations = λ e event q.
          let w = sum_by-set (held_by e) s m u no_slot l in
          let y = sum_by-set (held_by e) (set s m u) n v no_slot k2 in
          let x = t.durations e event q in
          let z = ap (held_by e) other in
          let g = h e in
          omega (arith, w, x, y, z, g);
    }

-- a slot with a meet, and one without
abbrev pub with_all : Slot → ℕ → Option TimeId → List (Option ResourceId) → Slot
with_all x d t g = record x { span = Some (record { duration = d; start = t }); given = g }

abbrev pub with_none : Slot → List (Option ResourceId) → Slot
with_none x g = record x { span = None; given = g }

abbrev pub row : ℕ → List (Option ResourceId)
row n = replicate n None

-- the stages of a cut and of a join
pub lift_leads : (p : Parts) (s : List Slot) (m : MeetId) (x : Slot) (d : ℕ) (g : List (Option ResourceId))
    (t : Option TimeId) → m.0 < length s → AreTold p (set s m.0 (with_all x d None g))
    → Leads p (set s m.0 (with_all x d t g)) (lifts m t) (set s m.0 (with_all x d None g))
lift_leads p s m x d g None l h = record { fits = tt; slots = refl }
lift_leads p s m x d g (Some t) l h = leads_one p s m.0 (with_all x d (Some t) g) (with_all x d None g)
    (change.Lift m t) l refl (d, refl) refl h

pub place_leads : (p : Parts) (s : List Slot) (m : MeetId) (x : Slot) (d : ℕ) (g : List (Option ResourceId))
    (t : Option TimeId) → m.0 < length s → AreTold p (set s m.0 (with_all x d t g))
    → Leads p (set s m.0 (with_all x d None g)) (places m t) (set s m.0 (with_all x d t g))
place_leads p s m x d g None l h = record { fits = tt; slots = refl }
place_leads p s m x d g (Some t) l h = leads_one p s m.0 (with_all x d None g) (with_all x d (Some t) g)
    (change.Place m t) l refl (d, refl) refl h

pub takes_leads : (p : Parts) (s : List Slot) (m : MeetId) (x : Slot) (d : ℕ) (g : List (Option ResourceId))
    → m.0 < length s → AreTold p (set s m.0 (with_all x d None g)) → IsSlot p (with_all x d None g)
    → Leads p (set s m.0 (with_all x d None g)) (takes_from m 0 g) (set s m.0 (with_all x d None (row (length g))))
takes_leads p s m x d g l h i =
    let f = takes_fit p s m (with_all x d None g) (record { duration = d; start = None }) [] g 0 refl l refl h i in
    record { fits = f.0; slots = f.1 }

pub gives_leads : (p : Parts) (s : List Slot) (m : MeetId) (x : Slot) (d : ℕ) (g : List (Option ResourceId))
    → m.0 < length s → AreTold p (set s m.0 (with_all x d None (row (length g)))) → IsSlot p (with_all x d None g)
    → Leads p (set s m.0 (with_all x d None (row (length g)))) (gives_from m 0 g) (set s m.0 (with_all x d None g))
gives_leads p s m x d g l h i =
    let f = gives_fit p s m (with_all x d None g) (record { duration = d; start = None }) [] g 0 refl l refl h i in
    record { fits = f.0; slots = f.1 }

pub drop_leads : (p : Parts) (s : List Slot) (m : MeetId) (x : Slot) (d n : ℕ) → m.0 < length s
    → AreTold p (set s m.0 (with_none x (row n)))
    → Leads p (set s m.0 (with_all x d None (row n))) (change.Drop m d ∷ []) (set s m.0 (with_none x (row n)))
drop_leads p s m x d n l h = leads_one p s m.0 (with_all x d None (row n)) (with_none x (row n)) (change.Drop m d) l
    refl (refl, sym (ap row (length-replicate n None))) refl h

pub add_leads : (p : Parts) (s : List Slot) (m : MeetId) (x : Slot) (d : ℕ) (g : List (Option ResourceId))
    → m.0 < length s → AreTold p (set s m.0 (with_all x d None g))
    → Leads p (set s m.0 (with_none x g)) (change.Add m d ∷ []) (set s m.0 (with_all x d None g))
add_leads p s m x d g l h = leads_one p s m.0 (with_none x g) (with_all x d None g) (change.Add m d) l refl refl refl h

pub all_slot : (p : Parts) (x w : Slot) (e : ℕ) (t : Option TimeId) (g : List (Option ResourceId)) → IsSlot p x
    → w.event.0 ≡ x.event.0 → 1 ≤ e → IfSome t (λ q. q.0 + e ≤ length p.times) → Below g x.given
    → IsSlot p (with_all w e t g)
all_slot p x w e t g i v l f b = record {
  duration = l;
  ends = f;
  given = λ ev k place r a c d. i.given ev k place r (ap (slice_get p.events) (sym v) ∙ a) c (b k r d);
  empty = λ n. absurd (subst IsThere n tt);
}

none_slot : (p : Parts) (w : Slot) (n : ℕ) → IsSlot p (with_none w (row n))
none_slot p w n = record {
  duration = tt;
  ends = tt;
  given = λ ev k place r a c d. absurd (nothing_given n k r d);
  empty = λ h. sym (ap row (length-replicate n None));
}

row_below : (n : ℕ) (g : List (Option ResourceId)) → Below (row n) g
row_below n g j r h = absurd (nothing_given n j r h)

pub self_below : (g : List (Option ResourceId)) → Below g g
self_below g j r h = h

-- two slots of one event
pub record ArePair (p : Parts) (s : List Slot) (m n : ℕ) : Type 0 where
  pub told : AreTold p s
  pub apart : n ≡ m → ⊥
  pub first : m < length s
  pub second : n < length s
  pub event : (slot_at s n).event.0 ≡ (slot_at s m).event.0
  pub places : length (slot_at s n).given ≡ length (slot_at s m).given

-- the state with other meets in the two
abbrev pub both_set : List Slot → ℕ → ℕ → Slot → Slot → List Slot
both_set s m n u v = set (set s n v) m u

emptied_all : (x : Slot) (g : List (Option ResourceId)) (o : Option Span) → length g ≡ length x.given
    → emptied (record x { span = o; given = g }) ≡ emptied x
emptied_all x g o e = λ j. record x { span = None; given = row (e j) }

pub told_pair : (p : Parts) (s : List Slot) (m n : ℕ) (a b : Option Span) (g h : List (Option ResourceId))
    → ArePair p s m n → length g ≡ length (slot_at s m).given → length h ≡ length (slot_at s n).given
    → IsSlot p (record (slot_at s m) { span = a; given = g }) → IsSlot p (record (slot_at s n) { span = b; given = h })
    → length_of (record (slot_at s m) { span = a; given = g }) + length_of
    (record (slot_at s n) { span = b; given = h }) ≤ length_of (slot_at s m) + length_of (slot_at s n)
    → AreTold p (both_set s m n (record (slot_at s m) { span = a; given = g })
    (record (slot_at s n) { span = b; given = h }))
told_pair p s m n a b g h w e f i j l =
    let x = slot_at s m in
    let z = slot_at s n in
    let u = record x { span = a; given = g } in
    let v = record z { span = b; given = h } in
    subst (AreTold p) (set_comm s m n u v w.apart)
    (told_two p s m n u v w.told w.apart w.first w.second (emptied_all x g a e) (emptied_all z h b f) i j
    (λ ev. at_event (x.event.0 == ev) (z.event.0 == ev) (length_of u) (length_of v) (length_of x) (length_of z)
    (ap (λ q. q == ev) w.event) l))
  where
    at_event : (c c2 : Bool) (q r q2 r2 : ℕ) → c2 ≡ c → q + r ≤ q2 + r2
        → cond c q 0 + cond c2 r 0 ≤ cond c q2 0 + cond c2 r2 0
    at_event true true q r q2 r2 e l = l
    at_event false false q r q2 r2 e l = omega arith
    at_event true false q r q2 r2 e l = absurd (both_ways false refl e)
    at_event false true q r q2 r2 e l = absurd (both_ways true e refl)

leads_second : (p : Parts) (s : List Slot) (m n : ℕ) (u v v2 : Slot) (cs : List Change) → (n ≡ m → ⊥)
    → Leads p (set (set s m u) n v) cs (set (set s m u) n v2) → Leads p (both_set s m n u v) cs (both_set s m n u v2)
leads_second p s m n u v v2 cs d l = subst (λ x. Leads p x cs (both_set s m n u v2)) (set_comm s m n u v d)
    (subst (λ x. Leads p (set (set s m u) n v) cs x) (set_comm s m n u v2 d) l)

second_told : (p : Parts) (s : List Slot) (m n : ℕ) (u v : Slot) → (n ≡ m → ⊥) → AreTold p (both_set s m n u v)
    → AreTold p (set (set s m u) n v)
second_told p s m n u v d t = subst (AreTold p) (sym (set_comm s m n u v d)) t

later_ends : (t : Option TimeId) (c d n : ℕ) → IfSome t (λ q. q.0 + d ≤ n) → c ≤ d
    → IfSome t (λ q. q.0 + c ≤ n) × IfSome (later c t) (λ q. q.0 + (d - c) ≤ n)
later_ends None c d n h l = (tt, tt)
later_ends (Some t) c d n h l = (omega (arith, h, l), omega (arith, h, l))

pub cutting_leads : (p : Parts) (s : List Slot) (mi ni : MeetId) (dx c : ℕ) (t : Option TimeId) → ArePair p s mi.0 ni.0
    → (slot_at s mi.0).span ≡ Some (record { duration = dx; start = t }) → (slot_at s ni.0).span ≡ None
    → 1 ≤ c → c < dx
    → Leads p s (cutting (slot_at s mi.0).given (record { meet = mi; duration = dx; start = t })
    (record { meet = mi; duration = c; start = t }) (record { meet = ni; duration = dx - c; start = later c t }))
    (both_set s mi.0 ni.0 (with_all (slot_at s mi.0) c t (slot_at s mi.0).given)
    (with_all (slot_at s ni.0) (dx - c) (later c t) (slot_at s mi.0).given))
cutting_leads p s mi ni dx c t w hx hz l1 l2 =
    let m = mi.0 in
    let n = ni.0 in
    let x = slot_at s m in
    let z = slot_at s n in
    let g = x.given in
    let r = row (length g) in
    let ix : IsSlot p x = All-get_or (IsSlot p) s m no_slot w.first w.told.slots in
    let iz : IsSlot p z = All-get_or (IsSlot p) s n no_slot w.second w.told.slots in
    let ends : IfSome t (λ q. q.0 + dx ≤ length p.times) =
    subst (λ o. IfSome o (λ (y : Span). IfSome y.start (λ q. q.0 + y.duration ≤ length p.times))) hx ix.ends in
    let le : c ≤ dx = omega (arith, l2) in
    let parts = later_ends t c dx (length p.times) ends le in
    let big : 1 ≤ dx = omega (arith, l2) in
    let rest1 : 1 ≤ dx - c = omega (arith, l2) in
    let rn : length r ≡ length g = length-replicate (length g) None in
    let rz : length r ≡ length z.given = rn ∙ sym w.places in
    let gz : length g ≡ length z.given = sym w.places in
    let lx : length_of x ≡ dx = ap (λ o. option_map_or (λ (y : Span). y.duration) o 0) hx in
    let lz : length_of z ≡ 0 = ap (λ o. option_map_or (λ (y : Span). y.duration) o 0) hz in
    let nz = none_slot p z (length g) in
    let nx = none_slot p x (length g) in
    let t1 = told_pair p s m n (Some (record { duration = dx; start = None })) None g r w refl rz
    (all_slot p x x dx None g ix refl big tt (self_below g)) nz (omega (arith, lx, lz)) in
    let t3 = told_pair p s m n None None r r w rn rz nx nz (omega (arith, lx, lz)) in
    let t4 = told_pair p s m n (Some (record { duration = c; start = None })) None r r w rn rz
    (all_slot p x x c None r ix refl l1 tt (row_below (length g) g)) nz (omega (arith, lx, lz, le)) in
    let t5 = told_pair p s m n (Some (record { duration = c; start = None }))
    (Some (record { duration = dx - c; start = None })) r r w rn rz
    (all_slot p x x c None r ix refl l1 tt (row_below (length g) g))
    (all_slot p x z (dx - c) None r ix w.event rest1 tt (row_below (length g) g)) (omega (arith, lx, lz, le)) in
    let t6 = told_pair p s m n (Some (record { duration = c; start = None }))
    (Some (record { duration = dx - c; start = None })) g r w refl rz
    (all_slot p x x c None g ix refl l1 tt (self_below g))
    (all_slot p x z (dx - c) None r ix w.event rest1 tt (row_below (length g) g)) (omega (arith, lx, lz, le)) in
    let t8 = told_pair p s m n (Some (record { duration = c; start = t }))
    (Some (record { duration = dx - c; start = None })) g g w refl gz
    (all_slot p x x c t g ix refl l1 parts.0 (self_below g))
    (all_slot p x z (dx - c) None g ix w.event rest1 tt (self_below g)) (omega (arith, lx, lz, le)) in
    let t9 = told_pair p s m n (Some (record { duration = c; start = t }))
    (Some (record { duration = dx - c; start = later c t })) g g w refl gz
    (all_slot p x x c t g ix refl l1 parts.0 (self_below g))
    (all_slot p x z (dx - c) (later c t) g ix w.event rest1 parts.1 (self_below g)) (omega (arith, lx, lz, le)) in
    let z0 : z ≡ with_none z r = λ j. record z { span = hz j; given = (iz.empty hz ∙ ap row w.places) j } in
    let x0 : x ≡ with_all x dx t g = λ j. record x { span = hx j } in
    let begin : s ≡ both_set s m n (with_all x dx t g) (with_none z r) =
    sym (set-get_or s m no_slot) ∙ ap (λ q. set q m x) (sym (set-get_or s n no_slot))
    ∙ (λ j. set (set s n (z0 j)) m (x0 j)) in
    let fl : (v : Slot) → m < length (set s n v) = λ v. let q = length-set s n v in let f = w.first in
    omega (arith, q, f) in
    let sl : (u : Slot) → n < length (set s m u) = λ u. let q = length-set s m u in let f = w.second in
    omega (arith, q, f) in
    let v0 = with_none z r in
    let v5 = with_all z (dx - c) None r in
    let v7 = with_all z (dx - c) None g in
    let v9 = with_all z (dx - c) (later c t) g in
    let u4 = with_all x c None r in
    let u6 = with_all x c None g in
    let u8 = with_all x c t g in
    let is1 = all_slot p x x dx None g ix refl big tt (self_below g) in
    let is6 = all_slot p x x c None g ix refl l1 tt (self_below g) in
    let is7 = all_slot p x z (dx - c) None g ix w.event rest1 tt (self_below g) in
    let j1 = lift_leads p (set s n v0) mi x dx g t (fl v0) t1 in
    let j2 = takes_leads p (set s n v0) mi x dx g (fl v0) t1 is1 in
    let j3 = drop_leads p (set s n v0) mi x dx (length g) (fl v0) t3 in
    let j4 = add_leads p (set s n v0) mi x c r (fl v0) t4 in
    let j5 = leads_second p s m n u4 v0 v5 (change.Add ni (dx - c) ∷ []) w.apart
    (add_leads p (set s m u4) ni z (dx - c) r (sl u4) (second_told p s m n u4 v5 w.apart t5)) in
    let j6 = gives_leads p (set s n v5) mi x c g (fl v5) t5 is6 in
    let j7 = leads_second p s m n u6 v5 v7 (gives_from ni 0 g) w.apart
    (gives_leads p (set s m u6) ni z (dx - c) g (sl u6) (second_told p s m n u6 v5 w.apart t6) is7) in
    let j8 = place_leads p (set s n v7) mi x c g t (fl v7) t8 in
    let j9 = leads_second p s m n u8 v7 v9 (places ni (later c t)) w.apart
    (place_leads p (set s m u8) ni z (dx - c) g (later c t) (sl u8) (second_told p s m n u8 v9 w.apart t9)) in
    let end9 = both_set s m n u8 v9 in
    let k8 = leads_both p (both_set s m n u6 v7) (both_set s m n u8 v7) end9 (places mi t) (places ni (later c t)) j8
    j9 in
    let k7 = leads_both p (both_set s m n u6 v5) (both_set s m n u6 v7) end9 (gives_from ni 0 g) _ j7 k8 in
    let k6 = leads_both p (both_set s m n u4 v5) (both_set s m n u6 v5) end9 (gives_from mi 0 g) _ j6 k7 in
    let k5 = leads_both p (both_set s m n u4 v0) (both_set s m n u4 v5) end9 (change.Add ni (dx - c) ∷ []) _ j5 k6 in
    let k4 = leads_both p (both_set s m n (with_none x r) v0) (both_set s m n u4 v0) end9 (change.Add mi c ∷ []) _ j4
    k5 in
    let k3 = leads_both p (both_set s m n (with_all x dx None r) v0) (both_set s m n (with_none x r) v0) end9
    (change.Drop mi dx ∷ []) _ j3 k4 in
    let k2 = leads_both p (both_set s m n (with_all x dx None g) v0) (both_set s m n (with_all x dx None r) v0) end9
    (takes_from mi 0 g) _ j2 k3 in
    let k1 = leads_both p (both_set s m n (with_all x dx t g) v0) (both_set s m n (with_all x dx None g) v0) end9
    (lifts mi t) _ j1 k2 in
    subst (λ q. Leads p q (cutting g (record { meet = mi; duration = dx; start = t })
    (record { meet = mi; duration = c; start = t }) (record { meet = ni; duration = dx - c; start = later c t }))
    end9) (sym begin) k1

pub joining_leads : (p : Parts) (s : List Slot) (mi ni : MeetId) (d1 d2 : ℕ) (t1 t2 : Option TimeId)
    → ArePair p s mi.0 ni.0 → (slot_at s mi.0).span ≡ Some (record { duration = d1; start = t1 })
    → (slot_at s ni.0).span ≡ Some (record { duration = d2; start = t2 })
    → (slot_at s ni.0).given ≡ (slot_at s mi.0).given → IfSome t1 (λ q. q.0 + (d1 + d2) ≤ length p.times)
    → Leads p s (joining (slot_at s mi.0).given (record { meet = mi; duration = d1; start = t1 })
    (record { meet = ni; duration = d2; start = t2 }) (record { meet = mi; duration = d1 + d2; start = t1 }))
    (both_set s mi.0 ni.0 (with_all (slot_at s mi.0) (d1 + d2) t1 (slot_at s mi.0).given)
    (with_none (slot_at s ni.0) (row (length (slot_at s mi.0).given))))
joining_leads p s mi ni d1 d2 t1 t2 w hx hz hg ends =
    let m = mi.0 in
    let n = ni.0 in
    let x = slot_at s m in
    let z = slot_at s n in
    let g = x.given in
    let r = row (length g) in
    let ix : IsSlot p x = All-get_or (IsSlot p) s m no_slot w.first w.told.slots in
    let iz : IsSlot p z = All-get_or (IsSlot p) s n no_slot w.second w.told.slots in
    let one1 : 1 ≤ d1 = subst (λ o. IfSome o (λ (y : Span). 1 ≤ y.duration)) hx ix.duration in
    let one2 : 1 ≤ d2 = subst (λ o. IfSome o (λ (y : Span). 1 ≤ y.duration)) hz iz.duration in
    let one3 : 1 ≤ d1 + d2 = omega (arith, one1) in
    let rn : length r ≡ length g = length-replicate (length g) None in
    let rz : length r ≡ length z.given = rn ∙ sym w.places in
    let gz : length g ≡ length z.given = sym w.places in
    let lx : length_of x ≡ d1 = ap (λ o. option_map_or (λ (y : Span). y.duration) o 0) hx in
    let lz : length_of z ≡ d2 = ap (λ o. option_map_or (λ (y : Span). y.duration) o 0) hz in
    let nz = none_slot p z (length g) in
    let nx = none_slot p x (length g) in
    let x1 = all_slot p x x d1 None g ix refl one1 tt (self_below g) in
    let x2 = all_slot p x x d1 None r ix refl one1 tt (row_below (length g) g) in
    let z0s = all_slot p z z d2 t2 g iz refl one2
    (subst (λ o. IfSome o (λ (y : Span). IfSome y.start (λ q. q.0 + y.duration ≤ length p.times))) hz iz.ends)
    (λ j q k. ap (λ v. slice_get v j) hg ∙ k) in
    let z1 = all_slot p x z d2 None g ix w.event one2 tt (self_below g) in
    let z2 = all_slot p x z d2 None r ix w.event one2 tt (row_below (length g) g) in
    let x6 = all_slot p x x (d1 + d2) None r ix refl one3 tt (row_below (length g) g) in
    let x7 = all_slot p x x (d1 + d2) None g ix refl one3 tt (self_below g) in
    let x8 = all_slot p x x (d1 + d2) t1 g ix refl one3 ends (self_below g) in
    let a1 = Some (record { duration = d1; start = None }) in
    let b1 = Some (record { duration = d2; start = None }) in
    let c1 = Some (record { duration = d1 + d2; start = None }) in
    let u0 = with_all x d1 t1 g in
    let u1 = with_all x d1 None g in
    let u2 = with_all x d1 None r in
    let u3 = with_none x r in
    let u6 = with_all x (d1 + d2) None r in
    let u7 = with_all x (d1 + d2) None g in
    let u8 = with_all x (d1 + d2) t1 g in
    let v0 = with_all z d2 t2 g in
    let v1 = with_all z d2 None g in
    let v2 = with_all z d2 None r in
    let v3 = with_none z r in
    let as_long : d1 + d2 ≤ length_of x + length_of z = omega (arith, lx, lz) in
    let shorter : 0 + d2 ≤ length_of x + length_of z = omega (arith, lz) in
    let none : 0 + 0 ≤ length_of x + length_of z = omega arith in
    let both : (d1 + d2) + 0 ≤ length_of x + length_of z = omega (arith, lx, lz) in
    let k1 = told_pair p s m n a1 (Some (record { duration = d2; start = t2 })) g g w refl gz x1 z0s as_long in
    let k2 = told_pair p s m n a1 b1 g g w refl gz x1 z1 as_long in
    let k3 = told_pair p s m n a1 b1 r g w rn gz x2 z1 as_long in
    let k5 = told_pair p s m n None b1 r r w rn rz nx z2 shorter in
    let k6 = told_pair p s m n None None r r w rn rz nx nz none in
    let k7 = told_pair p s m n c1 None r r w rn rz x6 nz both in
    let k9 = told_pair p s m n (Some (record { duration = d1 + d2; start = t1 })) None g r w refl rz x8 nz both in
    let fl : (v : Slot) → m < length (set s n v) = λ v. let q = length-set s n v in let f = w.first in
    omega (arith, q, f) in
    let sl : (u : Slot) → n < length (set s m u) = λ u. let q = length-set s m u in let f = w.second in
    omega (arith, q, f) in
    let zz : z ≡ v0 = λ j. record z { span = hz j; given = hg j } in
    let xx : x ≡ u0 = λ j. record x { span = hx j } in
    let begin : s ≡ both_set s m n u0 v0 =
    sym (set-get_or s m no_slot) ∙ ap (λ q. set q m x) (sym (set-get_or s n no_slot))
    ∙ (λ j. set (set s n (zz j)) m (xx j)) in
    let j1 = lift_leads p (set s n v0) mi x d1 g t1 (fl v0) k1 in
    let j2 = leads_second p s m n u1 v0 v1 (lifts ni t2) w.apart
    (lift_leads p (set s m u1) ni z d2 g t2 (sl u1) (second_told p s m n u1 v1 w.apart k2)) in
    let j3 = takes_leads p (set s n v1) mi x d1 g (fl v1) k2 x1 in
    let j4 = leads_second p s m n u2 v1 v2 (takes_from ni 0 g) w.apart
    (takes_leads p (set s m u2) ni z d2 g (sl u2) (second_told p s m n u2 v1 w.apart k3) z1) in
    let j5 = drop_leads p (set s n v2) mi x d1 (length g) (fl v2) k5 in
    let j6 = leads_second p s m n u3 v2 v3 (change.Drop ni d2 ∷ []) w.apart
    (drop_leads p (set s m u3) ni z d2 (length g) (sl u3) (second_told p s m n u3 v3 w.apart k6)) in
    let j7 = add_leads p (set s n v3) mi x (d1 + d2) r (fl v3) k7 in
    let j8 = gives_leads p (set s n v3) mi x (d1 + d2) g (fl v3) k7 x7 in
    let j9 = place_leads p (set s n v3) mi x (d1 + d2) g t1 (fl v3) k9 in
    let last = both_set s m n u8 v3 in
    let e8 = leads_both p (both_set s m n u6 v3) (both_set s m n u7 v3) last (gives_from mi 0 g) (places mi t1) j8 j9 in
    let e7 = leads_both p (both_set s m n u3 v3) (both_set s m n u6 v3) last (change.Add mi (d1 + d2) ∷ []) _ j7 e8 in
    let e6 = leads_both p (both_set s m n u3 v2) (both_set s m n u3 v3) last (change.Drop ni d2 ∷ []) _ j6 e7 in
    let e5 = leads_both p (both_set s m n u2 v2) (both_set s m n u3 v2) last (change.Drop mi d1 ∷ []) _ j5 e6 in
    let e4 = leads_both p (both_set s m n u2 v1) (both_set s m n u2 v2) last (takes_from ni 0 g) _ j4 e5 in
    let e3 = leads_both p (both_set s m n u1 v1) (both_set s m n u2 v1) last (takes_from mi 0 g) _ j3 e4 in
    let e2 = leads_both p (both_set s m n u1 v0) (both_set s m n u1 v1) last (lifts ni t2) _ j2 e3 in
    let e1 = leads_both p (both_set s m n u0 v0) (both_set s m n u1 v0) last (lifts mi t1) _ j1 e2 in
    subst (λ q. Leads p q (joining g (record { meet = mi; duration = d1; start = t1 })
    (record { meet = ni; duration = d2; start = t2 }) (record { meet = mi; duration = d1 + d2; start = t1 })) last)
    (sym begin) e1
