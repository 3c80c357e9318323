-- Two meets that get each other's starts, and the followers of both.
use Rattle.std.proofs.Common.{ℕ, ◌≡◌, ◌≢◌, ◌+◌, ◌<◌, ◌≤◌, ◌⊎◌, inl, inr, true, false, Bool, cond, Option, Some, None, List, [], ◌∷◌}
use Rattle.std.proofs.Common.{length, refl, sym, ap, subst, ◌∙◌, arith}
use Rattle.std.specs.Prelude.{IfSome, ◌&&◌}
use Rattle.std.specs.Option.{option_and_then, option_map_or}
use Rattle.std.proofs.lemmas.Bool.{eq-eqb, ne_eqb}
use Rattle.std.proofs.lemmas.List.{length-set}
use Rattle.khe_base.specs.declared.numbers.MeetId.{MeetId}
use Rattle.khe_base.specs.declared.numbers.TimeId.{TimeId}
use Rattle.khe_instance.specs.declared.parts.Parts.{Parts}
use Rattle.khe_told.specs.Fits.{IsSlot}
use Rattle.khe_told.specs.Slots.{is_live, length_of, no_slot, slot_at, start_of}
use Rattle.khe_told.specs.Valid.{AreValid}
use Rattle.khe_told.specs.declared.edits.Edit.TheVariants.{SwapMeets}
use Rattle.khe_told.specs.declared.slots.Slot.{Slot}
use Rattle.khe_told.specs.declared.slots.Span.{Span}
use Rattle.khe_solution.specs.Editing as editing
use Rattle.khe_solution.specs.Editing.{later, timed, with_start}
use Rattle.khe_solution.specs.Reading.{is_fixed_event}
use Rattle.khe_solution.specs.Refusing as refusing
use Rattle.khe_solution.specs.Refusing.{swap_meets_row}
use Rattle.khe_solution.proofs.Basics.{cases_eq, live_there, not-false, no_value, passed, true-false}
use Rattle.khe_solution.proofs.EditingLaws.{IsRetimed, start_given, timed_other, timed_reads, timed_same}
use Rattle.khe_engine.specs.States.{State, edited, made, refusal}
use Rattle.khe_engine.proofs.StateLaws.{edited_meets, refusal_meets}
use Rattle.followers.specs.Bars.{bar, barred_by}
use Rattle.followers.specs.Carrying.{AreCarried, MayCarry, carried}
use Rattle.followers.specs.Records.{with_ties}
use Rattle.followers.specs.Tables.{base_refusal, settled}
use Rattle.followers.specs.Ties.{IsTied, follows, in_place, placed, tie_at}
use Rattle.followers.specs.declared.edits.Tie.{Tie}
use Rattle.followers.specs.declared.edits.TiedRefusal.TheVariants.{Follower}
use Rattle.followers.proofs.BarLaws.{accepted}
use Rattle.followers.proofs.SettleLaws.{place_at, place_long, placed_same, same_slots, settled_tied}
use Rattle.followers.proofs.StartLaws.{IsFollowed}

-- an accepted exchange is of two live meets that follow none
pub record IsOpenSwap (s : List Slot) (ties : List (Option Tie)) (a b : ℕ) : Type 0 where
  pub first : is_live (slot_at s a) ≡ true
  pub second : is_live (slot_at s b) ≡ true
  pub apart : a ≢ b
  pub first_free : tie_at ties a ≡ None
  pub second_free : tie_at ties b ≡ None

swap_bar : (x y f g : Bool) → x ≡ true → y ≡ true
    → barred_by (x && y) ((f, Follower) ∷ (g, Follower) ∷ []) ≡ None → (f ≡ false) × (g ≡ false)
swap_bar true true false false e i h = (refl, refl)
swap_bar true true false true e i h = let z : ⊥ = cc in absurd z
swap_bar true true true g e i h = let z : ⊥ = cc in absurd z
swap_bar true false f g e i h = absurd (true-false (sym i))
swap_bar false y f g e i h = absurd (true-false (sym e))

pub swap_open : (p : Parts) (s : State) (ties : List (Option Tie)) (a b : MeetId)
    → base_refusal p (with_ties s ties) (SwapMeets a b) ≡ None → IsOpenSwap s.slots ties a.0 b.0
unfolding bar refusing.refusal
swap_open p s ties a b h =
    let r = accepted p s ties (SwapMeets a b) h in
    let row = passed (swap_meets_row p s.slots a b) (sym (refusal_meets p s (SwapMeets a b) refl) ∙ r.engine) in
    let x = not-false (is_live (slot_at s.slots a.0)) row.0 in
    let y = not-false (is_live (slot_at s.slots b.0)) row.1.0 in
    let f = swap_bar (is_live (slot_at s.slots a.0)) (is_live (slot_at s.slots b.0)) (follows ties a.0)
    (follows ties b.0) x y r.free in
    record {
      first = x;
      second = y;
      apart = λ e. true-false (sym (eq-eqb a.0 b.0 e) ∙ row.1.1.1.1.1.1.0);
      first_free = no_value (tie_at ties a.0) f.0;
      second_free = no_value (tie_at ties b.0) f.1;
    }

pub swap_accepted : (p : Parts) (s : State) (ties : List (Option Tie)) (a b : MeetId)
    → base_refusal p (with_ties s ties) (SwapMeets a b) ≡ None → refusal p s (SwapMeets a b) ≡ None
swap_accepted p s ties a b h = (accepted p s ties (SwapMeets a b) h).engine

-- two slots whose starts changed sides
pub record IsSwapped (s s2 : List Slot) (a b : ℕ) : Type 0 where
  pub long : length s2 ≡ length s
  pub first : start_of (slot_at s2 a) ≡ start_of (slot_at s b)
  pub second : start_of (slot_at s2 b) ≡ start_of (slot_at s a)
  pub rest : (k : ℕ) → k ≢ a → k ≢ b → slot_at s2 k ≡ slot_at s k
  pub reads : (k : ℕ) → IsRetimed (slot_at s2 k) (slot_at s k)

both_reads : (x y z : Slot) → IsRetimed x y → IsRetimed y z → IsRetimed x z
both_reads x y z h k = record { event = h.event ∙ k.event; live = h.live ∙ k.live; lasts = h.lasts ∙ k.lasts }

swapped_slots : (s : List Slot) (ties : List (Option Tie)) (a b : MeetId) → IsOpenSwap s ties a.0 b.0
    → IsSwapped s (timed (timed s a (start_of (slot_at s b.0))) b (start_of (slot_at s a.0))) a.0 b.0
swapped_slots s ties a b o =
    let u = start_of (slot_at s b.0) in
    let v = start_of (slot_at s a.0) in
    let one = timed s a u in
    let x = live_there s a.0 o.first in
    let y = live_there s b.0 o.second in
    let long = length-set s a.0 (with_start (slot_at s a.0) u) in
    let z : b.0 < length one = omega (arith, y, long) in
    let apart : b.0 ≢ a.0 = λ e. o.apart (sym e) in
    record {
      long = length-set one b.0 (with_start (slot_at one b.0) v) ∙ long;
      first = ap start_of (timed_other one b v a.0 o.apart) ∙ ap start_of (timed_same s a u x)
          ∙ start_given (slot_at s a.0) u o.first;
      second = ap start_of (timed_same one b v z)
          ∙ start_given (slot_at one b.0) v (ap is_live (timed_other s a u b.0 apart) ∙ o.second);
      rest = λ k d e. timed_other one b v k e ∙ timed_other s a u k d;
      reads = λ k. both_reads (slot_at (timed one b v) k) (slot_at one k) (slot_at s k) (timed_reads one b v k z)
          (timed_reads s a u k x);
    }

swap_edited : (s : State) (a b : MeetId) → edited s (SwapMeets a b)
    ≡ record s { slots = timed (timed s.slots a (start_of (slot_at s.slots b.0))) b (start_of (slot_at s.slots a.0)) }
unfolding editing.edited
swap_edited s a b = edited_meets s (SwapMeets a b) refl

pub swapped : (s s2 : State) (ties : List (Option Tie)) (a b : MeetId) → IsOpenSwap s.slots ties a.0 b.0
    → s2 ≡ edited s (SwapMeets a b) → IsSwapped s.slots s2.slots a.0 b.0
swapped s s2 ties a b o e = subst (λ (x : State). IsSwapped s.slots x.slots a.0 b.0) (sym (e ∙ swap_edited s a b))
    (swapped_slots s.slots ties a b o)

pub swap_made : (s : State) (a b : MeetId) → None ≡ made s (SwapMeets a b)
unfolding made editing.made
swap_made s a b = refl

-- a follower ends with its leader or before
ends_within : (p : Parts) (s : List Slot) (l offset d : ℕ) → AreValid p s → is_live (slot_at s l) ≡ true
    → offset + d ≤ length_of (slot_at s l)
    → IfSome (later offset (start_of (slot_at s l))) (λ u. u.0 + d ≤ length p.times)
ends_within p s l offset d v live w = by (slot_at s l).span slot.ends w
  where
    slot : IsSlot p (slot_at s l)
    slot = v.told.slots l no_slot (live_there s l live)

    by : (o : Option Span) → IfSome o (λ y. IfSome y.start (λ t. t.0 + y.duration ≤ length p.times))
        → offset + d ≤ option_map_or (λ y. y.duration) o 0
        → IfSome (later offset (option_and_then (λ (y : Span). y.start) o)) (λ u. u.0 + d ≤ length p.times)
    by None e w = tt
    by (Some y) e w = way y.start e
      where
        way : (u : Option TimeId) → IfSome u (λ t. t.0 + y.duration ≤ length p.times)
            → IfSome (later offset u) (λ u. u.0 + d ≤ length p.times)
        way None k = tt
        way (Some x) k = omega (arith, k, w)

-- the followers of a meet that stand as they did may go with it
swap_carries : (p : Parts) (g : State) (s : List Slot) (ties : List (Option Tie)) (m : ℕ) (u : Option TimeId)
    → IsTied p (with_ties g ties) → AreValid p s → start_of (slot_at s m) ≡ u
    → IsRetimed (slot_at s m) (slot_at g.slots m)
    → ((k : ℕ) (t : Tie) → tie_at ties k ≡ Some t → t.leader.0 ≡ m → slot_at s k ≡ slot_at g.slots k)
    → MayCarry p s ties m u
swap_carries p g s ties m u h v e r same k t i z =
    let a = h.each k t i in
    let x = same k t i z in
    let live : is_live (slot_at s m) ≡ true = r.live ∙ ap (λ n. is_live (slot_at g.slots n)) (sym z) ∙ a.leader in
    let w : t.offset + length_of (slot_at g.slots k) ≤ length_of (slot_at s m) =
    let f = a.within in
    let l : length_of (slot_at g.slots t.leader.0) ≡ length_of (slot_at s m)
    = ap (λ n. length_of (slot_at g.slots n)) z ∙ sym r.lasts in
    omega (arith, f, l) in
    record {
      live = ap is_live x ∙ a.live;
      unfixed = ap (λ (y : Slot). is_fixed_event p y.event.0) x ∙ a.unfixed;
      fits = subst (λ (y : Slot). IfSome (later t.offset u) (λ n. n.0 + length_of y ≤ length p.times)) (sym x)
          (subst (λ o. IfSome (later t.offset o) (λ n. n.0 + length_of (slot_at g.slots k) ≤ length p.times)) e
          (ends_within p s m t.offset (length_of (slot_at g.slots k)) v live w));
    }

-- a follower is none of the two
not_own : (ties : List (Option Tie)) (m k : ℕ) (t : Tie) → tie_at ties m ≡ None → tie_at ties k ≡ Some t → k ≢ m
not_own ties m k t f i z = let q : Some t ≡ None = sym i ∙ ap (tie_at ties) z ∙ f in let y : ⊥ = cc in y

pub first_may : (p q : Parts) (s s2 : State) (ties : List (Option Tie)) (a b : ℕ) (u : Option TimeId)
    → u ≡ start_of (slot_at s.slots b) → q ≡ p → IsTied p (with_ties s ties) → IsOpenSwap s.slots ties a b
    → IsSwapped s.slots s2.slots a b → AreValid p s2.slots → MayCarry q s2.slots ties a u
first_may p q s s2 ties a b u j i h o w v = subst (λ x. MayCarry x s2.slots ties a u) (sym i)
    (swap_carries p s s2.slots ties a u h v (w.first ∙ sym j) (w.reads a)
    (λ k t e z. w.rest k (not_own ties a k t o.first_free e) (not_own ties b k t o.second_free e)))

carried_apart : (l : ℕ) (u : Option TimeId) (t : Tie) (x : Slot) → t.leader.0 ≢ l → carried l u (Some t) x ≡ x
carried_apart l u t x d = ap (λ b. cond b (with_start x (later t.offset u)) x) (ne_eqb t.leader.0 l d)

carried_to : (l : ℕ) (u : Option TimeId) (t : Tie) (x : Slot) → t.leader.0 ≡ l
    → carried l u (Some t) x ≡ with_start x (later t.offset u)
carried_to l u t x e = ap (λ b. cond b (with_start x (later t.offset u)) x) (eq-eqb t.leader.0 l e)

pub second_may : (p q : Parts) (s s2 s3 : State) (ties : List (Option Tie)) (a b : ℕ) (u v : Option TimeId)
    → v ≡ start_of (slot_at s.slots a) → q ≡ p → IsTied p (with_ties s ties) → IsOpenSwap s.slots ties a b
    → IsSwapped s.slots s2.slots a b → AreCarried ties a u s2.slots s3.slots → AreValid p s3.slots
    → MayCarry q s3.slots ties b v
second_may p q s s2 s3 ties a b u v j i h o w c valid =
    let own : slot_at s3.slots b ≡ slot_at s2.slots b
    = c.each b ∙ ap (λ x. carried a u x (slot_at s2.slots b)) o.second_free in
    subst (λ x. MayCarry x s3.slots ties b v) (sym i)
    (swap_carries p s s3.slots ties b v h valid (ap start_of own ∙ w.second ∙ sym j)
    (subst (λ x. IsRetimed x (slot_at s.slots b)) (sym own) (w.reads b))
    (λ k t e z. c.each k ∙ ap (λ x. carried a u x (slot_at s2.slots k)) e
    ∙ carried_apart a u t (slot_at s2.slots k) (λ y. o.apart (sym y ∙ z))
    ∙ w.rest k (not_own ties a k t o.first_free e) (not_own ties b k t o.second_free e)))

-- with the followers of both at their places, each follower is
swapped_in_place : (p : Parts) (g : State) (ties : List (Option Tie)) (a b : ℕ) (u v : Option TimeId)
    (s s2 s3 : List Slot) → u ≡ start_of (slot_at g.slots b) → v ≡ start_of (slot_at g.slots a)
    → IsTied p (with_ties g ties) → IsOpenSwap g.slots ties a b → IsSwapped g.slots s a b
    → AreCarried ties a u s s2 → AreCarried ties b v s2 s3 → s3 ≡ in_place ties s
swapped_in_place p g ties a b u v s s2 s3 i j h o w c d = same_slots s3 (in_place ties s)
    (d.long ∙ c.long ∙ sym (place_long s ties s))
    (λ k. d.each k ∙ ap (carried b v (tie_at ties k)) (c.each k) ∙ by k (tie_at ties k) refl ∙ sym (place_at s ties s k))
  where
    by : (k : ℕ) (tie : Option Tie) → tie_at ties k ≡ tie
        → carried b v tie (carried a u tie (slot_at s k)) ≡ placed s tie (slot_at s k)
    by k None e = refl
    by k (Some t) e = way (cases_eq t.leader.0 a) (cases_eq t.leader.0 b)
      where
        x : Slot
        x = slot_at s k

        way : (t.leader.0 ≡ a) ⊎ (t.leader.0 ≡ a → ⊥) → (t.leader.0 ≡ b) ⊎ (t.leader.0 ≡ b → ⊥)
            → carried b v (Some t) (carried a u (Some t) (slot_at s k)) ≡ placed s (Some t) (slot_at s k)
        way (inl y) (inl z) = absurd (o.apart (sym y ∙ z))
        way (inl y) (inr z) = ap (carried b v (Some t)) (carried_to a u t x y)
            ∙ carried_apart b v t (with_start x (later t.offset u)) z
            ∙ ap (λ n. with_start x (later t.offset n))
            (i ∙ sym w.first ∙ ap (λ n. start_of (slot_at s n)) (sym y))
        way (inr y) (inl z) = ap (carried b v (Some t)) (carried_apart a u t x y) ∙ carried_to b v t x z
            ∙ ap (λ n. with_start x (later t.offset n))
            (j ∙ sym w.second ∙ ap (λ n. start_of (slot_at s n)) (sym z))
        way (inr y) (inr z) = ap (carried b v (Some t)) (carried_apart a u t x y) ∙ carried_apart b v t x z
            ∙ sym (placed_same s s (Some t) x (λ t2 q.
            ap start_of (w.rest k (not_own ties a k t o.first_free e) (not_own ties b k t o.second_free e))
            ∙ (h.each k t2 (e ∙ q)).start
            ∙ ap (λ n. later t2.offset (start_of n)) (sym (w.rest t2.leader.0 (λ n. y (same t2 q ∙ n))
            (λ n. z (same t2 q ∙ n))))))
          where
            same : (t2 : Tie) → Some t ≡ Some t2 → t.leader.0 ≡ t2.leader.0
            same t2 q = ap leader_of q
              where
                leader_of : Option Tie → ℕ
                leader_of None = 0
                leader_of (Some n) = n.leader.0

pub swap_followed : (p : Parts) (s s1 s2 s3 : State) (ties : List (Option Tie)) (a b : MeetId) (u v : Option TimeId)
    → u ≡ start_of (slot_at s.slots b.0) → v ≡ start_of (slot_at s.slots a.0) → IsTied p (with_ties s ties)
    → IsOpenSwap s.slots ties a.0 b.0 → s1 ≡ edited s (SwapMeets a b) → AreCarried ties a.0 u s1.slots s2.slots
    → AreCarried ties b.0 v s2.slots s3.slots → s3.grouping ≡ s1.grouping → AreValid p s3.slots
    → IsFollowed p s s1 s3 ties (SwapMeets a b)
swap_followed p s s1 s2 s3 ties a b u v i j h o made c d g valid =
    let w = swapped s s1 ties a b o made in
    let two : s3.slots ≡ in_place ties s1.slots
    = swapped_in_place p s ties a.0 b.0 u v s1.slots s2.slots s3.slots i j h o w c d in
    record {
      tied = settled_tied p s3 s1.slots ties two valid (h.long ∙ sym w.long) (λ k t e.
          let l = h.each k t e in
          let x = w.reads k in
          let y = w.reads t.leader.0 in
          record {
            live = x.live ∙ l.live;
            leader = y.live ∙ l.leader;
            apart = l.apart;
            free = l.free;
            unfixed = ap (λ n. is_fixed_event p n.0) x.event ∙ l.unfixed;
            within = let m = x.lasts in let n = y.lasts in let q = l.within in omega (arith, m, n, q);
          });
      state = (λ n. with_ties (record { slots = two n; grouping = g n }) ties)
          ∙ ap (λ (x : State). settled (with_ties x ties)) made;
    }
