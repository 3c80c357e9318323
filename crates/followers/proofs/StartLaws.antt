-- Edits of one start, and what its followers owe.
use Rattle.std.proofs.Common.{ℕ, ◌≡◌, ◌≢◌, ◌+◌, ◌<◌, ◌≤◌, ◌⊎◌, inl, inr, true, false, Bool, Option, Some, None}
use Rattle.std.proofs.Common.{List, [], ◌∷◌, drop, length, refl, sym, ap, subst, ◌∙◌, arith}
use Rattle.std.specs.Prelude.{IfSome, is_some, not}
use Rattle.std.specs.Option.{option_map, option_map_or}
use Rattle.std.proofs.lemmas.List.{length-set}
use Rattle.khe_instance.specs.declared.states.Meet.{Meet}
use Rattle.khe_told.specs.Fits.{IsSlot}
use Rattle.khe_told.specs.Lists.{meet_in}
use Rattle.khe_base.specs.declared.numbers.MeetId.{MeetId}
use Rattle.khe_base.specs.declared.numbers.TimeId.{TimeId}
use Rattle.khe_instance.specs.declared.parts.Parts.{Parts}
use Rattle.khe_told.specs.Slots.{is_live, length_of, no_slot, slot_at}
use Rattle.khe_told.specs.Valid.{AreValid}
use Rattle.khe_told.specs.declared.edits.Edit.{Edit}
use Rattle.khe_told.specs.declared.edits.Edit.TheVariants.{Assign, Unassign, MoveTo}
use Rattle.khe_told.specs.declared.refusals.Refusal.{Refusal}
use Rattle.khe_told.specs.declared.refusals.Refusal.TheVariants.{NoSuchMeet}
use Rattle.khe_told.specs.declared.slots.Slot.{Slot}
use Rattle.khe_told.specs.declared.slots.Span.{Span}
use Rattle.khe_solution.specs.Editing as editing
use Rattle.khe_solution.specs.Editing.{later, timed, with_start}
use Rattle.khe_solution.specs.Reading.{is_fixed_event}
use Rattle.khe_solution.specs.Refusing as refusing
use Rattle.khe_solution.specs.Refusing.{assign_row, first_refusal, is_of_meets, move_row, unassign_row}
use Rattle.khe_solution.proofs.Basics.{live_there, true-false}
use Rattle.khe_solution.proofs.EditingLaws.{timed_other, timed_reads, timed_same}
use Rattle.monitor_graph.specs.Edits.{adds_child, is_of_groups}
use Rattle.khe_engine.specs.States.{State, edited, made, refusal}
use Rattle.khe_engine.proofs.StateLaws.{edited_meets, refusal_meets}
use Rattle.followers.specs.Carrying.{AreCarried, MayCarry}
use Rattle.followers.specs.Records.{with_ties}
use Rattle.followers.specs.Starts.{IsStart}
use Rattle.followers.specs.Bars.{bar, barred_by, live_at}
use Rattle.followers.specs.Tables.{base_refusal, settled}
use Rattle.followers.specs.Ties.{IsTied, TiedState, follows, in_place, tie_at}
use Rattle.followers.specs.Worlds.{IsFaultOf}
use Rattle.followers.specs.declared.edits.Tie.{Tie}
use Rattle.followers.specs.declared.edits.TiedFault.TheVariants.{Refused}
use Rattle.followers.specs.declared.edits.TiedRefusal.{TiedRefusal}
use Rattle.followers.specs.declared.edits.TiedRefusal.TheVariants.{Follower}
use Rattle.followers.proofs.BarLaws.{accepted}
use Rattle.followers.proofs.SettleLaws.{IsLoose, carried_in_place, settled_tied}

-- which sort of edit it is
pub start_meets : (e : Edit) (m : MeetId) (t : Option TimeId) → IsStart e m t → is_of_meets e ≡ true
start_meets (Assign a b) m t h = refl
start_meets (Unassign a) m t h = refl
start_meets (MoveTo a b) m t h = refl
start_meets _ m t h = absurd h

pub start_groups : (e : Edit) (m : MeetId) (t : Option TimeId) → IsStart e m t → is_of_groups e ≡ false
start_groups (Assign a b) m t h = refl
start_groups (Unassign a) m t h = refl
start_groups (MoveTo a b) m t h = refl
start_groups _ m t h = absurd h

pub start_sort : (e : Edit) (m : MeetId) (t : Option TimeId) → IsStart e m t → adds_child e ≡ false
start_sort (Assign a b) m t h = refl
start_sort (Unassign a) m t h = refl
start_sort (MoveTo a b) m t h = refl
start_sort _ m t h = absurd h

pub meet_live : (x : Slot) → is_some (meet_in x) ≡ is_live x
meet_live x = by x.span
  where
    by : (o : Option Span)
        → is_some {T = Meet} (option_map (λ y. record { meet = x.meet; event = x.event; duration = y.duration; start = y.start }) o)
        ≡ is_some o
    by None = refl
    by (Some y) = refl

-- an accepted edit is of a live meet that follows none, and the engine accepts it
pub record IsOpen (p : Parts) (t : TiedState) (e : Edit) (m : MeetId) : Type 0 where
  pub live : is_live (slot_at t.state.slots m.0) ≡ true
  pub free : tie_at t.ties m.0 ≡ None
  pub accepted : refusing.refusal p t.state.slots e ≡ None

no_tie_of : (o : Option Tie) → is_some o ≡ false → o ≡ None
no_tie_of None h = refl
no_tie_of (Some t) h = let z : ⊥ = cc in absurd z

row_of : (p : Parts) (s : List Slot) (e : Edit) (m : MeetId) (u : Option TimeId) → IsStart e m u
    → (rest : List (Bool × Refusal))
    × (refusing.refusal p s e ≡ first_refusal ((not (is_live (slot_at s m.0)), NoSuchMeet) ∷ rest))
unfolding refusing.refusal
row_of p s (Assign a b) m u h = (drop 1 (assign_row p s m b), ap (λ n. first_refusal (assign_row p s n b)) h.0)
row_of p s (Unassign a) m u h = (drop 1 (unassign_row p s m), ap (λ n. first_refusal (unassign_row p s n)) h.0)
row_of p s (MoveTo a b) m u h = (drop 1 (move_row p s m b), ap (λ n. first_refusal (move_row p s n b)) h.0)
row_of p s _ m u h = absurd h

-- each of the three gives a start or takes it
pub is_start : (e : Edit) (m : MeetId) (t : TimeId) → (e ≡ Assign m t) ⊎ (e ≡ MoveTo m t) → IsStart e m (Some t)
is_start e m t (inl h) = subst (λ x. IsStart x m (Some t)) (sym h) (refl, refl)
is_start e m t (inr h) = subst (λ x. IsStart x m (Some t)) (sym h) (refl, refl)

pub is_taken : (e : Edit) (m : MeetId) → e ≡ Unassign m → IsStart e m None
is_taken e m h = subst (λ x. IsStart x m None) (sym h) (refl, refl)

-- and makes nothing
pub start_made : (s : State) (e : Edit) (m : MeetId) (t : Option TimeId) → IsStart e m t → None ≡ made s e
unfolding made editing.made
start_made s (Assign a b) m t h = refl
start_made s (Unassign a) m t h = refl
start_made s (MoveTo a b) m t h = refl
start_made s _ m t h = absurd h

-- a row begins with the test whether the meet is live
live_first : (live : Bool) (rest : List (Bool × Refusal)) → first_refusal ((not live, NoSuchMeet) ∷ rest) ≡ None
    → live ≡ true
live_first true rest h = refl
live_first false rest h = let z : ⊥ = cc in absurd z

-- ties refuse no edit of the start of a live meet but that of a follower
start_bar : (s : List Slot) (ties : List (Option Tie)) (e : Edit) (m : MeetId) (u : Option TimeId) → IsStart e m u
    → bar s ties e ≡ barred_by (live_at s m) ((follows ties m.0, Follower) ∷ [])
unfolding bar
start_bar s ties (Assign a b) m u h = ap (λ n. barred_by (live_at s n) ((follows ties n.0, Follower) ∷ [])) h.0
start_bar s ties (Unassign a) m u h = ap (λ n. barred_by (live_at s n) ((follows ties n.0, Follower) ∷ [])) h.0
start_bar s ties (MoveTo a b) m u h = ap (λ n. barred_by (live_at s n) ((follows ties n.0, Follower) ∷ [])) h.0
start_bar s ties _ m u h = absurd h

not_barred : (live f : Bool) → live ≡ true → barred_by live ((f, Follower) ∷ []) ≡ None → f ≡ false
not_barred true true l h = let z : ⊥ = cc in absurd z
not_barred true false l h = refl
not_barred false f l h = absurd (true-false (sym l))

pub start_open : (p : Parts) (t : TiedState) (e : Edit) (m : MeetId) (u : Option TimeId) → IsStart e m u
    → base_refusal p t e ≡ None → IsOpen p t e m
start_open p t e m u h r =
    let a = accepted p t.state t.ties e r in
    let row = row_of p t.state.slots e m u h in
    let x : refusing.refusal p t.state.slots e ≡ None
    = sym (refusal_meets p t.state e (start_groups e m u h)) ∙ a.engine in
    let live = live_first (is_live (slot_at t.state.slots m.0)) row.0 (sym row.1 ∙ x) in
    record {
      live = live;
      free = no_tie_of (tie_at t.ties m.0) (not_barred (is_live (slot_at t.state.slots m.0)) (follows t.ties m.0) live
          (sym (start_bar t.state.slots t.ties e m u h) ∙ a.free));
      accepted = x;
    }

pub start_accepted : (p : Parts) (t : TiedState) (e : Edit) (m : MeetId) (u : Option TimeId) → IsStart e m u
    → base_refusal p t e ≡ None → refusal p t.state e ≡ None
start_accepted p t e m u h r = refusal_meets p t.state e (start_groups e m u h) ∙ (start_open p t e m u h r).accepted

-- what it makes of the slots
pub start_edited : (s : State) (e : Edit) (m : MeetId) (u : Option TimeId) → IsStart e m u
    → edited s e ≡ record s { slots = timed s.slots m u }
unfolding editing.edited
start_edited s (Assign a b) m u h = edited_meets s (Assign a b) refl
    ∙ (λ i. record s { slots = timed s.slots (h.0 i) (sym h.1 i) })
start_edited s (Unassign a) m u h = edited_meets s (Unassign a) refl
    ∙ (λ i. record s { slots = timed s.slots (h.0 i) (sym h.1 i) })
start_edited s (MoveTo a b) m u h = edited_meets s (MoveTo a b) refl
    ∙ (λ i. record s { slots = timed s.slots (h.0 i) (sym h.1 i) })
start_edited s _ m u h = absurd h

-- its followers may be put at their places
pub start_carries : (p : Parts) (s s2 : State) (ties : List (Option Tie)) (m : MeetId) (u : Option TimeId)
    → IsTied p (with_ties s ties) → AreValid p s2.slots → is_live (slot_at s.slots m.0) ≡ true
    → s2.slots ≡ timed s.slots m u → MayCarry p s2.slots ties m.0 u
start_carries p s s2 ties m u h v live e f t i z =
    let a = h.each f t i in
    let d : f ≢ m.0 = λ w. a.apart (w ∙ sym z) in
    let same : slot_at s2.slots f ≡ slot_at s.slots f = ap (λ xs. slot_at xs f) e ∙ timed_other s.slots m u f d in
    let here : slot_at s2.slots m.0 ≡ with_start (slot_at s.slots m.0) u
    = ap (λ xs. slot_at xs m.0) e ∙ timed_same s.slots m u (live_there s.slots m.0 live) in
    let w : t.offset + length_of (slot_at s.slots f) ≤ length_of (slot_at s.slots m.0)
    = subst (λ n. t.offset + length_of (slot_at s.slots f) ≤ length_of (slot_at s.slots n)) z a.within in
    record {
      live = ap is_live same ∙ a.live;
      unfixed = ap (λ (x : Slot). is_fixed_event p x.event.0) same ∙ a.unfixed;
      fits = subst (λ (x : Slot). IfSome (later t.offset u) (λ y. y.0 + length_of x ≤ length p.times)) (sym same)
          (by u here w);
    }
  where
    inside : m.0 < length s2.slots
    inside = subst (λ n. m.0 < n) (sym (ap length e ∙ length-set s.slots m.0 (with_start (slot_at s.slots m.0) u)))
        (live_there s.slots m.0 live)

    ends : (x : Slot) → is_live x ≡ true → (t : TimeId) → IfSome (with_start x (Some t)).span
        (λ y. IfSome y.start (λ t. t.0 + y.duration ≤ length p.times)) → t.0 + length_of x ≤ length p.times
    ends x l t k = way x.span l k
      where
        way : (o : Option Span) → is_some o ≡ true
            → IfSome (option_map (λ (y : Span). record y { start = Some t }) o)
            (λ y. IfSome y.start (λ t. t.0 + y.duration ≤ length p.times))
            → t.0 + option_map_or (λ y. y.duration) o 0 ≤ length p.times
        way None l k = let z : ⊥ = cc in absurd z
        way (Some y) l k = k

    by : (u : Option TimeId) → slot_at s2.slots m.0 ≡ with_start (slot_at s.slots m.0) u
        → t.offset + length_of (slot_at s.slots f) ≤ length_of (slot_at s.slots m.0)
        → IfSome (later t.offset u) (λ y. y.0 + length_of (slot_at s.slots f) ≤ length p.times)
    by None here w = tt
    by (Some x) here w =
        let slot : IsSlot p (slot_at s2.slots m.0) = v.told.slots m.0 no_slot inside in
        let k = ends (slot_at s.slots m.0) live x
        (subst (λ (y : Slot). IfSome y.span (λ y. IfSome y.start (λ t. t.0 + y.duration ≤ length p.times))) here
        slot.ends) in
        omega (arith, k, w)

-- and then the tied state is the one that the tables say
pub record IsFollowed (p : Parts) (s s1 s2 : State) (ties : List (Option Tie)) (e : Edit) : Type 0 where
  pub tied : IsTied p (with_ties s2 ties)
  pub state : with_ties s2 ties ≡ settled (with_ties (edited s e) ties)

loose_timed : (p : Parts) (s : State) (ties : List (Option Tie)) (m : MeetId) (u : Option TimeId) (k : ℕ) (t : Tie)
    → IsTied p (with_ties s ties) → m.0 < length s.slots → tie_at ties k ≡ Some t
    → IsLoose p (timed s.slots m u) ties k t
loose_timed p s ties m u k t h l i =
    let a = h.each k t i in
    let x = timed_reads s.slots m u k l in
    let y = timed_reads s.slots m u t.leader.0 l in
    record {
      live = x.live ∙ a.live;
      leader = y.live ∙ a.leader;
      apart = a.apart;
      free = a.free;
      unfixed = ap (λ e. is_fixed_event p e.0) x.event ∙ a.unfixed;
      within = let f = x.lasts in let g = y.lasts in let w = a.within in omega (arith, f, g, w);
    }

pub start_followed : (p : Parts) (s s1 s2 : State) (ties : List (Option Tie)) (e : Edit) (m : MeetId) (u : Option TimeId)
    → IsStart e m u → IsTied p (with_ties s ties) → base_refusal p (with_ties s ties) e ≡ None → s1 ≡ edited s e
    → AreCarried ties m.0 u s1.slots s2.slots → s2.grouping ≡ s1.grouping → AreValid p s2.slots
    → IsFollowed p s s1 s2 ties e
start_followed p s s1 s2 ties e m u h tied r made c g v =
    let open_ = start_open p (with_ties s ties) e m u h r in
    let ed = start_edited s e m u h in
    let one : s1.slots ≡ timed s.slots m u = ap (λ (x : State). x.slots) (made ∙ ed) in
    let two : s2.slots ≡ in_place ties s1.slots
    = carried_in_place p s ties m u s1.slots s2.slots tied open_.free open_.live one c in
    let l = live_there s.slots m.0 open_.live in
    record {
      tied = settled_tied p s2 s1.slots ties two v (tied.long ∙ sym (ap length one ∙ length-set s.slots m.0
          (with_start (slot_at s.slots m.0) u)))
          (λ k t i. subst (λ xs. IsLoose p xs ties k t) (sym one) (loose_timed p s ties m u k t tied l i));
      state = (λ i. with_ties (record { slots = two i; grouping = g i }) ties)
          ∙ ap (λ (x : State). settled (with_ties x ties)) made;
    }

-- what the calls of an edit of one start owe
pub valid_of : (p q : Parts) (a b : List Slot) → p ≡ q → a ≡ b → AreValid p a → AreValid q b
valid_of p q a b e f v = subst (λ x. AreValid x b) e (subst (AreValid p) f v)

pub start_slots : (s s2 : State) (e : Edit) (m : MeetId) (u : Option TimeId) → IsStart e m u → s2 ≡ edited s e
    → s2.slots ≡ timed s.slots m u
start_slots s s2 e m u h k = ap (λ (x : State). x.slots) (k ∙ start_edited s e m u h)

pub start_there : (p : Parts) (s : State) (ties : List (Option Tie)) (e : Edit) (m : MeetId) (u : Option TimeId)
    → IsStart e m u → IsTied p (with_ties s ties) → base_refusal p (with_ties s ties) e ≡ None → m.0 < length ties
start_there p s ties e m u h t r =
    let l = live_there s.slots m.0 (start_open p (with_ties s ties) e m u h r).live in
    let n = t.long in
    omega (arith, l, n)

pub start_long : (p : Parts) (s s2 : State) (ties : List (Option Tie)) (e : Edit) (m : MeetId) (u : Option TimeId)
    → IsStart e m u → IsTied p (with_ties s ties) → s2 ≡ edited s e → length s2.slots ≡ length ties
start_long p s s2 ties e m u h t k = ap length (start_slots s s2 e m u h k)
    ∙ length-set s.slots m.0 (with_start (slot_at s.slots m.0) u) ∙ sym t.long

pub start_may : (p q : Parts) (s s2 : State) (ties : List (Option Tie)) (e : Edit) (m : MeetId) (u : Option TimeId)
    → IsStart e m u → IsTied p (with_ties s ties) → base_refusal p (with_ties s ties) e ≡ None → s2 ≡ edited s e
    → q ≡ p → AreValid p s2.slots → MayCarry q s2.slots ties m.0 u
start_may p q s s2 ties e m u h t r k i v = subst (λ x. MayCarry x s2.slots ties m.0 u) (sym i)
    (start_carries p s s2 ties m u t v (start_open p (with_ties s ties) e m u h r).live (start_slots s s2 e m u h k))

pub tied_of : (p q : Parts) (t : TiedState) → q ≡ p → IsTied p t → IsTied q t
tied_of p q t e h = subst (λ x. IsTied x t) (sym e) h

-- what a refusal of a check is
pub fault_by : (p q : Parts) (s : State) (slots : List Slot) (ties : List (Option Tie)) (e : Edit) (r : TiedRefusal)
    → p ≡ q → slots ≡ s.slots
    → base_refusal p (with_ties (record { slots = slots; grouping = s.grouping }) ties) e ≡ Some r
    → IsFaultOf (base_refusal q (with_ties s ties) e) (Refused r)
fault_by p q s slots ties e r i j h = subst (λ o. IsFaultOf o (Refused r))
    (sym h ∙ (λ k. base_refusal (i k) (with_ties (record { slots = j k; grouping = s.grouping }) ties) e)) refl
