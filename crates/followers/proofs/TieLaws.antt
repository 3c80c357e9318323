-- Meets that are tied and untied.
use Rattle.std.proofs.Common.{ℕ, ◌≡◌, ◌≢◌, ◌+◌, ◌^◌, ◌<◌, ◌≤◌, ◌⊎◌, inl, inr, true, false, Bool, cond, Option, Some, None, List, [], ◌∷◌}
use Rattle.std.proofs.Common.{length, refl, sym, ap, subst, ◌∙◌, arith, set, set-set}
use Rattle.std.specs.Prelude.{IfSome, is_some}
use Rattle.std.specs.Option.{option_and_then, option_map_or}
use Rattle.std.proofs.lemmas.Bool.{eq-eqb, ltb-false}
use Rattle.std.proofs.lemmas.List.{length-set, set-get_or}
use Rattle.std.proofs.lemmas.List.Folds.{list_any_at}
use Rattle.khe_base.specs.declared.limits.TheConstants.{TIMES}
use Rattle.khe_base.specs.declared.numbers.MeetId.{MeetId}
use Rattle.khe_base.specs.declared.numbers.TimeId.{TimeId}
use Rattle.khe_instance.specs.declared.parts.Parts.{Parts}
use Rattle.khe_told.specs.Fits.{IsSlot}
use Rattle.khe_told.specs.Slots.{is_live, length_of, no_slot, slot_at, start_of}
use Rattle.khe_told.specs.Valid.{AreValid}
use Rattle.khe_told.specs.declared.slots.Slot.{Slot}
use Rattle.khe_told.specs.declared.slots.Span.{Span}
use Rattle.khe_solution.specs.Editing.{later, timed, with_start}
use Rattle.khe_solution.specs.Reading.{is_fixed_event}
use Rattle.khe_solution.proofs.Basics.{cases_eq, live_there, not-false, true-false}
use Rattle.khe_solution.proofs.EditingLaws.{timed_other, timed_same}
use Rattle.khe_engine.specs.States.{State}
use Rattle.undo_paths.specs.Stack.{with_record}
use Rattle.followers.specs.Carrying.{MayPut}
use Rattle.followers.specs.Records.{AllTied, AreWithin, IsKept, IsWithin, saved_of, undone, with_ties}
use Rattle.followers.specs.Tables.{Row, edited, first_of, refusal, tie_row}
use Rattle.followers.specs.Worlds.{IsFaultOf}
use Rattle.followers.specs.declared.edits.TiedEdit.{TiedEdit}
use Rattle.followers.specs.declared.edits.TiedEdit.TheVariants as edit
use Rattle.followers.specs.declared.edits.TiedFault.{TiedFault}
use Rattle.followers.specs.declared.edits.TiedFault.TheVariants.{Refused, NoMemory}
use Rattle.followers.specs.Ties.{IsTie, IsTied, TiedState, in_place, is_to, leads, placed, tie_at}
use Rattle.followers.specs.declared.edits.Tie.{Tie}
use Rattle.followers.specs.declared.edits.TiedRefusal.{TiedRefusal}
use Rattle.followers.specs.declared.records.Before.{Before}
use Rattle.followers.proofs.LinkLaws.{follower_there, tie_here, tie_other}
use Rattle.followers.proofs.SettleLaws.{IsLoose, place_at, place_long, placed_same, same_slots, settled_tied}

-- where no test of a row holds, each is false
abbrev AllFalse : Row → Type 0
AllFalse [] = Unit {0}
AllFalse (q ∷ rest) = (q.0 ≡ false) × AllFalse rest

false_first : (t : Bool) (r : TiedRefusal) (rest : Row) → cond t (Some r) (first_of rest) ≡ None
    → (t ≡ false) × (first_of rest ≡ None)
false_first true r rest h = let z : ⊥ = cc in absurd z
false_first false r rest h = (refl, h)

all_false : (row : Row) → first_of row ≡ None → AllFalse row
all_false [] h = tt
all_false ((t, r) ∷ rest) h = let a = false_first t r rest h in (a.0, all_false rest a.1)

-- what an accepted Tie is
pub record CanTie (p : Parts) (s : List Slot) (ties : List (Option Tie)) (m : ℕ) (t : Tie) : Type 0 where
  pub live : is_live (slot_at s m) ≡ true
  pub leader : is_live (slot_at s t.leader.0) ≡ true
  pub apart : m ≢ t.leader.0
  pub unfixed : is_fixed_event p (slot_at s m).event.0 ≡ false
  pub own : tie_at ties m ≡ None
  pub free : tie_at ties t.leader.0 ≡ None
  pub none : leads ties m ≡ false
  pub within : t.offset + length_of (slot_at s m) ≤ length_of (slot_at s t.leader.0)

no_tie_of : (o : Option Tie) → is_some o ≡ false → o ≡ None
no_tie_of None h = refl
no_tie_of (Some t) h = let z : ⊥ = cc in absurd z

pub can_tie : (p : Parts) (s : State) (ties : List (Option Tie)) (m : MeetId) (t : Tie)
    → refusal p (with_ties s ties) (edit.Tie m t.leader t.offset) ≡ None → CanTie p s.slots ties m.0 t
unfolding refusal
can_tie p s ties m t h =
    let a = all_false (tie_row p (with_ties s ties) m t.leader t.offset) h in
    record {
      live = not-false (is_live (slot_at s.slots m.0)) a.0;
      leader = not-false (is_live (slot_at s.slots t.leader.0)) a.1.0;
      apart = λ e. true-false (sym (eq-eqb m.0 t.leader.0 e) ∙ a.1.1.0);
      unfixed = a.1.1.1.0;
      own = no_tie_of (tie_at ties m.0) a.1.1.1.1.0;
      free = no_tie_of (tie_at ties t.leader.0) a.1.1.1.1.1.0;
      none = a.1.1.1.1.1.1.0;
      within = ltb-false (length_of (slot_at s.slots t.leader.0)) (t.offset + length_of (slot_at s.slots m.0))
          a.1.1.1.1.1.1.1.0;
    }

-- a meet without followers is nobody's leader
pub no_follower : (ties : List (Option Tie)) (m k : ℕ) → leads ties m ≡ false → is_to m (tie_at ties k) ≡ true → ⊥
no_follower ties m k h t = true-false (sym (list_any_at (is_to m) ties k None (follower_there ties m k t) t) ∙ h)

-- it may be put at its place
pub tie_may : (p : Parts) (s : List Slot) (ties : List (Option Tie)) (m : ℕ) (t : Tie) → AreValid p s
    → CanTie p s ties m t → MayPut p s m (later t.offset (start_of (slot_at s t.leader.0)))
tie_may p s ties m t v c = record {
  live = c.live;
  unfixed = c.unfixed;
  fits = by (slot_at s t.leader.0).span (slot.ends) c.within;
}
  where
    slot : IsSlot p (slot_at s t.leader.0)
    slot = v.told.slots t.leader.0 no_slot (live_there s t.leader.0 c.leader)

    by : (o : Option Span) → IfSome o (λ y. IfSome y.start (λ t. t.0 + y.duration ≤ length p.times))
        → t.offset + length_of (slot_at s m) ≤ option_map_or (λ y. y.duration) o 0
        → IfSome (later t.offset (option_and_then (λ (y : Span). y.start) o))
        (λ u. u.0 + length_of (slot_at s m) ≤ length p.times)
    by None e w = tt
    by (Some y) e w = way y.start e
      where
        way : (u : Option TimeId) → IfSome u (λ t. t.0 + y.duration ≤ length p.times)
            → IfSome (later t.offset u) (λ u. u.0 + length_of (slot_at s m) ≤ length p.times)
        way None k = tt
        way (Some x) k = omega (arith, k, w)

pub tie_few : (p : Parts) (s : List Slot) (m offset : ℕ) (u : Option TimeId) → length p.times ≤ TIMES
    → MayPut p s m (later offset u) → IfSome u (λ t. t.0 + offset < 2 ^ 32)
tie_few p s m offset None l h = tt
tie_few p s m offset (Some x) l h = let f = h.fits in omega (arith, f, l)

-- where a leader is, by the starts of the meets of the old ties
leader_apart : (ties : List (Option Tie)) (m k : ℕ) (y : Tie) → leads ties m ≡ false → tie_at ties k ≡ Some y
    → y.leader.0 ≢ m
leader_apart ties m k y h i e = no_follower ties m k h
    (ap (is_to m) i ∙ eq-eqb y.leader.0 m e)

-- the slots after a Tie
pub tied_in_place : (p : Parts) (s : State) (ties : List (Option Tie)) (m : MeetId) (t : Tie) (s2 : List Slot)
    → IsTied p (with_ties s ties) → CanTie p s.slots ties m.0 t
    → s2 ≡ timed s.slots m (later t.offset (start_of (slot_at s.slots t.leader.0)))
    → s2 ≡ in_place (set ties m.0 (Some t)) s.slots
tied_in_place p s ties m t s2 h c e = same_slots s2 (in_place more s.slots)
    (ap length e ∙ length-set s.slots m.0 (with_start (slot_at s.slots m.0) u) ∙ sym (place_long s.slots more s.slots))
    (λ k. ap (λ xs. slot_at xs k) e ∙ by k (cases_eq k m.0) ∙ sym (place_at s.slots more s.slots k))
  where
    more : List (Option Tie)
    more = set ties m.0 (Some t)

    u : Option TimeId
    u = later t.offset (start_of (slot_at s.slots t.leader.0))

    inside : m.0 < length ties
    inside = let l = live_there s.slots m.0 c.live in let n = h.long in omega (arith, l, n)

    by : (k : ℕ) → (k ≡ m.0) ⊎ (k ≡ m.0 → ⊥)
        → slot_at (timed s.slots m u) k ≡ placed s.slots (tie_at (set ties m.0 (Some t)) k) (slot_at s.slots k)
    by k (inl z) = ap (slot_at (timed s.slots m u)) z ∙ timed_same s.slots m u (live_there s.slots m.0 c.live)
        ∙ ap (λ n. with_start (slot_at s.slots n) u) (sym z)
        ∙ ap (λ o. placed s.slots o (slot_at s.slots k))
        (sym (ap (tie_at (set ties m.0 (Some t))) z ∙ tie_here ties m.0 (Some t) inside))
    by k (inr d) = timed_other s.slots m u k d
        ∙ sym (placed_same s.slots s.slots (tie_at ties k) (slot_at s.slots k) (λ y i. (h.each k y i).start))
        ∙ ap (λ o. placed s.slots o (slot_at s.slots k)) (sym (tie_other ties m.0 k (Some t) d))

pub tied_loose : (p : Parts) (s : State) (ties : List (Option Tie)) (m : ℕ) (t : Tie) → IsTied p (with_ties s ties)
    → CanTie p s.slots ties m t → (k : ℕ) (y : Tie) → tie_at (set ties m (Some t)) k ≡ Some y
    → IsLoose p s.slots (set ties m (Some t)) k y
tied_loose p s ties m t h c k y i = by (cases_eq k m)
  where
    inside : m < length ties
    inside = let l = live_there s.slots m c.live in let n = h.long in omega (arith, l, n)

    some_is : (a b : Tie) → Some a ≡ Some b → a ≡ b
    some_is a b e = ap out e
      where
        out : Option Tie → Tie
        out None = a
        out (Some x) = x

    own : CanTie p s.slots ties m t → IsLoose p s.slots (set ties m (Some t)) m t
    own c = record {
      live = c.live;
      leader = c.leader;
      apart = c.apart;
      free = tie_other ties m t.leader.0 (Some t) (λ e. c.apart (sym e)) ∙ c.free;
      unfixed = c.unfixed;
      within = c.within;
    }

    by : (k ≡ m) ⊎ (k ≡ m → ⊥) → IsLoose p s.slots (set ties m (Some t)) k y
    by (inl z) = subst (λ x. IsLoose p s.slots (set ties m (Some t)) k x)
        (some_is t y (sym (ap (tie_at (set ties m (Some t))) z ∙ tie_here ties m (Some t) inside) ∙ i))
        (subst (λ n. IsLoose p s.slots (set ties m (Some t)) n t) (sym z) (own c))
    by (inr d) =
        let j = sym (tie_other ties m k (Some t) d) ∙ i in
        let a = h.each k y j in
        record {
          live = a.live;
          leader = a.leader;
          apart = a.apart;
          free = tie_other ties m y.leader.0 (Some t) (leader_apart ties m k y c.none j) ∙ a.free;
          unfixed = a.unfixed;
          within = a.within;
        }

-- a record of another tie of a meet leads back
pub tie_back : (ties : List (Option Tie)) (m : ℕ) (o : Option Tie) → set (set ties m o) m (tie_at ties m) ≡ ties
tie_back ties m o = set-set ties m o (tie_at ties m) ∙ set-get_or ties m None

pub saved_record : (ties ties2 : List (Option Tie)) (states : List State) (since : List (List Before)) (b : Before)
    → undone ties2 b ≡ ties → saved_of ties2 states (with_record b since) ≡ saved_of ties states since
saved_record ties ties2 [] since b e = refl
saved_record ties ties2 (s ∷ more) [] b e = refl
saved_record ties ties2 (s ∷ more) (bs ∷ rest) b e = ap (λ t. saved_of t (s ∷ more) (bs ∷ rest)) e

record_within : (n : ℕ) (b : Before) (since : List (List Before)) → IsWithin n b → AreWithin n since
    → AreWithin n (with_record b since)
record_within n b [] h w = tt
record_within n b (bs ∷ rest) h w = ((h, w.0), w.1)

record_long : (b : Before) (since : List (List Before)) → length (with_record b since) ≡ length since
record_long b [] = refl
record_long b (bs ∷ rest) = refl

old_within : (p : Parts) (t : TiedState) (m : ℕ) → IsTied p t → m < length t.ties
    → (o : Option Tie) → tie_at t.ties m ≡ o → IfSome o (λ y. y.leader.0 < length t.ties)
old_within p t m h l None e = tt
old_within p t m h l (Some y) e =
    let k = live_there t.state.slots y.leader.0 (h.each m y e).leader in
    let n = h.long in
    omega (arith, k, n)

pub kept_record : (p q : Parts) (s s2 : State) (ties : List (Option Tie)) (states states2 : List State)
    (since : List (List Before)) (m : MeetId) (o : Option Tie) → q ≡ p → states2 ≡ states → m.0 < length ties
    → IsKept p s ties states since → IsTied p (with_ties s2 (set ties m.0 o))
    → IsKept q s2 (set ties m.0 o) states2 (with_record (record { meet = m; tie = tie_at ties m.0 }) since)
kept_record p q s s2 ties states states2 since m o e f l k h =
    let b : Before = record { meet = m; tie = tie_at ties m.0 } in
    subst (λ x. IsKept x s2 (set ties m.0 o) states2 (with_record b since)) (sym e)
    (subst (λ x. IsKept p s2 (set ties m.0 o) x (with_record b since)) (sym f) (record {
      now = h;
      then = subst (AllTied p) (sym (saved_record ties (set ties m.0 o) states since b (tie_back ties m.0 o))) k.then;
      steps = k.steps ∙ sym (record_long b since);
      within = subst (λ n. AreWithin n (with_record b since)) (sym (length-set ties m.0 o))
          (record_within (length ties) b since (l, old_within p (with_ties s ties) m.0 k.now l (tie_at ties m.0) refl) k.within);
    }))

-- a Tie, whole
pub tie_tied : (p : Parts) (s s2 : State) (ties : List (Option Tie)) (m : MeetId) (t : Tie) → IsTied p (with_ties s ties)
    → CanTie p s.slots ties m.0 t → AreValid p s2.slots
    → s2.slots ≡ timed s.slots m (later t.offset (start_of (slot_at s.slots t.leader.0)))
    → IsTied p (with_ties s2 (set ties m.0 (Some t)))
tie_tied p s s2 ties m t h c v e = settled_tied p s2 s.slots (set ties m.0 (Some t))
    (tied_in_place p s ties m t s2.slots h c e) v (length-set ties m.0 (Some t) ∙ h.long)
    (tied_loose p s ties m.0 t h c)

pub tie_state : (p : Parts) (s s2 : State) (ties : List (Option Tie)) (m : MeetId) (t : Tie) → IsTied p (with_ties s ties)
    → CanTie p s.slots ties m.0 t → s2.grouping ≡ s.grouping
    → s2.slots ≡ timed s.slots m (later t.offset (start_of (slot_at s.slots t.leader.0)))
    → with_ties s2 (set ties m.0 (Some t)) ≡ edited (with_ties s ties) (edit.Tie m t.leader t.offset)
unfolding edited
tie_state p s s2 ties m t h c g e = λ i. with_ties
    (record { slots = tied_in_place p s ties m t s2.slots h c e i; grouping = g i }) (set ties m.0 (Some t))

-- a meet that is untied: the other ties stand
pub untie_tied : (p : Parts) (s : State) (ties : List (Option Tie)) (m : ℕ) → IsTied p (with_ties s ties) → m < length ties
    → IsTied p (with_ties s (set ties m None))
untie_tied p s ties m h l = record {
  valid = h.valid;
  long = length-set ties m None ∙ h.long;
  each = λ k y i. by k y i (cases_eq k m);
}
  where
    gone : (j : ℕ) → tie_at ties j ≡ None → (j ≡ m) ⊎ (j ≡ m → ⊥) → tie_at (set ties m None) j ≡ None
    gone j f (inl z) = ap (tie_at (set ties m None)) z ∙ tie_here ties m None l
    gone j f (inr d) = tie_other ties m j None d ∙ f

    by : (k : ℕ) (y : Tie) → tie_at (set ties m None) k ≡ Some y → (k ≡ m) ⊎ (k ≡ m → ⊥)
        → IsTie p s.slots (set ties m None) k y
    by k y i (inl z) =
        let e : None ≡ Some y = sym (ap (tie_at (set ties m None)) z ∙ tie_here ties m None l) ∙ i in
        let x : ⊥ = cc in absurd x
    by k y i (inr d) =
        let a = h.each k y (sym (tie_other ties m k None d) ∙ i) in
        record {
          live = a.live;
          leader = a.leader;
          apart = a.apart;
          free = gone y.leader.0 a.free (cases_eq y.leader.0 m);
          unfixed = a.unfixed;
          within = a.within;
          start = a.start;
        }

-- what a check says of the engine's own state
pub refusal_of : (p q : Parts) (s : State) (slots : List Slot) (ties : List (Option Tie)) (e : TiedEdit)
    (o : Option TiedRefusal) → p ≡ q → slots ≡ s.slots
    → refusal p (with_ties (record { slots = slots; grouping = s.grouping }) ties) e ≡ o
    → refusal q (with_ties s ties) e ≡ o
refusal_of p q s slots ties e o i j h =
    sym (λ k. refusal (i k) (with_ties (record { slots = j k; grouping = s.grouping }) ties) e) ∙ h

pub fault_moved : (p q : Parts) (s : State) (slots : List Slot) (ties : List (Option Tie)) (e : TiedEdit) (f : TiedFault)
    → p ≡ q → slots ≡ s.slots
    → IsFaultOf (refusal p (with_ties (record { slots = slots; grouping = s.grouping }) ties) e) f
    → IsFaultOf (refusal q (with_ties s ties) e) f
fault_moved p q s slots ties e f i j h = subst (λ o. IsFaultOf o f)
    (λ k. refusal (i k) (with_ties (record { slots = j k; grouping = s.grouping }) ties) e) h

pub refused_fault : (o : Option TiedRefusal) (r : TiedRefusal) → o ≡ Some r → IsFaultOf o (Refused r)
refused_fault o r e = subst (λ x. IsFaultOf x (Refused r)) (sym e) refl

pub memory_fault : (o : Option TiedRefusal) → o ≡ None → IsFaultOf o NoMemory
memory_fault o e = subst (λ x. IsFaultOf x NoMemory) (sym e) refl

pub refusal_moved : (p q : Parts) (s s2 : State) (ties : List (Option Tie)) (e : TiedEdit) → q ≡ p → s2 ≡ s
    → refusal p (with_ties s ties) e ≡ None → refusal q (with_ties s2 ties) e ≡ None
refusal_moved p q s s2 ties e i j h = (λ k. refusal (i k) (with_ties (j k) ties) e) ∙ h

pub kept_moved : (p q : Parts) (s s2 : State) (ties : List (Option Tie)) (states states2 : List State)
    (since since2 : List (List Before)) → q ≡ p → s2 ≡ s → states2 ≡ states → since2 ≡ since
    → IsKept p s ties states since → IsKept q s2 ties states2 since2
kept_moved p q s s2 ties states states2 since since2 i j k l h =
    subst (λ x. IsKept x s2 ties states2 since2) (sym i)
    (subst (λ x. IsKept p x ties states2 since2) (sym j)
    (subst (λ x. IsKept p s ties x since2) (sym k) (subst (IsKept p s ties states) (sym l) h)))

pub live_within : (s : List Slot) (m : ℕ) → is_live (slot_at s m) ≡ true → m < length s
live_within s m h = live_there s m h
