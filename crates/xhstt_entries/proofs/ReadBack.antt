-- A valid timetable is read again from its entries: the entries have no cause, and say the timetable.
use Rattle.std.proofs.Common.{◌≡◌, ◌∙◌, ap, ap₂, refl, sym, subst, ℕ, ◌+◌, ◌-◌, ◌≤◌, ◌==◌, Bool, true, false, cond}
use Rattle.std.proofs.Common.{Option, Some, None, List, [], ◌∷◌, ◌++◌, map, length, All, slice_get, flat_map, arith}
use Rattle.std.proofs.Common.{append_assoc, append-nil, sum_by, zero-add}
use Rattle.std.specs.Prelude.{Ok}
use Rattle.std.specs.List.{enumerate_from}
use Rattle.std.specs.Option.{option_map, option_or}
use Rattle.std.proofs.lemmas.Bool.{eqb-true}
use Rattle.std.proofs.lemmas.List.{map-append}
use Rattle.std.proofs.lemmas.List.Concat.{flat_map-append}
use Rattle.std.proofs.lemmas.List.Elements.{All-cons, All-head, All-nil, All-push, All-tail}
use Rattle.khe_base.proofs.ListLemmas.{sum-mapped}
use Rattle.khe_base.specs.declared.numbers.EventId.{EventId}
use Rattle.khe_instance.specs.Named.{event_named}
use Rattle.khe_instance.specs.Running.{meets_of}
use Rattle.khe_instance.specs.States.{IsMeet, IsValid}
use Rattle.khe_instance.specs.WellMade.{AreWellMade}
use Rattle.khe_instance.specs.declared.parts.EventInfo.{EventInfo}
use Rattle.khe_instance.specs.declared.parts.Parts.{Parts}
use Rattle.khe_instance.specs.declared.states.Meet.{Meet}
use Rattle.khe_instance.specs.declared.states.Plain.{Plain}
use Rattle.khe_instance.specs.declared.states.Task.{Task}
use Rattle.xhstt_completion.specs.Causes.{cause_after, first_cause, used_by}
use Rattle.xhstt_completion.specs.Completed.{completed, meet_of, meets_at, missing_parts, part_of, event_parts, state_of}
use Rattle.xhstt_completion.specs.Completed.{tasks_at, tasks_of, unless}
use Rattle.xhstt_completion.specs.Entries.{duration_of, entries_of, is_event}
use Rattle.xhstt_completion.specs.declared.faults.Cause.{Cause}
use Rattle.xhstt_completion.proofs.CausesLemmas.{cause_after-in}
use Rattle.xhstt_completion.proofs.Pieces.{All-filter, All-numbered}
use Rattle.xhstt_shape.specs.declared.records.RawEntry.{RawEntry}
use Rattle.xhstt_shape.specs.declared.records.RawSolution.{RawSolution}
use Rattle.xhstt_entries.specs.Renumbered.{in_order, meet_in, renumbered, slotted, tasks_in}
use Rattle.xhstt_entries.specs.Spelled.{event_id, spelled}
use Rattle.xhstt_entries.proofs.EntryBack.{ReadsBack, entry_in, reads_back, together}

-- ---- lists

-- what is true of each element, as it stands among the others
all_split : {X : Type 0} (P : X → Type 0) (front xs : List X)
    → ((before : List X) (x : X) (after : List X) → front ++ xs ≡ before ++ x ∷ after → P x) → All P xs
all_split P front [] h = All-nil P
all_split P front (x ∷ xs) h =
    All-cons P x xs (h front x xs refl)
    (all_split P (front ++ x ∷ []) xs (λ before y after e. h before y after
    (sym (append_assoc front (x ∷ []) xs) ∙ e)))

-- pieces that are made of other pieces
pieces_mapped : {X A B : Type 0} (f : X → List B) (g : A → B) (k : X → List A) (xs : List X)
    → All (λ x. f x ≡ map g (k x)) xs → flat_map f xs ≡ map g (flat_map k xs)
pieces_mapped f g k [] all = refl
pieces_mapped f g k (x ∷ xs) all =
    ap₂ (λ a b. a ++ b) (All-head (λ x. f x ≡ map g (k x)) x xs all)
    (pieces_mapped f g k xs (All-tail (λ x. f x ≡ map g (k x)) x xs all))
    ∙ sym (map-append g (k x) (flat_map k xs))

pieces_joined : {X A B : Type 0} (f : X → List B) (g : A → List B) (k : X → List A) (xs : List X)
    → All (λ x. f x ≡ flat_map g (k x)) xs → flat_map f xs ≡ flat_map g (flat_map k xs)
pieces_joined f g k [] all = refl
pieces_joined f g k (x ∷ xs) all =
    ap₂ (λ a b. a ++ b) (All-head (λ x. f x ≡ flat_map g (k x)) x xs all)
    (pieces_joined f g k xs (All-tail (λ x. f x ≡ flat_map g (k x)) x xs all))
    ∙ sym (flat_map-append g (k x) (flat_map k xs))

module _ (p : Parts) (s : Plain) (made : AreWellMade p) (valid : IsValid p s) where
  abbrev entry : Meet → RawEntry
  entry m = entry_in p s m

  -- ---- each meet

  abbrev Reads : Meet → Type 0
  Reads m = (event : EventInfo) → slice_get p.events m.event.0 ≡ Some event → ReadsBack p s m event

  each : All Reads s.meets
  each = all_split Reads [] s.meets (λ before m after e event there. reads_back p s made valid before m after e event
      there)

  abbrev IsNamed : Meet → Type 0
  IsNamed m = event_named p (event_id p m.event) ≡ Some m.event

  named_from : (before rest : List Meet) → s.meets ≡ before ++ rest → All IsNamed rest
  named_from before rest e = all_split IsNamed before rest (λ front m after f.
      let split = e ∙ f in
      let slot = (meet_at front m after split).slot in
      (reads_back p s made valid front m after split slot.0 slot.1).named)
    where
      all_at : (xs : List Meet) (m : Meet) (after : List Meet) → All (IsMeet p) (xs ++ m ∷ after) → IsMeet p m
      all_at [] m after h = All-head (IsMeet p) m after h
      all_at (x ∷ xs) m after h = all_at xs m after (All-tail (IsMeet p) x (xs ++ m ∷ after) h)

      meet_at : (front : List Meet) (m : Meet) (after : List Meet) → s.meets ≡ front ++ m ∷ after → IsMeet p m
      meet_at front m after split = all_at front m after (subst (All (IsMeet p)) split (valid.told).meets)

  -- ---- the entries of an event

  entries_found : (e : ℕ) (xs : List Meet) → All IsNamed xs → entries_of p e (map entry xs) ≡ map entry (meets_of e xs)
  entries_found e [] named = refl
  entries_found e (m ∷ xs) named =
      let test : is_event e (event_named p (event_id p m.event)) ≡ (m.event.0 == e) =
      ap (is_event e) (All-head IsNamed m xs named) in
      let later = entries_of p e (map entry xs) in
      ap (λ b. cond b (entry m ∷ later) later) test
      ∙ by (m.event.0 == e) (entries_found e xs (All-tail IsNamed m xs named))
    where
      by : (b : Bool) → entries_of p e (map entry xs) ≡ map entry (meets_of e xs)
          → cond b (entry m ∷ entries_of p e (map entry xs)) (entries_of p e (map entry xs))
          ≡ map entry (cond b (m ∷ meets_of e xs) (meets_of e xs))
      by true rest = ap (λ l. entry m ∷ l) rest
      by false rest = rest

  used_found : (e : ℕ) (event : EventInfo) (xs : List Meet) → All IsNamed xs
      → used_by p e event (map entry xs) ≡ sum_by (λ m. m.duration) (meets_of e xs)
  used_found e event xs named = ap (sum_by (duration_of event)) (entries_found e xs named)
      ∙ sum-mapped (duration_of event) entry (meets_of e xs)

  -- ---- no cause

  abbrev at_entry : List RawEntry → ℕ → Cause
  at_entry before cause = record { cause = cause; entry = length before }

  no_cause_after : (before : List Meet) (m : Meet) (after : List Meet) → s.meets ≡ before ++ m ∷ after
      → All IsNamed before → IsMeet p m → cause_after p (map entry before) (entry m) ≡ None
  no_cause_after before m after e named is =
      let event = is.slot.0 in
      let there = is.slot.1 in
      let facts = reads_back p s made valid before m after e event there in
      let used = used_found m.event.0 event before named in
      let whole : sum_by (λ x. x.duration) (meets_of m.event.0 s.meets) ≡ event.duration =
      (valid.events m.event.0 event there).whole in
      let all : sum_by (λ x. x.duration) (meets_of m.event.0 (before ++ m ∷ after)) ≡ event.duration =
      ap (λ l. sum_by (λ (x : Meet). x.duration) (meets_of m.event.0 l)) (sym e) ∙ whole in
      cause_after-in p (map entry before) (entry m) m.event event facts.named there
      ∙ facts.free (used_by p m.event.0 event (map entry before))
      (let fits = together before m after in omega (arith, fits, used, all))

  no_cause_from : (before rest : List Meet) → s.meets ≡ before ++ rest → All IsNamed before → All IsNamed rest
      → All (IsMeet p) rest → first_cause p (map entry before) (map entry rest) ≡ None
  no_cause_from before [] e named later meets = refl
  no_cause_from before (m ∷ rest) e named later meets =
      let none = no_cause_after before m rest e named (All-head (IsMeet p) m rest meets) in
      let both : All IsNamed (before ++ m ∷ []) = All-push IsNamed before m named
      (All-head IsNamed m rest later) in
      let after = ap (λ l. first_cause p l (map entry rest)) (sym (map-append entry before (m ∷ [])))
      ∙ no_cause_from (before ++ m ∷ []) rest (e ∙ sym (append_assoc before (m ∷ []) rest)) both
      (All-tail IsNamed m rest later) (All-tail (IsMeet p) m rest meets) in
      ap₂ (λ o q. option_or (option_map (at_entry (map entry before)) o) q) none after

  named : All IsNamed s.meets
  named = named_from [] s.meets refl

  pub no_cause : first_cause p [] (map entry s.meets) ≡ None
  no_cause = no_cause_from [] s.meets refl (All-nil IsNamed) named (valid.told).meets

  -- ---- the state

  module _ (e : ℕ) (event : EventInfo) (there : slice_get p.events e ≡ Some event) where
    record IsOwn (m : Meet) : Type 0 where
      event_is : m.event.0 ≡ e
      back : ReadsBack p s m event

    owned : All IsOwn (meets_of e s.meets)
    owned = All-filter (λ m. m.event.0 == e) Reads IsOwn s.meets
        (λ m reads own.
        let same = eqb-true m.event.0 e own in
        record { event_is = same; back = reads event (ap (slice_get p.events) same ∙ there) })
        each

    parts_found : event_parts p (map entry s.meets) (e, event) ≡ map (part_of p event) (map entry (meets_of e s.meets))
    parts_found =
        let found = entries_found e s.meets named in
        let used : used_by p e event (map entry s.meets) ≡ event.duration =
        used_found e event s.meets named ∙ (valid.events e event there).whole in
        let none : event.duration - used_by p e event (map entry s.meets) ≡ 0 = omega (arith, used) in
        (λ i. map (part_of p event) (found i) ++ missing_parts event (none i))
        ∙ append-nil (map (part_of p event) (map entry (meets_of e s.meets)))

    meets_read : (n : ℕ) (xs : List Meet) → All IsOwn xs
        → map (meet_of e) (enumerate_from n (map (part_of p event) (map entry xs)))
        ≡ map meet_in (enumerate_from n xs)
    meets_read n [] all = refl
    meets_read n (m ∷ xs) all =
        let own = All-head IsOwn m xs all in
        let same = own.event_is in
        let start = (own.back).start in
        let rest = meets_read (n + 1) xs (All-tail IsOwn m xs all) in
        λ i. record {
          meet = record { 0 = n };
          event = record { 0 = sym same i };
          duration = m.duration;
          start = start i;
        } ∷ rest i

    tasks_read : (n : ℕ) (xs : List Meet) → All IsOwn xs
        → flat_map (tasks_of p event) (enumerate_from n (map (part_of p event) (map entry xs)))
        ≡ flat_map (tasks_in s.tasks) (enumerate_from n xs)
    tasks_read n [] all = refl
    tasks_read n (m ∷ xs) all =
        ap₂ (λ a b. a ++ b) (((All-head IsOwn m xs all).back).tasks n)
        (tasks_read (n + 1) xs (All-tail IsOwn m xs all))

    event_meets : meets_at p (map entry s.meets) (e, event) ≡ map meet_in (slotted s (e, event))
    event_meets = ap (λ l. map (meet_of e) (enumerate_from event.first_meet l)) parts_found
        ∙ meets_read event.first_meet (meets_of e s.meets) owned

    event_tasks : tasks_at p (map entry s.meets) (e, event) ≡ flat_map (tasks_in s.tasks) (slotted s (e, event))
    event_tasks = ap (λ l. flat_map (tasks_of p event) (enumerate_from event.first_meet l)) parts_found
        ∙ tasks_read event.first_meet (meets_of e s.meets) owned

  meets_back : (state_of p (map entry s.meets)).meets ≡ (renumbered p s).meets
  meets_back =
      let Q : ℕ × EventInfo → Type 0 = λ q. meets_at p (map entry s.meets) q ≡ map meet_in (slotted s q) in
      pieces_mapped (meets_at p (map entry s.meets)) meet_in (slotted s) (enumerate_from 0 p.events)
      (All-numbered Q 0 p.events (λ e event there. subst (λ n. Q (n, event)) (sym (zero-add e))
      (event_meets e event there)))

  tasks_back : (state_of p (map entry s.meets)).tasks ≡ (renumbered p s).tasks
  tasks_back =
      let Q : ℕ × EventInfo → Type 0 = λ q. tasks_at p (map entry s.meets) q ≡ flat_map (tasks_in s.tasks) (slotted s q)
      in
      pieces_joined (tasks_at p (map entry s.meets)) (tasks_in s.tasks) (slotted s) (enumerate_from 0 p.events)
      (All-numbered Q 0 p.events (λ e event there. subst (λ n. Q (n, event)) (sym (zero-add e))
      (event_tasks e event there)))

  state_back : state_of p (map entry s.meets) ≡ renumbered p s
  state_back = λ i. record { meets = meets_back i; tasks = tasks_back i; detached = []; groups = [] }

  pub read_again : (old : RawSolution) → completed p (spelled p s old) ≡ Ok (renumbered p s)
  read_again old = ap (λ cause. unless cause (state_of p (map entry s.meets))) no_cause ∙ ap (λ l. Ok l) state_back
