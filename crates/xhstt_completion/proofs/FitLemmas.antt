-- Entries without a cause, one event at a time.
use Rattle.std.proofs.Common.{ℕ, ◌≡◌, ◌∙◌, ◌+◌, ◌≤◌, Bool, true, false, if◌then◌else◌, Option, Some, None, List, []}
use Rattle.std.proofs.Common.{◌∷◌, ◌++◌, length, slice_get, refl, sym, subst, arith}
use Rattle.std.specs.List.{sum_by}
use Rattle.std.specs.Option.{option_or, option_map}
use Rattle.std.proofs.lemmas.Bool.{eqb-true}
use Rattle.std.proofs.lemmas.List.Sums.{sum_by-cons}
use Rattle.khe_base.specs.declared.numbers.EventId.{EventId}
use Rattle.khe_instance.specs.Named.{event_named}
use Rattle.khe_instance.specs.declared.parts.EventInfo.{EventInfo}
use Rattle.khe_instance.specs.declared.parts.Parts.{Parts}
use Rattle.xhstt_completion.specs.Causes.{cause_in, cause_after, first_cause, used_by}
use Rattle.xhstt_completion.specs.Entries.{duration_of, entries_of, is_event}
use Rattle.xhstt_completion.specs.declared.faults.Cause.{Cause}
use Rattle.xhstt_completion.proofs.CausesLemmas.{cause_after-in, not_too_long, used_by-own, used_by-other}
use Rattle.xhstt_shape.specs.declared.records.RawEntry.{RawEntry}

-- none of the entries of an event has a cause, after entries that used so much
abbrev pub AreFit : Parts → EventInfo → ℕ → List RawEntry → Type 0
AreFit p event used [] = Unit {0}
AreFit p event used (entry ∷ rest) = (cause_in p event used entry ≡ None)
    × AreFit p event (used + duration_of event entry) rest

-- neither has a value
or-none : {A B : Type 0} (f : A → B) (o : Option A) (q : Option B) → option_or (option_map f o) q ≡ None
    → (o ≡ None) × (q ≡ None)
or-none f None q h = (refl, h)
or-none f (Some x) q h = cc

-- an entry of the event has this number
own-number : (e : ℕ) (o : Option EventId) → is_event e o ≡ true → (x : EventId) × (o ≡ Some x) × (x.0 ≡ e)
own-number e None h = absurd (let k : false ≡ true = h in cc)
own-number e (Some x) h = (x, refl, eqb-true x.0 e h)

pub entries-fit : (p : Parts) (e : ℕ) (event : EventInfo) → slice_get p.events e ≡ Some event
    → (before rest : List RawEntry) → first_cause p before rest ≡ None
    → AreFit p event (used_by p e event before) (entries_of p e rest)
entries-fit p e event there before [] h = tt
entries-fit p e event there before (entry ∷ rest) h =
    let parts = or-none (let at : ℕ → Cause = λ cause. record { cause = cause; entry = length before } in at)
    (cause_after p before entry) (first_cause p (before ++ entry ∷ []) rest) h in
    by (is_event e (event_named p entry.reference.id)) refl parts.0
    (entries-fit p e event there (before ++ entry ∷ []) rest parts.1)
  where
    by : (b : Bool) → is_event e (event_named p entry.reference.id) ≡ b → cause_after p before entry ≡ None
        → AreFit p event (used_by p e event (before ++ entry ∷ [])) (entries_of p e rest)
        → AreFit p event (used_by p e event before) (if b then entry ∷ entries_of p e rest else entries_of p e rest)
    by true own none later =
        let x = own-number e (event_named p entry.reference.id) own in
        let there_x : slice_get p.events (x.0).0 ≡ Some event =
        subst (λ k. slice_get p.events k ≡ Some event) (sym x.2) there in
        let cause : cause_in p event (used_by p (x.0).0 event before) entry ≡ None =
        sym (cause_after-in p before entry x.0 event x.1 there_x) ∙ none in (
          subst (λ k. cause_in p event (used_by p k event before) entry ≡ None) x.2 cause,
          subst (λ used. AreFit p event used (entries_of p e rest)) (used_by-own p e event before entry own) later,
        )
    by false other none later = subst (λ used. AreFit p event used (entries_of p e rest))
        (used_by-other p e event before entry other) later

-- together they last no longer than the event
pub used-fits : (p : Parts) (event : EventInfo) (used : ℕ) (entries : List RawEntry) → AreFit p event used entries
    → used ≤ event.duration
    → used + sum_by (duration_of event) entries ≤ event.duration
used-fits p event used [] h within = omega arith
used-fits p event used (entry ∷ rest) h within =
    let later = used-fits p event (used + duration_of event entry) rest h.1 (not_too_long p event used entry h.0) in
    omega (arith, later, sum_by-cons (duration_of event) entry rest)

-- the entries of an event last no longer than the event
pub event-fits : (p : Parts) (entries : List RawEntry) → first_cause p [] entries ≡ None → (e : ℕ) (event : EventInfo)
    → slice_get p.events e ≡ Some event
    → used_by p e event entries ≤ event.duration
event-fits p entries none e event there =
    let within = used-fits p event 0 (entries_of p e entries) (entries-fit p e event there [] entries none)
    (omega arith) in
    omega (arith, within)
