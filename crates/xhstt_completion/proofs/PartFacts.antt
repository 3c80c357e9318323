-- What is true of the parts of an event whose entries have no cause.
use Rattle.std.proofs.Common.{ℕ, ◌≡◌, ◌∙◌, ◌+◌, ◌-◌, ◌≤◌, Bool, true, false, not, if◌then◌else◌, Option, Some, None}
use Rattle.std.proofs.Common.{List, [], ◌∷◌, ◌++◌, length, map, slice_get, refl, sym, ap, subst, arith, zero-add}
use Rattle.std.specs.Prelude.{All, IfSome, ◌==◌, is_some, nat_lt, ◌&&◌}
use Rattle.std.specs.List.{sum_by}
use Rattle.std.specs.Option.{option_map_or, option_or}
use Rattle.std.proofs.lemmas.Bool.{ltb-false, eqb-true, eqb-false, not-false}
use Rattle.std.proofs.lemmas.List.Elements.{All-nil, All-cons, All-head, All-tail, All-append, All-map}
use Rattle.std.proofs.lemmas.List.Folds.{fold-map}
use Rattle.std.proofs.lemmas.List.Sums.{sum_by-append, sum_by-cons}
use Rattle.khe_base.specs.declared.numbers.TimeId.{TimeId}
use Rattle.khe_instance.specs.WellMade.{HasType, IsEvent}
use Rattle.khe_instance.specs.declared.parts.EventInfo.{EventInfo}
use Rattle.khe_instance.specs.declared.parts.Parts.{Parts}
use Rattle.khe_instance.specs.declared.parts.Place.{Place}
use Rattle.xhstt_completion.specs.Causes.{cause_in, differ_in_time}
use Rattle.xhstt_completion.specs.Completed.{Part, part_of, missing_parts, resource_at}
use Rattle.xhstt_completion.specs.Entries.{IsEntry, duration_of, start_of, time_of}
use Rattle.xhstt_completion.proofs.CausesLemmas.{cause_in-none, not_too_long, unwrap_or-positive}
use Rattle.xhstt_completion.proofs.FitLemmas.{AreFit, used-fits}
use Rattle.xhstt_completion.proofs.Roles.{resource-typed}
use Rattle.xhstt_shape.specs.declared.records.RawEntry.{RawEntry}

-- a part lasts some times, ends in time, and has resources of the types that its event wants
pub record IsPart (p : Parts) (event : EventInfo) (part : Part) : Type 0 where
  pub lasts : 1 ≤ part.duration
  pub ends : IfSome part.start (λ s. s.0 + part.duration ≤ length p.times)
  pub typed : (k : ℕ) (place : Place) → slice_get event.places k ≡ Some place
      → IfSome (resource_at p part.given place) (HasType p place.rtype)

not-late : (times duration : ℕ) (start : Option TimeId)
    → option_map_or (λ s. nat_lt times (s.0 + duration)) start false ≡ false
    → IfSome start (λ s. s.0 + duration ≤ times)
not-late times duration None h = tt
not-late times duration (Some s) h = ltb-false times (s.0 + duration) h

shorter-ends : (times duration shorter : ℕ) (start : Option TimeId) → shorter ≤ duration
    → IfSome start (λ s. s.0 + duration ≤ times) → IfSome start (λ s. s.0 + shorter ≤ times)
shorter-ends times duration shorter None l h = tt
shorter-ends times duration shorter (Some s) l h = omega arith

pub entry-part : (p : Parts) (event : EventInfo) (used : ℕ) (entry : RawEntry) → IsEvent p event → IsEntry p entry
    → cause_in p event used entry ≡ None → IsPart p event (part_of p event entry)
entry-part p event used entry made is none =
    let free = cause_in-none p event used entry none in
    record {
      lasts = unwrap_or-positive entry.duration event.duration is.duration made.duration.0;
      ends = not-late (length p.times) (duration_of event entry) (start_of p event entry) free.late;
      typed = λ k place at. resource-typed p event entry.resources k place made at free.given;
    }

entry-parts : (p : Parts) (event : EventInfo) (used : ℕ) (mine : List RawEntry) → IsEvent p event → All (IsEntry p) mine
    → AreFit p event used mine
    → All (λ entry. IsPart p event (part_of p event entry)) mine
entry-parts p event used [] made all fit = All-nil (λ entry. IsPart p event (part_of p event entry))
entry-parts p event used (entry ∷ rest) made all fit =
    All-cons (λ x. IsPart p event (part_of p event x)) entry rest
    (entry-part p event used entry made (All-head (IsEntry p) entry rest all) fit.0)
    (entry-parts p event (used + duration_of event entry) rest made (All-tail (IsEntry p) entry rest all) fit.1)

missing-are : (p : Parts) (event : EventInfo) (missing : ℕ) → IsEvent p event → missing ≤ event.duration
    → All (IsPart p event) (missing_parts event missing)
missing-are p event missing made l = by (missing == 0) refl
  where
    one : Part
    one = record { duration = missing; start = event.fixed; given = [] }

    by : (b : Bool) → (missing == 0) ≡ b → All (IsPart p event)
        (if b then [] else record { duration = missing; start = event.fixed; given = [] } ∷ [])
    by true e = All-nil (IsPart p event)
    by false e =
        let some = eqb-false missing 0 e in
        All-cons (IsPart p event) (record { duration = missing; start = event.fixed; given = [] }) []
        (record {
          lasts = omega arith;
          ends = shorter-ends (length p.times) event.duration missing event.fixed l made.fixed;
          typed = λ k place at. resource-typed p event [] k place made at refl;
        })
        (All-nil (IsPart p event))

-- the parts of an event, given its entries
abbrev pub parts_from : Parts → EventInfo → List RawEntry → List Part
parts_from p event mine = map (part_of p event) mine
    ++ missing_parts event (event.duration - sum_by (duration_of event) mine)

pub parts-are : (p : Parts) (event : EventInfo) (mine : List RawEntry) → IsEvent p event → All (IsEntry p) mine
    → AreFit p event 0 mine → All (IsPart p event) (parts_from p event mine)
parts-are p event mine made all fit =
    All-append (IsPart p event) (map (part_of p event) mine)
    (missing_parts event (event.duration - sum_by (duration_of event) mine))
    (All-map (IsPart p event) (part_of p event) mine (entry-parts p event 0 mine made all fit))
    (missing-are p event (event.duration - sum_by (duration_of event) mine) made (omega arith))

-- they last as long as the event
missing-lasts : (event : EventInfo) (missing : ℕ)
    → sum_by (λ (x : Part). x.duration) (missing_parts event missing) ≡ missing
missing-lasts event missing = by (missing == 0) refl
  where
    by : (b : Bool) → (missing == 0) ≡ b → sum_by (λ (x : Part). x.duration)
        (if b then [] else record { duration = missing; start = event.fixed; given = [] } ∷ []) ≡ missing
    by true e = sym (eqb-true missing 0 e)
    by false e = zero-add missing

pub parts-last : (p : Parts) (event : EventInfo) (mine : List RawEntry) → AreFit p event 0 mine
    → sum_by (λ x. x.duration) (parts_from p event mine) ≡ event.duration
parts-last p event mine fit =
    let lasts : Part → ℕ = λ x. x.duration in
    let used = sum_by (duration_of event) mine in
    let own : sum_by lasts (map (part_of p event) mine) ≡ used =
    fold-map (λ a x. a + lasts x) (part_of p event) 0 mine in
    let more = missing-lasts event (event.duration - used) in
    let within = used-fits p event 0 mine fit (omega arith) in
    let total : used + (event.duration - used) ≡ event.duration = omega (arith, within) in
    sum_by-append lasts (map (part_of p event) mine) (missing_parts event (event.duration - used))
    ∙ (λ i. own i + more i) ∙ total

-- so they are no more than the event has slots
few-parts : (p : Parts) (event : EventInfo) (parts : List Part) → All (IsPart p event) parts
    → length parts ≤ sum_by (λ x. x.duration) parts
few-parts p event [] all = omega arith
few-parts p event (x ∷ xs) all =
    let first : 1 ≤ x.duration = (All-head (IsPart p event) x xs all).lasts in
    let rest = few-parts p event xs (All-tail (IsPart p event) x xs all) in
    omega (arith, rest, sum_by-cons (λ (y : Part). y.duration) x xs)

pub parts-few : (p : Parts) (event : EventInfo) (mine : List RawEntry) → IsEvent p event → All (IsEntry p) mine
    → AreFit p event 0 mine → length (parts_from p event mine) ≤ event.duration
parts-few p event mine made all fit =
    subst (λ n. length (parts_from p event mine) ≤ n) (parts-last p event mine fit)
    (few-parts p event (parts_from p event mine) (parts-are p event mine made all fit))

-- an event with a preassigned time has one part, at that time
same-time : (x t : TimeId) → not (x.0 == t.0) ≡ false → Some x ≡ Some t
same-time x t h = let same = eqb-true x.0 t.0 (not-false (x.0 == t.0) h) in λ i. Some (record { 0 = same i })

at-fixed : (given : Option TimeId) (t : TimeId) → differ_in_time given (Some t) ≡ false
    → option_or given (Some t) ≡ Some t
at-fixed None t h = refl
at-fixed (Some x) t h = same-time x t h

whole : (o : Option TimeId) (t : TimeId) (d duration : ℕ) → o ≡ Some t → (is_some o && nat_lt d duration) ≡ false
    → duration ≤ d
whole o t d duration e h = ltb-false d duration (sym (ap (λ x. is_some x && nat_lt d duration) e) ∙ h)

pub fixed-starts : (p : Parts) (event : EventInfo) (mine : List RawEntry) (t : TimeId) → IsEvent p event
    → All (IsEntry p) mine → AreFit p event 0 mine → event.fixed ≡ Some t
    → map (λ x. x.start) (parts_from p event mine) ≡ Some t ∷ []
fixed-starts p event [] t made all fit fixed =
    let all_of_it : event.duration - 0 ≡ event.duration = omega arith in
    ap (λ n. map (λ (x : Part). x.start) (missing_parts event n)) all_of_it ∙ by (event.duration == 0) refl
  where
    by : (b : Bool) → (event.duration == 0) ≡ b → map (λ (x : Part). x.start)
        (if b then [] else record { duration = event.duration; start = event.fixed; given = [] } ∷ []) ≡ Some t ∷ []
    by true e = let lasts = made.duration.0 in absurd (omega (arith, lasts, eqb-true event.duration 0 e))
    by false e = ap (λ o. o ∷ []) fixed
fixed-starts p event (x ∷ []) t made all fit fixed =
    let free = cause_in-none p event 0 x fit.0 in
    let long : event.duration ≤ duration_of event x =
    whole event.fixed t (duration_of event x) event.duration fixed free.split in
    let start : start_of p event x ≡ Some t =
    ap (option_or (time_of p x)) fixed ∙ at-fixed (time_of p x) t
    (sym (ap (differ_in_time (time_of p x)) fixed) ∙ free.moved)
    in
    let sum : sum_by (duration_of event) (x ∷ []) ≡ duration_of event x = zero-add (duration_of event x) in
    let none : event.duration - sum_by (duration_of event) (x ∷ []) ≡ 0 = omega arith in
    ap (λ n. map (λ (y : Part). y.start) (part_of p event x ∷ missing_parts event n)) none ∙ ap (λ o. o ∷ []) start
fixed-starts p event (x ∷ y ∷ ys) t made all fit fixed =
    let free = cause_in-none p event 0 x fit.0 in
    let long : event.duration ≤ duration_of event x =
    whole event.fixed t (duration_of event x) event.duration fixed free.split in
    let more : 0 + duration_of event x + duration_of event y ≤ event.duration =
    not_too_long p event (0 + duration_of event x) y (fit.1).0 in
    let rest = All-tail (IsEntry p) x (y ∷ ys) all in
    let lasts : 1 ≤ duration_of event y = unwrap_or-positive y.duration event.duration
    (All-head (IsEntry p) y ys rest).duration made.duration.0 in
    absurd (omega arith)
