-- The times of runs.
use Rattle.std.proofs.Common.{◌≡◌, ◌≤◌, ◌<◌, ◌+◌, ◌∙◌, ◌^◌, ℕ, Option, Some, None, length, refl, sym, subst, arith}
use Rattle.std.proofs.Common.{IfSome}
use Rattle.std.proofs.lemmas.Option.{same_Some, none-some}
use Rattle.khe_base.specs.declared.numbers.TimeId.{TimeId}
use Rattle.khe_instance.specs.WellMade.{AreWellMade}
use Rattle.khe_instance.specs.declared.parts.Parts.{Parts}
use Rattle.khe_told.specs.Fits.{IsSlot}
use Rattle.khe_told.specs.declared.slots.Slot.{Slot}
use Rattle.khe_told.specs.declared.slots.Span.{Span}
use Rattle.resource_monitors.specs.Runs.{IsWithin, run_of}
use Rattle.resource_monitors.specs.declared.runs.Run.{Run}

-- a meet's start and end
ends : (p : Parts) (x : Slot) → IsSlot p x → (y : Span) (t : TimeId) → x.span ≡ Some y → y.start ≡ Some t
    → t.0 + y.duration ≤ length p.times
ends p x is y t e f = by y.start f
    (subst (λ o. IfSome o (λ (z : Span). IfSome z.start (λ s. s.0 + z.duration ≤ length p.times))) e is.ends)
  where
    by : (o : Option TimeId) → o ≡ Some t → IfSome o (λ s. s.0 + y.duration ≤ length p.times)
        → t.0 + y.duration ≤ length p.times
    by None e h = absurd (none-some t e)
    by (Some s) e h = subst (λ (q : TimeId). q.0 + y.duration ≤ length p.times) (same_Some s t e) h

pub run_within : (p : Parts) (x : Slot) → IsSlot p x → (run : Run) → run_of x.span ≡ Some run → IsWithin p run
run_within p x is run e = by x.span refl e
  where
    from : (d : ℕ) (o : Option TimeId) → x.span ≡ Some (record { duration = d; start = o })
        → run_of (Some (record { duration = d; start = o })) ≡ Some run → IsWithin p run
    from d None here e = absurd (none-some run e)
    from d (Some t) here e = subst (IsWithin p) (same_Some _ run e) (record {
      order = omega arith;
      times = ends p x is (record { duration = d; start = Some t }) t here refl;
    })

    by : (o : Option Span) → x.span ≡ o → run_of o ≡ Some run → IsWithin p run
    by None here e = absurd (none-some run e)
    by (Some y) here e = from y.duration y.start here e

-- it ends below what a number of 32 bits holds
pub below : (p : Parts) → AreWellMade p → (x : Slot) → IsSlot p x → (span : Option Span) → span ≡ x.span
    → (y : Span) (t : TimeId) → span ≡ Some y → y.start ≡ Some t → t.0 + y.duration < 2 ^ 32
below p made x is span same y t e f =
    let l = ends p x is y t (sym same ∙ e) f in let b = made.limits.times in omega (arith, l, b)

-- a run is that of a meet
pub meet_there : (span : Option Span) (run : Run) → run_of span ≡ Some run → (y : Span) × (span ≡ Some y)
meet_there None run e = absurd (none-some run e)
meet_there (Some y) run e = (y, refl)
