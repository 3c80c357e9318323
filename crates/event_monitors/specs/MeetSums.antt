-- Sums over an event's meets, slot by slot.
use Rattle.std.proofs.Common.{ℕ, ◌≡◌, ◌+◌, ◌==◌, ◌∙◌, Bool, true, false, cond, Option, Some, None, List, [], ◌∷◌, refl}
use Rattle.std.proofs.Common.{sym, ap, zero-add, ◌⊎◌, inl, inr, sum_by}
use Rattle.std.proofs.lemmas.List.Sums.{sum_by-cons}
use Rattle.std.proofs.lemmas.Bool.{ne_eqb, eq-eqb, cases_eq}
use Rattle.khe_base.specs.declared.numbers.TimeId.{TimeId}
use Rattle.khe_instance.specs.Running.{meets_of}
use Rattle.khe_instance.specs.declared.states.Meet.{Meet}
use Rattle.khe_told.specs.Lists.{meets_in}
use Rattle.khe_told.specs.declared.slots.Slot.{Slot}
use Rattle.khe_told.specs.declared.slots.Span.{Span}
use Rattle.event_monitors.specs.Shares.{span_share}

pub swap : (a b : ℕ) → (a == b) ≡ (b == a)
swap a b = by (cases_eq a b)
  where
    by : (a ≡ b) ⊎ (a ≡ b → ⊥) → (a == b) ≡ (b == a)
    by (inl e) = eq-eqb a b e ∙ sym (eq-eqb b a (sym e))
    by (inr n) = ne_eqb a b n ∙ sym (ne_eqb b a (λ e. n (sym e)))

-- by the start and the duration of each meet
module _ (f : Option TimeId → ℕ → ℕ) (e : ℕ) where
  abbrev of_meet : Meet → ℕ
  of_meet m = f m.start m.duration

  abbrev of_slot : Slot → ℕ
  of_slot x = cond (e == x.event.0) (span_share f x.span) 0

  pub sum_over_meets : (s : List Slot) → sum_by of_meet (meets_of e (meets_in s)) ≡ sum_by of_slot s
  sum_over_meets [] = refl
  sum_over_meets (x ∷ s) = by x.span ∙ ap (λ n. of_slot x + n) (sum_over_meets s) ∙ sym (sum_by-cons of_slot x s)
    where
      here : (b : Bool) (m : Meet) (ms : List Meet)
          → sum_by of_meet (cond b (m ∷ ms) ms) ≡ cond b (of_meet m) 0 + sum_by of_meet ms
      here true m ms = sum_by-cons of_meet m ms
      here false m ms = sym (zero-add (sum_by of_meet ms))

      none : (b : Bool) (n : ℕ) → n ≡ cond b 0 0 + n
      none true n = sym (zero-add n)
      none false n = sym (zero-add n)

      by : (o : Option Span) → sum_by of_meet (meets_of e (meets_in (record x { span = o } ∷ s)))
          ≡ of_slot (record x { span = o }) + sum_by of_meet (meets_of e (meets_in s))
      by None = none (e == x.event.0) (sum_by of_meet (meets_of e (meets_in s)))
      by (Some y) =
          ap (λ b. sum_by of_meet (cond b (record {
            meet = x.meet;
            event = x.event;
            duration = y.duration;
            start =
                y.start;
          } ∷ meets_of e (meets_in s)) (meets_of e (meets_in s)))) (swap x.event.0 e)
          ∙ here (e == x.event.0) (record { meet = x.meet; event = x.event; duration = y.duration; start = y.start })
          (meets_of e (meets_in s))
