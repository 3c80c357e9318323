use Rattle.std.proofs.Common.{◌∙◌, ◌≤◌, sym, ap, subst, ℕ, List, length, replicate}
use Rattle.std.specs.Prelude.{vec_capacity}
use Rattle.event_deviations.specs.Marked.{AreListed}
use Rattle.event_deviations.proofs.MarkLemmas.{all_zero, AreListed-none}
use Rattle.event_deviations.proofs.marks.Marks.clear.Goals as goal

pub invariant_of-self : goal.invariant_of-self
invariant_of-self c =
    let old = c.self.inside.values.items in
    let zero = all_zero old c.reset.new.values.items c.as_slice.result.now
    (subst (AreListed old) (sym c.as_slice.ensures.value) c.self.invariant.0) c.reset.ensures.length
    c.reset.ensures.values in (
      rw (zero, c.clear.ensures.items) (AreListed-none (length old)),
      subst (λ n. n ≤ vec_capacity c.clear.new.self) (sym c.reset.ensures.length)
          (subst (λ n. length old ≤ n) (sym c.clear.ensures.capacity) c.self.invariant.1),
    )

pub returns : goal.returns
returns c =
    let old = c.self.inside.values.items in
    let zero = all_zero old c.reset.new.values.items c.as_slice.result.now
    (subst (AreListed old) (sym c.as_slice.ensures.value) c.self.invariant.0) c.reset.ensures.length
    c.reset.ensures.values in
    zero ∙ ap (λ (xs : List ℕ). replicate (length xs) 0) c.self.view_is
