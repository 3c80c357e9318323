use Rattle.std.proofs.Common.{ℕ, ◌≡◌, ◌∙◌, true, false, cond, Option, Some, None, is_some, refl, sym, arith}
use Rattle.std.proofs.lemmas.Bool.{true≢false}
use Rattle.khe_base.specs.declared.numbers.ResourceId.{ResourceId}
use Rattle.khe_instance.specs.Running.{is_resource}
use Rattle.set_monitors.proofs.holder_effects.hands_other.Goals as goal

nothing : (o : Option ResourceId) (q : ℕ) → is_some o ≡ false → cond {A = ℕ} (is_resource q o) 1 0 ≡ 0
nothing None q h = refl
nothing (Some r) q h = absurd (true≢false h)

pub returns-else-is_some : goal.returns-else-is_some
returns-else-is_some c = λ none s turns q.
    let h = c.handing_of-handing.ensures.handed s turns q in
    let a = nothing c.handing_of-handing.result.before q (sym c.is_some.ensures ∙ c.if-is_some.false) in
    let b = nothing c.handing_of-handing.result.after q (sym c.is_some-else-is_some.ensures ∙ none) in
    omega (arith, h, a, b)
