-- Both are the same where the test says so.
use Rattle.std.proofs.Common.{◌≡◌, ◌∙◌, Bool, true, false, not, Option, Some, None, sym, refl, ap}
use Rattle.std.specs.Bool.{Decides}
use Rattle.std.specs.Option.{option_eq}
use Rattle.std.proofs.lemmas.Bool.{true≢false}
use Rattle.std.proofs.lemmas.Bool.Decides.{Decides-eqb}
use Rattle.std.proofs.lemmas.Option.{none-some, same_Some}
use Rattle.std.proofs.lemmas.Slice.Eq.{slice_eq-Decides}
use Rattle.khe_base.specs.contracts.numbers.ResourceIdPartialEq.TheImpl.{eq-value}
use Rattle.khe_base.specs.declared.numbers.ResourceId.{ResourceId}
use Rattle.event_monitors.proofs.effects.are_other.Goals as goal

decide : (a b : Option ResourceId) → Decides (option_eq eq-value.it a b) (a ≡ b)
decide None None = (λ h. refl, λ h. refl)
decide None (Some b) = (λ h. absurd (true≢false (sym h)), λ h. absurd (none-some b h))
decide (Some a) None = (λ h. absurd (true≢false (sym h)), λ h. absurd (none-some a (sym h)))
decide (Some a) (Some b) = (
  λ h. ap (λ n. Some (record { 0 = n })) ((Decides-eqb a.0 b.0).0 h),
  λ h. (Decides-eqb a.0 b.0).1 (ap (λ (r : ResourceId). r.0) (same_Some a b h)),
)

kept : (b : Bool) → not b ≡ false → b ≡ true
kept true h = refl
kept false h = absurd (true≢false h)

pub returns : goal.returns
returns c = λ same. (slice_eq-Decides decide c.args.before.now c.args.after.now _ refl).0
    (kept _ (sym c.ne.ensures ∙ same))
