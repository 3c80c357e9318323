use Rattle.std.proofs.Common.{ℕ, ◌≡◌, ◌≤◌, false, List, length, subst}
use Rattle.std.specs.Prelude.{MatchOption}
use Rattle.khe_base.specs.Bits.{is_set}
use Rattle.khe_told.specs.declared.slots.Slot.{Slot}
use Rattle.khe_solution.specs.FreeBits.{AreLive, IsFirst, IsFirstFree}
use Rattle.khe_solution.proofs.FreeLaws.{first_free_or_none}
use Rattle.khe_solution.proofs.slots.Slots.first_free.Goals as goal

pub returns : goal.returns
returns c =
    let r = c.first_set.result in
    let from = c.args.from in
    subst (λ (s : List Slot). MatchOption r (AreLive s from (length s)) (λ n. IsFirstFree s from n)) c.self.view_is
    (first_free_or_none c.self.inside.told c.self.inside.free.items from r c.self.invariant.0
    (subst (λ (ws : List ℕ). MatchOption r ((m : ℕ) → from ≤ m → is_set ws m ≡ false) (λ n. IsFirst ws from n))
    c.as_slice.ensures.value c.first_set.ensures))
