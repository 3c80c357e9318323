-- A set that is made of some numbers is one that may be kept beside them.
use Rattle.std.proofs.Common.{ℕ, ◌≡◌, ◌∙◌, Bool, Some, List, sym, ap, length}
use Rattle.std.specs.Option.{option_map_or}
use Rattle.xhstt_resolve.specs.GroupedSets.{IsSetOf}
use Rattle.xhstt_resolve.specs.Members.{set_of}
use Rattle.xhstt_resolve.proofs.WellMadeLists.{length-set_of}

pub kept_made : (size : ℕ) (numbers : List ℕ) (kept : List Bool) → kept ≡ set_of size numbers
    → IsSetOf (Some kept) numbers
kept_made size numbers kept made s e =
    let same : kept ≡ s = ap (λ o. option_map_or (λ k. k) o kept) e in
    let is : s ≡ set_of size numbers = sym same ∙ made in
    is ∙ ap (λ n. set_of n numbers) (sym (ap length is ∙ length-set_of size numbers))
