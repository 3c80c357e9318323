-- A number that is sought among ascending numbers, by halves.
use Rattle.std.proofs.Common.{ℕ, ◌≡◌, ◌≤◌, ◌<◌, ◌+◌, ◌∙◌, Some, List, get_or, length, slice_get, sym, ap, arith, ◌⊎◌}
use Rattle.std.proofs.Common.{inl, inr}
use Rattle.std.proofs.lemmas.Bool.{cases_lt}
use Rattle.std.proofs.lemmas.Option.{same_Some, slice_get-get_or, slice_get_within}
use Rattle.set_monitors.specs.Links.{AreAscending}

-- it stands from `low` to `end`
pub record IsSought (xs : List ℕ) (number low end : ℕ) : Type 0 where
  pub within : end ≤ length xs
  pub sought : (k : ℕ) → slice_get xs k ≡ Some number → (low ≤ k) × (k ≤ end)

module _ (xs : List ℕ) (number low end middle d : ℕ) (up : AreAscending xs) (is : IsSought xs number low end)
    (above : low ≤ middle) (below : middle < end) where
  here : slice_get xs middle ≡ Some (get_or xs middle d)
  here = slice_get-get_or xs middle d (let w = is.within in omega (arith, w, below))

  pub upper_half : get_or xs middle d < number → IsSought xs number (middle + 1) end
  upper_half less = record { within = is.within; sought = λ k h. (from k h (cases_lt middle k), (is.sought k h).1) }
    where
      from : (k : ℕ) → slice_get xs k ≡ Some number → (middle < k) ⊎ (k ≤ middle) → middle + 1 ≤ k
      from k h (inl l) = omega (arith, l)
      from k h (inr l) = absurd (by (cases_lt k middle))
        where
          by : (k < middle) ⊎ (middle ≤ k) → ⊥
          by (inl m) = let q = up k middle number (get_or xs middle d) m h here in omega (arith, q, less)
          by (inr m) =
              let same : middle ≡ k = omega (arith, l, m) in
              let q = same_Some (get_or xs middle d) number (sym here ∙ ap (slice_get xs) same ∙ h) in
              omega (arith, q, less)

  pub lower_half : number ≤ get_or xs middle d → IsSought xs number low middle
  lower_half most = record {
    within = let w = is.within in omega (arith, w, below);
    sought =
        λ k h. ((is.sought k h).0, to k h (cases_lt middle k));
  }
    where
      to : (k : ℕ) → slice_get xs k ≡ Some number → (middle < k) ⊎ (k ≤ middle) → k ≤ middle
      to k h (inl l) = absurd (let q = up middle k (get_or xs middle d) number l here h in omega (arith, q, most))
      to k h (inr l) = l

pub all_sought : (xs : List ℕ) (number : ℕ) → IsSought xs number 0 (length xs)
all_sought xs number = record {
  within = omega arith;
  sought =
      λ k h. (omega arith, let l = slice_get_within xs k number h in omega (arith, l));
}

pub found_at : (xs : List ℕ) (number low end : ℕ) → IsSought xs number low end → end ≤ low → (k : ℕ)
    → slice_get xs k ≡ Some number → slice_get xs low ≡ Some number
found_at xs number low end is past k h =
    let s = is.sought k h in
    let s0 = s.0 in
    let s1 = s.1 in
    let same : k ≡ low = omega (arith, s0, s1, past) in
    ap (slice_get xs) (sym same) ∙ h
