-- What each place that is passed over keeps, all of them keep.
use Rattle.std.proofs.Common.{ℕ, ◌≡◌, ◌≤◌, ◌<◌, ◌+◌, ◌⊎◌, inl, inr, zero, suc, add-one, arith, subst}
use Rattle.std.proofs.lemmas.Bool.{cases_lt}

pub passed_on : (P : ℕ → Type 0) (i next : ℕ) → i ≤ next → ((j : ℕ) → i ≤ j → j < next → P j → P (j + 1)) → P i → P next
passed_on P i zero l step h = subst P (let e : i ≡ 0 = omega (arith, l) in e) h
passed_on P i (suc m) l step h =
    by (cases_lt m i) (λ a. passed_on P i m a (λ j b d. step j b (omega (arith, d))) h)
  where
    by : (m < i) ⊎ (i ≤ m) → (i ≤ m → P m) → P (suc m)
    by (inl a) f = subst P (let e : i ≡ suc m = omega (arith, l, a) in e) h
    by (inr a) f = subst P (add-one m) (step m a (omega arith) (f a))
