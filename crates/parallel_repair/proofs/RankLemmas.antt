-- The order of results is total.
use Rattle.std.proofs.Common.{◌≡◌, ℕ, Bool, true, false, Option, Some, None, arith}
use Rattle.std.specs.Prelude.{if◌then◌else◌, IfSome}
use Rattle.std.proofs.lemmas.Bool.Decides.{nat_tests}
use Rattle.khe_base.specs.declared.sums.Totals.{Totals}
use Rattle.parallel_repair.specs.Ranks.{is_before, CostsNothing, is_free, lesser}
use Rattle.parallel_repair.specs.declared.answers.Best.{Best}

-- what does not come before a does not come before what comes before a
pub before_lower : (x a b : Totals) (n i j : ℕ) → is_before x n a i ≡ false → is_before b j a i ≡ true
    → is_before x n b j ≡ false
before_lower x a b n i j h k = grind (arith, nat_tests, h, k)

-- what does not come before b does not come before a, before which b does not come
pub before_through : (x a b : Totals) (n i j : ℕ) → is_before x n b j ≡ false → is_before b j a i ≡ false
    → is_before x n a i ≡ false
before_through x a b n i j h k = grind (arith, nat_tests, h, k)

pub before_self : (a : Totals) (i : ℕ) → is_before a i a i ≡ false
before_self a i = grind (arith, nat_tests)

pub free_zero : (t : Totals) → is_free t ≡ true → CostsNothing t
free_zero t h = grind (arith, nat_tests, h)

pub zero_free : (t : Totals) → is_free t ≡ false → CostsNothing t → ⊥
zero_free t h z = grind (arith, nat_tests, h, z.0, z.1)

-- what is true of two results is true of the lesser
pub lesser_has : (P : Best → Type 0) (a b : Option Best) → IfSome a P → IfSome b P → IfSome (lesser a b) P
lesser_has P None b h k = k
lesser_has P (Some a) None h k = h
lesser_has P (Some a) (Some b) h k = chosen (is_before b.totals b.job a.totals a.job)
  where
    chosen : (c : Bool) → IfSome (if c then Some b else Some a) P
    chosen true = k
    chosen false = h

-- of two results neither of which comes before the other the jobs are one
pub before_neither : (a b : Totals) (i j : ℕ) → is_before a i b j ≡ false → is_before b j a i ≡ false → i ≡ j
before_neither a b i j h k = grind (arith, nat_tests, h, k)
