-- Which demand has which supply: an assignment gives demands supplies of their own, and leaves some demands out.
use Rattle.std.specs.Prelude.{ℕ, ◌<◌, ◌≡◌, Bool, true, Option, Some}

-- demands below n and supplies below m, which supplies a demand may have, and who has which: each
-- demand has a supply at most, which it may have, and each supply knows who has it
pub record IsMatching (n m : ℕ) (may : ℕ → ℕ → Bool) (gets owner : ℕ → Option ℕ) : Type 0 where
  pub demand : (d s : ℕ) → gets d ≡ Some s → d < n
  pub supply : (d s : ℕ) → gets d ≡ Some s → s < m
  pub allowed : (d s : ℕ) → gets d ≡ Some s → may d s ≡ true
  pub owned : (d s : ℕ) → gets d ≡ Some s → owner s ≡ Some d
  pub holds : (s d : ℕ) → owner s ≡ Some d → gets d ≡ Some s

-- each supply that a demand of the set may have is that of a demand of the set
abbrev pub IsSaturated : ℕ → ℕ → (ℕ → ℕ → Bool) → (ℕ → Option ℕ) → (ℕ → Bool) → Type 0
IsSaturated n m may owner set = (d s : ℕ) → d < n → set d ≡ true → s < m → may d s ≡ true
    → (e : ℕ) × (owner s ≡ Some e) × (set e ≡ true)
