-- A status and a text, and two of each that are one.
use Rattle.std.proofs.Common.{ℕ, ◌≡◌, ◌∙◌, List, ap, encode_utf8_all, sym}
use Rattle.outcome_laws.specs.Outcomes.{AreOne}

-- some status and text
abbrev pub Answer : (ℕ → List ℕ → Type 0) → Type 0
Answer P = (status : ℕ) × (text : List ℕ) × P status text

-- both are these
pub both : (status other s : ℕ) (text more t : List ℕ) → status ≡ s → other ≡ s → text ≡ t → more ≡ t
    → AreOne status other text more
both status other s text more t e f g h =
    record { status = e ∙ sym f; bytes = ap encode_utf8_all (g ∙ sym h) }
