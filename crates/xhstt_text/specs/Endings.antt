-- White and comments after a text change nothing of what it says.
use Rattle.std.specs.Prelude.{ℕ, ◌≡◌, Bool, false, ◌==◌, ◌&&◌, ◌||◌, List, [], ◌∷◌, ◌++◌}
use Rattle.std.specs.Str.{IsUtf8}
use Rattle.xhstt_text.specs.Document.{Content, IsSpace, Spelled, text}
use Rattle.xhstt_text.specs.Forest.{Forest}

-- whether a hyphen comes first
abbrev pub begins_with_hyphen : List ℕ → Bool
begins_with_hyphen [] = false
begins_with_hyphen (b ∷ bs) = b == 45

-- whether two hyphens stand side by side
abbrev pub has_two_hyphens : List ℕ → Bool
has_two_hyphens [] = false
has_two_hyphens (b ∷ bs) = (b == 45 && begins_with_hyphen bs) || has_two_hyphens bs

-- a comment `<!-- .. -->`, and the line break after it
abbrev pub comment_line : List ℕ → List ℕ
comment_line inner = 60 ∷ 33 ∷ 45 ∷ 45 ∷ (inner ++ (45 ∷ 45 ∷ 62 ∷ 10 ∷ []))

-- a text says the same with white and comments after it
abbrev pub MayEndInSpace : List ℕ → Type 0
MayEndInSpace bytes =
    (f : Forest) (more : Content) → Spelled bytes f → IsSpace more → IsUtf8 (text more) → Spelled (bytes ++ text more) f

-- and so with a comment on a line after it, on that of its end or on one of its own
abbrev pub MayEndInComment : List ℕ → Type 0
MayEndInComment bytes =
    (f : Forest) (inner : List ℕ) → Spelled bytes f → IsUtf8 inner → has_two_hyphens inner ≡ false
    → Spelled (bytes ++ comment_line inner) f × Spelled (bytes ++ (10 ∷ comment_line inner)) f
