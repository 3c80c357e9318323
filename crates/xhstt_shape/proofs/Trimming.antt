-- What is left before white at the end, where the last byte is known.
use Rattle.std.proofs.Common.{◌≡◌, ◌≤◌, ◌+◌, ◌-◌, ◌++◌, ◌∷◌, [], List, ℕ, true, false, refl, ap, sym, ◌∙◌, length, take}
use Rattle.std.proofs.Common.{get_or, arith}
use Rattle.std.proofs.lemmas.List.{take_all, take_more}
use Rattle.xhstt_text.specs.Bytes.{is_white}
use Rattle.xhstt_shape.specs.Contents.{before_rest, without_back}

-- a byte is left before others that are
before_some : (b : ℕ) (xs : List ℕ) (y : ℕ) → before_rest b (xs ++ y ∷ []) ≡ b ∷ (xs ++ y ∷ [])
before_some b [] y = refl
before_some b (x ∷ xs) y = refl

-- white after bytes is left out
after_white : (xs : List ℕ) (y : ℕ) → is_white y ≡ true → without_back (xs ++ y ∷ []) ≡ without_back xs
after_white [] y h = rw h refl
after_white (x ∷ xs) y h = ap (before_rest x) (after_white xs y h)

-- bytes before one that is not white are left
after_kept : (xs : List ℕ) (y : ℕ) → is_white y ≡ false → without_back (xs ++ y ∷ []) ≡ xs ++ y ∷ []
after_kept [] y h = rw h refl
after_kept (x ∷ xs) y h = ap (before_rest x) (after_kept xs y h) ∙ before_some x xs y

-- bytes are those before the last, and the last
split : (xs : List ℕ) → 1 ≤ length xs → take (length xs - 1) xs ++ get_or xs (length xs - 1) 0 ∷ [] ≡ xs
split xs some = sym (take_more xs (length xs - 1) 0 (omega arith)) ∙ take_all (length xs - 1 + 1) xs (omega arith)

pub without_back-white : (xs : List ℕ) → 1 ≤ length xs → is_white (get_or xs (length xs - 1) 0) ≡ true
    → without_back (take (length xs - 1) xs) ≡ without_back xs
without_back-white xs some white =
    sym (after_white (take (length xs - 1) xs) (get_or xs (length xs - 1) 0) white) ∙ ap without_back (split xs some)

pub without_back-kept : (xs : List ℕ) → 1 ≤ length xs → is_white (get_or xs (length xs - 1) 0) ≡ false
    → xs ≡ without_back xs
without_back-kept xs some kept =
    sym (split xs some) ∙ sym (after_kept (take (length xs - 1) xs) (get_or xs (length xs - 1) 0) kept)
    ∙ ap without_back (split xs some)
