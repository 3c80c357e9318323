-- What the machine does over a piece.
use Rattle.std.proofs.Common.{◌≡◌, ℕ, ◌+◌, ◌*◌, true, false, eqb, List, [], ◌∷◌, ◌++◌, length, refl, sym, ◌∙◌, ap}
use Rattle.std.proofs.Common.{arith, append_assoc, length-append, add-zero}
use Rattle.std.proofs.lemmas.Bool.Decides.{nat_tests}
use Rattle.xhstt_text.specs.Bytes.{AllAre}
use Rattle.xhstt_text.specs.Units.{Entity, less, greater, ampersand, apostrophe, quotation, entity_name, Piece, wide}
use Rattle.xhstt_text.specs.Units.{named as named_entity, decimal, hexadecimal, piece_text, is_decimal, is_hexadecimal}
use Rattle.xhstt_text.specs.Units.{digit, number_from, AreDigits, is_character, IsPiece}
use Rattle.xhstt_text.specs.Machine.{Read, Phase, Within, after_piece, wide_1, wide_2, reference, hash, hash_x}
use Rattle.xhstt_text.specs.Machine.{in_decimal, in_hexadecimal, state, step, run}
use Rattle.xhstt_text.proofs.Runs.{by_step}

pub run_named : (e : Entity) (place : ℕ) (w : Within) (r : Read) (at : ℕ) (rest : List ℕ)
    → run (reference place w) r at (entity_name e ++ (59 ∷ rest))
    ≡ run (after_piece w) r (at + length (entity_name e) + 1) rest
run_named less place w r at rest = ap (λ n. run (after_piece w) r n rest)
    (let e : at + 1 + 1 + 1 ≡ at + 2 + 1 = omega arith in e)
run_named greater place w r at rest = ap (λ n. run (after_piece w) r n rest)
    (let e : at + 1 + 1 + 1 ≡ at + 2 + 1 = omega arith in e)
run_named ampersand place w r at rest = ap (λ n. run (after_piece w) r n rest)
    (let e : at + 1 + 1 + 1 + 1 ≡ at + 3 + 1 = omega arith in e)
run_named apostrophe place w r at rest = ap (λ n. run (after_piece w) r n rest)
    (let e : at + 1 + 1 + 1 + 1 + 1 ≡ at + 4 + 1 = omega arith in e)
run_named quotation place w r at rest = ap (λ n. run (after_piece w) r n rest)
    (let e : at + 1 + 1 + 1 + 1 + 1 ≡ at + 4 + 1 = omega arith in e)

pub run_decimal : (ds : List ℕ) (place n : ℕ) (w : Within) (r : Read) (at : ℕ) (rest : List ℕ) → AllAre is_decimal ds
    → run (in_decimal place n w) r at (ds ++ rest)
    ≡ run (in_decimal place (number_from 10 n ds) w) r (at + length ds) rest
run_decimal [] place n w r at rest h = ap (λ i. run (in_decimal place n w) r i rest) (sym (add-zero at))
run_decimal (d ∷ ds) place n w r at rest h =
    by_step (in_decimal place n w) r at d (ds ++ rest) (in_decimal place (n * 10 + digit d) w) r (rw h.0 refl)
    ∙ run_decimal ds place (n * 10 + digit d) w r (at + 1) rest h.1
    ∙ ap (λ i. run (in_decimal place (number_from 10 n (d ∷ ds)) w) r i rest) (omega arith)

pub run_hexadecimal : (ds : List ℕ) (place n : ℕ) (w : Within) (r : Read) (at : ℕ) (rest : List ℕ)
    → AllAre is_hexadecimal ds → run (in_hexadecimal place n w) r at (ds ++ rest)
    ≡ run (in_hexadecimal place (number_from 16 n ds) w) r (at + length ds) rest
run_hexadecimal [] place n w r at rest h = ap (λ i. run (in_hexadecimal place n w) r i rest) (sym (add-zero at))
run_hexadecimal (d ∷ ds) place n w r at rest h =
    by_step (in_hexadecimal place n w) r at d (ds ++ rest) (in_hexadecimal place (n * 16 + digit d) w) r (rw h.0 refl)
    ∙ run_hexadecimal ds place (n * 16 + digit d) w r (at + 1) rest h.1
    ∙ ap (λ i. run (in_hexadecimal place (number_from 16 n (d ∷ ds)) w) r i rest) (omega arith)

pub decimal_isnt_x : (b : ℕ) → is_decimal b ≡ true → eqb b 120 ≡ false
decimal_isnt_x b h = grind (arith, nat_tests)

pub run_decimals : (ds : List ℕ) (place : ℕ) (w : Within) (r : Read) (at : ℕ) (rest : List ℕ) → AreDigits is_decimal ds
    → is_character (number_from 10 0 ds) ≡ true → run (hash place w) r at (ds ++ (59 ∷ rest))
    ≡ run (after_piece w) r (at + length ds + 1) rest
run_decimals [] place w r at rest h k = absurd h
run_decimals (d ∷ ds) place w r at rest h k =
    let n : ℕ = number_from 10 (digit d) ds in
    let first : 0 * 10 + digit d ≡ digit d = omega arith in
    let is : is_character n ≡ true = sym (ap (λ i. is_character (number_from 10 i ds)) first) ∙ k in
    by_step (hash place w) r at d (ds ++ (59 ∷ rest)) (in_decimal place (digit d) w) r
    (rw (decimal_isnt_x d h.0, h.0) refl)
    ∙ run_decimal ds place (digit d) w r (at + 1) (59 ∷ rest) h.1
    ∙ by_step (in_decimal place n w) r (at + 1 + length ds) 59 rest (after_piece w) r (rw is refl)
    ∙ ap (λ i. run (after_piece w) r i rest) (omega arith)

pub run_hexadecimals : (ds : List ℕ) (place : ℕ) (w : Within) (r : Read) (at : ℕ) (rest : List ℕ)
    → AreDigits is_hexadecimal ds → is_character (number_from 16 0 ds) ≡ true
    → run (hash_x place w) r at (ds ++ (59 ∷ rest)) ≡ run (after_piece w) r (at + length ds + 1) rest
run_hexadecimals [] place w r at rest h k = absurd h
run_hexadecimals (d ∷ ds) place w r at rest h k =
    let n : ℕ = number_from 16 (digit d) ds in
    let first : 0 * 16 + digit d ≡ digit d = omega arith in
    let is : is_character n ≡ true = sym (ap (λ i. is_character (number_from 16 i ds)) first) ∙ k in
    by_step (hash_x place w) r at d (ds ++ (59 ∷ rest)) (in_hexadecimal place (digit d) w) r (rw h.0 refl)
    ∙ run_hexadecimal ds place (digit d) w r (at + 1) (59 ∷ rest) h.1
    ∙ by_step (in_hexadecimal place n w) r (at + 1 + length ds) 59 rest (after_piece w) r (rw is refl)
    ∙ ap (λ i. run (after_piece w) r i rest) (omega arith)

named_length : (e : Entity) → length (piece_text (named_entity e)) ≡ 1 + length (entity_name e) + 1
named_length e = simp length-append (omega arith)

decimal_length : (ds : List ℕ) → length (piece_text (decimal ds)) ≡ 2 + length ds + 1
decimal_length ds = simp length-append (omega arith)

hexadecimal_length : (ds : List ℕ) → length (piece_text (hexadecimal ds)) ≡ 3 + length ds + 1
hexadecimal_length ds = simp length-append (omega arith)

-- from a phase that takes the first byte of a piece
pub run_piece : (p : Phase) (w : Within) (r s : Read) (at : ℕ) → step p r at 38 ≡ state (reference at w) s
    → step p r at 239 ≡ state (wide_1 w) s → (u : Piece) (rest : List ℕ) → IsPiece u
    → run p r at (piece_text u ++ rest) ≡ run (after_piece w) s (at + length (piece_text u)) rest
run_piece p w r s at e38 e239 (wide b c) rest h =
    by_step p r at 239 (b ∷ c ∷ rest) (wide_1 w) s e239
    ∙ by_step (wide_1 w) s (at + 1) b (c ∷ rest) (wide_2 (eqb b 191) w) s (rw h.0 refl)
    ∙ by_step (wide_2 (eqb b 191) w) s (at + 1 + 1) c rest (after_piece w) s (rw h.1 refl)
    ∙ ap (λ i. run (after_piece w) s i rest) (let e : at + 1 + 1 + 1 ≡ at + 3 = omega arith in e)
run_piece p w r s at e38 e239 (named_entity e) rest h =
    ap (λ x. run p r at (38 ∷ x)) (append_assoc (entity_name e) (59 ∷ []) rest)
    ∙ by_step p r at 38 (entity_name e ++ (59 ∷ rest)) (reference at w) s e38
    ∙ run_named e at w s (at + 1) rest
    ∙ ap (λ i. run (after_piece w) s i rest) (omega (arith, named_length e))
run_piece p w r s at e38 e239 (decimal ds) rest h =
    ap (λ x. run p r at (38 ∷ 35 ∷ x)) (append_assoc ds (59 ∷ []) rest)
    ∙ by_step p r at 38 (35 ∷ (ds ++ (59 ∷ rest))) (reference at w) s e38
    ∙ run_decimals ds at w s (at + 1 + 1) rest h.0 h.1
    ∙ ap (λ i. run (after_piece w) s i rest) (omega (arith, decimal_length ds))
run_piece p w r s at e38 e239 (hexadecimal ds) rest h =
    ap (λ x. run p r at (38 ∷ 35 ∷ 120 ∷ x)) (append_assoc ds (59 ∷ []) rest)
    ∙ by_step p r at 38 (35 ∷ 120 ∷ (ds ++ (59 ∷ rest))) (reference at w) s e38
    ∙ run_hexadecimals ds at w s (at + 1 + 1 + 1) rest h.0 h.1
    ∙ ap (λ i. run (after_piece w) s i rest) (omega (arith, hexadecimal_length ds))
