-- The digits of a number, as the machine reads them.
use Rattle.std.proofs.Common.{◌≡◌, ℕ, zero, suc, ◌+◌, ◌*◌, min, Err, false, Bool, true, List, [], ◌∷◌, length, refl}
use Rattle.std.proofs.Common.{sym, ◌∙◌, ap, arith}
use Rattle.std.proofs.lemmas.Bool.Decides.{nat_tests}
use Rattle.xhstt_text.specs.Units.{is_decimal, is_hexadecimal, digit, is_character}
use Rattle.xhstt_text.specs.Reading.{TakesDigit, begins, is_byte, broken}
use Rattle.xhstt_text.specs.Faults.{bad_reference}
use Rattle.xhstt_text.proofs.Follow.{one, refuses}
use Rattle.xhstt_text.proofs.Pieces.{decimal_isnt_x}
use Rattle.xhstt_text.specs.Machine.{Phase, Within, Read, run, after_piece, hash, hash_x, in_decimal, in_hexadecimal}
use Rattle.xhstt_text.specs.Machine.{no_character}

-- after n digits, which stand for this number
abbrev pub decimal_phase : ℕ → ℕ → ℕ → Within → Phase
decimal_phase place zero n w = hash place w
decimal_phase place (suc count) n w = in_decimal place n w

abbrev pub hexadecimal_phase : ℕ → ℕ → ℕ → Within → Phase
hexadecimal_phase place zero n w = hash_x place w
hexadecimal_phase place (suc count) n w = in_hexadecimal place n w

pub capped_decimal : (n d v : ℕ) → v ≡ min n 1114112 → min (v * 10 + d) 1114112 ≡ min (n * 10 + d) 1114112
capped_decimal n d v e = omega arith

pub capped_hexadecimal : (n d v : ℕ) → v ≡ min n 1114112 → min (v * 16 + d) 1114112 ≡ min (n * 16 + d) 1114112
capped_hexadecimal n d v e = omega arith

pub capped_character : (n v : ℕ) → v ≡ min n 1114112 → is_character v ≡ is_character n
capped_character n v e = grind (arith, nat_tests)

pub taken_length : (test : ℕ → Bool) (at : ℕ) (bs : List ℕ) (v at1 : ℕ) (bs1 : List ℕ) → TakesDigit test at bs v at1 bs1
    → (length bs ≡ length bs1 + 1) × (at1 ≡ at + 1)
taken_length test at bs v at1 bs1 h = let e : length bs ≡ length (h.0 ∷ bs1) = ap length h.2 in (omega arith, h.4)

gives_none : (place : ℕ) (r : Read) (at : ℕ) (bs : List ℕ) → run (no_character place) r at bs ≡ Err (broken place at bs)
gives_none place r at [] = refl
gives_none place r at (b ∷ bs) = refl

pub decimal_step : (place count n v : ℕ) (w : Within) (r : Read) (at : ℕ) (bs : List ℕ) (at1 : ℕ) (bs1 : List ℕ)
    → (count ≡ 0 → n ≡ 0) → TakesDigit is_decimal at bs v at1 bs1
    → run (decimal_phase place count n w) r at bs ≡ run (decimal_phase place (count + 1) (n * 10 + v) w) r at1 bs1
decimal_step place zero n v w r at bs at1 bs1 z h =
    let m : n * 10 + v ≡ digit h.0 = omega (arith, z refl, h.3) in
    one (hash place w) r at bs h.0 at1 bs1 (in_decimal place (digit h.0) w) r h.2 h.4
    (rw (decimal_isnt_x h.0 h.1, h.1) refl)
    ∙ ap (λ i. run (in_decimal place i w) r at1 bs1) (sym m)
    ∙ ap (λ i. run (decimal_phase place i (n * 10 + v) w) r at1 bs1) (let k : suc 0 ≡ 0 + 1 = omega arith in k)
decimal_step place (suc count) n v w r at bs at1 bs1 z h =
    one (in_decimal place n w) r at bs h.0 at1 bs1 (in_decimal place (n * 10 + digit h.0) w) r h.2 h.4 (rw h.1 refl)
    ∙ ap (λ i. run (in_decimal place (n * 10 + i) w) r at1 bs1) (sym h.3)
    ∙ ap (λ i. run (decimal_phase place i (n * 10 + v) w) r at1 bs1)
    (let k : suc (suc count) ≡ suc count + 1 = omega arith in k)

pub decimal_unended : (place count n : ℕ) (w : Within) (r : Read) (at : ℕ) (bs : List ℕ) → begins is_decimal bs ≡ false
    → (count ≡ 0 → begins (is_byte 120) bs ≡ false) → begins (is_byte 59) bs ≡ false
    → run (decimal_phase place count n w) r at bs ≡ Err (broken place at bs)
decimal_unended place zero n w r at [] e z d = refl
decimal_unended place zero n w r at (b ∷ bs) e z d = refuses (hash place w) r at b bs (rw (z refl, e) refl)
decimal_unended place (suc count) n w r at [] e z d = refl
decimal_unended place (suc count) n w r at (b ∷ bs) e z d = refuses (in_decimal place n w) r at b bs (rw (e, d) refl)

-- no digits
pub decimal_empty : (place count n : ℕ) (w : Within) (r : Read) (at : ℕ) (bs bs1 : List ℕ) → bs ≡ 59 ∷ bs1 → count ≡ 0
    → run (decimal_phase place count n w) r at bs ≡ Err (bad_reference place)
decimal_empty place zero n w r at bs bs1 e z = ap (run (hash place w) r at) e
decimal_empty place (suc count) n w r at bs bs1 e z = absurd (omega arith)

-- a number that gives no character
pub decimal_refused : (place count n v : ℕ) (w : Within) (r : Read) (at : ℕ) (bs : List ℕ) (at1 : ℕ) (bs1 : List ℕ)
    → (bs ≡ 59 ∷ bs1) × (at1 ≡ at + 1) → v ≡ min n 1114112 → (count ≡ 0 → ⊥) → is_character v ≡ false
    → run (decimal_phase place count n w) r at bs ≡ Err (broken place at1 bs1)
decimal_refused place zero n v w r at bs at1 bs1 e d z h = absurd (z refl)
decimal_refused place (suc count) n v w r at bs at1 bs1 e d z h =
    let k : is_character n ≡ false = sym (capped_character n v d) ∙ h in
    one (in_decimal place n w) r at bs 59 at1 bs1 (no_character place) r e.0 e.1 (rw k refl)
    ∙ gives_none place r at1 bs1

pub decimal_read : (place count n v : ℕ) (w : Within) (r : Read) (at : ℕ) (bs : List ℕ) (at1 : ℕ) (bs1 : List ℕ)
    → (bs ≡ 59 ∷ bs1) × (at1 ≡ at + 1) → v ≡ min n 1114112 → (count ≡ 0 → ⊥) → is_character v ≡ true
    → run (decimal_phase place count n w) r at bs ≡ run (after_piece w) r at1 bs1
decimal_read place zero n v w r at bs at1 bs1 e d z h = absurd (z refl)
decimal_read place (suc count) n v w r at bs at1 bs1 e d z h =
    let k : is_character n ≡ true = sym (capped_character n v d) ∙ h in
    one (in_decimal place n w) r at bs 59 at1 bs1 (after_piece w) r e.0 e.1 (rw k refl)

pub hexadecimal_step : (place count n v : ℕ) (w : Within) (r : Read) (at : ℕ) (bs : List ℕ) (at1 : ℕ) (bs1 : List ℕ)
    → (count ≡ 0 → n ≡ 0) → TakesDigit is_hexadecimal at bs v at1 bs1
    → run (hexadecimal_phase place count n w) r at bs
    ≡ run (hexadecimal_phase place (count + 1) (n * 16 + v) w) r at1 bs1
hexadecimal_step place zero n v w r at bs at1 bs1 z h =
    let m : n * 16 + v ≡ digit h.0 = omega (arith, z refl, h.3) in
    one (hash_x place w) r at bs h.0 at1 bs1 (in_hexadecimal place (digit h.0) w) r h.2 h.4 (rw (h.1) refl)
    ∙ ap (λ i. run (in_hexadecimal place i w) r at1 bs1) (sym m)
    ∙ ap (λ i. run (hexadecimal_phase place i (n * 16 + v) w) r at1 bs1) (let k : suc 0 ≡ 0 + 1 = omega arith in k)
hexadecimal_step place (suc count) n v w r at bs at1 bs1 z h =
    one (in_hexadecimal place n w) r at bs h.0 at1 bs1 (in_hexadecimal place (n * 16 + digit h.0) w) r h.2 h.4
    (rw h.1 refl)
    ∙ ap (λ i. run (in_hexadecimal place (n * 16 + i) w) r at1 bs1) (sym h.3)
    ∙ ap (λ i. run (hexadecimal_phase place i (n * 16 + v) w) r at1 bs1)
    (let k : suc (suc count) ≡ suc count + 1 = omega arith in k)

pub hexadecimal_unended : (place count n : ℕ) (w : Within) (r : Read) (at : ℕ) (bs : List ℕ)
    → begins is_hexadecimal bs ≡ false → begins (is_byte 59) bs ≡ false
    → run (hexadecimal_phase place count n w) r at bs ≡ Err (broken place at bs)
hexadecimal_unended place zero n w r at [] e d = refl
hexadecimal_unended place zero n w r at (b ∷ bs) e d = refuses (hash_x place w) r at b bs (rw (e) refl)
hexadecimal_unended place (suc count) n w r at [] e d = refl
hexadecimal_unended place (suc count) n w r at (b ∷ bs) e d =
    refuses (in_hexadecimal place n w) r at b bs (rw (e, d) refl)

-- no digits
pub hexadecimal_empty : (place count n : ℕ) (w : Within) (r : Read) (at : ℕ) (bs bs1 : List ℕ) → bs ≡ 59 ∷ bs1
    → count ≡ 0 → run (hexadecimal_phase place count n w) r at bs ≡ Err (bad_reference place)
hexadecimal_empty place zero n w r at bs bs1 e z = ap (run (hash_x place w) r at) e
hexadecimal_empty place (suc count) n w r at bs bs1 e z = absurd (omega arith)

-- a number that gives no character
pub hexadecimal_refused : (place count n v : ℕ) (w : Within) (r : Read) (at : ℕ) (bs : List ℕ) (at1 : ℕ) (bs1 : List ℕ)
    → (bs ≡ 59 ∷ bs1) × (at1 ≡ at + 1) → v ≡ min n 1114112 → (count ≡ 0 → ⊥) → is_character v ≡ false
    → run (hexadecimal_phase place count n w) r at bs ≡ Err (broken place at1 bs1)
hexadecimal_refused place zero n v w r at bs at1 bs1 e d z h = absurd (z refl)
hexadecimal_refused place (suc count) n v w r at bs at1 bs1 e d z h =
    let k : is_character n ≡ false = sym (capped_character n v d) ∙ h in
    one (in_hexadecimal place n w) r at bs 59 at1 bs1 (no_character place) r e.0 e.1 (rw k refl)
    ∙ gives_none place r at1 bs1

pub hexadecimal_read : (place count n v : ℕ) (w : Within) (r : Read) (at : ℕ) (bs : List ℕ) (at1 : ℕ) (bs1 : List ℕ)
    → (bs ≡ 59 ∷ bs1) × (at1 ≡ at + 1) → v ≡ min n 1114112 → (count ≡ 0 → ⊥) → is_character v ≡ true
    → run (hexadecimal_phase place count n w) r at bs ≡ run (after_piece w) r at1 bs1
hexadecimal_read place zero n v w r at bs at1 bs1 e d z h = absurd (z refl)
hexadecimal_read place (suc count) n v w r at bs at1 bs1 e d z h =
    let k : is_character n ≡ true = sym (capped_character n v d) ∙ h in
    one (in_hexadecimal place n w) r at bs 59 at1 bs1 (after_piece w) r e.0 e.1 (rw k refl)
