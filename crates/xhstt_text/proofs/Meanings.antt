-- What the machine gives for each piece of a text is what the piece stands for.
use Rattle.std.proofs.Common.{◌≡◌, ℕ, zero, suc, ◌+◌, ◌-◌, ◌*◌, ◌<◌, ◌≤◌, Bool, true, false, not, ◌&&◌, ◌||◌}
use Rattle.std.proofs.Common.{if◌then◌else◌, eqb, leb, ltb, Some, List, [], ◌∷◌, ◌++◌, refl, inl, inr, sym, ap, ◌∙◌}
use Rattle.std.proofs.Common.{arith, append_assoc, append-nil}
use Rattle.std.specs.Prelude.{encode_utf8}
use Rattle.std.specs.Option.{option_and_then}
use Rattle.std.proofs.lemmas.Bool.{and_parts, or_cases, not-true, leb-true, lt-ltb, le-leb, lt-leb, cases_Bool}
use Rattle.std.proofs.lemmas.Bool.Decides.{nat_tests}
use Rattle.xhstt_text.specs.Bytes.{AllAre, is_text, dashes, dashes_after, stays_open}
use Rattle.xhstt_text.specs.Document.{Value, done, plain, piece_of, value_text, IsValue, Content, nothing, byte, piece}
use Rattle.xhstt_text.specs.Document.{comment, short, long, text}
use Rattle.xhstt_text.specs.Units.{Entity, less, greater, ampersand, apostrophe, quotation, entity_name, Piece, wide}
use Rattle.xhstt_text.specs.Units.{named, decimal, hexadecimal, piece_text, is_decimal, is_hexadecimal, digit}
use Rattle.xhstt_text.specs.Units.{number_from, AreDigits, is_character, IsPiece}
use Rattle.xhstt_text.specs.Unescape.{entity_character, piece_meaning, value_meaning, meaning, IsText}
use Rattle.xhstt_text.specs.UnescapeMachine.{digit as digit_value, with_digit, number_after, character_bytes, numbered}
use Rattle.xhstt_text.specs.UnescapeMachine.{referred, plain_after}
use Rattle.xhstt_text.specs.declared.unescaping.Part.{Part}
use Rattle.xhstt_text.specs.declared.unescaping.Part.TheVariants.{Plain, Reference, Comment, Dash, Dashes}
use Rattle.xhstt_text.proofs.Runs.{text_isnt_tag}

plain_step : (b : ℕ) (rest : List ℕ) → eqb b 38 ≡ false → eqb b 60 ≡ false
    → plain_after Plain [] (b ∷ rest) ≡ b ∷ plain_after Plain [] rest
plain_step b rest e d = rw (e, d) refl

text_isnt_reference : (b : ℕ) → is_text b ≡ true → eqb b 38 ≡ false
text_isnt_reference b h = grind (arith, nat_tests)

-- a byte that begins neither a reference nor a comment
abbrev pub is_itself : ℕ → Bool
is_itself b = not (eqb b 38) && not (eqb b 60)

pub high_is_itself : (b : ℕ) → 128 ≤ b → is_itself b ≡ true
high_is_itself b h = grind (arith, nat_tests)

pub plain_bytes : (bs rest : List ℕ) → AllAre is_itself bs
    → plain_after Plain [] (bs ++ rest) ≡ bs ++ plain_after Plain [] rest
plain_bytes [] rest h = refl
plain_bytes (b ∷ bs) rest h =
    let p = and_parts (not (eqb b 38)) (not (eqb b 60)) h.0 in
    plain_step b (bs ++ rest) (not-true _ p.0) (not-true _ p.1) ∙ ap (λ x. b ∷ x) (plain_bytes bs rest h.1)

-- the name of a reference is what stands before the first `;`
module _ (test : ℕ → Bool) (isnt_end : (b : ℕ) → test b ≡ true → eqb b 59 ≡ false) where
  over_name : (name bs rest : List ℕ) → AllAre test bs
      → plain_after Reference name (bs ++ (59 ∷ rest)) ≡ referred (name ++ bs) ++ plain_after Plain [] rest
  over_name name [] rest h = ap (λ n. referred n ++ plain_after Plain [] rest) (sym (append-nil name))
  over_name name (b ∷ bs) rest h =
      rw (isnt_end b h.0) (over_name (name ++ b ∷ []) bs rest h.1
      ∙ ap (λ n. referred n ++ plain_after Plain [] rest) (append_assoc name (b ∷ []) bs))

-- digits write the number that the grammar says, where it is not above the last character
with_fits : (base n d : ℕ) → d < base → n * base + d ≤ 1114111 → with_digit base n d ≡ Some (n * base + d)
with_fits base n d l k = rw (lt-ltb d base l, le-leb (n * base + d) 1114111 k) refl

module _ (base : ℕ) (grows : (n : ℕ) → n ≤ n * base) (test : ℕ → Bool)
    (reads : (b : ℕ) → test b ≡ true → (digit_value b ≡ Some (digit b)) × (digit b < base)) where
  at_least : (n : ℕ) (ds : List ℕ) → n ≤ number_from base n ds
  at_least n [] = omega arith
  at_least n (d ∷ ds) = omega (arith, grows n, at_least (n * base + digit d) ds)

  digits_number : (n : ℕ) (ds : List ℕ) → AllAre test ds → number_from base n ds ≤ 1114111
      → number_after base n ds ≡ Some (number_from base n ds)
  digits_number n [] h k = refl
  digits_number n (d ∷ ds) h k =
      let r = reads d h.0 in
      let fits : n * base + digit d ≤ 1114111 = omega (arith, at_least (n * base + digit d) ds) in
      ap (λ o. option_and_then (λ m. number_after base m ds) (option_and_then (with_digit base n) o)) r.0
      ∙ ap (λ o. option_and_then (λ m. number_after base m ds) o) (with_fits base n (digit d) r.1 fits)
      ∙ digits_number (n * base + digit d) ds h.1 k

decimal_isnt_end : (b : ℕ) → is_decimal b ≡ true → eqb b 59 ≡ false
decimal_isnt_end b h = grind (arith, nat_tests)

hexadecimal_isnt_end : (b : ℕ) → is_hexadecimal b ≡ true → eqb b 59 ≡ false
hexadecimal_isnt_end b h = grind (arith, nat_tests)

decimal_isnt_x : (b : ℕ) → is_decimal b ≡ true → eqb 120 b ≡ false
decimal_isnt_x b h = grind (arith, nat_tests)

decimal_reads : (base b : ℕ) → 10 ≤ base → is_decimal b ≡ true → (digit_value b ≡ Some (digit b)) × (digit b < base)
decimal_reads base b l h =
    let p = and_parts (leb 48 b) (leb b 57) h in
    let e : digit b ≡ b - 48 = rw p.1 refl in
    (rw (p.0, p.1) refl, omega (arith, e, leb-true b 57 p.1))

upper_reads : (b : ℕ) → 65 ≤ b → b ≤ 70 → (digit_value b ≡ Some (digit b)) × (digit b < 16)
upper_reads b low high =
    let above : leb b 57 ≡ false = lt-leb b 57 (omega arith) in
    let within : leb b 70 ≡ true = le-leb b 70 high in
    let e : digit b ≡ b - 55 = rw (above, within) refl in
    (rw (le-leb 48 b (omega arith), above, lt-leb 97 b (omega arith), le-leb 65 b low, within) refl, omega (arith, e))

lower_reads : (b : ℕ) → 97 ≤ b → b ≤ 102 → (digit_value b ≡ Some (digit b)) × (digit b < 16)
lower_reads b low high =
    let above : leb b 57 ≡ false = lt-leb b 57 (omega arith) in
    let beyond : leb b 70 ≡ false = lt-leb b 70 (omega arith) in
    let e : digit b ≡ b - 87 = rw (above, beyond) refl in
    (rw (le-leb 48 b (omega arith), above, le-leb 97 b low, le-leb b 102 high, beyond) refl, omega (arith, e))

hexadecimal_reads : (b : ℕ) → is_hexadecimal b ≡ true → (digit_value b ≡ Some (digit b)) × (digit b < 16)
hexadecimal_reads b h =
    elim (or_cases (is_decimal b || (leb 65 b && leb b 70)) (leb 97 b && leb b 102) h) [
      | inl i ↦ elim (or_cases (is_decimal b) (leb 65 b && leb b 70) i) [
        | inl d ↦ decimal_reads 16 b (omega arith) d
        | inr u ↦ let p = and_parts (leb 65 b) (leb b 70) u in upper_reads b (leb-true 65 b p.0) (leb-true b 70 p.1)
      ]
      | inr l ↦ let p = and_parts (leb 97 b) (leb b 102) l in lower_reads b (leb-true 97 b p.0) (leb-true b 102 p.1)
    ]

pub character_range : (n : ℕ) → is_character n ≡ true → (ltb n 55296 || (leb 57344 n && leb n 1114111)) ≡ true
character_range n h = grind (arith, nat_tests)

character_bound : (n : ℕ) → is_character n ≡ true → n ≤ 1114111
character_bound n h = grind (arith, nat_tests)

character_encoded : (n : ℕ) → is_character n ≡ true → character_bytes n ≡ encode_utf8 n
character_encoded n h = ap (λ b. if b then encode_utf8 n else []) (character_range n h)

refers_decimal : (d : ℕ) (ds : List ℕ) → is_decimal d ≡ true
    → referred (35 ∷ d ∷ ds) ≡ numbered (number_after 10 0 (d ∷ ds))
refers_decimal d ds h = rw (decimal_isnt_x d h) refl

read_decimal : (ds rest : List ℕ) → AreDigits is_decimal ds → is_character (number_from 10 0 ds) ≡ true
    → plain_after Plain [] (38 ∷ 35 ∷ (ds ++ (59 ∷ rest))) ≡ encode_utf8 (number_from 10 0 ds)
    ++ plain_after Plain [] rest
read_decimal [] rest h k = absurd h
read_decimal (d ∷ ds) rest h k =
    let n : ℕ = number_from 10 0 (d ∷ ds) in
    over_name is_decimal decimal_isnt_end (35 ∷ []) (d ∷ ds) rest h
    ∙ ap (λ x. x ++ plain_after Plain [] rest)
    (refers_decimal d ds h.0
    ∙ ap numbered (digits_number 10 (λ m. omega arith) is_decimal (λ b t. decimal_reads 10 b (omega arith) t) 0 (d ∷ ds)
    h (character_bound n k))
    ∙ character_encoded n k)

all_from : (test : ℕ → Bool) (ds : List ℕ) → AreDigits test ds → AllAre test ds
all_from test [] h = absurd h
all_from test (d ∷ ds) h = h

read_hexadecimal : (ds rest : List ℕ) → AreDigits is_hexadecimal ds → is_character (number_from 16 0 ds) ≡ true
    → plain_after Plain [] (38 ∷ 35 ∷ 120 ∷ (ds ++ (59 ∷ rest))) ≡ encode_utf8 (number_from 16 0 ds)
    ++ plain_after Plain [] rest
read_hexadecimal ds rest h k =
    let n : ℕ = number_from 16 0 ds in
    let all = all_from is_hexadecimal ds h in
    over_name is_hexadecimal hexadecimal_isnt_end (35 ∷ 120 ∷ []) ds rest all
    ∙ ap (λ x. x ++ plain_after Plain [] rest)
    (ap numbered (digits_number 16 (λ m. omega arith) is_hexadecimal hexadecimal_reads 0 ds all (character_bound n k))
    ∙ character_encoded n k)

read_named : (e : Entity) (rest : List ℕ) → plain_after Plain [] (38 ∷ (entity_name e ++ (59 ∷ rest)))
    ≡ entity_character e ∷ plain_after Plain [] rest
read_named less rest = refl
read_named greater rest = refl
read_named ampersand rest = refl
read_named apostrophe rest = refl
read_named quotation rest = refl

high_isnt : (b n : ℕ) → leb 128 b ≡ true → n < 128 → eqb b n ≡ false
high_isnt b n h l = grind (arith, nat_tests)

read_wide : (b c : ℕ) (rest : List ℕ) → leb 128 b ≡ true → leb 128 c ≡ true
    → plain_after Plain [] (239 ∷ b ∷ c ∷ rest) ≡ 239 ∷ b ∷ c ∷ plain_after Plain [] rest
read_wide b c rest h k =
    ap (λ x. 239 ∷ x) (plain_step b (c ∷ rest) (high_isnt b 38 h (omega arith)) (high_isnt b 60 h (omega arith)))
    ∙ ap (λ x. 239 ∷ b ∷ x) (plain_step c rest (high_isnt c 38 k (omega arith)) (high_isnt c 60 k (omega arith)))

pub read_piece : (u : Piece) (rest : List ℕ) → IsPiece u
    → plain_after Plain [] (piece_text u ++ rest) ≡ piece_meaning u ++ plain_after Plain [] rest
read_piece (wide b c) rest h = read_wide b c rest h.0 (and_parts (leb 128 c) _ h.1).0
read_piece (named e) rest h = ap (λ x. plain_after Plain [] (38 ∷ x)) (append_assoc (entity_name e) (59 ∷ []) rest)
    ∙ read_named e rest
read_piece (decimal ds) rest h = ap (λ x. plain_after Plain [] (38 ∷ 35 ∷ x)) (append_assoc ds (59 ∷ []) rest)
    ∙ read_decimal ds rest h.0 h.1
read_piece (hexadecimal ds) rest h = ap (λ x. plain_after Plain [] (38 ∷ 35 ∷ 120 ∷ x)) (append_assoc ds (59 ∷ []) rest)
    ∙ read_hexadecimal ds rest h.0 h.1

-- inside a comment, after n dashes
abbrev inside : ℕ → Part
inside zero = Comment
inside (suc zero) = Dash
inside (suc (suc n)) = Dashes

comment_step : (count b : ℕ) (bs : List ℕ) → not (leb 2 count && eqb b 62) ≡ true
    → plain_after (inside count) [] (b ∷ bs) ≡ plain_after (inside (dashes count b)) [] bs
comment_step zero b bs h = elim (cases_Bool (eqb b 45)) [ inl e ↦ rw e refl | inr e ↦ rw e refl ]
comment_step (suc zero) b bs h = elim (cases_Bool (eqb b 45)) [ inl e ↦ rw e refl | inr e ↦ rw e refl ]
comment_step (suc (suc n)) b bs h =
    let two : leb 2 (suc (suc n)) ≡ true = le-leb 2 (suc (suc n)) (omega arith) in
    let goes_on : eqb b 62 ≡ false = not-true _ (ap (λ v. not (v && eqb b 62)) (sym two) ∙ h) in
    elim (cases_Bool (eqb b 45)) [ inl e ↦ rw (goes_on, e) refl | inr e ↦ rw (goes_on, e) refl ]

comment_end : (count : ℕ) (rest : List ℕ) → 2 ≤ count
    → plain_after (inside count) [] (62 ∷ rest) ≡ plain_after Plain [] rest
comment_end zero rest h = absurd (omega arith)
comment_end (suc zero) rest h = absurd (omega arith)
comment_end (suc (suc n)) rest h = refl

read_comment : (count : ℕ) (bs rest : List ℕ) → stays_open count bs ≡ true → 2 ≤ dashes_after count bs
    → plain_after (inside count) [] (bs ++ (62 ∷ rest)) ≡ plain_after Plain [] rest
read_comment count [] rest h two = comment_end count rest two
read_comment count (b ∷ bs) rest h two =
    let p = and_parts (not (leb 2 count && eqb b 62)) _ h in
    comment_step count b (bs ++ (62 ∷ rest)) p.0 ∙ read_comment (dashes count b) bs rest p.1 two

-- the machine gives what the text between two tags stands for
pub plain_after-text : (c : Content) → IsText c → plain_after Plain [] (text c) ≡ meaning c
plain_after-text nothing h = refl
plain_after-text (byte b c) h =
    plain_step b (text c) (text_isnt_reference b h.0) (text_isnt_tag b h.0) ∙ ap (λ x. b ∷ x) (plain_after-text c h.1)
plain_after-text (piece u c) h = read_piece u (text c) h.0 ∙ ap (λ x. piece_meaning u ++ x) (plain_after-text c h.1)
plain_after-text (comment inner c) h = read_comment 0 inner (text c) h.0.0 h.0.1 ∙ plain_after-text c h.1
plain_after-text (short s c) h = absurd h
plain_after-text (long s inner shut white c) h = absurd h

-- and what the value of an attribute stands for
pub plain_after-value : (quote : ℕ) (v : Value) → IsValue quote v
    → plain_after Plain [] (value_text v) ≡ value_meaning v
plain_after-value quote done h = refl
plain_after-value quote (plain b v) h =
    let t = (and_parts (is_text b) _ h.0).0 in
    plain_step b (value_text v) (text_isnt_reference b t) (text_isnt_tag b t)
    ∙ ap (λ x. b ∷ x) (plain_after-value quote v h.1)
plain_after-value quote (piece_of u v) h = read_piece u (value_text v) h.0
    ∙ ap (λ x. piece_meaning u ++ x) (plain_after-value quote v h.1)
