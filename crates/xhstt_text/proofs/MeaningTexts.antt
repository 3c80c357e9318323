-- What a text stands for is UTF-8 where the text is, and has only characters that a text may have.
use Rattle.std.proofs.Common.{◌≡◌, ℕ, ◌+◌, ◌/◌, ◌<◌, ◌≤◌, Bool, true, false, ◌&&◌, ◌||◌, if◌then◌else◌, eqb, leb, ltb}
use Rattle.std.proofs.Common.{Some, None, List, [], ◌∷◌, ◌++◌, length, drop, get_or, refl, inl, inr, sym, ap, subst}
use Rattle.std.proofs.Common.{◌∙◌, arith, append_assoc, length-append, encode_utf8_all}
use Rattle.std.specs.Prelude.{encode_utf8, unwrap_or}
use Rattle.std.specs.Str.{IsUtf8, is_utf8}
use Rattle.std.proofs.Math.Seq.{drop-append_seam, take-append_seam, get_or-append_seam}
use Rattle.std.proofs.lemmas.Bool.{and_parts, and_from, ltb-true, ltb-false, le-leb, lt-leb, cases_Bool, cases_lt}
use Rattle.std.proofs.lemmas.Bool.{cond_both, ne_eqb, eq-eqb, eqb-true}
use Rattle.std.proofs.lemmas.Bool.Decides.{nat_tests}
use Rattle.std.proofs.lemmas.Str.{IsUtf8-append, IsUtf8-take, IsUtf8-drop, IsCharBoundary-before_ascii}
use Rattle.std.proofs.lemmas.Str.{IsCharBoundary-after_ascii, IsUtf8-from_is_utf8, scalars-chars, encodes-chars}
use Rattle.std.proofs.lemmas.Str.{IsUtf8-encode, encode_ascii}
use lib.Utf8.{scalar, scalars, encode, encodes, next, low_scalar}
use Rattle.khe_base.specs.Text.{text_of, characters}
use Rattle.khe_base.proofs.TextLemmas.{text_of-IsUtf8}
use Rattle.xhstt_text.specs.Bytes.{AllAre, is_text, is_white}
use Rattle.xhstt_text.specs.Document.{Value, done, plain, piece_of, value_text, IsValue, Content, nothing, byte, piece}
use Rattle.xhstt_text.specs.Document.{comment, short, long, text}
use Rattle.xhstt_text.specs.Units.{Entity, less, greater, ampersand, apostrophe, quotation, entity_name, Piece, wide}
use Rattle.xhstt_text.specs.Units.{named, decimal, hexadecimal, piece_text, number_from, is_character, is_last, IsPiece}
use Rattle.xhstt_text.specs.Unescape.{entity_character, piece_meaning, value_meaning, meaning, IsText, IsTextOf}
use Rattle.xhstt_text.specs.Unescape.{IsValueOf, unescaped}
use Rattle.xhstt_text.specs.UnescapeMachine.{plain_after}
use Rattle.xhstt_text.specs.declared.unescaping.Part.TheVariants.{Plain}
use Rattle.xhstt_text.proofs.Meanings.{plain_after-text, plain_after-value}

-- a text may be cut at a character of ASCII
pub cut : (front rest : List ℕ) (b : ℕ) → b < 128 → IsUtf8 (front ++ (b ∷ rest)) → IsUtf8 front × IsUtf8 rest
cut front rest b l u =
    let whole : List ℕ = front ++ (b ∷ rest) in
    let here : get_or whole (length front) 0 ≡ b = get_or-append_seam front b rest 0 in
    let low : get_or whole (length front) 0 < 128 = omega arith in
    let long_enough : length front < length whole = omega (arith, length-append front (b ∷ rest)) in
    let before = IsUtf8-take whole (length front) u
    (IsCharBoundary-before_ascii whole (length front) long_enough low) in
    let after = IsUtf8-drop whole (length front + 1) u
    (IsCharBoundary-after_ascii whole (length front) u long_enough low) in
    let seam : drop (length front + 1) whole ≡ rest =
    ap (drop (length front + 1)) (sym (append_assoc front (b ∷ []) rest))
    ∙ ap (λ n. drop n ((front ++ b ∷ []) ++ rest)) (sym (length-append front (b ∷ [])))
    ∙ drop-append_seam (front ++ b ∷ []) rest in
    (subst IsUtf8 (take-append_seam front (b ∷ rest)) before, subst IsUtf8 seam after)

cut_twice : (front inner rest : List ℕ) (a b : ℕ) → a < 128 → b < 128 → IsUtf8 (front ++ (a ∷ (inner ++ (b ∷ rest))))
    → IsUtf8 front × IsUtf8 rest
cut_twice front inner rest a b l k u =
    let first = cut front (inner ++ (b ∷ rest)) a l u in
    (first.0, (cut inner rest b k first.1).1)

entity_ascii : (e : Entity) → entity_character e < 128
entity_ascii less = omega arith
entity_ascii greater = omega arith
entity_ascii ampersand = omega arith
entity_ascii apostrophe = omega arith
entity_ascii quotation = omega arith

character_utf8 : (n : ℕ) → is_character n ≡ true → IsUtf8 (encode_utf8 n)
character_utf8 n h = IsUtf8-encode n (grind (arith, nat_tests))

-- after any bytes, where the whole is UTF-8
piece_utf8 : (front : List ℕ) (u : Piece) (spelled meant : List ℕ) → IsPiece u
    → ((before : List ℕ) → IsUtf8 (before ++ spelled) → IsUtf8 (before ++ meant))
    → IsUtf8 (front ++ (piece_text u ++ spelled)) → IsUtf8 (front ++ (piece_meaning u ++ meant))
piece_utf8 front (wide b c) spelled meant h later u =
    let bytes : List ℕ = 239 ∷ b ∷ c ∷ [] in
    subst IsUtf8 (append_assoc front bytes meant)
    (later (front ++ bytes) (subst IsUtf8 (sym (append_assoc front bytes spelled)) u))
piece_utf8 front (named e) spelled meant h later u =
    let parts = cut_twice front (entity_name e) spelled 38 59 (omega arith) (omega arith)
    (subst (λ (x : List ℕ). IsUtf8 (front ++ (38 ∷ x))) (append_assoc (entity_name e) (59 ∷ []) spelled) u) in
    let one = subst IsUtf8 (encode_ascii (entity_character e) (entity_ascii e))
    (IsUtf8-encode (entity_character e) (low_scalar (entity_character e) (omega (arith, entity_ascii e)))) in
    IsUtf8-append front (entity_character e ∷ meant) parts.0
    (IsUtf8-append (entity_character e ∷ []) meant one (later [] parts.1))
piece_utf8 front (decimal ds) spelled meant h later u =
    let parts = cut_twice front (35 ∷ ds) spelled 38 59 (omega arith) (omega arith)
    (subst (λ (x : List ℕ). IsUtf8 (front ++ (38 ∷ 35 ∷ x))) (append_assoc ds (59 ∷ []) spelled) u) in
    IsUtf8-append front (encode_utf8 (number_from 10 0 ds) ++ meant) parts.0
    (IsUtf8-append (encode_utf8 (number_from 10 0 ds)) meant (character_utf8 (number_from 10 0 ds) h.1)
    (later [] parts.1))
piece_utf8 front (hexadecimal ds) spelled meant h later u =
    let parts = cut_twice front (35 ∷ 120 ∷ ds) spelled 38 59 (omega arith) (omega arith)
    (subst (λ (x : List ℕ). IsUtf8 (front ++ (38 ∷ 35 ∷ 120 ∷ x))) (append_assoc ds (59 ∷ []) spelled) u) in
    IsUtf8-append front (encode_utf8 (number_from 16 0 ds) ++ meant) parts.0
    (IsUtf8-append (encode_utf8 (number_from 16 0 ds)) meant (character_utf8 (number_from 16 0 ds) h.1)
    (later [] parts.1))

pub IsUtf8-meaning : (front : List ℕ) (c : Content) → IsText c → IsUtf8 (front ++ text c) → IsUtf8 (front ++ meaning c)
IsUtf8-meaning front nothing h u = u
IsUtf8-meaning front (byte b c) h u =
    subst IsUtf8 (append_assoc front (b ∷ []) (meaning c))
    (IsUtf8-meaning (front ++ b ∷ []) c h.1 (subst IsUtf8 (sym (append_assoc front (b ∷ []) (text c))) u))
IsUtf8-meaning front (piece u c) h v = piece_utf8 front u (text c) (meaning c) h.0
    (λ before w. IsUtf8-meaning before c h.1 w) v
IsUtf8-meaning front (comment inner c) h u =
    let parts = cut_twice front (33 ∷ 45 ∷ 45 ∷ inner) (text c) 60 62 (omega arith) (omega arith) u in
    IsUtf8-append front (meaning c) parts.0 (IsUtf8-meaning [] c h.1 parts.1)
IsUtf8-meaning front (short s c) h u = absurd h
IsUtf8-meaning front (long s inner shut white c) h u = absurd h

pub IsUtf8-value_meaning : (front : List ℕ) (quote : ℕ) (v : Value) → IsValue quote v → IsUtf8 (front ++ value_text v)
    → IsUtf8 (front ++ value_meaning v)
IsUtf8-value_meaning front quote done h u = u
IsUtf8-value_meaning front quote (plain b v) h u =
    subst IsUtf8 (append_assoc front (b ∷ []) (value_meaning v))
    (IsUtf8-value_meaning (front ++ b ∷ []) quote v h.1
    (subst IsUtf8 (sym (append_assoc front (b ∷ []) (value_text v))) u))
IsUtf8-value_meaning front quote (piece_of p v) h u =
    piece_utf8 front p (value_text v) (value_meaning v) h.0 (λ before w. IsUtf8-value_meaning before quote v h.1 w) u

-- where a scan over bytes stands: before a character, after the first byte of one from U+F000 on, and
-- after its second, which is the greatest or not
pub data Spot : Type 0 where
  before_character : Spot
  after_first : Spot
  after_second : Bool → Spot

-- the bytes have none that a text may not have
abbrev pub passes : Spot → List ℕ → Bool
passes before_character [] = true
passes before_character (b ∷ bs) = if eqb b 239 then passes after_first bs else (is_white b || leb 32 b) && passes
    before_character bs
passes after_first [] = false
passes after_first (b ∷ bs) = leb 128 b && passes (after_second (eqb b 191)) bs
passes (after_second greatest) [] = false
passes (after_second greatest) (c ∷ bs) = is_last greatest c && passes before_character bs

pub other_passes : (b : ℕ) (bs : List ℕ) → eqb b 239 ≡ false → (is_white b || leb 32 b) ≡ true
    → passes before_character (b ∷ bs) ≡ passes before_character bs
other_passes b bs e h = rw e (ap (λ v. v && passes before_character bs) h)

high_passes : (b : ℕ) (bs : List ℕ) → 128 ≤ b → (b ≡ 239 → ⊥)
    → passes before_character (b ∷ bs) ≡ passes before_character bs
high_passes b bs l n = other_passes b bs (ne_eqb b 239 n) (grind (arith, nat_tests))

one_byte : (c : ℕ) (rest : List ℕ) → c < 128 → passes before_character (c ∷ rest)
    ≡ (is_character c && passes before_character rest)
one_byte c rest l =
    let same : (is_white c || leb 32 c) ≡ is_character c = grind (arith, nat_tests) in
    rw (ne_eqb c 239 (omega arith)) (ap (λ v. v && passes before_character rest) same)

is_then : (test : Bool) (x y : Bool) → test ≡ true → x ≡ y → x ≡ (test && y)
is_then test x y t e = e ∙ ap (λ v. v && y) (sym t)

two_bytes : (c : ℕ) (rest : List ℕ) → 128 ≤ c → c < 2048
    → passes before_character ((192 + c / 64) ∷ next c ∷ rest) ≡ (is_character c && passes before_character rest)
two_bytes c rest l h =
    is_then (is_character c) _ _ (grind (arith, nat_tests))
    (high_passes (192 + c / 64) (next c ∷ rest) (omega arith) (λ e. omega arith)
    ∙ high_passes (next c) rest (omega arith) (λ e. omega arith))

four_bytes : (c : ℕ) (rest : List ℕ) → 65536 ≤ c → c < 1114112
    → passes before_character ((240 + c / 262144) ∷ next (c / 4096) ∷ next (c / 64) ∷ next c ∷ rest)
    ≡ (is_character c && passes before_character rest)
four_bytes c rest l h =
    is_then (is_character c) _ _ (grind (arith, nat_tests))
    (high_passes (240 + c / 262144) (next (c / 4096) ∷ next (c / 64) ∷ next c ∷ rest) (omega arith) (λ e. omega arith)
    ∙ high_passes (next (c / 4096)) (next (c / 64) ∷ next c ∷ rest) (omega arith) (λ e. omega arith)
    ∙ high_passes (next (c / 64)) (next c ∷ rest) (omega arith) (λ e. omega arith)
    ∙ high_passes (next c) rest (omega arith) (λ e. omega arith))

low_three : (c : ℕ) (rest : List ℕ) → 2048 ≤ c → c < 61440 → is_character c ≡ true
    → passes before_character ((224 + c / 4096) ∷ next (c / 64) ∷ next c ∷ rest)
    ≡ (is_character c && passes before_character rest)
low_three c rest l h k =
    is_then (is_character c) _ _ k
    (high_passes (224 + c / 4096) (next (c / 64) ∷ next c ∷ rest) (omega arith) (λ e. omega arith)
    ∙ high_passes (next (c / 64)) (next c ∷ rest) (omega arith) (λ e. omega arith)
    ∙ high_passes (next c) rest (omega arith) (λ e. omega arith))

-- the last two characters of three bytes are the only ones from U+F000 on that are none
last_three : (c : ℕ) → 61440 ≤ c → c < 65536 → is_last (eqb (next (c / 64)) 191) (next c) ≡ is_character c
last_three c l h =
    let later : leb 128 (next c) ≡ true = le-leb _ _ (omega arith) in
    elim (cases_lt 65533 c) [
      | inl more ↦
          let greatest : eqb (next (c / 64)) 191 ≡ true = eq-eqb _ _ (omega arith) in
          let beyond : leb 190 (next c) ≡ true = le-leb _ _ (omega arith) in
          let none : is_character c ≡ false = grind (arith, nat_tests) in
          rw (greatest, later, beyond) (sym none)
      | inr some ↦
          let is : is_character c ≡ true = grind (arith, nat_tests) in
          elim (cases_Bool (eqb (next (c / 64)) 191)) [
            | inl e ↦
                let full : next (c / 64) ≡ 191 = eqb-true _ _ e in
                let k : leb 190 (next c) ≡ false = lt-leb _ _ (omega arith) in rw (e, later, k) (sym is)
            | inr e ↦ rw (e, later) (sym is)
          ]
    ]

high_three : (c : ℕ) (rest : List ℕ) → 61440 ≤ c → c < 65536
    → passes before_character ((224 + c / 4096) ∷ next (c / 64) ∷ next c ∷ rest)
    ≡ (is_character c && passes before_character rest)
high_three c rest l h =
    let first : 224 + c / 4096 ≡ 239 = omega arith in
    let second : leb 128 (next (c / 64)) ≡ true = le-leb _ _ (omega arith) in
    ap (λ b. passes before_character (b ∷ next (c / 64) ∷ next c ∷ rest)) first
    ∙ ap (λ v. v && passes (after_second (eqb (next (c / 64)) 191)) (next c ∷ rest)) second
    ∙ ap (λ v. v && passes before_character rest) (last_three c l h)

three_bytes : (c : ℕ) (rest : List ℕ) → scalar c ≡ true → 2048 ≤ c → c < 65536
    → passes before_character ((224 + c / 4096) ∷ next (c / 64) ∷ next c ∷ rest)
    ≡ (is_character c && passes before_character rest)
three_bytes c rest s l h =
    elim (cases_lt c 61440) [
      | inl low ↦ low_three c rest l low (grind (arith, nat_tests))
      | inr high ↦ high_three c rest high h
    ]

scalar_below : (c : ℕ) → scalar c ≡ true → c < 1114112
scalar_below c s = grind (arith, nat_tests)

-- over one character
passes-encode : (c : ℕ) (rest : List ℕ) → scalar c ≡ true
    → passes before_character (encode c ++ rest) ≡ (is_character c && passes before_character rest)
unfolding encode
passes-encode c rest s =
    let P : List ℕ → Type 0 = λ x. passes before_character (x ++ rest)
    ≡ (is_character c && passes before_character rest) in
    cond_both (ltb c 128) _ _ P (λ e. one_byte c rest (ltb-true _ _ e)) (λ e.
    cond_both (ltb c 2048) _ _ P (λ k. two_bytes c rest (ltb-false _ _ e) (ltb-true _ _ k)) (λ k.
    cond_both (ltb c 65536) _ _ P (λ m. three_bytes c rest s (ltb-false _ _ k) (ltb-true _ _ m))
    (λ m. four_bytes c rest (ltb-false _ _ m) (scalar_below c s))))

-- the characters of bytes that pass
passed : (cs : List ℕ) → scalars cs ≡ true → passes before_character (encodes cs) ≡ true → AllAre is_character cs
passed [] s h = tt
passed (c ∷ cs) s h =
    let p = and_parts (scalar c) (scalars cs) s in
    let q = and_parts (is_character c) (passes before_character (encodes cs))
    (sym (passes-encode c (encodes cs) p.0) ∙ h) in
    (q.0, passed cs p.1 q.1)

pub characters_pass : (bs : List ℕ) → passes before_character bs ≡ true
    → AllAre is_character (unwrap_or (text_of bs) [])
characters_pass bs h =
    elim (cases_Bool (is_utf8 bs)) [
      | inl e ↦
          let u : IsUtf8 bs = IsUtf8-from_is_utf8 bs e in
          let all : AllAre is_character (characters bs) =
          passed (characters bs) (scalars-chars bs u) (ap (passes before_character) (encodes-chars bs u) ∙ h) in
          let P : Bool → Type 0 = λ b. AllAre is_character (unwrap_or (if b then Some (characters bs) else None) []) in
          subst P (sym e) all
      | inr e ↦
          let P : Bool → Type 0 = λ b. AllAre is_character (unwrap_or (if b then Some (characters bs) else None) []) in
          subst P (sym e) tt
    ]

is_scalar : (n : ℕ) → is_character n ≡ true → scalar n ≡ true
is_scalar n h = grind (arith, nat_tests)

number_passes : (n : ℕ) (rest : List ℕ) → is_character n ≡ true → passes before_character rest ≡ true
    → passes before_character (encode_utf8 n ++ rest) ≡ true
number_passes n rest h k = passes-encode n rest (is_scalar n h) ∙ and_from _ _ h k

piece_passes : (u : Piece) (rest : List ℕ) → IsPiece u → passes before_character rest ≡ true
    → passes before_character (piece_meaning u ++ rest) ≡ true
piece_passes (wide b c) rest h k = and_from (leb 128 b) _ h.0
    (and_from (is_last (eqb b 191) c) (passes before_character rest) h.1 k)
piece_passes (named less) rest h k = k
piece_passes (named greater) rest h k = k
piece_passes (named ampersand) rest h k = k
piece_passes (named apostrophe) rest h k = k
piece_passes (named quotation) rest h k = k
piece_passes (decimal ds) rest h k = number_passes (number_from 10 0 ds) rest h.1 k
piece_passes (hexadecimal ds) rest h k = number_passes (number_from 16 0 ds) rest h.1 k

text_passes : (b : ℕ) (rest : List ℕ) → is_text b ≡ true → passes before_character rest ≡ true
    → passes before_character (b ∷ rest) ≡ true
text_passes b rest h k = other_passes b rest (grind (arith, nat_tests)) (grind (arith, nat_tests)) ∙ k

meaning_passes : (c : Content) → IsText c → passes before_character (meaning c) ≡ true
meaning_passes nothing h = refl
meaning_passes (byte b c) h = text_passes b (meaning c) h.0 (meaning_passes c h.1)
meaning_passes (piece u c) h = piece_passes u (meaning c) h.0 (meaning_passes c h.1)
meaning_passes (comment inner c) h = meaning_passes c h.1
meaning_passes (short s c) h = absurd h
meaning_passes (long s inner shut white c) h = absurd h

value_passes : (quote : ℕ) (v : Value) → IsValue quote v → passes before_character (value_meaning v) ≡ true
value_passes quote done h = refl
value_passes quote (plain b v) h = text_passes b (value_meaning v) (and_parts (is_text b) _ h.0).0
    (value_passes quote v h.1)
value_passes quote (piece_of u v) h = piece_passes u (value_meaning v) h.0 (value_passes quote v h.1)

-- the bytes of the text of bytes that pass
text_of-passes : (bs : List ℕ) → passes before_character bs ≡ true
    → passes before_character (encode_utf8_all (unwrap_or (text_of bs) [])) ≡ true
text_of-passes bs h =
    let P : Bool → Type 0 = λ b. passes before_character
    (encode_utf8_all (unwrap_or (if b then Some (characters bs) else None) [])) ≡ true in
    elim (cases_Bool (is_utf8 bs)) [
      | inl e ↦ subst P (sym e) (ap (passes before_character) (encodes-chars bs (IsUtf8-from_is_utf8 bs e)) ∙ h)
      | inr e ↦ subst P (sym e) refl
    ]

-- each character of what a text stands for is one that a text may have
pub unescaped-text_characters : (c : Content) → IsText c → AllAre is_character (unescaped (text c))
unescaped-text_characters c h =
    let P : List ℕ → Type 0 = λ bs. AllAre is_character (unwrap_or (text_of bs) []) in
    subst P (sym (plain_after-text c h)) (characters_pass (meaning c) (meaning_passes c h))

pub unescaped-value_characters : (quote : ℕ) (v : Value) → IsValue quote v
    → AllAre is_character (unescaped (value_text v))
unescaped-value_characters quote v h =
    let P : List ℕ → Type 0 = λ bs. AllAre is_character (unwrap_or (text_of bs) []) in
    subst P (sym (plain_after-value quote v h)) (characters_pass (value_meaning v) (value_passes quote v h))

-- a span whose text has only such characters, and whose text's bytes pass
pub record IsClean (value : List ℕ) : Type 0 where
  pub characters : AllAre is_character (unescaped value)
  pub passed : passes before_character (encode_utf8_all (unescaped value)) ≡ true

IsClean-text : (c : Content) → IsText c → IsClean (text c)
IsClean-text c h =
    let P : List ℕ → Type 0 = λ bs. passes before_character (encode_utf8_all (unwrap_or (text_of bs) [])) ≡ true in
    record {
      characters = unescaped-text_characters c h;
      passed = subst P (sym (plain_after-text c h)) (text_of-passes (meaning c) (meaning_passes c h));
    }

IsClean-value : (quote : ℕ) (v : Value) → IsValue quote v → IsClean (value_text v)
IsClean-value quote v h =
    let P : List ℕ → Type 0 = λ bs. passes before_character (encode_utf8_all (unwrap_or (text_of bs) [])) ≡ true in
    record {
      characters = unescaped-value_characters quote v h;
      passed = subst P (sym (plain_after-value quote v h)) (text_of-passes (value_meaning v) (value_passes quote v h));
    }

pub IsClean-between_tags : (bytes : List ℕ) (c : Content) → IsTextOf bytes c → IsClean bytes
IsClean-between_tags bytes c h = subst IsClean (sym h.spelled) (IsClean-text c h.in_form)

pub IsClean-between_quotes : (quote : ℕ) (bytes : List ℕ) (v : Value) → IsValueOf quote bytes v → IsClean bytes
IsClean-between_quotes quote bytes v h = subst IsClean (sym h.spelled) (IsClean-value quote v h.in_form)

-- what is spelled by bytes is their text where it is UTF-8
stands_for : (bytes meant : List ℕ) → plain_after Plain [] bytes ≡ meant → IsUtf8 meant
    → text_of meant ≡ Some (unescaped bytes)
stands_for bytes meant e u =
    let is : Some (characters meant) ≡ text_of meant = text_of-IsUtf8 meant u in
    sym is ∙ ap (λ o. Some (unwrap_or o [])) is ∙ ap (λ bs. Some (unwrap_or (text_of bs) [])) (sym e)

pub unescaped-text : (bytes : List ℕ) (c : Content) → IsTextOf bytes c → text_of (meaning c) ≡ Some (unescaped bytes)
unescaped-text bytes c h =
    stands_for bytes (meaning c) (ap (plain_after Plain []) h.spelled ∙ plain_after-text c h.in_form)
    (IsUtf8-meaning [] c h.in_form (subst IsUtf8 h.spelled h.utf8))

pub unescaped-value : (bytes : List ℕ) (quote : ℕ) (v : Value) → IsValueOf quote bytes v
    → text_of (value_meaning v) ≡ Some (unescaped bytes)
unescaped-value bytes quote v h =
    stands_for bytes (value_meaning v) (ap (plain_after Plain []) h.spelled ∙ plain_after-value quote v h.in_form)
    (IsUtf8-value_meaning [] quote v h.in_form (subst IsUtf8 h.spelled h.utf8))
