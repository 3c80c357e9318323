-- A document with white and comments after it is a document, and says the same.
use Rattle.std.proofs.Common.{ℕ, zero, suc, ◌≤◌, ◌≡◌, Bool, true, false, not, ◌&&◌, ◌||◌, List, [], ◌∷◌, ◌++◌}
use Rattle.std.proofs.Common.{refl, sym, ap, subst, ◌∙◌, arith, append_assoc, eqb, leb, inl, inr, ◌⊎◌, lit<, if◌then◌else◌}
use Rattle.std.specs.Str.{IsUtf8, IsAscii}
use Rattle.std.proofs.lemmas.Bool.{and_parts, and_from, true≢false, ltb-true}
use Rattle.std.proofs.lemmas.Str.{IsUtf8-append, IsUtf8-from_ascii}
use Rattle.khe_base.specs.Text.{is_ascii}
use Rattle.xhstt_text.specs.Bytes.{IsComment, dashes, dashes_after, stays_open}
use Rattle.xhstt_text.specs.Document.{Content, nothing, byte, piece, comment, short, long, Document, IsDocument}
use Rattle.xhstt_text.specs.Document.{IsSpace, IsSpellingOf, Spelled, declaration_text, mark_text}
use Rattle.xhstt_text.specs.Document.{spelling, table, text}
use Rattle.xhstt_text.specs.Endings.{MayEndInComment, MayEndInSpace, begins_with_hyphen, comment_line, has_two_hyphens}

-- content, and then other content
abbrev pub joined : Content → Content → Content
joined nothing more = more
joined (byte b c) more = byte b (joined c more)
joined (piece u c) more = piece u (joined c more)
joined (comment inner c) more = comment inner (joined c more)
joined (short s c) more = short s (joined c more)
joined (long s inner shut white c) more = long s inner shut white (joined c more)

space_joined : (c more : Content) → IsSpace c → IsSpace more → IsSpace (joined c more)
space_joined nothing more h m = m
space_joined (byte b c) more h m = (h.0, space_joined c more h.1 m)
space_joined (piece u c) more h m = absurd h
space_joined (comment inner c) more h m = (h.0, space_joined c more h.1 m)
space_joined (short s c) more h m = absurd h
space_joined (long s inner shut white c) more h m = absurd h

text_joined : (c more : Content) → IsSpace c → text (joined c more) ≡ text c ++ text more
text_joined nothing more h = refl
text_joined (byte b c) more h = ap (λ x. b ∷ x) (text_joined c more h.1)
text_joined (piece u c) more h = absurd h
text_joined (comment inner c) more h =
    ap (λ x. 60 ∷ 33 ∷ 45 ∷ 45 ∷ (inner ++ (62 ∷ x))) (text_joined c more h.1)
    ∙ ap (λ x. 60 ∷ 33 ∷ 45 ∷ 45 ∷ x) (sym (append_assoc inner (62 ∷ text c) (text more)))
text_joined (short s c) more h = absurd h
text_joined (long s inner shut white c) more h = absurd h

-- a document with more after it
abbrev pub with_more : Document → Content → Document
with_more d more = record {
  mark = d.mark;
  declaration = d.declaration;
  body = record { before = d.body.before; root = d.body.root; after = joined d.body.after more };
}

pub spelling_with : (d : Document) (more : Content) → IsSpace d.body.after
    → spelling d ++ text more ≡ spelling (with_more d more)
spelling_with d more h =
    let m : List ℕ = mark_text d.mark in
    let e : List ℕ = declaration_text d.declaration in
    let b : List ℕ = text d.body.before in
    let r : List ℕ = text d.body.root in
    let a : List ℕ = text d.body.after in
    append_assoc m (e ++ (b ++ (r ++ a))) (text more)
    ∙ ap (λ x. m ++ x) (append_assoc e (b ++ (r ++ a)) (text more))
    ∙ ap (λ x. m ++ (e ++ x)) (append_assoc b (r ++ a) (text more))
    ∙ ap (λ x. m ++ (e ++ (b ++ x))) (append_assoc r a (text more))
    ∙ ap (λ x. m ++ (e ++ (b ++ (r ++ x)))) (sym (text_joined d.body.after more h))

pub document_with : (d : Document) (more : Content) → IsDocument d → IsSpace more → IsDocument (with_more d more)
document_with d more is m = (is.0, (is.1.0, is.1.1, is.1.2, space_joined d.body.after more is.1.3 m))

-- it spells the same rows and the same forest
pub rows_with : (d : Document) (more : Content) → table (with_more d more) ≡ table d
rows_with d more = refl

pub spelling_of_with : (bytes : List ℕ) (d : Document) (more : Content) → IsSpellingOf bytes d → IsSpace more
    → IsUtf8 (text more) → IsSpellingOf (bytes ++ text more) (with_more d more)
spelling_of_with bytes d more is m u = (
  IsUtf8-append bytes (text more) is.0 u,
  document_with d more is.1 m,
  ap (λ x. x ++ text more) is.2 ∙ spelling_with d more is.1.1.3,
)

pub ends_in_space : (bytes : List ℕ) → MayEndInSpace bytes
ends_in_space bytes f more h m u =
    (with_more h.0 more, spelling_of_with bytes h.0 more h.1 m u, h.2)

-- two hyphens after bytes end a comment
dashes_two : (count : ℕ) (bs : List ℕ) → 2 ≤ dashes_after count (bs ++ (45 ∷ 45 ∷ []))
dashes_two count [] = omega arith
dashes_two count (b ∷ bs) = dashes_two (dashes count b) bs

stays_two : (count : ℕ) (bs : List ℕ) → stays_open count bs ≡ true → stays_open count (bs ++ (45 ∷ 45 ∷ [])) ≡ true
stays_two count [] h = and_not (leb 2 count) (and_not (leb 2 (suc count)) refl)
  where
    and_not : (a : Bool) {b : Bool} → b ≡ true → not (a && false) && b ≡ true
    and_not true h = h
    and_not false h = h
stays_two count (b ∷ bs) h =
    let x = and_parts (not (leb 2 count && eqb b 62)) (stays_open (dashes count b) bs) h in
    and_from (not (leb 2 count && eqb b 62)) (stays_open (dashes count b) (bs ++ (45 ∷ 45 ∷ []))) x.0
    (stays_two (dashes count b) bs x.1)

-- bytes in which no two hyphens stand side by side have no end of a comment
or_none : (a b : Bool) → (a || b) ≡ false → (a ≡ false) × (b ≡ false)
or_none true b h = absurd (true≢false h)
or_none false b h = (refl, h)

hyphen_next : (b : Bool) (begins : Bool) → (b && begins) ≡ false → b ≡ true → begins ≡ false
hyphen_next b begins h e = sym (ap (λ x. x && begins) e) ∙ h

stays_single : (count : ℕ) (bs : List ℕ) → count ≤ 1 → (1 ≤ count → begins_with_hyphen bs ≡ false)
    → has_two_hyphens bs ≡ false → stays_open count bs ≡ true
stays_single count [] l next h = refl
stays_single count (b ∷ bs) l next h =
    let parts = or_none (eqb b 45 && begins_with_hyphen bs) (has_two_hyphens bs) h in
    and_from (not (leb 2 count && eqb b 62)) (stays_open (dashes count b) bs)
    (ap (λ x. not (x && eqb b 62)) (few count l))
    (by_byte (eqb b 45) refl parts.0 (λ n m k. stays_single n bs m k parts.1))
  where
    few : (n : ℕ) → n ≤ 1 → leb 2 n ≡ false
    few zero m = refl
    few (suc zero) m = refl
    few (suc (suc n)) m = absurd (omega (arith, m))

    by_byte : (x : Bool) → eqb b 45 ≡ x → (eqb b 45 && begins_with_hyphen bs) ≡ false
        → ((n : ℕ) → n ≤ 1 → (1 ≤ n → begins_with_hyphen bs ≡ false) → stays_open n bs ≡ true)
        → stays_open (dashes count b) bs ≡ true
    by_byte true e p later =
        let none : count ≤ 0 = at_most (cases count l) in
        subst (λ n. stays_open n bs ≡ true) (sym (ap (λ y. if y then suc count else 0) e))
        (later (suc count) (omega (arith, none)) (λ k. hyphen_next (eqb b 45) (begins_with_hyphen bs) p e))
      where
        cases : (n : ℕ) → n ≤ 1 → (n ≤ 0) ⊎ (1 ≤ n)
        cases zero m = inl (omega arith)
        cases (suc n) m = inr (omega arith)

        at_most : (count ≤ 0) ⊎ (1 ≤ count) → count ≤ 0
        at_most (inl m) = m
        at_most (inr m) = absurd (true≢false (sym e ∙ next m))
    by_byte false e p later =
        subst (λ n. stays_open n bs ≡ true) (sym (ap (λ y. if y then suc count else 0) e))
        (later 0 (omega arith) (λ k. absurd (omega (arith, k))))

pub comment_from : (inner : List ℕ) → has_two_hyphens inner ≡ false → IsComment (inner ++ (45 ∷ 45 ∷ []))
comment_from inner h =
    (stays_two 0 inner (stays_single 0 inner (omega arith) (λ k. absurd (omega (arith, k))) h), dashes_two 0 inner)

ascii_is : (bs : List ℕ) → is_ascii bs ≡ true → IsAscii bs
ascii_is [] h i = lit< tt
ascii_is (b ∷ bs) h zero = ltb-true b 128 (and_parts _ _ h).0
ascii_is (b ∷ bs) h (suc i) = ascii_is bs (and_parts _ _ h).1 i

ascii_utf8 : (bs : List ℕ) → is_ascii bs ≡ true → IsUtf8 bs
ascii_utf8 bs h = IsUtf8-from_ascii bs (ascii_is bs h)

-- the comment as content
abbrev comment_content : List ℕ → Content
comment_content inner = comment (inner ++ (45 ∷ 45 ∷ [])) (byte 10 nothing)

comment_text : (inner : List ℕ) → text (comment_content inner) ≡ comment_line inner
comment_text inner = ap (λ x. 60 ∷ 33 ∷ 45 ∷ 45 ∷ x) (append_assoc inner (45 ∷ 45 ∷ []) (62 ∷ 10 ∷ []))

line_utf8 : (inner : List ℕ) → IsUtf8 inner → IsUtf8 (comment_line inner)
line_utf8 inner u =
    IsUtf8-append (60 ∷ 33 ∷ 45 ∷ 45 ∷ []) (inner ++ (45 ∷ 45 ∷ 62 ∷ 10 ∷ [])) (ascii_utf8 (60 ∷ 33 ∷ 45 ∷ 45 ∷ []) refl)
    (IsUtf8-append inner (45 ∷ 45 ∷ 62 ∷ 10 ∷ []) u (ascii_utf8 (45 ∷ 45 ∷ 62 ∷ 10 ∷ []) refl))

pub ends_in_comment : (bytes : List ℕ) → MayEndInComment bytes
ends_in_comment bytes f inner h u single =
    let same = comment_text inner in
    let is : IsSpace (comment_content inner) = (comment_from inner single, (refl, tt)) in
    let own = line_utf8 inner u in
    let broken = IsUtf8-append (10 ∷ []) (comment_line inner) (ascii_utf8 (10 ∷ []) refl) own in (
      subst (λ x. Spelled (bytes ++ x) f) same
          (ends_in_space bytes f (comment_content inner) h is (subst IsUtf8 (sym same) own)),
      subst (λ x. Spelled (bytes ++ (10 ∷ x)) f) same
          (ends_in_space bytes f (byte 10 (comment_content inner)) h (refl, is)
          (subst (λ x. IsUtf8 (10 ∷ x)) (sym same) broken)),
    )
