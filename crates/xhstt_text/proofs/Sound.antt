-- What the machine reads is a document.
use Rattle.std.proofs.Common.{◌≡◌, ℕ, suc, ◌+◌, ◌*◌, ◌<◌, ◌≤◌, Bool, true, false, cond, not, ◌&&◌, leb, eqb, ltb, List}
use Rattle.std.proofs.Common.{[], ◌∷◌, ◌++◌, length, Ok, Err, refl, sym, ◌∙◌, ap, subst, ◌⊎◌, inl, inr, arith}
use Rattle.std.proofs.Common.{append-nil, append_assoc}
use Rattle.std.proofs.lemmas.Bool.Decides.{nat_tests}
use Rattle.std.proofs.lemmas.Slice.Eq.{bytes_eq-Decides}
use Rattle.std.specs.Str.{bytes_eq}
use Rattle.xhstt_text.specs.Units.{Entity, less, greater, ampersand, apostrophe, quotation, entity_name, Piece, wide}
use Rattle.xhstt_text.specs.Units.{named as named_entity, decimal, hexadecimal, piece_text, is_decimal, is_hexadecimal}
use Rattle.xhstt_text.specs.Units.{digit, number_from, AreDigits, is_character, is_last, IsPiece}
use Rattle.xhstt_text.specs.Bytes.{IsDeclared, declaration_start, question_after, stays_declared, IsComment, dashes}
use Rattle.xhstt_text.specs.Bytes.{dashes_after, stays_open, is_white, is_first, is_name, is_text, is_quoted, is_quote}
use Rattle.xhstt_text.specs.Bytes.{AllAre, IsWhite, IsGap, IsName}
use Rattle.xhstt_text.specs.Document.{Value, done, plain, piece_of, value_text, IsValue, piece, Body, unmarked, marked}
use Rattle.xhstt_text.specs.Document.{Declaration, undeclared, declared, declaration_text, body_text, IsBody}
use Rattle.xhstt_text.specs.Document.{IsDeclaration, IsSpace, Attributes, none, attribute, Start, Content, nothing}
use Rattle.xhstt_text.specs.Document.{byte, comment, short, long, Document, attributes_text, start_text, text, spelling}
use Rattle.xhstt_text.specs.Document.{has_name, AreAttributes, IsContent, IsDocument, Rows}
use Rattle.xhstt_text.specs.Machine.{Within, in_text, in_quotes, after_piece, wide_1, wide_2, reference, reference_a}
use Rattle.xhstt_text.specs.Machine.{word, hash, hash_x, in_decimal, in_hexadecimal, step_word, beginning, mark_1}
use Rattle.xhstt_text.specs.Machine.{mark_2, at_declaration, declared_open, question, in_declaration, closed}
use Rattle.xhstt_text.specs.Machine.{step_declaration, step_question, other_word, no_character, after_number}
use Rattle.xhstt_text.specs.Machine.{step_other_word, Frame, Read, Tag, Phase, content, ended, ended_open, Region, early}
use Rattle.xhstt_text.specs.Machine.{late, phase_of, bang, bang_dash, in_comment, opened, start_name, valued, in_tag}
use Rattle.xhstt_text.specs.Machine.{slash, attribute_name, named, equals, in_value, shut_begin, shut, shut_gap, State}
use Rattle.xhstt_text.specs.Machine.{Step, refused, state, noted, resume, open_element, add_node, opened_row}
use Rattle.xhstt_text.specs.Machine.{close_element, attribute_row, with_name, start_of, step, step_content, step_opened}
use Rattle.xhstt_text.specs.Machine.{step_valued, step_named, step_shut, finish, and_then, run, Outcome, outcome_of}
use Rattle.xhstt_text.specs.declared.faults.TextFault.{TextFault}
use Rattle.xhstt_text.proofs.Complete.{attribute_shape, start_shape, long_shape, declaration_shape}
use Rattle.std.proofs.lemmas.Bool.{and_parts}

-- what may follow inside these open elements, the innermost first, or after the outermost element
abbrev Later : List (List ℕ) → List ℕ → Type 0
Later [] bs = (m : Content) × IsSpace m × (bs ≡ text m)
Later (n ∷ ns) bs = (c : Content) × (w : List ℕ) × (more : List ℕ) × IsContent (suc (length ns)) c × IsWhite w
    × (bs ≡ text c ++ (60 ∷ 47 ∷ (n ++ (w ++ (62 ∷ more))))) × Later ns more

-- the same, where nothing is open an outermost element and what stands around it
abbrev Inside : List (List ℕ) → List ℕ → Type 0
Inside [] bs = (y : Body) × IsBody y × (bs ≡ body_text y)
Inside (n ∷ ns) bs = Later (n ∷ ns) bs

-- the end of a start tag, and what may follow
abbrev EndOf : List (List ℕ) → List ℕ → List ℕ → Type 0
EndOf ns name bs = (w : List ℕ) × (more : List ℕ) × IsWhite w
    × (((bs ≡ w ++ (47 ∷ 62 ∷ more)) × Later ns more) ⊎ ((bs ≡ w ++ (62 ∷ more)) × Later (name ∷ ns) more))

-- further attributes of a start tag, its end, and what may follow
abbrev InTag : List (List ℕ) → List ℕ → List (List ℕ) → List ℕ → Type 0
InTag ns name names bs = (a : Attributes) × (rest : List ℕ) × AreAttributes names a × (bs ≡ attributes_text a ++ rest)
    × EndOf ns name rest

-- the same at a place where a comment may stand
abbrev AtPlace : Region → List (List ℕ) → List ℕ → Type 0
AtPlace early ns bs = Inside ns bs
AtPlace late ns bs = Later [] bs

-- what may follow in the value of an attribute with this name
abbrev ValueRest : Tag → List ℕ → ℕ → List (List ℕ) → List ℕ → Type 0
ValueRest t name quote ns bs = IsName name → has_name name t.names ≡ false → is_quote quote ≡ true → (b : ℕ)
    → is_white b ≡ true → (w : List ℕ) → IsWhite w → (v : List ℕ) → IsWhite v → (u : Value) → IsValue quote u
    → InTag ns t.name t.names (b ∷ (name ++ (w ++ (61 ∷ (v ++ (quote ∷ (value_text u ++ bs)))))))

-- what may follow where a piece may stand
abbrev AtWithin : Within → List (List ℕ) → List ℕ → Type 0
AtWithin in_text [] bs = Unit {0}
AtWithin in_text (n ∷ ns) bs = Later (n ∷ ns) bs
AtWithin (in_quotes t place name quote from) ns bs = ValueRest t name quote ns bs

-- what may follow a byte order mark
abbrev Declarable : List ℕ → Type 0
Declarable bs = (x : Declaration) × (y : Body) × IsDeclaration x × IsBody y × (bs ≡ declaration_text x ++ body_text y)

-- a whole text
abbrev Whole : List ℕ → Type 0
Whole bs = (d : Document) × IsDocument d × (bs ≡ spelling d)

-- what may follow a phase inside these open elements
abbrev Follows : Phase → List (List ℕ) → List ℕ → Type 0
Follows beginning ns bs = Whole bs
Follows mark_1 ns bs = Whole (239 ∷ bs)
Follows mark_2 ns bs = Whole (239 ∷ 187 ∷ bs)
Follows at_declaration ns bs = Declarable bs
Follows (declared_open place) ns bs = Declarable (60 ∷ bs)
Follows (question ks) ns bs = (front : List ℕ) → front ++ ks ≡ declaration_start → Declarable (front ++ bs)
Follows (in_declaration seen) ns bs = (w : ℕ) → is_white w ≡ true → (front : List ℕ) → stays_declared false front ≡ true
    → question_after false front ≡ seen → Declarable (declaration_start ++ (w ∷ (front ++ bs)))
Follows content ns bs = Inside ns bs
Follows ended ns bs = Later [] bs
Follows (ended_open at) ns bs = Later [] (60 ∷ bs)
Follows (bang at place) ns bs = AtPlace place ns (60 ∷ 33 ∷ bs)
Follows (other_word at first ks) ns bs = ⊥
Follows (bang_dash place) ns bs = AtPlace place ns (60 ∷ 33 ∷ 45 ∷ bs)
Follows (in_comment place count) ns bs = (front : List ℕ) → stays_open 0 front ≡ true → dashes_after 0 front ≡ count
    → AtPlace place ns (60 ∷ 33 ∷ 45 ∷ 45 ∷ (front ++ bs))
Follows (opened at) ns bs = Inside ns (60 ∷ bs)
Follows (start_name at name) ns bs = IsName name → length ns < 32 → Inside ns (60 ∷ (name ++ bs))
Follows (valued t) ns bs = InTag ns t.name t.names bs
Follows (in_tag t) ns bs = (b : ℕ) → is_white b ≡ true → InTag ns t.name t.names (b ∷ bs)
Follows (slash t) ns bs = (more : List ℕ) × (bs ≡ 62 ∷ more) × Later ns more
Follows (attribute_name t at name) ns bs = IsName name → (b : ℕ) → is_white b ≡ true
    → InTag ns t.name t.names (b ∷ (name ++ bs))
Follows (named t at name) ns bs = IsName name → has_name name t.names ≡ false → (b : ℕ) → is_white b ≡ true
    → (w : List ℕ) → IsWhite w → InTag ns t.name t.names (b ∷ (name ++ (w ++ bs)))
Follows (equals t at name) ns bs = IsName name → has_name name t.names ≡ false → (b : ℕ) → is_white b ≡ true
    → (w : List ℕ) → IsWhite w → (v : List ℕ) → IsWhite v
    → InTag ns t.name t.names (b ∷ (name ++ (w ++ (61 ∷ (v ++ bs)))))
Follows (in_value t at name quote from) ns bs = ValueRest t name quote ns bs
Follows (wide_1 w) ns bs = AtWithin w ns (239 ∷ bs)
Follows (wide_2 greatest w) ns bs = (b : ℕ) → leb 128 b ≡ true → eqb b 191 ≡ greatest → AtWithin w ns (239 ∷ b ∷ bs)
Follows (reference at w) ns bs = AtWithin w ns (38 ∷ bs)
Follows (reference_a at w) ns bs = AtWithin w ns (38 ∷ 97 ∷ bs)
Follows (word at ks w) ns bs = (e : Entity) (front : List ℕ) → front ++ ks ≡ entity_name e ++ 59 ∷ []
    → AtWithin w ns (38 ∷ (front ++ bs))
Follows (hash at w) ns bs = AtWithin w ns (38 ∷ 35 ∷ bs)
Follows (hash_x at w) ns bs = AtWithin w ns (38 ∷ 35 ∷ 120 ∷ bs)
Follows (in_decimal at n w) ns bs = (ds : List ℕ) → AreDigits is_decimal ds → number_from 10 0 ds ≡ n
    → AtWithin w ns (38 ∷ 35 ∷ (ds ++ bs))
Follows (in_hexadecimal at n w) ns bs = (ds : List ℕ) → AreDigits is_hexadecimal ds → number_from 16 0 ds ≡ n
    → AtWithin w ns (38 ∷ 35 ∷ 120 ∷ (ds ++ bs))
Follows (no_character at) ns bs = ⊥
Follows (shut_begin at) ns bs = Inside ns (60 ∷ 47 ∷ bs)
Follows (shut at name) ns bs = Inside ns (60 ∷ 47 ∷ (name ++ bs))
Follows (shut_gap at name) ns bs = (w : List ℕ) → IsWhite w → Inside ns (60 ∷ 47 ∷ (name ++ (w ++ bs)))

white_gap : (w : List ℕ) → IsGap w → IsWhite w
white_gap [] h = absurd h
white_gap (b ∷ w) h = h

pub all_push : (test : ℕ → Bool) (w : List ℕ) (b : ℕ) → AllAre test w → test b ≡ true → AllAre test (w ++ b ∷ [])
all_push test [] b h e = (e, tt)
all_push test (c ∷ w) b h e = (h.0, all_push test w b h.1 e)

pub name_push : (name : List ℕ) (b : ℕ) → IsName name → is_name b ≡ true → IsName (name ++ b ∷ [])
name_push [] b h e = absurd h
name_push (c ∷ name) b h e = (h.0, all_push is_name name b h.1 e)

-- one more white before what follows in a tag
widen : (ns : List (List ℕ)) (name : List ℕ) (names : List (List ℕ)) (b : ℕ) (bs : List ℕ) → is_white b ≡ true
    → InTag ns name names bs → InTag ns name names (b ∷ bs)
widen ns name names b bs e (none, rest, h, same, (w, more, hw, inl (eq, later))) =
    (none, b ∷ rest, tt, ap (λ x. b ∷ x) same, (b ∷ w, more, (e, hw), inl (ap (λ x. b ∷ x) eq, later)))
widen ns name names b bs e (none, rest, h, same, (w, more, hw, inr (eq, later))) =
    (none, b ∷ rest, tt, ap (λ x. b ∷ x) same, (b ∷ w, more, (e, hw), inr (ap (λ x. b ∷ x) eq, later)))
widen ns name names b bs e (attribute w own v u quote value more, rest, h, same, end) = (
  attribute (b ∷ w) own v u quote value more,
  rest,
  ((e, white_gap w h.0), h.1, h.2, h.3, h.4, h.5, h.6, h.7),
  ap (λ x. b ∷ x) same,
  end,
)

-- one more attribute before what follows in a tag
more_attribute : (ns : List (List ℕ)) (name : List ℕ) (names : List (List ℕ)) (b : ℕ) (own w v : List ℕ) (quote : ℕ)
    (u : Value) (bs : List ℕ) → is_white b ≡ true → IsName own → has_name own names ≡ false → IsWhite w → IsWhite v
    → is_quote quote ≡ true → IsValue quote u → InTag ns name (own ∷ names) bs
    → InTag ns name names (b ∷ (own ++ (w ++ (61 ∷ (v ++ (quote ∷ (value_text u ++ (quote ∷ bs))))))))
more_attribute ns name names b own w v quote u bs hb hn new hw hv hq hu (a, rest, h, same, end) = (
  attribute (b ∷ []) own w v quote u a,
  rest,
  ((hb, tt), hn, new, hw, hv, hq, hu, h),
  ap (λ x. b ∷ (own ++ (w ++ (61 ∷ (v ++ (quote ∷ (value_text u ++ (quote ∷ x)))))))) same
      ∙ sym (attribute_shape (b ∷ []) own w v quote u a rest),
  end,
)

abbrev start : List ℕ → Attributes → List ℕ → Start
start name a w = record { name = name; attributes = a; white = w }

-- a start tag whose bytes after the name are these
tag_bytes : (name : List ℕ) (a : Attributes) (w bs rest tail : List ℕ) → bs ≡ attributes_text a ++ rest
    → rest ≡ w ++ tail → 60 ∷ (name ++ bs) ≡ start_text (start name a w) ++ tail
tag_bytes name a w bs rest tail e d = ap (λ x. 60 ∷ (name ++ x)) (e ∙ ap (λ x. attributes_text a ++ x) d)
    ∙ sym (start_shape (start name a w) tail)

short_bytes : (s : Start) (c : Content) (rest : List ℕ)
    → start_text s ++ (47 ∷ 62 ∷ (text c ++ rest)) ≡ text (short s c) ++ rest
short_bytes s c rest = sym (append_assoc (start_text s) (47 ∷ 62 ∷ text c) rest)

element : (ns : List (List ℕ)) (name bs : List ℕ) → IsName name → length ns < 32 → InTag ns name [] bs
    → Inside ns (60 ∷ (name ++ bs))
element [] name bs hn d (a, rest, h, same, (w, more, hw, inl (eq, (m, hm, eqm)))) =
    let s : Start = start name a w in (
      record { before = nothing; root = short s nothing; after = m },
      (tt, tt, (d, (hn, h, hw), tt), hm),
      tag_bytes name a w bs rest (47 ∷ 62 ∷ more) same eq ∙ short_bytes s nothing more
          ∙ ap (λ x. text (short s nothing) ++ x) eqm,
    )
element [] name bs hn d (a, rest, h, same, (w, more, hw, inr (eq, (c, w2, more2, hc, hw2, eq2, (m, hm, eqm))))) =
    let s : Start = start name a w in (
      record { before = nothing; root = long s c name w2 nothing; after = m },
      (tt, tt, (d, (hn, h, hw), hc, refl, hw2, tt), hm),
      tag_bytes name a w bs rest (62 ∷ more) same eq ∙ ap (λ x. start_text s ++ (62 ∷ x)) eq2
          ∙ sym (long_shape s c name w2 nothing more2) ∙ ap (λ x. text (long s c name w2 nothing) ++ x) eqm,
    )
element (n ∷ ns) name bs hn d (a, rest, h, same, (w, more, hw, inl (eq, (c, w2, more2, hc, hw2, eq2, later)))) =
    let s : Start = start name a w in
    let tail : List ℕ = 60 ∷ 47 ∷ (n ++ (w2 ++ (62 ∷ more2))) in (
      short s c,
      w2,
      more2,
      (d, (hn, h, hw), hc),
      hw2,
      tag_bytes name a w bs rest (47 ∷ 62 ∷ more) same eq ∙ ap (λ x. start_text s ++ (47 ∷ 62 ∷ x)) eq2
          ∙ short_bytes s c tail,
      later,
    )
element (n ∷ ns) name bs hn d (
  a,
  rest,
  h,
  same,
  (w, more, hw, inr (eq, (c, w2, more2, hc, hw2, eq2, (c3, w3, more3, hc3, hw3, eq3, later)))),
) =
    let s : Start = start name a w in
    let tail : List ℕ = 60 ∷ 47 ∷ (n ++ (w3 ++ (62 ∷ more3))) in (
      long s c name w2 c3,
      w3,
      more3,
      (d, (hn, h, hw), hc, refl, hw2, hc3),
      hw3,
      tag_bytes name a w bs rest (62 ∷ more) same eq
          ∙ ap (λ x. start_text s ++ (62 ∷ x)) eq2
          ∙ ap (λ x. start_text s ++ (62 ∷ (text c ++ (60 ∷ 47 ∷ (name ++ (w2 ++ (62 ∷ x))))))) eq3
          ∙ sym (long_shape s c name w2 c3 tail),
      later,
    )

-- steps, backwards
pub choose : {G : Type 0} (c : Bool) (x y : Step) (s : State) → (c ≡ true → x ≡ Ok s → G) → (c ≡ false → y ≡ Ok s → G)
    → cond c x y ≡ Ok s → G
choose true x y s f g e = f refl e
choose false x y s f g e = g refl e

pub no : {G : Type 0} {f : TextFault} (s : State) → refused f ≡ Ok s → G
no s e = cc

arrives : (P : State → Type 0) (q : Phase) (r : Read) (s : State) → state q r ≡ Ok s → P s
    → P (record { phase = q; read = r })
arrives P q r s e h = let d : s ≡ record { phase = q; read = r } = cc in subst P d h

pub same_byte : (b k : ℕ) → eqb b k ≡ true → b ≡ k
same_byte b k e = grind (arith, nat_tests)

abbrev pub names_of : List Frame → List (List ℕ)
names_of [] = []
names_of (f ∷ fs) = f.name ∷ names_of fs

-- what may follow a state
abbrev After : List ℕ → State → Type 0
After bs s = Follows s.phase (names_of s.read.frames) bs

-- content goes on
more_content : (n : List ℕ) (ns : List (List ℕ)) (b : ℕ) (bs : List ℕ) → is_text b ≡ true → Later (n ∷ ns) bs
    → Later (n ∷ ns) (b ∷ bs)
more_content n ns b bs e (c, w, more, hc, hw, same, later) =
    (byte b c, w, more, (e, hc), hw, ap (λ x. b ∷ x) same, later)

more_before : (b : ℕ) (bs : List ℕ) → is_white b ≡ true → Inside [] bs → Inside [] (b ∷ bs)
more_before b bs e (d, h, same) = (
  record d { before = byte b d.before },
  ((e, h.0), h.1, h.2, h.3),
  ap (λ x. b ∷ x)
      same,
)

more_after : (b : ℕ) (bs : List ℕ) → is_white b ≡ true → Later [] bs → Later [] (b ∷ bs)
more_after b bs e (m, h, same) = (byte b m, (e, h), ap (λ x. b ∷ x) same)

dashes_push : (front : List ℕ) (count b : ℕ) → dashes_after count (front ++ b ∷ [])
    ≡ dashes (dashes_after count front) b
dashes_push [] count b = refl
dashes_push (c ∷ front) count b = dashes_push front (dashes count c) b

both_parts : (x y : Bool) → (not x && y) ≡ true → (x ≡ false) × (y ≡ true)
both_parts true y h = cc
both_parts false y h = (refl, h)

open_push : (front : List ℕ) (count b : ℕ) → stays_open count front ≡ true
    → (leb 2 (dashes_after count front) && eqb b 62) ≡ false → stays_open count (front ++ b ∷ []) ≡ true
open_push [] count b h e = rw e refl
open_push (c ∷ front) count b h e =
    let k = both_parts (leb 2 count && eqb c 62) (stays_open (dashes count c) front) h in
    rw k.0 (open_push front (dashes count c) b k.1 e)

-- a comment before what may follow: in content, before the outermost element, and after it
abbrev Commented : List ℕ → List ℕ → List ℕ
Commented inner bs = 60 ∷ 33 ∷ 45 ∷ 45 ∷ (inner ++ (62 ∷ bs))

comment_after : (inner bs : List ℕ) → IsComment inner → Later [] bs → Later [] (Commented inner bs)
comment_after inner bs h (m, hm, same) = (comment inner m, (h, hm), ap (Commented inner) same)

comment_inside : (ns : List (List ℕ)) (inner bs : List ℕ) → IsComment inner → Inside ns bs
    → Inside ns (Commented inner bs)
comment_inside [] inner bs h (d, hd, same) = (
  record d { before = comment inner d.before },
  ((h, hd.0), hd.1, hd.2, hd.3),
  ap (Commented inner) same ∙ ap (λ x. 60 ∷ 33 ∷ 45 ∷ 45 ∷ x)
      (sym (append_assoc inner (62 ∷ text d.before) (text d.root ++ text d.after))),
)
comment_inside (n ∷ ns) inner bs h (c, w, more, hc, hw, same, later) = (
  comment inner c,
  w,
  more,
  (h, hc),
  hw,
  ap (Commented inner) same ∙ ap (λ x. 60 ∷ 33 ∷ 45 ∷ 45 ∷ x)
      (sym (append_assoc inner (62 ∷ text c) (60 ∷ 47 ∷ (n ++ (w ++ (62 ∷ more)))))),
  later,
)

back_content : (frames : List Frame) (r : Read) (at b : ℕ) (bs : List ℕ) (s : State)
    → step_content frames (record r { frames = frames }) at b ≡ Ok s → After bs s → Inside (names_of frames) (b ∷ bs)
back_content [] r at b bs s e h =
    choose (eqb b 60) (state (opened at) (record r { frames = [] })) _ s
    (λ is here. subst (λ k. Inside [] (k ∷ bs)) (sym (same_byte b 60 is))
    (arrives (After bs) (opened at) (record r { frames = [] }) s here h))
    (λ _ there. choose (is_white b) (state content (record r { frames = [] })) _ s
    (λ is here. more_before b bs is (arrives (After bs) content (record r { frames = [] }) s here h))
    (λ _ here. no s here) there) e
back_content (f ∷ fs) r at b bs s e h =
    let q : Read = record r { frames = noted f at b ∷ fs } in
    choose (eqb b 60) (state (opened at) (record r { frames = f ∷ fs })) _ s
    (λ is here. subst (λ k. Inside (names_of (f ∷ fs)) (k ∷ bs)) (sym (same_byte b 60 is))
    (arrives (After bs) (opened at) (record r { frames = f ∷ fs }) s here h))
    (λ _ e1. choose (is_text b) (state content q) _ s
    (λ is here. more_content f.name (names_of fs) b bs is (arrives (After bs) content q s here h))
    (λ _ e2. choose (eqb b 38) (state (reference at in_text) q) _ s
    (λ is here. subst (λ k. Later (names_of (f ∷ fs)) (k ∷ bs)) (sym (same_byte b 38 is))
    (arrives (After bs) (reference at in_text) q s here h))
    (λ _ e3. choose (eqb b 239) (state (wide_1 in_text) q) _ s
    (λ is here. subst (λ k. Later (names_of (f ∷ fs)) (k ∷ bs)) (sym (same_byte b 239 is))
    (arrives (After bs) (wide_1 in_text) q s here h))
    (λ _ here. no s here) e3) e2) e1) e

length_names : (fs : List Frame) → length (names_of fs) ≡ length fs
length_names [] = refl
length_names (f ∷ fs) = ap suc (length_names fs)

back_opened : (frames : List Frame) (place : ℕ) (r : Read) (at b : ℕ) (bs : List ℕ) (s : State)
    → step_opened frames place (record r { frames = frames }) at b ≡ Ok s → After bs s
    → Inside (names_of frames) (60 ∷ b ∷ bs)
back_opened [] place r at b bs s e h =
    choose (is_first b) (state (start_name place (b ∷ [])) (record r { frames = [] })) _ s
    (λ is here. arrives (After bs) (start_name place (b ∷ [])) (record r { frames = [] }) s here h (is, tt)
    (omega arith))
    (λ _ there. choose (eqb b 33) (state (bang place early) (record r { frames = [] })) _ s
    (λ is here. subst (λ k. Inside [] (60 ∷ k ∷ bs)) (sym (same_byte b 33 is))
    (arrives (After bs) (bang place early) (record r { frames = [] }) s here h))
    (λ _ here. no s here) there) e
back_opened (f ∷ fs) place r at b bs s e h =
    let q : Read = record r { frames = f ∷ fs } in
    choose (is_first b) _ _ s
    (λ is there. choose (ltb (length (f ∷ fs)) 32) (state (start_name place (b ∷ [])) q) _ s
    (λ few here. arrives (After bs) (start_name place (b ∷ [])) q s here h (is, tt)
    (let d : length (f ∷ fs) < 32 = grind (arith, nat_tests) in
    subst (λ n. n < 32) (sym (length_names (f ∷ fs))) d))
    (λ _ here. no s here) there)
    (λ _ there. choose (eqb b 47) (state (shut_begin place) q) _ s
    (λ is here. subst (λ k. Inside (names_of (f ∷ fs)) (60 ∷ k ∷ bs)) (sym (same_byte b 47 is))
    (arrives (After bs) (shut_begin place) q s here h))
    (λ _ more. choose (eqb b 33) (state (bang place early) q) _ s
    (λ is here. subst (λ k. Inside (names_of (f ∷ fs)) (60 ∷ k ∷ bs)) (sym (same_byte b 33 is))
    (arrives (After bs) (bang place early) q s here h))
    (λ _ here. no s here) more) there) e

back_valued : (t : Tag) (r : Read) (at b : ℕ) (bs : List ℕ) (s : State) → step_valued t r at b ≡ Ok s → After bs s
    → InTag (names_of r.frames) t.name t.names (b ∷ bs)
back_valued t r at b bs s e h =
    choose (is_first b) _ _ s (λ _ here. no s here)
    (λ _ e1. choose (is_white b) (state (in_tag t) r) _ s
    (λ is here. arrives (After bs) (in_tag t) r s here h b is)
    (λ _ e2. choose (eqb b 47) (state (slash t) r) _ s
    (λ is here. let q = arrives (After bs) (slash t) r s here h in
    subst (λ k. InTag (names_of r.frames) t.name t.names (k ∷ bs)) (sym (same_byte b 47 is))
    (none, 47 ∷ bs, tt, refl, ([], q.0, tt, inl (ap (λ x. 47 ∷ x) q.1, q.2))))
    (λ _ e3. choose (eqb b 62) (state content (open_element t r (at + 1))) _ s
    (λ is here. let q = arrives (After bs) content (open_element t r (at + 1)) s here h in
    subst (λ k. InTag (names_of r.frames) t.name t.names (k ∷ bs)) (sym (same_byte b 62 is))
    (none, 62 ∷ bs, tt, refl, ([], bs, tt, inr (refl, q))))
    (λ _ here. no s here) e3) e2) e1) e

back_named : (t : Tag) (place : ℕ) (name : List ℕ) (r : Read) (at b : ℕ) (bs : List ℕ) (s : State)
    → step_named t place name r at b ≡ Ok s → After bs s → Follows (named t place name) (names_of r.frames) (b ∷ bs)
back_named t place name r at b bs s e h =
    choose (is_white b) (state (named t place name) r) _ s
    (λ is here hn new c hc w hw.
    let q = arrives (After bs) (named t place name) r s here h hn new c hc (w ++ b ∷ [])
    (all_push is_white w b hw is) in
    subst (λ (x : List ℕ). InTag (names_of r.frames) t.name t.names (c ∷ (name ++ x))) (append_assoc w (b ∷ []) bs) q)
    (λ _ there. choose (eqb b 61) (state (equals t place name) r) _ s
    (λ is here hn new c hc w hw. subst (λ k. InTag (names_of r.frames) t.name t.names (c ∷ (name ++ (w ++ (k ∷ bs)))))
    (sym (same_byte b 61 is)) (arrives (After bs) (equals t place name) r s here h hn new c hc w hw [] tt))
    (λ _ here. no s here) there) e

later_from : (fs : List Frame) (bs : List ℕ) → Follows (resume fs) (names_of fs) bs → Later (names_of fs) bs
later_from [] bs h = h
later_from (f ∷ fs) bs h = h

back_shut : (frames : List Frame) (place : ℕ) (name : List ℕ) (r : Read) (at b : ℕ) (bs : List ℕ) (s : State)
    → step_shut frames place name (record r { frames = frames }) at b ≡ Ok s → After bs s
    → Follows (shut_gap place name) (names_of frames) (b ∷ bs)
back_shut [] place name r at b bs s e h = no s e
back_shut (f ∷ fs) place name r at b bs s e h =
    let q : Read = record r { frames = f ∷ fs } in
    choose (is_white b) (state (shut_gap place name) q) _ s
    (λ is here w hw.
    let k = arrives (After bs) (shut_gap place name) q s here h (w ++ b ∷ []) (all_push is_white w b hw is) in
    subst (λ (x : List ℕ). Inside (names_of (f ∷ fs)) (60 ∷ 47 ∷ (name ++ x))) (append_assoc w (b ∷ []) bs) k)
    (λ _ e1. choose (eqb b 62) _ _ s
    (λ is e2. choose (bytes_eq name f.name) (state (resume fs) (close_element f fs q place)) _ s
    (λ same here w hw.
    let k = later_from fs bs (arrives (After bs) (resume fs) (close_element f fs q place) s here h) in
    let is_same : name ≡ f.name = (bytes_eq-Decides name f.name).0 same in (
      nothing,
      w,
      bs,
      tt,
      hw,
      ap (λ (x : List ℕ). 60 ∷ 47 ∷ (x ++ (w ++ (b ∷ bs)))) is_same
          ∙ ap (λ x. 60 ∷ 47 ∷ (f.name ++ (w ++ (x ∷ bs)))) (same_byte b 62 is),
      k,
    ))
    (λ _ here. no s here) e2)
    (λ _ here. no s here) e1) e

comment_at : (place : Region) (ns : List (List ℕ)) (inner bs : List ℕ) → IsComment inner → Follows (phase_of place) ns bs
    → AtPlace place ns (Commented inner bs)
comment_at early ns inner bs h k = comment_inside ns inner bs h k
comment_at late ns inner bs h k = comment_after inner bs h k

back_comment : (place : Region) (ns : List (List ℕ)) (front : List ℕ) (b : ℕ) (bs : List ℕ) (count : ℕ)
    → stays_open 0 front ≡ true → dashes_after 0 front ≡ count → (leb 2 count && eqb b 62) ≡ true
    → Follows (phase_of place) ns bs → AtPlace place ns (60 ∷ 33 ∷ 45 ∷ 45 ∷ (front ++ (b ∷ bs)))
back_comment place ns front b bs count stays same is k =
    let e = and_parts (leb 2 count) (eqb b 62) is in
    let least : 2 ≤ dashes_after 0 front = subst (λ n. 2 ≤ n) (sym same)
    (let l : 2 ≤ count = grind (arith, nat_tests, e.0) in l) in
    subst (λ n. AtPlace place ns (60 ∷ 33 ∷ 45 ∷ 45 ∷ (front ++ (n ∷ bs)))) (sym (same_byte b 62 e.1))
    (comment_at place ns front bs (stays, least) k)

-- one more byte, or one more piece, at the end of a value
abbrev with_plain : Value → ℕ → Value
with_plain done b = plain b done
with_plain (plain c v) b = plain c (with_plain v b)
with_plain (piece_of x v) b = piece_of x (with_plain v b)

abbrev with_piece : Value → Piece → Value
with_piece done u = piece_of u done
with_piece (plain c v) u = plain c (with_piece v u)
with_piece (piece_of x v) u = piece_of x (with_piece v u)

plain_text : (v : Value) (b : ℕ) (bs : List ℕ) → value_text (with_plain v b) ++ bs ≡ value_text v ++ (b ∷ bs)
plain_text done b bs = refl
plain_text (plain c v) b bs = ap (λ x. c ∷ x) (plain_text v b bs)
plain_text (piece_of x v) b bs =
    append_assoc (piece_text x) (value_text (with_plain v b)) bs ∙ ap (λ y. piece_text x ++ y) (plain_text v b bs)
    ∙ sym (append_assoc (piece_text x) (value_text v) (b ∷ bs))

is_plain : (quote : ℕ) (v : Value) (b : ℕ) → IsValue quote v → is_quoted quote b ≡ true → IsValue quote (with_plain v b)
is_plain quote done b h e = (e, tt)
is_plain quote (plain c v) b h e = (h.0, is_plain quote v b h.1 e)
is_plain quote (piece_of x v) b h e = (h.0, is_plain quote v b h.1 e)

pieces_text : (v : Value) (u : Piece) (bs : List ℕ)
    → value_text (with_piece v u) ++ bs ≡ value_text v ++ (piece_text u ++ bs)
pieces_text done u bs = append_assoc (piece_text u) [] bs
pieces_text (plain c v) u bs = ap (λ x. c ∷ x) (pieces_text v u bs)
pieces_text (piece_of x v) u bs =
    append_assoc (piece_text x) (value_text (with_piece v u)) bs ∙ ap (λ y. piece_text x ++ y) (pieces_text v u bs)
    ∙ sym (append_assoc (piece_text x) (value_text v) (piece_text u ++ bs))

is_pieces : (quote : ℕ) (v : Value) (u : Piece) → IsValue quote v → IsPiece u → IsValue quote (with_piece v u)
is_pieces quote done u h e = (e, tt)
is_pieces quote (plain c v) u h e = (h.0, is_pieces quote v u h.1 e)
is_pieces quote (piece_of x v) u h e = (h.0, is_pieces quote v u h.1 e)

plain_before : (t : Tag) (name : List ℕ) (quote : ℕ) (ns : List (List ℕ)) (b : ℕ) (bs : List ℕ)
    → is_quoted quote b ≡ true → ValueRest t name quote ns bs → ValueRest t name quote ns (b ∷ bs)
plain_before t name quote ns b bs e h = λ hn new hq c hc w hw v hv u hu.
    subst (λ (x : List ℕ). InTag ns t.name t.names (c ∷ (name ++ (w ++ (61 ∷ (v ++ (quote ∷ x))))))) (plain_text u b bs)
    (h hn new hq c hc w hw v hv (with_plain u b) (is_plain quote u b hu e))

piece_before : (w : Within) (ns : List (List ℕ)) (u : Piece) (bs : List ℕ) → IsPiece u → Follows (after_piece w) ns bs
    → AtWithin w ns (piece_text u ++ bs)
piece_before in_text [] u bs h k = tt
piece_before in_text (n ∷ ns) u bs h (c, w, more, hc, hw, same, later) = (
  piece u c,
  w,
  more,
  (h, hc),
  hw,
  ap (λ x. piece_text u ++ x) same
      ∙ sym (append_assoc (piece_text u) (text c) (60 ∷ 47 ∷ (n ++ (w ++ (62 ∷ more))))),
  later,
)
piece_before (in_quotes t place name quote from) ns u bs h k = λ hn new hq c hc w hw v hv x hx.
    subst (λ (y : List ℕ). InTag ns t.name t.names (c ∷ (name ++ (w ++ (61 ∷ (v ++ (quote ∷ y)))))))
    (pieces_text x u bs) (k hn new hq c hc w hw v hv (with_piece x u) (is_pieces quote x u hx h))

number_push : (base : ℕ) (ds : List ℕ) (n b : ℕ)
    → number_from base n (ds ++ b ∷ []) ≡ number_from base n ds * base + digit b
number_push base [] n b = refl
number_push base (d ∷ ds) n b = number_push base ds (n * base + digit d) b

pub digits_push : (test : ℕ → Bool) (ds : List ℕ) (b : ℕ) → AreDigits test ds → test b ≡ true
    → AreDigits test (ds ++ b ∷ [])
digits_push test [] b h e = absurd h
digits_push test (d ∷ ds) b h e = (h.0, all_push test ds b h.1 e)

back_word : (place : ℕ) (ks : List ℕ) (w : Within) (r : Read) (b : ℕ) (bs : List ℕ) (s : State)
    → step_word place ks w r b ≡ Ok s → After bs s → Follows (word place ks w) (names_of r.frames) (b ∷ bs)
back_word place [] w r b bs s e h = no s e
back_word place (k ∷ []) w r b bs s e h =
    choose (eqb b k) (state (after_piece w) r) _ s
    (λ is here x front same.
    let q = piece_before w (names_of r.frames) (named_entity x) bs tt (arrives (After bs) (after_piece w) r s here h) in
    subst (λ i. AtWithin w (names_of r.frames) (38 ∷ (front ++ (i ∷ bs)))) (sym (same_byte b k is))
    (subst (λ (y : List ℕ). AtWithin w (names_of r.frames) (38 ∷ y))
    (ap (λ y. y ++ bs) (sym same) ∙ append_assoc front (k ∷ []) bs) q))
    (λ _ here. no s here) e
back_word place (k ∷ l ∷ ks) w r b bs s e h =
    choose (eqb b k) (state (word place (l ∷ ks) w) r) _ s
    (λ is here x front same.
    let q = arrives (After bs) (word place (l ∷ ks) w) r s here h x (front ++ k ∷ [])
    (append_assoc front (k ∷ []) (l ∷ ks) ∙ same) in
    subst (λ i. AtWithin w (names_of r.frames) (38 ∷ (front ++ (i ∷ bs)))) (sym (same_byte b k is))
    (subst (λ (y : List ℕ). AtWithin w (names_of r.frames) (38 ∷ y)) (append_assoc front (k ∷ []) bs) q))
    (λ _ here. no s here) e

without_declaration : (bs : List ℕ) → Inside [] bs → Declarable bs
without_declaration bs (y, h, same) = (undeclared, y, tt, h, same)

without_mark : (bs : List ℕ) → Declarable bs → Whole bs
without_mark bs (x, y, h, k, same) = (record { mark = unmarked; declaration = x; body = y }, (h, k), same)

with_mark : (bs : List ℕ) → Declarable bs → Whole (239 ∷ 187 ∷ 191 ∷ bs)
with_mark bs (x, y, h, k, same) = (
  record { mark = marked; declaration = x; body = y },
  (h, k),
  ap (λ x. 239 ∷ 187 ∷ 191 ∷ x) same,
)

back_declaration : (r : Read) (at b : ℕ) (bs : List ℕ) (s : State) → step_declaration r at b ≡ Ok s → After bs s
    → Declarable (b ∷ bs)
back_declaration r at b bs s e h =
    choose (eqb b 60) (state (declared_open at) r) _ s
    (λ is here. subst (λ k. Declarable (k ∷ bs)) (sym (same_byte b 60 is))
    (arrives (After bs) (declared_open at) r s here h))
    (λ _ there. choose (is_white b) (state content (closed r)) _ s
    (λ is here. without_declaration (b ∷ bs) (more_before b bs is (arrives (After bs) content (closed r) s here h)))
    (λ _ here. no s here) there) e

back_question : (ks : List ℕ) (r : Read) (at b : ℕ) (bs : List ℕ) (s : State) → step_question ks r at b ≡ Ok s
    → After bs s → Follows (question ks) (names_of r.frames) (b ∷ bs)
back_question [] r at b bs s e h =
    choose (is_white b) (state (in_declaration false) r) _ s
    (λ is here front same.
    let q = arrives (After bs) (in_declaration false) r s here h b is [] refl refl in
    subst (λ (x : List ℕ). Declarable (x ++ (b ∷ bs))) (sym same ∙ append-nil front) q)
    (λ _ here. no s here) e
back_question (k ∷ ks) r at b bs s e h =
    choose (eqb b k) (state (question ks) r) _ s
    (λ is here front same.
    let q = arrives (After bs) (question ks) r s here h (front ++ k ∷ []) (append_assoc front (k ∷ []) ks ∙ same) in
    subst (λ n. Declarable (front ++ (n ∷ bs))) (sym (same_byte b k is))
    (subst (λ (x : List ℕ). Declarable x) (append_assoc front (k ∷ []) bs) q))
    (λ _ here. no s here) e

declared_push : (front : List ℕ) (seen : Bool) (b : ℕ) → question_after seen (front ++ b ∷ []) ≡ eqb b 63
declared_push [] seen b = refl
declared_push (c ∷ front) seen b = declared_push front (eqb c 63) b

stays_push : (front : List ℕ) (seen : Bool) (b : ℕ) → stays_declared seen front ≡ true
    → (question_after seen front && eqb b 62) ≡ false → stays_declared seen (front ++ b ∷ []) ≡ true
stays_push [] seen b h e = rw e refl
stays_push (c ∷ front) seen b h e =
    let k = both_parts (seen && eqb c 62) (stays_declared (eqb c 63) front) h in
    rw k.0 (stays_push front (eqb c 63) b k.1 e)

declare : (w : ℕ) (inner bs : List ℕ) → is_white w ≡ true → IsDeclared inner → Inside [] bs
    → Declarable (declaration_start ++ (w ∷ (inner ++ (62 ∷ bs))))
declare w inner bs hw h (y, k, same) = (
  declared w inner,
  y,
  (hw, h),
  k,
  ap (λ x. declaration_start ++ (w ∷ (inner ++ (62 ∷ x)))) same
      ∙ sym (declaration_shape w inner (body_text y)),
)

back_declared : (seen : Bool) (r : Read) (b : ℕ) (bs : List ℕ) (s : State)
    → cond (seen && eqb b 62) (state content (closed r)) (state (in_declaration (eqb b 63)) r) ≡ Ok s → After bs s
    → Follows (in_declaration seen) (names_of r.frames) (b ∷ bs)
back_declared seen r b bs s e h =
    choose (seen && eqb b 62) (state content (closed r)) (state (in_declaration (eqb b 63)) r) s
    (λ is here w hw front stays same.
    let k = and_parts seen (eqb b 62) is in
    subst (λ n. Declarable (declaration_start ++ (w ∷ (front ++ (n ∷ bs))))) (sym (same_byte b 62 k.1))
    (declare w front bs hw (stays, same ∙ k.0) (arrives (After bs) content (closed r) s here h)))
    (λ isnt here w hw front stays same.
    let q = arrives (After bs) (in_declaration (eqb b 63)) r s here h w hw (front ++ b ∷ [])
    (stays_push front false b stays (ap (λ v. v && eqb b 62) same ∙ isnt)) (declared_push front false b) in
    subst (λ (x : List ℕ). Declarable (declaration_start ++ (w ∷ x))) (append_assoc front (b ∷ []) bs) q) e

-- no text goes on with a word that is not supported
back_other : (place first : ℕ) (ks : List ℕ) (r : Read) (b : ℕ) (bs : List ℕ) (s : State)
    → step_other_word place first ks r b ≡ Ok s → After bs s → ⊥
back_other place first [] r b bs s e h = no s e
back_other place first (k ∷ ks) r b bs s e h =
    choose (eqb b k) (state (other_word place first ks) r) _ s
    (λ _ here. arrives (After bs) (other_word place first ks) r s here h)
    (λ _ here. no s here) e

-- a number after which a text goes on gives a character
numbered : (place : ℕ) (w : Within) (ns : List (List ℕ)) (bs : List ℕ) (v : Bool)
    → Follows (cond v (after_piece w) (no_character place)) ns bs → (v ≡ true) × Follows (after_piece w) ns bs
numbered place w ns bs true h = (refl, h)
numbered place w ns bs false h = absurd h

back : (p : Phase) (r : Read) (at b : ℕ) (bs : List ℕ) (s : State) → step p r at b ≡ Ok s → After bs s
    → Follows p (names_of r.frames) (b ∷ bs)
back beginning r at b bs s e h =
    choose (eqb b 239) (state mark_1 r) _ s
    (λ is here. subst (λ k. Whole (k ∷ bs)) (sym (same_byte b 239 is)) (arrives (After bs) mark_1 r s here h))
    (λ _ there. without_mark (b ∷ bs) (back_declaration r at b bs s there h)) e
back mark_1 r at b bs s e h =
    choose (eqb b 187) (state mark_2 r) _ s
    (λ is here. subst (λ k. Whole (239 ∷ k ∷ bs)) (sym (same_byte b 187 is)) (arrives (After bs) mark_2 r s here h))
    (λ _ here. no s here) e
back mark_2 r at b bs s e h =
    choose (eqb b 191) (state at_declaration r) _ s
    (λ is here. subst (λ k. Whole (239 ∷ 187 ∷ k ∷ bs)) (sym (same_byte b 191 is))
    (with_mark bs (arrives (After bs) at_declaration r s here h)))
    (λ _ here. no s here) e
back at_declaration r at b bs s e h = back_declaration r at b bs s e h
back (declared_open place) r at b bs s e h =
    choose (eqb b 63) (state (question (120 ∷ 109 ∷ 108 ∷ [])) r) _ s
    (λ is here. subst (λ k. Declarable (60 ∷ k ∷ bs)) (sym (same_byte b 63 is))
    (arrives (After bs) (question (120 ∷ 109 ∷ 108 ∷ [])) r s here h (60 ∷ 63 ∷ []) refl))
    (λ _ there. without_declaration (60 ∷ b ∷ bs) (back_opened [] place r at b bs s there h)) e
back (question ks) r at b bs s e h = back_question ks r at b bs s e h
back (in_declaration seen) r at b bs s e h = back_declared seen r b bs s e h
back content r at b bs s e h = back_content r.frames r at b bs s e h
back ended r at b bs s e h =
    choose (is_white b) (state ended r) _ s
    (λ is here. more_after b bs is (arrives (After bs) ended r s here h))
    (λ _ there. choose (eqb b 60) (state (ended_open at) r) _ s
    (λ is here. subst (λ k. Later [] (k ∷ bs)) (sym (same_byte b 60 is))
    (arrives (After bs) (ended_open at) r s here h))
    (λ _ here. no s here) there) e
back (ended_open place) r at b bs s e h =
    choose (eqb b 33) (state (bang place late) r) _ s
    (λ is here. subst (λ k. Later [] (60 ∷ k ∷ bs)) (sym (same_byte b 33 is))
    (arrives (After bs) (bang place late) r s here h))
    (λ _ here. no s here) e
back (bang place p) r at b bs s e h =
    choose (eqb b 45) (state (bang_dash p) r) _ s
    (λ is here. subst (λ k. AtPlace p (names_of r.frames) (60 ∷ 33 ∷ k ∷ bs)) (sym (same_byte b 45 is))
    (arrives (After bs) (bang_dash p) r s here h))
    (λ _ e1. choose (eqb b 68) (state (other_word place at (79 ∷ 67 ∷ 84 ∷ 89 ∷ 80 ∷ 69 ∷ [])) r) _ s
    (λ _ here. absurd (arrives (After bs) (other_word place at (79 ∷ 67 ∷ 84 ∷ 89 ∷ 80 ∷ 69 ∷ [])) r s here h))
    (λ _ e2. choose (eqb b 91) (state (other_word place at (67 ∷ 68 ∷ 65 ∷ 84 ∷ 65 ∷ 91 ∷ [])) r) _ s
    (λ _ here. absurd (arrives (After bs) (other_word place at (67 ∷ 68 ∷ 65 ∷ 84 ∷ 65 ∷ 91 ∷ [])) r s here h))
    (λ _ here. no s here) e2) e1) e
back (other_word place first ks) r at b bs s e h = back_other place first ks r b bs s e h
back (bang_dash p) r at b bs s e h =
    choose (eqb b 45) (state (in_comment p 0) r) _ s
    (λ is here. subst (λ k. AtPlace p (names_of r.frames) (60 ∷ 33 ∷ 45 ∷ k ∷ bs)) (sym (same_byte b 45 is))
    (arrives (After bs) (in_comment p 0) r s here h [] refl refl))
    (λ _ here. no s here) e
back (in_comment p count) r at b bs s e h =
    choose (leb 2 count && eqb b 62) (state (phase_of p) r) (state (in_comment p (dashes count b)) r) s
    (λ is here front stays same. back_comment p (names_of r.frames) front b bs count stays same is
    (arrives (After bs) (phase_of p) r s here h))
    (λ isnt here front stays same.
    let q = arrives (After bs) (in_comment p (dashes count b)) r s here h (front ++ b ∷ [])
    (open_push front 0 b stays (ap (λ k. leb 2 k && eqb b 62) same ∙ isnt))
    (dashes_push front 0 b ∙ ap (λ k. dashes k b) same) in
    subst (λ (x : List ℕ). AtPlace p (names_of r.frames) (60 ∷ 33 ∷ 45 ∷ 45 ∷ x)) (append_assoc front (b ∷ []) bs) q) e
back (opened place) r at b bs s e h = back_opened r.frames place r at b bs s e h
back (start_name place name) r at b bs s e h =
    choose (is_name b) (state (start_name place (name ++ b ∷ [])) r) _ s
    (λ is here hn d.
    let q = arrives (After bs) (start_name place (name ++ b ∷ [])) r s here h (name_push name b hn is) d in
    subst (λ (x : List ℕ). Inside (names_of r.frames) (60 ∷ x)) (append_assoc name (b ∷ []) bs) q)
    (λ _ there. choose (eqb b 58) _ (step_valued (start_of place name r) r at b) s
    (λ _ here. no s here)
    (λ _ on hn d. element (names_of r.frames) name (b ∷ bs) hn d (back_valued (start_of place name r) r at b bs s on h))
    there) e
back (valued t) r at b bs s e h = back_valued t r at b bs s e h
back (in_tag t) r at b bs s e h =
    choose (is_first b) (state (attribute_name t at (b ∷ [])) r) _ s
    (λ is here c hc. arrives (After bs) (attribute_name t at (b ∷ [])) r s here h (is, tt) c hc)
    (λ _ there c hc. widen (names_of r.frames) t.name t.names c (b ∷ bs) hc (back_valued t r at b bs s there h)) e
back (slash t) r at b bs s e h =
    choose (eqb b 62) (state (resume r.frames) (add_node r (opened_row t r (at + 1)))) _ s
    (λ is here. (
      bs,
      ap (λ x. x ∷ bs) (same_byte b 62 is),
      later_from r.frames bs
          (arrives (After bs) (resume r.frames) (add_node r (opened_row t r (at + 1))) s here h),
    ))
    (λ _ here. no s here) e
back (attribute_name t place name) r at b bs s e h =
    choose (is_name b) (state (attribute_name t place (name ++ b ∷ [])) r) _ s
    (λ is here hn c hc.
    let q = arrives (After bs) (attribute_name t place (name ++ b ∷ [])) r s here h (name_push name b hn is) c hc in
    subst (λ (x : List ℕ). InTag (names_of r.frames) t.name t.names (c ∷ x)) (append_assoc name (b ∷ []) bs) q)
    (λ _ there. choose (has_name name t.names) _ _ s
    (λ _ here. no s here)
    (λ new on. choose (eqb b 58) _ (step_named t place name r at b) s
    (λ _ here. no s here)
    (λ _ here hn c hc. back_named t place name r at b bs s here h hn new c hc [] tt) on) there) e
back (named t place name) r at b bs s e h = back_named t place name r at b bs s e h
back (equals t place name) r at b bs s e h =
    choose (is_white b) (state (equals t place name) r) _ s
    (λ is here hn new c hc w hw v hv.
    let q = arrives (After bs) (equals t place name) r s here h hn new c hc w hw (v ++ b ∷ [])
    (all_push is_white v b hv is) in
    subst (λ (x : List ℕ). InTag (names_of r.frames) t.name t.names (c ∷ (name ++ (w ++ (61 ∷ x)))))
    (append_assoc v (b ∷ []) bs) q)
    (λ _ there. choose (is_quote b) (state (in_value t place name b (at + 1)) r) _ s
    (λ is here hn new c hc w hw v hv. arrives (After bs) (in_value t place name b (at + 1)) r s here h hn new is c hc w
    hw v hv done tt)
    (λ _ here. no s here) there) e
back (in_value t place name quote from) r at b bs s e h =
    let w : Within = in_quotes t place name quote from in
    let q : Read = record r { attributes = r.attributes ++ attribute_row place name from at ∷ [] } in
    choose (is_quoted quote b) (state (in_value t place name quote from) r) _ s
    (λ is here. plain_before t name quote (names_of r.frames) b bs is
    (arrives (After bs) (in_value t place name quote from) r s here h))
    (λ _ e1. choose (eqb b quote) (state (valued (with_name t name)) q) _ s
    (λ is here hn new hq c hc x hx v hv u hu.
    let k = arrives (After bs) (valued (with_name t name)) q s here h in
    subst (λ k. InTag (names_of r.frames) t.name t.names
    (c ∷ (name ++ (x ++ (61 ∷ (v ++ (quote ∷ (value_text u ++ (k ∷ bs))))))))) (sym (same_byte b quote is))
    (more_attribute (names_of r.frames) t.name t.names c name x v quote u bs hc hn new hx hv hq hu k))
    (λ _ e2. choose (eqb b 38) (state (reference at w) r) _ s
    (λ is here. subst (λ k. AtWithin w (names_of r.frames) (k ∷ bs)) (sym (same_byte b 38 is))
    (arrives (After bs) (reference at w) r s here h))
    (λ _ e3. choose (eqb b 239) (state (wide_1 w) r) _ s
    (λ is here. subst (λ k. AtWithin w (names_of r.frames) (k ∷ bs)) (sym (same_byte b 239 is))
    (arrives (After bs) (wide_1 w) r s here h))
    (λ _ here. no s here) e3) e2) e1) e
back (wide_1 w) r at b bs s e h =
    choose (leb 128 b) (state (wide_2 (eqb b 191) w) r) _ s
    (λ is here. arrives (After bs) (wide_2 (eqb b 191) w) r s here h b is refl)
    (λ _ here. no s here) e
back (wide_2 greatest w) r at b bs s e h =
    choose (is_last greatest b) (state (after_piece w) r) _ s
    (λ is here c hc same. piece_before w (names_of r.frames) (wide c b) bs (hc, ap (λ v. is_last v b) same ∙ is)
    (arrives (After bs) (after_piece w) r s here h))
    (λ _ here. no s here) e
back (reference place w) r at b bs s e h =
    let put : (k : ℕ) → eqb b k ≡ true → AtWithin w (names_of r.frames) (38 ∷ k ∷ bs)
    → AtWithin w (names_of r.frames) (38 ∷ b ∷ bs) =
    λ k is. subst (λ k. AtWithin w (names_of r.frames) (38 ∷ k ∷ bs)) (sym (same_byte b k is)) in
    choose (eqb b 108) (state (word place (116 ∷ 59 ∷ []) w) r) _ s
    (λ is here. put 108 is (arrives (After bs) (word place (116 ∷ 59 ∷ []) w) r s here h less (108 ∷ []) refl))
    (λ _ e1. choose (eqb b 103) (state (word place (116 ∷ 59 ∷ []) w) r) _ s
    (λ is here. put 103 is (arrives (After bs) (word place (116 ∷ 59 ∷ []) w) r s here h greater (103 ∷ []) refl))
    (λ _ e2. choose (eqb b 113) (state (word place (117 ∷ 111 ∷ 116 ∷ 59 ∷ []) w) r) _ s
    (λ is here. put 113 is (arrives (After bs) (word place (117 ∷ 111 ∷ 116 ∷ 59 ∷ []) w) r s here h quotation
    (113 ∷ []) refl))
    (λ _ e3. choose (eqb b 97) (state (reference_a place w) r) _ s
    (λ is here. put 97 is (arrives (After bs) (reference_a place w) r s here h))
    (λ _ e4. choose (eqb b 35) (state (hash place w) r) _ s
    (λ is here. put 35 is (arrives (After bs) (hash place w) r s here h))
    (λ _ here. no s here) e4) e3) e2) e1) e
back (reference_a place w) r at b bs s e h =
    let put : (k : ℕ) → eqb b k ≡ true → AtWithin w (names_of r.frames) (38 ∷ 97 ∷ k ∷ bs)
    → AtWithin w (names_of r.frames) (38 ∷ 97 ∷ b ∷ bs) =
    λ k is. subst (λ k. AtWithin w (names_of r.frames) (38 ∷ 97 ∷ k ∷ bs)) (sym (same_byte b k is)) in
    choose (eqb b 109) (state (word place (112 ∷ 59 ∷ []) w) r) _ s
    (λ is here. put 109 is (arrives (After bs) (word place (112 ∷ 59 ∷ []) w) r s here h ampersand (97 ∷ 109 ∷ [])
    refl))
    (λ _ e1. choose (eqb b 112) (state (word place (111 ∷ 115 ∷ 59 ∷ []) w) r) _ s
    (λ is here. put 112 is (arrives (After bs) (word place (111 ∷ 115 ∷ 59 ∷ []) w) r s here h apostrophe
    (97 ∷ 112 ∷ []) refl))
    (λ _ here. no s here) e1) e
back (word place ks w) r at b bs s e h = back_word place ks w r b bs s e h
back (hash place w) r at b bs s e h =
    choose (eqb b 120) (state (hash_x place w) r) _ s
    (λ is here. subst (λ k. AtWithin w (names_of r.frames) (38 ∷ 35 ∷ k ∷ bs)) (sym (same_byte b 120 is))
    (arrives (After bs) (hash_x place w) r s here h))
    (λ _ e1. choose (is_decimal b) (state (in_decimal place (digit b) w) r) _ s
    (λ is here. arrives (After bs) (in_decimal place (digit b) w) r s here h (b ∷ []) (is, tt)
    (let z : 0 * 10 + digit b ≡ digit b = omega arith in z))
    (λ _ here. no s here) e1) e
back (hash_x place w) r at b bs s e h =
    choose (is_hexadecimal b) (state (in_hexadecimal place (digit b) w) r) _ s
    (λ is here. arrives (After bs) (in_hexadecimal place (digit b) w) r s here h (b ∷ []) (is, tt)
    (let z : 0 * 16 + digit b ≡ digit b = omega arith in z))
    (λ _ here. no s here) e
back (in_decimal place n w) r at b bs s e h =
    choose (is_decimal b) (state (in_decimal place (n * 10 + digit b) w) r) _ s
    (λ is here ds hds same.
    let q = arrives (After bs) (in_decimal place (n * 10 + digit b) w) r s here h (ds ++ b ∷ [])
    (digits_push is_decimal ds b hds is) (number_push 10 ds 0 b ∙ ap (λ i. i * 10 + digit b) same) in
    subst (λ (x : List ℕ). AtWithin w (names_of r.frames) (38 ∷ 35 ∷ x)) (append_assoc ds (b ∷ []) bs) q)
    (λ _ e1. choose (eqb b 59) (state (after_number place n w) r) _ s
    (λ is here ds hds same.
    let k = numbered place w (names_of r.frames) bs (is_character n)
    (arrives (After bs) (after_number place n w) r s here h) in
    subst (λ i. AtWithin w (names_of r.frames) (38 ∷ 35 ∷ (ds ++ (i ∷ bs)))) (sym (same_byte b 59 is))
    (subst (λ (x : List ℕ). AtWithin w (names_of r.frames) (38 ∷ 35 ∷ x)) (append_assoc ds (59 ∷ []) bs)
    (piece_before w (names_of r.frames) (decimal ds) bs (hds, ap is_character same ∙ k.0) k.1)))
    (λ _ here. no s here) e1) e
back (in_hexadecimal place n w) r at b bs s e h =
    choose (is_hexadecimal b) (state (in_hexadecimal place (n * 16 + digit b) w) r) _ s
    (λ is here ds hds same.
    let q = arrives (After bs) (in_hexadecimal place (n * 16 + digit b) w) r s here h (ds ++ b ∷ [])
    (digits_push is_hexadecimal ds b hds is) (number_push 16 ds 0 b ∙ ap (λ i. i * 16 + digit b) same) in
    subst (λ (x : List ℕ). AtWithin w (names_of r.frames) (38 ∷ 35 ∷ 120 ∷ x)) (append_assoc ds (b ∷ []) bs) q)
    (λ _ e1. choose (eqb b 59) (state (after_number place n w) r) _ s
    (λ is here ds hds same.
    let k = numbered place w (names_of r.frames) bs (is_character n)
    (arrives (After bs) (after_number place n w) r s here h) in
    subst (λ i. AtWithin w (names_of r.frames) (38 ∷ 35 ∷ 120 ∷ (ds ++ (i ∷ bs)))) (sym (same_byte b 59 is))
    (subst (λ (x : List ℕ). AtWithin w (names_of r.frames) (38 ∷ 35 ∷ 120 ∷ x)) (append_assoc ds (59 ∷ []) bs)
    (piece_before w (names_of r.frames) (hexadecimal ds) bs (hds, ap is_character same ∙ k.0) k.1)))
    (λ _ here. no s here) e1) e
back (no_character place) r at b bs s e h = no s e
back (shut_begin place) r at b bs s e h =
    choose (is_first b) (state (shut place (b ∷ [])) r) _ s
    (λ _ here. arrives (After bs) (shut place (b ∷ [])) r s here h) (λ _ here. no s here) e
back (shut place name) r at b bs s e h =
    choose (is_name b) (state (shut place (name ++ b ∷ [])) r) _ s
    (λ _ here.
    let q = arrives (After bs) (shut place (name ++ b ∷ [])) r s here h in
    subst (λ (x : List ℕ). Inside (names_of r.frames) (60 ∷ 47 ∷ x)) (append_assoc name (b ∷ []) bs) q)
    (λ _ there. choose (eqb b 58) _ (step_shut r.frames place name r at b) s
    (λ _ here. no s here)
    (λ _ on. back_shut r.frames place name r at b bs s on h [] tt) there) e
back (shut_gap place name) r at b bs s e h = back_shut r.frames place name r at b bs s e h

went_on : (x : Step) (f : State → Outcome) (rows : Rows) → and_then x f ≡ Ok rows
    → (s : State) × (x ≡ Ok s) × (f s ≡ Ok rows)
went_on (Ok s) f rows e = (s, refl, e)
went_on (Err d) f rows e = cc

at_end : (p : Phase) (r : Read) (at : ℕ) (rows : Rows) → finish p r at ≡ Ok rows → Follows p (names_of r.frames) []
at_end ended r at rows e = (nothing, tt, refl)
at_end _ r at rows e = cc

follows : (bs : List ℕ) (p : Phase) (r : Read) (at : ℕ) (rows : Rows) → run p r at bs ≡ Ok rows
    → Follows p (names_of r.frames) bs
follows [] p r at rows e = at_end p r at rows e
follows (b ∷ bs) p r at rows e =
    let w = went_on (step p r at b) (λ s. run s.phase s.read (at + 1) bs) rows e in
    back p r at b bs w.0 w.1 (follows bs w.0.phase w.0.read (at + 1) rows w.2)

-- what the machine reads is a document
pub document_from : (bytes : List ℕ) (rows : Rows) → outcome_of bytes ≡ Ok rows
    → (d : Document) × IsDocument d × (bytes ≡ spelling d)
document_from bytes rows e = follows bytes beginning (record { frames = []; nodes = []; attributes = [] }) 0 rows e
