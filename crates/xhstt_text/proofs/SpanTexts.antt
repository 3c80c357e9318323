-- Each span of a tree that bytes spell is a text of the grammar.
use Rattle.std.proofs.Common.{◌≡◌, ℕ, ◌+◌, ◌<◌, suc, Bool, true, false, if◌then◌else◌, List, [], ◌∷◌, ◌++◌, length}
use Rattle.std.proofs.Common.{refl, inl, inr, sym, subst, ◌∙◌, arith, append_assoc, append-nil}
use Rattle.std.specs.Str.{IsUtf8}
use Rattle.std.proofs.lemmas.Bool.{cases_Bool}
use Rattle.std.proofs.lemmas.Bool.Decides.{nat_tests}
use Rattle.std.proofs.lemmas.Str.{IsUtf8-nil}
use Rattle.xhstt_text.specs.Bytes.{is_quote}
use Rattle.xhstt_text.specs.Document.{Value, value_text, Attributes, none, attribute, attributes_text, Content, nothing}
use Rattle.xhstt_text.specs.Document.{byte, piece, comment, short, long, text, start_length, AreAttributes, IsContent}
use Rattle.xhstt_text.specs.Document.{infos, has_element, forest_at, root_at, Document, Spelled, declaration_text}
use Rattle.xhstt_text.specs.Document.{mark_text}
use Rattle.xhstt_text.specs.Forest.{AttributeInfo, Forest, empty, node}
use Rattle.xhstt_text.specs.Spans.{IsValueAmong, IsAttributeIn, IsElementIn}
use Rattle.xhstt_text.specs.Units.{piece_text}
use Rattle.xhstt_text.specs.Unescape.{IsText, IsTextOf, IsValueOf}
use Rattle.xhstt_text.proofs.MeaningTexts.{cut}

-- a span is a text between two tags
pub record IsTextSpan (span : List ℕ) : Type 0 where
  pub content : Content
  pub is : IsTextOf span content

-- a span is the value of an attribute
pub record IsValueSpan (span : List ℕ) : Type 0 where
  pub quote : ℕ
  pub value : Value
  pub is : IsValueOf quote span value

abbrev pub AreValueSpans : List AttributeInfo → Type 0
AreValueSpans [] = Unit {0}
AreValueSpans (a ∷ more) = IsValueSpan a.value × AreValueSpans more

-- each span of a forest is a text
abbrev pub HasTexts : Forest → Type 0
HasTexts empty = Unit {0}
HasTexts (node i kids others) = IsTextSpan i.value × AreValueSpans i.attributes × HasTexts kids × HasTexts others

-- content without an element is text
text-in_form : (depth : ℕ) (c : Content) → IsContent depth c → has_element c ≡ false → IsText c
text-in_form depth nothing h e = tt
text-in_form depth (byte b c) h e = (h.0, text-in_form depth c h.1 e)
text-in_form depth (piece u c) h e = (h.0, text-in_form depth c h.1 e)
text-in_form depth (comment inner c) h e = (h.0, text-in_form depth c h.1 e)
text-in_form depth (short s c) h e = cc
text-in_form depth (long s inner shut white c) h e = cc

no_text : IsTextSpan []
no_text = record { content = nothing; is = record { utf8 = IsUtf8-nil; in_form = tt; spelled = refl } }

regroup : (a b c d : List ℕ) → a ++ (b ++ (c ++ d)) ≡ (a ++ (b ++ c)) ++ d
regroup a b c d = simp append_assoc

quote_ascii : (quote : ℕ) → is_quote quote ≡ true → quote < 128
quote_ascii quote h = grind (arith, nat_tests)

-- what stands before attributes, and what stands after them, is any
values_of : (at : ℕ) (earlier : List (List ℕ)) (front back : List ℕ) (given : Attributes) → AreAttributes earlier given
    → IsUtf8 (front ++ (attributes_text given ++ back)) → AreValueSpans (infos at given)
values_of at earlier front back none h u = tt
values_of at earlier front back (attribute gap name before after quote value more) h u =
    let low : quote < 128 = quote_ascii quote h.5 in
    let tail : List ℕ = attributes_text more ++ back in
    let apart : front ++ ((gap ++ (name ++ (before
    ++ (61 ∷ (after ++ (quote ∷ (value_text value ++ (quote ∷ attributes_text more)))))))) ++ back)
    ≡ (front ++ (gap ++ (name ++ before))) ++ (61 ∷ (after ++ (quote ∷ (value_text value ++ (quote ∷ tail))))) =
    simp append_assoc in
    let past_equals = (cut (front ++ (gap ++ (name ++ before)))
    (after ++ (quote ∷ (value_text value ++ (quote ∷ tail)))) 61 (omega arith) (subst IsUtf8 apart u)).1 in
    let past_quote = (cut after (value_text value ++ (quote ∷ tail)) quote low past_equals).1 in
    let both = cut (value_text value) tail quote low past_quote in (
      record { quote = quote; value = value; is = record { utf8 = both.0; in_form = h.6; spelled = refl } },
      values_of (at + length gap + length name + length before + 1 + length after + 1 + length (value_text value) + 1)
          (name ∷ earlier) [] back more h.7 both.1,
    )

text_inside : (depth : ℕ) (inner : Content) → IsContent depth inner → IsUtf8 (text inner)
    → IsTextSpan (if has_element inner then [] else text inner)
text_inside depth inner h u =
    let P : Bool → Type 0 = λ b. IsTextSpan (if b then [] else text inner) in
    elim (cases_Bool (has_element inner)) [
      | inl e ↦ subst P (sym e) no_text
      | inr e ↦
          let own : IsTextSpan (text inner) = record {
            content = inner;
            is =
                record { utf8 = u; in_form = text-in_form depth inner h e; spelled = refl };
          } in
          subst P (sym e) own
    ]

-- what stands before content, and what stands after it, is any
texts_of : (depth at : ℕ) (front back : List ℕ) (c : Content) → IsContent depth c → IsUtf8 (front ++ (text c ++ back))
    → HasTexts (forest_at at c)
texts_of depth at front back nothing h u = tt
texts_of depth at front back (byte b c) h u =
    texts_of depth (at + 1) (front ++ b ∷ []) back c h.1
    (subst IsUtf8 (sym (append_assoc front (b ∷ []) (text c ++ back))) u)
texts_of depth at front back (piece p c) h u =
    let apart : front ++ ((piece_text p ++ text c) ++ back) ≡ (front ++ piece_text p) ++ (text c ++ back) =
    simp append_assoc in
    texts_of depth (at + length (piece_text p)) (front ++ piece_text p) back c h.1 (subst IsUtf8 apart u)
texts_of depth at front back (comment inner c) h u =
    let start : List ℕ = 60 ∷ 33 ∷ 45 ∷ 45 ∷ (inner ++ 62 ∷ []) in
    let apart : front ++ ((60 ∷ 33 ∷ 45 ∷ 45 ∷ (inner ++ (62 ∷ text c))) ++ back) ≡ (front ++ start)
    ++ (text c ++ back) = simp append_assoc in
    texts_of depth (at + 4 + length inner + 1) (front ++ start) back c h.1 (subst IsUtf8 apart u)
texts_of depth at front back (short s c) h u =
    let tag : List ℕ = s.name ++ (attributes_text s.attributes ++ s.white) in
    let apart : front ++ (((60 ∷ tag) ++ (47 ∷ 62 ∷ text c)) ++ back) ≡ front
    ++ (60 ∷ (tag ++ (47 ∷ 62 ∷ (text c ++ back)))) = simp append_assoc in
    let past = cut front (tag ++ (47 ∷ 62 ∷ (text c ++ back))) 60 (omega arith) (subst IsUtf8 apart u) in
    let start = cut tag (62 ∷ (text c ++ back)) 47 (omega arith) past.1 in
    let later = (cut [] (text c ++ back) 62 (omega arith) start.1).1 in (
      no_text,
      values_of (at + 1 + length s.name) [] s.name s.white s.attributes h.1.1 start.0,
      tt,
      texts_of depth
          (at + start_length s + 2) [] back c h.2 later,
    )
texts_of depth at front back (long s inner shut white c) h u =
    let from : ℕ = at + start_length s + 1 in
    let tag : List ℕ = s.name ++ (attributes_text s.attributes ++ s.white) in
    let end : List ℕ = shut ++ (white ++ (62 ∷ (text c ++ back))) in
    let apart : front ++ (((60 ∷ tag) ++ (62 ∷ (text inner ++ (60 ∷ 47 ∷ (shut ++ (white ++ (62 ∷ text c))))))) ++ back)
    ≡ front ++ (60 ∷ (tag ++ (62 ∷ (text inner ++ (60 ∷ 47 ∷ end))))) = simp append_assoc in
    let past = cut front (tag ++ (62 ∷ (text inner ++ (60 ∷ 47 ∷ end)))) 60 (omega arith) (subst IsUtf8 apart u) in
    let start = cut tag (text inner ++ (60 ∷ 47 ∷ end)) 62 (omega arith) past.1 in
    let within = cut (text inner) (47 ∷ end) 60 (omega arith) start.1 in
    let ended : 47 ∷ end ≡ ((47 ∷ shut) ++ white) ++ (62 ∷ (text c ++ back)) = simp append_assoc in
    let later = (cut ((47 ∷ shut) ++ white) (text c ++ back) 62 (omega arith) (subst IsUtf8 ended within.1)).1 in
    let alone = subst IsUtf8 (sym (append-nil (text inner))) within.0 in (
      text_inside (suc depth) inner h.2 within.0,
      values_of (at + 1 + length s.name) [] s.name s.white s.attributes h.1.1
          start.0,
      texts_of (suc depth) from [] [] inner h.2 alone,
      texts_of depth
          (from + length (text inner) + 2 + length shut + length white + 1) [] back c h.5 later,
    )

pub HasTexts-spelled : (bytes : List ℕ) (f : Forest) → Spelled bytes f → HasTexts f
HasTexts-spelled bytes f h =
    let d : Document = h.0 in
    let mark : List ℕ = mark_text d.mark in
    let declaration : List ℕ = declaration_text d.declaration in
    let before : List ℕ = text d.body.before in
    let root : List ℕ = text d.body.root in
    let after : List ℕ = text d.body.after in
    let apart : mark ++ (declaration ++ (before ++ (root ++ after))) ≡ (mark ++ (declaration ++ before))
    ++ (root ++ after) = regroup mark declaration before (root ++ after) in
    let u : IsUtf8 ((mark ++ (declaration ++ before)) ++ (root ++ after)) = subst IsUtf8 (h.1.2 ∙ apart) h.1.0 in
    subst HasTexts (sym h.2) (texts_of 0 (root_at d) (mark ++ (declaration ++ before)) after d.body.root h.1.1.1.2 u)

value_in : (span : List ℕ) (given : List AttributeInfo) → AreValueSpans given → IsValueAmong span given
    → IsValueSpan span
value_in span [] h is = absurd is
value_in span (a ∷ more) h (inl same) = subst IsValueSpan (sym same) h.0
value_in span (a ∷ more) h (inr later) = value_in span more h.1 later

pub attribute_in : (span : List ℕ) (f : Forest) → HasTexts f → IsAttributeIn span f → IsValueSpan span
attribute_in span empty h is = absurd is
attribute_in span (node i kids others) h (inl own) = value_in span i.attributes h.1 own
attribute_in span (node i kids others) h (inr (inl below)) = attribute_in span kids h.2 below
attribute_in span (node i kids others) h (inr (inr after)) = attribute_in span others h.3 after

pub element_in : (span : List ℕ) (f : Forest) → HasTexts f → IsElementIn span f → IsTextSpan span
element_in span empty h is = absurd is
element_in span (node i kids others) h (inl same) = subst IsTextSpan (sym same) h.0
element_in span (node i kids others) h (inr (inl below)) = element_in span kids h.2 below
element_in span (node i kids others) h (inr (inr after)) = element_in span others h.3 after
