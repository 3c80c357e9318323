-- Each clause follows from what the text is for all bytes.
use Rattle.std.proofs.Common.{◌≡◌, ◌∙◌, sym, ap, subst, List, ℕ, Some, Result, Ok, Err, IfOk}
use Rattle.xhstt_text.specs.Bytes.{AllAre}
use Rattle.khe_base.specs.Text.{text_of}
use Rattle.xhstt_text.specs.Document.{Content, Spelled, Value}
use Rattle.xhstt_text.specs.Forest.{Forest}
use Rattle.xhstt_text.specs.Spans.{IsAttributeIn, IsElementIn}
use Rattle.xhstt_text.specs.Unescape.{IsTextOf, IsValueOf, meaning, value_meaning, unescaped}
use Rattle.xhstt_text.specs.Units.{is_character}
use Rattle.xhstt_text.proofs.MeaningTexts.{unescaped-text, unescaped-value, unescaped-text_characters}
use Rattle.xhstt_text.proofs.MeaningTexts.{unescaped-value_characters}
use Rattle.xhstt_text.proofs.SpanTexts.{HasTexts-spelled, attribute_in, element_in}
use Rattle.xhstt_text.proofs.unescaping.unescape.Goals as goal

-- a text that is what these bytes stand for
IfOk-at : {A E : Type 0} (r : Result A E) (P Q : A → Type 0) → IfOk r P → ((a : A) → P a → Q a) → IfOk r Q
IfOk-at (Ok a) P Q h f = f a h
IfOk-at (Err e) P Q h f = tt

characters_of : (bytes same t : List ℕ) → t ≡ unescaped bytes → bytes ≡ same → AllAre is_character (unescaped same)
    → AllAre is_character t
characters_of bytes same t e s h =
    let P : List ℕ → Type 0 = λ x. AllAre is_character x in
    subst P (ap unescaped (sym s) ∙ sym e) h

of_element : (bytes span t : List ℕ) (f : Forest) → t ≡ unescaped span → Spelled bytes f → IsElementIn span f
    → (c : Content) × IsTextOf span c × (text_of (meaning c) ≡ Some t)
of_element bytes span t f e spelled is =
    let found = element_in span f (HasTexts-spelled bytes f spelled) is in
    (found.content, found.is, unescaped-text span found.content found.is ∙ ap Some (sym e))

of_attribute : (bytes span t : List ℕ) (f : Forest) → t ≡ unescaped span → Spelled bytes f → IsAttributeIn span f
    → (quote : ℕ) × (v : Value) × IsValueOf quote span v × (text_of (value_meaning v) ≡ Some t)
of_attribute bytes span t f e spelled is =
    let found = attribute_in span f (HasTexts-spelled bytes f spelled) is in
    (found.quote, found.value, found.is, unescaped-value span found.quote found.value found.is ∙ ap Some (sym e))

pub returns : goal.returns
returns c =
    let bytes = c.args.span.now in
    record {
      value = c.plain_text.ensures;
      between_tags = IfOk-at c.plain_text.result _ _ c.plain_text.ensures
          (λ t e d h. unescaped-text bytes d h ∙ ap Some (sym e));
      between_quotes = IfOk-at c.plain_text.result _ _ c.plain_text.ensures
          (λ t e quote v h. unescaped-value bytes quote v h ∙ ap Some (sym e));
      characters = IfOk-at c.plain_text.result _ _ c.plain_text.ensures
          (λ t e d h. characters_of bytes _ t e h.spelled (unescaped-text_characters d h.in_form));
      of_element = IfOk-at c.plain_text.result _ _ c.plain_text.ensures
          (λ t e whole f spelled is. of_element whole bytes t f e spelled is);
      of_attribute = IfOk-at c.plain_text.result _ _ c.plain_text.ensures
          (λ t e whole f spelled is. of_attribute whole bytes t f e spelled is);
      characters_between_quotes = IfOk-at c.plain_text.result _ _ c.plain_text.ensures
          (λ t e quote v h. characters_of bytes _ t e h.spelled (unescaped-value_characters quote v h.in_form));
    }
