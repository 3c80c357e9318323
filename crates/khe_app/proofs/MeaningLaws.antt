-- Each span of a tree that bytes spell stands for what it means by the grammar.
use Rattle.std.proofs.Common.{ℕ, ◌≡◌, ◌∙◌, sym, ap, Some, List}
use Rattle.khe_app.specs.Readings.{IsMeaning, IsValueMeaning, StandsForMeanings}
use Rattle.xhstt_text.proofs.MeaningTexts.{unescaped-text, unescaped-value}
use Rattle.xhstt_text.proofs.SpanTexts.{HasTexts, HasTexts-spelled, attribute_in, element_in}
use Rattle.xhstt_text.specs.Document.{Spelled}
use Rattle.xhstt_text.specs.Forest.{Forest}
use Rattle.xhstt_text.specs.Spans.{IsAttributeIn, IsElementIn}
use Rattle.xhstt_text.specs.Unescape.{unescaped}

some_same : (x y : List ℕ) → Some x ≡ Some y → x ≡ y
some_same x y e = cc

text_means : (tree : Forest) (span said : List ℕ) → HasTexts tree → IsElementIn span tree → unescaped span ≡ said
    → IsMeaning span said
text_means tree span said h is e =
    let found = element_in span tree h is in
    (found.content, found.is, unescaped-text span found.content found.is ∙ ap Some e)

value_means : (tree : Forest) (span said : List ℕ) → HasTexts tree → IsAttributeIn span tree → unescaped span ≡ said
    → IsValueMeaning span said
value_means tree span said h is e =
    let found = attribute_in span tree h is in
    (found.quote, found.value, found.is, unescaped-value span found.quote found.value found.is ∙ ap Some e)

text_meant : (span said : List ℕ) → IsMeaning span said → unescaped span ≡ said
text_meant span said (c, is, means) = some_same (unescaped span) said (sym (unescaped-text span c is) ∙ means)

value_meant : (span said : List ℕ) → IsValueMeaning span said → unescaped span ≡ said
value_meant span said (quote, v, is, means) =
    some_same (unescaped span) said (sym (unescaped-value span quote v is) ∙ means)

pub stands_for_meanings : (bytes : List ℕ) (tree : Forest) → Spelled bytes tree → StandsForMeanings tree
stands_for_meanings bytes tree spelled =
    let h = HasTexts-spelled bytes tree spelled in
    record {
      texts = λ span said is. (text_means tree span said h is, text_meant span said);
      values = λ span said is. (value_means tree span said h is, value_meant span said);
    }
