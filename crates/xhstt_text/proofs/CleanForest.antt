-- The spans of a forest that bytes spell have only characters that a text may have.
use Rattle.std.proofs.Common.{ℕ, List, [], ◌∷◌}
use Rattle.xhstt_text.specs.Document.{Spelled}
use Rattle.xhstt_text.specs.Forest.{AttributeInfo, Forest, empty, node}
use Rattle.xhstt_text.proofs.MeaningTexts.{IsClean, IsClean-between_tags, IsClean-between_quotes}
use Rattle.xhstt_text.proofs.SpanTexts.{IsTextSpan, AreValueSpans, HasTexts, HasTexts-spelled}

abbrev pub AreClean : List AttributeInfo → Type 0
AreClean [] = Unit {0}
AreClean (a ∷ more) = IsClean a.value × AreClean more

abbrev pub IsCleanForest : Forest → Type 0
IsCleanForest empty = Unit {0}
IsCleanForest (node i kids others) = IsClean i.value × AreClean i.attributes × IsCleanForest kids × IsCleanForest others

clean_span : (span : List ℕ) → IsTextSpan span → IsClean span
clean_span span h = IsClean-between_tags span h.content h.is

clean_values : (given : List AttributeInfo) → AreValueSpans given → AreClean given
clean_values [] h = tt
clean_values (a ∷ more) h = (IsClean-between_quotes h.0.quote a.value h.0.value h.0.is, clean_values more h.1)

clean_texts : (f : Forest) → HasTexts f → IsCleanForest f
clean_texts empty h = tt
clean_texts (node i kids others) h =
    (clean_span i.value h.0, clean_values i.attributes h.1, clean_texts kids h.2, clean_texts others h.3)

pub IsCleanForest-spelled : (bytes : List ℕ) (f : Forest) → Spelled bytes f → IsCleanForest f
IsCleanForest-spelled bytes f h = clean_texts f (HasTexts-spelled bytes f h)
