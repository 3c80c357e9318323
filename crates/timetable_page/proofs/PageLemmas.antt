-- A page that is put together section by section, on its way to a sink.
use Rattle.std.proofs.Common.{ℕ, ◌≡◌, ◌+◌, ◌<◌, ◌≤◌, inl, inr, Option, Some, None, List, [], ◌++◌, length, Bool, true, false, refl, sym, ap}
use Rattle.std.proofs.Common.{subst, ◌∙◌, arith, append_assoc, add-one, length-append, encode_utf8_all, slice_get}
use Rattle.std.proofs.lemmas.List.{append-nil, length-map}
use Rattle.std.proofs.lemmas.List.FromFn.{length-map-range_with_len}
use Rattle.std.proofs.lemmas.Str.{encodes-append}
use Rattle.std.specs.Prelude.{IsSomeAnd}
use Rattle.khe_io.specs.Amid.{IsAmid}
use Rattle.khe_io.specs.Faults.{Took}
use Rattle.khe_io.specs.Shelf.{StandsUnder, StandsAbove}
use Rattle.khe_io.proofs.AmidLemmas.{amid-end}
use Rattle.khe_instance.specs.Costs.{cost_at}
use Rattle.khe_instance.specs.Evaluated as evaluated
use Rattle.khe_instance.specs.declared.parts.Parts.{Parts}
use Rattle.khe_instance.specs.declared.states.Plain.{Plain}
use Rattle.parallel_solve.specs.Verdicts.{numbered_verdict, values_of}
use Rattle.plain_eval.specs.declared.evaluation.Values.{Values}
use Rattle.timetable_page.specs.Endings.{AreAllSent, AreEnough, AreSent, IsPut, Stands}
use Rattle.timetable_page.specs.Pages.{AreSections, IsSection}
use Rattle.timetable_page.specs.declared.program.TheConstants.{PAGE_BYTES}
use Rattle.xhstt_references.specs.References.{solutions_of}
use Rattle.xhstt_resolve.specs.declared.resolving.Resolved.{Resolved}
use Rattle.xhstt_shape.specs.declared.records.Archive.{Archive}
use Rattle.xhstt_shape.specs.declared.records.RawSolution.{RawSolution}

-- the values of a timetable, by their parts
pub same_values : (p : Parts) (s : Plain) (v : Values) → v.deviations ≡ evaluated.deviations p s
    → v.costs ≡ evaluated.costs p s → v.totals ≡ evaluated.totals p s → v ≡ values_of p s
same_values p s v d c t = λ i. record { deviations = d i; costs = c i; totals = t i }

-- as many rows as monitors
pub valued-long : (p : Parts) (s : Plain) (v : Values) → v ≡ values_of p s
    → (length v.deviations ≡ length p.monitors) × (length v.costs ≡ length p.monitors)
valued-long p s v is = (
  ap (λ (u : Values). length u.deviations) is ∙ length-map p.monitors (evaluated.deviation_in p s),
  ap (λ (u : Values). length u.costs) is ∙ length-map-range_with_len
      (cost_at p (evaluated.is_detached s) (evaluated.deviations p s)) 0 (length p.monitors),
)

-- nothing was taken, and a text waits
took_none : (o : Option (List ℕ)) → Took o o (encode_utf8_all [])
took_none None = refl
took_none (Some xs) = ap Some (sym (append-nil xs))

pub first_amid : (o : Option (List ℕ)) (text : List ℕ) → IsAmid o o [] (text ++ []) text
first_amid o text = record { written = []; took = took_none o; is = append-nil text }

-- a text is to follow what was written
pub amid_text : (before now : Option (List ℕ)) (w text : List ℕ) → IsAmid before now [] [] w
    → IsAmid before now [] (text ++ []) (w ++ text)
amid_text before now w text h = record {
  written = h.written;
  took = h.took;
  is = ap (λ x. h.written ++ x) (append-nil text) ∙ ap (λ x. x ++ text) (sym (append-nil h.written) ∙ h.is);
}

-- no section yet
pub none_sent : (r : Resolved) (raws : List RawSolution) (shown : ℕ → Bool) (before now : Option (List ℕ))
    (opening : List ℕ) → IsAmid before now [] [] opening → AreSent r raws shown 0 0 before now opening
none_sent r raws shown before now opening h = record {
  sections = [];
  are = refl;
  counted = omega arith;
  amid = subst (λ t. IsAmid before now [] [] t) (sym (append-nil opening)) h;
}

-- one section more
pub one_sent : (r : Resolved) (raws : List RawSolution) (shown : ℕ → Bool) (n sent more : ℕ)
    (before now after : Option (List ℕ)) (opening section : List ℕ) (raw : RawSolution) → slice_get raws n ≡ Some raw
    → shown n ≡ true → IsSection (numbered_verdict r (n, raw)) section
    → more ≤ sent + length (encode_utf8_all section) → (h : AreSent r raws shown n sent before now opening)
    → IsAmid before after [] [] ((opening ++ h.sections) ++ section)
    → AreSent r raws shown (n + 1) more before after opening
one_sent r raws shown n sent more before now after opening section raw found asked said bound h amid = record {
  sections = h.sections ++ section;
  are = subst (λ k. AreSections r raws shown k (h.sections ++ section)) (sym (add-one n)) (
    h.sections,
    h.are,
    inl (asked, record { raw = raw; found = found; section = section; said = said; is = refl }),
  );
  counted = omega (
    arith,
    bound,
    h.counted,
    ap length (encodes-append h.sections section),
    length-append (encode_utf8_all h.sections) (encode_utf8_all section),
  );
  amid = subst (λ t. IsAmid before after [] [] t) (append_assoc opening h.sections section) amid;
}

-- one solution that is not asked for
pub one_passed : (r : Resolved) (raws : List RawSolution) (shown : ℕ → Bool) (n sent : ℕ) (before now : Option (List ℕ))
    (opening : List ℕ) → shown n ≡ false → AreSent r raws shown n sent before now opening
    → AreSent r raws shown (n + 1) sent before now opening
one_passed r raws shown n sent before now opening asked h = record {
  sections = h.sections;
  are = subst (λ k. AreSections r raws shown k h.sections) (sym (add-one n)) (h.sections, h.are, inr (asked, refl));
  counted = h.counted;
  amid = h.amid;
}

-- all that are asked for
pub all_sent : (r : Resolved) (raws : List RawSolution) (shown : ℕ → Bool) (n sent : ℕ) (before now : Option (List ℕ))
    (opening : List ℕ) → n ≡ length raws → AreSent r raws shown n sent before now opening
    → AreAllSent r raws shown n before now opening
all_sent r raws shown n sent before now opening e h = record {
  sections = h.sections;
  are = h.are;
  enough = inl e;
  amid = h.amid;
}

-- no more, since the page is large
pub cut_sent : (r : Resolved) (raws : List RawSolution) (shown : ℕ → Bool) (n sent : ℕ) (before now : Option (List ℕ))
    (opening : List ℕ) → PAGE_BYTES < sent → AreSent r raws shown n sent before now opening
    → AreAllSent r raws shown n before now opening
cut_sent r raws shown n sent before now opening l h = record {
  sections = h.sections;
  are = h.are;
  enough = inr (omega (arith, l, h.counted));
  amid = h.amid;
}

-- the page is whole
pub put_whole : (a : Archive) (r : Resolved) (raws : List RawSolution) (shown : ℕ → Bool) (n : ℕ)
    (before now after : Option (List ℕ)) (opening closing : List ℕ) → raws ≡ solutions_of a
    → (s : AreAllSent r raws shown n before now opening)
    → IsAmid before after [] [] ((opening ++ s.sections) ++ closing) → IsPut a r shown before after
put_whole a r raws shown n before now after opening closing e s amid = record {
  looked = n;
  text = (opening ++ s.sections) ++ closing;
  page = record {
    opening = opening;
    sections = s.sections;
    closing = closing;
    are = subst (λ x. AreSections r x shown n s.sections) e s.are;
    is = append_assoc opening s.sections closing;
  };
  enough = subst (λ x. AreEnough (length x) n s.sections) e s.enough;
  took = amid-end before after ((opening ++ s.sections) ++ closing) amid;
}

-- what is so of the bytes under a name
pub stands : (h : Option (List ℕ → Option (List ℕ))) (name bytes : List ℕ) (P : List ℕ → Type 0)
    → StandsUnder h name bytes → P bytes → Stands h name P
stands None name bytes P under p = tt
stands (Some under) name bytes P is p = subst (λ o. IsSomeAnd o P) (sym is) p

-- what is so of too many bytes
pub stands_above : (h : Option (List ℕ → Option (List ℕ))) (name : List ℕ) (limit : ℕ) (P : List ℕ → Type 0)
    → StandsAbove h name limit → ((bytes : List ℕ) → limit < length bytes → P bytes) → Stands h name P
stands_above None name limit P above p = tt
stands_above (Some under) name limit P above p = by (under name) above
  where
    by : (o : Option (List ℕ)) → IsSomeAnd o (λ bytes. limit < length bytes) → IsSomeAnd o P
    by None l = l
    by (Some bytes) l = p bytes l
