-- What a matching is written as is read as the same archive but for one solution, which costs no more.
use Rattle.std.proofs.Common.{ℕ, ◌≡◌, ◌⊎◌, inl, inr, ◌∙◌, refl, sym, ap, subst, Bool, true, false, Option, Some, None}
use Rattle.std.proofs.Common.{List, [], ◌∷◌, encode_utf8_all}
use Rattle.std.specs.Prelude.{if◌then◌else◌, is_some}
use Rattle.khe_base.specs.Totals.{is_lower}
use Rattle.khe_base.specs.declared.numbers.ResourceId.{ResourceId}
use Rattle.khe_base.specs.declared.numbers.TaskId.{TaskId}
use Rattle.khe_base.specs.declared.sums.Totals.{Totals}
use Rattle.khe_engine.proofs.StateLaws.{edited_meets}
use Rattle.khe_engine.specs.States.{State, edited}
use Rattle.khe_engine.specs.Values as values
use Rattle.khe_instance.specs.Evaluated.{totals}
use Rattle.khe_instance.specs.WellMade.{AreWellMade}
use Rattle.khe_instance.specs.declared.parts.Parts.{Parts}
use Rattle.khe_instance.specs.declared.states.Plain.{Plain}
use Rattle.khe_solution.proofs.OpenLaws.{open_valid}
use Rattle.khe_solution.specs.Reading.{resource_at}
use Rattle.khe_told.specs.declared.edits.Edit.TheVariants.{Give, Take}
use Rattle.match_run.proofs.CommentLaws.{lines_add}
use Rattle.match_run.specs.Found.{IsFound}
use Rattle.match_run.specs.Lines.{match_lines}
use Rattle.match_run.specs.Texts.{IsMatchText}
use Rattle.match_run.specs.declared.finding.Found.{Found}
use Rattle.repair_run.specs.Placed.{respelled}
use Rattle.time_match.specs.Costs.{bare, chosen, given, stripped}
use Rattle.time_match.specs.Matching.{left_by, whole as with_choice}
use Rattle.time_match.specs.Tasks.{matched, resources_of}
use Rattle.time_match.specs.declared.outcomes.Matched.{Matched}
use Rattle.xhstt_resolve.specs.declared.resolving.Resolved.{Resolved}
use Rattle.xhstt_shape.specs.declared.records.Archive.{Archive}
use Rattle.xhstt_writer.proofs.Written.{canonical_spells}
use Rattle.xhstt_writer.specs.Archives.{IsReadAs, canonical}
use Rattle.text_laws.specs.Matched.{IsReadMatched}
use Rattle.text_laws.specs.Read.{IsArchiveOf, IsTimetableOf}
use Rattle.text_laws.proofs.ReadLaws.{instance_of, read_formed, spellable, well_made}
use Rattle.text_laws.proofs.RepairedLaws.{IsWhole, line_costs, whole, written_formed, written_with}
use Rattle.text_laws.proofs.StateLaws.{IsLeft, cleared, cleared_state, cleared_valid, same_totals}

-- monitors and groups stay
stripped_groups : (s : State) (t : TaskId) → (stripped s t).grouping ≡ s.grouping
stripped_groups s t = by (is_some (resource_at s.slots t))
  where
    by : (b : Bool) → (if b then edited s (Take t) else s).grouping ≡ s.grouping
    by true = ap (λ (u : State). u.grouping) (edited_meets s (Take t) refl)
    by false = refl

bare_groups : (s : State) (ts : List TaskId) → (bare s ts).grouping ≡ s.grouping
unfolding bare
bare_groups s [] = refl
bare_groups s (t ∷ ts) = bare_groups (stripped s t) ts ∙ stripped_groups s t

given_groups : (s : State) (rs : List ResourceId) (t : TaskId) (c : Option ℕ) → (given s rs t c).grouping ≡ s.grouping
given_groups s rs t None = refl
given_groups s rs t (Some k) = ap (λ (u : State). u.grouping) (edited_meets s (Give t _) refl)

chosen_groups : (s : State) (rs : List ResourceId) (ts : List TaskId) (cs : List (Option ℕ))
    → (chosen s rs ts cs).grouping ≡ s.grouping
unfolding chosen
chosen_groups s rs [] cs = refl
chosen_groups s rs (t ∷ ts) [] = refl
chosen_groups s rs (t ∷ ts) (c ∷ cs) = chosen_groups (given s rs t c) rs ts cs ∙ given_groups s rs t c

left_groups : (p : Parts) (s : State) (time rtype : ℕ) (m : Matched) → (left_by p s time rtype m).grouping ≡ s.grouping
left_groups p s time rtype m = by m.taken
  where
    by : (b : Bool) → (if b then with_choice p s time rtype m.cheapest.chosen else s).grouping ≡ s.grouping
    by true =
        chosen_groups (bare s (matched p s.slots time rtype)) (resources_of p rtype) (matched p s.slots time rtype)
        m.cheapest.chosen
        ∙ bare_groups s (matched p s.slots time rtype)
    by false = refl

-- what is found, as a timetable that stands whole
found_left : (p : Parts) (plain : Plain) (time rtype : ℕ) (f : Found) → AreWellMade p → IsWhole p plain
    → IsFound p plain time rtype f → IsLeft p f.plain f.totals
found_left p plain time rtype f made stands is =
    let u = left_by p is.state time rtype f.matched in
    let v = open_valid p u.slots f.plain made is.listed.told is.listed.meets is.listed.tasks is.valid in
    let listed = cleared_state p plain f.plain u v
    (record { meets = is.listed.meets; tasks = is.listed.tasks })
    (left_groups p is.state time rtype f.matched ∙ is.begins.grouping) stands.none stands.single in
    record {
      valid = cleared_valid p f.plain u made v (record { meets = is.listed.meets; tasks = is.listed.tasks });
      costs = is.totals_are ∙ same_totals p (cleared f.plain) u made listed;
    }

-- it is taken where it costs less
left_cost : (p : Parts) (s : State) (time rtype : ℕ) (m : Matched)
    → m.taken ≡ is_lower (values.totals p (with_choice p s time rtype m.cheapest.chosen)) (values.totals p s)
    → (values.totals p (left_by p s time rtype m) ≡ values.totals p s)
    ⊎ (is_lower (values.totals p (left_by p s time rtype m)) (values.totals p s) ≡ true)
left_cost p s time rtype m taken = by m.taken taken
  where
    by : (b : Bool)
        → b ≡ is_lower (values.totals p (with_choice p s time rtype m.cheapest.chosen)) (values.totals p s)
        → (values.totals p (if b then with_choice p s time rtype m.cheapest.chosen else s) ≡ values.totals p s)
        ⊎ (is_lower (values.totals p (if b then with_choice p s time rtype m.cheapest.chosen else s))
        (values.totals p s) ≡ true)
    by true e = inr (sym e)
    by false e = inl refl

pub match_no_dearer : (bytes : List ℕ) (a : Archive) (r : Resolved) (number : ℕ) (p : Parts) (plain : Plain)
    (time rtype : ℕ) (text : List ℕ) → IsArchiveOf bytes a r → IsTimetableOf a r number p plain
    → IsMatchText a number p plain time rtype text → IsReadMatched a r number p plain (encode_utf8_all text)
match_no_dearer bytes a r number p plain time rtype text read x is =
    let w = read_formed bytes a r read in
    let i = instance_of a r number p read.resolved_is x.parts in
    let made = well_made a r p w read.resolved_is i in
    let stands = whole a r number p plain w read.resolved_is made x in
    let f = is.found in
    let b : Archive = respelled a number p f.plain in
    let left = found_left p plain time rtype f made stands is.is in
    let formed = written_formed a r number p plain w read.resolved_is x made f.plain left.valid (spellable a p w i) in
    let back = written_with a r number p plain w read.resolved_is x made f.plain left.valid (encode_utf8_all text)
    (match_lines f.matched f.totals)
    (subst (λ bs. IsReadAs bs b) (sym is.bytes_are)
    (lines_add b f.matched f.totals (canonical b) (canonical_spells b formed)))
    is.bytes_are in
    let costs : totals p back.0 ≡ f.totals = back.2 ∙ sym left.costs in
    let law = left_cost p is.is.state time rtype f.matched is.is.matched_is.taken in
    let before = same_totals p plain is.is.state made is.is.begins in
    record {
      matched = f.matched;
      timetable = back.0;
      written = line_costs (match_lines f.matched) a r number p (encode_utf8_all text) back.0 f.totals costs back.1;
      cost = by back.0 f.totals (left_by p is.is.state time rtype f.matched) is.is.state costs is.is.totals_are before
          law;
    }
  where
    by : (t : Plain) (u : Totals) (v s : State) → totals p t ≡ u → u ≡ values.totals p v
        → values.totals p s ≡ totals p plain
        → (values.totals p v ≡ values.totals p s) ⊎ (is_lower (values.totals p v) (values.totals p s) ≡ true)
        → (totals p t ≡ totals p plain) ⊎ (is_lower (totals p t) (totals p plain) ≡ true)
    by t u v s c k d (inl same) = inl (c ∙ k ∙ same ∙ d)
    by t u v s c k d (inr lower) = inr ((λ j. is_lower ((c ∙ k) j) (sym d j)) ∙ lower)
