-- A matching has one status: the tasks of a time are too many or they are not.
use Rattle.std.proofs.Common.{ℕ, ◌≡◌, ◌∙◌, inl, inr, Option, Some, None, List, length, refl, sym, ap, subst, arith}
use Rattle.khe_app.specs.Outcome.{IsMatchIn, IsMatchOf, IsMatchTo, IsMatched, IsMatchedAt}
use Rattle.archive_reading.specs.Starting.{Start, barred, begins, start_of}
use Rattle.archive_reading.specs.Reading.{IsReadingOf, Reading}
use Rattle.archive_reading.specs.Reading.{evaluable, refused}
use Rattle.khe_instance.specs.WellMade.{AreWellMade}
use Rattle.khe_instance.specs.declared.parts.Parts.{Parts}
use Rattle.khe_instance.specs.declared.states.Plain.{Plain}
use Rattle.match_run.specs.Found.{AreTooMany, IsFound}
use Rattle.match_run.specs.declared.finding.Found.{Found}
use Rattle.time_match.specs.Tasks.{matched}
use Rattle.xhstt_shape.specs.declared.records.Archive.{Archive}
use Rattle.outcome_laws.proofs.OneLaws.{made_of, one_state}
use Rattle.khe_app.proofs.ReadingLaws.{one_reading}

not_both : (p : Parts) (plain : Plain) (time rtype n : ℕ) (f : Found) → AreWellMade p
    → AreTooMany p plain time rtype n → IsFound p plain time rtype f → ⊥
not_both p plain time rtype n f made many is =
    let same = one_state p plain many.state is.state made many.begins is.begins in
    let lengths : length (matched p many.state.slots time rtype) ≡ length (matched p is.state.slots time rtype) =
    ap (λ s. length (matched p s.slots time rtype)) same in
    let counted = many.many in
    let more = many.more in
    let few = is.few in
    omega (arith, lengths, counted, more, few)

of_tasks : (a : Archive) (number time rtype : ℕ) (p : Parts) (plain : Plain) (status other : ℕ) (text more : List ℕ)
    → AreWellMade p → IsMatched a number time rtype p plain status text
    → IsMatched a number time rtype p plain other more → status ≡ other
of_tasks a number time rtype p plain status other text more made (inl (n, f, h)) (inl (m, g, k)) = h.0 ∙ sym k.0
of_tasks a number time rtype p plain status other text more made (inl (n, f, h)) (inr g) =
    absurd (not_both p plain time rtype n g.1.found made f g.1.is)
of_tasks a number time rtype p plain status other text more made (inr f) (inl (m, g, k)) =
    absurd (not_both p plain time rtype m f.1.found made g f.1.is)
of_tasks a number time rtype p plain status other text more made (inr f) (inr g) = f.0 ∙ sym g.0

of_numbers : (a : Archive) (number time rtype : ℕ) (p : Parts) (plain : Plain) (status other : ℕ) (text more : List ℕ)
    → AreWellMade p → IsMatchedAt a number time rtype p plain status text
    → IsMatchedAt a number time rtype p plain other more → status ≡ other
of_numbers a number time rtype p plain status other text more made (inl f) (inl g) = f.1.0 ∙ sym g.1.0
of_numbers a number time rtype p plain status other text more made (inl f) (inr (inl g)) = f.1.0 ∙ sym g.2.0
of_numbers a number time rtype p plain status other text more made (inl f) (inr (inr g)) =
    absurd (let l = f.0 in let m = g.0 in omega (arith, l, m))
of_numbers a number time rtype p plain status other text more made (inr (inl f)) (inl g) = f.2.0 ∙ sym g.1.0
of_numbers a number time rtype p plain status other text more made (inr (inl f)) (inr (inl g)) = f.2.0 ∙ sym g.2.0
of_numbers a number time rtype p plain status other text more made (inr (inl f)) (inr (inr g)) =
    absurd (let l = f.1 in let m = g.1 in omega (arith, l, m))
of_numbers a number time rtype p plain status other text more made (inr (inr f)) (inl g) =
    absurd (let l = f.0 in let m = g.0 in omega (arith, l, m))
of_numbers a number time rtype p plain status other text more made (inr (inr f)) (inr (inl g)) =
    absurd (let l = f.1 in let m = g.1 in omega (arith, l, m))
of_numbers a number time rtype p plain status other text more made (inr (inr f)) (inr (inr g)) =
    of_tasks a number time rtype p plain status other text more made f.2 g.2

of_start : (a : Archive) (number time rtype : ℕ) (s : Start) (status other : ℕ) (text more : List ℕ)
    → ((p : Parts) (plain : Plain) → s ≡ begins p plain → AreWellMade p)
    → IsMatchOf a number time rtype s status text → IsMatchOf a number time rtype s other more → status ≡ other
of_start a number time rtype (barred x) status other text more made f g = f.0 ∙ sym g.0
of_start a number time rtype (begins p plain) status other text more made f g =
    of_numbers a number time rtype p plain status other text more (made p plain refl) f g

of_reading : (number time rtype : ℕ) (bytes : List ℕ) (x : Reading) (status other : ℕ) (text more : List ℕ)
    → IsReadingOf bytes x → IsMatchIn number time rtype x status text → IsMatchIn number time rtype x other more
    → status ≡ other
of_reading number time rtype bytes (evaluable a r) status other text more is f g =
    of_start a number time rtype (start_of a r number) status other text more
    (λ p plain e. made_of bytes a r number p plain is e) f g
of_reading number time rtype bytes (refused x) status other text more is f g = f.0 ∙ sym g.0

pub match_statuses : (number time rtype : ℕ) (o : Option (List ℕ)) (status other : ℕ) (text more : List ℕ)
    → IsMatchTo number time rtype o status text → IsMatchTo number time rtype o other more → status ≡ other
match_statuses number time rtype None status other text more f g = f.0 ∙ sym g.0
match_statuses number time rtype (Some bytes) status other text more f g =
    of_reading number time rtype bytes f.reading status other text more f.is f.matched
    (subst (λ x. IsMatchIn number time rtype x other more) (one_reading bytes g.reading f.reading g.is f.is) g.matched)
