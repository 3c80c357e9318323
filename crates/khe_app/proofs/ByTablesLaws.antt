-- The outcomes of words are those by the table of commands, by the rows of faults and by the grammar of texts.
use Rattle.std.proofs.Common.{ℕ, ◌≡◌, ◌∙◌, inl, inr, Option, Some, None, List, [], refl, sym, ap, subst}
use Rattle.command_words.proofs.ReadLaws.{read_by_table}
use Rattle.command_words.proofs.TableLaws.{unread}
use Rattle.command_words.specs.Words.{Asked, archive_of, asked, checking, constructing, evaluating, making, matching}
use Rattle.command_words.specs.Words.{repairing, running, scripting, solving}
use Rattle.khe_app.proofs.RowLaws.{by_machines, by_rows}
use Rattle.khe_app.specs.ByTables.{EndedByTables, IsOutcomeByRows, IsOutcomeByTables, IsOutcomeThere, IsOutcomeWith}
use Rattle.khe_app.specs.ByTables.{Shelf}
use Rattle.khe_app.specs.Ends.{EndedBy}
use Rattle.khe_app.specs.Outcome.{IsConstructTo, IsConstructed, IsMatchTo, IsMatchedFrom}
use Rattle.khe_app.specs.Outcome.{IsOutcomeOf, IsPlayTo, IsPlayed, IsRepairTo, IsRepaired, IsSolveTo, IsSolvedFrom}
use Rattle.reading_commands.specs.Ends.{Holdings}
use Rattle.reading_commands.specs.Outcome.{IsAnswerTo, IsAnswered, IsRespelled, IsSpellingTo}

-- what stands under the name of the archive
here : (archive name : List ℕ) (o : Option (List ℕ)) (under : Shelf) → Some archive ≡ Some name → under name ≡ o
    → under archive ≡ o
here archive name o under e stands = let same : archive ≡ name = cc in ap under same ∙ stands

pub outcome_by_rows : (a : Asked) (name bytes : List ℕ) (under : Shelf) (status : ℕ) (text : List ℕ)
    → archive_of (Some a) ≡ Some name → under name ≡ Some bytes → IsOutcomeOf (Some a) under status text
    → IsOutcomeByRows a bytes under status text
outcome_by_rows (evaluating archive all) name bytes under status text e s h =
    let g : IsAnswered all bytes status text = subst (λ o. IsAnswerTo all o status text)
    (here archive name (Some bytes) under e s) h in
    record { reading = g.reading; is = by_rows bytes g.reading g.is; comes = (g.status_is, g.text_is) }
outcome_by_rows (scripting archive number script tied) name bytes under status text e s h =
    let g : IsPlayed tied number bytes (under script) status text = subst
    (λ o. IsPlayTo tied number o (under script) status text) (here archive name (Some bytes) under e s) h in
    record { reading = g.reading; is = by_rows bytes g.reading g.is; comes = g.scripted }
outcome_by_rows (checking archive) name bytes under status text e s h =
    let g : IsRespelled bytes status text = subst (λ o. IsSpellingTo o status text)
    (here archive name (Some bytes) under e s) h in
    record { reading = g.reading; is = by_rows bytes g.reading g.is; comes = (g.status_is, g.bytes_are) }
outcome_by_rows (repairing archive number depth budget) name bytes under status text e s h =
    let g : IsRepaired number depth budget bytes status text = subst (λ o. IsRepairTo number depth budget o status text)
    (here archive name (Some bytes) under e s) h in
    record { reading = g.reading; is = by_rows bytes g.reading g.is; comes = g.repaired }
outcome_by_rows (solving archive number depth budget jobs) name bytes under status text e s h =
    let g : IsSolvedFrom number depth budget jobs bytes status text = subst
    (λ o. IsSolveTo number depth budget jobs o status text) (here archive name (Some bytes) under e s) h in
    record { reading = g.reading; is = by_rows bytes g.reading g.is; comes = g.solved }
outcome_by_rows (matching archive number time rtype) name bytes under status text e s h =
    let g : IsMatchedFrom number time rtype bytes status text = subst (λ o. IsMatchTo number time rtype o status text)
    (here archive name (Some bytes) under e s) h in
    record { reading = g.reading; is = by_rows bytes g.reading g.is; comes = g.matched }
outcome_by_rows (constructing archive number chains) name bytes under status text e s h =
    let g : IsConstructed number chains bytes status text = subst (λ o. IsConstructTo number chains o status text)
    (here archive name (Some bytes) under e s) h in
    record { reading = g.reading; is = by_rows bytes g.reading g.is; comes = g.constructed }
outcome_by_rows (making seed size) name bytes under status text e s h = cc
outcome_by_rows (running seed size) name bytes under status text e s h = cc

pub outcome_by_machines : (a : Asked) (name bytes : List ℕ) (under : Shelf) (status : ℕ) (text : List ℕ)
    → archive_of (Some a) ≡ Some name → under name ≡ Some bytes → IsOutcomeByRows a bytes under status text
    → IsOutcomeOf (Some a) under status text
outcome_by_machines (evaluating archive all) name bytes under status text e s h =
    let g : IsAnswered all bytes status text = record {
      reading = h.reading;
      is = by_machines bytes h.reading h.is;
      status_is = h.comes.0;
      text_is = h.comes.1;
    } in
    subst (λ o. IsAnswerTo all o status text) (sym (here archive name (Some bytes) under e s)) g
outcome_by_machines (scripting archive number script tied) name bytes under status text e s h =
    let g : IsPlayed tied number bytes (under script) status text = record {
      reading = h.reading;
      is = by_machines bytes h.reading h.is;
      scripted = h.comes;
    } in
    subst (λ o. IsPlayTo tied number o (under script) status text) (sym (here archive name (Some bytes) under e s)) g
outcome_by_machines (checking archive) name bytes under status text e s h =
    let g : IsRespelled bytes status text = record {
      reading = h.reading;
      is = by_machines bytes h.reading h.is;
      status_is = h.comes.0;
      bytes_are = h.comes.1;
    } in
    subst (λ o. IsSpellingTo o status text) (sym (here archive name (Some bytes) under e s)) g
outcome_by_machines (repairing archive number depth budget) name bytes under status text e s h =
    let g : IsRepaired number depth budget bytes status text = record {
      reading = h.reading;
      is = by_machines bytes h.reading h.is;
      repaired = h.comes;
    } in
    subst (λ o. IsRepairTo number depth budget o status text) (sym (here archive name (Some bytes) under e s)) g
outcome_by_machines (solving archive number depth budget jobs) name bytes under status text e s h =
    let g : IsSolvedFrom number depth budget jobs bytes status text = record {
      reading = h.reading;
      is = by_machines bytes h.reading h.is;
      solved = h.comes;
    } in
    subst (λ o. IsSolveTo number depth budget jobs o status text) (sym (here archive name (Some bytes) under e s)) g
outcome_by_machines (matching archive number time rtype) name bytes under status text e s h =
    let g : IsMatchedFrom number time rtype bytes status text = record {
      reading = h.reading;
      is = by_machines bytes h.reading h.is;
      matched = h.comes;
    } in
    subst (λ o. IsMatchTo number time rtype o status text) (sym (here archive name (Some bytes) under e s)) g
outcome_by_machines (constructing archive number chains) name bytes under status text e s h =
    let g : IsConstructed number chains bytes status text = record {
      reading = h.reading;
      is = by_machines bytes h.reading h.is;
      constructed = h.comes;
    } in
    subst (λ o. IsConstructTo number chains o status text) (sym (here archive name (Some bytes) under e s)) g
outcome_by_machines (making seed size) name bytes under status text e s h = cc
outcome_by_machines (running seed size) name bytes under status text e s h = cc

-- where nothing stands under it
none_there : (a : Asked) (name : List ℕ) (under : Shelf) (status : ℕ) (text : List ℕ) → archive_of (Some a) ≡ Some name
    → under name ≡ None → IsOutcomeOf (Some a) under status text → (status ≡ 4) × (text ≡ [])
none_there (evaluating archive all) name under status text e s h =
    subst (λ o. IsAnswerTo all o status text) (here archive name None under e s) h
none_there (scripting archive number script tied) name under status text e s h =
    subst (λ o. IsPlayTo tied number o (under script) status text) (here archive name None under e s) h
none_there (checking archive) name under status text e s h =
    subst (λ o. IsSpellingTo o status text) (here archive name None under e s) h
none_there (repairing archive number depth budget) name under status text e s h =
    subst (λ o. IsRepairTo number depth budget o status text) (here archive name None under e s) h
none_there (solving archive number depth budget jobs) name under status text e s h =
    subst (λ o. IsSolveTo number depth budget jobs o status text) (here archive name None under e s) h
none_there (matching archive number time rtype) name under status text e s h =
    subst (λ o. IsMatchTo number time rtype o status text) (here archive name None under e s) h
none_there (constructing archive number chains) name under status text e s h =
    subst (λ o. IsConstructTo number chains o status text) (here archive name None under e s) h
none_there (making seed size) name under status text e s h = cc
none_there (running seed size) name under status text e s h = cc

there : (a : Asked) (name : List ℕ) (under : Shelf) (status : ℕ) (text : List ℕ) (o : Option (List ℕ))
    → archive_of (Some a) ≡ Some name → under name ≡ o → IsOutcomeOf (Some a) under status text
    → IsOutcomeThere a under o status text
there a name under status text None e s h = none_there a name under status text e s h
there a name under status text (Some bytes) e s h = outcome_by_rows a name bytes under status text e s h

with_archive : (a : Asked) (under : Shelf) (status : ℕ) (text : List ℕ) (o : Option (List ℕ)) → archive_of (Some a) ≡ o
    → IsOutcomeOf (Some a) under status text → IsOutcomeWith a o under status text
with_archive a under status text None e h = h
with_archive a under status text (Some name) e h = there a name under status text (under name) e refl h

by_tables : (words : List (List ℕ)) (under : Shelf) (status : ℕ) (text : List ℕ) (o : Option Asked) → asked words ≡ o
    → IsOutcomeOf o under status text → IsOutcomeByTables words under status text
by_tables words under status text None e h = inr (unread words e, h.0, h.1)
by_tables words under status text (Some a) e h = inl (record {
  asked = a;
  reading = read_by_table words a e;
  outcome = with_archive a under status text (archive_of (Some a)) refl h;
})

pub ended_by_tables : (words : List (List ℕ)) (h : Holdings) (before after : Option (List ℕ)) (status : ℕ)
    → EndedBy words h before after status → EndedByTables words h before after status
ended_by_tables words None before after status ended = tt
ended_by_tables words (Some under) before after status (text, is, took) =
    (text, by_tables words under status text (asked words) refl is, took)
