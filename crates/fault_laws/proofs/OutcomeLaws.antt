-- Outcomes tell the least fault of bytes.
use Rattle.std.proofs.Common.{ℕ, ◌≡◌, ◌≤◌, Option, Some, None, List, length, ap, subst}
use Rattle.std.specs.Prelude.{encode_utf8_all}
use Rattle.khe_base.specs.declared.limits.TheConstants.{ARCHIVE_BYTES}
use Rattle.khe_app.proofs.ByTablesLaws.{outcome_by_rows}
use Rattle.khe_app.proofs.RowLaws.{faulty, no_tree}
use Rattle.khe_app.specs.ByTables.{ComesOf, Shelf}
use Rattle.khe_app.specs.Outcome.{IsOutcomeOf}
use Rattle.fault_laws.specs.Told.{IsFaultLine, TellsLeastFault}
use Rattle.text_fault_laws.specs.Rows.{IsLeastFault}
use Rattle.archive_reading.specs.Reading.{refused}
use Rattle.archive_reading.specs.Refusals.{refusal_line}
use Rattle.command_words.specs.Words.{Asked, archive_of, checking, constructing, evaluating, making, matching}
use Rattle.command_words.specs.Words.{repairing, running, scripting, solving}
use Rattle.archive_reading.specs.declared.refusals.Refusal.{Refusal}
use Rattle.archive_reading.specs.declared.refusals.Refusal.TheVariants.{Fault}
use Rattle.xhstt_text.specs.Document.{Spelled}
use Rattle.xhstt_text.specs.Forest.{Forest}

-- each command tells a refusal by status 3 and its line
abbrev TellsRefusal : Refusal → ℕ → List ℕ → Type 0
TellsRefusal refusal status text = (status ≡ 3) × (encode_utf8_all text ≡ encode_utf8_all (refusal_line refusal))

told : (refusal : Refusal) (status : ℕ) (text : List ℕ) → (status ≡ 3) × (text ≡ refusal_line refusal)
    → TellsRefusal refusal status text
told refusal status text h = (h.0, ap encode_utf8_all h.1)

refusal_told : (a : Asked) (under : Shelf) (refusal : Refusal) (status : ℕ) (text : List ℕ)
    → ComesOf a under (refused refusal) status text → TellsRefusal refusal status text
refusal_told (evaluating archive all) under refusal status text h = told refusal status text h
refusal_told (scripting archive number script tied) under refusal status text h = told refusal status text h
refusal_told (checking archive) under refusal status text h = h
refusal_told (repairing archive number depth budget) under refusal status text h = told refusal status text h
refusal_told (solving archive number depth budget jobs) under refusal status text h = told refusal status text h
refusal_told (matching archive number time rtype) under refusal status text h = told refusal status text h
refusal_told (constructing archive number chains) under refusal status text h = told refusal status text h
refusal_told (making seed size) under refusal status text h = absurd h
refusal_told (running seed size) under refusal status text h = absurd h

pub fault_told : (o : Option Asked) (name bytes : List ℕ) (under : Shelf) (status : ℕ) (text : List ℕ) (kind at : ℕ)
    → archive_of o ≡ Some name → under name ≡ Some bytes → length bytes ≤ ARCHIVE_BYTES
    → IsOutcomeOf o under status text → IsLeastFault bytes kind at → IsFaultLine kind at status text
fault_told None name bytes under status text kind at e s few h least = cc
fault_told (Some a) name bytes under status text kind at e s few h least =
    let g = outcome_by_rows a name bytes under status text e s h in
    let same = faulty bytes kind at g.reading few least g.is in
    refusal_told a under (Fault kind at) status text (subst (λ r. ComesOf a under r status text) same g.comes)

pub no_text_told : (o : Option Asked) (name bytes : List ℕ) (under : Shelf) (status : ℕ) (text : List ℕ)
    → archive_of o ≡ Some name → under name ≡ Some bytes → length bytes ≤ ARCHIVE_BYTES
    → IsOutcomeOf o under status text → ((tree : Forest) → Spelled bytes tree → ⊥) → TellsLeastFault bytes status text
no_text_told None name bytes under status text e s few h none = cc
no_text_told (Some a) name bytes under status text e s few h none =
    let g = outcome_by_rows a name bytes under status text e s h in
    let f = no_tree bytes g.reading few none g.is in
    record {
      kind = f.kind;
      at = f.at;
      least = f.least;
      line = refusal_told a under (Fault f.kind f.at) status text
          (subst (λ r. ComesOf a under r status text) f.refused_is g.comes);
    }
