-- Readings by the machines and by the rows are the same.
use Rattle.std.proofs.Common.{ℕ, ◌≡◌, ◌≤◌, ◌∙◌, inl, inr, List, length, ap₂, arith}
use Rattle.khe_base.specs.declared.limits.TheConstants.{ARCHIVE_BYTES}
use Rattle.khe_app.proofs.MeaningLaws.{stands_for_meanings}
use Rattle.khe_app.specs.Readings.{IsReadingByRows}
use Rattle.text_fault_laws.proofs.FirstRow.{first_least, least_first}
use Rattle.text_fault_laws.specs.Rows.{IsLeastFault}
use Rattle.archive_reading.specs.Reading.{IsReadingOf, Reading, refused}
use Rattle.archive_reading.specs.declared.refusals.Refusal.TheVariants.{Fault}
use Rattle.xhstt_text.proofs.Answer.{one_first, unspelled}
use Rattle.xhstt_text.specs.Document.{Spelled}
use Rattle.xhstt_text.specs.Forest.{Forest}

pub by_rows : (bytes : List ℕ) (reading : Reading) → IsReadingOf bytes reading → IsReadingByRows bytes reading
by_rows bytes reading (inl large) = inl large
by_rows bytes reading (inr (few, inl f)) =
    inr (
      few,
      inl (record {
        kind = f.kind;
        at = f.at;
        least = first_least bytes f.kind f.at f.first;
        refused_is = f.refused_is;
      }),
    )
by_rows bytes reading (inr (few, inr s)) =
    inr (
      few,
      inr (record {
        tree = s.tree;
        spelled = s.spelled;
        means = stands_for_meanings bytes s.tree s.spelled;
        shaped = s.shaped;
      }),
    )

pub by_machines : (bytes : List ℕ) (reading : Reading) → IsReadingByRows bytes reading → IsReadingOf bytes reading
by_machines bytes reading (inl large) = inl large
by_machines bytes reading (inr (few, inl f)) =
    inr (
      few,
      inl (record {
        kind = f.kind;
        at = f.at;
        first = least_first bytes f.kind f.at f.least;
        refused_is = f.refused_is;
      }),
    )
by_machines bytes reading (inr (few, inr s)) =
    inr (few, inr (record { tree = s.tree; spelled = s.spelled; shaped = s.shaped }))

-- bytes with a least fault lead to nothing but its refusal
pub faulty : (bytes : List ℕ) (kind at : ℕ) (reading : Reading) → length bytes ≤ ARCHIVE_BYTES
    → IsLeastFault bytes kind at → IsReadingByRows bytes reading → reading ≡ refused (Fault kind at)
faulty bytes kind at reading few least (inl large) = absurd (let l = large.0 in omega (arith, few, l))
faulty bytes kind at reading few least (inr (more, inl f)) =
    let same = one_first bytes f.kind f.at kind at (least_first bytes f.kind f.at f.least)
    (least_first bytes kind at least) in
    f.refused_is ∙ ap₂ (λ k p. refused (Fault k p)) same.0 same.1
faulty bytes kind at reading few least (inr (more, inr s)) =
    absurd (unspelled bytes kind at (least_first bytes kind at least) s.spelled.0 s.spelled.1)

-- bytes that spell no tree have a least fault
pub record HasLeastFault (bytes : List ℕ) (reading : Reading) : Type 0 where
  pub kind : ℕ
  pub at : ℕ
  pub least : IsLeastFault bytes kind at
  pub refused_is : reading ≡ refused (Fault kind at)

pub no_tree : (bytes : List ℕ) (reading : Reading) → length bytes ≤ ARCHIVE_BYTES
    → ((tree : Forest) → Spelled bytes tree → ⊥) → IsReadingByRows bytes reading → HasLeastFault bytes reading
no_tree bytes reading few none (inl large) = absurd (let l = large.0 in omega (arith, few, l))
no_tree bytes reading few none (inr (more, inl f)) =
    record { kind = f.kind; at = f.at; least = f.least; refused_is = f.refused_is }
no_tree bytes reading few none (inr (more, inr s)) = absurd (none s.tree s.spelled)
