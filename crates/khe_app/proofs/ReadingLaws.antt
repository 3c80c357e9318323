-- What bytes lead to is one thing alone, and where it is an archive, that is what they spell.
use Rattle.std.proofs.Common.{ℕ, ◌≡◌, ◌<◌, ◌≤◌, ◌^◌, ◌∙◌, inl, inr, Result, Ok, Err, List, length, refl, sym, ap, ap₂, subst}
use Rattle.std.proofs.Common.{arith}
use Rattle.khe_base.specs.declared.limits.TheConstants.{ARCHIVE_BYTES}
use Rattle.archive_reading.specs.Reading.{IsFaulty, IsRead, IsReadingOf, IsShaped, IsSpelled, Reading, evaluable, refused}
use Rattle.archive_reading.specs.declared.refusals.Refusal.{Refusal}
use Rattle.archive_reading.specs.declared.refusals.Refusal.TheVariants.{Fault}
use Rattle.text_laws.specs.Read.{IsArchiveOf}
use Rattle.xhstt_resolve.specs.Resolved.{resolved}
use Rattle.xhstt_resolve.specs.declared.faults.ResolveFault.{ResolveFault}
use Rattle.xhstt_resolve.specs.declared.faults.ResolveFault.TheVariants as resolve
use Rattle.xhstt_resolve.specs.declared.resolving.Resolved.{Resolved}
use Rattle.xhstt_shape.specs.Shape.{shape_of}
use Rattle.xhstt_shape.specs.declared.faults.ShapeFault.{ShapeFault}
use Rattle.xhstt_shape.specs.declared.faults.ShapeFault.TheVariants as shape
use Rattle.xhstt_shape.specs.declared.records.Archive.{Archive}
use Rattle.xhstt_text.proofs.Answer.{one_first, unspelled}
use Rattle.xhstt_text.proofs.Complete.{run_document}
use Rattle.xhstt_text.proofs.DocumentTable.{document-table}
use Rattle.xhstt_text.specs.Document.{Document, IsDocument, Rows, Spelled, forest_of, spelling, table}
use Rattle.xhstt_text.specs.FlatTable.{forest}
use Rattle.xhstt_text.specs.Forest.{Forest}
use Rattle.xhstt_text.specs.Machine.{outcome_of}

-- the forest of a document is that of its rows over its bytes
from_rows : (bytes : List ℕ) (rows : Rows) (d : Document) → IsDocument d → bytes ≡ spelling d → rows ≡ table d
    → length bytes < 2 ^ 32
    → forest (record { bytes = bytes; nodes = rows.nodes; attributes = rows.attributes }) 0 (length rows.nodes)
    ≡ forest_of d
from_rows bytes rows d form spells same few =
    (document-table d (record { bytes = bytes; nodes = rows.nodes; attributes = rows.attributes }) form spells
    (ap (λ (r : Rows). r.nodes) same) (ap (λ (r : Rows). r.attributes) same) few).1

one_table : (bytes : List ℕ) (d e : Document) → IsDocument d → IsDocument e → bytes ≡ spelling d → bytes ≡ spelling e
    → table d ≡ table e
one_table bytes d e f g p q =
    let both : Ok (table d) ≡ Ok (table e) =
    sym (run_document d f) ∙ ap outcome_of (sym p ∙ q) ∙ run_document e g in
    let same : table d ≡ table e = cc in
    same

-- bytes spell one forest
pub one_forest : (bytes : List ℕ) (f g : Forest) → length bytes < 2 ^ 32 → Spelled bytes f → Spelled bytes g → f ≡ g
one_forest bytes f g few (d, s, p) (e, t, q) =
    p ∙ sym (from_rows bytes (table d) d s.1 s.2 refl few)
    ∙ from_rows bytes (table d) e t.1 t.2 (one_table bytes d e s.1 t.1 s.2 t.2) few
    ∙ sym q

-- an answer leads to one reading
one_read : (a : Archive) (answer : Result Resolved ResolveFault) (x y : Reading) → IsRead a answer x → IsRead a answer y
    → x ≡ y
one_read a (Ok r) x y f g = f ∙ sym g
one_read a (Err (resolve.Bad kind at)) x y f g = f ∙ sym g
one_read a (Err (resolve.Limit which value)) x y f g = f ∙ sym g
one_read a (Err resolve.NoMemory) x y f g = absurd f

one_shaped : (answer : Result Archive ShapeFault) (x y : Reading) → IsShaped answer x → IsShaped answer y → x ≡ y
one_shaped (Ok a) x y f g = one_read a (resolved a) x y f g
one_shaped (Err (shape.Bad kind at)) x y f g = f ∙ sym g
one_shaped (Err shape.NoMemory) x y f g = absurd f

few_bytes : (bytes : List ℕ) → length bytes ≤ ARCHIVE_BYTES → length bytes < 2 ^ 32
few_bytes bytes few = omega (arith, few)

one_spelled : (bytes : List ℕ) (x y : Reading) → length bytes ≤ ARCHIVE_BYTES → IsSpelled bytes x → IsSpelled bytes y
    → x ≡ y
one_spelled bytes x y few f g =
    one_shaped (shape_of f.tree) x y f.shaped
    (subst (λ t. IsShaped (shape_of t) y)
    (one_forest bytes g.tree f.tree (few_bytes bytes few) g.spelled f.spelled) g.shaped)

one_faulty : (bytes : List ℕ) (x y : Reading) → IsFaulty bytes x → IsFaulty bytes y → x ≡ y
one_faulty bytes x y f g =
    let same = one_first bytes f.kind f.at g.kind g.at f.first g.first in
    f.refused_is ∙ ap₂ (λ kind at. refused (Fault kind at)) same.0 same.1 ∙ sym g.refused_is

apart : {A : Type 0} (bytes : List ℕ) (x y : Reading) → IsFaulty bytes x → IsSpelled bytes y → A
apart bytes x y f g = absurd (unspelled bytes f.kind f.at f.first g.spelled.0 g.spelled.1)

-- bytes have one reading
pub one_reading : (bytes : List ℕ) (x y : Reading) → IsReadingOf bytes x → IsReadingOf bytes y → x ≡ y
one_reading bytes x y (inl f) (inl g) = f.1 ∙ sym g.1
one_reading bytes x y (inl f) (inr g) = absurd (let l = f.0 in let m = g.0 in omega (arith, l, m))
one_reading bytes x y (inr f) (inl g) = absurd (let l = f.0 in let m = g.0 in omega (arith, l, m))
one_reading bytes x y (inr (few, inl f)) (inr (more, inl g)) = one_faulty bytes x y f g
one_reading bytes x y (inr (few, inl f)) (inr (more, inr g)) = apart bytes x y f g
one_reading bytes x y (inr (few, inr f)) (inr (more, inl g)) = apart bytes y x g f
one_reading bytes x y (inr (few, inr f)) (inr (more, inr g)) = one_spelled bytes x y few f g

-- an archive is not refused
pub read_refused : {A : Type 0} (a : Archive) (r : Resolved) (x : Refusal) → evaluable a r ≡ refused x → A
read_refused a r x e = absurd (subst is_read e tt)
  where
    is_read : Reading → Type 0
    is_read (evaluable a r) = Unit {0}
    is_read (refused x) = ⊥

archive_in : Archive → Reading → Archive
archive_in d (evaluable a r) = a
archive_in d (refused x) = d

instances_in : Resolved → Reading → Resolved
instances_in d (evaluable a r) = r
instances_in d (refused x) = d

-- an archive that is read is spelled by the bytes
pub record IsSpelling (bytes : List ℕ) (a : Archive) (r : Resolved) : Type 0 where
  pub few : length bytes ≤ ARCHIVE_BYTES
  pub archive : IsArchiveOf bytes a r

resolved_by : (b : Archive) (answer : Result Resolved ResolveFault) (a : Archive) (r : Resolved)
    → IsRead b answer (evaluable a r) → (b ≡ a) × (answer ≡ Ok r)
unfolding archive_in instances_in
resolved_by b (Ok q) a r e = (sym (ap (archive_in b) e), sym (ap (λ x. Ok (instances_in q x)) e))
resolved_by b (Err (resolve.Bad kind at)) a r e = read_refused a r (Fault kind at) e
resolved_by b (Err (resolve.Limit which value)) a r e = read_refused a r _ e
resolved_by b (Err resolve.NoMemory) a r e = absurd e

shaped_by : (answer : Result Archive ShapeFault) (a : Archive) (r : Resolved) → IsShaped answer (evaluable a r)
    → (answer ≡ Ok a) × (resolved a ≡ Ok r)
shaped_by (Ok b) a r e =
    let s = resolved_by b (resolved b) a r e in
    (ap Ok s.0, sym (ap resolved s.0) ∙ s.1)
shaped_by (Err (shape.Bad kind at)) a r e = read_refused a r (Fault kind at) e
shaped_by (Err shape.NoMemory) a r e = absurd e

pub spelled_by : (bytes : List ℕ) (a : Archive) (r : Resolved) → IsReadingOf bytes (evaluable a r)
    → IsSpelling bytes a r
spelled_by bytes a r (inl large) = read_refused a r _ large.1
spelled_by bytes a r (inr (few, inl faulty)) = read_refused a r _ faulty.refused_is
spelled_by bytes a r (inr (few, inr spelled)) =
    let s = shaped_by (shape_of spelled.tree) a r spelled.shaped in
    record {
      few = few;
      archive = record { tree = spelled.tree; spelled = spelled.spelled; shape = s.0; resolved_is = s.1 };
    }

-- and the other way
pub reading_by : (bytes : List ℕ) (a : Archive) (r : Resolved) → length bytes ≤ ARCHIVE_BYTES → IsArchiveOf bytes a r
    → IsReadingOf bytes (evaluable a r)
reading_by bytes a r few is =
    inr (
      few,
      inr (record {
        tree = is.tree;
        spelled = is.spelled;
        shaped = subst (λ answer. IsShaped answer (evaluable a r)) (sym is.shape)
            (subst (λ answer. IsRead a answer (evaluable a r)) (sym is.resolved_is) refl);
      }),
    )
