-- What the bytes of an archive lead to is one thing alone.
use Rattle.std.proofs.Common.{ℕ, ◌≡◌, ◌≤◌, inl, inr, Result, Ok, Err, List, length, refl, sym, ap, subst, ◌∙◌, arith}
use Rattle.std.specs.Result.{IfErr, IsErrAnd}
use Rattle.khe_base.specs.declared.limits.TheConstants.{ARCHIVE_BYTES}
use Rattle.archive_reading.specs.Reading.{IsRead, IsReadingOf, IsShaped, Reading, evaluable, refused}
use Rattle.archive_reading.specs.Steps.{IsUnread, IsUnshaped, of_resolve, of_shape, of_text}
use Rattle.archive_reading.specs.declared.reading.Unread.{Unread}
use Rattle.archive_reading.specs.declared.reading.Unread.TheVariants.{Refused, NoMemory}
use Rattle.archive_reading.specs.declared.refusals.Refusal.{Refusal}
use Rattle.xhstt_resolve.specs.Answers.{IsFaultOf}
use Rattle.xhstt_resolve.specs.Resolved.{resolved}
use Rattle.xhstt_resolve.specs.declared.faults.ResolveFault.{ResolveFault}
use Rattle.xhstt_resolve.specs.declared.faults.ResolveFault.TheVariants as resolve
use Rattle.xhstt_resolve.specs.declared.resolving.Resolved.{Resolved}
use Rattle.xhstt_shape.specs.Shape.{shape_of}
use Rattle.xhstt_shape.specs.declared.faults.ShapeFault.{ShapeFault}
use Rattle.xhstt_shape.specs.declared.faults.ShapeFault.TheVariants as shape
use Rattle.xhstt_shape.specs.declared.records.Archive.{Archive}
use Rattle.xhstt_text.specs.Document.{Document, IsSpellingOf, Spelled}
use Rattle.xhstt_text.specs.FirstFault.{IsFirstFault}
use Rattle.xhstt_text.specs.Forest.{Forest}
use Rattle.xhstt_text.specs.declared.faults.TextFault.{TextFault}
use Rattle.xhstt_text.specs.declared.faults.TextFault.TheVariants as text

-- an archive is not refused
read_refused : (a : Archive) (r : Resolved) (x : Refusal) → evaluable a r ≡ refused x → ⊥
read_refused a r x e = subst is_read e tt
  where
    is_read : Reading → Type 0
    is_read (evaluable a r) = Unit {0}
    is_read (refused x) = ⊥

-- an error that is passed on as this one
pub passed : {A : Type 0} (r : Result A Unread) (u : Unread) (P : Unread → Type 0) → IsErrAnd r (λ y. y ≡ u) → P u
    → IfErr r P
passed (Ok x) u P h p = tt
passed (Err y) u P h p = subst P (sym h) p

-- bytes with a fault spell nothing, and so no archive
pub unshaped_text : (bytes : List ℕ) (fault : TextFault)
    → ((kind at : ℕ) → fault ≡ text.Bad kind at → (d : Document) → IsSpellingOf bytes d → ⊥)
    → IsUnshaped bytes (of_text fault)
unshaped_text bytes (text.Bad kind at) h = λ t a s e. h kind at refl s.0 s.1
unshaped_text bytes text.NoMemory h = tt

-- a tree with a fault of its shape has no archive, and is the only one
pub unshaped_tree : (bytes : List ℕ) (tree : Forest) (fault : ShapeFault) → ((f : Forest) → Spelled bytes f → tree ≡ f)
    → ((kind at : ℕ) → fault ≡ shape.Bad kind at → shape_of tree ≡ Err fault)
    → IsUnshaped bytes (of_shape fault)
unshaped_tree bytes tree (shape.Bad kind at) one h =
    λ t a s e. apart a (sym (h kind at refl) ∙ ap shape_of (one t s) ∙ e)
  where
    apart : (a : Archive) → Err (shape.Bad kind at) ≡ Ok a → ⊥
    apart a k = let g : ⊥ = cc in g
unshaped_tree bytes tree shape.NoMemory one h = tt

-- the only archive of the bytes
pub shaped_only : (bytes : List ℕ) (tree : Forest) (a : Archive) → ((f : Forest) → Spelled bytes f → tree ≡ f)
    → shape_of tree ≡ Ok a → (t : Forest) → Spelled bytes t → shape_of t ≡ Ok a
shaped_only bytes tree a one e t s = ap shape_of (sym (one t s)) ∙ e

-- an archive that is read is that of a tree
shaped : (answer : Result Archive ShapeFault) (a : Archive) (r : Resolved) → IsShaped answer (evaluable a r)
    → (b : Archive) × (answer ≡ Ok b) × IsRead b (resolved b) (evaluable a r)
shaped (Ok b) a r h = (b, refl, h)
shaped (Err (shape.Bad kind at)) a r h = absurd (read_refused a r _ h)
shaped (Err shape.NoMemory) a r h = absurd h

pub unread_tree : (bytes : List ℕ) (u : Unread) → length bytes ≤ ARCHIVE_BYTES → IsUnshaped bytes u → IsUnread bytes u
unread_tree bytes (Refused refusal) few h = λ a r is. by a r is
  where
    by : (a : Archive) (r : Resolved) → IsReadingOf bytes (evaluable a r) → ⊥
    by a r (inl large) = let l = large.0 in omega (arith, few, l)
    by a r (inr (m, inl faulty)) = read_refused a r _ faulty.refused_is
    by a r (inr (m, inr spelled)) = let s = shaped (shape_of spelled.tree) a r spelled.shaped in
        h spelled.tree s.0 spelled.spelled s.1
unread_tree bytes NoMemory few h = tt

-- an archive that is not resolved
unresolved_read : (b : Archive) (answer : Result Resolved ResolveFault) (fault : ResolveFault) (a : Archive)
    (r : Resolved) → answer ≡ Err fault → IsRead b answer (evaluable a r) → ⊥
unresolved_read b answer (resolve.Bad kind at) a r e h =
    read_refused a r _ (subst (λ q. IsRead b q (evaluable a r)) e h)
unresolved_read b answer (resolve.Limit which value) a r e h =
    read_refused a r _ (subst (λ q. IsRead b q (evaluable a r)) e h)
unresolved_read b answer resolve.NoMemory a r e h = subst (λ q. IsRead b q (evaluable a r)) e h

same_archive : (x y : Archive) → ◌≡◌ {A = Result Archive ShapeFault} (Ok x) (Ok y) → x ≡ y
same_archive x y e = ap value e
  where
    value : Result Archive ShapeFault → Archive
    value (Ok z) = z
    value (Err f) = x

unread_by : (bytes : List ℕ) (b : Archive) (fault : ResolveFault) → length bytes ≤ ARCHIVE_BYTES
    → ((t : Forest) → Spelled bytes t → shape_of t ≡ Ok b)
    → resolved b ≡ Err fault → (a : Archive) (r : Resolved) → IsReadingOf bytes (evaluable a r) → ⊥
unread_by bytes b fault few one h a r (inl large) = let l = large.0 in omega (arith, few, l)
unread_by bytes b fault few one h a r (inr (m, inl faulty)) = read_refused a r _ faulty.refused_is
unread_by bytes b fault few one h a r (inr (m, inr spelled)) =
    let s = shaped (shape_of spelled.tree) a r spelled.shaped in
    let same : s.0 ≡ b = same_archive s.0 b (sym s.1 ∙ one spelled.tree spelled.spelled) in
    unresolved_read s.0 (resolved s.0) fault a r (ap resolved same ∙ h) s.2

pub unread_resolved : (bytes : List ℕ) (b : Archive) (fault : ResolveFault) → length bytes ≤ ARCHIVE_BYTES
    → ((t : Forest) → Spelled bytes t → shape_of t ≡ Ok b)
    → IsFaultOf (resolved b) fault → IsUnread bytes (of_resolve fault)
unread_resolved bytes b (resolve.Bad kind at) few one h =
    λ a r is. unread_by bytes b (resolve.Bad kind at) few one h a r is
unread_resolved bytes b (resolve.Limit which value) few one h =
    λ a r is. unread_by bytes b (resolve.Limit which value) few one h a r is
unread_resolved bytes b resolve.NoMemory few one h = tt

-- the only reading of the bytes of an archive that is read
pub read_only : (bytes : List ℕ) (b : Archive) (q : Resolved) → length bytes ≤ ARCHIVE_BYTES
    → ((kind at : ℕ) → IsFirstFault bytes kind at → ⊥)
    → ((t : Forest) → Spelled bytes t → shape_of t ≡ Ok b) → resolved b ≡ Ok q → (x : Reading) → IsReadingOf bytes x
    → x ≡ evaluable b q
read_only bytes b q few sound one is x (inl large) = absurd (let l = large.0 in omega (arith, few, l))
read_only bytes b q few sound one is x (inr (m, inl faulty)) = absurd (sound faulty.kind faulty.at faulty.first)
read_only bytes b q few sound one is x (inr (m, inr spelled)) =
    subst (λ answer. IsRead b answer x) is (subst (λ answer. IsShaped answer x) (one spelled.tree spelled.spelled)
    spelled.shaped)
