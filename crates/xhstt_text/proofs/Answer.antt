-- What the reader answers, from what the machine does.
use Rattle.std.proofs.Common.{◌≡◌, ◌<◌, ℕ, List, [], length, Result, Ok, Err, refl, sym, ◌∙◌, ap, subst, IfOk, arith}
use Rattle.std.proofs.Common.{◌⊎◌, inl, inr}
use Rattle.xhstt_text.specs.declared.faults.TextFault.{TextFault}
use Rattle.xhstt_text.specs.declared.faults.TextFault.TheVariants.{Bad, NoMemory}
use Rattle.xhstt_text.specs.declared.tree.Attribute.{Attribute}
use Rattle.xhstt_text.specs.declared.tree.Node.{Node}
use Rattle.xhstt_text.specs.Document.{Document, IsDocument, IsSpellingOf, Rows, Spells, spelling, table}
use Rattle.xhstt_text.specs.Machine.{beginning, outcome_of, Outcome}
use Rattle.xhstt_text.specs.Reading.{Leads}
use Rattle.std.specs.Str.{IsUtf8, IsValidUpTo}
use Rattle.std.proofs.lemmas.Str.{utf8_valid_len-IsValidUpTo, utf8_valid_len-IsUtf8}
use Rattle.xhstt_text.specs.FirstFault.{IsFirstFault, IsText, HasFault, HasLastingFaults}
use Rattle.fault_tables.specs.declared.faults.TheConstants.{NOT_UTF8}
use Rattle.xhstt_text.proofs.Complete.{run_document}
use Rattle.xhstt_text.proofs.Sound.{document_from}
use Rattle.xhstt_text.proofs.Lasting.{lasts}
use Rattle.xhstt_text.proofs.Total.{told}

same_rows : (bytes : List ℕ) (rows : Rows) → outcome_of bytes ≡ Ok rows → (d : Document) → IsDocument d
    → bytes ≡ spelling d → table d ≡ rows
same_rows bytes rows e d h same =
    let whole : Outcome = Ok rows in let k : Ok (table d) ≡ whole =
    sym (run_document d h) ∙ ap outcome_of (sym same) ∙ e in cc

abbrev Exact : {T : Type 0} → List ℕ → Result T TextFault → (T → List Node) → (T → List Attribute) → Type 0
Exact bytes r nodes attributes = Leads r (outcome_of bytes)
    (λ t. Ok (record { nodes = nodes t; attributes = attributes t }))

pub spelled : {T : Type 0} (bytes : List ℕ) (r : Result T TextFault) (nodes : T → List Node)
    (attributes : T → List Attribute) → IsUtf8 bytes → Exact bytes r nodes attributes
    → IfOk r (λ t. Spells bytes (record { nodes = nodes t; attributes = attributes t }))
spelled bytes (Ok t) nodes attributes u e =
    let rows : Rows = record { nodes = nodes t; attributes = attributes t } in
    let d = document_from bytes rows e in
    (d.0, (u, d.1, d.2), sym (same_rows bytes rows e d.0 d.1 d.2))
spelled bytes (Err f) nodes attributes u e = tt

pub alone : {T : Type 0} (bytes : List ℕ) (r : Result T TextFault) (nodes : T → List Node)
    (attributes : T → List Attribute) → Exact bytes r nodes attributes
    → IfOk r (λ t. (d : Document) → IsSpellingOf bytes d
    → table d ≡ record { nodes = nodes t; attributes = attributes t })
alone bytes (Ok t) nodes attributes e = λ d h. same_rows bytes (record { nodes = nodes t; attributes = attributes t }) e
    d h.1 h.2
alone bytes (Err f) nodes attributes e = tt

-- bytes with a fault spell no document
pub faulty : (bytes : List ℕ) (f : TextFault) → outcome_of bytes ≡ Err f → (d : Document) → IsDocument d
    → bytes ≡ spelling d → ⊥
faulty bytes f e d h same =
    let k : Ok (table d) ≡ outcome_of bytes = sym (run_document d h) ∙ ap outcome_of (sym same) in cc

pub not_text : (bytes : List ℕ) (at : ℕ) → IsValidUpTo bytes at → IsUtf8 bytes → ⊥
not_text bytes at v u =
    let short : at < length bytes = v.short in
    let whole : at ≡ length bytes = sym (utf8_valid_len-IsValidUpTo bytes at v) ∙ utf8_valid_len-IsUtf8 bytes u in
    omega arith

pub unspelled : (bytes : List ℕ) (kind at : ℕ) → IsFirstFault bytes kind at → (d : Document) → IsSpellingOf bytes d → ⊥
unspelled bytes kind at (inl h) d s = not_text bytes at h.1 s.0
unspelled bytes kind at (inr h) d s = faulty bytes (Bad kind at) h.1 d s.1 s.2

pub same_fault : (o : Outcome) (f g : TextFault) → o ≡ Err f → o ≡ Err g → f ≡ g
same_fault o f g e d = cc

no_both : {G : Type 0} (o : Outcome) (rows : Rows) (f : TextFault) → o ≡ Ok rows → o ≡ Err f → G
no_both o rows f e d = cc

fault_in : {T : Type 0} (f g : TextFault) (r : Result T TextFault) → r ≡ Err f → r ≡ Err g → f ≡ g
fault_in f g r e d = cc

pub same_parts : (k a kind at : ℕ) → Bad k a ≡ Bad kind at → (k ≡ kind) × (a ≡ at)
same_parts k a kind at e = (cc, cc)

abbrev failing : {T : Type 0} → TextFault → Result T TextFault
failing f = Err f

-- the reader's fault is the first, where the bytes are UTF-8
pub first_fault : {T : Type 0} (bytes : List ℕ) (r : Result T TextFault) (nodes : T → List Node)
    (attributes : T → List Attribute) → IsUtf8 bytes → Exact bytes r nodes attributes → (kind at : ℕ)
    → r ≡ Err (Bad kind at) → IsFirstFault bytes kind at
first_fault bytes (Ok t) nodes attributes u e kind at is = cc
first_fault bytes (Err (Bad k a)) nodes attributes u e kind at is =
    let same : Bad k a ≡ Bad kind at = cc in
    inr (u, subst (λ (f : TextFault). outcome_of bytes ≡ Err f) same e)
first_fault bytes (Err NoMemory) nodes attributes u e kind at is = cc

pub fault_answered : {T : Type 0} (bytes : List ℕ) (r : Result T TextFault) (nodes : T → List Node)
    (attributes : T → List Attribute) → IsUtf8 bytes → Exact bytes r nodes attributes → (kind at : ℕ)
    → IsFirstFault bytes kind at → (r ≡ Err (Bad kind at)) ⊎ (r ≡ Err NoMemory)
fault_answered bytes r nodes attributes u e kind at (inl h) = absurd (not_text bytes at h.1 u)
fault_answered bytes (Ok t) nodes attributes u e kind at (inr h) =
    no_both (outcome_of bytes) (record { nodes = nodes t; attributes = attributes t }) (Bad kind at) e h.1
fault_answered bytes (Err (Bad k a)) nodes attributes u e kind at (inr h) =
    inl (ap failing (same_fault (outcome_of bytes) (Bad k a) (Bad kind at) e h.1))
fault_answered bytes (Err NoMemory) nodes attributes u e kind at (inr h) = inr refl

-- where they are not
pub utf8_answered : {T : Type 0} (bytes : List ℕ) (place : ℕ) (r : Result T TextFault) → r ≡ Err (Bad NOT_UTF8 place)
    → IsValidUpTo bytes place → (kind at : ℕ) → IsFirstFault bytes kind at
    → (r ≡ Err (Bad kind at)) ⊎ (r ≡ Err NoMemory)
utf8_answered bytes place r e v kind at (inl h) =
    let same : place ≡ at = sym (utf8_valid_len-IsValidUpTo bytes place v) ∙ utf8_valid_len-IsValidUpTo bytes at h.1 in
    inl (e ∙ ap (λ n. failing (Bad NOT_UTF8 n)) same ∙ ap (λ k. failing (Bad k at)) (sym h.0))
utf8_answered bytes place r e v kind at (inr h) = absurd (not_text bytes place v h.0)

pub utf8_fault : {T : Type 0} (bytes : List ℕ) (place : ℕ) (r : Result T TextFault) → r ≡ Err (Bad NOT_UTF8 place)
    → IsValidUpTo bytes place → (kind at : ℕ) → r ≡ Err (Bad kind at) → IsFirstFault bytes kind at
utf8_fault bytes place r e v kind at is =
    let same = same_parts kind at NOT_UTF8 place (fault_in (Bad kind at) (Bad NOT_UTF8 place) r is e) in
    inl (same.0, subst (IsValidUpTo bytes) (sym same.1) v)

-- there is no other
pub one_first : (bytes : List ℕ) (kind at other place : ℕ) → IsFirstFault bytes kind at → IsFirstFault bytes other place
    → (kind ≡ other) × (at ≡ place)
one_first bytes kind at other place (inl h) (inl k) =
    (h.0 ∙ sym k.0, sym (utf8_valid_len-IsValidUpTo bytes at h.1) ∙ utf8_valid_len-IsValidUpTo bytes place k.1)
one_first bytes kind at other place (inl h) (inr k) = absurd (not_text bytes at h.1 k.0)
one_first bytes kind at other place (inr h) (inl k) = absurd (not_text bytes place k.1 h.0)
one_first bytes kind at other place (inr h) (inr k) =
    same_parts kind at other place (same_fault (outcome_of bytes) (Bad kind at) (Bad other place) h.1 k.1)

-- and there is one where there is no text
pub decides : (bytes : List ℕ) → IsUtf8 bytes → IsText bytes ⊎ HasFault bytes
decides bytes u = elim (told bytes) [
  | inl d ↦ inl (d.0, (u, d.1, d.2))
  | inr f ↦ inr (f.0, f.1, inr (u, f.2))
]

-- it stays the first
pub lasting : (bytes : List ℕ) → HasLastingFaults bytes
lasting bytes kind at more n m (inl h) u = absurd (n h.0)
lasting bytes kind at more n m (inr h) u =
    inr (u, lasts bytes beginning (record { frames = []; nodes = []; attributes = [] }) 0 kind at more m h.1)
