-- The first fault is the row at the least place.
use Rattle.std.proofs.Common.{◌≡◌, ◌≤◌, ℕ, List, Err, inl, inr, sym, ◌∙◌, subst, arith}
use Rattle.std.specs.Str.{IsUtf8}
use Rattle.xhstt_text.specs.Machine.{outcome_of}
use Rattle.xhstt_text.specs.declared.faults.TextFault.{TextFault}
use Rattle.xhstt_text.specs.declared.faults.TextFault.TheVariants.{Bad, NoMemory}
use Rattle.fault_tables.specs.declared.faults.TheConstants.{BAD_MARKUP, BAD_REFERENCE, MISMATCHED_END, NOT_UTF8}
use Rattle.fault_tables.specs.declared.faults.TheConstants.{TOO_DEEP, UNSUPPORTED}
use Rattle.xhstt_text.specs.FirstFault.{IsFirstFault}
use Rattle.xhstt_text.proofs.Answer.{not_text, one_first, same_fault}
use Rattle.text_fault_laws.specs.Rows.{ComesBefore, IsBad, IsFaultAt, IsLeastFault, IsMarkupFault, IsUnsupported}
use Rattle.text_fault_laws.proofs.Endings.{deep_ends, mismatch_ends, misrefer_ends}
use Rattle.text_fault_laws.proofs.Naming.{colon_leads}
use Rattle.text_fault_laws.proofs.Openings.{instruction_ends, other_markup_ends}
use Rattle.text_fault_laws.proofs.Repeating.{repeat_ends}
use Rattle.text_fault_laws.proofs.Stands.{ends_in_row}
use Rattle.text_fault_laws.proofs.Stopping.{Earlier, Leads, early_leads, leads_to, stop_leads}

-- the first fault is a row
first_row : (bytes : List ℕ) (kind at : ℕ) → IsFirstFault bytes kind at → IsFaultAt bytes kind at
first_row bytes kind at (inl h) = inl h
first_row bytes kind at (inr h) = inr (h.0, ends_in_row bytes (Bad kind at) h.1)

-- where a row is, the machine ends in a fault that does not come after it
bad_leads : (bytes : List ℕ) (at : ℕ) → IsBad bytes at → Leads bytes BAD_MARKUP at
bad_leads bytes at (inl h) = stop_leads bytes at h
bad_leads bytes at (inr (inl h)) = early_leads bytes at h
bad_leads bytes at (inr (inr h)) = leads_to bytes BAD_MARKUP at (repeat_ends bytes at h)

unsupported_leads : (bytes : List ℕ) (at : ℕ) → IsUnsupported bytes at → Leads bytes UNSUPPORTED at
unsupported_leads bytes at (inl h) = colon_leads bytes at h
unsupported_leads bytes at (inr (inl h)) = leads_to bytes UNSUPPORTED at (instruction_ends bytes at h)
unsupported_leads bytes at (inr (inr h)) = leads_to bytes UNSUPPORTED at (other_markup_ends bytes at h)

row_leads : (bytes : List ℕ) (kind at : ℕ) → IsMarkupFault bytes kind at → Leads bytes kind at
row_leads bytes kind at (inl h) = subst (λ k. Leads bytes k at) (sym h.0) (bad_leads bytes at h.1)
row_leads bytes kind at (inr (inl h)) =
    subst (λ k. Leads bytes k at) (sym h.0) (leads_to bytes MISMATCHED_END at (mismatch_ends bytes at h.1))
row_leads bytes kind at (inr (inr (inl h))) =
    subst (λ k. Leads bytes k at) (sym h.0) (leads_to bytes BAD_REFERENCE at (misrefer_ends bytes at h.1))
row_leads bytes kind at (inr (inr (inr (inl h)))) =
    subst (λ k. Leads bytes k at) (sym h.0) (unsupported_leads bytes at h.1)
row_leads bytes kind at (inr (inr (inr (inr h)))) =
    subst (λ k. Leads bytes k at) (sym h.0) (leads_to bytes TOO_DEEP at (deep_ends bytes at h.1))

utf8_apart : (kind other : ℕ) → kind ≡ NOT_UTF8 → ComesBefore kind other → ⊥
utf8_apart kind other h c = let e : UNSUPPORTED ≡ NOT_UTF8 = sym c.0 ∙ h in omega (arith, e)

markup_apart : (kind other : ℕ) → kind ≡ other → ComesBefore other kind → ⊥
markup_apart kind other h c = let e : BAD_MARKUP ≡ UNSUPPORTED = sym c.1 ∙ h ∙ c.0 in omega (arith, e)

not_both : (kind other : ℕ) → ComesBefore kind other → ComesBefore other kind → ⊥
not_both kind other c d = let e : UNSUPPORTED ≡ BAD_MARKUP = sym c.0 ∙ d.1 in omega (arith, e)

-- what the fault that the machine ends in leaves for a row
abbrev Later : ℕ → ℕ → ℕ → ℕ → Type 0
Later kind at other place = (at ≤ place) × (place ≡ at → ComesBefore other kind → ⊥)

not_before : (kind at other place : ℕ) → Earlier (Bad kind at) other place → Later kind at other place
not_before kind at other place (inl less) = (
  omega (arith, less),
  (λ same c. let e : place ≡ at = same in omega (arith, e, less)),
)
not_before kind at other place (inr (same, inl is)) = (omega (arith, same), (λ _ c. markup_apart kind other is c))
not_before kind at other place (inr (same, inr c)) = (omega (arith, same), (λ _ d. not_both kind other c d))

later : (bytes : List ℕ) (kind at other place : ℕ) → IsFirstFault bytes kind at → IsFaultAt bytes other place
    → Later kind at other place
later bytes kind at other place (inl h) (inl k) =
    let same = one_first bytes kind at other place (inl h) (inl k) in
    (omega (arith, same.1), (λ _ c. utf8_apart other kind k.0 c))
later bytes kind at other place (inl h) (inr k) = absurd (not_text bytes at h.1 k.0)
later bytes kind at other place (inr h) (inl k) = absurd (not_text bytes place k.1 h.0)
later bytes kind at other place (inr h) (inr k) =
    let l = row_leads bytes other place k.1 in
    let same : l.0 ≡ Bad kind at = same_fault (outcome_of bytes) l.0 (Bad kind at) l.1 h.1 in
    not_before kind at other place (subst (λ f. Earlier f other place) same l.2)

-- the first fault is the least row
pub first_least : (bytes : List ℕ) (kind at : ℕ) → IsFirstFault bytes kind at → IsLeastFault bytes kind at
first_least bytes kind at h =
    (first_row bytes kind at h, (λ other place k. later bytes kind at other place h k))

-- and the least row is the first fault
abbrev Least : List ℕ → ℕ → ℕ → Type 0
Least bytes kind at = (other place : ℕ) → IsFaultAt bytes other place → Later kind at other place

least_here : (bytes : List ℕ) (kind at : ℕ) (f : TextFault) → IsUtf8 bytes → outcome_of bytes ≡ Err f
    → Earlier f kind at → Least bytes kind at → IsFirstFault bytes kind at
least_here bytes kind at NoMemory u e k least = absurd k
least_here bytes kind at (Bad found place) u e k least =
    let first : IsFirstFault bytes found place = inr (u, e) in
    let none : Later kind at found place = least found place (first_row bytes found place first) in
    elim k [
      | inl less ↦ absurd (let n : at ≤ place = none.0 in omega (arith, less, n))
      | inr (same, inl is) ↦ subst (λ n. IsFirstFault bytes kind n) same
          (subst (λ k. IsFirstFault bytes k place) is first)
      | inr (same, inr c) ↦ absurd (none.1 same c)
    ]

pub least_first : (bytes : List ℕ) (kind at : ℕ) → IsLeastFault bytes kind at → IsFirstFault bytes kind at
least_first bytes kind at (inl h, least) = inl h
least_first bytes kind at (inr (u, k), least) =
    let l = row_leads bytes kind at k in least_here bytes kind at l.0 u l.1 l.2 least
