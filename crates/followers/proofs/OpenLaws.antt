-- A timetable without ties and without marks.
use Rattle.std.proofs.Common.{ℕ, zero, suc, ◌≡◌, Option, Some, None, List, [], length, replicate, refl, sym, subst, ◌∙◌}
use Rattle.std.specs.List.{sum_by}
use Rattle.std.proofs.lemmas.List.{length-replicate}
use Rattle.khe_instance.specs.declared.parts.EventInfo.{EventInfo}
use Rattle.khe_instance.specs.declared.parts.Parts.{Parts}
use Rattle.khe_told.specs.Valid.{AreValid}
use Rattle.khe_engine.specs.States.{State}
use Rattle.khe_engine.proofs.OpeningLaws.{slots_number}
use Rattle.followers.specs.Records.{IsKept}
use Rattle.followers.specs.Ties.{tie_at}
use Rattle.followers.specs.declared.edits.Tie.{Tie}
use Rattle.followers.specs.declared.records.Before.{Before}

none_tied : (n k : ℕ) → tie_at (replicate n None) k ≡ None
none_tied zero k = refl
none_tied (suc n) zero = refl
none_tied (suc n) (suc k) = none_tied n k

-- how many ties there is room for
pub as_many : (p : Parts) (s : State) (n : ℕ) → AreValid p s.slots
    → n ≡ sum_by (λ (e : EventInfo). e.duration) p.events → n ≡ length s.slots
as_many p s n v e = e ∙ sym (slots_number p s.slots v.told)

pub open_kept : (p : Parts) (s : State) (ties : List (Option Tie)) (states : List State) (since : List (List Before)) (n : ℕ)
    → AreValid p s.slots → n ≡ length s.slots → ties ≡ replicate n None → states ≡ [] → since ≡ []
    → IsKept p s ties states since
open_kept p s ties states since n v l t f g =
    subst (λ x. IsKept p s x states since) (sym t) (subst (λ x. IsKept p s (replicate n None) x since) (sym f)
    (subst (IsKept p s (replicate n None) []) (sym g) (record {
      now = record {
        valid = v;
        long = length-replicate n None ∙ l;
        each = λ k y e. let q : None ≡ Some y = sym (none_tied n k) ∙ e in let z : ⊥ = cc in absurd z;
      };
      then = tt;
      steps = refl;
      within = tt;
    })))
