-- The bits of meets with ties.
use Rattle.std.proofs.Common.{ℕ, ◌≡◌, ◌+◌, ◌/◌, ◌<◌, ◌^◌, Bool, true, false, Option, None, List, length, set}
use Rattle.std.proofs.Common.{replicate, sym, ap, ◌∙◌, arith, inl, inr, nat_eq, if◌then◌else◌}
use Rattle.std.specs.Prelude.{is_some}
use Rattle.std.proofs.lemmas.Bool.{cases_lt, eq-eqb, ne_eqb}
use Rattle.std.proofs.lemmas.List.{get_or_past, length-replicate, length-set}
use Rattle.khe_base.specs.Bits.{is_set}
use Rattle.khe_base.proofs.BitsLemmas.{is_set-zeros}
use Rattle.khe_solution.proofs.Basics.{cases_eq, no_value, true-false}
use Rattle.followers.specs.Rows.{AreMarked}
use Rattle.followers.specs.Ties.{follows, tie_at}
use Rattle.followers.specs.declared.edits.Tie.{Tie}
use Rattle.followers.proofs.LinkLaws.{no_tie, tie_here, tie_other}

pub marked_none : (n : ℕ) (words : List ℕ) → n < 2 ^ 32 → words ≡ replicate (n / 64 + 1) 0
    → AreMarked (replicate n None) words
marked_none n words small is =
    let long = ap length is ∙ length-replicate (n / 64 + 1) 0 in
    let many = length-replicate {A = Option Tie} n None in
    record {
      room = omega (arith, long, many);
      few = omega (arith, long, small);
      bits = λ m. ap (λ xs. is_set xs m) is ∙ is_set-zeros (n / 64 + 1) m ∙ sym (ap is_some (no_tie n m));
    }

pub set_again : (ties more : List (Option Tie)) (words bits : List ℕ) (m : ℕ) (o : Option Tie) (b : Bool)
    → AreMarked ties words → m < length ties → more ≡ set ties m o → b ≡ is_some o → length bits ≡ length words
    → ((k : ℕ) → is_set bits k ≡ (if nat_eq k m then b else is_set words k)) → AreMarked more bits
set_again ties more words bits m o b marked l is tied long all = record {
  room = let n = ap length is ∙ length-set ties m o in omega (arith, marked.room, n, long);
  few = omega (arith, marked.few, long);
  bits = λ k. elim (cases_eq k m) [
    | inl x ↦
        all k ∙ ap (λ c. if c then b else is_set words k) (eq-eqb k m x) ∙ tied
        ∙ sym (ap is_some (ap (tie_at more) x ∙ ap (λ t. tie_at t m) is ∙ tie_here ties m o l))
    | inr x ↦
        all k ∙ ap (λ c. if c then b else is_set words k) (ne_eqb k m x) ∙ marked.bits k
        ∙ sym (ap is_some (ap (λ t. tie_at t k) is ∙ tie_other ties m k o x))
  ];
}

pub no_tie_at : (ties : List (Option Tie)) (words : List ℕ) (m : ℕ) → AreMarked ties words → is_set words m ≡ false
    → tie_at ties m ≡ None
no_tie_at ties words m marked h = no_value (tie_at ties m) (sym (marked.bits m) ∙ h)

pub tie_there : (ties : List (Option Tie)) (m : ℕ) → follows ties m ≡ true → m < length ties
tie_there ties m h = elim (cases_lt m (length ties)) [
  | inl l ↦ l
  | inr g ↦ absurd (true-false (sym h ∙ ap is_some (get_or_past ties m None g)))
]
