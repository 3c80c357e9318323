-- Where a solution stands among the groups that are left.
use Rattle.std.proofs.Common.{ℕ, suc, ◌≡◌, ◌+◌, ◌-◌, ◌<◌, ◌≤◌, Bool, true, false, if◌then◌else◌, None, Some, List, []}
use Rattle.std.proofs.Common.{◌∷◌}
use Rattle.std.proofs.Common.{◌++◌, length, drop, slice_get, slice_set, flat_map, sym, ap, ◌∙◌, refl, arith, nat_lt}
use Rattle.std.proofs.lemmas.Bool.Decides.{nat_tests}
use Rattle.xhstt_completion.proofs.PartsLemmas.{slice_get-append_left, slice_get-append_right}
use Rattle.xhstt_shape.specs.declared.records.RawSolution.{RawSolution}
use Rattle.xhstt_shape.specs.declared.records.SolutionGroup.{SolutionGroup}
use Rattle.repair_run.specs.Placed.{IsSpot, group_with, groups_with}
use Rattle.repair_run.specs.declared.placing.Spot.{Spot}

-- all solutions of groups
abbrev solutions : List SolutionGroup → List RawSolution
solutions gs = flat_map (λ g. g.solutions) gs

-- a solution in the first group, and one after it
here : (raw : RawSolution) (n : ℕ) (g : SolutionGroup) (gs : List SolutionGroup) → n < length g.solutions
    → groups_with raw n (g ∷ gs) ≡ group_with raw n g ∷ gs
unfolding groups_with
here raw n g gs l =
    let e : nat_lt n (length g.solutions) ≡ true = grind (arith, nat_tests) in
    ap (λ b. if b then group_with raw n g ∷ gs else g ∷ groups_with raw (n - length g.solutions) gs) e

past : (raw : RawSolution) (n : ℕ) (g : SolutionGroup) (gs : List SolutionGroup) → length g.solutions ≤ n
    → groups_with raw n (g ∷ gs) ≡ g ∷ groups_with raw (n - length g.solutions) gs
unfolding groups_with
past raw n g gs l =
    let e : nat_lt n (length g.solutions) ≡ false = grind (arith, nat_tests) in
    ap (λ b. if b then group_with raw n g ∷ gs else g ∷ groups_with raw (n - length g.solutions) gs) e

-- the solution with a number among all groups is the one with another among those from a place on
pub record IsAhead (gs : List SolutionGroup) (n i left : ℕ) : Type 0 where
  pub found : slice_get (flat_map (λ (g : SolutionGroup). g.solutions) (drop i gs)) left
      ≡ slice_get (flat_map (λ (g : SolutionGroup). g.solutions) gs) n
  pub with : (raw : RawSolution) (k : ℕ) (y : SolutionGroup) → groups_with raw left (drop i gs)
      ≡ slice_set (drop i gs) k y → groups_with raw n gs ≡ slice_set gs (i + k) y

pub ahead_first : (gs : List SolutionGroup) (n : ℕ) → IsAhead gs n 0 n
ahead_first gs n = record {
  found = refl;
  with = λ raw k y e. e ∙ ap (λ j. slice_set gs j y) (let z : k ≡ 0 + k = omega arith in z);
}

pub ahead_next : (gs : List SolutionGroup) (n i left : ℕ) (g : SolutionGroup) → IsAhead gs n i left
    → drop i gs ≡ g ∷ drop (i + 1) gs → length g.solutions ≤ left
    → IsAhead gs n (i + 1) (left - length g.solutions)
ahead_next gs n i left g ahead next l =
    let rest = drop (i + 1) gs in
    record {
      found = sym (slice_get-append_right g.solutions (solutions rest) left l)
          ∙ ap (λ (xs : List SolutionGroup). slice_get (solutions xs) left) (sym next)
          ∙ ahead.found;
      with = λ raw k y e.
          ahead.with raw (suc k) y
          (ap (groups_with raw left) next ∙ past raw left g rest l ∙ ap (λ xs. g ∷ xs) e
          ∙ ap (λ xs. slice_set xs (suc k) y) (sym next))
          ∙ ap (λ j. slice_set gs j y) (let z : i + suc k ≡ i + 1 + k = omega arith in z);
    }

pub ahead_found : (gs : List SolutionGroup) (n i left : ℕ) (g : SolutionGroup) → IsAhead gs n i left
    → drop i gs ≡ g ∷ drop (i + 1) gs → slice_get gs i ≡ Some g → left < length g.solutions
    → IsSpot gs n (record { group = i; place = left })
ahead_found gs n i left g ahead next there l =
    let rest = drop (i + 1) gs in
    record {
      group = g;
      there = there;
      within = l;
      found = sym ahead.found
          ∙ ap (λ (xs : List SolutionGroup). slice_get (solutions xs) left) next
          ∙ slice_get-append_left g.solutions (solutions rest) left l;
      with = λ raw.
          ahead.with raw 0 (group_with raw left g)
          (ap (groups_with raw left) next ∙ here raw left g rest l
          ∙ ap (λ xs. slice_set xs 0 (group_with raw left g)) (sym next))
          ∙ ap (λ j. slice_set gs j (group_with raw left g)) (let z : i + 0 ≡ i = omega arith in z);
    }

pub ahead_none : (gs : List SolutionGroup) (n i left : ℕ) → IsAhead gs n i left → drop i gs ≡ []
    → slice_get (solutions gs) n ≡ None
ahead_none gs n i left ahead none =
    sym ahead.found ∙ ap (λ (xs : List SolutionGroup). slice_get (solutions xs) left) none
