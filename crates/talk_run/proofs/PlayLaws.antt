-- What a repair makes of a play, where a mark is open and where none is.
use Rattle.std.proofs.Common.{ℕ, ◌≡◌, List, [], ◌∷◌, length, map, refl, ap, ◌∙◌, sym, arith}
use Rattle.std.proofs.Common.{◌≤◌, IsTrue}
use Rattle.std.proofs.lemmas.Bool.Decides.{nat_tests}
use Rattle.khe_base.specs.declared.limits.TheConstants.{CHAIN_MOVES}
use Rattle.talk_run.specs.Lines.{are_chains}
use Rattle.khe_engine.specs.States.{State}
use Rattle.khe_engine.specs.Worlds.{Saved, World}
use Rattle.khe_instance.specs.declared.parts.Parts.{Parts}
use Rattle.ejection_repair.specs.Repaired.{repaired}
use Rattle.ejection_repair.specs.declared.outcome.Outcome.{Outcome}
use Rattle.khe_base.specs.declared.sums.Totals.{Totals}
use Rattle.khe_engine.specs.Values.{totals}
use Rattle.repair_run.specs.Lines.{repair_line}
use Rattle.script_run.specs.Plays.{Play, play_of}
use Rattle.talk_run.specs.Answers.{by_marks, line_on, open_mark_line, repair_answer, repair_played, repaired_by}
use Rattle.talk_run.specs.declared.commands.Chains.{Chains}

-- no mark is open
pub no_marks : (xs : List Saved) → length xs ≡ 0 → xs ≡ []
no_marks [] e = refl
no_marks (x ∷ xs) e = absurd (omega arith)

-- where none is, the line is that on the repair, and the state the repaired one
pub free_answer : (p : Parts) (w : World) (c : Chains) → w.saved ≡ []
    → repair_answer p (play_of w) c ≡ line_on p (repaired_by p w.state c)
free_answer p w c e =
    ap (λ (xs : List Saved). by_marks (map (λ (x : Saved). x.state) xs) (line_on p (repaired_by p w.state c)) open_mark_line) e

pub free_played : (p : Parts) (w v : World) (c : Chains) → w.saved ≡ [] → v.saved ≡ []
    → v.state ≡ (repaired_by p w.state c).state → play_of v ≡ repair_played p (play_of w) c
free_played p w v c e f g =
    ap (λ (xs : List Saved). record { state = v.state; saved = map (λ (x : Saved). x.state) xs }) f
    ∙ ap (λ (s : State). record { state = s; saved = [] }) g
    ∙ sym (ap (λ (xs : List Saved). by_marks (map (λ (x : Saved). x.state) xs)
    (record { state = (repaired_by p w.state c).state; saved = map (λ (x : Saved). x.state) xs })
    (record { state = w.state; saved = map (λ (x : Saved). x.state) xs })) e)

-- where one is, all stays as it was
some-marks : (xs : List Saved) → (length xs ≡ 0 → ⊥) → (A : Type 0) → (a b : A)
    → by_marks (map (λ (x : Saved). x.state) xs) a b ≡ b
some-marks [] n A a b = absurd (n refl)
some-marks (x ∷ xs) n A a b = refl

pub marked_answer : (p : Parts) (w : World) (c : Chains) → (length w.saved ≡ 0 → ⊥)
    → repair_answer p (play_of w) c ≡ open_mark_line
marked_answer p w c n = some-marks w.saved n (List ℕ) (line_on p (repaired_by p w.state c)) open_mark_line

pub marked_played : (p : Parts) (w : World) (c : Chains) → (length w.saved ≡ 0 → ⊥)
    → repair_played p (play_of w) c ≡ play_of w
marked_played p w c n = some-marks w.saved n Play
    (record { state = (repaired_by p w.state c).state; saved = (play_of w).saved }) (play_of w)

-- what chains that a repair may have are within
pub depth_some : (c : Chains) → IsTrue (are_chains c) → 1 ≤ c.depth
depth_some c h = grind (arith, nat_tests)

pub depth_small : (c : Chains) → IsTrue (are_chains c) → c.depth ≤ CHAIN_MOVES
depth_small c h = grind (arith, nat_tests)

pub budget_some : (c : Chains) → IsTrue (are_chains c) → 1 ≤ c.budget
budget_some c h = grind (arith, nat_tests)

-- the line on a repair, by what an engine tells after it
pub line_same : (p p2 : Parts) (s s2 : State) (depth budget v budget2 v2 : ℕ) (o : Outcome) (t : Totals)
    → o ≡ (repaired p s depth budget2 v2).outcome → s2 ≡ (repaired p s depth budget2 v2).state → p2 ≡ p
    → t ≡ totals p2 s2 → budget2 ≡ budget → v2 ≡ v → repair_line o t ≡ line_on p (repaired p s depth budget v)
line_same p p2 s s2 depth budget v budget2 v2 o t eo es ep et eb ev =
    ap (λ (x : Outcome). repair_line x t) eo
    ∙ ap (λ (x : Totals). repair_line (repaired p s depth budget2 v2).outcome x)
    (et ∙ ap (λ (q : Parts). totals q s2) ep ∙ ap (totals p) es)
    ∙ ap (λ x. line_on p (repaired p s depth x v2)) eb ∙ ap (λ x. line_on p (repaired p s depth budget x)) ev
