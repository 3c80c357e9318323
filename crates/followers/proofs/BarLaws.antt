-- The rows of the tables with ties: first what ties refuse, then what the engine does.
use Rattle.std.proofs.Common.{◌≡◌, true, false, Bool, Option, Some, None, Result, Ok, Err, List, [], ◌∷◌, ◌++◌, refl, sym, ap, ◌∙◌, drop}
use Rattle.std.specs.Prelude.{not, ◌&&◌}
use Rattle.std.specs.Option.{option_map}
use Rattle.khe_instance.specs.declared.parts.Parts.{Parts}
use Rattle.khe_told.specs.declared.edits.Edit.{Edit}
use Rattle.khe_told.specs.declared.edits.Edit.TheVariants.{Assign, Unassign, MoveTo, Split, Merge, SwapMeets}
use Rattle.khe_told.specs.declared.edits.Edit.TheVariants.{Give, Take, Regive, SwapTasks, Attach, Detach, MakeGroup, DropGroup, AddChild, RemoveChild}
use Rattle.khe_told.specs.declared.refusals.Refusal.{Refusal}
use Rattle.khe_told.specs.declared.refusals.Refusal.TheVariants.{NoSuchMeet}
use Rattle.khe_solution.specs.Refusing as refusing
use Rattle.khe_solution.specs.Refusing.{assign_row, checked, first_refusal, merge_row, move_row, split_row, swap_meets_row, unassign_row}
use Rattle.monitor_graph.specs.Edits.{is_of_groups}
use Rattle.khe_engine.specs.States.{State, refusal}
use Rattle.khe_engine.proofs.StateLaws.{one_sort, refusal_meets}
use Rattle.followers.specs.Bars.{bar, barred_by, live_at}
use Rattle.followers.specs.Records.{with_ties}
use Rattle.followers.specs.Tables.{Row, base_refusal, based, first_of, spliced}
use Rattle.followers.specs.Ties.{follows, leads}
use Rattle.followers.specs.declared.edits.Tie.{Tie}
use Rattle.followers.specs.declared.edits.TiedRefusal.{TiedRefusal}
use Rattle.followers.specs.declared.edits.TiedRefusal.TheVariants.{Base, Follower, Leader}

-- the first of two, or the second where there is no first
abbrev pub or_else : Option TiedRefusal → Option TiedRefusal → Option TiedRefusal
or_else (Some r) o = Some r
or_else None o = o

-- a row of the engine's table
pub based_first : (row : List (Bool × Refusal)) → first_of (based row) ≡ option_map Base (first_refusal row)
based_first [] = refl
based_first ((true, r) ∷ rest) = refl
based_first ((false, r) ∷ rest) = based_first rest

first_append : (xs ys : Row) → first_of (xs ++ ys) ≡ or_else (first_of xs) (first_of ys)
first_append [] ys = refl
first_append ((true, r) ∷ xs) ys = refl
first_append ((false, r) ∷ xs) ys = first_append xs ys

tests_then : (tests : Row) (rest : List (Bool × Refusal))
    → first_of (tests ++ based rest) ≡ or_else (first_of tests) (option_map Base (first_refusal rest))
tests_then tests rest = first_append tests (based rest) ∙ ap (or_else (first_of tests)) (based_first rest)

-- tests of ties after that of one live meet, and after those of two
guard_one : (live : Bool) (tests : Row) (rest : List (Bool × Refusal))
    → first_of (spliced 1 tests ((not live, NoSuchMeet) ∷ rest))
    ≡ or_else (barred_by live tests) (option_map Base (first_refusal ((not live, NoSuchMeet) ∷ rest)))
guard_one false tests rest = refl
guard_one true tests rest = tests_then tests rest

guard_two : (a b : Bool) (tests : Row) (rest : List (Bool × Refusal))
    → first_of (spliced 2 tests ((not a, NoSuchMeet) ∷ (not b, NoSuchMeet) ∷ rest))
    ≡ or_else (barred_by (a && b) tests)
    (option_map Base (first_refusal ((not a, NoSuchMeet) ∷ (not b, NoSuchMeet) ∷ rest)))
guard_two false b tests rest = refl
guard_two true false tests rest = refl
guard_two true true tests rest = tests_then tests rest

-- an edit of meets, by the engine's table of them
by_meets : (p : Parts) (s : State) (e : Edit) (o : Option TiedRefusal) → is_of_groups e ≡ false
    → or_else o (option_map Base (refusing.refusal p s.slots e)) ≡ or_else o (option_map Base (refusal p s e))
by_meets p s e o h = ap (λ r. or_else o (option_map Base r)) (sym (refusal_meets p s e h))

pub barred : (p : Parts) (s : State) (ties : List (Option Tie)) (e : Edit)
    → base_refusal p (with_ties s ties) e ≡ or_else (bar s.slots ties e) (option_map Base (refusal p s e))
unfolding base_refusal bar refusing.refusal
barred p s ties (Assign m t) = guard_one (live_at s.slots m) ((follows ties m.0, Follower) ∷ [])
    (drop 1 (assign_row p s.slots m t))
    ∙ by_meets p s (Assign m t) (barred_by (live_at s.slots m) ((follows ties m.0, Follower) ∷ [])) refl
barred p s ties (Unassign m) = guard_one (live_at s.slots m) ((follows ties m.0, Follower) ∷ [])
    (drop 1 (unassign_row p s.slots m))
    ∙ by_meets p s (Unassign m) (barred_by (live_at s.slots m) ((follows ties m.0, Follower) ∷ [])) refl
barred p s ties (MoveTo m t) = guard_one (live_at s.slots m) ((follows ties m.0, Follower) ∷ [])
    (drop 1 (move_row p s.slots m t))
    ∙ by_meets p s (MoveTo m t) (barred_by (live_at s.slots m) ((follows ties m.0, Follower) ∷ [])) refl
barred p s ties (Split m cut) =
    let tests : Row = (follows ties m.0, Follower) ∷ (leads ties m.0, Leader) ∷ [] in
    guard_one (live_at s.slots m) tests (drop 1 (split_row p s.slots m cut))
    ∙ by_meets p s (Split m cut) (barred_by (live_at s.slots m) tests) refl
barred p s ties (Merge a b) =
    let tests : Row = (follows ties a.0, Follower) ∷ (follows ties b.0, Follower) ∷ (leads ties a.0, Leader)
    ∷ (leads ties b.0, Leader) ∷ [] in
    guard_two (live_at s.slots a) (live_at s.slots b) tests (drop 2 (merge_row s.slots a b))
    ∙ by_meets p s (Merge a b) (barred_by (live_at s.slots a && live_at s.slots b) tests) refl
barred p s ties (SwapMeets a b) =
    let tests : Row = (follows ties a.0, Follower) ∷ (follows ties b.0, Follower) ∷ [] in
    guard_two (live_at s.slots a) (live_at s.slots b) tests (drop 2 (swap_meets_row p s.slots a b))
    ∙ by_meets p s (SwapMeets a b) (barred_by (live_at s.slots a && live_at s.slots b) tests) refl
barred p s ties (Give a r) = refl
barred p s ties (Take a) = refl
barred p s ties (Regive a r) = refl
barred p s ties (SwapTasks a b) = refl
barred p s ties (Attach m) = refl
barred p s ties (Detach m) = refl
barred p s ties MakeGroup = refl
barred p s ties (DropGroup g) = refl
barred p s ties (AddChild g m) = refl
barred p s ties (RemoveChild g m) = refl

-- what ties refuse is refused, and of all else what the engine refuses
pub barred_some : (p : Parts) (s : State) (ties : List (Option Tie)) (e : Edit) (r : TiedRefusal)
    → Some r ≡ bar s.slots ties e → base_refusal p (with_ties s ties) e ≡ Some r
barred_some p s ties e r h = barred p s ties e ∙ ap (λ o. or_else o (option_map Base (refusal p s e))) (sym h)

pub barred_none : (p : Parts) (s : State) (ties : List (Option Tie)) (e : Edit) → None ≡ bar s.slots ties e
    → base_refusal p (with_ties s ties) e ≡ option_map Base (refusal p s e)
barred_none p s ties e h = barred p s ties e ∙ ap (λ o. or_else o (option_map Base (refusal p s e))) (sym h)

-- an accepted edit is refused by neither
no_refusal : (a b : Option TiedRefusal) → or_else a b ≡ None → (a ≡ None) × (b ≡ None)
no_refusal None b h = (refl, h)
no_refusal (Some r) b h = let z : ⊥ = cc in absurd z

no_base : (o : Option Refusal) → option_map Base o ≡ None → o ≡ None
no_base None h = refl
no_base (Some r) h = let z : ⊥ = cc in absurd z

pub record IsAccepted (p : Parts) (s : State) (ties : List (Option Tie)) (e : Edit) : Type 0 where
  pub free : bar s.slots ties e ≡ None
  pub engine : refusal p s e ≡ None

pub accepted : (p : Parts) (s : State) (ties : List (Option Tie)) (e : Edit)
    → base_refusal p (with_ties s ties) e ≡ None → IsAccepted p s ties e
accepted p s ties e h =
    let a = no_refusal (bar s.slots ties e) (option_map Base (refusal p s e)) (sym (barred p s ties e) ∙ h) in
    record { free = a.0; engine = no_base (refusal p s e) a.1 }

-- what the engine's check says then
pub checked_ok : (p : Parts) (s : State) (ties : List (Option Tie)) (e : Edit) (u : Unit {0})
    → refusing.is_of_meets e ≡ true → None ≡ bar s.slots ties e → Ok u ≡ checked (refusing.refusal p s.slots e)
    → base_refusal p (with_ties s ties) e ≡ None
checked_ok p s ties e u m h k = barred_none p s ties e h
    ∙ ap (option_map Base) (refusal_meets p s e (one_sort e m)) ∙ by (refusing.refusal p s.slots e) k
  where
    by : (o : Option Refusal) → Ok u ≡ checked o → option_map Base o ≡ None
    by None k = refl
    by (Some r) k = let z : ⊥ = cc in absurd z

pub checked_err : (p : Parts) (s : State) (ties : List (Option Tie)) (e : Edit) (r : Refusal)
    → refusing.is_of_meets e ≡ true → None ≡ bar s.slots ties e → Err r ≡ checked (refusing.refusal p s.slots e)
    → base_refusal p (with_ties s ties) e ≡ Some (Base r)
checked_err p s ties e r m h k = barred_none p s ties e h
    ∙ ap (option_map Base) (refusal_meets p s e (one_sort e m)) ∙ by (refusing.refusal p s.slots e) k
  where
    by : (o : Option Refusal) → Err r ≡ checked o → option_map Base o ≡ Some (Base r)
    by None k = let z : ⊥ = cc in absurd z
    by (Some x) k = sym (ap why k)
      where
        why : Result (Unit {0}) Refusal → Option TiedRefusal
        why (Ok u) = Some (Base x)
        why (Err y) = Some (Base y)
