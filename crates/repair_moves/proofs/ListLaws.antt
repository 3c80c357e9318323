-- What is true of each move of a list.
use Rattle.std.proofs.Common.{ℕ, ◌≡◌, Bool, true, false, cond, Option, Some, None, List, [], ◌∷◌, map, slice_get, refl}
use Rattle.std.specs.Prelude.{All}
use Rattle.std.specs.List.{filter}
use Rattle.std.specs.Option.{option_map_or}
use Rattle.std.proofs.lemmas.List.Elements.{All-nil, All-cons}
use Rattle.khe_base.proofs.ListLemmas.{All-flat_map}
use Rattle.khe_instance.specs.declared.parts.Parts.{Parts}
use Rattle.khe_instance.specs.declared.points.Monitor.{Monitor}
use Rattle.khe_instance.specs.declared.points.Point.{Point}
use Rattle.khe_instance.specs.declared.rules.Constraint.{Constraint}
use Rattle.khe_instance.specs.declared.rules.Rule.{Rule}
use Rattle.khe_told.specs.declared.edits.Edit.{Edit}
use Rattle.khe_told.specs.declared.slots.Slot.{Slot}
use Rattle.khe_solution.specs.Refusing.{refusal}
use Rattle.repair_moves.specs.Moves.{choices_from, edit_of, is_choice, items_from, moves, moves_of, moves_under}
use Rattle.repair_moves.specs.Moves.{part_from}
use Rattle.repair_moves.specs.Picked.{picked}
use Rattle.repair_moves.specs.Table.{parts_of}
use Rattle.repair_moves.specs.declared.parts.Part.{Part}
use Rattle.repair_moves.proofs.ChoiceLaws.{accepted_is}

abbrev IsTaken : Parts → List Slot → Edit → Type 0
IsTaken p s e = refusal p s e ≡ None

-- what is true of each element that passes is true of all that are picked
all_mapped : {A B : Type 0} (P : B → Type 0) (f : A → B) (test : A → Bool) (xs : List A)
    → ((x : A) → test x ≡ true → P (f x)) → All P (map f (filter test xs))
all_mapped P f test [] h = All-nil P
all_mapped P f test (x ∷ xs) h = by_head (test x) refl (all_mapped P f test xs h)
  where
    by_head : (b : Bool) → test x ≡ b → All P (map f (filter test xs))
        → All P (map f (cond b (x ∷ filter test xs) (filter test xs)))
    by_head true e rest = All-cons P (f x) (map f (filter test xs)) (h x e) rest
    by_head false e rest = rest

of_choices : (p : Parts) (s : List Slot) (point : Point) (part : Part) (n from : ℕ)
    → All (IsTaken p s) (choices_from p s point part n from)
unfolding choices_from picked
of_choices p s point part n from = all_mapped (IsTaken p s) (edit_of p s point part n) (is_choice p s point part n) _
    (λ k h. accepted_is p s (edit_of p s point part n k) h)

every : {A : Type 0} (P : A → Type 0) (xs : List A) → ((x : A) → P x) → All P xs
every P [] h = All-nil P
every P (x ∷ xs) h = All-cons P x xs (h x) (every P xs h)

of_part : (p : Parts) (s : List Slot) (rule : Rule) (point : Point) (part : Part) (from : ℕ)
    → All (IsTaken p s) (part_from p s rule point part from)
unfolding part_from
of_part p s rule point part from =
    All-flat_map (IsTaken p s) (λ n. choices_from p s point part n 0) (items_from p s rule point part from)
    (every _ (items_from p s rule point part from) (λ n. of_choices p s point part n 0))

pub each_taken : (p : Parts) (s : List Slot) (n : ℕ) → All (λ e. refusal p s e ≡ None) (moves p s n)
unfolding moves moves_of moves_under
each_taken p s n = by_monitor (slice_get p.monitors n)
  where
    by_constraint : (m : Monitor) (o : Option Constraint) → All (IsTaken p s) (option_map_or (moves_under p s m) o [])
    by_constraint m None = All-nil (IsTaken p s)
    by_constraint m (Some k) = All-flat_map (IsTaken p s) (λ part. part_from p s k.rule m.point part 0)
        (parts_of m.kind)
        (every _ (parts_of m.kind) (λ part. of_part p s k.rule m.point part 0))

    by_monitor : (o : Option Monitor) → All (IsTaken p s) (option_map_or (moves_of p s) o [])
    by_monitor None = All-nil (IsTaken p s)
    by_monitor (Some m) = by_constraint m (slice_get p.constraints m.constraint)
