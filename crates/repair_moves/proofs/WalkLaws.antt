-- The list of moves, choice by choice, item by item and part by part.
use Rattle.std.proofs.Common.{ℕ, ◌≡◌, ◌+◌, ◌<◌, ◌≤◌, Option, Some, None, List, [], ◌∷◌, ◌++◌, map, length, drop, refl}
use Rattle.std.proofs.Common.{ap, ◌∙◌, sym, arith, slice_get}
use Rattle.std.specs.List.{flat_map}
use Rattle.std.specs.Option.{option_map_or}
use Rattle.std.proofs.Math.ListN.{drop_of_length-le}
use Rattle.khe_base.proofs.ListLemmas.{drop-there}
use Rattle.khe_instance.specs.declared.parts.Parts.{Parts}
use Rattle.khe_instance.specs.declared.points.Monitor.{Monitor}
use Rattle.khe_instance.specs.declared.points.Point.{Point}
use Rattle.khe_instance.specs.declared.rules.Constraint.{Constraint}
use Rattle.khe_instance.specs.declared.rules.Rule.{Rule}
use Rattle.khe_told.specs.declared.edits.Edit.{Edit}
use Rattle.khe_told.specs.declared.slots.Slot.{Slot}
use Rattle.repair_moves.specs.Cursors.{ahead, ahead_of, ahead_under, left_of_part, left_of_parts}
use Rattle.repair_moves.specs.Items.{is_item, item_slots}
use Rattle.repair_moves.specs.Moves.{choices, choices_from, edit_of, is_choice, items_from, moves, moves_of}
use Rattle.repair_moves.specs.Moves.{moves_under, part_from}
use Rattle.repair_moves.specs.Picked.{IsFirst}
use Rattle.repair_moves.specs.Table.{parts_of}
use Rattle.repair_moves.specs.declared.cursors.Cursor.{Cursor}
use Rattle.repair_moves.specs.declared.cursors.Spot.{Spot}
use Rattle.repair_moves.specs.declared.parts.Part.{Part}
use Rattle.repair_moves.proofs.PickedLaws.{first_picked}

abbrev start : Spot
start = record { item = 0; choice = None }

-- the first choice that is a move, or none
pub choice_some : (p : Parts) (s : List Slot) (point : Point) (part : Part) (n from k : ℕ)
    → IsFirst (is_choice p s point part n) from (choices p s part n) (Some k)
    → choices_from p s point part n from ≡ edit_of p s point part n k ∷ choices_from p s point part n (k + 1)
unfolding choices_from
choice_some p s point part n from k h = ap (map (edit_of p s point part n))
    (first_picked (is_choice p s point part n) from (choices p s part n) (Some k) h)

pub choice_none : (p : Parts) (s : List Slot) (point : Point) (part : Part) (n from : ℕ)
    → IsFirst (is_choice p s point part n) from (choices p s part n) None
    → choices_from p s point part n from ≡ []
unfolding choices_from
choice_none p s point part n from h = ap (map (edit_of p s point part n))
    (first_picked (is_choice p s point part n) from (choices p s part n) None h)

-- the first meet or task, or none
pub item_some : (p : Parts) (s : List Slot) (rule : Rule) (point : Point) (part : Part) (from n : ℕ)
    → IsFirst (is_item p s rule point part) from (item_slots p part) (Some n)
    → items_from p s rule point part from ≡ n ∷ items_from p s rule point part (n + 1)
unfolding items_from
item_some p s rule point part from n h = first_picked (is_item p s rule point part) from (item_slots p part) (Some n) h

pub item_none : (p : Parts) (s : List Slot) (rule : Rule) (point : Point) (part : Part) (from : ℕ)
    → IsFirst (is_item p s rule point part) from (item_slots p part) None
    → items_from p s rule point part from ≡ []
unfolding items_from
item_none p s rule point part from h = first_picked (is_item p s rule point part) from (item_slots p part) None h

pub items_fewer : (p : Parts) (s : List Slot) (rule : Rule) (point : Point) (part : Part) (from n : ℕ)
    → IsFirst (is_item p s rule point part) from (item_slots p part) (Some n)
    → length (items_from p s rule point part (n + 1)) < length (items_from p s rule point part from)
items_fewer p s rule point part from n h = let e = ap length (item_some p s rule point part from n h) in
    omega (arith, e)

-- a part from a slot on
part_item : (p : Parts) (s : List Slot) (rule : Rule) (point : Point) (part : Part) (from n : ℕ)
    → IsFirst (is_item p s rule point part) from (item_slots p part) (Some n)
    → part_from p s rule point part from ≡ choices_from p s point part n 0 ++ part_from p s rule point part (n + 1)
unfolding part_from
part_item p s rule point part from n h = ap (flat_map (λ n. choices_from p s point part n 0))
    (item_some p s rule point part from n h)

pub part_none : (p : Parts) (s : List Slot) (rule : Rule) (point : Point) (part : Part) (from : ℕ)
    → IsFirst (is_item p s rule point part) from (item_slots p part) None
    → part_from p s rule point part from ≡ []
unfolding part_from
part_none p s rule point part from h = ap (flat_map (λ n. choices_from p s point part n 0))
    (item_none p s rule point part from h)

-- a meet or task without a move
pub part_empty : (p : Parts) (s : List Slot) (rule : Rule) (point : Point) (part : Part) (from n : ℕ)
    → IsFirst (is_item p s rule point part) from (item_slots p part) (Some n)
    → choices_from p s point part n 0 ≡ [] → part_from p s rule point part from ≡ part_from p s rule point part (n + 1)
part_empty p s rule point part from n h none =
    part_item p s rule point part from n h ∙ ap (λ xs. xs ++ part_from p s rule point part (n + 1)) none

-- the place after a move
left_at : (p : Parts) (s : List Slot) (rule : Rule) (point : Point) (part : Part) (n k : ℕ) (spot : Spot)
    → spot ≡ record { item = n; choice = Some k }
    → left_of_part p s rule point part spot ≡ choices_from p s point part n k ++ part_from p s rule point part (n + 1)
unfolding left_of_part
left_at p s rule point part n k spot e = ap (left_of_part p s rule point part) e

-- the first move of a meet or task
pub part_first : (p : Parts) (s : List Slot) (rule : Rule) (point : Point) (part : Part) (from n k : ℕ) (e : Edit)
    (spot : Spot) → IsFirst (is_item p s rule point part) from (item_slots p part) (Some n)
    → spot ≡ record { item = n; choice = Some k }
    → choices_from p s point part n 0 ≡ e ∷ choices_from p s point part n k
    → part_from p s rule point part from ≡ e ∷ left_of_part p s rule point part spot
part_first p s rule point part from n k e spot h at next =
    part_item p s rule point part from n h ∙ ap (λ xs. xs ++ part_from p s rule point part (n + 1)) next
    ∙ ap (λ xs. e ∷ xs) (sym (left_at p s rule point part n k spot at))

-- from a place inside a part on
spot_is : (spot : Spot) (o : Option ℕ) → spot.choice ≡ o → spot ≡ record { item = spot.item; choice = o }
spot_is spot o e = let f : Option ℕ → Spot = λ o. record { item = spot.item; choice = o } in ap f e

pub left_search : (p : Parts) (s : List Slot) (rule : Rule) (point : Point) (part : Part) (spot : Spot)
    → spot.choice ≡ None
    → left_of_part p s rule point part spot ≡ part_from p s rule point part spot.item
unfolding left_of_part
left_search p s rule point part spot e = ap (left_of_part p s rule point part) (spot_is spot None e)

pub left_past : (p : Parts) (s : List Slot) (rule : Rule) (point : Point) (part : Part) (k : ℕ) (spot : Spot)
    → spot.choice ≡ Some k → choices_from p s point part spot.item k ≡ []
    → left_of_part p s rule point part spot ≡ part_from p s rule point part (spot.item + 1)
left_past p s rule point part k spot e none =
    left_at p s rule point part spot.item k spot (spot_is spot (Some k) e)
    ∙ ap (λ xs. xs ++ part_from p s rule point part (spot.item + 1)) none

pub left_first : (p : Parts) (s : List Slot) (rule : Rule) (point : Point) (part : Part) (k j : ℕ) (e : Edit)
    (spot next : Spot) → spot.choice ≡ Some k
    → next ≡ record { item = spot.item; choice = Some j }
    → choices_from p s point part spot.item k ≡ e ∷ choices_from p s point part spot.item j
    → left_of_part p s rule point part spot ≡ e ∷ left_of_part p s rule point part next
left_first p s rule point part k j e spot next at is h =
    left_at p s rule point part spot.item k spot (spot_is spot (Some k) at)
    ∙ ap (λ xs. xs ++ part_from p s rule point part (spot.item + 1)) h
    ∙ ap (λ xs. e ∷ xs) (sym (left_at p s rule point part spot.item j next is))

-- the start of parts is all of them
parts_start : (p : Parts) (s : List Slot) (rule : Rule) (point : Point) (parts : List Part)
    → left_of_parts p s rule point parts start ≡ flat_map (λ part. part_from p s rule point part 0) parts
unfolding left_of_parts left_of_part
parts_start p s rule point [] = refl
parts_start p s rule point (part ∷ parts) = refl

-- a part has a move
pub parts_found : (p : Parts) (s : List Slot) (rule : Rule) (point : Point) (parts : List Part) (k : ℕ) (part : Part)
    (spot next : Spot) (e : Edit) → slice_get parts k ≡ Some part
    → left_of_part p s rule point part spot ≡ e ∷ left_of_part p s rule point part next
    → left_of_parts p s rule point (drop k parts) spot ≡ e ∷ left_of_parts p s rule point (drop k parts) next
unfolding left_of_parts
parts_found p s rule point parts k part spot next e at h =
    let d = drop-there parts k part at in
    ap (λ ps. left_of_parts p s rule point ps spot) d
    ∙ ap (λ xs. xs ++ flat_map (λ part. part_from p s rule point part 0) (drop (k + 1) parts)) h
    ∙ ap (λ ps. e ∷ left_of_parts p s rule point ps next) (sym d)

-- a part has none left
pub parts_next : (p : Parts) (s : List Slot) (rule : Rule) (point : Point) (parts : List Part) (k : ℕ) (part : Part)
    (spot next : Spot) → slice_get parts k ≡ Some part
    → left_of_part p s rule point part spot ≡ [] → next ≡ start
    → left_of_parts p s rule point (drop k parts) spot ≡ left_of_parts p s rule point (drop (k + 1) parts) next
unfolding left_of_parts
parts_next p s rule point parts k part spot next at h e =
    let d = drop-there parts k part at in
    ap (λ ps. left_of_parts p s rule point ps spot) d
    ∙ ap (λ xs. xs ++ flat_map (λ part. part_from p s rule point part 0) (drop (k + 1) parts)) h
    ∙ sym (parts_start p s rule point (drop (k + 1) parts))
    ∙ ap (left_of_parts p s rule point (drop (k + 1) parts)) (sym e)

pub parts_none : (p : Parts) (s : List Slot) (rule : Rule) (point : Point) (parts : List Part) (k : ℕ) (spot : Spot)
    → length parts ≤ k → left_of_parts p s rule point (drop k parts) spot ≡ []
unfolding left_of_parts
parts_none p s rule point parts k spot l = ap (λ ps. left_of_parts p s rule point ps spot) (drop_of_length-le parts l)

-- what is ahead of a cursor, by its monitor and its constraint
pub ahead_at : (p : Parts) (s : List Slot) (c : Cursor) (m : Monitor) (k : Constraint) (parts : List Part)
    → slice_get p.monitors c.monitor.0 ≡ Some m → slice_get p.constraints m.constraint ≡ Some k
    → parts ≡ parts_of m.kind → ahead p s c ≡ left_of_parts p s k.rule m.point (drop c.part parts) c.spot
unfolding ahead ahead_of ahead_under
ahead_at p s c m k parts at under e =
    ap (λ o. option_map_or (ahead_of p s c) o []) at ∙ ap (λ o. option_map_or (ahead_under p s c m) o []) under
    ∙ ap (λ ps. left_of_parts p s k.rule m.point (drop c.part ps) c.spot) (sym e)

-- the start of a monitor's list
pub ahead_start : (p : Parts) (s : List Slot) (c : Cursor) → c.part ≡ 0 → c.spot ≡ start
    → ahead p s c ≡ moves p s c.monitor.0
unfolding ahead moves ahead_of moves_of ahead_under moves_under
ahead_start p s c first at = by_monitor (slice_get p.monitors c.monitor.0)
  where
    under : (m : Monitor) (k : Constraint) → left_of_parts p s k.rule m.point (drop c.part (parts_of m.kind)) c.spot
        ≡ flat_map (λ part. part_from p s k.rule m.point part 0) (parts_of m.kind)
    under m k = ap (λ n. left_of_parts p s k.rule m.point (drop n (parts_of m.kind)) c.spot) first
        ∙ ap (left_of_parts p s k.rule m.point (parts_of m.kind)) at ∙ parts_start p s k.rule m.point (parts_of m.kind)

    by_constraint : (m : Monitor) (o : Option Constraint)
        → option_map_or (ahead_under p s c m) o [] ≡ option_map_or (moves_under p s m) o []
    by_constraint m None = refl
    by_constraint m (Some k) = under m k

    by_monitor : (o : Option Monitor) → option_map_or (ahead_of p s c) o [] ≡ option_map_or (moves_of p s) o []
    by_monitor None = refl
    by_monitor (Some m) = by_constraint m (slice_get p.constraints m.constraint)
