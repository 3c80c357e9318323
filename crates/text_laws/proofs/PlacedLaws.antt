-- An archive with other entries in one of its solutions: all else stays.
use Rattle.std.proofs.Common.{ℕ, zero, suc, ◌≡◌, ◌-◌, ◌<◌, ◌≤◌, ◌∙◌, refl, sym, ap, Bool, true, false, Option}
use Rattle.std.proofs.Common.{Some, None, List, [], ◌∷◌, ◌++◌, map, length, slice_get, flat_map, option_map}
use Rattle.std.proofs.Common.{if◌then◌else◌, nat_lt, arith, set}
use Rattle.std.specs.Option.{option_map_or}
use Rattle.std.proofs.lemmas.Bool.Decides.{nat_tests}
use Rattle.std.proofs.lemmas.List.{length-map, length-set}
use Rattle.std.proofs.lemmas.List.Concat.{flat_map-cons}
use Rattle.std.proofs.lemmas.Option.{slice_get-map, slice_get_within}
use Rattle.khe_base.proofs.ListLemmas.{get-set}
use Rattle.repair_run.specs.Placed.{archive_with, group_with, groups_with}
use Rattle.same_archives.proofs.FollowedLaws.{solutions_alike}
use Rattle.xhstt_references.specs.References.{solutions_of}
use Rattle.xhstt_shape.specs.Places.{IsSame, solution, solution_group, unplaced}
use Rattle.xhstt_shape.specs.declared.records.Archive.{Archive}
use Rattle.xhstt_shape.specs.declared.records.RawEntry.{RawEntry}
use Rattle.xhstt_shape.specs.declared.records.RawSolution.{RawSolution}
use Rattle.xhstt_shape.specs.declared.records.SolutionGroup.{SolutionGroup}
use Rattle.text_laws.specs.Read.{blank, emptied}

-- one element of two lists is set
set_left : {A : Type 0} (xs ys : List A) (n : ℕ) (x : A) → n < length xs → set (xs ++ ys) n x ≡ set xs n x ++ ys
set_left [] ys n x l = absurd (omega arith)
set_left (y ∷ xs) ys zero x l = refl
set_left (y ∷ xs) ys (suc n) x l = ap (λ zs. y ∷ zs) (set_left xs ys n x (omega (arith, l)))

set_right : {A : Type 0} (xs ys : List A) (n : ℕ) (x : A) → length xs ≤ n
    → set (xs ++ ys) n x ≡ xs ++ set ys (n - length xs) x
set_right [] ys n x l = ap (λ k. set ys k x) (let e : n ≡ n - 0 = omega arith in e)
set_right (y ∷ xs) ys zero x l = absurd (omega arith)
set_right (y ∷ xs) ys (suc n) x l =
    ap (λ zs. y ∷ zs) (set_right xs ys n x (omega (arith, l)))
    ∙ ap (λ k. y ∷ (xs ++ set ys k x)) (let e : n - length xs ≡ suc n - length (y ∷ xs) = omega arith in e)

set_twice : {A : Type 0} (xs : List A) (n : ℕ) (x y : A) → set (set xs n x) n y ≡ set xs n y
set_twice [] n x y = refl
set_twice (z ∷ xs) zero x y = refl
set_twice (z ∷ xs) (suc n) x y = ap (λ zs. z ∷ zs) (set_twice xs n x y)

set_mapped : {A B : Type 0} (f : A → B) (xs : List A) (n : ℕ) (x : A) → map f (set xs n x) ≡ set (map f xs) n (f x)
set_mapped f [] n x = refl
set_mapped f (z ∷ xs) zero x = refl
set_mapped f (z ∷ xs) (suc n) x = ap (λ zs. f z ∷ zs) (set_mapped f xs n x)

pub set_same : {A B : Type 0} (f : A → B) (xs : List A) (n : ℕ) (x y : A) → slice_get xs n ≡ Some x → f y ≡ f x
    → map f (set xs n y) ≡ map f xs
set_same f [] n x y at e = refl
set_same f (z ∷ xs) zero x y at e =
    let same : z ≡ x = cc in ap (λ w. w ∷ map f xs) (e ∙ ap f (sym same))
set_same f (z ∷ xs) (suc n) x y at e = ap (λ zs. f z ∷ zs) (set_same f xs n x y at e)

-- all solutions of groups
abbrev all : List SolutionGroup → List RawSolution
all gs = flat_map (λ (g : SolutionGroup). g.solutions) gs

-- a solution in the first group, and one after it
here : (raw : RawSolution) (n : ℕ) (g : SolutionGroup) (gs : List SolutionGroup) → n < length g.solutions
    → groups_with raw n (g ∷ gs) ≡ group_with raw n g ∷ gs
unfolding groups_with
here raw n g gs l =
    let e : nat_lt n (length g.solutions) ≡ true = grind (arith, nat_tests) in
    ap (λ b. if b then group_with raw n g ∷ gs else g ∷ groups_with raw (n - length g.solutions) gs) e

past : (raw : RawSolution) (n : ℕ) (g : SolutionGroup) (gs : List SolutionGroup) → length g.solutions ≤ n
    → groups_with raw n (g ∷ gs) ≡ g ∷ groups_with raw (n - length g.solutions) gs
unfolding groups_with
past raw n g gs l =
    let e : nat_lt n (length g.solutions) ≡ false = grind (arith, nat_tests) in
    ap (λ b. if b then group_with raw n g ∷ gs else g ∷ groups_with raw (n - length g.solutions) gs) e

nowhere : (raw : RawSolution) (n : ℕ) → groups_with raw n [] ≡ []
unfolding groups_with
nowhere raw n = refl

-- a number is in the first group, or after it
split : {P : Type 0} (n m : ℕ) → (n < m → P) → (m ≤ n → P) → P
split {P} n m f g = by (nat_lt n m) refl
  where
    by : (b : Bool) → nat_lt n m ≡ b → P
    by true e = f (grind (arith, nat_tests))
    by false e = g (grind (arith, nat_tests))

groups_set : (raw : RawSolution) (n : ℕ) (gs : List SolutionGroup) → all (groups_with raw n gs) ≡ set (all gs) n raw
groups_set raw n [] = ap all (nowhere raw n)
groups_set raw n (g ∷ gs) =
    split n (length g.solutions) first (later (groups_set raw (n - length g.solutions) gs))
  where
    first : n < length g.solutions → all (groups_with raw n (g ∷ gs)) ≡ set (all (g ∷ gs)) n raw
    first l =
        ap all (here raw n g gs l) ∙ flat_map-cons (λ (x : SolutionGroup). x.solutions) (group_with raw n g) gs
        ∙ sym (set_left g.solutions (all gs) n raw l)
        ∙ ap (λ xs. set xs n raw) (sym (flat_map-cons (λ (x : SolutionGroup). x.solutions) g gs))

    later : all (groups_with raw (n - length g.solutions) gs) ≡ set (all gs) (n - length g.solutions) raw
        → length g.solutions ≤ n → all (groups_with raw n (g ∷ gs)) ≡ set (all (g ∷ gs)) n raw
    later rest l =
        ap all (past raw n g gs l)
        ∙ flat_map-cons (λ (x : SolutionGroup). x.solutions) g (groups_with raw (n - length g.solutions) gs)
        ∙ ap (λ xs. g.solutions ++ xs) rest
        ∙ sym (set_right g.solutions (all gs) n raw l)
        ∙ ap (λ xs. set xs n raw) (sym (flat_map-cons (λ (x : SolutionGroup). x.solutions) g gs))

pub solutions_set : (raw : RawSolution) (n : ℕ) (a : Archive)
    → solutions_of (archive_with raw n a) ≡ set (solutions_of a) n raw
solutions_set raw n a = groups_set raw n a.solution_groups

pub set_there : (raw old : RawSolution) (n : ℕ) (a : Archive) → slice_get (solutions_of a) n ≡ Some old
    → slice_get (solutions_of (archive_with raw n a)) n ≡ Some raw
set_there raw old n a at =
    ap (λ xs. slice_get xs n) (solutions_set raw n a)
    ∙ get-set (solutions_of a) n raw (slice_get_within (solutions_of a) n old at)

-- the Ids of the groups stay
pub ids_kept : (raw : RawSolution) (n : ℕ) (gs : List SolutionGroup)
    → map (λ (g : SolutionGroup). g.id) (groups_with raw n gs) ≡ map (λ (g : SolutionGroup). g.id) gs
ids_kept raw n [] = ap (map (λ (g : SolutionGroup). g.id)) (nowhere raw n)
ids_kept raw n (g ∷ gs) =
    split n (length g.solutions) (λ l. ap (map (λ (x : SolutionGroup). x.id)) (here raw n g gs l))
    (λ l. ap (map (λ (x : SolutionGroup). x.id)) (past raw n g gs l)
    ∙ ap (λ ns. g.id ∷ ns) (ids_kept raw (n - length g.solutions) gs))

-- the last solution that is put in a place is there
groups_twice : (x y : RawSolution) (n : ℕ) (gs : List SolutionGroup)
    → groups_with y n (groups_with x n gs) ≡ groups_with y n gs
groups_twice x y n [] = ap (groups_with y n) (nowhere x n)
groups_twice x y n (g ∷ gs) =
    split n (length g.solutions) first (later (groups_twice x y (n - length g.solutions) gs))
  where
    first : n < length g.solutions → groups_with y n (groups_with x n (g ∷ gs)) ≡ groups_with y n (g ∷ gs)
    first l =
        let long : length (set g.solutions n x) ≡ length g.solutions = length-set g.solutions n x in
        ap (groups_with y n) (here x n g gs l) ∙ here y n (group_with x n g) gs (omega (arith, l, long))
        ∙ ap (λ xs. record g { solutions = xs } ∷ gs) (set_twice g.solutions n x y)
        ∙ sym (here y n g gs l)

    later : groups_with y (n - length g.solutions) (groups_with x (n - length g.solutions) gs)
        ≡ groups_with y (n - length g.solutions) gs
        → length g.solutions ≤ n → groups_with y n (groups_with x n (g ∷ gs)) ≡ groups_with y n (g ∷ gs)
    later rest l =
        ap (groups_with y n) (past x n g gs l) ∙ past y n g (groups_with x (n - length g.solutions) gs) l
        ∙ ap (λ hs. g ∷ hs) rest
        ∙ sym (past y n g gs l)

pub entries_only : (a : Archive) (n : ℕ) (old : RawSolution) (es : List RawEntry)
    → slice_get (solutions_of a) n ≡ Some old
    → emptied n (archive_with (record old { events = es }) n a) ≡ emptied n a
entries_only a n old es at =
    let raw : RawSolution = record old { events = es } in
    let b : Archive = archive_with raw n a in
    ap (λ o. option_map_or (λ x. archive_with (blank x) n b) o b) (set_there raw old n a at)
    ∙ ap (λ gs. record a { solution_groups = gs }) (groups_twice raw (blank old) n a.solution_groups)
    ∙ sym (ap (λ o. option_map_or (λ x. archive_with (blank x) n a) o a) at)

-- archives that are the same, with no entries in a solution
groups_bare : (raw : RawSolution) (n : ℕ) (gs : List SolutionGroup)
    → map solution_group (groups_with raw n gs) ≡ groups_with (solution raw) n (map solution_group gs)
groups_bare raw n [] = ap (map solution_group) (nowhere raw n) ∙ sym (nowhere (solution raw) n)
groups_bare raw n (g ∷ gs) =
    split n (length g.solutions) first (later (groups_bare raw (n - length g.solutions) gs))
  where
    long : length (map solution g.solutions) ≡ length g.solutions
    long = length-map g.solutions solution

    first : n < length g.solutions
        → map solution_group (groups_with raw n (g ∷ gs)) ≡ groups_with (solution raw) n (map solution_group (g ∷ gs))
    first l =
        let m = long in
        ap (map solution_group) (here raw n g gs l)
        ∙ ap (λ xs. record (solution_group g) { solutions = xs } ∷ map solution_group gs) (set_mapped solution g.solutions n raw)
        ∙ sym (here (solution raw) n (solution_group g) (map solution_group gs) (omega (arith, l, m)))

    later : map solution_group (groups_with raw (n - length g.solutions) gs)
        ≡ groups_with (solution raw) (n - length g.solutions) (map solution_group gs)
        → length g.solutions ≤ n
        → map solution_group (groups_with raw n (g ∷ gs)) ≡ groups_with (solution raw) n (map solution_group (g ∷ gs))
    later rest l =
        let m = long in
        ap (map solution_group) (past raw n g gs l)
        ∙ ap (λ hs. solution_group g ∷ hs) rest
        ∙ ap (λ k. solution_group g ∷ groups_with (solution raw) (n - k) (map solution_group gs)) (sym long)
        ∙ sym (past (solution raw) n (solution_group g) (map solution_group gs) (omega (arith, l, m)))

one_bare : (n : ℕ) (a : Archive) (x : RawSolution)
    → unplaced (archive_with (blank x) n a) ≡ archive_with (blank (solution x)) n (unplaced a)
unfolding unplaced
one_bare n a x = ap (λ gs. record (unplaced a) { solution_groups = gs }) (groups_bare (blank x) n a.solution_groups)

emptied_bare : (n : ℕ) (a : Archive) → unplaced (emptied n a) ≡ emptied n (unplaced a)
emptied_bare n a =
    by (slice_get (solutions_of a) n)
    ∙ ap (λ o. option_map_or (λ x. archive_with (blank x) n (unplaced a)) o (unplaced a))
    (sym (slice_get-map solution (solutions_of a) n) ∙ ap (λ xs. slice_get xs n) (sym (solutions_alike a)))
  where
    by : (o : Option RawSolution) → unplaced (option_map_or (λ x. archive_with (blank x) n a) o a)
        ≡ option_map_or (λ x. archive_with (blank x) n (unplaced a)) (option_map solution o) (unplaced a)
    by None = refl
    by (Some x) = one_bare n a x

pub same_emptied : (n : ℕ) (a b : Archive) → IsSame a b → IsSame (emptied n a) (emptied n b)
same_emptied n a b e = emptied_bare n a ∙ ap (emptied n) e ∙ sym (emptied_bare n b)
