-- The first of some places is the fault that is told.
use Rattle.std.proofs.Common.{◌≡◌, ◌∙◌, ap, refl, sym, subst, ℕ, min, List, [], ◌∷◌, Option, Some, None, Err, Ok}
use Rattle.std.proofs.Common.{Result, IfOk}
use Rattle.std.specs.List.{fold}
use Rattle.std.specs.Option.{option_map}
use Rattle.std.specs.Result.{IsErrAnd, result_and}
use Rattle.xhstt_references.specs.Faults.{at_first, IsTold}
use Rattle.xhstt_references.specs.First.{noted, first_of}
use Rattle.xhstt_references.specs.declared.faults.ReferenceFault.{ReferenceFault}
use Rattle.xhstt_references.specs.declared.faults.ReferenceFault.TheVariants.{Bad, NoMemory}

fold_is : (a : ℕ) (xs : List ℕ) → fold noted (Some a) xs ≡ Some (fold min a xs)
fold_is a [] = refl
fold_is a (x ∷ xs) = fold_is (min a x) xs

first_is : (kind : ℕ) (xs : List ℕ) → option_map (λ at. Bad kind at) (first_of None xs) ≡ at_first kind xs None
unfolding first_of
first_is kind [] = refl
first_is kind (at ∷ more) = ap (option_map (λ x. Bad kind x)) (fold_is at more)

-- where no fault is told, there is no place
pub none_left : (kind : ℕ) (xs : List ℕ) → at_first kind xs None ≡ None → xs ≡ []
none_left kind [] h = refl
none_left kind (at ∷ more) h = cc

pub passed : (kind : ℕ) (first : Option ℕ) (xs : List ℕ) → first ≡ first_of None xs
    → option_map (λ at. Bad kind at) first ≡ None → xs ≡ []
passed kind first xs is h = none_left kind xs
    (sym (first_is kind xs) ∙ ap (option_map (λ at. Bad kind at)) (sym is) ∙ h)

-- a fault that is told of some places is the first of all, whatever follows
told_first : (kind : ℕ) (xs : List ℕ) (following : Option ReferenceFault) (e : ReferenceFault)
    → IsTold {A = Unit {0}} (Err e) (at_first kind xs None) → IsTold {A = Unit {0}} (Err e) (at_first kind xs following)
told_first kind xs following NoMemory h = tt
told_first kind [] following (Bad k at) h = cc
told_first kind (x ∷ more) following (Bad k at) h = h

pub refused : (kind : ℕ) (first : Option ℕ) (xs : List ℕ) (following : Option ReferenceFault) (e : ReferenceFault)
    → first ≡ first_of None xs → IsTold {A = Unit {0}} (Err e) (option_map (λ at. Bad kind at) first)
    → IsTold {A = Unit {0}} (Err e) (at_first kind xs following)
refused kind first xs following e is h =
    let same : option_map (λ at. Bad kind at) first ≡ at_first kind xs None =
    ap (option_map (λ at. Bad kind at)) is ∙ first_is kind xs in
    let P : Option ReferenceFault → Type 0 = λ f. IsTold {A = Unit {0}} (Err e) f in
    told_first kind xs following e (subst P same h)

-- where there is no place, what follows is told
pub told_later : (kind : ℕ) (xs : List ℕ) (following : Option ReferenceFault) (e : ReferenceFault)
    → xs ≡ [] → IsTold {A = Unit {0}} (Err e) following → IsTold {A = Unit {0}} (Err e) (at_first kind xs following)
told_later kind xs following e none told =
    let P : List ℕ → Type 0 = λ ys. IsTold {A = Unit {0}} (Err e) (at_first kind ys following) in
    subst P (sym none) told

-- an error that is passed on is told as it was
pub passed_on : {A : Type 0} (r : Result A ReferenceFault) (e : ReferenceFault) (fault : Option ReferenceFault)
    → IsErrAnd r (λ x. x ≡ e) → IsTold {A = Unit {0}} (Err e) fault → IsTold r fault
passed_on (Ok a) e fault h told = absurd h
passed_on (Err x) e fault h told =
    let P : ReferenceFault → Type 0 = λ y. IsTold {A = Unit {0}} (Err y) fault in
    subst P (sym h) told

-- a value that is given where a judgment found no fault: what the judgment found of it holds
pub kept : {A : Type 0} (j : Result (Unit {0}) ReferenceFault) (r : Result A ReferenceFault) (a : A) (P : A → Type 0)
    → r ≡ result_and j (Ok a) → IfOk j (λ _. P a) → IfOk r P
kept (Ok u) r a P is h = subst (λ x. IfOk x P) (sym is) h
kept (Err e) r a P is h = subst (λ x. IfOk x P) (sym is) tt

-- and a fault that the judgment found is told
pub kept_told : {A : Type 0} (j : Result (Unit {0}) ReferenceFault) (r : Result A ReferenceFault) (a : A)
    (fault : Option ReferenceFault)
    → r ≡ result_and j (Ok a) → IsTold j fault → IsTold r fault
kept_told (Ok u) r a fault is h = subst (λ x. IsTold x fault) (sym is) h
kept_told (Err NoMemory) r a fault is h = subst (λ x. IsTold x fault) (sym is) tt
kept_told (Err (Bad k at)) r a fault is h = subst (λ x. IsTold x fault) (sym is) h
