-- The first fault of looks for one, in their order.
use Rattle.std.proofs.Common.{◌≡◌, ◌∙◌, ap, refl, sym, Option, Some, None, Result, Ok, Err, map, option_map, subst}
use Rattle.std.proofs.Common.{IsErrAnd, IfErr, IfOk, ℕ, List, [], ◌∷◌, ◌++◌, append_assoc}
use Rattle.std.specs.Prelude.{unwrap_or}
use Rattle.std.specs.Option.{option_map_or, option_or}
use Rattle.xhstt_references.specs.Faults.{IsTold}
use Rattle.xhstt_references.specs.Followed.{followed_of}
use Rattle.xhstt_references.specs.declared.faults.ReferenceFault.{ReferenceFault}
use Rattle.xhstt_references.specs.declared.faults.ReferenceFault.TheVariants as reference
use Rattle.xhstt_resolve.specs.Answers.{IsFirst, IsFaultOf}
use Rattle.xhstt_resolve.specs.Faults.{as_fault}
use Rattle.xhstt_resolve.specs.Parts.{parts_of}
use Rattle.xhstt_resolve.specs.Resolved.{archive_fault, instances_of, resolved}
use Rattle.xhstt_resolve.specs.declared.faults.ResolveFault.{ResolveFault}
use Rattle.xhstt_resolve.specs.declared.faults.ResolveFault.TheVariants.{Bad, Limit, NoMemory}
use Rattle.xhstt_resolve.specs.declared.resolving.Resolved.{Resolved}
use Rattle.xhstt_shape.specs.declared.records.Archive.{Archive}

-- what holds in any case holds where a call went well
pub as_well : {A E P : Type 0} (r : Result A E) → P → IfOk r (λ _. P)
as_well (Ok a) p = p
as_well (Err e) p = tt

-- the first look finds it
pub this-first : (x rest : Option ResolveFault) (e : ResolveFault) → IsFirst x e → IsFirst (option_or x rest) e
this-first x rest (Bad kind at) is = ap (λ o. option_or o rest) is
this-first x rest (Limit which value) is = ap (λ o. option_or o rest) is
this-first x rest NoMemory is = tt

-- the first look finds nothing
pub next-first : (x rest : Option ResolveFault) (e : ResolveFault) → x ≡ None → IsFirst rest e
    → IsFirst (option_or x rest) e
next-first x rest (Bad kind at) none is = ap (λ o. option_or o rest) none ∙ is
next-first x rest (Limit which value) none is = ap (λ o. option_or o rest) none ∙ is
next-first x rest NoMemory none is = tt

-- no look finds anything
pub both-none : (x rest : Option ResolveFault) → x ≡ None → rest ≡ None → option_or x rest ≡ None
both-none x rest none more = ap (λ o. option_or o rest) none ∙ more

pub some-first : (x : Option ResolveFault) (e : ResolveFault) → x ≡ Some e → IsFirst x e
some-first x (Bad kind at) is = is
some-first x (Limit which value) is = is
some-first x NoMemory is = tt

-- a fault of references
pub reference-first : (A : Type 0) (x : Option ReferenceFault) (r : ReferenceFault) → IsTold {A = A} (Err r) x
    → IsFirst (option_map as_fault x) (as_fault r)
reference-first A x (reference.Bad kind at) is = ap (option_map as_fault) is
reference-first A x reference.NoMemory is = tt

pub reference-none : (x : Option ReferenceFault) → x ≡ None → option_map as_fault x ≡ None
reference-none x is = ap (option_map as_fault) is

-- the first fault of an archive is the answer of resolving
pub fault-of : (a : Archive) (e : ResolveFault) → IsFirst (archive_fault a) e → IsFaultOf (resolved a) e
fault-of a (Bad kind at) is = ap (λ o. option_map_or Err o
    (Ok (record { instances = map parts_of a.instances; of = instances_of a; followed = followed_of a }))) is
fault-of a (Limit which value) is = ap (λ o. option_map_or Err o
    (Ok (record { instances = map parts_of a.instances; of = instances_of a; followed = followed_of a }))) is
fault-of a NoMemory is = tt

pub resolved-sound : (a : Archive) (r : Resolved) → archive_fault a ≡ None → r.instances ≡ map parts_of a.instances
    → r.of ≡ instances_of a → r.followed ≡ followed_of a → resolved a ≡ Ok r
resolved-sound a r none instances of followed =
    ap (λ o. option_map_or Err o (Ok (record { instances = map parts_of a.instances; of = instances_of a; followed = followed_of a }))) none
    ∙ (λ j. Ok (record { instances = sym instances j; of = sym of j; followed = sym followed j }))

-- an error that is passed on is the first fault as it was
pub passed-first : {A : Type 0} (r : Result A ResolveFault) (e : ResolveFault) (first : Option ResolveFault)
    → IsErrAnd r (λ x. x ≡ e) → IsFirst first e → IfErr r (IsFirst first)
passed-first (Ok a) e first h is = tt
passed-first (Err x) e first h is = subst (IsFirst first) (sym h) is

pub passed-fault : {A : Type 0} (r : Result A ResolveFault) (e : ResolveFault) (a : Archive) → IsErrAnd r (λ x. x ≡ e)
    → IsFaultOf (resolved a) e → IfErr r (IsFaultOf (resolved a))
passed-fault (Ok x) e a h is = tt
passed-fault (Err x) e a h is = subst (IsFaultOf (resolved a)) (sym h) is

-- a list in which one more item was made
pub pushed : {A B : Type 0} (f : A → B) (old new all : List B) (x : A) (y : B) (before after : List A)
    → new ≡ old ++ y ∷ [] → y ≡ f x → before ≡ x ∷ after
    → old ++ map f before ≡ all → new ++ map f after ≡ all
pushed f old new all x y before after added made left sofar =
    ap (λ ys. ys ++ map f after) added
    ∙ append_assoc old (y ∷ []) (map f after)
    ∙ ap (λ z. old ++ (z ∷ map f after)) made
    ∙ ap (λ xs. old ++ map f xs) (sym left)
    ∙ sofar

some-unwrapped : (ns : List ℕ) → map (λ o. unwrap_or o 0) (map (λ n. Some n) ns) ≡ ns
some-unwrapped [] = refl
some-unwrapped (n ∷ ns) = ap (λ xs. n ∷ xs) (some-unwrapped ns)

pub map-twice : {A B C : Type 0} (f : B → C) (g : A → B) (xs : List A) → map f (map g xs) ≡ map (λ x. f (g x)) xs
map-twice f g [] = refl
map-twice f g (x ∷ xs) = ap (λ ys. f (g x) ∷ ys) (map-twice f g xs)

-- numbers that are there, without their options
pub unwrapped : {A : Type 0} (g : A → Option ℕ) (ns : List ℕ) (xs : List A) → map (λ n. Some n) ns ≡ map g xs
    → ns ≡ map (λ x. unwrap_or (g x) 0) xs
unwrapped g ns xs is = sym (some-unwrapped ns) ∙ ap (map (λ o. unwrap_or o 0)) is ∙ map-twice (λ o. unwrap_or o 0) g xs
