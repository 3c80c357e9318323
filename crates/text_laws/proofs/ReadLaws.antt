-- What is true of an archive that was read: it is well formed, and its instances are well made.
use Rattle.std.proofs.Common.{ℕ, zero, suc, ◌≡◌, ◌∙◌, refl, sym, ap, subst, Option, Some, None, Ok, Err, List, []}
use Rattle.std.proofs.Common.{◌∷◌, map, slice_get, option_map}
use Rattle.std.specs.Option.{option_and_then, option_map_or, option_or}
use Rattle.std.proofs.lemmas.Option.{same_Some, slice_get-map}
use Rattle.khe_base.proofs.ListLemmas.{all-there}
use Rattle.khe_instance.specs.WellMade.{AreWellMade}
use Rattle.khe_instance.specs.declared.parts.Parts.{Parts}
use Rattle.xhstt_entries.specs.Texts.{HasSpellable}
use Rattle.xhstt_entries.proofs.SpellableLaws.{parts_spellable}
use Rattle.xhstt_completion.specs.Numbered.{parts_at}
use Rattle.xhstt_completion.proofs.Resolved.{resolved-as}
use Rattle.xhstt_references.specs.Faults.{fault_of_ids, fault_of_instance}
use Rattle.xhstt_references.specs.Followed.{followed_of}
use Rattle.xhstt_resolve.proofs.WellMade.{parts-well-made}
use Rattle.xhstt_resolve.specs.Faults.{as_fault}
use Rattle.xhstt_resolve.specs.Limits.{earliest, limit_fault}
use Rattle.xhstt_resolve.specs.Parts.{parts_of}
use Rattle.xhstt_resolve.specs.Resolved.{archive_fault, instance_fault, instances_of, resolved, solutions_fault}
use Rattle.xhstt_resolve.specs.declared.faults.ResolveFault.{ResolveFault}
use Rattle.xhstt_resolve.specs.declared.resolving.Resolved.{Resolved}
use Rattle.xhstt_shape.specs.Characters.{IsSpellableInstance}
use Rattle.xhstt_shape.specs.Shape.{shape_of}
use Rattle.xhstt_shape.specs.WellFormed.{IsInstance, IsWellFormed}
use Rattle.xhstt_shape.proofs.WellFormed.{told-well_formed}
use Rattle.xhstt_shape.specs.declared.records.Archive.{Archive}
use Rattle.xhstt_shape.specs.declared.records.RawInstance.{RawInstance}
use Rattle.xhstt_text.specs.Document.{Spelled}
use Rattle.xhstt_text.specs.Forest.{Forest, empty, node}
use Rattle.text_laws.specs.Read.{IsArchiveOf}

pub formed : (f : Forest) (bytes : List ℕ) (a : Archive) → Spelled bytes f → shape_of f ≡ Ok a → IsWellFormed a
formed empty bytes a s e = absurd (let g : ⊥ = cc in g)
formed (node i kids others) bytes a s e = told-well_formed (Ok a) bytes (node i kids others) i kids others refl e s

pub read_formed : (bytes : List ℕ) (a : Archive) (r : Resolved) → IsArchiveOf bytes a r → IsWellFormed a
read_formed bytes a r is = formed is.tree bytes a is.spelled is.shape

-- of faults in order none is there
pub neither : {A : Type 0} (o q : Option A) → option_or o q ≡ None → (o ≡ None) × (q ≡ None)
neither None q e = (refl, e)
neither (Some x) q e = absurd (let g : ⊥ = cc in g)

pub none-mapped : {A B : Type 0} (f : A → B) (o : Option A) → option_map f o ≡ None → o ≡ None
none-mapped f None e = refl
none-mapped f (Some x) e = absurd (let g : ⊥ = cc in g)

pub faultless : (a : Archive) (r : Resolved) → resolved a ≡ Ok r → archive_fault a ≡ None
faultless a r e = by (archive_fault a) refl e
  where
    by : (o : Option ResolveFault) → archive_fault a ≡ o
        → option_map_or Err o (Ok (record { instances = map parts_of a.instances; of = instances_of a; followed = followed_of a })) ≡ Ok r
        → archive_fault a ≡ None
    by None is e = is
    by (Some fault) is e = absurd (let g : ⊥ = cc in g)

-- the instance that stands at a place has none
clean_at : (is : List RawInstance) (k : ℕ) (i : RawInstance) → earliest (map instance_fault is) ≡ None
    → slice_get is k ≡ Some i → instance_fault i ≡ None
clean_at [] k i e at = absurd (let g : ⊥ = cc in g)
clean_at (x ∷ xs) zero i e at =
    subst (λ y. instance_fault y ≡ None) (same_Some x i at)
    (neither (instance_fault x) (earliest (map instance_fault xs)) e).0
clean_at (x ∷ xs) (suc k) i e at =
    clean_at xs k i (neither (instance_fault x) (earliest (map instance_fault xs)) e).1 at

-- the parts of a solution are those of an instance of the archive
pub record IsInstanceOf (a : Archive) (p : Parts) : Type 0 where
  pub place : ℕ
  pub instance : RawInstance
  pub there : slice_get a.instances place ≡ Some instance
  pub parts : parts_of instance ≡ p

-- an element that a mapped list has comes from one
source : {A B : Type 0} (f : A → B) (o : Option A) (y : B) → option_map f o ≡ Some y → (x : A) × (o ≡ Some x) × (f x ≡ y)
source f None y e = absurd (let g : ⊥ = cc in g)
source f (Some x) y e = (x, refl, same_Some (f x) y e)

pub instance_of : (a : Archive) (r : Resolved) (number : ℕ) (p : Parts) → resolved a ≡ Ok r → parts_at r number ≡ Some p
    → IsInstanceOf a p
instance_of a r number p e at = by (slice_get r.of number) at
  where
    by : (o : Option ℕ) → option_and_then (λ k. slice_get r.instances k) o ≡ Some p → IsInstanceOf a p
    by None at = absurd (let g : ⊥ = cc in g)
    by (Some k) at =
        let s = source parts_of (slice_get a.instances k) p
        (sym (slice_get-map parts_of a.instances k) ∙ ap (λ xs. slice_get xs k) (sym (resolved-as a r e).instances) ∙ at) in
        record { place = k; instance = s.0; there = s.1; parts = s.2 }

-- which is well made, and has texts that can be written
pub well_made : (a : Archive) (r : Resolved) (p : Parts) → IsWellFormed a → resolved a ≡ Ok r → IsInstanceOf a p
    → AreWellMade p
well_made a r p w e is =
    let first = neither (option_map as_fault (fault_of_ids a)) (earliest (earliest (map instance_fault a.instances) ∷ solutions_fault a ∷ [])) (faultless a r e) in
    let second = neither (earliest (map instance_fault a.instances)) (earliest (solutions_fault a ∷ [])) first.1 in
    let clean = clean_at a.instances is.place is.instance second.0 is.there in
    let both = neither (option_map as_fault (fault_of_instance is.instance)) (limit_fault is.instance) clean in
    subst AreWellMade is.parts
    (parts-well-made is.instance (none-mapped as_fault (fault_of_instance is.instance) both.0) both.1
    (all-there IsInstance a.instances is.place is.instance w.in_form.instances is.there))

pub spellable : (a : Archive) (p : Parts) → IsWellFormed a → IsInstanceOf a p → HasSpellable p
spellable a p w is =
    subst HasSpellable is.parts
    (parts_spellable is.instance
    (all-there IsSpellableInstance a.instances is.place is.instance w.spellable.instances is.there)
    (all-there IsInstance a.instances is.place is.instance w.in_form.instances is.there))
