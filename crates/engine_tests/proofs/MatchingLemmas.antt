-- A domain of one supply, and what a change of a domain keeps.
use Rattle.std.proofs.Common.{ℕ, ◌-◌, ◌<◌, ◌≡◌, ◌&&◌, Option, Some, subst, length, ap, ◌∙◌, arith, eqb, leb, length-set}
use Rattle.std.proofs.lemmas.Bool.{and_parts, eqb-true}
use Rattle.demand_matching.specs.declared.domains.Domain.{Domain}
use Rattle.demand_matching.specs.declared.domains.Pick.TheVariants.{One}
use Rattle.demand_matching.specs.Domains.{Domains, IsInRange, with_domain}
use Rattle.engine_tests.specs.Matchings.{SameSizes}

pub single_in_range : (w : Domains) (time resource : ℕ) → time < w.last → resource < w.width
    → IsInRange w (record { times = One time; shift = 0; resources = One resource })
single_in_range w time resource l m = record {
  times = tt;
  resources = tt;
  resource = λ r t h.
      let a = and_parts (eqb resource r) (leb 0 t && eqb time (t - 0)) h in
      omega (arith, eqb-true resource r a.0);
  time = λ r t h.
      let a = and_parts (eqb resource r) (leb 0 t && eqb time (t - 0)) h in
      let b = and_parts (leb 0 t) (eqb time (t - 0)) a.1 in
      omega (arith, eqb-true time (t - 0) b.1);
}

pub same_sizes_with : (w w' : Domains) (d : ℕ) (x : Option Domain) → w' ≡ with_domain w d x → SameSizes w w'
same_sizes_with w w' d x e = record {
  demands = ap (λ v. length v.demands) e ∙ length-set w.demands d x;
  last = ap (λ v. v.last) e;
  width = ap (λ v. v.width) e;
}

pub same_sizes_trans : (a b c : Domains) → SameSizes a b → SameSizes b c → SameSizes a c
same_sizes_trans a b c p q = record {
  demands = q.demands ∙ p.demands;
  last = q.last ∙ p.last;
  width = q.width ∙ p.width;
}

-- what holds of a domain holds of the one that an option has
pub of_some : (P : Domain → Type 0) (d : Domain) → P d → (x : Domain) → Some d ≡ Some x → P x
of_some P d h x e = let same : d ≡ x = cc in subst P same h
