-- One demand's domain changes, or is taken away.
use Rattle.std.proofs.Common.{ℕ, ◌/◌, ◌%◌, ◌<◌, ◌≡◌, ◌≢◌, true, Option, Some, None, length, get_or, set, refl, sym, ap}
use Rattle.std.proofs.Common.{◌∙◌, arith, inl, inr, length-set, get_or-set_same, get_or-set_other}
use Rattle.std.specs.Prelude.{is_some, Vec}
use Rattle.std.proofs.lemmas.Bool.{false≢true}
use Rattle.std.specs.declared.alloc.Global.{Global}
use Rattle.demand_matching.specs.declared.domains.Domain.{Domain}
use Rattle.demand_matching.specs.declared.table.Table.{Table}
use Rattle.demand_matching.specs.Domains.{domain_of, admits_where_present, IsInRange}
use Rattle.demand_matching.specs.Table.{domains_of, admits_supply, supply_of, demands_in, IsTable}
use Rattle.demand_matching.proofs.Counting.{cases_eqb}
use Rattle.demand_matching.proofs.Supplies.{may_present}

some_same : (a b : Domain) → (o : Option Domain) → o ≡ Some a → o ≡ Some b → a ≡ b
some_same a b o p q = cc

-- a demand without a domain has no supply
pub absent_none : (t : Table) (d : ℕ) → IsTable t → domain_of (domains_of t) d ≡ None → supply_of t d ≡ None
absent_none t d is gone = elim (supply_of t d) as (λ o. supply_of t d ≡ o → supply_of t d ≡ None) [
  | None ↦ λ e. e
  | Some s ↦ λ e. absurd (false≢true (sym (ap is_some gone)
      ∙ may_present (domains_of t) d s (is.matching.allowed d s e)))
] refl

pub put_table : (t : Table) (v : Vec (Option Domain) Global) (d : ℕ) (domain : Domain) → IsTable t → d < demands_in t
    → ((s : ℕ) → supply_of t d ≡ Some s → admits_supply (domains_of t) domain s ≡ true)
    → IsInRange (domains_of t) domain → v.items ≡ set t.demands.items d (Some domain)
    → IsTable (record t { demands = v })
put_table t v d domain is l kept ok its =
    let len : length v.items ≡ demands_in t = ap length its ∙ length-set t.demands.items d (Some domain) in
    let other : (e : ℕ) → e ≢ d → get_or v.items e None ≡ get_or t.demands.items e None =
    λ e ne. ap (λ xs. get_or xs e None) its ∙ get_or-set_other t.demands.items d e (Some domain) None ne in
    let here : get_or v.items d None ≡ Some domain =
    ap (λ xs. get_or xs d None) its ∙ get_or-set_same t.demands.items d (Some domain) None l in
    record {
      small = omega (arith, is.small);
      narrow = is.narrow;
      few = is.few;
      room = is.room;
      free = is.free;
      supplies_length = is.supplies_length ∙ sym len;
      owners_length = is.owners_length;
      in_range = λ e x h. elim (cases_eqb e d) [
        | inl z ↦
            let same : domain ≡ x = some_same domain x (get_or v.items d None) here
            (ap (λ k. get_or v.items k None) (sym z) ∙ h) in
            let r : IsInRange (domains_of t) x = rw (← same) ok in
            record { times = r.times; resources = r.resources; resource = r.resource; time = r.time }
        | inr z ↦
            let r : IsInRange (domains_of t) x = is.in_range e x (sym (other e z) ∙ h) in
            record { times = r.times; resources = r.resources; resource = r.resource; time = r.time }
      ];
      matching = record {
        demand = λ e s h. rw len (is.matching.demand e s h);
        supply = λ e s h. is.matching.supply e s h;
        allowed = λ e s h. elim (cases_eqb e d) [
          | inl z ↦ ap (λ o. admits_where_present t.times t.resources o (s / t.last) (s % t.last))
              (ap (λ k. get_or v.items k None) z ∙ here) ∙ kept s (ap (λ k. supply_of t k) (sym z) ∙ h)
          | inr z ↦ ap (λ o. admits_where_present t.times t.resources o (s / t.last) (s % t.last)) (other e z)
              ∙ is.matching.allowed e s h
        ];
        owned = λ e s h. is.matching.owned e s h;
        holds = λ s e h. is.matching.holds s e h;
      };
    }
