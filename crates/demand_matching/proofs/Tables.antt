-- A table stays one as a demand is given a free supply.
use Rattle.std.proofs.Common.{ℕ, ◌<◌, ◌≡◌, ◌≢◌, true, false, Option, Some, None, length, get_or, set, sym, ap, ◌∙◌}
use Rattle.std.proofs.Common.{arith, inl, inr, length-set, if◌then◌else◌, nat_eq}
use Rattle.std.specs.Prelude.{is_none, Vec}
use Rattle.std.specs.declared.alloc.Global.{Global}
use Rattle.khe_base.specs.Bits.{is_set}
use Rattle.demand_matching.specs.declared.table.Table.{Table}
use Rattle.demand_matching.specs.Table.{domains_of, may_take, supply_of, owner_of, demands_in, supplies_in, IsTable}
use Rattle.demand_matching.proofs.Counting.{cases_eqb}
use Rattle.demand_matching.proofs.Marks.{written_same, written_other}
use Rattle.demand_matching.proofs.Moves.{given, written, kept}

pub given_table : (t : Table) (p o : Vec (Option ℕ) Global) (f : Vec ℕ Global) (d s : ℕ) → IsTable t → d < demands_in t
    → s < supplies_in t → supply_of t d ≡ None → owner_of t s ≡ None → may_take (domains_of t) d s ≡ true
    → p.items ≡ set t.supplies.items d (Some s) → o.items ≡ set t.owners.items s (Some d)
    → length f.items ≡ length t.free.items → ((k : ℕ)
    → is_set f.items k ≡ (if nat_eq k s then false else is_set t.free.items k))
    → IsTable (record t { supplies = p; owners = o; free = f })
given_table t p o f d s is l m none free may ps os len all =
    let d_in : d < length t.supplies.items = omega (arith, is.supplies_length) in
    let s_in : s < length t.owners.items = omega (arith, is.owners_length) in
    let now : get_or p.items d None ≡ Some s = ap (λ v. get_or v d None) ps
    ∙ written t.supplies.items d (Some s) None d_in in
    let others : (e : ℕ) → e ≢ d → get_or p.items e None ≡ get_or t.supplies.items e None =
    λ e ne. ap (λ v. get_or v e None) ps ∙ kept t.supplies.items d e (Some s) None ne in
    let owner : get_or o.items s None ≡ Some d = ap (λ v. get_or v s None) os
    ∙ written t.owners.items s (Some d) None s_in in
    let rest : (u : ℕ) → u ≢ s → get_or o.items u None ≡ get_or t.owners.items u None =
    λ u ne. ap (λ v. get_or v u None) os ∙ kept t.owners.items s u (Some d) None ne in
    record {
      small = is.small;
      narrow = is.narrow;
      few = is.few;
      supplies_length = ap length ps ∙ length-set t.supplies.items d (Some s) ∙ is.supplies_length;
      owners_length = ap length os ∙ length-set t.owners.items s (Some d) ∙ is.owners_length;
      in_range = λ e x h. let r = is.in_range e x h in
          record { times = r.times; resources = r.resources; resource = r.resource; time = r.time };
      matching = given (demands_in t) (supplies_in t) (may_take (domains_of t)) (supply_of t) (owner_of t)
          (λ e. get_or p.items e None) (λ u. get_or o.items u None) d s is.matching l m may free none now others owner
          rest;
      room = omega (arith, is.room);
      free = λ u h. elim (cases_eqb u s) [
        | inl x ↦ written_same t.free.items f.items s u false all x
            ∙ sym (ap is_none (ap (λ v. get_or o.items v None) x ∙ owner))
        | inr x ↦ written_other t.free.items f.items s u false all x ∙ is.free u h ∙ sym (ap is_none (rest u x))
      ];
    }
