-- The supplies of a domain, by their resource and the time before it is moved on.
use Rattle.std.specs.Prelude.{is_some}
use Rattle.std.proofs.Common.{ℕ, List, None, ◌+◌, ◌-◌, ◌*◌, ◌/◌, ◌%◌, ◌<◌, ◌≤◌, ◌≡◌, Bool, true, ◌&&◌, Option, Some}
use Rattle.std.proofs.Common.{refl, sym, ap, ◌∙◌, arith, leb}
use Rattle.std.proofs.lemmas.Bool.{and_parts, and_from, leb-true, le-leb, false≢true}
use Rattle.std.proofs.lemmas.Nat.{div-mul-add, mod-mul-add, mul-add-lt, div-add-mod'}
use Rattle.demand_matching.specs.declared.domains.Domain.{Domain}
use Rattle.demand_matching.specs.declared.table.Table.{Table}
use Rattle.demand_matching.specs.Domains.{Domains, is_present, admits, domain_of, is_picked, admits_where_present}
use Rattle.demand_matching.specs.Domains.{IsInRange}
use Rattle.demand_matching.specs.Table.{domains_of, may_take, admits_supply, supplies_in}

-- the supply of a resource at a time that is moved on
abbrev pub supply_at : Domains → Domain → ℕ → ℕ → ℕ
supply_at w d resource time = resource * w.last + d.shift + time

back : (x y : ℕ) → x ≡ (x + y) - y
back x y = omega arith

pub picked_admitted : (w : Domains) (d : Domain) (resource time : ℕ) → is_picked w.resources d.resources resource ≡ true
    → is_picked w.times d.times time ≡ true → admits w.times w.resources d resource (time + d.shift) ≡ true
picked_admitted w d r n p q =
    and_from (is_picked w.resources d.resources r)
    (leb d.shift (n + d.shift) && is_picked w.times d.times (n + d.shift - d.shift)) p
    (and_from (leb d.shift (n + d.shift)) (is_picked w.times d.times (n + d.shift - d.shift))
    (le-leb d.shift (n + d.shift) (omega arith))
    (ap (λ v. is_picked w.times d.times v) (sym (back n d.shift)) ∙ q))

pub picked_below : (w : Domains) (d : Domain) (resource time : ℕ) → IsInRange w d
    → is_picked w.resources d.resources resource ≡ true → is_picked w.times d.times time ≡ true
    → supply_at w d resource time < w.width * w.last
picked_below w d r n is p q =
    let in_all = picked_admitted w d r n p q in
    omega (
      arith,
      mul-add-lt r w.last (n + d.shift) w.width (is.resource r (n + d.shift) in_all)
          (is.time r (n + d.shift) in_all),
    )

pub picked_supply : (w : Domains) (d : Domain) (resource time : ℕ) → IsInRange w d
    → is_picked w.resources d.resources resource ≡ true → is_picked w.times d.times time ≡ true
    → admits_supply w d (supply_at w d resource time) ≡ true
picked_supply w d r n is p q =
    let in_all = picked_admitted w d r n p q in
    let t : ℕ = n + d.shift in
    let below : t < w.last = is.time r t in_all in
    let same : supply_at w d r n ≡ r * w.last + t = omega arith in
    let x : supply_at w d r n / w.last ≡ r = ap (λ v. v / w.last) same ∙ div-mul-add r w.last t below in
    let y : supply_at w d r n % w.last ≡ t = ap (λ v. v % w.last) same ∙ mod-mul-add r w.last t below in
    ap (λ v. admits w.times w.resources d v (supply_at w d r n % w.last)) x
    ∙ ap (λ v. admits w.times w.resources d r v) y ∙ in_all

-- and each supply that a domain admits is one of those
pub supply_found : (w : Domains) (d : Domain) (s : ℕ) → admits_supply w d s ≡ true
    → (resource : ℕ) × (time : ℕ) × (is_picked w.resources d.resources resource ≡ true)
    × (is_picked w.times d.times time ≡ true) × (supply_at w d resource time ≡ s)
supply_found w d s in_all =
    let r : ℕ = s / w.last in
    let t : ℕ = s % w.last in
    let a = and_parts (is_picked w.resources d.resources r) (leb d.shift t && is_picked w.times d.times (t - d.shift))
    in_all in
    let b = and_parts (leb d.shift t) (is_picked w.times d.times (t - d.shift)) a.1 in
    let shifted : d.shift ≤ t = leb-true d.shift t b.0 in
    (r, t - d.shift, a.0, b.1, omega (arith, div-add-mod' s w.last))

-- what a demand with this domain may have
pub may_is : (w : Domains) (d : Domain) (demand s : ℕ) → domain_of w demand ≡ Some d
    → may_take w demand s ≡ admits_supply w d s
may_is w d demand s it = ap (λ o. admits_where_present w.times w.resources o (s / w.last) (s % w.last)) it

pub admitted_below : (t : Table) (d : Domain) (s : ℕ) → IsInRange (domains_of t) d
    → admits_supply (domains_of t) d s ≡ true → s < supplies_in t
admitted_below t d s is may =
    let it = supply_found (domains_of t) d s may in
    omega (arith, picked_below (domains_of t) d it.0 it.1 is it.2 it.3, it.4)

present_where : (times resources : List (List Bool)) (o : Option Domain) (r t : ℕ)
    → admits_where_present times resources o r t ≡ true → is_some o ≡ true
present_where times resources None r t h = absurd (false≢true h)
present_where times resources (Some d) r t h = refl

-- a demand that may have a supply is present
pub may_present : (w : Domains) (d s : ℕ) → may_take w d s ≡ true → is_present w d ≡ true
may_present w d s h = present_where w.times w.resources (domain_of w d) (s / w.last) (s % w.last) h
