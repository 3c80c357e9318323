use Rattle.std.proofs.Common.{◌+◌, ◌*◌, ◌/◌, ◌<◌, ◌≤◌, ◌^◌, arith, refl}
use Rattle.khe_base.proofs.ResultLemmas.{if_ok}
use Rattle.demand_matching.proofs.Keeps.{new_ready}
use Rattle.demand_matching.proofs.matching.Matching.new.Goals as goal

pub invariant_of-result : goal.invariant_of-result
invariant_of-result c =
    let small : c.args.demands < 2 ^ 32 = omega arith in
    let narrow : c.args.width < 2 ^ 32 = omega arith in
    let few : c.args.width * c.args.last < 2 ^ 32 = omega arith in
    let room : c.args.width * c.args.last ≤ 64 * ((c.args.width * c.args.last + 63) / 64) = omega arith in
    let top = c.in_ok-first.ensures in
    let first = if_ok _ _ _ top.0 c.both-first.ensures in
    let second = if_ok _ _ _ top.1 c.both-second.ensures in
    let lists = if_ok _ _ _ first.1 c.both.ensures in
    let kept = if_ok _ _ _ lists.1 c.both-kept.ensures in
    let words = if_ok _ _ _ second.1 c.both-2.ensures in
    let bits = if_ok _ _ _ words.1 c.both-bits.ensures in
    let order = if_ok _ _ _ second.0 c.new-3.ensures.order in
    let met_from = if_ok _ _ _ second.0 c.new-3.ensures.met_from in
    new_ready _ c.in_ok-first.second.0 c.in_ok-first.second.1.1.0.items c.in_ok-first.second.1.1.1.items c.args.demands
    ((c.args.width * c.args.last + 63) / 64)
    (if_ok _ _ _ lists.0 c.no_domains.ensures) (if_ok _ _ _ kept.0 c.no_numbers.ensures)
    (if_ok _ _ _ kept.1 c.no_numbers-2.ensures)
    small narrow few room (if_ok _ _ _ words.0 c.all_bits-3.ensures) (if_ok _ _ _ bits.0 c.all_bits.ensures)
    (if_ok _ _ _ bits.1 c.all_bits-2.ensures) order met_from

pub returns : goal.returns
returns c =
    let top = c.in_ok-first.ensures in
    let first = if_ok _ _ _ top.0 c.both-first.ensures in
    let sets = if_ok _ _ _ first.0 c.both-sets.ensures in
    let lists = if_ok _ _ _ first.1 c.both.ensures in
    rw (if_ok _ _ _ sets.0 c.new.ensures, if_ok _ _ _ sets.1 c.new-2.ensures, if_ok _ _ _ lists.0 c.no_domains.ensures)
    refl
