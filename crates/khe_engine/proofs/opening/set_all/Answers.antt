-- All values are set.
use Rattle.std.proofs.Common.{ℕ, ◌<◌, List, length, length-set, slice_get, ap, ◌∙◌, arith}
use Rattle.std.proofs.lemmas.Option.{slice_get_within}
use Rattle.monitor_graph.specs.Boards.{deviations_of}
use Rattle.khe_engine.proofs.SettleLaws.{served_all, set_more}
use Rattle.khe_engine.proofs.ValueLaws.{all_set}
use Rattle.khe_engine.proofs.opening.set_all.Goals as goal

pub returns-clause-values : goal.returns-clause-values
returns-clause-values g c =
    let v = c.loop-number.invariant in
    let end = c.monitors-number-end.ensures in
    all_set c.args.inst.now (g.F.Family.told c.args.families.now) c.args.graph.now c.loop-number.graph c.requires.rates
    v.rest v.many
    (λ i m at. let l = slice_get_within c.args.inst.now.monitors i m at in v.set i m (omega (arith, l, end)) at)

pub deviation-deviation-requires : goal.deviation-deviation-requires
deviation-deviation-requires g c = record {
  of = c.requires.of;
  known = let l = c.loop-number-test.true in let end = c.monitors-number-end.ensures in omega (arith, l, end);
  served = served_all g.F.Family.serves_kind (slice_get c.args.inst.now.monitors c.loop-number.number) c.requires.serves;
}

pub loop-number-preserved : goal.loop-number-preserved
loop-number-preserved g c =
    let v = c.loop-number.invariant in
    let p = c.args.inst.now in
    let s = g.F.Family.told c.args.families.now in
    let ds = deviations_of c.loop-number.graph in
    let n = c.loop-number.number in
    let r = c.deviation-deviation.result in
    let known : n < length p.monitors =
    let l = c.loop-number-test.true in let end = c.monitors-number-end.ensures in omega (arith, l, end) in
    let set = c.set.ensures.set in
    let rest = c.set.ensures.rest in
    record {
      many = ap length set ∙ length-set ds n r ∙ v.many;
      set = λ i m below at. ap (λ (xs : List ℕ). slice_get xs i) set
          ∙ set_more p s ds n r v.many known c.deviation-deviation.ensures.value v.set i m below at;
      rest = record {
        lines = v.rest.lines ∙ rest.lines;
        groups = v.rest.groups ∙ rest.groups;
        marked = v.rest.marked ∙ rest.marked;
        seats = v.rest.seats ∙ rest.seats;
      };
      steps = let b = c.set.ensures.steps in let d = v.steps in omega (arith, b, d);
    }
