use Rattle.std.proofs.Common.{◌∙◌, false, sym, ap, length, replicate}
use Rattle.std.proofs.lemmas.List.{length-replicate}
use Rattle.khe_base.proofs.ResultLemmas.{if_ok}
use Rattle.family_tests.proofs.BenchLaws.{bench_opened}
use Rattle.family_tests.proofs.bench.Bench.open.Goals as goal

pub invariant_of-result : goal.invariant_of-result
invariant_of-result g c =
    let top = c.in_ok-family.ensures in
    let first = if_ok _ _ _ top.0 c.both-family.ensures in
    let rest = if_ok _ _ _ top.1 c.both.ensures in
    let slots = if_ok _ _ _ rest.0 c.both-slots.ensures in
    let same = if_ok _ _ _ first.0 c.«open».ensures.told in
    let told = if_ok _ _ _ first.1 c.open-2.ensures in
    let held = if_ok _ _ _ slots.0 c.zeros.ensures in
    let flags = if_ok _ _ _ slots.1 c.open-3.ensures.flags in (
      if_ok _ _ _ first.0 c.«open».ensures.of,
      same ∙ sym told,
      ap length flags ∙ length-replicate c.monitors.result false ∙ c.monitors.ensures,
      bench_opened c.args.inst.now g.F.Family.serves_kind c.in_ok-family.told (g.F.Family.told c.in_ok-family.family)
          c.in_ok-family.held.items c.set_all.new.marks.values.items
          told same (held ∙ ap (λ n. replicate n 0) c.events.ensures)
          c.set_all.ensures.monitors c.set_all.ensures.agrees,
    )
