use Rattle.std.proofs.Common.{◌+◌, ◌*◌, ◌^◌, ◌<◌, ◌≤◌, sym, ap, ◌∙◌, arith, bit_and}
use Rattle.std.proofs.lemmas.Nat.{and_le_l}
use Rattle.khe_base.specs.Bits.{is_set}
use Rattle.demand_matching.proofs.Looks.{none_more, free_found}
use Rattle.demand_matching.proofs.Picks.{picked_first, picked_end}
use Rattle.demand_matching.proofs.table.Table.free_at.Goals as goal

pub loop-k-init : goal.loop-k-init
loop-k-init c = λ n h p. absurd (omega (
  arith,
  picked_first c.args.self.now.times c.args.domain.times n p,
  c.span-first.ensures.first,
))

pub loop-k-preserved : goal.loop-k-preserved
loop-k-preserved c =
    let t = c.args.self.now in
    none_more t.free.items t.times c.args.domain.times c.window.result c.word.result c.row-row.result c.loop-k.k
    (λ j h. c.window.ensures j h ∙ ap (λ xs. is_set xs (c.row-row.result + 64 * c.loop-k.k + j))
    c.as_slice.ensures.value) c.word.ensures c.if-free-ne0.false c.loop-k.invariant

pub returns-then-free-ne0 : goal.returns-then-free-ne0
returns-then-free-ne0 c =
    let t = c.args.self.now in
    let less : bit_and c.window.result c.word.result ≤ c.window.result = and_le_l c.window.result c.word.result in
    let small : bit_and c.window.result c.word.result < 2 ^ 64 = omega (arith, c.window.type_inv) in
    free_found t c.args.domain c.args.resource c.row-row.result c.window.result c.word.result c.loop-k.k
    c.requires.table c.requires.domain c.requires.picked c.row-row.ensures.is
    (λ j h. c.window.ensures j h ∙ ap (λ xs. is_set xs (c.row-row.result + 64 * c.loop-k.k + j))
    c.as_slice.ensures.value) c.word.ensures (omega (arith, c.if-free-ne0.true)) small

pub overflow_cast-result : goal.overflow_cast-result
overflow_cast-result c =
    let t = c.args.self.now in
    let less : bit_and c.window.result c.word.result ≤ c.window.result = and_le_l c.window.result c.word.result in
    let small : bit_and c.window.result c.word.result < 2 ^ 64 = omega (arith, c.window.type_inv) in
    let it = free_found t c.args.domain c.args.resource c.row-row.result c.window.result c.word.result c.loop-k.k
    c.requires.table c.requires.domain c.requires.picked c.row-row.ensures.is
    (λ j h. c.window.ensures j h ∙ ap (λ xs. is_set xs (c.row-row.result + 64 * c.loop-k.k + j))
    c.as_slice.ensures.value) c.word.ensures (omega (arith, c.if-free-ne0.true)) small in
    omega (arith, it.below, c.requires.table.few)

pub returns : goal.returns
returns c =
    λ n p. ap (λ v. is_set c.args.self.now.free.items (v + n)) (sym c.row-row.ensures.is)
    ∙ c.loop-k.invariant n (omega (
      arith,
      picked_end c.args.self.now.times c.args.domain.times n p,
      c.span-first.ensures.end,
    )) p
