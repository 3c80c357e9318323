use Rattle.std.proofs.Common.{ap, sym, ◌∙◌, arith, inl, inr}
use Rattle.std.proofs.lemmas.Bool.{true≢false}
use Rattle.khe_base.specs.Bits.{has_bit}
use Rattle.demand_matching.proofs.Counting.{cases_last}
use Rattle.demand_matching.proofs.Searches.{goes_on_trans, may_kept, reached_still}
use Rattle.demand_matching.proofs.table.Table.meet_word.Goals as goal
use Rattle.demand_matching.proofs.table.Table.meet_word.Goals.{then-has_bit, else-has_bit}

pub meet-met-requires-clause-supply : goal.meet-met-requires-clause-supply
meet-met-requires-clause-supply c = c.requires.below c.loop-i.i (omega arith)
    (sym c.has_bit.ensures ∙ c.if-has_bit.true)

pub meet-met-requires-clause-allowed : goal.meet-met-requires-clause-allowed
meet-met-requires-clause-allowed c =
    may_kept c.args.self.now c.args.order.now c.loop-i.order c.args.stage.place c.args.len _
    c.loop-i.invariant.goes_on.keeps
    c.requires.place ∙ c.requires.allowed c.loop-i.i (omega arith) (sym c.has_bit.ensures ∙ c.if-has_bit.true)

pub meet-met-requires-clause-taken : goal.meet-met-requires-clause-taken
meet-met-requires-clause-taken c = c.requires.taken _
    (c.requires.allowed c.loop-i.i (omega arith) (sym c.has_bit.ensures ∙ c.if-has_bit.true))

pub loop-i-preserved : goal.loop-i-preserved
loop-i-preserved c =
    let t = c.args.self.now in
    let inv = c.loop-i.invariant in
    elim c.if-has_bit.branch [
      | then-has_bit w ↦ rw (w.order-is, w.unseen-is, w.met-is) (
          let g = w.meet-met.ensures.goes_on in
          record {
            goes_on = goes_on_trans t c.args.stage.head c.args.order.now c.loop-i.order w.meet-met.new.order
                c.loop-i.unseen.items w.meet-met.new.unseen.items c.args.len c.loop-i.met w.meet-met.result
                c.requires.table inv.goes_on g;
            reached = λ j l h. elim (cases_last j c.loop-i.i (omega arith)) [
              | inl x ↦ rw x w.meet-met.ensures.reached
              | inr less ↦ reached_still t c.loop-i.order.demands.items c.loop-i.order.spots.items
                  w.meet-met.new.order.demands.items w.meet-met.new.order.spots.items c.loop-i.met w.meet-met.result _
                  g.longer g.keeps (inv.reached j less h)
            ];
          })
      | else-has_bit w ↦ rw (w.order-is, w.unseen-is, w.met-is) (record {
        goes_on = inv.goes_on;
        reached = λ j l h. elim (cases_last j c.loop-i.i (omega arith)) [
          | inl x ↦ absurd (true≢false (sym h ∙ ap (has_bit c.args.word) x ∙ sym c.has_bit.ensures
              ∙ w.if-has_bit.false))
          | inr less ↦ inv.reached j less h
        ];
      })
    ]
