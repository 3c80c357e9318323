use Rattle.std.proofs.Common.{◌<◌, ◌≡◌, Some, true, get_or, sym, ap, ◌∙◌, arith, inl, inr}
use Rattle.std.proofs.lemmas.Bool.{true≢false}
use Rattle.demand_matching.specs.Table.{supply_of, demands_in}
use Rattle.demand_matching.proofs.Counting.{cases_eqb, cases_last}
use Rattle.demand_matching.proofs.Duality.{same_some}
use Rattle.demand_matching.proofs.Marks.{written_same, written_other, unmarked}
use Rattle.demand_matching.proofs.Searches.{supply_read}
use Rattle.demand_matching.proofs.table.Table.unmark.Goals as goal
use Rattle.demand_matching.proofs.table.Table.unmark.Goals.{in-Some, in_default}

pub set_bit-requires : goal.set_bit-requires
set_bit-requires c =
    let t = c.args.self.now in
    let order = c.args.order.now.demands.items in
    let near : c.loop-place.place < demands_in t = omega (arith, c.requires.to) in
    let owns = sym (supply_read t order c.loop-place.place c.index-demand.result.now c.index.result.now c.requires.table
    (omega (arith, c.requires.order.order_length)) (c.requires.order.order_below c.loop-place.place near)
    c.index-demand.ensures c.index.ensures) ∙ c.in-Some.is in
    omega (
      arith,
      c.requires.table.matching.supply (get_or order c.loop-place.place 0) c.in-Some.supply owns,
      c.requires.marked.room,
      c.loop-place.invariant.room,
    )

pub loop-place-preserved : goal.loop-place-preserved
loop-place-preserved c =
    let t = c.args.self.now in
    let order = c.args.order.now.demands.items in
    let inv = c.loop-place.invariant in
    let near : c.loop-place.place < demands_in t = omega (arith, c.requires.to) in
    let read = supply_read t order c.loop-place.place c.index-demand.result.now c.index.result.now c.requires.table
    (omega (arith, c.requires.order.order_length)) (c.requires.order.order_below c.loop-place.place near)
    c.index-demand.ensures c.index.ensures in
    elim c.match-index.branch [
      | in-Some w ↦ rw w.unseen-is (
          let e = w.set_bit.ensures in
          let owns = sym read ∙ w.in-Some.is in
          record {
            room = e.length ∙ inv.room;
            still = λ s h. elim (cases_eqb s w.in-Some.supply) [
              | inl x ↦ absurd (true≢false (sym (written_same c.loop-place.unseen.items _ w.in-Some.supply s true e.bits
                  x) ∙ h))
              | inr x ↦ inv.still s (sym (written_other c.loop-place.unseen.items _ w.in-Some.supply s true e.bits x)
                  ∙ h)
            ];
            none = λ k s low l its h. elim (cases_eqb s w.in-Some.supply) [
              | inl x ↦ true≢false (sym (written_same c.loop-place.unseen.items _ w.in-Some.supply s true e.bits x) ∙ h)
              | inr x ↦ elim (cases_last k c.loop-place.place (omega arith)) [
                | inl y ↦ x (same_some s w.in-Some.supply (supply_of t (get_or order c.loop-place.place 0))
                    (ap (λ v. supply_of t (get_or order v 0)) (sym y) ∙ its) owns)
                | inr less ↦ inv.none k s low less its (sym (written_other c.loop-place.unseen.items _ w.in-Some.supply
                    s true e.bits x) ∙ h)
              ]
            ];
          })
      | in_default w ↦ rw w.unseen-is (record {
        room = inv.room;
        still = inv.still;
        none = λ k s low l its h. elim (cases_last k c.loop-place.place (omega arith)) [
          | inl y ↦ (let some = sym read ∙ ap (λ v. v) w.in_default.is in
              let has : supply_of t (get_or order c.loop-place.place 0) ≡ Some s =
              ap (λ v. supply_of t (get_or order v 0)) (sym y) ∙ its in absurd cc)
          | inr less ↦ inv.none k s low less its h
        ];
      })
    ]

pub returns : goal.returns
returns c =
    unmarked c.args.self.now c.args.order.now c.args.unseen.now.items c.loop-place.unseen.items c.args.from c.args.to
    c.requires.table c.requires.order c.requires.marked c.loop-place.invariant.room c.loop-place.invariant.still
    (λ k s low l its h. c.loop-place.invariant.none k s low (omega arith) its h)
