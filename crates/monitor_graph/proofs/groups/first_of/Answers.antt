use Rattle.std.proofs.Common.{sym, ap, ◌∙◌, ◌≡◌, length, arith}
use Rattle.std.specs.Prelude.{◌==◌}
use Rattle.std.proofs.lemmas.Bool.{eq-eqb}
use Rattle.std.proofs.lemmas.List.Sums.{position_or_len_is}
use Rattle.khe_base.specs.declared.numbers.MonitorId.{MonitorId}
use Rattle.monitor_graph.proofs.ListLaws.{get-any}
use Rattle.monitor_graph.proofs.groups.first_of.Goals as goal

pub returns-then-children-place : goal.returns-then-children-place
returns-then-children-place c =
    sym (position_or_len_is (λ (x : MonitorId). x.0 == c.args.child.0) c.args.children.now c.loop-place.place
    c.args.child (omega arith) (λ j l. c.loop-place.invariant j c.args.child l)
    (λ l. eq-eqb _ c.args.child.0 (ap (λ (x : MonitorId). x.0)
    (get-any c.args.children.now c.loop-place.place c.args.child (record { 0 = 0 }) l) ∙ c.if-children-place.true)))

pub returns : goal.returns
returns c =
    let xs = c.args.children.now in
    let k = c.loop-place.place in
    let z : length xs ≡ k = omega arith in
    z ∙ sym (position_or_len_is (λ (x : MonitorId). x.0 == c.args.child.0) xs k c.args.child (omega arith)
    (λ j l. c.loop-place.invariant j c.args.child l) (λ l. absurd (omega arith)))
