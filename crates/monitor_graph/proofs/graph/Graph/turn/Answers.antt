use Rattle.std.proofs.Common.{nat_eq, cond, ◌≡◌, ◌+◌, ◌*◌, ◌<◌, nat_lt, length, get_or, set, sym, ap, ◌∙◌, subst, arith}
use Rattle.std.proofs.lemmas.List.{length-map, length-set, map-set}
use Rattle.khe_base.specs.Bits.{is_set}
use Rattle.monitor_graph.specs.Boards.{Board}
use Rattle.monitor_graph.specs.Dearer.{is_dearer, AreCompared, CanRecount}
use Rattle.monitor_graph.specs.Defects.{AreDefects}
use Rattle.monitor_graph.specs.GroupCosts.{AreGroupCosts}
use Rattle.monitor_graph.specs.Left.{AreLeft}
use Rattle.monitor_graph.specs.Lines.{line_cost, line_costs}
use Rattle.monitor_graph.proofs.DearerLaws.{can_recount, recounted}
use Rattle.monitor_graph.proofs.DefectLaws.{defects_set}
use Rattle.monitor_graph.proofs.LeftLaws.{left_turned}
use Rattle.monitor_graph.proofs.ListLaws.{get-any}
use Rattle.monitor_graph.proofs.ValueLaws.{at_line}
use Rattle.monitor_graph.proofs.graph.Graph.turn.Goals as goal
use Rattle.khe_base.proofs.ListLemmas.{get-map}

pub recount-requires : goal.recount-requires
recount-requires c =
    let s = c.self.inside in
    let m = c.args.monitor.0 in
    let costs = line_costs s.lines.items in
    let kept = c.self.invariant.2 in
    let low : m < length s.lines.items = subst (λ (b : Board). m < length b.lines) (sym c.self.view_is)
    c.requires.known in
    let many = length-map s.lines.items line_cost in
    let below : m < length costs = omega (arith, low, many) in
    let before : c.cost_of-before.result ≡ get_or costs m 0 =
    c.cost_of-before.ensures.value ∙ ap line_cost c.index.ensures
    ∙ sym (at_line line_cost s.lines.items m c.index.result.now low) ∙ sym (get-map line_cost s.lines.items m) in
    let long = kept.long in
    let marked : c.index-marked.result.now ≡ get_or s.marked.items m 0 =
    c.index-marked.ensures ∙ get-any s.marked.items m c.index-marked.result.now 0 (omega (arith, below, long)) in
    record {
      fits = subst (λ x. CanRecount x c.cost_of-before.result s.dearer s.numbers m) (sym marked)
          (subst (λ x. CanRecount (get_or s.marked.items m 0) x s.dearer s.numbers m) (sym before)
          (can_recount costs s.marked.items s.dearer s.numbers m kept below));
    }

pub replace-requires-clause-before : goal.replace-requires-clause-before
replace-requires-clause-before c d =
    let s = c.self.inside in
    let m = c.args.monitor.0 in
    let low : m < length s.lines.items = subst (λ (b : Board). m < length b.lines) (sym c.self.view_is)
    c.requires.known in
    c.cost_of-before.ensures.value ∙ ap line_cost (c.index.ensures ∙ get-any s.lines.items m c.index.result.now d low)

pub invariant_of-self : goal.invariant_of-self
invariant_of-self c =
    let s = c.self.inside in
    let m = c.args.monitor.0 in
    let y = c.args.line in
    let i = c.self.invariant in
    let costs = line_costs s.lines.items in
    let low : m < length s.lines.items = subst (λ (b : Board). m < length b.lines) (sym c.self.view_is)
    c.requires.known in
    let many = length-map s.lines.items line_cost in
    let below : m < length costs = omega (arith, low, many) in
    let before : c.cost_of-before.result ≡ get_or costs m 0 =
    c.cost_of-before.ensures.value ∙ ap line_cost c.index.ensures
    ∙ sym (at_line line_cost s.lines.items m c.index.result.now low) ∙ sym (get-map line_cost s.lines.items m) in
    let after : c.cost_of-after.result ≡ line_cost y = c.cost_of-after.ensures.value in
    let long = i.2.long in
    let marked : c.index-marked.result.now ≡ get_or s.marked.items m 0 =
    c.index-marked.ensures ∙ get-any s.marked.items m c.index-marked.result.now 0 (omega (arith, below, long)) in
    let lines : c.replace.new.lines.items ≡ set s.lines.items m y = c.replace.ensures.lines in
    let put = c.put.ensures in
    let defects = defects_set s.lines.items s.words.items s.summary.items c.put.new.words.items c.put.new.summary.items
    m y i.1 low put.length put.summary
    (λ n. put.bits n ∙ ap (λ v. cond (nat_eq n m) (nat_lt 0 v) (is_set s.words.items n)) after) put.summed in
    let compared = recounted costs s.marked.items s.dearer s.numbers c.recount.new.count c.recount.new.numbers m
    (line_cost y) i.2 below
    (sym (λ j. c.recount.new.count + is_dearer (marked j) (before j)) ∙ c.recount.ensures.count
    ∙ (λ j. s.dearer + is_dearer (marked j) (after j)))
    (sym (λ j. c.recount.new.numbers + is_dearer (marked j) (before j) * m) ∙ c.recount.ensures.numbers
    ∙ (λ j. s.numbers + is_dearer (marked j) (after j) * m)) in
    let costs_now : set costs m (line_cost y) ≡ line_costs c.replace.new.lines.items =
    sym (ap line_costs lines ∙ map-set line_cost s.lines.items m y) in (
      c.replace.ensures.totalled,
      subst (λ xs. AreDefects xs c.put.new.words.items c.put.new.summary.items) (sym lines) defects,
      subst (λ xs. AreCompared xs s.marked.items c.recount.new.count c.recount.new.numbers) costs_now compared,
      i.3 ∙ sym (ap length lines ∙ length-set s.lines.items m y),
      subst (λ xs. AreGroupCosts xs s.groups.groups c.follow.new.self.hard.items c.follow.new.self.soft.items)
          (ap (λ xs. set xs m y) c.as_slice.ensures.value ∙ sym lines) c.follow.ensures,
      subst (λ xs. AreLeft xs s.marked.items c.put-2.new.words.items c.put-2.new.summary.items) costs_now
          (left_turned costs s.marked.items s.changed.items s.changed_words.items c.put-2.new.words.items
          c.put-2.new.summary.items m (line_cost y) i.5 below c.put-2.ensures.length c.put-2.ensures.summary
          c.put-2.ensures.bits c.put-2.ensures.summed),
    )
