use Rattle.std.proofs.Common.{ℕ, sym, ap, ◌∙◌, subst}
use Rattle.khe_base.specs.Bits.{is_set}
use Rattle.monitor_graph.specs.Boards.{Board}
use Rattle.monitor_graph.specs.Defects.{AreDefects}
use Rattle.monitor_graph.proofs.DefectLaws.{defect_bit}
use Rattle.monitor_graph.proofs.graph.Graph.next_defect.Goals as goal

pub returns-in-Some : goal.returns-in-Some
returns-in-Some c p e =
    let s = c.self.inside in
    let d = subst (λ (b : Board). AreDefects b.lines s.words.items s.summary.items) c.self.view_is c.self.invariant.1 in
    let bit = λ (m : ℕ). defect_bit c.args.self.now p s.words.items s.summary.items m e d
    ∙ sym (ap (λ w. is_set w m) c.as_slice.ensures.value) in
    (c.in-Some.ensures.0, bit c.in-Some.number ∙ c.in-Some.ensures.1, λ m f l. bit m ∙ c.in-Some.ensures.2 m f l)

pub returns-in-None : goal.returns-in-None
returns-in-None c p e m f =
    let s = c.self.inside in
    let d = subst (λ (b : Board). AreDefects b.lines s.words.items s.summary.items) c.self.view_is c.self.invariant.1 in
    defect_bit c.args.self.now p s.words.items s.summary.items m e d
    ∙ sym (ap (λ w. is_set w m) c.as_slice.ensures.value) ∙ c.in-None.ensures m f
