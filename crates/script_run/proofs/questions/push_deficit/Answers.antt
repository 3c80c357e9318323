-- What is short is what the definition says.
use Rattle.std.proofs.Common.{◌∙◌, ap, subst, OnErr, OnOk}
use Rattle.hall_report.specs.Shortages.{deficit_of}
use Rattle.script_run.specs.Added.{IsAdded, IsCutOff}
use Rattle.script_run.specs.Answers.{shortage_text}
use Rattle.script_run.proofs.questions.push_deficit.Goals as goal

pub push_shortage-requires : goal.push_shortage-requires
push_shortage-requires g c = c.in_ok-shortage.ensures.hall.few

pub returns-clause-added : goal.returns-clause-added
returns-clause-added g c =
    let w = c.args.engine.now in
    let x = c.in_ok-shortage.shortage in
    let is = c.in_ok-shortage.ensures in
    subst (λ t. OnOk c.push_shortage.result (IsAdded (g.G.Onward.taken c.args.onward.now)
    (g.G.Onward.taken c.push_shortage.new.onward) c.args.text.now t c.push_shortage.new.text))
    (ap (λ d. shortage_text d x.demands) is.deficit ∙ ap (shortage_text (deficit_of w.parts w.state.slots)) is.hall.are)
    c.push_shortage.ensures.added

pub returns-clause-front : goal.returns-clause-front
returns-clause-front g c =
    let w = c.args.engine.now in
    let x = c.in_ok-shortage.shortage in
    let is = c.in_ok-shortage.ensures in
    subst (λ t. OnErr c.push_shortage.result (IsCutOff (g.G.Onward.taken c.args.onward.now)
    (g.G.Onward.taken c.push_shortage.new.onward) c.args.text.now t))
    (ap (λ d. shortage_text d x.demands) is.deficit ∙ ap (shortage_text (deficit_of w.parts w.state.slots)) is.hall.are)
    c.push_shortage.ensures.front
