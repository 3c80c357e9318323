use Rattle.std.proofs.Common.{ℕ, ◌≡◌, ◌∙◌, List, ap, subst, sym}
use Rattle.std.specs.Prelude.{All}
use Rattle.std.specs.List.{flat_map}
use Rattle.std.proofs.lemmas.Result.{IfOk-weaker}
use Rattle.khe_base.proofs.ResultLemmas.{if_ok}
use Rattle.khe_base.specs.declared.sums.Totals.{Totals}
use Rattle.khe_instance.specs.declared.parts.Parts.{Parts}
use Rattle.khe_told.specs.declared.slots.Slot.{Slot}
use Rattle.time_match.specs.Costs.{row}
use Rattle.time_match.specs.Leaders.{IsReadFrom, preferences, tasks_of}
use Rattle.time_match.specs.Open.{AreReady}
use Rattle.time_match.specs.declared.likenesses.Likeness.{Likeness}
use Rattle.time_match.proofs.asking.pairs_of.Goals as goal

pub pairs_with-requires-clause-numbers : goal.pairs_with-requires-clause-numbers
pairs_with-requires-clause-numbers g c =
    c.as_slice-wanted.ensures
    ∙ if_ok _ _ (λ (ns : List ℕ). ns ≡ preferences c.instance-inst.result.now) c.in_ok-read.ensures.1
    c.list_preferences-numbers.ensures
    ∙ ap preferences c.instance-inst.ensures

pub pairs_with-requires-clause-read : goal.pairs_with-requires-clause-read
pairs_with-requires-clause-read g c =
    let w = c.args.engine.now in
    let read = c.in_ok-read.read in
    let are = if_ok _ _ (λ (xs : List Likeness). All (IsReadFrom c.instance-inst.result.now c.solution.result.now.slots)
    xs)
    c.in_ok-read.ensures.0 c.likenesses_of-read.ensures.are in
    let own = subst (λ (q : Parts). All (IsReadFrom q c.solution.result.now.slots) read) c.instance-inst.ensures are in
    let all = subst (λ (s : List Slot). All (IsReadFrom w.parts s) read) c.solution.ensures.slots own in
    subst (All (IsReadFrom w.parts w.state.slots)) (sym c.as_slice-known.ensures) all

pub pairs_with-requires-clause-ready : goal.pairs_with-requires-clause-ready
pairs_with-requires-clause-ready g c =
    let w = c.args.engine.now in
    let same = ap tasks_of c.as_slice-known.ensures
    ∙ if_ok _ _ (λ (xs : List Likeness). tasks_of xs ≡ c.args.tasks.now) c.in_ok-read.ensures.0
    c.likenesses_of-read.ensures.tasks in
    subst (AreReady w.parts c.args.resources.now w.state.slots) (sym same) c.requires.ready

pub returns-clause-pairs : goal.returns-clause-pairs
returns-clause-pairs g c =
    let w = c.args.engine.now in
    let f = row w.parts w.state c.args.resources.now in
    let same = ap tasks_of c.as_slice-known.ensures
    ∙ if_ok _ _ (λ (xs : List Likeness). tasks_of xs ≡ c.args.tasks.now) c.in_ok-read.ensures.0
    c.likenesses_of-read.ensures.tasks in
    IfOk-weaker c.pairs_with.result (λ (xs : List Totals). xs ≡ flat_map f (tasks_of c.as_slice-known.result.now))
    (λ (xs : List Totals). xs ≡ flat_map f c.args.tasks.now) (λ xs h. h ∙ ap (flat_map f) same)
    c.pairs_with.ensures.pairs
