-- What is found in the list is a member.
use Rattle.std.proofs.Common.{◌≡◌, ◌∙◌, ap, false}
use Rattle.std.proofs.lemmas.List.{get_or_past}
use Rattle.khe_base.specs.IdSet.{members_of}
use Rattle.khe_base.proofs.ListedSetLemmas.{found_listed}
use Rattle.khe_base.proofs.listed_sets.ListedSet.has.Goals as goal

pub returns-in-None-clause-below : goal.returns-in-None-clause-below
returns-in-None-clause-below c =
    let list : c.as_slice.result.now ≡ members_of c.args.self.now =
    c.as_slice.ensures ∙ c.self.invariant.members_are ∙ ap members_of c.self.view_is in
    c.is_ok.ensures.value ∙ found_listed c.args.self.now c.as_slice.result.now c.args.n c.binary_search.result list
    c.binary_search.ensures.position

pub returns-in-None-clause-beyond : goal.returns-in-None-clause-beyond
returns-in-None-clause-beyond c past =
    let list : c.as_slice.result.now ≡ members_of c.args.self.now =
    c.as_slice.ensures ∙ c.self.invariant.members_are ∙ ap members_of c.self.view_is in
    c.is_ok.ensures.value ∙ found_listed c.args.self.now c.as_slice.result.now c.args.n c.binary_search.result list
    c.binary_search.ensures.position ∙ get_or_past c.args.self.now c.args.n false past
