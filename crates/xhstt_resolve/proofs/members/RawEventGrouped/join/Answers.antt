-- The course, and then the groups.
use Rattle.std.proofs.Common.{◌≡◌, ◌∙◌, ap}
use Rattle.std.specs.Option.{option_copied, option_to_list}
use Rattle.std.proofs.lemmas.Result.{on_ok_weaker}
use Rattle.xhstt_resolve.specs.Joined.{joined}
use Rattle.xhstt_resolve.specs.Members.{named}
use Rattle.xhstt_resolve.proofs.JoinedLemmas.{joined-append, length_after}
use Rattle.xhstt_resolve.proofs.members.RawEventGrouped.join.Goals as goal

pub join_all-requires-clause-same : goal.join_all-requires-clause-same
join_all-requires-clause-same c =
    length_after c.args.number (named (option_to_list (option_copied c.as_ref.result))) c.args.names.now
    c.args.lists.now.items c.join_optional.new.lists.items c.requires.same c.in_ok-join_optional.ensures

pub returns : goal.returns
returns c =
    let k = c.args.number in
    let ids = c.args.names.now in
    let first = c.args.lists.now.items in
    let groups = named c.args.self.now.event_groups in
    let course = named (option_to_list c.args.self.now.course) in
    let one : c.join_optional.new.lists.items ≡ joined k course ids first =
    c.in_ok-join_optional.ensures ∙ ap (λ o. joined k (named (option_to_list o)) ids first) c.as_ref.ensures.value
    in
    on_ok_weaker c.join_all.result
    (λ e. e ∙ (λ j. joined k (named (c.as_slice.ensures j)) ids (one j)) ∙ joined-append k course groups ids first)
    c.join_all.ensures
