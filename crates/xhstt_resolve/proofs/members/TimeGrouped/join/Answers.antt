-- The week, the day, and then the groups.
use Rattle.std.proofs.Common.{◌≡◌, ◌∙◌, ap}
use Rattle.std.specs.Option.{option_copied, option_to_list}
use Rattle.std.proofs.lemmas.Result.{on_ok_weaker}
use Rattle.xhstt_resolve.specs.Joined.{joined}
use Rattle.xhstt_resolve.specs.Members.{named}
use Rattle.xhstt_resolve.proofs.JoinedLemmas.{joined-three, length_after}
use Rattle.xhstt_resolve.proofs.members.TimeGrouped.join.Goals as goal

pub join_optional-requires-2-clause-same : goal.join_optional-requires-2-clause-same
join_optional-requires-2-clause-same c =
    length_after c.args.number (named (option_to_list (option_copied c.as_ref.result))) c.args.names.now
    c.args.lists.now.items c.join_optional.new.lists.items c.requires.same c.in_ok-join_optional.ensures

pub join_all-requires-clause-same : goal.join_all-requires-clause-same
join_all-requires-clause-same c =
    let first =
    length_after c.args.number (named (option_to_list (option_copied c.as_ref.result))) c.args.names.now
    c.args.lists.now.items c.join_optional.new.lists.items c.requires.same c.in_ok-join_optional.ensures
    in
    length_after c.args.number (named (option_to_list (option_copied c.as_ref-2.result))) c.args.names.now
    c.join_optional.new.lists.items c.join_optional-2.new.lists.items first c.in_ok-join_optional-2.ensures

pub returns : goal.returns
returns c =
    let k = c.args.number in
    let ids = c.args.names.now in
    let first = c.args.lists.now.items in
    let week = named (option_to_list c.args.self.now.week) in
    let day = named (option_to_list c.args.self.now.day) in
    let groups = named c.args.self.now.time_groups in
    let one : c.join_optional.new.lists.items ≡ joined k week ids first =
    c.in_ok-join_optional.ensures ∙ ap (λ o. joined k (named (option_to_list o)) ids first) c.as_ref.ensures.value
    in
    let two : c.join_optional-2.new.lists.items ≡ joined k day ids c.join_optional.new.lists.items =
    c.in_ok-join_optional-2.ensures ∙ ap (λ o. joined k (named (option_to_list o)) ids c.join_optional.new.lists.items)
    c.as_ref-2.ensures.value
    in
    on_ok_weaker c.join_all.result
    (λ e. joined-three k week day groups ids first c.join_optional.new.lists.items c.join_optional-2.new.lists.items
    c.join_all.new.lists.items one two
    (e ∙ ap (λ rs. joined k (named rs) ids c.join_optional-2.new.lists.items) c.as_slice.ensures))
    c.join_all.ensures
