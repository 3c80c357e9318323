-- Item after item.
use Rattle.std.proofs.Common.{◌≡◌, ◌∙◌, ◌<◌, ◌++◌, ◌∷◌, [], sym, ap, take, map, length, replicate, arith}
use Rattle.std.proofs.lemmas.List.{take_more, length-take-le}
use Rattle.xhstt_resolve.specs.Joined.{joined}
use Rattle.xhstt_resolve.specs.Members.{members}
use Rattle.xhstt_resolve.proofs.JoinedLemmas.{joined-members, members-nil}
use Rattle.xhstt_resolve.proofs.members.members_of.Goals as goal

pub loop-number-init : goal.loop-number-init
loop-number-init g c =
    c.in_ok-lists.ensures ∙ ap (λ n. replicate n []) c.len.ensures.len ∙ members-nil g.T.Grouped.groups c.args.names.now

pub loop-number-preserved : goal.loop-number-preserved
loop-number-preserved g c =
    let groups = g.T.Grouped.groups in
    let ids = c.args.names.now in
    let xs = c.args.items.now in
    let i = c.loop-number.number in
    let x = c.index-items-number.result in
    let within : i < length xs = c.loop-number-test.true in
    let whole : length (take i xs) ≡ i = length-take-le i xs (omega arith) in
    c.in_ok-join.ensures
    ∙ ap (joined i (groups x) ids) c.loop-number.invariant
    ∙ ap (λ n. joined n (groups x) ids (map (members groups (take i xs)) ids)) (sym whole)
    ∙ joined-members groups (take i xs) x ids
    ∙ ap (λ ys. map (members groups ys) ids) (ap (λ y. take i xs ++ y ∷ []) c.index-items-number.is
    ∙ sym (take_more xs i x within))
