-- Reference after reference.
use Rattle.std.proofs.Common.{◌≡◌, ◌∙◌, ◌∷◌, [], ◌+◌, ◌++◌, sym, ap, take}
use Rattle.std.proofs.lemmas.List.{map_more}
use Rattle.xhstt_resolve.specs.Joined.{joined}
use Rattle.xhstt_resolve.specs.Members.{named}
use Rattle.xhstt_resolve.proofs.JoinedLemmas.{joined-nil, joined-append, length_after}
use Rattle.xhstt_resolve.proofs.members.join_all.Goals as goal

pub loop-reference-init : goal.loop-reference-init
loop-reference-init c = (sym (joined-nil c.args.number c.args.names.now c.args.lists.now.items), c.requires.same)

pub loop-reference-preserved : goal.loop-reference-preserved
loop-reference-preserved c =
    let k = c.args.number in
    let ids = c.args.names.now in
    let first = c.args.lists.now.items in
    let lists = c.loop-reference.lists.items in
    let refs = c.args.references.now in
    let i = c.loop-reference.reference-index in
    let r = c.reference-item.result in
    let before = named (take i refs) in
    let added : c.join_one.new.lists.items ≡ joined k (r.id ∷ []) ids lists = c.in_ok-join_one.ensures in
    let more : named (take (i + 1) refs) ≡ named (take i refs) ++ r.id ∷ [] =
    map_more (λ x. x.id) refs i r c.loop-reference-test.true ∙ ap (λ x. before ++ x.id ∷ []) (sym c.reference-item.is)
    in (
      added ∙ ap (joined k (r.id ∷ []) ids) c.loop-reference.invariant.0 ∙ joined-append k before (r.id ∷ []) ids first
          ∙ ap (λ names. joined k names ids first) (sym more),
      length_after k (r.id ∷ []) ids lists c.join_one.new.lists.items c.loop-reference.invariant.1 added,
    )
