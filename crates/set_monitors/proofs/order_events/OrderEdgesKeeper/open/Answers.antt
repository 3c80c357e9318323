use Rattle.std.proofs.Common.{◌≡◌, ◌∙◌, sym, ap, subst}
use Rattle.khe_base.proofs.ResultLemmas.{if_ok}
use Rattle.khe_told.specs.Slots.{no_meets}
use Rattle.event_monitors.specs.Posts.{AreListed, ArePosts}
use Rattle.set_monitors.specs.MeetEdges.{AreEdges}
use Rattle.set_monitors.specs.OrderPairs.{is_order}
use Rattle.set_monitors.proofs.OwnSlotLaws.{free_short}
use Rattle.set_monitors.proofs.order_events.OrderEdgesKeeper.open.Goals as goal

pub returns : goal.returns
returns c =
    let p = c.args.inst.now in
    let made = c.in_ok-edges in
    let lists : made.lists ≡ c.in_ok-lists.lists = ap (λ z. z.0) made.ensures.ok.1 in
    let posts : made.posts ≡ c.in_ok-posts.posts = ap (λ z. z.1) made.ensures.ok.1 ∙ c.in_ok-lists.ensures.ok.1 in
    let edges = if_ok c.edges_of-edges.result _ (λ v. AreEdges p c.as_slice-2.result.now (no_meets p) v.items)
    made.ensures.ok.0 c.edges_of-edges.ensures in
    let listed = if_ok c.lists_of-lists.result _ (λ v. AreListed p c.as_slice.result.now v) c.in_ok-lists.ensures.ok.0
    c.lists_of-lists.ensures in (
      subst (ArePosts p is_order) (sym posts) c.in_ok-posts.ensures,
      subst (λ ls. AreListed p made.posts ls) (sym lists)
          (subst (λ ps. AreListed p ps c.in_ok-lists.lists) (c.as_slice.ensures ∙ sym posts) listed),
      subst (λ ls. AreEdges p ls (no_meets p) made.edges.items) (c.as_slice-2.ensures ∙ sym lists) edges,
      free_short p,
    )
