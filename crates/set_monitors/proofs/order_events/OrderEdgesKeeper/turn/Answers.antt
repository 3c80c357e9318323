use Rattle.std.proofs.Common.{◌<◌, ◌∙◌, [], Some, get_or, length, slice_set, sym, ap, subst, arith}
use Rattle.std.proofs.lemmas.Bool.{eq-eqb, eqb-true, true≢false}
use Rattle.std.proofs.lemmas.List.{nil_from_length}
use Rattle.std.proofs.lemmas.Option.{slice_get-get_or}
use Rattle.khe_told.specs.Turns.{turned}
use Rattle.event_monitors.specs.Posts.{posts_at}
use Rattle.event_monitors.specs.Turns.{AreListedSince}
use Rattle.event_monitors.proofs.KeeperLaws.{list_of, watchers_on}
use Rattle.event_monitors.proofs.SlotFacts.{turn_event}
use Rattle.set_monitors.specs.MeetEdges.{AreEdges}
use Rattle.set_monitors.specs.OrderPairs.{is_order}
use Rattle.set_monitors.specs.OrderWaits.{NamedWait}
use Rattle.set_monitors.proofs.OrderWaitLaws.{unmoved_on, unmoved_still}
use Rattle.set_monitors.proofs.OrderTurnLaws.{edges_kept, edges_still, edges_turned, list_here, own_same, short_after}
use Rattle.set_monitors.proofs.order_events.OrderEdgesKeeper.turn.Goals as goal

pub bounds-as_slice-event : goal.bounds-as_slice-event
bounds-as_slice-event g c =
    let own = ap (λ e. e.0) c.event-event.ensures in
    let l = turn_event c.args.inst.now c.args.told.now c.args.turn.now c.requires.turns in
    let r = c.requires.keeps.1.rows in
    let a = ap length c.as_slice.ensures in
    omega (arith, own, l, r, a)

pub index_mut-requires : goal.index_mut-requires
index_mut-requires g c =
    let own = ap (λ e. e.0) c.event-event.ensures in
    let l = turn_event c.args.inst.now c.args.told.now c.args.turn.now c.requires.turns in
    let r = c.requires.keeps.2.rows in
    omega (arith, own, l, r)

pub follow-requires-clause-of : goal.follow-requires-clause-of
follow-requires-clause-of g c =
    let lists = c.args.self.now.lists in
    let edges = c.args.self.now.edges.items in
    let list = c.index-as_slice-event.result in
    let event = c.args.turn.now.before.event.0 in
    let own = ap (λ e. e.0) c.event-event.ensures in
    let a = turn_event c.args.inst.now c.args.told.now c.args.turn.now c.requires.turns in
    let l : event < length lists = let r = c.requires.keeps.1.rows in omega (arith, a, r) in
    let m : event < length edges = let r = c.requires.keeps.2.rows in omega (arith, a, r) in
    let here = list_here lists event list l
    (c.index-as_slice-event.is ∙ (λ i. get_or (c.as_slice.ensures i) (own i) list)) in
    c.requires.keeps.2.each event c.index_mut.result.now
    (slice_get-get_or edges event c.index_mut.result.now m
    ∙ ap Some (sym (c.index_mut.ensures.value ∙ ap (λ e. get_or edges e c.index_mut.result.now) own)))
    (λ none. true≢false (sym (eq-eqb (length c.as_slice-list.result.now) 0
    (ap length (c.as_slice-list.ensures ∙ sym here ∙ none)))
    ∙ sym c.is_empty.ensures ∙ c.if-is_empty.false))

pub add_all-requires-clause-list : goal.add_all-requires-clause-list
add_all-requires-clause-list g c =
    let p = c.args.inst.now in
    let event = c.event-event.result.0 in
    let list = c.index-as_slice-event.result in
    let own = ap (λ e. e.0) c.event-event.ensures in
    let l : event < length p.events = let a = turn_event p c.args.told.now c.args.turn.now c.requires.turns in
    omega (arith, own, a) in
    c.as_slice-list.ensures
    ∙ list_of p c.args.self.now.posts c.args.self.now.lists event list c.requires.keeps.1 l
    (c.index-as_slice-event.is ∙ ap (λ ls. get_or ls event list) c.as_slice.ensures)
    ∙ ap (λ ps. posts_at p ps event) (sym c.as_slice-posts.ensures)

pub returns-clause-keeps : goal.returns-clause-keeps
returns-clause-keeps g c =
    let p = c.args.inst.now in
    let s = c.args.told.now in
    let t = c.args.turn.now in
    let edges = c.args.self.now.edges.items in
    let own = ap (λ e. e.0) c.event-event.ensures in
    let l : t.before.event.0 < length edges = let a = turn_event p s t c.requires.turns in
    let r = c.requires.keeps.2.rows in omega (arith, a, r) in (
      c.requires.keeps.0,
      c.requires.keeps.1,
      subst (λ n. AreEdges p c.args.self.now.lists (turned s t) (slice_set edges n c.follow.new.edges)) (sym own)
          (edges_turned p s t c.facts.ensures c.requires.turns c.args.self.now.lists edges c.follow.new.edges l
          c.follow.ensures c.requires.keeps.2),
      short_after p s t c.facts.ensures c.requires.turns,
    )

pub returns-clause-unmoved : goal.returns-clause-unmoved
returns-clause-unmoved g c = λ hears.
    let p = c.args.inst.now in
    let s = c.args.told.now in
    let t = c.args.turn.now in
    let waits = g.W.Waits.waits c.add_all.new.waits in
    let a = subst (λ ps. NamedWait p ps c.event-event.result.0 waits []) c.as_slice-posts.ensures
    (c.add_all.ensures.named hears) in
    unmoved_on p c.args.self.now.posts s (turned s t) t.before.event.0 waits c.facts.ensures c.requires.keeps.0
    (own_same p s t c.facts.ensures c.requires.turns)
    (subst (λ e. NamedWait p c.args.self.now.posts e.0 waits []) c.event-event.ensures a)

pub returns-clause-watchers : goal.returns-clause-watchers
returns-clause-watchers g c =
    let p = c.args.inst.now in
    let s = c.args.told.now in
    let t = c.args.turn.now in
    let posts = c.args.self.now.posts in
    let list = c.index-as_slice-event.result in
    let old = g.W.Waits.waits c.args.waits.now in
    let new = g.W.Waits.waits c.add_all.new.waits in
    let own = ap (λ e. e.0) c.event-event.ensures in
    let is = c.as_slice-list.ensures
    ∙ list_of p posts c.args.self.now.lists t.before.event.0 list c.requires.keeps.1
    (turn_event p s t c.requires.turns)
    (c.index-as_slice-event.is ∙ (λ i. get_or (c.as_slice.ensures i) (own i) list)) in
    watchers_on p is_order posts t old new c.requires.keeps.0
    (subst (λ ks. AreListedSince posts ks old new) is
    (subst (λ ps. AreListedSince ps c.as_slice-list.result.now old new) c.as_slice-posts.ensures
    c.add_all.ensures.listed))

pub returns-then-not-moves-clause-keeps : goal.returns-then-not-moves-clause-keeps
returns-then-not-moves-clause-keeps g c =
    let p = c.args.inst.now in
    let s = c.args.told.now in
    let t = c.args.turn.now in (
      c.requires.keeps.0,
      c.requires.keeps.1,
      edges_still p s t c.args.self.now.lists c.args.self.now.edges.items c.requires.turns
          (c.moves.ensures c.if-not-moves.true) c.requires.keeps.2,
      short_after p s t c.facts.ensures c.requires.turns,
    )

pub returns-then-not-moves-clause-unmoved : goal.returns-then-not-moves-clause-unmoved
returns-then-not-moves-clause-unmoved g c = λ hears.
    let p = c.args.inst.now in
    let s = c.args.told.now in
    let t = c.args.turn.now in
    let f = c.requires.keeps in
    let lists = c.args.self.now.lists in
    let edges = c.args.self.now.edges.items in
    let are = edges_still p s t lists edges c.requires.turns (c.moves.ensures c.if-not-moves.true) f.2 in
    unmoved_still p c.args.self.now.posts lists s (turned s t) edges (g.W.Waits.waits c.args.waits.now) c.facts.ensures
    f.0 f.1 f.2 f.3 are (short_after p s t c.facts.ensures c.requires.turns)

pub returns-then-is_empty-clause-keeps : goal.returns-then-is_empty-clause-keeps
returns-then-is_empty-clause-keeps g c =
    let p = c.args.inst.now in
    let s = c.args.told.now in
    let t = c.args.turn.now in
    let lists = c.args.self.now.lists in
    let list = c.index-as_slice-event.result in
    let event = t.before.event.0 in
    let own = ap (λ e. e.0) c.event-event.ensures in
    let l : event < length lists = let a = turn_event p s t c.requires.turns in let r = c.requires.keeps.1.rows in
    omega (arith, a, r) in
    let here = list_here lists event list l
    (c.index-as_slice-event.is ∙ (λ i. get_or (c.as_slice.ensures i) (own i) list)) in
    let none = nil_from_length c.as_slice-list.result.now (eqb-true (length c.as_slice-list.result.now) 0
    (sym c.is_empty.ensures ∙ c.if-is_empty.true)) in (
      c.requires.keeps.0,
      c.requires.keeps.1,
      edges_kept p s t c.facts.ensures c.requires.turns lists c.args.self.now.edges.items
          (here ∙ sym c.as_slice-list.ensures ∙ none) c.requires.keeps.2,
      short_after p s t c.facts.ensures c.requires.turns,
    )

pub returns-then-is_empty-clause-unmoved : goal.returns-then-is_empty-clause-unmoved
returns-then-is_empty-clause-unmoved g c = λ hears.
    let p = c.args.inst.now in
    let s = c.args.told.now in
    let t = c.args.turn.now in
    let f = c.requires.keeps in
    let lists = c.args.self.now.lists in
    let edges = c.args.self.now.edges.items in
    let list = c.index-as_slice-event.result in
    let event = t.before.event.0 in
    let own = ap (λ e. e.0) c.event-event.ensures in
    let l : event < length lists = let a = turn_event p s t c.requires.turns in let r = f.1.rows in
    omega (arith, a, r) in
    let here = list_here lists event list l
    (c.index-as_slice-event.is ∙ (λ i. get_or (c.as_slice.ensures i) (own i) list)) in
    let none = nil_from_length c.as_slice-list.result.now (eqb-true (length c.as_slice-list.result.now) 0
    (sym c.is_empty.ensures ∙ c.if-is_empty.true)) in
    let are = edges_kept p s t c.facts.ensures c.requires.turns lists edges
    (here ∙ sym c.as_slice-list.ensures ∙ none) f.2 in
    unmoved_still p c.args.self.now.posts lists s (turned s t) edges (g.W.Waits.waits c.args.waits.now) c.facts.ensures
    f.0 f.1 f.2 f.3 are (short_after p s t c.facts.ensures c.requires.turns)
