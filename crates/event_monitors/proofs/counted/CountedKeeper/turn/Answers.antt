use Rattle.std.proofs.Common.{ℕ, ◌≡◌, ◌<◌, ◌∙◌, List, length, get_or, sym, ap, subst, arith}
use Rattle.khe_instance.specs.declared.parts.Parts.{Parts}
use Rattle.khe_told.specs.Turns.{turned}
use Rattle.event_monitors.specs.Posts.{AreKept, AreListed, posts_at}
use Rattle.event_monitors.specs.Turns.{AreListedSince, AreSameOrWait}
use Rattle.event_monitors.specs.declared.posts.Post.{Post}
use Rattle.event_monitors.proofs.SlotFacts.{turn_event}
use Rattle.event_monitors.proofs.KeeperLaws.{list_of, unmoved_on, watchers_on}
use Rattle.event_monitors.proofs.TurnLaws.{same_start}
use Rattle.event_monitors.proofs.counted.CountedKeeper.turn.Goals as goal

pub bounds-as_slice-event : goal.bounds-as_slice-event
bounds-as_slice-event g c =
    let e = ap (λ x. x.0) c.event.ensures in
    let h = turn_event c.args.inst.now c.args.told.now c.args.turn.now c.requires.turns in
    let r = c.requires.keeps.1.rows in
    let a = ap length c.as_slice.ensures in
    omega (arith, e, h, r, a)

-- the list that was looked at is that of the event
looked_at : (p : Parts) (posts : List Post) (lists rows : List (List ℕ)) (e n : ℕ) (row list : List ℕ)
    → AreListed p posts lists → e < length p.events → rows ≡ lists → n ≡ e → row ≡ get_or rows n row → list ≡ row
    → list ≡ posts_at p posts e
looked_at p posts lists rows e n row list are l all here is same =
    same ∙ list_of p posts lists e row are l
    (is ∙ ap (λ ls. get_or ls n row) all ∙ ap (λ k. get_or lists k row) here)

pub turn_all-requires-clause-list : goal.turn_all-requires-clause-list
turn_all-requires-clause-list g c =
    let p = c.args.inst.now in
    let index = c.args.self.now.index in
    let e = c.args.turn.now.before.event.0 in
    looked_at p index.posts index.lists c.as_slice.result.now e c.event.result.0 c.index-as_slice-event.result
    c.as_slice-list.result.now c.requires.keeps.1
    (turn_event p c.args.told.now c.args.turn.now c.requires.turns) c.as_slice.ensures (ap (λ x. x.0) c.event.ensures)
    c.index-as_slice-event.is c.as_slice-list.ensures
    ∙ ap (λ ps. posts_at p ps e) (sym c.as_slice-posts.ensures)

pub returns-clause-unmoved : goal.returns-clause-unmoved
returns-clause-unmoved g c = λ hears.
    let p = c.args.inst.now in
    let s = c.args.told.now in
    let f = c.requires.keeps in
    let posts = c.as_slice-posts.ensures in
    let old = c.args.self.now.gauges.items in
    let new = c.turn_all.new.gauges.items in
    let s2 = turned s c.args.turn.now in
    unmoved_on g.G.Gauge.Keeps g.G.Gauge.value g.met.G.Gauge.exact p g.G.Gauge.serves_kind c.args.self.now.index.posts s
    s2 f.0 old new (g.W.Waits.waits c.turn_all.new.waits) f.2
    (c.turn_all.ensures.gauges ∙ ap length posts) f.3
    (subst (λ ps. AreKept g.G.Gauge.Keeps p ps new s2) posts c.turn_all.ensures.keeps)
    (subst (λ ps. AreSameOrWait g.G.Gauge.value p ps old new (g.W.Waits.waits c.turn_all.new.waits)) posts
    (c.turn_all.ensures.unmoved hears))

pub returns-clause-watchers : goal.returns-clause-watchers
returns-clause-watchers g c =
    let p = c.args.inst.now in
    let index = c.args.self.now.index in
    let t = c.args.turn.now in
    let old = g.W.Waits.waits c.args.waits.now in
    let new = g.W.Waits.waits c.turn_all.new.waits in
    let is = looked_at p index.posts index.lists c.as_slice.result.now t.before.event.0 c.event.result.0
    c.index-as_slice-event.result c.as_slice-list.result.now c.requires.keeps.1
    (turn_event p c.args.told.now t c.requires.turns) c.as_slice.ensures (ap (λ x. x.0) c.event.ensures)
    c.index-as_slice-event.is c.as_slice-list.ensures in
    watchers_on p g.G.Gauge.serves_kind index.posts t old new c.requires.keeps.0
    (subst (λ list. AreListedSince index.posts list old new) is
    (subst (λ ps. AreListedSince ps c.as_slice-list.result.now old new) c.as_slice-posts.ensures
    c.turn_all.ensures.listed))

pub returns-then-not-hears-clause-unmoved : goal.returns-then-not-hears-clause-unmoved
returns-then-not-hears-clause-unmoved g c = λ hears.
    let p = c.args.inst.now in
    let s = c.args.told.now in
    let t = c.args.turn.now in
    let f = c.requires.keeps in
    let gauges = c.args.self.now.gauges.items in
    let posts = c.args.self.now.index.posts in
    let waits = g.W.Waits.waits c.args.waits.now in
    unmoved_on g.G.Gauge.Keeps g.G.Gauge.value g.met.G.Gauge.exact p g.G.Gauge.serves_kind posts s (turned s t) f.0
    gauges
    gauges waits f.2 f.2 f.3
    (λ k a h there here. g.met.G.Gauge.deaf h p a.monitor s t (c.hears.ensures c.if-not-hears.true) c.requires.turns
    (f.3 k a h there here))
    (same_start g.G.Gauge.value p posts gauges waits)
