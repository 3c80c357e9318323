-- All posts of the list wait.
use Rattle.std.proofs.Common.{◌∙◌, length, sym, arith}
use Rattle.std.proofs.lemmas.Option.{same_Some}
use Rattle.khe_base.specs.declared.numbers.ResourceId.{ResourceId}
use Rattle.std.proofs.Common.{◌≡◌, subst}
use Rattle.resource_monitors.specs.Effects.{AreQueued}
use Rattle.resource_monitors.specs.Loads.{is_on_workload}
use Rattle.resource_monitors.proofs.LoadEffectLaws.{list_queued}
use Rattle.resource_monitors.proofs.LoadStepLaws.{posts_known}
use Rattle.resource_monitors.proofs.PlaceLaws.{list_at}
use Rattle.resource_monitors.proofs.load_effects.queue_place.Goals as goal

pub add_all-requires : goal.add_all-requires
add_all-requires g c = record {
  known = λ k a h. (let l = posts_known c.args.inst.now c.facts.ensures c.in-Some.r c.as_slice-list.result.now
      (list_at is_on_workload (length c.args.inst.now.resources) c.args.inst.now.monitors c.args.lists.now
      c.in-Some.r.0 c.index-lists-r.result c.as_slice-list.result.now c.requires.lists
      (c.requires.resource c.in-Some.r c.in-Some.is) c.index-lists-r.is c.as_slice-list.ensures) k a h in
      let b = c.requires.monitors in omega (arith, l, b));
}

pub returns-clause-queued : goal.returns-clause-queued
returns-clause-queued g c = λ hears r is.
    (let same : c.in-Some.r ≡ r = same_Some c.in-Some.r r (sym c.in-Some.is ∙ is) in
    subst (λ (x : ResourceId). AreQueued c.args.inst.now is_on_workload x.0 (g.W.Waits.waits c.add_all.new.waits)) same
    (list_queued c.args.inst.now c.facts.ensures c.in-Some.r c.as_slice-list.result.now
    (list_at is_on_workload (length c.args.inst.now.resources) c.args.inst.now.monitors c.args.lists.now
    c.in-Some.r.0 c.index-lists-r.result c.as_slice-list.result.now c.requires.lists
    (c.requires.resource c.in-Some.r c.in-Some.is) c.index-lists-r.is c.as_slice-list.ensures)
    g.W.Waits.hears (g.W.Waits.waits c.args.waits.now) (g.W.Waits.waits c.add_all.new.waits) c.add_all.ensures.added
    hears))
