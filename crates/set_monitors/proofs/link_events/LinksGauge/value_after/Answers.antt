use Rattle.std.proofs.Common.{ℕ, ◌≡◌, ◌∙◌, true, List, length, sym, ap, inl, inr}
use Rattle.khe_instance.specs.KindLaws.{is_kind}
use Rattle.khe_instance.specs.WellMade.{IsMonitor}
use Rattle.khe_instance.specs.declared.parts.Parts.{Parts}
use Rattle.khe_instance.specs.declared.points.Monitor.{Monitor}
use Rattle.khe_instance.specs.declared.rules.Kind.TheVariants as kind
use Rattle.khe_told.specs.Slots.{emptied}
use Rattle.khe_told.specs.Turns.{IsTurn, SlotTurn, turned}
use Rattle.khe_told.specs.declared.slots.Slot.{Slot}
use Rattle.event_monitors.specs.Posts.{names}
use Rattle.set_monitors.specs.Foreseeing.{KeepsOrElsewhere}
use Rattle.set_monitors.specs.LinkCounts.{AreLinked}
use Rattle.set_monitors.specs.LinkElsewhereLaws.{group_elsewhere, group_unheard}
use Rattle.set_monitors.specs.LinkExactLaws.{linked_exact}
use Rattle.set_monitors.specs.Links.{AreOfGroup}
use Rattle.set_monitors.specs.declared.links.Links.{Links}
use Rattle.set_monitors.proofs.CutLaws.{group_cut}
use Rattle.set_monitors.proofs.ForeseenLaws.{foreseen_value}
use Rattle.set_monitors.proofs.link_events.LinksGauge.value_after.Goals as goal

abbrev keeps : Links → Parts → Monitor → List Slot → Type 0
keeps g p m s = IsMonitor p m × (is_kind m.kind kind.LinkEvents ≡ true)
    × AreOfGroup p m.point s g.table (length g.running.items)
    × AreLinked g.table g.events g.running.items g.apart

abbrev value_of : Links → Parts → Monitor → ℕ
value_of g p m = g.apart

kept_on : (g : Links) (p : Parts) (m : Monitor) (s : List Slot) (t : SlotTurn) → KeepsOrElsewhere p m t → IsTurn p s t
    → keeps g p m s → keeps g p m (turned s t)
kept_on g p m s t (inl h) turns k =
    (k.0, k.1, group_unheard p m.point s t g.table (length g.running.items) h turns k.2, k.3)
kept_on g p m s t (inr named) turns k = (
  k.0,
  k.1,
  group_elsewhere p m s g.table (length g.running.items) t.before.meet.0 t.after k.0 turns.there
      (turns.same ∙ sym (ap emptied turns.slot)) (ap (λ (x : Slot). names p x.event.0 m) turns.slot ∙ named) k.2,
  k.3,
)

pub returns-clause-value : goal.returns-clause-value
returns-clause-value c =
    foreseen_value keeps value_of
    (λ g p m s k. linked_exact p m s g.table g.events g.running.items g.apart k.0 k.1 k.2 k.3) KeepsOrElsewhere kept_on
    c.args.self.now c.args.inst.now c.args.monitor c.args.told.now c.args.effects.now
    (λ p m s a b cut turns k. linked_exact p m (turned (turned s a) b) c.args.self.now.table c.args.self.now.events
    c.args.self.now.running.items c.args.self.now.apart k.0 k.1
    (group_cut p s a b cut turns m.point c.args.self.now.table (length c.args.self.now.running.items) k.2) k.3)
    c.requires.foreseen c.requires.turns c.requires.keeps
    ∙ sym c.value.ensures.value
