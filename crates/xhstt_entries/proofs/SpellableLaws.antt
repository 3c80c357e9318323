-- The texts of an instance are those of its archive, so they can be written.
use Rattle.std.proofs.Common.{ℕ, ◌+◌, Option, Some, None, IfSome, List, [], ◌∷◌, All, map, get_or, flat_map, option_map}
use Rattle.std.proofs.lemmas.List.Elements.{All-append, All-cons, All-head, All-map, All-nil, All-tail}
use Rattle.khe_base.proofs.ListLemmas.{All-flat_map}
use Rattle.khe_instance.specs.declared.parts.ResourceInfo.{ResourceInfo}
use Rattle.xhstt_resolve.specs.Members.{resources_in}
use Rattle.xhstt_resolve.specs.Parts.{event_of, events_from, group_places, member_place, parts_of}
use Rattle.xhstt_resolve.specs.Parts as parts
use Rattle.xhstt_shape.specs.Characters.{IsSpellable, IsSpellableEvent, IsSpellableEventResource, IsSpellableInstance}
use Rattle.xhstt_shape.specs.Characters.{IsSpellableName}
use Rattle.xhstt_shape.specs.WellFormed.{IsEvent, IsEventResource, IsInstance, IsRole}
use Rattle.xhstt_shape.specs.declared.records.Name.{Name}
use Rattle.xhstt_shape.specs.declared.records.RawEvent.{RawEvent}
use Rattle.xhstt_shape.specs.declared.records.RawEventResource.{RawEventResource}
use Rattle.xhstt_shape.specs.declared.records.RawInstance.{RawInstance}
use Rattle.xhstt_shape.specs.declared.records.Ref.{Ref}
use Rattle.xhstt_entries.specs.Texts.{HasRoleText, HasSpellable, HasSpellableEvent, IsRoleText}

role_text : (o : Option Name) → IfSome o IsSpellableName → IfSome o IsRole
    → IfSome (option_map (λ (n : Name). n.text) o) IsRoleText
role_text None s f = tt
role_text (Some n) s f = record { text = s; form = record { some = f.some; whole = f.whole } }

listed_places : (i : RawInstance) (e : RawEvent) (rs : List RawEventResource) → All IsSpellableEventResource rs
    → All IsEventResource rs → All HasRoleText (map (parts.place_of i e) rs)
listed_places i e rs s f =
    All-map HasRoleText (parts.place_of i e) rs
    (λ k d l. role_text (get_or rs k d).role (s k d l).role (f k d l).role)

member_places : (i : RawInstance) (e : RawEvent) (gs : List Ref) → All HasRoleText (flat_map (group_places i e) gs)
member_places i e gs =
    All-flat_map HasRoleText (group_places i e) gs
    (λ k d l. All-map HasRoleText (member_place i e) (resources_in i (get_or gs k d).id) (λ j c m. tt))

event_texts : (i : RawInstance) (next : ℕ) (e : RawEvent) → IsSpellableEvent e → IsEvent e
    → HasSpellableEvent (event_of i next e)
event_texts i next e s f = record {
  id = s.id;
  places =
      All-append HasRoleText (map (parts.place_of i e) e.resources) (flat_map (group_places i e) e.resource_groups)
      (listed_places i e e.resources s.resources f.resources)
      (member_places i e e.resource_groups);
}

events_texts : (i : RawInstance) (next : ℕ) (es : List RawEvent) → All IsSpellableEvent es → All IsEvent es
    → All HasSpellableEvent (events_from i next es)
events_texts i next [] s f = All-nil HasSpellableEvent
events_texts i next (e ∷ es) s f =
    All-cons HasSpellableEvent (event_of i next e) (events_from i (next + e.duration) es)
    (event_texts i next e (All-head IsSpellableEvent e es s) (All-head IsEvent e es f))
    (events_texts i (next + e.duration) es (All-tail IsSpellableEvent e es s) (All-tail IsEvent e es f))

pub parts_spellable : (i : RawInstance) → IsSpellableInstance i → IsInstance i → HasSpellable (parts_of i)
parts_spellable i s f = record {
  times = All-map IsSpellable (λ t. t.id.text) i.times (λ k d l. (s.times k d l).id);
  resources =
      All-map (λ (r : ResourceInfo). IsSpellable r.id) (parts.resource_of i) i.resources
      (λ k d l. (s.resources k d l).id);
  events = events_texts i 0 i.events s.events f.events;
}
