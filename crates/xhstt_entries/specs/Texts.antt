-- Instances whose Ids and roles can be written.
use Rattle.std.specs.Prelude.{ℕ, IfSome, List, All}
use Rattle.khe_instance.specs.declared.parts.EventInfo.{EventInfo}
use Rattle.khe_instance.specs.declared.parts.Parts.{Parts}
use Rattle.khe_instance.specs.declared.parts.Place.{Place}
use Rattle.khe_instance.specs.declared.parts.ResourceInfo.{ResourceInfo}
use Rattle.xhstt_entries.specs.Spelled.{role_named}
use Rattle.xhstt_shape.specs.Characters.{IsSpellable}
use Rattle.xhstt_shape.specs.WellFormed.{IsRole}

-- a role that can be written
pub record IsRoleText (role : List ℕ) : Type 0 where
  pub text : IsSpellable role
  pub form : IsRole (role_named role)

abbrev pub HasRoleText : Place → Type 0
HasRoleText place = IfSome place.role IsRoleText

pub record HasSpellableEvent (e : EventInfo) : Type 0 where
  pub id : IsSpellable e.id
  pub places : All HasRoleText e.places

-- the texts of an instance can be written
pub record HasSpellable (p : Parts) : Type 0 where
  pub times : All IsSpellable p.times
  pub resources : All (λ (r : ResourceInfo). IsSpellable r.id) p.resources
  pub events : All HasSpellableEvent p.events
