-- The reference or the role that readers see as borrowed text and a place.
use Rattle.khe_base.specs.Text.{characters}
use Rattle.xhstt_shape.specs.declared.entries.NameView.{NameView}
use Rattle.xhstt_shape.specs.declared.records.Name.{Name}
use Rattle.xhstt_shape.specs.declared.records.Ref.{Ref}

abbrev pub seen_reference : NameView → Ref
seen_reference v = record { id = characters v.text.now; at = v.at }

abbrev pub seen_role : NameView → Name
seen_role v = record { text = characters v.text.now; at = v.at }
