-- What the entries of solutions name, by number. A reference that names nothing has the number 0 here, since it is
-- told as a fault.
use Rattle.std.specs.Prelude.{ℕ, ◌+◌, List, [], ◌∷◌, map, length, slice_get, unwrap_or}
use Rattle.std.specs.List.{flat_map}
use Rattle.std.specs.Option.{option_and_then, option_map, option_map_or}
use Rattle.khe_base.specs.Names.{number_of}
use Rattle.khe_base.specs.declared.numbers.EventId.{EventId}
use Rattle.khe_base.specs.declared.numbers.ResourceId.{ResourceId}
use Rattle.khe_base.specs.declared.numbers.TimeId.{TimeId}
use Rattle.xhstt_references.specs.Directories.{part_names}
use Rattle.xhstt_references.specs.Ids.{instance_ids}
use Rattle.xhstt_references.specs.References.{solutions_of}
use Rattle.xhstt_references.specs.declared.following.Followed.{Followed}
use Rattle.xhstt_references.specs.declared.following.Named.{Named}
use Rattle.xhstt_references.specs.declared.part_names.PartNames.{PartNames}
use Rattle.xhstt_shape.specs.declared.records.Archive.{Archive}
use Rattle.xhstt_shape.specs.declared.records.RawEntry.{RawEntry}
use Rattle.xhstt_shape.specs.declared.records.RawGiven.{RawGiven}
use Rattle.xhstt_shape.specs.declared.records.RawSolution.{RawSolution}
use Rattle.xhstt_shape.specs.declared.records.Ref.{Ref}

-- what a reference names
abbrev pub event_numbered : PartNames → Ref → EventId
event_numbered n r = record { 0 = unwrap_or (number_of r.id n.events) 0 }

abbrev pub time_numbered : PartNames → Ref → TimeId
time_numbered n r = record { 0 = unwrap_or (number_of r.id n.times) 0 }

abbrev pub resource_numbered : PartNames → Ref → ResourceId
resource_numbered n r = record { 0 = unwrap_or (number_of r.id n.resources) 0 }

-- what an entry names whose resources begin at a place
abbrev pub named_at : PartNames → ℕ → RawEntry → Named
named_at n first e = record {
  event = event_numbered n e.reference;
  time = option_map (time_numbered n) e.time;
  first = first;
}

-- the resources that are given, and the resources that an entry gives
abbrev pub numbered_in : PartNames → List RawGiven → List ResourceId
numbered_in n gs = map (λ g. resource_numbered n g.reference) gs

abbrev pub given_in : PartNames → RawEntry → List ResourceId
given_in n e = numbered_in n e.resources

-- what entries name, the resources of the first of them beginning at a place
abbrev pub named_from : PartNames → ℕ → List RawEntry → List Named
named_from n first [] = []
named_from n first (e ∷ es) = named_at n first e ∷ named_from n (first + length e.resources) es

-- what the entries of a solution name
abbrev pub followed : PartNames → List RawEntry → Followed
followed n es = record { named = named_from n 0 es; given = flat_map (given_in n) es }

abbrev pub nothing : Followed
nothing = record { named = []; given = [] }

-- the same in the instance that the solution names, given the names of all instances with their Ids; nothing where
-- there is no such instance
abbrev pub followed_in : List PartNames → List (List ℕ) → RawSolution → Followed
followed_in names ids s = option_map_or (λ n. followed n s.events)
    (option_and_then (λ k. slice_get names k) (number_of s.reference.id ids)) nothing

-- and that of all solutions of an archive, group by group
abbrev pub followed_of : Archive → List Followed
followed_of a = map (followed_in (map part_names a.instances) (instance_ids a)) (solutions_of a)
