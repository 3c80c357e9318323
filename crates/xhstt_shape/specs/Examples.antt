-- Elements written out by hand, for examples of what they say. An attribute's value stands at the place
-- 2, and what is between an element's tags at the place 4.
use Rattle.std.specs.Prelude.{ℕ, Option, Some, None, true, List, [], ◌∷◌, codes}
use Rattle.khe_base.specs.declared.costs.CostFn.TheVariants.{Quadratic}
use Rattle.xhstt_text.specs.Forest.{AttributeInfo, Forest, empty, node}
use Rattle.xhstt_text.specs.Handles.{Standing}
use Rattle.xhstt_shape.specs.declared.constraints.RawApplies.{RawApplies}
use Rattle.xhstt_shape.specs.declared.constraints.RawApplies.TheVariants as applied
use Rattle.xhstt_shape.specs.declared.constraints.RawConstraint.{RawConstraint}
use Rattle.xhstt_shape.specs.declared.constraints.RawRule.{RawRule}
use Rattle.xhstt_shape.specs.declared.records.MetaData.{MetaData}
use Rattle.xhstt_shape.specs.declared.records.Name.{Name}
use Rattle.xhstt_shape.specs.declared.records.Ref.{Ref}
-- how bytes are read as a text, for examples to compute
pub use Rattle.std.specs.Str.{is_utf8, chars}
pub use Rattle.std.specs.Char.{encode_utf8}

-- ---- elements

-- an attribute
abbrev pub given : List ℕ → List ℕ → AttributeInfo
given name value = record { at = 1; name = name; value_at = 2; value = value }

-- elements one after the other
abbrev pub row : List Standing → Forest
row [] = empty
row (e ∷ es) = node e.info e.kids (row es)

-- an element with text
abbrev pub text : List ℕ → List ℕ → Standing
text name value = record {
  info = record { at = 3; name = name; attributes = []; value_at = 4; value = value; loose = None };
  kids = empty;
}

-- an element with attributes and children, and one with children alone
abbrev pub element : List ℕ → List AttributeInfo → List Standing → Standing
element name attributes kids = record {
  info = record { at = 3; name = name; attributes = attributes; value_at = 4; value = []; loose = None };
  kids = row kids;
}

abbrev pub around : List ℕ → List Standing → Standing
around name kids = element name [] kids

-- an element with an Id, and one with a reference
abbrev pub with_id : List ℕ → List ℕ → List Standing → Standing
with_id name id kids = element name (given (codes "Id") id ∷ []) kids

abbrev pub refers : List ℕ → List ℕ → List Standing → Standing
refers name id kids = element name (given (codes "Reference") id ∷ []) kids

-- an element with an Id and a Name
abbrev pub named : List ℕ → List ℕ → List ℕ → Standing
named word id name = with_id word id (text (codes "Name") name ∷ [])

-- a list of one reference
abbrev pub list : List ℕ → List ℕ → List ℕ → Standing
list outer inner id = around outer (refers inner id [] ∷ [])

-- ---- what they say

-- an Id, a reference and a role
abbrev pub id : List ℕ → Name
id text = record { text = text; at = 2 }

abbrev pub ref : List ℕ → Ref
ref text = record { id = text; at = 2 }

abbrev pub refs : List ℕ → List Ref
refs text = ref text ∷ []

abbrev pub role : List ℕ → Name
role text = record { text = text; at = 4 }

-- ---- constraints

-- a constraint with this word for its element, that applies to this and has these further children
abbrev pub constraint : List ℕ → List Standing → List Standing → Standing
constraint word applies further = with_id word (codes "c")
    (text (codes "Name") (codes "n") ∷ (text (codes "Required") (codes "true") ∷ (text (codes "Weight")
    (codes "9") ∷ (text (codes "CostFunction") (codes "Quadratic") ∷ (around (codes "AppliesTo")
    applies ∷ further)))))

-- what it says
abbrev pub says : RawApplies → RawRule → Option RawConstraint
says applies rule = Some (record {
  id = id (codes "c");
  name = codes "n";
  required = true;
  weight = 9;
  cost = Quadratic;
  applies = applies;
  rule = rule;
})

-- the lists of what a constraint applies to: event groups with events, and resource groups with
-- resources
abbrev pub to_events : List Standing
to_events = list (codes "EventGroups") (codes "EventGroup") (codes "course") ∷ (list (codes "Events") (codes "Event")
    (codes "lesson") ∷ [])

abbrev pub to_groups : List Standing
to_groups = list (codes "EventGroups") (codes "EventGroup") (codes "course") ∷ []

abbrev pub to_resources : List Standing
to_resources = list (codes "ResourceGroups") (codes "ResourceGroup")
    (codes "staff") ∷ (list (codes "Resources") (codes "Resource") (codes "smith") ∷ [])

abbrev pub events : RawApplies
events = applied.Events (refs (codes "course")) (refs (codes "lesson"))

abbrev pub groups : RawApplies
groups = applied.Groups (refs (codes "course"))

abbrev pub resources : RawApplies
resources = applied.Resources (refs (codes "staff")) (refs (codes "smith"))

-- time groups, times, and a least and a greatest number, as further children
abbrev pub time_groups : Standing
time_groups = list (codes "TimeGroups") (codes "TimeGroup") (codes "monday")

abbrev pub times : Standing
times = list (codes "Times") (codes "Time") (codes "noon")

abbrev pub bounds : List Standing
bounds = text (codes "Minimum") (codes "2") ∷ (text (codes "Maximum") (codes "5") ∷ [])

-- ---- instances and solutions

-- the MetaData of an instance and of a group, and what they say
abbrev pub meta : Standing
meta = around (codes "MetaData") (text (codes "Name") (codes "about") ∷ [])

abbrev pub about : MetaData
about = record {
  name = codes "about";
  contributor = None;
  date = None;
  country = None;
  description = None;
  publication = None;
  remarks =
      None;
}

-- the parts of an instance with one thing of each sort
abbrev pub instance_times : Standing
instance_times = around (codes "Times") (around (codes "TimeGroups") (with_id (codes "Day") (codes "mo")
    [] ∷ []) ∷ (with_id (codes "Time") (codes "mo1") [] ∷ []))

abbrev pub instance_resources : Standing
instance_resources = around (codes "Resources")
    (around (codes "ResourceTypes") (with_id (codes "ResourceType") (codes "t") [] ∷ []) ∷ (around
    (codes "ResourceGroups") (with_id (codes "ResourceGroup") (codes "g") (refers (codes "ResourceType") (codes "t")
    [] ∷ []) ∷ []) ∷ (with_id (codes "Resource") (codes "r") (refers (codes "ResourceType") (codes "t")
    [] ∷ []) ∷ [])))

abbrev pub instance_events : Standing
instance_events = around (codes "Events") (around (codes "EventGroups") (with_id (codes "Course") (codes "ma")
    [] ∷ []) ∷ (with_id (codes "Event") (codes "e") (text (codes "Duration") (codes "2") ∷ []) ∷ []))

-- with a constraint, and an element that is none
abbrev pub instance_constraints : Standing
instance_constraints = around (codes "Constraints") (constraint (codes "LinkEventsConstraint") to_groups
    [] ∷ (constraint (codes "OtherConstraint") to_groups [] ∷ []))

-- a solution with one entry
abbrev pub solution : Standing
solution = refers (codes "Solution") (codes "i") (text (codes "Description") (codes "d") ∷ (text (codes "RunningTime")
    (codes "t") ∷ (around (codes "Events") (refers (codes "Event") (codes "e") [] ∷ []) ∷ [])))
