-- What an element without a fault has to be read: where `Values` would let something stand in for what is
-- missing, nothing is missing. `IsSome` of an option says that its value is read from the element.
use Rattle.std.specs.Prelude.{ℕ, ◌≡◌, true, List, [], ◌∷◌, IsSome, IfSome, IsSomeAnd, All}
use Rattle.std.specs.Option.{option_and_then}
use Rattle.khe_base.specs.Text.{text_of}
use Rattle.khe_base.specs.declared.limits.TheConstants.{NUMBER, GREATEST_BOUND}
use Rattle.xhstt_text.specs.Forest.{Forest, empty, node}
use Rattle.xhstt_text.specs.Handles.{Standing}
use Rattle.xhstt_shape.specs.declared.schema.Row.{Row}
use Rattle.xhstt_shape.specs.declared.schema.Row.TheVariants as row
use Rattle.khe_instance.specs.declared.rules.Kind.{Kind}
use Rattle.khe_instance.specs.declared.rules.Kind.TheVariants as kind
use Rattle.xhstt_shape.specs.declared.words.Label.TheVariants as label
use Rattle.xhstt_shape.specs.declared.words.Tag.{Tag}
use Rattle.xhstt_shape.specs.declared.words.Tag.TheVariants as tag
use Rattle.xhstt_shape.specs.Contents.{trimmed_text, truth_of, function_of}
use Rattle.xhstt_shape.specs.Schema.{children}
use Rattle.xhstt_shape.specs.Values.{elements, optional_name, optional_reference, optional_number, kind_of}
use Rattle.xhstt_shape.specs.Walk.{child, rule_for, settled, is_among}

-- an Id, and a reference
abbrev pub HasId : Standing → Type 0
HasId e = IsSome (optional_name label.Id e)

abbrev pub HasReference : Standing → Type 0
HasReference e = IsSome (optional_reference e)

-- a child that must stand and refer, and one that refers where it stands
abbrev pub Refers : Tag → Standing → Type 0
Refers t e = IsSomeAnd (child t e.kids) HasReference

abbrev pub MayRefer : Tag → Standing → Type 0
MayRefer t e = IfSome (child t e.kids) HasReference

-- a role is a text; one that must stand, and one that may
abbrev pub IsRoleThere : Standing → Type 0
IsRoleThere e = IsSome (text_of (trimmed_text e.info.value))

abbrev pub HasRole : Standing → Type 0
HasRole e = IsSomeAnd (child tag.Role e.kids) IsRoleThere

abbrev pub MayHaveRole : Standing → Type 0
MayHaveRole e = IfSome (child tag.Role e.kids) IsRoleThere

-- the number of a child in a range; where the child may be missing, it is there with the child
abbrev pub HasNumber : ℕ → ℕ → Tag → Standing → Type 0
HasNumber least greatest t e = IsSome (optional_number least greatest t e)

abbrev pub MayHaveNumber : ℕ → ℕ → Tag → Standing → Type 0
MayHaveNumber least greatest t e = IsSome (child t e.kids) → HasNumber least greatest t e

-- the bounds that two children give
abbrev pub HasBounds : Tag → Tag → Standing → Type 0
HasBounds low high e = MayHaveNumber 0 NUMBER low e × MayHaveNumber 0 GREATEST_BOUND high e

-- whether a cost is hard, and its function
abbrev pub HasTruth : Standing → Type 0
HasTruth e = IsSome (option_and_then (λ c. truth_of (trimmed_text c.info.value)) (child tag.Required e.kids))

abbrev pub HasFunction : Standing → Type 0
HasFunction e = IsSome (option_and_then (λ c. function_of (trimmed_text c.info.value)) (child tag.CostFunction e.kids))

-- what a constraint of a kind asks for
unfoldable pub HasRule : Kind → Standing → Type 0
HasRule kind.AssignTime e = Unit {0}
HasRule kind.AssignResource e = HasRole e
HasRule kind.SplitEvents e =
    HasBounds tag.MinimumDuration tag.MaximumDuration e × HasBounds tag.MinimumAmount tag.MaximumAmount e
HasRule kind.DistributeSplitEvents e = HasNumber 1 NUMBER tag.Duration e × HasBounds tag.Minimum tag.Maximum e
HasRule kind.PreferTimes e = MayHaveNumber 1 NUMBER tag.Duration e
HasRule kind.PreferResources e = HasRole e
HasRule kind.AvoidSplitAssignments e = HasRole e
HasRule kind.SpreadEvents e = Unit {0}
HasRule kind.LinkEvents e = Unit {0}
HasRule kind.OrderEvents e = Unit {0}
HasRule kind.AvoidClashes e = Unit {0}
HasRule kind.AvoidUnavailableTimes e = Unit {0}
HasRule kind.LimitIdleTimes e = HasBounds tag.Minimum tag.Maximum e
HasRule kind.ClusterBusyTimes e = HasBounds tag.Minimum tag.Maximum e
HasRule kind.LimitBusyTimes e = HasBounds tag.Minimum tag.Maximum e
HasRule kind.LimitWorkload e = HasBounds tag.Minimum tag.Maximum e

-- the children have names of these
abbrev pub AreNamed : List Tag → Standing → Type 0
AreNamed tags e = All (λ c. is_among c.info.name tags ≡ true) (elements e.kids)

-- a constraint of a kind
pub record IsConstraintPresent (k : Kind) (e : Standing) : Type 0 where
  pub id : HasId e
  pub required : HasTruth e
  pub weight : HasNumber 0 NUMBER tag.Weight e
  pub cost : HasFunction e
  pub rule : HasRule k e

-- an element of a row
unfoldable pub IsPresent : Row → Standing → Type 0
IsPresent row.Archive e = Unit {0}
IsPresent row.MetaData e = Unit {0}
IsPresent row.Instances e = Unit {0}
IsPresent row.Instance e = HasId e
IsPresent row.Times e = Unit {0}
IsPresent row.TimeGroups e = AreNamed (tag.Week ∷ tag.Day ∷ tag.TimeGroup ∷ []) e
IsPresent row.Named e = HasId e
IsPresent row.Time e = HasId e × MayRefer tag.Week e × MayRefer tag.Day e
IsPresent row.Resources e = Unit {0}
IsPresent row.ResourceTypes e = Unit {0}
IsPresent row.ResourceGroups e = Unit {0}
IsPresent row.ResourceGroup e = HasId e × Refers tag.ResourceType e
IsPresent row.Resource e = HasId e × Refers tag.ResourceType e
IsPresent row.Events e = Unit {0}
IsPresent row.EventGroups e = AreNamed (tag.Course ∷ tag.EventGroup ∷ []) e
IsPresent row.Event e =
    HasId e × HasNumber 1 NUMBER tag.Duration e × MayHaveNumber 0 NUMBER tag.Workload e × MayRefer tag.Course e
    × MayRefer tag.Time e
IsPresent row.EventResources e = Unit {0}
IsPresent row.EventResource e =
    MayHaveRole e × MayRefer tag.ResourceType e × MayHaveNumber 0 NUMBER tag.Workload e
IsPresent row.OpenResource e = HasRole e × Refers tag.ResourceType e × MayHaveNumber 0 NUMBER tag.Workload e
IsPresent row.Constraints e = All (λ c. IsSome (kind_of c.info.name)) (elements e.kids)
IsPresent (row.Constraint k) e = IsConstraintPresent k e
IsPresent row.EventApplies e = Unit {0}
IsPresent row.GroupApplies e = Unit {0}
IsPresent row.ResourceApplies e = Unit {0}
IsPresent row.PairApplies e = Unit {0}
IsPresent row.EventPairs e = Unit {0}
IsPresent row.EventPair e =
    Refers tag.FirstEvent e × Refers tag.SecondEvent e × HasBounds tag.MinSeparation tag.MaxSeparation e
IsPresent row.Spreads e = Unit {0}
IsPresent row.Spread e = HasReference e × HasBounds tag.Minimum tag.Maximum e
IsPresent row.SolutionGroups e = Unit {0}
IsPresent row.SolutionGroup e = HasId e
IsPresent row.Solution e = HasReference e
IsPresent row.Entries e = Unit {0}
IsPresent row.Entry e = HasReference e × MayHaveNumber 1 NUMBER tag.Duration e × MayRefer tag.Time e
IsPresent row.GivenResources e = Unit {0}
IsPresent row.Given e = HasReference e × MayHaveRole e
IsPresent row.TimeGroupReferences e = Unit {0}
IsPresent row.ResourceGroupReferences e = Unit {0}
IsPresent row.EventGroupReferences e = Unit {0}
IsPresent row.TimeReferences e = Unit {0}
IsPresent row.EventReferences e = Unit {0}
IsPresent row.ResourceReferences e = Unit {0}
IsPresent row.Reference e = HasReference e
IsPresent row.Text e = Unit {0}
IsPresent row.Number e = Unit {0}
IsPresent row.Duration e = Unit {0}
IsPresent row.Bound e = Unit {0}
IsPresent row.Truth e = Unit {0}
IsPresent row.Function e = Unit {0}
IsPresent row.Role e = Unit {0}
IsPresent row.Anything e = Unit {0}

-- the elements among the children of an element of a row, each as the row that the table gives it, and
-- all elements inside them
abbrev pub ArePresent : Row → Forest → Type 0
ArePresent r empty = Unit {0}
ArePresent r (node i kids others) =
    IfSome (rule_for (children r) i.name)
    (λ c. IsPresent (settled c.row i) (record { info = i; kids = kids }) × ArePresent (settled c.row i) kids)
    × ArePresent r others

-- an element of a row, and all elements inside it
abbrev pub IsWhole : Row → Standing → Type 0
IsWhole r e = IsPresent r e × ArePresent r e.kids
