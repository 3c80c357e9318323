-- Kinds by their numbers, the rules of a kind, and laws on both.
use Rattle.std.specs.Prelude.{Option}
use Rattle.std.proofs.Common.{ℕ, ◌≡◌, ◌==◌, ◌∙◌, Bool, true, refl, sym, ap, List, [], ◌∷◌, get_or}
use Rattle.std.proofs.lemmas.Bool.{eqb-true}
use Rattle.khe_instance.specs.Kinds.{kind_of}
use Rattle.khe_instance.specs.declared.rules.EventPair.{EventPair}
use Rattle.khe_instance.specs.declared.rules.Kind.{Kind}
use Rattle.khe_instance.specs.declared.rules.Kind.TheVariants as kind
use Rattle.khe_instance.specs.declared.rules.Rule.{Rule}
use Rattle.khe_instance.specs.declared.rules.Rule.TheVariants as rule
use Rattle.khe_instance.specs.declared.rules.Spread.{Spread}

-- the number of a kind, in their order
abbrev pub number_of_kind : Kind → ℕ
number_of_kind kind.AssignTime = 0
number_of_kind kind.AssignResource = 1
number_of_kind kind.SplitEvents = 2
number_of_kind kind.DistributeSplitEvents = 3
number_of_kind kind.PreferTimes = 4
number_of_kind kind.PreferResources = 5
number_of_kind kind.AvoidSplitAssignments = 6
number_of_kind kind.SpreadEvents = 7
number_of_kind kind.LinkEvents = 8
number_of_kind kind.OrderEvents = 9
number_of_kind kind.AvoidClashes = 10
number_of_kind kind.AvoidUnavailableTimes = 11
number_of_kind kind.LimitIdleTimes = 12
number_of_kind kind.ClusterBusyTimes = 13
number_of_kind kind.LimitBusyTimes = 14
number_of_kind kind.LimitWorkload = 15

-- whether two kinds are the same
abbrev pub is_kind : Kind → Kind → Bool
is_kind a b = number_of_kind a == number_of_kind b

abbrev kinds : List Kind
kinds = kind.AssignTime ∷ kind.AssignResource ∷ kind.SplitEvents ∷ kind.DistributeSplitEvents ∷ kind.PreferTimes ∷ kind.PreferResources ∷ kind.AvoidSplitAssignments ∷ kind.SpreadEvents ∷ kind.LinkEvents ∷ kind.OrderEvents ∷ kind.AvoidClashes ∷ kind.AvoidUnavailableTimes ∷ kind.LimitIdleTimes ∷ kind.ClusterBusyTimes ∷ kind.LimitBusyTimes ∷ kind.LimitWorkload ∷ []

abbrev kind_from : ℕ → Kind
kind_from n = get_or kinds n kind.AssignTime

kind_back : (a : Kind) → kind_from (number_of_kind a) ≡ a
kind_back kind.AssignTime = refl
kind_back kind.AssignResource = refl
kind_back kind.SplitEvents = refl
kind_back kind.DistributeSplitEvents = refl
kind_back kind.PreferTimes = refl
kind_back kind.PreferResources = refl
kind_back kind.AvoidSplitAssignments = refl
kind_back kind.SpreadEvents = refl
kind_back kind.LinkEvents = refl
kind_back kind.OrderEvents = refl
kind_back kind.AvoidClashes = refl
kind_back kind.AvoidUnavailableTimes = refl
kind_back kind.LimitIdleTimes = refl
kind_back kind.ClusterBusyTimes = refl
kind_back kind.LimitBusyTimes = refl
kind_back kind.LimitWorkload = refl

pub same_kind : (a b : Kind) → is_kind a b ≡ true → a ≡ b
same_kind a b h = sym (kind_back a) ∙ ap kind_from (eqb-true (number_of_kind a) (number_of_kind b) h) ∙ kind_back b

-- a rule is one of the kind
abbrev pub IsOfKind : Kind → Rule → Type 0
IsOfKind kind.AssignTime r = r ≡ rule.AssignTime
IsOfKind kind.AssignResource r = (role : List ℕ) × (r ≡ rule.AssignResource role)
IsOfKind kind.SplitEvents r = (min_duration : ℕ) × (max_duration : ℕ) × (min_amount : ℕ) × (max_amount : ℕ)
    × (r ≡ rule.SplitEvents min_duration max_duration min_amount max_amount)
IsOfKind kind.DistributeSplitEvents r = (duration : ℕ) × (least : ℕ) × (greatest : ℕ)
    × (r ≡ rule.DistributeSplitEvents duration least greatest)
IsOfKind kind.PreferTimes r = (times : List Bool) × (duration : Option ℕ) × (r ≡ rule.PreferTimes times duration)
IsOfKind kind.PreferResources r = (resources : List Bool) × (role : List ℕ) × (r ≡ rule.PreferResources resources role)
IsOfKind kind.AvoidSplitAssignments r = (role : List ℕ) × (r ≡ rule.AvoidSplitAssignments role)
IsOfKind kind.SpreadEvents r = (spreads : List Spread) × (r ≡ rule.SpreadEvents spreads)
IsOfKind kind.LinkEvents r = r ≡ rule.LinkEvents
IsOfKind kind.OrderEvents r = (pairs : List EventPair) × (r ≡ rule.OrderEvents pairs)
IsOfKind kind.AvoidClashes r = r ≡ rule.AvoidClashes
IsOfKind kind.AvoidUnavailableTimes r = (times : List Bool) × (r ≡ rule.AvoidUnavailableTimes times)
IsOfKind kind.LimitIdleTimes r = (groups : List (List Bool)) × (least : ℕ) × (greatest : ℕ)
    × (r ≡ rule.LimitIdleTimes groups least greatest)
IsOfKind kind.ClusterBusyTimes r = (groups : List (List Bool)) × (least : ℕ) × (greatest : ℕ)
    × (r ≡ rule.ClusterBusyTimes groups least greatest)
IsOfKind kind.LimitBusyTimes r = (groups : List (List Bool)) × (least : ℕ) × (greatest : ℕ)
    × (r ≡ rule.LimitBusyTimes groups least greatest)
IsOfKind kind.LimitWorkload r = (least : ℕ) × (greatest : ℕ) × (r ≡ rule.LimitWorkload least greatest)

-- a rule is of its kind
pub of_kind : (r : Rule) → IsOfKind (kind_of r) r
of_kind rule.AssignTime = refl
of_kind (rule.AssignResource role) = (role, refl)
of_kind (rule.SplitEvents a b c d) = (a, b, c, d, refl)
of_kind (rule.DistributeSplitEvents d least greatest) = (d, least, greatest, refl)
of_kind (rule.PreferTimes times duration) = (times, duration, refl)
of_kind (rule.PreferResources resources role) = (resources, role, refl)
of_kind (rule.AvoidSplitAssignments role) = (role, refl)
of_kind (rule.SpreadEvents spreads) = (spreads, refl)
of_kind rule.LinkEvents = refl
of_kind (rule.OrderEvents pairs) = (pairs, refl)
of_kind rule.AvoidClashes = refl
of_kind (rule.AvoidUnavailableTimes times) = (times, refl)
of_kind (rule.LimitIdleTimes groups least greatest) = (groups, least, greatest, refl)
of_kind (rule.ClusterBusyTimes groups least greatest) = (groups, least, greatest, refl)
of_kind (rule.LimitBusyTimes groups least greatest) = (groups, least, greatest, refl)
of_kind (rule.LimitWorkload least greatest) = (least, greatest, refl)
