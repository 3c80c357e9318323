-- The monitors of a resource that list one of the 64 times of a word, and what stands in memory for them.
use Rattle.std.specs.Prelude.{ℕ, ◌≡◌, ◌*◌, ◌<◌, ◌&&◌, Bool, false, List, [], length, slice_get, slice_index_or, take}
use Rattle.std.specs.List.{filter, list_any, range_with_len}
use Rattle.std.specs.Option.{option_map_or}
use Rattle.khe_base.specs.Bits.{words_for}
use Rattle.khe_base.specs.ListedSets.{is_listed}
use Rattle.khe_instance.specs.Listing.{AreTabled}
use Rattle.khe_instance.specs.Watching.{is_at, lists_time}
use Rattle.khe_instance.specs.declared.parts.Parts.{Parts}
use Rattle.khe_instance.specs.declared.rules.Constraint.{Constraint}
use Rattle.khe_instance.specs.declared.rules.Rule.{Rule}

-- whether a rule lists one of the n times from one on
unfoldable pub lists_between : Rule → ℕ → ℕ → Bool
lists_between rule from count = list_any (lists_time rule) (range_with_len from count)

-- whether it lists one of the 64 times of a word
abbrev pub lists_in : Rule → ℕ → Bool
lists_in rule word = lists_between rule (64 * word) 64

-- the first n words in which it lists a time
abbrev pub words_in : ℕ → Rule → List ℕ
words_in words rule = filter (lists_in rule) (range_with_len 0 words)

-- whether the rule of the constraint with a number lists a time of a word
abbrev pub is_listed_in : List Constraint → ℕ → ℕ → Bool
is_listed_in constraints c word = option_map_or (λ x. lists_in x.rule word) (slice_get constraints c) false

-- whether the monitor with a number is at a resource and lists a time of a word
abbrev pub hears_in : Parts → ℕ → ℕ → ℕ → Bool
hears_in p r word i = option_map_or (λ m. is_at m.point r && is_listed_in p.constraints m.constraint word)
    (slice_get p.monitors i) false

-- for each resource and each word of the times the monitors that hear of a time of the word
abbrev pub AreByTime : Parts → List (List (List ℕ)) → Type 0
AreByTime p table =
    AreTabled (hears_in p) (length p.resources) (λ r. words_for (length p.times)) (length p.monitors) table

-- words below a number, of which none comes twice
pub record AreApart (words : List ℕ) (count : ℕ) : Type 0 where
  pub within : (j : ℕ) → j < length words → slice_index_or words j 0 < count
  pub fresh : (j : ℕ) → j < length words → is_listed (take j words) (slice_index_or words j 0) ≡ false
