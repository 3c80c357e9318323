-- What contracts see of an element, its attributes and its children, over the table of a tree.
use Rattle.std.specs.Prelude.{◌≡◌, ℕ, ◌+◌, ◌≤◌, ◌<◌, List, [], ◌∷◌, length, Option, Some, None, refl}
use Rattle.std.specs.Coded.{Coded, code_by, coded×, coded_ℕ, coded_list, coded_option}
use Rattle.std.proofs.Common.{ap, ◌∙◌}
use Rattle.xhstt_text.specs.Forest.{AttributeInfo, Info, Forest, empty, node}
use Rattle.xhstt_text.specs.FlatTable.{FlatTable, IsFlatTable, node_at, info_at, forest}
use Rattle.xhstt_text.specs.declared.attributes.AttributeText.{AttributeText}

-- an element as it stands in a text: what it says of itself, and its children
pub record Standing : Type 0 where
  pub info : Info
  pub kids : Forest

-- the element of a table by its number
abbrev pub standing_at : FlatTable → ℕ → Standing
standing_at t n = record { info = info_at t n; kids = forest t (n + 1) (node_at t n).end }

-- how many elements a forest has
abbrev pub size : Forest → ℕ
size empty = 0
size (node info kids others) = 1 + size kids + size others

-- the rows from `at` up to `to` are whole elements of a table
pub record IsRow (t : FlatTable) (at to : ℕ) : Type 0 where
  pub table : IsFlatTable t
  pub ordered : at ≤ to
  pub within : to ≤ length t.nodes
  pub whole : (i : ℕ) → at ≤ i → i < to → (node_at t i).end ≤ to

-- an attribute that a handle gave
abbrev pub attribute_of : AttributeText → AttributeInfo
attribute_of a =
    record { at = a.name_at; name = a.name.now; value_at = a.value_at; value = a.value.now }

-- an attribute is stored as the tuple of its fields
abbrev pub attribute_code : Coded AttributeInfo
attribute_code =
    code_by (ℕ × (List ℕ × (ℕ × List ℕ)))
    (coded× coded_ℕ (coded× (coded_list coded_ℕ) (coded× coded_ℕ (coded_list coded_ℕ))))
    (λ a. (a.at, (a.name, (a.value_at, a.value))))
    (λ p. record { at = p.0; name = p.1.0; value_at = p.1.1.0; value = p.1.1.1 })
    (λ _. refl)

-- and so is what an element says of itself
abbrev pub info_code : Coded Info
info_code =
    code_by (ℕ × (List ℕ × (List AttributeInfo × (ℕ × (List ℕ × Option ℕ)))))
    (coded× coded_ℕ (coded× (coded_list coded_ℕ) (coded× (coded_list attribute_code)
    (coded× coded_ℕ (coded× (coded_list coded_ℕ) (coded_option coded_ℕ))))))
    (λ i. (i.at, (i.name, (i.attributes, (i.value_at, (i.value, i.loose))))))
    (λ p. record {
      at = p.0;
      name = p.1.0;
      attributes = p.1.1.0;
      value_at = p.1.1.1.0;
      value = p.1.1.1.1.0;
      loose =
          p.1.1.1.1.1;
    })
    (λ _. refl)

-- a forest is stored in document order, with a mark where a row ends
abbrev marked : Forest → List (Option Info) → List (Option Info)
marked empty more = None ∷ more
marked (node info kids others) more = Some info ∷ marked kids (marked others more)

abbrev joined : Info → List Forest → List Forest
joined info [] = []
joined info (kids ∷ []) = []
joined info (kids ∷ (others ∷ more)) = node info kids others ∷ more

abbrev unmarked : List (Option Info) → List Forest
unmarked [] = []
unmarked (None ∷ more) = empty ∷ unmarked more
unmarked (Some info ∷ more) = joined info (unmarked more)

pub unmarked-marked : (f : Forest) (more : List (Option Info)) → unmarked (marked f more) ≡ f ∷ unmarked more
unmarked-marked empty more = refl
unmarked-marked (node info kids others) more =
    ap (joined info) (unmarked-marked kids (marked others more))
    ∙ ap (λ fs. joined info (kids ∷ fs)) (unmarked-marked others more)

abbrev first_forest : List Forest → Forest
first_forest [] = empty
first_forest (f ∷ _) = f

abbrev pub forest_code : Coded Forest
forest_code =
    code_by (List (Option Info)) (coded_list (coded_option info_code)) (λ f. marked f [])
    (λ ms. first_forest (unmarked ms)) (λ f. ap first_forest (unmarked-marked f []))

abbrev pub standing_code : Coded Standing
standing_code =
    code_by (Info × Forest) (coded× info_code forest_code) (λ s. (s.info, s.kids))
    (λ p. record { info = p.0; kids = p.1 }) (λ _. refl)
