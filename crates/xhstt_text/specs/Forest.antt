-- The tree of a text as every layer above sees it: a row of elements, each with its own row of
-- children. The flat table of a `Tree` stands for one.
use Rattle.std.specs.Prelude.{ℕ, List, Option}

-- an attribute: the place of its name, its name, the place of its value, and the bytes between its
-- quotes
pub record AttributeInfo : Type 0 where
  pub at : ℕ
  pub name : List ℕ
  pub value_at : ℕ
  pub value : List ℕ

-- what one element says of itself: the place of its `<`, its name, its attributes in order, the
-- place after its start tag, the bytes between its tags where it has no children (else none), and
-- the place of the first byte of its direct text that is not white
pub record Info : Type 0 where
  pub at : ℕ
  pub name : List ℕ
  pub attributes : List AttributeInfo
  pub value_at : ℕ
  pub value : List ℕ
  pub loose : Option ℕ

-- a row of elements: the first, its children, and its later siblings
pub data Forest : Type 0 where
  empty : Forest
  node : Info → Forest → Forest → Forest
