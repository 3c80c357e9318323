-- The flat table of a `Tree`, the bounds that it keeps, and the forest that it stands for.
use Rattle.std.specs.Prelude.{◌≡◌, ℕ, zero, suc, ◌+◌, ◌-◌, ◌<◌, ◌≤◌, ◌^◌, min, max, nat_lt, if◌then◌else◌, List, []}
use Rattle.std.specs.Prelude.{length, map, slice_range, slice_index_or, All, None}
use Rattle.xhstt_text.specs.Forest.{AttributeInfo, Info, Forest, empty, node}
use Rattle.xhstt_text.specs.declared.tree.Attribute.{Attribute}
use Rattle.xhstt_text.specs.declared.tree.Node.{Node}
use Rattle.xhstt_text.specs.declared.tree.Span.{Span}
use Rattle.xhstt_text.specs.declared.tree.Tree.{Tree}

-- a text, the rows of its elements in document order, and the rows of its attributes
pub record FlatTable : Type 0 where
  pub bytes : List ℕ
  pub nodes : List Node
  pub attributes : List Attribute

abbrev pub flat_table : Tree → FlatTable
flat_table tree =
    record { bytes = tree.bytes.now; nodes = tree.nodes; attributes = tree.attributes }

-- the part of a list that a span names
abbrev pub piece : {X : Type 0} → List X → Span → List X
piece xs span = slice_range xs span.from span.to

abbrev pub no_span : Span
no_span = record { from = 0; to = 0 }

-- what is read past the end of the table
abbrev pub no_node : Node
no_node = record { at = 0; name = no_span; end = 0; attributes = no_span; value = no_span; loose = None }

-- the row of an element by its number
abbrev pub node_at : FlatTable → ℕ → Node
node_at t n = slice_index_or t.nodes n no_node

abbrev pub attribute_info : List ℕ → Attribute → AttributeInfo
attribute_info bytes a =
    record { at = a.name.from; name = piece bytes a.name; value_at = a.value.from; value = piece bytes a.value }

-- what the element of a row says of itself; it has children where its row is not the last of its
-- own part
abbrev pub info_of : FlatTable → ℕ → Node → Info
info_of t n row =
    record {
      at = row.at;
      name = piece t.bytes row.name;
      attributes = map (attribute_info t.bytes) (piece t.attributes row.attributes);
      value_at = row.value.from;
      value = (if nat_lt (n + 1) row.end then [] else piece t.bytes row.value);
      loose = row.loose;
    }

abbrev pub info_at : FlatTable → ℕ → Info
info_at t n = info_of t n (node_at t n)

-- the first `depth` steps into the rows from `a` up to `b`: where an element's end lies outside of
-- them, or not after it, it counts as the nearest place that does not
unfoldable pub rows_within : ℕ → FlatTable → ℕ → ℕ → Forest
rows_within zero t a b = empty
rows_within (suc depth) t a b =
    if nat_lt a b
    then node (info_at t a) (rows_within depth t (a + 1) (min (node_at t a).end b))
    (rows_within depth t (max (a + 1) (node_at t a).end) b)
    else empty

-- the forest that the rows from `a` up to `b` stand for
unfoldable pub forest : FlatTable → ℕ → ℕ → Forest
forest t a b = rows_within (b - a) t a b

-- the forest of a whole tree, which is one element
abbrev pub root_forest : Tree → Forest
root_forest tree = forest (flat_table tree) 0 (length tree.nodes)

-- a span lies within the first `count` places
pub record IsWithin (count : ℕ) (span : Span) : Type 0 where
  pub ordered : span.from ≤ span.to
  pub within : span.to ≤ count

-- the spans of an attribute lie within the text
pub record IsAttributeOf (bytes : List ℕ) (a : Attribute) : Type 0 where
  pub name : IsWithin (length bytes) a.name
  pub value : IsWithin (length bytes) a.value

-- the spans of an element lie within the text and within the attributes
pub record IsNodeOf (t : FlatTable) (n : Node) : Type 0 where
  pub name : IsWithin (length t.bytes) n.name
  pub value : IsWithin (length t.bytes) n.value
  pub attributes : IsWithin (length t.attributes) n.attributes

-- the bounds that a table of elements keeps: the first element is the whole, each ends after its
-- own row, and what begins inside an element ends inside it
pub record IsFlatTable (t : FlatTable) : Type 0 where
  pub short : length t.bytes < 2 ^ 32
  pub some : 0 < length t.nodes
  pub whole : (node_at t 0).end ≡ length t.nodes
  pub later : (i : ℕ) → i < length t.nodes → i < (node_at t i).end
  pub nested : (i j : ℕ) → i < j → j < (node_at t i).end → (node_at t j).end ≤ (node_at t i).end
  pub nodes : All (IsNodeOf t) t.nodes
  pub attributes : All (IsAttributeOf t.bytes) t.attributes

-- the bounds that the table of a tree keeps
abbrev pub IsTable : Tree → Type 0
IsTable tree = IsFlatTable (flat_table tree)

-- the rows from `a` up to `b` are those of a forest: the first says what its first element says,
-- the rows up to its end are those of its children, and the rows after it those of its siblings
abbrev pub Stands : FlatTable → ℕ → Forest → ℕ → Type 0
Stands t a empty b = a ≡ b
Stands t a (node info kids others) b =
    (info_at t a ≡ info) × Stands t (a + 1) kids (node_at t a).end × Stands t (node_at t a).end others b
