-- The table of a document keeps the bounds of a table, and stands for the document's forest.
use Rattle.std.proofs.Common.{◌≡◌, ℕ, suc, ◌+◌, ◌<◌, ◌^◌, cond, List, [], ◌∷◌, ◌++◌, length, map, Option, None}
use Rattle.std.proofs.Common.{All, ap, subst, ◌∙◌, sym, refl, arith, length-append, zero-add}
use Rattle.std.specs.Prelude.{nat_lt}
use Rattle.std.proofs.lemmas.Bool.{lt-ltb, le-ltb}
use Rattle.std.proofs.lemmas.List.Elements.{All-nil, All-cons, All-append}
use Rattle.xhstt_text.specs.declared.tree.Attribute.{Attribute}
use Rattle.xhstt_text.specs.declared.tree.Node.{Node}
use Rattle.xhstt_text.specs.declared.tree.Span.{Span}
use Rattle.xhstt_text.specs.Forest.{Info, Forest, empty, node}
use Rattle.xhstt_text.specs.FlatTable.{FlatTable, IsFlatTable, IsWithin, IsNodeOf, IsAttributeOf, piece, attribute_info}
use Rattle.xhstt_text.specs.FlatTable.{info_of, node_at, no_node, forest, Stands}
use Rattle.xhstt_text.specs.Units.{Piece, piece_text}
use Rattle.xhstt_text.specs.Document.{Value, value_text, Attributes, none, attribute, Start, Content, nothing, byte}
use Rattle.xhstt_text.specs.Document.{piece as unit, comment, short, long, Document, attributes_text, start_text, text}
use Rattle.xhstt_text.specs.Document.{mark_text, declaration_text, spelling, root_at, IsElement, IsDocument, span}
use Rattle.xhstt_text.specs.Document.{start_length, count, attributes_of, attribute_rows, loose_in, row, rows, table}
use Rattle.xhstt_text.specs.Document.{infos, has_element, forest_at, forest_of}
use Rattle.xhstt_text.proofs.Bounds.{IsFlatTable-stands}
use Rattle.xhstt_text.proofs.ForestOfTable.{forest-stands}
use Rattle.xhstt_text.proofs.Parts.{Holds, Holds-first, Holds-rest, Holds-next, Holds-within, Holds-range, Holds-get}
use Rattle.xhstt_text.proofs.Parts.{Holds-whole}

-- a span of what stands in a list lies within it
held-span : {X : Type 0} (xs : List X) (at : ℕ) (ys : List X) (to : ℕ) → to ≡ at + length ys → Holds xs at ys
    → IsWithin (length xs) (span at to)
held-span xs at ys to e h =
    record { ordered = omega arith; within = omega (arith, Holds-within xs at ys h) }

-- where the parts of an attribute stand
record AttributeAt (bytes : List ℕ) (at : ℕ) (gap name before after : List ℕ) (value : List ℕ)
    (more : Attributes) : Type 0 where
  name_at : Holds bytes (at + length gap) name
  value_at : Holds bytes (at + length gap + length name + length before + 1 + length after + 1) value
  more_at : Holds bytes (at + length gap + length name + length before + 1 + length after + 1 + length value + 1)
      (attributes_text more)

attribute-at : (bytes : List ℕ) (at : ℕ) (gap name before after : List ℕ) (quote : ℕ) (given : Value)
    (more : Attributes)
    → Holds bytes at (attributes_text (attribute gap name before after quote given more))
    → AttributeAt bytes at gap name before after (value_text given) more
attribute-at bytes at gap name before after quote given more h =
    let value : List ℕ = value_text given in
    let named = Holds-rest bytes at gap (name ++ (before
    ++ (61 ∷ (after ++ (quote ∷ (value ++ (quote ∷ attributes_text more))))))) (at + length gap) refl h in
    let spaced = Holds-rest bytes (at + length gap) name
    (before ++ (61 ∷ (after ++ (quote ∷ (value ++ (quote ∷ attributes_text more))))))
    (at + length gap + length name) refl named in
    let equals = Holds-rest bytes (at + length gap + length name) before
    (61 ∷ (after ++ (quote ∷ (value ++ (quote ∷ attributes_text more)))))
    (at + length gap + length name + length before) refl spaced in
    let past = Holds-next bytes (at + length gap + length name + length before) 61
    (after ++ (quote ∷ (value ++ (quote ∷ attributes_text more)))) equals in
    let quoted = Holds-rest bytes (at + length gap + length name + length before + 1) after
    (quote ∷ (value ++ (quote ∷ attributes_text more)))
    (at + length gap + length name + length before + 1 + length after) refl past in
    let opened = Holds-next bytes (at + length gap + length name + length before + 1 + length after) quote
    (value ++ (quote ∷ attributes_text more)) quoted in
    let closing = Holds-rest bytes (at + length gap + length name + length before + 1 + length after + 1) value
    (quote ∷ attributes_text more) (at + length gap + length name + length before + 1 + length after + 1 + length
    value) refl opened in
    record {
      name_at = Holds-first bytes (at + length gap) name
          (before ++ (61 ∷ (after ++ (quote ∷ (value ++ (quote ∷ attributes_text more)))))) named;
      value_at = Holds-first bytes (at + length gap + length name + length before + 1 + length after + 1) value
          (quote ∷ attributes_text more) opened;
      more_at = Holds-next bytes (at + length gap + length name + length before + 1 + length after + 1 + length value)
          quote (attributes_text more) closing;
    }

-- the rows of attributes say what the attributes say
attributes-infos : (a : Attributes) (bytes : List ℕ) (at : ℕ) → Holds bytes at (attributes_text a)
    → map (attribute_info bytes) (attributes_of at a) ≡ infos at a
attributes-infos none bytes at h = refl
attributes-infos (attribute gap name before after quote given more) bytes at h =
    let value : List ℕ = value_text given in
    let p = attribute-at bytes at gap name before after quote given more h in
    let opened : ℕ = at + length gap + length name + length before + 1 + length after + 1 in
    let name_is = Holds-range bytes (at + length gap) name (at + length gap + length name) refl p.name_at in
    let value_is = Holds-range bytes opened value (opened + length value) refl p.value_at in
    let others = attributes-infos more bytes (opened + length value + 1) p.more_at in
    rw (name_is, value_is, others) refl

-- their spans lie within the text
attributes-within : (a : Attributes) (bytes : List ℕ) (at : ℕ) → Holds bytes at (attributes_text a)
    → All (IsAttributeOf bytes) (attributes_of at a)
attributes-within none bytes at h = All-nil (IsAttributeOf bytes)
attributes-within (attribute gap name before after quote given more) bytes at h =
    let value : List ℕ = value_text given in
    let p = attribute-at bytes at gap name before after quote given more h in
    let opened : ℕ = at + length gap + length name + length before + 1 + length after + 1 in
    All-cons (IsAttributeOf bytes) _ _
    (record {
      name = held-span bytes (at + length gap) name (at + length gap + length name) refl p.name_at;
      value =
          held-span bytes opened value (opened + length value) refl p.value_at;
    })
    (attributes-within more bytes (opened + length value + 1) p.more_at)

count-attributes : (a : Attributes) (at : ℕ) → length (attributes_of at a) ≡ count a
count-attributes none at = refl
count-attributes (attribute gap name before after quote value more) at = ap suc (count-attributes more _)

-- content stands in a table: its text from a place on, its rows from a number on, and the rows of
-- its attributes from a number on
pub record StandsAt (t : FlatTable) (number first at : ℕ) (c : Content) : Type 0 where
  pub text_at : Holds t.bytes at (text c)
  pub nodes_at : Holds t.nodes number (rows number first at c)
  pub attributes_at : Holds t.attributes first (attribute_rows at c)

-- where the parts of a start tag stand
start-name : (bytes : List ℕ) (at : ℕ) (s : Start) → Holds bytes at (start_text s) → Holds bytes (at + 1) s.name
start-name bytes at s h =
    Holds-first bytes (at + 1) s.name (attributes_text s.attributes ++ s.white)
    (Holds-next bytes at 60 (s.name ++ (attributes_text s.attributes ++ s.white)) h)

start-attributes : (bytes : List ℕ) (at : ℕ) (s : Start) → Holds bytes at (start_text s)
    → Holds bytes (at + 1 + length s.name) (attributes_text s.attributes)
start-attributes bytes at s h =
    let named = Holds-next bytes at 60 (s.name ++ (attributes_text s.attributes ++ s.white)) h in
    Holds-first bytes (at + 1 + length s.name) (attributes_text s.attributes) s.white
    (Holds-rest bytes (at + 1) s.name (attributes_text s.attributes ++ s.white) (at + 1 + length s.name) refl named)

-- the element of a row whose parts stand in a table says what its start tag says
start-info : (t : FlatTable) (number first at : ℕ) (s : Start) (last : ℕ) (value : Span)
    (loose : Option ℕ) (shown : List ℕ)
    → Holds t.bytes at (start_text s) → Holds t.attributes first (attributes_of (at + 1 + length s.name) s.attributes)
    → cond (nat_lt (number + 1) last) [] (piece t.bytes value) ≡ shown
    → info_of t number (row at s first last value loose)
    ≡ record {
      at = at;
      name = s.name;
      attributes = infos (at + 1 + length s.name) s.attributes;
      value_at =
          value.from;
      value = shown;
      loose = loose;
    }
start-info t number first at s last value loose shown h a v =
    let name_is = Holds-range t.bytes (at + 1) s.name (at + 1 + length s.name) refl (start-name t.bytes at s h) in
    let given_is = Holds-range t.attributes first (attributes_of (at + 1 + length s.name) s.attributes)
    (first + count s.attributes) (ap (λ n. first + n)
    (sym (count-attributes s.attributes (at + 1 + length s.name)))) a in
    let infos_are = attributes-infos s.attributes t.bytes (at + 1 + length s.name) (start-attributes t.bytes at s h) in
    rw (name_is, given_is, infos_are, v) refl

-- the spans of such a row lie within the text and the attributes
start-within : (t : FlatTable) (first at : ℕ) (s : Start) (last : ℕ) (value : Span)
    (loose : Option ℕ)
    → Holds t.bytes at (start_text s) → Holds t.attributes first (attributes_of (at + 1 + length s.name) s.attributes)
    → IsWithin (length t.bytes) value → IsNodeOf t (row at s first last value loose)
start-within t first at s last value loose h a v = record {
  name = held-span t.bytes (at + 1) s.name (at + 1 + length s.name) refl (start-name t.bytes at s h);
  value = v;
  attributes = held-span t.attributes first (attributes_of (at + 1 + length s.name) s.attributes)
      (first + count s.attributes) (ap (λ n. first + n) (sym (count-attributes s.attributes (at + 1 + length s.name))))
      a;
}

-- content after a byte
after-byte : (t : FlatTable) (number first at b : ℕ) (c : Content)
    → StandsAt t number first at (byte b c) → StandsAt t number first (at + 1) c
after-byte t number first at b c h =
    record {
      text_at = Holds-next t.bytes at b (text c) h.text_at;
      nodes_at = h.nodes_at;
      attributes_at =
          h.attributes_at;
    }

-- content after a piece
after-piece : (t : FlatTable) (number first at : ℕ) (u : Piece) (c : Content)
    → StandsAt t number first at (unit u c) → StandsAt t number first (at + length (piece_text u)) c
after-piece t number first at u c h =
    record {
      text_at = Holds-rest t.bytes at (piece_text u) (text c) (at + length (piece_text u)) refl h.text_at;
      nodes_at = h.nodes_at;
      attributes_at = h.attributes_at;
    }

-- content after a comment
after-comment : (t : FlatTable) (number first at : ℕ) (inner : List ℕ) (c : Content)
    → StandsAt t number first at (comment inner c) → StandsAt t number first (at + 4 + length inner + 1) c
after-comment t number first at inner c h =
    let opened = Holds-rest t.bytes at (60 ∷ 33 ∷ 45 ∷ 45 ∷ []) (inner ++ (62 ∷ text c)) (at + 4) refl h.text_at in
    let closing = Holds-rest t.bytes (at + 4) inner (62 ∷ text c) (at + 4 + length inner) refl opened in
    record {
      text_at = Holds-next t.bytes (at + 4 + length inner) 62 (text c) closing;
      nodes_at = h.nodes_at;
      attributes_at = h.attributes_at;
    }

-- an element without content: its start tag, and what follows it
record ShortAt (t : FlatTable) (number first at : ℕ) (s : Start) (c : Content) : Type 0 where
  start_at : Holds t.bytes at (start_text s)
  given_at : Holds t.attributes first (attributes_of (at + 1 + length s.name) s.attributes)
  others : StandsAt t (number + 1) (first + count s.attributes) (at + start_length s + 2) c

short-at : (t : FlatTable) (number first at : ℕ) (s : Start) (c : Content)
    → StandsAt t number first at (short s c) → ShortAt t number first at s c
short-at t number first at s c h =
    let after : ℕ = at + start_length s + 2 in
    let shut = Holds-rest t.bytes at (start_text s) (47 ∷ 62 ∷ text c) (at + start_length s) refl h.text_at in
    let given : List Attribute = attributes_of (at + 1 + length s.name) s.attributes in
    record {
      start_at = Holds-first t.bytes at (start_text s) (47 ∷ 62 ∷ text c) h.text_at;
      given_at = Holds-first t.attributes first given (attribute_rows after c) h.attributes_at;
      others = record {
        text_at = Holds-rest t.bytes (at + start_length s) (47 ∷ 62 ∷ []) (text c) after refl shut;
        nodes_at = Holds-next t.nodes number (row at s first (number + 1) (span after after) None)
            (rows (number + 1) (first + count s.attributes) after c) h.nodes_at;
        attributes_at = Holds-rest t.attributes first given (attribute_rows after c) (first + count s.attributes)
            (ap (λ n. first + n) (sym (count-attributes s.attributes (at + 1 + length s.name)))) h.attributes_at;
      };
    }

-- an element with content: its start tag, its content, and what follows it
record LongAt (t : FlatTable) (number first at : ℕ) (s : Start) (inner : Content)
    (shut white : List ℕ) (c : Content) : Type 0 where
  start_at : Holds t.bytes at (start_text s)
  given_at : Holds t.attributes first (attributes_of (at + 1 + length s.name) s.attributes)
  kids : StandsAt t (number + 1) (first + count s.attributes) (at + start_length s + 1) inner
  others : StandsAt t (number + 1 + length
      (rows (number + 1) (first + count s.attributes) (at + start_length s + 1) inner))
      (first + count s.attributes + length (attribute_rows (at + start_length s + 1) inner))
      (at + start_length s + 1 + length (text inner) + 2 + length shut + length white + 1) c

long-at : (t : FlatTable) (number first at : ℕ) (s : Start) (inner : Content) (shut white : List ℕ)
    (c : Content) → StandsAt t number first at (long s inner shut white c)
    → LongAt t number first at s inner shut white c
long-at t number first at s inner shut white c h =
    let from : ℕ = at + start_length s + 1 in
    let to : ℕ = from + length (text inner) in
    let next : ℕ = to + 2 + length shut + length white + 1 in
    let given : List Attribute = attributes_of (at + 1 + length s.name) s.attributes in
    let within : ℕ = first + count s.attributes in
    let inside : List Node = rows (number + 1) within from inner in
    let last : ℕ = number + 1 + length inside in
    let after : ℕ = within + length (attribute_rows from inner) in
    let ending : List ℕ = 60 ∷ 47 ∷ (shut ++ (white ++ (62 ∷ text c))) in
    let closed = Holds-rest t.bytes at (start_text s) (62 ∷ (text inner ++ ending)) (at + start_length s) refl
    h.text_at in
    let content = Holds-next t.bytes (at + start_length s) 62 (text inner ++ ending) closed in
    let end_tag = Holds-rest t.bytes from (text inner) ending to refl content in
    let end_name = Holds-rest t.bytes to (60 ∷ 47 ∷ []) (shut ++ (white ++ (62 ∷ text c))) (to + 2) refl end_tag in
    let end_white = Holds-rest t.bytes (to + 2) shut (white ++ (62 ∷ text c)) (to + 2 + length shut) refl end_name in
    let end_last = Holds-rest t.bytes (to + 2 + length shut) white (62 ∷ text c) (to + 2 + length shut + length white)
    refl end_white in
    let below = Holds-next t.nodes number (row at s first last (span from to) (loose_in from inner))
    (inside ++ rows last after next c) h.nodes_at in
    let given_next = Holds-rest t.attributes first given (attribute_rows from inner ++ attribute_rows next c) within
    (ap (λ n. first + n) (sym (count-attributes s.attributes (at + 1 + length s.name)))) h.attributes_at in
    record {
      start_at = Holds-first t.bytes at (start_text s) (62 ∷ (text inner ++ ending)) h.text_at;
      given_at = Holds-first t.attributes first given (attribute_rows from inner ++ attribute_rows next c)
          h.attributes_at;
      kids = record {
        text_at = Holds-first t.bytes from (text inner) ending content;
        nodes_at = Holds-first t.nodes (number + 1) inside (rows last after next c) below;
        attributes_at = Holds-first t.attributes within (attribute_rows from inner) (attribute_rows next c) given_next;
      };
      others = record {
        text_at = Holds-next t.bytes (to + 2 + length shut + length white) 62 (text c) end_last;
        nodes_at = Holds-rest t.nodes (number + 1) inside (rows last after next c) last refl below;
        attributes_at = Holds-rest t.attributes within (attribute_rows from inner) (attribute_rows next c) after refl
            given_next;
      };
    }

-- content has rows where it has an element
filled : (k : ℕ) (number first at : ℕ) (c : Content)
    → nat_lt k (k + length (rows number first at c)) ≡ has_element c
filled k number first at nothing = le-ltb k (k + 0) (omega arith)
filled k number first at (byte b c) = filled k number first (at + 1) c
filled k number first at (unit u c) = filled k number first (at + length (piece_text u)) c
filled k number first at (comment inner c) = filled k number first (at + 4 + length inner + 1) c
filled k number first at (short s c) = lt-ltb k _ (omega arith)
filled k number first at (long s inner shut white c) = lt-ltb k _ (omega arith)

-- rows that begin with a known row stand for an element
Stands-node : (t : FlatTable) (a : ℕ) (n : Node) (info : Info) (kids others : Forest) (b : ℕ)
    → node_at t a ≡ n → info_of t a n ≡ info → Stands t (a + 1) kids n.end → Stands t n.end others b
    → Stands t a (node info kids others) b
Stands-node t a n info kids others b e i k o = (
  ap (info_of t a) e ∙ i,
  subst (λ m. Stands t (a + 1) kids m.end) (sym e) k,
  subst (λ m. Stands t m.end others b)
      (sym e) o,
)

-- the rows of content stand for its elements
pub content-stands : (c : Content) (t : FlatTable) (number first at : ℕ)
    → StandsAt t number first at c
    → Stands t number (forest_at at c) (number + length (rows number first at c))
content-stands nothing t number first at h = omega arith
content-stands (byte b c) t number first at h =
    content-stands c t number first (at + 1) (after-byte t number first at b c h)
content-stands (unit u c) t number first at h =
    content-stands c t number first (at + length (piece_text u)) (after-piece t number first at u c h)
content-stands (comment inner c) t number first at h =
    content-stands c t number first (at + 4 + length inner + 1)
    (after-comment t number first at inner c h)
content-stands (short s c) t number first at h =
    let p = short-at t number first at s c h in
    let after : ℕ = at + start_length s + 2 in
    let n : Node = row at s first (number + 1) (span after after) None in
    let later : List Node = rows (number + 1) (first + count s.attributes) after c in
    let none_shown : cond (nat_lt (number + 1) (number + 1)) [] (piece t.bytes (span after after)) ≡ [] =
    rw (le-ltb (number + 1) (number + 1) (omega arith))
    (Holds-range t.bytes after [] after (omega arith) (Holds-first t.bytes after [] (text c) p.others.text_at)) in
    Stands-node t number n _ empty (forest_at after c) (number + length (n ∷ later))
    (Holds-get t.nodes number n later no_node h.nodes_at)
    (start-info t number first at s (number + 1) (span after after) None [] p.start_at p.given_at none_shown)
    refl
    (subst (λ b. Stands t (number + 1) (forest_at after c) b) (omega arith)
    (content-stands c t (number + 1) (first + count s.attributes) after p.others))
content-stands (long s inner shut white c) t number first at h =
    let p = long-at t number first at s inner shut white c h in
    let from : ℕ = at + start_length s + 1 in
    let to : ℕ = from + length (text inner) in
    let next : ℕ = to + 2 + length shut + length white + 1 in
    let within : ℕ = first + count s.attributes in
    let inside : List Node = rows (number + 1) within from inner in
    let last : ℕ = number + 1 + length inside in
    let after : ℕ = within + length (attribute_rows from inner) in
    let n : Node = row at s first last (span from to) (loose_in from inner) in
    let later : List Node = rows last after next c in
    let shown : cond (nat_lt (number + 1) last) [] (piece t.bytes (span from to))
    ≡ cond (has_element inner) [] (text inner) =
    rw (
      filled (number + 1) (number + 1) within from inner,
      Holds-range t.bytes from (text inner) to refl
          p.kids.text_at,
    ) refl in
    let total : last + length later ≡ number + length (n ∷ (inside ++ later)) =
    omega (arith, length-append inside later) in
    Stands-node t number n _ (forest_at from inner) (forest_at next c) (number + length (n ∷ (inside ++ later)))
    (Holds-get t.nodes number n (inside ++ later) no_node h.nodes_at)
    (start-info t number first at s last (span from to) (loose_in from inner)
    (cond (has_element inner) [] (text inner)) p.start_at p.given_at shown)
    (content-stands inner t (number + 1) within from p.kids)
    (subst (λ b. Stands t last (forest_at next c) b) total (content-stands c t last after next p.others))

-- the spans of content's rows lie within the text and the attributes
content-nodes : (c : Content) (t : FlatTable) (number first at : ℕ)
    → StandsAt t number first at c → All (IsNodeOf t) (rows number first at c)
content-nodes nothing t number first at h = All-nil (IsNodeOf t)
content-nodes (byte b c) t number first at h =
    content-nodes c t number first (at + 1) (after-byte t number first at b c h)
content-nodes (unit u c) t number first at h =
    content-nodes c t number first (at + length (piece_text u)) (after-piece t number first at u c h)
content-nodes (comment inner c) t number first at h =
    content-nodes c t number first (at + 4 + length inner + 1) (after-comment t number first at inner c h)
content-nodes (short s c) t number first at h =
    let p = short-at t number first at s c h in
    let after : ℕ = at + start_length s + 2 in
    let value : IsWithin (length t.bytes) (span after after) =
    held-span t.bytes after [] after (omega arith) (Holds-first t.bytes after [] (text c) p.others.text_at) in
    All-cons (IsNodeOf t) _ _ (start-within t first at s (number + 1) (span after after) None p.start_at
    p.given_at value) (content-nodes c t (number + 1) (first + count s.attributes) after p.others)
content-nodes (long s inner shut white c) t number first at h =
    let p = long-at t number first at s inner shut white c h in
    let from : ℕ = at + start_length s + 1 in
    let to : ℕ = from + length (text inner) in
    let value : IsWithin (length t.bytes) (span from to) = held-span t.bytes from (text inner) to refl p.kids.text_at in
    All-cons (IsNodeOf t) _ _ (start-within t first at s _ (span from to) (loose_in from inner) p.start_at
    p.given_at value)
    (All-append (IsNodeOf t) _ _ (content-nodes inner t (number + 1) (first + count s.attributes) from
    p.kids) (content-nodes c t _ _ _ p.others))

-- and those of its attributes' rows within the text
content-attributes : (c : Content) (t : FlatTable) (number first at : ℕ)
    → StandsAt t number first at c → All (IsAttributeOf t.bytes) (attribute_rows at c)
content-attributes nothing t number first at h = All-nil (IsAttributeOf t.bytes)
content-attributes (byte b c) t number first at h =
    content-attributes c t number first (at + 1) (after-byte t number first at b c h)
content-attributes (unit u c) t number first at h =
    content-attributes c t number first (at + length (piece_text u)) (after-piece t number first at u c h)
content-attributes (comment inner c) t number first at h =
    content-attributes c t number first (at + 4 + length inner + 1)
    (after-comment t number first at inner c h)
content-attributes (short s c) t number first at h =
    let p = short-at t number first at s c h in
    All-append (IsAttributeOf t.bytes) _ _ (attributes-within s.attributes t.bytes (at + 1 + length s.name)
    (start-attributes t.bytes at s p.start_at)) (content-attributes c t _ _ _ p.others)
content-attributes (long s inner shut white c) t number first at h =
    let p = long-at t number first at s inner shut white c h in
    All-append (IsAttributeOf t.bytes) _ _ (attributes-within s.attributes t.bytes (at + 1 + length s.name)
    (start-attributes t.bytes at s p.start_at))
    (All-append (IsAttributeOf t.bytes) _ _ (content-attributes inner t _ _ _ p.kids)
    (content-attributes c t _ _ _ p.others))

-- the rows of a single element stand for it, and keep the bounds of a table
element-table : (c : Content) (t : FlatTable) (at : ℕ) → IsElement c → StandsAt t 0 0 at c
    → t.nodes ≡ rows 0 0 at c → t.attributes ≡ attribute_rows at c → length t.bytes < 2 ^ 32
    → IsFlatTable t × (forest t 0 (length t.nodes) ≡ forest_at at c)
element-table nothing t at one h nodes attributes few = absurd one
element-table (byte b c) t at one h nodes attributes few = absurd one
element-table (unit u c) t at one h nodes attributes few = absurd one
element-table (comment inner c) t at one h nodes attributes few = absurd one
element-table (short s nothing) t at one h nodes attributes few =
    let c : Content = short s nothing in
    let stands : Stands t 0 (forest_at at c) (length t.nodes) =
    subst (λ b. Stands t 0 (forest_at at c) b) (zero-add (length (rows 0 0 at c)) ∙ ap length (sym nodes))
    (content-stands c t 0 0 at h) in (
      IsFlatTable-stands t _ empty stands few (subst (All (IsNodeOf t)) (sym nodes) (content-nodes c t 0 0 at h))
          (subst (All (IsAttributeOf t.bytes)) (sym attributes) (content-attributes c t 0 0 at h)),
      forest-stands t 0 (forest_at at c) (length t.nodes) stands,
    )
element-table (short s (byte b c)) t at one h nodes attributes few = absurd one
element-table (short s (unit u c)) t at one h nodes attributes few = absurd one
element-table (short s (comment inner c)) t at one h nodes attributes few = absurd one
element-table (short s (short r c)) t at one h nodes attributes few = absurd one
element-table (short s (long r inner shut white c)) t at one h nodes attributes few = absurd one
element-table (long s inner shut white nothing) t at one h nodes attributes few =
    let c : Content = long s inner shut white nothing in
    let stands : Stands t 0 (forest_at at c) (length t.nodes) =
    subst (λ b. Stands t 0 (forest_at at c) b) (zero-add (length (rows 0 0 at c)) ∙ ap length (sym nodes))
    (content-stands c t 0 0 at h) in (
      IsFlatTable-stands t _ (forest_at (at + start_length s + 1) inner) stands few
          (subst (All (IsNodeOf t)) (sym nodes) (content-nodes c t 0 0 at h))
          (subst (All (IsAttributeOf t.bytes)) (sym attributes) (content-attributes c t 0 0 at h)),
      forest-stands t 0 (forest_at at c) (length t.nodes) stands,
    )
element-table (long s inner shut white (byte b c)) t at one h nodes attributes few = absurd one
element-table (long s inner shut white (unit u c)) t at one h nodes attributes few = absurd one
element-table (long s inner shut white (comment note c)) t at one h nodes attributes few = absurd one
element-table (long s inner shut white (short r c)) t at one h nodes attributes few = absurd one
element-table (long s inner shut white (long r deeper end gap c)) t at one h nodes attributes few = absurd one

-- the rows of a document over its spelling are a table, and stand for the document's forest
pub document-table : (d : Document) (t : FlatTable) → IsDocument d → t.bytes ≡ spelling d → t.nodes ≡ (table d).nodes
    → t.attributes ≡ (table d).attributes → length t.bytes < 2 ^ 32
    → IsFlatTable t × (forest t 0 (length t.nodes) ≡ forest_of d)
document-table d t form bytes nodes attributes few =
    let mark : List ℕ = mark_text d.mark in
    let declaration : List ℕ = declaration_text d.declaration in
    let before : List ℕ = text d.body.before in
    let after : List ℕ = text d.body.after in
    let root : List ℕ = text d.body.root in
    let marked = Holds-rest t.bytes 0 mark (declaration ++ (before ++ (root ++ after))) (length mark)
    (sym (zero-add (length mark))) (Holds-whole t.bytes (spelling d) bytes) in
    let body = Holds-rest t.bytes (length mark) declaration (before ++ (root ++ after))
    (length mark + length declaration) refl marked in
    let rooted = Holds-rest t.bytes (length mark + length declaration) before (root ++ after) (root_at d) refl body in
    element-table d.body.root t (root_at d) form.1.1
    (record {
      text_at = Holds-first t.bytes (root_at d) root after rooted;
      nodes_at = Holds-whole t.nodes (rows 0 0 (root_at d) d.body.root) nodes;
      attributes_at = Holds-whole t.attributes (attribute_rows (root_at d) d.body.root) attributes;
    })
    nodes attributes few
