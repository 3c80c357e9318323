-- The grammar: a document is UTF-8 with an optional byte order mark and declaration, then white and comments, one
-- element, white and comments. A constructor for each row says how it is spelled. A document stands for a table of
-- its elements and for a forest.
use Rattle.std.specs.Prelude.{ℕ, suc, ◌≡◌, ◌+◌, ◌<◌, Bool, true, false, ◌||◌, if◌then◌else◌, List, [], ◌∷◌, ◌++◌}
use Rattle.std.specs.Prelude.{length, Option, Some, None}
use Rattle.std.specs.Str.{IsUtf8, bytes_eq}
use Rattle.khe_base.specs.declared.limits.TheConstants.{DEPTH}
use Rattle.xhstt_text.specs.Units.{Piece, piece_text, IsPiece}
use Rattle.xhstt_text.specs.Bytes.{IsDeclared, declaration_start, is_white, is_text, is_quoted, is_quote, IsWhite}
use Rattle.xhstt_text.specs.Bytes.{IsGap, IsName, IsComment}
use Rattle.xhstt_text.specs.declared.tree.Span.{Span}
use Rattle.xhstt_text.specs.declared.tree.Node.{Node}
use Rattle.xhstt_text.specs.declared.tree.Attribute.{Attribute}
use Rattle.xhstt_text.specs.Forest.{AttributeInfo, Forest, empty as no_elements, node}

-- the value of an attribute: nothing more, or a byte or a piece, and then what follows
pub data Value : Type 0 where
  done : Value
  plain : ℕ → Value → Value
  piece_of : Piece → Value → Value

-- how a value is spelled
abbrev pub value_text : Value → List ℕ
value_text done = []
value_text (plain b v) = b ∷ value_text v
value_text (piece_of u v) = piece_text u ++ value_text v

-- the value may stand between two such quotes
abbrev pub IsValue : ℕ → Value → Type 0
IsValue quote done = Unit {0}
IsValue quote (plain b v) = (is_quoted quote b ≡ true) × IsValue quote v
IsValue quote (piece_of u v) = IsPiece u × IsValue quote v

-- the attributes of a start tag: the white before the first, its name, the white before and after
-- its `=`, its quote, its value, and the later attributes
pub data Attributes : Type 0 where
  none : Attributes
  attribute : List ℕ → List ℕ → List ℕ → List ℕ → ℕ → Value → Attributes → Attributes

-- a start tag up to its `>` or `/>`: its name, its attributes, and the white after them
pub record Start : Type 0 where
  pub name : List ℕ
  pub attributes : Attributes
  pub white : List ℕ

-- what stands between two tags: nothing more, or a byte, a piece, a comment, an element without content, or
-- an element with its content, the name in its end tag and the white after that name; and then what
-- follows
pub data Content : Type 0 where
  nothing : Content
  byte : ℕ → Content → Content
  piece : Piece → Content → Content
  comment : List ℕ → Content → Content
  short : Start → Content → Content
  long : Start → Content → List ℕ → List ℕ → Content → Content

-- the outermost element, and the white and the comments around it
pub record Body : Type 0 where
  pub before : Content
  pub root : Content
  pub after : Content

-- whether a text begins with a byte order mark
pub data Mark : Type 0 where
  unmarked : Mark
  marked : Mark

-- the declaration: none, or the white after `<?xml` and what stands between it and the last `>`
pub data Declaration : Type 0 where
  undeclared : Declaration
  declared : ℕ → List ℕ → Declaration

-- a whole text
pub record Document : Type 0 where
  pub mark : Mark
  pub declaration : Declaration
  pub body : Body

-- how attributes are spelled
abbrev pub attributes_text : Attributes → List ℕ
attributes_text none = []
attributes_text (attribute gap name before after quote value more) =
    gap ++ (name ++ (before ++ (61 ∷ (after ++ (quote ∷ (value_text value ++ (quote ∷ attributes_text more)))))))

-- how a start tag is spelled, up to its `>` or `/>`
abbrev pub start_text : Start → List ℕ
start_text s = 60 ∷ (s.name ++ (attributes_text s.attributes ++ s.white))

-- how content is spelled
abbrev pub text : Content → List ℕ
text nothing = []
text (byte b c) = b ∷ text c
text (piece u c) = piece_text u ++ text c
text (comment inner c) = 60 ∷ 33 ∷ 45 ∷ 45 ∷ (inner ++ (62 ∷ text c))
text (short s c) = start_text s ++ (47 ∷ 62 ∷ text c)
text (long s inner shut white c) =
    start_text s ++ (62 ∷ (text inner ++ (60 ∷ 47 ∷ (shut ++ (white ++ (62 ∷ text c))))))

-- how the outermost element and what stands around it are spelled
abbrev pub body_text : Body → List ℕ
body_text b = text b.before ++ (text b.root ++ text b.after)

-- how a byte order mark is spelled
abbrev pub mark_text : Mark → List ℕ
mark_text unmarked = []
mark_text marked = 239 ∷ 187 ∷ 191 ∷ []

-- how a declaration is spelled
abbrev pub declaration_text : Declaration → List ℕ
declaration_text undeclared = []
declaration_text (declared white inner) = declaration_start ++ (white ∷ (inner ++ 62 ∷ []))

-- how a document is spelled
abbrev pub spelling : Document → List ℕ
spelling d = mark_text d.mark ++ (declaration_text d.declaration ++ body_text d.body)

-- whether a name is one of these
abbrev pub has_name : List ℕ → List (List ℕ) → Bool
has_name name [] = false
has_name name (other ∷ others) = bytes_eq name other || has_name name others

-- the attributes are allowed after attributes with these names: each is in form, and no two names
-- are equal
abbrev pub AreAttributes : List (List ℕ) → Attributes → Type 0
AreAttributes earlier none = Unit {0}
AreAttributes earlier (attribute gap name before after quote value more) =
    IsGap gap × IsName name × (has_name name earlier ≡ false) × IsWhite before × IsWhite after × (is_quote quote ≡ true)
    × IsValue quote value × AreAttributes (name ∷ earlier) more

-- the start tag is in form
abbrev pub IsStart : Start → Type 0
IsStart s = IsName s.name × AreAttributes [] s.attributes × IsWhite s.white

-- the content is in form inside this many open elements
abbrev pub IsContent : ℕ → Content → Type 0
IsContent depth nothing = Unit {0}
IsContent depth (byte b c) = (is_text b ≡ true) × IsContent depth c
IsContent depth (piece u c) = IsPiece u × IsContent depth c
IsContent depth (comment inner c) = IsComment inner × IsContent depth c
IsContent depth (short s c) = (depth < DEPTH) × IsStart s × IsContent depth c
IsContent depth (long s inner shut white c) =
    (depth < DEPTH) × IsStart s × IsContent (suc depth) inner × (shut ≡ s.name) × IsWhite white × IsContent depth c

-- the content is a single element
abbrev pub IsElement : Content → Type 0
IsElement (short s nothing) = Unit {0}
IsElement (long s inner shut white nothing) = Unit {0}
IsElement _ = ⊥

-- the content is white and comments
abbrev pub IsSpace : Content → Type 0
IsSpace nothing = Unit {0}
IsSpace (byte b c) = (is_white b ≡ true) × IsSpace c
IsSpace (comment inner c) = IsComment inner × IsSpace c
IsSpace _ = ⊥

-- one element, with white and comments around it
abbrev pub IsBody : Body → Type 0
IsBody b = IsSpace b.before × IsElement b.root × IsContent 0 b.root × IsSpace b.after

-- the declaration is in form
abbrev pub IsDeclaration : Declaration → Type 0
IsDeclaration undeclared = Unit {0}
IsDeclaration (declared white inner) = (is_white white ≡ true) × IsDeclared inner

-- the document is in form
abbrev pub IsDocument : Document → Type 0
IsDocument d = IsDeclaration d.declaration × IsBody d.body

-- a range of places
abbrev pub span : ℕ → ℕ → Span
span from to = record { from = from; to = to }

-- how many bytes a start tag has before its `>` or `/>`
abbrev pub start_length : Start → ℕ
start_length s = length (start_text s)

-- how many attributes
abbrev pub count : Attributes → ℕ
count none = 0
count (attribute gap name before after quote value more) = suc (count more)

-- the rows of the attributes that begin at a place
abbrev pub attributes_of : ℕ → Attributes → List Attribute
attributes_of at none = []
attributes_of at (attribute gap name before after quote value more) =
    let from = at + length gap in
    let opened = from + length name + length before + 1 + length after + 1 in
    record { name = span from (from + length name); value = span opened (opened + length (value_text value)) }
    ∷ attributes_of (opened + length (value_text value) + 1) more

-- the rows of all attributes in content that begins at a place
abbrev pub attribute_rows : ℕ → Content → List Attribute
attribute_rows at nothing = []
attribute_rows at (byte b c) = attribute_rows (at + 1) c
attribute_rows at (piece u c) = attribute_rows (at + length (piece_text u)) c
attribute_rows at (comment inner c) = attribute_rows (at + 4 + length inner + 1) c
attribute_rows at (short s c) =
    attributes_of (at + 1 + length s.name) s.attributes ++ attribute_rows (at + start_length s + 2) c
attribute_rows at (long s inner shut white c) =
    let from = at + start_length s + 1 in
    attributes_of (at + 1 + length s.name) s.attributes
    ++ (attribute_rows from inner ++ attribute_rows
    (from + length (text inner) + 2 + length shut + length white + 1) c)

-- the place of the first byte of the direct text that is not white
abbrev pub loose_in : ℕ → Content → Option ℕ
loose_in at nothing = None
loose_in at (byte b c) = if is_white b then loose_in (at + 1) c else Some at
loose_in at (piece u c) = Some at
loose_in at (comment inner c) = loose_in (at + 4 + length inner + 1) c
loose_in at (short s c) = loose_in (at + start_length s + 2) c
loose_in at (long s inner shut white c) =
    loose_in (at + start_length s + 1 + length (text inner) + 2 + length shut + length white + 1) c

-- the row of an element: its place, its start tag, the number of its first attribute, the number
-- after its last descendant, the range of its content, and its loose text
abbrev pub row : ℕ → Start → ℕ → ℕ → Span → Option ℕ → Node
row at s first last value loose = record {
  at = at;
  name = span (at + 1) (at + 1 + length s.name);
  end = last;
  attributes = span first (first + count s.attributes);
  value = value;
  loose = loose;
}

-- the rows of all elements in content: the number of the next element, the number of the next
-- attribute, and the place where the content begins
abbrev pub rows : ℕ → ℕ → ℕ → Content → List Node
rows number first at nothing = []
rows number first at (byte b c) = rows number first (at + 1) c
rows number first at (piece u c) = rows number first (at + length (piece_text u)) c
rows number first at (comment inner c) = rows number first (at + 4 + length inner + 1) c
rows number first at (short s c) =
    let after = at + start_length s + 2 in
    row at s first (number + 1) (span after after) None ∷ rows (number + 1) (first + count s.attributes) after c
rows number first at (long s inner shut white c) =
    let from = at + start_length s + 1 in
    let to = from + length (text inner) in
    let inside = rows (number + 1) (first + count s.attributes) from inner in
    let last = number + 1 + length inside in
    row at s first last (span from to) (loose_in from inner) ∷ (inside
    ++ rows last (first + count s.attributes + length (attribute_rows from inner))
    (to + 2 + length shut + length white + 1) c)

-- the rows of the elements and of the attributes of a text
pub record Rows : Type 0 where
  pub nodes : List Node
  pub attributes : List Attribute

-- the place of the outermost element
abbrev pub root_at : Document → ℕ
root_at d = length (mark_text d.mark) + length (declaration_text d.declaration) + length (text d.body.before)

-- what a document says
abbrev pub table : Document → Rows
table d = record {
  nodes = rows 0 0 (root_at d) d.body.root;
  attributes = attribute_rows (root_at d) d.body.root;
}

-- the bytes are UTF-8 and spell the document
abbrev pub IsSpellingOf : List ℕ → Document → Type 0
IsSpellingOf bytes d = IsUtf8 bytes × IsDocument d × (bytes ≡ spelling d)

-- the bytes spell a document with these rows
abbrev pub Spells : List ℕ → Rows → Type 0
Spells bytes found = (d : Document) × IsSpellingOf bytes d × (found ≡ table d)

-- what a start tag that begins at a place says of its attributes
abbrev pub infos : ℕ → Attributes → List AttributeInfo
infos at none = []
infos at (attribute gap name before after quote value more) =
    let from = at + length gap in
    let opened = from + length name + length before + 1 + length after + 1 in
    record { at = from; name = name; value_at = opened; value = value_text value } ∷ infos
    (opened + length (value_text value) + 1) more

-- whether the content has an element
abbrev pub has_element : Content → Bool
has_element nothing = false
has_element (byte b c) = has_element c
has_element (piece u c) = has_element c
has_element (comment inner c) = has_element c
has_element (short s c) = true
has_element (long s inner shut white c) = true

-- the elements of content that begins at a place
abbrev pub forest_at : ℕ → Content → Forest
forest_at at nothing = no_elements
forest_at at (byte b c) = forest_at (at + 1) c
forest_at at (piece u c) = forest_at (at + length (piece_text u)) c
forest_at at (comment inner c) = forest_at (at + 4 + length inner + 1) c
forest_at at (short s c) =
    let after = at + start_length s + 2 in
    node (record {
      at = at;
      name = s.name;
      attributes = infos (at + 1 + length s.name) s.attributes;
      value_at = after;
      value = [];
      loose = None;
    }) no_elements (forest_at after c)
forest_at at (long s inner shut white c) =
    let from = at + start_length s + 1 in
    let value = if has_element inner then [] else text inner in
    node (record {
      at = at;
      name = s.name;
      attributes = infos (at + 1 + length s.name) s.attributes;
      value_at = from;
      value = value;
      loose = loose_in from inner;
    }) (forest_at from inner)
    (forest_at (from + length (text inner) + 2 + length shut + length white + 1) c)

-- the tree of a document
abbrev pub forest_of : Document → Forest
forest_of d = forest_at (root_at d) d.body.root

-- the bytes spell a document with this tree
abbrev pub Spelled : List ℕ → Forest → Type 0
Spelled bytes forest = (d : Document) × IsSpellingOf bytes d × (forest ≡ forest_of d)
