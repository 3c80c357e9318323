-- A machine that reads a text a byte at a time, up to the end or to the first fault. The grammar in
-- `Document` says what a text is, and the reader is shown to do as this machine, which says where bytes
-- that spell no text leave the grammar first.
use Rattle.std.specs.Prelude.{◌*◌, Bool, false, ℕ, ◌+◌, ◌==◌, ◌&&◌, nat_lt, nat_le, if◌then◌else◌, List, [], ◌∷◌, ◌++◌}
use Rattle.std.specs.Prelude.{length, set, Option, Some, None, Result, Ok, Err}
use Rattle.std.specs.Str.{bytes_eq}
use Rattle.khe_base.specs.declared.limits.TheConstants.{DEPTH}
use Rattle.xhstt_text.specs.Units.{is_decimal, is_hexadecimal, digit, is_character, is_last}
use Rattle.xhstt_text.specs.Bytes.{is_white, is_first, is_name, is_text, is_quoted, is_quote, dashes}
use Rattle.xhstt_text.specs.Document.{Rows, span, has_name}
use Rattle.xhstt_text.specs.declared.tree.Node.{Node}
use Rattle.xhstt_text.specs.declared.tree.Attribute.{Attribute}
use Rattle.xhstt_text.specs.declared.faults.TextFault.{TextFault}
use Rattle.xhstt_text.specs.Faults.{bad_markup, mismatched_end, bad_reference, unsupported, too_deep, no_tag}
use Rattle.xhstt_text.specs.Faults.{no_comment}

-- an open element: its number, its name, and its row as far as it is known
pub record Frame : Type 0 where
  pub number : ℕ
  pub name : List ℕ
  pub node : Node

-- what is known so far: the open elements, the innermost first, and the rows
pub record Read : Type 0 where
  pub frames : List Frame
  pub nodes : List Node
  pub attributes : List Attribute

-- a start tag that is being read: the place of its `<`, its name, the number of its first
-- attribute, and the names of its attributes so far, the last one first
pub record Tag : Type 0 where
  pub at : ℕ
  pub name : List ℕ
  pub first : ℕ
  pub names : List (List ℕ)

-- where a comment stands: before the end of the outermost element, or after it
pub data Region : Type 0 where
  early : Region
  late : Region

-- where a piece stands: in text, or in the value of the attribute at a place with a name, a quote, and
-- the place after it
pub data Within : Type 0 where
  in_text : Within
  in_quotes : Tag → ℕ → List ℕ → ℕ → ℕ → Within

-- where the machine is
pub data Phase : Type 0 where
  beginning : Phase  -- before all bytes
  mark_1 : Phase  -- after the first byte of a byte order mark
  mark_2 : Phase  -- after the second
  at_declaration : Phase  -- where a declaration may stand
  declared_open : ℕ → Phase  -- after the `<` at this place, where a declaration may stand
  question : List ℕ → Phase  -- in `<?xml`: the letters that must follow
  in_declaration : Bool → Phase  -- in a declaration: whether the last byte was a `?`
  content : Phase  -- between two tags, or before the outermost element
  ended : Phase  -- after the outermost element
  ended_open : ℕ → Phase  -- after the `<` at this place, which stands after the outermost element
  bang : ℕ → Region → Phase  -- after the `<!` at this place
  -- after the `<!` at the first place, in a word that begins at the second and is not supported: the letters
  -- that must follow
  other_word : ℕ → ℕ → List ℕ → Phase
  bang_dash : Region → Phase  -- after `<!-`
  in_comment : Region → ℕ → Phase  -- in a comment, after n dashes
  opened : ℕ → Phase  -- after the `<` at this place
  start_name : ℕ → List ℕ → Phase  -- in the name of a start tag
  valued : Tag → Phase  -- after a value, or after the tag's name
  in_tag : Tag → Phase  -- in a start tag, after white
  slash : Tag → Phase  -- after the `/` of a start tag
  attribute_name : Tag → ℕ → List ℕ → Phase  -- in the name of the attribute at this place
  named : Tag → ℕ → List ℕ → Phase  -- after that name and white
  equals : Tag → ℕ → List ℕ → Phase  -- after its `=`
  in_value : Tag → ℕ → List ℕ → ℕ → ℕ → Phase  -- in its value: the quote, and the place after it
  wide_1 : Within → Phase  -- after the first byte of a character from U+F000 on
  wide_2 : Bool → Within → Phase  -- after the second: whether it is the greatest
  reference : ℕ → Within → Phase  -- after the `&` at this place
  reference_a : ℕ → Within → Phase  -- after the `&a` at this place
  word : ℕ → List ℕ → Within → Phase  -- in the name of an entity, after the `&` at this place: what must follow
  hash : ℕ → Within → Phase  -- after the `&#` at this place
  hash_x : ℕ → Within → Phase  -- after the `&#x` at this place
  in_decimal : ℕ → ℕ → Within → Phase  -- in a decimal number, after the `&#` at this place: the number so far
  in_hexadecimal : ℕ → ℕ → Within → Phase  -- in a hexadecimal number, after the `&#x` at this place
  no_character : ℕ → Phase  -- after a reference that begins at this place and whose number gives no character
  shut_begin : ℕ → Phase  -- after the `</` at this place
  shut : ℕ → List ℕ → Phase  -- in the name of an end tag
  shut_gap : ℕ → List ℕ → Phase  -- after that name and white

pub record State : Type 0 where
  pub phase : Phase
  pub read : Read

abbrev pub Step : Type 0
Step = Result State TextFault

abbrev pub refused : TextFault → Step
refused fault = Err fault

abbrev pub state : Phase → Read → Step
state p r = Ok (record { phase = p; read = r })

-- the first place of loose text: `noted`, or else this byte's place where it is not white
abbrev pub first_loose : Option ℕ → ℕ → ℕ → Option ℕ
first_loose (Some place) at b = Some place
first_loose None at b = if is_white b then None else Some at

abbrev pub noted : Frame → ℕ → ℕ → Frame
noted f at b = record f { node = record f.node { loose = first_loose f.node.loose at b } }

-- where reading goes on after a tag
abbrev pub resume : List Frame → Phase
resume [] = ended
resume (f ∷ fs) = content

-- where reading goes on after a comment
abbrev pub phase_of : Region → Phase
phase_of early = content
phase_of late = ended

-- where reading goes on after a piece
abbrev pub after_piece : Within → Phase
after_piece in_text = content
after_piece (in_quotes t place name quote from) = in_value t place name quote from

-- the row of a start tag whose content begins at a place, and goes on from there
abbrev pub opened_row : Tag → Read → ℕ → Node
opened_row t r from = record {
  at = t.at;
  name = span (t.at + 1) (t.at + 1 + length t.name);
  end = length r.nodes + 1;
  attributes = span t.first (length r.attributes);
  value = span from from;
  loose = None;
}

abbrev pub add_node : Read → Node → Read
add_node r n = record r { nodes = r.nodes ++ n ∷ [] }

-- after `<name ..>`
abbrev pub open_element : Tag → Read → ℕ → Read
open_element t r from = record {
  frames = record { number = length r.nodes; name = t.name; node = opened_row t r from } ∷ r.frames;
  nodes = r.nodes ++ opened_row t r from ∷ [];
  attributes = r.attributes;
}

-- the row of an element whose end tag begins at a place, by how many elements there are
abbrev pub closed_row : Node → ℕ → ℕ → Node
closed_row n at last = record n { end = last; value = span n.value.from at }

-- after the end tag that begins at a place
abbrev pub close_element : Frame → List Frame → Read → ℕ → Read
close_element f fs r at = record {
  frames = fs;
  nodes = set r.nodes f.number (closed_row f.node at (length r.nodes));
  attributes = r.attributes;
}

abbrev pub step_content : List Frame → Read → ℕ → ℕ → Step
step_content [] r at b =
    if b == 60 then state (opened at) r else (if is_white b then state content r else refused (bad_markup at))
step_content (f ∷ fs) r at b =
    if b == 60 then state (opened at) r
    else (if is_text b then state content (record r { frames = noted f at b ∷ fs })
    else (if b == 38 then state (reference at in_text) (record r { frames = noted f at b ∷ fs })
    else (if b == 239 then state (wide_1 in_text) (record r { frames = noted f at b ∷ fs })
    else refused (bad_markup at))))

abbrev pub step_opened : List Frame → ℕ → Read → ℕ → ℕ → Step
step_opened [] place r at b =
    if is_first b then state (start_name place (b ∷ [])) r
    else (if b == 33 then state (bang place early) r else refused (no_tag place at b))
step_opened (f ∷ fs) place r at b =
    if is_first b then (if nat_lt (length (f ∷ fs)) DEPTH then state (start_name place (b ∷ [])) r
    else refused (too_deep place))
    else (if b == 47 then state (shut_begin place) r
    else (if b == 33 then state (bang place early) r else refused (no_tag place at b)))

-- before the outermost element nothing is open
abbrev pub closed : Read → Read
closed r = record r { frames = [] }

abbrev pub step_declaration : Read → ℕ → ℕ → Step
step_declaration r at b =
    if b == 60 then state (declared_open at) r
    else (if is_white b then state content (closed r) else refused (bad_markup at))

abbrev pub step_question : List ℕ → Read → ℕ → ℕ → Step
step_question [] r at b = if is_white b then state (in_declaration false) r else refused (bad_markup at)
step_question (k ∷ ks) r at b = if b == k then state (question ks) r else refused (bad_markup at)

-- a document type begins with `<!DOCTYPE`, and a character data section with `<![CDATA[`
abbrev pub step_bang : ℕ → Region → Read → ℕ → ℕ → Step
step_bang place p r at b =
    if b == 45 then state (bang_dash p) r
    else (if b == 68 then state (other_word place at (79 ∷ 67 ∷ 84 ∷ 89 ∷ 80 ∷ 69 ∷ [])) r
    else (if b == 91 then state (other_word place at (67 ∷ 68 ∷ 65 ∷ 84 ∷ 65 ∷ 91 ∷ [])) r
    else refused (bad_markup at)))

abbrev pub step_other_word : ℕ → ℕ → List ℕ → Read → ℕ → Step
step_other_word place first [] r b = refused (no_comment place first [])
step_other_word place first (k ∷ ks) r b =
    if b == k then state (other_word place first ks) r else refused (no_comment place first (k ∷ ks))

abbrev pub step_word : ℕ → List ℕ → Within → Read → ℕ → Step
step_word place [] w r b = refused (bad_reference place)
step_word place (k ∷ []) w r b = if b == k then state (after_piece w) r else refused (bad_reference place)
step_word place (k ∷ l ∷ ks) w r b = if b == k then state (word place (l ∷ ks) w) r else refused (bad_reference place)

-- after the `;` of a reference whose number is this one
abbrev pub after_number : ℕ → ℕ → Within → Phase
after_number place n w = if is_character n then after_piece w else no_character place

abbrev pub step_valued : Tag → Read → ℕ → ℕ → Step
step_valued t r at b =
    if is_first b then refused (bad_markup at)
    else (if is_white b then state (in_tag t) r
    else (if b == 47 then state (slash t) r
    else (if b == 62 then state content (open_element t r (at + 1))
    else refused (bad_markup at))))

abbrev pub step_named : Tag → ℕ → List ℕ → Read → ℕ → ℕ → Step
step_named t place name r at b =
    if is_white b then state (named t place name) r
    else (if b == 61 then state (equals t place name) r
    else refused (bad_markup at))

-- the row of an attribute whose value ends at a place
abbrev pub attribute_row : ℕ → List ℕ → ℕ → ℕ → Attribute
attribute_row place name from to = record { name = span place (place + length name); value = span from to }

abbrev pub with_name : Tag → List ℕ → Tag
with_name t name = record t { names = name ∷ t.names }

abbrev pub step_shut : List Frame → ℕ → List ℕ → Read → ℕ → ℕ → Step
step_shut [] place name r at b = refused (bad_markup at)
step_shut (f ∷ fs) place name r at b =
    if is_white b then state (shut_gap place name) r
    else (if b == 62 then (if bytes_eq name f.name then state (resume fs) (close_element f fs r place)
    else refused (mismatched_end place))
    else refused (bad_markup at))

abbrev pub start_of : ℕ → List ℕ → Read → Tag
start_of place name r = record { at = place; name = name; first = length r.attributes; names = [] }

abbrev pub step : Phase → Read → ℕ → ℕ → Step
step beginning r at b = if b == 239 then state mark_1 r else step_declaration r at b
step mark_1 r at b = if b == 187 then state mark_2 r else refused (bad_markup at)
step mark_2 r at b = if b == 191 then state at_declaration r else refused (bad_markup at)
step at_declaration r at b = step_declaration r at b
step (declared_open place) r at b =
    if b == 63 then state (question (120 ∷ 109 ∷ 108 ∷ [])) r else step_opened [] place (closed r) at b
step (question ks) r at b = step_question ks r at b
step (in_declaration seen) r at b =
    if seen && b == 62 then state content (closed r) else state (in_declaration (b == 63)) r
step content r at b = step_content r.frames r at b
step ended r at b =
    if is_white b then state ended r else (if b == 60 then state (ended_open at) r else refused (bad_markup at))
step (ended_open place) r at b = if b == 33 then state (bang place late) r else refused (no_tag place at b)
step (bang place p) r at b = step_bang place p r at b
step (other_word place first ks) r at b = step_other_word place first ks r b
step (bang_dash place) r at b = if b == 45 then state (in_comment place 0) r else refused (bad_markup at)
step (in_comment place count) r at b =
    if nat_le 2 count && b == 62 then state (phase_of place) r else state (in_comment place (dashes count b)) r
step (opened place) r at b = step_opened r.frames place r at b
step (start_name place name) r at b =
    if is_name b then state (start_name place (name ++ b ∷ [])) r
    else (if b == 58 then refused (unsupported at) else step_valued (start_of place name r) r at b)
step (valued t) r at b = step_valued t r at b
step (in_tag t) r at b =
    if is_first b then state (attribute_name t at (b ∷ [])) r else step_valued t r at b
step (slash t) r at b =
    if b == 62 then state (resume r.frames) (add_node r (opened_row t r (at + 1))) else refused (bad_markup at)
step (attribute_name t place name) r at b =
    if is_name b then state (attribute_name t place (name ++ b ∷ [])) r
    else (if has_name name t.names then refused (bad_markup place)
    else (if b == 58 then refused (unsupported at) else step_named t place name r at b))
step (named t place name) r at b = step_named t place name r at b
step (equals t place name) r at b =
    if is_white b then state (equals t place name) r
    else (if is_quote b then state (in_value t place name b (at + 1)) r
    else refused (bad_markup at))
step (in_value t place name quote from) r at b =
    if is_quoted quote b then state (in_value t place name quote from) r
    else (if b == quote then state (valued (with_name t name))
    (record r { attributes = r.attributes ++ attribute_row place name from at ∷ [] })
    else (if b == 38 then state (reference at (in_quotes t place name quote from)) r
    else (if b == 239 then state (wide_1 (in_quotes t place name quote from)) r
    else refused (bad_markup at))))
step (wide_1 w) r at b = if nat_le 128 b then state (wide_2 (b == 191) w) r else refused (bad_markup at)
step (wide_2 greatest w) r at b = if is_last greatest b then state (after_piece w) r else refused (bad_markup at)
step (reference place w) r at b =
    if b == 108 then state (word place (116 ∷ 59 ∷ []) w) r
    else (if b == 103 then state (word place (116 ∷ 59 ∷ []) w) r
    else (if b == 113 then state (word place (117 ∷ 111 ∷ 116 ∷ 59 ∷ []) w) r
    else (if b == 97 then state (reference_a place w) r
    else (if b == 35 then state (hash place w) r
    else refused (bad_reference place)))))
step (reference_a place w) r at b =
    if b == 109 then state (word place (112 ∷ 59 ∷ []) w) r
    else (if b == 112 then state (word place (111 ∷ 115 ∷ 59 ∷ []) w) r
    else refused (bad_reference place))
step (word place ks w) r at b = step_word place ks w r b
step (hash place w) r at b =
    if b == 120 then state (hash_x place w) r
    else (if is_decimal b then state (in_decimal place (digit b) w) r
    else refused (bad_reference place))
step (hash_x place w) r at b =
    if is_hexadecimal b then state (in_hexadecimal place (digit b) w) r else refused (bad_reference place)
step (in_decimal place n w) r at b =
    if is_decimal b then state (in_decimal place (n * 10 + digit b) w) r
    else (if b == 59 then state (after_number place n w) r else refused (bad_reference place))
step (in_hexadecimal place n w) r at b =
    if is_hexadecimal b then state (in_hexadecimal place (n * 16 + digit b) w) r
    else (if b == 59 then state (after_number place n w) r else refused (bad_reference place))
step (no_character place) r at b = refused (bad_reference place)
step (shut_begin place) r at b = if is_first b then state (shut place (b ∷ [])) r else refused (bad_markup at)
step (shut place name) r at b =
    if is_name b then state (shut place (name ++ b ∷ [])) r
    else (if b == 58 then refused (unsupported at) else step_shut r.frames place name r at b)
step (shut_gap place name) r at b = step_shut r.frames place name r at b

abbrev pub Outcome : Type 0
Outcome = Result Rows TextFault

-- at the end of the bytes, which is this place
abbrev pub finish : Phase → Read → ℕ → Outcome
finish ended r at = Ok (record { nodes = r.nodes; attributes = r.attributes })
finish (other_word place first ks) r at = Err (no_comment place first ks)
finish (attribute_name t place name) r at = Err (if has_name name t.names then bad_markup place else bad_markup at)
finish _ r at = Err (bad_markup at)

-- goes on after a step
abbrev pub and_then : Step → (State → Outcome) → Outcome
and_then (Ok s) more = more s
and_then (Err e) more = Err e

-- from a phase, what is known, and a place, over the bytes from that place on
abbrev pub run : Phase → Read → ℕ → List ℕ → Outcome
run p r at [] = finish p r at
run p r at (b ∷ bs) =
    and_then (step p r at b) (λ s. run s.phase s.read (at + 1) bs)

-- over a whole text
abbrev pub outcome_of : List ℕ → Outcome
outcome_of bytes = run beginning (record { frames = []; nodes = []; attributes = [] }) 0 bytes
