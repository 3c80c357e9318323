-- How the parts of the reader follow the machine.
use Rattle.std.specs.Prelude.{ℕ, ◌≡◌, ◌<◌, ◌+◌, Bool, true, false, ◌==◌, ◌&&◌, ◌||◌, nat_eq, if◌then◌else◌, List, []}
use Rattle.std.specs.Prelude.{◌∷◌, ◌++◌, length, map, reverse, Option, Some, None, Result, Ok, Err}
use Rattle.std.specs.List.{starts_with}
use Rattle.std.specs.BTreeSet.{contains_by}
use Rattle.std.specs.Option.{option_map_or}
use Rattle.std.specs.Str.{bytes_eq}
use Rattle.std.specs.Cmp.Lexicographic.{slice_cmp}
use Rattle.std.specs.Ordering.{nat_cmp}
use Rattle.fault_tables.specs.Told.{Tells}
use Rattle.xhstt_text.specs.Bytes.{is_text, AllAre, IsName, is_name}
use Rattle.xhstt_text.specs.Document.{has_name}
use Rattle.xhstt_text.specs.Units.{digit}
use Rattle.xhstt_text.specs.Machine.{Phase, Within, step, state, reference, wide_1, Frame, Read, Tag, Outcome}
use Rattle.xhstt_text.specs.declared.names.Names.{Names}
use Rattle.xhstt_text.specs.declared.tree.Node.{Node}
use Rattle.xhstt_text.specs.declared.tree.Attribute.{Attribute}
use Rattle.xhstt_text.specs.declared.faults.TextFault.{TextFault}
use Rattle.xhstt_text.specs.declared.faults.TextFault.TheVariants.{Bad, NoMemory}
use Rattle.xhstt_text.specs.Faults.{bad_markup, bad_reference, no_tag, unsupported}
use Rattle.xhstt_text.specs.declared.table.OpenElement.{OpenElement}
use Rattle.xhstt_text.specs.declared.table.StartTag.{StartTag}
use Rattle.xhstt_text.specs.Document.{span}

-- whether there is a first byte, and it passes
abbrev pub begins : (ℕ → Bool) → List ℕ → Bool
begins test [] = false
begins test (b ∷ bs) = test b

-- the byte itself
abbrev pub is_byte : ℕ → ℕ → Bool
is_byte k b = b == k

-- from one place to another, over all bytes that pass
abbrev pub Skips : (ℕ → Bool) → ℕ → List ℕ → ℕ → List ℕ → Type 0
Skips test at bs to rest = (w : List ℕ) × AllAre test w × (bs ≡ w ++ rest) × (to ≡ at + length w)
    × (begins test rest ≡ false)

-- a name, from one place to another, up to the last byte that can belong to it
abbrev pub TakesName : ℕ → List ℕ → List ℕ → ℕ → List ℕ → Type 0
TakesName at bs name to rest = IsName name × (bs ≡ name ++ rest) × (to ≡ at + length name)
    × (begins is_name rest ≡ false)

-- the byte is white, or the first byte of text
abbrev pub is_loose_text : ℕ → Bool
is_loose_text b = is_text b || b == 38 || b == 239

-- a digit and what it stands for, from one place to the next
abbrev pub TakesDigit : (ℕ → Bool) → ℕ → List ℕ → ℕ → ℕ → List ℕ → Type 0
TakesDigit test at bs value to rest = (b : ℕ) × (test b ≡ true) × (bs ≡ b ∷ rest) × (value ≡ digit b) × (to ≡ at + 1)
    × (value < 16)

-- no piece stands here
abbrev pub NoPiece : List ℕ → Type 0
NoPiece bs = (begins (is_byte 38) bs ≡ false) × (begins (is_byte 239) bs ≡ false)

-- the phase takes the first byte of a piece
abbrev pub Enters : Phase → Within → Read → Read → ℕ → Type 0
Enters p w r s at = (step p r at 38 ≡ state (reference at w) s) × (step p r at 239 ≡ state (wide_1 w) s)

-- the fault that an error tells, unless memory was refused
abbrev pub told : TextFault → Option TextFault
told (Bad kind at) = Some (Bad kind at)
told NoMemory = None

-- the machine ends in the fault that is told
abbrev pub Fails : TextFault → Outcome → Type 0
Fails error whole = Tells told (λ fault. whole ≡ Err fault) error

-- what was read leads the machine from `whole` to `rest`, or the fault is what the machine ends in
abbrev pub Leads : {X : Type 0} → Result X TextFault → Outcome → (X → Outcome) → Type 0
Leads (Ok x) whole rest = whole ≡ rest x
Leads (Err fault) whole rest = Fails fault whole

-- in a reference that begins at the first place, the bytes from the second on cannot go on
abbrev pub broken : ℕ → ℕ → List ℕ → TextFault
broken place at [] = bad_markup at
broken place at (b ∷ bs) = bad_reference place

-- after the `<!` at the first place, the bytes from the second on begin no comment: it may be `DOCTYPE` or
-- `[CDATA[`
abbrev pub other_markup : ℕ → ℕ → List ℕ → TextFault
other_markup place at bs =
    if starts_with nat_eq bs (68 ∷ 79 ∷ 67 ∷ 84 ∷ 89 ∷ 80 ∷ 69 ∷ []) || starts_with nat_eq bs
    (91 ∷ 67 ∷ 68 ∷ 65 ∷ 84 ∷ 65 ∷ 91 ∷ []) then unsupported place else bad_markup at

-- after the `<` at the first place, the bytes from the second on begin no tag and no comment
abbrev pub unopened : ℕ → ℕ → List ℕ → TextFault
unopened place at [] = bad_markup at
unopened place at (b ∷ bs) = no_tag place at b

-- after the outermost element, the bytes from this place on begin no comment
abbrev pub trailing : ℕ → List ℕ → TextFault
trailing at [] = bad_markup at
trailing at (b ∷ bs) = if b == 60 then unopened at (at + 1) bs else bad_markup at

abbrev pub read_of : List Frame → List Node → List Attribute → Read
read_of frames nodes attributes = record { frames = frames; nodes = nodes; attributes = attributes }

-- a start tag whose attributes were not read yet
abbrev pub bare : ℕ → List ℕ → ℕ → Tag
bare place name first = record { at = place; name = name; first = first; names = [] }

abbrev pub frame_of : OpenElement → Frame
frame_of e = record { number = e.number; name = e.name.now; node = e.node }

-- the open elements, the innermost first
abbrev pub frames_of : List OpenElement → List Frame
frames_of stack = map frame_of (reverse stack)

-- whether the names so far have this one
abbrev pub is_known : Names → List ℕ → Bool
is_known names bs = option_map_or (λ k. bytes_eq bs k.now) names.first false
    || contains_by (λ k. slice_cmp nat_cmp bs k.now) names.others

-- the names so far are exactly these
abbrev pub Holds : Names → List (List ℕ) → Type 0
Holds names known = (bs : List ℕ) → is_known names bs ≡ has_name bs known

-- whether a comment begins
abbrev pub begins_comment : List ℕ → Bool
begins_comment [] = false
begins_comment (b ∷ bs) = b == 60 && begins (is_byte 33) bs

-- after a `<`, what follows begins neither a comment nor, inside an element, an end tag
abbrev pub NoOtherTag : List Frame → List ℕ → Type 0
NoOtherTag [] bs = begins (is_byte 33) bs ≡ false
NoOtherTag (f ∷ fs) bs = (begins (is_byte 33) bs ≡ false) × (begins (is_byte 47) bs ≡ false)

-- an open element with this loose text
abbrev pub with_loose_text : Frame → Option ℕ → Frame
with_loose_text f o = record f { node = record f.node { loose = o } }

-- the row of an element whose content begins at a place, by how many elements came before it and how many
-- attributes there are up to its last one
abbrev pub row_from : StartTag → ℕ → ℕ → ℕ → Node
row_from tag number attributes from = record {
  at = tag.at;
  name = span (tag.at + 1) (tag.at + 1 + length tag.name.now);
  end = number + 1;
  attributes = span tag.first attributes;
  value = span from from;
  loose = None;
}
