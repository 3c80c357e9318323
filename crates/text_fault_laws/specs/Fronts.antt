-- A front is what some text begins with. Bytes are begun where they are a front, or would be with another name in
-- their last end tag or another number in their last reference: nothing in them is wrong by itself.
use Rattle.std.specs.Prelude.{ℕ, List, [], ◌∷◌, ◌++◌, ◌≡◌, ◌⊎◌, ◌+◌, ◌≤◌, length, true, false}
use Rattle.khe_base.specs.declared.limits.TheConstants.{DEPTH}
use Rattle.xhstt_text.specs.Bytes.{is_first, is_name, is_white, IsName, IsWhite}
use Rattle.xhstt_text.specs.Units.{AreDigits, is_decimal, is_hexadecimal, Piece, wide, named, decimal, hexadecimal}
use Rattle.xhstt_text.specs.Units.{piece_text, IsPiece}
use Rattle.xhstt_text.specs.Document.{Document, IsDocument, spelling}

-- some document is spelled by these bytes and more
abbrev pub IsFront : List ℕ → Type 0
IsFront bytes = (more : List ℕ) × (d : Document) × IsDocument d × (bytes ++ more ≡ spelling d)

-- each is a name
abbrev pub AreNames : List (List ℕ) → Type 0
AreNames [] = Unit {0}
AreNames (name ∷ names) = IsName name × AreNames names

-- an end tag for each of these names; the white before its `>` is there so that it ends no comment
abbrev pub end_tags : List (List ℕ) → List ℕ
end_tags [] = []
end_tags (name ∷ names) = 60 ∷ 47 ∷ (name ++ (32 ∷ 62 ∷ end_tags names))

-- the bytes end in the content of open elements with these names, the innermost first: their end tags make it
-- a text
abbrev pub IsInside : List (List ℕ) → List ℕ → Type 0
IsInside names bytes = AreNames names × (d : Document) × IsDocument d × (bytes ++ end_tags names ≡ spelling d)

-- a reference may begin after the bytes, which end in content or in a value: a `&` may follow, but no white
-- after it, as it might in a comment or in the declaration
abbrev pub MayRefer : List ℕ → Type 0
MayRefer bytes = IsFront (bytes ++ 38 ∷ []) × (IsFront ((bytes ++ 38 ∷ []) ++ 32 ∷ []) → ⊥)

-- a reference, and not a character by itself
abbrev pub IsReference : Piece → Type 0
IsReference (wide b c) = ⊥
IsReference _ = Unit {0}

-- the bytes begin with the spelling of a reference, whose number, if it has one, gives a character
abbrev pub SpellsReference : List ℕ → Type 0
SpellsReference bytes = (reference : Piece) × (rest : List ℕ) × IsReference reference × IsPiece reference
    × (bytes ≡ piece_text reference ++ rest)

-- a reference with any number
abbrev pub HasReferenceForm : Piece → Type 0
HasReferenceForm (wide b c) = ⊥
HasReferenceForm (named entity) = Unit {0}
HasReferenceForm (decimal digits) = AreDigits is_decimal digits
HasReferenceForm (hexadecimal digits) = AreDigits is_hexadecimal digits

-- the spelling of a reference with any number begins with these bytes, or is them
abbrev pub BeginsReference : List ℕ → Type 0
BeginsReference bytes = (reference : Piece) × (rest : List ℕ) × HasReferenceForm reference
    × (bytes ++ rest ≡ piece_text reference)

-- the bytes end in the beginning of a reference with any number
abbrev pub EndsInReference : List ℕ → Type 0
EndsInReference bytes = (before part : List ℕ) × MayRefer before × BeginsReference (38 ∷ part)
    × (bytes ≡ before ++ (38 ∷ part))

-- the bytes end in an end tag up to a byte of its name or the white after it; any name counts
abbrev pub EndsInEndTag : List ℕ → Type 0
EndsInEndTag bytes = (inner : List ℕ) × (outer : List (List ℕ)) × (before name white : List ℕ)
    × IsInside (inner ∷ outer) before × IsName name × IsWhite white
    × (bytes ≡ before ++ (60 ∷ 47 ∷ (name ++ white)))

-- nothing in the bytes is wrong by itself: some text begins so, or would with another name in its last end
-- tag, or with another number in its last reference
abbrev pub IsBegun : List ℕ → Type 0
IsBegun bytes = IsFront bytes ⊎ (EndsInEndTag bytes ⊎ EndsInReference bytes)

-- the byte at this place is the first that cannot go on
abbrev pub StopsAt : List ℕ → ℕ → Type 0
StopsAt bytes at = (before : List ℕ) × (byte : ℕ) × (rest : List ℕ) × (bytes ≡ before ++ (byte ∷ rest))
    × (at ≡ length before) × IsBegun before × (IsBegun (before ++ byte ∷ []) → ⊥)

-- the bytes end too early, at their length
abbrev pub EndsEarly : List ℕ → ℕ → Type 0
EndsEarly bytes at = (at ≡ length bytes) × IsBegun bytes
    × ((d : Document) → IsDocument d → bytes ≡ spelling d → ⊥)

-- the next byte, if there is one, is none of a name
abbrev pub EndsName : List ℕ → Type 0
EndsName [] = Unit {0}
EndsName (b ∷ bs) = is_name b ≡ false

-- at this place, after a white, stands the whole name of an attribute that no `=` can follow: an earlier
-- attribute of the element has it
abbrev pub RepeatsName : List ℕ → ℕ → Type 0
RepeatsName bytes at = (before : List ℕ) × (white : ℕ) × (name rest : List ℕ)
    × (bytes ≡ (before ++ (white ∷ name)) ++ rest) × (at ≡ length before + 1) × (is_white white ≡ true)
    × IsName name × EndsName rest × IsFront (before ++ (white ∷ name))
    × (IsFront ((before ++ (white ∷ name)) ++ 61 ∷ []) → ⊥)

-- at this place, in the content of an element, stands a whole end tag with another name
abbrev pub MismatchesAt : List ℕ → ℕ → Type 0
MismatchesAt bytes at = (inner : List ℕ) × (outer : List (List ℕ)) × (before name white rest : List ℕ)
    × (bytes ≡ before ++ (60 ∷ 47 ∷ (name ++ (white ++ (62 ∷ rest))))) × (at ≡ length before)
    × IsInside (inner ∷ outer) before × IsName name × IsWhite white × (name ≡ inner → ⊥)

-- at this place a reference may begin, and stands a `&`; the bytes from it on spell no reference, nor do they
-- end in one
abbrev pub MisrefersAt : List ℕ → ℕ → Type 0
MisrefersAt bytes at = (before rest : List ℕ) × (bytes ≡ before ++ (38 ∷ rest)) × (at ≡ length before)
    × MayRefer before × (SpellsReference (38 ∷ rest) → ⊥) × (BeginsReference (38 ∷ rest) → ⊥)

-- at this place, inside as many open elements as there may be, stands a `<` with the first character of a name
-- after it
abbrev pub DeepAt : List ℕ → ℕ → Type 0
DeepAt bytes at = (names : List (List ℕ)) × (before : List ℕ) × (first : ℕ) × (rest : List ℕ)
    × (bytes ≡ before ++ (60 ∷ first ∷ rest)) × (at ≡ length before) × IsInside names before × (DEPTH ≤ length names)
    × (is_first first ≡ true)

-- at this place stands a `:` straight after the characters of a name, which another such character may follow,
-- but not this `:`
abbrev pub ColonAt : List ℕ → ℕ → Type 0
ColonAt bytes at = (before name rest : List ℕ) × (bytes ≡ (before ++ name) ++ (58 ∷ rest))
    × (at ≡ length (before ++ name)) × IsName name × IsBegun ((before ++ name) ++ 95 ∷ [])
    × (IsBegun ((before ++ name) ++ 58 ∷ []) → ⊥)

-- at this place a `<` may stand, and stands, but in no text with the `?` after it
abbrev pub InstructionAt : List ℕ → ℕ → Type 0
InstructionAt bytes at = (before rest : List ℕ) × (bytes ≡ (before ++ 60 ∷ []) ++ (63 ∷ rest))
    × (at ≡ length before) × IsFront (before ++ 60 ∷ []) × (IsFront ((before ++ 60 ∷ []) ++ 63 ∷ []) → ⊥)

-- `DOCTYPE` or `[CDATA[`
abbrev pub IsOtherWord : List ℕ → Type 0
IsOtherWord word = (word ≡ 68 ∷ 79 ∷ 67 ∷ 84 ∷ 89 ∷ 80 ∷ 69 ∷ []) ⊎ (word ≡ 91 ∷ 67 ∷ 68 ∷ 65 ∷ 84 ∷ 65 ∷ 91 ∷ [])

-- at this place `<!` may stand, and stands, but in no text with the word after it
abbrev pub OtherMarkupAt : List ℕ → ℕ → Type 0
OtherMarkupAt bytes at = (before word rest : List ℕ) × IsOtherWord word
    × (bytes ≡ ((before ++ 60 ∷ 33 ∷ []) ++ word) ++ rest) × (at ≡ length before) × IsFront (before ++ 60 ∷ 33 ∷ [])
    × (IsFront ((before ++ 60 ∷ 33 ∷ []) ++ word) → ⊥)
