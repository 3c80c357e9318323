-- What a text stands for, between two tags or in an attribute's value, by the pieces of the grammar:
-- a reference stands for its character, a comment for nothing, and each other character for itself.
use Rattle.std.specs.Prelude.{ℕ, ◌≡◌, true, unwrap_or, List, [], ◌∷◌, ◌++◌, encode_utf8}
use Rattle.std.specs.Str.{IsUtf8}
use Rattle.khe_base.specs.Text.{text_of}
use Rattle.xhstt_text.specs.Bytes.{is_text, IsComment}
use Rattle.xhstt_text.specs.Document.{Value, done, plain, piece_of, value_text, IsValue, Content, nothing, byte, piece}
use Rattle.xhstt_text.specs.Document.{comment, short, long, text}
use Rattle.xhstt_text.specs.Units.{Entity, less, greater, ampersand, apostrophe, quotation, Piece, wide, named, decimal}
use Rattle.xhstt_text.specs.Units.{hexadecimal, number_from, IsPiece}
use Rattle.xhstt_text.specs.UnescapeMachine.{plain_after}
use Rattle.xhstt_text.specs.declared.unescaping.Part.TheVariants.{Plain}

-- the characters `<`, `>`, `&`, `'` and `"`
abbrev pub entity_character : Entity → ℕ
entity_character less = 60
entity_character greater = 62
entity_character ampersand = 38
entity_character apostrophe = 39
entity_character quotation = 34

-- what a piece stands for, in UTF-8: a character for itself, an entity for its character, and a number
-- for the character of this number
abbrev pub piece_meaning : Piece → List ℕ
piece_meaning (wide b c) = 239 ∷ b ∷ c ∷ []
piece_meaning (named e) = entity_character e ∷ []
piece_meaning (decimal ds) = encode_utf8 (number_from 10 0 ds)
piece_meaning (hexadecimal ds) = encode_utf8 (number_from 16 0 ds)

-- what the value of an attribute stands for, in UTF-8
abbrev pub value_meaning : Value → List ℕ
value_meaning done = []
value_meaning (plain b v) = b ∷ value_meaning v
value_meaning (piece_of u v) = piece_meaning u ++ value_meaning v

-- what the text between two tags stands for, in UTF-8; elements are no part of it
abbrev pub meaning : Content → List ℕ
meaning nothing = []
meaning (byte b c) = b ∷ meaning c
meaning (piece u c) = piece_meaning u ++ meaning c
meaning (comment inner c) = meaning c
meaning (short s c) = meaning c
meaning (long s inner shut white c) = meaning c

-- the content is in form, and has no element
abbrev pub IsText : Content → Type 0
IsText nothing = Unit {0}
IsText (byte b c) = (is_text b ≡ true) × IsText c
IsText (piece u c) = IsPiece u × IsText c
IsText (comment inner c) = IsComment inner × IsText c
IsText _ = ⊥

-- the bytes are UTF-8 and spell this text between two tags
pub record IsTextOf (bytes : List ℕ) (c : Content) : Type 0 where
  pub utf8 : IsUtf8 bytes
  pub in_form : IsText c
  pub spelled : bytes ≡ text c

-- the bytes are UTF-8 and spell this value between two such quotes
pub record IsValueOf (quote : ℕ) (bytes : List ℕ) (v : Value) : Type 0 where
  pub utf8 : IsUtf8 bytes
  pub in_form : IsValue quote v
  pub spelled : bytes ≡ value_text v

-- the characters that bytes stand for. Where they spell a text of the grammar, it is what that text
-- stands for, as `unescape` ensures. Other bytes have a meaning too, which no reader can meet in a
-- tree: none where what they stand for is not UTF-8.
abbrev pub unescaped : List ℕ → List ℕ
unescaped bytes = unwrap_or (text_of (plain_after Plain [] bytes)) []
