-- How words are read by a table of commands: the word, words in their forms, and options in any order, each at most
-- once.
use Rattle.std.specs.Prelude.{ℕ, ◌≡◌, ◌≤◌, ◌⊎◌, ◌↔◌, false, Option, Some, None, List, [], ◌∷◌, ◌++◌}
use Rattle.khe_base.specs.Digits.{long_number_of, number_of}
use Rattle.khe_base.specs.declared.limits.TheConstants.{DIGITS}
use Rattle.command_words.specs.Words.{Asked, asked}
use Rattle.command_words.specs.Commands.{Choice, Command, Form, Said, any, below, commands, digits, flag, number}
use Rattle.command_words.specs.Commands.{text, up_to}

-- a word in form says this
abbrev pub Says : Form → List ℕ → Said → Type 0
Says any word said = said ≡ text word
Says below word said = (n : ℕ) × (said ≡ number n) × (number_of DIGITS word ≡ Some n)
Says digits word said = (n : ℕ) × (said ≡ number n) × (long_number_of word ≡ Some n)
Says (up_to greatest) word said =
    (n : ℕ) × (said ≡ number n) × (number_of DIGITS word ≡ Some n) × (1 ≤ n) × (n ≤ greatest)

-- words in these forms, one after the other, say these
abbrev pub Say : List Form → List (List ℕ) → List Said → Type 0
Say [] [] [] = Unit {0}
Say (form ∷ forms) (word ∷ words) (said ∷ more) = Says form word said × Say forms words more
Say _ _ _ = ⊥

-- an option that stands there, with the word after it, if that is its value
pub record Given : Type 0 where
  pub word : List ℕ
  pub value : Option (List ℕ)

abbrev pub with_value : Option (List ℕ) → List (List ℕ) → List (List ℕ)
with_value None words = words
with_value (Some value) words = value ∷ words

-- the words of options, one after the other
abbrev pub given_words : List Given → List (List ℕ)
given_words [] = []
given_words (g ∷ given) = g.word ∷ with_value g.value (given_words given)

-- an option says this: it has no value, or one in form
abbrev pub SaysValue : Option Form → Option (List ℕ) → Said → Type 0
SaysValue None None said = said ≡ flag
SaysValue (Some form) (Some value) said = Says form value said
SaysValue _ _ said = ⊥

-- what is given are these options in any order, each once if it says something, and not at all if it says nothing,
-- which only those may that need not be there
abbrev pub AreGiven : List Choice → List Given → List (Option Said) → Type 0
AreGiven [] given [] = given ≡ []
AreGiven (o ∷ options) given (None ∷ said) = (o.needed ≡ false) × AreGiven options given said
AreGiven (o ∷ options) given (Some s ∷ said) =
    (before : List Given) × (g : Given) × (after : List Given) × (given ≡ before ++ (g ∷ after))
    × (g.word ≡ o.word) × SaysValue o.value g.value s × AreGiven options (before ++ after) said
AreGiven _ given _ = ⊥

-- the words are those of a command, and ask for this
pub record IsOf (c : Command) (words : List (List ℕ)) (a : Asked) : Type 0 where
  pub names : List (List ℕ)
  pub given : List Given
  pub words_are : words ≡ c.word ∷ (names ++ given_words given)
  pub said : List Said
  pub names_say : Say c.forms names said
  pub options_said : List (Option Said)
  pub options_say : AreGiven c.options given options_said
  pub asks : c.asks said options_said ≡ Some a

-- the words are those of one of these commands, and ask for this
abbrev pub IsOfOne : List Command → List (List ℕ) → Asked → Type 0
IsOfOne [] words a = ⊥
IsOfOne (c ∷ more) words a = IsOf c words a ⊎ IsOfOne more words a

-- by the table the words ask for this
abbrev pub IsReading : List (List ℕ) → Asked → Type 0
IsReading words a = IsOfOne commands words a

-- or for nothing
abbrev pub HasNoReading : List (List ℕ) → Type 0
HasNoReading words = (a : Asked) → IsReading words a → ⊥

abbrev pub WordsAreReadByTable : Type 0
WordsAreReadByTable = (words : List (List ℕ)) (a : Asked) → ((asked words ≡ Some a) ↔ IsReading words a)

abbrev pub OthersAreNotRead : Type 0
OthersAreNotRead = (words : List (List ℕ)) → ((asked words ≡ None) ↔ HasNoReading words)

abbrev pub OneReadingAtMost : Type 0
OneReadingAtMost = (words : List (List ℕ)) (a b : Asked) → IsReading words a → IsReading words b → a ≡ b
