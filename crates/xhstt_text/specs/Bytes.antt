-- The classes of bytes that a text is made of: white space, the letters of names, digits, and what may stand in
-- text and values.
use Rattle.std.specs.Prelude.{ℕ, ◌≡◌, Bool, true, false, not, ◌&&◌, ◌||◌, ◌==◌, nat_le, ◌≤◌, suc, if◌then◌else◌, List}
use Rattle.std.specs.Prelude.{[], ◌∷◌}

-- space, tab, line feed or carriage return
abbrev pub is_white : ℕ → Bool
is_white b = b == 32 || b == 9 || b == 10 || b == 13

-- an ASCII letter or `_`
abbrev pub is_first : ℕ → Bool
is_first b = (nat_le 97 b && nat_le b 122) || (nat_le 65 b && nat_le b 90) || b == 95

-- an ASCII letter or digit, `_`, `-` or `.`
abbrev pub is_name : ℕ → Bool
is_name b = is_first b || (nat_le 48 b && nat_le b 57) || b == 45 || b == 46

-- white, or a byte from 32 on other than `<`, `&` and the first byte of the characters from U+F000 on
abbrev pub is_text : ℕ → Bool
is_text b = is_white b || (nat_le 32 b && not (b == 60) && not (b == 38) && not (b == 239))

-- what may stand between two such quotes
abbrev pub is_quoted : ℕ → ℕ → Bool
is_quoted quote b = is_text b && not (b == quote)

-- `"` or `'`
abbrev pub is_quote : ℕ → Bool
is_quote b = b == 34 || b == 39

-- each byte passes
abbrev pub AllAre : (ℕ → Bool) → List ℕ → Type 0
AllAre test [] = Unit {0}
AllAre test (b ∷ bs) = (test b ≡ true) × AllAre test bs

-- any white
abbrev pub IsWhite : List ℕ → Type 0
IsWhite bs = AllAre is_white bs

-- at least one white
abbrev pub IsGap : List ℕ → Type 0
IsGap [] = ⊥
IsGap (b ∷ bs) = (is_white b ≡ true) × IsWhite bs

-- a letter or `_`, and then letters, digits, `_`, `-` and `.`
abbrev pub IsName : List ℕ → Type 0
IsName [] = ⊥
IsName (b ∷ bs) = (is_first b ≡ true) × AllAre is_name bs

-- how many dashes stand before the next byte, by how many stand before this one
abbrev pub dashes : ℕ → ℕ → ℕ
dashes count b = if b == 45 then suc count else 0

-- how many dashes stand at the end of these bytes, by how many stand before them
abbrev pub dashes_after : ℕ → List ℕ → ℕ
dashes_after count [] = count
dashes_after count (b ∷ bs) = dashes_after (dashes count b) bs

-- no `>` in these bytes has two dashes before it, the dashes before the bytes included
abbrev pub stays_open : ℕ → List ℕ → Bool
stays_open count [] = true
stays_open count (b ∷ bs) = not (nat_le 2 count && b == 62) && stays_open (dashes count b) bs

-- what stands between `<!--` and the `>` that ends the comment: the first with two dashes before it
abbrev pub IsComment : List ℕ → Type 0
IsComment bs = (stays_open 0 bs ≡ true) × (2 ≤ dashes_after 0 bs)

-- whether a `?` stands at the end of these bytes; the first argument says whether one stands before them
abbrev pub question_after : Bool → List ℕ → Bool
question_after seen [] = seen
question_after seen (b ∷ bs) = question_after (b == 63) bs

-- no `>` in these bytes has a `?` before it
abbrev pub stays_declared : Bool → List ℕ → Bool
stays_declared seen [] = true
stays_declared seen (b ∷ bs) = not (seen && b == 62) && stays_declared (b == 63) bs

-- what stands between `<?xml` and a white and the `>` that ends the declaration: the first with a
-- `?` before it
abbrev pub IsDeclared : List ℕ → Type 0
IsDeclared bs = (stays_declared false bs ≡ true) × (question_after false bs ≡ true)

-- `<?xml`
abbrev pub declaration_start : List ℕ
declaration_start = 60 ∷ 63 ∷ 120 ∷ 109 ∷ 108 ∷ []
