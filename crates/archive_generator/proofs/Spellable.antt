-- The archive that is made can be written and read back: its numbers are in their ranges, its roles are in
-- form, and its texts are letters and digits.
use Rattle.std.proofs.Common.{ℕ, ◌≡◌, ◌/◌, ◌%◌, ◌==◌, ◌<◌, Bool, true, false, if◌then◌else◌}
use Rattle.std.proofs.Common.{suc, zero}
use Rattle.std.proofs.Common.{Option, Some, None, IfSome, List, [], ◌∷◌, ◌++◌, map, All, refl}
use Rattle.std.proofs.Common.{arith, mod-lt}
use Rattle.std.specs.Prelude.{codes, decimal}
use Rattle.std.specs.Fmt.{digit_glyph, digits_onto, digits}
use Rattle.std.specs.List.{list_all}
use Rattle.std.proofs.lemmas.Bool.{and_parts}
use Rattle.std.proofs.lemmas.Bool.Decides.{nat_tests}
use Rattle.std.proofs.lemmas.List.Elements.{All-nil, All-cons}
use Rattle.xhstt_text.specs.Units.{is_character}
use Rattle.xhstt_shape.specs.Characters.{IsSpellable, IsSpellableRef, AreSpellableRefs}
use Rattle.archive_generator.specs.Names.{to, numbered, below, to_each, to_time}

-- a word whose characters all pass
pub word_fits : (bs : List ℕ) → list_all is_character bs ≡ true → IsSpellable bs
word_fits [] h = tt
word_fits (b ∷ bs) h = let p = and_parts (is_character b) (list_all is_character bs) h in (p.0, word_fits bs p.1)

both_fit : (xs ys : List ℕ) → IsSpellable xs → IsSpellable ys → IsSpellable (xs ++ ys)
both_fit [] ys h k = k
both_fit (x ∷ xs) ys h k = (h.0, both_fit xs ys h.1 k)

glyph_fits : (d : ℕ) → d < 10 → is_character (digit_glyph false d) ≡ true
glyph_fits d l = grind (arith, nat_tests)

digits_fit : (k n : ℕ) (acc : List ℕ) → IsSpellable acc → IsSpellable (digits_onto k 10 false n acc)
digits_fit zero n acc h = h
digits_fit (suc k) n acc h =
    let below_ten : n % 10 < 10 = mod-lt n (omega arith) in
    let more : IsSpellable (digit_glyph false (n % 10) ∷ acc) = (glyph_fits (n % 10) below_ten, h) in
    by (n / 10 == 0) more (digits_fit k (n / 10) (digit_glyph false (n % 10) ∷ acc) more)
  where
    by : (b : Bool) → IsSpellable (digit_glyph false (n % 10) ∷ acc)
        → IsSpellable (digits_onto k 10 false (n / 10) (digit_glyph false (n % 10) ∷ acc))
        → IsSpellable (if b then digit_glyph false (n % 10) ∷ acc
        else digits_onto k 10 false (n / 10) (digit_glyph false (n % 10) ∷ acc))
    by true x y = x
    by false x y = y

pub decimal_fits : (n : ℕ) → IsSpellable (decimal n)
unfolding digits
decimal_fits n = digits_fit 64 n [] tt

-- a word with a number after it
pub numbered_fits : (word : List ℕ) (n : ℕ) → list_all is_character word ≡ true → IsSpellable (numbered word n)
numbered_fits word n h = both_fit word (decimal n) (word_fits word h) (decimal_fits n)

-- what is true of each value is true of all that are made
pub all_made : {A T : Type 0} (P : T → Type 0) (f : A → T) (xs : List A) → ((a : A) → P (f a)) → All P (map f xs)
all_made P f [] each = All-nil P
all_made P f (x ∷ xs) each = All-cons P (f x) (map f xs) (each x) (all_made P f xs each)

pub two : {T : Type 0} (P : T → Type 0) (a b : T) → P a → P b → All P (a ∷ (b ∷ []))
two P a b h k = All-cons P a (b ∷ []) h (All-cons P b [] k (All-nil P))

pub only : {T : Type 0} (P : T → Type 0) (a : T) → P a → All P (a ∷ [])
only P a h = All-cons P a [] h (All-nil P)

pub three : {T : Type 0} (P : T → Type 0) (a b c : T) → P a → P b → P c → All P (a ∷ (b ∷ (c ∷ [])))
three P a b c h k m = All-cons P a (b ∷ (c ∷ [])) h (two P b c k m)

pub to_each_fits : (word : List ℕ) (count : ℕ) → list_all is_character word ≡ true
    → AreSpellableRefs (to_each word count)
to_each_fits word count h = all_made IsSpellableRef (λ n. to (numbered word n)) (below count)
    (λ n. numbered_fits word n h)

pub to_time_fits : (o : Option ℕ) → IfSome (to_time o) IsSpellableRef
to_time_fits None = tt
to_time_fits (Some n) = numbered_fits (codes "t") n refl

pub four : {T : Type 0} (P : T → Type 0) (a b c d : T) → P a → P b → P c → P d → All P (a ∷ (b ∷ (c ∷ (d ∷ []))))
four P a b c d h k m n = All-cons P a (b ∷ (c ∷ (d ∷ []))) h (three P b c d k m n)
