-- What was read is the next line.
use Rattle.std.proofs.Common.{ℕ, ◌≡◌, ◌≢◌, ◌<◌, ◌≤◌, ◌+◌, ◌-◌, ◌==◌, Bool, true, false, cond, Option, None, Some, IfSome, inl, inr}
use Rattle.std.proofs.Common.{List, [], ◌∷◌, ◌++◌, length, take, get_or, append_assoc, refl, sym, ap, subst, drop, ◌∙◌, arith}
use Rattle.std.specs.Io.BufRead.{take_through}
use Rattle.std.specs.Io.KnownBytes.{Consumes}
use Rattle.std.specs.Io.{StopsAt, appended_bytes}
use Rattle.std.specs.List.{All, slice_split}
use Rattle.std.proofs.lemmas.Bool.{cases_Bool, ne_eqb}
use Rattle.std.proofs.lemmas.Bool.Decides.{nat_tests}
use Rattle.std.proofs.lemmas.List.{take_all}
use Rattle.std.proofs.lemmas.List.Elements.{All-head, All-more, All-tail}
use Rattle.std.proofs.lemmas.List.Splits.{length-slice_split, slice_split_at, slice_split_none}
use Rattle.edit_script.specs.Lines.{lines, without_empty_end}
use Rattle.talk_run.specs.Between.{HadLeft, IsFound, IsLast, IsLine}
use Rattle.talk_run.specs.Found.{HaveNoFeed, IsCut}
use Rattle.talk_run.specs.declared.reading.Found.{Found}
use Rattle.talk_run.specs.declared.reading.Found.TheVariants as found

abbrev feed : ℕ → Bool
feed byte = byte == 10

-- a piece before others is a line
kept : (piece : List ℕ) (others : List (List ℕ)) → 0 < length others
    → without_empty_end (piece ∷ others) ≡ piece ∷ without_empty_end others
kept piece [] h = absurd (omega arith)
kept piece (next ∷ more) h = refl

-- the only piece is a line where it has a byte
only : (piece : List ℕ) → 0 < length piece → without_empty_end (piece ∷ []) ≡ piece ∷ []
only piece h = let some : (length piece == 0) ≡ false = grind (arith, nat_tests) in
    ap (λ t. cond t [] (piece ∷ [])) some

-- what stands before a line feed is the first line, whatever follows
pub line-before : (line more : List ℕ) → HaveNoFeed line → lines ((line ++ 10 ∷ []) ++ more) ≡ line ∷ lines more
unfolding lines
line-before line more none =
    let some : 0 < length (slice_split feed more) = omega (arith, length-slice_split feed more) in
    ap (λ bytes. without_empty_end (slice_split feed bytes)) (append_assoc line (10 ∷ []) more)
    ∙ ap without_empty_end (slice_split_at feed line 10 more none refl) ∙ kept line (slice_split feed more) some

-- bytes without a line feed are one line
pub line-alone : (line : List ℕ) → 0 < length line → HaveNoFeed line → lines line ≡ line ∷ []
unfolding lines
line-alone line some none = ap without_empty_end (slice_split_none feed line none) ∙ only line some

-- the test of a byte
pub no-feed : (b : ℕ) → b ≢ 10 → (b == 10) ≡ false
no-feed b h = ne_eqb b 10 h

-- no byte but the last is a line feed, so none before the line feed is
pub none_before : (bytes : List ℕ) → StopsAt bytes 10 → HaveNoFeed (take (length bytes - 1) bytes)
none_before bytes stops = λ k d l. no-feed _ (stops k d l)

-- and none at all where the last is none
pub none_at_all : (bytes : List ℕ) → 0 < length bytes → StopsAt bytes 10 → (get_or bytes (length bytes - 1) 0 == 10) ≡ false
    → HaveNoFeed bytes
none_at_all bytes some stops last =
    let within : length bytes - 1 < length bytes = omega arith in
    let whole : take (length bytes - 1 + 1) bytes ≡ bytes = take_all (length bytes - 1 + 1) bytes (omega arith) in
    subst HaveNoFeed whole
    (All-more (λ b. (b == 10) ≡ false) bytes (length bytes - 1) 0 within (none_before bytes stops) last)

-- all of known bytes were taken where no line feed was
through-all : (bytes : List ℕ) → HaveNoFeed (take_through 10 bytes) → take_through 10 bytes ≡ bytes
through-all [] none = refl
through-all (b ∷ bs) none = elim (cases_Bool (b == 10)) [
  | inl here ↦ absurd (
      let one : HaveNoFeed (b ∷ []) = subst (λ t. HaveNoFeed (cond t (b ∷ []) (b ∷ take_through 10 bs))) here none in
      let not_here : (b == 10) ≡ false = All-head (λ x. (x == 10) ≡ false) b [] one in let g : ⊥ = cc in g)
  | inr later ↦ (
      let more : HaveNoFeed (b ∷ take_through 10 bs) =
      subst (λ t. HaveNoFeed (cond t (b ∷ []) (b ∷ take_through 10 bs))) later none in
      ap (λ t. cond t (b ∷ []) (b ∷ take_through 10 bs)) later
      ∙ ap (λ xs. b ∷ xs) (through-all bs (All-tail (λ x. (x == 10) ≡ false) b (take_through 10 bs) more)))
]

-- nothing is taken only where nothing is left
through-none : (bytes : List ℕ) → take_through 10 bytes ≡ [] → bytes ≡ []
through-none [] e = refl
through-none (b ∷ bs) e = elim (cases_Bool (b == 10)) [
  | inl here ↦ absurd (let g : ⊥ = cc in g)
  | inr later ↦ absurd (let g : ⊥ = cc in g)
]

all-of : (left : Option (List ℕ)) (bytes : List ℕ) → HaveNoFeed bytes → IfSome left (λ xs. bytes ≡ take_through 10 xs)
    → HadLeft left bytes
all-of None bytes none known = tt
all-of (Some xs) bytes none known = sym (known ∙ through-all xs (subst HaveNoFeed known none))

none-of : (left : Option (List ℕ)) (bytes : List ℕ) → bytes ≡ [] → IfSome left (λ xs. bytes ≡ take_through 10 xs)
    → HadLeft left []
none-of None bytes e known = tt
none-of (Some xs) bytes e known = through-none xs (sym known ∙ e)

-- bytes up to a line feed or to the end are what was found
pub found_of : (left left2 : Option (List ℕ)) (bytes line : List ℕ) (f : Found) → IsCut bytes line f
    → Consumes left left2 bytes → IfSome left (λ xs. bytes ≡ take_through 10 xs) → IsFound left left2 line f
found_of left left2 bytes line found.Line cut lost known = record {
  bytes = bytes;
  read = lost;
  next = λ more. ap (λ xs. lines (xs ++ more)) cut.0 ∙ line-before line more cut.1;
}
found_of left left2 bytes line found.Last cut lost known = record {
  bytes = bytes;
  all = all-of left bytes cut.2 known;
  last = line-alone bytes cut.1 cut.2 ∙ ap (λ xs. xs ∷ []) (sym cut.0);
}
found_of left left2 bytes line found.End cut lost known = none-of left bytes cut known

drop-nothing : (xs : List ℕ) → drop 0 xs ≡ xs
drop-nothing [] = refl
drop-nothing (x ∷ xs) = refl

-- what was appended to nothing is all that a buffer has
pub lost_of : (left left2 : Option (List ℕ)) (old new : List ℕ) → old ≡ [] → Consumes left left2 (appended_bytes old new)
    → Consumes left left2 new
lost_of left left2 old new e h =
    subst (Consumes left left2) (drop-nothing new) (subst (λ o. Consumes left left2 (appended_bytes o new)) e h)

pub known_of : (left : Option (List ℕ)) (old new : List ℕ) → old ≡ []
    → IfSome left (λ xs. new ≡ old ++ take_through 10 xs) → IfSome left (λ xs. new ≡ take_through 10 xs)
known_of left old new e h = subst (λ o. IfSome left (λ xs. new ≡ o ++ take_through 10 xs)) e h
