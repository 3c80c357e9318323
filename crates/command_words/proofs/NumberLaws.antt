-- Options that must be there, each with a number: they are given where they are as many, and each is found in its
-- range.
use Rattle.std.proofs.Common.{ℕ, suc, ◌≡◌, ◌≤◌, ◌+◌, ◌∙◌, Bool, true, false, cond, Option, Some, None, List, [], ◌∷◌, ◌++◌}
use Rattle.std.proofs.Common.{length, refl, sym, ap, subst, arith}
use Rattle.std.specs.Prelude.{◌&&◌, nat_le}
use Rattle.std.specs.Option.{option_and_then}
use Rattle.std.specs.Str.{bytes_eq}
use Rattle.std.proofs.lemmas.Bool.{false_from_ne_true}
use Rattle.std.proofs.lemmas.Bool.Decides.{nat_tests}
use Rattle.std.proofs.lemmas.Option.{option_and_then_some}
use Rattle.std.proofs.lemmas.Slice.Eq.{bytes_eq-Decides}
use Rattle.khe_base.specs.Digits.{number_of}
use Rattle.khe_base.specs.declared.limits.TheConstants.{DIGITS}
use Rattle.command_words.specs.Words.{number_by, number_to}
use Rattle.command_words.specs.Commands.{Choice, Said, must, number, up_to}
use Rattle.command_words.specs.Table.{AreGiven, Given, SaysValue, given_words}
use Rattle.command_words.proofs.GivenLaws.{AllOf, Fits, HasValue, Lacks, each, found, found_there, left}
use Rattle.command_words.proofs.GivenLaws.{are_pairs, one_more, pairs, pairs_valued, passed_over, stands_in, value_found}

-- a number in its range, by the digits that write it
pub record IsNumber (greatest : ℕ) (word : List ℕ) (n : ℕ) : Type 0 where
  pub writes : number_of DIGITS word ≡ Some n
  pub least : 1 ≤ n
  pub most : n ≤ greatest

in_range : (greatest n m : ℕ) → cond (nat_le 1 n && nat_le n greatest) (Some n) None ≡ Some m
    → (n ≡ m) × (1 ≤ n) × (n ≤ greatest)
in_range greatest n m = by (nat_le 1 n && nat_le n greatest) refl
  where
    by : (b : Bool) → (nat_le 1 n && nat_le n greatest) ≡ b → cond b (Some n) None ≡ Some m
        → (n ≡ m) × (1 ≤ n) × (n ≤ greatest)
    by true e f =
        let same : n ≡ m = cc in
        let low : 1 ≤ n = grind (arith, nat_tests) in
        let high : n ≤ greatest = grind (arith, nat_tests) in
        (same, low, high)
    by false e f = cc

pub number_read : (greatest : ℕ) (word : List ℕ) (n : ℕ) → number_to greatest word ≡ Some n → IsNumber greatest word n
unfolding number_to
number_read greatest word n e =
    option_and_then_some (λ m. cond (nat_le 1 m && nat_le m greatest) (Some m) None) (number_of DIGITS word) n e
    (λ m writes ranged. let r = in_range greatest m n ranged in
    record {
      writes = writes ∙ ap Some r.0;
      least = subst (λ x. 1 ≤ x) r.0 r.1;
      most = subst (λ x. x ≤ greatest) r.0 r.2;
    })

within : (greatest n : ℕ) → 1 ≤ n → n ≤ greatest → (nat_le 1 n && nat_le n greatest) ≡ true
within greatest n l m = grind (arith, nat_tests)

pub number_kept : (greatest : ℕ) (word : List ℕ) (n : ℕ) → IsNumber greatest word n → number_to greatest word ≡ Some n
unfolding number_to
number_kept greatest word n h =
    ap (λ o. option_and_then (λ m. cond (nat_le 1 m && nat_le m greatest) (Some m) None) o) h.writes
    ∙ ap (λ b. cond b (Some n) None) (within greatest n h.least h.most)

-- options by their words and their greatest numbers
abbrev pub Must : Type 0
Must = List ℕ × ℕ

abbrev pub musts : List Must → List Choice
musts [] = []
musts (m ∷ more) = must m.0 m.1 ∷ musts more

-- the number of an option that is given
abbrev pub number_in : List ℕ → ℕ → List Given → Option ℕ
number_in name greatest given = option_and_then (number_to greatest) (found name given)

pub number_given : (name : List ℕ) (greatest : ℕ) (given : List Given) → AllOf HasValue given
    → number_by name greatest (given_words given) ≡ number_in name greatest given
unfolding number_by
number_given name greatest given h = ap (option_and_then (number_to greatest)) (value_found name given h)

-- each is found with its number
abbrev pub AreNumbers : List Must → List Given → List (Option Said) → Type 0
AreNumbers [] given [] = Unit {0}
AreNumbers (m ∷ more) given (Some (number n) ∷ said) = (number_in m.0 m.1 given ≡ Some n) × AreNumbers more given said
AreNumbers _ given _ = ⊥

-- none of them has this word
abbrev pub AreOther : List ℕ → List Must → Type 0
AreOther word [] = Unit {0}
AreOther word (m ∷ more) = (bytes_eq m.0 word ≡ false) × AreOther word more

-- and no two the same
abbrev pub AreDistinct : List Must → Type 0
AreDistinct [] = Unit {0}
AreDistinct (m ∷ more) = AreOther m.0 more × AreDistinct more

-- numbers stay where another option is put among them, or taken away
added : (more : List Must) (before after : List Given) (g : Given) (said : List (Option Said)) → AreOther g.word more
    → AreNumbers more (before ++ after) said → AreNumbers more (before ++ (g ∷ after)) said
added [] before after g [] o h = tt
added [] before after g (s ∷ said) o h = absurd h
added (m ∷ more) before after g [] o h = absurd h
added (m ∷ more) before after g (None ∷ said) o h = absurd h
added (m ∷ more) before after g (Some (number n) ∷ said) o h =
    (ap (option_and_then (number_to m.1)) (passed_over m.0 before after g o.0) ∙ h.0, added more before after g said o.1 h.1)
added (m ∷ more) before after g (Some _ ∷ said) o h = absurd h

taken : (more : List Must) (before after : List Given) (g : Given) (said : List (Option Said)) → AreOther g.word more
    → AreNumbers more (before ++ (g ∷ after)) said → AreNumbers more (before ++ after) said
taken [] before after g [] o h = tt
taken [] before after g (s ∷ said) o h = absurd h
taken (m ∷ more) before after g [] o h = absurd h
taken (m ∷ more) before after g (None ∷ said) o h = absurd h
taken (m ∷ more) before after g (Some (number n) ∷ said) o h = (
  sym (ap (option_and_then (number_to m.1)) (passed_over m.0 before after g o.0)) ∙ h.0,
  taken more before after g said o.1 h.1,
)
taken (m ∷ more) before after g (Some _ ∷ said) o h = absurd h

-- a value that says a number
valued : (greatest : ℕ) (value : Option (List ℕ)) (s : Said) → SaysValue (Some (up_to greatest)) value s
    → (word : List ℕ) × (value ≡ Some word)
valued greatest None s h = absurd h
valued greatest (Some word) s h = (word, refl)

pub all_valued : (more : List Must) (given : List Given) (said : List (Option Said))
    → AreGiven (musts more) given said → AllOf HasValue given
all_valued more given said h = each HasValue (musts more) given said h (fit more)
  where
    fit : (more : List Must) → Fits HasValue (musts more)
    fit [] = tt
    fit (m ∷ more) = ((λ g s w v. valued m.1 g.value s v), fit more)

flipped : (a b : List ℕ) → bytes_eq b a ≡ false → bytes_eq a b ≡ false
flipped a b e =
    false_from_ne_true (bytes_eq a b) (λ d. let same : a ≡ b = (bytes_eq-Decides a b).0 d in
    let t : bytes_eq b a ≡ true = (bytes_eq-Decides b a).1 (sym same) in
    let f : true ≡ false = sym t ∙ e in cc)

none_lack : (name : List ℕ) (more : List Must) → AreOther name more → Fits (Lacks name) (musts more)
none_lack name [] o = tt
none_lack name (m ∷ more) o = (
  (λ g s w v. flipped name g.word (subst (λ x. bytes_eq x name ≡ false) (sym w) o.0)),
  none_lack name more o.1,
)

-- what the value of such an option says
pub record SaysNumber (greatest : ℕ) (value : Option (List ℕ)) (s : Said) : Type 0 where
  pub word : List ℕ
  pub n : ℕ
  pub value_is : value ≡ Some word
  pub said_is : s ≡ number n
  pub is : IsNumber greatest word n

pub says_number : (greatest : ℕ) (value : Option (List ℕ)) (s : Said) → SaysValue (Some (up_to greatest)) value s
    → SaysNumber greatest value s
says_number greatest None s h = absurd h
says_number greatest (Some word) s (n, said, writes, low, high) =
    record {
      word = word;
      n = n;
      value_is = refl;
      said_is = said;
      is = record { writes = writes; least = low; most = high };
    }

-- given options are found with their numbers, and are as many
pub record AreFound (more : List Must) (given : List Given) (said : List (Option Said)) : Type 0 where
  pub numbers : AreNumbers more given said
  pub many : length given ≡ length more

with_first : (m : Must) (more : List Must) (given : List Given) (s : Said) (said : List (Option Said)) (n : ℕ)
    → s ≡ number n → number_in m.0 m.1 given ≡ Some n → AreNumbers more given said
    → AreNumbers (m ∷ more) given (Some s ∷ said)
with_first m more given s said n e f h =
    subst (λ (x : Said). AreNumbers (m ∷ more) given (Some x ∷ said)) (sym e) (f, h)

pub numbers_given : (more : List Must) (given : List Given) (said : List (Option Said)) → AreDistinct more
    → AreGiven (musts more) given said → AreFound more given said
numbers_given [] given [] d h = record { numbers = tt; many = ap length h }
numbers_given [] given (s ∷ said) d h = absurd h
numbers_given (m ∷ more) given [] d h = absurd h
numbers_given (m ∷ more) given (None ∷ said) d h = let e : true ≡ false = h.0 in cc
numbers_given (m ∷ more) given (Some s ∷ said) d (before, g, after, e, w, v, rest) =
    let later = numbers_given more (before ++ after) said d.1 rest in
    let others : AreOther g.word more = subst (λ x. AreOther x more) (sym w) d.0 in
    let value = says_number m.1 g.value s v in
    let lack : AllOf (Lacks m.0) (before ++ after) = each (Lacks m.0) (musts more) (before ++ after) said rest
    (none_lack m.0 more d.0) in
    let there : found m.0 (before ++ (g ∷ after)) ≡ Some value.word =
    found_there m.0 before after g lack ((bytes_eq-Decides m.0 g.word).1 (sym w)) ∙ value.value_is in
    let counted : number_in m.0 m.1 (before ++ (g ∷ after)) ≡ Some value.n =
    ap (option_and_then (number_to m.1)) there ∙ number_kept m.1 value.word value.n value.is in
    record {
      numbers = subst (λ x. AreNumbers (m ∷ more) x (Some s ∷ said)) (sym e)
          (with_first m more (before ++ (g ∷ after)) s said value.n value.said_is counted
          (added more before after g said others later.numbers));
      many = ap length e ∙ one_more before after g ∙ ap suc later.many;
    }

-- and numbers that are found were given
says_found : (greatest : ℕ) (value : Option (List ℕ)) (word : List ℕ) (n : ℕ) → value ≡ Some word
    → IsNumber greatest word n → SaysValue (Some (up_to greatest)) value (number n)
says_found greatest value word n e h =
    subst (λ x. SaysValue (Some (up_to greatest)) x (number n)) (sym e) (n, refl, h.writes, h.least, h.most)

pub given_numbers : (more : List Must) (given : List Given) (said : List (Option Said)) → AreDistinct more
    → AreNumbers more given said → length given ≡ length more → AllOf HasValue given
    → AreGiven (musts more) given said
given_numbers [] [] [] d h e v = refl
given_numbers [] (g ∷ given) [] d h e v = absurd (let none : suc (length given) ≡ 0 = e in omega (arith, none))
given_numbers [] given (s ∷ said) d h e v = absurd h
given_numbers (m ∷ more) given [] d h e v = absurd h
given_numbers (m ∷ more) given (None ∷ said) d h e v = absurd h
given_numbers (m ∷ more) given (Some (number n) ∷ said) d h e v =
    option_and_then_some (number_to m.1) (found m.0 given) n h.0 (λ word at writes.
    let s = stands_in m.0 word given at in
    let others : AreOther s.g.word more = subst (λ x. AreOther x more) (sym s.word) d.0 in
    let fewer : length (s.before ++ s.after) ≡ length more =
    let all : length (s.before ++ (s.g ∷ s.after)) ≡ suc (length more) = ap length (sym s.given_is) ∙ e in
    let one = one_more s.before s.after s.g in omega (arith, all, one) in (
      s.before,
      s.g,
      s.after,
      s.given_is,
      s.word,
      says_found m.1 s.g.value word n s.value_is (number_read m.1 word n writes),
      given_numbers more (s.before ++ s.after) said d.1
          (taken more s.before s.after s.g said others (subst (λ x. AreNumbers more x said) s.given_is h.1)) fewer
          (left HasValue s.before s.after s.g (subst (AllOf HasValue) s.given_is v)),
    ))
given_numbers (m ∷ more) given (Some _ ∷ said) d h e v = absurd h

-- words that spell such options
pub record Spells (more : List Must) (words : List (List ℕ)) (said : List (Option Said)) : Type 0 where
  pub given : List Given
  pub words_are : words ≡ given_words given
  pub are : AreGiven (musts more) given said

pub spells : (more : List Must) (words : List (List ℕ)) (said : List (Option Said)) → AreDistinct more
    → length words ≡ length more + length more → AreNumbers more (pairs words) said → Spells more words said
spells more words said d e h =
    let p = are_pairs words (length more) e in
    record {
      given = pairs words;
      words_are = sym p.spelled;
      are = given_numbers more (pairs words) said d h p.many (pairs_valued words);
    }

pub in_pairs : (name : List ℕ) (greatest : ℕ) (words : List (List ℕ)) (k n : ℕ) → length words ≡ k + k
    → number_by name greatest words ≡ Some n → number_in name greatest (pairs words) ≡ Some n
in_pairs name greatest words k n e h =
    sym (number_given name greatest (pairs words) (pairs_valued words))
    ∙ ap (number_by name greatest) (are_pairs words k e).spelled ∙ h

-- the first of some numbers
pub record IsFirst (m : Must) (more : List Must) (given : List Given) (said : List (Option Said)) : Type 0 where
  pub n : ℕ
  pub later : List (Option Said)
  pub said_is : said ≡ Some (number n) ∷ later
  pub is : number_in m.0 m.1 given ≡ Some n
  pub numbers : AreNumbers more given later

pub first_number : (m : Must) (more : List Must) (given : List Given) (said : List (Option Said))
    → AreNumbers (m ∷ more) given said → IsFirst m more given said
first_number m more given [] h = absurd h
first_number m more given (None ∷ said) h = absurd h
first_number m more given (Some (number n) ∷ said) h =
    record { n = n; later = said; said_is = refl; is = h.0; numbers = h.1 }
first_number m more given (Some _ ∷ said) h = absurd h

pub no_number : (given : List Given) (said : List (Option Said)) → AreNumbers [] given said → said ≡ []
no_number given [] h = refl
no_number given (s ∷ said) h = absurd h
