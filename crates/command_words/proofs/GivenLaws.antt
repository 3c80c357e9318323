-- Options that are given, one after the other: which are found by their names.
use Rattle.std.proofs.Common.{ℕ, suc, zero, ◌≡◌, ◌+◌, ◌∙◌, Bool, true, false, cond, Option, Some, None, List, [], ◌∷◌, ◌++◌}
use Rattle.std.proofs.Common.{length, refl, sym, ap, subst, arith}
use Rattle.std.proofs.lemmas.Slice.Eq.{bytes_eq-Decides}
use Rattle.std.specs.Str.{bytes_eq}
use Rattle.command_words.specs.Words.{value_of}
use Rattle.command_words.specs.Commands.{Choice, Said}
use Rattle.command_words.specs.Table.{AreGiven, Given, SaysValue, given_words, with_value}

-- each has this
abbrev pub AllOf : (Given → Type 0) → List Given → Type 0
AllOf P [] = Unit {0}
AllOf P (g ∷ given) = P g × AllOf P given

pub inserted : (P : Given → Type 0) (before after : List Given) (g : Given) → AllOf P (before ++ after) → P g
    → AllOf P (before ++ (g ∷ after))
inserted P [] after g h p = (p, h)
inserted P (b ∷ before) after g h p = (h.0, inserted P before after g h.1 p)

pub left : (P : Given → Type 0) (before after : List Given) (g : Given) → AllOf P (before ++ (g ∷ after))
    → AllOf P (before ++ after)
left P [] after g h = h.1
left P (b ∷ before) after g h = (h.0, left P before after g h.1)

pub one_more : (before after : List Given) (g : Given) → length (before ++ (g ∷ after)) ≡ suc (length (before ++ after))
one_more [] after g = refl
one_more (b ∷ before) after g = ap suc (one_more before after g)

-- what each of the options, where it is given, has
abbrev pub Fits : (Given → Type 0) → List Choice → Type 0
Fits P [] = Unit {0}
Fits P (o ∷ options) =
    ((g : Given) (s : Said) → g.word ≡ o.word → SaysValue o.value g.value s → P g) × Fits P options

pub each : (P : Given → Type 0) (options : List Choice) (given : List Given) (said : List (Option Said))
    → AreGiven options given said → Fits P options → AllOf P given
each P [] given [] h f = subst (AllOf P) (sym h) tt
each P [] given (s ∷ said) h f = absurd h
each P (o ∷ options) given [] h f = absurd h
each P (o ∷ options) given (None ∷ said) h f = each P options given said h.1 f.1
each P (o ∷ options) given (Some s ∷ said) (before, g, after, e, w, v, more) f =
    subst (AllOf P) (sym e)
    (inserted P before after g (each P options (before ++ after) said more f.1) (f.0 g s w v))

-- an option with a value
abbrev pub HasValue : Given → Type 0
HasValue g = (value : List ℕ) × (g.value ≡ Some value)

-- the value of the first one with this word
abbrev pub found : List ℕ → List Given → Option (List ℕ)
found name [] = None
found name (g ∷ given) = cond (bytes_eq name g.word) g.value (found name given)

pub value_found : (name : List ℕ) (given : List Given) → AllOf HasValue given
    → value_of name (given_words given) ≡ found name given
unfolding value_of
value_found name [] h = refl
value_found name (g ∷ given) ((value, e), h) =
    ap (λ v. value_of name (g.word ∷ with_value v (given_words given))) e
    ∙ ap (λ rest. cond (bytes_eq name g.word) (Some value) rest) (value_found name given h)
    ∙ ap (λ v. cond (bytes_eq name g.word) v (found name given)) (sym e)

pub passed_over : (name : List ℕ) (before after : List Given) (g : Given) → bytes_eq name g.word ≡ false
    → found name (before ++ (g ∷ after)) ≡ found name (before ++ after)
passed_over name [] after g e = ap (λ b. cond b g.value (found name after)) e
passed_over name (b ∷ before) after g e =
    ap (λ rest. cond (bytes_eq name b.word) b.value rest) (passed_over name before after g e)

-- none has this word
abbrev pub Lacks : List ℕ → Given → Type 0
Lacks name g = bytes_eq name g.word ≡ false

pub found_there : (name : List ℕ) (before after : List Given) (g : Given) → AllOf (Lacks name) (before ++ after)
    → bytes_eq name g.word ≡ true → found name (before ++ (g ∷ after)) ≡ g.value
found_there name [] after g h e = ap (λ b. cond b g.value (found name after)) e
found_there name (b ∷ before) after g h e =
    ap (λ x. cond x b.value (found name (before ++ (g ∷ after)))) h.0 ∙ found_there name before after g h.1 e

-- where one is found, it stands at a place
pub record StandsIn (name value : List ℕ) (given : List Given) : Type 0 where
  pub before : List Given
  pub g : Given
  pub after : List Given
  pub given_is : given ≡ before ++ (g ∷ after)
  pub word : g.word ≡ name
  pub value_is : g.value ≡ Some value

stands_by : (name value : List ℕ) (g : Given) (given : List Given)
    → (found name given ≡ Some value → StandsIn name value given) → (b : Bool) → bytes_eq name g.word ≡ b
    → found name (g ∷ given) ≡ Some value → StandsIn name value (g ∷ given)
stands_by name value g given later true same e =
    record {
      before = [];
      g = g;
      after = given;
      given_is = refl;
      word = sym ((bytes_eq-Decides name g.word).0 same);
      value_is = sym (ap (λ b. cond b g.value (found name given)) same) ∙ e;
    }
stands_by name value g given later false other e =
    let there = later (sym (ap (λ b. cond b g.value (found name given)) other) ∙ e) in
    record {
      before = g ∷ there.before;
      g = there.g;
      after = there.after;
      given_is = ap (λ rest. g ∷ rest) there.given_is;
      word = there.word;
      value_is = there.value_is;
    }

pub stands_in : (name value : List ℕ) (given : List Given) → found name given ≡ Some value → StandsIn name value given
stands_in name value [] e = cc
stands_in name value (g ∷ given) e =
    stands_by name value g given (λ f. stands_in name value given f) (bytes_eq name g.word) refl e

-- words in pairs are options with their values
abbrev pub pairs : List (List ℕ) → List Given
pairs [] = []
pairs (option ∷ []) = []
pairs (option ∷ value ∷ more) = record { word = option; value = Some value } ∷ pairs more

pub pairs_valued : (words : List (List ℕ)) → AllOf HasValue (pairs words)
pairs_valued [] = tt
pairs_valued (option ∷ []) = tt
pairs_valued (option ∷ value ∷ more) = ((value, refl), pairs_valued more)

pub record ArePairs (words : List (List ℕ)) (k : ℕ) : Type 0 where
  pub spelled : given_words (pairs words) ≡ words
  pub many : length (pairs words) ≡ k

pub are_pairs : (words : List (List ℕ)) (k : ℕ) → length words ≡ k + k → ArePairs words k
are_pairs [] k e = record { spelled = refl; many = omega (arith, e) }
are_pairs (option ∷ []) k e = absurd (let one : 1 ≡ k + k = e in omega (arith, one))
are_pairs (option ∷ value ∷ more) zero e = absurd (omega (arith, e))
are_pairs (option ∷ value ∷ more) (suc k) e =
    let rest = are_pairs more k (omega (arith, e)) in
    record {
      spelled = ap (λ words. option ∷ value ∷ words) rest.spelled;
      many = ap suc rest.many;
    }

pub words_many : (given : List Given) → AllOf HasValue given → length (given_words given) ≡ length given + length given
words_many [] h = refl
words_many (g ∷ given) ((value, e), h) =
    let rest = words_many given h in
    let here : length (given_words (g ∷ given)) ≡ suc (suc (length (given_words given))) =
    ap (λ v. suc (length (with_value v (given_words given)))) e in
    omega (arith, here, rest)
