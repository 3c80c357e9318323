-- The words in which constraints list times.
use Rattle.std.proofs.Common.{◌≡◌, ◌∙◌, sym, ap, subst, refl, ℕ, ◌+◌, ◌*◌, ◌<◌, ◌≤◌, ◌&&◌, Bool, true, false, zero, suc}
use Rattle.std.proofs.Common.{List, [], ◌∷◌, Some, length, get_or, slice_get, map, filter, arith, ◌⊎◌, inl, inr, ◌||◌}
use Rattle.std.specs.List.{list_any, range_with_len}
use Rattle.std.proofs.lemmas.Bool.{cases_eq, false≢true}
use Rattle.std.proofs.lemmas.Option.{none-some, same_Some}
use Rattle.khe_base.specs.ListedSets.{is_listed}
use Rattle.khe_base.proofs.ListedSetLemmas.{within, before_end, comes_once}
use Rattle.khe_instance.specs.ByTime.{AreApart, lists_between, lists_in, words_in}
use Rattle.khe_instance.specs.Watching.{lists_time}
use Rattle.khe_instance.specs.declared.rules.Rule.{Rule}

-- one of a range passes
some_passes : (f : ℕ → Bool) (from n t : ℕ) → from ≤ t → t < from + n → f t ≡ true
    → list_any f (range_with_len from n) ≡ true
some_passes f from zero t a b h = absurd (omega (arith, a, b))
some_passes f from (suc n) t a b h = by (cases_eq from t) (f from) refl
    (λ l. some_passes f (from + 1) n t l (omega (arith, b)) h)
  where
    rest : Bool
    rest = list_any f (range_with_len (from + 1) n)

    by : (from ≡ t) ⊎ (from ≡ t → ⊥) → (c : Bool) → f from ≡ c → (from + 1 ≤ t → rest ≡ true) → c || rest ≡ true
    by o true e r = refl
    by (inl same) false e r = absurd (false≢true (sym e ∙ ap f same ∙ h))
    by (inr apart) false e r = r (omega (arith, a, apart))

-- and none does
none_passes : (f : ℕ → Bool) (from n : ℕ) → ((t : ℕ) → from ≤ t → t < from + n → f t ≡ false)
    → list_any f (range_with_len from n) ≡ false
none_passes f from zero none = refl
none_passes f from (suc n) none =
    ap (λ c. c || list_any f (range_with_len (from + 1) n)) (none from (omega arith) (omega arith))
    ∙ none_passes f (from + 1) n (λ t a b. none t (omega (arith, a)) (omega (arith, b)))

pub one_in : (rule : Rule) (word t : ℕ) → 64 * word ≤ t → t < 64 * word + 64 → lists_time rule t ≡ true
    → lists_in rule word ≡ true
unfolding lists_between
one_in rule word t a b h = some_passes (lists_time rule) (64 * word) 64 t a b h

pub none_in : (rule : Rule) (word : ℕ) → ((t : ℕ) → 64 * word ≤ t → t < 64 * word + 64 → lists_time rule t ≡ false)
    → lists_in rule word ≡ false
unfolding lists_between
none_in rule word none = none_passes (lists_time rule) (64 * word) 64 none

-- the words of a rule are apart, and below their number a word is among them where the rule lists a time in it
pub words_apart : (words : ℕ) (rule : Rule) → AreApart (words_in words rule) words
words_apart words rule = record {
  within = λ j l. let m = before_end (lists_in rule) 0 words j l in omega (arith, m);
  fresh = λ j l. comes_once (lists_in rule) 0 words j l;
}

pub word_listed : (words : ℕ) (rule : Rule) (w : ℕ) → w < words → is_listed (words_in words rule) w ≡ lists_in rule w
word_listed words rule w l = within (lists_in rule) 0 words w (omega arith) (omega (arith, l))

-- what is made of one of some elements
pub made_at : {X : Type 0} (f : X → List ℕ) (xs : List X) (k : ℕ) (x : X) → slice_get xs k ≡ Some x
    → get_or (map f xs) k [] ≡ f x
made_at f [] k x h = absurd (none-some x h)
made_at f (y ∷ xs) zero x h = ap f (same_Some y x h)
made_at f (y ∷ xs) (suc k) x h = made_at f xs k x h
