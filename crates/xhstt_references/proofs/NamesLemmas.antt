-- Names among names, and the texts that stand for them.
use Rattle.std.proofs.Common.{◌≡◌, ◌∙◌, sym, ap, ℕ, ◌+◌, Bool, true, false, not, cond, ◌||◌, List, [], ◌∷◌, ◌++◌}
use Rattle.std.proofs.Common.{map, length, Some, None, refl}
use Rattle.std.proofs.Common.{if◌then◌else◌, position, string_bytes, String, ltb}
use Rattle.std.specs.List.{list_any, position_or_len}
use Rattle.std.specs.Str.{bytes_eq, IsUtf8}
use Rattle.std.specs.String.{string_eq}
use Rattle.std.proofs.lemmas.Bool.{true≢false, or_parts, and_parts, and_from}
use Rattle.std.proofs.lemmas.List.{map-append, length-map}
use Rattle.std.proofs.lemmas.List.Folds.{list_any-append}
use Rattle.std.proofs.lemmas.Slice.Eq.{bytes_eq-Decides}
use Rattle.std.proofs.lemmas.Str.{IsUtf8-string_bytes}
use Rattle.khe_base.specs.Names.{is_among_names, number_of, with_name, are_distinct}
use Rattle.khe_base.specs.Text.{characters}
use Rattle.khe_base.proofs.TextLemmas.{bytes_eq-characters}

-- the names that these texts stand for
abbrev pub names_of : {Y : Type 0} → List (String Y) → List (List ℕ)
names_of keys = map (λ k. characters (string_bytes k)) keys

module _ {Y : Type 0} (bs : List ℕ) (u : IsUtf8 bs) where
  -- a name is among the names exactly where its bytes are among the texts
  pub is_among_names-characters : (keys : List (String Y))
      → is_among_names (characters bs) (names_of keys) ≡ list_any (λ k. bytes_eq bs (string_bytes k)) keys
  is_among_names-characters [] = refl
  is_among_names-characters (k ∷ keys) = λ i. bytes_eq-characters bs (string_bytes k) u (IsUtf8-string_bytes k) i ||
      is_among_names-characters keys i

  -- and it is first found at the same place
  place-characters : (keys : List (String Y)) → position_or_len (λ n. bytes_eq (characters bs) n) (names_of keys)
      ≡ position_or_len (λ k. bytes_eq bs (string_bytes k)) keys
  place-characters [] = refl
  place-characters (k ∷ keys) = λ i. cond (not (bytes_eq-characters bs (string_bytes k) u (IsUtf8-string_bytes k) i))
      (1 + place-characters keys i) 0

  pub number_of-characters : (keys : List (String Y))
      → number_of (characters bs) (names_of keys) ≡ position (λ k. bytes_eq bs (string_bytes k)) keys
  number_of-characters keys = λ i. cond (ltb (place-characters keys i)
      (length-map keys (λ k. characters (string_bytes k)) i)) (Some (place-characters keys i)) None

-- a text that is inserted where no text has its bytes is a name that is added where it is new
pub names_of-insert : {Y : Type 0} (k : String Y) (keys : List (String Y))
    → names_of (if list_any (string_eq k) keys then keys else keys ++ k ∷ [])
    ≡ with_name (characters (string_bytes k)) (names_of keys)
names_of-insert k keys =
    by (list_any (string_eq k) keys) ∙ ap (λ b. if b then names_of keys else names_of keys
    ++ characters (string_bytes k) ∷ []) (sym (is_among_names-characters (string_bytes k) (IsUtf8-string_bytes k)
    keys))
  where
    by : (b : Bool) → names_of (if b then keys else keys ++ k ∷ [])
        ≡ (if b then names_of keys else names_of keys ++ characters (string_bytes k) ∷ [])
    by true = refl
    by false = map-append _ keys (k ∷ [])

-- a name that differs from n differs from it the other way round too
differs : (x n : List ℕ) → bytes_eq n x ≡ false → bytes_eq x n ≡ false
differs x n h = by (bytes_eq x n) refl
  where
    by : (b : Bool) → bytes_eq x n ≡ b → bytes_eq x n ≡ false
    by false e = e
    by true e = absurd (true≢false (sym ((bytes_eq-Decides n x).1 (sym ((bytes_eq-Decides x n).0 e))) ∙ h))

-- names of which no two are equal, with a new one, are still distinct
pub are_distinct-push : (names : List (List ℕ)) (n : List ℕ) → are_distinct names ≡ true
    → is_among_names n names ≡ false → are_distinct (names ++ n ∷ []) ≡ true
are_distinct-push [] n d h = refl
are_distinct-push (x ∷ xs) n d h =
    let parts = and_parts (not (is_among_names x xs)) (are_distinct xs) d in
    let apart = or_parts (bytes_eq n x) (is_among_names n xs) h in
    and_from _ _
    (ap not (list_any-append (λ y. bytes_eq x y) xs (n ∷ [])
    ∙ (λ i. is_among_names x xs || (differs x n apart.0 i || false))) ∙ last (is_among_names x xs) parts.0)
    (are_distinct-push xs n parts.1 apart.1)
  where
    last : (b : Bool) → not b ≡ true → not (b || (false || false)) ≡ true
    last true e = e
    last false e = e

-- where one is added only if it is new, they stay distinct
pub are_distinct-with_name : (names : List (List ℕ)) (n : List ℕ) → are_distinct names ≡ true
    → are_distinct (with_name n names) ≡ true
are_distinct-with_name names n d = by (is_among_names n names) refl
  where
    by : (b : Bool) → is_among_names n names ≡ b → are_distinct (if b then names else names ++ n ∷ []) ≡ true
    by true e = d
    by false e = are_distinct-push names n d e
