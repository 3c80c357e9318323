-- What is made of a list is made of another that was mapped from it, where its elements are looked at alike.
use Rattle.std.proofs.Common.{◌≡◌, ◌∙◌, ap, ap₂, refl, sym, ℕ, ◌+◌, Bool, true, false, cond, Option, Some, None, List, []}
use Rattle.std.proofs.Common.{◌∷◌, ◌++◌, map, filter, sum_by, slice_get, flat_map, ◌||◌, option_map, find}
use Rattle.std.specs.Option.{option_map_or}
use Rattle.std.specs.List.{cons_option, enumerate_from, filter_map, list_any}
use Rattle.std.proofs.lemmas.List.Concat.{flat_map-cons}
use Rattle.std.proofs.lemmas.List.{map-append}
use Rattle.std.proofs.lemmas.Option.{slice_get-map}
use Rattle.khe_base.proofs.ListLemmas.{sum-mapped}
use Rattle.xhstt_resolve.specs.Members.{numbers_from}

pub map_alike : {A B C : Type 0} (f : A → C) (h : B → C) (g : A → B) → ((x : A) → h (g x) ≡ f x) → (xs : List A)
    → map h (map g xs) ≡ map f xs
map_alike f h g e [] = refl
map_alike f h g e (x ∷ xs) = ap₂ (λ y ys. y ∷ ys) (e x) (map_alike f h g e xs)

-- a part of each element, mapped
pub parts_alike : {A B C D : Type 0} (part : A → C) (own : B → D) (g : A → B) (k : C → D)
    → ((x : A) → own (g x) ≡ k (part x)) → (xs : List A) → map own (map g xs) ≡ map k (map part xs)
parts_alike part own g k e [] = refl
parts_alike part own g k e (x ∷ xs) = ap₂ (λ y ys. y ∷ ys) (e x) (parts_alike part own g k e xs)

pub flat_alike : {A B C : Type 0} (f : A → List C) (h : B → List C) (g : A → B) → ((x : A) → h (g x) ≡ f x)
    → (xs : List A) → flat_map h (map g xs) ≡ flat_map f xs
flat_alike f h g e [] = refl
flat_alike f h g e (x ∷ xs) =
    flat_map-cons h (g x) (map g xs) ∙ ap₂ (λ y z. y ++ z) (e x) (flat_alike f h g e xs) ∙ sym (flat_map-cons f x xs)

-- lists of parts, mapped
pub flat_parts : {A B C D : Type 0} (f : A → List C) (h : B → List D) (g : A → B) (k : C → D)
    → ((x : A) → h (g x) ≡ map k (f x)) → (xs : List A) → flat_map h (map g xs) ≡ map k (flat_map f xs)
flat_parts f h g k e [] = refl
flat_parts f h g k e (x ∷ xs) =
    flat_map-cons h (g x) (map g xs) ∙ ap₂ (λ y z. y ++ z) (e x) (flat_parts f h g k e xs)
    ∙ sym (map-append k (f x) (flat_map f xs)) ∙ ap (map k) (sym (flat_map-cons f x xs))

-- two lists of parts, joined
pub joined_parts : {C D : Type 0} (k : C → D) (xs ys : List C) (us vs : List D) → us ≡ map k xs → vs ≡ map k ys
    → us ++ vs ≡ map k (xs ++ ys)
joined_parts k xs ys us vs e d = ap₂ (λ y z. y ++ z) e d ∙ sym (map-append k xs ys)

pub numbered_alike : {A B C : Type 0} (f : ℕ × A → List C) (h : ℕ × B → List C) (g : A → B)
    → ((n : ℕ) (x : A) → h (n, g x) ≡ f (n, x)) → (n : ℕ) (xs : List A)
    → flat_map h (enumerate_from n (map g xs)) ≡ flat_map f (enumerate_from n xs)
numbered_alike f h g e n [] = refl
numbered_alike f h g e n (x ∷ xs) =
    flat_map-cons h (n, g x) (enumerate_from (n + 1) (map g xs))
    ∙ ap₂ (λ y z. y ++ z) (e n x) (numbered_alike f h g e (n + 1) xs)
    ∙ sym (flat_map-cons f (n, x) (enumerate_from (n + 1) xs))

pub chosen_alike : {A B C : Type 0} (f : A → Option C) (h : B → Option C) (g : A → B) → ((x : A) → h (g x) ≡ f x)
    → (xs : List A) → filter_map h (map g xs) ≡ filter_map f xs
chosen_alike f h g e [] = refl
chosen_alike f h g e (x ∷ xs) = ap₂ cons_option (e x) (chosen_alike f h g e xs)

-- parts that some elements have, mapped
pub chosen_parts : {A B C D : Type 0} (f : A → Option C) (h : B → Option D) (g : A → B) (k : C → D)
    → ((x : A) → h (g x) ≡ option_map k (f x)) → (xs : List A)
    → filter_map h (map g xs) ≡ map k (filter_map f xs)
chosen_parts f h g k e [] = refl
chosen_parts f h g k e (x ∷ xs) =
    ap₂ cons_option (e x) (chosen_parts f h g k e xs) ∙ one k (f x) (filter_map f xs)
  where
    one : {C D : Type 0} (k : C → D) (o : Option C) (ys : List C)
        → cons_option (option_map k o) (map k ys) ≡ map k (cons_option o ys)
    one k None ys = refl
    one k (Some y) ys = refl

pub filter_mapped : {X Y : Type 0} (f : X → Y) (q : Y → Bool) (r : X → Bool) → ((x : X) → q (f x) ≡ r x) → (xs : List X)
    → filter q (map f xs) ≡ map f (filter r xs)
filter_mapped f q r e [] = refl
filter_mapped {X} {Y} f q r e (x ∷ xs) =
    ap (λ b. cond b (f x ∷ filter q (map f xs)) (filter q (map f xs))) (e x) ∙ by (r x) (filter_mapped f q r e xs)
  where
    by : (b : Bool) → filter q (map f xs) ≡ map f (filter r xs)
        → cond b (f x ∷ filter q (map f xs)) (filter q (map f xs))
        ≡ map f (cond b (x ∷ filter r xs) (filter r xs))
    by true d = ap (λ l. f x ∷ l) d
    by false d = d

pub any_alike : {A B : Type 0} (f : A → Bool) (h : B → Bool) (g : A → B) → ((x : A) → h (g x) ≡ f x) → (xs : List A)
    → list_any h (map g xs) ≡ list_any f xs
any_alike f h g e [] = refl
any_alike f h g e (x ∷ xs) = ap₂ (λ b c. b || c) (e x) (any_alike f h g e xs)

pub sum_alike : {A B : Type 0} (f : A → ℕ) (h : B → ℕ) (g : A → B) → ((x : A) → h (g x) ≡ f x) → (xs : List A)
    → sum_by h (map g xs) ≡ sum_by f xs
sum_alike f h g e xs = sum-mapped h g xs ∙ (λ i. sum_by (λ x. e x i) xs)

pub numbers_alike : {A B : Type 0} (f : A → Bool) (h : B → Bool) (g : A → B) → ((x : A) → h (g x) ≡ f x) → (n : ℕ)
    (xs : List A) → numbers_from h n (map g xs) ≡ numbers_from f n xs
numbers_alike f h g e n [] = refl
numbers_alike f h g e n (x ∷ xs) =
    ap₂ (λ b ys. cond b (n ∷ []) [] ++ ys) (e x) (numbers_alike f h g e (n + 1) xs)

-- what is made of an element at a place
pub at_alike : {A B C : Type 0} (f : A → C) (h : B → C) (g : A → B) (d : C) → ((x : A) → h (g x) ≡ f x) → (xs : List A)
    (n : ℕ) → option_map_or h (slice_get (map g xs) n) d ≡ option_map_or f (slice_get xs n) d
at_alike {A} f h g d e xs n = ap (λ o. option_map_or h o d) (slice_get-map g xs n) ∙ by (slice_get xs n)
  where
    by : (o : Option A) → option_map_or h (option_map g o) d ≡ option_map_or f o d
    by None = refl
    by (Some x) = e x

-- and of one that may be there
pub some_alike : {A B C : Type 0} (f : A → C) (h : B → C) (g : A → B) (d : C) → ((x : A) → h (g x) ≡ f x)
    → (o : Option A) → option_map_or h (option_map g o) d ≡ option_map_or f o d
some_alike f h g d e None = refl
some_alike f h g d e (Some x) = e x

-- the first element that passes a test
pub found_mapped : {X Y : Type 0} (f : X → Y) (q : Y → Bool) (r : X → Bool) → ((x : X) → q (f x) ≡ r x) → (xs : List X)
    → find q (map f xs) ≡ option_map f (find r xs)
found_mapped f q r e [] = refl
found_mapped {X} {Y} f q r e (x ∷ xs) =
    ap (λ b. cond b (Some (f x)) (find q (map f xs))) (e x) ∙ by (r x) (found_mapped f q r e xs)
  where
    by : (b : Bool) → find q (map f xs) ≡ option_map f (find r xs)
        → cond b (Some (f x)) (find q (map f xs)) ≡ option_map f (cond b (Some x) (find r xs))
    by true d = refl
    by false d = d

-- what is made of the elements with their numbers
pub numbered_map : {A B C : Type 0} (f : ℕ × A → C) (h : ℕ × B → C) (g : A → B)
    → ((n : ℕ) (x : A) → h (n, g x) ≡ f (n, x)) → (n : ℕ) (xs : List A)
    → map h (enumerate_from n (map g xs)) ≡ map f (enumerate_from n xs)
numbered_map f h g e n [] = refl
numbered_map f h g e n (x ∷ xs) = ap₂ (λ y ys. y ∷ ys) (e n x) (numbered_map f h g e (n + 1) xs)
