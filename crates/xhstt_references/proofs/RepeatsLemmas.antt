-- Names that come again.
use Rattle.std.proofs.Common.{◌≡◌, ◌∙◌, ap, refl, sym, subst, ℕ, Bool, true, false, ◌||◌, cond, if◌then◌else◌, List, []}
use Rattle.std.proofs.Common.{◌∷◌, ◌++◌, map, append_assoc, Option, not, ◌+◌, ◌<◌, ◌≤◌, length, get_or, drop, None}
use Rattle.std.proofs.Common.{Some}
use Rattle.std.specs.List.{filter, filter_map, cons_option}
use Rattle.std.specs.Option.{option_map_or}
use Rattle.std.specs.Str.{bytes_eq}
use Rattle.std.proofs.lemmas.Bool.{true≢false}
use Rattle.std.proofs.lemmas.List.{append-nil, drop_all}
use Rattle.std.proofs.lemmas.List.Folds.{list_any-append}
use Rattle.std.proofs.lemmas.Simd.{map-map}
use Rattle.std.proofs.lemmas.Slice.Eq.{bytes_eq-Decides}
use Rattle.khe_base.specs.Names.{is_among_names, with_name}
use Rattle.xhstt_references.specs.First.{noted, first_of}
use Rattle.xhstt_references.specs.References.{repeated, repeated_after}
use Rattle.xhstt_references.proofs.FirstLemmas.{first_of_append, first_of_nil, first_of_one}
use Rattle.xhstt_shape.specs.declared.records.Name.{Name}
use Rattle.khe_base.proofs.ListLemmas.{drop-next}

-- the names that came before, with these, each once
abbrev pub all_names : List (List ℕ) → List Name → List (List ℕ)
all_names seen [] = seen
all_names seen (n ∷ ns) = all_names (with_name n.text seen) ns

pub among_more : (x n : List ℕ) (seen : List (List ℕ))
    → is_among_names x (seen ++ n ∷ []) ≡ (is_among_names x seen || (bytes_eq x n || false))
among_more x n seen = list_any-append (λ y. bytes_eq x y) seen (n ∷ [])

or_false : (b : Bool) → (b || false) ≡ b
or_false true = refl
or_false false = refl

-- a name that was there already changes nothing
again : (x n : List ℕ) (seen : List (List ℕ)) → is_among_names n seen ≡ true
    → is_among_names x (seen ++ n ∷ []) ≡ is_among_names x seen
again x n seen h = among_more x n seen ∙ by (bytes_eq x n) refl
  where
    by : (b : Bool) → bytes_eq x n ≡ b → (is_among_names x seen || (b || false)) ≡ is_among_names x seen
    by true e =
        let there : is_among_names x seen ≡ true = ap (λ y. is_among_names y seen) ((bytes_eq-Decides x n).0 e) ∙ h in
        ap (λ b. b || true) there ∙ sym there
    by false e = or_false (is_among_names x seen)

repeated_same : (a b : List (List ℕ)) (ns : List Name) → ((x : List ℕ) → is_among_names x a ≡ is_among_names x b)
    → repeated_after a ns ≡ repeated_after b ns
repeated_same a b [] same = refl
repeated_same a b (n ∷ ns) same =
    let more : (x : List ℕ) → is_among_names x (a ++ n.text ∷ []) ≡ is_among_names x (b ++ n.text ∷ []) =
    λ x. among_more x n.text a ∙ ap (λ t. t || (bytes_eq x n.text || false)) (same x) ∙ sym (among_more x n.text b)
    in
    λ i. (if same n.text i then n.at ∷ [] else []) ++ repeated_same (a ++ n.text ∷ []) (b ++ n.text ∷ []) ns more i

repeated_with_name : (seen : List (List ℕ)) (n : List ℕ) (ns : List Name)
    → repeated_after (seen ++ n ∷ []) ns ≡ repeated_after (with_name n seen) ns
repeated_with_name seen n ns = by (is_among_names n seen) refl
  where
    by : (b : Bool) → is_among_names n seen ≡ b → repeated_after (seen ++ n ∷ []) ns
        ≡ repeated_after (if b then seen else seen ++ n ∷ []) ns
    by true e = repeated_same _ _ ns (λ x. again x n seen e)
    by false e = refl

-- the places of one name and of those after it
pub repeated_step : (first : Option ℕ) (seen : List (List ℕ)) (n : Name) (ns : List Name)
    → first_of first (repeated_after seen (n ∷ ns))
    ≡ first_of (first_of first (if is_among_names n.text seen then n.at ∷ [] else []))
    (repeated_after (with_name n.text seen) ns)
repeated_step first seen n ns =
    first_of_append first (if is_among_names n.text seen then n.at ∷ [] else []) _
    ∙ ap (first_of (first_of first (if is_among_names n.text seen then n.at ∷ [] else [])))
    (repeated_with_name seen n.text ns)

-- where no name comes again, the first one is new, and none of the others comes again after it
pub fresh : (seen : List (List ℕ)) (n : Name) (ns : List Name) → repeated_after seen (n ∷ ns) ≡ []
    → (is_among_names n.text seen ≡ false) × (repeated_after (seen ++ n.text ∷ []) ns ≡ [])
fresh seen n ns h = by (is_among_names n.text seen) refl h
  where
    by : (b : Bool) → is_among_names n.text seen ≡ b
        → (if b then n.at ∷ [] else []) ++ repeated_after (seen ++ n.text ∷ []) ns ≡ []
        → (is_among_names n.text seen ≡ false) × (repeated_after (seen ++ n.text ∷ []) ns ≡ [])
    by true e r = cc
    by false e r = (e, r)

all_names_fresh : (seen : List (List ℕ)) (ns : List Name) → repeated_after seen ns ≡ []
    → all_names seen ns ≡ seen ++ map (λ n. n.text) ns
all_names_fresh seen [] h = sym (append-nil seen)
all_names_fresh seen (n ∷ ns) h =
    let f = fresh seen n ns h in
    ap (λ b. all_names (if b then seen else seen ++ n.text ∷ []) ns) f.0
    ∙ all_names_fresh (seen ++ n.text ∷ []) ns f.1
    ∙ append_assoc seen (n.text ∷ []) (map (λ m. m.text) ns)

-- names of which none comes again are all names, each once
pub all_names_are : {X : Type 0} (id : X → Name) (xs : List X) → repeated (map id xs) ≡ []
    → all_names [] (map id xs) ≡ map (λ x. (id x).text) xs
all_names_are id xs h = all_names_fresh [] (map id xs) h ∙ map-map (λ n. n.text) id xs

module _ {X : Type 0} (id : X → Name) (p : X → Bool) where
  -- where no name comes again, none comes again in a part of the list, after fewer names
  repeated_part : (small big : List (List ℕ)) (xs : List X)
      → ((n : List ℕ) → is_among_names n big ≡ false → is_among_names n small ≡ false)
      → repeated_after big (map id xs) ≡ [] → repeated_after small (map id (filter p xs)) ≡ []
  repeated_part small big [] within h = refl
  repeated_part small big (x ∷ xs) within h =
      let t = (id x).text in
      let f = fresh big (id x) (map id xs) h in
      by (p x) (repeated_part small (big ++ t ∷ []) xs (λ n e. within n (earlier n t big e)) f.1)
      (ap (λ b. (if b then (id x).at ∷ [] else []) ++ repeated_after (small ++ t ∷ []) (map id (filter p xs)))
      (within t f.0)
      ∙ repeated_part (small ++ t ∷ []) (big ++ t ∷ []) xs (λ n e. wider n t e) f.1)
    where
      earlier : (n t : List ℕ) (seen : List (List ℕ)) → is_among_names n (seen ++ t ∷ []) ≡ false
          → is_among_names n seen ≡ false
      earlier n t seen e = left (is_among_names n seen) (bytes_eq n t || false) (sym (among_more n t seen) ∙ e)
        where
          left : (b c : Bool) → (b || c) ≡ false → b ≡ false
          left true c r = absurd (true≢false r)
          left false c r = refl

      wider : (n t : List ℕ) → is_among_names n (big ++ t ∷ []) ≡ false → is_among_names n (small ++ t ∷ []) ≡ false
      wider n t e =
          among_more n t small
          ∙ both (is_among_names n big) (is_among_names n small) (bytes_eq n t || false) (sym (among_more n t big) ∙ e)
          (within n)
        where
          both : (b s c : Bool) → (b || c) ≡ false → (b ≡ false → s ≡ false) → (s || c) ≡ false
          both true s c r w = absurd (true≢false r)
          both false s c r w = ap (λ y. y || c) (w refl) ∙ r

      by : (b : Bool) → repeated_after small (map id (filter p xs)) ≡ []
          → repeated_after small (id x ∷ map id (filter p xs)) ≡ []
          → repeated_after small (map id (cond b (x ∷ filter p xs) (filter p xs))) ≡ []
      by true without with_it = with_it
      by false without with_it = without

  -- such names are the names of the part, each once
  pub names_of_part : (xs : List X) → repeated (map id xs) ≡ []
      → all_names [] (map id (filter p xs)) ≡ map (λ x. (id x).text) (filter p xs)
  names_of_part xs h = all_names_are id (filter p xs) (repeated_part [] [] xs (λ n e. e) h)

-- a name is noted where it is not new
pub noted_old : (first : Option ℕ) (at : ℕ) (there new : Bool) → new ≡ not there → new ≡ false
    → noted first at ≡ first_of first (if there then at ∷ [] else [])
noted_old first at true new is h = sym (first_of_one first at)
noted_old first at false new is h = cc

pub noted_new : (first : Option ℕ) (at : ℕ) (there new : Bool) → new ≡ not there → new ≡ true
    → first ≡ first_of first (if there then at ∷ [] else [])
noted_new first at true new is h = cc
noted_new first at false new is h = sym (first_of_nil first)

module _ {X : Type 0} (id : X → Name) (xs : List X) (i : ℕ) where
  -- one more name, with its place
  pub names_step : (x : X) (n : Name) (names more : List (List ℕ)) {whole : List (List ℕ)} → i < length xs
      → x ≡ get_or xs i x → n ≡ id x → more ≡ with_name n.text names
      → all_names names (map id (drop i xs)) ≡ whole → all_names more (map id (drop (i + 1) xs)) ≡ whole
  names_step x n names more h at is adds old =
      ap (λ s. all_names s (map id (drop (i + 1) xs))) (adds ∙ ap (λ m. with_name m.text names) is)
      ∙ ap (λ r. all_names names (map id r)) (sym (drop-next xs i x h at))
      ∙ old

  pub places_step : (x : X) (n : Name) (names more : List (List ℕ)) (before after : Option ℕ) {whole : Option ℕ}
      → i < length xs → x ≡ get_or xs i x → n ≡ id x → more ≡ with_name n.text names
      → after ≡ first_of before (if is_among_names n.text names then n.at ∷ [] else [])
      → first_of before (repeated_after names (map id (drop i xs))) ≡ whole
      → first_of after (repeated_after more (map id (drop (i + 1) xs))) ≡ whole
  places_step x n names more before after h at is adds notes old =
      let rest = map id (drop (i + 1) xs) in
      (λ j. first_of (notes j) (repeated_after (adds j) rest))
      ∙ sym (repeated_step before names n rest)
      ∙ ap (λ m. first_of before (repeated_after names (m ∷ rest))) is
      ∙ ap (λ r. first_of before (repeated_after names (map id r))) (sym (drop-next xs i x h at))
      ∙ old

  -- nothing is left
  pub names_end : (names : List (List ℕ)) → length xs ≤ i
      → all_names names (map id (drop i xs)) ≡ all_names [] (map id xs)
      → repeated (map id xs) ≡ [] → names ≡ map (λ x. (id x).text) xs
  names_end names h old none = ap (λ r. all_names names (map id r)) (sym (drop_all i xs h)) ∙ old
      ∙ all_names_are id xs none

  pub places_end : (names : List (List ℕ)) (first : Option ℕ) {whole : Option ℕ} → length xs ≤ i
      → first_of first (repeated_after names (map id (drop i xs))) ≡ whole → first ≡ whole
  places_end names first h old = sym (first_of_nil first)
      ∙ ap (λ r. first_of first (repeated_after names (map id r))) (sym (drop_all i xs h)) ∙ old

  pub part_end : (p : X → Bool) (names : List (List ℕ)) → length xs ≤ i
      → all_names names (map id (filter p (drop i xs))) ≡ all_names [] (map id (filter p xs))
      → repeated (map id xs) ≡ [] → names ≡ map (λ x. (id x).text) (filter p xs)
  part_end p names h old none = ap (λ r. all_names names (map id (filter p r))) (sym (drop_all i xs h)) ∙ old
      ∙ names_of_part id p xs none

module _ {X : Type 0} (role : X → Option Name) (xs : List X) (i : ℕ) where
  -- one more name that may be missing
  pub role_step : (x : X) (names more : List (List ℕ)) (before after : Option ℕ) {whole : Option ℕ} → i < length xs
      → x ≡ get_or xs i x
      → more ≡ option_map_or (λ n. with_name n.text names) (role x) names
      → after ≡ first_of before (option_map_or (λ n. if is_among_names n.text names then n.at ∷ [] else []) (role x) [])
      → first_of before (repeated_after names (filter_map role (drop i xs))) ≡ whole
      → first_of after (repeated_after more (filter_map role (drop (i + 1) xs))) ≡ whole
  role_step x names more before after h at adds notes old =
      let rest = filter_map role (drop (i + 1) xs) in
      (λ j. first_of (notes j) (repeated_after (adds j) rest))
      ∙ by (role x) rest
      ∙ ap (λ r. first_of before (repeated_after names (filter_map role r))) (sym (drop-next xs i x h at))
      ∙ old
    where
      by : (o : Option Name) (rest : List Name)
          → first_of (first_of before (option_map_or (λ n. if is_among_names n.text names then n.at ∷ [] else []) o []))
          (repeated_after (option_map_or (λ n. with_name n.text names) o names) rest)
          ≡ first_of before (repeated_after names (cons_option o rest))
      by None rest = ap (λ b. first_of b (repeated_after names rest)) (first_of_nil before)
      by (Some n) rest = sym (repeated_step before names n rest)

  pub roles_end : (names : List (List ℕ)) (first : Option ℕ) {whole : Option ℕ} → length xs ≤ i
      → first_of first (repeated_after names (filter_map role (drop i xs))) ≡ whole → first ≡ whole
  roles_end names first h old = sym (first_of_nil first)
      ∙ ap (λ r. first_of first (repeated_after names (filter_map role r))) (sym (drop_all i xs h)) ∙ old

module _ {X : Type 0} (id : X → Name) (xs ys : List X) where
  -- what is known of a list is known of one that is equal
  pub ids_along : (names : List (List ℕ)) → xs ≡ ys → (repeated (map id xs) ≡ [] → names ≡ map (λ x. (id x).text) xs)
      → repeated (map id ys) ≡ [] → names ≡ map (λ x. (id x).text) ys
  ids_along names e h =
      let P : List X → Type 0 = λ zs. repeated (map id zs) ≡ [] → names ≡ map (λ x. (id x).text) zs in
      subst P e h

  pub noted_along : (before after : Option ℕ) → xs ≡ ys → after ≡ first_of before (repeated (map id xs))
      → after ≡ first_of before (repeated (map id ys))
  noted_along before after e h = h ∙ ap (λ zs. first_of before (repeated (map id zs))) e
