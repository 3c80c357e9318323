-- A name more among the names so far.
use Rattle.std.proofs.Common.{◌≡◌, ℕ, Bool, true, false, ◌||◌, List, [], ◌∷◌, refl, sym, ◌∙◌, ap, nat_cmp}
use Rattle.std.specs.Prelude.{Option, Some, None}
use Rattle.std.specs.Option.{option_map_or}
use Rattle.std.specs.List.{list_any}
use Rattle.std.specs.Borrow.{Bor}
use Rattle.std.specs.declared.cmp.Ordering.{Ordering}
use Rattle.std.specs.declared.cmp.Ordering.TheVariants.{Less, Equal, Greater}
use Rattle.std.specs.Ordering.{match_ordering, is_eq}
use Rattle.std.specs.BTreeSet.{insert_key}
use Rattle.std.specs.BTreeMap.{is_at}
use Rattle.std.specs.Cmp.Lexicographic.{slice_cmp}
use Rattle.std.specs.Str.{bytes_eq}
use Rattle.std.proofs.lemmas.Map.Text.{is_eq-slice_cmp}
use Rattle.std.proofs.lemmas.Slice.Eq.{bytes_eq-Decides}

abbrev compare : Bor (List ℕ) → Bor (List ℕ) → Ordering
compare x y = slice_cmp nat_cmp x.now y.now

abbrev finds : List ℕ → Bor (List ℕ) → Bool
finds bs = is_at (λ k. slice_cmp nat_cmp bs k.now)

pub swap_or : (a b c : Bool) → (b || (a || c)) ≡ (a || (b || c))
swap_or true true c = refl
swap_or true false c = refl
swap_or false true c = refl
swap_or false false c = refl

pub same_or : (a b c : Bool) → a ≡ b → (b || c) ≡ (a || (b || c))
same_or true true c e = refl
same_or true false c e = cc
same_or false true c e = cc
same_or false false c e = refl

same_name : (key x : Bor (List ℕ)) → slice_cmp nat_cmp key.now x.now ≡ Equal → key.now ≡ x.now
same_name key x e = (bytes_eq-Decides key.now x.now).0 (sym (is_eq-slice_cmp key.now x.now) ∙ ap is_eq e)

found_at : (bs : List ℕ) (key x : Bor (List ℕ)) (ks : List (Bor (List ℕ))) (o : Ordering) → compare key x ≡ o
    → list_any (finds bs) (insert_key compare ks key) ≡ (finds bs key || list_any (finds bs) ks)
    → list_any (finds bs) (match_ordering o (key ∷ x ∷ ks) (x ∷ ks) (x ∷ insert_key compare ks key))
    ≡ (finds bs key || (finds bs x || list_any (finds bs) ks))
found_at bs key x ks Less e h = refl
found_at bs key x ks Equal e h = same_or (finds bs key) (finds bs x) (list_any (finds bs) ks)
    (ap (λ (k : List ℕ). is_eq (slice_cmp nat_cmp bs k)) (same_name key x e))
found_at bs key x ks Greater e h = ap (λ v. finds bs x || v) h
    ∙ swap_or (finds bs key) (finds bs x) (list_any (finds bs) ks)

found_after : (bs : List ℕ) (key : Bor (List ℕ)) (ks : List (Bor (List ℕ)))
    → list_any (finds bs) (insert_key compare ks key) ≡ (finds bs key || list_any (finds bs) ks)
found_after bs key [] = refl
found_after bs key (x ∷ ks) = found_at bs key x ks (compare key x) refl (found_after bs key ks)

pub holds_more : (bs : List ℕ) (key : Bor (List ℕ)) (ks new : List (Bor (List ℕ))) (known : Bool)
    → new ≡ insert_key compare ks key → list_any (finds bs) ks ≡ known
    → list_any (finds bs) new ≡ (bytes_eq bs key.now || known)
holds_more bs key ks new known e h =
    ap (list_any (finds bs)) e ∙ found_after bs key ks ∙ ap (λ v. finds bs key || v) h
    ∙ ap (λ v. v || known) (is_eq-slice_cmp bs key.now)

-- whether the first name is this one, or another is
abbrev given : List ℕ → Option (Bor (List ℕ)) → Bool → Bool
given bs first other = option_map_or (λ k. bytes_eq bs k.now) first false || other

pub with_none : (bs : List ℕ) (first : Option (Bor (List ℕ))) (other : Bool) → first ≡ None
    → (option_map_or (λ k. bytes_eq bs k.now) first false || other) ≡ other
with_none bs first other e = ap (λ f. given bs f other) e

pub with_first : (bs : List ℕ) (first : Option (Bor (List ℕ))) (key : Bor (List ℕ)) (other : Bool) → first ≡ Some key
    → (option_map_or (λ k. bytes_eq bs k.now) first false || other) ≡ (bytes_eq bs key.now || other)
with_first bs first key other e = ap (λ f. given bs f other) e
