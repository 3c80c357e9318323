-- From one place to another.
use Rattle.std.proofs.Common.{◌≡◌, ℕ, ◌+◌, ◌<◌, Bool, true, false, cond, List, [], ◌∷◌, ◌++◌, length, get_or, take}
use Rattle.std.proofs.Common.{drop, refl, sym, ◌∙◌, ap, subst, arith}
use Rattle.std.proofs.Math.Numerals.{one-add}
use Rattle.std.specs.List.{prefix_len}
use Rattle.xhstt_text.specs.Bytes.{AllAre, is_first, is_name, IsName}
use Rattle.xhstt_text.specs.Reading.{Skips, TakesName, begins}
use Rattle.xhstt_text.proofs.Runs.{name_from_first}

skips_more : (test : ℕ → Bool) (b : ℕ) (bs : List ℕ) (at : ℕ) (v : Bool) → test b ≡ v
    → ((i : ℕ) → Skips test i bs (i + prefix_len test bs) (drop (prefix_len test bs) bs))
    → let n = cond v (1 + prefix_len test bs) 0 in Skips test at (b ∷ bs) (at + n) (drop n (b ∷ bs))
skips_more test b bs at true e h =
    let k = h (at + 1) in
    let d : drop (1 + prefix_len test bs) (b ∷ bs) ≡ drop (prefix_len test bs) bs = rw one-add refl in (
      b ∷ k.0,
      (e, k.1),
      ap (λ x. b ∷ x) k.2 ∙ ap (λ x. b ∷ (k.0 ++ x)) (sym d),
      omega (arith, k.3),
      subst
          (λ x. begins test x ≡ false) (sym d) k.4,
    )
skips_more test b bs at false e h = ([], tt, refl, refl, e)

skips_prefix : (test : ℕ → Bool) (bs : List ℕ) (at : ℕ)
    → Skips test at bs (at + prefix_len test bs) (drop (prefix_len test bs) bs)
skips_prefix test [] at = ([], tt, refl, refl, refl)
skips_prefix test (b ∷ bs) at = skips_more test b bs at (test b) refl (λ i. skips_prefix test bs i)

pub skips_from : (test : ℕ → Bool) (at : ℕ) (bs : List ℕ) (to : ℕ) (rest : List ℕ) (n : ℕ) → n ≡ prefix_len test bs
    → to ≡ at + n → rest ≡ drop n bs → Skips test at bs to rest
skips_from test at bs to rest n e d r =
    let k = skips_prefix test bs at in
    subst (λ i. Skips test at bs i rest) (sym (d ∙ ap (λ x. at + x) e))
    (subst (λ x. Skips test at bs (at + prefix_len test bs) x) (sym (r ∙ ap (λ x. drop x bs) e)) k)

take_front : (w rest : List ℕ) → take (length w) (w ++ rest) ≡ w
take_front [] rest = refl
take_front (b ∷ w) rest = ap (λ x. b ∷ x) (take_front w rest)

clash : (rest : List ℕ) → begins is_first rest ≡ true → begins is_name rest ≡ false → ⊥
clash [] e d = cc
clash (b ∷ rest) e d = let n : is_name b ≡ true = name_from_first b e in cc

name_is : (w rest : List ℕ) → begins is_first (w ++ rest) ≡ true → AllAre is_name w → begins is_name rest ≡ false
    → IsName w
name_is [] rest f h stops = absurd (clash rest f stops)
name_is (b ∷ w) rest f h stops = (f, h.1)

pub takes_name : (at : ℕ) (bs name : List ℕ) (to : ℕ) (rest : List ℕ) (n : ℕ) → begins is_first bs ≡ true
    → n ≡ prefix_len is_name bs → name ≡ take n bs → to ≡ at + n → rest ≡ drop n bs → TakesName at bs name to rest
takes_name at bs name to rest n f e t d r =
    let k = skips_from is_name at bs to rest n e d r in
    let same : n ≡ length k.0 = omega (arith, k.3) in
    let is : name ≡ k.0 = t ∙ ap (λ x. take x bs) same ∙ ap (λ (x : List ℕ). take (length k.0) x) k.2
    ∙ take_front k.0 rest in
    let whole : bs ≡ name ++ rest = k.2 ∙ ap (λ (x : List ℕ). x ++ rest) (sym is) in (
      subst (λ (x : List ℕ). IsName x) (sym is) (name_is k.0 rest
          (subst (λ (x : List ℕ). begins is_first x ≡ true) k.2 f) k.1 k.4),
      whole,
      k.3 ∙ ap (λ (x : List ℕ). at + length x) (sym is),
      k.4,
    )

pub begins_at : (test : ℕ → Bool) (bs : List ℕ) → 0 < length bs → test (get_or bs 0 0) ≡ true → begins test bs ≡ true
begins_at test [] h e = absurd (omega arith)
begins_at test (b ∷ bs) h e = e
