-- What holds of the forms by their names.
use Rattle.std.proofs.Common.{◌≡◌, ℕ, ◌+◌, ◌<◌, ◌≤◌, ◌==◌, ◌&&◌, Bool, true, false, inl, inr}
use Rattle.std.proofs.Common.{List, [], ◌∷◌, length, drop, get_or, suc, refl, sym, ap, ◌∙◌, arith, drop-cons}
use Rattle.std.specs.Prelude.{IfSome, nat_le}
use Rattle.std.specs.List.{list_all}
use Rattle.std.specs.Str.{bytes_eq}
use Rattle.std.proofs.lemmas.Bool.{cases_Bool, leb-true}
use Rattle.std.proofs.lemmas.Option.{IfSome_then}
use Rattle.std.proofs.lemmas.Bool.Decides.{nat_tests}
use Rattle.edit_script.specs.declared.commands.Form.{Form}
use Rattle.edit_script.specs.declared.commands.TheConstants.{FORMS}
use Rattle.edit_script.specs.Forms.{before_space, form_among, is_named}

-- one byte of a name that is the word's
byte-more : (b : ℕ) (name word : List ℕ) → (b ≡ 32 → ⊥)
    → bytes_eq (before_space (b ∷ name)) (b ∷ word) ≡ bytes_eq (before_space name) word
byte-more b name word h =
    let other : (b == 32) ≡ false = grind (arith, nat_tests) in
    let same : (b == b) ≡ true = grind (arith, nat_tests) in
    rw (other, same) refl

front : (xs : List ℕ) (i : ℕ) → i < length xs → drop i xs ≡ get_or xs i 0 ∷ drop (i + 1) xs
front xs i k = let next : suc i ≡ i + 1 = omega arith in drop-cons xs i 0 k ∙ ap (λ n. get_or xs i 0 ∷ drop n xs) next

pub name-more : (name word : List ℕ) (i : ℕ) → i < length name → i ≤ length word → (i ≡ length word → ⊥)
    → (get_or name i 0 ≡ 32 → ⊥) → get_or name i 0 ≡ get_or word i 0
    → (i + 1 ≤ length word) × (bytes_eq (before_space (drop (i + 1) name)) (drop (i + 1) word)
    ≡ bytes_eq (before_space (drop i name)) (drop i word))
name-more name word i l m n h e =
    let within : i + 1 ≤ length word = grind arith in (
      within,
      sym (byte-more (get_or name i 0) (drop (i + 1) name) (drop (i + 1) word) h)
          ∙ ap (λ b. bytes_eq (before_space (get_or name i 0 ∷ drop (i + 1) name)) (b ∷ drop (i + 1) word)) e
          ∙ ap (λ xs. bytes_eq (before_space (get_or name i 0 ∷ drop (i + 1) name)) xs) (sym (front word i (omega arith)))
          ∙ ap (λ xs. bytes_eq (before_space xs) (drop i word)) (sym (front name i l)),
    )

-- what all forms pass, the form of a name passes
pub and-both : (a b : Bool) → (a && b) ≡ true → (a ≡ true) × (b ≡ true)
and-both true b e = (refl, e)
and-both false b e = absurd (let g : ⊥ = cc in g)

pub found : (test : Form → Bool) (word : List ℕ) (forms : List Form) → list_all test forms ≡ true
    → IfSome (form_among forms word) (λ form. (test form ≡ true) × (is_named word form ≡ true))
unfolding form_among
found test word [] all = tt
found test word (form ∷ forms) all =
    let both = and-both (test form) (list_all test forms) all in
    elim (cases_Bool (is_named word form)) [
      | inl here ↦ rw here (both.0, here)
      | inr other ↦ rw other (found test word forms both.1)
    ]

-- at most four numbers follow each name
pub few-numbers : (word : List ℕ) → IfSome (form_among FORMS word) (λ form. form.1 ≤ 4)
few-numbers word = IfSome_then (form_among FORMS word) (found (λ form. nat_le form.1 4) word FORMS refl)
    (λ form h. leb-true form.1 4 h.0)
