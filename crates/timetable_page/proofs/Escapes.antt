-- What a text is written as opens and closes nothing, and is read back as what is shown of the text.
use Rattle.std.proofs.Common.{◌≡◌, ℕ, Bool, true, false, cond, ◌&&◌, eqb, List, [], ◌∷◌, ◌++◌, None, Some, refl, sym, ap, subst, ◌∙◌}
use Rattle.std.specs.List.{list_all}
use Rattle.std.proofs.lemmas.Bool.{cond_both, eqb-true}
use Rattle.std.proofs.lemmas.List.Folds.{list_all-append}
use Rattle.timetable_page.specs.Escape.{escaped_character, escaped, shown_character, shown}
use Rattle.timetable_page.specs.Reading.{is_inert, read_from}

-- a character that is written as it is
inert_itself : (c : ℕ) → eqb c 60 ≡ false → eqb c 62 ≡ false → eqb c 34 ≡ false → eqb c 39 ≡ false
    → list_all is_inert (c ∷ []) ≡ true
inert_itself c l g q a = rw (l, g, q, a) refl

-- one that is shown by its number, or as it is
inert_shown : (c : ℕ) → eqb c 60 ≡ false → eqb c 62 ≡ false → eqb c 34 ≡ false → eqb c 39 ≡ false
    → list_all is_inert (shown_character c) ≡ true
unfolding shown_character
inert_shown c l g q a =
    let P : List ℕ → Type 0 = λ written. list_all is_inert written ≡ true in
    cond_both (eqb c 1564) _ _ P (λ _. refl) (λ _.
    cond_both (eqb c 8206) _ _ P (λ _. refl) (λ _.
    cond_both (eqb c 8207) _ _ P (λ _. refl) (λ _.
    cond_both (eqb c 8234) _ _ P (λ _. refl) (λ _.
    cond_both (eqb c 8235) _ _ P (λ _. refl) (λ _.
    cond_both (eqb c 8236) _ _ P (λ _. refl) (λ _.
    cond_both (eqb c 8237) _ _ P (λ _. refl) (λ _.
    cond_both (eqb c 8238) _ _ P (λ _. refl) (λ _.
    cond_both (eqb c 8294) _ _ P (λ _. refl) (λ _.
    cond_both (eqb c 8295) _ _ P (λ _. refl) (λ _.
    cond_both (eqb c 8296) _ _ P (λ _. refl) (λ _.
    cond_both (eqb c 8297) _ _ P (λ _. refl) (λ _.
    inert_itself c l g q a))))))))))))

inert_character : (c : ℕ) → list_all is_inert (escaped_character c) ≡ true
inert_character c =
    let P : List ℕ → Type 0 = λ written. list_all is_inert written ≡ true in
    cond_both (eqb c 38) _ _ P (λ _. refl) (λ _.
    cond_both (eqb c 60) _ _ P (λ _. refl) (λ less.
    cond_both (eqb c 62) _ _ P (λ _. refl) (λ greater.
    cond_both (eqb c 34) _ _ P (λ _. refl) (λ quotation.
    cond_both (eqb c 39) _ _ P (λ _. refl) (λ apostrophe.
    inert_shown c less greater quotation apostrophe)))))

both_true : (a b : Bool) → a ≡ true → b ≡ true → (a && b) ≡ true
both_true a b e d = rw (e, d) refl

pub inert : (text : List ℕ) → list_all is_inert (escaped text) ≡ true
inert [] = refl
inert (c ∷ cs) =
    list_all-append is_inert (escaped_character c) (escaped cs)
    ∙ both_true (list_all is_inert (escaped_character c)) (list_all is_inert (escaped cs)) (inert_character c) (inert cs)

-- what is shown of one character is read back, whatever follows
abbrev Gives : ℕ → List ℕ → List ℕ → Type 0
Gives c rest written = read_from None (written ++ rest) ≡ shown_character c ++ read_from None rest

-- one that is written as a reference
referred : (c n : ℕ) (rest written : List ℕ) → eqb c n ≡ true → Gives n rest written → Gives c rest written
referred c n rest written e h = subst (λ m. Gives m rest written) (sym (eqb-true c n e)) h

-- characters that are read as they are
abbrev IsRead : List ℕ → List ℕ → Type 0
IsRead rest written = read_from None (written ++ rest) ≡ written ++ read_from None rest

read_itself : (c : ℕ) (rest : List ℕ) → eqb c 38 ≡ false → IsRead rest (c ∷ [])
unfolding read_from
read_itself c rest e = ap (λ b. cond b (read_from (Some []) rest) (c ∷ read_from None rest)) e

read_shown : (c : ℕ) (rest : List ℕ) → eqb c 38 ≡ false → IsRead rest (shown_character c)
unfolding read_from shown_character
read_shown c rest e =
    let P : List ℕ → Type 0 = λ written. IsRead rest written in
    cond_both (eqb c 1564) _ _ P (λ _. refl) (λ _.
    cond_both (eqb c 8206) _ _ P (λ _. refl) (λ _.
    cond_both (eqb c 8207) _ _ P (λ _. refl) (λ _.
    cond_both (eqb c 8234) _ _ P (λ _. refl) (λ _.
    cond_both (eqb c 8235) _ _ P (λ _. refl) (λ _.
    cond_both (eqb c 8236) _ _ P (λ _. refl) (λ _.
    cond_both (eqb c 8237) _ _ P (λ _. refl) (λ _.
    cond_both (eqb c 8238) _ _ P (λ _. refl) (λ _.
    cond_both (eqb c 8294) _ _ P (λ _. refl) (λ _.
    cond_both (eqb c 8295) _ _ P (λ _. refl) (λ _.
    cond_both (eqb c 8296) _ _ P (λ _. refl) (λ _.
    cond_both (eqb c 8297) _ _ P (λ _. refl) (λ _.
    read_itself c rest e))))))))))))

given : (c : ℕ) (rest : List ℕ) → Gives c rest (escaped_character c)
unfolding read_from shown_character
given c rest =
    let P : List ℕ → Type 0 = λ written. Gives c rest written in
    cond_both (eqb c 38) _ _ P (λ e. referred c 38 rest (escaped_character 38) e refl) (λ plain.
    cond_both (eqb c 60) _ _ P (λ e. referred c 60 rest (escaped_character 60) e refl) (λ _.
    cond_both (eqb c 62) _ _ P (λ e. referred c 62 rest (escaped_character 62) e refl) (λ _.
    cond_both (eqb c 34) _ _ P (λ e. referred c 34 rest (escaped_character 34) e refl) (λ _.
    cond_both (eqb c 39) _ _ P (λ e. referred c 39 rest (escaped_character 39) e refl) (λ _.
    read_shown c rest plain)))))

pub read_back : (text : List ℕ) → read_from None (escaped text) ≡ shown text
unfolding read_from
read_back [] = refl
read_back (c ∷ cs) = given c (escaped cs) ∙ ap (λ t. shown_character c ++ t) (read_back cs)
