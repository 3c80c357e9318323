-- What it means for the calls to come that no listed number is still to come.
use Rattle.std.proofs.Common.{◌≡◌, ℕ, ◌+◌, ◌≤◌, List, [], ◌∷◌, true, false, refl, arith, nat_eq, nat_le}
use Rattle.std.proofs.lemmas.Bool.{and_parts, and_from, or_from, leb-true, le-leb, ne_eqb}
use Rattle.std.specs.List.{list_any}
use Rattle.khe_io.specs.Calls.{none_to_come}

-- what is not to come now is not to come later
pub none_to_come-later : (failing : List ℕ) (made later : ℕ) → made ≤ later
    → none_to_come failing made ≡ true → none_to_come failing later ≡ true
none_to_come-later [] made later grown sound = refl
none_to_come-later (number ∷ failing) made later grown sound =
    let parts = and_parts (nat_le number made) (none_to_come failing made) sound in
    and_from (nat_le number later) (none_to_come failing later)
    (le-leb number later (omega (arith, leb-true number made parts.0)))
    (none_to_come-later failing made later grown parts.1)

-- the next call is not listed
pub none_to_come-next : (failing : List ℕ) (made : ℕ)
    → none_to_come failing made ≡ true → list_any (λ number. nat_eq number (made + 1)) failing ≡ false
none_to_come-next [] made sound = refl
none_to_come-next (number ∷ failing) made sound =
    let parts = and_parts (nat_le number made) (none_to_come failing made) sound in
    or_from (nat_eq number (made + 1)) (list_any (λ other. nat_eq other (made + 1)) failing)
    (ne_eqb number (made + 1) (λ same. omega (arith, leb-true number made parts.0)))
    (none_to_come-next failing made parts.1)

-- so a next call that is listed can't be
pub listed : (failing : List ℕ) (made next : ℕ) (others : List ℕ) → none_to_come failing made ≡ true → next ≡ made + 1
    → others ≡ failing
    → list_any (λ number. nat_eq number next) others ≡ true → false ≡ true
listed failing made next others sound after same found =
    let none : list_any (λ number. nat_eq number (made + 1)) failing ≡ false = none_to_come-next failing made sound in
    let here : list_any (λ number. nat_eq number (made + 1)) failing ≡ true = rw (← after, ← same) found in
    cc
