-- How the pieces that a sink took make up the bytes that it was given.
use Rattle.std.proofs.lemmas.List.{take_rest}
use Rattle.std.proofs.Common.{arith, length, length-append, ◌<◌, ◌-◌, ◌≡◌, ℕ, List, [], ◌++◌, take, drop, Option, None}
use Rattle.std.proofs.Common.{Some, append_assoc, take-append-drop, ap, ◌∙◌}
use Rattle.khe_io.specs.Faults.{Took}

-- one piece after another
pub Took-more : (first middle last : Option (List ℕ)) (a b : List ℕ) → Took first middle a → Took middle last b
    → Took first last (a ++ b)
Took-more None middle last a b one two = cc
Took-more (Some bytes) middle last a b one two =
    let joined : bytes ++ a ++ b ≡ bytes ++ (a ++ b) = append_assoc bytes a b in
    rw one at two ∙ ap Some joined

-- a front of what was left is taken too
pub Took-step : (first middle last : Option (List ℕ)) (bytes front rest : List ℕ) (n : ℕ)
    → bytes ≡ front ++ rest → Took first middle front → Took middle last (take n rest)
    → (x : List ℕ) × (bytes ≡ x ++ take (length rest - n) (drop n rest)) × Took first last x
Took-step first middle last bytes front rest n whole so_far piece =
    let left : take (length rest - n) (drop n rest) ≡ drop n rest = take_rest rest n in
    let joined : front ++ take n rest ++ drop n rest ≡ front ++ (take n rest ++ drop n rest) =
    append_assoc front (take n rest) (drop n rest) in
    let parts : take n rest ++ drop n rest ≡ rest = take-append-drop n rest in
    (front ++ take n rest, cc, Took-more first middle last front (take n rest) so_far piece)

-- bytes of which some are left are not empty
pub filled : (bytes front rest : List ℕ) → bytes ≡ front ++ rest → 0 < length rest → bytes ≡ [] → ⊥
filled bytes front rest whole more empty =
    omega (arith, ap length whole, ap length empty, length-append front rest)
