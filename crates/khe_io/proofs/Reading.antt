-- How the bytes that were read so far and what is left of a source make up what stands under its name.
use Rattle.std.proofs.Common.{◌≡◌, ℕ, ◌+◌, ◌<◌, ◌≤◌, List, [], ◌++◌, length, take, Option, None, Some, IfSome}
use Rattle.std.proofs.Common.{IsSomeAnd, append_assoc, append-nil, length-append, ap, arith}
use Rattle.std.proofs.lemmas.List.{length-take-le}
use Rattle.khe_io.specs.Shelf.{StandsUnder, StandsAbove, Opened, Gave, EndsWhereNoneIsLeft}

-- the bytes that were read, and then what is left, stand under the name, where the shelf tells it
abbrev pub RestUnder : Option (List ℕ → Option (List ℕ)) → List ℕ → List ℕ → Option (List ℕ) → Type 0
RestUnder holdings name bytes left =
    IfSome holdings (λ under. IsSomeAnd left (λ rest. under name ≡ Some (bytes ++ rest)))

pub RestUnder-opened : (holdings : Option (List ℕ → Option (List ℕ))) (name : List ℕ) (left : Option (List ℕ))
    → Opened holdings name left → RestUnder holdings name [] left
RestUnder-opened None name left told = tt
RestUnder-opened (Some under) name None told = told
RestUnder-opened (Some under) name (Some rest) told = told

-- a further piece moves from what is left to what was read
pub RestUnder-gave : (holdings : Option (List ℕ → Option (List ℕ))) (name bytes : List ℕ)
    (before after : Option (List ℕ)) (piece : List ℕ)
    → RestUnder holdings name bytes before → Gave before after piece → RestUnder holdings name (bytes ++ piece) after
RestUnder-gave None name bytes before after piece told gave = tt
RestUnder-gave (Some under) name bytes None after piece told gave = absurd told
RestUnder-gave (Some under) name bytes (Some rest) None piece told gave = cc
RestUnder-gave (Some under) name bytes (Some rest) (Some later) piece told gave =
    let whole : rest ≡ piece ++ later = cc in
    let joined : bytes ++ piece ++ later ≡ bytes ++ (piece ++ later) = append_assoc bytes piece later in
    cc

-- where a read gave nothing, all was read
pub StandsUnder-at_end : (holdings : Option (List ℕ → Option (List ℕ))) (name bytes : List ℕ) (left : Option (List ℕ))
    (count : ℕ)
    → RestUnder holdings name bytes left → EndsWhereNoneIsLeft left count → count ≡ 0 → StandsUnder holdings name bytes
StandsUnder-at_end None name bytes left count told end zero_read = tt
StandsUnder-at_end (Some under) name bytes None count told end zero_read = absurd told
StandsUnder-at_end (Some under) name bytes (Some rest) count told end zero_read =
    let none : rest ≡ [] = end.0 zero_read in
    let all : bytes ++ [] ≡ bytes = append-nil bytes in
    cc

-- a piece that passes the limit shows that more than the limit stands under the name
pub StandsAbove-gave : (holdings : Option (List ℕ → Option (List ℕ))) (name bytes : List ℕ)
    (before after : Option (List ℕ)) (buf : List ℕ) (count limit : ℕ)
    → RestUnder holdings name bytes before → Gave before after (take count buf) → count ≤ length buf
    → limit < length bytes + count
    → StandsAbove holdings name limit
StandsAbove-gave None name bytes before after buf count limit told gave fits above = tt
StandsAbove-gave (Some under) name bytes None after buf count limit told gave fits above = absurd told
StandsAbove-gave (Some under) name bytes (Some rest) None buf count limit told gave fits above = cc
StandsAbove-gave (Some under) name bytes (Some rest) (Some later) buf count limit told gave fits above =
    let whole : rest ≡ take count buf ++ later = cc in
    let P : Option (List ℕ) → Type 0 = λ o. IsSomeAnd o (λ all. limit < length all) in
    rw told (omega (
      arith,
      ap length whole,
      length-append bytes rest,
      length-append (take count buf) later,
      length-take-le count buf fits,
    ))
