-- The parts of an event, one after the other.
use Rattle.std.proofs.Common.{ℕ, ◌≡◌, ◌∙◌, ◌+◌, ◌-◌, ◌<◌, ◌≤◌, Some, List, [], ◌∷◌, ◌++◌, length, map, get_or}
use Rattle.std.proofs.Common.{slice_get, refl, sym, ap, arith, zero, suc, append_assoc}
use Rattle.std.specs.List.{sum_by}
use Rattle.std.proofs.lemmas.List.Sums.{sum_by-cons}
use Rattle.khe_instance.specs.declared.parts.EventInfo.{EventInfo}
use Rattle.khe_instance.specs.declared.parts.Parts.{Parts}
use Rattle.xhstt_completion.specs.Completed.{Part, part_of, missing_parts}
use Rattle.xhstt_completion.specs.Entries.{duration_of}
use Rattle.xhstt_shape.specs.declared.records.RawEntry.{RawEntry}

-- the parts of entries, and of what they miss where so much is left
abbrev pub parts_left : Parts → EventInfo → ℕ → List RawEntry → List Part
parts_left p event left entries = map (part_of p event) entries
    ++ missing_parts event (left - sum_by (duration_of event) entries)

pub parts_left-cons : (p : Parts) (event : EventInfo) (left : ℕ) (entry : RawEntry) (entries : List RawEntry)
    → parts_left p event left (entry ∷ entries) ≡ part_of p event entry ∷ parts_left p event
    (left - duration_of event entry) entries
parts_left-cons p event left entry entries =
    let d = duration_of event entry in
    let s = sum_by (duration_of event) entries in
    let less : left - (d + s) ≡ left - d - s = omega arith in
    ap (λ n. part_of p event entry ∷ (map (part_of p event) entries ++ missing_parts event n))
    (ap (λ n. left - n) (sum_by-cons (duration_of event) entry entries) ∙ less)

-- the value at a number that stands for it
pub record IsTaken {A : Type 0} (values mine : List A) (n i : ℕ) : Type 0 where
  pub value : A
  pub found : slice_get values n ≡ Some value
  pub there : i < length mine
  pub at : get_or mine i value ≡ value

pub number-taken : {A : Type 0} (values : List A) (numbers : List ℕ) (mine : List A) (i : ℕ)
    → map (slice_get values) numbers ≡ map Some mine → i < length numbers
    → IsTaken values mine (get_or numbers i 0) i
number-taken values [] mine i h l = absurd (omega arith)
number-taken values (n ∷ ns) [] i h l = cc
number-taken values (n ∷ ns) (x ∷ xs) zero h l = record { value = x; found = cc; there = omega arith; at = refl }
number-taken values (n ∷ ns) (x ∷ xs) (suc i) h l =
    let rest : map (slice_get values) ns ≡ map Some xs = cc in
    let t = number-taken values ns xs i rest (omega arith) in
    record { value = t.value; found = t.found; there = omega (arith, t.there); at = t.at }

-- an element of two lists, one after the other
pub slice_get-append_left : {A : Type 0} (xs ys : List A) (i : ℕ) → i < length xs
    → slice_get (xs ++ ys) i ≡ slice_get xs i
slice_get-append_left [] ys i h = absurd (omega arith)
slice_get-append_left (x ∷ xs) ys zero h = refl
slice_get-append_left (x ∷ xs) ys (suc i) h = slice_get-append_left xs ys i (omega arith)

pub slice_get-append_right : {A : Type 0} (xs ys : List A) (i : ℕ) → length xs ≤ i
    → slice_get (xs ++ ys) i ≡ slice_get ys (i - length xs)
slice_get-append_right [] ys i h = ap (slice_get ys) (let e : i ≡ i - 0 = omega arith in e)
slice_get-append_right (x ∷ xs) ys zero h = absurd (omega arith)
slice_get-append_right (x ∷ xs) ys (suc i) h =
    slice_get-append_right xs ys i (omega arith) ∙ ap (slice_get ys)
    (let e : i - length xs ≡ suc i - suc (length xs) = omega arith in e)

-- a loop that adds pieces to a list: one piece more
pub append-step : {A : Type 0} (new old piece later rest all : List A) → new ≡ old ++ piece → rest ≡ piece ++ later
    → old ++ rest ≡ all → new ++ later ≡ all
append-step new old piece later rest all added begins sofar =
    ap (λ xs. xs ++ later) added ∙ append_assoc old piece later ∙ ap (λ xs. old ++ xs) (sym begins) ∙ sofar

-- the element at a place of a list
pub record IsThere {A : Type 0} (xs : List A) (i : ℕ) : Type 0 where
  pub value : A
  pub found : slice_get xs i ≡ Some value
  pub at : value ≡ get_or xs i value

pub element-there : {A : Type 0} (xs : List A) (i : ℕ) → i < length xs → IsThere xs i
element-there [] i h = absurd (omega arith)
element-there (x ∷ xs) zero h = record { value = x; found = refl; at = refl }
element-there (x ∷ xs) (suc i) h =
    let t = element-there xs i (omega arith) in
    record { value = t.value; found = t.found; at = t.at }
