-- A stack of records with marks: the records since each open mark, the innermost mark first. Closing a mark adds its
-- records to those of the mark around it.
use Rattle.std.specs.Prelude.{ℕ, List, [], ◌∷◌, ◌++◌, length, reverse, take, drop}

-- what a journal stands for
pub record Stack (E : Type 0) : Type 0 where
  -- the records since each open mark and before the next, the innermost mark first, and of one mark
  -- the newest record first
  pub since : List (List E)
  -- how many pushes take no memory
  pub spare : ℕ

-- the records since the innermost mark, and those since each mark around it
abbrev pub inner : {E : Type 0} → List (List E) → List E
inner [] = []
inner (records ∷ rest) = records

abbrev pub outer : {E : Type 0} → List (List E) → List (List E)
outer [] = []
outer (records ∷ rest) = rest

-- with one more record since the innermost mark
abbrev pub with_record : {E : Type 0} → E → List (List E) → List (List E)
with_record entry [] = []
with_record entry (records ∷ rest) = (entry ∷ records) ∷ rest

-- with the innermost mark closed: its records count for the mark around it, and go with the last one
abbrev pub without_mark : {E : Type 0} → List (List E) → List (List E)
without_mark [] = []
without_mark (records ∷ []) = []
without_mark (records ∷ around ∷ rest) = (records ++ around) ∷ rest

-- how many records go when the innermost mark is closed: all where it is the last one, else none
abbrev pub dropped : {E : Type 0} → List (List E) → ℕ
dropped [] = 0
dropped (records ∷ []) = length records
dropped (records ∷ around ∷ rest) = 0

-- records, newest first, cut by how many belong to each mark
abbrev pub cut : {E : Type 0} → List E → List ℕ → List (List E)
cut records [] = []
cut records (count ∷ counts) = take count records ∷ cut (drop count records) counts

-- the stack of records and of the counts since each mark, both oldest first
abbrev pub stack_of : {E : Type 0} → List E → List ℕ → List (List E)
stack_of records counts = cut (reverse records) (reverse counts)
