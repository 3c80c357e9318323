-- How records and counts make a stack.
use Rattle.std.proofs.Common.{ℕ, ◌≡◌, ◌+◌, List, [], ◌∷◌, ◌++◌, length, refl, sym, ap, ◌∙◌, suc, ◌-◌, arith, take, drop}
use Rattle.std.specs.Prelude.{reverse}
use Rattle.std.proofs.lemmas.List.{reverse-append, length-reverse, drop-drop}
use Rattle.std.proofs.Math.Seq.{take-add}
use Rattle.undo_paths.specs.Stack.{cut, stack_of, with_record, without_mark, inner, outer}

-- the last count is that of the innermost mark
pub stack_last : {E : Type 0} (records : List E) (front : List ℕ) (count : ℕ)
    → stack_of records (front ++ count ∷ []) ≡ take count (reverse records) ∷ cut (drop count (reverse records))
    (reverse front)
stack_last records front count = ap (cut (reverse records)) (reverse-append front (count ∷ []))

pub stack_split : {E : Type 0} (records : List E) (front : List ℕ) (count : ℕ)
    → stack_of records (front ++ count ∷ []) ≡ inner (stack_of records (front ++ count ∷ [])) ∷ outer
    (stack_of records (front ++ count ∷ []))
stack_split records front count =
    let last = stack_last records front count in
    last ∙ sym (ap (λ s. inner s ∷ outer s) last)

-- there are as many marks as counts
length-cut : {E : Type 0} (records : List E) (counts : List ℕ) → length (cut records counts) ≡ length counts
length-cut records [] = refl
length-cut records (count ∷ counts) = ap suc (length-cut (drop count records) counts)

pub length_stack : {E : Type 0} (records : List E) (counts : List ℕ) → length (stack_of records counts) ≡ length counts
length_stack records counts = length-cut (reverse records) (reverse counts) ∙ length-reverse counts

-- a new mark has no records
pub stack_mark : {E : Type 0} (records : List E) (counts : List ℕ)
    → stack_of records (counts ++ 0 ∷ []) ≡ [] ∷ stack_of records counts
stack_mark records counts = stack_last records counts 0

-- a record more, and a count that is one more
pub stack_record : {E : Type 0} (records : List E) (entry : E) (front : List ℕ) (count : ℕ)
    → stack_of (records ++ entry ∷ []) (front ++ (count + 1) ∷ [])
    ≡ with_record entry (stack_of records (front ++ count ∷ []))
stack_record records entry front count =
    let more : count + 1 ≡ suc count = omega arith in
    stack_last (records ++ entry ∷ []) front (count + 1)
    ∙ ap (λ n. take n (reverse (records ++ entry ∷ [])) ∷ cut (drop n (reverse (records ++ entry ∷ [])))
    (reverse front)) more
    ∙ ap (λ xs. take (suc count) xs ∷ cut (drop (suc count) xs) (reverse front)) (reverse-append records (entry ∷ []))
    ∙ sym (ap (with_record entry) (stack_last records front count))

-- the counts of two marks as one
pub stack_merged : {E : Type 0} (records : List E) (front : List ℕ) (around count : ℕ)
    → stack_of records (front ++ (around + count) ∷ [])
    ≡ without_mark (stack_of records ((front ++ around ∷ []) ++ count ∷ []))
stack_merged records front around count =
    let turned : around + count ≡ count + around = omega arith in
    let xs = reverse records in
    stack_last records front (around + count)
    ∙ ap (λ n. take n xs ∷ cut (drop n xs) (reverse front)) turned
    ∙ ap (λ ys. ys ∷ cut (drop (count + around) xs) (reverse front)) (take-add count around xs)
    ∙ ap (λ ys. (take count xs ++ take around (drop count xs)) ∷ cut ys (reverse front))
    (sym (drop-drop around count xs))
    ∙ sym (ap without_mark (stack_last records (front ++ around ∷ []) count
    ∙ ap (λ ys. take count xs ∷ cut (drop count xs) ys) (reverse-append front (around ∷ []))))

-- the newest record goes
pub stack_popped : {E : Type 0} (records rest : List E) (counts front : List ℕ) (entry : E) (count : ℕ)
    → records ≡ rest ++ entry ∷ [] → counts ≡ front ++ count ∷ [] → (count ≡ 0 → ⊥)
    → stack_of records counts ≡ (entry ∷ inner (stack_of rest (front ++ (count - 1) ∷ []))) ∷ outer
    (stack_of rest (front ++ (count - 1) ∷ []))
stack_popped records rest counts front entry count r k n =
    let one_more : count ≡ count - 1 + 1 = omega arith in
    let last = stack_last rest front (count - 1) in
    (λ i. stack_of (r i) (k i))
    ∙ ap (λ m. stack_of (rest ++ entry ∷ []) (front ++ m ∷ [])) one_more
    ∙ stack_record rest entry front (count - 1)
    ∙ ap (with_record entry) last
    ∙ sym (ap (λ s. (entry ∷ inner s) ∷ outer s) last)

-- a mark without records
pub stack_none : {E : Type 0} (records : List E) (counts front : List ℕ) (count : ℕ)
    → counts ≡ front ++ count ∷ [] → count ≡ 0 → inner (stack_of records counts) ≡ []
stack_none records counts front count k z =
    ap (λ cs. inner (stack_of records cs)) (k ∙ ap (λ n. front ++ n ∷ []) z) ∙ ap inner (stack_last records front 0)
