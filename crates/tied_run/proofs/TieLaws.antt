-- The lines of ties, from one tie to the next.
use Rattle.std.proofs.Common.{ℕ, zero, suc, ◌≡◌, ◌+◌, ◌-◌, ◌<◌, ◌≤◌, ◌++◌, true, Option, Some, None, List, [], ◌∷◌}
use Rattle.std.proofs.Common.{length, drop, get_or, slice_get, sym, ap, ◌∙◌, arith, inl, inr, if◌then◌else◌}
use Rattle.std.specs.Prelude.{is_some}
use Rattle.std.specs.List.{count_by, enumerate_from, flat_map}
use Rattle.std.proofs.Math.ListN.{drop_of_length-le}
use Rattle.std.proofs.lemmas.Bool.{cases_lt}
use Rattle.std.proofs.lemmas.List.Sums.{sum_by-cons}
use Rattle.std.proofs.lemmas.Option.{slice_get-get_or}
use Rattle.khe_base.proofs.ListLemmas.{drop-there, lines-there}
use Rattle.khe_solution.proofs.Basics.{true-false}
use Rattle.followers.specs.Ties.{follows, tie_at}
use Rattle.followers.specs.declared.edits.Tie.{Tie}
use Rattle.tied_run.specs.Answers.{numbered_line, tie_line}

abbrev pub lines_from : List (Option Tie) → ℕ → List ℕ
lines_from ties k = flat_map numbered_line (enumerate_from k (drop k ties))

abbrev pub IsBare : List (Option Tie) → ℕ → ℕ → Type 0
IsBare ties from end = (k : ℕ) → from ≤ k → k < end → tie_at ties k ≡ None

-- the line of one meet, and those after it
pub line_here : (ties : List (Option Tie)) (k : ℕ) → k < length ties
    → lines_from ties k ≡ tie_line k (tie_at ties k) ++ lines_from ties (k + 1)
line_here ties k l = lines-there numbered_line ties k k (tie_at ties k) (slice_get-get_or ties k None l)

silent : (ties : List (Option Tie)) (gap from : ℕ) → from + gap ≤ length ties → IsBare ties from (from + gap)
    → lines_from ties from ≡ lines_from ties (from + gap)
silent ties zero from l bare = ap (lines_from ties) (let e : from ≡ from + 0 = omega arith in e)
silent ties (suc gap) from l bare =
    line_here ties from (omega (arith, l))
    ∙ ap (λ o. tie_line from o ++ lines_from ties (from + 1)) (bare from (omega arith) (omega arith))
    ∙ silent ties gap (from + 1) (omega (arith, l)) (λ k a b. bare k (omega (arith, a)) (omega (arith, b)))
    ∙ ap (lines_from ties) (let e : from + 1 + gap ≡ from + suc gap = omega arith in e)

pub line_next : (ties : List (Option Tie)) (from m : ℕ) → from ≤ m → m < length ties → IsBare ties from m
    → lines_from ties from ≡ tie_line m (tie_at ties m) ++ lines_from ties (m + 1)
line_next ties from m f l bare =
    let e : from + (m - from) ≡ m = omega (arith, f) in
    silent ties (m - from) from (omega (arith, e, l)) (λ k a b. bare k a (omega (arith, b, e)))
    ∙ ap (lines_from ties) e ∙ line_here ties m l

pub line_none : (ties : List (Option Tie)) (from : ℕ) → ((k : ℕ) → from ≤ k → tie_at ties k ≡ None)
    → lines_from ties from ≡ []
line_none ties from bare = elim (cases_lt from (length ties)) [
  | inl l ↦
      let e : from + (length ties - from) ≡ length ties = omega (arith, l) in
      silent ties (length ties - from) from (omega (arith, e)) (λ k a b. bare k a) ∙ ap (lines_from ties) e
      ∙ past (length ties) (omega arith)
  | inr g ↦ past from g
]
  where
    past : (k : ℕ) → length ties ≤ k → lines_from ties k ≡ []
    past k g = ap (λ xs. flat_map numbered_line (enumerate_from k xs)) (drop_of_length-le ties g)

-- the same for how many there are
abbrev pub count_from : List (Option Tie) → ℕ → ℕ
count_from ties k = count_by is_some (drop k ties)

count_here : (ties : List (Option Tie)) (k : ℕ) → k < length ties
    → count_from ties k ≡ count_by is_some (tie_at ties k ∷ drop (k + 1) ties)
count_here ties k l = ap (count_by is_some) (drop-there ties k (tie_at ties k) (slice_get-get_or ties k None l))

uncounted : (ties : List (Option Tie)) (gap from : ℕ) → from + gap ≤ length ties → IsBare ties from (from + gap)
    → count_from ties from ≡ count_from ties (from + gap)
uncounted ties zero from l bare = ap (count_from ties) (let e : from ≡ from + 0 = omega arith in e)
uncounted ties (suc gap) from l bare =
    count_here ties from (omega (arith, l))
    ∙ ap (λ o. count_by is_some (o ∷ drop (from + 1) ties)) (bare from (omega arith) (omega arith))
    ∙ uncounted ties gap (from + 1) (omega (arith, l)) (λ k a b. bare k (omega (arith, a)) (omega (arith, b)))
    ∙ ap (count_from ties) (let e : from + 1 + gap ≡ from + suc gap = omega arith in e)

some_counted : (o : Option Tie) (xs : List (Option Tie)) → is_some o ≡ true
    → count_by is_some (o ∷ xs) ≡ count_by is_some xs + 1
some_counted None xs h = absurd (true-false (sym h))
some_counted (Some t) xs h =
    let one : Option Tie → ℕ = λ o. if is_some o then 1 else 0 in
    let e = sum_by-cons one (Some t) xs in omega (arith, e)

pub count_next : (ties : List (Option Tie)) (from m : ℕ) → from ≤ m → m < length ties → follows ties m ≡ true
    → IsBare ties from m → count_from ties from ≡ count_from ties (m + 1) + 1
count_next ties from m f l has bare =
    let e : from + (m - from) ≡ m = omega (arith, f) in
    uncounted ties (m - from) from (omega (arith, e, l)) (λ k a b. bare k a (omega (arith, b, e)))
    ∙ ap (count_from ties) e ∙ count_here ties m l ∙ some_counted (tie_at ties m) (drop (m + 1) ties) has

pub count_none : (ties : List (Option Tie)) (from : ℕ) → ((k : ℕ) → from ≤ k → tie_at ties k ≡ None)
    → count_from ties from ≡ 0
count_none ties from bare = elim (cases_lt from (length ties)) [
  | inl l ↦
      let e : from + (length ties - from) ≡ length ties = omega (arith, l) in
      uncounted ties (length ties - from) from (omega (arith, e)) (λ k a b. bare k a) ∙ ap (count_from ties) e
      ∙ past (length ties) (omega arith)
  | inr g ↦ past from g
]
  where
    past : (k : ℕ) → length ties ≤ k → count_from ties k ≡ 0
    past k g = ap (count_by is_some) (drop_of_length-le ties g)
