-- An archive in which a timetable takes the place of a solution.
use Rattle.std.proofs.Common.{ℕ, ◌≡◌, ◌<◌, ◌-◌, ◌++◌, cond, Option, Some, None, List, [], ◌∷◌, length, refl, ap, sym, ◌∙◌}
use Rattle.std.proofs.Common.{map, arith, slice_get, slice_set, inl, inr}
use Rattle.std.specs.List.{flat_map}
use Rattle.std.specs.Option.{option_map_or}
use Rattle.std.proofs.Common.{zero, suc, ◌≤◌, length-append}
use Rattle.std.proofs.lemmas.Bool.{cases_lt, le-ltb, lt-ltb}
use Rattle.std.proofs.lemmas.List.{length-set}
use Rattle.std.proofs.lemmas.Option.{slice_get_within}
use Rattle.khe_base.proofs.ListLemmas.{get-set}
use Rattle.xhstt_completion.proofs.PartsLemmas.{slice_get-append_left, slice_get-append_right}
use Rattle.khe_engine.specs.Openings.{IsStateOf}
use Rattle.khe_engine.specs.States.{State}
use Rattle.khe_instance.specs.declared.parts.Parts.{Parts}
use Rattle.khe_instance.specs.declared.states.Plain.{Plain}
use Rattle.khe_instance.specs.Running.{duties}
use Rattle.repair_run.specs.Placed.{archive_with, groups_with, group_with, respelled}
use Rattle.xhstt_entries.specs.Spelled.{entries_of, entry_of, spelled}
use Rattle.xhstt_references.specs.References.{solutions_of}
use Rattle.xhstt_shape.specs.declared.records.Archive.{Archive}
use Rattle.xhstt_shape.specs.declared.records.RawSolution.{RawSolution}
use Rattle.xhstt_shape.specs.declared.records.SolutionGroup.{SolutionGroup}
use Rattle.script_run.specs.Plays.{Play}
use Rattle.xhstt_writer.specs.Archives.{canonical}
use Rattle.talk_run.specs.Answers.{archive_bytes, listed}
use Rattle.talk_run.specs.Talks.{talk_bytes}
use Rattle.talk_run.proofs.ScriptLaw.{spelled_alike}
use Rattle.std.proofs.Common.{append_assoc, codes, encode_utf8_all, subst}
use Rattle.talk_run.specs.Between.{IsBetween}
use Rattle.talk_run.specs.Sent.{IsSame}

-- entries are those of the meets and the tasks
pub listed_alike : (a : Archive) (number : ℕ) (p : Parts) (plain : Plain) (s : State) → IsStateOf p plain s
    → respelled a number p plain ≡ respelled a number p (listed s)
listed_alike a number p plain s is =
    let entries : entries_of p plain ≡ entries_of p (listed s) =
    ap (λ ms. map (entry_of p (duties ms plain.tasks)) ms) (sym is.meets)
    ∙ ap (λ ts. map (entry_of p (duties (listed s).meets ts)) (listed s).meets) (sym is.tasks) in
    ap (λ es. option_map_or (λ (old : RawSolution). archive_with (record old { events = es }) number a) (slice_get (solutions_of a) number) a)
    entries

-- a place that is set twice
set-twice : {X : Type 0} (xs : List X) (i : ℕ) (a b : X) → slice_set (slice_set xs i a) i b ≡ slice_set xs i b
set-twice [] i a b = refl
set-twice (x ∷ xs) zero a b = refl
set-twice (x ∷ xs) (suc i) a b = ap (λ t. x ∷ t) (set-twice xs i a b)

abbrev solutions : List SolutionGroup → List RawSolution
solutions gs = flat_map (λ (g : SolutionGroup). g.solutions) gs

-- a solution in the first group, and one after it
here : (raw : RawSolution) (n : ℕ) (g : SolutionGroup) (gs : List SolutionGroup) → n < length g.solutions
    → groups_with raw n (g ∷ gs) ≡ group_with raw n g ∷ gs
unfolding groups_with
here raw n g gs l =
    ap (λ b. cond b (group_with raw n g ∷ gs) (g ∷ groups_with raw (n - length g.solutions) gs)) (lt-ltb n (length g.solutions) l)

past : (raw : RawSolution) (n : ℕ) (g : SolutionGroup) (gs : List SolutionGroup) → length g.solutions ≤ n
    → groups_with raw n (g ∷ gs) ≡ g ∷ groups_with raw (n - length g.solutions) gs
unfolding groups_with
past raw n g gs l =
    ap (λ b. cond b (group_with raw n g ∷ gs) (g ∷ groups_with raw (n - length g.solutions) gs)) (le-ltb n (length g.solutions) l)

-- a solution that was put in place of another stands there
placed-there : (raw : RawSolution) (n : ℕ) (gs : List SolutionGroup) → n < length (solutions gs)
    → slice_get (solutions (groups_with raw n gs)) n ≡ Some raw
placed-there raw n [] l = absurd (omega arith)
placed-there raw n (g ∷ gs) l = elim (cases_lt n (length g.solutions)) [
  | inl within ↦ (
      let wide : n < length (slice_set g.solutions n raw) = omega (arith, within, length-set g.solutions n raw) in
      ap (λ xs. slice_get (solutions xs) n) (here raw n g gs within)
      ∙ slice_get-append_left (slice_set g.solutions n raw) (solutions gs) n wide
      ∙ get-set g.solutions n raw within)
  | inr behind ↦ (
      let less : n - length g.solutions < length (solutions gs) =
      omega (arith, l, behind, length-append g.solutions (solutions gs)) in
      ap (λ xs. slice_get (solutions xs) n) (past raw n g gs behind)
      ∙ slice_get-append_right g.solutions (solutions (groups_with raw (n - length g.solutions) gs)) n behind
      ∙ placed-there raw (n - length g.solutions) gs less)
]

-- and another takes its place
placed-twice : (raw raw2 : RawSolution) (n : ℕ) (gs : List SolutionGroup)
    → groups_with raw2 n (groups_with raw n gs) ≡ groups_with raw2 n gs
unfolding groups_with
placed-twice raw raw2 n [] = refl
placed-twice raw raw2 n (g ∷ gs) = elim (cases_lt n (length g.solutions)) [
  | inl within ↦ (
      let wide : n < length (slice_set g.solutions n raw) = omega (arith, within, length-set g.solutions n raw) in
      ap (groups_with raw2 n) (here raw n g gs within) ∙ here raw2 n (group_with raw n g) gs wide
      ∙ ap (λ xs. (record g { solutions = xs }) ∷ gs) (set-twice g.solutions n raw raw2)
      ∙ sym (here raw2 n g gs within))
  | inr behind ↦ (
      ap (groups_with raw2 n) (past raw n g gs behind)
      ∙ past raw2 n g (groups_with raw (n - length g.solutions) gs) behind
      ∙ ap (λ xs. g ∷ xs) (placed-twice raw raw2 (n - length g.solutions) gs)
      ∙ sym (past raw2 n g gs behind))
]

-- an archive by the solution that stands at a number
abbrev with : Archive → ℕ → Parts → Plain → Option RawSolution → Archive
with a number p plain o = option_map_or (λ old. archive_with (spelled p plain old) number a) o a

twice-by : (a : Archive) (number : ℕ) (p q : Parts) (plain plain2 : Plain) (o : Option RawSolution)
    → slice_get (solutions_of a) number ≡ o
    → respelled (with a number p plain o) number q plain2 ≡ with a number q plain2 o
twice-by a number p q plain plain2 None e = ap (with a number q plain2) e
twice-by a number p q plain plain2 (Some old) e =
    let raw = spelled p plain old in
    let within : number < length (solutions_of a) = slice_get_within (solutions_of a) number old e in
    let there : slice_get (solutions_of (archive_with raw number a)) number ≡ Some raw =
    placed-there raw number a.solution_groups within in
    ap (with (archive_with raw number a) number q plain2) there
    ∙ ap (λ gs. record a { solution_groups = gs }) (placed-twice raw (spelled q plain2 old) number a.solution_groups)

-- of two timetables one after the other the second stands
pub respelled_twice : (a : Archive) (number : ℕ) (p : Parts) (plain : Plain) → IsSame (respelled a number p plain) a number
respelled_twice a number p plain =
    λ q plain2. twice-by a number p q plain plain2 (slice_get (solutions_of a) number) refl

-- a talk goes on in the same way with an archive that differs in the solution alone
pub said_alike : (a a2 : Archive) (k k2 : ℕ) (p p2 : Parts) (w w2 : Play) (number : ℕ) (ls : List (List ℕ)) → p2 ≡ p
    → k2 ≡ k → w2 ≡ w → IsSame a2 a k
    → talk_bytes (archive_bytes a2 k2 p2) p2 w2 number ls ≡ talk_bytes (archive_bytes a k p) p w number ls
said_alike a a2 k k2 p p2 w w2 number ls e f g same =
    ap (λ x. talk_bytes (archive_bytes a2 k2 x) x w2 number ls) e
    ∙ ap (λ x. talk_bytes (archive_bytes a2 x p) p w2 number ls) f
    ∙ ap (λ x. talk_bytes (archive_bytes a2 k p) p x number ls) g
    ∙ spelled_alike (archive_bytes a2 k p) (archive_bytes a k p) p w number ls (λ s. ap canonical (same p (listed s)))

-- an answer stands before the line that ends it
pub ahead : (before now : Option (List ℕ)) (text bytes bytes2 rest whole : List ℕ) → bytes2 ≡ bytes
    → IsBetween before now text ((bytes ++ (46 ∷ 10 ∷ [])) ++ rest) whole
    → IsBetween before now text (bytes2 ++ (46 ∷ 10 ∷ rest)) whole
ahead before now text bytes bytes2 rest whole e h =
    subst (λ xs. IsBetween before now text xs whole)
    (append_assoc bytes (46 ∷ 10 ∷ []) rest ∙ ap (λ bs. bs ++ (46 ∷ 10 ∷ rest)) (sym e)) h

-- the line that ends an answer
pub stop_bytes : (46 ∷ 10 ∷ []) ≡ encode_utf8_all (codes ".\n")
unfolding lib.Utf8.encode
stop_bytes = refl
