-- The solutions that are made name parts of the instance.
use Rattle.std.proofs.Common.{ℕ, ◌≡◌, ◌<◌, ◌≤◌, inl, inr, Option, Some, None, List, [], ◌∷◌, map, All}
use Rattle.std.proofs.Common.{flat_map, refl, sym, subst, ◌∙◌, arith}
use Rattle.std.specs.Prelude.{codes}
use Rattle.std.proofs.lemmas.List.Concat.{flat_map-append}
use Rattle.std.proofs.lemmas.List.Elements.{All-nil, All-head, All-tail, All-append}
use Rattle.xhstt_references.specs.References as references
use Rattle.archive_generator.specs.declared.drawing.DrawnEntry.{DrawnEntry}
use Rattle.archive_generator.specs.declared.drawing.DrawnEvent.{DrawnEvent}
use Rattle.archive_generator.specs.Job as job
use Rattle.archive_generator.specs.Names.{to, numbered, below, to_time}
use Rattle.archive_generator.specs.Solutions as solutions
use Rattle.archive_generator.specs.Turns.{gathered}
use Rattle.archive_generator.proofs.Spellable.{only, two}
use Rattle.generator_laws.proofs.DrawLaws.{AreDrawn, IsBelow, EndsInTime, IsEntryOf, ArePieces}
use Rattle.generator_laws.proofs.DrawLaws.{entries_pieces, each_in_turn}
use Rattle.generator_laws.proofs.EventLaws.{IsOne, all_ones}
use Rattle.generator_laws.proofs.IdLaws.{IsSize, both_none}
use Rattle.generator_laws.proofs.ReferenceLaws.{directory, one_known, none_given}
use Rattle.generator_laws.proofs.ReferenceLaws as known

-- what an entry names is there
pub record IsNamed (size : ℕ) (d : DrawnEntry) : Type 0 where
  pub event : d.event < size
  pub time : IsBelow 40 d.time
  pub teacher : IsBelow (job.teachers size) d.teacher
  pub room : IsBelow (job.rooms size) d.room

time_below : (duration : ℕ) (o : Option ℕ) → 1 ≤ duration → EndsInTime duration o → IsBelow 40 o
time_below duration None l h = tt
time_below duration (Some t) l h = omega arith

entry_named : (size : ℕ) (e : DrawnEvent) (d : DrawnEntry) → IsOne size e → 1 ≤ d.duration → IsEntryOf size e d
    → IsNamed size d
entry_named size e d one l h = record {
  event = subst (λ n. n < size) (sym h.event) one.within;
  time = time_below d.duration d.time l h.time;
  teacher = h.teacher;
  room = h.room;
}

pieces_named : (size : ℕ) (e : DrawnEvent) (ds : List DrawnEntry) → IsOne size e → ArePieces size e ds
    → All (IsNamed size) ds
pieces_named size e ds one (inl whole) =
    let lasts = whole.lasts in
    let long = one.short.0 in
    subst (All (IsNamed size)) (sym whole.are)
    (only (IsNamed size) whole.one (entry_named size e whole.one one (omega arith) whole.entry))
pieces_named size e ds one (inr cut) =
    let first = cut.first_lasts in
    let second = cut.second_lasts in
    let long = cut.long in
    subst (All (IsNamed size)) (sym cut.are)
    (two (IsNamed size) cut.first cut.second
    (entry_named size e cut.first one (omega arith) cut.first_entry)
    (entry_named size e cut.second one (omega arith) cut.second_entry))

entries_named : (size : ℕ) (es : List DrawnEvent) (x : ℕ) → All (IsOne size) es
    → All (IsNamed size) (job.solution size es x).0
unfolding job.solution
entries_named size es x h = from es x h
  where
    from : (xs : List DrawnEvent) (y : ℕ) → All (IsOne size) xs
        → All (IsNamed size) (gathered (job.entries size) xs y).0
    from [] y k = All-nil (IsNamed size)
    from (e ∷ more) y k =
        let one = All-head (IsOne size) e more k in
        All-append (IsNamed size) (job.entries size e y).0 (gathered (job.entries size) more (job.entries size e y).1).0
        (pieces_named size e (job.entries size e y).0 one (entries_pieces size e y one.short))
        (from more (job.entries size e y).1 (All-tail (IsOne size) e more k))

-- so it is in all entries of all solutions
pub solutions_named : (size : ℕ) (es : List DrawnEvent) (x : ℕ) → AreDrawn size es
    → All (All (IsNamed size)) (job.solutions size es x).0
unfolding job.solutions
solutions_named size es x drawn = each_in_turn (All (IsNamed size)) (λ n y. job.solution size es y)
    (λ n y. entries_named size es y (all_ones size es drawn)) (below 4) x

module _ (size : ℕ) (es : List DrawnEvent) (s : IsSize size) (drawn : AreDrawn size es) where
  time_known : (o : Option ℕ) → IsBelow 40 o
      → references.unknown_one (directory size es).times (to_time o) ≡ []
  time_known None h = refl
  time_known (Some t) h = one_known (directory size es).times (to (numbered (codes "t") t))
      (known.time_among size es s drawn t h)

  teacher_known : (o : Option ℕ) → IsBelow (job.teachers size) o
      → flat_map (references.unknown_in_given (directory size es))
      (solutions.given_if (codes "T") (codes "p") o) ≡ []
  teacher_known None h = refl
  teacher_known (Some n) h =
      both_none _ _ (one_known (directory size es).resources (to (numbered (codes "p") n))
      (known.teacher_among size es s drawn n h)) refl

  room_known : (o : Option ℕ) → IsBelow (job.rooms size) o
      → flat_map (references.unknown_in_given (directory size es))
      (solutions.given_if (codes "R") (codes "q") o) ≡ []
  room_known None h = refl
  room_known (Some n) h =
      both_none _ _ (one_known (directory size es).resources (to (numbered (codes "q") n))
      (known.room_among size es s drawn n h)) refl

  entry_known : (d : DrawnEntry) → IsNamed size d
      → references.unknown_in_entry (directory size es) (solutions.entry d) ≡ []
  unfolding solutions.entry
  entry_known d h =
      let given = references.unknown_in_given (directory size es) in
      both_none _ _ (one_known (directory size es).events (to (numbered (codes "e") d.event))
      (known.event_among size es s drawn d.event h.event))
      (both_none _ _ (time_known d.time h.time)
      (flat_map-append given (solutions.given_if (codes "T") (codes "p") d.teacher)
      (solutions.given_if (codes "R") (codes "q") d.room)
      ∙ both_none _ _ (teacher_known d.teacher h.teacher) (room_known d.room h.room)))

  -- the entries of a solution
  entries_known : (ds : List DrawnEntry) → All (IsNamed size) ds
      → flat_map (references.unknown_in_entry (directory size es)) (map solutions.entry ds) ≡ []
  entries_known [] h = refl
  entries_known (d ∷ ds) h =
      both_none _ _ (entry_known d (All-head (IsNamed size) d ds h)) (entries_known ds (All-tail (IsNamed size) d ds h))

  -- a solution names the one instance that there is
  solution_known : (ds : List DrawnEntry) → All (IsNamed size) ds
      → references.unknown_in_solution (codes "made" ∷ []) (directory size es ∷ [])
      (solutions.solution ds) ≡ []
  unfolding solutions.solution
  solution_known ds h = entries_known ds h

  -- no reference of the solutions is unknown
  pub all_known : (dss : List (List DrawnEntry)) → All (All (IsNamed size)) dss
      → flat_map (references.unknown_in_solution (codes "made" ∷ []) (directory size es ∷ []))
      (map solutions.solution dss) ≡ []
  all_known [] h = refl
  all_known (ds ∷ dss) h =
      both_none _ _ (solution_known ds (All-head (All (IsNamed size)) ds dss h))
      (all_known dss (All-tail (All (IsNamed size)) ds dss h))
