-- The archive that is made is never refused, and its first solution can be completed.
use Rattle.std.proofs.Common.{ℕ, ◌≡◌, ◌≤◌, Some, None, List, length, map, slice_get, option_map}
use Rattle.std.proofs.Common.{Ok, Err, refl, ap, ◌∙◌, arith}
use Rattle.std.specs.Option.{option_and_then, option_map_or}
use Rattle.std.specs.Prelude.{codes, unwrap_or}
use Rattle.std.proofs.lemmas.List.{length-map}
use Rattle.std.proofs.lemmas.Option.{slice_get-map}
use Rattle.khe_base.specs.Names.{number_of}
use Rattle.khe_base.specs.declared.limits.TheConstants.{MADE_EVENTS, SOLUTIONS}
use Rattle.xhstt_shape.specs.declared.records.RawSolution.{RawSolution}
use Rattle.xhstt_references.specs.Ids.{instance_ids}
use Rattle.xhstt_references.specs.References.{solutions_of}
use Rattle.xhstt_resolve.specs.Faults.{as_fault}
use Rattle.xhstt_resolve.specs.Limits.{earliest}
use Rattle.xhstt_resolve.specs.Parts.{parts_of}
use Rattle.xhstt_references.specs.Followed.{followed_of}
use Rattle.xhstt_resolve.specs.Resolved.{archive_fault, instance_fault, instances_of, resolved}
use Rattle.fault_tables.specs.declared.limits.TheConstants.{TOO_MANY_SOLUTIONS}
use Rattle.xhstt_resolve.specs.declared.resolving.Resolved.{Resolved}
use Rattle.xhstt_completion.specs.Completed.{state_of}
use Rattle.xhstt_completion.specs.Numbered.{parts_at}
use Rattle.xhstt_completion.proofs.Resolved.{resolved-as}
use Rattle.archive_generator.specs.declared.drawing.DrawnEvent.{DrawnEvent}
use Rattle.archive_generator.specs.Job as job
use Rattle.archive_generator.specs.Made as made
use Rattle.archive_generator.specs.Names.{below}
use Rattle.archive_generator.specs.Solutions as solutions
use Rattle.archive_generator.proofs.SlotLaws.{made_instances}
use Rattle.generator_laws.specs.Starts.{HasStart}
use Rattle.generator_laws.proofs.CompletionLaws.{solution_completed}
use Rattle.generator_laws.proofs.DrawLaws.{events_drawn}
use Rattle.generator_laws.proofs.FaultLaws.{ids_faultless, instance_faultless, made_ids, made_solutions}
use Rattle.generator_laws.proofs.FaultLaws.{solutions_faultless}
use Rattle.generator_laws.proofs.IdLaws.{IsSize}
use Rattle.generator_laws.proofs.LimitLaws.{limits_kept, neither, within}

-- four solutions are drawn, of which this is the first

four_drawn : (size : ℕ) (es : List DrawnEvent) (x : ℕ) → length (job.solutions size es x).0 ≡ 4
unfolding job.solutions below
four_drawn size es x = refl

first_drawn : (size : ℕ) (es : List DrawnEvent) (x : ℕ)
    → slice_get (job.solutions size es x).0 0 ≡ Some (job.solution size es x).0
unfolding job.solutions below
first_drawn size es x = refl

four_solutions : (seed size : ℕ) → length (solutions_of (made.made seed size)) ≡ 4
four_solutions seed size =
    let es = (job.events size seed).0 in
    let x = (job.events size seed).1 in
    ap length (made_solutions seed size) ∙ length-map (job.solutions size es x).0 solutions.solution
    ∙ four_drawn size es x

first_solution : (seed size : ℕ) → slice_get (solutions_of (made.made seed size)) 0
    ≡ Some (solutions.solution (job.solution size (job.events size seed).0 (job.events size seed).1).0)
first_solution seed size =
    let es = (job.events size seed).0 in
    let x = (job.events size seed).1 in
    ap (λ ss. slice_get ss 0) (made_solutions seed size)
    ∙ slice_get-map solutions.solution (job.solutions size es x).0 0
    ∙ ap (option_map solutions.solution) (first_drawn size es x)

-- no reference, no Id and no size of the archive is a fault
pub made_faultless : (seed size : ℕ) → 1 ≤ size → size ≤ MADE_EVENTS → archive_fault (made.made seed size) ≡ None
made_faultless seed size some few =
    let s : IsSize size = record { some = some; few = few } in
    let a = made.made seed size in
    let es = (job.events size seed).0 in
    let drawn = events_drawn size seed in
    let i = made.instance size es in
    let four = four_solutions seed size in
    neither _ _ (ap (option_map as_fault) (ids_faultless seed size))
    (neither _ _ (ap (λ is. earliest (map instance_fault is)) (made_instances seed size)
    ∙ neither (instance_fault i) None
    (neither _ _ (ap (option_map as_fault) (instance_faultless size es s drawn)) (limits_kept size es s drawn)) refl)
    (neither _ _ (neither _ _ (within TOO_MANY_SOLUTIONS SOLUTIONS (length (solutions_of a)) (omega arith))
    (neither _ _ (ap (option_map as_fault) (solutions_faultless seed size s)) refl)) refl))

-- so it is resolved
pub made_resolved : (seed size : ℕ) → 1 ≤ size → size ≤ MADE_EVENTS
    → resolved (made.made seed size)
    ≡ Ok (record {
      instances = map parts_of (made.made seed size).instances;
      of = instances_of (made.made seed size);
      followed = followed_of (made.made seed size);
    })
made_resolved seed size some few =
    let a = made.made seed size in
    let r : Resolved = record { instances = map parts_of a.instances; of = instances_of a; followed = followed_of a } in
    ap (λ fault. option_map_or Err fault (Ok r)) (made_faultless seed size some few)

-- the first solution is one of the first instance
first_instance : (seed size : ℕ) → slice_get (instances_of (made.made seed size)) 0 ≡ Some 0
unfolding solutions.solution
first_instance seed size =
    let a = made.made seed size in
    let number = λ (raw : RawSolution). unwrap_or (number_of raw.reference.id (instance_ids a)) 0 in
    slice_get-map number (solutions_of a) 0 ∙ ap (option_map number) (first_solution seed size)
    ∙ ap (λ ids. Some (unwrap_or (number_of (codes "made") ids) 0)) (made_ids seed size)

first_parts : (seed size : ℕ) (r : Resolved) → r.instances ≡ map parts_of (made.made seed size).instances
    → r.of ≡ instances_of (made.made seed size)
    → parts_at r 0 ≡ Some (parts_of (made.instance size (job.events size seed).0))
first_parts seed size r instances of_ =
    ap (option_and_then (λ k. slice_get r.instances k)) (ap (λ ks. slice_get ks 0) of_ ∙ first_instance seed size)
    ∙ ap (λ ps. slice_get ps 0) (instances ∙ ap (map parts_of) (made_instances seed size))

-- and it can be completed, so that a run begins with its state
pub has_start : (seed size : ℕ) → 1 ≤ size → size ≤ MADE_EVENTS → (r : Resolved) → resolved (made.made seed size) ≡ Ok r
    → HasStart seed size r
has_start seed size some few r is =
    let s : IsSize size = record { some = some; few = few } in
    let es = (job.events size seed).0 in
    let x = (job.events size seed).1 in
    let p = parts_of (made.instance size es) in
    let raw = solutions.solution (job.solution size es x).0 in
    let from = resolved-as (made.made seed size) r is in
    record {
      solution = raw;
      first = first_solution seed size;
      parts = p;
      parts_are = first_parts seed size r from.instances from.of;
      state = state_of p raw.events;
      completed_is = solution_completed size es s (events_drawn size seed) x;
    }
