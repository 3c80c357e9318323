-- A solution of an instance that is there, and one of none.
use Rattle.std.proofs.Common.{◌≡◌, ◌∙◌, ◌<◌, ◌∷◌, ◌++◌, [], ap, sym, length, get_or, map, Some, arith}
use Rattle.std.proofs.lemmas.List.{get_or-map, length-map}
use Rattle.khe_base.specs.Names.{number_of}
use Rattle.xhstt_references.specs.Directories.{named_by}
use Rattle.xhstt_references.specs.First.{first_of}
use Rattle.xhstt_references.proofs.FirstLemmas.{first_of_one}
use Rattle.xhstt_references.proofs.FollowedLemmas.{followed_known, followed_unknown, so_then, whatever}
use Rattle.xhstt_references.proofs.UnknownLemmas.{number_below, solution_known, solution_unknown}
use Rattle.xhstt_references.proofs.solutions.add_solution.Goals as goal

pub bounds-made-number : goal.bounds-made-number
bounds-made-number c =
    let below : c.in-Some.number < length c.args.instances.now =
    number_below c.args.solution.now.reference.id _ _ (sym c.number.ensures ∙ c.in-Some.is) in
    omega (arith, c.requires.same)

pub overflow_cast-number : goal.overflow_cast-number
overflow_cast-number c =
    let below : c.in-Some.number < length c.args.instances.now =
    number_below c.args.solution.now.reference.id _ _ (sym c.number.ensures ∙ c.in-Some.is) in
    omega (arith, c.requires.few)

pub returns-in_ok-entries-in-Some-clause-followed : goal.returns-in_ok-entries-in-Some-clause-followed
returns-in_ok-entries-in-Some-clause-followed c =
    let ids = c.args.instances.now in
    let made = c.args.made.now in
    let solution = c.args.solution.now in
    let n = c.in-Some.number in
    let p = c.index-made-number.result in
    let found : number_of solution.reference.id ids ≡ Some n = sym c.number.ensures ∙ c.in-Some.is in
    let within : n < length made = omega (
      arith,
      number_below solution.reference.id ids n found,
      c.requires.same,
    ) in
    so_then c.push-in-Some.result
    (λ pushed. pushed ∙ ap (λ f. c.args.followed.now ++ f ∷ []) (c.in_ok-entries-in-Some.ensures.followed
    ∙ followed_known made ids solution n p found within c.index-made-number.is))
    c.push-in-Some.ensures.ok

pub returns-in_ok-entries-in-Some-clause-first : goal.returns-in_ok-entries-in-Some-clause-first
returns-in_ok-entries-in-Some-clause-first c =
    let ids = c.args.instances.now in
    let made = c.args.made.now in
    let directories = map named_by made in
    let solution = c.args.solution.now in
    let n = c.in-Some.number in
    let p = c.index-made-number.result in
    let d = named_by p in
    let found : number_of solution.reference.id ids ≡ Some n = sym c.number.ensures ∙ c.in-Some.is in
    let within : n < length made = omega (
      arith,
      number_below solution.reference.id ids n found,
      c.requires.same,
    ) in
    let below : n < length directories = omega (arith, within, length-map made named_by) in
    let at : d ≡ get_or directories n d = ap named_by c.index-made-number.is
    ∙ sym (get_or-map named_by made n p d within) in
    whatever c.push-in-Some.result
    (c.in_ok-entries-in-Some.ensures.first
    ∙ ap (first_of c.args.first.now.at) (sym (solution_known ids directories solution n d found below at)))

pub returns-in-None-clause-followed : goal.returns-in-None-clause-followed
returns-in-None-clause-followed c =
    so_then c.push-in-None.result
    (λ pushed. pushed ∙ ap (λ f. c.args.followed.now ++ f ∷ []) (c.nothing.ensures
    ∙ followed_unknown c.args.made.now c.args.instances.now c.args.solution.now (sym c.number.ensures ∙ c.in-None.is)))
    c.push-in-None.ensures.ok

pub returns-in-None-clause-first : goal.returns-in-None-clause-first
returns-in-None-clause-first c =
    whatever c.push-in-None.result
    (c.note.ensures
    ∙ sym (first_of_one c.args.first.now.at c.args.solution.now.reference.at)
    ∙ ap (first_of c.args.first.now.at) (sym (solution_unknown c.args.instances.now (map named_by c.args.made.now)
    c.args.solution.now (sym c.number.ensures ∙ c.in-None.is))))
