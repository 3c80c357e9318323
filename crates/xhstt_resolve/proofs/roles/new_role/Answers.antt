-- A new role goes last, with an empty list.
use Rattle.std.proofs.Common.{◌≡◌, ◌∙◌, ◌++◌, ◌∷◌, ◌+◌, [], sym, ap, Some, length, arith}
use Rattle.std.proofs.lemmas.List.{length_push}
use Rattle.khe_base.specs.Names.{number_of}
use Rattle.xhstt_resolve.specs.Roles.{held}
use Rattle.xhstt_resolve.proofs.RolesLemmas.{goes_last, held_still, numbered_last}
use Rattle.xhstt_resolve.proofs.roles.new_role.Goals as goal

pub returns-clause-whole : goal.returns-clause-whole
returns-clause-whole c =
    let names = c.args.names.now in
    let lists = c.args.lists.now.items in
    let role = c.args.role.now in
    omega (
      arith,
      ap length (c.in_ok-insert.ensures.ok ∙ goes_last names role c.requires.new),
      length_push names role,
      ap length c.in_ok-push.ensures.items,
      length_push lists c.new.result,
      c.requires.whole,
    )

pub returns-clause-number : goal.returns-clause-number
returns-clause-number c =
    ap (number_of c.args.role.now) c.in_ok-insert.ensures.ok
    ∙ numbered_last c.args.names.now c.args.role.now c.requires.new
    ∙ sym (ap Some c.len-number.ensures.len)

pub returns-clause-same : goal.returns-clause-same
returns-clause-same c = λ r.
    (let lists = c.args.lists.now.items in
    let more : c.push.new.self.items ≡ lists ++ [] ∷ [] =
    c.in_ok-push.ensures.items ∙ ap (λ x. lists ++ x ∷ []) c.new.ensures in
    (λ j. held (c.in_ok-insert.ensures.ok j) (more j) r)
    ∙ held_still c.args.names.now lists c.args.role.now r c.requires.new c.requires.whole)
