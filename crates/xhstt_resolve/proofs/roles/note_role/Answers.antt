-- The list of the role has one event resource more, and no other list has.
use Rattle.std.proofs.Common.{◌∙◌, ◌++◌, ◌∷◌, [], sym, ap, length, arith, if◌then◌else◌, get_or}
use Rattle.std.specs.Str.{bytes_eq}
use Rattle.std.proofs.lemmas.List.{length-set}
use Rattle.std.proofs.lemmas.Result.{on_ok_weaker}
use Rattle.xhstt_resolve.specs.Roles.{held}
use Rattle.xhstt_resolve.proofs.JoinedLemmas.{number_of_place}
use Rattle.xhstt_resolve.proofs.RolesLemmas.{held_more}
use Rattle.xhstt_resolve.proofs.roles.note_role.Goals as goal

pub add_place-requires : goal.add_place-requires
add_place-requires c =
    let place = number_of_place c.args.role.now c.role_number.new.names c.in_ok-number.number c.in_ok-number.ensures.number
    in
    omega (arith, place.0, c.in_ok-number.ensures.whole)

pub returns-clause-whole : goal.returns-clause-whole
returns-clause-whole c =
    let lists = c.role_number.new.lists.items in
    let n = c.in_ok-number.number in
    on_ok_weaker c.add_place.result
    (λ e. c.in_ok-number.ensures.whole
    ∙ sym (ap length e ∙ length-set lists n (get_or lists n [] ++ c.args.place ∷ []))) c.add_place.ensures

pub returns-clause-added : goal.returns-clause-added
returns-clause-added c =
    let names = c.role_number.new.names in
    let lists = c.role_number.new.lists.items in
    let role = c.args.role.now in
    let p = c.args.place in
    on_ok_weaker c.add_place.result
    (λ e r. ap (λ ls. held names ls r) e
    ∙ held_more names lists role r c.in_ok-number.number p c.in_ok-number.ensures.number c.in_ok-number.ensures.whole
    ∙ ap (λ a. a ++ (if bytes_eq role r then p ∷ [] else [])) (c.in_ok-number.ensures.same r)) c.add_place.ensures
