-- The role came before where its first place is before.
use Rattle.std.proofs.Common.{◌∙◌, ap, map, ltb, false}
use Rattle.std.specs.Option.{option_map_or}
use Rattle.khe_base.specs.Text.{characters}
use Rattle.khe_instance.specs.Lookups.{is_role}
use Rattle.xhstt_completion.specs.Entries.{role_of}
use Rattle.xhstt_completion.proofs.TableLemmas.{any-early, place-map}
use Rattle.xhstt_completion.proofs.many.came_earlier.Goals as goal

pub returns-in-Some : goal.returns-in-Some
returns-in-Some c =
    let given = c.args._given.now in
    let role = characters c.args.role.now in
    let n = c.args.number in
    ap (λ o. option_map_or (λ k. ltb k n) o false)
    (c.in-Some.ensures (map role_of given) c.requires.roles ∙ place-map (is_role role) role_of given)
    ∙ any-early (λ one. is_role role (role_of one)) given n c.requires.number

pub returns-in-None : goal.returns-in-None
returns-in-None c =
    let given = c.args._given.now in
    let role = characters c.args.role.now in
    let n = c.args.number in
    ap (λ o. option_map_or (λ k. ltb k n) o false)
    (c.in-None.ensures (map role_of given) c.requires.roles ∙ place-map (is_role role) role_of given)
    ∙ any-early (λ one. is_role role (role_of one)) given n c.requires.number
