-- Event resource after event resource.
use Rattle.std.proofs.Common.{◌∙◌, ◌+◌, ◌++◌, sym, ap, drop, map}
use Rattle.std.proofs.lemmas.List.{append-nil, drop_all}
use Rattle.khe_base.proofs.ListLemmas.{drop-next}
use Rattle.xhstt_resolve.specs.Members.{numbers_from}
use Rattle.xhstt_resolve.specs.Points.{has_role}
use Rattle.xhstt_resolve.specs.Roles.{held, role_place}
use Rattle.xhstt_resolve.proofs.RolesLemmas.{resource_more}
use Rattle.xhstt_resolve.proofs.roles.note_event.Goals as goal

pub loop-place-preserved : goal.loop-place-preserved
loop-place-preserved c =
    let rs = c.args.resources.now in
    let k = c.loop-place.place in
    let x = c.index-resources-place.result in
    record {
      whole = c.in_ok-note_resource.ensures.whole;
      added = λ role. resource_more (held c.loop-place.names c.loop-place.lists.items role)
          (held c.note_resource.new.names c.note_resource.new.lists.items role) c.args.event k role x (drop (k + 1) rs)
          (drop k rs) (drop-next rs k x c.loop-place-test.true c.index-resources-place.is)
          (c.in_ok-note_resource.ensures.added role)
          ∙ c.loop-place.invariant.added role;
    }

pub returns-clause-added : goal.returns-clause-added
returns-clause-added c = λ role.
    (let rs = c.args.resources.now in
    let k = c.loop-place.place in
    let so_far = held c.loop-place.names c.loop-place.lists.items role in
    sym (append-nil so_far)
    ∙ ap (λ xs. so_far ++ map (role_place c.args.event) (numbers_from (has_role role) k xs))
    (sym (drop_all k rs c.loop-place-test.false))
    ∙ c.loop-place.invariant.added role)
