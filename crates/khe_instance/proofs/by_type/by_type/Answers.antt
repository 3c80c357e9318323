-- One resource more.
use Rattle.std.proofs.Common.{◌≡◌, ◌<◌, ◌∙◌, ◌==◌, sym, ap, subst, false, Some, length, get_or, slice_get}
use Rattle.std.specs.Option.{option_map_or}
use Rattle.std.proofs.lemmas.Option.{slice_get-get_or}
use Rattle.khe_instance.specs.ByType.{is_of_type}
use Rattle.khe_instance.specs.declared.parts.ResourceInfo.{ResourceInfo}
use Rattle.khe_instance.proofs.ListingLemmas.{one_listed}
use Rattle.khe_instance.proofs.by_type.by_type.Goals as goal

pub loop-number-preserved : goal.loop-number-preserved
loop-number-preserved c =
    let rs = c.args.parts.now.resources in
    let n = c.loop-number.number in
    let r = c.resource-item.result in
    let items = c.as_slice-resource-items.ensures in
    let within : n < length rs = subst (λ xs. n < length xs) items c.loop-number-test.true in
    let at : slice_get rs n ≡ Some r =
    slice_get-get_or rs n r within ∙ ap Some (sym (c.resource-item.is ∙ ap (λ xs. get_or xs n r) items)) in
    one_listed (is_of_type rs) c.args.parts.now.types n (λ t. r.rtype == t) c.loop-number.lists _
    (λ t. ap (λ o. option_map_or (λ (x : ResourceInfo). x.rtype == t) o false) (sym at)) c.loop-number.invariant
    c.in_ok-push_at.ensures
