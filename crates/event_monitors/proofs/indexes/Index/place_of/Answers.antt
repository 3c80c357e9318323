use Rattle.std.proofs.Common.{◌≡◌, ◌∙◌, Some, slice_get, ap, subst, arith}
use Rattle.std.proofs.lemmas.Option.{get_or_from_slice_get, slice_get_within}
use Rattle.event_monitors.proofs.indexes.Index.place_of.Goals as goal

pub index-requires : goal.index-requires
index-requires c =
    let r = c.requires.served in
    let l = slice_get_within c.args.self.now.places.items c.args.monitor.0 r.0
    (subst (λ n. slice_get c.args.self.now.places.items n ≡ Some r.0) r.3 (c.requires.places r.0 r.1 r.2)) in
    omega (arith, l)

pub returns : goal.returns
returns c =
    let r = c.requires.served in
    let places = c.args.self.now.places.items in
    let at : slice_get places c.args.monitor.0 ≡ Some r.0 =
    subst (λ n. slice_get places n ≡ Some r.0) r.3 (c.requires.places r.0 r.1 r.2) in
    let is = c.index.ensures ∙ get_or_from_slice_get places c.args.monitor.0 r.0 c.index.result.now at in (
      r.1,
      ap (slice_get c.args.self.now.posts) is ∙ r.2,
      r.3,
    )
