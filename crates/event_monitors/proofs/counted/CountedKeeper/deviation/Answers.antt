use Rattle.std.proofs.Common.{◌≡◌, ◌∙◌, ◌<◌, Some, slice_get, get_or, length, sym, ap, subst, arith}
use Rattle.std.specs.Option.{option_map}
use Rattle.std.proofs.lemmas.Option.{slice_get-get_or, slice_get_within, get_or_from_slice_get}
use Rattle.khe_told.specs.Agreement.{deviation_in}
use Rattle.event_monitors.specs.declared.posts.Post.{Post}
use Rattle.event_monitors.proofs.TurnLaws.{no_post}
use Rattle.event_monitors.proofs.counted.CountedKeeper.deviation.Goals as goal

pub value-requires : goal.value-requires
value-requires g c =
    let k = c.place_of-k.result in
    let a = c.place_of-k.ensures.0 in
    let there = c.place_of-k.ensures.1 in
    let within : k < length c.args.self.now.gauges.items = let x =
    slice_get_within c.args.self.now.index.posts k a there in let y = c.requires.keeps.1.2 in omega (arith, x, y) in
    let here : slice_get c.args.self.now.gauges.items k ≡ Some c.index.result.now =
    slice_get-get_or c.args.self.now.gauges.items k c.index.result.now within ∙ ap Some (sym c.index.ensures) in
    let same : get_or c.as_slice.result.now k no_post ≡ a =
    ap (λ xs. get_or xs k no_post) c.as_slice.ensures
    ∙ get_or_from_slice_get c.args.self.now.index.posts k a no_post there in
    record {
      keeps = (
        c.requires.keeps.0,
        subst
            (λ (b : Post). g.G.Gauge.Keeps c.index.result.now c.args.inst.now b.monitor c.requires.keeps.0) (sym same)
            (c.requires.keeps.1.3 k a c.index.result.now there here),
      );
    }

pub returns-clause-value : goal.returns-clause-value
returns-clause-value g c = λ s keeps.
    let p = c.args.inst.now in
    let k = c.place_of-k.result in
    let a = c.place_of-k.ensures.0 in
    let there = c.place_of-k.ensures.1 in
    let within : k < length c.args.self.now.gauges.items = let x =
    slice_get_within c.args.self.now.index.posts k a there in let y = keeps.2 in omega (arith, x, y) in
    let here : slice_get c.args.self.now.gauges.items k ≡ Some c.index.result.now =
    slice_get-get_or c.args.self.now.gauges.items k c.index.result.now within ∙ ap Some (sym c.index.ensures) in
    let same : get_or c.as_slice.result.now k no_post ≡ a =
    ap (λ xs. get_or xs k no_post) c.as_slice.ensures
    ∙ get_or_from_slice_get c.args.self.now.index.posts k a no_post there in
    let found : slice_get p.monitors c.args.monitor.0 ≡ Some a.monitor =
    ap (slice_get p.monitors) (sym c.place_of-k.ensures.2) ∙ (keeps.0.each k a there).there in
    ap (option_map (deviation_in p s)) found
    ∙ ap Some (g.met.G.Gauge.exact c.index.result.now p a.monitor s (keeps.3 k a c.index.result.now there here))
    ∙ sym (ap Some (c.value.ensures.value ∙ ap (λ (b : Post). g.G.Gauge.value c.index.result.now p b.monitor) same))
