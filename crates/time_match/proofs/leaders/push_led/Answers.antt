use Rattle.std.proofs.Common.{◌∙◌, ap, arith, get_or, length, refl, subst, sym}
use Rattle.std.specs.Prelude.{All}
use Rattle.std.proofs.lemmas.List.{length-map}
use Rattle.khe_engine.specs.Worlds.{World}
use Rattle.khe_told.specs.declared.edits.Edit.TheVariants.{Give}
use Rattle.resource_match.specs.Choices.{no_cost}
use Rattle.resource_match.specs.Smallness.{IsSmall}
use Rattle.time_match.specs.Costs.{no_resource}
use Rattle.time_match.specs.Wishes.{IsSmallWish, rest_in, wished}
use Rattle.time_match.proofs.AskLaws.{row_next, small_next}
use Rattle.time_match.proofs.LeaderLaws.{below_hard, below_soft, led_is, rest_at, rest_is, rest_small, within_hard}
use Rattle.time_match.proofs.LeaderLaws.{within_soft}
use Rattle.time_match.proofs.LikenessLaws.{few_wishes}
use Rattle.time_match.proofs.TotalsLaws.{totals_small_after}
use Rattle.time_match.proofs.WishLaws.{wishes_are}
use Rattle.time_match.proofs.leaders.push_led.Goals as goal

pub wished-wish-requires-clause-few : goal.wished-wish-requires-clause-few
wished-wish-requires-clause-few g c =
    let x = c.args.of.now in
    few_wishes c.args.engine.now.parts c.args.engine.now.state x.event.0 x.task.place x.duration c.args.numbers.now
    c.as_slice-wanted.result.now c.facts.ensures.made c.requires.numbers
    (c.as_slice-wanted.ensures ∙ c.in_ok-wishes.ensures.are)

pub wished-wish-requires-clause-each : goal.wished-wish-requires-clause-each
wished-wish-requires-clause-each g c =
    subst (All IsSmallWish) (sym c.as_slice-wanted.ensures) c.in_ok-wishes.ensures.small

pub totals_after-cost-requires-clause-accepted : goal.totals_after-cost-requires-clause-accepted
totals_after-cost-requires-clause-accepted g c = c.requires.accepted 0 no_resource c.requires.some

pub without-own-requires-clause-hard : goal.without-own-requires-clause-hard
without-own-requires-clause-hard g c =
    let p = c.args.engine.now.parts in
    let b = c.args.engine.now.state in
    let rs = c.args.resources.now in
    let x = c.args.of.now in
    let first = get_or rs 0 no_resource in
    let are = wishes_are p b x rs c.args.numbers.now c.as_slice-wanted.result.now c.requires.like c.requires.bare
    c.facts.ensures.made c.facts.ensures.valid c.requires.accepted c.requires.numbers
    (c.as_slice-wanted.ensures ∙ c.in_ok-wishes.ensures.are) in
    let cost = c.totals_after-cost.result in
    let wish = c.wished-wish.result in
    let wish_is = c.wished-wish.ensures.is ∙ are 0 no_resource c.requires.some in
    within_hard p b x.task first cost wish c.totals_after-cost.ensures.is wish_is

pub without-own-requires-clause-soft : goal.without-own-requires-clause-soft
without-own-requires-clause-soft g c =
    let p = c.args.engine.now.parts in
    let b = c.args.engine.now.state in
    let rs = c.args.resources.now in
    let x = c.args.of.now in
    let first = get_or rs 0 no_resource in
    let are = wishes_are p b x rs c.args.numbers.now c.as_slice-wanted.result.now c.requires.like c.requires.bare
    c.facts.ensures.made c.facts.ensures.valid c.requires.accepted c.requires.numbers
    (c.as_slice-wanted.ensures ∙ c.in_ok-wishes.ensures.are) in
    let cost = c.totals_after-cost.result in
    let wish = c.wished-wish.result in
    let wish_is = c.wished-wish.ensures.is ∙ are 0 no_resource c.requires.some in
    within_soft p b x.task first cost wish c.totals_after-cost.ensures.is wish_is

pub wished-more-requires-clause-few : goal.wished-more-requires-clause-few
wished-more-requires-clause-few g c =
    let x = c.args.of.now in
    few_wishes c.args.engine.now.parts c.args.engine.now.state x.event.0 x.task.place x.duration c.args.numbers.now
    c.as_slice-wanted.result.now c.facts.ensures.made c.requires.numbers
    (c.as_slice-wanted.ensures ∙ c.in_ok-wishes.ensures.are)

pub wished-more-requires-clause-each : goal.wished-more-requires-clause-each
wished-more-requires-clause-each g c =
    subst (All IsSmallWish) (sym c.as_slice-wanted.ensures) c.in_ok-wishes.ensures.small

pub led-requires-clause-rest : goal.led-requires-clause-rest
led-requires-clause-rest g c =
    let rs = c.args.resources.now in
    let leader = c.args.leader.now in
    let l = c.loop-k-test.true in
    let many = ap length c.requires.leader in
    let wide = length-map rs (rest_in c.args.engine.now.parts c.args.engine.now.state leader.task) in
    subst (λ xs. IsSmall (get_or xs c.loop-k.k no_cost)) (sym c.as_slice-rests.ensures)
    (c.requires.rests c.loop-k.k no_cost (omega (arith, l, many, wide)))

pub led-requires-clause-own : goal.led-requires-clause-own
led-requires-clause-own g c =
    rest_small c.totals_after-cost.result c.wished-wish.result c.without-own.result c.totals_after-cost.ensures.small
    c.without-own.ensures.hard c.without-own.ensures.soft

pub led-requires-clause-hard : goal.led-requires-clause-hard
led-requires-clause-hard g c =
    let p = c.args.engine.now.parts in
    let b = c.args.engine.now.state in
    let rs = c.args.resources.now in
    let x = c.args.of.now in
    let first = get_or rs 0 no_resource in
    let are = wishes_are p b x rs c.args.numbers.now c.as_slice-wanted.result.now c.requires.like c.requires.bare
    c.facts.ensures.made c.facts.ensures.valid c.requires.accepted c.requires.numbers
    (c.as_slice-wanted.ensures ∙ c.in_ok-wishes.ensures.are) in
    let cost = c.totals_after-cost.result in
    let wish = c.wished-wish.result in
    let wish_is = c.wished-wish.ensures.is ∙ are 0 no_resource c.requires.some in
    let own = c.without-own.result in
    let own_is = rest_is p b x.task first cost wish own c.totals_after-cost.ensures.is wish_is
    c.without-own.ensures.hard
    c.without-own.ensures.soft in
    let k = c.loop-k.k in
    let l = c.loop-k-test.true in
    let leader = c.args.leader.now in
    let rests = c.as_slice-rests.result.now in
    let r = get_or rs k no_resource in
    let rest_is_k = rest_at p b rs leader rests k c.requires.leader c.as_slice-rests.ensures l in
    let other_is = rest_at p b rs leader rests 0 c.requires.leader c.as_slice-rests.ensures c.requires.some in
    below_hard p b leader.task x.task c.requires.exchanged r first (get_or rests k no_cost) own (get_or rests 0 no_cost)
    rest_is_k own_is other_is

pub led-requires-clause-soft : goal.led-requires-clause-soft
led-requires-clause-soft g c =
    let p = c.args.engine.now.parts in
    let b = c.args.engine.now.state in
    let rs = c.args.resources.now in
    let x = c.args.of.now in
    let first = get_or rs 0 no_resource in
    let are = wishes_are p b x rs c.args.numbers.now c.as_slice-wanted.result.now c.requires.like c.requires.bare
    c.facts.ensures.made c.facts.ensures.valid c.requires.accepted c.requires.numbers
    (c.as_slice-wanted.ensures ∙ c.in_ok-wishes.ensures.are) in
    let cost = c.totals_after-cost.result in
    let wish = c.wished-wish.result in
    let wish_is = c.wished-wish.ensures.is ∙ are 0 no_resource c.requires.some in
    let own = c.without-own.result in
    let own_is = rest_is p b x.task first cost wish own c.totals_after-cost.ensures.is wish_is
    c.without-own.ensures.hard
    c.without-own.ensures.soft in
    let k = c.loop-k.k in
    let l = c.loop-k-test.true in
    let leader = c.args.leader.now in
    let rests = c.as_slice-rests.result.now in
    let r = get_or rs k no_resource in
    let rest_is_k = rest_at p b rs leader rests k c.requires.leader c.as_slice-rests.ensures l in
    let other_is = rest_at p b rs leader rests 0 c.requires.leader c.as_slice-rests.ensures c.requires.some in
    below_soft p b leader.task x.task c.requires.exchanged r first (get_or rests k no_cost) own (get_or rests 0 no_cost)
    rest_is_k own_is other_is

pub loop-k-preserved : goal.loop-k-preserved
loop-k-preserved g c =
    let p = c.args.engine.now.parts in
    let b = c.args.engine.now.state in
    let rs = c.args.resources.now in
    let x = c.args.of.now in
    let first = get_or rs 0 no_resource in
    let are = wishes_are p b x rs c.args.numbers.now c.as_slice-wanted.result.now c.requires.like c.requires.bare
    c.facts.ensures.made c.facts.ensures.valid c.requires.accepted c.requires.numbers
    (c.as_slice-wanted.ensures ∙ c.in_ok-wishes.ensures.are) in
    let cost = c.totals_after-cost.result in
    let wish = c.wished-wish.result in
    let wish_is = c.wished-wish.ensures.is ∙ are 0 no_resource c.requires.some in
    let own = c.without-own.result in
    let own_is = rest_is p b x.task first cost wish own c.totals_after-cost.ensures.is wish_is
    c.without-own.ensures.hard
    c.without-own.ensures.soft in
    let k = c.loop-k.k in
    let l = c.loop-k-test.true in
    let leader = c.args.leader.now in
    let rests = c.as_slice-rests.result.now in
    let r = get_or rs k no_resource in
    let rest_is_k = rest_at p b rs leader rests k c.requires.leader c.as_slice-rests.ensures l in
    let other_is = rest_at p b rs leader rests 0 c.requires.leader c.as_slice-rests.ensures c.requires.some in
    let more = c.wished-more.result in
    let more_is = c.wished-more.ensures.is
    ∙ ap (λ (u : World). wished u.parts c.as_slice-wanted.result.now r) c.loop-k.invariant.same ∙ are k no_resource l in
    let new = c.led.result in
    let is = led_is p b leader.task x.task c.requires.exchanged r first (get_or rests k no_cost) own
    (get_or rests 0 no_cost) rest_is_k own_is other_is more new more_is c.led.ensures.hard c.led.ensures.soft in
    let small = subst IsSmall (sym is) (totals_small_after p b (Give x.task r) c.facts.ensures.made
    c.facts.ensures.valid
    refl (c.requires.accepted k no_resource l)) in
    let made = c.in_ok-push.ensures.ok in
    record {
      pairs = row_next p b x.task rs k no_resource c.args.pairs.now c.loop-k.pairs c.push.new.self new l
          c.loop-k.invariant.pairs is made;
      small = small_next c.loop-k.pairs c.push.new.self new c.loop-k.invariant.small small made;
      same = c.loop-k.invariant.same;
    }
