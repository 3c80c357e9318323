use Rattle.std.proofs.Common.{◌∙◌, ap, arith, get_or, length, map, subst, sym}
use Rattle.std.specs.Prelude.{All}
use Rattle.std.proofs.lemmas.List.{length-map, take_all}
use Rattle.resource_match.specs.Choices.{no_cost}
use Rattle.time_match.specs.Costs.{cost_with, no_resource}
use Rattle.time_match.specs.Wishes.{IsSmallWish, rest_in}
use Rattle.time_match.proofs.AskLaws.{small_next}
use Rattle.time_match.proofs.LeaderLaws.{asked_at, mapped_next, rest_is, rest_small, within_hard, within_soft}
use Rattle.time_match.proofs.LikenessLaws.{few_wishes}
use Rattle.time_match.proofs.WishLaws.{wishes_are}
use Rattle.time_match.proofs.leaders.leader_of.Goals as goal

pub wished-wish-requires-clause-few : goal.wished-wish-requires-clause-few
wished-wish-requires-clause-few g c =
    let x = c.args.of.now in
    few_wishes c.args.engine.now.parts c.args.engine.now.state x.event.0 x.task.place x.duration c.args.numbers.now
    c.as_slice-wanted.result.now c.facts.ensures.made c.requires.numbers
    (c.as_slice-wanted.ensures ∙ c.in_ok-wishes.ensures.are)

pub wished-wish-requires-clause-each : goal.wished-wish-requires-clause-each
wished-wish-requires-clause-each g c =
    subst (All IsSmallWish) (sym c.as_slice-wanted.ensures) c.in_ok-wishes.ensures.small

pub without-requires-clause-hard : goal.without-requires-clause-hard
without-requires-clause-hard g c =
    let p = c.args.engine.now.parts in
    let b = c.args.engine.now.state in
    let rs = c.args.resources.now in
    let x = c.args.of.now in
    let k = c.loop-k.k in
    let l = c.loop-k-test.true in
    let are = wishes_are p b x rs c.args.numbers.now c.as_slice-wanted.result.now c.requires.like c.requires.bare
    c.facts.ensures.made c.facts.ensures.valid c.requires.accepted c.requires.numbers
    (c.as_slice-wanted.ensures ∙ c.in_ok-wishes.ensures.are) in
    within_hard p b x.task (get_or rs k no_resource) (get_or c.args.asked.now k no_cost) c.wished-wish.result
    (asked_at p b rs x.task c.args.asked.now k c.requires.asked l) (c.wished-wish.ensures.is ∙ are k no_resource l)

pub without-requires-clause-soft : goal.without-requires-clause-soft
without-requires-clause-soft g c =
    let p = c.args.engine.now.parts in
    let b = c.args.engine.now.state in
    let rs = c.args.resources.now in
    let x = c.args.of.now in
    let k = c.loop-k.k in
    let l = c.loop-k-test.true in
    let are = wishes_are p b x rs c.args.numbers.now c.as_slice-wanted.result.now c.requires.like c.requires.bare
    c.facts.ensures.made c.facts.ensures.valid c.requires.accepted c.requires.numbers
    (c.as_slice-wanted.ensures ∙ c.in_ok-wishes.ensures.are) in
    within_soft p b x.task (get_or rs k no_resource) (get_or c.args.asked.now k no_cost) c.wished-wish.result
    (asked_at p b rs x.task c.args.asked.now k c.requires.asked l) (c.wished-wish.ensures.is ∙ are k no_resource l)

pub loop-k-preserved : goal.loop-k-preserved
loop-k-preserved g c =
    let p = c.args.engine.now.parts in
    let b = c.args.engine.now.state in
    let rs = c.args.resources.now in
    let x = c.args.of.now in
    let k = c.loop-k.k in
    let l = c.loop-k-test.true in
    let a = get_or c.args.asked.now k no_cost in
    let w = c.wished-wish.result in
    let rest = c.without.result in
    let left = c.without.ensures in
    let made = c.in_ok-push.ensures.ok in
    let are = wishes_are p b x rs c.args.numbers.now c.as_slice-wanted.result.now c.requires.like c.requires.bare
    c.facts.ensures.made c.facts.ensures.valid c.requires.accepted c.requires.numbers
    (c.as_slice-wanted.ensures ∙ c.in_ok-wishes.ensures.are) in
    let many = ap length c.requires.asked in
    let wide = length-map rs (cost_with p b x.task) in
    record {
      rests = mapped_next (rest_in p b x.task) rs k no_resource c.loop-k.rests c.push.new.self rest l
          c.loop-k.invariant.rests
          (rest_is p b x.task (get_or rs k no_resource) a w rest
          (asked_at p b rs x.task c.args.asked.now k c.requires.asked l)
          (c.wished-wish.ensures.is ∙ are k no_resource l) left.hard left.soft) made;
      small = small_next c.loop-k.rests c.push.new.self rest c.loop-k.invariant.small
          (rest_small a w rest (c.requires.small k no_cost (omega (arith, l, many, wide))) left.hard left.soft) made;
    }

pub returns-clause-is : goal.returns-clause-is
returns-clause-is g c =
    let g = c.loop-k-test.false in
    c.loop-k.invariant.rests
    ∙ ap (map (rest_in c.args.engine.now.parts c.args.engine.now.state c.args.of.now.task))
    (take_all c.loop-k.k c.args.resources.now (omega (arith, g)))
