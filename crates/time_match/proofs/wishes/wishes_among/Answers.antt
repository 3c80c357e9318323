use Rattle.std.proofs.Common.{◌<◌, ◌∙◌, ◌++◌, ◌∷◌, [], ap, get_or, length, subst, sym, take}
use Rattle.std.specs.Prelude.{All}
use Rattle.std.proofs.lemmas.List.Elements.{All-push, All-same}
use Rattle.khe_instance.specs.declared.parts.Parts.{Parts}
use Rattle.time_match.specs.Wishes.{IsSmallWish, prefers_place, wish_at, wishes_among}
use Rattle.time_match.specs.declared.wishes.Wish.{Wish}
use Rattle.time_match.proofs.LikenessLaws.{wishes_more}
use Rattle.time_match.proofs.TaskLaws.{more_no, more_yes}
use Rattle.time_match.proofs.WishLaws.{prefers_there}
use Rattle.time_match.proofs.wishes.wishes_among.Goals as goal
use Rattle.time_match.proofs.wishes.wishes_among.Goals.{then-prefers+in_ok-push, else-prefers}

pub wish_of-requires : goal.wish_of-requires
wish_of-requires g c =
    let n = get_or c.args.numbers.now c.loop-number.number-index 0 in
    subst (λ (q : Parts). n < length q.monitors) c.instance-inst.ensures
    (prefers_there c.instance-inst.result.now c.args.event.0 c.args.place n
    (sym {b = prefers_place c.instance-inst.result.now c.args.event.0 c.args.place n} c.prefers.ensures
    ∙ c.if-prefers.true))

pub loop-number-preserved : goal.loop-number-preserved
loop-number-preserved g c =
    let p = c.args.engine.now.parts in
    let b = c.args.engine.now.state in
    let n = get_or c.args.numbers.now c.loop-number.number-index 0 in
    let old = c.loop-number.wishes in
    let i = c.loop-number.invariant in
    let is = c.prefers.ensures
    ∙ ap (λ (q : Parts). prefers_place q c.args.event.0 c.args.place n) c.instance-inst.ensures in
    let test = prefers_place p c.args.event.0 c.args.place n in
    let before = wishes_among p b c.args.event.0 c.args.place c.args.duration
    (take c.loop-number.number-index c.args.numbers.now) in
    let more =
    wishes_more p b c.args.event.0 c.args.place c.args.duration c.args.numbers.now c.loop-number.number-index 0
    c.loop-number-test.true in
    elim c.if-prefers.branch [
      | then-prefers+in_ok-push w ↦ record {
        are = w.wishes-is
            ∙ more_yes (wish_at p b c.args.duration n) test c.prefers.result before old _ _ is w.if-prefers.true i.are
            (w.in_ok-push.ensures.ok ∙ ap (λ (x : Wish). old ++ x ∷ []) w.wish_of.ensures.is) more;
        small = All-same IsSmallWish _ (old ++ w.wish_of.result ∷ []) (w.wishes-is ∙ w.in_ok-push.ensures.ok)
            (All-push IsSmallWish old w.wish_of.result i.small w.wish_of.ensures.small);
      }
      | else-prefers w ↦ record {
        are = w.wishes-is ∙ more_no (wish_at p b c.args.duration n) test c.prefers.result before old _ is
            w.if-prefers.false i.are more;
        small = subst (All IsSmallWish) (sym w.wishes-is) i.small;
      }
    ]
