use Rattle.std.proofs.Common.{◌∙◌, sym, ap, subst, ◌-◌, ◌≤◌, ℕ, length, take}
use Rattle.std.proofs.lemmas.List.{take_all, length-replicate}
use Rattle.event_deviations.proofs.LinkLemmas.{IsLinked, IsLinked-none, IsLinked-more, none_yet, apart-is}
use Rattle.event_deviations.proofs.links.link_events.Goals as goal

pub loop-rank-init : goal.loop-rank-init
loop-rank-init c =
    let n = length c.args.some.now in
    let m = length c.args.leading.now in
    record {
      some_long = ap length c.clear.ensures ∙ length-replicate n 0;
      leading_long = ap length c.clear-2.ensures ∙ length-replicate m 0;
      linked = rw (c.clear.ensures, c.clear-2.ensures) (IsLinked-none c.args.index.now.meets n m);
    }

pub cover-whole-requires-clause-none : goal.cover-whole-requires-clause-none
cover-whole-requires-clause-none c =
    none_yet c.args.index.now.meets c.args.events.now c.loop-rank.rank c.loop-rank-test.true c.loop-rank.some
    c.loop-rank.leading c.loop-rank.whole c.loop-rank.invariant.linked

pub loop-rank-preserved : goal.loop-rank-preserved
loop-rank-preserved c =
    let old = c.loop-rank.invariant in
    let did = c.cover-whole.ensures in
    record {
      some_long = did.some_times ∙ old.some_long;
      leading_long = did.leading_times ∙ old.leading_long;
      linked =
          IsLinked-more c.args.index.now.meets c.args.events.now c.loop-rank.rank c.loop-rank-test.true c.loop-rank.some
          c.loop-rank.leading c.loop-rank.whole old.linked
          c.cover-whole.new.some c.cover-whole.new.leading c.cover-whole.result c.meets.result.now c.meets.ensures.are
          did.some did.leading did.leading_times did.count;
    }

pub overflow_sub-result : goal.overflow_sub-result
overflow_sub-result c =
    let old = c.loop-rank.invariant in
    let a = apart-is c.args.index.now.meets (take c.loop-rank.rank c.args.events.now) c.loop-rank.some
    c.loop-rank.leading (length c.args.index.now.parts.times) c.loop-rank.whole
    (old.some_long ∙ c.requires.some) (old.leading_long ∙ c.requires.leading) old.linked in
    subst (λ (n : ℕ). c.loop-rank.whole ≤ n) (sym c.count.ensures) a.whole_le

pub returns-clause-exact : goal.returns-clause-exact
returns-clause-exact c =
    let old = c.loop-rank.invariant in
    let all = take_all c.loop-rank.rank c.args.events.now c.loop-rank-test.false in
    let a = apart-is c.args.index.now.meets c.args.events.now c.loop-rank.some c.loop-rank.leading
    (length c.args.index.now.parts.times) c.loop-rank.whole
    (old.some_long ∙ c.requires.some) (old.leading_long ∙ c.requires.leading)
    (subst (λ es. IsLinked c.args.index.now.meets es c.loop-rank.some c.loop-rank.leading c.loop-rank.whole) all
    old.linked) in
    ap (λ (n : ℕ). n - c.loop-rank.whole) c.count.ensures ∙ a.apart
