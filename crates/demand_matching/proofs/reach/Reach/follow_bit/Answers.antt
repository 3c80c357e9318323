use Rattle.std.proofs.Common.{◌+◌, sym, ◌∙◌}
use Rattle.std.proofs.lemmas.Bool.{true≢false}
use Rattle.demand_matching.proofs.Reaching.{reaches_none}
use Rattle.demand_matching.proofs.Seen.{seen_more}
use Rattle.demand_matching.proofs.reach.Reach.follow_bit.Goals as goal

pub returns-then-not-has_bit : goal.returns-then-not-has_bit
returns-then-not-has_bit c = record {
  reaches = reaches_none c.args.table.now c.args.self.now c.requires.reach;
  seen = c.requires.seen;
  reached = λ by h. absurd (true≢false (sym h ∙ sym c.has_bit.ensures ∙ c.if-not-has_bit.true));
}

pub returns : goal.returns
returns c =
    let e = c.in_ok-follow_supply.ensures in
    record {
      reaches = e.reaches;
      seen = seen_more c.args.table.now c.args.self.now.marks c.follow_supply.new.self.marks c.args.unseen.now.items
          c.clear_bit.new.words.items (c.args.first + c.args.i) c.requires.seen e.reaches.marks
          c.clear_bit.ensures.length c.clear_bit.ensures.bits e.reached;
      reached = λ by h. e.reached by;
    }
