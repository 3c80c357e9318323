use Rattle.std.proofs.Common.{arith}
use Rattle.std.proofs.lemmas.List.Sums.{prefix_len-le-length}
use Rattle.xhstt_text.specs.Bytes.{is_quoted}
use Rattle.xhstt_text.proofs.Places.{skips_from}
use Rattle.xhstt_text.proofs.bytes.quoted.Goals as goal

pub skip-requires : goal.skip-requires
skip-requires c = omega (
  arith,
  c.quoted_length.ensures,
  prefix_len-le-length (is_quoted c.args.quote)
      c.args.here.rest.now,
)

pub returns : goal.returns
returns c = skips_from (is_quoted c.args.quote) c.args.here.at c.args.here.rest.now c.skip.result.at
    c.skip.result.rest.now c.quoted_length.result c.quoted_length.ensures c.skip.ensures.at c.skip.ensures.rest
