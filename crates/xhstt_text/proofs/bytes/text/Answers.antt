use Rattle.std.proofs.Common.{arith}
use Rattle.std.proofs.lemmas.List.Sums.{prefix_len-le-length}
use Rattle.xhstt_text.specs.Bytes.{is_text}
use Rattle.xhstt_text.proofs.Places.{skips_from}
use Rattle.xhstt_text.proofs.bytes.text.Goals as goal

pub skip-requires : goal.skip-requires
skip-requires c = omega (arith, c.text_length.ensures, prefix_len-le-length is_text c.args.here.rest.now)

pub returns : goal.returns
returns c = skips_from is_text c.args.here.at c.args.here.rest.now c.skip.result.at c.skip.result.rest.now
    c.text_length.result c.text_length.ensures c.skip.ensures.at c.skip.ensures.rest
