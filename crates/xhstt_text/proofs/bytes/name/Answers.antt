use Rattle.std.proofs.Common.{arith, refl, sym, ◌∙◌, take}
use Rattle.std.proofs.lemmas.List.Sums.{prefix_len-le-length}
use Rattle.xhstt_text.specs.Bytes.{is_first, is_name}
use Rattle.xhstt_text.proofs.Places.{takes_name, begins_at}
use Rattle.xhstt_text.proofs.bytes.name.Goals as goal

pub skip-requires : goal.skip-requires
skip-requires c = omega (arith, c.name_length-length.ensures, prefix_len-le-length is_name c.args.here.rest.now)

pub returns-in-len1-up : goal.returns-in-len1-up
returns-in-len1-up c =
    takes_name c.args.here.at c.args.here.rest.now (take c.name_length-length.result c.args.here.rest.now)
    c.skip.result.at c.skip.result.rest.now c.name_length-length.result
    (begins_at is_first c.args.here.rest.now (omega arith) (sym c.is_first.ensures ∙ c.if-is_first.true))
    c.name_length-length.ensures refl c.skip.ensures.at c.skip.ensures.rest
