-- Both sides compute.
use Rattle.std.proofs.Common.{refl}
use lib.Utf8.{encode}
use Rattle.std.specs.Fmt.{digits}
use Rattle.xhstt_shape.specs.Words.{word, kind_word, label_word}
use Rattle.xhstt_writer.specs.Trees.{head, value_bytes}
use Rattle.xhstt_writer.specs.Parts.{put_all}
use Rattle.xhstt_writer.specs.Archives.{canonical}
use Rattle.xhstt_writer.proofs.examples.one_instance.Goals as goal

pub returns : goal.returns
unfolding canonical head value_bytes put_all word kind_word label_word encode digits
returns c = refl
