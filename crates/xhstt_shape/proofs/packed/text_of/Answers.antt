-- The bytes of a text are UTF-8.
use Rattle.std.proofs.Common.{◌≡◌, ◌+◌, ◌-◌, subst, take, drop, arith}
use Rattle.std.specs.Str.{IsUtf8}
use Rattle.std.proofs.lemmas.Str.{IsUtf8-from_is_utf8}
use Rattle.xhstt_shape.specs.Packed.{bytes_at}
use Rattle.xhstt_shape.proofs.packed.text_of.Goals as goal

pub from_utf8_unchecked-requires : goal.from_utf8_unchecked-requires
from_utf8_unchecked-requires c =
    let t = c.args.text in
    let same : t.count ≡ t.first + t.count - t.first = omega arith in
    subst (λ n. IsUtf8 (take n (drop t.first c.args.letters.now))) same
    (IsUtf8-from_is_utf8 (bytes_at c.args.letters.now t) c.requires.spelled)
