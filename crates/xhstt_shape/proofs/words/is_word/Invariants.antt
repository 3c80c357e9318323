-- The bytes that are left are the same exactly where all are.
use Rattle.std.proofs.Common.{◌≡◌, drop}
use Rattle.std.specs.Str.{bytes_eq}
use Rattle.xhstt_shape.proofs.words.is_word.Given as goal

abbrev pub invariant-loop-place : goal.invariant-loop-place
invariant-loop-place l = bytes_eq (drop l.place l.word) (drop l.place l.name) ≡ bytes_eq l.word l.name
