-- No file that was passed has the name.
use Rattle.std.proofs.Common.{◌≡◌, drop}
use Rattle.khe_io.specs.Named.{bytes_under}
use Rattle.khe_io.proofs.named.number_of.Given as goal

abbrev pub invariant-loop-number : goal.invariant-loop-number
invariant-loop-number l = bytes_under (drop l.number l.files) l.name ≡ bytes_under l.files l.name
