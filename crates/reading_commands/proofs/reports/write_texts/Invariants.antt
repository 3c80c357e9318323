-- What was written and what waits, with the texts that are left.
use Rattle.std.proofs.Common.{ℕ, ◌≡◌, ◌++◌, List, Option, drop}
use Rattle.std.specs.List.{concat}
use Rattle.khe_io.specs.Amid.{IsAmid}
use Rattle.reading_commands.proofs.reports.write_texts.Given as goal

abbrev pub invariant-loop-one : goal.invariant-loop-one
invariant-loop-one g l = record {
  amid : (before : Option (List ℕ)) (rest whole : List ℕ)
      → IsAmid before (g.K.Sink.taken l.fn.out) l.fn.text (concat l.fn.made ++ rest) whole
      → IsAmid before (g.K.Sink.taken l.out) l.text (concat (drop l.one-index l.fn.made) ++ rest) whole;
  faultless : g.K.Sink.faults l.out ≡ g.K.Sink.faults l.fn.out;
}
