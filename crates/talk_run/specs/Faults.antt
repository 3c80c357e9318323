-- Why a talk was cut off: a line could not be read, an answer could not be written, or memory ran out.
use Rattle.khe_io.specs.declared.pieces.Cut.{Cut}
use Rattle.khe_io.specs.declared.pieces.Cut.TheVariants as cut
use Rattle.talk_run.specs.declared.faults.TalkFault.{TalkFault}
use Rattle.talk_run.specs.declared.faults.TalkFault.TheVariants.{WriteFault, NoMemory}

abbrev pub of_cut : Cut → TalkFault
of_cut cut.WriteFault = WriteFault
of_cut cut.NoMemory = NoMemory
