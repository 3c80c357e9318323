-- Each line by computing.
use Rattle.word_laws.proofs.ReadExamples.{are_read, each_is_asked}
use Rattle.word_laws.proofs.examples.each_command_is_read.Goals as goal
use Rattle.word_laws.specs.Examples.{checks, constructions, makings, matchings, repairs, reports, scripts, solves}

pub returns-clause-reports : goal.returns-clause-reports
returns-clause-reports c = are_read reports each_is_asked.reports_are

pub returns-clause-scripts : goal.returns-clause-scripts
returns-clause-scripts c = are_read scripts each_is_asked.scripts_are

pub returns-clause-checks : goal.returns-clause-checks
returns-clause-checks c = are_read checks each_is_asked.checks_are

pub returns-clause-repairs : goal.returns-clause-repairs
returns-clause-repairs c = are_read repairs each_is_asked.repairs_are

pub returns-clause-solves : goal.returns-clause-solves
returns-clause-solves c = are_read solves each_is_asked.solves_are

pub returns-clause-constructions : goal.returns-clause-constructions
returns-clause-constructions c = are_read constructions each_is_asked.constructions_are

pub returns-clause-matchings : goal.returns-clause-matchings
returns-clause-matchings c = are_read matchings each_is_asked.matchings_are

pub returns-clause-makings : goal.returns-clause-makings
returns-clause-makings c = are_read makings each_is_asked.makings_are
