-- What a request stands for, and the ranges that its numbers keep.
use Rattle.std.specs.Prelude.{ℕ, ◌≤◌, Option, Some, None}
use Rattle.khe_base.specs.declared.limits.TheConstants.{CHAIN_MOVES, JOBS, WORKERS, MADE_EVENTS}
use Rattle.command_words.specs.Words.{Asked, evaluating, scripting, checking, repairing, solving, matching, making, running, constructing}
use Rattle.command_words.specs.declared.words.Request.{Request}
use Rattle.command_words.specs.declared.words.Request.TheVariants.{Evaluate, Script, Check, Repair, Solve, Match, Make, Run, Construct}

-- what a request asks for. The number of workers is left out, since no text depends on it
abbrev pub asked_of : Request → Asked
asked_of (Evaluate archive all workers) = evaluating archive.now all
asked_of (Script archive solution script tied) = scripting archive.now solution script.now tied
asked_of (Check archive) = checking archive.now
asked_of (Repair archive solution depth budget) = repairing archive.now solution depth budget
asked_of (Solve archive solution depth budget jobs workers) = solving archive.now solution depth budget jobs
asked_of (Match archive solution time rtype) = matching archive.now solution time rtype
asked_of (Construct archive instance chains) = constructing archive.now instance chains
asked_of (Make seed size) = making seed size
asked_of (Run seed size) = running seed size

-- where a repair follows, the moves of a chain are 1 to CHAIN_MOVES, and at least one chain may be tried
abbrev pub AreChains : Option (ℕ × ℕ) → Type 0
AreChains None = Unit {0}
AreChains (Some c) = (1 ≤ c.0) × (c.0 ≤ CHAIN_MOVES) × (1 ≤ c.1)

-- workers are 1 to WORKERS, the moves of a chain 1 to CHAIN_MOVES, at least one chain may be tried, and jobs
-- are 1 to JOBS; the events that are made are 1 to MADE_EVENTS. Numbers of solutions, times and instances may
-- be any: the archive says whether they exist
abbrev pub IsFit : Request → Type 0
IsFit (Evaluate archive all workers) = (1 ≤ workers) × (workers ≤ WORKERS)
IsFit (Script archive solution script tied) = Unit {0}
IsFit (Check archive) = Unit {0}
IsFit (Repair archive solution depth budget) = (1 ≤ depth) × (depth ≤ CHAIN_MOVES) × (1 ≤ budget)
IsFit (Solve archive solution depth budget jobs workers) = (1 ≤ depth) × (depth ≤ CHAIN_MOVES) × (1 ≤ budget)
    × (1 ≤ jobs) × (jobs ≤ JOBS) × (1 ≤ workers) × (workers ≤ WORKERS)
IsFit (Match archive solution time rtype) = Unit {0}
IsFit (Construct archive instance chains) = AreChains chains
IsFit (Make seed size) = (1 ≤ size) × (size ≤ MADE_EVENTS)
IsFit (Run seed size) = (1 ≤ size) × (size ≤ MADE_EVENTS)

-- how many workers do what is asked for
abbrev pub workers_in : Request → ℕ
workers_in (Evaluate archive all workers) = workers
workers_in (Script archive solution script tied) = 1
workers_in (Check archive) = 1
workers_in (Repair archive solution depth budget) = 1
workers_in (Solve archive solution depth budget jobs workers) = workers
workers_in (Match archive solution time rtype) = 1
workers_in (Construct archive instance chains) = 1
workers_in (Make seed size) = 1
workers_in (Run seed size) = 1
