-- How many steps the commands of a run take or owe at most.
use Rattle.std.specs.Prelude.{ℕ, ◌+◌, List, [], ◌∷◌}
use Rattle.edit_script.specs.declared.commands.Command.{Command}
use Rattle.khe_instance.specs.declared.parts.Parts.{Parts}
use Rattle.script_run.specs.Steps.{Trace, command_steps, traced}

-- what commands make of a trace, one after the other
abbrev pub traced_all : Parts → Trace → List Command → Trace
traced_all p t [] = t
traced_all p t (c ∷ more) = traced_all p (traced p t c) more

-- the watchers of the changes that they make
abbrev pub run_steps : Parts → Trace → List Command → ℕ
run_steps p t [] = 0
run_steps p t (c ∷ more) = command_steps p t c + run_steps p (traced p t c) more
