-- How a run goes: the state that it comes to, and how many of its edits were accepted and how many refused.
use Rattle.std.specs.Prelude.{ℕ, ◌+◌, Option, Some, None, List, [], ◌∷◌}
use Rattle.edit_script.specs.declared.commands.Command.{Command}
use Rattle.edit_script.specs.declared.commands.Command.TheVariants as command
use Rattle.khe_engine.specs.States.{State, refusal}
use Rattle.khe_engine.specs.Worlds.{World}
use Rattle.khe_instance.specs.declared.parts.Parts.{Parts}
use Rattle.khe_told.specs.declared.refusals.Refusal.{Refusal}
use Rattle.script_run.specs.Plays.{Play, begun, play_of, played}
use Rattle.made_run.specs.declared.running.Counts.{Counts}

pub record Course : Type 0 where
  pub play : Play
  pub accepted : ℕ
  pub refused : ℕ

-- a run that begins with a state
abbrev pub started : State → Course
started s = record { play = begun s; accepted = 0; refused = 0 }

-- an engine's world, with what was counted
abbrev pub course_of : World → Counts → Course
course_of w n = record { play = play_of w; accepted = n.accepted; refused = n.refused }

-- an edit is counted by its refusal, if it has one
abbrev pub counted : Option Refusal → Play → Course → Course
counted None w c = record { play = w; accepted = c.accepted + 1; refused = c.refused }
counted (Some r) w c = record { play = w; accepted = c.accepted; refused = c.refused + 1 }

-- each command makes of the play what it makes in a script
unfoldable pub after : Parts → Course → Command → Course
after p c (command.Edit e) = counted (refusal p c.play.state e) (played p c.play (command.Edit e)) c
after p c other = record c { play = played p c.play other }

-- one command after the other
abbrev pub course : Parts → Course → List Command → Course
course p c [] = c
course p c (x ∷ more) = course p (after p c x) more
