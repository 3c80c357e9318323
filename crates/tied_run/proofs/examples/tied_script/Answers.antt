-- Both sides compute.
use Rattle.std.proofs.Common.{refl}
use Rattle.edit_script.specs.Forms.{command_at, edit_at, form_among, form_of}
use Rattle.edit_script.specs.Lines.{lines}
use Rattle.khe_base.specs.Digits.{number_of}
use Rattle.edit_script.specs.Reading.{reading}
use Rattle.edit_script.specs.Words.{words}
use Rattle.khe_solution.specs.Editing as meets
use Rattle.khe_engine.specs.States as engine
use Rattle.script_run.specs.Answers.{answer}
use Rattle.followers.specs.Lines as tied
use Rattle.followers.specs.Tables.{base_refusal, edited, made, refusal}
use Rattle.tied_run.specs.Answers.{tied_answer}
use Rattle.tied_run.specs.Plays.{tied_played}
use Rattle.tied_run.proofs.examples.tied_script.Goals as goal

pub returns : goal.returns
unfolding lines words reading command_at edit_at form_among form_of number_of tied.row_of tied.tied_reading base_refusal refusal edited made engine.edited engine.made meets.edited meets.made answer tied_answer tied_played
returns c = record { first = refl; second = refl; back = refl }
