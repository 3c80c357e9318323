-- The text of many repairs: the archive with their least result in place of the solution, and the line on its job.
use Rattle.std.specs.Prelude.{ℕ, ◌≡◌, List, ◌++◌, encode_utf8_all}
use Rattle.khe_instance.specs.declared.parts.Parts.{Parts}
use Rattle.khe_instance.specs.declared.states.Plain.{Plain}
use Rattle.parallel_repair.specs.Jobs.{job_answer}
use Rattle.parallel_repair.specs.Solved.{IsSolved}
use Rattle.parallel_repair.specs.declared.answers.Solved.{Solved}
use Rattle.xhstt_shape.specs.declared.records.Archive.{Archive}
use Rattle.xhstt_writer.specs.Archives.{canonical}
use Rattle.repair_run.specs.Lines.{solve_line}
use Rattle.repair_run.specs.Placed.{respelled}

-- the bytes of an archive in which the least result takes the place of a solution, and of the line on its job
abbrev pub solve_bytes : Archive → ℕ → Parts → Solved → List ℕ
solve_bytes a number p s = canonical (respelled a number p s.plain) ++ encode_utf8_all (solve_line s.job s.totals)

-- a text that these bytes spell, for `jobs` repairs of this timetable, each with its job as diversifier
pub record IsSolveText (a : Archive) (number : ℕ) (p : Parts) (plain : Plain) (depth budget jobs : ℕ) (text : List ℕ)
    : Type 0 where
  pub solved : Solved
  pub is : IsSolved (job_answer p plain depth budget) jobs solved
  pub bytes_are : encode_utf8_all text ≡ solve_bytes a number p solved
