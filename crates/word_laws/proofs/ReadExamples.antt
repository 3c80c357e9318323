-- The lines of the examples are read, or not, by computing.
use Rattle.std.proofs.Common.{ℕ, ◌≡◌, Some, None, List, [], ◌∷◌, refl}
use Rattle.khe_base.specs.Digits.{long_number_of, number_of}
use Rattle.command_words.specs.Words.{after_by, all_by, archive_by, asked, asked_by, both_by, budget_by, chains_by}
use Rattle.command_words.specs.Words.{construct_with, crew_by, depth_by, job_by, jobs_by, made_by, match_with, number_by}
use Rattle.command_words.specs.Words.{number_to, placed_by, repair_with, run_by, scripted_by, shares_by, solve_with, told_by}
use Rattle.command_words.specs.Words.{value_of, workers_by, workers_of}
use Rattle.word_laws.specs.Examples.{AreNotRead, AreRead, Row, checks, constructions, makings, matchings, missing, others}
use Rattle.word_laws.specs.Examples.{out_of_form, out_of_range, repairs, reports, scripts, solves, twice, unknown, words_of}
use Rattle.command_words.proofs.ReadLaws.{read_by_table}
use Rattle.command_words.proofs.TableLaws.{unread}

abbrev pub AreAsked : List Row → Type 0
AreAsked [] = Unit {0}
AreAsked (row ∷ rows) = (asked (words_of row.0) ≡ Some row.1) × AreAsked rows

abbrev pub AreNotAsked : List (List ℕ) → Type 0
AreNotAsked [] = Unit {0}
AreNotAsked (line ∷ lines) = (asked (words_of line) ≡ None) × AreNotAsked lines

pub are_read : (rows : List Row) → AreAsked rows → AreRead rows
are_read [] h = tt
are_read (row ∷ rows) h = (read_by_table (words_of row.0) row.1 h.0, are_read rows h.1)

pub are_not_read : (lines : List (List ℕ)) → AreNotAsked lines → AreNotRead lines
are_not_read [] h = tt
are_not_read (line ∷ lines) h = (unread (words_of line) h.0, are_not_read lines h.1)

pub record EachIsAsked : Type 0 where
  pub reports_are : AreAsked reports
  pub scripts_are : AreAsked scripts
  pub checks_are : AreAsked checks
  pub repairs_are : AreAsked repairs
  pub solves_are : AreAsked solves
  pub constructions_are : AreAsked constructions
  pub matchings_are : AreAsked matchings
  pub makings_are : AreAsked makings

pub each_is_asked : EachIsAsked
unfolding asked_by archive_by placed_by told_by scripted_by all_by both_by workers_by workers_of number_to value_of number_by repair_with depth_by budget_by chains_by jobs_by crew_by shares_by solve_with after_by construct_with match_with job_by made_by run_by number_of long_number_of
each_is_asked = record {
  reports_are = (refl, (refl, (refl, (refl, (refl, tt)))));
  scripts_are = (refl, (refl, tt));
  checks_are = (refl, tt);
  repairs_are = (refl, (refl, tt));
  solves_are = (refl, (refl, tt));
  constructions_are = (refl, (refl, tt));
  matchings_are = (refl, tt);
  makings_are = (refl, (refl, tt));
}

pub record OthersAreNot : Type 0 where
  pub twice_are : AreNotAsked twice
  pub unknown_are : AreNotAsked unknown
  pub missing_are : AreNotAsked missing
  pub out_of_range_are : AreNotAsked out_of_range
  pub out_of_form_are : AreNotAsked out_of_form
  pub others_are : AreNotAsked others

pub others_are_not : OthersAreNot
unfolding asked_by archive_by placed_by told_by scripted_by all_by both_by workers_by workers_of number_to value_of number_by repair_with depth_by budget_by chains_by jobs_by crew_by shares_by solve_with after_by construct_with match_with job_by made_by run_by number_of long_number_of
others_are_not = record {
  twice_are = (refl, (refl, (refl, (refl, (refl, tt)))));
  unknown_are = (refl, (refl, (refl, (refl, (refl, tt)))));
  missing_are = (refl, (refl, (refl, tt)));
  out_of_range_are = (refl, (refl, (refl, (refl, (refl, (refl, (refl, (refl, tt))))))));
  out_of_form_are = (refl, (refl, (refl, (refl, tt))));
  others_are = (refl, (refl, (refl, (refl, (refl, (refl, tt))))));
}
