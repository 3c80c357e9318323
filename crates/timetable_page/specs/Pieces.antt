-- The words of a page on totals and on a cause.
use Rattle.std.specs.Prelude.{ℕ, unwrap_or, List, [], ◌++◌, codes}
use Rattle.std.specs.Fmt.{decimal}
use Rattle.fault_tables.specs.Causes.{cause_name}
use Rattle.khe_base.specs.declared.sums.Totals.{Totals}
use Rattle.parallel_solve.specs.declared.verdicts.Verdict.{Verdict}
use Rattle.parallel_solve.specs.declared.verdicts.Verdict.TheVariants.{Valid, Invalid}

-- totals, the hard cost first
abbrev pub totals_text : Totals → List ℕ
totals_text t =
    codes "hard <b>" ++ (decimal t.hard ++ (codes "</b> " ++ (codes "soft <b>" ++ (decimal t.soft ++ codes "</b>"))))

-- what a section says of the totals of a valid solution
abbrev pub valid_text : Totals → List ℕ
valid_text t = codes "<p class=\"totals\">" ++ (totals_text t ++ codes "</p>\n")

-- the name of a cause
unfoldable pub name_of_cause : ℕ → List ℕ
name_of_cause cause = unwrap_or (cause_name cause) []

-- why and at which entry a solution is invalid
abbrev pub invalid_text : ℕ → ℕ → List ℕ
invalid_text cause entry =
    codes "invalid: " ++ (name_of_cause cause ++ (codes " at entry " ++ (decimal entry ++ [])))

-- what a section says of a solution that is invalid
abbrev pub cause_text : ℕ → ℕ → List ℕ
cause_text cause entry = codes "<p class=\"bad\">" ++ (invalid_text cause entry ++ codes "</p>\n")

-- what a section says of what comes of its solution
abbrev pub verdict_text : Verdict → List ℕ
verdict_text (Valid values) = valid_text values.totals
verdict_text (Invalid cause entry) = cause_text cause entry
