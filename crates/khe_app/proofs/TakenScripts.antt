-- What stands under a script's name.
use Rattle.std.proofs.Common.{ℕ, ◌≤◌, Some, None, IfSome, List, length, sym, subst, refl}
use Rattle.khe_io.specs.Shelf.{StandsUnder}
use Rattle.khe_app.specs.Answers.{IsScriptOf}
use Rattle.reading_commands.specs.Ends.{Holdings}
use Rattle.khe_app.specs.declared.program.Play.TheVariants as play
use Rattle.khe_base.specs.declared.limits.TheConstants.{SCRIPT_BYTES}
use Rattle.khe_app.specs.declared.starting.Begun.{Begun}

pub script_taken : (h : Holdings) (name bytes : List ℕ) (b : Begun) → StandsUnder h name bytes
    → length bytes ≤ SCRIPT_BYTES → IfSome h (λ under. IsScriptOf b (under name) (play.Run b bytes))
script_taken None name bytes b stands small = tt
script_taken (Some under) name bytes b stands small =
    subst (λ o. IsScriptOf b o (play.Run b bytes)) (sym stands) (refl, refl, small)
