-- A role, or none.
use Rattle.std.proofs.Common.{◌++◌, ◌∷◌, [], ap, subst, sym}
use Rattle.std.specs.Option.{option_copied}
use Rattle.xhstt_completion.specs.Tables.{Finds}
use Rattle.xhstt_completion.proofs.TableLemmas.{finds-none}
use Rattle.xhstt_completion.proofs.tables.RoleTable.push.Goals as goal

pub returns-in-None : goal.returns-in-None
returns-in-None c = λ roles long h.
    subst (λ r. Finds c.args.self.now (roles ++ r ∷ [])) (sym (ap option_copied c.in-None.is))
    (finds-none c.args.self.now roles h)
