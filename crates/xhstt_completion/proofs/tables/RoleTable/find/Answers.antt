-- A role that is too long, and any other.
use Rattle.std.proofs.Common.{◌<◌, ◌∙◌, encode_utf8_all, length, subst, sym}
use Rattle.std.proofs.lemmas.Str.{encodes-chars}
use Rattle.khe_base.specs.Text.{characters}
use Rattle.xhstt_completion.proofs.TableLemmas.{finds-long}
use Rattle.xhstt_completion.proofs.tables.RoleTable.find.Goals as goal

pub returns-then-self-role : goal.returns-then-self-role
returns-then-self-role c = λ roles h.
    let t = c.args.self.now in
    let role = characters c.args.role.now in
    let long : t.longest < length (encode_utf8_all role) =
    subst (λ bytes. t.longest < length bytes) (sym (encodes-chars c.args.role.now c.utf8.role))
    c.if-self-role.true in
    finds-long t roles role h long

pub returns : goal.returns
returns c = λ roles h. c.first.ensures ∙ h.first (characters c.args.role.now)
