-- The role is wanted where the table finds it.
use Rattle.std.proofs.Common.{◌≡◌, ◌∙◌, ap, sym, map, true, false, not}
use Rattle.std.specs.Prelude.{is_some}
use Rattle.xhstt_completion.specs.Entries.{role_of}
use Rattle.xhstt_completion.proofs.ManyLemmas.{asked, wanted-by, given-found}
use Rattle.xhstt_completion.proofs.many.wanted_role.Goals as goal

pub returns-then-is_none : goal.returns-then-is_none
returns-then-is_none c =
    let given = c.args._given.now in
    let role = c.in_ok-role.role.now in
    let found : is_some c.find.result ≡ false = c.is_none.ensures ∙ ap not c.if-is_none.true in
    sym (wanted-by given role c.args.place.now.role false (sym c.in_ok-role.ensures.value)
    (sym (given-found given role) ∙ ap is_some (sym (asked given role _ c.find.result c.spelling.ensures (c.find.ensures (map role_of given) c.requires))) ∙ found))

pub returns : goal.returns
returns c =
    let given = c.args._given.now in
    let role = c.in_ok-role.role.now in
    let found : is_some c.find.result ≡ true = c.is_none.ensures ∙ ap not c.if-is_none.false in
    sym (wanted-by given role c.args.place.now.role true (sym c.in_ok-role.ensures.value)
    (sym (given-found given role) ∙ ap is_some (sym (asked given role _ c.find.result c.spelling.ensures (c.find.ensures (map role_of given) c.requires))) ∙ found))
