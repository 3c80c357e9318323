-- The resource at the place where the role stands first.
use Rattle.std.proofs.Common.{◌<◌, Some, None, sym, map, length, arith}
use Rattle.xhstt_completion.specs.Entries.{role_of}
use Rattle.xhstt_completion.proofs.FoundLemmas.{as-many}
use Rattle.xhstt_completion.proofs.ManyLemmas.{asked, given-none, given-at, place-below}
use Rattle.xhstt_completion.proofs.states.given_by.Goals as goal

pub bounds-resources-number : goal.bounds-resources-number
bounds-resources-number c =
    let given = c.args._given.now in
    let at = sym (asked given c.args.role.now _ (Some c.in-Some.number) c.spelling.ensures (c.in-Some.ensures (map role_of given) c.requires.roles)) in
    let below : c.in-Some.number < length given = place-below given c.args.role.now c.in-Some.number at in
    omega (arith, below, as-many c.args._inst.now given c.args.resources.now c.requires.resources)

pub returns-in-Some : goal.returns-in-Some
returns-in-Some c =
    let given = c.args._given.now in
    sym (given-at c.args._inst.now given c.args.resources.now c.args.role.now c.in-Some.number (record { 0 = 0 })
    c.requires.resources (sym (asked given c.args.role.now _ (Some c.in-Some.number) c.spelling.ensures (c.in-Some.ensures (map role_of given) c.requires.roles))))

pub returns-in-None : goal.returns-in-None
returns-in-None c =
    let given = c.args._given.now in
    sym (given-none c.args._inst.now given c.args.role.now
    (sym (asked given c.args.role.now _ None c.spelling.ensures (c.in-None.ensures (map role_of given) c.requires.roles))))
