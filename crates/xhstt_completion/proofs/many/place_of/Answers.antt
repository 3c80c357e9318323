-- The place where the role stands first.
use Rattle.std.proofs.Common.{◌≡◌, ◌∙◌, ◌<◌, get_or, length, subst, sym}
use Rattle.khe_base.specs.Text.{characters}
use Rattle.xhstt_completion.specs.Tables.{wanted_roles}
use Rattle.xhstt_completion.proofs.ManyLemmas.{wanted-place, place-at, place-none, wanted-below}
use Rattle.xhstt_completion.proofs.many.place_of.Goals as goal

pub bounds-places-number : goal.bounds-places-number
bounds-places-number c =
    let given = c.args._given.now in
    let places = c.args.event.now.places in
    let role = characters c.args.role.now in
    subst (λ xs. c.in-Some.number < length xs) (sym c.as_slice-places.ensures)
    (wanted-below given places role c.in-Some.number
    (sym (c.in-Some.ensures (wanted_roles given places) c.requires.wanted.place_roles)))

pub returns-in-Some : goal.returns-in-Some
returns-in-Some c =
    let given = c.args._given.now in
    let places = c.args.event.now.places in
    let role = characters c.args.role.now in
    let place = c.index-places-number.result in
    place-at places role c.in-Some.number place
    (sym (wanted-place given places role c.requires.role)
    ∙ sym (c.in-Some.ensures (wanted_roles given places) c.requires.wanted.place_roles))
    (subst (λ xs. place ≡ get_or xs c.in-Some.number place) c.as_slice-places.ensures c.index-places-number.is)

pub returns-in-None : goal.returns-in-None
returns-in-None c =
    let given = c.args._given.now in
    let places = c.args.event.now.places in
    let role = characters c.args.role.now in
    place-none places role (sym (wanted-place given places role c.requires.role)
    ∙ sym (c.in-None.ensures (wanted_roles given places) c.requires.wanted.place_roles))
