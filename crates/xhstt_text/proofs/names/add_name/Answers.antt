use Rattle.std.proofs.Common.{◌∙◌, refl, sym, ap, ◌||◌, not, Bool, List, ℕ, nat_cmp}
use Rattle.std.specs.BTreeSet.{contains_by}
use Rattle.std.specs.Cmp.Lexicographic.{slice_cmp}
use Rattle.std.specs.Str.{bytes_eq}
use Rattle.std.proofs.lemmas.Slice.Eq.{bytes_eq-Decides}
use Rattle.xhstt_text.proofs.KnownNames.{holds_more, swap_or, same_or, with_none, with_first}
use Rattle.xhstt_text.specs.declared.names.Names.{Names}
use Rattle.xhstt_text.proofs.names.add_name.Goals as goal

-- whether one of the names but the first is this one
abbrev among : List ℕ → Names → Bool
among bs names = contains_by (λ k. slice_cmp nat_cmp bs k.now) names.others

pub returns-in-None-clause-new : goal.returns-in-None-clause-new
returns-in-None-clause-new c = λ known h.
    let names = c.args.names.now in
    let bs = c.args.name.now in
    ap not (c.contains.ensures ∙ sym (with_none bs names.first (among bs names) c.in-None.is) ∙ h bs)

pub returns-in-None-clause-added : goal.returns-in-None-clause-added
returns-in-None-clause-added c = λ known h bs.
    let names = c.args.names.now in
    ap (λ v. bytes_eq bs c.args.name.now || v) (sym (with_none bs names.first (among bs names) c.in-None.is) ∙ h bs)

pub returns-then-eq-clause-new : goal.returns-then-eq-clause-new
returns-then-eq-clause-new c = λ known h.
    let names = c.args.names.now in
    let bs = c.args.name.now in
    ap not (ap (λ v. v || among bs names) (sym c.if-eq.true ∙ c.eq.ensures)
    ∙ sym (with_first bs names.first c.in-Some.first (among bs names) c.in-Some.is) ∙ h bs)

pub returns-then-eq-clause-added : goal.returns-then-eq-clause-added
returns-then-eq-clause-added c = λ known h bs.
    let names = c.args.names.now in
    let name = c.args.name.now in
    let first = c.in-Some.first in
    let same = (bytes_eq-Decides name first.now).0 (sym c.eq.ensures ∙ c.if-eq.true) in
    with_first bs names.first first (among bs names) c.in-Some.is
    ∙ same_or (bytes_eq bs name) (bytes_eq bs first.now) (among bs names) (ap (bytes_eq bs) same)
    ∙ ap (λ v. bytes_eq bs name || v) (sym (with_first bs names.first first (among bs names) c.in-Some.is) ∙ h bs)

pub returns-in_ok-insert-in-Some-clause-new : goal.returns-in_ok-insert-in-Some-clause-new
returns-in_ok-insert-in-Some-clause-new c = λ known h.
    let names = c.args.names.now in
    let bs = c.args.name.now in
    c.in_ok-insert-in-Some.ensures.added
    ∙ ap not (ap (λ v. v || among bs names) (sym c.if-eq.false ∙ c.eq.ensures)
    ∙ sym (with_first bs names.first c.in-Some.first (among bs names) c.in-Some.is) ∙ h bs)

pub returns-in_ok-insert-in-Some-clause-added : goal.returns-in_ok-insert-in-Some-clause-added
returns-in_ok-insert-in-Some-clause-added c = λ known h bs.
    let names = c.args.names.now in
    let name = c.args.name in
    let first = c.in-Some.first in
    with_first bs names.first first _ c.in-Some.is
    ∙ ap (λ v. bytes_eq bs first.now || v) (holds_more bs name names.others.keys c.insert.new.self.keys (among bs names)
    c.in_ok-insert-in-Some.ensures.keys refl)
    ∙ swap_or (bytes_eq bs name.now) (bytes_eq bs first.now) (among bs names)
    ∙ ap (λ v. bytes_eq bs name.now || v) (sym (with_first bs names.first first (among bs names) c.in-Some.is) ∙ h bs)
