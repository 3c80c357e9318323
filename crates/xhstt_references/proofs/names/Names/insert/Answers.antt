-- A copy of the name goes into the table by its bytes, which are the same where the characters are.
use Rattle.std.proofs.Common.{◌≡◌, ◌∙◌, ap, sym, not, string_bytes}
use Rattle.std.proofs.lemmas.Str.{IsUtf8-string_bytes}
use Rattle.khe_base.specs.Names.{is_among_names, with_name, are_distinct}
use Rattle.khe_base.specs.Text.{characters}
use Rattle.xhstt_references.proofs.NamesLemmas.{names_of, is_among_names-characters, names_of-insert, are_distinct-with_name}
use Rattle.xhstt_references.proofs.names.Names.insert.Goals as goal

pub invariant_of-self-2 : goal.invariant_of-self-2
invariant_of-self-2 c =
    let keys = c.self.inside.names.keys in
    ap are_distinct (ap names_of c.in_ok-insert.ensures.keys ∙ names_of-insert c.in_ok-name.name keys)
    ∙ are_distinct-with_name (names_of keys) _ c.self.invariant

pub returns-clause-new : goal.returns-clause-new
returns-clause-new c =
    let name : characters (string_bytes c.in_ok-name.name) ≡ c.args.name.now =
    ap characters c.in_ok-name.ensures.cases ∙ c.name.view_is in
    c.in_ok-insert.ensures.added
    ∙ ap not (sym (is_among_names-characters _ (IsUtf8-string_bytes c.in_ok-name.name) c.self.inside.names.keys))
    ∙ (λ i. not (is_among_names (name i) (c.self.view_is i)))

pub returns-clause-ok : goal.returns-clause-ok
returns-clause-ok c =
    let name : characters (string_bytes c.in_ok-name.name) ≡ c.args.name.now =
    ap characters c.in_ok-name.ensures.cases ∙ c.name.view_is in
    ap names_of c.in_ok-insert.ensures.keys ∙ names_of-insert c.in_ok-name.name c.self.inside.names.keys
    ∙ (λ i. with_name (name i) (c.self.view_is i))
