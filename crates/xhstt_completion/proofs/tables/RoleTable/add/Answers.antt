-- A role that the table has already, and a new one.
use Rattle.std.proofs.Common.{◌≡◌, ◌∙◌, ◌++◌, ◌∷◌, [], ap, sym, refl, max, length, true, false}
use Rattle.std.proofs.lemmas.Bool.{not-true, not-false}
use Rattle.khe_base.specs.Names.{is_among_names}
use Rattle.xhstt_completion.proofs.TableLemmas.{finds-old, finds-new}
use Rattle.xhstt_completion.proofs.tables.RoleTable.add.Goals as goal

pub returns-then-not-branch : goal.returns-then-not-branch
returns-then-not-branch c = λ roles long h.
    let t = c.args.self.now in
    let x = c.args.role.now in
    let among : is_among_names x t.names ≡ true =
    not-false (is_among_names x t.names) (sym c.in_ok-insert.ensures.new ∙ c.if-not-branch.true) in
    finds-old t _ roles x h among c.in_ok-insert.ensures.ok refl
    (c.max-self.ensures ∙ ap (λ bytes. max t.longest (length bytes)) c.as_bytes.ensures)

pub returns : goal.returns
returns c = λ roles long h.
    let t = c.args.self.now in
    let x = c.args.role.now in
    let fresh : is_among_names x t.names ≡ false =
    not-true (is_among_names x t.names) (sym c.in_ok-insert.ensures.new ∙ c.if-not-branch.false) in
    finds-new t _ roles x h fresh c.in_ok-insert.ensures.ok
    (c.in_ok-push.ensures.items ∙ ap (λ k. t.firsts.items ++ k ∷ []) (sym long))
    (c.max-self.ensures ∙ ap (λ bytes. max t.longest (length bytes)) c.as_bytes.ensures)
