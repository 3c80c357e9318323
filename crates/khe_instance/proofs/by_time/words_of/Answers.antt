-- One word more.
use Rattle.std.proofs.Common.{◌≡◌, ◌∙◌, ap, sym, cond, ◌++◌, ◌∷◌, []}
use Rattle.std.proofs.lemmas.List.{append-nil}
use Rattle.khe_base.proofs.MembersLemmas.{passing_more}
use Rattle.khe_instance.specs.ByTime.{lists_in, words_in}
use Rattle.khe_instance.proofs.by_time.words_of.Goals.{then-lists_in+in_ok-push, else-lists_in}
use Rattle.khe_instance.proofs.by_time.words_of.Goals as goal

pub loop-word-preserved : goal.loop-word-preserved
loop-word-preserved c =
    let rule = c.args.rule.now in
    let k = c.loop-word.word in
    elim c.if-lists_in.branch [
      | then-lists_in+in_ok-push w ↦
          w.listed-is ∙ w.in_ok-push.ensures.ok ∙ ap (λ ws. ws ++ k ∷ []) c.loop-word.invariant
          ∙ ap (λ b. words_in k rule ++ cond b (k ∷ []) []) (sym (sym c.lists_in.ensures ∙ w.if-lists_in.true))
          ∙ sym (passing_more (lists_in rule) k)
      | else-lists_in w ↦
          w.listed-is ∙ c.loop-word.invariant ∙ sym (append-nil (words_in k rule))
          ∙ ap (λ b. words_in k rule ++ cond b (k ∷ []) []) (sym (sym c.lists_in.ensures ∙ w.if-lists_in.false))
          ∙ sym (passing_more (lists_in rule) k)
    ]
