use Rattle.std.proofs.Common.{ℕ, List, ◌∷◌, ◌++◌, false, ap, sym, subst, ◌∙◌}
use Rattle.xhstt_shape.specs.declared.words.Tag.TheVariants as tag
use Rattle.xhstt_shape.specs.Words.{word}
use Rattle.xhstt_writer.specs.Trees.{filled, between, closed}
use Rattle.xhstt_writer.specs.Parts.{put_all}
use Rattle.xhstt_writer.proofs.Digits.{truth_end}
use Rattle.xhstt_writer.proofs.constraints.put_required.Goals as goal

pub returns : goal.returns
unfolding put_all
returns g c more t rest whole h =
    let later : List ℕ = filled more false t rest in
    let own = truth_end tag.Required c.args.required later
    ∙ ap (λ w. 62 ∷ (w ++ closed tag.Required later)) (sym c.truth_word.ensures) in
    c.plain.ensures later whole (subst (λ (x : List ℕ). g.O.Output.said c.args.out.now
    (between c.args.opened (60 ∷ (word tag.Required ++ x))) whole) own h)
