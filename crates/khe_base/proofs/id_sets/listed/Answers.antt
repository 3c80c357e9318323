use Rattle.std.proofs.Common.{◌*◌, ◌++◌, ◌∙◌, ap, sym, get_or}
use Rattle.khe_base.specs.StoredSets.{members_in}
use Rattle.khe_base.proofs.MembersLemmas.{members_below-zero, members_below-more}
use Rattle.khe_base.proofs.id_sets.listed.Goals as goal

pub loop-k-init : goal.loop-k-init
loop-k-init c = c.new-members.ensures ∙ sym (members_below-zero c.args.words.now)

pub loop-k-preserved : goal.loop-k-preserved
loop-k-preserved c =
    let words = c.args.words.now in
    let k = c.loop-k.k in
    c.in_ok-push_members.ensures ∙ ap (λ ms. ms ++ members_in (get_or words k 0) (64 * k) 64) c.loop-k.invariant
    ∙ sym (members_below-more words k)
