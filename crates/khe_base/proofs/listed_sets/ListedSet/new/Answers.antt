-- The members of the set, listed, are the set again.
use Rattle.std.proofs.Common.{◌≡◌, ◌∙◌, ap, sym}
use Rattle.khe_base.specs.IdSet.{members_of}
use Rattle.khe_base.specs.ListedSets.{set_of_members}
use Rattle.khe_base.proofs.ListedSetLemmas.{listed_again}
use Rattle.khe_base.proofs.listed_sets.ListedSet.new.Goals as goal

pub invariant_of-result : goal.invariant_of-result
invariant_of-result c =
    let again : set_of_members c.in_ok-members.members c.size-size.result ≡ c.args.set =
    (λ j. set_of_members (c.in_ok-members.ensures j) (c.size-size.ensures j)) ∙ listed_again c.args.set in
    record {
      members_are = c.in_ok-members.ensures ∙ ap members_of (sym again);
      bits_are = λ b is. c.in_ok-bits.ensures b is ∙ sym again;
    }

pub returns : goal.returns
returns c = (λ j. set_of_members (c.in_ok-members.ensures j) (c.size-size.ensures j)) ∙ listed_again c.args.set
