-- A list that is read once for each number of the size is as long.
use Rattle.std.proofs.Common.{◌≡◌, ◌∙◌, ap, sym, length}
use Rattle.khe_base.proofs.ListedSetLemmas.{length-set_of_members}
use Rattle.khe_base.proofs.listed_sets.ListedSet.size.Goals as goal

pub returns : goal.returns
returns c = sym (length-set_of_members c.self.inside.members c.self.inside.size) ∙ ap length c.self.view_is
