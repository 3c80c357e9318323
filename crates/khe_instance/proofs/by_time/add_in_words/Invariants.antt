-- The monitor is in the lists of the words so far.
use Rattle.std.proofs.Common.{◌==◌, ◌&&◌, take}
use Rattle.khe_base.specs.ListedSets.{is_listed}
use Rattle.khe_instance.specs.Listing.{IsAddedAt}
use Rattle.khe_instance.proofs.by_time.add_in_words.Given as goal

abbrev pub invariant-loop-word : goal.invariant-loop-word
invariant-loop-word l = IsAddedAt (λ a b. (l.row == a) && is_listed (take l.word-index l.words) b) l.monitor l.fn.table
    l.table
