-- Entries one by one.
use Rattle.xhstt_references.specs.Directories.{named_by}
use Rattle.xhstt_references.specs.Followed.{given_in}
use Rattle.xhstt_references.specs.References.{unknown_in_entry}
use Rattle.xhstt_references.proofs.FirstLemmas.{view_step, view_end}
use Rattle.xhstt_references.proofs.FollowedLemmas.{named_step, named_end, joined_step, joined_end}
use Rattle.xhstt_references.proofs.following.follow_entries.Goals as goal

pub loop-entry-preserved : goal.loop-entry-preserved
loop-entry-preserved c =
    let names = c.args.names.now in record {
      named = named_step names _ _ _ _ _ _ _ _ c.in-Some.ensures.value c.in_ok-follow_entry.ensures.named
          c.in_ok-follow_entry.ensures.given c.loop-entry.invariant.named;
      given = joined_step (given_in names) _ _ _ _ _ _ c.in-Some.ensures.value c.in_ok-follow_entry.ensures.given
          c.loop-entry.invariant.given;
      first = view_step (unknown_in_entry (named_by names)) _ _ _ _ _ _ c.in-Some.ensures.value
          c.in_ok-follow_entry.ensures.first c.loop-entry.invariant.first;
    }

pub returns-clause-named : goal.returns-clause-named
returns-clause-named c = named_end c.args.names.now _ _ _ _ c.in_default.ensures.value.0 c.loop-entry.invariant.named

pub returns-clause-given : goal.returns-clause-given
returns-clause-given c = joined_end (given_in c.args.names.now) _ _ _ c.in_default.ensures.value.0
    c.loop-entry.invariant.given

pub returns-clause-first : goal.returns-clause-first
returns-clause-first c = view_end (unknown_in_entry (named_by c.args.names.now)) _ _ _ c.in_default.ensures.value.0
    c.loop-entry.invariant.first
