-- Resources one by one.
use Rattle.std.proofs.Common.{◌∙◌, ◌∷◌, ◌++◌, [], ap}
use Rattle.xhstt_references.specs.Directories.{named_by}
use Rattle.xhstt_references.specs.First.{first_of}
use Rattle.xhstt_references.specs.Followed.{resource_numbered}
use Rattle.xhstt_references.specs.References.{unknown, unknown_in_given}
use Rattle.xhstt_references.proofs.FirstLemmas.{view_step, view_end}
use Rattle.xhstt_references.proofs.FollowedLemmas.{pushed_step, pushed_end}
use Rattle.xhstt_references.proofs.following.follow_givens.Goals as goal

pub loop-one-preserved : goal.loop-one-preserved
loop-one-preserved c =
    let names = c.args.names.now in
    let first = c.loop-one.first.at in record {
      given = pushed_step (λ g. resource_numbered names g.reference) _ _ _ c.loop-one.given _ _ c.in-Some.ensures.value
          (c.in_ok-push.ensures.ok ∙ ap (λ r. c.loop-one.given ++ r ∷ []) (c.follow_resource.ensures.resource
          ∙ ap (resource_numbered names) c.reference.ensures)) c.loop-one.invariant.given;
      first = view_step (unknown_in_given (named_by names)) _ _ _ _ _ _ c.in-Some.ensures.value
          (c.follow_resource.ensures.first
          ∙ ap (λ r. first_of first (unknown names.resources (r ∷ []))) c.reference.ensures)
          c.loop-one.invariant.first;
    }

pub returns-clause-given : goal.returns-clause-given
returns-clause-given c = pushed_end (λ g. resource_numbered c.args.names.now g.reference) _ c.loop-one.given _
    c.in_default.ensures.value.0 c.loop-one.invariant.given

pub returns-clause-first : goal.returns-clause-first
returns-clause-first c = view_end (unknown_in_given (named_by c.args.names.now)) _ _ _ c.in_default.ensures.value.0
    c.loop-one.invariant.first
