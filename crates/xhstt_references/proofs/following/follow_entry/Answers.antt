-- The places of the event's reference, then of the time's, and then of those of the resources.
use Rattle.std.proofs.Common.{◌≡◌, ◌∙◌, ◌∷◌, [], ap, sym}
use Rattle.std.specs.List.{flat_map}
use Rattle.xhstt_references.specs.Directories.{named_by}
use Rattle.xhstt_references.specs.First.{first_of}
use Rattle.xhstt_references.specs.References.{unknown, unknown_one, unknown_in_given}
use Rattle.xhstt_references.proofs.FirstLemmas.{first_of_append}
use Rattle.xhstt_references.proofs.FollowedLemmas.{whatever}
use Rattle.xhstt_references.proofs.following.follow_entry.Goals as goal

pub returns-clause-first : goal.returns-clause-first
returns-clause-first c =
    let names = c.args.names.now in
    let entry = c.args.entry.now in
    let a = c.args.first.now.at in
    let events = unknown names.events (entry.reference ∷ []) in
    let times = unknown_one names.times entry.time in
    let givens = flat_map (unknown_in_given (named_by names)) entry.resources in
    let event : c.follow_event-event.new.first.at ≡ first_of a events =
    c.follow_event-event.ensures.first ∙ ap (λ r. first_of a (unknown names.events (r ∷ []))) c.reference.ensures in
    let time : c.follow_time-time.new.first.at ≡ first_of (first_of a events) times =
    c.follow_time-time.ensures.first ∙ (λ j. first_of (event j) (unknown_one names.times (c.time.ensures j))) in
    whatever c.push.result
    (c.in_ok-follow_givens.ensures.first
    ∙ (λ j. first_of (time j) (flat_map (unknown_in_given (named_by names)) (c.resources.ensures j)))
    ∙ sym (first_of_append (first_of a events) times givens)
    ∙ sym (first_of_append a events _))
