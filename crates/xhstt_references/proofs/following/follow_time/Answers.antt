-- The number of the reference, if there is one, is that of its name.
use Rattle.std.proofs.Common.{◌∙◌, ap, sym, Some}
use Rattle.std.specs.Prelude.{unwrap_or}
use Rattle.std.specs.Option.{option_map}
use Rattle.xhstt_shape.specs.Views.{seen_reference}
use Rattle.xhstt_references.specs.First.{first_of}
use Rattle.xhstt_references.specs.Followed.{time_numbered}
use Rattle.xhstt_references.specs.References.{unknown_one}
use Rattle.xhstt_references.proofs.following.follow_time.Goals as goal

pub returns-in-Some-clause-time : goal.returns-in-Some-clause-time
returns-in-Some-clause-time c =
    (λ j. Some (record { 0 = (c.number_or_noted.ensures.number ∙ ap (λ o. unwrap_or o 0) c.time.ensures) j }))
    ∙ ap (λ r. option_map (time_numbered c.args.names.now) (option_map seen_reference r)) (sym c.in-Some.is)

pub returns-in-Some-clause-first : goal.returns-in-Some-clause-first
returns-in-Some-clause-first c =
    c.number_or_noted.ensures.first c.args.names.now.times c.time.ensures
    ∙ ap (λ r. first_of c.args.first.now.at (unknown_one c.args.names.now.times (option_map seen_reference r)))
    (sym c.in-Some.is)
