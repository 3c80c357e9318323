use Rattle.std.proofs.Common.{◌∙◌, sym}
use Rattle.family_tests.proofs.FitLaws.{place_by}
use Rattle.family_tests.proofs.fitting.places.Goals as goal

pub returns : goal.returns
returns c = λ e. place_by c.args.inst.now c.args.told.now c.requires.told c.args.meet c.args.start c.in-Some.duration
    c.times.result c.span.result c.unplaced.result c.requires.there c.span.ensures c.unplaced.ensures c.in-Some.is
    c.times.ensures (sym c.has_room.ensures ∙ e)
