-- It was followed.
use Rattle.std.proofs.Common.{◌≡◌, ◌∙◌, ◌<◌, Some, None, ap, arith, get_or, slice_get, length}
use Rattle.std.proofs.lemmas.Option.{slice_get-get_or}
use Rattle.khe_base.proofs.ListLemmas.{there}
use Rattle.xhstt_completion.proofs.FoundLemmas.{event-below}
use Rattle.xhstt_completion.proofs.lookups.named_at.Goals as goal
use Rattle.xhstt_references.specs.declared.following.Named.{Named}

pub returns : goal.returns
returns c =
    let named = c.args.found.now.named in
    let row = c.as_slice-named.result.now in
    let i = c.args.number in
    let n : Named = get_or row i (record { event = record { 0 = 0 }; time = None; first = 0 }) in
    let same = c.as_slice-named.ensures in
    let low : i < length row = omega (arith, c.requires.within, c.requires.many, ap length same) in
    let at : slice_get named i ≡ Some n =
    ap (λ xs. slice_get xs i) (let back : named ≡ row = cc in back) ∙ slice_get-get_or row i _ low in
    let e = there c.args._entries.now i c.requires.within in
    record {
      found = λ entry found. c.requires.each i entry n found at;
      there = event-below c.args._inst.now e.value.reference.id n.event (c.requires.each i e.value n e.found at).event;
    }
