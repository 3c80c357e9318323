-- One more slot.
use Rattle.std.proofs.Common.{◌++◌, ◌∷◌, [], ◌∙◌, ap, append_assoc}
use Rattle.std.specs.Prelude.{replicate}
use Rattle.std.proofs.lemmas.List.{replicate-append-replicate}
use Rattle.khe_instance.proofs.slots.push_slots.Goals as goal

pub loop-preserved : goal.loop-preserved
loop-preserved c =
    c.in_ok-push.ensures.items
    ∙ ap (λ xs. xs ++ c.args.event ∷ []) c.loop.invariant
    ∙ append_assoc c.args.slots.now.items (replicate c.loop.counter c.args.event) (c.args.event ∷ [])
    ∙ ap (λ xs. c.args.slots.now.items ++ xs) (replicate-append-replicate c.loop.counter 1 c.args.event)
