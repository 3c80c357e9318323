use Rattle.std.proofs.Common.{arith}
use Rattle.std.proofs.lemmas.List.Elements.{All-replicate}
use Rattle.ejection_repair.specs.Stuck.{IsStuckSpan}
use Rattle.ejection_repair.specs.declared.spans.Span.{Span}
use Rattle.ejection_repair.proofs.spans.Spans.new.Goals as goal

pub returns : goal.returns
returns c = λ p. let x : Span = record { start = 0; end = 0 } in
    All-replicate (IsStuckSpan p) 64 x (λ n a b. absurd (omega (arith, b)))
