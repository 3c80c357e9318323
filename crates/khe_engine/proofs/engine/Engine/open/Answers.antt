-- What was opened is what the nested results say.
use Rattle.std.proofs.Common.{◌≡◌, ◌∙◌, Ok, length, refl, ap, subst, arith}
use Rattle.std.specs.Prelude.{IfOk, Result}
use Rattle.std.proofs.lemmas.List.{length-replicate}
use Rattle.khe_engine.proofs.engine.Engine.open.Goals as goal

if_ok : {A E : Type 0} (r : Result A E) (v : A) (P : A → Type 0) → r ≡ Ok v → IfOk r P → P v
if_ok r v P e h = subst (λ x. IfOk x P) e h

pub listen-late-requires : goal.listen-late-requires
listen-late-requires g c =
    let k = c.in_ok-solution in
    let four : (c.both-3.result ≡ Ok (k.families, k.graph)) × (c.waiting_of-waiting.result ≡ Ok k.waiting) =
    if_ok c.both-4.result ((k.families, k.graph), k.waiting) _ k.ensures.1 c.both-4.ensures in
    let three : (c.open-families.result ≡ Ok k.families) × (c.open-graph.result ≡ Ok k.graph) =
    if_ok c.both-3.result (k.families, k.graph) _ four.0 c.both-3.ensures in
    let two : (c.both.result ≡ Ok (k.solution, k.list)) × (c.open-journal.result ≡ Ok k.journal) =
    if_ok c.both-2.result ((k.solution, k.list), k.journal) _ k.ensures.0 c.both-2.ensures in
    let one : (c.open-solution.result ≡ Ok k.solution) × (c.list_of-list.result ≡ Ok k.list) =
    if_ok c.both.result (k.solution, k.list) _ two.0 c.both.ensures in
    record {
      name = refl;
      shares = refl;
      some = let parts = c.new.ensures in omega (arith, parts);
      parts = if_ok c.open-solution.result k.solution _ one.0 c.open-solution.ensures.parts;
      of = if_ok c.open-families.result k.families _ three.0 c.open-families.ensures.of;
      serves = c.requires.serves;
      none = if_ok c.open-families.result k.families _ three.0 c.open-families.ensures.told;
      rates = if_ok c.open-graph.result k.graph _ three.1 c.open-graph.ensures.of;
      many = ap length (if_ok c.open-graph.result k.graph _ three.1 c.open-graph.ensures.deviations)
          ∙ length-replicate (length c.args.inst.now.monitors) 0;
      idle = if_ok c.waiting_of-waiting.result k.waiting _ four.1 c.waiting_of-waiting.ensures;
      room = if_ok c.list_of-list.result k.list _ one.1 c.list_of-list.ensures;
    }
