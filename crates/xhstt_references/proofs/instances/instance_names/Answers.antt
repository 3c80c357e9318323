-- The Ids of instances, and then of solution groups.
use Rattle.std.proofs.Common.{◌≡◌, ◌∙◌, ap, map, None, []}
use Rattle.xhstt_references.specs.Faults.{at_first}
use Rattle.xhstt_references.specs.First.{first_of}
use Rattle.xhstt_references.specs.References.{repeated}
use Rattle.fault_tables.specs.declared.faults.TheConstants.{DUPLICATE_ID}
use Rattle.xhstt_references.proofs.RepeatsLemmas.{ids_along, noted_along}
use Rattle.xhstt_references.proofs.ToldLemmas.{passed, passed_on, refused, told_later}
use Rattle.xhstt_references.proofs.instances.instance_names.Goals as goal

pub returns : goal.returns
returns c =
    let a = c.args.archive.now in
    let r1 = repeated (map (λ i. i.id) a.instances) in
    let r2 = repeated (map (λ g. g.id) a.solution_groups) in
    let noted1 = noted_along (λ i. i.id) _ _ _ _ c.as_slice.ensures c.in_ok-names.ensures.first
    ∙ ap (λ f. first_of f r1) c.new-repeated.ensures in
    let noted2 = noted_along (λ g. g.id) _ _ _ _ c.as_slice-2.ensures c.in_ok-names_of.ensures.first
    ∙ ap (λ f. first_of f r2) c.new-repeated-2.ensures in
    let none1 : r1 ≡ [] = passed _ _ _ noted1 c.in_ok-fault.ensures in
    let none2 : r2 ≡ [] = passed _ _ _ noted2 c.in_ok-fault-2.ensures in
    record {
      names = ids_along (λ i. i.id) _ _ _ c.as_slice.ensures c.in_ok-names.ensures.names none1;
      told = λ j. at_first DUPLICATE_ID (none1 j) (at_first DUPLICATE_ID (none2 j) None);
    }

pub returns-in_err-fault-clause-told : goal.returns-in_err-fault-clause-told
returns-in_err-fault-clause-told c =
    let a = c.args.archive.now in
    let r1 = repeated (map (λ i. i.id) a.instances) in
    let r2 = repeated (map (λ g. g.id) a.solution_groups) in
    let noted1 = noted_along (λ i. i.id) _ _ _ _ c.as_slice.ensures c.in_ok-names.ensures.first
    ∙ ap (λ f. first_of f r1) c.new-repeated.ensures in
    passed_on _ _ _ c.from_residual-in_err-fault.ensures.1
    (refused DUPLICATE_ID _ r1 (at_first DUPLICATE_ID r2 None) _ noted1 c.in_err-fault.ensures)

pub returns-in_err-fault-2-clause-told : goal.returns-in_err-fault-2-clause-told
returns-in_err-fault-2-clause-told c =
    let a = c.args.archive.now in
    let r1 = repeated (map (λ i. i.id) a.instances) in
    let r2 = repeated (map (λ g. g.id) a.solution_groups) in
    let noted1 = noted_along (λ i. i.id) _ _ _ _ c.as_slice.ensures c.in_ok-names.ensures.first
    ∙ ap (λ f. first_of f r1) c.new-repeated.ensures in
    let noted2 = noted_along (λ g. g.id) _ _ _ _ c.as_slice-2.ensures c.in_ok-names_of.ensures.first
    ∙ ap (λ f. first_of f r2) c.new-repeated-2.ensures in
    let none1 : r1 ≡ [] = passed _ _ _ noted1 c.in_ok-fault.ensures in
    passed_on _ _ _ c.from_residual-in_err-fault-2.ensures.1
    (told_later DUPLICATE_ID r1 _ _ none1 (refused DUPLICATE_ID _ r2 None _ noted2 c.in_err-fault-2.ensures))
