use Rattle.std.proofs.Common.{refl, sym, subst, inl, inr}
use Rattle.fault_tables.specs.declared.faults.TheConstants.{NOT_UTF8}
use Rattle.std.specs.Str.{IsValidUpTo}
use Rattle.xhstt_text.proofs.Answer.{spelled, alone, unspelled, first_fault, fault_answered, utf8_answered, utf8_fault}
use Rattle.xhstt_text.proofs.Answer.{one_first, decides, lasting}
use Rattle.xhstt_text.proofs.EndingLaws.{ends_in_comment, ends_in_space}
use Rattle.xhstt_text.proofs.Trees.{read-table, read-spelled, read-alone}
use Rattle.xhstt_text.proofs.reader.elements.Goals as goal

pub returns-in-Ok-clause-found : goal.returns-in-Ok-clause-found
returns-in-Ok-clause-found c = spelled c.args.bytes.now c.read.result (λ tree. tree.nodes) (λ tree. tree.attributes)
    c.in-Ok.ensures.cases.1 c.read.ensures.exact

pub returns-in-Ok-clause-only : goal.returns-in-Ok-clause-only
returns-in-Ok-clause-only c = alone c.args.bytes.now c.read.result (λ tree. tree.nodes) (λ tree. tree.attributes)
    c.read.ensures.exact

pub returns-in-Ok-clause-table : goal.returns-in-Ok-clause-table
returns-in-Ok-clause-table c =
    read-table c.args.bytes.now c.read.result (record
    { exact = c.read.ensures.exact; same = c.read.ensures.bytes; short = c.requires })

pub returns-in-Ok-clause-spelled : goal.returns-in-Ok-clause-spelled
returns-in-Ok-clause-spelled c =
    read-spelled c.args.bytes.now c.read.result c.in-Ok.ensures.cases.1
    (record { exact = c.read.ensures.exact; same = c.read.ensures.bytes; short = c.requires })

pub returns-in-Ok-clause-one_forest : goal.returns-in-Ok-clause-one_forest
returns-in-Ok-clause-one_forest c =
    read-alone c.args.bytes.now c.read.result (record
    { exact = c.read.ensures.exact; same = c.read.ensures.bytes; short = c.requires })

pub returns-in-Ok-clause-exact : goal.returns-in-Ok-clause-exact
returns-in-Ok-clause-exact c = first_fault c.args.bytes.now c.read.result (λ tree. tree.nodes) (λ tree. tree.attributes)
    c.in-Ok.ensures.cases.1 c.read.ensures.exact

pub returns-in-Ok-clause-answered : goal.returns-in-Ok-clause-answered
returns-in-Ok-clause-answered c = fault_answered c.args.bytes.now c.read.result (λ tree. tree.nodes)
    (λ tree. tree.attributes) c.in-Ok.ensures.cases.1 c.read.ensures.exact

pub returns-in-Ok-clause-not_spelled : goal.returns-in-Ok-clause-not_spelled
returns-in-Ok-clause-not_spelled c = unspelled c.args.bytes.now

pub returns-in-Err-clause-exact : goal.returns-in-Err-clause-exact
returns-in-Err-clause-exact c =
    utf8_fault c.args.bytes.now c.valid_up_to.result _ refl
    (subst (IsValidUpTo c.args.bytes.now) (sym c.valid_up_to.ensures) c.in-Err.ensures.cases.1)

pub returns-in-Err-clause-answered : goal.returns-in-Err-clause-answered
returns-in-Err-clause-answered c =
    utf8_answered c.args.bytes.now c.valid_up_to.result _ refl
    (subst (IsValidUpTo c.args.bytes.now) (sym c.valid_up_to.ensures) c.in-Err.ensures.cases.1)

pub returns-in-Err-clause-not_spelled : goal.returns-in-Err-clause-not_spelled
returns-in-Err-clause-not_spelled c = unspelled c.args.bytes.now

pub returns-in-Ok-clause-one_fault : goal.returns-in-Ok-clause-one_fault
returns-in-Ok-clause-one_fault c = one_first c.args.bytes.now

pub returns-in-Err-clause-one_fault : goal.returns-in-Err-clause-one_fault
returns-in-Err-clause-one_fault c = one_first c.args.bytes.now

pub returns-in-Ok-clause-decided : goal.returns-in-Ok-clause-decided
returns-in-Ok-clause-decided c = decides c.args.bytes.now c.in-Ok.ensures.cases.1

pub returns-in-Err-clause-decided : goal.returns-in-Err-clause-decided
returns-in-Err-clause-decided c =
    inr (
      NOT_UTF8,
      c.valid_up_to.result,
      inl (
        refl,
        subst (IsValidUpTo c.args.bytes.now) (sym c.valid_up_to.ensures)
            c.in-Err.ensures.cases.1,
      ),
    )

pub returns-in-Ok-clause-lasting : goal.returns-in-Ok-clause-lasting
returns-in-Ok-clause-lasting c = lasting c.args.bytes.now

pub returns-in-Err-clause-lasting : goal.returns-in-Err-clause-lasting
returns-in-Err-clause-lasting c = lasting c.args.bytes.now

pub returns-in-Ok-clause-space_after : goal.returns-in-Ok-clause-space_after
returns-in-Ok-clause-space_after c = ends_in_space c.args.bytes.now

pub returns-in-Ok-clause-comment_after : goal.returns-in-Ok-clause-comment_after
returns-in-Ok-clause-comment_after c = ends_in_comment c.args.bytes.now

pub returns-in-Err-clause-space_after : goal.returns-in-Err-clause-space_after
returns-in-Err-clause-space_after c = ends_in_space c.args.bytes.now

pub returns-in-Err-clause-comment_after : goal.returns-in-Err-clause-comment_after
returns-in-Err-clause-comment_after c = ends_in_comment c.args.bytes.now
