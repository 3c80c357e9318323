-- Each instance is made, or its first fault is that of all.
use Rattle.std.proofs.Common.{◌≡◌, ◌∙◌, ◌+◌, ap, refl, subst, sym, map, drop}
use Rattle.std.specs.Option.{option_or}
use Rattle.std.proofs.lemmas.List.Elements.{All-get_or}
use Rattle.xhstt_references.specs.Directories.{part_names}
use Rattle.xhstt_resolve.specs.Answers.{IsFirst}
use Rattle.xhstt_resolve.specs.Limits.{earliest}
use Rattle.xhstt_resolve.specs.Parts.{parts_of}
use Rattle.xhstt_resolve.specs.Resolved.{instance_fault}
use Rattle.xhstt_shape.specs.WellFormed.{IsInstance}
use Rattle.xhstt_resolve.proofs.AnswersLemmas.{passed-first, pushed, this-first}
use Rattle.xhstt_resolve.proofs.resolving.made_instances.Goals as goal
use Rattle.khe_base.proofs.ListLemmas.{drop-next}

pub add_instance-requires : goal.add_instance-requires
add_instance-requires c =
    subst IsInstance (sym c.raw-item.is) (All-get_or IsInstance c.args.raws.now c.loop-raw.raw-index
    c.raw-item.result c.loop-raw-test.true c.requires)

pub returns-in_err-add_instance-clause-fault : goal.returns-in_err-add_instance-clause-fault
returns-in_err-add_instance-clause-fault c =
    let raws = c.args.raws.now in
    let i = c.loop-raw.raw-index in
    let x = c.raw-item.result in
    let e = c.in_err-add_instance.field-0.0 in
    let rest = earliest (map instance_fault (drop (i + 1) raws)) in
    let same : option_or (instance_fault x) rest ≡ earliest (map instance_fault raws) =
    ap (λ ys. earliest (map instance_fault ys)) (sym (drop-next raws i x c.loop-raw-test.true c.raw-item.is))
    ∙ c.loop-raw.invariant.sound in
    passed-first c.from_residual-in_err-add_instance.result e (earliest (map instance_fault raws))
    c.from_residual-in_err-add_instance.ensures.1
    (subst (λ o. IsFirst o e) same (this-first (instance_fault x) rest e c.in_err-add_instance.ensures.fault))

pub loop-raw-preserved : goal.loop-raw-preserved
loop-raw-preserved c =
    let raws = c.args.raws.now in
    let i = c.loop-raw.raw-index in
    let x = c.raw-item.result in
    let after = drop (i + 1) raws in
    let rest = earliest (map instance_fault after) in
    let left = drop-next raws i x c.loop-raw-test.true c.raw-item.is in
    record {
      instances = pushed parts_of c.loop-raw.made.instances c.add_instance.new.made.instances (map parts_of raws) x
          (parts_of x) (drop i raws) after
          c.in_ok-add_instance.ensures.instance refl left c.loop-raw.invariant.instances;
      names = λ solved. pushed part_names c.loop-raw.made.names c.add_instance.new.made.names (map part_names raws) x
          (part_names x) (drop i raws) after
          (c.in_ok-add_instance.ensures.names solved) refl left (c.loop-raw.invariant.names solved);
      sound = sym (ap (λ o. option_or o rest) c.in_ok-add_instance.ensures.sound)
          ∙ ap (λ ys. earliest (map instance_fault ys)) (sym left)
          ∙ c.loop-raw.invariant.sound;
    }
