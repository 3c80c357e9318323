-- The kinds of faults in their order: where none of the earlier ones was found, the next one is told.
use Rattle.std.proofs.Common.{◌≡◌, ◌∙◌, ap, None, []}
use Rattle.std.specs.List.{flat_map}
use Rattle.xhstt_references.specs.Faults.{at_first}
use Rattle.xhstt_references.specs.First.{first_of}
use Rattle.xhstt_references.specs.References.{repeated, repeated_ids, repeated_roles, roles_of, unknown_in}
use Rattle.xhstt_references.specs.References.{unknown_references, off_end, events_off_end}
use Rattle.xhstt_references.specs.declared.faults.ReferenceFault.TheVariants.{NoMemory}
use Rattle.fault_tables.specs.declared.faults.TheConstants.{DUPLICATE_ID, UNKNOWN_REFERENCE, DUPLICATE_ROLE}
use Rattle.fault_tables.specs.declared.faults.TheConstants.{EVENT_OFF_END}
use Rattle.xhstt_references.proofs.ToldLemmas.{passed, passed_on, refused, told_later}
use Rattle.xhstt_references.proofs.instances.judge.Goals as goal

pub returns : goal.returns
returns c =
    let i = c.args.instance.now in
    let r1 = repeated_ids i in
    let r2 = unknown_references i in
    let r3 = repeated_roles i in
    let r4 = events_off_end i in
    let noted1 = c.requires.repeated in
    let none1 : r1 ≡ [] = passed _ _ _ noted1 c.in_ok-fault.ensures in
    let is = c.requires.names none1 in
    let noted2 = c.unknown_reference.ensures ∙ ap (λ d. first_of None (unknown_in d i)) is in
    let none2 : r2 ≡ [] = passed _ _ _ noted2 c.in_ok-fault-2.ensures in
    let noted3 = c.in_ok-repeated_roles.ensures ∙ ap (λ es. first_of None (flat_map (λ e. repeated (roles_of e)) es))
    c.as_slice.ensures in
    let none3 : r3 ≡ [] = passed _ _ _ noted3 c.in_ok-fault-3.ensures in
    let noted4 = c.event_off_end.ensures ∙ (λ j. first_of None (flat_map (off_end (is j)) (c.as_slice-2.ensures j))) in
    let none4 : r4 ≡ [] = passed _ _ _ noted4 c.in_ok-fault-4.ensures in
    record {
      names = is;
      told = λ j. at_first DUPLICATE_ID (none1 j) (at_first UNKNOWN_REFERENCE (none2 j)
          (at_first DUPLICATE_ROLE (none3 j) (at_first EVENT_OFF_END (none4 j) None)));
    }

pub returns-in_err-fault-clause-told : goal.returns-in_err-fault-clause-told
returns-in_err-fault-clause-told c =
    let i = c.args.instance.now in
    let r1 = repeated_ids i in
    let r2 = unknown_references i in
    let r3 = repeated_roles i in
    let r4 = events_off_end i in
    let noted1 = c.requires.repeated in
    passed_on _ _ _ c.from_residual.ensures.1
    (refused DUPLICATE_ID _ r1 (at_first UNKNOWN_REFERENCE r2
    (at_first DUPLICATE_ROLE r3 (at_first EVENT_OFF_END r4 None))) _ noted1 c.in_err-fault.ensures)

pub returns-in_err-fault-2-clause-told : goal.returns-in_err-fault-2-clause-told
returns-in_err-fault-2-clause-told c =
    let i = c.args.instance.now in
    let r1 = repeated_ids i in
    let r2 = unknown_references i in
    let r3 = repeated_roles i in
    let r4 = events_off_end i in
    let noted1 = c.requires.repeated in
    let none1 : r1 ≡ [] = passed _ _ _ noted1 c.in_ok-fault.ensures in
    let is = c.requires.names none1 in
    let noted2 = c.unknown_reference.ensures ∙ ap (λ d. first_of None (unknown_in d i)) is in
    passed_on _ _ _ c.from_residual-in_err-fault-2.ensures.1
    (told_later DUPLICATE_ID r1 _ _ none1 (refused UNKNOWN_REFERENCE _ r2
    (at_first DUPLICATE_ROLE r3 (at_first EVENT_OFF_END r4 None)) _ noted2 c.in_err-fault-2.ensures))

pub returns-in_err-fault-3-clause-told : goal.returns-in_err-fault-3-clause-told
returns-in_err-fault-3-clause-told c =
    let i = c.args.instance.now in
    let r1 = repeated_ids i in
    let r2 = unknown_references i in
    let r3 = repeated_roles i in
    let r4 = events_off_end i in
    let noted1 = c.requires.repeated in
    let none1 : r1 ≡ [] = passed _ _ _ noted1 c.in_ok-fault.ensures in
    let is = c.requires.names none1 in
    let noted2 = c.unknown_reference.ensures ∙ ap (λ d. first_of None (unknown_in d i)) is in
    let none2 : r2 ≡ [] = passed _ _ _ noted2 c.in_ok-fault-2.ensures in
    let noted3 = c.in_ok-repeated_roles.ensures ∙ ap (λ es. first_of None (flat_map (λ e. repeated (roles_of e)) es))
    c.as_slice.ensures in
    passed_on _ _ _ c.from_residual-in_err-fault-3.ensures.1
    (told_later DUPLICATE_ID r1 _ _ none1 (told_later UNKNOWN_REFERENCE r2 _ _ none2
    (refused DUPLICATE_ROLE _ r3 (at_first EVENT_OFF_END r4 None) _ noted3 c.in_err-fault-3.ensures)))

pub returns-in_err-fault-4-clause-told : goal.returns-in_err-fault-4-clause-told
returns-in_err-fault-4-clause-told c =
    let i = c.args.instance.now in
    let r1 = repeated_ids i in
    let r2 = unknown_references i in
    let r3 = repeated_roles i in
    let r4 = events_off_end i in
    let noted1 = c.requires.repeated in
    let none1 : r1 ≡ [] = passed _ _ _ noted1 c.in_ok-fault.ensures in
    let is = c.requires.names none1 in
    let noted2 = c.unknown_reference.ensures ∙ ap (λ d. first_of None (unknown_in d i)) is in
    let none2 : r2 ≡ [] = passed _ _ _ noted2 c.in_ok-fault-2.ensures in
    let noted3 = c.in_ok-repeated_roles.ensures ∙ ap (λ es. first_of None (flat_map (λ e. repeated (roles_of e)) es))
    c.as_slice.ensures in
    let none3 : r3 ≡ [] = passed _ _ _ noted3 c.in_ok-fault-3.ensures in
    let noted4 = c.event_off_end.ensures ∙ (λ j. first_of None (flat_map (off_end (is j)) (c.as_slice-2.ensures j))) in
    passed_on _ _ _ c.from_residual-in_err-fault-4.ensures.1
    (told_later DUPLICATE_ID r1 _ _ none1 (told_later UNKNOWN_REFERENCE r2 _ _ none2
    (told_later DUPLICATE_ROLE r3 _ _ none3 (refused EVENT_OFF_END _ r4 None _ noted4 c.in_err-fault-4.ensures))))

-- memory was refused
pub returns-in_err-repeated_roles-clause-told : goal.returns-in_err-repeated_roles-clause-told
returns-in_err-repeated_roles-clause-told c = passed_on _ NoMemory _ c.from_residual-in_err-repeated_roles.ensures.1 tt
