use Rattle.std.proofs.Common.{None, ◌++◌, ap, sym, subst, ◌∙◌, append-nil}
use Rattle.xhstt_writer.specs.Archives as spec
use Rattle.xhstt_writer.proofs.Written.{canonical_spells}
use Rattle.xhstt_writer.proofs.writing.write.Goals as goal

pub returns-clause-canonical : goal.returns-clause-canonical
returns-clause-canonical c =
    let whole = spec.canonical c.args.archive.now in
    sym (append-nil c.put_archive.new.out.bytes.items)
    ∙ c.put_archive.ensures (record { reference = 0; waiting = 0; before = None; faults = 0; bytes = whole })
    (λ _. ap (λ x. x ++ whole) c.new.ensures.items) c.if-buffer.false

pub returns-clause-read_back : goal.returns-clause-read_back
returns-clause-read_back c w = subst (λ x. spec.IsReadAs x c.args.archive.now) (sym (returns-clause-canonical c))
    (canonical_spells c.args.archive.now w)
