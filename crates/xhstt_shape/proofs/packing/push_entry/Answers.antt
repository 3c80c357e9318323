-- The entry goes last, and what was there stays.
use Rattle.std.proofs.Common.{◌≡◌, ◌∙◌, ap, subst, sym}
use Rattle.xhstt_shape.specs.Packed.{ArePacked, entries_at}
use Rattle.xhstt_shape.proofs.PackedLemmas.{entries-longer, entries-push, on-err, packed-push}
use Rattle.xhstt_shape.proofs.packing.push_entry.Goals as goal

pub returns-in_err-packed-clause-err : goal.returns-in_err-packed-clause-err
returns-in_err-packed-clause-err c =
    let xs = c.args.letters.now.items in
    let ys = c.pack_entry.new.letters.items in
    let gs = c.args.givens.now.items in
    let hs = c.pack_entry.new.givens.items in
    let rows = c.args.rows.now.items in
    on-err (entries_at ys hs rows ≡ entries_at xs gs rows) c.from_residual.result
    (entries-longer xs ys gs hs rows c.pack_entry.ensures.longer c.pack_entry.ensures.more c.requires)

pub returns-in_err-push-clause-err : goal.returns-in_err-push-clause-err
returns-in_err-push-clause-err c =
    let xs = c.args.letters.now.items in
    let ys = c.pack_entry.new.letters.items in
    let gs = c.args.givens.now.items in
    let hs = c.pack_entry.new.givens.items in
    let rows = c.args.rows.now.items in
    on-err (entries_at ys hs c.push.new.self.items ≡ entries_at xs gs rows) c.from_residual-in_err-push.result
    (ap (entries_at ys hs) c.in_err-push.ensures.items
    ∙ entries-longer xs ys gs hs rows c.pack_entry.ensures.longer c.pack_entry.ensures.more c.requires)

pub returns-clause-packed : goal.returns-clause-packed
returns-clause-packed c =
    let ys = c.pack_entry.new.letters.items in
    let hs = c.pack_entry.new.givens.items in
    subst (ArePacked ys hs) (sym c.in_ok-push.ensures.items)
    (packed-push c.args.letters.now.items ys c.args.givens.now.items hs c.args.rows.now.items c.in_ok-packed.packed
    c.pack_entry.ensures.longer c.pack_entry.ensures.more c.pack_entry.ensures.inside c.in_ok-packed.ensures.row c.requires)

pub returns-clause-ok : goal.returns-clause-ok
returns-clause-ok c =
    let ys = c.pack_entry.new.letters.items in
    let hs = c.pack_entry.new.givens.items in
    ap (entries_at ys hs) c.in_ok-push.ensures.items
    ∙ entries-push c.args.letters.now.items ys c.args.givens.now.items hs c.args.rows.now.items c.in_ok-packed.packed
    c.args.entry.now c.pack_entry.ensures.longer c.pack_entry.ensures.more c.requires c.in_ok-packed.ensures.is
