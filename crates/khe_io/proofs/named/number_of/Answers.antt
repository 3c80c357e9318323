-- The file that is found is the first of its name.
use Rattle.std.proofs.Common.{◌≡◌, sym, ◌∙◌, true, encode_utf8_all, get_or, ap, List, ℕ}
use Rattle.std.specs.Str.{bytes_eq}
use Rattle.khe_io.proofs.NamedFiles.{bytes_under-found, spelling}
use Rattle.khe_io.proofs.named.number_of.Goals as goal

pub returns-then-eq-clause-first : goal.returns-then-eq-clause-first
returns-then-eq-clause-first c =
    let file = c.index-files-number.result in
    let named : encode_utf8_all (get_or c.args.files.now c.loop-number.number file).name ≡ c.as_str.result.now =
    spelling file file c.args.files.now c.loop-number.number c.index-files-number.is c.as_str.ensures in
    let same : bytes_eq (encode_utf8_all (get_or c.args.files.now c.loop-number.number file).name) c.args.name.now
    ≡ true =
    ap (λ (text : List ℕ). bytes_eq text c.args.name.now) named ∙ sym c.if-eq.ensures in
    bytes_under-found c.args.files.now c.loop-number.number file c.args.name.now c.loop-number-test.true
    c.loop-number.invariant same
