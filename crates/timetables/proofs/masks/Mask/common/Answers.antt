-- Each word adds the members of its 64 times whose bits are set in the row.
use Rattle.std.proofs.Common.{◌≡◌, ◌∙◌, ◌<◌, ◌+◌, ◌*◌, ◌^◌, ◌&&◌, ap, sym, length, get_or, count_ones, bit_and, arith}
use Rattle.std.proofs.lemmas.List.{get_or_read}
use Rattle.khe_base.specs.Bits.{is_set, words_for}
use Rattle.khe_base.proofs.IdSetLemmas.{length-set_of_bits}
use Rattle.khe_base.specs.Busy.{count_below}
use Rattle.timetables.proofs.CountsLemmas.{count_below-stays, count_below-le}
use Rattle.timetables.proofs.MasksLemmas.{common-more, common-whole, no_common-before, no_common-beyond}
use Rattle.timetables.proofs.masks.Mask.common.Goals as goal

pub loop-k-init : goal.loop-k-init
loop-k-init c =
    let words = c.self.inside.words.items in
    let row = c.args.row.now in
    sym (count_below-stays (λ t. is_set words t && is_set row t) 0 (64 * c.self.inside.first) (omega arith)
    (λ t low high. no_common-before words row _ _ _ c.self.invariant t high))

pub bounds-row-k : goal.bounds-row-k
bounds-row-k c =
    let size : length c.args.self.now ≡ c.self.inside.size =
    ap length (sym c.self.view_is) ∙ length-set_of_bits c.self.inside.words.items c.self.inside.size in
    let room : length c.self.inside.words.items ≡ words_for c.self.inside.size = c.self.invariant.room in
    omega arith

pub overflow_add-count : goal.overflow_add-count
overflow_add-count c =
    let words = c.self.inside.words.items in
    let row = c.args.row.now in
    let k = c.loop-k.k in
    let within : k < length words = omega arith in
    let e : c.index.result.now ≡ get_or words k 0 = get_or_read words _ _ within c.index.ensures 0 in
    let small : get_or words k 0 < 2 ^ 64 = omega arith in
    let more = common-more words row k small in
    let cap = count_below-le (λ t. is_set words t && is_set row t) c.self.inside.size (64 * (k + 1))
    (no_common-beyond words row _ _ _ c.self.invariant) in
    let low : c.self.inside.size < 2 ^ 32 = c.self.invariant.small in
    let same : count_ones (bit_and c.index.result.now (get_or row k 0))
    ≡ count_ones (bit_and (get_or words k 0) (get_or row k 0)) =
    ap (λ x. count_ones (bit_and x (get_or row k 0))) e in
    let sofar : c.loop-k.count ≡ count_below (λ t. is_set words t && is_set row t) (64 * k) = c.loop-k.invariant in
    omega (arith, more, cap)

pub loop-k-preserved : goal.loop-k-preserved
loop-k-preserved c =
    let words = c.self.inside.words.items in
    let row = c.args.row.now in
    let k = c.loop-k.k in
    let within : k < length words = omega arith in
    let e : c.index.result.now ≡ get_or words k 0 = get_or_read words _ _ within c.index.ensures 0 in
    let small : get_or words k 0 < 2 ^ 64 = omega arith in
    ap (λ n. n + count_ones (bit_and c.index.result.now (get_or row k 0))) c.loop-k.invariant
    ∙ ap (λ x. count_below (λ t. is_set words t && is_set row t) (64 * k) + count_ones (bit_and x (get_or row k 0))) e
    ∙ sym (common-more words row k small)

pub returns : goal.returns
returns c =
    c.loop-k.invariant ∙ common-whole c.self.inside.words.items c.args.row.now _ _ _ c.self.invariant c.args.self.now
    c.loop-k.k c.self.view_is c.loop-k-test.false
