-- Each word adds its free times, and widens the span where it has a busy one.
use Rattle.std.proofs.Common.{◌≡◌, ◌∙◌, ◌<◌, ◌≤◌, ◌+◌, ◌*◌, ◌^◌, ◌&&◌, not, ap, sym, length, get_or, count_ones}
use Rattle.std.proofs.Common.{bit_and, arith, subst, ◌%◌, ◌-◌}
use Rattle.std.specs.Int.{bit_not, leading_zeros, trailing_zeros, w64}
use Rattle.std.proofs.lemmas.Nat.{and_le_l}
use Rattle.std.proofs.lemmas.List.{get_or_read}
use Rattle.khe_base.specs.Bits.{is_set, words_for}
use Rattle.khe_base.proofs.IdSetLemmas.{length-set_of_bits}
use Rattle.khe_base.specs.Busy.{count_below}
use Rattle.timetables.proofs.CountsLemmas.{count_below-stays, count_below-le}
use Rattle.timetables.proofs.MasksLemmas.{free-more, common-bits, free-bits, no_common-before, no_free-before}
use Rattle.timetables.proofs.MasksLemmas.{no_free-beyond, idle-nowhere, idle-ends, idle-in_word}
use Rattle.timetables.proofs.Spans.{IsSpan, IsSpan-widened}
use Rattle.timetables.proofs.masks.Mask.idle.Goals as goal

pub bounds-row-self-inside : goal.bounds-row-self-inside
bounds-row-self-inside c =
    let size : length c.args.self.now ≡ c.self.inside.size =
    ap length (sym c.self.view_is) ∙ length-set_of_bits c.self.inside.words.items c.self.inside.size in
    let room : length c.self.inside.words.items ≡ words_for c.self.inside.size = c.self.invariant.room in
    let one = c.if-amount-eq1.true in
    omega (arith, one)

pub returns-then-amount-eq1 : goal.returns-then-amount-eq1
returns-then-amount-eq1 c =
    let words = c.self.inside.words.items in
    let row = c.args.row.now in
    let first = c.self.inside.first in
    let one = c.if-amount-eq1.true in
    let within : first < length words = let w = c.self.invariant.within in omega (arith, one, w) in
    let e : c.index-word.result.now ≡ get_or words first 0 =
    get_or_read words _ _ within c.index-word.ensures 0 in
    let small : get_or words first 0 < 2 ^ 64 = omega arith in
    let small_row : get_or row first 0 < 2 ^ 64 = (c.type_inv.row first).fits in
    idle-in_word words row _ _ _ c.self.invariant c.args.self.now c.idle_in_word.result c.self.view_is
    (omega (arith, one)) small small_row
    (subst (λ w. bit_and w (get_or row first 0) ≡ 0 → c.idle_in_word.result ≡ 0) e c.idle_in_word.ensures.none)
    (subst (λ w. 0 < bit_and w (get_or row first 0)
    → count_ones (bit_and w (bit_not w64 (get_or row first 0))
    % 2 ^ trailing_zeros w64 (bit_and w (get_or row first 0))) + c.idle_in_word.result
    ≡ count_ones (bit_and w (bit_not w64 (get_or row first 0))
    % 2 ^ (63 - leading_zeros w64 (bit_and w (get_or row first 0))))) e c.idle_in_word.ensures.between)

pub loop-k-init : goal.loop-k-init
loop-k-init c =
    let words = c.self.inside.words.items in
    let row = c.args.row.now in
    record {
      counted = sym (count_below-stays (λ t. is_set words t && not (is_set row t)) 0 (64 * c.self.inside.first)
          (omega arith) (λ t low high. no_free-before words row _ _ _ c.self.invariant t high));
      span = λ t h. no_common-before words row _ _ _ c.self.invariant t h;
    }

pub bounds-row-k : goal.bounds-row-k
bounds-row-k c =
    let size : length c.args.self.now ≡ c.self.inside.size =
    ap length (sym c.self.view_is) ∙ length-set_of_bits c.self.inside.words.items c.self.inside.size in
    let room : length c.self.inside.words.items ≡ words_for c.self.inside.size = c.self.invariant.room in
    omega arith

pub bounds-row-k-in-loop-k : goal.bounds-row-k-in-loop-k
bounds-row-k-in-loop-k c =
    let size : length c.args.self.now ≡ c.self.inside.size =
    ap length (sym c.self.view_is) ∙ length-set_of_bits c.self.inside.words.items c.self.inside.size in
    let room : length c.self.inside.words.items ≡ words_for c.self.inside.size = c.self.invariant.room in
    omega arith

pub widened-span-requires : goal.widened-span-requires
widened-span-requires c =
    let words = c.self.inside.words.items in
    let row = c.args.row.now in
    let k = c.loop-k.k in
    let within : k < length words = omega arith in
    let e : c.index-in-loop-k.result.now ≡ get_or words k 0 =
    get_or_read words _ _ within c.index-in-loop-k.ensures 0 in
    let small : get_or words k 0 < 2 ^ 64 = omega arith in
    let small_row : get_or row k 0 < 2 ^ 64 = (c.type_inv.row k).fits in
    let more = free-more words row k small small_row in
    let cap = count_below-le (λ t. is_set words t && not (is_set row t)) c.self.inside.size (64 * (k + 1))
    (no_free-beyond words row _ _ _ c.self.invariant) in
    let low : c.self.inside.size < 2 ^ 32 = c.self.invariant.small in
    let same : count_ones (bit_and c.index-in-loop-k.result.now (bit_not w64 (get_or row k 0)))
    ≡ count_ones (bit_and (get_or words k 0) (bit_not w64 (get_or row k 0))) =
    ap (λ x. count_ones (bit_and x (bit_not w64 (get_or row k 0)))) e
    in
    let sofar : c.loop-k.unbusy ≡ count_below (λ t. is_set words t && not (is_set row t)) (64 * k) =
    c.loop-k.invariant.counted in
    omega (arith, more, cap)

pub overflow_add-unbusy : goal.overflow_add-unbusy
overflow_add-unbusy c =
    let words = c.self.inside.words.items in
    let row = c.args.row.now in
    let k = c.loop-k.k in
    let within : k < length words = omega arith in
    let e : c.index-in-loop-k.result.now ≡ get_or words k 0 =
    get_or_read words _ _ within c.index-in-loop-k.ensures 0 in
    let small : get_or words k 0 < 2 ^ 64 = omega arith in
    let small_row : get_or row k 0 < 2 ^ 64 = (c.type_inv.row k).fits in
    let more = free-more words row k small small_row in
    let cap = count_below-le (λ t. is_set words t && not (is_set row t)) c.self.inside.size (64 * (k + 1))
    (no_free-beyond words row _ _ _ c.self.invariant) in
    let low : c.self.inside.size < 2 ^ 32 = c.self.invariant.small in
    let same : count_ones (bit_and c.index-in-loop-k.result.now (bit_not w64 (get_or row k 0)))
    ≡ count_ones (bit_and (get_or words k 0) (bit_not w64 (get_or row k 0))) =
    ap (λ x. count_ones (bit_and x (bit_not w64 (get_or row k 0)))) e
    in
    let sofar : c.loop-k.unbusy ≡ count_below (λ t. is_set words t && not (is_set row t)) (64 * k) =
    c.loop-k.invariant.counted in
    omega (arith, more, cap)

pub loop-k-preserved : goal.loop-k-preserved
loop-k-preserved c =
    let words = c.self.inside.words.items in
    let row = c.args.row.now in
    let k = c.loop-k.k in
    let within : k < length words = omega arith in
    let d : c.index.result.now ≡ get_or words k 0 = get_or_read words _ _ within c.index.ensures 0 in
    let e : c.index-in-loop-k.result.now ≡ get_or words k 0 =
    get_or_read words _ _ within c.index-in-loop-k.ensures 0 in
    let small : get_or words k 0 < 2 ^ 64 = omega arith in
    let small_row : get_or row k 0 < 2 ^ 64 = (c.type_inv.row k).fits in
    let b = bit_and c.index.result.now (get_or row k 0) in
    let f = bit_and c.index-in-loop-k.result.now (bit_not w64 (get_or row k 0)) in
    let less : b ≤ c.index.result.now = and_le_l c.index.result.now (get_or row k 0) in
    record {
      counted =
          ap (λ n. n + count_ones f) c.loop-k.invariant.counted
          ∙ ap (λ x. count_below (λ t. is_set words t && not (is_set row t)) (64 * k) + count_ones
          (bit_and x (bit_not w64 (get_or row k 0)))) e
          ∙ sym (free-more words row k small small_row);
      span =
          IsSpan-widened (λ t. is_set words t && is_set row t) (λ t. is_set words t && not (is_set row t)) k b f
          c.loop-k.unbusy
          (λ i h. rw d (common-bits words row k i h)) (λ i h. rw e (free-bits words row k small_row i h))
          c.loop-k.invariant.counted
          c.loop-k.span c.widened-span.result (omega arith) c.widened-span.ensures.unbusy c.widened-span.ensures.first
          c.widened-span.ensures.last c.loop-k.invariant.span;
    }

pub overflow_sub-result : goal.overflow_sub-result
overflow_sub-result c =
    let words = c.self.inside.words.items in
    let row = c.args.row.now in
    let sum = idle-ends words row _ _ _ c.self.invariant c.args.self.now c.loop-k.k _ _ c.self.view_is
    c.loop-k-test.false
    (subst (λ s. IsSpan (λ t. is_set words t && is_set row t) (λ t. is_set words t && not (is_set row t))
    (64 * c.loop-k.k) s) c.in-Some.is c.loop-k.invariant.span)
    in
    omega (arith, sum)

pub returns-in-None : goal.returns-in-None
returns-in-None c =
    let words = c.self.inside.words.items in
    let row = c.args.row.now in
    idle-nowhere words row _ _ _ c.self.invariant c.args.self.now c.loop-k.k c.self.view_is c.loop-k-test.false
    (subst (λ s. IsSpan (λ t. is_set words t && is_set row t) (λ t. is_set words t && not (is_set row t))
    (64 * c.loop-k.k) s) c.in-None.is c.loop-k.invariant.span)

pub returns-in-Some : goal.returns-in-Some
returns-in-Some c =
    let words = c.self.inside.words.items in
    let row = c.args.row.now in
    let sum = idle-ends words row _ _ _ c.self.invariant c.args.self.now c.loop-k.k _ _ c.self.view_is
    c.loop-k-test.false
    (subst (λ s. IsSpan (λ t. is_set words t && is_set row t) (λ t. is_set words t && not (is_set row t))
    (64 * c.loop-k.k) s) c.in-Some.is c.loop-k.invariant.span)
    in
    omega (arith, sum)
