-- A word with a common bit makes the count rise, and the others leave it.
use Rattle.std.proofs.Common.{◌≡◌, ◌≤◌, ◌∙◌, ◌<◌, ◌+◌, ◌*◌, ◌^◌, ◌&&◌, nat_lt, ap, sym, length, get_or}
use Rattle.std.proofs.Common.{bit_and, arith, lt-ltb, ℕ, zero, suc, refl}
use Rattle.std.proofs.lemmas.List.{get_or_read}
use Rattle.std.proofs.lemmas.Nat.{zero_from_ones}
use Rattle.khe_base.specs.Bits.{is_set, words_for}
use Rattle.khe_base.specs.Busy.{count_below}
use Rattle.khe_base.proofs.IdSetLemmas.{length-set_of_bits}
use Rattle.timetables.proofs.CountsLemmas.{count_below-stays, no_ones_of}
use Rattle.timetables.proofs.MasksLemmas.{common-more, common-some, common-whole, no_common-before}
use Rattle.timetables.proofs.masks.Mask.meets.Goals as goal

pub loop-k-init : goal.loop-k-init
loop-k-init c =
    let words = c.self.inside.words.items in
    let row = c.args.row.now in
    count_below-stays (λ t. is_set words t && is_set row t) 0 (64 * c.self.inside.first) (omega arith)
    (λ t low high. no_common-before words row _ _ _ c.self.invariant t high)

pub bounds-row-k : goal.bounds-row-k
bounds-row-k c =
    let size : length c.args.self.now ≡ c.self.inside.size =
    ap length (sym c.self.view_is) ∙ length-set_of_bits c.self.inside.words.items c.self.inside.size in
    let room : length c.self.inside.words.items ≡ words_for c.self.inside.size = c.self.invariant.room in
    omega arith

pub loop-k-preserved : goal.loop-k-preserved
loop-k-preserved c =
    let words = c.self.inside.words.items in
    let row = c.args.row.now in
    let k = c.loop-k.k in
    let within : k < length words = omega arith in
    let e : c.index.result.now ≡ get_or words k 0 = get_or_read words _ _ within c.index.ensures 0 in
    let small : get_or words k 0 < 2 ^ 64 = omega arith in
    let none : bit_and c.index.result.now (get_or row k 0) ≤ 0 = c.if-both-gt0.false in
    let zero : bit_and (get_or words k 0) (get_or row k 0) ≡ 0 =
    sym (ap (λ x. bit_and x (get_or row k 0)) e) ∙ (omega (arith, none)) in
    let ones = no_ones_of _ zero in
    let more = common-more words row k small in
    let sofar = c.loop-k.invariant in
    omega (arith, ones, more, sofar)

pub returns-then-both-gt0 : goal.returns-then-both-gt0
returns-then-both-gt0 c =
    let words = c.self.inside.words.items in
    let row = c.args.row.now in
    let k = c.loop-k.k in
    let within : k < length words = omega arith in
    let e : c.index.result.now ≡ get_or words k 0 = get_or_read words _ _ within c.index.ensures 0 in
    let small : get_or words k 0 < 2 ^ 64 = omega arith in
    let some : 0 < bit_and c.index.result.now (get_or row k 0) = c.if-both-gt0.true in
    let same = ap (λ x. bit_and x (get_or row k 0)) e in
    let more = common-more words row k small in
    let pos : 0 < count_below (λ t. is_set words t && is_set row t) (64 * (k + 1)) = not_zero _ _ _ more
    (λ z. let n = zero_from_ones _ z in omega (arith, n, same, some)) in
    sym (lt-ltb 0 _ (common-some words row _ _ _ c.self.invariant c.args.self.now k c.self.view_is
    c.loop-k-test.true pos))
  where
    not_zero : (a b d : ℕ) → a ≡ b + d → (d ≡ 0 → ⊥) → 0 < a
    not_zero a b zero e n = absurd (n refl)
    not_zero a b (suc d) e n = omega (arith, e)

pub returns : goal.returns
returns c =
    ap (nat_lt 0) (sym c.loop-k.invariant ∙ common-whole c.self.inside.words.items c.args.row.now _ _ _
    c.self.invariant c.args.self.now c.loop-k.k c.self.view_is c.loop-k-test.false)
