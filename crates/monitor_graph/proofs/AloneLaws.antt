-- A monitor that is in no group.
use Rattle.std.proofs.Common.{ℕ, ◌≡◌, ◌+◌, ◌*◌, ◌/◌, ◌<◌, ◌≤◌, false, cond, List, get_or, refl, ap, ◌∙◌, arith, inl, inr}
use Rattle.std.proofs.lemmas.Bool.{cases_lt}
use Rattle.std.proofs.lemmas.List.{nil_from_length}
use Rattle.monitor_graph.proofs.RowLaws.{zero_clear}
use Rattle.monitor_graph.proofs.SeatLaws.{no_among, no_child, seated_at}
use Rattle.monitor_graph.specs.Groups.{Groups, children_at, has_child, is_among}
use Rattle.monitor_graph.specs.Seating.{AreSeated, bit_of}

-- where all groups together have no child, none has
pub alone_bare : (gs : Groups) (monitors many : ℕ) (held : List ℕ) (m : ℕ) → AreSeated gs monitors many held
    → many ≡ 0 → (g : ℕ) → has_child gs g m ≡ false
alone_bare gs monitors many held m s e g =
    let a = seated_at gs g in
    let n = s.counted in
    ap (is_among m) (nil_from_length (children_at gs g) (omega (arith, a, n, e)))

-- where no bit of a monitor is set, it is in none
pub alone_clear : (gs : Groups) (monitors many : ℕ) (held : List ℕ) (m first : ℕ) → AreSeated gs monitors many held
    → first ≡ 4 * m
    → ((n : ℕ) → first ≤ n → n < first + 4 → get_or held n 0 ≡ 0) → (g : ℕ) → has_child gs g m ≡ false
alone_clear gs monitors many held m first s at h g = elim (cases_lt g 256) [
  | inl l ↦
      let low : first ≤ bit_of m g / 64 = omega (arith, at, l) in
      let high : bit_of m g / 64 < first + 4 = omega (arith, at, l) in
      no_among m (children_at gs g)
      (s.bits g m l ∙ ap (λ t. cond t 1 0) (zero_clear held (bit_of m g / 64) (bit_of m g) (h (bit_of m g / 64) low high) refl))
  | inr past ↦ no_child gs g m (let b = s.numbers in omega (arith, b, past))
]
