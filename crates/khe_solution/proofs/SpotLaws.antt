-- Where the bit of a task slot stands in a row.
use Rattle.std.proofs.Common.{ℕ, ◌^◌, ◌-◌, Some, ◌≡◌, ◌≢◌, ◌+◌, ◌*◌, ◌/◌, ◌<◌, ◌≤◌, Bool, true, false, cond, nat_eq}
use Rattle.std.proofs.Common.{Option, None, List, length, refl, sym, ap, ◌∙◌, arith, inl, inr, ◌⊎◌}
use Rattle.std.specs.Prelude.{◌&&◌, nat_le, nat_lt, slice_index_or, replicate}
use Rattle.std.proofs.Math.Nat.{mul-le-mul_right}
use Rattle.std.proofs.lemmas.Bool.{eq-eqb, ne_eqb}
use Rattle.std.proofs.lemmas.Nat.{div-mul-add}
use Rattle.std.proofs.lemmas.Bool.{cases_lt, lt-ltb, le-ltb, le-leb, leb-true}
use Rattle.khe_base.specs.Bits.{is_set}
use Rattle.khe_base.specs.declared.numbers.ResourceId.{ResourceId}
use Rattle.khe_solution.specs.FreeBits.{AreClear, IsFirst}
use Rattle.khe_solution.specs.Marks.{AreMarked}
use Rattle.khe_solution.specs.TaskRows.{AreAllPut, AreOut, ArePut, AreRows, IsFirstIn, is_in, is_row_of, row_of}
use Rattle.khe_solution.specs.TaskRows.{spot_of}
use Rattle.khe_solution.specs.declared.tasks.TaskRows.{TaskRows}
use Rattle.khe_solution.proofs.Basics.{cases_eq, true-false}
use Rattle.khe_base.proofs.BitsLemmas.{is_set-zeros}

-- one row after the other
pub row_end : (stride row : ℕ) → row < 257 → row * stride + stride ≤ 257 * stride
row_end stride row l =
    let h = mul-le-mul_right {m = row + 1} {n = 257} stride (omega (arith, l)) in
    let e : (row + 1) * stride ≡ row * stride + stride = omega arith in
    omega (arith, h, e)

pub spot_word : (stride row n : ℕ) → n < 64 * stride → spot_of stride row n / 64 < row * stride + stride
unfolding spot_of
spot_word stride row n l = omega (arith, l)

pub spot_more : (stride row n k : ℕ) → spot_of stride row n + k ≡ spot_of stride row (n + k)
unfolding spot_of
spot_more stride row n k = omega arith

pub spot_is : (stride row n : ℕ) → spot_of stride row n ≡ 64 * (row * stride) + n
unfolding spot_of
spot_is stride row n = refl

-- two places in rows are the same only where row and number are
spot_wide : (stride row n : ℕ) → spot_of stride row n ≡ row * (64 * stride) + n
unfolding spot_of
spot_wide stride row n = let e : 64 * (row * stride) ≡ row * (64 * stride) = omega arith in ap (λ k. k + n) e

spot_row : (stride r row j n : ℕ) → j < 64 * stride → n < 64 * stride → spot_of stride r j ≡ spot_of stride row n
    → r ≡ row
spot_row stride r row j n a b e =
    sym (div-mul-add r (64 * stride) j a) ∙ ap (λ k. k / (64 * stride))
    (sym (spot_wide stride r j) ∙ e ∙ spot_wide stride row n) ∙ div-mul-add row (64 * stride) n b

spot_number : (stride r row j n : ℕ) → j < 64 * stride → n < 64 * stride → spot_of stride r j ≡ spot_of stride row n
    → j ≡ n
spot_number stride r row j n a b e =
    let q = sym (spot_wide stride r j) ∙ e ∙ spot_wide stride row n in
    let same = ap (λ k. k * (64 * stride)) (spot_row stride r row j n a b e) in
    omega (arith, q, same)

pub no_and : (a b : Bool) → b ≡ false → (a && b) ≡ false
no_and true b h = h
no_and false b h = refl

pub spot_eq : (stride r row j n : ℕ) → j < 64 * stride → n < 64 * stride
    → nat_eq (spot_of stride r j) (spot_of stride row n) ≡ (nat_eq r row && nat_eq j n)
spot_eq stride r row j n a b = elim (cases_eq r row) [
  | inr d ↦ ne_eqb _ _ (λ e. d (spot_row stride r row j n a b e)) ∙ sym (ap (λ t. t && nat_eq j n) (ne_eqb r row d))
  | inl e ↦ elim (cases_eq j n) [
    | inr d ↦ ne_eqb _ _ (λ q. d (spot_number stride r row j n a b q))
        ∙ sym (no_and (nat_eq r row) (nat_eq j n) (ne_eqb j n d))
    | inl f ↦ eq-eqb _ _ (λ i. spot_of stride (e i) (f i)) ∙ sym (λ i. eq-eqb r row e i && eq-eqb j n f i)
  ]
]

-- the bit of one place is put
pub put_is : (t u : TaskRows) (row n : ℕ) (b : Bool) → n < 64 * t.stride → u.stride ≡ t.stride
    → ((m : ℕ) → is_set u.words.items m ≡ cond (nat_eq m (spot_of t.stride row n)) b (is_set t.words.items m))
    → ArePut t u row n b
put_is t u row n b l e h r j rl jl =
    ap (λ k. is_set u.words.items (spot_of k r j)) e
    ∙ h (spot_of t.stride r j)
    ∙ ap (λ q. cond q b (is_in t r j)) (spot_eq t.stride r row j n jl l)

pub put_there : (t : TaskRows) (row n : ℕ) → AreRows t → row < 257 → n < 64 * t.stride
    → spot_of t.stride row n / 64 < length t.words.items
put_there t row n rows r l =
    let a = row_end t.stride row r in
    let b = spot_word t.stride row n l in
    let c = rows.many in
    omega (arith, a, b, c)

pub put_room : (t : TaskRows) (row n : ℕ) → AreRows t → row < 257 → n < 64 * t.stride
    → spot_of t.stride row n / 64 / 64 < length t.marks.items
put_room t row n rows r l =
    let a = put_there t row n rows r l in
    let b = rows.room in
    omega (arith, a, b)

pub rows_put : (t u : TaskRows) → AreRows t → AreMarked u.words.items u.marks.items
    → length u.words.items ≡ length t.words.items → length u.marks.items ≡ length t.marks.items → u.stride ≡ t.stride
    → AreRows u
rows_put t u rows marked a b c =
    let k = ap (λ n. 257 * n) c in
    let m = rows.many in
    let r = rows.room in
    let o = rows.some in
    let f = rows.few in
    record {
      marked = marked;
      many = omega (arith, a, k, m);
      room = omega (arith, a, b, r);
      some = omega (arith, b, o);
      few = omega (arith, c, f);
    }

-- where a spot stands, in numbers that code has
pub spot_small : (stride row : ℕ) → row < 257 → stride < 2 ^ 22 → row * stride < 2 ^ 31
spot_small stride row r f = let a = row_end stride row r in omega (arith, a, f)

pub row_small : (stride row : ℕ) → row < 257 → stride < 2 ^ 22 → (row + 1) * stride < 2 ^ 32
row_small stride row r f =
    let a = row_end stride row r in
    let e : (row + 1) * stride ≡ row * stride + stride = omega arith in
    omega (arith, a, e, f)

pub spot_fits : (stride row from : ℕ) → row < 257 → stride < 2 ^ 22 → from ≤ 64 * stride
    → spot_of stride row 0 + from < 2 ^ 64
unfolding spot_of
spot_fits stride row from r f l = let a = row_end stride row r in omega (arith, a, f, l)

pub row_below : (g : Option ResourceId) → row_of g < 257
row_below None = omega arith
row_below (Some r) = omega arith

-- what is found in the words of a row is found in the row
pub in_row : (t : TaskRows) (row from n : ℕ) → IsFirst t.words.items (spot_of t.stride row 0 + from) n
    → n < 64 * ((row + 1) * t.stride) → IsFirstIn t row from (n - spot_of t.stride row 0)
unfolding spot_of
in_row t row from n first l =
    let w = t.words.items in
    let start = spot_of t.stride row 0 in
    let a = first.0 in
    let e : (row + 1) * t.stride ≡ row * t.stride + t.stride = omega arith in
    let back : spot_of t.stride row (n - start) ≡ n = omega (arith, a) in (
      omega (arith, a),
      omega (arith, e, l, a),
      ap (is_set w) back
          ∙ first.1,
      λ j f b. first.2 (spot_of t.stride row j) (omega (arith, f)) (omega (arith, b)),
    )

pub out_row : (t : TaskRows) (row from : ℕ) → AreClear t.words.items (spot_of t.stride row 0 + from)
    (64 * ((row + 1) * t.stride)) → AreOut t row from (64 * t.stride)
unfolding spot_of
out_row t row from clear j f l =
    let e : (row + 1) * t.stride ≡ row * t.stride + t.stride = omega arith in
    clear (spot_of t.stride row j) (omega (arith, f)) (omega (arith, e, l))

-- the bits of a meet, one after the other
early : (a b c : Bool) → (a ≡ true → b ≡ false) → (a && (b && c)) ≡ false
early true b c h = ap (λ x. x && c) (h refl)
early false b c h = refl

pub put_none : (t : TaskRows) (first : ℕ) (given : List (Option ResourceId)) (b : Bool) → AreAllPut t t first 0 given b
put_none t first given b r j rl jl =
    sym (ap (λ c. cond c b (is_in t r j))
    (early (nat_le first j) (nat_lt j (first + 0)) (nat_eq r (row_of (slice_index_or given (j - first) None)))
    (λ h. let l = leb-true first j h in le-ltb j (first + 0) (omega (arith, l)))))

and_true : (a : Bool) → (a && true) ≡ a
and_true true = refl
and_true false = refl

pub put_more : (t u v : TaskRows) (first k : ℕ) (given : List (Option ResourceId)) (b : Bool) → u.stride ≡ t.stride
    → AreAllPut t u first k given b
    → ArePut u v (row_of (slice_index_or given k None)) (first + k) b → AreAllPut t v first (k + 1) given b
put_more t u v first k given b e had put r j rl jl = put r j rl (omega (arith, e, jl)) ∙ at (cases_eq j (first + k))
  where
    row : ℕ
    row = row_of (slice_index_or given k None)

    mine : Bool
    mine = nat_eq r (row_of (slice_index_or given (j - first) None))

    at : (j ≡ first + k) ⊎ (j ≢ first + k) → cond (nat_eq r row && nat_eq j (first + k)) b (is_in u r j)
        ≡ cond (is_row_of first (k + 1) given r j) b (is_in t r j)
    at (inl q) =
        let same : j - first ≡ k = omega (arith, q) in
        let old : is_row_of first k given r j ≡ false =
        early (nat_le first j) (nat_lt j (first + k)) mine (λ h. le-ltb j (first + k) (omega (arith, q))) in
        let new : is_row_of first (k + 1) given r j ≡ nat_eq r row =
        λ i. le-leb first j (omega (arith, q)) i && (lt-ltb j (first + (k + 1)) (omega (arith, q)) i && nat_eq r
        (row_of (slice_index_or given (same i) None))) in
        (λ i. cond (nat_eq r row && eq-eqb j (first + k) q i) b
        ((had r j rl jl ∙ ap (λ c. cond c b (is_in t r j)) old) i))
        ∙ ap (λ c. cond c b (is_in t r j)) (and_true (nat_eq r row) ∙ sym new)
    at (inr d) =
        let a : nat_lt j (first + (k + 1)) ≡ nat_lt j (first + k) = elim (cases_lt j (first + k)) [
          | inl l ↦ lt-ltb j (first + (k + 1)) (omega (arith, l)) ∙ sym (lt-ltb j (first + k) l)
          | inr g ↦ elim (cases_lt (first + k) j) [
            | inl l ↦ le-ltb j (first + (k + 1)) (omega (arith, l)) ∙ sym (le-ltb j (first + k) g)
            | inr f ↦ absurd (d (omega (arith, g, f)))
          ]
        ] in
        ap (λ c. cond c b (is_in u r j)) (no_and (nat_eq r row) (nat_eq j (first + k)) (ne_eqb j (first + k) d))
        ∙ had r j rl jl
        ∙ ap (λ c. cond (nat_le first j && (c && mine)) b (is_in t r j)) (sym a)

-- rows without a bit
pub no_bits_marked : (n : ℕ) (marks : List ℕ) → AreMarked (replicate n 0) marks
no_bits_marked n marks m h = absurd (true-false (sym h ∙ is_set-zeros n m))
