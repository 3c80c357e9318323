-- The line of a task is ASCII, and its pieces may be put together from its end on.
use Rattle.std.proofs.Common.{◌≡◌, ◌∙◌, refl, sym, ap, ℕ, suc, zero, ◌<◌, ◌^◌, ◌&&◌, true, List, [], ◌∷◌}
use Rattle.std.proofs.Common.{◌++◌, codes, arith, append_assoc, lit<}
use Rattle.std.specs.Fmt.{decimal}
use Rattle.std.specs.Str.{IsAscii}
use Rattle.std.proofs.lemmas.Bool.{lt-ltb}
use Rattle.std.proofs.lemmas.Fmt.{IsAscii-decimal}
use Rattle.std.proofs.lemmas.List.Elements.{All-from_recursion}
use Rattle.std.proofs.lemmas.Str.{IsAscii-append}
use Rattle.std.proofs.lemmas.Str.Ascii.{IsAscii-cons, IsAscii-nil, IsAscii-from_all}
use Rattle.khe_base.specs.Text.{is_ascii}

-- each byte that is below 128 passes the test
is_ascii-from : (bs : List ℕ) → IsAscii bs → is_ascii bs ≡ true
is_ascii-from [] h = refl
is_ascii-from (b ∷ bs) h = ap (λ x. x && is_ascii bs) (lt-ltb b 128 (h zero)) ∙ is_ascii-from bs (λ i. h (suc i))

word-ascii : IsAscii (codes "demand ")
word-ascii =
    IsAscii-from_all (codes "demand ") (All-from_recursion (λ b. b < 128) (codes "demand ")
    (lit< tt, (lit< tt, (lit< tt, (lit< tt, (lit< tt, (lit< tt, (lit< tt, tt))))))))

-- what a byte of ASCII is added to, and what a number is added to, stays ASCII
byte-ascii : (xs : List ℕ) (b : ℕ) → IsAscii xs → b < 128 → IsAscii (xs ++ b ∷ [])
byte-ascii xs b h low = IsAscii-append xs (b ∷ []) h (IsAscii-cons b [] low IsAscii-nil)

number-ascii : (xs : List ℕ) (n : ℕ) → IsAscii xs → n < 2 ^ 32 → IsAscii (xs ++ decimal n)
number-ascii xs n h fits = IsAscii-append xs (decimal n) h (IsAscii-decimal n (omega arith))

abbrev line : ℕ → ℕ → ℕ → List ℕ
line m k o = codes "demand " ++ decimal m ++ codes " " ++ decimal k ++ codes " " ++ decimal o ++ codes "\n"

pub task-ascii : (m k o : ℕ) → m < 2 ^ 32 → k < 2 ^ 32 → o < 2 ^ 32 → IsAscii (line m k o)
task-ascii m k o fm fk fo =
    let meet = codes "demand " ++ decimal m in
    let place = meet ++ codes " " ++ decimal k in
    let first = number-ascii (codes "demand ") m word-ascii fm in
    let second = number-ascii (meet ++ codes " ") k (byte-ascii meet 32 first (lit< tt)) fk in
    let third = number-ascii (place ++ codes " ") o (byte-ascii place 32 second (lit< tt)) fo in
    byte-ascii (place ++ codes " " ++ decimal o) 10 third (lit< tt)

pub task-is_ascii : (m k o : ℕ) → m < 2 ^ 32 → k < 2 ^ 32 → o < 2 ^ 32 → is_ascii (line m k o) ≡ true
task-is_ascii m k o fm fk fo = is_ascii-from (line m k o) (task-ascii m k o fm fk fo)

-- pieces put in front of each other are the same as pieces added one after the other
pub pieces : (w a s b c e : List ℕ) → w ++ (a ++ (s ++ (b ++ (s ++ (c ++ e))))) ≡ w ++ a ++ s ++ b ++ s ++ c ++ e
pieces w a s b c e =
    sym (append_assoc w a (s ++ (b ++ (s ++ (c ++ e))))) ∙ sym (append_assoc (w ++ a) s (b ++ (s ++ (c ++ e))))
    ∙ sym (append_assoc (w ++ a ++ s) b (s ++ (c ++ e))) ∙ sym (append_assoc (w ++ a ++ s ++ b) s (c ++ e))
    ∙ sym (append_assoc (w ++ a ++ s ++ b ++ s) c e)
