-- The lines after an archive are comments, and so the bytes are read as the archive alone.
use Rattle.std.proofs.Common.{ℕ, zero, suc, ◌/◌, ◌%◌, ◌<◌, ◌≡◌, Bool, true, false, not, ◌&&◌, ◌||◌, List, [], ◌∷◌}
use Rattle.std.proofs.Common.{◌++◌, refl, sym, ap, subst, ◌∙◌, arith, append_assoc, mod-lt, encode_utf8_all, eqb, lit<}
use Rattle.std.proofs.Common.{if◌then◌else◌}
use Rattle.std.specs.Prelude.{codes, decimal, nat_lt, ◌==◌}
use Rattle.std.specs.Fmt.{digit_glyph, digits_onto, digits}
use Rattle.std.specs.List.{list_all}
use Rattle.std.specs.Str.{IsAscii}
use Rattle.std.proofs.lemmas.Bool.{and_parts, ltb-true, not-true}
use Rattle.std.proofs.lemmas.Bool.Decides.{nat_tests}
use Rattle.std.proofs.lemmas.Str.{IsUtf8-from_ascii, encodes-IsAscii}
use Rattle.ejection_repair.specs.declared.outcome.Outcome.{Outcome}
use Rattle.ejection_repair.specs.declared.outcome.Outcome.TheVariants.{Done, Spent}
use Rattle.khe_base.specs.declared.sums.Totals.{Totals}
use Rattle.khe_instance.specs.declared.parts.Parts.{Parts}
use Rattle.parallel_repair.specs.declared.answers.Solved.{Solved}
use Rattle.repair_run.specs.Lines.{count_words, outcome_words}
use Rattle.repair_run.specs.Placed.{respelled}
use Rattle.repair_run.specs.Repairs.{repair_bytes}
use Rattle.repair_run.specs.Solves.{solve_bytes}
use Rattle.repair_run.specs.declared.mending.Mended.{Mended}
use Rattle.xhstt_shape.specs.WellFormed.{IsWellFormed}
use Rattle.xhstt_shape.specs.declared.records.Archive.{Archive}
use Rattle.xhstt_text.specs.Bytes.{AllAre}
use Rattle.xhstt_text.specs.Document.{Spelled}
use Rattle.xhstt_text.specs.Endings.{begins_with_hyphen, comment_line, has_two_hyphens}
use Rattle.xhstt_text.proofs.EndingLaws.{ends_in_comment}
use Rattle.xhstt_writer.specs.Archives.{IsReadAs, canonical}
use Rattle.xhstt_writer.proofs.Written.{canonical_spells}

-- a character of ASCII, and one that is no hyphen
abbrev is_low : ℕ → Bool
is_low b = nat_lt b 128

abbrev is_said : ℕ → Bool
is_said b = nat_lt b 128 && not (b == 45)

word_said : (bs : List ℕ) → list_all is_said bs ≡ true → AllAre is_said bs
word_said [] h = tt
word_said (b ∷ bs) h = let p = and_parts (is_said b) (list_all is_said bs) h in (p.0, word_said bs p.1)

all_both : (test : ℕ → Bool) (xs ys : List ℕ) → AllAre test xs → AllAre test ys → AllAre test (xs ++ ys)
all_both test [] ys h k = k
all_both test (x ∷ xs) ys h k = (h.0, all_both test xs ys h.1 k)

said_low : (bs : List ℕ) → AllAre is_said bs → AllAre is_low bs
said_low [] h = tt
said_low (b ∷ bs) h = ((and_parts (nat_lt b 128) (not (b == 45)) h.0).0, said_low bs h.1)

low_ascii : (bs : List ℕ) → AllAre is_low bs → IsAscii bs
low_ascii [] h i = lit< tt
low_ascii (b ∷ bs) h zero = ltb-true b 128 h.0
low_ascii (b ∷ bs) h (suc i) = low_ascii bs h.1 i

said_single : (bs : List ℕ) → AllAre is_said bs → has_two_hyphens bs ≡ false
said_single [] h = refl
said_single (b ∷ bs) h =
    ap (λ x. (x && begins_with_hyphen bs) || has_two_hyphens bs)
    (not-true (eqb b 45) (and_parts (nat_lt b 128) (not (b == 45)) h.0).1) ∙ said_single bs h.1

-- numbers
glyph_said : (d : ℕ) → d < 10 → is_said (digit_glyph false d) ≡ true
glyph_said d l = grind (arith, nat_tests)

digits_said : (k n : ℕ) (acc : List ℕ) → AllAre is_said acc → AllAre is_said (digits_onto k 10 false n acc)
digits_said zero n acc h = h
digits_said (suc k) n acc h =
    let below_ten : n % 10 < 10 = mod-lt n (omega arith) in
    let more : AllAre is_said (digit_glyph false (n % 10) ∷ acc) = (glyph_said (n % 10) below_ten, h) in
    by (n / 10 == 0) more (digits_said k (n / 10) (digit_glyph false (n % 10) ∷ acc) more)
  where
    by : (b : Bool) → AllAre is_said (digit_glyph false (n % 10) ∷ acc)
        → AllAre is_said (digits_onto k 10 false (n / 10) (digit_glyph false (n % 10) ∷ acc))
        → AllAre is_said (if b then digit_glyph false (n % 10) ∷ acc
        else digits_onto k 10 false (n / 10) (digit_glyph false (n % 10) ∷ acc))
    by true x y = x
    by false x y = y

decimal_said : (n : ℕ) → AllAre is_said (decimal n)
unfolding digits
decimal_said n = digits_said 64 n [] tt

-- a word, and a number after it
number_said : (before word : List ℕ) (n : ℕ) → AllAre is_said before → list_all is_said word ≡ true
    → AllAre is_said (before ++ word ++ decimal n)
number_said before word n h w =
    all_both is_said (before ++ word) (decimal n) (all_both is_said before word h (word_said word w)) (decimal_said n)

-- bytes that are read as an archive, and then a comment without hyphens on a line
with_comment : (bytes inner : List ℕ) (a : Archive) → IsReadAs bytes a → AllAre is_said inner
    → IsReadAs (bytes ++ encode_utf8_all (comment_line inner)) a
with_comment bytes inner a is said =
    let low : AllAre is_low (comment_line inner) = (
      refl,
      (
        refl,
        (
          refl,
          (
            refl,
            all_both is_low inner (45 ∷ 45 ∷ 62 ∷ 10 ∷ []) (said_low inner said)
                (refl, (refl, (refl, (refl, tt)))),
          ),
        ),
      ),
    ) in
    let same : encode_utf8_all (comment_line inner) ≡ comment_line inner =
    encodes-IsAscii (comment_line inner) (low_ascii (comment_line inner) low) in
    let own : Spelled (bytes ++ comment_line inner) is.0 =
    (ends_in_comment bytes is.0 inner is.2 (IsUtf8-from_ascii inner (low_ascii inner (said_low inner said)))
    (said_single inner said)).0 in
    (is.0, is.1, subst (λ x. Spelled (bytes ++ x) is.0) (sym same) own, is.3, is.4)

-- the words of a line
counts_said : (before : List ℕ) (accepted tried : ℕ) → AllAre is_said before
    → AllAre is_said (before ++ count_words accepted tried)
counts_said before accepted tried h =
    all_both is_said before (count_words accepted tried) h
    (number_said (codes " accepted " ++ decimal accepted) (codes " tried ") tried
    (all_both is_said (codes " accepted ") (decimal accepted) (word_said (codes " accepted ") refl)
    (decimal_said accepted)) refl)

outcome_said : (o : Outcome) → AllAre is_said (outcome_words o)
outcome_said (Done accepted tried) = counts_said (codes "done") accepted tried (word_said (codes "done") refl)
outcome_said (Spent accepted tried settled) =
    number_said (codes "spent" ++ count_words accepted tried) (codes " settled ") settled
    (counts_said (codes "spent") accepted tried (word_said (codes "spent") refl)) refl

abbrev costs : Totals → List ℕ
costs t = codes " hard " ++ decimal t.hard ++ codes " soft " ++ decimal t.soft

costs_said : (t : Totals) → AllAre is_said (costs t ++ (32 ∷ []))
costs_said t =
    all_both is_said (costs t) (32 ∷ [])
    (number_said (codes " hard " ++ decimal t.hard) (codes " soft ") t.soft
    (all_both is_said (codes " hard ") (decimal t.hard) (word_said (codes " hard ") refl) (decimal_said t.hard)) refl)
    (refl, tt)

line_same : (xs ts : List ℕ)
    → comment_line (xs ++ (ts ++ (32 ∷ []))) ≡ 60 ∷ 33 ∷ 45 ∷ 45 ∷ (xs ++ (ts ++ (32 ∷ 45 ∷ 45 ∷ 62 ∷ 10 ∷ [])))
line_same xs ts = ap (λ x. 60 ∷ 33 ∷ 45 ∷ 45 ∷ x)
    (append_assoc xs (ts ++ (32 ∷ [])) (45 ∷ 45 ∷ 62 ∷ 10 ∷ [])
    ∙ ap (λ x. xs ++ x) (append_assoc ts (32 ∷ []) (45 ∷ 45 ∷ 62 ∷ 10 ∷ [])))

pub repair_read : (a : Archive) (number : ℕ) (p : Parts) (m : Mended) → IsWellFormed (respelled a number p m.plain)
    → IsReadAs (repair_bytes a number p m) (respelled a number p m.plain)
repair_read a number p m w =
    let b : Archive = respelled a number p m.plain in
    let xs : List ℕ = codes " khe repair " ++ outcome_words m.outcome in
    let said = all_both is_said xs (costs m.totals ++ (32 ∷ []))
    (all_both is_said (codes " khe repair ") (outcome_words m.outcome) (word_said (codes " khe repair ") refl)
    (outcome_said m.outcome)) (costs_said m.totals) in
    subst (λ x. IsReadAs (canonical b ++ encode_utf8_all x) b) (line_same xs (costs m.totals))
    (with_comment (canonical b) (xs ++ (costs m.totals ++ (32 ∷ []))) b (canonical_spells b w) said)

pub solve_read : (a : Archive) (number : ℕ) (p : Parts) (s : Solved) → IsWellFormed (respelled a number p s.plain)
    → IsReadAs (solve_bytes a number p s) (respelled a number p s.plain)
solve_read a number p s w =
    let b : Archive = respelled a number p s.plain in
    let xs : List ℕ = codes " khe solve job " ++ decimal s.job in
    let said = all_both is_said xs (costs s.totals ++ (32 ∷ []))
    (all_both is_said (codes " khe solve job ") (decimal s.job) (word_said (codes " khe solve job ") refl)
    (decimal_said s.job)) (costs_said s.totals) in
    subst (λ x. IsReadAs (canonical b ++ encode_utf8_all x) b) (line_same xs (costs s.totals))
    (with_comment (canonical b) (xs ++ (costs s.totals ++ (32 ∷ []))) b (canonical_spells b w) said)
