-- The lines after an archive are comments, and so the bytes are read as the archive alone.
use Rattle.std.proofs.Common.{ℕ, zero, suc, ◌/◌, ◌%◌, ◌<◌, ◌≡◌, ◌∙◌, Bool, true, false, not, ◌&&◌, ◌||◌}
use Rattle.std.proofs.Common.{Option, Some, None}
use Rattle.std.proofs.Common.{List, [], ◌∷◌, ◌++◌, refl, sym, ap, subst, arith, append_assoc, mod-lt, encode_utf8_all}
use Rattle.std.proofs.Common.{eqb, lit<, if◌then◌else◌, length, ℤ, pos, negsuc}
use Rattle.std.specs.Prelude.{codes, decimal, nat_lt, slice_index_or, ◌==◌}
use Rattle.std.specs.Fmt.{digit_glyph, digits, digits_onto, signed_decimal}
use Rattle.std.specs.List.{list_all}
use Rattle.std.specs.Str.{IsAscii}
use Rattle.std.proofs.lemmas.Bool.{and_parts, ltb-true, not-true}
use Rattle.std.proofs.lemmas.Bool.Decides.{nat_tests}
use Rattle.std.proofs.lemmas.List.{append-nil}
use Rattle.std.proofs.lemmas.Str.{IsUtf8-from_ascii, encodes-IsAscii, encodes-append}
use Rattle.khe_base.specs.declared.numbers.ResourceId.{ResourceId}
use Rattle.khe_base.specs.declared.numbers.TaskId.{TaskId}
use Rattle.khe_base.specs.declared.sums.Totals.{Totals}
use Rattle.resource_match.specs.declared.prices.Price.{Price}
use Rattle.time_match.specs.Costs.{no_resource}
use Rattle.time_match.specs.declared.outcomes.Matched.{Matched}
use Rattle.match_run.specs.Lines.{choice_words, given_words, is_nothing, last_line, match_lines, number_words}
use Rattle.match_run.specs.Lines.{resource_line, resource_lines, taken_words, task_line, task_lines, totals_words}
use Rattle.xhstt_shape.specs.declared.records.Archive.{Archive}
use Rattle.xhstt_text.specs.Bytes.{AllAre}
use Rattle.xhstt_text.specs.Document.{Spelled}
use Rattle.xhstt_text.specs.Endings.{begins_with_hyphen, comment_line, has_two_hyphens}
use Rattle.xhstt_text.proofs.EndingLaws.{ends_in_comment}
use Rattle.xhstt_writer.specs.Archives.{IsReadAs}

-- a character of ASCII, and one that is no hyphen
abbrev is_low : ℕ → Bool
is_low b = nat_lt b 128

abbrev is_said : ℕ → Bool
is_said b = nat_lt b 128 && not (b == 45)

-- text of a comment, and one that does not begin with a hyphen
record IsInner (bs : List ℕ) : Type 0 where
  low : AllAre is_low bs
  single : has_two_hyphens bs ≡ false

record IsCalm (bs : List ℕ) : Type 0 where
  inner : IsInner bs
  begins : begins_with_hyphen bs ≡ false

-- what leaves it so, whatever comes after
abbrev Leads : List ℕ → Type 0
Leads xs = (ys : List ℕ) → IsCalm ys → IsCalm (xs ++ ys)

abbrev Follows : List ℕ → Type 0
Follows xs = (ys : List ℕ) → IsCalm ys → IsInner (xs ++ ys)

calm_more : (b : ℕ) (bs : List ℕ) → is_said b ≡ true → IsInner bs → IsCalm (b ∷ bs)
calm_more b bs h is =
    let p = and_parts (nat_lt b 128) (not (b == 45)) h in
    let other : eqb b 45 ≡ false = not-true (eqb b 45) p.1 in
    record {
      inner = record {
        low = (p.0, is.low);
        single = ap (λ x. (x && begins_with_hyphen bs) || has_two_hyphens bs) other ∙ is.single;
      };
      begins = other;
    }

hyphen_more : (bs : List ℕ) → IsCalm bs → IsInner (45 ∷ bs)
hyphen_more bs is = record {
  low = (refl, is.inner.low);
  single = ap (λ x. x || has_two_hyphens bs) is.begins ∙ is.inner.single;
}

said_leads : (xs : List ℕ) → AllAre is_said xs → Leads xs
said_leads [] h ys is = is
said_leads (x ∷ xs) h ys is = calm_more x (xs ++ ys) h.0 (said_leads xs h.1 ys is).inner

word_said : (bs : List ℕ) → list_all is_said bs ≡ true → AllAre is_said bs
word_said [] h = tt
word_said (b ∷ bs) h = let p = and_parts (is_said b) (list_all is_said bs) h in (p.0, word_said bs p.1)

word_leads : (bs : List ℕ) → list_all is_said bs ≡ true → Leads bs
word_leads bs h = said_leads bs (word_said bs h)

both_lead : (xs ys : List ℕ) → Leads xs → Leads ys → Leads (xs ++ ys)
both_lead xs ys f g zs is = subst IsCalm (sym (append_assoc xs ys zs)) (f (ys ++ zs) (g zs is))

-- a word, and then what may begin with a hyphen
said_before : (x : ℕ) (xs : List ℕ) → AllAre is_said (x ∷ xs) → (ys : List ℕ) → IsInner ys → IsCalm ((x ∷ xs) ++ ys)
said_before x [] h ys is = calm_more x ys h.0 is
said_before x (y ∷ xs) h ys is = calm_more x ((y ∷ xs) ++ ys) h.0 (said_before y xs h.1 ys is).inner

then_leads : (x : ℕ) (xs ys : List ℕ) → list_all is_said (x ∷ xs) ≡ true → Follows ys → Leads ((x ∷ xs) ++ ys)
then_leads x xs ys h f zs is =
    subst IsCalm (sym (append_assoc (x ∷ xs) ys zs)) (said_before x xs (word_said (x ∷ xs) h) (ys ++ zs) (f zs is))

after_leads : (ws : List ℕ) (x : ℕ) (xs ys : List ℕ) → Leads ws → list_all is_said (x ∷ xs) ≡ true → Follows ys
    → Leads ((ws ++ (x ∷ xs)) ++ ys)
after_leads ws x xs ys l h f zs is =
    subst IsCalm (sym (append_assoc (ws ++ (x ∷ xs)) ys zs ∙ append_assoc ws (x ∷ xs) (ys ++ zs)))
    (l ((x ∷ xs) ++ (ys ++ zs)) (said_before x xs (word_said (x ∷ xs) h) (ys ++ zs) (f zs is)))

-- numbers
glyph_said : (d : ℕ) → d < 10 → is_said (digit_glyph false d) ≡ true
glyph_said d l = grind (arith, nat_tests)

digits_said : (k n : ℕ) (acc : List ℕ) → AllAre is_said acc → AllAre is_said (digits_onto k 10 false n acc)
digits_said zero n acc h = h
digits_said (suc k) n acc h =
    let below_ten : n % 10 < 10 = mod-lt n (omega arith) in
    let more : AllAre is_said (digit_glyph false (n % 10) ∷ acc) = (glyph_said (n % 10) below_ten, h) in
    by (n / 10 == 0) more (digits_said k (n / 10) (digit_glyph false (n % 10) ∷ acc) more)
  where
    by : (b : Bool) → AllAre is_said (digit_glyph false (n % 10) ∷ acc)
        → AllAre is_said (digits_onto k 10 false (n / 10) (digit_glyph false (n % 10) ∷ acc))
        → AllAre is_said (if b then digit_glyph false (n % 10) ∷ acc
        else digits_onto k 10 false (n / 10) (digit_glyph false (n % 10) ∷ acc))
    by true x y = x
    by false x y = y

decimal_leads : (n : ℕ) → Leads (decimal n)
unfolding digits
decimal_leads n = said_leads (digits 10 false n) (digits_said 64 n [] tt)

signed_follows : (n : ℤ) → Follows (signed_decimal n)
signed_follows (pos n) ys is = (decimal_leads n ys is).inner
signed_follows (negsuc n) ys is = hyphen_more (decimal (suc n) ++ ys) (decimal_leads (suc n) ys is)

choice_follows : (rs : List ResourceId) (c : Option ℕ) → Follows (choice_words rs c)
choice_follows rs None ys is = hyphen_more ys is
choice_follows rs (Some k) ys is = (decimal_leads (slice_index_or rs k no_resource).0 ys is).inner

-- the words of lines
abbrev price_body : Price → List ℕ
price_body p = codes " price " ++ signed_decimal p.hard ++ codes " " ++ signed_decimal p.soft

price_leads : (p : Price) → Leads (price_body p)
price_leads p = after_leads (codes " price " ++ signed_decimal p.hard) 32 [] (signed_decimal p.soft)
    (then_leads 32 (codes "price ") (signed_decimal p.hard) refl (signed_follows p.hard)) refl (signed_follows p.soft)

totals_lead : (t : Totals) → Leads (totals_words t)
totals_lead t =
    both_lead (codes " hard " ++ decimal t.hard ++ codes " soft ") (decimal t.soft)
    (both_lead (codes " hard " ++ decimal t.hard) (codes " soft ")
    (both_lead (codes " hard ") (decimal t.hard) (word_leads (codes " hard ") refl) (decimal_leads t.hard))
    (word_leads (codes " soft ") refl)) (decimal_leads t.soft)

taken_leads : (taken : Bool) → Leads (taken_words taken)
taken_leads true = word_leads (codes " taken") refl
taken_leads false = word_leads (codes " kept") refl

-- bytes that are read as an archive, and then a comment on a line
abbrev Adds : Archive → List ℕ → Type 0
Adds a line = (bytes : List ℕ) → IsReadAs bytes a → IsReadAs (bytes ++ encode_utf8_all line) a

low_ascii : (bs : List ℕ) → AllAre is_low bs → IsAscii bs
low_ascii [] h i = lit< tt
low_ascii (b ∷ bs) h zero = ltb-true b 128 h.0
low_ascii (b ∷ bs) h (suc i) = low_ascii bs h.1 i

all_both : (test : ℕ → Bool) (xs ys : List ℕ) → AllAre test xs → AllAre test ys → AllAre test (xs ++ ys)
all_both test [] ys h k = k
all_both test (x ∷ xs) ys h k = (h.0, all_both test xs ys h.1 k)

comment_adds : (a : Archive) (inner : List ℕ) → IsInner inner → Adds a (comment_line inner)
comment_adds a inner h bytes is =
    let low : AllAre is_low (comment_line inner) = (
      refl,
      (
        refl,
        (refl, (refl, all_both is_low inner (45 ∷ 45 ∷ 62 ∷ 10 ∷ []) h.low (refl, (refl, (refl, (refl, tt)))))),
      ),
    ) in
    let same : encode_utf8_all (comment_line inner) ≡ comment_line inner =
    encodes-IsAscii (comment_line inner) (low_ascii (comment_line inner) low) in
    let own : Spelled (bytes ++ comment_line inner) is.0 =
    (ends_in_comment bytes is.0 inner is.2 (IsUtf8-from_ascii inner (low_ascii inner h.low)) h.single).0 in
    (is.0, is.1, subst (λ x. Spelled (bytes ++ x) is.0) (sym same) own, is.3, is.4)

nothing_adds : (a : Archive) → Adds a []
nothing_adds a bytes is = subst (λ bs. IsReadAs bs a) (sym (append-nil bytes)) is

both_add : (a : Archive) (xs ys : List ℕ) → Adds a xs → Adds a ys → Adds a (xs ++ ys)
both_add a xs ys f g bytes is =
    subst (λ bs. IsReadAs bs a)
    (append_assoc bytes (encode_utf8_all xs) (encode_utf8_all ys) ∙ ap (λ z. bytes ++ z) (sym (encodes-append xs ys)))
    (g (bytes ++ encode_utf8_all xs) (f bytes is))

-- words in two parts, with a blank before the end of the comment
line_same : (xs ts : List ℕ)
    → comment_line (xs ++ (ts ++ (32 ∷ []))) ≡ 60 ∷ 33 ∷ 45 ∷ 45 ∷ (xs ++ (ts ++ (32 ∷ 45 ∷ 45 ∷ 62 ∷ 10 ∷ [])))
line_same xs ts = ap (λ x. 60 ∷ 33 ∷ 45 ∷ 45 ∷ x)
    (append_assoc xs (ts ++ (32 ∷ [])) (45 ∷ 45 ∷ 62 ∷ 10 ∷ [])
    ∙ ap (λ x. xs ++ x) (append_assoc ts (32 ∷ []) (45 ∷ 45 ∷ 62 ∷ 10 ∷ [])))

line_adds : (a : Archive) (xs ts : List ℕ) → Leads xs → Leads ts
    → Adds a (60 ∷ 33 ∷ 45 ∷ 45 ∷ (xs ++ (ts ++ (32 ∷ 45 ∷ 45 ∷ 62 ∷ 10 ∷ []))))
line_adds a xs ts f g =
    let blank : IsCalm (32 ∷ []) = record { inner = record { low = (refl, tt); single = refl }; begins = refl } in
    subst (Adds a) (line_same xs ts)
    (comment_adds a (xs ++ (ts ++ (32 ∷ []))) (f (ts ++ (32 ∷ [])) (g (32 ∷ []) blank)).inner)

-- each line
price_ends : (p : Price) (xs : List ℕ)
    → xs ++ (price_body p ++ codes " -->\n") ≡ xs ++ (price_body p ++ (32 ∷ 45 ∷ 45 ∷ 62 ∷ 10 ∷ []))
price_ends p xs = refl

task_adds : (a : Archive) (rs : List ResourceId) (t : TaskId) (c : Option ℕ) (p : Price)
    → Adds a (task_line rs t c p)
task_adds a rs t c p =
    let ts = codes " khe task " ++ number_words t in
    let gs = given_words rs c in
    line_adds a (ts ++ gs) (price_body p)
    (both_lead ts gs
    (both_lead (codes " khe task ") (number_words t) (word_leads (codes " khe task ") refl)
    (both_lead (decimal t.meet.0 ++ codes " ") (decimal t.place)
    (both_lead (decimal t.meet.0) (codes " ") (decimal_leads t.meet.0) (word_leads (codes " ") refl))
    (decimal_leads t.place)))
    (then_leads 32 (codes "resource ") (choice_words rs c) refl (choice_follows rs c)))
    (price_leads p)

tasks_add : (a : Archive) (rs : List ResourceId) (ts : List TaskId) (cs : List (Option ℕ)) (ps : List Price)
    → Adds a (task_lines rs ts cs ps)
unfolding task_lines
tasks_add a rs [] cs ps = nothing_adds a
tasks_add a rs (t ∷ ts) [] ps = nothing_adds a
tasks_add a rs (t ∷ ts) (c ∷ cs) [] = nothing_adds a
tasks_add a rs (t ∷ ts) (c ∷ cs) (p ∷ ps) =
    both_add a (task_line rs t c p) (task_lines rs ts cs ps) (task_adds a rs t c p) (tasks_add a rs ts cs ps)

resource_adds : (a : Archive) (r : ResourceId) (p : Price) → Adds a (resource_line r p)
resource_adds a r p = by (is_nothing p)
  where
    by : (b : Bool) → Adds a (if b then [] else codes "<!-- khe resource " ++ decimal r.0
        ++ (price_body p ++ codes " -->\n"))
    by true = nothing_adds a
    by false = line_adds a (codes " khe resource " ++ decimal r.0) (price_body p)
        (both_lead (codes " khe resource ") (decimal r.0) (word_leads (codes " khe resource ") refl)
        (decimal_leads r.0))
        (price_leads p)

resources_add : (a : Archive) (rs : List ResourceId) (ps : List Price) → Adds a (resource_lines rs ps)
unfolding resource_lines
resources_add a [] ps = nothing_adds a
resources_add a (r ∷ rs) [] = nothing_adds a
resources_add a (r ∷ rs) (p ∷ ps) =
    both_add a (resource_line r p) (resource_lines rs ps) (resource_adds a r p) (resources_add a rs ps)

last_adds : (a : Archive) (count : ℕ) (sum : Totals) (taken : Bool) (t : Totals) → Adds a (last_line count sum taken t)
last_adds a count sum taken t =
    let many = codes " khe match tasks " ++ decimal count in
    let sums = many ++ codes " sum" ++ totals_words sum in
    line_adds a (sums ++ taken_words taken ++ totals_words t) []
    (both_lead (sums ++ taken_words taken) (totals_words t)
    (both_lead sums (taken_words taken)
    (both_lead (many ++ codes " sum") (totals_words sum)
    (both_lead many (codes " sum")
    (both_lead (codes " khe match tasks ") (decimal count) (word_leads (codes " khe match tasks ") refl)
    (decimal_leads count)) (word_leads (codes " sum") refl)) (totals_lead sum)) (taken_leads taken)) (totals_lead t))
    (λ ys is. is)

-- all lines of a matching
pub lines_add : (a : Archive) (m : Matched) (t : Totals) (bytes : List ℕ) → IsReadAs bytes a
    → IsReadAs (bytes ++ encode_utf8_all (match_lines m t)) a
lines_add a m t =
    let tasks = task_lines m.resources m.tasks m.cheapest.chosen m.cheapest.task_prices in
    let resources = resource_lines m.resources m.cheapest.resource_prices in
    let last = last_line (length m.tasks) m.sum m.taken t in
    both_add a (tasks ++ resources) last
    (both_add a tasks resources (tasks_add a m.resources m.tasks m.cheapest.chosen m.cheapest.task_prices)
    (resources_add a m.resources m.cheapest.resource_prices))
    (last_adds a (length m.tasks) m.sum m.taken t)
