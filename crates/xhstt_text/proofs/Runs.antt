-- What the machine does over some bytes in a row.
use Rattle.std.proofs.Common.{◌≡◌, ℕ, ◌+◌, Bool, true, false, eqb, List, [], ◌∷◌, ◌++◌, length, refl, ◌∙◌, ap, arith}
use Rattle.std.proofs.Common.{append-nil, append_assoc, add-zero}
use Rattle.std.proofs.lemmas.Bool.Decides.{nat_tests}
use Rattle.xhstt_text.specs.Bytes.{is_white, is_first, is_name, is_text, is_quoted, is_quote, AllAre, IsWhite, IsGap}
use Rattle.xhstt_text.specs.Bytes.{IsName}
use Rattle.xhstt_text.specs.Document.{has_name}
use Rattle.xhstt_text.specs.declared.tree.Attribute.{Attribute}
use Rattle.xhstt_text.specs.Machine.{reference, wide_1, in_quotes, Read, Tag, Phase, valued, in_tag, attribute_name}
use Rattle.xhstt_text.specs.Machine.{named, equals, in_value, Step, state, attribute_row, with_name, step, and_then}
use Rattle.xhstt_text.specs.Machine.{run}

pub by_step : (p : Phase) (r : Read) (at b : ℕ) (bs : List ℕ) (q : Phase) (s : Read) → step p r at b ≡ state q s
    → run p r at (b ∷ bs) ≡ run q s (at + 1) bs
by_step p r at b bs q s e = ap (λ (x : Step). and_then x (λ s. run s.phase s.read (at + 1) bs)) e

pub run_loop : (test : ℕ → Bool) (p : List ℕ → Phase) (r : Read)
    → ((done : List ℕ) (at b : ℕ) → test b ≡ true → step (p done) r at b ≡ state (p (done ++ b ∷ [])) r)
    → (w done : List ℕ) (at : ℕ) (rest : List ℕ) → AllAre test w
    → run (p done) r at (w ++ rest) ≡ run (p (done ++ w)) r (at + length w) rest
run_loop test p r go [] done at rest h = simp (append-nil, add-zero)
run_loop test p r go (b ∷ w) done at rest h =
    by_step (p done) r at b (w ++ rest) (p (done ++ b ∷ [])) r (go done at b h.0)
    ∙ run_loop test p r go w (done ++ b ∷ []) (at + 1) rest h.1
    ∙ ap (λ x. run (p x) r (at + 1 + length w) rest) (append_assoc done (b ∷ []) w)
    ∙ ap (λ n. run (p (done ++ b ∷ w)) r n rest) (omega arith)

pub name_from_first : (b : ℕ) → is_first b ≡ true → is_name b ≡ true
name_from_first b h = rw h refl

pub text_from_white : (b : ℕ) → is_white b ≡ true → is_text b ≡ true
text_from_white b h = rw h refl

pub white_isnt_first : (b : ℕ) → is_white b ≡ true → is_first b ≡ false
white_isnt_first b h = grind (arith, nat_tests)

pub white_isnt_name : (b : ℕ) → is_white b ≡ true → is_name b ≡ false
white_isnt_name b h = grind (arith, nat_tests)

pub white_isnt_colon : (b : ℕ) → is_white b ≡ true → eqb b 58 ≡ false
white_isnt_colon b h = grind (arith, nat_tests)

pub quote_isnt_white : (b : ℕ) → is_quote b ≡ true → is_white b ≡ false
quote_isnt_white b h = grind (arith, nat_tests)

pub text_isnt_tag : (b : ℕ) → is_text b ≡ true → eqb b 60 ≡ false
text_isnt_tag b h = grind (arith, nat_tests)

pub same_number : (b : ℕ) → eqb b b ≡ true
same_number b = grind (arith, nat_tests)

pub quote_isnt_quoted : (quote : ℕ) → is_quoted quote quote ≡ false
quote_isnt_quoted quote = grind (arith, nat_tests)

pub first_not_name : (b : ℕ) → is_name b ≡ false → is_first b ≡ false
first_not_name b h = grind (arith, nat_tests)

-- over white where the machine stays in its phase
pub run_white : (p : Phase) (r : Read) → ((at b : ℕ) → is_white b ≡ true → step p r at b ≡ state p r)
    → (w : List ℕ) (at : ℕ) (rest : List ℕ) → IsWhite w → run p r at (w ++ rest) ≡ run p r (at + length w) rest
run_white p r go w at rest h = run_loop is_white (λ _. p) r (λ _ at b q. go at b q) w [] at rest h

-- the white before an attribute
pub run_gap : (t : Tag) (r : Read) (w : List ℕ) (at : ℕ) (rest : List ℕ) → IsGap w
    → run (valued t) r at (w ++ rest) ≡ run (in_tag t) r (at + length w) rest
run_gap t r [] at rest h = absurd h
run_gap t r (b ∷ w) at rest h =
    by_step (valued t) r at b (w ++ rest) (in_tag t) r (rw (white_isnt_first b h.0, h.0) refl)
    ∙ run_white (in_tag t) r (λ at b q. rw (white_isnt_first b q, q) refl) w (at + 1) rest h.1
    ∙ ap (λ n. run (in_tag t) r n rest) (omega arith)

-- the name of an attribute
pub run_attribute_name : (t : Tag) (r : Read) (name : List ℕ) (at : ℕ) (rest : List ℕ) → IsName name
    → run (in_tag t) r at (name ++ rest) ≡ run (attribute_name t at name) r (at + length name) rest
run_attribute_name t r [] at rest h = absurd h
run_attribute_name t r (b ∷ w) at rest h =
    by_step (in_tag t) r at b (w ++ rest) (attribute_name t at (b ∷ [])) r (rw h.0 refl)
    ∙ run_loop is_name (attribute_name t at) r (λ done i c q. rw q refl) w (b ∷ []) (at + 1) rest h.1
    ∙ ap (λ n. run (attribute_name t at (b ∷ w)) r n rest) (omega arith)

-- from the end of that name over `=`
pub run_equals : (t : Tag) (place : ℕ) (name : List ℕ) (r : Read) (w : List ℕ) (at : ℕ) (rest : List ℕ)
    → has_name name t.names ≡ false → IsWhite w → run (attribute_name t place name) r at (w ++ (61 ∷ rest))
    ≡ run (equals t place name) r (at + length w + 1) rest
run_equals t place name r [] at rest new h =
    by_step (attribute_name t place name) r at 61 rest (equals t place name) r (rw new refl)
    ∙ ap (λ n. run (equals t place name) r n rest) (omega arith)
run_equals t place name r (b ∷ w) at rest new h =
    by_step (attribute_name t place name) r at b (w ++ (61 ∷ rest)) (named t place name) r
    (rw (white_isnt_name b h.0, new, white_isnt_colon b h.0, h.0) refl)
    ∙ run_white (named t place name) r (λ at b q. rw q refl) w (at + 1) (61 ∷ rest) h.1
    ∙ by_step (named t place name) r (at + 1 + length w) 61 rest (equals t place name) r refl
    ∙ ap (λ n. run (equals t place name) r n rest) (omega arith)

-- from `=` over the first quote
pub run_quote : (t : Tag) (place : ℕ) (name : List ℕ) (r : Read) (w : List ℕ) (quote at : ℕ) (rest : List ℕ) → IsWhite w
    → is_quote quote ≡ true → run (equals t place name) r at (w ++ (quote ∷ rest))
    ≡ run (in_value t place name quote (at + length w + 1)) r (at + length w + 1) rest
run_quote t place name r w quote at rest h q =
    run_white (equals t place name) r (λ at b e. rw e refl) w at (quote ∷ rest) h
    ∙ by_step (equals t place name) r (at + length w) quote rest (in_value t place name quote (at + length w + 1)) r
    (rw (quote_isnt_white quote q, q) refl)

abbrev pub with_attribute : Read → Attribute → Read
with_attribute r a = record r { attributes = r.attributes ++ a ∷ [] }

reference_isnt_quote : (quote : ℕ) → is_quote quote ≡ true → eqb 38 quote ≡ false
reference_isnt_quote quote h = grind (arith, nat_tests)

wide_isnt_quote : (quote : ℕ) → is_quote quote ≡ true → eqb 239 quote ≡ false
wide_isnt_quote quote h = grind (arith, nat_tests)

pub value_38 : (t : Tag) (place : ℕ) (name : List ℕ) (quote from : ℕ) (r : Read) (at : ℕ) → is_quote quote ≡ true
    → step (in_value t place name quote from) r at 38 ≡ state (reference at (in_quotes t place name quote from)) r
value_38 t place name quote from r at h = rw (reference_isnt_quote quote h) refl

pub value_239 : (t : Tag) (place : ℕ) (name : List ℕ) (quote from : ℕ) (r : Read) (at : ℕ) → is_quote quote ≡ true
    → step (in_value t place name quote from) r at 239 ≡ state (wide_1 (in_quotes t place name quote from)) r
value_239 t place name quote from r at h = rw (wide_isnt_quote quote h) refl

-- over the last quote of a value
pub run_last_quote : (t : Tag) (place : ℕ) (name : List ℕ) (r : Read) (quote from at : ℕ) (rest : List ℕ)
    → run (in_value t place name quote from) r at (quote ∷ rest)
    ≡ run (valued (with_name t name)) (with_attribute r (attribute_row place name from at)) (at + 1) rest
run_last_quote t place name r quote from at rest =
    by_step (in_value t place name quote from) r at quote rest (valued (with_name t name))
    (with_attribute r (attribute_row place name from at)) (rw (quote_isnt_quoted quote, same_number quote) refl)
