-- Comments, and words that are not supported, as the machine takes them.
use Rattle.std.proofs.Common.{◌≡◌, ℕ, ◌+◌, ◌<◌, ◌≤◌, Bool, true, false, cond, ◌&&◌, ◌||◌, leb, eqb, get_or, drop, []}
use Rattle.std.proofs.Common.{List, ◌∷◌, ◌++◌, length, map, Err, refl, sym, ◌∙◌, ap, subst, arith}
use Rattle.std.proofs.lemmas.Bool.Decides.{nat_tests}
use Rattle.xhstt_text.specs.declared.faults.TextFault.{TextFault}
use Rattle.std.specs.List.{starts_with}
use Rattle.std.specs.Prelude.{nat_eq}
use Rattle.std.proofs.lemmas.List.{reverse-append}
use Rattle.xhstt_text.specs.Faults.{bad_markup, unsupported}
use Rattle.xhstt_text.specs.declared.table.OpenElement.{OpenElement}
use Rattle.xhstt_text.specs.Bytes.{dashes}
use Rattle.xhstt_text.specs.Machine.{Read, Region, phase_of, bang, bang_dash, other_word, in_comment, refused, state}
use Rattle.xhstt_text.specs.Machine.{and_then, run, Outcome}
use Rattle.xhstt_text.specs.Reading.{other_markup, begins_comment, NoOtherTag, begins, is_byte, frames_of, frame_of}
use Rattle.xhstt_text.proofs.Follow.{one, refuses}

-- where no comment begins
comment_is : (bs rest : List ℕ) → bs ≡ 60 ∷ rest → begins_comment bs ≡ begins (is_byte 33) rest
comment_is bs rest e = ap begins_comment e

pub no_other_tag : (stack : List OpenElement) (bs rest : List ℕ) → stack ≡ [] → bs ≡ 60 ∷ rest
    → begins_comment bs ≡ false → NoOtherTag (frames_of stack) rest
no_other_tag stack bs rest e d h = subst (λ (x : List OpenElement). NoOtherTag (frames_of x) rest) (sym e)
    (sym (comment_is bs rest d) ∙ h)

pub no_comment : (bs : List ℕ) → begins (is_byte 60) bs ≡ false → begins_comment bs ≡ false
no_comment [] e = refl
no_comment (b ∷ bs) e = rw e refl

pub no_comment_tag : (bs rest : List ℕ) → bs ≡ 60 ∷ rest → begins (is_byte 33) rest ≡ false → begins_comment bs ≡ false
no_comment_tag bs rest e h = comment_is bs rest e ∙ h

-- comments
no_dash_at : (place : Region) (r : Read) (at : ℕ) (bs : List ℕ) → begins (is_byte 45) bs ≡ false
    → run (bang_dash place) r at bs ≡ Err (bad_markup at)
no_dash_at place r at [] e = refl
no_dash_at place r at (b ∷ bs) e = refuses (bang_dash place) r at b bs (rw e refl)

pub no_second_dash : (front : ℕ) (place : Region) (r : Read) (at : ℕ) (bs : List ℕ) (at1 : ℕ) (bs1 : List ℕ)
    → (bs ≡ 45 ∷ bs1) × (at1 ≡ at + 1) → begins (is_byte 45) bs1 ≡ false
    → run (bang front place) r at bs ≡ Err (bad_markup at1)
no_second_dash front place r at bs at1 bs1 h e =
    one (bang front place) r at bs 45 at1 bs1 (bang_dash place) r h.0 h.1 refl ∙ no_dash_at place r at1 bs1 e

pub over_dashes : (front : ℕ) (place : Region) (r : Read) (at : ℕ) (bs : List ℕ) (at1 : ℕ) (bs1 : List ℕ) (at2 : ℕ)
    (bs2 : List ℕ) → (bs ≡ 45 ∷ bs1) × (at1 ≡ at + 1) → (bs1 ≡ 45 ∷ bs2) × (at2 ≡ at1 + 1)
    → run (bang front place) r at bs ≡ run (in_comment place 0) r at2 bs2
over_dashes front place r at bs at1 bs1 at2 bs2 h k =
    one (bang front place) r at bs 45 at1 bs1 (bang_dash place) r h.0 h.1 refl
    ∙ one (bang_dash place) r at1 bs1 45 at2 bs2 (in_comment place 0) r k.0 k.1 refl

-- a word that is not supported, and what may stand in its place
abbrev failed : TextFault → Outcome
failed f = Err f

or_false : (v : Bool) → v ≡ (v || false)
or_false true = refl
or_false false = refl

both_letters : (a b c d x y : Bool) → a ≡ b → c ≡ d → ((a && x) || (c && y)) ≡ ((b && x) || (d && y))
both_letters a b c d x y e h = cc

same_letter : (b k : ℕ) → nat_eq k b ≡ eqb b k
same_letter b k = grind (arith, nat_tests)

word_goes_on : (front first k b : ℕ) (ks : List ℕ) (r : Read) (at : ℕ) (bs : List ℕ) (v : Bool) → eqb b k ≡ v
    → run (other_word front first ks) r (at + 1) bs
    ≡ Err (cond (starts_with nat_eq bs ks) (unsupported front) (bad_markup first))
    → and_then (cond v (state (other_word front first ks) r) (refused (bad_markup first)))
    (λ s. run s.phase s.read (at + 1) bs) ≡ Err (cond (v && starts_with nat_eq bs ks) (unsupported front)
    (bad_markup first))
word_goes_on front first k b ks r at bs true e h = h
word_goes_on front first k b ks r at bs false e h = refl

word_is : (front first : ℕ) (ks : List ℕ) (r : Read) (at : ℕ) (bs : List ℕ)
    → run (other_word front first ks) r at bs ≡ Err
    (cond (starts_with nat_eq bs ks) (unsupported front) (bad_markup first))
word_is front first [] r at [] = refl
word_is front first [] r at (b ∷ bs) = refl
word_is front first (k ∷ ks) r at [] = refl
word_is front first (k ∷ ks) r at (b ∷ bs) =
    word_goes_on front first k b ks r at bs (eqb b k) refl (word_is front first ks r (at + 1) bs)
    ∙ ap (λ v. failed (cond (v && starts_with nat_eq bs ks) (unsupported front) (bad_markup first)))
    (sym (same_letter b k))

either : (v w : Bool) (ks ls : List ℕ) (front : ℕ) (r : Read) (at : ℕ) (bs : List ℕ) → (v && w) ≡ false
    → and_then (cond v (state (other_word front at ks) r)
    (cond w (state (other_word front at ls) r) (refused (bad_markup at)))) (λ s. run s.phase s.read (at + 1) bs)
    ≡ Err (cond ((v && starts_with nat_eq bs ks) || (w && starts_with nat_eq bs ls)) (unsupported front)
    (bad_markup at))
either true true ks ls front r at bs e = cc
either true false ks ls front r at bs e =
    word_is front at ks r (at + 1) bs ∙ ap (λ v. failed (cond v (unsupported front) (bad_markup at)))
    (or_false (starts_with nat_eq bs ks))
either false true ks ls front r at bs e = word_is front at ls r (at + 1) bs
either false false ks ls front r at bs e = refl

pub no_dash : (front : ℕ) (place : Region) (r : Read) (at : ℕ) (bs : List ℕ) → begins (is_byte 45) bs ≡ false
    → run (bang front place) r at bs ≡ Err (other_markup front at bs)
no_dash front place r at [] e = refl
no_dash front place r at (b ∷ bs) e =
    let apart : (eqb b 68 && eqb b 91) ≡ false = grind (arith, nat_tests) in
    let ks : List ℕ = 79 ∷ 67 ∷ 84 ∷ 89 ∷ 80 ∷ 69 ∷ [] in
    let ls : List ℕ = 67 ∷ 68 ∷ 65 ∷ 84 ∷ 65 ∷ 91 ∷ [] in
    rw e (
    either (eqb b 68) (eqb b 91) ks ls front r at bs apart
    ∙ ap (λ v. failed (cond v (unsupported front) (bad_markup at)))
    (both_letters (eqb b 68) (nat_eq 68 b) (eqb b 91) (nat_eq 91 b) (starts_with nat_eq bs ks)
    (starts_with nat_eq bs ls) (sym (same_letter b 68)) (sym (same_letter b 91))))

pub first_of : (bs : List ℕ) → 0 < length bs → bs ≡ get_or bs 0 0 ∷ drop 1 bs
first_of [] h = absurd (omega arith)
first_of (b ∷ bs) h = refl

pub comment_closes : (place : Region) (r : Read) (count b at : ℕ) (bs : List ℕ) (at1 : ℕ) (bs1 : List ℕ) → 0 < length bs
    → b ≡ get_or bs 0 0 → at1 ≡ at + 1 → bs1 ≡ drop 1 bs → 2 ≤ count → b ≡ 62
    → run (in_comment place count) r at bs ≡ run (phase_of place) r at1 bs1
comment_closes place r count b at bs at1 bs1 n f d e least is =
    let l : leb 2 count ≡ true = grind (arith, nat_tests) in
    one (in_comment place count) r at bs 62 at1 bs1 (phase_of place) r
    (first_of bs n ∙ ap (λ x. x ∷ drop 1 bs) (sym f ∙ is) ∙ ap (λ x. 62 ∷ x) (sym e)) d (rw l refl)

pub comment_goes_on : (place : Region) (r : Read) (count b at : ℕ) (bs : List ℕ) (at1 : ℕ) (bs1 : List ℕ) → 0 < length bs
    → b ≡ get_or bs 0 0 → at1 ≡ at + 1 → bs1 ≡ drop 1 bs → (leb 2 count && eqb b 62) ≡ false
    → run (in_comment place count) r at bs ≡ run (in_comment place (dashes count b)) r at1 bs1
comment_goes_on place r count b at bs at1 bs1 n f d e isnt =
    one (in_comment place count) r at bs b at1 bs1 (in_comment place (dashes count b)) r
    (first_of bs n ∙ ap (λ x. x ∷ drop 1 bs) (sym f) ∙ ap (λ x. b ∷ x) (sym e)) d (rw isnt refl)

pub frames_push : (stack new : List OpenElement) (e : OpenElement) → new ≡ stack ++ e ∷ []
    → frames_of new ≡ frame_of e ∷ frames_of stack
frames_push stack new e h = ap frames_of h ∙ ap (map frame_of) (reverse-append stack (e ∷ []))
