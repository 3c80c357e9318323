-- The same within tags, values, comments, references and the declaration.
use Rattle.std.proofs.Common.{◌≡◌, ℕ, zero, suc, ◌+◌, ◌<◌, Bool, true, false, cond, ◌&&◌, leb, List, [], ◌∷◌}
use Rattle.std.proofs.Common.{◌++◌, length, refl, ◌∙◌, ap, arith}
use Rattle.std.proofs.lemmas.Bool.Decides.{nat_tests}
use Rattle.std.proofs.lemmas.Bool.{false_from_ne_true}
use Rattle.std.proofs.lemmas.Slice.Eq.{bytes_eq-Decides}
use Rattle.std.specs.Str.{bytes_eq}
use Rattle.xhstt_text.specs.Bytes.{is_name, AllAre}
use Rattle.xhstt_text.specs.Document.{has_name}
use Rattle.xhstt_text.specs.Machine.{Within, in_text, in_quotes, after_piece, wide_1, wide_2, reference, reference_a}
use Rattle.xhstt_text.specs.Machine.{word, hash, hash_x, in_decimal, in_hexadecimal, beginning, mark_1}
use Rattle.xhstt_text.specs.Machine.{mark_2, at_declaration, declared_open, question, in_declaration, closed}
use Rattle.xhstt_text.specs.Machine.{Frame, Read, Tag, content, ended_open, Region, early}
use Rattle.xhstt_text.specs.Machine.{late, phase_of, bang, bang_dash, in_comment, opened, start_name, valued, in_tag}
use Rattle.xhstt_text.specs.Machine.{slash, attribute_name, named, equals, in_value}
use Rattle.xhstt_text.specs.Machine.{Step, state, resume, add_node, opened_row}
use Rattle.xhstt_text.specs.Machine.{attribute_row, with_name, start_of, step_opened}
use Rattle.xhstt_text.proofs.Runs.{run_loop, quote_isnt_quoted, same_number}
use Rattle.std.proofs.Common.{length-append}
use Rattle.text_fault_laws.proofs.Live.{Live, goes_on, AreNamed, live_ended, live_outside, live_content, live_resume}

-- where a comment stands
pub live_place : (p : Region) (r : Read) → AreNamed r.frames → Live (phase_of p) r
live_place early r h = live_content r.frames r refl h
live_place late r h = live_ended r

two_dashes : (count : ℕ) → leb 2 (suc (suc count)) ≡ true
two_dashes count = grind (arith, nat_tests)

pub over_dash : (c : Bool) (x y : Step) → cond (c && false) x y ≡ y
over_dash true x y = refl
over_dash false x y = refl

pub live_comment : (p : Region) (count : ℕ) (r : Read) → AreNamed r.frames → Live (in_comment p count) r
live_comment p count r h =
    goes_on (in_comment p count) r 45 (λ at. in_comment p (suc count)) (λ at. r) (λ at. over_dash (leb 2 count) _ _)
    (λ at. goes_on (in_comment p (suc count)) r 45 (λ i. in_comment p (suc (suc count))) (λ i. r)
    (λ i. over_dash (leb 2 (suc count)) _ _)
    (λ i. goes_on (in_comment p (suc (suc count))) r 62 (λ j. phase_of p) (λ j. r)
    (λ j. rw (two_dashes count) refl)
    (λ j. live_place p r h)))

pub live_bang_dash : (p : Region) (r : Read) → AreNamed r.frames → Live (bang_dash p) r
live_bang_dash p r h =
    goes_on (bang_dash p) r 45 (λ at. in_comment p 0) (λ at. r) (λ at. refl) (λ at. live_comment p 0 r h)

pub live_bang : (place : ℕ) (p : Region) (r : Read) → AreNamed r.frames → Live (bang place p) r
live_bang place p r h =
    goes_on (bang place p) r 45 (λ at. bang_dash p) (λ at. r) (λ at. refl) (λ at. live_bang_dash p r h)

pub live_ended_open : (place : ℕ) (r : Read) → AreNamed r.frames → Live (ended_open place) r
live_ended_open place r h =
    goes_on (ended_open place) r 33 (λ at. bang place late) (λ at. r) (λ at. refl) (λ at. live_bang place late r h)

pub opened_bang : (fs : List Frame) (place : ℕ) (r : Read) (at : ℕ)
    → step_opened fs place r at 33 ≡ state (bang place early) r
opened_bang [] place r at = refl
opened_bang (f ∷ fs) place r at = refl

pub live_opened : (place : ℕ) (r : Read) → AreNamed r.frames → Live (opened place) r
live_opened place r h =
    goes_on (opened place) r 33 (λ at. bang place early) (λ at. r) (λ at. opened_bang r.frames place r at)
    (λ at. live_bang place early r h)

-- in a start tag
pub live_slash : (t : Tag) (r : Read) → AreNamed r.frames → Live (slash t) r
live_slash t r h = goes_on (slash t) r 62 (λ at. resume r.frames) (λ at. add_node r (opened_row t r (at + 1)))
    (λ at. refl) (λ at. live_resume r.frames (add_node r (opened_row t r (at + 1))) refl h)

pub live_valued : (t : Tag) (r : Read) → AreNamed r.frames → Live (valued t) r
live_valued t r h = goes_on (valued t) r 47 (λ at. slash t) (λ at. r) (λ at. refl) (λ at. live_slash t r h)

pub live_in_tag : (t : Tag) (r : Read) → AreNamed r.frames → Live (in_tag t) r
live_in_tag t r h = goes_on (in_tag t) r 47 (λ at. slash t) (λ at. r) (λ at. refl) (λ at. live_slash t r h)

pub live_start_name : (place : ℕ) (name : List ℕ) (r : Read) → AreNamed r.frames → Live (start_name place name) r
live_start_name place name r h = goes_on (start_name place name) r 47 (λ at. slash (start_of place name r)) (λ at. r)
    (λ at. refl) (λ at. live_slash (start_of place name r) r h)

pub live_value : (t : Tag) (place : ℕ) (name : List ℕ) (quote from : ℕ) (r : Read) → AreNamed r.frames
    → Live (in_value t place name quote from) r
live_value t place name quote from r h =
    goes_on (in_value t place name quote from) r quote (λ at. valued (with_name t name))
    (λ at. record r { attributes = r.attributes ++ attribute_row place name from at ∷ [] })
    (λ at. rw (quote_isnt_quoted quote, same_number quote) refl)
    (λ at. live_valued (with_name t name)
    (record r { attributes = r.attributes ++ attribute_row place name from at ∷ [] }) h)

pub live_equals : (t : Tag) (place : ℕ) (name : List ℕ) (r : Read) → AreNamed r.frames → Live (equals t place name) r
live_equals t place name r h =
    goes_on (equals t place name) r 34 (λ at. in_value t place name 34 (at + 1)) (λ at. r) (λ at. refl)
    (λ at. live_value t place name 34 (at + 1) r h)

pub live_named : (t : Tag) (place : ℕ) (name : List ℕ) (r : Read) → AreNamed r.frames → Live (named t place name) r
live_named t place name r h =
    goes_on (named t place name) r 61 (λ at. equals t place name) (λ at. r) (λ at. refl)
    (λ at. live_equals t place name r h)

-- letters that make a name longer than each of these
abbrev letters : ℕ → List ℕ
letters zero = []
letters (suc n) = 97 ∷ letters n

abbrev room : List (List ℕ) → ℕ
room [] = 0
room (n ∷ ns) = length n + room ns

letters_length : (n : ℕ) → length (letters n) ≡ n
letters_length zero = refl
letters_length (suc n) = ap suc (letters_length n)

letters_named : (n : ℕ) → AllAre is_name (letters n)
letters_named zero = tt
letters_named (suc n) = (refl, letters_named n)

longer_differs : (a b : List ℕ) → length b < length a → bytes_eq a b ≡ false
longer_differs a b h =
    false_from_ne_true (bytes_eq a b) (λ e. let equal : a ≡ b = (bytes_eq-Decides a b).0 e in
    let same : length a ≡ length b = ap length equal in absurd (omega arith))

fresh : (ns : List (List ℕ)) (name : List ℕ) → room ns < length name → has_name name ns ≡ false
fresh [] name h = refl
fresh (n ∷ ns) name h =
    let first : length n < length name = omega arith in
    let rest : room ns < length name = omega arith in
    rw (longer_differs name n first) (fresh ns name rest)

pub live_attribute_name : (t : Tag) (place : ℕ) (name : List ℕ) (r : Read) → AreNamed r.frames
    → Live (attribute_name t place name) r
live_attribute_name t place name r h at =
    let w : List ℕ = letters (suc (room t.names)) in
    let long : room t.names < length (name ++ w) = omega
    (arith, length-append name w, letters_length (suc (room t.names))) in
    let new = fresh t.names (name ++ w) long in
    let l = goes_on (attribute_name t place (name ++ w)) r 61 (λ at. equals t place (name ++ w)) (λ at. r)
    (λ at. rw new refl) (λ at. live_equals t place (name ++ w) r h) (at + length w) in (
      w ++ l.0,
      l.1,
      run_loop is_name (attribute_name t place) r (λ d i c q. rw q refl) w name at l.0
          (letters_named (suc (room t.names))) ∙ l.2,
    )

-- after a piece, and in one
pub live_after : (w : Within) (r : Read) → AreNamed r.frames → Live (after_piece w) r
live_after in_text r h = live_content r.frames r refl h
live_after (in_quotes t place name quote from) r h = live_value t place name quote from r h

pub live_wide_2 : (greatest : Bool) (w : Within) (r : Read) → AreNamed r.frames → Live (wide_2 greatest w) r
live_wide_2 true w r h = goes_on (wide_2 true w) r 128 (λ at. after_piece w) (λ at. r) (λ at. refl)
    (λ at. live_after w r h)
live_wide_2 false w r h = goes_on (wide_2 false w) r 128 (λ at. after_piece w) (λ at. r) (λ at. refl)
    (λ at. live_after w r h)

pub live_wide_1 : (w : Within) (r : Read) → AreNamed r.frames → Live (wide_1 w) r
live_wide_1 w r h = goes_on (wide_1 w) r 128 (λ at. wide_2 false w) (λ at. r) (λ at. refl)
    (λ at. live_wide_2 false w r h)

pub live_word : (place : ℕ) (k : ℕ) (ks : List ℕ) (w : Within) (r : Read) → AreNamed r.frames
    → Live (word place (k ∷ ks) w) r
live_word place k [] w r h = goes_on (word place (k ∷ []) w) r k (λ at. after_piece w) (λ at. r)
    (λ at. rw (same_number k) refl) (λ at. live_after w r h)
live_word place k (l ∷ ks) w r h = goes_on (word place (k ∷ l ∷ ks) w) r k (λ at. word place (l ∷ ks) w) (λ at. r)
    (λ at. rw (same_number k) refl) (λ at. live_word place l ks w r h)

pub live_reference : (place : ℕ) (w : Within) (r : Read) → AreNamed r.frames → Live (reference place w) r
live_reference place w r h = goes_on (reference place w) r 108 (λ at. word place (116 ∷ 59 ∷ []) w) (λ at. r)
    (λ at. refl) (λ at. live_word place 116 (59 ∷ []) w r h)

pub live_reference_a : (place : ℕ) (w : Within) (r : Read) → AreNamed r.frames → Live (reference_a place w) r
live_reference_a place w r h = goes_on (reference_a place w) r 109 (λ at. word place (112 ∷ 59 ∷ []) w) (λ at. r)
    (λ at. refl) (λ at. live_word place 112 (59 ∷ []) w r h)

pub live_hash : (place : ℕ) (w : Within) (r : Read) → AreNamed r.frames → Live (hash place w) r
live_hash place w r h = goes_on (hash place w) r 57 (λ at. in_decimal place 9 w) (λ at. r) (λ at. refl)
    (λ at. goes_on (in_decimal place 9 w) r 59 (λ i. after_piece w) (λ i. r) (λ i. refl) (λ i. live_after w r h))

pub live_hash_x : (place : ℕ) (w : Within) (r : Read) → AreNamed r.frames → Live (hash_x place w) r
live_hash_x place w r h = goes_on (hash_x place w) r 57 (λ at. in_hexadecimal place 9 w) (λ at. r) (λ at. refl)
    (λ at. goes_on (in_hexadecimal place 9 w) r 59 (λ i. after_piece w) (λ i. r) (λ i. refl) (λ i. live_after w r h))

-- in the declaration, and before it
live_declared : (r : Read) → Live (in_declaration true) r
live_declared r = goes_on (in_declaration true) r 62 (λ at. content) (λ at. closed r) (λ at. refl)
    (λ at. live_outside (closed r) refl)

pub live_in_declaration : (seen : Bool) (r : Read) → Live (in_declaration seen) r
live_in_declaration true r = live_declared r
live_in_declaration false r = goes_on (in_declaration false) r 63 (λ at. in_declaration true) (λ at. r) (λ at. refl)
    (λ at. live_declared r)

pub live_question : (ks : List ℕ) (r : Read) → Live (question ks) r
live_question [] r = goes_on (question []) r 32 (λ at. in_declaration false) (λ at. r) (λ at. refl)
    (λ at. live_in_declaration false r)
live_question (k ∷ ks) r = goes_on (question (k ∷ ks)) r k (λ at. question ks) (λ at. r)
    (λ at. rw (same_number k) refl) (λ at. live_question ks r)

pub live_declared_open : (place : ℕ) (r : Read) → Live (declared_open place) r
live_declared_open place r = goes_on (declared_open place) r 97 (λ at. start_name place (97 ∷ [])) (λ at. closed r)
    (λ at. refl) (λ at. live_start_name place (97 ∷ []) (closed r) tt)

pub live_at_declaration : (r : Read) → Live at_declaration r
live_at_declaration r = goes_on at_declaration r 60 (λ at. declared_open at) (λ at. r) (λ at. refl)
    (λ at. live_declared_open at r)

pub live_beginning : (r : Read) → Live beginning r
live_beginning r = goes_on beginning r 60 (λ at. declared_open at) (λ at. r) (λ at. refl)
    (λ at. live_declared_open at r)

pub live_mark_2 : (r : Read) → Live mark_2 r
live_mark_2 r = goes_on mark_2 r 191 (λ at. at_declaration) (λ at. r) (λ at. refl) (λ at. live_at_declaration r)

pub live_mark_1 : (r : Read) → Live mark_1 r
live_mark_1 r = goes_on mark_1 r 187 (λ at. mark_2) (λ at. r) (λ at. refl) (λ at. live_mark_2 r)
