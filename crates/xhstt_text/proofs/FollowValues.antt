-- The value of an attribute as the machine takes it.
use Rattle.std.proofs.Common.{◌≡◌, ℕ, ◌+◌, true, false, List, [], ◌∷◌, ◌++◌, Err, refl, sym, ◌∙◌, ap}
use Rattle.xhstt_text.specs.Faults.{bad_markup}
use Rattle.xhstt_text.specs.Bytes.{is_white, is_name, is_quoted, is_quote}
use Rattle.xhstt_text.specs.Document.{has_name}
use Rattle.xhstt_text.specs.Machine.{Within, in_quotes, reference, Read, Tag, word, reference_a, valued}
use Rattle.xhstt_text.specs.Machine.{attribute_name, named, equals, in_value, attribute_row, with_name, run, Outcome}
use Rattle.xhstt_text.specs.Reading.{broken, NoPiece, Enters, Skips, begins, is_byte}
use Rattle.xhstt_text.proofs.Runs.{quote_isnt_white, quote_isnt_quoted, same_number, value_38, value_239}
use Rattle.xhstt_text.proofs.Follow.{over, one, same_step, refuses}

name_ends : (t : Tag) (place : ℕ) (known : List ℕ) (r : Read) (at : ℕ) (bs : List ℕ) → has_name known t.names ≡ false
    → begins is_name bs ≡ false → begins (is_byte 58) bs ≡ false
    → run (attribute_name t place known) r at bs ≡ run (named t place known) r at bs
name_ends t place known r at [] new e c = rw new refl
name_ends t place known r at (b ∷ bs) new e c =
    same_step (attribute_name t place known) (named t place known) r at b bs (rw (e, new, c) refl)

no_equals : (t : Tag) (place : ℕ) (known : List ℕ) (r : Read) (at : ℕ) (bs : List ℕ) → begins is_white bs ≡ false
    → begins (is_byte 61) bs ≡ false → run (named t place known) r at bs ≡ Err (bad_markup at)
no_equals t place known r at [] w e = refl
no_equals t place known r at (b ∷ bs) w e = refuses (named t place known) r at b bs (rw (w, e) refl)

no_quote : (t : Tag) (place : ℕ) (known : List ℕ) (r : Read) (at : ℕ) (bs : List ℕ) → begins is_white bs ≡ false
    → begins is_quote bs ≡ false → run (equals t place known) r at bs ≡ Err (bad_markup at)
no_quote t place known r at [] w e = refl
no_quote t place known r at (b ∷ bs) w e = refuses (equals t place known) r at b bs (rw (w, e) refl)

no_end : (t : Tag) (place : ℕ) (known : List ℕ) (mark from : ℕ) (r : Read) (at : ℕ) (bs : List ℕ)
    → begins (is_quoted mark) bs ≡ false → NoPiece bs → begins (is_byte mark) bs ≡ false
    → run (in_value t place known mark from) r at bs ≡ Err (bad_markup at)
no_end t place known mark from r at [] w k e = refl
no_end t place known mark from r at (b ∷ bs) w k e =
    refuses (in_value t place known mark from) r at b bs (rw (w, e, k.0, k.1) refl)

-- over the white after an attribute's name
over_named : (t : Tag) (place : ℕ) (known : List ℕ) (r : Read) (at : ℕ) (bs : List ℕ) (at1 : ℕ) (bs1 : List ℕ)
    → has_name known t.names ≡ false → begins is_name bs ≡ false → begins (is_byte 58) bs ≡ false
    → Skips is_white at bs at1 bs1 → run (attribute_name t place known) r at bs ≡ run (named t place known) r at1 bs1
over_named t place known r at bs at1 bs1 new e c h =
    name_ends t place known r at bs new e c
    ∙ over is_white (named t place known) r (λ i b q. rw q refl) at bs at1 bs1 h

pub value_no_equals : (t : Tag) (place : ℕ) (known : List ℕ) (r : Read) (at : ℕ) (bs : List ℕ) (at1 : ℕ) (bs1 : List ℕ)
    → has_name known t.names ≡ false → begins is_name bs ≡ false → begins (is_byte 58) bs ≡ false
    → Skips is_white at bs at1 bs1 → begins (is_byte 61) bs1 ≡ false
    → run (attribute_name t place known) r at bs ≡ Err (bad_markup at1)
value_no_equals t place known r at bs at1 bs1 new e c h d =
    over_named t place known r at bs at1 bs1 new e c h ∙ no_equals t place known r at1 bs1 h.4 d

-- up to the first quote
over_equals : (t : Tag) (place : ℕ) (known : List ℕ) (r : Read) (at : ℕ) (bs : List ℕ) (at1 : ℕ) (bs1 : List ℕ)
    (at2 : ℕ) (bs2 : List ℕ) (at3 : ℕ) (bs3 : List ℕ) → has_name known t.names ≡ false → begins is_name bs ≡ false
    → begins (is_byte 58) bs ≡ false → Skips is_white at bs at1 bs1 → (bs1 ≡ 61 ∷ bs2) × (at2 ≡ at1 + 1)
    → Skips is_white at2 bs2 at3 bs3 → run (attribute_name t place known) r at bs ≡ run (equals t place known) r at3 bs3
over_equals t place known r at bs at1 bs1 at2 bs2 at3 bs3 new e c h1 h2 h3 =
    over_named t place known r at bs at1 bs1 new e c h1
    ∙ one (named t place known) r at1 bs1 61 at2 bs2 (equals t place known) r h2.0 h2.1 refl
    ∙ over is_white (equals t place known) r (λ i b q. rw q refl) at2 bs2 at3 bs3 h3

pub value_no_quote : (t : Tag) (place : ℕ) (known : List ℕ) (r : Read) (at : ℕ) (bs : List ℕ) (at1 : ℕ) (bs1 : List ℕ)
    (at2 : ℕ) (bs2 : List ℕ) (at3 : ℕ) (bs3 : List ℕ) → has_name known t.names ≡ false → begins is_name bs ≡ false
    → begins (is_byte 58) bs ≡ false → Skips is_white at bs at1 bs1 → (bs1 ≡ 61 ∷ bs2) × (at2 ≡ at1 + 1)
    → Skips is_white at2 bs2 at3 bs3 → begins is_quote bs3 ≡ false
    → run (attribute_name t place known) r at bs ≡ Err (bad_markup at3)
value_no_quote t place known r at bs at1 bs1 at2 bs2 at3 bs3 new e c h1 h2 h3 d =
    over_equals t place known r at bs at1 bs1 at2 bs2 at3 bs3 new e c h1 h2 h3 ∙ no_quote t place known r at3 bs3 h3.4 d

-- up to the end of the value
over_quote : (t : Tag) (place : ℕ) (known : List ℕ) (r : Read) (at3 : ℕ) (bs3 : List ℕ) (mark at4 : ℕ) (bs4 : List ℕ)
    (at5 : ℕ) (bs5 : List ℕ) → (is_quote mark ≡ true) × (bs3 ≡ mark ∷ bs4) × (at4 ≡ at3 + 1)
    → run (in_value t place known mark at4) r at4 bs4 ≡ run (in_value t place known mark at4) r at5 bs5
    → run (equals t place known) r at3 bs3 ≡ run (in_value t place known mark at4) r at5 bs5
over_quote t place known r at3 bs3 mark at4 bs4 at5 bs5 h4 h5 =
    one (equals t place known) r at3 bs3 mark at4 bs4 (in_value t place known mark (at3 + 1)) r h4.1 h4.2
    (rw (quote_isnt_white mark h4.0, h4.0) refl)
    ∙ ap (λ n. run (in_value t place known mark n) r at4 bs4) (sym h4.2)
    ∙ h5

-- up to the value
pub value_begins : (t : Tag) (place : ℕ) (known : List ℕ) (r : Read) (at : ℕ) (bs : List ℕ) (at1 : ℕ) (bs1 : List ℕ)
    (at2 : ℕ) (bs2 : List ℕ) (at3 : ℕ) (bs3 : List ℕ) (mark at4 : ℕ) (bs4 : List ℕ) → has_name known t.names ≡ false
    → begins is_name bs ≡ false → begins (is_byte 58) bs ≡ false → Skips is_white at bs at1 bs1
    → (bs1 ≡ 61 ∷ bs2) × (at2 ≡ at1 + 1) → Skips is_white at2 bs2 at3 bs3
    → (is_quote mark ≡ true) × (bs3 ≡ mark ∷ bs4) × (at4 ≡ at3 + 1)
    → run (attribute_name t place known) r at bs ≡ run (in_value t place known mark at4) r at4 bs4
value_begins t place known r at bs at1 bs1 at2 bs2 at3 bs3 mark at4 bs4 new e c h1 h2 h3 h4 =
    over_equals t place known r at bs at1 bs1 at2 bs2 at3 bs3 new e c h1 h2 h3
    ∙ over_quote t place known r at3 bs3 mark at4 bs4 at4 bs4 h4 refl

pub value_no_end : (t : Tag) (place : ℕ) (known : List ℕ) (r : Read) (whole : Outcome) (mark at4 at5 : ℕ) (bs5 : List ℕ)
    → whole ≡ run (in_value t place known mark at4) r at5 bs5 → (begins (is_quoted mark) bs5 ≡ false) × NoPiece bs5
    → begins (is_byte mark) bs5 ≡ false → whole ≡ Err (bad_markup at5)
value_no_end t place known r whole mark at4 at5 bs5 same h d = same ∙ no_end t place known mark at4 r at5 bs5 h.0 h.1 d

pub value_read : (t : Tag) (place : ℕ) (known : List ℕ) (r : Read) (whole : Outcome) (mark at4 at5 : ℕ) (bs5 : List ℕ)
    (at6 : ℕ) (bs6 : List ℕ) → whole ≡ run (in_value t place known mark at4) r at5 bs5
    → (bs5 ≡ mark ∷ bs6) × (at6 ≡ at5 + 1) → whole
    ≡ run (valued (with_name t known)) (record r {
      attributes =
          r.attributes ++ attribute_row place known at4 at5 ∷ [];
    }) at6 bs6
value_read t place known r whole mark at4 at5 bs5 at6 bs6 same h6 =
    same
    ∙ one (in_value t place known mark at4) r at5 bs5 mark at6 bs6 (valued (with_name t known))
    (record r { attributes = r.attributes ++ attribute_row place known at4 at5 ∷ [] }) h6.0 h6.1
    (rw (quote_isnt_quoted mark, same_number mark) refl)

pub value_enters : (t : Tag) (place : ℕ) (name : List ℕ) (quote from : ℕ) (r : Read) (at : ℕ) → is_quote quote ≡ true
    → Enters (in_value t place name quote from) (in_quotes t place name quote from) r r at
value_enters t place name quote from r at h =
    (value_38 t place name quote from r at h, value_239 t place name quote from r at h)

pub over_value_bytes : (t : Tag) (place : ℕ) (name : List ℕ) (quote from : ℕ) (r : Read) (at : ℕ) (bs : List ℕ)
    (at1 : ℕ) (bs1 : List ℕ) → Skips (is_quoted quote) at bs at1 bs1
    → run (in_value t place name quote from) r at bs ≡ run (in_value t place name quote from) r at1 bs1
over_value_bytes t place name quote from r at bs at1 bs1 h =
    over (is_quoted quote) (in_value t place name quote from) r (λ i b q. rw q refl) at bs at1 bs1 h

-- in a reference
pub word_broken : (place k : ℕ) (ks : List ℕ) (w : Within) (r : Read) (at : ℕ) (bs : List ℕ)
    → begins (is_byte k) bs ≡ false → run (word place (k ∷ ks) w) r at bs ≡ Err (broken place at bs)
word_broken place k ks w r at [] e = refl
word_broken place k [] w r at (b ∷ bs) e = refuses (word place (k ∷ []) w) r at b bs (rw e refl)
word_broken place k (l ∷ ks) w r at (b ∷ bs) e = refuses (word place (k ∷ l ∷ ks) w) r at b bs (rw e refl)

pub over_letter : (place k l : ℕ) (ks : List ℕ) (w : Within) (r : Read) (at : ℕ) (bs : List ℕ) (at1 : ℕ) (bs1 : List ℕ)
    → (bs ≡ k ∷ bs1) × (at1 ≡ at + 1) → run (word place (k ∷ l ∷ ks) w) r at bs ≡ run (word place (l ∷ ks) w) r at1 bs1
over_letter place k l ks w r at bs at1 bs1 h =
    one (word place (k ∷ l ∷ ks) w) r at bs k at1 bs1 (word place (l ∷ ks) w) r h.0 h.1 (rw (same_number k) refl)

pub a_broken : (place : ℕ) (w : Within) (r : Read) (at : ℕ) (bs : List ℕ) → begins (is_byte 109) bs ≡ false
    → begins (is_byte 112) bs ≡ false → run (reference_a place w) r at bs ≡ Err (broken place at bs)
a_broken place w r at [] e d = refl
a_broken place w r at (b ∷ bs) e d = refuses (reference_a place w) r at b bs (rw (e, d) refl)

pub reference_broken : (place : ℕ) (w : Within) (r : Read) (at : ℕ) (bs : List ℕ) → begins (is_byte 108) bs ≡ false
    → begins (is_byte 103) bs ≡ false → begins (is_byte 97) bs ≡ false → begins (is_byte 113) bs ≡ false
    → begins (is_byte 35) bs ≡ false → run (reference place w) r at bs ≡ Err (broken place at bs)
reference_broken place w r at [] e1 e2 e3 e4 e5 = refl
reference_broken place w r at (b ∷ bs) e1 e2 e3 e4 e5 =
    refuses (reference place w) r at b bs (rw (e1, e2, e4, e3, e5) refl)
