-- The attributes of a start tag as the machine takes them.
use Rattle.std.proofs.Common.{◌≡◌, ℕ, ◌+◌, Bool, true, false, cond, eqb, List, [], ◌∷◌, ◌++◌, length, Err, refl, sym}
use Rattle.std.proofs.Common.{◌∙◌}
use Rattle.std.proofs.Common.{ap, subst, arith, add-zero}
use Rattle.xhstt_text.specs.Faults.{bad_markup, unsupported}
use Rattle.xhstt_text.specs.declared.tree.Attribute.{Attribute}
use Rattle.xhstt_text.specs.declared.tree.Span.{Span}
use Rattle.xhstt_text.specs.Bytes.{is_white, is_first, is_name, AllAre, IsGap}
use Rattle.xhstt_text.specs.Document.{has_name, span}
use Rattle.xhstt_text.specs.Machine.{Read, Tag, content, valued, in_tag, slash, attribute_name, Step, refused, state}
use Rattle.xhstt_text.specs.Machine.{open_element, attribute_row, with_name, and_then, run, Outcome}
use Rattle.xhstt_text.specs.Reading.{Skips, TakesName, begins, is_byte, bare}
use Rattle.xhstt_text.proofs.Runs.{run_gap, run_attribute_name}
use Rattle.xhstt_text.proofs.Follow.{over, same_step, refuses}

-- in a start tag
abbrev pub named_tag : ℕ → List ℕ → ℕ → List (List ℕ) → Tag
named_tag place tag first known = record { at = place; name = tag; first = first; names = known }

not_first : (t : Tag) (r : Read) (at : ℕ) (bs : List ℕ) → begins is_first bs ≡ false
    → run (in_tag t) r at bs ≡ run (valued t) r at bs
not_first t r at [] e = refl
not_first t r at (b ∷ bs) e = same_step (in_tag t) (valued t) r at b bs (rw e refl)

over_white : (t : Tag) (r : Read) (at : ℕ) (w : List ℕ) (rest : List ℕ) → begins is_first rest ≡ false
    → AllAre is_white w → run (valued t) r at (w ++ rest) ≡ run (valued t) r (at + length w) rest
over_white t r at [] rest e h = ap (λ n. run (valued t) r n rest) (sym (add-zero at))
over_white t r at (b ∷ w) rest e h = run_gap t r (b ∷ w) at rest h ∙ not_first t r (at + length (b ∷ w)) rest e

same_slash : (place : ℕ) (tag : List ℕ) (first : ℕ) (known : List (List ℕ)) (r : Read) (at : ℕ) (bs : List ℕ)
    → run (slash (named_tag place tag first known)) r at bs ≡ run (slash (bare place tag first)) r at bs
same_slash place tag first known r at [] = refl
same_slash place tag first known r at (b ∷ bs) = refl

-- the names of the attributes no longer matter
same_end : (place : ℕ) (tag : List ℕ) (first : ℕ) (known : List (List ℕ)) (r : Read) (at : ℕ) (bs : List ℕ)
    → begins is_first bs ≡ false → begins is_white bs ≡ false
    → run (valued (named_tag place tag first known)) r at bs ≡ run (valued (bare place tag first)) r at bs
same_end place tag first known r at [] e d = refl
same_end place tag first known r at (b ∷ bs) e d =
    let t : Tag = named_tag place tag first known in
    let u : Tag = bare place tag first in
    let go : Step → Outcome = λ x. and_then x (λ s. run s.phase s.read (at + 1) bs) in
    let by : (v : Bool) → go (cond v (state (slash t) r)
    (cond (eqb b 62) (state content (open_element t r (at + 1))) (refused (bad_markup at))))
    ≡ go (cond v (state (slash u) r) (cond (eqb b 62) (state content (open_element u r (at + 1)))
    (refused (bad_markup at)))) =
    λ v. elim v as (λ v. go (cond v (state (slash t) r)
    (cond (eqb b 62) (state content (open_element t r (at + 1))) (refused (bad_markup at))))
    ≡ go (cond v (state (slash u) r) (cond (eqb b 62) (state content (open_element u r (at + 1)))
    (refused (bad_markup at))))) [ true ↦ same_slash place tag first known r (at + 1) bs | false ↦ refl ] in
    rw (e, d) (by (eqb b 47))

pub leaves_tag : (place : ℕ) (tag : List ℕ) (first : ℕ) (known : List (List ℕ)) (r : Read) (at : ℕ) (bs : List ℕ)
    (at1 : ℕ) (bs1 : List ℕ) → Skips is_white at bs at1 bs1 → begins is_first bs1 ≡ false
    → run (valued (named_tag place tag first known)) r at bs ≡ run (valued (bare place tag first)) r at1 bs1
leaves_tag place tag first known r at bs at1 bs1 h e =
    let t : Tag = named_tag place tag first known in
    ap (run (valued t) r at) h.2
    ∙ over_white t r at h.0 bs1 e h.1
    ∙ ap (λ n. run (valued t) r n bs1) (sym h.3)
    ∙ same_end place tag first known r at1 bs1 e h.4

starts_name : (at : ℕ) (bs name : List ℕ) (to : ℕ) (rest : List ℕ) → TakesName at bs name to rest
    → begins is_first bs ≡ true
starts_name at bs [] to rest h = absurd h.0
starts_name at bs (b ∷ name) to rest h = ap (begins is_first) h.1 ∙ h.0.0

no_gap_at : (t : Tag) (r : Read) (at : ℕ) (bs : List ℕ) → begins is_first bs ≡ true
    → run (valued t) r at bs ≡ Err (bad_markup at)
no_gap_at t r at [] e = cc
no_gap_at t r at (b ∷ bs) e = refuses (valued t) r at b bs (rw e refl)

no_bytes : (w rest : List ℕ) → length w ≡ 0 → w ++ rest ≡ rest
no_bytes [] rest e = refl
no_bytes (b ∷ w) rest e = absurd (omega arith)

-- no white before an attribute
pub no_gap : (t : Tag) (r : Read) (at : ℕ) (bs : List ℕ) (at1 : ℕ) (bs1 name : List ℕ) (at2 : ℕ) (bs2 : List ℕ)
    → Skips is_white at bs at1 bs1 → TakesName at1 bs1 name at2 bs2 → at1 ≡ at
    → run (valued t) r at bs ≡ Err (bad_markup at1)
no_gap t r at bs at1 bs1 name at2 bs2 h k e =
    subst (λ n. run (valued t) r at bs ≡ Err (bad_markup n)) (sym e) (
    ap (run (valued t) r at) (h.2 ∙ no_bytes h.0 bs1 (omega (arith, h.3)))
    ∙ no_gap_at t r at bs1 (starts_name at1 bs1 name at2 bs2 k))

some_gap : (w : List ℕ) → AllAre is_white w → (length w ≡ 0 → ⊥) → IsGap w
some_gap [] h n = n refl
some_gap (b ∷ w) h n = h

-- over the white before an attribute, and its name
pub over_attribute_name : (t : Tag) (r : Read) (at : ℕ) (bs : List ℕ) (at1 : ℕ) (bs1 name : List ℕ) (at2 : ℕ)
    (bs2 : List ℕ) → Skips is_white at bs at1 bs1 → TakesName at1 bs1 name at2 bs2 → (at1 ≡ at → ⊥)
    → run (valued t) r at bs ≡ run (attribute_name t at1 name) r at2 bs2
over_attribute_name t r at bs at1 bs1 name at2 bs2 h k e =
    ap (run (valued t) r at) h.2
    ∙ run_gap t r h.0 at bs1 (some_gap h.0 h.1 (λ z. e (omega (arith, h.3))))
    ∙ ap (λ n. run (in_tag t) r n bs1) (sym h.3)
    ∙ ap (run (in_tag t) r at1) k.1
    ∙ run_attribute_name t r name at1 bs2 k.0
    ∙ ap (λ n. run (attribute_name t at1 name) r n bs2) (sym k.2)

repeated_at : (t : Tag) (r : Read) (place at : ℕ) (name bs : List ℕ) → begins is_name bs ≡ false
    → has_name name t.names ≡ true → run (attribute_name t place name) r at bs ≡ Err (bad_markup place)
repeated_at t r place at name [] e d = rw d refl
repeated_at t r place at name (b ∷ bs) e d = refuses (attribute_name t place name) r at b bs (rw (e, d) refl)

pub repeated : (t : Tag) (r : Read) (at : ℕ) (bs : List ℕ) (at1 : ℕ) (bs1 name : List ℕ) (at2 : ℕ) (bs2 : List ℕ)
    → Skips is_white at bs at1 bs1 → TakesName at1 bs1 name at2 bs2 → (at1 ≡ at → ⊥) → has_name name t.names ≡ true
    → run (valued t) r at bs ≡ Err (bad_markup at1)
repeated t r at bs at1 bs1 name at2 bs2 h k e d =
    over_attribute_name t r at bs at1 bs1 name at2 bs2 h k e ∙ repeated_at t r at1 at2 name bs2 k.3 d

colon_at : (t : Tag) (r : Read) (place at : ℕ) (name bs : List ℕ) → begins is_name bs ≡ false
    → has_name name t.names ≡ false → begins (is_byte 58) bs ≡ true
    → run (attribute_name t place name) r at bs ≡ Err (unsupported at)
colon_at t r place at name [] e d c = cc
colon_at t r place at name (b ∷ bs) e d c = refuses (attribute_name t place name) r at b bs (rw (e, d, c) refl)

-- a `:` after an attribute's name
pub attribute_colon : (t : Tag) (r : Read) (at : ℕ) (bs : List ℕ) (at1 : ℕ) (bs1 name : List ℕ) (at2 : ℕ) (bs2 : List ℕ)
    → Skips is_white at bs at1 bs1 → TakesName at1 bs1 name at2 bs2 → (at1 ≡ at → ⊥) → has_name name t.names ≡ false
    → begins (is_byte 58) bs2 ≡ true → run (valued t) r at bs ≡ Err (unsupported at2)
attribute_colon t r at bs at1 bs1 name at2 bs2 h k e d c =
    over_attribute_name t r at bs at1 bs1 name at2 bs2 h k e ∙ colon_at t r at1 at2 name bs2 k.3 d c

-- over a whole attribute
pub over_attribute : (t : Tag) (r : Read) (at : ℕ) (bs : List ℕ) (at1 : ℕ) (bs1 name : List ℕ) (at2 : ℕ) (bs2 : List ℕ)
    (value : Span) (at3 : ℕ) (bs3 : List ℕ) (rows : List Attribute) → Skips is_white at bs at1 bs1
    → TakesName at1 bs1 name at2 bs2 → (at1 ≡ at → ⊥)
    → run (attribute_name t at1 name) r at2 bs2 ≡ run (valued (with_name t name))
    (record r { attributes = r.attributes ++ attribute_row at1 name value.from value.to ∷ [] }) at3 bs3
    → rows ≡ r.attributes ++ record { name = span at1 at2; value = value } ∷ []
    → run (valued t) r at bs ≡ run (valued (with_name t name)) (record r { attributes = rows }) at3 bs3
over_attribute t r at bs at1 bs1 name at2 bs2 value at3 bs3 rows h k e over same =
    over_attribute_name t r at bs at1 bs1 name at2 bs2 h k e
    ∙ over
    ∙ ap (λ n. run (valued (with_name t name)) (record r
    { attributes = r.attributes ++ record { name = span at1 n; value = value } ∷ [] }) at3 bs3) (sym k.2)
    ∙ ap (λ (x : List Attribute). run (valued (with_name t name)) (record r { attributes = x }) at3 bs3) (sym same)
