-- What stands outside the outermost element as the machine takes it.
use Rattle.std.proofs.Common.{◌≡◌, ℕ, ◌+◌, Bool, true, false, cond, ◌&&◌, eqb, List, [], ◌∷◌, length, Ok, Err}
use Rattle.std.proofs.Common.{refl}
use Rattle.std.proofs.Common.{sym, ◌∙◌, ap, arith}
use Rattle.std.proofs.lemmas.Bool.Decides.{nat_tests}
use Rattle.xhstt_text.specs.declared.faults.TextFault.{TextFault}
use Rattle.xhstt_text.specs.Faults.{bad_markup}
use Rattle.xhstt_text.proofs.Complete.{white_isnt_tag}
use Rattle.xhstt_text.specs.declared.tree.Attribute.{Attribute}
use Rattle.xhstt_text.specs.declared.tree.Node.{Node}
use Rattle.xhstt_text.specs.Bytes.{is_white}
use Rattle.xhstt_text.specs.Machine.{Read, Region, early, late, phase_of, bang, ended_open, content, ended, opened}
use Rattle.xhstt_text.specs.Machine.{refused, state, and_then, run, Outcome}
use Rattle.xhstt_text.specs.Reading.{unopened, trailing, begins_comment, Skips, begins, is_byte, read_of}
use Rattle.xhstt_text.proofs.Follow.{over, one, refuses}

-- after the outermost element
not_bang : (nodes : List Node) (rows : List Attribute) (place at : ℕ) (bs : List ℕ) → begins (is_byte 33) bs ≡ false
    → run (ended_open place) (read_of [] nodes rows) at bs ≡ Err (unopened place at bs)
not_bang nodes rows place at [] e = refl
not_bang nodes rows place at (b ∷ bs) e = refuses (ended_open place) (read_of [] nodes rows) at b bs (rw e refl)

more_tag : (nodes : List Node) (rows : List Attribute) (at b : ℕ) (bs : List ℕ) (v : Bool) → eqb b 60 ≡ v
    → (v && begins (is_byte 33) bs) ≡ false → and_then
    (cond v (state (ended_open at) (read_of [] nodes rows)) (refused (bad_markup at)))
    (λ s. run s.phase s.read (at + 1) bs) ≡ Err (cond v (unopened at (at + 1) bs) (bad_markup at))
more_tag nodes rows at b bs true e d = not_bang nodes rows at (at + 1) bs d
more_tag nodes rows at b bs false e d = refl

more_at : (nodes : List Node) (rows : List Attribute) (at : ℕ) (bs : List ℕ) → begins is_white bs ≡ false
    → begins_comment bs ≡ false → (length bs ≡ 0 → ⊥) → run ended (read_of [] nodes rows) at bs ≡ Err (trailing at bs)
more_at nodes rows at [] e d n = absurd (n refl)
more_at nodes rows at (b ∷ bs) e d n = rw e (more_tag nodes rows at b bs (eqb b 60) refl d)

pub more_after : (nodes : List Node) (rows : List Attribute) (whole : Outcome) (at : ℕ) (bs : List ℕ)
    → whole ≡ run ended (read_of [] nodes rows) at bs → (begins is_white bs ≡ false) × (begins_comment bs ≡ false)
    → (length bs ≡ 0 → ⊥) → whole ≡ Err (trailing at bs)
more_after nodes rows whole at bs same h n = same ∙ more_at nodes rows at bs h.0 h.1 n

pub trailing_tag : (made : TextFault) (at : ℕ) (bs : List ℕ) (at1 : ℕ) (bs1 : List ℕ) → (bs ≡ 60 ∷ bs1) × (at1 ≡ at + 1)
    → made ≡ unopened at at1 bs1 → made ≡ trailing at bs
trailing_tag made at bs at1 bs1 h e = e ∙ ap (λ n. unopened at n bs1) h.1 ∙ sym (ap (trailing at) h.0)

pub trailing_other : (made : TextFault) (at : ℕ) (bs : List ℕ) → begins (is_byte 60) bs ≡ false → made ≡ bad_markup at
    → made ≡ trailing at bs
trailing_other made at [] h e = e
trailing_other made at (b ∷ bs) h e = e ∙ (let same : bad_markup at
    ≡ cond (eqb b 60) (unopened at (at + 1) bs) (bad_markup at) = rw h refl in same)

none_at : (nodes : List Node) (rows : List Attribute) (at : ℕ) (bs : List ℕ) → length bs ≡ 0
    → run ended (read_of [] nodes rows) at bs ≡ Ok (record { nodes = nodes; attributes = rows })
none_at nodes rows at [] e = refl
none_at nodes rows at (b ∷ bs) e = absurd (omega arith)

pub at_text_end : (nodes : List Node) (rows : List Attribute) (whole : Outcome) (at : ℕ) (bs : List ℕ)
    → whole ≡ run ended (read_of [] nodes rows) at bs → length bs ≡ 0
    → whole ≡ Ok (record { nodes = nodes; attributes = rows })
at_text_end nodes rows whole at bs same n = same ∙ none_at nodes rows at bs n

pub some_left : (n : ℕ) (v : Bool) → v ≡ eqb n 0 → v ≡ false → n ≡ 0 → ⊥
some_left n v e d z = grind (arith, nat_tests)

pub none_left : (n : ℕ) (v : Bool) → v ≡ eqb n 0 → v ≡ true → n ≡ 0
none_left n v e d = grind (arith, nat_tests)

-- over white outside the outermost element
pub over_space : (place : Region) (nodes : List Node) (rows : List Attribute) (at : ℕ) (bs : List ℕ) (at1 : ℕ)
    (bs1 : List ℕ) → Skips is_white at bs at1 bs1
    → run (phase_of place) (read_of [] nodes rows) at bs ≡ run (phase_of place) (read_of [] nodes rows) at1 bs1
over_space early nodes rows at bs at1 bs1 h =
    over is_white content (read_of [] nodes rows) (λ i b q. rw (white_isnt_tag b q, q) refl) at bs at1 bs1 h
over_space late nodes rows at bs at1 bs1 h = over is_white ended (read_of [] nodes rows) (λ i b q. rw q refl) at bs at1
    bs1 h

-- and over `<!`
pub over_bang : (place : Region) (nodes : List Node) (rows : List Attribute) (at : ℕ) (bs : List ℕ) (at1 : ℕ)
    (bs1 : List ℕ) (at2 : ℕ) (bs2 : List ℕ) (at3 : ℕ) (bs3 : List ℕ) → Skips is_white at bs at1 bs1
    → (bs1 ≡ 60 ∷ bs2) × (at2 ≡ at1 + 1) → (bs2 ≡ 33 ∷ bs3) × (at3 ≡ at2 + 1)
    → run (phase_of place) (read_of [] nodes rows) at bs ≡ run (bang at1 place) (read_of [] nodes rows) at3 bs3
over_bang early nodes rows at bs at1 bs1 at2 bs2 at3 bs3 h k m =
    let r : Read = read_of [] nodes rows in
    over_space early nodes rows at bs at1 bs1 h
    ∙ one content r at1 bs1 60 at2 bs2 (opened at1) r k.0 k.1 refl
    ∙ one (opened at1) r at2 bs2 33 at3 bs3 (bang at1 early) r m.0 m.1 refl
over_bang late nodes rows at bs at1 bs1 at2 bs2 at3 bs3 h k m =
    let r : Read = read_of [] nodes rows in
    over_space late nodes rows at bs at1 bs1 h
    ∙ one ended r at1 bs1 60 at2 bs2 (ended_open at1) r k.0 k.1 refl
    ∙ one (ended_open at1) r at2 bs2 33 at3 bs3 (bang at1 late) r m.0 m.1 refl
