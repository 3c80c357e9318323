-- An end tag as the machine takes it.
use Rattle.std.proofs.Common.{◌≡◌, ℕ, ◌+◌, true, false, List, [], ◌∷◌, Err, refl, sym, ◌∙◌, ap}
use Rattle.std.specs.Str.{bytes_eq}
use Rattle.xhstt_text.specs.Faults.{bad_markup, mismatched_end, unsupported}
use Rattle.xhstt_text.proofs.Complete.{run_shut_name}
use Rattle.xhstt_text.specs.declared.tree.Attribute.{Attribute}
use Rattle.xhstt_text.specs.declared.tree.Node.{Node}
use Rattle.xhstt_text.specs.Bytes.{is_white, is_first, is_name}
use Rattle.xhstt_text.specs.Machine.{Frame, Read, shut_begin, shut, shut_gap, resume, close_element, run}
use Rattle.xhstt_text.specs.Reading.{Skips, TakesName, begins, is_byte, read_of}
use Rattle.xhstt_text.proofs.Follow.{over, one, same_step, refuses}

-- an end tag
shut_ends : (r : Read) (place : ℕ) (name : List ℕ) (at : ℕ) (bs : List ℕ) → begins is_name bs ≡ false
    → begins (is_byte 58) bs ≡ false → run (shut place name) r at bs ≡ run (shut_gap place name) r at bs
shut_ends r place name at [] e c = refl
shut_ends r place name at (b ∷ bs) e c = same_step (shut place name) (shut_gap place name) r at b bs (rw (e, c) refl)

over_shut_name : (r : Read) (place at : ℕ) (bs name : List ℕ) (at1 : ℕ) (bs1 : List ℕ) → TakesName at bs name at1 bs1
    → run (shut_begin place) r at bs ≡ run (shut place name) r at1 bs1
over_shut_name r place at bs name at1 bs1 h =
    ap (run (shut_begin place) r at) h.1
    ∙ run_shut_name r place at name bs1 h.0
    ∙ ap (λ n. run (shut place name) r n bs1) (sym h.2)

shut_colon_at : (r : Read) (place : ℕ) (name : List ℕ) (at : ℕ) (bs : List ℕ) → begins is_name bs ≡ false
    → begins (is_byte 58) bs ≡ true → run (shut place name) r at bs ≡ Err (unsupported at)
shut_colon_at r place name at [] e c = cc
shut_colon_at r place name at (b ∷ bs) e c = refuses (shut place name) r at b bs (rw (e, c) refl)

pub shut_colon : (r : Read) (place at : ℕ) (bs name : List ℕ) (at1 : ℕ) (bs1 : List ℕ) → TakesName at bs name at1 bs1
    → begins (is_byte 58) bs1 ≡ true → run (shut_begin place) r at bs ≡ Err (unsupported at1)
shut_colon r place at bs name at1 bs1 h c = over_shut_name r place at bs name at1 bs1 h
    ∙ shut_colon_at r place name at1 bs1 h.3 c

pub shut_unnamed : (r : Read) (place at : ℕ) (bs : List ℕ) → begins is_first bs ≡ false
    → run (shut_begin place) r at bs ≡ Err (bad_markup at)
shut_unnamed r place at [] e = refl
shut_unnamed r place at (b ∷ bs) e = refuses (shut_begin place) r at b bs (rw e refl)

over_shut : (f : Frame) (fs : List Frame) (nodes : List Node) (rows : List Attribute) (place at : ℕ) (bs name : List ℕ)
    (at1 : ℕ) (bs1 : List ℕ) (at2 : ℕ) (bs2 : List ℕ) → TakesName at bs name at1 bs1 → begins (is_byte 58) bs1 ≡ false
    → Skips is_white at1 bs1 at2 bs2 → run (shut_begin place) (read_of (f ∷ fs) nodes rows) at bs
    ≡ run (shut_gap place name) (read_of (f ∷ fs) nodes rows) at2 bs2
over_shut f fs nodes rows place at bs name at1 bs1 at2 bs2 h c k =
    let r : Read = read_of (f ∷ fs) nodes rows in
    over_shut_name r place at bs name at1 bs1 h
    ∙ shut_ends r place name at1 bs1 h.3 c
    ∙ over is_white (shut_gap place name) r (λ i b q. rw q refl) at1 bs1 at2 bs2 k

unended_at : (f : Frame) (fs : List Frame) (nodes : List Node) (rows : List Attribute) (place : ℕ) (name : List ℕ)
    (at : ℕ) (bs : List ℕ) → begins is_white bs ≡ false → begins (is_byte 62) bs ≡ false
    → run (shut_gap place name) (read_of (f ∷ fs) nodes rows) at bs ≡ Err (bad_markup at)
unended_at f fs nodes rows place name at [] e d = refl
unended_at f fs nodes rows place name at (b ∷ bs) e d =
    refuses (shut_gap place name) (read_of (f ∷ fs) nodes rows) at b bs (rw (e, d) refl)

pub unended : (f : Frame) (fs : List Frame) (nodes : List Node) (rows : List Attribute) (place at : ℕ)
    (bs name : List ℕ) (at1 : ℕ) (bs1 : List ℕ) (at2 : ℕ) (bs2 : List ℕ) → TakesName at bs name at1 bs1
    → begins (is_byte 58) bs1 ≡ false → Skips is_white at1 bs1 at2 bs2 → begins (is_byte 62) bs2 ≡ false
    → run (shut_begin place) (read_of (f ∷ fs) nodes rows) at bs ≡ Err (bad_markup at2)
unended f fs nodes rows place at bs name at1 bs1 at2 bs2 h c k e =
    over_shut f fs nodes rows place at bs name at1 bs1 at2 bs2 h c k
    ∙ unended_at f fs nodes rows place name at2 bs2 k.4 e

pub mismatched : (f : Frame) (fs : List Frame) (nodes : List Node) (rows : List Attribute) (place at : ℕ)
    (bs name : List ℕ) (at1 : ℕ) (bs1 : List ℕ) (at2 : ℕ) (bs2 : List ℕ) (at3 : ℕ) (bs3 : List ℕ)
    → TakesName at bs name at1 bs1 → begins (is_byte 58) bs1 ≡ false → Skips is_white at1 bs1 at2 bs2
    → (bs2 ≡ 62 ∷ bs3) × (at3 ≡ at2 + 1) → bytes_eq name f.name ≡ false
    → run (shut_begin place) (read_of (f ∷ fs) nodes rows) at bs ≡ Err (mismatched_end place)
mismatched f fs nodes rows place at bs name at1 bs1 at2 bs2 at3 bs3 h c k m e =
    let r : Read = read_of (f ∷ fs) nodes rows in
    over_shut f fs nodes rows place at bs name at1 bs1 at2 bs2 h c k
    ∙ ap (run (shut_gap place name) r at2) m.0
    ∙ refuses (shut_gap place name) r at2 62 bs3 (rw e refl)

pub shut_read : (f : Frame) (fs : List Frame) (nodes : List Node) (rows : List Attribute) (place at : ℕ)
    (bs name : List ℕ) (at1 : ℕ) (bs1 : List ℕ) (at2 : ℕ) (bs2 : List ℕ) (at3 : ℕ) (bs3 : List ℕ) (s : Read)
    → TakesName at bs name at1 bs1 → begins (is_byte 58) bs1 ≡ false → Skips is_white at1 bs1 at2 bs2
    → (bs2 ≡ 62 ∷ bs3) × (at3 ≡ at2 + 1) → bytes_eq name f.name ≡ true
    → s ≡ close_element f fs (read_of (f ∷ fs) nodes rows) place
    → run (shut_begin place) (read_of (f ∷ fs) nodes rows) at bs ≡ run (resume s.frames) s at3 bs3
shut_read f fs nodes rows place at bs name at1 bs1 at2 bs2 at3 bs3 s h c k m e d =
    let r : Read = read_of (f ∷ fs) nodes rows in
    over_shut f fs nodes rows place at bs name at1 bs1 at2 bs2 h c k
    ∙ one (shut_gap place name) r at2 bs2 62 at3 bs3 (resume fs) (close_element f fs r place) m.0 m.1 (rw e refl)
    ∙ ap (λ (x : Read). run (resume x.frames) x at3 bs3) (sym d)
