-- The name of a start tag, and the outermost element, as the machine takes them.
use Rattle.std.proofs.Common.{◌≡◌, ℕ, ◌+◌, ◌<◌, ◌≤◌, true, false, ltb, List, [], ◌∷◌, ◌++◌, length, Err, refl, sym, ◌∙◌}
use Rattle.std.proofs.Common.{ap, arith}
use Rattle.std.proofs.lemmas.Bool.Decides.{nat_tests}
use Rattle.std.proofs.lemmas.List.{length-map, length-reverse}
use Rattle.xhstt_text.specs.Faults.{bad_markup, unsupported, too_deep}
use Rattle.xhstt_text.specs.declared.table.OpenElement.{OpenElement}
use Rattle.xhstt_text.proofs.Complete.{begins_name}
use Rattle.xhstt_text.specs.declared.tree.Attribute.{Attribute}
use Rattle.xhstt_text.specs.declared.tree.Node.{Node}
use Rattle.xhstt_text.specs.Bytes.{is_white, is_first, is_name, is_text}
use Rattle.xhstt_text.specs.Machine.{Frame, Read, content, opened, start_name, valued, shut_begin, start_of, run}
use Rattle.xhstt_text.specs.Machine.{Outcome}
use Rattle.xhstt_text.specs.Reading.{unopened, NoPiece, NoOtherTag, TakesName, begins, is_byte, read_of, bare}
use Rattle.xhstt_text.specs.Reading.{frames_of}
use Rattle.xhstt_text.proofs.Runs.{by_step, run_loop}
use Rattle.xhstt_text.proofs.Follow.{one, same_step, refuses}

-- the name of a start tag
name_left : (place : ℕ) (name : List ℕ) (r : Read) (at : ℕ) (bs : List ℕ) → begins is_name bs ≡ false
    → begins (is_byte 58) bs ≡ false → run (start_name place name) r at bs
    ≡ run (valued (start_of place name r)) r at bs
name_left place name r at [] e c = refl
name_left place name r at (b ∷ bs) e c = same_step (start_name place name) (valued (start_of place name r)) r at b bs
    (rw (e, c) refl)

over_opened : (frames : List Frame) (nodes : List Node) (rows : List Attribute) (place at : ℕ) (bs name : List ℕ)
    (at1 : ℕ) (bs1 : List ℕ) → length frames < 32 → TakesName at bs name at1 bs1
    → run (opened place) (read_of frames nodes rows) at bs
    ≡ run (start_name place name) (read_of frames nodes rows) at1 bs1
over_opened frames nodes rows place at bs [] at1 bs1 d h = absurd h.0
over_opened frames nodes rows place at bs (b ∷ w) at1 bs1 d h =
    let r : Read = read_of frames nodes rows in
    ap (run (opened place) r at) h.1
    ∙ by_step (opened place) r at b (w ++ bs1) (start_name place (b ∷ [])) r (begins_name frames place r at b d h.0.0)
    ∙ run_loop is_name (start_name place) r (λ done i c q. rw q refl) w (b ∷ []) (at + 1) bs1 h.0.1
    ∙ ap (λ n. run (start_name place (b ∷ w)) r n bs1) (omega (arith, h.2))

start_colon_at : (place : ℕ) (name : List ℕ) (r : Read) (at : ℕ) (bs : List ℕ) → begins is_name bs ≡ false
    → begins (is_byte 58) bs ≡ true → run (start_name place name) r at bs ≡ Err (unsupported at)
start_colon_at place name r at [] e c = cc
start_colon_at place name r at (b ∷ bs) e c = refuses (start_name place name) r at b bs (rw (e, c) refl)

-- a `:` after the name
pub start_colon : (frames : List Frame) (nodes : List Node) (rows : List Attribute) (place at : ℕ) (bs name : List ℕ)
    (at1 : ℕ) (bs1 : List ℕ) → length frames < 32 → TakesName at bs name at1 bs1 → begins (is_byte 58) bs1 ≡ true
    → run (opened place) (read_of frames nodes rows) at bs ≡ Err (unsupported at1)
start_colon frames nodes rows place at bs name at1 bs1 d h c =
    over_opened frames nodes rows place at bs name at1 bs1 d h
    ∙ start_colon_at place name (read_of frames nodes rows) at1 bs1 h.3 c

-- an element too deep
pub too_many : (frames : List Frame) (nodes : List Node) (rows : List Attribute) (place at : ℕ) (bs name : List ℕ)
    (at1 : ℕ) (bs1 : List ℕ) → 32 ≤ length frames → TakesName at bs name at1 bs1
    → run (opened place) (read_of frames nodes rows) at bs ≡ Err (too_deep place)
too_many frames nodes rows place at bs [] at1 bs1 d h = absurd h.0
too_many [] nodes rows place at bs (b ∷ w) at1 bs1 d h = absurd (omega arith)
too_many (f ∷ fs) nodes rows place at bs (b ∷ w) at1 bs1 d h =
    let r : Read = read_of (f ∷ fs) nodes rows in
    let many : ltb (length (f ∷ fs)) 32 ≡ false = grind (arith, nat_tests) in
    ap (run (opened place) r at) h.1
    ∙ refuses (opened place) r at b (w ++ bs1) (rw (h.0.0, many) refl)

-- no tag at all
pub not_named : (frames : List Frame) (nodes : List Node) (rows : List Attribute) (place at : ℕ) (bs : List ℕ)
    → NoOtherTag frames bs → begins is_first bs ≡ false
    → run (opened place) (read_of frames nodes rows) at bs ≡ Err (unopened place at bs)
not_named frames nodes rows place at [] n e = refl
not_named [] nodes rows place at (b ∷ bs) n e = refuses (opened place) (read_of [] nodes rows) at b bs (rw (e, n) refl)
not_named (f ∷ fs) nodes rows place at (b ∷ bs) n e =
    refuses (opened place) (read_of (f ∷ fs) nodes rows) at b bs (rw (e, n.1, n.0) refl)

pub over_start_name : (frames : List Frame) (nodes : List Node) (rows : List Attribute) (place at : ℕ)
    (bs name : List ℕ) (at1 : ℕ) (bs1 : List ℕ) (first : ℕ) → first ≡ length rows → length frames < 32
    → TakesName at bs name at1 bs1 → begins (is_byte 58) bs1 ≡ false
    → run (opened place) (read_of frames nodes rows) at bs
    ≡ run (valued (bare place name first)) (read_of frames nodes rows) at1 bs1
over_start_name frames nodes rows place at bs name at1 bs1 first e d h c =
    over_opened frames nodes rows place at bs name at1 bs1 d h
    ∙ name_left place name (read_of frames nodes rows) at1 bs1 h.3 c
    ∙ ap (λ n. run (valued (bare place name n)) (read_of frames nodes rows) at1 bs1) (sym e)

pub length_frames : (stack : List OpenElement) → length (frames_of stack) ≡ length stack
length_frames stack = simp (length-map, length-reverse)

pub no_tag : (f : Frame) (fs : List Frame) (nodes : List Node) (rows : List Attribute) (at : ℕ) (bs : List ℕ)
    → begins is_text bs ≡ false → NoPiece bs → begins (is_byte 60) bs ≡ false
    → run content (read_of (f ∷ fs) nodes rows) at bs ≡ Err (bad_markup at)
no_tag f fs nodes rows at [] e k d = refl
no_tag f fs nodes rows at (b ∷ bs) e k d = refuses content (read_of (f ∷ fs) nodes rows) at b bs
    (rw (e, d, k.0, k.1) refl)

pub over_open : (f : Frame) (fs : List Frame) (nodes : List Node) (rows : List Attribute) (at : ℕ) (bs : List ℕ)
    (at1 : ℕ) (bs1 : List ℕ) → (bs ≡ 60 ∷ bs1) × (at1 ≡ at + 1)
    → run content (read_of (f ∷ fs) nodes rows) at bs ≡ run (opened at) (read_of (f ∷ fs) nodes rows) at1 bs1
over_open f fs nodes rows at bs at1 bs1 h = one content (read_of (f ∷ fs) nodes rows) at bs 60 at1 bs1 (opened at)
    (read_of (f ∷ fs) nodes rows) h.0 h.1 refl

pub over_slash : (f : Frame) (fs : List Frame) (nodes : List Node) (rows : List Attribute) (place at : ℕ) (bs : List ℕ)
    (at1 : ℕ) (bs1 : List ℕ) → (bs ≡ 47 ∷ bs1) × (at1 ≡ at + 1)
    → run (opened place) (read_of (f ∷ fs) nodes rows) at bs
    ≡ run (shut_begin place) (read_of (f ∷ fs) nodes rows) at1 bs1
over_slash f fs nodes rows place at bs at1 bs1 h =
    one (opened place) (read_of (f ∷ fs) nodes rows) at bs 47 at1 bs1 (shut_begin place) (read_of (f ∷ fs) nodes rows)
    h.0 h.1 refl

no_root_at : (at : ℕ) (bs : List ℕ) → begins is_white bs ≡ false → begins (is_byte 60) bs ≡ false
    → run content (read_of [] [] []) at bs ≡ Err (bad_markup at)
no_root_at at [] e d = refl
no_root_at at (b ∷ bs) e d = refuses content (read_of [] [] []) at b bs (rw (e, d) refl)

pub no_root : (whole : Outcome) (at : ℕ) (bs : List ℕ) → whole ≡ run content (read_of [] [] []) at bs
    → begins is_white bs ≡ false → begins (is_byte 60) bs ≡ false → whole ≡ Err (bad_markup at)
no_root whole at bs same e d = same ∙ no_root_at at bs e d

pub over_root : (stack : List OpenElement) (nodes : List Node) (rows : List Attribute) (whole : Outcome) (at1 : ℕ)
    (bs1 : List ℕ) (at2 : ℕ) (bs2 : List ℕ) → stack ≡ [] → nodes ≡ [] → rows ≡ []
    → whole ≡ run content (read_of [] [] []) at1 bs1 → (bs1 ≡ 60 ∷ bs2) × (at2 ≡ at1 + 1)
    → whole ≡ run (opened at1) (read_of (frames_of stack) nodes rows) at2 bs2
over_root stack nodes rows whole at1 bs1 at2 bs2 e d k same m =
    same
    ∙ one content (read_of [] [] []) at1 bs1 60 at2 bs2 (opened at1) (read_of [] [] []) m.0 m.1 refl
    ∙ ap (λ (x : List OpenElement). run (opened at1) (read_of (frames_of x) [] []) at2 bs2) (sym e)
    ∙ ap (λ (x : List Node). run (opened at1) (read_of (frames_of stack) x []) at2 bs2) (sym d)
    ∙ ap (λ (x : List Attribute). run (opened at1) (read_of (frames_of stack) nodes x) at2 bs2) (sym k)
