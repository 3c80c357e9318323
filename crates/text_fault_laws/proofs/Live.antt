-- From each phase that the machine reaches there are bytes that lead it to the end of a text, except in an
-- end tag, in a number, and in a word of markup that is not supported.
use Rattle.std.proofs.Common.{◌≡◌, ℕ, ◌+◌, true, List, [], ◌∷◌}
use Rattle.std.proofs.Common.{◌++◌, length, Ok, refl, sym, ◌∙◌, subst, arith}
use Rattle.std.proofs.lemmas.Slice.Eq.{bytes_eq-Decides}
use Rattle.std.specs.Str.{bytes_eq}
use Rattle.xhstt_text.specs.Bytes.{IsName}
use Rattle.xhstt_text.specs.Document.{Rows}
use Rattle.xhstt_text.specs.Machine.{Frame, Read, Tag, Phase, content, ended}
use Rattle.xhstt_text.specs.Machine.{opened, start_name}
use Rattle.xhstt_text.specs.Machine.{slash, shut_begin, shut, shut_gap}
use Rattle.xhstt_text.specs.Machine.{state, resume, add_node, opened_row}
use Rattle.xhstt_text.specs.Machine.{close_element, start_of, step}
use Rattle.xhstt_text.specs.Machine.{run}
use Rattle.xhstt_text.proofs.Runs.{by_step}
use Rattle.xhstt_text.proofs.Complete.{run_shut_name}
use Rattle.xhstt_text.proofs.Sound.{names_of}
use Rattle.text_fault_laws.specs.Fronts.{end_tags}

-- some bytes lead from here to the end of a text
abbrev pub Live : Phase → Read → Type 0
Live p r = (at : ℕ) → (more : List ℕ) × (rows : Rows) × (run p r at more ≡ Ok rows)

-- by one byte more
pub goes_on : (p : Phase) (r : Read) (b : ℕ) (q : ℕ → Phase) (s : ℕ → Read)
    → ((at : ℕ) → step p r at b ≡ state (q at) (s at)) → ((at : ℕ) → Live (q at) (s at)) → Live p r
goes_on p r b q s e live at =
    let l = live at (at + 1) in (b ∷ l.0, l.1, by_step p r at b l.0 (q at) (s at) (e at) ∙ l.2)

-- each open element has a name
abbrev pub AreNamed : List Frame → Type 0
AreNamed [] = Unit {0}
AreNamed (f ∷ fs) = IsName f.name × AreNamed fs

pub live_ended : (r : Read) → Live ended r
live_ended r at = ([], record { nodes = r.nodes; attributes = r.attributes }, refl)

live_slash : (t : Tag) (r : Read) → ((s : Read) → s.frames ≡ r.frames → Live (resume r.frames) s) → Live (slash t) r
live_slash t r on = goes_on (slash t) r 62 (λ at. resume r.frames) (λ at. add_node r (opened_row t r (at + 1)))
    (λ at. refl) (λ at. on (add_node r (opened_row t r (at + 1))) refl)

-- before the outermost element
pub live_outside : (r : Read) → r.frames ≡ [] → Live content r
live_outside r none =
    subst (λ fs. Live content (record r { frames = fs })) (sym none)
    (let s : Read = record r { frames = [] } in
    goes_on content s 60 (λ at. opened at) (λ at. s) (λ at. refl)
    (λ at. goes_on (opened at) s 97 (λ i. start_name at (97 ∷ [])) (λ i. s) (λ i. refl)
    (λ i. goes_on (start_name at (97 ∷ [])) s 47 (λ j. slash (start_of at (97 ∷ []) s)) (λ j. s) (λ j. refl)
    (λ j. live_slash (start_of at (97 ∷ []) s) s (λ q _. live_ended q)))))

same_name : (n : List ℕ) → bytes_eq n n ≡ true
same_name n = grind (arith, bytes_eq-Decides)

-- over the name of an end tag and a white
pub over_name : (place : ℕ) (name : List ℕ) (f : Frame) (fs : List Frame) (r : Read) → r.frames ≡ f ∷ fs → IsName name
    → (at : ℕ) (rest : List ℕ) → run (shut_begin place) r at (name ++ (32 ∷ rest))
    ≡ run (shut_gap place name) r (at + length name + 1) rest
over_name place name f fs r is h at rest =
    run_shut_name r place at name (32 ∷ rest) h
    ∙ by_step (shut place name) r (at + length name) 32 rest (shut_gap place name) r (rw is refl)

over_shut : (place : ℕ) (f : Frame) (fs : List Frame) (r : Read) → r.frames ≡ f ∷ fs → IsName f.name → (at : ℕ)
    (rest : List ℕ) → run (shut_begin place) r at (f.name ++ (32 ∷ 62 ∷ rest))
    ≡ run (resume fs) (close_element f fs r place) (at + length f.name + 1 + 1) rest
over_shut place f fs r is h at rest =
    over_name place f.name f fs r is h at (62 ∷ rest)
    ∙ by_step (shut_gap place f.name) r (at + length f.name + 1) 62 rest (resume fs) (close_element f fs r place)
    (rw (is, same_name f.name) refl)

pub open_tag : (f : Frame) (fs : List Frame) (r : Read) → r.frames ≡ f ∷ fs → (at : ℕ) (rest : List ℕ)
    → run content r at (60 ∷ 47 ∷ rest) ≡ run (shut_begin at) r (at + 1 + 1) rest
open_tag f fs r is at rest =
    by_step content r at 60 (47 ∷ rest) (opened at) r (rw is refl)
    ∙ by_step (opened at) r (at + 1) 47 rest (shut_begin at) r (rw is refl)

-- over the end tags of these open elements
pub run_shut : (fs : List Frame) (place : ℕ) (f : Frame) (r : Read) → r.frames ≡ f ∷ fs → AreNamed (f ∷ fs) → (at : ℕ)
    → (rows : Rows) × (run (shut_begin place) r at (f.name ++ (32 ∷ 62 ∷ end_tags (names_of fs))) ≡ Ok rows)
run_shut [] place f r is h at =
    let s : Read = close_element f [] r place in
    (record { nodes = s.nodes; attributes = s.attributes }, over_shut place f [] r is h.0 at [])
run_shut (g ∷ gs) place f r is h at =
    let s : Read = close_element f (g ∷ gs) r place in
    let to : ℕ = at + length f.name + 1 + 1 in
    let rest : List ℕ = g.name ++ (32 ∷ 62 ∷ end_tags (names_of gs)) in
    let l = run_shut gs to g s refl h.1 (to + 1 + 1) in
    (l.0, over_shut place f (g ∷ gs) r is h.0 at (60 ∷ 47 ∷ rest) ∙ open_tag g gs s refl to rest ∙ l.1)

pub run_tags : (f : Frame) (fs : List Frame) (r : Read) → r.frames ≡ f ∷ fs → AreNamed (f ∷ fs) → (at : ℕ)
    → (rows : Rows) × (run content r at (end_tags (names_of (f ∷ fs))) ≡ Ok rows)
run_tags f fs r is h at =
    let l = run_shut fs at f r is h (at + 1 + 1) in
    (l.0, open_tag f fs r is at (f.name ++ (32 ∷ 62 ∷ end_tags (names_of fs))) ∙ l.1)

pub live_shut : (place : ℕ) (f : Frame) (fs : List Frame) (r : Read) → r.frames ≡ f ∷ fs → AreNamed (f ∷ fs)
    → Live (shut_begin place) r
live_shut place f fs r is h at =
    let l = run_shut fs place f r is h at in (f.name ++ (32 ∷ 62 ∷ end_tags (names_of fs)), l.0, l.1)

-- inside these open elements, and after a tag inside of them
pub live_content : (fs : List Frame) (r : Read) → r.frames ≡ fs → AreNamed fs → Live content r
live_content [] r is h = live_outside r is
live_content (f ∷ fs) r is h =
    λ at. let l = run_tags f fs r is h at in (end_tags (names_of (f ∷ fs)), l.0, l.1)

pub live_resume : (fs : List Frame) (r : Read) → r.frames ≡ fs → AreNamed fs → Live (resume fs) r
live_resume [] r is h = live_ended r
live_resume (f ∷ fs) r is h = live_content (f ∷ fs) r is h
