-- Where a `<` is read, and what the machine says of other markup.
use Rattle.std.proofs.Common.{◌≡◌, ℕ, ◌+◌, true, false, leb, List, [], ◌∷◌, ◌++◌, length}
use Rattle.std.proofs.Common.{Ok, Err, refl, sym, ◌∙◌, ap, subst, inl, inr, append_assoc}
use Rattle.xhstt_text.specs.Document.{has_name}
use Rattle.xhstt_text.specs.Faults.{bad_markup, bad_reference, unsupported}
use Rattle.xhstt_text.specs.Machine.{content, ended, beginning, at_declaration, declared_open, opened, ended_open}
use Rattle.xhstt_text.specs.Machine.{in_comment, in_declaration, in_value, word, question, other_word, shut, shut_gap}
use Rattle.xhstt_text.specs.Machine.{attribute_name, bang, early, late, Region, Phase, Read, State, Frame, phase_of}
use Rattle.xhstt_text.specs.Machine.{closed, refused, state, step, step_opened, step_content, run, outcome_of}
use Rattle.xhstt_text.proofs.Runs.{by_step}
use Rattle.xhstt_text.proofs.Sound.{no}
use Rattle.text_fault_laws.specs.Fronts.{InstructionAt, IsFront, IsOtherWord, OtherMarkupAt}
use Rattle.text_fault_laws.proofs.Begun.{Usual, blocked, either_refused, front_arrives, one_back, past_dash}
use Rattle.text_fault_laws.proofs.Begun.{usual_phase}
use Rattle.text_fault_laws.proofs.Forth.{history}
use Rattle.text_fault_laws.proofs.Inside.{less_is_no_key, less_after_less, less_is_no_quote, less_in_end_tag}
use Rattle.text_fault_laws.proofs.LiveParts.{opened_bang, over_dash}
use Rattle.text_fault_laws.proofs.Known.{Past, alive, front_of}
use Rattle.text_fault_laws.proofs.Live.{AreNamed}
use Rattle.text_fault_laws.proofs.LiveParts.{live_comment, live_in_declaration, live_question}
use Rattle.text_fault_laws.proofs.Reach.{Reaches, over, push, reached, reads, refuses}

-- after the `<` at this place
abbrev Opens : ℕ → Phase → Type 0
Opens at (declared_open place) = place ≡ at
Opens at (opened place) = place ≡ at
Opens at (ended_open place) = place ≡ at
Opens at (in_comment place count) = Unit {0}
Opens at (in_declaration seen) = Unit {0}
Opens at _ = ⊥

opening : (at : ℕ) (p : Phase) (r : Read) (s : State) → Opens at p → state p r ≡ Ok s → Opens at s.phase
opening at p r s k e =
    let same : record { phase = p; read = r } ≡ s = cc in subst (λ (x : State). Opens at x.phase) same k

less_in_content : (fs : List Frame) (r : Read) (at : ℕ) (s : State) → step_content fs r at 60 ≡ Ok s → Opens at s.phase
less_in_content [] r at s e = opening at (opened at) r s refl e
less_in_content (f ∷ fs) r at s e = opening at (opened at) r s refl e

opens : (p : Phase) (r : Read) (q : List ℕ) (at : ℕ) (s : State) → Past p r.frames q → Usual p → step p r at 60 ≡ Ok s
    → Opens at s.phase
opens beginning r q at s k u e = opening at (declared_open at) r s refl e
opens at_declaration r q at s k u e = opening at (declared_open at) r s refl e
opens content r q at s k u e = less_in_content r.frames r at s e
opens ended r q at s k u e = opening at (ended_open at) r s refl e
opens (in_comment place count) r q at s k u e =
    opening at (in_comment place 0) r s tt (past_dash (leb 2 count) (state (phase_of place) r)
    (state (in_comment place 0) r) s e)
opens (in_declaration seen) r q at s k u e =
    opening at (in_declaration false) r s tt (past_dash seen (state content (closed r)) (state (in_declaration false) r)
    s e)
opens (in_value t place name quote from) r q at s k u e =
    blocked (step (in_value t place name quote from) r at 60) (bad_markup at) s (rw (less_is_no_quote quote k.1) refl) e
opens (opened place) r q at s k u e = blocked (step (opened place) r at 60) (bad_markup at) s
    (less_after_less r.frames place r at) e
opens (shut place name) r q at s k u e =
    blocked (step (shut place name) r at 60) (bad_markup at) s (less_in_end_tag r.frames place name r at) e
opens (shut_gap place name) r q at s k u e =
    blocked (step (shut_gap place name) r at 60) (bad_markup at) s (less_in_end_tag r.frames place name r at) e
opens (attribute_name t place name) r q at s k u e =
    either_refused (has_name name t.names) (bad_markup place) (bad_markup at) s e
opens (word place [] w) r q at s k u e = no s e
opens (word place (l ∷ []) w) r q at s k u e =
    blocked (step (word place (l ∷ []) w) r at 60) (bad_reference place) s (rw (less_is_no_key l k.2.0) refl) e
opens (word place (l ∷ m ∷ ks) w) r q at s k u e =
    blocked (step (word place (l ∷ m ∷ ks) w) r at 60) (bad_reference place) s (rw (less_is_no_key l k.2.0) refl) e
opens (question []) r q at s k u e = no s e
opens (question (l ∷ ks)) r q at s k u e =
    blocked (step (question (l ∷ ks)) r at 60) (bad_markup at) s (rw (less_is_no_key l k.0) refl) e
opens (other_word place first ks) r q at s k u e = absurd u
opens p r q at s k u e = no s e

-- after a `<` that some text goes on from
record Opened (x : List ℕ) : Type 0 where
  phase : Phase
  read : Read
  here : Reaches (x ++ 60 ∷ []) phase read
  open_at : Opens (length x) phase

opened_front : (x : List ℕ) → IsFront (x ++ 60 ∷ []) → Opened x
opened_front x front =
    let a = front_arrives (x ++ 60 ∷ []) front in
    let b = one_back x 60 a.phase a.read a.here in
    record {
      phase = a.phase;
      read = a.read;
      here = a.here;
      open_at = opens b.phase b.read x (length x) (record { phase = a.phase; read = a.read })
          (history x b.phase b.read b.here).1
          (usual_phase b.phase b.read x b.here (front_of x (60 ∷ []) front)) b.goes;
    }

-- no instruction stands there
question_after_less : (fs : List Frame) (place : ℕ) (r : Read) (at : ℕ)
    → step_opened fs place r at 63 ≡ refused (unsupported place)
question_after_less [] place r at = refl
question_after_less (f ∷ fs) place r at = refl

instruction : (p : Phase) (r : Read) (q : List ℕ) (at : ℕ) → Reaches q p r → AreNamed r.frames → Opens at p
    → (IsFront (q ++ 63 ∷ []) → ⊥) → step p r (length q) 63 ≡ refused (unsupported at)
instruction (declared_open place) r q at here h k never =
    let t : Phase = question (120 ∷ 109 ∷ 108 ∷ []) in
    absurd (never (alive (q ++ 63 ∷ []) t r (push q (declared_open place) r 63 (record { phase = t; read = r }) here
    refl)
    (live_question (120 ∷ 109 ∷ 108 ∷ []) r)))
instruction (opened place) r q at here h k never =
    question_after_less r.frames place r (length q) ∙ ap (λ n. refused (unsupported n)) k
instruction (ended_open place) r q at here h k never = ap (λ n. refused (unsupported n)) k
instruction (in_comment place count) r q at here h k never =
    let t : Phase = in_comment place 0 in
    absurd (never (alive (q ++ 63 ∷ []) t r (push q (in_comment place count) r 63 (record { phase = t; read = r }) here
    (over_dash (leb 2 count) _ _)) (live_comment place 0 r h)))
instruction (in_declaration seen) r q at here h k never =
    let t : Phase = in_declaration true in
    absurd (never (alive (q ++ 63 ∷ []) t r (push q (in_declaration seen) r 63 (record { phase = t; read = r }) here
    (over_dash seen _ _)) (live_in_declaration true r)))
instruction _ r q at here h k never = absurd k

pub instruction_ends : (bytes : List ℕ) (at : ℕ) → InstructionAt bytes at → outcome_of bytes ≡ Err (unsupported at)
instruction_ends bytes at (x, rest, same, is, front, never) =
    let o = opened_front x front in
    let q : List ℕ = x ++ 60 ∷ [] in
    ap outcome_of same
    ∙ refuses q o.phase o.read 63 rest (unsupported (length x)) o.here
    (instruction o.phase o.read q (length x) o.here (history q o.phase o.read o.here).0 o.open_at never)
    ∙ ap (λ n. Err (unsupported n)) (sym is)

-- a word of other markup
word_run : (mark rest : List ℕ) (place : ℕ) (p : Region) (r : Read) (at : ℕ) → IsOtherWord mark
    → run (bang place p) r at (mark ++ rest) ≡ Err (unsupported place)
word_run mark rest place p r at (inl e) = ap (λ w. run (bang place p) r at (w ++ rest)) e ∙ letters rest place p r at
  where
    letters : (rest : List ℕ) (place : ℕ) (p : Region) (r : Read) (at : ℕ)
        → run (bang place p) r at (68 ∷ 79 ∷ 67 ∷ 84 ∷ 89 ∷ 80 ∷ 69 ∷ rest) ≡ Err (unsupported place)
    letters [] place p r at = refl
    letters (b ∷ bs) place p r at = refl
word_run mark rest place p r at (inr e) = ap (λ w. run (bang place p) r at (w ++ rest)) e ∙ letters rest place p r at
  where
    letters : (rest : List ℕ) (place : ℕ) (p : Region) (r : Read) (at : ℕ)
        → run (bang place p) r at (91 ∷ 67 ∷ 68 ∷ 65 ∷ 84 ∷ 65 ∷ 91 ∷ rest) ≡ Err (unsupported place)
    letters [] place p r at = refl
    letters (b ∷ bs) place p r at = refl

comment_word : (mark : List ℕ) (place : Region) (r : Read) (at : ℕ) → IsOtherWord mark
    → reached (in_comment place 0) r at mark ≡ state (in_comment place 0) r
comment_word mark place r at (inl e) = ap (reached (in_comment place 0) r at) e
comment_word mark place r at (inr e) = ap (reached (in_comment place 0) r at) e

declared_word : (mark : List ℕ) (r : Read) (at : ℕ) → IsOtherWord mark
    → reached (in_declaration false) r at mark ≡ state (in_declaration false) r
declared_word mark r at (inl e) = ap (reached (in_declaration false) r at) e
declared_word mark r at (inr e) = ap (reached (in_declaration false) r at) e

other_markup : (p : Phase) (r : Read) (q mark rest : List ℕ) (at : ℕ) → Reaches q p r → AreNamed r.frames → Opens at p
    → IsOtherWord mark → (IsFront ((q ++ 33 ∷ []) ++ mark) → ⊥)
    → run p r (length q) (33 ∷ (mark ++ rest)) ≡ Err (unsupported at)
other_markup (declared_open place) r q mark rest at here h k is never =
    by_step (declared_open place) r (length q) 33 (mark ++ rest) (bang place early) (closed r) refl
    ∙ word_run mark rest place early (closed r) (length q + 1) is ∙ ap (λ n. Err (unsupported n)) k
other_markup (opened place) r q mark rest at here h k is never =
    by_step (opened place) r (length q) 33 (mark ++ rest) (bang place early) r (opened_bang r.frames place r (length q))
    ∙ word_run mark rest place early r (length q + 1) is ∙ ap (λ n. Err (unsupported n)) k
other_markup (ended_open place) r q mark rest at here h k is never =
    by_step (ended_open place) r (length q) 33 (mark ++ rest) (bang place late) r refl
    ∙ word_run mark rest place late r (length q + 1) is ∙ ap (λ n. Err (unsupported n)) k
other_markup (in_comment place count) r q mark rest at here h k is never =
    let t : Phase = in_comment place 0 in
    let next = push q (in_comment place count) r 33 (record { phase = t; read = r }) here
    (over_dash (leb 2 count) _ _) in
    absurd (never (alive ((q ++ 33 ∷ []) ++ mark) t r (over (q ++ 33 ∷ []) mark t r next
    ∙ comment_word mark place r (length (q ++ 33 ∷ [])) is) (live_comment place 0 r h)))
other_markup (in_declaration seen) r q mark rest at here h k is never =
    let t : Phase = in_declaration false in
    let next = push q (in_declaration seen) r 33 (record { phase = t; read = r }) here (over_dash seen _ _) in
    absurd (never (alive ((q ++ 33 ∷ []) ++ mark) t r (over (q ++ 33 ∷ []) mark t r next
    ∙ declared_word mark r (length (q ++ 33 ∷ [])) is) (live_in_declaration false r)))
other_markup _ r q mark rest at here h k is never = absurd k

pub other_markup_ends : (bytes : List ℕ) (at : ℕ) → OtherMarkupAt bytes at → outcome_of bytes ≡ Err (unsupported at)
other_markup_ends bytes at (x, mark, rest, is_word, same, is, front, never) =
    let q : List ℕ = x ++ 60 ∷ [] in
    let split : q ++ 33 ∷ [] ≡ x ++ 60 ∷ 33 ∷ [] = append_assoc x (60 ∷ []) (33 ∷ []) in
    let o = opened_front x (front_of q (33 ∷ []) (subst IsFront (sym split) front)) in
    let whole : bytes ≡ q ++ (33 ∷ (mark ++ rest)) =
    same ∙ ap (λ y. (y ++ mark) ++ rest) (sym split) ∙ append_assoc (q ++ 33 ∷ []) mark rest
    ∙ append_assoc q (33 ∷ []) (mark ++ rest) in
    ap outcome_of whole
    ∙ reads q o.phase o.read o.here (33 ∷ (mark ++ rest))
    ∙ other_markup o.phase o.read q mark rest (length x) o.here (history q o.phase o.read o.here).0 o.open_at is_word
    (λ f. never (subst (λ y. IsFront (y ++ mark)) split f))
    ∙ ap (λ n. Err (unsupported n)) (sym is)
