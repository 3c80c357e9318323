-- In bytes that the machine reads nothing is wrong by itself, and it reads those in which nothing is.
use Rattle.std.proofs.Common.{◌≡◌, ℕ, ◌+◌, ◌*◌, Bool, true, false, cond, ◌&&◌, leb, eqb, List, [], ◌∷◌, ◌++◌}
use Rattle.std.proofs.Common.{length}
use Rattle.std.proofs.Common.{Ok, refl, sym, ◌∙◌, ap, subst, inl, inr, arith, append_assoc, append-nil}
use Rattle.std.proofs.lemmas.Bool.Decides.{nat_tests}
use Rattle.xhstt_text.specs.Bytes.{is_name, is_white, is_quote, AllAre, IsName, IsWhite}
use Rattle.xhstt_text.specs.Units.{less, greater, ampersand, apostrophe, quotation, Piece, wide}
use Rattle.xhstt_text.specs.Units.{named as named_entity, decimal, hexadecimal, piece_text, is_decimal, is_hexadecimal}
use Rattle.xhstt_text.specs.Units.{digit, is_character, number_from}
use Rattle.xhstt_text.specs.Document.{has_name, table}
use Rattle.xhstt_text.proofs.Complete.{run_document}
use Rattle.xhstt_text.specs.Machine.{outcome_of}
use Rattle.xhstt_text.specs.Faults.{bad_markup, bad_reference, no_comment}
use Rattle.xhstt_text.specs.Machine.{closed, phase_of}
use Rattle.xhstt_text.specs.Machine.{Within, in_text, in_quotes, after_piece, after_number, wide_1, wide_2, reference}
use Rattle.xhstt_text.specs.Machine.{reference_a, word, hash, hash_x, in_decimal, in_hexadecimal, beginning, mark_1}
use Rattle.xhstt_text.specs.Machine.{mark_2, at_declaration, declared_open, question, in_declaration, other_word}
use Rattle.xhstt_text.specs.Machine.{no_character, Frame, Read, Phase, content, ended, ended_open, bang, bang_dash}
use Rattle.xhstt_text.specs.Machine.{in_comment, opened, start_name, valued, in_tag, slash, attribute_name, named}
use Rattle.xhstt_text.specs.Machine.{equals, in_value, shut_begin, shut, shut_gap, State, Step, refused, state, noted}
use Rattle.xhstt_text.specs.Machine.{step, step_content, step_opened, step_shut}
use Rattle.xhstt_text.specs.declared.faults.TextFault.{TextFault}
use Rattle.xhstt_text.proofs.Pieces.{decimal_isnt_x}
use Rattle.xhstt_text.proofs.Runs.{white_isnt_name, white_isnt_colon}
use Rattle.xhstt_text.proofs.Sound.{names_of, no}
use Rattle.text_fault_laws.specs.Fronts.{IsFront, MayRefer, HasReferenceForm, EndsInReference}
use Rattle.text_fault_laws.specs.Fronts.{EndsInEndTag, IsBegun}
use Rattle.text_fault_laws.proofs.Live.{AreNamed, Live, live_ended, live_content, live_shut}
use Rattle.text_fault_laws.proofs.LiveParts.{live_comment, live_bang, live_bang_dash, live_ended_open, live_opened}
use Rattle.text_fault_laws.proofs.LiveParts.{live_slash, live_valued, live_in_tag, live_start_name, live_value}
use Rattle.text_fault_laws.proofs.LiveParts.{live_equals}
use Rattle.text_fault_laws.proofs.LiveParts.{live_named, live_attribute_name, live_wide_1, live_wide_2, live_word}
use Rattle.text_fault_laws.proofs.LiveParts.{live_reference, live_reference_a, live_hash, live_hash_x}
use Rattle.text_fault_laws.proofs.LiveParts.{live_in_declaration}
use Rattle.text_fault_laws.proofs.LiveParts.{live_question, live_declared_open, live_at_declaration, live_beginning}
use Rattle.text_fault_laws.proofs.LiveParts.{live_mark_1, live_mark_2}
use Rattle.text_fault_laws.proofs.Forth.{history, other_lost}
use Rattle.text_fault_laws.proofs.Inside.{inside_reaches}
use Rattle.text_fault_laws.proofs.LiveParts.{over_dash}
use Rattle.text_fault_laws.proofs.Known.{Inner, Past, Shutting, alive, front_of, is_key}
use Rattle.text_fault_laws.proofs.Reach.{Reaches, comes, front_reaches, over, reached, reached_append, reached_prefix}
use Rattle.text_fault_laws.proofs.Reach.{reads}
use Rattle.text_fault_laws.proofs.Reach.{push, start, then}

-- the phases but the one that no text leads through
abbrev pub Usual : Phase → Type 0
Usual (other_word place first ks) = ⊥
Usual _ = Unit {0}

shutting_ends : (fs : List Frame) (place : ℕ) (name w q : List ℕ) → Shutting place name w fs q → EndsInEndTag q
shutting_ends [] place name w q k = absurd k.1
shutting_ends (f ∷ fs) place name w q (p, inside, is, hn, hw, same) =
    (f.name, names_of fs, p, name, w, inside, hn, hw, same)

live_begin : (fs : List Frame) (place : ℕ) (r : Read) (p : List ℕ) → r.frames ≡ fs → Inner fs p → AreNamed fs
    → Live (shut_begin place) r
live_begin [] place r p same k h = absurd k
live_begin (f ∷ fs) place r p same k h = live_shut place f fs r same h

-- nothing in what was read is wrong by itself
begun : (p : Phase) (r : Read) (q : List ℕ) → Reaches q p r → AreNamed r.frames → Past p r.frames q → Usual p
    → IsBegun q
begun beginning r q here h k u = inl (alive q beginning r here (live_beginning r))
begun mark_1 r q here h k u = inl (alive q mark_1 r here (live_mark_1 r))
begun mark_2 r q here h k u = inl (alive q mark_2 r here (live_mark_2 r))
begun at_declaration r q here h k u = inl (alive q at_declaration r here (live_at_declaration r))
begun (declared_open place) r q here h k u = inl (alive q (declared_open place) r here (live_declared_open place r))
begun (question ks) r q here h k u = inl (alive q (question ks) r here (live_question ks r))
begun (in_declaration seen) r q here h k u =
    inl (alive q (in_declaration seen) r here (live_in_declaration seen r))
begun content r q here h k u = inl (alive q content r here (live_content r.frames r refl h))
begun ended r q here h k u = inl (alive q ended r here (live_ended r))
begun (ended_open place) r q here h k u = inl (alive q (ended_open place) r here (live_ended_open place r h))
begun (bang place p) r q here h k u = inl (alive q (bang place p) r here (live_bang place p r h))
begun (other_word place first ks) r q here h k u = absurd u
begun (bang_dash p) r q here h k u = inl (alive q (bang_dash p) r here (live_bang_dash p r h))
begun (in_comment p count) r q here h k u = inl (alive q (in_comment p count) r here (live_comment p count r h))
begun (opened place) r q here h k u = inl (alive q (opened place) r here (live_opened place r h))
begun (start_name place name) r q here h k u =
    inl (alive q (start_name place name) r here (live_start_name place name r h))
begun (valued t) r q here h k u = inl (alive q (valued t) r here (live_valued t r h))
begun (in_tag t) r q here h k u = inl (alive q (in_tag t) r here (live_in_tag t r h))
begun (slash t) r q here h k u = inl (alive q (slash t) r here (live_slash t r h))
begun (attribute_name t place name) r q here h k u =
    inl (alive q (attribute_name t place name) r here (live_attribute_name t place name r h))
begun (named t place name) r q here h k u = inl (alive q (named t place name) r here (live_named t place name r h))
begun (equals t place name) r q here h k u = inl (alive q (equals t place name) r here (live_equals t place name r h))
begun (in_value t place name quote from) r q here h k u =
    inl (alive q (in_value t place name quote from) r here (live_value t place name quote from r h))
begun (wide_1 w) r q here h k u = inl (alive q (wide_1 w) r here (live_wide_1 w r h))
begun (wide_2 greatest w) r q here h k u = inl (alive q (wide_2 greatest w) r here (live_wide_2 greatest w r h))
begun (reference place w) r q here h k u = inl (alive q (reference place w) r here (live_reference place w r h))
begun (reference_a place w) r q here h k u = inl (alive q (reference_a place w) r here (live_reference_a place w r h))
begun (word place [] w) r q here h k u = absurd k.1
begun (word place (l ∷ ks) w) r q here h k u = inl (alive q (word place (l ∷ ks) w) r here (live_word place l ks w r h))
begun (hash place w) r q here h k u = inl (alive q (hash place w) r here (live_hash place w r h))
begun (hash_x place w) r q here h k u = inl (alive q (hash_x place w) r here (live_hash_x place w r h))
begun (in_decimal place n w) r q here h (held, ds, are, (before, is, may, same, leads)) u =
    inr (inr (before, 35 ∷ ds, may, (decimal ds, 59 ∷ [], are, refl), same))
begun (in_hexadecimal place n w) r q here h (held, ds, are, (before, is, may, same, leads)) u =
    inr (inr (before, 35 ∷ 120 ∷ ds, may, (hexadecimal ds, 59 ∷ [], are, refl), same))
begun (no_character place) r q here h (part, begins, (before, is, may, same, leads)) u =
    inr (inr (before, part, may, begins, same))
begun (shut_begin place) r q here h (p, inside, is, same) u =
    inl (alive q (shut_begin place) r here (live_begin r.frames place r p refl inside h))
begun (shut place name) r q here h k u = inr (inl (shutting_ends r.frames place name [] q k))
begun (shut_gap place name) r q here h k u = inr (inl (shutting_ends r.frames place name k.0 q k.1))

-- nothing in what the machine has read is wrong by itself
pub read_begun : (q : List ℕ) (p : Phase) (r : Read) → Reaches q p r → Usual p → IsBegun q
read_begun q p r here u = let h = history q p r here in begun p r q here h.0 h.1 u

-- the machine stands somewhere after the bytes, and in a usual phase
pub record Arrived (q : List ℕ) : Type 0 where
  pub phase : Phase
  pub read : Read
  pub here : Reaches q phase read
  pub usual : Usual phase

pub usual_phase : (p : Phase) (r : Read) (q : List ℕ) → Reaches q p r → IsFront q → Usual p
usual_phase (other_word place first ks) r q here (more, d, form, same) =
    other_lost more place first ks r (length q) (table d)
    (sym (reads q (other_word place first ks) r here more) ∙ ap outcome_of same ∙ run_document d form)
usual_phase _ r q here front = tt

pub front_arrives : (q : List ℕ) → IsFront q → Arrived q
front_arrives q front =
    let t = front_reaches q front in
    record {
      phase = t.0.phase;
      read = t.0.read;
      here = t.1;
      usual = usual_phase t.0.phase t.0.read q t.1 front;
    }

-- over bytes that keep the machine in a phase
pub reached_loop : (test : ℕ → Bool) (p : List ℕ → Phase) (r : Read)
    → ((done : List ℕ) (at b : ℕ) → test b ≡ true → step (p done) r at b ≡ state (p (done ++ b ∷ [])) r)
    → (w done : List ℕ) (at : ℕ) → AllAre test w → reached (p done) r at w ≡ state (p (done ++ w)) r
reached_loop test p r go [] done at h = ap (λ x. state (p x) r) (sym (append-nil done))
reached_loop test p r go (b ∷ w) done at h =
    ap (λ (c : Step). then c (λ s. reached s.phase s.read (at + 1) w)) (go done at b h.0)
    ∙ reached_loop test p r go w (done ++ b ∷ []) (at + 1) h.1
    ∙ ap (λ x. state (p x) r) (append_assoc done (b ∷ []) w)

-- over an end tag up to its `>`, in content
shut_name : (f : Frame) (fs : List Frame) (r : Read) (at place : ℕ) (name : List ℕ) → r.frames ≡ f ∷ fs → IsName name
    → reached (shut_begin place) r at name ≡ state (shut place name) r
shut_name f fs r at place [] is h = absurd h
shut_name f fs r at place (b ∷ w) is h =
    ap (λ (c : Step). then c (λ s. reached s.phase s.read (at + 1) w))
    (let e : step (shut_begin place) r at b ≡ state (shut place (b ∷ [])) r = rw h.0 refl in e)
    ∙ reached_loop is_name (shut place) r (λ done i c q. rw q refl) w (b ∷ []) (at + 1) h.1

-- after the name of an end tag and perhaps some white
pub record Shut (place : ℕ) (name : List ℕ) (r : Read) (at : ℕ) (bytes : List ℕ) : Type 0 where
  pub phase : Phase
  pub there : reached content r at bytes ≡ state phase r
  pub usual : Usual phase
  pub last : (i : ℕ) → step phase r i 62 ≡ step_shut r.frames place name r i 62

shut_white : (w : List ℕ) (f : Frame) (fs : List Frame) (r : Read) (place : ℕ) (name : List ℕ) (at i : ℕ) (x : List ℕ)
    → r.frames ≡ f ∷ fs → IsWhite w → reached content r at x ≡ state (shut place name) r
    → i ≡ at + length x → Shut place name r at (x ++ w)
shut_white [] f fs r place name at i x is h e n = record {
  phase = shut place name;
  there = ap (λ y. reached content r at y) (append-nil x) ∙ e;
  usual = tt;
  last = (λ i. refl);
}
shut_white (b ∷ w) f fs r place name at i x is h e n = record {
  phase = shut_gap place name;
  there = reached_append x (b ∷ w) content r at (record { phase = shut place name; read = r }) e
      ∙ ap (λ (c : Step). then c (λ s. reached s.phase s.read (at + length x + 1) w))
      (let d : step (shut place name) r (at + length x) b ≡ state (shut_gap place name) r =
      rw (white_isnt_name b h.0, white_isnt_colon b h.0, is, h.0) refl in d)
      ∙ reached_loop is_white (λ _. shut_gap place name) r (λ _ i b q. rw (is, q) refl) w [] (at + length x + 1) h.1;
  usual = tt;
  last = (λ i. refl);
}

-- over an end tag up to its `>`
pub shut_over : (fs : List Frame) (inner : List ℕ) (outer : List (List ℕ)) (r : Read) (at : ℕ) (name w : List ℕ)
    → r.frames ≡ fs → names_of fs ≡ inner ∷ outer → IsName name → IsWhite w
    → Shut at name r at (60 ∷ 47 ∷ (name ++ w))
shut_over [] inner outer r at name w is open_ones hn hw = cc
shut_over (f ∷ fs) inner outer r at name w is open_ones hn hw =
    shut_white w f fs r at name at (at + length (60 ∷ 47 ∷ name)) (60 ∷ 47 ∷ name) is hw
    (ap (λ (c : Step). then c (λ s. reached s.phase s.read (at + 1) (47 ∷ name)))
    (let e : step content r at 60 ≡ state (opened at) r = rw is refl in e)
    ∙ ap (λ (c : Step). then c (λ s. reached s.phase s.read (at + 1 + 1) name))
    (let e : step (opened at) r (at + 1) 47 ≡ state (shut_begin at) r = rw is refl in e)
    ∙ shut_name f fs r (at + 1 + 1) at name is hn) refl

end_tag_arrives : (q : List ℕ) → EndsInEndTag q → Arrived q
end_tag_arrives q (inner, outer, before, name, w, inside, hn, hw, same) =
    let c = inside_reaches before inner outer inside in
    let s = shut_over c.read.frames inner outer c.read (length before) name w refl c.open_ones hn hw in
    let tag : List ℕ = 60 ∷ 47 ∷ (name ++ w) in
    record {
      phase = s.phase;
      read = c.read;
      here = subst (λ x. Reaches x s.phase c.read) (sym same) (over before tag content c.read c.here ∙ s.there);
      usual = s.usual;
    }

pub cons_tail : (x y : List ℕ) → 38 ∷ x ≡ 38 ∷ y → x ≡ y
cons_tail x y e = cc

-- where a `&` is taken
abbrev Taken : ℕ → Phase → Type 0
Taken at (reference place w) = place ≡ at
Taken at (in_comment place count) = Unit {0}
Taken at (in_declaration seen) = Unit {0}
Taken at _ = ⊥

takes : (at : ℕ) (p : Phase) (r : Read) (s : State) → Taken at p → state p r ≡ Ok s → Taken at s.phase
takes at p r s k e = let same : record { phase = p; read = r } ≡ s = cc in ap_taken at p r s same k
  where
    ap_taken : (at : ℕ) (p : Phase) (r : Read) (s : State) → record { phase = p; read = r } ≡ s → Taken at p
        → Taken at s.phase
    ap_taken at p r s same k = subst (λ (x : State). Taken at x.phase) same k

-- no step goes on so
pub blocked : {G : Type 0} (x : Step) (f : TextFault) (s : State) → x ≡ refused f → x ≡ Ok s → G
blocked x f s e d = cc

ampersand_after_less : (fs : List Frame) (place : ℕ) (r : Read) (at : ℕ)
    → step_opened fs place r at 38 ≡ refused (bad_markup at)
ampersand_after_less [] place r at = refl
ampersand_after_less (f ∷ fs) place r at = refl

ampersand_in_end_tag : (fs : List Frame) (place : ℕ) (name : List ℕ) (r : Read) (at : ℕ)
    → step_shut fs place name r at 38 ≡ refused (bad_markup at)
ampersand_in_end_tag [] place name r at = refl
ampersand_in_end_tag (f ∷ fs) place name r at = refl

ampersand_in_content : (fs : List Frame) (r : Read) (at : ℕ) (s : State)
    → step_content fs r at 38 ≡ Ok s → Taken at s.phase
ampersand_in_content [] r at s e = no s e
ampersand_in_content (f ∷ fs) r at s e =
    takes at (reference at in_text) (record r { frames = noted f at 38 ∷ fs }) s refl e

pub either_refused : {G : Type 0} (c : Bool) (f g : TextFault) (s : State) → cond c (refused f) (refused g) ≡ Ok s → G
either_refused true f g s e = no s e
either_refused false f g s e = no s e

ampersand_is_no_quote : (quote : ℕ) → is_quote quote ≡ true → eqb 38 quote ≡ false
ampersand_is_no_quote quote h = grind (arith, nat_tests)

ampersand_is_no_key : (k : ℕ) → is_key k ≡ true → eqb 38 k ≡ false
ampersand_is_no_key k h = grind (arith, nat_tests)

pub past_dash : (c : Bool) (x y : Step) (s : State) → cond (c && false) x y ≡ Ok s → y ≡ Ok s
past_dash true x y s e = e
past_dash false x y s e = e

taken : (p : Phase) (r : Read) (q : List ℕ) (at : ℕ) (s : State) → Past p r.frames q → Usual p → step p r at 38 ≡ Ok s
    → Taken at s.phase
taken content r q at s k u e = ampersand_in_content r.frames r at s e
taken (in_comment place count) r q at s k u e =
    takes at (in_comment place 0) r s tt (past_dash (leb 2 count) (state (phase_of place) r)
    (state (in_comment place 0) r) s e)
taken (in_declaration seen) r q at s k u e =
    takes at (in_declaration false) r s tt (past_dash seen (state content (closed r)) (state (in_declaration false) r) s
    e)
taken (in_value t place name quote from) r q at s k u e =
    takes at (reference at (in_quotes t place name quote from)) r s refl
    (sym (let d : step (in_value t place name quote from) r at 38
    ≡ state (reference at (in_quotes t place name quote from)) r = rw (ampersand_is_no_quote quote k.1) refl in d) ∙ e)
taken (opened place) r q at s k u e = blocked (step (opened place) r at 38) (bad_markup at) s
    (ampersand_after_less r.frames place r at) e
taken (shut place name) r q at s k u e =
    blocked (step (shut place name) r at 38) (bad_markup at) s (ampersand_in_end_tag r.frames place name r at) e
taken (shut_gap place name) r q at s k u e =
    blocked (step (shut_gap place name) r at 38) (bad_markup at) s (ampersand_in_end_tag r.frames place name r at) e
taken (attribute_name t place name) r q at s k u e =
    either_refused (has_name name t.names) (bad_markup place) (bad_markup at) s e
taken (word place [] w) r q at s k u e = no s e
taken (word place (l ∷ []) w) r q at s k u e =
    blocked (step (word place (l ∷ []) w) r at 38) (bad_reference place) s (rw (ampersand_is_no_key l k.2.0) refl) e
taken (word place (l ∷ m ∷ ks) w) r q at s k u e =
    blocked (step (word place (l ∷ m ∷ ks) w) r at 38) (bad_reference place) s (rw (ampersand_is_no_key l k.2.0) refl) e
taken (question []) r q at s k u e = no s e
taken (question (l ∷ ks)) r q at s k u e =
    blocked (step (question (l ∷ ks)) r at 38) (bad_markup at) s (rw (ampersand_is_no_key l k.0) refl) e
taken (other_word place first ks) r q at s k u e = absurd u
taken p r q at s k u e = no s e

-- in a reference whose `&` stands after the bytes
pub record Refers (q : List ℕ) : Type 0 where
  pub within : Within
  pub read : Read
  pub here : Reaches (q ++ 38 ∷ []) (reference (length q) within) read

refers_there : (p : Phase) (r : Read) (q : List ℕ) → Reaches (q ++ 38 ∷ []) p r → AreNamed r.frames
    → Taken (length q) p → (IsFront ((q ++ 38 ∷ []) ++ 32 ∷ []) → ⊥) → Refers q
refers_there (reference place w) r q here h k never = record {
  within = w;
  read = r;
  here = subst (λ n. Reaches (q ++ 38 ∷ []) (reference n w) r) k here;
}
refers_there (in_comment place count) r q here h k never =
    let t : Phase = in_comment place 0 in
    absurd (never (alive ((q ++ 38 ∷ []) ++ 32 ∷ []) t r (push (q ++ 38 ∷ []) (in_comment place count) r 32
    (record { phase = t; read = r }) here (over_dash (leb 2 count) _ _)) (live_comment place 0 r h)))
refers_there (in_declaration seen) r q here h k never =
    let t : Phase = in_declaration false in
    absurd (never (alive ((q ++ 38 ∷ []) ++ 32 ∷ []) t r (push (q ++ 38 ∷ []) (in_declaration seen) r 32
    (record { phase = t; read = r }) here (over_dash seen _ _)) (live_in_declaration false r)))
refers_there _ r q here h k never = absurd k

pub record Before (q : List ℕ) (b : ℕ) (t : Phase) (u : Read) : Type 0 where
  pub phase : Phase
  pub read : Read
  pub here : Reaches q phase read
  pub goes : step phase read (length q) b ≡ state t u

-- where the machine stood one byte before
pub one_back : (q : List ℕ) (b : ℕ) (t : Phase) (u : Read) → Reaches (q ++ b ∷ []) t u → Before q b t u
one_back q b t u here =
    let end : State = record { phase = t; read = u } in
    let s = reached_prefix q (b ∷ []) beginning start 0 end here in
    let p : Phase = s.0.phase in
    let r : Read = s.0.read in
    let g = comes (step p r (length q) b) (λ x. state x.phase x.read) end (sym (over q (b ∷ []) p r s.1) ∙ here) in
    record { phase = p; read = r; here = s.1; goes = g.1 ∙ g.2 }

pub refers : (q : List ℕ) → MayRefer q → Refers q
refers q (front, never) =
    let a = front_arrives (q ++ 38 ∷ []) front in
    let b = one_back q 38 a.phase a.read a.here in
    let h = history q b.phase b.read b.here in
    refers_there a.phase a.read q a.here (history (q ++ 38 ∷ []) a.phase a.read a.here).0
    (taken b.phase b.read q (length q) (record { phase = a.phase; read = a.read }) h.1
    (usual_phase b.phase b.read q b.here (front_of q (38 ∷ []) front)) b.goes) never

-- over the rest of a reference with any number
usual_after : (w : Within) → Usual (after_piece w)
usual_after in_text = tt
usual_after (in_quotes t place name quote from) = tt

usual_number : (c : Bool) (place : ℕ) (w : Within) → Usual (cond c (after_piece w) (no_character place))
usual_number true place w = usual_after w
usual_number false place w = tt

abbrev pub Over : ℕ → Within → Read → ℕ → List ℕ → Type 0
Over place w r at x = (t : Phase) × (reached (reference place w) r at x ≡ state t r) × Usual t

over_decimal : (ds : List ℕ) (place n : ℕ) (w : Within) (r : Read) (at : ℕ) → AllAre is_decimal ds
    → reached (in_decimal place n w) r at (ds ++ 59 ∷ []) ≡ state (after_number place (number_from 10 n ds) w) r
over_decimal [] place n w r at h = refl
over_decimal (d ∷ ds) place n w r at h =
    ap (λ (c : Step). then c (λ s. reached s.phase s.read (at + 1) (ds ++ 59 ∷ [])))
    (let e : step (in_decimal place n w) r at d ≡ state (in_decimal place (n * 10 + digit d) w) r = rw h.0 refl in e)
    ∙ over_decimal ds place (n * 10 + digit d) w r (at + 1) h.1

over_hexadecimal : (ds : List ℕ) (place n : ℕ) (w : Within) (r : Read) (at : ℕ) → AllAre is_hexadecimal ds
    → reached (in_hexadecimal place n w) r at (ds ++ 59 ∷ []) ≡ state (after_number place (number_from 16 n ds) w) r
over_hexadecimal [] place n w r at h = refl
over_hexadecimal (d ∷ ds) place n w r at h =
    ap (λ (c : Step). then c (λ s. reached s.phase s.read (at + 1) (ds ++ 59 ∷ [])))
    (let e : step (in_hexadecimal place n w) r at d ≡ state (in_hexadecimal place (n * 16 + digit d) w) r = rw h.0 refl
    in e) ∙ over_hexadecimal ds place (n * 16 + digit d) w r (at + 1) h.1

pub over_reference : (u : Piece) → HasReferenceForm u → (place : ℕ) (w : Within) (r : Read) (at : ℕ) (x : List ℕ)
    → 38 ∷ x ≡ piece_text u → Over place w r at x
over_reference (wide b c) h place w r at x e = absurd h
over_reference (named_entity less) h place w r at x e =
    (after_piece w, ap (reached (reference place w) r at) (cons_tail x _ e), usual_after w)
over_reference (named_entity greater) h place w r at x e =
    (after_piece w, ap (reached (reference place w) r at) (cons_tail x _ e), usual_after w)
over_reference (named_entity ampersand) h place w r at x e =
    (after_piece w, ap (reached (reference place w) r at) (cons_tail x _ e), usual_after w)
over_reference (named_entity apostrophe) h place w r at x e =
    (after_piece w, ap (reached (reference place w) r at) (cons_tail x _ e), usual_after w)
over_reference (named_entity quotation) h place w r at x e =
    (after_piece w, ap (reached (reference place w) r at) (cons_tail x _ e), usual_after w)
over_reference (decimal []) h place w r at x e = absurd h
over_reference (decimal (d ∷ ds)) h place w r at x e = (
  after_number place (number_from 10 (digit d) ds) w,
  ap (reached (reference place w) r at) (cons_tail x (35 ∷ ((d ∷ ds) ++ 59 ∷ [])) e)
      ∙ ap (λ (c : Step). then c (λ s. reached s.phase s.read (at + 1 + 1) (ds ++ 59 ∷ [])))
      (let e : step (hash place w) r (at + 1) d ≡ state (in_decimal place (digit d) w) r =
      rw (decimal_isnt_x d h.0, h.0) refl in e)
      ∙ over_decimal ds place (digit d) w r (at + 1 + 1) h.1,
  usual_number (is_character (number_from 10 (digit d) ds)) place w,
)
over_reference (hexadecimal []) h place w r at x e = absurd h
over_reference (hexadecimal (d ∷ ds)) h place w r at x e = (
  after_number place (number_from 16 (digit d) ds) w,
  ap (reached (reference place w) r at) (cons_tail x (35 ∷ 120 ∷ ((d ∷ ds) ++ 59 ∷ [])) e)
      ∙ ap (λ (c : Step). then c (λ s. reached s.phase s.read (at + 1 + 1 + 1) (ds ++ 59 ∷ [])))
      (let e : step (hash_x place w) r (at + 1 + 1) d ≡ state (in_hexadecimal place (digit d) w) r = rw h.0 refl in e)
      ∙ over_hexadecimal ds place (digit d) w r (at + 1 + 1 + 1) h.1,
  usual_number (is_character (number_from 16 (digit d) ds)) place w,
)

-- a word of other markup stays one
other_byte_stays : (c : Bool) (place first : ℕ) (ks : List ℕ) (r : Read) (f : TextFault) (s : State)
    → cond c (state (other_word place first ks) r) (refused f) ≡ Ok s
    → state (other_word place first ks) r ≡ Ok s
other_byte_stays true place first ks r f s e = e
other_byte_stays false place first ks r f s e = no s e

other_stays : (y : List ℕ) (place first : ℕ) (ks : List ℕ) (r : Read) (at : ℕ) (t : Phase) (u : Read)
    → reached (other_word place first ks) r at y ≡ state t u → Usual t → ⊥
other_stays [] place first ks r at t u e k =
    let same : record { phase = other_word place first ks; read = r } ≡ record { phase = t; read = u } = cc in
    subst (λ (s : State). Usual s.phase) (sym same) k
other_stays (b ∷ y) place first [] r at t u e k = cc
other_stays (b ∷ y) place first (l ∷ ks) r at t u e k =
    let g = comes (step (other_word place first (l ∷ ks)) r at b) (λ s. reached s.phase s.read (at + 1) y)
    (record { phase = t; read = u }) e in
    let d = other_byte_stays (eqb b l) place first ks r (no_comment place first (l ∷ ks)) g.0 g.1 in
    let same : record { phase = other_word place first ks; read = r } ≡ g.0 = cc in
    other_stays y place first ks r (at + 1) t u
    (subst (λ (s : State). reached s.phase s.read (at + 1) y ≡ state t u) (sym same) g.2) k

pub usual_before : (p : Phase) (r : Read) (at : ℕ) (y : List ℕ) (t : Phase) (u : Read) → reached p r at y ≡ state t u
    → Usual t → Usual p
usual_before (other_word place first ks) r at y t u e k = other_stays y place first ks r at t u e k
usual_before _ r at y t u e k = tt

reference_arrives : (q : List ℕ) → EndsInReference q → Arrived q
reference_arrives q (before, part, may, (u, more, form, whole), same) =
    let c = refers before may in
    let place : ℕ = length before in
    let p : Phase = reference place c.within in
    let at : ℕ = length (before ++ 38 ∷ []) in
    let o = over_reference u form place c.within c.read at (part ++ more) whole in
    let s = reached_prefix part more p c.read at (record { phase = o.0; read = c.read }) o.1 in
    let rest = sym (reached_append part more p c.read at s.0 s.1) ∙ o.1 in
    record {
      phase = s.0.phase;
      read = s.0.read;
      here = subst (λ x. Reaches x s.0.phase s.0.read) (append_assoc before (38 ∷ []) part ∙ sym same)
          (over (before ++ 38 ∷ []) part p c.read c.here ∙ s.1);
      usual = usual_before s.0.phase s.0.read (at + length part) more o.0 c.read rest o.2;
    }

-- the machine reads bytes in which nothing is wrong by itself
pub arrives : (q : List ℕ) → IsBegun q → Arrived q
arrives q (inl front) = front_arrives q front
arrives q (inr (inl shut_so_far)) = end_tag_arrives q shut_so_far
arrives q (inr (inr referring)) = reference_arrives q referring
