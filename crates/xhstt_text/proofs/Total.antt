-- The machine ends in rows, or in a fault that has a place.
use Rattle.std.proofs.Common.{◌≡◌, ℕ, ◌+◌, Bool, true, false, cond, ◌&&◌, leb, eqb, ltb, List, [], ◌∷◌, length, Result}
use Rattle.std.proofs.Common.{Ok, Err, ap, ◌⊎◌, inl, inr, refl}
use Rattle.xhstt_text.specs.declared.faults.TextFault.{TextFault}
use Rattle.xhstt_text.specs.declared.faults.TextFault.TheVariants.{Bad, NoMemory}
use Rattle.xhstt_text.specs.Document.{Document, IsDocument, spelling, has_name}
use Rattle.std.specs.Str.{bytes_eq}
use Rattle.fault_tables.specs.declared.faults.TheConstants.{BAD_MARKUP, UNSUPPORTED}
use Rattle.xhstt_text.specs.Bytes.{is_white, is_first, is_name, is_text, is_quote, is_quoted}
use Rattle.xhstt_text.specs.Units.{is_decimal, is_hexadecimal, is_last}
use Rattle.xhstt_text.specs.Faults.{no_comment, no_tag}
use Rattle.xhstt_text.specs.Machine.{beginning, mark_1, mark_2, at_declaration, declared_open, question, in_declaration}
use Rattle.xhstt_text.specs.Machine.{content, ended, ended_open, bang, other_word, bang_dash, in_comment, opened}
use Rattle.xhstt_text.specs.Machine.{start_name, valued, in_tag, slash, attribute_name, named, equals, in_value, wide_1}
use Rattle.xhstt_text.specs.Machine.{wide_2, reference, reference_a, word, hash, hash_x, in_decimal, in_hexadecimal}
use Rattle.xhstt_text.specs.Machine.{no_character, shut_begin, shut, shut_gap, Phase, Within, Tag, Frame, Read, closed}
use Rattle.xhstt_text.specs.Machine.{start_of, State, Step, refused, Outcome, step, step_content, step_opened}
use Rattle.xhstt_text.specs.Machine.{step_declaration, step_question, step_other_word, step_word, step_valued}
use Rattle.xhstt_text.specs.Machine.{step_named, step_shut, finish, and_then, run, outcome_of}
use Rattle.xhstt_text.proofs.Sound.{document_from}

abbrev Lost : {T : Type 0} → Result T TextFault → Type 0
Lost r = r ≡ Err NoMemory

never : (c : Bool) (x y : Step) → (Lost x → ⊥) → (Lost y → ⊥) → Lost (cond c x y) → ⊥
never true x y f g e = f e
never false x y f g e = g e

goes : {s : State} → Ok s ≡ Err NoMemory → ⊥
goes e = cc

ends : {k a : ℕ} → refused (Bad k a) ≡ Err NoMemory → ⊥
ends e = cc

pick : {T : Type 0} (c : Bool) (k a l d : ℕ) (r : Result T TextFault) → r ≡ Err (cond c (Bad k a) (Bad l d)) → Lost r
    → ⊥
pick true k a l d r h e = cc
pick false k a l d r h e = cc

no_place : {T : Type 0} (place first : ℕ) (ks : List ℕ) (r : Result T TextFault) → r ≡ Err (no_comment place first ks)
    → Lost r → ⊥
no_place place first [] r h e = cc
no_place place first (k ∷ ks) r h e = cc

tagless : (place at b : ℕ) → Lost (refused (no_tag place at b)) → ⊥
tagless place at b = pick (eqb b 63) UNSUPPORTED place BAD_MARKUP at (refused (no_tag place at b)) refl

never_content : (frames : List Frame) (r : Read) (at b : ℕ) → Lost (step_content frames r at b) → ⊥
never_content [] r at b = never (eqb b 60) _ _ goes (never (is_white b) _ _ goes ends)
never_content (f ∷ fs) r at b =
    never (eqb b 60) _ _ goes (never (is_text b) _ _ goes (never (eqb b 38) _ _ goes (never (eqb b 239) _ _ goes ends)))

never_opened : (frames : List Frame) (place : ℕ) (r : Read) (at b : ℕ) → Lost (step_opened frames place r at b) → ⊥
never_opened [] place r at b = never (is_first b) _ _ goes (never (eqb b 33) _ _ goes (tagless place at b))
never_opened (f ∷ fs) place r at b =
    never (is_first b) _ _ (never (ltb (length (f ∷ fs)) 32) _ _ goes ends)
    (never (eqb b 47) _ _ goes (never (eqb b 33) _ _ goes (tagless place at b)))

never_declaration : (r : Read) (at b : ℕ) → Lost (step_declaration r at b) → ⊥
never_declaration r at b = never (eqb b 60) _ _ goes (never (is_white b) _ _ goes ends)

never_question : (ks : List ℕ) (r : Read) (at b : ℕ) → Lost (step_question ks r at b) → ⊥
never_question [] r at b = never (is_white b) _ _ goes ends
never_question (k ∷ ks) r at b = never (eqb b k) _ _ goes ends

never_other : (place first : ℕ) (ks : List ℕ) (r : Read) (b : ℕ) → Lost (step_other_word place first ks r b) → ⊥
never_other place first [] r b = ends
never_other place first (k ∷ ks) r b = never (eqb b k) _ _ goes ends

never_word : (place : ℕ) (ks : List ℕ) (w : Within) (r : Read) (b : ℕ) → Lost (step_word place ks w r b) → ⊥
never_word place [] w r b = ends
never_word place (k ∷ []) w r b = never (eqb b k) _ _ goes ends
never_word place (k ∷ l ∷ ks) w r b = never (eqb b k) _ _ goes ends

never_valued : (t : Tag) (r : Read) (at b : ℕ) → Lost (step_valued t r at b) → ⊥
never_valued t r at b =
    never (is_first b) _ _ ends (never (is_white b) _ _ goes
    (never (eqb b 47) _ _ goes (never (eqb b 62) _ _ goes ends)))

never_named : (t : Tag) (place : ℕ) (name : List ℕ) (r : Read) (at b : ℕ) → Lost (step_named t place name r at b) → ⊥
never_named t place name r at b = never (is_white b) _ _ goes (never (eqb b 61) _ _ goes ends)

never_shut : (frames : List Frame) (place : ℕ) (name : List ℕ) (r : Read) (at b : ℕ)
    → Lost (step_shut frames place name r at b) → ⊥
never_shut [] place name r at b = ends
never_shut (f ∷ fs) place name r at b =
    never (is_white b) _ _ goes (never (eqb b 62) _ _ (never (bytes_eq name f.name) _ _ goes ends) ends)

never_step : (p : Phase) (r : Read) (at b : ℕ) → Lost (step p r at b) → ⊥
never_step beginning r at b = never (eqb b 239) _ _ goes (never_declaration r at b)
never_step mark_1 r at b = never (eqb b 187) _ _ goes ends
never_step mark_2 r at b = never (eqb b 191) _ _ goes ends
never_step at_declaration r at b = never_declaration r at b
never_step (declared_open place) r at b = never (eqb b 63) _ _ goes (never_opened [] place (closed r) at b)
never_step (question ks) r at b = never_question ks r at b
never_step (in_declaration seen) r at b = never (seen && eqb b 62) _ _ goes goes
never_step content r at b = never_content r.frames r at b
never_step ended r at b = never (is_white b) _ _ goes (never (eqb b 60) _ _ goes ends)
never_step (ended_open place) r at b = never (eqb b 33) _ _ goes (tagless place at b)
never_step (bang place p) r at b = never (eqb b 45) _ _ goes
    (never (eqb b 68) _ _ goes (never (eqb b 91) _ _ goes ends))
never_step (other_word place first ks) r at b = never_other place first ks r b
never_step (bang_dash place) r at b = never (eqb b 45) _ _ goes ends
never_step (in_comment place count) r at b = never (leb 2 count && eqb b 62) _ _ goes goes
never_step (opened place) r at b = never_opened r.frames place r at b
never_step (start_name place name) r at b =
    never (is_name b) _ _ goes (never (eqb b 58) _ _ ends (never_valued (start_of place name r) r at b))
never_step (valued t) r at b = never_valued t r at b
never_step (in_tag t) r at b = never (is_first b) _ _ goes (never_valued t r at b)
never_step (slash t) r at b = never (eqb b 62) _ _ goes ends
never_step (attribute_name t place name) r at b =
    never (is_name b) _ _ goes (never (has_name name t.names) _ _ ends
    (never (eqb b 58) _ _ ends (never_named t place name r at b)))
never_step (named t place name) r at b = never_named t place name r at b
never_step (equals t place name) r at b = never (is_white b) _ _ goes (never (is_quote b) _ _ goes ends)
never_step (in_value t place name quote from) r at b =
    never (is_quoted quote b) _ _ goes (never (eqb b quote) _ _ goes
    (never (eqb b 38) _ _ goes (never (eqb b 239) _ _ goes ends)))
never_step (wide_1 w) r at b = never (leb 128 b) _ _ goes ends
never_step (wide_2 greatest w) r at b = never (is_last greatest b) _ _ goes ends
never_step (reference place w) r at b =
    never (eqb b 108) _ _ goes (never (eqb b 103) _ _ goes
    (never (eqb b 113) _ _ goes (never (eqb b 97) _ _ goes (never (eqb b 35) _ _ goes ends))))
never_step (reference_a place w) r at b = never (eqb b 109) _ _ goes (never (eqb b 112) _ _ goes ends)
never_step (word place ks w) r at b = never_word place ks w r b
never_step (hash place w) r at b = never (eqb b 120) _ _ goes (never (is_decimal b) _ _ goes ends)
never_step (hash_x place w) r at b = never (is_hexadecimal b) _ _ goes ends
never_step (in_decimal place n w) r at b = never (is_decimal b) _ _ goes (never (eqb b 59) _ _ goes ends)
never_step (in_hexadecimal place n w) r at b = never (is_hexadecimal b) _ _ goes (never (eqb b 59) _ _ goes ends)
never_step (no_character place) r at b = ends
never_step (shut_begin place) r at b = never (is_first b) _ _ goes ends
never_step (shut place name) r at b =
    never (is_name b) _ _ goes (never (eqb b 58) _ _ ends (never_shut r.frames place name r at b))
never_step (shut_gap place name) r at b = never_shut r.frames place name r at b

never_end : (p : Phase) (r : Read) (at : ℕ) → Lost (finish p r at) → ⊥
never_end (other_word place first ks) r at e = no_place place first ks (finish (other_word place first ks) r at) refl e
never_end (attribute_name t place name) r at e =
    pick (has_name name t.names) BAD_MARKUP place BAD_MARKUP at (finish (attribute_name t place name) r at) refl e
never_end _ r at e = cc

never_then : (x : Step) (f : State → Outcome) → (Lost x → ⊥) → ((s : State) → Lost (f s) → ⊥) → Lost (and_then x f) → ⊥
never_then (Ok s) f h k e = k s e
never_then (Err d) f h k e = let same : d ≡ NoMemory = cc in h (ap refused same)

never_run : (bs : List ℕ) (p : Phase) (r : Read) (at : ℕ) → Lost (run p r at bs) → ⊥
never_run [] p r at = never_end p r at
never_run (b ∷ bs) p r at = never_then (step p r at b) _ (never_step p r at b)
    (λ s. never_run bs s.phase s.read (at + 1))

abbrev Told : List ℕ → Type 0
Told bytes = ((d : Document) × IsDocument d × (bytes ≡ spelling d))
    ⊎ ((kind : ℕ) × (at : ℕ) × (outcome_of bytes ≡ Err (Bad kind at)))

told_by : (bytes : List ℕ) (o : Outcome) → outcome_of bytes ≡ o → Told bytes
told_by bytes (Ok rows) e = inl (document_from bytes rows e)
told_by bytes (Err (Bad kind at)) e = inr (kind, at, e)
told_by bytes (Err NoMemory) e = absurd (never_run bytes beginning (record { frames = []; nodes = []; attributes = [] })
    0 e)

pub told : (bytes : List ℕ) → Told bytes
told bytes = told_by bytes (outcome_of bytes) refl
