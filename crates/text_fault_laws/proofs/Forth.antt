-- What is known after each step of the machine.
use Rattle.std.proofs.Common.{inl, inr, ◌≡◌, ℕ, ◌+◌, ◌*◌, Bool, true, false, cond, ◌&&◌, leb, eqb, List, [], ◌∷◌, ◌++◌}
use Rattle.std.proofs.Common.{length, Ok, Err, refl, sym, ◌∙◌, ap, subst, append_assoc, append-nil, ltb}
use Rattle.std.specs.Str.{bytes_eq}
use Rattle.xhstt_text.specs.Bytes.{is_white, is_first, is_name, is_text, is_quoted, is_quote, dashes, AllAre, IsName}
use Rattle.xhstt_text.specs.Units.{is_decimal, is_hexadecimal, digit, is_character, is_last, decimal, hexadecimal}
use Rattle.xhstt_text.specs.Document.{Rows, has_name}
use Rattle.xhstt_text.specs.Faults.{no_comment, bad_reference}
use Rattle.xhstt_text.specs.Machine.{Within, in_text, in_quotes, after_piece, wide_1, wide_2, reference, reference_a}
use Rattle.xhstt_text.specs.Machine.{word, hash, hash_x, in_decimal, in_hexadecimal, step_word, beginning, mark_1}
use Rattle.xhstt_text.specs.Machine.{mark_2, at_declaration, declared_open, question, in_declaration, closed}
use Rattle.xhstt_text.specs.Machine.{step_declaration, step_question, other_word, no_character, after_number}
use Rattle.xhstt_text.specs.Machine.{Frame, Read, Tag, Phase, content, ended, ended_open, Region, early}
use Rattle.xhstt_text.specs.Machine.{late, phase_of, bang, bang_dash, in_comment, opened, start_name, valued, in_tag}
use Rattle.xhstt_text.specs.Machine.{slash, attribute_name, named, equals, in_value, shut_begin, shut, shut_gap, State}
use Rattle.xhstt_text.specs.Machine.{refused, state, noted, resume, open_element, add_node, opened_row}
use Rattle.xhstt_text.specs.Machine.{close_element, attribute_row, with_name, start_of, step, step_content, step_opened}
use Rattle.xhstt_text.specs.Machine.{step_valued, step_named, step_shut, and_then, run}
use Rattle.xhstt_text.specs.declared.faults.TextFault.{TextFault}
use Rattle.xhstt_text.proofs.Pieces.{decimal_isnt_x}
use Rattle.xhstt_text.proofs.Runs.{same_number}
use Rattle.xhstt_text.proofs.Sound.{all_push, choose, digits_push, document_from, name_push, names_of, no, same_byte}
use Rattle.text_fault_laws.specs.Fronts.{AreNames, BeginsReference, IsFront, IsOtherWord, MayRefer, end_tags}
use Rattle.text_fault_laws.proofs.Live.{AreNamed, run_tags}
use Rattle.text_fault_laws.proofs.LiveParts.{live_bang, live_reference}
use Rattle.text_fault_laws.proofs.Known.{Around, Held, Inner, Next, OtherWord, Past, Referring, Shutting, after_held}
use Rattle.text_fault_laws.proofs.Known.{alive}
use Rattle.text_fault_laws.proofs.Known.{IsSome, begin, grow, is_key, lands, refer_by, refer_on, tail_key, tail_push}
use Rattle.text_fault_laws.proofs.Reach.{Reaches, comes, front_reaches, length_push, push, reads, reached}
use Rattle.text_fault_laws.proofs.Reach.{refused_reach}
use Rattle.text_fault_laws.proofs.Reach.{start}

-- no text begins with a byte that is refused
pub stopped : (q : List ℕ) (p : Phase) (r : Read) (b : ℕ) (f : TextFault) → Reaches q p r
    → step p r (length q) b ≡ Err f → IsFront (q ++ b ∷ []) → ⊥
stopped q p r b f here e front =
    let t = front_reaches (q ++ b ∷ []) front in refused_reach q p r b f t.0.phase t.0.read here e t.1

names_are : (fs : List Frame) → AreNamed fs → AreNames (names_of fs)
names_are [] h = tt
names_are (f ∷ fs) h = (h.0, names_are fs h.1)

-- in content
inside_here : (fs : List Frame) (r : Read) (q : List ℕ) → r.frames ≡ fs → AreNamed fs → Reaches q content r
    → Around fs q
inside_here [] r q is h here = tt
inside_here (f ∷ fs) r q is h here =
    let l = run_tags f fs r is h (length q) in
    let tags : List ℕ = end_tags (names_of (f ∷ fs)) in
    let d = document_from (q ++ tags) l.0 (reads q content r here tags ∙ l.1) in
    (names_are (f ∷ fs) h, d.0, d.1, d.2)

-- where the machine takes a `&` for the first byte of a reference
may_refer : (q : List ℕ) (p : Phase) (r : Read) (b : ℕ) (w : Within) (d : Read) → Reaches q p r → eqb b 38 ≡ true
    → step p r (length q) b ≡ state (reference (length q) w) d → AreNamed d.frames → MayRefer q
may_refer q p r b w d here is e h =
    let t : Phase = reference (length q) w in
    let next : Reaches (q ++ b ∷ []) t d = push q p r b (record { phase = t; read = d }) here e in
    let there : Reaches (q ++ 38 ∷ []) t d = subst (λ k. Reaches (q ++ k ∷ []) t d) (same_byte b 38 is) next in (
      alive (q ++ 38 ∷ []) t d there (live_reference (length q) w d h),
      stopped (q ++ 38 ∷ []) t d 32 (bad_reference (length q)) there refl,
    )

refer_start : (q : List ℕ) (b : ℕ) → eqb b 38 ≡ true → MayRefer q → Referring (length q) reference [] (q ++ b ∷ [])
refer_start q b is may = (q, refl, may, ap (λ k. q ++ k ∷ []) (same_byte b 38 is), (λ l v u at. refl))

other_byte : (more : List ℕ) (b place first k : ℕ) (ks : List ℕ) (r : Read) (at : ℕ) (rows : Rows) (c : Bool)
    → (run (other_word place first ks) r (at + 1) more ≡ Ok rows → ⊥)
    → and_then (cond c (state (other_word place first ks) r) (refused (no_comment place first (k ∷ ks))))
    (λ s. run s.phase s.read (at + 1) more) ≡ Ok rows → ⊥
other_byte more b place first k ks r at rows true on e = on e
other_byte more b place first k ks r at rows false on e = cc

-- no text goes on in a word of other markup
pub other_lost : (more : List ℕ) (place first : ℕ) (ks : List ℕ) (r : Read) (at : ℕ) (rows : Rows)
    → run (other_word place first ks) r at more ≡ Ok rows → ⊥
other_lost [] place first ks r at rows e = cc
other_lost (b ∷ more) place first [] r at rows e = cc
other_lost (b ∷ more) place first (k ∷ ks) r at rows e =
    other_byte more b place first k ks r at rows (eqb b k) (other_lost more place first ks r (at + 1) rows) e

forth_declaration : (r : Read) (q : List ℕ) (b : ℕ) (s : State) → AreNamed r.frames
    → step_declaration r (length q) b ≡ Ok s → Next q b s
forth_declaration r q b s h e =
    choose (eqb b 60) (state (declared_open (length q)) r) _ s
    (λ is here. lands q b (declared_open (length q)) r s h (begin q b 60 is) here)
    (λ _ there. choose (is_white b) (state content (closed r)) _ s
    (λ _ here. lands q b content (closed r) s tt tt here) (λ _ here. no s here) there) e

forth_opened : (fs : List Frame) (place : ℕ) (r : Read) (q : List ℕ) (b : ℕ) (s : State) → r.frames ≡ fs
    → AreNamed r.frames → Past (opened place) fs q → step_opened fs place r (length q) b ≡ Ok s → Next q b s
forth_opened [] place r q b s same h (p, inside, is, bytes) e =
    choose (is_first b) (state (start_name place (b ∷ [])) r) _ s
    (λ is here. lands q b (start_name place (b ∷ [])) r s h ((is, tt), q, refl) here)
    (λ _ e1. choose (eqb b 33) (state (bang place early) r) _ s
    (λ mark here. lands q b (bang place early) r s h (p, is, tail_key q p (60 ∷ []) b 33 mark bytes) here)
    (λ _ here. no s here) e1) e
forth_opened (f ∷ fs) place r q b s same h (p, inside, is, bytes) e =
    choose (is_first b) _ _ s
    (λ is there. choose (ltb (length (f ∷ fs)) 32) (state (start_name place (b ∷ [])) r) _ s
    (λ _ here. lands q b (start_name place (b ∷ [])) r s h ((is, tt), q, refl) here) (λ _ here. no s here) there)
    (λ _ e1. choose (eqb b 47) (state (shut_begin place) r) _ s
    (λ mark here. lands q b (shut_begin place) r s h
    (p, subst (λ x. Inner x p) (sym same) inside, is, tail_key q p (60 ∷ []) b 47 mark bytes) here)
    (λ _ e2. choose (eqb b 33) (state (bang place early) r) _ s
    (λ mark here. lands q b (bang place early) r s h (p, is, tail_key q p (60 ∷ []) b 33 mark bytes) here)
    (λ _ here. no s here) e2) e1) e

forth_content : (fs : List Frame) (r : Read) (q : List ℕ) (b : ℕ) (s : State) → r.frames ≡ fs → AreNamed fs
    → AreNamed r.frames → Reaches q content r → step_content fs r (length q) b ≡ Ok s → Next q b s
forth_content [] r q b s same hf h here e =
    choose (eqb b 60) (state (opened (length q)) r) _ s
    (λ is there. lands q b (opened (length q)) r s h
    (q, subst (λ x. Around x q) (sym same) tt, refl, ap (λ k. q ++ k ∷ []) (same_byte b 60 is)) there)
    (λ _ e1. choose (is_white b) (state content r) _ s
    (λ _ there. lands q b content r s h tt there) (λ _ there. no s there) e1) e
forth_content (f ∷ fs) r q b s same hf h here e =
    let d : Read = record r { frames = noted f (length q) b ∷ fs } in
    let whole : step content r (length q) b ≡ Ok s = ap (λ x. step_content x r (length q) b) same ∙ e in
    choose (eqb b 60) (state (opened (length q)) r) _ s
    (λ is there. lands q b (opened (length q)) r s h (
      q,
      subst (λ x. Around x q) (sym same) (inside_here (f ∷ fs) r q same hf here),
      refl,
      ap (λ k. q ++ k ∷ []) (same_byte b 60 is),
    ) there)
    (λ _ e1. choose (is_text b) (state content d) _ s
    (λ _ there. lands q b content d s hf tt there)
    (λ _ e2. choose (eqb b 38) (state (reference (length q) in_text) d) _ s
    (λ is there. lands q b (reference (length q) in_text) d s hf
    (tt, refer_start q b is (may_refer q content r b in_text d here is (whole ∙ sym there) hf)) there)
    (λ _ e3. choose (eqb b 239) (state (wide_1 in_text) d) _ s
    (λ _ there. lands q b (wide_1 in_text) d s hf tt there)
    (λ _ there. no s there) e3) e2) e1) e

forth_question : (ks : List ℕ) (r : Read) (q : List ℕ) (b : ℕ) (s : State) → AreNamed r.frames → AllAre is_key ks
    → step_question ks r (length q) b ≡ Ok s → Next q b s
forth_question [] r q b s h k e =
    choose (is_white b) (state (in_declaration false) r) _ s
    (λ _ here. lands q b (in_declaration false) r s h tt here) (λ _ here. no s here) e
forth_question (l ∷ ks) r q b s h k e =
    choose (eqb b l) (state (question ks) r) _ s
    (λ _ here. lands q b (question ks) r s h k.1 here) (λ _ here. no s here) e

place_past : (p : Region) (fs : List Frame) (q : List ℕ) → Past (phase_of p) fs q
place_past early fs q = tt
place_past late fs q = tt

resume_past : (fs gs : List Frame) (q : List ℕ) → Past (resume fs) gs q
resume_past [] gs q = tt
resume_past (f ∷ fs) gs q = tt

forth_valued : (t : Tag) (r : Read) (q : List ℕ) (b : ℕ) (s : State) → AreNamed r.frames → IsName t.name
    → step_valued t r (length q) b ≡ Ok s → Next q b s
forth_valued t r q b s h k e =
    choose (is_first b) _ _ s (λ _ here. no s here)
    (λ _ e1. choose (is_white b) (state (in_tag t) r) _ s
    (λ is here. lands q b (in_tag t) r s h (k, q, b, is, refl) here)
    (λ _ e2. choose (eqb b 47) (state (slash t) r) _ s
    (λ _ here. lands q b (slash t) r s h k here)
    (λ _ e3. choose (eqb b 62) (state content (open_element t r (length q + 1))) _ s
    (λ _ here. lands q b content (open_element t r (length q + 1)) s (k, h) tt here)
    (λ _ here. no s here) e3) e2) e1) e

forth_named : (t : Tag) (place : ℕ) (name : List ℕ) (r : Read) (q : List ℕ) (b : ℕ) (s : State) → AreNamed r.frames
    → IsName t.name → step_named t place name r (length q) b ≡ Ok s → Next q b s
forth_named t place name r q b s h k e =
    choose (is_white b) (state (named t place name) r) _ s
    (λ _ here. lands q b (named t place name) r s h k here)
    (λ _ e1. choose (eqb b 61) (state (equals t place name) r) _ s
    (λ _ here. lands q b (equals t place name) r s h k here) (λ _ here. no s here) e1) e

forth_word : (place : ℕ) (ks : List ℕ) (w : Within) (r : Read) (q : List ℕ) (b : ℕ) (s : State) → AreNamed r.frames
    → Past (word place ks w) r.frames q → step_word place ks w r b ≡ Ok s → Next q b s
forth_word place [] w r q b s h k e = no s e
forth_word place (l ∷ []) w r q b s h k e =
    choose (eqb b l) (state (after_piece w) r) _ s
    (λ _ here. lands q b (after_piece w) r s h (after_held w (q ++ b ∷ []) r.frames k.0) here) (λ _ here. no s here) e
forth_word place (l ∷ m ∷ ks) w r q b s h k e =
    choose (eqb b l) (state (word place (m ∷ ks) w) r) _ s
    (λ is here. lands q b (word place (m ∷ ks) w) r s h (
      k.0,
      tt,
      k.2.1,
      (
        k.3.0 ++ l ∷ [],
        refer_by place (λ x v. word x (l ∷ m ∷ ks) v) (λ x v. word x (m ∷ ks) v) k.3.0 q b l is k.3.1
            (λ x v u at. rw (same_number l) refl),
      ),
    ) here) (λ _ here. no s here) e

-- the end of a number
forth_number : (c : Bool) (place : ℕ) (p : ℕ → Within → Phase) (part : List ℕ) (w : Within) (r : Read) (q : List ℕ)
    (b : ℕ) (s : State) → AreNamed r.frames → Held w → BeginsReference (38 ∷ (part ++ 59 ∷ []))
    → Referring place p part q → eqb b 59 ≡ true
    → (c ≡ false → (l : ℕ) (v : Within) (u : Read) (at : ℕ) → step (p l v) u at 59 ≡ state (no_character l) u)
    → state (cond c (after_piece w) (no_character place)) r ≡ Ok s → Next q b s
forth_number true place p part w r q b s h k begins known is steps e =
    lands q b (after_piece w) r s h (after_held w (q ++ b ∷ []) r.frames k) e
forth_number false place p part w r q b s h k begins known is steps e =
    lands q b (no_character place) r s h
    (part ++ 59 ∷ [], begins, refer_by place p (λ l v. no_character l) part q b 59 is known (steps refl)) e

forth_shut : (fs : List Frame) (place : ℕ) (name w : List ℕ) (r : Read) (q : List ℕ) (b : ℕ) (s : State)
    → r.frames ≡ fs → AreNamed fs → AreNamed r.frames → Shutting place name w fs q
    → step_shut fs place name r (length q) b ≡ Ok s → Next q b s
forth_shut [] place name w r q b s same hf h k e = no s e
forth_shut (f ∷ fs) place name w r q b s same hf h (p, inside, is, hn, hw, bytes) e =
    choose (is_white b) (state (shut_gap place name) r) _ s
    (λ white here. lands q b (shut_gap place name) r s h (
      w ++ b ∷ [],
      (
        p,
        subst (λ x. Inner x p) (sym same) inside,
        is,
        hn,
        all_push is_white w b hw white,
        tail_push q p (60 ∷ 47 ∷ (name ++ w)) b bytes ∙ ap (λ x. p ++ (60 ∷ 47 ∷ x)) (append_assoc name w (b ∷ [])),
      ),
    ) here)
    (λ _ e1. choose (eqb b 62) _ _ s
    (λ _ there. choose (bytes_eq name f.name) (state (resume fs) (close_element f fs r place)) _ s
    (λ _ here. lands q b (resume fs) (close_element f fs r place) s hf.1 (resume_past fs fs (q ++ b ∷ [])) here)
    (λ _ here. no s here) there)
    (λ _ here. no s here) e1) e

pub forth : (p : Phase) (r : Read) (q : List ℕ) (b : ℕ) (s : State) → Reaches q p r → AreNamed r.frames
    → Past p r.frames q → step p r (length q) b ≡ Ok s → Next q b s
forth beginning r q b s there h k e =
    choose (eqb b 239) (state mark_1 r) _ s (λ _ here. lands q b mark_1 r s h tt here)
    (λ _ there. forth_declaration r q b s h there) e
forth mark_1 r q b s there h k e =
    choose (eqb b 187) (state mark_2 r) _ s (λ _ here. lands q b mark_2 r s h tt here) (λ _ here. no s here) e
forth mark_2 r q b s there h k e =
    choose (eqb b 191) (state at_declaration r) _ s (λ _ here. lands q b at_declaration r s h tt here)
    (λ _ here. no s here) e
forth at_declaration r q b s there h k e = forth_declaration r q b s h e
forth (declared_open place) r q b s there h k e =
    choose (eqb b 63) (state (question (120 ∷ 109 ∷ 108 ∷ [])) r) _ s
    (λ _ here. lands q b (question (120 ∷ 109 ∷ 108 ∷ [])) r s h (refl, (refl, (refl, tt))) here)
    (λ _ there. forth_opened [] place (closed r) q b s refl tt (k.0, tt, k.1, k.2) there) e
forth (question ks) r q b s there h k e = forth_question ks r q b s h k e
forth (in_declaration seen) r q b s there h k e =
    choose (seen && eqb b 62) (state content (closed r)) (state (in_declaration (eqb b 63)) r) s
    (λ _ here. lands q b content (closed r) s tt tt here)
    (λ _ here. lands q b (in_declaration (eqb b 63)) r s h tt here) e
forth content r q b s there h k e = forth_content r.frames r q b s refl h h there e
forth ended r q b s there h k e =
    choose (is_white b) (state ended r) _ s (λ _ here. lands q b ended r s h tt here)
    (λ _ there. choose (eqb b 60) (state (ended_open (length q)) r) _ s
    (λ is here. lands q b (ended_open (length q)) r s h (begin q b 60 is) here) (λ _ here. no s here) there) e
forth (ended_open place) r q b s there h k e =
    choose (eqb b 33) (state (bang place late) r) _ s
    (λ is here. lands q b (bang place late) r s h (grow place q (60 ∷ []) b 33 is k) here) (λ _ here. no s here) e
forth (bang place p) r q b s there h k e =
    let front : IsFront q = alive q (bang place p) r there (live_bang place p r h) in
    let kept : (ks : List ℕ) → IsOtherWord (b ∷ ks) → state (other_word place (length q) ks) r ≡ Ok s → Next q b s =
    λ ks o here. lands q b (other_word place (length q) ks) r s h (
      q,
      b,
      [],
      refl,
      front,
      refl,
      (k.0, k.1, k.2, o),
      (
        ks,
        r,
        push q (bang place p) r b
            (record { phase = other_word place (length q) ks; read = r }) there (e ∙ sym here),
      ),
    ) here in
    choose (eqb b 45) (state (bang_dash p) r) _ s (λ _ here. lands q b (bang_dash p) r s h tt here)
    (λ _ e1. choose (eqb b 68) (state (other_word place (length q) (79 ∷ 67 ∷ 84 ∷ 89 ∷ 80 ∷ 69 ∷ [])) r) _ s
    (λ is here. kept (79 ∷ 67 ∷ 84 ∷ 89 ∷ 80 ∷ 69 ∷ [])
    (inl (ap (λ x. x ∷ 79 ∷ 67 ∷ 84 ∷ 89 ∷ 80 ∷ 69 ∷ []) (same_byte b 68 is))) here)
    (λ _ e2. choose (eqb b 91) (state (other_word place (length q) (67 ∷ 68 ∷ 65 ∷ 84 ∷ 65 ∷ 91 ∷ [])) r) _ s
    (λ is here. kept (67 ∷ 68 ∷ 65 ∷ 84 ∷ 65 ∷ 91 ∷ [])
    (inr (ap (λ x. x ∷ 67 ∷ 68 ∷ 65 ∷ 84 ∷ 65 ∷ 91 ∷ []) (same_byte b 91 is))) here)
    (λ _ here. no s here) e2) e1) e
forth (other_word place first []) r q b s there h k e = no s e
forth (other_word place first (l ∷ ks)) r q b s there h (p, d, rest, is, front, bytes, o, stray) e =
    choose (eqb b l) (state (other_word place first ks) r) _ s
    (λ same here. lands q b (other_word place first ks) r s h (
      p,
      d,
      rest ++ b ∷ [],
      is,
      front,
      tail_push q p (d ∷ rest) b bytes,
      subst (λ x. OtherWord place p (d ∷ x))
          (sym (append_assoc rest (b ∷ []) ks ∙ ap (λ k. rest ++ (k ∷ ks)) (same_byte b l same))) o,
      stray,
    ) here)
    (λ _ here. no s here) e
forth (bang_dash p) r q b s there h k e =
    choose (eqb b 45) (state (in_comment p 0) r) _ s (λ _ here. lands q b (in_comment p 0) r s h tt here)
    (λ _ here. no s here) e
forth (in_comment p count) r q b s there h k e =
    choose (leb 2 count && eqb b 62) (state (phase_of p) r) (state (in_comment p (dashes count b)) r) s
    (λ _ here. lands q b (phase_of p) r s h (place_past p r.frames (q ++ b ∷ [])) here)
    (λ _ here. lands q b (in_comment p (dashes count b)) r s h tt here) e
forth (opened place) r q b s there h k e = forth_opened r.frames place r q b s refl h k e
forth (start_name place name) r q b s there h k e =
    choose (is_name b) (state (start_name place (name ++ b ∷ [])) r) _ s
    (λ is here. lands q b (start_name place (name ++ b ∷ [])) r s h
    (name_push name b k.0 is, k.1, tail_push q k.1 name b k.2) here)
    (λ _ e1. choose (eqb b 58) _ (step_valued (start_of place name r) r (length q) b) s (λ _ here. no s here)
    (λ _ on. forth_valued (start_of place name r) r q b s h k.0 on) e1) e
forth (valued t) r q b s there h k e = forth_valued t r q b s h k e
forth (in_tag t) r q b s there h k e =
    choose (is_first b) (state (attribute_name t (length q) (b ∷ [])) r) _ s
    (λ is here. lands q b (attribute_name t (length q) (b ∷ [])) r s h
    (k.0, (is, tt), k.1, k.2, k.3, ap length k.4 ∙ length_push k.1 k.2, tail_push q k.1 (k.2 ∷ []) b k.4) here)
    (λ _ on. forth_valued t r q b s h k.0 on) e
forth (slash t) r q b s there h k e =
    choose (eqb b 62) (state (resume r.frames) (add_node r (opened_row t r (length q + 1)))) _ s
    (λ _ here. lands q b (resume r.frames) (add_node r (opened_row t r (length q + 1))) s h
    (resume_past r.frames r.frames (q ++ b ∷ [])) here) (λ _ here. no s here) e
forth (attribute_name t place name) r q b s there h k e =
    choose (is_name b) (state (attribute_name t place (name ++ b ∷ [])) r) _ s
    (λ is here. lands q b (attribute_name t place (name ++ b ∷ [])) r s h
    (k.0, name_push name b k.1 is, k.2, k.3, k.4, k.5, tail_push q k.2 (k.3 ∷ name) b k.6) here)
    (λ _ e1. choose (has_name name t.names) _ _ s (λ _ here. no s here)
    (λ _ e2. choose (eqb b 58) _ (step_named t place name r (length q) b) s (λ _ here. no s here)
    (λ _ on. forth_named t place name r q b s h k.0 on) e2) e1) e
forth (named t place name) r q b s there h k e = forth_named t place name r q b s h k e
forth (equals t place name) r q b s there h k e =
    choose (is_white b) (state (equals t place name) r) _ s
    (λ _ here. lands q b (equals t place name) r s h k here)
    (λ _ e1. choose (is_quote b) (state (in_value t place name b (length q + 1)) r) _ s
    (λ is here. lands q b (in_value t place name b (length q + 1)) r s h (k, is) here) (λ _ here. no s here) e1) e
forth (in_value t place name quote from) r q b s there h k e =
    let w : Within = in_quotes t place name quote from in
    let d : Read = record r { attributes = r.attributes ++ attribute_row place name from (length q) ∷ [] } in
    choose (is_quoted quote b) (state (in_value t place name quote from) r) _ s
    (λ _ here. lands q b (in_value t place name quote from) r s h k here)
    (λ _ e1. choose (eqb b quote) (state (valued (with_name t name)) d) _ s
    (λ _ here. lands q b (valued (with_name t name)) d s h k.0 here)
    (λ _ e2. choose (eqb b 38) (state (reference (length q) w) r) _ s
    (λ is here. lands q b (reference (length q) w) r s h (
      k,
      refer_start q b is
          (may_refer q (in_value t place name quote from) r b w r there is (e ∙ sym here) h),
    ) here)
    (λ _ e3. choose (eqb b 239) (state (wide_1 w) r) _ s
    (λ _ here. lands q b (wide_1 w) r s h k here)
    (λ _ here. no s here) e3) e2) e1) e
forth (wide_1 w) r q b s there h k e =
    choose (leb 128 b) (state (wide_2 (eqb b 191) w) r) _ s
    (λ _ here. lands q b (wide_2 (eqb b 191) w) r s h k here) (λ _ here. no s here) e
forth (wide_2 greatest w) r q b s there h k e =
    choose (is_last greatest b) (state (after_piece w) r) _ s
    (λ _ here. lands q b (after_piece w) r s h (after_held w (q ++ b ∷ []) r.frames k) here) (λ _ here. no s here) e
forth (reference place w) r q b s there h k e =
    let next : (l : ℕ) (ks : List ℕ) → eqb b l ≡ true → IsSome ks → AllAre is_key ks
    → ((x : ℕ) (v : Within) (u : Read) (at : ℕ) → step (reference x v) u at l ≡ state (word x ks v) u)
    → state (word place ks w) r ≡ Ok s → Next q b s =
    λ l ks is some keys steps here. lands q b (word place ks w) r s h (
      k.0,
      some,
      keys,
      (l ∷ [], refer_by place reference (λ x v. word x ks v) [] q b l is k.1 steps),
    ) here in
    choose (eqb b 108) (state (word place (116 ∷ 59 ∷ []) w) r) _ s
    (λ is here. next 108 (116 ∷ 59 ∷ []) is tt (refl, (refl, tt)) (λ x v u at. refl) here)
    (λ _ e1. choose (eqb b 103) (state (word place (116 ∷ 59 ∷ []) w) r) _ s
    (λ is here. next 103 (116 ∷ 59 ∷ []) is tt (refl, (refl, tt)) (λ x v u at. refl) here)
    (λ _ e2. choose (eqb b 113) (state (word place (117 ∷ 111 ∷ 116 ∷ 59 ∷ []) w) r) _ s
    (λ is here. next 113 (117 ∷ 111 ∷ 116 ∷ 59 ∷ []) is tt (refl, (refl, (refl, (refl, tt)))) (λ x v u at. refl) here)
    (λ _ e3. choose (eqb b 97) (state (reference_a place w) r) _ s
    (λ is here. lands q b (reference_a place w) r s h
    (k.0, refer_by place reference reference_a [] q b 97 is k.1 (λ x v u at. refl)) here)
    (λ _ e4. choose (eqb b 35) (state (hash place w) r) _ s
    (λ is here. lands q b (hash place w) r s h
    (k.0, refer_by place reference hash [] q b 35 is k.1 (λ x v u at. refl)) here)
    (λ _ here. no s here) e4) e3) e2) e1) e
forth (reference_a place w) r q b s there h k e =
    choose (eqb b 109) (state (word place (112 ∷ 59 ∷ []) w) r) _ s
    (λ is here. lands q b (word place (112 ∷ 59 ∷ []) w) r s h (
      k.0,
      tt,
      (refl, (refl, tt)),
      (
        97 ∷ 109 ∷ [],
        refer_by place reference_a (λ x v. word x (112 ∷ 59 ∷ []) v) (97 ∷ []) q b 109 is k.1 (λ x v u at. refl),
      ),
    ) here)
    (λ _ e1. choose (eqb b 112) (state (word place (111 ∷ 115 ∷ 59 ∷ []) w) r) _ s
    (λ is here. lands q b (word place (111 ∷ 115 ∷ 59 ∷ []) w) r s h (
      k.0,
      tt,
      (refl, (refl, (refl, tt))),
      (
        97 ∷ 112 ∷ [],
        refer_by place reference_a (λ x v. word x (111 ∷ 115 ∷ 59 ∷ []) v) (97 ∷ []) q b 112 is k.1
            (λ x v u at. refl),
      ),
    ) here)
    (λ _ here. no s here) e1) e
forth (word place ks w) r q b s there h k e = forth_word place ks w r q b s h k e
forth (hash place w) r q b s there h k e =
    choose (eqb b 120) (state (hash_x place w) r) _ s
    (λ is here. lands q b (hash_x place w) r s h
    (k.0, refer_by place hash hash_x (35 ∷ []) q b 120 is k.1 (λ x v u at. refl)) here)
    (λ _ e1. choose (is_decimal b) (state (in_decimal place (digit b) w) r) _ s
    (λ is here. lands q b (in_decimal place (digit b) w) r s h (
      k.0,
      b ∷ [],
      (is, tt),
      refer_on place hash
          (λ x v. in_decimal x (digit b) v) (35 ∷ []) q b k.1 (λ x v u at. rw (decimal_isnt_x b is, is) refl),
    ) here)
    (λ _ here. no s here) e1) e
forth (hash_x place w) r q b s there h k e =
    choose (is_hexadecimal b) (state (in_hexadecimal place (digit b) w) r) _ s
    (λ is here. lands q b (in_hexadecimal place (digit b) w) r s h (
      k.0,
      b ∷ [],
      (is, tt),
      refer_on place hash_x
          (λ x v. in_hexadecimal x (digit b) v) (35 ∷ 120 ∷ []) q b k.1 (λ x v u at. rw is refl),
    ) here)
    (λ _ here. no s here) e
forth (in_decimal place n w) r q b s there h (held, ds, are, known) e =
    let p : ℕ → Within → Phase = λ x v. in_decimal x n v in
    choose (is_decimal b) (state (in_decimal place (n * 10 + digit b) w) r) _ s
    (λ is here. lands q b (in_decimal place (n * 10 + digit b) w) r s h (
      held,
      ds ++ b ∷ [],
      digits_push is_decimal ds b are is,
      refer_on place p (λ x v. in_decimal x (n * 10 + digit b) v) (35 ∷ ds) q b known
          (λ x v u at. rw is refl),
    ) here)
    (λ _ e1. choose (eqb b 59) (state (after_number place n w) r) _ s
    (λ is here. forth_number (is_character n) place p (35 ∷ ds) w r q b s h held
    (decimal ds, [], are, append-nil (38 ∷ 35 ∷ (ds ++ 59 ∷ []))) known is
    (λ isnt x v u at. rw isnt refl) here)
    (λ _ here. no s here) e1) e
forth (in_hexadecimal place n w) r q b s there h (held, ds, are, known) e =
    let p : ℕ → Within → Phase = λ x v. in_hexadecimal x n v in
    choose (is_hexadecimal b) (state (in_hexadecimal place (n * 16 + digit b) w) r) _ s
    (λ is here. lands q b (in_hexadecimal place (n * 16 + digit b) w) r s h (
      held,
      ds ++ b ∷ [],
      digits_push is_hexadecimal ds b are is,
      refer_on place p (λ x v. in_hexadecimal x (n * 16 + digit b) v)
          (35 ∷ 120 ∷ ds) q b known (λ x v u at. rw is refl),
    ) here)
    (λ _ e1. choose (eqb b 59) (state (after_number place n w) r) _ s
    (λ is here. forth_number (is_character n) place p (35 ∷ 120 ∷ ds) w r q b s h held
    (hexadecimal ds, [], are, append-nil (38 ∷ 35 ∷ 120 ∷ (ds ++ 59 ∷ []))) known is
    (λ isnt x v u at. rw isnt refl) here)
    (λ _ here. no s here) e1) e
forth (no_character place) r q b s there h k e = no s e
forth (shut_begin place) r q b s there h (p, inside, is, bytes) e =
    choose (is_first b) (state (shut place (b ∷ [])) r) _ s
    (λ first here. lands q b (shut place (b ∷ [])) r s h
    (p, inside, is, (first, tt), tt, tail_push q p (60 ∷ 47 ∷ []) b bytes) here)
    (λ _ here. no s here) e
forth (shut place name) r q b s there h (p, inside, is, hn, hw, bytes) e =
    choose (is_name b) (state (shut place (name ++ b ∷ [])) r) _ s
    (λ more here. lands q b (shut place (name ++ b ∷ [])) r s h (
      p,
      inside,
      is,
      name_push name b hn more,
      tt,
      tail_push q p (60 ∷ 47 ∷ (name ++ [])) b bytes
          ∙ ap (λ x. p ++ (60 ∷ 47 ∷ x)) (append_assoc name [] (b ∷ []) ∙ sym (append-nil (name ++ b ∷ []))),
    ) here)
    (λ _ e1. choose (eqb b 58) _ (step_shut r.frames place name r (length q) b) s (λ _ here. no s here)
    (λ _ on. forth_shut r.frames place name [] r q b s refl h h (p, inside, is, hn, hw, bytes) on) e1) e
forth (shut_gap place name) r q b s there h k e =
    forth_shut r.frames place name k.0 r q b s refl h h k.1 e

lands_here : (q : List ℕ) (p : Phase) (r : Read) (t : State) → AreNamed r.frames → Past p r.frames q
    → state p r ≡ Ok t → AreNamed t.read.frames × Past t.phase t.read.frames (q ++ [])
lands_here q p r t h k e =
    let same : record { phase = p; read = r } ≡ t = cc in
    subst (λ (s : State). AreNamed s.read.frames × Past s.phase s.read.frames (q ++ [])) same
    (h, subst (Past p r.frames) (sym (append-nil q)) k)

-- after all bytes that it comes over
history_from : (rest : List ℕ) (q : List ℕ) (p : Phase) (r : Read) (t : State) → Reaches q p r → AreNamed r.frames
    → Past p r.frames q → reached p r (length q) rest ≡ Ok t
    → AreNamed t.read.frames × Past t.phase t.read.frames (q ++ rest)
history_from [] q p r t here h k e =
    lands_here q p r t h k e
history_from (b ∷ rest) q p r t here h k e =
    let g = comes (step p r (length q) b) (λ s. reached s.phase s.read (length q + 1) rest) t e in
    let next = forth p r q b g.0 here h k g.1 in
    let s : State = g.0 in
    let l = history_from rest (q ++ b ∷ []) s.phase s.read t (push q p r b s here g.1) next.0 next.1
    (ap (λ n. reached s.phase s.read n rest) (length_push q b) ∙ g.2) in
    (l.0, subst (Past t.phase t.read.frames) (append_assoc q (b ∷ []) rest) l.1)

-- what is known wherever the machine stands
pub history : (q : List ℕ) (p : Phase) (r : Read) → Reaches q p r → AreNamed r.frames × Past p r.frames q
history q p r here = history_from q [] beginning start (record { phase = p; read = r }) refl tt tt here
