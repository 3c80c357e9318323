-- The fault that the machine ends in is one of the rows.
use Rattle.std.proofs.Common.{◌≡◌, ◌⊎◌, ◌≤◌, ℕ, ◌+◌, Bool, true, false, cond, List, [], ◌∷◌, ◌++◌, length, Ok, Err}
use Rattle.std.proofs.Common.{refl, sym}
use Rattle.std.proofs.Common.{◌∙◌, ap, subst, inl, inr, arith, append_assoc, append-nil}
use Rattle.xhstt_text.specs.Bytes.{IsName}
use Rattle.xhstt_text.specs.Units.{Piece, wide, named as named_entity, decimal, hexadecimal, piece_text, IsPiece}
use Rattle.xhstt_text.specs.Units.{entity_name}
use Rattle.xhstt_text.specs.Document.{has_name}
use Rattle.xhstt_text.specs.Faults.{bad_markup, bad_reference, unsupported}
use Rattle.xhstt_text.specs.Machine.{Within, in_text, after_piece, reference, reference_a, word, hash, hash_x}
use Rattle.xhstt_text.specs.Machine.{in_decimal}
use Rattle.xhstt_text.specs.Machine.{in_hexadecimal, declared_open, other_word, no_character, Frame, Read, Tag, Phase}
use Rattle.xhstt_text.specs.Machine.{ended, ended_open, opened, start_name, attribute_name, shut, shut_gap, State, Step}
use Rattle.xhstt_text.specs.Machine.{Outcome, state, step, finish, and_then, run, outcome_of, beginning}
use Rattle.xhstt_text.specs.declared.faults.TextFault.{TextFault}
use Rattle.xhstt_text.specs.declared.faults.TextFault.TheVariants.{Bad, NoMemory}
use Rattle.fault_tables.specs.declared.faults.TheConstants.{BAD_REFERENCE}
use Rattle.xhstt_text.proofs.Answer.{faulty, same_fault, same_parts}
use Rattle.xhstt_text.proofs.Pieces.{run_named, run_decimals, run_hexadecimals}
use Rattle.xhstt_text.proofs.Sound.{names_of}
use Rattle.text_fault_laws.specs.Fronts.{IsFront, IsBegun, IsOtherWord, EndsName, SpellsReference, BeginsReference}
use Rattle.text_fault_laws.specs.Fronts.{IsReference}
use Rattle.text_fault_laws.specs.Rows.{IsMarkupFault}
use Rattle.text_fault_laws.proofs.Begun.{Usual, arrives, cons_tail, over_reference, read_begun, usual_phase}
use Rattle.text_fault_laws.proofs.Forth.{history, stopped}
use Rattle.text_fault_laws.proofs.Known.{At, length_names, Past, Referring, Shutting, alive}
use Rattle.text_fault_laws.proofs.Live.{AreNamed, Live}
use Rattle.text_fault_laws.proofs.LiveParts.{live_attribute_name, live_declared_open, live_ended_open, live_opened}
use Rattle.text_fault_laws.proofs.Reach.{Reaches, length_push, one_state, push, reached, reached_append}
use Rattle.text_fault_laws.proofs.Reach.{reached_prefix, reads, refused_reach, run_reached, start, then}
use Rattle.text_fault_laws.proofs.Refusals.{IsColon, IsDeep, IsInstruction, IsMismatched, IsMisreferred, Why, why}

-- the row of a fault
abbrev pub Row : List ℕ → TextFault → Type 0
Row bytes (Bad kind at) = IsMarkupFault bytes kind at
Row bytes NoMemory = ⊥

not_begun : (q : List ℕ) (p : Phase) (r : Read) (b : ℕ) (f : TextFault) → Reaches q p r → step p r (length q) b ≡ Err f
    → IsBegun (q ++ b ∷ []) → ⊥
not_begun q p r b f here d k =
    let a = arrives (q ++ b ∷ []) k in refused_reach q p r b f a.phase a.read here d a.here

stops : (p : Phase) (r : Read) (q : List ℕ) (b : ℕ) (bs : List ℕ) (f : TextFault) → Reaches q p r
    → step p r (length q) b ≡ Err f → Usual p → f ≡ bad_markup (length q) → Row (q ++ (b ∷ bs)) f
stops p r q b bs f here d u e =
    subst (Row (q ++ (b ∷ bs))) (sym e) (inl (
      refl,
      inl (q, b, bs, refl, refl, read_begun q p r here u, not_begun q p r b f here d),
    ))

instructs : (p : Phase) (r : Read) (q : List ℕ) (b : ℕ) (bs : List ℕ) (f : TextFault) (place : ℕ) → Reaches q p r
    → step p r (length q) b ≡ Err f → Live p r → At place q (60 ∷ []) → IsInstruction f place b
    → Row (q ++ (b ∷ bs)) f
instructs p r q b bs f place here d live (x, is, same) i =
    subst (Row (q ++ (b ∷ bs))) (sym i.fault) (inr (inr (inr (inl (
      refl,
      inr (inl (
        x,
        bs,
        ap (λ y. y ++ (b ∷ bs)) same ∙ ap (λ k. (x ++ 60 ∷ []) ++ (k ∷ bs)) i.mark,
        is,
        subst IsFront same (alive q p r here live),
        (λ front. stopped q p r b f here d (subst (λ y. IsFront (y ++ b ∷ [])) (sym same)
            (subst (λ k. IsFront ((x ++ 60 ∷ []) ++ k ∷ [])) (sym i.mark) front))),
      )),
    )))))

colons : (p : Phase) (r : Read) (q : List ℕ) (b : ℕ) (bs : List ℕ) (f : TextFault) (before name : List ℕ) (t : Phase)
    → Reaches q p r → step p r (length q) b ≡ Err f → step p r (length q) 95 ≡ state t r → Usual t → IsName name
    → q ≡ before ++ name → IsColon f (length q) b → Row (q ++ (b ∷ bs)) f
colons p r q b bs f before name t here d more u hn same i =
    let next = push q p r 95 (record { phase = t; read = r }) here more in
    subst (Row (q ++ (b ∷ bs))) (sym i.fault) (inr (inr (inr (inl (
      refl,
      inl (
        before,
        name,
        bs,
        ap (λ y. y ++ (b ∷ bs)) same ∙ ap (λ k. (before ++ name) ++ (k ∷ bs)) i.mark,
        ap length same,
        hn,
        subst (λ y. IsBegun (y ++ 95 ∷ [])) same (read_begun (q ++ 95 ∷ []) t r next u),
        (λ k. not_begun q p r b f here d (subst (λ y. IsBegun (y ++ b ∷ [])) (sym same)
            (subst (λ c. IsBegun ((before ++ name) ++ c ∷ [])) (sym i.mark) k))),
      ),
    )))))

deep : (fs : List Frame) (q : List ℕ) (b : ℕ) (bs : List ℕ) (f : TextFault) (place : ℕ) → Past (opened place) fs q
    → IsDeep f place fs b → Row (q ++ (b ∷ bs)) f
deep [] q b bs f place k i = let n : 32 ≤ 0 = i.full in absurd (omega arith)
deep (g ∷ gs) q b bs f place (x, inside, is, same) i =
    let n : 32 ≤ length (g ∷ gs) = i.full in
    let l : length (names_of (g ∷ gs)) ≡ length (g ∷ gs) = length_names (g ∷ gs) in
    subst (Row (q ++ (b ∷ bs))) (sym i.fault) (inr (inr (inr (inr (
      refl,
      (
        names_of (g ∷ gs),
        x,
        b,
        bs,
        ap (λ y. y ++ (b ∷ bs)) same ∙ append_assoc x (60 ∷ []) (b ∷ bs),
        is,
        inside,
        subst (λ n. 32 ≤ n) (sym l) n,
        i.first,
      ),
    )))))

mismatches : (fs : List Frame) (q : List ℕ) (b : ℕ) (bs : List ℕ) (f : TextFault) (place : ℕ) (name w : List ℕ)
    → Shutting place name w fs q → IsMismatched f place name fs b → Row (q ++ (b ∷ bs)) f
mismatches [] q b bs f place name w k i = absurd k.1
mismatches (g ∷ gs) q b bs f place name w (x, inside, is, hn, hw, same) i =
    let tag : List ℕ = 60 ∷ 47 ∷ (name ++ w) in
    subst (Row (q ++ (b ∷ bs))) (sym i.fault) (inr (inl (
      refl,
      (
        g.name,
        names_of gs,
        x,
        name,
        w,
        bs,
        ap (λ y. y ++ (b ∷ bs)) same ∙ append_assoc x tag (b ∷ bs)
            ∙ ap (λ y. x ++ (60 ∷ 47 ∷ y)) (append_assoc name w (b ∷ bs))
            ∙ ap (λ k. x ++ (60 ∷ 47 ∷ (name ++ (w ++ (k ∷ bs))))) i.last,
        is,
        inside,
        hn,
        hw,
        i.other,
      ),
    )))

repeats : (t : Tag) (place : ℕ) (name : List ℕ) (r : Read) (q rest : List ℕ) (f : TextFault)
    → Reaches q (attribute_name t place name) r → f ≡ bad_markup place → has_name name t.names ≡ true → EndsName rest
    → Row (q ++ rest) f
repeats t place name r q rest f here e has none =
    let p : Phase = attribute_name t place name in
    let h = history q p r here in
    let k = h.1 in
    subst (Row (q ++ rest)) (sym e) (inl (
      refl,
      inr (inr (
        k.2,
        k.3,
        name,
        rest,
        ap (λ x. x ++ rest) k.6,
        k.5,
        k.4,
        k.1,
        none,
        subst IsFront k.6 (alive q p r here (live_attribute_name t place name r h.0)),
        (λ front. stopped q p r 61 (bad_markup place) here (rw has refl)
            (subst (λ x. IsFront (x ++ 61 ∷ [])) (sym k.6) front)),
      )),
    ))

-- a reference that is spelled leads out of it, and the way does not tell of its place
spelled_run : (u : Piece) (more x : List ℕ) → IsReference u → IsPiece u → 38 ∷ x ≡ piece_text u ++ more → (r : Read)
    → (at : ℕ) × ((l : ℕ) → run (reference l in_text) r 0 x ≡ run (after_piece in_text) r at more)
spelled_run (wide b c) more x h k e r = absurd h
spelled_run (named_entity n) more x h k e r = (
  length (entity_name n) + 1,
  (λ l. ap (run (reference l in_text) r 0) (cons_tail x (entity_name n ++ (59 ∷ more))
      (e ∙ ap (λ y. 38 ∷ y) (append_assoc (entity_name n) (59 ∷ []) more)))
      ∙ run_named n l in_text r 0 more ∙ ap (λ i. run (after_piece in_text) r i more) (omega arith)),
)
spelled_run (decimal ds) more x h k e r = (
  length ds + 2,
  (λ l. ap (run (reference l in_text) r 0) (cons_tail x (35 ∷ (ds ++ (59 ∷ more)))
      (e ∙ ap (λ y. 38 ∷ 35 ∷ y) (append_assoc ds (59 ∷ []) more)))
      ∙ run_decimals ds l in_text r 1 more k.0 k.1 ∙ ap (λ i. run (after_piece in_text) r i more) (omega arith)),
)
spelled_run (hexadecimal ds) more x h k e r = (
  length ds + 3,
  (λ l. ap (run (reference l in_text) r 0) (cons_tail x (35 ∷ 120 ∷ (ds ++ (59 ∷ more)))
      (e ∙ ap (λ y. 38 ∷ 35 ∷ 120 ∷ y) (append_assoc ds (59 ∷ []) more)))
      ∙ run_hexadecimals ds l in_text r 2 more k.0 k.1 ∙ ap (λ i. run (after_piece in_text) r i more) (omega arith)),
)

two_places : (o : Outcome) → o ≡ Err (bad_reference 0) → o ≡ Err (bad_reference 1) → ⊥
two_places o e d =
    one_place 0 1 (same_parts BAD_REFERENCE 0 BAD_REFERENCE 1 (same_fault o (bad_reference 0) (bad_reference 1) e d)).1
    refl
  where
    one_place : (a b : ℕ) → a ≡ b → b ≡ a + 1 → ⊥
    one_place a b e d = omega arith

misrefers : (q : List ℕ) (b : ℕ) (bs : List ℕ) (f : TextFault) (place : ℕ) (p : ℕ → Within → Phase) (part : List ℕ)
    → Referring place p part q → IsMisreferred f place p b → Row (q ++ (b ∷ bs)) f
misrefers q b bs f place p part (before, is, may, same, leads) i =
    let x : List ℕ = part ++ (b ∷ bs) in
    let lost : (l : ℕ) → run (reference l in_text) start 0 x ≡ Err (bad_reference l) = λ l.
    run_reached part (b ∷ bs) (reference l in_text) start 0 (record { phase = p l in_text; read = start })
    (leads l in_text start 0)
    ∙ ap (λ (c : Step). and_then c (λ s. run s.phase s.read (0 + length part + 1) bs))
    (i.everywhere l in_text start (0 + length part)) in
    let ends : reached (reference 0 in_text) start 0 x ≡ Err (bad_reference 0) =
    reached_append part (b ∷ bs) (reference 0 in_text) start 0 (record { phase = p 0 in_text; read = start })
    (leads 0 in_text start 0)
    ∙ ap (λ (c : Step). then c (λ s. reached s.phase s.read (0 + length part + 1) bs))
    (i.everywhere 0 in_text start (0 + length part)) in
    subst (Row (q ++ (b ∷ bs))) (sym i.fault) (inr (inr (inl (
      refl,
      (
        before,
        x,
        ap (λ y. y ++ (b ∷ bs)) same ∙ append_assoc before (38 ∷ part) (b ∷ bs),
        is,
        may,
        (λ s. not_spelled x lost s),
        (λ s. not_front x ends s),
      ),
    ))))
  where
    not_spelled : (x : List ℕ) → ((l : ℕ) → run (reference l in_text) start 0 x ≡ Err (bad_reference l))
        → SpellsReference (38 ∷ x) → ⊥
    not_spelled x lost (u, more, h, k, e) =
        let s = spelled_run u more x h k e start in
        two_places (run (after_piece in_text) start s.0 more) (sym (s.1 0) ∙ lost 0) (sym (s.1 1) ∙ lost 1)

    not_front : (x : List ℕ) → reached (reference 0 in_text) start 0 x ≡ Err (bad_reference 0)
        → BeginsReference (38 ∷ x) → ⊥
    not_front x ends (u, more, form, e) =
        let o = over_reference u form 0 in_text start 0 (x ++ more) e in
        let s = reached_prefix x more (reference 0 in_text) start 0 (record { phase = o.0; read = start }) o.1 in
        let k : Ok s.0 ≡ Err (bad_reference 0) = sym s.1 ∙ ends in cc

-- in a word of other markup
strays : (place first : ℕ) (ks : List ℕ) (r : Read) (q rest : List ℕ) (f : TextFault)
    → Past (other_word place first ks) r.frames q → f ≡ bad_markup first → Row (q ++ rest) f
strays place first ks r q rest f (p, d, tail, is, front, bytes, o, (letters, u, there)) e =
    subst (Row (q ++ rest)) (sym e) (inl (
      refl,
      inl (
        p,
        d,
        tail ++ rest,
        ap (λ x. x ++ rest) bytes ∙ append_assoc p (d ∷ tail) rest,
        is,
        inl front,
        (λ k. let a = arrives (p ++ d ∷ []) k in
            let same = one_state (p ++ d ∷ []) a.phase (other_word place first letters) a.read u a.here there in
            subst (λ (s : State). Usual s.phase) same a.usual),
      ),
    ))

other_markup : (place first : ℕ) (r : Read) (q rest : List ℕ) (f : TextFault) → Reaches q (other_word place first []) r
    → Past (other_word place first []) r.frames q → f ≡ unsupported place → Row (q ++ rest) f
other_markup place first r q rest f here (p, d, tail, is, front, bytes, (x, at, start_is, word_is), stray) e =
    let same : q ≡ (x ++ 60 ∷ 33 ∷ []) ++ (d ∷ tail) = bytes ∙ ap (λ y. y ++ (d ∷ tail)) start_is in
    subst (Row (q ++ rest)) (sym e) (inr (inr (inr (inl (
      refl,
      inr (inr (
        x,
        d ∷ tail,
        rest,
        subst IsOtherWord (ap (λ y. d ∷ y) (append-nil tail)) word_is,
        ap (λ y. y ++ rest) same,
        at,
        subst IsFront start_is front,
        (λ f. usual_phase (other_word place first []) r q here (subst IsFront (sym same) f)),
      )),
    )))))

row_step : (p : Phase) (r : Read) (q : List ℕ) (b : ℕ) (bs : List ℕ) (f : TextFault) → Reaches q p r
    → AreNamed r.frames → Past p r.frames q → step p r (length q) b ≡ Err f → Why f p r.frames (length q) b
    → Row (q ++ (b ∷ bs)) f
row_step (declared_open place) r q b bs f here h k d (inl i) =
    instructs (declared_open place) r q b bs f place here d (live_declared_open place r) k i
row_step (declared_open place) r q b bs f here h k d (inr e) = stops (declared_open place) r q b bs f here d tt e
row_step (ended_open place) r q b bs f here h k d (inl i) =
    instructs (ended_open place) r q b bs f place here d (live_ended_open place r h) k i
row_step (ended_open place) r q b bs f here h k d (inr e) = stops (ended_open place) r q b bs f here d tt e
row_step (opened place) r q b bs f here h k d (inl i) = deep r.frames q b bs f place k i
row_step (opened place) r q b bs f here h k d (inr (inl i)) =
    instructs (opened place) r q b bs f place here d (live_opened place r h) (k.0, k.2, k.3) i
row_step (opened place) r q b bs f here h k d (inr (inr e)) = stops (opened place) r q b bs f here d tt e
row_step (other_word place first []) r q b bs f here h k d e = other_markup place first r q (b ∷ bs) f here k e
row_step (other_word place first (l ∷ ks)) r q b bs f here h k d e = strays place first (l ∷ ks) r q (b ∷ bs) f k e
row_step (start_name place name) r q b bs f here h k d (inl i) =
    colons (start_name place name) r q b bs f k.1 name (start_name place (name ++ 95 ∷ [])) here d refl tt k.0 k.2 i
row_step (start_name place name) r q b bs f here h k d (inr e) = stops (start_name place name) r q b bs f here d tt e
row_step (attribute_name t place name) r q b bs f here h k d (inl i) =
    repeats t place name r q (b ∷ bs) f here i.fault i.again i.after
row_step (attribute_name t place name) r q b bs f here h k d (inr (inl i)) =
    colons (attribute_name t place name) r q b bs f (k.2 ++ k.3 ∷ []) name (attribute_name t place (name ++ 95 ∷ []))
    here d refl tt k.1 (k.6 ∙ sym (append_assoc k.2 (k.3 ∷ []) name)) i
row_step (attribute_name t place name) r q b bs f here h k d (inr (inr e)) =
    stops (attribute_name t place name) r q b bs f here d tt e
row_step (reference place w) r q b bs f here h k d i = misrefers q b bs f place reference [] k.1 i
row_step (reference_a place w) r q b bs f here h k d i = misrefers q b bs f place reference_a (97 ∷ []) k.1 i
row_step (word place ks w) r q b bs f here h k d i =
    misrefers q b bs f place (λ l v. word l ks v) k.3.0 k.3.1 i
row_step (hash place w) r q b bs f here h k d i = misrefers q b bs f place hash (35 ∷ []) k.1 i
row_step (hash_x place w) r q b bs f here h k d i = misrefers q b bs f place hash_x (35 ∷ 120 ∷ []) k.1 i
row_step (in_decimal place n w) r q b bs f here h k d i =
    misrefers q b bs f place (λ l v. in_decimal l n v) (35 ∷ k.1) k.3 i
row_step (in_hexadecimal place n w) r q b bs f here h k d i =
    misrefers q b bs f place (λ l v. in_hexadecimal l n v) (35 ∷ 120 ∷ k.1) k.3 i
row_step (no_character place) r q b bs f here h k d i =
    misrefers q b bs f place (λ l v. no_character l) k.0 k.2 i
row_step (shut place name) r q b bs f here h k d (inl i) =
    colons (shut place name) r q b bs f (k.0 ++ 60 ∷ 47 ∷ []) name (shut place (name ++ 95 ∷ [])) here d refl tt k.3
    (k.5 ∙ ap (λ x. k.0 ++ (60 ∷ 47 ∷ x)) (append-nil name) ∙ sym (append_assoc k.0 (60 ∷ 47 ∷ []) name)) i
row_step (shut place name) r q b bs f here h k d (inr (inl i)) = mismatches r.frames q b bs f place name [] k i
row_step (shut place name) r q b bs f here h k d (inr (inr e)) = stops (shut place name) r q b bs f here d tt e
row_step (shut_gap place name) r q b bs f here h k d (inl i) = mismatches r.frames q b bs f place name k.0 k.1 i
row_step (shut_gap place name) r q b bs f here h k d (inr e) = stops (shut_gap place name) r q b bs f here d tt e
row_step p r q b bs f here h k d e = stops p r q b bs f here d tt e

abbrev Ended : TextFault → Outcome → Type 0
Ended f x = x ≡ Err f

says : (f g : TextFault) → Ended f (Err g) → f ≡ g
says f g e = cc

-- the end of the bytes
early : (p : Phase) (r : Read) (q : List ℕ) (f : TextFault) → Reaches q p r → Usual p → Ended f (finish p r (length q))
    → f ≡ bad_markup (length q) → Row (q ++ []) f
early p r q f here u e is =
    let nil : q ++ [] ≡ q = append-nil q in
    subst (Row (q ++ [])) (sym is) (inl (
      refl,
      inr (inl (
        ap length (sym nil),
        subst IsBegun (sym nil) (read_begun q p r here u),
        faulty (q ++ []) f (reads q p r here [] ∙ e),
      )),
    ))

early_name : (c : Bool) (t : Tag) (place : ℕ) (name : List ℕ) (r : Read) (q : List ℕ) (f : TextFault)
    → Reaches q (attribute_name t place name) r → has_name name t.names ≡ c
    → Ended f (Err (cond c (bad_markup place) (bad_markup (length q)))) → Row (q ++ []) f
early_name true t place name r q f here has e = repeats t place name r q [] f here (says f (bad_markup place) e) has tt
early_name false t place name r q f here has e =
    early (attribute_name t place name) r q f here tt
    (ap (λ c. Err (cond c (bad_markup place) (bad_markup (length q)))) has ∙ e) (says f (bad_markup (length q)) e)

row_end : (p : Phase) (r : Read) (q : List ℕ) (f : TextFault) → Reaches q p r → Past p r.frames q
    → Ended f (finish p r (length q)) → Row (q ++ []) f
row_end ended r q f here k e = cc
row_end (other_word place first []) r q f here k e =
    other_markup place first r q [] f here k (says f (unsupported place) e)
row_end (other_word place first (l ∷ ks)) r q f here k e =
    strays place first (l ∷ ks) r q [] f k (says f (bad_markup first) e)
row_end (attribute_name t place name) r q f here k e =
    early_name (has_name name t.names) t place name r q f here refl e
row_end p r q f here k e = early p r q f here tt e (says f (bad_markup (length q)) e)

lost_step : (x : Step) (g : State → Outcome) (f : TextFault) → Ended f (and_then x g)
    → ((s : State) × (x ≡ Ok s) × Ended f (g s)) ⊎ (x ≡ Err f)
lost_step (Ok s) g f e = inl (s, refl, e)
lost_step (Err h) g f e = inr (ap failed (sym (says f h e)))
  where
    failed : TextFault → Step
    failed f = Err f

row_from : (rest : List ℕ) (p : Phase) (r : Read) (q : List ℕ) (f : TextFault) → Reaches q p r
    → Ended f (run p r (length q) rest) → Row (q ++ rest) f
row_from [] p r q f here e = row_end p r q f here (history q p r here).1 e
row_from (b ∷ bs) p r q f here e =
    elim (lost_step (step p r (length q) b) (λ s. run s.phase s.read (length q + 1) bs) f e) [
      | inl (s, is, on) ↦
          subst (λ x. Row x f) (append_assoc q (b ∷ []) bs)
          (row_from bs s.phase s.read (q ++ b ∷ []) f (push q p r b s here is)
          (ap (λ n. run s.phase s.read n bs) (length_push q b) ∙ on))
      | inr d ↦
          let h = history q p r here in
          row_step p r q b bs f here h.0 h.1 d (why f p r (length q) b d)
    ]

-- the fault that the machine ends in
pub ends_in_row : (bytes : List ℕ) (f : TextFault) → outcome_of bytes ≡ Err f → Row bytes f
ends_in_row bytes f e = row_from bytes beginning start [] f refl e
