-- What the machine says of end tags with another name, of elements too deep and of bytes that spell no reference.
use Rattle.std.proofs.Common.{◌≡◌, ◌⊎◌, ◌≤◌, ℕ, ◌+◌, ◌*◌, Bool, true, false, cond, eqb, ltb, List, [], ◌∷◌, ◌++◌}
use Rattle.std.proofs.Common.{length}
use Rattle.std.proofs.Common.{Err, refl, sym, ◌∙◌, ap, subst, inl, inr, arith, append_assoc, append-nil}
use Rattle.std.proofs.lemmas.Bool.Decides.{nat_tests}
use Rattle.std.proofs.lemmas.Bool.{false_from_ne_true}
use Rattle.std.proofs.lemmas.Slice.Eq.{bytes_eq-Decides}
use Rattle.std.specs.Str.{bytes_eq}
use Rattle.xhstt_text.specs.Bytes.{is_first}
use Rattle.xhstt_text.specs.Units.{Entity, Piece, named as named_entity, decimal, hexadecimal, less, greater, ampersand}
use Rattle.xhstt_text.specs.Units.{apostrophe, quotation, piece_text, IsPiece, AreDigits, is_decimal, is_hexadecimal}
use Rattle.xhstt_text.specs.Units.{digit, number_from, is_character}
use Rattle.xhstt_text.specs.Faults.{mismatched_end, bad_reference, too_deep}
use Rattle.xhstt_text.specs.Machine.{Within, after_piece, after_number, content, opened, reference, reference_a, word}
use Rattle.xhstt_text.specs.Machine.{hash, hash_x, in_decimal, in_hexadecimal, no_character, Phase, Read, Frame}
use Rattle.xhstt_text.specs.Machine.{Step, refused, state, step, step_shut, and_then, run, outcome_of}
use Rattle.xhstt_text.specs.declared.faults.TextFault.{TextFault}
use Rattle.xhstt_text.proofs.Runs.{by_step}
use Rattle.xhstt_text.proofs.Sound.{digits_push, names_of, same_byte}
use Rattle.text_fault_laws.specs.Fronts.{BeginsReference, DeepAt, HasReferenceForm, IsReference, MismatchesAt}
use Rattle.text_fault_laws.specs.Fronts.{MisrefersAt}
use Rattle.text_fault_laws.specs.Fronts.{SpellsReference}
use Rattle.text_fault_laws.proofs.Begun.{refers, shut_over}
use Rattle.text_fault_laws.proofs.Inside.{inside_reaches}
use Rattle.text_fault_laws.proofs.Known.{length_names}
use Rattle.text_fault_laws.proofs.Reach.{Reaches, over, reads, refuses}

-- an end tag with another name
greater_after_wrong_name : (fs : List Frame) (inner : List ℕ) (outer : List (List ℕ)) (place : ℕ) (name : List ℕ)
    (r : Read) (at : ℕ)
    → names_of fs ≡ inner ∷ outer → (name ≡ inner → ⊥)
    → step_shut fs place name r at 62 ≡ refused (mismatched_end place)
greater_after_wrong_name [] inner outer place name r at e other = cc
greater_after_wrong_name (f ∷ fs) inner outer place name r at e other =
    let same : f.name ≡ inner = cc in
    let apart : bytes_eq name f.name ≡ false =
    false_from_ne_true (bytes_eq name f.name) (λ d. other ((bytes_eq-Decides name f.name).0 d ∙ same)) in
    rw apart refl

pub mismatch_ends : (bytes : List ℕ) (at : ℕ) → MismatchesAt bytes at → outcome_of bytes ≡ Err (mismatched_end at)
mismatch_ends bytes at (inner, outer, before, name, w, rest, same, is, inside, hn, hw, other) =
    let c = inside_reaches before inner outer inside in
    let s = shut_over c.read.frames inner outer c.read (length before) name w refl c.open_ones hn hw in
    let tag : List ℕ = 60 ∷ 47 ∷ (name ++ w) in
    let q : List ℕ = before ++ tag in
    let here : Reaches q s.phase c.read = over before tag content c.read c.here ∙ s.there in
    let whole : bytes ≡ q ++ (62 ∷ rest) =
    same ∙ ap (λ y. before ++ (60 ∷ 47 ∷ y)) (sym (append_assoc name w (62 ∷ rest)))
    ∙ sym (append_assoc before tag (62 ∷ rest)) in
    ap outcome_of whole
    ∙ refuses q s.phase c.read 62 rest (mismatched_end (length before)) here
    (s.last (length q)
    ∙ greater_after_wrong_name c.read.frames inner outer (length before) name c.read (length q) c.open_ones other)
    ∙ ap (λ n. Err (mismatched_end n)) (sym is)

-- an element inside as many as may be open
full : (n : ℕ) → 32 ≤ n → ltb n 32 ≡ false
full n e = grind (arith, nat_tests)

deep_run : (fs : List Frame) (n : List ℕ) (ns : List (List ℕ)) (r : Read) (at first : ℕ) (rest : List ℕ) → r.frames ≡ fs
    → names_of fs ≡ n ∷ ns → 32 ≤ length (n ∷ ns) → is_first first ≡ true
    → run content r at (60 ∷ first ∷ rest) ≡ Err (too_deep at)
deep_run [] n ns r at first rest is e many h = cc
deep_run (f ∷ fs) n ns r at first rest is e many h =
    let size : length (n ∷ ns) ≡ length (f ∷ fs) = ap length (sym e) ∙ length_names (f ∷ fs) in
    let deep : ltb (length (f ∷ fs)) 32 ≡ false = full (length (f ∷ fs)) (subst (λ k. 32 ≤ k) size many) in
    by_step content r at 60 (first ∷ rest) (opened at) r (rw is refl)
    ∙ ap (λ (c : Step). and_then c (λ s. run s.phase s.read (at + 1 + 1) rest))
    (let d : step (opened at) r (at + 1) first ≡ refused (too_deep at) = rw (is, h, deep) refl in d)

pub deep_ends : (bytes : List ℕ) (at : ℕ) → DeepAt bytes at → outcome_of bytes ≡ Err (too_deep at)
deep_ends bytes at ([], before, first, rest, same, is, inside, many, h) = absurd (none_full many)
  where
    none_full : 32 ≤ 0 → ⊥
    none_full e = omega (arith, e)
deep_ends bytes at (n ∷ ns, before, first, rest, same, is, inside, many, h) =
    let c = inside_reaches before n ns inside in
    ap outcome_of same
    ∙ reads before content c.read c.here (60 ∷ first ∷ rest)
    ∙ deep_run c.read.frames n ns c.read (length before) first rest refl c.open_ones many h
    ∙ ap (λ n. Err (too_deep n)) (sym is)

-- a truth value
pub truth : (c : Bool) → (c ≡ true) ⊎ (c ≡ false)
truth true = inl refl
truth false = inr refl

fails : (p : Phase) (r : Read) (at b : ℕ) (bs : List ℕ) (f : TextFault) → step p r at b ≡ refused f
    → run p r at (b ∷ bs) ≡ Err f
fails p r at b bs f e = ap (λ (c : Step). and_then c (λ s. run s.phase s.read (at + 1) bs)) e

-- the rest of the name of an entity is not what follows
word_ends : (k : ℕ) (ks rest : List ℕ) (place : ℕ) (w : Within) (r : Read) (at : ℕ)
    → ((more : List ℕ) → rest ≡ (k ∷ ks) ++ more → ⊥) → ((more : List ℕ) → rest ++ more ≡ k ∷ ks → ⊥)
    → run (word place (k ∷ ks) w) r at rest ≡ Err (bad_reference place)
word_ends k ks [] place w r at spells begins = absurd (begins (k ∷ ks) refl)
word_ends k [] (b ∷ bs) place w r at spells begins = elim (truth (eqb b k)) [
  | inl is ↦ absurd (spells bs (ap (λ x. x ∷ bs) (same_byte b k is)))
  | inr isnt ↦ fails (word place (k ∷ []) w) r at b bs (bad_reference place) (rw isnt refl)
]
word_ends k (l ∷ ks) (b ∷ bs) place w r at spells begins = elim (truth (eqb b k)) [
  | inl is ↦
      by_step (word place (k ∷ l ∷ ks) w) r at b bs (word place (l ∷ ks) w) r (rw is refl)
      ∙ word_ends l ks bs place w r (at + 1)
      (λ more e. spells more (ap (λ x. x ∷ bs) (same_byte b k is) ∙ ap (λ x. k ∷ x) e))
      (λ more e. begins more (ap (λ x. x ∷ (bs ++ more)) (same_byte b k is) ∙ ap (λ x. k ∷ x) e))
  | inr isnt ↦ fails (word place (k ∷ l ∷ ks) w) r at b bs (bad_reference place) (rw isnt refl)
]

-- numbers of one base: how they are spelled, and what the machine does over their digits and at their end
record Form (test : ℕ → Bool) (base : ℕ) (make : List ℕ → Piece) (begin : List ℕ) (p : ℕ → Phase) (place : ℕ)
    (w : Within) (r : Read) : Type 0 where
  form : (ds : List ℕ) → AreDigits test ds → HasReferenceForm (make ds)
  piece : (ds : List ℕ) → AreDigits test ds → is_character (number_from base 0 ds) ≡ true → IsPiece (make ds)
  refers_so : (ds : List ℕ) → IsReference (make ds)
  spelled : (ds : List ℕ) → piece_text (make ds) ≡ begin ++ (ds ++ 59 ∷ [])
  on : (n at b : ℕ) → test b ≡ true → step (p n) r at b ≡ state (p (n * base + digit b)) r
  last : (n at : ℕ) → step (p n) r at 59 ≡ state (after_number place n w) r
  off : (n at b : ℕ) → test b ≡ false → eqb b 59 ≡ false → step (p n) r at b ≡ refused (bad_reference place)

-- after its `;`
number_last : (c : Bool) (place : ℕ) (w : Within) (r : Read) (at : ℕ) (rest : List ℕ) → (c ≡ true → ⊥)
    → (rest ≡ [] → ⊥) → run (cond c (after_piece w) (no_character place)) r at rest ≡ Err (bad_reference place)
number_last true place w r at rest char begins = absurd (char refl)
number_last false place w r at [] char begins = absurd (begins refl)
number_last false place w r at (b ∷ bs) char begins = refl

number_ends : (test : ℕ → Bool) (base : ℕ) (make : List ℕ → Piece) (begin : List ℕ) (p : ℕ → Phase) (place : ℕ)
    (w : Within) (r : Read) → Form test base make begin p place w r → (rest ds : List ℕ) (n at : ℕ)
    → AreDigits test ds → ((y : List ℕ) → number_from base n y ≡ number_from base 0 (ds ++ y))
    → (SpellsReference (begin ++ (ds ++ rest)) → ⊥) → (BeginsReference (begin ++ (ds ++ rest)) → ⊥)
    → run (p n) r at rest ≡ Err (bad_reference place)
number_ends test base make begin p place w r f [] ds n at are value spells begins =
    absurd (begins (
      make ds,
      59 ∷ [],
      f.form ds are,
      append_assoc begin (ds ++ []) (59 ∷ []) ∙ ap (λ y. begin ++ (y ++ 59 ∷ [])) (append-nil ds) ∙ sym (f.spelled ds),
    ))
number_ends test base make begin p place w r f (b ∷ bs) ds n at are value spells begins = elim (truth (test b)) [
  | inl is ↦
      let more : (ds ++ b ∷ []) ++ bs ≡ ds ++ (b ∷ bs) = append_assoc ds (b ∷ []) bs in
      by_step (p n) r at b bs (p (n * base + digit b)) r (f.on n at b is)
      ∙ number_ends test base make begin p place w r f bs (ds ++ b ∷ []) (n * base + digit b) (at + 1)
      (digits_push test ds b are is)
      (λ y. value (b ∷ y) ∙ ap (number_from base 0) (sym (append_assoc ds (b ∷ []) y)))
      (λ s. spells (subst (λ y. SpellsReference (begin ++ y)) more s))
      (λ s. begins (subst (λ y. BeginsReference (begin ++ y)) more s))
  | inr isnt ↦ elim (truth (eqb b 59)) [
    | inl is ↦
        let whole : begin ++ (ds ++ (b ∷ bs)) ≡ piece_text (make ds) ++ bs =
        ap (λ k. begin ++ (ds ++ (k ∷ bs))) (same_byte b 59 is)
        ∙ ap (λ y. begin ++ y) (sym (append_assoc ds (59 ∷ []) bs))
        ∙ sym (append_assoc begin (ds ++ 59 ∷ []) bs) ∙ ap (λ y. y ++ bs) (sym (f.spelled ds)) in
        let number : n ≡ number_from base 0 ds = value [] ∙ ap (number_from base 0) (append-nil ds) in
        by_step (p n) r at b bs (after_number place n w) r
        (subst (λ k. step (p n) r at k ≡ state (after_number place n w) r) (sym (same_byte b 59 is)) (f.last n at))
        ∙ number_last (is_character n) place w r (at + 1) bs
        (λ c. spells (make ds, bs, f.refers_so ds, f.piece ds are (ap is_character (sym number) ∙ c), whole))
        (λ e. begins (
          make ds,
          [],
          f.form ds are,
          append-nil (begin ++ (ds ++ (b ∷ bs))) ∙ whole
              ∙ ap (λ y. piece_text (make ds) ++ y) e ∙ append-nil (piece_text (make ds)),
        ))
    | inr other ↦ fails (p n) r at b bs (bad_reference place) (f.off n at b isnt other)
  ]
]

decimals : (place : ℕ) (w : Within) (r : Read)
    → Form is_decimal 10 decimal (38 ∷ 35 ∷ []) (λ n. in_decimal place n w) place w r
decimals place w r = record {
  form = (λ ds are. are);
  piece = (λ ds are char. (are, char));
  refers_so = (λ ds. tt);
  spelled = (λ ds. refl);
  on = (λ n at b is. rw is refl);
  last = (λ n at. refl);
  off = (λ n at b isnt other. rw (isnt, other) refl);
}

hexadecimals : (place : ℕ) (w : Within) (r : Read)
    → Form is_hexadecimal 16 hexadecimal (38 ∷ 35 ∷ 120 ∷ []) (λ n. in_hexadecimal place n w) place w r
hexadecimals place w r = record {
  form = (λ ds are. are);
  piece = (λ ds are char. (are, char));
  refers_so = (λ ds. tt);
  spelled = (λ ds. refl);
  on = (λ n at b is. rw is refl);
  last = (λ n at. refl);
  off = (λ n at b isnt other. rw (isnt, other) refl);
}

first_value : (base d : ℕ) (y : List ℕ) → number_from base d y ≡ number_from base (0 * base + d) y
first_value base d y = ap (λ n. number_from base n y) (let e : d ≡ 0 * base + d = omega arith in e)

-- after `&#x`
hash_x_ends : (rest : List ℕ) (place : ℕ) (w : Within) (r : Read) (at : ℕ)
    → (SpellsReference (38 ∷ 35 ∷ 120 ∷ rest) → ⊥) → (BeginsReference (38 ∷ 35 ∷ 120 ∷ rest) → ⊥)
    → run (hash_x place w) r at rest ≡ Err (bad_reference place)
hash_x_ends [] place w r at spells begins = absurd (begins (hexadecimal (48 ∷ []), 48 ∷ 59 ∷ [], (refl, tt), refl))
hash_x_ends (b ∷ bs) place w r at spells begins = elim (truth (is_hexadecimal b)) [
  | inl is ↦
      by_step (hash_x place w) r at b bs (in_hexadecimal place (digit b) w) r (rw is refl)
      ∙ number_ends is_hexadecimal 16 hexadecimal (38 ∷ 35 ∷ 120 ∷ []) (λ n. in_hexadecimal place n w) place w r
      (hexadecimals place w r) bs (b ∷ []) (digit b) (at + 1) (is, tt) (first_value 16 (digit b)) spells begins
  | inr isnt ↦ fails (hash_x place w) r at b bs (bad_reference place) (rw isnt refl)
]

-- after `&#`
hash_ends : (rest : List ℕ) (place : ℕ) (w : Within) (r : Read) (at : ℕ)
    → (SpellsReference (38 ∷ 35 ∷ rest) → ⊥) → (BeginsReference (38 ∷ 35 ∷ rest) → ⊥)
    → run (hash place w) r at rest ≡ Err (bad_reference place)
hash_ends [] place w r at spells begins = absurd (begins (decimal (48 ∷ []), 48 ∷ 59 ∷ [], (refl, tt), refl))
hash_ends (b ∷ bs) place w r at spells begins = elim (truth (eqb b 120)) [
  | inl is ↦
      let same : b ≡ 120 = same_byte b 120 is in
      by_step (hash place w) r at b bs (hash_x place w) r (rw is refl)
      ∙ hash_x_ends bs place w r (at + 1)
      (λ s. spells (subst (λ k. SpellsReference (38 ∷ 35 ∷ k ∷ bs)) (sym same) s))
      (λ s. begins (subst (λ k. BeginsReference (38 ∷ 35 ∷ k ∷ bs)) (sym same) s))
  | inr isnt ↦ elim (truth (is_decimal b)) [
    | inl is ↦
        by_step (hash place w) r at b bs (in_decimal place (digit b) w) r (rw (isnt, is) refl)
        ∙ number_ends is_decimal 10 decimal (38 ∷ 35 ∷ []) (λ n. in_decimal place n w) place w r
        (decimals place w r) bs (b ∷ []) (digit b) (at + 1) (is, tt) (first_value 10 (digit b)) spells begins
    | inr other ↦ fails (hash place w) r at b bs (bad_reference place) (rw (isnt, other) refl)
  ]
]

-- the name of an entity, of which these letters stand there
entity_ends : (e : Entity) (part : List ℕ) (k : ℕ) (ks rest : List ℕ) (place : ℕ) (w : Within) (r : Read) (at : ℕ)
    → (38 ∷ part) ++ (k ∷ ks) ≡ piece_text (named_entity e) → (SpellsReference (38 ∷ (part ++ rest)) → ⊥)
    → (BeginsReference (38 ∷ (part ++ rest)) → ⊥) → run (word place (k ∷ ks) w) r at rest ≡ Err (bad_reference place)
entity_ends e part k ks rest place w r at whole spells begins =
    word_ends k ks rest place w r at
    (λ more d. spells (
      named_entity e,
      more,
      tt,
      tt,
      ap (λ y. 38 ∷ (part ++ y)) d
          ∙ sym (append_assoc (38 ∷ part) (k ∷ ks) more) ∙ ap (λ y. y ++ more) whole,
    ))
    (λ more d. begins (
      named_entity e,
      more,
      tt,
      append_assoc (38 ∷ part) rest more
          ∙ ap (λ y. (38 ∷ part) ++ y) d ∙ whole,
    ))

-- the byte after these is this one
abbrev Not : (List ℕ → Type 0) → List ℕ → ℕ → List ℕ → Type 0
Not P part k rest = P (38 ∷ (part ++ (k ∷ rest))) → ⊥

with_byte : (P : List ℕ → Type 0) (part : List ℕ) (b k : ℕ) (rest : List ℕ) → eqb b k ≡ true → Not P part b rest
    → Not P part k rest
with_byte P part b k rest is = subst (λ x. Not P part x rest) (same_byte b k is)

-- after `&a`
reference_a_ends : (rest : List ℕ) (place : ℕ) (w : Within) (r : Read) (at : ℕ)
    → (SpellsReference (38 ∷ 97 ∷ rest) → ⊥) → (BeginsReference (38 ∷ 97 ∷ rest) → ⊥)
    → run (reference_a place w) r at rest ≡ Err (bad_reference place)
reference_a_ends [] place w r at spells begins = absurd (begins (named_entity ampersand, 109 ∷ 112 ∷ 59 ∷ [], tt, refl))
reference_a_ends (b ∷ bs) place w r at spells begins = elim (truth (eqb b 109)) [
  | inl is ↦
      by_step (reference_a place w) r at b bs (word place (112 ∷ 59 ∷ []) w) r (rw is refl)
      ∙ entity_ends ampersand (97 ∷ 109 ∷ []) 112 (59 ∷ []) bs place w r (at + 1) refl
      (with_byte SpellsReference (97 ∷ []) b 109 bs is spells) (with_byte BeginsReference (97 ∷ []) b 109 bs is begins)
  | inr n1 ↦ elim (truth (eqb b 112)) [
    | inl is ↦
        by_step (reference_a place w) r at b bs (word place (111 ∷ 115 ∷ 59 ∷ []) w) r (rw (n1, is) refl)
        ∙ entity_ends apostrophe (97 ∷ 112 ∷ []) 111 (115 ∷ 59 ∷ []) bs place w r (at + 1) refl
        (with_byte SpellsReference (97 ∷ []) b 112 bs is spells)
        (with_byte BeginsReference (97 ∷ []) b 112 bs is begins)
    | inr n2 ↦ fails (reference_a place w) r at b bs (bad_reference place) (rw (n1, n2) refl)
  ]
]

-- after `&`
reference_ends : (rest : List ℕ) (place : ℕ) (w : Within) (r : Read) (at : ℕ) → (SpellsReference (38 ∷ rest) → ⊥)
    → (BeginsReference (38 ∷ rest) → ⊥) → run (reference place w) r at rest ≡ Err (bad_reference place)
reference_ends [] place w r at spells begins = absurd (begins (named_entity less, 108 ∷ 116 ∷ 59 ∷ [], tt, refl))
reference_ends (b ∷ bs) place w r at spells begins = elim (truth (eqb b 108)) [
  | inl is ↦
      by_step (reference place w) r at b bs (word place (116 ∷ 59 ∷ []) w) r (rw is refl)
      ∙ entity_ends less (108 ∷ []) 116 (59 ∷ []) bs place w r (at + 1) refl
      (with_byte SpellsReference [] b 108 bs is spells) (with_byte BeginsReference [] b 108 bs is begins)
  | inr n1 ↦ elim (truth (eqb b 103)) [
    | inl is ↦
        by_step (reference place w) r at b bs (word place (116 ∷ 59 ∷ []) w) r (rw (n1, is) refl)
        ∙ entity_ends greater (103 ∷ []) 116 (59 ∷ []) bs place w r (at + 1) refl
        (with_byte SpellsReference [] b 103 bs is spells) (with_byte BeginsReference [] b 103 bs is begins)
    | inr n2 ↦ elim (truth (eqb b 113)) [
      | inl is ↦
          by_step (reference place w) r at b bs (word place (117 ∷ 111 ∷ 116 ∷ 59 ∷ []) w) r (rw (n1, n2, is) refl)
          ∙ entity_ends quotation (113 ∷ []) 117 (111 ∷ 116 ∷ 59 ∷ []) bs place w r (at + 1) refl
          (with_byte SpellsReference [] b 113 bs is spells) (with_byte BeginsReference [] b 113 bs is begins)
      | inr n3 ↦ elim (truth (eqb b 97)) [
        | inl is ↦
            by_step (reference place w) r at b bs (reference_a place w) r (rw (n1, n2, n3, is) refl)
            ∙ reference_a_ends bs place w r (at + 1)
            (with_byte SpellsReference [] b 97 bs is spells) (with_byte BeginsReference [] b 97 bs is begins)
        | inr n4 ↦ elim (truth (eqb b 35)) [
          | inl is ↦
              by_step (reference place w) r at b bs (hash place w) r (rw (n1, n2, n3, n4, is) refl)
              ∙ hash_ends bs place w r (at + 1)
              (with_byte SpellsReference [] b 35 bs is spells) (with_byte BeginsReference [] b 35 bs is begins)
          | inr n5 ↦ fails (reference place w) r at b bs (bad_reference place) (rw (n1, n2, n3, n4, n5) refl)
        ]
      ]
    ]
  ]
]

pub misrefer_ends : (bytes : List ℕ) (at : ℕ) → MisrefersAt bytes at → outcome_of bytes ≡ Err (bad_reference at)
misrefer_ends bytes at (before, rest, same, is, may, spells, begins) =
    let c = refers before may in
    let q : List ℕ = before ++ 38 ∷ [] in
    ap outcome_of (same ∙ sym (append_assoc before (38 ∷ []) rest))
    ∙ reads q (reference (length before) c.within) c.read c.here rest
    ∙ reference_ends rest (length before) c.within c.read (length q) spells begins
    ∙ ap (λ n. Err (bad_reference n)) (sym is)
