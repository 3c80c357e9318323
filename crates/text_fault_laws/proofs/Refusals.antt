-- Why the machine refuses a byte, in each of its phases.
use Rattle.std.proofs.Common.{◌≡◌, ◌⊎◌, ◌≤◌, ℕ, Bool, true, false, cond, ◌&&◌, leb, eqb, ltb, List, [], ◌∷◌}
use Rattle.std.proofs.Common.{length, Ok, Err, refl, inl, inr, arith}
use Rattle.std.proofs.lemmas.Bool.Decides.{nat_tests}
use Rattle.std.proofs.lemmas.Slice.Eq.{bytes_eq-Decides}
use Rattle.std.specs.Str.{bytes_eq}
use Rattle.xhstt_text.specs.Bytes.{is_white, is_first, is_name, is_text, is_quoted, is_quote}
use Rattle.xhstt_text.specs.Units.{is_decimal, is_hexadecimal, is_last}
use Rattle.xhstt_text.specs.Document.{has_name}
use Rattle.xhstt_text.specs.Faults.{bad_markup, mismatched_end, bad_reference, unsupported, too_deep}
use Rattle.xhstt_text.specs.Machine.{Within, wide_1, wide_2, reference, reference_a, word, hash, hash_x, in_decimal}
use Rattle.xhstt_text.specs.Machine.{in_hexadecimal, step_word, beginning, mark_1, mark_2, at_declaration}
use Rattle.xhstt_text.specs.Machine.{declared_open, question, in_declaration, closed, step_declaration, step_question}
use Rattle.xhstt_text.specs.Machine.{other_word, no_character, Frame, Read, Tag, Phase, content, ended}
use Rattle.xhstt_text.specs.Machine.{ended_open, bang, bang_dash, in_comment, opened, start_name, valued, in_tag, slash}
use Rattle.xhstt_text.specs.Machine.{attribute_name, named, equals, in_value, shut_begin, shut, shut_gap, State, Step}
use Rattle.xhstt_text.specs.Machine.{refused, start_of, step, step_content, step_opened, step_valued, step_named}
use Rattle.xhstt_text.specs.Machine.{step_shut}
use Rattle.xhstt_text.specs.declared.faults.TextFault.{TextFault}
use Rattle.xhstt_text.proofs.Sound.{same_byte}

-- a `?` after the `<` at a place
pub record IsInstruction (f : TextFault) (place b : ℕ) : Type 0 where
  pub fault : f ≡ unsupported place
  pub mark : b ≡ 63

-- a `:` after a name
pub record IsColon (f : TextFault) (at b : ℕ) : Type 0 where
  pub fault : f ≡ unsupported at
  pub mark : b ≡ 58

-- an element inside as many as may be open
pub record IsDeep (f : TextFault) (place : ℕ) (fs : List Frame) (b : ℕ) : Type 0 where
  pub fault : f ≡ too_deep place
  pub first : is_first b ≡ true
  pub full : 32 ≤ length fs

-- another name than that of the open element
abbrev pub Differs : List ℕ → List Frame → Type 0
Differs name [] = ⊥
Differs name (f ∷ fs) = name ≡ f.name → ⊥

pub record IsMismatched (f : TextFault) (place : ℕ) (name : List ℕ) (fs : List Frame) (b : ℕ) : Type 0 where
  pub fault : f ≡ mismatched_end place
  pub other : Differs name fs
  pub last : b ≡ 62

-- the repeated name of an attribute, of which the byte is none
pub record IsRepeated (f : TextFault) (t : Tag) (place : ℕ) (name : List ℕ) (b : ℕ) : Type 0 where
  pub fault : f ≡ bad_markup place
  pub again : has_name name t.names ≡ true
  pub after : is_name b ≡ false

-- in a reference, wherever it stands
pub record IsMisreferred (f : TextFault) (place : ℕ) (p : ℕ → Within → Phase) (b : ℕ) : Type 0 where
  pub fault : f ≡ bad_reference place
  pub everywhere : (l : ℕ) (v : Within) (u : Read) (at : ℕ) → step (p l v) u at b ≡ refused (bad_reference l)

-- what a step in this phase says, at this place, of this byte
abbrev pub Why : TextFault → Phase → List Frame → ℕ → ℕ → Type 0
Why f (declared_open place) fs at b = IsInstruction f place b ⊎ (f ≡ bad_markup at)
Why f (ended_open place) fs at b = IsInstruction f place b ⊎ (f ≡ bad_markup at)
Why f (opened place) fs at b = IsDeep f place fs b ⊎ (IsInstruction f place b ⊎ (f ≡ bad_markup at))
Why f (other_word place first []) fs at b = f ≡ unsupported place
Why f (other_word place first (k ∷ ks)) fs at b = f ≡ bad_markup first
Why f (start_name place name) fs at b = IsColon f at b ⊎ (f ≡ bad_markup at)
Why f (attribute_name t place name) fs at b = IsRepeated f t place name b ⊎ (IsColon f at b ⊎ (f ≡ bad_markup at))
Why f (reference place w) fs at b = IsMisreferred f place reference b
Why f (reference_a place w) fs at b = IsMisreferred f place reference_a b
Why f (word place ks w) fs at b = IsMisreferred f place (λ l v. word l ks v) b
Why f (hash place w) fs at b = IsMisreferred f place hash b
Why f (hash_x place w) fs at b = IsMisreferred f place hash_x b
Why f (in_decimal place n w) fs at b = IsMisreferred f place (λ l v. in_decimal l n v) b
Why f (in_hexadecimal place n w) fs at b = IsMisreferred f place (λ l v. in_hexadecimal l n v) b
Why f (no_character place) fs at b = IsMisreferred f place (λ l v. no_character l) b
Why f (shut place name) fs at b = IsColon f at b ⊎ (IsMismatched f place name fs b ⊎ (f ≡ bad_markup at))
Why f (shut_gap place name) fs at b = IsMismatched f place name fs b ⊎ (f ≡ bad_markup at)
Why f _ fs at b = f ≡ bad_markup at

-- a step that is refused
abbrev Lost : TextFault → Step → Type 0
Lost f x = x ≡ Err f

either : {G : Type 0} (f : TextFault) (c : Bool) (x y : Step) → (Lost f x → G) → (Lost f y → G) → Lost f (cond c x y)
    → G
either f true x y g h e = g e
either f false x y g h e = h e

split : {G : Type 0} (f : TextFault) (c : Bool) (x y : Step) → (c ≡ true → Lost f x → G) → (c ≡ false → Lost f y → G)
    → Lost f (cond c x y) → G
split f true x y g h e = g refl e
split f false x y g h e = h refl e

goes : {G : Type 0} (f : TextFault) {s : State} → Ok s ≡ Err f → G
goes f e = cc

says : (f g : TextFault) → Lost f (refused g) → f ≡ g
says f g e = cc

tagless : (f : TextFault) (place at b : ℕ) (c : Bool) → eqb b 63 ≡ c
    → Lost f (refused (cond c (unsupported place) (bad_markup at))) → IsInstruction f place b ⊎ (f ≡ bad_markup at)
tagless f place at b true is e = inl (record { fault = says f (unsupported place) e; mark = same_byte b 63 is })
tagless f place at b false is e = inr (says f (bad_markup at) e)

colon : (f : TextFault) (at b : ℕ) → eqb b 58 ≡ true → Lost f (refused (unsupported at)) → IsColon f at b
colon f at b is e = record { fault = says f (unsupported at) e; mark = same_byte b 58 is }

why_content : (f : TextFault) (fs : List Frame) (r : Read) (at b : ℕ) → Lost f (step_content fs r at b)
    → f ≡ bad_markup at
why_content f [] r at b = either f (eqb b 60) _ _ (goes f) (either f (is_white b) _ _ (goes f) (says f (bad_markup at)))
why_content f (g ∷ gs) r at b =
    either f (eqb b 60) _ _ (goes f) (either f (is_text b) _ _ (goes f) (either f (eqb b 38) _ _ (goes f)
    (either f (eqb b 239) _ _ (goes f) (says f (bad_markup at)))))

full : (n : ℕ) → ltb n 32 ≡ false → 32 ≤ n
full n e = grind (arith, nat_tests)

why_outside : (f : TextFault) (place : ℕ) (r : Read) (at b : ℕ) → Lost f (step_opened [] place r at b)
    → IsInstruction f place b ⊎ (f ≡ bad_markup at)
why_outside f place r at b =
    either f (is_first b) _ _ (goes f) (either f (eqb b 33) _ _ (goes f) (tagless f place at b (eqb b 63) refl))

why_opened : (f : TextFault) (fs : List Frame) (place : ℕ) (r : Read) (at b : ℕ) → Lost f (step_opened fs place r at b)
    → Why f (opened place) fs at b
why_opened f [] place r at b e = inr (why_outside f place r at b e)
why_opened f (g ∷ gs) place r at b e =
    split f (is_first b) _ _
    (λ first. split f (ltb (length (g ∷ gs)) 32) _ _ (λ _. goes f)
    (λ isnt d. inl (record {
      fault = says f (too_deep place) d;
      first = first;
      full = full (length (g ∷ gs)) isnt;
    })))
    (λ _. either f (eqb b 47) _ _ (goes f) (either f (eqb b 33) _ _ (goes f)
    (λ d. inr (tagless f place at b (eqb b 63) refl d)))) e

why_declaration : (f : TextFault) (r : Read) (at b : ℕ) → Lost f (step_declaration r at b) → f ≡ bad_markup at
why_declaration f r at b =
    either f (eqb b 60) _ _ (goes f) (either f (is_white b) _ _ (goes f) (says f (bad_markup at)))

why_question : (f : TextFault) (ks : List ℕ) (r : Read) (at b : ℕ) → Lost f (step_question ks r at b)
    → f ≡ bad_markup at
why_question f [] r at b = either f (is_white b) _ _ (goes f) (says f (bad_markup at))
why_question f (k ∷ ks) r at b = either f (eqb b k) _ _ (goes f) (says f (bad_markup at))

why_word : (f : TextFault) (place : ℕ) (ks : List ℕ) (w : Within) (r : Read) (at b : ℕ)
    → Lost f (step_word place ks w r b) → IsMisreferred f place (λ l v. word l ks v) b
why_word f place [] w r at b e = record { fault = says f (bad_reference place) e; everywhere = (λ l v u i. refl) }
why_word f place (k ∷ []) w r at b e =
    split f (eqb b k) _ _ (λ _. goes f)
    (λ isnt d. record { fault = says f (bad_reference place) d; everywhere = (λ l v u i. rw isnt refl) }) e
why_word f place (k ∷ l ∷ ks) w r at b e =
    split f (eqb b k) _ _ (λ _. goes f)
    (λ isnt d. record { fault = says f (bad_reference place) d; everywhere = (λ x v u i. rw isnt refl) }) e

why_valued : (f : TextFault) (t : Tag) (r : Read) (at b : ℕ) → Lost f (step_valued t r at b) → f ≡ bad_markup at
why_valued f t r at b =
    either f (is_first b) _ _ (says f (bad_markup at)) (either f (is_white b) _ _ (goes f)
    (either f (eqb b 47) _ _ (goes f) (either f (eqb b 62) _ _ (goes f) (says f (bad_markup at)))))

why_named : (f : TextFault) (t : Tag) (place : ℕ) (name : List ℕ) (r : Read) (at b : ℕ)
    → Lost f (step_named t place name r at b) → f ≡ bad_markup at
why_named f t place name r at b =
    either f (is_white b) _ _ (goes f) (either f (eqb b 61) _ _ (goes f) (says f (bad_markup at)))

equal_names : (a b : List ℕ) → bytes_eq a b ≡ false → a ≡ b → ⊥
equal_names a b e same = let d : bytes_eq a b ≡ true = (bytes_eq-Decides a b).1 same in cc

why_shut : (f : TextFault) (fs : List Frame) (place : ℕ) (name : List ℕ) (r : Read) (at b : ℕ)
    → Lost f (step_shut fs place name r at b) → IsMismatched f place name fs b ⊎ (f ≡ bad_markup at)
why_shut f [] place name r at b e = inr (says f (bad_markup at) e)
why_shut f (g ∷ gs) place name r at b e =
    either f (is_white b) _ _ (goes f) (split f (eqb b 62) _ _
    (λ is. split f (bytes_eq name g.name) _ _ (λ _. goes f)
    (λ isnt d. inl (record {
      fault = says f (mismatched_end place) d;
      other = equal_names name g.name isnt;
      last = same_byte b 62 is;
    })))
    (λ _ d. inr (says f (bad_markup at) d))) e

pub why : (f : TextFault) (p : Phase) (r : Read) (at b : ℕ) → step p r at b ≡ Err f → Why f p r.frames at b
why f beginning r at b = either f (eqb b 239) _ _ (goes f) (why_declaration f r at b)
why f mark_1 r at b = either f (eqb b 187) _ _ (goes f) (says f (bad_markup at))
why f mark_2 r at b = either f (eqb b 191) _ _ (goes f) (says f (bad_markup at))
why f at_declaration r at b = why_declaration f r at b
why f (declared_open place) r at b = either f (eqb b 63) _ _ (goes f) (why_outside f place (closed r) at b)
why f (question ks) r at b = why_question f ks r at b
why f (in_declaration seen) r at b = either f (seen && eqb b 62) _ _ (goes f) (goes f)
why f content r at b = why_content f r.frames r at b
why f ended r at b =
    either f (is_white b) _ _ (goes f) (either f (eqb b 60) _ _ (goes f) (says f (bad_markup at)))
why f (ended_open place) r at b = either f (eqb b 33) _ _ (goes f) (tagless f place at b (eqb b 63) refl)
why f (bang place p) r at b = either f (eqb b 45) _ _ (goes f)
    (either f (eqb b 68) _ _ (goes f) (either f (eqb b 91) _ _ (goes f) (says f (bad_markup at))))
why f (other_word place first []) r at b = says f (unsupported place)
why f (other_word place first (k ∷ ks)) r at b = either f (eqb b k) _ _ (goes f) (says f (bad_markup first))
why f (bang_dash p) r at b = either f (eqb b 45) _ _ (goes f) (says f (bad_markup at))
why f (in_comment p count) r at b = either f (leb 2 count && eqb b 62) _ _ (goes f) (goes f)
why f (opened place) r at b = why_opened f r.frames place r at b
why f (start_name place name) r at b =
    either f (is_name b) _ _ (goes f) (split f (eqb b 58) _ _ (λ is d. inl (colon f at b is d))
    (λ _ d. inr (why_valued f (start_of place name r) r at b d)))
why f (valued t) r at b = why_valued f t r at b
why f (in_tag t) r at b = either f (is_first b) _ _ (goes f) (why_valued f t r at b)
why f (slash t) r at b = either f (eqb b 62) _ _ (goes f) (says f (bad_markup at))
why f (attribute_name t place name) r at b =
    split f (is_name b) _ _ (λ _. goes f)
    (λ isnt. split f (has_name name t.names) _ _
    (λ has d. inl (record { fault = says f (bad_markup place) d; again = has; after = isnt }))
    (λ _. split f (eqb b 58) _ _ (λ is d. inr (inl (colon f at b is d)))
    (λ _ d. inr (inr (why_named f t place name r at b d)))))
why f (named t place name) r at b = why_named f t place name r at b
why f (equals t place name) r at b =
    either f (is_white b) _ _ (goes f) (either f (is_quote b) _ _ (goes f) (says f (bad_markup at)))
why f (in_value t place name quote from) r at b =
    either f (is_quoted quote b) _ _ (goes f) (either f (eqb b quote) _ _ (goes f)
    (either f (eqb b 38) _ _ (goes f) (either f (eqb b 239) _ _ (goes f) (says f (bad_markup at)))))
why f (wide_1 w) r at b = either f (leb 128 b) _ _ (goes f) (says f (bad_markup at))
why f (wide_2 greatest w) r at b = either f (is_last greatest b) _ _ (goes f) (says f (bad_markup at))
why f (reference place w) r at b =
    split f (eqb b 108) _ _ (λ _. goes f) (λ n1. split f (eqb b 103) _ _ (λ _. goes f)
    (λ n2. split f (eqb b 113) _ _ (λ _. goes f) (λ n3. split f (eqb b 97) _ _ (λ _. goes f)
    (λ n4. split f (eqb b 35) _ _ (λ _. goes f)
    (λ n5 d. record {
      fault = says f (bad_reference place) d;
      everywhere = (λ l v u i. rw (n1, n2, n3, n4, n5) refl);
    })))))
why f (reference_a place w) r at b =
    split f (eqb b 109) _ _ (λ _. goes f) (λ n1. split f (eqb b 112) _ _ (λ _. goes f)
    (λ n2 d. record { fault = says f (bad_reference place) d; everywhere = (λ l v u i. rw (n1, n2) refl) }))
why f (word place ks w) r at b = why_word f place ks w r at b
why f (hash place w) r at b =
    split f (eqb b 120) _ _ (λ _. goes f) (λ n1. split f (is_decimal b) _ _ (λ _. goes f)
    (λ n2 d. record { fault = says f (bad_reference place) d; everywhere = (λ l v u i. rw (n1, n2) refl) }))
why f (hash_x place w) r at b =
    split f (is_hexadecimal b) _ _ (λ _. goes f)
    (λ n1 d. record { fault = says f (bad_reference place) d; everywhere = (λ l v u i. rw n1 refl) })
why f (in_decimal place n w) r at b =
    split f (is_decimal b) _ _ (λ _. goes f) (λ n1. split f (eqb b 59) _ _ (λ _. goes f)
    (λ n2 d. record { fault = says f (bad_reference place) d; everywhere = (λ l v u i. rw (n1, n2) refl) }))
why f (in_hexadecimal place n w) r at b =
    split f (is_hexadecimal b) _ _ (λ _. goes f) (λ n1. split f (eqb b 59) _ _ (λ _. goes f)
    (λ n2 d. record { fault = says f (bad_reference place) d; everywhere = (λ l v u i. rw (n1, n2) refl) }))
why f (no_character place) r at b =
    λ e. record { fault = says f (bad_reference place) e; everywhere = (λ l v u i. refl) }
why f (shut_begin place) r at b = either f (is_first b) _ _ (goes f) (says f (bad_markup at))
why f (shut place name) r at b =
    either f (is_name b) _ _ (goes f) (split f (eqb b 58) _ _ (λ is d. inl (colon f at b is d))
    (λ _ d. inr (why_shut f r.frames place name r at b d)))
why f (shut_gap place name) r at b = why_shut f r.frames place name r at b
