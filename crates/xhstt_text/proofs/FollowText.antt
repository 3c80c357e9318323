-- Text in an element as the machine takes it.
use Rattle.std.proofs.Common.{◌≡◌, ℕ, ◌+◌, Bool, true, false, cond, eqb, List, [], ◌∷◌, ◌++◌, length, Option, Some}
use Rattle.std.proofs.Common.{None}
use Rattle.std.proofs.Common.{refl, sym, ◌∙◌, ap, subst, arith}
use Rattle.std.proofs.lemmas.Bool.Decides.{nat_tests}
use Rattle.std.specs.Option.{option_or}
use Rattle.xhstt_text.specs.Faults.{bad_markup}
use Rattle.xhstt_text.specs.declared.tree.Attribute.{Attribute}
use Rattle.xhstt_text.specs.declared.tree.Node.{Node}
use Rattle.xhstt_text.specs.Bytes.{is_white, is_text, AllAre}
use Rattle.xhstt_text.specs.Machine.{in_text, reference, wide_1, Frame, Read, Phase, content, Step, refused, state}
use Rattle.xhstt_text.specs.Machine.{first_loose, noted, step, and_then, run}
use Rattle.xhstt_text.specs.Reading.{is_loose_text, Enters, Skips, begins, read_of, with_loose_text}
use Rattle.xhstt_text.proofs.Runs.{run_loop, text_from_white, text_isnt_tag}
use Rattle.xhstt_text.proofs.Follow.{over}

-- text in an element
text_step : (f : Frame) (fs : List Frame) (nodes : List Node) (rows : List Attribute) (at b : ℕ) → is_text b ≡ true
    → step content (read_of (f ∷ fs) nodes rows) at b ≡ state content (read_of (noted f at b ∷ fs) nodes rows)
text_step f fs nodes rows at b h = rw (h, text_isnt_tag b h) refl

white_loose : (o : Option ℕ) (at b : ℕ) → is_white b ≡ true → first_loose o at b ≡ o
white_loose (Some place) at b h = refl
white_loose None at b h = rw h refl

known_loose : (o : Option ℕ) (place at b : ℕ) → o ≡ Some place → first_loose o at b ≡ o
known_loose o place at b e = subst (λ (x : Option ℕ). first_loose x at b ≡ x) (sym e) refl

abbrev pub loose_or : Option ℕ → ℕ → Option ℕ
loose_or (Some place) at = Some place
loose_or None at = Some at

abbrev is_loose : Option ℕ → ℕ → ℕ
is_loose (Some place) at = place
is_loose None at = at

loose_known : (o : Option ℕ) (at : ℕ) → loose_or o at ≡ Some (is_loose o at)
loose_known (Some place) at = refl
loose_known None at = refl

new_loose : (o : Option ℕ) (at b : ℕ) → is_white b ≡ false → first_loose o at b ≡ loose_or o at
new_loose (Some place) at b h = refl
new_loose None at b h = rw h refl

over_white_text : (f : Frame) (fs : List Frame) (nodes : List Node) (rows : List Attribute) (at : ℕ) (bs : List ℕ)
    (at1 : ℕ) (bs1 : List ℕ) → Skips is_white at bs at1 bs1
    → run content (read_of (f ∷ fs) nodes rows) at bs ≡ run content (read_of (f ∷ fs) nodes rows) at1 bs1
over_white_text f fs nodes rows =
    over is_white content (read_of (f ∷ fs) nodes rows)
    (λ i b q. text_step f fs nodes rows i b (text_from_white b q)
    ∙ ap (λ (o : Option ℕ). state content (read_of (with_loose_text f o ∷ fs) nodes rows))
    (white_loose f.node.loose i b q))

over_loose_text : (f : Frame) (fs : List Frame) (nodes : List Node) (rows : List Attribute) (place : ℕ)
    → f.node.loose ≡ Some place → (w : List ℕ) (at : ℕ) (rest : List ℕ) → AllAre is_text w
    → run content (read_of (f ∷ fs) nodes rows) at (w ++ rest)
    ≡ run content (read_of (f ∷ fs) nodes rows) (at + length w) rest
over_loose_text f fs nodes rows place e w at rest h =
    run_loop is_text (λ _. content) (read_of (f ∷ fs) nodes rows)
    (λ _ i b q. text_step f fs nodes rows i b q ∙ ap (λ (o : Option ℕ). state content
    (read_of (with_loose_text f o ∷ fs) nodes rows)) (known_loose f.node.loose place i b e)) w [] at rest h

loose_or_is : (o : Option ℕ) (at : ℕ) → loose_or o at ≡ option_or o (Some at)
loose_or_is (Some place) at = refl
loose_or_is None at = refl

-- loose text that is noted stands somewhere
pub noted_place : (o : Option ℕ) (at : ℕ) → (place : ℕ) × (option_or o (Some at) ≡ Some place)
noted_place o at = (is_loose o at, sym (loose_or_is o at) ∙ loose_known o at)

same_step_reads : (p q : Phase) (r s : Read) (at b : ℕ) (bs : List ℕ) → step p r at b ≡ step q s at b
    → run p r at (b ∷ bs) ≡ run q s at (b ∷ bs)
same_step_reads p q r s at b bs e = ap (λ (x : Step). and_then x (λ s. run s.phase s.read (at + 1) bs)) e

note_early : (f : Frame) (fs : List Frame) (nodes : List Node) (rows : List Attribute) (at b : ℕ) → is_white b ≡ false
    → noted f at b ≡ noted (with_loose_text f (loose_or f.node.loose at)) at b
note_early f fs nodes rows at b h =
    ap (λ (o : Option ℕ). with_loose_text f o) (new_loose f.node.loose at b h
    ∙ sym (known_loose (loose_or f.node.loose at) (is_loose f.node.loose at) at b (loose_known f.node.loose at)))

loose_isnt_tag : (b : ℕ) → is_loose_text b ≡ true → eqb b 60 ≡ false
loose_isnt_tag b h = grind (arith, nat_tests)

outer : (v : Bool) (x y x2 y2 : Step) → v ≡ false → y ≡ y2 → cond v x y ≡ cond v x2 y2
outer true x y x2 y2 e d = cc
outer false x y x2 y2 e d = d

noted_step : (f : Frame) (fs : List Frame) (nodes : List Node) (rows : List Attribute) (at b : ℕ) → is_white b ≡ false
    → is_loose_text b ≡ true → step content (read_of (f ∷ fs) nodes rows) at b
    ≡ step content (read_of (with_loose_text f (loose_or f.node.loose at) ∷ fs) nodes rows) at b
noted_step f fs nodes rows at b h t =
    let not_tag : eqb b 60 ≡ false = loose_isnt_tag b t in
    outer (eqb b 60) _ _ _ _ not_tag (ap (λ (g : Frame). cond (is_text b) (state content (read_of (g ∷ fs) nodes rows))
    (cond (eqb b 38) (state (reference at in_text) (read_of (g ∷ fs) nodes rows))
    (cond (eqb b 239) (state (wide_1 in_text) (read_of (g ∷ fs) nodes rows)) (refused (bad_markup at)))))
    (note_early f fs nodes rows at b h))

-- loose text may be noted before its first byte is read
pub notes : (f : Frame) (fs : List Frame) (nodes : List Node) (rows : List Attribute) (loose now : Option ℕ) (at : ℕ)
    (bs : List ℕ) (at1 : ℕ) (bs1 : List ℕ) → f.node.loose ≡ loose → now ≡ option_or loose (Some at1)
    → Skips is_white at bs at1 bs1 → begins is_loose_text bs1 ≡ true
    → run content (read_of (f ∷ fs) nodes rows) at bs
    ≡ run content (read_of (with_loose_text f now ∷ fs) nodes rows) at1 bs1
notes f fs nodes rows loose now at bs at1 [] e d h t = cc
notes f fs nodes rows loose now at bs at1 (b ∷ bs1) e d h t =
    over_white_text f fs nodes rows at bs at1 (b ∷ bs1) h
    ∙ same_step_reads content content (read_of (f ∷ fs) nodes rows)
    (read_of (with_loose_text f (loose_or f.node.loose at1) ∷ fs) nodes rows) at1 b bs1
    (noted_step f fs nodes rows at1 b h.4 t)
    ∙ ap (λ (o : Option ℕ). run content (read_of (with_loose_text f o ∷ fs) nodes rows) at1 (b ∷ bs1))
    (loose_or_is f.node.loose at1 ∙ ap (λ (o : Option ℕ). option_or o (Some at1)) e ∙ sym d)

pub no_notes : (f : Frame) (fs : List Frame) (nodes : List Node) (rows : List Attribute) (loose : Option ℕ) (at : ℕ)
    (bs : List ℕ) (at1 : ℕ) (bs1 : List ℕ) → f.node.loose ≡ loose → Skips is_white at bs at1 bs1
    → run content (read_of (f ∷ fs) nodes rows) at bs
    ≡ run content (read_of (with_loose_text f loose ∷ fs) nodes rows) at1 bs1
no_notes f fs nodes rows loose at bs at1 bs1 e h =
    over_white_text f fs nodes rows at bs at1 bs1 h
    ∙ ap (λ (o : Option ℕ). run content (read_of (with_loose_text f o ∷ fs) nodes rows) at1 bs1) e

-- over text whose loose text is known
pub over_known_text : (f : Frame) (fs : List Frame) (nodes : List Node) (rows : List Attribute) (place : ℕ)
    → f.node.loose ≡ Some place → (at : ℕ) (bs : List ℕ) (at1 : ℕ) (bs1 : List ℕ) → Skips is_text at bs at1 bs1
    → run content (read_of (f ∷ fs) nodes rows) at bs ≡ run content (read_of (f ∷ fs) nodes rows) at1 bs1
over_known_text f fs nodes rows place e at bs at1 bs1 h =
    ap (run content (read_of (f ∷ fs) nodes rows) at) h.2
    ∙ over_loose_text f fs nodes rows place e h.0 at bs1 h.1
    ∙ ap (λ n. run content (read_of (f ∷ fs) nodes rows) n bs1) (sym h.3)

pub text_enters : (f : Frame) (fs : List Frame) (nodes : List Node) (rows : List Attribute) (place : ℕ)
    → f.node.loose ≡ Some place → (at : ℕ) → Enters content in_text (read_of (f ∷ fs) nodes rows)
    (read_of (f ∷ fs) nodes rows) at
text_enters f fs nodes rows place e at = (
  ap (λ (o : Option ℕ). state (reference at in_text) (read_of (with_loose_text f o ∷ fs) nodes rows))
      (known_loose f.node.loose place at 38 e),
  ap (λ (o : Option ℕ). state (wide_1 in_text) (read_of (with_loose_text f o ∷ fs) nodes rows))
      (known_loose f.node.loose place at 239 e),
)
