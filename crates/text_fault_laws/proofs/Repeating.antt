-- What the machine says of the repeated name of an attribute.
use Rattle.std.proofs.Common.{◌≡◌, ℕ, ◌+◌, Bool, true, false, cond, ◌||◌, leb, eqb, List, [], ◌∷◌, ◌++◌}
use Rattle.std.proofs.Common.{length, Ok, Err, refl, sym, ◌∙◌, ap, subst, inl, inr, arith, append_assoc}
use Rattle.std.proofs.lemmas.Bool.Decides.{nat_tests}
use Rattle.xhstt_text.specs.Bytes.{is_first, is_name, is_quote, is_quoted, is_text, is_white, dashes, AllAre, IsName}
use Rattle.xhstt_text.specs.Document.{has_name}
use Rattle.xhstt_text.specs.Faults.{bad_markup, bad_reference}
use Rattle.xhstt_text.specs.Machine.{content, ended, in_comment, in_declaration, in_tag, named, equals, in_value}
use Rattle.xhstt_text.specs.Machine.{valued}
use Rattle.xhstt_text.specs.Machine.{start_name, attribute_name, shut, shut_gap, opened, beginning, at_declaration}
use Rattle.xhstt_text.specs.Machine.{word, question, other_word, closed, noted, Frame, Phase, Read, State, Step, Tag}
use Rattle.xhstt_text.specs.Machine.{refused, state, step, step_content, step_opened, step_shut, run, and_then}
use Rattle.xhstt_text.specs.Machine.{outcome_of, start_of}
use Rattle.xhstt_text.proofs.Runs.{name_from_first, white_isnt_colon, white_isnt_name}
use Rattle.xhstt_text.proofs.Sound.{no, same_byte}
use Rattle.text_fault_laws.specs.Fronts.{EndsName, IsFront, RepeatsName}
use Rattle.text_fault_laws.proofs.Begun.{Arrived, Usual, blocked, front_arrives, one_back, reached_loop, usual_phase}
use Rattle.text_fault_laws.proofs.Endings.{truth}
use Rattle.text_fault_laws.proofs.Forth.{history}
use Rattle.text_fault_laws.proofs.LiveParts.{over_dash}
use Rattle.text_fault_laws.proofs.Known.{Past, alive, front_of, is_key}
use Rattle.text_fault_laws.proofs.Live.{AreNamed, Live, live_content}
use Rattle.text_fault_laws.proofs.LiveParts.{live_comment, live_equals, live_in_declaration, live_value}
use Rattle.text_fault_laws.proofs.Reach.{Reaches, comes, over, push, reached, length_push, reached_prefix, reads, start}
use Rattle.text_fault_laws.proofs.Reach.{then}

-- white, which is one of four bytes
white_cases : (P : ℕ → Type 0) (w : ℕ) → is_white w ≡ true → P 32 → P 9 → P 10 → P 13 → P w
white_cases P w h a b c d = elim (truth (eqb w 32)) [
  | inl is ↦ subst P (sym (same_byte w 32 is)) a
  | inr n1 ↦ elim (truth (eqb w 9)) [
    | inl is ↦ subst P (sym (same_byte w 9 is)) b
    | inr n2 ↦ elim (truth (eqb w 10)) [
      | inl is ↦ subst P (sym (same_byte w 10 is)) c
      | inr n3 ↦ let e : w ≡ 13 = grind (arith, nat_tests) in subst P (sym e) d
    ]
  ]
]

-- after a white
abbrev Whites : Phase → Type 0
Whites content = Unit {0}
Whites (in_declaration seen) = Unit {0}
Whites ended = Unit {0}
Whites (in_comment place count) = Unit {0}
Whites (in_tag t) = Unit {0}
Whites (named t place name) = Unit {0}
Whites (equals t place name) = Unit {0}
Whites (in_value t place name quote from) = Unit {0}
Whites (shut_gap place name) = Unit {0}
Whites _ = ⊥

lands_white : (p : Phase) (r : Read) (x : Step) (s : State) → Whites p → x ≡ state p r → x ≡ Ok s → Whites s.phase
lands_white p r x s k d e =
    let same : record { phase = p; read = r } ≡ s = cc in subst (λ (x : State). Whites x.phase) same k

takes_white : (w : ℕ) → is_white w ≡ true → (x : ℕ → Step) (p : Phase) (r : Read) (s : State) → Whites p
    → x 32 ≡ state p r → x 9 ≡ state p r → x 10 ≡ state p r → x 13 ≡ state p r → x w ≡ Ok s → Whites s.phase
takes_white w h x p r s k a b c d e =
    lands_white p r (x w) s k (white_cases (λ n. x n ≡ state p r) w h a b c d) e

content_white : (fs : List Frame) (r : Read) (at w : ℕ) (s : State) → is_white w ≡ true
    → step_content fs r at w ≡ Ok s → Whites s.phase
content_white [] r at w s h e = takes_white w h (step_content [] r at) content r s tt refl refl refl refl e
content_white (f ∷ fs) r at w s h e =
    white_cases (λ n. step_content (f ∷ fs) r at n ≡ Ok s → Whites s.phase) w h
    (λ d. lands_white content (record r { frames = noted f at 32 ∷ fs }) (step_content (f ∷ fs) r at 32) s tt refl d)
    (λ d. lands_white content (record r { frames = noted f at 9 ∷ fs }) (step_content (f ∷ fs) r at 9) s tt refl d)
    (λ d. lands_white content (record r { frames = noted f at 10 ∷ fs }) (step_content (f ∷ fs) r at 10) s tt refl d)
    (λ d. lands_white content (record r { frames = noted f at 13 ∷ fs }) (step_content (f ∷ fs) r at 13) s tt refl d) e

opened_white : (fs : List Frame) (place : ℕ) (r : Read) (at w : ℕ) (s : State) → is_white w ≡ true
    → step_opened fs place r at w ≡ Ok s → Whites s.phase
opened_white [] place r at w s h e =
    white_cases (λ n. step_opened [] place r at n ≡ Ok s → Whites s.phase) w h (λ d. no s d) (λ d. no s d) (λ d. no s d)
    (λ d. no s d) e
opened_white (f ∷ fs) place r at w s h e =
    white_cases (λ n. step_opened (f ∷ fs) place r at n ≡ Ok s → Whites s.phase) w h (λ d. no s d) (λ d. no s d)
    (λ d. no s d) (λ d. no s d) e

shut_white : (fs : List Frame) (place : ℕ) (name : List ℕ) (r : Read) (at w : ℕ) (s : State) → is_white w ≡ true
    → step_shut fs place name r at w ≡ Ok s → Whites s.phase
shut_white [] place name r at w s h e = no s e
shut_white (f ∷ fs) place name r at w s h e =
    lands_white (shut_gap place name) r (step_shut (f ∷ fs) place name r at w) s tt (rw h refl) e

quoted_white : (quote w : ℕ) → is_quote quote ≡ true → is_white w ≡ true → is_quoted quote w ≡ true
quoted_white quote w q h = grind (arith, nat_tests)

key_white : (k w : ℕ) → is_key k ≡ true → is_white w ≡ true → eqb w k ≡ false
key_white k w q h = grind (arith, nat_tests)

after_white : (p : Phase) (r : Read) (q : List ℕ) (at w : ℕ) (s : State) → is_white w ≡ true → Past p r.frames q
    → Usual p → step p r at w ≡ Ok s → Whites s.phase
after_white beginning r q at w s h k u e =
    takes_white w h (step beginning r at) content (closed r) s tt refl refl refl refl e
after_white at_declaration r q at w s h k u e =
    takes_white w h (step at_declaration r at) content (closed r) s tt refl refl refl refl e
after_white (question []) r q at w s h k u e =
    takes_white w h (step (question []) r at) (in_declaration false) r s tt refl refl refl refl e
after_white (question (l ∷ ks)) r q at w s h k u e =
    blocked (step (question (l ∷ ks)) r at w) (bad_markup at) s (rw (key_white l w k.0 h) refl) e
after_white (in_declaration seen) r q at w s h k u e =
    takes_white w h (step (in_declaration seen) r at) (in_declaration false) r s tt (over_dash seen _ _)
    (over_dash seen _ _) (over_dash seen _ _) (over_dash seen _ _) e
after_white content r q at w s h k u e = content_white r.frames r at w s h e
after_white ended r q at w s h k u e = takes_white w h (step ended r at) ended r s tt refl refl refl refl e
after_white (in_comment place count) r q at w s h k u e =
    takes_white w h (step (in_comment place count) r at) (in_comment place 0) r s tt (over_dash (leb 2 count) _ _)
    (over_dash (leb 2 count) _ _) (over_dash (leb 2 count) _ _) (over_dash (leb 2 count) _ _) e
after_white (opened place) r q at w s h k u e = opened_white r.frames place r at w s h e
after_white (start_name place name) r q at w s h k u e =
    takes_white w h (step (start_name place name) r at) (in_tag (start_of place name r)) r s tt refl refl refl refl e
after_white (valued t) r q at w s h k u e =
    takes_white w h (step (valued t) r at) (in_tag t) r s tt refl refl refl refl e
after_white (in_tag t) r q at w s h k u e =
    takes_white w h (step (in_tag t) r at) (in_tag t) r s tt refl refl refl refl e
after_white (attribute_name t place name) r q at w s h k u e = elim (truth (has_name name t.names)) [
  | inl has ↦
      blocked (step (attribute_name t place name) r at w) (bad_markup place) s (rw (white_isnt_name w h, has) refl) e
  | inr hasnt ↦
      lands_white (named t place name) r (step (attribute_name t place name) r at w) s tt
      (rw (white_isnt_name w h, hasnt, white_isnt_colon w h, h) refl) e
]
after_white (named t place name) r q at w s h k u e =
    takes_white w h (step (named t place name) r at) (named t place name) r s tt refl refl refl refl e
after_white (equals t place name) r q at w s h k u e =
    takes_white w h (step (equals t place name) r at) (equals t place name) r s tt refl refl refl refl e
after_white (in_value t place name quote from) r q at w s h k u e =
    lands_white (in_value t place name quote from) r (step (in_value t place name quote from) r at w) s tt
    (rw (quoted_white quote w k.1 h) refl) e
after_white (shut place name) r q at w s h k u e =
    shut_white r.frames place name r at w s h
    (sym (let d : step (shut place name) r at w ≡ step_shut r.frames place name r at w =
    rw (white_isnt_name w h, white_isnt_colon w h) refl in d) ∙ e)
after_white (shut_gap place name) r q at w s h k u e = shut_white r.frames place name r at w s h e
after_white (word place [] x) r q at w s h k u e = no s e
after_white (word place (l ∷ []) x) r q at w s h k u e =
    blocked (step (word place (l ∷ []) x) r at w) (bad_reference place) s (rw (key_white l w k.2.0 h) refl) e
after_white (word place (l ∷ m ∷ ks) x) r q at w s h k u e =
    blocked (step (word place (l ∷ m ∷ ks) x) r at w) (bad_reference place) s (rw (key_white l w k.2.0 h) refl) e
after_white (other_word place first ks) r q at w s h k u e = absurd u
after_white p r q at w s h k u e =
    white_cases (λ n. step p r at n ≡ Ok s → Whites s.phase) w h (λ d. no s d) (λ d. no s d) (λ d. no s d)
    (λ d. no s d) e

-- in text, in a value, in a comment or in the declaration, where a name and `=` may stand
abbrev IsOpen : List Frame → Type 0
IsOpen [] = ⊥
IsOpen (f ∷ fs) = Unit {0}

abbrev Free : Phase → List Frame → Type 0
Free content fs = IsOpen fs
Free (in_comment place count) fs = Unit {0}
Free (in_declaration seen) fs = Unit {0}
Free (in_value t place name quote from) fs = is_quote quote ≡ true
Free _ fs = ⊥

is_plain : ℕ → Bool
is_plain b = is_name b || eqb b 61

abbrev Freed : Phase → Read → ℕ → List ℕ → Type 0
Freed p r at w = (t : Phase) × (u : Read) × (reached p r at w ≡ state t u) × Free t u.frames

plain_isnt : (b : ℕ) → is_plain b ≡ true → (eqb b 60 ≡ false) × (eqb b 62 ≡ false) × (is_text b ≡ true)
unfolding is_plain
plain_isnt b h = (grind (arith, nat_tests), grind (arith, nat_tests), grind (arith, nat_tests))

plain_quoted : (quote b : ℕ) → is_quote quote ≡ true → is_plain b ≡ true → is_quoted quote b ≡ true
unfolding is_plain
plain_quoted quote b q h = grind (arith, nat_tests)

second : (c d : Bool) (x y z : Step) → c ≡ false → d ≡ true → cond c x (cond d y z) ≡ y
second c d x y z e f = rw (e, f) refl

free_content : (fs : List Frame) (r : Read) (at b : ℕ) → r.frames ≡ fs → IsOpen fs → is_plain b ≡ true
    → (t : Phase) × (u : Read) × (step content r at b ≡ state t u) × Free t u.frames
free_content [] r at b is k h = absurd k
free_content (f ∷ fs) r at b is k h =
    let n = plain_isnt b h in (
      content,
      record r { frames = noted f at b ∷ fs },
      rw is
          (second (eqb b 60) (is_text b) _ _ _ n.0 n.2),
      tt,
    )

free_step : (p : Phase) (r : Read) (at b : ℕ) → Free p r.frames → is_plain b ≡ true
    → (t : Phase) × (u : Read) × (step p r at b ≡ state t u) × Free t u.frames
free_step content r at b k h = free_content r.frames r at b refl k h
free_step (in_comment place count) r at b k h =
    (in_comment place (dashes count b), r, rw ((plain_isnt b h).1) (over_dash (leb 2 count) _ _), tt)
free_step (in_declaration seen) r at b k h =
    (in_declaration (eqb b 63), r, rw ((plain_isnt b h).1) (over_dash seen _ _), tt)
free_step (in_value t place name quote from) r at b k h =
    (in_value t place name quote from, r, rw (plain_quoted quote b k h) refl, k)
free_step _ r at b k h = absurd k

free_over : (w : List ℕ) (p : Phase) (r : Read) (at : ℕ) → Free p r.frames → AllAre is_plain w → Freed p r at w
free_over [] p r at k h = (p, r, refl, k)
free_over (b ∷ w) p r at k h =
    let s = free_step p r at b k h.0 in
    let l = free_over w s.0 s.1 (at + 1) s.3 h.1 in
    (l.0, l.1, ap (λ (c : Step). then c (λ s. reached s.phase s.read (at + 1) w)) s.2 ∙ l.2, l.3)

free_live : (p : Phase) (r : Read) → AreNamed r.frames → Free p r.frames → Live p r
free_live content r h k = live_content r.frames r refl h
free_live (in_comment place count) r h k = live_comment place count r h
free_live (in_declaration seen) r h k = live_in_declaration seen r
free_live (in_value t place name quote from) r h k = live_value t place name quote from r h
free_live _ r h k = absurd k

named_plain : (w : List ℕ) → AllAre is_name w → AllAre is_plain (w ++ 61 ∷ [])
unfolding is_plain
named_plain [] h = (refl, tt)
named_plain (b ∷ w) h = (rw (h.0) refl, named_plain w h.1)

free_front : {G : Type 0} (p : Phase) (r : Read) (q : List ℕ) (b : ℕ) (w : List ℕ) → Reaches q p r → Free p r.frames
    → IsName (b ∷ w) → (IsFront ((q ++ (b ∷ w)) ++ 61 ∷ []) → ⊥) → G
free_front p r q b w here k h never =
    let bytes : List ℕ = (b ∷ w) ++ 61 ∷ [] in
    let f = free_over bytes p r (length q) k (named_plain (b ∷ w) (name_from_first b h.0, h.1)) in
    let there : Reaches (q ++ bytes) f.0 f.1 = over q bytes p r here ∙ f.2 in
    absurd (never (subst IsFront (sym (append_assoc q (b ∷ w) (61 ∷ [])))
    (alive (q ++ bytes) f.0 f.1 there (free_live f.0 f.1 (history (q ++ bytes) f.0 f.1 there).0 f.3))))

-- after the repeated name
record Repeated (q name : List ℕ) : Type 0 where
  tag : Tag
  read : Read
  here : Reaches (q ++ name) (attribute_name tag (length q) name) read
  again : has_name name tag.names ≡ true

-- the first byte of a name is refused there
first_isnt : (b : ℕ) → is_first b ≡ true
    → (is_white b ≡ false) × (eqb b 60 ≡ false) × (is_quote b ≡ false) × (eqb b 61 ≡ false) × (eqb b 62 ≡ false)
first_isnt b h = (
  grind (arith, nat_tests),
  grind (arith, nat_tests),
  grind (arith, nat_tests),
  grind (arith, nat_tests),
  grind (arith, nat_tests),
)

shut_first : (fs : List Frame) (place : ℕ) (name : List ℕ) (r : Read) (at b : ℕ) → is_first b ≡ true
    → step_shut fs place name r at b ≡ refused (bad_markup at)
shut_first [] place name r at b h = refl
shut_first (f ∷ fs) place name r at b h = let n = first_isnt b h in rw (n.0, n.4) refl

repeated_content : (fs : List Frame) (r : Read) (q : List ℕ) (b : ℕ) (w : List ℕ) (s : State) → r.frames ≡ fs
    → Reaches q content r → IsName (b ∷ w) → step_content fs r (length q) b ≡ Ok s
    → (IsFront ((q ++ (b ∷ w)) ++ 61 ∷ []) → ⊥) → Repeated q (b ∷ w)
repeated_content [] r q b w s is here h e never =
    let n = first_isnt b h.0 in
    blocked (step_content [] r (length q) b) (bad_markup (length q)) s (rw (n.1, n.0) refl) e
repeated_content (f ∷ fs) r q b w s is here h e never =
    free_front content r q b w here (subst IsOpen (sym is) tt) h never

repeated_there : (p : Phase) (r : Read) (q : List ℕ) (b : ℕ) (w : List ℕ) (s : State) → Reaches q p r → Whites p
    → Past p r.frames q → AreNamed r.frames → IsName (b ∷ w) → step p r (length q) b ≡ Ok s
    → (IsFront ((q ++ (b ∷ w)) ++ 61 ∷ []) → ⊥) → Repeated q (b ∷ w)
repeated_there content r q b w s here k past known h e never = repeated_content r.frames r q b w s refl here h e never
repeated_there (in_declaration seen) r q b w s here k past known h e never =
    free_front (in_declaration seen) r q b w here tt h never
repeated_there (in_comment place count) r q b w s here k past known h e never =
    free_front (in_comment place count) r q b w here tt h never
repeated_there (in_value t place name quote from) r q b w s here k past known h e never =
    free_front (in_value t place name quote from) r q b w here past.1 h never
repeated_there ended r q b w s here k past known h e never =
    let n = first_isnt b h.0 in
    blocked (step ended r (length q) b) (bad_markup (length q)) s (rw (n.0, n.1) refl) e
repeated_there (named t place name) r q b w s here k past known h e never =
    let n = first_isnt b h.0 in
    blocked (step (named t place name) r (length q) b) (bad_markup (length q)) s (rw (n.0, n.3) refl) e
repeated_there (equals t place name) r q b w s here k past known h e never =
    let n = first_isnt b h.0 in
    blocked (step (equals t place name) r (length q) b) (bad_markup (length q)) s (rw (n.0, n.2) refl) e
repeated_there (shut_gap place name) r q b w s here k past known h e never =
    blocked (step (shut_gap place name) r (length q) b) (bad_markup (length q)) s
    (shut_first r.frames place name r (length q) b h.0) e
repeated_there (in_tag t) r q b w s here k past known h e never =
    let p : Phase = attribute_name t (length q) (b ∷ w) in
    let there : Reaches (q ++ (b ∷ w)) p r =
    over q (b ∷ w) (in_tag t) r here
    ∙ ap (λ (c : Step). then c (λ s. reached s.phase s.read (length q + 1) w))
    (let d : step (in_tag t) r (length q) b ≡ state (attribute_name t (length q) (b ∷ [])) r = rw (h.0) refl in d)
    ∙ reached_loop is_name (attribute_name t (length q)) r (λ done i c y. rw y refl) w (b ∷ []) (length q + 1) h.1 in
    elim (truth (has_name (b ∷ w) t.names)) [
      | inl has ↦ record { tag = t; read = r; here = there; again = has }
      | inr hasnt ↦
          let x : List ℕ = q ++ (b ∷ w) in
          let e : Phase = equals t (length q) (b ∷ w) in
          let on : Reaches (x ++ 61 ∷ []) e r =
          push x p r 61 (record { phase = e; read = r }) there (rw hasnt refl) in
          absurd (never (alive (x ++ 61 ∷ []) e r on (live_equals t (length q) (b ∷ w) r known)))
    ]
repeated_there _ r q b w s here k past known h e never = absurd k

repeated_run : (t : Tag) (place : ℕ) (name : List ℕ) (r : Read) (at : ℕ) (rest : List ℕ)
    → has_name name t.names ≡ true → EndsName rest
    → run (attribute_name t place name) r at rest ≡ Err (bad_markup place)
repeated_run t place name r at [] has none = rw has refl
repeated_run t place name r at (b ∷ bs) has none =
    ap (λ (c : Step). and_then c (λ s. run s.phase s.read (at + 1) bs))
    (let d : step (attribute_name t place name) r at b ≡ refused (bad_markup place) = rw (none, has) refl in d)

-- the fault stands at the name
repeated_ends : (q name rest : List ℕ) → Repeated q name → EndsName rest
    → outcome_of ((q ++ name) ++ rest) ≡ Err (bad_markup (length q))
repeated_ends q name rest found none =
    reads (q ++ name) (attribute_name found.tag (length q) name) found.read found.here rest
    ∙ repeated_run found.tag (length q) name found.read (length (q ++ name)) rest found.again none

repeated : (before : List ℕ) (w b : ℕ) (name : List ℕ) → is_white w ≡ true → IsName (b ∷ name)
    → IsFront before → (a : Arrived ((before ++ w ∷ []) ++ (b ∷ name)))
    → (IsFront (((before ++ w ∷ []) ++ (b ∷ name)) ++ 61 ∷ []) → ⊥) → Repeated (before ++ w ∷ []) (b ∷ name)
repeated before w b name hw hn front a never =
    let q : List ℕ = before ++ w ∷ [] in
    let end : State = record { phase = a.phase; read = a.read } in
    let s = reached_prefix q (b ∷ name) beginning start 0 end a.here in
    let p : Phase = s.0.phase in
    let r : Read = s.0.read in
    let back = one_back before w p r s.1 in
    let usual = usual_phase back.phase back.read before back.here front in
    let white = after_white back.phase back.read before (length before) w s.0 hw
    (history before back.phase back.read back.here).1 usual back.goes in
    let known = history q p r s.1 in
    let goes = comes (step p r (length q) b) (λ x. reached x.phase x.read (length q + 1) name) end
    (sym (over q (b ∷ name) p r s.1) ∙ a.here) in
    repeated_there p r q b name goes.0 s.1 white known.1 known.0 hn goes.1 never

pub repeat_ends : (bytes : List ℕ) (at : ℕ) → RepeatsName bytes at → outcome_of bytes ≡ Err (bad_markup at)
repeat_ends bytes at (before, w, [], rest, same, is, hw, hn, none, front, never) = absurd hn
repeat_ends bytes at (before, w, b ∷ name, rest, same, is, hw, hn, none, front, never) =
    let q : List ℕ = before ++ w ∷ [] in
    let split : q ++ (b ∷ name) ≡ before ++ (w ∷ b ∷ name) = append_assoc before (w ∷ []) (b ∷ name) in
    ap outcome_of (same ∙ ap (λ x. x ++ rest) (sym split))
    ∙ repeated_ends q (b ∷ name) rest (repeated before w b name hw hn (front_of before (w ∷ b ∷ name) front)
    (front_arrives (q ++ (b ∷ name)) (subst IsFront (sym split) front))
    (λ f. never (subst (λ x. IsFront (x ++ 61 ∷ [])) split f))) none
    ∙ ap (λ n. Err (bad_markup n)) (length_push before w ∙ sym is)
