-- No first fault stands after a byte that cannot go on, nor after bytes that end too early.
use Rattle.std.proofs.Common.{◌≡◌, ◌⊎◌, ◌<◌, ◌≤◌, ℕ, ◌+◌, Bool, true, false, cond, leb, eqb, List, [], ◌∷◌, ◌++◌}
use Rattle.std.proofs.Common.{length, Ok, Err}
use Rattle.std.proofs.Common.{refl, sym, ◌∙◌, ap, subst, inl, inr, arith, append-nil, length-append}
use Rattle.std.proofs.lemmas.Bool.Decides.{nat_tests}
use Rattle.xhstt_text.specs.Bytes.{IsName}
use Rattle.xhstt_text.specs.Document.{Rows, has_name}
use Rattle.xhstt_text.specs.Faults.{bad_markup, no_comment, unsupported}
use Rattle.xhstt_text.specs.Machine.{Within, reference, reference_a, word, hash, hash_x, in_decimal, in_hexadecimal}
use Rattle.xhstt_text.specs.Machine.{no_character, declared_open, ended, ended_open, opened, other_word, start_name}
use Rattle.xhstt_text.specs.Machine.{attribute_name, shut, shut_gap, Phase, Read, State, Step, refused, state}
use Rattle.xhstt_text.specs.Machine.{step, finish, and_then, run, Outcome, outcome_of}
use Rattle.xhstt_text.specs.declared.faults.TextFault.{TextFault}
use Rattle.xhstt_text.specs.declared.faults.TextFault.TheVariants.{Bad, NoMemory}
use Rattle.fault_tables.specs.declared.faults.TheConstants.{BAD_MARKUP}
use Rattle.xhstt_text.proofs.Sound.{document_from}
use Rattle.text_fault_laws.specs.Fronts.{EndsEarly, IsBegun, StopsAt}
use Rattle.text_fault_laws.specs.Rows.{ComesBefore}
use Rattle.text_fault_laws.proofs.Begun.{Usual, arrives, read_begun}
use Rattle.text_fault_laws.proofs.Forth.{history}
use Rattle.text_fault_laws.proofs.Known.{Past, Referring}
use Rattle.text_fault_laws.proofs.Reach.{Reaches, push, reads, refuses}
use Rattle.text_fault_laws.proofs.Refusals.{Why, why}

-- a fault at an earlier place, or at this one, of this kind or of one that comes before it
abbrev pub Earlier : TextFault → ℕ → ℕ → Type 0
Earlier (Bad found place) kind at = (place < at) ⊎ ((place ≡ at) × ((found ≡ kind) ⊎ ComesBefore found kind))
Earlier NoMemory kind at = ⊥

-- the machine ends in one
abbrev pub Leads : List ℕ → ℕ → ℕ → Type 0
Leads bytes kind at = (f : TextFault) × (outcome_of bytes ≡ Err f) × Earlier f kind at

pub leads_to : (bytes : List ℕ) (kind at : ℕ) → outcome_of bytes ≡ Err (Bad kind at) → Leads bytes kind at
leads_to bytes kind at e = (Bad kind at, e, inr (refl, inl refl))

-- what stands before more bytes stands before their end
shorter : (q p t : List ℕ) (b place : ℕ) → place ≡ length p → q ≡ p ++ (b ∷ t) → place < length q
shorter q p t b place e same = omega (arith, e, ap length same, length-append p (b ∷ t))

earlier : (f g : TextFault) (at : ℕ) → f ≡ g → Earlier g BAD_MARKUP at → Earlier f BAD_MARKUP at
earlier f g at e k = subst (λ x. Earlier x BAD_MARKUP at) (sym e) k

referring : (place : ℕ) (p : ℕ → Within → Phase) (part q : List ℕ) → Referring place p part q → place < length q
referring place p part q (before, is, may, same, leads) = shorter q before part 38 place is same

pub name_within : (q p name : List ℕ) (w place : ℕ) → IsName name → place ≡ length p + 1 → q ≡ p ++ (w ∷ name)
    → place < length q
name_within q p [] w place h e same = absurd h
name_within q p (b ∷ bs) w place h e same = omega (arith, e, ap length same, length-append p (w ∷ b ∷ bs))

-- the place of a refusal
placed : (p : Phase) (r : Read) (q : List ℕ) (b : ℕ) (f : TextFault) → Usual p → Past p r.frames q
    → Why f p r.frames (length q) b → Earlier f BAD_MARKUP (length q)
placed (declared_open place) r q b f u k (inl i) =
    earlier f (unsupported place) (length q) i.fault (inl (shorter q k.0 [] 60 place k.1 k.2))
placed (declared_open place) r q b f u k (inr e) = earlier f (bad_markup (length q)) (length q) e (inr (refl, inl refl))
placed (ended_open place) r q b f u k (inl i) =
    earlier f (unsupported place) (length q) i.fault (inl (shorter q k.0 [] 60 place k.1 k.2))
placed (ended_open place) r q b f u k (inr e) = earlier f (bad_markup (length q)) (length q) e (inr (refl, inl refl))
placed (opened place) r q b f u k (inl i) =
    earlier f _ (length q) i.fault (inl (shorter q k.0 [] 60 place k.2 k.3))
placed (opened place) r q b f u k (inr (inl i)) =
    earlier f (unsupported place) (length q) i.fault (inl (shorter q k.0 [] 60 place k.2 k.3))
placed (opened place) r q b f u k (inr (inr e)) = earlier f (bad_markup (length q)) (length q) e (inr (refl, inl refl))
placed (other_word place first ks) r q b f u k e = absurd u
placed (start_name place name) r q b f u k (inl i) =
    earlier f (unsupported (length q)) (length q) i.fault (inr (refl, inr (refl, refl)))
placed (start_name place name) r q b f u k (inr e) =
    earlier f (bad_markup (length q)) (length q) e (inr (refl, inl refl))
placed (attribute_name t place name) r q b f u k (inl i) =
    earlier f (bad_markup place) (length q) i.fault (inl (name_within q k.2 name k.3 place k.1 k.5 k.6))
placed (attribute_name t place name) r q b f u k (inr (inl i)) =
    earlier f (unsupported (length q)) (length q) i.fault (inr (refl, inr (refl, refl)))
placed (attribute_name t place name) r q b f u k (inr (inr e)) =
    earlier f (bad_markup (length q)) (length q) e (inr (refl, inl refl))
placed (reference place w) r q b f u k i =
    earlier f _ (length q) i.fault (inl (referring place reference [] q k.1))
placed (reference_a place w) r q b f u k i =
    earlier f _ (length q) i.fault (inl (referring place reference_a (97 ∷ []) q k.1))
placed (word place ks w) r q b f u k i =
    earlier f _ (length q) i.fault (inl (referring place (λ l v. word l ks v) k.3.0 q k.3.1))
placed (hash place w) r q b f u k i =
    earlier f _ (length q) i.fault (inl (referring place hash (35 ∷ []) q k.1))
placed (hash_x place w) r q b f u k i =
    earlier f _ (length q) i.fault (inl (referring place hash_x (35 ∷ 120 ∷ []) q k.1))
placed (in_decimal place n w) r q b f u k i =
    earlier f _ (length q) i.fault (inl (referring place (λ l v. in_decimal l n v) (35 ∷ k.1) q k.3))
placed (in_hexadecimal place n w) r q b f u k i =
    earlier f _ (length q) i.fault (inl (referring place (λ l v. in_hexadecimal l n v) (35 ∷ 120 ∷ k.1) q k.3))
placed (no_character place) r q b f u k i =
    earlier f _ (length q) i.fault (inl (referring place (λ l v. no_character l) k.0 q k.2))
placed (shut place name) r q b f u k (inl i) =
    earlier f (unsupported (length q)) (length q) i.fault (inr (refl, inr (refl, refl)))
placed (shut place name) r q b f u k (inr (inl i)) =
    earlier f _ (length q) i.fault (inl (shorter q k.0 (47 ∷ (name ++ [])) 60 place k.2 k.5))
placed (shut place name) r q b f u k (inr (inr e)) =
    earlier f (bad_markup (length q)) (length q) e (inr (refl, inl refl))
placed (shut_gap place name) r q b f u k (inl i) =
    earlier f _ (length q) i.fault (inl (shorter q k.1.0 (47 ∷ (name ++ k.0)) 60 place k.1.2 k.1.5))
placed (shut_gap place name) r q b f u k (inr e) =
    earlier f (bad_markup (length q)) (length q) e (inr (refl, inl refl))
placed p r q b f u k e = earlier f (bad_markup (length q)) (length q) e (inr (refl, inl refl))

-- a word of other markup ends at one of its places
word_byte : (c : Bool) (place first k : ℕ) (ks : List ℕ) (r : Read) (more : State → Outcome)
    → ((f : TextFault) × (more (record { phase = other_word place first ks; read = r }) ≡ Err f)
    × ((f ≡ unsupported place) ⊎ (f ≡ bad_markup first)))
    → (f : TextFault)
    × (and_then (cond c (state (other_word place first ks) r) (refused (no_comment place first (k ∷ ks)))) more ≡ Err f)
    × ((f ≡ unsupported place) ⊎ (f ≡ bad_markup first))
word_byte true place first k ks r more h = h
word_byte false place first k ks r more h = (bad_markup first, refl, inr refl)

other_word_ends : (rest : List ℕ) (place first : ℕ) (ks : List ℕ) (r : Read) (at : ℕ)
    → (f : TextFault) × (run (other_word place first ks) r at rest ≡ Err f)
    × ((f ≡ unsupported place) ⊎ (f ≡ bad_markup first))
other_word_ends [] place first [] r at = (unsupported place, refl, inl refl)
other_word_ends [] place first (k ∷ ks) r at = (bad_markup first, refl, inr refl)
other_word_ends (b ∷ bs) place first [] r at = (unsupported place, refl, inl refl)
other_word_ends (b ∷ bs) place first (k ∷ ks) r at =
    word_byte (eqb b k) place first k ks r (λ s. run s.phase s.read (at + 1) bs)
    (other_word_ends bs place first ks r (at + 1))

up_to : (place at : ℕ) → place ≤ at → (place < at) ⊎ (place ≡ at)
up_to place at e = order (leb (place + 1) at) refl
  where
    order : (c : Bool) → leb (place + 1) at ≡ c → (place < at) ⊎ (place ≡ at)
    order true is = inl (grind (arith, nat_tests))
    order false is = inr (grind (arith, nat_tests))

word_place : (place first at : ℕ) (f : TextFault) → place < at → first ≤ at
    → (f ≡ unsupported place) ⊎ (f ≡ bad_markup first) → Earlier f BAD_MARKUP at
word_place place first at f less most (inl e) = earlier f (unsupported place) at e (inl less)
word_place place first at f less most (inr e) = earlier f (bad_markup first) at e (elim (up_to first at most) [
  | inl l ↦ inl l
  | inr s ↦ inr (s, inl refl)
])

-- after a byte with which the bytes are begun no more
after_stop : (p : Phase) (r : Read) (q : List ℕ) (b : ℕ) (rest : List ℕ) → Reaches (q ++ b ∷ []) p r
    → (IsBegun (q ++ b ∷ []) → ⊥) → (f : TextFault) × (run p r (length q + 1) rest ≡ Err f)
    × Earlier f BAD_MARKUP (length q)
after_stop (other_word place first ks) r q b rest here never =
    let k = (history (q ++ b ∷ []) (other_word place first ks) r here).1 in
    let w = other_word_ends rest place first ks r (length q + 1) in
    let o = k.6 in
    let size : length q + 1 ≡ length k.0 + 1 + length k.2 =
    omega (arith, ap length k.5, length-append q (b ∷ []), length-append k.0 (k.1 ∷ k.2)) in
    let front : length k.0 ≡ length o.0 + 2 = omega (arith, ap length o.2, length-append o.0 (60 ∷ 33 ∷ [])) in
    let less : place < length q = omega (arith, o.1) in
    let most : first ≤ length q = omega (arith, k.3) in
    (w.0, w.1, word_place place first (length q) w.0 less most w.2)
after_stop p r q b rest here never = absurd (never (read_begun (q ++ b ∷ []) p r here tt))

step_is : (x : Step) → ((s : State) × (x ≡ Ok s)) ⊎ ((f : TextFault) × (x ≡ Err f))
step_is (Ok s) = inl (s, refl)
step_is (Err f) = inr (f, refl)

pub stop_leads : (bytes : List ℕ) (at : ℕ) → StopsAt bytes at → Leads bytes BAD_MARKUP at
stop_leads bytes at (q, b, rest, same, is, begun, never) =
    let a = arrives q begun in
    let there = ap outcome_of same ∙ reads q a.phase a.read a.here (b ∷ rest) in
    elim (step_is (step a.phase a.read (length q) b)) [
      | inl (s, e) ↦
          let l = after_stop s.phase s.read q b rest (push q a.phase a.read b s a.here e) never in (
            l.0,
            there ∙ ap (λ (x : Step). and_then x (λ s. run s.phase s.read (length q + 1) rest)) e ∙ l.1,
            subst (Earlier l.0 BAD_MARKUP) (sym is) l.2,
          )
      | inr (f, e) ↦ (
        f,
        ap outcome_of same ∙ refuses q a.phase a.read b rest f a.here e,
        subst (Earlier f BAD_MARKUP) (sym is) (placed a.phase a.read q b f a.usual (history q a.phase a.read a.here).1
            (why f a.phase a.read (length q) b e)),
      )
    ]

-- at the end of the bytes
abbrev ended_in : TextFault → Outcome
ended_in f = Err f

last_name : (c : Bool) (place at : ℕ) → place < at
    → (f : TextFault) × (ended_in (cond c (bad_markup place) (bad_markup at)) ≡ Err f) × Earlier f BAD_MARKUP at
last_name true place at less = (bad_markup place, refl, inl less)
last_name false place at less = (bad_markup at, refl, inr (refl, inl refl))

last : (p : Phase) (r : Read) (q : List ℕ) → Reaches q p r → Usual p → Past p r.frames q
    → ((rows : Rows) → finish p r (length q) ≡ Ok rows → ⊥)
    → (f : TextFault) × (finish p r (length q) ≡ Err f) × Earlier f BAD_MARKUP (length q)
last ended r q here u k never = absurd (never (record { nodes = r.nodes; attributes = r.attributes }) refl)
last (other_word place first ks) r q here u k never = absurd u
last (attribute_name t place name) r q here u k never =
    last_name (has_name name t.names) place (length q) (name_within q k.2 name k.3 place k.1 k.5 k.6)
last p r q here u k never = (bad_markup (length q), refl, inr (refl, inl refl))

pub early_leads : (bytes : List ℕ) (at : ℕ) → EndsEarly bytes at → Leads bytes BAD_MARKUP at
early_leads bytes at (is, begun, no_text) =
    let a = arrives bytes begun in
    let whole : outcome_of bytes ≡ finish a.phase a.read (length bytes) =
    ap outcome_of (sym (append-nil bytes)) ∙ reads bytes a.phase a.read a.here [] in
    let l = last a.phase a.read bytes a.here a.usual (history bytes a.phase a.read a.here).1
    (λ rows e. let d = document_from bytes rows (whole ∙ e) in no_text d.0 d.1 d.2) in
    (l.0, whole ∙ l.1, subst (Earlier l.0 BAD_MARKUP) (sym is) l.2)
