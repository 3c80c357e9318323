-- What the machine says of a `:` after a name, and of the repeated name of an attribute.
use Rattle.std.proofs.Common.{◌≡◌, ℕ, true, false, leb, eqb, List, [], ◌∷◌, ◌++◌}
use Rattle.std.proofs.Common.{length, Ok, refl, sym, ◌∙◌, ap, subst, inl, inr, arith, append_assoc}
use Rattle.std.proofs.lemmas.Bool.Decides.{nat_tests}
use Rattle.xhstt_text.specs.Bytes.{is_name, is_quote, is_quoted, AllAre, IsName}
use Rattle.xhstt_text.specs.Document.{has_name}
use Rattle.xhstt_text.specs.Faults.{bad_markup, bad_reference, unsupported}
use Rattle.xhstt_text.specs.Machine.{content, in_comment, in_declaration, in_tag, in_value}
use Rattle.xhstt_text.specs.Machine.{start_name, attribute_name, shut, shut_begin, shut_gap, opened, declared_open}
use Rattle.xhstt_text.specs.Machine.{word, question, other_word, noted}
use Rattle.xhstt_text.specs.Machine.{Frame, Phase, Read, State, Step, refused, state, step, step_content}
use Rattle.xhstt_text.specs.Machine.{step_shut}
use Rattle.fault_tables.specs.declared.faults.TheConstants.{UNSUPPORTED}
use Rattle.xhstt_text.proofs.Runs.{name_from_first, white_isnt_name}
use Rattle.xhstt_text.proofs.Sound.{no}
use Rattle.text_fault_laws.specs.Fronts.{ColonAt, IsBegun}
use Rattle.text_fault_laws.proofs.Begun.{Usual, arrives, blocked, one_back, read_begun}
use Rattle.text_fault_laws.proofs.Begun.{usual_before}
use Rattle.text_fault_laws.proofs.Endings.{truth}
use Rattle.text_fault_laws.proofs.Forth.{history}
use Rattle.text_fault_laws.proofs.LiveParts.{over_dash}
use Rattle.text_fault_laws.proofs.Known.{Past, is_key}
use Rattle.text_fault_laws.proofs.Reach.{Reaches, push, refuses}
use Rattle.text_fault_laws.proofs.Reach.{then}
use Rattle.text_fault_laws.proofs.Stopping.{Leads, leads_to, name_within}

-- bytes that end in a name end in no other byte
abbrev last_of : ℕ → List ℕ → ℕ
last_of b [] = b
last_of b (c ∷ cs) = last_of c cs

last_pushed : (p : List ℕ) (a b : ℕ) → last_of a (p ++ b ∷ []) ≡ b
last_pushed [] a b = refl
last_pushed (c ∷ p) a b = last_pushed p c b

last_named : (p name : List ℕ) (a : ℕ) → IsName name → is_name (last_of a (p ++ name)) ≡ true
last_named [] [] a h = absurd h
last_named [] (b ∷ w) a h = within w b (name_from_first b h.0) h.1
  where
    within : (w : List ℕ) (b : ℕ) → is_name b ≡ true → AllAre is_name w → is_name (last_of b w) ≡ true
    within [] b e h = e
    within (c ∷ w) b e h = within w c h.0 h.1
last_named (c ∷ p) name a h = last_named p name c h

no_end : {G : Type 0} (q p before name : List ℕ) (b : ℕ) → IsName name → q ≡ before ++ name → q ≡ p ++ b ∷ []
    → is_name b ≡ false → G
no_end q p before name b h same ends isnt =
    let is : is_name b ≡ true =
    ap is_name (sym (last_pushed p 0 b) ∙ ap (last_of 0) (sym ends ∙ same)) ∙ last_named before name 0 h in cc

-- in a phase that takes the `:`, something is begun with it
goes_on : {G : Type 0} (p t : Phase) (r u : Read) (q : List ℕ) (b : ℕ) → Reaches q p r
    → step p r (length q) b ≡ state t u → Usual t → (IsBegun (q ++ b ∷ []) → ⊥) → G
goes_on p t r u q b here e usual never =
    absurd (never (read_begun (q ++ b ∷ []) t u (push q p r b (record { phase = t; read = u }) here e) usual))

content_colon : {G : Type 0} (fs : List Frame) (r : Read) (q : List ℕ) (s : State) → r.frames ≡ fs → Reaches q content r
    → step_content fs r (length q) 95 ≡ Ok s → (IsBegun (q ++ 58 ∷ []) → ⊥) → G
content_colon [] r q s is here e never = no s e
content_colon (f ∷ fs) r q s is here e never =
    goes_on content content r (record r { frames = noted f (length q) 58 ∷ fs }) q 58 here (rw is refl) tt never

colon_is_quoted : (quote : ℕ) → is_quote quote ≡ true → is_quoted quote 58 ≡ true
colon_is_quoted quote h = grind (arith, nat_tests)

underscore_is_no_key : (k : ℕ) → is_key k ≡ true → eqb 95 k ≡ false
underscore_is_no_key k h = grind (arith, nat_tests)

underscore_in_end_tag : (fs : List Frame) (place : ℕ) (name : List ℕ) (r : Read) (at : ℕ)
    → step_shut fs place name r at 95 ≡ refused (bad_markup at)
underscore_in_end_tag [] place name r at = refl
underscore_in_end_tag (f ∷ fs) place name r at = refl

-- after a name, a byte with which nothing is begun more is this fault's, or a repeated name's
colon_fault : (q rest : List ℕ) (p : Phase) (r : Read) → Reaches q p r
    → step p r (length q) 58 ≡ refused (unsupported (length q)) → Leads (q ++ (58 ∷ rest)) UNSUPPORTED (length q)
colon_fault q rest p r here e =
    leads_to (q ++ (58 ∷ rest)) UNSUPPORTED (length q) (refuses q p r 58 rest (unsupported (length q)) here e)

colon_there : (p : Phase) (r : Read) (q rest before name : List ℕ) (s : State) → Reaches q p r → Past p r.frames q
    → Usual p → IsName name → q ≡ before ++ name → step p r (length q) 95 ≡ Ok s → (IsBegun (q ++ 58 ∷ []) → ⊥)
    → Leads (q ++ (58 ∷ rest)) UNSUPPORTED (length q)
colon_there content r q rest before name s here k u hn same e never = content_colon r.frames r q s refl here e never
colon_there (in_comment place count) r q rest before name s here k u hn same e never =
    goes_on (in_comment place count) (in_comment place 0) r r q 58 here (over_dash (leb 2 count) _ _) tt never
colon_there (in_declaration seen) r q rest before name s here k u hn same e never =
    goes_on (in_declaration seen) (in_declaration false) r r q 58 here (over_dash seen _ _) tt never
colon_there (in_value t place n quote from) r q rest before name s here k u hn same e never =
    goes_on (in_value t place n quote from) (in_value t place n quote from) r r q 58 here
    (rw (colon_is_quoted quote k.1) refl) tt never
colon_there (start_name place n) r q rest before name s here k u hn same e never =
    colon_fault q rest (start_name place n) r here refl
colon_there (shut place n) r q rest before name s here k u hn same e never =
    colon_fault q rest (shut place n) r here refl
colon_there (attribute_name t place n) r q rest before name s here k u hn same e never =
    elim (truth (has_name n t.names)) [
      | inl has ↦ (
        bad_markup place,
        refuses q (attribute_name t place n) r 58 rest (bad_markup place) here (rw has refl),
        inl (name_within q k.2 n k.3 place k.1 k.5 k.6),
      )
      | inr hasnt ↦ colon_fault q rest (attribute_name t place n) r here (rw hasnt refl)
    ]
colon_there (opened place) r q rest before name s here k u hn same e never =
    no_end q k.0 before name 60 hn same k.3 refl
colon_there (declared_open place) r q rest before name s here k u hn same e never =
    no_end q k.0 before name 60 hn same k.2 refl
colon_there (shut_begin place) r q rest before name s here k u hn same e never =
    no_end q (k.0 ++ 60 ∷ []) before name 47 hn same (k.3 ∙ sym (append_assoc k.0 (60 ∷ []) (47 ∷ []))) refl
colon_there (in_tag t) r q rest before name s here k u hn same e never =
    no_end q k.1 before name k.2 hn same k.4 (white_isnt_name k.2 k.3)
colon_there (shut_gap place n) r q rest before name s here k u hn same e never =
    blocked (step (shut_gap place n) r (length q) 95) (bad_markup (length q))
    s (underscore_in_end_tag r.frames place n r (length q))
    e
colon_there (word place [] w) r q rest before name s here k u hn same e never = no s e
colon_there (word place (l ∷ []) w) r q rest before name s here k u hn same e never =
    blocked (step (word place (l ∷ []) w) r (length q) 95) (bad_reference place)
    s (rw (underscore_is_no_key l k.2.0) refl) e
colon_there (word place (l ∷ m ∷ ks) w) r q rest before name s here k u hn same e never =
    blocked (step (word place (l ∷ m ∷ ks) w) r (length q) 95) (bad_reference place)
    s (rw (underscore_is_no_key l k.2.0) refl) e
colon_there (question []) r q rest before name s here k u hn same e never = no s e
colon_there (question (l ∷ ks)) r q rest before name s here k u hn same e never =
    blocked (step (question (l ∷ ks)) r (length q) 95) (bad_markup (length q))
    s (rw (underscore_is_no_key l k.0) refl) e
colon_there (other_word place first ks) r q rest before name s here k u hn same e never = absurd u
colon_there p r q rest before name s here k u hn same e never = no s e

pub colon_leads : (bytes : List ℕ) (at : ℕ) → ColonAt bytes at → Leads bytes UNSUPPORTED at
colon_leads bytes at (before, name, rest, same, is, hn, begun, never) =
    let q : List ℕ = before ++ name in
    let a = arrives (q ++ 95 ∷ []) begun in
    let b = one_back q 95 a.phase a.read a.here in
    let s : State = record { phase = a.phase; read = a.read } in
    let usual = usual_before b.phase b.read (length q) (95 ∷ []) a.phase a.read
    (ap (λ (c : Step). then c (λ s. state s.phase s.read)) b.goes) a.usual in
    let l = colon_there b.phase b.read q rest before name s b.here (history q b.phase b.read b.here).1 usual hn refl
    b.goes
    never in
    subst (λ n. Leads bytes UNSUPPORTED n) (sym is) (subst (λ x. Leads x UNSUPPORTED (length q)) (sym same) l)
