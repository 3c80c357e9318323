-- The machine over bytes, and what a fault or a result of a step is of the whole.
use Rattle.std.proofs.Common.{◌≡◌, ℕ, ◌+◌, ◌<◌, ◌≤◌, Bool, true, false, not, List, [], ◌∷◌, length, Option, Some, None}
use Rattle.std.proofs.Common.{Result, Ok, Err, refl, sym, ◌∙◌, ap, subst, arith, length-append}
use Rattle.xhstt_text.specs.declared.faults.TextFault.TheVariants.{Bad, NoMemory}
use Rattle.xhstt_text.specs.declared.faults.TextFault.{TextFault}
use Rattle.std.specs.Prelude.{IsErrAnd, MatchOption}
use Rattle.xhstt_text.specs.Bytes.{IsName}
use Rattle.xhstt_text.specs.Machine.{Read, Phase, Step, refused, state, step, and_then, run, Outcome}
use Rattle.xhstt_text.specs.Reading.{Fails, Leads, Skips, TakesName}
use Rattle.xhstt_text.proofs.Runs.{by_step, run_loop}

-- over bytes at which the machine stays where it is
pub over : (test : ℕ → Bool) (p : Phase) (r : Read) → ((at b : ℕ) → test b ≡ true → step p r at b ≡ state p r)
    → (at : ℕ) (bs : List ℕ) (to : ℕ) (rest : List ℕ) → Skips test at bs to rest → run p r at bs ≡ run p r to rest
over test p r go at bs to rest h =
    ap (run p r at) h.2
    ∙ run_loop test (λ _. p) r (λ _ i b q. go i b q) h.0 [] at rest h.1
    ∙ ap (λ n. run p r n rest) (sym h.3)

-- over one byte
pub one : (p : Phase) (r : Read) (at : ℕ) (bs : List ℕ) (b to : ℕ) (rest : List ℕ) (q : Phase) (s : Read)
    → bs ≡ b ∷ rest → to ≡ at + 1 → step p r at b ≡ state q s → run p r at bs ≡ run q s to rest
one p r at bs b to rest q s e d h =
    ap (run p r at) e ∙ by_step p r at b rest q s h ∙ ap (λ n. run q s n rest) (sym d)

-- two phases that take the next byte alike
pub same_step : (p q : Phase) (r : Read) (at b : ℕ) (bs : List ℕ) → step p r at b ≡ step q r at b
    → run p r at (b ∷ bs) ≡ run q r at (b ∷ bs)
same_step p q r at b bs e = ap (λ (x : Step). and_then x (λ s. run s.phase s.read (at + 1) bs)) e

pub refuses : {f : TextFault} (p : Phase) (r : Read) (at b : ℕ) (bs : List ℕ) → step p r at b ≡ refused f
    → run p r at (b ∷ bs) ≡ Err f
refuses p r at b bs e = ap (λ (x : Step). and_then x (λ s. run s.phase s.read (at + 1) bs)) e

-- a fault that was made
pub fails_with : (made fault : TextFault) (whole : Outcome) → made ≡ fault → whole ≡ Err fault → Fails made whole
fails_with made (Bad kind at) whole h same = subst (λ (z : TextFault). Fails z whole) (sym h) same
fails_with made NoMemory whole h same = subst (λ (z : TextFault). Fails z whole) (sym h) tt

pub fails_from : (e : TextFault) (whole part : Outcome) → whole ≡ part → Fails e part → Fails e whole
fails_from (Bad kind at) whole part same fails = same ∙ fails
fails_from NoMemory whole part same fails = tt

-- a fault that is passed on
pub passes_on : {Y : Type 0} (r : Result Y TextFault) (e : TextFault) (whole part : Outcome) (g : Y → Outcome)
    → IsErrAnd r (λ y. y ≡ e) → whole ≡ part → Fails e part → Leads r whole g
passes_on (Ok x) e whole part g h same fails = absurd h
passes_on (Err y) e whole part g h same fails =
    subst (λ (z : TextFault). Fails z whole) (sym h) (fails_from e whole part same fails)

pub none_found : {X : Type 0} (o : Option X) (P : Type 0) (Q : X → Type 0) → o ≡ None → MatchOption o P Q → P
none_found o P Q e h = subst (λ o. MatchOption o P Q) e h

pub some_found : {X : Type 0} (o : Option X) (P : Type 0) (Q : X → Type 0) (x : X) → o ≡ Some x → MatchOption o P Q
    → Q x
some_found o P Q x e h = subst (λ o. MatchOption o P Q) e h

pub skip_length : (test : ℕ → Bool) (at : ℕ) (bs : List ℕ) (to : ℕ) (rest : List ℕ) → Skips test at bs to rest
    → (length rest ≤ length bs) × (to + length rest ≡ at + length bs)
skip_length test at bs to rest h =
    let e : length bs ≡ length h.0 + length rest = ap length h.2 ∙ length-append h.0 rest in
    (omega arith, omega (arith, h.3))

some_name : (name : List ℕ) → IsName name → 0 < length name
some_name [] h = absurd h
some_name (b ∷ name) h = omega arith

pub take_length : (at : ℕ) (bs name : List ℕ) (to : ℕ) (rest : List ℕ) → TakesName at bs name to rest
    → (length rest < length bs) × (to + length rest ≡ at + length bs)
take_length at bs name to rest h =
    let e : length bs ≡ length name + length rest = ap length h.1 ∙ length-append name rest in
    let n = some_name name h.0 in
    (omega arith, omega (arith, h.2))

pub known_name : (b v : Bool) → v ≡ not b → v ≡ false → b ≡ true
known_name true v e d = refl
known_name false v e d = cc

pub new_name : (b v : Bool) → v ≡ not b → v ≡ true → b ≡ false
new_name true v e d = cc
new_name false v e d = refl

pub leads_from : {X : Type 0} (r : Result X TextFault) (whole part : Outcome) (g : X → Outcome) → whole ≡ part
    → Leads r part g → Leads r whole g
leads_from (Ok x) whole part g same leads = same ∙ leads
leads_from (Err e) whole part g same leads = fails_from e whole part same leads

pub skip_place : (test : ℕ → Bool) (at : ℕ) (bs : List ℕ) (to : ℕ) (rest : List ℕ) → Skips test at bs to rest → at ≤ to
skip_place test at bs to rest h = omega (arith, h.3)

pub take_place : (at : ℕ) (bs name : List ℕ) (to : ℕ) (rest : List ℕ) → TakesName at bs name to rest → at ≤ to
take_place at bs name to rest h = omega (arith, h.2)
