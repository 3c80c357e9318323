-- Where the machine stands after some bytes, and what that says of texts that begin with them.
use Rattle.std.proofs.Common.{◌≡◌, ℕ, ◌+◌, List, [], ◌∷◌, ◌++◌, length, Ok, Err, refl, sym, ◌∙◌, ap, arith, zero-add}
use Rattle.std.proofs.Common.{add-zero, length-append}
use Rattle.xhstt_text.proofs.Complete.{run_document}
use Rattle.xhstt_text.specs.Document.{Rows, table}
use Rattle.xhstt_text.specs.Machine.{Outcome, Phase, Read, State, Step, and_then, beginning, outcome_of, run, state}
use Rattle.xhstt_text.specs.Machine.{step}
use Rattle.xhstt_text.specs.declared.faults.TextFault.{TextFault}
use Rattle.text_fault_laws.specs.Fronts.{IsFront}

abbrev pub then : Step → (State → Step) → Step
then (Ok s) more = more s
then (Err f) more = Err f

-- from a phase, what is known, and a place, over these bytes
abbrev pub reached : Phase → Read → ℕ → List ℕ → Step
reached p r at [] = state p r
reached p r at (b ∷ bs) = then (step p r at b) (λ s. reached s.phase s.read (at + 1) bs)

abbrev pub start : Read
start = record { frames = []; nodes = []; attributes = [] }

-- the machine stands here after these bytes
abbrev pub Reaches : List ℕ → Phase → Read → Type 0
Reaches q p r = reached beginning start 0 q ≡ state p r

pub comes : (x : Step) (f : State → Step) (s : State) → then x f ≡ Ok s → (t : State) × (x ≡ Ok t) × (f t ≡ Ok s)
comes (Ok t) f s e = (t, refl, e)
comes (Err g) f s e = cc

runs_on : (x : Step) (f : State → Outcome) (rows : Rows) → and_then x f ≡ Ok rows
    → (t : State) × (x ≡ Ok t) × (f t ≡ Ok rows)
runs_on (Ok t) f rows e = (t, refl, e)
runs_on (Err g) f rows e = cc

same_state : (p : Phase) (r : Read) (t : State) → state p r ≡ Ok t → record { phase = p; read = r } ≡ t
same_state p r t e = cc

-- some bytes, and then others
pub reached_append : (x y : List ℕ) (p : Phase) (r : Read) (at : ℕ) (t : State) → reached p r at x ≡ Ok t
    → reached p r at (x ++ y) ≡ reached t.phase t.read (at + length x) y
reached_append [] y p r at t e =
    ap (λ n. reached p r n y) (sym (add-zero at))
    ∙ ap (λ (s : State). reached s.phase s.read (at + 0) y) (same_state p r t e)
reached_append (b ∷ x) y p r at t e =
    let g = comes (step p r at b) (λ s. reached s.phase s.read (at + 1) x) t e in
    ap (λ (c : Step). then c (λ s. reached s.phase s.read (at + 1) (x ++ y))) g.1
    ∙ reached_append x y g.0.phase g.0.read (at + 1) t g.2
    ∙ ap (λ n. reached t.phase t.read n y) (omega arith)

pub run_reached : (x y : List ℕ) (p : Phase) (r : Read) (at : ℕ) (t : State) → reached p r at x ≡ Ok t
    → run p r at (x ++ y) ≡ run t.phase t.read (at + length x) y
run_reached [] y p r at t e =
    ap (λ n. run p r n y) (sym (add-zero at))
    ∙ ap (λ (s : State). run s.phase s.read (at + 0) y) (same_state p r t e)
run_reached (b ∷ x) y p r at t e =
    let g = comes (step p r at b) (λ s. reached s.phase s.read (at + 1) x) t e in
    ap (λ (c : Step). and_then c (λ s. run s.phase s.read (at + 1) (x ++ y))) g.1
    ∙ run_reached x y g.0.phase g.0.read (at + 1) t g.2
    ∙ ap (λ n. run t.phase t.read n y) (omega arith)

-- the machine stands somewhere after the first bytes of those that it reads to the end of a text
pub reached_first : (x y : List ℕ) (p : Phase) (r : Read) (at : ℕ) (rows : Rows) → run p r at (x ++ y) ≡ Ok rows
    → (t : State) × (reached p r at x ≡ Ok t)
reached_first [] y p r at rows e = (record { phase = p; read = r }, refl)
reached_first (b ∷ x) y p r at rows e =
    let g = runs_on (step p r at b) (λ s. run s.phase s.read (at + 1) (x ++ y)) rows e in
    let h = reached_first x y g.0.phase g.0.read (at + 1) rows g.2 in
    (h.0, ap (λ (c : Step). then c (λ s. reached s.phase s.read (at + 1) x)) g.1 ∙ h.1)

-- and after the first bytes of those that it comes over
pub reached_prefix : (x y : List ℕ) (p : Phase) (r : Read) (at : ℕ) (s : State) → reached p r at (x ++ y) ≡ Ok s
    → (t : State) × (reached p r at x ≡ Ok t)
reached_prefix [] y p r at s e = (record { phase = p; read = r }, refl)
reached_prefix (b ∷ x) y p r at s e =
    let g = comes (step p r at b) (λ s. reached s.phase s.read (at + 1) (x ++ y)) s e in
    let h = reached_prefix x y g.0.phase g.0.read (at + 1) s g.2 in
    (h.0, ap (λ (c : Step). then c (λ s. reached s.phase s.read (at + 1) x)) g.1 ∙ h.1)

-- what the machine does after these bytes
pub reads : (q : List ℕ) (p : Phase) (r : Read) → Reaches q p r → (rest : List ℕ)
    → outcome_of (q ++ rest) ≡ run p r (length q) rest
reads q p r e rest =
    run_reached q rest beginning start 0 (record { phase = p; read = r }) e
    ∙ ap (λ n. run p r n rest) (zero-add (length q))

pub over : (q w : List ℕ) (p : Phase) (r : Read) → Reaches q p r
    → reached beginning start 0 (q ++ w) ≡ reached p r (length q) w
over q w p r e =
    reached_append q w beginning start 0 (record { phase = p; read = r }) e
    ∙ ap (λ n. reached p r n w) (zero-add (length q))

-- one byte more
pub push : (q : List ℕ) (p : Phase) (r : Read) (b : ℕ) (t : State) → Reaches q p r → step p r (length q) b ≡ Ok t
    → Reaches (q ++ b ∷ []) t.phase t.read
push q p r b t e d =
    over q (b ∷ []) p r e ∙ ap (λ (c : Step). then c (λ s. state s.phase s.read)) d

pub length_push : (q : List ℕ) (b : ℕ) → length (q ++ b ∷ []) ≡ length q + 1
length_push q b = omega (arith, length-append q (b ∷ []))

-- where some text begins with these bytes
pub front_reaches : (q : List ℕ) → IsFront q → (t : State) × Reaches q t.phase t.read
front_reaches q (more, d, h, same) =
    let g = reached_first q more beginning start 0 (table d) (ap outcome_of same ∙ run_document d h) in (g.0, g.1)

-- a byte that is refused ends the reading
pub refuses : (q : List ℕ) (p : Phase) (r : Read) (b : ℕ) (rest : List ℕ) (f : TextFault) → Reaches q p r
    → step p r (length q) b ≡ Err f → outcome_of (q ++ (b ∷ rest)) ≡ Err f
refuses q p r b rest f e d =
    reads q p r e (b ∷ rest)
    ∙ ap (λ (c : Step). and_then c (λ s. run s.phase s.read (length q + 1) rest)) d

-- and the machine stands nowhere after it
pub refused_reach : {G : Type 0} (q : List ℕ) (p : Phase) (r : Read) (b : ℕ) (f : TextFault) (t : Phase) (u : Read)
    → Reaches q p r → step p r (length q) b ≡ Err f → Reaches (q ++ b ∷ []) t u → G
refused_reach q p r b f t u e d g =
    let no : state t u ≡ Err f = sym g ∙ over q (b ∷ []) p r e
    ∙ ap (λ (c : Step). then c (λ s. state s.phase s.read)) d in cc

-- in one state only
pub one_state : (q : List ℕ) (p t : Phase) (r u : Read) → Reaches q p r → Reaches q t u
    → let s : State = record { phase = p; read = r } in s ≡ record { phase = t; read = u }
one_state q p t r u e d = same_state p r (record { phase = t; read = u }) (sym e ∙ d)
