-- A fault other than bad markup stays the first, whatever bytes follow.
use Rattle.std.proofs.Common.{◌≡◌, ℕ, ◌+◌, Bool, true, false, cond, List, [], ◌∷◌, ◌++◌, Ok, Err}
use Rattle.xhstt_text.specs.declared.faults.TextFault.TheVariants.{Bad}
use Rattle.fault_tables.specs.declared.faults.TheConstants.{BAD_MARKUP}
use Rattle.xhstt_text.specs.Document.{has_name}
use Rattle.xhstt_text.specs.Machine.{ended, other_word, attribute_name, Phase, Read, State, Step, Outcome, step, finish}
use Rattle.xhstt_text.specs.Machine.{and_then, run}

abbrev failed : ℕ → ℕ → Outcome
failed kind at = Err (Bad kind at)

same_kind : (l a kind at : ℕ) → failed l a ≡ failed kind at → kind ≡ l
same_kind l a kind at e = cc

either_kind : (c : Bool) (a b kind at : ℕ) → Err (cond c (Bad BAD_MARKUP a) (Bad BAD_MARKUP b)) ≡ failed kind at
    → kind ≡ BAD_MARKUP
either_kind true a b kind at e = same_kind BAD_MARKUP a kind at e
either_kind false a b kind at e = same_kind BAD_MARKUP b kind at e

-- what the end of the bytes shows
lasts_at : (p : Phase) (r : Read) (place kind at : ℕ) (more : List ℕ) → (kind ≡ BAD_MARKUP → ⊥)
    → finish p r place ≡ failed kind at → run p r place more ≡ failed kind at
lasts_at (other_word front first []) r place kind at [] n e = e
lasts_at (other_word front first []) r place kind at (b ∷ more) n e = e
lasts_at (other_word front first (k ∷ ks)) r place kind at more n e = absurd (n (same_kind BAD_MARKUP first kind at e))
lasts_at (attribute_name t front name) r place kind at more n e =
    absurd (n (either_kind (has_name name t.names) front place kind at e))
lasts_at ended r place kind at more n e = cc
lasts_at _ r place kind at more n e = absurd (n (same_kind BAD_MARKUP place kind at e))

lasts_then : (x : Step) (f g : State → Outcome) (kind at : ℕ)
    → ((s : State) → f s ≡ failed kind at → g s ≡ failed kind at) → and_then x f ≡ failed kind at
    → and_then x g ≡ failed kind at
lasts_then (Ok s) f g kind at h e = h s e
lasts_then (Err d) f g kind at h e = e

pub lasts : (bs : List ℕ) (p : Phase) (r : Read) (place kind at : ℕ) (more : List ℕ) → (kind ≡ BAD_MARKUP → ⊥)
    → run p r place bs ≡ Err (Bad kind at) → run p r place (bs ++ more) ≡ Err (Bad kind at)
lasts [] p r place kind at more n e = lasts_at p r place kind at more n e
lasts (b ∷ bs) p r place kind at more n e =
    lasts_then (step p r place b) (λ s. run s.phase s.read (place + 1) bs)
    (λ s. run s.phase s.read (place + 1) (bs ++ more)) kind at
    (λ s h. lasts bs s.phase s.read (place + 1) kind at more n h) e
