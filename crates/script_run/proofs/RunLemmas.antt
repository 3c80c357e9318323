-- The lines of a script, one after the other.
use Rattle.std.proofs.Common.{ℕ, ◌≡◌, Bool, true, false, cond, Option, Result, Ok, List, [], ◌∷◌, ◌++◌, sym, ap}
use Rattle.std.proofs.Common.{subst, ◌∙◌, encode_utf8_all}
use Rattle.std.specs.Prelude.{◌&&◌}
use Rattle.std.specs.List.{list_all}
use Rattle.edit_script.specs.declared.commands.LineFault.{LineFault}
use Rattle.khe_io.specs.Faults.{Took, TookFront}
use Rattle.khe_io.specs.Amid.{IsAmid}
use Rattle.khe_io.proofs.AmidLemmas.{amid-end, amid-flush}
use Rattle.script_run.specs.Added.{IsCutOff}
use Rattle.script_run.specs.Scripts.{by_reading}
use Rattle.script_run.proofs.AddedLaws.{amid_join, amid_join_cut, cut_first}

-- the next of the lines that are left
pub next_line : (answers : List (List ℕ) → List ℕ) (before now after : Option (List ℕ)) (text text2 rest whole : List ℕ)
    (ls : List (List ℕ)) (line : List ℕ) (more : List (List ℕ)) → ls ≡ line ∷ more
    → IsAmid now after text2 rest (text ++ answers (line ∷ more)) → IsAmid before now text (answers ls) whole
    → IsAmid before after text2 rest whole
next_line answers before now after text text2 rest whole ls line more f e h =
    amid_join before now after text (answers (line ∷ more)) text2 rest whole
    (subst (λ xs. IsAmid before now text (answers xs) whole) f h) e

-- its answer is cut off
pub cut_line : (answers : List (List ℕ) → List ℕ) (before now after : Option (List ℕ)) (text whole : List ℕ)
    (ls : List (List ℕ)) (line : List ℕ) (more : List (List ℕ)) → ls ≡ line ∷ more
    → IsCutOff now after text (answers (line ∷ more)) → IsAmid before now text (answers ls) whole
    → TookFront before after (encode_utf8_all whole)
cut_line answers before now after text whole ls line more f cut h =
    amid_join_cut before now after text (answers (line ∷ more)) whole
    (subst (λ xs. IsAmid before now text (answers xs) whole) f h) cut

-- the answer to the first of some lines is cut off
pub cut_answer : {C : Type 0} (before now : Option (List ℕ)) (text : List ℕ) (says rest : C → List ℕ)
    (stop : LineFault → List ℕ) (r : Result C LineFault) (c : C) → r ≡ Ok c → IsCutOff before now text (says c)
    → IsCutOff before now text (by_reading r (λ x. says x ++ rest x) stop)
cut_answer {C} before now text says rest stop r c e h =
    subst (λ (x : Result C LineFault). IsCutOff before now text (by_reading x (λ y. says y ++ rest y) stop)) (sym e)
    (cut_first before now text (says c) (rest c) h)

-- a line without a reading is the last
pub last_line : (before now : Option (List ℕ)) (text rest whole : List ℕ) (read reads : Bool) → read ≡ reads
    → read ≡ false → IsAmid before now text (cond reads rest []) whole → IsAmid before now text [] whole
last_line before now text rest whole read reads e f h =
    subst (λ b. IsAmid before now text (cond b rest []) whole) (sym e ∙ f) h

pub more_lines : (before now : Option (List ℕ)) (text rest whole : List ℕ) (read reads : Bool) → read ≡ reads
    → read ≡ true → IsAmid before now text (cond reads rest []) whole → IsAmid before now text rest whole
more_lines before now text rest whole read reads e f h =
    subst (λ b. IsAmid before now text (cond b rest []) whole) (sym e ∙ f) h

pub read_more : (reads : List ℕ → Bool) (ls : List (List ℕ)) (line : List ℕ) (more : List (List ℕ)) (read whole : Bool)
    → ls ≡ line ∷ more → read ≡ reads line → read ≡ true → list_all reads ls ≡ whole → list_all reads more ≡ whole
read_more reads ls line more read whole e f g h =
    ap (λ b. b && list_all reads more) (sym g ∙ f) ∙ ap (list_all reads) (sym e) ∙ h

pub no_line : (answers : List (List ℕ) → List ℕ) (before now : Option (List ℕ)) (text whole : List ℕ)
    (ls : List (List ℕ)) → ls ≡ [] → answers [] ≡ [] → IsAmid before now text (answers ls) whole
    → IsAmid before now text [] whole
no_line answers before now text whole ls e f h =
    subst (λ xs. IsAmid before now text xs whole) (ap answers e ∙ f) h

-- what waits is the end
pub all_taken : (before now after : Option (List ℕ)) (text whole : List ℕ) → IsAmid before now text [] whole
    → Took now after (encode_utf8_all text) → Took before after (encode_utf8_all whole)
all_taken before now after text whole h took =
    amid-end before after whole (amid-flush before now after text [] whole h took)
