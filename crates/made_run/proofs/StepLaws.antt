-- How many steps the edits of a run take or owe, one after the other.
use Rattle.std.proofs.Common.{ℕ, ◌≡◌, ◌≤◌, ◌+◌, ◌*◌, ◌%◌, ◌==◌, Bool, true, false, List, [], ◌∷◌, ◌++◌, drop, refl, sym, ap, subst, ◌∙◌, arith}
use Rattle.std.specs.Prelude.{if◌then◌else◌}
use Rattle.archive_generator.specs.Names.{below}
use Rattle.archive_generator.specs.Turns.{gathered}
use Rattle.edit_script.specs.declared.commands.Command.{Command}
use Rattle.edit_script.specs.declared.commands.Command.TheVariants as command
use Rattle.khe_instance.specs.declared.parts.Parts.{Parts}
use Rattle.khe_told.specs.declared.edits.Edit.{Edit}
use Rattle.script_run.specs.Steps.{Trace, command_steps, traced}
use Rattle.made_run.specs.Commands as spec
use Rattle.made_run.specs.Steps.{run_steps, traced_all}

-- one list of commands after another
pub traced_append : (p : Parts) (t : Trace) (xs ys : List Command)
    → traced_all p t (xs ++ ys) ≡ traced_all p (traced_all p t xs) ys
traced_append p t [] ys = refl
traced_append p t (x ∷ xs) ys = traced_append p (traced p t x) xs ys

pub steps_append : (p : Parts) (t : Trace) (xs ys : List Command)
    → run_steps p t (xs ++ ys) ≡ run_steps p t xs + run_steps p (traced_all p t xs) ys
steps_append p t [] ys = omega arith
steps_append p t (x ∷ xs) ys = let a = steps_append p (traced p t x) xs ys in omega (arith, a)

-- the edit with a number, and the marks before and after it
pub around_traced : (p : Parts) (t : Trace) (n : ℕ) (e : Edit)
    → traced_all p t (spec.around n e)
    ≡ traced_all p (traced_all p (traced p (traced_all p t (spec.begins n)) (command.Edit e)) (spec.undoes n)) (spec.ends n)
around_traced p t n e =
    traced_append p t (spec.begins n) (command.Edit e ∷ (spec.undoes n ++ spec.ends n))
    ∙ traced_append p (traced p (traced_all p t (spec.begins n)) (command.Edit e)) (spec.undoes n) (spec.ends n)

pub around_steps : (p : Parts) (t : Trace) (n : ℕ) (e : Edit)
    → let u = traced_all p t (spec.begins n) in
    let v = traced p u (command.Edit e) in
    command_steps p u (command.Edit e) + run_steps p v (spec.undoes n) ≤ run_steps p t (spec.around n e)
around_steps p t n e =
    let u = traced_all p t (spec.begins n) in
    let v = traced p u (command.Edit e) in
    let a = steps_append p t (spec.begins n) (command.Edit e ∷ (spec.undoes n ++ spec.ends n)) in
    let b = steps_append p v (spec.undoes n) (spec.ends n) in
    omega (arith, a, b)

-- what a step of the loop makes, by what its four parts make
pub step_traced : (p p1 p2 p3 : Parts) (size count n x : ℕ) (e : Edit) (t t1 t2 t3 t4 : Trace) → p1 ≡ p → p2 ≡ p1
    → p3 ≡ p2 → e ≡ (spec.edit size count x).0 → t1 ≡ traced_all p t (spec.begins n)
    → t2 ≡ traced p1 t1 (command.Edit e) → t3 ≡ traced_all p2 t2 (spec.undoes n) → t4 ≡ traced_all p3 t3 (spec.ends n)
    → t4 ≡ traced_all p t (spec.step size count n x).0
unfolding spec.step
step_traced p p1 p2 p3 size count n x e t t1 t2 t3 t4 q1 q2 q3 drawn first edit undone ended =
    let r2 : p2 ≡ p = q2 ∙ q1 in
    let r3 : p3 ≡ p = q3 ∙ r2 in
    let h2 : t2 ≡ traced p (traced_all p t (spec.begins n)) (command.Edit e) =
    edit ∙ (λ i. traced (q1 i) (first i) (command.Edit e)) in
    let h3 : t3 ≡ traced_all p (traced p (traced_all p t (spec.begins n)) (command.Edit e)) (spec.undoes n) =
    undone ∙ (λ i. traced_all (r2 i) (h2 i) (spec.undoes n)) in
    ended ∙ (λ i. traced_all (r3 i) (h3 i) (spec.ends n)) ∙ sym (around_traced p t n e)
    ∙ ap (λ (y : Edit). traced_all p t (spec.around n y)) drawn

-- how many steps it takes or owes: m before, k after the edit, and n in the end
pub step_steps : (p p1 p2 : Parts) (size count number x : ℕ) (e : Edit) (t t1 t2 : Trace) (m k n : ℕ) → p1 ≡ p → p2 ≡ p1
    → e ≡ (spec.edit size count x).0 → t1 ≡ traced_all p t (spec.begins number) → t2 ≡ traced p1 t1 (command.Edit e)
    → k ≤ m + command_steps p1 t1 (command.Edit e) → n ≤ k + run_steps p2 t2 (spec.undoes number)
    → n ≤ m + run_steps p t (spec.step size count number x).0
unfolding spec.step
step_steps p p1 p2 size count number x e t t1 t2 m k n q1 q2 drawn first edit h l =
    let u = traced_all p t (spec.begins number) in
    let h2 : t2 ≡ traced p u (command.Edit e) = edit ∙ (λ i. traced (q1 i) (first i) (command.Edit e)) in
    let a : command_steps p1 t1 (command.Edit e) ≡ command_steps p u (command.Edit e) =
    λ i. command_steps (q1 i) (first i) (command.Edit e) in
    let r2 : p2 ≡ p = q2 ∙ q1 in
    let b : run_steps p2 t2 (spec.undoes number) ≡ run_steps p (traced p u (command.Edit e)) (spec.undoes number) =
    λ i. run_steps (r2 i) (h2 i) (spec.undoes number) in
    let c = around_steps p t number e in
    let d = ap (λ (y : Edit). run_steps p t (spec.around number y)) drawn in
    omega (arith, a, b, c, d, h, l)

-- how many it takes or owes where it stops at the edit
pub edit_steps : (p p1 : Parts) (size count number x : ℕ) (e : Edit) (t t1 : Trace) (m k : ℕ) → p1 ≡ p
    → e ≡ (spec.edit size count x).0 → t1 ≡ traced_all p t (spec.begins number)
    → k ≤ m + command_steps p1 t1 (command.Edit e) → k ≤ m + run_steps p t (spec.step size count number x).0
unfolding spec.step
edit_steps p p1 size count number x e t t1 m k q1 drawn first h =
    let u = traced_all p t (spec.begins number) in
    let a : command_steps p1 t1 (command.Edit e) ≡ command_steps p u (command.Edit e) =
    λ i. command_steps (q1 i) (first i) (command.Edit e) in
    let c = around_steps p t number e in
    let d = ap (λ (y : Edit). run_steps p t (spec.around number y)) drawn in
    omega (arith, a, c, d, h)

-- one number more, and then the rest: k before it, and n after it
pub next_steps : (p q : Parts) (f : ℕ → ℕ → List Command × ℕ) (xs : List ℕ) (i a x y : ℕ) (t u : Trace) (k n whole : ℕ)
    → drop i xs ≡ a ∷ drop (i + 1) xs → q ≡ p → u ≡ traced_all q t (f a x).0 → y ≡ (f a x).1
    → n ≤ k + run_steps q t (f a x).0 → k + run_steps p t (gathered f (drop i xs) x).0 ≤ whole
    → n + run_steps p u (gathered f (drop (i + 1) xs) y).0 ≤ whole
next_steps p q f xs i a x y t u k n whole left same e g one h =
    let there = subst (λ (ys : List ℕ). k + run_steps p t (gathered f ys x).0 ≤ whole) left h in
    let b = steps_append p t (f a x).0 (gathered f (drop (i + 1) xs) (f a x).1).0 in
    let c : run_steps p u (gathered f (drop (i + 1) xs) y).0
    ≡ run_steps p (traced_all p t (f a x).0) (gathered f (drop (i + 1) xs) (f a x).1).0 =
    λ j. run_steps p ((e ∙ ap (λ (r : Parts). traced_all r t (f a x).0) same) j) (gathered f (drop (i + 1) xs) (g j)).0 in
    let d = ap (λ (r : Parts). run_steps r t (f a x).0) same in
    omega (arith, there, b, c, d, one)

-- no number more
pub stopped_steps : (p q : Parts) (f : ℕ → ℕ → List Command × ℕ) (xs : List ℕ) (i a x : ℕ) (t : Trace) (k n whole : ℕ)
    → drop i xs ≡ a ∷ drop (i + 1) xs → q ≡ p → n ≤ k + run_steps q t (f a x).0
    → k + run_steps p t (gathered f (drop i xs) x).0 ≤ whole → n ≤ whole
stopped_steps p q f xs i a x t k n whole left same one h =
    let there = subst (λ (ys : List ℕ). k + run_steps p t (gathered f ys x).0 ≤ whole) left h in
    let b = steps_append p t (f a x).0 (gathered f (drop (i + 1) xs) (f a x).1).0 in
    let d = ap (λ (r : Parts). run_steps r t (f a x).0) same in
    omega (arith, there, b, d, one)

-- the marks by the number of an edit
pub traced_begins : (p : Parts) (t u : Trace) (n : ℕ) → (n % 10 == 0) ≡ true → u ≡ traced p t command.Begin
    → u ≡ traced_all p t (spec.begins n)
traced_begins p t u n b e = e ∙ ap (λ (c : Bool). traced_all p t (if c then command.Begin ∷ [] else [])) (sym b)

pub traced_no_begins : (p : Parts) (t : Trace) (n : ℕ) → (n % 10 == 0) ≡ false → t ≡ traced_all p t (spec.begins n)
traced_no_begins p t n b = ap (λ (c : Bool). traced_all p t (if c then command.Begin ∷ [] else [])) (sym b)

pub traced_undoes : (p : Parts) (t u : Trace) (n : ℕ) → (n % 20 == 9) ≡ true → u ≡ traced p t command.Undo
    → u ≡ traced_all p t (spec.undoes n)
traced_undoes p t u n b e = e ∙ ap (λ (c : Bool). traced_all p t (if c then command.Undo ∷ [] else [])) (sym b)

pub traced_no_undoes : (p : Parts) (t : Trace) (n : ℕ) → (n % 20 == 9) ≡ false → t ≡ traced_all p t (spec.undoes n)
traced_no_undoes p t n b = ap (λ (c : Bool). traced_all p t (if c then command.Undo ∷ [] else [])) (sym b)

pub steps_undoes : (p : Parts) (t : Trace) (n m k : ℕ) → (n % 20 == 9) ≡ true → k ≤ m + command_steps p t command.Undo
    → k ≤ m + run_steps p t (spec.undoes n)
steps_undoes p t n m k b h =
    let a = ap (λ (c : Bool). run_steps p t (if c then command.Undo ∷ [] else [])) b in
    omega (arith, a, h)

pub traced_ends : (p : Parts) (t u : Trace) (n : ℕ) → (n % 10 == 9) ≡ true → u ≡ traced p t command.End
    → u ≡ traced_all p t (spec.ends n)
traced_ends p t u n b e = e ∙ ap (λ (c : Bool). traced_all p t (if c then command.End ∷ [] else [])) (sym b)

pub traced_no_ends : (p : Parts) (t : Trace) (n : ℕ) → (n % 10 == 9) ≡ false → t ≡ traced_all p t (spec.ends n)
traced_no_ends p t n b = ap (λ (c : Bool). traced_all p t (if c then command.End ∷ [] else [])) (sym b)

-- all commands of a run are ahead
pub begin_steps : (p : Parts) (t : Trace) (size count x n : ℕ)
    → n + run_steps p t (gathered (spec.step size count) (drop 0 (below (10 * size))) x).0
    ≤ n + run_steps p t (spec.drawn_commands size count x)
unfolding spec.drawn_commands
begin_steps p t size count x n = omega arith
