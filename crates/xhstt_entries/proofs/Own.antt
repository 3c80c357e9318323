-- The duties of meets, one meet after the other.
use Rattle.std.proofs.Common.{◌≡◌, ◌∙◌, sym, ap, ap₂, subst, refl, ℕ, ◌+◌, ◌≤◌, ◌==◌, Bool, true, false, cond, nat_lt}
use Rattle.std.proofs.Common.{List, [], ◌∷◌, ◌++◌, map, length, take, drop, arith, All, filter, append_assoc}
use Rattle.std.proofs.Common.{append-nil}
use Rattle.std.specs.List.{list_all}
use Rattle.std.proofs.lemmas.Bool.{and_parts, eq-eqb}
use Rattle.std.proofs.lemmas.Bool.Decides.{nat_tests}
use Rattle.std.proofs.lemmas.List.{length-append, length-map, length-take-le, take_at, drop_at}
use Rattle.std.proofs.lemmas.List.Elements.{All-cons, All-nil, filter-append}
use Rattle.khe_instance.specs.Lookups.{places_at}
use Rattle.khe_instance.specs.Running.{duties}
use Rattle.khe_instance.specs.States.{IsTold}
use Rattle.khe_instance.specs.declared.parts.Parts.{Parts}
use Rattle.khe_instance.specs.declared.states.Duty.{Duty}
use Rattle.khe_instance.specs.declared.states.Meet.{Meet}
use Rattle.khe_instance.specs.declared.states.Task.{Task}
use Rattle.event_deviations.proofs.Beside.{Beside, Beside-more, duties-more, duty_of, enough, is_of}
use Rattle.xhstt_shape.specs.declared.records.RawEntry.{RawEntry}
use Rattle.xhstt_entries.specs.Spelled.{entry_of, entry_with, own_duties}

-- the same lists are told
pub told_of : (p : Parts) (ms xs : List Meet) (ts ys : List Task) → xs ≡ ms → ys ≡ ts → IsTold p ms ts → IsTold p xs ys
told_of p ms xs ts ys a b h = subst (λ l. IsTold p l ys) (sym a) (subst (IsTold p ms) (sym b) h)

-- what holds of a meet holds of the meet of each of its duties
pub all_own : (P : Meet → Type 0) (m : Meet) → P m → (ts : List Task) → All (λ d. P d.meet) (map (duty_of m) ts)
all_own P m h [] = All-nil (λ d. P d.meet)
all_own P m h (t ∷ ts) = All-cons (λ d. P d.meet) (duty_of m t) (map (duty_of m) ts) h (all_own P m h ts)

-- a test of meets keeps all duties of one or none
all_or_none : (q : Meet → Bool) (m : Meet) (b : Bool) → q m ≡ b → (ts : List Task)
    → filter (λ d. q d.meet) (map (duty_of m) ts) ≡ cond b (map (duty_of m) ts) []
all_or_none q m true e [] = refl
all_or_none q m false e [] = refl
all_or_none q m true e (t ∷ ts) =
    let later = filter (λ d. q d.meet) (map (duty_of m) ts) in
    ap (λ b. cond b (duty_of m t ∷ later) later) e ∙ ap (λ l. duty_of m t ∷ l) (all_or_none q m true e ts)
all_or_none q m false e (t ∷ ts) =
    let later = filter (λ d. q d.meet) (map (duty_of m) ts) in
    ap (λ b. cond b (duty_of m t ∷ later) later) e ∙ all_or_none q m false e ts

pub later_apart : (x y : ℕ) → nat_lt x y ≡ true → (y == x) ≡ false
later_apart x y e = grind (arith, nat_tests)

pub earlier_apart : (x y : ℕ) → nat_lt x y ≡ true → (x == y) ≡ false
earlier_apart x y e = grind (arith, nat_tests)

-- no duty of a later meet is one of this meet
none_later : (x : Meet) (ms : List Meet) (ts : List Task) → list_all (λ y. nat_lt x.meet.0 y.meet.0) ms ≡ true
    → own_duties x (duties ms ts) ≡ []
none_later x [] ts e = refl
none_later x (y ∷ ms) ts e =
    let b = and_parts (nat_lt x.meet.0 y.meet.0) (list_all (λ y. nat_lt x.meet.0 y.meet.0) ms) e in
    filter-append (λ d. d.meet.meet.0 == x.meet.0) (map (duty_of y) (filter (is_of y.meet.0) ts)) (duties ms ts)
    ∙ ap₂ (λ a b. a ++ b) (all_or_none (λ m. m.meet.0 == x.meet.0) y false (later_apart x.meet.0 y.meet.0 b.0)
    (filter (is_of y.meet.0) ts)) (none_later x ms ts b.1)

-- the entries of later meets leave the duties of this one out
same_entries : (p : Parts) (m : Meet) (own : List Task) (ds : List Duty) (xs : List Meet)
    → list_all (λ x. nat_lt m.meet.0 x.meet.0) xs ≡ true
    → map (entry_of p (map (duty_of m) own ++ ds)) xs ≡ map (entry_of p ds) xs
same_entries p m own ds [] e = refl
same_entries p m own ds (x ∷ xs) e =
    let b = and_parts (nat_lt m.meet.0 x.meet.0) (list_all (λ x. nat_lt m.meet.0 x.meet.0) xs) e in
    let kept : own_duties x (map (duty_of m) own ++ ds) ≡ own_duties x ds =
    filter-append (λ d. d.meet.meet.0 == x.meet.0) (map (duty_of m) own) ds
    ∙ ap (λ l. l ++ own_duties x ds) (all_or_none (λ y. y.meet.0 == x.meet.0) m false
    (earlier_apart m.meet.0 x.meet.0 b.0) own) in
    ap₂ (λ a l. entry_with p x a ∷ l) kept (same_entries p m own ds xs b.1)

-- the duties of these meets, whose tasks stand beside them
pub record Stands (p : Parts) (ms : List Meet) (ds : List Duty) : Type 0 where
  pub tasks : List Task
  pub beside : Beside p ms tasks
  pub is : ds ≡ duties ms tasks

module _ (p : Parts) (xs : List Meet) (i : ℕ) (m : Meet) (rest : List Duty) (here : drop i xs ≡ m ∷ drop (i + 1) xs)
    (s : Stands p (drop i xs) rest) where
  abbrev later : List Meet
  later = drop (i + 1) xs

  goes_on : Beside p (m ∷ later) s.tasks
  goes_on = subst (λ l. Beside p l s.tasks) here s.beside

  abbrev n : ℕ
  n = places_at p.events m.event.0

  whole : rest ≡ map (duty_of m) (take n s.tasks) ++ duties later (drop n s.tasks)
  whole = s.is ∙ ap (λ l. duties l s.tasks) here ∙ duties-more p m later s.tasks goes_on

  long : length (map (duty_of m) (take n s.tasks)) ≡ n
  long = length-map (take n s.tasks) (duty_of m) ∙ length-take-le n s.tasks (enough p m later s.tasks goes_on)

  pub enough_left : (k : ℕ) → n ≡ k → k ≤ length rest
  enough_left k e = let l = ap length whole ∙ length-append (map (duty_of m) (take n s.tasks))
      (duties later (drop n s.tasks)) in let g = long in omega (arith, l, g, e)

  pub own_taken : (k : ℕ) → n ≡ k → take k rest ≡ map (duty_of m) (take n s.tasks)
  own_taken k e = ap (take k) whole ∙ take_at (map (duty_of m) (take n s.tasks)) (duties later (drop n s.tasks)) k
      (long ∙ e)

  left : (k : ℕ) → n ≡ k → drop k rest ≡ duties later (drop n s.tasks)
  left k e = ap (drop k) whole ∙ drop_at (map (duty_of m) (take n s.tasks)) (duties later (drop n s.tasks)) k (long ∙ e)

  pub stands_on : (k : ℕ) → n ≡ k → Stands p later (drop k rest)
  stands_on k e = record { tasks = drop n s.tasks; beside = Beside-more p m later s.tasks goes_on; is = left k e }

  own_found : own_duties m rest ≡ map (duty_of m) (take n s.tasks)
  own_found =
      ap (own_duties m) whole ∙ filter-append (λ d. d.meet.meet.0 == m.meet.0) (map (duty_of m) (take n s.tasks))
      (duties later (drop n s.tasks))
      ∙ ap₂ (λ a b. a ++ b) (all_or_none (λ y. y.meet.0 == m.meet.0) m true (eq-eqb m.meet.0 m.meet.0 refl)
      (take n s.tasks)) (none_later m later (drop n s.tasks) goes_on.rising.0)
      ∙ append-nil (map (duty_of m) (take n s.tasks))

  entries_split : (k : ℕ) → n ≡ k → map (entry_of p rest) (drop i xs)
      ≡ entry_with p m (take k rest) ∷ map (entry_of p (drop k rest)) later
  entries_split k e =
      ap (map (entry_of p rest)) here
      ∙ ap₂ (λ a l. entry_with p m a ∷ l) (own_found ∙ sym (own_taken k e))
      (ap (λ r. map (entry_of p r) later) whole ∙ same_entries p m (take n s.tasks) (duties later (drop n s.tasks))
      later goes_on.rising.0 ∙ ap (λ r. map (entry_of p r) later) (sym (left k e)))

  pub one_more : (k : ℕ) → n ≡ k → (made all : List RawEntry) → made ++ map (entry_of p rest) (drop i xs) ≡ all
      → (made ++ entry_with p m (take k rest) ∷ []) ++ map (entry_of p (drop k rest)) later ≡ all
  one_more k e made all h =
      append_assoc made (entry_with p m (take k rest) ∷ []) (map (entry_of p (drop k rest)) later)
      ∙ ap (λ l. made ++ l) (sym (entries_split k e)) ∙ h
