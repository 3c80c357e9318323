-- Records that lead back, and the saved states that they stand for.
use Rattle.std.proofs.Common.{ℕ, suc, ◌≡◌, ◌+◌, ◌≤◌, Bool, true, false, cond, List, [], ◌∷◌, ◌++◌, length, refl, sym}
use Rattle.std.proofs.Common.{ap, subst, ◌∙◌, arith, append_assoc, length-append}
use Rattle.std.proofs.lemmas.List.{append-nil}
use Rattle.std.proofs.lemmas.List.Sums.{sum_by-cons}
use Rattle.khe_instance.specs.declared.parts.Parts.{Parts}
use Rattle.khe_told.specs.Changes.{after_all}
use Rattle.khe_told.specs.Watchers.{watcher_counts}
use Rattle.khe_told.specs.declared.changes.Change.{Change}
use Rattle.khe_told.specs.declared.edits.Back.{Back}
use Rattle.khe_told.proofs.SlotLaws.{after_both}
use Rattle.khe_told.proofs.WatcherLaws.{watchers_both}
use Rattle.khe_solution.specs.Backs as backs
use Rattle.khe_solution.proofs.EditLaws.{undo_after}
use Rattle.monitor_graph.specs.Edits as groups
use Rattle.monitor_graph.specs.Groups.{seats_at, HaveAsMany}
use Rattle.undo_paths.specs.Stack.{with_record, without_mark, dropped, inner, outer}
use Rattle.khe_engine.specs.States.{State, is_back_of_groups, undone, undone_changes}
use Rattle.khe_engine.specs.Worlds.{Saved, grown, closed, kept, last_cost}
use Rattle.khe_engine.specs.Records.{undone_all, trail_of, saved_of, LeadsBy, Leads, AllLead, MarksLead, IsRecorded}
use Rattle.khe_engine.specs.Records.{records, undo_cost}

-- an edit with its record
saved_edit : (s s2 : State) (b : Back) (cs : List Change) (since : List (List Back)) → undone s2 b ≡ s
    → undone_changes s2 b ≡ cs → saved_of s2 (with_record b since) ≡ grown cs (saved_of s since)
saved_edit s s2 b cs [] u c = refl
saved_edit s s2 b cs (bs ∷ rest) u c = λ i. record
    { state = undone_all (u i) bs; trail = trail_of (u i) bs ++ c i; records = more (length bs) i } ∷ saved_of
    (undone_all (u i) bs) rest
  where
    more : (n : ℕ) → suc n ≡ n + 1
    more n = omega arith

lead_edit : (p : Parts) (seats : List ℕ) (s s2 : State) (b : Back) (since : List (List Back)) → undone s2 b ≡ s
    → Leads p seats s2 b → MarksLead p seats s since → MarksLead p seats s2 (with_record b since)
lead_edit p seats s s2 b [] u l a = tt
lead_edit p seats s s2 b (bs ∷ rest) u l a = (
  (l, subst (λ x. AllLead p seats x bs) (sym u) a.0),
  subst
      (λ x. MarksLead p seats (undone_all x bs) rest) (sym u) a.1,
)

-- more seats
pub as_many : (m n : List ℕ) → n ≡ m → HaveAsMany m n
as_many m n e g = let same = ap (λ x. seats_at x g) e in omega (arith, same)

lead_one : (t : Bool) (p : Parts) (m n : List ℕ) (s : State) (b : Back) → HaveAsMany m n → LeadsBy t p m s b → LeadsBy t p n s b
lead_one true p m n s b l h = (h.0, λ i g. let k = h.1 i g in let more = l (groups.inserts_to b) in omega (arith, k, more))
lead_one false p m n s b l h = h

lead_more : (p : Parts) (m n : List ℕ) (s : State) (bs : List Back) → HaveAsMany m n → AllLead p m s bs → AllLead p n s bs
lead_more p m n s [] l h = tt
lead_more p m n s (b ∷ bs) l h = (lead_one (is_back_of_groups b) p m n s b l h.0, lead_more p m n (undone s b) bs l h.1)

pub marks_more : (p : Parts) (m n : List ℕ) (s : State) (since : List (List Back)) → HaveAsMany m n → MarksLead p m s since
    → MarksLead p n s since
marks_more p m n s [] l h = tt
marks_more p m n s (bs ∷ rest) l h = (lead_more p m n s bs l h.0, marks_more p m n (undone_all s bs) rest l h.1)

-- the same state and records, and no fewer seats
pub marks_same : (p : Parts) (m n : List ℕ) (s s2 : State) (since since2 : List (List Back)) → s2 ≡ s → since2 ≡ since
    → HaveAsMany m n → MarksLead p m s since → MarksLead p n s2 since2
marks_same p m n s s2 since since2 e f l h = subst (MarksLead p n s2) (sym f)
    (subst (λ x. MarksLead p n x since) (sym e) (marks_more p m n s since l h))

-- what an edit makes of the saved states
pub recorded_saved : (p : Parts) (seats : List ℕ) (cs : List Change) (s s2 : State) (since since2 : List (List Back))
    → IsRecorded p seats cs s s2 since since2 → saved_of s2 since2 ≡ grown cs (saved_of s since)
recorded_saved p seats cs s s2 since since2 r =
    ap (saved_of s2) r.kept ∙ saved_edit s s2 r.back cs since r.before r.list

pub recorded_lead : (p : Parts) (m seats : List ℕ) (cs : List Change) (s s2 : State) (since since2 : List (List Back))
    → IsRecorded p seats cs s s2 since since2 → HaveAsMany m seats → MarksLead p m s since → MarksLead p seats s2 since2
recorded_lead p m seats cs s s2 since since2 r l a =
    subst (MarksLead p seats s2) (sym r.kept) (lead_edit p seats s s2 r.back since r.before r.leads
    (marks_more p m seats s since l a))

-- the records of two marks as those of one
undone_both : (s : State) (as_ bs : List Back) → undone_all s (as_ ++ bs) ≡ undone_all (undone_all s as_) bs
undone_both s [] bs = refl
undone_both s (a ∷ as_) bs = undone_both (undone s a) as_ bs

trail_both : (s : State) (as_ bs : List Back)
    → trail_of s (as_ ++ bs) ≡ trail_of (undone_all s as_) bs ++ trail_of s as_
trail_both s [] bs = sym (append-nil (trail_of s bs))
trail_both s (a ∷ as_) bs = ap (λ x. x ++ undone_changes s a) (trail_both (undone s a) as_ bs)
    ∙ append_assoc (trail_of (undone_all (undone s a) as_) bs) (trail_of (undone s a) as_) (undone_changes s a)

lead_both : (p : Parts) (seats : List ℕ) (s : State) (as_ bs : List Back) → AllLead p seats s as_
    → AllLead p seats (undone_all s as_) bs → AllLead p seats s (as_ ++ bs)
lead_both p seats s [] bs a b = b
lead_both p seats s (x ∷ xs) bs a b = (a.0, lead_both p seats (undone s x) xs bs a.1 b)

pub saved_close : (s : State) (since : List (List Back)) → saved_of s (without_mark since) ≡ closed (saved_of s since)
saved_close s [] = refl
saved_close s (as_ ∷ []) = refl
saved_close s (as_ ∷ bs ∷ rest) = λ i. record
    { state = undone_both s as_ bs i; trail = trail_both s as_ bs i; records = sum_is i } ∷ saved_of
    (undone_both s as_ bs i) rest
  where
    sum_is : length (as_ ++ bs) ≡ length bs + length as_
    sum_is = let h = length-append as_ bs in omega (arith, h)

pub lead_close : (p : Parts) (seats : List ℕ) (s : State) (since : List (List Back)) → MarksLead p seats s since
    → MarksLead p seats s (without_mark since)
lead_close p seats s [] a = tt
lead_close p seats s (as_ ∷ []) a = tt
lead_close p seats s (as_ ∷ bs ∷ rest) a = (
  lead_both p seats s as_ bs a.0 a.1.0,
  subst (λ x. MarksLead p seats x rest)
      (sym (undone_both s as_ bs)) a.1.1,
)

-- the trail leads from the saved state to the present one, so undoing costs what the trail does
forth_one : (t : Bool) (p : Parts) (seats : List ℕ) (s : State) (b : Back) → t ≡ is_back_of_groups b → LeadsBy t p seats s b
    → s.slots ≡ after_all (undone s b).slots (undone_changes s b)
unfolding undone undone_changes
forth_one true p seats s b e h = (λ i. after_all
    (cond (e i) (record s { grouping = groups.undone s.grouping b })
    (record s { slots = backs.undone s.slots b })).slots (cond (e i) [] (backs.undone_changes s.slots b)))
forth_one false p seats s b e h = undo_after p s.slots b h
    ∙ (λ i. after_all (cond (e i) (record s { grouping = groups.undone s.grouping b })
    (record s { slots = backs.undone s.slots b })).slots (cond (e i) [] (backs.undone_changes s.slots b)))

forth : (p : Parts) (seats : List ℕ) (s : State) (bs : List Back) → AllLead p seats s bs
    → s.slots ≡ after_all (undone_all s bs).slots (trail_of s bs)
forth p seats s [] h = refl
forth p seats s (b ∷ bs) h =
    forth_one (is_back_of_groups b) p seats s b refl h.0
    ∙ ap (λ x. after_all x (undone_changes s b)) (forth p seats (undone s b) bs h.1)
    ∙ sym (after_both (undone_all s (b ∷ bs)).slots (trail_of (undone s b) bs) (undone_changes s b))

cost_is : (p : Parts) (seats : List ℕ) (s : State) (bs : List Back) → AllLead p seats s bs
    → undo_cost p s bs ≡ watcher_counts p (undone_all s bs).slots (trail_of s bs)
cost_is p seats s [] h = refl
cost_is p seats s (b ∷ bs) h =
    let a = cost_is p seats (undone s b) bs h.1 in
    let c = watchers_both p (undone_all s (b ∷ bs)).slots (trail_of (undone s b) bs) (undone_changes s b) in
    let d = ap (λ x. watcher_counts p x (undone_changes s b)) (forth p seats (undone s b) bs h.1) in
    omega (arith, a, c, d)

pub last_cost_is : (p : Parts) (n : List ℕ) (s : State) (since : List (List Back)) → MarksLead p n s since
    → undo_cost p s (inner since) ≡ last_cost p (saved_of s since)
last_cost_is p n s [] a = refl
last_cost_is p n s (bs ∷ rest) a = cost_is p n s bs a.0

-- one record goes
pub pop_lead : (p : Parts) (n : List ℕ) (s : State) (since since2 : List (List Back)) (b : Back)
    → since ≡ (b ∷ inner since2) ∷ outer since2 → since2 ≡ inner since2 ∷ outer since2 → MarksLead p n s since
    → Leads p n s b × MarksLead p n (undone s b) since2
pop_lead p n s since since2 b e f a =
    let h : MarksLead p n s ((b ∷ inner since2) ∷ outer since2) = subst (MarksLead p n s) e a in
    (h.0.0, subst (MarksLead p n (undone s b)) (sym f) (h.0.1, h.1))

pub pop_marks : (since since2 : List (List Back)) (b : Back) → since ≡ (b ∷ inner since2) ∷ outer since2
    → since2 ≡ inner since2 ∷ outer since2 → length since2 ≡ length since
pop_marks since since2 b e f = ap length f ∙ sym (ap length e)

pub pop_records : (since since2 : List (List Back)) (b : Back) → since ≡ (b ∷ inner since2) ∷ outer since2
    → since2 ≡ inner since2 ∷ outer since2 → records since ≡ records since2 + 1
pop_records since since2 b e f =
    let a = ap records e in
    let c = ap records f in
    let d = sum_by-cons length (b ∷ inner since2) (outer since2) in
    let g = sum_by-cons length (inner since2) (outer since2) in
    omega (arith, a, c, d, g)

-- how many records and marks
pub kept_records : (s : State) (since : List (List Back)) → kept (saved_of s since) ≡ records since
kept_records s [] = refl
kept_records s (bs ∷ rest) =
    let a = sum_by-cons (λ (x : Saved). x.records)
    (record { state = undone_all s bs; trail = trail_of s bs; records = length bs })
    (saved_of (undone_all s bs) rest) in
    let b = sum_by-cons length bs rest in
    let c = kept_records (undone_all s bs) rest in
    omega (arith, a, b, c)

pub length_saved : (s : State) (since : List (List Back)) → length (saved_of s since) ≡ length since
length_saved s [] = refl
length_saved s (bs ∷ rest) = ap suc (length_saved (undone_all s bs) rest)

records_close : (since : List (List Back)) → records since ≡ records (without_mark since) + dropped since
records_close [] = refl
records_close (as_ ∷ []) = let a = sum_by-cons length as_ [] in omega (arith, a)
records_close (as_ ∷ bs ∷ rest) =
    let a = sum_by-cons length as_ (bs ∷ rest) in
    let b = sum_by-cons length bs rest in
    let c = sum_by-cons length (as_ ++ bs) rest in
    let d = length-append as_ bs in
    omega (arith, a, b, c, d)

pub spare_close : (since : List (List Back)) (m n : ℕ) → n ≡ m + dropped since
    → m + records since ≤ n + records (without_mark since)
spare_close since m n h = let a = records_close since in omega (arith, a, h)

-- no saved state, no mark
cons-nil : {A : Type 0} (x : A) (xs : List A) → x ∷ xs ≡ [] → ⊥
cons-nil x xs h = let n : length (x ∷ xs) ≡ 0 = ap length h in omega (arith, n)

pub no_saved : (s : State) (since : List (List Back)) → saved_of s since ≡ [] → since ≡ []
no_saved s [] h = refl
no_saved s (bs ∷ rest) h = absurd (cons-nil _ _ h)

pub no_mark : (s : State) (since : List (List Back)) → since ≡ [] → saved_of s since ≡ []
no_mark s since h = ap (saved_of s) h
