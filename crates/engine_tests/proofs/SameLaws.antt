-- Slots of one instance that list the same meets and tasks are the same.
use Rattle.std.proofs.Common.{ℕ, ◌≡◌, ◌+◌, ◌≤◌, Option, Some, None, List, [], ◌∷◌, ◌++◌, length, map, refl, sym, ap}
use Rattle.std.proofs.Common.{◌∙◌, arith}
use Rattle.std.specs.Prelude.{All, replicate}
use Rattle.std.proofs.lemmas.List.{length-replicate}
use Rattle.std.proofs.lemmas.List.Elements.{All-head, All-tail, All-weaker}
use Rattle.khe_base.specs.declared.numbers.EventId.{EventId}
use Rattle.khe_base.specs.declared.numbers.MeetId.{MeetId}
use Rattle.khe_base.specs.declared.numbers.ResourceId.{ResourceId}
use Rattle.khe_instance.specs.WellMade.{AreFirstMeets}
use Rattle.khe_instance.specs.declared.parts.Parts.{Parts}
use Rattle.khe_instance.specs.declared.states.Meet.{Meet}
use Rattle.khe_instance.specs.declared.states.Task.{Task}
use Rattle.khe_told.proofs.DutyLaws.{AreFrom}
use Rattle.khe_told.proofs.FrameLaws.{told_from}
use Rattle.khe_told.specs.Fits.{AreTold, IsSlot}
use Rattle.khe_told.specs.Lists.{meets_in, tasks_in, tasks_with}
use Rattle.khe_told.specs.Slots.{IsBareIfFree, emptied}
use Rattle.khe_told.specs.declared.slots.Slot.{Slot}
use Rattle.khe_told.specs.declared.slots.Span.{Span}

same_first : {A : Type 0} (a b : A) (xs ys : List A) → a ∷ xs ≡ b ∷ ys → a ≡ b
same_first a b xs ys e = cc

same_rest : {A : Type 0} (a b : A) (xs ys : List A) → a ∷ xs ≡ b ∷ ys → xs ≡ ys
same_rest a b xs ys e = cc

no_first : {A : Type 0} (a : A) (xs : List A) → [] ≡ a ∷ xs → ⊥
no_first a xs e = cc

-- n tasks of one meet, before other tasks
same_given : (m : Meet) (k : ℕ) (gs hs : List (Option ResourceId)) (xs ys : List Task) → length gs ≡ length hs
    → tasks_with m k gs ++ xs ≡ tasks_with m k hs ++ ys → (gs ≡ hs) × (xs ≡ ys)
same_given m k [] [] xs ys l e = (refl, e)
same_given m k [] (b ∷ hs) xs ys l e = absurd (omega (arith, l))
same_given m k (a ∷ gs) [] xs ys l e = absurd (omega (arith, l))
same_given m k (a ∷ gs) (b ∷ hs) xs ys l e =
    let first = same_first _ _ _ _ e in
    let rest = same_given m (k + 1) gs hs xs ys (omega (arith, l)) (same_rest _ _ _ _ e) in
    let value : a ≡ b = ap (λ (t : Task). t.resource) first in
    (ap (λ z. z ∷ gs) value ∙ ap (λ zs. b ∷ zs) rest.0, rest.1)

-- the first meet of slots that are numbered from a number on
first_step : (low : ℕ) (x : Slot) (xs : List Slot) (m : Meet) (ms : List Meet) (o : Option Span) → low ≤ x.meet.0
    → (meets_in xs ≡ m ∷ ms → x.meet.0 + 1 ≤ m.meet.0)
    → meets_in (record x { span = o } ∷ xs) ≡ m ∷ ms → low ≤ m.meet.0
first_step low x xs m ms None l rest e = let y = rest e in omega (arith, l, y)
first_step low x xs m ms (Some d) l rest e =
    let same : x.meet.0 ≡ m.meet.0 = ap (λ (n : Meet). n.meet.0)
    (same_first (record { meet = x.meet; event = x.event; duration = d.duration; start = d.start }) m (meets_in xs)
    ms e) in
    omega (arith, l, same)

first_from : (low : ℕ) (s : List Slot) (m : Meet) (ms : List Meet) → AreFrom low s → meets_in s ≡ m ∷ ms
    → low ≤ m.meet.0
first_from low [] m ms f e = absurd (no_first m ms e)
first_from low (x ∷ xs) m ms f e = first_step low x xs m ms x.span f.0 (λ h. first_from (x.meet.0 + 1) xs m ms f.1 h) e

same_slot : (m n : MeetId) (e f : EventId) (o q : Option Span) (gs hs : List (Option ResourceId)) → m ≡ n → e ≡ f
    → o ≡ q → gs ≡ hs
    → ◌≡◌ {A = Slot} (record { meet = m; event = e; span = o; given = gs })
    (record { meet = n; event = f; span = q; given = hs })
same_slot m n e f o q gs hs a b c d = cc

-- what two slots with the same number, event and places leave, where the rest is decided
step : (x y : Slot) (xs ys : List Slot) (o q : Option Span) → x.meet ≡ y.meet → x.event ≡ y.event
    → length x.given ≡ length y.given
    → IsBareIfFree (record x { span = o }) → IsBareIfFree (record y { span = q }) → AreFrom (x.meet.0 + 1) xs
    → AreFrom (y.meet.0 + 1) ys
    → (meets_in xs ≡ meets_in ys → tasks_in xs ≡ tasks_in ys → xs ≡ ys)
    → meets_in (record x { span = o } ∷ xs) ≡ meets_in (record y { span = q } ∷ ys)
    → tasks_in (record x { span = o } ∷ xs) ≡ tasks_in (record y { span = q } ∷ ys)
    → record x { span = o } ∷ xs ≡ record y { span = q } ∷ ys
step x y xs ys None None a b l bare empty f g rest ms ts =
    let given : x.given ≡ y.given = bare refl ∙ ap (λ n. replicate n None) l ∙ sym (empty refl) in
    ap (λ z. z ∷ xs) (same_slot x.meet y.meet x.event y.event None None x.given y.given a b refl given)
    ∙ ap (λ zs. record y { span = None } ∷ zs) (rest ms ts)
step x y xs ys None (Some d) a b l bare empty f g rest ms ts =
    let above = first_from (x.meet.0 + 1) xs (record
    { meet = y.meet; event = y.event; duration = d.duration; start = d.start }) (meets_in ys) f ms in
    let same : x.meet.0 ≡ y.meet.0 = ap (λ (z : MeetId). z.0) a in
    absurd (omega (arith, above, same))
step x y xs ys (Some c) None a b l bare empty f g rest ms ts =
    let above = first_from (y.meet.0 + 1) ys (record
    { meet = x.meet; event = x.event; duration = c.duration; start = c.start }) (meets_in xs) g (sym ms) in
    let same : x.meet.0 ≡ y.meet.0 = ap (λ (z : MeetId). z.0) a in
    absurd (omega (arith, above, same))
step x y xs ys (Some c) (Some d) a b l bare empty f g rest ms ts =
    let m : Meet = record { meet = x.meet; event = x.event; duration = c.duration; start = c.start } in
    let n : Meet = record { meet = y.meet; event = y.event; duration = d.duration; start = d.start } in
    let same : m ≡ n = same_first m n (meets_in xs) (meets_in ys) ms in
    let span : ◌≡◌ {A = Option Span} (Some c) (Some d) =
    ap (λ (z : Meet). Some (record { duration = z.duration; start = z.start })) same in
    let tasks : tasks_with m 0 x.given ++ tasks_in xs ≡ tasks_with m 0 y.given ++ tasks_in ys =
    ts ∙ ap (λ z. tasks_with z 0 y.given ++ tasks_in ys) (sym same) in
    let given = same_given m 0 x.given y.given (tasks_in xs) (tasks_in ys) l tasks in
    ap (λ z. z ∷ xs) (same_slot x.meet y.meet x.event y.event (Some c) (Some d) x.given y.given a b span given.0)
    ∙ ap (λ zs. record y { span = Some d } ∷ zs) (rest (same_rest m n (meets_in xs) (meets_in ys) ms) given.1)

same_listed : (low high : ℕ) (s t : List Slot) → AreFrom low s → AreFrom high t → All IsBareIfFree s
    → All IsBareIfFree t → map emptied s ≡ map emptied t
    → meets_in s ≡ meets_in t → tasks_in s ≡ tasks_in t → s ≡ t
same_listed low high [] [] f g a b e ms ts = refl
same_listed low high [] (y ∷ ys) f g a b e ms ts = absurd (no_first _ _ e)
same_listed low high (x ∷ xs) [] f g a b e ms ts = absurd (no_first _ _ (sym e))
same_listed low high (x ∷ xs) (y ∷ ys) f g a b e ms ts =
    let same = same_first (emptied x) (emptied y) (map emptied xs) (map emptied ys) e in
    let places : length (replicate {A = Option ResourceId} (length x.given) None)
    ≡ length (replicate {A = Option ResourceId} (length y.given) None) = ap (λ (z : Slot). length z.given) same in
    step x y xs ys x.span y.span (ap (λ (z : Slot). z.meet) same) (ap (λ (z : Slot). z.event) same)
    (sym (length-replicate (length x.given) None) ∙ places ∙ length-replicate (length y.given) None)
    (All-head IsBareIfFree x xs a) (All-head IsBareIfFree y ys b) f.1 g.1
    (λ m t. same_listed (x.meet.0 + 1) (y.meet.0 + 1) xs ys f.1 g.1 (All-tail IsBareIfFree x xs a)
    (All-tail IsBareIfFree y ys b) (same_rest _ _ _ _ e) m t)
    ms ts

pub same_told : (p : Parts) (s t : List Slot) → AreFirstMeets 0 p.events → AreTold p s → AreTold p t
    → meets_in s ≡ meets_in t → tasks_in s ≡ tasks_in t → s ≡ t
same_told p s t first a b ms ts =
    same_listed 0 0 s t (told_from p s first a.whose) (told_from p t first b.whose)
    (All-weaker (IsSlot p) IsBareIfFree (λ x z. z.empty) s a.slots)
    (All-weaker (IsSlot p) IsBareIfFree (λ x z. z.empty) t b.slots)
    (a.whose ∙ sym b.whose) ms ts
