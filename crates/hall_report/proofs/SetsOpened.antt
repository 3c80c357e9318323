-- Tables of sets that are made entry by entry, and narrowed monitor by monitor.
use Rattle.std.proofs.Common.{ℕ, ◌+◌, ◌-◌, ◌<◌, ◌≤◌, ◌≡◌, ◌≢◌, ◌⊎◌, inl, inr, cond, Bool, true, false, ◌&&◌, Some, None}
use Rattle.std.proofs.Common.{List, [], ◌∷◌, ◌++◌, take, length, get_or, slice_get, refl, sym, ap, ◌∙◌, subst, arith}
use Rattle.std.specs.Prelude.{nat_le, ◌==◌}
use Rattle.std.specs.List.{list_all}
use Rattle.std.specs.Option.{option_map_or, option_and_then}
use Rattle.std.proofs.lemmas.Bool.{cases_lt, eq-eqb, ne_eqb}
use Rattle.std.proofs.lemmas.List.{take_all, get_or_append_left, length-append}
use Rattle.std.proofs.Math.Seq.{get_or-append_seam}
use Rattle.std.proofs.lemmas.List.Elements.{All-push, All-nil}
use Rattle.std.proofs.lemmas.List.Folds.{list_all_more}
use Rattle.std.proofs.lemmas.Option.{same_Some, slice_get_within, get_or_from_slice_get}
use Rattle.khe_base.specs.IdSet.{has_member}
use Rattle.khe_base.specs.declared.numbers.EventId.{EventId}
use Rattle.khe_instance.specs.Slots.{HasSlot}
use Rattle.khe_instance.specs.WellMade.{AreWellMade}
use Rattle.khe_instance.specs.declared.parts.EventInfo.{EventInfo}
use Rattle.khe_instance.specs.declared.parts.Parts.{Parts}
use Rattle.khe_instance.specs.declared.points.Monitor.{Monitor}
use Rattle.khe_instance.specs.declared.points.Point.{Point}
use Rattle.khe_instance.specs.declared.rules.Constraint.{Constraint}
use Rattle.khe_instance.specs.declared.rules.Rule.{Rule}
use Rattle.demand_matching.proofs.Counting.{cases_eqb}
use Rattle.hall_report.proofs.UnitLaws.{unit_once, units_below}
use Rattle.hall_report.specs.Opening.{AreNarrowedBy, AreStartEntries, AreStartsTo, AreWholeStarts, ServesFor, event_of}
use Rattle.hall_report.specs.Picks.{AreStartSets, start_entry}
use Rattle.hall_report.specs.Sets.{AreSets, set_at}
use Rattle.hall_report.specs.Strict.{is_event, is_strict, lets_start, monitor_lets_start, strict_rule}
use Rattle.hall_report.specs.Units.{units_of}

pub and_true : (a b : Bool) → b ≡ true → a ≡ a && b
and_true true b h = sym h
and_true false b h = refl

pub and_assoc : (a b c : Bool) → (a && b) && c ≡ a && (b && c)
and_assoc true b c = refl
and_assoc false b c = refl

pub all_more : {A : Type 0} (test : A → Bool) (xs : List A) (n : ℕ) (x : A) → slice_get xs n ≡ Some x
    → list_all test (take (n + 1) xs) ≡ list_all test (take n xs) && test x
all_more test xs n x at = list_all_more test xs n x (slice_get_within xs n x at)
    ∙ ap (λ y. list_all test (take n xs) && test y) (get_or_from_slice_get xs n x x at)

pub either : (b : Bool) {x : Bool} → x ≡ true → cond b x true ≡ true
either true h = h
either false h = refl

-- one whole set more
pub whole_more : (last n : ℕ) (sets : List (List Bool)) (set : List Bool) → AreWholeStarts last n sets
    → length set ≡ last → (1 ≤ n → (t : ℕ) → has_member set t ≡ nat_le (t + n) last)
    → AreWholeStarts last (n + 1) (sets ++ set ∷ [])
whole_more last n sets set are size members = record {
  amount = (let a = are.amount in let b = length-append sets (set ∷ []) in omega (arith, a, b));
  sized = All-push (λ x. length x ≡ last) sets set are.sized size;
  members = λ d t l some. elim (cases_eqb d n) [
    | inl eq ↦
        let q : d ≡ length sets = let a = are.amount in omega (arith, a, eq) in
        ap (λ k. has_member (get_or (sets ++ set ∷ []) k []) t) q
        ∙ ap (λ x. has_member x t) (get_or-append_seam sets set [] []) ∙ members (omega (arith, eq, some)) t
        ∙ ap (λ k. nat_le (t + k) last) (sym eq)
    | inr ne ↦
        let q : d < length sets = let a = are.amount in omega (arith, a, ne, l) in
        ap (λ x. has_member x t) (get_or_append_left sets (set ∷ []) [] d q)
        ∙ are.members d t (omega (arith, ne, l)) some
  ];
}

pub whole_none : (last : ℕ) → AreWholeStarts last 0 []
whole_none last = record {
  amount = refl;
  sized = All-nil (λ x. length x ≡ last);
  members =
      λ d t l some. absurd (omega (arith, l));
}

-- one entry more
pub entries_none : (events : List EventInfo) (last : ℕ) → AreStartEntries events last 0 []
entries_none events last = record {
  amount = refl;
  below = λ i l. absurd (omega (arith, l));
  serves =
      λ e i event at a b l. absurd (omega (arith, l));
}

pub entries_more : (events : List EventInfo) (last n x a : ℕ) (entries : List ℕ) (own : EventInfo)
    → AreStartEntries events last n entries → (first_meets : (e : ℕ) → HasSlot events e n → e ≡ a)
    → slice_get events a ≡ Some own → ServesFor last (n - own.first_meet + 1) x
    → AreStartEntries events last (n + 1) (entries ++ x ∷ [])
entries_more events last n x a entries own are once at serves = record {
  amount = (let k = are.amount in let b = length-append entries (x ∷ []) in omega (arith, k, b));
  below = λ i l. elim (cases_eqb i n) [
    | inl eq ↦ (let g = newest i eq in let b = serves.there in omega (arith, g, b))
    | inr ne ↦ (let g = older i (omega (arith, l, ne)) in let b = are.below i (omega (arith, l, ne)) in
        omega (arith, g, b))
  ];
  serves = λ e i event there low high l. elim (cases_eqb i n) [
    | inl eq ↦
        let same : e ≡ a = once e (event, there, (omega (arith, low, eq)), (omega (arith, high, eq))) in
        let it : own ≡ event = same_Some own event (sym at ∙ ap (slice_get events) (sym same) ∙ there) in
        let q : n - own.first_meet + 1 ≡ i - event.first_meet + 1 =
        ap (λ k. k - own.first_meet + 1) (sym eq) ∙ ap (λ (z : EventInfo). i - z.first_meet + 1) it in
        subst (ServesFor last (i - event.first_meet + 1)) (sym (newest i eq)) (subst (λ d. ServesFor last d x) q serves)
    | inr ne ↦ subst (ServesFor last (i - event.first_meet + 1)) (sym (older i (omega (arith, l, ne))))
        (are.serves e i event there low high (omega (arith, l, ne)))
  ];
}
  where
    newest : (i : ℕ) → i ≡ n → get_or (entries ++ x ∷ []) i 0 ≡ x
    newest i eq = let q : i ≡ length entries = let k = are.amount in omega (arith, k, eq) in
        ap (λ k. get_or (entries ++ x ∷ []) k 0) q ∙ get_or-append_seam entries x [] 0

    older : (i : ℕ) → i < n → get_or (entries ++ x ∷ []) i 0 ≡ get_or entries i 0
    older i l = get_or_append_left entries (x ∷ []) 0 i (let k = are.amount in omega (arith, k, l))

-- the entry of a duration, where its event is known
entry_is : (events : List EventInfo) (e d : ℕ) (event : EventInfo) → slice_get events e ≡ Some event
    → start_entry events e d ≡ event.first_meet + d - 1
entry_is events e d event at = ap (λ o. option_map_or (λ (z : EventInfo). z.first_meet) o 0 + d - 1) at

-- before any monitor
starts_whole : (p : Parts) (sets : List (List Bool)) (entries : List ℕ)
    → AreWholeStarts (length p.times) (length p.times + 2) sets
    → AreStartEntries p.events (length p.times) (units_of p.events) entries
    → ((e i : ℕ) → HasSlot p.events e i → i < units_of p.events) → AreStartsTo p 0 sets entries
starts_whole p sets entries whole are below = record {
  are = record {
    sized = whole.sized;
    given = λ i l. (let a = are.amount in let b = are.below i (omega (arith, l, a)) in let c = whole.amount in
        omega (arith, b, c));
    first = (let c = whole.amount in omega (arith, c));
    apart = λ i j l g high same. absurd (let a = are.amount in let b = are.below i (omega (arith, l, a)) in
        omega (arith, b, high));
  };
  amount = are.amount;
  members = λ e d t event at some few.
      let i = event.first_meet + d - 1 in
      let low : event.first_meet ≤ i = omega (arith, some) in
      let high : i < event.first_meet + event.duration = omega (arith, some, few) in
      let s = are.serves e i event at low high (below e i (event, at, low, high)) in
      let q : i - event.first_meet + 1 ≡ d = omega (arith, some) in
      ap (λ k. has_member (set_at sets entries k) t) (entry_is p.events e d event at)
      ∙ whole.members (get_or entries i 0) t s.there s.some
      ∙ s.same t
      ∙ ap (λ k. nat_le (t + k) (length p.times)) q
      ∙ and_true (nat_le (t + d) (length p.times)) true refl;
}

-- one monitor more: those that are not strict or of another rule or point change nothing
pub strict_is : (p : Parts) (m : Monitor) (c : Constraint) (b : Bool) → slice_get p.constraints m.constraint ≡ Some c
    → is_strict c ≡ b → strict_rule p m ≡ cond b (Some c.rule) None
strict_is p m c b at h = ap (option_and_then (λ (z : Constraint). cond (is_strict z) (Some z.rule) None)) at
    ∙ ap (λ k. cond k (Some c.rule) None) h

point_none : (m : Point) (e : ℕ) → event_of m ≡ None → is_event m e ≡ false
point_none m e h = grind arith

pub starts_same : (p : Parts) (n : ℕ) (sets : List (List Bool)) (entries : List ℕ) (m : Monitor)
    → AreStartsTo p n sets entries → slice_get p.monitors n ≡ Some m
    → ((e d t : ℕ) → monitor_lets_start p e d t m ≡ true) → AreStartsTo p (n + 1) sets entries
starts_same p n sets entries m are at all = record {
  are = are.are;
  amount = are.amount;
  members = λ e d t event there some few.
      are.members e d t event there some few
      ∙ ap (λ b. nat_le (t + d) (length p.times) && b)
      (and_true (list_all (monitor_lets_start p e d t) (take n p.monitors)) (monitor_lets_start p e d t m)
      (all e d t) ∙ sym (all_more (monitor_lets_start p e d t) p.monitors n m at));
}

pub lets_loose : (p : Parts) (m : Monitor) (c : Constraint) → slice_get p.constraints m.constraint ≡ Some c
    → is_strict c ≡ false → (e d t : ℕ) → monitor_lets_start p e d t m ≡ true
lets_loose p m c at h e d t = either (is_event m.point e)
    (ap (λ o. option_map_or (λ rule. lets_start rule d t) o true) (strict_is p m c false at h))

pub lets_rule : (p : Parts) (m : Monitor) (c : Constraint) → slice_get p.constraints m.constraint ≡ Some c
    → is_strict c ≡ true → ((d t : ℕ) → lets_start c.rule d t ≡ true) → (e d t : ℕ)
    → monitor_lets_start p e d t m ≡ true
lets_rule p m c at h loose e d t = either (is_event m.point e)
    (ap (λ o. option_map_or (λ rule. lets_start rule d t) o true) (strict_is p m c true at h) ∙ loose d t)

pub lets_point : (p : Parts) (m : Monitor) → event_of m.point ≡ None → (e d t : ℕ) → monitor_lets_start p e d t m ≡ true
lets_point p m h e d t = ap (λ b. cond b (option_map_or (λ rule. lets_start rule d t) (strict_rule p m) true) true)
    (point_none m.point e h)

point_some : (m : Point) (e : ℕ) (x : EventId) → event_of m ≡ Some x → is_event m e ≡ (x.0 == e)
point_some m e x h = grind arith

-- its event's sets are narrowed
pub starts_narrowed : (p : Parts) (n : ℕ) (olds sets : List (List Bool)) (old entries : List ℕ) (m : Monitor)
    (c : Constraint) (x : EventId) (own : EventInfo)
    → AreWellMade p → AreStartsTo p n olds old → slice_get p.monitors n ≡ Some m
    → slice_get p.constraints m.constraint ≡ Some c → is_strict c ≡ true → event_of m.point ≡ Some x
    → slice_get p.events x.0 ≡ Some own
    → AreSets (length p.times + 2) (length p.times) sets entries
    → AreNarrowedBy c.rule own.first_meet own.duration olds old sets entries → AreStartsTo p (n + 1) sets entries
starts_narrowed p n olds sets old entries m c x own made are at has strict point there new by = record {
  are = new;
  amount = by.amount ∙ are.amount;
  members = λ e d t event found some few.
      elim (cases_eqb x.0 e) [
        | inl eq ↦
            let it : own ≡ event = same_Some own event (sym there ∙ ap (slice_get p.events) eq ∙ found) in
            let q : d ≤ own.duration = (let z = ap (λ (z : EventInfo). z.duration) it in omega (arith, z, few)) in
            ap (λ k. has_member (set_at sets entries k) t)
            (entry_is p.events e d event found ∙ ap (λ (z : EventInfo). z.first_meet + d - 1) (sym it))
            ∙ by.members d t some q
            ∙ ap (λ b. b && lets_start c.rule d t) (ap (λ k. has_member (set_at olds old k) t)
            (ap (λ (z : EventInfo). z.first_meet + d - 1) it ∙ sym (entry_is p.events e d event found))
            ∙ are.members e d t event found some few)
            ∙ and_assoc (nat_le (t + d) (length p.times)) (list_all (monitor_lets_start p e d t) (take n p.monitors))
            (lets_start c.rule d t)
            ∙ ap (λ b. nat_le (t + d) (length p.times) && b)
            (ap (λ b. list_all (monitor_lets_start p e d t) (take n p.monitors) && b)
            (sym (own_lets e d t (eq-eqb x.0 e eq))) ∙ sym
            (all_more (monitor_lets_start p e d t) p.monitors n m at))
        | inr ne ↦
            let i : ℕ = event.first_meet + d - 1 in
            let has_i : HasSlot p.events e i = (event, found, omega (arith, some), omega (arith, some, few)) in
            let room : i < length old = (let a = are.amount in let b =
            units_below p.events e i made.first_meets has_i in omega (arith, a, b)) in
            let away : (i < own.first_meet) ⊎ (own.first_meet + own.duration ≤ i) = apart e i has_i ne in
            ap (λ k. has_member (set_at sets entries k) t) (entry_is p.events e d event found)
            ∙ ap (λ z. has_member z t) (by.others i room away)
            ∙ ap (λ k. has_member (set_at olds old k) t) (sym (entry_is p.events e d event found))
            ∙ are.members e d t event found some few
            ∙ ap (λ b. nat_le (t + d) (length p.times) && b)
            (and_true (list_all (monitor_lets_start p e d t) (take n p.monitors)) (monitor_lets_start p e d t m)
            (other_lets e d t (ne_eqb x.0 e ne)) ∙ sym (all_more (monitor_lets_start p e d t) p.monitors n m at))
      ];
}
  where
    own_lets : (e d t : ℕ) → (x.0 == e) ≡ true → monitor_lets_start p e d t m ≡ lets_start c.rule d t
    own_lets e d t h =
        ap (λ b. cond b (option_map_or (λ rule. lets_start rule d t) (strict_rule p m) true) true)
        (point_some m.point e x point ∙ h)
        ∙ ap (λ o. option_map_or (λ rule. lets_start rule d t) o true) (strict_is p m c true has strict)

    other_lets : (e d t : ℕ) → (x.0 == e) ≡ false → monitor_lets_start p e d t m ≡ true
    other_lets e d t h = ap (λ b. cond b (option_map_or (λ rule. lets_start rule d t) (strict_rule p m) true) true)
        (point_some m.point e x point ∙ h)

    apart : (e i : ℕ) → HasSlot p.events e i → x.0 ≢ e → (i < own.first_meet) ⊎ (own.first_meet + own.duration ≤ i)
    apart e i has_i ne =
        elim (cases_lt i own.first_meet) [
          | inl l ↦ inl l
          | inr low ↦ elim (cases_lt i (own.first_meet + own.duration)) [
            | inl high ↦ absurd (ne (unit_once p.events x.0 e i made.first_meets (own, there, low, high) has_i))
            | inr l ↦ inr l
          ]
        ]

-- after all monitors
pub starts_done : (p : Parts) (sets : List (List Bool)) (entries : List ℕ) → AreWellMade p
    → AreStartsTo p (length p.monitors) sets entries → AreStartSets p sets entries
starts_done p sets entries made are = record {
  amount = λ e d event at some few.
      let q = entry_is p.events e d event at in
      let b = units_below p.events e (event.first_meet + d - 1) made.first_meets
      (event, at, omega (arith, some), omega (arith, some, few)) in
      let a = are.amount in
      omega (arith, a, b, q);
  given = are.are.given;
  members = λ e d t event at some few. are.members e d t event at some few
      ∙ ap (λ ms. nat_le (t + d) (length p.times) && list_all (monitor_lets_start p e d t) ms)
      (take_all (length p.monitors) p.monitors (omega arith));
}

-- one duration of an event more
pub narrowed_none : (rule : Rule) (first : ℕ) (sets : List (List Bool)) (entries : List ℕ)
    → AreNarrowedBy rule first 0 sets entries sets entries
narrowed_none rule first sets entries = record
    { amount = refl; members = λ d t some few. absurd (omega (arith, some, few)); others = λ i l away. refl }

pub narrowed_more : (rule : Rule) (first n : ℕ) (olds mids sets : List (List Bool)) (old mid entries : List ℕ)
    → AreNarrowedBy rule first n olds old mids mid → first + n < length old → length entries ≡ length mid
    → ((t : ℕ) → has_member (set_at sets entries (first + n)) t
    ≡ has_member (set_at mids mid (first + n)) t && lets_start rule (n + 1) t)
    → ((i : ℕ) → i < length mid → i ≢ first + n → set_at sets entries i ≡ set_at mids mid i)
    → AreNarrowedBy rule first (n + 1) olds old sets entries
narrowed_more rule first n olds mids sets old mid entries is room same own rest = record {
  amount = same ∙ is.amount;
  members = λ d t some few. elim (cases_eqb d (n + 1)) [
    | inl eq ↦
        let q : first + d - 1 ≡ first + n = omega (arith, eq) in
        ap (λ k. has_member (set_at sets entries k) t) q
        ∙ own t
        ∙ ap (λ z. has_member z t && lets_start rule (n + 1) t) (is.others (first + n) room (inr (omega arith)))
        ∙ ap (λ k. has_member (set_at olds old k) t && lets_start rule (n + 1) t) (sym q)
        ∙ ap (λ k. has_member (set_at olds old (first + d - 1)) t && lets_start rule k t) (sym eq)
    | inr ne ↦
        let a = is.amount in
        ap (λ z. has_member z t) (rest (first + d - 1) (omega (arith, a, room, few, ne, some))
        (λ q. ne (omega (arith, q, some)))) ∙ is.members d t some (omega (arith, few, ne))
  ];
  others = λ i l away. rest i (let a = is.amount in omega (arith, a, l)) (far i away) ∙ is.others i l (near i away);
}
  where
    far : (i : ℕ) → (i < first) ⊎ (first + (n + 1) ≤ i) → i ≢ first + n
    far i away eq = elim away [ inl a ↦ omega (arith, a, eq) | inr b ↦ omega (arith, b, eq) ]

    near : (i : ℕ) → (i < first) ⊎ (first + (n + 1) ≤ i) → (i < first) ⊎ (first + n ≤ i)
    near i away = elim away [ inl a ↦ inl a | inr b ↦ inr (omega (arith, b)) ]

pub narrowed_same : (rule : Rule) (first n : ℕ) (olds mids : List (List Bool)) (old mid : List ℕ)
    → AreNarrowedBy rule first n olds old mids mid → first + n < length old
    → ((t : ℕ) → lets_start rule (n + 1) t ≡ true) → AreNarrowedBy rule first (n + 1) olds old mids mid
narrowed_same rule first n olds mids old mid is room loose =
    narrowed_more rule first n olds mids mids old mid mid is room refl
    (λ t. and_true (has_member (set_at mids mid (first + n)) t) (lets_start rule (n + 1) t) (loose t))
    (λ i l ne. refl)

pub starts_first : (p : Parts) (times : ℕ) (sets : List (List Bool)) (entries : List ℕ) → AreWellMade p
    → times ≡ length p.times → AreWholeStarts times (times + 2) sets
    → AreStartEntries p.events (length p.times) (units_of p.events) entries → AreStartsTo p 0 sets entries
starts_first p times sets entries made e whole are =
    starts_whole p sets entries (subst (λ n. AreWholeStarts n (n + 2) sets) e whole) are
    (λ a i h. units_below p.events a i made.first_meets h)
