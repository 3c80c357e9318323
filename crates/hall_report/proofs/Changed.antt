-- What demands keep after a change.
use Rattle.std.proofs.Common.{ℕ, ◌+◌, ◌<◌, ◌≤◌, ◌≡◌, ◌≢◌, ◌⊎◌, inl, inr, true, Option, None, List, length, map, sym, ap}
use Rattle.std.proofs.Common.{◌∙◌, subst, arith}
use Rattle.std.specs.Prelude.{is_some}
use Rattle.std.specs.Option.{option_map, option_map_or}
use Rattle.std.proofs.lemmas.Bool.{false≢true, cases_lt}
use Rattle.demand_matching.proofs.Counting.{cases_eqb}
use Rattle.demand_matching.specs.Domains.{Domains, domain_of}
use Rattle.demand_matching.specs.declared.domains.Domain.{Domain}
use Rattle.khe_instance.specs.WellMade.{AreFirstMeets}
use Rattle.khe_instance.specs.declared.parts.Parts.{Parts}
use Rattle.khe_told.specs.Slots.{emptied, length_of, no_meets, slot_at}
use Rattle.khe_told.specs.declared.slots.Slot.{Slot}
use Rattle.khe_told.specs.declared.slots.Span.{Span}
use Rattle.hall_report.proofs.Numbers.{number_apart}
use Rattle.hall_report.specs.Kept.{AreOpen, AreTasks, IsTask, number_of}
use Rattle.hall_report.specs.Picks.{AreResourceSets, AreStartSets, domain_in, pick_resources, pick_starts}
use Rattle.hall_report.specs.Renewing.{IsRenewed}
use Rattle.hall_report.specs.Units.{AreFirsts, AreUnits, IsOffset, tasks_of}
use Rattle.hall_report.specs.declared.renewing.Picks.{Picks}
use Rattle.hall_report.specs.declared.units.Units.{Units}

-- one slot in place of another, in a list of slots
pub record IsChanged (s t : List Slot) (m : ℕ) : Type 0 where
  pub there : m < length s
  pub same_length : length t ≡ length s
  pub others : (n : ℕ) → n ≢ m → slot_at t n ≡ slot_at s n
  pub places : length (slot_at t m).given ≡ length (slot_at s m).given
  pub event : (slot_at t m).event ≡ (slot_at s m).event

-- the numbers of the other meets stay
abbrev pub KeepsNumbers : List Slot → Units → Units → ℕ → Type 0
KeepsNumbers s u v m = (n k o : ℕ) → n ≢ m → IsOffset s n o → number_of v n k o ≡ number_of u n k o

other_task : (s t : List Slot) (m n k o : ℕ) → IsChanged s t m → n ≢ m → IsTask t n k o → IsTask s n k o
other_task s t m n k o ch ne is =
    let e = ch.others n ne in
    let a = ap (λ (x : Slot). length x.given) e in
    let b = ap length_of e in
    let l = is.0 in
    let r = is.1 in
    (omega (arith, a, l), omega (arith, b, r))

task_still : (s t : List Slot) (m n k o : ℕ) → IsChanged s t m → n ≢ m → IsTask s n k o → IsTask t n k o
task_still s t m n k o ch ne is =
    let e = ch.others n ne in
    let a = ap (λ (x : Slot). length x.given) e in
    let b = ap length_of e in
    let l = is.0 in
    let r = is.1 in
    (omega (arith, a, l), omega (arith, b, r))

none_there : (o : Option Domain) → o ≡ None → is_some o ≡ true → ⊥
none_there o e h = false≢true (sym (ap is_some e) ∙ h)

module _ (p : Parts) (s t : List Slot) (m : ℕ) (picks : Picks) (u : Units) (w w' : Domains) (from end count : ℕ)
    (first : AreFirstMeets 0 p.events) (ch : IsChanged s t m) (are : AreTasks p s u picks w)
  where
    domain_at : ℕ → ℕ → ℕ → Option Domain
    domain_at n k o = domain_in p.events picks.starts.items picks.resources.items (slot_at t n) k o

    other_domain : (n k o : ℕ) → n ≢ m → domain_in p.events picks.starts.items picks.resources.items (slot_at s n) k o
        ≡ domain_in p.events picks.starts.items picks.resources.items (slot_at t n) k o
    other_domain n k o ne = ap (λ x. domain_in p.events picks.starts.items picks.resources.items x k o)
        (sym (ch.others n ne))

    -- a meet comes: its demands have the numbers of its units
    pub came : (v : Units) (whose : map emptied t ≡ no_meets p)
        (units : AreUnits p.events t v.next.items v.held.items v.free.items) (firsts : AreFirsts p.events v.tasks.items)
        → KeepsNumbers s u v m → length_of (slot_at s m) ≡ 0 → from ≡ 0 → end ≡ length (slot_at t m).given
        → count ≡ length_of (slot_at t m)
        → IsRenewed w w' (number_of v m) (domain_in p.events picks.starts.items picks.resources.items (slot_at t m))
        from end count → AreTasks p t v picks w'
    came v whose units firsts keeps none start all long is = record {
      domains = λ n k o task. elim (cases_eqb n m) [
        | inl eq ↦
            let own : IsTask t m k o = subst (λ j. IsTask t j k o) eq task in
            ap (λ j. domain_of w' (number_of v j k o)) eq
            ∙ is.renewed k o (omega (arith, start)) (let a = own.0 in omega (arith, a, all))
            (let a = own.1 in omega (arith, a, long))
            ∙ ap (λ j. domain_in p.events picks.starts.items picks.resources.items (slot_at t j) k o) (sym eq)
        | inr ne ↦
            let old = other_task s t m n k o ch ne task in
            elim (is.touched (number_of v n k o)) [
              | inl same ↦ same ∙ ap (domain_of w) (keeps n k o ne old.1) ∙ are.domains n k o old
                  ∙ other_domain n k o ne
              | inr x ↦
                  absurd (ne (sym (number_apart p t v first whose units firsts m x.place x.offset n k o
                  ((let a = x.before in omega (arith, a, all)), (let a = x.early in omega (arith, a, long))) task
                  x.«is»).0))
            ]
      ];
      present = λ j low h. elim (is.touched j) [
        | inl same ↦
            let x = are.present j low (ap is_some (sym same) ∙ h) in
            let ne : x.meet ≢ m = λ eq. let a = ap (λ i. length_of (slot_at s i)) eq in let b = x.task.1 in
            absurd (omega (arith, a, b, none)) in
            record {
              meet = x.meet;
              place = x.place;
              offset = x.offset;
              task =
                  task_still s t m x.meet x.place x.offset ch ne x.task;
              number =
                  keeps x.meet x.place x.offset ne x.task.1 ∙ x.number;
            }
        | inr x ↦
            record {
              meet = m;
              place = x.place;
              offset = x.offset;
              task =
                  ((let a = x.before in omega (arith, a, all)), (let a = x.early in omega (arith, a, long)));
              number =
                  x.«is»;
            }
      ];
    }

    -- a meet goes: its demands have no domain
    pub went : (v : Units) (whose : map emptied s ≡ no_meets p)
        (units : AreUnits p.events s u.next.items u.held.items u.free.items) (firsts : AreFirsts p.events u.tasks.items)
        → KeepsNumbers t u v m → (slot_at t m).span ≡ None → from ≡ 0 → end ≡ length (slot_at s m).given
        → count ≡ length_of (slot_at s m)
        → IsRenewed w w' (number_of u m) (domain_in p.events picks.starts.items picks.resources.items (slot_at t m))
        from end count → AreTasks p t v picks w'
    went v whose units firsts keeps none start all long is = record {
      domains = λ n k o task. elim (cases_eqb n m) [
        | inl eq ↦
            absurd (let a = ap (λ i. length_of (slot_at t i)) eq in let b =
            ap (λ q. option_map_or (λ (z : Span). z.duration) q 0) none in let d = task.1 in omega (arith, a, b, d))
        | inr ne ↦
            let old = other_task s t m n k o ch ne task in
            elim (is.touched (number_of u n k o)) [
              | inl same ↦ ap (domain_of w') (keeps n k o ne task.1) ∙ same ∙ are.domains n k o old
                  ∙ other_domain n k o ne
              | inr x ↦
                  absurd (ne (sym (number_apart p s u first whose units firsts m x.place x.offset n k o
                  ((let a = x.before in omega (arith, a, all)), (let a = x.early in omega (arith, a, long))) old
                  x.«is»).0))
            ]
      ];
      present = λ j low h.
          let gone : (k o : ℕ) → k < end → o < count → number_of u m k o ≡ j → ⊥ = λ k o a b e.
          none_there (domain_of w' j)
          (ap (domain_of w') (sym e) ∙ is.renewed k o (omega (arith, start)) a b
          ∙ ap (option_map (λ (y : Span). record {
            times =
                pick_starts p.events picks.starts.items (slot_at t m).event.0 y;
            shift = o;
            resources =
                pick_resources p.events picks.resources.items (slot_at t m) k;
          })) none)
          h in
          elim (is.touched j) [
            | inl same ↦
                let x = are.present j low (ap is_some (sym same) ∙ h) in
                let ne : x.meet ≢ m = λ eq.
                let own : IsTask s m x.place x.offset = subst (λ i. IsTask s i x.place x.offset) eq x.task in
                gone x.place x.offset (let a = own.0 in omega (arith, a, all)) (let a = own.1 in omega (arith, a, long))
                (ap (λ i. number_of u i x.place x.offset) (sym eq) ∙ x.number) in
                let now = task_still s t m x.meet x.place x.offset ch ne x.task in
                record {
                  meet = x.meet;
                  place = x.place;
                  offset = x.offset;
                  task = now;
                  number =
                      keeps x.meet x.place x.offset ne now.1 ∙ x.number;
                }
            | inr x ↦ absurd (gone x.place x.offset x.before x.early x.«is»)
          ];
    }

    -- a meet stays, and its domains at some places change
    pub stayed : (whose : map emptied s ≡ no_meets p)
        (units : AreUnits p.events s u.next.items u.held.items u.free.items) (firsts : AreFirsts p.events u.tasks.items)
        → length_of (slot_at t m) ≡ length_of (slot_at s m) → end ≤ length (slot_at s m).given
        → count ≡ length_of (slot_at s m)
        → ((k o : ℕ) → k < length (slot_at s m).given → (k < from) ⊎ (end ≤ k)
        → domain_in p.events picks.starts.items picks.resources.items (slot_at s m) k o
        ≡ domain_in p.events picks.starts.items picks.resources.items (slot_at t m) k o)
        → IsRenewed w w' (number_of u m) (domain_in p.events picks.starts.items picks.resources.items (slot_at t m))
        from end count → AreTasks p t u picks w'
    stayed whose units firsts short within long outside is = record {
      domains = λ n k o task. elim (cases_eqb n m) [
        | inl eq ↦
            let own : IsTask t m k o = subst (λ j. IsTask t j k o) eq task in
            let old : IsTask s m k o = (
              (let a = own.0 in let b = ch.places in omega (arith, a, b)),
              (let a = own.1 in omega (arith, a, short)),
            ) in
            let far : (k < from) ⊎ (end ≤ k) → domain_of w' (number_of u m k o)
            ≡ domain_in p.events picks.starts.items picks.resources.items (slot_at t m) k o = λ out.
            elim (is.touched (number_of u m k o)) [
              | inl same ↦ same ∙ are.domains m k o old ∙ outside k o old.0 out
              | inr x ↦
                  absurd (let e = (number_apart p s u first whose units firsts m x.place x.offset m k o
                  ((let a = x.before in omega (arith, a, within)), (let a = x.early in omega (arith, a, long))) old
                  x.«is»).1 in
                  let a = x.after in let b = x.before in
                  elim out [ inl q ↦ omega (arith, e, a, b, q) | inr q ↦ omega (arith, e, a, b, q) ])
            ] in
            ap (λ j. domain_of w' (number_of u j k o)) eq
            ∙ elim (cases_lt k from) [
              | inl low ↦ far (inl low)
              | inr up ↦ elim (cases_lt k end) [
                | inl in_all ↦ is.renewed k o up in_all (let a = own.1 in omega (arith, a, short, long))
                | inr high ↦ far (inr high)
              ]
            ]
            ∙ ap (λ j. domain_in p.events picks.starts.items picks.resources.items (slot_at t j) k o) (sym eq)
        | inr ne ↦
            let old = other_task s t m n k o ch ne task in
            elim (is.touched (number_of u n k o)) [
              | inl same ↦ same ∙ are.domains n k o old ∙ other_domain n k o ne
              | inr x ↦
                  absurd (ne (sym (number_apart p s u first whose units firsts m x.place x.offset n k o
                  ((let a = x.before in omega (arith, a, within)), (let a = x.early in omega (arith, a, long))) old
                  x.«is»).0))
            ]
      ];
      present = λ j low h.
          let now : (n k o : ℕ) → IsTask s n k o → IsTask t n k o = λ n k o old. elim (cases_eqb n m) [
            | inl eq ↦
                let own : IsTask s m k o = subst (λ i. IsTask s i k o) eq old in
                subst (λ i. IsTask t i k o) (sym eq) (
                  (let a = own.0 in let b = ch.places in omega (arith, a, b)),
                  (let a = own.1 in omega (arith, a, short)),
                )
            | inr ne ↦ task_still s t m n k o ch ne old
          ] in
          elim (is.touched j) [
            | inl same ↦
                let x = are.present j low (ap is_some (sym same) ∙ h) in
                record {
                  meet = x.meet;
                  place = x.place;
                  offset = x.offset;
                  task = now x.meet x.place x.offset x.task;
                  number = x.number;
                }
            | inr x ↦
                let old : IsTask s m x.place x.offset = (
                  (let a = x.before in omega (arith, a, within)),
                  (let a = x.early in omega (arith, a, long)),
                ) in
                record {
                  meet = m;
                  place = x.place;
                  offset = x.offset;
                  task = now m x.place x.offset old;
                  number =
                      x.«is»;
                }
          ];
    }

-- what no change touches stays
pub still_open : (p : Parts) (u v : Units) (picks : Picks) (w w' : Domains) (cells : List ℕ) (number : ℕ → ℕ → ℕ)
    (domain : ℕ → ℕ → Option Domain) (from end count : ℕ) → AreOpen p u picks w cells → v.tasks.items ≡ u.tasks.items
    → ((k o : ℕ) → k < end → o < count → number k o < tasks_of p.events) → IsRenewed w w' number domain from end count
    → AreOpen p v picks w' cells
still_open p u v picks w w' cells number domain from end count is tasks low re = record {
  made = is.made;
  firsts = subst (AreFirsts p.events) (sym tasks) is.firsts;
  starts = subst (λ ts. AreStartSets p ts picks.starts.items) (sym re.same.times) is.starts;
  resources = subst (λ rs. AreResourceSets p rs picks.resources.items) (sym re.same.resources) is.resources;
  last = re.same.last ∙ is.last;
  width = re.same.width ∙ is.width;
  amount = re.same.amount ∙ is.amount;
  few = is.few;
  timed = is.timed;
  listed = is.listed;
  cell_domains = λ i l. elim (re.touched (tasks_of p.events + i)) [
    | inl same ↦ same ∙ is.cell_domains i l
    | inr x ↦ absurd (let a = low x.place x.offset x.before x.early in let b = x.«is» in omega (arith, a, b))
  ];
}
