-- The meets and the tasks of an event, one entry after the other.
use Rattle.std.proofs.Common.{ℕ, ◌≡◌, ◌∙◌, ◌+◌, ◌-◌, ◌<◌, ◌≤◌, ◌++◌, ◌∷◌, [], List, length, map, get_or}
use Rattle.std.proofs.Common.{refl, sym, ap, arith}
use Rattle.std.specs.List.{sum_by, enumerate_from, flat_map}
use Rattle.std.proofs.lemmas.List.Sums.{sum_by-cons}
use Rattle.std.proofs.lemmas.Option.{same_Some, slice_get_read}
use Rattle.khe_instance.specs.declared.parts.EventInfo.{EventInfo}
use Rattle.khe_instance.specs.declared.parts.Parts.{Parts}
use Rattle.khe_instance.specs.declared.states.Meet.{Meet}
use Rattle.khe_instance.specs.declared.states.Task.{Task}
use Rattle.xhstt_completion.specs.Chains.{IsChain}
use Rattle.xhstt_completion.specs.Causes.{used_by}
use Rattle.xhstt_completion.specs.Completed.{part_of, missing_parts, meet_of, tasks_of, meets_at, tasks_at}
use Rattle.xhstt_completion.specs.Entries.{duration_of, entries_of}
use Rattle.xhstt_completion.proofs.ChainLemmas.{IsNext, chain-next, chain-over}
use Rattle.xhstt_completion.proofs.PartsLemmas.{parts_left, parts_left-cons, append-step}
use Rattle.xhstt_shape.specs.declared.records.RawEntry.{RawEntry}

-- the entries of an event that are left from a number on: the meets and the tasks so far, with those of the
-- parts that are left, are those of all parts; and no slot is beyond the event's
pub record IsLeft (p : Parts) (entries : List RawEntry) (nexts : List ℕ) (event : EventInfo) (e at slot left : ℕ)
    (meets : List Meet) (tasks : List Task) (old_meets : List Meet) (old_tasks : List Task) : Type 0 where
  pub rest : List RawEntry
  pub chain : IsChain entries nexts 0 at rest
  pub meets_are : meets ++ map (meet_of e) (enumerate_from slot (parts_left p event left rest)) ≡ old_meets
      ++ map (meet_of e) (enumerate_from event.first_meet
      (parts_left p event event.duration (entries_of p e entries)))
  pub tasks_are : tasks ++ flat_map (tasks_of p event) (enumerate_from slot (parts_left p event left rest))
      ≡ old_tasks ++ flat_map (tasks_of p event) (enumerate_from event.first_meet
      (parts_left p event event.duration (entries_of p e entries)))
  pub fits : sum_by (duration_of event) rest ≤ left
  pub room : slot + left ≤ event.first_meet + event.duration

-- the next entry lasts no longer than what is left
pub next-fits : (event : EventInfo) (left : ℕ) (rest : List RawEntry) (entry : RawEntry) (later : List RawEntry)
    → rest ≡ entry ∷ later → sum_by (duration_of event) rest ≤ left
    → (duration_of event entry ≤ left) × (sum_by (duration_of event) later ≤ left - duration_of event entry)
next-fits event left rest entry later is fits =
    let sum = ap (sum_by (duration_of event)) is ∙ sum_by-cons (duration_of event) entry later in
    (omega (arith, sum, fits), omega (arith, sum, fits))

-- one entry more, which has this meet
pub left-more : (p : Parts) (entries : List RawEntry) (nexts : List ℕ) (event : EventInfo) (e at slot left : ℕ)
    (meets more_meets : List Meet) (tasks more_tasks old_tasks : List Task) (old_meets : List Meet)
    (l : IsLeft p entries nexts event e at slot left meets tasks old_meets old_tasks)
    (n : IsNext entries nexts at l.rest)
    → 1 ≤ duration_of event n.entry
    → more_meets ≡ meets ++ meet_of e (slot, part_of p event n.entry) ∷ []
    → more_tasks ≡ tasks ++ tasks_of p event (slot, part_of p event n.entry)
    → IsLeft p entries nexts event e (get_or nexts at 0) (slot + 1) (left - duration_of event n.entry)
    more_meets more_tasks old_meets old_tasks
left-more p entries nexts event e at slot left meets more_meets tasks more_tasks old_tasks old_meets l n positive
    one_meet
    one_task =
    let part = part_of p event n.entry in
    let d = duration_of event n.entry in
    let later = enumerate_from (slot + 1) (parts_left p event (left - d) n.later) in
    let slotted : enumerate_from slot (parts_left p event left l.rest) ≡ (slot, part) ∷ later =
    ap (λ xs. enumerate_from slot (parts_left p event left xs)) n.is
    ∙ ap (enumerate_from slot) (parts_left-cons p event left n.entry n.later)
    in
    let fits = next-fits event left l.rest n.entry n.later n.is l.fits in
    record {
      rest = n.later;
      chain = n.chain;
      meets_are = append-step more_meets meets (meet_of e (slot, part) ∷ []) (map (meet_of e) later) _ _ one_meet
          (ap (map (meet_of e)) slotted) l.meets_are;
      tasks_are = append-step more_tasks tasks (tasks_of p event (slot, part)) (flat_map (tasks_of p event) later) _ _
          one_task (ap (flat_map (tasks_of p event)) slotted) l.tasks_are;
      fits = fits.1;
      room = omega (arith, l.room, fits.0, positive);
    }

-- where no entry is left, what they miss is left
rest-none : (p : Parts) (event : EventInfo) (left : ℕ) (rest : List RawEntry) → rest ≡ []
    → parts_left p event left rest ≡ missing_parts event left
rest-none p event left rest is =
    ap (parts_left p event left) is ∙ ap (missing_parts event) (let e : left - 0 ≡ left = omega arith in e)

pub all-meets : (p : Parts) (entries : List RawEntry) (nexts : List ℕ) (event : EventInfo) (e at slot left : ℕ)
    (meets more : List Meet) (tasks old_tasks : List Task) (old_meets : List Meet)
    → IsLeft p entries nexts event e at slot left meets tasks old_meets old_tasks → length entries ≤ at
    → more ≡ meets ++ map (meet_of e) (enumerate_from slot (missing_parts event left))
    → more ≡ old_meets ++ meets_at p entries (e, event)
all-meets p entries nexts event e at slot left meets more tasks old_tasks old_meets l over is =
    is
    ∙ ap (λ parts. meets ++ map (meet_of e) (enumerate_from slot parts))
    (sym (rest-none p event left l.rest (chain-over entries nexts 0 at l.rest l.chain over)))
    ∙ l.meets_are

pub all-tasks : (p : Parts) (entries : List RawEntry) (nexts : List ℕ) (event : EventInfo) (e at slot left : ℕ)
    (meets : List Meet) (tasks more old_tasks : List Task) (old_meets : List Meet)
    → IsLeft p entries nexts event e at slot left meets tasks old_meets old_tasks → length entries ≤ at
    → more ≡ tasks ++ flat_map (tasks_of p event) (enumerate_from slot (missing_parts event left))
    → more ≡ old_tasks ++ tasks_at p entries (e, event)
all-tasks p entries nexts event e at slot left meets tasks more old_tasks old_meets l over is =
    is
    ∙ ap (λ parts. tasks ++ flat_map (tasks_of p event) (enumerate_from slot parts))
    (sym (rest-none p event left l.rest (chain-over entries nexts 0 at l.rest l.chain over)))
    ∙ l.tasks_are

-- at the start all entries of the event are left
pub left-all : (p : Parts) (entries : List RawEntry) (nexts : List ℕ) (event : EventInfo) (e at : ℕ)
    (meets : List Meet) (tasks : List Task)
    → IsChain entries nexts 0 at (entries_of p e entries) → used_by p e event entries ≤ event.duration
    → IsLeft p entries nexts event e at event.first_meet event.duration meets tasks meets tasks
left-all p entries nexts event e at meets tasks chain fits = record {
  rest = entries_of p e entries;
  chain = chain;
  meets_are = refl;
  tasks_are = refl;
  fits = fits;
  room = omega arith;
}

-- the entry at a number, which is the next one of a chain
pub record IsHere (entries : List RawEntry) (nexts : List ℕ) (at : ℕ) (rest : List RawEntry) (entry : RawEntry)
    : Type 0 where
  pub next : IsNext entries nexts at rest
  pub same : next.entry ≡ entry

pub here : (entries : List RawEntry) (nexts : List ℕ) (at : ℕ) (rest : List RawEntry) (entry : RawEntry)
    → IsChain entries nexts 0 at rest → at < length entries → entry ≡ get_or entries at entry
    → IsHere entries nexts at rest entry
here entries nexts at rest entry chain l is =
    let next = chain-next entries nexts at rest chain l in
    record {
      next = next;
      same = same_Some next.entry entry
          (sym next.found ∙ slice_get_read entries _ at entry refl l is);
    }
