-- All events of a job together run for as many times as there are events, or up to three times as many.
use Rattle.std.proofs.Common.{ℕ, ◌≡◌, ◌*◌, ◌<◌, ◌≤◌, ◌^◌, List, [], ◌∷◌, All, Some, map, length, slice_get, refl, sym, ap}
use Rattle.std.proofs.Common.{◌∙◌, arith}
use Rattle.std.specs.List.{sum_by}
use Rattle.std.proofs.lemmas.List.Elements.{All-head, All-tail}
use Rattle.std.proofs.lemmas.List.FromFn.{length-range_with_len}
use Rattle.std.proofs.lemmas.List.Sums.{sum_by-cons}
use Rattle.std.proofs.lemmas.Option.{same_Some}
use Rattle.khe_base.proofs.ListLemmas.{sum-mapped}
use Rattle.xhstt_shape.specs.declared.records.Archive.{Archive}
use Rattle.xhstt_shape.specs.declared.records.RawEvent.{RawEvent}
use Rattle.xhstt_shape.specs.declared.records.RawInstance.{RawInstance}
use Rattle.archive_generator.specs.declared.drawing.DrawnEvent.{DrawnEvent}
use Rattle.archive_generator.specs.Events as events
use Rattle.archive_generator.specs.Job as job
use Rattle.archive_generator.specs.Made as made
use Rattle.archive_generator.specs.Names.{below}
use Rattle.archive_generator.specs.Turns.{in_turn}
use Rattle.archive_generator.proofs.WellFormed.{IsShortEvent, events_short}

in_turn_length : {A B : Type 0} (step : A → ℕ → B × ℕ) (xs : List A) (x : ℕ)
    → length (in_turn step xs x).0 ≡ length xs
in_turn_length step [] x = refl
in_turn_length step (a ∷ more) x =
    let rest : length (in_turn step more (step a x).1).0 ≡ length more = in_turn_length step more (step a x).1 in
    omega (arith, rest)

events_length : (size x : ℕ) → length (job.events size x).0 ≡ size
unfolding job.events below
events_length size x = in_turn_length job.event (below size) x ∙ length-range_with_len 0 size

-- each runs for one to three times
bounded : (es : List DrawnEvent) → All IsShortEvent es
    → (length es ≤ sum_by (λ (e : DrawnEvent). e.duration) es)
    × (sum_by (λ (e : DrawnEvent). e.duration) es ≤ 3 * length es)
bounded [] h = (omega arith, omega arith)
bounded (e ∷ es) h =
    let here : IsShortEvent e = All-head IsShortEvent e es h in
    let rest = bounded es (All-tail IsShortEvent e es h) in
    let low = rest.0 in
    let high = rest.1 in
    let one = here.0 in
    let three = here.1 in
    let sum = sum_by-cons (λ (x : DrawnEvent). x.duration) e es in
    (omega (arith, low, one, sum), omega (arith, high, three, sum))

pub slots_some : (seed size : ℕ) → 1 ≤ size → 1 ≤ job.slots seed size
unfolding job.slots
slots_some seed size h =
    let b = (bounded (job.events size seed).0 (events_short size seed)).0 in
    let n = events_length size seed in
    omega (arith, b, n, h)

pub slots_few : (seed size : ℕ) → size < 2 ^ 30 → job.slots seed size < 2 ^ 32
unfolding job.slots
slots_few seed size h =
    let b = (bounded (job.events size seed).0 (events_short size seed)).1 in
    let n = events_length size seed in
    omega (arith, b, n, h)

-- the events of the archive have the durations that were drawn
same_durations : (size : ℕ) (es : List DrawnEvent)
    → sum_by (λ (e : RawEvent). e.duration) (map (events.event size) es) ≡ sum_by (λ (e : DrawnEvent). e.duration) es
unfolding events.event
same_durations size es = sum-mapped (λ (e : RawEvent). e.duration) (events.event size) es

pub made_durations : (seed size : ℕ)
    → sum_by (λ (e : RawEvent). e.duration) (made.instance size (job.events size seed).0).events ≡ job.slots seed size
unfolding made.instance job.slots
made_durations seed size = same_durations size (job.events size seed).0

pub made_instances : (seed size : ℕ)
    → (made.made seed size).instances ≡ made.instance size (job.events size seed).0 ∷ []
unfolding made.made made.archive job.job
made_instances seed size = refl

-- what is counted in that archive
pub some_instances : (seed size : ℕ) (a : Archive) (xs : List RawInstance) → a ≡ made.made seed size
    → xs ≡ a.instances → 0 < length xs
some_instances seed size a xs e f =
    let all : xs ≡ made.instance size (job.events size seed).0 ∷ [] =
    f ∙ ap (λ (x : Archive). x.instances) e ∙ made_instances seed size in
    let one : length xs ≡ 1 = ap length all in
    omega (arith, one)

pub durations_of : (seed size : ℕ) (a : Archive) (xs : List RawInstance) (i : RawInstance) (es : List RawEvent)
    → a ≡ made.made seed size → xs ≡ a.instances → slice_get xs 0 ≡ Some i → es ≡ i.events
    → sum_by (λ (e : RawEvent). e.duration) es ≡ job.slots seed size
durations_of seed size a xs i es e f at g =
    let all : xs ≡ made.instance size (job.events size seed).0 ∷ [] =
    f ∙ ap (λ (x : Archive). x.instances) e ∙ made_instances seed size in
    let first : Some i ≡ Some (made.instance size (job.events size seed).0) =
    sym at ∙ ap (λ (ys : List RawInstance). slice_get ys 0) all in
    let same : i ≡ made.instance size (job.events size seed).0 = same_Some i _ first in
    ap (λ (ys : List RawEvent). sum_by (λ (x : RawEvent). x.duration) ys)
    (g ∙ ap (λ (x : RawInstance). x.events) same)
    ∙ made_durations seed size
