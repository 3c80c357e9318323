-- The archive that is made is well formed.
use Rattle.std.proofs.Common.{ℕ, ◌≡◌, ◌+◌, ◌-◌, ◌*◌, ◌^◌, ◌/◌, ◌%◌, ◌==◌, ◌<◌, ◌≤◌, Bool, true, false, if◌then◌else◌}
use Rattle.std.proofs.Common.{nat_lt, ◌||◌}
use Rattle.std.proofs.Common.{Option, Some, None, is_some, List, [], ◌∷◌, ◌++◌, map, All, refl, sym}
use Rattle.std.proofs.Common.{ap, subst, ◌∙◌, arith, mod-lt}
use Rattle.std.specs.Prelude.{codes}
use Rattle.std.proofs.lemmas.Bool.Decides.{nat_tests}
use Rattle.std.proofs.lemmas.List.Elements.{All-nil, All-cons, All-head, All-tail, All-append}
use Rattle.xhstt_shape.specs.declared.constraints.RawConstraint.{RawConstraint}
use Rattle.xhstt_shape.specs.declared.records.Archive.{Archive}
use Rattle.std.specs.List.{list_all}
use lib.Utf8.{encode}
use Rattle.xhstt_text.specs.Units.{is_character}
use Rattle.xhstt_shape.specs.Characters as fit
use Rattle.xhstt_shape.specs.WellFormed as form
use Rattle.archive_generator.specs.declared.drawing.DrawnEntry.{DrawnEntry}
use Rattle.archive_generator.specs.declared.drawing.DrawnEvent.{DrawnEvent}
use Rattle.archive_generator.specs.declared.drawing.DrawnJob.{DrawnJob}
use Rattle.archive_generator.specs.declared.resources.Sort.{Sort}
use Rattle.archive_generator.specs.declared.resources.Sort.TheVariants as sort
use Rattle.archive_generator.specs.Constraints as constraints
use Rattle.archive_generator.specs.Draws.{next, drawn}
use Rattle.archive_generator.specs.Events as events
use Rattle.archive_generator.specs.Job as job
use Rattle.archive_generator.specs.Made as made
use Rattle.archive_generator.specs.Names.{name, to, below}
use Rattle.archive_generator.specs.Resources as resources
use Rattle.archive_generator.specs.Solutions as solutions
use Rattle.archive_generator.specs.Times as times
use Rattle.archive_generator.specs.Turns.{in_turn, gathered}
use Rattle.archive_generator.proofs.Spellable.{word_fits, numbered_fits, all_made, only, two, three, four}
use Rattle.archive_generator.proofs.Spellable.{to_each_fits}
use Rattle.archive_generator.proofs.Spellable.{to_time_fits}

-- the two roles

teacher_role : form.IsRole (name (codes "T"))
unfolding encode
teacher_role = record { some = refl; whole = refl }

room_role : form.IsRole (name (codes "R"))
unfolding encode
room_role = record { some = refl; whole = refl }

-- times

time_fits : (n : ℕ) → fit.IsSpellableTime (times.time n)
time_fits n = record {
  id = numbered_fits (codes "t") n refl;
  name = tt;
  week = tt;
  day = numbered_fits (codes "d") (n / 8) refl;
  time_groups = by (n % 8 == 0);
}
  where
    by : (b : Bool) → fit.AreSpellableRefs (if b then to (codes "early") ∷ [] else [])
    by true = only fit.IsSpellableRef (to (codes "early")) (word_fits (codes "early") refl)
    by false = All-nil fit.IsSpellableRef

times_fit : All fit.IsSpellableTime times.times
unfolding times.times
times_fit = all_made fit.IsSpellableTime times.time (below 40) time_fits

time_groups_fit : All fit.IsSpellableTimeGroup times.time_groups
unfolding times.time_groups
time_groups_fit = All-append fit.IsSpellableTimeGroup (map times.day (below 5)) (times.early ∷ [])
    (all_made fit.IsSpellableTimeGroup times.day (below 5) (λ n. (numbered_fits (codes "d") n refl, tt)))
    (only fit.IsSpellableTimeGroup times.early (word_fits (codes "early") refl, tt))

days_fit : fit.AreSpellableRefs times.days
unfolding times.days
days_fit = to_each_fits (codes "d") 5 refl

-- resources

resource_types_fit : All fit.IsSpellableResourceType resources.resource_types
unfolding resources.resource_types
resource_types_fit = three fit.IsSpellableResourceType _ _ _ (word_fits (codes "Teacher") refl, tt)
    (word_fits (codes "Class") refl, tt) (word_fits (codes "Room") refl, tt)

resource_groups_fit : All fit.IsSpellableResourceGroup resources.resource_groups
unfolding resources.resource_groups
resource_groups_fit = three fit.IsSpellableResourceGroup _ _ _
    (word_fits (codes "gp") refl, tt, word_fits (codes "Teacher") refl)
    (word_fits (codes "gc") refl, tt, word_fits (codes "Class") refl)
    (word_fits (codes "gq") refl, tt, word_fits (codes "Room") refl)

resource_fits : (s : Sort) (n : ℕ) → fit.IsSpellableResource (resources.resource s n)
resource_fits sort.Teacher n = record {
  id = numbered_fits (codes "p") n refl;
  name = tt;
  resource_type = word_fits (codes "Teacher") refl;
  resource_groups = only fit.IsSpellableRef (to (codes "gp")) (word_fits (codes "gp") refl);
}
resource_fits sort.Class n = record {
  id = numbered_fits (codes "c") n refl;
  name = tt;
  resource_type = word_fits (codes "Class") refl;
  resource_groups = only fit.IsSpellableRef (to (codes "gc")) (word_fits (codes "gc") refl);
}
resource_fits sort.Room n = record {
  id = numbered_fits (codes "q") n refl;
  name = tt;
  resource_type = word_fits (codes "Room") refl;
  resource_groups = only fit.IsSpellableRef (to (codes "gq")) (word_fits (codes "gq") refl);
}

so_many_fit : (s : Sort) (count : ℕ) → All fit.IsSpellableResource (resources.so_many s count)
so_many_fit s count = all_made fit.IsSpellableResource (resources.resource s) (below count) (resource_fits s)

resources_fit : (size : ℕ) → All fit.IsSpellableResource (resources.resources size)
unfolding resources.resources
resources_fit size =
    All-append fit.IsSpellableResource
    (resources.so_many sort.Teacher (job.teachers size) ++ resources.so_many sort.Class (job.classes size))
    (resources.so_many sort.Room (job.rooms size))
    (All-append fit.IsSpellableResource (resources.so_many sort.Teacher (job.teachers size))
    (resources.so_many sort.Class (job.classes size)) (so_many_fit sort.Teacher (job.teachers size))
    (so_many_fit sort.Class (job.classes size)))
    (so_many_fit sort.Room (job.rooms size))

-- events

event_groups_fit : (size : ℕ) → All fit.IsSpellableEventGroup (events.event_groups size)
unfolding events.event_groups
event_groups_fit size = All-cons fit.IsSpellableEventGroup events.all (map events.half (below (events.halves size)))
    (word_fits (codes "all") refl, tt)
    (all_made fit.IsSpellableEventGroup events.half (below (events.halves size))
    (λ n. (numbered_fits (codes "h") n refl, tt)))

places_fit : (size n : ℕ) → All fit.IsSpellableEventResource (events.places size n)
unfolding events.places
places_fit size n = three fit.IsSpellableEventResource _ _ _
    (record { reference = numbered_fits (codes "c") (n % job.classes size) refl; role = tt; resource_type = tt })
    (record { reference = tt; role = word_fits (codes "T") refl; resource_type = word_fits (codes "Teacher") refl })
    (record { reference = tt; role = word_fits (codes "R") refl; resource_type = word_fits (codes "Room") refl })

event_fits : (size : ℕ) (e : DrawnEvent) → fit.IsSpellableEvent (events.event size e)
unfolding events.event
event_fits size e = record {
  id = numbered_fits (codes "e") e.number refl;
  color = tt;
  name = tt;
  course = tt;
  time = to_time_fits e.time;
  resources = places_fit size e.number;
  resource_groups = All-nil fit.IsSpellableRef;
  event_groups = two fit.IsSpellableRef _ _ (word_fits (codes "all") refl)
      (numbered_fits (codes "h") (e.number / 2) refl);
}

-- the places of an event are in form

places_form : (size n : ℕ) → All form.IsEventResource (events.places size n)
unfolding events.places
places_form size n = three form.IsEventResource _ _ _
    (record { role = tt; workload = tt; closed = λ h. absurd (let g : ⊥ = cc in g) })
    (record { role = teacher_role; workload = tt; closed = λ h. (refl, refl) })
    (record { role = room_role; workload = tt; closed = λ h. (refl, refl) })

-- a duration of an event and of a part
abbrev pub IsShort : ℕ → Type 0
IsShort n = (1 ≤ n) × (n ≤ 3)

duration_fits : (n : ℕ) → IsShort n → form.IsDuration n
duration_fits n s = (s.0, omega (arith, s.1))

event_form : (size : ℕ) (e : DrawnEvent) → IsShort e.duration → form.IsEvent (events.event size e)
unfolding events.event
event_form size e s = record {
  duration = duration_fits e.duration s;
  workload = tt;
  resources = places_form size e.number;
}

-- what is true of each value that is drawn is true of all

all_in_turn : {A B : Type 0} (P : B → Type 0) (step : A → ℕ → B × ℕ) → ((a : A) (x : ℕ) → P (step a x).0)
    → (xs : List A) (x : ℕ) → All P (in_turn step xs x).0
all_in_turn P step each [] x = All-nil P
all_in_turn P step each (a ∷ more) x = All-cons P (step a x).0 (in_turn step more (step a x).1).0 (each a x)
    (all_in_turn P step each more (step a x).1)

all_gathered : {A B : Type 0} (Q : A → Type 0) (P : B → Type 0) (step : A → ℕ → List B × ℕ)
    → ((a : A) (x : ℕ) → Q a → All P (step a x).0) → (xs : List A) (x : ℕ) → All Q xs
    → All P (gathered step xs x).0
all_gathered Q P step each [] x h = All-nil P
all_gathered Q P step each (a ∷ more) x h =
    All-append P (step a x).0 (gathered step more (step a x).1).0 (each a x (All-head Q a more h))
    (all_gathered Q P step each more (step a x).1 (All-tail Q a more h))

abbrev pub IsShortEvent : DrawnEvent → Type 0
IsShortEvent e = IsShort e.duration

abbrev IsShortEntry : DrawnEntry → Type 0
IsShortEntry e = IsShort e.duration

event_short : (i x : ℕ) → IsShortEvent (job.event i x).0
unfolding job.event drawn
event_short i x =
    let l : ((next x / 2 ^ 33) % 3) < 3 = mod-lt (next x / 2 ^ 33) (omega arith) in
    (omega arith, omega arith)

pub events_short : (size x : ℕ) → All IsShortEvent (job.events size x).0
unfolding job.events
events_short size x = all_in_turn IsShortEvent job.event event_short (below size) x

entry_short : (size : ℕ) (e : DrawnEvent) (duration x : ℕ) → IsShort duration
    → IsShortEntry (job.entry size e duration x).0
unfolding job.entry
entry_short size e duration x s = s

cut_long : (e : DrawnEvent) (x : ℕ) → (job.is_cut e x).0 ≡ true → 2 ≤ e.duration
unfolding job.is_cut
cut_long e x h = by (is_some e.time) (nat_lt e.duration 2) refl h
  where
    by : (a b : Bool) → b ≡ nat_lt e.duration 2
        → (if◌then◌else◌ {A = Bool × ℕ} (a || b) (false, x) (drawn 2 x == 1, next x)).0 ≡ true
        → 2 ≤ e.duration
    by true b g h = absurd (let z : ⊥ = cc in z)
    by false true g h = absurd (let z : ⊥ = cc in z)
    by false false g h = grind (arith, nat_tests)

entries_short : (size : ℕ) (e : DrawnEvent) (x : ℕ) → IsShortEvent e → All IsShortEntry (job.entries size e x).0
unfolding job.entries job.cut_entries job.whole_entry
entries_short size e x s = by (job.is_cut e x).0 (job.is_cut e x).1 (cut_long e x)
  where
    by : (b : Bool) (y : ℕ) → (b ≡ true → 2 ≤ e.duration)
        → All IsShortEntry
        (if◌then◌else◌ {A = List DrawnEntry × ℕ} b (job.cut_entries size e y) (job.whole_entry size e y)).0
    by true y long =
        let l = long refl in
        two IsShortEntry _ _ (entry_short size e 1 y (omega arith, omega arith))
        (entry_short size e (e.duration - 1) (job.entry size e 1 y).1 (omega arith, omega (arith, s.1)))
    by false y long = only IsShortEntry _ (entry_short size e e.duration y s)

solution_short : (size : ℕ) (es : List DrawnEvent) (x : ℕ) → All IsShortEvent es
    → All IsShortEntry (job.solution size es x).0
unfolding job.solution
solution_short size es x h = all_gathered IsShortEvent IsShortEntry (job.entries size) (entries_short size) es x h

solutions_short : (size : ℕ) (es : List DrawnEvent) (x : ℕ) → All IsShortEvent es
    → All (All IsShortEntry) (job.solutions size es x).0
unfolding job.solutions
solutions_short size es x h = all_in_turn (All IsShortEntry) (λ n y. job.solution size es y)
    (λ n y. solution_short size es y h) (below 4) x

-- solutions

given_fits : (role word : List ℕ) (o : Option ℕ) → list_all is_character role ≡ true
    → list_all is_character word ≡ true → All fit.IsSpellableGiven (solutions.given_if role word o)
given_fits role word None r w = All-nil fit.IsSpellableGiven
given_fits role word (Some n) r w = only fit.IsSpellableGiven (solutions.given role word n)
    (numbered_fits word n w, word_fits role r)

given_form : (role word : List ℕ) (o : Option ℕ) → form.IsRole (name role)
    → All form.IsGiven (solutions.given_if role word o)
given_form role word None r = All-nil form.IsGiven
given_form role word (Some n) r = only form.IsGiven (solutions.given role word n) r

entry_fits : (e : DrawnEntry) → fit.IsSpellableEntry (solutions.entry e)
unfolding solutions.entry
entry_fits e = record {
  reference = numbered_fits (codes "e") e.event refl;
  time = to_time_fits e.time;
  resources = All-append fit.IsSpellableGiven (solutions.given_if (codes "T") (codes "p") e.teacher)
      (solutions.given_if (codes "R") (codes "q") e.room) (given_fits (codes "T") (codes "p") e.teacher refl refl)
      (given_fits (codes "R") (codes "q") e.room refl refl);
}

entry_form : (e : DrawnEntry) → IsShortEntry e → form.IsEntry (solutions.entry e)
unfolding solutions.entry
entry_form e s = record {
  duration = duration_fits e.duration s;
  resources = All-append form.IsGiven (solutions.given_if (codes "T") (codes "p") e.teacher)
      (solutions.given_if (codes "R") (codes "q") e.room)
      (given_form (codes "T") (codes "p") e.teacher teacher_role)
      (given_form (codes "R") (codes "q") e.room room_role);
}

solution_fits : (es : List DrawnEntry) → fit.IsSpellableSolution (solutions.solution es)
unfolding solutions.solution
solution_fits es = record {
  reference = word_fits (codes "made") refl;
  description = tt;
  running_time = tt;
  events = all_made fit.IsSpellableEntry solutions.entry es entry_fits;
}

-- what follows from what is true of each value is true of all that are made
all_formed : {A T : Type 0} (Q : A → Type 0) (P : T → Type 0) (f : A → T) (xs : List A) → ((a : A) → Q a → P (f a))
    → All Q xs → All P (map f xs)
all_formed Q P f [] each h = All-nil P
all_formed Q P f (x ∷ xs) each h = All-cons P (f x) (map f xs) (each x (All-head Q x xs h))
    (all_formed Q P f xs each (All-tail Q x xs h))

solution_form : (es : List DrawnEntry) → All IsShortEntry es → form.IsSolution (solutions.solution es)
unfolding solutions.solution
solution_form es h = all_formed IsShortEntry form.IsEntry solutions.entry es entry_form h

-- constraints

halves_fit : (size : ℕ) → fit.IsSpellableApplies (constraints.all_halves size)
unfolding constraints.all_halves
halves_fit size = to_each_fits (codes "h") (events.halves size) refl

pairs_fit : (size : ℕ) → fit.IsSpellableApplies (constraints.pairs size)
unfolding constraints.pairs
pairs_fit size = all_made fit.IsSpellablePair constraints.pair (below (constraints.pair_count size))
    (λ k. (numbered_fits (codes "e") (20 * k) refl, numbered_fits (codes "e") (20 * k + 1) refl))

pairs_form : (size : ℕ) → form.ArePairs (constraints.pairs size)
unfolding constraints.pairs
pairs_form size = all_made form.IsPair constraints.pair (below (constraints.pair_count size))
    (λ k. (omega arith, omega arith))

spreads_fit : All fit.IsSpellableSpread constraints.spreads
unfolding constraints.spreads
spreads_fit = all_made fit.IsSpellableSpread constraints.spread (below 5) (λ n. numbered_fits (codes "d") n refl)

spreads_form : All form.IsSpread constraints.spreads
unfolding constraints.spreads
spreads_form = all_made form.IsSpread constraints.spread (below 5) (λ n. (omega arith, omega arith))

halves_form : (size : ℕ) → form.AreGroups (constraints.all_halves size)
unfolding constraints.all_halves
halves_form size = tt

-- a constraint is spellable and in form
record Fits (c : RawConstraint) : Type 0 where
  fit_ : fit.IsSpellableConstraint c
  form_ : form.IsConstraint c

assign_time : Fits (constraints.assign_time)
unfolding constraints.assign_time
assign_time = record {
  fit_ = record {
    id = numbered_fits (codes "x") 0 refl;
    name = tt;
    applies = (only fit.IsSpellableRef _ (word_fits (codes "all") refl), All-nil fit.IsSpellableRef);
    rule = tt;
  };
  form_ = record { weight = omega arith; rule = tt; applies = tt };
}

assign_resource : Fits (constraints.assign_resource)
unfolding constraints.assign_resource
assign_resource = record {
  fit_ = record {
    id = numbered_fits (codes "x") 1 refl;
    name = tt;
    applies = (only fit.IsSpellableRef _ (word_fits (codes "all") refl), All-nil fit.IsSpellableRef);
    rule = word_fits (codes "T") refl;
  };
  form_ = record { weight = omega arith; rule = teacher_role; applies = tt };
}

split_events : Fits (constraints.split_events)
unfolding constraints.split_events
split_events = record {
  fit_ = record {
    id = numbered_fits (codes "x") 2 refl;
    name = tt;
    applies = (only fit.IsSpellableRef _ (word_fits (codes "all") refl), All-nil fit.IsSpellableRef);
    rule = tt;
  };
  form_ = record {
    weight = omega arith;
    rule = ((omega arith, omega arith), (omega arith, omega arith));
    applies = tt;
  };
}

distribute : Fits (constraints.distribute)
unfolding constraints.distribute
distribute = record {
  fit_ = record {
    id = numbered_fits (codes "x") 3 refl;
    name = tt;
    applies = (only fit.IsSpellableRef _ (word_fits (codes "all") refl), All-nil fit.IsSpellableRef);
    rule = tt;
  };
  form_ = record {
    weight = omega arith;
    rule = ((omega arith, omega arith), (omega arith, omega arith));
    applies = tt;
  };
}

prefer_times : Fits (constraints.prefer_times)
unfolding constraints.prefer_times
prefer_times = record {
  fit_ = record {
    id = numbered_fits (codes "x") 4 refl;
    name = tt;
    applies = (only fit.IsSpellableRef _ (word_fits (codes "all") refl), All-nil fit.IsSpellableRef);
    rule = (only fit.IsSpellableRef _ (word_fits (codes "early") refl), All-nil fit.IsSpellableRef);
  };
  form_ = record { weight = omega arith; rule = (omega arith, omega arith); applies = tt };
}

prefer_resources : Fits (constraints.prefer_resources)
unfolding constraints.prefer_resources
prefer_resources = record {
  fit_ = record {
    id = numbered_fits (codes "x") 5 refl;
    name = tt;
    applies = (only fit.IsSpellableRef _ (word_fits (codes "all") refl), All-nil fit.IsSpellableRef);
    rule = (
      All-nil fit.IsSpellableRef,
      only fit.IsSpellableRef _ (word_fits (codes "q0") refl),
      word_fits (codes "R") refl,
    );
  };
  form_ = record { weight = omega arith; rule = room_role; applies = tt };
}

avoid_split : (size : ℕ) → Fits (constraints.avoid_split size)
unfolding constraints.avoid_split
avoid_split size = record {
  fit_ = record {
    id = numbered_fits (codes "x") 6 refl;
    name = tt;
    applies = halves_fit size;
    rule = word_fits (codes "T") refl;
  };
  form_ = record { weight = omega arith; rule = teacher_role; applies = halves_form size };
}

spread_events : (size : ℕ) → Fits (constraints.spread_events size)
unfolding constraints.spread_events
spread_events size = record {
  fit_ = record {
    id = numbered_fits (codes "x") 7 refl;
    name = tt;
    applies = halves_fit size;
    rule = spreads_fit;
  };
  form_ = record { weight = omega arith; rule = spreads_form; applies = halves_form size };
}

link_events : Fits (constraints.link_events)
unfolding constraints.link_events
link_events = record {
  fit_ = record {
    id = numbered_fits (codes "x") 8 refl;
    name = tt;
    applies = only fit.IsSpellableRef _ (word_fits (codes "h0") refl);
    rule = tt;
  };
  form_ = record { weight = omega arith; rule = tt; applies = tt };
}

order_events : (size : ℕ) → Fits (constraints.order_events size)
unfolding constraints.order_events
order_events size = record {
  fit_ = record {
    id = numbered_fits (codes "x") 9 refl;
    name = tt;
    applies = pairs_fit size;
    rule = tt;
  };
  form_ = record { weight = omega arith; rule = tt; applies = pairs_form size };
}

avoid_clashes : Fits (constraints.avoid_clashes)
unfolding constraints.avoid_clashes
avoid_clashes = record {
  fit_ = record {
    id = numbered_fits (codes "x") 10 refl;
    name = tt;
    applies = (
      three fit.IsSpellableRef _ _ _ (word_fits (codes "gp") refl) (word_fits (codes "gc") refl)
          (word_fits (codes "gq") refl),
      All-nil fit.IsSpellableRef,
    );
    rule = tt;
  };
  form_ = record { weight = omega arith; rule = tt; applies = tt };
}

avoid_unavailable : Fits (constraints.avoid_unavailable)
unfolding constraints.avoid_unavailable
avoid_unavailable = record {
  fit_ = record {
    id = numbered_fits (codes "x") 11 refl;
    name = tt;
    applies = (only fit.IsSpellableRef _ (word_fits (codes "gp") refl), All-nil fit.IsSpellableRef);
    rule = (All-nil fit.IsSpellableRef, only fit.IsSpellableRef _ (word_fits (codes "t39") refl));
  };
  form_ = record { weight = omega arith; rule = tt; applies = tt };
}

limit_idle : Fits (constraints.limit_idle)
unfolding constraints.limit_idle
limit_idle = record {
  fit_ = record {
    id = numbered_fits (codes "x") 12 refl;
    name = tt;
    applies = (only fit.IsSpellableRef _ (word_fits (codes "gp") refl), All-nil fit.IsSpellableRef);
    rule = days_fit;
  };
  form_ = record { weight = omega arith; rule = (omega arith, omega arith); applies = tt };
}

cluster_busy : Fits (constraints.cluster_busy)
unfolding constraints.cluster_busy
cluster_busy = record {
  fit_ = record {
    id = numbered_fits (codes "x") 13 refl;
    name = tt;
    applies = (only fit.IsSpellableRef _ (word_fits (codes "gp") refl), All-nil fit.IsSpellableRef);
    rule = days_fit;
  };
  form_ = record { weight = omega arith; rule = (omega arith, omega arith); applies = tt };
}

limit_busy : Fits (constraints.limit_busy)
unfolding constraints.limit_busy
limit_busy = record {
  fit_ = record {
    id = numbered_fits (codes "x") 14 refl;
    name = tt;
    applies = (only fit.IsSpellableRef _ (word_fits (codes "gc") refl), All-nil fit.IsSpellableRef);
    rule = days_fit;
  };
  form_ = record { weight = omega arith; rule = (omega arith, omega arith); applies = tt };
}

limit_workload : Fits (constraints.limit_workload)
unfolding constraints.limit_workload
limit_workload = record {
  fit_ = record {
    id = numbered_fits (codes "x") 15 refl;
    name = tt;
    applies = (only fit.IsSpellableRef _ (word_fits (codes "gp") refl), All-nil fit.IsSpellableRef);
    rule = tt;
  };
  form_ = record { weight = omega arith; rule = (omega arith, omega arith); applies = tt };
}

event_fit_ : All fit.IsSpellableConstraint constraints.event_constraints
unfolding constraints.event_constraints
event_fit_ =
    three fit.IsSpellableConstraint constraints.assign_time constraints.assign_resource
    constraints.split_events assign_time.fit_ assign_resource.fit_
    split_events.fit_

event_form_ : All form.IsConstraint constraints.event_constraints
unfolding constraints.event_constraints
event_form_ =
    three form.IsConstraint constraints.assign_time constraints.assign_resource
    constraints.split_events assign_time.form_ assign_resource.form_
    split_events.form_

part_fit_ : All fit.IsSpellableConstraint constraints.part_constraints
unfolding constraints.part_constraints
part_fit_ =
    three fit.IsSpellableConstraint constraints.distribute constraints.prefer_times
    constraints.prefer_resources distribute.fit_ prefer_times.fit_
    prefer_resources.fit_

part_form_ : All form.IsConstraint constraints.part_constraints
unfolding constraints.part_constraints
part_form_ =
    three form.IsConstraint constraints.distribute constraints.prefer_times
    constraints.prefer_resources distribute.form_ prefer_times.form_
    prefer_resources.form_

group_fit_ : (size : ℕ) → All fit.IsSpellableConstraint (constraints.group_constraints size)
unfolding constraints.group_constraints
group_fit_ size =
    four fit.IsSpellableConstraint (constraints.avoid_split size) (constraints.spread_events size)
    constraints.link_events (constraints.order_events size) (avoid_split size).fit_ (spread_events size).fit_
    link_events.fit_ (order_events size).fit_

group_form_ : (size : ℕ) → All form.IsConstraint (constraints.group_constraints size)
unfolding constraints.group_constraints
group_form_ size =
    four form.IsConstraint (constraints.avoid_split size) (constraints.spread_events size)
    constraints.link_events (constraints.order_events size) (avoid_split size).form_ (spread_events size).form_
    link_events.form_ (order_events size).form_

resource_fit_ : All fit.IsSpellableConstraint constraints.resource_constraints
unfolding constraints.resource_constraints
resource_fit_ =
    three fit.IsSpellableConstraint constraints.avoid_clashes constraints.avoid_unavailable
    constraints.limit_idle avoid_clashes.fit_ avoid_unavailable.fit_
    limit_idle.fit_

resource_form_ : All form.IsConstraint constraints.resource_constraints
unfolding constraints.resource_constraints
resource_form_ =
    three form.IsConstraint constraints.avoid_clashes constraints.avoid_unavailable
    constraints.limit_idle avoid_clashes.form_ avoid_unavailable.form_
    limit_idle.form_

load_fit_ : All fit.IsSpellableConstraint constraints.load_constraints
unfolding constraints.load_constraints
load_fit_ =
    three fit.IsSpellableConstraint constraints.cluster_busy constraints.limit_busy
    constraints.limit_workload cluster_busy.fit_ limit_busy.fit_
    limit_workload.fit_

load_form_ : All form.IsConstraint constraints.load_constraints
unfolding constraints.load_constraints
load_form_ =
    three form.IsConstraint constraints.cluster_busy constraints.limit_busy
    constraints.limit_workload cluster_busy.form_ limit_busy.form_
    limit_workload.form_

constraints_fit_ : (size : ℕ) → All fit.IsSpellableConstraint (constraints.constraints size)
unfolding constraints.constraints
constraints_fit_ size =
    let two : List RawConstraint = constraints.event_constraints ++ constraints.part_constraints in
    let three_ : List RawConstraint = two ++ constraints.group_constraints size in
    let four_ : List RawConstraint = three_ ++ constraints.resource_constraints in
    let h = All-append fit.IsSpellableConstraint constraints.event_constraints constraints.part_constraints event_fit_
    part_fit_ in
    let k = All-append fit.IsSpellableConstraint two (constraints.group_constraints size) h (group_fit_ size) in
    let m = All-append fit.IsSpellableConstraint three_ constraints.resource_constraints k resource_fit_ in
    All-append fit.IsSpellableConstraint four_ constraints.load_constraints m load_fit_

constraints_form_ : (size : ℕ) → All form.IsConstraint (constraints.constraints size)
unfolding constraints.constraints
constraints_form_ size =
    let two : List RawConstraint = constraints.event_constraints ++ constraints.part_constraints in
    let three_ : List RawConstraint = two ++ constraints.group_constraints size in
    let four_ : List RawConstraint = three_ ++ constraints.resource_constraints in
    let h = All-append form.IsConstraint constraints.event_constraints constraints.part_constraints event_form_
    part_form_ in
    let k = All-append form.IsConstraint two (constraints.group_constraints size) h (group_form_ size) in
    let m = All-append form.IsConstraint three_ constraints.resource_constraints k resource_form_ in
    All-append form.IsConstraint four_ constraints.load_constraints m load_form_

-- the archive

instance_fits : (size : ℕ) (es : List DrawnEvent) → fit.IsSpellableInstance (made.instance size es)
unfolding made.instance
instance_fits size es = record {
  id = word_fits (codes "made") refl;
  meta_data = tt;
  time_groups = time_groups_fit;
  times = times_fit;
  resource_types = resource_types_fit;
  resource_groups = resource_groups_fit;
  resources = resources_fit size;
  event_groups = event_groups_fit size;
  events = all_made fit.IsSpellableEvent (events.event size) es (event_fits size);
  constraints = constraints_fit_ size;
}

instance_form : (size : ℕ) (es : List DrawnEvent) → All IsShortEvent es → form.IsInstance (made.instance size es)
unfolding made.instance
instance_form size es h = record {
  events = all_formed IsShortEvent form.IsEvent (events.event size) es (event_form size) h;
  constraints = constraints_form_ size;
}

group_fits : (all : List (List DrawnEntry)) → fit.IsSpellableSolutionGroup (made.solution_group all)
unfolding made.solution_group
group_fits all = record {
  id = word_fits (codes "g") refl;
  meta_data = tt;
  solutions = all_made fit.IsSpellableSolution solutions.solution all solution_fits;
}

group_form : (all : List (List DrawnEntry)) → All (All IsShortEntry) all
    → form.IsSolutionGroup (made.solution_group all)
unfolding made.solution_group
group_form all h = all_formed (All IsShortEntry) form.IsSolution solutions.solution all solution_form h

archive_fits : (size : ℕ) (j : DrawnJob) → All IsShortEvent j.events → All (All IsShortEntry) j.solutions
    → form.IsWellFormed (made.archive size j)
unfolding made.archive
archive_fits size j h k = record {
  in_form = record {
    instances = only form.IsInstance _ (instance_form size j.events h);
    solution_groups = only form.IsSolutionGroup _ (group_form j.solutions k);
  };
  spellable = record {
    id = tt;
    meta_data = tt;
    instances = only fit.IsSpellableInstance _ (instance_fits size j.events);
    solution_groups = only fit.IsSpellableSolutionGroup _ (group_fits j.solutions);
  };
}

pub made_fits : (seed size : ℕ) → form.IsWellFormed (made.made seed size)
unfolding made.made job.job
made_fits seed size =
    let first = job.events size seed in
    archive_fits size (job.job size seed).0 (events_short size seed)
    (solutions_short size first.0 first.1 (events_short size seed))

-- the archive of what was drawn
pub fits_of : (seed size : ℕ) (j : DrawnJob) (a : Archive) → j ≡ (job.job size seed).0 → a ≡ made.archive size j
    → form.IsWellFormed a
unfolding made.made
fits_of seed size j a f e = subst form.IsWellFormed (sym (e ∙ ap (made.archive size) f)) (made_fits seed size)
