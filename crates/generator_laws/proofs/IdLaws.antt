-- The Ids of the instance that is made: each list of them, and that none has an Id twice.
use Rattle.std.proofs.Common.{ℕ, ◌≡◌, ◌≤◌, ◌⊎◌, inl, inr, true, false, List, [], ◌∷◌, ◌++◌}
use Rattle.std.proofs.Common.{map, refl, sym, ap, ◌∙◌, arith}
use Rattle.std.specs.Prelude.{codes}
use Rattle.std.specs.Str.{bytes_eq}
use Rattle.std.proofs.lemmas.Bool.{or_cases}
use Rattle.std.proofs.lemmas.List.{append-nil, map-append}
use Rattle.std.proofs.lemmas.List.Elements.{filter-append}
use Rattle.std.proofs.lemmas.List.Folds.{list_any-append}
use Rattle.std.proofs.lemmas.Simd.{map-map}
use Rattle.khe_base.specs.declared.limits.TheConstants.{MADE_EVENTS}
use Rattle.khe_base.specs.Names.{is_among_names, are_distinct}
use Rattle.khe_base.proofs.ListLemmas.{filter-all}
use Rattle.xhstt_shape.specs.declared.records.RawResource.{RawResource}
use Rattle.xhstt_shape.specs.declared.records.TimeGroup.{TimeGroup}
use Rattle.xhstt_references.specs.Ids as ids
use Rattle.xhstt_references.specs.References.{repeated_ids}
use Rattle.archive_generator.specs.declared.drawing.DrawnEvent.{DrawnEvent}
use Rattle.archive_generator.specs.declared.resources.Sort.TheVariants as sort
use Rattle.archive_generator.specs.Constraints as constraints
use Rattle.archive_generator.specs.Events as events
use Rattle.archive_generator.specs.Job as job
use Rattle.archive_generator.specs.Made as made
use Rattle.archive_generator.specs.Names.{numbered, below}
use Rattle.archive_generator.specs.Resources as resources
use Rattle.archive_generator.specs.Times as times
use Rattle.archive_generator.proofs.Spellable.{all_made, only}
use Rattle.generator_laws.proofs.DrawLaws.{AreDrawn}
use Rattle.generator_laws.proofs.NameLaws.{numbered_distinct, AreForeign, distinct_joined, Begin, letter, foreign}
use Rattle.generator_laws.proofs.NameLaws.{none_repeated}

-- the Ids of one word
abbrev pub row : List ℕ → ℕ → List (List ℕ)
row word count = map (numbered word) (below count)

-- the Ids of the days, and those of teachers, classes and rooms
abbrev pub day_row : List (List ℕ)
day_row = row (codes "d") 5

abbrev pub resource_rows : ℕ → List (List ℕ)
resource_rows size = (row (codes "p") (job.teachers size) ++ row (codes "c") (job.classes size))
    ++ row (codes "q") (job.rooms size)

-- the size of a job, as far as the laws need it
pub record IsSize (size : ℕ) : Type 0 where
  pub some : 1 ≤ size
  pub few : size ≤ MADE_EVENTS

module _ (size : ℕ) (es : List DrawnEvent) where
  pub time_ids : ids.time_ids (made.instance size es) ≡ row (codes "t") 40
  unfolding made.instance times.times
  time_ids = map-map (λ t. t.id.text) times.time (below 40)

  pub time_group_ids : ids.time_group_ids (made.instance size es) ≡ day_row ++ codes "early" ∷ []
  unfolding made.instance times.time_groups
  time_group_ids =
      map-append (λ (g : TimeGroup). g.id.text) (map times.day (below 5)) (times.early ∷ [])
      ∙ ap (λ r. r ++ codes "early" ∷ []) (map-map (λ (g : TimeGroup). g.id.text) times.day (below 5))

  pub day_ids : ids.day_ids (made.instance size es) ≡ day_row
  unfolding made.instance times.time_groups
  day_ids =
      let test = λ (g : TimeGroup). ids.is_day g.sort in
      ap (map (λ (g : TimeGroup). g.id.text))
      (filter-append test (map times.day (below 5)) (times.early ∷ [])
      ∙ ap (λ r. r ++ []) (filter-all test (map times.day (below 5))
      (all_made (λ (g : TimeGroup). test g ≡ true) times.day (below 5) (λ n. refl))))
      ∙ map-append (λ (g : TimeGroup). g.id.text) (map times.day (below 5)) []
      ∙ ap (λ r. r ++ []) (map-map (λ (g : TimeGroup). g.id.text) times.day (below 5))
      ∙ append-nil day_row

  pub resource_type_ids : ids.resource_type_ids (made.instance size es)
      ≡ codes "Teacher" ∷ (codes "Class" ∷ (codes "Room" ∷ []))
  unfolding made.instance resources.resource_types
  resource_type_ids = refl

  pub resource_group_ids : ids.resource_group_ids (made.instance size es)
      ≡ codes "gp" ∷ (codes "gc" ∷ (codes "gq" ∷ []))
  unfolding made.instance resources.resource_groups
  resource_group_ids = refl

  pub resource_ids : ids.resource_ids (made.instance size es) ≡ resource_rows size
  unfolding made.instance resources.resources
  resource_ids =
      let f = λ (r : RawResource). r.id.text in
      let teachers = resources.so_many sort.Teacher (job.teachers size) in
      let classes = resources.so_many sort.Class (job.classes size) in
      let rooms = resources.so_many sort.Room (job.rooms size) in
      map-append f (teachers ++ classes) rooms
      ∙ ap (λ r. r ++ map f rooms) (map-append f teachers classes)
      ∙ (λ i. (map-map f (resources.resource sort.Teacher) (below (job.teachers size)) i
      ++ map-map f (resources.resource sort.Class) (below (job.classes size)) i)
      ++ map-map f (resources.resource sort.Room) (below (job.rooms size)) i)

  pub event_group_ids : ids.event_group_ids (made.instance size es)
      ≡ codes "all" ∷ row (codes "h") (events.halves size)
  unfolding made.instance events.event_groups
  event_group_ids = ap (λ r. codes "all" ∷ r) (map-map (λ g. g.id.text) events.half (below (events.halves size)))

  pub event_ids : AreDrawn size es → ids.event_ids (made.instance size es) ≡ row (codes "e") size
  unfolding made.instance events.event
  event_ids drawn =
      map-map (λ e. e.id.text) (events.event size) es
      ∙ sym (map-map (numbered (codes "e")) (λ (e : DrawnEvent). e.number) es)
      ∙ ap (map (numbered (codes "e"))) drawn.numbers

  constraint_ids : map (λ c. c.id.text) (made.instance size es).constraints ≡ row (codes "x") 16
  unfolding made.instance constraints.constraints constraints.event_constraints constraints.part_constraints
      constraints.group_constraints constraints.resource_constraints constraints.load_constraints
      constraints.assign_time constraints.assign_resource constraints.split_events constraints.distribute
      constraints.prefer_times constraints.prefer_resources constraints.avoid_split constraints.spread_events
      constraints.link_events constraints.order_events constraints.avoid_clashes constraints.avoid_unavailable
      constraints.limit_idle constraints.cluster_busy constraints.limit_busy constraints.limit_workload below
  constraint_ids = refl

-- Ids of one word begin with its letter
row_begins : (c : ℕ) (word : List ℕ) (count : ℕ) → ((n : ℕ) → letter (numbered word n) ≡ c) → Begin c (row word count)
row_begins c word count h = all_made (λ (n : List ℕ). letter n ≡ c) (numbered word) (below count) h

joined_foreign : (xs ys zs : List (List ℕ)) → AreForeign xs zs → AreForeign ys zs → AreForeign (xs ++ ys) zs
joined_foreign xs ys zs h k x e =
    by (or_cases (is_among_names x xs) (is_among_names x ys) (sym (list_any-append (λ n. bytes_eq x n) xs ys) ∙ e))
  where
    by : (is_among_names x xs ≡ true) ⊎ (is_among_names x ys ≡ true) → is_among_names x zs ≡ false
    by (inl f) = h x f
    by (inr f) = k x f

-- no list has an Id twice

pub times_distinct : are_distinct (row (codes "t") 40) ≡ true
times_distinct = numbered_distinct (codes "t") 40 (omega arith)

pub days_distinct : are_distinct (day_row ++ codes "early" ∷ []) ≡ true
days_distinct =
    distinct_joined day_row (codes "early" ∷ []) (numbered_distinct (codes "d") 5 (omega arith)) refl
    (foreign 100 101 day_row (codes "early" ∷ []) (λ e. omega arith)
    (row_begins 100 (codes "d") 5 (λ n. refl))
    (only (λ (n : List ℕ). letter n ≡ 101) (codes "early") refl))

pub resources_distinct : (size : ℕ) → IsSize size → are_distinct (resource_rows size) ≡ true
resources_distinct size s =
    let few = s.few in
    let p = row (codes "p") (job.teachers size) in
    let c = row (codes "c") (job.classes size) in
    let q = row (codes "q") (job.rooms size) in
    let begin_p : Begin 112 p = row_begins 112 (codes "p") (job.teachers size) (λ n. refl) in
    let begin_c : Begin 99 c = row_begins 99 (codes "c") (job.classes size) (λ n. refl) in
    let begin_q : Begin 113 q = row_begins 113 (codes "q") (job.rooms size) (λ n. refl) in
    distinct_joined (p ++ c) q
    (distinct_joined p c (numbered_distinct (codes "p") (job.teachers size) (omega arith))
    (numbered_distinct (codes "c") (job.classes size) (omega arith))
    (foreign 112 99 p c (λ e. omega arith) begin_p begin_c))
    (numbered_distinct (codes "q") (job.rooms size) (omega arith))
    (joined_foreign p c q (foreign 112 113 p q (λ e. omega arith) begin_p begin_q)
    (foreign 99 113 c q (λ e. omega arith) begin_c begin_q))

pub event_groups_distinct : (size : ℕ) → IsSize size
    → are_distinct (codes "all" ∷ row (codes "h") (events.halves size)) ≡ true
event_groups_distinct size s =
    let few = s.few in
    let h = row (codes "h") (events.halves size) in
    distinct_joined (codes "all" ∷ []) h refl (numbered_distinct (codes "h") (events.halves size) (omega arith))
    (foreign 97 104 (codes "all" ∷ []) h (λ e. omega arith)
    (only (λ (n : List ℕ). letter n ≡ 97) (codes "all") refl)
    (row_begins 104 (codes "h") (events.halves size) (λ n. refl)))

pub events_distinct : (size : ℕ) → IsSize size → are_distinct (row (codes "e") size) ≡ true
events_distinct size s = let few = s.few in numbered_distinct (codes "e") size (omega arith)

-- empty lists that are joined are empty
pub both_none : {A : Type 0} (xs ys : List A) → xs ≡ [] → ys ≡ [] → xs ++ ys ≡ []
both_none xs ys h k = λ i. h i ++ k i

-- no Id of the instance comes twice
pub none_repeated_ids : (size : ℕ) (es : List DrawnEvent) → IsSize size → AreDrawn size es
    → repeated_ids (made.instance size es) ≡ []
none_repeated_ids size es s drawn =
    let i = made.instance size es in
    both_none _ _ (none_repeated (λ g. g.id) i.time_groups (ap are_distinct (time_group_ids size es) ∙ days_distinct))
    (both_none _ _ (none_repeated (λ t. t.id) i.times (ap are_distinct (time_ids size es) ∙ times_distinct))
    (both_none _ _ (none_repeated (λ t. t.id) i.resource_types (ap are_distinct (resource_type_ids size es)))
    (both_none _ _ (none_repeated (λ g. g.id) i.resource_groups (ap are_distinct (resource_group_ids size es)))
    (both_none _ _ (none_repeated (λ r. r.id) i.resources
    (ap are_distinct (resource_ids size es) ∙ resources_distinct size s))
    (both_none _ _ (none_repeated (λ g. g.id) i.event_groups
    (ap are_distinct (event_group_ids size es) ∙ event_groups_distinct size s))
    (both_none _ _ (none_repeated (λ e. e.id) i.events
    (ap are_distinct (event_ids size es drawn) ∙ events_distinct size s))
    (none_repeated (λ c. c.id) i.constraints
    (ap are_distinct (constraint_ids size es) ∙ numbered_distinct (codes "x") 16 (omega arith)))))))))
