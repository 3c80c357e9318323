-- Every reference of the instance that is made names a part of it.
use Rattle.std.proofs.Common.{ℕ, ◌≡◌, ◌+◌, ◌/◌, ◌%◌, ◌==◌, ◌<◌, Bool, true, false, not}
use Rattle.std.proofs.Common.{if◌then◌else◌, Option, Some, None, IfSome, List, [], ◌∷◌, ◌++◌, map, All, slice_get}
use Rattle.std.proofs.Common.{refl, sym, ap, subst, ◌∙◌, arith, flat_map}
use Rattle.std.specs.Prelude.{codes}
use Rattle.std.specs.Str.{bytes_eq}
use Rattle.std.proofs.lemmas.Bool.{not_from_true, or_left, or_right}
use Rattle.std.proofs.lemmas.Fmt.{decimal_digit, decimal_step}
use Rattle.std.proofs.lemmas.List.Concat.{flat_map-cons}
use Rattle.std.proofs.lemmas.List.Elements.{All-head, All-tail, All-append, All-weaker}
use Rattle.std.proofs.lemmas.List.Folds.{list_any-append}
use Rattle.khe_base.specs.Names.{is_among_names}
use Rattle.khe_base.proofs.ListLemmas.{filter-none}
use Rattle.xhstt_shape.specs.declared.records.RawResource.{RawResource}
use Rattle.xhstt_shape.specs.declared.records.Ref.{Ref}
use Rattle.xhstt_shape.specs.declared.records.Time.{Time}
use Rattle.xhstt_references.specs.Directories.{directory_of}
use Rattle.xhstt_references.specs.References as references
use Rattle.xhstt_references.specs.declared.directories.Directory.{Directory}
use Rattle.xhstt_entries.proofs.NumberLaws.{among_at}
use Rattle.archive_generator.specs.declared.drawing.DrawnEvent.{DrawnEvent}
use Rattle.archive_generator.specs.declared.resources.Sort.{Sort}
use Rattle.archive_generator.specs.declared.resources.Sort.TheVariants as sort
use Rattle.archive_generator.specs.Events as events
use Rattle.archive_generator.specs.Job as job
use Rattle.archive_generator.specs.Made as made
use Rattle.archive_generator.specs.Names.{name, to, numbered, below}
use Rattle.archive_generator.specs.Resources as resources
use Rattle.archive_generator.specs.Times as times
use Rattle.archive_generator.proofs.Spellable.{all_made, only}
use Rattle.generator_laws.proofs.DrawLaws.{AreDrawn}
use Rattle.generator_laws.proofs.IdLaws as id
use Rattle.generator_laws.proofs.IdLaws.{IsSize, row, day_row, resource_rows, both_none}
use Rattle.generator_laws.proofs.NumberLaws.{row_there, teacher_there, class_there, room_there}
use Rattle.generator_laws.proofs.NumberLaws.{all_below}

-- the directory of the instance
abbrev pub directory : ℕ → List DrawnEvent → Directory
directory size es = directory_of (made.instance size es)

-- a name is one of these names
abbrev pub IsAmong : List (List ℕ) → List ℕ → Type 0
IsAmong names name = is_among_names name names ≡ true

-- an Id is in its row, and in lists that are joined
pub in_row : (word : List ℕ) (count k : ℕ) → k < count → IsAmong (row word count) (numbered word k)
in_row word count k l = among_at (row word count) k (numbered word k) (row_there word count k l)

pub in_first : (xs ys : List (List ℕ)) (x : List ℕ) → IsAmong xs x → IsAmong (xs ++ ys) x
in_first xs ys x h = list_any-append (λ n. bytes_eq x n) xs ys ∙ or_left (is_among_names x xs) (is_among_names x ys) h

pub in_second : (xs ys : List (List ℕ)) (x : List ℕ) → IsAmong ys x → IsAmong (xs ++ ys) x
in_second xs ys x h = list_any-append (λ n. bytes_eq x n) xs ys ∙ or_right (is_among_names x xs) (is_among_names x ys) h

-- references that all name something are not unknown
abbrev pub Names : List (List ℕ) → Ref → Type 0
Names ids r = IsAmong ids r.id

-- so it is with a list of them, with one and with none
pub none_unknown : (ids : List (List ℕ)) (refs : List Ref) → All (Names ids) refs → references.unknown ids refs ≡ []
none_unknown ids refs h =
    ap (map (λ (r : Ref). r.at)) (filter-none (λ (r : Ref). not (is_among_names r.id ids)) refs
    (All-weaker (Names ids) (λ (r : Ref). not (is_among_names r.id ids) ≡ false) (λ r e. not_from_true _ e) refs h))

pub one_known : (ids : List (List ℕ)) (r : Ref) → Names ids r → references.unknown ids (r ∷ []) ≡ []
one_known ids r h = none_unknown ids (r ∷ []) (only (Names ids) r h)

pub maybe_known : (ids : List (List ℕ)) (o : Option Ref) → IfSome o (Names ids) → references.unknown_one ids o ≡ []
maybe_known ids None h = refl
maybe_known ids (Some r) h = one_known ids r h

-- where no element gives anything, nothing is given
pub none_given : {A B : Type 0} (f : A → List B) (xs : List A) → All (λ x. f x ≡ []) xs → flat_map f xs ≡ []
none_given f [] h = refl
none_given f (x ∷ xs) h =
    flat_map-cons f x xs
    ∙ both_none (f x) (flat_map f xs) (All-head (λ y. f y ≡ []) x xs h)
    (none_given f xs (All-tail (λ y. f y ≡ []) x xs h))

-- Ids that are written out
pub first_half_id : codes "h0" ≡ numbered (codes "h") 0
first_half_id = ap (λ d. codes "h" ++ d) (sym (decimal_digit 0 (omega arith)))

pub first_room_id : codes "q0" ≡ numbered (codes "q") 0
first_room_id = ap (λ d. codes "q" ++ d) (sym (decimal_digit 0 (omega arith)))

pub last_time_id : codes "t39" ≡ numbered (codes "t") 39
last_time_id = ap (λ d. codes "t" ++ d)
    (sym (decimal_step 39 (omega arith) (omega arith) ∙ ap (λ d. d ++ 57 ∷ []) (decimal_digit 3 (omega arith))))

-- what is true of each resource of a sort is true of all of them
pub all_resources : (P : RawResource → Type 0) (size : ℕ) (es : List DrawnEvent)
    → ((s : Sort) (n : ℕ) → P (resources.resource s n)) → All P (made.instance size es).resources
unfolding made.instance resources.resources
all_resources P size es each =
    let so_many = λ (s : Sort) (count : ℕ). all_made P (resources.resource s) (below count) (each s) in
    let teachers = resources.so_many sort.Teacher (job.teachers size) in
    let classes = resources.so_many sort.Class (job.classes size) in
    let rooms = resources.so_many sort.Room (job.rooms size) in
    All-append P (teachers ++ classes) rooms
    (All-append P teachers classes (so_many sort.Teacher (job.teachers size)) (so_many sort.Class (job.classes size)))
    (so_many sort.Room (job.rooms size))

module _ (size : ℕ) (es : List DrawnEvent) (s : IsSize size) (drawn : AreDrawn size es) where
  -- what stands in each list of Ids
  pub time_among : (t : ℕ) → t < 40 → IsAmong (directory size es).times (numbered (codes "t") t)
  time_among t l = subst (λ names. IsAmong names (numbered (codes "t") t)) (sym (id.time_ids size es))
      (in_row (codes "t") 40 t l)

  pub day_among : (n : ℕ) → n < 5 → IsAmong (directory size es).days (numbered (codes "d") n)
  day_among n l = subst (λ names. IsAmong names (numbered (codes "d") n)) (sym (id.day_ids size es))
      (in_row (codes "d") 5 n l)

  pub day_group_among : (n : ℕ) → n < 5
      → IsAmong (directory size es).time_groups (numbered (codes "d") n)
  day_group_among n l = subst (λ names. IsAmong names (numbered (codes "d") n)) (sym (id.time_group_ids size es))
      (in_first day_row (codes "early" ∷ []) (numbered (codes "d") n) (in_row (codes "d") 5 n l))

  pub early_among : IsAmong (directory size es).time_groups (codes "early")
  early_among = subst (λ names. IsAmong names (codes "early")) (sym (id.time_group_ids size es))
      (in_second day_row (codes "early" ∷ []) (codes "early") refl)

  pub type_among : (s : Sort) → IsAmong (directory size es).resource_types (resources.type_id s)
  type_among sort.Teacher = subst (λ names. IsAmong names (codes "Teacher")) (sym (id.resource_type_ids size es)) refl
  type_among sort.Class = subst (λ names. IsAmong names (codes "Class")) (sym (id.resource_type_ids size es)) refl
  type_among sort.Room = subst (λ names. IsAmong names (codes "Room")) (sym (id.resource_type_ids size es)) refl

  pub group_among : (s : Sort) → IsAmong (directory size es).resource_groups (resources.group s)
  group_among sort.Teacher = subst (λ names. IsAmong names (codes "gp")) (sym (id.resource_group_ids size es)) refl
  group_among sort.Class = subst (λ names. IsAmong names (codes "gc")) (sym (id.resource_group_ids size es)) refl
  group_among sort.Room = subst (λ names. IsAmong names (codes "gq")) (sym (id.resource_group_ids size es)) refl

  resource_among : (k : ℕ) (x : List ℕ) → slice_get (resource_rows size) k ≡ Some x
      → IsAmong (directory size es).resources x
  resource_among k x at = subst (λ names. IsAmong names x) (sym (id.resource_ids size es))
      (among_at (resource_rows size) k x at)

  pub teacher_among : (n : ℕ) → n < job.teachers size
      → IsAmong (directory size es).resources (numbered (codes "p") n)
  teacher_among n l = resource_among n (numbered (codes "p") n) (teacher_there size n l)

  pub class_among : (n : ℕ) → n < job.classes size
      → IsAmong (directory size es).resources (numbered (codes "c") n)
  class_among n l = resource_among (job.teachers size + n) (numbered (codes "c") n) (class_there size n l)

  pub room_among : (n : ℕ) → n < job.rooms size
      → IsAmong (directory size es).resources (numbered (codes "q") n)
  room_among n l = resource_among (job.teachers size + job.classes size + n) (numbered (codes "q") n)
      (room_there size n l)

  pub all_among : IsAmong (directory size es).event_groups (codes "all")
  all_among = subst (λ names. IsAmong names (codes "all")) (sym (id.event_group_ids size es)) refl

  pub half_among : (n : ℕ) → n < events.halves size
      → IsAmong (directory size es).event_groups (numbered (codes "h") n)
  half_among n l = subst (λ names. IsAmong names (numbered (codes "h") n)) (sym (id.event_group_ids size es))
      (in_second (codes "all" ∷ []) (row (codes "h") (events.halves size)) (numbered (codes "h") n)
      (in_row (codes "h") (events.halves size) n l))

  pub event_among : (n : ℕ) → n < size → IsAmong (directory size es).events (numbered (codes "e") n)
  event_among n l = subst (λ names. IsAmong names (numbered (codes "e") n)) (sym (id.event_ids size es drawn))
      (in_row (codes "e") size n l)

  -- times, resource groups and resources

  time_known : (n : ℕ) → n < 40 → references.unknown_in_time (directory size es) (times.time n) ≡ []
  time_known n l =
      let d = directory size es in
      let day : n / 8 < 5 = omega arith in
      both_none _ _ (one_known d.days (to (numbered (codes "d") (n / 8))) (day_among (n / 8) day)) (by (n % 8 == 0))
    where
      by : (b : Bool) → references.unknown (directory size es).time_groups
          (if b then to (codes "early") ∷ [] else []) ≡ []
      by true = one_known (directory size es).time_groups (to (codes "early")) early_among
      by false = refl

  -- no reference of a time, of a resource group or of a resource is unknown
  pub times_known : flat_map (references.unknown_in_time (directory size es))
      (made.instance size es).times ≡ []
  unfolding made.instance times.times
  times_known = none_given (references.unknown_in_time (directory size es)) (map times.time (below 40))
      (all_below (λ (t : Time). references.unknown_in_time (directory size es) t ≡ []) times.time 40
      time_known)

  pub groups_known : flat_map (references.unknown_in_group (directory size es))
      (made.instance size es).resource_groups ≡ []
  unfolding made.instance resources.resource_groups
  groups_known =
      let types = (directory size es).resource_types in
      both_none _ _ (one_known types (to (codes "Teacher")) (type_among sort.Teacher))
      (both_none _ _ (one_known types (to (codes "Class")) (type_among sort.Class))
      (both_none _ _ (one_known types (to (codes "Room")) (type_among sort.Room)) refl))

  resource_known : (s : Sort) (n : ℕ)
      → references.unknown_in_resource (directory size es) (resources.resource s n) ≡ []
  resource_known s n =
      let d = directory size es in
      both_none _ _ (one_known d.resource_types (to (resources.type_id s)) (type_among s))
      (one_known d.resource_groups (to (resources.group s)) (group_among s))

  pub resources_known : flat_map (references.unknown_in_resource (directory size es))
      (made.instance size es).resources ≡ []
  resources_known =
      let d = directory size es in
      let P : RawResource → Type 0 = λ r. references.unknown_in_resource d r ≡ [] in
      none_given (references.unknown_in_resource d) (made.instance size es).resources
      (all_resources P size es resource_known)
