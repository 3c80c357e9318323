-- What a construction is written as is one thing, and there is one.
use Rattle.std.proofs.Common.{ℕ, ◌≡◌, ◌∙◌, refl, sym, ap, subst, true, Option, Some, None, Ok, List, []}
use Rattle.std.proofs.Common.{◌∷◌, ◌++◌, All, slice_get, option_map, encode_utf8_all, length}
use Rattle.std.specs.Prelude.{is_none}
use Rattle.std.specs.List.{range_with_len}
use Rattle.std.specs.Option.{option_map_or}
use Rattle.std.proofs.lemmas.Bool.{both_ways}
use Rattle.std.proofs.lemmas.List.Elements.{All-head, All-map, All-tail}
use Rattle.std.proofs.lemmas.Option.{same_Some, slice_get-map}
use Rattle.construct.proofs.BuiltLaws.{start_valid}
use Rattle.construct.proofs.TakenLaws.{taken_is}
use Rattle.construct.specs.Begun.{begun}
use Rattle.construct.specs.Choices.{assigns, gives, is_accepted, lowered, lowering}
use Rattle.construct.specs.Constructed.{IsBuilt, constructed, staffed, timed}
use Rattle.construct.specs.Orders.{order, tasks_of}
use Rattle.construct.specs.declared.built.Built.{Built}
use Rattle.construct_run.proofs.TextLaws.{built_text, mended_text}
use Rattle.construct_run.specs.Constructs.{IsBuiltText, IsConstructText, IsMendedText}
use Rattle.construct_run.specs.Grouped.{grouped}
use Rattle.construct_run.specs.Lines.{construct_line}
use Rattle.ejection_repair.proofs.EditLaws.{not_of_groups}
use Rattle.ejection_repair.proofs.KeptLaws.{same_grouping}
use Rattle.ejection_repair.specs.Repaired.{repaired}
use Rattle.khe_app.specs.Outcome.{IsConstructIn, IsConstructOf, IsConstructTo}
use Rattle.archive_reading.specs.Reading.{IsReadingOf, Reading, evaluable, refused}
use Rattle.archive_reading.specs.Refusals.{refusal_line}
use Rattle.archive_reading.specs.declared.refusals.Refusal.TheVariants.{NoSuchInstance}
use Rattle.khe_base.specs.declared.numbers.TaskId.{TaskId}
use Rattle.khe_engine.proofs.StateLaws.{edited_meets}
use Rattle.khe_engine.specs.Openings.{IsStateOf}
use Rattle.khe_engine.specs.States.{State, edited}
use Rattle.khe_engine.specs.Values as engine
use Rattle.khe_instance.specs.WellMade.{AreWellMade}
use Rattle.khe_instance.specs.declared.parts.Parts.{Parts}
use Rattle.khe_instance.specs.declared.states.Plain.{Plain}
use Rattle.khe_solution.proofs.EditLaws.{edit_slots, edit_valid}
use Rattle.khe_solution.proofs.OpenLaws.{open_valid}
use Rattle.khe_solution.specs.Refusing.{is_of_meets}
use Rattle.khe_solution.specs.Refusing as refusing
use Rattle.khe_told.specs.Lists.{meets_in, tasks_in}
use Rattle.khe_told.specs.Valid.{AreValid}
use Rattle.khe_told.specs.declared.edits.Edit.{Edit}
use Rattle.khe_told.specs.declared.edits.Edit.TheVariants.{Assign, Give}
use Rattle.parallel_repair.proofs.FillLemmas.{state_is}
use Rattle.repair_run.specs.Lines.{repair_line}
use Rattle.xhstt_entries.specs.Texts.{HasSpellable}
use Rattle.repair_run.specs.declared.mending.Mended.{Mended}
use Rattle.text_laws.proofs.ReadLaws.{IsInstanceOf, read_formed, spellable, well_made}
use Rattle.text_laws.proofs.StateLaws.{AreListed, cleared, cleared_state, cleared_valid, repaired_valid, state_there}
use Rattle.xhstt_completion.proofs.Resolved.{resolved-as}
use Rattle.xhstt_completion.specs.Entries.{IsEntry}
use Rattle.xhstt_entries.proofs.EntryLaws.{each_entry}
use Rattle.xhstt_entries.specs.Spelled.{entries_of}
use Rattle.xhstt_resolve.specs.Parts.{parts_of}
use Rattle.xhstt_resolve.specs.Resolved.{resolved}
use Rattle.xhstt_resolve.specs.declared.resolving.Resolved.{Resolved}
use Rattle.xhstt_shape.specs.Characters.{IsSpellable, IsSpellableInstance}
use Rattle.xhstt_shape.specs.WellFormed.{IsWellFormed}
use Rattle.xhstt_shape.specs.declared.records.Archive.{Archive}
use Rattle.xhstt_writer.specs.Archives.{canonical}
use Rattle.khe_base.proofs.ListLemmas.{all-there}
use Rattle.outcome_laws.specs.Outcomes.{AreOne}
use Rattle.outcome_laws.proofs.AnswerLaws.{Answer, both}
use Rattle.khe_app.proofs.ReadingLaws.{one_reading, spelled_by}
use Rattle.outcome_laws.proofs.ThereLaws.{reading_there}

-- a state that is constructed is valid, with the monitors and groups of the one before
pub record IsKept (p : Parts) (s u : State) : Type 0 where
  pub valid : AreValid p u.slots
  pub grouping : u.grouping ≡ s.grouping

abbrev IsOurs : Edit → Type 0
IsOurs e = is_of_meets e ≡ true

edited_kept : (p : Parts) (s u : State) (e : Edit) → IsOurs e → refusing.refusal p u.slots e ≡ None → IsKept p s u
    → IsKept p s (edited u e)
edited_kept p s u e ours none k =
    let meets = edited_meets u e (not_of_groups e ours) in
    let same = edit_slots p u.slots e k.valid ours none ∙ sym (ap (λ (x : State). x.slots) meets) in
    record {
      valid = subst (AreValid p) same (edit_valid p u.slots e k.valid ours none);
      grouping = ap (λ (x : State). x.grouping) meets ∙ k.grouping;
    }

none_is : {A : Type 0} (o : Option A) → is_none o ≡ true → o ≡ None
none_is None h = refl
none_is (Some r) h = absurd (both_ways _ refl h)

accepted_is : (p : Parts) (s : State) (e : Edit) → is_accepted p s e ≡ true → refusing.refusal p s.slots e ≡ None
unfolding is_accepted
accepted_is p s e h = none_is (refusing.refusal p s.slots e) h

placed_ours : (earlier later : List Edit) (e : Edit) → All IsOurs (earlier ++ e ∷ later) → IsOurs e
placed_ours [] later e h = All-head IsOurs e later h
placed_ours (x ∷ earlier) later e h = placed_ours earlier later e (All-tail IsOurs x (earlier ++ e ∷ later) h)

lowered_kept : (p : Parts) (s u : State) (es : List Edit) → All IsOurs es → IsKept p s u → IsKept p s (lowered p u es)
unfolding lowered
lowered_kept p s u es ours k = by (lowering p u es) refl
  where
    by : (o : Option Edit) → lowering p u es ≡ o → IsKept p s (option_map_or (edited u) o u)
    by None e = k
    by (Some x) e =
        let taken = taken_is p u es x e in
        edited_kept p s u x
        (placed_ours taken.least.earlier taken.least.later x (subst (All IsOurs) taken.least.place ours))
        (accepted_is p u x taken.least.accepted) k

assigns_ours : (p : Parts) (m : ℕ) → All IsOurs (assigns p m)
unfolding assigns
assigns_ours p m =
    All-map IsOurs (λ t. Assign (record { 0 = m }) (record { 0 = t })) (range_with_len 0 (length p.times)) (λ k d l. refl)

gives_ours : (p : Parts) (k : TaskId) → All IsOurs (gives p k)
unfolding gives
gives_ours p k = All-map IsOurs (λ r. Give k (record { 0 = r })) (range_with_len 0 (length p.resources)) (λ j d l. refl)

timed_kept : (p : Parts) (s u : State) (ms : List ℕ) → IsKept p s u → IsKept p s (timed p u ms)
unfolding timed
timed_kept p s u [] k = k
timed_kept p s u (m ∷ ms) k =
    timed_kept p s (lowered p u (assigns p m)) ms (lowered_kept p s u (assigns p m) (assigns_ours p m) k)

staffed_kept : (p : Parts) (s u : State) (ks : List TaskId) → IsKept p s u → IsKept p s (staffed p u ks)
unfolding staffed
staffed_kept p s u [] k = k
staffed_kept p s u (t ∷ ts) k =
    staffed_kept p s (lowered p u (gives p t)) ts (lowered_kept p s u (gives p t) (gives_ours p t) k)

constructed_kept : (p : Parts) (s : State) → AreValid p s.slots → IsKept p s (constructed p s)
unfolding constructed
constructed_kept p s v =
    let ms = order s.slots in
    staffed_kept p s (timed p s ms) (tasks_of s.slots ms) (timed_kept p s s ms (record { valid = v; grouping = refl }))

-- the bytes of what is built, and of what is mended, are the same for each that is
one_state : (p : Parts) (plain : Plain) (s t : State) → AreWellMade p → IsStateOf p plain s → IsStateOf p plain t → s ≡ t
one_state p plain s t made f g = state_is p plain s made f ∙ sym (state_is p plain t made g)

same_groups : (a : Archive) (p : Parts) (s t : Plain) → s.meets ≡ t.meets → s.tasks ≡ t.tasks
    → grouped a p s ≡ grouped a p t
same_groups a p s t meets tasks =
    λ i. grouped a p (record { meets = meets i; tasks = tasks i; detached = []; groups = [] })

record SameBuilt (p : Parts) (b c : Built) : Type 0 where
  meets : b.plain.meets ≡ c.plain.meets
  tasks : b.plain.tasks ≡ c.plain.tasks
  costs : b.totals ≡ c.totals

same_built : (p : Parts) (b c : Built) → AreWellMade p → IsBuilt p b → IsBuilt p c → SameBuilt p b c
same_built p b c made f g =
    let same = one_state p (begun p) f.start g.start made f.begins g.begins in
    record {
      meets = sym f.listed.meets ∙ ap (λ s. meets_in (constructed p s).slots) same ∙ g.listed.meets;
      tasks = sym f.listed.tasks ∙ ap (λ s. tasks_in (constructed p s).slots) same ∙ g.listed.tasks;
      costs = f.costs ∙ ap (λ s. engine.totals p (constructed p s)) same ∙ sym g.costs;
    }

built_texts : (a : Archive) (p : Parts) (text more : List ℕ) → AreWellMade p → IsBuiltText a p text
    → IsBuiltText a p more → encode_utf8_all text ≡ encode_utf8_all more
built_texts a p text more made f g =
    let same = same_built p f.built g.built made f.is g.is in
    f.bytes_are
    ∙ (λ i. canonical (same_groups a p f.built.plain g.built.plain same.meets same.tasks i)
    ++ encode_utf8_all (construct_line (length (same.meets i)) (same.costs i)))
    ∙ sym g.bytes_are

mended_texts : (a : Archive) (p : Parts) (depth budget : ℕ) (text more : List ℕ) → AreWellMade p
    → IsMendedText a p depth budget text → IsMendedText a p depth budget more
    → encode_utf8_all text ≡ encode_utf8_all more
mended_texts a p depth budget text more made f g =
    let same = same_built p f.built g.built made f.is g.is in
    let start = one_state p (begun p) f.is.start g.is.start made f.is.begins g.is.begins in
    let states : f.repair.state ≡ g.repair.state =
    one_state p f.built.plain f.repair.state (constructed p f.is.start) made f.repair.begins f.is.listed
    ∙ ap (constructed p) start
    ∙ one_state p g.built.plain (constructed p g.is.start) g.repair.state made g.is.listed g.repair.begins in
    let m = f.mended in
    let n = g.mended in
    let outcomes : m.outcome ≡ n.outcome =
    f.repair.outcome ∙ ap (λ s. (repaired p s depth budget 0).outcome) states ∙ sym g.repair.outcome in
    let costs : m.totals ≡ n.totals =
    f.repair.totals ∙ ap (λ s. engine.totals p (repaired p s depth budget 0).state) states ∙ sym g.repair.totals in
    let meets : m.plain.meets ≡ n.plain.meets =
    sym f.repair.listed.meets ∙ ap (λ s. meets_in (repaired p s depth budget 0).state.slots) states
    ∙ g.repair.listed.meets in
    let tasks : m.plain.tasks ≡ n.plain.tasks =
    sym f.repair.listed.tasks ∙ ap (λ s. tasks_in (repaired p s depth budget 0).state.slots) states
    ∙ g.repair.listed.tasks in
    f.bytes_are
    ∙ (λ i. canonical (same_groups a p m.plain n.plain meets tasks i)
    ++ encode_utf8_all (construct_line (length (same.meets i)) (same.costs i) ++ repair_line (outcomes i) (costs i)))
    ∙ sym g.bytes_are

texts : (a : Archive) (p : Parts) (chains : Option (ℕ × ℕ)) (text more : List ℕ) → AreWellMade p
    → IsConstructText a p chains text → IsConstructText a p chains more
    → encode_utf8_all text ≡ encode_utf8_all more
texts a p None text more made f g = built_texts a p text more made f g
texts a p (Some c) text more made f g = mended_texts a p c.0 c.1 text more made f g

-- the instance with a number
source : {A B : Type 0} (f : A → B) (o : Option A) (y : B) → option_map f o ≡ Some y → (x : A) × (o ≡ Some x) × (f x ≡ y)
source f None y e = absurd (let g : ⊥ = cc in g)
source f (Some x) y e = (x, refl, same_Some (f x) y e)

instance_at : (a : Archive) (r : Resolved) (number : ℕ) (p : Parts) → resolved a ≡ Ok r
    → slice_get r.instances number ≡ Some p → IsInstanceOf a p
instance_at a r number p e at =
    let s = source parts_of (slice_get a.instances number) p
    (sym (slice_get-map parts_of a.instances number) ∙ ap (λ xs. slice_get xs number) (sym (resolved-as a r e).instances)
    ∙ at) in
    record { place = number; instance = s.0; there = s.1; parts = s.2 }

-- an instance that can be constructed for
record IsFit (a : Archive) (p : Parts) : Type 0 where
  formed : IsWellFormed a
  made : AreWellMade p
  texts : HasSpellable p
  id : IsSpellable p.id

fit_at : (bytes : List ℕ) (a : Archive) (r : Resolved) (number : ℕ) (p : Parts) → IsReadingOf bytes (evaluable a r)
    → slice_get r.instances number ≡ Some p → IsFit a p
fit_at bytes a r number p is at =
    let read = (spelled_by bytes a r is).archive in
    let w = read_formed bytes a r read in
    let i = instance_at a r number p read.resolved_is at in
    record {
      formed = w;
      made = well_made a r p w read.resolved_is i;
      texts = spellable a p w i;
      id = subst (λ (q : Parts). IsSpellable q.id) i.parts
          (all-there IsSpellableInstance a.instances i.place i.instance w.spellable.instances i.there).id;
    }

of_instance : (a : Archive) (chains : Option (ℕ × ℕ)) (o : Option Parts) (status other : ℕ) (text more : List ℕ)
    → ((p : Parts) → o ≡ Some p → AreWellMade p) → IsConstructOf a chains o status text
    → IsConstructOf a chains o other more → AreOne status other text more
of_instance a chains None status other text more made f g = both status other 3 text more _ f.0 g.0 f.1 g.1
of_instance a chains (Some p) status other text more made f g =
    record { status = f.0 ∙ sym g.0; bytes = texts a p chains text more (made p refl) f.1 g.1 }

in_reading : (number : ℕ) (chains : Option (ℕ × ℕ)) (bytes : List ℕ) (x : Reading) (status other : ℕ)
    (text more : List ℕ) → IsReadingOf bytes x → IsConstructIn number chains x status text
    → IsConstructIn number chains x other more → AreOne status other text more
in_reading number chains bytes (evaluable a r) status other text more is f g =
    of_instance a chains (slice_get r.instances number) status other text more
    (λ p at. (fit_at bytes a r number p is at).made) f g
in_reading number chains bytes (refused x) status other text more is f g =
    both status other 3 text more _ f.0 g.0 f.1 g.1

pub constructs : (number : ℕ) (chains : Option (ℕ × ℕ)) (o : Option (List ℕ)) (status other : ℕ) (text more : List ℕ)
    → IsConstructTo number chains o status text → IsConstructTo number chains o other more
    → AreOne status other text more
constructs number chains None status other text more f g = both status other 4 text more [] f.0 g.0 f.1 g.1
constructs number chains (Some bytes) status other text more f g =
    in_reading number chains bytes f.reading status other text more f.is f.constructed
    (subst (λ x. IsConstructIn number chains x other more) (one_reading bytes g.reading f.reading g.is f.is)
    g.constructed)

-- there is one
record HasBuilt (p : Parts) : Type 0 where
  built : Built
  is : IsBuilt p built
  valid : AreValid p (constructed p is.start).slots
  alone : (built.plain.detached ≡ []) × (built.plain.groups ≡ [])

begun_alone : (p : Parts) → ((begun p).detached ≡ []) × ((begun p).groups ≡ [])
unfolding begun
begun_alone p = (refl, refl)

built_there : (p : Parts) → AreWellMade p → HasBuilt p
built_there p made =
    let whole = start_valid p (begun p) made refl in
    let s = state_there p (begun p) made whole.told in
    let kept = constructed_kept p s.0 (open_valid p s.0.slots (begun p) made s.1.told s.1.meets s.1.tasks whole) in
    let u = constructed p s.0 in
    let plain : Plain = record { meets = meets_in u.slots; tasks = tasks_in u.slots; detached = []; groups = [] } in
    let alone = begun_alone p in
    record {
      built = record { plain = plain; totals = engine.totals p u };
      is = record {
        start = s.0;
        begins = s.1;
        listed = cleared_state p (begun p) plain u kept.valid (record { meets = refl; tasks = refl })
            (kept.grouping ∙ s.1.grouping) alone.0 alone.1;
        costs = refl;
      };
      valid = kept.valid;
      alone = (refl, refl);
    }

entries_there : (p : Parts) (plain : Plain) (u : State) → AreWellMade p → AreValid p u.slots → AreListed u plain
    → All (IsEntry p) (entries_of p plain)
entries_there p plain u made v is = each_entry p (cleared plain) made (cleared_valid p plain u made v is).told

text_there : (a : Archive) (p : Parts) (chains : Option (ℕ × ℕ)) → IsFit a p
    → (text : List ℕ) × IsConstructText a p chains text
text_there a p None h =
    let b = built_there p h.made in
    let es = entries_there p b.built.plain (constructed p b.is.start) h.made b.valid
    (record { meets = b.is.listed.meets; tasks = b.is.listed.tasks }) in
    let t = built_text a h.formed p h.texts h.id b.built es in
    (t.0, record { built = b.built; is = b.is; bytes_are = t.1 })
text_there a p (Some c) h =
    let b = built_there p h.made in
    let s = constructed p b.is.start in
    let lists : AreListed s b.built.plain = record { meets = b.is.listed.meets; tasks = b.is.listed.tasks } in
    let stands = cleared_valid p b.built.plain s h.made b.valid lists in
    let begins = cleared_state p b.built.plain b.built.plain s b.valid lists b.is.listed.grouping b.alone.0 b.alone.1 in
    let good = repaired_valid p (cleared b.built.plain) s c.0 c.1 0 h.made stands begins in
    let u = (repaired p s c.0 c.1 0).state in
    let left : Plain = record {
      meets = meets_in u.slots;
      tasks = tasks_in u.slots;
      detached = b.built.plain.detached;
      groups = b.built.plain.groups;
    } in
    let m : Mended = record {
      outcome = (repaired p s c.0 c.1 0).outcome;
      totals = engine.totals p u;
      plain = left;
    } in
    let es = entries_there p left u h.made good (record { meets = refl; tasks = refl }) in
    let t = mended_text a h.formed p h.texts h.id b.built m es in (
      t.0,
      record {
        built = b.built;
        is = b.is;
        mended = m;
        repair = record {
          state = s;
          begins = b.is.listed;
          outcome = refl;
          listed = record {
            told = good.told;
            meets = refl;
            tasks = refl;
            grouping = same_grouping p s c.0 c.1 0 ∙ b.is.listed.grouping;
          };
          totals = refl;
        };
        bytes_are = t.1;
      },
    )

instance_there : (a : Archive) (chains : Option (ℕ × ℕ)) (o : Option Parts) → ((p : Parts) → o ≡ Some p → IsFit a p)
    → Answer (IsConstructOf a chains o)
instance_there a chains None h = (3, refusal_line NoSuchInstance, (refl, refl))
instance_there a chains (Some p) h = let t = text_there a p chains (h p refl) in (0, t.0, (refl, t.1))

reading_in : (number : ℕ) (chains : Option (ℕ × ℕ)) (bytes : List ℕ) (x : Reading) → IsReadingOf bytes x
    → Answer (IsConstructIn number chains x)
reading_in number chains bytes (evaluable a r) is =
    instance_there a chains (slice_get r.instances number) (λ p at. fit_at bytes a r number p is at)
reading_in number chains bytes (refused f) is = (3, refusal_line f, (refl, refl))

pub construct_there : (number : ℕ) (chains : Option (ℕ × ℕ)) (o : Option (List ℕ))
    → Answer (IsConstructTo number chains o)
construct_there number chains None = (4, [], (refl, refl))
construct_there number chains (Some bytes) =
    let x = reading_there bytes in
    let s = reading_in number chains bytes x.0 x.1 in
    (s.0, s.1, record { reading = x.0; is = x.1; constructed = s.2 })
