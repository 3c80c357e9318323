-- Ids without repeats are distinct.
use Rattle.std.proofs.Common.{ℕ, ◌≡◌, ◌+◌, true, false, List, [], ◌∷◌, ◌++◌, map, refl, sym, ap, ◌∙◌}
use Rattle.std.specs.Str.{bytes_eq}
use Rattle.std.proofs.lemmas.Bool.{true≢false, and_from, not_from_false, or_from, or_left, or_right, false_from_ne_true}
use Rattle.std.proofs.lemmas.Simd.{map-map}
use Rattle.std.proofs.lemmas.Slice.Eq.{bytes_eq-Decides}
use Rattle.khe_base.specs.Names.{is_among_names, are_distinct}
use Rattle.khe_instance.specs.declared.parts.EventInfo.{EventInfo}
use Rattle.khe_instance.specs.declared.parts.ResourceInfo.{ResourceInfo}
use Rattle.xhstt_references.specs.References.{repeated, repeated_after}
use Rattle.xhstt_resolve.specs.Parts.{events_from, resource_of, parts_of}
use Rattle.xhstt_resolve.proofs.WellMadeFaults.{IsFaultless}
use Rattle.xhstt_shape.specs.declared.records.Name.{Name}
use Rattle.xhstt_shape.specs.declared.records.RawEvent.{RawEvent}
use Rattle.xhstt_shape.specs.declared.records.RawInstance.{RawInstance}
use Rattle.xhstt_shape.specs.declared.records.RawResource.{RawResource}
use Rattle.xhstt_references.proofs.RepeatsLemmas.{among_more, fresh}

-- names of which none comes again are distinct, and none is among those before them
record AreFresh (seen : List (List ℕ)) (names : List (List ℕ)) : Type 0 where
  distinct : are_distinct names ≡ true
  apart : (x : List ℕ) → is_among_names x seen ≡ true → is_among_names x names ≡ false

all_fresh : (seen : List (List ℕ)) (ns : List Name) → repeated_after seen ns ≡ [] → AreFresh seen (map (λ n. n.text) ns)
all_fresh seen [] h = record { distinct = refl; apart = λ x e. refl }
all_fresh seen (n ∷ ns) h =
    let f = fresh seen n ns h in
    let later = all_fresh (seen ++ n.text ∷ []) ns f.1 in
    let here : is_among_names n.text (seen ++ n.text ∷ []) ≡ true =
    among_more n.text n.text seen ∙ or_right (is_among_names n.text seen) _
    (or_left (bytes_eq n.text n.text) false ((bytes_eq-Decides n.text n.text).1 refl))
    in
    record {
      distinct = and_from _ _ (not_from_false _ (later.apart n.text here)) later.distinct;
      apart = λ x e.
          or_from (bytes_eq x n.text) _
          (false_from_ne_true _ (λ same. true≢false (sym e
          ∙ ap (λ y. is_among_names y seen) ((bytes_eq-Decides x n.text).0 same) ∙ f.0)))
          (later.apart x (among_more x n.text seen ∙ or_left (is_among_names x seen) _ e));
    }

pub distinct : {X : Type 0} (id : X → Name) (xs : List X) → repeated (map id xs) ≡ []
    → are_distinct (map (λ x. (id x).text) xs) ≡ true
distinct id xs h = ap are_distinct (sym (map-map (λ n. n.text) id xs)) ∙ (all_fresh [] (map id xs) h).distinct

pub distinct_names : (ns : List Name) → repeated ns ≡ [] → are_distinct (map (λ n. n.text) ns) ≡ true
distinct_names ns h = (all_fresh [] ns h).distinct

-- the Ids of parts are those of the archive
pub event-ids : (i : RawInstance) (next : ℕ) (es : List RawEvent)
    → map (λ e. e.id) (events_from i next es) ≡ map (λ e. e.id.text) es
event-ids i next [] = refl
event-ids i next (e ∷ es) = ap (λ xs. e.id.text ∷ xs) (event-ids i (next + e.duration) es)

pub resource-ids : (i : RawInstance) (rs : List RawResource)
    → map (λ r. r.id) (map (resource_of i) rs) ≡ map (λ r. r.id.text) rs
resource-ids i [] = refl
resource-ids i (r ∷ rs) = ap (λ xs. r.id.text ∷ xs) (resource-ids i rs)

pub times_distinct : (i : RawInstance) → IsFaultless i → are_distinct (parts_of i).times ≡ true
times_distinct i sound = distinct (λ t. t.id) i.times sound.times

pub resources_distinct : (i : RawInstance) → IsFaultless i
    → are_distinct (map (λ (r : ResourceInfo). r.id) (parts_of i).resources) ≡ true
resources_distinct i sound = ap are_distinct (resource-ids i i.resources)
    ∙ distinct (λ r. r.id) i.resources sound.resources

pub events_distinct : (i : RawInstance) → IsFaultless i
    → are_distinct (map (λ (e : EventInfo). e.id) (parts_of i).events) ≡ true
events_distinct i sound = ap are_distinct (event-ids i 0 i.events) ∙ distinct (λ e. e.id) i.events sound.events
