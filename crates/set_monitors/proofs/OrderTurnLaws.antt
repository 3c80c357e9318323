-- When the meets of events start and end, before and after a turn of a slot.
use Rattle.std.proofs.Common.{ℕ, ◌≡◌, ◌≤◌, ◌<◌, ◌+◌, ◌-◌, ◌==◌, ◌∙◌, Option, Some, List, [], ◌∷◌, ◌++◌, map, set}
use Rattle.std.proofs.Common.{get_or, get_or-set_same, length, slice_get, refl, sym, ap, subst, arith, ◌⊎◌, inl, inr}
use Rattle.std.specs.Prelude.{replicate}
use Rattle.std.proofs.lemmas.Bool.{cases_eq}
use Rattle.std.proofs.lemmas.List.{length-append, length-set}
use Rattle.std.proofs.lemmas.List.Elements.{All-get_or}
use Rattle.std.proofs.lemmas.Option.{get_or_from_slice_get, none-some, same_Some, slice_get-get_or}
use Rattle.khe_instance.specs.WellMade.{AreWellMade}
use Rattle.khe_instance.specs.declared.parts.EventInfo.{EventInfo}
use Rattle.khe_instance.specs.declared.parts.Parts.{Parts}
use Rattle.khe_told.specs.Slots.{emptied, no_meets, no_slot, slot_at}
use Rattle.khe_told.specs.Turns.{IsTurn, SlotTurn, turned}
use Rattle.khe_told.specs.declared.slots.Slot.{Slot}
use Rattle.khe_told.specs.declared.slots.Span.{Span}
use Rattle.event_monitors.proofs.PostLaws.{last_of}
use Rattle.set_monitors.specs.MeetEdges.{AreEdges, AreShort, IsEdges, IsShort, IsWatched, end_key, own_slots, start_key}
use Rattle.set_monitors.specs.declared.meet_edges.Edges.{Edges}
use Rattle.set_monitors.specs.declared.least_trees.TheConstants.{NOTHING}
use Rattle.set_monitors.proofs.OwnSlotLaws.{free_keys, in_range, map_set, own_free, own_other, own_set, own_within}
use Rattle.set_monitors.proofs.OwnSlotLaws.{read_same, told_short}
use Rattle.khe_base.proofs.ListLemmas.{get-other, get-set}

module _ (p : Parts) (s : List Slot) (t : SlotTurn) (made : AreWellMade p) (turns : IsTurn p s t) where
  abbrev m : ℕ
  m = t.before.meet.0

  abbrev e : ℕ
  e = t.before.event.0

  own : (slot_at s m).event.0 ≡ e
  own = ap (λ (y : Slot). y.event.0) turns.slot

  own_after : t.after.event.0 ≡ e
  own_after = ap (λ (y : Slot). y.event.0) turns.same

  pub short_after : AreShort (turned s t)
  short_after = told_short p (turned s t) made.limits.times turns.later

  -- the slot's place among its event's, and the meet that comes there
  pub record HasPlace (event : EventInfo) : Type 0 where
    pub from : event.first_meet ≤ m
    pub within : m - event.first_meet < length (own_slots e s)
    pub short : IsShort t.after.span

  pub has_place : (event : EventInfo) → slice_get p.events e ≡ Some event → HasPlace event
  has_place event at = record {
    from = (in_range p s made.first_meets turns.told.whose e event at m turns.there own).0;
    within = own_within p s made.first_meets turns.told.whose e event at m turns.there own;
    short = subst (λ (y : Slot). IsShort y.span) (get_or-set_same s m t.after no_slot turns.there)
        (All-get_or (λ (y : Slot). IsShort y.span) (turned s t) m no_slot
        (let k = length-set s m t.after in let l = turns.there in omega (arith, k, l)) short_after);
  }

  pub edges_set : (event : EventInfo) (a b : Edges) → slice_get p.events e ≡ Some event → IsEdges e s a
      → b.starts ≡ set a.starts (m - event.first_meet) (start_key t.after.span)
      → b.ends ≡ set a.ends (m - event.first_meet) (end_key t.after.span) → IsEdges e (turned s t) b
  edges_set event a b at is starts ends =
      let y = t.after in
      let mine = own_set p s made.first_meets turns.told.whose e event at m y turns.there own own_after in
      record {
        starts = starts ∙ ap (λ ns. set ns (m - event.first_meet) (start_key y.span)) is.starts
            ∙ map_set (λ (z : Slot). start_key z.span) (own_slots e s) (m - event.first_meet) y
            ∙ ap (map (λ (z : Slot). start_key z.span)) (sym mine);
        ends = ends ∙ ap (λ ns. set ns (m - event.first_meet) (end_key y.span)) is.ends
            ∙ map_set (λ (z : Slot). end_key z.span) (own_slots e s) (m - event.first_meet) y
            ∙ ap (map (λ (z : Slot). end_key z.span)) (sym mine);
      }

  pub own_same : (f : ℕ) → (e ≡ f → ⊥) → own_slots f (turned s t) ≡ own_slots f s
  own_same f n = own_other s f m t.after turns.there (λ h. n (sym own ∙ h)) (own_after ∙ sym own)

  edges_same : (f : ℕ) (a : Edges) → (e ≡ f → ⊥) → IsEdges f s a → IsEdges f (turned s t) a
  edges_same f a n is = record {
    starts = is.starts ∙ ap (map (λ (z : Slot). start_key z.span)) (sym (own_same f n));
    ends = is.ends ∙ ap (map (λ (z : Slot). end_key z.span)) (sym (own_same f n));
  }

  -- where the event has no list
  pub edges_kept : (lists : List (List ℕ)) (edges : List Edges) → get_or lists e [] ≡ [] → AreEdges p lists s edges
      → AreEdges p lists (turned s t) edges
  edges_kept lists edges none are = record { rows = are.rows; each = λ f a at w. by f a at w (cases_eq e f) }
    where
      by : (f : ℕ) (a : Edges) → slice_get edges f ≡ Some a → IsWatched lists f → (e ≡ f) ⊎ (e ≡ f → ⊥)
          → IsEdges f (turned s t) a
      by f a at w (inl same) = absurd (w (ap (λ k. get_or lists k []) (sym same) ∙ none))
      by f a at w (inr n) = edges_same f a n (are.each f a at w)

  -- where it has one
  pub edges_turned : (lists : List (List ℕ)) (edges : List Edges) (b : Edges) → e < length edges
      → IsEdges e (turned s t) b → AreEdges p lists s edges → AreEdges p lists (turned s t) (set edges e b)
  edges_turned lists edges b l is are = record {
    rows = length-set edges e b ∙ are.rows;
    each =
        λ f a at w. by f a at w (cases_eq e f);
  }
    where
      by : (f : ℕ) (a : Edges) → slice_get (set edges e b) f ≡ Some a → IsWatched lists f → (e ≡ f) ⊎ (e ≡ f → ⊥)
          → IsEdges f (turned s t) a
      by f a at w (inl same) =
          let new : b ≡ a = same_Some b a (sym (get-set edges e b l) ∙ ap (slice_get (set edges e b)) same ∙ at) in
          subst (λ k. IsEdges k (turned s t) a) same (subst (IsEdges e (turned s t)) new is)
      by f a at w (inr n) = edges_same f a n (are.each f a (sym (get-other edges e f b n) ∙ at) w)

-- the list that is read at an event's place is the event's
pub list_here : (lists : List (List ℕ)) (e : ℕ) (list : List ℕ) → e < length lists → list ≡ get_or lists e list
    → get_or lists e [] ≡ list
list_here lists e list l is = get_or_from_slice_get lists e list []
    (slice_get-get_or lists e list l ∙ ap Some (sym is))

-- a turn that keeps the meet leaves when the meets of all events start and end
pub edges_still : (p : Parts) (s : List Slot) (t : SlotTurn) (lists : List (List ℕ)) (edges : List Edges)
    → IsTurn p s t → t.before.span ≡ t.after.span → AreEdges p lists s edges → AreEdges p lists (turned s t) edges
edges_still p s t lists edges turns kept are = record {
  rows = are.rows;
  each = λ e a at w. still e a (are.each e a at w);
}
  where
    same : (f : Option Span → ℕ) (e : ℕ) → map (λ (y : Slot). f y.span) (own_slots e (turned s t))
        ≡ map (λ (y : Slot). f y.span) (own_slots e s)
    same f e = read_same (λ (y : Slot). y.event.0 == e) no_slot (λ (y : Slot). f y.span) s t.before.meet.0 t.after
        (ap (λ (y : Slot). y.event.0 == e) (turns.same ∙ sym (ap emptied turns.slot)))
        (ap f (sym kept) ∙ ap (λ (y : Slot). f y.span) (sym turns.slot))

    still : (e : ℕ) (a : Edges) → IsEdges e s a → IsEdges e (turned s t) a
    still e a is = record { starts = is.starts ∙ sym (same start_key e); ends = is.ends ∙ sym (same end_key e) }

-- without meets, those of the events so far
pub record AreOpened (p : Parts) (lists : List (List ℕ)) (edges : List Edges) (n : ℕ) : Type 0 where
  pub rows : length edges ≡ n
  pub each : (e : ℕ) (a : Edges) → slice_get edges e ≡ Some a → IsWatched lists e → IsEdges e (no_meets p) a

pub none_opened : (p : Parts) (lists : List (List ℕ)) → AreOpened p lists [] 0
none_opened p lists = record { rows = refl; each = λ e a at w. absurd (none-some a at) }

free_edges : (p : Parts) (e : ℕ) (event : EventInfo) (a : Edges) → slice_get p.events e ≡ Some event
    → a.starts ≡ replicate event.duration NOTHING → a.ends ≡ replicate event.duration NOTHING → IsEdges e (no_meets p) a
free_edges p e event a at starts ends = record {
  starts = starts ∙ sym (ap (map (λ (z : Slot). start_key z.span)) (own_free e p event at)
      ∙ free_keys start_key e event event.first_meet event.duration);
  ends = ends ∙ sym (ap (map (λ (z : Slot). end_key z.span)) (own_free e p event at)
      ∙ free_keys end_key e event event.first_meet event.duration);
}

pub one_opened : (p : Parts) (lists : List (List ℕ)) (edges new : List Edges) (n slots : ℕ) (event : EventInfo)
    (a : Edges) → slice_get p.events n ≡ Some event → (IsWatched lists n → slots ≡ event.duration)
    → a.starts ≡ replicate slots NOTHING → a.ends ≡ replicate slots NOTHING → new ≡ edges ++ a ∷ []
    → AreOpened p lists edges n → AreOpened p lists new (n + 1)
one_opened p lists edges new n slots event a at many starts ends is are =
    subst (λ es. AreOpened p lists es (n + 1)) (sym is) (record {
      rows = let l = length-append edges (a ∷ []) in let r = are.rows in omega (arith, l, r);
      each = λ f b h w. by f b w (last_of edges a b f h);
    })
  where
    by : (f : ℕ) (b : Edges) → IsWatched lists f → (slice_get edges f ≡ Some b) ⊎ ((f ≡ length edges) × (a ≡ b))
        → IsEdges f (no_meets p) b
    by f b w (inl h) = are.each f b h w
    by f b w (inr h) =
        let k : f ≡ n = h.0 ∙ are.rows in
        let slots_are = many (subst (IsWatched lists) k w) in
        subst (λ g. IsEdges g (no_meets p) b) (sym k) (subst (IsEdges n (no_meets p)) h.1
        (free_edges p n event a at (starts ∙ ap (λ d. replicate d NOTHING) slots_are)
        (ends ∙ ap (λ d. replicate d NOTHING) slots_are)))

pub all_opened : (p : Parts) (lists : List (List ℕ)) (edges : List Edges) → AreOpened p lists edges (length p.events)
    → AreEdges p lists (no_meets p) edges
all_opened p lists edges are = record { rows = are.rows; each = are.each }
