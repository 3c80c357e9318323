-- From monitors that wait to what the family promises.
use Rattle.std.proofs.Common.{ℕ, ◌≡◌, ◌<◌, ◌==◌, ◌||◌, ◌∙◌, Bool, true, false, Some, List, [], ◌∷◌, get_or, length}
use Rattle.std.proofs.Common.{slice_get, refl, sym, ap, arith, ◌⊎◌, inl, inr}
use Rattle.std.specs.Option.{option_map_or}
use Rattle.std.proofs.lemmas.Bool.{cases_eq, eq-eqb, ne_eqb, true≢false}
use Rattle.std.proofs.lemmas.Option.{same_Some, slice_get-get_or}
use Rattle.khe_base.proofs.ListLemmas.{there}
use Rattle.khe_instance.specs.WellMade.{AreWellMade, IsMonitor}
use Rattle.khe_instance.specs.declared.parts.Parts.{Parts}
use Rattle.khe_instance.specs.declared.points.Monitor.{Monitor}
use Rattle.khe_instance.specs.declared.rules.EventPair.{EventPair}
use Rattle.khe_told.specs.Agreement.{deviation_in}
use Rattle.khe_told.specs.Lists.{duties_in, meets_in}
use Rattle.khe_told.specs.Waits.{AreUnmoved, WaitOn}
use Rattle.khe_told.specs.declared.slots.Slot.{Slot}
use Rattle.event_monitors.proofs.TurnLaws.{listed_as}
use Rattle.event_monitors.specs.Posts.{AreListed, ArePosts, names, posts_at}
use Rattle.event_monitors.specs.Turns.{has}
use Rattle.event_monitors.specs.declared.posts.Post.{Post}
use Rattle.set_monitors.specs.MeetEdges.{AreEdges, AreShort, IsEdges, IsWatched, own_slots}
use Rattle.set_monitors.specs.OrderPairs.{gap, is_order, no_edges, value_of}
use Rattle.set_monitors.specs.OrderWaits.{NamedWait}
use Rattle.set_monitors.specs.declared.meet_edges.Edges.{Edges}
use Rattle.set_monitors.proofs.BetweenLaws.{order_is, order_same}
use Rattle.set_monitors.proofs.OrderPairLaws.{HasPair, its_pair}
use Rattle.khe_instance.proofs.MadeLemmas.{monitor_made}

named_there : (p : Parts) (posts : List Post) (e k : ℕ) (a : Post) → slice_get posts k ≡ Some a
    → names p e a.monitor ≡ true → has (posts_at p posts e) k ≡ true
named_there p posts e k a at named = listed_as p posts e k a at ∙ named

-- an event that a post names has a list
pub watched : (p : Parts) (posts : List Post) (lists : List (List ℕ)) (e k : ℕ) (a : Post) → AreListed p posts lists
    → e < length p.events → slice_get posts k ≡ Some a → names p e a.monitor ≡ true → IsWatched lists e
watched p posts lists e k a listed l at named none =
    let here : slice_get lists e ≡ Some (get_or lists e []) =
    slice_get-get_or lists e [] (let r = listed.rows in omega (arith, r, l)) in
    let is : posts_at p posts e ≡ [] = sym (listed.each e (get_or lists e []) here) ∙ none in
    true≢false (sym (named_there p posts e k a at named) ∙ ap (λ ks. has ks k) is)

pub named_start : (p : Parts) (posts : List Post) (e : ℕ) (waits : ℕ → Bool)
    → NamedWait p posts e waits (posts_at p posts e)
named_start p posts e waits k a at named not = absurd (true≢false (sym (named_there p posts e k a at named) ∙ not))

-- one more monitor waits
pub named_step : (p : Parts) (posts : List Post) (e k : ℕ) (a : Post) (waits more : ℕ → Bool) (rest : List ℕ)
    → slice_get posts k ≡ Some a → more a.number.0 ≡ true → WaitOn waits more
    → NamedWait p posts e waits (k ∷ rest) → NamedWait p posts e more rest
named_step p posts e k a waits more rest at own on u j b there named not = by (cases_eq k j)
  where
    by : (k ≡ j) ⊎ (k ≡ j → ⊥) → more b.number.0 ≡ true
    by (inl o) =
        let same : a ≡ b = same_Some a b (sym at ∙ ap (slice_get posts) o ∙ there) in
        ap (λ (c : Post). more c.number.0) (sym same) ∙ own
    by (inr o) = on b.number.0 (u j b there named (λ i. ne_eqb k j o i || not i))

-- a monitor's deviation is its value
module _ (p : Parts) (posts : List Post) (lists : List (List ℕ)) (s : List Slot) (edges : List Edges)
    (made : AreWellMade p) (listed : AreListed p posts lists) (are : AreEdges p lists s edges)
    (short : AreShort s) where
  one_edges : (k e : ℕ) (a : Post) → slice_get posts k ≡ Some a → e < length p.events → names p e a.monitor ≡ true
      → IsEdges e s (get_or edges e no_edges)
  one_edges k e a at l named = are.each e (get_or edges e no_edges)
      (slice_get-get_or edges e no_edges (let r = are.rows in omega (arith, r, l)))
      (watched p posts lists e k a listed l at named)

  pub value_is : (k : ℕ) (a : Post) → slice_get posts k ≡ Some a → IsMonitor p a.monitor
      → is_order a.monitor.kind ≡ true → deviation_in p s a.monitor ≡ value_of p edges a.monitor
  value_is k a at monitor serves =
      let found = its_pair p a.monitor made monitor serves in
      let q : EventPair = found.0 in
      let h : HasPair p a.monitor q = found.1 in
      let one = one_edges k q.first.0 a at h.first (h.names_are q.first.0
      ∙ ap (λ b. b || (q.second.0 == q.first.0)) (eq-eqb q.first.0 q.first.0 refl)) in
      let two = one_edges k q.second.0 a at h.second
      (h.names_are q.second.0 ∙ ap (λ b. (q.first.0 == q.second.0) || b) (eq-eqb q.second.0 q.second.0 refl)
      ∙ or_true (q.first.0 == q.second.0)) in
      h.is (meets_in s) (duties_in s)
      ∙ order_is s q.first.0 q.second.0 (get_or edges q.first.0 no_edges) (get_or edges q.second.0 no_edges) q.min q.max
      short one two
      ∙ sym (ap (λ o. option_map_or (λ (q : EventPair). gap (get_or edges q.first.0 no_edges)
      (get_or edges q.second.0 no_edges) q) o 0) h.at)
    where
      or_true : (b : Bool) → (b || true) ≡ true
      or_true true = refl
      or_true false = refl

-- a turn of a slot of an event that a monitor does not name leaves its deviation
value_stays : (p : Parts) (s s2 : List Slot) (e : ℕ) (m : Monitor) → AreWellMade p → IsMonitor p m
    → is_order m.kind ≡ true → ((f : ℕ) → (e ≡ f → ⊥) → own_slots f s2 ≡ own_slots f s)
    → names p e m ≡ false → deviation_in p s m ≡ deviation_in p s2 m
value_stays p s s2 e m made monitor serves same none =
    let found = its_pair p m made monitor serves in
    let q : EventPair = found.0 in
    let h : HasPair p m q = found.1 in
    let off : ((q.first.0 == e) || (q.second.0 == e)) ≡ false = sym (h.names_are e) ∙ none in
    h.is (meets_in s) (duties_in s)
    ∙ order_same s s2 q.first.0 q.second.0 q.min q.max
    (same q.first.0 (λ i. true≢false (sym (ap (λ b. b || (q.second.0 == e)) (eq-eqb q.first.0 e (sym i))) ∙ off)))
    (same q.second.0 (λ i. true≢false (sym (or_true (q.first.0 == e))
    ∙ sym (ap (λ b. (q.first.0 == e) || b) (eq-eqb q.second.0 e (sym i))) ∙ off)))
    ∙ sym (h.is (meets_in s2) (duties_in s2))
  where
    or_true : (b : Bool) → (b || true) ≡ true
    or_true true = refl
    or_true false = refl

-- a monitor that does not wait does not name the event of the turn
pub unmoved_on : (p : Parts) (posts : List Post) (s s2 : List Slot) (e : ℕ) (waits : ℕ → Bool)
    → AreWellMade p → ArePosts p is_order posts → ((f : ℕ) → (e ≡ f → ⊥) → own_slots f s2 ≡ own_slots f s)
    → NamedWait p posts e waits [] → AreUnmoved p is_order waits s s2
unmoved_on p posts s s2 e waits made all same told i m there serves not =
    let found = all.all i m there serves in
    by found.0 found.1 (names p e m) refl
  where
    by : (k : ℕ) → slice_get posts k ≡ Some (record { number = record { 0 = i }; monitor = m }) → (b : Bool)
        → names p e m ≡ b → deviation_in p s2 m ≡ deviation_in p s m
    by k at true h = absurd (true≢false (sym (told k (record { number = record { 0 = i }; monitor = m }) at h refl)
        ∙ not))
    by k at false h = sym (value_stays p s s2 e m made (monitor_made p made i m there) serves same h)

-- where the starts and ends are the same after a turn, so are all deviations
pub unmoved_still : (p : Parts) (posts : List Post) (lists : List (List ℕ)) (s s2 : List Slot) (edges : List Edges)
    (waits : ℕ → Bool) → AreWellMade p → ArePosts p is_order posts → AreListed p posts lists
    → AreEdges p lists s edges → AreShort s → AreEdges p lists s2 edges → AreShort s2
    → AreUnmoved p is_order waits s s2
unmoved_still p posts lists s s2 edges waits made all listed are short are2 short2 i m there serves not =
    let found = all.all i m there serves in
    let a : Post = record { number = record { 0 = i }; monitor = m } in
    let monitor = monitor_made p made i m there in
    value_is p posts lists s2 edges made listed are2 short2 found.0 a found.1 monitor serves
    ∙ sym (value_is p posts lists s edges made listed are short found.0 a found.1 monitor serves)
