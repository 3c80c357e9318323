-- From gauges and lists to what a keeper promises.
use Rattle.std.proofs.Common.{ℕ, ◌≡◌, ◌<◌, ◌∙◌, Bool, true, false, Option, Some, None, List, [], ◌∷◌, ◌++◌, ◌⊎◌, inl}
use Rattle.std.proofs.Common.{inr}
use Rattle.std.proofs.Common.{length, get_or, slice_get, refl, sym, ap, subst, arith}
use Rattle.std.specs.Option.{option_map_or}
use Rattle.std.proofs.lemmas.Bool.{true≢false}
use Rattle.std.proofs.lemmas.Option.{slice_get_within, slice_get-get_or, get_or_from_slice_get}
use Rattle.khe_base.proofs.ListLemmas.{there}
use Rattle.khe_instance.specs.declared.parts.Parts.{Parts}
use Rattle.khe_instance.specs.declared.points.Monitor.{Monitor}
use Rattle.khe_instance.specs.declared.rules.Kind.{Kind}
use Rattle.khe_instance.specs.declared.rules.Constraint.{Constraint}
use Rattle.khe_instance.specs.Watching.{names_event}
use Rattle.khe_told.specs.Agreement.{deviation_in}
use Rattle.khe_told.specs.Turns.{AreWatchers, SlotTurn, Watches}
use Rattle.khe_told.specs.Waits.{AreUnmoved}
use Rattle.khe_told.specs.declared.slots.Slot.{Slot}
use Rattle.event_monitors.specs.Posts.{posts_at, ArePosts, AreListed, AreKept}
use Rattle.event_monitors.specs.Turns.{has, AreListedSince, AreSameOrWait}
use Rattle.event_monitors.specs.declared.posts.Post.{Post}
use Rattle.event_monitors.proofs.PostLaws.{last_of}
use Rattle.event_monitors.proofs.TurnLaws.{listed_as}

pick : {G : Type 0} (xs : List G) (k : ℕ) → k < length xs → (g : G) × (slice_get xs k ≡ Some g)
pick xs k l = let t = there xs k l in (t.value, t.found)

module _ {G : Type 0} (keeps : G → Parts → Monitor → List Slot → Type 0) (value : G → Parts → Monitor → ℕ)
    (exact : (g : G) (p : Parts) (m : Monitor) (s : List Slot) → keeps g p m s → deviation_in p s m ≡ value g p m)
    (p : Parts) (served : Kind → Bool) (posts : List Post) (s s2 : List Slot) (all : ArePosts p served posts) where
  -- a monitor that does not wait has the same deviation, since its gauge has the same value
  pub unmoved_on : (old new : List G) (waits : ℕ → Bool) → length old ≡ length posts → length new ≡ length posts
      → AreKept keeps p posts old s → AreKept keeps p posts new s2 → AreSameOrWait value p posts old new waits
      → AreUnmoved p served waits s s2
  unmoved_on old new waits same same2 kept kept2 u i m at serves not =
      let found = all.all i m at serves in
      let k = found.0 in
      let l = slice_get_within posts k _ found.1 in
      by k found.1 (pick old k (omega (arith, same, l))) (pick new k (omega (arith, same2, l)))
    where
      by : (k : ℕ) → slice_get posts k ≡ Some (record { number = record { 0 = i }; monitor = m })
          → ((g : G) × (slice_get old k ≡ Some g)) → ((g : G) × (slice_get new k ≡ Some g))
          → deviation_in p s2 m ≡ deviation_in p s m
      by k at one two =
          exact two.0 p m s2 (kept2 k _ two.0 at two.1)
          ∙ u k _ one.0 two.0 at one.1 two.1 not
          ∙ sym (exact one.0 p m s (kept k _ one.0 at one.1))

-- who has a post at a listed place watches the turn
pub watchers_on : (p : Parts) (served : Kind → Bool) (posts : List Post) (t : SlotTurn) (old new : ℕ → Bool)
    → ArePosts p served posts → AreListedSince posts (posts_at p posts t.before.event.0) old new
    → AreWatchers p t old new
watchers_on p served posts t old new all since i h = by (since i h)
  where
    e : ℕ
    e = t.before.event.0

    named : (m : Monitor) → slice_get p.monitors i ≡ Some m → (o : Option Constraint)
        → slice_get p.constraints m.constraint ≡ o
        → option_map_or (λ (k : Constraint). names_event p k.rule m.point e) o false ≡ true → Watches p t i
    named m at None there n = absurd (true≢false (sym n))
    named m at (Some k) there n = (m, k, at, there, inl n)

    by : (old i ≡ true)
        ⊎ ((k : ℕ) × (a : Post) × (has (posts_at p posts e) k ≡ true) × (slice_get posts k ≡ Some a) × (a.number.0 ≡ i))
        → (old i ≡ true) ⊎ Watches p t i
    by (inl w) = inl w
    by (inr l) = inr (named l.1.monitor (ap (slice_get p.monitors) (sym l.4) ∙ (all.each l.0 l.1 l.3).there)
        (slice_get p.constraints l.1.monitor.constraint) refl (sym (listed_as p posts e l.0 l.1 l.3) ∙ l.2))

pub list_of : (p : Parts) (posts : List Post) (lists : List (List ℕ)) (e : ℕ) (list : List ℕ) → AreListed p posts lists
    → e < length p.events → list ≡ get_or lists e list → list ≡ posts_at p posts e
list_of p posts lists e list h l is = let r = h.rows in
    is ∙ h.each e (get_or lists e list) (slice_get-get_or lists e list (omega (arith, r, l)))

pub kept_more : {G : Type 0} (keeps : G → Parts → Monitor → List Slot → Type 0) (p : Parts) (posts : List Post)
    (s : List Slot) (gauges : List G) (g : G) (d : Post)
    → length gauges < length posts → keeps g p (get_or posts (length gauges) d).monitor s
    → AreKept keeps p posts gauges s → AreKept keeps p posts (gauges ++ g ∷ []) s
kept_more {G} keeps p posts s gauges g d l one all k a x there here = by (last_of gauges g x k here)
  where
    by : (slice_get gauges k ≡ Some x) ⊎ ((k ≡ length gauges) × (g ≡ x)) → keeps x p a.monitor s
    by (inl e) = all k a x there e
    by (inr e) = subst (λ y. keeps y p a.monitor s) e.1
        (subst (λ (b : Post). keeps g p b.monitor s) (get_or_from_slice_get posts (length gauges) a d
        (ap (slice_get posts) (sym e.0) ∙ there)) one)
