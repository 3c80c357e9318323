-- The list of one resource.
use Rattle.std.proofs.Common.{ℕ, ◌≡◌, ◌<◌, ◌∙◌, ◌&&◌, ◌⊎◌, inl, inr, Bool, true, false, Option, Some, None, List, []}
use Rattle.std.proofs.Common.{length, get_or, slice_get}
use Rattle.std.proofs.Common.{refl, sym, ap, subst, arith, zero-add}
use Rattle.std.proofs.lemmas.Bool.{and_parts, eqb-true, false≢true}
use Rattle.std.proofs.lemmas.Option.{slice_get-get_or, get_or_from_slice_get}
use Rattle.khe_base.specs.declared.numbers.ResourceId.{ResourceId}
use Rattle.khe_instance.specs.Watching.{is_at}
use Rattle.khe_instance.specs.declared.parts.Parts.{Parts}
use Rattle.khe_instance.specs.declared.points.Monitor.{Monitor}
use Rattle.khe_instance.specs.declared.points.Point.{Point}
use Rattle.khe_instance.specs.declared.points.Point.TheVariants.{Resource}
use Rattle.khe_instance.specs.declared.rules.Kind.{Kind}
use Rattle.resource_monitors.specs.Cells.{differs_at, is_due, is_due_if, is_low, lists_any, may_differ}
use Rattle.resource_monitors.specs.Posts.{AreAdded, AreLists, ArePosts, IsDueIn, is_served_at, list_for}
use Rattle.resource_monitors.specs.Posts.{posts_of}
use Rattle.resource_monitors.specs.declared.posts.Post.{Post}
use Rattle.resource_monitors.proofs.PostLaws.{posts_each}

pub list_at : (served : Kind → Bool) (n : ℕ) (ms : List Monitor) (lists : List (List Post)) (k : ℕ)
    (item list : List Post) → AreLists served n ms lists → k < n → item ≡ get_or lists k item → list ≡ item
    → list ≡ posts_of served ms k
list_at served n ms lists k item list u l is same =
    same ∙ is ∙ get_or_from_slice_get lists k (get_or lists k []) item
    (slice_get-get_or lists k [] (let z = u.resources_all in omega (arith, z, l))) ∙ u.each k l

pub are_posts : (p : Parts) (served : Kind → Bool) (k : ℕ) (list : List Post) → list ≡ posts_of served p.monitors k
    → ArePosts p list
are_posts p served k list is i a h = (posts_each (is_served_at served k) p.monitors 0 p.monitors
    (λ n. ap (slice_get p.monitors) (zero-add n)) i a (ap (λ xs. slice_get xs i) (sym is) ∙ h)).0

-- what a place's list is
pub added_for : (ms : List Monitor) (test : Monitor → Bool) (served : Kind → Bool) (place : Option ResourceId)
    (r : ResourceId) (list : List Post) (old new : ℕ → Bool) → place ≡ Some r → list ≡ posts_of served ms r.0
    → AreAdded test list (length list) old new
    → AreAdded test (list_for served ms place) (length (list_for served ms place)) old new
added_for ms test served place r list old new at is u =
    subst (λ (xs : List Post). AreAdded test xs (length xs) old new) (is ∙ sym (ap (list_for served ms) at)) u

pub added_none : (ms : List Monitor) (test : Monitor → Bool) (served : Kind → Bool) (place : Option ResourceId)
    (old : ℕ → Bool) → place ≡ None
    → AreAdded test (list_for served ms place) (length (list_for served ms place)) old old
added_none ms test served place old at =
    subst (λ (xs : List Post). AreAdded test xs (length xs) old old) (sym (ap (list_for served ms) at))
    (record { each = λ j a l h t. absurd (omega (arith, l)); kept = λ i e. e; only = λ i e. inl e })

-- the same by another test of the posts
pub added_alike : (one other : Monitor → Bool) (list : List Post) (k : ℕ) (old new : ℕ → Bool)
    → ((j : ℕ) (a : Post) → slice_get list j ≡ Some a → other a.monitor ≡ one a.monitor)
    → AreAdded one list k old new → AreAdded other list k old new
added_alike one other list k old new same u = record {
  each = λ j a l h t. u.each j a l h (sym (same j a h) ∙ t);
  kept = u.kept;
  only = λ i e. by i (u.only i e);
}
  where
    by : (i : ℕ) → (old i ≡ true) ⊎ IsDueIn one list i → (old i ≡ true) ⊎ IsDueIn other list i
    by i (inl e) = inl e
    by i (inr (j, a, h, n, t)) = inr (j, a, h, n, same j a h ∙ t)

-- at one resource it is known whether one of the counts is low
pub due_at : (p : Parts) (served : Kind → Bool) (rows : List (List ℕ)) (start end limit : ℕ) (r : ResourceId)
    (list : List Post) → list ≡ posts_of served p.monitors r.0
    → (j : ℕ) (a : Post) → slice_get list j ≡ Some a
    → is_due p rows start end limit a.monitor ≡ is_due_if p start end (is_low rows start end limit r.0) a.monitor
due_at p served rows start end limit r list is j a h =
    let f = posts_each (is_served_at served r.0) p.monitors 0 p.monitors (λ n. ap (slice_get p.monitors) (zero-add n)) j
    a (ap (λ xs. slice_get xs j) (sym is) ∙ h) in
    ap (λ b. lists_any p start end a.monitor && b)
    (differs a.monitor.point (and_parts (served a.monitor.kind) (is_at a.monitor.point r.0) f.1).1)
    ∙ turn (lists_any p start end a.monitor) (may_differ a.monitor.kind (is_low rows start end limit r.0))
  where
    turn : (b c : Bool) → b && c ≡ c && b
    turn true true = refl
    turn true false = refl
    turn false true = refl
    turn false false = refl

    differs : (point : Point) → is_at point r.0 ≡ true → differs_at a.monitor.kind rows start end limit point
        ≡ may_differ a.monitor.kind (is_low rows start end limit r.0)
    differs (Resource q) e = ap (λ n. may_differ a.monitor.kind (is_low rows start end limit n)) (eqb-true q.0 r.0 e)
    differs _ e = absurd (false≢true e)
