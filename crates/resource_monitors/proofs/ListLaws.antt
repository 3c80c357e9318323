-- The lists of resources while monitors are added.
use Rattle.std.proofs.Common.{ℕ, zero, suc, ◌≡◌, ◌<◌, ◌+◌, ◌==◌, ◌∙◌, ◌&&◌, Bool, true, false, cond, List, [], ◌∷◌}
use Rattle.std.proofs.Common.{◌++◌, take, set, replicate, length, get_or, refl, sym, ap, arith, length-take-le}
use Rattle.std.proofs.Common.{zero-add, ◌⊎◌, inl, inr}
use Rattle.std.proofs.lemmas.Bool.{eq-eqb, ne_eqb, cases_eq}
use Rattle.std.proofs.lemmas.List.{take_more, length-replicate, get_or-replicate, append-nil}
use Rattle.std.proofs.Common.{get_or-set_same}
use Rattle.khe_base.specs.declared.numbers.ResourceId.{ResourceId}
use Rattle.khe_instance.specs.Watching.{is_at}
use Rattle.khe_instance.specs.declared.points.Monitor.{Monitor}
use Rattle.khe_instance.specs.declared.points.Point.TheVariants.{Resource}
use Rattle.khe_instance.specs.declared.rules.Kind.{Kind}
use Rattle.resource_monitors.specs.Posts.{AreLists, post, posts_of, is_served_at}
use Rattle.resource_monitors.specs.declared.posts.Post.{Post}
use Rattle.resource_monitors.proofs.PostLaws.{posts_push}

pub lists_start : (served : Kind → Bool) (n : ℕ) (lists : List (List Post)) → lists ≡ replicate n []
    → AreLists served n [] lists
lists_start served n lists is = record {
  resources_all = ap length is ∙ length-replicate n [];
  each = λ r l. ap (λ ls. get_or ls r []) is ∙ get_or-replicate n r [] [] l;
}

-- what one monitor adds
abbrev pub IsAdded : (Kind → Bool) → Post → List (List Post) → List (List Post) → Type 0
IsAdded served a old new = (r : ℕ) → r < length old
    → get_or new r [] ≡ get_or old r [] ++ cond (is_served_at served r a.monitor) (a ∷ []) []

pub lists_more : (served : Kind → Bool) (n : ℕ) (ms : List Monitor) (k : ℕ) (m : Monitor) (old new : List (List Post))
    → k < length ms → get_or ms k m ≡ m
    → AreLists served n (take k ms) old → length new ≡ length old → IsAdded served (post k m) old new
    → AreLists served n (take (k + 1) ms) new
lists_more served n ms k m old new l at u same h = record {
  resources_all = same ∙ u.resources_all;
  each = λ r b.
      let long : length (take k ms) ≡ k = length-take-le k ms (omega arith) in
      h r (let z = u.resources_all in omega (arith, z, b))
      ∙ ap (λ xs. xs ++ cond (is_served_at served r m) (post k m ∷ []) []) (u.each r b)
      ∙ ap (λ i. posts_of served (take k ms) r ++ cond (is_served_at served r m) (post i m ∷ []) [])
      (sym long ∙ sym (zero-add (length (take k ms))))
      ∙ sym (posts_push (is_served_at served r) 0 (take k ms) m)
      ∙ ap (λ xs. posts_of served xs r) (ap (λ x. take k ms ++ x ∷ []) (sym at) ∙ sym (take_more ms k m l));
}

-- a monitor that isn't served, or at no resource
pub not_added : (served : Kind → Bool) (a : Post) (old : List (List Post))
    → ((r : ℕ) → is_served_at served r a.monitor ≡ false) → IsAdded served a old old
not_added served a old h r l = sym (ap (λ b. get_or old r [] ++ cond b (a ∷ []) []) (h r)
    ∙ append-nil (get_or old r []))

-- one that is
get-other : {X : Type 0} (xs : List X) (i j : ℕ) (x d : X) → (i ≡ j → ⊥) → get_or (set xs i x) j d ≡ get_or xs j d
get-other [] i j x d n = refl
get-other (z ∷ xs) zero zero x d n = absurd (n refl)
get-other (z ∷ xs) zero (suc j) x d n = refl
get-other (z ∷ xs) (suc i) zero x d n = refl
get-other (z ∷ xs) (suc i) (suc j) x d n = get-other xs i j x d (λ h. n (ap suc h))

pub added : (served : Kind → Bool) (a : Post) (q : ResourceId) (old : List (List Post)) (list : List Post)
    → a.monitor.point ≡ Resource q → served a.monitor.kind ≡ true → q.0 < length old
    → list ≡ get_or old q.0 [] ++ a ∷ [] → IsAdded served a old (set old q.0 list)
added served a q old list at serves within is r l = by (cases_eq q.0 r)
  where
    test : is_served_at served r a.monitor ≡ (q.0 == r)
    test = (λ i. serves i && is_at (at i) r)

    by : (q.0 ≡ r) ⊎ (q.0 ≡ r → ⊥) → get_or (set old q.0 list) r [] ≡ get_or old r []
        ++ cond (is_served_at served r a.monitor) (a ∷ []) []
    by (inl e) =
        ap (λ i. get_or (set old q.0 list) i []) (sym e) ∙ get_or-set_same old q.0 list [] within ∙ is
        ∙ ap (λ i. get_or old i [] ++ a ∷ []) e ∙ ap (λ b. get_or old r [] ++ cond b (a ∷ []) [])
        (sym (test ∙ eq-eqb q.0 r e))
    by (inr n) = get-other old q.0 r list [] n ∙ sym (append-nil (get_or old r []))
        ∙ ap (λ b. get_or old r [] ++ cond b (a ∷ []) []) (sym (test ∙ ne_eqb q.0 r n))
