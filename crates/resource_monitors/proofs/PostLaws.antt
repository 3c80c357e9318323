-- Posts of monitors.
use Rattle.std.proofs.Common.{ℕ, ◌≡◌, ◌+◌, ◌∙◌, zero, suc, Bool, true, false, cond, Some, List, [], ◌∷◌, ◌++◌, length}
use Rattle.std.proofs.Common.{slice_get, refl, ap, subst, arith}
use Rattle.std.proofs.lemmas.Option.{same_Some, none-some}
use Rattle.khe_instance.specs.declared.points.Monitor.{Monitor}
use Rattle.resource_monitors.specs.Posts.{post, posts_from}
use Rattle.resource_monitors.specs.declared.posts.Post.{Post}

module _ (test : Monitor → Bool) where
  pub posts_push : (k : ℕ) (ms : List Monitor) (m : Monitor)
      → posts_from test k (ms ++ m ∷ []) ≡ posts_from test k ms ++ cond (test m) (post (k + length ms) m ∷ []) []
  posts_push k [] m = ap (λ n. cond (test m) (post n m ∷ []) []) (let z : k ≡ k + 0 = omega arith in z)
  posts_push k (x ∷ ms) m =
      let z : k + 1 + length ms ≡ k + suc (length ms) = omega arith in
      by (test x) (posts_push (k + 1) ms m ∙ ap (λ n. posts_from test (k + 1) ms ++ cond (test m) (post n m ∷ []) []) z)
    where
      by : (b : Bool) → posts_from test (k + 1) (ms ++ m ∷ []) ≡ posts_from test (k + 1) ms
          ++ cond (test m) (post (k + suc (length ms)) m ∷ []) []
          → cond b (post k x ∷ posts_from test (k + 1) (ms ++ m ∷ [])) (posts_from test (k + 1) (ms ++ m ∷ []))
          ≡ cond b (post k x ∷ posts_from test (k + 1) ms) (posts_from test (k + 1) ms)
          ++ cond (test m) (post (k + suc (length ms)) m ∷ []) []
      by true e = ap (λ xs. post k x ∷ xs) e
      by false e = e

  abbrev pub IsFound : List Monitor → Post → Type 0
  IsFound all a = (slice_get all a.number.0 ≡ Some a.monitor) × (test a.monitor ≡ true)

  pub posts_each : (all : List Monitor) (k : ℕ) (ms : List Monitor) → ((i : ℕ) → slice_get all (k + i) ≡ slice_get ms i)
      → (j : ℕ) (a : Post) → slice_get (posts_from test k ms) j ≡ Some a → IsFound all a
  posts_each all k [] h j a e = absurd (none-some a e)
  posts_each all k (m ∷ ms) h j a e = by (test m) refl j e
      (λ i g. posts_each all (k + 1) ms (λ n. ap (slice_get all) (let z : k + 1 + n ≡ k + suc n = omega arith in z)
      ∙ h (suc n)) i a g)
    where
      here : slice_get all k ≡ Some m
      here = ap (slice_get all) (let z : k ≡ k + 0 = omega arith in z) ∙ h 0

      by : (b : Bool) → test m ≡ b → (j : ℕ) → slice_get
          (cond b (post k m ∷ posts_from test (k + 1) ms) (posts_from test (k + 1) ms)) j ≡ Some a
          → ((i : ℕ) → slice_get (posts_from test (k + 1) ms) i ≡ Some a → IsFound all a) → IsFound all a
      by true t zero e r = subst (IsFound all) (same_Some (post k m) a e) (here, t)
      by true t (suc j) e r = r j e
      by false t j e r = r j e

  abbrev IsPlaced : List Post → ℕ → Monitor → Type 0
  IsPlaced list n m = (j : ℕ) × (slice_get list j ≡ Some (post n m))

  pub posts_all : (k : ℕ) (ms : List Monitor) (i : ℕ) (m : Monitor) → slice_get ms i ≡ Some m → test m ≡ true
      → IsPlaced (posts_from test k ms) (k + i) m
  posts_all k [] i m e t = absurd (none-some m e)
  posts_all k (x ∷ ms) zero m e t =
      let s : x ≡ m = same_Some x m e in (
        0,
        ap (λ b. slice_get (cond b (post k x ∷ posts_from test (k + 1) ms) (posts_from test (k + 1) ms)) 0)
            (ap test s ∙ t) ∙ ap (λ y. Some (post k y)) s
            ∙ ap (λ n. Some (post n m)) (let z : k ≡ k + 0 = omega arith in z),
      )
  posts_all k (x ∷ ms) (suc i) m e t = by (test x)
      (subst (λ n. IsPlaced (posts_from test (k + 1) ms) n m) (let z : k + 1 + i ≡ k + suc i = omega arith in z)
      (posts_all (k + 1) ms i m e t))
    where
      by : (b : Bool) → IsPlaced (posts_from test (k + 1) ms) (k + suc i) m
          → IsPlaced (cond b (post k x ∷ posts_from test (k + 1) ms) (posts_from test (k + 1) ms)) (k + suc i) m
      by true r = (suc r.0, r.1)
      by false r = r
