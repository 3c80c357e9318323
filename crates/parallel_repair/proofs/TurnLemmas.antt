-- A worker's seat from one number to the next.
use Rattle.std.proofs.Common.{◌-◌, Result, Ok, IfOk, ◌≡◌, ◌⊎◌, ⊎_elim, ℕ, ◌+◌, ◌<◌, ◌≤◌, Bool, true, false, List, []}
use Rattle.std.proofs.Common.{◌∷◌, ◌++◌, Option, Some, None}
use Rattle.std.proofs.Common.{refl, sym, ap, ◌∙◌, subst, arith, append-nil, length, length-append}
use Rattle.std.specs.Prelude.{if◌then◌else◌, min}
use Rattle.solve_board.specs.Views.{claimed, offered, saw, saw_none, new_view, split_view, joined_view}
use Rattle.solve_board.specs.declared.views.BoardView.{BoardView}
use Rattle.solve_board.specs.Counts.{IsAmong}
use Rattle.solve_board.proofs.Sums.{one_here, one_is}
use Rattle.khe_base.specs.declared.sums.Totals.{Totals}
use Rattle.parallel_repair.specs.Ranks.{is_free, lesser}
use Rattle.parallel_repair.specs.Worked.{IsWorked}
use Rattle.parallel_repair.specs.Turns.{budget, IsAtWork, HasEnded, HasTaken, HasLooked, HasSeenLower, HasOffered, row}
use Rattle.parallel_repair.specs.Turns.{best_of}
use Rattle.parallel_repair.specs.declared.answers.Answer.{Answer}
use Rattle.parallel_repair.specs.declared.answers.Best.{Best}
use Rattle.parallel_repair.specs.declared.answers.Row.{Row}
use Rattle.parallel_repair.proofs.WorkLemmas.{in_left, in_right, in_either, in_none, grow, both, nothing, one_past}
use Rattle.parallel_repair.proofs.WorkLemmas.{one_skipped, one_run}

module _ (answer : ℕ → Answer) where
  if_append : (offers : List ℕ) (job : ℕ) (b : Bool)
      → (if b then offers ++ job ∷ [] else offers) ≡ offers ++ (if b then job ∷ [] else [])
  if_append offers job true = refl
  if_append offers job false = sym (append-nil offers)

  lesser_none : (b : Option Best) → lesser b None ≡ b
  lesser_none None = refl
  lesser_none (Some b) = refl

  nothing_added : (jobs : ℕ) (claims offers looks : List ℕ) (rows : List Row) (best : Option Best)
      → IsWorked answer jobs claims (offers ++ []) looks (rows ++ []) (lesser best None)
      → IsWorked answer jobs claims offers looks rows best
  nothing_added jobs claims offers looks rows best h =
      subst (λ o. IsWorked answer jobs claims o looks rows best) (append-nil offers)
      (subst (λ r. IsWorked answer jobs claims (offers ++ []) looks r best) (append-nil rows)
      (subst (λ b. IsWorked answer jobs claims (offers ++ []) looks (rows ++ []) b) (lesser_none best) h))

  module _ (jobs : ℕ) (v : BoardView) (rows : List Row) (best : Option Best) (job : ℕ)
      (at_work : IsAtWork answer jobs (budget v) v rows best) (w : BoardView) (claim : w ≡ claimed v job) where
    pub took_past : jobs ≤ job → HasTaken answer jobs v w rows best false
    took_past ge = subst (λ u. HasEnded answer jobs (budget v) u rows best) (sym claim) record {
      is = record {
        jobs_are = at_work.is.jobs_are;
        weight = at_work.is.weight;
        worked = nothing_added jobs (v.claims ++ job ∷ []) v.offers v.looks rows best
            (both answer jobs v.claims (job ∷ []) v.offers [] v.looks rows [] best None at_work.is.worked
            (one_past answer jobs job v.looks ge));
      };
      budgeted = refl;
      past = (job, in_right job v.claims (job ∷ []) (omega (arith, one_here job)), ge);
    }

    below_more : job < jobs → (n : ℕ) → IsAmong n (v.claims ++ job ∷ []) → n < jobs
    below_more lt n h = ⊎_elim (λ l. at_work.below n l)
        (λ r. let same = one_is n job (omega (arith, r)) in omega (arith, same, lt)) (in_either n v.claims (job ∷ []) h)

    pub took_skipped : (u : BoardView) → HasLooked w u → HasSeenLower u job → job < jobs → length v.claims ≤ job
        → HasTaken answer jobs v u rows best true
    took_skipped u l low lt counted =
        let is : u ≡ record v { claims = v.claims ++ job ∷ []; looks = l.0; seen = l.1 } =
        l.2 ∙ ap (λ (x : BoardView). record x { looks = l.0; seen = l.1 }) claim in
        let more : (m : ℕ) → IsAmong m v.looks → IsAmong m l.0 =
        λ m h. l.3 m (subst (λ (x : BoardView). IsAmong m x.looks) (sym claim) h) in
        let there : IsAmong low.0 l.0 = subst (λ (x : BoardView). IsAmong low.0 x.looks) is low.1 in
        subst (λ x. HasTaken answer jobs v x rows best true) (sym is) (
          record {
            is = record {
              jobs_are = at_work.is.jobs_are;
              weight = at_work.is.weight;
              worked = nothing_added jobs (v.claims ++ job ∷ []) v.offers l.0 rows best
                  (both answer jobs v.claims (job ∷ []) v.offers [] l.0 rows [] best None
                  (grow answer jobs v.claims v.offers v.looks l.0 rows best more at_work.is.worked)
                  (one_skipped answer jobs job low.0 l.0 there low.2));
            };
            budgeted = refl;
            below = below_more lt;
          },
          omega (arith, counted, lt),
          length-append v.claims (job ∷ []),
        )

    pub took_run : (u x : BoardView) (a : Answer) → HasLooked w u → a ≡ answer job → HasOffered u job a.totals x
        → job < jobs → length v.claims ≤ job
        → HasTaken answer jobs v x (rows ++ row job a ∷ []) (lesser best (Some (best_of job a))) true
    took_run u x a l is_a o lt counted =
        let more : (m : ℕ) → IsAmong m v.looks → IsAmong m l.0 =
        λ m h. l.3 m (subst (λ (y : BoardView). IsAmong m y.looks) (sym claim) h) in
        let is_u : u ≡ record v { claims = v.claims ++ job ∷ []; looks = l.0; seen = l.1 } =
        l.2 ∙ ap (λ (y : BoardView). record y { looks = l.0; seen = l.1 }) claim in
        let is_x : x ≡ record v {
          claims = v.claims ++ job ∷ [];
          offers =
              v.offers ++ (if is_free a.totals then job ∷ [] else []);
          looks = l.0;
          seen = o.0;
        } =
        o.1 ∙ ap (λ (y : BoardView). record y {
          offers = if is_free a.totals then y.offers ++ job ∷ [] else y.offers;
          seen = o.0;
        }) is_u
        ∙ ap (λ os. record v { claims = v.claims ++ job ∷ []; offers = os; looks = l.0; seen = o.0 })
        (if_append v.offers job (is_free a.totals)) in
        subst (λ y. HasTaken answer jobs v y (rows ++ row job a ∷ []) (lesser best (Some (best_of job a))) true)
        (sym is_x) (
          record {
            is = record {
              jobs_are = at_work.is.jobs_are;
              weight = at_work.is.weight;
              worked = subst (λ b. IsWorked answer jobs (v.claims ++ job ∷ [])
                  (v.offers ++ (if is_free b.totals then job ∷ [] else [])) l.0 (rows ++ row job b ∷ [])
                  (lesser best (Some (best_of job b)))) (sym is_a)
                  (both answer jobs v.claims (job ∷ []) v.offers (if is_free (answer job).totals then job ∷ [] else [])
                  l.0 rows (row job (answer job) ∷ []) best (Some (best_of job (answer job)))
                  (grow answer jobs v.claims v.offers v.looks l.0 rows best more at_work.is.worked)
                  (one_run answer jobs job l.0 lt));
            };
            budgeted = refl;
            below = below_more lt;
          },
          omega (arith, counted, lt),
          length-append v.claims (job ∷ []),
        )

-- what a look leaves, by its answer
pub looked_some : (v w : BoardView) (n : ℕ) → w ≡ saw v n → HasLooked v w
looked_some v w n is = (v.looks ++ n ∷ [], n, is, λ m h. in_left m v.looks (n ∷ []) h)

pub looked_none : (v w : BoardView) → w ≡ saw_none v → HasLooked v w
looked_none v w is = (v.looks, v.jobs, is, λ m h. h)

pub saw_lower : (v w : BoardView) (n job : ℕ) → w ≡ saw v n → n < job → HasSeenLower w job
saw_lower v w n job is lt = subst (λ (u : BoardView). HasSeenLower u job) (sym is)
    (n, in_right n v.looks (n ∷ []) (omega (arith, one_here n)), lt)

-- what an offer leaves
pub offered_is : (v w : BoardView) (job : ℕ) (t : Totals) → is_free t ≡ true
    → ((word : ℕ) × (word ≤ v.seen) × (w ≡ offered v job word)) → HasOffered v job t w
offered_is v w job t free o = (
  min o.0 job,
  o.2
      ∙ ap (λ b. record v { offers = if b then v.offers ++ job ∷ [] else v.offers; seen = min o.0 job }) (sym free),
)

pub offered_not : (v : BoardView) (job : ℕ) (t : Totals) → is_free t ≡ false → HasOffered v job t v
offered_not v job t free = (
  v.seen,
  ap (λ b. record v { offers = if b then v.offers ++ job ∷ [] else v.offers })
      (sym free),
)

-- a job that was claimed may be offered after a look
pub claimed_there : (jobs : ℕ) (v w u : BoardView) (job : ℕ) → v.jobs ≡ jobs → w ≡ claimed v job → HasLooked w u
    → job < jobs → (job < u.jobs) × IsAmong job u.claims
claimed_there jobs v w u job are claim l lt =
    let is : u ≡ record v { claims = v.claims ++ job ∷ []; looks = l.0; seen = l.1 } =
    l.2 ∙ ap (λ (x : BoardView). record x { looks = l.0; seen = l.1 }) claim in
    subst (λ (x : BoardView). (job < x.jobs) × IsAmong job x.claims) (sym is)
    (omega (arith, are, lt), in_right job v.claims (job ∷ []) (omega (arith, one_here job)))

module _ (answer : ℕ → Answer) (jobs left : ℕ) (v : BoardView) (rows : List Row) (best : Option Best)
    (at_work : IsAtWork answer jobs left v rows best) where
  pub own_budget : IsAtWork answer jobs (budget v) v rows best
  own_budget = record { is = at_work.is; budgeted = refl; below = at_work.below }

  -- it goes on with the budget that it had
  pub took_more : (w : BoardView) (rows' : List Row) (best' : Option Best) (more : Bool)
      → HasTaken answer jobs v w rows' best' more → more ≡ true
      → IsAtWork answer jobs left w rows' best' × (length v.claims < jobs) × (length w.claims ≡ length v.claims + 1)
  took_more w rows' best' more took is =
      let t = subst (λ (b : Bool). HasTaken answer jobs v w rows' best' b) is took in
      (record { is = t.0.is; budgeted = t.0.budgeted ∙ at_work.budgeted; below = t.0.below }, t.1, t.2)

  -- it has ended with the budget that it had
  pub took_end : (w : BoardView) (rows' : List Row) (best' : Option Best) (more : Bool)
      → HasTaken answer jobs v w rows' best' more → more ≡ false → HasEnded answer jobs left w rows' best'
  took_end w rows' best' more took is =
      let t = subst (λ (b : Bool). HasTaken answer jobs v w rows' best' b) is took in
      record { is = t.is; budgeted = t.budgeted ∙ at_work.budgeted; past = t.past }

module _ (answer : ℕ → Answer) where
  -- a seat that has claimed nothing
  pub begins : (jobs : ℕ) (v : BoardView) → v.jobs ≡ jobs → 0 < v.weight → v.claims ≡ [] → v.offers ≡ [] → v.looks ≡ []
      → IsAtWork answer jobs (budget v) v [] None
  begins jobs v are weight c o l = record {
    is = record {
      jobs_are = are;
      weight = weight;
      worked = subst (λ cs. IsWorked answer jobs cs v.offers v.looks [] None) (sym c)
          (subst (λ os. IsWorked answer jobs [] os v.looks [] None) (sym o) (nothing answer jobs v.looks));
    };
    budgeted = refl;
    below = λ n h. in_none n (n < jobs) (subst (IsAmong n) c h);
  }

  -- the seat that was split off, and the one that is left
  pub begins_new : (jobs left : ℕ) (v w : BoardView) → w ≡ new_view v → IsAtWork answer jobs left v [] None
      → IsAtWork answer jobs (budget w) w [] None
  begins_new jobs left v w is at_work = subst (λ u. IsAtWork answer jobs (budget u) u [] None) (sym is)
      (begins jobs (new_view v) at_work.is.jobs_are (omega arith) refl refl refl)

  pub stays_old : (jobs left : ℕ) (v w : BoardView) → w ≡ split_view v → IsAtWork answer jobs left v [] None
      → IsAtWork answer jobs (budget w) w [] None
  stays_old jobs left v w is at_work = subst (λ u. IsAtWork answer jobs (budget u) u [] None) (sym is) record {
    is = record { jobs_are = at_work.is.jobs_are; weight = at_work.is.weight; worked = at_work.is.worked };
    budgeted = refl;
    below = at_work.below;
  }

  -- what two have come to that have ended
  pub both_ended : (jobs m n : ℕ) (v u w : BoardView) (r1 r2 rows : List Row) (b1 b2 best : Option Best)
      → HasEnded answer jobs m v r1 b1 → HasEnded answer jobs n u r2 b2
      → w ≡ joined_view v u → rows ≡ r1 ++ r2 → best ≡ lesser b1 b2 → HasEnded answer jobs (m + n) w rows best
  both_ended jobs m n v u w r1 r2 rows b1 b2 best x y is_w is_rows is_best =
      subst (λ a. HasEnded answer jobs (m + n) a rows best) (sym is_w)
      (subst (λ a. HasEnded answer jobs (m + n) (joined_view v u) a best) (sym is_rows)
      (subst (λ a. HasEnded answer jobs (m + n) (joined_view v u) (r1 ++ r2) a) (sym is_best) record {
        is = record {
          jobs_are = x.is.jobs_are;
          weight = omega (arith, x.is.weight);
          worked = both answer jobs v.claims u.claims v.offers u.offers (v.looks ++ u.looks) r1 r2 b1 b2
              (grow answer jobs v.claims v.offers v.looks (v.looks ++ u.looks) r1 b1
              (λ k h. in_left k v.looks u.looks h) x.is.worked)
              (grow answer jobs u.claims u.offers u.looks (v.looks ++ u.looks) r2 b2
              (λ k h. in_right k v.looks u.looks h) y.is.worked);
        };
        budgeted = let a = x.budgeted in let b = y.budgeted in omega (arith, a, b);
        past = (x.past.0, in_left x.past.0 v.claims u.claims x.past.1, x.past.2);
      }))

pub split_budget : (v w u : BoardView) → w ≡ split_view v → u ≡ new_view v → 0 < v.left → budget w + budget u ≡ budget v
split_budget v w u is_w is_u some_left =
    let a : budget w ≡ (v.left - 1) + v.weight = ap budget is_w in
    let b : budget u ≡ 1 = ap budget is_u in
    omega (arith, a, b, some_left)

pub ok_is : {A E : Type 0} (r : Result A E) (a : A) (P : A → Type 0) → IfOk r P → r ≡ Ok a → P a
ok_is r a P h is = subst (λ x. IfOk x P) is h
