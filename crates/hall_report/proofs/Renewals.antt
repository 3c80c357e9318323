-- Demands that are renewed one by one.
use Rattle.std.proofs.Common.{ℕ, ◌+◌, ◌<◌, ◌≤◌, ◌≡◌, inl, inr, Option, None, length, set, get_or, refl, sym, ap, ◌∙◌}
use Rattle.std.proofs.Common.{subst, arith, length-set, get_or-set_same, get_or-set_other}
use Rattle.std.specs.Option.{ForSome}
use Rattle.std.specs.Prelude.{IsTrue}
use Rattle.demand_matching.proofs.Counting.{cases_eqb}
use Rattle.demand_matching.specs.Domains.{Domains, IsGiven, IsInRange, admits, domain_of, with_domain}
use Rattle.demand_matching.specs.declared.domains.Domain.{Domain}
use Rattle.hall_report.specs.Renewing.{AreApart, AreWritable, HasSameSets, IsRenewed}

pub same_sets : (w : Domains) → HasSameSets w w
same_sets w = record { times = refl; resources = refl; last = refl; width = refl; amount = refl }

pub both_sets : (a b c : Domains) → HasSameSets a b → HasSameSets b c → HasSameSets a c
both_sets a b c x y = record {
  times = y.times ∙ x.times;
  resources = y.resources ∙ x.resources;
  last = y.last ∙ x.last;
  width = y.width ∙ x.width;
  amount = y.amount ∙ x.amount;
}

-- nothing is renewed yet
pub none_places : (w : Domains) (number : ℕ → ℕ → ℕ) (domain : ℕ → ℕ → Option Domain) (from count : ℕ)
    → IsRenewed w w number domain from from count
none_places w number domain from count = record
    { same = same_sets w; renewed = λ k o a b c. absurd (omega (arith, a, b)); touched = λ j. inl refl }

pub none_offsets : (w : Domains) (number : ℕ → ℕ → ℕ) (domain : ℕ → ℕ → Option Domain) (from end : ℕ)
    → IsRenewed w w number domain from end 0
none_offsets w number domain from end = record
    { same = same_sets w; renewed = λ k o a b c. absurd (omega (arith, c)); touched = λ j. inl refl }

-- one place more
pub place_renewed : (old w new : Domains) (first : ℕ) (f : ℕ → Option Domain) (from n : ℕ)
    → IsRenewed old w (λ k o. first + k) (λ k o. f k) from n 1 → from ≤ n → first + n < length w.demands
    → new ≡ with_domain w (first + n) (f n)
    → IsRenewed old new (λ k o. first + k) (λ k o. f k) from (n + 1) 1
place_renewed old w new first f from n is start room made =
    subst (λ v. IsRenewed old v (λ k o. first + k) (λ k o. f k) from (n + 1) 1) (sym made) (record {
      same = both_sets old w (with_domain w (first + n) (f n)) is.same
          (record {
            times = refl;
            resources = refl;
            last = refl;
            width = refl;
            amount =
                length-set w.demands (first + n) (f n);
          });
      renewed = λ k o a b c. elim (cases_eqb k n) [
        | inl eq ↦ ap (λ m. get_or (set w.demands (first + n) (f n)) (first + m) None) eq
            ∙ get_or-set_same w.demands (first + n) (f n) None room ∙ ap f (sym eq)
        | inr ne ↦ get_or-set_other w.demands (first + n) (first + k) (f n) None (λ e. ne (omega (arith, e)))
            ∙ is.renewed k o a (omega (arith, b, ne)) c
      ];
      touched = λ j. elim (cases_eqb j (first + n)) [
        | inl eq ↦ inr (record {
          place = n;
          offset = 0;
          after = start;
          before = omega arith;
          early = omega arith;
          «is» =
              sym eq;
        })
        | inr ne ↦ elim (is.touched j) [
          | inl t ↦ inl (get_or-set_other w.demands (first + n) j (f n) None ne ∙ t)
          | inr a ↦ inr (record {
            place = a.place;
            offset = a.offset;
            after = a.after;
            before =
                (let b = a.before in omega (arith, b));
            early = a.early;
            «is» = a.«is»;
          })
        ]
      ];
    })

-- one offset more
pub offset_renewed : (old w new : Domains) (number : ℕ → ℕ → ℕ) (domain : ℕ → ℕ → Option Domain)
    (from end n count first : ℕ) → IsRenewed old w number domain from end n
    → IsRenewed w new (λ k o. first + k) (λ k o. domain k n) from end 1
    → ((k : ℕ) → k < end → number k n ≡ first + k) → AreApart number from end count → n < count
    → IsRenewed old new number domain from end (n + 1)
offset_renewed old w new number domain from end n count first is one own apart l = record {
  same = both_sets old w new is.same one.same;
  renewed = λ k o a b c. elim (cases_eqb o n) [
    | inl eq ↦ ap (λ m. domain_of new (number k m)) eq ∙ ap (domain_of new) (own k b)
        ∙ one.renewed k 0 a b (omega arith) ∙ ap (domain k) (sym eq)
    | inr ne ↦ elim (one.touched (number k o)) [
      | inl t ↦ t ∙ is.renewed k o a b (omega (arith, c, ne))
      | inr x ↦ absurd (ne (apart k o x.place n b (omega (arith, c, l)) x.before l
          (sym x.«is» ∙ sym (own x.place x.before))).1)
    ]
  ];
  touched = λ j. elim (one.touched j) [
    | inl t ↦ elim (is.touched j) [
      | inl u ↦ inl (t ∙ u)
      | inr a ↦ inr (record {
        place = a.place;
        offset = a.offset;
        after = a.after;
        before = a.before;
        early =
            (let b = a.early in omega (arith, b));
        «is» = a.«is»;
      })
    ]
    | inr x ↦ inr (record {
      place = x.place;
      offset = n;
      after = x.after;
      before = x.before;
      early = omega arith;
      «is» =
          own x.place x.before ∙ x.«is»;
    })
  ];
}

-- what is in range stays so
pub still_ranged : (old new : Domains) (o : Option Domain) → HasSameSets old new → ForSome o (IsInRange old)
    → ForSome o (IsInRange new)
still_ranged old new o same h = λ x e.
    let i = h x e in
    record {
      times = subst (λ ts. IsGiven ts x.times) (sym same.times) i.times;
      resources = subst (λ rs. IsGiven rs x.resources) (sym same.resources) i.resources;
      resource = λ r t a. let b = i.resource r t (back x r t a) in let c = same.width in omega (arith, b, c);
      time = λ r t a. let b = i.time r t (back x r t a) in let c = same.last in omega (arith, b, c);
    }
  where
    back : (x : Domain) (r t : ℕ) → IsTrue (admits new.times new.resources x r t)
        → IsTrue (admits old.times old.resources x r t)
    back x r t a = subst (λ rs. IsTrue (admits old.times rs x r t)) same.resources
        (subst (λ ts. IsTrue (admits ts new.resources x r t)) same.times a)

-- and what can be written later still can
pub still_writable : (old w : Domains) (number other : ℕ → ℕ → ℕ) (domain : ℕ → ℕ → Option Domain)
    (from end n count : ℕ) → AreWritable old number domain from end count → HasSameSets old w → n < count
    → ((k : ℕ) → k < end → number k n ≡ other k 0) → AreWritable w other (λ k o. domain k n) from end 1
still_writable old w number other domain from end n count are same l own = record {
  below = λ k o a b c.
      let r = are.below k n a b l in
      let e = own k b in
      let q = same.amount in
      let z : o ≡ 0 = omega (arith, c) in
      let y = ap (other k) z in
      omega (arith, r, e, q, y);
  ranged = λ k o a b c. still_ranged old w (domain k n) same (are.ranged k n a b l);
}
