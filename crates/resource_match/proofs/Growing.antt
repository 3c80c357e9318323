-- A search goes on: the nearest task is closed, and paths by way of it are followed.
use Rattle.std.proofs.Common.{ℕ, ◌+◌, ◌*◌, ◌<◌, ◌≤◌, ◌≡◌, ◌≢◌, ◌⊎◌, inl, inr, Bool, true, false, Option, Some, None}
use Rattle.std.proofs.Common.{List, arith, refl, sym, ap, ◌∙◌, subst, set, length, get_or, MatchOption}
use Rattle.std.specs.Prelude.{pos}
use Rattle.std.proofs.lemmas.Bool.{cases_eq, cases_lt, cases_Bool, both_ways}
use Rattle.std.proofs.lemmas.Int.{ints}
use Rattle.std.proofs.lemmas.List.{get_or_past, get_or-set_same, get_or-set_other, get_or_read_under}
use Rattle.std.proofs.Math.ListN.{length-set}
use Rattle.khe_base.specs.declared.limits.TheConstants.{GREATEST_TOTAL}
use Rattle.khe_base.specs.declared.sums.Totals.{Totals}
use Rattle.resource_match.specs.Smallness.{IsSmall}
use Rattle.resource_match.specs.declared.choices.Costs.{Costs}
use Rattle.resource_match.specs.declared.prices.Price.{Price}
use Rattle.resource_match.specs.declared.search.Label.{Label}
use Rattle.resource_match.specs.declared.search.End.{End}
use Rattle.resource_match.specs.declared.search.Near.{Near}
use Rattle.resource_match.specs.Prices.{no_price, price_of, plus, price_at, IsAtMost, IsWithin, IsSum, AreSame}
use Rattle.resource_match.specs.Choices.{AreCosts, cost_at, choice_at, none_price, pair_price}
use Rattle.resource_match.specs.Exits.{IsCheapestOut, IsWayOut}
use Rattle.resource_match.specs.Settled.{IsMatching, HasPrices, path_limit}
use Rattle.resource_match.specs.Trees.{IsTree, IsWholeTree, AreMarks, AreLabels, IsStep, IsEnd, AreNearer, IsNear}
use Rattle.resource_match.specs.Trees.{IsFollowed, IsBetterEnd, flag, count_of, label_at, cost_to, key_of, no_label}
use Rattle.resource_match.specs.Trees.{through}
use Rattle.resource_match.proofs.PriceLemmas.{at_most_self, at_most_1, at_most_2, at_most_trans, within_wider}
use Rattle.resource_match.proofs.Flags.{flag_inside, still_false, still_true, was_true, true_cases, count_set}
use Rattle.resource_match.proofs.Flags.{count_smaller, has_range}
use Rattle.resource_match.proofs.Starting.{within_through, small_at}

-- all that is known when a search goes on by a task n
pub record Grows : Type 0 where
  pub c : Costs
  pub task : ℕ
  pub chosen : List (Option ℕ)
  pub owners : List (Option ℕ)
  pub us : List Price
  pub waiting : List Bool
  pub closed : List Bool
  pub ls : List Label
  pub new : List Label
  pub e : End
  pub n : Near
  pub costs : AreCosts c
  pub inside : task < c.tasks
  pub matching : IsMatching c task chosen owners
  pub prices : HasPrices c task chosen owners us
  pub tree : IsTree c task chosen owners us waiting closed ls e
  pub near : IsNear ls waiting us (length waiting) n
  pub before_end : IsAtMost n.key e.cost
  pub labels_length : length new ≡ c.tasks
  pub followed : (k : ℕ) → k < c.tasks → IsFollowed c chosen (set waiting n.task false) (label_at ls n.task) n.task k
      (label_at ls k) (label_at new k)

-- labels of tasks that do not wait stay
kept : (g : Grows) → (k : ℕ) → flag (set g.waiting g.n.task false) k ≡ false
    → label_at g.new k ≡ label_at g.ls k
kept g k f = elim (cases_lt k (length g.new)) [
  | inl l ↦ (g.followed k (omega (arith, g.labels_length))).shut f
  | inr l ↦ get_or_past g.new k no_label l ∙ sym (get_or_past g.ls k no_label
      (omega (arith, g.labels_length, g.tree.labels.labels_length)))
]

near_inside : (g : Grows)
    → (g.n.task < length g.waiting) × (g.n.task < length g.closed) × (g.n.task < g.c.tasks)
near_inside g =
    let l = flag_inside g.waiting g.n.task g.near.waits in (
      l,
      omega (arith, g.tree.marks.waiting_length, g.tree.marks.closed_length),
      omega
          (arith, g.tree.marks.waiting_length),
    )

-- what is closed then does not wait
closed_shut : (g : Grows) → (k : ℕ) → flag (set g.closed g.n.task true) k ≡ true
    → flag (set g.waiting g.n.task false) k ≡ false
closed_shut g k f =
    let l = (near_inside g).0 in
    elim (true_cases g.closed g.n.task k f) [
      | inl h ↦ ap (flag (set g.waiting g.n.task false)) h ∙ get_or-set_same g.waiting g.n.task false false l
      | inr h ↦ still_false g.waiting g.n.task k l (g.tree.marks.apart k h)
    ]

-- no label grows
lower : (g : Grows) → (k r : ℕ) → choice_at g.chosen k ≡ Some r
    → IsAtMost (cost_to g.new k) (cost_to g.ls k)
lower g k r h =
    elim (cases_Bool (flag (set g.waiting g.n.task false) k)) [
      | inl w ↦ let l = flag_inside (set g.waiting g.n.task false) k w in
          elim ((g.followed k (omega (arith, length-set g.waiting g.n.task false, g.tree.marks.waiting_length))).better
          r w
          h) [
            | inl x ↦ subst (λ (t : Label). IsAtMost t.cost (cost_to g.ls k)) (sym x.0) (at_most_self (cost_to g.ls k))
            | inr x ↦ subst (λ (t : Label). IsAtMost t.cost (cost_to g.ls k)) (sym x.0) x.1
          ]
      | inr s ↦ subst (λ (t : Label). IsAtMost t.cost (cost_to g.ls k))
          (sym (kept g k s)) (at_most_self (cost_to g.ls k))
    ]

grown_marks : (g : Grows)
    → AreMarks g.c g.chosen g.task (set g.waiting g.n.task false) (set g.closed g.n.task true)
grown_marks g =
    let m = g.tree.marks in
    let at = near_inside g in
    record {
      waiting_length = length-set g.waiting g.n.task false ∙ m.waiting_length;
      closed_length = length-set g.closed g.n.task true ∙ m.closed_length;
      new_closed = still_true g.closed g.n.task g.task at.1 m.new_closed;
      apart = closed_shut g;
      some = λ k r h. elim (cases_eq k g.n.task) [
        | inl same ↦ inr (ap (flag (set g.closed g.n.task true)) same
            ∙ get_or-set_same g.closed g.n.task true false at.1)
        | inr ne ↦ elim (m.some k r h) [
          | inl w ↦ elim (cases_Bool (flag (set g.waiting g.n.task false) k)) [
            | inl y ↦ inl y
            | inr y ↦ absurd (both_ways (flag g.waiting k) (stays k ne y) w)
          ]
          | inr f ↦ inr (still_true g.closed g.n.task k at.1 f)
        ]
      ];
      waiting_some = λ k w. m.waiting_some k (was_true g.waiting g.n.task k at.0 w);
      waiting_before = λ k w. m.waiting_before k (was_true g.waiting g.n.task k at.0 w);
      closed_none = λ k f h. elim (true_cases g.closed g.n.task k f) [
        | inl same ↦ absurd (m.waiting_some g.n.task g.near.waits (ap (choice_at g.chosen) (sym same) ∙ h))
        | inr f ↦ m.closed_none k f h
      ];
      closed_before = λ k f. elim (true_cases g.closed g.n.task k f) [
        | inl same ↦ let l = m.waiting_before g.n.task g.near.waits in omega arith
        | inr f ↦ m.closed_before k f
      ];
    }
  where
    stays : (k : ℕ) → k ≢ g.n.task → flag (set g.waiting g.n.task false) k ≡ false → flag g.waiting k ≡ false
    stays k ne y = sym (get_or-set_other g.waiting g.n.task k false false ne) ∙ y

-- the label of the nearest task stays too
near_kept : (g : Grows) → label_at g.new g.n.task ≡ label_at g.ls g.n.task
near_kept g =
    kept g g.n.task
    (get_or-set_same g.waiting g.n.task false false (near_inside g).0)

grown_step : (g : Grows) → (k r : ℕ) → choice_at g.chosen k ≡ Some r
    → IsStep g.c (set g.closed g.n.task true) g.new k r
grown_step g k r h =
    elim (cases_Bool (flag (set g.waiting g.n.task false) k)) [
      | inl w ↦ let l = flag_inside (set g.waiting g.n.task false) k w in
          elim ((g.followed k (omega (arith, length-set g.waiting g.n.task false, g.tree.marks.waiting_length))).better
          r w
          h) [
            | inl x ↦ as_before x.0
            | inr x ↦ through_near x.0
          ]
      | inr s ↦ as_before (kept g k s)
    ]
  where
    at : (g.n.task < length g.waiting) × (g.n.task < length g.closed) × (g.n.task < g.c.tasks)
    at = near_inside g

    as_before : label_at g.new k ≡ label_at g.ls k → IsStep g.c (set g.closed g.n.task true) g.new k r
    as_before same =
        let was = g.tree.labels.step k r h in
        let b = (label_at g.ls k).before in
        let closed_b = still_true g.closed g.n.task b at.1 was.before_closed in
        let same_b = kept g b
        (closed_shut g b closed_b) in
        let P = λ (t : Label). (flag (set g.closed g.n.task true) t.before ≡ true)
        × ((label_at g.new t.before).steps < t.steps) × AreSame t.cost (pair_price g.c k r) (cost_to g.new t.before)
        (pair_price g.c t.before r) in
        let Q = λ (u : Label). (u.steps < (label_at g.ls k).steps)
        × AreSame (cost_to g.ls k) (pair_price g.c k r) u.cost (pair_price g.c b r) in
        let q = subst Q (sym same_b) (was.fewer, was.same) in
        let p = subst P (sym same) (closed_b, q.0, q.1) in
        record { before_closed = p.0; fewer = p.1; same = p.2 }

    through_near : label_at g.new k ≡ record {
      cost = through g.c (cost_to g.ls g.n.task) g.n.task r k;
      before = g.n.task;
      steps =
          (label_at g.ls g.n.task).steps + 1;
    }
        → IsStep g.c (set g.closed g.n.task true) g.new k r
    through_near same =
        let P = λ (t : Label). (flag (set g.closed g.n.task true) t.before ≡ true)
        × ((label_at g.new t.before).steps < t.steps) × AreSame t.cost (pair_price g.c k r) (cost_to g.new t.before)
        (pair_price g.c t.before r) in
        let near = near_kept g in
        let steps : (label_at g.new g.n.task).steps ≡ (label_at g.ls g.n.task).steps =
        ap (λ (t : Label). t.steps) near in
        let hard : (cost_to g.new g.n.task).hard ≡ (cost_to g.ls g.n.task).hard =
        ap (λ (t : Label). t.cost.hard) near in
        let soft : (cost_to g.new g.n.task).soft ≡ (cost_to g.ls g.n.task).soft =
        ap (λ (t : Label). t.cost.soft) near in
        let p = subst P (sym same) (
          get_or-set_same g.closed g.n.task true false at.1,
          omega arith,
          record
              { hard = omega (arith, ints); soft = omega (arith, ints) },
        ) in
        record { before_closed = p.0; fewer = p.1; same = p.2 }

-- a new label is the old one, or goes through the nearest task
new_or_old : (g : Grows) → (k : ℕ)
    → (label_at g.new k ≡ label_at g.ls k)
    ⊎ ((r : ℕ) × (label_at g.new k ≡ record {
      cost = through g.c (cost_to g.ls g.n.task) g.n.task r k;
      before = g.n.task;
      steps =
          (label_at g.ls g.n.task).steps + 1;
    }))
new_or_old g k =
    elim (cases_Bool (flag (set g.waiting g.n.task false) k)) [
      | inl w ↦ by_choice w (choice_at g.chosen k) refl
      | inr s ↦ inl (kept g k s)
    ]
  where
    by_choice : flag (set g.waiting g.n.task false) k ≡ true → (o : Option ℕ) → choice_at g.chosen k ≡ o
        → (label_at g.new k ≡ label_at g.ls k)
        ⊎ ((r : ℕ) × (label_at g.new k ≡ record {
          cost = through g.c (cost_to g.ls g.n.task) g.n.task r k;
          before = g.n.task;
          steps = (label_at g.ls g.n.task).steps + 1;
        }))
    by_choice w None h = absurd (g.tree.marks.waiting_some k
        (was_true g.waiting g.n.task k (near_inside g).0 w) h)
    by_choice w (Some r) h =
        let l = flag_inside (set g.waiting g.n.task false) k w in
        elim ((g.followed k (omega (arith, length-set g.waiting g.n.task false, g.tree.marks.waiting_length))).better r
        w h) [
          | inl x ↦ inl x.0
          | inr x ↦ inr (r, x.0)
        ]

-- the path to the nearest task, with what a resource costs it, is not dearer than that to a closed one
near_shortest : (g : Grows) → (k r : ℕ) → choice_at g.chosen k ≡ Some r
    → IsAtMost (plus (cost_to g.new k) (pair_price g.c k r)) (plus (cost_to g.ls g.n.task) (pair_price g.c g.n.task r))
near_shortest g k r h =
    elim (cases_Bool (flag (set g.waiting g.n.task false) k)) [
      | inl w ↦ let l = flag_inside (set g.waiting g.n.task false) k w in
          elim ((g.followed k (omega (arith, length-set g.waiting g.n.task false, g.tree.marks.waiting_length))).better
          r w
          h) [
            | inl x ↦ let same_hard : (cost_to g.new k).hard ≡ (cost_to g.ls k).hard =
                ap (λ (t : Label). t.cost.hard) x.0 in
                let same_soft : (cost_to g.new k).soft ≡ (cost_to g.ls k).soft = ap (λ (t : Label). t.cost.soft) x.0 in
                at_most_1 _ _ _ _ x.1 (omega (arith, ints)) (omega (arith, ints))
            | inr x ↦ let same_hard : (cost_to g.new k).hard ≡ (through g.c (cost_to g.ls g.n.task) g.n.task r k).hard =
                ap (λ (t : Label). t.cost.hard) x.0 in
                let same_soft : (cost_to g.new k).soft ≡ (through g.c (cost_to g.ls g.n.task) g.n.task r k).soft =
                ap (λ (t : Label). t.cost.soft) x.0 in
                at_most_1 no_price no_price _ _ (at_most_self no_price) (omega (arith, ints)) (omega (arith, ints))
          ]
      | inr s ↦ shut s (kept g k s)
    ]
  where
    shut : flag (set g.waiting g.n.task false) k ≡ false → label_at g.new k ≡ label_at g.ls k
        → IsAtMost (plus (cost_to g.new k) (pair_price g.c k r))
        (plus (cost_to g.ls g.n.task) (pair_price g.c g.n.task r))
    shut s same = elim (cases_eq k g.n.task) [
      | inl here ↦ subst (λ (t : Label). IsAtMost (plus t.cost (pair_price g.c k r))
          (plus (cost_to g.ls g.n.task) (pair_price g.c g.n.task r))) (sym same)
          (subst (λ (j : ℕ). IsAtMost (plus (cost_to g.ls j) (pair_price g.c j r))
          (plus (cost_to g.ls g.n.task) (pair_price g.c g.n.task r))) (sym here)
          (at_most_self (plus (cost_to g.ls g.n.task) (pair_price g.c g.n.task r))))
      | inr ne ↦ elim (g.tree.marks.some k r h) [
        | inl w ↦ absurd (both_ways (flag g.waiting k) (sym (get_or-set_other g.waiting g.n.task k false false ne) ∙ s)
            w)
        | inr f ↦
            let order = g.tree.nearer.ordered k g.n.task r h f g.near.waits in
            let pair = g.prices.bounds.pairs g.n.task r (g.tree.marks.waiting_before g.n.task g.near.waits)
            (has_range g.c g.task g.chosen g.owners g.matching k r h) in
            let tight = g.prices.exact.pairs k r h in
            let same_hard : (cost_to g.new k).hard ≡ (cost_to g.ls k).hard = ap (λ (t : Label). t.cost.hard) same in
            let same_soft : (cost_to g.new k).soft ≡ (cost_to g.ls k).soft = ap (λ (t : Label). t.cost.soft) same in
            let tight_hard = tight.hard in
            let tight_soft = tight.soft in
            at_most_2 _ _ _ _ _ _ order pair (omega (arith, ints)) (omega (arith, ints))
      ]
    ]

grown_labels : (g : Grows)
    → AreLabels g.c g.chosen g.task (set g.waiting g.n.task false) (set g.closed g.n.task true) g.new
grown_labels g =
    let count = count_set g.waiting g.n.task g.near.waits in
    let was = g.tree.labels in
    record {
      labels_length = g.labels_length;
      step = grown_step g;
      small = λ k. elim (new_or_old g k) [
        | inl x ↦ subst (λ (t : Label). IsWithin (t.steps * GREATEST_TOTAL) t.cost) (sym x) (was.small k)
        | inr x ↦ subst (λ (t : Label). IsWithin (t.steps * GREATEST_TOTAL) t.cost) (sym x.1)
            (within_through (label_at g.ls g.n.task).steps (cost_to g.ls g.n.task) (cost_at g.c g.n.task (Some x.0))
            (cost_at g.c k (Some x.0))
            (was.small g.n.task) (small_at g.c g.costs g.n.task (Some x.0)) (small_at g.c g.costs k (Some x.0)))
      ];
      few = λ k. elim (new_or_old g k) [
        | inl x ↦ let s : (label_at g.new k).steps ≡ (label_at g.ls k).steps = ap (λ (t : Label). t.steps) x in
            let f = was.few k in omega arith
        | inr x ↦ let s : (label_at g.new k).steps ≡ (label_at g.ls g.n.task).steps + 1 =
            ap (λ (t : Label). t.steps) x.1 in
            let f = was.few g.n.task in omega arith
      ];
      shortest = λ i k r f h. elim (true_cases g.closed g.n.task i f) [
        | inl same ↦ subst (λ (j : ℕ). IsAtMost (plus (cost_to g.new k) (pair_price g.c k r))
            (plus (cost_to g.new j) (pair_price g.c j r))) (sym same)
            (subst (λ (t : Label). IsAtMost (plus (cost_to g.new k) (pair_price g.c k r))
            (plus t.cost (pair_price g.c g.n.task r)))
            (sym (near_kept g))
            (near_shortest g k r h))
        | inr old ↦ subst (λ (t : Label). IsAtMost (plus (cost_to g.new k) (pair_price g.c k r))
            (plus t.cost (pair_price g.c i r)))
            (sym (kept g i
            (closed_shut g i f)))
            (at_most_2 _ _ _ _ _ _ (lower g k r h)
            (was.shortest i k r old h)
            (omega (arith, ints)) (omega (arith, ints)))
      ];
    }

-- the price of a settled task is at most its cheapest way out
price_below_out : (c : Costs) (task : ℕ) (chosen owners : List (Option ℕ)) (us : List Price)
    → HasPrices c task chosen owners us
    → (k : ℕ) → k < task → (choice : Option ℕ) (cost : Totals) → IsWayOut c owners k choice cost
    → IsAtMost (price_at us k) (price_of cost)
price_below_out c task chosen owners us p k l None cost way =
    subst (λ (t : Totals). IsAtMost (price_at us k) (price_of t)) (sym way) (p.bounds.none k l)
price_below_out c task chosen owners us p k l (Some r) cost way =
    let none = p.bounds.free r way.1 in
    let hard : (price_at p.values r).hard ≡ pos 0 = ap (λ (q : Price). q.hard) none in
    let soft : (price_at p.values r).soft ≡ pos 0 = ap (λ (q : Price). q.soft) none in
    subst (λ (t : Totals). IsAtMost (price_at us k) (price_of t)) (sym way.2)
    (at_most_1 _ _ _ _ (p.bounds.pairs k r l way.0) (omega (arith, ints)) (omega (arith, ints)))

-- the end after the way out of the nearest task was looked at
pub record Ends (c : Costs) (owners : List (Option ℕ)) (ls : List Label) (n : Near) (e e' : End) : Type 0 where
  pub choice : Option ℕ
  pub cost : Totals
  pub out : IsCheapestOut c owners n.task choice cost
  pub small : IsSmall cost
  pub better : IsBetterEnd e n.task (cost_to ls n.task) choice cost e'

-- it is not above the old one, and not above the path by the way out
end_lower : (c : Costs) (owners : List (Option ℕ)) (ls : List Label) (n : Near) (e e' : End)
    → (x : Ends c owners ls n e e')
    → IsAtMost e'.cost e.cost × IsAtMost e'.cost (plus (cost_to ls n.task) (price_of x.cost))
end_lower c owners ls n e e' x = elim x.better [
  | inl y ↦ (
    subst (λ (d : End). IsAtMost d.cost e.cost) (sym y.0) y.1,
    subst (λ (d : End). IsAtMost d.cost (plus (cost_to ls n.task) (price_of x.cost))) (sym y.0)
        (at_most_self (plus (cost_to ls n.task) (price_of x.cost))),
  )
  | inr y ↦ (
    subst (λ (d : End). IsAtMost d.cost e.cost) (sym y.0) (at_most_self e.cost),
    subst (λ (d : End). IsAtMost d.cost (plus (cost_to ls n.task) (price_of x.cost))) (sym y.0) y.1,
  )
]

-- a bound of the old end and of the new path bounds the new end
end_above : (c : Costs) (owners : List (Option ℕ)) (ls : List Label) (n : Near) (e e' : End)
    → (x : Ends c owners ls n e e') → (p : Price)
    → IsAtMost p e.cost → IsAtMost p (plus (cost_to ls n.task) (price_of x.cost)) → IsAtMost p e'.cost
end_above c owners ls n e e' x p h k = elim x.better [
  | inl y ↦ subst (λ (d : End). IsAtMost p d.cost) (sym y.0) k
  | inr y ↦ subst (λ (d : End). IsAtMost p d.cost) (sym y.0) h
]

-- the end of a path is one by labels that stay, and that of a new path is one
end_same : (c : Costs) (owners : List (Option ℕ)) (ls new : List Label) (task : ℕ) (cost : Price) (choice : Option ℕ)
    → label_at new task ≡ label_at ls task
    → MatchOption choice (IsSum (cost_to ls task) (none_price c task) cost)
    (λ r. (r < c.resources) × (choice_at owners r ≡ None) × IsSum (cost_to ls task) (pair_price c task r) cost)
    → MatchOption choice (IsSum (cost_to new task) (none_price c task) cost)
    (λ r. (r < c.resources) × (choice_at owners r ≡ None) × IsSum (cost_to new task) (pair_price c task r) cost)
end_same c owners ls new task cost None same h =
    subst (λ (t : Label). IsSum t.cost (none_price c task) cost) (sym same) h
end_same c owners ls new task cost (Some r) same h =
    (h.0, h.1, subst (λ (t : Label). IsSum t.cost (pair_price c task r) cost) (sym same) h.2)

end_new : (c : Costs) (owners : List (Option ℕ)) (ls : List Label) (task : ℕ) (choice : Option ℕ) (cost : Totals)
    → IsWayOut c owners task choice cost
    → MatchOption choice (IsSum (cost_to ls task) (none_price c task) (plus (cost_to ls task) (price_of cost)))
    (λ r. (r < c.resources) × (choice_at owners r ≡ None)
    × IsSum (cost_to ls task) (pair_price c task r) (plus (cost_to ls task) (price_of cost)))
end_new c owners ls task None cost way =
    let hard : cost.hard ≡ (cost_at c task None).hard = ap (λ (t : Totals). t.hard) way in
    let soft : cost.soft ≡ (cost_at c task None).soft = ap (λ (t : Totals). t.soft) way in
    record { hard = omega (arith, ints); soft = omega (arith, ints) }
end_new c owners ls task (Some r) cost way =
    let hard : cost.hard ≡ (cost_at c task (Some r)).hard = ap (λ (t : Totals). t.hard) way.2 in
    let soft : cost.soft ≡ (cost_at c task (Some r)).soft = ap (λ (t : Totals). t.soft) way.2 in
    (way.0, way.1, record { hard = omega (arith, ints); soft = omega (arith, ints) })

grown_end : (g : Grows) (e' : End) → Ends g.c g.owners g.ls g.n g.e e'
    → IsEnd g.c g.owners (set g.closed g.n.task true) g.new e'
grown_end g e' x =
    let low = end_lower g.c g.owners g.ls g.n g.e e' x in
    let at = near_inside g in
    let near = near_kept g in
    record {
      end_closed = elim x.better [
        | inl y ↦ subst (λ (d : End). flag (set g.closed g.n.task true) d.task ≡ true) (sym y.0)
            (get_or-set_same g.closed g.n.task true false at.1)
        | inr y ↦ subst (λ (d : End). flag (set g.closed g.n.task true) d.task ≡ true) (sym y.0)
            (still_true g.closed g.n.task g.e.task at.1 g.tree.ends.end_closed)
      ];
      is = elim x.better [
        | inl y ↦ subst (λ (d : End). MatchOption d.choice (IsSum (cost_to g.new d.task) (none_price g.c d.task) d.cost)
            (λ r. (r < g.c.resources) × (choice_at g.owners r ≡ None)
            × IsSum (cost_to g.new d.task) (pair_price g.c d.task r) d.cost)) (sym y.0)
            (end_same g.c g.owners g.ls g.new g.n.task (plus (cost_to g.ls g.n.task) (price_of x.cost)) x.choice near
            (end_new g.c g.owners g.ls g.n.task x.choice x.cost x.out.is))
        | inr y ↦ subst (λ (d : End). MatchOption d.choice (IsSum (cost_to g.new d.task) (none_price g.c d.task) d.cost)
            (λ r. (r < g.c.resources) × (choice_at g.owners r ≡ None)
            × IsSum (cost_to g.new d.task) (pair_price g.c d.task r) d.cost)) (sym y.0)
            (end_same g.c g.owners g.ls g.new g.e.task g.e.cost g.e.choice
            (kept g g.e.task
            (still_false g.waiting g.n.task g.e.task at.0 (g.tree.marks.apart g.e.task g.tree.ends.end_closed)))
            g.tree.ends.is)
      ];
      none = λ i f. elim (true_cases g.closed g.n.task i f) [
        | inl same ↦ subst (λ (j : ℕ). IsAtMost e'.cost (plus (cost_to g.new j) (none_price g.c j))) (sym same)
            (subst (λ (t : Label). IsAtMost e'.cost (plus t.cost (none_price g.c g.n.task))) (sym near)
            (at_most_2 _ _ _ _ _ _ low.1 x.out.none (omega (arith, ints)) (omega (arith, ints))))
        | inr old ↦ subst (λ (t : Label). IsAtMost e'.cost (plus t.cost (none_price g.c i)))
            (sym (kept g i
            (closed_shut g i f)))
            (at_most_trans _ _ _ low.0 (g.tree.ends.none i old))
      ];
      free = λ i r f l h. elim (true_cases g.closed g.n.task i f) [
        | inl same ↦ subst (λ (j : ℕ). IsAtMost e'.cost (plus (cost_to g.new j) (pair_price g.c j r))) (sym same)
            (subst (λ (t : Label). IsAtMost e'.cost (plus t.cost (pair_price g.c g.n.task r))) (sym near)
            (at_most_2 _ _ _ _ _ _ low.1 (x.out.free r l h) (omega (arith, ints)) (omega (arith, ints))))
        | inr old ↦ subst (λ (t : Label). IsAtMost e'.cost (plus t.cost (pair_price g.c i r)))
            (sym (kept g i
            (closed_shut g i f)))
            (at_most_trans _ _ _ low.0 (g.tree.ends.free i r old l h))
      ];
      small = elim x.better [
        | inl y ↦ subst (λ (d : End). IsWithin path_limit d.cost) (sym y.0)
            (within_end (label_at g.ls g.n.task).steps (cost_to g.ls g.n.task) x.cost (g.tree.labels.small g.n.task)
            x.small
            (omega (arith, g.tree.labels.few g.n.task, g.costs.few_tasks)))
        | inr y ↦ subst (λ (d : End). IsWithin path_limit d.cost) (sym y.0) g.tree.ends.small
      ];
    }
  where
    within_end : (s : ℕ) (p : Price) (t : Totals) → IsWithin (s * GREATEST_TOTAL) p → IsSmall t → s ≤ 200
        → IsWithin path_limit (plus p (price_of t))
    within_end s p t h k l = record {
      hard_least = omega (arith, ints);
      hard_most = omega (arith, ints);
      soft_least = omega (arith, ints);
      soft_most = omega (arith, ints);
    }

grown_nearer : (g : Grows) (e' : End) → Ends g.c g.owners g.ls g.n g.e e'
    → AreNearer g.chosen g.us (set g.waiting g.n.task false) (set g.closed g.n.task true) g.new e'
grown_nearer g e' x =
    let at = near_inside g in
    let near = near_kept g in
    let key_end : IsAtMost (key_of g.ls g.us g.n.task) g.e.cost =
    subst (λ (p : Price). IsAtMost p g.e.cost) g.near.is g.before_end in
    let key_out : IsAtMost (key_of g.ls g.us g.n.task) (plus (cost_to g.ls g.n.task) (price_of x.cost)) =
    at_most_1 _ _ _ _ (price_below_out g.c g.task g.chosen g.owners g.us g.prices g.n.task
    (g.tree.marks.waiting_before g.n.task g.near.waits) x.choice x.cost x.out.is)
    (omega (arith, ints)) (omega (arith, ints)) in
    record {
      ended = λ k r h f. elim (true_cases g.closed g.n.task k f) [
        | inl same ↦ subst (λ (j : ℕ). IsAtMost (key_of g.new g.us j) e'.cost) (sym same)
            (subst (λ (t : Label). IsAtMost (plus t.cost (price_at g.us g.n.task)) e'.cost) (sym near)
            (end_above g.c g.owners g.ls g.n g.e e' x (key_of g.ls g.us g.n.task) key_end key_out))
        | inr old ↦ subst (λ (t : Label). IsAtMost (plus t.cost (price_at g.us k)) e'.cost)
            (sym (kept g k
            (closed_shut g k f)))
            (end_above g.c g.owners g.ls g.n g.e e' x (key_of g.ls g.us k) (g.tree.nearer.ended k r h old)
            (at_most_trans _ _ _ (g.tree.nearer.ordered k g.n.task r h old g.near.waits) key_out))
      ];
      ordered = λ k j r h f w.
          let later = new_key j w in
          elim (true_cases g.closed g.n.task k f) [
            | inl same ↦ subst (λ (i : ℕ). IsAtMost (key_of g.new g.us i) (key_of g.new g.us j)) (sym same)
                (subst (λ (t : Label). IsAtMost (plus t.cost (price_at g.us g.n.task)) (key_of g.new g.us j)) (sym near)
                later)
            | inr old ↦ subst (λ (t : Label). IsAtMost (plus t.cost (price_at g.us k)) (key_of g.new g.us j))
                (sym (kept g k
                (closed_shut g k f)))
                (at_most_trans _ _ _ (g.tree.nearer.ordered k g.n.task r h old g.near.waits) later)
          ];
    }
  where
    -- a waiting task is not nearer than the one that was closed
    new_key : (j : ℕ) → flag (set g.waiting g.n.task false) j ≡ true
        → IsAtMost (key_of g.ls g.us g.n.task) (key_of g.new g.us j)
    new_key j w = by_choice j w (choice_at g.chosen j) refl
      where
        by_choice : (j : ℕ) → flag (set g.waiting g.n.task false) j ≡ true → (o : Option ℕ) → choice_at g.chosen j ≡ o
            → IsAtMost (key_of g.ls g.us g.n.task) (key_of g.new g.us j)
        by_choice j w None h = absurd (g.tree.marks.waiting_some j
            (was_true g.waiting g.n.task j (near_inside g).0 w) h)
        by_choice j w (Some r) h =
            let waits = was_true g.waiting g.n.task j (near_inside g).0
            w in
            let l = flag_inside (set g.waiting g.n.task false) j w in
            let old : IsAtMost (key_of g.ls g.us g.n.task) (key_of g.ls g.us j) =
            subst (λ (p : Price). IsAtMost p (key_of g.ls g.us j)) g.near.is
            (g.near.least j (flag_inside g.waiting j waits) waits) in
            elim ((g.followed j (omega (
              arith,
              length-set g.waiting g.n.task false,
              g.tree.marks.waiting_length,
            ))).better r
            w h) [
              | inl y ↦ subst (λ (t : Label). IsAtMost (key_of g.ls g.us g.n.task) (plus t.cost (price_at g.us j)))
                  (sym y.0)
                  old
              | inr y ↦
                  let pair = g.prices.bounds.pairs g.n.task r (g.tree.marks.waiting_before g.n.task g.near.waits)
                  (has_range g.c g.task g.chosen g.owners g.matching j r h) in
                  let tight = g.prices.exact.pairs j r h in
                  let tight_hard = tight.hard in
                  let tight_soft = tight.soft in
                  subst (λ (t : Label). IsAtMost (key_of g.ls g.us g.n.task) (plus t.cost (price_at g.us j))) (sym y.0)
                  (at_most_1 _ _ _ _ pair (omega (arith, ints)) (omega (arith, ints)))
            ]

pub tree_grows : (g : Grows) (e' : End) → Ends g.c g.owners g.ls g.n g.e e'
    → IsTree g.c g.task g.chosen g.owners g.us (set g.waiting g.n.task false) (set g.closed g.n.task true) g.new e'
tree_grows g e' x = record {
  marks = grown_marks g;
  labels = grown_labels g;
  ends = grown_end g e' x;
  nearer = grown_nearer g e' x;
}

-- all labels are within the limit of paths
pub labels_small : (c : Costs) (task : ℕ) (chosen owners : List (Option ℕ)) (us : List Price)
    (waiting closed : List Bool) (ls : List Label) (e : End)
    → AreCosts c → IsTree c task chosen owners us waiting closed ls e → (k : ℕ) → IsWithin path_limit (cost_to ls k)
labels_small c task chosen owners us waiting closed ls e costs t k =
    wider (label_at ls k).steps (cost_to ls k) (t.labels.small k) (omega (arith, t.labels.few k, costs.few_tasks))
  where
    wider : (s : ℕ) (p : Price) → IsWithin (s * GREATEST_TOTAL) p → s ≤ 200 → IsWithin path_limit p
    wider s p h l = within_wider (s * GREATEST_TOTAL) path_limit p h (omega arith)

-- a label that was read is the one that stands there
pub one_label : (ls : List Label) (k n : ℕ) (l : Label) → l ≡ get_or ls k l → k < n → n ≡ length ls → l ≡ label_at ls k
one_label ls k n l h inside e = get_or_read_under ls k n l no_label h inside e

-- what was found in slices is so in the rows
near_in : (ls ls' : List Label) (ws ws' : List Bool) (us : List Price) (n : Near) → ls' ≡ ls → ws' ≡ ws
    → IsNear ls' ws' us (length ws') n → IsNear ls ws us (length ws) n
near_in ls ls' ws ws' us n e f h =
    subst (λ (x : List Label). IsNear x ws us (length ws) n) e
    (subst (λ (w : List Bool). IsNear ls' w us (length w) n) f h)

label_read : (c : Costs) (task : ℕ) (chosen owners : List (Option ℕ)) (us : List Price) (waiting closed : List Bool)
    (ls : List Label) (e : End) (n : Near) (l : Label)
    → IsTree c task chosen owners us waiting closed ls e → IsNear ls waiting us (length waiting) n
    → l ≡ get_or ls n.task l
    → l ≡ label_at ls n.task
label_read c task chosen owners us waiting closed ls e n l t near read =
    let inside = flag_inside waiting n.task near.waits in
    one_label ls n.task (length ls) l read (omega (arith, t.labels.labels_length, t.marks.waiting_length)) refl

pub near_small : (c : Costs) (task : ℕ) (chosen owners : List (Option ℕ)) (us : List Price)
    (waiting ws closed : List Bool) (ls ls' : List Label) (e : End) (n : Near) (l : Label)
    → AreCosts c → IsTree c task chosen owners us waiting closed ls e → ls' ≡ ls → ws ≡ waiting
    → IsNear ls' ws us (length ws) n
    → l ≡ get_or ls n.task l → IsWithin path_limit l.cost
near_small c task chosen owners us waiting ws closed ls ls' e n l costs t same_ls same_ws near read =
    subst (λ (x : Label). IsWithin path_limit x.cost)
    (sym (label_read c task chosen owners us waiting closed ls e n l t
    (near_in ls ls' waiting ws us n same_ls same_ws near) read))
    (labels_small c task chosen owners us waiting closed ls e costs t n.task)

pub near_smaller : (us : List Price) (waiting ws : List Bool) (ls : List Label) (m : ℕ) (n : Near)
    → ws ≡ waiting → IsNear ls ws us m n → count_of (set waiting n.task false) < count_of waiting
near_smaller us waiting ws ls m n same near =
    count_smaller waiting n.task (subst (λ (w : List Bool). flag w n.task ≡ true) same near.waits)

pub goes_on : (c : Costs) (task : ℕ) (chosen owners : List (Option ℕ)) (us : List Price)
    (waiting ws ws' closed : List Bool) (ls ls' new : List Label) (e e' : End) (n : Near) (l : Label)
    (choice : Option ℕ) (cost : Totals)
    → AreCosts c → task < c.tasks → IsMatching c task chosen owners → HasPrices c task chosen owners us
    → IsTree c task chosen owners us waiting closed ls e → ls' ≡ ls → ws ≡ waiting → IsNear ls' ws us (length ws) n
    → IsAtMost n.key e.cost → l ≡ get_or ls n.task l → ws' ≡ set waiting n.task false → length new ≡ c.tasks
    → ((k : ℕ) → k < c.tasks → IsFollowed c chosen ws' l n.task k (label_at ls k) (label_at new k))
    → IsCheapestOut c owners n.task choice cost → IsSmall cost → IsBetterEnd e n.task l.cost choice cost e'
    → IsTree c task chosen owners us (set waiting n.task false) (set closed n.task true) new e'
goes_on c task chosen owners us waiting ws ws' closed ls ls' new e e' n l choice cost costs inside m p t same_ls same_ws
    near low read set_ws len followed out small better =
    let near_here = near_in ls ls' waiting ws us n same_ls same_ws near in
    let at = label_read c task chosen owners us waiting closed ls e n l t near_here read in
    tree_grows
    (record {
      c = c;
      task = task;
      chosen = chosen;
      owners = owners;
      us = us;
      waiting = waiting;
      closed = closed;
      ls = ls;
      new = new;
      e = e;
      n = n;
      costs = costs;
      inside = inside;
      matching = m;
      prices = p;
      tree = t;
      near = near_here;
      before_end = low;
      labels_length = len;
      followed = λ k b. subst (λ (x : Label). IsFollowed c chosen (set waiting n.task false) x n.task k (label_at ls k)
          (label_at new k)) at
          (subst (λ (w : List Bool). IsFollowed c chosen w l n.task k (label_at ls k) (label_at new k)) set_ws
          (followed k b));
    })
    e'
    (record {
      choice = choice;
      cost = cost;
      out = out;
      small = small;
      better = subst (λ (x : Label). IsBetterEnd e n.task x.cost choice cost e') at better;
    })

pub stops : (c : Costs) (task : ℕ) (chosen owners : List (Option ℕ)) (us : List Price) (waiting ws closed : List Bool)
    (ls ls' : List Label) (e : End) (n : Near)
    → IsTree c task chosen owners us waiting closed ls e → ls' ≡ ls → ws ≡ waiting → IsNear ls' ws us (length ws) n
    → IsAtMost e.cost n.key → IsWholeTree c task chosen owners us waiting closed ls e
stops c task chosen owners us waiting ws closed ls ls' e n t same_ls same_ws near high =
    let here = near_in ls ls' waiting ws us n same_ls same_ws near in
    record {
      tree = t;
      stopped = λ k w. at_most_trans _ _ _ high (here.least k (flag_inside waiting k w) w);
    }
