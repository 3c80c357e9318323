-- The demands of a state without meets: those of the cells alone are present.
use Rattle.std.proofs.Common.{ℕ, zero, suc, ◌+◌, ◌*◌, ◌<◌, ◌≤◌, ◌≡◌, ◌≢◌, ◌⊎◌, inl, inr, Bool, true, false, Option}
use Rattle.std.proofs.Common.{Some, None, List, [], All, take, length, get_or, replicate, set, slice_get, refl, sym, ap}
use Rattle.std.proofs.Common.{◌∙◌, subst, arith, length-set, get_or-set_same, get_or-set_other}
use Rattle.std.specs.Prelude.{is_some}
use Rattle.std.proofs.lemmas.List.{length-replicate, length-take-le, get_or-take}
use Rattle.std.proofs.lemmas.List.Elements.{All-get_or}
use Rattle.std.proofs.lemmas.Option.{get_or_from_slice_get, slice_get_within}
use Rattle.demand_matching.proofs.Counting.{cases_eqb}
use Rattle.demand_matching.specs.Domains.{Domains, domain_of, no_domains, with_domain}
use Rattle.demand_matching.specs.declared.domains.Domain.{Domain}
use Rattle.khe_instance.specs.WellMade.{AreWellMade}
use Rattle.khe_instance.specs.declared.parts.Parts.{Parts}
use Rattle.khe_told.specs.Slots.{no_meets}
use Rattle.khe_told.proofs.FreeSlots.{none_long, told_opened}
use Rattle.hall_report.proofs.Renewals.{both_sets, same_sets}
use Rattle.hall_report.specs.Kept.{AreOf}
use Rattle.hall_report.specs.Opening.{AreCells, AreWanted}
use Rattle.hall_report.specs.Picks.{AreResourceSets, AreStartSets, cell_domain}
use Rattle.hall_report.specs.Units.{AreFirsts, AreUnits, tasks_of}
use Rattle.hall_report.specs.declared.renewing.Picks.{Picks}
use Rattle.hall_report.specs.declared.units.Units.{Units}

absent : (n j : ℕ) → get_or {A = Option Domain} (replicate n None) j None ≡ None
absent zero j = refl
absent (suc n) zero = refl
absent (suc n) (suc j) = absent n j

none_present : (o : Option Domain) → o ≡ None → is_some o ≡ true → ⊥
none_present o e h = let g : false ≡ true = sym (ap is_some e) ∙ h in let b : ⊥ = cc in b

-- a list with elements below a product has a factor above 0
some_times : (a b : ℕ) (cells : List ℕ) → All (λ c. c < a * b) cells → 0 < length cells → 0 < b
some_times a b cells all l = positive a b (let k = All-get_or (λ c. c < a * b) cells 0 0 l all in omega (arith, k))
  where
    positive : (a b : ℕ) → 0 < a * b → 0 < b
    positive a zero l = absurd (let z : a * zero ≡ 0 = grind arith in omega (arith, l, z))
    positive a (suc b) l = omega arith

pub opened : (p : Parts) (u : Units) (picks : Picks) (starts resources : List (List Bool)) (cells : List ℕ)
    (w : Domains) (tasks times width count : ℕ)
    → AreWellMade p → AreUnits p.events (no_meets p) u.next.items u.held.items u.free.items
    → AreFirsts p.events u.tasks.items
    → AreStartSets p starts picks.starts.items → AreResourceSets p resources picks.resources.items → AreCells p cells
    → tasks ≡ tasks_of p.events → times ≡ length p.times → width ≡ length p.resources → count ≡ tasks + length cells
    → AreWanted times tasks cells (no_domains starts resources times width count) w
    → AreOf p (no_meets p) u picks w cells tasks times
opened p u picks starts resources cells w tasks times width count made units firsts are_starts are_resources are_cells
    task_count time_count wide total wanted = record {
      told = told_opened p;
      units = units;
      opened = record {
        made = made;
        firsts = firsts;
        starts = subst (λ sets. AreStartSets p sets picks.starts.items) (sym wanted.sets.times) are_starts;
        resources = subst (λ sets. AreResourceSets p sets picks.resources.items) (sym wanted.sets.resources)
            are_resources;
        last = wanted.sets.last ∙ time_count;
        width = wanted.sets.width ∙ wide;
        amount = wanted.sets.amount ∙ length-replicate count None ∙ total ∙ ap (λ n. n + length cells) task_count;
        few = are_cells.few;
        timed = some_times (length p.resources) (length p.times) cells are_cells.below;
        listed = are_cells.listed;
        cell_domains = λ i l. ap (λ n. domain_of w (n + i)) (sym task_count) ∙ wanted.cell_domains i l
            ∙ ap (λ n. Some (cell_domain n (get_or cells i 0))) time_count;
      };
      numbered = record {
        domains = λ m k o task. absurd (let a = none_long p m in let b = task.1 in omega (arith, a, b));
        present = λ j l there. absurd (none_present (domain_of w j)
            (wanted.others j (inl (omega (arith, l, task_count))) ∙ absent count j) there);
      };
      task_count = task_count;
      time_count = time_count;
    }

-- one cell more
pub wanted_none : (last first : ℕ) (w : Domains) → AreWanted last first [] w w
wanted_none last first w = record {
  sets = same_sets w;
  cell_domains = λ i l. absurd (omega (arith, l));
  others =
      λ j away. refl;
}

pub wanted_more : (last first n c : ℕ) (cells : List ℕ) (old mid new : Domains)
    → AreWanted last first (take n cells) old mid → slice_get cells n ≡ Some c
    → first + length cells ≤ length old.demands → new ≡ with_domain mid (first + n) (Some (cell_domain last c))
    → AreWanted last first (take (n + 1) cells) old new
wanted_more last first n c cells old mid new are at room made =
    subst (AreWanted last first (take (n + 1) cells) old) (sym made) (record {
      sets = both_sets old mid (with_domain mid (first + n) (Some (cell_domain last c))) are.sets
          (record {
            times = refl;
            resources = refl;
            last = refl;
            width = refl;
            amount =
                length-set mid.demands (first + n) (Some (cell_domain last c));
          });
      cell_domains = λ i l. elim (cases_eqb i n) [
        | inl eq ↦
            ap (λ k. get_or (set mid.demands (first + n) (Some (cell_domain last c))) (first + k) None) eq
            ∙ get_or-set_same mid.demands (first + n) (Some (cell_domain last c)) None
            (let a = are.sets.amount in omega (arith, a, room, within))
            ∙ ap (λ k. Some (cell_domain last k)) (sym (ap (λ k. get_or (take (n + 1) cells) k 0) eq
            ∙ get_or-take (n + 1) cells n 0 (omega arith) ∙ get_or_from_slice_get cells n c 0 at))
        | inr ne ↦
            let less : i < n = let b = one_more in omega (arith, l, b, ne) in
            get_or-set_other mid.demands (first + n) (first + i) (Some (cell_domain last c)) None
            (λ e. ne (omega (arith, e)))
            ∙ are.cell_domains i (let b = so_many in omega (arith, b, less))
            ∙ ap (λ k. Some (cell_domain last k)) (get_or-take n cells i 0 less
            ∙ sym (get_or-take (n + 1) cells i 0 (omega (arith, less))))
      ];
      others = λ j away. get_or-set_other mid.demands (first + n) j (Some (cell_domain last c)) None (far j away)
          ∙ are.others j (near j away);
    })
  where
    within : n < length cells
    within = slice_get_within cells n c at

    so_many : length (take n cells) ≡ n
    so_many = length-take-le n cells (let w = within in omega (arith, w))

    one_more : length (take (n + 1) cells) ≡ n + 1
    one_more = length-take-le (n + 1) cells (let w = within in omega (arith, w))

    far : (j : ℕ) → (j < first) ⊎ (first + length (take (n + 1) cells) ≤ j) → j ≢ first + n
    far j away eq = elim away [ inl a ↦ omega (arith, a, eq) | inr b ↦ (let o = one_more in omega (arith, b, eq, o)) ]

    near : (j : ℕ) → (j < first) ⊎ (first + length (take (n + 1) cells) ≤ j)
        → (j < first) ⊎ (first + length (take n cells) ≤ j)
    near j away = elim away [
      | inl a ↦ inl a
      | inr b ↦
          inr (let o = one_more in let s = so_many in omega (arith, b, o, s))
    ]
