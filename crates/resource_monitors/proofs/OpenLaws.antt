-- What is kept while there are no meets.
use Rattle.std.proofs.Common.{ℕ, ◌≡◌, ◌<◌, ◌∙◌, zero, suc, Bool, List, length, slice_index, refl, sym, ap, subst, arith}
use Rattle.std.proofs.lemmas.List.{length-replicate}
use Rattle.std.specs.Prelude.{replicate}
use Rattle.khe_instance.specs.Running.{running_tasks}
use Rattle.khe_instance.specs.declared.parts.Parts.{Parts}
use Rattle.khe_instance.specs.declared.rules.Kind.{Kind}
use Rattle.khe_instance.specs.declared.states.Duty.{Duty}
use Rattle.khe_told.specs.Slots.{no_meets}
use Rattle.timetables.specs.Counts.{no_counts, row_of, count_at}
use Rattle.resource_monitors.specs.Cells.{HasRows}
use Rattle.resource_monitors.specs.Kept.{AreKept}
use Rattle.resource_monitors.specs.Posts.{AreLists}
use Rattle.resource_monitors.specs.Sets.{room_for}
use Rattle.resource_monitors.specs.declared.posts.Post.{Post}
use Rattle.khe_told.proofs.FreeSlots.{told_opened}
use Rattle.resource_monitors.proofs.StateLaws.{no_duties}

pub none_row : (n t : ℕ) → slice_index (replicate n 0) t ≡ 0
none_row zero t = refl
none_row (suc n) zero = refl
none_row (suc n) (suc t) = none_row n t

none_count : (n m r t : ℕ) → count_at (no_counts n m) r t ≡ 0
none_count zero m r t = refl
none_count (suc n) m zero t = none_row m t
none_count (suc n) m (suc r) t = none_count n m r t

long_row : (n m r : ℕ) → r < n → length (row_of (no_counts n m) r) ≡ m
long_row zero m r l = absurd (omega (arith, l))
long_row (suc n) m zero l = length-replicate m 0
long_row (suc n) m (suc r) l = long_row n m r (omega (arith, l))

opened : (p : Parts) → HasRows p (no_counts (length p.resources) (length p.times))
opened p = record {
  resources = length-replicate (length p.resources) (replicate (length p.times) 0);
  times =
      λ r l. long_row (length p.resources) (length p.times) r l;
}

pub kept_opened : (served : Kind → Bool) (p : Parts) (rows : List (List ℕ)) (sets : List (List (List Bool)))
    (lists : List (List Post)) → rows ≡ no_counts (length p.resources) (length p.times) → sets ≡ room_for p
    → AreLists served (length p.resources) p.monitors lists → AreKept served p (no_meets p) rows sets lists
kept_opened served p rows sets lists b c d = record {
  told = told_opened p;
  rows_all = subst (HasRows p) (sym b) (opened p);
  counts = λ r t. (ap (λ xs. count_at xs r t) b ∙ none_count (length p.resources) (length p.times) r t
      ∙ sym (ap (λ (ds : List Duty). running_tasks ds r t) (no_duties p)));
  sets_all = c;
  lists_all = d;
}
