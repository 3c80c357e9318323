-- Marks of times that tell when the events of a group run.
use Rattle.std.specs.Prelude.{ℕ, ◌+◌, ◌≡◌, ◌==◌, Bool, ◌&&◌, ◌||◌, nat_le, nat_lt, List, slice_index, count_by}
use Rattle.std.specs.Prelude.{if◌then◌else◌}
use Rattle.event_deviations.specs.Marked.{is_marked}

-- whether a time is one of those from the first to before the end
abbrev pub is_between : ℕ → ℕ → ℕ → Bool
is_between first end t = nat_le first t && nat_lt t end

-- the times at which these hold are marked besides
abbrev pub Joins : List ℕ → List ℕ → (ℕ → Bool) → Type 0
Joins old new holds = (t : ℕ) → is_marked new t ≡ (is_marked old t || holds t)

-- of the times with this rank, those at which these hold have the next one
abbrev pub Advances : ℕ → List ℕ → List ℕ → (ℕ → Bool) → Type 0
Advances rank old new holds = (t : ℕ) → slice_index new t
    ≡ (if slice_index old t == rank && holds t then rank + 1 else slice_index old t)

-- how many times have a rank
abbrev pub count_at : ℕ → List ℕ → ℕ
count_at rank values = count_by (λ v. v == rank) values
