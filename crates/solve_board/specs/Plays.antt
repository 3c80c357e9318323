-- What a step on a word of the board tells: the seat before, the word found, and the seat after.
use Rattle.std.specs.Prelude.{◌≡◌, ℕ, ◌≤◌, length}
use Rattle.atomic_table.specs.Table.{Me, Step}
use Rattle.solve_board.specs.Counts.{times, IsAmong}
use Rattle.solve_board.specs.Views.{claimed, offered, looked}
use Rattle.solve_board.specs.declared.views.BoardView.{BoardView}

-- what a seat knows, and the slots that it holds: none, since a board has no slots
abbrev pub Seated : Type 0
Seated = Me (Unit {0}) BoardView

-- the number was claimed by no seat, and the seat has claimed no more numbers than it says
abbrev pub Claims : Step (Unit {0}) → Seated → ℕ → Seated → Type 0
Claims st me n me' = (me' ≡ (claimed me.0 n, me.1)) × (times n me.0.claims ≡ 0) × (length me.0.claims ≤ n)

-- the least offer before wasn't above what the seat had seen
abbrev pub Offers : Step (Unit {0}) → Seated → ℕ → Seated → Type 0
Offers st me n me' = (me' ≡ (offered me.0 st.first n, me.1)) × (n ≤ me.0.seen)

-- the least offer isn't above what the seat has seen or offered
abbrev pub Looks : Step (Unit {0}) → Seated → ℕ → Seated → Type 0
Looks st me n me' = (me' ≡ (looked me.0 n, me.1)) × (n ≤ me.0.jobs) × (n ≤ me.0.seen)
    × ((o : ℕ) → IsAmong o me.0.offers → n ≤ o)

-- nothing changes, and the seat has claimed no number twice
abbrev pub Tells : Step (Unit {0}) → Seated → ℕ → Seated → Type 0
Tells st me n me' = (me' ≡ me) × ((k : ℕ) → times k me.0.claims ≤ 1)
