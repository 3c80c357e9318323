-- What a seat knows: its claims, offers and looks, and the least offer that it has seen.
use Rattle.std.specs.Prelude.{ℕ, ◌+◌, ◌-◌, ◌^◌, min, nat_lt, if◌then◌else◌, [], ◌∷◌, ◌++◌}
use Rattle.solve_board.specs.declared.views.BoardView.{BoardView}

-- the first seat of a board
abbrev pub first_view : ℕ → BoardView
first_view jobs = record { claims = []; offers = []; looks = []; seen = jobs; jobs = jobs; left = 2 ^ 32; weight = 1 }

-- what a join leaves of the seat that it takes in; it is the same for every board
abbrev pub spent_view : BoardView
spent_view = record { claims = []; offers = []; looks = []; seen = 10000; jobs = 10000; left = 0; weight = 0 }

-- after a claim of n
abbrev pub claimed : BoardView → ℕ → BoardView
claimed v n = record v { claims = v.claims ++ n ∷ [] }

-- after an offer that found this word
abbrev pub offered : BoardView → ℕ → ℕ → BoardView
offered v job word = record v { offers = v.offers ++ job ∷ []; seen = min word job }

-- after a look that found this word, which joins the looks where it is below the number of jobs
abbrev pub looked : BoardView → ℕ → BoardView
looked v word = record v { looks = if nat_lt word v.jobs then v.looks ++ word ∷ [] else v.looks; seen = word }

-- after a look that answered none
abbrev pub saw_none : BoardView → BoardView
saw_none v = record v { seen = v.jobs }

-- after a look that answered n
abbrev pub saw : BoardView → ℕ → BoardView
saw v n = record v { looks = v.looks ++ n ∷ []; seen = n }

-- the old seat after a split
abbrev pub split_view : BoardView → BoardView
split_view v = record v { left = v.left - 1 }

-- the new seat that a split gives
abbrev pub new_view : BoardView → BoardView
new_view v = record { claims = []; offers = []; looks = []; seen = v.seen; jobs = v.jobs; left = 0; weight = 1 }

-- after a join of the second seat into the first
abbrev pub joined_view : BoardView → BoardView → BoardView
joined_view v w = record v {
  claims = v.claims ++ w.claims;
  offers = v.offers ++ w.offers;
  looks = v.looks ++ w.looks;
  seen = min v.seen w.seen;
  left = v.left + w.left;
  weight = v.weight + w.weight;
}
