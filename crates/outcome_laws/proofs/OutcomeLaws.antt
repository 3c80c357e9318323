-- All words have one outcome: what is asked for is one of the commands, and each has one.
use Rattle.std.proofs.Common.{ℕ, ◌≡◌, ◌∙◌, refl, sym, true, false, Option, Some, None, IfSome, List, arith}
use Rattle.khe_app.specs.Outcome.{IsOutcome, IsOutcomeOf}
use Rattle.reading_commands.specs.Lines.{not_understood_line}
use Rattle.command_words.specs.Words.{Asked, asked, checking, constructing, evaluating, is_read, making, matching, repairing, running}
use Rattle.command_words.specs.Words.{scripting, solving}
use Rattle.outcome_laws.specs.Outcomes.{AreOne, HasOneOutcome, Shelf, leaves_choice}
use Rattle.outcome_laws.proofs.AnswerLaws.{Answer, both}
use Rattle.outcome_laws.proofs.ConstructLaws.{construct_there, constructs}
use Rattle.outcome_laws.proofs.MatchLaws.{match_statuses}
use Rattle.outcome_laws.proofs.OneLaws.{answers, made_runs, plays, repairs, solves, spellings}
use Rattle.outcome_laws.proofs.ThereLaws.{answer_there, made_run_there, make_there, play_there, repair_there, solve_there}
use Rattle.outcome_laws.proofs.ThereLaws.{spelling_there}
use Rattle.khe_app.proofs.WordLaws.{IsAskable, askable}

never : {A : Type 0} → true ≡ false → A
never e = absurd (let g : ⊥ = cc in g)

-- what is asked for
outcomes : (a : Option Asked) (under : Shelf) (status other : ℕ) (text more : List ℕ)
    → leaves_choice a ≡ false → IsOutcomeOf a under status text → IsOutcomeOf a under other more → AreOne status other text more
outcomes None under status other text more e f g = both status other 2 text more _ f.0 g.0 f.1 g.1
outcomes (Some (evaluating archive all)) under status other text more e f g =
    answers all (under archive) status other text more f g
outcomes (Some (scripting archive number script tied)) under status other text more e f g =
    plays tied number (under archive) (under script) status other text more f g
outcomes (Some (checking archive)) under status other text more e f g =
    spellings (under archive) status other text more f g
outcomes (Some (repairing archive number depth budget)) under status other text more e f g =
    repairs number depth budget (under archive) status other text more f g
outcomes (Some (solving archive number depth budget jobs)) under status other text more e f g =
    solves number depth budget jobs (under archive) status other text more f g
outcomes (Some (constructing archive number chains)) under status other text more e f g =
    constructs number chains (under archive) status other text more f g
outcomes (Some (matching archive number time rtype)) under status other text more e f g = never e
outcomes (Some (making seed size)) under status other text more e f g =
    record { status = f.0 ∙ sym g.0; bytes = f.1 ∙ sym g.1 }
outcomes (Some (running seed size)) under status other text more e f g = made_runs seed size status other text more f g

-- the status alone
statuses : (a : Option Asked) (under : Shelf) (status other : ℕ) (text more : List ℕ)
    → IsOutcomeOf a under status text → IsOutcomeOf a under other more → status ≡ other
statuses None under status other text more f g = (outcomes None under status other text more refl f g).status
statuses (Some (evaluating archive all)) under status other text more f g =
    (outcomes (Some (evaluating archive all)) under status other text more refl f g).status
statuses (Some (scripting archive number script tied)) under status other text more f g =
    (outcomes (Some (scripting archive number script tied)) under status other text more refl f g).status
statuses (Some (checking archive)) under status other text more f g =
    (outcomes (Some (checking archive)) under status other text more refl f g).status
statuses (Some (repairing archive number depth budget)) under status other text more f g =
    (outcomes (Some (repairing archive number depth budget)) under status other text more refl f g).status
statuses (Some (solving archive number depth budget jobs)) under status other text more f g =
    (outcomes (Some (solving archive number depth budget jobs)) under status other text more refl f g).status
statuses (Some (constructing archive number chains)) under status other text more f g =
    (outcomes (Some (constructing archive number chains)) under status other text more refl f g).status
statuses (Some (matching archive number time rtype)) under status other text more f g =
    match_statuses number time rtype (under archive) status other text more f g
statuses (Some (making seed size)) under status other text more f g =
    (outcomes (Some (making seed size)) under status other text more refl f g).status
statuses (Some (running seed size)) under status other text more f g =
    (outcomes (Some (running seed size)) under status other text more refl f g).status

pub one_status : (words : List (List ℕ)) (under : Shelf) (status other : ℕ) (text more : List ℕ)
    → IsOutcome words under status text → IsOutcome words under other more → status ≡ other
one_status words under status other text more f g = statuses (asked words) under status other text more f g

pub one_outcome : (words : List (List ℕ)) (under : Shelf) (status other : ℕ) (text more : List ℕ)
    → leaves_choice (asked words) ≡ false → IsOutcome words under status text → IsOutcome words under other more
    → AreOne status other text more
one_outcome words under status other text more e f g = outcomes (asked words) under status other text more e f g

-- there is one
pub there : (a : Option Asked) (under : Shelf) → leaves_choice a ≡ false → IfSome a IsAskable → Answer (IsOutcomeOf a under)
there None under e h = (2, not_understood_line, (refl, refl))
there (Some (evaluating archive all)) under e h = answer_there all (under archive)
there (Some (scripting archive number script tied)) under e h = play_there tied number (under archive) (under script)
there (Some (checking archive)) under e h = spelling_there (under archive)
there (Some (repairing archive number depth budget)) under e h = repair_there number depth budget (under archive)
there (Some (solving archive number depth budget jobs)) under e h = solve_there number depth budget jobs (under archive) h
there (Some (constructing archive number chains)) under e h = construct_there number chains (under archive)
there (Some (matching archive number time rtype)) under e h = never e
there (Some (making seed size)) under e h = make_there seed size
there (Some (running seed size)) under e h = made_run_there seed size h.0 h.1

pub one_there : (words : List (List ℕ)) (under : Shelf) → leaves_choice (asked words) ≡ false
    → HasOneOutcome words under
one_there words under e =
    let o = there (asked words) under e (askable words) in
    record {
      status = o.0;
      text = o.1;
      is = o.2;
      only = λ other more is. one_outcome words under o.0 other o.1 more e o.2 is;
    }

-- where nothing is read
unread : (a : Option Asked) (under other : Shelf) (status : ℕ) (text : List ℕ) → is_read a ≡ false
    → IsOutcomeOf a under status text → IsOutcomeOf a other status text
unread None under other status text e f = f
unread (Some (evaluating archive all)) under other status text e f = never e
unread (Some (scripting archive number script tied)) under other status text e f = never e
unread (Some (checking archive)) under other status text e f = never e
unread (Some (repairing archive number depth budget)) under other status text e f = never e
unread (Some (solving archive number depth budget jobs)) under other status text e f = never e
unread (Some (constructing archive number chains)) under other status text e f = never e
unread (Some (matching archive number time rtype)) under other status text e f = never e
unread (Some (making seed size)) under other status text e f = f
unread (Some (running seed size)) under other status text e f = f

missing : (a : Option Asked) (under : Shelf) (text : List ℕ) → is_read a ≡ false → IsOutcomeOf a under 4 text → ⊥
missing None under text e f = let s = f.0 in omega (arith, s)
missing (Some (evaluating archive all)) under text e f = never e
missing (Some (scripting archive number script tied)) under text e f = never e
missing (Some (checking archive)) under text e f = never e
missing (Some (repairing archive number depth budget)) under text e f = never e
missing (Some (solving archive number depth budget jobs)) under text e f = never e
missing (Some (constructing archive number chains)) under text e f = never e
missing (Some (matching archive number time rtype)) under text e f = never e
missing (Some (making seed size)) under text e f = let s = f.0 in omega (arith, s)
missing (Some (running seed size)) under text e f = let s = f.status_is in omega (arith, s)

pub does_not_hang : (words : List (List ℕ)) (under other : Shelf) (status : ℕ) (text : List ℕ)
    → is_read (asked words) ≡ false → IsOutcome words under status text → IsOutcome words other status text
does_not_hang words under other status text e f = unread (asked words) under other status text e f

pub nothing_missing : (words : List (List ℕ)) (under : Shelf) (text : List ℕ) → is_read (asked words) ≡ false
    → IsOutcome words under 4 text → ⊥
nothing_missing words under text e f = missing (asked words) under text e f
