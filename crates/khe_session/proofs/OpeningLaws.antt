-- What a session begins with, step by step.
use Rattle.std.proofs.Common.{ℕ, ◌≡◌, ◌∙◌, Option, None, Some, List, [], map, ap, refl, subst}
use Rattle.archive_reading.specs.Reading.{IsReadingOf, evaluable, refused}
use Rattle.archive_reading.specs.Starting.{Start, begins, start_of}
use Rattle.archive_reading.specs.Starting as starting
use Rattle.archive_reading.specs.Steps.{IsStopped}
use Rattle.archive_reading.specs.declared.reading.Unread.{Unread}
use Rattle.archive_reading.specs.declared.reading.Unread.TheVariants as unread
use Rattle.khe_engine.specs.Openings.{IsStateOf}
use Rattle.khe_engine.specs.Resting.{Rested, world_of}
use Rattle.khe_engine.specs.Worlds.{Saved, World}
use Rattle.khe_instance.specs.declared.parts.Parts.{Parts}
use Rattle.khe_instance.specs.declared.states.Plain.{Plain}
use Rattle.script_run.specs.Plays.{Play, begun, play_of}
use Rattle.xhstt_resolve.specs.declared.resolving.Resolved.{Resolved}
use Rattle.xhstt_shape.specs.declared.records.Archive.{Archive}
use Rattle.khe_session.specs.Openings.{HasBegun, HasOpened, HasStarted, IsBarredBy, IsStarted, IsStoppedBy, IsTold}
use Rattle.khe_session.specs.States.{SessionState, blank}
use Rattle.khe_session.specs.declared.faults.Unopened.{Unopened}
use Rattle.khe_session.specs.declared.faults.Unopened.TheVariants as unopened

-- the state of an engine without marks that rests
pub started : {Fam : Type 0} (a : Archive) (number : ℕ) (p : Parts) (plain : Plain) (r : Rested Fam) (w : World)
    → w.parts ≡ p → world_of w.parts r ≡ w → IsStateOf p plain w.state → w.saved ≡ []
    → IsStarted a number p plain
    (record { archive = blank a number p; solution = number; parts = p; play = play_of (world_of p r); lines = 0 })
started a number p plain r w parts same lists none =
    let at : world_of p r ≡ w = subst (λ q. world_of q r ≡ w) parts same in
    let play : play_of (world_of p r) ≡ begun w.state =
    ap play_of at ∙ ap (λ (xs : List Saved). record { state = w.state; saved = map (λ (x : Saved). x.state) xs }) none in
    record {
      state = w.state;
      lists = lists;
      is = ap (λ (y : Play). record { archive = blank a number p; solution = number; parts = p; play = y; lines = 0 }) play;
    }

pub begun_on : (a : Archive) (r : Resolved) (number : ℕ) (p : Parts) (plain : Plain) (s : Option SessionState)
    → start_of a r number ≡ begins p plain → HasStarted a number p plain s → HasBegun a r number s
begun_on a r number p plain None e h = absurd h
begun_on a r number p plain (Some s) e h = record { parts = p; plain = plain; start_is = e; started = h }

pub opened_on : (bytes : List ℕ) (number : ℕ) (a : Archive) (r : Resolved) (s : Option SessionState)
    → IsReadingOf bytes (evaluable a r) → HasBegun a r number s → HasOpened bytes number s
opened_on bytes number a r None is h = absurd h
opened_on bytes number a r (Some s) is h = record { archive = a; resolved = r; is = is; begun = h }

-- there is none
pub stopped_on : (s : Start) (u : Unread) (o : Unopened) → starting.IsBarredBy s u → IsTold u o → IsStoppedBy s o
stopped_on s (unread.Refused refusal) (unopened.Refused line) e told = (refusal, e, told)
stopped_on s (unread.Refused refusal) unopened.NoMemory e told = tt
stopped_on s unread.NoMemory (unopened.Refused line) e told = absurd told
stopped_on s unread.NoMemory unopened.NoMemory e told = tt

pub barred_unread : (bytes : List ℕ) (number : ℕ) (u : Unread) (o : Unopened) → IsStopped bytes u → IsTold u o
    → IsBarredBy bytes number o
barred_unread bytes number (unread.Refused refusal) (unopened.Refused line) is told =
    record { reading = refused refusal; is = is; refusal = refusal; barred_is = refl; line_is = told }
barred_unread bytes number (unread.Refused refusal) unopened.NoMemory is told = tt
barred_unread bytes number unread.NoMemory (unopened.Refused line) is told = absurd told
barred_unread bytes number unread.NoMemory unopened.NoMemory is told = tt

pub barred_begun : (bytes : List ℕ) (number : ℕ) (a : Archive) (r : Resolved) (o : Unopened)
    → IsReadingOf bytes (evaluable a r) → IsStoppedBy (start_of a r number) o → IsBarredBy bytes number o
barred_begun bytes number a r (unopened.Refused line) is (refusal, e, told) =
    record { reading = evaluable a r; is = is; refusal = refusal; barred_is = e; line_is = told }
barred_begun bytes number a r unopened.NoMemory is h = tt
