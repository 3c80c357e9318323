-- What a line makes of a session whose engine is woken for it.
use Rattle.std.proofs.Common.{ℕ, ◌≡◌, ◌+◌, ◌++◌, ◌∙◌, Some, List, [], ap, subst, sym}
use Rattle.std.proofs.lemmas.Option.{same_Some}
use Rattle.khe_io.specs.Faults.{Took}
use Rattle.khe_engine.specs.Resting.{world_of}
use Rattle.khe_engine.specs.Worlds.{World}
use Rattle.khe_instance.specs.declared.parts.Parts.{Parts}
use Rattle.script_run.specs.Plays.{Play, play_of}
use Rattle.talk_run.specs.Answers.{answered, archive_bytes, turned}
use Rattle.talk_run.specs.Lines.{talk_reading}
use Rattle.talk_run.specs.Sent.{IsSame}
use Rattle.xhstt_shape.specs.declared.records.Archive.{Archive}
use Rattle.khe_session.specs.States.{IsLined, SessionState, blank, nothing, state_in}
use Rattle.khe_session.specs.declared.resting.Kept.{Kept}
use Rattle.khe_session.proofs.SessionLaws.{answered_as}

-- what an empty sink took, all of it
pub took_all : (before after said : List ℕ) → before ≡ [] → Took (Some before) (Some after) said → after ≡ said
took_all before after said none took = same_Some after said (took ∙ ap (λ xs. Some (xs ++ said)) none)

-- by what is known of the engine's world after the line, and of the archives
lined_at : {Fam : Type 0} (p : Parts) (number lines n : ℕ) (k k2 : Kept Fam) (line answer : List ℕ) (w2 : World)
    → n ≡ lines + 1 → w2.parts ≡ p → world_of w2.parts k2.rest ≡ w2 → IsSame k2.archive k.archive number
    → play_of w2 ≡ turned p (play_of (world_of p k.rest)) (talk_reading line)
    → answer ≡ answered (archive_bytes k.archive number p) p (play_of (world_of p k.rest)) n (talk_reading line)
    → IsLined line (state_in p number lines (Some k)) (state_in p number n (Some k2)) answer
lined_at p number lines n k k2 line answer w2 next parts rests same played told =
    let at : world_of p k2.rest ≡ w2 = subst (λ q. world_of q k2.rest ≡ w2) parts rests in
    let play : play_of (world_of p k2.rest) ≡ turned p (play_of (world_of p k.rest)) (talk_reading line) =
    ap play_of at ∙ played in
    let state : Archive → Play → ℕ → SessionState =
    λ a y m. record { archive = a; solution = number; parts = p; play = y; lines = m } in (
      ap Some (ap (λ a. state a (play_of (world_of p k2.rest)) n) (same p nothing)
          ∙ ap (λ y. state (blank k.archive number p) y n) play
          ∙ ap (λ m. state (blank k.archive number p)
          (turned p (play_of (world_of p k.rest)) (talk_reading line)) m) next),
      told
          ∙ ap (λ m. answered (archive_bytes k.archive number p) p (play_of (world_of p k.rest)) m (talk_reading line)) next
          ∙ answered_as k.archive number p (play_of (world_of p k.rest)) (lines + 1) line,
    )

-- and by what is known of it before the line
pub lined_as : {Fam : Type 0} (p : Parts) (number lines n : ℕ) (k k2 : Kept Fam) (line answer : List ℕ) (w w2 : World)
    → n ≡ lines + 1 → w ≡ world_of p k.rest → w2.parts ≡ w.parts → world_of w2.parts k2.rest ≡ w2
    → IsSame k2.archive k.archive number → play_of w2 ≡ turned w.parts (play_of w) (talk_reading line)
    → answer ≡ answered (archive_bytes k.archive number w.parts) w.parts (play_of w) n (talk_reading line)
    → IsLined line (state_in p number lines (Some k)) (state_in p number n (Some k2)) answer
lined_as p number lines n k k2 line answer w w2 next woken =
    subst (λ (v : World). w2.parts ≡ v.parts → world_of w2.parts k2.rest ≡ w2 → IsSame k2.archive k.archive number
    → play_of w2 ≡ turned v.parts (play_of v) (talk_reading line)
    → answer ≡ answered (archive_bytes k.archive number v.parts) v.parts (play_of v) n (talk_reading line)
    → IsLined line (state_in p number lines (Some k)) (state_in p number n (Some k2)) answer) (sym woken)
    (lined_at p number lines n k k2 line answer w2 next)
