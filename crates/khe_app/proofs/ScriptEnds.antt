-- What was written of a script.
use Rattle.std.proofs.Common.{ℕ, ◌≡◌, ◌⊎◌, inl, inr, Bool, true, false, None, if◌then◌else◌, Option, Result, Ok, Err, IfOk, OnOk, OnErr, List}
use Rattle.std.proofs.Common.{[], length, replicate, map, ap, subst, ◌∙◌, refl, encode_utf8_all}
use Rattle.std.specs.Prelude.{IsErrOf}
use Rattle.khe_engine.specs.Openings.{IsStateOf}
use Rattle.khe_engine.specs.States.{State}
use Rattle.khe_engine.specs.Worlds.{Saved, World}
use Rattle.khe_instance.specs.declared.parts.Parts.{Parts}
use Rattle.khe_instance.specs.declared.states.Plain.{Plain}
use Rattle.khe_io.specs.Faults.{Rose, Took, TookFront}
use Rattle.script_run.specs.Plays.{begun, play_of}
use Rattle.script_run.specs.Scripts.{is_script, script_text}
use Rattle.followers.specs.Worlds.{TiedWorld}
use Rattle.tied_run.specs.Plays.{tied_play_of, untied}
use Rattle.tied_run.specs.Scripts.{is_tied_script, tied_text}
use Rattle.khe_io.specs.declared.pieces.Cut.{Cut}
use Rattle.khe_io.specs.declared.pieces.Cut.TheVariants.{WriteFault, NoMemory}
use Rattle.khe_app.specs.Ends.{status_after}
use Rattle.reading_commands.specs.Ends.{Written}
use Rattle.khe_app.specs.Outcome.{IsRunOf, answers_of, is_understood}

-- the text of a world without marks
text_of : (w : World) (script : List ℕ) → w.saved ≡ []
    → script_text w.parts (play_of w) script ≡ script_text w.parts (begun w.state) script
text_of w script none =
    ap (λ (xs : List Saved). script_text w.parts (record { state = w.state; saved = map (λ (x : Saved). x.state) xs })
    script) none

by_end : (tied : Bool) (p : Parts) (plain : Plain) (s : State) (script : List ℕ) (r : Result Bool Cut)
    (before after : Option (List ℕ))
    (sink sink2 result : ℕ) → IsStateOf p plain s
    → IfOk r (λ read. read ≡ is_understood tied script)
    → OnOk r (Took before after (encode_utf8_all (answers_of tied p s script)))
    → OnErr r (TookFront before after (encode_utf8_all (answers_of tied p s script)))
    → (IsErrOf r WriteFault → Rose sink sink2) → result ≡ status_after r
    → (status : ℕ) × (text : List ℕ) × IsRunOf tied p plain script status text
    × Written before after sink sink2 (encode_utf8_all text) status result
by_end tied p plain s script (Ok read) before after sink sink2 result is e whole front fault same = (
  if is_understood tied script then 0 else 7,
  answers_of tied p s script,
  record { state = s; is = is; status_is = refl; text_is = refl },
  inl (same ∙ ap (λ (b : Bool). if b then 0 else 7) e, whole),
)
by_end tied p plain s script (Err WriteFault) before after sink sink2 result is e whole front fault same = (
  if is_understood tied script then 0 else 7,
  answers_of tied p s script,
  record { state = s; is = is; status_is = refl; text_is = refl },
  inr (inl (same, fault refl, front)),
)
by_end tied p plain s script (Err NoMemory) before after sink sink2 result is e whole front fault same = (
  if is_understood tied script then 0 else 7,
  answers_of tied p s script,
  record { state = s; is = is; status_is = refl; text_is = refl },
  inr (inr (same, front)),
)

-- a run on an engine that lists the timetable and has no marks
pub run_written : (p : Parts) (plain : Plain) (w : World) (script : List ℕ) (r : Result Bool Cut)
    (before after : Option (List ℕ)) (sink sink2 result : ℕ) → w.parts ≡ p → IsStateOf p plain w.state → w.saved ≡ []
    → IfOk r (λ read. read ≡ is_script script)
    → OnOk r (Took before after (encode_utf8_all (script_text w.parts (play_of w) script)))
    → OnErr r (TookFront before after (encode_utf8_all (script_text w.parts (play_of w) script)))
    → (IsErrOf r WriteFault → Rose sink sink2) → result ≡ status_after r
    → (status : ℕ) × (text : List ℕ) × IsRunOf false p plain script status text
    × Written before after sink sink2 (encode_utf8_all text) status result
run_written p plain w script r before after sink sink2 result parts is none read whole front fault same =
    let text : script_text w.parts (play_of w) script ≡ script_text p (begun w.state) script =
    text_of w script none ∙ ap (λ (q : Parts). script_text q (begun w.state) script) parts in
    by_end false p plain w.state script r before after sink sink2 result is read
    (subst (λ xs. OnOk r (Took before after (encode_utf8_all xs))) text whole)
    (subst (λ xs. OnErr r (TookFront before after (encode_utf8_all xs))) text front) fault same

-- and on a timetable without ties
tied_text_of : (w : TiedWorld) (script : List ℕ) → w.saved ≡ [] → w.now.ties ≡ replicate (length w.now.state.slots) None
    → tied_text w.parts (tied_play_of w) script ≡ tied_text w.parts (begun (untied w.now.state)) script
tied_text_of w script none ties = λ i. tied_text w.parts
    (record { state = record { state = w.now.state; ties = ties i }; saved = none i }) script

pub tied_written : (p : Parts) (plain : Plain) (w : TiedWorld) (script : List ℕ) (r : Result Bool Cut)
    (before after : Option (List ℕ)) (sink sink2 result : ℕ) → w.parts ≡ p → IsStateOf p plain w.now.state → w.saved ≡ []
    → w.now.ties ≡ replicate (length w.now.state.slots) None → IfOk r (λ read. read ≡ is_tied_script script)
    → OnOk r (Took before after (encode_utf8_all (tied_text w.parts (tied_play_of w) script)))
    → OnErr r (TookFront before after (encode_utf8_all (tied_text w.parts (tied_play_of w) script)))
    → (IsErrOf r WriteFault → Rose sink sink2) → result ≡ status_after r
    → (status : ℕ) × (text : List ℕ) × IsRunOf true p plain script status text
    × Written before after sink sink2 (encode_utf8_all text) status result
tied_written p plain w script r before after sink sink2 result parts is none ties read whole front fault same =
    let text : tied_text w.parts (tied_play_of w) script ≡ tied_text p (begun (untied w.now.state)) script =
    tied_text_of w script none ties ∙ ap (λ (q : Parts). tied_text q (begun (untied w.now.state)) script) parts in
    by_end true p plain w.now.state script r before after sink sink2 result is read
    (subst (λ xs. OnOk r (Took before after (encode_utf8_all xs))) text whole)
    (subst (λ xs. OnErr r (TookFront before after (encode_utf8_all xs))) text front) fault same

-- a fault of the sink ends it
pub run_faultless : (r : Result Bool Cut) (sink sink2 result : ℕ) → OnOk r (sink2 ≡ sink)
    → (IsErrOf r NoMemory → sink2 ≡ sink) → result ≡ status_after r → (result ≡ 5) ⊎ (sink2 ≡ sink)
run_faultless (Ok read) sink sink2 result whole starved same = inr whole
run_faultless (Err WriteFault) sink sink2 result whole starved same = inl same
run_faultless (Err NoMemory) sink sink2 result whole starved same = inr (starved refl)
