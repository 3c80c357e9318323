-- A timetable of which a meet is untied.
use Rattle.std.proofs.Common.{◌≡◌, ◌<◌, None, Option, List, length, refl, sym, ap, subst, ◌∙◌, set}
use Rattle.khe_base.specs.declared.numbers.MeetId.{MeetId}
use Rattle.khe_instance.specs.declared.parts.Parts.{Parts}
use Rattle.undo_paths.specs.Stack.{with_record}
use Rattle.khe_engine.specs.States.{State}
use Rattle.followers.specs.Records.{IsKept, saved_of, with_ties}
use Rattle.followers.specs.Tables.{edited}
use Rattle.followers.specs.Ties.{tie_at}
use Rattle.followers.specs.declared.edits.Tie.{Tie}
use Rattle.followers.specs.declared.edits.TiedEdit.TheVariants as edit
use Rattle.followers.specs.declared.records.Before.{Before}
use Rattle.followers.proofs.TieLaws.{kept_record, saved_record, tie_back, untie_tied}

pub untied_kept : (p : Parts) (s : State) (ties more : List (Option Tie)) (states : List State)
    (since since2 : List (List Before)) (m : MeetId) → m.0 < length ties → more ≡ set ties m.0 None
    → since2 ≡ with_record (record { meet = m; tie = tie_at ties m.0 }) since → IsKept p s ties states since
    → IsKept p s more states since2
untied_kept p s ties more states since since2 m l e f k =
    subst (λ x. IsKept p s x states since2) (sym e) (subst (IsKept p s (set ties m.0 None) states) (sym f)
    (kept_record p p s s ties states states since m None refl refl l k (untie_tied p s ties m.0 k.now l)))

pub untied_state : (s : State) (ties more : List (Option Tie)) (m : MeetId) → more ≡ set ties m.0 None
    → with_ties s more ≡ edited (with_ties s ties) (edit.Untie m)
unfolding edited
untied_state s ties more m e = ap (with_ties s) e

pub untied_saved : (ties more : List (Option Tie)) (states : List State) (since since2 : List (List Before)) (m : MeetId)
    → more ≡ set ties m.0 None → since2 ≡ with_record (record { meet = m; tie = tie_at ties m.0 }) since
    → saved_of more states since2 ≡ saved_of ties states since
untied_saved ties more states since since2 m e f = (λ i. saved_of (e i) states (f i))
    ∙ saved_record ties (set ties m.0 None) states since (record { meet = m; tie = tie_at ties m.0 })
    (tie_back ties m.0 None)
