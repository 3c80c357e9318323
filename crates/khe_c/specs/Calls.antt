-- What each call of `c/khe.h` makes of what a handle keeps, and its status.
use Rattle.std.specs.Prelude.{◌≡◌, ◌++◌, ◌≤◌, ◌<◌, ◌⊎◌, ℕ, List, [], drop, length, encode_utf8_all, Option, None, Some}
use Rattle.khe_base.specs.declared.limits.TheConstants.{ARCHIVE_BYTES}
use Rattle.khe_base.specs.declared.sums.Totals.{Totals}
use Rattle.archive_reading.specs.Refusals.{refusal_line}
use Rattle.archive_reading.specs.declared.refusals.Refusal.TheVariants as refusal
use Rattle.khe_session.specs.Openings.{HasOpened, IsRefusedBy}
use Rattle.khe_session.specs.States.{SessionState, IsLined, IsSpent, totals_of}
use Rattle.khe_c.specs.Kept.{Kept}
use Rattle.khe_c.specs.declared.held.Unanswered.{Unanswered}
use Rattle.khe_c.specs.declared.held.Unanswered.TheVariants as unanswered

-- a session that is opened on the solution with this number
abbrev pub IsOnSolution : List ℕ → ℕ → Option (Option SessionState) → Type 0
IsOnSolution archive n None = ⊥
IsOnSolution archive n (Some s) = HasOpened archive n s

-- such a session, and no answer yet
abbrev pub IsOpenedOn : List ℕ → ℕ → Kept → Type 0
IsOpenedOn archive n k = (length archive ≤ ARCHIVE_BYTES) × (IsOnSolution archive n k.session × (k.answer ≡ []))

-- the line that refuses an archive above the greatest size
abbrev pub too_large : List ℕ
too_large = encode_utf8_all (refusal_line refusal.TooLarge)

-- no session, and the line of refusal as its answer
abbrev pub IsRefusedOn : List ℕ → ℕ → Kept → Type 0
IsRefusedOn archive n k = (k.session ≡ None)
    × ((length archive ≤ ARCHIVE_BYTES → IsRefusedBy archive n k.answer)
    × (ARCHIVE_BYTES < length archive → k.answer ≡ too_large))

-- the session took the line, and the answer is that to it
abbrev pub IsTurnedBy : Option (Option SessionState) → List ℕ → Option (Option SessionState) → List ℕ → Type 0
IsTurnedBy (Some before) line (Some after) answer = IsLined line before after answer
IsTurnedBy (Some before) line None answer = ⊥
IsTurnedBy None line after answer = ⊥

-- there is a session, and it is spent
abbrev pub HasSpent : Option (Option SessionState) → Type 0
HasSpent None = ⊥
HasSpent (Some s) = IsSpent s

-- the session is spent now, by this line or from before, and the last answer is gone
abbrev pub IsSpentAfter : Option (Option SessionState) → Kept → Type 0
IsSpentAfter before k = HasSpent k.session × (((k.session ≡ Some None) ⊎ (k.session ≡ before)) × (k.answer ≡ []))

-- the totals of a session
abbrev pub totals_in : Option (Option SessionState) → Option Totals
totals_in None = None
totals_in (Some s) = totals_of s

-- What stands behind a handle, where it is open.

abbrev pub HoldsSession : List ℕ → ℕ → Option Kept → Type 0
HoldsSession archive n None = ⊥
HoldsSession archive n (Some k) = IsOpenedOn archive n k

abbrev pub HoldsRefusal : List ℕ → ℕ → Option Kept → Type 0
HoldsRefusal archive n None = ⊥
HoldsRefusal archive n (Some k) = IsRefusedOn archive n k

abbrev pub session_of : Option Kept → Option (Option SessionState)
session_of None = None
session_of (Some k) = k.session

abbrev pub answer_of : Option Kept → List ℕ
answer_of None = []
answer_of (Some k) = k.answer

abbrev pub HasTurned : Option Kept → List ℕ → Option Kept → Type 0
HasTurned before line None = ⊥
HasTurned before line (Some k) = IsTurnedBy (session_of before) line k.session k.answer

abbrev pub HasSpentAfter : Option Kept → Option Kept → Type 0
HasSpentAfter before None = ⊥
HasSpentAfter before (Some k) = IsSpentAfter (session_of before) k

-- the room begins with the answer
abbrev pub filled : List ℕ → List ℕ → List ℕ
filled answer room = answer ++ drop (length answer) room

-- The statuses of a call that may answer: 0 and 9 with an answer, 3, 6 and 8 without.

abbrev pub IsDone : ℕ → Type 0
IsDone status = (status ≡ 0) ⊎ (status ≡ 9)

abbrev pub HasNoAnswer : ℕ → Type 0
HasNoAnswer status = (status ≡ 3) ⊎ ((status ≡ 6) ⊎ (status ≡ 8))

abbrev pub status_of : Unanswered → ℕ
status_of unanswered.Refused = 3
status_of unanswered.Spent = 6
