-- What comes of the archive that was read comes of its bytes.
use Rattle.std.proofs.Common.{Result, Ok, Err, IfErr, IfOk}
use Rattle.khe_session.proofs.OpeningLaws.{barred_begun, barred_unread, opened_on}
use Rattle.khe_session.proofs.opening.open_on.Goals as goal

each-ok : {A E : Type 0} (P Q : A → Type 0) (r : Result A E) → ((x : A) → P x → Q x) → IfOk r P → IfOk r Q
each-ok P Q (Ok x) f h = f x h
each-ok P Q (Err e) f h = h

each-err : {A E : Type 0} (P Q : E → Type 0) (r : Result A E) → ((x : E) → P x → Q x) → IfErr r P → IfErr r Q
each-err P Q (Ok x) f h = h
each-err P Q (Err e) f h = f e h

pub returns-in-Ok-clause-opened : goal.returns-in-Ok-clause-opened
returns-in-Ok-clause-opened g c =
    each-ok _ _ c.begin_on.result
    (λ s. opened_on c.args.bytes.now c.args.solution c.in-Ok.read.archive c.in-Ok.read.resolved s c.in-Ok.ensures.read)
    c.begin_on.ensures.begun

pub returns-in-Ok-clause-barred : goal.returns-in-Ok-clause-barred
returns-in-Ok-clause-barred g c =
    each-err _ _ c.begin_on.result
    (λ o. barred_begun c.args.bytes.now c.args.solution c.in-Ok.read.archive c.in-Ok.read.resolved o
    c.in-Ok.ensures.read) c.begin_on.ensures.barred

pub returns-in-Err-clause-barred : goal.returns-in-Err-clause-barred
returns-in-Err-clause-barred g c =
    barred_unread c.args.bytes.now c.args.solution c.in-Err.unread c.unopened.result c.in-Err.ensures.stopped
    c.unopened.ensures
