-- By the words.
use Rattle.std.proofs.Common.{IfSome, None, Option, inl, inr, map, string_bytes, subst, sym}
use Rattle.talk_app.specs.Ends.{IsEnd}
use Rattle.talk_app.specs.Outcome.{IsOutcome}
use Rattle.talk_app.specs.Words.{Asked, asked}
use Rattle.talk_app.specs.Requests.{asked_of}
use Rattle.talk_app.proofs.EndLaws.{completed, each_held, lacking, lacks_by, lacks_none, never_four, words_end}
use Rattle.talk_app.proofs.program.talk_by_words.Goals as goal

pub returns-in-Some-clause-end : goal.returns-in-Some-clause-end
returns-in-Some-clause-end g c =
    subst (λ (a : Option Asked). IfSome (g.S.Shelf.holdings c.args.shelf.now) (λ under. IsEnd (IsOutcome a under)
    (g.R.Read.remaining c.args.lines.now.reader) (g.K.Sink.taken c.args.out.now) (g.K.Sink.taken c.talk_of.new.out)
    (g.K.Sink.faults c.args.out.now) (g.K.Sink.faults c.talk_of.new.out) c.talk_of.result.0))
    (sym c.in-Some.ensures) c.talk_of.ensures.end

pub returns-in-Some-clause-missing : goal.returns-in-Some-clause-missing
returns-in-Some-clause-missing g c = λ sound four.
    let words = asked (map string_bytes c.args.words.now) in
    let h = g.S.Shelf.holdings c.args.shelf.now in
    elim (c.talk_of.ensures.missing sound four) [
      | inl missing ↦ inl (lacks_by words (asked_of c.in-Some.request) h c.in-Some.ensures missing)
      | inr rose ↦ inr rose
    ]

pub returns-in-Some-clause-absent : goal.returns-in-Some-clause-absent
returns-in-Some-clause-absent g c = λ sound lacks.
    c.talk_of.ensures.absent sound (lacking (asked (map string_bytes c.args.words.now)) (asked_of c.in-Some.request)
    (g.S.Shelf.holdings c.args.shelf.now) c.in-Some.ensures lacks)

pub returns-in-Some-clause-found : goal.returns-in-Some-clause-found
returns-in-Some-clause-found g c = λ sound lacks.
    inl (c.talk_of.ensures.absent sound (lacking (asked (map string_bytes c.args.words.now)) (asked_of c.in-Some.request)
    (g.S.Shelf.holdings c.args.shelf.now) c.in-Some.ensures lacks))

pub returns-in-Some-clause-complete : goal.returns-in-Some-clause-complete
returns-in-Some-clause-complete g c = completed (asked (map string_bytes c.args.words.now))
    (g.S.Shelf.holdings c.args.shelf.now) (g.S.Shelf.is_sound c.args.shelf.now) (g.S.Shelf.faults c.args.shelf.now)
    (g.S.Shelf.faults c.talk_of.new.shelf) c.args.lines.now.faults c.talk_of.new.lines.faults
    (g.R.Read.remaining c.args.lines.now.reader) (g.K.Sink.taken c.args.out.now) (g.K.Sink.taken c.talk_of.new.out)
    (g.K.Sink.faults c.args.out.now) (g.K.Sink.faults c.talk_of.new.out) c.talk_of.result.0
    (returns-in-Some-clause-end g c) c.talk_of.ensures.read_fault c.talk_of.ensures.nothing_written
    (returns-in-Some-clause-missing g c)

pub returns-in-None-clause-absent : goal.returns-in-None-clause-absent
returns-in-None-clause-absent g c = λ sound lacks.
    lacks_none (asked (map string_bytes c.args.words.now)) (g.S.Shelf.holdings c.args.shelf.now) c.in-None.ensures lacks

pub returns-in-None-clause-found : goal.returns-in-None-clause-found
returns-in-None-clause-found g c = λ sound lacks.
    lacks_none (asked (map string_bytes c.args.words.now)) (g.S.Shelf.holdings c.args.shelf.now) c.in-None.ensures lacks

pub returns-in-None-clause-end : goal.returns-in-None-clause-end
returns-in-None-clause-end g c =
    let left = g.R.Read.remaining c.args.lines.now.reader in
    let before = g.K.Sink.taken c.args.out.now in
    let after = g.K.Sink.taken c.refuse_words.new.out in
    let faults = g.K.Sink.faults c.args.out.now in
    let faults2 = g.K.Sink.faults c.refuse_words.new.out in
    let result = c.refuse_words.result.0 in
    subst (λ (a : Option Asked). IfSome (g.S.Shelf.holdings c.args.shelf.now)
    (λ under. IsEnd (IsOutcome a under) left before after faults faults2 result)) (sym c.in-None.ensures)
    (each_held (g.S.Shelf.holdings c.args.shelf.now)
    (λ under. IsEnd (IsOutcome None under) left before after faults faults2 result)
    (λ under. words_end left before after faults faults2 result under c.refuse_words.ensures.written))

pub returns-in-None-clause-complete : goal.returns-in-None-clause-complete
returns-in-None-clause-complete g c = completed (asked (map string_bytes c.args.words.now))
    (g.S.Shelf.holdings c.args.shelf.now) (g.S.Shelf.is_sound c.args.shelf.now) (g.S.Shelf.faults c.args.shelf.now)
    (g.S.Shelf.faults c.args.shelf.now) c.args.lines.now.faults c.args.lines.now.faults
    (g.R.Read.remaining c.args.lines.now.reader) (g.K.Sink.taken c.args.out.now) (g.K.Sink.taken c.refuse_words.new.out)
    (g.K.Sink.faults c.args.out.now) (g.K.Sink.faults c.refuse_words.new.out) c.refuse_words.result.0
    (returns-in-None-clause-end g c) (λ four. absurd (never_four _ _ _ _ c.refuse_words.ensures.written four))
    (λ four. absurd (never_four _ _ _ _ c.refuse_words.ensures.written four))
    (λ sound four. absurd (never_four _ _ _ _ c.refuse_words.ensures.written four))

pub returns-in-None-clause-missing : goal.returns-in-None-clause-missing
returns-in-None-clause-missing g c = λ sound four.
    absurd (never_four _ _ _ _ c.refuse_words.ensures.written four)

pub returns-in-None-clause-read_fault : goal.returns-in-None-clause-read_fault
returns-in-None-clause-read_fault g c = λ four. absurd (never_four _ _ _ _ c.refuse_words.ensures.written four)

pub returns-in-None-clause-nothing_written : goal.returns-in-None-clause-nothing_written
returns-in-None-clause-nothing_written g c = λ four. absurd (never_four _ _ _ _ c.refuse_words.ensures.written four)
