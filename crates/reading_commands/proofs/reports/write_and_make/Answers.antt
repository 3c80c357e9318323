-- Where the next window could not be made, this one was written.
use Rattle.std.proofs.Common.{◌≡◌, ◌++◌, Result, Ok, OnOk, subst, sym}
use Rattle.std.specs.List.{concat}
use Rattle.khe_io.specs.Amid.{IsAmid}
use Rattle.khe_io.proofs.AmidLemmas.{always-err, amid-stop, err-of}
use Rattle.reading_commands.proofs.reports.write_and_make.Goals as goal

of_ok : {A E : Type 0} (r : Result A E) (x : A) {P : Type 0} → r ≡ Ok x → OnOk r P → P
of_ok r x {P} is h = subst (λ y. OnOk y P) is h

pub returns-in_err-write_texts-clause-front : goal.returns-in_err-write_texts-clause-front
returns-in_err-write_texts-clause-front g c = λ before rest whole h.
    always-err c.from_residual.result
    (err-of c.write_texts.result c.in_err-write_texts.field-0.0 c.in_err-write_texts.was
    (c.write_texts.ensures.front before whole (
      rest,
      subst (λ made. IsAmid before (g.K.Sink.taken c.args.out.now) c.args.text.now (concat made ++ rest) whole)
          (sym c.as_slice.ensures.value) h,
    )))

pub returns-in_err-later-clause-front : goal.returns-in_err-later-clause-front
returns-in_err-later-clause-front g c = λ before rest whole h.
    always-err c.from_residual-in_err-later.result
    (amid-stop before (g.K.Sink.taken c.write_texts.new.out) c.write_texts.new.text rest whole
    (c.in_ok-write_texts.ensures.amid before rest whole
    (subst (λ made. IsAmid before (g.K.Sink.taken c.args.out.now) c.args.text.now (concat made ++ rest) whole)
    (sym c.as_slice.ensures.value) h)))

pub returns-in_err-written-clause-front : goal.returns-in_err-written-clause-front
returns-in_err-written-clause-front g c = λ before rest whole h.
    always-err c.from_residual-in_err-written.result
    (err-of c.write_beside-later.result.1 c.in_err-written.field-0.0 c.in_err-written.was
    (c.write_beside-later.ensures.front before whole (
      rest,
      subst (λ made. IsAmid before (g.K.Sink.taken c.args.out.now) c.args.text.now (concat made ++ rest) whole)
          (sym c.as_slice-made.ensures.value) h,
    )))

pub returns-in_err-later-2-clause-front : goal.returns-in_err-later-2-clause-front
returns-in_err-later-2-clause-front g c = λ before rest whole h.
    always-err c.from_residual-in_err-later-2.result
    (amid-stop before (g.K.Sink.taken c.write_beside-later.new.out) c.write_beside-later.new.text rest whole
    (of_ok c.write_beside-later.result.1 c.in_ok-written.field-0 c.in_ok-written.was
    (c.write_beside-later.ensures.amid before rest whole
    (subst (λ made. IsAmid before (g.K.Sink.taken c.args.out.now) c.args.text.now (concat made ++ rest) whole)
    (sym c.as_slice-made.ensures.value) h))))
