-- Each piece moves bytes from what is left to what was read; every answer's clauses follow from the
-- invariant and from the clauses of the last call.
use Rattle.std.proofs.Common.{◌≡◌, ◌∙◌, subst, arith, ◌+◌, ◌-◌, ◌≤◌, length, take, vec_len}
use Rattle.std.proofs.lemmas.List.{length-take-le}
use Rattle.khe_io.specs.Faults.{Rose}
use Rattle.khe_io.proofs.Reading.{RestUnder-opened, RestUnder-gave, StandsUnder-at_end, StandsAbove-gave}
use Rattle.khe_io.proofs.texts.take_all.Goals as goal

pub loop-bytes-init : goal.loop-bytes-init
loop-bytes-init g c = record {
  rest =
      rw c.new-bytes.ensures.items
      (RestUnder-opened (g.S.Shelf.holdings c.args.shelf.now) c.args.name.now (g.S.Shelf.left c.open.new.self)
      c.in_ok-open.ensures.opened);
  within = rw c.new-bytes.ensures.len (omega arith);
  is_open = c.in_ok-open.ensures.source;
  present = λ sound missing. cc ((c.in_ok-open.ensures.missing sound).1 missing);
  unchanged = c.open.ensures.unchanged;
  faultless = c.in_ok-open.ensures.faultless;
  sound = c.open.ensures.stays_sound;
}

pub returns-in_err-count-clause-fault : goal.returns-in_err-count-clause-fault
returns-in_err-count-clause-fault g c _ =
    subst (λ faults. Rose faults (g.S.Shelf.faults c.read.new.self)) c.loop-bytes.invariant.faultless
    c.in_err-count.ensures.failed

pub returns-in_err-count-clause-stays_sound : goal.returns-in_err-count-clause-stays_sound
returns-in_err-count-clause-stays_sound g c sound = c.read.ensures.stays_sound (c.loop-bytes.invariant.sound sound)

pub returns-then-count-eq0-clause-whole : goal.returns-then-count-eq0-clause-whole
returns-then-count-eq0-clause-whole g c =
    StandsUnder-at_end _ _ _ _ _ c.loop-bytes.invariant.rest c.in_ok-count.ensures.end c.if-count-eq0.true

pub returns-then-count-eq0-clause-stays_sound : goal.returns-then-count-eq0-clause-stays_sound
returns-then-count-eq0-clause-stays_sound g c sound = c.read.ensures.stays_sound (c.loop-bytes.invariant.sound sound)

pub returns-then-count-limit-clause-too_large : goal.returns-then-count-limit-clause-too_large
returns-then-count-limit-clause-too_large g c _ =
    StandsAbove-gave _ _ _ _ _ _ _ _ c.loop-bytes.invariant.rest c.in_ok-count.ensures.gave c.in_ok-count.ensures.within
    (omega (arith, c.loop-bytes.bytes.ok.0, c.loop-bytes.invariant.within, c.len.ensures, c.if-count-limit.true))

pub returns-then-count-limit-clause-stays_sound : goal.returns-then-count-limit-clause-stays_sound
returns-then-count-limit-clause-stays_sound g c sound = c.read.ensures.stays_sound (c.loop-bytes.invariant.sound sound)

pub loop-bytes-preserved : goal.loop-bytes-preserved
loop-bytes-preserved g c = record {
  rest =
      rw c.in_ok-extend_from_slice.ensures.items
      (RestUnder-gave _ _ _ _ _ _ c.loop-bytes.invariant.rest c.in_ok-count.ensures.gave);
  within =
      let fits : c.in_ok-count.count ≤ c.args.limit - vec_len c.loop-bytes.bytes =
      rw (← c.len.ensures) c.if-count-limit.false in
      let grown : vec_len c.extend_from_slice.new.self
      ≡ vec_len c.loop-bytes.bytes + length (take c.in_ok-count.count c.read.new.buf) =
      c.in_ok-extend_from_slice.ensures.len in
      omega (
        arith,
        length-take-le c.in_ok-count.count c.read.new.buf c.in_ok-count.ensures.within,
        c.loop-bytes.invariant.within,
      );
  is_open = c.read.ensures.stays_open;
  present = c.loop-bytes.invariant.present;
  unchanged = c.read.ensures.unchanged ∙ c.loop-bytes.invariant.unchanged;
  faultless = c.in_ok-count.ensures.faultless ∙ c.loop-bytes.invariant.faultless;
  sound = λ sound. c.read.ensures.stays_sound (c.loop-bytes.invariant.sound sound);
}

pub returns-in_err-extend_from_slice-clause-stays_sound : goal.returns-in_err-extend_from_slice-clause-stays_sound
returns-in_err-extend_from_slice-clause-stays_sound g c sound =
    c.read.ensures.stays_sound (c.loop-bytes.invariant.sound sound)
