use Rattle.std.proofs.Common.{sym, ◌∙◌}
use Rattle.khe_engine.proofs.editing.make.Goals as goal

pub edit_groups-requires : goal.edit_groups-requires
edit_groups-requires g c = record {
  sort = sym c.is_of_groups.ensures ∙ c.if-is_of_groups.true;
  accepted = c.requires.accepted;
  room = c.requires.room;
  seat = c.requires.seat;
  parts = c.requires.parts;
  of = c.requires.of;
  told = c.requires.told;
}

pub returns-then-is_of_groups : goal.returns-then-is_of_groups
returns-then-is_of_groups g c =
    let m = c.edit_groups.ensures in
    record {
      parts = m.parts;
      of = m.of;
      told = m.told;
      marked = m.marked;
      seats = m.seats;
      made = m.made;
      state = m.state;
      record_ = m.record_;
      spare = m.spare;
      steps = m.steps;
    }

pub edit_meets-requires : goal.edit_meets-requires
edit_meets-requires g c = record {
  sort = sym c.is_of_groups.ensures ∙ c.if-is_of_groups.false;
  accepted = c.requires.accepted;
  room = c.requires.room;
  seat = c.requires.seat;
  parts = c.requires.parts;
  of = c.requires.of;
  told = c.requires.told;
}

pub returns-else-is_of_groups : goal.returns-else-is_of_groups
returns-else-is_of_groups g c =
    let m = c.edit_meets.ensures in
    record {
      parts = m.parts;
      of = m.of;
      told = m.told;
      marked = m.marked;
      seats = m.seats;
      made = m.made;
      state = m.state;
      record_ = m.record_;
      spare = m.spare;
      steps = m.steps;
    }
