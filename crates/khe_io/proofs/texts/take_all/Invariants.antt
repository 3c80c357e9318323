-- What was read so far and what is left of the source stand under the name.
use Rattle.std.proofs.Common.{◌≡◌, ◌≤◌, ◌-◌, IsTrue, vec_len}
use Rattle.khe_io.specs.Shelf.{IsMissing}
use Rattle.khe_io.proofs.Reading.{RestUnder}
use Rattle.khe_io.proofs.texts.take_all.Given as goal

abbrev pub invariant-loop-bytes : goal.invariant-loop-bytes
invariant-loop-bytes g l = record {
  rest : RestUnder (g.S.Shelf.holdings l.fn.shelf) l.name l.bytes.items (g.S.Shelf.left l.shelf);
  within : vec_len l.bytes ≤ l.limit;
  is_open : IsTrue (g.S.Shelf.is_open l.shelf);
  present : IsTrue (g.S.Shelf.is_sound l.fn.shelf) → ¬ (IsMissing (g.S.Shelf.holdings l.fn.shelf) l.name);
  unchanged : g.S.Shelf.holdings l.shelf ≡ g.S.Shelf.holdings l.fn.shelf;
  faultless : g.S.Shelf.faults l.shelf ≡ g.S.Shelf.faults l.fn.shelf;
  sound : IsTrue (g.S.Shelf.is_sound l.fn.shelf) → IsTrue (g.S.Shelf.is_sound l.shelf);
}

abbrev pub decreases-loop-bytes : goal.decreases-loop-bytes
decreases-loop-bytes g l = l.limit - vec_len l.bytes
