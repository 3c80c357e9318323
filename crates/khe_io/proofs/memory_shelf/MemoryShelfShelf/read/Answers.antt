-- The open source stands at a place in its file.
use Rattle.khe_io.proofs.memory_shelf.MemoryShelfShelf.read.Goals as goal

pub copy_from-next-requires-clause-place : goal.copy_from-next-requires-clause-place
copy_from-next-requires-clause-place c =
    rw c.as_slice.ensures (c.args.self.now.placed c.unwrap-place.result c.unwrap-place.ensures)
