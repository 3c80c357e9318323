-- What a handle owns: nothing while it is closed; else what stands at its pointer, and the right to free it.
use Rattle.std.specs.Prelude.{Bool, true, false, Option, None, Some}
use base.Fml.{Fml, ftrue, ffalse}
use denote.RawPtr.{Ptr}
use mir.Syntax.{Ty}
use Rattle.std.specs.Box.Ownership.{box_owns}
use Rattle.std.specs.contracts.impls.GlobalAllocator.TheImpl.{ghosts}
use Rattle.khe_c.specs.Kept.{Kept}
use Rattle.khe_c.specs.contracts.held.Held.{the_row}

-- the right to free a block of the heap: there is one heap, so it is the same for every allocator's handle
abbrev pub token : Ty → Ptr → Fml
token = ghosts.dealloc_token (record { memory = record { seal = tt } })

abbrev pub holds : Bool → Ptr → Option Kept → Fml
holds false p v = ftrue
holds true p None = ffalse
holds true p (Some x) = box_owns token the_row p x
