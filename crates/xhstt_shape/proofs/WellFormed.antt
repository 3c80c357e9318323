-- The archive of a tree that its bytes spell is well formed.
use Rattle.std.proofs.Common.{◌≡◌, Result, Ok, Err, List, ℕ, IfOk}
use Rattle.xhstt_text.specs.Document.{Spelled}
use Rattle.xhstt_text.specs.Forest.{Info, Forest, node}
use Rattle.xhstt_shape.specs.declared.faults.ShapeFault.{ShapeFault}
use Rattle.xhstt_shape.specs.declared.records.Archive.{Archive}
use Rattle.xhstt_shape.specs.Faults.{IsTold}
use Rattle.xhstt_shape.specs.Shape.{shape}
use Rattle.xhstt_shape.specs.WellFormed.{IsWellFormed}
use Rattle.xhstt_shape.proofs.InForm.{told-in_form}
use Rattle.xhstt_shape.proofs.Spellable.{told-spellable}

pub told-well_formed : (r : Result Archive ShapeFault) (bytes : List ℕ) (f : Forest) (i : Info) (kids others : Forest)
    → f ≡ node i kids others → IsTold r (shape (record { info = i; kids = kids }))
    → IfOk r (λ a. Spelled bytes f → IsWellFormed a)
told-well_formed (Ok a) bytes f i kids others is told =
    λ spelled. record {
      in_form = told-in_form (Ok a) (record { info = i; kids = kids }) told;
      spellable = told-spellable bytes f i kids others a is told spelled;
    }
told-well_formed (Err fault) bytes f i kids others is told = tt
