-- An edit of meets and tasks makes no child of a group, and the engine accepts it where their table does.
use Rattle.std.proofs.Common.{◌≡◌, true, false, None, refl, ◌∙◌}
use Rattle.std.proofs.lemmas.Bool.{both_ways}
use Rattle.khe_engine.specs.States.{State, refusal}
use Rattle.khe_engine.proofs.StateLaws.{one_sort, refusal_meets}
use Rattle.khe_instance.specs.declared.parts.Parts.{Parts}
use Rattle.khe_told.specs.declared.edits.Edit.{Edit}
use Rattle.khe_told.specs.declared.edits.Edit.TheVariants.{Assign, Unassign, MoveTo, Split, Merge, SwapMeets, Give}
use Rattle.khe_told.specs.declared.edits.Edit.TheVariants.{Take, Regive, SwapTasks, Attach, Detach, MakeGroup}
use Rattle.khe_told.specs.declared.edits.Edit.TheVariants.{DropGroup, AddChild, RemoveChild}
use Rattle.khe_solution.specs.Refusing as refusing
use Rattle.monitor_graph.specs.Edits.{adds_child}

pub no_child : (e : Edit) → refusing.is_of_meets e ≡ true → adds_child e ≡ false
no_child (AddChild g m) h = absurd (both_ways false refl h)
no_child (Attach m) h = refl
no_child (Detach m) h = refl
no_child MakeGroup h = refl
no_child (DropGroup g) h = refl
no_child (RemoveChild g m) h = refl
no_child (Assign a b) h = refl
no_child (Unassign a) h = refl
no_child (MoveTo a b) h = refl
no_child (Split a b) h = refl
no_child (Merge a b) h = refl
no_child (SwapMeets a b) h = refl
no_child (Give a b) h = refl
no_child (Take a) h = refl
no_child (Regive a b) h = refl
no_child (SwapTasks a b) h = refl

pub accepted : (p : Parts) (s : State) (e : Edit) → refusing.is_of_meets e ≡ true
    → refusing.refusal p s.slots e ≡ None → refusal p s e ≡ None
accepted p s e ours h = refusal_meets p s e (one_sort e ours) ∙ h
