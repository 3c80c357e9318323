-- An edit of meets and tasks is none of monitors and groups.
use Rattle.std.proofs.Common.{◌≡◌, true, false, None, refl, ap, ◌∙◌}
use Rattle.std.proofs.lemmas.Bool.{both_ways}
use Rattle.khe_told.specs.declared.edits.Edit.{Edit}
use Rattle.khe_told.specs.declared.edits.Edit.TheVariants.{Assign, Unassign, MoveTo, Split, Merge, SwapMeets, Give}
use Rattle.khe_told.specs.declared.edits.Edit.TheVariants.{Take, Regive, SwapTasks, Attach, Detach, MakeGroup}
use Rattle.khe_told.specs.declared.edits.Edit.TheVariants.{DropGroup, AddChild, RemoveChild}
use Rattle.khe_solution.specs.Refusing as refusing
use Rattle.khe_engine.specs.States.{refusal}
use Rattle.khe_engine.specs.Worlds.{World}
use Rattle.khe_engine.proofs.StateLaws.{refusal_meets}
use Rattle.monitor_graph.specs.Edits.{is_of_groups, adds_child}

pub not_of_groups : (e : Edit) → refusing.is_of_meets e ≡ true → is_of_groups e ≡ false
not_of_groups (Attach m) h = absurd (both_ways false refl h)
not_of_groups (Detach m) h = absurd (both_ways false refl h)
not_of_groups MakeGroup h = absurd (both_ways false refl h)
not_of_groups (DropGroup g) h = absurd (both_ways false refl h)
not_of_groups (AddChild g m) h = absurd (both_ways false refl h)
not_of_groups (RemoveChild g m) h = absurd (both_ways false refl h)
not_of_groups (Assign a b) h = refl
not_of_groups (Unassign a) h = refl
not_of_groups (MoveTo a b) h = refl
not_of_groups (Split a b) h = refl
not_of_groups (Merge a b) h = refl
not_of_groups (SwapMeets a b) h = refl
not_of_groups (Give a b) h = refl
not_of_groups (Take a) h = refl
not_of_groups (Regive a b) h = refl
not_of_groups (SwapTasks a b) h = refl

pub no_child : (e : Edit) → refusing.is_of_meets e ≡ true → adds_child e ≡ false
no_child (AddChild g m) h = absurd (both_ways false refl h)
no_child (Attach m) h = refl
no_child (Detach m) h = refl
no_child MakeGroup h = refl
no_child (DropGroup g) h = refl
no_child (RemoveChild g m) h = refl
no_child (Assign a b) h = refl
no_child (Unassign a) h = refl
no_child (MoveTo a b) h = refl
no_child (Split a b) h = refl
no_child (Merge a b) h = refl
no_child (SwapMeets a b) h = refl
no_child (Give a b) h = refl
no_child (Take a) h = refl
no_child (Regive a b) h = refl
no_child (SwapTasks a b) h = refl

-- what the table of meets and tasks accepts, the engine accepts
pub accepted_at : (w b : World) (e : Edit) → b.parts ≡ w.parts → b.state ≡ w.state → refusing.is_of_meets e ≡ true
    → refusing.refusal w.parts w.state.slots e ≡ None → refusal b.parts b.state e ≡ None
accepted_at w b e p s ours h =
    ap (λ q. refusal q b.state e) p ∙ ap (λ x. refusal w.parts x e) s
    ∙ refusal_meets w.parts w.state e (not_of_groups e ours) ∙ h
