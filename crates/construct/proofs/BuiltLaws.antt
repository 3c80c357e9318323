-- What is built on an engine of the timetable that a construction begins with.
use Rattle.std.proofs.Common.{◌≡◌, [], ◌<◌, length, Result, Ok, Err, IfOk, rules, sym, ap, subst, ◌∙◌}
use Rattle.std.proofs.lemmas.List.Elements.{All-nil}
use Rattle.construct.proofs.BegunLaws.{begun_valid}
use Rattle.construct.specs.Begun.{begun, begun_slots}
use Rattle.construct.specs.Constructed.{IsBuilt, constructed}
use Rattle.construct.specs.declared.built.Built.{Built}
use Rattle.khe_base.specs.declared.memory.NoMemory.{NoMemory}
use Rattle.khe_base.specs.declared.numbers.MonitorId.{MonitorId}
use Rattle.khe_engine.specs.Openings.{IsStateOf}
use Rattle.khe_engine.specs.States.{State}
use Rattle.khe_engine.specs.Values.{totals}
use Rattle.khe_engine.specs.Worlds.{World}
use Rattle.khe_instance.specs.States.{IsGroup, IsValid}
use Rattle.khe_instance.specs.WellMade.{AreWellMade}
use Rattle.khe_instance.specs.declared.parts.Parts.{Parts}
use Rattle.khe_instance.specs.declared.states.Plain.{Plain}
use Rattle.khe_told.proofs.ValidLaws.{listed_valid}
use Rattle.khe_told.specs.Valid.{AreMonitorsKept}
use Rattle.std.specs.List.Sorted.{IsStrictlyIncreasing}

pub start_valid : (p : Parts) (s : Plain) → AreWellMade p → s ≡ begun p → IsValid p s
unfolding begun
start_valid p s made e =
    listed_valid p (begun_slots p) s made (begun_valid p made) (ap (λ (x : Plain). x.meets) e)
    (ap (λ (x : Plain). x.tasks) e) (subst (AreMonitorsKept p) (sym e) none)
  where
    none : AreMonitorsKept p (begun p)
    none = record {
      detached = All-nil (λ (m : MonitorId). m.0 < length p.monitors);
      detached_once = search rules;
      groups = All-nil (IsGroup p);
      groups_once = search rules;
    }

pub built_is : (p q : Parts) (s : Plain) (t : State) (r : Result Built NoMemory) → q ≡ p → s ≡ begun p
    → IsStateOf p s t → IfOk r (λ b. IsStateOf q b.plain (constructed q t))
    → IfOk r (λ b. b.totals ≡ totals q (constructed q t)) → IfOk r (IsBuilt p)
built_is p q s t (Ok b) e begins opened listed costs = record {
  start = t;
  begins = subst (λ x. IsStateOf p x t) begins opened;
  listed = subst (λ x. IsStateOf x b.plain (constructed x t)) e listed;
  costs = costs ∙ ap (λ x. totals x (constructed x t)) e;
}
built_is p q s t (Err f) e begins opened listed costs = tt
