-- What places in a role are given before and after effects, and who has tasks then.
use Rattle.std.specs.Prelude.{ℕ, ◌≡◌, ◌+◌, if◌then◌else◌, List, IfSome}
use Rattle.khe_base.specs.declared.numbers.ResourceId.{ResourceId}
use Rattle.khe_instance.specs.Running.{is_resource}
use Rattle.set_monitors.specs.AvoidSplitAssignments.{IsListed}
use Rattle.set_monitors.specs.declared.holder_effects.Handing.{Handing}
use Rattle.set_monitors.specs.declared.holder_effects.Handings.{Handings}

-- how many tasks each resource has before, and after the place of a handing is given something else
abbrev pub IsHanded : (ℕ → ℕ) → Handing → (ℕ → ℕ) → Type 0
IsHanded f h g = (q : ℕ) → g q + (if is_resource q h.before then 1 else 0)
    ≡ f q + (if is_resource q h.after then 1 else 0)

-- before, and after both
abbrev pub AreHanded : (ℕ → ℕ) → Handings → (ℕ → ℕ) → Type 0
AreHanded f hs g = (mid : ℕ → ℕ) × IsHanded f hs.first mid × IsHanded mid hs.second g

-- what is given and taken is listed
abbrev pub IsHandedOf : List ℕ → Handing → Type 0
IsHandedOf numbers h = IfSome h.before (λ (r : ResourceId). IsListed numbers r.0)
    × IfSome h.after (λ (r : ResourceId). IsListed numbers r.0)
