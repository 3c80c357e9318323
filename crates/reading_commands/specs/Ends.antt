-- The statuses that a run ends with, and what is written before it.
use Rattle.std.specs.Prelude.{ℕ, ◌≡◌, ◌⊎◌, Option, List}
use Rattle.khe_io.specs.Faults.{Rose, Took, TookFront}

-- what a shelf holds under its names, where it tells it
abbrev pub Holdings : Type 0
Holdings = Option (List ℕ → Option (List ℕ))

-- the statuses of a run that neither a device nor a lack of memory cut off
abbrev pub IsDecided : ℕ → Type 0
IsDecided status = (status ≡ 0) ⊎ (status ≡ 2) ⊎ (status ≡ 3) ⊎ (status ≡ 7)

-- all statuses
abbrev pub IsStatus : ℕ → Type 0
IsStatus status = IsDecided status ⊎ (status ≡ 4) ⊎ (status ≡ 5) ⊎ (status ≡ 6)

-- what came of writing bytes before a status: all was taken; or the sink refused a call after some; or
-- memory ran out after some
abbrev pub Written : Option (List ℕ) → Option (List ℕ) → ℕ → ℕ → List ℕ → ℕ → ℕ → Type 0
Written before after faults_before faults_after bytes status result =
    ((result ≡ status) × Took before after bytes)
    ⊎ ((result ≡ 5) × Rose faults_before faults_after × TookFront before after bytes)
    ⊎ ((result ≡ 6) × TookFront before after bytes)
