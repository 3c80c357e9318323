-- What is known of the value that a result or an option holds.
use Rattle.std.proofs.Common.{◌≡◌, refl, None, Some, Option, IsSome, Ok, Result, IfOk, option_map}
use Rattle.std.proofs.lemmas.Result.{IfOk-at_ok}

-- a clause on the value of a call, where the call gave this value
pub if_ok : {A E : Type 0} (r : Result A E) (v : A) (P : A → Type 0) → r ≡ Ok v → IfOk r P → P v
if_ok r v P e h = IfOk-at_ok P e h

-- what is there is there after a map
pub some-mapped : {A B : Type 0} (f : A → B) (o : Option A) → IsSome o → IsSome (option_map f o)
some-mapped f None e = absurd (let g : ⊥ = cc in g)
some-mapped f (Some x) e = refl
