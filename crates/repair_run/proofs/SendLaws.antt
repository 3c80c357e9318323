-- What a sink took of a text and of a line after it.
use Rattle.std.proofs.Common.{ℕ, ◌≡◌, ◌≤◌, List, [], ◌++◌, Option, Some, None, Result, Ok, Err, OnOk, OnErr}
use Rattle.std.proofs.Common.{append_assoc}
use Rattle.std.proofs.Common.{ap, sym, subst, refl, ◌∙◌}
use Rattle.std.proofs.lemmas.List.{append-nil}
use Rattle.khe_io.specs.Faults.{Rose, Took, TookFront}
use Rattle.khe_io.proofs.Counts.{Rose-after}
use Rattle.khe_io.proofs.Writing.{Took-more}

pub sent_whole : {X E : Type 0} (a b c : Option (List ℕ)) (xs ys : List ℕ) (r : Result X E) → Took a b xs
    → OnOk r (Took b c ys) → OnOk r (Took a c (xs ++ ys))
sent_whole a b c xs ys (Ok x) first then = Took-more a b c xs ys first then
sent_whole a b c xs ys (Err e) first then = tt

pub sent_front : {X E : Type 0} (a b c : Option (List ℕ)) (xs ys : List ℕ) (r : Result X E) → Took a b xs
    → OnErr r (TookFront b c ys) → OnErr r (TookFront a c (xs ++ ys))
sent_front a b c xs ys (Ok x) first then = tt
sent_front a b c xs ys (Err e) first (front, rest, is, took) =
    (xs ++ front, rest, ap (λ zs. xs ++ zs) is ∙ sym (append_assoc xs front rest), Took-more a b c xs front first took)

-- a first part of the text is one of both
pub front_of : (a b : Option (List ℕ)) (xs ys : List ℕ) → TookFront a b xs → TookFront a b (xs ++ ys)
front_of a b xs ys (front, rest, is, took) =
    (front, rest ++ ys, ap (λ zs. zs ++ ys) is ∙ append_assoc front rest ys, took)

-- nothing is a first part
pub took_nothing : (a : Option (List ℕ)) (xs : List ℕ) → TookFront a a xs
took_nothing a xs = ([], xs, refl, by a)
  where
    by : (o : Option (List ℕ)) → Took o o []
    by None = refl
    by (Some ys) = ap Some (sym (append-nil ys))

-- a fault that was counted since, counts from before
pub rose_later : {X E : Type 0} (a b c : ℕ) (r : Result X E) (e : E) → a ≤ b → b ≤ c → OnErr r (Rose b c) → r ≡ Err e
    → Rose a c
rose_later {X} {E} a b c r e l m rose is =
    Rose-after a b c l m (subst (λ (x : Result X E). OnErr x (Rose b c)) is rose)
