-- The least so far, as edits are gone through one after the other, is the least of them in the end.
use Rattle.std.proofs.Common.{◌≡◌, Bool, true, false, ◌&&◌, cond, Option, Some, None, List, [], ◌∷◌, refl, sym, ap}
use Rattle.std.proofs.Common.{◌∙◌, arith}
use Rattle.std.specs.List.{filter, fold}
use Rattle.std.specs.Option.{option_and_then}
use Rattle.std.proofs.lemmas.Bool.{cond-true, cond-false}
use Rattle.std.proofs.lemmas.Bool.Decides.{nat_tests}
use Rattle.khe_base.specs.declared.sums.Totals.{Totals}
use Rattle.construct.specs.Best.{improved, no_edit}
use Rattle.construct.specs.Choices.{are_lower, if_lower, is_accepted, least, lesser, lowering, totals_after}
use Rattle.construct.specs.declared.choosing.Best.{Best}
use Rattle.khe_engine.specs.States.{State}
use Rattle.khe_instance.specs.declared.parts.Parts.{Parts}
use Rattle.khe_told.specs.declared.edits.Edit.{Edit}

pub lower_chain : (a b c : Totals) → are_lower a b ≡ true → are_lower b c ≡ true → are_lower a c ≡ true
unfolding are_lower
lower_chain a b c h k = grind (arith, nat_tests)

pub lower_between : (a b c : Totals) → are_lower a b ≡ false → are_lower b c ≡ false → are_lower a c ≡ false
unfolding are_lower
lower_between a b c h k = grind (arith, nat_tests)

-- what is found, where the least of the edits that come is this one
abbrev pick : Parts → State → Best → Option Edit → Option Edit
pick p s b None = b.edit
pick p s b (Some e) = cond (are_lower (totals_after p s e) b.totals) (Some e) b.edit

-- an edit that is looked at, and the least of those after it
abbrev seen : Parts → State → Bool → Best → Edit → Best
seen p s c b e = cond c (record { totals = totals_after p s e; edit = Some e }) b

picked : (p : Parts) (s : State) (b : Best) (e : Edit) (c : Bool) → are_lower (totals_after p s e) b.totals ≡ c
    → (m : Option Edit) → pick p s (seen p s c b e) m ≡ pick p s b (Some (lesser p s e m))
unfolding lesser
picked p s b e true h None = sym (cond-true _ (Some e) b.edit h)
picked p s b e false h None = sym (cond-false _ (Some e) b.edit h)
picked p s b e true h (Some f) = by (are_lower (totals_after p s f) (totals_after p s e)) refl
  where
    by : (d : Bool) → are_lower (totals_after p s f) (totals_after p s e) ≡ d
        → cond d (Some f) (Some e) ≡ pick p s b (Some (cond d f e))
    by true g = sym (cond-true _ (Some f) b.edit (lower_chain (totals_after p s f) (totals_after p s e) b.totals g h))
    by false g = sym (cond-true _ (Some e) b.edit h)
picked p s b e false h (Some f) = by (are_lower (totals_after p s f) (totals_after p s e)) refl
  where
    by : (d : Bool) → are_lower (totals_after p s f) (totals_after p s e) ≡ d
        → pick p s b (Some f) ≡ pick p s b (Some (cond d f e))
    by true g = refl
    by false g = cond-false _ (Some f) b.edit
        (lower_between (totals_after p s f) (totals_after p s e) b.totals g h)
        ∙ sym (cond-false _ (Some e) b.edit h)

-- all edits that come
found_from : (p : Parts) (s : State) (b : Best) (es : List Edit)
    → (fold (improved p s) b es).edit ≡ pick p s b (least p s (filter (is_accepted p s) es))
unfolding improved least
found_from p s b [] = refl
found_from p s b (e ∷ es) = found_from p s (improved p s b e) es ∙ by (is_accepted p s e) refl
  where
    rest : Option Edit
    rest = least p s (filter (is_accepted p s) es)

    by : (a : Bool) → is_accepted p s e ≡ a
        → pick p s (seen p s (a && are_lower (totals_after p s e) b.totals) b e) rest
        ≡ pick p s b (least p s (cond a (e ∷ filter (is_accepted p s) es) (filter (is_accepted p s) es)))
    by true h = picked p s b e (are_lower (totals_after p s e) b.totals) refl rest
    by false h = refl

chosen : (p : Parts) (s : State) (m : Option Edit) → pick p s (no_edit p s) m ≡ option_and_then (if_lower p s) m
unfolding no_edit if_lower
chosen p s None = refl
chosen p s (Some e) = refl

pub found_is : (p : Parts) (s : State) (es : List Edit) → (fold (improved p s) (no_edit p s) es).edit ≡ lowering p s es
unfolding lowering
found_is p s es = found_from p s (no_edit p s) es ∙ chosen p s (least p s (filter (is_accepted p s) es))
