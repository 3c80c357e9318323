-- The edit that is taken is the first of the least, and none lowers the totals where none is taken.
use Rattle.std.proofs.Common.{◌≡◌, Bool, true, false, cond, Option, Some, None, List, [], ◌∷◌, ◌++◌, refl, sym, ap, subst}
use Rattle.std.proofs.Common.{◌∙◌}
use Rattle.std.specs.Prelude.{All}
use Rattle.std.specs.List.{filter}
use Rattle.std.specs.Option.{option_and_then}
use Rattle.std.proofs.lemmas.Bool.{both_ways, false_from_ne_true}
use Rattle.std.proofs.lemmas.List.Elements.{All-nil, All-cons, All-append, All-weaker}
use Rattle.std.proofs.lemmas.Option.{none-some, same_Some}
use Rattle.construct.proofs.LeastLaws.{lower_between, lower_chain}
use Rattle.construct.specs.Choices.{are_lower, if_lower, is_accepted, least, lesser, lowering, totals_after, totals_at}
use Rattle.construct.specs.Laws.{IsFirstLeast, IsTaken, NoneLowers}
use Rattle.khe_base.specs.declared.sums.Totals.{Totals}
use Rattle.khe_engine.specs.States.{State}
use Rattle.khe_instance.specs.declared.parts.Parts.{Parts}
use Rattle.khe_told.specs.declared.edits.Edit.{Edit}

abbrev IsNot : Parts → State → Edit → Type 0
IsNot p s e = is_accepted p s e ≡ true → ⊥

-- the least of an edit and those after it is one of them
least_cons : (p : Parts) (s : State) (e : Edit) (es : List Edit)
    → least p s (e ∷ es) ≡ Some (lesser p s e (least p s es))
unfolding least
least_cons p s e es = refl

least_nil : (p : Parts) (s : State) → least p s [] ≡ None
unfolding least
least_nil p s = refl

-- no edit is the least where none is accepted
none_accepted : (p : Parts) (s : State) (es : List Edit) → least p s (filter (is_accepted p s) es) ≡ None
    → All (IsNot p s) es
none_accepted p s [] h = All-nil (IsNot p s)
none_accepted p s (e ∷ es) h = by (is_accepted p s e) refl h (none_accepted p s es)
  where
    rest : List Edit
    rest = filter (is_accepted p s) es

    by : (c : Bool) → is_accepted p s e ≡ c → least p s (cond c (e ∷ rest) rest) ≡ None
        → (least p s rest ≡ None → All (IsNot p s) es) → All (IsNot p s) (e ∷ es)
    by true a k more = absurd (none-some (lesser p s e (least p s rest)) (sym k ∙ least_cons p s e rest))
    by false a k more = All-cons (IsNot p s) e es (λ b. both_ways (is_accepted p s e) a b) (more k)

abbrev IsHigher : Parts → State → Edit → Edit → Type 0
IsHigher p s e f = is_accepted p s f ≡ true → are_lower (totals_after p s e) (totals_after p s f) ≡ true

abbrev IsNoLower : Parts → State → Edit → Edit → Type 0
IsNoLower p s e f = is_accepted p s f ≡ true → are_lower (totals_after p s f) (totals_after p s e) ≡ false

-- where the first of the least of the rest is no lower than an edit, none of the rest is
higher_no_lower : (a b c : Totals) → are_lower a b ≡ true → are_lower a c ≡ false → are_lower b c ≡ false
higher_no_lower a b c h k = false_from_ne_true (are_lower b c) (λ g. both_ways (are_lower a c) k (lower_chain a b c h g))

all_no_lower : (p : Parts) (s : State) (x f : Edit) (es : List Edit) → IsFirstLeast p s es f
    → are_lower (totals_after p s f) (totals_after p s x) ≡ false → All (IsNoLower p s x) es
all_no_lower p s x f es h low =
    subst (All (IsNoLower p s x)) (sym h.place)
    (All-append (IsNoLower p s x) h.earlier (f ∷ h.later)
    (All-weaker (IsHigher p s f) (IsNoLower p s x) (λ y a b. higher_no_lower (totals_after p s f) (totals_after p s y)
    (totals_after p s x) (a b) low) h.earlier h.higher)
    (All-cons (IsNoLower p s x) f h.later (λ a. low)
    (All-weaker (IsNoLower p s f) (IsNoLower p s x) (λ y a b. lower_between (totals_after p s y) (totals_after p s f)
    (totals_after p s x) (a b) low) h.later h.no_lower)))

-- one more edit before the others
later_least : (p : Parts) (s : State) (x e : Edit) (es : List Edit) → IsHigher p s e x → IsFirstLeast p s es e
    → IsFirstLeast p s (x ∷ es) e
later_least p s x e es first h = record {
  accepted = h.accepted;
  earlier = x ∷ h.earlier;
  later = h.later;
  place = ap (λ xs. x ∷ xs) h.place;
  higher = All-cons (IsHigher p s e) x h.earlier first h.higher;
  no_lower = h.no_lower;
}

first_least : (p : Parts) (s : State) (x : Edit) (es : List Edit) → is_accepted p s x ≡ true → All (IsNoLower p s x) es
    → IsFirstLeast p s (x ∷ es) x
first_least p s x es a h = record {
  accepted = a;
  earlier = [];
  later = es;
  place = refl;
  higher = All-nil (IsHigher p s x);
  no_lower = h;
}

lesser_least : (p : Parts) (s : State) (x : Edit) (es : List Edit) (o : Option Edit) → is_accepted p s x ≡ true
    → (o ≡ None → All (IsNot p s) es) → ((f : Edit) → o ≡ Some f → IsFirstLeast p s es f)
    → IsFirstLeast p s (x ∷ es) (lesser p s x o)
unfolding lesser
lesser_least p s x es None a none some =
    first_least p s x es a (All-weaker (IsNot p s) (IsNoLower p s x) (λ y n b. absurd (n b)) es (none refl))
lesser_least p s x es (Some f) a none some = by (are_lower (totals_after p s f) (totals_after p s x)) refl (some f refl)
  where
    by : (c : Bool) → are_lower (totals_after p s f) (totals_after p s x) ≡ c → IsFirstLeast p s es f
        → IsFirstLeast p s (x ∷ es) (cond c f x)
    by true low h = later_least p s x f es (λ b. low) h
    by false low h = first_least p s x es a (all_no_lower p s x f es h low)

pub least_is : (p : Parts) (s : State) (es : List Edit) (e : Edit) → least p s (filter (is_accepted p s) es) ≡ Some e
    → IsFirstLeast p s es e
least_is p s [] e h = absurd (no_least h)
  where
    no_least : least p s [] ≡ Some e → ⊥
    no_least k = none-some e (sym (least_nil p s) ∙ k)
least_is p s (x ∷ es) e h =
    by (is_accepted p s x) refl h (none_accepted p s es) (least_is p s es)
  where
    rest : List Edit
    rest = filter (is_accepted p s) es

    by : (c : Bool) → is_accepted p s x ≡ c → least p s (cond c (x ∷ rest) rest) ≡ Some e
        → (least p s rest ≡ None → All (IsNot p s) es)
        → ((f : Edit) → least p s rest ≡ Some f → IsFirstLeast p s es f) → IsFirstLeast p s (x ∷ es) e
    by true a k none some =
        subst (IsFirstLeast p s (x ∷ es))
        (same_Some (lesser p s x (least p s rest)) e (sym (least_cons p s x rest) ∙ k))
        (lesser_least p s x es (least p s rest) a none some)
    by false a k none some = later_least p s x e es (λ b. absurd (both_ways (is_accepted p s x) a b)) (some e k)

-- what is taken
taken_by : (p : Parts) (s : State) (e f : Edit) → if_lower p s f ≡ Some e
    → (f ≡ e) × (are_lower (totals_after p s e) (totals_at p s) ≡ true)
unfolding if_lower
taken_by p s e f h = by (are_lower (totals_after p s f) (totals_at p s)) refl h
  where
    by : (c : Bool) → are_lower (totals_after p s f) (totals_at p s) ≡ c → cond c (Some f) None ≡ Some e
        → (f ≡ e) × (are_lower (totals_after p s e) (totals_at p s) ≡ true)
    by true a k =
        let same = same_Some f e k in
        (same, subst (λ x. are_lower (totals_after p s x) (totals_at p s) ≡ true) same a)
    by false a k = absurd (none-some e k)

taken_from : (p : Parts) (s : State) (es : List Edit) (e : Edit) (o : Option Edit)
    → ((f : Edit) → o ≡ Some f → IsFirstLeast p s es f) → option_and_then (if_lower p s) o ≡ Some e
    → IsTaken p s es e
taken_from p s es e None some h = absurd (none-some e h)
taken_from p s es e (Some f) some h =
    let r = taken_by p s e f h in
    record { least = subst (IsFirstLeast p s es) r.0 (some f refl); lower = r.1 }

pub taken_is : (p : Parts) (s : State) (es : List Edit) (e : Edit) → lowering p s es ≡ Some e → IsTaken p s es e
unfolding lowering
taken_is p s es e h = taken_from p s es e (least p s (filter (is_accepted p s) es)) (least_is p s es) h

-- where none is taken
passed_by : (p : Parts) (s : State) (f : Edit) → if_lower p s f ≡ None
    → are_lower (totals_after p s f) (totals_at p s) ≡ false
unfolding if_lower
passed_by p s f h = by (are_lower (totals_after p s f) (totals_at p s)) h
  where
    by : (c : Bool) → cond c (Some f) None ≡ None → c ≡ false
    by true k = absurd (none-some f (sym k))
    by false k = refl

none_from : (p : Parts) (s : State) (es : List Edit) (o : Option Edit) → (o ≡ None → All (IsNot p s) es)
    → ((f : Edit) → o ≡ Some f → IsFirstLeast p s es f) → option_and_then (if_lower p s) o ≡ None → NoneLowers p s es
none_from p s es None none some h =
    All-weaker (IsNot p s)
    (λ e. is_accepted p s e ≡ true → are_lower (totals_after p s e) (totals_at p s) ≡ false)
    (λ y n b. absurd (n b)) es (none refl)
none_from p s es (Some f) none some h =
    let P : Edit → Type 0 = λ e. is_accepted p s e ≡ true → are_lower (totals_after p s e) (totals_at p s) ≡ false in
    let low = passed_by p s f h in
    let r = some f refl in
    subst (All P) (sym r.place)
    (All-append P r.earlier (f ∷ r.later)
    (All-weaker (IsHigher p s f) P (λ y a b. higher_no_lower (totals_after p s f) (totals_after p s y) (totals_at p s)
    (a b) low) r.earlier r.higher)
    (All-cons P f r.later (λ a. low)
    (All-weaker (IsNoLower p s f) P (λ y a b. lower_between (totals_after p s y) (totals_after p s f) (totals_at p s)
    (a b) low) r.later r.no_lower)))

pub none_taken : (p : Parts) (s : State) (es : List Edit) → lowering p s es ≡ None → NoneLowers p s es
unfolding lowering
none_taken p s es h =
    none_from p s es (least p s (filter (is_accepted p s) es)) (none_accepted p s es) (least_is p s es) h
