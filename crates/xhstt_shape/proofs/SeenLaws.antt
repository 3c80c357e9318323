-- The bits of the children that may not come again: what the table says of an element by them, and how one more child
-- keeps them right.
use Rattle.std.proofs.Common.{◌≡◌, ◌≢◌, ℕ, ◌<◌, ◌≤◌, ◌++◌, ◌∷◌, [], ◌||◌, List, Bool, true, false, nat_eq, nat_le, Some, None}
use Rattle.std.proofs.Common.{Ok, Err, refl, sym, ap, subst, ◌∙◌, length, get_or, if◌then◌else◌, arith, inl, inr}
use Rattle.std.specs.List.{list_any, find, slice_get, position, position_or_len}
use Rattle.std.specs.Str.{bytes_eq}
use Rattle.std.proofs.lemmas.Bool.{cases_Bool, cases_lt, lt-ltb, le-ltb}
use Rattle.std.proofs.lemmas.Bool.Decides.{nat_tests}
use Rattle.std.proofs.lemmas.List.Folds.{find_at, list_any-append}
use Rattle.std.proofs.lemmas.List.Sums.{passes_at_first}
use Rattle.std.proofs.lemmas.Option.{slice_get-get_or, slice_get_past}
use Rattle.std.proofs.lemmas.Slice.Eq.{bytes_eq-Decides}
use Rattle.fault_tables.specs.declared.faults.TheConstants.{UNKNOWN_ELEMENT, REPEATED_CHILD}
use Rattle.khe_base.specs.Bits.{has_bit}
use Rattle.khe_instance.specs.declared.rules.Kind.{Kind}
use Rattle.khe_instance.specs.declared.rules.Kind.TheVariants as kind
use Rattle.xhstt_text.specs.Forest.{Forest, Info}
use Rattle.xhstt_shape.specs.declared.faults.ShapeFault.TheVariants.{Bad}
use Rattle.xhstt_shape.specs.declared.schema.Child.{Child}
use Rattle.xhstt_shape.specs.declared.schema.Row.{Row}
use Rattle.xhstt_shape.specs.declared.schema.Row.TheVariants as row
use Rattle.xhstt_shape.specs.declared.words.Tag.{Tag}
use Rattle.xhstt_shape.specs.declared.words.Tag.TheVariants as tag
use Rattle.xhstt_shape.specs.Schema.{children, constraint_children, many}
use Rattle.xhstt_shape.specs.Seen.{IsSeen, is_named}
use Rattle.xhstt_shape.specs.Walk.{children_fault, is_among, is_many, rule_for, rule_or_fault, with_seen}
use Rattle.xhstt_shape.specs.Words.{word}

-- no element has more children in the table than a number has bits

few_of_kind : (k : Kind) → nat_le (length (constraint_children k)) 64 ≡ true
unfolding constraint_children
few_of_kind kind.AssignTime = refl
few_of_kind _ = refl

few_of_row : (r : Row) → nat_le (length (children r)) 64 ≡ true
unfolding children
few_of_row (row.Constraint k) = few_of_kind k
few_of_row _ = refl

pub few : (r : Row) → length (children r) ≤ 64
few r = let h = few_of_row r in grind (arith, nat_tests)

-- the walk over the children of an element of a row stands before these children, where these bits are set
pub record IsAmid (r : Row) (bits : ℕ) (rest kids : Forest) : Type 0 where
  pub tags : List Tag
  pub seen : IsSeen (children r) bits tags
  pub same : children_fault r tags rest ≡ children_fault r [] kids

-- a word in which one more bit is set
pub set_at : (w v k : ℕ) → has_bit v k ≡ true → ((i : ℕ) → i ≢ k → has_bit v i ≡ has_bit w i) → (n : ℕ)
    → has_bit v n ≡ (if nat_eq n k then true else has_bit w n)
set_at w v k here others n = by (nat_eq n k) refl
  where
    by : (c : Bool) → nat_eq n k ≡ c → has_bit v n ≡ (if c then true else has_bit w n)
    by true e = let same : n ≡ k = grind (arith, nat_tests) in ap (has_bit v) same ∙ here
    by false e = let other : n ≢ k = grind (arith, nat_tests) in others n other

or_true : (b : Bool) → (b || true) ≡ true
or_true true = refl
or_true false = refl

or_false : (b : Bool) → (b || false) ≡ b
or_false true = refl
or_false false = refl

only_any : (p : Tag → Bool) (t : Tag) (b : Bool) → p t ≡ b → list_any p (t ∷ []) ≡ b
only_any p t true h = rw h refl
only_any p t false h = rw h refl

last_any : (p : Tag → Bool) (tags : List Tag) (t : Tag) (b : Bool) → p t ≡ b
    → list_any p (tags ++ t ∷ []) ≡ (list_any p tags || b)
last_any p tags t b h = list_any-append p tags (t ∷ []) ∙ ap (λ x. list_any p tags || x) (only_any p t b h)

module _ (p : Child → Bool) (rules : List Child) where
  placed : (place : ℕ) → position p rules ≡ Some place → (position_or_len p rules ≡ place) × (place < length rules)
  placed place h =
      elim (cases_lt (position_or_len p rules) (length rules)) [
        | inl less ↦ (let same : position_or_len p rules ≡ place =
            (let some : position p rules ≡ Some (position_or_len p rules) = rw (lt-ltb _ _ less) refl in cc) in
            (same, subst (λ k. k < length rules) same less))
        | inr past ↦ absurd (let none : position p rules ≡ None = rw (le-ltb _ _ past) refl in cc)
      ]

  past_end : position p rules ≡ None → length rules ≤ position_or_len p rules
  past_end h =
      elim (cases_lt (position_or_len p rules) (length rules)) [
        | inl less ↦ absurd (let some : position p rules ≡ Some (position_or_len p rules) =
            rw (lt-ltb _ _ less) refl in cc)
        | inr past ↦ past
      ]

  not_found : position p rules ≡ None → find p rules ≡ None
  not_found h = find_at p rules ∙ slice_get_past rules (position_or_len p rules) (past_end h)

  found : (place : ℕ) (d : Child) → position p rules ≡ Some place → find p rules ≡ Some (get_or rules place d)
  found place d h =
      let at = placed place h in
      find_at p rules ∙ ap (slice_get rules) at.0 ∙ slice_get-get_or rules place d at.1

  passing : (place : ℕ) (d : Child) → position p rules ≡ Some place → p (get_or rules place d) ≡ true
  passing place d h =
      let at = placed place h in
      subst (λ k. p (get_or rules k d) ≡ true) at.0
      (passes_at_first p rules d (subst (λ k. k < length rules) (sym at.0) at.1))

-- an element whose name the table does not have
pub unknown : (rules : List Child) (tags : List Tag) (i : Info) (name : List ℕ) (at : ℕ)
    → position (is_named name) rules ≡ None → name ≡ i.name → at ≡ i.at
    → rule_or_fault (rule_for rules i.name) tags i ≡ Err (Bad UNKNOWN_ELEMENT at)
unknown rules tags i name at none named stands =
    let none_here : position (is_named i.name) rules ≡ None = ap (λ n. position (is_named n) rules) (sym named) ∙ none in
    ap (λ o. rule_or_fault o tags i) (not_found (is_named i.name) rules none_here)
    ∙ ap (λ a. Err (Bad UNKNOWN_ELEMENT a)) (sym stands)

module _ (rules : List Child) (seen : ℕ) (tags : List Tag) (s : IsSeen rules seen tags) (i : Info) (name : List ℕ)
    (place : ℕ) (here : position (is_named name) rules ≡ Some place) (named : name ≡ i.name) where
  there : position (is_named i.name) rules ≡ Some place
  there = ap (λ n. position (is_named n) rules) (sym named) ∙ here

  -- by its name the child is the one at the place, unless its bit is set
  by_bit : (d : Child) (b : Bool) → has_bit seen place ≡ b → rule_or_fault (rule_for rules i.name) tags i
      ≡ (if b then Err (Bad REPEATED_CHILD i.at) else Ok (get_or rules place d))
  by_bit d b bit =
      ap (λ o. rule_or_fault o tags i) (found (is_named i.name) rules place d there)
      ∙ ap (λ b. if b then Err (Bad REPEATED_CHILD i.at) else Ok (get_or rules place d))
      (sym (s.same i.name place there) ∙ bit)

  -- an element whose name may not come again
  pub repeated : (at : ℕ) → at ≡ i.at → has_bit seen place ≡ true
      → rule_or_fault (rule_for rules i.name) tags i ≡ Err (Bad REPEATED_CHILD at)
  repeated at stands bit = by_bit (many tag.Name row.Text) true bit ∙ ap (λ a. Err (Bad REPEATED_CHILD a)) (sym stands)

  -- no name at another place is that of a child whose name stands here
  other_name : (c : Child) → is_named name c ≡ true → (other : List ℕ) (n : ℕ) → position (is_named other) rules ≡ Some n
      → n ≢ place → bytes_eq (word c.tag) other ≡ false
  other_name c is other n e apart = elim (cases_Bool (bytes_eq (word c.tag) other)) [
    | inl eq ↦
        let names : other ≡ name = sym ((bytes_eq-Decides (word c.tag) other).0 eq)
        ∙ (bytes_eq-Decides (word c.tag) name).0 is in
        let twice : Some n ≡ Some place = sym e ∙ ap (λ m. position (is_named m) rules) names ∙ here in
        let same : n ≡ place = cc in
        absurd (apart same)
    | inr ne ↦ ne
  ]

  -- the bits with that of one more child
  with_bit : (c : Child) → is_named name c ≡ true → ((other : List ℕ) → position (is_named other) rules ≡ Some place
      → is_named other c ≡ true) → (other : List ℕ) (n : ℕ) → position (is_named other) rules ≡ Some n → (b : Bool)
      → nat_eq n place ≡ b → (if b then true else has_bit seen n) ≡ is_among other (tags ++ c.tag ∷ [])
  with_bit c is all other n e true eq =
      let same : n ≡ place = grind (arith, nat_tests) in
      let one : is_named other c ≡ true = all other (e ∙ ap Some same) in
      sym (last_any (λ t. bytes_eq (word t) other) tags c.tag true one ∙ or_true (is_among other tags))
  with_bit c is all other n e false eq =
      let apart : n ≢ place = grind (arith, nat_tests) in
      s.same other n e
      ∙ sym (last_any (λ t. bytes_eq (word t) other) tags c.tag false (other_name c is other n e apart)
      ∙ or_false (is_among other tags))

  -- the bits after one more child
  after : (c : Child) (next : ℕ) → is_named name c ≡ true → ((other : List ℕ)
      → position (is_named other) rules ≡ Some place → is_named other c ≡ true) → (many : Bool) → ((n : ℕ)
      → has_bit next n ≡ (if many then has_bit seen n else if nat_eq n place then true else has_bit seen n))
      → IsSeen rules next (if many then tags else tags ++ c.tag ∷ [])
  after c next is all true bits = record { same = λ other n e. bits n ∙ s.same other n e }
  after c next is all false bits = record {
    same = λ other n e. bits n ∙ with_bit c is all other n e (nat_eq n place) refl;
  }

  -- an element that may stand, and the bits after it
  pub passed : (d : Child) (next : ℕ) → has_bit seen place ≡ false → ((n : ℕ) → has_bit next n
      ≡ (if is_many (get_or rules place d).mark then has_bit seen n else if nat_eq n place then true else has_bit seen n))
      → (rule_or_fault (rule_for rules i.name) tags i ≡ Ok (get_or rules place d))
      × IsSeen rules next (with_seen (get_or rules place d) tags)
  passed d next clear bits = (
    by_bit d false clear,
    after (get_or rules place d) next (passing (is_named name) rules place d here)
        (λ other e. passing (is_named other) rules place d e) (is_many (get_or rules place d).mark) bits,
  )
