-- What stands in a list at a place, and how it is read from there.
use Rattle.std.proofs.Common.{◌≡◌, ℕ, ◌+◌, ◌-◌, ◌≤◌, List, [], ◌∷◌, ◌++◌, length, get_or, take, drop, ap, ◌∙◌, sym}
use Rattle.std.proofs.Common.{refl, arith, append_assoc, append-nil, length-append}
use Rattle.std.proofs.Math.Seq.{drop-append_seam, take-append_seam, get_or-append_seam}
use Rattle.std.specs.Prelude.{slice_range}

-- a list has these elements from a place on
pub record Holds {X : Type 0} (xs : List X) (at : ℕ) (ys : List X) : Type 0 where
  pub front : List X
  pub more : List X
  pub is : xs ≡ front ++ (ys ++ more)
  pub place : length front ≡ at

module _ {X : Type 0} (xs : List X) where
  -- the first part of what stands there
  pub Holds-first : (at : ℕ) (ys zs : List X) → Holds xs at (ys ++ zs) → Holds xs at ys
  Holds-first at ys zs h =
      record {
        front = h.front;
        more = zs ++ h.more;
        is = h.is ∙ ap (λ l. h.front ++ l) (append_assoc ys zs h.more);
        place = h.place;
      }

  -- what stands after it
  pub Holds-rest : (at : ℕ) (ys zs : List X) (next : ℕ) → next ≡ at + length ys → Holds xs at (ys ++ zs)
      → Holds xs next zs
  Holds-rest at ys zs next e h = record {
    front = h.front ++ ys;
    more = h.more;
    is = h.is ∙ ap (λ l. h.front ++ l) (append_assoc ys zs h.more) ∙ sym (append_assoc h.front ys (zs ++ h.more));
    place = length-append h.front ys ∙ ap (λ n. n + length ys) h.place ∙ sym e;
  }

  -- what stands after one element
  pub Holds-next : (at : ℕ) (y : X) (ys : List X) → Holds xs at (y ∷ ys) → Holds xs (at + 1) ys
  Holds-next at y ys h = Holds-rest at (y ∷ []) ys (at + 1) refl h

  -- it ends within the list
  pub Holds-within : (at : ℕ) (ys : List X) → Holds xs at ys → at + length ys ≤ length xs
  Holds-within at ys h =
      let whole : length xs ≡ length h.front + (length ys + length h.more) =
      ap length h.is ∙ length-append h.front (ys ++ h.more)
      ∙ ap (λ n. length h.front + n) (length-append ys h.more) in
      let place : length h.front ≡ at = h.place in
      omega arith

  -- it is what a range of places reads
  pub Holds-range : (at : ℕ) (ys : List X) (to : ℕ) → to ≡ at + length ys → Holds xs at ys → slice_range xs at to ≡ ys
  Holds-range at ys to e h =
      let rest : drop at xs ≡ ys ++ h.more = ap (λ n. drop n xs) (sym h.place) ∙ ap (drop (length h.front)) h.is
      ∙ drop-append_seam h.front (ys ++ h.more) in
      let width : to - at ≡ length ys = omega arith in
      ap (λ n. take n (drop at xs)) width ∙ ap (take (length ys)) rest ∙ take-append_seam ys h.more

  -- the first element is read at its place
  pub Holds-get : (at : ℕ) (y : X) (ys : List X) (d : X) → Holds xs at (y ∷ ys) → get_or xs at d ≡ y
  Holds-get at y ys d h =
      ap (λ n. get_or xs n d) (sym h.place) ∙ ap (λ l. get_or l (length h.front) d) h.is
      ∙ get_or-append_seam h.front y (ys ++ h.more) d

-- a whole list
pub Holds-whole : {X : Type 0} (xs ys : List X) → xs ≡ ys → Holds xs 0 ys
Holds-whole xs ys e = record { front = []; more = []; is = e ∙ sym (append-nil ys); place = refl }
