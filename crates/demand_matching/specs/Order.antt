-- The demands in an order, and the place of each in it.
use Rattle.std.specs.Prelude.{ℕ, ◌<◌, ◌≡◌, ◌≢◌, List, length, slice_index, Bool, ◌&&◌, nat_lt}

-- the order has each number below n once, and the spots say at which place each stands
pub record IsOrder (n : ℕ) (order spots : List ℕ) : Type 0 where
  pub order_length : length order ≡ n
  pub spots_length : length spots ≡ n
  pub order_below : (k : ℕ) → k < n → slice_index order k < n
  pub spot_below : (d : ℕ) → d < n → slice_index spots d < n
  pub order_spot : (d : ℕ) → d < n → slice_index order (slice_index spots d) ≡ d
  pub spot_order : (k : ℕ) → k < n → slice_index spots (slice_index order k) ≡ k

-- a demand stands at this place now, and the one that stood there stands where it stood
pub record ChangesPlaces (order spots order' spots' : List ℕ) (d place : ℕ) : Type 0 where
  pub moved : slice_index spots' d ≡ place
  pub swapped : slice_index order place ≢ d → slice_index spots' (slice_index order place) ≡ slice_index spots d
  pub other_spots : (e : ℕ) → e ≢ d → e ≢ slice_index order place → slice_index spots' e ≡ slice_index spots e
  pub other_places : (k : ℕ) → k ≢ place → k ≢ slice_index spots d → slice_index order' k ≡ slice_index order k

-- the same numbers below n stand at the first `count` places
pub record HasSameFirst (n : ℕ) (spots spots' : List ℕ) (count : ℕ) : Type 0 where
  pub into : (d : ℕ) → d < n → slice_index spots d < count → slice_index spots' d < count
  pub back : (d : ℕ) → d < n → slice_index spots' d < count → slice_index spots d < count

-- the list has the numbers below n, in order
pub record IsCountedUp (n : ℕ) (numbers : List ℕ) : Type 0 where
  pub count : length numbers ≡ n
  pub number : (k : ℕ) → k < n → slice_index numbers k ≡ k

-- whether the number is below n and stands at one of the first places of the order
abbrev pub is_first : List ℕ → ℕ → ℕ → ℕ → Bool
is_first spots count n d = nat_lt d n && nat_lt (slice_index spots d) count
