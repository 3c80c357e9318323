-- Bits of a word, and rows of words as rows of bits, 64 in each word. Beyond its words no bit of a row is set.
use Rattle.std.specs.Prelude.{ℕ, ◌+◌, ◌/◌, ◌%◌, Bool, List, nat_eq, slice_index}
use Rattle.std.specs.Int.{bit_at}

-- whether the bit of value 2 ^ i of the word is set
abbrev pub has_bit : ℕ → ℕ → Bool
has_bit word i = nat_eq (bit_at word i) 1

-- whether the bit of the number n is set in a row of words; it isn't where there is no such word
abbrev pub is_set : List ℕ → ℕ → Bool
is_set words n = has_bit (slice_index words (n / 64)) (n % 64)

-- how many words hold one bit for each of n numbers
abbrev pub words_for : ℕ → ℕ
words_for n = (n + 63) / 64
