-- The text, number, word or role that the bytes of an element without children say.
use Rattle.std.specs.Prelude.{ℕ, ◌+◌, ◌-◌, ◌*◌, ◌==◌, ◌&&◌, Bool, true, false, if◌then◌else◌, nat_lt, nat_le, Option}
use Rattle.std.specs.Prelude.{Some, None, unwrap_or, List, [], ◌∷◌, length, codes, encode_utf8_all}
use Rattle.std.specs.List.{list_all}
use Rattle.std.specs.Str.{bytes_eq}
use Rattle.khe_base.specs.Text.{text_of}
use Rattle.khe_base.specs.declared.costs.CostFn.{CostFn}
use Rattle.khe_base.specs.declared.costs.CostFn.TheVariants.{Linear, Quadratic, Step}
use Rattle.xhstt_text.specs.Bytes.{is_white}
use Rattle.xhstt_text.specs.Unescape.{unescaped}

-- what is left after white at the front
abbrev pub without_front : List ℕ → List ℕ
without_front [] = []
without_front (b ∷ bs) = if is_white b then without_front bs else b ∷ bs

-- a byte before others, unless it is white and nothing is behind it
abbrev pub before_rest : ℕ → List ℕ → List ℕ
before_rest b [] = if is_white b then [] else b ∷ []
before_rest b (c ∷ cs) = b ∷ (c ∷ cs)

-- what is left before white at the end
abbrev pub without_back : List ℕ → List ℕ
without_back [] = []
without_back (b ∷ bs) = before_rest b (without_back bs)

-- what is left between white at both ends
abbrev pub trimmed : List ℕ → List ℕ
trimmed bytes = without_back (without_front bytes)

-- the bytes that the text of an element has in UTF-8, after references are replaced, without white
-- at their ends
unfoldable pub trimmed_text : List ℕ → List ℕ
trimmed_text value = trimmed (encode_utf8_all (unescaped value))

-- a role: a text without white at its ends
unfoldable pub role_text : List ℕ → List ℕ
role_text value = unwrap_or (text_of (trimmed_text value)) []

-- whether a text has no character
abbrev pub is_blank : List ℕ → Bool
is_blank text = length (encode_utf8_all text) == 0

abbrev pub is_digit : ℕ → Bool
is_digit c = nat_le 48 c && nat_le c 57

-- the number that digits write, after a number that was written before them
abbrev pub value_after : ℕ → List ℕ → ℕ
value_after before [] = before
value_after before (c ∷ more) = value_after (before * 10 + (c - 48)) more

-- the number that 1 to 10 digits write, where it is in this range
unfoldable pub number_between : ℕ → ℕ → List ℕ → Option ℕ
number_between least greatest bytes =
    if list_all is_digit bytes && nat_lt 0 (length bytes) && nat_le (length bytes) 10
    && nat_le least (value_after 0 bytes) && nat_le (value_after 0 bytes) greatest
    then Some (value_after 0 bytes) else None

unfoldable pub truth_of : List ℕ → Option Bool
truth_of bytes = if bytes_eq (codes "true") bytes then Some true else if bytes_eq (codes "false") bytes then Some false
    else None

unfoldable pub function_of : List ℕ → Option CostFn
function_of bytes =
    if bytes_eq (codes "Linear") bytes then Some Linear
    else if bytes_eq (codes "Quadratic") bytes then Some Quadratic
    else if bytes_eq (codes "Step") bytes then Some Step
    else None
