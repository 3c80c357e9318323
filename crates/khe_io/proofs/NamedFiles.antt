-- The files of a shelf by their numbers, and the first of a name.
use Rattle.std.proofs.Common.{◌≡◌, ◌∙◌, sym, ap, refl, ℕ, zero, suc, ◌+◌, ◌-◌, ◌<◌, ◌≤◌, List, [], ◌∷◌, ◌++◌, length}
use Rattle.std.proofs.Common.{get_or, drop, take, Some, true, encode_utf8_all, arith, take-append-drop, min, ◌↔◌}
use Rattle.std.specs.Option.{option_map}
use Rattle.std.specs.Str.{bytes_eq}
use Rattle.std.proofs.lemmas.List.{drop_more, take_at, take_rest, drop-drop, length-drop, length-take-le}
use Rattle.std.proofs.lemmas.List.{nil_from_length}
use Rattle.std.proofs.lemmas.Bool.{cond-true}
use Rattle.khe_io.specs.declared.named.Named.{Named}
use Rattle.khe_io.specs.Named.{bytes_at, bytes_under}

-- the file with a number has these bytes
pub bytes_at-get_or : (files : List Named) (number : ℕ) (d : Named) → number < length files
    → bytes_at files number ≡ (get_or files number d).bytes
bytes_at-get_or [] number d within = absurd (omega arith)
bytes_at-get_or (file ∷ files) zero d within = refl
bytes_at-get_or (file ∷ files) (suc number) d within = bytes_at-get_or files number d (omega arith)

-- where the file with a number has the name, and none before it has, its bytes are those under the name
pub bytes_under-found : (files : List Named) (number : ℕ) (d : Named) (name : List ℕ)
    → number < length files → bytes_under (drop number files) name ≡ bytes_under files name
    → bytes_eq (encode_utf8_all (get_or files number d).name) name ≡ true
    → Some (bytes_at files number) ≡ bytes_under files name
bytes_under-found files number d name within same found =
    let first : drop number files ≡ get_or files number d ∷ drop (number + 1) files = drop_more files number d within in
    let here : bytes_under (get_or files number d ∷ drop (number + 1) files) name ≡ Some (get_or files number d).bytes =
    ap (option_map (λ (file : Named). file.bytes)) (cond-true _ _ _ found) in
    ap Some (bytes_at-get_or files number d within)
    ∙ sym here ∙ ap (λ (rest : List Named). bytes_under rest name) (sym first) ∙ same

-- the file that was read has the bytes at its number
pub bytes_at-read : (files : List Named) (number : ℕ) (file : Named) (bytes : List ℕ)
    → number < length files → file ≡ get_or files number file → bytes ≡ file.bytes → bytes_at files number ≡ bytes
bytes_at-read files number file bytes within read same =
    bytes_at-get_or files number file within ∙ ap (λ (one : Named). one.bytes) (sym read) ∙ sym same

-- the next bytes were copied to the front of a buffer
pub drop-copied : (bytes front buf : List ℕ) (from count : ℕ) → front ≡ take count (drop from bytes)
    → count ≤ length (drop from bytes)
    → drop from bytes ≡ take (from + count - from) (front ++ drop count buf) ++ drop (from + count) bytes
drop-copied bytes front buf from count copied fits =
    let same : from + count - from ≡ count = omega arith in
    let long : length front ≡ count = ap length copied ∙ length-take-le count (drop from bytes) fits in
    let first : take count (front ++ drop count buf) ≡ front = take_at front (drop count buf) count long in
    let rest : drop count (drop from bytes) ≡ drop (from + count) bytes = drop-drop count from bytes in
    let parts : take count (drop from bytes) ++ drop count (drop from bytes) ≡ drop from bytes =
    take-append-drop count (drop from bytes) in
    rw same (rw first (rw copied (rw (← rest) (sym parts))))

-- and the rest of the buffer is as it was
pub filled-copied : (bytes front buf : List ℕ) (from count : ℕ) → front ≡ take count (drop from bytes)
    → front ++ drop count buf
    ≡ take (from + count - from) (drop from bytes) ++ drop (from + count - from) buf
filled-copied bytes front buf from count copied =
    let same : from + count - from ≡ count = omega arith in
    rw same (ap (λ (xs : List ℕ). xs ++ drop count buf) copied)

-- how many bytes a copy takes: what is left, what fits, and what may be given at once
pub record IsCount (bytes : List ℕ) (from room most count : ℕ) : Type 0 where
  pub fitting : ℕ
  pub left : fitting ≡ min (length (take (length bytes - from) (drop from bytes))) room
  pub least : count ≡ min fitting most

pub IsCount-left : (bytes : List ℕ) (from room most count : ℕ) → IsCount bytes from room most count
    → count ≤ length (drop from bytes)
IsCount-left bytes from room most count counted =
    omega (arith, counted.left, counted.least, ap length (take_rest bytes from))

pub IsCount-from : (bytes : List ℕ) (from room most count : ℕ) → IsCount bytes from room most count
    → from ≤ length bytes → from + count ≤ length bytes
IsCount-from bytes from room most count counted placed =
    omega (arith, IsCount-left bytes from room most count counted, length-drop from bytes)

pub IsCount-exact : (bytes : List ℕ) (from room most count : ℕ) → IsCount bytes from room most count
    → from + count ≡ from + min (min (length (drop from bytes)) room) most
IsCount-exact bytes from room most count counted =
    omega (arith, counted.left, counted.least, ap length (take_rest bytes from))

-- none are taken exactly where none are left
pub IsCount-end : (bytes : List ℕ) (from room most count : ℕ) → IsCount bytes from room most count → 0 < room → 1 ≤ most
    → (from + count - from ≡ 0) ↔ (drop from bytes ≡ [])
IsCount-end bytes from room most count counted fits some = (
  λ none. nil_from_length (drop from bytes) (omega
      (arith, counted.left, counted.least, ap length (take_rest bytes from))),
  λ none. omega (arith, counted.left, counted.least, ap length (take_rest bytes from), ap length none),
)

-- the text of a file's name that was read is spelt by the name at its number
pub spelling : (file d : Named) (files : List Named) (number : ℕ) {text : List ℕ} → file ≡ get_or files number d
    → text ≡ encode_utf8_all file.name → encode_utf8_all (get_or files number d).name ≡ text
spelling file d files number read spelt = ap (λ (one : Named). encode_utf8_all one.name) (sym read) ∙ sym spelt
