-- What stands under a name in a list of named files; of two files with the same name the first counts.
use Rattle.std.specs.Prelude.{ℕ, zero, suc, ◌<◌, ◌≤◌, List, [], ◌∷◌, length, drop, find, encode_utf8_all, Option}
use Rattle.std.specs.Option.{option_map}
use Rattle.std.specs.Str.{bytes_eq}
use Rattle.khe_io.specs.declared.named.Named.{Named}
use Rattle.khe_io.specs.declared.named.Place.{Place}

-- the bytes of the first file whose name is spelt by these bytes
abbrev pub bytes_under : List Named → List ℕ → Option (List ℕ)
bytes_under files name =
    option_map (λ file. file.bytes) (find (λ file. bytes_eq (encode_utf8_all file.name) name) files)

-- the bytes of the file with this number, and none past the last file
abbrev pub bytes_at : List Named → ℕ → List ℕ
bytes_at [] number = []
bytes_at (file ∷ files) zero = file.bytes
bytes_at (file ∷ files) (suc number) = bytes_at files number

-- the bytes from a place on
abbrev pub bytes_from : List Named → Place → List ℕ
bytes_from files place = drop place.from (bytes_at files place.file)

-- a place in a file of these, or at its end
pub record IsPlaceIn (files : List Named) (place : Place) : Type 0 where
  pub file : place.file < length files
  pub from : place.from ≤ length (bytes_at files place.file)
