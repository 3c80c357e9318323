-- The entries of a solution as they are kept: the letters of all their texts in one list, the resources of all
-- entries in another, and a row for each entry.
use Rattle.std.specs.Prelude.{ℕ, ◌≡◌, ◌+◌, ◌≤◌, true, Option, List, ◌∷◌, ◌++◌, map, take, drop, length, All}
use Rattle.std.specs.Option.{option_map, option_to_list}
use Rattle.std.specs.Str.{is_utf8}
use Rattle.khe_base.specs.Text.{characters}
use Rattle.xhstt_shape.specs.declared.packed.PackedEntry.{PackedEntry}
use Rattle.xhstt_shape.specs.declared.packed.PackedGiven.{PackedGiven}
use Rattle.xhstt_shape.specs.declared.packed.PackedName.{PackedName}
use Rattle.xhstt_shape.specs.declared.packed.PackedText.{PackedText}
use Rattle.xhstt_shape.specs.declared.records.Name.{Name}
use Rattle.xhstt_shape.specs.declared.records.RawEntry.{RawEntry}
use Rattle.xhstt_shape.specs.declared.records.RawGiven.{RawGiven}
use Rattle.xhstt_shape.specs.declared.records.Ref.{Ref}

-- a list that begins as another does
pub record IsLonger {A : Type 0} (xs ys : List A) : Type 0 where
  pub more : List A
  pub is : ys ≡ xs ++ more

-- the bytes of a text, and its characters
abbrev pub bytes_at : List ℕ → PackedText → List ℕ
bytes_at letters t = take t.count (drop t.first letters)

abbrev pub text_at : List ℕ → PackedText → List ℕ
text_at letters t = characters (bytes_at letters t)

-- a reference, a role, a resource and an entry
abbrev pub reference_at : List ℕ → PackedName → Ref
reference_at letters n = record { id = text_at letters n.text; at = n.at }

abbrev pub role_at : List ℕ → PackedName → Name
role_at letters n = record { text = text_at letters n.text; at = n.at }

abbrev pub given_at : List ℕ → PackedGiven → RawGiven
given_at letters g = record {
  reference = reference_at letters g.reference;
  role = option_map (role_at letters) g.role;
}

abbrev pub givens_at : List ℕ → List PackedGiven → List RawGiven
givens_at letters givens = map (given_at letters) givens

abbrev pub entry_at : List ℕ → List PackedGiven → PackedEntry → RawEntry
entry_at letters givens e = record {
  reference = reference_at letters e.reference;
  duration = e.duration;
  time = option_map (reference_at letters) e.time;
  resources = givens_at letters (take e.count (drop e.first givens));
}

abbrev pub entries_at : List ℕ → List PackedGiven → List PackedEntry → List RawEntry
entries_at letters givens rows = map (entry_at letters givens) rows

-- a text is one of the letters
pub record IsTextIn (letters : List ℕ) (t : PackedText) : Type 0 where
  pub within : t.first + t.count ≤ length letters
  pub spelled : is_utf8 (bytes_at letters t) ≡ true

-- the text of what may be missing
abbrev pub texts_of : Option PackedName → List PackedText
texts_of o = option_to_list (option_map (λ n. n.text) o)

-- the texts of a resource, and of an entry
abbrev pub given_texts : PackedGiven → List PackedText
given_texts g = g.reference.text ∷ texts_of g.role

abbrev pub entry_texts : PackedEntry → List PackedText
entry_texts e = e.reference.text ∷ texts_of e.time

abbrev pub IsGivenIn : List ℕ → PackedGiven → Type 0
IsGivenIn letters g = All (IsTextIn letters) (given_texts g)

pub record IsEntryIn (letters : List ℕ) (givens : List PackedGiven) (e : PackedEntry) : Type 0 where
  pub texts : All (IsTextIn letters) (entry_texts e)
  pub within : e.first + e.count ≤ length givens

-- all that is kept is in form
pub record ArePacked (letters : List ℕ) (givens : List PackedGiven) (rows : List PackedEntry) : Type 0 where
  pub all_givens : All (IsGivenIn letters) givens
  pub all_rows : All (IsEntryIn letters givens) rows
