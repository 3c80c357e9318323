-- An archive has no more instances than its text has bytes.
use Rattle.std.proofs.Common.{ℕ, ◌≡◌, ◌+◌, ◌<◌, ◌≤◌, ◌^◌, Bool, true, false, Some, Ok, Err, List, ◌∷◌, ◌++◌, length, ap}
use Rattle.std.proofs.Common.{arith, length-append, if◌then◌else◌}
use Rattle.std.specs.Str.{bytes_eq}
use Rattle.std.proofs.lemmas.List.{length-map}
use Rattle.khe_base.specs.declared.limits.TheConstants.{ARCHIVE_BYTES}
use Rattle.archive_reading.specs.Steps.{IsTree}
use Rattle.xhstt_shape.specs.Faults.{Outcome}
use Rattle.xhstt_shape.specs.Shape.{judged, shape_of}
use Rattle.xhstt_shape.specs.Values.{archive, elements, every, instance, kids_of}
use Rattle.xhstt_shape.specs.Walk.{child, fault_of}
use Rattle.xhstt_shape.specs.Words.{word}
use Rattle.xhstt_shape.specs.declared.faults.ShapeFault.TheVariants.{Bad}
use Rattle.fault_tables.specs.declared.faults.TheConstants.{UNKNOWN_ELEMENT}
use Rattle.xhstt_shape.specs.declared.records.Archive.{Archive}
use Rattle.xhstt_shape.specs.declared.schema.Row.TheVariants as row
use Rattle.xhstt_shape.specs.declared.words.Tag.{Tag}
use Rattle.xhstt_shape.specs.declared.words.Tag.TheVariants as tag
use Rattle.xhstt_text.specs.Document.{Content, nothing, byte, piece, comment, short, long, text, start_text}
use Rattle.xhstt_text.specs.Document.{start_length, mark_text, declaration_text, body_text, forest_at, Spelled, root_at}
use Rattle.xhstt_text.specs.Units.{piece_text}
use Rattle.xhstt_text.specs.Forest.{Forest, empty, node}
use Rattle.xhstt_text.specs.Handles.{Standing}

-- how many elements a forest has
abbrev count : Forest → ℕ
count empty = 0
count (node i kids others) = 1 + count kids + count others

-- each element takes a byte at least
count-text : (at : ℕ) (c : Content) → count (forest_at at c) ≤ length (text c)
count-text at nothing = omega arith
count-text at (byte b c) = let rest = count-text (at + 1) c in omega (arith, rest)
count-text at (piece u c) = let rest = count-text (at + length (piece_text u)) c in
    omega (arith, rest, length-append (piece_text u) (text c))
count-text at (comment inner c) = let rest = count-text (at + 4 + length inner + 1) c in
    omega (arith, rest, length-append inner (62 ∷ text c))
count-text at (short s c) =
    let rest = count-text (at + start_length s + 2) c in
    omega (arith, rest, length-append (start_text s) (47 ∷ 62 ∷ text c))
count-text at (long s inner shut white c) =
    let inside = count-text (at + start_length s + 1) inner in
    let rest = count-text (at + start_length s + 1 + length (text inner) + 2 + length shut + length white + 1) c in
    omega (
      arith,
      inside,
      rest,
      length-append (start_text s) (62 ∷ (text inner ++ (60 ∷ 47 ∷ (shut ++ (white ++ (62 ∷ text c)))))),
      length-append (text inner) (60 ∷ 47 ∷ (shut ++ (white ++ (62 ∷ text c)))),
      length-append shut (white ++ (62 ∷ text c)),
      length-append white (62 ∷ text c),
    )

count-spelled : (bytes : List ℕ) (f : Forest) → Spelled bytes f → count f ≤ length bytes
count-spelled bytes f (d, is, same) =
    let inner = count-text (root_at d) d.body.root in
    omega (
      arith,
      inner,
      ap count same,
      ap length is.2,
      length-append (mark_text d.mark) (declaration_text d.declaration ++ body_text d.body),
      length-append (declaration_text d.declaration) (body_text d.body),
      length-append (text d.body.before) (text d.body.root ++ text d.body.after),
      length-append (text d.body.root) (text d.body.after),
    )

elements-few : (f : Forest) → length (elements f) ≤ count f
elements-few empty = omega arith
elements-few (node i kids others) = let rest = elements-few others in omega (arith, rest)

kids-few : (t : Tag) (f : Forest) → count (kids_of (child t f)) ≤ count f
kids-few t empty = omega arith
kids-few t (node i kids others) = by (bytes_eq (word t) i.name) (kids-few t others)
  where
    by : (b : Bool) → count (kids_of (child t others)) ≤ count others
        → count (kids_of (if b then Some (record { info = i; kids = kids }) else child t others)) ≤ 1 + count
        kids + count others
    by true rest = omega arith
    by false rest = omega (arith, rest)

instances-of : (e : Standing) → length (archive e).instances ≡ length (every tag.Instances e)
unfolding archive
instances-of e = length-map (every tag.Instances e) instance

every-few : (e : Standing) → length (every tag.Instances e) ≤ count e.kids
unfolding every
every-few e = let a = elements-few (kids_of (child tag.Instances e.kids)) in let b = kids-few tag.Instances e.kids in
    omega (arith, a, b)

judged-is : (o : Outcome) (e : Standing) (a : Archive) → judged o e ≡ Ok a → a ≡ archive e
judged-is (Ok x) e a is = cc
judged-is (Err fault) e a is = absurd (let g : ⊥ = cc in g)

shape-is : (b : Bool) (e : Standing) (a : Archive)
    → (if b then judged (fault_of row.Archive e) e else Err (Bad UNKNOWN_ELEMENT e.info.at)) ≡ Ok a → a ≡ archive e
shape-is true e a is = judged-is (fault_of row.Archive e) e a is
shape-is false e a is = absurd (let g : ⊥ = cc in g)

instances-few : (f : Forest) (a : Archive) → shape_of f ≡ Ok a → length a.instances ≤ count f
instances-few empty a is = absurd (let g : ⊥ = cc in g)
instances-few (node i kids others) a is =
    let e : Standing = record { info = i; kids = kids } in
    let same = shape-is (bytes_eq (word tag.HighSchoolTimetableArchive) i.name) e a is in
    let n = every-few e in
    omega (arith, ap (λ (x : Archive). length x.instances) same, instances-of e, n)

pub few : (bytes : List ℕ) (a : Archive) → IsTree bytes a → length bytes ≤ ARCHIVE_BYTES → length a.instances < 2 ^ 32
few bytes a tree small = omega (
  arith,
  instances-few tree.tree a tree.shape,
  count-spelled bytes tree.tree tree.spelled,
  small,
)
