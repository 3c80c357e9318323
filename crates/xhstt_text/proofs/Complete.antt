-- The machine reads each document, and gives its rows.
use Rattle.std.proofs.Common.{◌≡◌, ℕ, suc, ◌+◌, ◌<◌, Bool, true, false, cond, not, ◌&&◌, eqb, leb, ltb, List, [], ◌∷◌}
use Rattle.std.proofs.Common.{◌++◌, length, set, Option, Some, None, Ok, refl, sym, ◌∙◌, ap, subst, arith, append-nil}
use Rattle.std.proofs.Common.{append_assoc, length-append, add_assoc, add-zero}
use Rattle.std.proofs.Math.Seq.{set-append_seam}
use Rattle.std.proofs.lemmas.Bool.Decides.{nat_tests}
use Rattle.std.specs.Str.{bytes_eq}
use Rattle.std.proofs.lemmas.Slice.Eq.{bytes_eq-Decides}
use Rattle.xhstt_text.specs.declared.tree.Attribute.{Attribute}
use Rattle.xhstt_text.specs.declared.tree.Node.{Node}
use Rattle.xhstt_text.specs.Bytes.{IsDeclared, declaration_start, question_after, stays_declared, IsComment, dashes}
use Rattle.xhstt_text.specs.Bytes.{dashes_after, stays_open, is_white, is_first, is_name, is_quote, IsWhite, IsGap}
use Rattle.xhstt_text.specs.Bytes.{IsName}
use Rattle.xhstt_text.specs.Document.{Value, done, plain, piece_of, value_text, IsValue, piece, Body, Mark, unmarked}
use Rattle.xhstt_text.specs.Document.{marked, Declaration, undeclared, declared, mark_text, declaration_text, body_text}
use Rattle.xhstt_text.specs.Document.{IsBody, IsDeclaration, Attributes, none, attribute, Start, Content, nothing, byte}
use Rattle.xhstt_text.specs.Document.{comment, short, long, Document, attributes_text, start_text, text, spelling}
use Rattle.xhstt_text.specs.Document.{has_name, AreAttributes, IsStart, IsContent, IsElement, IsSpace, IsDocument, span}
use Rattle.xhstt_text.specs.Document.{start_length, count, attributes_of, attribute_rows, loose_in, row, rows, table}
use Rattle.xhstt_text.specs.Machine.{in_value, in_text, in_quotes, reference, wide_1, beginning, at_declaration}
use Rattle.xhstt_text.specs.Machine.{declared_open, question, in_declaration, closed, Frame, Read, Tag, content, ended}
use Rattle.xhstt_text.specs.Machine.{Region, early, late, phase_of, bang, bang_dash, in_comment, opened, start_name}
use Rattle.xhstt_text.specs.Machine.{valued, in_tag, slash, shut_begin, shut, shut_gap, Step, state, first_loose, noted}
use Rattle.xhstt_text.specs.Machine.{resume, open_element, add_node, opened_row, closed_row, close_element}
use Rattle.xhstt_text.specs.Machine.{attribute_row, with_name, start_of, step, step_content, step_opened, step_valued}
use Rattle.xhstt_text.specs.Machine.{and_then, run, Outcome, outcome_of}
use Rattle.xhstt_text.specs.Units.{Piece, piece_text}
use Rattle.xhstt_text.specs.Reading.{is_byte}
use Rattle.xhstt_text.proofs.Pieces.{run_piece}
use Rattle.xhstt_text.proofs.Runs.{by_step, run_loop, run_white, text_from_white, white_isnt_name, white_isnt_colon}
use Rattle.xhstt_text.proofs.Runs.{text_isnt_tag, first_not_name, run_gap, run_attribute_name, run_equals, run_quote}
use Rattle.xhstt_text.proofs.Runs.{value_38, value_239, run_last_quote, with_attribute}

-- the names of these attributes, the last one first, and then those before them
abbrev names_after : List (List ℕ) → Attributes → List (List ℕ)
names_after earlier none = earlier
names_after earlier (attribute w name before after quote value more) = names_after (name ∷ earlier) more

abbrev tag_after : Tag → Attributes → Tag
tag_after t a = record t { names = names_after t.names a }

abbrev with_attributes : Read → List Attribute → Read
with_attributes r rows = record r { attributes = r.attributes ++ rows }

pub attribute_shape : (w name before after : List ℕ) (quote : ℕ) (value : Value) (more : Attributes) (rest : List ℕ)
    → attributes_text (attribute w name before after quote value more) ++ rest ≡ w
    ++ (name ++ (before ++ (61 ∷ (after ++ (quote ∷ (value_text value ++ (quote ∷ (attributes_text more ++ rest))))))))
attribute_shape w name before after quote value more rest = simp append_assoc

attribute_length : (w name before after : List ℕ) (quote : ℕ) (value : Value) (more : Attributes)
    → length (attributes_text (attribute w name before after quote value more))
    ≡ length w + length name + length before + 1 + length after + 1 + length (value_text value) + 1 + length
    (attributes_text more)
attribute_length w name before after quote value more = simp length-append (omega arith)

piece_length : (u : Piece) (v : Value) → length (value_text (piece_of u v))
    ≡ length (piece_text u) + length (value_text v)
piece_length u v = length-append (piece_text u) (value_text v)

run_value : (v : Value) (t : Tag) (place : ℕ) (name : List ℕ) (r : Read) (quote from at : ℕ) (rest : List ℕ)
    → is_quote quote ≡ true → IsValue quote v → run (in_value t place name quote from) r at (value_text v ++ rest)
    ≡ run (in_value t place name quote from) r (at + length (value_text v)) rest
run_value done t place name r quote from at rest q h =
    ap (λ n. run (in_value t place name quote from) r n rest) (sym (add-zero at))
run_value (plain b v) t place name r quote from at rest q h =
    by_step (in_value t place name quote from) r at b (value_text v ++ rest) (in_value t place name quote from) r
    (rw h.0 refl)
    ∙ run_value v t place name r quote from (at + 1) rest q h.1
    ∙ ap (λ n. run (in_value t place name quote from) r n rest) (omega arith)
run_value (piece_of u v) t place name r quote from at rest q h =
    ap (run (in_value t place name quote from) r at) (append_assoc (piece_text u) (value_text v) rest)
    ∙ run_piece (in_value t place name quote from) (in_quotes t place name quote from) r r at
    (value_38 t place name quote from r at q) (value_239 t place name quote from r at q) u (value_text v ++ rest)
    h.0
    ∙ run_value v t place name r quote from (at + length (piece_text u)) rest q h.1
    ∙ ap (λ n. run (in_value t place name quote from) r n rest) (omega (arith, piece_length u v))

run_attribute : (t : Tag) (r : Read) (at : ℕ) (w name before after : List ℕ) (quote : ℕ) (v : Value) (rest : List ℕ)
    → IsGap w → IsName name → has_name name t.names ≡ false → IsWhite before → IsWhite after → is_quote quote ≡ true
    → IsValue quote v →
    let from = at + length w in
    let opened = from + length name + length before + 1 + length after + 1 in
    run (valued t) r at (w ++ (name ++ (before ++ (61 ∷ (after ++ (quote ∷ (value_text v ++ (quote ∷ rest))))))))
    ≡ run (valued (with_name t name)) (with_attribute r
    (attribute_row from name opened (opened + length (value_text v)))) (opened + length (value_text v) + 1) rest
run_attribute t r at w name before after quote v rest h0 h1 h2 h3 h4 h5 h6 =
    let from : ℕ = at + length w in
    let named_to : ℕ = from + length name in
    let equal_to : ℕ = named_to + length before + 1 in
    run_gap t r w at _ h0
    ∙ run_attribute_name t r name from _ h1
    ∙ run_equals t from name r before named_to _ h2 h3
    ∙ run_quote t from name r after quote equal_to _ h4 h5
    ∙ run_value v t from name r quote (equal_to + length after + 1) (equal_to + length after + 1) (quote ∷ rest) h5 h6
    ∙ run_last_quote t from name r quote (equal_to + length after + 1)
    (equal_to + length after + 1 + length (value_text v)) rest

run_attributes : (a : Attributes) (t : Tag) (r : Read) (at : ℕ) (rest : List ℕ) → AreAttributes t.names a
    → run (valued t) r at (attributes_text a ++ rest)
    ≡ run (valued (tag_after t a)) (with_attributes r (attributes_of at a)) (at + length (attributes_text a)) rest
run_attributes none t r at rest h = simp (append-nil, add-zero)
run_attributes (attribute w name before after quote v more) t r at rest h =
    let from : ℕ = at + length w in
    let opened : ℕ = from + length name + length before + 1 + length after + 1 in
    let a : Attribute = attribute_row from name opened (opened + length (value_text v)) in
    ap (run (valued t) r at) (attribute_shape w name before after quote v more rest)
    ∙ run_attribute t r at w name before after quote v (attributes_text more ++ rest) h.0 h.1 h.2 h.3 h.4 h.5 h.6
    ∙ run_attributes more (with_name t name) (with_attribute r a) (opened + length (value_text v) + 1) rest h.7
    ∙ ap (λ (x : List Attribute). run (valued (tag_after (with_name t name) more)) (record r { attributes = x })
    (opened + length (value_text v) + 1 + length (attributes_text more)) rest)
    (append_assoc r.attributes (a ∷ []) (attributes_of (opened + length (value_text v) + 1) more))
    ∙ ap (λ n. run (valued (tag_after (with_name t name) more))
    (with_attributes r (a ∷ attributes_of (opened + length (value_text v) + 1) more)) n rest)
    (omega (arith, attribute_length w name before after quote v more))

length_attributes : (a : Attributes) (at : ℕ) → length (attributes_of at a) ≡ count a
length_attributes none at = refl
length_attributes (attribute w name before after quote v more) at = ap suc (length_attributes more _)

-- the white before the end of a start tag changes nothing
run_end_white : (t : Tag) (r : Read) (w : List ℕ) (at b : ℕ) (rest : List ℕ) → is_first b ≡ false → IsWhite w
    → run (valued t) r at (w ++ (b ∷ rest)) ≡ run (valued t) r (at + length w) (b ∷ rest)
run_end_white t r [] at b rest e h = ap (λ n. run (valued t) r n (b ∷ rest)) (omega arith)
run_end_white t r (c ∷ w) at b rest e h =
    run_gap t r (c ∷ w) at (b ∷ rest) h
    ∙ ap (λ (x : Step). and_then x (λ s. run s.phase s.read (at + length (c ∷ w) + 1) rest))
    (let e1 : step (in_tag t) r (at + length (c ∷ w)) b ≡ step_valued t r (at + length (c ∷ w)) b = rw e refl in e1)

abbrev begins : (ℕ → Bool) → List ℕ → Bool
begins test [] = false
begins test (b ∷ bs) = test b

-- the name of a start tag ends before such bytes
run_name_end : (place : ℕ) (name : List ℕ) (r : Read) (at : ℕ) (bs : List ℕ) → begins is_name bs ≡ false
    → begins (is_byte 58) bs ≡ false → run (start_name place name) r at bs
    ≡ run (valued (start_of place name r)) r at bs
run_name_end place name r at [] e c = refl
run_name_end place name r at (b ∷ bs) e c =
    ap (λ (x : Step). and_then x (λ s. run s.phase s.read (at + 1) bs))
    (let e1 : step (start_name place name) r at b ≡ step_valued (start_of place name r) r at b = rw (e, c) refl in
    e1)

-- what no white passes does fails stand after the name of a start tag
ends_name : (test : ℕ → Bool) → ((c : ℕ) → is_white c ≡ true → test c ≡ false)
    → (a : Attributes) (w : List ℕ) (b : ℕ) (rest : List ℕ) (earlier : List (List ℕ)) → AreAttributes earlier a
    → IsWhite w → test b ≡ false → begins test (attributes_text a ++ (w ++ (b ∷ rest))) ≡ false
ends_name test fails none [] b rest earlier h k e = e
ends_name test fails none (c ∷ w) b rest earlier h k e = fails c k.0
ends_name test fails (attribute [] name before after quote v more) w b rest earlier h k e = absurd h.0
ends_name test fails (attribute (c ∷ g) name before after quote v more) w b rest earlier h k e = fails c h.0.0

begins_tag : (frames : List Frame) (r : Read) (at : ℕ) → step_content frames r at 60 ≡ state (opened at) r
begins_tag [] r at = refl
begins_tag (f ∷ fs) r at = refl

pub begins_name : (frames : List Frame) (place : ℕ) (r : Read) (at b : ℕ) → length frames < 32 → is_first b ≡ true
    → step_opened frames place r at b ≡ state (start_name place (b ∷ [])) r
begins_name [] place r at b h e = rw e refl
begins_name (f ∷ fs) place r at b h e = let d : ltb (length (f ∷ fs)) 32 ≡ true = grind (arith, nat_tests) in
    rw (e, d) refl

-- over `<` and a name
run_tag_name : (r : Read) (at : ℕ) (name rest : List ℕ) → length r.frames < 32 → IsName name
    → run content r at (60 ∷ (name ++ rest)) ≡ run (start_name at name) r (at + 1 + length name) rest
run_tag_name r at [] rest h k = absurd k
run_tag_name r at (b ∷ w) rest h k =
    by_step content r at 60 (b ∷ (w ++ rest)) (opened at) r (begins_tag r.frames r at)
    ∙ by_step (opened at) r (at + 1) b (w ++ rest) (start_name at (b ∷ [])) r
    (begins_name r.frames at r (at + 1) b h k.0)
    ∙ run_loop is_name (start_name at) r (λ done i c q. rw q refl) w (b ∷ []) (at + 1 + 1) rest k.1
    ∙ ap (λ n. run (start_name at (b ∷ w)) r n rest) (omega arith)

-- the tag after its attributes
abbrev tag_of : Start → ℕ → Read → Tag
tag_of s at r = record { at = at; name = s.name; first = length r.attributes; names = names_after [] s.attributes }

abbrev read_after : Start → ℕ → Read → Read
read_after s at r = with_attributes r (attributes_of (at + 1 + length s.name) s.attributes)

pub start_shape : (s : Start) (rest : List ℕ)
    → start_text s ++ rest ≡ 60 ∷ (s.name ++ (attributes_text s.attributes ++ (s.white ++ rest)))
start_shape s rest = simp append_assoc

start_is : (s : Start) → start_length s ≡ 1 + length s.name + length (attributes_text s.attributes) + length s.white
start_is s = simp length-append (omega arith)

run_start : (s : Start) (r : Read) (at b : ℕ) (rest : List ℕ) → is_name b ≡ false → eqb b 58 ≡ false
    → length r.frames < 32 → IsStart s → run content r at (start_text s ++ (b ∷ rest))
    ≡ run (valued (tag_of s at r)) (read_after s at r) (at + start_length s) (b ∷ rest)
run_start s r at b rest e c d h =
    ap (run content r at) (start_shape s (b ∷ rest))
    ∙ run_tag_name r at s.name (attributes_text s.attributes ++ (s.white ++ (b ∷ rest))) d h.0
    ∙ run_name_end at s.name r (at + 1 + length s.name) (attributes_text s.attributes ++ (s.white ++ (b ∷ rest)))
    (ends_name is_name white_isnt_name s.attributes s.white b rest [] h.1 h.2 e)
    (ends_name (is_byte 58) white_isnt_colon s.attributes s.white b rest [] h.1 h.2 c)
    ∙ run_attributes s.attributes (start_of at s.name r) r (at + 1 + length s.name) (s.white ++ (b ∷ rest)) h.1
    ∙ run_end_white (tag_of s at r) (read_after s at r) s.white
    (at + 1 + length s.name + length (attributes_text s.attributes)) b rest (first_not_name b e) h.2
    ∙ ap (λ n. run (valued (tag_of s at r)) (read_after s at r) n (b ∷ rest)) (omega (arith, start_is s))

row_is : (s : Start) (r : Read) (at from : ℕ)
    → opened_row (tag_of s at r) (read_after s at r) from
    ≡ row at s (length r.attributes) (length r.nodes + 1) (span from from) None
row_is s r at from =
    let e : length (r.attributes ++ attributes_of (at + 1 + length s.name) s.attributes)
    ≡ length r.attributes + count s.attributes = simp length-append
    (ap (λ n. length r.attributes + n) (length_attributes s.attributes (at + 1 + length s.name))) in
    rw e refl

-- what is known after an element without content, where n elements and attributes came before
abbrev after_short : Start → Read → ℕ → ℕ → ℕ → Read
after_short s r at number first = let to = at + start_length s + 2 in record {
  frames = r.frames;
  nodes = r.nodes ++ row at s first (number + 1) (span to to) None ∷ [];
  attributes = r.attributes ++ attributes_of (at + 1 + length s.name) s.attributes;
}

numbers : (P : ℕ → ℕ → Type 0) (n m : ℕ) {k l : ℕ} → k ≡ n → l ≡ m → P n m → P k l
numbers P n m {k} {l} e d p = subst (λ x. P x l) (sym e) (subst (P n) (sym d) p)

run_short : (s : Start) (r : Read) (at number first : ℕ) (rest : List ℕ) → number ≡ length r.nodes
    → first ≡ length r.attributes → length r.frames < 32 → IsStart s
    → run content r at (start_text s ++ (47 ∷ 62 ∷ rest))
    ≡ run (resume r.frames) (after_short s r at number first) (at + start_length s + 2) rest
run_short s r at number first rest e1 e2 d h =
    let t : Tag = tag_of s at r in
    let q : Read = read_after s at r in
    let i : ℕ = at + start_length s in
    numbers (λ n m. run content r at (start_text s ++ (47 ∷ 62 ∷ rest))
    ≡ run (resume r.frames) (after_short s r at n m) (at + start_length s + 2) rest) (length r.nodes)
    (length r.attributes) e1 e2 (
    run_start s r at 47 (62 ∷ rest) refl refl d h
    ∙ by_step (valued t) q i 47 (62 ∷ rest) (slash t) q refl
    ∙ by_step (slash t) q (i + 1) 62 rest (resume r.frames) (add_node q (opened_row t q (i + 1 + 1))) refl
    ∙ ap (λ (x : Node). run (resume r.frames) (add_node q x) (i + 1 + 1) rest) (row_is s r at (i + 1 + 1))
    ∙ ap (λ n. run (resume r.frames) (add_node q (row at s (length r.attributes)
    (length r.nodes + 1) (span n n) None)) n rest) (add_assoc i 1 1))

-- the end tag
begins_end : (f : Frame) (fs : List Frame) (nodes : List Node) (attributes : List Attribute) (at : ℕ) (rest : List ℕ)
    → run content (record { frames = f ∷ fs; nodes = nodes; attributes = attributes }) at (60 ∷ 47 ∷ rest)
    ≡ run (shut_begin at) (record { frames = f ∷ fs; nodes = nodes; attributes = attributes }) (at + 1 + 1) rest
begins_end f fs nodes attributes at rest = refl

pub run_shut_name : (r : Read) (place at : ℕ) (name rest : List ℕ) → IsName name
    → run (shut_begin place) r at (name ++ rest) ≡ run (shut place name) r (at + length name) rest
run_shut_name r place at [] rest h = absurd h
run_shut_name r place at (b ∷ w) rest h =
    by_step (shut_begin place) r at b (w ++ rest) (shut place (b ∷ [])) r (rw h.0 refl)
    ∙ run_loop is_name (shut place) r (λ done i c q. rw q refl) w (b ∷ []) (at + 1) rest h.1
    ∙ ap (λ n. run (shut place (b ∷ w)) r n rest) (omega arith)

abbrev read_of : List Frame → List Node → List Attribute → Read
read_of frames nodes attributes = record { frames = frames; nodes = nodes; attributes = attributes }

run_shut_end : (f : Frame) (fs : List Frame) (nodes : List Node) (attributes : List Attribute) (place : ℕ)
    (name w : List ℕ) (at : ℕ) (rest : List ℕ) → bytes_eq name f.name ≡ true → IsWhite w
    → run (shut place name) (read_of (f ∷ fs) nodes attributes) at (w ++ (62 ∷ rest))
    ≡ run (resume fs) (close_element f fs (read_of (f ∷ fs) nodes attributes) place) (at + length w + 1) rest
run_shut_end f fs nodes attributes place name [] at rest e h =
    let r : Read = read_of (f ∷ fs) nodes attributes in
    by_step (shut place name) r at 62 rest (resume fs) (close_element f fs r place) (rw e refl)
    ∙ ap (λ n. run (resume fs) (close_element f fs r place) n rest) (omega arith)
run_shut_end f fs nodes attributes place name (b ∷ w) at rest e h =
    let r : Read = read_of (f ∷ fs) nodes attributes in
    by_step (shut place name) r at b (w ++ (62 ∷ rest)) (shut_gap place name) r
    (rw (white_isnt_name b h.0, white_isnt_colon b h.0, h.0) refl)
    ∙ run_white (shut_gap place name) r (λ at b q. rw q refl) w (at + 1) (62 ∷ rest) h.1
    ∙ by_step (shut_gap place name) r (at + 1 + length w) 62 rest (resume fs) (close_element f fs r place) (rw e refl)
    ∙ ap (λ n. run (resume fs) (close_element f fs r place) n rest) (omega arith)

run_shut : (f : Frame) (fs : List Frame) (nodes : List Node) (attributes : List Attribute) (at : ℕ)
    (name w rest : List ℕ) → IsName name → bytes_eq name f.name ≡ true → IsWhite w
    → run content (read_of (f ∷ fs) nodes attributes) at (60 ∷ 47 ∷ (name ++ (w ++ (62 ∷ rest))))
    ≡ run (resume fs) (close_element f fs (read_of (f ∷ fs) nodes attributes) at) (at + 2 + length name + length w + 1)
    rest
run_shut f fs nodes attributes at name w rest n e h =
    let r : Read = read_of (f ∷ fs) nodes attributes in
    begins_end f fs nodes attributes at (name ++ (w ++ (62 ∷ rest)))
    ∙ run_shut_name r at (at + 1 + 1) name (w ++ (62 ∷ rest)) n
    ∙ run_shut_end f fs nodes attributes at name w (at + 1 + 1 + length name) rest e h
    ∙ ap (λ n. run (resume fs) (close_element f fs r at) n rest) (omega arith)

abbrev or_else : Option ℕ → Option ℕ → Option ℕ
or_else (Some place) other = Some place
or_else None other = other

-- an open element whose direct text goes on with this loose text
abbrev with_loose : Frame → Option ℕ → Frame
with_loose f o = record f { node = record f.node { loose = or_else f.node.loose o } }

no_more_loose : (o : Option ℕ) → or_else o None ≡ o
no_more_loose (Some place) = refl
no_more_loose None = refl

more_loose : (o : Option ℕ) (at b : ℕ) (later : Option ℕ)
    → or_else (first_loose o at b) later ≡ or_else o (cond (is_white b) later (Some at))
more_loose (Some place) at b later = refl
more_loose None at b later = elim (is_white b) as (λ v. or_else (cond v None (Some at)) later ≡ cond v later (Some at))
    [ true ↦ refl | false ↦ refl ]

close_rows : (nodes inside : List Node) (x y : Node)
    → set ((nodes ++ x ∷ []) ++ inside) (length nodes) y ≡ nodes ++ y ∷ inside
close_rows nodes inside x y = ap (λ (l : List Node). set l (length nodes) y) (append_assoc nodes (x ∷ []) inside)
    ∙ set-append_seam nodes x inside y

-- the machine goes over this content, inside an element
abbrev RunsOver : Content → Type 0
RunsOver c = (f : Frame) (fs : List Frame) (nodes : List Node) (attributes : List Attribute) (at number first : ℕ)
    (rest : List ℕ) → number ≡ length nodes → first ≡ length attributes → IsContent (length (f ∷ fs)) c
    → run content (read_of (f ∷ fs) nodes attributes) at (text c ++ rest)
    ≡ run content (read_of (with_loose f (loose_in at c) ∷ fs) (nodes ++ rows number first at c)
    (attributes ++ attribute_rows at c)) (at + length (text c)) rest

-- what is known after an element with content
abbrev after_long : Start → Content → Read → ℕ → ℕ → ℕ → Read
after_long s inner r at number first =
    let from = at + start_length s + 1 in
    let inside = rows (number + 1) (first + count s.attributes) from inner in
    let to = from + length (text inner) in
    record {
      frames = r.frames;
      nodes = r.nodes ++ row at s first (number + 1 + length inside) (span from to)
          (loose_in from inner) ∷ inside;
      attributes = r.attributes ++ (attributes_of (at + 1 + length s.name) s.attributes ++ attribute_rows from inner);
    }

-- the frame of an element that was opened
abbrev frame_of : Start → Read → ℕ → Frame
frame_of s r at = record {
  number = length r.nodes;
  name = s.name;
  node =
      opened_row (tag_of s at r) (read_after s at r) (at + start_length s + 1);
}

closed_is : (s : Start) (r : Read) (at to last : ℕ) (loose : Option ℕ)
    → closed_row (with_loose (frame_of s r at) loose).node to last
    ≡ row at s (length r.attributes) last (span (at + start_length s + 1) to) loose
closed_is s r at to last loose = ap (λ (x : Node). record x
    { end = last; value = span (at + start_length s + 1) to; loose = loose }) (row_is s r at (at + start_length s + 1))

after_long_is : (s : Start) (inner : Content) (r : Read) (at : ℕ) →
    let from = at + start_length s + 1 in
    let inside = rows (length r.nodes + 1) (length r.attributes + count s.attributes) from
    inner in
    let f = frame_of s r at in
    close_element (with_loose f (loose_in from inner)) r.frames
    (read_of (with_loose f (loose_in from inner) ∷ r.frames) ((r.nodes ++ f.node ∷ []) ++ inside)
    ((r.attributes ++ attributes_of (at + 1 + length s.name) s.attributes) ++ attribute_rows from inner))
    (from + length (text inner)) ≡ after_long s inner r at (length r.nodes) (length r.attributes)
after_long_is s inner r at =
    let from : ℕ = at + start_length s + 1 in
    let inside : List Node = rows (length r.nodes + 1)
    (length r.attributes + count s.attributes) from inner in
    let f : Frame = frame_of s r at in
    let loose : Option ℕ = loose_in from inner in
    let to : ℕ = from + length (text inner) in
    let last : ℕ = length r.nodes + 1 + length inside in
    let last_is : length ((r.nodes ++ f.node ∷ []) ++ inside) ≡ last = simp length-append (omega arith) in
    let nodes_are : set ((r.nodes ++ f.node ∷ []) ++ inside) (length r.nodes)
    (closed_row (with_loose f loose).node to (length ((r.nodes ++ f.node ∷ []) ++ inside))) ≡ r.nodes
    ++ row at s (length r.attributes) last (span from to) loose ∷ inside =
    close_rows r.nodes inside f.node (closed_row (with_loose f loose).node to
    (length ((r.nodes ++ f.node ∷ []) ++ inside)))
    ∙ ap (λ n. r.nodes ++ closed_row (with_loose f loose).node to n ∷ inside) last_is
    ∙ ap (λ (x : Node). r.nodes ++ x ∷ inside) (closed_is s r at to last loose) in
    ap (λ (x : List Node). read_of r.frames x ((r.attributes ++ attributes_of (at + 1 + length s.name) s.attributes)
    ++ attribute_rows from inner)) nodes_are
    ∙ ap (λ (x : List Attribute). read_of r.frames
    (r.nodes ++ row at s (length r.attributes) last (span from to) loose ∷ inside) x)
    (append_assoc r.attributes (attributes_of (at + 1 + length s.name) s.attributes) (attribute_rows from inner))

run_long : (s : Start) (inner : Content) (name w : List ℕ) (r : Read) (at number first : ℕ) (rest : List ℕ)
    → RunsOver inner → number ≡ length r.nodes → first ≡ length r.attributes → length r.frames < 32 → IsStart s
    → IsContent (suc (length r.frames)) inner → name ≡ s.name → IsWhite w
    → run content r at (start_text s ++ (62 ∷ (text inner ++ (60 ∷ 47 ∷ (name ++ (w ++ (62 ∷ rest)))))))
    ≡ run (resume r.frames) (after_long s inner r at number first)
    (at + start_length s + 1 + length (text inner) + 2 + length name + length w + 1) rest
run_long s inner name w r at number first rest over e1 e2 d h ih same hw =
    let t : Tag = tag_of s at r in
    let q : Read = read_after s at r in
    let i : ℕ = at + start_length s in
    let f : Frame = frame_of s r at in
    let to : ℕ = i + 1 + length (text inner) in
    let rest1 : List ℕ = 60 ∷ 47 ∷ (name ++ (w ++ (62 ∷ rest))) in
    let more : length (r.nodes ++ f.node ∷ []) ≡ length r.nodes + 1 = simp length-append in
    let more_attributes : length q.attributes ≡ length r.attributes + count s.attributes =
    simp length-append (ap (λ n. length r.attributes + n)
    (length_attributes s.attributes (at + 1 + length s.name))) in
    let inside : List Node = rows (length r.nodes + 1)
    (length r.attributes + count s.attributes) (i + 1) inner in
    let g : Frame = with_loose f (loose_in (i + 1) inner) in
    let ends : ℕ = to + 2 + length name + length w + 1 in
    let is_name : IsName name = subst (λ (x : List ℕ). IsName x) (sym same) h.0 in
    let is_same : bytes_eq name s.name ≡ true = (bytes_eq-Decides name s.name).1 same in
    numbers (λ n m. run content r at (start_text s ++ (62 ∷ (text inner ++ rest1)))
    ≡ run (resume r.frames) (after_long s inner r at n m) ends rest) (length r.nodes) (length r.attributes) e1 e2 (
    run_start s r at 62 (text inner ++ rest1) refl refl d h
    ∙ by_step (valued t) q i 62 (text inner ++ rest1) content (open_element t q (i + 1)) refl
    ∙ over f r.frames (r.nodes ++ f.node ∷ []) q.attributes (i + 1) (length r.nodes + 1)
    (length r.attributes + count s.attributes) rest1 (sym more) (sym more_attributes) ih
    ∙ run_shut g r.frames ((r.nodes ++ f.node ∷ []) ++ inside) (q.attributes ++ attribute_rows (i + 1) inner) to name w
    rest is_name is_same hw
    ∙ ap (λ (x : Read). run (resume r.frames) x ends rest) (after_long_is s inner r at))

short_length : (s : Start) (c : Content) → length (text (short s c)) ≡ start_length s + 2 + length (text c)
short_length s c = simp length-append (omega arith)

long_length : (s : Start) (inner : Content) (name w : List ℕ) (c : Content)
    → length (text (long s inner name w c)) ≡ start_length s + 1 + length (text inner) + 2 + length name + length
    w + 1 + length (text c)
long_length s inner name w c = simp length-append (omega arith)

pub long_shape : (s : Start) (inner : Content) (name w : List ℕ) (c : Content) (rest : List ℕ)
    → text (long s inner name w c) ++ rest ≡ start_text s
    ++ (62 ∷ (text inner ++ (60 ∷ 47 ∷ (name ++ (w ++ (62 ∷ (text c ++ rest)))))))
long_shape s inner name w c rest = simp append_assoc

both : (x y : Bool) → (not x && y) ≡ true → (x ≡ false) × (y ≡ true)
both true y h = cc
both false y h = (refl, h)

-- inside a comment
run_inner : (back : Region) (r : Read) (inner : List ℕ) (count at : ℕ) (rest : List ℕ) → stays_open count inner ≡ true
    → run (in_comment back count) r at (inner ++ rest)
    ≡ run (in_comment back (dashes_after count inner)) r (at + length inner) rest
run_inner back r [] count at rest h = ap (λ n. run (in_comment back count) r n rest) (sym (add-zero at))
run_inner back r (b ∷ inner) count at rest h =
    let k = both (leb 2 count && eqb b 62) (stays_open (dashes count b) inner) h in
    by_step (in_comment back count) r at b (inner ++ rest) (in_comment back (dashes count b)) r (rw k.0 refl)
    ∙ run_inner back r inner (dashes count b) (at + 1) rest k.1
    ∙ ap (λ n. run (in_comment back (dashes_after count (b ∷ inner))) r n rest) (omega arith)

pub run_comment : (place : ℕ) (back : Region) (r : Read) (inner : List ℕ) (at : ℕ) (rest : List ℕ) → IsComment inner
    → run (bang place back) r at (45 ∷ 45 ∷ (inner ++ (62 ∷ rest)))
    ≡ run (phase_of back) r (at + 2 + length inner + 1) rest
run_comment place back r inner at rest h =
    let count : ℕ = dashes_after 0 inner in
    let closes : leb 2 count ≡ true = grind (arith, nat_tests, h.1) in
    by_step (bang place back) r at 45 (45 ∷ (inner ++ (62 ∷ rest))) (bang_dash back) r refl
    ∙ by_step (bang_dash back) r (at + 1) 45 (inner ++ (62 ∷ rest)) (in_comment back 0) r refl
    ∙ run_inner back r inner 0 (at + 1 + 1) (62 ∷ rest) h.0
    ∙ by_step (in_comment back count) r (at + 1 + 1 + length inner) 62 rest (phase_of back) r (rw closes refl)
    ∙ ap (λ n. run (phase_of back) r n rest) (omega arith)

comment_shape : (inner : List ℕ) (c : Content) (rest : List ℕ)
    → text (comment inner c) ++ rest ≡ 60 ∷ 33 ∷ 45 ∷ 45 ∷ (inner ++ (62 ∷ (text c ++ rest)))
comment_shape inner c rest = ap (λ x. 60 ∷ 33 ∷ 45 ∷ 45 ∷ x) (append_assoc inner (62 ∷ text c) rest)

comment_length : (inner : List ℕ) (c : Content)
    → length (text (comment inner c)) ≡ 4 + length inner + 1 + length (text c)
comment_length inner c = simp length-append (omega arith)

loose_at : (o : Option ℕ) (at b : ℕ) → is_white b ≡ false → first_loose o at b ≡ or_else o (Some at)
loose_at (Some place) at b h = refl
loose_at None at b h = rw h refl

loose_stays : (o : Option ℕ) (at : ℕ) (later : Option ℕ) → or_else (or_else o (Some at)) later ≡ or_else o (Some at)
loose_stays (Some place) at later = refl
loose_stays None at later = refl

run_content : (c : Content) → RunsOver c
run_content nothing f fs nodes attributes at number first rest e1 e2 h =
    ap (λ (o : Option ℕ). run content (read_of (record f { node = record f.node { loose = o } } ∷ fs) nodes attributes)
    at rest) (sym (no_more_loose f.node.loose))
    ∙ ap (λ (x : List Node). run content (read_of (with_loose f None ∷ fs) x attributes) at rest)
    (sym (append-nil nodes))
    ∙ ap (λ (x : List Attribute). run content (read_of (with_loose f None ∷ fs) (nodes ++ []) x) at rest)
    (sym (append-nil attributes))
    ∙ ap (λ n. run content (read_of (with_loose f None ∷ fs) (nodes ++ []) (attributes ++ [])) n rest)
    (sym (add-zero at))
run_content (byte b c) f fs nodes attributes at number first rest e1 e2 h =
    by_step content (read_of (f ∷ fs) nodes attributes) at b (text c ++ rest) content
    (read_of (noted f at b ∷ fs) nodes attributes) (rw (h.0, text_isnt_tag b h.0) refl)
    ∙ run_content c (noted f at b) fs nodes attributes (at + 1) number first rest e1 e2 h.1
    ∙ ap (λ (o : Option ℕ). run content (read_of (record f { node = record f.node { loose = o } } ∷ fs)
    (nodes ++ rows number first (at + 1) c) (attributes ++ attribute_rows (at + 1) c))
    (at + 1 + length (text c)) rest) (more_loose f.node.loose at b (loose_in (at + 1) c))
    ∙ ap (λ n. run content (read_of (with_loose f (loose_in at (byte b c)) ∷ fs)
    (nodes ++ rows number first (at + 1) c) (attributes ++ attribute_rows (at + 1) c)) n rest)
    (omega arith)
run_content (piece u c) f fs nodes attributes at number first rest e1 e2 h =
    let r : Read = read_of (f ∷ fs) nodes attributes in
    let g : Frame = with_loose f (Some at) in
    let to : ℕ = at + length (piece_text u) in
    ap (run content r at) (append_assoc (piece_text u) (text c) rest)
    ∙ run_piece content in_text r (read_of (g ∷ fs) nodes attributes) at
    (ap (λ (o : Option ℕ). state (reference at in_text)
    (read_of (record f { node = record f.node { loose = o } } ∷ fs) nodes attributes))
    (loose_at f.node.loose at 38 refl))
    (ap (λ (o : Option ℕ). state (wide_1 in_text)
    (read_of (record f { node = record f.node { loose = o } } ∷ fs) nodes attributes))
    (loose_at f.node.loose at 239 refl)) u (text c ++ rest) h.0
    ∙ run_content c g fs nodes attributes to number first rest e1 e2 h.1
    ∙ ap (λ (o : Option ℕ). run content (read_of (record f { node = record f.node { loose = o } } ∷ fs)
    (nodes ++ rows number first to c) (attributes ++ attribute_rows to c)) (to + length (text c))
    rest) (loose_stays f.node.loose at (loose_in to c))
    ∙ ap (λ n. run content (read_of (g ∷ fs) (nodes ++ rows number first to c)
    (attributes ++ attribute_rows to c)) n rest) (omega (arith, length-append (piece_text u) (text c)))
run_content (comment inner c) f fs nodes attributes at number first rest e1 e2 h =
    let r : Read = read_of (f ∷ fs) nodes attributes in
    let to : ℕ = at + 4 + length inner + 1 in
    ap (run content r at) (comment_shape inner c rest)
    ∙ run_comment at early r inner (at + 1 + 1) (text c ++ rest) h.0
    ∙ ap (λ n. run content r n (text c ++ rest)) (let e : at + 1 + 1 + 2 + length inner + 1 ≡ to = omega arith in e)
    ∙ run_content c f fs nodes attributes to number first rest e1 e2 h.1
    ∙ ap (λ n. run content (read_of (with_loose f (loose_in to c) ∷ fs)
    (nodes ++ rows number first to c) (attributes ++ attribute_rows to c)) n rest)
    (omega (arith, comment_length inner c))
run_content (short s c) f fs nodes attributes at number first rest e1 e2 h =
    let r : Read = read_of (f ∷ fs) nodes attributes in
    let to : ℕ = at + start_length s + 2 in
    let x : Node = row at s first (number + 1) (span to to) None in
    let ours : List Attribute = attributes_of (at + 1 + length s.name) s.attributes in
    let e3 : number + 1 ≡ length (nodes ++ x ∷ []) = simp length-append (omega arith) in
    let e4 : first + count s.attributes ≡ length (attributes ++ ours) =
    simp length-append (omega (arith, length_attributes s.attributes (at + 1 + length s.name))) in
    let g : Frame = with_loose f (loose_in to c) in
    ap (run content r at) (append_assoc (start_text s) (47 ∷ 62 ∷ text c) rest)
    ∙ run_short s r at number first (text c ++ rest) e1 e2 h.0 h.1
    ∙ run_content c f fs (nodes ++ x ∷ []) (attributes ++ ours) to (number + 1) (first + count s.attributes) rest e3 e4
    h.2
    ∙ ap (λ (l : List Node). run content (read_of (g ∷ fs) l ((attributes ++ ours) ++ attribute_rows to c))
    (to + length (text c)) rest) (append_assoc nodes (x ∷ [])
    (rows (number + 1) (first + count s.attributes) to c))
    ∙ ap (λ (l : List Attribute). run content (read_of (g ∷ fs)
    (nodes ++ rows number first at (short s c)) l) (to + length (text c)) rest)
    (append_assoc attributes ours (attribute_rows to c))
    ∙ ap (λ n. run content (read_of (g ∷ fs) (nodes ++ rows number first at (short s c))
    (attributes ++ attribute_rows at (short s c))) n rest) (omega (arith, short_length s c))
run_content (long s inner name w c) f fs nodes attributes at number first rest e1 e2 h =
    let r : Read = read_of (f ∷ fs) nodes attributes in
    let from : ℕ = at + start_length s + 1 in
    let to : ℕ = from + length (text inner) in
    let ends : ℕ = to + 2 + length name + length w + 1 in
    let inside : List Node = rows (number + 1) (first + count s.attributes) from inner in
    let x : Node = row at s first (number + 1 + length inside) (span from to) (loose_in from inner) in
    let ours : List Attribute = attributes_of (at + 1 + length s.name) s.attributes ++ attribute_rows from inner in
    let last : ℕ = number + 1 + length inside in
    let last_attribute : ℕ = first + count s.attributes + length (attribute_rows from inner) in
    let e3 : last ≡ length (nodes ++ x ∷ inside) = simp length-append (omega arith) in
    let e4 : last_attribute ≡ length (attributes ++ ours) =
    simp length-append (omega (arith, length_attributes s.attributes (at + 1 + length s.name))) in
    let g : Frame = with_loose f (loose_in ends c) in
    ap (run content r at) (long_shape s inner name w c rest)
    ∙ run_long s inner name w r at number first (text c ++ rest) (run_content inner) e1 e2 h.0 h.1 h.2 h.3 h.4
    ∙ run_content c f fs (nodes ++ x ∷ inside) (attributes ++ ours) ends last last_attribute rest e3 e4 h.5
    ∙ ap (λ (l : List Node). run content (read_of (g ∷ fs) l ((attributes ++ ours) ++ attribute_rows ends c))
    (ends + length (text c)) rest) (append_assoc nodes (x ∷ inside)
    (rows last last_attribute ends c))
    ∙ ap (λ (l : List Attribute). run content (read_of (g ∷ fs)
    (nodes ++ rows number first at (long s inner name w c)) l) (ends + length (text c)) rest)
    (append_assoc attributes ours (attribute_rows ends c)
    ∙ ap (λ (l : List Attribute). attributes ++ l)
    (append_assoc (attributes_of (at + 1 + length s.name) s.attributes) (attribute_rows from inner)
    (attribute_rows ends c)))
    ∙ ap (λ n. run content (read_of (g ∷ fs) (nodes ++ rows number first at (long s inner name w c))
    (attributes ++ attribute_rows at (long s inner name w c))) n rest) (omega (arith, long_length s inner name w c))

pub white_isnt_tag : (b : ℕ) → is_white b ≡ true → eqb b 60 ≡ false
white_isnt_tag b h = text_isnt_tag b (text_from_white b h)

-- white and comments
run_space : (place : Region) (r : Read) → let p = phase_of place in
    ((at b : ℕ) → is_white b ≡ true → step p r at b ≡ state p r)
    → ((at : ℕ) (rest : List ℕ) → run p r at (60 ∷ 33 ∷ rest) ≡ run (bang at place) r (at + 1 + 1) rest)
    → (m : Content) (at : ℕ) (rest : List ℕ) → IsSpace m
    → run p r at (text m ++ rest) ≡ run p r (at + length (text m)) rest
run_space place r white begin nothing at rest h = ap (λ n. run (phase_of place) r n rest) (sym (add-zero at))
run_space place r white begin (byte b m) at rest h =
    by_step (phase_of place) r at b (text m ++ rest) (phase_of place) r (white at b h.0)
    ∙ run_space place r white begin m (at + 1) rest h.1
    ∙ ap (λ n. run (phase_of place) r n rest) (omega arith)
run_space place r white begin (comment inner m) at rest h =
    ap (run (phase_of place) r at) (comment_shape inner m rest)
    ∙ begin at (45 ∷ 45 ∷ (inner ++ (62 ∷ (text m ++ rest))))
    ∙ run_comment at place r inner (at + 1 + 1) (text m ++ rest) h.0
    ∙ run_space place r white begin m (at + 1 + 1 + 2 + length inner + 1) rest h.1
    ∙ ap (λ n. run (phase_of place) r n rest) (omega (arith, comment_length inner m))
run_space place r white begin (piece u m) at rest h = absurd h
run_space place r white begin (short s m) at rest h = absurd h
run_space place r white begin (long s inner name w m) at rest h = absurd h

run_after : (nodes : List Node) (attributes : List Attribute) (m : Content) (at : ℕ) → IsSpace m
    → run ended (read_of [] nodes attributes) at (text m) ≡ Ok (record { nodes = nodes; attributes = attributes })
run_after nodes attributes m at h =
    ap (run ended (read_of [] nodes attributes) at) (sym (append-nil (text m)))
    ∙ run_space late (read_of [] nodes attributes) (λ at b q. rw q refl) (λ at rest. refl) m at [] h

abbrev outcome : List Node → List Attribute → Outcome
outcome nodes attributes = Ok (record { nodes = nodes; attributes = attributes })

run_root : (c : Content) (at : ℕ) (m : Content) → IsElement c → IsContent 0 c → IsSpace m
    → run content (read_of [] [] []) at (text c ++ text m) ≡ outcome (rows 0 0 at c) (attribute_rows at c)
run_root nothing at w h k hw = absurd h
run_root (byte b c) at w h k hw = absurd h
run_root (comment inner c) at w h k hw = absurd h
run_root (piece u c) at w h k hw = absurd h
run_root (short s (piece u c)) at w h k hw = absurd h
run_root (long s inner name v (piece u c)) at w h k hw = absurd h
run_root (short s (comment inner c)) at w h k hw = absurd h
run_root (long s inner name v (comment inner2 c)) at w h k hw = absurd h
run_root (short s (byte b c)) at w h k hw = absurd h
run_root (short s (short s2 c)) at w h k hw = absurd h
run_root (short s (long s2 inner name w2 c)) at w h k hw = absurd h
run_root (long s inner name v (byte b c)) at w h k hw = absurd h
run_root (long s inner name v (short s2 c)) at w h k hw = absurd h
run_root (long s inner name v (long s2 inner2 name2 w2 c)) at w h k hw = absurd h
run_root (short s nothing) at w h k hw =
    let r : Read = read_of [] [] [] in
    ap (run content r at) (append_assoc (start_text s) (47 ∷ 62 ∷ []) (text w))
    ∙ run_short s r at 0 0 (text w) refl refl k.0 k.1
    ∙ run_after (after_short s r at 0 0).nodes (after_short s r at 0 0).attributes w (at + start_length s + 2) hw
    ∙ ap (outcome (rows 0 0 at (short s nothing)))
    (sym (append-nil (attributes_of (at + 1 + length s.name) s.attributes)))
run_root (long s inner name v nothing) at w h k hw =
    let r : Read = read_of [] [] [] in
    let x : Read = after_long s inner r at 0 0 in
    let ends : ℕ = at + start_length s + 1 + length (text inner) + 2 + length name + length v + 1 in
    let from : ℕ = at + start_length s + 1 in
    let inside : List Node = rows 1 (count s.attributes) from inner in
    ap (run content r at) (long_shape s inner name v nothing (text w))
    ∙ run_long s inner name v r at 0 0 (text w) (run_content inner) refl refl k.0 k.1 k.2 k.3 k.4
    ∙ run_after x.nodes x.attributes w ends hw
    ∙ cc (
      append-nil (rows (0 + 1) (0 + count s.attributes) from inner),
      append-nil
          (attribute_rows from inner),
    )

-- the outermost element and what stands around it
run_body : (y : Body) (at : ℕ) → IsBody y → run content (read_of [] [] []) at (body_text y)
    ≡ outcome (rows 0 0 (at + length (text y.before)) y.root) (attribute_rows (at + length (text y.before)) y.root)
run_body y at h =
    run_space early (read_of [] [] []) (λ at b q. rw (white_isnt_tag b q, q) refl) (λ at rest. refl) y.before at
    (text y.root ++ text y.after) h.0
    ∙ run_root y.root (at + length (text y.before)) y.after h.1 h.2 h.3

first_isnt : (b : ℕ) → is_first b ≡ true → eqb b 63 ≡ false
first_isnt b h = grind (arith, nat_tests)

white_isnt_mark : (b : ℕ) → is_white b ≡ true → eqb b 239 ≡ false
white_isnt_mark b h = grind (arith, nat_tests)

named_head : (name rest whole : List ℕ) → IsName name → whole ≡ 60 ∷ (name ++ rest)
    → (b : ℕ) × (more : List ℕ) × (is_first b ≡ true) × (whole ≡ 60 ∷ b ∷ more)
named_head [] rest whole h e = absurd h
named_head (b ∷ name) rest whole h e = (b, name ++ rest, h.0, e)

start_head : (s : Start) (rest : List ℕ) → IsStart s
    → (b : ℕ) × (more : List ℕ) × (is_first b ≡ true) × (start_text s ++ rest ≡ 60 ∷ b ∷ more)
start_head s rest h = named_head s.name (attributes_text s.attributes ++ (s.white ++ rest)) (start_text s ++ rest) h.0
    (start_shape s rest)

-- an element begins with `<` and the first byte of a name
element_head : (c : Content) (rest : List ℕ) → IsElement c → IsContent 0 c
    → (b : ℕ) × (more : List ℕ) × (is_first b ≡ true) × (text c ++ rest ≡ 60 ∷ b ∷ more)
element_head nothing rest h k = absurd h
element_head (byte b c) rest h k = absurd h
element_head (comment inner c) rest h k = absurd h
element_head (piece u c) rest h k = absurd h
element_head (short s c) rest h k =
    let n = start_head s (47 ∷ 62 ∷ (text c ++ rest)) k.1 in
    (n.0, n.1, n.2, append_assoc (start_text s) (47 ∷ 62 ∷ text c) rest ∙ n.3)
element_head (long s inner name w c) rest h k =
    let n = start_head s (62 ∷ (text inner ++ (60 ∷ 47 ∷ (name ++ (w ++ (62 ∷ (text c ++ rest))))))) k.1 in
    (n.0, n.1, n.2, long_shape s inner name w c rest ∙ n.3)

declared_element : (r : Read) (at b : ℕ) (more : List ℕ) → r.frames ≡ [] → is_first b ≡ true
    → run at_declaration (closed r) at (60 ∷ b ∷ more) ≡ run content (closed r) at (60 ∷ b ∷ more)
declared_element r at b more e h =
    ap (λ (x : Step). and_then x (λ s. run s.phase s.read (at + 1 + 1) more))
    (let e1 : step (declared_open at) (closed r) (at + 1) b ≡ step (opened at) (closed r) (at + 1) b =
    rw (first_isnt b h) refl in e1)

-- no declaration and no mark
plain_at : (before root : Content) (rest : List ℕ) (at : ℕ) → IsSpace before → IsElement root → IsContent 0 root →
    let bs = text before ++ (text root ++ rest) in
    (run beginning (read_of [] [] []) at bs ≡ run at_declaration (read_of [] [] []) at bs)
    × (run at_declaration (read_of [] [] []) at bs ≡ run content (read_of [] [] []) at bs)
plain_at nothing root rest at h k l =
    let e = element_head root rest k l in (
      ap (run beginning (read_of [] [] []) at) e.3 ∙ sym (ap (run at_declaration (read_of [] [] []) at) e.3),
      ap (run at_declaration (read_of [] [] []) at) e.3 ∙ declared_element (read_of [] [] []) at e.0 e.1 refl e.2
          ∙ sym (ap (run content (read_of [] [] []) at) e.3),
    )
plain_at (byte b before) root rest at h k l =
    let bs : List ℕ = text before ++ (text root ++ rest) in
    let r : Read = read_of [] [] [] in
    let go : Step → Outcome = λ x. and_then x (λ s. run s.phase s.read (at + 1) bs) in (
      ap go (let e : step beginning r at b ≡ step at_declaration r at b = rw (white_isnt_mark b h.0) refl in e),
      ap go (let e : step at_declaration r at b ≡ step content r at b = rw (white_isnt_tag b h.0, h.0) refl in e),
    )
plain_at (comment inner before) root rest at h k l = (refl, refl)
plain_at (piece u c) root rest at h k l = absurd h
plain_at (short s c) root rest at h k l = absurd h
plain_at (long s inner name w c) root rest at h k l = absurd h

-- inside a declaration
run_declared : (r : Read) (inner : List ℕ) (seen : Bool) (at : ℕ) (rest : List ℕ) → stays_declared seen inner ≡ true
    → run (in_declaration seen) r at (inner ++ rest)
    ≡ run (in_declaration (question_after seen inner)) r (at + length inner) rest
run_declared r [] seen at rest h = ap (λ n. run (in_declaration seen) r n rest) (sym (add-zero at))
run_declared r (b ∷ inner) seen at rest h =
    let k = both (seen && eqb b 62) (stays_declared (eqb b 63) inner) h in
    by_step (in_declaration seen) r at b (inner ++ rest) (in_declaration (eqb b 63)) r (rw k.0 refl)
    ∙ run_declared r inner (eqb b 63) (at + 1) rest k.1
    ∙ ap (λ n. run (in_declaration (question_after seen (b ∷ inner))) r n rest) (omega arith)

run_declaration : (w : ℕ) (inner : List ℕ) (at : ℕ) (rest : List ℕ) → is_white w ≡ true → IsDeclared inner
    → run at_declaration (read_of [] [] []) at (declaration_start ++ (w ∷ (inner ++ (62 ∷ rest))))
    ≡ run content (read_of [] [] []) (at + 6 + length inner + 1) rest
run_declaration w inner at rest h k =
    let r : Read = read_of [] [] [] in
    by_step (question []) r (at + 1 + 1 + 1 + 1 + 1) w (inner ++ (62 ∷ rest)) (in_declaration false) r (rw h refl)
    ∙ run_declared r inner false (at + 1 + 1 + 1 + 1 + 1 + 1) (62 ∷ rest) k.0
    ∙ by_step (in_declaration (question_after false inner)) r (at + 1 + 1 + 1 + 1 + 1 + 1 + length inner) 62 rest
    content r (rw k.1 refl)
    ∙ ap (λ n. run content r n rest) (omega arith)

pub declaration_shape : (w : ℕ) (inner rest : List ℕ)
    → declaration_text (declared w inner) ++ rest ≡ declaration_start ++ (w ∷ (inner ++ (62 ∷ rest)))
declaration_shape w inner rest = ap (λ x. declaration_start ++ (w ∷ x)) (append_assoc inner (62 ∷ []) rest)

declaration_length : (w : ℕ) (inner : List ℕ) → length (declaration_text (declared w inner)) ≡ 6 + length inner + 1
declaration_length w inner = simp length-append (omega arith)

run_declared_body : (x : Declaration) (y : Body) (at : ℕ) → IsDeclaration x → IsBody y
    → run at_declaration (read_of [] [] []) at (declaration_text x ++ body_text y)
    ≡ run content (read_of [] [] []) (at + length (declaration_text x)) (body_text y)
run_declared_body undeclared y at h k = (plain_at y.before y.root (text y.after) at k.0 k.1 k.2).1
    ∙ ap (λ n. run content (read_of [] [] []) n (body_text y)) (sym (add-zero at))
run_declared_body (declared w inner) y at h k =
    ap (run at_declaration (read_of [] [] []) at) (declaration_shape w inner (body_text y))
    ∙ run_declaration w inner at (body_text y) h.0 h.1
    ∙ ap (λ n. run content (read_of [] [] []) n (body_text y)) (omega (arith, declaration_length w inner))

run_mark : (m : Mark) (x : Declaration) (y : Body) → IsBody y
    → run beginning (read_of [] [] []) 0 (mark_text m ++ (declaration_text x ++ body_text y))
    ≡ run at_declaration (read_of [] [] []) (length (mark_text m)) (declaration_text x ++ body_text y)
run_mark marked x y h = refl
run_mark unmarked undeclared y h = (plain_at y.before y.root (text y.after) 0 h.0 h.1 h.2).0
run_mark unmarked (declared w inner) y h = refl

pub run_document : (d : Document) → IsDocument d → outcome_of (spelling d) ≡ Ok (table d)
run_document d h =
    run_mark d.mark d.declaration d.body h.1
    ∙ run_declared_body d.declaration d.body (length (mark_text d.mark)) h.0 h.1
    ∙ run_body d.body (length (mark_text d.mark) + length (declaration_text d.declaration)) h.1
