-- Where the machine stands after bytes that end in the content of open elements.
use Rattle.std.proofs.Common.{◌≡◌, ℕ, ◌+◌, Bool, true, false, cond, leb, eqb, List, [], ◌∷◌, ◌++◌, length}
use Rattle.std.proofs.Common.{Ok, Err, refl, sym, ◌∙◌, ap, arith}
use Rattle.std.proofs.lemmas.Bool.Decides.{nat_tests}
use Rattle.std.proofs.lemmas.Slice.Eq.{bytes_eq-Decides}
use Rattle.std.specs.Str.{bytes_eq}
use Rattle.xhstt_text.specs.Bytes.{is_quote, is_name, dashes, IsName, AllAre}
use Rattle.xhstt_text.specs.Document.{Rows, table, has_name}
use Rattle.xhstt_text.specs.Faults.{bad_markup, mismatched_end, bad_reference}
use Rattle.xhstt_text.specs.Machine.{content, in_comment, in_declaration, opened, shut, shut_gap}
use Rattle.xhstt_text.specs.Machine.{attribute_name, in_value, word, question, other_word, Phase, Region, Read, Frame}
use Rattle.xhstt_text.specs.Machine.{State, Step, Outcome, refused, state, resume, close_element, and_then, run, step}
use Rattle.xhstt_text.specs.Machine.{step_opened, step_shut, outcome_of, beginning}
use Rattle.xhstt_text.specs.declared.faults.TextFault.{TextFault}
use Rattle.xhstt_text.proofs.Complete.{run_document}
use Rattle.xhstt_text.proofs.Runs.{by_step}
use Rattle.xhstt_text.proofs.Sound.{names_of}
use Rattle.text_fault_laws.specs.Fronts.{AreNames, IsInside, end_tags}
use Rattle.text_fault_laws.proofs.Forth.{history, other_lost}
use Rattle.text_fault_laws.proofs.Known.{Past, is_key}
use Rattle.text_fault_laws.proofs.Live.{open_tag, over_name}
use Rattle.text_fault_laws.proofs.LiveParts.{over_dash}
use Rattle.text_fault_laws.proofs.Reach.{Reaches, reached_first, reads, start}

-- a run that a step ends
pub stuck : {G : Type 0} (p : Phase) (r : Read) (at b : ℕ) (bs : List ℕ) (f : TextFault) (rows : Rows)
    → step p r at b ≡ Err f → run p r at (b ∷ bs) ≡ Ok rows → G
stuck p r at b bs f rows d e =
    let k : Err f ≡ Ok rows = sym (ap (λ (x : Step). and_then x (λ s. run s.phase s.read (at + 1) bs)) d) ∙ e in cc

ends_it : {G : Type 0} (f : TextFault) (rows : Rows) → Err f ≡ Ok rows → G
ends_it f rows e = cc

-- and one that it takes on
pub moved : (p : Phase) (r : Read) (at b : ℕ) (bs : List ℕ) (q : Phase) (s : Read) (rows : Rows)
    → step p r at b ≡ state q s → run p r at (b ∷ bs) ≡ Ok rows → run q s (at + 1) bs ≡ Ok rows
moved p r at b bs q s rows d e = sym (by_step p r at b bs q s d) ∙ e

pub less_after_less : (fs : List Frame) (place : ℕ) (r : Read) (at : ℕ)
    → step_opened fs place r at 60 ≡ refused (bad_markup at)
less_after_less [] place r at = refl
less_after_less (f ∷ fs) place r at = refl

pub less_in_end_tag : (fs : List Frame) (place : ℕ) (name : List ℕ) (r : Read) (at : ℕ)
    → step_shut fs place name r at 60 ≡ refused (bad_markup at)
less_in_end_tag [] place name r at = refl
less_in_end_tag (f ∷ fs) place name r at = refl

less_in_attribute_name : {G : Type 0} (c : Bool) (place : ℕ) (more : State → Outcome) (at : ℕ) (rows : Rows)
    → and_then (cond c (refused (bad_markup place)) (refused (bad_markup at))) more ≡ Ok rows → G
less_in_attribute_name true place more at rows e = cc
less_in_attribute_name false place more at rows e = cc

pub less_is_no_quote : (quote : ℕ) → is_quote quote ≡ true → eqb 60 quote ≡ false
less_is_no_quote quote h = grind (arith, nat_tests)

pub less_is_no_key : (k : ℕ) → is_key k ≡ true → eqb 60 k ≡ false
less_is_no_key k h = grind (arith, nat_tests)

pub greater_is_in_no_name : (b : ℕ) → is_name b ≡ true → eqb b 62 ≡ false
greater_is_in_no_name b h = grind (arith, nat_tests)

-- a comment goes on over these end tags
comment_name : (w : List ℕ) (place : Region) (count : ℕ) (r : Read) (at : ℕ) (rest : List ℕ) → AllAre is_name w
    → (n : ℕ) × (i : ℕ) × (run (in_comment place count) r at (w ++ rest) ≡ run (in_comment place n) r i rest)
comment_name [] place count r at rest h = (count, at, refl)
comment_name (b ∷ w) place count r at rest h =
    let l = comment_name w place (dashes count b) r (at + 1) rest h.1 in (
      l.0,
      l.1,
      by_step (in_comment place count) r at b (w ++ rest) (in_comment place (dashes count b)) r
          (rw (greater_is_in_no_name b h.0) (over_dash (leb 2 count) _ _)) ∙ l.2,
    )

named_bytes : (name : List ℕ) → IsName name → AllAre is_name name
named_bytes [] h = absurd h
named_bytes (b ∷ w) h = (rw (h.0) refl, h.1)

comment_over : (names : List (List ℕ)) (place : Region) (count : ℕ) (r : Read) (at : ℕ) (rows : Rows) → AreNames names
    → run (in_comment place count) r at (end_tags names) ≡ Ok rows → ⊥
comment_over [] place count r at rows h e = cc
comment_over (n ∷ ns) place count r at rows h e =
    let tail : List ℕ = n ++ (32 ∷ 62 ∷ end_tags ns) in
    let e1 = moved (in_comment place count) r at 60 (47 ∷ tail) (in_comment place 0) r rows
    (over_dash (leb 2 count) _ _) e in
    let e2 = moved (in_comment place 0) r (at + 1) 47 tail (in_comment place 0) r rows refl e1 in
    let l = comment_name n place 0 r (at + 1 + 1) (32 ∷ 62 ∷ end_tags ns) (named_bytes n h.0) in
    let e3 = moved (in_comment place l.0) r l.1 32 (62 ∷ end_tags ns) (in_comment place 0) r rows
    (over_dash (leb 2 l.0) _ _) (sym l.2 ∙ e2) in
    let e4 = moved (in_comment place 0) r (l.1 + 1) 62 (end_tags ns) (in_comment place 0) r rows refl e3 in
    comment_over ns place 0 r (l.1 + 1 + 1) rows h.1 e4

-- and so does the declaration
declared_name : (w : List ℕ) (seen : Bool) (r : Read) (at : ℕ) (rest : List ℕ) → AllAre is_name w
    → (c : Bool) × (i : ℕ) × (run (in_declaration seen) r at (w ++ rest) ≡ run (in_declaration c) r i rest)
declared_name [] seen r at rest h = (seen, at, refl)
declared_name (b ∷ w) seen r at rest h =
    let l = declared_name w (eqb b 63) r (at + 1) rest h.1 in (
      l.0,
      l.1,
      by_step (in_declaration seen) r at b (w ++ rest) (in_declaration (eqb b 63)) r
          (rw (greater_is_in_no_name b h.0) (over_dash seen _ _)) ∙ l.2,
    )

declaration_over : (names : List (List ℕ)) (seen : Bool) (r : Read) (at : ℕ) (rows : Rows) → AreNames names
    → run (in_declaration seen) r at (end_tags names) ≡ Ok rows → ⊥
declaration_over [] seen r at rows h e = cc
declaration_over (n ∷ ns) seen r at rows h e =
    let tail : List ℕ = n ++ (32 ∷ 62 ∷ end_tags ns) in
    let e1 = moved (in_declaration seen) r at 60 (47 ∷ tail) (in_declaration false) r rows (over_dash seen _ _) e in
    let e2 = moved (in_declaration false) r (at + 1) 47 tail (in_declaration false) r rows refl e1 in
    let l = declared_name n false r (at + 1 + 1) (32 ∷ 62 ∷ end_tags ns) (named_bytes n h.0) in
    let e3 = moved (in_declaration l.0) r l.1 32 (62 ∷ end_tags ns) (in_declaration false) r rows
    (over_dash l.0 _ _) (sym l.2 ∙ e2) in
    let e4 = moved (in_declaration false) r (l.1 + 1) 62 (end_tags ns) (in_declaration false) r rows refl e3 in
    declaration_over ns false r (l.1 + 1 + 1) rows h.1 e4

-- over an end tag in content
shut_there : (c : Bool) (rest n : List ℕ) (f : Frame) (fs : List Frame) (r : Read) (place at : ℕ) (rows : Rows)
    → bytes_eq n f.name ≡ c → r.frames ≡ f ∷ fs → run (shut_gap place n) r at (62 ∷ rest) ≡ Ok rows
    → (n ≡ f.name) × (run (resume fs) (close_element f fs r place) (at + 1) rest ≡ Ok rows)
shut_there true rest n f fs r place at rows c is e = (
  (bytes_eq-Decides n f.name).0 c,
  moved (shut_gap place n) r at 62 rest (resume fs) (close_element f fs r place) rows (rw (is, c) refl) e,
)
shut_there false rest n f fs r place at rows c is e =
    stuck (shut_gap place n) r at 62 rest (mismatched_end place) rows (rw (is, c) refl) e

shuts : (rest n : List ℕ) (f : Frame) (fs : List Frame) (r : Read) (at : ℕ) (rows : Rows) → r.frames ≡ f ∷ fs
    → IsName n → run content r at (60 ∷ 47 ∷ (n ++ (32 ∷ 62 ∷ rest))) ≡ Ok rows → (n ≡ f.name)
    × (run (resume fs) (close_element f fs r at) (at + 1 + 1 + length n + 1 + 1) rest ≡ Ok rows)
shuts rest n f fs r at rows is h e =
    shut_there (bytes_eq n f.name) rest n f fs r at (at + 1 + 1 + length n + 1) rows refl is
    (sym (open_tag f fs r is at (n ++ (32 ∷ 62 ∷ rest)) ∙ over_name at n f fs r is h (at + 1 + 1) (62 ∷ rest)) ∙ e)

last_tag : (fs : List Frame) (r : Read) (at : ℕ) (rows : Rows) → run (resume fs) r at [] ≡ Ok rows → names_of fs ≡ []
last_tag [] r at rows e = refl
last_tag (g ∷ gs) r at rows e = cc

-- the names of the open elements are those
open_names : (ns : List (List ℕ)) (n : List ℕ) (fs : List Frame) (r : Read) (at : ℕ) (rows : Rows) → r.frames ≡ fs
    → AreNames (n ∷ ns) → run content r at (end_tags (n ∷ ns)) ≡ Ok rows → names_of fs ≡ n ∷ ns
open_names ns n [] r at rows is h e =
    let tail : List ℕ = n ++ (32 ∷ 62 ∷ end_tags ns) in
    let e1 = moved content r at 60 (47 ∷ tail) (opened at) r rows (rw is refl) e in
    stuck (opened at) r (at + 1) 47 tail (bad_markup (at + 1)) rows (rw is refl) e1
open_names [] n (f ∷ fs) r at rows is h e =
    let s = shuts [] n f fs r at rows is h.0 e in
    ap (λ x. x ∷ names_of fs) (sym s.0)
    ∙ ap (λ x. n ∷ x) (last_tag fs (close_element f fs r at) (at + 1 + 1 + length n + 1 + 1) rows s.1)
open_names (m ∷ ms) n (f ∷ []) r at rows is h e =
    let s = shuts (end_tags (m ∷ ms)) n f [] r at rows is h.0 e in
    ends_it (bad_markup (at + 1 + 1 + length n + 1 + 1 + 1)) rows s.1
open_names (m ∷ ms) n (f ∷ g ∷ gs) r at rows is h e =
    let s = shuts (end_tags (m ∷ ms)) n f (g ∷ gs) r at rows is h.0 e in
    ap (λ x. x ∷ names_of (g ∷ gs)) (sym s.0) ∙ ap (λ x. n ∷ x)
    (open_names ms m (g ∷ gs) (close_element f (g ∷ gs) r at) (at + 1 + 1 + length n + 1 + 1) rows refl h.1 s.1)

-- an end tag after its `<`, and others
abbrev tag_rest : List ℕ → List (List ℕ) → List ℕ
tag_rest n ns = 47 ∷ (n ++ (32 ∷ 62 ∷ end_tags ns))

-- the machine is in content, and these elements are open
abbrev Closes : List (List ℕ) → Phase → Read → Type 0
Closes names content r = names_of r.frames ≡ names
Closes names _ r = ⊥

closes : (p : Phase) (r : Read) (q : List ℕ) (at : ℕ) (n : List ℕ) (ns : List (List ℕ)) (rows : Rows)
    → AreNames (n ∷ ns) → Past p r.frames q → run p r at (end_tags (n ∷ ns)) ≡ Ok rows → Closes (n ∷ ns) p r
closes content r q at n ns rows h k e = open_names ns n r.frames r at rows refl h e
closes (in_comment place count) r q at n ns rows h k e = comment_over (n ∷ ns) place count r at rows h e
closes (in_declaration seen) r q at n ns rows h k e = declaration_over (n ∷ ns) seen r at rows h e
closes (opened place) r q at n ns rows h k e =
    stuck (opened place) r at 60 (tag_rest n ns) (bad_markup at) rows (less_after_less r.frames place r at) e
closes (shut place name) r q at n ns rows h k e =
    stuck (shut place name) r at 60 (tag_rest n ns) (bad_markup at) rows (less_in_end_tag r.frames place name r at) e
closes (shut_gap place name) r q at n ns rows h k e =
    stuck (shut_gap place name) r at 60 (tag_rest n ns) (bad_markup at)
    rows (less_in_end_tag r.frames place name r at) e
closes (attribute_name t place name) r q at n ns rows h k e =
    less_in_attribute_name (has_name name t.names) place _ at rows e
closes (in_value t place name quote from) r q at n ns rows h k e =
    stuck (in_value t place name quote from) r at 60 (tag_rest n ns) (bad_markup at)
    rows (rw (less_is_no_quote quote k.1) refl)
    e
closes (word place [] w) r q at n ns rows h k e = absurd k.1
closes (word place (l ∷ []) w) r q at n ns rows h k e =
    stuck (word place (l ∷ []) w) r at 60 (tag_rest n ns) (bad_reference place)
    rows (rw (less_is_no_key l k.2.0) refl) e
closes (word place (l ∷ m ∷ ks) w) r q at n ns rows h k e =
    stuck (word place (l ∷ m ∷ ks) w) r at 60 (tag_rest n ns) (bad_reference place)
    rows (rw (less_is_no_key l k.2.0) refl) e
closes (question []) r q at n ns rows h k e = cc
closes (question (l ∷ ks)) r q at n ns rows h k e =
    stuck (question (l ∷ ks)) r at 60 (tag_rest n ns) (bad_markup at) rows (rw (less_is_no_key l k.0) refl) e
closes (other_word place first ks) r q at n ns rows h k e =
    other_lost (end_tags (n ∷ ns)) place first ks r at rows e
closes p r q at n ns rows h k e = cc

-- in content
pub record InContent (q : List ℕ) (names : List (List ℕ)) : Type 0 where
  pub read : Read
  pub here : Reaches q content read
  pub open_ones : names_of read.frames ≡ names

in_content : (p : Phase) (r : Read) (q : List ℕ) (names : List (List ℕ)) → Reaches q p r → Closes names p r
    → InContent q names
in_content content r q names here k = record { read = r; here = here; open_ones = k }
in_content _ r q names here k = absurd k

pub inside_reaches : (q n : List ℕ) (ns : List (List ℕ)) → IsInside (n ∷ ns) q → InContent q (n ∷ ns)
inside_reaches q n ns (names, d, form, same) =
    let whole = ap outcome_of same ∙ run_document d form in
    let t = reached_first q (end_tags (n ∷ ns)) beginning start 0 (table d) whole in
    let p : Phase = t.0.phase in
    let r : Read = t.0.read in
    in_content p r q (n ∷ ns) t.1 (closes p r q (length q) n ns (table d) names (history q p r t.1).1
    (sym (reads q p r t.1 (end_tags (n ∷ ns))) ∙ whole))
