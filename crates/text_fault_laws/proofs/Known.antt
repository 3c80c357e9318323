-- What is known of the bytes that the machine has read, in each of its phases.
use Rattle.std.proofs.Common.{◌≡◌, ℕ, ◌+◌, Bool, true, ◌&&◌, ◌||◌, leb, eqb, List, [], ◌∷◌}
use Rattle.std.proofs.Common.{suc, ◌++◌, length, Ok, refl, sym, ◌∙◌, ap, subst, append_assoc}
use Rattle.xhstt_text.specs.Bytes.{is_white, is_quote, AllAre, IsName, IsWhite}
use Rattle.xhstt_text.specs.Units.{AreDigits, is_decimal, is_hexadecimal}
use Rattle.xhstt_text.specs.Machine.{Within, in_text, in_quotes, after_piece, reference, reference_a}
use Rattle.xhstt_text.specs.Machine.{wide_1, wide_2, word, hash, hash_x, in_decimal, in_hexadecimal, declared_open}
use Rattle.xhstt_text.specs.Machine.{question, other_word, no_character, Frame, Read, Phase, ended_open, bang, opened}
use Rattle.xhstt_text.specs.Machine.{start_name, valued, in_tag, slash, attribute_name, named, equals, in_value}
use Rattle.xhstt_text.specs.Machine.{shut_begin, shut, shut_gap, State, Step, state, step}
use Rattle.xhstt_text.proofs.Sound.{document_from, names_of, same_byte}
use Rattle.text_fault_laws.specs.Fronts.{IsFront, IsInside, IsOtherWord, MayRefer, BeginsReference}
use Rattle.text_fault_laws.proofs.Live.{Live, AreNamed}
use Rattle.text_fault_laws.proofs.Reach.{Reaches, reached, reached_append, reads, then}

-- these bytes stand last, from this place on
abbrev pub At : ℕ → List ℕ → List ℕ → Type 0
At at q t = (p : List ℕ) × (at ≡ length p) × (q ≡ p ++ t)

-- these elements are open after the bytes
abbrev pub Inner : List Frame → List ℕ → Type 0
Inner [] p = ⊥
Inner (f ∷ fs) p = IsInside (names_of (f ∷ fs)) p

-- the same, or none is
abbrev pub Around : List Frame → List ℕ → Type 0
Around [] p = Unit {0}
Around (f ∷ fs) p = IsInside (names_of (f ∷ fs)) p

abbrev pub Held : Within → Type 0
Held in_text = Unit {0}
Held (in_quotes t place name quote from) = IsName t.name × (is_quote quote ≡ true)

abbrev pub IsSome : List ℕ → Type 0
IsSome [] = ⊥
IsSome (k ∷ ks) = Unit {0}

-- a small letter, or `;`
abbrev pub is_key : ℕ → Bool
is_key k = (leb 97 k && leb k 122) || eqb k 59

-- in a reference that begins at a place: these bytes after its `&` lead to such a phase, wherever they stand
abbrev pub Referring : ℕ → (ℕ → Within → Phase) → List ℕ → List ℕ → Type 0
Referring place p part q = (before : List ℕ) × (place ≡ length before) × MayRefer before × (q ≡ before ++ (38 ∷ part))
    × ((l : ℕ) (v : Within) (u : Read) (at : ℕ) → reached (reference l v) u at part ≡ state (p l v) u)

-- in an end tag
abbrev pub Shutting : ℕ → List ℕ → List ℕ → List Frame → List ℕ → Type 0
Shutting place name w fs q = (p : List ℕ) × Inner fs p × (place ≡ length p) × IsName name × IsWhite w
    × (q ≡ p ++ (60 ∷ 47 ∷ (name ++ w)))

-- the word after the `<!` at a place
abbrev pub OtherWord : ℕ → List ℕ → List ℕ → Type 0
OtherWord place p letters = (x : List ℕ) × (place ≡ length x) × (p ≡ x ++ 60 ∷ 33 ∷ []) × IsOtherWord letters

-- what was read before this phase
abbrev pub Past : Phase → List Frame → List ℕ → Type 0
Past (declared_open place) fs q = At place q (60 ∷ [])
Past (question ks) fs q = AllAre is_key ks
Past (ended_open place) fs q = At place q (60 ∷ [])
Past (bang place p) fs q = At place q (60 ∷ 33 ∷ [])
Past (other_word place first ks) fs q = (p : List ℕ) × (d : ℕ) × (rest : List ℕ) × (first ≡ length p) × IsFront p
    × (q ≡ p ++ (d ∷ rest)) × OtherWord place p (d ∷ (rest ++ ks)) × ((letters : List ℕ) × (r : Read)
    × Reaches (p ++ d ∷ []) (other_word place first letters) r)
Past (opened place) fs q = (p : List ℕ) × Around fs p × (place ≡ length p) × (q ≡ p ++ 60 ∷ [])
Past (start_name place name) fs q = IsName name × (x : List ℕ) × (q ≡ x ++ name)
Past (valued t) fs q = IsName t.name
Past (in_tag t) fs q = IsName t.name × (p : List ℕ) × (w : ℕ) × (is_white w ≡ true) × (q ≡ p ++ w ∷ [])
Past (slash t) fs q = IsName t.name
Past (attribute_name t place name) fs q = IsName t.name × IsName name × (p : List ℕ) × (w : ℕ) × (is_white w ≡ true)
    × (place ≡ length p + 1) × (q ≡ p ++ (w ∷ name))
Past (named t place name) fs q = IsName t.name
Past (equals t place name) fs q = IsName t.name
Past (in_value t place name quote from) fs q = IsName t.name × (is_quote quote ≡ true)
Past (wide_1 w) fs q = Held w
Past (wide_2 greatest w) fs q = Held w
Past (reference place w) fs q = Held w × Referring place reference [] q
Past (reference_a place w) fs q = Held w × Referring place reference_a (97 ∷ []) q
Past (word place ks w) fs q = Held w × IsSome ks × AllAre is_key ks
    × ((part : List ℕ) × Referring place (λ l v. word l ks v) part q)
Past (hash place w) fs q = Held w × Referring place hash (35 ∷ []) q
Past (hash_x place w) fs q = Held w × Referring place hash_x (35 ∷ 120 ∷ []) q
Past (in_decimal place n w) fs q = Held w × (ds : List ℕ) × AreDigits is_decimal ds
    × Referring place (λ l v. in_decimal l n v) (35 ∷ ds) q
Past (in_hexadecimal place n w) fs q = Held w × (ds : List ℕ) × AreDigits is_hexadecimal ds
    × Referring place (λ l v. in_hexadecimal l n v) (35 ∷ 120 ∷ ds) q
Past (no_character place) fs q = (part : List ℕ) × BeginsReference (38 ∷ part)
    × Referring place (λ l v. no_character l) part q
Past (shut_begin place) fs q = (p : List ℕ) × Inner fs p × (place ≡ length p) × (q ≡ p ++ (60 ∷ 47 ∷ []))
Past (shut place name) fs q = Shutting place name [] fs q
Past (shut_gap place name) fs q = (w : List ℕ) × Shutting place name w fs q
Past _ fs q = Unit {0}

pub length_names : (fs : List Frame) → length (names_of fs) ≡ length fs
length_names [] = refl
length_names (f ∷ fs) = ap suc (length_names fs)

-- some text begins with what was read, where the machine can go on from there
pub alive : (q : List ℕ) (p : Phase) (r : Read) → Reaches q p r → Live p r → IsFront q
alive q p r here live =
    let l = live (length q) in
    let d = document_from (q ++ l.0) l.1 (reads q p r here l.0 ∙ l.2) in (l.0, d.0, d.1, d.2)

-- and with what stands before it
pub front_of : (p t : List ℕ) → IsFront (p ++ t) → IsFront p
front_of p t f = (t ++ f.0, f.1, f.2, sym (append_assoc p t f.0) ∙ f.3)

-- what is known after one byte more
abbrev pub Next : List ℕ → ℕ → State → Type 0
Next q b s = AreNamed s.read.frames × Past s.phase s.read.frames (q ++ b ∷ [])

pub lands : (q : List ℕ) (b : ℕ) (p : Phase) (r : Read) (s : State) → AreNamed r.frames → Past p r.frames (q ++ b ∷ [])
    → state p r ≡ Ok s → Next q b s
lands q b p r s h k e =
    let d : record { phase = p; read = r } ≡ s = cc in subst (Next q b) d (h, k)

pub begin : (q : List ℕ) (b k : ℕ) → eqb b k ≡ true → At (length q) (q ++ b ∷ []) (k ∷ [])
begin q b k e = (q, refl, ap (λ k. q ++ k ∷ []) (same_byte b k e))

-- bytes before, these, and one more
pub tail_push : (q p t : List ℕ) (b : ℕ) → q ≡ p ++ t → q ++ b ∷ [] ≡ p ++ (t ++ b ∷ [])
tail_push q p t b same = ap (λ x. x ++ b ∷ []) same ∙ append_assoc p t (b ∷ [])

pub tail_key : (q p t : List ℕ) (b k : ℕ) → eqb b k ≡ true → q ≡ p ++ t → q ++ b ∷ [] ≡ p ++ (t ++ k ∷ [])
tail_key q p t b k e same = tail_push q p t b same ∙ ap (λ k. p ++ (t ++ k ∷ [])) (same_byte b k e)

pub grow : (at : ℕ) (q t : List ℕ) (b k : ℕ) → eqb b k ≡ true → At at q t → At at (q ++ b ∷ []) (t ++ k ∷ [])
grow at q t b k e (p, is, same) = (p, is, tail_key q p t b k e same)

-- on in a reference
pub refer_on : (place : ℕ) (p t : ℕ → Within → Phase) (part q : List ℕ) (b : ℕ) → Referring place p part q
    → ((l : ℕ) (v : Within) (u : Read) (at : ℕ) → step (p l v) u at b ≡ state (t l v) u)
    → Referring place t (part ++ b ∷ []) (q ++ b ∷ [])
refer_on place p t part q b (before, is, may, same, leads) steps = (
  before,
  is,
  may,
  tail_push q before (38 ∷ part) b same,
  (λ l v u at. reached_append part (b ∷ []) (reference l v) u at (record { phase = p l v; read = u }) (leads l v u at)
      ∙ ap (λ (c : Step). then c (λ s. state s.phase s.read)) (steps l v u (at + length part))),
)

pub refer_by : (place : ℕ) (p t : ℕ → Within → Phase) (part q : List ℕ) (b k : ℕ) → eqb b k ≡ true
    → Referring place p part q → ((l : ℕ) (v : Within) (u : Read) (at : ℕ) → step (p l v) u at k ≡ state (t l v) u)
    → Referring place t (part ++ k ∷ []) (q ++ b ∷ [])
refer_by place p t part q b k e known steps =
    subst (λ x. Referring place t (part ++ k ∷ []) (q ++ x ∷ [])) (sym (same_byte b k e))
    (refer_on place p t part q k known steps)

pub after_held : (w : Within) (q : List ℕ) (fs : List Frame) → Held w → Past (after_piece w) fs q
after_held in_text q fs h = tt
after_held (in_quotes t place name quote from) q fs h = h
