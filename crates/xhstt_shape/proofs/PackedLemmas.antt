-- What is packed stays what it is when more is added after it.
use Rattle.std.proofs.Common.{ℕ, ◌≡◌, ◌∙◌, ◌+◌, ◌-◌, ◌≤◌, Option, Some, None, List, [], ◌∷◌, ◌++◌, length, take}
use Rattle.std.proofs.Common.{drop, All, refl, sym, ap, arith, length-append, append_assoc}
use Rattle.std.specs.Option.{option_map}
use Rattle.std.specs.Str.{is_utf8, IsUtf8}
use Rattle.std.proofs.Common.{IfOk, OnErr, Result}
use Rattle.std.specs.Prelude.{Ok, Err}
use Rattle.std.proofs.lemmas.Str.{is_utf8-from_IsUtf8}
use Rattle.std.proofs.lemmas.List.{append-nil, append_cancel_left, map-append, map_push}
use Rattle.std.proofs.lemmas.List.Elements.{All-cons, All-head, All-tail, All-push, All-weaker, All-take, All-drop}
use Rattle.khe_base.specs.Text.{characters}
use Rattle.khe_base.proofs.ListLemmas.{piece-longer, piece-last}
use Rattle.xhstt_shape.specs.Packed.{IsLonger, IsTextIn, IsGivenIn, IsEntryIn, ArePacked, bytes_at, text_at, texts_of}
use Rattle.xhstt_shape.specs.Packed.{entry_texts, given_texts, reference_at, role_at, given_at, givens_at, entry_at, entries_at}
use Rattle.xhstt_shape.specs.declared.packed.PackedEntry.{PackedEntry}
use Rattle.xhstt_shape.specs.declared.packed.PackedGiven.{PackedGiven}
use Rattle.xhstt_shape.specs.declared.packed.PackedName.{PackedName}
use Rattle.xhstt_shape.specs.declared.packed.PackedText.{PackedText}
use Rattle.xhstt_shape.specs.declared.records.RawEntry.{RawEntry}
use Rattle.xhstt_shape.specs.declared.records.RawGiven.{RawGiven}

pub same-longer : {A : Type 0} (xs : List A) → IsLonger xs xs
same-longer xs = record { more = []; is = sym (append-nil xs) }

pub equal-longer : {A : Type 0} (xs ys : List A) → ys ≡ xs → IsLonger xs ys
equal-longer xs ys same = record { more = []; is = same ∙ sym (append-nil xs) }

pub longer-longer : {A : Type 0} (xs ys zs : List A) → IsLonger xs ys → IsLonger ys zs → IsLonger xs zs
longer-longer xs ys zs a b = record {
  more = a.more ++ b.more;
  is = b.is ∙ ap (λ l. l ++ b.more) a.is ∙ append_assoc xs a.more b.more;
}

pub length-longer : {A : Type 0} (xs ys : List A) → IsLonger xs ys → length xs ≤ length ys
length-longer xs ys l = omega (arith, ap length l.is, length-append xs l.more)

-- a text
bytes-longer : (xs ys : List ℕ) (t : PackedText) → IsLonger xs ys → t.first + t.count ≤ length xs
    → bytes_at ys t ≡ bytes_at xs t
bytes-longer xs ys t l within =
    ap (λ zs. take t.count (drop t.first zs)) l.is ∙ piece-longer t.first t.count xs l.more within

text-longer : (xs ys : List ℕ) (t : PackedText) → IsLonger xs ys → IsTextIn xs t → text_at ys t ≡ text_at xs t
text-longer xs ys t l inside = ap characters (bytes-longer xs ys t l inside.within)

pub in-longer : (xs ys : List ℕ) (t : PackedText) → IsLonger xs ys → IsTextIn xs t → IsTextIn ys t
in-longer xs ys t l inside =
    let long = length-longer xs ys l in
    record {
      within = omega (arith, inside.within, long);
      spelled = ap is_utf8 (bytes-longer xs ys t l inside.within) ∙ inside.spelled;
    }

pub texts-longer : (xs ys : List ℕ) (ts : List PackedText) → IsLonger xs ys → All (IsTextIn xs) ts
    → All (IsTextIn ys) ts
texts-longer xs ys ts l all = All-weaker (IsTextIn xs) (IsTextIn ys) (λ t inside. in-longer xs ys t l inside) ts all

-- a reference and a role
pub reference-longer : (xs ys : List ℕ) (n : PackedName) → IsLonger xs ys → IsTextIn xs n.text
    → reference_at ys n ≡ reference_at xs n
reference-longer xs ys n l inside = λ i. record { id = text-longer xs ys n.text l inside i; at = n.at }

pub role-longer : (xs ys : List ℕ) (n : PackedName) → IsLonger xs ys → IsTextIn xs n.text
    → role_at ys n ≡ role_at xs n
role-longer xs ys n l inside = λ i. record { text = text-longer xs ys n.text l inside i; at = n.at }

references-longer : (xs ys : List ℕ) (o : Option PackedName) → IsLonger xs ys → All (IsTextIn xs) (texts_of o)
    → option_map (reference_at ys) o ≡ option_map (reference_at xs) o
references-longer xs ys None l all = refl
references-longer xs ys (Some n) l all =
    ap Some (reference-longer xs ys n l (All-head (IsTextIn xs) n.text [] all))

roles-longer : (xs ys : List ℕ) (o : Option PackedName) → IsLonger xs ys → All (IsTextIn xs) (texts_of o)
    → option_map (role_at ys) o ≡ option_map (role_at xs) o
roles-longer xs ys None l all = refl
roles-longer xs ys (Some n) l all = ap Some (role-longer xs ys n l (All-head (IsTextIn xs) n.text [] all))

-- a resource
given-longer : (xs ys : List ℕ) (g : PackedGiven) → IsLonger xs ys → IsGivenIn xs g → given_at ys g ≡ given_at xs g
given-longer xs ys g l all =
    let reference = reference-longer xs ys g.reference l (All-head (IsTextIn xs) g.reference.text (texts_of g.role) all) in
    let role = roles-longer xs ys g.role l (All-tail (IsTextIn xs) g.reference.text (texts_of g.role) all) in
    λ i. record { reference = reference i; role = role i }

pub givens-longer : (xs ys : List ℕ) (gs : List PackedGiven) → IsLonger xs ys → All (IsGivenIn xs) gs
    → givens_at ys gs ≡ givens_at xs gs
givens-longer xs ys [] l all = refl
givens-longer xs ys (g ∷ gs) l all =
    let first = given-longer xs ys g l (All-head (IsGivenIn xs) g gs all) in
    let rest = givens-longer xs ys gs l (All-tail (IsGivenIn xs) g gs all) in
    λ i. first i ∷ rest i

pub givens-in-longer : (xs ys : List ℕ) (gs : List PackedGiven) → IsLonger xs ys → All (IsGivenIn xs) gs
    → All (IsGivenIn ys) gs
givens-in-longer xs ys gs l all =
    All-weaker (IsGivenIn xs) (IsGivenIn ys) (λ g inside. texts-longer xs ys (given_texts g) l inside) gs all

-- an entry
pub entry-in-longer : (xs ys : List ℕ) (gs hs : List PackedGiven) (e : PackedEntry) → IsLonger xs ys → IsLonger gs hs
    → IsEntryIn xs gs e → IsEntryIn ys hs e
entry-in-longer xs ys gs hs e l m inside =
    let long = length-longer gs hs m in
    record {
      texts = texts-longer xs ys (entry_texts e) l inside.texts;
      within = omega (arith, inside.within, long);
    }

entry-longer : (xs ys : List ℕ) (gs hs : List PackedGiven) (e : PackedEntry) → IsLonger xs ys → IsLonger gs hs
    → All (IsGivenIn xs) gs → IsEntryIn xs gs e → entry_at ys hs e ≡ entry_at xs gs e
entry-longer xs ys gs hs e l m all inside =
    let piece = take e.count (drop e.first gs) in
    let reference = reference-longer xs ys e.reference l
    (All-head (IsTextIn xs) e.reference.text (texts_of e.time) inside.texts) in
    let time = references-longer xs ys e.time l
    (All-tail (IsTextIn xs) e.reference.text (texts_of e.time) inside.texts) in
    let resources : givens_at ys (take e.count (drop e.first hs)) ≡ givens_at xs piece =
    ap (λ zs. givens_at ys (take e.count (drop e.first zs))) m.is
    ∙ ap (givens_at ys) (piece-longer e.first e.count gs m.more inside.within)
    ∙ givens-longer xs ys piece l (All-take (IsGivenIn xs) e.count (drop e.first gs)
    (All-drop (IsGivenIn xs) e.first gs all)) in
    λ i. record { reference = reference i; duration = e.duration; time = time i; resources = resources i }

pub entries-longer : (xs ys : List ℕ) (gs hs : List PackedGiven) (rows : List PackedEntry) → IsLonger xs ys
    → IsLonger gs hs → ArePacked xs gs rows → entries_at ys hs rows ≡ entries_at xs gs rows
entries-longer xs ys gs hs [] l m packed = refl
entries-longer xs ys gs hs (e ∷ rows) l m packed =
    let first = entry-longer xs ys gs hs e l m packed.all_givens (All-head (IsEntryIn xs gs) e rows packed.all_rows) in
    let rest = entries-longer xs ys gs hs rows l m (record {
      all_givens = packed.all_givens;
      all_rows = All-tail (IsEntryIn xs gs) e rows packed.all_rows;
    }) in
    λ i. first i ∷ rest i

pub packed-longer : (xs ys : List ℕ) (gs hs : List PackedGiven) (rows : List PackedEntry) → IsLonger xs ys
    → IsLonger gs hs → All (IsGivenIn ys) hs → ArePacked xs gs rows → ArePacked ys hs rows
packed-longer xs ys gs hs rows l m all packed = record {
  all_givens = all;
  all_rows = All-weaker (IsEntryIn xs gs) (IsEntryIn ys hs)
      (λ e inside. entry-in-longer xs ys gs hs e l m inside) rows packed.all_rows;
}

-- a resource of its parts
pub given-in-parts : (xs ys : List ℕ) (r : PackedName) (o : Option PackedName) → IsLonger xs ys → IsTextIn xs r.text
    → All (IsTextIn ys) (texts_of o) → IsGivenIn ys (record { reference = r; role = o })
given-in-parts xs ys r o l inside all = All-cons (IsTextIn ys) r.text (texts_of o) (in-longer xs ys r.text l inside) all

pub given-is : (xs ys : List ℕ) (r : PackedName) (o : Option PackedName) (g : RawGiven) → IsLonger xs ys
    → IsTextIn xs r.text → reference_at xs r ≡ g.reference → option_map (role_at ys) o ≡ g.role
    → given_at ys (record { reference = r; role = o }) ≡ g
given-is xs ys r o g l inside reference role =
    let first : reference_at ys r ≡ g.reference = reference-longer xs ys r l inside ∙ reference in
    λ i. record { reference = first i; role = role i }

-- one more resource
pub givens-in-push : (xs ys : List ℕ) (gs : List PackedGiven) (g : PackedGiven) → IsLonger xs ys
    → All (IsGivenIn xs) gs → IsGivenIn ys g → All (IsGivenIn ys) (gs ++ g ∷ [])
givens-in-push xs ys gs g l all inside =
    All-push (IsGivenIn ys) gs g (givens-in-longer xs ys gs l all) inside

pub givens-push : (xs ys : List ℕ) (gs : List PackedGiven) (g : PackedGiven) (given : RawGiven) → IsLonger xs ys
    → All (IsGivenIn xs) gs → given_at ys g ≡ given
    → givens_at ys (gs ++ g ∷ []) ≡ givens_at xs gs ++ given ∷ []
givens-push xs ys gs g given l all is =
    let before = givens-longer xs ys gs l all in
    map_push (given_at ys) gs g ∙ (λ i. before i ++ is i ∷ [])

-- an entry of its parts: its reference was added first, then its time, then its resources
pub entry-in-parts : (xs ys zs : List ℕ) (gs hs : List PackedGiven) (e : PackedEntry) → IsLonger xs ys
    → IsLonger ys zs → IsLonger gs hs → IsTextIn xs e.reference.text → All (IsTextIn ys) (texts_of e.time)
    → e.first ≡ length gs → e.count ≡ length hs - length gs → IsEntryIn zs hs e
entry-in-parts xs ys zs gs hs e l k m inside all first count =
    let long = length-longer gs hs m in
    let both = longer-longer xs ys zs l k in
    record {
      texts = All-cons (IsTextIn zs) e.reference.text (texts_of e.time) (in-longer xs zs e.reference.text both inside)
          (texts-longer ys zs (texts_of e.time) k all);
      within = omega (arith, first, count, long);
    }

pub entry-is : (xs ys zs : List ℕ) (gs hs : List PackedGiven) (e : PackedEntry) (entry : RawEntry) → IsLonger xs ys
    → IsLonger ys zs → IsLonger gs hs → All (IsGivenIn ys) gs → IsTextIn xs e.reference.text
    → All (IsTextIn ys) (texts_of e.time)
    → e.first ≡ length gs → e.count ≡ length hs - length gs
    → reference_at xs e.reference ≡ entry.reference → e.duration ≡ entry.duration
    → option_map (reference_at ys) e.time ≡ entry.time
    → givens_at zs hs ≡ givens_at ys gs ++ entry.resources
    → entry_at zs hs e ≡ entry
entry-is xs ys zs gs hs e entry l k m givens inside all first count reference duration time resources =
    let both = longer-longer xs ys zs l k in
    let r : reference_at zs e.reference ≡ entry.reference = reference-longer xs zs e.reference both inside ∙ reference in
    let t : option_map (reference_at zs) e.time ≡ entry.time = references-longer ys zs e.time k all ∙ time in
    let size : e.count ≡ length m.more = omega (arith, count, ap length m.is, length-append gs m.more) in
    let piece : take e.count (drop e.first hs) ≡ m.more =
    ap (λ n. take n (drop e.first hs)) size ∙ ap (λ n. take (length m.more) (drop n hs)) first
    ∙ ap (λ zs. take (length m.more) (drop (length gs) zs)) m.is ∙ piece-last gs m.more in
    let split : givens_at ys gs ++ givens_at zs m.more ≡ givens_at ys gs ++ entry.resources =
    ap (λ list. list ++ givens_at zs m.more) (sym (givens-longer ys zs gs k givens))
    ∙ sym (map-append (given_at zs) gs m.more) ∙ ap (givens_at zs) (sym m.is) ∙ resources in
    let given : givens_at zs (take e.count (drop e.first hs)) ≡ entry.resources =
    ap (givens_at zs) piece
    ∙ append_cancel_left (givens_at ys gs) (givens_at zs m.more) entry.resources split in
    λ i. record { reference = r i; duration = duration i; time = t i; resources = given i }

-- one more entry
pub packed-push : (xs ys : List ℕ) (gs hs : List PackedGiven) (rows : List PackedEntry) (e : PackedEntry)
    → IsLonger xs ys → IsLonger gs hs → All (IsGivenIn ys) hs → IsEntryIn ys hs e → ArePacked xs gs rows
    → ArePacked ys hs (rows ++ e ∷ [])
packed-push xs ys gs hs rows e l m all inside packed = record {
  all_givens = all;
  all_rows = All-push (IsEntryIn ys hs) rows e (packed-longer xs ys gs hs rows l m all packed).all_rows inside;
}

pub entries-push : (xs ys : List ℕ) (gs hs : List PackedGiven) (rows : List PackedEntry) (e : PackedEntry)
    (entry : RawEntry)
    → IsLonger xs ys → IsLonger gs hs → ArePacked xs gs rows → entry_at ys hs e ≡ entry
    → entries_at ys hs (rows ++ e ∷ []) ≡ entries_at xs gs rows ++ entry ∷ []
entries-push xs ys gs hs rows e entry l m packed is =
    let before = entries-longer xs ys gs hs rows l m packed in
    map_push (entry_at ys hs) rows e ∙ (λ i. before i ++ is i ∷ [])

-- what comes of a call holds of what it answers
pub ok-weaker : {A E : Type 0} (P Q : A → Type 0) (r : Result A E) → ((x : A) → P x → Q x) → IfOk r P → IfOk r Q
ok-weaker P Q (Ok x) f h = f x h
ok-weaker P Q (Err e) f h = h

pub on-err : {A E : Type 0} (P : Type 0) (r : Result A E) → P → OnErr r P
on-err P (Ok x) p = tt
on-err P (Err e) p = p

-- a text that was added last
last-text : (old new text : List ℕ) (t : PackedText) → new ≡ old ++ text → t.first ≡ length old
    → t.count ≡ length text → bytes_at new t ≡ text
last-text old new text t is first count =
    ap (λ zs. take t.count (drop t.first zs)) is
    ∙ ap (λ n. take n (drop t.first (old ++ text))) count
    ∙ ap (λ n. take (length text) (drop n (old ++ text))) first
    ∙ piece-last old text

pub last-text-in : (old new text : List ℕ) (t : PackedText) → new ≡ old ++ text → t.first ≡ length old
    → t.count ≡ length text → IsUtf8 text → IsTextIn new t
last-text-in old new text t is first count utf8 = record {
  within = omega (arith, first, count, ap length is, length-append old text);
  spelled = ap is_utf8 (last-text old new text t is first count) ∙ is_utf8-from_IsUtf8 text utf8;
}
