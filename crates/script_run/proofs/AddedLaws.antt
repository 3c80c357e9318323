-- Answers that join what waits, one after the other.
use Rattle.std.proofs.Common.{◌≡◌, ℕ, ◌≤◌, List, [], ◌∷◌, ◌++◌, Option, Some, None, append_assoc, ap, sym, subst}
use Rattle.std.proofs.Common.{◌∙◌, refl, arith, length, length-append, encode_utf8_all, ltb}
use Rattle.std.proofs.lemmas.Bool.{cond_both}
use Rattle.std.proofs.lemmas.List.{append-nil}
use Rattle.std.proofs.lemmas.Str.{encodes-append}
use Rattle.std.specs.Option.{option_map_or}
use Rattle.khe_io.specs.Amid.{IsAmid}
use Rattle.khe_io.specs.Faults.{Took, TookFront}
use Rattle.khe_io.proofs.AmidLemmas.{amid-cut, amid-push, amid-stop}
use Rattle.khe_io.proofs.Writing.{Took-more}
use Rattle.script_run.specs.Added.{IsAdded, IsCutOff}
use lib.Utf8.{encode, encodes}

nothing-took : (now : Option (List ℕ)) → Took now now (encode_utf8_all [])
nothing-took None = refl
nothing-took (Some xs) = ap Some (sym (append-nil xs))

-- nothing is taken, and all that is to come is left
pub amid_begin : (now : Option (List ℕ)) (text rest : List ℕ) → IsAmid now now text rest (text ++ rest)
amid_begin now text rest = record { written = []; took = nothing-took now; is = refl }

-- what was taken before is taken still
pub amid_join : (before now after : Option (List ℕ)) (text rest text2 rest2 whole : List ℕ)
    → IsAmid before now text rest whole → IsAmid now after text2 rest2 (text ++ rest)
    → IsAmid before after text2 rest2 whole
amid_join before now after text rest text2 rest2 whole h g = record {
  written = h.written ++ g.written;
  took = subst (Took before after) (sym (encodes-append h.written g.written))
      (Took-more before now after (encode_utf8_all h.written) (encode_utf8_all g.written) h.took g.took);
  is = append_assoc h.written g.written (text2 ++ rest2) ∙ ap (λ xs. h.written ++ xs) g.is ∙ h.is;
}

pub amid_join_cut : (before now after : Option (List ℕ)) (text rest whole : List ℕ) → IsAmid before now text rest whole
    → TookFront now after (encode_utf8_all (text ++ rest)) → TookFront before after (encode_utf8_all whole)
amid_join_cut before now after text rest whole h (front, left, is, took) = (
  encode_utf8_all h.written ++ front,
  left,
  ap encode_utf8_all (sym h.is)
      ∙ encodes-append h.written (text ++ rest)
      ∙ ap (λ xs. encode_utf8_all h.written ++ xs) is
      ∙ sym (append_assoc (encode_utf8_all h.written) front left),
  Took-more before now after (encode_utf8_all h.written) front h.took took,
)

-- the next answer joins what waits
pub amid_added : (before now after : Option (List ℕ)) (text answer text2 rest whole : List ℕ)
    → IsAmid before now text (answer ++ rest) whole → IsAdded now after text answer text2
    → IsAmid before after text2 rest whole
amid_added before now after text answer text2 rest whole h g = record {
  written = h.written ++ g.written;
  took = subst (Took before after) (sym (encodes-append h.written g.written))
      (Took-more before now after (encode_utf8_all h.written) (encode_utf8_all g.written) h.took g.took);
  is = append_assoc h.written g.written (text2 ++ rest)
      ∙ ap (λ xs. h.written ++ xs) (joined ∙ append_assoc text answer rest)
      ∙ h.is;
}
  where
    joined : g.written ++ (text2 ++ rest) ≡ (text ++ answer) ++ rest
    joined = sym (append_assoc g.written text2 rest)
        ∙ ap (λ xs. (g.written ++ xs) ++ rest) (sym (append-nil text2))
        ∙ ap (λ xs. xs ++ rest) g.is

pub amid_added_cut : (before now after : Option (List ℕ)) (text answer rest whole : List ℕ)
    → IsAmid before now text (answer ++ rest) whole → IsCutOff now after text answer
    → TookFront before after (encode_utf8_all whole)
amid_added_cut before now after text answer rest whole h cut =
    amid-cut before now after (text ++ answer) rest whole (amid-push before now text answer rest whole h) cut

-- one item of what is left joins what waits
pub amid_item : (before now : Option (List ℕ)) (text item text2 all rest whole : List ℕ) → all ≡ item ++ rest
    → text2 ≡ text ++ item → IsAmid before now text all whole → IsAmid before now text2 rest whole
amid_item before now text item text2 all rest whole e f h = subst (λ t. IsAmid before now t rest whole) (sym f)
    (amid-push before now text item rest whole (subst (λ xs. IsAmid before now text xs whole) e h))

-- an answer that is a text
pub added_text : (now : Option (List ℕ)) (text answer text2 : List ℕ) → text2 ≡ text ++ answer
    → IsAdded now now text answer text2
added_text now text answer text2 e = record { written = []; took = nothing-took now; is = append-nil text2 ∙ e }

-- nothing was taken
pub cut_none : (now : Option (List ℕ)) (bytes : List ℕ) → TookFront now now bytes
cut_none now bytes = ([], bytes, refl, nothing-took now)

-- an answer of two parts, the second of which is a text, or the first
pub added_push : (before now : Option (List ℕ)) (text a b text2 text3 : List ℕ) → IsAdded before now text a text2
    → text3 ≡ text2 ++ b → IsAdded before now text (a ++ b) text3
added_push before now text a b text2 text3 h e = record {
  written = h.written;
  took = h.took;
  is = ap (λ xs. h.written ++ xs) (append-nil text3 ∙ e)
      ∙ sym (append_assoc h.written text2 b)
      ∙ ap (λ xs. (h.written ++ xs) ++ b) (sym (append-nil text2))
      ∙ ap (λ xs. xs ++ b) h.is
      ∙ append_assoc text a b;
}

pub push_added : (before now : Option (List ℕ)) (text a b text2 text3 : List ℕ) → text2 ≡ text ++ a
    → IsAdded before now text2 b text3 → IsAdded before now text (a ++ b) text3
push_added before now text a b text2 text3 e h =
    subst (λ xs. IsAmid before now text3 [] xs) (ap (λ xs. xs ++ b) e ∙ append_assoc text a b) h

pub push_cut : (before now : Option (List ℕ)) (text a b text2 : List ℕ) → text2 ≡ text ++ a
    → IsCutOff before now text2 b → IsCutOff before now text (a ++ b)
push_cut before now text a b text2 e h =
    subst (λ xs. TookFront before now (encode_utf8_all xs)) (ap (λ xs. xs ++ b) e ∙ append_assoc text a b) h

-- what is cut off before its second part
pub cut_first : (before now : Option (List ℕ)) (text a b : List ℕ) → IsCutOff before now text a
    → IsCutOff before now text (a ++ b)
cut_first before now text a b h = amid_added_cut before before now text a b (text ++ (a ++ b))
    (amid_begin before text (a ++ b)) h

pub cut_second : (before now : Option (List ℕ)) (text a b text2 : List ℕ) → IsAdded before now text a text2
    → IsCutOff before now text (a ++ b)
cut_second before now text a b text2 h = amid-stop before now text2 b (text ++ (a ++ b))
    (amid_added before before now text a text2 b (text ++ (a ++ b)) (amid_begin before text (a ++ b)) h)

-- where nothing is ever taken, the whole answer waits
a_byte : (c : ℕ) → 1 ≤ length (encode c)
unfolding encode
a_byte c =
    let P : List ℕ → Type 0 = λ bs. 1 ≤ length bs in
    cond_both (ltb c 128) _ _ P (λ l. omega arith)
    (λ a. cond_both (ltb c 2048) _ _ P (λ l. omega arith)
    (λ b. cond_both (ltb c 65536) _ _ P (λ l. omega arith) (λ d. omega arith)))

no_text : (cs : List ℕ) → encode_utf8_all cs ≡ [] → cs ≡ []
no_text [] h = refl
no_text (c ∷ cs) h = absurd (let z : length (encode c ++ encodes cs) ≡ 0 = ap length h in
    let g : ⊥ = omega (arith, z, a_byte c, length-append (encode c) (encodes cs)) in g)

pub kept_whole : (text answer text2 : List ℕ) → IsAdded (Some []) (Some []) text answer text2 → text2 ≡ text ++ answer
kept_whole text answer text2 h =
    let none : [] ≡ encode_utf8_all h.written = ap (λ o. option_map_or (λ (xs : List ℕ). xs) o []) h.took in
    sym (append-nil text2) ∙ ap (λ xs. xs ++ (text2 ++ [])) (sym (no_text h.written (sym none))) ∙ h.is
