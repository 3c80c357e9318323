-- Bytes that are written piece by piece, while lines are read one after the other.
use Rattle.std.proofs.Common.{ℕ, ◌≡◌, ◌+◌, Option, None, Some, List, [], ◌∷◌, ◌++◌, append_assoc, ap, sym, subst, refl, ◌∙◌}
use Rattle.std.proofs.Common.{encode_utf8_all}
use Rattle.std.proofs.lemmas.List.{append-nil}
use Rattle.std.proofs.lemmas.Str.{encodes-append}
use Rattle.std.specs.Io.KnownBytes.{Consumes}
use Rattle.edit_script.specs.Lines.{lines}
use Rattle.khe_io.specs.Faults.{Took, TookFront}
use Rattle.khe_io.proofs.Writing.{Took-more}
use Rattle.talk_run.specs.Between.{HadLeft, IsBetween, IsCutOff, IsLast, IsLine, IsTalked, IsTalking}

-- a piece joins what waits
pub between_push : (before now : Option (List ℕ)) (pending piece rest whole : List ℕ)
    → IsBetween before now pending (encode_utf8_all piece ++ rest) whole
    → IsBetween before now (pending ++ piece) rest whole
between_push before now pending piece rest whole h = record {
  written = h.written;
  took = h.took;
  is = ap (λ xs. h.written ++ xs) (ap (λ xs. xs ++ rest) (encodes-append pending piece)
      ∙ append_assoc (encode_utf8_all pending) (encode_utf8_all piece) rest) ∙ h.is;
}

-- a piece that spells what is to be written next joins what waits
pub between_pushed : (before now : Option (List ℕ)) (pending pending2 piece bytes rest whole : List ℕ)
    → bytes ≡ encode_utf8_all piece → pending2 ≡ pending ++ piece → IsBetween before now pending (bytes ++ rest) whole
    → IsBetween before now pending2 rest whole
between_pushed before now pending pending2 piece bytes rest whole e f h =
    subst (λ t. IsBetween before now t rest whole) (sym f)
    (between_push before now pending piece rest whole
    (subst (λ bs. IsBetween before now pending (bs ++ rest) whole) e h))

-- what waits is taken
pub between_flush : (before now after : Option (List ℕ)) (pending rest whole : List ℕ)
    → IsBetween before now pending rest whole → Took now after (encode_utf8_all pending)
    → IsBetween before after [] rest whole
between_flush before now after pending rest whole h took = record {
  written = h.written ++ encode_utf8_all pending;
  took = Took-more before now after h.written (encode_utf8_all pending) h.took took;
  is = append_assoc h.written (encode_utf8_all pending) rest ∙ h.is;
}

-- bytes are taken where nothing waits
pub between_give : (before now after : Option (List ℕ)) (bytes rest whole : List ℕ)
    → IsBetween before now [] (bytes ++ rest) whole → Took now after bytes → IsBetween before after [] rest whole
between_give before now after bytes rest whole h took = record {
  written = h.written ++ bytes;
  took = Took-more before now after h.written bytes h.took took;
  is = append_assoc h.written bytes rest ∙ h.is;
}

-- a first part of what is to be written next is taken
front-of : (before now after : Option (List ℕ)) (written bytes rest whole : List ℕ) → Took before now written
    → written ++ (bytes ++ rest) ≡ whole → TookFront now after bytes → TookFront before after whole
front-of before now after written bytes rest whole had e (front, left, is, took) = (
  written ++ front,
  left ++ rest,
  sym e ∙ ap (λ xs. written ++ (xs ++ rest)) is ∙ ap (λ xs. written ++ xs) (append_assoc front left rest)
      ∙ sym (append_assoc written front (left ++ rest)),
  Took-more before now after written front had took,
)

-- a first part of what waits is taken
pub between_cut : (before now after : Option (List ℕ)) (pending rest whole : List ℕ)
    → IsBetween before now pending rest whole → TookFront now after (encode_utf8_all pending)
    → TookFront before after whole
between_cut before now after pending rest whole h cut =
    front-of before now after h.written (encode_utf8_all pending) rest whole h.took h.is cut

-- a first part of bytes is taken where nothing waits
pub between_cut_give : (before now after : Option (List ℕ)) (bytes rest whole : List ℕ)
    → IsBetween before now [] (bytes ++ rest) whole → TookFront now after bytes → TookFront before after whole
between_cut_give before now after bytes rest whole h cut =
    front-of before now after h.written bytes rest whole h.took h.is cut

-- nothing more is taken
pub between_stop : (before now : Option (List ℕ)) (pending rest whole : List ℕ)
    → IsBetween before now pending rest whole → TookFront before now whole
between_stop before now pending rest whole h = (h.written, encode_utf8_all pending ++ rest, sym h.is, h.took)

-- at the end all is taken
pub between_end : (before now : Option (List ℕ)) (whole : List ℕ) → IsBetween before now [] [] whole → Took before now whole
between_end before now whole h = subst (Took before now) (sym (append-nil h.written) ∙ h.is) h.took

nothing-took : (before : Option (List ℕ)) → Took before before []
nothing-took None = refl
nothing-took (Some xs) = ap Some (sym (append-nil xs))

-- before anything is written
pub between_begin : (before : Option (List ℕ)) (pending bytes whole : List ℕ) → pending ≡ [] → bytes ≡ whole
    → IsBetween before before pending (bytes ++ []) whole
between_begin before pending bytes whole e f = subst (λ t. IsBetween before before t (bytes ++ []) whole) (sym e) (record {
  written = [];
  took = nothing-took before;
  is = append-nil bytes ∙ f;
})

nothing-read : (left : Option (List ℕ)) → Consumes left left []
nothing-read None = tt
nothing-read (Some xs) = refl

more-read : (left left2 left3 : Option (List ℕ)) (a b : List ℕ) → Consumes left left2 a → Consumes left2 left3 b
    → Consumes left left3 (a ++ b)
more-read None left2 left3 a b one two = tt
more-read (Some xs) None left3 a b one two = absurd one
more-read (Some xs) (Some ys) None a b one two = absurd two
more-read (Some xs) (Some ys) (Some zs) a b one two = one ∙ ap (λ t. a ++ t) two ∙ sym (append_assoc a b zs)

all-read : (left left2 : Option (List ℕ)) (a b : List ℕ) → Consumes left left2 a → HadLeft left2 b
    → HadLeft left (a ++ b)
all-read None left2 a b one two = tt
all-read (Some xs) None a b one two = absurd one
all-read (Some xs) (Some ys) a b one two = one ∙ ap (λ t. a ++ t) two

-- what was read, and what else there was
record IsRest (left : Option (List ℕ)) (bytes : List ℕ) : Type 0 where
  rest : List ℕ
  all : HadLeft left (bytes ++ rest)

rest-of : (left left2 : Option (List ℕ)) (bytes : List ℕ) → Consumes left left2 bytes → IsRest left bytes
rest-of None left2 bytes read = record { rest = []; all = tt }
rest-of (Some xs) None bytes read = absurd read
rest-of (Some xs) (Some ys) bytes read = record { rest = ys; all = read }

no-lines : lines [] ≡ []
unfolding lines
no-lines = refl

-- before the first line
pub talking_start : (left before : Option (List ℕ)) (said : List (List ℕ) → List ℕ)
    → IsTalking left left before before said said
talking_start left before said = record {
  bytes = [];
  read = nothing-read left;
  is = λ more. record { written = []; took = nothing-took before; is = refl };
}

-- the next line is read
pub before-line : (left left2 left3 before now : Option (List ℕ)) (said first : List (List ℕ) → List ℕ) (line more : List ℕ)
    → (t : IsTalking left left2 before now said first) → (l : IsLine left2 left3 line)
    → IsBetween before now [] (said (line ∷ lines more)) (first (lines ((t.bytes ++ l.bytes) ++ more)))
before-line left left2 left3 before now said first line more t l =
    subst (λ ls. IsBetween before now [] (said ls) (first (lines ((t.bytes ++ l.bytes) ++ more)))) (l.next more)
    (subst (λ xs. IsBetween before now [] (said (lines (l.bytes ++ more))) (first (lines xs)))
    (sym (append_assoc t.bytes l.bytes more)) (t.is (l.bytes ++ more)))

-- and answered
pub talking_line : (left left2 left3 before now now2 : Option (List ℕ)) (said said2 first : List (List ℕ) → List ℕ)
    (line : List ℕ) → IsTalking left left2 before now said first → IsLine left2 left3 line
    → ((b : Option (List ℕ)) (more : List (List ℕ)) (whole : List ℕ) → IsBetween b now [] (said (line ∷ more)) whole
    → IsBetween b now2 [] (said2 more) whole) → IsTalking left left3 before now2 said2 first
talking_line left left2 left3 before now now2 said said2 first line t l answered = record {
  bytes = t.bytes ++ l.bytes;
  read = more-read left left2 left3 t.bytes l.bytes t.read l.read;
  is = λ more. answered before (lines more) (first (lines ((t.bytes ++ l.bytes) ++ more)))
      (before-line left left2 left3 before now said first line more t l);
}

-- the last line is read
before-last : (left left2 before now : Option (List ℕ)) (said first : List (List ℕ) → List ℕ) (line : List ℕ)
    → (t : IsTalking left left2 before now said first) → (l : IsLast left2 line)
    → IsBetween before now [] (said (line ∷ [])) (first (lines (t.bytes ++ l.bytes)))
before-last left left2 before now said first line t l =
    subst (λ ls. IsBetween before now [] (said ls) (first (lines (t.bytes ++ l.bytes)))) l.last (t.is l.bytes)

-- and answered
pub talked_last : (left left2 before now now2 : Option (List ℕ)) (said said2 first : List (List ℕ) → List ℕ)
    (line : List ℕ) → IsTalking left left2 before now said first → IsLast left2 line
    → ((b : Option (List ℕ)) (more : List (List ℕ)) (whole : List ℕ) → IsBetween b now [] (said (line ∷ more)) whole
    → IsBetween b now2 [] (said2 more) whole) → said2 [] ≡ [] → IsTalked left before now2 first
talked_last left left2 before now now2 said said2 first line t l answered ends = record {
  bytes = t.bytes ++ l.bytes;
  all = all-read left left2 t.bytes l.bytes t.read l.all;
  took = between_end before now2 (first (lines (t.bytes ++ l.bytes)))
      (subst (λ xs. IsBetween before now2 [] xs (first (lines (t.bytes ++ l.bytes)))) ends
      (answered before [] (first (lines (t.bytes ++ l.bytes))) (before-last left left2 before now said first line t l)));
}

-- no line is left
pub talked_end : (left left2 before now : Option (List ℕ)) (said first : List (List ℕ) → List ℕ)
    → IsTalking left left2 before now said first → HadLeft left2 [] → said [] ≡ [] → IsTalked left before now first
talked_end left left2 before now said first t none ends = record {
  bytes = t.bytes ++ [];
  all = all-read left left2 t.bytes [] t.read none;
  took = between_end before now (first (lines (t.bytes ++ [])))
      (subst (λ xs. IsBetween before now [] xs (first (lines (t.bytes ++ [])))) (ap said no-lines ∙ ends) (t.is []));
}

-- no line more is read
pub cut_read : (left left2 before now : Option (List ℕ)) (said first : List (List ℕ) → List ℕ)
    → IsTalking left left2 before now said first → IsCutOff left before now first
cut_read left left2 before now said first t =
    let r = rest-of left left2 t.bytes t.read in
    record {
      bytes = t.bytes ++ r.rest;
      all = r.all;
      front = between_stop before now [] (said (lines r.rest)) (first (lines (t.bytes ++ r.rest))) (t.is r.rest);
    }

-- a line is not answered whole
pub cut_line : (left left2 left3 before now now2 : Option (List ℕ)) (said first : List (List ℕ) → List ℕ)
    (line : List ℕ) → IsTalking left left2 before now said first → IsLine left2 left3 line
    → ((b : Option (List ℕ)) (more : List (List ℕ)) (whole : List ℕ) → IsBetween b now [] (said (line ∷ more)) whole
    → TookFront b now2 whole) → IsCutOff left before now2 first
cut_line left left2 left3 before now now2 said first line t l answered =
    let r = rest-of left left3 (t.bytes ++ l.bytes) (more-read left left2 left3 t.bytes l.bytes t.read l.read) in
    record {
      bytes = (t.bytes ++ l.bytes) ++ r.rest;
      all = r.all;
      front = answered before (lines r.rest) (first (lines ((t.bytes ++ l.bytes) ++ r.rest)))
          (before-line left left2 left3 before now said first line r.rest t l);
    }

-- nor the last
pub cut_last : (left left2 before now now2 : Option (List ℕ)) (said first : List (List ℕ) → List ℕ) (line : List ℕ)
    → IsTalking left left2 before now said first → IsLast left2 line
    → ((b : Option (List ℕ)) (more : List (List ℕ)) (whole : List ℕ) → IsBetween b now [] (said (line ∷ more)) whole
    → TookFront b now2 whole) → IsCutOff left before now2 first
cut_last left left2 before now now2 said first line t l answered = record {
  bytes = t.bytes ++ l.bytes;
  all = all-read left left2 t.bytes l.bytes t.read l.all;
  front = answered before [] (first (lines (t.bytes ++ l.bytes)))
      (before-last left left2 before now said first line t l);
}
