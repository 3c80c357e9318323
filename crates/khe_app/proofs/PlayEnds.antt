-- What a script on an archive leads to.
use Rattle.std.proofs.Common.{ℕ, ◌≡◌, ◌⊎◌, inl, inr, Bool, true, false, cond, List, [], Option, Some, None, IfSome}
use Rattle.std.proofs.Common.{slice_get, sym, ap, subst, ◌∙◌, refl, arith, encode_utf8_all}
use Rattle.std.specs.Option.{option_map_or}
use Rattle.khe_instance.specs.States.{IsValid}
use Rattle.khe_instance.specs.declared.parts.Parts.{Parts}
use Rattle.khe_io.specs.Shelf.{IsMissing}
use Rattle.khe_app.specs.Answers.{IsBegun, IsPlayAnswer, IsPlayOf, IsReadyPlay, IsScriptOf}
use Rattle.reading_commands.specs.Answers.{IsAnswerOf, IsOnlyAnswerOf}
use Rattle.khe_app.specs.Answers.{IsTextOf, IsWith}
use Rattle.khe_app.specs.Ends.{LacksOf, IsEnd}
use Rattle.reading_commands.specs.Ends.{Holdings, IsDecided, Written}
use Rattle.khe_app.specs.Outcome.{IsOutcomeOf, IsPlayTo}
use Rattle.archive_reading.specs.Starting.{Start, barred, start_in, start_of}
use Rattle.archive_reading.specs.Reading.{Reading, evaluable, refused}
use Rattle.khe_app.specs.Outcome.{IsRunOf, IsRunOr, IsScripted, is_understood}
use Rattle.archive_reading.specs.Reading.{IsReadingOf}
use Rattle.command_words.specs.Words.{scripting}
use Rattle.khe_app.proofs.EndsLemmas.{end_starved, end_written, not_two}
use Rattle.reading_commands.specs.declared.answers.Answer.TheVariants.{Read, Refused}
use Rattle.khe_app.specs.declared.program.Play.{Play}
use Rattle.khe_app.specs.declared.program.Play.TheVariants as play
use Rattle.archive_reading.specs.declared.reading.ReadArchive.{ReadArchive}
use Rattle.archive_reading.specs.declared.refusals.Refusal.{Refusal}
use Rattle.khe_app.specs.declared.starting.Begun.{Begun}

-- a start without a timetable says nothing of the script
barred_there : (tied : Bool) (s : Start) (refusal : Refusal) (script : Option (List ℕ)) → s ≡ barred refusal
    → IsScripted tied s script 4 [] → ⊥
barred_there tied s refusal script e h = let k = subst (λ x. IsScripted tied x script 4 []) e h in let n = k.0 in omega (arith, n)

run_there : (b : Bool) → ◌≡◌ {A = ℕ} 4 (cond b 0 7) → ⊥
run_there true e = omega (arith, e)
run_there false e = omega (arith, e)

-- the archive is refused
refused_there : (tied : Bool) (bytes : List ℕ) (number : ℕ) (refusal : Refusal) (script : Option (List ℕ))
    → IsOnlyAnswerOf (Some bytes) (Refused refusal) → (x : Reading) → IsReadingOf bytes x
    → IsScripted tied (start_in number x) script 4 [] → ⊥
refused_there tied bytes number refusal script only (evaluable a r) is h = only a r is
refused_there tied bytes number refusal script only (refused y) is h = let n = h.0 in omega (arith, n)

pub play_refused : (tied : Bool) (h : Holdings) (name : List ℕ) (number : ℕ) (script : List ℕ) (refusal : Refusal)
    → IfSome h (λ under. IsAnswerOf (under name) (Refused refusal))
    → IfSome h (λ under. IsOnlyAnswerOf (under name) (Refused refusal))
    → IfSome h (λ under. IsPlayAnswer tied number (under name) (under script) (play.Refused refusal))
play_refused tied None name number script refusal is only = tt
play_refused tied (Some under) name number script refusal is only = by (under name) is only
  where
    by : (o : Option (List ℕ)) → IsAnswerOf o (Refused refusal) → IsOnlyAnswerOf o (Refused refusal)
        → IsPlayAnswer tied number o (under script) (play.Refused refusal)
    by None none gone = none
    by (Some bytes) reading one = record {
      reading = refused refusal;
      is = reading;
      play = refl;
      there =
          refused_there tied bytes number refusal (under script) one;
    }

-- the solution is refused
pub play_barred : (tied : Bool) (h : Holdings) (name : List ℕ) (number : ℕ) (script : List ℕ) (r : ReadArchive) (refusal : Refusal)
    → IfSome h (λ under. IsAnswerOf (under name) (Read r))
    → IfSome h (λ under. IsOnlyAnswerOf (under name) (Read r)) → start_of r.archive r.resolved number ≡ barred refusal
    → IfSome h (λ under. IsPlayAnswer tied number (under name) (under script) (play.Refused refusal))
play_barred tied None name number script r refusal is only bar = tt
play_barred tied (Some under) name number script r refusal is only bar = by (under name) is only
  where
    by : (o : Option (List ℕ)) → IsAnswerOf o (Read r) → IsOnlyAnswerOf o (Read r)
        → IsPlayAnswer tied number o (under script) (play.Refused refusal)
    by None none gone = none
    by (Some bytes) reading one = record {
      reading = evaluable r.archive r.resolved;
      is = reading;
      play = bar;
      there = λ x i. barred_there tied (start_in number x) refusal (under script) (ap (start_in number) (one x i) ∙ bar);
    }

pub barred_as : (tied : Bool) (h : Holdings) (name : List ℕ) (number : ℕ) (script : List ℕ) (r : ReadArchive) (refusal : Refusal)
    (a : Play) → IfSome h (λ under. IsAnswerOf (under name) (Read r))
    → IfSome h (λ under. IsOnlyAnswerOf (under name) (Read r)) → start_of r.archive r.resolved number ≡ barred refusal
    → a ≡ play.Refused refusal
    → IfSome h (λ under. IsPlayAnswer tied number (under name) (under script) a)
barred_as tied h name number script r refusal a is only bar e =
    subst (λ x. IfSome h (λ under. IsPlayAnswer tied number (under name) (under script) x)) (sym e)
    (play_barred tied h name number script r refusal is only bar)

-- there is a script
begun_there : (tied : Bool) (s : Start) (b : Begun) (script : List ℕ) → IsBegun s b → IsScripted tied s (Some script) 4 [] → ⊥
begun_there tied s b script g h = by (subst (λ x. IsScripted tied x (Some script) 4 []) g.is h)
  where
    by : IsRunOr tied g.parts b.plain script 4 [] → ⊥
    by (inl l) = let n = l.1 in omega (arith, n)
    by (inr r) = run_there (is_understood tied script) r.1.status_is

script_play : (s : Start) (b : Begun) (script : Option (List ℕ)) (a : Play) → IsBegun s b → IsScriptOf b script a
    → IsPlayOf s script a
script_play s b None a g h = absurd h
script_play s b (Some script) (play.Refused refusal) g h = absurd h
script_play s b (Some script) play.TooLarge g h = (b, g, h)
script_play s b (Some script) (play.Run begun bytes) g h = (subst (IsBegun s) (sym h.1) g, h.0, h.2)

script_there : (tied : Bool) (s : Start) (b : Begun) (script : Option (List ℕ)) (a : Play) → IsBegun s b → IsScriptOf b script a
    → IsScripted tied s script 4 [] → ⊥
script_there tied s b None a g h l = h
script_there tied s b (Some script) a g h l = begun_there tied s b script g l

pub play_script : (tied : Bool) (h : Holdings) (name : List ℕ) (number : ℕ) (script : List ℕ) (r : ReadArchive) (b : Begun) (a : Play)
    → IfSome h (λ under. IsAnswerOf (under name) (Read r))
    → IfSome h (λ under. IsOnlyAnswerOf (under name) (Read r)) → IsBegun (start_of r.archive r.resolved number) b
    → IfSome h (λ under. IsScriptOf b (under script) a)
    → IfSome h (λ under. IsPlayAnswer tied number (under name) (under script) a)
play_script tied None name number script r b a is only g k = tt
play_script tied (Some under) name number script r b a is only g k = by (under name) is only
  where
    by : (o : Option (List ℕ)) → IsAnswerOf o (Read r) → IsOnlyAnswerOf o (Read r)
        → IsPlayAnswer tied number o (under script) a
    by None none gone = none
    by (Some bytes) reading one = record {
      reading = evaluable r.archive r.resolved;
      is = reading;
      play = script_play (start_of r.archive r.resolved number) b (under script) a g k;
      there = λ x i l. script_there tied (start_of r.archive r.resolved number) b (under script) a g k
          (subst (λ y. IsScripted tied (start_in number y) (under script) 4 []) (one x i) l);
    }

-- what is held is ready to be run
pub with_ready : (s : Start) (b : Begun) (a : Play) → IsBegun s b → IsWith b a → IsReadyPlay a
with_ready s b (play.Refused refusal) g w = absurd w
with_ready s b play.TooLarge g w = tt
with_ready s b (play.Run begun script) g w = record {
  parts = g.parts;
  at = subst (λ (x : Begun). slice_get x.resolved.instances x.instance ≡ Some g.parts) (sym w.0) g.at;
  valid = subst (λ (x : Begun). IsValid g.parts x.plain) (sym w.0) g.valid;
  small = w.1;
}

-- what is missing
pub lacks_archive : (tied : Bool) (h : Holdings) (name : List ℕ) (number : ℕ) (script : List ℕ) → IsMissing h name
    → LacksOf (Some (scripting name number script tied)) h
lacks_archive tied None name number script m = m
lacks_archive tied (Some under) name number script m =
    subst (λ o. IsPlayTo tied number o (under script) 4 []) (sym m) (refl, refl)

pub lacks_script : (tied : Bool) (h : Holdings) (name : List ℕ) (number : ℕ) (script : List ℕ) (r : ReadArchive) (b : Begun)
    → IfSome h (λ under. IsAnswerOf (under name) (Read r))
    → IsBegun (start_of r.archive r.resolved number) b → IsMissing h script
    → LacksOf (Some (scripting name number script tied)) h
lacks_script tied None name number script r b is g m = m
lacks_script tied (Some under) name number script r b is g m = by (under name) is
  where
    by : (o : Option (List ℕ)) → IsAnswerOf o (Read r) → IsPlayTo tied number o (under script) 4 []
    by None none = absurd none
    by (Some bytes) reading = record {
      reading = evaluable r.archive r.resolved;
      is = reading;
      scripted = subst (λ o. IsScripted tied (start_of r.archive r.resolved number) o 4 []) (sym m)
          (subst (λ s. IsScripted tied s None 4 []) (sym g.is) (refl, refl));
    }

-- the text of what a script leads to is that of the outcome
scripted : (tied : Bool) (s : Start) (script : Option (List ℕ)) (a : Play) (status : ℕ) (text : List ℕ) → IsPlayOf s script a
    → IsTextOf tied a status text → IsScripted tied s script status text
scripted tied s script (play.Refused refusal) status text e t = subst (λ x. IsScripted tied x script status text) (sym e) t
scripted tied s None play.TooLarge status text e t = absurd e
scripted tied s (Some script) play.TooLarge status text (b, g, large) t =
    subst (λ x. IsScripted tied x (Some script) status text) (sym g.is) (inl (large, t.0, t.1))
scripted tied s None (play.Run b bytes) status text e t = absurd e
scripted tied s (Some script) (play.Run b bytes) status text (g, same, small) t =
    subst (λ x. IsScripted tied x (Some script) status text) (sym g.is)
    (inr (small, subst (λ y. IsRunOf tied g.parts b.plain y status text) same (t g.parts g.at)))

pub played : (tied : Bool) (h : Holdings) (name : List ℕ) (number : ℕ) (script : List ℕ) (a : Play) (status : ℕ) (text : List ℕ)
    → IfSome h (λ under. IsPlayAnswer tied number (under name) (under script) a)
    → IsTextOf tied a status text → IfSome h (λ under. IsOutcomeOf (Some (scripting name number script tied)) under status text)
played tied None name number script a status text is t = tt
played tied (Some under) name number script a status text is t = by (under name) is
  where
    by : (o : Option (List ℕ)) → IsPlayAnswer tied number o (under script) a → IsPlayTo tied number o (under script) status text
    by None none = absurd none
    by (Some bytes) p = record {
      reading = p.reading;
      is = p.is;
      scripted =
          scripted tied (start_in number p.reading) (under script) a status text p.play t;
    }

pub played_there : (tied : Bool) (h : Holdings) (name : List ℕ) (number : ℕ) (script : List ℕ) (a : Play)
    → IfSome h (λ under. IsPlayAnswer tied number (under name) (under script) a)
    → LacksOf (Some (scripting name number script tied)) h → ⊥
played_there tied None name number script a is l = l
played_there tied (Some under) name number script a is l = by (under name) is l
  where
    by : (o : Option (List ℕ)) → IsPlayAnswer tied number o (under script) a → IsPlayTo tied number o (under script) 4 [] → ⊥
    by None none q = none
    by (Some bytes) p q = p.there q.reading q.is q.scripted

-- its status is that of a decided run
run_decided : (b : Bool) (status : ℕ) → ◌≡◌ {A = ℕ} status (cond b 0 7) → IsDecided status
run_decided true status e = inl e
run_decided false status e = inr (inr (inr e))

pub text_decided : (tied : Bool) (a : Play) (status : ℕ) (text : List ℕ) → IsReadyPlay a → IsTextOf tied a status text → IsDecided status
text_decided tied (play.Refused refusal) status text ready t = inr (inr (inl t.0))
text_decided tied play.TooLarge status text ready t = inr (inr (inr t.0))
text_decided tied (play.Run b script) status text ready t =
    run_decided (is_understood tied script) status (t ready.parts ready.at).status_is

text_not_two : (tied : Bool) (a : Play) (status : ℕ) (text : List ℕ) → IsReadyPlay a → IsTextOf tied a status text → status ≡ 2 → ⊥
text_not_two tied (play.Refused refusal) status text ready t e = let f = t.0 in omega (arith, e, f)
text_not_two tied play.TooLarge status text ready t e = let f = t.0 in omega (arith, e, f)
text_not_two tied (play.Run b script) status text ready t e =
    by (is_understood tied script) (sym (t ready.parts ready.at).status_is ∙ e)
  where
    by : (b : Bool) → ◌≡◌ {A = ℕ} (cond b 0 7) 2 → ⊥
    by true k = omega (arith, k)
    by false k = omega (arith, k)

-- the run that wrote it
pub end_played : (tied : Bool) (h : Holdings) (name : List ℕ) (number : ℕ) (script : List ℕ) (a : Play) (sound : Bool)
    (shelf shelf2 : ℕ) (before after : Option (List ℕ)) (sink sink2 result : ℕ)
    → IfSome h (λ under. IsPlayAnswer tied number (under name) (under script) a) → IsReadyPlay a
    → ((result ≡ 6) × (after ≡ before)) ⊎ ((status : ℕ) × (text : List ℕ) × IsTextOf tied a status text
    × Written before after sink sink2 (encode_utf8_all text) status result)
    → IsEnd (Some (scripting name number script tied)) h sound shelf shelf2 before after sink sink2 result
end_played tied h name number script a sound shelf shelf2 before after sink sink2 result is ready (inl w) =
    end_starved (Some (scripting name number script tied)) h sound shelf shelf2 before after sink sink2 result w.0 w.1
end_played tied h name number script a sound shelf shelf2 before after sink sink2 result is ready
    (inr (status, text, t, w)) =
    end_written (Some (scripting name number script tied)) h sound shelf shelf2 before after sink sink2 text status result
    (played tied h name number script a status text is t) (text_decided tied a status text ready t) w
    (λ s l. played_there tied h name number script a is l)

pub played_not_two : (tied : Bool) (a : Play) (before after : Option (List ℕ)) (sink sink2 result : ℕ) → IsReadyPlay a
    → ((result ≡ 6) × (after ≡ before)) ⊎ ((status : ℕ) × (text : List ℕ) × IsTextOf tied a status text
    × Written before after sink sink2 (encode_utf8_all text) status result) → result ≡ 2 → ⊥
played_not_two tied a before after sink sink2 result ready (inl w) e = let f = w.0 in omega (arith, e, f)
played_not_two tied a before after sink sink2 result ready (inr (status, text, t, w)) e =
    not_two before after sink sink2 (encode_utf8_all text) status result w (text_not_two tied a status text ready t) e

-- the run of a script on the timetable that is held
pub run_text : (tied : Bool) (b : Begun) (script : List ℕ) (p : Parts) (before after : Option (List ℕ)) (sink sink2 result : ℕ)
    → slice_get b.resolved.instances b.instance ≡ Some p
    → ((result ≡ 6) × (after ≡ before)) ⊎ ((status : ℕ) × (text : List ℕ) × IsRunOf tied p b.plain script status text
    × Written before after sink sink2 (encode_utf8_all text) status result)
    → ((result ≡ 6) × (after ≡ before)) ⊎ ((status : ℕ) × (text : List ℕ) × IsTextOf tied (play.Run b script) status text
    × Written before after sink sink2 (encode_utf8_all text) status result)
run_text tied b script p before after sink sink2 result at (inl w) = inl w
run_text tied b script p before after sink sink2 result at (inr (status, text, r, w)) =
    inr (status, text, (λ q h. subst (λ x. IsRunOf tied x b.plain script status text) (injective p q (sym at ∙ h)) r), w)
  where
    injective : (x y : Parts) → Some x ≡ Some y → x ≡ y
    injective x y e = ap (λ o. option_map_or (λ z. z) o x) e
