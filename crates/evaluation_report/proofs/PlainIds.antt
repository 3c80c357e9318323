-- An Id whose bytes are no characters that are written as references is written as it is.
use Rattle.std.proofs.Common.{◌≡◌, ◌∙◌, refl, sym, ap, subst, ℕ, Bool, true, false, ◌==◌, List, [], ◌∷◌, ◌++◌}
use Rattle.std.proofs.Common.{encode_utf8, encode_utf8_all, if◌then◌else◌}
use Rattle.std.specs.List.{list_all}
use Rattle.std.proofs.lemmas.Bool.{and_parts, eqb-true, false_from_ne_true, false≢true}
use Rattle.std.proofs.lemmas.List.Folds.{list_all-append}
use Rattle.xhstt_text.specs.Escape.{escaped, escaped_character}
use Rattle.evaluation_report.specs.Words.{stays}

-- what is no such character takes no such branch
passed : {X : Type 0} (b : Bool) (x y z : X) → b ≡ false → y ≡ z → (if b then x else y) ≡ z
passed false x y z h e = e
passed true x y z h e = cc

-- a character whose bytes stay is none whose bytes do not
other : (c k : ℕ) → list_all stays (encode_utf8 k) ≡ false → list_all stays (encode_utf8 c) ≡ true → (c == k) ≡ false
other c k f h = false_from_ne_true _ (λ e. false≢true (sym f ∙ subst (λ x. list_all stays (encode_utf8 x) ≡ true) (eqb-true c k e) h))

same_character : (c : ℕ) → list_all stays (encode_utf8 c) ≡ true → escaped_character c ≡ c ∷ []
unfolding lib.Utf8.encode
same_character c h =
    passed (c == 38) _ _ _ (other c 38 refl h)
    (passed (c == 60) _ _ _ (other c 60 refl h)
    (passed (c == 62) _ _ _ (other c 62 refl h)
    (passed (c == 34) _ _ _ (other c 34 refl h)
    (passed (c == 9) _ _ _ (other c 9 refl h)
    (passed (c == 10) _ _ _ (other c 10 refl h)
    (passed (c == 13) _ _ _ (other c 13 refl h) refl))))))

pub written_as_it_is : (cs : List ℕ) → list_all stays (encode_utf8_all cs) ≡ true → escaped cs ≡ cs
written_as_it_is [] h = refl
written_as_it_is (c ∷ cs) h =
    let parts = and_parts _ _ (sym (list_all-append stays (encode_utf8 c) (encode_utf8_all cs)) ∙ h) in
    ap (λ xs. xs ++ escaped cs) (same_character c parts.0) ∙ ap (λ xs. c ∷ xs) (written_as_it_is cs parts.1)
