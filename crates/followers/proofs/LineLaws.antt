-- The words of a line with ties.
use Rattle.std.proofs.Common.{ℕ, ◌≡◌, Some, None, Result, List, [], ◌∷◌, ap, ◌∙◌}
use Rattle.std.specs.Option.{option_map_or}
use Rattle.edit_script.specs.declared.commands.LineFault.{LineFault}
use Rattle.followers.specs.Lines.{by_tied_word, by_tied_words, word_of}
use Rattle.followers.specs.declared.lines.TieWord.{TieWord}
use Rattle.followers.specs.declared.lines.TiedCommand.{TiedCommand}

pub tie_line : (ws : List (List ℕ)) (first : List ℕ) (rest : List (List ℕ)) (w : TieWord)
    (base : Result TiedCommand LineFault) → ws ≡ first ∷ rest → word_of first ≡ Some w
    → by_tied_words ws base ≡ by_tied_word w rest
tie_line ws first rest w base e f = ap (λ x. by_tied_words x base) e
    ∙ ap (λ o. option_map_or (λ v. by_tied_word v rest) o base) f

pub base_line : (ws : List (List ℕ)) (first : List ℕ) (rest : List (List ℕ)) (base : Result TiedCommand LineFault)
    → ws ≡ first ∷ rest → word_of first ≡ None → by_tied_words ws base ≡ base
base_line ws first rest base e f = ap (λ x. by_tied_words x base) e
    ∙ ap (λ o. option_map_or (λ v. by_tied_word v rest) o base) f

pub no_words : (ws : List (List ℕ)) (base : Result TiedCommand LineFault) → ws ≡ [] → by_tied_words ws base ≡ base
no_words ws base e = ap (λ x. by_tied_words x base) e
