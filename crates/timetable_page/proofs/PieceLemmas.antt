-- Pieces that are added one after another.
use Rattle.std.proofs.Common.{ℕ, ◌≡◌, ◌∙◌, List, ◌++◌, ap, append_assoc}

pub three : (page one two a b c : List ℕ) → one ≡ page ++ a → two ≡ one ++ b → two ++ c ≡ page ++ (a ++ (b ++ c))
three page one two a b c e d =
    ap (λ t. t ++ c) (d ∙ ap (λ t. t ++ b) e) ∙ append_assoc (page ++ a) b c ∙ append_assoc page a (b ++ c)

pub two_counts : (page one a b c rest : List ℕ) → one ≡ page ++ (a ++ (b ++ c))
    → one ++ rest ≡ page ++ (a ++ (b ++ (c ++ rest)))
two_counts page one a b c rest e =
    ap (λ t. t ++ rest) e ∙ append_assoc page (a ++ (b ++ c)) rest
    ∙ ap (λ t. page ++ t) (append_assoc a (b ++ c) rest ∙ ap (λ t. a ++ t) (append_assoc b c rest))
