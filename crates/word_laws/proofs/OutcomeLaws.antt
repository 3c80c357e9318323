-- The outcome of words is that of their reading by the table.
use Rattle.std.proofs.Common.{ℕ, ◌≡◌, Option, Some, None, List, inl, inr, refl, sym, subst}
use Rattle.khe_app.specs.Outcome.{IsOutcome, IsOutcomeOf}
use Rattle.reading_commands.specs.Lines.{not_understood_line}
use Rattle.command_words.specs.Words.{Asked, asked}
use Rattle.word_laws.specs.Outcomes.{IsOutcomeByTable}
use Rattle.command_words.specs.Table.{HasNoReading}
use Rattle.command_words.proofs.ReadLaws.{read_by_table}
use Rattle.command_words.proofs.TableLaws.{asked_by_table, unread}

by_reading : (words : List (List ℕ)) (under : List ℕ → Option (List ℕ)) (status : ℕ) (text : List ℕ) (o : Option Asked)
    → asked words ≡ o → IsOutcomeOf o under status text → IsOutcomeByTable words under status text
by_reading words under status text None e h = inr (unread words e, h.0, h.1)
by_reading words under status text (Some a) e h =
    inl (record { a = a; reading = read_by_table words a e; outcome = h })

pub outcome_by_table : (words : List (List ℕ)) (under : List ℕ → Option (List ℕ)) (status : ℕ) (text : List ℕ)
    → IsOutcome words under status text → IsOutcomeByTable words under status text
outcome_by_table words under status text h = by_reading words under status text (asked words) refl h

by_none : (words : List (List ℕ)) (under : List ℕ → Option (List ℕ)) (status : ℕ) (text : List ℕ) (o : Option Asked)
    → asked words ≡ o → HasNoReading words → status ≡ 2 → text ≡ not_understood_line
    → IsOutcomeOf o under status text
by_none words under status text None e none s t = (s, t)
by_none words under status text (Some a) e none s t = absurd (none a (read_by_table words a e))

pub table_outcome : (words : List (List ℕ)) (under : List ℕ → Option (List ℕ)) (status : ℕ) (text : List ℕ)
    → IsOutcomeByTable words under status text → IsOutcome words under status text
table_outcome words under status text (inl h) =
    subst (λ (o : Option Asked). IsOutcomeOf o under status text) (sym (asked_by_table words h.a h.reading)) h.outcome
table_outcome words under status text (inr (none, s, t)) =
    by_none words under status text (asked words) refl none s t
