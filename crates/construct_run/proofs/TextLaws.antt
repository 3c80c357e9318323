-- What a construction is written as is a text.
use Rattle.std.proofs.Common.{ℕ, ◌≡◌, List, [], ◌∷◌, ◌++◌, All, None, encode_utf8_all, refl, ap, subst, ◌∙◌}
use Rattle.std.specs.Prelude.{codes}
use Rattle.std.specs.Str.{IsUtf8, chars}
use Rattle.std.proofs.lemmas.List.Elements.{All-cons, All-nil}
use Rattle.std.proofs.lemmas.Str.{encodes-append, encodes-chars}
use Rattle.construct.specs.declared.built.Built.{Built}
use Rattle.construct_run.specs.Constructs.{built_bytes, built_line, mended_bytes}
use Rattle.construct_run.specs.Grouped.{blank, grouped}
use Rattle.khe_instance.specs.declared.parts.Parts.{Parts}
use Rattle.khe_instance.specs.declared.states.Plain.{Plain}
use Rattle.repair_run.proofs.SpellLaws.{respelled_formed}
use Rattle.repair_run.specs.Lines.{repair_line}
use Rattle.repair_run.specs.Placed.{groups_with, respelled}
use Rattle.xhstt_entries.specs.Texts.{HasSpellable}
use Rattle.repair_run.specs.declared.mending.Mended.{Mended}
use Rattle.xhstt_completion.specs.Entries as completed
use Rattle.xhstt_entries.specs.Spelled.{entries_of}
use Rattle.xhstt_shape.specs.Characters.{IsSpellable, IsSpellableEntry, IsSpellableSolution, IsSpellableSolutionGroup}
use Rattle.xhstt_shape.specs.WellFormed.{IsEntry, IsSolution, IsSolutionGroup, IsWellFormed}
use Rattle.xhstt_shape.specs.declared.records.Archive.{Archive}
use Rattle.xhstt_shape.specs.declared.records.SolutionGroup.{SolutionGroup}
use Rattle.xhstt_writer.proofs.Written.{canonical_spells}
use Rattle.xhstt_writer.specs.Archives.{canonical}

-- the archive before the timetable is spelt: its only solution says nothing
abbrev blank_group : Parts → SolutionGroup
blank_group p = record {
  id = record { text = codes "constructed"; at = 0 };
  meta_data = None;
  solutions = blank p ∷ [];
}

abbrev blanked : Archive → Parts → Archive
blanked a p = record a { solution_groups = blank_group p ∷ [] }

blank_texts : (p : Parts) → IsSpellable p.id → IsSpellableSolution (blank p)
blank_texts p id = record { reference = id; description = tt; running_time = tt; events = All-nil IsSpellableEntry }

group_texts : (p : Parts) → IsSpellable p.id → IsSpellableSolutionGroup (blank_group p)
group_texts p id = record {
  id = (refl, (refl, (refl, (refl, (refl, (refl, (refl, (refl, (refl, (refl, (refl, tt)))))))))));
  meta_data = tt;
  solutions = All-cons IsSpellableSolution (blank p) [] (blank_texts p id) (All-nil IsSpellableSolution);
}

blanked_formed : (a : Archive) → IsWellFormed a → (p : Parts) → IsSpellable p.id → IsWellFormed (blanked a p)
blanked_formed a w p id = record {
  in_form = record {
    instances = w.in_form.instances;
    solution_groups =
        All-cons IsSolutionGroup (blank_group p) []
        (All-cons IsSolution (blank p) [] (All-nil IsEntry) (All-nil IsSolution)) (All-nil IsSolutionGroup);
  };
  spellable = record {
    id = w.spellable.id;
    meta_data = w.spellable.meta_data;
    instances = w.spellable.instances;
    solution_groups =
        All-cons IsSpellableSolutionGroup (blank_group p) [] (group_texts p id) (All-nil IsSpellableSolutionGroup);
  };
}

spelt_there : (a : Archive) (p : Parts) (s : Plain) → respelled (blanked a p) 0 p s ≡ grouped a p s
unfolding groups_with
spelt_there a p s = refl

grouped_formed : (a : Archive) → IsWellFormed a → (p : Parts) → HasSpellable p → IsSpellable p.id → (s : Plain)
    → All (completed.IsEntry p) (entries_of p s) → IsWellFormed (grouped a p s)
grouped_formed a w p h id s is =
    subst IsWellFormed (spelt_there a p s) (respelled_formed (blanked a p) (blanked_formed a w p id) p h 0 s is)

utf8 : (a : Archive) → IsWellFormed a → IsUtf8 (canonical a)
utf8 a w = let read = canonical_spells a w in read.2.1.0

-- an archive with a timetable alone, and a line after it
lined : (a : Archive) → IsWellFormed a → (p : Parts) → HasSpellable p → IsSpellable p.id → (s : Plain)
    → All (completed.IsEntry p) (entries_of p s) → (line : List ℕ)
    → (text : List ℕ) × (encode_utf8_all text ≡ canonical (grouped a p s) ++ encode_utf8_all line)
lined a w p h id s is line = let bytes = canonical (grouped a p s) in (
  chars bytes ++ line,
  encodes-append (chars bytes) line
      ∙ ap (λ xs. xs ++ encode_utf8_all line)
      (encodes-chars bytes (utf8 (grouped a p s) (grouped_formed a w p h id s is))),
)

pub built_text : (a : Archive) → IsWellFormed a → (p : Parts) → HasSpellable p → IsSpellable p.id → (b : Built)
    → All (completed.IsEntry p) (entries_of p b.plain)
    → (text : List ℕ) × (encode_utf8_all text ≡ built_bytes a p b)
built_text a w p h id b is = lined a w p h id b.plain is (built_line b)

pub mended_text : (a : Archive) → IsWellFormed a → (p : Parts) → HasSpellable p → IsSpellable p.id → (b : Built)
    (m : Mended) → All (completed.IsEntry p) (entries_of p m.plain)
    → (text : List ℕ) × (encode_utf8_all text ≡ mended_bytes a p b m)
mended_text a w p h id b m is = lined a w p h id m.plain is (built_line b ++ repair_line m.outcome m.totals)
