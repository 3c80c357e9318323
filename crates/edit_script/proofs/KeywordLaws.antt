-- The table of a script's lines has the keywords and no other names.
use Rattle.std.proofs.Common.{ℕ, ◌≡◌, Bool, true, false, cond, Some, None, Ok, Err, List, [], ◌∷◌, map, refl, ap, ◌∙◌, ◌||◌}
use Rattle.std.specs.List.{find, list_any}
use Rattle.std.specs.Option.{option_map_or}
use Rattle.std.specs.Prelude.{if◌then◌else◌}
use Rattle.std.specs.Str.{bytes_eq}
use Rattle.edit_script.specs.Forms.{before_space, form_among, form_of, is_named}
use Rattle.edit_script.specs.Reading.{by_word, by_words, is_comment, reading, with_words}
use Rattle.edit_script.specs.Words.{words}
use Rattle.edit_script.specs.declared.commands.Command.TheVariants as command
use Rattle.edit_script.specs.declared.commands.Form.{Form}
use Rattle.edit_script.specs.declared.commands.LineFault.TheVariants.{UnknownCommand}
use Rattle.edit_script.specs.declared.commands.TheConstants.{FORMS}
use Rattle.edit_script.specs.Keywords.{is_keyword, keywords}

abbrev name_of : Form → List ℕ
name_of form = before_space form.0

-- the names of the table
names_are : map name_of FORMS ≡ keywords
unfolding keywords
names_are = refl

-- where neither of two is so
neither : (a b : Bool) → (a || b) ≡ false → (a ≡ false) × (b ≡ false)
neither true b e = absurd (let g : ⊥ = cc in g)
neither false b e = (refl, e)

-- a word that is none of the names has no form
none_named : (word : List ℕ) (forms : List Form) → list_any (λ keyword. bytes_eq keyword word) (map name_of forms) ≡ false
    → form_among forms word ≡ None
unfolding form_among
none_named word [] other = refl
none_named word (form ∷ forms) other =
    let apart = neither (is_named word form) (list_any (λ keyword. bytes_eq keyword word) (map name_of forms)) other in
    ap (λ b. cond b (Some form) (find (is_named word) forms)) apart.0 ∙ none_named word forms apart.1

pub others_unknown : (line word : List ℕ) (rest : List (List ℕ)) → words line ≡ word ∷ rest → is_comment word ≡ false
    → is_keyword word ≡ false → reading line ≡ Err UnknownCommand
unfolding reading form_of
others_unknown line word rest e no_comment other =
    let none : form_of word ≡ None =
    none_named word FORMS (ap (list_any (λ keyword. bytes_eq keyword word)) names_are ∙ other) in
    ap by_words e
    ∙ ap (λ b. if b then Ok command.Nothing else by_word word rest) no_comment
    ∙ ap (λ o. option_map_or (λ form. with_words form rest) o (Err UnknownCommand)) none
