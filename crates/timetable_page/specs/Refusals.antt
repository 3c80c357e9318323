-- The page that refuses an archive.
use Rattle.std.specs.Prelude.{ℕ, List, ◌++◌, codes}
use Rattle.archive_reading.specs.Refusals.{refusal_words}
use Rattle.archive_reading.specs.declared.refusals.Refusal.{Refusal}

-- what the page of a refusal begins with
abbrev pub refusal_head : List ℕ
refusal_head =
    codes "<!DOCTYPE html>\n<html lang=\"en\"><meta charset=\"utf-8\"><title>Refused</title>\n<p>khe: archive refused: "

-- the page of a refusal, which says of it what `khe` says
abbrev pub refusal_page : Refusal → List ℕ
refusal_page refusal = refusal_head ++ refusal_words refusal ++ codes "</p></html>\n"
