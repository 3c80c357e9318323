-- The bytes from here on are equal where all are.
use Rattle.std.proofs.Common.{◌≡◌, ◌≤◌, drop, length}
use Rattle.std.specs.Prelude.{bytes_eq}
use Rattle.edit_script.specs.Forms.{before_space}
use Rattle.edit_script.proofs.forms.is_name.Given as goal

abbrev pub invariant-loop-place : goal.invariant-loop-place
invariant-loop-place l = (l.place ≤ length l.word)
    × (bytes_eq (before_space (drop l.place l.name)) (drop l.place l.word) ≡ bytes_eq (before_space l.name) l.word)
