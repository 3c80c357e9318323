-- The bytes that are copied are the next ones of the file.
use Rattle.std.proofs.Common.{◌∙◌, sym, ap, subst, ◌+◌, ◌≤◌, length, take, ℕ, List}
use Rattle.khe_io.proofs.NamedFiles.{IsCount, IsCount-left, IsCount-from, IsCount-end, IsCount-exact}
use Rattle.khe_io.proofs.NamedFiles.{bytes_at-read, drop-copied, filled-copied}
use Rattle.std.proofs.lemmas.List.{take_rest}
use Rattle.khe_io.proofs.named.copy_from.Goals as goal

pub slice_bounds-rest-count : goal.slice_bounds-rest-count
slice_bounds-rest-count c =
    let same = bytes_at-read _ _ _ _ c.requires.place.file c.index-files-place.is c.as_slice.ensures in
    let P : List ℕ → Type 0 = λ bytes. c.args.place.from ≤ length bytes in
    subst P same c.requires.place.from

pub slice_bounds-rest-start : goal.slice_bounds-rest-start
slice_bounds-rest-start c =
    let same = bytes_at-read _ _ _ _ c.requires.place.file c.index-files-place.is c.as_slice.ensures in
    let P : List ℕ → Type 0 = λ bytes. c.args.place.from ≤ length bytes in
    subst P same c.requires.place.from

pub returns-clause-placed : goal.returns-clause-placed
returns-clause-placed c =
    let same = bytes_at-read _ _ _ _ c.requires.place.file c.index-files-place.is c.as_slice.ensures in
    let counted : IsCount c.as_slice.result.now c.args.place.from (length c.args.buf.now) c.args.most
    c.min-count.result =
    record { fitting = c.min.result; left = c.min.ensures; least = c.min-count.ensures } in
    let P : List ℕ → Type 0 = λ bytes. c.args.place.from ≤ length bytes in
    let Q : List ℕ → Type 0 = λ bytes. c.args.place.from + c.min-count.result ≤ length bytes in
    record {
      file = c.requires.place.file;
      from = subst Q (sym same) (IsCount-from _ _ _ _ _ counted (subst P same c.requires.place.from));
    }

pub returns-clause-copied : goal.returns-clause-copied
returns-clause-copied c =
    let same = bytes_at-read _ _ _ _ c.requires.place.file c.index-files-place.is c.as_slice.ensures in
    let counted : IsCount c.as_slice.result.now c.args.place.from (length c.args.buf.now) c.args.most
    c.min-count.result =
    record { fitting = c.min.result; left = c.min.ensures; least = c.min-count.ensures } in
    let copied = c.copy_from_slice.ensures.after ∙ ap (take c.min-count.result)
    (take_rest c.as_slice.result.now c.args.place.from) in
    rw same (drop-copied c.as_slice.result.now c.copy_from_slice.new.self c.args.buf.now c.args.place.from
    c.min-count.result copied (IsCount-left _ _ _ _ _ counted))

pub returns-clause-end : goal.returns-clause-end
returns-clause-end c =
    let same = bytes_at-read _ _ _ _ c.requires.place.file c.index-files-place.is c.as_slice.ensures in
    let counted : IsCount c.as_slice.result.now c.args.place.from (length c.args.buf.now) c.args.most
    c.min-count.result =
    record { fitting = c.min.result; left = c.min.ensures; least = c.min-count.ensures } in
    rw same (IsCount-end _ _ _ _ _ counted c.requires.buffer c.requires.most)

pub returns-clause-from : goal.returns-clause-from
returns-clause-from c =
    let same = bytes_at-read _ _ _ _ c.requires.place.file c.index-files-place.is c.as_slice.ensures in
    let counted : IsCount c.as_slice.result.now c.args.place.from (length c.args.buf.now) c.args.most
    c.min-count.result =
    record { fitting = c.min.result; left = c.min.ensures; least = c.min-count.ensures } in
    rw same (IsCount-exact _ _ _ _ _ counted)

pub returns-clause-filled : goal.returns-clause-filled
returns-clause-filled c =
    let same = bytes_at-read _ _ _ _ c.requires.place.file c.index-files-place.is c.as_slice.ensures in
    let copied = c.copy_from_slice.ensures.after ∙ ap (take c.min-count.result)
    (take_rest c.as_slice.result.now c.args.place.from) in
    rw same (filled-copied c.as_slice.result.now c.copy_from_slice.new.self c.args.buf.now c.args.place.from
    c.min-count.result copied)
