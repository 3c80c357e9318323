-- The tree of the bytes is the only one that they spell.
use Rattle.std.proofs.Common.{ℕ, ◌≡◌, Err, ap, sym, ◌∙◌, subst}
use Rattle.archive_reading.specs.Steps.{IsUnshaped, of_shape, of_text}
use Rattle.archive_reading.proofs.OnlyLemmas.{passed, shaped_only, unshaped_text, unshaped_tree}
use Rattle.archive_reading.proofs.reading.archive_of.Goals as goal
use Rattle.xhstt_shape.specs.Faults.{IsTold}
use Rattle.xhstt_shape.specs.Shape.{shape_of}
use Rattle.xhstt_shape.specs.declared.faults.ShapeFault.{ShapeFault}
use Rattle.xhstt_shape.specs.declared.faults.ShapeFault.TheVariants.{Bad}
use Rattle.xhstt_shape.specs.declared.records.Archive.{Archive}
use Rattle.xhstt_text.specs.Document.{Spelled}
use Rattle.xhstt_text.specs.FlatTable.{root_forest}

pub returns-in_err-tree-clause-none : goal.returns-in_err-tree-clause-none
returns-in_err-tree-clause-none c =
    let fault = c.in_err-tree.field-0.0 in
    passed c.from_residual.result (of_text fault) (IsUnshaped c.args.bytes.now) c.from_residual.ensures.1
    (unshaped_text c.args.bytes.now fault (λ kind at e. c.elements.ensures.not_spelled kind at
    (c.elements.ensures.exact kind at (c.in_err-tree.was ∙ ap (λ f. Err f) e))))

pub returns-in_err-archive-clause-none : goal.returns-in_err-archive-clause-none
returns-in_err-archive-clause-none c =
    let fault = c.in_err-archive.field-0.0 in
    let tree = root_forest c.in_ok-tree.tree in
    let told : (kind at : ℕ) → fault ≡ Bad kind at → shape_of tree ≡ Err fault =
    λ kind at e. subst (λ (f : ShapeFault). IsTold {A = Archive} (Err f) (shape_of tree)) e
    c.in_err-archive.ensures.told ∙ ap (λ f. Err f) (sym e) in
    passed c.from_residual-in_err-archive.result (of_shape fault) (IsUnshaped c.args.bytes.now)
    c.from_residual-in_err-archive.ensures.1
    (unshaped_tree c.args.bytes.now tree fault c.in_ok-tree.ensures.one_forest told)

pub returns-clause-only : goal.returns-clause-only
returns-clause-only c = λ t s. shaped_only c.args.bytes.now (root_forest c.in_ok-tree.tree) c.in_ok-archive.field-0
    c.in_ok-tree.ensures.one_forest c.in_ok-archive.ensures.told t s

pub returns-clause-sound : goal.returns-clause-sound
returns-clause-sound c = λ kind at first.
    let s = c.in_ok-tree.ensures.spelled in
    c.elements.ensures.not_spelled kind at first s.0 s.1

-- the bytes spell the tree, so its archive is well formed
pub returns-clause-formed : goal.returns-clause-formed
returns-clause-formed c =
    c.in_ok-archive.ensures.well_formed
    (subst (λ bytes. Spelled bytes (root_forest c.in_ok-tree.tree)) (sym c.in_ok-tree.ensures.bytes)
    c.in_ok-tree.ensures.spelled)
