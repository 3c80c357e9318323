-- What is true of a tree whose rows the machine gave over its bytes.
use Rattle.std.proofs.Common.{◌≡◌, ℕ, ◌<◌, ◌^◌, List, length, Result, Ok, Err, IfOk, ap, subst, ◌∙◌, sym}
use Rattle.xhstt_text.specs.declared.faults.TextFault.{TextFault}
use Rattle.xhstt_text.specs.declared.tree.Tree.{Tree}
use Rattle.xhstt_text.specs.Forest.{Forest}
use Rattle.xhstt_text.specs.FlatTable.{flat_table, IsTable, root_forest}
use Rattle.std.specs.Str.{IsUtf8}
use Rattle.xhstt_text.specs.Document.{Document, IsDocument, spelling, Rows, table, forest_of, Spelled}
use Rattle.xhstt_text.specs.Machine.{outcome_of}
use Rattle.xhstt_text.specs.Reading.{Leads}
use Rattle.xhstt_text.proofs.Complete.{run_document}
use Rattle.xhstt_text.proofs.DocumentTable.{document-table}
use Rattle.xhstt_text.proofs.Sound.{document_from}

-- the rows of a tree
abbrev pub rows_of : Tree → Rows
rows_of tree = record { nodes = tree.nodes; attributes = tree.attributes }

-- the machine gave the rows of a tree over these bytes, which are short, and are the tree's
record IsRead (bytes : List ℕ) (tree : Tree) : Type 0 where
  rows : outcome_of bytes ≡ Ok (rows_of tree)
  same : tree.bytes.now ≡ bytes
  short : length bytes < 2 ^ 32

-- such a tree is a table, and stands for the forest of each document that its bytes spell
read-document : (bytes : List ℕ) (tree : Tree) → IsRead bytes tree
    → (d : Document) → IsDocument d → bytes ≡ spelling d → IsTable tree × (root_forest tree ≡ forest_of d)
read-document bytes tree read d form spells =
    let given : Ok (rows_of tree) ≡ Ok (table d) = sym read.rows ∙ ap outcome_of spells ∙ run_document d form in
    let same : rows_of tree ≡ table d = cc in
    document-table d (flat_table tree) form (read.same ∙ spells) (ap (λ r. r.nodes) same) (ap (λ r. r.attributes) same)
    (subst (λ bs. length bs < 2 ^ 32) (sym read.same) read.short)

-- an answer of the reader: the machine's, and over the bytes
pub record Answers (bytes : List ℕ) (r : Result Tree TextFault) : Type 0 where
  pub exact : Leads r (outcome_of bytes) (λ tree. Ok (rows_of tree))
  pub same : IfOk r (λ tree. tree.bytes.now ≡ bytes)
  pub short : length bytes < 2 ^ 32

-- a tree that is read is a table
pub read-table : (bytes : List ℕ) (r : Result Tree TextFault) → Answers bytes r → IfOk r (λ tree. IsTable tree)
read-table bytes (Ok tree) a =
    let read : IsRead bytes tree = record { rows = a.exact; same = a.same; short = a.short } in
    let found = document_from bytes (rows_of tree) a.exact in
    (read-document bytes tree read found.0 found.1 found.2).0
read-table bytes (Err e) a = tt

-- the bytes spell its forest
pub read-spelled : (bytes : List ℕ) (r : Result Tree TextFault) → IsUtf8 bytes → Answers bytes r
    → IfOk r (λ tree. Spelled bytes (root_forest tree))
read-spelled bytes (Ok tree) utf8 a =
    let read : IsRead bytes tree = record { rows = a.exact; same = a.same; short = a.short } in
    let found = document_from bytes (rows_of tree) a.exact in
    (found.0, (utf8, found.1, found.2), (read-document bytes tree read found.0 found.1 found.2).1)
read-spelled bytes (Err e) utf8 a = tt

-- and no other
pub read-alone : (bytes : List ℕ) (r : Result Tree TextFault) → Answers bytes r
    → IfOk r (λ tree. (f : Forest) → Spelled bytes f → root_forest tree ≡ f)
read-alone bytes (Ok tree) a =
    let read : IsRead bytes tree = record { rows = a.exact; same = a.same; short = a.short } in
    λ f spelled. (read-document bytes tree read spelled.0 spelled.1.1 spelled.1.2).1 ∙ sym spelled.2
read-alone bytes (Err e) a = tt
