-- The rows of a document stand for its forest, and what bytes spell is one forest.
use Rattle.std.proofs.Common.{◌≡◌, ℕ, ◌+◌, List, ◌++◌, length}
use Rattle.std.proofs.Common.{ap, subst, ◌∙◌, sym, refl, zero-add}
use Rattle.xhstt_text.specs.Forest.{Forest}
use Rattle.xhstt_text.specs.FlatTable.{FlatTable, Stands}
use Rattle.xhstt_text.specs.Document.{Content, Document, text, mark_text, declaration_text, spelling, root_at}
use Rattle.xhstt_text.specs.Document.{attribute_rows, rows, table, forest_at, forest_of, Spelled}
use Rattle.text_fault_laws.proofs.OneTree.{same_table}
use Rattle.xhstt_text.proofs.DocumentTable.{content-stands}
use Rattle.xhstt_text.proofs.ForestOfTable.{forest-stands}
use Rattle.xhstt_text.proofs.Parts.{Holds-first, Holds-rest, Holds-whole}

-- the rows of a document over its spelling stand for its forest
document-stands : (d : Document) (t : FlatTable) → t.bytes ≡ spelling d → t.nodes ≡ (table d).nodes
    → t.attributes ≡ (table d).attributes → Stands t 0 (forest_of d) (length t.nodes)
document-stands d t bytes nodes attributes =
    let mark : List ℕ = mark_text d.mark in
    let declaration : List ℕ = declaration_text d.declaration in
    let before : List ℕ = text d.body.before in
    let after : List ℕ = text d.body.after in
    let root : List ℕ = text d.body.root in
    let marked = Holds-rest t.bytes 0 mark (declaration ++ (before ++ (root ++ after))) (length mark)
    (sym (zero-add (length mark))) (Holds-whole t.bytes (spelling d) bytes) in
    let body = Holds-rest t.bytes (length mark) declaration (before ++ (root ++ after))
    (length mark + length declaration) refl marked in
    let rooted = Holds-rest t.bytes (length mark + length declaration) before (root ++ after) (root_at d) refl body in
    let c : Content = d.body.root in
    let stands = content-stands c t 0 0 (root_at d) (record {
      text_at = Holds-first t.bytes (root_at d) root after rooted;
      nodes_at = Holds-whole t.nodes (rows 0 0 (root_at d) c) nodes;
      attributes_at = Holds-whole t.attributes (attribute_rows (root_at d) c) attributes;
    }) in
    subst (λ b. Stands t 0 (forest_at (root_at d) c) b)
    (zero-add (length (rows 0 0 (root_at d) c)) ∙ ap length (sym nodes)) stands

pub one_forest : (bytes : List ℕ) (f g : Forest) → Spelled bytes f → Spelled bytes g → f ≡ g
one_forest bytes f g (d, h, p) (e, k, q) =
    let same = same_table bytes d e h.1 k.1 h.2 k.2 in
    let t : FlatTable = record { bytes = bytes; nodes = (table d).nodes; attributes = (table d).attributes } in
    let left = forest-stands t 0 (forest_of d) (length t.nodes) (document-stands d t h.2 refl refl) in
    let right = forest-stands t 0 (forest_of e) (length t.nodes)
    (document-stands e t k.2 (ap (λ r. r.nodes) same) (ap (λ r. r.attributes) same)) in
    p ∙ sym left ∙ right ∙ sym q
