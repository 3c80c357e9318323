-- The table is asked by the name's bytes, which are the same where the characters are.
use Rattle.std.proofs.Common.{◌∙◌, ap, sym}
use Rattle.khe_base.specs.Names.{number_of}
use Rattle.khe_base.specs.Text.{characters}
use Rattle.xhstt_references.proofs.NamesLemmas.{number_of-characters}
use Rattle.xhstt_references.proofs.names.Names.number_spelled.Goals as goal

pub returns : goal.returns
returns c =
    c.get_index_of.ensures.index ∙ sym (number_of-characters c.args.name.now c.utf8.name c.self.inside.names.keys)
    ∙ ap (number_of (characters c.args.name.now)) c.self.view_is
