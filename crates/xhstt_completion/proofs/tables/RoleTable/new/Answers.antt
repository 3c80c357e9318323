-- A table of none finds none.
use Rattle.xhstt_completion.proofs.TableLemmas.{finds-nothing}
use Rattle.xhstt_completion.proofs.tables.RoleTable.new.Goals as goal

pub returns : goal.returns
returns c = finds-nothing _ c.new.ensures c.new-2.ensures.items
