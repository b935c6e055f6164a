use Rattle.std.proofs.Common.{refl, rules}
use Rattle.automaton.proofs.Leading.{rows_led}
use Rattle.automaton.proofs.tables.Tables.lead_on.Goals as goal

pub returns : goal.returns
returns c = rows_led _ _ _ _ _ _ c.requires (search rules) c.lead_all.ensures refl refl refl
