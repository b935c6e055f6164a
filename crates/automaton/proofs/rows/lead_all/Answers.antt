use Rattle.automaton.proofs.Leading.{led_at}
use Rattle.automaton.proofs.rows.lead_all.Goals as goal

pub loop-row-preserved : goal.loop-row-preserved
loop-row-preserved c = led_at _ _ _ _ _ c.loop-row-test.true c.loop-row.invariant c.then.ensures
