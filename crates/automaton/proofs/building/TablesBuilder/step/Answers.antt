use Rattle.std.proofs.Common.{refl, rules, arith}
use Rattle.automaton.proofs.StepPlace.{step_added}
use Rattle.automaton.proofs.building.TablesBuilder.step.Goals as goal

pub returns : goal.returns
returns c = (refl, step_added _ _ _ _ _ (omega (arith, c.requires.room)) (search rules) (search rules) c.ending.ensures c.starting.ensures refl refl refl)
