use Rattle.std.proofs.Common.{◌+◌, ◌<◌, arith}
use Rattle.std.proofs.lemmas.List.{get_or-take}
use Rattle.automaton.proofs.Joining.{bit_set, bit_clear}
use Rattle.automaton.proofs.SetRows.{none_yet, with_place, without_place, all_joined}
use Rattle.automaton.proofs.automata.Automaton.row_of.Goals.{then-set-bit-eq1, else-set-bit-eq1}
use Rattle.automaton.proofs.automata.Automaton.row_of.Goals as goal

pub loop-bit-init : goal.loop-bit-init
loop-bit-init c = none_yet c.args.self.now c.args.set _ c.ending-row.ensures

pub loop-bit-preserved : goal.loop-bit-preserved
loop-bit-preserved c =
    let within : c.loop-bit.bit < c.args.self.now.tables.end.number + 1 = omega (arith, c.loop-bit-test.true) in
    elim c.if-set-bit-eq1.branch [
      | then-set-bit-eq1 w ↦ rw w.row-is (with_place c.loop-bit.bit c.args.self.now c.args.set _ c.loop-bit.invariant _ within (bit_set _ _ w.if-set-bit-eq1.true) (rw (get_or-take _ _ _ _ within) at w.or-row.ensures))
      | else-set-bit-eq1 w ↦ rw w.row-is (without_place c.loop-bit.bit c.args.self.now c.args.set _ c.loop-bit.invariant (bit_clear _ _ w.if-set-bit-eq1.false))
    ]

pub returns : goal.returns
returns c = all_joined c.loop-bit.bit c.args.self.now c.args.set _ c.loop-bit.invariant (omega (arith, c.loop-bit-test.false, c.loop-bit.auto.bit-end))
