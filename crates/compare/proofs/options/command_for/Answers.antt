use Rattle.std.proofs.Common.{rules, inr}
use Rattle.compare.proofs.options.command_for.Goals as goal

pub returns-in-Some : goal.returns-in-Some
returns-in-Some c = (search rules, inr (c.in-Some.name, search rules, c.in_ok-try_from-in-Some.ensures))
