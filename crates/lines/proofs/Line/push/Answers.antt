use Rattle.std.proofs.Common.{rules}
use Rattle.lines.proofs.LineReads.{reads_more}
use Rattle.lines.proofs.Line.push.Goals as goal

pub returns-clause-read : goal.returns-clause-read
returns-clause-read g c = record { scan = search rules; column = search rules; reads = reads_more _ _ _ _ (search rules) }
