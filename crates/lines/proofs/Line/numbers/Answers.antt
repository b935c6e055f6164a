use Rattle.std.proofs.Common.{◌≡◌, ℕ, ◌⊎◌, ◌∙◌, ap, subst, sym}
use Rattle.lines.specs.declared.State.TheVariants.{Gap, Number}
use Rattle.lines.proofs.LineReads.{complete, no_line, is_line}
use Rattle.lines.proofs.Line.numbers.Goals as goal

pub returns-in-Stopped-clause-reads : goal.returns-in-Stopped-clause-reads
returns-in-Stopped-clause-reads g c = λ bs h. no_line _ bs c.args.self.now h _ (ap (λ l. l.scan.state) (sym c.self.view_is) ∙ c.in-Stopped.is)

pub returns-in-Gap : goal.returns-in-Gap
returns-in-Gap g c =
    let goes = subst (λ l. (l.scan.state ≡ Gap) ⊎ ((n : ℕ) × (l.scan.state ≡ Number n))) c.self.view_is c.in-Gap.is in
    let numbers = c.deref.ensures.value ∙ ap (λ l. l.scan.numbers) c.self.view_is in
    record { value = complete _ _ goes numbers; reads = λ bs h. is_line _ bs c.args.self.now h _ goes numbers }
