-- What `?` hands on.
use Rattle.std.proofs.Common.{◌≡◌, Result, MatchResult}
use Rattle.std.specs.Result.{IsErrAnd}
use Rattle.std.proofs.lemmas.Result.{err_from_is_err_and}

-- What is true of an error is true of the result that hands it on.
pub handed_on : {X E : Type 0} (P : X → Type 0) (Q : E → Type 0) (r : Result X E) (e : E) → IsErrAnd r (λ d. d ≡ e) → Q e → MatchResult r P Q
handed_on P Q r e h q = let p = err_from_is_err_and r h in rw (p.1, p.2) q
