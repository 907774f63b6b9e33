-- A call that passes an error on.
use Rattle.std.proofs.Common.{◌≡◌, ℕ, List, subst, sym, Result, Ok, Err}
use Rattle.std.specs.Result.{IsErrAnd, IfErr}
use Rattle.byte_encoding.specs.Written.{Refused}
use Rattle.byte_encoding.specs.declared.fault.BuildFault.{BuildFault}

pub exits : {X : Type 0} (r : Result X BuildFault) (e : BuildFault) (counts : List ℕ) → IsErrAnd r (λ y. y ≡ e) → Refused counts e → IfErr r (Refused counts)
exits (Ok x) e counts h f = absurd h
exits (Err y) e counts h f = subst (λ (d : BuildFault). Refused counts d) (sym h) f
