-- The function that `task.return` of a function is called as names types of the resolve.
use Rattle.std.proofs.Common.{◌≡◌, [], Option, Some, None, sym, subst}
use Rattle.std.specs.Prelude.{map}
use Rattle.std.specs.Option.{option_to_list}
use Rattle.std.specs.List.{AllByRecursion}
use Rattle.wit_data.specs.Signatures.{returning}
use Rattle.wit_data.specs.Sound.{HasFunction, HasType}
use Rattle.wit_data.specs.declared.functions.Function.{Function}
use Rattle.wit_data.specs.declared.functions.Param.{Param}
use Rattle.wit_data.specs.declared.resolve.Resolve.{Resolve}
use Rattle.wit_data.specs.declared.types.Type.{«Type» as Ty}

pub returning_present : (r : Resolve) (f returned : Function) → returned ≡ returning f → HasFunction r f → HasFunction r returned
returning_present r f returned is h = subst (HasFunction r) (sym is) (record { resource = tt; params = one f.result h.result; result = tt })
  where
    one : (o : Option Ty) → HasType r o → AllByRecursion (λ (p : Param). HasType r (Some p.ty)) (map (λ t. record { name = []; ty = t }) (option_to_list o))
    one None k = tt
    one (Some t) k = (k, tt)
