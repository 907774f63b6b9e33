-- The functions whose results are returned are in the resolve, and so are the types of what is read or written.
use Rattle.std.proofs.Common.{◌≡◌, ℕ, zero, suc, ◌<◌, List, [], ◌∷◌, map, length, get_or, Option, Some, None, sym, ap, subst, ◌∙◌, arith}
use Rattle.std.specs.List.{AllByRecursion}
use Rattle.comp_roles.specs.declared.imports.Import.{Import}
use Rattle.comp_roles.specs.declared.imports.Import.TheVariants as imports
use Rattle.comp_roles.specs.declared.libraries.MainOrAdapter.{MainOrAdapter}
use Rattle.comp_roles.specs.declared.payloads.PayloadFuncKind.TheVariants as ends
use Rattle.comp_worlds.specs.Lookups.{found_module}
use Rattle.comp_worlds.specs.Uses.{imports_of}
use Rattle.comp_worlds.specs.declared.world.ComponentWorld.{ComponentWorld}
use Rattle.comp_worlds.specs.declared.world.ValidatedModule.{ValidatedModule}
use Rattle.std.proofs.lemmas.Option.{none-some, same_Some}
use Rattle.wit_data.specs.Sound.{HasFunction}
use Rattle.wit_data.specs.declared.resolve.Resolve.{Resolve}
use Rattle.comp_options.specs.Known.{HasPayload}
use Rattle.shim_plan.specs.Needed.{Returned, returned_of, Accessed, accessed_of, access_to, HasOwnTypes, AreReturned, AreAllReturned}

-- that of an import
pub function_there : (r : Resolve) (role : Import) (returned : Returned) → Some returned ≡ returned_of role → HasOwnTypes r role → HasFunction r returned.function
function_there r (imports.ExportedTaskReturn key interface f) returned is h = subst (λ (x : Returned). HasFunction r x.function) (sym (same_Some returned _ is)) h
function_there r role returned is h = absurd (none-some returned (sym is))

-- the type of what an import reads or writes
there_of : (r : Resolve) (a b : Accessed) → Some a ≡ Some b → HasPayload r b.info.ty → HasPayload r a.info.ty
there_of r a b is h = subst (λ (x : Accessed). HasPayload r x.info.ty) (sym (same_Some a b is)) h

pub payload_there : (r : Resolve) (role : Import) (a : Accessed) → Some a ≡ accessed_of role → HasOwnTypes r role → HasPayload r a.info.ty
payload_there r (imports.StreamRead p is_async) a is h = there_of r a (access_to p ends.StreamRead is_async) is h
payload_there r (imports.StreamWrite p is_async) a is h = there_of r a (access_to p ends.StreamWrite is_async) is h
payload_there r (imports.FutureRead p is_async) a is h = there_of r a (access_to p ends.FutureRead is_async) is h
payload_there r (imports.FutureWrite p is_async) a is h = there_of r a (access_to p ends.FutureWrite is_async) is h
payload_there r role a is h = absurd (none-some a (sym is))

-- those of a module that is found
pub module_returned : (w : ComponentWorld) (which : MainOrAdapter) (m : ValidatedModule) → Some m ≡ found_module w which → AreAllReturned w → AllByRecursion (λ i. HasOwnTypes w.resolve i.role) (imports_of m)
module_returned w which m is all = subst (AreReturned w) (sym is) (all which)

-- what holds of all of a list holds of each
pub one_holds : {X Y : Type 0} (g : X → Y) (P : Y → Type 0) (xs : List X) (j : ℕ) (x : X) → j < length xs → x ≡ get_or xs j x → AllByRecursion P (map g xs) → P (g x)
one_holds g P [] j x lt is h = absurd (omega (arith, lt))
one_holds g P (y ∷ ys) zero x lt is h = subst (λ z. P (g z)) (sym is) h.0
one_holds g P (y ∷ ys) (suc j) x lt is h = one_holds g P ys j x (omega (arith, lt)) is h.1
