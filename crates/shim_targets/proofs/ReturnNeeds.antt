-- What is needed of `task.return`: its shim, which stands for the import.
use Rattle.std.proofs.Common.{◌≡◌, ◌∙◌, ◌&&◌, Bool, true, false, List, [], ◌∷◌, Option, Some, None, Contains, IsTrue, if◌then◌else◌, is_some, inl, not, refl, sym, ap, ap₂, subst}
use Rattle.std.specs.List.{AllByRecursion}
use Rattle.std.specs.Option.{option_and_then}
use Rattle.comp_links.specs.Links.{lower_needs}
use Rattle.comp_links.specs.Modules.{module_found, user_imports}
use Rattle.comp_links.specs.Roles.{encoding_in}
use Rattle.comp_links.specs.Targets.{UserModule}
use Rattle.comp_options.specs.Options.{needs, task_return_set}
use Rattle.comp_roles.specs.CoreImports.{CoreImport}
use Rattle.comp_roles.specs.Functions.{of_function}
use Rattle.comp_roles.specs.declared.imports.Import.{Import}
use Rattle.comp_roles.specs.declared.imports.Import.TheVariants as imports
use Rattle.comp_worlds.specs.Encodable.{IsEncodable}
use Rattle.comp_worlds.specs.Offered.{shared_memory}
use Rattle.comp_worlds.specs.Worlds.{IsImportRole}
use Rattle.comp_worlds.specs.declared.world.ComponentWorld.{ComponentWorld}
use Rattle.comp_worlds.specs.declared.world.ValidatedModule.{ValidatedModule}
use Rattle.core_types.specs.declared.types.MemoryType.{MemoryType}
use Rattle.shim_plan.specs.Needed.{Returned, return_needs, return_shim, return_shims, returns_through}
use Rattle.shim_plan.specs.declared.needs.NeededShim.{NeededShim}
use Rattle.shim_targets.proofs.CallNeeds.{Stands}
use Rattle.shim_targets.proofs.Calls.{role_back}
use Rattle.shim_targets.proofs.Lists.{contains_first}
use Rattle.shim_targets.specs.ShimTargets.{which_of}
use Rattle.standard_kinds.specs.declared.kinds.StringEncoding.{StringEncoding}
use Rattle.wit_data.specs.declared.functions.Function.{Function}
use Rattle.wit_data.specs.declared.ids.InterfaceId.{InterfaceId}
use Rattle.wit_data.specs.declared.worlds.WorldKey.{WorldKey}

-- a return that needs a memory, which main doesn't import, and has an encoding has its shim
pub return_needed : (w : ComponentWorld) (of : UserModule) (m : ValidatedModule) (r : Returned) → shared_memory w ≡ None → IsTrue (needs (task_return_set w.resolve.types r.function) 1) → (encoding : StringEncoding) →
    of_function r.key r.function.name m.metadata.export_encodings ≡ Some encoding → Contains (return_needs w (which_of of) m r) (return_shim w (which_of of) r encoding)
return_needed w of m r unshared memory encoding encoded =
    let shim : NeededShim = return_shim w (which_of of) r encoding in
    let through : returns_through w r ≡ true = ap₂ (λ b o. b && not (is_some o)) memory unshared in
    let listed : Contains (return_shims w (which_of of) r (of_function r.key r.function.name m.metadata.export_encodings)) shim = subst (λ o. Contains (return_shims w (which_of of) r o) shim) (sym encoded) (contains_first shim []) in
    subst (λ b. Contains (if b then return_shims w (which_of of) r (of_function r.key r.function.name m.metadata.export_encodings) else []) shim) (sym through) listed

module _ (w : ComponentWorld) (ok : IsEncodable w) (of : UserModule) (m : ValidatedModule) (found : module_found w of ≡ Some m) (i : CoreImport) (key : WorldKey) (interface : Option InterfaceId) (f : Function) (is : i.role ≡ imports.ExportedTaskReturn key interface f)
    (there : Contains (user_imports w) (record { of = of; core = i })) (right : IsImportRole w (imports.ExportedTaskReturn key interface f)) where
  abbrev returned : Returned
  returned = record { key = key; interface = interface; function = f }

  return_stands : shared_memory w ≡ None → IsTrue (needs (task_return_set w.resolve.types f) 1) → (encoding : StringEncoding) → of_function key f.name m.metadata.export_encodings ≡ Some encoding → Stands w (return_shim w (which_of of) returned encoding)
  return_stands unshared memory encoding encoded place = inl (
    record { of = of; core = record { module_name = i.module_name; field = i.field; role = imports.ExportedTaskReturn key interface f } },
    record {
      present = subst (λ (role : Import). Contains (user_imports w) (record { of = of; core = record { module_name = i.module_name; field = i.field; role = role } })) is there;
      is = record {
        of_kind = role_back w ok of (imports.ExportedTaskReturn key interface f) right encoding (return_shim w (which_of of) returned encoding).kind refl;
        right = right;
        typed = refl;
      };
      options = refl;
      memory = memory;
      unshared = λ own. unshared;
      encoding = encoding;
      encoded = ap (option_and_then (encoding_in (imports.ExportedTaskReturn key interface f))) found ∙ encoded;
      kind = refl;
      named = refl;
    },
  )

  pub return_needs_stand : AllByRecursion (Stands w) (return_needs w (which_of of) m returned)
  return_needs_stand = by (needs (task_return_set w.resolve.types f) 1) refl (shared_memory w) refl (of_function key f.name m.metadata.export_encodings) refl
    where
      by : (b : Bool) → needs (task_return_set w.resolve.types f) 1 ≡ b → (o : Option MemoryType) → shared_memory w ≡ o → (e : Option StringEncoding) → of_function key f.name m.metadata.export_encodings ≡ e →
          AllByRecursion (Stands w) (if b && not (is_some o) then return_shims w (which_of of) returned e else [])
      by false memory o shared e encoded = tt
      by true memory (Some type) shared e encoded = tt
      by true memory None unshared None encoded = tt
      by true memory None unshared (Some encoding) encoded = (return_stands unshared memory encoding encoded, tt)
