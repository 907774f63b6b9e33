-- The functions whose results imports of user modules return are in the resolve, and so are the types of what they read and write.
use Rattle.std.proofs.Common.{◌≡◌, ◌∙◌, Contains, None, Option, Some, refl, sym}
use Rattle.comp_links.specs.Links.{module_of}
use Rattle.comp_links.specs.Modules.{module_found}
use Rattle.comp_roles.specs.CoreImports.{CoreImport}
use Rattle.comp_roles.specs.declared.imports.Import.{Import}
use Rattle.comp_roles.specs.declared.imports.Import.TheVariants as imports
use Rattle.comp_roles.specs.declared.libraries.MainOrAdapter.{MainOrAdapter}
use Rattle.comp_roles.specs.declared.libraries.MainOrAdapter.TheVariants as users
use Rattle.comp_roles.specs.declared.payloads.PayloadInfo.{PayloadInfo}
use Rattle.comp_roles.specs.declared.payloads.PayloadType.{PayloadType}
use Rattle.comp_roles.specs.declared.payloads.PayloadType.TheVariants as payloads
use Rattle.comp_options.specs.Known.{HasPayload}
use Rattle.comp_worlds.specs.Encodable.{IsEncodable}
use Rattle.comp_worlds.specs.Payloads.{IsTyped}
use Rattle.comp_worlds.specs.Lookups.{found_module}
use Rattle.comp_worlds.specs.Uses.{imports_of}
use Rattle.comp_worlds.specs.Worlds.{IsImportRole}
use Rattle.comp_worlds.specs.declared.world.ValidatedModule.{ValidatedModule}
use Rattle.comp_worlds.specs.declared.world.ComponentWorld.{ComponentWorld}
use Rattle.interface_needs.proofs.Lists.{all_of_each}
use Rattle.interface_needs.proofs.OwnFunctions.{own_sound}
use Rattle.shim_plan.specs.Needed.{HasOwnTypes, AreAllReturned, AreReturned}
use Rattle.shim_targets.proofs.Roles.{import_role}
use Rattle.shim_targets.proofs.Users.{of_module}

-- a module is found by either of its names
found_by : (w : ComponentWorld) (which : MainOrAdapter) → module_found w (module_of which) ≡ found_module w which
found_by w users.Main = refl
found_by w (users.Adapter name) = refl

-- the type of a stream or a future is there
pub payload_there : (w : ComponentWorld) (p : PayloadInfo) (ty : PayloadType) → IsTyped w p ty → HasPayload w.resolve ty
payload_there w p (payloads.Typed id name) h = h.0.present
payload_there w p payloads.UnitStream h = tt
payload_there w p payloads.UnitFuture h = tt

module _ (w : ComponentWorld) (ok : IsEncodable w) where
  has_returned : (role : Import) → IsImportRole w role → HasOwnTypes w.resolve role
  has_returned (imports.ExportedTaskReturn key interface f) h = own_sound w ok key interface f h
  has_returned (imports.StreamRead p is_async) h = payload_there w p p.ty h
  has_returned (imports.StreamWrite p is_async) h = payload_there w p p.ty h
  has_returned (imports.FutureRead p is_async) h = payload_there w p p.ty h
  has_returned (imports.FutureWrite p is_async) h = payload_there w p p.ty h
  has_returned role h = tt

  pub all_returned : AreAllReturned w
  all_returned which = by (found_module w which) refl
    where
      by : (o : Option ValidatedModule) → found_module w which ≡ o → AreReturned w o
      by None e = tt
      by (Some m) e =
          all_of_each (λ (i : CoreImport). HasOwnTypes w.resolve i.role) (imports_of m)
          (λ i c. has_returned i.role (import_role w ok (record { of = module_of which; core = i }) (of_module w (module_of which) m i (found_by w which ∙ e) c)))
