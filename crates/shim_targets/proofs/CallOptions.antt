-- The options of a call are those that the link table says.
use Rattle.std.proofs.Common.{◌≡◌, ◌∙◌, ℕ, Bool, true, false, List, Contains, Option, Some, None, if◌then◌else◌, refl, sym, ap, true≢false, is_some, IsSome}
use Rattle.wit_data.specs.Signatures.{signature}
use Rattle.wit_data.specs.declared.functions.AbiVariant.{AbiVariant}
use Rattle.wit_data.specs.declared.functions.Function.{Function}
use Rattle.wit_data.specs.declared.types.TypeDef.{TypeDef}
use Rattle.wit_data.specs.declared.worlds.WorldKey.TheVariants as keys
use Rattle.comp_options.specs.Options.{needs, import_set}
use Rattle.comp_roles.specs.declared.imports.Import.{Import}
use Rattle.comp_roles.specs.declared.imports.Import.TheVariants as imports
use Rattle.comp_worlds.specs.Encodable.{IsEncodable}
use Rattle.comp_worlds.specs.Imported.{lowering_of}
use Rattle.comp_worlds.specs.Offered.{shared_memory}
use Rattle.comp_worlds.specs.Worlds.{IsImportRole}
use Rattle.comp_worlds.specs.declared.lowerings.Lowering.TheVariants as lowerings
use Rattle.comp_worlds.specs.declared.world.ComponentWorld.{ComponentWorld}
use Rattle.comp_links.specs.Links.{lower_needs}
use Rattle.comp_links.specs.Modules.{UserImport, user_imports}
use Rattle.shim_plan.specs.Needed.{call_of}
use Rattle.shim_targets.specs.CallOptions.{options_of_lowering, lowering_of_import}
use Rattle.shim_targets.proofs.Calls.{world_call, interface_call}
use Rattle.shim_targets.proofs.Roles.{import_role}

-- however a function is lowered, its options are those of its type
same_options : (shares : Bool) (abi : AbiVariant) (types : List TypeDef) (f : Function) → (options_of_lowering (Some (lowering_of shares abi types f))).0 ≡ import_set abi types f
same_options true abi types f = refl
same_options false abi types f = by (needs (import_set abi types f) 1)
  where
    by : (b : Bool) → (options_of_lowering (Some (if b then lowerings.Indirect (signature abi types f) (record { 0 = import_set abi types f }) else lowerings.Direct (record { 0 = import_set abi types f })))).0 ≡ import_set abi types f
    by true = refl
    by false = refl

pub options_needed : (w : ComponentWorld) → IsEncodable w → (i : UserImport) → Contains (user_imports w) i → IsSome (call_of i.core.role) → (options_of_lowering (lowering_of_import w i.core.role)).0 ≡ lower_needs w i.core.role
options_needed w ok i there called = by i.core.role refl (import_role w ok i there)
  where
    by : (role : Import) → i.core.role ≡ role → IsImportRole w role → (options_of_lowering (lowering_of_import w role)).0 ≡ lower_needs w role
    by (imports.WorldFunc (keys.Name text) function abi) is h =
        let l = world_call w ok i there text function abi is h in
        ap (λ o. (options_of_lowering o).0) l.lowered ∙ same_options _ abi w.resolve.types l.function ∙ sym l.needs
    by (imports.InterfaceFunc key id function abi) is h =
        let l = interface_call w ok i there key id function abi is h in
        ap (λ o. (options_of_lowering o).0) l.lowered ∙ same_options _ abi w.resolve.types l.function ∙ sym l.needs
    by (imports.ExportedTaskReturn key interface f) is h = absurd (true≢false (sym called ∙ ap (λ (r : Import). is_some (call_of r)) is))
    by imports.WaitableSetWait is h = absurd (true≢false (sym called ∙ ap (λ (r : Import). is_some (call_of r)) is))
    by imports.WaitableSetPoll is h = absurd (true≢false (sym called ∙ ap (λ (r : Import). is_some (call_of r)) is))
    by (imports.ErrorContextNew own) is h = absurd (true≢false (sym called ∙ ap (λ (r : Import). is_some (call_of r)) is))
    by (imports.ErrorContextDebugMessage own) is h = absurd (true≢false (sym called ∙ ap (λ (r : Import). is_some (call_of r)) is))
    by (imports.ImportedResourceDrop key interface id) is h = refl
    by (imports.ExportedResourceDrop key id) is h = refl
    by (imports.ExportedResourceRep key id) is h = refl
    by (imports.ExportedResourceNew key id) is h = refl
    by (imports.MainModuleMemory type) is h = refl
    by (imports.MainModuleExport name kind) is h = refl
    by (imports.AdapterExport adapter name type) is h = refl
    by (imports.Item item) is h = refl
    by (imports.StreamRead p is_async) is h = absurd (true≢false (sym called ∙ ap (λ (r : Import). is_some (call_of r)) is))
    by (imports.StreamWrite p is_async) is h = absurd (true≢false (sym called ∙ ap (λ (r : Import). is_some (call_of r)) is))
    by (imports.FutureRead p is_async) is h = absurd (true≢false (sym called ∙ ap (λ (r : Import). is_some (call_of r)) is))
    by (imports.FutureWrite p is_async) is h = absurd (true≢false (sym called ∙ ap (λ (r : Import). is_some (call_of r)) is))
    by (imports.WorldFunc (keys.Interface other) function abi) is h = absurd (true≢false (sym h))
    by role is h = refl
