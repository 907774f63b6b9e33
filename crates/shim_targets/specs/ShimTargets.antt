-- What the shims of a world stand for, by its link table (Canonical ABI: `canon lower`; component
-- model, explainer: core instances).
use Rattle.std.specs.Prelude.{◌≡◌, ◌⊎◌, ℕ, false, Option, Some, None, IsTrue, Contains}
use Rattle.standard_kinds.specs.declared.kinds.StringEncoding.{StringEncoding}
use Rattle.comp_roles.specs.declared.imports.Import.{Import}
use Rattle.comp_roles.specs.declared.imports.Import.TheVariants as imports
use Rattle.comp_roles.specs.declared.libraries.MainOrAdapter.{MainOrAdapter}
use Rattle.comp_roles.specs.declared.libraries.MainOrAdapter.TheVariants as users
use Rattle.comp_roles.specs.declared.payloads.PayloadFuncKind.TheVariants as ends
use Rattle.comp_options.specs.Options.{needs, memory_bit}
use Rattle.comp_worlds.specs.declared.world.ComponentWorld.{ComponentWorld}
use Rattle.shim_plan.specs.declared.kinds.ShimKind.{ShimKind}
use Rattle.shim_plan.specs.declared.kinds.ShimKind.TheVariants as kinds
use Rattle.shim_plan.specs.declared.shims.Shim.{Shim}
use Rattle.comp_links.specs.Links.{lower_needs, is_always_shimmed}
use Rattle.comp_links.specs.Roles.{import_encoding}
use Rattle.comp_links.specs.Modules.{UserImport, user_imports}
use Rattle.comp_links.specs.Targets.{UserModule, Main, Adapter, ExportRef}
use Rattle.comp_terms.specs.Generated.{IsShimOf, IsShimOfExport}
use Rattle.comp_terms.specs.Shimmed.{shim_owner, shim_name}
use Rattle.comp_worlds.specs.Offered.{shared_memory}

-- a user module as shims name it
abbrev pub which_of : UserModule → MainOrAdapter
which_of Main = users.Main
which_of (Adapter name) = users.Adapter name

-- the kind of the shim for an import of a module that is called with this string encoding: that of
-- a lowering, where its role is a function of the world, or of a built-in function with options
abbrev pub kind_of_import : UserModule → Import → StringEncoding → Option ShimKind
kind_of_import of (imports.WorldFunc key name abi) encoding = Some (kinds.IndirectLowering None (record { name = name; abi = abi }) (which_of of) encoding)
kind_of_import of (imports.InterfaceFunc key id name abi) encoding = Some (kinds.IndirectLowering (Some key) (record { name = name; abi = abi }) (which_of of) encoding)
kind_of_import of (imports.ExportedTaskReturn key interface f) encoding = Some (kinds.TaskReturn interface f.name f.result (which_of of) encoding)
kind_of_import of imports.WaitableSetWait encoding = Some kinds.WaitableSetWait
kind_of_import of imports.WaitableSetPoll encoding = Some kinds.WaitableSetPoll
kind_of_import of (imports.ErrorContextNew own) encoding = Some (kinds.ErrorContextNew own)
kind_of_import of (imports.ErrorContextDebugMessage own) encoding = Some (kinds.ErrorContextDebugMessage (which_of of) own)
kind_of_import of (imports.StreamRead p is_async) encoding = Some (kinds.PayloadFunc (which_of of) p ends.StreamRead is_async)
kind_of_import of (imports.StreamWrite p is_async) encoding = Some (kinds.PayloadFunc (which_of of) p ends.StreamWrite is_async)
kind_of_import of (imports.FutureRead p is_async) encoding = Some (kinds.PayloadFunc (which_of of) p ends.FutureRead is_async)
kind_of_import of (imports.FutureWrite p is_async) encoding = Some (kinds.PayloadFunc (which_of of) p ends.FutureWrite is_async)
kind_of_import of role encoding = None

-- The shim is the lowering, or the built-in function, of this core import of a user module: it has the
-- options, the kind and the name that follow from the role, and its call needs a memory, which main
-- doesn't import, unless such imports have a shim always.
pub record StandsFor (w : ComponentWorld) (s : Shim) (i : UserImport) : Type 0 where
  pub present : Contains (user_imports w) i
  pub is : IsShimOf w s (shim_owner i.of i.core.role) i.core.role
  pub options : s.options.0 ≡ lower_needs w i.core.role
  pub memory : IsTrue (needs (lower_needs w i.core.role) memory_bit)
  pub unshared : is_always_shimmed w i.core.role ≡ false → shared_memory w ≡ None
  pub encoding : StringEncoding
  pub encoded : import_encoding w i.of i.core.role ≡ Some encoding
  pub kind : kind_of_import i.of i.core.role encoding ≡ Some s.kind
  pub named : s.debug_name ≡ shim_name i.core i.core.role

-- the options of a shim for an export: none for a destructor or a realloc, and the memory for what an adapter exports
abbrev pub export_options : ShimKind → ℕ
export_options (kinds.Adapter adapter name) = 1
export_options kind = 0

-- The shim is this export of a user module, and has the options of its kind.
pub record StandsForExport (w : ComponentWorld) (s : Shim) (e : ExportRef) : Type 0 where
  pub is : IsShimOfExport w s e
  pub options : s.options.0 ≡ export_options s.kind

-- the shim stands for a core import of a user module, or for an export of one
abbrev pub StandsForOne : ComponentWorld → Shim → Type 0
StandsForOne w s = ((i : UserImport) × StandsFor w s i) ⊎ ((e : ExportRef) × StandsForExport w s e)
