-- Which of the two a shim stands for, by its kind: a lowering for an import, and the kind of a
-- destructor for the export that it names.
use Rattle.std.proofs.Common.{◌≡◌, ◌∙◌, Bool, true, false, true≢false, ℕ, List, inl, inr, Option, Some, None, refl, sym, ap, subst}
use Rattle.std.proofs.lemmas.Option.{none-some, same_Some}
use Rattle.standard_kinds.specs.declared.kinds.StringEncoding.{StringEncoding}
use Rattle.wit_data.specs.declared.ids.InterfaceId.{InterfaceId}
use Rattle.wit_data.specs.declared.types.Type.{«Type» as Ty}
use Rattle.wit_data.specs.declared.worlds.WorldKey.{WorldKey}
use Rattle.comp_roles.specs.declared.imports.Import.{Import}
use Rattle.comp_roles.specs.declared.imports.Import.TheVariants as imports
use Rattle.comp_roles.specs.declared.libraries.MainOrAdapter.{MainOrAdapter}
use Rattle.comp_roles.specs.declared.payloads.PayloadFuncKind.{PayloadFuncKind}
use Rattle.comp_roles.specs.declared.payloads.PayloadFuncKind.TheVariants as ends
use Rattle.comp_roles.specs.declared.payloads.PayloadInfo.{PayloadInfo}
use Rattle.comp_worlds.specs.declared.lowerings.LoweringKey.{LoweringKey}
use Rattle.comp_worlds.specs.declared.world.ComponentWorld.{ComponentWorld}
use Rattle.shim_plan.specs.declared.kinds.ShimKind.{ShimKind}
use Rattle.shim_plan.specs.declared.kinds.ShimKind.TheVariants as kinds
use Rattle.shim_plan.specs.declared.shims.Shim.{Shim}
use Rattle.comp_links.specs.Links.{module_of}
use Rattle.comp_links.specs.Modules.{UserImport}
use Rattle.comp_links.specs.Targets.{UserModule, ExportRef}
use Rattle.comp_terms.specs.Generated.{export_of_kind}
use Rattle.shim_targets.specs.ShimTargets.{which_of, kind_of_import, StandsFor, StandsForExport, StandsForOne}

-- whether a kind is that of a shim for an export
abbrev pub of_export : ShimKind → Bool
of_export (kinds.Adapter adapter name) = true
of_export (kinds.ResourceDtor which name) = true
of_export (kinds.Realloc which name) = true
of_export kind = false

-- that of an import's shim is not
import_kind : (of : UserModule) (role : Import) (encoding : StringEncoding) (kind : ShimKind) → kind_of_import of role encoding ≡ Some kind → of_export kind ≡ false
import_kind of (imports.WorldFunc key name abi) encoding kind e = ap of_export (sym (same_Some (kinds.IndirectLowering None (record { name = name; abi = abi }) (which_of of) encoding) kind e))
import_kind of (imports.InterfaceFunc key id name abi) encoding kind e = ap of_export (sym (same_Some (kinds.IndirectLowering (Some key) (record { name = name; abi = abi }) (which_of of) encoding) kind e))
import_kind of (imports.ExportedTaskReturn key interface f) encoding kind e = ap of_export (sym (same_Some (kinds.TaskReturn interface f.name f.result (which_of of) encoding) kind e))
import_kind of imports.WaitableSetWait encoding kind e = ap of_export (sym (same_Some kinds.WaitableSetWait kind e))
import_kind of imports.WaitableSetPoll encoding kind e = ap of_export (sym (same_Some kinds.WaitableSetPoll kind e))
import_kind of (imports.ErrorContextNew own) encoding kind e = ap of_export (sym (same_Some (kinds.ErrorContextNew own) kind e))
import_kind of (imports.ErrorContextDebugMessage own) encoding kind e = ap of_export (sym (same_Some (kinds.ErrorContextDebugMessage (which_of of) own) kind e))
import_kind of (imports.StreamRead p is_async) encoding kind e = ap of_export (sym (same_Some (kinds.PayloadFunc (which_of of) p ends.StreamRead is_async) kind e))
import_kind of (imports.StreamWrite p is_async) encoding kind e = ap of_export (sym (same_Some (kinds.PayloadFunc (which_of of) p ends.StreamWrite is_async) kind e))
import_kind of (imports.FutureRead p is_async) encoding kind e = ap of_export (sym (same_Some (kinds.PayloadFunc (which_of of) p ends.FutureRead is_async) kind e))
import_kind of (imports.FutureWrite p is_async) encoding kind e = ap of_export (sym (same_Some (kinds.PayloadFunc (which_of of) p ends.FutureWrite is_async) kind e))
import_kind of role encoding kind e = absurd (none-some kind e)

-- that of a shim for an export is
export_kind : (kind : ShimKind) (e : ExportRef) → export_of_kind kind ≡ Some e → of_export kind ≡ true
export_kind (kinds.Adapter adapter name) e is = refl
export_kind (kinds.ResourceDtor which name) e is = refl
export_kind (kinds.Realloc which name) e is = refl
export_kind kind e is = absurd (none-some e is)

module _ (w : ComponentWorld) (s : Shim) where
  -- a shim of another kind stands for an import
  pub for_import : of_export s.kind ≡ false → StandsForOne w s → (i : UserImport) × StandsFor w s i
  for_import other (inl h) = h
  for_import other (inr h) = absurd (true≢false (sym (export_kind s.kind h.0 h.1.is.of_kind) ∙ other))

  -- so does one of the kind of an import's, and one of the kind of a lowering
  pub for_role : (of : UserModule) (role : Import) (encoding : StringEncoding) → kind_of_import of role encoding ≡ Some s.kind → StandsForOne w s → (i : UserImport) × StandsFor w s i
  for_role of role encoding is h = for_import (import_kind of role encoding s.kind is) h

  pub for_lowering : (interface : Option WorldKey) (function : LoweringKey) (which : MainOrAdapter) (encoding : StringEncoding) → s.kind ≡ kinds.IndirectLowering interface function which encoding → StandsForOne w s →
      (i : UserImport) × StandsFor w s i
  for_lowering interface function which encoding is h = for_import (ap of_export is) h

  -- so does one of the kind of returns
  pub for_return : (interface : Option InterfaceId) (name : List ℕ) (result : Option Ty) (which : MainOrAdapter) (encoding : StringEncoding) → s.kind ≡ kinds.TaskReturn interface name result which encoding → StandsForOne w s → (i : UserImport) × StandsFor w s i
  for_return interface name result which encoding is h = for_import (ap of_export is) h

  -- so does one of the kind of reads and writes
  pub for_access : (which : MainOrAdapter) (payload : PayloadInfo) (kind : PayloadFuncKind) (is_async : Bool) → s.kind ≡ kinds.PayloadFunc which payload kind is_async → StandsForOne w s → (i : UserImport) × StandsFor w s i
  for_access which payload kind is_async is h = for_import (ap of_export is) h

  -- a shim of a kind of an export stands for that
  pub for_export : (e : ExportRef) → export_of_kind s.kind ≡ Some e → StandsForOne w s → StandsForExport w s e
  for_export e is (inl h) = absurd (true≢false (sym (export_kind s.kind e is) ∙ import_kind h.0.of h.0.core.role h.1.encoding s.kind h.1.kind))
  for_export e is (inr h) = subst (StandsForExport w s) (same_Some h.0 e (sym h.1.is.of_kind ∙ is)) h.1

  pub for_destructor : (which : MainOrAdapter) (name : List ℕ) → s.kind ≡ kinds.ResourceDtor which name → StandsForOne w s → StandsForExport w s (record { of = module_of which; name = name })
  for_destructor which name is h = for_export (record { of = module_of which; name = name }) (ap export_of_kind is) h
