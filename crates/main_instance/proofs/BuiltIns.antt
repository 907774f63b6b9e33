-- Imports that are given a built-in function without operands, and all others.
use Rattle.std.proofs.Common.{◌≡◌, ◌∙◌, ℕ, Bool, true, false, List, [], Option, Some, None, is_some, refl, sym, ap, subst, inl, true≢false}
use Rattle.std.specs.Prelude.{IsTrue, IsSome}
use Rattle.std.specs.List.{AllZip}
use Rattle.std.proofs.lemmas.Option.{none-some}
use Rattle.std.specs.Option.{option_and_then}
use Rattle.built_ins.proofs.PayloadParts.{call_apart}
use Rattle.built_ins.proofs.Typed.{usable_too, plain_typed}
use Rattle.built_ins.specs.BuiltIns.{plain_intrinsic, plain_type}
use Rattle.built_ins.specs.Payloads.{PayloadCall, named_call, called_payload}
use Rattle.comp_bytes.specs.Parts.{Parts, plain_parts, parts_of}
use Rattle.comp_bytes.specs.declared.canon.Intrinsic.{Intrinsic}
use Rattle.comp_bytes.specs.declared.canon.Intrinsic.TheVariants as intrinsics
use Rattle.comp_bytes.specs.declared.def.Def.{Def}
use Rattle.comp_bytes.specs.declared.space.Space.TheVariants as spaces
use Rattle.comp_links.specs.Links.{link_of_intrinsic, link_of_payload, link_of, lower_needs}
use Rattle.comp_links.specs.Roles.{needs_encoding, is_main_memory}
use Rattle.comp_links.specs.Supplied.{IsSuppliedImport}
use Rattle.comp_inventories.specs.Inventories.{scope_of}
use Rattle.comp_links.specs.Targets.{UserModule, NoType, BuiltIn}
use Rattle.comp_options.specs.Options.{needs}
use Rattle.comp_roles.specs.declared.imports.Import.{Import}
use Rattle.comp_roles.specs.declared.imports.Import.TheVariants as imports
use Rattle.comp_terms.specs.Planned.{IsTermFor, IsGivenFor}
use Rattle.comp_terms.specs.Rules.{IsIntrinsicRight}
use Rattle.comp_terms.specs.Terms.{TermOption, IsOption, IsBuiltIn}
use Rattle.comp_terms.specs.Terms as terms
use Rattle.comp_trees.specs.Operands.{IsOperand}
use Rattle.comp_trees.specs.Trees.{Tree}
use Rattle.comp_roles.specs.declared.payloads.PayloadInfo.{PayloadInfo}
use Rattle.comp_worlds.specs.Worlds.{IsBuiltInRole, IsImportRole}
use Rattle.comp_worlds.specs.declared.world.ComponentWorld.{ComponentWorld}
use Rattle.shim_plan.specs.Needed.{memory_function}
use Rattle.shim_plan.specs.declared.memory_functions.MemoryFunction.TheVariants as functions
use Rattle.wit_data.specs.declared.worlds.WorldKey.TheVariants as keys

-- the roles of a world that have no such function
abbrev pub IsLinked : Import → Type 0
IsLinked (imports.WorldFunc (keys.Name text) function abi) = Unit {0}
IsLinked (imports.InterfaceFunc key id function abi) = Unit {0}
IsLinked (imports.ImportedResourceDrop key interface id) = Unit {0}
IsLinked (imports.ExportedResourceDrop key id) = Unit {0}
IsLinked (imports.ExportedResourceRep key id) = Unit {0}
IsLinked (imports.ExportedResourceNew key id) = Unit {0}
IsLinked (imports.MainModuleMemory type) = Unit {0}
IsLinked (imports.MainModuleExport name kind) = Unit {0}
IsLinked (imports.AdapterExport adapter name type) = Unit {0}
IsLinked (imports.Item item) = Unit {0}
IsLinked (imports.ExportedTaskReturn key interface function) = Unit {0}
IsLinked (imports.TlsBaseGet type) = Unit {0}
IsLinked (imports.TlsBaseSet type) = Unit {0}
IsLinked role = ⊥

-- a role of a world is no built-in function where it has none
no_built_in : (w : ComponentWorld) (role : Import) (o : Option PayloadInfo) → o ≡ None → IsBuiltInRole w role o → plain_intrinsic true role ≡ None → ⊥
no_built_in w role (Some p) untyped h none = none-some p (sym untyped)
no_built_in w role None untyped h none = true≢false (sym h ∙ ap is_some none)

pub linked_role : (w : ComponentWorld) (role : Import) → IsImportRole w role → plain_intrinsic w.can_use_context_slot_1 role ≡ None → called_payload role ≡ None → memory_function role ≡ None → IsLinked role
linked_role w (imports.WorldFunc (keys.Name text) function abi) h none untyped other = tt
linked_role w (imports.InterfaceFunc key id function abi) h none untyped other = tt
linked_role w (imports.ImportedResourceDrop key interface id) h none untyped other = tt
linked_role w (imports.ExportedResourceDrop key id) h none untyped other = tt
linked_role w (imports.ExportedResourceRep key id) h none untyped other = tt
linked_role w (imports.ExportedResourceNew key id) h none untyped other = tt
linked_role w (imports.MainModuleMemory type) h none untyped other = tt
linked_role w (imports.MainModuleExport name kind) h none untyped other = tt
linked_role w (imports.AdapterExport adapter name type) h none untyped other = tt
linked_role w (imports.Item item) h none untyped other = tt
linked_role w (imports.ExportedTaskReturn key interface function) h none untyped other = tt
linked_role w imports.WaitableSetWait h none untyped other = absurd (none-some functions.Wait (sym other))
linked_role w imports.WaitableSetPoll h none untyped other = absurd (none-some functions.Poll (sym other))
linked_role w (imports.ErrorContextNew encoding) h none untyped other = absurd (none-some (functions.NewError encoding) (sym other))
linked_role w (imports.ErrorContextDebugMessage encoding) h none untyped other = absurd (none-some (functions.ErrorMessage encoding) (sym other))
linked_role w (imports.TlsBaseGet type) h none untyped other = tt
linked_role w (imports.TlsBaseSet type) h none untyped other = tt
linked_role w role h none untyped other = absurd (no_built_in w role (called_payload role) untyped h none)

-- such a function has a core type
pub has_type : (slot_1 : Bool) (role : Import) (intrinsic : Intrinsic) → plain_intrinsic slot_1 role ≡ Some intrinsic → IsSome (plain_type intrinsic)
has_type slot_1 role intrinsic h = ap is_some (ap (option_and_then plain_type) (sym (usable_too slot_1 role intrinsic h))) ∙ plain_typed slot_1 role (ap is_some h)

-- and its parts are itself: it is right wherever it stands
pub plain_parts_are : (intrinsic : Intrinsic) → IsSome (plain_type intrinsic) → parts_of intrinsic ≡ plain_parts intrinsic
plain_parts_are intrinsics.TaskCancel h = refl
plain_parts_are intrinsics.BackpressureInc h = refl
plain_parts_are intrinsics.BackpressureDec h = refl
plain_parts_are intrinsics.WaitableSetNew h = refl
plain_parts_are intrinsics.WaitableSetDrop h = refl
plain_parts_are intrinsics.WaitableJoin h = refl
plain_parts_are intrinsics.SubtaskDrop h = refl
plain_parts_are (intrinsics.SubtaskCancel is_async) h = refl
plain_parts_are intrinsics.ErrorContextDrop h = refl
plain_parts_are (intrinsics.ContextGet type slot) h = refl
plain_parts_are (intrinsics.ContextSet type slot) h = refl
plain_parts_are intrinsic h = absurd (true≢false (sym h))

pub plain_right : (earlier : List Def) (intrinsic : Intrinsic) → IsSome (plain_type intrinsic) → IsIntrinsicRight earlier intrinsic
plain_right earlier intrinsics.TaskCancel h = record { operand = refl; options = tt }
plain_right earlier intrinsics.BackpressureInc h = record { operand = refl; options = tt }
plain_right earlier intrinsics.BackpressureDec h = record { operand = refl; options = tt }
plain_right earlier intrinsics.WaitableSetNew h = record { operand = refl; options = tt }
plain_right earlier intrinsics.WaitableSetDrop h = record { operand = refl; options = tt }
plain_right earlier intrinsics.WaitableJoin h = record { operand = refl; options = tt }
plain_right earlier intrinsics.SubtaskDrop h = record { operand = refl; options = tt }
plain_right earlier (intrinsics.SubtaskCancel is_async) h = record { operand = refl; options = tt }
plain_right earlier intrinsics.ErrorContextDrop h = record { operand = refl; options = tt }
plain_right earlier (intrinsics.ContextGet type slot) h = record { operand = refl; options = tt }
plain_right earlier (intrinsics.ContextSet type slot) h = record { operand = refl; options = tt }
plain_right earlier intrinsic h = absurd (true≢false (sym h))

-- which is no function of a stream or a future
plain_linked : (w : ComponentWorld) (role : Import) (intrinsic : Intrinsic) → plain_intrinsic w.can_use_context_slot_1 role ≡ Some intrinsic → (o : Option PayloadCall) → named_call role ≡ o → link_of_payload w role o ≡ BuiltIn intrinsic NoType []
plain_linked w role intrinsic h (Some c) is = absurd (call_apart w.can_use_context_slot_1 role c intrinsic is h)
plain_linked w role intrinsic h None is = ap (link_of_intrinsic role) h

-- what the link table names for such a function
pub built_in_linked : (w : ComponentWorld) (of : UserModule) (role : Import) (intrinsic : Intrinsic) → plain_intrinsic w.can_use_context_slot_1 role ≡ Some intrinsic → link_of w of role ≡ BuiltIn intrinsic NoType []
built_in_linked w of (imports.WorldFunc (keys.Name text) function abi) intrinsic h = absurd (none-some intrinsic h)
built_in_linked w of (imports.InterfaceFunc key id function abi) intrinsic h = absurd (none-some intrinsic h)
built_in_linked w of (imports.ImportedResourceDrop key interface id) intrinsic h = absurd (none-some intrinsic h)
built_in_linked w of (imports.ExportedResourceDrop key id) intrinsic h = absurd (none-some intrinsic h)
built_in_linked w of (imports.ExportedResourceRep key id) intrinsic h = absurd (none-some intrinsic h)
built_in_linked w of (imports.ExportedResourceNew key id) intrinsic h = absurd (none-some intrinsic h)
built_in_linked w of (imports.MainModuleMemory type) intrinsic h = absurd (none-some intrinsic h)
built_in_linked w of (imports.MainModuleExport name kind) intrinsic h = absurd (none-some intrinsic h)
built_in_linked w of (imports.AdapterExport adapter name type) intrinsic h = absurd (none-some intrinsic h)
built_in_linked w of (imports.Item item) intrinsic h = absurd (none-some intrinsic h)
built_in_linked w of (imports.ExportedTaskReturn key interface function) intrinsic h = absurd (none-some intrinsic h)
built_in_linked w of imports.WaitableSetWait intrinsic h = absurd (none-some intrinsic h)
built_in_linked w of imports.WaitableSetPoll intrinsic h = absurd (none-some intrinsic h)
built_in_linked w of (imports.ErrorContextNew own) intrinsic h = absurd (none-some intrinsic h)
built_in_linked w of (imports.ErrorContextDebugMessage own) intrinsic h = absurd (none-some intrinsic h)
built_in_linked w of (imports.StreamRead p is_async) intrinsic h = absurd (none-some intrinsic h)
built_in_linked w of (imports.StreamWrite p is_async) intrinsic h = absurd (none-some intrinsic h)
built_in_linked w of (imports.FutureRead p is_async) intrinsic h = absurd (none-some intrinsic h)
built_in_linked w of (imports.FutureWrite p is_async) intrinsic h = absurd (none-some intrinsic h)
built_in_linked w of role intrinsic h = plain_linked w role intrinsic h (named_call role) refl

-- such a function is given for it
pub built_in_given : (w : ComponentWorld) (of : UserModule) (ds : List Def) (index : ℕ) (role : Import) (intrinsic : Intrinsic) → plain_intrinsic w.can_use_context_slot_1 role ≡ Some intrinsic → IsBuiltIn ds index intrinsic None [] →
    IsGivenFor w of ds spaces.CoreFunc index role
built_in_given w of ds index role intrinsic e h =
    inl (record { term = terms.BuiltIn intrinsic None []; is = h; asked = subst (λ t. IsTermFor w t (terms.BuiltIn intrinsic None [])) (sym (built_in_linked w of role intrinsic e)) (refl, refl, tt) })

-- what is made without operand and options is this function
pub plain_made : (old new : List Def) (index : ℕ) (intrinsic : Intrinsic) → IsSome (plain_type intrinsic) →
    ((operand : Option Tree) (written : List TermOption) → IsOperand (scope_of old) (parts_of intrinsic).operand operand → AllZip (IsOption old) (parts_of intrinsic).options written → IsBuiltIn new index (parts_of intrinsic).name operand written) →
    IsBuiltIn new index intrinsic None []
plain_made old new index intrinsic plain made = by (parts_of intrinsic) (plain_parts_are intrinsic plain) made
  where
    by : (p : Parts) → p ≡ plain_parts intrinsic → ((operand : Option Tree) (written : List TermOption) → IsOperand (scope_of old) p.operand operand → AllZip (IsOption old) p.options written → IsBuiltIn new index p.name operand written) →
        IsBuiltIn new index intrinsic None []
    by p same made =
        subst (λ (p : Parts). ((operand : Option Tree) (written : List TermOption) → IsOperand (scope_of old) p.operand operand → AllZip (IsOption old) p.options written → IsBuiltIn new index p.name operand written)) same made None [] tt tt

-- it is no call, so that it needs nothing else
record NeedsNothing (w : ComponentWorld) (role : Import) : Type 0 where
  encoding : needs_encoding role ≡ false
  memory : is_main_memory role ≡ false
  options : lower_needs w role ≡ 0

needs_nothing : (w : ComponentWorld) (role : Import) (intrinsic : Intrinsic) → plain_intrinsic w.can_use_context_slot_1 role ≡ Some intrinsic → NeedsNothing w role
needs_nothing w (imports.WorldFunc key function abi) intrinsic h = absurd (none-some intrinsic h)
needs_nothing w (imports.InterfaceFunc key id function abi) intrinsic h = absurd (none-some intrinsic h)
needs_nothing w (imports.ExportedTaskReturn key interface function) intrinsic h = absurd (none-some intrinsic h)
needs_nothing w (imports.MainModuleMemory type) intrinsic h = absurd (none-some intrinsic h)
needs_nothing w imports.WaitableSetWait intrinsic h = absurd (none-some intrinsic h)
needs_nothing w imports.WaitableSetPoll intrinsic h = absurd (none-some intrinsic h)
needs_nothing w (imports.ErrorContextNew own) intrinsic h = absurd (none-some intrinsic h)
needs_nothing w (imports.ErrorContextDebugMessage own) intrinsic h = absurd (none-some intrinsic h)
needs_nothing w (imports.StreamRead p is_async) intrinsic h = absurd (none-some intrinsic h)
needs_nothing w (imports.StreamWrite p is_async) intrinsic h = absurd (none-some intrinsic h)
needs_nothing w (imports.FutureRead p is_async) intrinsic h = absurd (none-some intrinsic h)
needs_nothing w (imports.FutureWrite p is_async) intrinsic h = absurd (none-some intrinsic h)
needs_nothing w role intrinsic h = record { encoding = refl; memory = refl; options = refl }

pub built_in_supplied : (w : ComponentWorld) (of : UserModule) (role : Import) (intrinsic : Intrinsic) → plain_intrinsic w.can_use_context_slot_1 role ≡ Some intrinsic → IsSuppliedImport w of role
built_in_supplied w of role intrinsic h =
    let n = needs_nothing w role intrinsic h in
    record {
      encoding = λ needed. absurd (true≢false (sym needed ∙ n.encoding));
      memory = λ needed. absurd (true≢false (sym needed ∙ n.memory));
      realloc = λ shared apart needed. absurd (true≢false (sym needed ∙ ap (λ set. needs set 2) n.options));
    }
