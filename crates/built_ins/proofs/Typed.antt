-- Each of the built-in functions has a core type.
use Rattle.std.proofs.Common.{◌≡◌, ◌∙◌, Bool, Option, Some, None, is_some, refl, ap, true, false, sym, true≢false}
use Rattle.std.proofs.lemmas.Option.{none-some}
use Rattle.std.specs.Prelude.{option_map}
use Rattle.std.specs.Option.{option_and_then}
use Rattle.comp_bytes.specs.declared.canon.ContextType.{ContextType}
use Rattle.comp_bytes.specs.declared.canon.Intrinsic.{Intrinsic}
use Rattle.comp_bytes.specs.declared.canon.Intrinsic.TheVariants as intrinsics
use Rattle.comp_roles.specs.declared.imports.Import.{Import}
use Rattle.comp_roles.specs.declared.imports.Import.TheVariants as imports
use Rattle.built_ins.specs.BuiltIns.{context_type, plain_intrinsic, plain_type, plain_import_type}

-- what an import is given where slot 1 can't be used, it is given where it can
pub usable_too : (slot_1 : Bool) (role : Import) (intrinsic : Intrinsic) → plain_intrinsic slot_1 role ≡ Some intrinsic → plain_intrinsic true role ≡ Some intrinsic
usable_too true role intrinsic h = h
usable_too false (imports.TlsBaseGet type) intrinsic h = absurd (none-some intrinsic h)
usable_too false (imports.TlsBaseSet type) intrinsic h = absurd (none-some intrinsic h)
usable_too false role intrinsic h = h

-- where an import of these roles isn't given one, slot 1 can't be used
pub unusable : (slot_1 : Bool) (role : Import) → is_some (plain_intrinsic true role) ≡ true → plain_intrinsic slot_1 role ≡ None → slot_1 ≡ false
unusable true role has none = absurd (true≢false (sym has ∙ ap is_some none))
unusable false role has none = refl

-- an import that is given one of these functions has its core type
pub plain_typed : (slot_1 : Bool) (role : Import) → is_some (plain_intrinsic slot_1 role) ≡ true → is_some (plain_import_type role) ≡ true
plain_typed slot_1 imports.ExportedTaskCancel h = refl
plain_typed slot_1 imports.BackpressureInc h = refl
plain_typed slot_1 imports.BackpressureDec h = refl
plain_typed slot_1 imports.WaitableSetNew h = refl
plain_typed slot_1 imports.WaitableSetDrop h = refl
plain_typed slot_1 imports.WaitableJoin h = refl
plain_typed slot_1 imports.SubtaskDrop h = refl
plain_typed slot_1 (imports.SubtaskCancel is_async) h = refl
plain_typed slot_1 imports.ErrorContextDrop h = refl
plain_typed slot_1 (imports.ContextGet type slot) h = by (context_type type) h
  where
    by : (o : Option ContextType) → is_some (option_map (λ t. intrinsics.ContextGet t slot) o) ≡ true → is_some (option_and_then plain_type (option_map (λ t. intrinsics.ContextGet t slot) o)) ≡ true
    by (Some t) e = refl
    by None e = e
plain_typed slot_1 (imports.ContextSet type slot) h = by (context_type type) h
  where
    by : (o : Option ContextType) → is_some (option_map (λ t. intrinsics.ContextSet t slot) o) ≡ true → is_some (option_and_then plain_type (option_map (λ t. intrinsics.ContextSet t slot) o)) ≡ true
    by (Some t) e = refl
    by None e = e
plain_typed true (imports.TlsBaseGet type) h = by (context_type type) h
  where
    by : (o : Option ContextType) → is_some (option_map (λ t. intrinsics.ContextGet t 1) o) ≡ true → is_some (option_and_then plain_type (option_map (λ t. intrinsics.ContextGet t 1) o)) ≡ true
    by (Some t) e = refl
    by None e = e
plain_typed true (imports.TlsBaseSet type) h = by (context_type type) h
  where
    by : (o : Option ContextType) → is_some (option_map (λ t. intrinsics.ContextSet t 1) o) ≡ true → is_some (option_and_then plain_type (option_map (λ t. intrinsics.ContextSet t 1) o)) ≡ true
    by (Some t) e = refl
    by None e = e
plain_typed slot_1 role h = absurd (true≢false (sym h))
