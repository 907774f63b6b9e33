-- Imports that are given a function of the cell of the thread-local base.
use Rattle.std.proofs.Common.{◌≡◌, ◌∙◌, ℕ, true, List, None, Some, IsSome, Contains, sym, ap, subst, inl}
use Rattle.core_types.specs.declared.types.ValType.{ValType}
use Rattle.built_ins.proofs.Typed.{unusable}
use Rattle.built_ins.specs.BuiltIns.{plain_intrinsic}
use Rattle.comp_bytes.specs.declared.def.Def.{Def}
use Rattle.comp_bytes.specs.declared.space.Space.TheVariants as spaces
use Rattle.comp_roles.proofs.Firsts.{some_picked}
use Rattle.comp_roles.specs.CoreImports.{CoreImport}
use Rattle.comp_roles.specs.declared.imports.Import.{Import}
use Rattle.comp_roles.specs.declared.imports.Import.TheVariants as imports
use Rattle.comp_worlds.specs.Bases.{base_of_role, cell_imports, cell_type}
use Rattle.comp_worlds.specs.Uses.{all_imports}
use Rattle.comp_worlds.specs.declared.world.ComponentWorld.{ComponentWorld}
use Rattle.comp_links.specs.Links.{link_of_intrinsic, link_of}
use Rattle.comp_links.specs.Targets.{UserModule, TlsGet, TlsSet}
use Rattle.comp_terms.specs.Planned.{IsItemFor, IsGivenFor}
use Rattle.world_shims.proofs.Bases.{all_there}

-- where the base has no function of its own, there is a cell
pub cell_there : (w : ComponentWorld) (i : CoreImport) (type : ValType) → Contains (all_imports w.main w.adapters) i → base_of_role i.role ≡ Some type → IsSome (plain_intrinsic true i.role) → plain_intrinsic w.can_use_context_slot_1 i.role ≡ None → IsSome (cell_type w)
cell_there w i type present base has none =
    let there : Contains (cell_imports w) i = subst (λ (is : List CoreImport). Contains is i) (sym (all_there w (unusable w.can_use_context_slot_1 i.role has none))) present in
    some_picked (λ (i : CoreImport). base_of_role i.role) (cell_imports w) i type there base

-- and the import is given the function of the cell
pub getter_given : (w : ComponentWorld) (of : UserModule) (ds : List Def) (index : ℕ) (role : Import) (type : ValType) → role ≡ imports.TlsBaseGet type → plain_intrinsic w.can_use_context_slot_1 role ≡ None → IsItemFor w ds spaces.CoreFunc index TlsGet → IsGivenFor w of ds spaces.CoreFunc index role
getter_given w of ds index role type is none h =
    let linked : link_of w of (imports.TlsBaseGet type) ≡ TlsGet = ap (link_of_intrinsic (imports.TlsBaseGet type)) (sym (ap (plain_intrinsic w.can_use_context_slot_1) is) ∙ none) in
    subst (IsGivenFor w of ds spaces.CoreFunc index) (sym is) (inl (subst (IsItemFor w ds spaces.CoreFunc index) (sym linked) h))

pub setter_given : (w : ComponentWorld) (of : UserModule) (ds : List Def) (index : ℕ) (role : Import) (type : ValType) → role ≡ imports.TlsBaseSet type → plain_intrinsic w.can_use_context_slot_1 role ≡ None → IsItemFor w ds spaces.CoreFunc index TlsSet → IsGivenFor w of ds spaces.CoreFunc index role
setter_given w of ds index role type is none h =
    let linked : link_of w of (imports.TlsBaseSet type) ≡ TlsSet = ap (link_of_intrinsic (imports.TlsBaseSet type)) (sym (ap (plain_intrinsic w.can_use_context_slot_1) is) ∙ none) in
    subst (IsGivenFor w of ds spaces.CoreFunc index) (sym is) (inl (subst (IsItemFor w ds spaces.CoreFunc index) (sym linked) h))
