use Rattle.std.proofs.Common.{Contains, ◌∷◌, [], true, IsSome, refl, sym, ap, subst, rules}
use Rattle.built_ins.specs.BuiltIns.{plain_intrinsic}
use Rattle.comp_lists.proofs.Lists.{AllByRecursion-contains}
use Rattle.comp_links.specs.Modules.{UserImport}
use Rattle.comp_links.specs.Roles.{field_path, is_main_memory}
use Rattle.comp_worlds.specs.Bases.{base_of_role}
use Rattle.comp_worlds.specs.Made.{modules_of_imports}
use Rattle.comp_worlds.specs.Uses.{imports_of}
use Rattle.comp_worlds.specs.Worlds.{IsImportRole, IsNotOfMain}
use Rattle.core_options.proofs.Refusals.{memory_import_refused}
use Rattle.core_options.specs.Causes.{IsCauseAmong}
use Rattle.shim_targets.proofs.AdapterShims.{adapter_shim_there}
use Rattle.interface_needs.proofs.RootItems.{drop_known}
use Rattle.comp_roles.specs.declared.imports.Import.{Import}
use Rattle.comp_roles.specs.declared.imports.Import.TheVariants as imports
use Rattle.comp_roles.specs.CoreImports.{CoreImport}
use Rattle.core_options.specs.MainOptions.{user_of}
use Rattle.shim_targets.proofs.Users.{among_all}
use Rattle.main_instance.specs.Sources.{IsMade}
use Rattle.main_instance.proofs.BuiltIns.{IsLinked, linked_role}
use Rattle.main_instance.proofs.Cells.{cell_there, getter_given, setter_given}
use Rattle.main_instance.proofs.OfMain.{behind, item_named, memory_for_import}
use Rattle.main_instance.proofs.Serving.{handed_on, import_role, user_import}
use Rattle.main_instance.proofs.instances.ImportSources.link_import.Goals as goal

pub drop_resource-requires-clause-known : goal.drop_resource-requires-clause-known
drop_resource-requires-clause-known c =
    let w = c.args.root.now.world.now in
    let drop = c.in-ImportedResourceDrop in
    let u = c.args.self.now.user in
    let i : CoreImport = record { module_name = c.args.module.now; field = c.args.field.now; role = c.args.import.now } in
    drop_known w c.requires.sources.valid i drop.field-0 drop.field-1 drop.id
    (among_all w (record { of = user_of u.which; core = i }) (user_import w (user_of u.which) u.found.now c.requires.sources.user.named i c.requires.present)) drop.is

pub drop_own-requires-clause-own : goal.drop_own-requires-clause-own
drop_own-requires-clause-own c =
    let w = c.args.root.now.world.now in
    let it = c.in-ExportedResourceDrop in
    record { key = it.field-0; own = subst (λ (role : Import). IsImportRole w role) it.is (import_role w (user_of c.args.self.now.user.which) c.args.self.now.user.found.now c.requires.sources.user.named c.requires.sources.valid (record { module_name = c.args.module.now; field = c.args.field.now; role = c.args.import.now }) c.requires.present) }

pub rep_of_own-requires-clause-own : goal.rep_of_own-requires-clause-own
rep_of_own-requires-clause-own c =
    let w = c.args.root.now.world.now in
    let it = c.in-ExportedResourceRep in
    record { key = it.field-0; own = subst (λ (role : Import). IsImportRole w role) it.is (import_role w (user_of c.args.self.now.user.which) c.args.self.now.user.found.now c.requires.sources.user.named c.requires.sources.valid (record { module_name = c.args.module.now; field = c.args.field.now; role = c.args.import.now }) c.requires.present) }

pub new_of_own-requires-clause-own : goal.new_of_own-requires-clause-own
new_of_own-requires-clause-own c =
    let w = c.args.root.now.world.now in
    let it = c.in-ExportedResourceNew in
    record { key = it.field-0; own = subst (λ (role : Import). IsImportRole w role) it.is (import_role w (user_of c.args.self.now.user.which) c.args.self.now.user.found.now c.requires.sources.user.named c.requires.sources.valid (record { module_name = c.args.module.now; field = c.args.field.now; role = c.args.import.now }) c.requires.present) }

pub main_memory-requires : goal.main_memory-requires
main_memory-requires c =
    let u = c.args.self.now.user in
    let it = c.in-MainModuleMemory in
    let i : CoreImport = record { module_name = c.args.module.now; field = c.args.field.now; role = c.args.import.now } in
    record { memory = memory_for_import i it.field-0 it.is c.args.root.now.world.now (user_of u.which) u.found.now c.requires.sources.user.named c.requires.present c.args.root.now.items.defs c.args.self.now.memory c.requires.sources.memory }

pub main_export-requires-clause-behind : goal.main_export-requires-clause-behind
main_export-requires-clause-behind c =
    let u = c.args.self.now.user in
    let i : CoreImport = record { module_name = c.args.module.now; field = c.args.field.now; role = c.args.import.now } in
    behind c.args.root.now.world.now c.requires.sources.valid.valid (user_of u.which) u.found.now c.requires.sources.user.named i c.requires.present (λ h. subst IsNotOfMain c.in-MainModuleExport.is h) c.args.root.now.items.defs c.args.self.now.main c.requires.sources.main

pub main_export-requires-clause-offered : goal.main_export-requires-clause-offered
main_export-requires-clause-offered c =
    let w = c.args.root.now.world.now in
    let it = c.in-MainModuleExport in
    subst (λ (role : Import). IsImportRole w role) it.is (import_role w (user_of c.args.self.now.user.which) c.args.self.now.user.found.now c.requires.sources.user.named c.requires.sources.valid (record { module_name = c.args.module.now; field = c.args.field.now; role = c.args.import.now }) c.requires.present)

pub item-requires-clause-made : goal.item-requires-clause-made
item-requires-clause-made c =
    let w = c.args.root.now.world.now in
    let u = c.args.self.now.user in
    let it = c.in-Item in
    let i : CoreImport = record { module_name = c.args.module.now; field = c.args.field.now; role = c.args.import.now } in
    AllByRecursion-contains (IsMade w c.args.root.now.items.defs c.args.self.now.main c.args.self.now.adapters.now) (modules_of_imports u.found.now) it.item.which c.requires.sources.made (item_named u.found.now i it.item it.is c.requires.present)

pub item-requires-clause-offered : goal.item-requires-clause-offered
item-requires-clause-offered c =
    let w = c.args.root.now.world.now in
    let it = c.in-Item in
    subst (λ (role : Import). IsImportRole w role) it.is (import_role w (user_of c.args.self.now.user.which) c.args.self.now.user.found.now c.requires.sources.user.named c.requires.sources.valid (record { module_name = c.args.module.now; field = c.args.field.now; role = c.args.import.now }) c.requires.present)

pub adapter_export-requires-clause-needed : goal.adapter_export-requires-clause-needed
adapter_export-requires-clause-needed c =
    let w = c.args.root.now.world.now in
    let u = c.args.self.now.user in
    let it = c.in-AdapterExport in
    let i : CoreImport = record { module_name = c.args.module.now; field = c.args.field.now; role = c.args.import.now } in
    let named = c.requires.sources.user.named in
    adapter_shim_there w (user_of u.which) u.found.now named c.args.module.now c.args.field.now it.adapter it.func it.ty
    (subst (λ (role : Import). IsImportRole w role) it.is (import_role w (user_of u.which) u.found.now named c.requires.sources.valid i c.requires.present))
    (subst (λ (role : Import). Contains (imports_of u.found.now) (record { module_name = c.args.module.now; field = c.args.field.now; role = role })) it.is c.requires.present)

pub cell_getter-requires-clause-there : goal.cell_getter-requires-clause-there
cell_getter-requires-clause-there c =
    let w = c.args.root.now.world.now in
    let u = c.args.self.now.user in
    let it = c.in-TlsBaseGet in
    let i : CoreImport = record { module_name = c.args.module.now; field = c.args.field.now; role = c.args.import.now } in
    let all = among_all w (record { of = user_of u.which; core = i }) (user_import w (user_of u.which) u.found.now c.requires.sources.user.named i c.requires.present) in
    let right : IsImportRole w (imports.TlsBaseGet it.ty) = subst (λ (role : Import). IsImportRole w role) it.is (import_role w (user_of u.which) u.found.now c.requires.sources.user.named c.requires.sources.valid i c.requires.present) in
    cell_there w i it.ty all (ap base_of_role it.is) (subst (λ (role : Import). IsSome (plain_intrinsic true role)) (sym it.is) right) c.requires.linked

pub cell_setter-requires-clause-there : goal.cell_setter-requires-clause-there
cell_setter-requires-clause-there c =
    let w = c.args.root.now.world.now in
    let u = c.args.self.now.user in
    let it = c.in-TlsBaseSet in
    let i : CoreImport = record { module_name = c.args.module.now; field = c.args.field.now; role = c.args.import.now } in
    let all = among_all w (record { of = user_of u.which; core = i }) (user_import w (user_of u.which) u.found.now c.requires.sources.user.named i c.requires.present) in
    let right : IsImportRole w (imports.TlsBaseSet it.ty) = subst (λ (role : Import). IsImportRole w role) it.is (import_role w (user_of u.which) u.found.now c.requires.sources.user.named c.requires.sources.valid i c.requires.present) in
    cell_there w i it.ty all (ap base_of_role it.is) (subst (λ (role : Import). IsSome (plain_intrinsic true role)) (sym it.is) right) c.requires.linked

pub returns-in_ok-index-in-TlsBaseGet-clause-made : goal.returns-in_ok-index-in-TlsBaseGet-clause-made
returns-in_ok-index-in-TlsBaseGet-clause-made c =
    getter_given c.args.root.now.world.now (user_of c.args.self.now.user.which) c.cell_getter.new.root.items.defs c.in_ok-index-in-TlsBaseGet.index c.args.import.now c.in-TlsBaseGet.ty c.in-TlsBaseGet.is c.requires.linked c.in_ok-index-in-TlsBaseGet.ensures.given

pub returns-in_ok-index-in-TlsBaseSet-clause-made : goal.returns-in_ok-index-in-TlsBaseSet-clause-made
returns-in_ok-index-in-TlsBaseSet-clause-made c =
    setter_given c.args.root.now.world.now (user_of c.args.self.now.user.which) c.cell_setter.new.root.items.defs c.in_ok-index-in-TlsBaseSet.index c.args.import.now c.in-TlsBaseSet.ty c.in-TlsBaseSet.is c.requires.linked c.in_ok-index-in-TlsBaseSet.ensures.given

pub returns-in_err-index-in-MainModuleMemory-clause-cause : goal.returns-in_err-index-in-MainModuleMemory-clause-cause
returns-in_err-index-in-MainModuleMemory-clause-cause c =
    let w = c.args.root.now.world.now in
    let i : UserImport = record { of = user_of c.args.self.now.user.which; core = record { module_name = c.args.module.now; field = c.args.field.now; role = c.args.import.now } } in
    let refused = c.in_err-index-in-MainModuleMemory in
    handed_on c.from_residual-in_err-index-in-MainModuleMemory.result refused.field-0.0 (IsCauseAmong w (i ∷ []) []) c.from_residual-in_err-index-in-MainModuleMemory.ensures.1
    (memory_import_refused w i (field_path c.args.module.now c.args.field.now) (ap is_main_memory c.in-MainModuleMemory.is) refl refused.field-0.0 refused.ensures.cause)

pub unreachable-requires : goal.unreachable-requires
unreachable-requires c =
    let role : IsImportRole c.args.root.now.world.now c.args.import.now =
    import_role c.args.root.now.world.now (user_of c.args.self.now.user.which) c.args.self.now.user.found.now c.requires.sources.user.named c.requires.sources.valid (record { module_name = c.args.module.now; field = c.args.field.now; role = c.args.import.now }) c.requires.present in
    let linked : IsLinked c.args.import.now = linked_role c.args.root.now.world.now c.args.import.now role c.requires.linked c.requires.typed c.requires.other in
    search rules
