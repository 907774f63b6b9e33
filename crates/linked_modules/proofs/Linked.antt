-- Where the imports of all modules pass, each is given what it asks for.
use Rattle.std.proofs.Common.{◌≡◌, ◌∙◌, ◌&&◌, ℕ, Bool, true, false, List, [], ◌∷◌, ◌++◌, map, Option, Some, None, Result, Ok, refl, sym, ap, true≢false}
use Rattle.std.specs.Prelude.{⊤}
use Rattle.std.specs.List.{AllByRecursion, flat_map}
use Rattle.std.specs.Option.{option_or, option_and_then}
use Rattle.std.proofs.lemmas.Option.{none-some}
use Rattle.comp_lists.specs.Found.{found}
use Rattle.comp_lists.proofs.Lists.{AllByRecursion-weaker}
use Rattle.core_types.specs.declared.types.FuncType.{FuncType}
use Rattle.core_types.specs.declared.types.MemoryType.{MemoryType}
use Rattle.core_types.specs.contracts.types.FuncTypePartialEq.TheImpl as same_function
use Rattle.standard_kinds.specs.declared.kinds.ExportKind.{ExportKind}
use Rattle.standard_kinds.specs.contracts.kinds.ExportKindPartialEq.TheImpl as same_kind
use Rattle.comp_roles.specs.CoreImports.{CoreImport, fields_of}
use Rattle.comp_roles.specs.Matching.{kind_of, matches, has_numbers}
use Rattle.comp_roles.specs.declared.imports.Import.{Import}
use Rattle.comp_roles.specs.declared.imports.Import.TheVariants as imports
use Rattle.comp_roles.specs.declared.imports.ImportInstance.{ImportInstance}
use Rattle.comp_roles.specs.declared.imports.ImportInstance.TheVariants as instances
use Rattle.comp_roles.specs.declared.libraries.MainOrAdapter.{MainOrAdapter}
use Rattle.comp_roles.specs.declared.libraries.MainOrAdapter.TheVariants as users
use Rattle.comp_roles.specs.declared.offered.ExternType.{ExternType}
use Rattle.comp_roles.specs.declared.offered.ExternType.TheVariants as externs
use Rattle.comp_roles.specs.declared.offered.ImportType.{ImportType}
use Rattle.comp_worlds.proofs.Matched.{one_function}
use Rattle.comp_worlds.specs.Lookups.{found_module}
use Rattle.comp_worlds.specs.Offered.{OffersItem, OffersMatching, NamedOffers, NamedMatches, AdapterOffers, memory_of_main, MemoryMatches}
use Rattle.comp_worlds.specs.Uses.{imports_of}
use Rattle.comp_worlds.specs.WorldTables.{whole_of}
use Rattle.comp_worlds.specs.Worlds.{IsNotOfMain}
use Rattle.comp_worlds.specs.declared.world.ValidatedModule.{ValidatedModule}
use Rattle.comp_worlds.specs.declared.world.WorldAdapter.{WorldAdapter}
use Rattle.comp_worlds.specs.declared.world.WorldParts.{WorldParts}
use Rattle.record_faults.specs.declared.fault.Failure.{Failure}
use Rattle.record_faults.specs.Faults.{◌>>=◌}
use Rattle.record_faults.proofs.Chains.{bind_ok}
use Rattle.record_imports.specs.Memories.{memories_fit}
use Rattle.supported_worlds.specs.Links.{IsRoleLinked, IsTypeLinked, IsFromInstance, IsImportLinked, IsModuleLinked, AreLinked}
use Rattle.linked_modules.specs.Giving.{importer_of, passes_if, memory_matches, memory_given, offered_given, export_given, is_function, offered_function, of_adapter, adapter_export_given, module_named, of_module, argument_given, role_given, match_given, match_named, type_given, whole_given, matching_given}
use Rattle.linked_modules.specs.Linking.{each_passes, import_given, typed_given, module_given, adapter_given, links_pass}
use Rattle.linked_modules.specs.declared.giving.Importer.{Importer}
use Rattle.linked_modules.specs.declared.giving.Importer.TheVariants as importers
use Rattle.linked_modules.proofs.SameTypes.{one_kind}

pub passed_if : (b : Bool) (failure : Failure) (t : ⊤) → passes_if b failure ≡ Ok t → b ≡ true
passed_if true failure t e = refl
passed_if false failure t e = absurd cc

-- each passes where all do
pub all_pass : {X : Type 0} (check : X → Result ⊤ Failure) (xs : List X) (t : ⊤) → each_passes check xs ≡ Ok t → AllByRecursion (λ x. check x ≡ Ok tt) xs
all_pass check [] t e = tt
all_pass check (x ∷ xs) t e = let a = bind_ok (check x) (λ _. each_passes check xs) t e in (a.1, all_pass check xs t a.2)

both : (a b : Bool) → (a && b) ≡ true → (a ≡ true) × (b ≡ true)
both true b e = (refl, e)
both false b e = absurd (true≢false (sym e))

module _ (p : WorldParts) where
  -- ---- roles

  memory_right : (required : MemoryType) → memory_matches required (memory_of_main p.main) ≡ true → MemoryMatches (whole_of p) required
  memory_right required h = record { matching = λ type is. ap (memory_matches required) (sym is) ∙ h }

  memory_linked : (field : List ℕ) (required : MemoryType) (t : ⊤) → memory_given p.main field required ≡ Ok t → MemoryMatches (whole_of p) required
  memory_linked field required t e = memory_right required (passed_if (memory_matches required (memory_of_main p.main)) _ t e)

  item_linked : (m : ValidatedModule) (from field name : List ℕ) (kind : ExportKind) (o : Option ExternType) (t : ⊤) → found name m.offered ≡ o → offered_given m from field name kind o ≡ Ok t → OffersItem m name kind
  item_linked m from field name kind None t is e = absurd cc
  item_linked m from field name kind (Some type) t is e = record { type = type; offered = is; of_kind = one_kind (kind_of type) kind (passed_if (same_kind.eq-value.it (kind_of type) kind) _ t e) }

  export_linked : (importer : Importer) (from field name : List ℕ) (kind : ExportKind) (t : ⊤) → export_given importer p.main from field name kind ≡ Ok t → OffersItem p.main name kind
  export_linked importers.Main from field name kind t e = absurd cc
  export_linked importers.Adapter from field name kind t e = item_linked p.main from field name kind (found name p.main.offered) t refl e
  export_linked importers.Library from field name kind t e = item_linked p.main from field name kind (found name p.main.offered) t refl e

  function_right : (adapter name : List ℕ) (required : FuncType) (of : WorldAdapter) (item : ExternType) → found adapter p.adapters ≡ Some of → found name of.info.offered ≡ Some item → is_function required item ≡ true
      → AdapterOffers (whole_of p) adapter name required
  function_right adapter name required of (externs.Func f) named is h =
      let b = both (same_function.eq-value.it f required) (has_numbers required) h in
      record { of = of; named = named; offered = is ∙ ap (λ (x : FuncType). Some (externs.Func x)) (one_function f required b.0); numbers = b.1 }
  function_right adapter name required of item named is h = absurd (true≢false (sym h))

  function_linked : (adapter from field name : List ℕ) (required : FuncType) (of : WorldAdapter) (o : Option ExternType) (t : ⊤) → found adapter p.adapters ≡ Some of → found name of.info.offered ≡ o
      → offered_function of.info from field name required o ≡ Ok t → AdapterOffers (whole_of p) adapter name required
  function_linked adapter from field name required of None t named is e = absurd cc
  function_linked adapter from field name required of (Some item) t named is e = function_right adapter name required of item named is (passed_if (is_function required item) _ t e)

  adapter_linked : (adapter from field name : List ℕ) (required : FuncType) (o : Option WorldAdapter) (t : ⊤) → found adapter p.adapters ≡ o → of_adapter o from field name required ≡ Ok t → AdapterOffers (whole_of p) adapter name required
  adapter_linked adapter from field name required None t named e = absurd cc
  adapter_linked adapter from field name required (Some of) t named e = function_linked adapter from field name required of (found name of.info.offered) t named refl e

  adapter_export_linked : (importer : Importer) (adapter from field name : List ℕ) (required : FuncType) (t : ⊤) → adapter_export_given importer (found adapter p.adapters) from field name required ≡ Ok t
      → AdapterOffers (whole_of p) adapter name required
  adapter_export_linked importers.Adapter adapter from field name required t e = absurd cc
  adapter_export_linked importers.Main adapter from field name required t e = adapter_linked adapter from field name required (found adapter p.adapters) t refl e
  adapter_export_linked importers.Library adapter from field name required t e = adapter_linked adapter from field name required (found adapter p.adapters) t refl e

  -- ---- what arguments name

  pub named_is : (which : MainOrAdapter) → found_module (whole_of p) which ≡ module_named p.main p.adapters which
  named_is users.Main = refl
  named_is (users.Adapter name) = refl

  of_module_linked : (which : MainOrAdapter) (from field name : List ℕ) (kind : ExportKind) (o : Option ValidatedModule) (t : ⊤) → module_named p.main p.adapters which ≡ o → of_module o from field name kind ≡ Ok t → NamedOffers (whole_of p) which name kind
  of_module_linked which from field name kind None t is e = absurd cc
  of_module_linked which from field name kind (Some m) t is e = record { of = m; named = named_is which ∙ is; offers = item_linked m from field name kind (found name m.offered) t refl e }

  argument_linked : (importer : Importer) (which : MainOrAdapter) (from field name : List ℕ) (kind : ExportKind) (t : ⊤) → argument_given importer (module_named p.main p.adapters which) from field name kind ≡ Ok t → NamedOffers (whole_of p) which name kind
  argument_linked importers.Main which from field name kind t e = absurd cc
  argument_linked importers.Adapter which from field name kind t e = of_module_linked which from field name kind (module_named p.main p.adapters which) t refl e
  argument_linked importers.Library which from field name kind t e = of_module_linked which from field name kind (module_named p.main p.adapters which) t refl e

  pub role_linked : (importer : Importer) (from field : List ℕ) (role : Import) (t : ⊤) → role_given importer p.main p.adapters from field role ≡ Ok t → IsRoleLinked (whole_of p) role
  role_linked importer from field (imports.MainModuleMemory required) t e = memory_linked field required t e
  role_linked importer from field (imports.MainModuleExport name kind) t e = export_linked importer from field name kind t e
  role_linked importer from field (imports.AdapterExport adapter name required) t e = adapter_export_linked importer adapter from field name required t e
  role_linked importer from field (imports.Item item) t e = argument_linked importer item.which from field item.name item.kind t e
  role_linked importer from field role t e = tt

  -- main imports no export of its own
  pub not_of_main : (from field : List ℕ) (role : Import) (t : ⊤) → role_given importers.Main p.main p.adapters from field role ≡ Ok t → IsNotOfMain role
  not_of_main from field (imports.MainModuleExport name kind) t e = absurd cc
  not_of_main from field (imports.Item item) t e = absurd cc
  not_of_main from field role t e = tt

  -- ---- types

  match_linked : (m : ValidatedModule) (i : ImportType) (name : List ℕ) (o : Option ExternType) (t : ⊤) → found name m.offered ≡ o → match_given m i name o ≡ Ok t → OffersMatching m name i.ty
  match_linked m i name None t is e = absurd cc
  match_linked m i name (Some type) t is e = record { type = type; offered = is; matching = passed_if (matches i.ty type) _ t e }

  named_linked : (which : MainOrAdapter) (i : ImportType) (name : List ℕ) (o : Option ValidatedModule) (t : ⊤) → module_named p.main p.adapters which ≡ o → match_named o i name ≡ Ok t → NamedMatches (whole_of p) which name i.ty
  named_linked which i name None t is e = absurd cc
  named_linked which i name (Some m) t is e = record { of = m; named = named_is which ∙ is; matches = match_linked m i name (found name m.offered) t refl e }

  role_typed : (i : ImportType) (role : Import) (t : ⊤) → type_given p.main p.adapters i (Some role) ≡ Ok t → IsTypeLinked (whole_of p) role i.ty
  role_typed i (imports.MainModuleExport name kind) t e = match_linked p.main i name (found name p.main.offered) t refl e
  role_typed i (imports.Item item) t e = named_linked item.which i item.name (module_named p.main p.adapters item.which) t refl e
  role_typed i role t e = tt

  whole_linked : (importer : Importer) (which : MainOrAdapter) (i : ImportType) (t : ⊤) → whole_given importer (module_named p.main p.adapters which) i ≡ Ok t → NamedMatches (whole_of p) which i.field i.ty
  whole_linked importers.Main which i t e = absurd cc
  whole_linked importers.Adapter which i t e = named_linked which i i.field (module_named p.main p.adapters which) t refl e
  whole_linked importers.Library which i t e = named_linked which i i.field (module_named p.main p.adapters which) t refl e

  -- the imports from a module have this role for a field
  roled : (importer : Importer) (i : ImportType) (role : Import) (o : Option ImportInstance) (t : ⊤) → option_and_then (λ (x : ImportInstance). found i.field (fields_of x)) o ≡ Some role → matching_given importer p.main p.adapters i o ≡ Ok t
      → type_given p.main p.adapters i (Some role) ≡ Ok t
  roled importer i role None t is e = absurd (none-some role is)
  roled importer i role (Some (instances.Names fields)) t is e = ap (type_given p.main p.adapters i) (sym is) ∙ e
  roled importer i role (Some (instances.Whole which)) t is e = absurd (none-some role is)

  pub type_linked : (importer : Importer) (m : ValidatedModule) (i : ImportType) (t : ⊤) → typed_given importer p.main p.adapters m.imports.modules i ≡ Ok t → IsImportLinked (whole_of p) m i
  type_linked importer m i t e = record {
    by_role = λ role is. role_typed i role t (roled importer i role (found i.module_name m.imports.modules) t is e);
    by_instance = λ which is. whole_linked importer which i t (ap (matching_given importer p.main p.adapters i) (sym is) ∙ e);
  }

  -- main is given no whole instance
  pub none_whole : (i : ImportType) (t : ⊤) → typed_given importers.Main p.main p.adapters p.main.imports.modules i ≡ Ok t → (which : MainOrAdapter) → IsFromInstance p.main i which → ⊥
  none_whole i t e which is = let failed : whole_given importers.Main (module_named p.main p.adapters which) i ≡ Ok t = ap (matching_given importers.Main p.main p.adapters i) (sym is) ∙ e in absurd cc

  -- ---- modules

  -- the imports of a module pass by their roles, and by their types
  pub record PassesAll (importer : Importer) (m : ValidatedModule) : Type 0 where
    pub by_role : AllByRecursion (λ i. import_given importer p.main p.adapters i ≡ Ok tt) (imports_of m)
    pub by_type : AllByRecursion (λ i. typed_given importer p.main p.adapters m.imports.modules i ≡ Ok tt) m.imported

  module_passes : (importer : Importer) (m : ValidatedModule) (t : ⊤) → module_given importer p.main p.adapters m ≡ Ok t → PassesAll importer m
  module_passes importer m t e =
      let a = bind_ok (each_passes (import_given importer p.main p.adapters) (imports_of m)) (λ _. each_passes (typed_given importer p.main p.adapters m.imports.modules) m.imported) t e in
      record {
        by_role = all_pass (import_given importer p.main p.adapters) (imports_of m) tt a.1;
        by_type = all_pass (typed_given importer p.main p.adapters m.imports.modules) m.imported t a.2;
      }

  roles_linked : (importer : Importer) (all : List CoreImport) → AllByRecursion (λ i. import_given importer p.main p.adapters i ≡ Ok tt) all → AllByRecursion (λ i. IsRoleLinked (whole_of p) i.role) all
  roles_linked importer all h = AllByRecursion-weaker (λ (i : CoreImport) (e : import_given importer p.main p.adapters i ≡ Ok tt). role_linked importer i.module_name i.field i.role tt e) all h

  none_of_main : (all : List CoreImport) → AllByRecursion (λ i. import_given importers.Main p.main p.adapters i ≡ Ok tt) all → AllByRecursion (λ i. IsNotOfMain i.role) all
  none_of_main all h = AllByRecursion-weaker (λ (i : CoreImport) (e : import_given importers.Main p.main p.adapters i ≡ Ok tt). not_of_main i.module_name i.field i.role tt e) all h

  module_linked : (importer : Importer) (m : ValidatedModule) → PassesAll importer m → IsModuleLinked (whole_of p) m
  module_linked importer m h = record {
    roles = roles_linked importer (imports_of m) h.by_role;
    types = AllByRecursion-weaker (λ (i : ImportType) (e : typed_given importer p.main p.adapters m.imports.modules i ≡ Ok tt). type_linked importer m i tt e) m.imported h.by_type;
  }

  -- all of them pass
  pub record AllPass : Type 0 where
    pub memories : memories_fit p.main.imports.modules ≡ Ok tt
    pub main : PassesAll importers.Main p.main
    pub adapters : AllByRecursion (λ a. PassesAll (importer_of a.1.library_info) a.1.info) p.adapters

  adapter_passes : (a : List ℕ × WorldAdapter) → adapter_given p.main p.adapters a ≡ Ok tt → PassesAll (importer_of a.1.library_info) a.1.info
  adapter_passes a h = module_passes (importer_of a.1.library_info) a.1.info tt h

  pub links_hold : (t : ⊤) → links_pass p ≡ Ok t → AllPass
  unfolding links_pass
  links_hold t e =
      let others : Result ⊤ Failure = each_passes (adapter_given p.main p.adapters) p.adapters in
      let a = bind_ok (memories_fit p.main.imports.modules) (λ _. module_given importers.Main p.main p.adapters p.main >>= λ _. others) t e in
      let b = bind_ok (module_given importers.Main p.main p.adapters p.main) (λ _. others) t a.2 in
      record {
        memories = a.1;
        main = module_passes importers.Main p.main tt b.1;
        adapters = AllByRecursion-weaker adapter_passes p.adapters (all_pass (adapter_given p.main p.adapters) p.adapters t b.2);
      }

  pub are_linked : (t : ⊤) → links_pass p ≡ Ok t → AreLinked p
  are_linked t e =
      let h = links_hold t e in
      let main = h.main in
      record {
        main_first = record {
          roles = none_of_main (imports_of p.main) main.by_role;
          by_roles = AllByRecursion-weaker (λ (i : ImportType) (e : typed_given importers.Main p.main p.adapters p.main.imports.modules i ≡ Ok tt). none_whole i tt e) p.main.imported main.by_type;
        };
        main = module_linked importers.Main p.main main;
        adapters = AllByRecursion-weaker (λ (a : List ℕ × WorldAdapter) (h : PassesAll (importer_of a.1.library_info) a.1.info). module_linked (importer_of a.1.library_info) a.1.info h) p.adapters h.adapters;
      }
