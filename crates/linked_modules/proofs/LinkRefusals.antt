-- What modules import from each other is refused exactly where a cause holds.
use Rattle.std.proofs.Common.{arith, ◌≡◌, ◌∙◌, ◌&&◌, inl, inr, ℕ, Bool, true, false, List, [], ◌∷◌, Option, Some, None, Result, Ok, Err, refl, sym, ap, subst, true≢false}
use Rattle.std.specs.Prelude.{⊤, ◌≢◌, Contains, codes, if◌then◌else◌}
use Rattle.std.specs.Option.{option_and_then}
use Rattle.std.proofs.lemmas.List.Elements.{Contains-append_right}
use Rattle.comp_lists.specs.Found.{found}
use Rattle.comp_lists.proofs.Lists.{AllByRecursion-contains}
use Rattle.core_types.specs.declared.types.FuncType.{FuncType}
use Rattle.core_types.specs.declared.types.MemoryType.{MemoryType}
use Rattle.core_types.specs.contracts.types.FuncTypePartialEq.TheImpl as same_function
use Rattle.standard_kinds.specs.declared.kinds.ExportKind.{ExportKind}
use Rattle.standard_kinds.specs.contracts.kinds.ExportKindPartialEq.TheImpl as same_kind
use Rattle.comp_roles.specs.CoreImports.{CoreImport, fields_of, role_at}
use Rattle.comp_roles.specs.Matching.{kind_of, matches, has_numbers}
use Rattle.comp_roles.specs.declared.imports.Import.{Import}
use Rattle.comp_roles.specs.declared.imports.Import.TheVariants as imports
use Rattle.comp_roles.specs.declared.imports.ImportInstance.{ImportInstance}
use Rattle.comp_roles.specs.declared.imports.ImportInstance.TheVariants as instances
use Rattle.comp_roles.specs.declared.libraries.Item.{Item}
use Rattle.comp_roles.specs.declared.libraries.MainOrAdapter.{MainOrAdapter}
use Rattle.comp_roles.specs.declared.offered.ExternType.{ExternType}
use Rattle.comp_roles.specs.declared.offered.ExternType.TheVariants as externs
use Rattle.comp_roles.specs.declared.offered.ImportType.{ImportType}
use Rattle.comp_worlds.specs.Lookups.{found_module}
use Rattle.comp_worlds.specs.Offered.{OffersItem, OffersMatching, NamedOffers, NamedMatches, AdapterOffers, memory_of_main, MemoryMatches}
use Rattle.comp_worlds.specs.Uses.{imports_of}
use Rattle.comp_worlds.specs.WorldTables.{whole_of}
use Rattle.comp_worlds.specs.Worlds.{IsNotOfMain}
use Rattle.comp_worlds.specs.declared.world.ValidatedModule.{ValidatedModule}
use Rattle.comp_worlds.specs.declared.world.WorldAdapter.{WorldAdapter}
use Rattle.comp_worlds.specs.declared.world.WorldParts.{WorldParts}
use Rattle.record_faults.specs.declared.fault.Failure.{Failure}
use Rattle.record_faults.specs.declared.fault.Failure.TheVariants as failures
use Rattle.record_faults.specs.declared.fault.Refusal.{Refusal}
use Rattle.record_faults.specs.declared.fault.Refusal.TheVariants as refusals
use Rattle.record_faults.specs.Faults.{◌>>=◌}
use Rattle.record_faults.proofs.Chains.{refused, same_refusal, bind_err}
use Rattle.record_imports.specs.Memories.{memories_fit}
use Rattle.record_imports.proofs.Refusing.{has_memory_cause, no_memory_cause}
use Rattle.supported_worlds.specs.Links.{IsRoleLinked, IsImportLinked}
use Rattle.linked_modules.specs.Giving.{importer_of, passes_if, exports_name, not_offered, memory_matches, memory_given, offered_given, export_given, is_function, offered_function, of_adapter, adapter_export_given, module_named, of_module, argument_given, role_given, match_given, match_named, type_given, whole_given, matching_given}
use Rattle.linked_modules.specs.LinkCauses.{NotOffered, not_exported, not_given, RoleCause, unmatched_memory, own_export, not_of_main, of_another_kind, for_main_or_libraries, no_adapter, not_of_adapter, of_another_type, with_references, item_of_main, no_module_of_item, item_not_offered, item_of_another_kind, NotMatching, no_module, not_of_named, of_unmatched_type, TypeCause, not_there, unmatched, of_item, of_instance, instance_of_main, GivenCause, by_role, by_type, LinkCause, memories, to_main, to_adapter}
use Rattle.linked_modules.specs.Linking.{each_passes, import_given, typed_given, module_given, adapter_given, links_pass}
use Rattle.linked_modules.specs.Reports.{missing, unfit}
use Rattle.linked_modules.specs.declared.giving.Importer.{Importer}
use Rattle.linked_modules.specs.declared.giving.Importer.TheVariants as importers
use Rattle.linked_modules.proofs.Linked.{named_is, role_linked, not_of_main as is_not_of_main, type_linked, PassesAll, links_hold}
use Rattle.linked_modules.proofs.SameTypes.{same_kinds, same_functions}

-- ---- checks that fail

failed_if : (b : Bool) (failure : Failure) (f : Refusal) → passes_if b failure ≡ refused f → (b ≡ false) × (failure ≡ failures.Refused f)
failed_if true failure f e = absurd cc
failed_if false failure f e = (refl, cc)

-- what is reported is what is refused
reported : (P : Refusal → Type 0) (g f : Refusal) → failures.Refused g ≡ failures.Refused f → P g → P f
reported P g f e h = subst P (same_refusal g f e) h

-- the first that fails
one_fails : {X : Type 0} (check : X → Result ⊤ Failure) (xs : List X) (f : Refusal) → each_passes check xs ≡ refused f → (x : X) × Contains xs x × (check x ≡ refused f)
one_fails check [] f e = absurd cc
one_fails check (x ∷ xs) f e = elim (bind_err (check x) (λ _. each_passes check xs) (failures.Refused f) e) [
  | inl h ↦ (x, (0, omega arith, refl), h)
  | inr a ↦ let k = one_fails check xs f a.2 in (k.0, Contains-append_right (x ∷ []) xs k.0 k.1, k.2)
]

none-some : {X : Type 0} (o : Option X) (x : X) → o ≡ None → o ≡ Some x → ⊥
none-some o x a b = absurd cc

same_some : {X : Type 0} (o : Option X) (x y : X) → o ≡ Some x → o ≡ Some y → x ≡ y
same_some o x y a b = cc

left_false : (b : Bool) → (b && true) ≡ false → b ≡ false
left_false true h = absurd (true≢false h)
left_false false h = refl

-- ---- names that are not offered

abbrev chosen : Bool → List ℕ → List ℕ → Result ⊤ Failure
chosen b from field = Err (if b then unfit field else missing from field)

not_offered_caused : (m : ValidatedModule) (name from field : List ℕ) (f : Refusal) → found name m.offered ≡ None → not_offered m name from field ≡ refused f → NotOffered m name from field f
not_offered_caused m name from field f none e = by (exports_name m.bytes name) refl e
  where
    by : (b : Bool) → exports_name m.bytes name ≡ b → chosen b from field ≡ refused f → NotOffered m name from field f
    by true is e = reported (NotOffered m name from field) (refusals.CoreType field) f (cc (e)) (not_given none is)
    by false is e = reported (NotOffered m name from field) (refusals.RoleMissing from field) f (cc (e)) (not_exported none is)

-- nothing is offered there
is_none : (m : ValidatedModule) (name from field : List ℕ) (f : Refusal) → NotOffered m name from field f → found name m.offered ≡ None
is_none m name from field f (not_exported none e) = none
is_none m name from field f (not_given none e) = none

module _ (p : WorldParts) where
  -- ---- what arguments name

  not_named : (which : MainOrAdapter) → module_named p.main p.adapters which ≡ None → found_module (whole_of p) which ≡ None
  not_named which is = named_is p which ∙ is

  -- ---- roles that are refused

  module _ (importer : Importer) (i : CoreImport) (f : Refusal) where
    memory_fails : (required : MemoryType) → i.role ≡ imports.MainModuleMemory required → (o : Option MemoryType) → memory_of_main p.main ≡ o
        → passes_if (memory_matches required o) (unfit i.field) ≡ refused f → RoleCause p importer i f
    memory_fails required role None is e = absurd cc
    memory_fails required role (Some memory) is e =
        let h = failed_if (memory_matches required (Some memory)) (unfit i.field) f e in
        reported (RoleCause p importer i) (refusals.CoreType i.field) f h.1 (unmatched_memory required memory role is h.0)

    item_fails : (name : List ℕ) (kind : ExportKind) → i.role ≡ imports.MainModuleExport name kind → (o : Option ExternType) → found name p.main.offered ≡ o
        → offered_given p.main i.module_name i.field name kind o ≡ refused f → RoleCause p importer i f
    item_fails name kind role None is e = not_of_main name kind f role (not_offered_caused p.main name i.module_name i.field f is e)
    item_fails name kind role (Some type) is e =
        let h = failed_if (same_kind.eq-value.it (kind_of type) kind) (unfit i.field) f e in
        reported (RoleCause p importer i) (refusals.CoreType i.field) f h.1 (of_another_kind name kind type role is (λ same. true≢false (sym (same_kinds (kind_of type) kind same) ∙ h.0)))

    export_refused : (name : List ℕ) (kind : ExportKind) → i.role ≡ imports.MainModuleExport name kind → (from : Importer) → importer ≡ from → export_given from p.main i.module_name i.field name kind ≡ refused f
        → RoleCause p importer i f
    export_refused name kind role importers.Main is e = reported (RoleCause p importer i) (refusals.RoleMissing i.module_name i.field) f (cc (e)) (own_export name kind is role)
    export_refused name kind role importers.Adapter is e = item_fails name kind role (found name p.main.offered) refl e
    export_refused name kind role importers.Library is e = item_fails name kind role (found name p.main.offered) refl e

    module _ (adapter name : List ℕ) (required : FuncType) (role : i.role ≡ imports.AdapterExport adapter name required) where
      function_fails : (of : WorldAdapter) (item : ExternType) → found adapter p.adapters ≡ Some of → found name of.info.offered ≡ Some item → is_function required item ≡ false → RoleCause p importer i (refusals.CoreType i.field)
      function_fails of (externs.Func g) named is h = by (has_numbers required) refl
        where
          by : (b : Bool) → has_numbers required ≡ b → RoleCause p importer i (refusals.CoreType i.field)
          by true numbers =
              let other : same_function.eq-value.it g required ≡ false = left_false (same_function.eq-value.it g required) (ap (λ b. same_function.eq-value.it g required && b) (sym numbers) ∙ h) in
              of_another_type adapter name required of (externs.Func g) role named is (λ same. true≢false (sym (same_functions g required same) ∙ other))
          by false numbers = with_references adapter name required role numbers
      function_fails of item named is h = of_another_type adapter name required of item role named is (λ same. absurd cc)

      offered_fails : (of : WorldAdapter) (o : Option ExternType) → found adapter p.adapters ≡ Some of → found name of.info.offered ≡ o → offered_function of.info i.module_name i.field name required o ≡ refused f → RoleCause p importer i f
      offered_fails of None named is e = not_of_adapter adapter name required of f role named (not_offered_caused of.info name i.module_name i.field f is e)
      offered_fails of (Some item) named is e =
          let h = failed_if (is_function required item) (unfit i.field) f e in
          reported (RoleCause p importer i) (refusals.CoreType i.field) f h.1 (function_fails of item named is h.0)

      adapter_fails : (o : Option WorldAdapter) → found adapter p.adapters ≡ o → of_adapter o i.module_name i.field name required ≡ refused f → RoleCause p importer i f
      adapter_fails None named e = reported (RoleCause p importer i) (refusals.RoleMissing i.module_name i.field) f (cc (e)) (no_adapter adapter name required role named)
      adapter_fails (Some of) named e = offered_fails of (found name of.info.offered) named refl e

      adapter_refused : (from : Importer) → importer ≡ from → adapter_export_given from (found adapter p.adapters) i.module_name i.field name required ≡ refused f → RoleCause p importer i f
      adapter_refused importers.Adapter is e = reported (RoleCause p importer i) (refusals.RoleMissing i.module_name i.field) f (cc (e)) (for_main_or_libraries adapter name required is role)
      adapter_refused importers.Main is e = adapter_fails (found adapter p.adapters) refl e
      adapter_refused importers.Library is e = adapter_fails (found adapter p.adapters) refl e

    module _ (item : Item) (role : i.role ≡ imports.Item item) where
      item_of_fails : (of : ValidatedModule) (o : Option ExternType) → found_module (whole_of p) item.which ≡ Some of → found item.name of.offered ≡ o → offered_given of i.module_name i.field item.name item.kind o ≡ refused f → RoleCause p importer i f
      item_of_fails of None named is e = item_not_offered item of f role named (not_offered_caused of item.name i.module_name i.field f is e)
      item_of_fails of (Some type) named is e =
          let h = failed_if (same_kind.eq-value.it (kind_of type) item.kind) (unfit i.field) f e in
          reported (RoleCause p importer i) (refusals.CoreType i.field) f h.1 (item_of_another_kind item of type role named is (λ same. true≢false (sym (same_kinds (kind_of type) item.kind same) ∙ h.0)))

      module_fails : (o : Option ValidatedModule) → module_named p.main p.adapters item.which ≡ o → of_module o i.module_name i.field item.name item.kind ≡ refused f → RoleCause p importer i f
      module_fails None is e = reported (RoleCause p importer i) (refusals.RoleMissing i.module_name i.field) f (cc (e)) (no_module_of_item item role (not_named item.which is))
      module_fails (Some of) is e = item_of_fails of (found item.name of.offered) (named_is p item.which ∙ is) refl e

      argument_refused : (from : Importer) → importer ≡ from → argument_given from (module_named p.main p.adapters item.which) i.module_name i.field item.name item.kind ≡ refused f → RoleCause p importer i f
      argument_refused importers.Main is e = reported (RoleCause p importer i) (refusals.RoleMissing i.module_name i.field) f (cc (e)) (item_of_main item is role)
      argument_refused importers.Adapter is e = module_fails (module_named p.main p.adapters item.which) refl e
      argument_refused importers.Library is e = module_fails (module_named p.main p.adapters item.which) refl e

    role_refused : (role : Import) → i.role ≡ role → role_given importer p.main p.adapters i.module_name i.field role ≡ refused f → RoleCause p importer i f
    role_refused (imports.MainModuleMemory required) is e = memory_fails required is (memory_of_main p.main) refl e
    role_refused (imports.MainModuleExport name kind) is e = export_refused name kind is importer refl e
    role_refused (imports.AdapterExport adapter name required) is e = adapter_refused adapter name required is importer refl e
    role_refused (imports.Item item) is e = argument_refused item is importer refl e
    role_refused role is e = absurd cc

  -- ---- types that are refused

  named_fails : (which : MainOrAdapter) (name : List ℕ) (i : ImportType) (f : Refusal) (of : ValidatedModule) (o : Option ExternType) → found_module (whole_of p) which ≡ Some of → found name of.offered ≡ o → match_given of i name o ≡ refused f
      → NotMatching p which name i f
  named_fails which name i f of None named is e = not_of_named of f named (not_offered_caused of name i.module_name i.field f is e)
  named_fails which name i f of (Some type) named is e =
      let h = failed_if (matches i.ty type) (unfit i.field) f e in
      reported (NotMatching p which name i) (refusals.CoreType i.field) f h.1 (of_unmatched_type of type named is h.0)

  named_refused : (which : MainOrAdapter) (name : List ℕ) (i : ImportType) (f : Refusal) (o : Option ValidatedModule) → module_named p.main p.adapters which ≡ o → match_named o i name ≡ refused f → NotMatching p which name i f
  named_refused which name i f None is e = reported (NotMatching p which name i) (refusals.RoleMissing i.module_name i.field) f (cc (e)) (no_module (not_named which is))
  named_refused which name i f (Some of) is e = named_fails which name i f of (found name of.offered) (named_is p which ∙ is) refl e

  module _ (importer : Importer) (m : ValidatedModule) (i : ImportType) (f : Refusal) where
    match_fails : (name : List ℕ) (kind : ExportKind) → role_at m.imports.modules i.module_name i.field ≡ Some (imports.MainModuleExport name kind)
        → (o : Option ExternType) → found name p.main.offered ≡ o → match_given p.main i name o ≡ refused f → TypeCause p importer m i f
    match_fails name kind role None is e = not_there name kind f role (not_offered_caused p.main name i.module_name i.field f is e)
    match_fails name kind role (Some type) is e =
        let h = failed_if (matches i.ty type) (unfit i.field) f e in
        reported (TypeCause p importer m i) (refusals.CoreType i.field) f h.1 (unmatched name kind type role is h.0)

    role_type_refused : (o : Option Import) → role_at m.imports.modules i.module_name i.field ≡ o → type_given p.main p.adapters i o ≡ refused f → TypeCause p importer m i f
    role_type_refused (Some (imports.MainModuleExport name kind)) is e = match_fails name kind is (found name p.main.offered) refl e
    role_type_refused (Some (imports.Item item)) is e = of_item item f is (named_refused item.which item.name i f (module_named p.main p.adapters item.which) refl e)
    role_type_refused o is e = absurd cc

    whole_refused : (which : MainOrAdapter) → found i.module_name m.imports.modules ≡ Some (instances.Whole which) → (from : Importer) → importer ≡ from → whole_given from (module_named p.main p.adapters which) i ≡ refused f → TypeCause p importer m i f
    whole_refused which whole importers.Main is e = reported (TypeCause p importer m i) (refusals.RoleMissing i.module_name i.field) f (cc (e)) (instance_of_main which is whole)
    whole_refused which whole importers.Adapter is e = of_instance which f whole (named_refused which i.field i f (module_named p.main p.adapters which) refl e)
    whole_refused which whole importers.Library is e = of_instance which f whole (named_refused which i.field i f (module_named p.main p.adapters which) refl e)

    type_refused : (o : Option ImportInstance) → found i.module_name m.imports.modules ≡ o → matching_given importer p.main p.adapters i o ≡ refused f → TypeCause p importer m i f
    type_refused None is e = absurd cc
    type_refused (Some (instances.Names fields)) is e =
        role_type_refused (found i.field fields) (ap (λ (o : Option ImportInstance). option_and_then (λ (x : ImportInstance). found i.field (fields_of x)) o) is) e
    type_refused (Some (instances.Whole which)) is e = whole_refused which is importer refl e

  -- ---- modules that are refused

  module_refused : (importer : Importer) (m : ValidatedModule) (f : Refusal) → module_given importer p.main p.adapters m ≡ refused f → GivenCause p importer m f
  module_refused importer m f e = elim (bind_err (each_passes (import_given importer p.main p.adapters) (imports_of m)) (λ _. each_passes (typed_given importer p.main p.adapters m.imports.modules) m.imported) (failures.Refused f) e) [
    | inl h ↦ let one = one_fails (import_given importer p.main p.adapters) (imports_of m) f h in by_role one.0 f one.1 (role_refused importer one.0 f one.0.role refl one.2)
    | inr a ↦ let one = one_fails (typed_given importer p.main p.adapters m.imports.modules) m.imported f a.2 in by_type one.0 f one.1 (type_refused importer m one.0 f (found one.0.module_name m.imports.modules) refl one.2)
  ]

  links_refused : (f : Refusal) → links_pass p ≡ refused f → LinkCause p f
  unfolding links_pass
  links_refused f e =
      let others : Result ⊤ Failure = each_passes (adapter_given p.main p.adapters) p.adapters in
      elim (bind_err (memories_fit p.main.imports.modules) (λ _. module_given importers.Main p.main p.adapters p.main >>= λ _. others) (failures.Refused f) e) [
        | inl h ↦ memories f (has_memory_cause p.main.imports.modules (failures.Refused f) (λ other. h) f refl)
        | inr a ↦ elim (bind_err (module_given importers.Main p.main p.adapters p.main) (λ _. others) (failures.Refused f) a.2) [
          | inl h ↦ to_main f (module_refused importers.Main p.main f h)
          | inr b ↦
              let one = one_fails (adapter_given p.main p.adapters) p.adapters f b.2 in
              to_adapter one.0 f one.1 (module_refused (importer_of one.0.1.library_info) one.0.1.info f one.2)
        ]
      ]

  pub has_cause : (e : Failure) → (e ≢ failures.Memory → links_pass p ≡ Err e) → (f : Refusal) → e ≡ failures.Refused f → LinkCause p f
  has_cause failures.Memory h f is = absurd cc
  has_cause (failures.Refused x) h f is = links_refused f (h (λ m. cc) ∙ ap (λ (y : Failure). Err y) is)

  -- ---- where all pass there is no cause

  module _ (importer : Importer) (i : CoreImport) (pass : import_given importer p.main p.adapters i ≡ Ok tt) where
    linked_as : (role : Import) → i.role ≡ role → IsRoleLinked (whole_of p) role
    linked_as role is = role_linked p importer i.module_name i.field role tt (ap (role_given importer p.main p.adapters i.module_name i.field) (sym is) ∙ pass)

    not_own : (role : Import) → importer ≡ importers.Main → i.role ≡ role → IsNotOfMain role
    not_own role main is =
        is_not_of_main p i.module_name i.field role tt
        (ap (λ (from : Importer). role_given from p.main p.adapters i.module_name i.field role) (sym main) ∙ (ap (role_given importer p.main p.adapters i.module_name i.field) (sym is) ∙ pass))

    no_adapters : (adapter name : List ℕ) (required : FuncType) → importer ≡ importers.Adapter → i.role ≡ imports.AdapterExport adapter name required → ⊥
    no_adapters adapter name required plain is =
        let role : Import = imports.AdapterExport adapter name required in
        let e : role_given importers.Adapter p.main p.adapters i.module_name i.field role ≡ Ok tt =
        ap (λ (from : Importer). role_given from p.main p.adapters i.module_name i.field role) (sym plain) ∙ (ap (role_given importer p.main p.adapters i.module_name i.field) (sym is) ∙ pass) in
        absurd cc

    no_role_cause : (f : Refusal) → RoleCause p importer i f → ⊥
    no_role_cause f (unmatched_memory required memory is first fails) =
        let h : MemoryMatches (whole_of p) required = linked_as (imports.MainModuleMemory required) is in true≢false (sym (h.matching memory first) ∙ fails)
    no_role_cause f (own_export name kind main is) = not_own (imports.MainModuleExport name kind) main is
    no_role_cause f (not_of_main name kind g is none) =
        let h : OffersItem p.main name kind = linked_as (imports.MainModuleExport name kind) is in none-some (found name p.main.offered) h.type (is_none p.main name i.module_name i.field g none) h.offered
    no_role_cause f (of_another_kind name kind type is there differs) =
        let h : OffersItem p.main name kind = linked_as (imports.MainModuleExport name kind) is in
        differs (ap kind_of (same_some (found name p.main.offered) type h.type there h.offered) ∙ h.of_kind)
    no_role_cause f (for_main_or_libraries adapter name required plain is) = no_adapters adapter name required plain is
    no_role_cause f (no_adapter adapter name required is none) =
        let h : AdapterOffers (whole_of p) adapter name required = linked_as (imports.AdapterExport adapter name required) is in none-some (found adapter p.adapters) h.of none h.named
    no_role_cause f (not_of_adapter adapter name required of g is named none) =
        let h : AdapterOffers (whole_of p) adapter name required = linked_as (imports.AdapterExport adapter name required) is in
        let same : of ≡ h.of = same_some (found adapter p.adapters) of h.of named h.named in
        none-some (found name of.info.offered) (externs.Func required) (is_none of.info name i.module_name i.field g none) (ap (λ (a : WorldAdapter). found name a.info.offered) same ∙ h.offered)
    no_role_cause f (of_another_type adapter name required of type is named there differs) =
        let h : AdapterOffers (whole_of p) adapter name required = linked_as (imports.AdapterExport adapter name required) is in
        let same : of ≡ h.of = same_some (found adapter p.adapters) of h.of named h.named in
        differs (same_some (found name of.info.offered) type (externs.Func required) there (ap (λ (a : WorldAdapter). found name a.info.offered) same ∙ h.offered))
    no_role_cause f (with_references adapter name required is references) =
        let h : AdapterOffers (whole_of p) adapter name required = linked_as (imports.AdapterExport adapter name required) is in true≢false (sym h.numbers ∙ references)
    no_role_cause f (item_of_main item main is) = not_own (imports.Item item) main is
    no_role_cause f (no_module_of_item item is none) =
        let h : NamedOffers (whole_of p) item.which item.name item.kind = linked_as (imports.Item item) is in none-some (found_module (whole_of p) item.which) h.of none h.named
    no_role_cause f (item_not_offered item of g is named none) =
        let h : NamedOffers (whole_of p) item.which item.name item.kind = linked_as (imports.Item item) is in
        let same : of ≡ h.of = same_some (found_module (whole_of p) item.which) of h.of named h.named in
        let item_is = h.offers in
        none-some (found item.name of.offered) item_is.type (is_none of item.name i.module_name i.field g none) (ap (λ (x : ValidatedModule). found item.name x.offered) same ∙ item_is.offered)
    no_role_cause f (item_of_another_kind item of type is named there differs) =
        let h : NamedOffers (whole_of p) item.which item.name item.kind = linked_as (imports.Item item) is in
        let same : of ≡ h.of = same_some (found_module (whole_of p) item.which) of h.of named h.named in
        let item_is = h.offers in
        differs (ap kind_of (same_some (found item.name of.offered) type item_is.type there (ap (λ (x : ValidatedModule). found item.name x.offered) same ∙ item_is.offered)) ∙ item_is.of_kind)

  no_named_cause : (which : MainOrAdapter) (name : List ℕ) (i : ImportType) → NamedMatches (whole_of p) which name i.ty → (f : Refusal) → NotMatching p which name i f → ⊥
  no_named_cause which name i h f (no_module none) = none-some (found_module (whole_of p) which) h.of none h.named
  no_named_cause which name i h f (not_of_named of g named none) =
      let same : of ≡ h.of = same_some (found_module (whole_of p) which) of h.of named h.named in
      let item_is = h.matches in
      none-some (found name of.offered) item_is.type (is_none of name i.module_name i.field g none) (ap (λ (x : ValidatedModule). found name x.offered) same ∙ item_is.offered)
  no_named_cause which name i h f (of_unmatched_type of type named there fails) =
      let same : of ≡ h.of = same_some (found_module (whole_of p) which) of h.of named h.named in
      let item_is = h.matches in
      let one : type ≡ item_is.type = same_some (found name of.offered) type item_is.type there (ap (λ (x : ValidatedModule). found name x.offered) same ∙ item_is.offered) in
      true≢false (sym item_is.matching ∙ (ap (matches i.ty) (sym one) ∙ fails))

  module _ (importer : Importer) (m : ValidatedModule) (i : ImportType) (pass : typed_given importer p.main p.adapters m.imports.modules i ≡ Ok tt) where
    linked : IsImportLinked (whole_of p) m i
    linked = type_linked p importer m i tt pass

    no_type_cause : (f : Refusal) → TypeCause p importer m i f → ⊥
    no_type_cause f (not_there name kind g role none) =
        let h : OffersMatching p.main name i.ty = linked.by_role (imports.MainModuleExport name kind) role in none-some (found name p.main.offered) h.type (is_none p.main name i.module_name i.field g none) h.offered
    no_type_cause f (unmatched name kind type role there fails) =
        let h : OffersMatching p.main name i.ty = linked.by_role (imports.MainModuleExport name kind) role in
        let same : type ≡ h.type = same_some (found name p.main.offered) type h.type there h.offered in
        true≢false (sym h.matching ∙ (ap (matches i.ty) (sym same) ∙ fails))
    no_type_cause f (of_item item g role c) = no_named_cause item.which item.name i (linked.by_role (imports.Item item) role) g c
    no_type_cause f (of_instance which g whole c) = no_named_cause which i.field i (linked.by_instance which whole) g c
    no_type_cause f (instance_of_main which main whole) =
        let failed : whole_given importers.Main (module_named p.main p.adapters which) i ≡ Ok tt =
        ap (λ (from : Importer). whole_given from (module_named p.main p.adapters which) i) (sym main) ∙ (ap (matching_given importer p.main p.adapters i) (sym whole) ∙ pass) in
        absurd cc

  no_given_cause : (importer : Importer) (m : ValidatedModule) (f : Refusal) → PassesAll p importer m → GivenCause p importer m f → ⊥
  no_given_cause importer m f h (by_role i g there c) =
      no_role_cause importer i (AllByRecursion-contains (λ x. import_given importer p.main p.adapters x ≡ Ok tt) (imports_of m) i h.by_role there) g c
  no_given_cause importer m f h (by_type i g there c) =
      no_type_cause importer m i (AllByRecursion-contains (λ x. typed_given importer p.main p.adapters m.imports.modules x ≡ Ok tt) m.imported i h.by_type there) g c

  pub no_cause : (t : ⊤) → links_pass p ≡ Ok t → (f : Refusal) → LinkCause p f → ⊥
  no_cause t e f (memories g c) = let h = links_hold p t e in no_memory_cause p.main.imports.modules tt h.memories g c
  no_cause t e f (to_main g c) = let h = links_hold p t e in no_given_cause importers.Main p.main g h.main c
  no_cause t e f (to_adapter a g there c) =
      let h = links_hold p t e in
      no_given_cause (importer_of a.1.library_info) a.1.info g (AllByRecursion-contains (λ x. PassesAll p (importer_of x.1.library_info) x.1.info) p.adapters a h.adapters there) c
