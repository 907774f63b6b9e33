-- What imports are given of other user modules: the memory and the exports of main, and the
-- instances and items that libraries name.
use Rattle.std.proofs.Common.{◌≡◌, ◌∙◌, ℕ, List, [], ◌∷◌, map, Option, Some, None, is_some, true≢false, refl, sym, ap, subst, Contains, inl, inr}
use Rattle.std.specs.List.{flat_map}
use Rattle.std.proofs.lemmas.List.Elements.{Contains-append_right}
use Rattle.std.specs.Prelude.{IsSome}
use Rattle.std.specs.Option.{option_or}
use Rattle.std.proofs.lemmas.Option.{same_Some}
use Rattle.comp_bytes.specs.Spaces.{kind_space}
use Rattle.comp_bytes.specs.declared.def.CoreArgument.{CoreArgument}
use Rattle.comp_bytes.specs.declared.def.Def.{Def}
use Rattle.comp_bytes.specs.declared.def.Def.TheVariants as defs
use Rattle.comp_bytes.specs.declared.def.Item.TheVariants as items
use Rattle.comp_bytes.specs.declared.space.Space.TheVariants as spaces
use Rattle.comp_bytes.specs.declared.types.Alias.TheVariants as aliases
use Rattle.comp_items.specs.Items.{MayAdd}
use Rattle.comp_lists.proofs.Lists.{AllByRecursion-contains}
use Rattle.comp_links.proofs.Named.{named_found, listed_there}
use Rattle.comp_links.specs.Links.{module_of}
use Rattle.comp_links.specs.Modules.{WorldModule, user_modules, IsModule}
use Rattle.comp_links.specs.Targets.{UserModule, Main, Adapter, ExportOf, MainMemory}
use Rattle.core_options.proofs.Aliases.{grows_alias}
use Rattle.core_options.proofs.Memories.{memory_kind}
use Rattle.core_options.specs.MainOptions.{IsMemoryIf}
use Rattle.core_types.specs.declared.types.MemoryType.{MemoryType}
use Rattle.comp_lists.specs.Found.{found}
use Rattle.comp_roles.specs.CoreImports.{CoreImport, imports_from, fields_of}
use Rattle.comp_roles.specs.Lookups.{memory_of_import, memory_of_fields, imported_memory}
use Rattle.comp_roles.specs.declared.imports.Import.{Import}
use Rattle.comp_roles.specs.declared.imports.Import.TheVariants as imports
use Rattle.comp_roles.specs.declared.imports.ImportInstance.{ImportInstance}
use Rattle.comp_roles.specs.declared.imports.ImportInstance.TheVariants as instances
use Rattle.comp_roles.specs.declared.libraries.Item.{Item}
use Rattle.comp_roles.specs.declared.libraries.MainOrAdapter.{MainOrAdapter}
use Rattle.comp_terms.specs.Planned.{main_memory, IsItemFor, IsArgumentFor}
use Rattle.comp_terms.specs.Rules.{Grows}
use Rattle.comp_terms.specs.Terms.{CoreExport, Is, IsInstanceOf, IsExported}
use Rattle.comp_terms.specs.Terms as terms
use Rattle.comp_worlds.proofs.NotOfMain.{each_of_other}
use Rattle.comp_worlds.specs.Made.{module_of_item, modules_of_group, modules_of_imports}
use Rattle.comp_worlds.specs.Offered.{OffersItem, NamedOffers}
use Rattle.comp_worlds.specs.Uses.{imports_of}
use Rattle.comp_worlds.specs.Worlds.{IsWorld, IsNotOfMain}
use Rattle.comp_worlds.specs.declared.world.ComponentWorld.{ComponentWorld}
use Rattle.comp_worlds.specs.declared.world.ValidatedModule.{ValidatedModule}
use Rattle.comp_links.specs.Modules.{module_found}
use Rattle.interface_needs.proofs.Lists.{contains_none, contains_cons, contains_first, contains_flat, IsInOne, flat_contains}
use Rattle.main_instance.proofs.DirectCalls.{memory_before}
use Rattle.main_instance.specs.Sources.{IsBehindMain, IsMainInstance, IsMemoryBefore, IsMade, instance_in}
use Rattle.standard_kinds.specs.declared.kinds.ExportKind.{ExportKind}
use Rattle.standard_kinds.specs.declared.kinds.ExportKind.TheVariants as kinds

-- main is its own module
is_main : (w : ComponentWorld) → IsModule w 0 Main
is_main w = record { world_module = record { of = Main; found = w.main }; listed = refl; same = refl }

-- ---- main's instance

-- an import of what main gives is not one of main, so that main's instance is there
pub behind : (w : ComponentWorld) → IsWorld w → (of : UserModule) (m : ValidatedModule) → module_found w of ≡ Some m → (i : CoreImport) → Contains (imports_of m) i → (IsNotOfMain i.role → ⊥) → (ds : List Def) (instance : Option ℕ) → IsMainInstance ds of instance → IsBehindMain ds instance
behind w ok Main m found i there not ds instance h =
    let own : Contains (imports_of w.main) i = subst (λ (m : ValidatedModule). Contains (imports_of m) i) (sym (same_Some w.main m found)) there in
    absurd (not (AllByRecursion-contains (λ (i : CoreImport). IsNotOfMain i.role) (imports_of w.main) i (each_of_other w ok) own))
behind w ok (Adapter name) m found i there not ds instance h = h

pub instance_known : (ds : List Def) (instance : Option ℕ) (index : ℕ) → instance ≡ Some index → IsBehindMain ds instance → IsInstanceOf ds index 0
instance_known ds instance index is h = subst (IsBehindMain ds) is h

pub instance_there : (ds : List Def) (instance : Option ℕ) → IsBehindMain ds instance → IsSome instance
instance_there ds None h = absurd h
instance_there ds (Some index) h = refl

-- ---- exports

pub export_grows : (w : ComponentWorld) (old new : List Def) (kind : ExportKind) (instance : ℕ) (name : List ℕ) → OffersItem w.main name kind → IsInstanceOf old instance 0 → MayAdd old new (defs.Item (items.Alias (aliases.CoreExport kind instance name))) → Grows w old new []
export_grows w old new kind instance name h made adds =
    grows_alias w old new kind instance 0 (record { of = Main; found = w.main }) name h.type made refl h.offered h.of_kind adds

is_exported : (ds : List Def) (number : ℕ) (kind : ExportKind) (index : ℕ) (name : List ℕ) → IsExported ds index (record { of = number; kind = kind; name = name }) → Is ds (kind_space kind) index (terms.Exported (record { of = number; kind = kind; name = name }))
is_exported ds number kinds.Func index name is = (refl, is)
is_exported ds number kinds.Memory index name is = (refl, is)
is_exported ds number kinds.Table index name is = (refl, is)
is_exported ds number kinds.Global index name is = (refl, is)

pub export_given : (w : ComponentWorld) (ds : List Def) (kind : ExportKind) (index : ℕ) (name : List ℕ) → IsExported ds index (record { of = 0; kind = kind; name = name }) → IsItemFor w ds (kind_space kind) index (ExportOf (record { of = Main; name = name }))
export_given w ds kind index name is = record { term = terms.Exported (record { of = 0; kind = kind; name = name }); is = is_exported ds 0 kind index name is; asked = record { of = is_main w; named = refl } }

-- ---- items of any module

pub item_grows : (w : ComponentWorld) → IsWorld w → (old new : List Def) (main : Option ℕ) (adapters : List (List ℕ × ℕ)) (item : Item) (instance : ℕ) → (h : IsMade w old main adapters item.which) → instance_in main adapters item.which ≡ Some instance → NamedOffers w item.which item.name item.kind →
    MayAdd old new (defs.Item (items.Alias (aliases.CoreExport item.kind instance item.name))) → Grows w old new []
item_grows w ok old new main adapters item instance h there offers adds =
    let from : WorldModule = h.of.world_module in
    let same : h.instance ≡ instance = same_Some h.instance instance (sym h.there ∙ there) in
    let at : from.found ≡ offers.of = named_found w ok from (listed_there (user_modules w) h.number from h.of.listed) item.which h.of.same offers.of offers.named in
    grows_alias w old new item.kind instance h.number from item.name offers.offers.type (subst (λ n. IsInstanceOf old n h.number) same h.is) h.of.listed
    (ap (λ (m : ValidatedModule). found item.name m.offered) at ∙ offers.offers.offered) offers.offers.of_kind adds

pub item_given : (w : ComponentWorld) (ds : List Def) (number : ℕ) (item : Item) (index : ℕ) → IsModule w number (module_of item.which) → IsExported ds index (record { of = number; kind = item.kind; name = item.name }) →
    IsItemFor w ds (kind_space item.kind) index (ExportOf (record { of = module_of item.which; name = item.name }))
item_given w ds number item index of is = record { term = terms.Exported (record { of = number; kind = item.kind; name = item.name }); is = is_exported ds number item.kind index item.name is; asked = record { of = of; named = refl } }

-- the instance of a module that is made is found
pub made_there : (w : ComponentWorld) (ds : List Def) (main : Option ℕ) (adapters : List (List ℕ × ℕ)) (which : MainOrAdapter) → IsMade w ds main adapters which → IsSome (instance_in main adapters which)
made_there w ds main adapters which h = ap is_some h.there

-- a module that an import names is one of those that all name
named_in_fields : (item : Item) (fields : List (List ℕ × Import)) (f : List ℕ × Import) → f.1 ≡ imports.Item item → Contains fields f → Contains (flat_map (λ f. module_of_item f.1) fields) item.which
named_in_fields item fields f is c = contains_flat (λ (f : List ℕ × Import). module_of_item f.1) fields f item.which c (subst (λ role. Contains (module_of_item role) item.which) (sym is) (contains_first item.which []))

pub item_named : (m : ValidatedModule) (i : CoreImport) (item : Item) → i.role ≡ imports.Item item → Contains (imports_of m) i → Contains (modules_of_imports m) item.which
item_named m i item is c =
    let g : IsInOne imports_from m.imports.modules i = flat_contains imports_from m.imports.modules i c in
    contains_flat (λ (g : List ℕ × ImportInstance). modules_of_group g.1) m.imports.modules g.x item.which g.one (in_group g.x g.there)
  where
    in_fields : (name : List ℕ) (fields : List (List ℕ × Import)) → Contains (map (λ f. record { module_name = name; field = f.0; role = f.1 }) fields) i → Contains (flat_map (λ f. module_of_item f.1) fields) item.which
    in_fields name [] there = contains_none i there
    in_fields name (f ∷ fields) there = elim (contains_cons (record { module_name = name; field = f.0; role = f.1 }) (map (λ f. record { module_name = name; field = f.0; role = f.1 }) fields) i there) [
      | inl same ↦ named_in_fields item (f ∷ fields) f (ap (λ (x : CoreImport). x.role) same ∙ is) (contains_first f fields)
      | inr later ↦ Contains-append_right (module_of_item f.1) (flat_map (λ f. module_of_item f.1) fields) item.which (in_fields name fields later)
    ]

    in_group : (g : List ℕ × ImportInstance) → Contains (imports_from g) i → Contains (modules_of_group g.1) item.which
    in_group (name, instances.Names fields) there = in_fields name fields there
    in_group (name, instances.Whole which) there = contains_none i there

-- so is one of which a whole instance is given
pub whole_named : (m : ValidatedModule) (name : List ℕ) (which : MainOrAdapter) → Contains m.imports.modules (name, instances.Whole which) → Contains (modules_of_imports m) which
whole_named m name which c = contains_flat (λ (g : List ℕ × ImportInstance). modules_of_group g.1) m.imports.modules (name, instances.Whole which) which c (contains_first which [])

-- an argument that is its instance satisfies the imports
pub whole_given : (w : ComponentWorld) (of : UserModule) (ds : List Def) (main : Option ℕ) (adapters : List (List ℕ × ℕ)) (name : List ℕ) (which : MainOrAdapter) (argument : CoreArgument) → IsMade w ds main adapters which → argument.name ≡ name → instance_in main adapters which ≡ Some argument.instance →
    IsArgumentFor w of ds argument (name, instances.Whole which)
whole_given w of ds main adapters name which argument h named there =
    record { named = named; serves = record { number = h.number; of = h.of; is = subst (λ n. IsInstanceOf ds n h.number) (same_Some h.instance argument.instance (sym h.there ∙ there)) h.is } }

-- ---- the memory

-- an alias of main's memory is it
pub memory_given : (w : ComponentWorld) (ds : List Def) (index : ℕ) → IsMemoryIf ds (main_memory w) (Some index) → IsItemFor w ds spaces.CoreMemory index MainMemory
memory_given w ds index h = by (main_memory w) refl h
  where
    by : (o : Option CoreExport) → main_memory w ≡ o → IsMemoryIf ds o (Some index) → IsItemFor w ds spaces.CoreMemory index MainMemory
    by None e k = absurd k
    by (Some export) e k =
        let memory : export.kind ≡ kinds.Memory = memory_kind w export e in
        record { term = terms.Exported export; is = (sym (ap kind_space memory), k); asked = (e, memory) }

-- where main imports its memory, there is one
module _ (i : CoreImport) (type : MemoryType) (is : i.role ≡ imports.MainModuleMemory type) where
  some_left : (a b : Option MemoryType) → IsSome a → IsSome (option_or a b)
  some_left (Some x) b h = refl
  some_left None b h = absurd (true≢false (sym h))

  some_right : (a b : Option MemoryType) → IsSome b → IsSome (option_or a b)
  some_right (Some x) b h = refl
  some_right None b h = h

  memory_in_fields : (name : List ℕ) (fields : List (List ℕ × Import)) → Contains (map (λ f. record { module_name = name; field = f.0; role = f.1 }) fields) i → IsSome (memory_of_fields fields)
  memory_in_fields name [] c = contains_none i c
  memory_in_fields name (f ∷ fields) c = elim (contains_cons (record { module_name = name; field = f.0; role = f.1 }) (map (λ f. record { module_name = name; field = f.0; role = f.1 }) fields) i c) [
    | inl same ↦ some_left (memory_of_import f.1) (memory_of_fields fields) (ap is_some (ap memory_of_import (ap (λ (x : CoreImport). x.role) same ∙ is)))
    | inr later ↦ some_right (memory_of_import f.1) (memory_of_fields fields) (memory_in_fields name fields later)
  ]

  memory_in_group : (g : List ℕ × ImportInstance) → Contains (imports_from g) i → IsSome (memory_of_fields (fields_of g.1))
  memory_in_group (name, instances.Names fields) c = memory_in_fields name fields c
  memory_in_group (name, instances.Whole which) c = contains_none i c

  memory_in_groups : (groups : List (List ℕ × ImportInstance)) (g : List ℕ × ImportInstance) → Contains groups g → IsSome (memory_of_fields (fields_of g.1)) → IsSome (imported_memory groups)
  memory_in_groups [] g c h = contains_none g c
  memory_in_groups (x ∷ groups) g c h = elim (contains_cons x groups g c) [
    | inl same ↦ some_left (memory_of_fields (fields_of x.1)) (imported_memory groups) (subst (λ (y : List ℕ × ImportInstance). IsSome (memory_of_fields (fields_of y.1))) (sym same) h)
    | inr later ↦ some_right (memory_of_fields (fields_of x.1)) (imported_memory groups) (memory_in_groups groups g later h)
  ]

  memory_imported : (groups : List (List ℕ × ImportInstance)) → Contains (flat_map imports_from groups) i → IsSome (imported_memory groups)
  memory_imported groups c = let g : IsInOne imports_from groups i = flat_contains imports_from groups i c in memory_in_groups groups g.x g.one (memory_in_group g.x g.there)

  -- so that main's memory is there for every import of it
  pub memory_for_import : (w : ComponentWorld) (of : UserModule) (m : ValidatedModule) → module_found w of ≡ Some m → Contains (imports_of m) i → (ds : List Def) (memory : Option ℕ) → IsMemoryBefore w ds of memory → IsMemoryIf ds (main_memory w) memory
  memory_for_import w Main m there c ds memory h =
      memory_before w ds Main memory (memory_imported w.main.imports.modules (subst (λ (m : ValidatedModule). Contains (imports_of m) i) (sym (same_Some w.main m there)) c)) h
  memory_for_import w (Adapter name) m there c ds memory h = h
