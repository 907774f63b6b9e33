-- What is known of the adapters that a module names, where none of them is absent from a table, and
-- of the first that is.
use Rattle.std.proofs.Common.{◌≡◌, ℕ, List, [], ◌∷◌, ◌++◌, map, Option, Some, None, refl, subst, arith, Contains}
use Rattle.std.proofs.lemmas.List.Elements.{Contains-append_left, Contains-append_right}
use Rattle.std.specs.List.{AllByRecursion, flat_map}
use Rattle.std.specs.Option.{option_or}
use Rattle.comp_lists.specs.Found.{found}
use Rattle.comp_roles.specs.Lookups.{first_some}
use Rattle.comp_roles.specs.declared.imports.Import.{Import}
use Rattle.comp_roles.specs.declared.imports.Import.TheVariants as imports
use Rattle.comp_roles.specs.declared.imports.ImportInstance.{ImportInstance}
use Rattle.comp_roles.specs.declared.imports.ImportInstance.TheVariants as instances
use Rattle.comp_roles.specs.declared.libraries.Instance.{Instance}
use Rattle.comp_roles.specs.declared.libraries.Instance.TheVariants as arguments
use Rattle.comp_roles.specs.declared.libraries.LibraryInfo.{LibraryInfo}
use Rattle.comp_roles.specs.declared.libraries.MainOrAdapter.{MainOrAdapter}
use Rattle.comp_roles.specs.declared.libraries.MainOrAdapter.TheVariants as modules
use Rattle.comp_worlds.specs.Absent.{absent_module, absent_in_instance, absent_argument, absent_item, absent_in_group, absent_in_imports, absent_adapter}
use Rattle.comp_worlds.specs.Made.{modules_of_argument, modules_of_arguments, module_of_item, modules_of_group, modules_of_imports, modules_named}
use Rattle.comp_worlds.specs.declared.world.ValidatedModule.{ValidatedModule}
use Rattle.comp_worlds.specs.declared.world.WorldAdapter.{WorldAdapter}

-- no module of a list is absent; the first that is, is one of the list, and the table has none of its name
module _ {V : Type 0} (table : List (List ℕ × V)) where
  abbrev pub ArePresent : List MainOrAdapter → Type 0
  ArePresent named = AllByRecursion (λ which. absent_module table which ≡ None) named

  pub record IsAbsent (named : List MainOrAdapter) (name : List ℕ) : Type 0 where
    pub listed : Contains named (modules.Adapter name)
    pub none : found name table ≡ None

  -- what the first absent name of a list says of the list
  abbrev pub Tells : Option (List ℕ) → List MainOrAdapter → Type 0
  Tells None named = ArePresent named
  Tells (Some name) named = IsAbsent named name

  one : (which : MainOrAdapter) → Tells (absent_module table which) (which ∷ [])
  one modules.Main = (refl, tt)
  one (modules.Adapter name) = by (found name table) refl
    where
      by : (o : Option V) → found name table ≡ o → Tells (absent_module table (modules.Adapter name)) (modules.Adapter name ∷ [])
      by None e = rw e (record { listed = (0, omega arith, refl); none = e })
      by (Some v) e = rw e (rw e refl, tt)

  present_both : (first rest : List MainOrAdapter) → ArePresent first → ArePresent rest → ArePresent (first ++ rest)
  present_both [] rest h k = k
  present_both (x ∷ first) rest h k = (h.0, present_both first rest h.1 k)

  both_told : (first rest : List MainOrAdapter) (o p : Option (List ℕ)) → Tells o first → Tells p rest → Tells (option_or o p) (first ++ rest)
  both_told first rest None None h k = present_both first rest h k
  both_told first rest None (Some name) h k = record { listed = Contains-append_right first rest (modules.Adapter name) k.listed; none = k.none }
  both_told first rest (Some name) p h k = record { listed = Contains-append_left first rest (modules.Adapter name) h.listed; none = h.none }

  each_told : {X : Type 0} (pick : X → Option (List ℕ)) (named : X → List MainOrAdapter) → ((x : X) → Tells (pick x) (named x)) → (xs : List X) → Tells (first_some pick xs) (flat_map named xs)
  each_told pick named all [] = tt
  each_told pick named all (x ∷ xs) = both_told (named x) (flat_map named xs) (pick x) (first_some pick xs) (all x) (each_told pick named all xs)

  each_mapped : {X : Type 0} (which : X → MainOrAdapter) (xs : List X) → Tells (first_some (λ x. absent_module table (which x)) xs) (map which xs)
  each_mapped which [] = tt
  each_mapped which (x ∷ xs) = both_told (which x ∷ []) (map which xs) (absent_module table (which x)) (first_some (λ x. absent_module table (which x)) xs) (one (which x)) (each_mapped which xs)

  instance_told : (i : Instance) → Tells (absent_in_instance table i) (modules_of_argument i)
  instance_told (arguments.MainOrAdapter which) = one which
  instance_told (arguments.Items items) = each_mapped (λ i. i.which) items

  arguments_told : (info : Option LibraryInfo) → Tells (absent_argument table info) (modules_of_arguments info)
  arguments_told None = tt
  arguments_told (Some info) = each_told (λ a. absent_in_instance table a.instance) (λ a. modules_of_argument a.instance) (λ a. instance_told a.instance) info.arguments

  item_told : (role : Import) → Tells (absent_item table role) (module_of_item role)
  item_told (imports.Item item) = one item.which
  item_told role = tt

  group_told : (i : ImportInstance) → Tells (absent_in_group table i) (modules_of_group i)
  group_told (instances.Names fields) = each_told (λ f. absent_item table f.1) (λ f. module_of_item f.1) (λ f. item_told f.1) fields
  group_told (instances.Whole which) = one which

  imports_told : (m : ValidatedModule) → Tells (absent_in_imports table m.imports) (modules_of_imports m)
  imports_told m = each_told (λ g. absent_in_group table g.1) (λ g. modules_of_group g.1) (λ g. group_told g.1) m.imports.modules

  adapter_told : (a : WorldAdapter) → Tells (absent_adapter table a) (modules_named a)
  adapter_told a = both_told (modules_of_arguments a.library_info) (modules_of_imports a.info) (absent_argument table a.library_info) (absent_in_imports table a.info.imports) (arguments_told a.library_info) (imports_told a.info)

  pub all_present : (a : WorldAdapter) → absent_adapter table a ≡ None → ArePresent (modules_named a)
  all_present a e = subst (λ o. Tells o (modules_named a)) e (adapter_told a)

  pub first_is_absent : (a : WorldAdapter) (name : List ℕ) → absent_adapter table a ≡ Some name → IsAbsent (modules_named a) name
  first_is_absent a name e = subst (λ o. Tells o (modules_named a)) e (adapter_told a)
