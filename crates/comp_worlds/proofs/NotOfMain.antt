-- Main imports no export of its own, and no instance of another module.
use Rattle.std.proofs.Common.{◌≡◌, ℕ, List, [], ◌∷◌, ◌++◌, map, refl}
use Rattle.std.specs.List.{AllByRecursion, flat_map}
use Rattle.comp_roles.specs.CoreImports.{CoreImport, imports_from}
use Rattle.comp_roles.specs.declared.imports.Import.{Import}
use Rattle.comp_roles.specs.declared.imports.Import.TheVariants as imports
use Rattle.comp_roles.specs.declared.imports.ImportInstance.{ImportInstance}
use Rattle.comp_roles.specs.declared.imports.ImportInstance.TheVariants as instances
use Rattle.comp_worlds.specs.Made.{module_of_item, modules_of_group, modules_of_imports}
use Rattle.comp_worlds.specs.Uses.{imports_of}
use Rattle.comp_worlds.specs.Worlds.{IsWorld, IsNotOfMain, IsFirstGroup}
use Rattle.comp_worlds.specs.declared.world.ComponentWorld.{ComponentWorld}

-- import by import
field_of_other : (name : List ℕ) (fields : List (List ℕ × Import)) → AllByRecursion (λ f. IsNotOfMain f.1) fields → AllByRecursion (λ (i : CoreImport). IsNotOfMain i.role) (map (λ f. record { module_name = name; field = f.0; role = f.1 }) fields)
field_of_other name [] h = tt
field_of_other name (f ∷ fields) h = (h.0, field_of_other name fields h.1)

group_of_other : (group : List ℕ × ImportInstance) → IsFirstGroup group → AllByRecursion (λ (i : CoreImport). IsNotOfMain i.role) (imports_from group)
group_of_other (name, instances.Names fields) h = field_of_other name fields h
group_of_other (name, instances.Whole which) h = absurd h

joined : (is js : List CoreImport) → AllByRecursion (λ (i : CoreImport). IsNotOfMain i.role) is → AllByRecursion (λ (i : CoreImport). IsNotOfMain i.role) js → AllByRecursion (λ (i : CoreImport). IsNotOfMain i.role) (is ++ js)
joined [] js h k = k
joined (i ∷ is) js h k = (h.0, joined is js h.1 k)

groups_of_other : (groups : List (List ℕ × ImportInstance)) → AllByRecursion IsFirstGroup groups → AllByRecursion (λ (i : CoreImport). IsNotOfMain i.role) (flat_map imports_from groups)
groups_of_other [] h = tt
groups_of_other (g ∷ groups) h = joined (imports_from g) (flat_map imports_from groups) (group_of_other g h.0) (groups_of_other groups h.1)

pub each_of_other : (w : ComponentWorld) → IsWorld w → AllByRecursion (λ (i : CoreImport). IsNotOfMain i.role) (imports_of w.main)
each_of_other w ok = groups_of_other w.main.imports.modules ok.main_first

-- no module is named
none_in_role : (role : Import) → IsNotOfMain role → module_of_item role ≡ []
none_in_role (imports.Item item) h = absurd h
none_in_role role h = refl

none_in_fields : (fields : List (List ℕ × Import)) → AllByRecursion (λ f. IsNotOfMain f.1) fields → flat_map (λ f. module_of_item f.1) fields ≡ []
none_in_fields [] h = refl
none_in_fields (f ∷ fields) h = rw (none_in_role f.1 h.0) (none_in_fields fields h.1)

none_in_groups : (groups : List (List ℕ × ImportInstance)) → AllByRecursion IsFirstGroup groups → flat_map (λ g. modules_of_group g.1) groups ≡ []
none_in_groups [] h = refl
none_in_groups ((name, instances.Names fields) ∷ groups) h = rw (none_in_fields fields h.0) (none_in_groups groups h.1)
none_in_groups ((name, instances.Whole which) ∷ groups) h = absurd h.0

pub none_named : (w : ComponentWorld) → IsWorld w → modules_of_imports w.main ≡ []
none_named w ok = none_in_groups w.main.imports.modules ok.main_first
