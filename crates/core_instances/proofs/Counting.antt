-- The landmarks of a list say how many core modules there are, and which are instantiated.
use Rattle.std.proofs.Common.{arith, ◌≡◌, ◌≤◌, ◌∙◌, ◌+◌, false, ℕ, suc, List, [], ◌∷◌, ◌++◌, Option, Some, None, refl, sym, ap, filter_map, length, map}
use Rattle.std.proofs.lemmas.List.{length-append}
use Rattle.std.proofs.lemmas.List.Elements.{filter_map-append}
use Rattle.std.proofs.lemmas.List.Sums.{length-filter}
use Rattle.comp_bytes.specs.ItemIndices.{in_space}
use Rattle.comp_bytes.specs.Spaces.{items_in, is_space, space_of, sort_space, alias_space, description_space}
use Rattle.comp_bytes.specs.declared.def.Def.{Def}
use Rattle.comp_bytes.specs.declared.def.Def.TheVariants as defs
use Rattle.comp_bytes.specs.declared.def.Item.TheVariants as items
use Rattle.comp_bytes.specs.declared.space.ComponentExportKind.TheVariants as exports
use Rattle.comp_bytes.specs.declared.space.Sort.{Sort}
use Rattle.comp_bytes.specs.declared.space.Sort.TheVariants as sorts
use Rattle.comp_bytes.specs.declared.space.Space.TheVariants as spaces
use Rattle.comp_bytes.specs.declared.types.TypeDef.TheVariants as types
use Rattle.comp_bytes.specs.declared.types.Alias.{Alias}
use Rattle.comp_bytes.specs.declared.types.Alias.TheVariants as aliases
use Rattle.comp_bytes.specs.declared.types.Description.{Description}
use Rattle.comp_bytes.specs.declared.types.Description.TheVariants as descriptions
use Rattle.standard_kinds.specs.declared.kinds.ExportKind.TheVariants as kinds
use Rattle.comp_worlds.specs.declared.world.ComponentWorld.{ComponentWorld}
use Rattle.comp_terms.specs.Rules.{Grows, Landmark, ModuleIs, InstanceOf, ResourceDefined, instance_number, instances_in, landmark, landmarks}

-- ---- core modules

abbrev pub module_mark : Landmark → Option (List ℕ)
module_mark (ModuleIs bytes) = Some bytes
module_mark mark = None

abbrev pub modules_in : List Def → List (List ℕ)
modules_in ds = filter_map module_mark (landmarks ds)

sort_apart : (sort : Sort) → is_space spaces.CoreModule (Some (sort_space sort)) ≡ false
sort_apart (sorts.Core kinds.Func) = refl
sort_apart (sorts.Core kinds.Table) = refl
sort_apart (sorts.Core kinds.Memory) = refl
sort_apart (sorts.Core kinds.Global) = refl
sort_apart sorts.Func = refl
sort_apart sorts.Type = refl
sort_apart sorts.Component = refl
sort_apart sorts.Instance = refl

alias_apart : (a : Alias) → is_space spaces.CoreModule (Some (alias_space a)) ≡ false
alias_apart (aliases.Export exports.Func instance name) = refl
alias_apart (aliases.Export exports.Type instance name) = refl
alias_apart (aliases.Export exports.Component instance name) = refl
alias_apart (aliases.Export exports.Instance instance name) = refl
alias_apart (aliases.CoreExport kind instance name) = sort_apart (sorts.Core kind)
alias_apart (aliases.Outer count index) = refl

description_apart : (d : Description) → is_space spaces.CoreModule (Some (description_space d)) ≡ false
description_apart (descriptions.Func index) = refl
description_apart (descriptions.TypeEqual index) = refl
description_apart descriptions.SubResource = refl
description_apart (descriptions.Instance index) = refl

each_marked : (ds : List Def) → length (in_space spaces.CoreModule ds) ≡ length (modules_in ds)
each_marked [] = refl
each_marked (defs.Component inner ∷ ds) = each_marked ds
each_marked (defs.Item (items.CoreModule bytes) ∷ ds) = ap suc (each_marked ds)
each_marked (defs.Item (items.CoreInstantiate number arguments) ∷ ds) = each_marked ds
each_marked (defs.Item (items.CoreExports entries) ∷ ds) = each_marked ds
each_marked (defs.Item (items.Instantiate component arguments) ∷ ds) = each_marked ds
each_marked (defs.Item (items.Alias a) ∷ ds) = rw (alias_apart a) (each_marked ds)
each_marked (defs.Item (items.Type (types.Resource destructor)) ∷ ds) = each_marked ds
each_marked (defs.Item (items.Type (types.Func f)) ∷ ds) = each_marked ds
each_marked (defs.Item (items.Type (types.Defined t)) ∷ ds) = each_marked ds
each_marked (defs.Item (items.InstanceType t) ∷ ds) = each_marked ds
each_marked (defs.Item (items.Lift core options kind) ∷ ds) = each_marked ds
each_marked (defs.Item (items.Lower function options) ∷ ds) = each_marked ds
each_marked (defs.Item (items.Intrinsic i) ∷ ds) = each_marked ds
each_marked (defs.Item (items.Import name description) ∷ ds) = rw (description_apart description) (each_marked ds)
each_marked (defs.Item (items.Export name sort index description) ∷ ds) = rw (sort_apart sort) (each_marked ds)
each_marked (defs.Item (items.Custom name contents) ∷ ds) = each_marked ds

pub modules_counted : (ds : List Def) → items_in spaces.CoreModule ds ≡ length (modules_in ds)
modules_counted ds = sym (length-filter (λ d. is_space spaces.CoreModule (space_of d)) ds) ∙ each_marked ds

-- ---- lists that grow

marks_grown : {w : ComponentWorld} {old new : List Def} {marks : List Landmark} → Grows w old new marks → landmarks new ≡ landmarks old ++ marks
marks_grown {w} {old} {new} {marks} g = ap landmarks g.extended ∙ (filter_map-append landmark old g.more ∙ ap (λ m. landmarks old ++ m) g.marked)

-- so many core modules more
pub modules_grown : {w : ComponentWorld} {old new : List Def} {marks : List Landmark} → Grows w old new marks → items_in spaces.CoreModule new ≡ items_in spaces.CoreModule old + length (filter_map module_mark marks)
modules_grown {w} {old} {new} {marks} g =
    let all : modules_in new ≡ modules_in old ++ filter_map module_mark marks = ap (filter_map module_mark) (marks_grown g) ∙ filter_map-append module_mark (landmarks old) marks in
    modules_counted new ∙ (ap length all ∙ (length-append (modules_in old) (filter_map module_mark marks) ∙ ap (λ n. n + length (filter_map module_mark marks)) (sym (modules_counted old))))

-- these are instantiated after the others
pub instances_grown : {w : ComponentWorld} {old new : List Def} {marks : List Landmark} → Grows w old new marks → instances_in new ≡ instances_in old ++ filter_map instance_number marks
instances_grown {w} {old} {new} {marks} g = ap (filter_map instance_number) (marks_grown g) ∙ filter_map-append instance_number (landmarks old) marks

-- resources are neither modules nor instances
pub no_modules_defined : {X : Type 0} (xs : List X) (more : List Landmark) → filter_map module_mark (map (λ x. ResourceDefined) xs ++ more) ≡ filter_map module_mark more
no_modules_defined [] more = refl
no_modules_defined (x ∷ xs) more = no_modules_defined xs more

pub no_instances_defined : {X : Type 0} (xs : List X) (more : List Landmark) → filter_map instance_number (map (λ x. ResourceDefined) xs ++ more) ≡ filter_map instance_number more
no_instances_defined [] more = refl
no_instances_defined (x ∷ xs) more = no_instances_defined xs more

-- and instances are no modules
pub no_modules_made : (numbers : List ℕ) (more : List Landmark) → filter_map module_mark (map InstanceOf numbers ++ more) ≡ filter_map module_mark more
no_modules_made [] more = refl
no_modules_made (n ∷ numbers) more = no_modules_made numbers more

pub instances_made : (numbers : List ℕ) → filter_map instance_number (map InstanceOf numbers) ≡ numbers
instances_made [] = refl
instances_made (n ∷ numbers) = ap (λ l. n ∷ l) (instances_made numbers)

-- a list that grew has no fewer core modules
pub no_fewer : {w : ComponentWorld} {old new : List Def} {marks : List Landmark} → Grows w old new marks → items_in spaces.CoreModule old ≤ items_in spaces.CoreModule new
no_fewer {w} {old} {new} {marks} g = let grown = modules_grown g in omega (arith, grown)
