-- The inventory of a list has one entry for each item of its spaces (component model, binary format: index spaces).
use Rattle.std.proofs.Common.{◌≡◌, ◌∙◌, ◌+◌, ℕ, List, [], ◌∷◌, length, refl, ap, length-append, zero-add, arith, cond}
use Rattle.std.proofs.lemmas.List.Sums.{sum_by-cons}
use Rattle.comp_bytes.specs.Spaces.{items_in, is_space, space_of}
use Rattle.comp_bytes.specs.declared.space.Space.{Space}
use Rattle.comp_bytes.specs.declared.space.Space.TheVariants as spaces
use Rattle.comp_bytes.specs.declared.space.ComponentExportKind.TheVariants as exports
use Rattle.comp_bytes.specs.declared.space.Sort.TheVariants as sorts
use Rattle.standard_kinds.specs.declared.kinds.ExportKind.TheVariants as kinds
use Rattle.comp_bytes.specs.declared.types.Alias.TheVariants as aliases
use Rattle.comp_bytes.specs.declared.types.Description.TheVariants as descriptions
use Rattle.comp_bytes.specs.declared.def.Item.TheVariants as items
use Rattle.comp_bytes.specs.declared.def.Def.{Def}
use Rattle.comp_bytes.specs.declared.def.Def.TheVariants as defs
use Rattle.comp_inventories.specs.Inventories.{Inventory, types_made, functions_made, instances_made, components_made, with_def, inventory_after, inventory, empty_inventory}

-- one, where the definition makes an item of the space
abbrev pub one_of : Space → Def → ℕ
one_of space d = cond (is_space space (space_of d)) 1 0

one_type : (v : Inventory) (d : Def) → length (types_made v d) ≡ one_of spaces.Type d
one_type v (defs.Component inner) = refl
one_type v (defs.Item (items.CoreModule bytes)) = refl
one_type v (defs.Item (items.CoreInstantiate number arguments)) = refl
one_type v (defs.Item (items.CoreExports entries)) = refl
one_type v (defs.Item (items.Instantiate component arguments)) = refl
one_type v (defs.Item (items.Alias (aliases.Export exports.Func instance name))) = refl
one_type v (defs.Item (items.Alias (aliases.Export exports.Type instance name))) = refl
one_type v (defs.Item (items.Alias (aliases.Export exports.Component instance name))) = refl
one_type v (defs.Item (items.Alias (aliases.Export exports.Instance instance name))) = refl
one_type v (defs.Item (items.Alias (aliases.CoreExport kinds.Func instance name))) = refl
one_type v (defs.Item (items.Alias (aliases.CoreExport kinds.Table instance name))) = refl
one_type v (defs.Item (items.Alias (aliases.CoreExport kinds.Memory instance name))) = refl
one_type v (defs.Item (items.Alias (aliases.CoreExport kinds.Global instance name))) = refl
one_type v (defs.Item (items.Alias (aliases.Outer count index))) = refl
one_type v (defs.Item (items.Type t)) = refl
one_type v (defs.Item (items.InstanceType t)) = refl
one_type v (defs.Item (items.Lift core options kind)) = refl
one_type v (defs.Item (items.Lower function options)) = refl
one_type v (defs.Item (items.Intrinsic i)) = refl
one_type v (defs.Item (items.Import name (descriptions.Func kind))) = refl
one_type v (defs.Item (items.Import name (descriptions.TypeEqual index))) = refl
one_type v (defs.Item (items.Import name descriptions.SubResource)) = refl
one_type v (defs.Item (items.Import name (descriptions.Instance kind))) = refl
one_type v (defs.Item (items.Export name (sorts.Core kinds.Func) index description)) = refl
one_type v (defs.Item (items.Export name (sorts.Core kinds.Table) index description)) = refl
one_type v (defs.Item (items.Export name (sorts.Core kinds.Memory) index description)) = refl
one_type v (defs.Item (items.Export name (sorts.Core kinds.Global) index description)) = refl
one_type v (defs.Item (items.Export name sorts.Func index description)) = refl
one_type v (defs.Item (items.Export name sorts.Type index description)) = refl
one_type v (defs.Item (items.Export name sorts.Component index description)) = refl
one_type v (defs.Item (items.Export name sorts.Instance index description)) = refl
one_type v (defs.Item (items.Custom name contents)) = refl

one_function : (v : Inventory) (d : Def) → length (functions_made v d) ≡ one_of spaces.Func d
one_function v (defs.Component inner) = refl
one_function v (defs.Item (items.CoreModule bytes)) = refl
one_function v (defs.Item (items.CoreInstantiate number arguments)) = refl
one_function v (defs.Item (items.CoreExports entries)) = refl
one_function v (defs.Item (items.Instantiate component arguments)) = refl
one_function v (defs.Item (items.Alias (aliases.Export exports.Func instance name))) = refl
one_function v (defs.Item (items.Alias (aliases.Export exports.Type instance name))) = refl
one_function v (defs.Item (items.Alias (aliases.Export exports.Component instance name))) = refl
one_function v (defs.Item (items.Alias (aliases.Export exports.Instance instance name))) = refl
one_function v (defs.Item (items.Alias (aliases.CoreExport kinds.Func instance name))) = refl
one_function v (defs.Item (items.Alias (aliases.CoreExport kinds.Table instance name))) = refl
one_function v (defs.Item (items.Alias (aliases.CoreExport kinds.Memory instance name))) = refl
one_function v (defs.Item (items.Alias (aliases.CoreExport kinds.Global instance name))) = refl
one_function v (defs.Item (items.Alias (aliases.Outer count index))) = refl
one_function v (defs.Item (items.Type t)) = refl
one_function v (defs.Item (items.InstanceType t)) = refl
one_function v (defs.Item (items.Lift core options kind)) = refl
one_function v (defs.Item (items.Lower function options)) = refl
one_function v (defs.Item (items.Intrinsic i)) = refl
one_function v (defs.Item (items.Import name (descriptions.Func kind))) = refl
one_function v (defs.Item (items.Import name (descriptions.TypeEqual index))) = refl
one_function v (defs.Item (items.Import name descriptions.SubResource)) = refl
one_function v (defs.Item (items.Import name (descriptions.Instance kind))) = refl
one_function v (defs.Item (items.Export name (sorts.Core kinds.Func) index description)) = refl
one_function v (defs.Item (items.Export name (sorts.Core kinds.Table) index description)) = refl
one_function v (defs.Item (items.Export name (sorts.Core kinds.Memory) index description)) = refl
one_function v (defs.Item (items.Export name (sorts.Core kinds.Global) index description)) = refl
one_function v (defs.Item (items.Export name sorts.Func index description)) = refl
one_function v (defs.Item (items.Export name sorts.Type index description)) = refl
one_function v (defs.Item (items.Export name sorts.Component index description)) = refl
one_function v (defs.Item (items.Export name sorts.Instance index description)) = refl
one_function v (defs.Item (items.Custom name contents)) = refl

one_instance : (v : Inventory) (d : Def) → length (instances_made v d) ≡ one_of spaces.Instance d
one_instance v (defs.Component inner) = refl
one_instance v (defs.Item (items.CoreModule bytes)) = refl
one_instance v (defs.Item (items.CoreInstantiate number arguments)) = refl
one_instance v (defs.Item (items.CoreExports entries)) = refl
one_instance v (defs.Item (items.Instantiate component arguments)) = refl
one_instance v (defs.Item (items.Alias (aliases.Export exports.Func instance name))) = refl
one_instance v (defs.Item (items.Alias (aliases.Export exports.Type instance name))) = refl
one_instance v (defs.Item (items.Alias (aliases.Export exports.Component instance name))) = refl
one_instance v (defs.Item (items.Alias (aliases.Export exports.Instance instance name))) = refl
one_instance v (defs.Item (items.Alias (aliases.CoreExport kinds.Func instance name))) = refl
one_instance v (defs.Item (items.Alias (aliases.CoreExport kinds.Table instance name))) = refl
one_instance v (defs.Item (items.Alias (aliases.CoreExport kinds.Memory instance name))) = refl
one_instance v (defs.Item (items.Alias (aliases.CoreExport kinds.Global instance name))) = refl
one_instance v (defs.Item (items.Alias (aliases.Outer count index))) = refl
one_instance v (defs.Item (items.Type t)) = refl
one_instance v (defs.Item (items.InstanceType t)) = refl
one_instance v (defs.Item (items.Lift core options kind)) = refl
one_instance v (defs.Item (items.Lower function options)) = refl
one_instance v (defs.Item (items.Intrinsic i)) = refl
one_instance v (defs.Item (items.Import name (descriptions.Func kind))) = refl
one_instance v (defs.Item (items.Import name (descriptions.TypeEqual index))) = refl
one_instance v (defs.Item (items.Import name descriptions.SubResource)) = refl
one_instance v (defs.Item (items.Import name (descriptions.Instance kind))) = refl
one_instance v (defs.Item (items.Export name (sorts.Core kinds.Func) index description)) = refl
one_instance v (defs.Item (items.Export name (sorts.Core kinds.Table) index description)) = refl
one_instance v (defs.Item (items.Export name (sorts.Core kinds.Memory) index description)) = refl
one_instance v (defs.Item (items.Export name (sorts.Core kinds.Global) index description)) = refl
one_instance v (defs.Item (items.Export name sorts.Func index description)) = refl
one_instance v (defs.Item (items.Export name sorts.Type index description)) = refl
one_instance v (defs.Item (items.Export name sorts.Component index description)) = refl
one_instance v (defs.Item (items.Export name sorts.Instance index description)) = refl
one_instance v (defs.Item (items.Custom name contents)) = refl

pub one_component : (v : Inventory) (d : Def) → length (components_made v d) ≡ one_of spaces.Component d
one_component v (defs.Component inner) = refl
one_component v (defs.Item (items.CoreModule bytes)) = refl
one_component v (defs.Item (items.CoreInstantiate number arguments)) = refl
one_component v (defs.Item (items.CoreExports entries)) = refl
one_component v (defs.Item (items.Instantiate component arguments)) = refl
one_component v (defs.Item (items.Alias (aliases.Export exports.Func instance name))) = refl
one_component v (defs.Item (items.Alias (aliases.Export exports.Type instance name))) = refl
one_component v (defs.Item (items.Alias (aliases.Export exports.Component instance name))) = refl
one_component v (defs.Item (items.Alias (aliases.Export exports.Instance instance name))) = refl
one_component v (defs.Item (items.Alias (aliases.CoreExport kinds.Func instance name))) = refl
one_component v (defs.Item (items.Alias (aliases.CoreExport kinds.Table instance name))) = refl
one_component v (defs.Item (items.Alias (aliases.CoreExport kinds.Memory instance name))) = refl
one_component v (defs.Item (items.Alias (aliases.CoreExport kinds.Global instance name))) = refl
one_component v (defs.Item (items.Alias (aliases.Outer count index))) = refl
one_component v (defs.Item (items.Type t)) = refl
one_component v (defs.Item (items.InstanceType t)) = refl
one_component v (defs.Item (items.Lift core options kind)) = refl
one_component v (defs.Item (items.Lower function options)) = refl
one_component v (defs.Item (items.Intrinsic i)) = refl
one_component v (defs.Item (items.Import name (descriptions.Func kind))) = refl
one_component v (defs.Item (items.Import name (descriptions.TypeEqual index))) = refl
one_component v (defs.Item (items.Import name descriptions.SubResource)) = refl
one_component v (defs.Item (items.Import name (descriptions.Instance kind))) = refl
one_component v (defs.Item (items.Export name (sorts.Core kinds.Func) index description)) = refl
one_component v (defs.Item (items.Export name (sorts.Core kinds.Table) index description)) = refl
one_component v (defs.Item (items.Export name (sorts.Core kinds.Memory) index description)) = refl
one_component v (defs.Item (items.Export name (sorts.Core kinds.Global) index description)) = refl
one_component v (defs.Item (items.Export name sorts.Func index description)) = refl
one_component v (defs.Item (items.Export name sorts.Type index description)) = refl
one_component v (defs.Item (items.Export name sorts.Component index description)) = refl
one_component v (defs.Item (items.Export name sorts.Instance index description)) = refl
one_component v (defs.Item (items.Custom name contents)) = refl

module _ (space : Space) (size : Inventory → ℕ) (step : (v : Inventory) (d : Def) → size (with_def v d) ≡ size v + one_of space d) where
  counted_after : (v : Inventory) (ds : List Def) → size (inventory_after v ds) ≡ size v + items_in space ds
  counted_after v [] = omega arith
  counted_after v (d ∷ ds) =
      let rest : size (inventory_after (with_def v d) ds) ≡ size (with_def v d) + items_in space ds = counted_after (with_def v d) ds in
      let first : size (with_def v d) ≡ size v + one_of space d = step v d in
      let all : items_in space (d ∷ ds) ≡ one_of space d + items_in space ds = sum_by-cons (λ d. one_of space d) d ds in
      omega (arith, rest, first, all)

pub types-counted : (ds : List Def) → length (inventory ds).types ≡ items_in spaces.Type ds
unfolding inventory
types-counted ds = counted_after spaces.Type (λ v. length v.types) (λ v d. length-append v.types (types_made v d) ∙ ap (λ n. length v.types + n) (one_type v d)) empty_inventory ds ∙ zero-add (items_in spaces.Type ds)

pub functions-counted : (ds : List Def) → length (inventory ds).functions ≡ items_in spaces.Func ds
unfolding inventory
functions-counted ds = counted_after spaces.Func (λ v. length v.functions) (λ v d. length-append v.functions (functions_made v d) ∙ ap (λ n. length v.functions + n) (one_function v d)) empty_inventory ds ∙ zero-add (items_in spaces.Func ds)

pub instances-counted : (ds : List Def) → length (inventory ds).instances ≡ items_in spaces.Instance ds
unfolding inventory
instances-counted ds = counted_after spaces.Instance (λ v. length v.instances) (λ v d. length-append v.instances (instances_made v d) ∙ ap (λ n. length v.instances + n) (one_instance v d)) empty_inventory ds ∙ zero-add (items_in spaces.Instance ds)
