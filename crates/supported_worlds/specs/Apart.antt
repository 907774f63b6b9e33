-- No key occurs twice in a table (component model: names of imports and exports).
use Rattle.std.specs.Prelude.{ℕ, List}
use Rattle.std.specs.List.{IsDistinct, AllByRecursion}
use Rattle.std.specs.Map.{keys_of}
use Rattle.std.specs.Str.{bytes_eq}
use Rattle.wit_data.specs.Keys.{is_same_key}
use Rattle.wit_data.specs.declared.worlds.World.{World}
use Rattle.comp_roles.specs.declared.imports.ImportInstance.{ImportInstance}
use Rattle.comp_roles.specs.declared.imports.ImportInstance.TheVariants as instances
use Rattle.comp_worlds.specs.declared.world.WorldAdapter.{WorldAdapter}
use Rattle.comp_worlds.specs.declared.world.WorldParts.{WorldParts}
use Rattle.supported_worlds.specs.LeftOut.{items_of}

-- the keys of what a world imports, and of what it exports
pub record ItemsApart (w : World) : Type 0 where
  pub imports : IsDistinct is_same_key (keys_of w.imports)
  pub exports : IsDistinct is_same_key (keys_of w.exports)

-- the fields that are imported from one module, where they are listed one by one
abbrev pub FieldsApart : ImportInstance → Type 0
FieldsApart (instances.Names fields) = IsDistinct bytes_eq (keys_of fields)
FieldsApart (instances.Whole which) = Unit {0}

-- the modules that are imported from, and the fields of each
pub record GroupsApart (groups : List (List ℕ × ImportInstance)) : Type 0 where
  pub modules : IsDistinct bytes_eq (keys_of groups)
  pub fields : AllByRecursion (λ g. FieldsApart g.1) groups

-- the adapters, by their names, and the imports of each
pub record AdaptersApart (adapters : List (List ℕ × WorldAdapter)) : Type 0 where
  pub names : IsDistinct bytes_eq (keys_of adapters)
  pub groups : AllByRecursion (λ a. GroupsApart a.1.info.imports.modules) adapters

-- the imports of main, and the adapters
pub record ModulesApart (p : WorldParts) : Type 0 where
  pub main : GroupsApart p.main.imports.modules
  pub adapters : AdaptersApart p.adapters

pub record AreApart (p : WorldParts) : Type 0 where
  pub items : ItemsApart (items_of p)
  pub modules : ModulesApart p
