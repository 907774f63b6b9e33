-- The definitions that made the items which links go through, by their index in each space.
-- Component model, binary format: index spaces.
use Rattle.std.specs.Prelude.{ℕ, List, [], Option, Some, None, slice_get, option_and_then}
use Rattle.comp_bytes.specs.ItemIndices.{in_space}
use Rattle.comp_bytes.specs.declared.space.Space.{Space}
use Rattle.comp_bytes.specs.declared.space.Space.TheVariants as spaces
use Rattle.comp_bytes.specs.declared.def.Item.{Item}
use Rattle.comp_bytes.specs.declared.def.Def.{Def}
use Rattle.comp_bytes.specs.declared.def.Def.TheVariants as defs

-- the definitions of a component that made items of these spaces, each list in the order of the indices
pub record Found : Type 0 where
  pub core_funcs : List Def
  pub core_tables : List Def
  pub core_memories : List Def
  pub core_globals : List Def
  pub core_instances : List Def
  pub funcs : List Def
  pub instances : List Def

abbrev pub found_in : List Def → Found
found_in ds = record {
  core_funcs = in_space spaces.CoreFunc ds;
  core_tables = in_space spaces.CoreTable ds;
  core_memories = in_space spaces.CoreMemory ds;
  core_globals = in_space spaces.CoreGlobal ds;
  core_instances = in_space spaces.CoreInstance ds;
  funcs = in_space spaces.Func ds;
  instances = in_space spaces.Instance ds;
}

-- those of a space; no links go through the other spaces
abbrev pub of_space : Found → Space → List Def
of_space f spaces.CoreFunc = f.core_funcs
of_space f spaces.CoreTable = f.core_tables
of_space f spaces.CoreMemory = f.core_memories
of_space f spaces.CoreGlobal = f.core_globals
of_space f spaces.CoreModule = []
of_space f spaces.CoreInstance = f.core_instances
of_space f spaces.Func = f.funcs
of_space f spaces.Type = []
of_space f spaces.Component = []
of_space f spaces.Instance = f.instances

abbrev pub as_item : Def → Option Item
as_item (defs.Item i) = Some i
as_item (defs.Component inner) = None

-- what made the item of this index in a space
abbrev pub item : Found → Space → ℕ → Option Item
item f space index = option_and_then as_item (slice_get (of_space f space) index)
