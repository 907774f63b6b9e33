-- The parameters of a function, with their value types (component model, explainer: `functype`).
use Rattle.std.specs.Prelude.{◌≡◌, List, Some}
use Rattle.std.specs.List.{AllZip}
use Rattle.wit_data.specs.declared.types.Field.{Field as WitField}
use Rattle.comp_bytes.specs.declared.types.Field.{Field}
use Rattle.comp_trees.specs.DefinedTrees.{TypeTree}
use Rattle.wit_types.specs.Settings.{Setting, tree_in}
use Rattle.wit_types.specs.Denoting.{ValueDenotes}

-- the field has the name of the parameter, and its type
pub record FieldDenotes (s : Setting) (scope : List TypeTree) (field : Field) (param : WitField) : Type 0 where
  pub name : field.name ≡ param.name
  pub ty : ValueDenotes scope field.ty (tree_in s (Some param.ty))

-- one for each parameter, in their order
pub record FieldsDenote (s : Setting) (scope : List TypeTree) (fields : List Field) (params : List WitField) : Type 0 where
  pub each : AllZip (FieldDenotes s scope) fields params
