-- Where an instance type is defined (component model, explainer: instance types; outer aliases).
use Rattle.wit_data.specs.declared.ids.TypeId.{TypeId}
use Rattle.comp_trees.specs.Trees.{Resource}
use Rattle.comp_trees.specs.Members.{Surroundings}

pub record Place : Type 0 where
  -- what the outer scope denotes, and what the resources are that are exported
  pub surroundings : Surroundings
  -- what each resource of the resolve is
  pub origin : TypeId → Resource
