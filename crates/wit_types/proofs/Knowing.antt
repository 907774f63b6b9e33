-- Nothing is unknown in what is defined for types of the resolve.
use Rattle.std.proofs.Common.{◌≡◌, ◌∙◌, ℕ, true, List, [], ◌∷◌, map, refl, ap, Option, Some, None, option_map}
use Rattle.std.specs.List.{list_all}
use Rattle.wit_data.specs.declared.types.Type.{«Type» as Ty}
use Rattle.wit_data.specs.declared.types.Field.{Field as WitField}
use Rattle.wit_data.specs.declared.types.TypeDefKind.{TypeDefKind}
use Rattle.wit_data.specs.Parts.{parts}
use Rattle.comp_trees.specs.Trees.{ParamTree, is_known, is_known_result, is_known_function}
use Rattle.comp_trees.specs.WitTrees.{kind_tree}
use Rattle.comp_trees.specs.DefinedTrees.{TypeTree, OfValues, values_of, tree_at}
use Rattle.comp_trees.specs.DefinedScopes.{Denotes}
use Rattle.comp_trees.proofs.Folds.{holds_each}
use Rattle.comp_trees.proofs.Knowing.{IsKnown, both, kind_known, trees_are_known}
use Rattle.wit_types.specs.declared.maps.FuncTypeKey.{FuncTypeKey}
use Rattle.wit_types.specs.Settings.{Setting, tree_in}
use Rattle.wit_types.specs.Maps.{key_tree}

pub tree_known : (s : Setting) (part : Option Ty) → is_known (tree_in s part) ≡ true
unfolding tree_in
tree_known s part = trees_are_known s.origin s.types part

pub index_known : (s : Setting) (scope : List TypeTree) (index : ℕ) (part : Option Ty) → Denotes scope index (OfValues (tree_in s part)) → is_known (tree_at scope index) ≡ true
index_known s scope index part d = ap (λ (t : TypeTree). is_known (values_of t)) d.tree ∙ tree_known s part

-- a kind whose parts have the trees of their types
pub parts_known : (s : Setting) (n : ℕ) (kind : TypeDefKind) → is_known (kind_tree s.origin n kind (map (tree_in s) (parts kind))) ≡ true
parts_known s n kind = kind_known s.origin n kind (map (tree_in s) (parts kind)) (holds_each IsKnown (tree_in s) (tree_known s) (parts kind))

abbrev param_in : Setting → WitField → ParamTree
param_in s p = record { name = p.name; tree = tree_in s (Some p.ty) }

params_known : (s : Setting) (ps : List WitField) → list_all (λ p. is_known p.tree) (map (param_in s) ps) ≡ true
params_known s [] = refl
params_known s (p ∷ ps) = both (tree_known s (Some p.ty)) (params_known s ps)

result_known : (s : Setting) (result : Option Ty) → is_known_result (option_map (λ t. tree_in s (Some t)) result) ≡ true
result_known s None = refl
result_known s (Some t) = tree_known s (Some t)

-- the type of the functions of a key
pub key_known : (s : Setting) (key : FuncTypeKey) → is_known_function (key_tree s key) ≡ true
key_known s key = both (params_known s key.params) (result_known s key.result)
