-- What the members of an instance type denote, and what an instance of it exports (component model, explainer:
-- `instancedecl`; binary: type indices).
use Rattle.std.specs.Prelude.{ℕ, ◌≡◌, ◌<◌, Bool, true, false, ◌&&◌, List, [], ◌∷◌, ◌++◌, Some, length, get_or, if◌then◌else◌}
use Rattle.std.specs.Str.{bytes_eq}
use Rattle.comp_bytes.specs.Spaces.{is_space, description_space, member_space}
use Rattle.comp_bytes.specs.declared.space.Space.{Space}
use Rattle.comp_bytes.specs.declared.space.Space.TheVariants as spaces
use Rattle.comp_bytes.specs.declared.types.Member.{Member}
use Rattle.comp_bytes.specs.declared.types.Member.TheVariants as members
use Rattle.comp_bytes.specs.declared.types.Alias.TheVariants as aliases
use Rattle.comp_bytes.specs.declared.types.Description.TheVariants as descriptions
use Rattle.comp_bytes.specs.declared.types.TypeDef.TheVariants as types
use Rattle.comp_trees.specs.Trees.{Resource, ResourceAt, FunctionTree, is_known, is_known_function}
use Rattle.comp_trees.specs.DefinedTrees.{TypeTree, OfValues, OfFunctions, OfOthers, defined_tree, function_tree}

-- whether a member makes a type index
abbrev pub makes_type : Member → Bool
makes_type m = is_space spaces.Type (member_space m)

-- an instance type is defined in a scope, whose types are these, and its instance has a resource under each name of one
pub record Surroundings : Type 0 where
  pub outer : List TypeTree
  pub resource : List ℕ → Resource

-- What the type index of a member denotes, behind those of the scope. An instance type defines no resource and has no
-- instance, and knows no type of a scope further out than the next one.
abbrev pub member_tree : Surroundings → List TypeTree → Member → TypeTree
member_tree s scope (members.Type (types.Func f)) = OfFunctions (function_tree scope f)
member_tree s scope (members.Type (types.Defined t)) = OfValues (defined_tree scope t)
member_tree s scope (members.Alias (aliases.Outer count index)) = get_or (get_or (scope ∷ s.outer ∷ []) count []) index OfOthers
member_tree s scope (members.Export name (descriptions.TypeEqual index)) = get_or scope index OfOthers
member_tree s scope (members.Export name descriptions.SubResource) = OfValues (ResourceAt (s.resource name.name))
member_tree s scope other = OfOthers

-- the scope after a member
abbrev pub with_member : Surroundings → List TypeTree → Member → List TypeTree
with_member s scope m = if makes_type m then scope ++ member_tree s scope m ∷ [] else scope

-- what the type indices denote after these members, behind those of a scope
abbrev pub member_trees : Surroundings → List TypeTree → List Member → List TypeTree
member_trees s scope [] = scope
member_trees s scope (m ∷ ms) = member_trees s (with_member s scope m) ms

-- the index names a type of functions of the scope
pub record IsOfFunctions (scope : List TypeTree) (index : ℕ) : Type 0 where
  pub type : FunctionTree
  pub tree : get_or scope index OfOthers ≡ OfFunctions type

-- A member of an instance type that may be imported: a type of values or functions whose parts are
-- types of values, a type of the next scope out, or an export of a type or of a function, by an
-- earlier index, or of a resource. No other is written.
abbrev pub IsMemberRight : Surroundings → List TypeTree → Member → Type 0
IsMemberRight s scope (members.Type (types.Func f)) = is_known_function (function_tree scope f) ≡ true
IsMemberRight s scope (members.Type (types.Defined t)) = is_known (defined_tree scope t) ≡ true
IsMemberRight s scope (members.Alias (aliases.Outer count index)) = (count ≡ 1) × (index < length s.outer)
IsMemberRight s scope (members.Export name (descriptions.TypeEqual index)) = index < length scope
IsMemberRight s scope (members.Export name (descriptions.Func index)) = IsOfFunctions scope index
IsMemberRight s scope (members.Export name descriptions.SubResource) = Unit {0}
IsMemberRight s scope other = ⊥

-- each is, after the scope of the members before it
abbrev pub AreMembersRight : Surroundings → List TypeTree → List Member → Type 0
AreMembersRight s scope [] = Unit {0}
AreMembersRight s scope (m ∷ ms) = IsMemberRight s scope m × AreMembersRight s (with_member s scope m) ms

-- whether a member exports this name in this space
abbrev pub exports_name : Space → List ℕ → Member → Bool
exports_name space name (members.Export n description) = is_space space (Some (description_space description)) && bytes_eq name n.name
exports_name space name member = false

-- the type, and the type of the function, that an instance exports under a name, where `all` is
-- what the type indices of its instance type denote
abbrev pub type_exported : Surroundings → List TypeTree → List ℕ → List Member → TypeTree
type_exported s all name [] = OfOthers
type_exported s all name (members.Export n (descriptions.TypeEqual index) ∷ ms) =
    if bytes_eq name n.name then get_or all index OfOthers else type_exported s all name ms
type_exported s all name (members.Export n descriptions.SubResource ∷ ms) =
    if bytes_eq name n.name then OfValues (ResourceAt (s.resource name)) else type_exported s all name ms
type_exported s all name (m ∷ ms) = type_exported s all name ms

abbrev pub function_exported : List TypeTree → List ℕ → List Member → TypeTree
function_exported all name [] = OfOthers
function_exported all name (members.Export n (descriptions.Func index) ∷ ms) =
    if bytes_eq name n.name then get_or all index OfOthers else function_exported all name ms
function_exported all name (m ∷ ms) = function_exported all name ms
