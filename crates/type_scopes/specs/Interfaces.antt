-- What the types and functions of an interface are in a scope (component model, WIT: interfaces; explainer: instance
-- types).
use Rattle.std.specs.Prelude.{ℕ, ◌≡◌, true, false, List, [], ◌∷◌, ◌++◌, map, take, slice_get, Some, is_some, if◌then◌else◌}
use Rattle.std.specs.Str.{bytes_eq}
use Rattle.std.specs.Map.{lookup}
use Rattle.std.specs.List.{AllByRecursion, AllZip, flat_map, list_any}
use Rattle.wit_data.specs.declared.ids.TypeId.{TypeId}
use Rattle.wit_data.specs.declared.ids.InterfaceId.{InterfaceId}
use Rattle.wit_data.specs.declared.types.Type.TheVariants.{Id}
use Rattle.wit_data.specs.declared.types.TypeDef.{TypeDef}
use Rattle.wit_data.specs.declared.functions.Function.{Function}
use Rattle.wit_data.specs.Values.{kind_at}
use Rattle.comp_bytes.specs.declared.types.ComponentValType.{ComponentValType}
use Rattle.comp_bytes.specs.declared.space.Space.TheVariants as spaces
use Rattle.comp_bytes.specs.declared.types.Member.{Member}
use Rattle.comp_trees.specs.Trees.{Resource}
use Rattle.comp_trees.specs.WitTrees.{wit_tree, wit_function_tree}
use Rattle.comp_trees.specs.DefinedTrees.{TypeTree, OfValues, OfFunctions}
use Rattle.wit_types.specs.Settings.{Setting}
use Rattle.wit_types.specs.Allowing.{is_resource, IsDefinedHere}
use Rattle.comp_trees.specs.DefinedScopes.{Denotes}
use Rattle.wit_types.specs.Denoting.{ValueDenotes}
use Rattle.wit_types.specs.declared.maps.TypeEncodingMaps.{TypeEncodingMaps}
use Rattle.wit_types.specs.Maps.{IsNamedValue, Faithful}
use Rattle.comp_trees.specs.Members.{Surroundings, AreMembersRight, member_trees, exports_name, type_exported}
use Rattle.type_scopes.specs.Titles.{IsTitled, title}
use Rattle.type_scopes.specs.Exports.{IsExport, any_index, AreOwnExports, exports_of, function_exports}
use Rattle.type_scopes.specs.Offers.{Offer, placed}

-- A type has a value type in the scope. Where that is a type of the scope, it is the one that the
-- type's name stands for.
pub record TypeIn (s : Setting) (scope : List TypeTree) (names : List ℕ → ℕ → Type 0) (id : TypeId) : Type 0 where
  pub value : ComponentValType
  pub denotes : ValueDenotes scope value (wit_tree s.origin s.types (Some (Id id)))
  pub named : IsNamedValue s names (Id id) value

pub record TypesIn (s : Setting) (scope : List TypeTree) (names : List ℕ → ℕ → Type 0) (ids : List TypeId) : Type 0 where
  pub each : AllByRecursion (TypeIn s scope names) ids

-- an instance exports a type of the interface under its name
pub record ExportsType (s : Surroundings) (origin : TypeId → Resource) (types : List TypeDef) (here : InterfaceId) (ms : List Member) (id : TypeId) : Type 0 where
  pub name : List ℕ
  pub titled : IsTitled types here id name
  pub there : list_any (exports_name spaces.Type name) ms ≡ true
  pub tree : type_exported s (member_trees s [] ms) name ms ≡ OfValues (wit_tree origin types (Some (Id id)))

-- a function is exported under its name, and its type is this one of the scope
pub record FunctionIn (s : Setting) (scope : List TypeTree) (export : List ℕ × ℕ) (f : Function) : Type 0 where
  pub name : export.0 ≡ f.name
  pub denotes : Denotes scope export.1 (OfFunctions (wit_function_tree s.origin s.types f))

-- these are exported, in their order
pub record FunctionsIn (s : Setting) (scope : List TypeTree) (exports : List (List ℕ × ℕ)) (fs : List Function) : Type 0 where
  pub each : AllZip (FunctionIn s scope) exports fs

-- the function of an entry, where it is one of the used names
abbrev pub used_function : List (List ℕ × Unit {0}) → List ℕ × Function → List Function
used_function used (name, f) = if is_some (lookup (bytes_eq name) used) then f ∷ [] else []

-- the functions of an interface that are used, in its order
abbrev pub used_among : List (List ℕ × Unit {0}) → List (List ℕ × Function) → List Function
used_among used fs = flat_map (used_function used) fs

-- further functions are exported, which are these, and nothing else is
pub record AddsFunctions (s : Setting) (scope : List TypeTree) (old new : List Member) (fs : List Function) : Type 0 where
  pub exports : List (List ℕ × ℕ)
  pub added : function_exports new ≡ function_exports old ++ exports
  pub are : FunctionsIn s scope exports fs
  pub names : exports_of new ≡ exports_of old ++ map (λ f. f.name) fs

-- the tables of an instance type are right, where these types were passed
abbrev pub IsRight : Surroundings → (TypeId → Resource) → Offer → InterfaceId → List TypeId → List Member → TypeEncodingMaps → Type 0
IsRight s origin o here passed ms maps = Faithful (placed s origin o here passed) (member_trees s [] ms) any_index (Unit {0}) maps

-- these types are exported, in their order, and nothing else is
pub record AreExported (s : Surroundings) (origin : TypeId → Resource) (o : Offer) (here : InterfaceId) (passed : List TypeId) (ms : List Member) : Type 0 where
  pub right : AreMembersRight s [] ms
  pub own : AreOwnExports s origin o here passed [] ms
  pub types : TypesIn (placed s origin o here []) (member_trees s [] ms) (IsExport ms) passed
  pub names : exports_of ms ≡ map (title o.types) passed
  pub functions : function_exports ms ≡ []

-- a type that is a resource, or whose parts may be encoded, once these were passed
abbrev pub IsNext : Surroundings → (TypeId → Resource) → Offer → InterfaceId → List TypeId → TypeId → Type 0
IsNext s origin o here passed id = is_resource (kind_at o.types id.index) ≡ false → IsDefinedHere (placed s origin o here passed) (kind_at o.types id.index)

-- each of these types is so once those before it were passed
pub record AreInOrder (s : Surroundings) (origin : TypeId → Resource) (o : Offer) (here : InterfaceId) (ids : List TypeId) : Type 0 where
  pub each : (n : ℕ) (id : TypeId) → slice_get ids n ≡ Some id → IsNext s origin o here (take n ids) id
