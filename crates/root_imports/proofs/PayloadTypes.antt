-- The types of streams and futures, at the root: they have an index, and what they denote is known.
use Rattle.std.proofs.Common.{◌≡◌, ◌∙◌, ℕ, Bool, true, false, true≢false, List, Some, IsSome, is_some, refl, sym, ap, subst}
use Rattle.comp_bytes.specs.declared.types.ComponentValType.{ComponentValType}
use Rattle.comp_bytes.specs.declared.types.ComponentValType.TheVariants as values
use Rattle.comp_links.specs.Lists.{resource_of}
use Rattle.comp_roles.specs.declared.payloads.PayloadType.{PayloadType}
use Rattle.comp_roles.specs.declared.payloads.PayloadType.TheVariants as payloads
use Rattle.comp_terms.specs.Planned.{payload_tree}
use Rattle.comp_trees.proofs.Knowing.{trees_are_known}
use Rattle.comp_trees.proofs.KnownScopes.{known_operand}
use Rattle.comp_trees.specs.DefinedScopes.{Denotes}
use Rattle.comp_trees.specs.DefinedTrees.{TypeTree, OfValues, values_of, value_tree}
use Rattle.comp_trees.specs.Operands.{operand_in}
use Rattle.comp_trees.specs.Trees.{Tree, PrimitiveOf, Resource, is_known}
use Rattle.comp_trees.specs.WitTrees.{kind_tree, making_trees, wit_tree}
use Rattle.comp_worlds.specs.Payloads.{is_payload_kind, IsPayloadType}
use Rattle.comp_worlds.specs.declared.world.ComponentWorld.{ComponentWorld}
use Rattle.standard_kinds.specs.declared.kinds.Primitive.{Primitive}
use Rattle.wit_data.proofs.Values.{made_whole}
use Rattle.wit_data.specs.Parts.{RefersBack}
use Rattle.wit_data.specs.Values.{kind_at, part_values}
use Rattle.wit_data.specs.declared.ids.TypeId.{TypeId}
use Rattle.wit_data.specs.declared.types.Type.TheVariants.{Id}
use Rattle.wit_data.specs.declared.types.TypeDef.{TypeDef}
use Rattle.wit_data.specs.declared.types.TypeDefKind.{TypeDefKind}
use Rattle.wit_data.specs.declared.types.TypeDefKind.TheVariants as kinds
use Rattle.wit_types.specs.Denoting.{ValueDenotes}

-- ---- no primitive type

abbrev is_primitive : Tree → Bool
is_primitive (PrimitiveOf p) = true
is_primitive tree = false

kind_apart : (origins : TypeId → Resource) (n : ℕ) (kind : TypeDefKind) (parts : List Tree) → is_payload_kind kind ≡ true → is_primitive (kind_tree origins n kind parts) ≡ false
kind_apart origins n (kinds.Stream t) parts h = refl
kind_apart origins n (kinds.Future t) parts h = refl
kind_apart origins n kind parts h = absurd (true≢false (sym h))

tree_apart : (origins : TypeId → Resource) (types : List TypeDef) → RefersBack types → (id : TypeId) → IsPayloadType types id → is_primitive (wit_tree origins types (Some (Id id))) ≡ false
tree_apart origins types back id h =
    ap is_primitive (made_whole (making_trees origins) types id.index back h.present) ∙ kind_apart origins id.index (kind_at types id.index) (part_values (making_trees origins) types id.index) h.kind

-- what a stream or a future is, is no primitive value type
pub payload_apart : (origins : TypeId → Resource) (types : List TypeDef) → RefersBack types → (id : TypeId) → IsPayloadType types id → (scope : List TypeTree) (v : ComponentValType) → ValueDenotes scope v (wit_tree origins types (Some (Id id))) →
    (p : Primitive) → v ≡ values.Primitive p → ⊥
payload_apart origins types back id h scope v denotes p is =
    let as_primitive : ValueDenotes scope (values.Primitive p) (wit_tree origins types (Some (Id id))) = subst (λ (x : ComponentValType). ValueDenotes scope x (wit_tree origins types (Some (Id id)))) is denotes in
    true≢false (ap is_primitive as_primitive.is ∙ tree_apart origins types back id h)

-- ---- what is known

tree_known : (w : ComponentWorld) (ty : PayloadType) → is_known (payload_tree w ty) ≡ true
tree_known w (payloads.Typed id name) = trees_are_known (resource_of w) w.resolve.types (Some (Id id))
tree_known w payloads.UnitStream = refl
tree_known w payloads.UnitFuture = refl

-- an index that denotes a stream or a future may be an operand
pub payload_known : (w : ComponentWorld) (ty : PayloadType) (scope : List TypeTree) (index : ℕ) → Denotes scope index (OfValues (payload_tree w ty)) → IsSome (operand_in scope (Some (values.Defined index)))
payload_known w ty scope index h =
    let known : is_known (value_tree scope (values.Defined index)) ≡ true = ap (λ (t : TypeTree). is_known (values_of t)) h.tree ∙ tree_known w ty in
    ap is_some (known_operand (value_tree scope (values.Defined index)) known)
