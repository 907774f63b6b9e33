-- The core values of a type are those of its tree.
use Rattle.std.proofs.Common.{◌≡◌, ℕ, List, [], ◌∷◌, ◌++◌, map, refl, ap, ◌∙◌, sym, append-nil, Option, Some, None}
use Rattle.std.specs.List.{flat_map}
use Rattle.wit_data.specs.declared.ids.TypeId.{TypeId}
use Rattle.wit_data.specs.declared.types.Type.{«Type» as Ty}
use Rattle.wit_data.specs.declared.types.TypeDefKind.{TypeDefKind}
use Rattle.wit_data.specs.declared.types.TypeDefKind.TheVariants as kinds
use Rattle.wit_data.specs.declared.signatures.WasmType.{WasmType}
use Rattle.wit_data.specs.declared.signatures.WasmType.TheVariants.{I32, F32, F64}
use Rattle.wit_data.specs.Parts.{parts}
use Rattle.wit_data.specs.Flat.{join, join_lists, joined, flattening}
use Rattle.wit_data.proofs.Values.{made_whole}
use Rattle.comp_trees.specs.Trees.{Resource, Tree, Absent, trees_of}
use Rattle.comp_trees.specs.WitTrees.{making_trees}
use Rattle.comp_trees.specs.Flattening.{flat_tree, flat_members, flat_cases}
use Rattle.comp_trees.specs.Laws.{TreesOfParts, FlatOfTrees}
use Rattle.comp_trees.proofs.Folds.{carried}

pub trees_of_parts : TreesOfParts
trees_of_parts origin types id back within = made_whole (making_trees origin) types id.index back within

-- Joining is associative.
join_assoc : (a b c : WasmType) → join (join a b) c ≡ join a (join b c)
join_assoc I32 I32 F64 = refl
join_assoc I32 F32 F64 = refl
join_assoc I32 F64 F64 = refl
join_assoc F32 I32 F64 = refl
join_assoc F32 F32 F64 = refl
join_assoc F32 F64 F64 = refl
join_assoc F64 I32 F64 = refl
join_assoc F64 F32 F64 = refl
join_assoc F64 F64 F64 = refl
join_assoc a b c = refl

join_lists_assoc : (xs ys zs : List WasmType) → join_lists (join_lists xs ys) zs ≡ join_lists xs (join_lists ys zs)
join_lists_assoc [] ys zs = refl
join_lists_assoc (x ∷ xs) [] zs = refl
join_lists_assoc (x ∷ xs) (y ∷ ys) [] = refl
join_lists_assoc (x ∷ xs) (y ∷ ys) (z ∷ zs) = ap (λ w. w ∷ join_lists (join_lists xs ys) zs) (join_assoc x y z) ∙ ap (λ ws. join x (join y z) ∷ ws) (join_lists_assoc xs ys zs)

join_none : (xs : List WasmType) → xs ≡ join_lists xs []
join_none [] = refl
join_none (x ∷ xs) = refl

members : {X : Type 0} (f : X → Tree) (xs : List X) → flat_members (trees_of (map f xs)) ≡ flat_map (λ vs. vs) (map (λ x. flat_tree (f x)) xs)
members f [] = refl
members f (x ∷ xs) = ap (λ vs. flat_tree (f x) ++ vs) (members f xs)

cases_after : {X : Type 0} (f : X → Tree) (xs : List X) (so_far : List WasmType) → join_lists so_far (flat_cases (trees_of (map f xs))) ≡ joined so_far (map (λ x. flat_tree (f x)) xs)
cases_after f [] so_far = sym (join_none so_far)
cases_after f (x ∷ xs) so_far =
    sym (join_lists_assoc so_far (flat_tree (f x)) (flat_cases (trees_of (map f xs))))
    ∙ cases_after f xs (join_lists so_far (flat_tree (f x)))

option_flat : (none some : Tree) → none ≡ Absent → flat_tree some ≡ joined [] (flat_tree none ∷ flat_tree some ∷ [])
option_flat none some e = ap (λ t. joined [] (flat_tree t ∷ flat_tree some ∷ [])) (sym e)

flat_kind : (origin : TypeId → Resource) (index : ℕ) (kind : TypeDefKind) (f : Option Ty → Tree) → f None ≡ Absent → flat_tree ((making_trees origin).made index kind (map f (parts kind))) ≡ flattening.made index kind (map (λ p. flat_tree (f p)) (parts kind))
flat_kind origin index (kinds.Record fields) f e = members f (parts (kinds.Record fields))
flat_kind origin index (kinds.Variant cases) f e = ap (λ vs. I32 ∷ vs) (cases_after f (parts (kinds.Variant cases)) [])
flat_kind origin index (kinds.Enum names) f e = refl
flat_kind origin index (kinds.Flags names) f e = refl
flat_kind origin index (kinds.Tuple types) f e = members f (parts (kinds.Tuple types))
flat_kind origin index (kinds.«Option» t) f e = ap (λ vs. I32 ∷ vs) (option_flat (f None) (f (Some t)) e)
flat_kind origin index (kinds.«Result» r) f e = refl
flat_kind origin index (kinds.«List» t) f e = refl
flat_kind origin index (kinds.Own id) f e = refl
flat_kind origin index (kinds.Borrow id) f e = refl
flat_kind origin index kinds.Resource f e = refl
flat_kind origin index (kinds.Stream t) f e = refl
flat_kind origin index (kinds.Future t) f e = refl
flat_kind origin index (kinds.Alias t) f e = sym (append-nil (flat_tree (f (Some t))))

pub flat_of_trees : FlatOfTrees
flat_of_trees origin types part =
    carried flat_tree (making_trees origin) flattening (record { absent = refl; simple = λ p. refl; made = flat_kind origin }) types part
