-- Types as closed trees, and the types of functions (component model, explainer: `valtype`, `defvaltype`, `functype`).
-- A tree holds all that a type is made of, and no index: a resource is known by what it is. So two types are the same
-- exactly where their trees are equal.
use Rattle.std.specs.Prelude.{ℕ, ◌==◌, Bool, true, false, ◌&&◌, List, [], ◌∷◌, Option, Some, None}
use Rattle.std.specs.List.{list_all}
use Rattle.std.specs.Option.{option_eq}
use Rattle.std.specs.Str.{bytes_eq}
use Rattle.standard_kinds.specs.declared.kinds.Primitive.{Primitive}

-- where something is imported: the number of the import of the component and, where that is an instance, the name
-- inside of it
pub record Origin : Type 0 where
  pub number : ℕ
  pub inner : Option (List ℕ)

-- a resource: an imported one, by where it is imported; or one that the component defines, by its number among those
pub data Resource : Type 0 where
  ImportedAt : (origin : Origin) → Resource
  DefinedAt : (number : ℕ) → Resource

-- whether two resources are one
abbrev pub same_origin : Origin → Origin → Bool
same_origin a b = a.number == b.number && option_eq bytes_eq a.inner b.inner

abbrev pub same_resource : Resource → Resource → Bool
same_resource (ImportedAt a) (ImportedAt b) = same_origin a b
same_resource (DefinedAt a) (DefinedAt b) = a == b
same_resource a b = false

mutual
  pub data Tree : Type 0 where
    -- no type: the payload of a case, a result, a stream or a future that has none
    Absent : Tree
    PrimitiveOf : Primitive → Tree
    -- the names of the fields, and their types
    RecordOf : List (List ℕ) → Trees → Tree
    TupleOf : Trees → Tree
    -- the names of the cases, and their payloads
    VariantOf : List (List ℕ) → Trees → Tree
    EnumOf : List (List ℕ) → Tree
    FlagsOf : List (List ℕ) → Tree
    ListOf : Tree → Tree
    OptionOf : Tree → Tree
    -- the payloads of success and of failure
    ResultOf : Tree → Tree → Tree
    -- the handles of a resource
    OwnOf : Tree → Tree
    BorrowOf : Tree → Tree
    StreamOf : Tree → Tree
    FutureOf : Tree → Tree
    ResourceAt : (resource : Resource) → Tree
    -- what an index has that names no type of values
    Unknown : Tree

  -- trees in their order
  pub data Trees : Type 0 where
    Nil : Trees
    Cons : Tree → Trees → Trees

abbrev pub trees_of : List Tree → Trees
trees_of [] = Nil
trees_of (t ∷ ts) = Cons t (trees_of ts)

-- whether each index that it was made of named a type of values
abbrev mutual
  pub is_known : Tree → Bool
  is_known Absent = true
  is_known (PrimitiveOf p) = true
  is_known (RecordOf names ts) = are_known ts
  is_known (TupleOf ts) = are_known ts
  is_known (VariantOf names ts) = are_known ts
  is_known (EnumOf names) = true
  is_known (FlagsOf names) = true
  is_known (ListOf t) = is_known t
  is_known (OptionOf t) = is_known t
  is_known (ResultOf ok err) = is_known ok && is_known err
  is_known (OwnOf t) = is_known t
  is_known (BorrowOf t) = is_known t
  is_known (StreamOf t) = is_known t
  is_known (FutureOf t) = is_known t
  is_known (ResourceAt resource) = true
  is_known Unknown = false

  pub are_known : Trees → Bool
  are_known Nil = true
  are_known (Cons t ts) = is_known t && are_known ts

-- a parameter of a function
pub record ParamTree : Type 0 where
  pub name : List ℕ
  pub tree : Tree

-- the type of a function
pub record FunctionTree : Type 0 where
  pub is_async : Bool
  pub params : List ParamTree
  pub result : Option Tree

-- whether all types of a function are known
abbrev pub is_known_result : Option Tree → Bool
is_known_result None = true
is_known_result (Some t) = is_known t

abbrev pub is_known_function : FunctionTree → Bool
is_known_function f = list_all (λ p. is_known p.tree) f.params && is_known_result f.result
