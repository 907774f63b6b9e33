-- Which types are added to a scope for a type and for a function, and in which order (component model, explainer: type
-- definitions; a definition names earlier ones alone).
use Rattle.std.specs.Prelude.{◌≡◌, ◌⊎◌, List, [], ◌∷◌, ◌++◌, map, option_to_list}
use Rattle.std.specs.List.{AllByRecursion}
use Rattle.comp_bytes.specs.declared.types.ComponentValType.{ComponentValType}
use Rattle.comp_trees.specs.Trees.{Tree, RecordOf, TupleOf, VariantOf, ListOf, OptionOf, ResultOf, OwnOf, BorrowOf, StreamOf, FutureOf, Trees, Nil, Cons, FunctionTree}
use Rattle.comp_trees.specs.DefinedTrees.{TypeTree, OfValues, OfFunctions}
use Rattle.wit_types.specs.Denoting.{AddsOne, ValueDenotes}

abbrev mutual
  -- the first tree is a component of the second, or inside of a component
  pub Inside : Tree → Tree → Type 0
  Inside p (RecordOf names ts) = InsideOne p ts
  Inside p (TupleOf ts) = InsideOne p ts
  Inside p (VariantOf names ts) = InsideOne p ts
  Inside p (ListOf t) = (p ≡ t) ⊎ Inside p t
  Inside p (OptionOf t) = (p ≡ t) ⊎ Inside p t
  Inside p (ResultOf ok err) = ((p ≡ ok) ⊎ Inside p ok) ⊎ ((p ≡ err) ⊎ Inside p err)
  Inside p (OwnOf t) = (p ≡ t) ⊎ Inside p t
  Inside p (BorrowOf t) = (p ≡ t) ⊎ Inside p t
  Inside p (StreamOf t) = (p ≡ t) ⊎ Inside p t
  Inside p (FutureOf t) = (p ≡ t) ⊎ Inside p t
  Inside p t = ⊥

  pub InsideOne : Tree → Trees → Type 0
  InsideOne p Nil = ⊥
  InsideOne p (Cons t ts) = ((p ≡ t) ⊎ Inside p t) ⊎ InsideOne p ts

-- the first tree is the second, or inside of it
abbrev pub PartOf : Tree → Tree → Type 0
PartOf p t = (p ≡ t) ⊎ Inside p t

-- a type of values that is a part of a tree
abbrev pub IsPart : Tree → TypeTree → Type 0
IsPart t (OfValues p) = PartOf p t
IsPart t type = ⊥

-- parts of a tree were added at the end, and nothing else
pub record AddsParts (old new : List TypeTree) (t : Tree) : Type 0 where
  pub more : List TypeTree
  pub longer : new ≡ old ++ more
  pub only : AllByRecursion (IsPart t) more

-- a type was encoded: parts of it were added, and nothing else, and it is there then
pub record IsEncoded (old new : List TypeTree) (t : Tree) : Type 0 where
  pub adds : AddsParts old new t
  pub value : ComponentValType
  pub denotes : ValueDenotes new value t

-- these types were encoded, one after the other
abbrev pub AreEncoded : List TypeTree → List Tree → List TypeTree → Type 0
AreEncoded old [] new = new ≡ old
AreEncoded old (t ∷ ts) new = (after : List TypeTree) × IsEncoded old after t × AreEncoded after ts new

-- the types that a function's type names: those of the parameters, in their order, and then that of
-- the result, if it has one
abbrev pub named_types : FunctionTree → List Tree
named_types f = map (λ p. p.tree) f.params ++ option_to_list f.result

-- a function's type was added, behind what was added for the types that it names
pub record AddsFunction (old new : List TypeTree) (f : FunctionTree) : Type 0 where
  pub before : List TypeTree
  pub encoded : AreEncoded old (named_types f) before
  pub last : AddsOne before new (OfFunctions f)

-- the same, or nothing was added, where the scope has the type already
abbrev pub MayAddFunction : List TypeTree → List TypeTree → FunctionTree → Type 0
MayAddFunction old new f = (new ≡ old) ⊎ AddsFunction old new f
