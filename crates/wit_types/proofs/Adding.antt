-- What is added for the parts of a type is added for the type, and what is added step by step is added in order.
use Rattle.std.proofs.Common.{◌≡◌, inl, inr, ℕ, zero, suc, ◌<◌, length, List, [], ◌∷◌, ◌++◌, get_or, map, refl, ap, subst, ◌∙◌, sym, append_assoc, append-nil, Option, Some, None}
use Rattle.std.specs.Prelude.{IfOk, Result, Ok, Err}
use Rattle.std.specs.List.{AllByRecursion}
use Rattle.byte_encoding.specs.declared.fault.BuildFault.{BuildFault}
use Rattle.comp_bytes.specs.declared.types.ComponentValType.{ComponentValType}
use Rattle.comp_bytes.specs.declared.types.ComponentValType.TheVariants as values
use Rattle.standard_kinds.specs.declared.kinds.Primitive.{Primitive}
use Rattle.comp_lists.proofs.Lists.{AllByRecursion-weaker}
use Rattle.comp_trees.specs.Trees.{Tree, PrimitiveOf, RecordOf, TupleOf, VariantOf, ListOf, OptionOf, ResultOf, OwnOf, BorrowOf, StreamOf, FutureOf, Trees, Nil, Cons, trees_of}
use Rattle.comp_trees.specs.WitTrees.{kind_tree}
use Rattle.comp_trees.specs.DefinedTrees.{TypeTree, OfValues}
use Rattle.wit_data.specs.declared.types.Type.{«Type» as Ty}
use Rattle.wit_data.specs.declared.types.TypeDefKind.{TypeDefKind}
use Rattle.wit_data.specs.declared.types.TypeDefKind.TheVariants as kinds
use Rattle.wit_data.specs.declared.ids.TypeId.{TypeId}
use Rattle.wit_data.specs.declared.types.Type.TheVariants.{Id}
use Rattle.wit_data.specs.declared.types.TypeDef.{TypeDef}
use Rattle.wit_data.specs.Parts.{parts, RefersBack}
use Rattle.wit_data.specs.Values.{kind_at}
use Rattle.wit_types.proofs.Permitting.{tree_of_id}
use Rattle.wit_types.specs.Settings.{Setting, tree_in}
use Rattle.wit_types.specs.Denoting.{AddsOne, Makes, MayMake, ValueDenotes}
use Rattle.wit_types.specs.Order.{PartOf, Inside, InsideOne, IsPart, AddsParts, IsEncoded, AreEncoded}

-- ---- parts of trees

or_on : (p u t : Tree) → PartOf p u → (Inside u t → Inside p t) → PartOf u t → PartOf p t
or_on p u t h inside (inl e) = subst (λ x. PartOf p x) e h
or_on p u t h inside (inr i) = inr (inside i)

mutual
  inside_on : (p u t : Tree) → PartOf p u → Inside u t → Inside p t
  inside_on p u (RecordOf names ts) h i = one_on p u ts h i
  inside_on p u (TupleOf ts) h i = one_on p u ts h i
  inside_on p u (VariantOf names ts) h i = one_on p u ts h i
  inside_on p u (ListOf t) h i = or_on p u t h (inside_on p u t h) i
  inside_on p u (OptionOf t) h i = or_on p u t h (inside_on p u t h) i
  inside_on p u (ResultOf ok err) h (inl i) = inl (or_on p u ok h (inside_on p u ok h) i)
  inside_on p u (ResultOf ok err) h (inr i) = inr (or_on p u err h (inside_on p u err h) i)
  inside_on p u (OwnOf t) h i = or_on p u t h (inside_on p u t h) i
  inside_on p u (BorrowOf t) h i = or_on p u t h (inside_on p u t h) i
  inside_on p u (StreamOf t) h i = or_on p u t h (inside_on p u t h) i
  inside_on p u (FutureOf t) h i = or_on p u t h (inside_on p u t h) i
  inside_on p u t h i = absurd i

  one_on : (p u : Tree) (ts : Trees) → PartOf p u → InsideOne u ts → InsideOne p ts
  one_on p u Nil h i = absurd i
  one_on p u (Cons t ts) h (inl i) = inl (or_on p u t h (inside_on p u t h) i)
  one_on p u (Cons t ts) h (inr i) = inr (one_on p u ts h i)

-- a part of a part is a part of the whole
pub part_on : (p u t : Tree) → PartOf p u → PartOf u t → PartOf p t
part_on p u t h i = or_on p u t h (inside_on p u t h) i

pub part_itself : (t : Tree) → PartOf t t
part_itself t = inl refl

-- one of these types is a part of one of their trees
one_of : (s : Setting) (ps : List (Option Ty)) (k : ℕ) (ty : Ty) → Some ty ≡ get_or ps k None → InsideOne (tree_in s (Some ty)) (trees_of (map (tree_in s) ps))
one_of s [] k ty e = cc
one_of s (p ∷ ps) zero ty e = inl (inl (ap (tree_in s) e))
one_of s (p ∷ ps) (suc k) ty e = inr (one_of s ps k ty e)

-- the type that a kind names is a part of the tree of a type of the kind
pub part_of_kind : (s : Setting) (n : ℕ) (kind : TypeDefKind) (k : ℕ) (ty : Ty) → Some ty ≡ get_or (parts kind) k None → PartOf (tree_in s (Some ty)) (kind_tree s.origin n kind (map (tree_in s) (parts kind)))
part_of_kind s n (kinds.Record fields) k ty e = inr (one_of s (parts (kinds.Record fields)) k ty e)
part_of_kind s n (kinds.Variant cases) k ty e = inr (one_of s (parts (kinds.Variant cases)) k ty e)
part_of_kind s n (kinds.Tuple types) k ty e = inr (one_of s (parts (kinds.Tuple types)) k ty e)
part_of_kind s n (kinds.Enum names) k ty e = cc
part_of_kind s n (kinds.Flags names) k ty e = cc
part_of_kind s n kinds.Resource k ty e = cc
part_of_kind s n (kinds.«Option» t) zero ty e = cc
part_of_kind s n (kinds.«Option» t) (suc zero) ty e = inr (inl (ap (tree_in s) e))
part_of_kind s n (kinds.«Option» t) (suc (suc k)) ty e = cc
part_of_kind s n (kinds.«Result» r) zero ty e = inr (inl (inl (ap (tree_in s) e)))
part_of_kind s n (kinds.«Result» r) (suc zero) ty e = inr (inr (inl (ap (tree_in s) e)))
part_of_kind s n (kinds.«Result» r) (suc (suc k)) ty e = cc
part_of_kind s n (kinds.«List» t) zero ty e = inr (inl (ap (tree_in s) e))
part_of_kind s n (kinds.«List» t) (suc k) ty e = cc
part_of_kind s n (kinds.Own id) zero ty e = inr (inl (ap (tree_in s) e))
part_of_kind s n (kinds.Own id) (suc k) ty e = cc
part_of_kind s n (kinds.Borrow id) zero ty e = inr (inl (ap (tree_in s) e))
part_of_kind s n (kinds.Borrow id) (suc k) ty e = cc
part_of_kind s n (kinds.Stream t) zero ty e = inr (inl (ap (tree_in s) e))
part_of_kind s n (kinds.Stream t) (suc k) ty e = cc
part_of_kind s n (kinds.Future t) zero ty e = inr (inl (ap (tree_in s) e))
part_of_kind s n (kinds.Future t) (suc k) ty e = cc
part_of_kind s n (kinds.Alias t) zero ty e = inl (ap (tree_in s) e)
part_of_kind s n (kinds.Alias t) (suc k) ty e = cc

pub part_of_id : (s : Setting) (types : List TypeDef) (id : TypeId) (k : ℕ) (ty : Ty) → s.types ≡ types → RefersBack types → id.index < length types → Some ty ≡ get_or (parts (kind_at types id.index)) k None → PartOf (tree_in s (Some ty)) (tree_in s (Some (Id id)))
part_of_id s types id k ty same back within e =
    subst (λ t. PartOf (tree_in s (Some ty)) t) (sym (tree_of_id s types id same back within)) (part_of_kind s id.index (kind_at types id.index) k ty e)

-- ---- what is added

pub nothing_added : (old new : List TypeTree) (t : Tree) → new ≡ old → AddsParts old new t
nothing_added old new t same = record { more = []; longer = same ∙ sym (append-nil old); only = tt }

pub part_added : (old new : List TypeTree) (u t : Tree) → PartOf u t → AddsOne old new (OfValues u) → AddsParts old new t
part_added old new u t p h = record { more = OfValues u ∷ []; longer = h.added; only = (p, tt) }

-- the type itself
pub type_added : (old new : List TypeTree) (u t : Tree) → u ≡ t → AddsOne old new (OfValues u) → AddsParts old new t
type_added old new u t e h = part_added old new u t (inl e) h

all_parts : (t : Tree) (xs ys : List TypeTree) → AllByRecursion (IsPart t) xs → AllByRecursion (IsPart t) ys → AllByRecursion (IsPart t) (xs ++ ys)
all_parts t [] ys h k = k
all_parts t (x ∷ xs) ys h k = (h.0, all_parts t xs ys h.1 k)

pub added_then : {a b c : List TypeTree} {t : Tree} → AddsParts a b t → AddsParts b c t → AddsParts a c t
added_then {a = a} {t = t} g h =
    record {
      more = g.more ++ h.more;
      longer = h.longer ∙ (ap (λ m. m ++ h.more) g.longer ∙ append_assoc a g.more h.more);
      only = all_parts t g.more h.more g.only h.only;
    }

is_part_on : (u t : Tree) → PartOf u t → (x : TypeTree) → IsPart u x → IsPart t x
is_part_on u t p (OfValues q) h = part_on q u t h p
is_part_on u t p x h = absurd h

-- what is added for a part is added for the whole
pub added_within : (old new : List TypeTree) (u t : Tree) → PartOf u t → AddsParts old new u → AddsParts old new t
added_within old new u t p h =
    record { more = h.more; longer = h.longer; only = AllByRecursion-weaker (is_part_on u t p) h.more h.only }

pub added_as : {old new : List TypeTree} {t u : Tree} → AddsParts old new t → t ≡ u → AddsParts old new u
added_as {old = old} {new = new} h e = subst (λ x. AddsParts old new x) e h

pub result_adds : {X : Type 0} (old new : List TypeTree) (r : Result X BuildFault) (t u : Tree) → IfOk r (λ x. AddsParts old new t) → t ≡ u → IfOk r (λ x. AddsParts old new u)
result_adds old new r t u h e = subst (λ y. IfOk r (λ x. AddsParts old new y)) e h

pub one_as : {a b c : List TypeTree} {t : TypeTree} → AddsOne a b t → c ≡ b → AddsOne a c t
one_as h same = record { added = same ∙ h.added }

pub added_to : {a b c : List TypeTree} {t : Tree} → AddsParts a b t → c ≡ b → AddsParts a c t
added_to h same = record { more = h.more; longer = same ∙ h.longer; only = h.only }

pub result_then : {X : Type 0} (a b c : List TypeTree) (r : Result X BuildFault) (t u : Tree) → AddsParts a b t → u ≡ t → IfOk r (λ x. AddsParts b c u) → IfOk r (λ x. AddsParts a c t)
result_then a b c (Ok x) t u g e h = added_then g (added_as h e)
result_then a b c (Err x) t u g e h = tt

-- of a call that defines a type
pub made_as_one : (old new : List TypeTree) (r : Result ℕ BuildFault) (t u : TypeTree) → Makes old new r t → t ≡ u → IfOk r (λ i. AddsOne old new u)
made_as_one old new (Ok i) t u m e = subst (λ x. AddsOne old new x) e m.0
made_as_one old new (Err x) t u m e = tt

-- of one that may define none
pub maybe_adds : (old new : List TypeTree) (o : Option ℕ) (u : TypeTree) (t : Tree) → MayMake old new (Ok o) u → u ≡ OfValues t → AddsParts old new t
maybe_adds old new (Some i) u t m e = type_added old new t t refl (subst (λ x. AddsOne old new x) e m.0)
maybe_adds old new None u t m e = nothing_added old new t m

pub made_adds : (old new : List TypeTree) (r : Result ℕ BuildFault) (t : TypeTree) → Makes old new r t → IfOk r (λ i. AddsOne old new t)
made_adds old new (Ok i) t m = m.0
made_adds old new (Err e) t m = tt

-- a primitive type that is defined
pub primitive_adds : (old new : List TypeTree) (v : ComponentValType) (p : Primitive) (r : Result ℕ BuildFault) (t : Tree) → v ≡ values.Primitive p → IfOk r (λ i. AddsOne old new (OfValues (PrimitiveOf p))) → ValueDenotes old v t → IfOk r (λ i. AddsParts old new t)
primitive_adds old new v p (Ok i) t is h d = type_added old new (PrimitiveOf p) t (subst (λ w. ValueDenotes old w t) is d).is h
primitive_adds old new v p (Err e) t is h d = tt

-- ---- one after the other

pub encoded_then : (a b c : List TypeTree) (ts us : List Tree) → AreEncoded a ts b → AreEncoded b us c → AreEncoded a (ts ++ us) c
encoded_then a b c [] us g h = subst (λ x. AreEncoded x us c) g h
encoded_then a b c (t ∷ ts) us g h = (g.0, g.1, encoded_then g.0 b c ts us g.2 h)

pub encoded_one : (a b : List TypeTree) (t : Tree) → IsEncoded a b t → AreEncoded a (t ∷ []) b
encoded_one a b t h = (b, h, refl)
