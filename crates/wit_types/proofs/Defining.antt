-- The definition of a kind is the tree of the kind, where the value types of its parts are their trees.
use Rattle.std.proofs.Common.{◌≡◌, ℕ, List, [], ◌∷◌, ◌++◌, length, map, refl, ap, subst, ◌∙◌, sym, Option, Some, None}
use Rattle.std.specs.List.{AllZip, flat_map}
use Rattle.comp_bytes.specs.References.{Reference, value_references, where_some, defined_references}
use Rattle.comp_bytes.specs.declared.types.ComponentValType.{ComponentValType}
use Rattle.comp_bytes.specs.declared.types.ComponentValType.TheVariants as values
use Rattle.comp_bytes.specs.declared.types.DefinedType.{DefinedType}
use Rattle.comp_trees.specs.Trees.{Tree, Absent, RecordOf, TupleOf, VariantOf, ListOf, OptionOf, ResultOf, StreamOf, FutureOf, trees_of}
use Rattle.comp_trees.specs.WitTrees.{kind_tree}
use Rattle.comp_trees.specs.DefinedTrees.{TypeTree, values_of, value_tree, payload_tree, defined_tree}
use Rattle.wit_data.specs.declared.types.Type.{«Type» as Ty}
use Rattle.wit_data.specs.declared.types.Field.{Field as WitField}
use Rattle.wit_data.specs.declared.types.Case.{Case as WitCase}
use Rattle.wit_data.specs.declared.types.TypeDefKind.{TypeDefKind}
use Rattle.wit_data.specs.declared.types.TypeDefKind.TheVariants as kinds
use Rattle.wit_data.specs.Parts.{parts}
use Rattle.wit_types.specs.Settings.{Setting, tree_in}
use Rattle.wit_types.specs.Denoting.{AreTypes, ValueDenotes}
use Rattle.wit_types.specs.Definitions.{PartDenotes, PartsDenote, IsDefined, fields_of, cases_of, members_of, definition}

pub value_is : (scope : List TypeTree) (v : ComponentValType) (t : Tree) → ValueDenotes scope v t → value_tree scope v ≡ t
value_is scope (values.Primitive p) t d = d.is
value_is scope (values.Defined i) t d = ap values_of d.is.tree

pub value_stands : (scope : List TypeTree) (v : ComponentValType) (t : Tree) → ValueDenotes scope v t → AreTypes (length scope) (value_references v)
value_stands scope (values.Primitive p) t d = tt
value_stands scope (values.Defined i) t d = ((refl, d.is.within), tt)

pub all_both : (count : ℕ) (xs ys : List Reference) → AreTypes count xs → AreTypes count ys → AreTypes count (xs ++ ys)
all_both count [] ys a b = b
all_both count (x ∷ xs) ys a b = (a.0, all_both count xs ys a.1 b)

module _ (s : Setting) (scope : List TypeTree) where
  abbrev Value : Option Ty → Tree
  Value = tree_in s

  payload_is : (absent : tree_in s None ≡ Absent) (v : Option ComponentValType) (t : Option Ty) → PartDenotes s scope v t → payload_tree scope v ≡ tree_in s t
  payload_is absent None None h = sym absent
  payload_is absent (Some v) (Some t) h = value_is scope v (tree_in s (Some t)) h
  payload_is absent None (Some t) h = absurd h
  payload_is absent (Some v) None h = absurd h

  pub payload_stands : (v : Option ComponentValType) (t : Option Ty) → PartDenotes s scope v t → AreTypes (length scope) (where_some value_references v)
  payload_stands None None h = tt
  payload_stands (Some v) (Some t) h = value_stands scope v (tree_in s (Some t)) h
  payload_stands None (Some t) h = absurd h
  payload_stands (Some v) None h = absurd h

  fields_names : (fs : List WitField) (vs : List (Option ComponentValType)) → AllZip (PartDenotes s scope) vs (map (λ f. Some f.ty) fs) → map (λ f. f.name) (fields_of fs vs) ≡ map (λ f. f.name) fs
  fields_names [] [] h = refl
  fields_names [] (v ∷ vs) h = refl
  fields_names (f ∷ fs) [] h = absurd h
  fields_names (f ∷ fs) (None ∷ vs) h = absurd h.0
  fields_names (f ∷ fs) (Some v ∷ vs) h = ap (λ ns. f.name ∷ ns) (fields_names fs vs h.1)

  fields_trees : (fs : List WitField) (vs : List (Option ComponentValType)) → AllZip (PartDenotes s scope) vs (map (λ f. Some f.ty) fs) → map (λ f. value_tree scope f.ty) (fields_of fs vs) ≡ map (tree_in s) (map (λ f. Some f.ty) fs)
  fields_trees [] [] h = refl
  fields_trees [] (v ∷ vs) h = refl
  fields_trees (f ∷ fs) [] h = absurd h
  fields_trees (f ∷ fs) (None ∷ vs) h = absurd h.0
  fields_trees (f ∷ fs) (Some v ∷ vs) h =
      ap (λ t. t ∷ map (λ g. value_tree scope g.ty) (fields_of fs vs)) (value_is scope v (tree_in s (Some f.ty)) h.0)
      ∙ ap (λ ts. tree_in s (Some f.ty) ∷ ts) (fields_trees fs vs h.1)

  fields_stand : (fs : List WitField) (vs : List (Option ComponentValType)) → AllZip (PartDenotes s scope) vs (map (λ f. Some f.ty) fs) → AreTypes (length scope) (flat_map (λ f. value_references f.ty) (fields_of fs vs))
  fields_stand [] [] h = tt
  fields_stand [] (v ∷ vs) h = tt
  fields_stand (f ∷ fs) [] h = absurd h
  fields_stand (f ∷ fs) (None ∷ vs) h = absurd h.0
  fields_stand (f ∷ fs) (Some v ∷ vs) h = all_both (length scope) (value_references v) (flat_map (λ g. value_references g.ty) (fields_of fs vs)) (value_stands scope v (tree_in s (Some f.ty)) h.0) (fields_stand fs vs h.1)

  cases_names : (cs : List WitCase) (vs : List (Option ComponentValType)) → AllZip (PartDenotes s scope) vs (map (λ c. c.ty) cs) → map (λ c. c.name) (cases_of cs vs) ≡ map (λ c. c.name) cs
  cases_names [] [] h = refl
  cases_names [] (v ∷ vs) h = refl
  cases_names (c ∷ cs) [] h = absurd h
  cases_names (c ∷ cs) (v ∷ vs) h = ap (λ ns. c.name ∷ ns) (cases_names cs vs h.1)

  cases_trees : (absent : tree_in s None ≡ Absent) (cs : List WitCase) (vs : List (Option ComponentValType)) → AllZip (PartDenotes s scope) vs (map (λ c. c.ty) cs) → map (λ c. payload_tree scope c.ty) (cases_of cs vs) ≡ map (tree_in s) (map (λ c. c.ty) cs)
  cases_trees absent [] [] h = refl
  cases_trees absent [] (v ∷ vs) h = refl
  cases_trees absent (c ∷ cs) [] h = absurd h
  cases_trees absent (c ∷ cs) (v ∷ vs) h =
      ap (λ t. t ∷ map (λ d. payload_tree scope d.ty) (cases_of cs vs)) (payload_is absent v c.ty h.0)
      ∙ ap (λ ts. tree_in s c.ty ∷ ts) (cases_trees absent cs vs h.1)

  cases_stand : (cs : List WitCase) (vs : List (Option ComponentValType)) → AllZip (PartDenotes s scope) vs (map (λ c. c.ty) cs) → AreTypes (length scope) (flat_map (λ c. where_some value_references c.ty) (cases_of cs vs))
  cases_stand [] [] h = tt
  cases_stand [] (v ∷ vs) h = tt
  cases_stand (c ∷ cs) [] h = absurd h
  cases_stand (c ∷ cs) (v ∷ vs) h = all_both (length scope) (where_some value_references v) (flat_map (λ d. where_some value_references d.ty) (cases_of cs vs)) (payload_stands v c.ty h.0) (cases_stand cs vs h.1)

  members_trees : (ts : List Ty) (vs : List (Option ComponentValType)) → AllZip (PartDenotes s scope) vs (map (λ t. Some t) ts) → map (λ t. value_tree scope t) (members_of vs) ≡ map (tree_in s) (map (λ t. Some t) ts)
  members_trees [] [] h = refl
  members_trees [] (v ∷ vs) h = absurd h
  members_trees (t ∷ ts) [] h = absurd h
  members_trees (t ∷ ts) (None ∷ vs) h = absurd h.0
  members_trees (t ∷ ts) (Some v ∷ vs) h =
      ap (λ u. u ∷ map (λ w. value_tree scope w) (members_of vs)) (value_is scope v (tree_in s (Some t)) h.0)
      ∙ ap (λ us. tree_in s (Some t) ∷ us) (members_trees ts vs h.1)

  members_stand : (ts : List Ty) (vs : List (Option ComponentValType)) → AllZip (PartDenotes s scope) vs (map (λ t. Some t) ts) → AreTypes (length scope) (flat_map value_references (members_of vs))
  members_stand [] [] h = tt
  members_stand [] (v ∷ vs) h = absurd h
  members_stand (t ∷ ts) [] h = absurd h
  members_stand (t ∷ ts) (None ∷ vs) h = absurd h.0
  members_stand (t ∷ ts) (Some v ∷ vs) h = all_both (length scope) (value_references v) (flat_map value_references (members_of vs)) (value_stands scope v (tree_in s (Some t)) h.0) (members_stand ts vs h.1)

absent_is : (s : Setting) → tree_in s None ≡ Absent
unfolding tree_in
absent_is s = refl

-- A definition of a kind names types of the scope, and is the kind's tree.
pub record IsOfKind (s : Setting) (scope : List TypeTree) (kind : TypeDefKind) (d : DefinedType) : Type 0 where
  pub stands : AreTypes (length scope) (defined_references d)
  pub tree : (n : ℕ) → defined_tree scope d ≡ kind_tree s.origin n kind (map (tree_in s) (parts kind))

abbrev IfDefined : Setting → List TypeTree → TypeDefKind → Option DefinedType → Type 0
IfDefined s scope kind None = ⊥
IfDefined s scope kind (Some d) = IsOfKind s scope kind d

of_kind : (s : Setting) (scope : List TypeTree) (given : List (Option ComponentValType)) (kind : TypeDefKind) → IsDefined kind → AllZip (PartDenotes s scope) given (parts kind) → IfDefined s scope kind (definition kind given)
of_kind s scope vs (kinds.Record fields) i h =
    record {
      stands = fields_stand s scope fields vs h;
      tree = λ n. ap (λ ns. RecordOf ns (trees_of (map (λ f. value_tree scope f.ty) (fields_of fields vs)))) (fields_names s scope fields vs h)
          ∙ ap (λ ts. RecordOf (map (λ f. f.name) fields) (trees_of ts)) (fields_trees s scope fields vs h);
    }
of_kind s scope vs (kinds.Variant cases) i h =
    record {
      stands = cases_stand s scope cases vs h;
      tree = λ n. ap (λ ns. VariantOf ns (trees_of (map (λ c. payload_tree scope c.ty) (cases_of cases vs)))) (cases_names s scope cases vs h)
          ∙ ap (λ ts. VariantOf (map (λ c. c.name) cases) (trees_of ts)) (cases_trees s scope (absent_is s) cases vs h);
    }
of_kind s scope vs (kinds.Enum names) i h = record { stands = tt; tree = λ n. refl }
of_kind s scope vs (kinds.Flags names) i h = record { stands = tt; tree = λ n. refl }
of_kind s scope vs (kinds.Tuple types) i h =
    record { stands = members_stand s scope types vs h; tree = λ n. ap (λ ts. TupleOf (trees_of ts)) (members_trees s scope types vs h) }
of_kind s scope (None ∷ Some v ∷ []) (kinds.«Option» t) i h =
    record { stands = value_stands scope v (tree_in s (Some t)) h.1.0; tree = λ n. ap OptionOf (value_is scope v (tree_in s (Some t)) h.1.0) }
of_kind s scope (v ∷ w ∷ []) (kinds.«Result» r) i h =
    record {
      stands = all_both (length scope) (where_some value_references v) (where_some value_references w) (payload_stands s scope v r.ok h.0) (payload_stands s scope w r.err h.1.0);
      tree = λ n. ap (λ t. ResultOf t (payload_tree scope w)) (payload_is s scope (absent_is s) v r.ok h.0) ∙ ap (λ t. ResultOf (tree_in s r.ok) t) (payload_is s scope (absent_is s) w r.err h.1.0);
    }
of_kind s scope (Some v ∷ []) (kinds.«List» t) i h =
    record { stands = value_stands scope v (tree_in s (Some t)) h.0; tree = λ n. ap ListOf (value_is scope v (tree_in s (Some t)) h.0) }
of_kind s scope (v ∷ []) (kinds.Stream t) i h =
    record { stands = payload_stands s scope v t h.0; tree = λ n. ap StreamOf (payload_is s scope (absent_is s) v t h.0) }
of_kind s scope (v ∷ []) (kinds.Future t) i h =
    record { stands = payload_stands s scope v t h.0; tree = λ n. ap FutureOf (payload_is s scope (absent_is s) v t h.0) }
of_kind s scope [] (kinds.«Option» t) i h = absurd h
of_kind s scope (v ∷ []) (kinds.«Option» t) i h = absurd h.1
of_kind s scope (None ∷ None ∷ []) (kinds.«Option» t) i h = absurd h.1.0
of_kind s scope (Some u ∷ v ∷ []) (kinds.«Option» t) i h = absurd h.0
of_kind s scope (u ∷ v ∷ w ∷ vs) (kinds.«Option» t) i h = absurd h.1.1
of_kind s scope [] (kinds.«Result» r) i h = absurd h
of_kind s scope (v ∷ []) (kinds.«Result» r) i h = absurd h.1
of_kind s scope (u ∷ v ∷ w ∷ vs) (kinds.«Result» r) i h = absurd h.1.1
of_kind s scope [] (kinds.«List» t) i h = absurd h
of_kind s scope (None ∷ []) (kinds.«List» t) i h = absurd h.0
of_kind s scope (v ∷ w ∷ vs) (kinds.«List» t) i h = absurd h.1
of_kind s scope [] (kinds.Stream t) i h = absurd h
of_kind s scope (v ∷ w ∷ vs) (kinds.Stream t) i h = absurd h.1
of_kind s scope [] (kinds.Future t) i h = absurd h
of_kind s scope (v ∷ w ∷ vs) (kinds.Future t) i h = absurd h.1
of_kind s scope vs (kinds.Own id) i h = absurd i
of_kind s scope vs (kinds.Borrow id) i h = absurd i
of_kind s scope vs kinds.Resource i h = absurd i
of_kind s scope vs (kinds.Alias t) i h = absurd i

pub defined_as : (s : Setting) (scope : List TypeTree) (given : List (Option ComponentValType)) (kind : TypeDefKind) (d : DefinedType) → IsDefined kind → PartsDenote s scope given kind → Some d ≡ definition kind given → IsOfKind s scope kind d
defined_as s scope given kind d i h e = subst (λ o. IfDefined s scope kind o) (sym e) (of_kind s scope given kind i h.each)
