-- What the types of a list that stands alone denote (component model, explainer: type definitions).
use Rattle.std.specs.Prelude.{ℕ, suc, ◌≡◌, ◌≤◌, ◌^◌, length, true, false, List, [], ◌∷◌, ◌++◌, get_or, Option, Some, None, is_some, if◌then◌else◌}
use Rattle.std.specs.Str.{bytes_eq}
use Rattle.std.specs.Option.{option_eq}
use Rattle.wit_data.specs.declared.types.Type.TheVariants.{Id}
use Rattle.comp_trees.specs.Trees.{Resource, DefinedAt, ResourceAt}
use Rattle.std.proofs.Common.{sym, ap, ◌∙◌, append_assoc, append-nil}
use Rattle.std.specs.List.{slice_get}
use Rattle.comp_lists.proofs.Lists.{slice_get-append}
use Rattle.wit_data.specs.declared.types.TypeDef.{TypeDef}
use Rattle.comp_trees.specs.DefinedTrees.{TypeTree, OfValues, OfFunctions, OfOthers, defined_tree, function_tree}
use Rattle.wit_types.specs.declared.type_list.ListedType.{ListedType}
use Rattle.wit_types.specs.declared.type_list.ListedType.TheVariants as listed
use Rattle.wit_types.specs.Settings.{Setting, tree_in}

-- the number of the first type of a name, where the first type has the given number
abbrev pub number_from : ℕ → List ℕ → List TypeDef → Option ℕ
number_from n name [] = None
number_from n name (t ∷ ts) = if option_eq bytes_eq t.name (Some name) then Some n else number_from (suc n) name ts

-- a resource is known by its name: it is the one with the number of the first type of that name
abbrev pub number_or : ℕ → Option ℕ → ℕ
number_or other None = other
number_or other (Some n) = n

abbrev pub resource_named : List TypeDef → List ℕ → Resource
resource_named types name = DefinedAt (number_or 0 (number_from 0 name types))

-- what the list takes as given: a type of an interface is imported, and a resource exported under the name of a type
abbrev pub standing_alone : List TypeDef → Setting
standing_alone types =
    record {
      types = types;
      interface = None;
      origin = λ id. DefinedAt id.index;
      may_import = λ other id. true;
      may_own = λ n. true;
      may_export = λ name. is_some (number_from 0 name types);
      resource = resource_named types;
      met = λ id. false;
    }

abbrev pub listed_tree : List TypeDef → List TypeTree → ListedType → TypeTree
listed_tree types scope (listed.Defined d) = OfValues (defined_tree scope d)
listed_tree types scope (listed.Func f) = OfFunctions (function_tree scope f)
listed_tree types scope (listed.Export name index) = get_or scope index OfOthers
listed_tree types scope (listed.Resource name) = OfValues (ResourceAt (resource_named types name.name))
listed_tree types scope (listed.Import interface id) = OfValues (tree_in (standing_alone types) (Some (Id id)))

-- what they denote, behind those of a scope
abbrev pub listed_trees : List TypeDef → List TypeTree → List ListedType → List TypeTree
listed_trees types scope [] = scope
listed_trees types scope (t ∷ ts) = listed_trees types (scope ++ listed_tree types scope t ∷ []) ts

-- the count of a list that has more types than an index can name
abbrev pub is_full : List ListedType → ℕ → Type 0
is_full listed count = (2 ^ 32 ≤ count) × (count ≡ length listed)

-- a list that has grown at its end
pub record ListGrows (old new : List ListedType) : Type 0 where
  pub more : List ListedType
  pub grown : new ≡ old ++ more

abbrev pub title_of : ListedType → Option (List ℕ)
title_of (listed.Export name index) = Some name.name
title_of (listed.Resource name) = Some name.name
title_of ty = None

-- the list has an export of this name at the index
pub record IsExported (types : List ListedType) (name : List ℕ) (index : ℕ) : Type 0 where
  pub ty : ListedType
  pub titled : title_of ty ≡ Some name
  pub there : slice_get types index ≡ Some ty

pub exported_on : (a b : List ListedType) → ListGrows a b → (name : List ℕ) (index : ℕ) → IsExported a name index → IsExported b name index
exported_on a b g name index h =
    record {
      ty = h.ty;
      titled = h.titled;
      there = ap (λ ts. slice_get ts index) g.grown ∙ slice_get-append a g.more index h.ty h.there;
    }

pub list_same : (listed : List ListedType) → ListGrows listed listed
list_same listed = record { more = []; grown = sym (append-nil listed) }

pub list_on : (a b c : List ListedType) → ListGrows a b → ListGrows b c → ListGrows a c
list_on a b c g h = record { more = g.more ++ h.more; grown = h.grown ∙ (ap (λ m. m ++ h.more) g.grown ∙ append_assoc a g.more h.more) }
