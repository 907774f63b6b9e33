-- The type of functions is that of a key, where its parameters and its result have the value types of the key's.
use Rattle.std.proofs.Common.{◌≡◌, ℕ, zero, suc, ◌+◌, ◌<◌, ◌≤◌, Bool, List, [], ◌∷◌, ◌++◌, length, get_or, take, drop, append_assoc, map, refl, subst, sym, ap, ◌∙◌, arith, Option, Some, None}
use Rattle.std.proofs.Math.Seq.{drop-cons}
use Rattle.std.proofs.Math.Numerals.{add-one}
use Rattle.std.specs.Prelude.{option_map}
use Rattle.std.specs.List.{AllByRecursion, AllZip}
use Rattle.std.proofs.lemmas.List.{take_more}
use Rattle.comp_lists.proofs.Lists.{AllZip-weaker, AllZip-end}
use Rattle.wit_data.specs.declared.types.Type.{«Type» as Ty}
use Rattle.wit_data.specs.declared.types.TypeDef.{TypeDef}
use Rattle.wit_data.specs.declared.functions.Param.{Param}
use Rattle.wit_data.specs.declared.types.Field.{Field as WitField}
use Rattle.wit_data.specs.declared.functions.Function.{Function}
use Rattle.comp_trees.specs.WitTrees.{is_async, wit_function_tree, wit_tree}
use Rattle.comp_bytes.specs.References.{value_references, where_some, fields_references, type_references}
use Rattle.comp_bytes.specs.declared.types.ComponentValType.{ComponentValType}
use Rattle.comp_bytes.specs.declared.types.Field.{Field}
use Rattle.comp_bytes.specs.declared.types.FuncTypeDef.{FuncTypeDef}
use Rattle.comp_bytes.specs.declared.types.TypeDef.TheVariants as definitions
use Rattle.comp_trees.specs.Trees.{Tree, ParamTree, FunctionTree}
use Rattle.comp_trees.specs.DefinedTrees.{TypeTree, value_tree, function_tree}
use Rattle.wit_types.specs.declared.maps.FuncTypeKey.{FuncTypeKey}
use Rattle.wit_types.specs.Settings.{Setting, tree_in}
use Rattle.wit_types.specs.Denoting.{Longer, AreTypes}
use Rattle.wit_types.specs.Definitions.{PartDenotes}
use Rattle.wit_types.specs.Functions.{FieldDenotes, FieldsDenote}
use Rattle.wit_types.specs.Maps.{key_params, key_of, key_tree}
use Rattle.wit_types.specs.Allowing.{MayEncode}
use Rattle.wit_types.proofs.Growing.{value_on}
use Rattle.wit_types.proofs.Parting.{take_whole}
use Rattle.wit_types.proofs.Defining.{value_is, value_stands, payload_stands, all_both}

-- those of the first so many parameters
pub record FieldsSoFar (s : Setting) (scope : List TypeTree) (fields : List Field) (params : List WitField) (n : ℕ) : Type 0 where
  pub each : AllZip (FieldDenotes s scope) fields (take n params)

field_on : (s : Setting) (old new : List TypeTree) (field : Field) (param : WitField) → Longer old new → FieldDenotes s old field param → FieldDenotes s new field param
field_on s old new field param g h = record { name = h.name; ty = value_on g h.ty }

pub fields_none : (s : Setting) (scope : List TypeTree) (params : List WitField) → FieldsSoFar s scope [] params 0
fields_none s scope params = record { each = tt }

pub fields_more : (s : Setting) (old new : List TypeTree) (fields now : List Field) (params : List WitField) (n : ℕ) (field : Field) (param : WitField) → Longer old new → n < length params → now ≡ fields ++ field ∷ [] → FieldsSoFar s old fields params n → param ≡ get_or params n param → FieldDenotes s new field param → FieldsSoFar s new now params (n + 1)
fields_more s old new fields now params n field param g l is h there p =
    record {
      each = subst (λ fs. AllZip (FieldDenotes s new) fs (take (n + 1) params)) (sym is)
          (subst (λ ps. AllZip (FieldDenotes s new) (fields ++ field ∷ []) ps) (sym (take_more params n param l))
          (AllZip-end (FieldDenotes s new) fields (take n params) field (get_or params n param)
          (AllZip-weaker {R = FieldDenotes s old} {S = FieldDenotes s new} (λ x y k. field_on s old new x y g k) fields (take n params) h.each)
          (subst (λ q. FieldDenotes s new field q) there p)));
    }

pub fields_whole : (s : Setting) (scope : List TypeTree) (fields : List Field) (params : List WitField) (n : ℕ) → length params ≤ n → FieldsSoFar s scope fields params n → FieldsDenote s scope fields params
fields_whole s scope fields params n l h = record { each = subst (λ ps. AllZip (FieldDenotes s scope) fields ps) (take_whole params n l) h.each }

each_on : (s : Setting) (old new : List TypeTree) (fields : List Field) (params : List WitField) → Longer old new → AllZip (FieldDenotes s old) fields params → AllZip (FieldDenotes s new) fields params
each_on s old new fields params g h = AllZip-weaker {R = FieldDenotes s old} {S = FieldDenotes s new} (λ x y k. field_on s old new x y g k) fields params h

pub fields_on : (s t : Setting) (old new : List TypeTree) (fields : List Field) (params now : List WitField) → Longer old new → t ≡ s → params ≡ now → FieldsDenote s old fields params → FieldsDenote t new fields now
fields_on s t old new fields params now g setting same h =
    subst (λ r. FieldsDenote r new fields now) (sym setting) (subst (λ ps. FieldsDenote s new fields ps) same (record { each = each_on s old new fields params g h.each }))

pub param_at : (s : Setting) (types : List TypeDef) (params : List WitField) (n : ℕ) (param : WitField) → AllByRecursion (λ p. MayEncode s types (Some p.ty)) params → n < length params → param ≡ get_or params n param → MayEncode s types (Some param.ty)
param_at s types params n param all l there = subst (λ (p : WitField). MayEncode s types (Some p.ty)) (sym there) (at params n all l)
  where
    at : (ps : List WitField) (k : ℕ) → AllByRecursion (λ p. MayEncode s types (Some p.ty)) ps → k < length ps → MayEncode s types (Some (get_or ps k param).ty)
    at [] k a l = absurd (omega (arith, l))
    at (p ∷ ps) zero a l = a.0
    at (p ∷ ps) (suc k) a l = at ps k a.1 (omega (arith, l))

abbrev with_name : List ℕ → Tree → ParamTree
with_name name tree = record { name = name; tree = tree }

fields_trees : (s : Setting) (scope : List TypeTree) (fields : List Field) (params : List WitField) → AllZip (FieldDenotes s scope) fields params → map (λ f. with_name f.name (value_tree scope f.ty)) fields ≡ map (λ p. with_name p.name (tree_in s (Some p.ty))) params
fields_trees s scope [] [] h = refl
fields_trees s scope (f ∷ fs) (p ∷ ps) h =
    ap (λ name. with_name name (value_tree scope f.ty) ∷ map (λ g. with_name g.name (value_tree scope g.ty)) fs) h.0.name
    ∙ (ap (λ tree. with_name p.name tree ∷ map (λ g. with_name g.name (value_tree scope g.ty)) fs) (value_is scope f.ty (tree_in s (Some p.ty)) h.0.ty)
    ∙ ap (λ ts. with_name p.name (tree_in s (Some p.ty)) ∷ ts) (fields_trees s scope fs ps h.1))
fields_trees s scope [] (p ∷ ps) h = absurd h
fields_trees s scope (f ∷ fs) [] h = absurd h

fields_stand : (s : Setting) (scope : List TypeTree) (fields : List Field) (params : List WitField) → AllZip (FieldDenotes s scope) fields params → AreTypes (length scope) (fields_references fields)
fields_stand s scope [] [] h = tt
fields_stand s scope (f ∷ fs) (p ∷ ps) h = all_both (length scope) (value_references f.ty) (fields_references fs) (value_stands scope f.ty (tree_in s (Some p.ty)) h.0.ty) (fields_stand s scope fs ps h.1)
fields_stand s scope [] (p ∷ ps) h = absurd h
fields_stand s scope (f ∷ fs) [] h = absurd h

returned_tree : (s : Setting) (scope : List TypeTree) (v : Option ComponentValType) (t : Option Ty) → PartDenotes s scope v t → option_map (λ w. value_tree scope w) v ≡ option_map (λ u. tree_in s (Some u)) t
returned_tree s scope None None h = refl
returned_tree s scope (Some v) (Some t) h = ap Some (value_is scope v (tree_in s (Some t)) h)
returned_tree s scope None (Some t) h = absurd h
returned_tree s scope (Some v) None h = absurd h

abbrev with_parts : Bool → List ParamTree → Option Tree → FunctionTree
with_parts is_async params result = record { is_async = is_async; params = params; result = result }

abbrev made : FuncTypeKey → List Field → Option ComponentValType → FuncTypeDef
made key params returned = record { async_ = key.is_async; params = params; result = returned }

pub function_stands : (s : Setting) (scope : List TypeTree) (key : FuncTypeKey) (params : List Field) (returned : Option ComponentValType) → FieldsDenote s scope params key.params → PartDenotes s scope returned key.result → AreTypes (length scope) (type_references (definitions.Func (made key params returned)))
function_stands s scope key params returned f r =
    all_both (length scope) (fields_references params) (where_some value_references returned) (fields_stand s scope params key.params f.each) (payload_stands s scope returned key.result r)

pub function_is : (s : Setting) (scope : List TypeTree) (key : FuncTypeKey) (params : List Field) (returned : Option ComponentValType) → FieldsDenote s scope params key.params → PartDenotes s scope returned key.result → function_tree scope (made key params returned) ≡ key_tree s key
function_is s scope key params returned f r =
    ap (λ ps. with_parts key.is_async ps (option_map (λ w. value_tree scope w) returned)) (fields_trees s scope params key.params f.each)
    ∙ ap (λ t. with_parts key.is_async (map (λ p. with_name p.name (tree_in s (Some p.ty))) key.params) t) (returned_tree s scope returned key.result r)

-- one more parameter
pub key_params_more : (params : List Param) (i : ℕ) (p : Param) (fields now : List WitField) (name : List ℕ) → i < length params → p ≡ get_or params i p → name ≡ p.name →
    now ≡ fields ++ record { name = name; ty = p.ty } ∷ [] → fields ++ key_params (drop i params) ≡ key_params params → now ++ key_params (drop (i + 1) params) ≡ key_params params
key_params_more params i p fields now name l is named pushed h =
    let here : drop i params ≡ p ∷ drop (i + 1) params = rw (drop-cons params i p l, ← is, add-one) refl in
    ap (λ fs. fs ++ key_params (drop (i + 1) params)) pushed
    ∙ (append_assoc fields (record { name = name; ty = p.ty } ∷ []) (key_params (drop (i + 1) params))
    ∙ (ap (λ n. fields ++ record { name = n; ty = p.ty } ∷ key_params (drop (i + 1) params)) named ∙ (sym (ap (λ ps. fields ++ key_params ps) here) ∙ h)))

params_trees : (s : Setting) (params : List Param) → map (λ p. with_name p.name (tree_in s (Some p.ty))) (key_params params) ≡ map (λ p. with_name p.name (wit_tree s.origin s.types (Some p.ty))) params
unfolding tree_in
params_trees s [] = refl
params_trees s (p ∷ ps) = ap (λ ts. with_name p.name (wit_tree s.origin s.types (Some p.ty)) ∷ ts) (params_trees s ps)

pub key_is : (s : Setting) (types : List TypeDef) (f : Function) → s.types ≡ types → key_tree s (key_of f) ≡ wit_function_tree s.origin types f
unfolding tree_in
key_is s types f same =
    ap (λ ps. with_parts (is_async f.kind) ps (option_map (λ t. wit_tree s.origin s.types (Some t)) f.result)) (params_trees s f.params)
    ∙ ap (λ ts. wit_function_tree s.origin ts f) same
