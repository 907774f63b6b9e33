-- The type of a function is added behind what its parameters need, parameter by parameter, and what its result needs.
use Rattle.std.proofs.Common.{◌≡◌, inr, ℕ, ◌+◌, ◌<◌, ◌≤◌, List, [], ◌∷◌, ◌++◌, length, get_or, take, map, refl, ap, subst, ◌∙◌, sym, Option, Some}
use Rattle.std.specs.Prelude.{IfOk, Result, Ok, Err, option_map, option_to_list}
use Rattle.std.proofs.lemmas.List.{take_more, map-append}
use Rattle.byte_encoding.specs.declared.fault.BuildFault.{BuildFault}
use Rattle.comp_trees.specs.Trees.{Tree, ParamTree, FunctionTree}
use Rattle.comp_trees.specs.DefinedTrees.{TypeTree, OfFunctions}
use Rattle.wit_data.specs.declared.types.Type.{«Type» as Ty}
use Rattle.wit_data.specs.declared.types.Field.{Field as WitField}
use Rattle.wit_types.specs.declared.maps.FuncTypeKey.{FuncTypeKey}
use Rattle.wit_types.specs.Settings.{Setting, tree_in}
use Rattle.wit_types.specs.Denoting.{AddsOne}
use Rattle.wit_types.specs.Order.{IsEncoded, AreEncoded, named_types, AddsFunction, MayAddFunction}
use Rattle.wit_types.specs.Maps.{key_tree}
use Rattle.wit_types.proofs.Parting.{take_whole}
use Rattle.wit_types.proofs.Adding.{encoded_then, encoded_one, one_as}

-- the trees of parameters
abbrev pub param_trees : Setting → List WitField → List Tree
param_trees s params = map (λ p. tree_in s (Some p.ty)) params

-- the first so many parameters were encoded
pub record EncodedSoFar (s : Setting) (old new : List TypeTree) (params : List WitField) (n : ℕ) : Type 0 where
  pub each : AreEncoded old (param_trees s (take n params)) new

pub encoded_none : (s : Setting) (old : List TypeTree) (params : List WitField) → EncodedSoFar s old old params 0
encoded_none s old params = record { each = refl }

pub encoded_more : (s : Setting) (old mid new : List TypeTree) (params : List WitField) (n : ℕ) (param : WitField) → n < length params → param ≡ get_or params n param → EncodedSoFar s old mid params n → IsEncoded mid new (tree_in s (Some param.ty)) → EncodedSoFar s old new params (n + 1)
encoded_more s old mid new params n param l there h e =
    let last : WitField = get_or params n param in
    record {
      each = subst (λ ts. AreEncoded old ts new) (sym (ap (param_trees s) (take_more params n param l) ∙ map-append (λ (p : WitField). tree_in s (Some p.ty)) (take n params) (last ∷ [])))
          (encoded_then old mid new (param_trees s (take n params)) (param_trees s (last ∷ [])) h.each
          (encoded_one mid new (tree_in s (Some last.ty)) (subst (λ (p : WitField). IsEncoded mid new (tree_in s (Some p.ty))) there e)));
    }

pub encoded_whole : (s : Setting) (old new : List TypeTree) (params : List WitField) (n : ℕ) → length params ≤ n → EncodedSoFar s old new params n → AreEncoded old (param_trees s params) new
encoded_whole s old new params n l h = subst (λ ps. AreEncoded old (param_trees s ps) new) (take_whole params n l) h.each

-- what a function's type names, by its key
trees_named : (s : Setting) (params : List WitField) → param_trees s params ≡ map (λ (p : ParamTree). p.tree) (map (λ (p : WitField). record { name = p.name; tree = tree_in s (Some p.ty) }) params)
trees_named s [] = refl
trees_named s (p ∷ ps) = ap (λ ts. tree_in s (Some p.ty) ∷ ts) (trees_named s ps)

abbrev result_trees : Setting → Option Ty → List Tree
result_trees s part = option_to_list (option_map (λ t. tree_in s (Some t)) part)

key_names : (s : Setting) (key : FuncTypeKey) → param_trees s key.params ++ result_trees s key.result ≡ named_types (key_tree s key)
key_names s key = ap (λ ts. ts ++ result_trees s key.result) (trees_named s key.params)

-- the parameters, the result, and then the type itself
pub function_added : (s t u : Setting) (a b c d : List TypeTree) (key : FuncTypeKey) (params : List WitField) (r : Result ℕ BuildFault) → AreEncoded a (param_trees s params) b → params ≡ key.params → AreEncoded b (option_to_list (option_map (λ x. tree_in t (Some x)) key.result)) c → t ≡ s → IfOk r (λ i. AddsOne c d (OfFunctions (key_tree u key))) → u ≡ s → IfOk r (λ i. AddsFunction a d (key_tree s key))
function_added s t u a b c d key params (Ok i) g same h setting last now =
    record {
      before = c;
      encoded = subst (λ ts. AreEncoded a ts c) (key_names s key)
          (encoded_then a b c (param_trees s key.params) (result_trees s key.result) (subst (λ ps. AreEncoded a (param_trees s ps) b) same g)
          (subst (λ (v : Setting). AreEncoded b (result_trees v key.result) c) setting h));
      last = subst (λ (v : Setting). AddsOne c d (OfFunctions (key_tree v key))) now last;
    }
function_added s t u a b c d key params (Err e) g same h setting last now = tt

pub function_to : {a b c : List TypeTree} {f : FunctionTree} → AddsFunction a b f → c ≡ b → AddsFunction a c f
function_to h same = record { before = h.before; encoded = h.encoded; last = one_as h.last same }

-- after a look-up that leaves the scope
pub function_made : (a b c : List TypeTree) (s t : Setting) (key now : FuncTypeKey) (r : Result ℕ BuildFault) → IfOk r (λ i. AddsFunction b c (key_tree t key)) → b ≡ a → t ≡ s → key ≡ now → IfOk r (λ i. MayAddFunction a c (key_tree s now))
function_made a b c s t key now (Ok i) h same setting is =
    inr (subst (λ k. AddsFunction a c (key_tree s k)) is (subst (λ (v : Setting). AddsFunction a c (key_tree v key)) setting (subst (λ x. AddsFunction x c (key_tree t key)) same h)))
function_made a b c s t key now (Err e) h same setting is = tt

pub may_add_as : (a c : List TypeTree) (r : Result ℕ BuildFault) (f g : FunctionTree) → IfOk r (λ i. MayAddFunction a c f) → f ≡ g → IfOk r (λ i. MayAddFunction a c g)
may_add_as a c r f g h e = subst (λ x. IfOk r (λ i. MayAddFunction a c x)) e h

-- the value type of a result, where there is one
pub result_encoded : (s : Setting) (a b : List TypeTree) (part : Option Ty) (t : Ty) → part ≡ Some t → IsEncoded a b (tree_in s (Some t)) → AreEncoded a (option_to_list (option_map (λ x. tree_in s (Some x)) part)) b
result_encoded s a b part t is h = subst (λ o. AreEncoded a (result_trees s o) b) (sym is) (encoded_one a b (tree_in s (Some t)) h)
