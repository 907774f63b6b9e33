-- Warnings of functions (component model, explainer: function types, plain names).
use Rattle.std.specs.Prelude.{ℕ, not, List, [], ◌∷◌, ◌++◌, map, codes, Option, Some, None, option_map}
use Rattle.std.specs.List.{flat_map}
use Rattle.comp_lists.specs.Splits.{split_once}
use Rattle.name_parts.specs.Texts.{after}
use Rattle.name_warnings.specs.Repeats.{labels_warnings}
use Rattle.name_warnings.specs.Warnings.{warned}
use Rattle.name_warnings.specs.declared.warning.Warning.{Warning}
use Rattle.name_warnings.specs.declared.warning.WarningKind.TheVariants as kinds
use Rattle.record_values.specs.declared.names.Owner.{Owner}
use Rattle.record_values.specs.declared.types.Func.{Func}
use Rattle.record_values.specs.declared.types.Node.{Node}
use Rattle.record_values.specs.declared.types.Typed.{Typed}
use Rattle.world_names.specs.WorldNames.{owned, Resources}
use Rattle.world_warnings.specs.Facts.{borrows}
use Rattle.world_warnings.specs.Handles.{gives_own, takes_self}
use Rattle.world_warnings.specs.Types.{value_warnings}
use Rattle.world_warnings.specs.declared.facts.Facts.{Facts}

-- ---- functions of resources

abbrev pub before_dot : Option (List ℕ) → Option (List ℕ)
before_dot None = None
before_dot (Some rest) = option_map (λ p. p.0) (split_once 46 rest)

-- the resource of a method, by its name `[method]resource.name`
abbrev pub method_of : List ℕ → Option (List ℕ)
method_of name = before_dot (after (codes "[method]") name)

-- a method takes a borrowed handle of its resource first, under the name `self`
abbrev pub method_warnings : Facts → Owner → List (List ℕ) → Func → Option (List ℕ) → List Warning
method_warnings facts owner path f None = []
method_warnings facts owner path f (Some resource) = warned (not (takes_self facts.resources (owned owner resource) f.params)) kinds.MethodSelf path

-- a constructor gives an owned handle of its resource, or a result with one
abbrev pub constructor_warnings : Facts → Owner → List (List ℕ) → Func → Option (List ℕ) → List Warning
constructor_warnings facts owner path f None = []
constructor_warnings facts owner path f (Some resource) = warned (not (gives_own facts.resources (owned owner resource) f.result)) kinds.ConstructorResult path

-- ---- parameters, under `params` and their names

abbrev pub param_names : List Typed → List (List ℕ)
param_names ps = map (λ p. p.name) ps

abbrev pub param_warnings : Resources → List (List ℕ) → Typed → List Warning
param_warnings resources path p = value_warnings resources (path ++ p.name ∷ []) p.nodes

abbrev pub params_at : Resources → List Typed → List (List ℕ) → List Warning
params_at resources ps path = labels_warnings path (param_names ps) ++ flat_map (param_warnings resources path) ps

abbrev pub params_warnings : Resources → List (List ℕ) → List Typed → List Warning
params_warnings resources path ps = params_at resources ps (path ++ codes "params" ∷ [])

-- ---- results, under `result`: they hold no borrowed handle

abbrev pub result_at : Facts → List Node → List (List ℕ) → List Warning
result_at facts ns path = warned (borrows facts.borrowing ns) kinds.BorrowResult path ++ value_warnings facts.resources path ns

abbrev pub result_warnings : Facts → List (List ℕ) → Option (List Node) → List Warning
result_warnings facts path None = []
result_warnings facts path (Some ns) = result_at facts ns (path ++ codes "result" ∷ [])

-- ---- all of a function but its name

abbrev pub function_warnings : Facts → Owner → Func → List (List ℕ) → List Warning
function_warnings facts owner f path =
    method_warnings facts owner path f (method_of f.name)
    ++ (constructor_warnings facts owner path f (after (codes "[constructor]") f.name)
    ++ (params_warnings facts.resources path f.params
    ++ result_warnings facts path f.result))
