-- What type declarations mean in a scope. Component model, binary format: `deftype`, `functype`.
use Rattle.std.specs.Prelude.{⊤, ℕ, ◌&&◌, nat_eq, List, [], ◌∷◌, codes, map, Bool, Option, Some, option_map, Ok, Err, if◌then◌else◌}
use Rattle.std.specs.List.{starts_with}
use Rattle.comp_bytes.specs.declared.types.Field.{Field}
use Rattle.comp_bytes.specs.declared.types.DefinedType.{DefinedType}
use Rattle.comp_bytes.specs.declared.types.FuncTypeDef.{FuncTypeDef}
use Rattle.comp_bytes.specs.declared.types.TypeDef.{TypeDef}
use Rattle.comp_bytes.specs.declared.types.TypeDef.TheVariants as types
use Rattle.record_values.specs.declared.types.Typed.{Typed}
use Rattle.record_values.specs.declared.types.Func.{Func}
use Rattle.package_types.specs.declared.fault.Cause.TheVariants as causes
use Rattle.package_types.specs.declared.scopes.Signature.{Signature}
use Rattle.package_types.specs.declared.scopes.Entry.{Entry}
use Rattle.package_types.specs.declared.scopes.Entry.TheVariants as entries
use Rattle.package_types.specs.Types.{Checked, ◌>>>◌, value_size, optional_size, defined_size, value_nodes, defined_nodes}

-- each parameter is of a value type
abbrev pub params_checked : List Entry → List Field → Checked ⊤
params_checked scope [] = Ok tt
params_checked scope (f ∷ fs) = value_size scope f.ty >>> λ _. params_checked scope fs

abbrev pub param_of : List Entry → Field → Typed
param_of scope f = record { name = f.name; nodes = value_nodes scope f.ty }

abbrev pub signature : List Entry → FuncTypeDef → Signature
signature scope f = record {
  is_async = f.async_;
  params = map (param_of scope) f.params;
  result = option_map (λ t. value_nodes scope t) f.result;
}

unfoldable pub signature_of : List Entry → FuncTypeDef → Checked Signature
signature_of scope f =
    params_checked scope f.params >>> λ _.
    optional_size scope f.result >>> λ _.
    Ok (signature scope f)

abbrev pub function_entry : List Entry → FuncTypeDef → Checked Entry
function_entry scope f = signature_of scope f >>> λ s. Ok (entries.Function s)

-- the size comes before the nodes
abbrev pub type_entry : List Entry → DefinedType → Checked Entry
type_entry scope t = defined_size scope t >>> λ size. Ok (entries.Type (defined_nodes scope t) size)

-- the entry that a declaration of a type adds to its scope
abbrev pub entry_of : List Entry → TypeDef → Checked Entry
entry_of scope (types.Func f) = function_entry scope f
entry_of scope (types.Resource destructor) = Err causes.ResourceType
entry_of scope (types.Defined t) = type_entry scope t

abbrev pub is_constructor : List ℕ → Bool
is_constructor name = starts_with nat_eq name (codes "[constructor]")

abbrev pub function : List ℕ → Signature → Func
function name s = record { name = name; is_async = s.is_async; params = s.params; result = s.result }

-- a function of a name; a constructor is not asynchronous
abbrev pub named_signature : List ℕ → Signature → Checked Func
named_signature name s = if s.is_async && is_constructor name then Err causes.AsyncConstructor else Ok (function name s)

abbrev pub function_by : List ℕ → Option Entry → Checked Func
function_by name (Some (entries.Function s)) = named_signature name s
function_by name e = Err causes.Index
