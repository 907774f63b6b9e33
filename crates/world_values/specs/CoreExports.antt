-- The functions of core exports, by the key of the world's export that has them and their name
-- there (Canonical ABI: `canon lift`, with its options `post-return` and `callback`).
use Rattle.std.specs.Prelude.{ℕ, List, [], ◌∷◌, map, Option, Some, None}
use Rattle.std.specs.List.{flat_map}
use Rattle.wit_data.specs.declared.functions.AbiVariant.{AbiVariant}
use Rattle.wit_data.specs.declared.worlds.WorldKey.{WorldKey}
use Rattle.wit_data.specs.declared.worlds.WorldKey.TheVariants as keys
use Rattle.comp_roles.specs.Lookups.{Exports}
use Rattle.comp_roles.specs.declared.exports.Export.{Export}
use Rattle.comp_roles.specs.declared.exports.Export.TheVariants as exports
use Rattle.comp_roles.specs.declared.metadata.FunctionKey.{FunctionKey}

abbrev pub function_key : WorldKey → List ℕ → FunctionKey
function_key key name = record { key = key; function = name }

-- ---- the function of one export

-- the function that an export lifts, with the form in which it is called
abbrev pub lifted_function : Export → List (FunctionKey × AbiVariant)
lifted_function (exports.WorldFunc key name abi) = (function_key key name, abi) ∷ []
lifted_function (exports.InterfaceFunc key id name abi) = (function_key key name, abi) ∷ []
lifted_function role = []

-- the function of the world itself at a key: its name is the key's
abbrev pub at_root : WorldKey → Option FunctionKey
at_root (keys.Name text) = Some (function_key (keys.Name text) text)
at_root (keys.Interface id) = None

-- the function whose post-return an export is
abbrev pub post_return_function : Export → Option FunctionKey
post_return_function (exports.WorldFuncPostReturn key) = at_root key
post_return_function (exports.InterfaceFuncPostReturn key name) = Some (function_key key name)
post_return_function role = None

-- the function whose callback an export is
abbrev pub callback_function : Export → Option FunctionKey
callback_function (exports.WorldFuncCallback key) = at_root key
callback_function (exports.InterfaceFuncCallback key name) = Some (function_key key name)
callback_function role = None

-- ---- the functions of all exports, with the forms in which they are called

abbrev pub lifted_functions : Exports → List (FunctionKey × AbiVariant)
lifted_functions all = flat_map (λ e. lifted_function e.1) all

-- ---- with the names of the exports

abbrev pub implemented_by : List ℕ × Export → List (FunctionKey × List ℕ)
implemented_by (name, role) = map (λ f. (f.0, name)) (lifted_function role)

abbrev pub implementations : Exports → List (FunctionKey × List ℕ)
implementations all = flat_map implemented_by all

abbrev pub under : List ℕ → Option FunctionKey → List (FunctionKey × List ℕ)
under name None = []
under name (Some f) = (f, name) ∷ []

abbrev pub returned_by : List ℕ × Export → List (FunctionKey × List ℕ)
returned_by (name, role) = under name (post_return_function role)

abbrev pub post_returns : Exports → List (FunctionKey × List ℕ)
post_returns all = flat_map returned_by all

abbrev pub called_back_by : List ℕ × Export → List (FunctionKey × List ℕ)
called_back_by (name, role) = under name (callback_function role)

abbrev pub callbacks : Exports → List (FunctionKey × List ℕ)
callbacks all = flat_map called_back_by all
