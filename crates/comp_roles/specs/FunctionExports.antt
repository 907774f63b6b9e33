-- The core exports that belong to a function or a resource (Canonical ABI: `canon lift`,
-- `post-return`, `callback`; component model, explainer: the destructor of a resource type).
use Rattle.std.specs.Prelude.{ℕ, nat_eq, Bool, false, ◌&&◌, if◌then◌else◌, List, Option, Some, None}
use Rattle.std.specs.Str.{bytes_eq}
use Rattle.wit_data.specs.Keys.{is_same_key}
use Rattle.wit_data.specs.declared.functions.AbiVariant.{AbiVariant}
use Rattle.wit_data.specs.declared.ids.TypeId.{TypeId}
use Rattle.wit_data.specs.declared.worlds.WorldKey.{WorldKey}
use Rattle.comp_roles.specs.Lookups.{Exports, first_some}
use Rattle.comp_roles.specs.declared.exports.Export.{Export}
use Rattle.comp_roles.specs.declared.exports.Export.TheVariants as exports

-- how the function of this name at this key is called
abbrev pub abi_of : WorldKey → List ℕ → Export → Option AbiVariant
abi_of key function (exports.WorldFunc other name abi) = if is_same_key key other && bytes_eq function name then Some abi else None
abi_of key function (exports.InterfaceFunc other interface name abi) = if is_same_key key other && bytes_eq function name then Some abi else None
abi_of key function role = None

abbrev pub first_abi : WorldKey → List ℕ → Exports → Option AbiVariant
first_abi key function entries = first_some (λ e. abi_of key function e.1) entries

-- the post-return of the function of this name at this key
abbrev pub is_post_return : WorldKey → List ℕ → Export → Bool
is_post_return key function (exports.WorldFuncPostReturn other) = is_same_key key other
is_post_return key function (exports.InterfaceFuncPostReturn other name) = is_same_key key other && bytes_eq function name
is_post_return key function role = false

-- its callback
abbrev pub is_callback : WorldKey → List ℕ → Export → Bool
is_callback key function (exports.WorldFuncCallback other) = is_same_key key other
is_callback key function (exports.InterfaceFuncCallback other name) = is_same_key key other && bytes_eq function name
is_callback key function role = false

-- the destructor of this resource
abbrev pub is_dtor : TypeId → Export → Bool
is_dtor resource (exports.ResourceDtor id) = nat_eq resource.index id.index
is_dtor resource role = false
