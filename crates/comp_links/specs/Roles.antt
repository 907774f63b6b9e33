-- What the roles of a world need (component model: a function is imported once, under its name;
-- Canonical ABI: each function is called with a string encoding).
use Rattle.std.specs.Prelude.{◌==◌, ℕ, Bool, true, false, List, ◌∷◌, ◌++◌, Option, Some, None, filter, map, if◌then◌else◌, unwrap_or, IsTrue, IsSome}
use Rattle.std.specs.List.{list_any}
use Rattle.std.specs.Option.{option_and_then}
use Rattle.std.specs.Str.{bytes_eq}
use Rattle.comp_roles.specs.Functions.{of_function}
use Rattle.comp_roles.specs.CoreImports.{fields_of}
use Rattle.comp_worlds.specs.WorldContents.{imported_name, imported_functions}
use Rattle.wit_data.specs.declared.ids.InterfaceId.{InterfaceId}
use Rattle.wit_data.specs.declared.worlds.WorldKey.{WorldKey}
use Rattle.world_values.specs.Items.{functions_of}
use Rattle.standard_kinds.specs.declared.kinds.StringEncoding.{StringEncoding}
use Rattle.standard_kinds.specs.declared.kinds.StringEncoding.TheVariants.{UTF8}
use Rattle.comp_roles.specs.declared.imports.Import.{Import}
use Rattle.comp_roles.specs.declared.imports.Import.TheVariants as imports
use Rattle.comp_roles.specs.declared.imports.ImportInstance.{ImportInstance}
use Rattle.comp_roles.specs.declared.metadata.FunctionKey.{FunctionKey}
use Rattle.comp_roles.specs.declared.payloads.PayloadInfo.{PayloadInfo}
use Rattle.comp_roles.specs.declared.payloads.PayloadType.{PayloadType}
use Rattle.comp_roles.specs.declared.payloads.PayloadType.TheVariants as payloads
use Rattle.comp_worlds.specs.declared.world.ComponentWorld.{ComponentWorld}
use Rattle.comp_worlds.specs.declared.world.ValidatedModule.{ValidatedModule}
use Rattle.comp_links.specs.Targets.{UserModule}
use Rattle.comp_links.specs.Modules.{module_found, import_groups}

-- whether this is the name of the root function of a role
abbrev pub is_named : List ℕ → Option (List ℕ) → Bool
is_named text None = false
is_named text (Some name) = bytes_eq text name

-- whether one of these imports uses the root function of this name
abbrev pub is_any_import : List ℕ → List (List ℕ × Import) → Bool
is_any_import text fields = list_any (λ f. is_named text (imported_name f.1)) fields

abbrev pub uses_from : List ℕ → List ℕ × ImportInstance → Bool
uses_from text group = is_any_import text (fields_of group.1)

-- whether an import of a user module uses the root function of this name
abbrev pub is_used : ComponentWorld → List ℕ → Bool
is_used w text = list_any (uses_from text) (import_groups w)

-- the root functions that core imports use, in the order of the world
abbrev pub used_functions : ComponentWorld → List (List ℕ)
used_functions w = filter (is_used w) (imported_functions w)

-- the name of the function of this interface that an import uses, if it uses one
abbrev pub interface_function : InterfaceId → Import → Option (List ℕ)
interface_function id (imports.InterfaceFunc key other name abi) = if id.index == other.index then Some name else None
interface_function id role = None

-- whether an import of a user module uses the function of this name of an interface
abbrev pub is_used_of : ComponentWorld → InterfaceId → List ℕ → Bool
is_used_of w id text = list_any (λ g. list_any (λ f. is_named text (interface_function id f.1)) (fields_of g.1)) (import_groups w)

-- the functions of an interface that core imports use, in its order
abbrev pub used_functions_of : ComponentWorld → InterfaceId → List (List ℕ)
used_functions_of w id = filter (is_used_of w id) (map (λ f. f.0) (functions_of w.resolve id))

-- whether an import is called with a string encoding: a function of the world is, and `task.return`
abbrev pub needs_encoding : Import → Bool
needs_encoding (imports.WorldFunc key function abi) = true
needs_encoding (imports.InterfaceFunc key interface function abi) = true
needs_encoding (imports.ExportedTaskReturn key interface function) = true
needs_encoding role = false

-- the string encodings of the functions that a module imports, or of those that it exports
abbrev pub encodings_of : (imported : Bool) → ValidatedModule → List (FunctionKey × StringEncoding)
encodings_of true m = m.metadata.import_encodings
encodings_of false m = m.metadata.export_encodings

-- the encoding of the elements of a stream or a future: that of the function of which it is. Where that has none, or
-- nothing is passed, any would do
abbrev pub payload_encoding : PayloadInfo → PayloadType → ValidatedModule → StringEncoding
payload_encoding p (payloads.Typed id function) m = unwrap_or (option_and_then (λ key. of_function key function (encodings_of p.imported m)) p.key) UTF8
payload_encoding p unit m = UTF8

-- the encoding with which a module calls an import of this role: that of the function, or the
-- role's own. A wait passes no text, so that any would do
abbrev pub encoding_in : Import → ValidatedModule → Option StringEncoding
encoding_in (imports.WorldFunc key function abi) m = of_function key function m.metadata.import_encodings
encoding_in (imports.InterfaceFunc key interface function abi) m = of_function key function m.metadata.import_encodings
encoding_in (imports.ExportedTaskReturn key interface f) m = of_function key f.name m.metadata.export_encodings
encoding_in imports.WaitableSetWait m = Some UTF8
encoding_in imports.WaitableSetPoll m = Some UTF8
encoding_in (imports.ErrorContextNew encoding) m = Some encoding
encoding_in (imports.ErrorContextDebugMessage encoding) m = Some encoding
encoding_in (imports.StreamRead p is_async) m = Some (payload_encoding p p.ty m)
encoding_in (imports.StreamWrite p is_async) m = Some (payload_encoding p p.ty m)
encoding_in (imports.FutureRead p is_async) m = Some (payload_encoding p p.ty m)
encoding_in (imports.FutureWrite p is_async) m = Some (payload_encoding p p.ty m)
encoding_in role m = None

abbrev pub import_encoding : ComponentWorld → UserModule → Import → Option StringEncoding
import_encoding w of role = option_and_then (encoding_in role) (module_found w of)

-- whether an import is main's memory
abbrev pub is_main_memory : Import → Bool
is_main_memory (imports.MainModuleMemory type) = true
is_main_memory role = false

-- the encoding with which the function of this name at a key is lifted, from what a module exports
abbrev pub export_encoding : ComponentWorld → UserModule → WorldKey → List ℕ → Option StringEncoding
export_encoding w of key name = option_and_then (λ (m : ValidatedModule). of_function key name m.metadata.export_encodings) (module_found w of)

-- the text that names a core import in faults, `module::field`
abbrev pub field_path : List ℕ → List ℕ → List ℕ
field_path module_name field = module_name ++ 0x3a ∷ 0x3a ∷ field
