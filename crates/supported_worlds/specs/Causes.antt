-- When the refusal of a world is right: something of it is not encoded yet. (This project's own.)
use Rattle.std.specs.Prelude.{◌≡◌, ℕ, List, length, codes, Option, Some, Contains}
use Rattle.wit_data.specs.declared.worlds.WorldItem.{WorldItem}
use Rattle.wit_data.specs.declared.worlds.WorldKey.{WorldKey}
use Rattle.comp_roles.specs.CoreImports.{CoreImport}
use Rattle.comp_roles.specs.declared.exports.Export.{Export}
use Rattle.comp_roles.specs.declared.imports.Import.{Import}
use Rattle.comp_worlds.specs.Encodable.{ImportsResources}
use Rattle.comp_worlds.specs.Uses.{imports_of}
use Rattle.comp_worlds.specs.WorldTables.{whole_of}
use Rattle.comp_worlds.specs.declared.world.WorldParts.{WorldParts}
use Rattle.record_faults.specs.declared.fault.Refusal.{Refusal}
use Rattle.record_faults.specs.declared.fault.Refusal.TheVariants as refusals
use Rattle.supported_worlds.specs.LeftOut.{items_of, all_required, import_item_left_out, export_item_left_out, twice_left_out, order_left_out, import_left_out, export_left_out, own_role_left_out, required_of}
use Rattle.supported_worlds.specs.Modules.{UserModule, user_modules}
use Rattle.supported_worlds.specs.Naming.{AreExportsNamed}
use Rattle.supported_worlds.specs.Placed.{places_of}

-- the role of an import, unless it is encoded
abbrev pub role_left_out : WorldParts → Import → Option (List ℕ)
role_left_out p role = import_left_out p.resolve.types (places_of p.resolve.types (items_of p).imports) (length (items_of p).imports) role

-- one of an exported resource or function, unless its module, which has to export these keys, has to export that
abbrev pub own_role_out : WorldParts → List WorldKey → Import → Option (List ℕ)
own_role_out p keys role = own_role_left_out p.resolve (items_of p).exports (required_of (items_of p).exports keys) role

pub data IsLeftOut (p : WorldParts) : Refusal → Type 0 where
  -- an import or an export of the world
  imported : (entry : WorldKey × WorldItem) (what : List ℕ) → Contains (items_of p).imports entry → import_item_left_out entry ≡ Some what → IsLeftOut p (refusals.LeftOut what)
  exported : (entry : WorldKey × WorldItem) (what : List ℕ) → Contains (items_of p).exports entry → export_item_left_out entry ≡ Some what → IsLeftOut p (refusals.LeftOut what)
  -- the world, where an interface is imported or exported twice, or both, or something has to be
  -- exported twice; the exported interfaces, where one has no name or that of another; the items,
  -- where something is made of types of a later place, or an exported interface of types that are
  -- not at home there; and the imports, where their types are out of order or lack a resource of
  -- the root
  twice : (what : List ℕ) → twice_left_out (all_required p) (items_of p) ≡ Some what → IsLeftOut p (refusals.LeftOut what)
  names : (AreExportsNamed p.resolve (items_of p).exports → ⊥) → IsLeftOut p (refusals.LeftOut (codes "interface"))
  order : (what : List ℕ) → order_left_out p.resolve (items_of p) ≡ Some what → IsLeftOut p (refusals.LeftOut what)
  resources : (ImportsResources (whole_of p) → ⊥) → IsLeftOut p (refusals.LeftOut (codes "type"))
  -- the role of an import or an export of a user module
  import_role : (m : UserModule) (import : CoreImport) (what : List ℕ) → Contains (user_modules p) m → Contains (imports_of m.info) import → role_left_out p import.role ≡ Some what → IsLeftOut p (refusals.LeftOut what)
  own_role : (m : UserModule) (import : CoreImport) (what : List ℕ) → Contains (user_modules p) m → Contains (imports_of m.info) import → own_role_out p m.keys import.role ≡ Some what → IsLeftOut p (refusals.LeftOut what)
  export_role : (m : UserModule) (entry : List ℕ × Export) (what : List ℕ) → Contains (user_modules p) m → Contains m.info.exports.exports entry → export_left_out p.resolve.types entry.1 ≡ Some what → IsLeftOut p (refusals.LeftOut what)
