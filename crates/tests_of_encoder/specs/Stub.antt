-- The results of the stub: the same world for every module. (For tests alone; no standard defines it.)
use Rattle.std.specs.Prelude.{◌≡◌, ◌≢◌, ℕ, List, [], ◌∷◌, ⊤, Bool, true, false, None, ◌⊎◌, codes, take}
use Rattle.world_values.specs.declared.gathered.Gathered.{Gathered}
use Rattle.world_values.specs.declared.gathered.Merged.{Merged}
use Rattle.comp_roles.specs.declared.imports.ImportMap.{ImportMap}
use Rattle.comp_roles.specs.declared.imports.ImportInstance.TheVariants.{Names}
use Rattle.comp_roles.specs.declared.imports.Import.{Import}
use Rattle.comp_roles.specs.declared.imports.Import.TheVariants as roles
use Rattle.comp_roles.specs.declared.offered.ExternType.TheVariants.{Func}
use Rattle.comp_roles.specs.declared.offered.ImportType.{ImportType}
use Rattle.wit_data.specs.declared.worlds.World.{World}
use Rattle.wit_data.specs.declared.worlds.WorldKey.TheVariants.{Name}
use Rattle.wit_data.specs.declared.worlds.WorldItem.TheVariants as items
use Rattle.wit_data.specs.declared.resolve.Resolve.{Resolve}
use Rattle.wit_data.specs.declared.functions.FunctionKind.TheVariants.{Freestanding}
use Rattle.wit_data.specs.declared.functions.AbiVariant.TheVariants.{GuestImport}
use Rattle.comp_worlds.specs.declared.world.ComponentWorld.{ComponentWorld}
use Rattle.comp_worlds.specs.declared.world.WorldParts.{WorldParts}
use Rattle.core_types.specs.Core.{core_preamble}
use Rattle.comp_worlds.specs.WorldTables.{whole_of}
use Rattle.comp_encoder.specs.Encoder.{main_bytes}
use Rattle.tests_of_encoder.specs.declared.layers.StubLower.{StubLower}
use Rattle.tests_of_encoder.specs.declared.layers.StubLower.TheVariants as layers
use Rattle.tests_of_encoder.specs.declared.layers.StubFault.{StubFault}
use Rattle.tests_of_encoder.specs.declared.layers.StubFault.TheVariants as faults

abbrev pub decoded_of : List ℕ → List ℕ × ⊤
decoded_of bytes = (bytes, tt)

abbrev pub merged_of : ⊤ → ⊤ → Merged ⊤
merged_of first second = record { combined = tt; exports = [] }

-- main imports `f` of `$root`, whose role is the root function `f`
abbrev pub stub_role : Import
stub_role = roles.WorldFunc (Name (codes "f")) (codes "f") GuestImport

abbrev pub stub_fields : List (List ℕ × Import)
stub_fields = (codes "f", stub_role) ∷ []

abbrev pub stub_imports : ImportMap
stub_imports = record { modules = (codes "$root", Names stub_fields) ∷ [] }

-- that import is a function with no parameter and no result
abbrev pub stub_imported : List ImportType
stub_imported = record { module_name = codes "$root"; field = codes "f"; ty = Func (record { params = []; results = [] }) } ∷ []

-- the world imports the root function `f`, and exports nothing
abbrev pub stub_items : World
stub_items = record { imports = (Name (codes "f"), items.Function (record { name = codes "f"; kind = Freestanding; params = []; result = None })) ∷ []; exports = [] }

abbrev pub stub_resolve : Resolve
stub_resolve = record { interfaces = []; types = []; worlds = stub_items ∷ [] }

-- the world has no string encoding for any function
unfoldable pub stub_parts : List ℕ → WorldParts
stub_parts bytes = record {
  resolve = stub_resolve;
  world = record { index = 0 };
  main = record {
    bytes = bytes;
    imports = stub_imports;
    exports = record { exports = [] };
    imported = stub_imported;
    offered = [];
    metadata = record { import_encodings = []; export_encodings = [] };
  };
  main_exports = [];
  adapters = [];
  can_use_context_slot_1 = false;
}

unfoldable pub stub_world : List ℕ → ComponentWorld
stub_world bytes = whole_of (stub_parts bytes)

abbrev pub world_of : Gathered ⊤ → ComponentWorld
world_of gathered = stub_world (main_bytes gathered.main)

-- it is the listing one, and the module is no core module
abbrev pub DecodeCause : StubLower → List ℕ → StubFault → Type 0
DecodeCause layer bytes faults.Memory = ⊥
DecodeCause layer bytes faults.Refused = (layer ≡ layers.Listing) × (take 8 bytes ≢ core_preamble)
DecodeCause layer bytes (faults.Gathered adapters) = ⊥

-- it is the refusing one, or main is no core module, or there are adapters; or it is the listing one
abbrev pub PrepareCause : StubLower → Gathered ⊤ → StubFault → Type 0
PrepareCause layer gathered faults.Memory = ⊥
PrepareCause layer gathered (faults.Gathered adapters) = layer ≡ layers.Listing
PrepareCause layer gathered faults.Refused = (layer ≡ layers.Refusing) ⊎ (take 8 (main_bytes gathered.main) ≢ core_preamble) ⊎ (gathered.adapters ≢ [])

abbrev pub is_memory : StubFault → Bool
is_memory faults.Memory = true
is_memory faults.Refused = false
is_memory (faults.Gathered adapters) = false
