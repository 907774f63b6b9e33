-- Worked examples: a world that imports a function of a text and one of a number at its root, and
-- one of texts in an interface; one whose main module exports the destructor of a resource, and one
-- with an adapter.
use Rattle.std.proofs.Common.{◌≡◌, ◌<◌, ℕ, arith, false, true, List, [], ◌∷◌, refl, Some, None}
use Rattle.std.specs.Fmt.{digits}
use Rattle.std.specs.List.{IsDistinct, flat_map}
use Rattle.std.specs.Prelude.{codes}
use Rattle.standard_kinds.specs.declared.kinds.Primitive.TheVariants as primitives
use Rattle.standard_kinds.specs.declared.kinds.StringEncoding.{StringEncoding}
use Rattle.standard_kinds.specs.declared.kinds.StringEncoding.TheVariants as encodings
use Rattle.wit_data.specs.Values.{values_from}
use Rattle.wit_data.specs.declared.functions.AbiVariant.TheVariants.{GuestImport}
use Rattle.wit_data.specs.declared.functions.Function.{Function}
use Rattle.wit_data.specs.declared.functions.FunctionKind.TheVariants.{Freestanding}
use Rattle.wit_data.specs.declared.signatures.WasmType.TheVariants.{I32}
use Rattle.wit_data.specs.declared.ids.TypeId.{TypeId}
use Rattle.wit_data.specs.declared.types.Type.TheVariants.{Primitive as Simple}
use Rattle.wit_data.specs.declared.types.TypeDefKind.TheVariants.{Resource}
use Rattle.wit_data.specs.declared.types.TypeOwner.TheVariants as owners
use Rattle.wit_data.specs.declared.worlds.WorldItem.TheVariants as items
use Rattle.wit_data.specs.declared.worlds.WorldKey.{WorldKey}
use Rattle.wit_data.specs.declared.worlds.WorldKey.TheVariants as keys
use Rattle.core_types.specs.Core.{core_preamble}
use Rattle.core_types.specs.declared.types.MemoryType.{MemoryType}
use Rattle.wit_data.specs.Sound.{IsSound}
use Rattle.comp_roles.specs.declared.offered.ExternType.TheVariants as externs
use Rattle.comp_worlds.specs.Encodable.{IsEncodable}
use Rattle.comp_worlds.specs.Typed.{destructor_type, realloc_type}
use Rattle.comp_worlds.specs.Worlds.{IsWorld}
use Rattle.comp_roles.specs.declared.exports.Export.TheVariants as exports
use Rattle.comp_roles.specs.declared.imports.Import.{Import}
use Rattle.comp_roles.specs.declared.imports.Import.TheVariants as imports
use Rattle.comp_roles.specs.declared.imports.ImportInstance.TheVariants as instances
use Rattle.comp_roles.specs.declared.libraries.MainOrAdapter.TheVariants as users
use Rattle.comp_roles.specs.declared.metadata.FunctionKey.{FunctionKey}
use Rattle.comp_worlds.specs.WorldTables.{whole_of}
use Rattle.comp_worlds.specs.declared.world.ComponentWorld.{ComponentWorld}
use Rattle.comp_worlds.specs.declared.world.WorldAdapter.{WorldAdapter}
use Rattle.shim_plan.specs.Encodings.{unencoded}
use Rattle.shim_plan.specs.Plans.{shim_of}
use Rattle.shim_plan.specs.declared.kinds.ShimKind.{ShimKind}
use Rattle.shim_plan.specs.declared.kinds.ShimKind.TheVariants as kinds
use Rattle.shim_plan.specs.declared.shims.Shim.{Shim}
use Rattle.world_shims.specs.WorldShims.{modules_in, shims_of}
use Rattle.comp_links.specs.Links.{lower_needs, lower_options}
use Rattle.comp_links.specs.Modules.{UserImport}
use Rattle.comp_links.specs.Roles.{import_encoding, field_path}
use Rattle.comp_links.specs.Targets.{Main, Adapter, Memory, Realloc, Encoding, ExportOf}
use Rattle.comp_terms.specs.Generated.{role_of_kind, OfExport, target_of}
use Rattle.shim_targets.specs.ShimTargets.{kind_of_import, StandsFor, StandsForExport}
use Rattle.shim_targets.proofs.ByKind.{for_role}
use Rattle.shim_targets.proofs.EachShim.{each_stands}

-- ---- the worlds

abbrev f : List ℕ
f = codes "f"

abbrev n : List ℕ
n = codes "n"

abbrev g : List ℕ
g = codes "g"

abbrev interface : WorldKey
interface = keys.Interface (record { index = 0 })

-- f takes a text, n a number; g takes and returns a text
abbrev wit_f : Function
wit_f = record { name = f; kind = Freestanding; params = record { name = codes "s"; ty = Simple primitives.«String» } ∷ []; result = None }

abbrev wit_n : Function
wit_n = record { name = n; kind = Freestanding; params = record { name = codes "s"; ty = Simple primitives.U32 } ∷ []; result = None }

abbrev wit_g : Function
wit_g = record { name = g; kind = Freestanding; params = record { name = codes "s"; ty = Simple primitives.«String» } ∷ []; result = Some (Simple primitives.«String») }

abbrev memory_type : MemoryType
memory_type = record { minimum = 1; maximum = None }

-- their roles
abbrev role_f : Import
role_f = imports.WorldFunc (keys.Name f) f GuestImport

abbrev role_n : Import
role_n = imports.WorldFunc (keys.Name n) n GuestImport

abbrev role_g : Import
role_g = imports.InterfaceFunc interface (record { index = 0 }) g GuestImport

-- the encodings of f and n, and of g
abbrev encoded : List (FunctionKey × StringEncoding)
encoded =
    (record { key = keys.Name f; function = f }, encodings.UTF8)
    ∷ (record { key = keys.Name n; function = n }, encodings.UTF8)
    ∷ (record { key = interface; function = g }, encodings.UTF16)
    ∷ []

-- a world whose main module imports these from one module `m`, with these encodings, and exports a
-- memory and the realloc `r`
abbrev world_of : List (List ℕ × Import) → List (FunctionKey × StringEncoding) → ComponentWorld
world_of fields encoded_as = whole_of (record {
  resolve = record {
    interfaces = record { id = None; types = []; functions = (g, wit_g) ∷ [] } ∷ [];
    types = [];
    worlds = record { imports = (interface, items.Interface (record { index = 0 })) ∷ (keys.Name f, items.Function wit_f) ∷ (keys.Name n, items.Function wit_n) ∷ []; exports = [] } ∷ [];
  };
  world = record { index = 0 };
  main = record {
    bytes = core_preamble;
    imports = record { modules = (codes "m", instances.Names fields) ∷ [] };
    exports = record { exports = (codes "memory", exports.Memory memory_type) ∷ (codes "r", exports.GeneralPurposeRealloc) ∷ [] };
    imported = [];
    offered = (codes "memory", externs.Memory memory_type) ∷ (codes "r", realloc_type) ∷ [];
    metadata = record { import_encodings = encoded_as; export_encodings = [] };
  };
  main_exports = [];
  adapters = [];
  can_use_context_slot_1 = false;
})

-- ---- a function of a text at the root

abbrev text_world : ComponentWorld
text_world = world_of ((codes "x", role_f) ∷ []) encoded

abbrev kind_f : ShimKind
kind_f = kinds.IndirectLowering None (record { name = f; abi = GuestImport }) users.Main encodings.UTF8

-- a memory and an encoding, but no realloc
abbrev shim_f : Shim
shim_f = record {
  options = record { 0 = 5 };
  name = codes "0";
  debug_name = codes "indirect-m-x";
  kind = kind_f;
  sig = record { params = I32 ∷ I32 ∷ []; results = []; indirect_params = false; retptr = false };
}

one_shim : shims_of text_world ≡ shim_f ∷ []
unfolding values_from digits
one_shim = refl

-- it is found by the kind of the import, and that kind gives the role
is_kind : kind_of_import Main role_f encodings.UTF8 ≡ Some kind_f
is_kind = refl

is_found : shim_of kind_f (shims_of text_world) ≡ Some shim_f
unfolding values_from digits
is_found = refl

is_role : role_of_kind text_world kind_f ≡ Some (Main, role_f)
is_role = refl

-- the options by the link table are those of the set
is_needed : lower_needs text_world role_f ≡ 5
unfolding values_from
is_needed = refl

linked : lower_options text_world Main role_f ≡ Memory ∷ Encoding encodings.UTF8 ∷ []
unfolding values_from
linked = refl

-- with another encoding there is none of that kind
other_encoding : shim_of (kinds.IndirectLowering None (record { name = f; abi = GuestImport }) users.Main encodings.UTF16) (shims_of text_world) ≡ None
unfolding values_from digits
other_encoding = refl

-- ---- a function of a number

abbrev number_world : ComponentWorld
number_world = world_of ((codes "x", role_n) ∷ []) encoded

no_shim : shims_of number_world ≡ []
unfolding values_from
no_shim = refl

no_option : lower_options number_world Main role_n ≡ []
unfolding values_from
no_option = refl

-- ---- all of them, and one twice

abbrev mixed_world : ComponentWorld
mixed_world = world_of ((codes "x", role_n) ∷ (codes "y", role_g) ∷ (codes "z", role_f) ∷ (codes "again", role_g) ∷ []) encoded

abbrev kind_g : ShimKind
kind_g = kinds.IndirectLowering (Some interface) (record { name = g; abi = GuestImport }) users.Main encodings.UTF16

abbrev shim_g : Shim
shim_g = record {
  options = record { 0 = 7 };
  name = codes "0";
  debug_name = codes "indirect-m-y";
  kind = kind_g;
  sig = record { params = I32 ∷ I32 ∷ I32 ∷ []; results = []; indirect_params = false; retptr = true };
}

-- a shim for each function that needs a memory, in the order of the imports; none for the realloc
two_shims : shims_of mixed_world ≡ shim_g ∷ record shim_f { name = codes "1"; debug_name = codes "indirect-m-z" } ∷ []
unfolding values_from digits
two_shims = refl

role_in_interface : role_of_kind mixed_world kind_g ≡ Some (Main, role_g)
role_in_interface = refl

linked_in_interface : lower_options mixed_world Main role_g ≡ Memory ∷ Realloc (record { of = Main; name = codes "r" }) ∷ Encoding encodings.UTF16 ∷ []
unfolding values_from
linked_in_interface = refl

-- the world can be encoded, so that the laws hold of it
no_type : {A : Type 0} (n : ℕ) → n < 0 → A
no_type n l = absurd (omega (arith, l))

is_sound : IsSound mixed_world.resolve
unfolding values_from
is_sound = record {
  back = tt;
  small = record { labels = tt; nodes = tt; levels = tt };
  owners = tt;
  interfaces = (record { types = tt; functions = (record { resource = tt; params = (tt, tt); result = tt }, tt) }, tt);
  worlds = (
    record {
      imports = ((omega arith, omega arith), ((tt, record { resource = tt; params = (tt, tt); result = tt }), ((tt, record { resource = tt; params = (tt, tt); result = tt }), tt)));
      exports = tt;
    },
    tt,
  );
}

is_world : IsWorld mixed_world
unfolding IsDistinct
is_world = record {
  present = omega arith;
  imports = ((refl, tt), (refl, (refl, tt)));
  exports = tt;
  import_keys_apart = ((refl, (refl, tt)), ((refl, tt), (tt, tt)));
  import_names_apart = ((refl, tt), (tt, tt));
  export_keys_apart = tt;
  export_names_apart = tt;
  exports_named = tt;
  exported_interfaces_apart = tt;
  main = record {
    core = refl;
    modules_apart = (tt, tt);
    import_roles = (
      (
        ((refl, (refl, (refl, tt))), ((refl, (refl, tt)), ((refl, tt), (tt, tt)))),
        (((1, omega arith, refl), refl, tt), (((0, omega arith, refl), (0, omega arith, refl), tt), (((0, omega arith, refl), refl, tt), (((0, omega arith, refl), (0, omega arith, refl), tt), tt)))),
      ),
      tt,
    );
    own_keys = (tt, (tt, (tt, (tt, tt))));
    imported = tt;
    export_roles = (tt, (tt, tt));
    exported = (record { type = externs.Memory memory_type; offered = refl; fits = refl }, (record { type = realloc_type; offered = refl; fits = refl }, tt));
    required = tt;
  };
  main_first = ((tt, (tt, (tt, (tt, tt)))), tt);
  adapters = tt;
  adapters_apart = tt;
  keys_apart = tt;
}

is_encodable : IsEncodable mixed_world
unfolding IsDistinct values_from
is_encodable = record {
  valid = is_world;
  sound = is_sound;
  tables = record { import_map = refl; live_type_imports = refl; exports_used = refl };
  resources = record { ordered = tt; each = λ n h. no_type n h.present };
  apart = (tt, tt);
  required_apart = tt;
  types = λ n l. no_type n l;
  imports = (
    record { own = tt; ordered = tt; functions = (record { params = (omega arith, tt); result = omega arith }, tt) },
    (record { params = (omega arith, tt); result = omega arith }, (record { params = (omega arith, tt); result = omega arith }, tt)),
  );
  exports = tt;
  roles = (tt, (tt, (tt, (tt, tt))));
}

-- so the second shim stands for an import
second_stands : (i : UserImport) × StandsFor mixed_world (record shim_f { name = codes "1"; debug_name = codes "indirect-m-z" }) i
unfolding values_from digits
second_stands = for_role mixed_world (record shim_f { name = codes "1"; debug_name = codes "indirect-m-z" }) Main role_f encodings.UTF8 refl (each_stands mixed_world is_encodable).1.0

-- ---- a destructor

abbrev resource : TypeId
resource = record { index = 0 }

-- main imports f, and exports `d`, the destructor of the resource `res`
abbrev destructor_world : ComponentWorld
destructor_world = whole_of (record {
  resolve = record {
    interfaces = [];
    types = record { name = Some (codes "res"); kind = Resource; owner = owners.«None» } ∷ [];
    worlds = record { imports = (keys.Name f, items.Function wit_f) ∷ []; exports = [] } ∷ [];
  };
  world = record { index = 0 };
  main = record {
    bytes = core_preamble;
    imports = record { modules = (codes "m", instances.Names ((codes "x", role_f) ∷ [])) ∷ [] };
    exports = record { exports = (codes "d", exports.ResourceDtor resource) ∷ (codes "memory", exports.Memory memory_type) ∷ [] };
    imported = [];
    offered = (codes "d", destructor_type) ∷ (codes "memory", externs.Memory memory_type) ∷ [];
    metadata = record { import_encodings = encoded; export_encodings = [] };
  };
  main_exports = [];
  adapters = [];
  can_use_context_slot_1 = false;
})

abbrev shim_d : Shim
shim_d = record {
  options = record { 0 = 0 };
  name = codes "1";
  debug_name = codes "dtor-res";
  kind = kinds.ResourceDtor users.Main (codes "d");
  sig = record { params = I32 ∷ []; results = []; indirect_params = false; retptr = false };
}

-- its shim comes after those of the imports
after_imports : shims_of destructor_world ≡ shim_f ∷ shim_d ∷ []
unfolding values_from digits
after_imports = refl

-- and stands for the export, of the type that validation found
stands_for_d : StandsForExport destructor_world shim_d (record { of = Main; name = codes "d" })
stands_for_d = record { is = record { of_kind = refl; exporting = record { of = Main; found = destructor_world.main }; listed = (0, omega arith, refl); same = refl; typed = refl }; options = refl }

target_of_d : target_of destructor_world (OfExport (record { of = Main; name = codes "d" })) ≡ ExportOf (record { of = Main; name = codes "d" })
target_of_d = refl

-- ---- an adapter

-- the adapter `a` imports f as main does, with another encoding
abbrev adapter : WorldAdapter
adapter = record {
  info = record {
    bytes = core_preamble;
    imports = record { modules = (codes "k", instances.Names ((codes "v", role_f) ∷ [])) ∷ [] };
    exports = record { exports = [] };
    imported = [];
    offered = [];
    metadata = record { import_encodings = (record { key = keys.Name f; function = f }, encodings.UTF16) ∷ []; export_encodings = [] };
  };
  required_exports = [];
  library_info = None;
}

abbrev adapted_world : ComponentWorld
adapted_world = record text_world { adapters = (codes "a", adapter) ∷ [] }

abbrev kind_a : ShimKind
kind_a = kinds.IndirectLowering None (record { name = f; abi = GuestImport }) (users.Adapter (codes "a")) encodings.UTF16

-- its shim comes after main's, and stands for the role in the adapter
shim_each : shims_of adapted_world ≡ shim_f ∷ record shim_f { name = codes "1"; debug_name = codes "indirect-k-v"; kind = kind_a } ∷ []
unfolding values_from digits
shim_each = refl

is_kind_in_adapter : kind_of_import (Adapter (codes "a")) role_f encodings.UTF16 ≡ Some kind_a
is_kind_in_adapter = refl

role_in_adapter : role_of_kind adapted_world kind_a ≡ Some (Adapter (codes "a"), role_f)
role_in_adapter = refl

-- ---- without encodings

abbrev plain_world : ComponentWorld
plain_world = world_of ((codes "x", role_n) ∷ (codes "y", role_f) ∷ []) []

-- there is no shim, and the import that needs one is returned
unencoded_shims : shims_of plain_world ≡ []
unfolding values_from
unencoded_shims = refl

unencoded_place : flat_map (unencoded plain_world) (modules_in plain_world) ≡ field_path (codes "m") (codes "y") ∷ []
unfolding values_from
unencoded_place = refl

no_encoding : import_encoding plain_world Main role_f ≡ None
no_encoding = refl
