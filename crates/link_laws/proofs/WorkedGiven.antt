-- A worked example: a validated world of main and an adapter that imports main's memory and a
-- function that main exports. Its list keeps the rules, and so it links.
use Rattle.comp_links.specs.Naming.{own_names}
use Rattle.std.proofs.Common.{inl, ◌≡◌, ℕ, List, [], ◌∷◌, refl, sym, ap, false, Some, None, map, take, arith}
use Rattle.std.specs.Prelude.{codes}
use Rattle.std.proofs.lemmas.Option.{same_Some}
use Rattle.std.specs.List.{IsDistinct, slice_get}
use Rattle.std.specs.Str.{bytes_eq}
use Rattle.standard_kinds.specs.declared.kinds.ExportKind.TheVariants as kinds
use Rattle.comp_bytes.proofs.Worked.{f, g, core}
use Rattle.comp_bytes.specs.ItemIndices.{in_space}
use Rattle.comp_bytes.specs.declared.space.Space.TheVariants as spaces
use Rattle.comp_bytes.specs.declared.types.Alias.TheVariants as aliases
use Rattle.comp_bytes.specs.declared.def.Item.TheVariants as items
use Rattle.comp_bytes.specs.declared.def.Def.{Def}
use Rattle.comp_bytes.specs.declared.def.Def.TheVariants as defs
use Rattle.core_types.specs.Core.{core_preamble}
use Rattle.core_types.specs.declared.types.MemoryType.{MemoryType}
use Rattle.core_runs.specs.Store.{Answer, Gives}
use Rattle.comp_roles.specs.Matching.{matches}
use Rattle.comp_roles.specs.declared.imports.Import.{Import}
use Rattle.comp_roles.specs.declared.imports.Import.TheVariants as imports
use Rattle.comp_roles.specs.declared.imports.ImportInstance.TheVariants as instances
use Rattle.comp_roles.specs.declared.exports.Export.TheVariants as exports
use Rattle.comp_roles.specs.declared.offered.ExternType.TheVariants as externs
use Rattle.comp_worlds.specs.Offered.{MemoryMatches}
use Rattle.comp_worlds.specs.WorldTables.{whole_of}
use Rattle.comp_worlds.specs.Worlds.{IsWorld}
use Rattle.comp_worlds.specs.declared.world.ComponentWorld.{ComponentWorld}
use Rattle.comp_worlds.specs.declared.world.ValidatedModule.{ValidatedModule}
use Rattle.comp_worlds.specs.declared.world.WorldAdapter.{WorldAdapter}
use Rattle.comp_links.specs.Modules.{WorldModule, adapter_module}
use Rattle.comp_links.specs.Targets.{Adapter}
use Rattle.comp_terms.specs.Terms.{IsInstanceOf}
use Rattle.comp_terms.specs.Terms as terms
use Rattle.comp_terms.specs.Planned.{IsArgumentFor}
use Rattle.comp_terms.specs.Rules.{IsBuilt}
use Rattle.link_laws.specs.Composition.{IsComposed}
use Rattle.link_laws.specs.Linking.{outcome, Links, IsLinked}
use Rattle.link_laws.proofs.BaseRoles.{no_bases}
use Rattle.link_laws.proofs.Stores.{main_module}
use Rattle.link_laws.proofs.Steps.{no_modules}
use Rattle.link_laws.proofs.Runs.{composed, links}
use Rattle.link_laws.proofs.Worked.{machine_of, plain_core, a, one_apart}
use Rattle.link_laws.proofs.WorkedApart.{functions_apart, no_keys_apart}
use Rattle.link_laws.proofs.WorkedDrops.{none_apart, not_true}

-- ---- the world

abbrev pub memory : List ℕ
memory = codes "memory"

abbrev pub env : List ℕ
env = codes "env"

abbrev pub one_page : MemoryType
one_page = record { minimum = 1; maximum = None }

abbrev pub other : List ℕ
other = codes "other"

-- main exports its memory, another one without a role, and the function g
abbrev main : ValidatedModule
main = record {
  bytes = core;
  imports = record { modules = [] };
  exports = record { exports = (memory, exports.Memory one_page) ∷ [] };
  imported = [];
  offered = (memory, externs.Memory one_page) ∷ (other, externs.Memory one_page) ∷ (g, externs.Func plain_core) ∷ [];
  metadata = record { import_encodings = []; export_encodings = [] };
}

abbrev memory_role : Import
memory_role = imports.MainModuleMemory one_page

abbrev function_role : Import
function_role = imports.MainModuleExport g kinds.Func

-- the adapter imports both, the function under the name f
abbrev adapter : WorldAdapter
adapter = record {
  info = record {
    bytes = core_preamble;
    imports = record { modules = (env, instances.Names ((memory, memory_role) ∷ (f, function_role) ∷ [])) ∷ [] };
    exports = record { exports = [] };
    imported = record { module_name = env; field = memory; ty = externs.Memory one_page } ∷ record { module_name = env; field = f; ty = externs.Func plain_core } ∷ [];
    offered = [];
    metadata = record { import_encodings = []; export_encodings = [] };
  };
  required_exports = [];
  library_info = None;
}

abbrev pub world : ComponentWorld
world = whole_of (record {
  resolve = record { interfaces = []; types = []; worlds = record { imports = []; exports = [] } ∷ [] };
  world = record { index = 0 };
  main = main;
  main_exports = [];
  adapters = (a, adapter) ∷ [];
  can_use_context_slot_1 = false;
})

two_apart : IsDistinct bytes_eq (memory ∷ f ∷ [])
unfolding IsDistinct
two_apart = ((refl, tt), (tt, tt))

memory_matches : MemoryMatches world one_page
memory_matches = record { matching = λ type e. ap (λ (t : MemoryType). matches (externs.Memory one_page) (externs.Memory t)) (sym (same_Some one_page type e)) }

is_world : IsWorld world
is_world = record {
  present = omega arith;
  imports = tt;
  exports = tt;
  import_keys_apart = no_keys_apart;
  import_names_apart = none_apart;
  export_keys_apart = no_keys_apart;
  export_names_apart = none_apart;
  exports_named = tt;
  exported_interfaces_apart = none_apart;
  main = record {
    core = refl;
    modules_apart = none_apart;
    import_roles = tt;
    own_keys = tt;
    imported = tt;
    export_roles = (tt, tt);
    exported = (record { type = externs.Memory one_page; offered = refl; fits = refl }, tt);
    required = tt;
  };
  main_first = tt;
  adapters = (
    record {
      core = refl;
      modules_apart = one_apart env;
      import_roles = ((two_apart, (memory_matches, (record { type = externs.Func plain_core; offered = refl; of_kind = refl }, tt))), tt);
      own_keys = (tt, (tt, tt));
      imported = (inl (record { role = memory_role; has_role = refl; fits = refl }), (inl (record { role = function_role; has_role = refl; fits = record { type = externs.Func plain_core; offered = refl; matching = refl } }), tt));
      export_roles = tt;
      exported = tt;
      required = tt;
    },
    tt,
  );
  adapters_apart = one_apart a;
  keys_apart = no_keys_apart;
}

-- ---- a list for it

-- a list in which the adapter is given the memory that main exports under this name
abbrev pub list_with : List ℕ → List Def
list_with given = map defs.Item (
    items.CoreModule core
    ∷ items.CoreModule core_preamble
    ∷ items.CoreInstantiate 0 []
    ∷ items.Alias (aliases.CoreExport kinds.Memory 0 given)
    ∷ items.Alias (aliases.CoreExport kinds.Func 0 g)
    ∷ items.CoreExports (record { name = memory; kind = kinds.Memory; index = 0 } ∷ record { name = f; kind = kinds.Func; index = 0 } ∷ [])
    ∷ items.CoreInstantiate 1 (record { name = env; instance = 1 } ∷ [])
    ∷ [])

abbrev pub definitions : List Def
definitions = list_with memory

abbrev pub both_made : List Answer
both_made = Gives [] 0 ∷ Gives [] 0 ∷ []

-- ---- it keeps the rules

abbrev ds : ℕ → List Def
ds n = take n definitions

abbrev pub adapter_user : WorldModule
adapter_user = adapter_module (a, adapter)

main_made : (n : ℕ) → slice_get (in_space spaces.CoreInstance (ds n)) 0 ≡ Some (defs.Item (items.CoreInstantiate 0 [])) → IsInstanceOf (ds n) 0 0
main_made n at = record { arguments = []; made = record { made = at } }

both_given : IsArgumentFor world (Adapter a) (ds 6) (record { name = env; instance = 1 }) (env, instances.Names ((memory, memory_role) ∷ (f, function_role) ∷ []))
both_given = record {
  named = refl;
  serves = record {
    entries = record { name = memory; kind = kinds.Memory; index = 0 } ∷ record { name = f; kind = kinds.Func; index = 0 } ∷ [];
    made = record { made = refl };
    each = (
      record {
        named = refl;
        serves = inl (record {
          term = terms.Exported (record { of = 0; kind = kinds.Memory; name = memory });
          is = (refl, record { instance = 0; made = record { made = refl }; of = main_made 6 refl });
          asked = (refl, refl);
        });
        supplied = record { encoding = not_true; memory = λ e. refl; realloc = λ shared needed. cc };
      },
      (
        record {
          named = refl;
          serves = inl (record {
            term = terms.Exported (record { of = 0; kind = kinds.Func; name = g });
            is = (refl, record { instance = 0; made = record { made = refl }; of = main_made 6 refl });
            asked = record { of = record { world_module = main_module world; listed = refl; same = refl }; named = refl };
          });
          supplied = record { encoding = not_true; memory = not_true; realloc = λ shared needed. cc };
        },
        tt,
      ),
    );
  };
}

keeps_the_rules : IsBuilt own_names world definitions
keeps_the_rules = record {
  generated = record { shims = None; fixup = None };
  are_generated = record { shims = refl; fixup = refl; room = omega arith; alike = no_bases world refl };
  front = definitions;
  names = [];
  whole = refl;
  right = (tt, (tt, (inl (record { of = main_module world; listed = refl; scoped = omega arith; each = tt }), (inl (record { number = 0; of = main_module world; type = externs.Memory one_page; is = main_made 3 refl; listed = refl; offered = refl; of_kind = refl }), (inl (record { number = 0; of = main_module world; type = externs.Func plain_core; is = main_made 4 refl; listed = refl; offered = refl; of_kind = refl }), (record { each = (record { scoped = omega arith }, (record { scoped = omega arith }, tt)); apart = two_apart }, (inl (record { of = adapter_user; listed = refl; scoped = omega arith; each = (both_given, tt) }), tt)))))));
  marked = refl;
  named = tt;
}

-- so it is composed as the world says, and linked at its end
pub definitions_are_composed : IsComposed own_names world no_modules definitions
unfolding keeps_the_rules
definitions_are_composed = composed own_names world definitions keeps_the_rules

pub definitions_link : Links own_names world no_modules definitions
unfolding keeps_the_rules
definitions_link = links own_names world definitions is_world (functions_apart own_names world tt) keeps_the_rules

pub definitions_are_linked : IsLinked own_names world no_modules (machine_of (outcome world no_modules definitions both_made))
definitions_are_linked = definitions_link.linked both_made (machine_of (outcome world no_modules definitions both_made)) refl
