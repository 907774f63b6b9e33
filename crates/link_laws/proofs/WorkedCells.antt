-- A worked example: a world whose main reads the thread-local base, and whose adapter sets it. A list that gives them
-- the two functions of one cell. With a module of shims whose functions have a cell each the list runs too, but doesn't
-- link.
use Rattle.std.proofs.Common.{inl, inr, ◌≡◌, ◌<◌, ◌∙◌, ℕ, zero, suc, pos, true, false, List, [], ◌∷◌, refl, sym, ap, Some, None, map, take, arith, Contains}
use Rattle.std.specs.Fmt.{digits}
use Rattle.std.specs.List.{slice_get, flat_map}
use Rattle.standard_kinds.specs.declared.kinds.ExportKind.TheVariants as kinds
use Rattle.byte_encoding.specs.Encoding.{leb128}
use Rattle.comp_bytes.proofs.Worked.{g, core}
use Rattle.comp_bytes.specs.ItemIndices.{in_space}
use Rattle.comp_bytes.specs.declared.space.Space.TheVariants as spaces
use Rattle.comp_bytes.specs.declared.types.Alias.TheVariants as aliases
use Rattle.comp_bytes.specs.declared.def.Item.TheVariants as items
use Rattle.comp_bytes.specs.declared.def.Def.{Def}
use Rattle.comp_bytes.specs.declared.def.Def.TheVariants as defs
use Rattle.core_bytes.specs.Modules.{Encodes, encoding_of}
use Rattle.core_bytes.specs.Signed.{signed_within}
use Rattle.core_bytes.specs.declared.code.Body.{Body}
use Rattle.core_bytes.specs.declared.entity.ConstExpr.TheVariants as constants
use Rattle.core_bytes.specs.declared.entry.DefinedGlobal.{DefinedGlobal}
use Rattle.core_bytes.specs.declared.section.Section.{Section}
use Rattle.core_bytes.specs.declared.section.Section.TheVariants as sections
use Rattle.core_types.specs.Core.{core_preamble}
use Rattle.core_types.specs.declared.types.ValType.TheVariants.{I32}
use Rattle.core_runs.specs.Bodies.{tls_get, tls_set}
use Rattle.core_runs.specs.Cells.{Get, Set, getter_type, setter_type, tls_calls}
use Rattle.core_runs.specs.Execution.{exec, acts}
use Rattle.core_runs.specs.Store.{Answer, Gives, Returned, Outcome as CoreOutcome}
use Rattle.core_runs.specs.Values.{Value, I32Value}
use Rattle.shim_modules.specs.Shims.{getter_name, setter_name}
use Rattle.wit_data.specs.Values.{values_from}
use Rattle.comp_roles.specs.CoreImports.{CoreImport}
use Rattle.comp_roles.specs.declared.imports.Import.{Import}
use Rattle.comp_roles.specs.declared.imports.Import.TheVariants as imports
use Rattle.comp_roles.specs.declared.imports.ImportInstance.TheVariants as instances
use Rattle.comp_roles.specs.declared.offered.ExternType.{ExternType}
use Rattle.comp_roles.specs.declared.offered.ExternType.TheVariants as externs
use Rattle.comp_worlds.specs.Bases.{base_of_role, cell_imports, cell_type, AreBasesAlike}
use Rattle.comp_worlds.specs.WorldTables.{whole_of}
use Rattle.comp_worlds.specs.Worlds.{IsWorld}
use Rattle.comp_worlds.specs.declared.world.ComponentWorld.{ComponentWorld}
use Rattle.comp_worlds.specs.declared.world.ValidatedModule.{ValidatedModule}
use Rattle.comp_links.specs.Modules.{WorldModule, adapter_module}
use Rattle.comp_links.specs.Naming.{own_names}
use Rattle.comp_links.specs.Targets.{Main, Adapter}
use Rattle.comp_terms.specs.Generated.{GeneratedBytes, AreGenerated}
use Rattle.comp_terms.specs.Planned.{cell_export, IsArgumentFor}
use Rattle.comp_terms.specs.Rules.{IsBuilt}
use Rattle.comp_terms.specs.Terms.{IsInstanceOf}
use Rattle.comp_terms.specs.Terms as terms
use Rattle.comp_runs.specs.Machine.{Machine}
use Rattle.link_laws.specs.Composition.{GeneratedModules}
use Rattle.link_laws.specs.Linking.{outcome, IsAlone, IsLinked, Links}
use Rattle.link_laws.proofs.Stores.{main_module}
use Rattle.link_laws.proofs.Runs.{links}
use Rattle.link_laws.proofs.Worked.{machine_of, one_apart, a}
use Rattle.link_laws.proofs.WorkedApart.{no_keys_apart, functions_apart}
use Rattle.link_laws.proofs.WorkedDrops.{none_apart, not_true}
use Rattle.link_laws.proofs.WorkedTexts.{all_below}

-- ---- the world

abbrev m_name : List ℕ
m_name = 0x6d ∷ []

abbrev s : List ℕ
s = 0x73 ∷ []

-- a module that imports one function from m
abbrev importing : List ℕ → List ℕ → Import → ExternType → ValidatedModule
importing bytes field role type = record {
  bytes = bytes;
  imports = record { modules = (m_name, instances.Names ((field, role) ∷ [])) ∷ [] };
  exports = record { exports = [] };
  imported = record { module_name = m_name; field = field; ty = type } ∷ [];
  offered = [];
  metadata = record { import_encodings = []; export_encodings = [] };
}

abbrev world : ComponentWorld
world = whole_of (record {
  resolve = record { interfaces = []; types = []; worlds = record { imports = []; exports = [] } ∷ [] };
  world = record { index = 0 };
  main = importing core g (imports.TlsBaseGet I32) (externs.Func (getter_type I32));
  main_exports = [];
  adapters = (a, record { info = importing core_preamble s (imports.TlsBaseSet I32) (externs.Func (setter_type I32)); required_exports = []; library_info = None }) ∷ [];
  can_use_context_slot_1 = false;
})

is_world : IsWorld world
unfolding values_from
is_world = record {
  present = omega arith;
  imports = tt;
  exports = tt;
  import_keys_apart = no_keys_apart;
  import_names_apart = none_apart;
  export_keys_apart = no_keys_apart;
  export_names_apart = none_apart;
  exports_named = tt;
  exported_interfaces_apart = none_apart;
  main = record {
    core = refl;
    modules_apart = one_apart m_name;
    import_roles = ((one_apart g, (refl, tt)), tt);
    own_keys = (tt, tt);
    imported = (inl (record { role = imports.TlsBaseGet I32; has_role = refl; fits = refl }), tt);
    export_roles = tt;
    exported = tt;
    required = tt;
  };
  main_first = ((tt, tt), tt);
  adapters = (
    record {
      core = refl;
      modules_apart = one_apart m_name;
      import_roles = ((one_apart s, (refl, tt)), tt);
      own_keys = (tt, tt);
      imported = (inl (record { role = imports.TlsBaseSet I32; has_role = refl; fits = refl }), tt);
      export_roles = tt;
      exported = tt;
      required = tt;
    },
    tt,
  );
  adapters_apart = one_apart a;
  keys_apart = no_keys_apart;
}

-- both bases are of 32 bits
alike : AreBasesAlike world
alike type h = by h.given h.base h.present
  where
    by : (i : CoreImport) → base_of_role i.role ≡ Some type → Contains (cell_imports world) i → cell_type world ≡ Some type
    by i base (zero, l, e) = ap (λ (x : CoreImport). base_of_role x.role) e ∙ base
    by i base (suc zero, l, e) = ap (λ (x : CoreImport). base_of_role x.role) e ∙ base
    by i base (suc (suc k), l, e) = let below : suc (suc k) < 2 = l in absurd (omega (arith, below))

-- ---- its module of shims

abbrev zero_global : DefinedGlobal
zero_global = record { global_type = record { val_type = I32; mutable = true }; init = constants.I32 (pos 0) }

-- with these globals, and functions of these bodies
abbrev with_cells : List DefinedGlobal → Body → Body → List Section
with_cells globals getter setter =
    sections.Types (getter_type I32 ∷ setter_type I32 ∷ [])
    ∷ sections.Functions (0 ∷ 1 ∷ [])
    ∷ sections.Globals globals
    ∷ sections.Exports (record { name = getter_name; kind = kinds.Func; index = 0 } ∷ record { name = setter_name; kind = kinds.Func; index = 1 } ∷ [])
    ∷ sections.Code (getter ∷ setter ∷ [])
    ∷ []

abbrev cell_module : List Section
cell_module = with_cells (zero_global ∷ []) (tls_get 0) (tls_set 0)

abbrev one : GeneratedModules
one = record { shims = Some cell_module; fixup = None }

abbrev shims_bytes : List ℕ
shims_bytes = (encoding_of cell_module).bytes

abbrev bytes : GeneratedBytes
bytes = record { shims = Some shims_bytes; fixup = None }

shims_encoded : Encodes shims_bytes cell_module
unfolding leb128 signed_within
shims_encoded = (all_below (encoding_of cell_module).counts refl, refl)

unfoldable are_generated : AreGenerated world false bytes
unfolding values_from digits
are_generated = record { shims = (shims_encoded, refl); fixup = refl; room = omega arith; alike = alike }

-- ---- a list for the world, where each module is given its function of the cell

abbrev definitions : List Def
definitions = map defs.Item (
    items.CoreModule core
    ∷ items.CoreModule core_preamble
    ∷ items.CoreModule shims_bytes
    ∷ items.CoreInstantiate 2 []
    ∷ items.Alias (aliases.CoreExport kinds.Func 0 getter_name)
    ∷ items.CoreExports (record { name = g; kind = kinds.Func; index = 0 } ∷ [])
    ∷ items.CoreInstantiate 0 (record { name = m_name; instance = 1 } ∷ [])
    ∷ items.Alias (aliases.CoreExport kinds.Func 0 setter_name)
    ∷ items.CoreExports (record { name = s; kind = kinds.Func; index = 1 } ∷ [])
    ∷ items.CoreInstantiate 1 (record { name = m_name; instance = 3 } ∷ [])
    ∷ [])

abbrev ds : ℕ → List Def
ds n = take n definitions

abbrev adapter_user : WorldModule
adapter_user = adapter_module (a, record { info = importing core_preamble s (imports.TlsBaseSet I32) (externs.Func (setter_type I32)); required_exports = []; library_info = None })

shims_there : (n : ℕ) → slice_get (in_space spaces.CoreInstance (ds n)) 0 ≡ Some (defs.Item (items.CoreInstantiate 2 [])) → IsInstanceOf (ds n) 0 2
shims_there n at = record { arguments = []; made = record { made = at } }

getter_given : IsArgumentFor world Main (ds 6) (record { name = m_name; instance = 1 }) (m_name, instances.Names ((g, imports.TlsBaseGet I32) ∷ []))
getter_given = record {
  named = refl;
  serves = record {
    entries = record { name = g; kind = kinds.Func; index = 0 } ∷ [];
    made = record { made = refl };
    each = (
      record {
        named = refl;
        serves = inl (record { term = terms.Exported (cell_export world getter_name); is = (refl, record { instance = 0; made = record { made = refl }; of = shims_there 6 refl }); asked = refl });
        supplied = record { encoding = not_true; memory = not_true; realloc = λ shared needed. cc };
      },
      tt,
    );
  };
}

setter_given : IsArgumentFor world (Adapter a) (ds 9) (record { name = m_name; instance = 3 }) (m_name, instances.Names ((s, imports.TlsBaseSet I32) ∷ []))
setter_given = record {
  named = refl;
  serves = record {
    entries = record { name = s; kind = kinds.Func; index = 1 } ∷ [];
    made = record { made = refl };
    each = (
      record {
        named = refl;
        serves = inl (record { term = terms.Exported (cell_export world setter_name); is = (refl, record { instance = 0; made = record { made = refl }; of = shims_there 9 refl }); asked = refl });
        supplied = record { encoding = not_true; memory = not_true; realloc = λ shared needed. cc };
      },
      tt,
    );
  };
}

keeps_the_rules : IsBuilt own_names world definitions
unfolding values_from
keeps_the_rules = record {
  generated = bytes;
  are_generated = are_generated;
  front = definitions;
  names = [];
  whole = refl;
  right = (
    tt,
    (
      tt,
      (
        tt,
        (
          inr (inl (record { numbered = refl; any = refl; scoped = omega arith; first = refl; closed = refl })),
          (
            inr (inr (inr (record { is = shims_there 4 refl; there = refl; named = inl refl; function = refl }))),
            (
              record { each = (record { scoped = omega arith }, tt); apart = one_apart g },
              (
                inl (record { of = main_module world; listed = refl; scoped = omega arith; each = (getter_given, tt) }),
                (
                  inr (inr (inr (record { is = shims_there 7 refl; there = refl; named = inr refl; function = refl }))),
                  (
                    record { each = (record { scoped = omega arith }, tt); apart = one_apart s },
                    (inl (record { of = adapter_user; listed = refl; scoped = omega arith; each = (setter_given, tt) }), tt),
                  ),
                ),
              ),
            ),
          ),
        ),
      ),
    ),
  );
  marked = refl;
  named = tt;
}

pub cells_link : Links own_names world one definitions
unfolding keeps_the_rules are_generated values_from digits
cells_link = links own_names world definitions is_world (functions_apart own_names world tt) keeps_the_rules

-- ---- how it runs

-- the outside instantiates both modules
abbrev both_made : List Answer
both_made = Gives [] 0 ∷ Gives [] 0 ∷ []

abbrev end_of : GeneratedModules → Machine
end_of generated = machine_of (outcome world generated definitions both_made)

pub cells_are_linked : IsLinked own_names world one (end_of one)
cells_are_linked = cells_link.linked both_made (end_of one) refl

-- what main reads before and after the adapter sets the base to 7
abbrev results_of : CoreOutcome → List Value
results_of (Returned values now) = values
results_of outcome = []

abbrev read_set_read : Machine → List Value
read_set_read m = results_of (tls_calls m.store.code (Get 0 ∷ Set 1 (I32Value 7) ∷ Get 0 ∷ []) m.now (λ replies last. Returned (flat_map (λ values. values) replies) last))

pub one_cell : read_set_read (end_of one) ≡ I32Value 0 ∷ I32Value 7 ∷ []
unfolding acts exec
one_cell = refl

-- ---- where each function has a cell of its own, the run ends too, but the list doesn't link

abbrev two : GeneratedModules
two = record { shims = Some (with_cells (zero_global ∷ zero_global ∷ []) (tls_get 0) (tls_set 1)); fixup = None }

pub two_cells : read_set_read (end_of two) ≡ I32Value 0 ∷ I32Value 0 ∷ []
unfolding acts exec
two_cells = refl

pub apart_does_not_link : Links own_names world two definitions → ⊥
apart_does_not_link l =
    let alone : IsAlone (end_of two).now.globals l.one_base.cell = l.one_base.at_end both_made (end_of two) refl in
    let first : 0 ≡ l.one_base.cell = alone 0 I32 _ refl tt in
    let second : 1 ≡ l.one_base.cell = alone 1 I32 _ refl tt in
    let same : 0 ≡ 1 = first ∙ sym second in
    absurd (omega (arith, same))
