-- A worked example: a world whose main imports two built-in functions of one core type,
-- `backpressure.inc` and `backpressure.dec`. A list that gives it these links. Where the two are
-- crossed the run ends too, but the list isn't linked.
use Rattle.std.proofs.Common.{inl, ◌≡◌, ◌∙◌, ◌++◌, ℕ, Bool, true, false, List, [], ◌∷◌, refl, sym, ap, subst, Some, None, map, take, true≢false, arith}
use Rattle.std.proofs.lemmas.Option.{same_Some}
use Rattle.std.specs.Prelude.{codes}
use Rattle.std.specs.List.{IsDistinct}
use Rattle.std.specs.Str.{bytes_eq}
use Rattle.standard_kinds.specs.declared.kinds.ExportKind.TheVariants as kinds
use Rattle.comp_bytes.specs.declared.canon.Intrinsic.{Intrinsic}
use Rattle.comp_bytes.specs.declared.canon.Intrinsic.TheVariants as intrinsics
use Rattle.comp_bytes.specs.declared.def.CoreInlineExport.{CoreInlineExport}
use Rattle.comp_bytes.specs.declared.def.Item.TheVariants as items
use Rattle.comp_bytes.specs.declared.def.Def.{Def}
use Rattle.comp_bytes.specs.declared.def.Def.TheVariants as defs
use Rattle.core_types.specs.Core.{core_preamble}
use Rattle.core_types.specs.declared.types.FuncType.{FuncType}
use Rattle.core_runs.specs.Store.{Opaque, Instantiated}
use Rattle.wit_data.specs.Values.{values_from}
use Rattle.wit_data.specs.declared.ids.TypeId.{TypeId}
use Rattle.comp_roles.specs.CoreTypes.{function_type}
use Rattle.comp_roles.specs.declared.imports.Import.{Import}
use Rattle.comp_roles.specs.declared.imports.Import.TheVariants as imports
use Rattle.comp_roles.specs.declared.imports.ImportInstance.TheVariants as instances
use Rattle.comp_roles.specs.declared.offered.ExternType.{ExternType}
use Rattle.comp_roles.specs.declared.offered.ExternType.TheVariants as externs
use Rattle.comp_roles.specs.declared.offered.ImportType.{ImportType}
use Rattle.comp_worlds.specs.WorldTables.{whole_of}
use Rattle.comp_worlds.specs.Worlds.{IsWorld}
use Rattle.comp_worlds.specs.declared.world.ComponentWorld.{ComponentWorld}
use Rattle.comp_trees.specs.Trees.{Resource}
use Rattle.comp_links.specs.Naming.{own_names}
use Rattle.comp_links.specs.Targets.{Main, NoType, BuiltIn}
use Rattle.comp_terms.specs.Terms as terms
use Rattle.comp_terms.specs.Planned.{IsEntryFor, IsArgumentFor}
use Rattle.comp_terms.specs.Rules.{IsBuilt}
use Rattle.comp_runs.specs.Store.{CoreItem, IntrinsicOf}
use Rattle.comp_runs.specs.Machine.{Machine, Outcome}
use Rattle.link_laws.specs.Meeting.{CoreMeets, ItemIsBuiltIn, Meets}
use Rattle.link_laws.specs.Linking.{outcome, IsServed, IsLinked, Links}
use Rattle.link_laws.proofs.BaseRoles.{no_bases}
use Rattle.link_laws.proofs.Stores.{main_module}
use Rattle.link_laws.proofs.Steps.{no_modules}
use Rattle.link_laws.proofs.Runs.{links}
use Rattle.link_laws.proofs.Worked.{Ended, ended, core_function, made, machine_of, one_apart}
use Rattle.link_laws.proofs.NamedItem.{own_item}
use Rattle.link_laws.proofs.WorkedApart.{no_keys_apart, functions_apart}
use Rattle.link_laws.proofs.WorkedDrops.{none_apart, not_true}

-- ---- the world

abbrev m_name : List ℕ
m_name = 0x6d ∷ []

abbrev inc : List ℕ
inc = 0x69 ∷ []

abbrev dec : List ℕ
dec = 0x64 ∷ []

abbrev fields : List (List ℕ × Import)
fields = (inc, imports.BackpressureInc) ∷ (dec, imports.BackpressureDec) ∷ []

abbrev plain : FuncType
plain = function_type [] []

-- a module that imports the two, as functions of nothing
abbrev core : List ℕ
core =
    core_preamble
    ++ (0x01 ∷ 0x04 ∷ 0x01 ∷ 0x60 ∷ 0x00 ∷ 0x00 ∷ 0x02 ∷ 0x0d ∷ 0x02 ∷ 0x01 ∷ 0x6d ∷ 0x01 ∷ 0x69 ∷ 0x00 ∷ 0x00 ∷ 0x01 ∷ 0x6d ∷ 0x01 ∷ 0x64 ∷ 0x00 ∷ 0x00 ∷ [])

abbrev world : ComponentWorld
world = whole_of (record {
  resolve = record { interfaces = []; types = []; worlds = record { imports = []; exports = [] } ∷ [] };
  world = record { index = 0 };
  main = record {
    bytes = core;
    imports = record { modules = (m_name, instances.Names fields) ∷ [] };
    exports = record { exports = [] };
    imported =
        record { module_name = m_name; field = inc; ty = externs.Func plain }
        ∷ record { module_name = m_name; field = dec; ty = externs.Func plain }
        ∷ [];
    offered = [];
    metadata = record { import_encodings = []; export_encodings = [] };
  };
  main_exports = [];
  adapters = [];
  can_use_context_slot_1 = false;
})

fields_apart : IsDistinct bytes_eq (inc ∷ dec ∷ [])
unfolding IsDistinct
fields_apart = ((refl, tt), (tt, tt))

is_world : IsWorld world
unfolding values_from
is_world = record {
  present = omega arith;
  imports = tt;
  exports = tt;
  import_keys_apart = no_keys_apart;
  import_names_apart = none_apart;
  export_keys_apart = no_keys_apart;
  export_names_apart = none_apart;
  exports_named = tt;
  exported_interfaces_apart = none_apart;
  main = record {
    core = refl;
    modules_apart = one_apart m_name;
    import_roles = ((fields_apart, (refl, (refl, tt))), tt);
    own_keys = (tt, (tt, tt));
    imported = (
      inl (record { role = imports.BackpressureInc; has_role = refl; fits = refl }),
      (inl (record { role = imports.BackpressureDec; has_role = refl; fits = refl }), tt),
    );
    export_roles = tt;
    exported = tt;
    required = tt;
  };
  main_first = ((tt, (tt, tt)), tt);
  adapters = tt;
  adapters_apart = none_apart;
  keys_apart = no_keys_apart;
}

-- ---- a list for it, where main is given these two functions

abbrev entries : List CoreInlineExport
entries = record { name = inc; kind = kinds.Func; index = 0 } ∷ record { name = dec; kind = kinds.Func; index = 1 } ∷ []

abbrev list_of : Intrinsic → Intrinsic → List Def
list_of first second =
    map defs.Item (
    items.CoreModule core
    ∷ items.Intrinsic first
    ∷ items.Intrinsic second
    ∷ items.CoreExports entries
    ∷ items.CoreInstantiate 0 (record { name = m_name; instance = 0 } ∷ [])
    ∷ [])

abbrev straight : List Def
straight = list_of intrinsics.BackpressureInc intrinsics.BackpressureDec

-- how running it ends
abbrev end_of : Intrinsic → Intrinsic → Ended
end_of first second = record {
  code = Opaque 0 plain ∷ Opaque 1 plain ∷ [];
  known = IntrinsicOf first None [] ∷ IntrinsicOf second None [] ∷ [];
  functions = [];
  users = record { module_number = 0; given = core_function 0 ∷ core_function 1 ∷ []; exports = [] } ∷ [];
  exported = [];
  events = Instantiated 0 ∷ [];
}

pub straight_ends : ended (outcome world no_modules straight made) ≡ Some (end_of intrinsics.BackpressureInc intrinsics.BackpressureDec)
straight_ends = refl

-- ---- it keeps the rules, and so links

inc_given : IsEntryFor world Main (take 4 straight) (record { name = inc; kind = kinds.Func; index = 0 }) (inc, imports.BackpressureInc)
inc_given = record {
  named = refl;
  serves = inl (record { term = terms.BuiltIn intrinsics.BackpressureInc None []; is = record { intrinsic = intrinsics.BackpressureInc; made = record { made = refl }; named = refl; of = tt; with_options = tt }; asked = (refl, refl, tt) });
  supplied = record { encoding = not_true; memory = not_true; realloc = λ shared needed. cc };
}

dec_given : IsEntryFor world Main (take 4 straight) (record { name = dec; kind = kinds.Func; index = 1 }) (dec, imports.BackpressureDec)
dec_given = record {
  named = refl;
  serves = inl (record { term = terms.BuiltIn intrinsics.BackpressureDec None []; is = record { intrinsic = intrinsics.BackpressureDec; made = record { made = refl }; named = refl; of = tt; with_options = tt }; asked = (refl, refl, tt) });
  supplied = record { encoding = not_true; memory = not_true; realloc = λ shared needed. cc };
}

both_given : IsArgumentFor world Main (take 4 straight) (record { name = m_name; instance = 0 }) (m_name, instances.Names fields)
both_given = record { named = refl; serves = record { entries = entries; made = record { made = refl }; each = (inc_given, (dec_given, tt)) } }

keeps_the_rules : IsBuilt own_names world straight
unfolding values_from
keeps_the_rules = record {
  generated = record { shims = None; fixup = None };
  are_generated = record { shims = refl; fixup = refl; room = omega arith; alike = no_bases world refl };
  front = straight;
  names = [];
  whole = refl;
  right = (
    tt,
    (
      record { operand = refl; options = tt },
      (
        record { operand = refl; options = tt },
        (
          record { each = (record { scoped = omega arith }, (record { scoped = omega arith }, tt)); apart = fields_apart },
          (inl (record { of = main_module world; listed = refl; scoped = omega arith; each = (both_given, tt) }), tt),
        ),
      ),
    ),
  );
  marked = refl;
  named = tt;
}

pub built_ins_link : Links own_names world no_modules straight
unfolding keeps_the_rules
built_ins_link = links own_names world straight is_world (functions_apart own_names world tt) keeps_the_rules

pub built_ins_are_linked : IsLinked own_names world no_modules (machine_of (outcome world no_modules straight made))
built_ins_are_linked = built_ins_link.linked made (machine_of (outcome world no_modules straight made)) refl

-- ---- where the two are crossed, the run ends, but it isn't linked

abbrev crossed : Outcome
crossed = outcome world no_modules (list_of intrinsics.BackpressureDec intrinsics.BackpressureInc) made

pub crossed_ends : ended crossed ≡ Some (end_of intrinsics.BackpressureDec intrinsics.BackpressureInc)
crossed_ends = refl

abbrev m : Machine
m = machine_of crossed

abbrev increments : Intrinsic → Bool
increments intrinsics.BackpressureInc = true
increments intrinsic = false

-- function 0 decrements
no_inc : (origins : TypeId → Resource) → CoreMeets world m None 0 (ItemIsBuiltIn world m origins intrinsics.BackpressureInc NoType []) → ⊥
no_inc origins c =
    true≢false (sym (ap increments (own_item world m 0 (ItemIsBuiltIn world m origins intrinsics.BackpressureInc NoType []) c 0 plain (IntrinsicOf intrinsics.BackpressureDec None []) refl refl).0))

abbrev first_import : ImportType
first_import = record { module_name = m_name; field = inc; ty = externs.Func plain }

first_meets : (origins : TypeId → Resource) → IsServed world m origins (main_module world) (core_function 0) first_import →
    CoreMeets world m None 0 (ItemIsBuiltIn world m origins intrinsics.BackpressureInc NoType [])
first_meets origins served = subst (Meets world m origins (core_function 0)) (same_Some served.target (BuiltIn intrinsics.BackpressureInc NoType []) (sym served.said)) served.meets

pub crossed_is_not_linked : IsLinked own_names world no_modules m → ⊥
crossed_is_not_linked l = no_inc l.origins (first_meets l.origins (l.imports.each 0 _ _ refl refl).0)

pub crossed_does_not_link : Links own_names world no_modules (list_of intrinsics.BackpressureDec intrinsics.BackpressureInc) → ⊥
crossed_does_not_link l = crossed_is_not_linked (l.linked made m refl)
