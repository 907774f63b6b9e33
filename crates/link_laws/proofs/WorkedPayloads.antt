-- A worked example: a world whose main drops the readable end of a stream without elements, and of
-- a future without a value, by functions of one core type. A list that gives it these links. Where
-- the two are crossed, or the stream has elements, the run ends too, but the list isn't linked.
use Rattle.std.proofs.Common.{inl, ◌≡◌, ◌++◌, ℕ, Bool, true, false, List, [], ◌∷◌, refl, sym, ap, subst, Option, Some, None, map, take, true≢false, arith}
use Rattle.std.proofs.lemmas.Option.{same_Some}
use Rattle.std.specs.List.{IsDistinct}
use Rattle.std.specs.Str.{bytes_eq}
use Rattle.standard_kinds.specs.declared.kinds.ExportKind.TheVariants as kinds
use Rattle.standard_kinds.specs.declared.kinds.Primitive.TheVariants as primitives
use Rattle.comp_bytes.specs.declared.canon.Intrinsic.{Intrinsic}
use Rattle.comp_bytes.specs.declared.canon.Intrinsic.TheVariants as intrinsics
use Rattle.comp_bytes.specs.declared.types.ComponentValType.TheVariants as values
use Rattle.comp_bytes.specs.declared.types.DefinedType.{DefinedType}
use Rattle.comp_bytes.specs.declared.types.DefinedType.TheVariants as defined
use Rattle.comp_bytes.specs.declared.types.TypeDef.TheVariants as types
use Rattle.comp_bytes.specs.declared.def.CoreInlineExport.{CoreInlineExport}
use Rattle.comp_bytes.specs.declared.def.Item.TheVariants as items
use Rattle.comp_bytes.specs.declared.def.Def.{Def}
use Rattle.comp_bytes.specs.declared.def.Def.TheVariants as defs
use Rattle.core_types.specs.Core.{core_preamble}
use Rattle.core_types.specs.declared.types.FuncType.{FuncType}
use Rattle.core_types.specs.declared.types.ValType.TheVariants.{I32}
use Rattle.core_runs.specs.Store.{Opaque, Instantiated}
use Rattle.wit_data.specs.Values.{values_from}
use Rattle.wit_data.specs.declared.ids.TypeId.{TypeId}
use Rattle.comp_roles.specs.CoreTypes.{function_type}
use Rattle.comp_roles.specs.declared.imports.Import.{Import}
use Rattle.comp_roles.specs.declared.imports.Import.TheVariants as imports
use Rattle.comp_roles.specs.declared.imports.ImportInstance.TheVariants as instances
use Rattle.comp_roles.specs.declared.offered.ExternType.TheVariants as externs
use Rattle.comp_roles.specs.declared.offered.ImportType.{ImportType}
use Rattle.comp_roles.specs.declared.payloads.PayloadInfo.{PayloadInfo}
use Rattle.comp_roles.specs.declared.payloads.PayloadType.{PayloadType}
use Rattle.comp_roles.specs.declared.payloads.PayloadType.TheVariants as payloads
use Rattle.comp_worlds.specs.WorldTables.{whole_of}
use Rattle.comp_worlds.specs.Worlds.{IsWorld}
use Rattle.comp_worlds.specs.declared.world.ComponentWorld.{ComponentWorld}
use Rattle.comp_trees.specs.Trees.{Tree, Absent, PrimitiveOf, StreamOf, FutureOf, Resource}
use Rattle.comp_inventories.specs.Inventories.{inventory}
use Rattle.comp_links.specs.Naming.{own_names}
use Rattle.comp_links.specs.Targets.{Main, UnitStream, BuiltIn}
use Rattle.comp_terms.specs.Terms as terms
use Rattle.comp_terms.specs.Planned.{IsEntryFor, IsArgumentFor}
use Rattle.comp_terms.specs.Rules.{IsBuilt}
use Rattle.comp_runs.specs.Store.{CoreItem, IntrinsicOf}
use Rattle.comp_runs.specs.Machine.{Machine, Outcome}
use Rattle.link_laws.specs.Meeting.{CoreMeets, ItemIsBuiltIn, Meets}
use Rattle.link_laws.specs.Linking.{outcome, IsServed, IsLinked, Links}
use Rattle.link_laws.proofs.BaseRoles.{no_bases}
use Rattle.link_laws.proofs.Stores.{main_module}
use Rattle.link_laws.proofs.Steps.{no_modules}
use Rattle.link_laws.proofs.Runs.{links}
use Rattle.link_laws.proofs.Worked.{Ended, ended, core_function, made, machine_of, one_apart}
use Rattle.link_laws.proofs.NamedItem.{own_item}
use Rattle.link_laws.proofs.WorkedApart.{no_keys_apart, functions_apart}
use Rattle.link_laws.proofs.WorkedDrops.{none_apart, not_true}

-- ---- the world

abbrev m_name : List ℕ
m_name = 0x6d ∷ []

abbrev of_stream : List ℕ
of_stream = 0x73 ∷ []

abbrev of_future : List ℕ
of_future = 0x66 ∷ []

-- the stream or the future of the import of this field
abbrev unit : List ℕ → PayloadType → PayloadInfo
unit field type = record { name = field; ty = type; key = None; interface = None; imported = true }

abbrev drop_stream : Import
drop_stream = imports.StreamDropReadable (unit of_stream payloads.UnitStream)

abbrev drop_future : Import
drop_future = imports.FutureDropReadable (unit of_future payloads.UnitFuture)

abbrev fields : List (List ℕ × Import)
fields = (of_stream, drop_stream) ∷ (of_future, drop_future) ∷ []

abbrev of_end : FuncType
of_end = function_type (I32 ∷ []) []

-- a module that imports the two, as functions of a number
abbrev core : List ℕ
core =
    core_preamble
    ++ (0x01 ∷ 0x05 ∷ 0x01 ∷ 0x60 ∷ 0x01 ∷ 0x7f ∷ 0x00 ∷ 0x02 ∷ 0x0d ∷ 0x02 ∷ 0x01 ∷ 0x6d ∷ 0x01 ∷ 0x73 ∷ 0x00 ∷ 0x00 ∷ 0x01 ∷ 0x6d ∷ 0x01 ∷ 0x66 ∷ 0x00 ∷ 0x00 ∷ [])

abbrev world : ComponentWorld
world = whole_of (record {
  resolve = record { interfaces = []; types = []; worlds = record { imports = []; exports = [] } ∷ [] };
  world = record { index = 0 };
  main = record {
    bytes = core;
    imports = record { modules = (m_name, instances.Names fields) ∷ [] };
    exports = record { exports = [] };
    imported =
        record { module_name = m_name; field = of_stream; ty = externs.Func of_end }
        ∷ record { module_name = m_name; field = of_future; ty = externs.Func of_end }
        ∷ [];
    offered = [];
    metadata = record { import_encodings = []; export_encodings = [] };
  };
  main_exports = [];
  adapters = [];
  can_use_context_slot_1 = false;
})

fields_apart : IsDistinct bytes_eq (of_stream ∷ of_future ∷ [])
unfolding IsDistinct
fields_apart = ((refl, tt), (tt, tt))

is_world : IsWorld world
unfolding values_from
is_world = record {
  present = omega arith;
  imports = tt;
  exports = tt;
  import_keys_apart = no_keys_apart;
  import_names_apart = none_apart;
  export_keys_apart = no_keys_apart;
  export_names_apart = none_apart;
  exports_named = tt;
  exported_interfaces_apart = none_apart;
  main = record {
    core = refl;
    modules_apart = one_apart m_name;
    import_roles = ((fields_apart, (tt, (tt, tt))), tt);
    own_keys = (tt, (tt, tt));
    imported = (
      inl (record { role = drop_stream; has_role = refl; fits = refl }),
      (inl (record { role = drop_future; has_role = refl; fits = refl }), tt),
    );
    export_roles = tt;
    exported = tt;
    required = tt;
  };
  main_first = ((tt, (tt, tt)), tt);
  adapters = tt;
  adapters_apart = none_apart;
  keys_apart = no_keys_apart;
}

-- ---- a list for it, where main is given these two functions, each of a type of its own

abbrev entries : List CoreInlineExport
entries = record { name = of_stream; kind = kinds.Func; index = 0 } ∷ record { name = of_future; kind = kinds.Func; index = 1 } ∷ []

-- two types, and a function of each
abbrev list_of : (DefinedType × Intrinsic) → (DefinedType × Intrinsic) → List Def
list_of first second =
    map defs.Item (
    items.CoreModule core
    ∷ items.Type (types.Defined first.0)
    ∷ items.Intrinsic first.1
    ∷ items.Type (types.Defined second.0)
    ∷ items.Intrinsic second.1
    ∷ items.CoreExports entries
    ∷ items.CoreInstantiate 0 (record { name = m_name; instance = 0 } ∷ [])
    ∷ [])

abbrev straight : List Def
straight = list_of (defined.Stream None, intrinsics.StreamDropReadable 0) (defined.Future None, intrinsics.FutureDropReadable 1)

abbrev stream_dropped : CoreItem
stream_dropped = IntrinsicOf (intrinsics.StreamDropReadable 0) (Some (StreamOf Absent)) []

abbrev future_dropped : CoreItem
future_dropped = IntrinsicOf (intrinsics.FutureDropReadable 0) (Some (FutureOf Absent)) []

-- how running a list ends in which main is given these two
abbrev end_of : CoreItem → CoreItem → Ended
end_of first second = record {
  code = Opaque 0 of_end ∷ Opaque 1 of_end ∷ [];
  known = first ∷ second ∷ [];
  functions = [];
  users = record { module_number = 0; given = core_function 0 ∷ core_function 1 ∷ []; exports = [] } ∷ [];
  exported = [];
  events = Instantiated 0 ∷ [];
}

pub straight_ends : ended (outcome world no_modules straight made) ≡ Some (end_of stream_dropped future_dropped)
straight_ends = refl

-- ---- it keeps the rules, and so links

stream_given : IsEntryFor world Main (take 6 straight) (record { name = of_stream; kind = kinds.Func; index = 0 }) (of_stream, drop_stream)
unfolding inventory
stream_given = record {
  named = refl;
  serves = inl (record {
    term = terms.BuiltIn (intrinsics.StreamDropReadable 0) (Some (StreamOf Absent)) [];
    is = record { intrinsic = intrinsics.StreamDropReadable 0; made = record { made = refl }; named = refl; of = record { within = omega arith; tree = refl }; with_options = tt };
    asked = (refl, refl, tt);
  });
  supplied = record { encoding = not_true; memory = not_true; realloc = λ shared needed. cc };
}

future_given : IsEntryFor world Main (take 6 straight) (record { name = of_future; kind = kinds.Func; index = 1 }) (of_future, drop_future)
unfolding inventory
future_given = record {
  named = refl;
  serves = inl (record {
    term = terms.BuiltIn (intrinsics.FutureDropReadable 0) (Some (FutureOf Absent)) [];
    is = record { intrinsic = intrinsics.FutureDropReadable 1; made = record { made = refl }; named = refl; of = record { within = omega arith; tree = refl }; with_options = tt };
    asked = (refl, refl, tt);
  });
  supplied = record { encoding = not_true; memory = not_true; realloc = λ shared needed. cc };
}

both_given : IsArgumentFor world Main (take 6 straight) (record { name = m_name; instance = 0 }) (m_name, instances.Names fields)
both_given = record { named = refl; serves = record { entries = entries; made = record { made = refl }; each = (stream_given, (future_given, tt)) } }

keeps_the_rules : IsBuilt own_names world straight
unfolding inventory values_from
keeps_the_rules = record {
  generated = record { shims = None; fixup = None };
  are_generated = record { shims = refl; fixup = refl; room = omega arith; alike = no_bases world refl };
  front = straight;
  names = [];
  whole = refl;
  right = (
    tt,
    (
      refl,
      (
        record { operand = refl; options = tt },
        (
          refl,
          (
            record { operand = refl; options = tt },
            (
              record { each = (record { scoped = omega arith }, (record { scoped = omega arith }, tt)); apart = fields_apart },
              (inl (record { of = main_module world; listed = refl; scoped = omega arith; each = (both_given, tt) }), tt),
            ),
          ),
        ),
      ),
    ),
  );
  marked = refl;
  named = tt;
}

pub payloads_link : Links own_names world no_modules straight
unfolding keeps_the_rules
payloads_link = links own_names world straight is_world (functions_apart own_names world tt) keeps_the_rules

pub payloads_are_linked : IsLinked own_names world no_modules (machine_of (outcome world no_modules straight made))
payloads_are_linked = payloads_link.linked made (machine_of (outcome world no_modules straight made)) refl

-- ---- where the two are crossed, or the stream is one of bytes, the run ends, but it isn't linked

abbrev crossed : List Def
crossed = list_of (defined.Future None, intrinsics.FutureDropReadable 0) (defined.Stream None, intrinsics.StreamDropReadable 1)

abbrev with_bytes : List Def
with_bytes = list_of (defined.Stream (Some (values.Primitive primitives.U8)), intrinsics.StreamDropReadable 0) (defined.Future None, intrinsics.FutureDropReadable 1)

abbrev bytes_dropped : CoreItem
bytes_dropped = IntrinsicOf (intrinsics.StreamDropReadable 0) (Some (StreamOf (PrimitiveOf primitives.U8))) []

pub crossed_ends : ended (outcome world no_modules crossed made) ≡ Some (end_of future_dropped stream_dropped)
crossed_ends = refl

pub with_bytes_ends : ended (outcome world no_modules with_bytes made) ≡ Some (end_of bytes_dropped future_dropped)
with_bytes_ends = refl

abbrev machine : List Def → Machine
machine ds = machine_of (outcome world no_modules ds made)

abbrev DropsStream : Machine → (TypeId → Resource) → Type 0
DropsStream m origins = CoreMeets world m None 0 (ItemIsBuiltIn world m origins (intrinsics.StreamDropReadable 0) UnitStream [])

abbrev is_of_stream : Intrinsic → Bool
is_of_stream (intrinsics.StreamDropReadable type) = true
is_of_stream intrinsic = false

abbrev carries_nothing : Option Tree → Bool
carries_nothing (Some (StreamOf Absent)) = true
carries_nothing operand = false

-- function 0 drops an end of a future
no_stream : (origins : TypeId → Resource) → DropsStream (machine crossed) origins → ⊥
no_stream origins c =
    let m : Machine = machine crossed in
    true≢false (sym (ap is_of_stream (own_item world m 0 (ItemIsBuiltIn world m origins (intrinsics.StreamDropReadable 0) UnitStream []) c 0 of_end future_dropped refl refl).0))

-- function 0 drops an end of a stream of bytes
no_unit : (origins : TypeId → Resource) → DropsStream (machine with_bytes) origins → ⊥
no_unit origins c =
    let m : Machine = machine with_bytes in
    true≢false (sym (ap carries_nothing (own_item world m 0 (ItemIsBuiltIn world m origins (intrinsics.StreamDropReadable 0) UnitStream []) c 0 of_end bytes_dropped refl refl).1))

abbrev first_import : ImportType
first_import = record { module_name = m_name; field = of_stream; ty = externs.Func of_end }

first_meets : (m : Machine) (origins : TypeId → Resource) → IsServed world m origins (main_module world) (core_function 0) first_import → DropsStream m origins
first_meets m origins served =
    subst (Meets world m origins (core_function 0)) (same_Some served.target (BuiltIn (intrinsics.StreamDropReadable 0) UnitStream []) (sym served.said)) served.meets

pub crossed_is_not_linked : IsLinked own_names world no_modules (machine crossed) → ⊥
crossed_is_not_linked l = no_stream l.origins (first_meets (machine crossed) l.origins (l.imports.each 0 _ _ refl refl).0)

pub bytes_are_not_linked : IsLinked own_names world no_modules (machine with_bytes) → ⊥
bytes_are_not_linked l = no_unit l.origins (first_meets (machine with_bytes) l.origins (l.imports.each 0 _ _ refl refl).0)

pub crossed_does_not_link : Links own_names world no_modules crossed → ⊥
crossed_does_not_link l = crossed_is_not_linked (l.linked made (machine crossed) refl)

pub bytes_do_not_link : Links own_names world no_modules with_bytes → ⊥
bytes_do_not_link l = bytes_are_not_linked (l.linked made (machine with_bytes) refl)
