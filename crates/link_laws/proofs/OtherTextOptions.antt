-- A worked example: the list with a lowering of a function of a text runs to its end also where
-- that lowering has no memory, or another encoding, but then it isn't linked.
use Rattle.comp_links.specs.Naming.{own_names}
use Rattle.std.proofs.Common.{◌≡◌, Bool, true, false, true≢false, List, [], ◌∷◌, refl, sym, ap, subst, Option, Some, None, arith}
use Rattle.std.proofs.lemmas.Option.{same_Some}
use Rattle.std.specs.List.{slice_get}
use Rattle.standard_kinds.specs.declared.kinds.StringEncoding.{StringEncoding}
use Rattle.standard_kinds.specs.declared.kinds.StringEncoding.TheVariants as encodings
use Rattle.comp_bytes.proofs.Worked.{f, root}
use Rattle.comp_bytes.specs.declared.canon.CanonicalOption.{CanonicalOption}
use Rattle.comp_bytes.specs.declared.canon.CanonicalOption.TheVariants as canonical
use Rattle.comp_bytes.specs.declared.space.Space.TheVariants as spaces
use Rattle.core_bytes.proofs.Worked.{zero_text, imports_text}
use Rattle.core_bytes.specs.declared.code.Body.{Body}
use Rattle.core_runs.specs.Bodies.{table_shim}
use Rattle.core_runs.specs.declared.bracket.AfterHook.TheVariants.{Nothing}
use Rattle.core_runs.specs.Hooks.{around}
use Rattle.core_runs.specs.Values.{Value, fit}
use Rattle.core_runs.specs.Store.{Store as CodeStore, Frame, Generated, Opaque, Now, Instantiated}
use Rattle.core_runs.specs.Execution.{exec, acts}
use Rattle.core_runs.specs.Expected.{Known, expected}
use Rattle.wit_data.specs.Values.{values_from}
use Rattle.wit_data.specs.declared.ids.TypeId.{TypeId}
use Rattle.comp_roles.specs.declared.offered.ExternType.TheVariants as externs
use Rattle.comp_roles.specs.declared.offered.ImportType.{ImportType}
use Rattle.comp_trees.specs.Trees.{Resource}
use Rattle.comp_links.specs.Targets.{OfRoot, Lowered}
use Rattle.comp_runs.specs.Store.{HeldOption, HeldEncoding, HeldMemory, Lowering, Imported, ModuleInstance}
use Rattle.comp_runs.specs.Machine.{Machine, Outcome}
use Rattle.shim_runs.specs.ShimRuns.{IsShimAt}
use Rattle.shim_runs.proofs.Acting.{filled_shims_forward}
use Rattle.link_laws.specs.Meeting.{CoreMeets, ItemIsLowering, Meets, MeetOptions}
use Rattle.link_laws.specs.Linking.{outcome, IsServed, IsLinked}
use Rattle.link_laws.proofs.Stores.{main_module}
use Rattle.link_laws.proofs.NamedItem.{traps_next, named_item}
use Rattle.link_laws.proofs.Worked.{made, machine_of, root_import, core_function, core_export}
use Rattle.link_laws.proofs.WorkedShims.{Ended, ended, table_at}
use Rattle.link_laws.proofs.WorkedTexts.{memory, memory_type, f_core, world, named_options, generated, lowering, right_options}
use Rattle.link_laws.proofs.WorkedTextsLinked.{f_tree}

-- ---- how the list runs

abbrev frame : Frame
frame = record { types = f_core ∷ []; functions = 0 ∷ []; tables = 0 ∷ []; globals = []; memories = [] }

abbrev shim_body : Body
shim_body = table_shim 2 0 0

-- the shim, and what is in its slot
abbrev code : CodeStore
code = record { functions = Generated frame f_core shim_body.locals shim_body.instructions ∷ Opaque 0 f_core ∷ []; tables = (Some 1 ∷ []) ∷ []; memories = memory_type ∷ [] }

abbrev shims_instance : ModuleInstance
shims_instance = record { module_number = 1; given = []; exports = core_export zero_text 0 ∷ record { space = spaces.CoreTable; name = imports_text; address = 0 } ∷ [] }

abbrev main_instance : ModuleInstance
main_instance = record { module_number = 0; given = core_function 0 ∷ []; exports = record { space = spaces.CoreMemory; name = memory; address = 0 } ∷ [] }

abbrev fixup_instance : ModuleInstance
fixup_instance = record { module_number = 2; given = core_function 1 ∷ table_at 0 ∷ []; exports = [] }

-- the end, where the lowering has these options
abbrev end_with : List HeldOption → Option Ended
end_with held = Some (record {
  code = code;
  known = Lowering 0 held ∷ [];
  functions = Imported (root_import 0) f_tree ∷ [];
  instances = shims_instance ∷ main_instance ∷ fixup_instance ∷ [];
  events = Instantiated 0 ∷ [];
})

abbrev end_of : List CanonicalOption → Outcome
end_of options = outcome world generated (lowering options) made

abbrev no_memory : List CanonicalOption
no_memory = canonical.Utf8 ∷ []

abbrev other_encoding : List CanonicalOption
other_encoding = canonical.Memory 0 ∷ canonical.Utf16 ∷ []

pub right_options_end : ended (end_of right_options) ≡ end_with (HeldMemory 0 ∷ HeldEncoding encodings.UTF8 ∷ [])
right_options_end = refl

pub no_memory_ends : ended (end_of no_memory) ≡ end_with (HeldEncoding encodings.UTF8 ∷ [])
no_memory_ends = refl

pub other_encoding_ends : ended (end_of other_encoding) ≡ end_with (HeldMemory 0 ∷ HeldEncoding encodings.UTF16 ∷ [])
other_encoding_ends = refl

-- ---- what a list that is linked has

abbrev own : Known
own = record { address = 1; signature = f_core }

-- a call of the shim is one call of the lowering
shim_at_0 : IsShimAt code 0 0 0 f_core
shim_at_0 = record { frame = frame; index = 0; body = refl; typed = refl; table_is = refl }

of_no_type : (arguments : List Value) (now : Now) → fit f_core.params arguments ≡ false → acts code 0 arguments now ≡ expected (around None Nothing) 0 own arguments now
unfolding acts exec
of_no_type arguments now e = rw e refl

calls : (arguments : List Value) (now : Now) → acts code 0 arguments now ≡ expected (around None Nothing) 0 own arguments now
calls arguments now = by (fit f_core.params arguments) refl
  where
    by : (b : Bool) → fit f_core.params arguments ≡ b → acts code 0 arguments now ≡ expected (around None Nothing) 0 own arguments now
    by true e = filled_shims_forward code 0 0 0 f_core (Some 1 ∷ []) 1 0 0 shim_at_0 refl refl refl (omega arith) arguments now e
    by false e = of_no_type arguments now e

abbrev only_import : ImportType
only_import = record { module_name = root; field = f; ty = externs.Func f_core }

module _ (m : Machine) where
  only_meets : (origins : TypeId → Resource) → IsServed world m origins (main_module world) (core_function 0) only_import → CoreMeets world m None 0 (ItemIsLowering world m origins (OfRoot f) named_options)
  unfolding values_from
  only_meets origins s = subst (Meets world m origins (core_function 0)) (same_Some s.target (Lowered (OfRoot f) named_options) (sym s.said)) s.meets

  -- the options of the lowering are those that the link table names
  options_meet : (held : List HeldOption) → m.store.code ≡ code → slice_get m.store.known 0 ≡ Some (Lowering 0 held) → slice_get m.store.module_instances 1 ≡ Some main_instance → IsLinked own_names world generated m → MeetOptions world m held named_options
  options_meet held same known main l =
      (named_item world m 0 (ItemIsLowering world m l.origins (OfRoot f) named_options) (only_meets l.origins (l.imports.each 1 main_instance (main_module world) main refl).0) own 0 (Lowering 0 held)
      (ap (λ (c : CodeStore). slice_get c.functions 1) same)
      known
      (λ arguments. subst (λ c. acts c 0 arguments (traps_next m) ≡ expected (around None Nothing) 0 own arguments (traps_next m)) (sym same) (calls arguments (traps_next m)))).1

-- ---- with other options it isn't linked

pub no_memory_is_not_linked : IsLinked own_names world generated (machine_of (end_of no_memory)) → ⊥
no_memory_is_not_linked l = (options_meet (machine_of (end_of no_memory)) (HeldEncoding encodings.UTF8 ∷ []) refl refl refl l).0

abbrev is_utf8 : StringEncoding → Bool
is_utf8 encodings.UTF8 = true
is_utf8 encoding = false

pub other_encoding_is_not_linked : IsLinked own_names world generated (machine_of (end_of other_encoding)) → ⊥
other_encoding_is_not_linked l =
    let same : encodings.UTF16 ≡ encodings.UTF8 = (options_meet (machine_of (end_of other_encoding)) (HeldMemory 0 ∷ HeldEncoding encodings.UTF16 ∷ []) refl refl refl l).1.0 in
    true≢false (sym (ap is_utf8 same))
