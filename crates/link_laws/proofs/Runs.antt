-- A list of right definitions runs, and the final state is linked.
use Rattle.std.proofs.Common.{◌⊎◌, inl, inr, drop, false, Bool, ◌≡◌, ◌∙◌, ◌≤◌, ◌<◌, ◌+◌, zero, suc, Option, is_some, ℕ, List, [], ◌∷◌, ◌++◌, length, map, refl, sym, ap, ap₂, subst, append-nil, append_assoc, add-one, Some, None, arith, IsTrue, true}
use Rattle.std.proofs.lemmas.List.{map-append, length-map}
use Rattle.std.proofs.lemmas.Option.{slice_get_within, same_Some}
use Rattle.std.proofs.lemmas.List.Elements.{Contains-append_right}
use Rattle.std.proofs.lemmas.Grind.{flat_map-append}
use Rattle.std.specs.Prelude.{Contains, ◌≢◌}
use Rattle.comp_lists.proofs.Lists.{there, AllByRecursion-front, AllByRecursion-back, AllByRecursion-contains}
use Rattle.core_bytes.specs.Modules.{Encodes}
use Rattle.shim_plan.specs.declared.shims.Shim.{Shim}
use Rattle.world_shims.specs.WorldShims.{shims_of, type_of_shim, initialize_of}
use Rattle.shim_runs.specs.ShimRuns.{IsShimAt}
use Rattle.shim_runs.proofs.Acting.{empty_shims_trap}
use Rattle.shim_runs.proofs.Placed.{shim_at}
use Rattle.comp_terms.specs.Generated.{shims_number, fixup_number, GeneratedBytes, IsFixup, has_tasks_in, has_fixup, number_behind, IsShimModule, AreGenerated}
use Rattle.std.specs.List.{slice_get, flat_map, range_with_len, AllZip, AllByRecursion}
use Rattle.comp_bytes.specs.ItemIndices.{in_space}
use Rattle.comp_bytes.specs.declared.space.Space.TheVariants as spaces
use Rattle.comp_bytes.specs.declared.space.Sort.TheVariants as sorts
use Rattle.comp_bytes.specs.declared.space.ComponentExportKind.TheVariants as exports
use Rattle.comp_bytes.specs.declared.types.Alias.TheVariants as aliases
use Rattle.comp_bytes.specs.declared.types.Description.TheVariants as descriptions
use Rattle.comp_bytes.specs.declared.canon.Intrinsic.TheVariants as intrinsics
use Rattle.comp_bytes.specs.declared.def.Item.TheVariants as items
use Rattle.comp_bytes.specs.declared.def.Def.{Def}
use Rattle.comp_bytes.specs.declared.def.Def.TheVariants as defs
use Rattle.comp_worlds.specs.Bases.{AreBasesAlike}
use Rattle.comp_worlds.specs.Worlds.{IsWorld}
use Rattle.comp_worlds.specs.declared.world.ComponentWorld.{ComponentWorld}
use Rattle.comp_links.specs.Naming.{Naming}
use Rattle.comp_links.specs.Modules.{WorldModule, user_modules}
use Rattle.wit_data.specs.declared.ids.TypeId.{TypeId}
use Rattle.comp_trees.specs.Trees.{Resource}
use Rattle.comp_links.specs.Lists.{resource_of, AreExportsApart}
use Rattle.comp_inventories.specs.Inventories.{Inventory, inventory}
use Rattle.comp_inventories.proofs.Inventories.{inventory-empty}
use Rattle.core_types.specs.declared.types.ValType.{ValType}
use Rattle.core_runs.specs.Bodies.{table_shim}
use Rattle.core_runs.specs.Values.{Value, zero_of}
use Rattle.core_runs.specs.Store.{Generated, Answer, Now, Cell, Event, Instantiated, Called}
use Rattle.comp_runs.specs.Store.{ExportedBy, ModuleInstance, Store}
use Rattle.comp_runs.specs.Machine.{Scope, Machine, Outcome, Done, Trapped, Open, Stuck}
use Rattle.comp_runs.specs.Running.{run, fresh_machine}
use Rattle.comp_terms.specs.Rules.{IsRight, RightAfter, IsBuilt}
use Rattle.link_laws.specs.Meeting.{IsBase, task_hook}
use Rattle.link_laws.specs.Composition.{GeneratedModules, generated_sections, IsComposed, numbers_from, instance_order, at_root, item_instantiates, number_after}
use Rattle.link_laws.specs.Linking.{module_meanings, outcome, EndsAt, StartCall, start_calls, initialization, questions, LetsRun, UsersServed, ShimsFilled, MakesCall, IsLinked, imported_among, TypesServed, IsShim, TrapsAtOnce, BeforeFixup, Links}
use Rattle.link_laws.proofs.Stores.{ShimsAt, exports_of_shims, IsReady, IsFunctionExported, ExportsShims, MayHaveShims, IsTypeEntry, IsFunctionEntry, IsInstanceThing, Agrees, Expected, Made, Calls, expected_of, expects, IsSeen}
use Rattle.link_laws.proofs.Zips.{contained}
use Rattle.link_laws.proofs.BaseHeld.{BaseIn, cell_made, base_alone, zero_held}
use Rattle.link_laws.proofs.Given.{scope_there, fixup_behind}
use Rattle.link_laws.proofs.Plain.{nothing_in}
use Rattle.link_laws.proofs.ModuleMarks.{bytes_listed, user_range, numbers_listed, bytes_if, number_if}
use Rattle.link_laws.proofs.InstanceSteps.{IsGenerated, generated_for, step_instantiate, expected_user, expected_shims, expected_fixup}
use Rattle.link_laws.proofs.Outcomes.{machine, IsInstantiation, IsStopped, IsNow, IsGood, asks, Steps, AgreesWith}
use Rattle.link_laws.proofs.Steps.{step_type, step_instance_type, step_import, step_import_type, step_import_resource, step_import_instance, step_alias_function, step_alias_type, step_lower, step_new, step_rep, step_drop, step_built_in, step_lift, step_inline_instance, step_alias, step_module, step_custom}
use Rattle.link_laws.proofs.Ordered.{modules_of, sections_in_order, all_sound}
use Rattle.link_laws.proofs.Marks.{root_type_names, root_nested_names, root_imports, root_modules, root_instances, root_exports, root_export_names, all_resources, no_customs}
use Rattle.link_laws.proofs.ImportedTypes.{types_served}
use Rattle.link_laws.proofs.Served.{function_item, FilledAtEnd, shim_place, shims_filled, tables_untouched, users_served, resource_defined, number_defined, each_provided, each_type_provided}
use Rattle.link_laws.proofs.NestedSteps.{step_component, step_nested, step_export_function, step_export_instance}

-- a generated module is instantiated only where it is one of these
abbrev pub MayMake : ComponentWorld → GeneratedModules → ℕ → Type 0
MayMake w gen n = (n < shims_number w → ⊥) → IsGenerated w gen

module _ {w : ComponentWorld} {earlier : List Def} {c : Scope} {s : Store} {g : List ValType} (a : Agrees w earlier c s g) (gen : GeneratedModules) where
  step : IsWorld w → AreBasesAlike w → (d : Def) → AllByRecursion (MayMake w gen) (at_root item_instantiates d) → IsRight w earlier d → Steps w gen earlier c s g a.events d
  step ok alike (defs.Item (items.CoreModule bytes)) may h = step_module a gen bytes
  step ok alike (defs.Item (items.CoreInstantiate number arguments)) may h = step_instantiate a gen ok alike number arguments may.0 h
  step ok alike (defs.Item (items.CoreExports entries)) may h = step_inline_instance a gen entries h
  step ok alike (defs.Item (items.Alias (aliases.CoreExport kind instance name))) may h = step_alias a gen kind instance name h
  step ok alike (defs.Item (items.Alias (aliases.Export exports.Func instance name))) may h = step_alias_function a gen instance name h
  step ok alike (defs.Item (items.Alias (aliases.Export exports.Type instance name))) may h = step_alias_type a gen instance name h
  step ok alike (defs.Item (items.Type t)) may h = step_type a gen t h
  step ok alike (defs.Item (items.InstanceType t)) may h = step_instance_type a gen t
  step ok alike (defs.Item (items.Lift core options kind)) may h = step_lift a gen core options kind h.0 h.1 h.2
  step ok alike (defs.Item (items.Lower function options)) may h = step_lower a gen function options h.0 h.1
  step ok alike (defs.Item (items.Intrinsic (intrinsics.ResourceNew type))) may h = step_new a gen type h
  step ok alike (defs.Item (items.Intrinsic (intrinsics.ResourceRep type))) may h = step_rep a gen type h
  step ok alike (defs.Item (items.Intrinsic (intrinsics.ResourceDrop type))) may h = step_drop a gen type h
  step ok alike (defs.Item (items.Intrinsic intrinsic)) may h = step_built_in a gen intrinsic (λ operand. refl) h
  step ok alike (defs.Item (items.Import name (descriptions.Func kind))) may h = step_import a gen name kind h
  step ok alike (defs.Item (items.Import name (descriptions.TypeEqual index))) may h = step_import_type a gen name index h.0
  step ok alike (defs.Item (items.Import name descriptions.SubResource)) may h = step_import_resource a gen name
  step ok alike (defs.Item (items.Import name (descriptions.Instance index))) may h = step_import_instance a gen name index h.outer h.members h.is h.right
  step ok alike (defs.Item (items.Instantiate component arguments)) may h = step_nested a gen component arguments h
  step ok alike (defs.Item (items.Export name sorts.Func index None)) may h = step_export_function a gen name index h
  step ok alike (defs.Item (items.Export name sorts.Instance index None)) may h = step_export_instance a gen name index h
  step ok alike (defs.Item (items.Custom name contents)) may h = step_custom a gen name contents
  step ok alike (defs.Component inner) may h = step_component a gen inner
  step ok alike _ may h = absurd h

-- the rest runs from here to this state, and this is seen
abbrev Resolves : ComponentWorld → GeneratedModules → List Def → List Def → Scope → Store → List ValType → List Event → Type 0
Resolves w gen earlier rest c s g before =
    (e : Scope) × (t : Store) × (k : List ValType) × (seen : List Event)
    × ((es : List Event) (now : Now) → IsNow w s.module_instances es g now → IsGood w e t k (es ++ seen) (asks seen) now.answers (run (module_meanings w gen) rest (machine c s now)))
    × AgreesWith w (earlier ++ rest) e t k before seen

resolves : (w : ComponentWorld) (gen : GeneratedModules) → IsWorld w → AreBasesAlike w → (earlier rest : List Def) (c : Scope) (s : Store) (g : List ValType) (a : Agrees w earlier c s g) → AllByRecursion (MayMake w gen) (flat_map (at_root item_instantiates) rest) → RightAfter w earlier rest → Resolves w gen earlier rest c s g a.events
resolves w gen ok alike earlier [] c s g a may h = (
  c,
  s,
  g,
  [],
  λ es now at. (refl, refl, subst (λ l. IsNow w s.module_instances l g now) (sym (append-nil es)) at),
  subst (λ l. AgreesWith w l c s g a.events []) (sym (append-nil earlier)) (record { agrees = a; events = sym (append-nil a.events) }),
)
resolves w gen ok alike earlier (d ∷ ds) c s g a may h =
    let own : AllByRecursion (MayMake w gen) (at_root item_instantiates d) = AllByRecursion-front (MayMake w gen) (at_root item_instantiates d) (flat_map (at_root item_instantiates) ds) may in
    let later : AllByRecursion (MayMake w gen) (flat_map (at_root item_instantiates) ds) = AllByRecursion-back (MayMake w gen) (at_root item_instantiates d) (flat_map (at_root item_instantiates) ds) may in
    let one : Steps w gen earlier c s g a.events d = step a gen ok alike d own h.0 in
    let first : List Event = one.3.seen in
    let all : Resolves w gen (earlier ++ d ∷ []) ds one.0 one.1 one.2 one.4.agrees.events = resolves w gen ok alike (earlier ++ d ∷ []) ds one.0 one.1 one.2 one.4.agrees later h.1 in
    let rest : List Event = all.3 in (
      all.0,
      all.1,
      all.2,
      first ++ rest,
      λ es now at.
          subst (λ q. IsGood w all.0 all.1 all.2 (es ++ (first ++ rest)) q now.answers (run (module_meanings w gen) (d ∷ ds) (machine c s now))) (sym (map-append (λ (e : Event). []) first rest))
          (one.3.continues all.0 all.1 all.2 es rest (asks rest) ds (λ n k. all.4 (es ++ first) n k) now at),
      subst (λ l. AgreesWith w l all.0 all.1 all.2 a.events (first ++ rest)) (append_assoc earlier (d ∷ []) ds)
          (record { agrees = all.5.agrees; events = all.5.events ∙ (ap (λ l. l ++ rest) one.4.events ∙ append_assoc a.events first rest) }),
    )

-- ---- the numbers of user modules

-- a range has consecutive numbers
range_numbers : (k n : ℕ) → range_with_len k n ≡ numbers_from k n
range_numbers k zero = refl
range_numbers k (suc n) = ap (λ l. k ∷ l) (range_numbers (k + 1) n ∙ ap (λ m. numbers_from m n) (add-one k))

-- consecutive numbers are below their end
numbers_below : (k n end : ℕ) → k + n ≤ end → AllByRecursion (λ m. m < end) (numbers_from k n)
numbers_below k zero end l = tt
numbers_below k (suc n) end l = (omega (arith, l), numbers_below (suc k) n end (omega (arith, l)))

length-numbers : (k n : ℕ) → length (numbers_from k n) ≡ n
length-numbers k zero = refl
length-numbers k (suc n) = ap suc (length-numbers (suc k) n)

each_number : {P : ℕ → Type 0} → ((n : ℕ) → P n) → (ns : List ℕ) → AllByRecursion P ns
each_number all [] = tt
each_number all (n ∷ ns) = (all n, each_number all ns)

-- the events of instances of user modules, and what is asked with them
abbrev events_of : List ℕ → List Event
events_of numbers = map (λ n. Instantiated n) numbers

asked_of_each : (us : List WorldModule) (k : ℕ) → asks (events_of (numbers_from k (length us))) ≡ map (λ m. []) us
asked_of_each [] k = refl
asked_of_each (u ∷ us) k = ap (λ l. [] ∷ l) (asked_of_each us (suc k))

-- how many user modules there are, and their numbers
abbrev user_count : ComponentWorld → ℕ
user_count w = length (user_modules w)

abbrev user_numbers : ComponentWorld → List ℕ
user_numbers w = numbers_from 0 (user_count w)

users_below : (w : ComponentWorld) → AllByRecursion (λ n. n < user_count w) (user_numbers w)
users_below w = by (user_count w)
  where
    by : (n : ℕ) → AllByRecursion (λ m. m < n) (numbers_from 0 n)
    by n = numbers_below 0 n n (omega arith)

-- ---- the generated modules of what was built

-- their bytes encode them
bytes_encode : (w : ComponentWorld) (named : Bool) (b : GeneratedBytes) → AreGenerated w named b → AllZip Encodes (bytes_listed b) (generated_sections (modules_of w named b))
bytes_encode w named b are = by b.shims b.fixup are.shims are.fixup
  where
    by : (shims fixup : Option (List ℕ)) → IsShimModule w named shims → IsFixup w named fixup → AllZip Encodes (bytes_if shims ++ bytes_if fixup) (generated_sections (generated_for w named (record { shims = shims; fixup = fixup })))
    by None None s f = tt
    by (Some x) None s f = (s.0, tt)
    by None (Some y) s f = (f.0, tt)
    by (Some x) (Some y) s f = (s.0, (f.0, tt))

-- the fixup has the number behind that of the shims, where there are shims
fixup_after : (w : ComponentWorld) (named : Bool) (b : GeneratedBytes) → AreGenerated w named b → number_after (length (user_modules w)) (modules_of w named b).shims ≡ fixup_number w
fixup_after w named b are = by b.shims are.shims
  where
    by : (shims : Option (List ℕ)) → IsShimModule w named shims → number_after (length (user_modules w)) (generated_for w named (record { shims = shims; fixup = b.fixup })).shims ≡ fixup_number w
    by None none = ap (λ has. number_behind has (shims_number w)) (sym none)
    by (Some bytes) is = sym (fixup_behind w is.1)

-- the instances are in their order
order_is : (w : ComponentWorld) (named : Bool) (b : GeneratedBytes) → AreGenerated w named b → numbers_listed w b ≡ instance_order (length (user_modules w)) (modules_of w named b)
order_is w named b are = by b.shims b.fixup are.shims
  where
    by : (shims fixup : Option (List ℕ)) → IsShimModule w named shims →
        number_if (shims_number w) shims ++ (user_range w ++ number_if (fixup_number w) fixup) ≡ instance_order (length (user_modules w)) (generated_for w named (record { shims = shims; fixup = fixup }))
    by None None is = ap (λ ns. ns ++ []) (range_numbers 0 (user_count w))
    by (Some x) None is = ap (λ ns. shims_number w ∷ (ns ++ [])) (range_numbers 0 (user_count w))
    by None (Some y) is = ap₂ (λ ns n. ns ++ n ∷ []) (range_numbers 0 (user_count w)) (ap (λ has. number_behind has (shims_number w)) is)
    by (Some x) (Some y) is = ap₂ (λ ns n. shims_number w ∷ (ns ++ n ∷ [])) (range_numbers 0 (user_count w)) (fixup_behind w is.1)

may_make : (w : ComponentWorld) (named : Bool) (b : GeneratedBytes) → AreGenerated w named b → AllByRecursion (MayMake w (modules_of w named b)) (instance_order (length (user_modules w)) (modules_of w named b))
may_make w named b are = each_number (λ n no. record { debug_names = named; bytes = b; is = refl; are = are }) (instance_order (length (user_modules w)) (modules_of w named b))

-- ---- what is seen

-- where there is no fixup, nothing is called
no_calls : (w : ComponentWorld) → has_fixup w ≡ false → start_calls w ≡ []
no_calls w none = ap (initialization (task_hook w)) (by (shims_of w) (initialize_of w) none)
  where
    by : (shims : List Shim) (initialize : Option (List ℕ)) → has_tasks_in shims initialize ≡ false → initialize ≡ None
    by [] None h = refl
    by [] (Some name) h = cc
    by (s ∷ ss) initialize h = cc

-- what is expected of definitions is expected of the instances that they make
expected_of_each : (w : ComponentWorld) (ds : List Def) → flat_map (expects w) ds ≡ flat_map (expected_of w) (flat_map (at_root item_instantiates) ds)
expected_of_each w [] = refl
expected_of_each w (d ∷ ds) =
    ap (λ l. expects w d ++ l) (expected_of_each w ds)
    ∙ sym (flat_map-append (expected_of w) (at_root item_instantiates d) (flat_map (at_root item_instantiates) ds))

-- the calls that the component makes itself
abbrev calls_expected : ComponentWorld → List Expected
calls_expected w = map (λ call. Calls call) (start_calls w)

-- of all that are made, that is the instances of the user modules, and then these calls
expected_in_order : (w : ComponentWorld) (named : Bool) (b : GeneratedBytes) → AreGenerated w named b → flat_map (expected_of w) (numbers_listed w b) ≡ map (λ n. Made n) (user_numbers w) ++ calls_expected w
expected_in_order w named b are =
    flat_map-append (expected_of w) (number_if (shims_number w) b.shims) (user_range w ++ number_if (fixup_number w) b.fixup)
    ∙ ap₂ (λ xs ys. xs ++ ys) (of_shims b.shims are.shims)
    (flat_map-append (expected_of w) (user_range w) (number_if (fixup_number w) b.fixup)
    ∙ ap₂ (λ xs ys. xs ++ ys) (ap (flat_map (expected_of w)) (range_numbers 0 (user_count w)) ∙ of_users (user_numbers w) (users_below w)) (of_fixup b.fixup are.fixup))
  where
    of_shims : (shims : Option (List ℕ)) → IsShimModule w named shims → flat_map (expected_of w) (number_if (shims_number w) shims) ≡ []
    of_shims None is = refl
    of_shims (Some x) is = ap (λ l. l ++ []) (expected_shims w is.1)

    of_fixup : (fixup : Option (List ℕ)) → IsFixup w named fixup → flat_map (expected_of w) (number_if (fixup_number w) fixup) ≡ calls_expected w
    of_fixup None is = sym (ap (λ (cs : List StartCall). map (λ call. Calls call) cs) (no_calls w is))
    of_fixup (Some x) is = append-nil (expected_of w (fixup_number w)) ∙ expected_fixup w

    of_users : (ns : List ℕ) → AllByRecursion (λ n. n < user_count w) ns → flat_map (expected_of w) ns ≡ map (λ n. Made n) ns
    of_users [] below = refl
    of_users (n ∷ ns) below = ap₂ (λ xs ys. xs ++ ys) (expected_user w n below.0) (of_users ns below.1)

-- where instances of these modules were expected, and then calls, their events were seen
record AreSeen (w : ComponentWorld) (s : Store) (events : List Event) (ns : List ℕ) (calls : List StartCall) : Type 0 where
  called : List Event
  all : events ≡ events_of ns ++ called
  each : AllZip (IsSeen w s) called (map (λ call. Calls call) calls)

seen_of : (w : ComponentWorld) (s : Store) (events : List Event) (ns : List ℕ) (calls : List StartCall) → AllZip (IsSeen w s) events (map (λ n. Made n) ns ++ map (λ call. Calls call) calls) → AreSeen w s events ns calls
seen_of w s events [] calls h = record { called = events; all = refl; each = h }
seen_of w s [] (n ∷ ns) calls h = absurd h
seen_of w s (Instantiated number ∷ es) (n ∷ ns) calls h =
    let rest : AreSeen w s es ns calls = seen_of w s es ns calls h.1 in
    record { called = rest.called; all = ap₂ (λ m l. Instantiated m ∷ l) h.0 rest.all; each = rest.each }
seen_of w s (e ∷ es) (n ∷ ns) calls h = absurd h.0

-- each of these is a call, and is made as it is to be
asked_of_calls : (w : ComponentWorld) (s : Store) (events : List Event) (calls : List StartCall) → AllZip (IsSeen w s) events (map (λ call. Calls call) calls) → asks events ≡ map (λ c. []) calls
asked_of_calls w s [] [] h = refl
asked_of_calls w s (e ∷ es) (c ∷ cs) h = ap (λ l. [] ∷ l) (asked_of_calls w s es cs h.1)
asked_of_calls w s [] (c ∷ cs) h = absurd h
asked_of_calls w s (e ∷ es) [] h = absurd h

call_made : (w : ComponentWorld) (ok : IsWorld w) (m : Machine) (e : Event) (call : StartCall) → IsSeen w m.store e (Calls call) → MakesCall w m e call
call_made w ok m (Called address arguments) call h =
    let f : IsFunctionExported w m.store address call.function = h.0 in
    (record { address = address; signature = f.type }, f.is.what, ExportedBy f.user call.function.name, refl, f.is.present, f.is.known, function_item w ok m f, h.1)
call_made w ok m e call h = absurd h

calls_made : (w : ComponentWorld) (ok : IsWorld w) (m : Machine) (events : List Event) (calls : List StartCall) → AllZip (IsSeen w m.store) events (map (λ call. Calls call) calls) → AllZip (MakesCall w m) events calls
calls_made w ok m [] [] h = tt
calls_made w ok m (e ∷ es) (c ∷ cs) h = (call_made w ok m e c h.0, calls_made w ok m es cs h.1)
calls_made w ok m [] (c ∷ cs) h = absurd h
calls_made w ok m (e ∷ es) [] h = absurd h

same_first : {X : Type 0} (x y : X) (xs ys : List X) → x ∷ xs ≡ y ∷ ys → x ≡ y
same_first x y xs ys e = same_Some x y (ap (λ l. slice_get l 0) e)

same_rest : {X : Type 0} (x y : X) (xs ys : List X) → x ∷ xs ≡ y ∷ ys → xs ≡ ys
same_rest x y xs ys e = ap (λ l. drop 1 l) e

-- none of them is the instantiation of a module, so such an event is among the first
not_made : (w : ComponentWorld) (s : Store) (e : Event) (call : StartCall) → IsSeen w s e (Calls call) → IsInstantiation e → ⊥
not_made w s (Instantiated number) call h is = h
not_made w s e call h is = is

none_made : (w : ComponentWorld) (s : Store) (events : List Event) (calls : List StartCall) → AllZip (IsSeen w s) events (map (λ call. Calls call) calls) → (before after : List Event) (last : Event) → events ≡ before ++ (last ∷ after) → IsInstantiation last → ⊥
none_made w s [] calls h [] after last split is = cc
none_made w s [] calls h (b ∷ before) after last split is = cc
none_made w s (e ∷ es) [] h before after last split is = absurd h
none_made w s (e ∷ es) (c ∷ cs) h [] after last split is = not_made w s e c h.0 (subst IsInstantiation (sym (same_first e last es after split)) is)
none_made w s (e ∷ es) (c ∷ cs) h (b ∷ before) after last split is = none_made w s es cs h.1 before after last (same_rest e b es (before ++ (last ∷ after)) split) is

instantiated_first : (w : ComponentWorld) (s : Store) (called : List Event) (calls : List StartCall) → AllZip (IsSeen w s) called (map (λ call. Calls call) calls) → (ns : List ℕ) (before after : List Event) (last : Event) → events_of ns ++ called ≡ before ++ (last ∷ after) →
    IsInstantiation last → length before < length ns
instantiated_first w s called calls h [] before after last split is = absurd (none_made w s called calls h before after last split is)
instantiated_first w s called calls h (n ∷ ns) [] after last split is = omega arith
instantiated_first w s called calls h (n ∷ ns) (b ∷ before) after last split is =
    let less = instantiated_first w s called calls h ns before after last (same_rest (Instantiated n) b (events_of ns ++ called) (before ++ (last ∷ after)) split) is in omega (arith, less)

-- ---- as a list

-- the modules are instantiated in their order
instances_in_order : (n : Naming) (w : ComponentWorld) (ds : List Def) (built : IsBuilt n w ds) →
    flat_map (at_root item_instantiates) ds ≡ instance_order (length (user_modules w)) (modules_of w n.debug_names built.generated)
instances_in_order n w ds built = root_instances n w ds built ∙ order_is w n.debug_names built.generated built.are_generated

-- what was built is composed as the world says
pub composed : (n : Naming) (w : ComponentWorld) (ds : List Def) (built : IsBuilt n w ds) → IsComposed n w (modules_of w n.debug_names built.generated) ds
composed n w ds built = record {
  generated = bytes_listed built.generated;
  modules = root_modules n w ds built;
  encoded = bytes_encode w n.debug_names built.generated built.are_generated;
  sections = sections_in_order w n.debug_names built.generated built.are_generated;
  imports = root_imports n w ds built;
  exports = root_exports n w ds built;
  instances = instances_in_order n w ds built;
  customs = record { front = built.front; names = built.names; whole = built.whole; none_before = no_customs n w ds built; named = built.named };
  sound = all_sound w [] ds built.right;
  nested_names = root_nested_names n w ds built;
  instance_types = root_type_names n w ds built;
}

-- ---- as a run

start : (w : ComponentWorld) → Agrees w [] (fresh_machine []).scope (fresh_machine []).store []
start w =
    let none : (inventory []).resources ≡ 0 = ap (λ (v : Inventory). v.resources) inventory-empty in
    record { shims = None; with_shims = tt; events = []; seen = tt; means = tt; types = subst (λ (v : Inventory). AllZip (IsTypeEntry (fresh_machine []).store) v.types []) (sym inventory-empty) tt; functions = subst (λ (v : Inventory). AllZip (IsFunctionEntry (fresh_machine []).store) v.functions []) (sym inventory-empty) tt; instances = subst (λ (v : Inventory). AllZip (IsInstanceThing (fresh_machine []).store) v.instances []) (sym inventory-empty) tt; resources = record { counted = sym none; each = tt; numbered = λ number less. let zero_is = none in absurd (omega (arith, less, zero_is)) }; modules = refl; instantiated = refl; served = tt; with_globals = tt; with_tables = tt; exports = refl; lifted = tt; imports = sym (ap (λ (v : Inventory). v.imports) inventory-empty) }

-- where the shims are made, they are filled at the end
filled_at_end : (w : ComponentWorld) (m : Machine) (named : Bool) (b : GeneratedBytes) → AreGenerated w named b → (shims : Option ShimsAt) (made : List ℕ) → made ≡ numbers_listed w b → MayHaveShims w m.store made shims → (ok : IsWorld w) → FilledAtEnd w ok m shims
filled_at_end w m named b are None made same h ok = h
filled_at_end w m named b are (Some at) made same h ok = (h.made, λ any. h.filled any (by b.fixup are.fixup same any), h.room, h.exported)
  where
    has_shims : (ss : List Shim) (initialize : Option (List ℕ)) → (ss ≡ [] → ⊥) → has_tasks_in ss initialize ≡ true
    has_shims [] initialize any = absurd (any refl)
    has_shims (s ∷ ss) initialize any = refl

    by : (fixup : Option (List ℕ)) → IsFixup w named fixup → made ≡ number_if (shims_number w) b.shims ++ (user_range w ++ number_if (fixup_number w) fixup) → (shims_of w ≡ [] → ⊥) → Contains made (fixup_number w)
    by None none same any = let has : has_fixup w ≡ true = has_shims (shims_of w) (initialize_of w) any in cc
    by (Some bytes) fixes same any =
        let last : Contains (user_range w ++ fixup_number w ∷ []) (fixup_number w) = Contains-append_right (user_range w) (fixup_number w ∷ []) (fixup_number w) (0, omega arith, refl) in
        subst (λ l. Contains l (fixup_number w)) (sym same) (Contains-append_right (number_if (shims_number w) b.shims) (user_range w ++ fixup_number w ∷ []) (fixup_number w) last)

-- the end of a run is linked
linked_at_end : (n : Naming) (w : ComponentWorld) (ds : List Def) (m : Machine) → IsWorld w → AreExportsApart n w → (built : IsBuilt n w ds) → {globals : List ValType} → Agrees w ds m.scope m.store globals → BaseIn (cell_made w m.store.module_instances) m.now.globals → AreSeen w m.store m.now.events (user_numbers w) (start_calls w) → IsLinked n w (modules_of w n.debug_names built.generated) m
linked_at_end n w ds m ok apart built {globals} a base seen =
    let filled : FilledAtEnd w ok m a.shims = filled_at_end w m n.debug_names built.generated built.are_generated a.shims (flat_map (at_root item_instantiates) ds) (root_instances n w ds built) a.with_shims ok in
    record {
      origins = resource_of w;
      start_events = seen.called;
      instances = a.instantiated ∙ instances_in_order n w ds built;
      imports = users_served w ok m a.shims filled base a.served;
      exports = each_provided n w ok apart m a.shims filled (a.exports ∙ root_export_names n w ds built) a.lifted;
      types = each_type_provided n w ok apart m a.shims filled (a.exports ∙ root_export_names n w ds built) a.lifted;
      resources = λ address number destructor present. resource_defined w ok m a.shims filled address number destructor present a.resources;
      defined = λ number less. number_defined w ok m a.shims filled number a.resources (subst (λ n. number < n) (sym (all_resources n w ds built)) less);
      filled = shims_filled w ok m a.shims filled;
      tables = λ instance i of present listed. tables_untouched w m a.shims a.with_tables instance i of present listed;
      events = seen.all;
      started = calls_made w ok m seen.called (start_calls w) seen.each;
    }

-- and the types that it imports are the world's
types_at_end : (n : Naming) (w : ComponentWorld) (ds : List Def) (m : Machine) → IsBuilt n w ds → {globals : List ValType} → Agrees w ds m.scope m.store globals → TypesServed w ds m
types_at_end n w ds m built {globals} a = ap (imported_among (in_space spaces.Type ds)) (scope_there a) ∙ types_served n w ds built.right (root_imports n w ds built)

-- all shims are filled and all imports are served, in a moment with these globals
abbrev AllServed : ComponentWorld → Machine → Type 0
AllServed w m = ShimsFilled w m × (origins : TypeId → Resource) × UsersServed w m origins

abbrev with_moment : Machine → List Cell → Machine
with_moment m globals = record m { now = record m.now { globals = globals } }

ready_serves : (w : ComponentWorld) (ok : IsWorld w) (m : Machine) (globals : List Cell) → BaseIn (cell_made w m.store.module_instances) globals → IsReady w m.store → AllServed w (with_moment m globals)
ready_serves w ok m globals base h =
    let then : Machine = with_moment m globals in
    (shims_filled w ok then h.shims h.filled, resource_of w, users_served w ok then h.shims h.filled base h.planned)

module _ (w : ComponentWorld) (e : Scope) (t : Store) (g : List ValType) (es : List Event) (questions : List (List ValType)) (answers : List Answer) where
  not_stuck : (o : Outcome) → IsGood w e t g es questions answers o → o ≡ Stuck → ⊥
  not_stuck o h same = subst (IsGood w e t g es questions answers) same h

  is_done : (o : Outcome) → IsGood w e t g es questions answers o → LetsRun questions answers → (m : Machine) × (o ≡ Done m)
  is_done (Done m) h l = (m, refl)
  is_done (Trapped m) h l = absurd (h.0 l)
  is_done (Open m) h l = absurd (h.0 l)
  is_done Stuck h l = absurd h

  done_with : (o : Outcome) (m : Machine) → IsGood w e t g es questions answers o → o ≡ Done m → (m.scope ≡ e) × (m.store ≡ t) × IsNow w t.module_instances es g m.now
  done_with o m h same = subst (IsGood w e t g es questions answers) same h

  module _ (seen : AreSeen w t es (user_numbers w) (start_calls w)) (event : ℕ) (late : user_count w ≤ event) where
    -- where a run stops late, all is ready
    ready_stopped : (m : Machine) → IsStopped w es m → event < length m.now.moments → IsReady w m.store
    ready_stopped m h within = by h.by_then
      where
        by : IsInstantiation h.last ⊎ IsReady w m.store → IsReady w m.store
        by (inl is) =
            let less : length h.before < length (user_numbers w) = instantiated_first w t seen.called (start_calls w) seen.each (user_numbers w) h.before h.after h.last (sym seen.all ∙ h.among) is in
            let counted : length (user_numbers w) ≡ user_count w = length-numbers 0 (user_count w) in
            let moments = h.moments in
            absurd (omega (arith, less, counted, moments, within, late))
        by (inr ready) = ready

    ready_late : (o : Outcome) (m : Machine) → IsGood w e t g es questions answers o → ((n : Machine) → o ≡ Done n → IsReady w n.store) → EndsAt m o → event < length m.now.moments → IsReady w m.store
    ready_late (Done n) m h done same within = subst (λ (x : Machine). IsReady w x.store) same (done n refl)
    ready_late (Trapped n) m h done same within =
        subst (λ (x : Machine). IsReady w x.store) same (ready_stopped n h.1 (subst (λ (x : Machine). event < length x.now.moments) (sym same) within))
    ready_late (Open n) m h done same within =
        subst (λ (x : Machine). IsReady w x.store) same (ready_stopped n h.1 (subst (λ (x : Machine). event < length x.now.moments) (sym same) within))
    ready_late Stuck m h done same within = absurd h

  -- the base was there at each event
  bases_at : (o : Outcome) (m : Machine) → IsGood w e t g es questions answers o → EndsAt m o → AllByRecursion (BaseIn (cell_made w m.store.module_instances)) m.now.moments
  bases_at (Done n) m h same =
      subst (λ (x : Machine). AllByRecursion (BaseIn (cell_made w x.store.module_instances)) x.now.moments) same (subst (λ (s : Store). AllByRecursion (BaseIn (cell_made w s.module_instances)) n.now.moments) (sym h.1) h.2.bases)
  bases_at (Trapped n) m h same = subst (λ (x : Machine). AllByRecursion (BaseIn (cell_made w x.store.module_instances)) x.now.moments) same h.1.bases
  bases_at (Open n) m h same = subst (λ (x : Machine). AllByRecursion (BaseIn (cell_made w x.store.module_instances)) x.now.moments) same h.1.bases
  bases_at Stuck m h same = absurd h

first_part : (a b n : ℕ) → a + b ≤ n → a ≤ n
first_part a b n l = omega (arith, l)

-- ---- before the fixup

right_before : (w : ComponentWorld) (earlier before after : List Def) → RightAfter w earlier (before ++ after) → RightAfter w earlier before
right_before w earlier [] after h = tt
right_before w earlier (d ∷ before) after h = (h.0, right_before w (earlier ++ d ∷ []) before after h.1)

-- a shim whose slot is empty traps
quiet_shims : (w : ComponentWorld) (m : Machine) (numbers : List ℕ) (shims : Option ShimsAt) → map (λ (u : ModuleInstance). u.module_number) m.store.module_instances ≡ numbers → MayHaveShims w m.store numbers shims → (Contains numbers (fixup_number w) → ⊥) →
    (address : ℕ) → IsShim w m address → TrapsAtOnce m address
quiet_shims w m numbers None same h unfixed address s =
    let none : s.made.exports ≡ [] = AllByRecursion-contains (ExportsShims w None) m.store.module_instances s.made h (contained m.store.module_instances s.instance s.made s.present) s.of in
    nothing_in (record { space = spaces.CoreFunc; name = s.name; address = address }) (subst (λ es. Contains es (record { space = spaces.CoreFunc; name = s.name; address = address })) none s.exported)
quiet_shims w m numbers (Some at) same h unfixed address s =
    let shims : List Shim = shims_of w in
    let exports : s.made.exports ≡ exports_of_shims w at =
    AllByRecursion-contains (ExportsShims w (Some at)) m.store.module_instances s.made h.exported (contained m.store.module_instances s.instance s.made s.present) s.of in
    let place : (place : ℕ) × (place < length shims) × (address ≡ at.address + place) = shim_place w m at address s exports in
    let shim : (shim : Shim) × (slice_get shims place.0 ≡ Some shim) = there shims place.0 place.1 in
    let zero_is : 0 + place.0 ≡ place.0 = omega arith in
    let is : IsShimAt m.store.code at.table address place.0 (type_of_shim shim.0) =
    subst (λ n. IsShimAt m.store.code at.table n place.0 (type_of_shim shim.0)) (sym place.2)
    (subst (λ p. IsShimAt m.store.code at.table (at.address + place.0) p (type_of_shim shim.0)) zero_is (shim_at m.store.code at.table 0 at.address shims place.0 shim.0 h.made shim.1)) in
    let within = place.1 in
    let room = h.room in
    let any : shims ≡ [] → ⊥ = λ none. let less : place.0 < 0 = subst (λ (ss : List Shim). place.0 < length ss) none place.1 in omega (arith, less) in
    record {
      function = Generated is.frame (type_of_shim shim.0) (table_shim (length (type_of_shim shim.0).params) place.0 is.index).locals (table_shim (length (type_of_shim shim.0).params) place.0 is.index).instructions;
      is = is.body;
      traps = λ arguments now fits kept. empty_shims_trap m.store.code at.table address place.0 (type_of_shim shim.0) (length shims) is (h.unfilled any unfixed) place.1 (omega (arith, within, room)) arguments now fits;
    }

-- where the definitions don't instantiate the fixup, its number is none of theirs
no_fixup_before : (w : ComponentWorld) (named : Bool) (b : GeneratedBytes) → AreGenerated w named b → (ds : List Def) → BeforeFixup w (modules_of w named b) ds → Contains (flat_map (at_root item_instantiates) ds) (fixup_number w) → ⊥
no_fixup_before w named b are ds before contains =
    AllByRecursion-contains (λ n. n ≢ number_after (length (user_modules w)) (modules_of w named b).shims) (flat_map (at_root item_instantiates) ds) (fixup_number w) before contains (sym (fixup_after w named b are))

-- what was built links, whatever the outside returns, where the exported interfaces have names of their own
pub links : (n : Naming) (w : ComponentWorld) (ds : List Def) → IsWorld w → AreExportsApart n w → (built : IsBuilt n w ds) → Links n w (modules_of w n.debug_names built.generated) ds
unfolding start
links n w ds ok apart built = record {
  never_stuck = λ answers. not_stuck w all.0 all.1 all.2 all.3 (questions w) answers (outcome w gen ds answers) (good answers);
  ends = λ answers. is_done w all.0 all.1 all.2 all.3 (questions w) answers (outcome w gen ds answers) (good answers);
  linked = λ answers m done. let is = at_end answers m done in linked_at_end n w ds m ok apart built is.0 is.1 is.2;
  types = λ answers m done. types_at_end n w ds m built (at_end answers m done).0;
  traps_before = record { each = traps };
  served_throughout = record {
    each = λ answers m ends event globals late at.
        let behind : user_count w ≤ event = first_part (user_count w) _ event late in
        ready_serves w ok m globals (base_at answers m ends event globals at)
        (ready_late w all.0 all.1 all.2 all.3 (questions w) answers seen event behind (outcome w gen ds answers) m (good answers) (λ n done. ready_at_end answers n done) ends (slice_get_within m.now.moments event globals at));
  };
  one_base = record {
    cell = 0;
    at_end = λ answers m done. base_alone (cell_made w m.store.module_instances) m.now.globals (at_end answers m done).1;
    throughout = λ answers m ends event globals at. base_alone (cell_made w m.store.module_instances) globals (base_at answers m ends event globals at);
    zero_first = zero_first;
  };
}
  where
    gen : GeneratedModules
    gen = modules_of w n.debug_names built.generated

    alike : AreBasesAlike w
    alike = built.are_generated.alike

    in_order : flat_map (at_root item_instantiates) ds ≡ instance_order (length (user_modules w)) gen
    in_order = instances_in_order n w ds built

    may : AllByRecursion (MayMake w gen) (flat_map (at_root item_instantiates) ds)
    may = subst (AllByRecursion (MayMake w gen)) (sym in_order) (may_make w n.debug_names built.generated built.are_generated)

    all : Resolves w gen [] ds (fresh_machine []).scope (fresh_machine []).store [] []
    all = resolves w gen ok alike [] ds (fresh_machine []).scope (fresh_machine []).store [] (start w) may built.right

    -- each user module is instantiated, and then the calls are made
    expected : flat_map (expects w) ds ≡ map (λ n. Made n) (user_numbers w) ++ calls_expected w
    expected = expected_of_each w ds ∙ (ap (flat_map (expected_of w)) (root_instances n w ds built) ∙ expected_in_order w n.debug_names built.generated built.are_generated)

    seen : AreSeen w all.1 all.3 (user_numbers w) (start_calls w)
    seen = subst (λ es. AreSeen w all.1 es (user_numbers w) (start_calls w)) all.5.events (seen_of w all.1 all.5.agrees.events (user_numbers w) (start_calls w) (subst (AllZip (IsSeen w all.1) all.5.agrees.events) expected all.5.agrees.seen))

    asked : asks all.3 ≡ questions w
    asked =
        ap asks seen.all
        ∙ (map-append (λ (e : Event). []) (events_of (user_numbers w)) seen.called
        ∙ ap₂ (λ xs ys. xs ++ ys) (asked_of_each (user_modules w) 0) (asked_of_calls w all.1 seen.called (start_calls w) seen.each))

    fresh : (answers : List Answer) → IsNow w [] [] [] (fresh_machine answers).now
    fresh answers = record { events = refl; moments = refl; globals = refl; base = tt; zero_yet = λ unseen. tt; bases = tt; unmade = λ unmade. (refl, refl) }

    good : (answers : List Answer) → IsGood w all.0 all.1 all.2 all.3 (questions w) answers (outcome w gen ds answers)
    good answers = subst (λ q. IsGood w all.0 all.1 all.2 all.3 q answers (outcome w gen ds answers)) asked (all.4 [] (fresh_machine answers).now (fresh answers))

    at_end : (answers : List Answer) (m : Machine) → outcome w gen ds answers ≡ Done m → Agrees w ds m.scope m.store all.2 × BaseIn (cell_made w m.store.module_instances) m.now.globals × AreSeen w m.store m.now.events (user_numbers w) (start_calls w)
    at_end answers m done =
        let is : (m.scope ≡ all.0) × (m.store ≡ all.1) × IsNow w all.1.module_instances all.3 all.2 m.now = done_with w all.0 all.1 all.2 all.3 (questions w) answers (outcome w gen ds answers) m (good answers) done in (
          subst (λ s. Agrees w ds m.scope s all.2) (sym is.1) (subst (λ c. Agrees w ds c all.1 all.2) (sym is.0) all.5.agrees),
          subst (λ (s : Store). BaseIn (cell_made w s.module_instances) m.now.globals) (sym is.1) is.2.base,
          subst (λ s. AreSeen w s m.now.events (user_numbers w) (start_calls w)) (sym is.1) (subst (λ es. AreSeen w all.1 es (user_numbers w) (start_calls w)) (sym is.2.events) seen),
        )

    base_at : (answers : List Answer) (m : Machine) → EndsAt m (outcome w gen ds answers) → (event : ℕ) (globals : List Cell) → slice_get m.now.moments event ≡ Some globals → BaseIn (cell_made w m.store.module_instances) globals
    base_at answers m ends event globals at =
        AllByRecursion-contains (BaseIn (cell_made w m.store.module_instances)) m.now.moments globals (bases_at w all.0 all.1 all.2 all.3 (questions w) answers (outcome w gen ds answers) m (good answers) ends) (contained m.now.moments event globals at)

    ready_at_end : (answers : List Answer) (m : Machine) → outcome w gen ds answers ≡ Done m → IsReady w m.store
    ready_at_end answers m done =
        let a = (at_end answers m done).0 in
        record {
          shims = a.shims;
          filled = filled_at_end w m n.debug_names built.generated built.are_generated a.shims (flat_map (at_root item_instantiates) ds) (root_instances n w ds built) a.with_shims ok;
          planned = a.served;
        }

    -- a run of the first definitions
    up_to : (before after : List Def) → ds ≡ before ++ after → Resolves w gen [] before (fresh_machine []).scope (fresh_machine []).store [] []
    up_to before after whole =
        let those : List ℕ = flat_map (at_root item_instantiates) before in
        let may_before : AllByRecursion (MayMake w gen) those =
        AllByRecursion-front (MayMake w gen) those (flat_map (at_root item_instantiates) after) (subst (AllByRecursion (MayMake w gen)) (ap (flat_map (at_root item_instantiates)) whole ∙ flat_map-append (at_root item_instantiates) before after) may) in
        resolves w gen ok alike [] before (fresh_machine []).scope (fresh_machine []).store [] (start w) may_before (right_before w [] before after (subst (RightAfter w []) whole built.right))

    traps : (before after : List Def) → ds ≡ before ++ after → BeforeFixup w gen before → IsTrue (is_some gen.fixup) → (answers : List Answer) (m : Machine) → outcome w gen before answers ≡ Done m → (address : ℕ) → IsShim w m address → TrapsAtOnce m address
    traps before after whole unfixed fixed answers m done =
        let those : List ℕ = flat_map (at_root item_instantiates) before in
        let to : Resolves w gen [] before (fresh_machine []).scope (fresh_machine []).store [] [] = up_to before after whole in
        let is : (m.scope ≡ to.0) × (m.store ≡ to.1) × IsNow w to.1.module_instances to.3 to.2 m.now =
        done_with w to.0 to.1 to.2 to.3 (asks to.3) answers (outcome w gen before answers) m (to.4 [] (fresh_machine answers).now (fresh answers)) done in
        let a : Agrees w before m.scope m.store to.2 = subst (λ s. Agrees w before m.scope s to.2) (sym is.1) (subst (λ c. Agrees w before c to.1 to.2) (sym is.0) to.5.agrees) in
        quiet_shims w m those a.shims a.instantiated a.with_shims (no_fixup_before w n.debug_names built.generated built.are_generated before unfixed)

    zero_first : (before after : List Def) → ds ≡ before ++ after → Contains (flat_map (at_root item_instantiates) before) (length (user_modules w)) → (answers : List Answer) (m : Machine) → outcome w gen before answers ≡ Done m → m.now.events ≡ [] →
        (type : ValType) (value : Value) → IsBase m.now.globals 0 type value → value ≡ zero_of type
    zero_first before after whole there answers m done unseen type value base =
        let to : Resolves w gen [] before (fresh_machine []).scope (fresh_machine []).store [] [] = up_to before after whole in
        let is : (m.scope ≡ to.0) × (m.store ≡ to.1) × IsNow w to.1.module_instances to.3 to.2 m.now =
        done_with w to.0 to.1 to.2 to.3 (asks to.3) answers (outcome w gen before answers) m (to.4 [] (fresh_machine answers).now (fresh answers)) done in
        zero_held (cell_made w to.1.module_instances) m.now.globals is.2.base (is.2.zero_yet (sym is.2.events ∙ unseen)) 0 type value base.held
