-- A nested component, an instance of one, and an export of the component run, and the store agrees
-- with the longer list.
use Rattle.std.proofs.Common.{◌≡◌, ◌∙◌, ◌&&◌, ℕ, Bool, true, false, List, [], ◌∷◌, ◌++◌, length, map, filter, get_or, refl, sym, ap, subst, append-nil, Option, Some, None, if◌then◌else◌}
use Rattle.std.proofs.lemmas.List.{map-append, length-map}
use Rattle.std.proofs.lemmas.Option.{none-some, same_Some, get_or_from_slice_get}
use Rattle.std.specs.List.{slice_get, AllZip, AllByRecursion}
use Rattle.std.specs.Option.{option_map}
use Rattle.std.specs.Str.{bytes_eq}
use Rattle.core_types.specs.declared.types.ValType.{ValType}
use Rattle.comp_lists.proofs.Lists.{slice_get-end, AllZip-weaker, AllByRecursion-weaker}
use Rattle.comp_bytes.proofs.ItemIndices.{IsAt-append}
use Rattle.comp_bytes.specs.ItemIndices.{IsAt}
use Rattle.comp_bytes.specs.Spaces.{is_space, sort_space}
use Rattle.comp_bytes.specs.declared.space.Space.{Space}
use Rattle.comp_bytes.specs.declared.space.Space.TheVariants as spaces
use Rattle.comp_bytes.specs.declared.space.Sort.{Sort}
use Rattle.comp_bytes.specs.declared.space.Sort.TheVariants as sorts
use Rattle.comp_bytes.specs.declared.types.ExternName.{ExternName}
use Rattle.comp_bytes.specs.declared.def.Argument.{Argument}
use Rattle.comp_bytes.specs.declared.def.Item.{Item}
use Rattle.comp_bytes.specs.declared.def.Item.TheVariants as items
use Rattle.comp_bytes.specs.declared.def.Def.{Def}
use Rattle.comp_bytes.specs.declared.def.Def.TheVariants as defs
use Rattle.wit_data.specs.Live.{named_types}
use Rattle.wit_data.specs.declared.ids.TypeId.{TypeId}
use Rattle.wit_data.specs.declared.worlds.WorldItem.{WorldItem}
use Rattle.comp_worlds.specs.WorldContents.{exported_item}
use Rattle.comp_worlds.specs.declared.world.ComponentWorld.{ComponentWorld}
use Rattle.comp_trees.specs.Trees.{FunctionTree}
use Rattle.comp_trees.specs.DefinedTrees.{TypeTree}
use Rattle.comp_inventories.specs.Inventories.{FunctionEntry, InstanceEntry, OtherInstance, no_function, argument_named, nested_exports, inventory}
use Rattle.nested_terms.specs.Nested.{NestedImport, ImportedFunction, ImportedType, NestedExport, empty_scope, type_named, imports_after, exports_after, AreItemsRight}
use Rattle.comp_links.specs.Targets.{ExportRef, TargetOption, Lifted}
use Rattle.comp_links.specs.Lists.{RequiredKey, required_keys, RequiredFunction, functions_required, types_in, types_required, type_of_world}
use Rattle.comp_links.specs.Links.{core_name, lift_options}
use Rattle.world_values.specs.Items.{functions_in}
use Rattle.comp_terms.specs.Planned.{type_of_function, IsLiftFor}
use Rattle.comp_terms.specs.Instances.{IsImportGiven, IsArgumentIn, IsArgumentRight, InstantiatesNested}
use Rattle.comp_terms.specs.Exports.{exports_in, IsRequiredLift, ExportsFunction, PassesOn, ExportsTypes, ExportsInterface}
use Rattle.comp_runs.specs.Store.{Thing, Export, TypeItem, ComponentItem, ModuleInstance, Store}
use Rattle.comp_runs.specs.Machine.{Scope, Machine, address_at, is_of, export_in, export_of, all_some}
use Rattle.comp_runs.specs.Running.{argument, run}
use Rattle.instance_laws.specs.Instantiated.{IsHeldAs, FindsType}
use Rattle.instance_laws.specs.InstanceEntries.{HasTypesOf}
use Rattle.instance_laws.proofs.Held.{keeps_same, keeps_more, keeps_grown}
use Rattle.nested_laws.specs.NestedRuns.{AreGiven, IsGiven, AreNestedExports, RunsNested, FindsArgument}
use Rattle.nested_laws.proofs.Kept.{is_function, is_type, AreGiven-kept}
use Rattle.nested_laws.proofs.Instance.{nested_runs}
use Rattle.nested_laws.proofs.Exports.{front, other_space, finds_argument, finds_nested_type, address_of_argument}
use Rattle.nested_laws.proofs.SameExports.{same_exports}
use Rattle.link_laws.specs.Composition.{GeneratedModules}
use Rattle.link_laws.specs.Linking.{module_meanings}
use Rattle.link_laws.proofs.Zips.{all_some-self, AllZip-back, mapped_some}
use Rattle.link_laws.proofs.Stores.{IsComponentHeld, IsArgumentHeld, IsNestedInstance, IsFunctionEntry, IsInstanceThing, IsLiftedFrom, function_at_key, type_at_key, IsRequiredAt, IsAmong, IsTypeAmong, IsItemExport, IsKeyExport, AreResources, Agrees}
use Rattle.link_laws.proofs.Kept.{Keeps, sizes_kept, shims_same, address_at-append, things_kept, keeps_store, keeps_component, IsPlannedUser-kept, AreKeyExports-push, AreResources-more}
use Rattle.link_laws.proofs.GivenTypes.{exports_given}
use Rattle.link_laws.proofs.Given.{thing_there, address_there, held_there, function_at, lift_there, found_name, by_parts}
use Rattle.link_laws.proofs.Outcomes.{machine, no_answers, quiet, Steps}
use Rattle.link_laws.proofs.Steps.{filter-push, Makes, agrees_with, shims_beside, quiet_step}

-- ---- arguments

-- what an argument of a sort and a name names, among arguments that are held
pub record FindsHeld (things : List Thing) (sort : Sort) (name : List ℕ) (held : List Export) (index : ℕ) : Type 0 where
  pub export : Export
  pub found : export_of (sort_space sort) name held ≡ Some export
  pub at : address_at (sort_space sort) index things ≡ Some export.address

module _ (things : List Thing) (sort : Sort) (known : (space : Space) → is_space (sort_space sort) (Some space) ≡ true → space ≡ sort_space sort) (name : List ℕ) where
  later : (held : List Export) (e : Export) (index : ℕ) → export_of (sort_space sort) name (e ∷ held) ≡ export_of (sort_space sort) name held → FindsHeld things sort name held index → FindsHeld things sort name (e ∷ held) index
  later held e index same h = record { export = h.export; found = same ∙ h.found; at = h.at }

  finds_held : (written : List Argument) (held : List Export) (x : Argument) → AllZip (IsArgumentHeld things) written held → argument_named sort name written ≡ Some x → FindsHeld things sort name held x.index
  finds_held [] held x h e = absurd (none-some x e)
  finds_held (a ∷ written) [] x h e = absurd h
  finds_held (a ∷ written) (y ∷ held) x h e =
      by (is_space (sort_space sort) (Some (sort_space a.sort))) refl (bytes_eq name a.name) refl (λ k. finds_held written held x h.1 k) e
    where
      in_space : (b : Bool) → is_space (sort_space sort) (Some (sort_space a.sort)) ≡ b → export_in (sort_space sort) y ≡ b
      in_space b p = ap (λ (space : Space). is_space (sort_space sort) (Some space)) h.0.space ∙ p

      is_named : (b : Bool) → bytes_eq name a.name ≡ b → bytes_eq name y.name ≡ b
      is_named b p = ap (bytes_eq name) h.0.named ∙ p

      by : (inside : Bool) → is_space (sort_space sort) (Some (sort_space a.sort)) ≡ inside → (named : Bool) → bytes_eq name a.name ≡ named →
          (argument_named sort name written ≡ Some x → FindsHeld things sort name held x.index) → (if inside && named then Some a else argument_named sort name written) ≡ Some x → FindsHeld things sort name (y ∷ held) x.index
      by true p true q rest k =
          let same : a ≡ x = same_Some a x k in
          record {
            export = y;
            found = front (sort_space sort) name y held true (in_space true p) (is_named true q);
            at = subst (λ (a : Argument). address_at (sort_space sort) a.index things ≡ Some y.address) same (subst (λ space. address_at space a.index things ≡ Some y.address) (known (sort_space a.sort) p) h.0.at);
          }
      by true p false q rest k = later held y x.index (front (sort_space sort) name y held false (in_space true p) (is_named false q)) (rest k)
      by false p named q rest k = later held y x.index (other_space (sort_space sort) name y held (in_space false p)) (rest k)

module _ {w : ComponentWorld} {earlier : List Def} {c : Scope} {s : Store} {g : List ValType} (a : Agrees w earlier c s g) (gen : GeneratedModules) where
  -- ---- a nested component

  pub step_component : (inner : List Item) → Steps w gen earlier c s g a.events (defs.Component inner)
  step_component inner =
      let d : Def = defs.Component inner in
      let t : Thing = record { space = spaces.Component; address = length s.components } in
      let component : ComponentItem = record { definitions = inner; around = c.items ∷ c.around } in
      let s' : Store = record s { components = s.components ++ component ∷ [] } in
      quiet_step a gen d c.imports s' t (λ rest now. refl) (keeps_component c.items t s component)
      (record { space = refl; is = record { component = component; present = slice_get-end s.components component; same = refl } }) (tt, tt, tt) refl refl refl refl refl refl a.imports a.resources

  -- ---- an instance of a nested component

  sort_addressed : (sort : Sort) (index : ℕ) → IsArgumentIn earlier sort index → (x : ℕ) × (address_at (sort_space sort) index c.items ≡ Some x)
  sort_addressed sorts.Func index h = address_there a spaces.Func index h
  sort_addressed sorts.Type index h = address_there a spaces.Type index h
  sort_addressed _ index h = absurd h

  -- an argument names an item that is there
  argument_addressed : (x : Argument) → IsArgumentRight earlier x → (y : Export) × (argument (machine c s no_answers) x ≡ Some y) × IsArgumentHeld c.items x y
  argument_addressed x h =
      let at = sort_addressed x.sort x.index h in
      (record { space = sort_space x.sort; name = x.name; address = at.0 }, ap (option_map (λ n. record { space = sort_space x.sort; name = x.name; address = n })) at.1, record { named = refl; space = refl; at = at.1 })

  -- an import is given what its argument names
  import_given : (written : List Argument) (held : List Export) → AllZip (IsArgumentHeld c.items) written held → (i : NestedImport) → IsImportGiven earlier written i → IsGiven s.types held i
  import_given written held k (ImportedFunction name type) h =
      let y : FindsHeld c.items sorts.Func name held h.argument.index = finds_held c.items sorts.Func is_function name written held h.argument k h.named in
      record { export = y.export; found = y.found }
  import_given written held k (ImportedType name tree) h =
      let y : FindsHeld c.items sorts.Type name held h.argument.index = finds_held c.items sorts.Type is_type name written held h.argument k h.named in
      let t : (x : ℕ) × (address_at spaces.Type h.argument.index c.items ≡ Some x) × IsHeldAs s.types tree x = held_there a h.denotes in
      record { export = y.export; found = y.found; is = subst (IsHeldAs s.types tree) (same_Some t.0 y.export.address (sym t.1 ∙ y.at)) t.2 }

  -- its instance has the types that the inventory says
  nested_types : {component : ℕ} {written : List Argument} (h : InstantiatesNested earlier component written) (held : List Export) (types : List TypeItem) (made : List Export) →
      AreNestedExports types held (exports_after h.given empty_scope h.definitions) made → HasTypesOf (nested_exports (inventory earlier) component written) types made
  nested_types {component} {written} h held types made each = record {
    each = λ name tree named. finds_nested_type types held name (exports_after h.given empty_scope h.definitions) made tree each
        (ap (type_named name) (sym (exports_given earlier component written h)) ∙ named);
  }

  pub step_nested : (component : ℕ) (written : List Argument) → InstantiatesNested earlier component written → Steps w gen earlier c s g a.events (defs.Item (items.Instantiate component written))
  step_nested component written h =
      let d : Def = defs.Item (items.Instantiate component written) in
      let x : (x : ℕ) × (address_at spaces.Component component c.items ≡ Some x) × IsComponentHeld s h.definitions x = thing_there a h.made in
      let m : Machine = machine c s no_answers in
      let held : (ys : List Export) × (all_some (map (argument m) written) ≡ Some ys) × AllZip (IsArgumentHeld c.items) written ys =
      all_some-self (IsArgumentHeld c.items) (argument m) (IsArgumentRight earlier) argument_addressed written h.scoped in
      let item : ComponentItem = x.2.component in
      let given : AreGiven s.types held.0 (imports_after h.given empty_scope h.definitions) =
      AllByRecursion-weaker (import_given written held.0 held.2) (imports_after h.given empty_scope h.definitions) h.each in
      let r : RunsNested (module_meanings w gen) h.given item held.0 m =
      nested_runs (module_meanings w gen) h.given item held.0 m (subst (AreItemsRight h.given empty_scope) (sym x.2.same) h.right)
      (subst (λ (is : List Item). AreGiven s.types held.0 (imports_after h.given empty_scope is)) (sym x.2.same) given) in
      let t : Thing = record { space = spaces.Instance; address = length s.instances } in
      let s' : Store = record s { types = r.types; instances = s.instances ++ r.exports ∷ [] } in
      let k : Keeps c.items (c.items ++ t ∷ []) s s' = record {
        things = things_kept c.items t s;
        code = keeps_same refl;
        tables = sizes_kept (keeps_same refl);
        memories = keeps_same refl;
        known = keeps_same refl;
        core_instances = keeps_same refl;
        functions = keeps_same refl;
        types = keeps_grown s.types r.types r.more_types r.types_grew;
        components = keeps_same refl;
        instances = keeps_more s.instances (r.exports ∷ []);
        users = keeps_same refl;
      } in
      quiet_step a gen d c.imports s' t (λ rest now. rw (x.1, x.2.present, held.1) (r.runs now (run (module_meanings w gen) rest))) k
      (record {
        space = refl;
        is = record {
          definitions = h.definitions;
          given = h.given;
          arguments = held.0;
          exports = r.exports;
          made = IsAt-append (d ∷ []) h.made;
          held = AllZip-weaker (λ y e n. record { named = n.named; space = n.space; at = address_at-append c.items (t ∷ []) (sort_space y.sort) y.index e.address n.at }) written held.0 held.2;
          present = slice_get-end s.instances r.exports;
          imports = AreGiven-kept k.types held.0 (imports_after h.given empty_scope h.definitions) given;
          each = subst (λ (is : List Item). AreNestedExports r.types held.0 (exports_after h.given empty_scope is) r.exports) x.2.same r.each;
        };
      })
      (tt, tt, (record { exports = r.exports; present = slice_get-end s.instances r.exports; is = nested_types h held.0 r.types r.exports (subst (λ (is : List Item). AreNestedExports r.types held.0 (exports_after h.given empty_scope is) r.exports) x.2.same r.each) }, tt)) refl refl refl refl refl refl a.imports
      (subst (λ l. AreResources w a.shims l (inventory earlier).resources) (sym r.types_grew) (AreResources-more w a.shims s.types r.more_types (inventory earlier).resources a.resources r.none_defined))

  -- ---- exports

  -- how many exports there have been
  counted : length c.exports ≡ exports_in earlier
  counted = sym (length-map c.exports (λ (e : Export). e.name)) ∙ ap (λ (names : List (List ℕ)). length names) a.exports

  -- the step of an export: it is that of the next required key
  export_step : (name : ExternName) (sort : Sort) (index address : ℕ) (r : RequiredKey) → address_at (sort_space sort) index c.items ≡ Some address → slice_get (required_keys w) (exports_in earlier) ≡ Some r →
      IsKeyExport w s r (record { space = sort_space sort; name = name.name; address = address }) → Makes a gen (defs.Item (items.Export name sort index None)) s (record { space = sort_space sort; address = address }) →
      is_space spaces.CoreModule (Some (sort_space sort)) ≡ false → Steps w gen earlier c s g a.events (defs.Item (items.Export name sort index None))
  export_step name sort index address r at next is makes other =
      let d : Def = defs.Item (items.Export name sort index None) in
      let t : Thing = record { space = sort_space sort; address = address } in
      let x : Export = record { space = sort_space sort; name = name.name; address = address } in
      let c' : Scope = record c { items = c.items ++ t ∷ []; exports = c.exports ++ x ∷ [] } in
      let k : Keeps c.items (c.items ++ t ∷ []) s s = keeps_store c.items t s in (
        c',
        s,
        g,
        quiet w gen d c s g c' s refl (λ rest now. rw at refl),
        agrees_with a gen d c' s g t a.shims (shims_same a.shims) refl k (record { space = refl; is = tt }) makes
            (rw (filter-push (is_of spaces.CoreModule) false c.items t other) a.modules)
            (sym (append-nil (map (λ (u : ModuleInstance). u.module_number) s.module_instances)))
            (AllByRecursion-weaker (IsPlannedUser-kept w k a.shims a.shims (shims_same a.shims)) s.module_instances a.served)
            a.with_globals
            a.with_tables
            (shims_beside a gen k [] refl refl refl)
            (map-append (λ (e : Export). e.name) c.exports (x ∷ []))
            (AreKeyExports-push w s (required_keys w) c.exports r x a.lifted (ap (slice_get (required_keys w)) counted ∙ next) is)
            a.imports
            a.resources
            []
            tt,
      )

  -- the lift of a required function
  required_there : (r : RequiredFunction) (index : ℕ) → IsRequiredLift w earlier r index → (x : ℕ) × (address_at spaces.Func index c.items ≡ Some x) × IsRequiredAt w s r x
  required_there r index h =
      let options : List TargetOption = lift_options w r in
      let core : (core : List ℕ) × (core_name w r ≡ Some core) × (Lifted (record { of = r.of; name = core }) options ≡ h.target) =
      mapped_some (λ core. Lifted (record { of = r.of; name = core }) options) (core_name w r) h.target h.said in
      let type : FunctionTree = type_of_function w h.wit in
      let entry : ExportRef = record { of = r.of; name = core.0 } in
      let lifting : IsLiftFor w earlier index (Lifted entry options) type = subst (λ target. IsLiftFor w earlier index target type) (sym core.2) h.is in
      let f : (x : ℕ) × (address_at spaces.Func index c.items ≡ Some x) × IsLiftedFrom w s x entry options type = lift_there a entry options type lifting in
      (f.0, f.1, record { name = core.0; wit = h.wit; role = core.1; exported = h.exported; is = f.2 })

  pub step_export_function : (name : ExternName) (index : ℕ) → ExportsFunction w earlier index → Steps w gen earlier c s g a.events (defs.Item (items.Export name sorts.Func index None))
  step_export_function name index h =
      let f : (x : ℕ) × (address_at spaces.Func index c.items ≡ Some x) × IsRequiredAt w s (function_at_key h.required h.function.name) x = required_there (function_at_key h.required h.function.name) index h.lifted in
      let t : Thing = record { space = spaces.Func; address = f.0 } in
      let own : (e : FunctionEntry) × IsFunctionEntry s e t × (get_or (inventory earlier).functions index no_function ≡ e) = function_at a index f.0 f.1 in
      export_step name sorts.Func index f.0 h.required f.1 h.next (subst (IsItemExport w s h.required (record { space = spaces.Func; name = name.name; address = f.0 })) (sym h.item) (record { space = refl; is = f.2 }))
      (tt, (record { function = own.1.function; present = own.1.present; same = own.1.same ∙ sym own.2 }, tt), tt) refl

  -- the entry of an instance of the scope
  instance_at : (index x : ℕ) → address_at spaces.Instance index c.items ≡ Some x → (e : InstanceEntry) × IsInstanceThing s e (record { space = spaces.Instance; address = x }) × (get_or (inventory earlier).instances index OtherInstance ≡ e)
  instance_at index x at =
      let things : List Thing = filter (is_of spaces.Instance) c.items in
      let t : (t : Thing) × (slice_get things index ≡ Some t) × (t.address ≡ x) = mapped_some (λ (t : Thing). t.address) (slice_get things index) x at in
      let e = AllZip-back (IsInstanceThing s) (inventory earlier).instances things index t.0 a.instances t.1 in (
        e.0,
        record { exports = e.2.exports; present = ap (slice_get s.instances) (sym t.2) ∙ e.2.present; is = e.2.is },
        get_or_from_slice_get (inventory earlier).instances index e.0 OtherInstance e.1,
      )

  module _ (component : ℕ) (written : List Argument) (address : ℕ) (n : IsNestedInstance earlier c.items s component written address) (r : RequiredKey) where
    -- what the nested component exports
    abbrev exported : List NestedExport
    exported = exports_after n.given empty_scope n.definitions

    -- the function that an instance exports is the argument that it was given, and so the lift
    passed_on : (name : List ℕ) → PassesOn w earlier written exported (function_at_key r name) → IsAmong w s n.exports (function_at_key r name)
    passed_on name h =
        let argument_is : List ℕ = h.function.argument in
        let e : FindsArgument n.arguments n.exports name argument_is = finds_argument s.types n.arguments name exported n.exports h.function n.each h.found in
        let y : FindsHeld c.items sorts.Func argument_is n.arguments h.argument.index = finds_held c.items sorts.Func is_function argument_is written n.arguments h.argument n.held h.named in
        let l : (x : ℕ) × (address_at spaces.Func h.argument.index c.items ≡ Some x) × IsRequiredAt w s (function_at_key r name) x = required_there (function_at_key r name) h.argument.index h.lifted in
        let same : e.export.address ≡ y.export.address = address_of_argument n.arguments argument_is e.export.address y.export e.is y.found in
        let lifted : l.0 ≡ e.export.address = same_Some l.0 y.export.address (sym l.1 ∙ y.at) ∙ sym same in
        record {
          address = e.export.address;
          found = e.found ∙ ap (λ (x : Export). Some x) (by_parts e.export spaces.Func name e.space (found_name name (filter (export_in spaces.Func) n.exports) e.export e.found));
          is = subst (IsRequiredAt w s (function_at_key r name)) lifted l.2;
        }

    all_passed_on : (names : List (List ℕ)) → AllByRecursion (PassesOn w earlier written exported) (map (function_at_key r) names) → AllByRecursion (IsAmong w s n.exports) (map (function_at_key r) names)
    all_passed_on [] h = tt
    all_passed_on (name ∷ names) h = (passed_on name h.0, all_passed_on names h.1)

    -- the types that it exports
    types_there : (ts : List (List ℕ × TypeId)) → AllByRecursion (λ t. type_named t.0 exported ≡ Some (type_of_world w t.1)) ts → AllByRecursion (IsTypeAmong w s n.exports) (map (type_at_key r.key) ts)
    types_there [] h = tt
    types_there (t ∷ ts) h =
        let e : FindsType s.types n.exports t.0 (type_of_world w t.1) = finds_nested_type s.types n.arguments t.0 exported n.exports (type_of_world w t.1) n.each h.0 in (
          record {
            address = e.export.address;
            found = e.found ∙ ap (λ (x : Export). Some x) (by_parts e.export spaces.Type t.0 e.space (found_name t.0 (filter (export_in spaces.Type) n.exports) e.export e.found));
            is = e.is;
          },
          types_there ts h.1,
        )

  pub step_export_instance : (name : ExternName) (index : ℕ) → ExportsInterface w earlier index → Steps w gen earlier c s g a.events (defs.Item (items.Export name sorts.Instance index None))
  step_export_instance name index h =
      let x : (x : ℕ) × (address_at spaces.Instance index c.items ≡ Some x) × IsNestedInstance earlier c.items s h.component h.arguments x = thing_there a h.instance in
      let n : IsNestedInstance earlier c.items s h.component h.arguments x.0 = x.2 in
      let t : Thing = record { space = spaces.Instance; address = x.0 } in
      let own : (e : InstanceEntry) × IsInstanceThing s e t × (get_or (inventory earlier).instances index OtherInstance ≡ e) = instance_at index x.0 x.1 in
      let given : AreGiven s.types n.arguments (imports_after h.nested.given empty_scope h.nested.definitions) =
      AllByRecursion-weaker (import_given h.arguments n.arguments n.held) (imports_after h.nested.given empty_scope h.nested.definitions) h.nested.each in
      let same : exports_after h.nested.given empty_scope h.nested.definitions ≡ exports_after n.given empty_scope n.definitions =
      same_exported h.nested.given n (one_component h.nested.made n.made) given in
      let each : AllByRecursion (IsAmong w s n.exports) (functions_required w h.required) =
      all_passed_on h.component h.arguments x.0 n h.required (functions_in w.resolve (exported_item w h.required.key))
      (subst (λ xs. AllByRecursion (PassesOn w earlier h.arguments xs) (functions_required w h.required)) same h.each) in
      let listed : AllByRecursion (IsTypeAmong w s n.exports) (map (type_at_key h.required.key) (named_types w.resolve h.id)) =
      types_there h.component h.arguments x.0 n h.required (named_types w.resolve h.id) (subst (ExportsTypes w h.id) same h.types) in
      let types : AllByRecursion (IsTypeAmong w s n.exports) (types_required w h.required) =
      subst (λ (o : Option WorldItem). AllByRecursion (IsTypeAmong w s n.exports) (map (type_at_key h.required.key) (types_in w o))) (sym h.item) listed in
      export_step name sorts.Instance index x.0 h.required x.1 h.next
      (subst (IsItemExport w s h.required (record { space = spaces.Instance; name = name.name; address = x.0 })) (sym h.item) (record { space = refl; exports = n.exports; present = n.present; each = each; types = types }))
      (tt, tt, (subst (λ e. IsInstanceThing s e t) (sym own.2) own.1, tt)) refl
    where
      items_in : List Item → Def → List Item
      items_in other (defs.Component inner) = inner
      items_in other d = other

      -- one component has one list of definitions
      one_component : {component : ℕ} {is js : List Item} → IsAt earlier spaces.Component component (defs.Component is) → IsAt earlier spaces.Component component (defs.Component js) → is ≡ js
      one_component {component} {is} {js} h k = ap (items_in js) (same_Some (defs.Component is) (defs.Component js) (sym h.made ∙ k.made))

      -- and where it is given these arguments, one list of exports
      same_exported : {component address : ℕ} {written : List Argument} {definitions : List Item} (given : List ℕ → TypeTree) (n : IsNestedInstance earlier c.items s component written address) → definitions ≡ n.definitions →
          AreGiven s.types n.arguments (imports_after given empty_scope definitions) → exports_after given empty_scope definitions ≡ exports_after n.given empty_scope n.definitions
      same_exported {component} {address} {written} {definitions} given n same k =
          ap (exports_after given empty_scope) same ∙ same_exports s.types n.arguments given n.given n.definitions (subst (λ (is : List Item). AreGiven s.types n.arguments (imports_after given empty_scope is)) same k) n.imports
