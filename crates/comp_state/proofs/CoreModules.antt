-- After the core modules of the user modules, these are the only ones, and nothing is instantiated.
use Rattle.std.proofs.Common.{◌≡◌, ◌≤◌, ◌^◌, ◌∙◌, ℕ, Bool, suc, List, [], ◌∷◌, ◌++◌, refl, ap, sym, length, map, filter, filter_map, arith}
use Rattle.comp_bytes.specs.Spaces.{items_in}
use Rattle.comp_bytes.specs.declared.def.Def.{Def}
use Rattle.comp_bytes.specs.declared.space.Space.TheVariants as spaces
use Rattle.std.specs.List.{flat_map}
use Rattle.std.proofs.lemmas.List.{length-map}
use Rattle.comp_worlds.specs.declared.world.ComponentWorld.{ComponentWorld}
use Rattle.comp_links.specs.Lists.{ImportEntry, ImportedInterface, WorldType, RootFunction, import_entries}
use Rattle.comp_links.specs.Modules.{adapter_module, user_modules}
use Rattle.comp_links.specs.Naming.{Naming}
use Rattle.comp_terms.specs.UserBytes.{adapter_bytes, user_bytes}
use Rattle.comp_terms.specs.Rules.{Grows, Landmark, ModuleIs, bytes_marked, import_marked, imports_marked, instance_number, instances_in, landmarks}
use Rattle.core_instances.proofs.Counting.{module_mark, modules_counted, modules_grown, instances_grown}
use Rattle.core_instances.specs.Instances.{AreUserModules}
use Rattle.exported_types.proofs.Resourced.{is_defined, resources_grown, resources_of}

-- imports are no modules, and no instances of them
no_modules : (n : Naming) (w : ComponentWorld) (es : List ImportEntry) → filter_map module_mark (flat_map (import_marked n w) es) ≡ []
no_modules n w [] = refl
no_modules n w (ImportedInterface key id ∷ es) = no_modules n w es
no_modules n w (WorldType name id ∷ es) = no_modules n w es
no_modules n w (RootFunction name ∷ es) = no_modules n w es

no_instances : (n : Naming) (w : ComponentWorld) (es : List ImportEntry) → filter_map instance_number (flat_map (import_marked n w) es) ≡ []
no_instances n w [] = refl
no_instances n w (ImportedInterface key id ∷ es) = no_instances n w es
no_instances n w (WorldType name id ∷ es) = no_instances n w es
no_instances n w (RootFunction name ∷ es) = no_instances n w es

no_resources : (n : Naming) (w : ComponentWorld) (es : List ImportEntry) → filter is_defined (flat_map (import_marked n w) es) ≡ []
no_resources n w [] = refl
no_resources n w (ImportedInterface key id ∷ es) = no_resources n w es
no_resources n w (WorldType name id ∷ es) = no_resources n w es
no_resources n w (RootFunction name ∷ es) = no_resources n w es

pub none_before : (n : Naming) (w : ComponentWorld) (ds : List Def) → landmarks ds ≡ imports_marked n w → items_in spaces.CoreModule ds ≡ 0
none_before n w ds h = modules_counted ds ∙ ap length (ap (filter_map module_mark) h ∙ no_modules n w (import_entries w))

-- as many core modules more as there are user modules, and nothing else
bytes_counted : (bytes : List (List ℕ)) → length (filter_map module_mark (map ModuleIs bytes)) ≡ length bytes
bytes_counted [] = refl
bytes_counted (b ∷ bytes) = ap suc (bytes_counted bytes)

no_instance_made : (bytes : List (List ℕ)) → filter_map instance_number (map ModuleIs bytes) ≡ []
no_instance_made [] = refl
no_instance_made (b ∷ bytes) = no_instance_made bytes

none_defined : (bytes : List (List ℕ)) → filter is_defined (map ModuleIs bytes) ≡ []
none_defined [] = refl
none_defined (b ∷ bytes) = none_defined bytes

each_has_bytes : (debug_names : Bool) (w : ComponentWorld) → length (user_bytes debug_names w) ≡ length (user_modules w)
each_has_bytes debug_names w = ap suc (length-map w.adapters (adapter_bytes debug_names) ∙ sym (length-map w.adapters adapter_module))

pub users_after : (n : Naming) (w : ComponentWorld) (old new : List Def) → landmarks old ≡ imports_marked n w → Grows w old new (bytes_marked n.debug_names w) → length (user_modules w) ≤ 2 ^ 32 → AreUserModules w new
users_after n w old new marked g room =
    let before : items_in spaces.CoreModule old ≡ 0 = none_before n w old marked in
    let more = modules_grown g in
    let many = bytes_counted (user_bytes n.debug_names w) in
    let all = each_has_bytes n.debug_names w in
    let first : instances_in old ≡ [] = ap (filter_map instance_number) marked ∙ no_instances n w (import_entries w) in
    let grown = resources_grown g in
    let none = resources_of old ∙ ap (λ l. length (filter is_defined l)) marked ∙ ap (λ (l : List Landmark). length l) (no_resources n w (import_entries w)) in
    let added = ap (λ (l : List Landmark). length l) (none_defined (user_bytes n.debug_names w)) in
    record {
      count = omega (arith, before, more, many, all);
      room = room;
      nothing = instances_grown g ∙ (ap (λ l. instances_in old ++ l) (no_instance_made (user_bytes n.debug_names w)) ∙ ap (λ l. l ++ []) first);
      none = omega (arith, grown, none, added);
    }
