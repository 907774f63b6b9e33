-- The keys of user modules, one after the other: those of main, and those of the adapters in order.
use Rattle.std.proofs.Common.{arith, ◌≡◌, ◌∙◌, ◌<◌, ◌+◌, ℕ, true, List, [], ◌∷◌, ◌++◌, Some, None, refl, sym, ap, ap₂, subst, append_assoc, append-nil, length, map, take}
use Rattle.std.specs.Prelude.{get_or}
use Rattle.std.specs.List.{AllByRecursion, IsDistinct, flat_map, list_any}
use Rattle.std.specs.Map.{keys_of}
use Rattle.std.specs.Str.{bytes_eq}
use Rattle.std.proofs.lemmas.Grind.{flat_map-append}
use Rattle.std.proofs.lemmas.List.{map-append, take_more, take_all}
use Rattle.std.proofs.lemmas.Option.{slice_get-get_or}
use Rattle.comp_bytes.specs.declared.def.Def.{Def}
use Rattle.comp_inventories.specs.Inventories.{inventory}
use Rattle.wit_data.specs.declared.worlds.WorldKey.{WorldKey}
use Rattle.world_values.specs.Mentions.{same_interface}
use Rattle.comp_items.proofs.Extending.{extends_none}
use Rattle.comp_worlds.specs.ExportOrder.{AreExportsInOrder, interface_among, required_interfaces}
use Rattle.comp_worlds.specs.Lookups.{module_name}
use Rattle.comp_worlds.specs.WorldContents.{keys_required}
use Rattle.comp_worlds.specs.declared.world.ComponentWorld.{ComponentWorld}
use Rattle.comp_worlds.specs.declared.world.WorldAdapter.{WorldAdapter}
use Rattle.comp_links.specs.Lists.{RequiredKey, keys_of_adapter}
use Rattle.comp_links.specs.Modules.{module_found}
use Rattle.comp_links.specs.Targets.{Main, Adapter}
use Rattle.comp_links.proofs.Keys.{key_for}
use Rattle.comp_terms.specs.Rules.{Grows, Landmark, resources_marked}
use Rattle.core_options.specs.MainOptions.{user_of, user_of_name}
use Rattle.interface_needs.proofs.Lending.{passes_among}
use Rattle.interface_needs.proofs.Lists.{all_of_each}
use Rattle.root_imports.specs.Keeping.{Root, RootMoved}
use Rattle.root_imports.specs.Met.{has_types, nothing_met, AreExportsMet}
use Rattle.root_imports.specs.RootScopes.{AreTablesRight}
use Rattle.root_imports.specs.declared.met_types.MetTypes.{MetTypes}
use Rattle.root_imports.proofs.Keeping.{moved_then}
use Rattle.exported_types.specs.ExportedTypes.{exported_types, IsDefinedType, interfaces_at, AreDestructorSources, AreNextKeys, AreShimSources, UsesEarlier}
use Rattle.exported_types.specs.declared.own_resources.DestructorSources.{DestructorSources}
use Rattle.exported_types.specs.declared.own_resources.ShimSources.{ShimSources}
use Rattle.exported_types.proofs.ExportKeys.{KeysDone, all_marked, back, keys_none, keys_then, provided_count, resources_then}
use Rattle.exported_types.proofs.Resourced.{IsSplit, split_at}
use Rattle.exported_types.proofs.AdapterFound.{adapter_found}

-- ---- the keys of one module

-- those before this number are done
pub record KeysSoFar (w : ComponentWorld) (keys : List WorldKey) (old new : Root) (number : ℕ) : Type 0 where
  pub moved : RootMoved w old new
  pub done : KeysDone w (take number keys) old.met new.met old.items.defs new.items.defs

pub keys_start : (w : ComponentWorld) (keys : List WorldKey) (root : Root) → RootMoved w root root → KeysSoFar w keys root root 0
keys_start w keys root moved = record { moved = moved; done = keys_none w root.met root.items.defs }

-- the key of the number is the next one
pub key_at : (keys : List WorldKey) (i : ℕ) (key : WorldKey) → i < length keys → key ≡ get_or keys i key → IsSplit keys i key
key_at keys i key l is = split_at keys i key (slice_get-get_or keys i key l ∙ ap Some (sym is))

pub keys_step : (w : ComponentWorld) (keys : List WorldKey) (old mid new : Root) (number : ℕ) (key : WorldKey) → number < length keys → key ≡ get_or keys number key → KeysSoFar w keys old mid number → RootMoved w mid new →
    KeysDone w (key ∷ []) mid.met new.met mid.items.defs new.items.defs → KeysSoFar w keys old new (number + 1)
keys_step w keys old mid new number key l is h moved done =
    let more : take (number + 1) keys ≡ take number keys ++ key ∷ [] = take_more keys number key l ∙ ap (λ k. take number keys ++ k ∷ []) (sym is) in
    record {
      moved = moved_then w old mid new h.moved moved;
      done = subst (λ ks. KeysDone w ks old.met new.met old.items.defs new.items.defs) (sym more) (keys_then w (take number keys) (key ∷ []) old.met mid.met new.met old.items.defs mid.items.defs new.items.defs h.done done);
    }

pub keys_end : (w : ComponentWorld) (keys : List WorldKey) (old new : Root) (number : ℕ) → length keys ≡ number → KeysSoFar w keys old new number → KeysDone w keys old.met new.met old.items.defs new.items.defs
keys_end w keys old new number whole h = subst (λ ks. KeysDone w ks old.met new.met old.items.defs new.items.defs) (take_all number keys (omega (arith, whole))) h.done

-- ---- the modules

abbrev Adapters : Type 0
Adapters = List (List ℕ × WorldAdapter)

-- the tables with no interface entered
abbrev pub begun : MetTypes → MetTypes
begun met = record nothing_met { last = met.last }

-- the keys of main, and of these adapters
abbrev pub keys_with : ComponentWorld → List (List ℕ × WorldAdapter) → List WorldKey
keys_with w done = w.main_exports ++ flat_map (λ (a : List ℕ × WorldAdapter). a.1.required_exports) done

-- main and the adapters before the rest are done
pub record ModulesDone (w : ComponentWorld) (old new : Root) (rest : List (List ℕ × WorldAdapter)) : Type 0 where
  pub moved : RootMoved w old new
  pub done : List (List ℕ × WorldAdapter)
  pub split : done ++ rest ≡ w.adapters
  pub keys : KeysDone w (keys_with w done) (begun old.met) new.met old.items.defs new.items.defs

-- the root, once no interface is entered
pub root_begun : (old new : Root) → new ≡ record old { met = begun old.met } → AreTablesRight old.world.now new.met old.instances old.items.defs old.maps → RootMoved old.world.now old new
root_begun old new same tables =
    let met : new.met ≡ begun old.met = ap (λ (r : Root). r.met) same in
    let whole : RootMoved old.world.now old (record old { met = new.met }) = record { world = refl; last = ap (λ (m : MetTypes). m.last) met; instances = refl; extends = extends_none old.items; tables = tables } in
    subst (RootMoved old.world.now old) (ap (λ (m : MetTypes). record old { met = m }) met ∙ sym same) whole

-- main's keys are the first
pub main_next : (w : ComponentWorld) (met : MetTypes) (ds : List Def) → (inventory ds).resources ≡ 0 → AreNextKeys w (begun met) ds Main w.main_exports
main_next w met ds none = record { before = []; after = flat_map keys_of_adapter w.adapters; parts = refl; count = none; has = λ other. refl }

pub first_keys : (w : ComponentWorld) (old mid : Root) → mid ≡ record old { met = begun old.met } → (inventory old.items.defs).resources ≡ 0 → (s : DestructorSources) → module_name s.which ≡ None → (keys : List WorldKey) → keys ≡ w.main_exports → AreNextKeys w mid.met mid.items.defs (user_of s.which) keys
first_keys w old mid same none s named keys is =
    subst (λ (r : Root). AreNextKeys w r.met r.items.defs (user_of s.which) keys) (sym same)
    (subst (λ of. AreNextKeys w (begun old.met) old.items.defs of keys) (sym (ap user_of_name named)) (subst (AreNextKeys w (begun old.met) old.items.defs Main) (sym is) (main_next w old.met old.items.defs none)))

pub modules_start : (w : ComponentWorld) (old mid new : Root) (keys : List WorldKey) → mid ≡ record old { met = begun old.met } → keys ≡ w.main_exports → RootMoved w old mid → RootMoved w mid new → KeysDone w keys mid.met new.met mid.items.defs new.items.defs → ModulesDone w old new w.adapters
modules_start w old mid new keys same is begins moved done = record {
  moved = moved_then w old mid new begins moved;
  done = [];
  split = refl;
  keys =
      subst (λ ks. KeysDone w ks (begun old.met) new.met old.items.defs new.items.defs) (is ∙ sym (append-nil w.main_exports))
      (subst (λ (r : Root). KeysDone w keys r.met new.met r.items.defs new.items.defs) same done);
}

-- those of the next adapter come next
pub adapter_next : (w : ComponentWorld) (old mid : Root) (a : List ℕ × WorldAdapter) (rest : List (List ℕ × WorldAdapter)) → (inventory old.items.defs).resources ≡ 0 → ModulesDone w old mid (a ∷ rest) → AreNextKeys w mid.met mid.items.defs (Adapter a.0) a.1.required_exports
adapter_next w old mid a rest none h =
    let before : List RequiredKey = map (key_for Main) w.main_exports ++ flat_map keys_of_adapter h.done in
    let grown = resources_then w (keys_with w h.done) (begun old.met) mid.met old.items.defs mid.items.defs h.keys in
    let many = provided_count w before (keys_with w h.done) (keys_back h.done) in
    record {
      before = before;
      after = flat_map keys_of_adapter rest;
      parts =
          ap (λ (l : List (List ℕ × WorldAdapter)). map (key_for Main) w.main_exports ++ flat_map keys_of_adapter l) (sym h.split)
          ∙ (ap (λ l. map (key_for Main) w.main_exports ++ l) (flat_map-append keys_of_adapter h.done (a ∷ rest))
          ∙ sym (append_assoc (map (key_for Main) w.main_exports) (flat_map keys_of_adapter h.done) (keys_of_adapter a ++ flat_map keys_of_adapter rest)));
      count = omega (arith, grown, many, none);
      has = λ other. h.keys.enters.each other ∙ ap (λ ks. list_any (same_interface other) (interfaces_at w ks)) (sym (keys_back h.done));
    }
  where
    adapters_back : (done : List (List ℕ × WorldAdapter)) → map (λ (r : RequiredKey). r.key) (flat_map keys_of_adapter done) ≡ flat_map (λ (a : List ℕ × WorldAdapter). a.1.required_exports) done
    adapters_back [] = refl
    adapters_back (d ∷ done) = map-append (λ (r : RequiredKey). r.key) (keys_of_adapter d) (flat_map keys_of_adapter done) ∙ ap₂ (λ l m. l ++ m) (back w (Adapter d.0) d.1.required_exports) (adapters_back done)

    keys_back : (done : List (List ℕ × WorldAdapter)) → map (λ (r : RequiredKey). r.key) (map (key_for Main) w.main_exports ++ flat_map keys_of_adapter done) ≡ keys_with w done
    keys_back done = map-append (λ (r : RequiredKey). r.key) (map (key_for Main) w.main_exports) (flat_map keys_of_adapter done) ∙ ap₂ (λ l m. l ++ m) (back w Main w.main_exports) (adapters_back done)

pub next_keys : (w : ComponentWorld) (old mid : Root) (a : List ℕ × WorldAdapter) (rest : List (List ℕ × WorldAdapter)) → (inventory old.items.defs).resources ≡ 0 → ModulesDone w old mid (a ∷ rest) → (s : DestructorSources) → module_name s.which ≡ Some a.0 → (keys : List WorldKey) → keys ≡ a.1.required_exports →
    AreNextKeys w mid.met mid.items.defs (user_of s.which) keys
next_keys w old mid a rest none h s named keys is =
    subst (λ of. AreNextKeys w mid.met mid.items.defs of keys) (sym (ap user_of_name named)) (subst (AreNextKeys w mid.met mid.items.defs (Adapter a.0)) (sym is) (adapter_next w old mid a rest none h))

pub modules_step : (w : ComponentWorld) (old mid new : Root) (a : List ℕ × WorldAdapter) (rest : List (List ℕ × WorldAdapter)) (keys : List WorldKey) → keys ≡ a.1.required_exports → ModulesDone w old mid (a ∷ rest) → RootMoved w mid new →
    KeysDone w keys mid.met new.met mid.items.defs new.items.defs → ModulesDone w old new rest
modules_step w old mid new a rest keys is h moved done =
    let required : List ℕ × WorldAdapter → List WorldKey = λ (a : List ℕ × WorldAdapter). a.1.required_exports in
    let more : keys_with w (h.done ++ a ∷ []) ≡ keys_with w h.done ++ a.1.required_exports =
    ap (λ l. w.main_exports ++ l) (flat_map-append required h.done (a ∷ []) ∙ ap (λ l. flat_map required h.done ++ l) (append-nil a.1.required_exports)) ∙ sym (append_assoc w.main_exports (flat_map required h.done) a.1.required_exports) in
    record {
      moved = moved_then w old mid new h.moved moved;
      done = h.done ++ a ∷ [];
      split = append_assoc h.done (a ∷ []) rest ∙ h.split;
      keys = subst (λ ks. KeysDone w ks (begun old.met) new.met old.items.defs new.items.defs) (sym more) (keys_then w (keys_with w h.done) a.1.required_exports (begun old.met) mid.met new.met old.items.defs mid.items.defs new.items.defs h.keys
          (subst (λ ks. KeysDone w ks mid.met new.met mid.items.defs new.items.defs) is done));
    }

-- ---- once all are done

module _ (w : ComponentWorld) (old new : Root) (rest : List (List ℕ × WorldAdapter)) (h : ModulesDone w old new rest) (e : rest ≡ []) where
  whole : KeysDone w (keys_required w) (begun old.met) new.met old.items.defs new.items.defs
  whole =
      let all : h.done ≡ w.adapters = sym (append-nil h.done) ∙ (ap (λ r. h.done ++ r) (sym e) ∙ h.split) in
      subst (λ done. KeysDone w (keys_with w done) (begun old.met) new.met old.items.defs new.items.defs) all h.keys

  pub modules_grow : Grows w old.items.defs new.items.defs (resources_marked w)
  modules_grow = subst (λ (marks : List Landmark). Grows w old.items.defs new.items.defs marks) (sym (all_marked w)) whole.grows

  pub modules_defined : AllByRecursion (IsDefinedType w new.items.defs) (exported_types w)
  modules_defined = whole.defined

  pub modules_ordered : AreExportsInOrder w
  modules_ordered = record {
    each = λ n id is.
        let uses : UsesEarlier w (begun old.met) (take n (keys_required w)) (id ∷ []) = subst (λ o. UsesEarlier w (begun old.met) (take n (keys_required w)) (interface_among o)) is.item (whole.ordered.each n is.key is.required) in
        uses.0;
  }

  pub modules_met : AreExportsMet w new.met
  modules_met = all_of_each (λ other. has_types new.met other ≡ true) (required_interfaces w) (λ other c. whole.enters.each other ∙ passes_among (required_interfaces w) other c)

-- ---- where the destructors of a module are found

pub main_found : (w : ComponentWorld) (ds : List Def) (s : DestructorSources) (shims : ShimSources) → AreShimSources w ds shims → s.shims ≡ shims → module_name s.which ≡ None → s.found.now ≡ w.main → AreDestructorSources w ds s
main_found w ds s shims h same named found = record {
  shims = subst (AreShimSources w ds) (sym same) h;
  found = ap (module_found w) (ap user_of_name named) ∙ ap Some (sym found);
}

pub adapter_sources_found : (w : ComponentWorld) (ds : List Def) (old mid : Root) (a : List ℕ × WorldAdapter) (rest : List (List ℕ × WorldAdapter)) → IsDistinct bytes_eq (keys_of w.adapters) → ModulesDone w old mid (a ∷ rest) →
    (s : DestructorSources) (shims : ShimSources) → AreShimSources w ds shims → s.shims ≡ shims → module_name s.which ≡ Some a.0 → s.found.now ≡ a.1.info → AreDestructorSources w ds s
adapter_sources_found w ds old mid a rest apart g s shims h same named found = record {
  shims = subst (AreShimSources w ds) (sym same) h;
  found = ap (module_found w) (ap user_of_name named) ∙ (adapter_found w apart g.done a rest g.split ∙ ap Some (sym found));
}
