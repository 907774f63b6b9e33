-- The core instances in their order: each step leaves what the next one needs, and together they are what is added.
use Rattle.std.proofs.Common.{◌≡◌, ◌∙◌, ◌+◌, ◌<◌, ◌^◌, suc, true, false, Bool, ℕ, List, [], ◌∷◌, ◌++◌, append_assoc, append-nil, Option, Some, None, inl, inr, sym, ap, subst, length, filter_map, arith}
use Rattle.std.specs.List.{range_with_len}
use Rattle.comp_bytes.specs.Spaces.{items_in}
use Rattle.comp_bytes.specs.declared.def.Def.{Def}
use Rattle.comp_bytes.specs.declared.space.Space.TheVariants as spaces
use Rattle.comp_worlds.specs.declared.world.ComponentWorld.{ComponentWorld}
use Rattle.comp_links.specs.Modules.{user_modules}
use Rattle.comp_items.proofs.Kept.{instance-kept}
use Rattle.comp_inventories.specs.Inventories.{inventory}
use Rattle.comp_links.specs.Lists.{provided_resources}
use Rattle.comp_worlds.specs.Bases.{AreBasesAlike}
use Rattle.shim_plan.specs.declared.shims.Shim.{Shim}
use Rattle.world_shims.specs.WorldShims.{shims_of}
use Rattle.comp_terms.proofs.HasShims.{nothing_needed}
use Rattle.comp_terms.specs.Generated.{has_shim_module, shims_number, number_behind, fixup_number, IsFixup}
use Rattle.comp_terms.specs.Rules.{Grows, Landmark, InstanceOf, ModuleIs, instance_number, instances_in, shims_if, resources_marked, users_marked, fixup_marked}
use Rattle.root_imports.specs.Growing.{Grows-none, Grows-then, longer_by}
use Rattle.main_instance.specs.Shims.{MayAddShims}
use Rattle.main_instance.specs.Sources.{IsShimInstance}
use Rattle.core_instances.specs.Instances.{AreUserModules, HasUserModules, IsFixupNext, MayAddFixup, AddsInstances}
use Rattle.core_instances.proofs.Counting.{module_mark, modules_grown, instances_grown, no_fewer, no_modules_defined, no_instances_defined, no_modules_made, instances_made}
use Rattle.exported_types.proofs.Resourced.{resources_grown}

-- ---- after the core modules

pub shims_next : (w : ComponentWorld) (ds : List Def) → AreUserModules w ds → items_in spaces.CoreModule ds ≡ shims_number w
shims_next w ds h = h.count

-- ---- after the shims

pub modules_kept : {w : ComponentWorld} {old new : List Def} {marks : List Landmark} → Grows w old new marks → HasUserModules w old → HasUserModules w new
modules_kept {w} {old} {new} {marks} g h = record { there = let l = h.there in let more = no_fewer g in omega (arith, l, more); room = h.room }

has_modules : (w : ComponentWorld) (ds : List Def) → AreUserModules w ds → HasUserModules w ds
has_modules w ds h = record { there = let count = h.count in omega (arith, count); room = h.room }

pub modules_after : (w : ComponentWorld) (debug_names : Bool) (old new : List Def) (shims : Option ℕ) → MayAddShims w debug_names old new shims → AreUserModules w old → HasUserModules w new
modules_after w debug_names old new None h f = subst (HasUserModules w) (sym h.1) (has_modules w old f)
modules_after w debug_names old new (Some instance) h f = modules_kept h.0.grows (has_modules w old f)

pub shims_after : (w : ComponentWorld) (debug_names : Bool) (old new : List Def) (shims : Option ℕ) → MayAddShims w debug_names old new shims → IsShimInstance w new shims
shims_after w debug_names old new None h = h.0
shims_after w debug_names old new (Some instance) h = h.0.made

pub none_after : (w : ComponentWorld) (debug_names : Bool) (old new : List Def) (shims : Option ℕ) → MayAddShims w debug_names old new shims → (inventory old).resources ≡ 0 → (inventory new).resources ≡ 0
none_after w debug_names old new None h none = ap (λ ds. (inventory ds).resources) h.1 ∙ none
none_after w debug_names old new (Some instance) h none = let grown = resources_grown h.0.grows in omega (arith, grown, none)

-- ---- after the instances of the user modules

-- their numbers, and no modules
users_numbered : (w : ComponentWorld) → filter_map instance_number (resources_marked w ++ users_marked w) ≡ range_with_len 0 (length (user_modules w))
users_numbered w = no_instances_defined (provided_resources w) (users_marked w) ∙ instances_made (range_with_len 0 (length (user_modules w)))

no_module_more : (w : ComponentWorld) → filter_map module_mark (resources_marked w ++ users_marked w) ≡ []
no_module_more w =
    no_modules_defined (provided_resources w) (users_marked w)
    ∙ (ap (filter_map module_mark) (sym (append-nil (users_marked w))) ∙ no_modules_made (range_with_len 0 (length (user_modules w))) [])

few_shims : (w : ComponentWorld) → shims_of w ≡ [] → length (shims_of w) < 2 ^ 32
few_shims w none = let count = ap (λ (l : List Shim). length l) none in omega (arith, count)

pub fixup_next : (w : ComponentWorld) (debug_names : Bool) (old mid new : List Def) (shims : Option ℕ) → AreUserModules w old → MayAddShims w debug_names old mid shims → Grows w mid new (resources_marked w ++ users_marked w) → IsFixupNext w new shims
fixup_next w debug_names old mid new None users h g =
    let has : has_shim_module w ≡ false = h.0 in
    let none : shims_of w ≡ [] = (nothing_needed w has).0 in
    let b : items_in spaces.CoreModule new ≡ items_in spaces.CoreModule mid + 0 = modules_grown g ∙ ap (λ (l : List (List ℕ)). items_in spaces.CoreModule mid + length l) (no_module_more w) in
    let same : items_in spaces.CoreModule mid ≡ items_in spaces.CoreModule old = ap (items_in spaces.CoreModule) h.1 in
    let count : items_in spaces.CoreModule old ≡ shims_number w = users.count in
    let number : fixup_number w ≡ shims_number w = ap (λ b. number_behind b (shims_number w)) has in
    let first : instances_in mid ≡ [] = ap instances_in h.1 ∙ users.nothing in
    record {
      room = few_shims w none;
      made = λ any. absurd (any none);
      last = instances_grown g ∙ (ap (λ l. instances_in mid ++ l) (users_numbered w) ∙ (ap (λ l. l ++ range_with_len 0 (length (user_modules w))) first ∙ ap (λ b. shims_if w b ++ range_with_len 0 (length (user_modules w))) (sym has)));
      next = omega (arith, b, same, count, number);
    }
fixup_next w debug_names old mid new (Some instance) users h g =
    let has : has_shim_module w ≡ true = h.1 in
    let a : items_in spaces.CoreModule mid ≡ items_in spaces.CoreModule old + 1 = modules_grown h.0.grows in
    let b : items_in spaces.CoreModule new ≡ items_in spaces.CoreModule mid + 0 = modules_grown g ∙ ap (λ (l : List (List ℕ)). items_in spaces.CoreModule mid + length l) (no_module_more w) in
    let count : items_in spaces.CoreModule old ≡ shims_number w = users.count in
    let number : fixup_number w ≡ suc (shims_number w) = ap (λ b. number_behind b (shims_number w)) has in
    let first : instances_in mid ≡ shims_number w ∷ [] = instances_grown h.0.grows ∙ ap (λ l. l ++ shims_number w ∷ []) users.nothing in
    record {
      room = h.0.room;
      made = λ any. instance-kept (longer_by g) h.0.made;
      last = instances_grown g ∙ (ap (λ l. instances_in mid ++ l) (users_numbered w) ∙ (ap (λ l. l ++ range_with_len 0 (length (user_modules w))) first ∙ ap (λ b. shims_if w b ++ range_with_len 0 (length (user_modules w))) (sym has)));
      next = omega (arith, a, b, count, number);
    }

-- ---- all of them

-- with the fixup, or without
module _ (w : ComponentWorld) (debug_names : Bool) (old new : List Def) where
  record FixupAdded : Type 0 where
    fixup : Option (List ℕ)
    is : IsFixup w debug_names fixup
    grows : Grows w old new (fixup_marked w fixup)

  fixup_added : MayAddFixup w debug_names old new → FixupAdded
  fixup_added (inl h) = record { fixup = None; is = h.0; grows = subst (λ l. Grows w old l []) (sym h.1) (Grows-none w old) }
  fixup_added (inr h) = record { fixup = Some h.1.bytes; is = (h.1.encodes, h.0); grows = h.1.grows }

pub all_added : (w : ComponentWorld) (debug_names : Bool) (a b c d : List Def) (shims : Option ℕ) → MayAddShims w debug_names a b shims → AreBasesAlike w → Grows w b c (resources_marked w ++ users_marked w) → MayAddFixup w debug_names c d → AddsInstances w debug_names a d
all_added w debug_names a b c d None h alike g f =
    let x : FixupAdded w debug_names c d = fixup_added w debug_names c d f in
    record {
      generated = record { shims = None; fixup = x.fixup };
      are_generated = record { shims = h.0; fixup = x.is; room = few_shims w (nothing_needed w h.0).0; alike = alike };
      grows = subst (λ m. Grows w a d m) (append_assoc (resources_marked w) (users_marked w) (fixup_marked w x.fixup)) (Grows-then (subst (λ l. Grows w l c (resources_marked w ++ users_marked w)) h.1 g) x.grows);
    }
all_added w debug_names a b c d (Some instance) h alike g f =
    let x : FixupAdded w debug_names c d = fixup_added w debug_names c d f in
    record {
      generated = record { shims = Some h.0.bytes; fixup = x.fixup };
      are_generated = record { shims = (h.0.encodes, h.1); fixup = x.is; room = h.0.room; alike = alike };
      grows = subst (λ m. Grows w a d (ModuleIs h.0.bytes ∷ InstanceOf (shims_number w) ∷ m)) (append_assoc (resources_marked w) (users_marked w) (fixup_marked w x.fixup)) (Grows-then h.0.grows (Grows-then g x.grows));
    }
