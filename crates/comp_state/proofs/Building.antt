-- The steps in their order build a whole component.
use Rattle.comp_links.specs.Naming.{Naming}
use Rattle.std.proofs.Common.{take, zero, suc, slice_get, ◌≡◌, ◌∙◌, ℕ, ◌==◌, Bool, true, false, List, [], ◌∷◌, ◌++◌, length, refl, sym, ap, subst, append-nil, append_assoc, Option, Some, None, IsSome, is_some, ◌⊎◌, inl, inr, true≢false, if◌then◌else◌}
use Rattle.comp_lists.proofs.Lists.{AllByRecursion-contains}
use Rattle.comp_builder.specs.Built.{Built}
use Rattle.comp_bytes.specs.DebugNames.{names_text}
use Rattle.comp_builder.specs.Naming.{with_names}
use Rattle.comp_bytes.specs.declared.def.Def.{Def}
use Rattle.comp_bytes.specs.declared.def.Def.TheVariants as defs
use Rattle.comp_bytes.specs.declared.def.Item.TheVariants as items
use Rattle.std.specs.Prelude.{codes}
use Rattle.comp_links.specs.Modules.{UserImport, user_imports}
use Rattle.comp_worlds.specs.declared.world.ComponentWorld.{ComponentWorld}
use Rattle.core_instances.specs.Instances.{instances_marked, AddsInstances}
use Rattle.core_options.specs.Causes.{IsEncoded, IsEncodedExport, LacksEncoding, LacksMemory, LacksRealloc, NeedsLowering, NeedsLift, ImportsMemory, ExportsLater}
use Rattle.comp_roles.specs.declared.libraries.MainOrAdapter.TheVariants as modules
use Rattle.comp_worlds.specs.Offered.{memory_of_main}
use Rattle.comp_worlds.specs.Bases.{HasUnlikeBases}
use Rattle.comp_worlds.specs.Made.{modules_named, IsMadeBefore, AreMadeAfter, IsNotYetMade}
use Rattle.comp_worlds.specs.declared.world.WorldAdapter.{WorldAdapter}
use Rattle.comp_worlds.specs.ExportOrder.{exported_before, used_exports}
use Rattle.world_values.specs.Mentions.{same_interface}
use Rattle.std.proofs.lemmas.Option.{none-some, same_Some}
use Rattle.std.specs.List.{AllByRecursion, list_any}
use Rattle.std.specs.Map.{keys_of}
use Rattle.core_options.specs.MainOptions.{HasLowerOptions, HasLiftOptions}
use Rattle.comp_links.specs.Lists.{required_functions}
use Rattle.comp_links.specs.Links.{role_realloc, lift_realloc}
use Rattle.comp_terms.specs.Generated.{GeneratedBytes, AreGenerated}
use Rattle.comp_links.specs.Roles.{import_encoding, export_encoding}
use Rattle.comp_links.specs.Supplied.{IsSuppliedImport}
use Rattle.comp_inventories.specs.Inventories.{inventory}
use Rattle.comp_terms.specs.Terms.{imports_in}
use Rattle.comp_terms.specs.Rules.{Grows, RightAfter, Landmark, bytes_marked, landmarks, imports_marked, exports_marked, expected, IsUnnamed, IsBuilt}
use Rattle.root_imports.specs.Growing.{Grows-then}

-- a list that grew from the empty one
pub built_from : (n : Naming) (w : ComponentWorld) (b : GeneratedBytes) → AreGenerated w n.debug_names b → (old new : List Def) → old ≡ [] → Grows w old new (expected n w b) → IsUnnamed n w new
built_from n w b generated old new empty g =
    let same : new ≡ g.more = g.extended ∙ ap (λ l. l ++ g.more) empty in
    let right : RightAfter w [] g.more = subst (λ l. RightAfter w l g.more) empty g.right in
    record { generated = b; are_generated = generated; right = subst (λ l. RightAfter w [] l) (sym same) right; marked = ap landmarks same ∙ g.marked }

pub built_by_steps : (n : Naming) (w : ComponentWorld) (a b c d e : List Def) → a ≡ [] → Grows w a b (imports_marked n w) → Grows w b c (bytes_marked n.debug_names w) → AddsInstances w n.debug_names c d → Grows w d e (exports_marked n w) → IsUnnamed n w e
built_by_steps n w a b c d e empty imports main added exports =
    built_from n w added.generated added.are_generated a e empty
    (subst (λ m. Grows w a e m) (modules_are added.generated) (Grows-then imports (Grows-then main (Grows-then added.grows exports))))
  where
    modules_are : (b : GeneratedBytes) → imports_marked n w ++ (bytes_marked n.debug_names w ++ (instances_marked w b ++ exports_marked n w)) ≡ expected n w b
    modules_are b = ap (λ m. imports_marked n w ++ m) (sym (append_assoc (bytes_marked n.debug_names w) (instances_marked w b) (exports_marked n w)))

-- the landmarks of a list that grew from the empty one
pub marked_from : (w : ComponentWorld) (old new : List Def) (m : List Landmark) → old ≡ [] → Grows w old new m → landmarks new ≡ m
marked_from w old new m empty g = ap landmarks (g.extended ∙ ap (λ l. l ++ g.more) empty) ∙ g.marked

right_after : (w : ComponentWorld) (earlier ds more : List Def) → RightAfter w earlier ds → RightAfter w (earlier ++ ds) more → RightAfter w earlier (ds ++ more)
right_after w earlier [] more h k = subst (λ l. RightAfter w l more) (append-nil earlier) k
right_after w earlier (d ∷ ds) more h k = (h.0, right_after w (earlier ++ d ∷ []) ds more h.1 (subst (λ l. RightAfter w l more) (sym (append_assoc earlier (d ∷ []) ds)) k))

-- a component with the names of its items, where there are any
pub built_named : (n : Naming) (w : ComponentWorld) (old new : Built) → new ≡ with_names old → IsUnnamed n w old.defs → IsBuilt n w new.defs
built_named n w old new same h = subst (λ (b : Built). IsBuilt n w b.defs) (sym same) (named (length old.names == 0) (names_text old.names).bytes)
  where
    named : (b : Bool) (contents : List ℕ) →
        IsBuilt n w (if b then old else record { defs = old.defs ++ defs.Item (items.Custom (codes "component-name") contents) ∷ []; names = old.names }).defs
    named true contents = record { generated = h.generated; are_generated = h.are_generated; front = old.defs; names = []; whole = sym (append-nil old.defs); right = h.right; marked = h.marked; named = tt }
    named false contents = record {
      generated = h.generated;
      are_generated = h.are_generated;
      front = old.defs;
      names = defs.Item (items.Custom (codes "component-name") contents) ∷ [];
      whole = refl;
      right = right_after w [] old.defs (defs.Item (items.Custom (codes "component-name") contents) ∷ []) h.right (tt, tt);
      marked = h.marked;
      named = refl;
    }

lacks_none : {X : Type 0} (o : Option X) → IsSome o → o ≡ None → ⊥
lacks_none None h e = true≢false (sym h)
lacks_none (Some x) h e = true≢false (ap is_some e)

-- where everything has an encoding, nothing lacks one
pub encoded_lacks : (w : ComponentWorld) → IsEncoded w → (place : List ℕ) → LacksEncoding w place → ⊥
encoded_lacks w h place (inl l) =
    lacks_none (import_encoding w l.given.of l.given.core.role) ((AllByRecursion-contains (λ (i : UserImport). IsSuppliedImport w i.of i.core.role) (user_imports w) l.given h.imports l.present).encoding l.needs) l.none
encoded_lacks w h place (inr l) = lacks_none (export_encoding w l.required.of l.required.key l.required.function) (AllByRecursion-contains (IsEncodedExport w) (required_functions w) l.required h.exports l.present) l.none

-- where main has what lowerings and lifts need, nothing is missing
pub encoded_memory : (w : ComponentWorld) → IsEncoded w → (place : List ℕ) → LacksMemory w (user_imports w) (required_functions w) place → ⊥
encoded_memory w h place l = lacks_none (memory_of_main w.main) (offered l.needed) l.none
  where
    offered : NeedsLowering w 1 (user_imports w) place ⊎ NeedsLift w 1 (required_functions w) place ⊎ ImportsMemory (user_imports w) place → IsSome (memory_of_main w.main)
    offered (inl n) = let has = AllByRecursion-contains (HasLowerOptions w) (user_imports w) n.given h.lowered n.present in has.memory n.needed
    offered (inr (inr n)) =
        let has = AllByRecursion-contains (λ (i : UserImport). IsSuppliedImport w i.of i.core.role) (user_imports w) n.given h.imports n.present in
        has.memory n.is
    offered (inr (inl n)) = let has = AllByRecursion-contains (HasLiftOptions w) (required_functions w) n.required h.lifted n.present in has.memory n.needed

pub encoded_realloc : (w : ComponentWorld) → IsEncoded w → (place : List ℕ) → LacksRealloc w (user_imports w) (required_functions w) place → ⊥
encoded_realloc w h place (inl l) =
    let has = AllByRecursion-contains (HasLowerOptions w) (user_imports w) l.needed.given h.lowered l.needed.present in lacks_none (role_realloc w l.needed.given.of l.needed.given.core.role) (has.realloc l.needed.needed) l.none
encoded_realloc w h place (inr l) = let has = AllByRecursion-contains (HasLiftOptions w) (required_functions w) l.needed.required h.lifted l.needed.present in lacks_none (lift_realloc w l.needed.required.of) (has.realloc l.needed.needed) l.none

-- where all modules agree on the type of the thread-local base, no two differ
pub encoded_bases : (w : ComponentWorld) → IsEncoded w → HasUnlikeBases w → ⊥
encoded_bases w h l = l.apart (same_Some l.one l.other (sym (h.alike l.one l.has_one) ∙ h.alike l.other l.has_other))

-- where interfaces are exported behind those that they use, none is exported too early
pub encoded_order : (w : ComponentWorld) → IsEncoded w → (interface used : List ℕ) → ExportsLater w interface used → ⊥
encoded_order w h interface used l =
    true≢false (sym (AllByRecursion-contains (λ other. list_any (same_interface other) (exported_before w l.later.number) ≡ true) (used_exports w l.id) l.other (h.ordered.each l.later.number l.id l.later.exported) l.later.uses) ∙ l.later.later)

-- where adapters are instantiated behind those that they name, none names a later one
named_before : (names : List (List ℕ)) (adapters : List (List ℕ × WorldAdapter)) (place : ℕ) (name : List ℕ) (a : WorldAdapter) → AreMadeAfter names adapters → slice_get adapters place ≡ Some (name, a) → AllByRecursion (IsMadeBefore (names ++ take place (keys_of adapters))) (modules_named a)
named_before names [] place name a h e = absurd (none-some (name, a) e)
named_before names (x ∷ adapters) zero name a h e =
    subst (λ l. AllByRecursion (IsMadeBefore l) (modules_named a)) (sym (append-nil names)) (subst (λ (b : WorldAdapter). AllByRecursion (IsMadeBefore names) (modules_named b)) (ap (λ (y : List ℕ × WorldAdapter). y.1) (same_Some x (name, a) e)) h.0)
named_before names (x ∷ adapters) (suc place) name a h e =
    subst (λ l. AllByRecursion (IsMadeBefore l) (modules_named a)) (append_assoc names (x.0 ∷ []) (take place (keys_of adapters))) (named_before (names ++ x.0 ∷ []) adapters place name a h.1 e)

pub encoded_made : (w : ComponentWorld) → IsEncoded w → (adapter name : List ℕ) → IsNotYetMade w adapter name → ⊥
encoded_made w h adapter name l = l.later (AllByRecursion-contains (IsMadeBefore (take l.place (keys_of w.adapters))) (modules_named l.of) (modules.Adapter name) (named_before [] w.adapters l.place adapter l.of h.made.each l.listed) l.names)

-- the empty list has no imports
pub no_definitions : (ds : List Def) → ds ≡ [] → imports_in ds ≡ 0
unfolding inventory
no_definitions ds empty = ap imports_in empty
