-- A world that was prepared has the modules that were gathered.
use Rattle.std.proofs.Common.{◌≡◌, ◌∙◌, ℕ, List, [], ◌∷◌, ◌++◌, map, append_assoc, append-nil, refl, sym, ap, Option, Some, None, Result, Ok, Err}
use Rattle.std.specs.Prelude.{⊤}
use Rattle.std.specs.Option.{option_map}
use Rattle.std.proofs.lemmas.List.{map-append}
use Rattle.comp_worlds.specs.Gathering.{gathered_module, world_module, HasModules}
use Rattle.comp_worlds.specs.WorldTables.{whole_of}
use Rattle.comp_worlds.specs.declared.world.ComponentWorld.{ComponentWorld}
use Rattle.comp_worlds.specs.declared.world.WorldAdapter.{WorldAdapter}
use Rattle.comp_worlds.specs.declared.world.WorldParts.{WorldParts}
use Rattle.core_sections.specs.Entries.{module_of}
use Rattle.record_faults.specs.declared.fault.Failure.{Failure}
use Rattle.record_faults.specs.Faults.{◌>>=◌, lifted}
use Rattle.record_merge.specs.declared.bindgen.Bindgen.{Bindgen}
use Rattle.record_resolve.specs.declared.resolving.Resolved.{Resolved}
use Rattle.supported_worlds.specs.LeftOut.{left_out, unless_left_out, encoded}
use Rattle.world_values.specs.declared.gathered.Gathered.{Gathered}
use Rattle.world_values.specs.declared.gathered.GatheredAdapter.{GatheredAdapter}
use Rattle.world_values.specs.declared.gathered.Part.{Part}
use Rattle.gathered_worlds.specs.Arguments.{Adapters, arguments_of}
use Rattle.gathered_worlds.specs.Reach.{reach_of, others_for}
use Rattle.gathered_worlds.specs.declared.reach.Reach.{Reach}
use Rattle.record_imports.specs.Arguments.{Arguments}
use Rattle.record_imports.specs.declared.others.OtherModules.{OtherModules}
use Rattle.linked_modules.specs.Linking.{links_pass}
use Rattle.gathered_worlds.specs.Preparing.{adapters_pass, combined, checked_roles, parts_of, core_parts, module_parts, adapter_parts, adapter_in, adapters_after, world_with, world_parts, parts_within, linked_world, preparing_if, preparing}
use Rattle.gathered_worlds.specs.declared.modules.ModuleParts.{ModuleParts}

-- what comes first succeeds, where the whole does
record Then {A B : Type 0} (r : Result A Failure) (go : A → Result B Failure) (y : B) : Type 0 where
  value : A
  first : r ≡ Ok value
  rest : go value ≡ Ok y

then_ok : {A B : Type 0} (r : Result A Failure) (go : A → Result B Failure) (y : B) → (r >>= go) ≡ Ok y → Then r go y
then_ok (Ok x) go y e = record { value = x; first = refl; rest = e }
then_ok (Err f) go y e = absurd cc

abbrev as_ok : {A : Type 0} → A → Result A Failure
as_ok x = Ok x

one_value : {A : Type 0} (x y : A) → as_ok x ≡ as_ok y → x ≡ y
one_value x y same = cc (same)

encoded_whole : (p : WorldParts) (w : ComponentWorld) → encoded p ≡ Ok w → whole_of p ≡ w
unfolding encoded
encoded_whole p w e = by (left_out p) e
  where
    by : (o : Option (List ℕ)) → unless_left_out o (whole_of p) ≡ Ok w → whole_of p ≡ w
    by None e = cc
    by (Some what) e = absurd cc

-- a module of the world has the bytes of its part
part_bytes : (r : Resolved) (others : OtherModules) (arguments : Arguments) (part : Part Bindgen) (m : ModuleParts) → module_parts r others arguments part ≡ Ok m → part.bytes ≡ m.info.bytes
unfolding module_parts core_parts
part_bytes r others arguments part m e =
    let core : Then (lifted (module_of part.bytes)) (λ core. core_parts r others arguments part core) m = then_ok (lifted (module_of part.bytes)) (λ core. core_parts r others arguments part core) m e in
    let roles : Then (checked_roles r others arguments part core.value) (λ c. Ok (parts_of r part core.value c)) m = then_ok (checked_roles r others arguments part core.value) (λ c. Ok (parts_of r part core.value c)) m core.rest in
    ap (λ (z : ModuleParts). z.info.bytes) (one_value (parts_of r part core.value roles.value) m roles.rest)

adapter_bytes : (r : Resolved) (reach : Reach) (a : GatheredAdapter Bindgen) (m : ModuleParts) → adapter_parts r reach a ≡ Ok m → a.part.bytes ≡ m.info.bytes
unfolding adapter_parts
adapter_bytes r reach a m e = part_bytes r (others_for reach a.library_info) (arguments_of a.library_info) a.part m e

-- so have the adapters, under their names and in order
adapters_world : (r : Resolved) (reach : Reach) (done : List (List ℕ × WorldAdapter)) (rest : Adapters) (made : List (List ℕ × WorldAdapter)) → adapters_after r reach done rest ≡ Ok made → map world_module done ++ map gathered_module rest ≡ map world_module made
adapters_world r reach done [] made e = append-nil (map world_module done) ∙ ap (map world_module) (one_value done made e)
adapters_world r reach done (a ∷ rest) made e =
    let go : ModuleParts → Result (List (List ℕ × WorldAdapter)) Failure = λ m. adapters_after r reach (done ++ adapter_in a m ∷ []) rest in
    let part : Then (adapter_parts r reach a.1) go made = then_ok (adapter_parts r reach a.1) go made e in
    let same : gathered_module a ≡ world_module (adapter_in a part.value) = ap (λ (b : List ℕ). (a.0, b)) (adapter_bytes r reach a.1 part.value part.first) in
    sym (append_assoc (map world_module done) (gathered_module a ∷ []) (map gathered_module rest))
    ∙ (ap (λ x. (map world_module done ++ x ∷ []) ++ map gathered_module rest) same
    ∙ (ap (λ xs. xs ++ map gathered_module rest) (sym (map-append world_module done (adapter_in a part.value ∷ [])))
    ∙ adapters_world r reach (done ++ adapter_in a part.value ∷ []) rest made part.rest))

-- the world of main and the adapters
record IsOfModules (main : Part Bindgen) (adapters : Adapters) (w : ComponentWorld) : Type 0 where
  bytes : main.bytes ≡ w.main.bytes
  others : map gathered_module adapters ≡ map world_module w.adapters

whole_world : (r : Resolved) (main : Part Bindgen) (adapters : Adapters) (w : ComponentWorld) → (world_parts r main adapters >>= linked_world) ≡ Ok w → IsOfModules main adapters w
unfolding parts_within
whole_world r main adapters w e =
    let slot = main.own.roles.context_slot_1 in
    let parts : Then (world_parts r main adapters) linked_world w = then_ok (world_parts r main adapters) linked_world w e in
    let links : Then (links_pass parts.value) (λ _. encoded parts.value) w = then_ok (links_pass parts.value) (λ _. encoded parts.value) w parts.rest in
    let go : ModuleParts → Result WorldParts Failure = λ m. adapters_after r (reach_of adapters) [] adapters >>= λ made. Ok (world_with r.resolve m made slot) in
    let one : Then (module_parts r (reach_of adapters).main [] main) go parts.value = then_ok (module_parts r (reach_of adapters).main [] main) go parts.value parts.first in
    let rest_of : List (List ℕ × WorldAdapter) → Result WorldParts Failure = λ made. Ok (world_with r.resolve one.value made slot) in
    let others : Then (adapters_after r (reach_of adapters) [] adapters) rest_of parts.value = then_ok (adapters_after r (reach_of adapters) [] adapters) rest_of parts.value one.rest in
    let is : world_with r.resolve one.value others.value slot ≡ parts.value = one_value (world_with r.resolve one.value others.value slot) parts.value others.rest in
    let whole : whole_of (world_with r.resolve one.value others.value slot) ≡ w = ap whole_of is ∙ encoded_whole parts.value w links.rest in
    record {
      bytes = part_bytes r (reach_of adapters).main [] main one.value one.first ∙ ap (λ (x : ComponentWorld). x.main.bytes) whole;
      others = adapters_world r (reach_of adapters) [] adapters others.value others.first ∙ ap (λ (x : ComponentWorld). map world_module x.adapters) whole;
    }

pub prepared_modules : (g : Gathered Bindgen) (w : ComponentWorld) → preparing g ≡ Ok w → HasModules g w
unfolding preparing
prepared_modules g w e =
    let rest : ⊤ → Result ComponentWorld Failure = λ _. combined g.options.merge_imports_based_on_semver g.combined.wit >>= λ r. preparing_if r g.main g.adapters in
    let passed : Then (adapters_pass g.options.realloc_via_memory_grow g.adapters) rest w = then_ok (adapters_pass g.options.realloc_via_memory_grow g.adapters) rest w e in
    let resolved : Then (combined g.options.merge_imports_based_on_semver g.combined.wit) (λ r. preparing_if r g.main g.adapters) w =
    then_ok (combined g.options.merge_imports_based_on_semver g.combined.wit) (λ r. preparing_if r g.main g.adapters) w passed.rest in
    by resolved.value g.main refl resolved.rest
  where
    by : (r : Resolved) (o : Option (Part Bindgen)) → g.main ≡ o → preparing_if r o g.adapters ≡ Ok w → HasModules g w
    by r None same e = absurd cc
    by r (Some main) same e =
        let is : IsOfModules main g.adapters w = whole_world r main g.adapters w e in
        record {
          main = ap (option_map (λ (p : Part Bindgen). p.bytes)) same ∙ ap (λ b. Some b) is.bytes;
          adapters = is.others;
        }
