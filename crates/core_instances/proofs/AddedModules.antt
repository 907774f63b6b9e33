-- The core modules of the user modules, one after the other.
use Rattle.std.proofs.Common.{arith, ◌≡◌, ◌≤◌, ◌∙◌, ◌^◌, ℕ, Bool, suc, List, [], ◌∷◌, ◌++◌, length, drop, Option, Some, None, Result, Ok, Err, map, append_assoc, append-nil, refl, sym, ap, subst, filter_map}
use Rattle.std.specs.List.{AllByRecursion}
use Rattle.std.proofs.lemmas.List.{map-append}
use Rattle.comp_bytes.specs.Spaces.{items_in}
use Rattle.comp_bytes.specs.declared.space.Space.TheVariants as spaces
use Rattle.comp_builder.specs.Built.{Built}
use Rattle.comp_items.specs.Items.{Extends}
use Rattle.comp_items.proofs.Extending.{extends_then}
use Rattle.core_types.specs.Core.{IsCoreModule}
use Rattle.comp_worlds.specs.Worlds.{IsWorld, IsUserModule}
use Rattle.comp_worlds.specs.declared.world.ComponentWorld.{ComponentWorld}
use Rattle.comp_worlds.specs.declared.world.WorldAdapter.{WorldAdapter}
use Rattle.comp_links.specs.Modules.{adapter_module, user_modules}
use Rattle.comp_terms.specs.UserBytes.{adapter_bytes}
use Rattle.core_sections.specs.Sections.{Piece, pieces_of}
use Rattle.core_sections.specs.declared.fault.SectionFault.{SectionFault}
use Rattle.core_bytes.specs.Renaming.{Part, by_parts, by_pieces, names_index, parts_in_front, with_module_name}
use Rattle.comp_terms.specs.Rules.{Grows, Landmark, ModuleIs, bytes_marked}
use Rattle.root_imports.specs.Growing.{Grows-then}
use Rattle.core_instances.proofs.Counting.{module_mark, modules_grown}

abbrev Adapters : Type 0
Adapters = List (List ℕ × WorldAdapter)

abbrev mark_of : Bool → List ℕ × WorldAdapter → Landmark
mark_of named a = ModuleIs (adapter_bytes named a)

-- main's module and those of the first adapters were added
pub record ModulesSoFar (named : Bool) (w : ComponentWorld) (old new : Built) (rest : Adapters) : Type 0 where
  pub done : Adapters
  pub split : done ++ rest ≡ w.adapters
  pub extends : Extends old new
  pub grows : Grows w old.defs new.defs (ModuleIs w.main.bytes ∷ map (mark_of named) done)
  pub room : items_in spaces.CoreModule new.defs ≤ 2 ^ 32

pub modules_start : (named : Bool) (w : ComponentWorld) (old new : Built) → Extends old new → Grows w old.defs new.defs (ModuleIs w.main.bytes ∷ []) → items_in spaces.CoreModule new.defs ≤ 2 ^ 32 → ModulesSoFar named w old new w.adapters
modules_start named w old new extends grows room = record { done = []; split = refl; extends = extends; grows = grows; room = room }

pub modules_step : (named : Bool) (w : ComponentWorld) (old mid new : Built) (rest : Adapters) (a : List ℕ × WorldAdapter) → ModulesSoFar named w old mid (a ∷ rest) → Extends mid new → Grows w mid.defs new.defs (mark_of named a ∷ []) → items_in spaces.CoreModule new.defs ≤ 2 ^ 32 →
    ModulesSoFar named w old new rest
modules_step named w old mid new rest a h extends grows room = record {
  done = h.done ++ a ∷ [];
  split = append_assoc h.done (a ∷ []) rest ∙ h.split;
  extends = extends_then old mid new h.extends extends;
  grows = subst (λ (m : List Landmark). Grows w old.defs new.defs m) (ap (λ l. ModuleIs w.main.bytes ∷ l) (sym (map-append (mark_of named) h.done (a ∷ [])))) (Grows-then h.grows grows);
  room = room;
}

-- a module that gets a name is a core module still
pub named_is_module : (bytes name : List ℕ) → IsCoreModule bytes → IsCoreModule (with_module_name bytes name).bytes
named_is_module bytes name h = by (pieces_of bytes)
  where
    by_named : (ps : List Piece) (parts : Option (List Part)) → IsCoreModule (by_parts bytes name ps parts).bytes
    by_named ps None = h
    by_named ps (Some parts) = refl

    by : (pieces : Result (List Piece) SectionFault) → IsCoreModule (by_pieces bytes name pieces).bytes
    by (Err e) = h
    by (Ok ps) = by_named ps (parts_in_front (drop (names_index ps) ps))

-- each of them begins as core modules do
pub module_right : (named : Bool) (w : ComponentWorld) → IsWorld w → (old mid : Built) (rest : Adapters) (a : List ℕ × WorldAdapter) → ModulesSoFar named w old mid (a ∷ rest) → IsCoreModule a.1.info.bytes
module_right named w ok old mid rest a h = by h.done w.adapters h.split ok.adapters
  where
    by : (done all : Adapters) → done ++ a ∷ rest ≡ all → AllByRecursion (λ (x : List ℕ × WorldAdapter). IsUserModule w x.1.info x.1.required_exports) all → IsCoreModule a.1.info.bytes
    by [] all e right = (subst (AllByRecursion (λ (x : List ℕ × WorldAdapter). IsUserModule w x.1.info x.1.required_exports)) (sym e) right).0.core
    by (d ∷ done) all e right = by done (done ++ a ∷ rest) refl (subst (AllByRecursion (λ (x : List ℕ × WorldAdapter). IsUserModule w x.1.info x.1.required_exports)) (sym e) right).1

marks_same : (named : Bool) (as_list : Adapters) → map (mark_of named) as_list ≡ map ModuleIs (map (adapter_bytes named) as_list)
marks_same named [] = refl
marks_same named (a ∷ as_list) = ap (λ l. mark_of named a ∷ l) (marks_same named as_list)

-- all of them were
pub record AllModules (named : Bool) (w : ComponentWorld) (old new : Built) : Type 0 where
  pub grows : Grows w old.defs new.defs (bytes_marked named w)
  pub room : items_in spaces.CoreModule old.defs ≡ 0 → length (user_modules w) ≤ 2 ^ 32

pub modules_all : (named : Bool) (w : ComponentWorld) (old new : Built) (rest : Adapters) → ModulesSoFar named w old new rest → rest ≡ [] → AllModules named w old new
modules_all named w old new rest h e =
    let all : h.done ≡ w.adapters = sym (append-nil h.done) ∙ (ap (λ r. h.done ++ r) (sym e) ∙ h.split) in
    let whole : Grows w old.defs new.defs (bytes_marked named w) = subst (λ (m : List Landmark). Grows w old.defs new.defs m) (ap (λ l. ModuleIs w.main.bytes ∷ l) (ap (map (mark_of named)) all ∙ marks_same named w.adapters)) h.grows in
    record {
      grows = whole;
      room = λ none.
          let grown = modules_grown whole in
          let many = counted w.adapters in
          let room = h.room in
          omega (arith, grown, many, room, none);
    }
  where
    counted : (as_list : Adapters) → length (filter_map module_mark (map ModuleIs (map (adapter_bytes named) as_list))) ≡ length (map adapter_module as_list)
    counted [] = refl
    counted (a ∷ as_list) = ap suc (counted as_list)
