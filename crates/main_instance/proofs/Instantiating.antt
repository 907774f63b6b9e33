-- The module of shims and its instance keep the rules.
use Rattle.std.proofs.Common.{true, false, true≢false, is_some, ◌≡◌, ◌∙◌, ◌⊎◌, ◌<◌, ◌^◌, ℕ, Bool, IsSome, List, [], ◌∷◌, ◌++◌, length, ap, sym, subst, refl, filter_map, inl, inr, Option, Some, None}
use Rattle.std.specs.Prelude.{codes}
use Rattle.std.proofs.lemmas.Option.{none-some}
use Rattle.core_bytes.specs.declared.section.Section.{Section}
use Rattle.core_types.specs.declared.types.MemoryType.{MemoryType}
use Rattle.core_types.specs.declared.types.ValType.{ValType}
use Rattle.world_shims.specs.Refusals.{if_needed}
use Rattle.core_bytes.specs.Modules.{Encodes}
use Rattle.comp_builder.specs.Built.{Built}
use Rattle.comp_bytes.proofs.ItemIndices.{in_range}
use Rattle.comp_bytes.specs.declared.name.Name.{Name}
use Rattle.comp_bytes.specs.declared.types.Alias.TheVariants as aliases
use Rattle.standard_kinds.specs.declared.kinds.ExportKind.TheVariants as kinds
use Rattle.comp_items.specs.Items.{Extends, MayAdd}
use Rattle.comp_items.proofs.Kept.{Longer, instance-kept}
use Rattle.comp_bytes.specs.ItemIndices.{IsAt}
use Rattle.comp_bytes.specs.Spaces.{items_in}
use Rattle.comp_bytes.specs.declared.def.Def.{Def}
use Rattle.comp_bytes.specs.declared.def.Def.TheVariants as defs
use Rattle.comp_bytes.specs.declared.def.Item.TheVariants as items
use Rattle.comp_bytes.specs.declared.space.Space.TheVariants as spaces
use Rattle.comp_worlds.specs.Bases.{cell_type}
use Rattle.comp_worlds.specs.Offered.{shared_memory}
use Rattle.comp_worlds.specs.declared.world.ComponentWorld.{ComponentWorld}
use Rattle.shim_modules.specs.Shims.{getter_name, setter_name}
use Rattle.shim_plan.specs.Plans.{shim_of}
use Rattle.shim_plan.specs.declared.kinds.ShimKind.{ShimKind}
use Rattle.shim_plan.specs.declared.shims.Shim.{Shim}
use Rattle.comp_terms.proofs.HasShims.{has_by_shims}
use Rattle.comp_terms.specs.Generated.{has_shims_in, has_shim_module, shims_number}
use Rattle.comp_terms.specs.Rules.{Grows, ModuleIs, InstanceOf, instance_number, landmark, landmarks, instances_in}
use Rattle.comp_terms.specs.Terms.{IsInstanceOf}
use Rattle.root_imports.specs.Growing.{Grows-by, Grows-may, Grows-then}
use Rattle.std.proofs.lemmas.List.Elements.{filter_map-append}
use Rattle.world_shims.specs.WorldShims.{shims_of, sections_of_shims}
use Rattle.main_instance.specs.Shims.{AddsShims}
use Rattle.main_instance.specs.Sources.{IsShimInstance}

pub extends_by : (old new : Built) (d : Def) (names : List Name) → new ≡ record { defs = old.defs ++ d ∷ []; names = old.names ++ names } → Extends old new
extends_by old new d names h = record { more_defs = d ∷ []; more_names = names; defs = ap (λ (b : Built). b.defs) h; names = ap (λ (b : Built). b.names) h }

-- a module is no instance
still_first : (bytes : List ℕ) (old mid : List Def) → mid ≡ old ++ defs.Item (items.CoreModule bytes) ∷ [] → instances_in old ≡ [] → instances_in mid ≡ []
still_first bytes old mid appended first =
    ap instances_in appended ∙ (ap (λ l. filter_map instance_number l) (filter_map-append landmark old (defs.Item (items.CoreModule bytes) ∷ [])) ∙ (filter_map-append instance_number (landmarks old) (ModuleIs bytes ∷ []) ∙ ap (λ l. l ++ []) first))

pub adds_shims : (w : ComponentWorld) (debug_names : Bool) (old mid new : List Def) (bytes : List ℕ) (index instance : ℕ) →
    Encodes bytes (sections_of_shims (shared_memory w) (cell_type w) (shims_of w) debug_names) → length (shims_of w) < 2 ^ 32 → has_shim_module w ≡ true → instances_in old ≡ [] → items_in spaces.CoreModule old ≡ shims_number w →
    index ≡ items_in spaces.CoreModule old → mid ≡ old ++ defs.Item (items.CoreModule bytes) ∷ [] → IsAt mid spaces.CoreModule index (defs.Item (items.CoreModule bytes)) →
    new ≡ mid ++ defs.Item (items.CoreInstantiate index []) ∷ [] → IsInstanceOf new instance index → AddsShims w debug_names old new instance
adds_shims w debug_names old mid new bytes index instance encodes room any first next is module_added at instance_added made =
    let number : index ≡ shims_number w = is ∙ next in
    let one : Grows w old mid (ModuleIs bytes ∷ []) = Grows-by (defs.Item (items.CoreModule bytes)) module_added tt in
    let two : Grows w mid new (InstanceOf index ∷ []) =
    Grows-by (defs.Item (items.CoreInstantiate index [])) instance_added (inr (inl (record { numbered = number; any = any; scoped = in_range at; first = still_first bytes old mid module_added first; closed = refl }))) in
    record {
      bytes = bytes;
      encodes = encodes;
      room = room;
      grows = subst (λ n. Grows w old new (ModuleIs bytes ∷ InstanceOf n ∷ [])) number (Grows-then one two);
      made = subst (λ n. IsInstanceOf new instance n) number made;
    }

-- an alias of the memory that it exports for the one that main imports keeps its rule
pub shared_alias_grows : (w : ComponentWorld) (old new : List Def) (instance : ℕ) (name : List ℕ) → IsInstanceOf old instance (shims_number w) → IsSome (shared_memory w) → name ≡ codes "$memory" →
    MayAdd old new (defs.Item (items.Alias (aliases.CoreExport kinds.Memory instance name))) → Grows w old new []
shared_alias_grows w old new instance name made shared named adds =
    Grows-may (defs.Item (items.Alias (aliases.CoreExport kinds.Memory instance name))) refl adds (inr (inr (inl (record { is = made; shared = shared; named = named; memory = refl }))))

-- and adds nothing else
pub adds_alias : (w : ComponentWorld) (debug_names : Bool) (old mid new : List Def) (instance : ℕ) → AddsShims w debug_names old mid instance → Longer mid new → Grows w mid new [] → AddsShims w debug_names old new instance
adds_alias w debug_names old mid new instance a longer grows =
    record { bytes = a.bytes; encodes = a.encodes; room = a.room; grows = Grows-then a.grows grows; made = instance-kept longer a.made }

-- so does an alias of a function of the cell
pub cell_alias_grows : (w : ComponentWorld) (old new : List Def) (instance : ℕ) (name : List ℕ) → IsInstanceOf old instance (shims_number w) → IsSome (cell_type w) → (name ≡ getter_name) ⊎ (name ≡ setter_name) →
    MayAdd old new (defs.Item (items.Alias (aliases.CoreExport kinds.Func instance name))) → Grows w old new []
cell_alias_grows w old new instance name made there named adds =
    Grows-may (defs.Item (items.Alias (aliases.CoreExport kinds.Func instance name))) refl adds (inr (inr (inr (record { is = made; there = there; named = named; function = refl }))))

-- the module is made where there is one
pub is_needed : (w : ComponentWorld) (memory : Option MemoryType) (cell : Option ValType) (shims : List Shim) (debug_names : Bool) (made : Option (List Section)) →
    memory ≡ shared_memory w → cell ≡ cell_type w → shims ≡ shims_of w → made ≡ if_needed memory cell shims (sections_of_shims memory cell shims debug_names) → has_shim_module w ≡ is_some made
is_needed w memory cell shims debug_names made memory_is cell_is shims_are h =
    ap (λ (o : Option MemoryType). has_shims_in (shims_of w) o (cell_type w)) (sym memory_is)
    ∙ ap (λ (o : Option ValType). has_shims_in (shims_of w) memory o) (sym cell_is)
    ∙ ap (λ (ss : List Shim). has_shims_in ss memory cell) (sym shims_are)
    ∙ by shims memory cell (sections_of_shims memory cell shims debug_names)
    ∙ sym (ap is_some h)
  where
    by : (ss : List Shim) (memory : Option MemoryType) (cell : Option ValType) (sections : List Section) → has_shims_in ss memory cell ≡ is_some (if_needed memory cell ss sections)
    by [] None None sections = refl
    by [] None (Some type) sections = refl
    by [] (Some memory) cell sections = refl
    by (s ∷ ss) None None sections = refl
    by (s ∷ ss) None (Some type) sections = refl
    by (s ∷ ss) (Some memory) cell sections = refl

-- then it has an instance
pub instance_there : (w : ComponentWorld) (ds : List Def) (instance : Option ℕ) → IsShimInstance w ds instance → has_shim_module w ≡ true → IsSome instance
instance_there w ds None h any = absurd (true≢false (sym any ∙ h))
instance_there w ds (Some index) h any = refl

pub has_by_kind : (w : ComponentWorld) (kind : ShimKind) (shim : Shim) → shim_of kind (shims_of w) ≡ Some shim → has_shim_module w ≡ true
has_by_kind w kind shim h = has_by_shims w (λ none. none-some shim (sym (ap (shim_of kind) none) ∙ h))
