-- The tables of types hold in a list that grows at its end.
use Rattle.std.proofs.Common.{ℕ, ◌≡◌, subst, sym, List, Option, Some, None}
use Rattle.comp_bytes.specs.declared.def.Def.{Def}
use Rattle.wit_types.specs.Maps.{no_maps}
use Rattle.wit_types.specs.Allowing.{foreign}
use Rattle.comp_trees.specs.DefinedTrees.{TypeTree}
use Rattle.comp_lists.proofs.Lists.{AllByRecursion-weaker}
use Rattle.comp_builder.specs.Built.{Built}
use Rattle.comp_inventories.specs.Inventories.{scope_of}
use Rattle.comp_inventories.proofs.InventoryGrowth.{scope_grows}
use Rattle.comp_worlds.specs.declared.world.ComponentWorld.{ComponentWorld}
use Rattle.wit_types.specs.Denoting.{Longer as LongerScope}
use Rattle.wit_types.specs.declared.maps.TypeEncodingMaps.{TypeEncodingMaps}
use Rattle.wit_types.proofs.Growing.{faithful_on}
use Rattle.comp_items.specs.Items.{Extends}
use Rattle.comp_items.proofs.Extending.{extends_none, extends_same, extends_then}
use Rattle.comp_items.proofs.Remembering.{longer}
use Rattle.wit_data.specs.declared.ids.InterfaceId.{InterfaceId}
use Rattle.wit_types.specs.Maps.{Faithful, NamedAs}
use Rattle.wit_types.specs.Settings.{Setting, tree_in, name_at, owner_at}
use Rattle.root_imports.specs.Growing.{known_kept}
use Rattle.root_imports.specs.Interfaces.{AreInstancesKnown, AreInterfacesKnown}
use Rattle.root_imports.specs.Met.{nothing_met}
use Rattle.root_imports.specs.declared.met_types.MetTypes.{MetTypes}
use Rattle.root_imports.proofs.Meeting.{none_met}
use Rattle.root_imports.specs.RootScopes.{any_index, root_setting, AreTablesRight}

-- what each type index denotes, in a longer list
pub scope_longer : (old new : Built) → Extends old new → LongerScope (scope_of old.defs) (scope_of new.defs)
scope_longer old new g =
    let b = scope_grows old.defs g.more_defs in
    subst (λ ds. LongerScope (scope_of old.defs) (scope_of ds)) (sym g.defs) (record { more = b.more; longer = b.grown })

pub tables_kept : (w : ComponentWorld) (met : MetTypes) (instances : List (InterfaceId × ℕ)) (old new : Built) (maps : TypeEncodingMaps) → Extends old new → AreTablesRight w met instances old.defs maps → AreTablesRight w met instances new.defs maps
tables_kept w met instances old new maps g h = faithful_on (scope_longer old new g) (λ name i n. n) (known_kept (longer g)) h

-- A type has any index under its name, whichever interface's types are defined.
any_name : (other : Option InterfaceId) (name : Option (List ℕ)) (index : ℕ) → NamedAs any_index other name index
any_name (Some other) name index = tt
any_name None None index = tt
any_name None (Some name) index = tt

-- so tables that are right for one interface are right for another
pub other_interface : (w : ComponentWorld) (i j : Option InterfaceId) (met : MetTypes) (scope : List TypeTree) (known : Type 0) (maps : TypeEncodingMaps) → Faithful (root_setting w i met) scope any_index known maps → Faithful (root_setting w j met) scope any_index known maps
unfolding tree_in
other_interface w i j met scope known maps h = record {
  offers = h.offers;
  ids = h.ids;
  named = AllByRecursion-weaker (λ e n. record { as_own = any_name (foreign j (owner_at w.resolve.types e.0.index)) (name_at w.resolve.types e.0.index) e.1 }) maps.id_to_index h.named;
  kinds = h.kinds;
  functions = h.functions;
  met = h.met;
}

-- tables that are right in the scope as it is after a call
pub tables_in : (w v : ComponentWorld) (interface : Option InterfaceId) (met after : MetTypes) (instances : List (InterfaceId × ℕ)) (ds : List Def) (maps : TypeEncodingMaps) (s : Setting) → s ≡ root_setting w interface met → v ≡ w → after ≡ met → Faithful s (scope_of ds) any_index (AreInterfacesKnown v ds after.exported instances) maps →
    AreTablesRight w met instances ds maps
tables_in w v interface met after instances ds maps s setting same at h =
    other_interface w interface None met (scope_of ds) (AreInterfacesKnown w ds met.exported instances) maps
    (subst (λ x. Faithful (root_setting w interface met) (scope_of ds) any_index (AreInterfacesKnown x ds met.exported instances) maps) same
    (subst (λ (m : MetTypes). Faithful (root_setting w interface met) (scope_of ds) any_index (AreInterfacesKnown v ds m.exported instances) maps) at (subst (λ t. Faithful t (scope_of ds) any_index (AreInterfacesKnown v ds after.exported instances) maps) setting h)))

-- tables of nothing
pub tables_start : (w : ComponentWorld) (instances : List (InterfaceId × ℕ)) (ds : List Def) → AreInstancesKnown w ds instances → AreTablesRight w nothing_met instances ds no_maps
tables_start w instances ds known = record { ids = tt; named = tt; kinds = tt; functions = tt; offers = record { imports = known; exports = record { each = tt } }; met = λ id e. absurd (none_met w None id e) }

pub ruleset growing = (extends_none, extends_same, extends_then)
