-- The sets of the interfaces that a world imports and exports.
use Rattle.std.proofs.Common.{◌≡◌, ◌∙◌, ap, ap₂, refl, ◌||◌, Bool, true, false, [], ◌∷◌}
use Rattle.std.specs.List.{list_any}
use Rattle.comp_lists.specs.Tables.{with_first}
use Rattle.wit_data.specs.contracts.ids.InterfaceIdEq.TheImpl.Laws.{laws-law as id_laws}
use Rattle.wit_data.specs.declared.functions.Function.{Function}
use Rattle.wit_data.specs.declared.ids.InterfaceId.{InterfaceId}
use Rattle.wit_data.specs.declared.ids.TypeId.{TypeId}
use Rattle.wit_data.specs.declared.worlds.World.{World}
use Rattle.wit_data.specs.declared.worlds.WorldItem.TheVariants as items
use Rattle.wit_data.specs.declared.worlds.WorldKey.{WorldKey}
use Rattle.world_tables.proofs.Entering.{in_first}
use Rattle.world_values.specs.Mentions.{same_interface, interfaces_of}
use Rattle.comp_worlds.specs.Encodable.{Entries}
use Rattle.supported_worlds.specs.Lent.{InterfaceSet, has, HasInterfaces, AreLent}

-- the set has the interfaces among the items before the remaining ones
pub record InterfacesSoFar (all rest : Entries) (set : InterfaceSet) : Type 0 where
  pub each : (id : InterfaceId) → (has set id || list_any (same_interface id) (interfaces_of rest)) ≡ list_any (same_interface id) (interfaces_of all)

pub set_start : (all : Entries) → InterfacesSoFar all all []
set_start all = record { each = λ id. refl }

or_assoc : (a b c : Bool) → ((a || b) || c) ≡ (a || (b || c))
or_assoc true b c = refl
or_assoc false b c = refl

pub set_interface : (all rest : Entries) (key : WorldKey) (id : InterfaceId) (set new : InterfaceSet) → InterfacesSoFar all ((key, items.Interface id) ∷ rest) set → new ≡ with_first same_interface set id tt → InterfacesSoFar all rest new
set_interface all rest key id set new h made = record {
  each = λ other.
      ap (λ (s : InterfaceSet). has s other || list_any (same_interface other) (interfaces_of rest)) made
      ∙ ap (λ b. b || list_any (same_interface other) (interfaces_of rest)) (in_first same_interface id_laws set id tt other)
      ∙ or_assoc (has set other) (same_interface other id) (list_any (same_interface other) (interfaces_of rest))
      ∙ h.each other;
}

pub set_function : (all rest : Entries) (key : WorldKey) (f : Function) (set : InterfaceSet) → InterfacesSoFar all ((key, items.Function f) ∷ rest) set → InterfacesSoFar all rest set
set_function all rest key f set h = record { each = h.each }

pub set_type : (all rest : Entries) (key : WorldKey) (id : TypeId) (set : InterfaceSet) → InterfacesSoFar all ((key, items.NamedType id) ∷ rest) set → InterfacesSoFar all rest set
set_type all rest key id set h = record { each = h.each }

or_false : (b : Bool) → b ≡ (b || false)
or_false true = refl
or_false false = refl

pub set_end : (all : Entries) (set : InterfaceSet) → InterfacesSoFar all [] set → HasInterfaces all set
set_end all set h = record { each = λ id. or_false (has set id) ∙ h.each id }

pub are_lent : (w : World) (imported exported : InterfaceSet) → HasInterfaces w.imports imported → HasInterfaces w.exports exported → AreLent w (record { imported = imported; exported = exported })
are_lent w imported exported first second = record { each = λ id. ap₂ (λ a b. a || b) (first.each id) (second.each id) }
