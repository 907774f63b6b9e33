-- The functions whose results imports return: each is exported, and is in the resolve.
use Rattle.std.proofs.Common.{◌≡◌, ◌∙◌, [], Option, Some, None, refl, ap, sym, subst, Contains}
use Rattle.std.specs.Option.{option_and_then}
use Rattle.std.proofs.lemmas.Option.{none-some}
use Rattle.comp_worlds.specs.Encodable.{IsEncodable}
use Rattle.comp_worlds.specs.ExportOrder.{interface_among, required_interfaces}
use Rattle.comp_worlds.specs.WorldContents.{exported_item, keys_required}
use Rattle.comp_worlds.specs.Worlds.{IsOwnFunction}
use Rattle.comp_worlds.specs.declared.world.ComponentWorld.{ComponentWorld}
use Rattle.wit_data.specs.Sound.{HasFunction}
use Rattle.wit_data.specs.declared.functions.Function.{Function}
use Rattle.wit_data.specs.declared.ids.InterfaceId.{InterfaceId}
use Rattle.wit_data.specs.declared.worlds.WorldItem.{WorldItem}
use Rattle.wit_data.specs.declared.worlds.WorldItem.TheVariants as items
use Rattle.wit_data.specs.declared.worlds.WorldKey.{WorldKey}
use Rattle.world_values.specs.Mentions.{interface_in}
use Rattle.interface_needs.proofs.Lists.{contains_flat, contains_first}
use Rattle.interface_needs.proofs.RootItems.{exported_there, exported_sound}
use Rattle.interface_needs.specs.RootNeeds.{interface_of_item, IsExportedFunction}

pub same_item : (o : Option WorldItem) → interface_of_item o ≡ option_and_then interface_in o
same_item (Some (items.Interface id)) = refl
same_item (Some (items.Function f)) = refl
same_item (Some (items.NamedType id)) = refl
same_item None = refl

pub own_exported : (w : ComponentWorld) (key : WorldKey) (interface : Option InterfaceId) (f : Function) → IsOwnFunction w key interface f → IsExportedFunction w interface f
own_exported w key interface f h = record { key = key; name = f.name; exported = h.exported; of = same_item (exported_item w key) ∙ h.of }

pub own_sound : (w : ComponentWorld) → IsEncodable w → (key : WorldKey) (interface : Option InterfaceId) (f : Function) → IsOwnFunction w key interface f → HasFunction w.resolve f
own_sound w ok key interface f h = exported_sound w ok f (exported_there w (own_exported w key interface f h))

-- the item is this interface
pub item_of : (o : Option WorldItem) (id : InterfaceId) → option_and_then interface_in o ≡ Some id → o ≡ Some (items.Interface id)
item_of (Some (items.Interface other)) id h = ap (λ (x : Option InterfaceId). elim x [ None ↦ Some (items.Interface id) | Some i ↦ Some (items.Interface i) ]) h
item_of (Some (items.Function f)) id h = absurd (none-some id h)
item_of (Some (items.NamedType t)) id h = absurd (none-some id h)
item_of None id h = absurd (none-some id h)

-- its interface, if it is of one, has to be exported
pub own_required : (w : ComponentWorld) (key : WorldKey) (id : InterfaceId) (f : Function) → IsOwnFunction w key (Some id) f → Contains (required_interfaces w) id
own_required w key id f h =
    contains_flat (λ key. interface_among (exported_item w key)) (keys_required w) key id (h.required refl)
    (subst (λ (o : Option WorldItem). Contains (interface_among o) id) (sym (item_of (exported_item w key) id h.of)) (contains_first id []))
