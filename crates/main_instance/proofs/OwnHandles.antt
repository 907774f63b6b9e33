-- Resources that the component defines: they are in the tables, and known by their numbers.
use Rattle.std.proofs.Common.{◌≡◌, ◌∙◌, ◌&&◌, ℕ, true, List, [], Option, ap, sym, subst, IsSome, Contains}
use Rattle.comp_lists.proofs.Lists.{AllByRecursion-contains}
use Rattle.comp_bytes.specs.declared.def.Def.{Def}
use Rattle.comp_links.specs.Lists.{resource_of}
use Rattle.comp_terms.specs.Terms.{IsResource}
use Rattle.comp_terms.specs.Rules.{HasOwnResource}
use Rattle.comp_worlds.specs.Encodable.{IsEncodable}
use Rattle.comp_worlds.specs.ExportOrder.{interface_among, required_interfaces}
use Rattle.comp_worlds.specs.WorldContents.{exported_item, interface_at, keys_required, name_at}
use Rattle.comp_worlds.specs.declared.world.ComponentWorld.{ComponentWorld}
use Rattle.interface_needs.proofs.Lists.{contains_flat, contains_first}
use Rattle.interface_needs.proofs.OwnResources.{own_number, resource_defined}
use Rattle.wit_data.specs.declared.ids.InterfaceId.{InterfaceId}
use Rattle.wit_data.specs.declared.ids.TypeId.{TypeId}
use Rattle.wit_data.specs.declared.worlds.WorldItem.{WorldItem}
use Rattle.root_imports.proofs.Meeting.{all_types_met}
use Rattle.root_imports.specs.Met.{is_met, is_named_of, is_owned_by, has_types}
use Rattle.root_imports.specs.declared.met_types.MetTypes.{MetTypes}
use Rattle.interface_needs.proofs.Lending.{same_self}
use Rattle.main_instance.specs.Sources.{IsDefinedHere, AreExportsMet}

-- its interface has to be exported
required : (w : ComponentWorld) (id : TypeId) (h : IsDefinedHere w id) → Contains (required_interfaces w) h.own.interface
required w id h =
    contains_flat (λ key. interface_among (exported_item w key)) (keys_required w) h.key h.own.interface h.own.required
    (subst (λ (o : Option WorldItem). Contains (interface_among o) h.own.interface) (sym h.own.exported) (contains_first h.own.interface []))

-- it has a name, and belongs to that interface
named : (w : ComponentWorld) → IsEncodable w → (id : TypeId) (h : IsDefinedHere w id) → is_named_of w.resolve.types h.own.interface id.index ≡ true
named w ok id h =
    let some : IsSome (name_at w.resolve.types id.index) = (ok.types id.index h.own.resource.present).named h.own.resource.kind in
    let owned : is_owned_by h.own.interface (interface_at w.resolve.types id.index) ≡ true = ap (is_owned_by h.own.interface) h.own.owner ∙ same_self h.own.interface in
    ap (λ b. b && is_owned_by h.own.interface (interface_at w.resolve.types id.index)) some ∙ owned

pub own_met : (w : ComponentWorld) → IsEncodable w → (met : MetTypes) → AreExportsMet w met → (id : TypeId) → IsDefinedHere w id → is_met w met id ≡ true
own_met w ok met exports id h =
    all_types_met w met id h.own.interface (AllByRecursion-contains (λ (interface : InterfaceId). has_types met interface ≡ true) (required_interfaces w) h.own.interface exports (required w id h)) (named w ok id h)

-- a type index of such a resource is one of a resource of the component's own
pub own_resource_at : (w : ComponentWorld) → IsEncodable w → (id : TypeId) → IsDefinedHere w id → (ds : List Def) (index : ℕ) → IsResource ds index (resource_of w id) → HasOwnResource ds index
own_resource_at w ok id h ds index is =
    let n = own_number w ok h.key id h.own in
    record { number = n.0; is = subst (IsResource ds index) (resource_defined w ok n.0 id n.1) is }
