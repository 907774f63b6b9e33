-- The resolves of small records, worked.
use Rattle.std.proofs.Common.{◌≡◌, ℕ, List, [], ◌∷◌, Option, Some, None, Result, Ok, Err, refl, false}
use Rattle.std.specs.Prelude.{codes, map}
use Rattle.standard_kinds.specs.declared.kinds.Primitive.TheVariants as prims
use Rattle.wit_data.specs.declared.types.Type.TheVariants as types
use Rattle.wit_data.specs.declared.types.TypeDefKind.{TypeDefKind}
use Rattle.wit_data.specs.declared.types.TypeDefKind.TheVariants as kinds
use Rattle.wit_data.specs.declared.functions.FunctionKind.{FunctionKind}
use Rattle.wit_data.specs.declared.functions.FunctionKind.TheVariants as forms
use Rattle.wit_data.specs.declared.worlds.WorldItem.{WorldItem}
use Rattle.wit_data.specs.declared.worlds.WorldItem.TheVariants as made_items
use Rattle.json_paths.specs.declared.fault.Failure.{Failure}
use Rattle.record_values.specs.declared.names.InterfaceName.{InterfaceName}
use Rattle.record_values.specs.declared.names.InterfaceName.TheVariants as names
use Rattle.record_values.specs.declared.names.Owner.TheVariants as owners
use Rattle.record_values.specs.declared.names.TypeName.{TypeName}
use Rattle.record_values.specs.declared.types.Node.{Node}
use Rattle.record_values.specs.declared.types.Node.TheVariants as nodes
use Rattle.record_values.specs.declared.types.Typed.{Typed}
use Rattle.record_values.specs.declared.types.Func.{Func}
use Rattle.record_values.specs.declared.types.Interface.{Interface}
use Rattle.record_values.specs.declared.world.Item.{Item}
use Rattle.record_values.specs.declared.world.Item.TheVariants as items
use Rattle.record_values.specs.declared.world.ItemKey.{ItemKey}
use Rattle.record_values.specs.declared.world.ItemKey.TheVariants as keys
use Rattle.record_values.specs.declared.world.Wit.{Wit}
use Rattle.record_resolve.specs.Steps.{nowhere}
use Rattle.record_resolve.specs.Sharing.{shared, type_id}
use Rattle.record_resolve.specs.Types.{after_compound, step, type_of, kind_before, new_type}
use Rattle.record_resolve.specs.Functions.{function_kind, with_param, some_result, function_of}
use Rattle.record_resolve.specs.Ids.{id_name, id_parts}
use Rattle.record_resolve.specs.Interfaces.{with_type_of, with_function_of, items_of, with_interface, with_named}
use Rattle.record_resolve.specs.Worlds.{exported_of, interface_item, function_item, imported_type, with_item, with_finished, all_items}
use Rattle.record_resolve.specs.declared.resolving.Resolved.{Resolved}
use Rattle.record_resolve.specs.Resolved.{imports_of, exports_of, resolved_after, resolved_among, resolved}

abbrev i : InterfaceName
i = names.Imported (codes "i")

abbrev j : InterfaceName
j = names.Exported (codes "j")

abbrev of_i : List ℕ → TypeName
of_i name = record { owner = owners.Interface i; name = name }

abbrev texts : List Node
texts = nodes.Primitive prims.String ∷ nodes.«List» ∷ []

abbrev typed : List ℕ → List Node → Typed
typed name ns = record { name = name; nodes = ns }

abbrev function : List ℕ → List Typed → Option (List Node) → Func
function name params result = record { name = name; is_async = false; params = params; result = result }

-- a resource r, another name l for lists of texts, two functions that take lists of texts, and a method
abbrev body_of_i : Interface
body_of_i = record {
  types = typed (codes "r") (nodes.Resource ∷ []) ∷ typed (codes "l") texts ∷ [];
  functions = function (codes "f") (typed (codes "p") texts ∷ []) None
      ∷ function (codes "g") (typed (codes "p") texts ∷ []) (Some (nodes.Own (of_i (codes "r")) ∷ []))
      ∷ function (codes "[method]r.m") [] (Some (nodes.Named (of_i (codes "l")) ∷ [])) ∷ [];
}

-- another name u for the type l of i, and an optional list of texts
abbrev body_of_j : Interface
body_of_j = record { types = typed (codes "u") (nodes.Named (of_i (codes "l")) ∷ []) ∷ typed (codes "o") (nodes.Primitive prims.String ∷ nodes.«List» ∷ nodes.«Option» ∷ []) ∷ []; functions = [] }

abbrev world : List (ItemKey × Item) → List (ItemKey × Item) → Wit
world imports exports = record { interfaces = (j, body_of_j) ∷ (i, body_of_i) ∷ []; imports = imports; exports = exports }

abbrev imports_i : List (ItemKey × Item)
imports_i = (keys.Name (codes "i"), items.Interface i) ∷ []

abbrev exports_j : List (ItemKey × Item)
exports_j = (keys.Name (codes "j"), items.Interface j) ∷ []

abbrev both : List (ItemKey × Item)
both = (keys.Name (codes "j"), items.Interface j) ∷ (keys.Name (codes "i"), items.Interface i) ∷ []

-- the names and the kinds of the types
abbrev named_kinds : Result Resolved Failure → Result (List (Option (List ℕ) × TypeDefKind)) Failure
named_kinds (Ok r) = Ok (map (λ t. (t.name, t.kind)) r.resolve.types)
named_kinds (Err e) = Err e

-- the kinds of the functions of the interfaces
abbrev forms_of : Result Resolved Failure → Result (List (List FunctionKind)) Failure
forms_of (Ok r) = Ok (map (λ i. map (λ f. f.1.kind) i.functions) r.resolve.interfaces)
forms_of (Err e) = Err e

abbrev list_of_texts : TypeDefKind
list_of_texts = kinds.«List» (types.Primitive prims.String)

-- i alone, imported: the two functions share one list; the named type l is one of its own
imported_only : named_kinds (resolved (world imports_i [])) ≡ Ok ((Some (codes "r"), kinds.Resource) ∷ (Some (codes "l"), list_of_texts) ∷ (None, list_of_texts) ∷ (None, kinds.Own (type_id 0)) ∷ [])
unfolding resolved resolved_among resolved_after imports_of exports_of exported_of all_items with_item with_finished with_named with_interface items_of with_type_of with_function_of new_type kind_before type_of step after_compound shared function_of with_param some_result function_kind interface_item
imported_only = refl

-- j exported, which names a type of i, which is only imported
uses_the_imported : named_kinds (resolved (world imports_i exports_j)) ≡ Ok ((Some (codes "r"), kinds.Resource) ∷ (Some (codes "l"), list_of_texts) ∷ (None, list_of_texts) ∷ (None, kinds.Own (type_id 0)) ∷ (Some (codes "u"), kinds.Alias (types.Id (type_id 1))) ∷ (None, list_of_texts) ∷ (Some (codes "o"), kinds.«Option» (types.Id (type_id 5))) ∷ [])
unfolding resolved resolved_among resolved_after imports_of exports_of exported_of all_items with_item with_finished with_named with_interface items_of with_type_of with_function_of new_type kind_before type_of step after_compound shared function_of with_param some_result function_kind interface_item
uses_the_imported = refl

-- i on both sides: its copy is apart, is made before j, and j names a type of the copy
uses_the_copy : named_kinds (resolved (world imports_i both)) ≡ Ok ((Some (codes "r"), kinds.Resource) ∷ (Some (codes "l"), list_of_texts) ∷ (None, list_of_texts) ∷ (None, kinds.Own (type_id 0)) ∷ (Some (codes "r"), kinds.Resource) ∷ (Some (codes "l"), list_of_texts) ∷ (None, list_of_texts) ∷ (None, kinds.Own (type_id 4)) ∷ (Some (codes "u"), kinds.Alias (types.Id (type_id 5))) ∷ (None, list_of_texts) ∷ (Some (codes "o"), kinds.«Option» (types.Id (type_id 9))) ∷ [])
unfolding resolved resolved_among resolved_after imports_of exports_of exported_of all_items with_item with_finished with_named with_interface items_of with_type_of with_function_of new_type kind_before type_of step after_compound shared function_of with_param some_result function_kind interface_item
uses_the_copy = refl

-- the method belongs to the resource of its own side
methods : forms_of (resolved (world imports_i both)) ≡ Ok ((forms.Freestanding ∷ forms.Freestanding ∷ forms.Method (type_id 0) ∷ []) ∷ (forms.Freestanding ∷ forms.Freestanding ∷ forms.Method (type_id 4) ∷ []) ∷ [] ∷ [])
unfolding resolved resolved_among resolved_after imports_of exports_of exported_of all_items with_item with_finished with_named with_interface items_of with_type_of with_function_of new_type kind_before type_of step after_compound shared function_of with_param some_result function_kind interface_item
methods = refl

-- a function of the world, and the resource r of the world
abbrev method_m : ItemKey × Item
method_m = (keys.Name (codes "[method]r.m"), items.Function (function (codes "[method]r.m") [] None))

abbrev resource_r : ItemKey × Item
resource_r = (keys.Name (codes "r"), items.«Type» (nodes.Resource ∷ []))

abbrev world_forms : Result Resolved Failure → Result (List (List WorldItem)) Failure
world_forms (Ok r) = Ok (map (λ w. map (λ e. e.1) w.imports) r.resolve.worlds)
world_forms (Err e) = Err e

abbrev made_method : FunctionKind → WorldItem
made_method kind = made_items.Function (record { name = codes "[method]r.m"; kind = kind; params = []; result = None })

-- a method of the world belongs to a resource that comes later
resource_later : world_forms (resolved (world (method_m ∷ resource_r ∷ []) [])) ≡ Ok ((made_method (forms.Method (type_id 0)) ∷ made_items.NamedType (type_id 0) ∷ []) ∷ [])
unfolding resolved resolved_among resolved_after imports_of exports_of exported_of all_items with_item with_finished function_item imported_type function_of new_type kind_before function_kind
resource_later = refl

-- a method of the world belongs to no type where there is none of this name
no_resource : world_forms (resolved (world (method_m ∷ []) [])) ≡ Ok ((made_method forms.Freestanding ∷ []) ∷ [])
unfolding resolved resolved_among resolved_after imports_of exports_of exported_of all_items with_item with_finished function_item imported_type function_of new_type kind_before function_kind
no_resource = refl

-- a method of the interface k, which has no type of this name
abbrev k : InterfaceName
k = names.Imported (codes "k")

abbrev world_with_k : Wit
world_with_k = record { interfaces = (k, record { types = []; functions = function (codes "[static]r.m") [] None ∷ [] }) ∷ []; imports = resource_r ∷ (keys.Name (codes "k"), items.Interface k) ∷ []; exports = [] }

-- the resource of the world is no type of the interface
no_resource_here : forms_of (resolved world_with_k) ≡ Ok ((forms.Freestanding ∷ []) ∷ [])
unfolding resolved resolved_among resolved_after imports_of exports_of exported_of all_items with_item with_finished with_named with_interface items_of with_function_of imported_type interface_item function_of new_type kind_before function_kind
no_resource_here = refl

-- j alone names a type of an interface that does not exist
nothing_there : named_kinds (resolved (world [] exports_j)) ≡ Err nowhere
unfolding resolved resolved_among resolved_after imports_of exports_of exported_of all_items with_item with_finished with_named with_interface items_of with_type_of with_function_of new_type kind_before type_of step after_compound shared function_of with_param some_result function_kind interface_item
nothing_there = refl

-- j before i, where both are exported only: the name of a type that is made later refers to nothing
too_early : named_kinds (resolved (world [] both)) ≡ Err nowhere
unfolding resolved resolved_among resolved_after imports_of exports_of exported_of all_items with_item with_finished with_named with_interface items_of with_type_of with_function_of new_type kind_before type_of step after_compound shared function_of with_param some_result function_kind interface_item
too_early = refl

-- an id without a version
an_id : id_parts (codes "a:b/c") ≡ Ok (id_name (codes "a") (codes "b") (codes "c") None)
unfolding id_parts
an_id = refl

-- an id without a slash is not an id
no_id : id_parts (codes "a:b") ≡ Err nowhere
unfolding id_parts
no_id = refl
