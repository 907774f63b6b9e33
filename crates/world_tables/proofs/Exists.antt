-- What a sound resolve names exists in it.
use Rattle.std.proofs.Common.{arith, ◌≡◌, ◌<◌, ℕ, zero, suc, Bool, true, false, cond, List, [], ◌∷◌, ◌++◌, length, map, Option, Some, None, refl, sym, ap, ◌∙◌, subst, get_or}
use Rattle.std.specs.Prelude.{slice_get, option_map}
use Rattle.std.specs.Option.{unwrap_or, option_and_then}
use Rattle.std.specs.List.{AllByRecursion, flat_map}
use Rattle.std.specs.Map.{lookup}
use Rattle.std.specs.Str.{bytes_eq}
use Rattle.comp_lists.specs.Found.{found}
use Rattle.wit_data.specs.Keys.{is_same_key}
use Rattle.wit_data.specs.Live.{named_types}
use Rattle.wit_data.specs.Sound.{IsSound, HasAll, HasInterface, HasFunction, HasType, HasTypeId, HasItem, HasEntry, HasWorld, HasResource}
use Rattle.wit_data.specs.declared.functions.Function.{Function}
use Rattle.wit_data.specs.declared.functions.FunctionKind.{FunctionKind}
use Rattle.wit_data.specs.declared.functions.FunctionKind.TheVariants as kinds
use Rattle.wit_data.specs.declared.functions.Param.{Param}
use Rattle.wit_data.specs.declared.ids.InterfaceId.{InterfaceId}
use Rattle.wit_data.specs.declared.ids.TypeId.{TypeId}
use Rattle.wit_data.specs.declared.resolve.Interface.{Interface}
use Rattle.wit_data.specs.declared.resolve.Resolve.{Resolve}
use Rattle.wit_data.specs.declared.types.Type.{«Type» as Ty}
use Rattle.wit_data.specs.declared.types.Type.TheVariants.{Id}
use Rattle.wit_data.specs.declared.worlds.World.{World}
use Rattle.wit_data.specs.declared.worlds.WorldItem.{WorldItem}
use Rattle.wit_data.specs.declared.worlds.WorldItem.TheVariants as items
use Rattle.wit_data.specs.declared.worlds.WorldKey.{WorldKey}
use Rattle.wit_data.proofs.Values.{all_at}
use Rattle.comp_roles.specs.CoreImports.{CoreImport}
use Rattle.world_values.specs.Items.{functions_of, function_in, root_function_at}
use Rattle.world_values.specs.Mentions.{at_most_one, resource_of, function_types, types_of_function, interface_types, imported_payload, payload_in, role_types, HasRole, import_types, export_types, used_types}
use Rattle.comp_roles.specs.declared.imports.Import.{Import}
use Rattle.comp_roles.specs.declared.imports.Import.TheVariants as imports

-- ---- an interface by its number

there : {X : Type 0} (xs : List X) (n : ℕ) (d : X) → n < length xs → slice_get xs n ≡ Some (get_or xs n d)
there [] n d l = absurd (omega (arith, l))
there (x ∷ xs) zero d l = refl
there (x ∷ xs) (suc n) d l = there xs n d (omega (arith, l))

pub types_there : (r : Resolve) (interfaces : List Interface) (id : InterfaceId) (d : Interface) → interfaces ≡ r.interfaces → HasInterface r id → (get_or interfaces id.index d).types ≡ named_types r id
types_there r interfaces id d same l =
    ap (λ is. (get_or is id.index d).types) same ∙ sym (ap (λ (o : Option Interface). unwrap_or (option_map (λ i. i.types) o) []) (there r.interfaces id.index d l))

pub functions_there : (r : Resolve) (interfaces : List Interface) (id : InterfaceId) (d : Interface) → interfaces ≡ r.interfaces → HasInterface r id → (get_or interfaces id.index d).functions ≡ functions_of r id
functions_there r interfaces id d same l =
    ap (λ is. (get_or is id.index d).functions) same ∙ sym (ap (λ (o : Option Interface). unwrap_or (option_map (λ i. i.functions) o) []) (there r.interfaces id.index d l))

pub interface_sound : (r : Resolve) (interfaces : List Interface) (id : InterfaceId) (d : Interface) → interfaces ≡ r.interfaces → IsSound r → HasInterface r id → HasAll r (get_or interfaces id.index d)
interface_sound r interfaces id d same sound l = subst (λ is. HasAll r (get_or is id.index d)) (sym same) (all_at (HasAll r) r.interfaces id.index d sound.interfaces l)

-- ---- types

abbrev AreThere : Resolve → List Ty → Type 0
AreThere r ts = AllByRecursion (λ t. HasType r (Some t)) ts

both_there : (r : Resolve) (xs ys : List Ty) → AreThere r xs → AreThere r ys → AreThere r (xs ++ ys)
both_there r [] ys h more = more
both_there r (x ∷ xs) ys h more = (h.0, both_there r xs ys h.1 more)

one_there : (r : Resolve) (o : Option Ty) → HasType r o → AreThere r (at_most_one o)
one_there r None h = tt
one_there r (Some t) h = (h, tt)

params_there : (r : Resolve) (ps : List Param) → AllByRecursion (λ p. HasType r (Some p.ty)) ps → AreThere r (map (λ p. p.ty) ps)
params_there r [] h = tt
params_there r (p ∷ ps) h = (h.0, params_there r ps h.1)

resource_there : (r : Resolve) (k : FunctionKind) → HasResource r k → HasType r (resource_of k)
resource_there r kinds.Freestanding h = tt
resource_there r kinds.AsyncFreestanding h = tt
resource_there r (kinds.Method id) h = h
resource_there r (kinds.AsyncMethod id) h = h
resource_there r (kinds.Static id) h = h
resource_there r (kinds.AsyncStatic id) h = h
resource_there r (kinds.Constructor id) h = h

pub function_there : (r : Resolve) (f : Function) → HasFunction r f → AreThere r (function_types f)
function_there r f h =
    both_there r (at_most_one (resource_of f.kind)) (map (λ p. p.ty) f.params ++ at_most_one f.result) (one_there r (resource_of f.kind) (resource_there r f.kind h.resource))
    (both_there r (map (λ p. p.ty) f.params) (at_most_one f.result) (params_there r f.params h.params) (one_there r f.result h.result))

named_there : (r : Resolve) (ts : List (List ℕ × TypeId)) → AllByRecursion (λ t. HasTypeId r t.1) ts → AreThere r (map (λ t. Id t.1) ts)
named_there r [] h = tt
named_there r (t ∷ ts) h = (h.0, named_there r ts h.1)

functions_exist : (r : Resolve) (fs : List (List ℕ × Function)) → AllByRecursion (λ f. HasFunction r f.1) fs → AreThere r (flat_map (λ f. function_types f.1) fs)
functions_exist r [] h = tt
functions_exist r (f ∷ fs) h = both_there r (function_types f.1) (flat_map (λ g. function_types g.1) fs) (function_there r f.1 h.0) (functions_exist r fs h.1)

-- the element at a number has the property that all have
at_number : {X : Type 0} (P : X → Type 0) (xs : List X) (n : ℕ) (x : X) → AllByRecursion P xs → slice_get xs n ≡ Some x → P x
at_number P [] n x h e = absurd cc
at_number P (y ∷ ys) zero x h e = let same : y ≡ x = cc in subst P same h.0
at_number P (y ∷ ys) (suc n) x h e = at_number P ys n x h.1 e

types_of : (r : Resolve) (o : Option Interface) → ((i : Interface) → o ≡ Some i → HasAll r i) → AllByRecursion (λ t. HasTypeId r t.1) (unwrap_or (option_map (λ i. i.types) o) [])
types_of r None h = tt
types_of r (Some i) h = (h i refl).types

functions_in : (r : Resolve) (o : Option Interface) → ((i : Interface) → o ≡ Some i → HasAll r i) → AllByRecursion (λ f. HasFunction r f.1) (unwrap_or (option_map (λ i. i.functions) o) [])
functions_in r None h = tt
functions_in r (Some i) h = (h i refl).functions

pub interface_types_exist : (r : Resolve) (id : InterfaceId) → IsSound r → AreThere r (interface_types r id)
interface_types_exist r id sound =
    let all : (i : Interface) → slice_get r.interfaces id.index ≡ Some i → HasAll r i = λ i e. at_number (HasAll r) r.interfaces id.index i sound.interfaces e in
    both_there r (map (λ t. Id t.1) (named_types r id)) (flat_map (λ f. function_types f.1) (functions_of r id)) (named_there r (named_types r id) (types_of r (slice_get r.interfaces id.index) all))
    (functions_exist r (functions_of r id) (functions_in r (slice_get r.interfaces id.index) all))

pub listed_types_exist : (r : Resolve) (id : InterfaceId) (given : List Ty) → given ≡ interface_types r id → IsSound r → AllByRecursion (λ t. HasType r (Some t)) given
listed_types_exist r id given same sound = subst (AreThere r) (sym same) (interface_types_exist r id sound)

-- ---- look-ups

looked_up : {K X : Type 0} (P : X → Type 0) (test : K → Bool) (es : List (K × X)) (x : X) → AllByRecursion (λ e. P e.1) es → lookup test es ≡ Some x → P x
looked_up P test [] x h e = absurd cc
looked_up P test (y ∷ ys) x h e = by (test y.0) (looked_up P test ys x h.1) e
  where
    by : (b : Bool) → (lookup test ys ≡ Some x → P x) → cond b (Some y.1) (lookup test ys) ≡ Some x → P x
    by true later e = let same : y.1 ≡ x = cc in subst P same h.0
    by false later e = later e

found_there : (r : Resolve) (o : Option Function) → ((f : Function) → o ≡ Some f → HasFunction r f) → AreThere r (types_of_function o)
found_there r None h = tt
found_there r (Some f) h = function_there r f (h f refl)

items_of_entries : (r : Resolve) (es : List (WorldKey × WorldItem)) → AllByRecursion (HasEntry r) es → AllByRecursion (λ e. HasItem r e.1) es
items_of_entries r [] h = tt
items_of_entries r (e ∷ es) h = let here = h.0 in (here.1, items_of_entries r es h.1)

function_in_item : (r : Resolve) (o : Option WorldItem) (f : Function) → ((i : WorldItem) → o ≡ Some i → HasItem r i) → option_and_then function_in o ≡ Some f → HasFunction r f
function_in_item r None f h e = absurd cc
function_in_item r (Some (items.Function g)) f h e = let same : g ≡ f = cc in subst (HasFunction r) same (h (items.Function g) refl)
function_in_item r (Some (items.Interface id)) f h e = absurd cc
function_in_item r (Some (items.NamedType id)) f h e = absurd cc

role_there : (r : Resolve) (entries : List (WorldKey × WorldItem)) (role : Import) → IsSound r → AllByRecursion (HasEntry r) entries → HasRole r role → AreThere r (role_types r entries role)
role_there r entries (imports.WorldFunc key name abi) sound h has =
    found_there r (root_function_at entries key) (λ f e. function_in_item r (lookup (is_same_key key) entries) f (λ i is. looked_up (HasItem r) (is_same_key key) entries i (items_of_entries r entries h) is) e)
role_there r entries (imports.InterfaceFunc key id name abi) sound h has =
    let all : (i : Interface) → slice_get r.interfaces id.index ≡ Some i → HasAll r i = λ i e. at_number (HasAll r) r.interfaces id.index i sound.interfaces e in
    found_there r (found name (functions_of r id)) (λ f e. looked_up (HasFunction r) (bytes_eq name) (functions_of r id) f (functions_in r (slice_get r.interfaces id.index) all) e)
role_there r entries (imports.ImportedResourceDrop key interface id) sound h has = (has, tt)
role_there r entries role sound h has = one_there r (imported_payload (payload_in role)) has

roles_there : (r : Resolve) (entries : List (WorldKey × WorldItem)) (is : List CoreImport) → IsSound r → AllByRecursion (HasEntry r) entries → AllByRecursion (λ i. HasRole r i.role) is
    → AreThere r (flat_map (λ i. role_types r entries i.role) is)
roles_there r entries [] sound h has = tt
roles_there r entries (i ∷ is) sound h has =
    both_there r (role_types r entries i.role) (flat_map (λ j. role_types r entries j.role) is) (role_there r entries i.role sound h has.0) (roles_there r entries is sound h has.1)

import_there : (r : Resolve) (i : WorldItem) → HasItem r i → AreThere r (import_types i)
import_there r (items.NamedType id) h = (h, tt)
import_there r (items.Interface id) h = tt
import_there r (items.Function f) h = tt

export_there : (r : Resolve) (i : WorldItem) → IsSound r → HasItem r i → AreThere r (export_types r i)
export_there r (items.NamedType id) sound h = (h, tt)
export_there r (items.Interface id) sound h = interface_types_exist r id sound
export_there r (items.Function f) sound h = function_there r f h

imports_there : (r : Resolve) (es : List (WorldKey × WorldItem)) → AllByRecursion (HasEntry r) es → AreThere r (flat_map (λ e. import_types e.1) es)
imports_there r [] h = tt
imports_there r (e ∷ es) h = let here = h.0 in both_there r (import_types e.1) (flat_map (λ x. import_types x.1) es) (import_there r e.1 here.1) (imports_there r es h.1)

exports_there : (r : Resolve) (es : List (WorldKey × WorldItem)) → IsSound r → AllByRecursion (HasEntry r) es → AreThere r (flat_map (λ e. export_types r e.1) es)
exports_there r [] sound h = tt
exports_there r (e ∷ es) sound h = let here = h.0 in both_there r (export_types r e.1) (flat_map (λ x. export_types r x.1) es) (export_there r e.1 sound here.1) (exports_there r es sound h.1)

-- all types that have to exist do
pub used_types_exist : (r : Resolve) (w : World) (is : List CoreImport) → IsSound r → HasWorld r w → AllByRecursion (λ i. HasRole r i.role) is → AreThere r (used_types is r w)
used_types_exist r w is sound h has =
    both_there r (flat_map (λ i. role_types r w.imports i.role) is) (flat_map (λ e. import_types e.1) w.imports ++ flat_map (λ e. export_types r e.1) w.exports) (roles_there r w.imports is sound h.imports has)
    (both_there r (flat_map (λ e. import_types e.1) w.imports) (flat_map (λ e. export_types r e.1) w.exports) (imports_there r w.imports h.imports) (exports_there r w.exports sound h.exports))

pub used_listed_exist : (r : Resolve) (w : World) (is : List CoreImport) (given : List Ty) → given ≡ used_types is r w → IsSound r → HasWorld r w → AllByRecursion (λ i. HasRole r i.role) is
    → AllByRecursion (λ t. HasType r (Some t)) given
used_listed_exist r w is given same sound h has = subst (AreThere r) (sym same) (used_types_exist r w is sound h has)

pub world_sound : (r : Resolve) (worlds : List World) (n : ℕ) (d : World) → worlds ≡ r.worlds → IsSound r → n < length r.worlds → HasWorld r (get_or worlds n d)
world_sound r worlds n d same sound l = subst (λ ws. HasWorld r (get_or ws n d)) (sym same) (all_at (HasWorld r) r.worlds n d sound.worlds l)
