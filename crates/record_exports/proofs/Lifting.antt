-- The function of an export's role is one that the world exports, at its root under its own name or in an interface.
use Rattle.std.proofs.Common.{◌≡◌, ◌∙◌, ap, sym, subst, refl, ℕ, Bool, true, false, List, [], ◌∷◌, ◌++◌, Option, Some, None, Ok, is_some, if◌then◌else◌}
use Rattle.std.specs.Prelude.{slice_get, option_map, ok_or, IfSome, IsSome, ⊤}
use Rattle.std.specs.List.{AllByRecursion}
use Rattle.std.specs.Map.{lookup}
use Rattle.std.specs.Option.{option_and_then, option_map_or}
use Rattle.std.specs.Str.{bytes_eq}
use Rattle.comp_lists.specs.Found.{found}
use Rattle.comp_lists.specs.Tables.{with_first}
use Rattle.comp_lists.proofs.Lists.{AllByRecursion-push}
use Rattle.core_sections.specs.declared.core_module.CoreModule.{CoreModule}
use Rattle.core_sections.specs.declared.entries.ExportedItem.{ExportedItem}
use Rattle.wit_data.specs.Keys.{is_same_key}
use Rattle.wit_data.specs.declared.functions.AbiVariant.{AbiVariant}
use Rattle.wit_data.specs.declared.functions.Function.{Function}
use Rattle.wit_data.specs.declared.ids.InterfaceId.{InterfaceId}
use Rattle.wit_data.specs.declared.worlds.World.{World}
use Rattle.wit_data.specs.declared.worlds.WorldKey.{WorldKey}
use Rattle.wit_data.specs.declared.worlds.WorldKey.TheVariants as keys
use Rattle.comp_roles.specs.declared.exports.Export.{Export}
use Rattle.comp_roles.specs.declared.exports.Export.TheVariants as exports
use Rattle.comp_roles.specs.declared.offered.ExternType.{ExternType}
use Rattle.world_values.specs.Items.{function_in, root_function_at}
use Rattle.world_values.specs.Mentions.{interface_in}
use Rattle.record_values.specs.declared.names.Owner.{Owner}
use Rattle.record_values.specs.declared.names.Owner.TheVariants as owners
use Rattle.record_values.specs.declared.roles.ExportRole.{ExportRole}
use Rattle.record_values.specs.declared.roles.ExportRole.TheVariants as roles
use Rattle.record_values.specs.declared.roles.PlainExport.{PlainExport}
use Rattle.record_values.specs.declared.roles.PlainExport.TheVariants as plain
use Rattle.record_resolve.specs.declared.resolving.Resolved.{Resolved}
use Rattle.record_role_targets.specs.declared.sides.Side.TheVariants as sides
use Rattle.record_role_targets.specs.Sides.{item_at, interface_of}
use Rattle.record_role_targets.specs.Keys.{interface_key}
use Rattle.record_role_targets.specs.Positions.{at_root, in_interface, function_at, function_position, resource_of}
use Rattle.record_role_targets.specs.Imports.{memory_type}
use Rattle.record_role_targets.specs.Exports.{lifted_there, lifted, post_return_there, post_return, callback_there, callback, plain_export, resolved_export}
use Rattle.record_role_targets.proofs.Existence.{at_key}
use Rattle.record_core_types.specs.Asked.{exported_function, function_of, exported_interface}
use Rattle.record_core_types.specs.Fitting.{fits_export}
use Rattle.record_core_types.specs.Offered.{item_type}
use Rattle.record_core_types.specs.Guarantees.{IsLifted}
use Rattle.record_faults.specs.Faults.{◌>>=◌}
use Rattle.record_faults.proofs.Chains.{bind_ok, got, passed}
use Rattle.record_exports.specs.Functions.{Exports}
use Rattle.record_exports.specs.Meaning.{world_id, unfit, fitting, export_of}
use Rattle.record_exports.specs.Exporting.{Roles, with_role, exports_after, exports_of}
use Rattle.record_exports.specs.Taking.{all_taken}

-- ---- what one role resolves to

same_item : (o : Option World) (key : WorldKey) → option_and_then (λ w. root_function_at w.exports key) o ≡ option_and_then function_in (lookup (is_same_key key) (option_map_or (λ w. w.exports) o []))
same_item None key = refl
same_item (Some w) key = refl

-- the function at the root, looked up as in this crate and as in the crate below
pub root_item : (r : Resolved) (key : WorldKey) → exported_function r.resolve world_id key ≡ option_and_then function_in (item_at sides.Exported r key)
root_item r key = same_item (slice_get r.resolve.worlds 0) key

-- and the interface at a key
same_interface : (o : Option World) (key : WorldKey) → option_and_then (λ w. option_and_then interface_in (lookup (is_same_key key) w.exports)) o ≡ option_and_then interface_in (lookup (is_same_key key) (option_map_or (λ w. w.exports) o []))
same_interface None key = refl
same_interface (Some w) key = refl

module _ (r : Resolved) where
  abbrev Lifted : Export → Type 0
  Lifted export = IsLifted r.resolve world_id export

  mapped : {A : Type 0} (g : A → Export) → ((x : A) → Lifted (g x)) → (o : Option A) → IfSome (option_map g o) Lifted
  mapped g each None = tt
  mapped g each (Some x) = each x

  -- ---- functions at the root

  root_lifted : (name : List ℕ) (abi : AbiVariant) → IfSome (option_map (lifted name abi) (function_position sides.Exported r owners.World name)) Lifted
  root_lifted name abi = by (function_at sides.Exported r (at_root name) name) (root_item r (keys.Name name))
    where
      by : (o : Option Function) → exported_function r.resolve world_id (keys.Name name) ≡ o → IfSome (option_map (lifted name abi) (option_map (λ f. at_root name) o)) Lifted
      by None e = tt
      by (Some f) e = (refl, ap is_some e)

  post_return_at_root : (name : List ℕ) → IfSome (option_map (post_return name) (function_position sides.Exported r owners.World name)) Lifted
  post_return_at_root name = by (function_at sides.Exported r (at_root name) name) (root_item r (keys.Name name))
    where
      by : (o : Option Function) → exported_function r.resolve world_id (keys.Name name) ≡ o → IfSome (option_map (post_return name) (option_map (λ f. at_root name) o)) Lifted
      by None e = tt
      by (Some f) e = ap is_some e

  callback_at_root : (name : List ℕ) → IfSome (option_map (callback name) (function_position sides.Exported r owners.World name)) Lifted
  callback_at_root name = by (function_at sides.Exported r (at_root name) name) (root_item r (keys.Name name))
    where
      by : (o : Option Function) → exported_function r.resolve world_id (keys.Name name) ≡ o → IfSome (option_map (callback name) (option_map (λ f. at_root name) o)) Lifted
      by None e = tt
      by (Some f) e = ap is_some e

  -- ---- functions of interfaces

  -- an interface has the key under which it is found, and the function
  record HasThere (id : InterfaceId) (key : WorldKey) (name : List ℕ) : Type 0 where
    exported : exported_interface r.resolve world_id key ≡ Some id
    has : IsSome (function_of r.resolve id name)

  -- what holds of each function of an interface holds of the one at a position, if there is one
  at_position : (make : WorldKey → Option InterfaceId → Export) (name : List ℕ) (id : InterfaceId) (key : Option WorldKey) → interface_key sides.Exported r id ≡ key
      → ((k : WorldKey) → HasThere id k name → Lifted (make k (Some id)))
      → IfSome (option_map (λ p. make p.key p.interface) (option_and_then (λ p. option_map (λ f. p) (function_at sides.Exported r p name)) (option_map (in_interface id) key))) Lifted
  at_position make name id None is each = tt
  at_position make name id (Some key) is each = by (function_at sides.Exported r (in_interface id key) name) refl
    where
      exported_there : exported_interface r.resolve world_id key ≡ Some id
      exported_there = let there = at_key r sides.Exported id key is in same_interface (slice_get r.resolve.worlds 0) key ∙ there.is

      by : (o : Option Function) → function_of r.resolve id name ≡ o → IfSome (option_map (λ p. make p.key p.interface) (option_map (λ f. in_interface id key) o)) Lifted
      by None e = tt
      by (Some f) e = each key (record { exported = exported_there; has = ap is_some e })

  in_interfaces : (make : WorldKey → Option InterfaceId → Export) (name : List ℕ) → ((id : InterfaceId) (k : WorldKey) → HasThere id k name → Lifted (make k (Some id))) → (o : Option InterfaceId)
      → IfSome (option_map (λ p. make p.key p.interface) (option_and_then (λ p. option_map (λ f. p) (function_at sides.Exported r p name)) (option_and_then (λ id. option_map (in_interface id) (interface_key sides.Exported r id)) o))) Lifted
  in_interfaces make name each None = tt
  in_interfaces make name each (Some id) = at_position make name id (interface_key sides.Exported r id) refl (each id)

  -- ---- roles

  function_lifted : (owner : Owner) (name : List ℕ) (abi : AbiVariant) → IfSome (option_map (lifted name abi) (function_position sides.Exported r owner name)) Lifted
  function_lifted owners.World name abi = root_lifted name abi
  function_lifted (owners.Interface i) name abi = in_interfaces (λ key interface. lifted_there key interface name abi) name (λ id k there. (there.exported, there.has)) (interface_of sides.Exported r i)

  post_return_lifted : (owner : Owner) (name : List ℕ) → IfSome (option_map (post_return name) (function_position sides.Exported r owner name)) Lifted
  post_return_lifted owners.World name = post_return_at_root name
  post_return_lifted (owners.Interface i) name = in_interfaces (λ key interface. post_return_there key interface name) name (λ id k there. (id, there.exported, there.has)) (interface_of sides.Exported r i)

  callback_lifted : (owner : Owner) (name : List ℕ) → IfSome (option_map (callback name) (function_position sides.Exported r owner name)) Lifted
  callback_lifted owners.World name = callback_at_root name
  callback_lifted (owners.Interface i) name = in_interfaces (λ key interface. callback_there key interface name) name (λ id k there. (id, there.exported, there.has)) (interface_of sides.Exported r i)

  plain_lifted : (p : PlainExport) (ty : Option ExternType) → IfSome (plain_export p ty) Lifted
  plain_lifted plain.Memory ty = mapped exports.Memory (λ m. tt) (memory_type ty)
  plain_lifted plain.Realloc ty = tt
  plain_lifted plain.ImportRealloc ty = tt
  plain_lifted plain.ExportRealloc ty = tt
  plain_lifted plain.AdapterRealloc ty = tt
  plain_lifted plain.Initialize ty = tt
  plain_lifted plain.TaskHook ty = tt

  role_lifted : (role : ExportRole) (ty : Option ExternType) → IfSome (resolved_export r role ty) Lifted
  role_lifted (roles.Function owner name abi) ty = function_lifted owner name abi
  role_lifted (roles.PostReturn owner name) ty = post_return_lifted owner name
  role_lifted (roles.Callback owner name) ty = callback_lifted owner name
  role_lifted (roles.Destructor t) ty = mapped (λ d. exports.ResourceDtor d.id) (λ d. tt) (resource_of sides.Exported r t)
  role_lifted (roles.Plain p) ty = plain_lifted p ty

  -- the property of a role that resolves to this
  some_lifted : (role : ExportRole) (ty : Option ExternType) (export : Export) → resolved_export r role ty ≡ Some export → Lifted export
  some_lifted role ty export e = subst (λ o. IfSome o Lifted) e (role_lifted role ty)

-- ---- what all roles resolve to

-- what holds of an export that was returned, by the steps to it
pub record Passes (r : Resolved) (core : CoreModule) (item : ExportedItem) (role : ExportRole) (export : Export) : Type 0 where
  pub target : resolved_export r role (item_type core item) ≡ Some export
  pub fits : fits_export r.resolve world_id core export item ≡ true

pub export_passes : (r : Resolved) (core : CoreModule) (name : List ℕ) (item : ExportedItem) (role : ExportRole) (export : Export) → export_of r core name item role ≡ Ok export → Passes r core item role export
unfolding export_of
export_passes r core name item role export e =
    let a = bind_ok (ok_or (resolved_export r role (item_type core item)) (unfit name)) (fitting r core name item) export e in
    let p = passed (fits_export r.resolve world_id core a.0 item) a.0 export (unfit name) a.2 in
    record { target = got (resolved_export r role (item_type core item)) (unfit name) a.0 a.1 ∙ ap Some p.1; fits = subst (λ (x : Export). fits_export r.resolve world_id core x item ≡ true) p.1 p.0 }

first_all : (P : List ℕ × Export → Type 0) (all : Exports) (name : List ℕ) (export : Export) → AllByRecursion P all → P (name, export) → AllByRecursion P (with_first bytes_eq all name export)
first_all P all name export h k = by (is_some (found name all))
  where
    by : (b : Bool) → AllByRecursion P (if b then all else all ++ (name, export) ∷ [])
    by true = h
    by false = AllByRecursion-push P all (name, export) h k

-- what holds of every resolved role holds of all exports that were returned
module _ (r : Resolved) (core : CoreModule) (P : Export → Type 0) (each : (role : ExportRole) (ty : Option ExternType) (export : Export) → resolved_export r role ty ≡ Some export → P export) where
  one_more : (all more : Exports) (name : List ℕ) (item : ExportedItem) (role : Option ExportRole) → AllByRecursion (λ e. P e.1) all → with_role r core all name item role ≡ Ok more → AllByRecursion (λ e. P e.1) more
  one_more all more name item None h e = let same : all ≡ more = cc (e) in subst (λ (x : Exports). AllByRecursion (λ e. P e.1) x) same h
  one_more all more name item (Some role) h e =
      let a = bind_ok (export_of r core name item role) (λ export. Ok (with_first bytes_eq all name export)) more e in
      let same : with_first bytes_eq all name a.0 ≡ more = cc (a.2) in
      let p = export_passes r core name item role a.0 a.1 in
      subst (λ (x : Exports). AllByRecursion (λ e. P e.1) x) same (first_all (λ e. P e.1) all name a.0 h (each role (item_type core item) a.0 p.target))

  pub all_more : (rs : Roles) (all made : Exports) (es : List (List ℕ × ExportedItem)) → AllByRecursion (λ e. P e.1) all → exports_after r rs core all es ≡ Ok made → AllByRecursion (λ e. P e.1) made
  all_more rs all made [] h e = let same : all ≡ made = cc (e) in subst (λ (x : Exports). AllByRecursion (λ e. P e.1) x) same h
  all_more rs all made (x ∷ es) h e =
      let a = bind_ok (with_role r core all x.0 x.1 (found x.0 rs)) (λ more. exports_after r rs core more es) made e in
      all_more rs a.0 made es (one_more all a.0 x.0 x.1 (found x.0 rs) h a.1) a.2

-- what holds of all exports, by the steps to them
pub record Steps (r : Resolved) (rs : Roles) (core : CoreModule) (all : Exports) : Type 0 where
  pub read : exports_after r rs core [] core.exports ≡ Ok all
  pub taken : all_taken all ≡ Ok tt

pub steps : (r : Resolved) (rs : Roles) (core : CoreModule) (all : Exports) → exports_of r rs core ≡ Ok all → Steps r rs core all
unfolding exports_of
steps r rs core all e =
    let a = bind_ok (exports_after r rs core [] core.exports) (λ (made : Exports). all_taken made >>= λ _. Ok made) all e in
    let b = bind_ok (all_taken a.0) (λ (_ : ⊤). Ok a.0) all a.2 in
    let same : a.0 ≡ all = cc (b.2) in
    let unit : all_taken a.0 ≡ Ok tt = b.1 in
    record { read = a.1 ∙ ap (λ (x : Exports). Ok x) same; taken = ap (λ (x : Exports). all_taken x) (sym same) ∙ unit }

pub all_lifted : (r : Resolved) (rs : Roles) (core : CoreModule) (all : Exports) → exports_after r rs core [] core.exports ≡ Ok all → AllByRecursion (λ e. IsLifted r.resolve world_id e.1) all
all_lifted r rs core all e = all_more r core (λ export. IsLifted r.resolve world_id export) (some_lifted r) rs [] all core.exports tt e
