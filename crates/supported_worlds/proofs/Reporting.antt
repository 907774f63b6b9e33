-- When a world is refused: something of it is reported exactly where a cause holds.
use Rattle.std.proofs.Common.{◌≡◌, ◌≢◌, ◌⊎◌, inl, inr, ℕ, Bool, true, false, true≢false, List, [], ◌∷◌, ◌++◌, map, Option, Some, None, Ok, Err, refl, sym, ap, ap₂, subst, ◌∙◌}
use Rattle.std.specs.Prelude.{Contains, length, codes}
use Rattle.std.specs.List.{AllByRecursion, flat_map}
use Rattle.std.specs.Map.{keys_of}
use Rattle.std.specs.Option.{option_or}
use Rattle.wit_data.specs.declared.resolve.Resolve.{Resolve}
use Rattle.wit_data.specs.declared.worlds.WorldKey.{WorldKey}
use Rattle.comp_lists.proofs.Lists.{AllByRecursion-contains, AllByRecursion-weaker, Contains-map}
use Rattle.wit_data.specs.declared.worlds.World.{World}
use Rattle.comp_roles.specs.CoreImports.{CoreImport, imports_from}
use Rattle.comp_roles.specs.Lookups.{first_some}
use Rattle.comp_roles.specs.declared.imports.Import.{Import}
use Rattle.comp_roles.specs.declared.imports.ImportInstance.{ImportInstance}
use Rattle.comp_roles.specs.declared.imports.ImportInstance.TheVariants as instances
use Rattle.comp_worlds.specs.Encodable.{Entries, ImportsResources}
use Rattle.comp_worlds.specs.Uses.{imports_of}
use Rattle.comp_worlds.specs.WorldTables.{whole_of}
use Rattle.comp_worlds.specs.declared.world.ComponentWorld.{ComponentWorld}
use Rattle.comp_worlds.specs.declared.world.ValidatedModule.{ValidatedModule}
use Rattle.comp_worlds.specs.declared.world.WorldAdapter.{WorldAdapter}
use Rattle.comp_worlds.specs.declared.world.WorldParts.{WorldParts}
use Rattle.record_faults.specs.declared.fault.Failure.{Failure}
use Rattle.record_faults.specs.declared.fault.Failure.TheVariants as failures
use Rattle.record_faults.specs.declared.fault.Refusal.{Refusal}
use Rattle.record_faults.specs.declared.fault.Refusal.TheVariants as refusals
use Rattle.supported_worlds.specs.LeftOut.{items_of, unless, import_item_left_out, export_item_left_out, twice_left_out, names_left_out, order_left_out, resources_left_out, export_left_out, group_left_out, all_required, required_of, own_group_left_out, own_left_out, world_left_out, roles_left_out, module_left_out, adapter_left_out, modules_left_out, rest_left_out, named_left_out, left_out, unless_left_out, encoded}
use Rattle.supported_worlds.specs.Modules.{UserModule, main_of, module_of, user_modules}
use Rattle.supported_worlds.specs.Naming.{are_exports_named, AreExportsNamed}
use Rattle.supported_worlds.specs.Placed.{places_of, is_world_placed, imported_numbers, are_in_place}
use Rattle.supported_worlds.specs.PlaceTables.{ArePlaces}
use Rattle.supported_worlds.specs.declared.places.Places.{Places}
use Rattle.supported_worlds.specs.Causes.{role_left_out, own_role_out, IsLeftOut, own_role, imported, exported, twice, names, order, resources, import_role, export_role}
use Rattle.supported_worlds.proofs.ExportNames.{exports_named, names_pass}
use Rattle.comp_roles.proofs.Firsts.{neither, one_of, none_picked, one_picked}
use Rattle.supported_worlds.proofs.Lists.{nothing, at_front, after, in_flat_map}
use Rattle.supported_worlds.specs.Lent.{InterfaceSet}
use Rattle.supported_worlds.specs.Sets.{IsSetOf}
use Rattle.supported_worlds.proofs.InPlace.{imports_resources, in_place}
use Rattle.supported_worlds.proofs.Order.{passes}

-- ---- tables and tests

pub same_modules : (p : WorldParts) (w : World) (t : Places) (found : Option (List ℕ)) → ArePlaces p.resolve.types w.imports t → found ≡ modules_left_out p w t.types t.interfaces.root → found ≡ modules_left_out p w (places_of p.resolve.types w.imports) (length w.imports)
same_modules p w t found h is = let i = h.interfaces in is ∙ ap₂ (modules_left_out p w) h.types i.root

-- a role of an exported resource, or of an exported function
pub own_found : (r : Resolve) (es : Entries) (keys : List WorldKey) (m : ValidatedModule) (set : InterfaceSet) (found : Option (List ℕ)) → IsSetOf (required_of es keys) set → found ≡ first_some (own_group_left_out r es (keys_of set)) m.imports.modules → found ≡ own_left_out r es keys m
own_found r es keys m set found h is = is ∙ ap (λ ids. first_some (own_group_left_out r es ids) m.imports.modules) h.keys

-- where no item is left out, the other parts decide
pub rest_decides : (p : WorldParts) (w : World) (found : Option (List ℕ)) → w ≡ items_of p → None ≡ world_left_out w → found ≡ option_or (twice_left_out (all_required p) w) (named_left_out p w) → found ≡ left_out p
unfolding left_out
rest_decides p w found same none rest =
    rest
    ∙ ap (λ o. option_or o (option_or (twice_left_out (all_required p) w) (named_left_out p w))) none
    ∙ ap (λ (w : World). option_or (world_left_out w) (option_or (twice_left_out (all_required p) w) (named_left_out p w))) same

-- ---- where nothing is reported

pub fields_pass : (p : WorldParts) (name : List ℕ) (fields : List (List ℕ × Import)) → AllByRecursion (λ f. role_left_out p f.1 ≡ None) fields → AllByRecursion (λ i. role_left_out p i.role ≡ None) (imports_from (name, instances.Names fields))
fields_pass p name [] h = tt
fields_pass p name (f ∷ fields) h = (h.0, fields_pass p name fields h.1)

both : {X : Type 0} (P : X → Type 0) (xs ys : List X) → AllByRecursion P xs → AllByRecursion P ys → AllByRecursion P (xs ++ ys)
both P [] ys h k = k
both P (x ∷ xs) ys h k = (h.0, both P xs ys h.1 k)

-- the imports from one module, by the places of the types of the world
abbrev pub group_out : WorldParts → List ℕ × ImportInstance → Option (List ℕ)
group_out p group = group_left_out p.resolve.types (places_of p.resolve.types (items_of p).imports) (length (items_of p).imports) group

-- by its exported resources, and the keys that the module has to export
abbrev pub own_group_out : WorldParts → List WorldKey → List ℕ × ImportInstance → Option (List ℕ)
own_group_out p keys group = own_group_left_out p.resolve (items_of p).exports (required_of (items_of p).exports keys) group

-- each import of the groups is encoded
pub imports_pass : (p : WorldParts) (groups : List (List ℕ × ImportInstance)) → AllByRecursion (λ g. group_out p g ≡ None) groups → AllByRecursion (λ i. role_left_out p i.role ≡ None) (flat_map imports_from groups)
imports_pass p [] h = tt
imports_pass p ((name, instances.Names fields) ∷ groups) h =
    both (λ i. role_left_out p i.role ≡ None) (imports_from (name, instances.Names fields)) (flat_map imports_from groups)
    (fields_pass p name fields (none_picked (λ f. role_left_out p f.1) fields h.0)) (imports_pass p groups h.1)
imports_pass p ((name, instances.Whole which) ∷ groups) h = imports_pass p groups h.1

-- and so is each of an exported resource
pub own_pass : (p : WorldParts) (keys : List WorldKey) (groups : List (List ℕ × ImportInstance)) → AllByRecursion (λ g. own_group_out p keys g ≡ None) groups → AllByRecursion (λ i. own_role_out p keys i.role ≡ None) (flat_map imports_from groups)
own_pass p keys [] h = tt
own_pass p keys ((name, instances.Names fields) ∷ groups) h =
    both (λ i. own_role_out p keys i.role ≡ None) (imports_from (name, instances.Names fields)) (flat_map imports_from groups)
    (own_fields_pass fields (none_picked (λ f. own_role_out p keys f.1) fields h.0)) (own_pass p keys groups h.1)
  where
    own_fields_pass : (fields : List (List ℕ × Import)) → AllByRecursion (λ f. own_role_out p keys f.1 ≡ None) fields → AllByRecursion (λ i. own_role_out p keys i.role ≡ None) (imports_from (name, instances.Names fields))
    own_fields_pass [] h = tt
    own_fields_pass (f ∷ fields) h = (h.0, own_fields_pass fields h.1)
own_pass p keys ((name, instances.Whole which) ∷ groups) h = own_pass p keys groups h.1

-- nothing of a module is left out
pub record IsModuleEncoded (p : WorldParts) (m : UserModule) : Type 0 where
  pub own_groups : AllByRecursion (λ g. own_group_out p m.keys g ≡ None) m.info.imports.modules
  pub groups : AllByRecursion (λ g. group_out p g ≡ None) m.info.imports.modules
  pub export_roles : AllByRecursion (λ e. export_left_out p.resolve.types e.1 ≡ None) m.info.exports.exports

pub record IsAdapterEncoded (p : WorldParts) (a : List ℕ × WorldAdapter) : Type 0 where
  pub roles : IsModuleEncoded p (module_of a)

-- nothing of a world is left out
pub record IsEncoded (p : WorldParts) : Type 0 where
  pub imports : AllByRecursion (λ e. import_item_left_out e ≡ None) (items_of p).imports
  pub exports : AllByRecursion (λ e. export_item_left_out e ≡ None) (items_of p).exports
  pub once : twice_left_out (all_required p) (items_of p) ≡ None
  pub named : AreExportsNamed p.resolve (items_of p).exports
  pub order : is_world_placed p.resolve (items_of p) ≡ true
  pub resources : ImportsResources (whole_of p)
  pub main : IsModuleEncoded p (main_of p)
  pub adapters : AllByRecursion (IsAdapterEncoded p) p.adapters

-- what is left out of a module of a world, and of an adapter
abbrev module_out : WorldParts → UserModule → Option (List ℕ)
module_out p m = module_left_out p.resolve (items_of p).exports (places_of p.resolve.types (items_of p).imports) (length (items_of p).imports) m.keys m.info

abbrev roles_out : WorldParts → ValidatedModule → Option (List ℕ)
roles_out p m = roles_left_out p.resolve.types (places_of p.resolve.types (items_of p).imports) (length (items_of p).imports) m

abbrev adapter_out : WorldParts → List ℕ × WorldAdapter → Option (List ℕ)
adapter_out p a = adapter_left_out p.resolve (items_of p).exports (places_of p.resolve.types (items_of p).imports) (length (items_of p).imports) a

module_encoded : (p : WorldParts) (m : UserModule) → module_out p m ≡ None → IsModuleEncoded p m
module_encoded p m h =
    let s = neither (own_left_out p.resolve (items_of p).exports m.keys m.info) (roles_out p m.info) h in
    let r = neither (first_some (group_out p) m.info.imports.modules) (first_some (λ e. export_left_out p.resolve.types e.1) m.info.exports.exports) s.1 in
    record {
      own_groups = none_picked (own_group_out p m.keys) m.info.imports.modules s.0;
      groups = none_picked (group_out p) m.info.imports.modules r.0;
      export_roles = none_picked (λ e. export_left_out p.resolve.types e.1) m.info.exports.exports r.1;
    }

adapter_encoded : (p : WorldParts) (a : List ℕ × WorldAdapter) → adapter_out p a ≡ None → IsAdapterEncoded p a
adapter_encoded p a h = record { roles = module_encoded p (module_of a) h }

pub all_encoded : (p : WorldParts) → left_out p ≡ None → IsEncoded p
unfolding left_out
all_encoded p h =
    let world = items_of p in
    let places = places_of p.resolve.types world.imports in
    let root = length world.imports in
    let a = neither (world_left_out world) _ h in
    let w = neither (first_some import_item_left_out world.imports) _ a.0 in
    let t = neither (twice_left_out (all_required p) world) (named_left_out p world) a.1 in
    let n = neither (names_left_out p.resolve world) (rest_left_out p world) t.1 in
    let o = neither (order_left_out p.resolve world) _ n.1 in
    let r = neither (resources_left_out p.resolve.types world.imports) (modules_left_out p world places root) o.1 in
    let b = neither (module_out p (main_of p)) (first_some (adapter_out p) p.adapters) r.1 in
    record {
      imports = none_picked import_item_left_out world.imports w.0;
      exports = none_picked export_item_left_out world.exports w.1;
      once = t.0;
      named = exports_named p.resolve world.exports (passes (are_exports_named p.resolve world.exports) (codes "interface") n.0);
      order = passes (is_world_placed p.resolve world) (codes "interface") o.0;
      resources = imports_resources (whole_of p) (passes (are_in_place p.resolve.types 0 (imported_numbers world.imports)) (codes "type") r.0);
      main = module_encoded p (main_of p) b.0;
      adapters = AllByRecursion-weaker (adapter_encoded p) p.adapters (none_picked (adapter_out p) p.adapters b.1);
    }

-- so it is of each user module
mapped : {A B : Type 0} (P : B → Type 0) (f : A → B) (xs : List A) → AllByRecursion (λ x. P (f x)) xs → AllByRecursion P (map f xs)
mapped P f [] h = tt
mapped P f (x ∷ xs) h = (h.0, mapped P f xs h.1)

each_encoded : (p : WorldParts) → IsEncoded p → (m : UserModule) → Contains (user_modules p) m → IsModuleEncoded p m
each_encoded p h m there =
    AllByRecursion-contains (IsModuleEncoded p) (user_modules p) m
    (h.main, mapped (IsModuleEncoded p) module_of p.adapters (AllByRecursion-weaker (λ a (e : IsAdapterEncoded p a). e.roles) p.adapters h.adapters)) there

-- a function with no result for all elements has none for this one
none_of : {X : Type 0} (reported : X → Option (List ℕ)) (xs : List X) (x : X) (what : List ℕ) → AllByRecursion (λ y. reported y ≡ None) xs → Contains xs x → reported x ≡ Some what → ⊥
none_of reported xs x what h m e = nothing what (sym e ∙ AllByRecursion-contains (λ y. reported y ≡ None) xs x h m)

by_cases : (p : WorldParts) → IsEncoded p → (f : Refusal) → IsLeftOut p f → ⊥
by_cases p h f (imported entry what m e) = none_of import_item_left_out (items_of p).imports entry what h.imports m e
by_cases p h f (exported entry what m e) = none_of export_item_left_out (items_of p).exports entry what h.exports m e
by_cases p h f (twice what e) = nothing what (sym e ∙ h.once)
by_cases p h f (names lack) = lack h.named
by_cases p h f (order what e) = nothing what (sym e ∙ ap (λ b. unless b (codes "interface")) h.order)
by_cases p h f (resources lack) = lack h.resources
by_cases p h f (import_role m import what there c e) =
    let encoded = each_encoded p h m there in
    none_of (λ i. role_left_out p i.role) (imports_of m.info) import what (imports_pass p m.info.imports.modules encoded.groups) c e
by_cases p h f (own_role m import what there c e) =
    let encoded = each_encoded p h m there in
    none_of (λ i. own_role_out p m.keys i.role) (imports_of m.info) import what (own_pass p m.keys m.info.imports.modules encoded.own_groups) c e
by_cases p h f (export_role m entry what there c e) =
    let encoded = each_encoded p h m there in
    none_of (λ x. export_left_out p.resolve.types x.1) m.info.exports.exports entry what encoded.export_roles c e

-- ---- where something is reported

module _ (p : WorldParts) (what : List ℕ) where
  of_world : world_left_out (items_of p) ≡ Some what → IsLeftOut p (refusals.LeftOut what)
  of_world e = elim (one_of (first_some import_item_left_out (items_of p).imports) (first_some export_item_left_out (items_of p).exports) what e) [
    | inl a ↦ let t = one_picked import_item_left_out (items_of p).imports what a in imported t.element what t.there t.picks
    | inr b ↦ let t = one_picked export_item_left_out (items_of p).exports what b in exported t.element what t.there t.picks
  ]

  of_names : (b : Bool) → are_exports_named p.resolve (items_of p).exports ≡ b → unless b (codes "interface") ≡ Some what → IsLeftOut p (refusals.LeftOut what)
  of_names true is e = nothing what (sym e)
  of_names false is e = subst (λ (w : List ℕ). IsLeftOut p (refusals.LeftOut w)) (cc (e)) (names (λ h. true≢false (sym (names_pass p.resolve (items_of p).exports h) ∙ is)))

  of_resources : (b : Bool) → are_in_place p.resolve.types 0 (imported_numbers (items_of p).imports) ≡ b → unless b (codes "type") ≡ Some what → IsLeftOut p (refusals.LeftOut what)
  of_resources true is e = nothing what (sym e)
  of_resources false is e = subst (λ (w : List ℕ). IsLeftOut p (refusals.LeftOut w)) (cc (e)) (resources (λ h. true≢false (sym (in_place (whole_of p) h) ∙ is)))

  -- of a user module
  module _ (m : UserModule) (there : Contains (user_modules p) m) where
    of_group : (group : List ℕ × ImportInstance) → Contains m.info.imports.modules group → group_out p group ≡ Some what → IsLeftOut p (refusals.LeftOut what)
    of_group (name, instances.Names fields) c e =
        let t = one_picked (λ f. role_left_out p f.1) fields what e in
        let import : CoreImport = record { module_name = name; field = t.element.0; role = t.element.1 } in
        let inside = Contains-map (λ f. record { module_name = name; field = f.0; role = f.1 }) fields t.element t.there in
        import_role m import what there (in_flat_map imports_from m.info.imports.modules (name, instances.Names fields) import c.0 c.1 c.2 inside) t.picks
    of_group (name, instances.Whole which) c e = nothing what (sym e)

    of_own : (group : List ℕ × ImportInstance) → Contains m.info.imports.modules group → own_group_out p m.keys group ≡ Some what → IsLeftOut p (refusals.LeftOut what)
    of_own (name, instances.Names fields) c e =
        let t = one_picked (λ f. own_role_out p m.keys f.1) fields what e in
        let import : CoreImport = record { module_name = name; field = t.element.0; role = t.element.1 } in
        let inside = Contains-map (λ f. record { module_name = name; field = f.0; role = f.1 }) fields t.element t.there in
        own_role m import what there (in_flat_map imports_from m.info.imports.modules (name, instances.Names fields) import c.0 c.1 c.2 inside) t.picks
    of_own (name, instances.Whole which) c e = nothing what (sym e)

    of_roles : roles_out p m.info ≡ Some what → IsLeftOut p (refusals.LeftOut what)
    of_roles e = elim (one_of (first_some (group_out p) m.info.imports.modules) (first_some (λ x. export_left_out p.resolve.types x.1) m.info.exports.exports) what e) [
      | inl a ↦ let t = one_picked (group_out p) m.info.imports.modules what a in of_group t.element t.there t.picks
      | inr b ↦ let t = one_picked (λ x. export_left_out p.resolve.types x.1) m.info.exports.exports what b in export_role m t.element what there t.there t.picks
    ]

    of_module : module_out p m ≡ Some what → IsLeftOut p (refusals.LeftOut what)
    of_module e = elim (one_of (own_left_out p.resolve (items_of p).exports m.keys m.info) (roles_out p m.info) what e) [
      | inl a ↦ let t = one_picked (own_group_out p m.keys) m.info.imports.modules what a in of_own t.element t.there t.picks
      | inr b ↦ of_roles b
    ]

  of_adapter : (a : List ℕ × WorldAdapter) → Contains p.adapters a → adapter_out p a ≡ Some what → IsLeftOut p (refusals.LeftOut what)
  of_adapter a c e = of_module (module_of a) (after (main_of p) (map module_of p.adapters) (module_of a) (Contains-map module_of p.adapters a c)) e

  of_modules : modules_left_out p (items_of p) (places_of p.resolve.types (items_of p).imports) (length (items_of p).imports) ≡ Some what → IsLeftOut p (refusals.LeftOut what)
  of_modules e = elim (one_of (module_out p (main_of p)) (first_some (adapter_out p) p.adapters) what e) [
    | inl a ↦ of_module (main_of p) (at_front (main_of p) (map module_of p.adapters)) a
    | inr b ↦ let t = one_picked (adapter_out p) p.adapters what b in of_adapter t.element t.there t.picks
  ]

  after_order : (resources_left_out p.resolve.types (items_of p).imports ≡ Some what) ⊎ (modules_left_out p (items_of p) (places_of p.resolve.types (items_of p).imports) (length (items_of p).imports) ≡ Some what) → IsLeftOut p (refusals.LeftOut what)
  after_order (inl a) = of_resources (are_in_place p.resolve.types 0 (imported_numbers (items_of p).imports)) refl a
  after_order (inr b) = of_modules b

  of_rest : rest_left_out p (items_of p) ≡ Some what → IsLeftOut p (refusals.LeftOut what)
  of_rest e = elim (one_of (order_left_out p.resolve (items_of p)) _ what e) [
    | inl a ↦ order what a
    | inr b ↦ after_order (one_of (resources_left_out p.resolve.types (items_of p).imports) (modules_left_out p (items_of p) (places_of p.resolve.types (items_of p).imports) (length (items_of p).imports)) what b)
  ]

  after_twice : (names_left_out p.resolve (items_of p) ≡ Some what) ⊎ (rest_left_out p (items_of p) ≡ Some what) → IsLeftOut p (refusals.LeftOut what)
  after_twice (inl a) = of_names (are_exports_named p.resolve (items_of p).exports) refl a
  after_twice (inr b) = of_rest b

  after_items : (twice_left_out (all_required p) (items_of p) ≡ Some what) ⊎ (named_left_out p (items_of p) ≡ Some what) → IsLeftOut p (refusals.LeftOut what)
  after_items (inl a) = twice what a
  after_items (inr b) = after_twice (one_of (names_left_out p.resolve (items_of p)) (rest_left_out p (items_of p)) what b)

  reported : left_out p ≡ Some what → IsLeftOut p (refusals.LeftOut what)
  unfolding left_out
  reported e = elim (one_of (world_left_out (items_of p)) _ what e) [
    | inl a ↦ of_world a
    | inr b ↦ after_items (one_of (twice_left_out (all_required p) (items_of p)) (named_left_out p (items_of p)) what b)
  ]

-- ---- the whole

left_nothing : (p : WorldParts) (o : Option (List ℕ)) (w : ComponentWorld) → left_out p ≡ o → unless_left_out o (whole_of p) ≡ Ok w → left_out p ≡ None
left_nothing p None w is e = is
left_nothing p (Some what) w is e = absurd cc

-- where the world is made, no cause holds
pub no_cause : (p : WorldParts) (w : ComponentWorld) → encoded p ≡ Ok w → (f : Refusal) → IsLeftOut p f → ⊥
unfolding encoded
no_cause p w e = by_cases p (all_encoded p (left_nothing p (left_out p) w refl e))

refused_by : (p : WorldParts) (o : Option (List ℕ)) → left_out p ≡ o → (f : Refusal) → unless_left_out o (whole_of p) ≡ Err (failures.Refused f) → IsLeftOut p f
refused_by p None is f e = absurd cc
refused_by p (Some what) is f e = subst (λ (x : Refusal). IsLeftOut p x) (cc (e)) (reported p what is)

-- where it is refused, that has a cause
pub has_cause : {p : WorldParts} {e : Failure} {f : Refusal} → e ≡ failures.Refused f → (e ≢ failures.Memory → encoded p ≡ Err e) → IsLeftOut p f
unfolding encoded
has_cause {p} {e} {f} same unless =
    let is : encoded p ≡ Err e = unless (λ m. cc) in
    refused_by p (left_out p) refl f (is ∙ ap Err same)
