-- What the instance type of the next interface needs is at hand, and what it then exports.
use Rattle.std.proofs.Common.{◌≡◌, ◌∙◌, ◌<◌, length, ℕ, List, [], ◌++◌, map, refl, sym, ap, ap₂, subst}
use Rattle.std.specs.List.{AllByRecursion, flat_map}
use Rattle.comp_bytes.specs.ScopeNames.{member_export}
use Rattle.comp_bytes.specs.declared.types.Member.{Member}
use Rattle.comp_bytes.specs.declared.def.Def.{Def}
use Rattle.comp_inventories.specs.Inventories.{surroundings_of, scope_of}
use Rattle.comp_trees.specs.Members.{member_trees}
use Rattle.wit_data.specs.Sound.{HasFunction}
use Rattle.wit_data.specs.declared.functions.Function.{Function}
use Rattle.wit_data.specs.declared.ids.InterfaceId.{InterfaceId}
use Rattle.wit_data.specs.declared.ids.TypeId.{TypeId}
use Rattle.comp_lists.proofs.Lists.{AllByRecursion-weaker}
use Rattle.type_scopes.specs.Exports.{function_exports}
use Rattle.type_scopes.specs.Foreign.{met_in_all}
use Rattle.type_scopes.specs.Interfaces.{ExportsType, FunctionsIn, used_among}
use Rattle.type_scopes.specs.Needs.{AreNeedsMet}
use Rattle.type_scopes.specs.Offers.{IsOffered, placed}
use Rattle.type_scopes.specs.Places.{Place}
use Rattle.type_scopes.specs.Titles.{HasTitle, AreTitlesApart, AscendFrom, IsKnownByName, names_exported}
use Rattle.type_scopes.specs.declared.outer_type.OuterType.{OuterType}
use Rattle.world_values.specs.Items.{functions_of}
use Rattle.comp_worlds.specs.Encodable.{IsEncodable}
use Rattle.comp_worlds.specs.Worlds.{IsNamedFunction}
use Rattle.comp_worlds.specs.declared.world.ComponentWorld.{ComponentWorld}
use Rattle.comp_links.specs.Lists.{import_entries, names_of_interface, needed_types, number_of_interface, resource_of, type_name}
use Rattle.comp_links.specs.Roles.{is_used_of}
use Rattle.comp_terms.specs.Terms.{imports_in}
use Rattle.interface_needs.specs.Needs.{AreFunctionsApart, AreNeedsAtHand, AreTypesKnown, AreUsedNames, IsImported, IsMetEarlier}
use Rattle.interface_needs.proofs.InterfaceNeeds.{needs_at_hand}
use Rattle.interface_needs.proofs.InterfaceTypes.{types_known}
use Rattle.comp_imports.specs.Interfaces.{AreTypesOffered, next_place, offer_of}
use Rattle.root_imports.specs.Interfaces.{ExportsNeeded, ExportsUsed}
use Rattle.comp_imports.proofs.FunctionExports.{exports_used, used_names}
use Rattle.comp_imports.proofs.ListedFunctions.{functions_sound}
use Rattle.comp_imports.proofs.InterfaceLoop.{names_used, named_only}

-- what the call that encodes an instance type asks for
pub record IsReady (w : ComponentWorld) (place : Place) (here : InterfaceId) (ids : List TypeId) (used : List (List ℕ × Unit {0})) (table : List (OuterType × ℕ)) (fs : List (List ℕ × Function)) : Type 0 where
  pub offered : IsOffered place.surroundings place.origin (offer_of w table)
  pub functions : AllByRecursion (λ e. HasFunction w.resolve e.1) fs
  pub titled : AllByRecursion (HasTitle w.resolve.types here) ids
  pub apart : AreTitlesApart w.resolve.types here ids
  pub ascend : AscendFrom 0 ids
  pub known : AllByRecursion (IsKnownByName place.surroundings place.origin w.resolve.types) ids
  pub needs : AreNeedsMet (offer_of w table) here ids (used_among used fs)

module _ (w : ComponentWorld) (ok : IsEncodable w) (ds : List Def) (here : InterfaceId) (used : List (List ℕ × Unit {0})) (table : List (OuterType × ℕ)) (number : number_of_interface here (import_entries w) ≡ imports_in ds) (imported : IsImported w here) (names : AreUsedNames w here used)
    (apart : AreFunctionsApart w here) (offered : AreTypesOffered w ds here used table) where
  ready_there : IsReady w (next_place w ds) here (needed_types w here) used table (functions_of w.resolve here)
  ready_there =
      let types : AreTypesKnown w here = types_known w ok here imported in
      let hand : AreNeedsAtHand w here (used_among used (functions_of w.resolve here)) = needs_at_hand w ok here imported apart used names in
      record {
        offered = record { each = offered.offered.each };
        functions = functions_sound w.resolve ok.sound here;
        titled = types.titled;
        apart = types.apart;
        ascend = types.ascend;
        known = subst (λ n. AllByRecursion (IsKnownByName (surroundings_of n (scope_of ds)) (resource_of w) w.resolve.types) (needed_types w here)) number (types.known (scope_of ds));
        needs = hand.needs (offer_of w table) refl offered.all;
      }

  pub ready : (place : Place) (ids : List TypeId) (fs : List (List ℕ × Function)) → place ≡ next_place w ds → ids ≡ needed_types w here → fs ≡ functions_of w.resolve here → IsReady w place here ids used table fs
  ready place ids fs at needed same =
      subst (λ p. IsReady w p here ids used table fs) (sym at)
      (subst (λ ts. IsReady w (next_place w ds) here ts used table fs) (sym needed) (subst (λ es. IsReady w (next_place w ds) here (needed_types w here) used table es) (sym same) ready_there))

-- the needed types exist in the resolve
pub needed_present : (w : ComponentWorld) → IsEncodable w → (here : InterfaceId) → IsImported w here → (ids : List TypeId) → ids ≡ needed_types w here → AllByRecursion (λ id. id.index < length w.resolve.types) ids
needed_present w ok here imported ids same =
    subst (AllByRecursion (λ (id : TypeId). id.index < length w.resolve.types)) (sym same) (AllByRecursion-weaker (λ id h. h.is.present) (needed_types w here) (types_known w ok here imported).titled)

-- the types of other interfaces that are met in its types and these of its functions are needed by interfaces that are
-- imported earlier
pub met_earlier : (w : ComponentWorld) → IsEncodable w → (here : InterfaceId) (used : List (List ℕ × Unit {0})) → IsImported w here → AreUsedNames w here used → AreFunctionsApart w here →
    AllByRecursion (IsMetEarlier w here) (met_in_all w.resolve.types here (needed_types w here) (used_among used (functions_of w.resolve here)))
met_earlier w ok here used imported names apart = (needs_at_hand w ok here imported apart used names).met

-- ---- what is exported

module _ (w : ComponentWorld) (ds : List Def) (here : InterfaceId) (used : List (List ℕ × Unit {0})) (table : List (OuterType × ℕ)) (plain : AllByRecursion IsNamedFunction (functions_of w.resolve here)) (names : AreUsedNames w here used) (place : Place)
    (at : place ≡ next_place w ds) (ids : List TypeId) (needed : ids ≡ needed_types w here) (fs : List (List ℕ × Function)) (same : fs ≡ functions_of w.resolve here) (ms : List Member) where
  origin : place.origin ≡ resource_of w
  origin = ap (λ (p : Place). p.origin) at

  pub functions_exported : FunctionsIn (placed place.surroundings place.origin (offer_of w table) here ids) (member_trees place.surroundings [] ms) (function_exports ms) (used_among used fs) → ExportsUsed w here place.surroundings ms
  functions_exported h =
      exports_used w here place.surroundings (placed place.surroundings place.origin (offer_of w table) here ids) ms used refl origin plain names
      (subst (λ es. FunctionsIn (placed place.surroundings place.origin (offer_of w table) here ids) (member_trees place.surroundings [] ms) (function_exports ms) (used_among used es)) same h)

  pub types_exported : AllByRecursion (ExportsType place.surroundings place.origin w.resolve.types here ms) ids → ExportsNeeded w here place.surroundings ms
  types_exported h =
      subst (λ o. AllByRecursion (ExportsType place.surroundings o w.resolve.types here ms) (needed_types w here)) origin (subst (AllByRecursion (ExportsType place.surroundings place.origin w.resolve.types here ms)) needed h)

  pub exported_names : flat_map member_export ms ≡ names_exported w.resolve.types ids (used_among used fs) → flat_map member_export ms ≡ names_of_interface w here
  exported_names h =
      h ∙ (ap₂ (λ ts es. names_exported w.resolve.types ts (used_among used es)) needed same
      ∙ ap (λ l. map (type_name w) (needed_types w here) ++ l) (used_names used (is_used_of w here) (functions_of w.resolve here) (named_only w.resolve.types (functions_of w.resolve here) plain) (names_used w here used names)))
