-- The functions of imported interfaces: each is one that the interface's instance exports.
use Rattle.std.proofs.Common.{◌≡◌, ◌∙◌, ap, sym, subst, refl, ℕ, Bool, true, false, true≢false, cond, List, [], ◌∷◌, map, Some, None, if◌then◌else◌, inl, inr, IsSome, Contains}
use Rattle.std.specs.Map.{lookup}
use Rattle.std.specs.Str.{bytes_eq}
use Rattle.std.proofs.lemmas.Slice.Eq.{bytes_eq-Decides}
use Rattle.std.proofs.lemmas.Bool.Decides.{Decides-eqb}
use Rattle.comp_lists.specs.Found.{found}
use Rattle.comp_bytes.specs.declared.def.Def.{Def}
use Rattle.comp_bytes.specs.declared.space.Space.TheVariants as spaces
use Rattle.comp_trees.specs.Trees.{FunctionTree}
use Rattle.comp_inventories.specs.Inventories.{surroundings_of}
use Rattle.comp_roles.specs.CoreImports.{CoreImport}
use Rattle.comp_roles.specs.declared.imports.Import.TheVariants as imports
use Rattle.comp_links.specs.Lists.{IsOriginOf}
use Rattle.comp_links.specs.Roles.{interface_function}
use Rattle.comp_links.specs.Modules.{module_found}
use Rattle.comp_links.specs.Targets.{UserModule as User, OfInterface}
use Rattle.comp_terms.specs.Planned.{IsTypeOf, type_of_function}
use Rattle.comp_terms.specs.Rules.{AliasesImported}
use Rattle.comp_terms.specs.Terms.{IsImportedFunction}
use Rattle.core_options.specs.MainOptions.{IsFunctionOf}
use Rattle.comp_worlds.specs.Encodable.{IsEncodable}
use Rattle.comp_worlds.specs.Uses.{imports_of}
use Rattle.comp_worlds.specs.Worlds.{IsImportRole}
use Rattle.comp_worlds.specs.declared.world.ComponentWorld.{ComponentWorld}
use Rattle.comp_worlds.specs.declared.world.ValidatedModule.{ValidatedModule}
use Rattle.wit_data.specs.contracts.ids.InterfaceIdPartialEq.TheImpl as same_id
use Rattle.wit_data.specs.declared.functions.AbiVariant.{AbiVariant}
use Rattle.wit_data.specs.declared.functions.Function.{Function}
use Rattle.wit_data.specs.declared.ids.InterfaceId.{InterfaceId}
use Rattle.wit_data.specs.declared.worlds.WorldKey.{WorldKey}
use Rattle.world_values.specs.Items.{functions_of}
use Rattle.comp_links.specs.Roles.{is_used_of}
use Rattle.root_imports.specs.Interfaces.{AreInstancesKnown, ExportsFunction, FindsInterfaces, IsInterfaceImport}
use Rattle.root_imports.proofs.NeededNames.{both_none}
use Rattle.root_imports.proofs.ExportedTypes.{found_import, is_there}
use Rattle.interface_needs.proofs.Lists.{filter_keeps}
use Rattle.interface_needs.proofs.Lists.{contains_none, contains_cons}
use Rattle.main_instance.specs.Sources.{IsUsedOfInterface}
use Rattle.main_instance.proofs.Serving.{import_role, used_of_interface}

-- ---- what is found

record HasFound (fs : List (List ℕ × Function)) (name : List ℕ) : Type 0 where
  function : Function
  is : found name fs ≡ Some function

-- a listed function is found by its name
found_listed : (fs : List (List ℕ × Function)) (name : List ℕ) → Contains (map (λ f. f.0) fs) name → HasFound fs name
found_listed [] name c = contains_none name c
found_listed (f ∷ fs) name c = by (bytes_eq name f.0) refl (found_listed fs name)
  where
    by : (b : Bool) → bytes_eq name f.0 ≡ b → (Contains (map (λ g. g.0) fs) name → HasFound fs name) → HasFound (f ∷ fs) name
    by true e later = record { function = f.1; is = ap (λ b. cond b (Some f.1) (found name fs)) e }
    by false e later = elim (contains_cons f.0 (map (λ g. g.0) fs) name c) [
      | inl same ↦ absurd (true≢false (sym ((bytes_eq-Decides name f.0).1 (sym same)) ∙ e))
      | inr behind ↦ let h = later behind in record { function = h.function; is = ap (λ b. cond b (Some f.1) (found name fs)) e ∙ h.is }
    ]

-- an interface with a function that is used is found
pub interface_found : (w : ComponentWorld) (ds : List Def) (table : List (InterfaceId × ℕ)) (id : InterfaceId) (name : List ℕ) → AreInstancesKnown w ds table → IsUsedOfInterface w id name → IsSome (lookup (same_id.eq-value.it id) table)
interface_found w ds table id name h u =
    is_there (lookup (same_id.eq-value.it id) table)
    (h.needed.each id (record { key = u.key; there = u.listed })
    (λ none. contains_none name (subst (λ names. Contains names name) (both_none w id none).1 (filter_keeps (is_used_of w id) (map (λ f. f.0) (functions_of w.resolve id)) name u.named u.used))))

-- ---- a function of an imported interface

pub record IsInterfaceFunction (w : ComponentWorld) (ds : List Def) (instance : ℕ) (id : InterfaceId) (name : List ℕ) : Type 0 where
  pub import : IsInterfaceImport w ds id instance
  pub type : FunctionTree
  pub typed : IsTypeOf w (OfInterface id name) type
  pub exported : ExportsFunction (surroundings_of import.number import.outer) import.members name type

-- a used function is one that the interface's instance exports, with its type
pub used_function : (w : ComponentWorld) (ds : List Def) (table : List (InterfaceId × ℕ)) (id : InterfaceId) (instance : ℕ) (name : List ℕ) → FindsInterfaces w ds table → IsUsedOfInterface w id name → lookup (same_id.eq-value.it id) table ≡ Some instance →
    IsInterfaceFunction w ds instance id name
used_function w ds table id instance name h u e =
    let i = found_import w ds id instance table h.each e in
    let f = found_listed (functions_of w.resolve id) name u.named in
    record {
      import = i;
      type = type_of_function w f.function;
      typed = record { wit = f.function; imported = f.is; typed = refl };
      exported = i.functions.each name f.function f.is u.used;
    }

module _ {w : ComponentWorld} {ds : List Def} {instance : ℕ} {id : InterfaceId} {name : List ℕ} (h : IsInterfaceFunction w ds instance id name) where
  -- where it is imported
  pub origin_of : IsOriginOf w (OfInterface id name) (record { number = h.import.number; inner = Some name })
  origin_of = (h.import.key, h.import.stated, refl)

  pub aliased : AliasesImported ds spaces.Func instance name
  aliased = record { number = h.import.number; outer = h.import.outer; members = h.import.members; imported = h.import.imported; exported = h.exported.there }

  -- an alias of it is that function
  pub aliased_function : (new : List Def) (index : ℕ) → IsImportedFunction new index (record { number = h.import.number; inner = Some name }) h.type → IsFunctionOf w new index (OfInterface id name)
  aliased_function new index is = record { origin = record { number = h.import.number; inner = Some name }; type = h.type; of = origin_of; typed = h.typed; is = is }

-- ---- which functions are used

-- the function of an interface that the role of a core import has
pub own_function : (id : InterfaceId) (key : WorldKey) (text : List ℕ) (abi : AbiVariant) → interface_function id (imports.InterfaceFunc key id text abi) ≡ Some text
own_function id key text abi = ap (λ b. if b then Some text else None) ((Decides-eqb id.index id.index).1 refl)

-- an import names a function that the world imports and that is used
pub used_by_role : (w : ComponentWorld) → IsEncodable w → (of : User) (m : ValidatedModule) → module_found w of ≡ Some m → (i : CoreImport) (key : WorldKey) (id : InterfaceId) (text : List ℕ) (abi : AbiVariant) → i.role ≡ imports.InterfaceFunc key id text abi →
    Contains (imports_of m) i → IsUsedOfInterface w id text
used_by_role w valid of m there i key id text abi is present =
    let r : IsImportRole w (imports.InterfaceFunc key id text abi) = subst (IsImportRole w) is (import_role w of m there valid i present) in
    record { key = key; listed = r.0; named = r.1; used = used_of_interface w of m there i id text (ap (interface_function id) is ∙ own_function id key text abi) present }
