-- The thread-local base in a world: the roles of the imports that read it or set it, and the type of its cell.
use Rattle.std.proofs.Common.{◌≡◌, ◌∙◌, true, false, true≢false, if◌then◌else◌, Bool, ℕ, zero, suc, List, [], ◌∷◌, map, refl, sym, ap, subst, Option, Some, None, is_some, IsSome, Contains}
use Rattle.std.proofs.lemmas.Option.{none-some, same_Some}
use Rattle.std.specs.List.{slice_get, flat_map, list_any, AllByRecursion}
use Rattle.built_ins.proofs.Typed.{unusable}
use Rattle.built_ins.specs.BuiltIns.{plain_intrinsic, plain_import_type}
use Rattle.built_ins.specs.Payloads.{PayloadCall, named_call}
use Rattle.comp_bytes.specs.declared.canon.Intrinsic.{Intrinsic}
use Rattle.comp_lists.proofs.Lists.{AllByRecursion-weaker, AllByRecursion-front, AllByRecursion-back, AllByRecursion-contains}
use Rattle.core_runs.specs.Cells.{getter_type, setter_type}
use Rattle.core_types.specs.declared.types.ValType.{ValType}
use Rattle.core_types.specs.declared.types.ValType.TheVariants.{I32, I64}
use Rattle.comp_roles.proofs.Firsts.{Picks, one_picked}
use Rattle.comp_roles.specs.CoreImports.{CoreImport, fields_of, imports_from}
use Rattle.comp_roles.specs.declared.imports.Import.{Import}
use Rattle.comp_roles.specs.declared.imports.Import.TheVariants as imports
use Rattle.comp_roles.specs.declared.imports.ImportInstance.{ImportInstance}
use Rattle.wit_data.specs.declared.worlds.WorldKey.TheVariants as keys
use Rattle.comp_worlds.specs.Bases.{base_of_role, cell_imports, cell_type, AreBasesAlike}
use Rattle.comp_worlds.specs.Uses.{all_imports}
use Rattle.comp_worlds.specs.Worlds.{IsWorld, IsImportRole, IsImportGroup}
use Rattle.comp_worlds.specs.declared.world.ComponentWorld.{ComponentWorld}
use Rattle.comp_links.proofs.Groups.{groups_right, grouped_imports}
use Rattle.comp_links.specs.Links.{link_of_cell, link_of_intrinsic, link_of_payload, link_of}
use Rattle.comp_links.specs.Modules.{WorldModule, user_modules, import_groups}
use Rattle.comp_links.specs.Targets.{UserModule, Target, TlsGet, TlsSet, Unlinked}
use Rattle.shim_runs.specs.ShimRuns.{IsOfAddresses}
use Rattle.world_shims.proofs.Bases.{all_there}
use Rattle.link_laws.specs.Meeting.{IsNumber}
use Rattle.link_laws.proofs.Plain.{fields_right}
use Rattle.link_laws.proofs.Zips.{AllByRecursion-join, contained, passes, each_at}

-- ---- the type of a base

-- a base is an address
read_addresses : (type : ValType) → IsSome (plain_intrinsic true (imports.TlsBaseGet type)) → IsOfAddresses (Some type)
read_addresses I32 h = tt
read_addresses I64 h = tt
read_addresses type h = absurd (true≢false (sym h))

set_addresses : (type : ValType) → IsSome (plain_intrinsic true (imports.TlsBaseSet type)) → IsOfAddresses (Some type)
set_addresses I32 h = tt
set_addresses I64 h = tt
set_addresses type h = absurd (true≢false (sym h))

role_addresses : (role : Import) (type : ValType) → base_of_role role ≡ Some type → IsSome (plain_intrinsic true role) → IsOfAddresses (Some type)
role_addresses (imports.TlsBaseGet t) type base h = subst (λ (t : ValType). IsOfAddresses (Some t)) (same_Some t type base) (read_addresses t h)
role_addresses (imports.TlsBaseSet t) type base h = subst (λ (t : ValType). IsOfAddresses (Some t)) (same_Some t type base) (set_addresses t h)
role_addresses role type base h = absurd (none-some type base)

-- and so a number
pub number_of_addresses : (type : ValType) → IsOfAddresses (Some type) → IsNumber type
number_of_addresses I32 h = tt
number_of_addresses I64 h = tt
number_of_addresses type h = absurd h

-- an import of a world that reads or sets a base would have a built-in function where slot 1 could be used
role_usable : (w : ComponentWorld) (role : Import) (type : ValType) → base_of_role role ≡ Some type → IsImportRole w role → IsSome (plain_intrinsic true role)
role_usable w (imports.TlsBaseGet t) type base h = h
role_usable w (imports.TlsBaseSet t) type base h = h
role_usable w role type base h = absurd (none-some type base)

-- the core types of such imports are those of the functions of a cell
pub getter_fits : (type : ValType) → IsSome (plain_intrinsic true (imports.TlsBaseGet type)) → plain_import_type (imports.TlsBaseGet type) ≡ Some (getter_type type)
getter_fits I32 h = refl
getter_fits I64 h = refl
getter_fits type h = absurd (true≢false (sym h))

pub setter_fits : (type : ValType) → IsSome (plain_intrinsic true (imports.TlsBaseSet type)) → plain_import_type (imports.TlsBaseSet type) ≡ Some (setter_type type)
setter_fits I32 h = refl
setter_fits I64 h = refl
setter_fits type h = absurd (true≢false (sym h))

-- ---- the imports of all modules

abbrev IsRight : ComponentWorld → CoreImport → Type 0
IsRight w i = IsImportRole w i.role

fields_too : (w : ComponentWorld) (name : List ℕ) (fields : List (List ℕ × Import)) → AllByRecursion (λ f. IsImportRole w f.1) fields → AllByRecursion (IsRight w) (map (λ (f : List ℕ × Import). record { module_name = name; field = f.0; role = f.1 }) fields)
fields_too w name [] h = tt
fields_too w name (f ∷ fields) h = (h.0, fields_too w name fields h.1)

groups_too : (w : ComponentWorld) (groups : List (List ℕ × ImportInstance)) → AllByRecursion (IsImportGroup w) groups → AllByRecursion (IsRight w) (flat_map imports_from groups)
groups_too w [] h = tt
groups_too w (g ∷ groups) h =
    AllByRecursion-join (IsRight w) (imports_from g) (flat_map imports_from groups) (fields_too w g.0 (fields_of g.1) (fields_right w g h.0)) (groups_too w groups h.1)

all_right : (w : ComponentWorld) → IsWorld w → AllByRecursion (IsRight w) (all_imports w.main w.adapters)
all_right w ok = subst (AllByRecursion (IsRight w)) (grouped_imports w) (groups_too w (import_groups w) (groups_right w ok))

cell_right : (w : ComponentWorld) → IsWorld w → AllByRecursion (IsRight w) (cell_imports w)
cell_right w ok = by w.can_use_context_slot_1
  where
    by : (slot_1 : Bool) → AllByRecursion (IsRight w) (if slot_1 then [] else all_imports w.main w.adapters)
    by true = tt
    by false = all_right w ok

-- what the cell holds is an address
pub cell_addresses : (w : ComponentWorld) → IsWorld w → IsOfAddresses (cell_type w)
cell_addresses w ok = by (cell_type w) refl
  where
    by : (o : Option ValType) → cell_type w ≡ o → IsOfAddresses o
    by None e = tt
    by (Some type) e =
        let p : Picks (λ (i : CoreImport). base_of_role i.role) (cell_imports w) type = one_picked (λ (i : CoreImport). base_of_role i.role) (cell_imports w) type e in
        role_addresses p.element.role type p.picks (role_usable w p.element.role type p.picks (AllByRecursion-contains (IsRight w) (cell_imports w) p.element (cell_right w ok) p.there))

-- ---- what they agree on

-- where the cell holds the base of an import, it is of the import's type
abbrev pub IsAgreed : ComponentWorld → Import → Type 0
IsAgreed w role = (type : ValType) → base_of_role role ≡ Some type → w.can_use_context_slot_1 ≡ false → cell_type w ≡ Some type

abbrev pub IsAgreedGroup : ComponentWorld → List ℕ × ImportInstance → Type 0
IsAgreedGroup w g = AllByRecursion (λ f. IsAgreed w f.1) (fields_of g.1)

agreed_import : (w : ComponentWorld) → AreBasesAlike w → (i : CoreImport) → Contains (all_imports w.main w.adapters) i → IsAgreed w i.role
agreed_import w alike i there type base unusable_1 =
    alike type (record { given = i; present = subst (λ (is : List CoreImport). Contains is i) (sym (all_there w unusable_1)) there; base = base })

abbrev IsAgreedImport : ComponentWorld → CoreImport → Type 0
IsAgreedImport w i = IsAgreed w i.role

all_agreed : (w : ComponentWorld) → AreBasesAlike w → AllByRecursion (IsAgreedImport w) (all_imports w.main w.adapters)
all_agreed w alike =
    let all : List CoreImport = all_imports w.main w.adapters in
    AllByRecursion-weaker (λ i h. agreed_import w alike i (contained all h.0 i h.1)) all (each_at all)

fields_back : (w : ComponentWorld) (name : List ℕ) (fields : List (List ℕ × Import)) → AllByRecursion (IsAgreedImport w) (map (λ (f : List ℕ × Import). record { module_name = name; field = f.0; role = f.1 }) fields) → AllByRecursion (λ f. IsAgreed w f.1) fields
fields_back w name [] h = tt
fields_back w name (f ∷ fields) h = (h.0, fields_back w name fields h.1)

groups_back : (w : ComponentWorld) (groups : List (List ℕ × ImportInstance)) → AllByRecursion (IsAgreedImport w) (flat_map imports_from groups) → AllByRecursion (IsAgreedGroup w) groups
groups_back w [] h = tt
groups_back w (g ∷ groups) h = (
  fields_back w g.0 (fields_of g.1) (AllByRecursion-front (IsAgreedImport w) (imports_from g) (flat_map imports_from groups) h),
  groups_back w groups (AllByRecursion-back (IsAgreedImport w) (imports_from g) (flat_map imports_from groups) h),
)

-- what holds of all entries of some lists holds of those of each
entries_of : {X A : Type 0} (P : A → Type 0) (f : X → List A) (xs : List X) (n : ℕ) (x : X) → AllByRecursion P (flat_map f xs) → slice_get xs n ≡ Some x → AllByRecursion P (f x)
entries_of P f [] n x h e = absurd (none-some x e)
entries_of P f (y ∷ xs) zero x h e = subst (λ z. AllByRecursion P (f z)) (same_Some y x e) (AllByRecursion-front P (f y) (flat_map f xs) h)
entries_of P f (y ∷ xs) (suc n) x h e = entries_of P f xs n x (AllByRecursion-back P (f y) (flat_map f xs) h) e

-- so the roles of a user module's imports do
pub module_agreed : (w : ComponentWorld) → AreBasesAlike w → (number : ℕ) (of : WorldModule) → slice_get (user_modules w) number ≡ Some of → AllByRecursion (IsAgreedGroup w) of.found.imports.modules
module_agreed w alike number of listed =
    entries_of (IsAgreedGroup w) (λ (m : WorldModule). m.found.imports.modules) (user_modules w) number of
    (groups_back w (import_groups w) (subst (AllByRecursion (IsAgreedImport w)) (sym (grouped_imports w)) (all_agreed w alike))) listed

-- where no import reads or sets a base, all agree
abbrev pub has_base : CoreImport → Bool
has_base i = is_some (base_of_role i.role)

pub no_bases : (w : ComponentWorld) → list_any has_base (cell_imports w) ≡ false → AreBasesAlike w
no_bases w none type h = absurd (true≢false (sym (passes has_base (cell_imports w) h.given h.present (ap is_some h.base)) ∙ none))

-- ---- what such an import is given

-- where it has no built-in function, the cell has the import's type
pub cell_of_role : (w : ComponentWorld) (role : Import) (type : ValType) → base_of_role role ≡ Some type → IsImportRole w role → IsAgreed w role → plain_intrinsic w.can_use_context_slot_1 role ≡ None → cell_type w ≡ Some type
cell_of_role w role type base right agreed none = agreed type base (unusable w.can_use_context_slot_1 role (role_usable w role type base right) none)

-- a target that needs a cell
abbrev pub NeedsCell : ComponentWorld → Target → Type 0
NeedsCell w TlsGet = IsSome (cell_type w)
NeedsCell w TlsSet = IsSome (cell_type w)
NeedsCell w target = Unit {0}

needs_by : (w : ComponentWorld) (role : Import) (o : Option Intrinsic) → ((type : ValType) → base_of_role role ≡ Some type → o ≡ None → IsSome (cell_type w)) → NeedsCell w (link_of_intrinsic role o)
needs_by w (imports.TlsBaseGet type) None h = h type refl refl
needs_by w (imports.TlsBaseSet type) None h = h type refl refl
needs_by w role None h = tt
needs_by w role (Some i) h = tt

-- a function of a stream or a future needs none
payload_needs : (w : ComponentWorld) (role : Import) (o : Option PayloadCall) → NeedsCell w (link_of_intrinsic role (plain_intrinsic w.can_use_context_slot_1 role)) → NeedsCell w (link_of_payload w role o)
payload_needs w role (Some c) plain = tt
payload_needs w role None plain = plain

pub cell_needed : (w : ComponentWorld) (of : UserModule) (role : Import) → IsImportRole w role → IsAgreed w role → NeedsCell w (link_of w of role)
cell_needed w of role right agreed = by role right agreed
  where
    own : (role : Import) → IsImportRole w role → IsAgreed w role → NeedsCell w (link_of_intrinsic role (plain_intrinsic w.can_use_context_slot_1 role))
    own role right agreed = needs_by w role (plain_intrinsic w.can_use_context_slot_1 role) (λ type base none. ap is_some (cell_of_role w role type base right agreed none))

    by : (role : Import) → IsImportRole w role → IsAgreed w role → NeedsCell w (link_of w of role)
    by (imports.WorldFunc (keys.Name text) function abi) right agreed = tt
    by (imports.InterfaceFunc key id function abi) right agreed = tt
    by (imports.ImportedResourceDrop key interface id) right agreed = tt
    by (imports.ExportedResourceDrop key id) right agreed = tt
    by (imports.ExportedResourceRep key id) right agreed = tt
    by (imports.ExportedResourceNew key id) right agreed = tt
    by (imports.ExportedTaskReturn key interface f) right agreed = tt
    by imports.WaitableSetWait right agreed = tt
    by imports.WaitableSetPoll right agreed = tt
    by (imports.ErrorContextNew encoding) right agreed = tt
    by (imports.ErrorContextDebugMessage encoding) right agreed = tt
    by (imports.StreamRead p is_async) right agreed = tt
    by (imports.StreamWrite p is_async) right agreed = tt
    by (imports.FutureRead p is_async) right agreed = tt
    by (imports.FutureWrite p is_async) right agreed = tt
    by (imports.MainModuleMemory type) right agreed = tt
    by (imports.MainModuleExport name kind) right agreed = tt
    by (imports.AdapterExport adapter name function) right agreed = tt
    by (imports.Item item) right agreed = tt
    by role right agreed = payload_needs w role (named_call role) (own role right agreed)

-- no other import is given a function of the cell
pub no_cell : (role : Import) → base_of_role role ≡ None → link_of_cell role ≡ Unlinked
no_cell (imports.TlsBaseGet type) e = absurd (none-some type (sym e))
no_cell (imports.TlsBaseSet type) e = absurd (none-some type (sym e))
no_cell role e = refl
