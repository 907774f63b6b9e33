-- The name of a role is read as that role, if it is not refused.
use Rattle.std.proofs.Common.{◌≡◌, ℕ, Bool, true, false, true≢false, List, ◌++◌, Some, refl, sym, ap, subst, ◌∙◌, ◌⊎◌, inl, inr}
use Rattle.std.specs.Prelude.{codes, if◌then◌else◌}
use Rattle.std.proofs.Math.Seq.{take-append_seam, drop-append_seam}
use Rattle.std.proofs.lemmas.Slice.Eq.{bytes_eq-Decides}
use Rattle.wit_data.specs.declared.functions.AbiVariant.TheVariants as abis
use Rattle.record_values.specs.declared.names.InterfaceName.{InterfaceName}
use Rattle.record_values.specs.declared.names.Owner.{Owner}
use Rattle.record_values.specs.declared.names.Owner.TheVariants as owners
use Rattle.record_values.specs.declared.names.TypeName.{TypeName}
use Rattle.record_values.specs.declared.roles.ImportRole.{ImportRole}
use Rattle.record_values.specs.declared.roles.ImportRole.TheVariants as roles
use Rattle.record_values.specs.declared.world.ItemKey.TheVariants as keys
use Rattle.record_values.specs.Names.{name_text}
use Rattle.core_import_names.specs.declared.fields.HandleOperation.{HandleOperation}
use Rattle.core_import_names.specs.declared.fields.HandleOperation.TheVariants as handles
use Rattle.world_names.specs.declared.labels.Side.{Side}
use Rattle.world_names.specs.declared.labels.Side.TheVariants as sides
use Rattle.name_parts.specs.declared.reading.Reading.{Reading}
use Rattle.name_parts.specs.declared.reading.Reading.TheVariants as readings
use Rattle.name_parts.specs.declared.reading.Refusal.TheVariants as refusals
use Rattle.world_names.specs.declared.scopes.Scope.{Scope}
use Rattle.world_names.specs.declared.tables.WorldNames.{WorldNames}
use Rattle.name_parts.specs.Builtins.{is_not_encoded, builtin}
use Rattle.core_import_names.specs.ImportNames.{called, drop_of, dropped, handle_role, own_resource, returned, cancelled, handle_field, payload_field, field_on_side, field, field_of, as_builtin, of_root, of_exported_root, of_exported, of_exported_label, older_imported, older_exported, older_import}
use Rattle.world_names.specs.Labels.{as_interface, interface_at, labelled, imported_label}
use Rattle.name_parts.specs.Readings.{after_meaning, joined, ◌⊕◌, otherwise}
use Rattle.world_names.specs.Scopes.{of_interface, has_function, resource, is_own_resource}
use Rattle.core_import_names.specs.Spelling.{scope, HasOwner, module_name, NamesImport, IsRefused, ImportsAreReadBack, ImportNamesDiffer}
use Rattle.name_parts.specs.Texts.{after}

-- ---- readings

-- a reading is this, or it is refused
abbrev IsReadAs : {R : Type 0} → Reading R → R → Type 0
IsReadAs readings.Nothing x = ⊥
IsReadAs (readings.Means y) x = y ≡ x
IsReadAs (readings.Refused r) x = Unit {0}

left : {R : Type 0} (a b : Reading R) (x : R) → IsReadAs a x → IsReadAs (a ⊕ b) x
unfolding joined
left readings.Nothing b x h = absurd h
left {R} (readings.Means y) b x h = by b
  where
    by : (c : Reading R) → IsReadAs (after_meaning y c) x
    by readings.Nothing = h
    by (readings.Means z) = tt
    by (readings.Refused r) = tt
left (readings.Refused r) b x h = tt

right : {R : Type 0} (a b : Reading R) (x : R) → IsReadAs b x → IsReadAs (a ⊕ b) x
unfolding joined
right readings.Nothing b x h = h
right (readings.Means y) readings.Nothing x h = absurd h
right (readings.Means y) (readings.Means z) x h = tt
right (readings.Means y) (readings.Refused r) x h = tt
right (readings.Refused r) b x h = tt

first : {R : Type 0} (a b : Reading R) (x : R) → IsReadAs a x → IsReadAs (otherwise a b) x
unfolding otherwise
first readings.Nothing b x h = absurd h
first (readings.Means y) b x h = h
first (readings.Refused r) b x h = tt

decided : {R : Type 0} (a : Reading R) (x : R) → IsReadAs a x → (a ≡ readings.Means x) ⊎ IsRefused a
decided readings.Nothing x h = absurd h
decided (readings.Means y) x h = inl (ap (λ z. readings.Means z) h)
decided (readings.Refused r) x h = inr (r, refl)

one_or_refused : {R : Type 0} (a : Reading R) (x y : R) → IsReadAs a x → IsReadAs a y → (x ≡ y) ⊎ IsRefused a
one_or_refused readings.Nothing x y h k = absurd h
one_or_refused (readings.Means z) x y h k = inl (sym h ∙ k)
one_or_refused (readings.Refused r) x y h k = inr (r, refl)

when : {R : Type 0} (b : Bool) (x : R) → b ≡ true → IsReadAs (if b then readings.Means x else readings.Nothing) x
when true x e = refl
when false x e = absurd (true≢false (sym e))

after_prefix : (p t : List ℕ) → after p (p ++ t) ≡ Some t
unfolding after
after_prefix p t = rw (take-append_seam p t, drop-append_seam p t, (bytes_eq-Decides p p).1 refl) refl

-- ---- fields

unless : (b : Bool) (a : Reading ImportRole) (role : ImportRole) → IsReadAs a role → IsReadAs (if b then readings.Refused refusals.NotEncoded else a) role
unless true a role h = tt
unless false a role h = h

in_field : (n : WorldNames) (s : Scope) (f : List ℕ) (role : ImportRole) → IsReadAs (field_on_side n s s.side f) role → IsReadAs (field n s f) role
unfolding field
in_field n s f role h = unless (is_not_encoded f) (field_on_side n s s.side f ⊕ payload_field n s f) role (left (field_on_side n s s.side f) (payload_field n s f) role h)

in_interface : (n : WorldNames) (side : Side) (r : Reading InterfaceName) (i : InterfaceName) (f : List ℕ) (role : ImportRole) → IsReadAs r i
    → IsReadAs (field n (of_interface side i) f) role → IsReadAs (field_of n side r f) role
in_interface n side readings.Nothing i f role h k = absurd h
in_interface n side (readings.Means j) i f role h k = subst (λ z. IsReadAs (field n (of_interface side z) f) role) (sym h) k
in_interface n side (readings.Refused r) i f role h k = tt

label : (n : WorldNames) (side : Side) (i : InterfaceName) → HasOwner n side (owners.Interface i) → IsReadAs (labelled n side (name_text i)) i
label n side i (inl e) =
    left (interface_at n side (keys.Name (name_text i))) (interface_at n side (keys.Interface (name_text i))) i (subst (λ o. IsReadAs (as_interface o) i) (sym e) refl)
label n side i (inr e) =
    right (interface_at n side (keys.Name (name_text i))) (interface_at n side (keys.Interface (name_text i))) i (subst (λ o. IsReadAs (as_interface o) i) (sym e) refl)

imported : (n : WorldNames) (i : InterfaceName) → HasOwner n sides.Imported (owners.Interface i) → IsReadAs (imported_label n (name_text i)) i
unfolding imported_label
imported n i h = first (labelled n sides.Imported (name_text i)) _ i (label n sides.Imported i h)

-- ---- modules

of_imports : (n : WorldNames) (owner : Owner) (f : List ℕ) (role : ImportRole) → HasOwner n sides.Imported owner
    → IsReadAs (field n (scope sides.Imported owner) f) role → IsReadAs (older_import n (module_name sides.Imported owner) f) role
unfolding older_import
of_imports n owners.World f role o h =
    let m = codes "$root" in
    left (older_imported n m f) (older_exported n m f) role
    (left (of_root n m f) (field_of n sides.Imported (imported_label n m) f) role (left (field n (scope sides.Imported owners.World) f) (as_builtin (builtin f)) role h))
of_imports n (owners.Interface i) f role o h =
    let m = name_text i in
    left (older_imported n m f) (older_exported n m f) role
    (right (of_root n m f) (field_of n sides.Imported (imported_label n m) f) role (in_interface n sides.Imported (imported_label n m) i f role (imported n i o) h))

of_exports : (n : WorldNames) (owner : Owner) (f : List ℕ) (role : ImportRole) → HasOwner n sides.Exported owner
    → IsReadAs (field n (scope sides.Exported owner) f) role → IsReadAs (older_import n (module_name sides.Exported owner) f) role
unfolding older_import
of_exports n owners.World f role o h =
    let m = codes "[export]$root" in
    right (older_imported n m f) (older_exported n m f) role (left (of_exported_root n m f) (of_exported_label n m f) role h)
of_exports n (owners.Interface i) f role o h =
    let m = codes "[export]" ++ name_text i in
    right (older_imported n m f) (older_exported n m f) role (right (of_exported_root n m f) (of_exported_label n m f) role
    (subst (λ t. IsReadAs (of_exported n t f) role) (sym (after_prefix (codes "[export]") (name_text i)))
    (in_interface n sides.Exported (labelled n sides.Exported (name_text i)) i f role (label n sides.Exported i o) h)))

-- ---- roles

moved : (n : WorldNames) (m f m2 f2 : List ℕ) (role : ImportRole) → m ≡ m2 → f ≡ f2 → IsReadAs (older_import n m2 f2) role → IsReadAs (older_import n m f) role
moved n m f m2 f2 role em ef h = subst (λ x. IsReadAs (older_import n x f) role) (sym em) (subst (λ y. IsReadAs (older_import n m2 y) role) (sym ef) h)

call_field : (n : WorldNames) (owner : Owner) (name : List ℕ) → has_function n (scope sides.Imported owner) name ≡ true
    → IsReadAs (field n (scope sides.Imported owner) name) (roles.Function owner name abis.GuestImport)
call_field n owner name e =
    let s = scope sides.Imported owner in
    let role = roles.Function owner name abis.GuestImport in
    in_field n s name role (left _ _ role (left (called n s abis.GuestImport (Some name)) _ role (when (has_function n s name) role e)))

async_field : (n : WorldNames) (owner : Owner) (name : List ℕ) → has_function n (scope sides.Imported owner) name ≡ true
    → IsReadAs (field n (scope sides.Imported owner) (codes "[async-lower]" ++ name)) (roles.Function owner name abis.GuestImportAsync)
async_field n owner name e =
    let s = scope sides.Imported owner in
    let f = codes "[async-lower]" ++ name in
    let role = roles.Function owner name abis.GuestImportAsync in
    in_field n s f role (left _ _ role (right (called n s abis.GuestImport (Some f)) (called n s abis.GuestImportAsync (after (codes "[async-lower]") f)) role
    (subst (λ t. IsReadAs (called n s abis.GuestImportAsync t) role) (sym (after_prefix (codes "[async-lower]") name)) (when (has_function n s name) role e))))

drop_field : (n : WorldNames) (t : TypeName) → resource n (scope sides.Imported t.owner) t.name ≡ Some t
    → IsReadAs (field n (scope sides.Imported t.owner) (codes "[resource-drop]" ++ t.name)) (roles.ImportedDrop t)
drop_field n t e =
    let s = scope sides.Imported t.owner in
    let f = codes "[resource-drop]" ++ t.name in
    let role = roles.ImportedDrop t in
    in_field n s f role (right _ (dropped n s (after (codes "[resource-drop]") f)) role
    (subst (λ x. IsReadAs (dropped n s x) role) (sym (after_prefix (codes "[resource-drop]") t.name)) (subst (λ r. IsReadAs (drop_of r) role) (sym e) refl)))

own : (n : WorldNames) (t : TypeName) (operation : HandleOperation) (p : List ℕ) → is_own_resource n (scope sides.Exported t.owner) t.name ≡ true
    → IsReadAs (own_resource n (scope sides.Exported t.owner) operation (after p (p ++ t.name))) (handle_role operation t)
own n t operation p e =
    subst (λ x. IsReadAs (own_resource n (scope sides.Exported t.owner) operation x) (handle_role operation t)) (sym (after_prefix p t.name))
    (when (is_own_resource n (scope sides.Exported t.owner) t.name) (handle_role operation t) e)

in_handles : (n : WorldNames) (s : Scope) (f : List ℕ) (role : ImportRole) → IsReadAs (handle_field n s f) role → IsReadAs (field_on_side n s sides.Exported f) role
in_handles n s f role h = left _ (cancelled f) role (left (handle_field n s f) _ role h)

new_field : (n : WorldNames) (t : TypeName) → is_own_resource n (scope sides.Exported t.owner) t.name ≡ true
    → IsReadAs (field n (scope sides.Exported t.owner) (codes "[resource-new]" ++ t.name)) (roles.ExportedNew t)
new_field n t e =
    let s = scope sides.Exported t.owner in
    let f = codes "[resource-new]" ++ t.name in
    let role = roles.ExportedNew t in
    in_field n s f role (in_handles n s f role (left _ _ role (left _ _ role (own n t handles.New (codes "[resource-new]") e))))

rep_field : (n : WorldNames) (t : TypeName) → is_own_resource n (scope sides.Exported t.owner) t.name ≡ true
    → IsReadAs (field n (scope sides.Exported t.owner) (codes "[resource-rep]" ++ t.name)) (roles.ExportedRep t)
rep_field n t e =
    let s = scope sides.Exported t.owner in
    let f = codes "[resource-rep]" ++ t.name in
    let role = roles.ExportedRep t in
    in_field n s f role (in_handles n s f role (left _ _ role (right _ _ role (own n t handles.Rep (codes "[resource-rep]") e))))

own_drop_field : (n : WorldNames) (t : TypeName) → is_own_resource n (scope sides.Exported t.owner) t.name ≡ true
    → IsReadAs (field n (scope sides.Exported t.owner) (codes "[resource-drop]" ++ t.name)) (roles.ExportedDrop t)
own_drop_field n t e =
    let s = scope sides.Exported t.owner in
    let f = codes "[resource-drop]" ++ t.name in
    let role = roles.ExportedDrop t in
    in_field n s f role (in_handles n s f role (right _ _ role (own n t handles.Drop (codes "[resource-drop]") e)))

return_field : (n : WorldNames) (owner : Owner) (name : List ℕ) → has_function n (scope sides.Exported owner) name ≡ true
    → IsReadAs (field n (scope sides.Exported owner) (codes "[task-return]" ++ name)) (roles.TaskReturn owner name)
return_field n owner name e =
    let s = scope sides.Exported owner in
    let f = codes "[task-return]" ++ name in
    let role = roles.TaskReturn owner name in
    in_field n s f role (left _ (cancelled f) role (right (handle_field n s f) (returned n s (after (codes "[task-return]") f)) role
    (subst (λ x. IsReadAs (returned n s x) role) (sym (after_prefix (codes "[task-return]") name)) (when (has_function n s name) role e))))

reads_back : (n : WorldNames) (role : ImportRole) (m f : List ℕ) → NamesImport n role m f → IsReadAs (older_import n m f) role
reads_back n (roles.Function owner name abis.GuestImport) m f h =
    moved n m f (module_name sides.Imported owner) name (roles.Function owner name abis.GuestImport) h.2.0 h.2.1
    (of_imports n owner name (roles.Function owner name abis.GuestImport) h.0.0 (call_field n owner name h.0.1))
reads_back n (roles.Function owner name abis.GuestImportAsync) m f h =
    moved n m f (module_name sides.Imported owner) (codes "[async-lower]" ++ name) (roles.Function owner name abis.GuestImportAsync) h.2.0 h.2.1
    (of_imports n owner (codes "[async-lower]" ++ name) (roles.Function owner name abis.GuestImportAsync) h.0.0 (async_field n owner name h.0.1))
reads_back n (roles.Function owner name abi) m f h = absurd h.1
reads_back n (roles.ImportedDrop t) m f h =
    moved n m f (module_name sides.Imported t.owner) (codes "[resource-drop]" ++ t.name) (roles.ImportedDrop t) h.2.0 h.2.1
    (of_imports n t.owner (codes "[resource-drop]" ++ t.name) (roles.ImportedDrop t) h.0 (drop_field n t h.1))
reads_back n (roles.ExportedNew t) m f h =
    moved n m f (module_name sides.Exported t.owner) (codes "[resource-new]" ++ t.name) (roles.ExportedNew t) h.1.0 h.1.1
    (of_exports n t.owner (codes "[resource-new]" ++ t.name) (roles.ExportedNew t) h.0.0 (new_field n t h.0.1))
reads_back n (roles.ExportedRep t) m f h =
    moved n m f (module_name sides.Exported t.owner) (codes "[resource-rep]" ++ t.name) (roles.ExportedRep t) h.1.0 h.1.1
    (of_exports n t.owner (codes "[resource-rep]" ++ t.name) (roles.ExportedRep t) h.0.0 (rep_field n t h.0.1))
reads_back n (roles.ExportedDrop t) m f h =
    moved n m f (module_name sides.Exported t.owner) (codes "[resource-drop]" ++ t.name) (roles.ExportedDrop t) h.1.0 h.1.1
    (of_exports n t.owner (codes "[resource-drop]" ++ t.name) (roles.ExportedDrop t) h.0.0 (own_drop_field n t h.0.1))
reads_back n (roles.TaskReturn owner name) m f h =
    moved n m f (module_name sides.Exported owner) (codes "[task-return]" ++ name) (roles.TaskReturn owner name) h.1.0 h.1.1
    (of_exports n owner (codes "[task-return]" ++ name) (roles.TaskReturn owner name) h.0.0 (return_field n owner name h.0.1))
reads_back n role m f h = absurd h

pub imports_are_read_back_lem : ImportsAreReadBack
imports_are_read_back_lem n role m f h = decided (older_import n m f) role (reads_back n role m f h)

pub import_names_differ_lem : ImportNamesDiffer
import_names_differ_lem n one other m f a b = one_or_refused (older_import n m f) one other (reads_back n one m f a) (reads_back n other m f b)
