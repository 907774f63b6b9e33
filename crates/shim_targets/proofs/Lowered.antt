-- How a function is lowered that a core import calls: as the table of the world's imports says.
use Rattle.std.proofs.Common.{◌≡◌, ◌∙◌, ℕ, Bool, true, false, ◌&&◌, List, [], ◌∷◌, ◌++◌, cond, if◌then◌else◌, Some, None, refl, sym, ap, subst, codes}
use Rattle.std.proofs.Math.Bool.{and-false}
use Rattle.std.specs.Prelude.{nat_eq}
use Rattle.std.specs.List.{AllByRecursion, flat_map}
use Rattle.std.specs.Map.{lookup}
use Rattle.std.specs.Str.{bytes_eq}
use Rattle.std.proofs.lemmas.Option.{none-some, same_Some}
use Rattle.std.proofs.lemmas.Slice.Eq.{bytes_eq-Decides}
use Rattle.comp_lists.specs.Found.{found}
use Rattle.wit_data.specs.Keys.{is_same_key}
use Rattle.wit_data.specs.Live.{named_types}
use Rattle.wit_data.specs.declared.functions.AbiVariant.{AbiVariant}
use Rattle.wit_data.specs.declared.functions.AbiVariant.TheVariants.{GuestImport, GuestImportAsync, GuestExport}
use Rattle.wit_data.specs.declared.functions.Function.{Function}
use Rattle.wit_data.specs.declared.ids.InterfaceId.{InterfaceId}
use Rattle.wit_data.specs.declared.ids.TypeId.{TypeId}
use Rattle.wit_data.specs.declared.resolve.Resolve.{Resolve}
use Rattle.wit_data.specs.declared.types.TypeDef.{TypeDef}
use Rattle.wit_data.specs.declared.worlds.WorldItem.{WorldItem}
use Rattle.wit_data.specs.declared.worlds.WorldItem.TheVariants as items
use Rattle.wit_data.specs.declared.worlds.WorldKey.{WorldKey}
use Rattle.wit_data.specs.declared.worlds.WorldKey.TheVariants as keys
use Rattle.world_values.specs.Items.{functions_of}
use Rattle.world_values.specs.Tables.{with_all}
use Rattle.comp_worlds.specs.Imported.{Lowerings, Imported, lowering_of, function_lowerings, drop_lowerings, root_lowerings, interface_lowerings, is_same_import_key, interface_entry}
use Rattle.comp_worlds.specs.Lowerings.{IsImportForm, abi_number, is_same_lowering}
use Rattle.comp_worlds.specs.Uses.{Used, call_at}
use Rattle.comp_worlds.specs.Worlds.{IsNamedFunction, IsImportItem}
use Rattle.comp_worlds.specs.declared.lowerings.ImportedInterface.{ImportedInterface}
use Rattle.comp_worlds.specs.declared.lowerings.LoweringKey.{LoweringKey}
use Rattle.shim_targets.proofs.Keys.{same_text, one_key, key_laws}
use Rattle.shim_targets.proofs.Tables.{passed_over, found_in_front}

abbrev Entries : Type 0
Entries = List (WorldKey × WorldItem)

-- the test for a function in a form
abbrev pub is_call_of : List ℕ → AbiVariant → LoweringKey → Bool
is_call_of name abi = is_same_lowering (record { name = name; abi = abi })

-- ---- of a list of entries

nothing_found : {X K V : Type 0} (test : K → Bool) (f : X → List (K × V)) (xs : List X) → ((x : X) → lookup test (f x) ≡ None) → lookup test (flat_map f xs) ≡ None
nothing_found test f [] h = refl
nothing_found test f (x ∷ xs) h = passed_over test (f x) (flat_map f xs) (h x) ∙ nothing_found test f xs h

one_or_none : {K V : Type 0} (test : K → Bool) (k : K) (v : V) (b : Bool) → test k ≡ false → lookup test (if b then (k, v) ∷ [] else []) ≡ None
one_or_none test k v true apart = ap (λ b. cond b (Some v) None) apart
one_or_none test k v false apart = refl

first_found : {K V : Type 0} (test : K → Bool) (k : K) (v : V) (more : List (K × V)) (b : Bool) → b ≡ true → test k ≡ true → lookup test ((if b then (k, v) ∷ [] else []) ++ more) ≡ Some v
first_found test k v more b there same =
    ap (λ c. lookup test ((if c then (k, v) ∷ [] else []) ++ more)) there ∙ ap (λ c. cond c (Some v) (lookup test more)) same

found_alone : {K V : Type 0} (test : K → Bool) (k : K) (v : V) (b : Bool) → b ≡ true → test k ≡ true → lookup test (if b then (k, v) ∷ [] else []) ≡ Some v
found_alone test k v b there same = ap (λ c. lookup test (if c then (k, v) ∷ [] else [])) there ∙ ap (λ c. cond c (Some v) None) same

-- a drop is no call
no_drop : (abi : AbiVariant) → IsImportForm abi → (used : Used) (text name : List ℕ) (id : TypeId) → lookup (is_call_of text abi) (drop_lowerings used name id) ≡ None
no_drop GuestImport form used text name id =
    one_or_none (is_call_of text GuestImport) (record { name = name ++ codes "_drop"; abi = GuestExport }) _ (used.dropped id.index) (and-false (bytes_eq text (name ++ codes "_drop")))
no_drop GuestImportAsync form used text name id =
    one_or_none (is_call_of text GuestImportAsync) (record { name = name ++ codes "_drop"; abi = GuestExport }) _ (used.dropped id.index) (and-false (bytes_eq text (name ++ codes "_drop")))
no_drop abi form used text name id = absurd form

module _ (used : Used) (types : List TypeDef) (key : WorldKey) (f : Function) (text : List ℕ) where
  -- the two forms of a function
  abbrev now : LoweringKey
  now = record { name = f.name; abi = GuestImport }

  abbrev later : LoweringKey
  later = record { name = f.name; abi = GuestImportAsync }

  -- what there is of it in one form
  abbrev in_form : AbiVariant → Lowerings
  in_form abi = if used.called (call_at key f.name abi) then (record { name = f.name; abi = abi }, lowering_of used.shares abi types f) ∷ [] else []

  -- a function of another name is another
  other_function : (abi : AbiVariant) → bytes_eq text f.name ≡ false → lookup (is_call_of text abi) (function_lowerings used types key f) ≡ None
  other_function abi apart =
      passed_over (is_call_of text abi) (in_form GuestImport) (in_form GuestImportAsync)
      (one_or_none (is_call_of text abi) now (lowering_of used.shares GuestImport types f) (used.called (call_at key f.name GuestImport)) (ap (λ b. b && nat_eq (abi_number abi) 0) apart))
      ∙ one_or_none (is_call_of text abi) later (lowering_of used.shares GuestImportAsync types f) (used.called (call_at key f.name GuestImportAsync)) (ap (λ b. b && nat_eq (abi_number abi) 2) apart)

  called_named : (abi : AbiVariant) → f.name ≡ text → used.called (call_at key text abi) ≡ true → used.called (call_at key f.name abi) ≡ true
  called_named abi same called = ap (λ name. used.called (call_at key name abi)) same ∙ called

  -- a function of this name that is called is found
  this_function : (abi : AbiVariant) → IsImportForm abi → f.name ≡ text → used.called (call_at key text abi) ≡ true → lookup (is_call_of text abi) (function_lowerings used types key f) ≡ Some (lowering_of used.shares abi types f)
  this_function GuestImport form same called =
      first_found (is_call_of text GuestImport) now (lowering_of used.shares GuestImport types f) (in_form GuestImportAsync) (used.called (call_at key f.name GuestImport)) (called_named GuestImport same called)
      (ap (λ b. b && true) (ap (bytes_eq text) same ∙ same_text text))
  this_function GuestImportAsync form same called =
      passed_over (is_call_of text GuestImportAsync) (in_form GuestImport) (in_form GuestImportAsync)
      (one_or_none (is_call_of text GuestImportAsync) now (lowering_of used.shares GuestImport types f) (used.called (call_at key f.name GuestImport)) (and-false (bytes_eq text f.name)))
      ∙ found_alone (is_call_of text GuestImportAsync) later (lowering_of used.shares GuestImportAsync types f) (used.called (call_at key f.name GuestImportAsync)) (called_named GuestImportAsync same called)
      (ap (λ b. b && true) (ap (bytes_eq text) same ∙ same_text text))
  this_function abi form same called = absurd form

-- ---- at the root

other_root : (abi : AbiVariant) → IsImportForm abi → (used : Used) (r : Resolve) (text : List ℕ) (e : WorldKey × WorldItem) → IsImportItem r e → is_same_key (keys.Name text) e.0 ≡ false → lookup (is_call_of text abi) (root_lowerings used r.types e) ≡ None
other_root abi form used r text (keys.Name t, items.Function f) h apart =
    other_function used r.types (keys.Name t) f text abi (ap (bytes_eq text) (sym h) ∙ by (bytes_eq text t) apart)
  where
    by : (b : Bool) → (b && true) ≡ false → b ≡ false
    by true e = e
    by false e = e
other_root abi form used r text (keys.Name t, items.NamedType id) h apart = no_drop abi form used text t id
other_root abi form used r text (keys.Name t, items.Interface id) h apart = refl
other_root abi form used r text (keys.Interface other, items.Interface id) h apart = refl
other_root abi form used r text e h apart = absurd h

pub root_found : (abi : AbiVariant) → IsImportForm abi → (used : Used) (r : Resolve) (text : List ℕ) (f : Function) (es : Entries) → AllByRecursion (IsImportItem r) es → lookup (is_same_key (keys.Name text)) es ≡ Some (items.Function f) → used.called (call_at (keys.Name text) text abi) ≡ true →
    lookup (is_call_of text abi) (flat_map (root_lowerings used r.types) es) ≡ Some (lowering_of used.shares abi r.types f)
root_found abi form used r text f [] h e called = absurd (none-some (items.Function f) e)
root_found abi form used r text f (x ∷ es) h e called = by (is_same_key (keys.Name text) x.0) refl e (λ later. root_found abi form used r text f es h.1 later called)
  where
    rest_of : Lowerings
    rest_of = flat_map (root_lowerings used r.types) es

    this : (y : WorldKey × WorldItem) → (keys.Name text, items.Function f) ≡ y → IsImportItem r y → lookup (is_call_of text abi) (root_lowerings used r.types y ++ rest_of) ≡ Some (lowering_of used.shares abi r.types f)
    this y same k =
        let named : IsImportItem r (keys.Name text, items.Function f) = subst (IsImportItem r) (sym same) k in
        subst (λ z. lookup (is_call_of text abi) (root_lowerings used r.types z ++ rest_of) ≡ Some (lowering_of used.shares abi r.types f)) same
        (found_in_front (is_call_of text abi) (function_lowerings used r.types (keys.Name text) f) rest_of (lowering_of used.shares abi r.types f)
        (this_function used r.types (keys.Name text) f text abi form (sym named) called))

    by : (b : Bool) → is_same_key (keys.Name text) x.0 ≡ b → cond b (Some x.1) (lookup (is_same_key (keys.Name text)) es) ≡ Some (items.Function f) →
        (lookup (is_same_key (keys.Name text)) es ≡ Some (items.Function f) → lookup (is_call_of text abi) rest_of ≡ Some (lowering_of used.shares abi r.types f)) →
        lookup (is_call_of text abi) (root_lowerings used r.types x ++ rest_of) ≡ Some (lowering_of used.shares abi r.types f)
    by true same e rest =
        let key_is : keys.Name text ≡ x.0 = one_key (keys.Name text) x.0 same in
        let item_is : items.Function f ≡ x.1 = sym (same_Some x.1 (items.Function f) e) in
        this x (ap (λ (k : WorldKey). (k, items.Function f)) key_is ∙ ap (λ (i : WorldItem). (x.0, i)) item_is) h.0
    by false apart e rest = passed_over (is_call_of text abi) (root_lowerings used r.types x) rest_of (other_root abi form used r text x h.0 apart) ∙ rest e

-- ---- in an interface

functions_found : (abi : AbiVariant) → IsImportForm abi → (used : Used) (types : List TypeDef) (key : WorldKey) (text : List ℕ) (f : Function) (fs : List (List ℕ × Function)) → AllByRecursion IsNamedFunction fs → found text fs ≡ Some f → used.called (call_at key text abi) ≡ true →
    lookup (is_call_of text abi) (flat_map (λ e. function_lowerings used types key e.1) fs) ≡ Some (lowering_of used.shares abi types f)
functions_found abi form used types key text f [] h e called = absurd (none-some f e)
functions_found abi form used types key text f (x ∷ fs) h e called = by (bytes_eq text x.0) refl e (λ later. functions_found abi form used types key text f fs h.1 later called)
  where
    rest_of : Lowerings
    rest_of = flat_map (λ (e : List ℕ × Function). function_lowerings used types key e.1) fs

    by : (b : Bool) → bytes_eq text x.0 ≡ b → cond b (Some x.1) (found text fs) ≡ Some f →
        (found text fs ≡ Some f → lookup (is_call_of text abi) rest_of ≡ Some (lowering_of used.shares abi types f)) →
        lookup (is_call_of text abi) (function_lowerings used types key x.1 ++ rest_of) ≡ Some (lowering_of used.shares abi types f)
    by true same e rest =
        let text_is : text ≡ x.0 = (bytes_eq-Decides text x.0).0 same in
        found_in_front (is_call_of text abi) (function_lowerings used types key x.1) rest_of (lowering_of used.shares abi types f)
        (this_function used types key x.1 text abi form (sym (text_is ∙ h.0)) called ∙ ap (λ g. Some (lowering_of used.shares abi types g)) (same_Some x.1 f e))
    by false apart e rest =
        passed_over (is_call_of text abi) (function_lowerings used types key x.1) rest_of (other_function used types key x.1 text abi (ap (bytes_eq text) (sym h.0) ∙ apart)) ∙ rest e

pub interface_found : (abi : AbiVariant) → IsImportForm abi → (used : Used) (r : Resolve) (key : WorldKey) (id : InterfaceId) (text : List ℕ) (f : Function) → AllByRecursion IsNamedFunction (functions_of r id) → found text (functions_of r id) ≡ Some f → used.called (call_at key text abi) ≡ true →
    lookup (is_call_of text abi) (interface_lowerings used r key id) ≡ Some (lowering_of used.shares abi r.types f)
interface_found abi form used r key id text f h e called =
    passed_over (is_call_of text abi) (flat_map (λ t. drop_lowerings used t.0 t.1) (named_types r id)) (flat_map (λ f. function_lowerings used r.types key f.1) (functions_of r id))
    (nothing_found (is_call_of text abi) (λ (t : List ℕ × TypeId). drop_lowerings used t.0 t.1) (named_types r id) (λ t. no_drop abi form used text t.0 t.1))
    ∙ functions_found abi form used r.types key text f (functions_of r id) h e called

-- ---- the entry of an interface

-- what the table has of an interface
abbrev pub interface_table : Used → Resolve → WorldKey → InterfaceId → ImportedInterface
interface_table used r key id = record { lowerings = with_all is_same_lowering [] (interface_lowerings used r key id); interface = Some id }

other_entry : (used : Used) (r : Resolve) (key : WorldKey) (e : WorldKey × WorldItem) → is_same_key key e.0 ≡ false → lookup (is_same_import_key (Some key)) (interface_entry used r e) ≡ None
other_entry used r key (k, items.Interface id) apart = ap (λ b. cond b (Some (interface_table used r k id)) None) apart
other_entry used r key (k, items.Function f) apart = refl
other_entry used r key (k, items.NamedType id) apart = refl

pub entry_found : (used : Used) (r : Resolve) (key : WorldKey) (id : InterfaceId) (es : Entries) → lookup (is_same_key key) es ≡ Some (items.Interface id) →
    lookup (is_same_import_key (Some key)) (flat_map (interface_entry used r) es) ≡ Some (interface_table used r key id)
entry_found used r key id [] e = absurd (none-some (items.Interface id) e)
entry_found used r key id (x ∷ es) e = by (is_same_key key x.0) refl e (entry_found used r key id es)
  where
    rest_of : Imported
    rest_of = flat_map (interface_entry used r) es

    this : (y : WorldKey × WorldItem) → (key, items.Interface id) ≡ y → is_same_key key key ≡ true → lookup (is_same_import_key (Some key)) (interface_entry used r y ++ rest_of) ≡ Some (interface_table used r key id)
    this y is same =
        subst (λ z. lookup (is_same_import_key (Some key)) (interface_entry used r z ++ rest_of) ≡ Some (interface_table used r key id)) is
        (ap (λ b. cond b (Some (interface_table used r key id)) (lookup (is_same_import_key (Some key)) rest_of)) same)

    by : (b : Bool) → is_same_key key x.0 ≡ b → cond b (Some x.1) (lookup (is_same_key key) es) ≡ Some (items.Interface id) →
        (lookup (is_same_key key) es ≡ Some (items.Interface id) → lookup (is_same_import_key (Some key)) rest_of ≡ Some (interface_table used r key id)) →
        lookup (is_same_import_key (Some key)) (interface_entry used r x ++ rest_of) ≡ Some (interface_table used r key id)
    by true same e rest =
        let key_is : key ≡ x.0 = one_key key x.0 same in
        let item_is : items.Interface id ≡ x.1 = sym (same_Some x.1 (items.Interface id) e) in
        this x (ap (λ (k : WorldKey). (k, items.Interface id)) key_is ∙ ap (λ (i : WorldItem). (x.0, i)) item_is) (key_laws.refl key)
    by false apart e rest = passed_over (is_same_import_key (Some key)) (interface_entry used r x) rest_of (other_entry used r key x apart) ∙ rest e
