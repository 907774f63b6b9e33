-- What core imports use is what the tables of their calls and drops say.
use Rattle.std.proofs.Common.{rules, ◌≡◌, ◌∙◌, ap, refl, ℕ, nat_eq, Bool, List, [], ◌∷◌, ◌++◌, Some, None, is_some, if◌then◌else◌}
use Rattle.std.proofs.lemmas.Cmp.{nat_eq_equiv}
use Rattle.std.specs.Cmp.{IsEquivalence}
use Rattle.std.specs.Cmp.Rules.{comparing}
use Rattle.std.specs.List.{flat_map}
use Rattle.std.specs.Map.{lookup}
use Rattle.wit_data.specs.Keys.{name_of_key}
use Rattle.wit_data.specs.Live.{named_types}
use Rattle.wit_data.specs.declared.functions.AbiVariant.{AbiVariant}
use Rattle.wit_data.specs.declared.functions.AbiVariant.TheVariants.{GuestImport, GuestImportAsync}
use Rattle.wit_data.specs.declared.functions.Function.{Function}
use Rattle.wit_data.specs.declared.ids.InterfaceId.{InterfaceId}
use Rattle.wit_data.specs.declared.ids.TypeId.{TypeId}
use Rattle.wit_data.specs.declared.resolve.Resolve.{Resolve}
use Rattle.wit_data.specs.declared.types.TypeDef.{TypeDef}
use Rattle.wit_data.specs.declared.worlds.WorldItem.{WorldItem}
use Rattle.wit_data.specs.declared.worlds.WorldItem.TheVariants as items
use Rattle.wit_data.specs.declared.worlds.WorldKey.{WorldKey}
use Rattle.comp_roles.specs.CoreImports.{CoreImport}
use Rattle.comp_worlds.specs.Imported.{Imported, lowering_of, called_as, function_lowerings, drop_lowerings, root_lowerings, interface_lowerings, root_entry, interface_entry, imported, is_same_import_key}
use Rattle.world_values.specs.Items.{functions_of}
use Rattle.comp_worlds.specs.Lowerings.{is_same_lowering}
use Rattle.world_values.specs.Tables.{with_all}
use Rattle.comp_worlds.specs.Uses.{Used, IsUsed, used_in, used_by, call_at, calls_in, drops_in, is_same_call}
use Rattle.comp_worlds.specs.declared.calls.Uses.{Uses}
use Rattle.world_tables.proofs.Entering.{entered}

call_laws : IsEquivalence is_same_call
call_laws = search (comparing, rules) depth 12

pub uses_are : (u : Uses) (imports : List CoreImport) (shares : Bool) → u.calls ≡ with_all is_same_call [] (flat_map (λ i. calls_in i.role) imports)
    → u.drops ≡ with_all nat_eq [] (flat_map (λ i. drops_in i.role) imports) → u.shares_memory ≡ shares → IsUsed (used_in u) (used_by imports shares)
uses_are u imports shares calls drops same = record {
  called = λ c. ap (λ t. is_some (lookup (is_same_call c) t)) calls ∙ entered is_same_call call_laws (flat_map (λ i. calls_in i.role) imports) c;
  dropped = λ n. ap (λ t. is_some (lookup (nat_eq n) t)) drops ∙ entered nat_eq nat_eq_equiv (flat_map (λ i. drops_in i.role) imports) n;
  shares = same;
}

pub same_flat : {X A : Type 0} (f g : X → List A) → ((x : X) → f x ≡ g x) → (xs : List X) → flat_map f xs ≡ flat_map g xs
same_flat f g same [] = refl
same_flat f g same (x ∷ xs) = ap (λ ys. ys ++ flat_map f xs) (same x) ∙ ap (λ ys. g x ++ ys) (same_flat f g same xs)

-- ---- the uses determine the lowerings

module _ (a b : Used) (same : IsUsed a b) where
  same_called : (types : List TypeDef) (key : WorldKey) (f : Function) (abi : AbiVariant) → called_as a types key f abi ≡ called_as b types key f abi
  same_called types key f abi =
      ap (λ c. if c then (record { name = f.name; abi = abi }, lowering_of a.shares abi types f) ∷ [] else []) (same.called (call_at key f.name abi))
      ∙ ap (λ s. if b.called (call_at key f.name abi) then (record { name = f.name; abi = abi }, lowering_of s abi types f) ∷ [] else []) same.shares

  same_function : (types : List TypeDef) (key : WorldKey) (f : Function) → function_lowerings a types key f ≡ function_lowerings b types key f
  same_function types key f =
      ap (λ ls. ls ++ called_as a types key f GuestImportAsync) (same_called types key f GuestImport)
      ∙ ap (λ ls. called_as b types key f GuestImport ++ ls) (same_called types key f GuestImportAsync)

  same_drop : (name : List ℕ) (id : TypeId) → drop_lowerings a name id ≡ drop_lowerings b name id
  same_drop name id = rw (same.dropped id.index) refl

  same_root : (types : List TypeDef) (e : WorldKey × WorldItem) → root_lowerings a types e ≡ root_lowerings b types e
  same_root types (key, items.Function f) = same_function types key f
  same_root types (key, items.NamedType id) = same_drop (name_of_key key) id
  same_root types (key, items.Interface id) = refl

  same_interface : (r : Resolve) (key : WorldKey) (id : InterfaceId) → interface_lowerings a r key id ≡ interface_lowerings b r key id
  same_interface r key id =
      ap (λ ls. ls ++ flat_map (λ f. function_lowerings a r.types key f.1) (functions_of r id)) (same_flat (λ t. drop_lowerings a t.0 t.1) (λ t. drop_lowerings b t.0 t.1) (λ t. same_drop t.0 t.1) (named_types r id))
      ∙ ap (λ ls. flat_map (λ t. drop_lowerings b t.0 t.1) (named_types r id) ++ ls) (same_flat (λ f. function_lowerings a r.types key f.1) (λ f. function_lowerings b r.types key f.1) (λ f. same_function r.types key f.1) (functions_of r id))

  same_entry : (r : Resolve) (e : WorldKey × WorldItem) → interface_entry a r e ≡ interface_entry b r e
  same_entry r (key, items.Interface id) =
      ap (λ ls. (Some key, record { lowerings = with_all is_same_lowering [] ls; interface = Some id }) ∷ []) (same_interface r key id)
  same_entry r (key, items.Function f) = refl
  same_entry r (key, items.NamedType id) = refl

  pub same_imported : (r : Resolve) (entries : List (WorldKey × WorldItem)) → imported a r entries ≡ imported b r entries
  same_imported r entries =
      ap (λ ls. with_all is_same_import_key [] ((None, record { lowerings = with_all is_same_lowering [] ls; interface = None }) ∷ flat_map (interface_entry a r) entries)) (same_flat (root_lowerings a r.types) (root_lowerings b r.types) (same_root r.types) entries)
      ∙ ap (λ es. with_all is_same_import_key [] (root_entry b r entries ∷ es)) (same_flat (interface_entry a r) (interface_entry b r) (same_entry r) entries)

pub imported_are : (a b : Used) (r : Resolve) (entries : List (WorldKey × WorldItem)) (table : Imported) → IsUsed a b → table ≡ imported a r entries → table ≡ imported b r entries
imported_are a b r entries table same is = is ∙ same_imported a b same r entries
