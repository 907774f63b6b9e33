-- Types that instances of imported interfaces export, each as it is found by its interface.
use Rattle.std.proofs.Common.{inl, inr, ap, arith, zero, suc, ◌||◌, ◌≡◌, ◌∙◌, ◌<◌, ◌==◌, sym, subst, refl, ℕ, Bool, true, false, true≢false, cond, List, [], ◌∷◌, Option, Some, None, is_some, length, IsSome}
use Rattle.std.specs.List.{AllByRecursion, list_any}
use Rattle.std.specs.Map.{lookup}
use Rattle.std.proofs.lemmas.Option.{none-some, same_Some}
use Rattle.std.proofs.lemmas.Bool.Decides.{Decides-eqb}
use Rattle.comp_bytes.specs.declared.def.Def.{Def}
use Rattle.comp_bytes.specs.declared.space.Space.TheVariants as spaces
use Rattle.comp_inventories.specs.Inventories.{surroundings_of}
use Rattle.comp_trees.specs.Members.{exports_name, member_trees, type_exported}
use Rattle.wit_data.specs.contracts.ids.InterfaceIdPartialEq.TheImpl as same_id
use Rattle.wit_data.specs.declared.ids.InterfaceId.{InterfaceId}
use Rattle.wit_data.specs.declared.ids.TypeId.{TypeId}
use Rattle.wit_data.specs.declared.types.TypeDef.{TypeDef}
use Rattle.wit_types.specs.Settings as settings
use Rattle.type_scopes.specs.Interfaces.{ExportsType}
use Rattle.type_scopes.specs.Titles.{is_one_of}
use Rattle.comp_worlds.specs.WorldContents.{name_at}
use Rattle.comp_worlds.specs.declared.world.ComponentWorld.{ComponentWorld}
use Rattle.comp_links.specs.Lists.{needed_types, resource_of, type_of_world}
use Rattle.comp_terms.specs.Rules.{AliasesType}
use Rattle.comp_inventories.specs.Inventories.{Denoting, InstanceEntry, NestedInstance, OtherInstance, inventory, type_if_named, type_of_instance, types_made}
use Rattle.comp_bytes.specs.declared.space.ComponentExportKind.TheVariants as exports
use Rattle.comp_bytes.specs.declared.types.Alias.TheVariants as aliases
use Rattle.comp_bytes.specs.declared.def.Def.TheVariants as defs
use Rattle.comp_bytes.specs.declared.def.Item.TheVariants as items
use Rattle.std.specs.Prelude.{slice_get, get_or}
use Rattle.root_imports.specs.Met.{is_named_of}
use Rattle.root_imports.specs.Interfaces.{FindsInterfaces, IsInterfaceExport, IsInterfaceImport}

-- ---- what is found

-- what is found for an interface is its import
pub found_import : (w : ComponentWorld) (ds : List Def) (id : InterfaceId) (index : ℕ) (table : List (InterfaceId × ℕ)) → AllByRecursion (λ e. IsInterfaceImport w ds e.0 e.1) table → lookup (same_id.eq-value.it id) table ≡ Some index →
    IsInterfaceImport w ds id index
found_import w ds id index [] h e = absurd (none-some index e)
found_import w ds id index (x ∷ table) h e = by (same_id.eq-value.it id x.0) refl e (found_import w ds id index table h.1)
  where
    by : (b : Bool) → same_id.eq-value.it id x.0 ≡ b → cond b (Some x.1) (lookup (same_id.eq-value.it id) table) ≡ Some index → (lookup (same_id.eq-value.it id) table ≡ Some index → IsInterfaceImport w ds id index) →
        IsInterfaceImport w ds id index
    by true alike e later = subst (λ n. IsInterfaceImport w ds (record { index = n }) index) (sym ((Decides-eqb id.index x.0.index).0 alike)) (subst (IsInterfaceImport w ds x.0) (same_Some x.1 index e) h.0)
    by false apart e later = later e

-- what holds of each type of a list holds of one of them
each_one : (P : TypeId → Type 0) (ids : List TypeId) (t : TypeId) → AllByRecursion P ids → is_one_of ids t.index ≡ true → P t
each_one P [] t h e = absurd (true≢false (sym e))
each_one P (x ∷ xs) t h e = by (t.index == x.index) refl e (each_one P xs t h.1)
  where
    by : (b : Bool) → (t.index == x.index) ≡ b → (b || is_one_of xs t.index) ≡ true → (is_one_of xs t.index ≡ true → P t) → P t
    by true same e later = subst (λ n. P (record { index = n })) (sym ((Decides-eqb t.index x.index).0 same)) h.0
    by false apart e later = later e

-- the two look-ups of a type's name
pub same_name : (types : List TypeDef) (n : ℕ) → settings.name_at types n ≡ name_at types n
same_name [] n = refl
same_name (t ∷ ts) zero = refl
same_name (t ∷ ts) (suc n) = same_name ts n

-- a needed type of an interface is exported by the interface's instance
pub record IsExported (w : ComponentWorld) (ds : List Def) (id : InterfaceId) (instance : ℕ) (t : TypeId) : Type 0 where
  pub import : IsInterfaceImport w ds id instance
  pub type : ExportsType (surroundings_of import.number import.outer) (resource_of w) w.resolve.types id import.members t

pub exported : (w : ComponentWorld) (ds : List Def) (instances : List (InterfaceId × ℕ)) (id : InterfaceId) (instance : ℕ) (t : TypeId) → FindsInterfaces w ds instances → lookup (same_id.eq-value.it id) instances ≡ Some instance → is_one_of (needed_types w id) t.index ≡ true →
    IsExported w ds id instance t
exported w ds instances id instance t h at needed =
    let i = found_import w ds id instance instances h.each at in
    record { import = i; type = each_one (ExportsType (surroundings_of i.number i.outer) (resource_of w) w.resolve.types id i.members) (needed_types w id) t i.types needed }

-- the same, where the instance is the one that is found
pub record IsExportedAt (w : ComponentWorld) (ds : List Def) (instances : List (InterfaceId × ℕ)) (id : InterfaceId) (t : TypeId) : Type 0 where
  pub instance : ℕ
  pub at : lookup (same_id.eq-value.it id) instances ≡ Some instance
  pub is : IsExported w ds id instance t

pub exported_at : (w : ComponentWorld) (ds : List Def) (instances : List (InterfaceId × ℕ)) (id : InterfaceId) (t : TypeId) → FindsInterfaces w ds instances → IsSome (lookup (same_id.eq-value.it id) instances) → is_one_of (needed_types w id) t.index ≡ true →
    IsExportedAt w ds instances id t
exported_at w ds instances id t h found needed = by (lookup (same_id.eq-value.it id) instances) refl found
  where
    by : (o : Option ℕ) → lookup (same_id.eq-value.it id) instances ≡ o → IsSome o → IsExportedAt w ds instances id t
    by None e found = absurd (true≢false (sym found))
    by (Some instance) e found = record { instance = instance; at = e; is = exported w ds instances id instance t h e needed }

module _ {w : ComponentWorld} {ds : List Def} {id : InterfaceId} {instance : ℕ} {t : TypeId} (h : IsExported w ds id instance t) where
  pub type_present : t.index < length w.resolve.types
  type_present = h.type.titled.present

  pub type_named : name_at w.resolve.types t.index ≡ Some h.type.name
  type_named = sym (same_name w.resolve.types t.index) ∙ h.type.titled.named

  pub has_name : IsSome (name_at w.resolve.types t.index)
  has_name = by (name_at w.resolve.types t.index) type_named
    where
      by : (o : Option (List ℕ)) → o ≡ Some h.type.name → IsSome o
      by None e = absurd (none-some h.type.name e)
      by (Some name) e = refl

  pub type_aliased : (name : List ℕ) → name_at w.resolve.types t.index ≡ Some name → AliasesType ds instance name
  type_aliased name named =
      inl (record {
        number = h.import.number;
        outer = h.import.outer;
        members = h.import.members;
        imported = h.import.imported;
        exported = subst (λ n. list_any (exports_name spaces.Type n) h.import.members ≡ true) (same_Some h.type.name name (sym type_named ∙ named)) h.type.there;
      })

  pub type_tree : (name : List ℕ) → name_at w.resolve.types t.index ≡ Some name →
      type_exported (surroundings_of h.import.number h.import.outer) (member_trees (surroundings_of h.import.number h.import.outer) [] h.import.members) name h.import.members ≡ type_of_world w t
  type_tree name named =
      subst (λ n. type_exported (surroundings_of h.import.number h.import.outer) (member_trees (surroundings_of h.import.number h.import.outer) [] h.import.members) n h.import.members ≡ type_of_world w t)
      (same_Some h.type.name name (sym type_named ∙ named)) h.type.tree

pub is_there : {X : Type 0} (o : Option X) → is_some o ≡ true → IsSome o
is_there None e = absurd (true≢false (sym e))
is_there (Some x) e = refl

-- ---- exported interfaces

-- what is found for an exported interface is an instance of it
pub found_export : (w : ComponentWorld) (ds : List Def) (id : InterfaceId) (index : ℕ) (table : List (InterfaceId × ℕ)) → AllByRecursion (λ e. IsInterfaceExport w ds e.0 e.1) table → lookup (same_id.eq-value.it id) table ≡ Some index →
    IsInterfaceExport w ds id index
found_export w ds id index [] h e = absurd (none-some index e)
found_export w ds id index (x ∷ table) h e = by (same_id.eq-value.it id x.0) refl e (found_export w ds id index table h.1)
  where
    by : (b : Bool) → same_id.eq-value.it id x.0 ≡ b → cond b (Some x.1) (lookup (same_id.eq-value.it id) table) ≡ Some index → (lookup (same_id.eq-value.it id) table ≡ Some index → IsInterfaceExport w ds id index) →
        IsInterfaceExport w ds id index
    by true alike e later = subst (λ n. IsInterfaceExport w ds (record { index = n }) index) (sym ((Decides-eqb id.index x.0.index).0 alike)) (subst (IsInterfaceExport w ds x.0) (same_Some x.1 index e) h.0)
    by false apart e later = later e

-- what has a name is in the resolve
pub named_within : (types : List TypeDef) (n : ℕ) → is_some (name_at types n) ≡ true → n < length types
named_within [] n e = absurd (true≢false (sym e))
named_within (t ∷ ts) zero e = omega arith
named_within (t ∷ ts) (suc n) e = let l = named_within ts n e in omega (arith, l)

module _ {w : ComponentWorld} {ds : List Def} {id : InterfaceId} {instance : ℕ} (t : TypeId) (h : IsInterfaceExport w ds id instance) (of : is_named_of w.resolve.types id t.index ≡ true) where
  -- an alias of a type that the instance exports is right
  pub export_aliased : (name : List ℕ) → name_at w.resolve.types t.index ≡ Some name → AliasesType ds instance name
  export_aliased name named = inr (record { exported = h.exported; tree = type_of_world w t; nested = h.nested; named = h.types t name of named })

  -- and it makes this type
  pub export_made : (name : List ℕ) → name_at w.resolve.types t.index ≡ Some name → types_made (inventory ds) (defs.Item (items.Alias (aliases.Export exports.Type instance name))) ≡ Denoting (type_of_world w t) ∷ []
  export_made name named =
      ap (λ e. type_of_instance name e ∷ []) (get_or_found (inventory ds).instances instance (NestedInstance h.exported) h.nested)
      ∙ ap (λ o. type_if_named o ∷ []) (h.types t name of named)
    where
      get_or_found : (es : List InstanceEntry) (n : ℕ) (e : InstanceEntry) → slice_get es n ≡ Some e → get_or es n OtherInstance ≡ e
      get_or_found [] n e h = absurd (none-some e h)
      get_or_found (x ∷ xs) zero e h = same_Some x e h
      get_or_found (x ∷ xs) (suc n) e h = get_or_found xs n e h
