-- The tables of the root after a type of the world was imported and recorded.
use Rattle.std.proofs.Common.{◌≡◌, ◌∙◌, ◌<◌, ◌==◌, ◌⊎◌, inl, inr, arith, ℕ, suc, Bool, true, false, true≢false, List, map, Option, Some, None, is_some, refl, ap, sym, subst, Contains}
use Rattle.std.specs.Prelude.{nat_lt, Result, Ok, Err, OnOk, OnErr}
use Rattle.std.specs.List.{AllByRecursion}
use Rattle.std.proofs.lemmas.Bool.{lt-ltb, ltb-true, ltb-false}
use Rattle.std.proofs.lemmas.Bool.Decides.{Decides-eqb}
use Rattle.std.proofs.lemmas.Map.Views.{Contains-from_any}
use Rattle.comp_lists.proofs.Lists.{AllByRecursion-weaker}
use Rattle.comp_bytes.specs.declared.def.Def.{Def}
use Rattle.comp_inventories.specs.Inventories.{scope_of}
use Rattle.wit_data.specs.declared.ids.TypeId.{TypeId}
use Rattle.wit_types.specs.Maps.{HasIndex}
use Rattle.wit_types.specs.Settings.{tree_in}
use Rattle.wit_types.specs.declared.maps.TypeEncodingMaps.{TypeEncodingMaps}
use Rattle.comp_worlds.specs.WorldContents.{imported_types, interface_at}
use Rattle.comp_worlds.specs.declared.world.ComponentWorld.{ComponentWorld}
use Rattle.std.specs.Map.{lookup}
use Rattle.std.specs.Option.{IfSome, IsSomeAnd}
use Rattle.comp_links.specs.Lists.{resource_of}
use Rattle.comp_terms.specs.Terms as terms
use Rattle.comp_trees.specs.DefinedScopes.{Denotes}
use Rattle.comp_trees.specs.DefinedTrees.{OfValues}
use Rattle.comp_trees.specs.Trees.{ResourceAt}
use Rattle.comp_worlds.specs.Encodable.{IsEncodable}
use Rattle.comp_worlds.specs.Worlds.{IsResource}
use Rattle.wit_data.specs.contracts.ids.TypeIdPartialEq.TheImpl as same_id
use Rattle.wit_data.specs.declared.types.Type.TheVariants.{Id}
use Rattle.wit_types.proofs.Growing.{id_found}
use Rattle.wit_types.proofs.Permitting.{resource_tree}
use Rattle.wit_types.specs.Allowing.{is_resource}
use Rattle.wit_types.specs.Settings.{Setting}
use Rattle.wit_data.specs.declared.ids.InterfaceId.{InterfaceId}
use Rattle.root_imports.proofs.Allowing.{met_resource}
use Rattle.root_imports.specs.Imports.{IsNextId}
use Rattle.comp_lists.specs.Tables.{with_first}
use Rattle.wit_data.specs.contracts.ids.InterfaceIdPartialEq.TheImpl as same_interface
use Rattle.wit_types.proofs.Growing.{holds_of_added}
use Rattle.root_imports.specs.Interfaces.{FindsExports, IsInterfaceExport}
use Rattle.root_imports.specs.Met.{nothing_met, next_of, is_imported_before, is_imported_type, is_met, AreAllMet, IsNextOwn, Leaves}
use Rattle.root_imports.specs.RootScopes.{root_setting, ArePassed, AreTablesRight}
use Rattle.root_imports.specs.declared.met_types.MetTypes.{MetTypes}
use Rattle.root_imports.proofs.Meeting.{and_both, both_of, entered_met, imported_is_met, left_met, listed_is_met, met_cases, not_below_none, only_imported, own_met}

-- a type of the world below the next number is the one that was recorded, or was met before
met_next : (w : ComponentWorld) (met : MetTypes) (id j : TypeId) → IsNextId w (next_of met.last) id → is_met w (record met { last = Some id }) j ≡ true → (j.index == id.index) ≡ false → is_met w met j ≡ true
met_next w met id j order e apart = elim (met_cases w (record met { last = Some id }) j e) [
  | inl before ↦ imported_is_met w met j (of before)
  | inr listed ↦ listed_is_met w met j listed
]
  where
    smaller : (a b : ℕ) → a < suc b → ((a ≡ b) → ⊥) → a < b
    smaller a b l other = by (nat_lt a b) refl
      where
        by : (t : Bool) → nat_lt a b ≡ t → a < b
        by true e = ltb-true a b e
        by false e = let m = ltb-false a b e in absurd (other (omega (arith, l, m)))

    of : is_imported_before w (Some id) j ≡ true → is_imported_before w met.last j ≡ true
    of e =
        let both = both_of (nat_lt j.index (suc id.index)) (is_imported_type w j) e in
        let c : Contains (map (λ t. t.1.index) (imported_types w)) j.index = Contains-from_any (λ x y h. (Decides-eqb x y).0 h) j.index (map (λ t. t.1.index) (imported_types w)) both.1 in
        let other : (j.index ≡ id.index) → ⊥ = λ same. true≢false (sym ((Decides-eqb j.index id.index).1 same) ∙ apart) in
        and_both (nat_lt j.index (next_of met.last)) (is_imported_type w j) (lt-ltb j.index (next_of met.last) (order.earlier j.index (smaller j.index id.index (ltb-true j.index (suc id.index) both.0) other) c)) both.1

-- Tables that are right, where other types are at hand: each that is to be in the tables was to be
-- before, or is there now, and the instances of exported interfaces are known.
pub tables_for : (w : ComponentWorld) (old new : MetTypes) (instances : List (InterfaceId × ℕ)) (ds : List Def) (maps : TypeEncodingMaps) → ((j : TypeId) → is_met w new j ≡ true → HasIndex maps j) → FindsExports w ds new.exported →
    AreTablesRight w old instances ds maps → AreTablesRight w new instances ds maps
unfolding tree_in
tables_for w old new instances ds maps met exports h = record {
  offers = record { imports = h.offers.imports; exports = exports };
  ids = h.ids;
  named = AllByRecursion-weaker (λ e n. record { as_own = n.as_own }) maps.id_to_index h.named;
  kinds = h.kinds;
  functions = h.functions;
  met = λ j e. met j e;
}

-- a table that has one entry more, or is what it was where memory was refused
pub kept_or_first : {A : Type 0} {U E : Type 0} {old new more : A} (r : Result U E) → OnOk r (new ≡ more) → OnErr r (new ≡ old) → (new ≡ old) ⊎ (new ≡ more)
kept_or_first (Ok u) ok err = inr ok
kept_or_first (Err e) ok err = inl err

-- what is recorded is in the tables, and so is what was met
with_one : (maps : TypeEncodingMaps) (id j : TypeId) → HasIndex maps id → ((j.index == id.index) ≡ false → HasIndex maps j) → HasIndex maps j
with_one maps id j recorded before = by (j.index == id.index) refl
  where
    by : (b : Bool) → (j.index == id.index) ≡ b → HasIndex maps j
    by true same = subst (λ (n : ℕ). HasIndex maps (record { index = n })) (sym ((Decides-eqb j.index id.index).0 same)) recorded
    by false apart = before apart

module _ (w : ComponentWorld) (met : MetTypes) (instances : List (InterfaceId × ℕ)) (ds : List Def) (maps : TypeEncodingMaps) (h : AreTablesRight w met instances ds maps) where
  -- before the first type of the world
  pub tables_first : AreTablesRight w (record met { last = None }) instances ds maps
  tables_first = tables_for w met (record met { last = None }) instances ds maps (λ j e. h.met j (of j e)) h.offers.exports h
    where
      of : (j : TypeId) → is_met w (record met { last = None }) j ≡ true → is_met w met j ≡ true
      of j e = elim (met_cases w (record met { last = None }) j e) [
        | inl before ↦ absurd (not_below_none w j before)
        | inr listed ↦ listed_is_met w met j listed
      ]

  -- after the next one was recorded
  pub tables_next : (id : TypeId) → IsNextId w (next_of met.last) id → HasIndex maps id → AreTablesRight w (record met { last = Some id }) instances ds maps
  tables_next id order recorded = tables_for w met (record met { last = Some id }) instances ds maps (λ j e. with_one maps id j recorded (λ apart. h.met j (met_next w met id j order e apart))) h.offers.exports h

  -- with no exported interface
  pub tables_begun : AreTablesRight w (record nothing_met { last = met.last }) instances ds maps
  tables_begun = tables_for w met (record nothing_met { last = met.last }) instances ds maps (λ j e. h.met j (imported_is_met w met j (only_imported w met.last j e))) (record { each = tt }) h

  -- after the next type of an exported interface was defined
  pub tables_own : (t : TypeId) → IsNextOwn w met t → HasIndex maps t → AreTablesRight w (record met { own = Some t }) instances ds maps
  tables_own t next recorded = tables_for w met (record met { own = Some t }) instances ds maps (λ j e. with_one maps t j recorded (λ apart. h.met j (own_met w met t j next apart e))) h.offers.exports h

  -- after an interface was entered, or memory was refused
  pub tables_entered : (id : InterfaceId) (entered : List (InterfaceId × Unit {0})) → AreAllMet w met id → (entered ≡ met.interfaces) ⊎ (entered ≡ with_first same_interface.eq-value.it met.interfaces id tt) → AreTablesRight w (record met { interfaces = entered }) instances ds maps
  tables_entered id entered all (inl same) = tables_for w met (record met { interfaces = entered }) instances ds maps (λ j e. h.met j (subst (λ es. is_met w (record met { interfaces = es }) j ≡ true) same e)) h.offers.exports h
  tables_entered id entered all (inr is) = tables_for w met (record met { interfaces = entered }) instances ds maps (λ j e. h.met j (entered_met w met id entered j all is e)) h.offers.exports h

  -- after the instance of an exported interface was entered, or memory was refused
  pub tables_exported : (id : InterfaceId) (index : ℕ) (exported : List (InterfaceId × ℕ)) → IsInterfaceExport w ds id index → (exported ≡ met.exported) ⊎ (exported ≡ with_first same_interface.eq-value.it met.exported id index) → AreTablesRight w (record met { exported = exported }) instances ds maps
  tables_exported id index exported is (inl same) = tables_for w met (record met { exported = exported }) instances ds maps (λ j e. h.met j e) (record { each = subst (λ es. AllByRecursion (λ e. IsInterfaceExport w ds e.0 e.1) es) (sym same) h.offers.exports.each }) h
  tables_exported id index exported is (inr more) =
      tables_for w met (record met { exported = exported }) instances ds maps (λ j e. h.met j e)
      (record { each = subst (λ es. AllByRecursion (λ e. IsInterfaceExport w ds e.0 e.1) es) (sym more) (holds_of_added same_interface.eq-value.it (λ e. IsInterfaceExport w ds e.0 e.1) met.exported id index h.offers.exports.each is) }) h

  -- after an interface was left
  pub tables_without : (id : InterfaceId) (new : MetTypes) → Leaves id met new → AreTablesRight w new instances ds maps
  tables_without id new left = tables_for w met new instances ds maps (λ j e. h.met j (left_met w id met new j left e)) (record { each = subst (λ es. AllByRecursion (λ e. IsInterfaceExport w ds e.0 e.1) es) (sym left.exported) h.offers.exports.each }) h

-- a resource of the world is found in the tables
pub resource_found : (w : ComponentWorld) (met : MetTypes) (instances : List (InterfaceId × ℕ)) (ds : List Def) (maps : TypeEncodingMaps) (id : TypeId) (o : Option ℕ) → IsEncodable w → IsResource w.resolve.types id.index → interface_at w.resolve.types id.index ≡ None → ArePassed w met → AreTablesRight w met instances ds maps →
    o ≡ lookup (same_id.eq-value.it id) maps.id_to_index → IsSomeAnd o (λ index. terms.IsResource ds index (resource_of w id))
resource_found w met instances ds maps id o ok r own passed h is = by o is (id_found id o h is)
  where
    s : Setting
    s = root_setting w None met

    tree : ResourceAt (resource_of w id) ≡ tree_in s (Some (Id id))
    tree = resource_tree s w.resolve.types id (resource_of w id) refl ok.sound.back r.present (ap is_resource r.kind) refl

    by : (o : Option ℕ) → o ≡ lookup (same_id.eq-value.it id) maps.id_to_index → IfSome o (λ index. Denotes (scope_of ds) index (OfValues (tree_in s (Some (Id id))))) → IsSomeAnd o (λ index. terms.IsResource ds index (resource_of w id))
    by None is d =
        let there = h.met id (met_resource w ok met passed id.index r own) in
        absurd (true≢false (sym there.there ∙ ap is_some (sym is)))
    by (Some index) is d = record { denotes = subst (λ t. Denotes (scope_of ds) index (OfValues t)) (sym tree) d }
