-- What types denote, at their addresses.
use Rattle.std.proofs.Common.{◌≡◌, ◌∙◌, ℕ, zero, suc, ◌<◌, ◌+◌, zero-add, List, [], ◌∷◌, ◌++◌, length, append-nil, map, filter, get_or, refl, sym, ap, ap₂, subst, Some, None, arith}
use Rattle.std.proofs.lemmas.Option.{get_or_from_slice_get}
use Rattle.std.proofs.lemmas.List.Elements.{filter-append}
use Rattle.std.specs.List.{slice_get, AllZip, AllByRecursion}
use Rattle.std.specs.Option.{option_map}
use Rattle.comp_lists.proofs.Lists.{slice_get-append, slice_get-end, AllZip-weaker, AllZip-end, AllZip-at, there}
use Rattle.comp_bytes.specs.declared.space.Space.{Space}
use Rattle.comp_bytes.specs.declared.space.Space.TheVariants as spaces
use Rattle.comp_trees.specs.Trees.{FunctionTree}
use Rattle.comp_trees.specs.DefinedTrees.{TypeTree, OfFunctions, OfOthers}
use Rattle.comp_inventories.specs.Inventories.{TypeEntry, Inventory, entry_tree, trees_in}
use Rattle.comp_runs.specs.Store.{Thing, Export, Function, Imported, TypeItem, TreeOf, ImportedResource, OwnResource, InstanceTypeOf, item_tree, own_resources, tree_held}
use Rattle.comp_runs.specs.Machine.{Machine, is_of, address_at}
use Rattle.comp_runs.specs.Instances.{type_scope}
use Rattle.instance_laws.specs.Instantiated.{IsHeldAs, IsThingHeldAs, AreHeldAs, IsScopeOf, MemberExport, IsItemOf, IsExportedAs}

-- types that denote a scope are held as it
held_trees : (types : List TypeItem) (trees : List TypeTree) (ts : List Thing) → AllZip (IsThingHeldAs types) trees ts → map (λ (t : Thing). tree_held types t.address) ts ≡ trees
held_trees types [] [] h = refl
held_trees types (x ∷ xs) (t ∷ ts) h =
    ap₂ (λ y ys. y ∷ ys) (ap (λ o. elim o [ None ↦ OfOthers | Some i ↦ item_tree i ]) h.0.present ∙ h.0.denotes) (held_trees types xs ts h.1)
held_trees types [] (t ∷ ts) h = absurd h
held_trees types (x ∷ xs) [] h = absurd h

pub trees_of_held : (types : List TypeItem) (trees : List TypeTree) (items : List Thing) → AreHeldAs types trees items → map (λ (t : Thing). tree_held types t.address) (filter (is_of spaces.Type) items) ≡ trees
trees_of_held types trees items h = held_trees types trees (filter (is_of spaces.Type) items) h

pub tree_of_held : (types : List TypeItem) (tree : TypeTree) (address : ℕ) → IsHeldAs types tree address → tree_held types address ≡ tree
tree_of_held types tree address h = ap (λ o. elim o [ None ↦ OfOthers | Some i ↦ item_tree i ]) h.present ∙ h.denotes

-- and the other way round, where each address has an entry: what has none would denote another type
-- once the store grows
thing_held : (types : List TypeItem) (t : Thing) → t.address < length types → IsThingHeldAs types (tree_held types t.address) t
thing_held types t l =
    let x : (x : TypeItem) × (slice_get types t.address ≡ Some x) = there types t.address l in
    record { item = x.0; present = x.1; denotes = sym (ap (λ o. elim o [ None ↦ OfOthers | Some i ↦ item_tree i ]) x.1) }

things_held : (types : List TypeItem) (ts : List Thing) → AllByRecursion (λ (t : Thing). t.address < length types) ts → AllZip (IsThingHeldAs types) (map (λ (t : Thing). tree_held types t.address) ts) ts
things_held types [] h = tt
things_held types (t ∷ ts) h = (thing_held types t h.0, things_held types ts h.1)

pub held_of_trees : (types : List TypeItem) (trees : List TypeTree) (items : List Thing) → map (λ (t : Thing). tree_held types t.address) (filter (is_of spaces.Type) items) ≡ trees →
    AllByRecursion (λ (t : Thing). t.address < length types) (filter (is_of spaces.Type) items) → AreHeldAs types trees items
held_of_trees types trees items e h = subst (λ xs. AllZip (IsThingHeldAs types) xs (filter (is_of spaces.Type) items)) e (things_held types (filter (is_of spaces.Type) items) h)

-- a scope, by what its types and those around it denote
pub scope_of_trees : (outer scope : List TypeTree) (m : Machine) (next_out : List Thing) (further : List (List Thing)) → m.scope.around ≡ next_out ∷ further →
    map (λ (t : Thing). tree_held m.store.types t.address) (filter (is_of spaces.Type) next_out) ≡ outer → AllByRecursion (λ (t : Thing). t.address < length m.store.types) (filter (is_of spaces.Type) next_out) →
    type_scope m ≡ scope → AllByRecursion (λ (t : Thing). t.address < length m.store.types) (filter (is_of spaces.Type) m.scope.items) → IsScopeOf outer scope m
scope_of_trees outer scope m next_out further around outer_trees outer_within trees within = record {
  next_out = next_out;
  further = further;
  around = around;
  outer_held = held_of_trees m.store.types outer next_out outer_trees outer_within;
  held = held_of_trees m.store.types scope m.scope.items trees within;
}

-- the types of an inventory, where each is what its entry says
entries_held : (types : List TypeItem) (es : List TypeEntry) (ts : List Thing) → AllZip (λ e (t : Thing). IsHeldAs types (entry_tree e) t.address) es ts → AllZip (IsThingHeldAs types) (map entry_tree es) ts
entries_held types [] [] h = tt
entries_held types (e ∷ es) (t ∷ ts) h = (h.0, entries_held types es ts h.1)
entries_held types [] (t ∷ ts) h = absurd h
entries_held types (e ∷ es) [] h = absurd h

pub held_of_entries : (types : List TypeItem) (v : Inventory) (items : List Thing) → AllZip (λ e (t : Thing). IsHeldAs types (entry_tree e) t.address) v.types (filter (is_of spaces.Type) items) →
    AreHeldAs types (trees_in v) items
held_of_entries types v items h = entries_held types v.types (filter (is_of spaces.Type) items) h

-- ---- what is held stays so where the store grows

-- a list that grew has at each index what it had
pub record KeepsEntries {X : Type 0} (old new : List X) : Type 0 where
  pub at : (i : ℕ) (x : X) → slice_get old i ≡ Some x → slice_get new i ≡ Some x

-- it is the same, or has more at its end
pub keeps_same : {X : Type 0} {old new : List X} → new ≡ old → KeepsEntries old new
keeps_same same = record { at = λ i x e. subst (λ l. slice_get l i ≡ Some x) (sym same) e }

pub keeps_more : {X : Type 0} (old more : List X) → KeepsEntries old (old ++ more)
keeps_more old more = record { at = λ i x e. slice_get-append old more i x e }

pub keeps_then : {X : Type 0} {old new newest : List X} → KeepsEntries old new → KeepsEntries new newest → KeepsEntries old newest
keeps_then k l = record { at = λ i x e. l.at i x (k.at i x e) }

pub keeps_grown : {X : Type 0} (old new more : List X) → new ≡ old ++ more → KeepsEntries old new
keeps_grown old new more grew = subst (KeepsEntries old) (sym grew) (keeps_more old more)

module _ {types types' : List TypeItem} (k : KeepsEntries types types') where
  pub IsHeldAs-kept : (tree : TypeTree) (address : ℕ) → IsHeldAs types tree address → IsHeldAs types' tree address
  IsHeldAs-kept tree address h = record { item = h.item; present = k.at address h.item h.present; denotes = h.denotes }

  pub AreHeldAs-kept : (trees : List TypeTree) (items : List Thing) → AreHeldAs types trees items → AreHeldAs types' trees items
  AreHeldAs-kept trees items h = AllZip-weaker (λ tree (t : Thing). IsHeldAs-kept tree t.address) trees (filter (is_of spaces.Type) items) h

module _ (number : ℕ) {types types' : List TypeItem} {functions functions' : List Function} (k : KeepsEntries types types') (l : KeepsEntries functions functions') where
  IsItemOf-kept : (space : Space) (name : List ℕ) (tree : TypeTree) (address : ℕ) → IsItemOf number types functions space name tree address → IsItemOf number types' functions' space name tree address
  IsItemOf-kept spaces.Func name tree address h = record {
    type = h.type;
    present = l.at address (Imported (record { number = number; inner = Some name }) h.type) h.present;
    denotes = h.denotes;
  }
  IsItemOf-kept spaces.Type name tree address h = IsHeldAs-kept k tree address h
  IsItemOf-kept space name tree address h = absurd h

  IsExportedAs-kept : (x : MemberExport) (e : Export) → IsExportedAs number types functions x e → IsExportedAs number types' functions' x e
  IsExportedAs-kept x e h = record { named = h.named; space = h.space; is = IsItemOf-kept x.space x.name x.tree e.address h.is }

  pub exports_kept : (xs : List MemberExport) (es : List Export) → AllZip (IsExportedAs number types functions) xs es → AllZip (IsExportedAs number types' functions') xs es
  exports_kept xs es h = AllZip-weaker IsExportedAs-kept xs es h

-- ---- one item more

pub AreHeldAs-push : (types : List TypeItem) (trees : List TypeTree) (items : List Thing) (tree : TypeTree) (address : ℕ) → AreHeldAs types trees items → IsHeldAs types tree address →
    AreHeldAs types (trees ++ tree ∷ []) (items ++ record { space = spaces.Type; address = address } ∷ [])
AreHeldAs-push types trees items tree address h k =
    let t : Thing = record { space = spaces.Type; address = address } in
    rw (filter-append (is_of spaces.Type) items (t ∷ [])) (AllZip-end (IsThingHeldAs types) trees (filter (is_of spaces.Type) items) tree t h k)

-- an item of functions is no type
pub AreHeldAs-beside : (types : List TypeItem) (trees : List TypeTree) (items : List Thing) (address : ℕ) → AreHeldAs types trees items →
    AreHeldAs types trees (items ++ record { space = spaces.Func; address = address } ∷ [])
AreHeldAs-beside types trees items address h =
    let t : Thing = record { space = spaces.Func; address = address } in
    rw (filter-append (is_of spaces.Type) items (t ∷ []), append-nil (filter (is_of spaces.Type) items)) h

-- a new type
pub new_held : (types : List TypeItem) (item : TypeItem) (tree : TypeTree) → item_tree item ≡ tree → IsHeldAs (types ++ item ∷ []) tree (length types)
new_held types item tree e = record { item = item; present = slice_get-end types item; denotes = e }

-- ---- resources that are defined

pub own_resources-append : (old more : List TypeItem) → own_resources (old ++ more) ≡ own_resources old + own_resources more
own_resources-append [] more = sym (zero-add (own_resources more))
own_resources-append (OwnResource number destructor ∷ old) more = let rest = own_resources-append old more in omega (arith, rest)
own_resources-append (item ∷ old) more = own_resources-append old more

-- where none is among these types, and none among those that follow, there is none
pub none_twice : (more others : List TypeItem) → own_resources more ≡ 0 → own_resources others ≡ 0 → own_resources (more ++ others) ≡ 0
none_twice more others none no_other = own_resources-append more others ∙ ap₂ (λ m n. m + n) none no_other

-- ---- the type of an index

pub record IsTypeThere (types : List TypeItem) (trees : List TypeTree) (items : List Thing) (index : ℕ) : Type 0 where
  pub address : ℕ
  pub at : address_at spaces.Type index items ≡ Some address
  pub is : IsHeldAs types (get_or trees index OfOthers) address

pub type_there : (types : List TypeItem) (trees : List TypeTree) (items : List Thing) (index : ℕ) → AreHeldAs types trees items → index < length trees → IsTypeThere types trees items index
type_there types trees items index h l =
    let x : (x : TypeTree) × (slice_get trees index ≡ Some x) = there trees index l in
    let t = AllZip-at (IsThingHeldAs types) trees (filter (is_of spaces.Type) items) index x.0 h x.1 in
    record {
      address = t.0.address;
      at = ap (option_map (λ (t : Thing). t.address)) t.1;
      is = subst (λ tree. IsHeldAs types tree t.0.address) (sym (get_or_from_slice_get trees index x.0 OfOthers x.1)) t.2;
    }

-- an index that denotes a type of functions is one of the scope
pub index_of_functions : (trees : List TypeTree) (index : ℕ) (type : FunctionTree) → get_or trees index OfOthers ≡ OfFunctions type → index < length trees
index_of_functions [] index type e = cc
index_of_functions (x ∷ xs) zero type e = omega arith
index_of_functions (x ∷ xs) (suc index) type e = let l = index_of_functions xs index type e in omega (arith, l)

-- what denotes a type of functions is its tree
pub item_of_functions : (item : TypeItem) (type : FunctionTree) → item_tree item ≡ OfFunctions type → item ≡ TreeOf (OfFunctions type)
item_of_functions (TreeOf tree) type e = ap (λ (t : TypeTree). TreeOf t) e
item_of_functions (ImportedResource origin) type e = cc
item_of_functions (OwnResource number destructor) type e = cc
item_of_functions (InstanceTypeOf members around) type e = cc
