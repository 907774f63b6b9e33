-- The arguments of a nested component, and what its instance passes on.
use Rattle.std.proofs.Common.{◌≡◌, ◌∙◌, ◌&&◌, ℕ, suc, Bool, true, false, true≢false, List, [], ◌∷◌, ◌++◌, refl, ap, ap₂, sym, subst, Some, None, if◌then◌else◌, ◌⊎◌, inl, inr}
use Rattle.std.specs.Prelude.{length, map}
use Rattle.std.specs.List.{AllByRecursion, AllZip, IsDistinct, flat_map}
use Rattle.std.specs.Str.{bytes_eq}
use Rattle.std.proofs.lemmas.Option.{get_or_from_slice_get}
use Rattle.std.proofs.lemmas.Slice.Eq.{bytes_eq-Decides}
use Rattle.comp_bytes.specs.ScopeNames.{item_import, item_export}
use Rattle.comp_bytes.specs.Spaces.{is_space, sort_space}
use Rattle.comp_bytes.specs.declared.def.Argument.{Argument}
use Rattle.comp_bytes.specs.declared.def.Def.{Def}
use Rattle.comp_bytes.specs.declared.def.Item.{Item}
use Rattle.comp_bytes.specs.declared.def.Item.TheVariants as items
use Rattle.comp_bytes.specs.declared.space.Sort.{Sort}
use Rattle.comp_bytes.specs.declared.space.Sort.TheVariants as sorts
use Rattle.comp_bytes.specs.declared.types.Description.TheVariants as descriptions
use Rattle.wit_data.specs.declared.functions.Function.{Function}
use Rattle.wit_data.specs.declared.ids.TypeId.{TypeId}
use Rattle.wit_data.specs.declared.types.Type.TheVariants.{Id}
use Rattle.wit_data.specs.declared.types.TypeDef.{TypeDef}
use Rattle.wit_data.specs.declared.worlds.WorldKey.{WorldKey}
use Rattle.comp_trees.specs.Trees.{Resource}
use Rattle.comp_trees.specs.DefinedTrees.{TypeTree, OfValues, OfFunctions}
use Rattle.comp_trees.specs.WitTrees.{wit_tree}
use Rattle.comp_inventories.specs.Inventories.{argument_named, FunctionEntry, inventory, no_function as no_entry}
use Rattle.nested_terms.specs.Naming.{AreNamesAfter}
use Rattle.nested_terms.specs.Nested.{NestedFunction, NestedScope, NestedImport, ImportedFunction, ImportedType, NestedExport, ExportedFunction, ExportedType, function_import, type_import, functions_imported, types_imported, function_named, type_named, with_item, imports_after, exports_after, AreItemsRight}
use Rattle.nested_components.specs.Functions.{functions_of, nested_functions, exported, type_of}
use Rattle.nested_components.specs.Types.{type_given, exported_type}
use Rattle.nested_components.specs.declared.type_import.TypeImport.{TypeImport}
use Rattle.comp_worlds.specs.declared.world.ComponentWorld.{ComponentWorld}
use Rattle.comp_links.specs.Lists.{resource_of}
use Rattle.comp_links.specs.Targets.{UserModule as User}
use Rattle.comp_terms.specs.Instances.{IsFunctionGiven, IsTypeGiven, IsImportGiven}
use Rattle.comp_terms.specs.Exports.{PassesOn}
use Rattle.interface_needs.proofs.Lists.{all_both}
use Rattle.comp_terms.specs.Planned.{type_of_function}
use Rattle.main_exports.specs.Exports.{functions_at, AreLiftArguments, IsTypeArgument}

turned : (a b : List ℕ) → bytes_eq a b ≡ false → bytes_eq b a ≡ false
turned a b h = by (bytes_eq b a) refl
  where
    by : (t : Bool) → bytes_eq b a ≡ t → t ≡ false
    by true same = absurd (true≢false (sym ((bytes_eq-Decides a b).1 (sym ((bytes_eq-Decides b a).0 same))) ∙ h))
    by false same = refl

-- ---- arguments by their names

abbrev pub Finds : List Argument → Argument → Type 0
Finds all a = argument_named a.sort a.name all ≡ Some a

-- a function, or a type
abbrev pub IsOfSort : Argument → Type 0
IsOfSort a = (a.sort ≡ sorts.Func) ⊎ (a.sort ≡ sorts.Type)

skip : (a : Argument) (more bs : List Argument) → AllByRecursion (Finds more) bs → AllByRecursion (λ n. bytes_eq a.name n ≡ false) (map (λ b. b.name) bs) → AllByRecursion (Finds (a ∷ more)) bs
skip a more [] h k = tt
skip a more (b ∷ bs) h k = (by (is_space (sort_space b.sort) (Some (sort_space a.sort))) (turned a.name b.name k.0), skip a more bs h.1 k.1)
  where
    by : (s : Bool) → bytes_eq b.name a.name ≡ false → (if s && bytes_eq b.name a.name then Some a else argument_named b.sort b.name more) ≡ Some b
    by true e = ap (λ t. if t then Some a else argument_named b.sort b.name more) e ∙ h.0
    by false e = h.0

own_sort : (a : Argument) → IsOfSort a → is_space (sort_space a.sort) (Some (sort_space a.sort)) ≡ true
own_sort a (inl is) = ap (λ s. is_space (sort_space s) (Some (sort_space s))) is
own_sort a (inr is) = ap (λ s. is_space (sort_space s) (Some (sort_space s))) is

-- each of several functions and types under distinct names is found by its name
pub all_found : (all : List Argument) → AllByRecursion IsOfSort all → IsDistinct bytes_eq (map (λ a. a.name) all) → AllByRecursion (Finds all) all
unfolding IsDistinct
all_found [] h k = tt
all_found (a ∷ more) h k =
    let here : (is_space (sort_space a.sort) (Some (sort_space a.sort)) && bytes_eq a.name a.name) ≡ true = ap₂ (λ s t. s && t) (own_sort a h.0) ((bytes_eq-Decides a.name a.name).1 refl) in
    (ap (λ t. if t then Some a else argument_named a.sort a.name more) here, skip a more more (all_found more h.1 k.1) k.0)

-- ---- exports by their names

module _ (origin : TypeId → Resource) (types : List TypeDef) where
  abbrev pub passed : Function → List ℕ → NestedFunction
  passed f name = record { argument = name; type = type_of origin types f }

  -- each of these functions is exported, and is the import of its name
  abbrev pub AreFound : List NestedExport → List (List ℕ × Function) → List (List ℕ) → Type 0
  AreFound xs [] [] = Unit {0}
  AreFound xs (e ∷ es) (name ∷ names) = (function_named e.0 xs ≡ Some (passed e.1 name)) × AreFound xs es names
  AreFound xs es names = ⊥

  skip_export : (f : List ℕ) (g : NestedFunction) (xs : List NestedExport) (es : List (List ℕ × Function)) (names : List (List ℕ)) → AreFound xs es names → AllByRecursion (λ n. bytes_eq f n ≡ false) (map (λ e. e.0) es) →
      AreFound (ExportedFunction f g ∷ xs) es names
  skip_export f g xs [] [] h k = tt
  skip_export f g xs (e ∷ es) (name ∷ names) h k = (ap (λ b. if b then Some g else function_named e.0 xs) (turned f e.0 k.0) ∙ h.0, skip_export f g xs es names h.1 k.1)
  skip_export f g xs [] (name ∷ names) h k = absurd h
  skip_export f g xs (e ∷ es) [] h k = absurd h

  pub exports_found : (taken : List (List ℕ)) (es : List (List ℕ × Function)) (names : List (List ℕ)) → AreNamesAfter taken (functions_of es) names → AllByRecursion (λ e. e.0 ≡ e.1.name) es → IsDistinct bytes_eq (map (λ e. e.0) es) →
      AreFound (exported (functions_of es) (nested_functions origin types (functions_of es) names)) es names
  unfolding IsDistinct
  exports_found taken [] [] h named k = tt
  exports_found taken (e ∷ es) (name ∷ names) h named k =
      let xs = exported (functions_of es) (nested_functions origin types (functions_of es) names) in
      let g = passed e.1 name in
      let rest : AreFound xs es names = exports_found (taken ++ name ∷ []) es names h.1 named.1 k.1 in
      let skipped : AreFound (ExportedFunction e.0 g ∷ xs) es names = skip_export e.0 g xs es names rest k.0 in
      let first : function_named e.0 (ExportedFunction e.0 g ∷ xs) ≡ Some g = ap (λ b. if b then Some g else function_named e.0 xs) ((bytes_eq-Decides e.0 e.0).1 refl) in
      subst (λ n. AreFound (ExportedFunction n g ∷ xs) (e ∷ es) (name ∷ names)) named.0 (first, skipped)
  exports_found taken [] (name ∷ names) h named k = absurd h
  exports_found taken (e ∷ es) [] h named k = absurd h

-- the types before them are no functions
past_type : (origin : TypeId → Resource) (types : List TypeDef) (name : List ℕ) (tree : TypeTree) (xs : List NestedExport) (es : List (List ℕ × Function)) (names : List (List ℕ)) → AreFound origin types xs es names →
    AreFound origin types (ExportedType name tree ∷ xs) es names
past_type origin types name tree xs [] [] h = tt
past_type origin types name tree xs (e ∷ es) (n ∷ ns) h = (h.0, past_type origin types name tree xs es ns h.1)
past_type origin types name tree xs [] (n ∷ ns) h = absurd h
past_type origin types name tree xs (e ∷ es) [] h = absurd h

pub past_types : (origin : TypeId → Resource) (types : List TypeDef) (listed : List (List ℕ × TypeId)) (xs : List NestedExport) (es : List (List ℕ × Function)) (names : List (List ℕ)) → AreFound origin types xs es names →
    AreFound origin types (map (exported_type origin types) listed ++ xs) es names
past_types origin types [] xs es names h = h
past_types origin types (t ∷ ts) xs es names h =
    past_type origin types t.0 (OfValues (wit_tree origin types (Some (Id t.1)))) (map (exported_type origin types) ts ++ xs) es names (past_types origin types ts xs es names h)

-- ---- exported types by their names

module _ (origin : TypeId → Resource) (types : List TypeDef) where
  -- a type is exported under its name, and denotes what it does
  abbrev pub IsTypeFound : List NestedExport → List ℕ × TypeId → Type 0
  IsTypeFound xs t = type_named t.0 xs ≡ Some (OfValues (wit_tree origin types (Some (Id t.1))))

  skip_type : (name : List ℕ) (tree : TypeTree) (xs : List NestedExport) (ts : List (List ℕ × TypeId)) → AllByRecursion (IsTypeFound xs) ts → AllByRecursion (λ n. bytes_eq name n ≡ false) (map (λ t. t.0) ts) →
      AllByRecursion (IsTypeFound (ExportedType name tree ∷ xs)) ts
  skip_type name tree xs [] h k = tt
  skip_type name tree xs (t ∷ ts) h k = (ap (λ b. if b then Some tree else type_named t.0 xs) (turned name t.0 k.0) ∙ h.0, skip_type name tree xs ts h.1 k.1)

  -- where no two have one name, each is found, whatever is exported behind them
  pub types_found : (xs : List NestedExport) (ts : List (List ℕ × TypeId)) → IsDistinct bytes_eq (map (λ t. t.0) ts) → AllByRecursion (IsTypeFound (map (exported_type origin types) ts ++ xs)) ts
  unfolding IsDistinct
  types_found xs [] k = tt
  types_found xs (t ∷ ts) k =
      let tree : TypeTree = OfValues (wit_tree origin types (Some (Id t.1))) in (
        ap (λ b. if b then Some tree else type_named t.0 (map (exported_type origin types) ts ++ xs)) ((bytes_eq-Decides t.0 t.0).1 refl),
        skip_type t.0 tree (map (exported_type origin types) ts ++ xs) ts (types_found xs ts k.1) k.0,
      )

-- ---- the arguments are the lifts and the types

module _ (w : ComponentWorld) (of : User) (ds : List Def) (key : WorldKey) (all : List Argument) where
  abbrev origin : TypeId → Resource
  origin = resource_of w

  abbrev types : List TypeDef
  types = w.resolve.types

  found_as : (a : Argument) (sort : Sort) (name : List ℕ) → a.sort ≡ sort → a.name ≡ name → Finds all a → argument_named sort name all ≡ Some a
  found_as a sort name is same h = ap₂ (λ s n. argument_named s n all) (sym is) (sym same) ∙ h

  -- the import of each function is given its lift
  pub all_given : (taken : List (List ℕ)) (es : List (List ℕ × Function)) (names : List (List ℕ)) (as' : List Argument) → AreNamesAfter taken (functions_of es) names → AreLiftArguments w of ds key es names as' → AllByRecursion (Finds all) as' →
      AllByRecursion (λ g. IsFunctionGiven ds all g.argument g.type) (nested_functions origin types (functions_of es) names)
  all_given taken [] [] [] n h k = tt
  all_given taken (e ∷ es) (name ∷ names) (a ∷ as') n h k = (
    record {
      argument = a;
      named = found_as a sorts.Func name h.0.sort h.0.named k.0;
      typed = ap (λ (f : FunctionEntry). f.type) (get_or_from_slice_get (inventory ds).functions a.index (record { origin = None; type = OfFunctions (type_of_function w e.1) }) no_entry h.0.lifted.entry);
    },
    all_given (taken ++ name ∷ []) es names as' n.1 h.1 k.1,
  )
  all_given taken [] [] (a ∷ as') n h k = absurd h
  all_given taken [] (name ∷ names) as' n h k = absurd n
  all_given taken (e ∷ es) [] as' n h k = absurd n
  all_given taken (e ∷ es) (name ∷ names) [] n h k = absurd h

  -- and that of each type, the type
  pub types_given : (is : List TypeImport) (as' : List Argument) → AllZip (IsTypeArgument w ds) is as' → AllByRecursion (Finds all) as' → AllByRecursion (λ t. IsTypeGiven ds all t.0 t.1) (map (type_given origin types) is)
  types_given [] [] h k = tt
  types_given (i ∷ is) (a ∷ as') h k = (record { argument = a; named = found_as a sorts.Type i.name h.0.sort h.0.named k.0; denotes = h.0.denotes }, types_given is as' h.1 k.1)
  types_given [] (a ∷ as') h k = absurd h
  types_given (i ∷ is) [] h k = absurd h

  -- so is each import
  pub imports_given : (xs : List NestedImport) → AllByRecursion (λ g. IsFunctionGiven ds all g.argument g.type) (functions_imported xs) → AllByRecursion (λ t. IsTypeGiven ds all t.0 t.1) (types_imported xs) →
      AllByRecursion (IsImportGiven ds all) xs
  imports_given [] f t = tt
  imports_given (ImportedFunction name type ∷ xs) f t = (f.0, imports_given xs f.1 t)
  imports_given (ImportedType name tree ∷ xs) f t = (t.0, imports_given xs f t.1)

  -- the lift of each function is passed on
  pub all_passed : (xs : List NestedExport) (es : List (List ℕ × Function)) (names : List (List ℕ)) (as' : List Argument) → AreFound origin types xs es names → AreLiftArguments w of ds key es names as' → AllByRecursion (Finds all) as' →
      AllByRecursion (PassesOn w ds all xs) (functions_at of key es)
  all_passed xs [] [] [] f h k = tt
  all_passed xs (e ∷ es) (name ∷ names) (a ∷ as') f h k = (
    record { function = passed origin types e.1 name; argument = a; found = f.0; named = found_as a sorts.Func name h.0.sort h.0.named k.0; lifted = h.0.lifted.lifted },
    all_passed xs es names as' f.1 h.1 k.1,
  )
  all_passed xs [] [] (a ∷ as') f h k = absurd h
  all_passed xs [] (name ∷ names) as' f h k = absurd f
  all_passed xs (e ∷ es) [] as' f h k = absurd f
  all_passed xs (e ∷ es) (name ∷ names) [] f h k = absurd h

-- the arguments are functions and types, and have the names of the imports
pub lifts_sorted : (w : ComponentWorld) (of : User) (ds : List Def) (key : WorldKey) (es : List (List ℕ × Function)) (names : List (List ℕ)) (as' : List Argument) → AreLiftArguments w of ds key es names as' → AllByRecursion IsOfSort as'
lifts_sorted w of ds key [] [] [] h = tt
lifts_sorted w of ds key (e ∷ es) (name ∷ names) (a ∷ as') h = (inl h.0.sort, lifts_sorted w of ds key es names as' h.1)
lifts_sorted w of ds key [] [] (a ∷ as') h = absurd h
lifts_sorted w of ds key [] (name ∷ names) as' h = absurd h
lifts_sorted w of ds key (e ∷ es) [] as' h = absurd h
lifts_sorted w of ds key (e ∷ es) (name ∷ names) [] h = absurd h

pub types_sorted : (w : ComponentWorld) (ds : List Def) (is : List TypeImport) (as' : List Argument) → AllZip (IsTypeArgument w ds) is as' → AllByRecursion IsOfSort as'
types_sorted w ds [] [] h = tt
types_sorted w ds (i ∷ is) (a ∷ as') h = (inr h.0.sort, types_sorted w ds is as' h.1)
types_sorted w ds [] (a ∷ as') h = absurd h
types_sorted w ds (i ∷ is) [] h = absurd h

pub types_named : (w : ComponentWorld) (ds : List Def) (is : List TypeImport) (as' : List Argument) → AllZip (IsTypeArgument w ds) is as' → map (λ (a : Argument). a.name) as' ≡ map (λ (i : TypeImport). i.name) is
types_named w ds [] [] h = refl
types_named w ds (i ∷ is) (a ∷ as') h = ap₂ (λ x xs. x ∷ xs) h.0.named (types_named w ds is as' h.1)
types_named w ds [] (a ∷ as') h = absurd h
types_named w ds (i ∷ is) [] h = absurd h

pub arguments_named : (w : ComponentWorld) (of : User) (ds : List Def) (key : WorldKey) (es : List (List ℕ × Function)) (names : List (List ℕ)) (as' : List Argument) → AreLiftArguments w of ds key es names as' → map (λ (a : Argument). a.name) as' ≡ names
arguments_named w of ds key [] [] [] h = refl
arguments_named w of ds key (e ∷ es) (name ∷ names) (a ∷ as') h = ap₂ (λ x xs. x ∷ xs) h.0.named (arguments_named w of ds key es names as' h.1)
arguments_named w of ds key [] [] (a ∷ as') h = absurd h
arguments_named w of ds key [] (name ∷ names) as' h = absurd h
arguments_named w of ds key (e ∷ es) [] as' h = absurd h
arguments_named w of ds key (e ∷ es) (name ∷ names) [] h = absurd h

-- ---- the names of imports and exports

abbrev pub export_name : NestedExport → List ℕ
export_name (ExportedFunction name function) = name
export_name (ExportedType name tree) = name

module _ (given : List ℕ → TypeTree) where
  pub functions_named : (s : NestedScope) (is : List Item) → flat_map function_import is ≡ map (λ (f : NestedFunction). f.argument) (functions_imported (imports_after given s is))
  functions_named s [] = refl
  functions_named s (items.Import name (descriptions.Func kind) ∷ is) = ap (λ l. name.name ∷ l) (functions_named (with_item given s (items.Import name (descriptions.Func kind))) is)
  functions_named s (items.Import name (descriptions.TypeEqual index) ∷ is) = functions_named (with_item given s (items.Import name (descriptions.TypeEqual index))) is
  functions_named s (items.Import name descriptions.SubResource ∷ is) = functions_named (with_item given s (items.Import name descriptions.SubResource)) is
  functions_named s (items.Import name (descriptions.Instance index) ∷ is) = functions_named (with_item given s (items.Import name (descriptions.Instance index))) is
  functions_named s (i ∷ is) = functions_named (with_item given s i) is

  pub import_types_named : (s : NestedScope) (is : List Item) → flat_map type_import is ≡ map (λ (t : List ℕ × TypeTree). t.0) (types_imported (imports_after given s is))
  import_types_named s [] = refl
  import_types_named s (items.Import name (descriptions.Func kind) ∷ is) = import_types_named (with_item given s (items.Import name (descriptions.Func kind))) is
  import_types_named s (items.Import name (descriptions.TypeEqual index) ∷ is) = ap (λ l. name.name ∷ l) (import_types_named (with_item given s (items.Import name (descriptions.TypeEqual index))) is)
  import_types_named s (items.Import name descriptions.SubResource ∷ is) = ap (λ l. name.name ∷ l) (import_types_named (with_item given s (items.Import name descriptions.SubResource)) is)
  import_types_named s (items.Import name (descriptions.Instance index) ∷ is) = import_types_named (with_item given s (items.Import name (descriptions.Instance index))) is
  import_types_named s (i ∷ is) = import_types_named (with_item given s i) is

  pub exports_named : (s : NestedScope) (is : List Item) → AreItemsRight given s is → flat_map item_export is ≡ map export_name (exports_after given s is)
  exports_named s [] h = refl
  exports_named s (items.Export name sorts.Func index description ∷ is) h = ap (λ l. name.name ∷ l) (exports_named (with_item given s (items.Export name sorts.Func index description)) is h.1)
  exports_named s (items.Export name sorts.Type index description ∷ is) h = ap (λ l. name.name ∷ l) (exports_named (with_item given s (items.Export name sorts.Type index description)) is h.1)
  exports_named s (items.Export name sort index description ∷ is) h = absurd h.0
  exports_named s (i ∷ is) h = exports_named (with_item given s i) is h.1

module _ (origin : TypeId → Resource) (types : List TypeDef) where
  pub imported_names : (taken : List (List ℕ)) (fs : List Function) (names : List (List ℕ)) → AreNamesAfter taken fs names → map (λ (f : NestedFunction). f.argument) (nested_functions origin types fs names) ≡ names
  imported_names taken [] [] h = refl
  imported_names taken (f ∷ fs) (name ∷ names) h = ap (λ l. name ∷ l) (imported_names (taken ++ name ∷ []) fs names h.1)
  imported_names taken [] (name ∷ names) h = absurd h
  imported_names taken (f ∷ fs) [] h = absurd h

  pub exported_names : (taken : List (List ℕ)) (fs : List Function) (names : List (List ℕ)) → AreNamesAfter taken fs names → map export_name (exported fs (nested_functions origin types fs names)) ≡ map (λ f. f.name) fs
  exported_names taken [] [] h = refl
  exported_names taken (f ∷ fs) (name ∷ names) h = ap (λ l. f.name ∷ l) (exported_names (taken ++ name ∷ []) fs names h.1)
  exported_names taken [] (name ∷ names) h = absurd h
  exported_names taken (f ∷ fs) [] h = absurd h

  pub given_names : (is : List TypeImport) → map (λ (t : List ℕ × TypeTree). t.0) (map (type_given origin types) is) ≡ map (λ (i : TypeImport). i.name) is
  given_names [] = refl
  given_names (i ∷ is) = ap (λ l. i.name ∷ l) (given_names is)

  pub listed_names : (listed : List (List ℕ × TypeId)) (xs : List NestedExport) → map export_name (map (exported_type origin types) listed ++ xs) ≡ map (λ (t : List ℕ × TypeId). t.0) listed ++ map export_name xs
  listed_names [] xs = refl
  listed_names (t ∷ ts) xs = ap (λ l. t.0 ∷ l) (listed_names ts xs)

-- ---- distinct names of imports

-- what holds of the names of imports holds of those of the functions and of the types among them
apart_of : (P : List ℕ → Type 0) (is : List Item) → AllByRecursion P (flat_map item_import is) → AllByRecursion P (flat_map function_import is) × AllByRecursion P (flat_map type_import is)
apart_of P [] h = (tt, tt)
apart_of P (items.Import name (descriptions.Func kind) ∷ is) h = let rest = apart_of P is h.1 in ((h.0, rest.0), rest.1)
apart_of P (items.Import name (descriptions.TypeEqual index) ∷ is) h = let rest = apart_of P is h.1 in (rest.0, (h.0, rest.1))
apart_of P (items.Import name descriptions.SubResource ∷ is) h = let rest = apart_of P is h.1 in (rest.0, (h.0, rest.1))
apart_of P (items.Import name (descriptions.Instance index) ∷ is) h = apart_of P is h.1
apart_of P (i ∷ is) h = apart_of P is h

all_inserted : (P : List ℕ → Type 0) (xs : List (List ℕ)) (x : List ℕ) (ys : List (List ℕ)) → AllByRecursion P (xs ++ ys) → P x → AllByRecursion P (xs ++ x ∷ ys)
all_inserted P [] x ys h k = (k, h)
all_inserted P (y ∷ xs) x ys h k = (h.0, all_inserted P xs x ys h.1 k)

-- one more name between distinct ones
between : (x : List ℕ) (xs ys : List (List ℕ)) → AllByRecursion (λ n. bytes_eq x n ≡ false) xs → AllByRecursion (λ n. bytes_eq x n ≡ false) ys → IsDistinct bytes_eq (xs ++ ys) → IsDistinct bytes_eq (xs ++ x ∷ ys)
unfolding IsDistinct
between x [] ys a b h = (b, h)
between x (y ∷ xs) ys a b h = (all_inserted (λ n. bytes_eq y n ≡ false) xs x ys h.0 (turned x y a.0), between x xs ys a.1 b h.1)

-- the functions' names and then the types' are distinct, where all are
pub functions_then_types : (is : List Item) → IsDistinct bytes_eq (flat_map item_import is) → IsDistinct bytes_eq (flat_map function_import is ++ flat_map type_import is)
unfolding IsDistinct
functions_then_types [] h = tt
functions_then_types (items.Import name (descriptions.Func kind) ∷ is) h =
    let P : List ℕ → Type 0 = λ n. bytes_eq name.name n ≡ false in
    let parts = apart_of P is h.0 in
    (all_both P (flat_map function_import is) (flat_map type_import is) parts.0 parts.1, functions_then_types is h.1)
functions_then_types (items.Import name (descriptions.TypeEqual index) ∷ is) h =
    let parts = apart_of (λ n. bytes_eq name.name n ≡ false) is h.0 in between name.name (flat_map function_import is) (flat_map type_import is) parts.0 parts.1 (functions_then_types is h.1)
functions_then_types (items.Import name descriptions.SubResource ∷ is) h =
    let parts = apart_of (λ n. bytes_eq name.name n ≡ false) is h.0 in between name.name (flat_map function_import is) (flat_map type_import is) parts.0 parts.1 (functions_then_types is h.1)
functions_then_types (items.Import name (descriptions.Instance index) ∷ is) h = functions_then_types is h.1
functions_then_types (i ∷ is) h = functions_then_types is h

-- there are as many names as functions
pub names_counted : (taken : List (List ℕ)) (es : List (List ℕ × Function)) (names : List (List ℕ)) → AreNamesAfter taken (functions_of es) names → length names ≡ length es
names_counted taken [] [] h = refl
names_counted taken (e ∷ es) (name ∷ names) h = ap suc (names_counted (taken ++ name ∷ []) es names h.1)
names_counted taken [] (name ∷ names) h = absurd h
names_counted taken (e ∷ es) [] h = absurd h
