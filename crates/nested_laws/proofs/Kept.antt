-- What a nested component is given, and what it exports, stays so while the store grows; and what
-- one item more does to the types and functions of the scope.
use Rattle.std.proofs.Common.{◌≡◌, ℕ, ◌<◌, Bool, true, false, List, [], ◌∷◌, ◌++◌, append-nil, length, filter, get_or, refl, sym, ap, subst, Some, cond, if◌then◌else◌}
use Rattle.std.proofs.lemmas.List.Elements.{filter-append}
use Rattle.std.proofs.lemmas.Option.{get_or_from_slice_get, none-some, same_Some}
use Rattle.std.specs.List.{slice_get}
use Rattle.std.specs.Option.{option_map}
use Rattle.std.specs.Str.{bytes_eq}
use Rattle.comp_lists.proofs.Lists.{AllZip-weaker, AllZip-end, AllZip-at, AllByRecursion-weaker, there}
use Rattle.comp_bytes.specs.Spaces.{is_space}
use Rattle.comp_bytes.specs.declared.space.Space.{Space}
use Rattle.comp_bytes.specs.declared.space.Space.TheVariants as spaces
use Rattle.comp_trees.specs.DefinedTrees.{TypeTree}
use Rattle.nested_terms.specs.Nested.{NestedFunction, no_function, NestedImport, ImportedFunction, ImportedType, NestedExport, ExportedFunction, ExportedType}
use Rattle.comp_runs.specs.Store.{Thing, Export, TypeItem}
use Rattle.comp_runs.specs.Machine.{is_of, address_at, export_in, export_named, export_of}
use Rattle.instance_laws.specs.Instantiated.{AreHeldAs}
use Rattle.instance_laws.proofs.Held.{KeepsEntries, IsHeldAs-kept, AreHeldAs-beside}
use Rattle.nested_laws.specs.NestedRuns.{IsGiven, AreGiven, IsArgument, IsThingArgument, AreArguments, IsNestedExport, AreNestedExports}

-- ---- the store grows

module _ {types types' : List TypeItem} (k : KeepsEntries types types') (arguments : List Export) where
  IsGiven-kept : (x : NestedImport) → IsGiven types arguments x → IsGiven types' arguments x
  IsGiven-kept (ImportedFunction name type) h = h
  IsGiven-kept (ImportedType name tree) h = record { export = h.export; found = h.found; is = IsHeldAs-kept k tree h.export.address h.is }

  pub AreGiven-kept : (xs : List NestedImport) → AreGiven types arguments xs → AreGiven types' arguments xs
  AreGiven-kept xs h = AllByRecursion-weaker IsGiven-kept xs h

  IsNestedExport-kept : (x : NestedExport) (e : Export) → IsNestedExport types arguments x e → IsNestedExport types' arguments x e
  IsNestedExport-kept (ExportedFunction name function) e h = h
  IsNestedExport-kept (ExportedType name tree) e h = record { named = h.named; space = h.space; is = IsHeldAs-kept k tree e.address h.is }

  pub AreNestedExports-kept : (xs : List NestedExport) (es : List Export) → AreNestedExports types arguments xs es → AreNestedExports types' arguments xs es
  AreNestedExports-kept xs es h = AllZip-weaker IsNestedExport-kept xs es h

-- ---- one item more

pub AreArguments-push : (arguments : List Export) (functions : List NestedFunction) (items : List Thing) (function : NestedFunction) (address : ℕ) → AreArguments arguments functions items →
    IsArgument arguments function.argument address → AreArguments arguments (functions ++ function ∷ []) (items ++ record { space = spaces.Func; address = address } ∷ [])
AreArguments-push arguments functions items function address h k =
    let t : Thing = record { space = spaces.Func; address = address } in
    rw (filter-append (is_of spaces.Func) items (t ∷ [])) (AllZip-end (IsThingArgument arguments) functions (filter (is_of spaces.Func) items) function t h k)

-- an item of types is no function, and one of functions no type
pub AreArguments-beside : (arguments : List Export) (functions : List NestedFunction) (items : List Thing) (address : ℕ) → AreArguments arguments functions items →
    AreArguments arguments (functions ++ []) (items ++ record { space = spaces.Type; address = address } ∷ [])
AreArguments-beside arguments functions items address h =
    let t : Thing = record { space = spaces.Type; address = address } in
    rw (append-nil functions, filter-append (is_of spaces.Func) items (t ∷ []), append-nil (filter (is_of spaces.Func) items)) h

pub types_beside : (types : List TypeItem) (trees : List TypeTree) (items : List Thing) (address : ℕ) → AreHeldAs types trees items →
    AreHeldAs types (trees ++ []) (items ++ record { space = spaces.Func; address = address } ∷ [])
types_beside types trees items address h = rw (append-nil trees) (AreHeldAs-beside types trees items address h)

-- ---- the function of an index

pub record IsFunctionThere (arguments : List Export) (functions : List NestedFunction) (items : List Thing) (index : ℕ) : Type 0 where
  pub address : ℕ
  pub at : address_at spaces.Func index items ≡ Some address
  pub is : IsArgument arguments (get_or functions index no_function).argument address

pub function_there : (arguments : List Export) (functions : List NestedFunction) (items : List Thing) (index : ℕ) → AreArguments arguments functions items → index < length functions →
    IsFunctionThere arguments functions items index
function_there arguments functions items index h l =
    let x : (x : NestedFunction) × (slice_get functions index ≡ Some x) = there functions index l in
    let t = AllZip-at (IsThingArgument arguments) functions (filter (is_of spaces.Func) items) index x.0 h x.1 in
    record {
      address = t.0.address;
      at = ap (option_map (λ (t : Thing). t.address)) t.1;
      is = subst (λ (f : NestedFunction). IsArgument arguments f.argument t.0.address) (sym (get_or_from_slice_get functions index x.0 no_function x.1)) t.2;
    }

-- ---- an export that is found in a space is of the space

pub is_function : (space : Space) → is_space spaces.Func (Some space) ≡ true → space ≡ spaces.Func
is_function spaces.Func e = refl
is_function _ e = cc

pub is_type : (space : Space) → is_space spaces.Type (Some space) ≡ true → space ≡ spaces.Type
is_type spaces.Type e = refl
is_type _ e = cc

-- what holds of each export that passes a test holds of the one that is found among them
found_passes : (test : Export → Bool) (P : Export → Type 0) → ((x : Export) → test x ≡ true → P x) → (name : List ℕ) (es : List Export) (e : Export) → export_named name (filter test es) ≡ Some e → P e
found_passes test P holds name [] e h = absurd (none-some e h)
found_passes test P holds name (x ∷ es) e h = by (λ k. found_passes test P holds name es e k) (test x) refl h
  where
    named : (b : Bool) → test x ≡ true → (export_named name (filter test es) ≡ Some e → P e) → cond b (Some x) (export_named name (filter test es)) ≡ Some e → P e
    named true passes rest k = subst P (same_Some x e k) (holds x passes)
    named false passes rest k = rest k

    by : (export_named name (filter test es) ≡ Some e → P e) → (b : Bool) → test x ≡ b → export_named name (if b then x ∷ filter test es else filter test es) ≡ Some e → P e
    by rest true passes k = named (bytes_eq name x.name) passes rest k
    by rest false passes k = rest k

pub function_found : (name : List ℕ) (es : List Export) (e : Export) → export_of spaces.Func name es ≡ Some e → e.space ≡ spaces.Func
function_found name es e h = found_passes (export_in spaces.Func) (λ (x : Export). x.space ≡ spaces.Func) (λ x p. is_function x.space p) name es e h

pub type_found : (name : List ℕ) (es : List Export) (e : Export) → export_of spaces.Type name es ≡ Some e → e.space ≡ spaces.Type
type_found name es e h = found_passes (export_in spaces.Type) (λ (x : Export). x.space ≡ spaces.Type) (λ x p. is_type x.space p) name es e h
