-- What the fixup of numbered shims imports: a function for each shim, in order, and then their table.
use Rattle.std.proofs.Common.{◌≡◌, ◌∙◌, ◌+◌, ◌<◌, ◌≤◌, ◌^◌, ℕ, suc, Bool, true, false, ◌&&◌, ◌||◌, List, [], ◌∷◌, ◌++◌, length, Option, Some, None, cond, codes, append-nil, append_assoc, length-append, refl, sym, ap, subst, true≢false, arith}
use Rattle.std.proofs.lemmas.List.FromFn.{length-range_with_len}
use Rattle.std.specs.Fmt.{decimal}
use Rattle.std.specs.List.{AllByRecursion, list_any, range_with_len}
use Rattle.std.specs.Str.{bytes_eq}
use Rattle.comp_lists.specs.Tables.{with_first}
use Rattle.comp_lists.proofs.Lists.{AllByRecursion-weaker, AllByRecursion-push}
use Rattle.standard_kinds.specs.declared.kinds.ExportKind.TheVariants as kinds
use Rattle.core_types.specs.declared.types.FuncType.{FuncType}
use Rattle.core_bytes.specs.declared.entity.EntityType.TheVariants as entities
use Rattle.core_bytes.specs.declared.entry.Import.{Import}
use Rattle.core_runs.specs.Bodies.{table_of_shims}
use Rattle.interned_types.specs.Interning.{interned, type_index}
use Rattle.fixup_modules.specs.declared.instances.ImportedInstance.{ImportedInstance}
use Rattle.fixup_modules.specs.declared.instances.ImportedInstance.TheVariants as instances
use Rattle.fixup_modules.specs.Imports.{Imported, is_kind, of_kind, count_of, entry_of, is_named, import_index}
use Rattle.fixup_modules.specs.Fixups.{Fixup, nothing_fixed, thunk, thunk_item, with_shim, with_initialize, shim_target}
use Rattle.fixup_modules.specs.Sections.{table_name, shim_table, with_table, table_index, if_none, all_imported}
use Rattle.fixup_modules.proofs.Named.{all_before, grown}
use Rattle.shim_plan.specs.Plans.{AreNumbered}
use Rattle.shim_plan.specs.declared.shims.Shim.{Shim}
use Rattle.world_shims.specs.WorldShims.{type_of_shim, types_with, fixup_with, fixup_of, fixup_instances}
use Rattle.world_shims.proofs.Arguments.{of_actual}
use Rattle.world_shims.proofs.Digits.{other_digits}

-- ---- imports of earlier shims

-- a function from `actual`, under the digits of an earlier place
pub record IsEarlier (place : ℕ) (i : Import) : Type 0 where
  pub number : ℕ
  pub below : number < place
  pub actual : i.module_name ≡ codes "actual"
  pub named : i.field ≡ decimal number
  pub type : ℕ
  pub function : i.entity ≡ entities.Function type

neither : (b c : Bool) → c ≡ false → ((b && false) || c) ≡ false
neither true c e = e
neither false c e = e

-- none of them has the name of the next shim
lacks_name : (place : ℕ) (entries : List Import) → place < 2 ^ 32 → AllByRecursion (IsEarlier place) entries → list_any (is_named (codes "actual") (decimal place)) entries ≡ false
lacks_name place [] small h = refl
lacks_name place (i ∷ is) small h =
    let own = bytes_eq (codes "actual") i.module_name in
    let rest = list_any (is_named (codes "actual") (decimal place)) is in
    ap (λ f. (own && bytes_eq (decimal place) f) || rest) h.0.named
    ∙ ap (λ b. (own && b) || rest) (other_digits place h.0.number small h.0.below)
    ∙ neither own rest (lacks_name place is small h.1)

-- nor is any from `shim`
lacks_table : (place : ℕ) (entries : List Import) → AllByRecursion (IsEarlier place) entries → list_any (is_named (codes "shim") table_name) entries ≡ false
lacks_table place [] h = refl
lacks_table place (i ∷ is) h =
    ap (λ n. (bytes_eq (codes "shim") n && bytes_eq table_name i.field) || list_any (is_named (codes "shim") table_name) is) h.0.actual
    ∙ lacks_table place is h.1

-- nor from `main`
lacks_main : (place : ℕ) (name : List ℕ) (entries : List Import) → AllByRecursion (IsEarlier place) entries → list_any (is_named (codes "main") name) entries ≡ false
lacks_main place name [] h = refl
lacks_main place name (i ∷ is) h =
    ap (λ n. (bytes_eq (codes "main") n && bytes_eq name i.field) || list_any (is_named (codes "main") name) is) h.0.actual
    ∙ lacks_main place name is h.1

-- and so it stays with one more
lacks_pushed : (p : Import → Bool) (entries : List Import) (entry : Import) → list_any p entries ≡ false → p entry ≡ false → list_any p (entries ++ entry ∷ []) ≡ false
lacks_pushed p [] entry none last = ap (λ b. b || false) last
lacks_pushed p (i ∷ is) entry none last = by (p i) none (λ e. lacks_pushed p is entry e last)
  where
    by : (b : Bool) → (b || list_any p is) ≡ false → (list_any p is ≡ false → list_any p (is ++ entry ∷ []) ≡ false) → (b || list_any p (is ++ entry ∷ [])) ≡ false
    by true e more = absurd (true≢false e)
    by false e more = more e

tables_pushed : (entries : List Import) (entry : Import) → count_of kinds.Table entries ≡ 0 → is_kind kinds.Table entry.entity ≡ false → count_of kinds.Table (entries ++ entry ∷ []) ≡ 0
tables_pushed [] entry none last = ap (λ b. length (cond b (entry ∷ []) [])) last
tables_pushed (i ∷ is) entry none last = by (is_kind kinds.Table i.entity) none (λ e. tables_pushed is entry e last)
  where
    by : (b : Bool) → length (cond b (i ∷ of_kind kinds.Table is) (of_kind kinds.Table is)) ≡ 0 → (count_of kinds.Table is ≡ 0 → count_of kinds.Table (is ++ entry ∷ []) ≡ 0) →
        length (cond b (i ∷ of_kind kinds.Table (is ++ entry ∷ [])) (of_kind kinds.Table (is ++ entry ∷ []))) ≡ 0
    by true e more = cc
    by false e more = more e

-- all are functions
all_functions : (place : ℕ) (entries : List Import) → AllByRecursion (IsEarlier place) entries → count_of kinds.Func entries ≡ length entries
all_functions place [] h = refl
all_functions place (i ∷ is) h =
    ap (λ e. length (cond (is_kind kinds.Func e) (i ∷ of_kind kinds.Func is) (of_kind kinds.Func is))) h.0.function
    ∙ ap suc (all_functions place is h.1)

no_tables : (place : ℕ) (entries : List Import) → AllByRecursion (IsEarlier place) entries → count_of kinds.Table entries ≡ 0
no_tables place [] h = refl
no_tables place (i ∷ is) h =
    ap (λ e. length (cond (is_kind kinds.Table e) (i ∷ of_kind kinds.Table is) (of_kind kinds.Table is))) h.0.function
    ∙ no_tables place is h.1

still_earlier : (place : ℕ) (i : Import) → IsEarlier place i → IsEarlier (suc place) i
still_earlier place i h = record {
  number = h.number;
  below = let b = h.below in omega (arith, b);
  actual = h.actual;
  named = h.named;
  type = h.type;
  function = h.function;
}

-- ---- one shim after the other

-- the import of a shim, where these types were interned before
abbrev pub import_of : List FuncType → Shim → Import
import_of types s = entry_of instances.Actual s.name (shim_target types (type_of_shim s))

abbrev pub imports_of : List FuncType → List Shim → List Import
imports_of types [] = []
imports_of types (s ∷ ss) = import_of types s ∷ imports_of (interned types (type_of_shim s)) ss

-- the fixup after these shims
record IsFixed (f : Fixup) (place : ℕ) (shims : List Shim) (g : Fixup) : Type 0 where
  pub types : g.types ≡ types_with f.types shims
  pub entries : g.imported.entries ≡ f.imported.entries ++ imports_of f.types shims
  pub fills : g.fills ≡ f.fills ++ range_with_len place (length shims)
  pub earlier : AllByRecursion (IsEarlier (place + length shims)) g.imported.entries
  pub calls : g.calls ≡ f.calls

fixed_by : (f : Fixup) (place : ℕ) (shims : List Shim) → AreNumbered place shims → place + length shims ≤ 2 ^ 32 → length f.imported.entries ≡ place → AllByRecursion (IsEarlier place) f.imported.entries → IsFixed f place shims (fixup_with f shims)
fixed_by f place [] numbered room count earlier =
    let e : place ≡ place + 0 = omega arith in
    record {
      types = refl;
      entries = sym (append-nil f.imported.entries);
      fills = sym (append-nil f.fills);
      earlier = subst (λ n. AllByRecursion (IsEarlier n) f.imported.entries) e earlier;
      calls = refl;
    }
fixed_by f place (s ∷ ss) numbered room count earlier =
    let target = shim_target f.types (type_of_shim s) in
    let entry = import_of f.types s in
    let entries = f.imported.entries in
    let g = with_shim f s.name (type_of_shim s) in
    let missing : list_any (is_named (codes "actual") s.name) entries ≡ false =
    ap (λ n. list_any (is_named (codes "actual") n) entries) numbered.0 ∙ lacks_name place entries (omega arith) earlier in
    let after : g.imported.entries ≡ entries ++ entry ∷ [] = ap (λ (m : Imported). m.entries) (grown f.imported instances.Actual s.name target missing) in
    let as_many : length (entries ++ entry ∷ []) ≡ length entries + 1 = length-append entries (entry ∷ []) in
    let own : IsEarlier (suc place) entry = record { number = place; below = omega arith; actual = refl; named = numbered.0; type = type_index f.types (type_of_shim s); function = refl } in
    let more = fixed_by g (suc place) ss numbered.1 (omega arith) (ap (λ l. length l) after ∙ (omega (arith, as_many, count)))
    (subst (λ l. AllByRecursion (IsEarlier (suc place)) l) (sym after)
    (AllByRecursion-push (IsEarlier (suc place)) entries entry (AllByRecursion-weaker (still_earlier place) entries earlier) own)) in
    let index : import_index f.imported instances.Actual s.name target ≡ place =
    ap (λ l. count_of kinds.Func l) (all_before (is_named (codes "actual") s.name) entries missing) ∙ all_functions place entries earlier ∙ count in
    let next : suc place ≡ place + 1 = omega arith in
    let last : suc place + length ss ≡ place + length (s ∷ ss) = omega arith in
    record {
      types = more.types;
      entries = more.entries ∙ ap (λ l. l ++ imports_of (interned f.types (type_of_shim s)) ss) after ∙ append_assoc entries (entry ∷ []) (imports_of (interned f.types (type_of_shim s)) ss);
      fills = more.fills
          ∙ append_assoc f.fills (import_index f.imported instances.Actual s.name target ∷ []) (range_with_len (suc place) (length ss))
          ∙ ap (λ n. f.fills ++ n ∷ range_with_len (suc place) (length ss)) index
          ∙ ap (λ n. f.fills ++ place ∷ range_with_len n (length ss)) next;
      earlier = subst (λ n. AllByRecursion (IsEarlier n) (fixup_with g ss).imported.entries) last more.earlier;
      calls = more.calls;
    }

-- ---- the whole

-- as many are imported as there are shims
imports_counted : (types : List FuncType) (shims : List Shim) → length (imports_of types shims) ≡ length shims
imports_counted types [] = refl
imports_counted types (s ∷ ss) = ap suc (imports_counted (interned types (type_of_shim s)) ss)

-- the function with which main is initialized, where it has one
abbrev pub types_with_call : List FuncType → Option (List ℕ) → List FuncType
types_with_call types None = types
types_with_call types (Some name) = interned types thunk

abbrev pub call_imports : List FuncType → Option (List ℕ) → List Import
call_imports types None = []
call_imports types (Some name) = entry_of instances.Main name (thunk_item types) ∷ []

abbrev pub call_indices : ℕ → Option (List ℕ) → List ℕ
call_indices index None = []
call_indices index (Some name) = index ∷ []

-- the table of the shims, where there are any
abbrev pub table_imports : List Shim → List Import
table_imports [] = []
table_imports (s ∷ ss) = entry_of instances.Shim table_name (entities.Table (table_of_shims (length (s ∷ ss)))) ∷ []

-- what the fixup of these shims and this function is
pub record IsFixupOf (shims : List Shim) (initialize : Option (List ℕ)) (f : Fixup) : Type 0 where
  pub types : f.types ≡ types_with_call (types_with [] shims) initialize
  pub fills : f.fills ≡ range_with_len 0 (length shims)
  pub entries : (all_imported f).entries ≡ imports_of [] shims ++ (call_imports (types_with [] shims) initialize ++ table_imports shims)
  pub instances : (all_imported f).instances ≡ fixup_instances shims initialize
  pub table : (shims ≡ [] → ⊥) → table_index f ≡ 0
  pub calls : f.calls ≡ call_indices (length shims) initialize

-- the imports before the table, of which none is it
record IsBeforeTable (m : Imported) : Type 0 where
  lacks : list_any (is_named (codes "shim") table_name) m.entries ≡ false
  none : count_of kinds.Table m.entries ≡ 0

-- the table is the last of them
with_last : (f : Fixup) (count : ℕ) → IsBeforeTable f.imported → f.fills ≡ range_with_len 0 (suc count) →
    all_imported f ≡ record { instances = with_first bytes_eq f.imported.instances (codes "shim") instances.Shim; entries = f.imported.entries ++ entry_of instances.Shim table_name (entities.Table (table_of_shims (suc count))) ∷ [] }
with_last f count h fills =
    let grown_by : ℕ → Imported = λ n. record { instances = with_first bytes_eq f.imported.instances (codes "shim") instances.Shim; entries = f.imported.entries ++ entry_of instances.Shim table_name (entities.Table (table_of_shims n)) ∷ [] } in
    ap (λ (l : List ℕ). if_none l f.imported (with_table f)) fills
    ∙ grown f.imported instances.Shim table_name (shim_table f) h.lacks
    ∙ ap grown_by (ap (λ (l : List ℕ). length l) fills ∙ length-range_with_len 0 (suc count))

module _ (s : Shim) (ss : List Shim) (numbered : AreNumbered 0 (s ∷ ss)) (room : length (s ∷ ss) < 2 ^ 32) where
  shims : List Shim
  shims = s ∷ ss

  types : List FuncType
  types = types_with [] (s ∷ ss)

  f : Fixup
  f = fixup_with nothing_fixed (s ∷ ss)

  fixed : IsFixed nothing_fixed 0 (s ∷ ss) (fixup_with nothing_fixed (s ∷ ss))
  fixed = fixed_by nothing_fixed 0 (s ∷ ss) numbered (omega (arith, room)) refl tt

  earlier : AllByRecursion (IsEarlier (0 + length (s ∷ ss))) (fixup_with nothing_fixed (s ∷ ss)).imported.entries
  earlier = fixed.earlier

  from_actual : (fixup_with nothing_fixed (s ∷ ss)).imported.instances ≡ (codes "actual", instances.Actual) ∷ []
  from_actual = (of_actual s ss).instances

  before_table : IsBeforeTable (fixup_with nothing_fixed (s ∷ ss)).imported
  before_table = record { lacks = lacks_table (0 + length (s ∷ ss)) _ earlier; none = no_tables (0 + length (s ∷ ss)) _ earlier }

  without_call : IsFixupOf (s ∷ ss) None (fixup_with nothing_fixed (s ∷ ss))
  unfolding fixed
  without_call =
      let g : Fixup = fixup_with nothing_fixed (s ∷ ss) in
      let all = with_last g (length ss) before_table fixed.fills in
      record {
        types = fixed.types;
        fills = fixed.fills;
        entries = ap (λ (m : Imported). m.entries) all ∙ ap (λ l. l ++ table_imports (s ∷ ss)) fixed.entries;
        instances = ap (λ (m : Imported). m.instances) all ∙ ap (λ (l : List (List ℕ × ImportedInstance)). with_first bytes_eq l (codes "shim") instances.Shim) from_actual;
        table = λ any. ap (λ l. count_of kinds.Table l) (all_before (is_named (codes "shim") table_name) g.imported.entries before_table.lacks) ∙ before_table.none;
        calls = fixed.calls;
      }

  with_initialization : (name : List ℕ) → IsFixupOf (s ∷ ss) (Some name) (with_initialize (fixup_with nothing_fixed (s ∷ ss)) name)
  with_initialization name =
      let g : Fixup = fixup_with nothing_fixed (s ∷ ss) in
      let h : Fixup = with_initialize g name in
      let entries : List Import = g.imported.entries in
      let entry : Import = entry_of instances.Main name (thunk_item g.types) in
      let missing : list_any (is_named (codes "main") name) entries ≡ false = lacks_main (0 + length (s ∷ ss)) name entries earlier in
      let more : h.imported ≡ record { instances = with_first bytes_eq g.imported.instances (codes "main") instances.Main; entries = entries ++ entry ∷ [] } =
      grown g.imported instances.Main name (thunk_item g.types) missing in
      let before : IsBeforeTable h.imported = subst IsBeforeTable (sym more) (record {
        lacks = lacks_pushed (is_named (codes "shim") table_name) entries entry before_table.lacks refl;
        none = tables_pushed entries entry before_table.none refl;
      }) in
      let all = with_last h (length ss) before fixed.fills in
      let counted : length entries ≡ length (s ∷ ss) = ap (λ l. length l) fixed.entries ∙ imports_counted [] (s ∷ ss) in
      record {
        types = ap (λ l. interned l thunk) fixed.types;
        fills = fixed.fills;
        entries =
            ap (λ (m : Imported). m.entries) all
            ∙ ap (λ (m : Imported). m.entries ++ table_imports (s ∷ ss)) more
            ∙ append_assoc entries (entry ∷ []) (table_imports (s ∷ ss))
            ∙ ap (λ l. l ++ (entry ∷ table_imports (s ∷ ss))) fixed.entries
            ∙ ap (λ l. imports_of [] (s ∷ ss) ++ (entry_of instances.Main name (thunk_item l) ∷ table_imports (s ∷ ss))) fixed.types;
        instances =
            ap (λ (m : Imported). m.instances) all
            ∙ ap (λ (m : Imported). with_first bytes_eq m.instances (codes "shim") instances.Shim) more
            ∙ ap (λ (l : List (List ℕ × ImportedInstance)). with_first bytes_eq (with_first bytes_eq l (codes "main") instances.Main) (codes "shim") instances.Shim) from_actual;
        table = λ any. ap (λ l. count_of kinds.Table l) (all_before (is_named (codes "shim") table_name) h.imported.entries before.lacks) ∙ before.none;
        calls =
            ap (λ l. l ++ import_index g.imported instances.Main name (thunk_item g.types) ∷ []) fixed.calls
            ∙ ap (λ n. n ∷ []) (ap (λ l. count_of kinds.Func l) (all_before (is_named (codes "main") name) entries missing) ∙ all_functions (0 + length (s ∷ ss)) entries earlier ∙ counted);
      }

pub fixup_is : (shims : List Shim) (initialize : Option (List ℕ)) → AreNumbered 0 shims → length shims < 2 ^ 32 → IsFixupOf shims initialize (fixup_of shims initialize)
fixup_is [] None numbered room = record { types = refl; fills = refl; entries = refl; instances = refl; table = λ any. absurd (any refl); calls = refl }
fixup_is [] (Some name) numbered room = record { types = refl; fills = refl; entries = refl; instances = refl; table = λ any. absurd (any refl); calls = refl }
fixup_is (s ∷ ss) None numbered room = without_call s ss numbered room
fixup_is (s ∷ ss) (Some name) numbered room = with_initialization s ss numbered room name
