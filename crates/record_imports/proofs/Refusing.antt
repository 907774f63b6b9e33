-- When core imports are refused: the definition refuses exactly where a cause holds.
use Rattle.std.proofs.Common.{◌≡◌, inl, inr, ℕ, Bool, true, false, List, [], ◌∷◌, ◌++◌, Option, Some, None, Result, Ok, Err, refl, sym, ap, subst, ◌∙◌, append_assoc, arith, true≢false}
use Rattle.std.specs.Prelude.{⊤, ◌≢◌, ok_or, is_some, option_map, Contains, if◌then◌else◌}
use Rattle.std.specs.List.{AllByRecursion, flat_map}
use Rattle.std.specs.Option.{option_and_then}
use Rattle.std.proofs.lemmas.List.Elements.{Contains-append_right}
use Rattle.std.proofs.lemmas.Option.{none-some}
use Rattle.comp_lists.specs.Found.{found}
use Rattle.comp_lists.proofs.Lists.{AllByRecursion-contains}
use Rattle.core_types.specs.declared.types.MemoryType.{MemoryType}
use Rattle.core_sections.specs.declared.core_module.CoreModule.{CoreModule}
use Rattle.core_sections.specs.declared.entries.CoreImport.{CoreImport}
use Rattle.comp_roles.specs.CoreImports.{CoreImport as CoreUse, imports_from}
use Rattle.comp_roles.specs.Lookups.{imported_memory, memory_of_import}
use Rattle.comp_roles.specs.declared.imports.Import.{Import}
use Rattle.comp_roles.specs.declared.imports.Import.TheVariants as imports
use Rattle.comp_roles.specs.declared.imports.ImportInstance.{ImportInstance}
use Rattle.comp_roles.specs.declared.libraries.Instance.{Instance}
use Rattle.comp_roles.specs.declared.libraries.Instance.TheVariants as instances
use Rattle.comp_roles.specs.declared.libraries.Item.{Item}
use Rattle.comp_roles.specs.declared.offered.ExternType.{ExternType}
use Rattle.record_values.specs.declared.roles.ImportRole.{ImportRole}
use Rattle.record_values.specs.declared.roles.ImportRole.TheVariants as roles
use Rattle.record_resolve.specs.declared.resolving.Resolved.{Resolved}
use Rattle.record_role_targets.specs.Imports.{resolved_import}
use Rattle.record_core_types.specs.Fitting.{fits_import}
use Rattle.record_core_types.specs.Offered.{extern_type}
use Rattle.record_faults.specs.declared.fault.Failure.{Failure}
use Rattle.record_faults.specs.declared.fault.Failure.TheVariants as failures
use Rattle.record_faults.specs.declared.fault.Refusal.{Refusal}
use Rattle.record_faults.specs.declared.fault.Refusal.TheVariants as refusals
use Rattle.record_faults.specs.Faults.{◌>>=◌}
use Rattle.record_faults.proofs.Chains.{refused, same_refusal, bind_ok, bind_err, missed, got, failed}
use Rattle.record_imports.specs.declared.grouping.Group.{Group}
use Rattle.record_imports.specs.declared.others.OtherModules.{OtherModules}
use Rattle.record_imports.specs.Others.{is_unknown}
use Rattle.record_imports.specs.Arguments.{Arguments, argument_for, item_under}
use Rattle.record_imports.specs.Meaning.{Roles, world_id, role_of, unless_unknown, known_role, target, no_role as missing_role, unfit as unfit_type, meaningless, fitting, by_record, by_argument, by_either, import_of}
use Rattle.record_imports.specs.Grouping.{fields_in, with_field, imported_twice, group_after, groups_after, instances_of}
use Rattle.record_imports.specs.Memories.{fits_memory, takes, unfit_memory as refused_memory, all_take, all_take_first, memories_fit}
use Rattle.record_imports.specs.Importing.{imports_of}
use Rattle.record_imports.specs.Causes.{ImportCause, twice, untyped, no_item, no_role, of_other, nothing_there, of_another_kind, unfit, MemoryCause, unfit_memory}
use Rattle.record_imports.proofs.Checking.{is_known, PassesRecord, PassesArgument, PassesEither, Passes, after_type, after_role, import_passes}
use Rattle.record_imports.proofs.Fields.{with_field_cases, with_field_keeps, with_field_adds}

-- an element in the middle
middle : {X : Type 0} (xs ys : List X) (x : X) → Contains (xs ++ x ∷ ys) x
middle xs ys x = Contains-append_right xs (x ∷ ys) x (0, omega arith, refl)

same_some : {A : Type 0} (o : Option A) (x y : A) → o ≡ Some x → o ≡ Some y → x ≡ y
same_some o x y a b = cc

-- ---- memories

-- a memory among the imports doesn't fit, and its field is reported
record Unfit (first : MemoryType) (is : List CoreUse) (f : Refusal) : Type 0 where
  i : CoreUse
  ty : MemoryType
  there : Contains is i
  asks : i.role ≡ imports.MainModuleMemory ty
  unfits : fits_memory first ty ≡ false
  reported : refusals.CoreType i.field ≡ f

asked : (first : MemoryType) (role : Import) → takes first (memory_of_import role) ≡ false → (ty : MemoryType) × (role ≡ imports.MainModuleMemory ty) × (fits_memory first ty ≡ false)
asked first (imports.MainModuleMemory ty) h = (ty, refl, h)
asked first role h = absurd (true≢false h)

take_refused : (first : MemoryType) (is : List CoreUse) (f : Refusal) → all_take first is ≡ refused f → Unfit first is f
take_refused first [] f e = absurd cc
take_refused first (i ∷ is) f e = by (takes first (memory_of_import i.role)) refl e (λ later. take_refused first is f later)
  where
    by : (b : Bool) → takes first (memory_of_import i.role) ≡ b → (if b then all_take first is else Err (refused_memory i.field)) ≡ refused f → (all_take first is ≡ refused f → Unfit first is f) → Unfit first (i ∷ is) f
    by true h e more =
        let u = more e in
        record { i = u.i; ty = u.ty; there = Contains-append_right (i ∷ []) is u.i u.there; asks = u.asks; unfits = u.unfits; reported = u.reported }
    by false h e more =
        let a = asked first i.role h in
        record { i = i; ty = a.0; there = middle [] is i; asks = a.1; unfits = a.2; reported = cc (e) }

all_taken : (first : MemoryType) (is : List CoreUse) (u : ⊤) → all_take first is ≡ Ok u → AllByRecursion (λ i. takes first (memory_of_import i.role) ≡ true) is
all_taken first [] u e = tt
all_taken first (i ∷ is) u e = by (takes first (memory_of_import i.role)) refl e (λ later. all_taken first is u later)
  where
    by : (b : Bool) → takes first (memory_of_import i.role) ≡ b → (if b then all_take first is else Err (refused_memory i.field)) ≡ Ok u → (all_take first is ≡ Ok u → AllByRecursion (λ i. takes first (memory_of_import i.role) ≡ true) is)
        → AllByRecursion (λ i. takes first (memory_of_import i.role) ≡ true) (i ∷ is)
    by true h e more = (h, more e)
    by false h e more = absurd cc

-- the first memory doesn't fit one that is imported
record UnfitAmong (modules : List (List ℕ × ImportInstance)) (f : Refusal) : Type 0 where
  first : MemoryType
  is_first : imported_memory modules ≡ Some first
  unfit_one : Unfit first (flat_map imports_from modules) f

memories_refused : (modules : List (List ℕ × ImportInstance)) (f : Refusal) → memories_fit modules ≡ refused f → UnfitAmong modules f
unfolding memories_fit
memories_refused modules f e = by (imported_memory modules) refl e
  where
    by : (o : Option MemoryType) → imported_memory modules ≡ o → all_take_first o (flat_map imports_from modules) ≡ refused f → UnfitAmong modules f
    by None is e = absurd cc
    by (Some first) is e = record { first = first; is_first = is; unfit_one = take_refused first (flat_map imports_from modules) f e }

memory_taken : (modules : List (List ℕ × ImportInstance)) (u : ⊤) (first ty : MemoryType) (i : CoreUse) → memories_fit modules ≡ Ok u → imported_memory modules ≡ Some first
    → Contains (flat_map imports_from modules) i → i.role ≡ imports.MainModuleMemory ty → fits_memory first ty ≡ true
unfolding memories_fit
memory_taken modules u first ty i e is there asks =
    let taken : all_take first (flat_map imports_from modules) ≡ Ok u = ap (λ (o : Option MemoryType). all_take_first o (flat_map imports_from modules)) (sym is) ∙ e in
    let this = AllByRecursion-contains (λ x. takes first (memory_of_import x.role) ≡ true) (flat_map imports_from modules) i (all_taken first (flat_map imports_from modules) u taken) there in
    ap (λ (x : Import). takes first (memory_of_import x)) (sym asks) ∙ this

-- the failure that is returned, where it isn't out of memory
refusal_of : (modules : List (List ℕ × ImportInstance)) (e : Failure) (f : Refusal) → e ≡ failures.Refused f → (e ≢ failures.Memory → memories_fit modules ≡ Err e) → memories_fit modules ≡ refused f
refusal_of modules failures.Memory f is h = absurd cc
refusal_of modules (failures.Refused x) f is h = h (λ m. cc) ∙ ap (λ (y : Failure). Err y) is

-- a memory that is refused has its cause
pub has_memory_cause : (modules : List (List ℕ × ImportInstance)) (e : Failure) → (e ≢ failures.Memory → memories_fit modules ≡ Err e) → (f : Refusal) → e ≡ failures.Refused f → MemoryCause modules f
has_memory_cause modules e h f is =
    let u = memories_refused modules f (refusal_of modules e f is h) in
    let one = u.unfit_one in
    subst (λ (x : Refusal). MemoryCause modules x) one.reported (unfit_memory u.first one.ty one.i u.is_first one.there one.asks one.unfits)

-- memories that pass have none
pub no_memory_cause : (modules : List (List ℕ × ImportInstance)) (u : ⊤) → memories_fit modules ≡ Ok u → (f : Refusal) → MemoryCause modules f → ⊥
no_memory_cause modules u fit f (unfit_memory first ty i is_first there asks unfits) = true≢false (sym (memory_taken modules u first ty i fit is_first there asks) ∙ unfits)

module _ (r : Resolved) (others : OtherModules) (arguments : Arguments) (table : Roles) (core : CoreModule) where
  -- ---- one import

  abbrev NoArgument : CoreImport → Type 0
  NoArgument i = argument_for arguments i.«module» ≡ None

  abbrev Caused : Refusal → Type 0
  Caused f = ImportCause r others arguments table core f

  caused : (f g : Refusal) → failures.Refused f ≡ failures.Refused g → Caused f → Caused g
  caused f g same c = subst (λ (x : Refusal). ImportCause r others arguments table core x) (same_refusal f g same) c

  no_target : (i : CoreImport) (role : ImportRole) (ty : ExternType) (f : Refusal) → Contains core.imports i → NoArgument i → extern_type core i.entity ≡ Some ty → role_of table i ≡ Some role
      → target r i role ty ≡ None → meaningless i role ≡ failures.Refused f → Caused f
  no_target i roles.Memory ty f c argued typed has none reported =
      let none' : resolved_import r i.field roles.Memory (extern_type core i.entity) ≡ None = ap (resolved_import r i.field roles.Memory) typed ∙ none in
      caused (refusals.CoreType i.field) f reported (of_another_kind i roles.Memory c argued has refl none')
  no_target i (roles.AdapterExport adapter name) ty f c argued typed has none reported =
      let role : ImportRole = roles.AdapterExport adapter name in
      let none' : resolved_import r i.field role (extern_type core i.entity) ≡ None = ap (resolved_import r i.field role) typed ∙ none in
      caused (refusals.CoreType i.field) f reported (of_another_kind i role c argued has refl none')
  no_target i role ty f c argued typed has none reported =
      let none' : resolved_import r i.field role (extern_type core i.entity) ≡ None = ap (resolved_import r i.field role) typed ∙ none in
      caused (refusals.RoleMissing i.«module» i.field) f reported (nothing_there i role c argued has refl none')

  -- an import without a role, or with one that is not known
  unknown : (i : CoreImport) → Contains core.imports i → NoArgument i → (o : Option ImportRole) → role_of table i ≡ o → option_and_then (unless_unknown others) o ≡ None → Caused (refusals.RoleMissing i.«module» i.field)
  unknown i c argued None is none = no_role i c argued is
  unknown i c argued (Some role) is none = by (is_unknown others role) refl none
    where
      by : (b : Bool) → is_unknown others role ≡ b → (if b then None else Some role) ≡ None → Caused (refusals.RoleMissing i.«module» i.field)
      by true other e = of_other i role c argued is other
      by false other e = absurd cc

  record_refused : (i : CoreImport) (ty : ExternType) (f : Refusal) → Contains core.imports i → NoArgument i → extern_type core i.entity ≡ Some ty → by_record r others table core i ty ≡ refused f → Caused f
  unfolding by_record
  record_refused i ty f c argued typed e =
      elim (bind_err (ok_or (known_role others table i) (missing_role i)) (after_role r core i ty) (failures.Refused f) e) [
        | inl h ↦
            let n = missed (known_role others table i) (missing_role i) (failures.Refused f) h in
            caused (refusals.RoleMissing i.«module» i.field) f n.1 (unknown i c argued (role_of table i) refl n.0)
        | inr b ↦
            let known = is_known others b.0 (role_of table i) (got (known_role others table i) (missing_role i) b.0 b.1) in
            let has = known.0 in
            elim (bind_err (ok_or (target r i b.0 ty) (meaningless i b.0)) (fitting r core i) (failures.Refused f) b.2) [
              | inl h ↦
                  let n = missed (target r i b.0 ty) (meaningless i b.0) (failures.Refused f) h in
                  no_target i b.0 ty f c argued typed has n.0 n.1
              | inr d ↦
                  let n = failed (fits_import r.resolve world_id core d.0 i.entity) d.0 (unfit_type i) (failures.Refused f) d.2 in
                  let means : resolved_import r i.field b.0 (extern_type core i.entity) ≡ Some d.0 = ap (resolved_import r i.field b.0) typed ∙ got (target r i b.0 ty) (meaningless i b.0) d.0 d.1 in
                  caused (refusals.CoreType i.field) f n.1 (unfit i b.0 d.0 c argued has means n.0)
            ]
      ]

  -- an argument that has no item for an import
  argument_refused : (i : CoreImport) (ty : ExternType) (f : Refusal) → Contains core.imports i → (instance : Instance) → argument_for arguments i.«module» ≡ Some instance → by_argument i ty instance ≡ refused f → Caused f
  argument_refused i ty f c (instances.MainOrAdapter which) is e = absurd cc
  argument_refused i ty f c (instances.Items items) is e = by (item_under items i.field) refl (missed (option_map imports.Item (item_under items i.field)) (missing_role i) (failures.Refused f) e)
    where
      by : (o : Option Item) → item_under items i.field ≡ o → (option_map imports.Item o ≡ None) × (missing_role i ≡ failures.Refused f) → Caused f
      by None none h = caused (refusals.RoleMissing i.«module» i.field) f h.1 (no_item i items c is none)
      by (Some item) some h = absurd (none-some (imports.Item item) (sym h.0))

  either_refused : (i : CoreImport) (ty : ExternType) (f : Refusal) → Contains core.imports i → extern_type core i.entity ≡ Some ty → (argument : Option Instance) → argument_for arguments i.«module» ≡ argument
      → by_either r others table core i ty argument ≡ refused f → Caused f
  either_refused i ty f c typed None is e = record_refused i ty f c is typed e
  either_refused i ty f c typed (Some instance) is e = argument_refused i ty f c instance is e

  import_refused : (i : CoreImport) (f : Refusal) → Contains core.imports i → import_of r others arguments table core i ≡ refused f → Caused f
  unfolding import_of
  import_refused i f c e =
      elim (bind_err (ok_or (extern_type core i.entity) (unfit_type i)) (after_type r others arguments table core i) (failures.Refused f) e) [
        | inl h ↦
            let n = missed (extern_type core i.entity) (unfit_type i) (failures.Refused f) h in
            caused (refusals.CoreType i.field) f n.1 (untyped i c n.0)
        | inr a ↦ either_refused i a.0 f c (got (extern_type core i.entity) (unfit_type i) a.0 a.1) (argument_for arguments i.«module») refl a.2
      ]

  -- ---- groups

  -- what a group that was made has for its last import
  record Made (gs gs' : List Group) (i : CoreImport) : Type 0 where
    import : Import
    of : import_of r others arguments table core i ≡ Ok import
    are : gs' ≡ with_field gs i.«module» i.field import
    lacked : is_some (found i.field (fields_in gs i.«module»)) ≡ false

  group_made : (gs gs' : List Group) (i : CoreImport) → group_after r others arguments table core gs i ≡ Ok gs' → Made gs gs' i
  unfolding group_after
  group_made gs gs' i e = by (is_some (found i.field (fields_in gs i.«module»))) refl e
    where
      by : (b : Bool) → is_some (found i.field (fields_in gs i.«module»)) ≡ b →
          (if b then Err (imported_twice i) else (import_of r others arguments table core i >>= λ import. Ok (with_field gs i.«module» i.field import))) ≡ Ok gs' → Made gs gs' i
      by true h e = absurd cc
      by false h e =
          let a = bind_ok (import_of r others arguments table core i) (λ import. Ok (with_field gs i.«module» i.field import)) gs' e in
          let same : gs' ≡ with_field gs i.«module» i.field a.0 = cc (a.2) in
          record { import = a.0; of = a.1; are = same; lacked = h }

  -- an import that was grouped has this module and field
  record Mention (seen : List CoreImport) (m f : List ℕ) : Type 0 where
    before : List CoreImport
    i : CoreImport
    between : List CoreImport
    is : seen ≡ before ++ i ∷ between
    module_is : i.«module» ≡ m
    field_is : i.field ≡ f

  abbrev Seen : List CoreImport → List Group → Type 0
  Seen seen gs = (m f : List ℕ) → is_some (found f (fields_in gs m)) ≡ true → Mention seen m f

  seen_more : (seen : List CoreImport) (gs gs' : List Group) (i : CoreImport) (import : Import) → Seen seen gs → gs' ≡ with_field gs i.«module» i.field import → Seen (seen ++ i ∷ []) gs'
  seen_more seen gs gs' i import h made m f there =
      let there' : is_some (found f (fields_in (with_field gs i.«module» i.field import) m)) ≡ true = ap (λ (x : List Group). is_some (found f (fields_in x m))) (sym made) ∙ there in
      elim (with_field_cases gs m f i.«module» i.field import there') [
        | inl k ↦
            let n = h m f k in
            record {
              before = n.before;
              i = n.i;
              between = n.between ++ i ∷ [];
              is = ap (λ (x : List CoreImport). x ++ i ∷ []) n.is ∙ append_assoc n.before (n.i ∷ n.between) (i ∷ []);
              module_is = n.module_is;
              field_is = n.field_is;
            }
        | inr k ↦ record { before = seen; i = i; between = []; is = refl; module_is = k.0; field_is = k.1 }
      ]

  group_refused : (seen after : List CoreImport) (gs : List Group) (i : CoreImport) (f : Refusal) → core.imports ≡ seen ++ i ∷ after → Seen seen gs
      → group_after r others arguments table core gs i ≡ refused f → ImportCause r others arguments table core f
  unfolding group_after
  group_refused seen after gs i f split h e = by (is_some (found i.field (fields_in gs i.«module»))) refl e
    where
      by : (b : Bool) → is_some (found i.field (fields_in gs i.«module»)) ≡ b
          → (if b then Err (imported_twice i) else (import_of r others arguments table core i >>= λ import. Ok (with_field gs i.«module» i.field import))) ≡ refused f
          → ImportCause r others arguments table core f
      by true there e =
          let n = h i.«module» i.field there in
          let is_f : refusals.ImportTwice i.«module» i.field ≡ f = cc (e) in
          let whole : core.imports ≡ n.before ++ n.i ∷ n.between ++ i ∷ after = split ∙ ap (λ (x : List CoreImport). x ++ i ∷ after) n.is in
          subst (λ (x : Refusal). ImportCause r others arguments table core x) is_f (twice n.i i n.before n.between after whole n.module_is n.field_is)
      by false there e =
          elim (bind_err (import_of r others arguments table core i) (λ import. Ok (with_field gs i.«module» i.field import)) (failures.Refused f) e) [
            | inl k ↦ import_refused i f (subst (λ (xs : List CoreImport). Contains xs i) (sym split) (middle seen after i)) k
            | inr k ↦ absurd cc
          ]

  groups_refused : (seen is : List CoreImport) (gs : List Group) (f : Refusal) → core.imports ≡ seen ++ is → Seen seen gs → groups_after r others arguments table core gs is ≡ refused f → ImportCause r others arguments table core f
  groups_refused seen [] gs f split h e = absurd cc
  groups_refused seen (i ∷ is) gs f split h e =
      elim (bind_err (group_after r others arguments table core gs i) (λ x. groups_after r others arguments table core x is) (failures.Refused f) e) [
        | inl k ↦ group_refused seen is gs i f split h k
        | inr a ↦
            let made = group_made gs a.0 i a.1 in
            groups_refused (seen ++ i ∷ []) is a.0 f (split ∙ sym (append_assoc seen (i ∷ []) is)) (seen_more seen gs a.0 i made.import h made.are) a.2
      ]

  -- where the groups are returned, each import passes, and none occurs twice
  record Passed (i : CoreImport) : Type 0 where
    import : Import
    passes : Passes r others arguments table core i import

  each_passes : (gs gs' : List Group) (is : List CoreImport) → groups_after r others arguments table core gs is ≡ Ok gs' → AllByRecursion Passed is
  each_passes gs gs' [] e = tt
  each_passes gs gs' (i ∷ is) e =
      let a = bind_ok (group_after r others arguments table core gs i) (λ x. groups_after r others arguments table core x is) gs' e in
      let made = group_made gs a.0 i a.1 in
      (record { import = made.import; passes = import_passes r others arguments table core i made.import made.of }, each_passes a.0 gs' is a.2)

  no_second : (gs gs' : List Group) (between after : List CoreImport) (j : CoreImport) (m f : List ℕ) → m ≡ j.«module» → f ≡ j.field
      → is_some (found f (fields_in gs m)) ≡ true → groups_after r others arguments table core gs (between ++ j ∷ after) ≡ Ok gs' → ⊥
  no_second gs gs' [] after j m f m_is f_is there e =
      let a = bind_ok (group_after r others arguments table core gs j) (λ x. groups_after r others arguments table core x after) gs' e in
      let made = group_made gs a.0 j a.1 in
      let here : is_some (found j.field (fields_in gs j.«module»)) ≡ true = ap (λ (x : List ℕ). is_some (found x (fields_in gs j.«module»))) (sym f_is) ∙ ap (λ (x : List ℕ). is_some (found f (fields_in gs x))) (sym m_is) ∙ there in
      true≢false (sym here ∙ made.lacked)
  no_second gs gs' (i ∷ between) after j m f m_is f_is there e =
      let a = bind_ok (group_after r others arguments table core gs i) (λ x. groups_after r others arguments table core x (between ++ j ∷ after)) gs' e in
      let made = group_made gs a.0 i a.1 in
      let still : is_some (found f (fields_in a.0 m)) ≡ true = ap (λ (x : List Group). is_some (found f (fields_in x m))) made.are ∙ with_field_keeps gs m f i.«module» i.field made.import there in
      no_second a.0 gs' between after j m f m_is f_is still a.2

  no_twice : (gs gs' : List Group) (before between after : List CoreImport) (i j : CoreImport) → i.«module» ≡ j.«module» → i.field ≡ j.field
      → groups_after r others arguments table core gs (before ++ (i ∷ (between ++ j ∷ after))) ≡ Ok gs' → ⊥
  no_twice gs gs' [] between after i j m_is f_is e =
      let a = bind_ok (group_after r others arguments table core gs i) (λ x. groups_after r others arguments table core x (between ++ j ∷ after)) gs' e in
      let made = group_made gs a.0 i a.1 in
      let there : is_some (found i.field (fields_in a.0 i.«module»)) ≡ true = ap (λ (x : List Group). is_some (found i.field (fields_in x i.«module»))) made.are ∙ with_field_adds gs i.«module» i.field made.import in
      no_second a.0 gs' between after j i.«module» i.field m_is f_is there a.2
  no_twice gs gs' (k ∷ before) between after i j m_is f_is e =
      let a = bind_ok (group_after r others arguments table core gs k) (λ x. groups_after r others arguments table core x (before ++ (i ∷ (between ++ j ∷ after)))) gs' e in
      no_twice a.0 gs' before between after i j m_is f_is a.2

  -- ---- all imports

  abbrev after_groups : List Group → Result (List (List ℕ × ImportInstance)) Failure
  after_groups groups = Ok (instances_of arguments groups)

  imports_refused : (f : Refusal) → imports_of r others arguments table core ≡ refused f → ImportCause r others arguments table core f
  unfolding imports_of
  imports_refused f e =
      elim (bind_err (groups_after r others arguments table core [] core.imports) after_groups (failures.Refused f) e) [
        | inl h ↦ groups_refused [] core.imports [] f refl (λ m n k. absurd (true≢false (sym k))) h
        | inr a ↦ absurd cc
      ]

  -- a refusal has its cause
  pub has_cause : (e : Failure) → (e ≢ failures.Memory → imports_of r others arguments table core ≡ Err e) → (f : Refusal) → e ≡ failures.Refused f → ImportCause r others arguments table core f
  has_cause e h f is = imports_refused f (of_refusal e is h)
    where
      of_refusal : (e : Failure) → e ≡ failures.Refused f → (e ≢ failures.Memory → imports_of r others arguments table core ≡ Err e) → imports_of r others arguments table core ≡ refused f
      of_refusal failures.Memory is h = absurd cc
      of_refusal (failures.Refused x) is h = h (λ m. cc) ∙ ap (λ (y : Failure). Err y) is

  record Answered (modules : List (List ℕ × ImportInstance)) : Type 0 where
    groups : List Group
    grouped : groups_after r others arguments table core [] core.imports ≡ Ok groups

  answered : (modules : List (List ℕ × ImportInstance)) → imports_of r others arguments table core ≡ Ok modules → Answered modules
  unfolding imports_of
  answered modules e =
      let a = bind_ok (groups_after r others arguments table core [] core.imports) after_groups modules e in
      record { groups = a.0; grouped = a.1 }

  passes_at : (modules : List (List ℕ × ImportInstance)) (i : CoreImport) → imports_of r others arguments table core ≡ Ok modules → Contains core.imports i → Passed i
  passes_at modules i e c =
      let p = answered modules e in
      AllByRecursion-contains Passed core.imports i (each_passes [] p.groups core.imports p.grouped) c

  -- the role of an import for whose module there is no argument
  by_role : (i : CoreImport) (import : Import) (p : Passes r others arguments table core i import) → NoArgument i → PassesRecord r others table core i import p.ty
  by_role i import p argued = subst (λ (o : Option Instance). PassesEither r others table core i import p.ty o) argued p.given

  -- where it has this one
  same_role : (i : CoreImport) (import : Import) (ty : ExternType) (p : PassesRecord r others table core i import ty) (role : ImportRole) → role_of table i ≡ Some role → p.role ≡ role
  same_role i import ty p role has = same_some (role_of table i) p.role role p.has has

  means_at : (i : CoreImport) (import : Import) (p : Passes r others arguments table core i import) (argued : NoArgument i) (role : ImportRole) → role_of table i ≡ Some role → resolved_import r i.field role (extern_type core i.entity) ≡ Some import
  means_at i import p argued role has =
      let q = by_role i import p argued in
      ap (λ (o : Option ExternType). resolved_import r i.field role o) p.typed ∙ ap (λ (x : ImportRole). resolved_import r i.field x (Some p.ty)) (sym (same_role i import p.ty q role has)) ∙ q.means

  -- imports that were returned have no cause of a refusal
  pub no_cause : (modules : List (List ℕ × ImportInstance)) → imports_of r others arguments table core ≡ Ok modules → (f : Refusal) → ImportCause r others arguments table core f → ⊥
  no_cause modules e f (twice i j before between after whole module_is field_is) =
      let p = answered modules e in
      let regrouped : core.imports ≡ before ++ (i ∷ (between ++ j ∷ after)) = whole ∙ append_assoc before (i ∷ between) (j ∷ after) in
      no_twice [] p.groups before between after i j module_is field_is (ap (groups_after r others arguments table core []) (sym regrouped) ∙ p.grouped)
  no_cause modules e f (untyped i c none) =
      let p = passes_at modules i e c in
      let q = p.passes in
      let clash : Some q.ty ≡ None = sym q.typed ∙ none in cc
  no_cause modules e f (no_item i items c is none) =
      let p = passes_at modules i e c in
      let q = p.passes in
      let given : PassesArgument i p.import q.ty (instances.Items items) = subst (λ (o : Option Instance). PassesEither r others table core i p.import q.ty o) is q.given in
      none-some given.item (sym none ∙ given.given)
  no_cause modules e f (no_role i c argued none) =
      let p = passes_at modules i e c in
      let q = by_role i p.import p.passes argued in
      let clash : Some q.role ≡ None = sym q.has ∙ none in cc
  no_cause modules e f (of_other i role c argued has other) =
      let p = passes_at modules i e c in
      let q = p.passes in
      let b = by_role i p.import q argued in
      true≢false (sym other ∙ ap (is_unknown others) (sym (same_role i p.import q.ty b role has)) ∙ b.known)
  no_cause modules e f (nothing_there i role c argued has other none) =
      let p = passes_at modules i e c in
      let clash : Some p.import ≡ None = sym (means_at i p.import p.passes argued role has) ∙ none in cc
  no_cause modules e f (of_another_kind i role c argued has kind none) =
      let p = passes_at modules i e c in
      let clash : Some p.import ≡ None = sym (means_at i p.import p.passes argued role has) ∙ none in cc
  no_cause modules e f (unfit i role import c argued has means unfits) =
      let p = passes_at modules i e c in
      let q = by_role i p.import p.passes argued in
      let same : p.import ≡ import = same_some (resolved_import r i.field role (extern_type core i.entity)) p.import import (means_at i p.import p.passes argued role has) means in
      true≢false (sym q.fits ∙ ap (λ (x : Import). fits_import r.resolve world_id core x i.entity) same ∙ unfits)
