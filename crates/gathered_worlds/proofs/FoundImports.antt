-- Each core import of a module, with the type that was found, has a role, which requires this type,
-- or is given a whole instance; and something is imported from each module that is named.
use Rattle.std.proofs.Common.{◌≡◌, ◌∙◌, ◌<◌, inl, inr, ℕ, Bool, true, false, cond, List, [], ◌∷◌, ◌++◌, Option, Some, None, Ok, Err, length, refl, sym, ap, subst, true≢false}
use Rattle.std.specs.Prelude.{Contains, get_or, is_some, option_map, if◌then◌else◌}
use Rattle.std.specs.List.{AllByRecursion, flat_map}
use Rattle.std.specs.Option.{option_and_then, option_to_list}
use Rattle.std.specs.Str.{bytes_eq}
use Rattle.std.proofs.lemmas.Option.{none-some}
use Rattle.std.proofs.lemmas.Slice.Eq.{bytes_eq-Decides}
use Rattle.comp_lists.specs.Found.{found}
use Rattle.comp_lists.proofs.Lists.{AllByRecursion-weaker, AllByRecursion-contains}
use Rattle.comp_lists.proofs.Lookups.{found-append}
use Rattle.core_sections.specs.declared.core_module.CoreModule.{CoreModule}
use Rattle.core_sections.specs.declared.entries.CoreImport.{CoreImport}
use Rattle.comp_roles.specs.CoreImports.{fields_of, role_at}
use Rattle.comp_roles.specs.declared.imports.Import.{Import}
use Rattle.comp_roles.specs.declared.imports.ImportInstance.{ImportInstance}
use Rattle.comp_roles.specs.declared.imports.ImportInstance.TheVariants as instances
use Rattle.comp_roles.specs.declared.libraries.Instance.{Instance}
use Rattle.comp_roles.specs.declared.libraries.Instance.TheVariants as given
use Rattle.comp_roles.specs.declared.libraries.MainOrAdapter.{MainOrAdapter}
use Rattle.comp_roles.specs.declared.offered.ExternType.{ExternType}
use Rattle.comp_roles.specs.declared.offered.ImportType.{ImportType}
use Rattle.comp_worlds.specs.Typed.{type_of_import}
use Rattle.comp_worlds.specs.declared.world.ValidatedModule.{ValidatedModule}
use Rattle.record_core_types.specs.Offered.{extern_type, import_type, imported}
use Rattle.record_faults.specs.Faults.{◌>>=◌}
use Rattle.record_faults.proofs.Chains.{bind_ok}
use Rattle.record_imports.specs.Arguments.{Arguments, argument_for, instance_given}
use Rattle.record_imports.specs.declared.others.OtherModules.{OtherModules}
use Rattle.record_imports.specs.Meaning.{Roles, import_of}
use Rattle.record_imports.specs.Grouping.{fields_in, with_field, imported_twice, group_after, groups_after, instances_of}
use Rattle.record_imports.specs.Importing.{imports_of}
use Rattle.record_imports.proofs.Checking.{PassesEither, Passes, import_passes}
use Rattle.record_merge.specs.declared.bindgen.Bindgen.{Bindgen}
use Rattle.record_resolve.specs.declared.resolving.Resolved.{Resolved}
use Rattle.supported_worlds.specs.Guarantees.{HasFoundImport, IsUsed}
use Rattle.supported_worlds.proofs.Lists.{at_front, after, in_flat_map}
use Rattle.wit_data.specs.declared.worlds.World.{World}
use Rattle.world_values.specs.Items.{no_items}
use Rattle.world_values.specs.declared.gathered.Part.{Part}
use Rattle.gathered_worlds.specs.declared.checking.CheckedRoles.{CheckedRoles}
use Rattle.gathered_worlds.specs.Preparing.{parts_of}
use Rattle.gathered_worlds.proofs.FoundTypes.{import_typed}

-- ---- fields of groups

-- a module's name with its fields, which `record_imports` doesn't name for others
abbrev item_of : {A B : Type 0} → (List A → B) → Type 0
item_of {A} {B} f = A

abbrev Group : Type 0
Group = item_of (instances_of [])

-- a new entry at the end is found
pub found_last : {X : Type 0} (name : List ℕ) (x : X) (es : List (List ℕ × X)) → is_some (found name es) ≡ false → found name (es ++ (name, x) ∷ []) ≡ Some x
found_last name x [] h = rw ((bytes_eq-Decides name name).1 refl) refl
found_last {X} name x (e ∷ es) h = by (bytes_eq name e.0) h (found_last name x es)
  where
    by : (b : Bool) → is_some (cond b (Some e.1) (found name es)) ≡ false → (is_some (found name es) ≡ false → found name (es ++ (name, x) ∷ []) ≡ Some x)
        → cond b (Some e.1) (found name (es ++ (name, x) ∷ [])) ≡ Some x
    by true h more = absurd (true≢false h)
    by false h more = more h

abbrev grown : Group → List ℕ → Import → Group
grown g f import = record { name = g.name; fields = g.fields ++ (f, import) ∷ [] }

-- the role of a field is kept when one more is added
field_kept : (gs : List Group) (m f m' f' : List ℕ) (import role : Import) → found f (fields_in gs m) ≡ Some role → found f (fields_in (with_field gs m' f' import) m) ≡ Some role
field_kept [] m f m' f' import role h = absurd (none-some role h)
field_kept (g ∷ gs) m f m' f' import role h = by (bytes_eq m' g.name) (λ more. field_kept gs m f m' f' import role more)
  where
    in_group : (c : Bool) → found f (if c then g.fields else fields_in gs m) ≡ Some role → found f (if c then g.fields ++ (f', import) ∷ [] else fields_in gs m) ≡ Some role
    in_group true h = found-append f g.fields ((f', import) ∷ []) role h
    in_group false h = h

    after_it : (c : Bool) → found f (if c then g.fields else fields_in gs m) ≡ Some role → (found f (fields_in gs m) ≡ Some role → found f (fields_in (with_field gs m' f' import) m) ≡ Some role)
        → found f (if c then g.fields else fields_in (with_field gs m' f' import) m) ≡ Some role
    after_it true h more = h
    after_it false h more = more h

    by : (b : Bool) → (found f (fields_in gs m) ≡ Some role → found f (fields_in (with_field gs m' f' import) m) ≡ Some role)
        → found f (fields_in (if b then grown g f' import ∷ gs else g ∷ with_field gs m' f' import) m) ≡ Some role
    by true more = in_group (bytes_eq m g.name) h
    by false more = after_it (bytes_eq m g.name) h more

-- a field that was added has its role, where it is new
field_added : (gs : List Group) (m f : List ℕ) (import : Import) → is_some (found f (fields_in gs m)) ≡ false → found f (fields_in (with_field gs m f import) m) ≡ Some import
field_added [] m f import h = rw ((bytes_eq-Decides m m).1 refl, (bytes_eq-Decides f f).1 refl) refl
field_added (g ∷ gs) m f import h = by (bytes_eq m g.name) refl h (λ more. field_added gs m f import more)
  where
    by : (b : Bool) → bytes_eq m g.name ≡ b → is_some (found f (if b then g.fields else fields_in gs m)) ≡ false
        → (is_some (found f (fields_in gs m)) ≡ false → found f (fields_in (with_field gs m f import) m) ≡ Some import)
        → found f (fields_in (if b then grown g f import ∷ gs else g ∷ with_field gs m f import) m) ≡ Some import
    by true is h more = rw is (found_last f import g.fields h)
    by false is h more = rw is (more h)

-- the imports from a module have roles, unless its argument is a whole instance
abbrev IsListed : Option Instance → Type 0
IsListed (Some (given.MainOrAdapter which)) = ⊥
IsListed argument = Unit {0}

are_listed : (argument : Option Instance) (fields : List (List ℕ × Import)) → IsListed argument → instance_given argument fields ≡ instances.Names fields
are_listed None fields h = refl
are_listed (Some (given.Items items)) fields h = refl
are_listed (Some (given.MainOrAdapter which)) fields h = absurd h

module _ (arguments : Arguments) where
  -- a role is looked up as a field of its module's group
  role_in : (gs : List Group) (m f : List ℕ) → IsListed (argument_for arguments m) → role_at (instances_of arguments gs) m f ≡ found f (fields_in gs m)
  role_in [] m f l = refl
  role_in (g ∷ gs) m f l = by (bytes_eq m g.name) refl (role_in gs m f l)
    where
      by : (b : Bool) → bytes_eq m g.name ≡ b → role_at (instances_of arguments gs) m f ≡ found f (fields_in gs m)
          → option_and_then (λ (i : ImportInstance). found f (fields_of i)) (cond b (Some (instance_given (argument_for arguments g.name) g.fields)) (found m (instances_of arguments gs))) ≡ found f (if b then g.fields else fields_in gs m)
      by true is h =
          ap (λ (i : ImportInstance). found f (fields_of i))
          (are_listed (argument_for arguments g.name) g.fields (subst (λ (n : List ℕ). IsListed (argument_for arguments n)) ((bytes_eq-Decides m g.name).0 is) l))
      by false is h = h

  -- and a module's group is its whole instance, where its argument is one
  whole_in : (gs : List Group) (m f : List ℕ) (role : Import) (which : MainOrAdapter) → argument_for arguments m ≡ Some (given.MainOrAdapter which) → found f (fields_in gs m) ≡ Some role
      → found m (instances_of arguments gs) ≡ Some (instances.Whole which)
  whole_in [] m f role which is h = absurd (none-some role h)
  whole_in (g ∷ gs) m f role which is h = by (bytes_eq m g.name) refl h (λ more. whole_in gs m f role which is more)
    where
      by : (b : Bool) → bytes_eq m g.name ≡ b → found f (if b then g.fields else fields_in gs m) ≡ Some role → (found f (fields_in gs m) ≡ Some role → found m (instances_of arguments gs) ≡ Some (instances.Whole which))
          → cond b (Some (instance_given (argument_for arguments g.name) g.fields)) (found m (instances_of arguments gs)) ≡ Some (instances.Whole which)
      by true same h more = ap (λ (o : Option Instance). Some (instance_given o g.fields)) (ap (argument_for arguments) (sym ((bytes_eq-Decides m g.name).0 same)) ∙ is)
      by false same h more = more h

-- something is imported from the module of a group, and of each
record HasImport (core : CoreModule) (g : Group) : Type 0 where
  i : CoreImport
  there : Contains core.imports i
  from : i.«module» ≡ g.name

abbrev AllFrom : CoreModule → List Group → Type 0
AllFrom core gs = AllByRecursion (λ g. HasImport core g) gs

all_in : {X : Type 0} (xs : List X) → AllByRecursion (λ x. Contains xs x) xs
all_in [] = tt
all_in (x ∷ xs) = (at_front x xs, AllByRecursion-weaker (λ y (c : Contains xs y). after x xs y c) xs (all_in xs))

-- ---- imports that were read

module _ (r : Resolved) (others : OtherModules) (arguments : Arguments) (table : Roles) (core : CoreModule) where
  -- the groups with one import more
  record Made (gs gs' : List Group) (i : CoreImport) : Type 0 where
    role : Import
    read : import_of r others arguments table core i ≡ Ok role
    are : gs' ≡ with_field gs i.«module» i.field role
    lacked : is_some (found i.field (fields_in gs i.«module»)) ≡ false

  group_made : (gs gs' : List Group) (i : CoreImport) → group_after r others arguments table core gs i ≡ Ok gs' → Made gs gs' i
  unfolding group_after
  group_made gs gs' i e = by (is_some (found i.field (fields_in gs i.«module»))) refl e
    where
      by : (b : Bool) → is_some (found i.field (fields_in gs i.«module»)) ≡ b
          → (if b then Err (imported_twice i) else (import_of r others arguments table core i >>= λ import. Ok (with_field gs i.«module» i.field import))) ≡ Ok gs' → Made gs gs' i
      by true h e = absurd cc
      by false h e =
          let a = bind_ok (import_of r others arguments table core i) (λ import. Ok (with_field gs i.«module» i.field import)) gs' e in
          let same : gs' ≡ with_field gs i.«module» i.field a.0 = cc (a.2) in
          record { role = a.0; read = a.1; are = same; lacked = h }

  abbrev IsAt : List Group → List ℕ → List ℕ → Import → Type 0
  IsAt gs m f role = found f (fields_in gs m) ≡ Some role

  all_kept : (is : List CoreImport) (gs gs' : List Group) (m f : List ℕ) (role : Import) → groups_after r others arguments table core gs is ≡ Ok gs' → IsAt gs m f role → IsAt gs' m f role
  all_kept [] gs gs' m f role e h = let same : gs ≡ gs' = cc (e) in subst (λ (x : List Group). IsAt x m f role) same h
  all_kept (i ∷ is) gs gs' m f role e h =
      let a = bind_ok (group_after r others arguments table core gs i) (λ x. groups_after r others arguments table core x is) gs' e in
      let made = group_made gs a.0 i a.1 in
      all_kept is a.0 gs' m f role a.2 (subst (λ (x : List Group). IsAt x m f role) (sym made.are) (field_kept gs m f i.«module» i.field made.role role h))

  -- an import has a role, and has a type that fits it
  record HasRole (gs : List Group) (i : CoreImport) : Type 0 where
    role : Import
    there : IsAt gs i.«module» i.field role
    passes : Passes r others arguments table core i role

  each_has : (is : List CoreImport) (gs gs' : List Group) → groups_after r others arguments table core gs is ≡ Ok gs' → AllByRecursion (HasRole gs') is
  each_has [] gs gs' e = tt
  each_has (i ∷ is) gs gs' e =
      let a = bind_ok (group_after r others arguments table core gs i) (λ x. groups_after r others arguments table core x is) gs' e in
      let made = group_made gs a.0 i a.1 in
      let now : IsAt a.0 i.«module» i.field made.role = subst (λ (x : List Group). IsAt x i.«module» i.field made.role) (sym made.are) (field_added gs i.«module» i.field made.role made.lacked) in
      (record { role = made.role; there = all_kept is a.0 gs' i.«module» i.field made.role a.2 now; passes = import_passes r others arguments table core i made.role made.read }, each_has is a.0 gs' a.2)

  one_from : (gs : List Group) (i : CoreImport) (role : Import) → Contains core.imports i → AllFrom core gs → AllFrom core (with_field gs i.«module» i.field role)
  one_from [] i role c h = (record { i = i; there = c; from = refl }, tt)
  one_from (g ∷ gs) i role c h = by (bytes_eq i.«module» g.name) (one_from gs i role c h.1)
    where
      by : (b : Bool) → AllFrom core (with_field gs i.«module» i.field role) → AllFrom core (if b then grown g i.field role ∷ gs else g ∷ with_field gs i.«module» i.field role)
      by true more = (let here = h.0 in record { i = here.i; there = here.there; from = here.from }, h.1)
      by false more = (h.0, more)

  all_from : (is : List CoreImport) (gs gs' : List Group) → AllByRecursion (λ i. Contains core.imports i) is → groups_after r others arguments table core gs is ≡ Ok gs' → AllFrom core gs → AllFrom core gs'
  all_from [] gs gs' c e h = let same : gs ≡ gs' = cc (e) in subst (λ (x : List Group). AllFrom core x) same h
  all_from (i ∷ is) gs gs' c e h =
      let a = bind_ok (group_after r others arguments table core gs i) (λ x. groups_after r others arguments table core x is) gs' e in
      let made = group_made gs a.0 i a.1 in
      all_from is a.0 gs' c.1 a.2 (subst (λ (x : List Group). AllFrom core x) (sym made.are) (one_from gs i made.role c.0 h))

  -- the groups of which the imports were made
  record AreMade (modules : List (List ℕ × ImportInstance)) : Type 0 where
    groups : List Group
    grouped : groups_after r others arguments table core [] core.imports ≡ Ok groups
    are : instances_of arguments groups ≡ modules

  are_made : (modules : List (List ℕ × ImportInstance)) → imports_of r others arguments table core ≡ Ok modules → AreMade modules
  unfolding imports_of
  are_made modules e =
      let a = bind_ok (groups_after r others arguments table core [] core.imports) (λ groups. Ok (instances_of arguments groups)) modules e in
      record { groups = a.0; grouped = a.1; are = cc (a.2) }

-- ---- imports that were found

same_some : {A : Type 0} (o : Option A) (x y : A) → o ≡ Some x → o ≡ Some y → x ≡ y
same_some o x y a b = cc

module _ (r : Resolved) (others : OtherModules) (arguments : Arguments) (main : Part Bindgen) (core : CoreModule) (m : CheckedRoles) (present : 0 < length r.resolve.worlds) where
  abbrev table : Roles
  table = main.own.roles.import_roles

  abbrev info : ValidatedModule
  info = (parts_of r main core m).info

  abbrev items : World
  items = get_or r.resolve.worlds 0 no_items

  module _ (gs : List Group) (are : instances_of arguments gs ≡ m.imports.modules) (i : CoreImport) (h : HasRole r others arguments table core gs i) where
    role_found : IsListed (argument_for arguments i.«module») → role_at m.imports.modules i.«module» i.field ≡ Some h.role
    role_found l = ap (λ (x : List (List ℕ × ImportInstance)). role_at x i.«module» i.field) (sym are) ∙ role_in arguments gs i.«module» i.field l ∙ h.there

    found_by : (argument : Option Instance) → argument_for arguments i.«module» ≡ argument → PassesEither r others table core i h.role h.passes.ty argument → HasFoundImport r.resolve items info (record { module_name = i.«module»; field = i.field; ty = h.passes.ty })
    found_by None is p = inl (record {
      role = h.role;
      has_role = role_found (subst (λ (o : Option Instance). IsListed o) (sym is) tt);
      fits = λ ty typed. same_some (extern_type core i.entity) ty h.passes.ty (import_typed r.resolve present core h.role i.entity ty p.fits typed) h.passes.typed;
    })
    found_by (Some (given.Items all)) is p = inl (record {
      role = h.role;
      has_role = role_found (subst (λ (o : Option Instance). IsListed o) (sym is) tt);
      fits = λ ty typed. absurd (none-some ty (ap (type_of_import r.resolve items) (sym p.is) ∙ typed));
    })
    found_by (Some (given.MainOrAdapter which)) is p = inr (record {
      which = which;
      whole = ap (λ (x : List (List ℕ × ImportInstance)). found i.«module» x) (sym are) ∙ whole_in arguments gs i.«module» i.field h.role which is h.there;
    })

    is_found : HasFoundImport r.resolve items info (record { module_name = i.«module»; field = i.field; ty = h.passes.ty })
    is_found = found_by (argument_for arguments i.«module») refl h.passes.given

  each_found : (gs : List Group) → instances_of arguments gs ≡ m.imports.modules → (is : List CoreImport) → AllByRecursion (HasRole r others arguments table core gs) is
      → AllByRecursion (HasFoundImport r.resolve items info) (flat_map (λ i. option_to_list (import_type core i)) is)
  each_found gs are [] h = tt
  each_found gs are (i ∷ is) h =
      let here = h.0 in
      let rest : List ImportType = flat_map (λ i. option_to_list (import_type core i)) is in
      subst (λ (o : Option ExternType). AllByRecursion (HasFoundImport r.resolve items info) (option_to_list (option_map (λ t. record { module_name = i.«module»; field = i.field; ty = t }) o) ++ rest)) (sym here.passes.typed)
      (is_found gs are i here, each_found gs are is h.1)

  -- of the imports whose roles these are
  pub all_found : imports_of r others arguments table core ≡ Ok m.imports.modules → AllByRecursion (HasFoundImport r.resolve (get_or r.resolve.worlds 0 no_items) (parts_of r main core m).info) (imported core)
  all_found e =
      let made = are_made r others arguments table core m.imports.modules e in
      each_found made.groups made.are core.imports (each_has r others arguments table core core.imports [] made.groups made.grouped)

  -- an import of a group's module is one of those that were found
  one_used : (gs : List Group) → AllByRecursion (HasRole r others arguments table core gs) core.imports → (g : Group) → HasImport core g → IsUsed info (g.name, instance_given (argument_for arguments g.name) g.fields)
  one_used gs roles g of =
      let i = of.i in
      let h = AllByRecursion-contains (HasRole r others arguments table core gs) core.imports i roles of.there in
      let import : ImportType = record { module_name = i.«module»; field = i.field; ty = h.passes.ty } in
      let alone : Contains (option_to_list (import_type core i)) import =
      subst (λ (o : Option ExternType). Contains (option_to_list (option_map (λ t. record { module_name = i.«module»; field = i.field; ty = t }) o)) import) (sym h.passes.typed) (at_front import []) in
      let c = of.there in
      record { import = import; there = in_flat_map (λ x. option_to_list (import_type core x)) core.imports i import c.0 c.1 c.2 alone; from = of.from }

  each_used : (all gs : List Group) → AllByRecursion (HasRole r others arguments table core all) core.imports → AllFrom core gs → AllByRecursion (IsUsed info) (instances_of arguments gs)
  each_used all [] roles h = tt
  each_used all (g ∷ gs) roles h = (one_used all roles g h.0, each_used all gs roles h.1)

  pub all_used : imports_of r others arguments table core ≡ Ok m.imports.modules → AllByRecursion (IsUsed (parts_of r main core m).info) m.imports.modules
  all_used e =
      let made = are_made r others arguments table core m.imports.modules e in
      let from = all_from r others arguments table core core.imports [] made.groups (all_in core.imports) made.grouped tt in
      subst (λ (x : List (List ℕ × ImportInstance)). AllByRecursion (IsUsed info) x) made.are
      (each_used made.groups made.groups (each_has r others arguments table core core.imports [] made.groups made.grouped) from)
