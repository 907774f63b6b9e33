-- The type of the cell: the first base among the imports of all modules, where there is none of another type.
use Rattle.std.proofs.Common.{rules, arith, ◌≡◌, ◌∙◌, ap, sym, refl, subst, ℕ, Bool, true, false, true≢false, if◌then◌else◌, List, [], ◌∷◌, Option, Some, None, Contains}
use Rattle.std.specs.List.{flat_map}
use Rattle.std.specs.Option.{option_or, option_and_then}
use Rattle.std.proofs.lemmas.Option.{none-some, same_Some}
use Rattle.core_types.specs.declared.types.ValType.{ValType}
use Rattle.core_types.specs.contracts.types.ValTypePartialEq.TheImpl as same
use Rattle.comp_lists.proofs.Lists.{AllByRecursion-contains}
use Rattle.comp_roles.specs.CoreImports.{CoreImport, fields_of, imports_from}
use Rattle.comp_roles.specs.Lookups.{first_some}
use Rattle.comp_roles.specs.declared.imports.Import.{Import}
use Rattle.comp_roles.specs.declared.imports.ImportInstance.{ImportInstance}
use Rattle.comp_roles.proofs.Firsts.{none_picked, Picks, one_picked, first_behind, first_of_each, first_mapped}
use Rattle.comp_worlds.specs.Uses.{imports_of, all_imports}
use Rattle.comp_worlds.specs.Bases.{base_of_role, cell_imports, cell_type, HasBase, AreBasesAlike, HasUnlikeBases}
use Rattle.comp_worlds.specs.declared.world.ComponentWorld.{ComponentWorld}
use Rattle.comp_worlds.specs.declared.world.ValidatedModule.{ValidatedModule}
use Rattle.comp_worlds.specs.declared.world.WorldAdapter.{WorldAdapter}
use Rattle.world_shims.specs.Cells.{is_base, unless_base, other_base, base_in_fields, base_in_groups, base_in_adapters, base_in_world}

-- ---- types of bases

one_type : (x y : ValType) → same.eq-value.it x y ≡ true → x ≡ y
one_type x y e = search rules

type_itself : (x : ValType) → same.eq-value.it x x ≡ true
type_itself x = search rules

-- where there is none to compare with, each base is another one
any_base : (role : Import) → other_base None role ≡ base_of_role role
any_base role = by (base_of_role role)
  where
    by : (o : Option ValType) → option_and_then (unless_base None) o ≡ o
    by None = refl
    by (Some t) = refl

-- a base that is no other one is this one
same_base : (known type : ValType) → unless_base (Some known) type ≡ None → known ≡ type
same_base known type h = by (same.eq-value.it known type) refl h
  where
    by : (b : Bool) → same.eq-value.it known type ≡ b → (if b then None else Some type) ≡ None → known ≡ type
    by true e h = one_type known type e
    by false e h = absurd (none-some type (sym h))

-- another one has another type
apart_base : (known type other : ValType) → unless_base (Some known) type ≡ Some other → (type ≡ other) × (known ≡ other → ⊥)
apart_base known type other h = by (same.eq-value.it known type) refl h
  where
    differ : same.eq-value.it known type ≡ false → type ≡ other → known ≡ other → ⊥
    differ e is alike = true≢false (sym (type_itself known) ∙ ap (λ t. same.eq-value.it known t) (alike ∙ sym is) ∙ e)

    by : (b : Bool) → same.eq-value.it known type ≡ b → (if b then None else Some type) ≡ Some other → (type ≡ other) × (known ≡ other → ⊥)
    by true e h = absurd (none-some other h)
    by false e h = let is = same_Some type other h in (is, differ e is)

-- ---- among the imports of all modules

-- the imports of all modules, one after the other
abbrev base_among : Option ValType → ComponentWorld → Option ValType
base_among known w = first_some (λ i. other_base known i.role) (all_imports w.main w.adapters)

module _ (known : Option ValType) where
  in_group : (g : List ℕ × ImportInstance) → base_in_fields known (fields_of g.1) ≡ first_some (λ i. other_base known i.role) (imports_from g)
  in_group g = first_mapped (λ (i : CoreImport). other_base known i.role) (λ (f : List ℕ × Import). record { module_name = g.0; field = f.0; role = f.1 }) (fields_of g.1)

  in_module : (m : ValidatedModule) → base_in_groups known m.imports.modules ≡ first_some (λ i. other_base known i.role) (imports_of m)
  in_module m = first_of_each (λ (i : CoreImport). other_base known i.role) imports_from (λ (g : List ℕ × ImportInstance). base_in_fields known (fields_of g.1)) in_group m.imports.modules

  in_world : (w : ComponentWorld) → base_in_world known w ≡ base_among known w
  in_world w =
      let of_adapter = λ (a : List ℕ × WorldAdapter). imports_of a.1.info in
      ap (λ o. option_or o (base_in_adapters known w.adapters)) (in_module w.main)
      ∙ ap (λ o. option_or (first_some (λ (i : CoreImport). other_base known i.role) (imports_of w.main)) o)
      (first_of_each (λ (i : CoreImport). other_base known i.role) of_adapter (λ (a : List ℕ × WorldAdapter). base_in_groups known a.1.info.imports.modules) (λ a. in_module a.1.info) w.adapters)
      ∙ sym (first_behind (λ (i : CoreImport). other_base known i.role) (imports_of w.main) (flat_map of_adapter w.adapters))

same_first : {A B : Type 0} (f g : A → Option B) → ((x : A) → f x ≡ g x) → (xs : List A) → first_some f xs ≡ first_some g xs
same_first f g each [] = refl
same_first f g each (x ∷ xs) = ap (λ o. option_or o (first_some f xs)) (each x) ∙ ap (λ o. option_or (g x) o) (same_first f g each xs)

-- ---- the world's cell

-- where slot 1 can be used, there is no cell, and so no base in it
no_imports : (w : ComponentWorld) → w.can_use_context_slot_1 ≡ true → cell_imports w ≡ []
no_imports w e = ap (λ b. if b then [] else all_imports w.main w.adapters) e

pub all_there : (w : ComponentWorld) → w.can_use_context_slot_1 ≡ false → cell_imports w ≡ all_imports w.main w.adapters
all_there w e = ap (λ b. if b then [] else all_imports w.main w.adapters) e

pub none_needed : (w : ComponentWorld) → w.can_use_context_slot_1 ≡ true → None ≡ cell_type w
none_needed w e = sym (ap (λ is. first_some (λ (i : CoreImport). base_of_role i.role) is) (no_imports w e))

pub none_alike : (w : ComponentWorld) → w.can_use_context_slot_1 ≡ true → AreBasesAlike w
none_alike w e type h =
    let l = (subst (λ (is : List CoreImport). Contains is h.given) (no_imports w e) h.present).1 in absurd (omega (arith, l))

pub first_is : (w : ComponentWorld) (found : Option ValType) → w.can_use_context_slot_1 ≡ false → found ≡ base_in_world None w → found ≡ cell_type w
first_is w found e is =
    is ∙ in_world None w
    ∙ same_first (λ (i : CoreImport). other_base None i.role) (λ (i : CoreImport). base_of_role i.role) (λ i. any_base i.role) (all_imports w.main w.adapters)
    ∙ sym (ap (λ is. first_some (λ (i : CoreImport). base_of_role i.role) is) (all_there w e))

-- no import has another base than the first
pub all_alike : (w : ComponentWorld) (found : Option ValType) → w.can_use_context_slot_1 ≡ false → found ≡ base_in_world None w → base_in_world found w ≡ None → AreBasesAlike w
all_alike w found e is none type h = sym (first_is w found e is) ∙ by found none
  where
    given : Contains (all_imports w.main w.adapters) h.given
    given = subst (λ (is : List CoreImport). Contains is h.given) (all_there w e) h.present

    not_other : (known : Option ValType) → base_in_world known w ≡ None → unless_base known type ≡ None
    not_other known none =
        ap (λ o. option_and_then (unless_base known) o) (sym h.base)
        ∙ AllByRecursion-contains (λ (i : CoreImport). other_base known i.role ≡ None) (all_imports w.main w.adapters) h.given
        (none_picked (λ (i : CoreImport). other_base known i.role) (all_imports w.main w.adapters) (sym (in_world known w) ∙ none)) given

    by : (o : Option ValType) → base_in_world o w ≡ None → o ≡ Some type
    by None none = absurd (none-some type (sym (not_other None none)))
    by (Some known) none = ap Some (same_base known type (not_other (Some known) none))

-- an import with such a base
has : (w : ComponentWorld) → w.can_use_context_slot_1 ≡ false → (given : CoreImport) → Contains (all_imports w.main w.adapters) given → (type : ValType) → base_of_role given.role ≡ Some type → HasBase w type
has w e given there type base = record { given = given; present = subst (λ (is : List CoreImport). Contains is given) (sym (all_there w e)) there; base = base }

-- some import has another base than the first
pub two_unlike : (w : ComponentWorld) (found : Option ValType) (other : ValType) → w.can_use_context_slot_1 ≡ false → found ≡ base_in_world None w → base_in_world found w ≡ Some other → HasUnlikeBases w
two_unlike w found other e is more = by found is more
  where
    all : List CoreImport
    all = all_imports w.main w.adapters

    first : (known : ValType) → Some known ≡ base_in_world None w → HasBase w known
    first known is =
        let p : Picks (λ (i : CoreImport). base_of_role i.role) all known = one_picked (λ (i : CoreImport). base_of_role i.role) all known
        (sym (same_first (λ (i : CoreImport). other_base None i.role) (λ (i : CoreImport). base_of_role i.role) (λ i. any_base i.role) all) ∙ sym (in_world None w) ∙ sym is) in
        has w e p.element p.there known p.picks

    second : (known : ValType) (o : Option ValType) (i : CoreImport) → Contains all i → base_of_role i.role ≡ o → option_and_then (unless_base (Some known)) o ≡ Some other → HasBase w other × (known ≡ other → ⊥)
    second known None i there base h = absurd (none-some other h)
    second known (Some t) i there base h =
        let a = apart_base known t other h in (has w e i there other (base ∙ ap Some a.0), a.1)

    by : (o : Option ValType) → o ≡ base_in_world None w → base_in_world o w ≡ Some other → HasUnlikeBases w
    by None is more = absurd (none-some other (is ∙ more))
    by (Some known) is more =
        let p : Picks (λ (i : CoreImport). other_base (Some known) i.role) all other = one_picked (λ (i : CoreImport). other_base (Some known) i.role) all other (sym (in_world (Some known) w) ∙ more) in
        let s = second known (base_of_role p.element.role) p.element p.there refl p.picks in
        record { one = known; other = other; has_one = first known is; has_other = s.0; apart = s.1 }
