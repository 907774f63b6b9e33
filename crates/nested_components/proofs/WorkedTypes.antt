-- A worked example: an interface that lists one type, a stream, which its function takes; and one
-- whose function takes a type of another interface.
use Rattle.std.proofs.Common.{◌≡◌, ◌<◌, ◌==◌, ◌&&◌, arith, ℕ, zero, suc, Bool, true, false, true≢false, sym, List, [], ◌∷◌, refl, ap, Some, None}
use Rattle.std.specs.List.{IsDistinct}
use Rattle.std.specs.Prelude.{codes, Contains, IsSome}
use Rattle.std.proofs.lemmas.Option.{same_Some}
use Rattle.wit_data.specs.declared.functions.Function.{Function}
use Rattle.wit_data.specs.declared.functions.FunctionKind.TheVariants as function_kinds
use Rattle.wit_data.specs.declared.ids.InterfaceId.{InterfaceId}
use Rattle.wit_data.specs.declared.ids.TypeId.{TypeId}
use Rattle.wit_data.specs.declared.types.Type.TheVariants.{Id}
use Rattle.wit_data.specs.declared.types.TypeDef.{TypeDef}
use Rattle.wit_data.specs.declared.types.TypeDefKind.TheVariants as kinds
use Rattle.wit_data.specs.declared.types.TypeOwner.TheVariants as owners
use Rattle.wit_data.specs.Values.{value, values_from}
use Rattle.comp_trees.specs.Trees.{Resource, StreamOf, Absent}
use Rattle.comp_trees.specs.DefinedTrees.{OfValues}
use Rattle.wit_types.specs.Allowing.{foreign}
use Rattle.wit_types.specs.Settings.{owner_at, name_at}
use Rattle.type_scopes.specs.Needs.{each_passes, function_passes, is_at_home}
use Rattle.foreign_types.specs.Foreign.{AreForeignTypes}
use Rattle.nested_terms.specs.Nested.{ExportedType}
use Rattle.nested_components.specs.Types.{IsAtHome, type_given, exported_type}

abbrev here : InterfaceId
here = record { index = 0 }

abbrev t : TypeId
t = record { index = 0 }

abbrev types : List TypeDef
types = record { name = Some (codes "t"); kind = kinds.Stream None; owner = owners.Interface here } ∷ []

abbrev f : Function
f = record { name = codes "f"; kind = function_kinds.Freestanding; params = record { name = codes "x"; ty = Id t } ∷ []; result = None }

abbrev named : List (List ℕ × TypeId)
named = (codes "t", t) ∷ []

each_listed : (n : ℕ) → n < 1 → owner_at types n ≡ owners.Interface here → (name : List ℕ) → name_at types n ≡ Some name → Contains named (name, record { index = n })
each_listed zero l o name e = (0, omega arith, ap (λ (x : List ℕ). (x, t)) (same_Some (codes "t") name e))
each_listed (suc n) l o name e = absurd (omega (arith, l))

none_other : (id : TypeId) → id.index < 1 → IsSome (foreign (Some here) (owner_at types id.index)) → ⊥
none_other id l other = by id.index l other
  where
    by : (n : ℕ) → n < 1 → IsSome (foreign (Some here) (owner_at types n)) → ⊥
    by zero l other = true≢false (sym other)
    by (suc n) l other = omega (arith, l)

stream_at_home : IsAtHome types here named ((codes "f", f) ∷ [])
unfolding values_from
stream_at_home = record {
  lent = λ n. false;
  titled = (record { present = omega arith; owner = refl; named = refl }, tt);
  ascend = (omega arith, tt);
  types = (refl, tt);
  functions = (refl, tt);
  every = record { each = each_listed };
  later = record { each = λ id l other h. absurd (none_other id l other) };
}

stream_given : (origin : TypeId → Resource) → type_given origin types (record { name = codes "import-type-t"; id = t }) ≡ (codes "import-type-t", OfValues (StreamOf Absent))
unfolding values_from
stream_given origin = refl

stream_exported : (origin : TypeId → Resource) → exported_type origin types (codes "t", t) ≡ ExportedType (codes "t") (OfValues (StreamOf Absent))
unfolding values_from
stream_exported origin = refl

-- in another interface, the type is at home where it is lent
away : function_passes (is_at_home types (λ n. false) (record { index = 1 })) types f ≡ false
unfolding values_from
away = refl

lent : function_passes (is_at_home types (λ n. n == 0) (record { index = 1 })) types f ≡ true
unfolding values_from
lent = refl

-- it is imported before the function, and behind nothing
foreign_type : AreForeignTypes types (record { index = 1 }) [] ((codes "f", f) ∷ []) (t ∷ [])
unfolding values_from IsDistinct
foreign_type = record {
  ready = (record { within = omega arith; other = here; owner = refl; parts = refl }, tt);
  once = (tt, tt);
  types_covered = tt;
  functions_covered = (refl, tt);
  reached = (record { each = λ test types_pass functions_pass. and_first (value (each_passes test) types (Some (Id t))) functions_pass.0 }, tt);
}
  where
    and_first : (a : Bool) → ((a && true) && true) ≡ true → a ≡ true
    and_first true e = refl
    and_first false e = e
