-- A worked example: an interface that lists one resource, of which its function takes an own
-- handle; and one whose function takes an own handle of a resource of another interface.
use Rattle.std.proofs.Common.{◌≡◌, ◌<◌, ◌==◌, arith, ℕ, zero, suc, Bool, true, false, true≢false, sym, List, [], ◌∷◌, map, refl, ap, Some, None}
use Rattle.std.specs.Prelude.{codes, Contains, IsSome}
use Rattle.std.proofs.lemmas.Option.{same_Some}
use Rattle.wit_data.specs.declared.functions.Function.{Function}
use Rattle.wit_data.specs.declared.functions.FunctionKind.TheVariants as function_kinds
use Rattle.wit_data.specs.declared.ids.InterfaceId.{InterfaceId}
use Rattle.wit_data.specs.declared.ids.TypeId.{TypeId}
use Rattle.wit_data.specs.declared.types.Type.TheVariants.{Id}
use Rattle.wit_data.specs.declared.types.TypeDef.{TypeDef}
use Rattle.wit_data.specs.declared.types.TypeDefKind.TheVariants as kinds
use Rattle.wit_data.specs.declared.types.TypeOwner.TheVariants as owners
use Rattle.wit_data.specs.Values.{values_from}
use Rattle.comp_bytes.specs.declared.space.Sort.TheVariants as sorts
use Rattle.comp_bytes.specs.declared.types.Description.TheVariants as descriptions
use Rattle.comp_bytes.specs.declared.def.Item.TheVariants as items
use Rattle.comp_trees.specs.Trees.{Resource, ResourceAt}
use Rattle.comp_trees.specs.DefinedTrees.{OfValues}
use Rattle.wit_types.specs.Allowing.{foreign}
use Rattle.wit_types.specs.Settings.{owner_at, name_at}
use Rattle.type_scopes.specs.Needs.{function_passes, is_at_home}
use Rattle.nested_terms.specs.Nested.{empty_scope, types_imported, imports_after, exports_after}
use Rattle.nested_components.specs.declared.type_import.TypeImport.{TypeImport}
use Rattle.nested_components.specs.Growing.{plain}
use Rattle.nested_components.specs.Planning.{given_by}
use Rattle.nested_components.specs.Types.{IsAtHome, type_given, exported_type, own_resources}

abbrev here : InterfaceId
here = record { index = 0 }

abbrev there : InterfaceId
there = record { index = 1 }

abbrev r : TypeId
r = record { index = 0 }

abbrev types : List TypeDef
types =
    record { name = Some (codes "r"); kind = kinds.Resource; owner = owners.Interface here }
    ∷ record { name = None; kind = kinds.Own r; owner = owners.«None» }
    ∷ []

abbrev f : Function
f = record { name = codes "f"; kind = function_kinds.Freestanding; params = record { name = codes "x"; ty = Id (record { index = 1 }) } ∷ []; result = None }

abbrev named : List (List ℕ × TypeId)
named = (codes "r", r) ∷ []

abbrev lent : ℕ → Bool
lent n = n == 0

each_listed : (n : ℕ) → n < 2 → owner_at types n ≡ owners.Interface here → (name : List ℕ) → name_at types n ≡ Some name → Contains named (name, record { index = n })
each_listed zero l o name e = (0, omega arith, ap (λ (x : List ℕ). (x, r)) (same_Some (codes "r") name e))
each_listed (suc zero) l o name e = cc
each_listed (suc (suc n)) l o name e = absurd (omega (arith, l))

none_other : (id : TypeId) → id.index < 2 → IsSome (foreign (Some here) (owner_at types id.index)) → ⊥
none_other id l other = by id.index l other
  where
    by : (n : ℕ) → n < 2 → IsSome (foreign (Some here) (owner_at types n)) → ⊥
    by zero l other = true≢false (sym other)
    by (suc zero) l other = true≢false (sym other)
    by (suc (suc n)) l other = omega (arith, l)

resource_at_home : IsAtHome types here named ((codes "f", f) ∷ [])
unfolding values_from
resource_at_home = record {
  lent = lent;
  titled = (record { present = omega arith; owner = refl; named = refl }, tt);
  ascend = (omega arith, tt);
  types = (refl, tt);
  functions = (refl, tt);
  every = record { each = each_listed };
  later = record { each = λ id l other h. absurd (none_other id l other) };
}

-- where it isn't lent, it is not at home, be it of this interface or of another one
not_lent : function_passes (is_at_home types (λ n. false) here) types f ≡ false
unfolding values_from
not_lent = refl

away : function_passes (is_at_home types (λ n. false) there) types f ≡ false
unfolding values_from
away = refl

lent_there : function_passes (is_at_home types lent there) types f ≡ true
unfolding values_from
lent_there = refl

-- ---- it is imported as one that is given, and exported as the same

own_one : own_resources types named ≡ r ∷ []
own_one = refl

abbrev import : TypeImport
import = record { name = codes "import-type-r"; id = r }

module _ (origin : TypeId → Resource) where
  imported : types_imported (imports_after (given_by origin types (import ∷ [])) empty_scope (items.Import (plain (codes "import-type-r")) descriptions.SubResource ∷ [])) ≡ type_given origin types import ∷ []
  unfolding values_from
  imported = refl

  given : type_given origin types import ≡ (codes "import-type-r", OfValues (ResourceAt (origin r)))
  unfolding values_from
  given = refl

  passed : exports_after (given_by origin types (import ∷ [])) empty_scope (items.Import (plain (codes "import-type-r")) descriptions.SubResource ∷ items.Export (plain (codes "r")) sorts.Type 0 None ∷ []) ≡ map (exported_type origin types) named
  unfolding values_from
  passed = refl
