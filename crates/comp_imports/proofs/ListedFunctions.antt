-- The functions of an interface, by its number in the resolve.
use Rattle.std.proofs.Common.{◌≡◌, ◌∙◌, ◌<◌, ap, subst, refl, ℕ, zero, suc, List, [], ◌∷◌, length, slice_get, arith, Option, Some, None}
use Rattle.std.specs.List.{AllByRecursion}
use Rattle.std.specs.Option.{option_map}
use Rattle.std.specs.Prelude.{unwrap_or, slice_index_or}
use Rattle.std.proofs.lemmas.Option.{none-some, same_Some}
use Rattle.wit_data.specs.declared.functions.Function.{Function}
use Rattle.wit_data.specs.declared.ids.InterfaceId.{InterfaceId}
use Rattle.wit_data.specs.declared.resolve.Resolve.{Resolve}
use Rattle.wit_data.specs.declared.resolve.Interface.{Interface}
use Rattle.wit_data.specs.Sound.{IsSound, HasAll, HasFunction, HasInterface}
use Rattle.world_values.specs.Items.{functions_of}

all_at : (r : Resolve) (is : List Interface) (n : ℕ) (i : Interface) → AllByRecursion (HasAll r) is → slice_get is n ≡ Some i → HasAll r i
all_at r [] n i h e = absurd (none-some i e)
all_at r (x ∷ xs) zero i h e = subst (HasAll r) (same_Some x i e) h.0
all_at r (x ∷ xs) (suc n) i h e = all_at r xs n i h.1 e

-- the functions of the interface at an index
pub functions_at : (r : Resolve) (id : InterfaceId) (interfaces : List Interface) (default : Interface) → interfaces ≡ r.interfaces → HasInterface r id → (slice_index_or interfaces id.index default).functions ≡ functions_of r id
functions_at r id interfaces default same present = ap (λ (is : List Interface). (slice_index_or is id.index default).functions) same ∙ at r.interfaces id.index present
  where
    at : (is : List Interface) (n : ℕ) → n < length is → (slice_index_or is n default).functions ≡ unwrap_or (option_map (λ (i : Interface). i.functions) (slice_get is n)) []
    at [] n l = absurd (omega (arith, l))
    at (i ∷ is) zero l = refl
    at (i ∷ is) (suc n) l = at is n (omega (arith, l))

-- the functions of an interface exist in the resolve
pub functions_sound : (r : Resolve) → IsSound r → (id : InterfaceId) → AllByRecursion (λ e. HasFunction r e.1) (functions_of r id)
functions_sound r sound id = by (slice_get r.interfaces id.index) refl
  where
    by : (o : Option Interface) → slice_get r.interfaces id.index ≡ o → AllByRecursion (λ (e : List ℕ × Function). HasFunction r e.1) (unwrap_or (option_map (λ (i : Interface). i.functions) o) [])
    by None e = tt
    by (Some i) e = (all_at r r.interfaces id.index i sound.interfaces e).functions
