-- The interface, the name and the kind of a type, as worlds and as scopes of types read them.
use Rattle.std.proofs.Common.{◌≡◌, ◌∙◌, ◌⊎◌, ◌<◌, ◌==◌, ℕ, zero, suc, Bool, true, false, true≢false, List, [], ◌∷◌, length, refl, sym, ap, inl, inr, arith, Some, None, if◌then◌else◌}
use Rattle.std.proofs.lemmas.Bool.{eqb-true}
use Rattle.std.proofs.lemmas.Option.{none-some, same_Some}
use Rattle.wit_data.specs.declared.ids.InterfaceId.{InterfaceId}
use Rattle.wit_data.specs.declared.types.TypeDef.{TypeDef}
use Rattle.wit_data.specs.declared.types.TypeDefKind.{TypeDefKind}
use Rattle.wit_data.specs.declared.types.TypeDefKind.TheVariants as kinds
use Rattle.wit_data.specs.declared.types.TypeOwner.{TypeOwner}
use Rattle.wit_data.specs.declared.types.TypeOwner.TheVariants as owners
use Rattle.wit_types.specs.Allowing.{foreign, is_resource}
use Rattle.wit_types.specs.Settings.{owner_at}
use Rattle.wit_types.specs.Settings as settings
use Rattle.comp_worlds.specs.WorldContents.{interface_of_owner, interface_at, name_at}

pub owner_is : (o : TypeOwner) (i : InterfaceId) → interface_of_owner o ≡ Some i → o ≡ owners.Interface i
owner_is (owners.Interface j) i e = ap owners.Interface (same_Some j i e)
owner_is o i e = absurd (none-some i e)

pub owner_of : (types : List TypeDef) (n : ℕ) (i : InterfaceId) → interface_at types n ≡ Some i → owner_at types n ≡ owners.Interface i
owner_of [] n i e = absurd (none-some i e)
owner_of (t ∷ ts) zero i e = owner_is t.owner i e
owner_of (t ∷ ts) (suc n) i e = owner_of ts n i e

-- a type of an interface is one of the types
pub owned_within : (types : List TypeDef) (n : ℕ) (i : InterfaceId) → interface_at types n ≡ Some i → n < length types
owned_within [] n i e = absurd (none-some i e)
owned_within (t ∷ ts) zero i e = omega arith
owned_within (t ∷ ts) (suc n) i e = let l = owned_within ts n i e in omega (arith, l)

pub interface_of : (types : List TypeDef) (n : ℕ) (i : InterfaceId) → n < length types → owner_at types n ≡ owners.Interface i → interface_at types n ≡ Some i
interface_of [] n i l e = absurd (omega (arith, l))
interface_of (t ∷ ts) zero i l e = ap interface_of_owner e
interface_of (t ∷ ts) (suc n) i l e = interface_of ts n i (omega (arith, l)) e

pub same_name : (types : List TypeDef) (n : ℕ) → settings.name_at types n ≡ name_at types n
same_name [] n = refl
same_name (t ∷ ts) zero = refl
same_name (t ∷ ts) (suc n) = same_name ts n

pub resource_is : (k : TypeDefKind) → is_resource k ≡ true → k ≡ kinds.Resource
resource_is kinds.Resource e = refl
resource_is k e = absurd (true≢false (sym e))

-- ---- the interface of a type that another one meets

any_owner : (o : TypeOwner) → foreign None o ≡ interface_of_owner o
any_owner (owners.Interface i) = refl
any_owner (owners.World w) = refl
any_owner owners.«None» = refl

pub at_root : (types : List TypeDef) (n : ℕ) → foreign None (owner_at types n) ≡ interface_at types n
at_root [] n = refl
at_root (t ∷ ts) zero = any_owner t.owner
at_root (t ∷ ts) (suc n) = at_root ts n

pub same_id : (a b : InterfaceId) → (a.index == b.index) ≡ true → a ≡ b
same_id a b e = ap (λ n. record { index = n }) (eqb-true a.index b.index e)

owner_own : (here : InterfaceId) (o : TypeOwner) → foreign (Some here) o ≡ None → (interface_of_owner o ≡ None) ⊎ (interface_of_owner o ≡ Some here)
owner_own here (owners.Interface i) e = by (here.index == i.index) refl e
  where
    by : (b : Bool) → (here.index == i.index) ≡ b → (if b then None else Some i) ≡ None → (Some i ≡ None) ⊎ (Some i ≡ Some here)
    by true same e = inr (ap Some (sym (same_id here i same)))
    by false apart e = absurd (none-some i (sym e))
owner_own here (owners.World w) e = inl refl
owner_own here owners.«None» e = inl refl

-- a type that no other interface owns
pub own_or_none : (types : List TypeDef) (n : ℕ) (here : InterfaceId) → foreign (Some here) (owner_at types n) ≡ None → (interface_at types n ≡ None) ⊎ (interface_at types n ≡ Some here)
own_or_none [] n here e = inl refl
own_or_none (t ∷ ts) zero here e = owner_own here t.owner e
own_or_none (t ∷ ts) (suc n) here e = own_or_none ts n here e

owner_other : (here other : InterfaceId) (o : TypeOwner) → foreign (Some here) o ≡ Some other → (interface_of_owner o ≡ Some other) × ((here.index == other.index) ≡ false)
owner_other here other (owners.Interface i) e = by (here.index == i.index) refl e
  where
    by : (b : Bool) → (here.index == i.index) ≡ b → (if b then None else Some i) ≡ Some other → (Some i ≡ Some other) × ((here.index == other.index) ≡ false)
    by true same e = absurd (none-some other e)
    by false apart e = (e, ap (λ (j : InterfaceId). here.index == j.index) (sym (same_Some i other e)) ∙ apart)
owner_other here other o e = absurd (none-some other e)

-- a type that another interface owns
pub of_other : (types : List TypeDef) (n : ℕ) (here other : InterfaceId) → foreign (Some here) (owner_at types n) ≡ Some other → (interface_at types n ≡ Some other) × ((here.index == other.index) ≡ false)
of_other [] n here other e = absurd (none-some other e)
of_other (t ∷ ts) zero here other e = owner_other here other t.owner e
of_other (t ∷ ts) (suc n) here other e = of_other ts n here other e
