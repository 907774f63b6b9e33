-- The owner and the name of a type, at its index.
use Rattle.std.proofs.Common.{◌≡◌, ℕ, zero, suc, ◌<◌, List, [], ◌∷◌, length, get_or, refl, arith}
use Rattle.wit_data.specs.declared.types.TypeDef.{TypeDef}
use Rattle.wit_types.specs.Settings.{owner_at, name_at}

pub owner_there : (types : List TypeDef) (n : ℕ) (d : TypeDef) → n < length types → (get_or types n d).owner ≡ owner_at types n
owner_there [] n d l = absurd (omega (arith, l))
owner_there (t ∷ ts) zero d l = refl
owner_there (t ∷ ts) (suc n) d l = owner_there ts n d (omega (arith, l))

pub name_there : (types : List TypeDef) (n : ℕ) (d : TypeDef) → n < length types → (get_or types n d).name ≡ name_at types n
name_there [] n d l = absurd (omega (arith, l))
name_there (t ∷ ts) zero d l = refl
name_there (t ∷ ts) (suc n) d l = name_there ts n d (omega (arith, l))
