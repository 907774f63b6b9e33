-- Worked examples of versions, contents and reached types.
use Rattle.std.proofs.Common.{◌≡◌, ℕ, List, [], ◌∷◌, refl, Some, None}
use Rattle.std.specs.Prelude.{codes}
use Rattle.std.specs.Fmt.{digits}
use Rattle.standard_kinds.specs.declared.kinds.Primitive.TheVariants as prims
use Rattle.wit_data.specs.declared.types.Type.TheVariants.{Primitive, Id}
use Rattle.wit_data.specs.declared.types.TypeDefKind.{TypeDefKind}
use Rattle.wit_data.specs.declared.types.TypeDefKind.TheVariants as kinds
use Rattle.wit_data.specs.declared.types.TypeOwner.TheVariants as owners
use Rattle.wit_data.specs.declared.types.TypeDef.{TypeDef}
use Rattle.wit_data.specs.declared.ids.TypeId.{TypeId}
use Rattle.wit_data.specs.Values.{values_from}
use Rattle.wit_data.specs.Contents.{contents_bits}
use Rattle.wit_data.specs.Live.{live_types}
use Rattle.wit_data.specs.Versions.{canonical_version}

-- 0.2.1
minor_shared : canonical_version (0, 2, 1, [], []) ≡ record { version = codes "0.2"; suffix = Some (codes ".1") }
unfolding digits
minor_shared = refl

-- 1.2.3
major_shared : canonical_version (1, 2, 3, [], []) ≡ record { version = codes "1"; suffix = Some (codes ".2.3") }
unfolding digits
major_shared = refl

-- 0.0.3
nothing_shared : canonical_version (0, 0, 3, [], []) ≡ record { version = codes "0.0.3"; suffix = None }
unfolding digits
nothing_shared = refl

-- 1.0.0-rc.1
pre_release : canonical_version (1, 0, 0, codes "rc.1", []) ≡ record { version = codes "1.0.0-rc.1"; suffix = None }
unfolding digits
pre_release = refl

abbrev unnamed : TypeDefKind → TypeDef
unnamed kind = record { name = None; kind = kind; owner = owners.«None» }

abbrev at : ℕ → TypeId
at n = record { index = n }

-- a resource r, record { a: string, b: own<r> }, list<u8>, own<r>, stream<string>, a tuple of the record
-- and the list, another name for the record, a future of the list
abbrev some_types : List TypeDef
some_types =
    unnamed kinds.Resource
    ∷ unnamed (kinds.Record (record { name = codes "a"; ty = Primitive prims.«String» } ∷ record { name = codes "b"; ty = Id (at 3) } ∷ []))
    ∷ unnamed (kinds.«List» (Primitive prims.U8))
    ∷ unnamed (kinds.Own (at 0))
    ∷ unnamed (kinds.Stream (Some (Primitive prims.«String»)))
    ∷ unnamed (kinds.Tuple (Id (at 1) ∷ Id (at 2) ∷ []))
    ∷ unnamed (kinds.Alias (Id (at 1)))
    ∷ unnamed (kinds.Future (Some (Id (at 2))))
    ∷ []

record_contents : contents_bits some_types (Some (Id (at 1))) ≡ 1
unfolding values_from
record_contents = refl

list_contents : contents_bits some_types (Some (Id (at 2))) ≡ 2
unfolding values_from
list_contents = refl

own_contents : contents_bits some_types (Some (Id (at 3))) ≡ 0
unfolding values_from
own_contents = refl

stream_contents : contents_bits some_types (Some (Id (at 4))) ≡ 0
unfolding values_from
stream_contents = refl

tuple_contents : contents_bits some_types (Some (Id (at 5))) ≡ 3
unfolding values_from
tuple_contents = refl

alias_contents : contents_bits some_types (Some (Id (at 6))) ≡ 1
unfolding values_from
alias_contents = refl

future_contents : contents_bits some_types (Some (Id (at 7))) ≡ 0
unfolding values_from
future_contents = refl

-- a resource r, own<r>, record { x: own<r> }, another name for the record, and a list
abbrev more_types : List TypeDef
more_types =
    unnamed kinds.Resource
    ∷ unnamed (kinds.Own (at 0))
    ∷ unnamed (kinds.Record (record { name = codes "x"; ty = Id (at 1) } ∷ []))
    ∷ unnamed (kinds.Alias (Id (at 2)))
    ∷ unnamed (kinds.«List» (Id (at 2)))
    ∷ []

abbrev named : List (List ℕ × TypeId)
named = (codes "list", at 4) ∷ (codes "name", at 3) ∷ (codes "r", at 0) ∷ (codes "record", at 2) ∷ []

-- the alias reaches itself, the record and, by its handle, the resource
alias_reaches : live_types more_types (Id (at 3) ∷ []) named ≡ at 3 ∷ at 0 ∷ at 2 ∷ []
unfolding values_from
alias_reaches = refl

handle_reaches : live_types more_types (Id (at 1) ∷ []) named ≡ at 0 ∷ []
unfolding values_from
handle_reaches = refl

nothing_reaches : live_types more_types [] named ≡ []
unfolding values_from
nothing_reaches = refl

number_reaches : live_types more_types (Primitive prims.U8 ∷ []) named ≡ []
unfolding values_from
number_reaches = refl
