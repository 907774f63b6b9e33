-- A table that is copied entry by entry.
use Rattle.std.proofs.Common.{◌≡◌, List, ◌∷◌, ◌++◌, None}
use Rattle.std.specs.List.{IsDistinct}
use Rattle.std.specs.Map.{keys_of, lookup}
use Rattle.comp_lists.proofs.TableLemmas.{absent}
use Rattle.wit_data.specs.declared.ids.TypeId.{TypeId}
use Rattle.wit_data.specs.declared.types.TypeDefKind.{TypeDefKind}
use Rattle.wit_data.specs.contracts.ids.TypeIdEq.TheImpl.Laws.{laws-law as id_laws}
use Rattle.wit_data.specs.contracts.ids.TypeIdPartialEq.TheImpl as same_id
use Rattle.wit_data.specs.contracts.types.TypeDefKindEq.TheImpl.Laws.{laws-law as kind_laws}
use Rattle.wit_data.specs.contracts.types.TypeDefKindPartialEq.TheImpl as same_kind

-- the key of the next entry isn't among those before it
pub id_absent : {X : Type 0} (done rest table : List (TypeId × X)) (k : TypeId) (v : X) → done ++ (k, v) ∷ rest ≡ table → IsDistinct same_id.eq-value.it (keys_of table) → lookup (same_id.eq-value.it k) done ≡ None
id_absent done rest table k v is d = absent same_id.eq-value.it id_laws done rest table k v is d

pub kind_absent : {X : Type 0} (done rest table : List (TypeDefKind × X)) (k : TypeDefKind) (v : X) → done ++ (k, v) ∷ rest ≡ table → IsDistinct same_kind.eq-value.it (keys_of table) → lookup (same_kind.eq-value.it k) done ≡ None
kind_absent done rest table k v is d = absent same_kind.eq-value.it kind_laws done rest table k v is d
