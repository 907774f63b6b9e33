-- What is offered has no name twice, since no name is exported twice.
use Rattle.std.proofs.Common.{◌≡◌, ℕ, false, List, [], ◌∷◌, ◌++◌, Option, Some, None, sym, ap, subst, ◌∙◌}
use Rattle.std.specs.Prelude.{option_map}
use Rattle.std.specs.List.{flat_map, IsDistinct, AllByRecursion}
use Rattle.std.specs.Map.{lookup, keys_of}
use Rattle.std.specs.Option.{option_to_list}
use Rattle.std.specs.Str.{bytes_eq}
use Rattle.std.specs.Cmp.{IsEquivalence}
use Rattle.std.specs.Cmp.Lexicographic.{lists_equiv}
use Rattle.std.proofs.lemmas.Cmp.{nat_eq_equiv}
use Rattle.comp_lists.proofs.TableLemmas.{absent}
use Rattle.core_sections.specs.declared.core_module.CoreModule.{CoreModule}
use Rattle.core_sections.specs.declared.entries.ExportedItem.{ExportedItem}
use Rattle.comp_roles.specs.declared.offered.ExternType.{ExternType}
use Rattle.record_core_types.specs.Offered.{item_type, offered_export, offered}

abbrev IsApart : List ℕ → List (List ℕ) → Type 0
IsApart name names = AllByRecursion (λ n. bytes_eq name n ≡ false) names

abbrev entry : List ℕ → Option ExternType → List (List ℕ × ExternType)
entry name ty = option_to_list (option_map (λ t. (name, t)) ty)

bytes_equiv : IsEquivalence bytes_eq
bytes_equiv = lists_equiv nat_eq_equiv

apart_one : (name other : List ℕ) (ty : Option ExternType) (rest : List (List ℕ × ExternType)) → bytes_eq name other ≡ false → IsApart name (keys_of rest) → IsApart name (keys_of (entry other ty ++ rest))
apart_one name other None rest h more = more
apart_one name other (Some t) rest h more = (h, more)

apart_all : (m : CoreModule) (name : List ℕ) (es : List (List ℕ × ExportedItem)) → IsApart name (keys_of es) → IsApart name (keys_of (flat_map (offered_export m) es))
apart_all m name [] h = tt
apart_all m name (e ∷ es) h = apart_one name e.0 (item_type m e.1) (flat_map (offered_export m) es) h.0 (apart_all m name es h.1)

distinct_one : (name : List ℕ) (ty : Option ExternType) (rest : List (List ℕ × ExternType)) → IsApart name (keys_of rest) → IsDistinct bytes_eq (keys_of rest) → IsDistinct bytes_eq (keys_of (entry name ty ++ rest))
unfolding IsDistinct
distinct_one name None rest h more = more
distinct_one name (Some t) rest h more = (h, more)

distinct : (m : CoreModule) (es : List (List ℕ × ExportedItem)) → IsDistinct bytes_eq (keys_of es) → IsDistinct bytes_eq (keys_of (flat_map (offered_export m) es))
unfolding IsDistinct
distinct m [] h = tt
distinct m (e ∷ es) h = distinct_one e.0 (item_type m e.1) (flat_map (offered_export m) es) (apart_all m e.0 es h.0) (distinct m es h.1)

-- an export that is offered is not among those that were offered before it
pub not_yet : (m : CoreModule) (done : List (List ℕ × ExternType)) (iterator after : List (List ℕ × ExportedItem)) (name key : List ℕ) (item : ExportedItem) (t : ExternType)
    → key ≡ name → done ++ flat_map (offered_export m) iterator ≡ offered m → iterator ≡ (name, item) ∷ after → item_type m item ≡ Some t → IsDistinct bytes_eq (keys_of m.exports)
    → lookup (bytes_eq key) done ≡ None
not_yet m done iterator after name key item t same so_far taken is d =
    let f : List ℕ × ExportedItem → List (List ℕ × ExternType) = offered_export m in
    let same_entry : entry name (Some t) ≡ entry name (item_type m item) = ap (entry name) (sym is) in
    let here : done ++ flat_map f ((name, item) ∷ after) ≡ offered m = subst (λ (es : List (List ℕ × ExportedItem)). done ++ flat_map f es ≡ offered m) taken so_far in
    let all : done ++ (name, t) ∷ flat_map f after ≡ offered m = ap (λ (one : List (List ℕ × ExternType)). done ++ (one ++ flat_map f after)) same_entry ∙ here in
    subst (λ (k : List ℕ). lookup (bytes_eq k) done ≡ None) (sym same) (absent bytes_eq bytes_equiv done (flat_map f after) (offered m) name t all (distinct m m.exports d))
