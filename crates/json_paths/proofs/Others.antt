-- What is left of the members of an object from which one was taken.
use Rattle.std.proofs.Common.{◌≡◌, List, ℕ, [], ◌∷◌, Bool, true, false, String, Global, string_bytes, nat_cmp, is_eq, cond, bytes_eq, true≢false, Some, None, option_map, if◌then◌else◌, BTreeMap, refl, sym, ap, ◌∙◌}
use Rattle.std.proofs.lemmas.Map.Text.{is_eq-slice_cmp}
use Rattle.std.proofs.lemmas.Slice.Eq.{bytes_eq-Decides}
use Rattle.std.specs.Cmp.Lexicographic.{slice_cmp}
use Rattle.std.specs.Map.{lookup, remove_entry}
use Rattle.std.specs.Ordering.{match_ordering}
use Rattle.std.specs.BTreeMap.{is_at}
use Rattle.serde_json.specs.Find.{get, get_member}
use Rattle.serde_json.specs.Data.{Members, member}
use Rattle.serde_json.specs.View.{view, members_view}
use Rattle.serde_json.specs.declared.value.Value.{Value, Object}
use Rattle.serde_json.proofs.Views.{Entry, member_later, view-lookup, view-Object}
use Rattle.json_paths.specs.Taking.{without, without_member, KeepsOthers}

taken_at : (here : Bool) (q key : List ℕ) (e : Entry) (es left : List Entry) → is_eq (slice_cmp nat_cmp key (string_bytes e.0)) ≡ here → bytes_eq q key ≡ false
    → get_member q (members_view left) ≡ get_member q (members_view es)
    → get_member q (members_view (cond here es (e ∷ left))) ≡ get_member q (members_view (e ∷ es))
taken_at true q key e es left is other later =
    let same : key ≡ string_bytes e.0 = (bytes_eq-Decides key (string_bytes e.0)).0 (sym (is_eq-slice_cmp key (string_bytes e.0)) ∙ is) in
    sym (member_later q e es (λ h. true≢false (sym ((bytes_eq-Decides q key).1 (h ∙ sym same)) ∙ other)))
taken_at false q key e es left is other later = ap (λ r. match_ordering (slice_cmp nat_cmp q (string_bytes e.0)) r (Some (view e.1)) r) later

-- the members of other names keep their values
pub others_stay : (q key : List ℕ) (es : List Entry) → bytes_eq q key ≡ false
    → get_member q (members_view (remove_entry (is_at (λ k. slice_cmp nat_cmp key (string_bytes k))) es)) ≡ get_member q (members_view es)
others_stay q key [] other = refl
others_stay q key (e ∷ es) other = taken_at _ q key e es _ refl other (others_stay q key es other)

-- the object that is left keeps its other members
pub keeps_others : (key : List ℕ) (old new : BTreeMap (String Global) Value) → new.entries ≡ remove_entry (is_at (λ k. slice_cmp nat_cmp key (string_bytes k))) old.entries
    → KeepsOthers key (view (Object old)) (view (Object new))
keeps_others key old new left q other = rw (view-Object old, view-Object new, left) (others_stay q key old.entries other)

step : (here same : Bool) (e : Entry) (es left : List Entry) → here ≡ same → (rest : Members) → members_view left ≡ rest
    → members_view (cond here es (e ∷ left)) ≡ if same then members_view es else member (string_bytes e.0) (view e.1) rest
step true same e es left is rest later = rw (sym is) refl
step false same e es left is rest later = rw (sym is) (ap (member (string_bytes e.0) (view e.1)) later)

-- the members that are left, as they are printed
pub members_left : (key : List ℕ) (es : List Entry) → members_view (remove_entry (is_at (λ k. slice_cmp nat_cmp key (string_bytes k))) es) ≡ without_member key (members_view es)
members_left key [] = refl
members_left key (e ∷ es) = step _ _ e es _ (is_eq-slice_cmp key (string_bytes e.0)) _ (members_left key es)

-- the object that is left is the old one without the member
pub left_of : (key : List ℕ) (old new : BTreeMap (String Global) Value) → new.entries ≡ remove_entry (is_at (λ k. slice_cmp nat_cmp key (string_bytes k))) old.entries
    → view (Object new) ≡ without key (view (Object old))
left_of key old new left = rw (view-Object old, view-Object new, left, members_left key old.entries)

-- no member of that name is left where the map has none
pub is_gone : (key : List ℕ) (new : BTreeMap (String Global) Value) → lookup (is_at (λ k. slice_cmp nat_cmp key (string_bytes k))) new.entries ≡ None → get key (view (Object new)) ≡ None
is_gone key new none = rw (view-Object new) (sym (view-lookup key new.entries) ∙ ap (option_map view) none)
