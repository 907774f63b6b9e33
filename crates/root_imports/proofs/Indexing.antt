-- The steps of the loops that make look-ups by the name of a function.
use Rattle.std.proofs.Common.{◌≡◌, ◌∙◌, ap, sym, refl, ℕ, Bool, true, false, ◌||◌, List, [], ◌∷◌, ◌++◌, is_some, Option, Some, None, cond, append-nil}
use Rattle.std.specs.Str.{bytes_eq}
use Rattle.comp_lists.specs.Found.{found}
use Rattle.comp_lists.specs.Tables.{with_first}
use Rattle.comp_lists.proofs.Lookups.{found-with_first}

some_or : {X : Type 0} (b : Bool) (v : X) (more : Bool) → (is_some (cond b (Some v) None) || more) ≡ (b || more)
some_or true v more = refl
some_or false v more = refl

some_or_later : {X : Type 0} (b : Bool) (v : X) (o p : Option X) (more later : Bool) → (is_some p || more) ≡ (is_some o || later) → (is_some (cond b (Some v) p) || more) ≡ (is_some (cond b (Some v) o) || later)
some_or_later true v o p more later h = refl
some_or_later false v o p more later h = h

-- whether a name is found with an entry at the end
found_last : {X : Type 0} (name k : List ℕ) (v : X) (table : List (List ℕ × X)) (more : Bool) → (is_some (found name (table ++ (k, v) ∷ [])) || more) ≡ (is_some (found name table) || (bytes_eq name k || more))
found_last name k v [] more = some_or (bytes_eq name k) v more
found_last name k v (e ∷ es) more = some_or_later (bytes_eq name e.0) e.1 (found name es) (found name (es ++ (k, v) ∷ [])) more (bytes_eq name k || more) (found_last name k v es more)

-- a function is used by the imports that were read, with this one, or by the following ones
pub used_step : {X : Type 0} (name k : List ℕ) (v : X) (table : List (List ℕ × X)) (more : Bool) → (is_some (found name (with_first bytes_eq table k v)) || more) ≡ (is_some (found name table) || (bytes_eq name k || more))
used_step name k v table more =
    ap (λ t. is_some (found name t) || more) (sym (append-nil (with_first bytes_eq table k v)))
    ∙ ap (λ o. is_some o || more) (found-with_first name k v table [])
    ∙ found_last name k v table more
