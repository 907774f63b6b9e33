-- Instances by their names.
use Rattle.std.proofs.Common.{◌≡◌, ◌∙◌, ℕ, false, List, [], ◌∷◌, ◌++◌, Option, Some, None, is_some, if◌then◌else◌, refl, sym, ap, true≢false}
use Rattle.std.specs.Map.{lookup}
use Rattle.std.specs.Str.{bytes_eq}
use Rattle.indexmap.specs.IndexMap.{insert_entry}
use Rattle.comp_lists.specs.Tables.{with_first}
use Rattle.comp_lists.proofs.TableLemmas.{insert_new}
use Rattle.fixup_modules.specs.declared.instances.ImportedInstance.{ImportedInstance}

none_by : {X : Type 0} (o : Option X) → is_some o ≡ false → o ≡ None
none_by None e = refl
none_by (Some x) e = absurd (true≢false e)

-- a new name comes last
pub first_of_name : (es new : List (List ℕ × ImportedInstance)) (name : List ℕ) (instance : ImportedInstance) → is_some (lookup (bytes_eq name) es) ≡ false → new ≡ insert_entry bytes_eq es name instance → new ≡ with_first bytes_eq es name instance
first_of_name es new name instance absent is =
    is
    ∙ insert_new bytes_eq es name instance (none_by (lookup (bytes_eq name) es) absent)
    ∙ ap (λ b. if b then es else es ++ (name, instance) ∷ []) (sym absent)
