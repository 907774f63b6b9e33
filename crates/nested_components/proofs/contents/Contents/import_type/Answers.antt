use Rattle.std.proofs.Common.{◌≡◌, ◌∙◌, List, [], ◌∷◌, ◌++◌, ℕ, Option, Some, None, ap, sym, subst}
use Rattle.std.specs.Map.{lookup}
use Rattle.std.specs.Str.{bytes_eq}
use Rattle.indexmap.specs.IndexMap.{swap_remove_entry}
use Rattle.wit_data.specs.declared.ids.TypeId.{TypeId}
use Rattle.nested_terms.specs.Naming.{type_import_name}
use Rattle.nested_components.proofs.Naming.{free_absent}
use Rattle.nested_components.proofs.Removing.{last_removed, put_back}
use Rattle.nested_components.proofs.contents.Contents.import_type.Goals as goal

pub insert-requires : goal.insert-requires
insert-requires c =
    subst (λ (n : List ℕ). lookup (bytes_eq n) c.args.self.now.taken ≡ None) (sym c.in_ok-key.ensures) (free_absent c.args.self.now.taken (type_import_name c.args.text.now) c.in_ok-free.free c.in_ok-free.ensures)

pub returns-clause-kept : goal.returns-clause-kept
returns-clause-kept c =
    let old = c.args.self.now.taken in
    let free = c.in_ok-free.free in
    let absent = free_absent old (type_import_name c.args.text.now) free c.in_ok-free.ensures in
    let added : c.insert.new.self ≡ old ++ (free, Some c.args.id) ∷ [] = c.in_ok-insert.ensures.ok ∙ ap (λ (n : List ℕ). old ++ (n, Some c.args.id) ∷ []) c.in_ok-key.ensures in
    let removed : c.remove.new.self ≡ old = c.remove.ensures ∙ (ap (λ (es : List (List ℕ × Option TypeId)). swap_remove_entry (bytes_eq free) es) added ∙ last_removed free (Some c.args.id) old absent) in
    put_back c.args.self.now c.add_import.new.items c.add_import.new.types c.remove.new.self c.in-Err.ensures.kept.0 c.in-Err.ensures.kept.1 removed
