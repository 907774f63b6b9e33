-- Which aliases are of the same core export: those of one instance, one kind and one name (component model, explainer:
-- alias definitions).
use Rattle.std.specs.Prelude.{ℕ, Bool, nat_eq}
use Rattle.std.specs.Ordering.{on, eq_of_both}
use Rattle.std.specs.Str.{bytes_eq}
use Rattle.standard_kinds.specs.declared.kinds.ExportKind.{ExportKind}
use Rattle.standard_kinds.specs.declared.kinds.ExportKind.TheVariants as kinds
use Rattle.comp_items.specs.declared.alias_key.AliasKey.{AliasKey}

-- the kinds, by number
abbrev pub kind_number : ExportKind → ℕ
kind_number kinds.Func = 0
kind_number kinds.Table = 1
kind_number kinds.Memory = 2
kind_number kinds.Global = 3

abbrev pub is_same_alias : AliasKey → AliasKey → Bool
is_same_alias = eq_of_both (eq_of_both (on (λ k. k.instance) nat_eq) (on (λ k. kind_number k.kind) nat_eq)) (on (λ k. k.name) bytes_eq)
