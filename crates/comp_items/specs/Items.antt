-- How a component under construction changes, and what it remembers of its items. (The rules are
-- this project's own: the standard defines components, and not how they are made.)
use Rattle.std.specs.Prelude.{◌≡◌, ◌++◌, [], ◌∷◌, ◌⊎◌, ℕ, List, Some}
use Rattle.std.specs.Map.{lookup}
use Rattle.comp_bytes.specs.ItemIndices.{IsAt}
use Rattle.comp_bytes.specs.Spaces.{kind_space}
use Rattle.comp_bytes.specs.declared.name.Name.{Name}
use Rattle.comp_bytes.specs.declared.types.Alias.TheVariants as aliases
use Rattle.comp_bytes.specs.declared.def.Item.TheVariants as items
use Rattle.comp_bytes.specs.declared.def.Def.{Def}
use Rattle.comp_bytes.specs.declared.def.Def.TheVariants as defs
use Rattle.comp_builder.specs.Built.{Built}
use Rattle.comp_items.specs.AliasKeys.{is_same_alias}
use Rattle.comp_items.specs.declared.alias_key.AliasKey.{AliasKey}

-- definitions and debug names only grew at their ends
pub record Extends (old new : Built) : Type 0 where
  pub more_defs : List Def
  pub more_names : List Name
  pub defs : new.defs ≡ old.defs ++ more_defs
  pub names : new.names ≡ old.names ++ more_names

-- this definition was added, or none, where an earlier one served
abbrev pub MayAdd : List Def → List Def → Def → Type 0
MayAdd old new d = (new ≡ old) ⊎ (new ≡ old ++ d ∷ [])

-- ---- what is remembered

abbrev pub alias_of : AliasKey → Def
alias_of key = defs.Item (items.Alias (aliases.CoreExport key.kind key.instance key.name))

-- each alias by what it names
pub record IsItems (ds : List Def) (aliased : List (AliasKey × ℕ)) : Type 0 where
  pub aliases : (key : AliasKey) (index : ℕ) → lookup (is_same_alias key) aliased ≡ Some index → IsAt ds (kind_space key.kind) index (alias_of key)
