-- Tables by name that find what the first entry of that name in a list has. (No standard speaks of them.)
use Rattle.std.specs.Prelude.{◌≡◌, ℕ, List, option_copied}
use denote.Bor.{Bor}
use Rattle.comp_lists.specs.Found.{found}
use Rattle.comp_roles.specs.declared.libraries.Instance.{Instance}
use Rattle.comp_roles.specs.declared.libraries.Instance.TheVariants as arguments
use Rattle.comp_roles.specs.declared.libraries.Item.{Item}
use Rattle.record_imports.specs.Arguments.{Arguments, argument_for, item_under}

pub record FindsItems (items : List Item) (table : List (List ℕ × Bor Item)) : Type 0 where
  pub finds : (alias : List ℕ) → option_copied (found alias table) ≡ item_under items alias

-- the table of an instance that has items
abbrev pub HasItems : Instance → List (List ℕ × Bor Item) → Type 0
HasItems (arguments.MainOrAdapter which) table = Unit {0}
HasItems (arguments.Items items) table = FindsItems items table

pub record FindsArguments (list : Arguments) (table : List (List ℕ × Instance)) : Type 0 where
  pub finds : (name : List ℕ) → found name table ≡ argument_for list name
