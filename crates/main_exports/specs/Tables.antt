-- The tables of a user module's exports by the functions that they belong to, and what is called behind a function by
-- its form. (The rules are this project's own.)
use Rattle.std.specs.Prelude.{◌≡◌, ℕ, List, Option, None}
use Rattle.std.specs.Map.{lookup}
use Rattle.comp_bytes.specs.declared.canon.CanonicalOption.{CanonicalOption}
use Rattle.comp_bytes.specs.declared.canon.CanonicalOption.TheVariants as canonical
use Rattle.comp_roles.specs.Functions.{is_same_function}
use Rattle.comp_roles.specs.Lookups.{Exports}
use Rattle.comp_roles.specs.declared.metadata.FunctionKey.{FunctionKey}
use Rattle.wit_data.specs.declared.functions.AbiVariant.{AbiVariant}
use Rattle.wit_data.specs.declared.functions.AbiVariant.TheVariants as abis
use Rattle.world_values.specs.CoreExports.{lifted_functions, implementations, post_returns, callbacks}
use Rattle.main_exports.specs.declared.tables.EntryTables.{EntryTables}
use Rattle.main_exports.specs.declared.tables.FollowerTables.{FollowerTables}
use Rattle.main_exports.specs.declared.tables.ExportTables.{ExportTables}

-- a look-up in the tables finds what it finds among these exports
pub record AreEntriesOf (exports : Exports) (t : EntryTables) : Type 0 where
  pub implementations : (f : FunctionKey) → lookup (is_same_function f) t.implementations ≡ lookup (is_same_function f) (implementations exports)
  pub forms : (f : FunctionKey) → lookup (is_same_function f) t.forms ≡ lookup (is_same_function f) (lifted_functions exports)

pub record AreFollowersOf (exports : Exports) (t : FollowerTables) : Type 0 where
  pub post_returns : (f : FunctionKey) → lookup (is_same_function f) t.post_returns ≡ lookup (is_same_function f) (post_returns exports)
  pub callbacks : (f : FunctionKey) → lookup (is_same_function f) t.callbacks ≡ lookup (is_same_function f) (callbacks exports)

pub record AreTablesOf (exports : Exports) (t : ExportTables) : Type 0 where
  pub entries : AreEntriesOf exports t.entries
  pub followers : AreFollowersOf exports t.followers

-- what is called behind a function of this form, with this post-return and this callback
abbrev pub follower_in : AbiVariant → Option (List ℕ) → Option (List ℕ) → Option (List ℕ)
follower_in abis.GuestExport post_return callback = post_return
follower_in abis.GuestExportAsync post_return callback = callback
follower_in form post_return callback = None

-- the option of a lift that names it
abbrev pub follower_option : AbiVariant → ℕ → CanonicalOption
follower_option abis.GuestExportAsync index = canonical.Callback index
follower_option form index = canonical.PostReturn index
