-- Tables into which all exports were entered.
use Rattle.std.proofs.Common.{◌≡◌, [], rules}
use Rattle.std.specs.Cmp.{IsEquivalence}
use Rattle.std.specs.Cmp.Rules.{comparing}
use Rattle.comp_roles.specs.Functions.{is_same_function}
use Rattle.comp_roles.specs.Lookups.{Exports}
use Rattle.world_values.specs.CoreExports.{lifted_functions, implementations, post_returns, callbacks}
use Rattle.world_values.specs.Tables.{with_all}
use Rattle.main_exports.specs.Tables.{AreEntriesOf, AreFollowersOf, AreTablesOf}
use Rattle.main_exports.specs.declared.tables.EntryTables.{EntryTables}
use Rattle.main_exports.specs.declared.tables.FollowerTables.{FollowerTables}
use Rattle.main_exports.specs.declared.tables.ExportTables.{ExportTables}
use Rattle.world_values.proofs.Entering.{entered}

laws : IsEquivalence is_same_function
laws = search (comparing, rules) depth 12

pub entries_are : (t : EntryTables) (all : Exports) → t.implementations ≡ with_all is_same_function [] (implementations all) → t.forms ≡ with_all is_same_function [] (lifted_functions all) → AreEntriesOf all t
entries_are t all first second = record {
  implementations = entered is_same_function laws t.implementations (implementations all) first;
  forms = entered is_same_function laws t.forms (lifted_functions all) second;
}

pub followers_are : (t : FollowerTables) (all : Exports) → t.post_returns ≡ with_all is_same_function [] (post_returns all) → t.callbacks ≡ with_all is_same_function [] (callbacks all) → AreFollowersOf all t
followers_are t all first second = record {
  post_returns = entered is_same_function laws t.post_returns (post_returns all) first;
  callbacks = entered is_same_function laws t.callbacks (callbacks all) second;
}

pub tables_are : (t : ExportTables) (all : Exports) → AreEntriesOf all t.entries → AreFollowersOf all t.followers → AreTablesOf all t
tables_are t all first second = record { entries = first; followers = second }
