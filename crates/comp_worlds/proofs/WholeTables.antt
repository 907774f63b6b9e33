-- A world of its parts has the tables of a world.
use Rattle.std.proofs.Common.{◌≡◌, refl, sym, subst}
use Rattle.comp_worlds.specs.WorldTables.{HasTables, whole_of}
use Rattle.comp_worlds.specs.declared.world.ComponentWorld.{ComponentWorld}
use Rattle.comp_worlds.specs.declared.world.WorldParts.{WorldParts}

pub whole_has_tables : (p : WorldParts) (w : ComponentWorld) → w ≡ whole_of p → HasTables w
whole_has_tables p w made = subst HasTables (sym made) (record { import_map = refl; live_type_imports = refl; exports_used = refl })
