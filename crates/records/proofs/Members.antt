-- What is found in an object from which other members were taken.
use Rattle.std.proofs.Common.{◌≡◌, List, ℕ, false, bytes_eq, refl, codes, ◌∙◌}
use Rattle.serde_json.specs.Data.{Data}
use Rattle.serde_json.specs.Find.{get}
use Rattle.json_paths.specs.Taking.{KeepsOthers}
use Rattle.record_worlds.specs.Items.{world_items_of}
use Rattle.record_worlds.specs.Worlds.{world_of}
use Rattle.records.specs.Equalities.{same_interface}

-- the world is read from its three members alone
same_members : (old new : Data) → get (codes "interfaces") new ≡ get (codes "interfaces") old → get (codes "imports") new ≡ get (codes "imports") old → get (codes "exports") new ≡ get (codes "exports") old
    → world_of same_interface new ≡ world_of same_interface old
unfolding world_of world_items_of
same_members old new interfaces imports exports = rw (interfaces, imports, exports)

pub same_world : (old middle new : Data) → KeepsOthers (codes "core-imports") old middle → KeepsOthers (codes "core-exports") middle new → world_of same_interface new ≡ world_of same_interface old
same_world old middle new first second =
    same_members old new
    (second (codes "interfaces") refl ∙ first (codes "interfaces") refl)
    (second (codes "imports") refl ∙ first (codes "imports") refl)
    (second (codes "exports") refl ∙ first (codes "exports") refl)
