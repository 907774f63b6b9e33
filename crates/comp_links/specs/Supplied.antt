-- What core imports need beside what the link table names (Canonical ABI: `string-encoding`,
-- `realloc`; core standard: memories).
use Rattle.std.specs.Prelude.{◌≡◌, false, IsTrue, IsSome}
use Rattle.comp_options.specs.Options.{needs, realloc_bit}
use Rattle.comp_roles.specs.declared.imports.Import.{Import}
use Rattle.comp_worlds.specs.Offered.{shared_memory, memory_of_main}
use Rattle.comp_worlds.specs.declared.world.ComponentWorld.{ComponentWorld}
use Rattle.comp_links.specs.Links.{lower_needs, role_realloc, is_always_shimmed}
use Rattle.comp_links.specs.Roles.{needs_encoding, import_encoding, is_main_memory}
use Rattle.comp_links.specs.Targets.{UserModule}

-- an import has what it needs before the modules are instantiated: where it is called with a string
-- encoding, it has one; where it is main's memory, main has one; and where it is lowered with a
-- realloc before main is instantiated, since main imports its memory, and not always behind its
-- module, there is one
pub record IsSuppliedImport (w : ComponentWorld) (of : UserModule) (role : Import) : Type 0 where
  pub encoding : IsTrue (needs_encoding role) → IsSome (import_encoding w of role)
  pub memory : IsTrue (is_main_memory role) → IsSome (memory_of_main w.main)
  pub realloc : IsSome (shared_memory w) → is_always_shimmed w role ≡ false → IsTrue (needs (lower_needs w role) realloc_bit) → IsSome (role_realloc w of role)
