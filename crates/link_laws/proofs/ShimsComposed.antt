-- A worked example: the list with shims is composed as the world says, where the generated modules'
-- counts and sizes are below 2 ^ 32.
use Rattle.comp_links.specs.Naming.{own_names}
use Rattle.std.proofs.Common.{[], ◌∷◌, map, refl, arith}
use Rattle.std.specs.List.{IsDistinct, flat_map}
use Rattle.std.specs.Str.{bytes_eq}
use Rattle.core_bytes.specs.declared.entry.Export.{Export}
use Rattle.comp_runs.specs.Instances.{section_exports}
use Rattle.core_bytes.specs.Modules.{Encodes}
use Rattle.link_laws.specs.Composition.{IsComposed}
use Rattle.comp_bytes.proofs.Worked.{root}
use Rattle.core_bytes.proofs.Worked as given
use Rattle.link_laws.proofs.Stores.{main_module}
use Rattle.link_laws.proofs.Ordered.{named_as, named_none}
use Rattle.link_laws.proofs.WorkedShims.{world, generated, shims, fixup, whole, shims_bytes, fixup_bytes}

shims_once : IsDistinct bytes_eq (map (λ (e : Export). e.name) (flat_map section_exports shims))
unfolding IsDistinct
shims_once = ((refl, (refl, tt)), ((refl, tt), (tt, tt)))

fixup_once : IsDistinct bytes_eq (map (λ (e : Export). e.name) (flat_map section_exports (fixup (0 ∷ 1 ∷ []))))
unfolding IsDistinct
fixup_once = tt

pub straight_is_composed : Encodes shims_bytes shims → Encodes (fixup_bytes (0 ∷ 1 ∷ [])) (fixup (0 ∷ 1 ∷ [])) → IsComposed own_names world (generated (0 ∷ 1 ∷ [])) (whole (0 ∷ 1 ∷ []))
straight_is_composed shims_encoded fixup_encoded = record {
  generated = shims_bytes ∷ fixup_bytes (0 ∷ 1 ∷ []) ∷ [];
  modules = refl;
  encoded = (shims_encoded, (fixup_encoded, tt));
  sections = (record { ordered = (omega arith, (omega arith, (omega arith, (omega arith, (omega arith, refl))))); once = shims_once; typed = (tt, (tt, (((refl, omega arith), tt), (tt, (tt, tt))))); declared = tt }, (record { ordered = (omega arith, (omega arith, (omega arith, refl))); once = fixup_once; typed = (tt, ((tt, (tt, ((refl, omega arith), tt))), (tt, tt))); declared = tt }, tt));
  imports = refl;
  exports = refl;
  instances = refl;
  customs = record { front = whole (0 ∷ 1 ∷ []); names = []; whole = refl; none_before = refl; named = tt };
  sound = (tt, (tt, (tt, (tt, (tt, (tt, (named_none world 1 [] refl, (tt, (tt, (tt, (named_as world 0 (main_module world) (record { name = root; instance = 1 } ∷ []) refl refl, (tt, (tt, (tt, (tt, (tt, (named_none world 2 (record { name = given.actual; instance = 3 } ∷ record { name = given.shim; instance = 4 } ∷ []) refl, tt)))))))))))))))));
  nested_names = refl;
  instance_types = refl;
}
