-- The stub's world is a validated one that the encoder takes, and the stub refuses no good module.
use Rattle.std.proofs.Common.{◌≡◌, ℕ, List, map, refl, subst, sym, ap, take, inl, inr, [], ◌∷◌, arith, length, ◌<◌, Some, Result, Ok, Err}
use Rattle.std.specs.Prelude.{⊤, codes, Contains, IfOk, IsOk}
use Rattle.std.specs.Option.{option_map}
use Rattle.comp_worlds.specs.Gathering.{gathered_module, HasModules}
use Rattle.world_values.specs.declared.gathered.Part.{Part}
use Rattle.std.specs.List.{IsDistinct, AllByRecursion}
use Rattle.std.specs.Str.{bytes_eq}
use Rattle.world_values.specs.declared.gathered.Gathered.{Gathered}
use Rattle.comp_worlds.specs.declared.world.ComponentWorld.{ComponentWorld}
use Rattle.comp_worlds.specs.declared.world.WorldParts.{WorldParts}
use Rattle.world_values.specs.Mentions.{HasRole, same_interface}
use Rattle.comp_worlds.specs.Uses.{all_imports}
use Rattle.core_types.specs.Core.{core_preamble}
use Rattle.comp_worlds.specs.Encodable.{IsEncodable}
use Rattle.comp_worlds.specs.Worlds.{IsResource, IsWorld}
use Rattle.comp_worlds.specs.WorldTables.{HasTables}
use Rattle.comp_worlds.proofs.WholeTables.{whole_has_tables}
use Rattle.comp_encoder.specs.Encoder.{main_bytes}
use Rattle.wit_data.specs.Keys.{is_same_key}
use Rattle.wit_data.specs.Values.{values_from}
use Rattle.wit_data.specs.Sizes.{AreSmall}
use Rattle.wit_data.specs.Sound.{IsSound}
use Rattle.wit_data.specs.declared.worlds.WorldKey.{WorldKey}
use Rattle.wit_data.specs.declared.worlds.WorldKey.TheVariants as keys
use Rattle.tests_of_encoder.specs.Stub.{stub_role, stub_resolve, stub_parts, stub_world, PrepareCause}
use Rattle.tests_of_encoder.specs.declared.layers.StubFault.{StubFault}
use Rattle.tests_of_encoder.specs.declared.layers.StubFault.TheVariants as faults
use Rattle.tests_of_encoder.specs.declared.layers.StubLower.TheVariants as layers

alone : (x : List ℕ) → IsDistinct bytes_eq (x ∷ [])
unfolding IsDistinct
alone x = (tt, tt)

one_key : (key : WorldKey) → IsDistinct is_same_key (key ∷ [])
unfolding IsDistinct
one_key key = (tt, tt)

no_key : IsDistinct is_same_key []
unfolding IsDistinct
no_key = tt

none : IsDistinct bytes_eq []
unfolding IsDistinct
none = tt

small : AreSmall []
unfolding values_from
small = record { labels = tt; nodes = tt; levels = tt }

sound : IsSound stub_resolve
sound = record {
  back = tt;
  small = small;
  owners = tt;
  interfaces = tt;
  worlds = (record { imports = ((tt, record { resource = tt; params = tt; result = tt }), tt); exports = tt }, tt);
}

pub parts_sound : (p : WorldParts) (bytes : List ℕ) → p ≡ stub_parts bytes → IsSound p.resolve
unfolding stub_parts
parts_sound p bytes is = subst (λ (x : WorldParts). IsSound x.resolve) (sym is) sound

pub parts_exist : (p : WorldParts) (bytes : List ℕ) → p ≡ stub_parts bytes → p.world.index < length p.resolve.worlds
unfolding stub_parts
parts_exist p bytes is = subst (λ (x : WorldParts). x.world.index < length x.resolve.worlds) (sym is) (omega arith)

pub parts_roles : (p : WorldParts) (bytes : List ℕ) → p ≡ stub_parts bytes → AllByRecursion (λ i. HasRole p.resolve i.role) (all_imports p.main p.adapters)
unfolding stub_parts
parts_roles p bytes is = subst (λ (x : WorldParts). AllByRecursion (λ i. HasRole x.resolve i.role) (all_imports x.main x.adapters)) (sym is) (tt, tt)

no_resource : (n : ℕ) → IsResource [] n → Contains [] n
no_resource n h = let within = h.present in absurd (omega (arith, within))

valid_of : (bytes : List ℕ) → take 8 bytes ≡ core_preamble → IsWorld (stub_world bytes)
unfolding stub_parts stub_world
valid_of bytes core = record {
  present = omega arith;
  imports = (refl, tt);
  exports = tt;
  import_keys_apart = one_key (keys.Name (codes "f"));
  import_names_apart = alone (codes "f");
  export_keys_apart = no_key;
  export_names_apart = none;
  exports_named = tt;
  exported_interfaces_apart = none;
  main = record {
    core = core;
    modules_apart = alone (codes "$root");
    import_roles = ((alone (codes "f"), (((0, omega arith, refl), refl, tt), tt)), tt);
    own_keys = (tt, tt);
    imported = (inl (record { role = stub_role; has_role = refl; fits = refl }), tt);
    export_roles = tt;
    exported = tt;
    required = tt;
  };
  main_first = ((tt, tt), tt);
  adapters = tt;
  adapters_apart = none;
  keys_apart = no_key;
}

none_twice : IsDistinct same_interface []
unfolding IsDistinct
none_twice = tt

-- the encoder takes it: it has neither types nor interfaces
encodable_of : (bytes : List ℕ) → take 8 bytes ≡ core_preamble → IsEncodable (stub_world bytes)
unfolding stub_parts stub_world
encodable_of bytes core = record {
  valid = valid_of bytes core;
  sound = sound;
  tables = record { import_map = refl; live_type_imports = refl; exports_used = refl };
  resources = record { ordered = tt; each = λ n h alone. no_resource n h };
  apart = none_twice;
  required_apart = none_twice;
  types = λ n l. absurd (omega (arith, l));
  imports = (record { params = tt; result = omega arith }, tt);
  exports = tt;
  roles = (tt, tt);
}

pub encodable : (w : ComponentWorld) (bytes : List ℕ) → w ≡ stub_world bytes → take 8 bytes ≡ core_preamble → IsEncodable w
encodable w bytes is core = subst IsEncodable (sym is) (encodable_of bytes core)

pub tables : (w : ComponentWorld) (bytes : List ℕ) → w ≡ stub_world bytes → HasTables w
unfolding stub_world
tables w bytes is = whole_has_tables (stub_parts bytes) w is

pub no_cause : (g : Gathered ⊤) (f : StubFault) → (take 8 (main_bytes g.main) ≡ core_preamble) × (g.adapters ≡ []) → ¬ PrepareCause layers.NoEncoding g f
no_cause g faults.Memory core h = h
no_cause g (faults.Gathered adapters) core h = cc
no_cause g faults.Refused core (inl h) = cc
no_cause g faults.Refused core (inr (inl h)) = h core.0
no_cause g faults.Refused core (inr (inr h)) = h core.1

-- the stub's world has the module that was gathered
modules_of : (g : Gathered ⊤) (part : Part ⊤) → g.main ≡ Some part → g.adapters ≡ [] → HasModules g (stub_world part.bytes)
unfolding stub_parts stub_world
modules_of g part main alone = record { main = ap (option_map (λ (p : Part ⊤). p.bytes)) main; adapters = ap (map gathered_module) alone }

pub with_modules : (g : Gathered ⊤) (part : Part ⊤) (r : Result ComponentWorld StubFault) → g.main ≡ Some part → IfOk r (λ w. w ≡ stub_world part.bytes) → (IsOk r → (take 8 part.bytes ≡ core_preamble) × (g.adapters ≡ [])) → IfOk r (HasModules g)
with_modules g part (Ok w) main is passed = subst (HasModules g) (sym is) (modules_of g part main (passed refl).1)
with_modules g part (Err f) main is passed = tt
