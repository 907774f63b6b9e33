-- What the calls of an encoder make of it: its initial state, and its state after each call that
-- succeeds. The rules are this project's own: the component model's standard defines components,
-- and not how they are made.
use Rattle.std.specs.Prelude.{Bool, List, [], ℕ, ◌++◌, Option, Some, None, true, false}
use Rattle.std.specs.Str.{bytes_eq}
use Rattle.indexmap.specs.IndexMap.{insert_entry}
use Rattle.comp_roles.specs.declared.libraries.LibraryInfo.{LibraryInfo}
use Rattle.world_values.specs.declared.gathered.Part.{Part}
use Rattle.world_values.specs.declared.gathered.ExportKey.{ExportKey}
use Rattle.world_values.specs.declared.options.EncoderOptions.{EncoderOptions}
use Rattle.comp_worlds.specs.declared.lower.Lower as lower
use Rattle.comp_encoder.specs.Encoder.{Encoder}

-- the options of an encoder for which none was set
abbrev pub default_options : EncoderOptions
default_options = record {
  validate = false;
  debug_names = false;
  shim_return_call_ref = false;
  merge_imports_based_on_semver = true;
  emit_canonical_names = false;
  reject_legacy_names = false;
  realloc_via_memory_grow = false;
}

-- the keys that main has to export so far
abbrev pub required_of : {B : Type 0} → Option (Part B) → List ExportKey
required_of None = []
required_of (Some part) = part.required

module _ {L B F : Type 0} (l : lower.Ghosts L B F) where
  -- an encoder without a module
  abbrev pub fresh : L → Encoder L B
  fresh layer = record { lower = layer; gathered = record { main = None; adapters = []; combined = l.empty_is layer; options = default_options }; renamed = [] }

  -- The state after an accepted module: it is main, its keys are required together with those of the modules that
  -- were accepted before it, and its metadata is merged with theirs.
  abbrev pub after_module : Encoder L B → List ℕ → Encoder L B
  after_module e bytes =
      let decoded : List ℕ × B = l.decoded e.lower bytes in
      let merged = l.merged e.lower e.gathered.combined decoded.1 in
      record e {
        gathered = record e.gathered {
          main = Some (record { bytes = decoded.0; own = decoded.1; required = required_of e.gathered.main ++ merged.exports });
          combined = merged.combined;
        };
      }

  -- a further module as the lower layer reads it, with the keys that it has to export, and the
  -- metadata of all modules with its own
  abbrev pub read_part : Encoder L B → List ℕ → Part B × B
  read_part e bytes =
      let decoded : List ℕ × B = l.decoded e.lower bytes in
      let merged = l.merged e.lower e.gathered.combined decoded.1 in
      (record { bytes = decoded.0; own = decoded.1; required = merged.exports }, merged.combined)

  -- The state after an accepted adapter, which is a library where it has arguments: it takes the
  -- place of one of its name, or comes after those that were added before. The keys of this module
  -- alone are required of it, and its metadata is merged with theirs.
  abbrev pub after_adapter : Encoder L B → List ℕ → List ℕ → Option LibraryInfo → Encoder L B
  after_adapter e name bytes info =
      let read = read_part e bytes in
      record e { gathered = record e.gathered { adapters = insert_entry bytes_eq e.gathered.adapters name (record { part = read.0; library_info = info }); combined = read.1 } }

  -- the encoder with `validate` on or off
  abbrev pub validating : Encoder L B → Bool → Encoder L B
  validating e on = record e { gathered = record e.gathered { options = record e.gathered.options { validate = on } } }

  -- the encoder with debug names in generated modules, or without
  abbrev pub naming_generated : Encoder L B → Bool → Encoder L B
  naming_generated e on = record e { gathered = record e.gathered { options = record e.gathered.options { debug_names = on } } }

  -- the encoder with the merging of compatible versions on or off
  abbrev pub merging_versions : Encoder L B → Bool → Encoder L B
  merging_versions e on = record e { gathered = record e.gathered { options = record e.gathered.options { merge_imports_based_on_semver = on } } }

  -- the encoder with the rejection of names in an older mangling on or off
  abbrev pub rejecting_legacy_names : Encoder L B → Bool → Encoder L B
  rejecting_legacy_names e on = record e { gathered = record e.gathered { options = record e.gathered.options { reject_legacy_names = on } } }

  -- the encoder with reallocs that grow the memory on or off
  abbrev pub growing_memory : Encoder L B → Bool → Encoder L B
  growing_memory e on = record e { gathered = record e.gathered { options = record e.gathered.options { realloc_via_memory_grow = on } } }

  -- the encoder with canonical names on or off
  abbrev pub emitting_canonical_names : Encoder L B → Bool → Encoder L B
  emitting_canonical_names e on = record e { gathered = record e.gathered { options = record e.gathered.options { emit_canonical_names = on } } }

  -- the encoder with these names for imported interfaces in place of others
  abbrev pub renaming_imports : Encoder L B → List (List ℕ × List ℕ) → Encoder L B
  renaming_imports e names = record e { renamed = names }
