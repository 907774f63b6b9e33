-- The options of a call that needs no memory name nothing that a module exports.
use Rattle.std.proofs.Common.{◌≡◌, ◌∙◌, ℕ, false, List, Option, Some, None, refl, sym, true≢false}
use Rattle.std.specs.Option.{option_map_or}
use Rattle.wit_data.specs.declared.functions.AbiVariant.{AbiVariant}
use Rattle.wit_data.specs.declared.functions.Function.{Function}
use Rattle.wit_data.specs.declared.types.TypeDef.{TypeDef}
use Rattle.comp_lists.specs.Found.{found}
use Rattle.comp_roles.specs.declared.imports.Import.{Import}
use Rattle.comp_roles.specs.declared.imports.Import.TheVariants as imports
use Rattle.comp_roles.specs.declared.payloads.PayloadFuncKind.TheVariants as ends
use Rattle.comp_options.specs.Options.{needs, import_set}
use Rattle.comp_options.proofs.ImportSets.{memory_accessed, no_realloc_needed, no_realloc_returned}
use Rattle.world_values.specs.Items.{functions_of, root_function_at}
use Rattle.comp_worlds.specs.WorldContents.{items_of}
use Rattle.comp_worlds.specs.declared.world.ComponentWorld.{ComponentWorld}
use Rattle.comp_links.specs.Links.{lower_needs}
use Rattle.shim_targets.specs.CallOptions.{NamesNoExport}

function_without : (abi : AbiVariant) (types : List TypeDef) (o : Option Function) → needs (option_map_or (import_set abi types) o 0) 1 ≡ false → NamesNoExport (option_map_or (import_set abi types) o 0)
function_without abi types None e = record { memory = refl; realloc = refl }
function_without abi types (Some f) e = record { memory = e; realloc = no_realloc_needed abi types f e }

pub role_without : (w : ComponentWorld) (role : Import) → needs (lower_needs w role) 1 ≡ false → NamesNoExport (lower_needs w role)
role_without w (imports.WorldFunc key function abi) e = function_without abi w.resolve.types (root_function_at (items_of w).imports key) e
role_without w (imports.InterfaceFunc key id function abi) e = function_without abi w.resolve.types (found function (functions_of w.resolve id)) e
role_without w (imports.ExportedTaskReturn key interface f) e = record { memory = e; realloc = no_realloc_returned w.resolve.types f }
role_without w imports.WaitableSetWait e = absurd (true≢false e)
role_without w imports.WaitableSetPoll e = absurd (true≢false e)
role_without w (imports.ErrorContextNew own) e = absurd (true≢false e)
role_without w (imports.ErrorContextDebugMessage own) e = absurd (true≢false e)
role_without w (imports.StreamRead p is_async) e = absurd (true≢false (sym (memory_accessed w.resolve.types p.ty ends.StreamRead is_async) ∙ e))
role_without w (imports.StreamWrite p is_async) e = absurd (true≢false (sym (memory_accessed w.resolve.types p.ty ends.StreamWrite is_async) ∙ e))
role_without w (imports.FutureRead p is_async) e = absurd (true≢false (sym (memory_accessed w.resolve.types p.ty ends.FutureRead is_async) ∙ e))
role_without w (imports.FutureWrite p is_async) e = absurd (true≢false (sym (memory_accessed w.resolve.types p.ty ends.FutureWrite is_async) ∙ e))
role_without w role e = record { memory = refl; realloc = refl }
