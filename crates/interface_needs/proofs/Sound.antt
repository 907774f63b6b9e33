-- What the resolve of a world has: the functions of its interfaces, and the items of the world.
use Rattle.std.proofs.Common.{ℕ, zero, suc, List, [], ◌∷◌, Contains}
use Rattle.std.specs.List.{AllByRecursion, slice_get}
use Rattle.std.specs.Option.{option_map, unwrap_or}
use Rattle.comp_lists.proofs.Lists.{AllByRecursion-contains}
use Rattle.wit_data.specs.declared.functions.Function.{Function}
use Rattle.wit_data.specs.declared.ids.InterfaceId.{InterfaceId}
use Rattle.wit_data.specs.declared.resolve.Interface.{Interface}
use Rattle.wit_data.specs.declared.resolve.Resolve.{Resolve}
use Rattle.wit_data.specs.declared.worlds.WorldItem.{WorldItem}
use Rattle.wit_data.specs.declared.worlds.WorldKey.{WorldKey}
use Rattle.wit_data.specs.Sound.{HasAll, HasEntry, HasFunction, HasWorld}
use Rattle.wit_data.proofs.Values.{all_at}
use Rattle.world_values.specs.Items.{no_items, functions_of}
use Rattle.comp_worlds.specs.Encodable.{IsEncodable}
use Rattle.comp_worlds.specs.WorldContents.{items_of}
use Rattle.comp_worlds.specs.declared.world.ComponentWorld.{ComponentWorld}

functions_sound : (r : Resolve) (is : List Interface) (n : ℕ) → AllByRecursion (HasAll r) is → AllByRecursion (λ f. HasFunction r f.1) (unwrap_or (option_map (λ i. i.functions) (slice_get is n)) [])
functions_sound r [] n h = tt
functions_sound r (i ∷ is) zero h = h.0.functions
functions_sound r (i ∷ is) (suc n) h = functions_sound r is n h.1

module _ (w : ComponentWorld) (ok : IsEncodable w) where
  pub function_sound : (id : InterfaceId) (name : List ℕ) (f : Function) → Contains (functions_of w.resolve id) (name, f) → HasFunction w.resolve f
  function_sound id name f c = AllByRecursion-contains (λ (e : List ℕ × Function). HasFunction w.resolve e.1) (functions_of w.resolve id) (name, f) (functions_sound w.resolve w.resolve.interfaces id.index ok.sound.interfaces) c

  pub world_sound : HasWorld w.resolve (items_of w)
  world_sound = all_at (HasWorld w.resolve) w.resolve.worlds w.world.index no_items ok.sound.worlds ok.valid.present

  pub import_sound : (e : WorldKey × WorldItem) → Contains (items_of w).imports e → HasEntry w.resolve e
  import_sound e c = AllByRecursion-contains (HasEntry w.resolve) (items_of w).imports e world_sound.imports c

  pub export_sound : (e : WorldKey × WorldItem) → Contains (items_of w).exports e → HasEntry w.resolve e
  export_sound e c = AllByRecursion-contains (HasEntry w.resolve) (items_of w).exports e world_sound.exports c
