-- Where an instance is imported or exported, its interface has the name and the key that follow from its text.
use Rattle.std.proofs.Common.{◌≡◌, ℕ, List, slice_get, refl, sym, ap, ◌∙◌}
use Rattle.std.specs.Prelude.{Ok}
use Rattle.comp_bytes.specs.declared.types.ExternName.{ExternName}
use Rattle.record_values.specs.declared.names.InterfaceName.{InterfaceName}
use Rattle.record_values.specs.declared.types.Interface.{Interface}
use Rattle.record_values.specs.declared.world.ItemKey.{ItemKey}
use Rattle.package_types.specs.Named.{plain_name}
use Rattle.package_types.specs.declared.scopes.Entry.{Entry}
use Rattle.wit_packages.specs.declared.state.Side.{Side}
use Rattle.wit_packages.specs.declared.state.State.{State}
use Rattle.wit_packages.specs.Steps.{own, interface_name, interface_key, interface_at, place_interface, instance_step}

pub placed : (side : Side) (s : State) (scope : List Entry) (n : ExternName) (index : ℕ) (text : List ℕ) (key : ItemKey) (name : InterfaceName) (i : Interface) → own (plain_name n) ≡ Ok text → key ≡ interface_key text → name ≡ interface_name side text → scope ≡ s.scope → own (interface_at name (slice_get scope index)) ≡ Ok i
    → place_interface side s key name index i ≡ instance_step side s n index
unfolding instance_step
placed side s scope n index text key name i a b c same d =
    let found : own (interface_at name (slice_get s.scope index)) ≡ Ok i = ap (λ (es : List Entry). own (interface_at name (slice_get es index))) (sym same) ∙ d in
    rw (a, sym c, sym b, found) refl
