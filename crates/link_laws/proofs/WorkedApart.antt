-- Keys and names that are apart, for worked worlds; and a world that exports functions alone exports no interface.
use Rattle.std.proofs.Common.{◌≡◌, Bool, true, false, List, [], ◌∷◌, sym, ap, Some, cond, true≢false, ◌∙◌}
use Rattle.std.proofs.lemmas.Option.{none-some, same_Some}
use Rattle.std.specs.List.{AllByRecursion, IsDistinct}
use Rattle.std.specs.Map.{lookup}
use Rattle.wit_data.specs.Keys.{is_same_key}
use Rattle.wit_data.specs.declared.ids.InterfaceId.{InterfaceId}
use Rattle.wit_data.specs.declared.worlds.WorldItem.{WorldItem}
use Rattle.wit_data.specs.declared.worlds.WorldItem.TheVariants as items
use Rattle.wit_data.specs.declared.worlds.WorldKey.{WorldKey}
use Rattle.comp_worlds.specs.WorldContents.{items_of}
use Rattle.comp_worlds.specs.declared.world.ComponentWorld.{ComponentWorld}
use Rattle.comp_links.specs.Lists.{AreExportsApart}
use Rattle.comp_links.specs.Naming.{Naming}

pub no_keys_apart : IsDistinct is_same_key []
unfolding IsDistinct
no_keys_apart = tt

pub one_key_apart : (key : WorldKey) → IsDistinct is_same_key (key ∷ [])
unfolding IsDistinct
one_key_apart key = (tt, tt)

abbrev pub is_function : WorldItem → Bool
is_function (items.Function f) = true
is_function item = false

no_interface : (es : List (WorldKey × WorldItem)) → AllByRecursion (λ e. is_function e.1 ≡ true) es → (test : WorldKey → Bool) (id : InterfaceId) → lookup test es ≡ Some (items.Interface id) → ⊥
no_interface [] h test id e = absurd (none-some (items.Interface id) e)
no_interface (x ∷ es) h test id e = by (λ k. no_interface es h.1 test id k) (test x.0) e
  where
    by : (lookup test es ≡ Some (items.Interface id) → ⊥) → (b : Bool) → cond b (Some x.1) (lookup test es) ≡ Some (items.Interface id) → ⊥
    by rest true k = let same : is_function x.1 ≡ false = ap is_function (same_Some x.1 (items.Interface id) k) in absurd (true≢false (sym h.0 ∙ same))
    by rest false k = rest k

pub functions_apart : (n : Naming) (w : ComponentWorld) → AllByRecursion (λ e. is_function e.1 ≡ true) (items_of w).exports → AreExportsApart n w
functions_apart n w h a b x y same = absurd (no_interface (items_of w).exports h (is_same_key a) x.0 x.1)
