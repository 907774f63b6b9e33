-- The function of an item of a world, found by its key.
use Rattle.std.proofs.Common.{rules, nat_eq, ◌≡◌, ◌∙◌, ℕ, zero, suc, subst, Bool, true, false, ◌&&◌, List, [], ◌∷◌, ◌++◌, refl, sym, ap, Some, cond, length, arith, ◌<◌}
use Rattle.std.specs.List.{IsDistinct, AllByRecursion}
use Rattle.std.specs.Prelude.{get_or}
use Rattle.std.specs.Map.{lookup, keys_of}
use Rattle.std.specs.Option.{option_and_then}
use Rattle.std.specs.Str.{bytes_eq}
use Rattle.std.proofs.lemmas.Slice.Eq.{bytes_eq-Decides}
use Rattle.comp_lists.proofs.Lists.{AllByRecursion-back}
use Rattle.wit_data.specs.Keys.{is_same_key}
use Rattle.wit_data.specs.declared.functions.Function.{Function}
use Rattle.wit_data.specs.declared.worlds.WorldItem.{WorldItem}
use Rattle.wit_data.specs.declared.worlds.WorldItem.TheVariants as items
use Rattle.wit_data.specs.declared.worlds.WorldKey.{WorldKey}
use Rattle.wit_data.specs.declared.worlds.WorldKey.TheVariants as keys
use Rattle.wit_data.specs.Sound.{HasWorld, HasEntry}
use Rattle.wit_data.specs.declared.resolve.Resolve.{Resolve}
use Rattle.wit_data.specs.declared.worlds.World.{World}
use Rattle.comp_worlds.specs.Encodable.{IsEncodable}
use Rattle.comp_worlds.specs.WorldContents.{items_of}
use Rattle.comp_worlds.specs.declared.world.ComponentWorld.{ComponentWorld}
use Rattle.world_values.specs.Items.{no_items, function_in, root_function_at}

abbrev Entries : Type 0
Entries = List (WorldKey × WorldItem)

same_text : (t : List ℕ) → bytes_eq t t ≡ true
same_text t = (bytes_eq-Decides t t).1 refl

-- names that differ, the other way round
apart_text : (a b : List ℕ) → (bytes_eq a b && true) ≡ false → (bytes_eq b a && true) ≡ false
apart_text a b h = by (bytes_eq b a) refl
  where
    by : (x : Bool) → bytes_eq b a ≡ x → (x && true) ≡ false
    by false e = refl
    by true e =
        let same : b ≡ a = (bytes_eq-Decides b a).0 e in
        let yes : (bytes_eq a b && true) ≡ true = ap (λ x. x && true) ((bytes_eq-Decides a b).1 (sym same)) in
        let no = sym yes ∙ h in cc

and_false : (b : Bool) → (b && false) ≡ false
and_false true = refl
and_false false = refl

zero_apart : (n : ℕ) → nat_eq 0 (suc n) ≡ false
zero_apart n = Prim.search rules

apart_key : (k : WorldKey) (text : List ℕ) → is_same_key k (keys.Name text) ≡ false → is_same_key (keys.Name text) k ≡ false
apart_key (keys.Name t) text h = apart_text t text h
apart_key (keys.Interface id) text h = ap (λ b. bytes_eq text [] && b) (zero_apart id.index) ∙ and_false (bytes_eq text [])

-- an entry is found by its name where no key occurs twice
pub entry_found : (done rest : Entries) (text : List ℕ) (item : WorldItem) → IsDistinct is_same_key (keys_of (done ++ (keys.Name text, item) ∷ rest)) → lookup (is_same_key (keys.Name text)) (done ++ (keys.Name text, item) ∷ rest) ≡ Some item
unfolding IsDistinct
entry_found [] rest text item h = ap (λ b. cond (b && true) (Some item) (lookup (is_same_key (keys.Name text)) rest)) (same_text text)
entry_found (d ∷ done) rest text item h =
    ap (λ b. cond b (Some d.1) (lookup (is_same_key (keys.Name text)) (done ++ (keys.Name text, item) ∷ rest))) (apart_key d.0 text (one done h.0))
    ∙ entry_found done rest text item h.1
  where
    one : (es : Entries) → AllByRecursion (λ k. is_same_key d.0 k ≡ false) (keys_of (es ++ (keys.Name text, item) ∷ rest)) → is_same_key d.0 (keys.Name text) ≡ false
    one [] a = a.0
    one (e ∷ es) a = one es a.1

pub function_found : (done rest : Entries) (text : List ℕ) (f : Function) → IsDistinct is_same_key (keys_of (done ++ (keys.Name text, items.Function f) ∷ rest)) → root_function_at (done ++ (keys.Name text, items.Function f) ∷ rest) (keys.Name text) ≡ Some f
function_found done rest text f h = ap (option_and_then function_in) (entry_found done rest text (items.Function f) h)

-- ---- what a sound resolve has

world_at : (r : Resolve) (ws : List World) (n : ℕ) → n < length ws → AllByRecursion (HasWorld r) ws → HasWorld r (get_or ws n no_items)
world_at r [] n l h = absurd (omega (arith, l))
world_at r (x ∷ xs) zero l h = h.0
world_at r (x ∷ xs) (suc n) l h = world_at r xs n (omega (arith, l)) h.1

pub world_sound : (w : ComponentWorld) → IsEncodable w → AllByRecursion (HasEntry w.resolve) (items_of w).imports
world_sound w ok = (world_at w.resolve w.resolve.worlds w.world.index ok.valid.present ok.sound.worlds).imports

pub entry_sound : (w : ComponentWorld) → IsEncodable w → (done rest : Entries) (e : WorldKey × WorldItem) → done ++ e ∷ rest ≡ (items_of w).imports → HasEntry w.resolve e
entry_sound w ok done rest e split = (AllByRecursion-back (HasEntry w.resolve) done (e ∷ rest) (subst (λ es. AllByRecursion (HasEntry w.resolve) es) (sym split) (world_sound w ok))).0
