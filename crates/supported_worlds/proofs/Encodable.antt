-- A world of which nothing is left out is one that the encoder takes.
use Rattle.std.proofs.Common.{◌≡◌, ◌++◌, List, [], ◌∷◌, None, refl, sym, subst}
use Rattle.std.specs.List.{flat_map, AllByRecursion}
use Rattle.comp_lists.proofs.Lists.{AllByRecursion-weaker}
use Rattle.world_values.specs.Mentions.{HasRole, same_interface, interfaces_of}
use Rattle.comp_worlds.specs.Encodable.{IsEncodable}
use Rattle.comp_worlds.specs.Uses.{imports_of, all_imports}
use Rattle.comp_worlds.specs.WorldTables.{whole_of}
use Rattle.comp_worlds.specs.declared.world.ComponentWorld.{ComponentWorld}
use Rattle.comp_worlds.specs.declared.world.WorldParts.{WorldParts}
use Rattle.comp_worlds.proofs.WholeTables.{whole_has_tables}
use Rattle.supported_worlds.specs.Apart.{AreApart}
use Rattle.supported_worlds.specs.Causes.{role_left_out}
use Rattle.supported_worlds.specs.Guarantees.{IsSoundModule, HasSoundParts}
use Rattle.supported_worlds.specs.LeftOut.{items_of, left_out, required_of, all_required}
use Rattle.supported_worlds.specs.Links.{AreLinked}
use Rattle.supported_worlds.specs.Modules.{module_of}
use Rattle.supported_worlds.proofs.Fresh.{distinct}
use Rattle.supported_worlds.proofs.Keys.{are_once}
use Rattle.supported_worlds.proofs.Order.{ordered, roles_placed}
use Rattle.supported_worlds.proofs.Reporting.{IsAdapterEncoded, IsEncoded, all_encoded, imports_pass}
use Rattle.supported_worlds.proofs.Valid.{whole_is_world}

both : {X : Type 0} (P : X → Type 0) (xs ys : List X) → AllByRecursion P xs → AllByRecursion P ys → AllByRecursion P (xs ++ ys)
both P [] ys h k = k
both P (x ∷ xs) ys h k = (h.0, both P xs ys h.1 k)

each : {A B : Type 0} (P : B → Type 0) (f : A → List B) (xs : List A) → AllByRecursion (λ x. AllByRecursion P (f x)) xs → AllByRecursion P (flat_map f xs)
each P f [] h = tt
each P f (x ∷ xs) h = both P (f x) (flat_map f xs) h.0 (each P f xs h.1)

-- the roles of the imports of all modules name what the resolve has
pub all_roles : (p : WorldParts) → HasSoundParts p → AllByRecursion (λ i. HasRole p.resolve i.role) (all_imports p.main p.adapters)
all_roles p h =
    let main = h.main in
    both (λ i. HasRole p.resolve i.role) (imports_of p.main) (flat_map (λ a. imports_of a.1.info) p.adapters) main.roles
    (each (λ i. HasRole p.resolve i.role) (λ a. imports_of a.1.info) p.adapters
    (AllByRecursion-weaker (λ a (m : IsSoundModule p.resolve p.world (items_of p) (module_of a)). m.roles) p.adapters h.adapters))

-- and none of them is left out
all_pass : (p : WorldParts) → IsEncoded p → AllByRecursion (λ i. role_left_out p i.role ≡ None) (all_imports p.main p.adapters)
all_pass p h =
    let main = h.main in
    both (λ i. role_left_out p i.role ≡ None) (imports_of p.main) (flat_map (λ a. imports_of a.1.info) p.adapters) (imports_pass p p.main.imports.modules main.groups)
    (each (λ i. role_left_out p i.role ≡ None) (λ a. imports_of a.1.info) p.adapters
    (AllByRecursion-weaker (λ a (e : IsAdapterEncoded p a). let m = e.roles in imports_pass p a.1.info.imports.modules m.groups) p.adapters h.adapters))

whole_is_encodable : (p : WorldParts) → HasSoundParts p → AreLinked p → IsEncoded p → AreApart p → IsEncodable (whole_of p)
whole_is_encodable p present linked encoded apart =
    let world = items_of p in
    let once = are_once (all_required p) world encoded.once in
    let order = ordered p.resolve world encoded.order in
    record {
      valid = whole_is_world p present linked encoded apart;
      sound = present.sound;
      tables = whole_has_tables p (whole_of p) refl;
      resources = encoded.resources;
      apart = distinct same_interface (interfaces_of world.imports ++ interfaces_of world.exports) once.interfaces;
      required_apart = distinct same_interface (required_of world.exports (all_required p)) once.required;
      types = order.types;
      imports = order.imports;
      exports = order.exports;
      roles = roles_placed p.resolve world.imports (all_imports p.main p.adapters) (all_pass p encoded);
    }

-- the encoder takes the world of these parts
pub is_encodable : (p : WorldParts) (w : ComponentWorld) → HasSoundParts p → AreLinked p → None ≡ left_out p → AreApart p → w ≡ whole_of p → IsEncodable w
is_encodable p w present linked none apart made = subst IsEncodable (sym made) (whole_is_encodable p present linked (all_encoded p (sym none)) apart)
