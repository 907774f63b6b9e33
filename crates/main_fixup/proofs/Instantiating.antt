-- The fixup's module and its instance.
use Rattle.std.proofs.Common.{inr, ◌≡◌, ◌∙◌, ℕ, List, [], ◌∷◌, ◌++◌, ap, subst, append-nil}
use Rattle.std.specs.List.{filter_map}
use Rattle.std.proofs.lemmas.List.Elements.{filter_map-append}
use Rattle.comp_bytes.specs.declared.def.Def.{Def}
use Rattle.comp_bytes.specs.declared.def.Def.TheVariants as defs
use Rattle.comp_bytes.specs.declared.def.Item.TheVariants as items
use Rattle.comp_worlds.specs.declared.world.ComponentWorld.{ComponentWorld}
use Rattle.comp_bytes.specs.declared.def.CoreArgument.{CoreArgument}
use Rattle.comp_terms.specs.Generated.{fixup_number}
use Rattle.comp_terms.specs.Rules.{Landmark, ModuleIs, InstanceOf, InstantiatesFixup, Grows, landmark, landmarks, instance_number, instances_in}
use Rattle.root_imports.specs.Growing.{Grows-by}

-- a module more
pub module_added : (w : ComponentWorld) (old new : List Def) (bytes : List ℕ) → new ≡ old ++ defs.Item (items.CoreModule bytes) ∷ [] → Grows w old new (ModuleIs bytes ∷ [])
module_added w old new bytes appended = Grows-by (defs.Item (items.CoreModule bytes)) appended tt

-- the instances are those from before, where none was made
pub instances_same : {w : ComponentWorld} {old new : List Def} {marks : List Landmark} → Grows w old new marks → filter_map instance_number marks ≡ [] → instances_in new ≡ instances_in old
instances_same {w} {old} {new} {marks} g none =
    let marked : landmarks new ≡ landmarks old ++ marks = ap landmarks g.extended ∙ (filter_map-append landmark old g.more ∙ ap (λ l. landmarks old ++ l) g.marked) in
    ap (λ l. filter_map instance_number l) marked ∙ (filter_map-append instance_number (landmarks old) marks ∙ (ap (λ l. instances_in old ++ l) none ∙ append-nil (instances_in old)))

-- the instance of the fixup more
pub fixup_added : (w : ComponentWorld) (old new : List Def) (index : ℕ) (arguments : List CoreArgument) → InstantiatesFixup w old index arguments → new ≡ old ++ defs.Item (items.CoreInstantiate index arguments) ∷ [] → Grows w old new (InstanceOf (fixup_number w) ∷ [])
fixup_added w old new index arguments h appended = subst (λ n. Grows w old new (InstanceOf n ∷ [])) h.numbered (Grows-by (defs.Item (items.CoreInstantiate index arguments)) appended (inr (inr h)))
