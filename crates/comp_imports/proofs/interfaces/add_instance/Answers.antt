use Rattle.std.proofs.Common.{◌≡◌, ◌∷◌, ◌++◌, ℕ, List, [], ap, subst}
use Rattle.std.specs.List.{flat_map}
use Rattle.comp_bytes.specs.ScopeNames.{member_export}
use Rattle.comp_bytes.specs.declared.def.Def.{Def}
use Rattle.comp_bytes.specs.declared.def.Def.TheVariants as defs
use Rattle.comp_bytes.specs.declared.def.Item.TheVariants as items
use Rattle.comp_bytes.specs.declared.space.Sort.TheVariants as sorts
use Rattle.comp_bytes.specs.declared.types.Description.TheVariants as descriptions
use Rattle.comp_bytes.specs.declared.types.ExternName.{ExternName}
use Rattle.comp_builder.specs.Built.{Built}
use Rattle.comp_inventories.specs.Inventories.{scope_of}
use Rattle.comp_links.specs.Lists.{names_of_interface}
use Rattle.comp_terms.specs.Rules.{Grows, Imported, InstanceTypeOf}
use Rattle.root_imports.specs.Growing.{Grows-by, Grows-then}
use Rattle.comp_imports.proofs.InstanceAdded.{instance_imported, instance_right, two_added, type_added}
use Rattle.comp_imports.proofs.interfaces.add_instance.Goals as goal

pub returns-clause-grows : goal.returns-clause-grows
returns-clause-grows c =
    let s = c.args.root.now in
    let w = s.world.now in
    let mid = c.instance_type.new.self in
    let new = c.import_instance.new.self.defs in
    let ty = c.in_ok-ty.ty in
    let import : Def = defs.Item (items.Import c.in_ok-name.name (descriptions.Instance c.in_ok-index.index)) in
    let appended : mid.defs ≡ s.items.defs ++ defs.Item (items.InstanceType ty) ∷ [] = ap (λ (b : Built). b.defs) c.in_ok-index.ensures.adds.1 in
    let names : flat_map member_export ty.members ≡ names_of_interface w c.args.interface = c.in_ok-ty.ensures.names in
    let one : Grows w s.items.defs mid.defs (InstanceTypeOf (names_of_interface w c.args.interface) ∷ []) = subst (λ (ns : List (List ℕ)). Grows w s.items.defs mid.defs (InstanceTypeOf ns ∷ [])) names (type_added w c.args.key.now c.args.interface s.items mid c.in_ok-index.index ty appended c.in_ok-ty.ensures.members) in
    let two : Grows w mid.defs new (Imported (record { name = c.in_ok-name.name; sort = sorts.Instance }) ∷ []) =
    Grows-by import (ap (λ (b : Built). b.defs) c.in_ok-instance.ensures.adds.1)
    (instance_right w c.args.key.now c.args.interface s.items mid c.in_ok-index.index ty appended c.in_ok-ty.ensures.members (c.requires.next.stated c.requires.some) c.in_ok-index.ensures.made c.in_ok-ty.ensures.types) in
    Grows-then one (subst (λ (n : ExternName). Grows w mid.defs new (Imported (record { name = n; sort = sorts.Instance }) ∷ [])) c.in_ok-name.ensures two)

pub returns-clause-imported : goal.returns-clause-imported
returns-clause-imported c =
    let s = c.args.root.now in
    let mid = c.instance_type.new.self in
    let ty = c.in_ok-ty.ty in
    instance_imported s.world.now c.args.key.now c.args.interface s.items mid c.in_ok-index.index ty (ap (λ (b : Built). b.defs) c.in_ok-index.ensures.adds.1) c.in_ok-ty.ensures.members (c.requires.next.stated c.requires.some) c.in_ok-index.ensures.made
    c.import_instance.new.self c.in_ok-instance.instance (c.in_ok-instance.ensures.imported (scope_of s.items.defs) ty.members c.in_ok-index.ensures.made) c.in_ok-ty.ensures.functions c.in_ok-ty.ensures.types

pub returns-in_err-instance-clause-extends : goal.returns-in_err-instance-clause-extends
returns-in_err-instance-clause-extends c = two_added c.args.root.now.items c.instance_type.new.self c.import_instance.new.self _ _ _ _ _ _ _ _ c.instance_type.ensures.adds c.import_instance.ensures.adds

pub returns-clause-extends : goal.returns-clause-extends
returns-clause-extends c = two_added c.args.root.now.items c.instance_type.new.self c.import_instance.new.self _ _ _ _ _ _ _ _ c.instance_type.ensures.adds c.import_instance.ensures.adds
