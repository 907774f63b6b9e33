use Rattle.std.proofs.Common.{◌≡◌, ◌∙◌, Some, ap, subst, sym, rules}
use Rattle.comp_bytes.specs.declared.types.Alias.TheVariants as aliases
use Rattle.comp_bytes.specs.declared.def.Item.TheVariants as items
use Rattle.comp_bytes.specs.declared.def.Def.TheVariants as defs
use Rattle.standard_kinds.specs.declared.kinds.ExportKind.TheVariants as kinds
use Rattle.comp_items.specs.Items.{MayAdd}
use Rattle.comp_terms.specs.Generated.{shims_number}
use Rattle.comp_terms.specs.Terms.{IsInstanceOf}
use Rattle.shim_plan.specs.Plans.{shim_of}
use Rattle.world_shims.specs.WorldShims.{shims_of}
use Rattle.main_instance.specs.Sources.{IsShimInstance}
use Rattle.main_instance.proofs.Giving.{shim_alias_grows}
use Rattle.main_instance.proofs.Instantiating.{has_by_kind, instance_there}
use Rattle.main_instance.proofs.shims.shim_alias.Goals as goal

pub unwrap-instance-requires : goal.unwrap-instance-requires
unwrap-instance-requires c =
    let w = c.args.root.now.world.now in
    let there : shim_of c.args.kind.now (shims_of w) ≡ Some c.in-Some.shim.now = ap (shim_of c.args.kind.now) (sym c.requires.shims) ∙ search rules in
    instance_there w c.args.root.now.items.defs c.args.shim_instance c.requires.made (has_by_kind w c.args.kind.now c.in-Some.shim.now there)

pub returns-clause-grows : goal.returns-clause-grows
returns-clause-grows c =
    let w = c.args.root.now.world.now in
    let there : shim_of c.args.kind.now (shims_of w) ≡ Some c.in-Some.shim.now = ap (shim_of c.args.kind.now) (sym c.requires.shims) ∙ search rules in
    let known : c.args.shim_instance ≡ Some c.unwrap-instance.result = search rules in
    let made : IsInstanceOf c.args.root.now.items.defs c.unwrap-instance.result (shims_number w) = subst (IsShimInstance w c.args.root.now.items.defs) known c.requires.made in
    let adds : MayAdd c.args.root.now.items.defs c.named_function.new.self.defs (defs.Item (items.Alias (aliases.CoreExport kinds.Func c.unwrap-instance.result c.in-Some.shim.now.name))) =
    subst (λ n. MayAdd c.args.root.now.items.defs c.named_function.new.self.defs (defs.Item (items.Alias (aliases.CoreExport kinds.Func c.unwrap-instance.result n)))) c.as_str-2.ensures c.in_ok-index.ensures.adds in
    shim_alias_grows w c.requires.valid c.args.root.now.items.defs c.named_function.new.self.defs c.args.kind.now c.in-Some.shim.now c.unwrap-instance.result there made adds
