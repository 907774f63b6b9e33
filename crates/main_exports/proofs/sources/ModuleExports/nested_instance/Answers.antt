use Rattle.std.proofs.Common.{ap}
use Rattle.comp_builder.specs.Built.{Built}
use Rattle.main_exports.proofs.GivenTypes.{nested_entry}
use Rattle.main_exports.proofs.Instances.{adds_instance}
use Rattle.main_exports.proofs.sources.ModuleExports.nested_instance.Goals as goal

pub returns-clause-grows : goal.returns-clause-grows
returns-clause-grows c =
    adds_instance c.args.root.now.world.now c.args.root.now.items.defs c.nested_component.new.self.defs c.nested_instance.new.self.defs c.args.definitions c.args.arguments c.in_ok-component.component c.requires.nested c.requires.of c.requires.right
    (ap (λ (b : Built). b.defs) c.in_ok-component.ensures.adds.1) c.in_ok-component.ensures.at (ap (λ (b : Built). b.defs) c.in_ok-index.ensures.adds.1)

pub returns-clause-made : goal.returns-clause-made
returns-clause-made c = record {
  component = c.in_ok-component.component;
  instance = c.in_ok-index.ensures.at;
  made = Rattle.comp_items.proofs.Kept.at-kept (record { more = _; grown = ap (λ (b : Built). b.defs) c.in_ok-index.ensures.adds.1 }) c.in_ok-component.ensures.at;
}

pub returns-clause-entry : goal.returns-clause-entry
returns-clause-entry c =
    nested_entry c.args.root.now.items.defs c.nested_component.new.self.defs c.nested_instance.new.self.defs c.args.definitions c.in_ok-component.component c.in_ok-index.index c.args.arguments
    (ap (λ (b : Built). b.defs) c.in_ok-component.ensures.adds.1) c.in_ok-component.ensures.at (ap (λ (b : Built). b.defs) c.in_ok-index.ensures.adds.1) c.in_ok-index.ensures.adds.0
