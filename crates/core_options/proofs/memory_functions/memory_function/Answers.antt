use Rattle.std.proofs.Common.{◌≡◌, [], ap, subst, sym}
use Rattle.comp_builder.specs.Built.{Built}
use Rattle.comp_bytes.specs.declared.canon.Intrinsic.{Intrinsic}
use Rattle.comp_bytes.specs.declared.def.Def.TheVariants as defs
use Rattle.comp_bytes.specs.declared.def.Item.TheVariants as items
use Rattle.comp_terms.specs.Rules.{IsIntrinsicRight}
use Rattle.root_imports.specs.Growing.{Grows-by}
use Rattle.core_options.proofs.MemoryFunctions.{Made, function_right, function_term}
use Rattle.core_options.specs.MainOptions.{intrinsic_for}
use Rattle.core_options.proofs.memory_functions.memory_function.Goals as goal

pub returns-clause-grows : goal.returns-clause-grows
returns-clause-grows c =
    let ds = c.args.root.now.items.defs in
    let i : Intrinsic = c.intrinsic_of-intrinsic.result in
    let right : IsIntrinsicRight ds i =
    subst (IsIntrinsicRight ds) (sym c.intrinsic_of-intrinsic.ensures) (function_right c.args.root.now.world.now ds c.args.function c.args.memory c.args.options c.requires.memory c.requires.options) in
    Grows-by (defs.Item (items.Intrinsic i)) (ap (λ (b : Built). b.defs) c.in_ok-index.ensures.adds.1) right

pub returns-clause-made : goal.returns-clause-made
returns-clause-made c realloc named =
    let ds = c.args.root.now.items.defs in
    let new = c.built_in.new.self.defs in
    let made : Made ds new c.in_ok-index.index (intrinsic_for c.args.function c.args.memory c.args.options) =
    subst (Made ds new c.in_ok-index.index) c.intrinsic_of-intrinsic.ensures c.in_ok-index.ensures.made in
    function_term c.args.root.now.world.now ds new c.args.function c.args.memory c.args.options c.in_ok-index.index realloc c.requires.memory named made
