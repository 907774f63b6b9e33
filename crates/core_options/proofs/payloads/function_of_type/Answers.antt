use Rattle.std.proofs.Common.{◌≡◌, ◌∙◌, Some, ap, is_some, sym, true≢false}
use Rattle.built_ins.proofs.PayloadParts.{call_known}
use Rattle.built_ins.specs.Payloads.{intrinsic_called}
use Rattle.comp_builder.specs.Built.{Built}
use Rattle.comp_bytes.specs.declared.def.Def.TheVariants as defs
use Rattle.comp_bytes.specs.declared.def.Item.TheVariants as items
use Rattle.root_imports.specs.Growing.{Grows-by}
use Rattle.core_options.proofs.PayloadFunctions.{payload_made, payload_right}
use Rattle.core_options.proofs.payloads.function_of_type.Goals as goal

pub returns-clause-grows : goal.returns-clause-grows
returns-clause-grows c =
    let i = c.in-Some.intrinsic in
    let called : intrinsic_called c.args.ty c.args.role.now ≡ Some i = sym c.payload_intrinsic.ensures ∙ c.in-Some.is in
    Grows-by (defs.Item (items.Intrinsic i)) (ap (λ (b : Built). b.defs) c.in_ok-index-in-Some.ensures.adds.1) (payload_right c.args.root.now.items.defs c.args.ty c.args.role.now i called c.requires.known)

pub returns-clause-made : goal.returns-clause-made
returns-clause-made c of tree named denotes =
    let i = c.in-Some.intrinsic in
    let called : intrinsic_called c.args.ty c.args.role.now ≡ Some i = sym c.payload_intrinsic.ensures ∙ c.in-Some.is in
    payload_made c.args.root.now.items.defs c.built_in.new.self.defs c.in_ok-index-in-Some.index c.args.ty c.args.role.now i called c.in_ok-index-in-Some.ensures.made of tree named denotes

pub unreachable-requires : goal.unreachable-requires
unreachable-requires c = true≢false (sym (call_known c.args.ty c.args.role.now c.requires.apart c.requires.called) ∙ ap is_some (sym c.payload_intrinsic.ensures ∙ c.in-None.is))
