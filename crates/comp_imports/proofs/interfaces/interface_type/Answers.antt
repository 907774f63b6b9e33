use Rattle.std.proofs.Common.{◌≡◌, ℕ, List, slice_index_or}
use Rattle.std.proofs.lemmas.Result.{IfOk-weaker}
use Rattle.wit_data.specs.declared.functions.Function.{Function}
use Rattle.wit_data.specs.declared.ids.InterfaceId.{InterfaceId}
use Rattle.world_values.specs.Items.{functions_of}
use Rattle.comp_imports.proofs.ListedFunctions.{functions_at}
use Rattle.comp_imports.proofs.TypeNeeds.{IsReady, ready, functions_exported, types_exported, exported_names}
use Rattle.comp_imports.proofs.interfaces.interface_type.Goals as goal

pub encode_interface_type-requires : goal.encode_interface_type-requires
encode_interface_type-requires g c =
    let w = c.args.root.now.world.now in
    let here : InterfaceId = c.args.interface in
    let r = c.requires.1 in
    let fs : List (List ℕ × Function) = (slice_index_or c.as_slice.result.now c.args.interface.index c.index-as_slice-interface.result).functions in
    let same : fs ≡ functions_of w.resolve here = functions_at w.resolve here c.as_slice.result.now c.index-as_slice-interface.result c.as_slice.ensures r.1.1.1.0 in
    let h : IsReady w g.place here c.needed_types-needed.result.now c.args.used.now c.args.outer.now fs =
    ready w c.requires.0 c.args.root.now.items.defs here c.args.used.now c.args.outer.now r.1.0 r.1.1.0 r.1.1.1.1.1.0 r.1.1.1.1.1.1.0 r.1.1.1.1.1.1.1 g.place c.needed_types-needed.result.now fs r.0 c.needed_types-needed.ensures same in (
      c.requires.0.sound,
      (h.offered, (h.functions, (h.titled, (h.apart, (h.ascend, (h.known, h.needs)))))),
    )

pub returns-clause-functions : goal.returns-clause-functions
returns-clause-functions g c =
    let w = c.args.root.now.world.now in
    let here : InterfaceId = c.args.interface in
    let r = c.requires.1 in
    let fs : List (List ℕ × Function) = (slice_index_or c.as_slice.result.now c.args.interface.index c.index-as_slice-interface.result).functions in
    let same : fs ≡ functions_of w.resolve here = functions_at w.resolve here c.as_slice.result.now c.index-as_slice-interface.result c.as_slice.ensures r.1.1.1.0 in
    IfOk-weaker c.encode_interface_type.result _ _
    (λ ty h. functions_exported w c.args.root.now.items.defs here c.args.used.now c.args.outer.now r.1.1.1.1.0 r.1.1.1.1.1.0 g.place r.0 c.needed_types-needed.result.now c.needed_types-needed.ensures fs same ty.members h)
    c.encode_interface_type.ensures.functions

pub returns-clause-types : goal.returns-clause-types
returns-clause-types g c =
    let w = c.args.root.now.world.now in
    let here : InterfaceId = c.args.interface in
    let r = c.requires.1 in
    let fs : List (List ℕ × Function) = (slice_index_or c.as_slice.result.now c.args.interface.index c.index-as_slice-interface.result).functions in
    let same : fs ≡ functions_of w.resolve here = functions_at w.resolve here c.as_slice.result.now c.index-as_slice-interface.result c.as_slice.ensures r.1.1.1.0 in
    IfOk-weaker c.encode_interface_type.result _ _
    (λ ty h. types_exported w c.args.root.now.items.defs here c.args.used.now c.args.outer.now r.1.1.1.1.0 r.1.1.1.1.1.0 g.place r.0 c.needed_types-needed.result.now c.needed_types-needed.ensures fs same ty.members h)
    c.encode_interface_type.ensures.exported

pub returns-clause-names : goal.returns-clause-names
returns-clause-names g c =
    let w = c.args.root.now.world.now in
    let here : InterfaceId = c.args.interface in
    let r = c.requires.1 in
    let fs : List (List ℕ × Function) = (slice_index_or c.as_slice.result.now c.args.interface.index c.index-as_slice-interface.result).functions in
    let same : fs ≡ functions_of w.resolve here = functions_at w.resolve here c.as_slice.result.now c.index-as_slice-interface.result c.as_slice.ensures r.1.1.1.0 in
    IfOk-weaker c.encode_interface_type.result _ _
    (λ ty h. exported_names w c.args.root.now.items.defs here c.args.used.now c.args.outer.now r.1.1.1.1.0 r.1.1.1.1.1.0 g.place r.0 c.needed_types-needed.result.now c.needed_types-needed.ensures fs same ty.members h)
    c.encode_interface_type.ensures.names
