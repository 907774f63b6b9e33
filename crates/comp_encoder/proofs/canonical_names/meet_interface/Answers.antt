use Rattle.std.proofs.Common.{◌≡◌, ◌∙◌, sym, None}
use Rattle.wit_data.specs.Names.{id_name_of}
use Rattle.comp_encoder.proofs.MeetingNames.{id_at, no_name}
use Rattle.comp_encoder.proofs.canonical_names.meet_interface.Goals as goal

pub returns-in-None : goal.returns-in-None
returns-in-None c =
    let r = c.args.resolve.now in
    let none : id_name_of r c.args.id ≡ None = sym (id_at r c.args.id c.as_slice.result.now c.index-as_slice-id.result c.as_slice.ensures c.requires) ∙ c.in-None.is in
    no_name c.args.resolve.now c.args.id c.args.met.now none
