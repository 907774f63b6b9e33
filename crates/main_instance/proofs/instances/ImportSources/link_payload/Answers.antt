use Rattle.std.proofs.Common.{◌≡◌, ◌∙◌, Some, false, ap, subst, sym}
use Rattle.std.specs.Option.{option_map}
use Rattle.built_ins.specs.Payloads.{is_access}
use Rattle.main_instance.proofs.PayloadCalls.{apart_from, payload_right, payload_types, payload_given, payload_has_all}
use Rattle.main_instance.specs.Calls.{import_at}
use Rattle.root_imports.proofs.Supplying.{payload_supplied}
use Rattle.shim_plan.specs.Needed.{accessed_payload}
use Rattle.main_instance.proofs.instances.ImportSources.link_payload.Goals as goal

pub give_access-requires-clause-role : goal.give_access-requires-clause-role
give_access-requires-clause-role c = sym c.accessed_of.ensures.same ∙ ap (option_map accessed_payload) c.in-Some.is

pub payload_function-requires-clause-apart : goal.payload_function-requires-clause-apart
payload_function-requires-clause-apart c = apart_from c.args.import.now (sym c.accessed_of.ensures.same ∙ ap (option_map accessed_payload) c.in-None.is)

pub payload_function-requires-clause-of : goal.payload_function-requires-clause-of
payload_function-requires-clause-of c =
    let w = c.args.root.now.world.now in
    let s = c.requires.sources in
    let i = import_at c.args.place c.args.import.now in
    payload_types w s.valid c.args.self.now.user s.user i c.requires.present c.args.info.now c.requires.payload

pub payload_function-requires-clause-supplied : goal.payload_function-requires-clause-supplied
payload_function-requires-clause-supplied c =
    let w = c.args.root.now.world.now in
    let s = c.requires.sources in
    let i = import_at c.args.place c.args.import.now in
    payload_supplied w s.valid c.args.root.now.met s.exports s.ordered c.args.info.now (payload_right w s.valid c.args.self.now.user s.user i c.requires.present c.args.info.now c.requires.payload)

pub returns-in_ok-index-in-None-clause-given : goal.returns-in_ok-index-in-None-clause-given
returns-in_ok-index-in-None-clause-given c =
    let w = c.args.root.now.world.now in
    let s = c.requires.sources in
    let i = import_at c.args.place c.args.import.now in
    let apart : is_access c.args.import.now ≡ false = apart_from c.args.import.now (sym c.accessed_of.ensures.same ∙ ap (option_map accessed_payload) c.in-None.is) in
    payload_given w s.valid c.args.self.now.user s.user i c.requires.present c.args.info.now c.requires.payload apart c.payload_function.new.root.items.defs c.in_ok-index-in-None.index c.in_ok-index-in-None.ensures.made

pub returns-in_ok-index-in-None-clause-supplied : goal.returns-in_ok-index-in-None-clause-supplied
returns-in_ok-index-in-None-clause-supplied c =
    let w = c.args.root.now.world.now in
    let s = c.requires.sources in
    let i = import_at c.args.place c.args.import.now in
    let apart : is_access c.args.import.now ≡ false = apart_from c.args.import.now (sym c.accessed_of.ensures.same ∙ ap (option_map accessed_payload) c.in-None.is) in
    payload_has_all w s.valid c.args.self.now.user s.user i c.requires.present c.args.info.now c.requires.payload apart
