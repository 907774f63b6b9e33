use Rattle.main_exports.proofs.exports.interface_component.Given as goal

abbrev pub ghost-nested_component : goal.ghost-nested_component
ghost-nested_component g a = g.origin
