use Rattle.std.proofs.Common.{◌≤◌, ◌^◌, ◌∙◌, ap, length, subst}
use Rattle.comp_bytes.specs.Spaces.{items_in}
use Rattle.comp_bytes.specs.declared.space.Space.TheVariants as spaces
use Rattle.comp_links.specs.Modules.{user_modules}
use Rattle.comp_terms.specs.Rules.{Grows, bytes_marked}
use Rattle.comp_worlds.specs.declared.world.ComponentWorld.{ComponentWorld}
use Rattle.comp_state.specs.Encoding.{Encoding, naming_in}
use Rattle.comp_state.proofs.CoreModules.{none_before, users_after}
use Rattle.comp_state.proofs.Growth.{encoding_moved}
use Rattle.comp_state.proofs.state.EncodingState.encode_core_modules.Goals as goal

pub encode_core_modules-requires-clause-none : goal.encode_core_modules-requires-clause-none
encode_core_modules-requires-clause-none c =
    ap (λ (e : Encoding). items_in spaces.CoreModule e.built.defs) c.self.view_is ∙ none_before (naming_in c.args.self.now) c.args.self.now.world c.args.self.now.built.defs c.requires

pub invariant_of-self : goal.invariant_of-self
invariant_of-self c = encoding_moved c.self.inside.root c.encode_core_modules.new.root c.self.inside.step c.self.inside.functions c.self.inside.users c.in_err-encode_core_modules.ensures.same c.in_err-encode_core_modules.ensures.extends c.self.invariant

pub invariant_of-self-2 : goal.invariant_of-self-2
invariant_of-self-2 c = encoding_moved c.self.inside.root c.encode_core_modules.new.root c.self.inside.step c.self.inside.functions c.self.inside.users c.in_ok-encode_core_modules.ensures.same c.in_ok-encode_core_modules.ensures.extends c.self.invariant

pub returns-clause-users : goal.returns-clause-users
returns-clause-users c =
    let w : ComponentWorld = c.args.self.now.world in
    let new = c.encode_core_modules.new.root.items.defs in
    let grows : Grows w c.args.self.now.built.defs new (bytes_marked c.args.self.now.debug_names w) = subst (λ (e : Encoding). Grows e.world e.built.defs new (bytes_marked e.debug_names e.world)) c.self.view_is c.in_ok-encode_core_modules.ensures.grows in
    let room : length (user_modules w) ≤ 2 ^ 32 = subst (λ (e : Encoding). length (user_modules e.world) ≤ 2 ^ 32) c.self.view_is c.in_ok-encode_core_modules.ensures.room in
    users_after (naming_in c.args.self.now) w c.args.self.now.built.defs new c.requires grows room
