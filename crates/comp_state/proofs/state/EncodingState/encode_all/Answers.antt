use Rattle.std.proofs.Common.{◌≡◌, ◌∙◌, ap, ap₂, subst, sym}
use Rattle.comp_links.specs.Naming.{Naming}
use Rattle.comp_worlds.specs.declared.world.ComponentWorld.{ComponentWorld}
use Rattle.comp_terms.specs.Rules.{Grows, bytes_marked, exports_marked, imports_marked, landmarks}
use Rattle.core_instances.specs.Instances.{AddsInstances}
use Rattle.comp_state.specs.Encoding.{Encoding, naming_in}
use Rattle.comp_state.proofs.Building.{built_by_steps, marked_from}
use Rattle.comp_state.proofs.Exports.{none_exported}
use Rattle.comp_state.proofs.state.EncodingState.encode_all.Goals as goal

pub encode_core_modules-requires : goal.encode_core_modules-requires
encode_core_modules-requires c =
    let w : ComponentWorld = c.args.self.now.world in
    let n : Naming = naming_in c.args.self.now in
    let new = c.encode_imports.new.self in
    let marked : landmarks new.built.defs ≡ imports_marked n w = marked_from w c.args.self.now.built.defs new.built.defs (imports_marked n w) c.requires.empty c.in_ok-encode_imports.ensures.grows in
    marked ∙ ap₂ imports_marked (sym c.in_ok-encode_imports.ensures.names) (sym c.in_ok-encode_imports.ensures.world)

pub encode_exports-requires-clause-none : goal.encode_exports-requires-clause-none
encode_exports-requires-clause-none c =
    let w : ComponentWorld = c.args.self.now.world in
    let first : c.encode_imports.new.self.world ≡ w = c.in_ok-encode_imports.ensures.world in
    let second : c.encode_core_modules.new.self.world ≡ w = ap (λ (e : Encoding). e.world) c.in_ok-encode_core_modules.ensures.same ∙ first in
    let of_state : Grows w c.encode_imports.new.self.built.defs c.encode_core_modules.new.self.built.defs (bytes_marked c.encode_imports.new.self.debug_names w) = rw (← first) c.in_ok-encode_core_modules.ensures.grows in
    let users : Grows w c.encode_imports.new.self.built.defs c.encode_core_modules.new.self.built.defs (bytes_marked c.args.self.now.debug_names w) =
    subst (λ b. Grows w c.encode_imports.new.self.built.defs c.encode_core_modules.new.self.built.defs (bytes_marked b w)) (ap (λ (m : Naming). m.debug_names) c.in_ok-encode_imports.ensures.names) of_state in
    let of_options : AddsInstances w c.encode_core_modules.new.self.debug_names c.encode_core_modules.new.self.built.defs c.encode_core_instantiation.new.self.built.defs = rw (← second) c.in_ok-encode_core_instantiation.ensures.added in
    let same_names : c.encode_core_modules.new.self.debug_names ≡ c.args.self.now.debug_names =
    ap (λ (e : Encoding). e.debug_names) c.in_ok-encode_core_modules.ensures.same ∙ ap (λ (m : Naming). m.debug_names) c.in_ok-encode_imports.ensures.names in
    let instances : AddsInstances w c.args.self.now.debug_names c.encode_core_modules.new.self.built.defs c.encode_core_instantiation.new.self.built.defs =
    subst (λ b. AddsInstances w b c.encode_core_modules.new.self.built.defs c.encode_core_instantiation.new.self.built.defs) same_names of_options in
    none_exported (naming_in c.args.self.now) w c.args.self.now.built.defs c.encode_imports.new.self.built.defs c.encode_core_modules.new.self.built.defs c.encode_core_instantiation.new.self.built.defs c.requires.empty
    c.in_ok-encode_imports.ensures.grows users instances

pub returns-clause-built : goal.returns-clause-built
returns-clause-built c =
    let w : ComponentWorld = c.args.self.now.world in
    let n : Naming = naming_in c.args.self.now in
    let first : c.encode_imports.new.self.world ≡ w = c.in_ok-encode_imports.ensures.world in
    let second : c.encode_core_modules.new.self.world ≡ w = ap (λ (e : Encoding). e.world) c.in_ok-encode_core_modules.ensures.same ∙ first in
    let third : c.encode_core_instantiation.new.self.world ≡ w = c.in_ok-encode_core_instantiation.ensures.world ∙ second in
    let named : naming_in c.encode_core_instantiation.new.self ≡ n =
    c.in_ok-encode_core_instantiation.ensures.names ∙ (ap (λ (e : Encoding). naming_in e) c.in_ok-encode_core_modules.ensures.same ∙ c.in_ok-encode_imports.ensures.names) in
    let of_state : Grows w c.encode_imports.new.self.built.defs c.encode_core_modules.new.self.built.defs (bytes_marked c.encode_imports.new.self.debug_names w) = rw (← first) c.in_ok-encode_core_modules.ensures.grows in
    let users : Grows w c.encode_imports.new.self.built.defs c.encode_core_modules.new.self.built.defs (bytes_marked c.args.self.now.debug_names w) =
    subst (λ b. Grows w c.encode_imports.new.self.built.defs c.encode_core_modules.new.self.built.defs (bytes_marked b w)) (ap (λ (m : Naming). m.debug_names) c.in_ok-encode_imports.ensures.names) of_state in
    let of_options : AddsInstances w c.encode_core_modules.new.self.debug_names c.encode_core_modules.new.self.built.defs c.encode_core_instantiation.new.self.built.defs = rw (← second) c.in_ok-encode_core_instantiation.ensures.added in
    let same_names : c.encode_core_modules.new.self.debug_names ≡ c.args.self.now.debug_names =
    ap (λ (e : Encoding). e.debug_names) c.in_ok-encode_core_modules.ensures.same ∙ ap (λ (m : Naming). m.debug_names) c.in_ok-encode_imports.ensures.names in
    let instances : AddsInstances w c.args.self.now.debug_names c.encode_core_modules.new.self.built.defs c.encode_core_instantiation.new.self.built.defs =
    subst (λ b. AddsInstances w b c.encode_core_modules.new.self.built.defs c.encode_core_instantiation.new.self.built.defs) same_names of_options in
    let exports : Grows w c.encode_core_instantiation.new.self.built.defs c.encode_exports.new.self.built.defs (exports_marked n w) = rw (← third, ← named) c.in_ok-encode_exports.ensures.grows in
    built_by_steps n w c.args.self.now.built.defs c.encode_imports.new.self.built.defs c.encode_core_modules.new.self.built.defs c.encode_core_instantiation.new.self.built.defs c.encode_exports.new.self.built.defs c.requires.empty
    c.in_ok-encode_imports.ensures.grows users instances exports

pub returns-clause-encoded : goal.returns-clause-encoded
returns-clause-encoded c =
    let w : ComponentWorld = c.args.self.now.world in
    let first : c.encode_imports.new.self.world ≡ w = c.in_ok-encode_imports.ensures.world in
    let second : c.encode_core_modules.new.self.world ≡ w = ap (λ (e : Encoding). e.world) c.in_ok-encode_core_modules.ensures.same ∙ first in
    let third : c.encode_core_instantiation.new.self.world ≡ w = c.in_ok-encode_core_instantiation.ensures.world ∙ second in
    record { imports = rw (← second) c.in_ok-encode_core_instantiation.ensures.encoded; exports = rw (← third) c.in_ok-encode_exports.ensures.encoded; lowered = rw (← second) c.in_ok-encode_core_instantiation.ensures.lowered; lifted = rw (← third) c.in_ok-encode_exports.ensures.has; alike = rw (← second) c.in_ok-encode_core_instantiation.ensures.alike; made = rw (← second) c.in_ok-encode_core_instantiation.ensures.in_order; ordered = rw (← second) c.in_ok-encode_core_instantiation.ensures.ordered }
