use Rattle.std.proofs.Common.{◌∙◌, ap, subst, sym}
use Rattle.comp_terms.specs.Rules.{Grows, imports_marked}
use Rattle.comp_state.specs.Encoding.{Encoding, naming_in}
use Rattle.comp_state.specs.Tables.{IsEncoding}
use Rattle.comp_state.specs.declared.state.Step.TheVariants.{Imported}
use Rattle.comp_state.proofs.Building.{no_definitions}
use Rattle.comp_state.proofs.Growth.{encoding-started, encoding-imported}
use Rattle.comp_state.proofs.state.EncodingState.encode_imports.Goals as goal

pub import_all-requires-clause-first : goal.import_all-requires-clause-first
import_all-requires-clause-first c = no_definitions c.self.inside.root.items.defs (ap (λ (e : Encoding). e.built.defs) c.self.view_is ∙ c.requires.empty)

pub invariant_of-self : goal.invariant_of-self
invariant_of-self c =
    let new = c.import_all.new.root in
    let in' = c.self.inside in
    subst (λ r. IsEncoding r.now new.met new.items.defs new.maps new.instances in'.step in'.functions in'.users) (sym c.in_err-functions.ensures.world)
    (encoding-started c.in_err-functions.ensures.extends (ap (λ (e : Encoding). e.step) c.self.view_is ∙ c.requires.started) c.self.invariant)

pub invariant_of-self-2 : goal.invariant_of-self-2
invariant_of-self-2 c =
    let new = c.import_all.new.root in
    let in' = c.self.inside in
    let i = c.in_ok-functions.ensures in
    subst (λ r. IsEncoding r.now new.met new.items.defs new.maps new.instances Imported c.in_ok-functions.functions in'.users) (sym i.world)
    (encoding-imported (record { valid = c.self.invariant.valid; imports = i.imports; used = i.found; tables = i.tables; passed = i.passed }) c.self.invariant)

pub returns-clause-grows : goal.returns-clause-grows
returns-clause-grows c =
    subst (λ (e : Encoding). Grows e.world e.built.defs c.import_all.new.root.items.defs (imports_marked (naming_in e) e.world)) c.self.view_is c.in_ok-functions.ensures.grows

pub returns-clause-names : goal.returns-clause-names
returns-clause-names c = ap (λ (e : Encoding). naming_in e) c.self.view_is
