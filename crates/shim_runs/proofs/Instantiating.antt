-- The instance of a generated module.
use Rattle.std.proofs.Common.{◌≡◌, ◌∙◌, ℕ, List, map, Option, Some, ap}
use Rattle.std.specs.List.{flat_map}
use Rattle.std.specs.Option.{option_and_then}
use Rattle.core_bytes.specs.declared.entry.Import.{Import as CoreImport}
use Rattle.core_bytes.specs.declared.section.Section.{Section}
use Rattle.core_runs.specs.Store as core
use Rattle.core_runs.specs.Instances.{Given, Made, Parts, instance_of, started}
use Rattle.core_runs.specs.Sections.{parts_of}
use Rattle.comp_runs.specs.Store.{Thing, Export}
use Rattle.comp_runs.specs.Machine.{Machine, Next, Outcome, all_some, with_some, resumed}
use Rattle.comp_runs.specs.Instances.{Arguments, argument_for, entity_kind, external, export_at, section_imports, section_exports, with_module_instance, instantiate_generated}
use Rattle.shim_runs.specs.ShimRuns.{with_code}

-- All imports are found, the instance is made, its exports exist, and its start function ends like this.
pub record IsMade (ss : List Section) (arguments : Arguments) (m : Machine) (given : List Thing) (made : Made) (exports : List Export) (outcome : core.Outcome) : Type 0 where
  pub parts : Parts
  pub externals : List Given
  pub found : all_some (map (λ (i : CoreImport). argument_for arguments (entity_kind i.entity) i.module_name i.field) (flat_map section_imports ss)) ≡ Some given
  pub external_values : all_some (map external given) ≡ Some externals
  pub parts_are : parts_of ss ≡ parts
  pub is_made : instance_of parts externals m.store.code m.now ≡ Some made
  pub exported : all_some (map (export_at made.frame) (flat_map section_exports ss)) ≡ Some exports
  pub starts : started parts made ≡ outcome

-- Then the run goes on with it.
pub made_runs : (ss : List Section) (number : ℕ) (arguments : Arguments) (m : Machine) (given : List Thing) (made : Made) (exports : List Export) (outcome : core.Outcome) → IsMade ss arguments m given made exports outcome → (next : Next) → instantiate_generated ss number arguments m next
    ≡ resumed outcome (record m { store = record m.store { code = made.store } }) (λ values after. next (with_module_instance (record { module_number = number; given = given; exports = exports }) after))
made_runs ss number arguments m given made exports outcome h next =
    let instance : List Thing → List Export → Machine → Outcome = λ g es after. next (with_module_instance (record { module_number = number; given = g; exports = es }) after) in
    let goes_on : Parts → List Thing → Made → List Export → Outcome = λ p g x es. resumed (started p x) (record m { store = with_code m.store x.store }) (λ values after. instance g es after) in
    let exporting : Parts → List Thing → Made → Outcome = λ p g x. with_some (all_some (map (export_at x.frame) (flat_map section_exports ss))) (goes_on p g x) in
    let making : Parts → List Thing → Option (List Given) → Outcome = λ p g es. with_some (option_and_then (λ externals. instance_of p externals m.store.code m.now) es) (exporting p g) in
    ap (λ p. with_some (all_some (map (λ (i : CoreImport). argument_for arguments (entity_kind i.entity) i.module_name i.field) (flat_map section_imports ss))) (λ g. making p g (all_some (map external g)))) h.parts_are
    ∙ ap (λ o. with_some o (λ g. making h.parts g (all_some (map external g)))) h.found
    ∙ ap (λ o. making h.parts given o) h.external_values
    ∙ ap (λ o. with_some o (exporting h.parts given)) h.is_made
    ∙ ap (λ o. with_some o (goes_on h.parts given made)) h.exported
    ∙ ap (λ o. resumed o (record m { store = with_code m.store made.store }) (λ values after. instance given exports after)) h.starts
