use Rattle.std.proofs.Common.{◌++◌, map, take}
use Rattle.core_sections.proofs.Modules.{is_found, is_only}
use Rattle.core_sections.proofs.Cuts.{is_cut}
use Rattle.core_sections.proofs.Refusals.{is_no_module, has_package}
use Rattle.core_sections.proofs.stripping.strip.Goals as goal

pub returns-clause-found : goal.returns-clause-found
returns-clause-found c = is_found (λ s. (take s.prefix c.args.bytes.now ++ s.rest.items, map (λ x. x.now) s.records.items)) c.args.bytes.now c.strip_sections.result c.strip_sections.ensures

pub returns-clause-only : goal.returns-clause-only
returns-clause-only c = is_only (λ s. (take s.prefix c.args.bytes.now ++ s.rest.items, map (λ x. x.now) s.records.items)) c.args.bytes.now c.strip_sections.result c.strip_sections.ensures

pub returns-clause-cut : goal.returns-clause-cut
returns-clause-cut c = is_cut (λ s. (take s.prefix c.args.bytes.now ++ s.rest.items, map (λ x. x.now) s.records.items)) c.args.bytes.now c.strip_sections.result c.strip_sections.ensures

pub returns-clause-no_module : goal.returns-clause-no_module
returns-clause-no_module c = is_no_module (λ s. (take s.prefix c.args.bytes.now ++ s.rest.items, map (λ x. x.now) s.records.items)) c.args.bytes.now c.strip_sections.result c.strip_sections.ensures

pub returns-clause-package : goal.returns-clause-package
returns-clause-package c = has_package (λ s. (take s.prefix c.args.bytes.now ++ s.rest.items, map (λ x. x.now) s.records.items)) c.args.bytes.now c.strip_sections.result c.strip_sections.ensures
