use Rattle.comp_names.proofs.Judging.{entries_judged}
use Rattle.comp_names.proofs.checking.ItemNamed.check.Goals as goal

pub returns-in-CoreInstantiate : goal.returns-in-CoreInstantiate
returns-in-CoreInstantiate c = rw c.in-CoreInstantiate.is (entries_judged (λ a. a.name) c.in-CoreInstantiate.args c.as_slice.result.now c.apart.result c.as_slice.ensures c.apart.ensures)

pub returns-in-CoreExports : goal.returns-in-CoreExports
returns-in-CoreExports c = rw c.in-CoreExports.is (entries_judged (λ e. e.name) c.in-CoreExports.entries c.as_slice-in-CoreExports.result.now c.apart-in-CoreExports.result c.as_slice-in-CoreExports.ensures c.apart-in-CoreExports.ensures)

pub returns-in-Instantiate : goal.returns-in-Instantiate
returns-in-Instantiate c = rw c.in-Instantiate.is (entries_judged (λ a. a.name) c.in-Instantiate.args c.as_slice-in-Instantiate.result.now c.apart-in-Instantiate.result c.as_slice-in-Instantiate.ensures c.apart-in-Instantiate.ensures)

pub returns-in-Export : goal.returns-in-Export
returns-in-Export c = rw c.in-Export.is c.form-in-Export.ensures
