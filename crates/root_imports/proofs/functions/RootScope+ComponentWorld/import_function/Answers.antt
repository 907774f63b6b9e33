use Rattle.std.proofs.Common.{[], ◌∷◌, ℕ, ap, subst, None}
use Rattle.comp_bytes.specs.declared.space.Space.TheVariants as spaces
use Rattle.comp_bytes.specs.declared.types.Description.TheVariants as descriptions
use Rattle.comp_bytes.specs.declared.def.Def.{Def}
use Rattle.comp_bytes.specs.declared.def.Def.TheVariants as defs
use Rattle.comp_bytes.specs.declared.def.Item.TheVariants as items
use Rattle.comp_builder.specs.Built.{Built}
use Rattle.comp_items.specs.Items.{Extends}
use Rattle.comp_items.proofs.Extending.{extends_adds, extends_then}
use Rattle.comp_links.specs.Naming.{plain_name}
use Rattle.comp_terms.specs.Planned.{type_of_function}
use Rattle.comp_terms.specs.Rules.{Grows, named_import}
use Rattle.comp_terms.specs.Terms.{IsImportedFunction}
use Rattle.root_imports.specs.Growing.{Grows-by, Grows-then}
use Rattle.root_imports.proofs.Growth.{tables_kept}
use Rattle.root_imports.proofs.Importing.{no_imports}
use Rattle.root_imports.proofs.functions.RootScope+ComponentWorld.import_function.Goals as goal

-- the definition that is added
abbrev import : (c : goal.In_ok-index) → Def
import c = defs.Item (items.Import (plain_name c.in_ok-clone.field-0) (descriptions.Func c.in_ok-ty.ty))

pub returns-clause-grows : goal.returns-clause-grows
returns-clause-grows c =
    let w = c.args.self.now.world.now in
    let mid = c.function_type.new.self.items.defs in
    let new = c.import_function.new.self.defs in
    let last : Grows w mid new (named_import c.in_ok-clone.field-0 ∷ []) =
    Grows-by (import c) (ap (λ (b : Built). b.defs) c.in_ok-index.ensures.adds.1) (record { type = type_of_function w c.args.function.now; is = c.in_ok-ty.ensures.typed }) in
    subst (λ n. Grows w c.args.self.now.items.defs new (named_import n ∷ [])) c.in_ok-clone.ensures (Grows-then c.in_ok-ty.ensures.grows.grows last)

pub returns-clause-tables : goal.returns-clause-tables
returns-clause-tables c =
    tables_kept c.args.self.now.world.now c.args.self.now.met c.function_type.new.self.instances c.function_type.new.self.items c.import_function.new.self c.function_type.new.self.maps
    (extends_adds c.function_type.new.self.items c.import_function.new.self c.import_function.result spaces.Func (import c) None c.import_function.ensures.adds) c.in_ok-ty.ensures.tables

pub returns-clause-imported : goal.returns-clause-imported
returns-clause-imported c =
    let t = type_of_function c.args.self.now.world.now c.args.function.now in
    subst (λ (n : ℕ). IsImportedFunction c.import_function.new.self.defs c.in_ok-index.index (record { number = n; inner = None }) t) (no_imports c.in_ok-ty.ensures.grows.grows) (c.in_ok-index.ensures.imported t c.in_ok-ty.ensures.typed)

pub returns-in_err-index-clause-extends : goal.returns-in_err-index-clause-extends
returns-in_err-index-clause-extends c =
    let last : Extends c.function_type.new.self.items c.import_function.new.self = extends_adds c.function_type.new.self.items c.import_function.new.self c.import_function.result spaces.Func (defs.Item (items.Import (plain_name c.in_ok-clone.field-0) (descriptions.Func c.in_ok-ty.ty))) None c.import_function.ensures.adds in
    extends_then c.args.self.now.items c.function_type.new.self.items c.import_function.new.self c.in_ok-ty.ensures.grows.extends last

pub returns-clause-extends : goal.returns-clause-extends
returns-clause-extends c =
    let last : Extends c.function_type.new.self.items c.import_function.new.self = extends_adds c.function_type.new.self.items c.import_function.new.self c.import_function.result spaces.Func (import c) None c.import_function.ensures.adds in
    extends_then c.args.self.now.items c.function_type.new.self.items c.import_function.new.self c.in_ok-ty.ensures.grows.extends last
