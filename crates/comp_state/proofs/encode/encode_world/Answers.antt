use Rattle.std.proofs.Common.{refl, rules, subst, sym}
use Rattle.comp_bytes.specs.Scopes.{Scoped}
use Rattle.comp_builder.specs.Built.{Built}
use Rattle.comp_builder.specs.Naming.{with_names}
use Rattle.std.proofs.lemmas.Result.{IfOk-weaker}
use Rattle.comp_imports.specs.Names.{naming_of}
use Rattle.comp_terms.specs.Rules.{IsUnnamed, IsBuilt}
use Rattle.comp_state.specs.Encoding.{Encoding, naming_in}
use Rattle.comp_state.proofs.Building.{built_named, encoded_bases, encoded_lacks, encoded_made, encoded_memory, encoded_order, encoded_realloc}
use Rattle.comp_state.proofs.Scoping.{built_scoped}
use Rattle.comp_state.proofs.encode.encode_world.Goals as goal

pub returns-clause-ok : goal.returns-clause-ok
returns-clause-ok c =
    let built : IsUnnamed (naming_of c.args.names) c.args.world.now c.encode_all.new.self.built.defs =
    subst (λ (e : Encoding). IsUnnamed (naming_in e) e.world c.encode_all.new.self.built.defs) c.in_ok-state.ensures c.in_ok-encode_all.ensures.built in
    let whole : IsBuilt (naming_of c.args.names) c.args.world.now (with_names c.encode_all.new.self.built).defs =
    built_named (naming_of c.args.names) c.args.world.now c.encode_all.new.self.built (with_names c.encode_all.new.self.built) refl built in
    IfOk-weaker c.finish.result _ _
    (λ component same. subst (λ (b : Built). Scoped b.defs × IsBuilt (naming_of c.args.names) c.args.world.now b.defs) (sym same)
    (built_scoped (naming_of c.args.names) c.args.world.now (with_names c.encode_all.new.self.built).defs whole, whole)) c.finish.ensures.ok

pub returns-clause-refused : goal.returns-clause-refused
returns-clause-refused c = λ _. encoded_lacks c.args.world.now (search rules)

pub returns-clause-memory : goal.returns-clause-memory
returns-clause-memory c = λ _. encoded_memory c.args.world.now (search rules)

pub returns-clause-realloc : goal.returns-clause-realloc
returns-clause-realloc c = λ _. encoded_realloc c.args.world.now (search rules)

pub returns-clause-order : goal.returns-clause-order
returns-clause-order c = λ _. encoded_order c.args.world.now (search rules)

pub returns-clause-bases : goal.returns-clause-bases
returns-clause-bases c = λ _. encoded_bases c.args.world.now (search rules)

pub returns-clause-made : goal.returns-clause-made
returns-clause-made c = λ _. encoded_made c.args.world.now (search rules)
