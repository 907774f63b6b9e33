use Rattle.std.proofs.Common.{◌≡◌, List, sym, subst, true, Some}
use Rattle.std.specs.List.{list_all}
use Rattle.std.proofs.lemmas.Bool.{and_from}
use Rattle.wit_data.specs.declared.functions.Param.{Param}
use Rattle.wit_data.specs.declared.ids.TypeId.{TypeId}
use Rattle.wit_data.specs.declared.types.TypeDef.{TypeDef}
use Rattle.foreign_types.specs.Foreign.{is_covered}
use Rattle.foreign_types.specs.Walking.{Lists, Passes}
use Rattle.foreign_types.proofs.Covering.{each_more}
use Rattle.foreign_types.proofs.interface.meet_function.Goals as goal

pub returns-clause-covered : goal.returns-clause-covered
returns-clause-covered c =
    let types = c.args.resolve.now.types in
    let here = c.args.here in
    let f = c.args.function.now in
    let mid : List TypeId = c.meet_params.new.walk.listed in
    let new : List TypeId = c.meet_part.new.walk.listed in
    let lists = subst (λ (ts : List TypeDef). Lists ts mid new (Passes ts f.result)) c.as_slice-types.ensures c.in_ok-meet_part.ensures.lists in
    let result = subst (λ (ts : List TypeDef). is_covered ts here new f.result ≡ true) c.as_slice-types.ensures c.in_ok-meet_part.ensures.covered in
    let first = subst (λ (ps : List Param). list_all (λ (p : Param). is_covered types here mid (Some p.ty)) ps ≡ true) c.as_slice.ensures
    (subst (λ (ts : List TypeDef). list_all (λ (p : Param). is_covered ts here mid (Some p.ty)) c.as_slice.result.now ≡ true) c.as_slice-types.ensures c.in_ok-meet_params.ensures.covered) in
    let params = subst (λ ids. list_all (λ (p : Param). is_covered types here ids (Some p.ty)) f.params ≡ true) (sym lists.grown) (each_more types here c.requires.sound.back mid lists.more (λ (p : Param). Some p.ty) f.params first) in
    and_from (list_all (λ (p : Param). is_covered types here new (Some p.ty)) f.params) (is_covered types here new f.result) params result
