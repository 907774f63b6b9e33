use Rattle.std.proofs.Common.{◌≡◌, [], IfOk, IsOk, take, subst}
use Rattle.core_types.specs.Core.{core_preamble}
use Rattle.comp_worlds.specs.declared.world.ComponentWorld.{ComponentWorld}
use Rattle.tests_of_encoder.specs.Stub.{stub_world}
use Rattle.tests_of_encoder.proofs.Stubs.{with_modules}
use Rattle.tests_of_encoder.proofs.stub.StubLowerLower.prepare.Goals as goal

pub returns-in-Some-clause-modules : goal.returns-in-Some-clause-modules
returns-in-Some-clause-modules c =
    let bytes : c.as_slice.result.now ≡ c.in-Some.part.bytes = c.as_slice.ensures in
    let ok : IfOk c.world_alone.result (λ (w : ComponentWorld). w ≡ stub_world c.in-Some.part.bytes) =
    subst (λ bs. IfOk c.world_alone.result (λ (w : ComponentWorld). w ≡ stub_world bs)) bytes c.world_alone.ensures.ok in
    let refused : IsOk c.world_alone.result → (take 8 c.in-Some.part.bytes ≡ core_preamble) × (c.args.gathered.now.adapters ≡ []) =
    subst (λ bs. IsOk c.world_alone.result → (take 8 bs ≡ core_preamble) × (c.args.gathered.now.adapters ≡ [])) bytes c.world_alone.ensures.refused in
    with_modules c.args.gathered.now c.in-Some.part c.world_alone.result c.in-Some.is ok refused
