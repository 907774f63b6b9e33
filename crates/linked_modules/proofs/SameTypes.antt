-- Kinds of exports, and types of functions, are equal where they are one.
use Rattle.std.proofs.Common.{◌≡◌, true, subst, rules}
use Rattle.std.specs.Cmp.{IsEquivalence}
use Rattle.core_types.specs.declared.types.FuncType.{FuncType}
use Rattle.core_types.specs.contracts.types.FuncTypePartialEq.TheImpl as same_function
use Rattle.standard_kinds.specs.contracts.kinds.ExportKindEq.TheImpl.Laws.{laws-law as kind_laws}
use Rattle.standard_kinds.specs.contracts.kinds.ExportKindPartialEq.TheImpl as same_kind
use Rattle.standard_kinds.specs.declared.kinds.ExportKind.{ExportKind}
use Rattle.comp_roles.specs.declared.offered.ExternType.TheVariants as externs
use Rattle.comp_worlds.proofs.Matched.{function_itself}

pub one_kind : (a b : ExportKind) → same_kind.eq-value.it a b ≡ true → a ≡ b
one_kind a b e = search rules

pub same_kinds : (a b : ExportKind) → a ≡ b → same_kind.eq-value.it a b ≡ true
same_kinds a b e = let laws : IsEquivalence same_kind.eq-value.it = kind_laws in subst (λ x. same_kind.eq-value.it a x ≡ true) e (laws.refl a)

pub same_functions : (f g : FuncType) → externs.Func f ≡ externs.Func g → same_function.eq-value.it f g ≡ true
same_functions f g e = let same : f ≡ g = cc (e) in subst (λ x. same_function.eq-value.it f x ≡ true) same (function_itself f)
