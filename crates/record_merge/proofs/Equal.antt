-- Values that are equal are one.
use Rattle.std.proofs.Common.{◌≡◌, Bool, true, false, ℕ, List, [], ◌∷◌, Option, Some, None, refl, sym, ap, ◌∙◌, true≢false, rules, ◌&&◌, arith}
use Rattle.std.specs.Str.{bytes_eq}
use Rattle.std.specs.Option.{option_eq}
use Rattle.std.specs.Cmp.Lexicographic.{pointwise}
use Rattle.std.specs.Prelude.{nat_eq}
use Rattle.std.specs.Cmp.{booleans_Decides}
use Rattle.std.specs.Bool.{beq}
use Rattle.std.proofs.lemmas.Slice.Eq.{bytes_eq-Decides}
use Rattle.std.proofs.lemmas.Bool.Decides.{Decides-eqb}
use Rattle.record_values.specs.declared.names.InterfaceName.{InterfaceName}
use Rattle.record_values.specs.declared.names.InterfaceName.TheVariants as names
use Rattle.record_values.specs.declared.names.Owner.{Owner}
use Rattle.record_values.specs.declared.names.Owner.TheVariants as owners
use Rattle.record_values.specs.declared.names.TypeName.{TypeName}
use Rattle.record_values.specs.declared.types.Node.{Node}
use Rattle.record_values.specs.declared.types.Node.TheVariants as nodes
use Rattle.record_values.specs.declared.types.Typed.{Typed}
use Rattle.record_values.specs.declared.types.Func.{Func}
use Rattle.record_values.specs.declared.types.Interface.{Interface}
use Rattle.record_values.specs.declared.world.Item.TheVariants as items
use Rattle.record_values.specs.Names.{name_kind, name_text, owner_kind, owner_text, is_same_interface, is_same_owner, is_same_type}
use Rattle.record_values.specs.contracts.types.CasePartialEq.TheImpl as case_eq
use Rattle.record_values.specs.contracts.types.NodePartialEq.TheImpl as node_eq
use Rattle.record_values.specs.contracts.types.TypedPartialEq.TheImpl as typed_eq
use Rattle.record_values.specs.contracts.types.FuncPartialEq.TheImpl as func_eq
use Rattle.record_values.specs.contracts.types.InterfacePartialEq.TheImpl as interface_eq
use Rattle.record_values.specs.contracts.world.ItemPartialEq.TheImpl as item_eq

-- what is equal is one
abbrev pub IsOne : {X : Type 0} → (X → X → Bool) → Type 0
IsOne {X} eq = (x y : X) → eq x y ≡ true → x ≡ y

pub both : (a b : Bool) → (a && b) ≡ true → (a ≡ true) × (b ≡ true)
both true b e = (refl, e)
both false b e = absurd (true≢false (sym e))

pub one_text : IsOne bytes_eq
one_text x y e = (bytes_eq-Decides x y).0 e

pub one_number : IsOne nat_eq
one_number x y e = (Decides-eqb x y).0 e

pub one_list : {X : Type 0} (eq : X → X → Bool) → IsOne eq → IsOne (pointwise eq)
one_list eq one [] [] e = refl
one_list eq one (x ∷ xs) (y ∷ ys) e =
    let b = both (eq x y) (pointwise eq xs ys) e in
    ap (λ z. z ∷ xs) (one x y b.0) ∙ ap (λ zs. y ∷ zs) (one_list eq one xs ys b.1)
one_list eq one [] (y ∷ ys) e = absurd (true≢false (sym e))
one_list eq one (x ∷ xs) [] e = absurd (true≢false (sym e))

one_option : {X : Type 0} (eq : X → X → Bool) → IsOne eq → IsOne (option_eq eq)
one_option eq one None None e = refl
one_option eq one (Some x) (Some y) e = ap Some (one x y e)
one_option eq one None (Some y) e = absurd (true≢false (sym e))
one_option eq one (Some x) None e = absurd (true≢false (sym e))

name_by : (x y : InterfaceName) → name_kind x ≡ name_kind y → name_text x ≡ name_text y → x ≡ y
name_by (names.Id a) (names.Id b) k t = ap names.Id t
name_by (names.Imported a) (names.Imported b) k t = ap names.Imported t
name_by (names.Exported a) (names.Exported b) k t = ap names.Exported t
name_by (names.Unused a) (names.Unused b) k t = ap names.Unused (omega (arith, k))
name_by x y k t = absurd (omega (arith, k))

pub one_name : IsOne is_same_interface
one_name x y e =
    let b = both (nat_eq (name_kind x) (name_kind y)) (bytes_eq (name_text x) (name_text y)) e in
    name_by x y (one_number (name_kind x) (name_kind y) b.0) (one_text (name_text x) (name_text y) b.1)

kind_above : (x : InterfaceName) → 0 ≡ name_kind x → ⊥
kind_above (names.Id a) k = omega (arith, k)
kind_above (names.Imported a) k = omega (arith, k)
kind_above (names.Exported a) k = omega (arith, k)
kind_above (names.Unused a) k = omega (arith, k)

owner_by : (x y : Owner) → owner_kind x ≡ owner_kind y → owner_text x ≡ owner_text y → x ≡ y
owner_by owners.World owners.World k t = refl
owner_by (owners.Interface a) (owners.Interface b) k t = ap owners.Interface (name_by a b k t)
owner_by owners.World (owners.Interface b) k t = absurd (kind_above b k)
owner_by (owners.Interface a) owners.World k t = absurd (kind_above a (sym k))

pub one_owner : IsOne is_same_owner
one_owner x y e =
    let b = both (nat_eq (owner_kind x) (owner_kind y)) (bytes_eq (owner_text x) (owner_text y)) e in
    owner_by x y (one_number (owner_kind x) (owner_kind y) b.0) (one_text (owner_text x) (owner_text y) b.1)

type_by : (x y : TypeName) → x.owner ≡ y.owner → x.name ≡ y.name → x ≡ y
type_by x y o n =
    let build : Owner → List ℕ → TypeName = λ a b. record { owner = a; name = b } in
    ap (λ z. build z x.name) o ∙ ap (λ z. build y.owner z) n

pub one_type : IsOne is_same_type
one_type x y e =
    let b = both (nat_eq (owner_kind x.owner) (owner_kind y.owner) && bytes_eq (owner_text x.owner) (owner_text y.owner)) (bytes_eq x.name y.name) e in
    type_by x y (one_owner x.owner y.owner b.0) (one_text x.name y.name b.1)

one_case : IsOne case_eq.eq-value.it
one_case x y e = search rules

pub one_node : IsOne node_eq.eq-value.it
one_node (nodes.Record a) (nodes.Record b) e = ap nodes.Record (one_list bytes_eq one_text a b e)
one_node (nodes.Variant a) (nodes.Variant b) e = ap nodes.Variant (one_list case_eq.eq-value.it one_case a b e)
one_node (nodes.Enum a) (nodes.Enum b) e = ap nodes.Enum (one_list bytes_eq one_text a b e)
one_node (nodes.Flags a) (nodes.Flags b) e = ap nodes.Flags (one_list bytes_eq one_text a b e)
one_node (nodes.Own a) (nodes.Own b) e = ap nodes.Own (one_type a b e)
one_node (nodes.Borrow a) (nodes.Borrow b) e = ap nodes.Borrow (one_type a b e)
one_node (nodes.Named a) (nodes.Named b) e = ap nodes.Named (one_type a b e)
one_node x y e = search rules

pub one_nodes : IsOne (pointwise node_eq.eq-value.it)
one_nodes = one_list node_eq.eq-value.it one_node

typed_by : (x y : Typed) → x.name ≡ y.name → x.nodes ≡ y.nodes → x ≡ y
typed_by x y n t =
    let build : List ℕ → List Node → Typed = λ a b. record { name = a; nodes = b } in
    ap (λ z. build z x.nodes) n ∙ ap (λ z. build y.name z) t

one_typed : IsOne typed_eq.eq-value.it
one_typed x y e =
    let b = both (bytes_eq x.name y.name) (pointwise node_eq.eq-value.it x.nodes y.nodes) e in
    typed_by x y (one_text x.name y.name b.0) (one_nodes x.nodes y.nodes b.1)

pub one_truth : IsOne beq
one_truth x y e = (booleans_Decides x y).0 e

abbrev result_eq : Option (List Node) → Option (List Node) → Bool
result_eq = option_eq (pointwise node_eq.eq-value.it)

func_by : (x y : Func) → x.name ≡ y.name → x.is_async ≡ y.is_async → x.params ≡ y.params → x.result ≡ y.result → x ≡ y
func_by x y n a p r =
    let build : List ℕ → Bool → List Typed → Option (List Node) → Func = λ s t u v. record { name = s; is_async = t; params = u; result = v } in
    ap (λ z. build z x.is_async x.params x.result) n ∙ ap (λ z. build y.name z x.params x.result) a ∙ ap (λ z. build y.name y.is_async z x.result) p ∙ ap (λ z. build y.name y.is_async y.params z) r

pub one_func : IsOne func_eq.eq-value.it
one_func x y e =
    let b = both (bytes_eq x.name y.name) (beq x.is_async y.is_async && (pointwise typed_eq.eq-value.it x.params y.params && result_eq x.result y.result)) e in
    let c = both (beq x.is_async y.is_async) (pointwise typed_eq.eq-value.it x.params y.params && result_eq x.result y.result) b.1 in
    let d = both (pointwise typed_eq.eq-value.it x.params y.params) (result_eq x.result y.result) c.1 in
    func_by x y (one_text x.name y.name b.0) (one_truth x.is_async y.is_async c.0) (one_list typed_eq.eq-value.it one_typed x.params y.params d.0)
    (one_option (pointwise node_eq.eq-value.it) one_nodes x.result y.result d.1)

interface_by : (x y : Interface) → x.types ≡ y.types → x.functions ≡ y.functions → x ≡ y
interface_by x y t f =
    let build : List Typed → List Func → Interface = λ a b. record { types = a; functions = b } in
    ap (λ z. build z x.functions) t ∙ ap (λ z. build y.types z) f

pub one_interface : IsOne interface_eq.eq-value.it
one_interface x y e =
    let b = both (pointwise typed_eq.eq-value.it x.types y.types) (pointwise func_eq.eq-value.it x.functions y.functions) e in
    interface_by x y (one_list typed_eq.eq-value.it one_typed x.types y.types b.0) (one_list func_eq.eq-value.it one_func x.functions y.functions b.1)

pub one_item : IsOne item_eq.eq-value.it
one_item (items.Interface a) (items.Interface b) e = ap items.Interface (one_name a b e)
one_item (items.Function a) (items.Function b) e = ap items.Function (one_func a b e)
one_item (items.Type a) (items.Type b) e = ap items.Type (one_nodes a b e)
one_item x y e = search rules
