-- What a reader finds, apart from where it stops, a plain reader finds too; and the plain readers
-- of declarations are exact.
use Rattle.std.proofs.Common.{◌≡◌, ℕ, zero, suc, Bool, true, false, cond, eqb, List, [], ◌∷◌, ◌++◌, length, Option, Some, None, refl, sym, ap, ◌∙◌}
use Rattle.std.specs.Prelude.{◌==◌, if◌then◌else◌, Result, Ok, Err}
use Rattle.byte_encoding.specs.Encoding.{Fits, ◌⊕◌, octet}
use Rattle.comp_bytes.specs.Grammar.{type_def}
use Rattle.comp_bytes.specs.declared.types.InstanceType.{InstanceType}
use Rattle.comp_bytes.specs.declared.types.Member.{Member}
use Rattle.comp_bytes.specs.declared.types.Member.TheVariants as members
use Rattle.part_readers.specs.Reading.{◌>>=◌, Read, Reader, made_at, then_at, tagged, byte_at, number_at}
use Rattle.part_readers.specs.Reading as plain
use Rattle.part_readers.specs.PartReaders.{type_def_after, defined_after, small_type_after, primitive_after, alias_at, extern_name_at, description_at, member_at, instance_type_at}
use Rattle.part_readers.proofs.Exact.{IsExact, Took, took_then, made_again, made_fine, case, tag_case, took_byte, after_takes, fine_case, then_exact, first_of_tagged, other_byte}
use Rattle.part_readers.proofs.ValueLaws.{extern_name_exact, description_exact, alias_exact}
use Rattle.part_readers.proofs.TypeLaws.{type_exact, instance_type_exact}
use Rattle.package_syntax.specs.declared.fault.Reason.TheVariants as reasons
use Rattle.package_syntax.specs.declared.syntax.Declaration.{Declaration}
use Rattle.package_syntax.specs.declared.syntax.Declaration.TheVariants as declarations
use Rattle.package_syntax.specs.Syntax.{declaration}
use Rattle.package_syntax.specs.Writable.{IsDeclaration}
use Rattle.package_syntax.specs.Placing.{◌>>>◌, ok_or, Placed, PlacedReader, stop, items_at, list_at}
use Rattle.package_syntax.specs.Declarations.{sort_reason, placed_type_at, placed_alias_at, described_at, member_after, placed_member_at, instance_type_declaration_at, type_declaration_at, declaration_after, placed_declaration_at}

-- ---- what is found

unfoldable pub found : {A E : Type 0} → Result A E → Option A
found (Ok x) = Some x
found (Err e) = None

pub found_or : {A E : Type 0} (e : E) (o : Option A) → found (ok_or e o) ≡ o
unfolding found
found_or e None = refl
found_or e (Some x) = refl

-- a value made of what is read
pub found_made : {A B : Type 0} (make : A → B) (r : Placed A) (o : Read A) → found r ≡ o → found (r >>> λ x. let p : Placed B = Ok (make x.0, x.1) in p) ≡ (o >>= λ x. let p : Read B = Some (make x.0, x.1) in p)
unfolding found
found_made make (Ok x) o e = rw (sym e) refl
found_made make (Err s) o e = rw (sym e) refl

-- one after the other
pub found_then : {A B E : Type 0} (r : Result A E) (o : Option A) (go : A → Result B E) (plain_go : A → Option B) → found r ≡ o → ((x : A) → found (go x) ≡ plain_go x) → found (r >>> go) ≡ (o >>= plain_go)
unfolding found
found_then (Ok x) o go plain_go e f = rw (sym e) (f x)
found_then (Err s) o go plain_go e f = rw (sym e) refl

pub found_if : {A E : Type 0} (b : Bool) (r s : Result A E) (x y : Option A) → found r ≡ x → found s ≡ y → found (cond b r s) ≡ cond b x y
found_if true r s x y p q = p
found_if false r s x y p q = q

-- ---- lists

unfoldable pub Finds : {A : Type 0} → PlacedReader A → Reader A → Type 0
Finds at reader = (bytes : List ℕ) → found (at bytes) ≡ reader bytes

pub found_items : {A : Type 0} (at : PlacedReader A) (reader : Reader A) → Finds at reader → (n : ℕ) (bytes : List ℕ) → found (items_at at n bytes) ≡ plain.items_at reader n bytes
unfolding found Finds items_at plain.items_at
found_items at reader f zero bytes = refl
found_items {A} at reader f (suc n) bytes =
    found_then (at bytes) (reader bytes) _ _ (f bytes) (λ x.
    found_then (items_at at n x.1) (plain.items_at reader n x.1) _ _ (found_items at reader f n x.1) (λ xs. refl))

pub found_list : {A : Type 0} (at : PlacedReader A) (reader : Reader A) → Finds at reader → Finds (list_at at) (plain.list_at reader)
unfolding found Finds list_at plain.list_at
found_list at reader f bytes =
    found_then (ok_or (stop (length bytes) reasons.Declaration) (number_at bytes)) (number_at bytes) _ _ (found_or _ (number_at bytes)) (λ n. found_items at reader f n.0 n.1)

-- ---- parts of declarations

found_type : (left : ℕ) (bytes : List ℕ) → found (placed_type_at left bytes) ≡ tagged type_def_after bytes
unfolding found placed_type_at
found_type left [] = refl
found_type left (b ∷ bytes) = found_or _ (type_def_after b bytes)

found_alias : (left : ℕ) (bytes : List ℕ) → found (placed_alias_at left bytes) ≡ alias_at bytes
unfolding placed_alias_at
found_alias left bytes = found_or _ (alias_at bytes)

found_described : (left : ℕ) (bytes : List ℕ) → found (described_at left bytes) ≡ then_at extern_name_at description_at bytes
unfolding found described_at
found_described left bytes =
    found_then (ok_or (stop left reasons.Declaration) (extern_name_at bytes)) (extern_name_at bytes) _ _ (found_or _ (extern_name_at bytes)) (λ n.
    found_then (ok_or (stop left (sort_reason n.1)) (description_at n.1)) (description_at n.1) _ _ (found_or _ (description_at n.1)) (λ d. refl))

-- ---- declarations of an instance type

found_member_by : (left b : ℕ) (bytes : List ℕ) → found (member_after left b bytes) ≡ member_at (b ∷ bytes)
unfolding found member_after member_at
found_member_by left b bytes =
    found_if (eqb b 0x01) _ _ _ _ (found_made (λ t. members.Type t) _ _ (found_type left bytes)) (
    found_if (eqb b 0x02) _ _ _ _ (found_made (λ a. members.Alias a) _ _ (found_alias left bytes)) (
    found_if (eqb b 0x04) _ _ _ _ (found_made (λ d. members.Export d.0 d.1) _ _ (found_described left bytes)) refl))

found_member : Finds placed_member_at member_at
unfolding found Finds placed_member_at member_at
found_member [] = refl
found_member (b ∷ bytes) = found_member_by (suc (length bytes)) b bytes

-- ---- declarations of a world

type_declaration_after : ℕ → Reader Declaration
type_declaration_after b bytes =
    if b == 0x42 then made_at (λ t. declarations.InstanceType t) instance_type_at bytes
    else made_at (λ t. declarations.Type t) (type_def_after b) bytes

declaration_by : ℕ → Reader Declaration
declaration_by b bytes =
    if b == 0x01 then tagged type_declaration_after bytes
    else (if b == 0x02 then made_at (λ a. declarations.Alias a) alias_at bytes
    else (if b == 0x03 then made_at (λ d. declarations.Import d.0 d.1) (then_at extern_name_at description_at) bytes
    else (if b == 0x04 then made_at (λ d. declarations.Export d.0 d.1) (then_at extern_name_at description_at) bytes
    else None)))

pub declaration_at : Reader Declaration
declaration_at bytes = tagged declaration_by bytes

twice : (r : Read (List Member)) → (r >>= λ x. let p : Read Declaration = Some (declarations.InstanceType (record { members = x.0 }), x.1) in p) ≡ ((r >>= λ x. let p : Read InstanceType = Some (record { members = x.0 }, x.1) in p) >>= λ t. let p : Read Declaration = Some (declarations.InstanceType t.0, t.1) in p)
twice (Some x) = refl
twice None = refl

found_instance_type : (bytes : List ℕ) → found (instance_type_declaration_at bytes) ≡ made_at (λ t. declarations.InstanceType t) instance_type_at bytes
unfolding found instance_type_at Finds
found_instance_type bytes =
    let make : List Member → Declaration = λ m. declarations.InstanceType (record { members = m }) in
    found_made make (list_at placed_member_at bytes) (plain.list_at member_at bytes) (found_list placed_member_at member_at found_member bytes) ∙ twice (plain.list_at member_at bytes)

found_type_declaration : (left : ℕ) (bytes : List ℕ) → found (type_declaration_at left bytes) ≡ tagged type_declaration_after bytes
unfolding found type_declaration_at type_declaration_after
found_type_declaration left [] = refl
found_type_declaration left (b ∷ bytes) =
    found_if (eqb b 0x42) _ _ _ _ (found_instance_type bytes) (found_made (λ t. declarations.Type t) _ _ (found_type left (b ∷ bytes)))

found_declaration_by : (left b : ℕ) (bytes : List ℕ) → found (declaration_after left b bytes) ≡ declaration_by b bytes
unfolding found declaration_after declaration_by
found_declaration_by left b bytes =
    found_if (eqb b 0x01) _ _ _ _ (found_type_declaration left bytes) (
    found_if (eqb b 0x02) _ _ _ _ (found_made (λ a. declarations.Alias a) _ _ (found_alias left bytes)) (
    found_if (eqb b 0x03) _ _ _ _ (found_made (λ d. declarations.Import d.0 d.1) _ _ (found_described left bytes)) (
    found_if (eqb b 0x04) _ _ _ _ (found_made (λ d. declarations.Export d.0 d.1) _ _ (found_described left bytes)) refl)))

pub found_declaration : Finds placed_declaration_at declaration_at
unfolding found Finds placed_declaration_at declaration_at
found_declaration [] = refl
found_declaration (b ∷ bytes) = found_declaration_by (suc (length bytes)) b bytes

-- ---- the plain reader is exact

type_takes : (all bytes : List ℕ) (x : Declaration) (rest : List ℕ) → Took (octet 0x01) all bytes → tagged type_declaration_after bytes ≡ Some (x, rest) → Took (declaration x) all rest
unfolding type_declaration_after
type_takes all [] x rest t e = absurd cc
type_takes all (b ∷ bytes) x rest t e =
    tag_case b 0x42 _ _ (x, rest) e (λ is made. after_takes instance_type_exact declaration (λ t. declarations.InstanceType t) (octet 0x01 ⊕ octet 0x42) all bytes (took_then t (took_byte b 0x42 bytes is)) (λ a. refl) x rest made) (λ e.
    after_takes type_exact declaration (λ t. declarations.Type t) (octet 0x01) all (b ∷ bytes) t (λ a. refl) x rest e)

declaration_takes : (bytes : List ℕ) (x : Declaration) (rest : List ℕ) → declaration_at bytes ≡ Some (x, rest) → Took (declaration x) bytes rest
unfolding declaration_at declaration_by
declaration_takes [] x rest e = absurd cc
declaration_takes (b ∷ bytes) x rest e =
    tag_case b 0x01 _ _ (x, rest) e (λ is made. type_takes (b ∷ bytes) bytes x rest (took_byte b 0x01 bytes is) made) (λ e.
    case alias_exact declaration (λ a. declarations.Alias a) b 0x02 bytes _ x rest (λ a. refl) e (λ e.
    case (then_exact extern_name_exact description_exact) declaration (λ d. declarations.Import d.0 d.1) b 0x03 bytes _ x rest (λ a. refl) e (λ e.
    case (then_exact extern_name_exact description_exact) declaration (λ d. declarations.Export d.0 d.1) b 0x04 bytes _ x rest (λ a. refl) e (λ e.
    absurd cc))))

declaration_again : (x : Declaration) (rest : List ℕ) → IsDeclaration x → Fits (declaration x).counts → declaration_at ((declaration x).bytes ++ rest) ≡ Some (x, rest)
unfolding declaration_at declaration_by type_declaration_after type_def_after defined_after small_type_after primitive_after
declaration_again (declarations.Type t) rest w fits =
    let h = first_of_tagged type_def_after ((type_def t).bytes ++ rest) (t, rest) (type_exact.again t rest w fits) in
    let a : eqb h.byte 0x42 ≡ false = other_byte type_def_after h.byte 0x42 h.rest (t, rest) h.read refl in
    ap (λ (l : List ℕ). declaration_at (0x01 ∷ l)) h.parts ∙ rw (a, h.read) refl
declaration_again (declarations.InstanceType t) rest w fits = made_again instance_type_exact (λ t. declarations.InstanceType t) t rest w fits
declaration_again (declarations.Alias a) rest w fits = made_again alias_exact (λ a. declarations.Alias a) a rest w fits
declaration_again (declarations.Import name description) rest w fits = made_again (then_exact extern_name_exact description_exact) (λ d. declarations.Import d.0 d.1) (name, description) rest w fits
declaration_again (declarations.Export name description) rest w fits = made_again (then_exact extern_name_exact description_exact) (λ d. declarations.Export d.0 d.1) (name, description) rest w fits

type_fine : (bytes : List ℕ) (x : Declaration) (rest : List ℕ) → tagged type_declaration_after bytes ≡ Some (x, rest) → IsDeclaration x
unfolding type_declaration_after
type_fine [] x rest e = absurd cc
type_fine (b ∷ bytes) x rest e =
    fine_case instance_type_exact IsDeclaration (λ t. declarations.InstanceType t) b 0x42 bytes _ x rest (λ a w. w) e (λ e.
    made_fine type_exact IsDeclaration (λ t. declarations.Type t) (λ a w. w) (b ∷ bytes) x rest e)

declaration_fine : (bytes : List ℕ) (x : Declaration) (rest : List ℕ) → declaration_at bytes ≡ Some (x, rest) → IsDeclaration x
unfolding declaration_at declaration_by
declaration_fine [] x rest e = absurd cc
declaration_fine (b ∷ bytes) x rest e =
    tag_case b 0x01 _ _ (x, rest) e (λ is made. type_fine bytes x rest made) (λ e.
    fine_case alias_exact IsDeclaration (λ a. declarations.Alias a) b 0x02 bytes _ x rest (λ a w. w) e (λ e.
    fine_case (then_exact extern_name_exact description_exact) IsDeclaration (λ d. declarations.Import d.0 d.1) b 0x03 bytes _ x rest (λ a w. w) e (λ e.
    fine_case (then_exact extern_name_exact description_exact) IsDeclaration (λ d. declarations.Export d.0 d.1) b 0x04 bytes _ x rest (λ a w. w) e (λ e.
    absurd cc))))

pub declaration_exact : IsExact declaration IsDeclaration declaration_at
declaration_exact = record { takes = declaration_takes; fine = declaration_fine; again = declaration_again }
