-- The definitions of one section are read exactly.
use Rattle.std.proofs.Common.{◌≡◌, ℕ, zero, suc, ◌<◌, Bool, true, false, eqb, List, [], ◌∷◌, ◌++◌, length, take, Option, Some, refl, sym, ap, subst, ◌∙◌, arith, inl, inr}
use Rattle.std.specs.List.{AllByRecursion}
use Rattle.std.proofs.lemmas.Bool.{eqb-true, eqb-false}
use Rattle.std.proofs.lemmas.List.{append-nil, nil_from_length}
use Rattle.std.proofs.lemmas.Slice.Eq.{bytes_eq-Decides}
use Rattle.core_types.specs.Core.{is_core_module, core_preamble}
use Rattle.byte_encoding.specs.Encoding.{Encoding, Fits, ◌⊕◌, raw, octet, number, quantity, each, listed, optional}
use Rattle.comp_bytes.specs.Sections.{Entry, shares, contents}
use Rattle.comp_bytes.specs.Grammar.{sort_bytes, extern_name, description_bytes, option_bytes, core_argument, core_inline_export, argument, item}
use Rattle.standard_kinds.specs.declared.kinds.ExportKind.{ExportKind}
use Rattle.comp_bytes.specs.declared.space.Sort.{Sort}
use Rattle.comp_bytes.specs.declared.types.ExternName.{ExternName}
use Rattle.comp_bytes.specs.declared.types.Description.{Description}
use Rattle.comp_bytes.specs.declared.canon.CanonicalOption.{CanonicalOption}
use Rattle.comp_bytes.specs.declared.def.CoreArgument.{CoreArgument}
use Rattle.comp_bytes.specs.declared.def.CoreInlineExport.{CoreInlineExport}
use Rattle.comp_bytes.specs.declared.def.Argument.{Argument}
use Rattle.comp_bytes.specs.declared.def.Item.{Item}
use Rattle.comp_bytes.specs.declared.def.Item.TheVariants as items
use Rattle.part_readers.specs.Reading.{Read, Reader, made_at, then_at, expect, number_at, name_at, items_at, list_at, option_at}
use Rattle.part_readers.specs.PartReaders.{sort_at, primitive_after, small_type_after, defined_after, type_def_after, extern_name_at, description_at}
use Rattle.comp_read.specs.CanonReaders.{index_and_options_at, waiting_after, future_after, stream_after, task_after, intrinsic_after}
use Rattle.part_readers.specs.ArgumentReaders.{core_argument_at, core_inline_export_at, argument_at}
use Rattle.comp_read.specs.ItemReaders.{core_instance_at, instance_at, type_item_at, lift_at, lower_at, canon_at, import_at, export_at, item_at, counted_at, custom_at, module_at, contents_at}
use Rattle.part_readers.specs.Writable.{IsIndex, Optionally, IsExternName, IsDescription}
use Rattle.comp_read.specs.Writable.{AreOptions, IsCoreArgument, IsCoreInlineExport, IsArgument, IsItem}
use Rattle.part_readers.proofs.Exact.{IsExact, Took, took_then, step, step_is, fewer, bind_some, some_is, none_some, chosen, guarded, made_again, made_exact, then_exact, expect_step, before_exact, tag_case, took_byte, first_of_tagged, other_byte, quantity_exact, number_exact, name_exact, items_takes, each_read, list_exact, option_exact}
use Rattle.part_readers.proofs.ValueLaws.{kind_exact, sort_exact, extern_name_exact, description_exact, alias_exact}
use Rattle.part_readers.proofs.TypeLaws.{type_exact, instance_type_exact}
use Rattle.comp_read.proofs.CanonLaws.{indexed_options, intrinsic_exact}

-- ---- parts

core_argument_exact : IsExact core_argument IsCoreArgument core_argument_at
unfolding core_argument_at
core_argument_exact =
    let make : List ℕ × ℕ → CoreArgument = λ p. record { name = p.0; instance = p.1 } in
    made_exact (then_exact (before_exact name_exact 0x12) number_exact) make (λ a. (a.name, a.instance)) (λ a. refl) (λ p. refl)

core_inline_exact : IsExact core_inline_export IsCoreInlineExport core_inline_export_at
unfolding core_inline_export_at
core_inline_exact =
    let make : (List ℕ × ExportKind) × ℕ → CoreInlineExport = λ p. record { name = p.0.0; kind = p.0.1; index = p.1 } in
    fewer (made_exact (then_exact (then_exact name_exact kind_exact) number_exact) make (λ e. ((e.name, e.kind), e.index)) (λ e. refl) (λ p. refl)) IsCoreInlineExport (λ e w. ((w.0, tt), w.1)) (λ e v. (v.0.0, v.1))

argument_exact : IsExact argument IsArgument argument_at
unfolding argument_at
argument_exact =
    let make : (List ℕ × Sort) × ℕ → Argument = λ p. record { name = p.0.0; sort = p.0.1; index = p.1 } in
    fewer (made_exact (then_exact (then_exact name_exact sort_exact) number_exact) make (λ a. ((a.name, a.sort), a.index)) (λ a. refl) (λ p. refl)) IsArgument (λ a w. ((w.0, tt), w.1)) (λ a v. (v.0.0, v.1))

abbrev instantiated : IsExact (λ (p : ℕ × List CoreArgument). number p.0 ⊕ listed core_argument p.1) (λ p. IsIndex p.0 × AllByRecursion IsCoreArgument p.1) (then_at number_at (list_at core_argument_at))
instantiated = then_exact number_exact (list_exact core_argument_exact)

abbrev made_of : IsExact (λ (p : ℕ × List Argument). number p.0 ⊕ listed argument p.1) (λ p. IsIndex p.0 × AllByRecursion IsArgument p.1) (then_at number_at (list_at argument_at))
made_of = then_exact number_exact (list_exact argument_exact)

abbrev lifted : IsExact (λ (p : (ℕ × List CanonicalOption) × ℕ). (number p.0.0 ⊕ listed option_bytes p.0.1) ⊕ number p.1) (λ p. (IsIndex p.0.0 × AreOptions p.0.1) × IsIndex p.1) (then_at index_and_options_at number_at)
lifted = then_exact indexed_options number_exact

abbrev imported : IsExact (λ (p : ExternName × Description). extern_name p.0 ⊕ description_bytes p.1) (λ p. IsExternName p.0 × IsDescription p.1) (then_at extern_name_at description_at)
imported = then_exact extern_name_exact description_exact

abbrev exported : IsExact (λ (p : ((ExternName × Sort) × ℕ) × Option Description). ((extern_name p.0.0.0 ⊕ sort_bytes p.0.0.1) ⊕ number p.0.1) ⊕ optional description_bytes p.1) (λ p. ((IsExternName p.0.0.0 × Unit {0}) × IsIndex p.0.1) × Optionally IsDescription p.1) (then_at (then_at (then_at extern_name_at sort_at) number_at) (option_at description_at))
exported = then_exact (then_exact (then_exact extern_name_exact sort_exact) number_exact) (option_exact description_exact)

-- ---- definitions that share a section

-- a definition of this id was taken
record TookItem (id : ℕ) (x : Item) (bytes rest : List ℕ) : Type 0 where
  took : Took (item x).text bytes rest
  is : (item x).id ≡ id
  fine : IsItem x

-- a definition that follows something that was taken
item_of : {A : Type 0} {g : A → Encoding} {W : A → Type 0} {at : Reader A} → IsExact g W at → (make : A → Item) (id n : ℕ) (s : Encoding) (all bytes : List ℕ) → Took s all bytes → ((a : A) → (item (make a)).text ≡ s ⊕ g a) → ((a : A) → (item (make a)).id ≡ n) → ((a : A) → W a → IsItem (make a)) → id ≡ n → (x : Item) (rest : List ℕ) → made_at make at bytes ≡ Some (x, rest) → TookItem id x all rest
item_of {A} {g} {W} {at} exact make id n s all bytes front encoded numbered keeps id-is x rest e =
    let a = step exact bytes (λ y. let p : Read Item = Some (make y.0, y.1) in p) (x, rest) e in
    let made : Item × List ℕ = (make a.0.0, a.0.1) in
    let text : Took (item (make a.0.0)).text all a.0.1 = subst (λ (t : Encoding). Took t all a.0.1) (sym (encoded a.0.0)) (took_then front a.1) in
    let whole : TookItem id (make a.0.0) all a.0.1 = record { took = text; is = numbered a.0.0 ∙ sym id-is; fine = keeps a.0.0 (exact.fine bytes a.0.0 a.0.1 (step_is exact bytes _ (x, rest) e)) } in
    subst (λ (p : Item × List ℕ). TookItem id p.0 all p.1) (some_is made (x, rest) a.2) whole

nothing : (bytes : List ℕ) → Took (raw []) bytes bytes
nothing bytes = record { parts = refl; fits = tt }

core_instance_takes : (id : ℕ) (bytes : List ℕ) (x : Item) (rest : List ℕ) → id ≡ 2 → core_instance_at bytes ≡ Some (x, rest) → TookItem id x bytes rest
unfolding core_instance_at
core_instance_takes id [] x rest id-is e = absurd cc
core_instance_takes id (b ∷ bytes) x rest id-is e =
    tag_case b 0x00 _ _ (x, rest) e (λ is made. item_of instantiated (λ p. items.CoreInstantiate p.0 p.1) id 2 (octet 0x00) (b ∷ bytes) bytes (took_byte b 0x00 bytes is) (λ a. refl) (λ a. refl) (λ a w. w) id-is x rest made) (λ e.
    tag_case b 0x01 _ _ (x, rest) e (λ is made. item_of (list_exact core_inline_exact) (λ l. items.CoreExports l) id 2 (octet 0x01) (b ∷ bytes) bytes (took_byte b 0x01 bytes is) (λ a. refl) (λ a. refl) (λ a w. w) id-is x rest made) (λ e.
    absurd cc))

instance_takes : (id : ℕ) (bytes : List ℕ) (x : Item) (rest : List ℕ) → id ≡ 5 → instance_at bytes ≡ Some (x, rest) → TookItem id x bytes rest
unfolding instance_at
instance_takes id bytes x rest id-is e =
    let at : Reader Item = made_at (λ p. items.Instantiate p.0 p.1) (then_at number_at (list_at argument_at)) in
    let z = expect_step 0x00 bytes at (x, rest) e in
    item_of made_of (λ p. items.Instantiate p.0 p.1) id 5 (octet 0x00) bytes z.0 z.1 (λ a. refl) (λ a. refl) (λ a w. w) id-is x rest z.2

type_takes : (id : ℕ) (bytes : List ℕ) (x : Item) (rest : List ℕ) → id ≡ 7 → type_item_at bytes ≡ Some (x, rest) → TookItem id x bytes rest
unfolding type_item_at
type_takes id [] x rest id-is e = absurd cc
type_takes id (b ∷ bytes) x rest id-is e =
    tag_case b 0x42 _ _ (x, rest) e (λ is made. item_of instance_type_exact (λ t. items.InstanceType t) id 7 (octet 0x42) (b ∷ bytes) bytes (took_byte b 0x42 bytes is) (λ a. refl) (λ a. refl) (λ a w. w) id-is x rest made) (λ e.
    item_of type_exact (λ t. items.Type t) id 7 (raw []) (b ∷ bytes) (b ∷ bytes) (nothing (b ∷ bytes)) (λ a. refl) (λ a. refl) (λ a w. w) id-is x rest e)

canon_takes : (id : ℕ) (bytes : List ℕ) (x : Item) (rest : List ℕ) → id ≡ 8 → canon_at bytes ≡ Some (x, rest) → TookItem id x bytes rest
unfolding canon_at lift_at lower_at
canon_takes id [] x rest id-is e = absurd cc
canon_takes id (b ∷ bytes) x rest id-is e =
    let lift : Reader Item = made_at (λ p. items.Lift p.0.0 p.0.1 p.1) (then_at index_and_options_at number_at) in
    let lower : Reader Item = made_at (λ p. items.Lower p.0 p.1) index_and_options_at in
    tag_case b 0x00 _ _ (x, rest) e (λ is made.
    let z = expect_step 0x00 bytes lift (x, rest) made in
    item_of lifted (λ p. items.Lift p.0.0 p.0.1 p.1) id 8 (octet 0x00 ⊕ octet 0x00) (b ∷ bytes) z.0 (took_then (took_byte b 0x00 bytes is) z.1) (λ a. refl) (λ a. refl) (λ a w. (w.0.0, w.0.1, w.1)) id-is x rest z.2) (λ e.
    tag_case b 0x01 _ _ (x, rest) e (λ is made.
    let z = expect_step 0x00 bytes lower (x, rest) made in
    item_of indexed_options (λ p. items.Lower p.0 p.1) id 8 (octet 0x01 ⊕ octet 0x00) (b ∷ bytes) z.0 (took_then (took_byte b 0x01 bytes is) z.1) (λ a. refl) (λ a. refl) (λ a w. w) id-is x rest z.2) (λ e.
    item_of intrinsic_exact (λ i. items.Intrinsic i) id 8 (raw []) (b ∷ bytes) (b ∷ bytes) (nothing (b ∷ bytes)) (λ a. refl) (λ a. refl) (λ a w. w) id-is x rest e))

item_takes : (id : ℕ) (bytes : List ℕ) (x : Item) (rest : List ℕ) → item_at id bytes ≡ Some (x, rest) → TookItem id x bytes rest
unfolding item_at import_at export_at
item_takes id bytes x rest e =
    tag_case id 2 _ _ (x, rest) e (core_instance_takes id bytes x rest) (λ e.
    tag_case id 5 _ _ (x, rest) e (instance_takes id bytes x rest) (λ e.
    tag_case id 6 _ _ (x, rest) e (λ is made. item_of alias_exact (λ a. items.Alias a) id 6 (raw []) bytes bytes (nothing bytes) (λ a. refl) (λ a. refl) (λ a w. w) is x rest made) (λ e.
    tag_case id 7 _ _ (x, rest) e (type_takes id bytes x rest) (λ e.
    tag_case id 8 _ _ (x, rest) e (canon_takes id bytes x rest) (λ e.
    tag_case id 10 _ _ (x, rest) e (λ is made. item_of imported (λ p. items.Import p.0 p.1) id 10 (raw []) bytes bytes (nothing bytes) (λ a. refl) (λ a. refl) (λ a w. w) is x rest made) (λ e.
    tag_case id 11 _ _ (x, rest) e (λ is made. item_of exported (λ p. items.Export p.0.0.0 p.0.0.1 p.0.1 p.1) id 11 (raw []) bytes bytes (nothing bytes) (λ a. refl) (λ a. refl) (λ a w. (w.0.0.0, w.0.1, w.1)) is x rest made) (λ e.
    absurd cc)))))))

any_again : (t : Item) (rest : List ℕ) → shares (item t).id ≡ true → IsItem t → Fits (item t).text.counts → item_at (item t).id ((item t).text.bytes ++ rest) ≡ Some (t, rest)
unfolding item_at import_at export_at core_instance_at instance_at type_item_at canon_at lift_at lower_at expect type_def_after defined_after small_type_after primitive_after intrinsic_after task_after stream_after future_after waiting_after
any_again (items.CoreModule bytes) rest s w fits = absurd cc
any_again (items.CoreInstantiate made args) rest s w fits = made_again instantiated (λ p. items.CoreInstantiate p.0 p.1) (made, args) rest w fits
any_again (items.CoreExports entries) rest s w fits = made_again (list_exact core_inline_exact) (λ l. items.CoreExports l) entries rest w fits
any_again (items.Instantiate made args) rest s w fits = made_again made_of (λ p. items.Instantiate p.0 p.1) (made, args) rest w fits
any_again (items.Alias a) rest s w fits = made_again alias_exact (λ a. items.Alias a) a rest w fits
any_again (items.Type t) rest s w fits =
    let h = first_of_tagged type_def_after ((item (items.Type t)).text.bytes ++ rest) (t, rest) (type_exact.again t rest w fits) in
    let a : eqb h.byte 0x42 ≡ false = other_byte type_def_after h.byte 0x42 h.rest (t, rest) h.read refl in
    ap (item_at 7) h.parts ∙ rw (a, h.read) refl
any_again (items.InstanceType t) rest s w fits = made_again instance_type_exact (λ t. items.InstanceType t) t rest w fits
any_again (items.Lift func options ty) rest s w fits = made_again lifted (λ p. items.Lift p.0.0 p.0.1 p.1) ((func, options), ty) rest ((w.0, w.1), w.2) fits
any_again (items.Lower func options) rest s w fits = made_again indexed_options (λ p. items.Lower p.0 p.1) (func, options) rest w fits
any_again (items.Intrinsic i) rest s w fits =
    let h = first_of_tagged intrinsic_after ((item (items.Intrinsic i)).text.bytes ++ rest) (i, rest) (intrinsic_exact.again i rest w fits) in
    let a : eqb h.byte 0x00 ≡ false = other_byte intrinsic_after h.byte 0x00 h.rest (i, rest) h.read refl in
    let b : eqb h.byte 0x01 ≡ false = other_byte intrinsic_after h.byte 0x01 h.rest (i, rest) h.read refl in
    ap (item_at 8) h.parts ∙ rw (a, b, h.read) refl
any_again (items.Import name description) rest s w fits = made_again imported (λ p. items.Import p.0 p.1) (name, description) rest w fits
any_again (items.Export name sort index description) rest s w fits = made_again exported (λ p. items.Export p.0.0.0 p.0.0.1 p.0.1 p.1) (((name, sort), index), description) rest (((w.0, tt), w.1), w.2) fits
any_again (items.Custom name contents) rest s w fits = absurd cc

-- a definition of this id that a program can hold
abbrev pub IsOf : ℕ → Item → Type 0
IsOf id x = ((item x).id ≡ id) × IsItem x

item_again : (id : ℕ) → shares id ≡ true → (x : Item) (rest : List ℕ) → IsOf id x → Fits (item x).text.counts → item_at id ((item x).text.bytes ++ rest) ≡ Some (x, rest)
item_again id s x rest w fits =
    ap (λ (i : ℕ). item_at i ((item x).text.bytes ++ rest)) (sym w.0) ∙ any_again x rest (ap shares w.0 ∙ s) w.1 fits

pub item_exact : (id : ℕ) → shares id ≡ true → IsExact (λ x. (item x).text) (IsOf id) (item_at id)
item_exact id s = record { takes = λ bytes x rest e. (item_takes id bytes x rest e).took; fine = λ bytes x rest e. let t = item_takes id bytes x rest e in (t.is, t.fine); again = item_again id s }

-- ---- the contents of a section

-- The contents of a section of this id encode these definitions.
pub record Inside {A : Type 0} (f : A → Entry) (id : ℕ) (inner : List ℕ) (xs : List A) : Type 0 where
  pub each_of : AllByRecursion (λ x. (f x).id ≡ id) xs
  pub some : 0 < length xs
  pub alone : shares id ≡ false → length xs ≡ 1
  pub text : inner ≡ (contents (λ x. (f x).text) (shares id) xs).bytes
  pub fits : Fits (contents (λ x. (f x).text) (shares id) xs).counts

true_false : true ≡ false → ⊥
true_false e = cc

counted_takes : (id : ℕ) (inner : List ℕ) (xs : List Item) → shares id ≡ true → counted_at id inner ≡ Some xs → Inside item id inner xs
unfolding counted_at
counted_takes id inner xs shared e =
    let n = step quantity_exact inner _ _ e in
    elim (chosen (eqb n.0.0 0) _ _ (Some xs) n.2) [
      | inl w ↦ absurd (none_some xs w.1)
      | inr w ↦
          let ys = bind_some (items_at (item_at id) n.0.0 n.0.1) _ xs w.1 in
          let g = guarded (eqb (length ys.0.1) 0) ys.0.0 xs ys.2 in
          let t = items_takes (item_exact id shared) n.0.0 n.0.1 ys.0.0 ys.0.1 ys.1 in
          let ids = each_read (λ x. (item x).id ≡ id) (λ b x r h. (item_takes id b x r h).is) n.0.0 n.0.1 ys.0.0 ys.0.1 ys.1 in
          let end : ys.0.1 ≡ [] = nil_from_length ys.0.1 (eqb-true _ _ g.0) in
          let positive : n.0.0 ≡ 0 → ⊥ = eqb-false _ _ w.0 in
          let whole : Took (listed (λ x. (item x).text) ys.0.0) inner ys.0.1 = subst (λ (k : ℕ). Took (quantity k ⊕ each (λ x. (item x).text) ys.0.0) inner ys.0.1) (sym t.1) (took_then n.1 t.0) in
          let parts : inner ≡ (listed (λ x. (item x).text) ys.0.0).bytes = whole.parts ∙ ap (λ (r : List ℕ). (listed (λ x. (item x).text) ys.0.0).bytes ++ r) end ∙ append-nil _ in
          let made : Inside item id inner ys.0.0 = record {
            each_of = ids;
            some = omega (arith, t.1, positive);
            alone = λ h. absurd (true_false (sym shared ∙ h));
            text = rw shared parts;
            fits = rw shared whole.fits;
          } in
          subst (λ (v : List Item). Inside item id inner v) g.1 made
    ]

custom_takes : (inner : List ℕ) (xs : List Item) → custom_at inner ≡ Some xs → Inside item 0 inner xs
unfolding custom_at
custom_takes inner xs e =
    let n = step name_exact inner _ _ e in
    let made : List Item = items.Custom n.0.0 n.0.1 ∷ [] in
    let text : Inside item 0 inner made = record {
      each_of = (refl, tt);
      some = omega arith;
      alone = λ h. refl;
      text = n.1.parts ∙ sym (append-nil _);
      fits = n.1.fits;
    } in
    subst (λ (v : List Item). Inside item 0 inner v) (some_is made xs n.2) text

module_takes : (inner : List ℕ) (xs : List Item) → module_at inner ≡ Some xs → Inside item 1 inner xs
unfolding module_at
module_takes inner xs e =
    let made : List Item = items.CoreModule inner ∷ [] in
    let text : Inside item 1 inner made = record { each_of = (refl, tt); some = omega arith; alone = λ h. refl; text = sym (append-nil inner); fits = tt } in
    let g = guarded (is_core_module inner) made xs e in
    subst (λ (v : List Item). Inside item 1 inner v) g.1 text

-- the contents of a section that are read are writable
counted_fine : (id : ℕ) (inner : List ℕ) (xs : List Item) → counted_at id inner ≡ Some xs → AllByRecursion IsItem xs
unfolding counted_at
counted_fine id inner xs e =
    let n = bind_some (number_at inner) _ xs e in
    elim (chosen (eqb n.0.0 0) _ _ (Some xs) n.2) [
      | inl w ↦ absurd (none_some xs w.1)
      | inr w ↦
          let ys = bind_some (items_at (item_at id) n.0.0 n.0.1) _ xs w.1 in
          let g = guarded (eqb (length ys.0.1) 0) ys.0.0 xs ys.2 in
          subst (λ (v : List Item). AllByRecursion IsItem v) g.1 (each_read IsItem (λ b x r h. (item_takes id b x r h).fine) n.0.0 n.0.1 ys.0.0 ys.0.1 ys.1)
    ]

custom_fine : (inner : List ℕ) (xs : List Item) → custom_at inner ≡ Some xs → AllByRecursion IsItem xs
unfolding custom_at
custom_fine inner xs e =
    let n = bind_some (name_at inner) _ xs e in
    let made : List Item = items.Custom n.0.0 n.0.1 ∷ [] in
    subst (λ (v : List Item). AllByRecursion IsItem v) (some_is made xs n.2) (name_exact.fine inner n.0.0 n.0.1 n.1, tt)

module_fine : (inner : List ℕ) (xs : List Item) → module_at inner ≡ Some xs → AllByRecursion IsItem xs
unfolding module_at
module_fine inner xs e =
    let made : List Item = items.CoreModule inner ∷ [] in
    let g = guarded (is_core_module inner) made xs e in
    subst (λ (v : List Item). AllByRecursion IsItem v) g.1 ((bytes_eq-Decides (take 8 inner) core_preamble).0 g.0, tt)

pub contents_fine : (id : ℕ) (inner : List ℕ) (xs : List Item) → contents_at id inner ≡ Some xs → AllByRecursion IsItem xs
unfolding contents_at
contents_fine id inner xs e =
    elim (chosen (eqb id 0) _ _ (Some xs) e) [
      | inl w ↦ custom_fine inner xs w.1
      | inr w ↦ elim (chosen (eqb id 1) _ _ (Some xs) w.1) [
        | inl v ↦ module_fine inner xs v.1
        | inr v ↦ counted_fine id inner xs v.1
      ]
    ]

-- no definition but a component has the id 4
no_components : (n : ℕ) (bytes : List ℕ) (y : List Item × List ℕ) → (n ≡ 0 → ⊥) → items_at (item_at 4) n bytes ≡ Some y → ⊥
unfolding items_at item_at
no_components zero bytes y some e = some refl
no_components (suc n) bytes y some e = none_some y e

not_four : (inner : List ℕ) (xs : List Item) → counted_at 4 inner ≡ Some xs → ⊥
unfolding counted_at
not_four inner xs e =
    let n = bind_some (number_at inner) _ xs e in
    elim (chosen (eqb n.0.0 0) _ _ (Some xs) n.2) [
      | inl w ↦ none_some xs w.1
      | inr w ↦ let ys = bind_some (items_at (item_at 4) n.0.0 n.0.1) _ xs w.1 in no_components n.0.0 n.0.1 ys.0 (eqb-false _ _ w.0) ys.1
    ]

is_shared : (id : ℕ) → eqb id 0 ≡ false → eqb id 1 ≡ false → eqb id 4 ≡ false → shares id ≡ true
is_shared id a b c = rw (a, b, c) refl

counted_by : (id : ℕ) (inner : List ℕ) (xs : List Item) → eqb id 0 ≡ false → eqb id 1 ≡ false → counted_at id inner ≡ Some xs → (four : Bool) → eqb id 4 ≡ four → Inside item id inner xs
counted_by id inner xs a b e true h = absurd (not_four inner xs (ap (λ (n : ℕ). counted_at n inner) (sym (eqb-true _ _ h)) ∙ e))
counted_by id inner xs a b e false h = counted_takes id inner xs (is_shared id a b h) e

pub contents_takes : (id : ℕ) (inner : List ℕ) (xs : List Item) → contents_at id inner ≡ Some xs → Inside item id inner xs
unfolding contents_at
contents_takes id inner xs e =
    elim (chosen (eqb id 0) _ _ (Some xs) e) [
      | inl w ↦ subst (λ (n : ℕ). Inside item n inner xs) (sym (eqb-true _ _ w.0)) (custom_takes inner xs w.1)
      | inr w ↦ elim (chosen (eqb id 1) _ _ (Some xs) w.1) [
        | inl v ↦ subst (λ (n : ℕ). Inside item n inner xs) (sym (eqb-true _ _ v.0)) (module_takes inner xs v.1)
        | inr v ↦ counted_by id inner xs w.0 v.0 v.1 (eqb id 4) refl
      ]
    ]
