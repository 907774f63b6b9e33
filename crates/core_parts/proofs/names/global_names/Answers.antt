use Rattle.std.proofs.Common.{◌≡◌, ◌∙◌, ℕ, List, ◌++◌, map, sym, ap, subst}
use Rattle.std.proofs.lemmas.List.{nil_from_length, map-append}
use Rattle.core_parts.specs.Names.{Named, name_view}
use Rattle.core_parts.proofs.Repeating.{NamesLeft, names_start, names_cut, names_bad, names_step, names_end}
use Rattle.core_parts.proofs.names.global_names.Goals as goal

pub loop-id-init : goal.loop-id-init
loop-id-init c = rw c.new-names.ensures.items (names_start c.args.bytes.now)

pub returns-in_default-read_bytes : goal.returns-in_default-read_bytes
returns-in_default-read_bytes c =
    names_cut c.args.bytes.now c.in-Some.after.now c.in-Some.id.now (map name_view c.loop-id.names.items) (sym c.in_default-read_bytes.ensures.value)
    (subst (λ (l : List ℕ). NamesLeft c.args.bytes.now l (map name_view c.loop-id.names.items)) c.in-Some.ensures.cases.0 c.loop-id.invariant)

pub returns-in_default-2 : goal.returns-in_default-2
returns-in_default-2 c =
    names_bad c.args.bytes.now c.in-Some.after.now c.in-Some-read_bytes.contents.now c.in-Some-read_bytes.after.now c.in-Some.id.now (map name_view c.loop-id.names.items) (sym c.in-Some-read_bytes.ensures.value) (sym (rw c.in_default-2.is at c.in_ok-more.ensures))
    (subst (λ (l : List ℕ). NamesLeft c.args.bytes.now l (map name_view c.loop-id.names.items)) c.in-Some.ensures.cases.0 c.loop-id.invariant)

pub loop-id-preserved : goal.loop-id-preserved
loop-id-preserved c =
    let e : map name_view c.extend_from_slice.new.self.items ≡ map name_view c.loop-id.names.items ++ map name_view c.in-Some-2.more.items =
    ap (map name_view) (rw c.deref.ensures.value at c.in_ok-extend_from_slice.ensures.items) ∙ map-append name_view c.loop-id.names.items c.in-Some-2.more.items in
    subst (λ (front : List Named). NamesLeft c.args.bytes.now c.in-Some-read_bytes.after.now front) (sym e)
    (names_step c.args.bytes.now c.in-Some.after.now c.in-Some-read_bytes.contents.now c.in-Some-read_bytes.after.now c.in-Some.id.now (map name_view c.loop-id.names.items) (map name_view c.in-Some-2.more.items)
    (sym c.in-Some-read_bytes.ensures.value) (sym (rw c.in-Some-2.is at c.in_ok-more.ensures)) c.in-Some-read_bytes.ensures.shorter
    (subst (λ (l : List ℕ). NamesLeft c.args.bytes.now l (map name_view c.loop-id.names.items)) c.in-Some.ensures.cases.0 c.loop-id.invariant))

pub returns : goal.returns
returns c =
    names_end c.args.bytes.now (map name_view c.loop-id.names.items)
    (subst (λ (l : List ℕ). NamesLeft c.args.bytes.now l (map name_view c.loop-id.names.items)) (nil_from_length c.loop-id.rest.now c.in_default.ensures.cases) c.loop-id.invariant)
