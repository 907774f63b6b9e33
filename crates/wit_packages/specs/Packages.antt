-- What a WIT package says: the names of its world, the world, and how its functions encode texts.
-- Component model, binary format: `component`; the section `wit-component-encoding` is that of the
-- tools which write packages.
use Rattle.std.specs.Prelude.{◌≡◌, ⊤, ℕ, ◌==◌, ◌||◌, ◌&&◌, not, List, [], ◌∷◌, length, codes, Option, Some, None, is_some, Result, Ok, Err, if◌then◌else◌}
use Rattle.std.specs.Str.{bytes_eq}
use Rattle.standard_kinds.specs.declared.kinds.StringEncoding.{StringEncoding}
use Rattle.standard_kinds.specs.declared.kinds.StringEncoding.TheVariants as encodings
use Rattle.comp_bytes.specs.declared.types.ExternName.{ExternName}
use Rattle.package_copies.specs.Worlds.{allowed, first_over, start}
use Rattle.package_syntax.specs.declared.fault.Refusal.{Refusal}
use Rattle.package_syntax.specs.declared.syntax.WorldType.{WorldType}
use Rattle.package_syntax.specs.declared.syntax.Section.{Section}
use Rattle.package_syntax.specs.declared.syntax.Section.TheVariants as sections
use Rattle.package_syntax.specs.Sections.{package_at}
use Rattle.wit_packages.specs.declared.fault.Lack.{Lack}
use Rattle.wit_packages.specs.declared.fault.Lack.TheVariants as lacks
use Rattle.wit_packages.specs.declared.fault.PackageFault.{PackageFault}
use Rattle.wit_packages.specs.declared.fault.PackageFault.TheVariants as faults
use Rattle.wit_packages.specs.declared.fault.Wrong.TheVariants as wrongs
use Rattle.wit_packages.specs.declared.packages.Package.{Package}
use Rattle.wit_packages.specs.declared.packages.Parts.{Parts}
use Rattle.wit_packages.specs.declared.packages.Whole.{Whole}
use Rattle.wit_packages.specs.Worlds.{Read, ◌>->◌, world_of}

-- ---- the parts of a package

abbrev pub encoding_byte : ℕ → Read StringEncoding
encoding_byte b =
    if b == 0 then Ok encodings.UTF8
    else (if b == 1 then Ok encodings.UTF16
    else (if b == 2 then Ok encodings.CompactUTF16
    else Err (faults.Sections lacks.EncodingForm)))

-- the version 4, and the encoding
abbrev pub encoding_of : List ℕ → Read StringEncoding
encoding_of [] = Err (faults.Sections lacks.EncodingForm)
encoding_of (v ∷ []) = Err (faults.Sections lacks.EncodingForm)
encoding_of (v ∷ e ∷ []) = if v == 4 then encoding_byte e else Err (faults.Sections lacks.EncodingForm)
encoding_of (v ∷ e ∷ x ∷ xs) = Err (faults.Sections lacks.EncodingForm)

abbrev pub with_encoding : Parts → StringEncoding → Parts
with_encoding p e = record { encoding = Some e; world = p.world; name = p.name }

abbrev pub encoding_part : Parts → List ℕ → Read Parts
encoding_part p contents =
    if is_some p.encoding then Err (faults.Sections lacks.Encoding)
    else (encoding_of contents >-> λ e. Ok (with_encoding p e))

-- other custom sections are skipped
abbrev pub custom_part : Parts → List ℕ → List ℕ → Read Parts
custom_part p name contents = if bytes_eq name (codes "wit-component-encoding") then encoding_part p contents else Ok p

abbrev pub world_part : Parts → WorldType → Read Parts
world_part p w =
    if is_some p.world || is_some p.name then Err (faults.Sections lacks.World)
    else Ok (record { encoding = p.encoding; world = Some w; name = p.name })

-- the export comes after the world
abbrev pub export_part : Parts → ExternName → Read Parts
export_part p n =
    if is_some p.world && not (is_some p.name) then Ok (record { encoding = p.encoding; world = p.world; name = Some n })
    else Err (faults.Sections lacks.World)

abbrev pub part_step : Parts → Section → Read Parts
part_step p (sections.Custom name contents) = custom_part p name contents
part_step p (sections.World w) = world_part p w
part_step p (sections.Export n) = export_part p n

abbrev pub parts_from : List Section → Parts → Read Parts
parts_from [] p = Ok p
parts_from (s ∷ ss) p = part_step p s >-> λ q. parts_from ss q

abbrev pub no_parts : Parts
no_parts = record { encoding = None; world = None; name = None }

-- all three
abbrev pub whole_by : Option StringEncoding → Option WorldType → Option ExternName → Read Whole
whole_by None w n = Err (faults.Sections lacks.Encoding)
whole_by (Some e) None n = Err (faults.Sections lacks.World)
whole_by (Some e) (Some w) None = Err (faults.Sections lacks.World)
whole_by (Some e) (Some w) (Some n) = Ok (record { encoding = e; world = w; name = n })

abbrev pub whole_of : List Section → Read Whole
whole_of ss = parts_from ss no_parts >-> λ p. whole_by p.encoding p.world p.name

-- ---- what they say

-- a name in one part
abbrev pub one_part : List ℕ → Option (List ℕ) → Read (List ℕ)
one_part name None = Ok name
one_part name (Some suffix) = Err (faults.Sections lacks.Name)

abbrev pub plain_name : ExternName → Read (List ℕ)
plain_name n = one_part n.name n.version_suffix

-- what its types say, with each use of an unnamed one as a copy of it, is bounded by the length of the package
abbrev pub copied_by : Option ℕ → Read ⊤
copied_by None = Ok tt
copied_by (Some n) = Err (faults.Declaration n wrongs.Copies)

abbrev pub copies_checked : ℕ → Whole → Read ⊤
copies_checked n w = copied_by (first_over (allowed n) 0 w.world.declarations start)

unfoldable pub said_by : Whole → Read Package
said_by w =
    plain_name w.name >-> λ name.
    plain_name w.world.id >-> λ id.
    world_of w.world.declarations >-> λ wit.
    Ok (record { name = name; id = id; encoding = w.encoding; wit = wit })

abbrev pub syntax : {A : Type 0} → Result A Refusal → Read A
syntax (Ok x) = Ok x
syntax (Err r) = Err (faults.Syntax r)

-- the package that bytes are
unfoldable pub package_of : List ℕ → Read Package
package_of bytes =
    syntax (package_at bytes) >-> λ ss.
    whole_of ss >-> λ w.
    copies_checked (length bytes) w >-> λ _.
    said_by w
