-- A file of the table that the unit updates lies in what a port may write.
use Rattle.std.proofs.Common.{◌≡◌, inl, inr, ℕ, ◌+◌, Bool, true, false, List, [], ◌∷◌, map, Option, Some, None, IfSome, sym, subst, arith}
use Rattle.std.specs.Prelude.{◌==◌, if◌then◌else◌}
use Rattle.card_layout.specs.declared.files.Application.{Application}
use Rattle.card_layout.specs.declared.files.CardFile.{CardFile}
use Rattle.card_layout.specs.declared.files.Fid.{Fid}
use Rattle.card_layout.specs.declared.files.Range.{Range}
use Rattle.card_layout.specs.Files.{files_of, range_from, range_of, is_updated_in, is_updated, updated_from}
use Rattle.tach_media.specs.Medium.{LiesInside}
use Rattle.card_commands.specs.Ports.{writable_of}

-- ranges by their place and their length
abbrev pairs : List Range → List (ℕ × ℕ)
pairs ranges = map (λ q. (q.base, q.len)) ranges

in_table : (base : ℕ) (fs : List CardFile) (fid : Fid) (r : Range) → range_from base fs fid ≡ Some r → is_updated_in fs fid ≡ true → LiesInside (pairs (updated_from base fs)) r.base r.len
in_table base [] fid r at up = absurd (cc)
in_table base (f ∷ fs) fid r at up = here (fid.0 == f.fid.0) f.updated at up (λ there later. in_table (base + f.size) fs fid r there later)
  where
    here : (b u : Bool) → (if b then Some (record { base = base; len = f.size }) else range_from (base + f.size) fs fid) ≡ Some r → (if b then u else is_updated_in fs fid) ≡ true
        → (range_from (base + f.size) fs fid ≡ Some r → is_updated_in fs fid ≡ true → LiesInside (pairs (updated_from (base + f.size) fs)) r.base r.len)
        → LiesInside (pairs (if u then record { base = base; len = f.size } ∷ updated_from (base + f.size) fs else updated_from (base + f.size) fs)) r.base r.len
    here true true at up later =
        let q : Range = record { base = base; len = f.size } in
        let same : q ≡ r = cc in
        subst (λ (p : Range). LiesInside ((base, f.size) ∷ pairs (updated_from (base + f.size) fs)) p.base p.len) same (inl (omega arith, omega arith))
    here true false at up later = absurd (cc)
    here false true at up later = inr (later at up)
    here false false at up later = later at up

pub updated_writable : (app : Application) (fid : Fid) (r : Range) → range_of app fid ≡ Some r → is_updated app fid ≡ true → LiesInside (writable_of app) r.base r.len
updated_writable app fid r at up = in_table 0 (files_of app) fid r at up

-- the same of what a search for the file answers
pub if_writable : (app : Application) (fid : Fid) (o : Option Range) → is_updated app fid ≡ true → o ≡ range_of app fid → IfSome o (λ r. LiesInside (writable_of app) r.base r.len)
if_writable app fid None up is = tt
if_writable app fid (Some r) up is = updated_writable app fid r (sym is) up
