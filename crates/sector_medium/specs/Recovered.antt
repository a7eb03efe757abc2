-- A disk as a memory, by what is recovered of each of its images.
use Rattle.std.specs.Prelude.{◌≡◌, ℕ, ◌+◌, ◌≤◌, ◌<◌, ◌^◌, Bool, List, [], ◌∷◌, length, Option, Some, None, option_map}
use Rattle.std.specs.Prelude.{true, false}
use Rattle.std.proofs.Common.{refl, sym, ◌∙◌, ap, subst, arith}
use Rattle.card_layout.specs.Fields.{IsBytes}
use Rattle.tach_media.specs.Medium.{State, IsCoherent, HoldsBytes, LeavesOnly, HasCause, IsPartlyWritten, put}
use Rattle.sector_medium.specs.Redo.{record_place, recovered, is_pending, IsShut, IsOpen, IsAround}
use Rattle.sector_medium.specs.declared.found.Redo.{Redo}
use Rattle.sector_medium.specs.declared.found.Found.{Found}
use Rattle.sector_medium.specs.declared.found.Found.TheVariants.{Unknown, Closed, Stale, Open}
use Rattle.sector_medium.specs.RedoLaws.{recovered_sized, recovered_bytes}

-- THE MEMORY OF SO MANY BYTES ON A DISK: its image is what is recovered of the disk's, and a stop may leave what is
-- recovered of an image that it may leave of the disk
abbrev pub on_disk : ℕ → State → State
on_disk size s = record {
  size = size;
  behind = 0;
  writable = (0, size) ∷ [];
  image = option_map (recovered size) s.image;
  may_leave = λ x. (c : List ℕ) × s.may_leave c × (x ≡ recovered size c);
  left_since = λ t x. (c : List ℕ) × s.left_since t c × (x ≡ recovered size c);
  clock = s.clock;
  works = s.works;
  faults = s.faults;
  breakdowns = s.breakdowns;
  broke = s.broke;
  layers = s.layers;
}

-- what was recovered of a told image
pub told_of : (o : Option (List ℕ)) (f : List ℕ → List ℕ) (x : List ℕ) → option_map f o ≡ Some x
    → (c : List ℕ) × (o ≡ Some c) × (x ≡ f c)
told_of None f x is = absurd (cc)
told_of (Some c) f x is = (c, refl, cc)

-- it is coherent where the disk is, and has room for the record
pub on_disk_coherent : (size : ℕ) (s : State) → record_place size + 16 ≤ s.size → IsCoherent s
    → IsCoherent (on_disk size s)
on_disk_coherent size s room whole = record {
  sized = λ x is.
      let d = told_of s.image (recovered size) x is in
      let long = recovered_sized size d.0 (omega (arith, room, whole.sized d.0 d.1)) in
      omega (arith, ap length d.2, long);
  left_sized = λ x left.
      let long = recovered_sized size left.0 (omega (arith, room, whole.left_sized left.0 left.1)) in
      omega (arith, ap length left.2, long);
  is_left = λ x is.
      let d = told_of s.image (recovered size) x is in
      (d.0, whole.is_left d.0 d.1, d.2);
  only = λ x works left.
      let told = whole.only left.0 works left.1 in
      ap (option_map (recovered size)) told ∙ ap Some (sym left.2);
  counts_now = λ t x le left. (left.0, whole.counts_now t left.0 le left.1, left.2);
  earlier = λ t u x le high left. (left.0, whole.earlier t u left.0 le high left.1, left.2);
  broken = whole.broken;
}

-- and of bytes
pub on_disk_bytes : (size : ℕ) (s : State) → HoldsBytes s → HoldsBytes (on_disk size s)
on_disk_bytes size s holds = record {
  told = λ x is.
      let d = told_of s.image (recovered size) x is in
      subst IsBytes (sym d.2) (recovered_bytes size d.0 (holds.told d.0 d.1));
  now = λ x left. subst IsBytes (sym left.2) (recovered_bytes size left.0 (holds.now left.0 left.1));
  since = λ t x left. subst IsBytes (sym left.2) (recovered_bytes size left.0 (holds.since t left.0 left.1));
}

-- A disk has room for a memory of so many bytes and the record behind it, and it may be written.
pub record HasRoom (size : ℕ) (s : State) : Type 0 where
  pub room : record_place size + 16 ≤ s.size
  pub fits : record_place size + 16 < 2 ^ 32
  pub writable : s.writable ≡ (0, s.size) ∷ []

-- What a call does that writes these bytes, before its end is told.
pub record Changes (old new : State) (failed : Bool) (place : ℕ) (bytes : List ℕ) : Type 0 where
  pub written : failed ≡ false → new.image ≡ option_map (put place bytes) old.image
  pub leaves : LeavesOnly old new (IsPartlyWritten place bytes)
  pub clock : new.clock ≡ old.clock
  pub cause : HasCause old new failed

-- what was seen behind the front of a disk that has this image
pub record IsSeen (size : ℕ) (found : Found) (d : List ℕ) : Type 0 where
  pub closed : found ≡ Closed → IsShut size d
  pub stale : found ≡ Stale → is_pending size d ≡ false
  pub opened : (p : Redo) → found ≡ Open p → IsOpen size p.place p.bytes d

-- WHAT IS KNOWN OF A DISK by what was seen behind its front, since the last call that failed
pub record IsKnown (size : ℕ) (found : Found) (s : State) : Type 0 where
  pub awake : (found ≡ Unknown → ⊥) → s.works ≡ true
  pub seen : (d : List ℕ) → s.image ≡ Some d → IsSeen size found d
  pub around : (p : Redo) → found ≡ Open p → IsAround size p.place
