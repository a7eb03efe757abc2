-- What a call on a disk does, said of the memory that it holds.
use Rattle.std.proofs.Common.{true, false, sym, ◌≡◌, inl, inr, ⊎_elim, ℕ, Bool, List, [], ◌∷◌, length, Option, Some, None, is_some, option_map, refl, ◌∙◌, ap, subst, arith}
use Rattle.std.specs.Prelude.{◌+◌, ◌≤◌, ◌⊎◌}
use Rattle.card_layout.proofs.Images.{put_outside}
use Rattle.tach_media.specs.Medium.{State, IsCoherent, LiesInside, LeavesOnly, Reads, HasCause, Unchanged, put, IsPartlyWritten}
use Rattle.tach_media.proofs.Runs.{goes_same, from_reads, after_reads, cause_after}
use Rattle.sector_medium.specs.Disk.{IsTorn}
use Rattle.sector_medium.specs.Redo.{recovered}
use Rattle.sector_medium.specs.Recovered.{on_disk, HasRoom, Changes}

-- the cause of an answer speaks of no image
pub lift_cause : (size : ℕ) {old new : State} {failed : Bool} → HasCause old new failed → HasCause (on_disk size old) (on_disk size new) failed
lift_cause size cause = record {
  works = cause.works;
  broken = cause.broken;
  faults = cause.faults;
  fault = cause.fault;
  breakdowns = cause.breakdowns;
  breaks = cause.breaks;
  unbroken = cause.unbroken;
  already = cause.already;
  once = cause.once;
  tells = record { later = cause.tells.later; told = cause.tells.told };
}

same_told : (o p : Option (List ℕ)) (f : List ℕ → List ℕ) → is_some o ≡ is_some p → is_some (option_map f o) ≡ is_some (option_map f p)
same_told None None f same = refl
same_told None (Some y) f same = absurd (cc)
same_told (Some x) None f same = absurd (cc)
same_told (Some x) (Some y) f same = refl

-- What a run leaves of the memory, where each image that it leaves of the disk is so related as is recovered of it. An
-- image of which the same is recovered as before is no new one.
pub lift_leaves : (size : ℕ) {old new : State} (R S : List ℕ → List ℕ → Type 0) → IsCoherent old → LeavesOnly old new R
    → ((d c : List ℕ) → old.image ≡ Some d → R d c → (recovered size c ≡ recovered size d) ⊎ S (recovered size d) (recovered size c))
    → LeavesOnly (on_disk size old) (on_disk size new) S
lift_leaves size {old} {new} R S whole run so = record {
  size = refl;
  behind = refl;
  writable = refl;
  layers = run.layers;
  tells = same_told new.image old.image (recovered size) run.tells;
  later = run.later;
  since = λ t x le left. ⊎_elim
      (λ was. inl (left.0, was, left.2))
      (λ here. ⊎_elim
      (λ same. inl (here.0, whole.counts_now t here.0 le (whole.is_left here.0 here.1), left.2 ∙ same))
      (λ other. inr (recovered size here.0, ap (option_map (recovered size)) here.1, subst (S (recovered size here.0)) (sym left.2) other))
      (so here.0 left.0 here.1 here.2))
      (run.since t left.0 le left.1);
  now = λ x left. ⊎_elim
      (λ was. inl (left.0, was, left.2))
      (λ here. ⊎_elim
      (λ same. inl (here.0, whole.is_left here.0 here.1, left.2 ∙ same))
      (λ other. inr (recovered size here.0, ap (option_map (recovered size)) here.1, subst (S (recovered size here.0)) (sym left.2) other))
      (so here.0 left.0 here.1 here.2))
      (run.now left.0 left.1);
  keeps = λ t x le left. (left.0, run.keeps t left.0 le left.1, left.2);
}

-- a call that only reads the disk
pub lift_reads : (size : ℕ) {old new : State} {failed : Bool} → IsCoherent old → Reads old new failed → Reads (on_disk size old) (on_disk size new) failed
lift_reads size whole reads = record {
  same = λ fine. ap (option_map (recovered size)) (reads.same fine);
  leaves = lift_leaves size Unchanged Unchanged whole reads.leaves (λ d c is none. absurd none);
  clock = reads.clock;
  cause = lift_cause size reads.cause;
}

-- what is recovered of a told image after a write
mapped : (o : Option (List ℕ)) (f g h : List ℕ → List ℕ) → ((d : List ℕ) → o ≡ Some d → f (g d) ≡ h d) → option_map f (option_map g o) ≡ option_map h o
mapped None f g h same = refl
mapped (Some d) f g h same = ap Some (same d refl)

mapped_twice : (o : Option (List ℕ)) (f g h : List ℕ → List ℕ) → ((d : List ℕ) → o ≡ Some d → f (g d) ≡ h (f d)) → option_map f (option_map g o) ≡ option_map h (option_map f o)
mapped_twice None f g h same = refl
mapped_twice (Some d) f g h same = ap Some (same d refl)

-- a write as it is told of a disk
pub record Wrote (old new : State) (failed : Bool) (place : ℕ) (bytes : List ℕ) : Type 0 where
  pub written : failed ≡ false → new.image ≡ option_map (put place bytes) old.image
  pub leaves : LeavesOnly old new (IsTorn place bytes)
  pub clock : new.clock ≡ old.clock
  pub cause : HasCause old new failed

-- a write that is done whole is one that is cut short
pub torn_whole : (place : ℕ) (bytes d : List ℕ) → place + length bytes ≤ length d → IsTorn place bytes d (put place bytes d)
torn_whole place bytes d inside = record { outside = put_outside place bytes d inside; whole = λ short sector. inr refl }

-- a write of which nothing is seen in the memory, however it is torn
pub lift_quiet : (size : ℕ) {old new : State} {failed : Bool} (place : ℕ) (bytes : List ℕ) → IsCoherent old → place + length bytes ≤ old.size → Wrote old new failed place bytes
    → ((d c : List ℕ) → old.image ≡ Some d → IsTorn place bytes d c → recovered size c ≡ recovered size d)
    → Reads (on_disk size old) (on_disk size new) failed
lift_quiet size {old} {new} {failed} place bytes whole inside wrote so = record {
  same = λ fine. ap (option_map (recovered size)) (wrote.written fine)
      ∙ mapped old.image (recovered size) (put place bytes) (recovered size)
      (λ d is. so d (put place bytes d) is (torn_whole place bytes d (omega (arith, inside, whole.sized d is))));
  leaves = lift_leaves size (IsTorn place bytes) Unchanged whole wrote.leaves (λ d c is torn. inl (so d c is torn));
  clock = wrote.clock;
  cause = lift_cause size wrote.cause;
}

-- a write that is one of the memory, at this place and with these bytes
pub lift_change : (size : ℕ) {old new : State} {failed : Bool} (place : ℕ) (bytes : List ℕ) (p : ℕ) (bs : List ℕ) → IsCoherent old → place + length bytes ≤ old.size
    → Wrote old new failed place bytes
    → ((d c : List ℕ) → old.image ≡ Some d → IsTorn place bytes d c → IsPartlyWritten p bs (recovered size d) (recovered size c))
    → ((d : List ℕ) → old.image ≡ Some d → recovered size (put place bytes d) ≡ put p bs (recovered size d))
    → Changes (on_disk size old) (on_disk size new) failed p bs
lift_change size {old} {new} {failed} place bytes p bs whole inside wrote so done = record {
  written = λ fine. ap (option_map (recovered size)) (wrote.written fine) ∙ mapped_twice old.image (recovered size) (put place bytes) (put p bs) done;
  leaves = lift_leaves size (IsTorn place bytes) (IsPartlyWritten p bs) whole wrote.leaves (λ d c is torn. inr (so d c is torn));
  clock = wrote.clock;
  cause = lift_cause size wrote.cause;
}

-- the room stays
pub room_stays : {size : ℕ} {old new : State} {R : List ℕ → List ℕ → Type 0} → HasRoom size old → LeavesOnly old new R → HasRoom size new
room_stays room run = record { room = omega (arith, room.room, run.size); fits = room.fits; writable = run.writable ∙ room.writable ∙ ap (λ (n : ℕ). (0, n) ∷ []) (sym run.size) }

-- all of the disk may be written
pub may_write : {size : ℕ} {s : State} (place len : ℕ) → HasRoom size s → place + len ≤ s.size → LiesInside s.writable place len
may_write {size} {s} place len room inside = subst (λ (l : List (ℕ × ℕ)). LiesInside l place len) (sym room.writable) (inl (omega arith, omega (arith, inside)))

-- reads before a change, and behind it
pub read_change : {old mid new : State} {failed : Bool} {place : ℕ} {bytes : List ℕ} → Reads old mid false → Changes mid new failed place bytes → Changes old new failed place bytes
read_change {old} {mid} {new} {failed} {place} {bytes} first next = record {
  written = λ fine. next.written fine ∙ ap (option_map (put place bytes)) (first.same refl);
  leaves = after_reads first.leaves (first.same refl) next.leaves;
  clock = next.clock ∙ first.clock;
  cause = cause_after first.cause next.cause;
}

pub change_read : {old mid new : State} {failed : Bool} {place : ℕ} {bytes : List ℕ} → Changes old mid false place bytes → Reads mid new failed → Changes old new failed place bytes
change_read first next = record {
  written = λ fine. next.same fine ∙ first.written refl;
  leaves = goes_same first.leaves next.leaves;
  clock = next.clock ∙ first.clock;
  cause = cause_after first.cause next.cause;
}

-- a call that failed before the change
pub read_failed : {old new : State} {place : ℕ} {bytes : List ℕ} → Reads old new true → Changes old new true place bytes
read_failed reads = record { written = λ fine. absurd (cc); leaves = from_reads reads.leaves; clock = reads.clock; cause = reads.cause }

-- the same answer under another name
pub reads_as : {old new : State} {a b : Bool} → a ≡ b → Reads old new b → Reads old new a
reads_as {old} {new} same reads = subst (Reads old new) (sym same) reads

pub changes_as : {old new : State} {a b : Bool} {place : ℕ} {bytes : List ℕ} → a ≡ b → Changes old new b place bytes → Changes old new a place bytes
changes_as {old} {new} {a} {b} {place} {bytes} same change = subst (λ (f : Bool). Changes old new f place bytes) (sym same) change
