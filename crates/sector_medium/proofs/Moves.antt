-- What each write of a record does to the memory.
use Rattle.std.proofs.Common.{true, false, sym, ◌≡◌, inl, ⊎_elim, ℕ, Bool, List, ◌++◌, length, take, drop, Option, Some, None, option_map, IfSome, refl, ◌∙◌, ap, subst, arith}
use Rattle.std.specs.Prelude.{◌+◌, ◌-◌, ◌/◌, ◌%◌, ◌^◌, ◌<◌, ◌≤◌, Result, OnOk, is_err}
use Rattle.std.proofs.lemmas.Bool.Decides.{nat_tests}
use Rattle.byteorder.specs.Endian.{big_bytes}
use Rattle.byteorder.specs.Numbers.{length-bytes_high_first}
use Rattle.card_layout.proofs.Images.{put_outside}
use Rattle.tach_media.specs.Medium.{State, IsCoherent, LeavesOnly, Reads, HasCause, put, bytes_at}
use Rattle.tach_media.proofs.Runs.{ok_gives, at_image}
use Rattle.sector_medium.specs.Disk.{IsTorn}
use Rattle.sector_medium.specs.Redo.{record_place, recovered, is_gate, window, IsShut, IsOpen, IsReady, IsHalfDone, IsAround}
use Rattle.std.proofs.lemmas.List.{length-take-le, length-drop}
use Rattle.sector_medium.specs.RedoLaws.{gate_fits, record_behind, recovered_sized}
use Rattle.sector_medium.specs.Recovered.{on_disk, HasRoom, Changes}
use Rattle.sector_medium.proofs.Redos.{shut_quiet, shut_after, before_put, behind_put, gate_opened, in_place, in_place_done, record_quiet, shut_kept, partly_same, partly_put, record_ready}
use Rattle.sector_medium.proofs.Lifts.{Wrote, lift_quiet, lift_change}

-- a write, by what the call on the disk ensures
pub wrote : {A E : Type 0} {old new : State} {p : ℕ} {w : List ℕ} (r : Result A E) → OnOk r (new.image ≡ option_map (put p w) old.image) → LeavesOnly old new (IsTorn p w) → new.clock ≡ old.clock → HasCause old new (is_err r)
    → Wrote old new (is_err r) p w
wrote r written leaves clock cause = record { written = λ fine. ok_gives r written fine; leaves = leaves; clock = clock; cause = cause }

pub wrote_not : {old new : State} {p : ℕ} {w : List ℕ} → LeavesOnly old new (IsTorn p w) → new.clock ≡ old.clock → HasCause old new true → Wrote old new true p w
wrote_not leaves clock cause = record { written = λ fine. absurd (cc); leaves = leaves; clock = clock; cause = cause }

pub wrote_done : {old new : State} {p : ℕ} {w : List ℕ} → new.image ≡ option_map (put p w) old.image → LeavesOnly old new (IsTorn p w) → new.clock ≡ old.clock → HasCause old new false → Wrote old new false p w
wrote_done written leaves clock cause = record { written = λ fine. written; leaves = leaves; clock = clock; cause = cause }

pub wrote_at : {old new : State} {failed : Bool} {p q : ℕ} {w v : List ℕ} → p ≡ q → w ≡ v → Wrote old new failed p w → Wrote old new failed q v
wrote_at {old} {new} {failed} {p} {q} {w} {v} place same run = subst (λ (l : List ℕ). Wrote old new failed q l) same (subst (λ (n : ℕ). Wrote old new failed n w) place run)

-- what is told of the image after a write that was done
pub written_told : {old new : State} {failed : Bool} {p : ℕ} {w : List ℕ} → Wrote old new failed p w → failed ≡ false → (P : List ℕ → Type 0)
    → ((d : List ℕ) → old.image ≡ Some d → P (put p w d)) → IfSome new.image P
written_told {old} {new} {failed} {p} {w} run fine P so = subst (λ (o : Option (List ℕ)). IfSome o P) (sym (run.written fine)) (by old.image refl)
  where
    by : (o : Option (List ℕ)) → old.image ≡ o → IfSome (option_map (put p w) o) P
    by None is = tt
    by (Some d) is = so d is

pub told_at : (o : Option (List ℕ)) (P : List ℕ → Type 0) (d : List ℕ) → IfSome o P → o ≡ Some d → P d
told_at o P d told is = at_image P is told

aligned : (size : ℕ) → record_place size % 512 ≡ 0
unfolding record_place
aligned size = omega arith

-- the border that a short write crosses
pub crossing : (size place len : ℕ) → 512 < place % 512 + len → len ≤ 4 → place + len ≤ size → is_gate size (place / 512 + 1) ≡ true
unfolding is_gate
crossing size place len over short inside =
    let low : 0 < place / 512 + 1 = omega arith in
    let high : place / 512 + 1 ≤ size / 512 = omega (arith, over, short, inside) in
    grind (arith, nat_tests)

pub gate_around : (size k : ℕ) → is_gate size k ≡ true → IsAround size (window k)
gate_around size k is = let f = gate_fits size k is in record { border = omega (arith, f.0); inside = omega (arith, f.0, f.1) }

four_bytes : (k : ℕ) → length (big_bytes 4 k) ≡ 4
four_bytes k = length-bytes_high_first 4 k

-- the disk has the record behind the memory
room_of : (size : ℕ) (s : State) (d : List ℕ) → HasRoom size s → IsCoherent s → s.image ≡ Some d → record_place size + 16 ≤ length d
room_of size s d room whole is = omega (arith, room.room, whole.sized d is)

module _ (size : ℕ) {old new : State} {failed : Bool} (room : HasRoom size old) (whole : IsCoherent old) where
  -- the gate is shut
  pub shut_reads : Wrote old new failed (record_place size) (big_bytes 4 0) → IfSome old.image (λ d. recovered size d ≡ take size d) → Reads (on_disk size old) (on_disk size new) failed
  shut_reads run done = lift_quiet size (record_place size) (big_bytes 4 0) whole (omega (arith, room.room, four_bytes 0)) run
      (λ d c is torn. shut_quiet size d c (big_bytes 4 0) refl (four_bytes 0) (omega (arith, room_of size old d room whole is))
      (torn.whole (omega (arith, four_bytes 0)) (omega (arith, aligned size, four_bytes 0))) (told_at old.image (λ d. recovered size d ≡ take size d) d done is))

  pub shut_shuts : Wrote old new failed (record_place size) (big_bytes 4 0) → failed ≡ false → IfSome new.image (IsShut size)
  shut_shuts run fine = written_told run fine (IsShut size) (λ d is. shut_after size d (big_bytes 4 0) refl (four_bytes 0) (omega (arith, room_of size old d room whole is)))

  -- the side before the border is written
  pub before_reads : (q : ℕ) (w : List ℕ) → length w ≡ 6 → IsAround size q → Wrote old new failed q (take 3 w) → IfSome old.image (IsOpen size q w) → Reads (on_disk size old) (on_disk size new) failed
  before_reads q w six around run opened = lift_quiet size q (take 3 w) whole (omega (arith, room.room, around.inside, three)) run
      (λ d c is torn. ⊎_elim (λ same. ap (recovered size) same)
      (λ done. ap (recovered size) done ∙ (before_put size q w d (told_at old.image (IsOpen size q w) d opened is) (room_of size old d room whole is)).1)
      (torn.whole (omega (arith, three)) (omega (arith, around.border, three))))
    where
      three : length (take 3 w) ≡ 3
      three = length-take-le 3 w (omega (arith, six))

  pub before_half : (q : ℕ) (w : List ℕ) → Wrote old new failed q (take 3 w) → IfSome old.image (IsOpen size q w) → failed ≡ false → IfSome new.image (IsHalfDone size q w)
  before_half q w run opened fine = written_told run fine (IsHalfDone size q w) (λ d is. (before_put size q w d (told_at old.image (IsOpen size q w) d opened is) (room_of size old d room whole is)).0)

  -- the side behind the border is written
  pub behind_reads : (q : ℕ) (w : List ℕ) → length w ≡ 6 → IsAround size q → Wrote old new failed (q + 3) (drop 3 w) → IfSome old.image (IsHalfDone size q w) → Reads (on_disk size old) (on_disk size new) failed
  behind_reads q w six around run half = lift_quiet size (q + 3) (drop 3 w) whole (omega (arith, room.room, around.inside, three)) run
      (λ d c is torn. ⊎_elim (λ same. ap (recovered size) same)
      (λ done. ap (recovered size) done ∙ (behind_put size q w d (told_at old.image (IsHalfDone size q w) d half is) (room_of size old d room whole is)).1)
      (torn.whole (omega (arith, three)) (omega (arith, around.border, three))))
    where
      three : length (drop 3 w) ≡ 3
      three = omega (arith, six, length-drop 3 w)

  pub behind_done : (q : ℕ) (w : List ℕ) → Wrote old new failed (q + 3) (drop 3 w) → IfSome old.image (IsHalfDone size q w) → failed ≡ false → IfSome new.image (λ d. recovered size d ≡ take size d)
  behind_done q w run half fine = written_told run fine (λ d. recovered size d ≡ take size d)
      (λ d is. (behind_put size q w d (told_at old.image (IsHalfDone size q w) d half is) (room_of size old d room whole is)).0)

  -- a record is written
  pub record_reads : (w : List ℕ) → length w ≡ 12 → Wrote old new failed (record_place size + 4) w → IfSome old.image (IsShut size) → Reads (on_disk size old) (on_disk size new) failed
  record_reads w twelve run shut = lift_quiet size (record_place size + 4) w whole (omega (arith, room.room, twelve)) run
      (λ d c is torn. record_quiet size (record_place size + 4) (length w) d c torn.outside (omega arith) (told_at old.image (IsShut size) d shut is))

  -- the gate is opened
  pub opened_changes : (k place : ℕ) (bytes after : List ℕ) → Wrote old new failed (record_place size) (big_bytes 4 k) → is_gate size k ≡ true → k < 256 ^ 4
      → window k ≤ place → place + length bytes ≤ window k + 6 → place + length bytes ≤ size
      → IfSome old.image (IsReady size (window k) place bytes after) → Changes (on_disk size old) (on_disk size new) failed place bytes
  opened_changes k place bytes after run gate small low high inside ready = lift_change size (record_place size) (big_bytes 4 k) place bytes whole (omega (arith, room.room, four_bytes k)) run
      (λ d c is torn.
      let here = at d is in
      let sized : length (recovered size d) ≡ size = recovered_sized size d (room_of size old d room whole is) in
      ⊎_elim (λ same. partly_same place bytes (recovered size d) (recovered size c) (ap (recovered size) same))
      (λ done. partly_put place bytes (recovered size d) (recovered size c) (omega (arith, inside, sized)) (ap (recovered size) done ∙ here.1))
      (torn.whole (omega (arith, four_bytes k)) (omega (arith, aligned size, four_bytes k))))
      (λ d is. (at d is).1)
    where
      at : (d : List ℕ) → old.image ≡ Some d → IsOpen size (window k) after (put (record_place size) (big_bytes 4 k) d) × (recovered size (put (record_place size) (big_bytes 4 k) d) ≡ put place bytes (recovered size d))
      at d is = gate_opened size k place bytes after d (big_bytes 4 k) (told_at old.image (IsReady size (window k) place bytes after) d ready is) gate small refl (four_bytes k)
          (room_of size old d room whole is) low high inside

  pub opened_opens : (k place : ℕ) (bytes after : List ℕ) → Wrote old new failed (record_place size) (big_bytes 4 k) → is_gate size k ≡ true → k < 256 ^ 4
      → window k ≤ place → place + length bytes ≤ window k + 6 → place + length bytes ≤ size
      → IfSome old.image (IsReady size (window k) place bytes after) → failed ≡ false → IfSome new.image (IsOpen size (window k) after)
  opened_opens k place bytes after run gate small low high inside ready fine = written_told run fine (IsOpen size (window k) after)
      (λ d is. (gate_opened size k place bytes after d (big_bytes 4 k) (told_at old.image (IsReady size (window k) place bytes after) d ready is) gate small refl (four_bytes k)
      (room_of size old d room whole is) low high inside).0)

  -- a write in place
  pub there_changes : (place : ℕ) (bytes : List ℕ) → Wrote old new failed place bytes → (length bytes ≤ 4 → place % 512 + length bytes ≤ 512) → place + length bytes ≤ size
      → IfSome old.image (IsShut size) → Changes (on_disk size old) (on_disk size new) failed place bytes
  there_changes place bytes run sector inside shut = lift_change size place bytes place bytes whole (omega (arith, room.room, inside, record_behind size)) run
      (λ d c is torn. in_place size place bytes d c torn (told_at old.image (IsShut size) d shut is) inside (omega (arith, record_behind size, room_of size old d room whole is)) sector)
      (λ d is. in_place_done size place bytes d (told_at old.image (IsShut size) d shut is) inside (omega (arith, record_behind size, room_of size old d room whole is)))

  pub there_shut : (place : ℕ) (bytes : List ℕ) → Wrote old new failed place bytes → place + length bytes ≤ size → IfSome old.image (IsShut size) → failed ≡ false → IfSome new.image (IsShut size)
  there_shut place bytes run inside shut fine = written_told run fine (IsShut size)
      (λ d is. shut_kept size place (length bytes) d (put place bytes d) (put_outside place bytes d (omega (arith, inside, record_behind size, room_of size old d room whole is)))
      (inl (omega (arith, inside, record_behind size))) (told_at old.image (IsShut size) d shut is))

  -- and a record that was written is ready
  pub record_is_ready : (at place : ℕ) (bytes earlier after : List ℕ) → length earlier ≡ 6 → length after ≡ 6 → at + 6 ≤ record_place size → after ≡ put (place - at) bytes earlier
      → Wrote old new failed (record_place size + 4) (earlier ++ after) → IfSome old.image (IsShut size) → IfSome old.image (λ d. earlier ≡ bytes_at d at 6)
      → failed ≡ false → IfSome new.image (IsReady size at place bytes after)
  record_is_ready at place bytes earlier after six long inside made run shut was fine = written_told run fine (IsReady size at place bytes after)
      (λ d is. record_ready size at place bytes earlier after d (told_at old.image (IsShut size) d shut is) inside (room_of size old d room whole is)
      six (told_at old.image (λ d. earlier ≡ bytes_at d at 6) d was is) long made)
