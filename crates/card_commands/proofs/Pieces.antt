-- Reads and writes of a port, command by command.
use Rattle.std.proofs.Common.{◌≡◌, ℕ, ◌+◌, ◌-◌, ◌≤◌, Bool, true, false, List, ◌++◌, length, take, Result, Ok, Err, OnOk, is_err, refl, sym, ◌∙◌, ap, subst, arith}
use Rattle.std.proofs.lemmas.List.{length-take-le, take-take}
use Rattle.std.proofs.lemmas.Slice.{take-put_mid}
use Rattle.std.proofs.Math.Seq.{take-append-add}
use borrow.Rule.Slice.PartMut.{put_mid}
use Rattle.tach_media.specs.Medium.{State, LeavesOnly, IsPartlyWritten, HasCause, bytes_at, most_writes}
use Rattle.tach_media.specs.Chip.{WritesAt}
use Rattle.tach_media.proofs.Images.{part_split}

-- a write that failed
pub fails : (place : ℕ) (bytes : List ℕ) (old new : State) (failed : Bool) → true ≡ failed → LeavesOnly old new (IsPartlyWritten place bytes) → new.clock ≤ old.clock + most_writes (length bytes) → HasCause old new true → WritesAt place bytes old new failed
fails place bytes old new failed is leaves few cause =
    subst (λ (f : Bool). WritesAt place bytes old new f) is (record { written = λ none. absurd (cc); leaves = leaves; settled = λ none. absurd (cc); clock = λ none. absurd (cc); few = few; cause = cause })

-- what holds of an answer that is no failure
pub where_ok : {A E : Type 0} (r : Result A E) (P : Type 0) → (is_err r ≡ false → P) → OnOk r P
where_ok (Ok a) P holds = holds refl
where_ok (Err e) P holds = tt

-- one command more of what is read
pub read_more : (x out chunk : List ℕ) (place k n : ℕ) → k ≤ length out → length chunk ≡ length out - k → n ≤ length chunk → take k out ≡ bytes_at x place k → take n chunk ≡ bytes_at x (place + k) n
    → take (k + n) (put_mid k (length out - k) out chunk) ≡ bytes_at x place (k + n)
read_more x out chunk place k n inside len few front next =
    let y = put_mid k (length out - k) out chunk in
    let front_length : length (take k out) ≡ k = length-take-le k out inside in
    sym (take-take (k + n) (k + length chunk) y (omega (arith, few)))
    ∙ ap (take (k + n)) (take-put_mid k (length out - k) out chunk (k + length chunk) refl inside)
    ∙ ap (λ (m : ℕ). take (m + n) (take k out ++ chunk)) (sym front_length)
    ∙ take-append-add (take k out) chunk n
    ∙ ap (λ (l : List ℕ). l ++ take n chunk) front
    ∙ ap (λ (l : List ℕ). bytes_at x place k ++ l) next
    ∙ sym (part_split x place k n)
