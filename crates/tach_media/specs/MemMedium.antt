-- What a medium in memory tells of itself.
use Rattle.std.specs.Prelude.{◌≡◌, ◌≤◌, ℕ, ◌==◌, ◌&&◌, ◌||◌, not, is_some, Bool, List, [], ◌∷◌, length, Option, Some}
use Rattle.std.specs.Prelude.{find, option_map, unwrap_or, if◌then◌else◌, min, ◌+◌}
use Rattle.std.proofs.Common.{ap, arith}
use Rattle.tach_media.specs.Counting.{failed_once}
use Rattle.tach_media.specs.Medium.{State, IsCoherent, last_count}
use Rattle.tach_media.specs.Log.{History, image_of, MightLeave, BrokenAsBegun, add, has_room}
use Rattle.tach_media.specs.LogLaws.{now_counts, since_earlier}
use Rattle.tach_media.specs.declared.counts.Counts.{Counts}
use Rattle.tach_media.specs.declared.log.Left.{Left}
use Rattle.tach_media.specs.declared.log.Left.TheVariants.{After}
use Rattle.tach_media.specs.declared.stop.Stop.{Stop}

-- its writes, the calls that are to fail, the number of the next read or write, and its counts
pub record MemView : Type 0 where
  pub log : History
  pub stops : List Stop
  pub calls : ℕ
  pub counts : Counts

-- its image, the images left, its clock and how often it had broken down at each write are those of the log
abbrev pub memory_state : History → Counts → State
memory_state h counts = record {
  size = length (image_of h);
  behind = 0;
  writable = (0, length (image_of h)) ∷ [];
  image = Some (image_of h);
  may_leave = λ c. c ≡ image_of h;
  left_since = MightLeave h.entries h.written h.start;
  clock = length h.entries;
  works = counts.works;
  faults = counts.faults;
  breakdowns = counts.breakdowns;
  broke = λ t n. (n ≤ counts.breakdowns) × BrokenAsBegun h.entries t n;
  layers = [];
}

-- no write was begun after more breakdowns than there were
abbrev pub AreCounted : History → Counts → Type 0
AreCounted h counts = (t n : ℕ) → BrokenAsBegun h.entries t n → n ≤ counts.breakdowns

-- a medium in memory is coherent, whatever its history
pub coherent : (h : History) (counts : Counts) → IsCoherent (memory_state h counts)
coherent h counts = record {
  sized = λ x is. let same : x ≡ image_of h = cc in omega (arith, ap length same);
  left_sized = λ c left. omega (arith, ap length left);
  is_left = λ x is. cc;
  only = λ x works left. cc;
  counts_now = λ t c le left. now_counts h.entries h.written h.start t c le left;
  earlier = λ t u c le high left. since_earlier h.entries h.written h.start t u c le high left;
  broken = λ t n told. told.0;
}

-- what is left of the next call, where it is to fail
abbrev pub next_stop : MemView → Option Left
next_stop m = option_map (λ s. s.left) (find (λ s. s.call == m.calls) m.stops)

-- the log after a write: it is begun where the medium works and there is room, and a stop leaves of it what it says
abbrev pub log_after : MemView → ℕ → List ℕ → History
log_after m place bytes = if m.counts.works && has_room m.log (length bytes)
    then add m.log place (unwrap_or (next_stop m) After) m.counts.breakdowns bytes else m.log

-- the counts after a call
abbrev pub counts_after : Counts → (failed : Bool) → Counts
counts_after k failed = if failed then failed_once k else k

-- a read fails on a broken medium and at a stop
abbrev pub read_fails : MemView → Bool
read_fails m = not m.counts.works || is_some (next_stop m)

-- a write of so many bytes fails there too, and where the log has no room for it
abbrev pub write_fails : MemView → (len : ℕ) → Bool
write_fails m len = not m.counts.works || is_some (next_stop m) || not (has_room m.log len)

-- A WRITE on a medium in memory: it fails at a stop, on a broken medium, and where the log has no room; the log has it,
-- as much of it as the stop leaves; a failure is counted; and the call is counted, by which stops are told
pub record MemWrote (m n : MemView) (place : ℕ) (bytes : List ℕ) (failed : Bool) : Type 0 where
  pub fails : failed ≡ write_fails m (length bytes)
  pub log : n.log ≡ log_after m place bytes
  pub counts : n.counts ≡ counts_after m.counts failed
  pub calls : (n.calls ≡ min (m.calls + 1) last_count) × (n.stops ≡ m.stops)
