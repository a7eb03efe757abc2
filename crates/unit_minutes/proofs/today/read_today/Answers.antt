use Rattle.std.proofs.Common.{◌≡◌, ℕ, ◌+◌, ◌%◌, min, IfSome, refl, sym, subst, arith}
use Rattle.tach_media.proofs.Runs.{both_told}
use Rattle.gated_ring.specs.Ring.{number_at}
use Rattle.unit_model.specs.declared.layout.TheConstants.{DAY_WORDS, DAY_WORD_LIMIT}
use Rattle.unit_model.specs.Image.{slot_place, slot_count, slot_words}
use Rattle.unit_memory.specs.Scans.{start, scan_from}
use Rattle.unit_memory.proofs.Told.{carried}
use Rattle.unit_minutes.specs.Image.{IsToday}
use Rattle.unit_minutes.specs.declared.today.Today.{Today}
use Rattle.unit_minutes.proofs.Loading.{scan_today}
use Rattle.unit_minutes.proofs.today.read_today.Goals as goal

pub returns-clause-found : goal.returns-clause-found
returns-clause-found g c =
    let image = (g.M.Medium.state c.args.unit.now).image in
    let kept = c.args.kept in
    let i = c.args.index in
    let n = c.min-stored.result in
    let r = c.in_ok-scan.scan in
    let read = c.in_ok-read_number.field-0 in
    let count : IfSome image (λ x. read ≡ slot_count x i) = subst (λ (p : ℕ). IfSome image (λ x. read ≡ number_at x (p + 8) 2)) c.slot_place.ensures c.in_ok-read_number.ensures.value in
    let scan : IfSome image (λ x. r ≡ scan_from (kept % 1440) (slot_place i + DAY_WORDS.place) 0 start (slot_words x i n)) =
    carried (λ x. r ≡ scan_from (kept % 1440) (slot_place i + DAY_WORDS.place) 0 start (slot_words x i n)) (c.in_ok-read_number.ensures.reads.same refl) c.in_ok-scan.ensures.scan in
    both_told image _ count scan (λ x is count scan some few none.
    let stored : n ≡ min (slot_count x i) DAY_WORD_LIMIT = omega (arith, count) in
    subst (λ (t : Today). IsToday kept i t x) (sym c.today_of.ensures.today) (scan_today kept i n r x stored few none scan))
