use Rattle.std.proofs.Common.{◌≡◌, ℕ, ◌<◌, ◌≤◌, ◌+◌, [], None, refl, sym, ◌∙◌, subst, arith}
use Rattle.gated_ring.specs.Ring.{number_at, pointer}
use Rattle.tach_media.proofs.Runs.{reads_then, at_image}
use Rattle.unit_model.specs.declared.layout.TheConstants.{DAY_SLOTS, DAY_WORDS, DAY_WORD_LIMIT, ODOMETER}
use Rattle.unit_model.specs.Decoding.{first_bad_place, first_failing, word_checks}
use Rattle.unit_model.specs.Image.{last_kept, odometer_at, day_ring, slot_place, slot_date, slot_count, slot_words, stray_of}
use Rattle.unit_memory.specs.Judging.{IsJudged}
use Rattle.unit_model.proofs.Decoded.{decoded}
use Rattle.unit_memory.proofs.Told.{carried, told_all, one_told}
use Rattle.unit_minutes.specs.Image.{IsToday}
use Rattle.unit_minutes.specs.Today.{recorded_days}
use Rattle.unit_minutes.proofs.Loading.{found_as, last_stray}
use Rattle.unit_minutes.proofs.journal.Journal.read.Goals as goal

pub day_ring-requires-clause-known : goal.day_ring-requires-clause-known
day_ring-requires-clause-known g c = one_told (g.M.Medium.state c.args.unit.now).image (λ x. pointer day_ring x < DAY_SLOTS) c.requires.judged (λ x judged. (decoded x (sym judged.bad ∙ c.requires.good)).known)

pub returns-clause-found : goal.returns-clause-found
unfolding odometer_at
returns-clause-found g c =
    let image = (g.M.Medium.state c.args.unit.now).image in
    let r = c.in_ok-days.ensures.reads in
    let r1 = reads_then r c.in_ok-read_number.ensures.reads in
    let k = c.min-kept.result in
    let p = c.min-pointer.result in
    let i = c.index_of-index.result in
    let d = c.recorded_days-day_count.result in
    let t = c.in_ok-today.today in
    let s = c.later_day-stray.result in
    let o = c.in_ok-read_number.field-0 in
    let w = c.args.judged.walk in
    told_all image _ (λ x is.
    let judged = at_image (IsJudged c.args.judged) is c.requires.judged in
    let none : first_bad_place x ≡ None = sym judged.bad ∙ c.requires.good in
    let ok = decoded x none in
    let kept_is : k ≡ last_kept x = omega (arith, judged.kept, ok.kept) in
    let p_is : p ≡ pointer day_ring x = omega (arith, judged.pointer_is, ok.known) in
    let o_is : o ≡ odometer_at x = at_image (λ x. o ≡ number_at x ODOMETER.place ODOMETER.size) is (carried (λ x. o ≡ number_at x ODOMETER.place ODOMETER.size) (r.same refl) c.in_ok-read_number.ensures.value) in
    let odometer_is : c.min-odometer.result ≡ odometer_at x = omega (arith, o_is, ok.odometer) in
    let s_is : s ≡ stray_of (last_kept x) (pointer day_ring x) (slot_date x (pointer day_ring x)) =
    c.later_day-stray.ensures.stray ∙ (λ j. stray_of (kept_is j) (p_is j) w.last_date) ∙ last_stray x ok w judged.walk in
    let today : 0 < last_kept x → slot_count x i ≤ DAY_WORD_LIMIT → first_failing (word_checks (slot_place i + DAY_WORDS.place) [] (slot_words x i (slot_count x i))) ≡ None → IsToday (last_kept x) i t x =
    subst (λ (q : ℕ). 0 < q → slot_count x i ≤ DAY_WORD_LIMIT → first_failing (word_checks (slot_place i + DAY_WORDS.place) [] (slot_words x i (slot_count x i))) ≡ None → IsToday q i t x) kept_is
    (at_image (λ x. 0 < k → slot_count x i ≤ DAY_WORD_LIMIT → first_failing (word_checks (slot_place i + DAY_WORDS.place) [] (slot_words x i (slot_count x i))) ≡ None → IsToday k i t x) is
    (carried (λ x. 0 < k → slot_count x i ≤ DAY_WORD_LIMIT → first_failing (word_checks (slot_place i + DAY_WORDS.place) [] (slot_words x i (slot_count x i))) ≡ None → IsToday k i t x) (r1.same refl) c.in_ok-today.ensures.found)) in
    let d_is : d ≡ recorded_days (last_kept x) w.there (stray_of (last_kept x) (pointer day_ring x) (slot_date x (pointer day_ring x))) = c.recorded_days-day_count.ensures.count ∙ (λ j. recorded_days (kept_is j) w.there (s_is j)) in
    found_as x none i t d w judged.walk c.index_of-index.ensures.index today d_is k c.min-odometer.result s kept_is odometer_is s_is)
