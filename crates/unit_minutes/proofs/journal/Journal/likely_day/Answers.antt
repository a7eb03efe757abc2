use Rattle.std.proofs.Common.{ℕ, ◌≡◌, ◌∙◌, ap, sym, refl}
use Rattle.tach_media.proofs.Runs.{both_told}
use Rattle.gated_ring.specs.Ring.{number_at}
use Rattle.unit_model.specs.Image.{slot_place, slot_date}
use Rattle.unit_memory.proofs.Told.{carried}
use Rattle.unit_minutes.specs.Reading.{AreRight, IsRecordedDay, nth_index}
use Rattle.unit_minutes.proofs.journal.Journal.likely_day.Goals as goal

pub returns-clause-found : goal.returns-clause-found
returns-clause-found g c =
    let j = c.args.self.now in
    let n = c.likely_nth-nth.result in
    let i = nth_index j n in
    let date = c.args.date in
    let day = c.in_ok-day.day in
    let place_is : c.slot_place-place.result ≡ slot_place i = c.slot_place-place.ensures ∙ ap slot_place c.index_at.ensures.index in
    both_told (g.M.Medium.state c.args.unit.now).image _
    c.in_ok-read_number.ensures.value
    (carried (λ x. AreRight j x → date ≡ slot_date x i → IsRecordedDay x n i day) (c.in_ok-read_number.ensures.reads.same refl) c.in_ok-day.ensures.day)
    (λ x told number is right. (c.in_ok-day.ensures.date, (n, i, is right (sym c.if-branch-date.false ∙ number ∙ ap (λ (p : ℕ). number_at x p 4) place_is))))
