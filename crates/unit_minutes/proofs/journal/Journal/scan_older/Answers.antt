use Rattle.std.proofs.Common.{ℕ, ◌≡◌, ◌∙◌, ap, sym, subst, refl, arith}
use Rattle.tach_media.proofs.Runs.{both_told}
use Rattle.gated_ring.specs.Ring.{number_at}
use Rattle.unit_model.specs.Image.{slot_place, slot_date}
use Rattle.unit_memory.proofs.Told.{one_told, carried}
use Rattle.unit_minutes.specs.Image.{Notes, IsNotes}
use Rattle.unit_minutes.specs.Reading.{AreRight, IsRecordedDay, nth_index}
use Rattle.unit_minutes.proofs.IfAny.{read_same}
use Rattle.unit_minutes.proofs.Shown.{shown, no_older_date}
use Rattle.unit_minutes.proofs.journal.Journal.scan_older.Goals as goal

pub returns-clause-found : goal.returns-clause-found
returns-clause-found g c =
    let j = c.args.self.now in
    let notes : IsNotes j = subst IsNotes c.self.view_is c.self.invariant.notes in
    let count_is : c.self.inside.notes.day_count ≡ j.day_count = ap (λ (n : Notes). n.day_count) c.self.view_is in
    one_told (g.M.Medium.state c.args.unit.now).image _ c.loop-nth.invariant.none (λ x none right.
    no_older_date j x c.args.date (shown j notes x right) c.requires.other (λ n less. none n (omega (arith, less, count_is))))

pub returns-then-branch-date-clause-found : goal.returns-then-branch-date-clause-found
returns-then-branch-date-clause-found g c =
    let j = c.args.self.now in
    let n = c.loop-nth.nth in
    let i = nth_index j n in
    let date = c.args.date in
    let day = c.in_ok-day.day in
    let place_is : c.slot_place-place.result ≡ slot_place i = c.slot_place-place.ensures ∙ ap slot_place c.index_at.ensures.index in
    let same = read_same c.loop-nth.invariant.reads in
    both_told (g.M.Medium.state c.args.unit.now).image _
    (carried (λ x. c.in_ok-read_number.field-0 ≡ number_at x c.slot_place-place.result 4) same c.in_ok-read_number.ensures.value)
    (carried (λ x. AreRight j x → date ≡ slot_date x i → IsRecordedDay x n i day) (c.in_ok-read_number.ensures.reads.same refl ∙ same) c.in_ok-day.ensures.day)
    (λ x told number is right. (c.in_ok-day.ensures.date, (n, i, is right (sym c.if-branch-date.true ∙ number ∙ ap (λ (p : ℕ). number_at x p 4) place_is))))
