use Rattle.std.proofs.Common.{◌≡◌, ◌-◌, ℕ, ◌∙◌, ap, subst, refl, arith}
use Rattle.std.specs.Prelude.{IfSome}
use Rattle.std.proofs.lemmas.Result.{IfOk-weaker}
use Rattle.tach_media.proofs.Runs.{both_told}
use Rattle.gated_ring.specs.Ring.{number_at}
use Rattle.unit_model.specs.Image.{slot_place, slot_date}
use Rattle.unit_memory.proofs.Told.{one_told, carried}
use Rattle.unit_minutes.specs.Image.{Notes}
use Rattle.unit_minutes.specs.Reading.{AreRight, IsRecordedDay, nth_index}
use Rattle.unit_minutes.proofs.journal.Journal.day_at.Goals as goal

pub returns-then-nth-self-clause-day : goal.returns-then-nth-self-clause-day
returns-then-nth-self-clause-day g c =
    let j = c.args.self.now in
    let n = c.args.nth in
    let image = (g.M.Medium.state c.args.unit.now).image in
    let count_is : c.self.inside.notes.day_count ≡ j.day_count = ap (λ (s : Notes). s.day_count) c.self.view_is in
    let last : j.day_count - 1 ≡ n = omega (arith, c.if-nth-self.true, count_is) in
    IfOk-weaker c.last_day.result
    (λ day. IfSome image (λ x. AreRight j x → IsRecordedDay x (j.day_count - 1) j.index day))
    (λ day. IfSome image (λ x. AreRight j x → (i : ℕ) × IsRecordedDay x n i day))
    (λ day it. one_told image (λ x. AreRight j x → (i : ℕ) × IsRecordedDay x n i day) it (λ x is right.
    (j.index, subst (λ (k : ℕ). IsRecordedDay x k j.index day) last (is right)))) c.last_day.ensures.day

pub returns-clause-day : goal.returns-clause-day
returns-clause-day g c =
    let j = c.args.self.now in
    let n = c.args.nth in
    let i = nth_index j n in
    let date = c.in_ok-date.date in
    let image = (g.M.Medium.state c.args.unit.now).image in
    let place_is : c.slot_place.result ≡ slot_place i = c.slot_place.ensures ∙ ap slot_place c.index_at.ensures.index in
    IfOk-weaker c.older_day.result
    (λ day. IfSome (g.M.Medium.state c.read_number.new.medium).image (λ x. AreRight j x → date ≡ slot_date x i → IsRecordedDay x n i day))
    (λ day. IfSome image (λ x. AreRight j x → (k : ℕ) × IsRecordedDay x n k day))
    (λ day it. both_told image (λ x. AreRight j x → (k : ℕ) × IsRecordedDay x n k day) c.in_ok-date.ensures.value
    (carried (λ x. AreRight j x → date ≡ slot_date x i → IsRecordedDay x n i day) (c.in_ok-date.ensures.reads.same refl) it)
    (λ x same number is right. (i, is right (number ∙ ap (λ (p : ℕ). number_at x p 4) place_is)))) c.older_day.ensures.day
