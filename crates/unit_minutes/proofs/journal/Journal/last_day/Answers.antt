use Rattle.std.proofs.Common.{◌≡◌, ℕ, ◌+◌, ◌-◌, ◌∙◌, ap, sym, arith, min, Some}
use Rattle.gated_ring.specs.Ring.{number_at}
use Rattle.unit_model.specs.declared.layout.TheConstants.{HIGHEST_ODOMETER}
use Rattle.unit_model.specs.Image.{slot_place}
use Rattle.unit_memory.proofs.Told.{one_told}
use Rattle.unit_minutes.specs.Image.{Notes}
use Rattle.unit_minutes.proofs.Shown.{shown, last_words}
use Rattle.unit_minutes.proofs.Minutes.{recorded_at}
use Rattle.unit_minutes.proofs.journal.Journal.last_day.Goals as goal

pub returns-clause-day : goal.returns-clause-day
returns-clause-day g c =
    let j = c.args.self.now in
    let some = c.requires.some in
    let count_is : c.self.inside.notes.count ≡ j.count = ap (λ (n : Notes). n.count) c.self.view_is in
    let place_is : c.slot_place-place.result ≡ slot_place j.index = c.slot_place-place.ensures ∙ ap (λ (n : Notes). slot_place n.index) c.self.view_is in
    one_told (g.M.Medium.state c.args.unit.now).image _ c.in_ok-odometer.ensures.value (λ x odometer right.
    let s = shown j c.last_date-date.ensures.shape x right in
    let nth_is = s.at (j.day_count - 1) (omega (arith, some)) ∙ ap Some (s.last some) in
    record {
      nth = nth_is;
      minutes = recorded_at x (j.day_count - 1) j.index nth_is;
      day = record {
        place = place_is;
        date = c.last_date-date.ensures.date ∙ sym (s.date some);
        odometer = c.min.ensures ∙ ap (λ (n : ℕ). min n HIGHEST_ODOMETER) (odometer ∙ ap (λ (p : ℕ). number_at x (p + 4) 4) place_is);
        words_are = count_is ∙ sym (last_words j x s some);
      };
    })
