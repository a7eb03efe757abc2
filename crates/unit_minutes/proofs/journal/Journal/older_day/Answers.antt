use Rattle.std.proofs.Common.{ℕ, ◌∙◌, ap, sym, arith, min}
use Rattle.unit_model.specs.declared.layout.TheConstants.{DAY_WORD_LIMIT, HIGHEST_ODOMETER}
use Rattle.unit_model.specs.Image.{slot_place, slot_odometer, slot_count}
use Rattle.unit_memory.proofs.Told.{one_told}
use Rattle.unit_minutes.specs.Reading.{nth_index}
use Rattle.unit_minutes.proofs.Shown.{shown, older_count}
use Rattle.unit_minutes.proofs.Minutes.{recorded_at}
use Rattle.unit_minutes.proofs.journal.Journal.older_day.Goals as goal

pub returns-clause-day : goal.returns-clause-day
returns-clause-day g c =
    let j = c.args.self.now in
    let n = c.args.nth in
    let index_is = c.index_at-index.ensures.index in
    one_told (g.M.Medium.state c.args.unit.now).image _ c.in_ok-day.ensures.read (λ x read right dated.
    let s = shown j c.index_at-index.ensures.shape x right in
    let nth_is = s.at n (omega (arith, c.requires.nth)) in
    record {
      nth = nth_is;
      minutes = recorded_at x n (nth_index j n) nth_is;
      day = record {
        place = c.in_ok-day.ensures.known.0 ∙ ap slot_place index_is;
        date = c.in_ok-day.ensures.known.1 ∙ dated;
        odometer = read.0 ∙ ap (λ (i : ℕ). min (slot_odometer x i) HIGHEST_ODOMETER) index_is;
        words_are = read.1 ∙ ap (λ (i : ℕ). min (slot_count x i) DAY_WORD_LIMIT) index_is ∙ sym (older_count j x n s c.requires.nth);
      };
    })
