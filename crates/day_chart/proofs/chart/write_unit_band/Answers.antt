use Rattle.std.proofs.Common.{◌≡◌, ◌∙◌, ℕ, ◌+◌, ◌*◌, List, ◌++◌, map, ap, subst}
use Rattle.std.specs.Prelude.{codes}
use Rattle.activity_codec.specs.declared.values.Slot.TheVariants.{Driver, CoDriver}
use Rattle.calendar_days.specs.Calendar.{IsDateText}
use Rattle.view_model.specs.declared.Viewed.{Viewed}
use Rattle.file_view.specs.Histories.{minutes_on}
use Rattle.slot_bars.specs.declared.seen.Seen.{Seen}
use Rattle.slot_bars.specs.Seeing.{slot_seen}
use Rattle.day_totals.proofs.Counting.{bars_few}
use Rattle.day_chart.specs.Chart.{band_head, lane_text}
use Rattle.view_model.specs.declared.marks.Mark.{Mark}
use Rattle.day_chart.specs.Marks.{marks_text}
use Rattle.day_chart.proofs.Marked.{of_day_alone}
use Rattle.day_chart.proofs.Joining.{six_pieces}
use Rattle.day_chart.proofs.chart.write_unit_band.Goals as goal

pub write_lane-requires : goal.write_lane-requires
write_lane-requires c = rw c.as_slice-3.ensures.value (bars_few (slot_seen c.args.gaps.now Driver) (minutes_on c.args.lines.now) c.in_ok-driver.driver.items c.in_ok-driver.ensures c.requires.day.few)

pub write_lane-requires-2 : goal.write_lane-requires-2
write_lane-requires-2 c = rw c.as_slice-5.ensures.value (bars_few (slot_seen c.args.gaps.now CoDriver) (minutes_on c.args.lines.now) c.in_ok-codriver.codriver.items c.in_ok-codriver.ensures c.requires.day.few)

pub returns : goal.returns
returns c =
    let date : List ℕ = c.day_text-date.result.items in
    let head : c.write_band_head.new.text.items ≡ c.args.text.now.items ++ band_head (66 + 92 * c.args.place) date =
    subst (λ (d : List ℕ). c.write_band_head.new.text.items ≡ c.args.text.now.items ++ band_head (66 + 92 * c.args.place) d) c.as_slice.ensures.value c.in_ok-write_band_head.ensures in
    let driver : List (Viewed Seen) = map (slot_seen c.args.gaps.now Driver) (minutes_on c.args.lines.now) in
    let codriver : List (Viewed Seen) = map (slot_seen c.args.gaps.now CoDriver) (minutes_on c.args.lines.now) in
    let first : c.write_lane.new.text.items ≡ c.write_band_head.new.text.items ++ lane_text date (codes "driver") driver =
    subst (λ (d : List ℕ). c.write_lane.new.text.items ≡ c.write_band_head.new.text.items ++ lane_text d (codes "driver") driver) c.as_slice-2.ensures.value (c.in_ok-write_lane.ensures driver (c.as_slice-3.ensures.value ∙ c.in_ok-driver.ensures)) in
    let second : c.write_lane-2.new.text.items ≡ c.extend_from_slice.new.self.items ++ lane_text date (codes "codriver") codriver =
    subst (λ (d : List ℕ). c.write_lane-2.new.text.items ≡ c.extend_from_slice.new.self.items ++ lane_text d (codes "codriver") codriver) c.as_slice-4.ensures.value (c.in_ok-write_lane-2.ensures codriver (c.as_slice-5.ensures.value ∙ c.in_ok-codriver.ensures)) in
    let one : List ℕ = lane_text date (codes "driver") driver in
    let two : List ℕ = lane_text date (codes "codriver") codriver in
    let between : List ℕ = codes "<g transform=\"translate(0 30)\">\n" in
    let marks : List ℕ = marks_text date c.day_number-day.result c.args.marks.now in
    let marked : c.write_marks.new.text.items ≡ c.write_lane-2.new.text.items ++ marks =
    subst (λ (d : List ℕ). c.write_marks.new.text.items ≡ c.write_lane-2.new.text.items ++ marks_text d c.day_number-day.result c.marks_on.result.now) c.as_slice-6.ensures.value c.in_ok-write_marks.ensures
    ∙ ap (λ (l : List ℕ). c.write_lane-2.new.text.items ++ l)
    (ap (λ (l : List Mark). marks_text date c.day_number-day.result l) c.marks_on.ensures ∙ of_day_alone date c.day_number-day.result c.args.marks.now) in
    let end : List ℕ = codes "<use xlink:href=\"#axis\"/></g></g>\n" in (
      c.day_text-date.result.items,
      subst (λ (day : ℕ). IsDateText day c.day_text-date.result.items) c.day_number-day.ensures.day c.day_text-date.ensures,
      c.in_ok-extend_from_slice-2.ensures.items
          ∙ ap (λ (l : List ℕ). l ++ end)
          (marked ∙ ap (λ (l : List ℕ). l ++ marks)
          (second ∙ ap (λ (l : List ℕ). l ++ two) (c.in_ok-extend_from_slice.ensures.items ∙ ap (λ (l : List ℕ). l ++ between) (first ∙ ap (λ (l : List ℕ). l ++ one) head))))
          ∙ six_pieces c.args.text.now.items (band_head (66 + 92 * c.args.place) date) one between two marks end
          ∙ ap (λ (day : ℕ). c.args.text.now.items ++ (band_head (66 + 92 * c.args.place) date ++ one ++ between ++ two ++ marks_text date day c.args.marks.now ++ end)) c.day_number-day.ensures.day,
    )
