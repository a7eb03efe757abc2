-- Lines of a card stand for few minutes, where these rise.
use Rattle.std.proofs.Common.{◌≡◌, ℕ, ◌+◌, ◌<◌, ◌≤◌, ◌&&◌, ◌^◌, Bool, true, List, [], ◌∷◌, length, map, subst, arith}
use Rattle.std.specs.Prelude.{◌==◌}
use Rattle.std.specs.List.{AllByRecursion}
use Rattle.std.proofs.Math.ListN.{length-map}
use Rattle.std.proofs.lemmas.Bool.Decides.{nat_tests}
use Rattle.activity_codec.proofs.ByTest.{by_test}
use Rattle.activity_codec.specs.declared.entries.Entry.{Entry}
use Rattle.card_retention.specs.Retains.{Rise}
use Rattle.tacho_types.specs.declared.calendar.TheConstants.{DAYS}
use Rattle.view_model.specs.declared.CardShown.{CardShown}
use Rattle.view_model.specs.declared.Viewed.{Viewed}
use Rattle.view_model.specs.declared.Line.{Line}
use Rattle.view_model.specs.Lines.{same_card, day_of_minute, goes_on, with_minute, lines_of}
use Rattle.view_text.specs.Exact.{both}
use Rattle.file_view.specs.Histories.{AreLines, minutes_on, entry_told}
use Rattle.file_view.proofs.Lines.{all_low}
use Rattle.card_match.proofs.Rising.{rise_few}

equal : (a b : ℕ) → (a == b) ≡ true → a ≡ b
equal a b is = grind (arith, nat_tests)

module _ {X : Type 0} (same : X → X → Bool) (n : ℕ) where
  -- a minute in front of lines
  front_low : (m : Viewed X) (lines : List (Line X)) → AllByRecursion (λ (l : Line X). day_of_minute l.first < n) (with_minute same m lines) → (day_of_minute m.minute < n) × AllByRecursion (λ (l : Line X). day_of_minute l.first < n) lines
  front_low m [] all = (all.0, tt)
  front_low m (line ∷ lines) all =
      by_test (goes_on same m line)
      (λ joined.
      let more = rw joined at all in
      let day = both (m.minute + 1 == line.first) (day_of_minute m.minute == day_of_minute line.first) (both (m.minute + 1 == line.first && day_of_minute m.minute == day_of_minute line.first) (same m.shown line.shown) joined).0 in
      let is = equal (day_of_minute m.minute) (day_of_minute line.first) day.1 in
      (more.0, (subst (λ (d : ℕ). d < n) is more.0, more.1)))
      (λ apart. let more = rw apart at all in (more.0, (more.1.0, more.1.1)))

  -- minutes lie on the days on which their lines begin
  pub minutes_low : (minutes : List (Viewed X)) → AllByRecursion (λ (l : Line X). day_of_minute l.first < n) (lines_of same minutes) → AllByRecursion (λ (m : Viewed X). day_of_minute m.minute < n) minutes
  minutes_low [] all = tt
  minutes_low (m ∷ minutes) all = let here = front_low m (lines_of same minutes) all in (here.0, minutes_low minutes here.1)

abbrev pub AreDated : List Entry → Type 0
AreDated es = AllByRecursion (λ (e : Entry). day_of_minute e.minute < DAYS) es

entries_dated : (minutes : List (Viewed CardShown)) → AllByRecursion (λ (m : Viewed CardShown). day_of_minute m.minute < DAYS) minutes → AreDated (map entry_told minutes)
entries_dated [] all = tt
entries_dated (m ∷ ms) all = (all.0, entries_dated ms all.1)

pub lines_dated : (lines : List (Line CardShown)) → AreLines same_card lines → AreDated (map entry_told (minutes_on lines))
lines_dated lines are =
    entries_dated (minutes_on lines) (minutes_low same_card DAYS (minutes_on lines) (subst (λ (ls : List (Line CardShown)). AllByRecursion (λ (l : Line CardShown). day_of_minute l.first < DAYS) ls) are.exact (all_low lines are.days)))

below : (es : List Entry) → AreDated es → AllByRecursion (λ (e : Entry). e.minute < 71583840) es
below [] all = tt
below (e ∷ es) all = (omega (arith, all.0), below es all.1)

few : (es : List Entry) → Rise es → AreDated es → length es ≤ 71583840
few [] rise dated = omega arith
few (e ∷ es) rise dated = let all = below (e ∷ es) dated in omega (arith, rise_few 71583840 e es rise all)

pub few_minutes : (lines : List (Line CardShown)) → AreLines same_card lines → Rise (map entry_told (minutes_on lines)) → length (minutes_on lines) < 2 ^ 32
few_minutes lines are rise = omega (arith, few (map entry_told (minutes_on lines)) rise (lines_dated lines are), length-map (minutes_on lines) entry_told)
