-- Lines stand for the minutes that they were made of.
use Rattle.std.proofs.Common.{◌≡◌, ◌∙◌, ℕ, suc, ◌+◌, ◌-◌, ◌<◌, ◌≤◌, ◌&&◌, Bool, true, false, List, [], ◌∷◌, ◌++◌, map, refl, ap, sym, arith}
use Rattle.std.specs.Prelude.{◌==◌, nat_lt, IsTrue}
use Rattle.std.proofs.lemmas.Bool.{lt-ltb, ltb-true, and_from}
use Rattle.std.proofs.lemmas.Bool.Decides.{nat_tests}
use Rattle.std.specs.List.{range_with_len, list_all, AllByRecursion}
use Rattle.activity_codec.proofs.ByTest.{by_test}
use Rattle.activity_codec.specs.declared.entries.Entry.{Entry}
use Rattle.activity_codec.specs.declared.values.Activity.{Activity}
use Rattle.activity_codec.specs.declared.values.Activity.TheVariants.{Rest, Available, Work, Driving}
use Rattle.activity_codec.specs.declared.values.Slot.{Slot}
use Rattle.activity_codec.specs.declared.values.Slot.TheVariants.{Driver, CoDriver}
use Rattle.activity_codec.specs.Activity.{same_activity, same_slot}
use Rattle.unit_model.specs.Days.{UnitMinute}
use Rattle.view_model.specs.declared.State.{State}
use Rattle.view_model.specs.declared.UnitShown.{UnitShown}
use Rattle.view_model.specs.declared.CardShown.{CardShown}
use Rattle.view_model.specs.declared.Viewed.{Viewed}
use Rattle.view_model.specs.declared.Line.{Line}
use Rattle.view_model.specs.Lines.{day_of_minute, goes_on, with_minute, lines_of, same_bool, same_state, same_unit, same_card}
use Rattle.view_text.specs.Entries.{entry_shown}
use Rattle.view_text.specs.Exact.{both}
use Rattle.tacho_types.specs.declared.calendar.TheConstants.{DAYS}
use Rattle.view_text.proofs.Texts.{lines-below}
use Rattle.file_view.specs.Histories.{minute_shown, minute_told, entry_told, line_minutes, minutes_on, AreLines}

-- a minute alone
line_one : {X : Type 0} → (m : Viewed X) → line_minutes (record { first = m.minute; last = m.minute; shown = m.shown }) ≡ m ∷ []
line_one m =
    let one : m.minute + 1 - m.minute ≡ 1 = omega arith in
    ap (λ (n : ℕ). map (λ (k : ℕ). let v : Viewed _ = record { minute = k; shown = m.shown } in v) (range_with_len m.minute n)) one

-- a minute in front of a line of which the same is shown
line_more : {X : Type 0} → (m : Viewed X) (line : Line X) → m.minute + 1 ≡ line.first → m.shown ≡ line.shown → line.first ≤ line.last → line_minutes (record { first = m.minute; last = line.last; shown = line.shown }) ≡ m ∷ line_minutes line
line_more {X} m line next same rises =
    let long : line.last + 1 - m.minute ≡ suc (line.last + 1 - line.first) = omega arith in
    let at : X → ℕ → Viewed X = λ shown k. record { minute = k; shown = shown } in
    ap (λ (n : ℕ). map (at line.shown) (range_with_len m.minute n)) long
    ∙ ap (λ (k : ℕ). at line.shown m.minute ∷ map (at line.shown) (range_with_len k (line.last + 1 - line.first))) next
    ∙ ap (λ (s : X). at s m.minute ∷ map (at line.shown) (range_with_len line.first (line.last + 1 - line.first))) (sym same)

-- each line ends where it begins, or later
abbrev pub Rise : {X : Type 0} → List (Line X) → Type 0
Rise [] = Unit {0}
Rise (line ∷ lines) = (line.first ≤ line.last) × Rise lines

module _ {X : Type 0} (same : X → X → Bool) (exact : (one other : X) → same one other ≡ true → one ≡ other) where
  follows : (m : Viewed X) (line : Line X) → goes_on same m line ≡ true → (m.minute + 1 ≡ line.first) × (m.shown ≡ line.shown)
  follows m line is =
      let parts = both (m.minute + 1 == line.first && day_of_minute m.minute == day_of_minute line.first) (same m.shown line.shown) is in
      let first = both (m.minute + 1 == line.first) (day_of_minute m.minute == day_of_minute line.first) parts.0 in
      (equal (m.minute + 1) line.first first.0, exact m.shown line.shown parts.1)
    where
      equal : (a b : ℕ) → (a == b) ≡ true → a ≡ b
      equal a b is = grind (arith, nat_tests)

  front_minute : (m : Viewed X) (lines : List (Line X)) → Rise lines → (minutes_on (with_minute same m lines) ≡ m ∷ minutes_on lines) × Rise (with_minute same m lines)
  front_minute m [] rise = (ap (λ (l : List (Viewed X)). l ++ []) (line_one m), (omega arith, tt))
  front_minute m (line ∷ lines) rise =
      by_test (goes_on same m line)
      (λ joined.
      let is = follows m line joined in
      rw joined (ap (λ (l : List (Viewed X)). l ++ minutes_on lines) (line_more m line is.0 is.1 rise.0), (omega (arith, is.0, rise.0), rise.1)))
      (λ apart. rw apart (ap (λ (l : List (Viewed X)). l ++ minutes_on (line ∷ lines)) (line_one m), (omega arith, rise)))

  -- the lines of minutes stand for these minutes
  lines_stand : (minutes : List (Viewed X)) → (minutes_on (lines_of same minutes) ≡ minutes) × Rise (lines_of same minutes)
  lines_stand [] = (refl, tt)
  lines_stand (m ∷ minutes) =
      let before = lines_stand minutes in
      let more = front_minute m (lines_of same minutes) before.1 in
      (more.0 ∙ ap (λ (l : List (Viewed X)). m ∷ l) before.0, more.1)

  pub minutes_back : (minutes : List (Viewed X)) (lines : List (Line X)) → lines ≡ lines_of same minutes → minutes_on lines ≡ minutes
  minutes_back minutes lines is = ap (λ (l : List (Line X)). minutes_on l) is ∙ (lines_stand minutes).0

  -- so lines that are those of some minutes are those of their own
  pub are_lines : (minutes : List (Viewed X)) (lines : List (Line X)) → lines ≡ lines_of same minutes → AllByRecursion (λ (m : Viewed X). day_of_minute m.minute < DAYS) minutes → AreLines same lines
  are_lines minutes lines is low = record {
    exact = is ∙ ap (λ (l : List (Viewed X)). lines_of same l) (sym (minutes_back minutes lines is));
    days = ap (λ (l : List (Line X)). list_all (λ (line : Line X). nat_lt (day_of_minute line.first) DAYS) l) is ∙ all_pass (lines_of same minutes) (lines-below DAYS same minutes low);
  }
    where
      all_pass : (lines : List (Line X)) → AllByRecursion (λ (l : Line X). day_of_minute l.first < DAYS) lines → list_all (λ (line : Line X). nat_lt (day_of_minute line.first) DAYS) lines ≡ true
      all_pass [] all = refl
      all_pass (line ∷ lines) all = and_from (nat_lt (day_of_minute line.first) DAYS) (list_all (λ (l : Line X). nat_lt (day_of_minute l.first) DAYS) lines) (lt-ltb (day_of_minute line.first) DAYS all.0) (all_pass lines all.1)

-- and each lies on a day that a time of four bytes can name
pub all_low : {X : Type 0} → (lines : List (Line X)) → IsTrue (list_all (λ (line : Line X). nat_lt (day_of_minute line.first) DAYS) lines) → AllByRecursion (λ (l : Line X). day_of_minute l.first < DAYS) lines
all_low [] all = tt
all_low (line ∷ lines) all =
    let parts = both (nat_lt (day_of_minute line.first) DAYS) (list_all (λ (l : Line _). nat_lt (day_of_minute l.first) DAYS) lines) all in
    (ltb-true (day_of_minute line.first) DAYS parts.0, all_low lines parts.1)

-- what is told of what is shown
pub unit_back : (minutes : List UnitMinute) → map minute_told (map minute_shown minutes) ≡ minutes
unit_back [] = refl
unit_back (m ∷ ms) = ap (λ (l : List UnitMinute). m ∷ l) (unit_back ms)

pub told_shown : (minutes : List (Viewed UnitShown)) → map minute_shown (map minute_told minutes) ≡ minutes
told_shown [] = refl
told_shown (m ∷ ms) = ap (λ (l : List (Viewed UnitShown)). m ∷ l) (told_shown ms)

pub entries_back : (entries : List Entry) → map entry_told (map entry_shown entries) ≡ entries
entries_back [] = refl
entries_back (e ∷ es) = ap (λ (l : List Entry). e ∷ l) (entries_back es)

pub told_entries : (minutes : List (Viewed CardShown)) → map entry_shown (map entry_told minutes) ≡ minutes
told_entries [] = refl
told_entries (m ∷ ms) = ap (λ (l : List (Viewed CardShown)). m ∷ l) (told_entries ms)

-- the same is shown of a minute and of itself
pub bool_self : (b : Bool) → same_bool b b ≡ true
bool_self true = refl
bool_self false = refl

slot_self : (s : Slot) → same_slot s s ≡ true
slot_self Driver = refl
slot_self CoDriver = refl

pub activity_self : (a : Activity) → same_activity a a ≡ true
activity_self Rest = refl
activity_self Available = refl
activity_self Work = refl
activity_self Driving = refl

state_self : (s : State) → same_state s s ≡ true
state_self s = rw (activity_self s.act, bool_self s.present) refl

pub unit_self : (shown : UnitShown) → same_unit shown shown ≡ true
unit_self shown = rw (state_self shown.driver, state_self shown.codriver, bool_self shown.crew) refl

pub card_self : (shown : CardShown) → same_card shown shown ≡ true
card_self shown = rw (slot_self shown.slot, activity_self shown.act, bool_self shown.crew) refl
