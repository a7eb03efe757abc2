-- The entries of the days that are shown, one day more and all of them.
use Rattle.std.proofs.Common.{◌≡◌, ◌∙◌, ℕ, ◌+◌, ◌-◌, ◌<◌, ◌≤◌, Option, Some, None, List, [], ◌++◌, length, take, drop, get_or, refl, ap, sym, subst, arith}
use Rattle.std.proofs.Math.Seq.{take-length}
use Rattle.std.proofs.lemmas.List.{take_more, length-drop, get_or-drop}
use Rattle.activity_codec.specs.declared.entries.Entry.{Entry}
use Rattle.card_layout.specs.declared.files.Application.{Application}
use Rattle.card_model.specs.Days.{Day}
use Rattle.card_model.specs.Image.{StringShape, IsStringShape, HoldsDays}
use Rattle.card_model.specs.Walk.{days_of}
use Rattle.card_days.specs.declared.head.DayHead.{DayHead}
use Rattle.card_days.specs.Heads.{heads_of}
use Rattle.file_view.specs.Walking.{IsDayAt}
use Rattle.file_view.proofs.Walks.{head_there, heads_count}
use Rattle.card_retention.specs.Entries.{day_entries, entries_up_to}
use Rattle.card_image.specs.CardFile.{string_alone, shown_entries}
use Rattle.file_view.specs.CardFiles.{mark_of, last_entries}
use Rattle.file_view.specs.Showing.{before_last, entries_told}
use Rattle.file_view.proofs.Entries.{days_more}

-- the days of the string, and the heads that were read
abbrev pub day_none : Day
day_none = record { date = 0; counter = 0; km = 0; words = [] }

abbrev pub head_none : DayHead
head_none = record { place = 0; date = record { 0 = 0 }; counter = record { 0 = 0 }; km = record { 0 = 0 }; words = 0 }

pub holds_own : (r : StringShape) (n : ℕ) (x : List ℕ) → r ≡ record { base = 0; size = n } → HoldsDays r x (days_of (record { base = 0; size = n }) x) → HoldsDays r x (days_of r x)
holds_own r n x is holds = subst (λ (ds : List Day). HoldsDays r x ds) (ap (λ (s : StringShape). days_of s x) (sym is)) holds

pub inside_own : (r : StringShape) (x : List ℕ) → r ≡ record { base = 0; size = length x - 4 } → 4 ≤ length x → r.base + (4 + r.size) ≤ length x
inside_own r x is long = omega (arith, ap (λ (s : StringShape). s.base) is, ap (λ (s : StringShape). s.size) is, long)

pub day_step : (mark : ℕ) (days : List Day) (k : ℕ) (d : Day) → k < length days → entries_up_to mark (take k days) ++ day_entries mark (get_or days k d) ≡ entries_up_to mark (take (k + 1) days)
day_step mark days k d low = sym (ap (λ (l : List Day). entries_up_to mark l) (take_more days k d low) ∙ days_more mark (take k days) (get_or days k d))

pub told_is : (last : Option ℕ) (app : Application) (days vehicles : List ℕ)
    → entries_up_to (mark_of app vehicles) (drop (before_last last (length (days_of (string_alone app) days))) (days_of (string_alone app) days)) ≡ entries_told last app days vehicles
unfolding shown_entries last_entries
told_is None app days vehicles = refl
told_is (Some n) app days vehicles = refl

pub told_all : (last : Option ℕ) (app : Application) (days vehicles : List ℕ) (mark from : ℕ) (r : StringShape) (x : List ℕ) → mark ≡ mark_of app vehicles → r ≡ string_alone app → x ≡ days → from ≡ before_last last (length (days_of r x))
    → entries_up_to mark (drop from (days_of r x)) ≡ entries_told last app days vehicles
told_all last app days vehicles mark from r x mark_is r_is x_is from_is =
    let F : StringShape → List ℕ → List Entry = λ s y. entries_up_to (mark_of app vehicles) (drop (before_last last (length (days_of s y))) (days_of s y)) in
    ap (λ (m : ℕ). entries_up_to m (drop from (days_of r x))) mark_is
    ∙ ap (λ (n : ℕ). entries_up_to (mark_of app vehicles) (drop n (days_of r x))) from_is
    ∙ ap (λ (s : StringShape). F s x) r_is ∙ ap (λ (y : List ℕ). F (string_alone app) y) x_is ∙ told_is last app days vehicles

-- all of what stands behind a place
pub rest_is : {X : Type 0} → (A : List X) (from : ℕ) → take (length A - from) (drop from A) ≡ drop from A
rest_is A from = ap (λ (n : ℕ). take n (drop from A)) (sym (length-drop from A)) ∙ take-length (drop from A)

-- a head that is shown is that of a day that is shown
pub shown_day : (r : StringShape) → IsStringShape r → (x : List ℕ) → r.base + (4 + r.size) ≤ length x → (days : List Day) → HoldsDays r x days → (A : List DayHead) → A ≡ heads_of r x days → (from k : ℕ) (h : DayHead) (d : Day)
    → k < length (take (length A - from) (drop from A)) → IsDayAt r x (get_or (take (length A - from) (drop from A)) k h) (get_or (drop from days) k d) × (k < length (drop from days))
shown_day r shape x inside days holds A heads from k h d low =
    let count : length A ≡ length days = ap (λ (l : List DayHead). length l) heads ∙ heads_count r x 0 days in
    let long : length (take (length A - from) (drop from A)) ≡ length A - from = ap (λ (l : List DayHead). length l) (rest_is A from) ∙ length-drop from A in
    let below : from + k < length days = omega (arith, low, long, count) in
    let head : get_or (heads_of r x days) (from + k) h ≡ get_or (take (length A - from) (drop from A)) k h =
    ap (λ (l : List DayHead). get_or l (from + k) h) (sym heads) ∙ sym (get_or-drop from A k h) ∙ ap (λ (l : List DayHead). get_or l k h) (sym (rest_is A from)) in
    let there = head_there r shape x inside days holds (from + k) below h d in (
      subst (λ (g : DayHead). IsDayAt r x g (get_or (drop from days) k d)) head (subst (λ (e : Day). IsDayAt r x (get_or (heads_of r x days) (from + k) h) e) (sym (get_or-drop from days k d)) there),
      omega (arith, length-drop from days, below),
    )

pub shown_count : (r : StringShape) (x : List ℕ) (days : List Day) (A : List DayHead) → A ≡ heads_of r x days → (from : ℕ) → length (take (length A - from) (drop from A)) ≡ length (drop from days)
shown_count r x days A heads from =
    ap (λ (l : List DayHead). length l) (rest_is A from) ∙ length-drop from A ∙ ap (λ (n : ℕ). n - from) (ap (λ (l : List DayHead). length l) heads ∙ heads_count r x 0 days) ∙ sym (length-drop from days)
