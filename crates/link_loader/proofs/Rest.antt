-- What of a unit's file is still to come, when a message is asked for.
use Rattle.std.proofs.Common.{◌≡◌, ◌∙◌, ℕ, ◌+◌, ◌%◌, ◌<◌, ◌≤◌, Bool, true, false, cond, List, [], ◌∷◌, ◌++◌, map, Some, None, refl, ap, sym, inl, inr, arith}
use Rattle.std.specs.Prelude.{◌⊎◌, nat_eq, nat_lt, if◌then◌else◌}
use Rattle.std.proofs.lemmas.Bool.Decides.{nat_tests}
use Rattle.card_layout.specs.Fields.{joined}
use Rattle.unit_model.specs.Days.{StoredDay}
use Rattle.link_model.specs.declared.request.Request.{Request}
use Rattle.link_model.specs.declared.request.Request.TheVariants.{Overview as AskOverview, Day as AskDay, Events as AskEvents, Speed as AskSpeed, Technical as AskTechnical}
use Rattle.message_model.specs.Messages.{Message, AnOverview, ADay, AnEventList, ASpeedList, ATechnical, message_bytes}
use Rattle.message_model.specs.Sending.{Follow, sent_days, day_at, overview_of, day_message_of, event_message_of, speed_message_of, technical_message_of, messages_of, unit_file}
use Rattle.link_loader.specs.declared.stage.Stage.{Stage}
use Rattle.link_loader.specs.declared.stage.Stage.TheVariants.{Start, Diagnostic, Upload, Asked, Acknowledged, Exit, Stop, Finished}
use Rattle.link_loader.specs.Talking.{AreDays}

-- the days from one on
abbrev pub from_day : ℕ → List StoredDay → List StoredDay
from_day second [] = []
from_day second (d ∷ ds) = if nat_lt d.date second then from_day second ds else d ∷ ds

-- numbers by their tests
below : (m n : ℕ) → m < n → nat_lt m n ≡ true
below m n lt = grind (arith, nat_tests)

not_below : (m n : ℕ) → n ≤ m → nat_lt m n ≡ false
not_below m n le = grind (arith, nat_tests)

is_equal : (m n : ℕ) → nat_eq m n ≡ true → m ≡ n
is_equal m n e = grind (arith, nat_tests)

apart : (m n : ℕ) → n < m → nat_eq m n ≡ false
apart m n lt = grind (arith, nat_tests)

equal_or_not : (m n : ℕ) → ((nat_eq m n ≡ true) × (m ≡ n)) ⊎ (((nat_eq m n ≡ false) × (m < n)) ⊎ ((nat_eq m n ≡ false) × (n < m)))
equal_or_not m n = by (nat_eq m n) refl
  where
    two : (a b : ℕ) → nat_eq a b ≡ false → (a < b) ⊎ (b < a)
    two a b e = grind (arith, nat_tests)

    apart_so : nat_eq m n ≡ false → (m < n) ⊎ (n < m) → ((nat_eq m n ≡ true) × (m ≡ n)) ⊎ (((nat_eq m n ≡ false) × (m < n)) ⊎ ((nat_eq m n ≡ false) × (n < m)))
    apart_so e (inl lt) = inr (inl (e, lt))
    apart_so e (inr lt) = inr (inr (e, lt))

    by : (b : Bool) → nat_eq m n ≡ b → ((nat_eq m n ≡ true) × (m ≡ n)) ⊎ (((nat_eq m n ≡ false) × (m < n)) ⊎ ((nat_eq m n ≡ false) × (n < m)))
    by true e = inl (e, is_equal m n e)
    by false e = apart_so e (two m n e)

-- a later day's first second is a whole day later
pub day_later : (m n : ℕ) → m % 86400 ≡ 0 → n % 86400 ≡ 0 → m < n → m + 86400 ≤ n
day_later m n first other lt = omega arith

keeps : (second : ℕ) (d : StoredDay) (ds : List StoredDay) → second ≤ d.date → from_day second (d ∷ ds) ≡ d ∷ ds
keeps second d ds le = ap (λ (b : Bool). if b then from_day second ds else d ∷ ds) (not_below d.date second le)

skips : (second : ℕ) (d : StoredDay) (ds : List StoredDay) → d.date < second → from_day second (d ∷ ds) ≡ from_day second ds
skips second d ds lt = ap (λ (b : Bool). if b then from_day second ds else d ∷ ds) (below d.date second lt)

module _ (end : ℕ) where
  -- behind a day's first second nothing is skipped up to the next one
  all_later : (second : ℕ) (ds : List StoredDay) → second % 86400 ≡ 0 → Follow second ds → AreDays end ds → from_day (second + 86400) ds ≡ ds
  all_later second [] first follow are = refl
  all_later second (d ∷ ds) first follow are = keeps (second + 86400) d ds (day_later second d.date first are.0 follow.0)

  -- no later day begins at this second
  none_at : (second lo : ℕ) (ds : List StoredDay) → second ≤ lo → Follow lo ds → day_at second ds ≡ None
  none_at second lo [] le follow = refl
  none_at second lo (d ∷ ds) le follow = ap (λ (b : Bool). cond b (Some d) (day_at second ds)) (apart d.date second (omega (arith, le, follow.0))) ∙ none_at second d.date ds (omega (arith, le, follow.0)) follow.1

  -- a day that is recorded is the first from its second on, and the next ones follow it
  pub day_found : (second lo : ℕ) (ds : List StoredDay) (e : StoredDay) → second % 86400 ≡ 0 → Follow lo ds → AreDays end ds → day_at second ds ≡ Some e
      → (e.date ≡ second) × (from_day second ds ≡ e ∷ from_day (second + 86400) ds)
  day_found second lo [] e first follow are found = absurd (cc)
  day_found second lo (d ∷ ds) e first follow are found = by (λ there. day_found second d.date ds e first follow.1 are.2 there) (equal_or_not d.date second)
    where
      by : (day_at second ds ≡ Some e → (e.date ≡ second) × (from_day second ds ≡ e ∷ from_day (second + 86400) ds))
          → ((nat_eq d.date second ≡ true) × (d.date ≡ second)) ⊎ (((nat_eq d.date second ≡ false) × (d.date < second)) ⊎ ((nat_eq d.date second ≡ false) × (second < d.date)))
          → (e.date ≡ second) × (from_day second (d ∷ ds) ≡ e ∷ from_day (second + 86400) (d ∷ ds))
      by later (inl same) =
          let here : Some d ≡ Some e = sym (ap (λ (b : Bool). cond b (Some d) (day_at second ds)) same.0) ∙ found in
          let is : d ≡ e = cc in
          let date : d.date ≡ second = same.1 in
          let after : from_day (second + 86400) (d ∷ ds) ≡ ds = skips (second + 86400) d ds (omega (arith, date)) ∙ ap (λ (n : ℕ). from_day (n + 86400) ds) (sym date) ∙ all_later d.date ds are.0 follow.1 are.2 in
          (sym (ap (λ (f : StoredDay). f.date) is) ∙ date, keeps second d ds (omega (arith, date)) ∙ ap (λ (f : StoredDay). f ∷ ds) is ∙ ap (λ (l : List StoredDay). e ∷ l) (sym after))
      by later (inr (inl lt)) =
          let there = later (sym (ap (λ (b : Bool). cond b (Some d) (day_at second ds)) lt.0) ∙ found) in
          let low : d.date < second = lt.1 in
          (there.0, skips second d ds low ∙ there.1 ∙ ap (λ (l : List StoredDay). e ∷ l) (sym (skips (second + 86400) d ds (omega (arith, low)))))
      by later (inr (inr lt)) =
          let high : second < d.date = lt.1 in
          let lacks : day_at second ds ≡ None = none_at second d.date ds (omega (arith, high)) follow.1 in
          let there : day_at second ds ≡ Some e = sym (ap (λ (b : Bool). cond b (Some d) (day_at second ds)) lt.0) ∙ found in
          absurd (cc)

  -- where there is no such day the same ones are left
  pub day_lost : (second lo : ℕ) (ds : List StoredDay) → second % 86400 ≡ 0 → Follow lo ds → AreDays end ds → day_at second ds ≡ None → from_day second ds ≡ from_day (second + 86400) ds
  day_lost second lo [] first follow are lost = refl
  day_lost second lo (d ∷ ds) first follow are lost = by (λ there. day_lost second d.date ds first follow.1 are.2 there) (equal_or_not d.date second)
    where
      by : (day_at second ds ≡ None → from_day second ds ≡ from_day (second + 86400) ds)
          → ((nat_eq d.date second ≡ true) × (d.date ≡ second)) ⊎ (((nat_eq d.date second ≡ false) × (d.date < second)) ⊎ ((nat_eq d.date second ≡ false) × (second < d.date)))
          → from_day second (d ∷ ds) ≡ from_day (second + 86400) (d ∷ ds)
      by later (inl same) = let here : Some d ≡ None = sym (ap (λ (b : Bool). cond b (Some d) (day_at second ds)) same.0) ∙ lost in absurd (cc)
      by later (inr (inl lt)) =
          let low : d.date < second = lt.1 in
          skips second d ds low ∙ later (sym (ap (λ (b : Bool). cond b (Some d) (day_at second ds)) lt.0) ∙ lost) ∙ sym (skips (second + 86400) d ds (omega (arith, low)))
      by later (inr (inr lt)) =
          let high : second < d.date = lt.1 in
          keeps second d ds (omega (arith, high)) ∙ sym (keeps (second + 86400) d ds (day_later second d.date first are.0 high))

  -- behind the last one none is left
  pub none_left : (second : ℕ) (ds : List StoredDay) → AreDays end ds → end < second → from_day second ds ≡ []
  none_left second [] are past = refl
  none_left second (d ∷ ds) are past = skips second d ds (omega (arith, past, are.1)) ∙ none_left second ds are.2 past

-- from the first day on all are left
pub all_left : (d : StoredDay) (ds : List StoredDay) → from_day d.date (d ∷ ds) ≡ d ∷ ds
all_left d ds = keeps d.date d ds (omega arith)

module _ (x : List ℕ) where
  abbrev pub told : StoredDay → Message
  told d = ADay (day_message_of x d)

  -- technical data; speeds and technical data; events and these; days and these
  abbrev pub technical_left : List ℕ
  technical_left = message_bytes (ATechnical (technical_message_of x)) ++ []

  abbrev pub speed_left : List ℕ
  speed_left = message_bytes (ASpeedList (speed_message_of x)) ++ technical_left

  abbrev pub events_left : List ℕ
  events_left = message_bytes (AnEventList (event_message_of x)) ++ speed_left

  abbrev pub days_left : List StoredDay → List ℕ
  days_left [] = events_left
  days_left (d ∷ ds) = message_bytes (told d) ++ days_left ds

  abbrev pub left_at : Request → List ℕ
  left_at AskOverview = unit_file x
  left_at (AskDay second) = days_left (from_day second (sent_days x))
  left_at AskEvents = events_left
  left_at AskSpeed = speed_left
  left_at AskTechnical = technical_left

  -- what is left of the file at a stage
  abbrev pub left : Stage → List ℕ
  left Start = unit_file x
  left Diagnostic = unit_file x
  left Upload = unit_file x
  left (Asked request) = left_at request
  left (Acknowledged request counter) = left_at request
  left Exit = []
  left Stop = []
  left Finished = []

  days_spelled : (ds : List StoredDay) → joined (map message_bytes (map told ds ++ AnEventList (event_message_of x) ∷ ASpeedList (speed_message_of x) ∷ ATechnical (technical_message_of x) ∷ [])) ≡ days_left ds
  days_spelled [] = refl
  days_spelled (d ∷ ds) = ap (λ (l : List ℕ). message_bytes (told d) ++ l) (days_spelled ds)

  pub file_spelled : unit_file x ≡ message_bytes (AnOverview (overview_of x)) ++ days_left (sent_days x)
  unfolding unit_file messages_of
  file_spelled = ap (λ (l : List ℕ). message_bytes (AnOverview (overview_of x)) ++ l) (days_spelled (sent_days x))
