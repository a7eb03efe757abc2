-- A second that comes later changes no minute of the past.
use Rattle.std.proofs.Common.{◌≡◌, ℕ, ◌<◌, false, Option, None, List, [], ◌∷◌, ◌++◌, map, refl, ap, ◌∙◌, arith, nat_eq, append-nil}
use Rattle.std.specs.Prelude.{option_to_list, option_map, unwrap_or}
use Rattle.std.specs.List.{AllByRecursion}
use Rattle.std.proofs.lemmas.Bool.Decides.{nat_tests}
use Rattle.std.proofs.lemmas.List.Elements.{filter-append}
use Rattle.log_model.specs.activity_codec.declared.values.Slot.{Slot}
use Rattle.log_model.specs.activity_codec.declared.values.Slot.TheVariants.{Driver, CoDriver}
use Rattle.log_model.specs.minute_model.declared.Rule.{Rule}
use Rattle.log_model.specs.minute_model.declared.Minute.{Minute}
use Rattle.log_model.specs.minute_model.Second.{minute_of}
use Rattle.log_model.specs.minute_model.Activity.{last}
use Rattle.log_model.specs.trace_model.declared.Card.{Card}
use Rattle.log_model.specs.Slots.{in_slot}
use Rattle.log_model.specs.Course.{ToldSecond}
use Rattle.history_model.specs.Minutes.{HistoryMinute}
use Rattle.history_model.specs.Presence.{Start, in_minute, present_in, present_sitting}
use Rattle.history_model.specs.History.{seated, minutes_after, decided_of, span_minutes, limited_to, lost_minute, history_by, lost_by}

module _ (start : Start) (told : List ToldSecond) (t : ToldSecond) where
  -- a minute has no second that comes later
  minute-still : (m : ℕ) → m < minute_of t.second → in_minute m (told ++ t ∷ []) ≡ in_minute m told
  minute-still m later =
      let other : nat_eq (minute_of t.second) m ≡ false = grind (arith, nat_tests) in
      let none : in_minute m (t ∷ []) ≡ [] = rw other refl in
      filter-append (λ (t : ToldSecond). nat_eq (minute_of t.second) m) told (t ∷ []) ∙ ap (λ (ts : List ToldSecond). in_minute m told ++ ts) none ∙ append-nil (in_minute m told)

  pub present-still : (past : List HistoryMinute) (m : ℕ) (slot : Slot) → m < minute_of t.second → present_in start (told ++ t ∷ []) past m slot ≡ present_in start told past m slot
  unfolding present_in
  present-still past m slot later =
      ap (λ (ts : List ToldSecond). present_sitting start past m ts (unwrap_or (option_map {T = ToldSecond} (λ t. in_slot t.course.slots slot) (last ts)) None)) (minute-still m later)

  seated-still : (past : List HistoryMinute) (d : Minute) → d.minute < minute_of t.second → seated start (told ++ t ∷ []) past d ≡ seated start told past d
  seated-still past d later =
      ap (λ (c : Option Card). record { minute = d.minute; driver = record { act = d.driver; card = c }; codriver = record { act = d.codriver; card = present_in start (told ++ t ∷ []) past d.minute CoDriver } }) (present-still past d.minute Driver later)
      ∙ ap (λ (c : Option Card). record { minute = d.minute; driver = record { act = d.driver; card = present_in start told past d.minute Driver }; codriver = record { act = d.codriver; card = c } }) (present-still past d.minute CoDriver later)

  pub minutes-still : (past : List HistoryMinute) (ds : List Minute) → AllByRecursion (λ (d : Minute). d.minute < minute_of t.second) ds → minutes_after start (told ++ t ∷ []) past ds ≡ minutes_after start told past ds
  minutes-still past [] each = refl
  minutes-still past (d ∷ ds) each =
      ap (λ (i : HistoryMinute). i ∷ minutes_after start (told ++ t ∷ []) (past ++ i ∷ []) ds) (seated-still past d each.0)
      ∙ ap (λ (is : List HistoryMinute). seated start told past d ∷ is) (minutes-still (past ++ seated start told past d ∷ []) ds each.1)

  module _ (rule : Rule) (limit : List ToldSecond → List (List ToldSecond) → Option ℕ) where
    pub history-still : (past : List HistoryMinute) (spans : List (List ToldSecond)) → AllByRecursion (λ (span : List ToldSecond). AllByRecursion (λ (d : Minute). d.minute < minute_of t.second) (decided_of rule span)) spans →
        history_by rule start limit (told ++ t ∷ []) past spans ≡ history_by rule start limit told past spans
    history-still past [] each = refl
    history-still past (span ∷ later) each =
        ap (λ (is : List HistoryMinute). limited_to (limit span later) is ++ history_by rule start limit (told ++ t ∷ []) (past ++ limited_to (limit span later) is) later) (minutes-still past (decided_of rule span) each.0)
        ∙ ap (λ (is : List HistoryMinute). limited_to (limit span later) (span_minutes rule start told past span) ++ is) (history-still (past ++ limited_to (limit span later) (span_minutes rule start told past span)) later each.1)

    pub lost-still : (past : List HistoryMinute) (spans : List (List ToldSecond)) → AllByRecursion (λ (span : List ToldSecond). AllByRecursion (λ (d : Minute). d.minute < minute_of t.second) (decided_of rule span)) spans →
        lost_by rule start limit (told ++ t ∷ []) past spans ≡ lost_by rule start limit told past spans
    lost-still past [] each = refl
    lost-still past (span ∷ later) each =
        ap (λ (is : List HistoryMinute). map (λ i. past ++ (limited_to (limit span later) is ++ i ∷ [])) (option_to_list (lost_minute (limit span later) is)) ++ lost_by rule start limit (told ++ t ∷ []) (past ++ limited_to (limit span later) is) later) (minutes-still past (decided_of rule span) each.0)
        ∙ ap (λ (ls : List (List HistoryMinute)). map (λ i. past ++ (limited_to (limit span later) (span_minutes rule start told past span) ++ i ∷ [])) (option_to_list (lost_minute (limit span later) (span_minutes rule start told past span))) ++ ls)
        (lost-still (past ++ limited_to (limit span later) (span_minutes rule start told past span)) later each.1)
