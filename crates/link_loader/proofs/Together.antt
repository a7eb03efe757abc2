-- Where a unit and a loader stand together, and what is left of the unit's file.
use Rattle.std.proofs.Common.{◌≡◌, ◌∙◌, ℕ, ◌+◌, ◌*◌, ◌%◌, ◌<◌, ◌≤◌, Bool, true, false, List, [], ◌∷◌, ◌++◌, length, Option, Some, None, option_map, refl, ap, sym, subst, arith}
use Rattle.std.specs.Prelude.{nat_lt, nat_le, ◌==◌, ◌||◌, if◌then◌else◌}
use Rattle.std.proofs.lemmas.Bool.Decides.{nat_tests}
use Rattle.unit_model.specs.Days.{StoredDay}
use Rattle.unit_model.specs.Image.{last_kept}
use Rattle.link_model.specs.declared.request.Request.{Request}
use Rattle.link_model.specs.declared.request.Request.TheVariants.{Overview as AskOverview, Day as AskDay, Events as AskEvents, Speed as AskSpeed, Technical as AskTechnical}
use Rattle.link_model.specs.Answers.{LinkState, is_upload}
use Rattle.link_model.specs.Answers as states
use Rattle.message_model.specs.Messages.{Message, AnOverview, AnEventList, ASpeedList, ATechnical, message_bytes, content_of}
use Rattle.message_model.specs.Sending.{Follow, sent_days, day_at, period_of, overview_of, day_message_of, event_message_of, speed_message_of, technical_message_of, message_of}
use Rattle.unit_messages.specs.Reading.{request_of}
use Rattle.link_loader.specs.declared.stage.Stage.{Stage}
use Rattle.link_loader.specs.declared.stage.Stage.TheVariants.{Start, Diagnostic, Upload, Asked, Acknowledged, Exit, Stop, Finished}
use Rattle.link_loader.specs.Stages.{first_day, next_day, behind_message, end_told}
use Rattle.link_loader.specs.Talking.{AreDays, CanBeLoaded}
use Rattle.link_loader.proofs.Rest.{from_day, day_found, day_lost, none_left, all_left, told, technical_left, speed_left, days_left, left_at, left, file_spelled}
use Rattle.link_loader.proofs.Transfers.{came}

above_none : (n : ℕ) → 0 < n → (n == 0) ≡ false
above_none n lt = grind (arith, nat_tests)

not_below : (m n : ℕ) → n ≤ m → nat_lt m n ≡ false
not_below m n le = grind (arith, nat_tests)

yes_le : (a b : ℕ) → nat_le a b ≡ true → a ≤ b
yes_le a b e = grind (arith, nat_tests)

no_le : (a b : ℕ) → nat_le a b ≡ false → b < a
no_le a b e = grind (arith, nat_tests)

module _ (x : List ℕ) where
  -- a day that is asked for lies in the period
  abbrev pub IsAsked : (end : ℕ) → Request → Type 0
  IsAsked end (AskDay second) = (second % 86400 ≡ 0) × (second ≤ end) × (end ≡ 60 * last_kept x)
  IsAsked end request = Unit {0}

  -- while pieces come: the unit has sent so many of a message, and the loader has joined them
  pub record IsSending (unit : LinkState) (end : ℕ) (bytes : List ℕ) (request : Request) (counter : ℕ) : Type 0 where
    pub n : ℕ
    pub m : Message
    pub counted : counter ≡ n + 1
    pub sends : unit ≡ states.Sending request n
    pub is : message_of x request ≡ Some m
    pub more : 251 * n ≤ length (content_of m)
    pub joined : bytes ≡ came request (content_of m) n
    pub asked : IsAsked end request

  abbrev pub Together : LinkState → (end : ℕ) → List ℕ → Stage → Type 0
  Together unit end bytes Start = (unit ≡ states.Idle) × (bytes ≡ [])
  Together unit end bytes Diagnostic = (unit ≡ states.Started) × (bytes ≡ [])
  Together unit end bytes Upload = (unit ≡ states.Diagnostic) × (bytes ≡ [])
  Together unit end bytes (Asked request) = (is_upload unit ≡ true) × IsAsked end request × (bytes ≡ [])
  Together unit end bytes (Acknowledged request counter) = IsSending unit end bytes request counter
  Together unit end bytes Exit = (is_upload unit ≡ true) × (bytes ≡ [])
  Together unit end bytes Stop = (unit ≡ states.Diagnostic) × (bytes ≡ [])
  Together unit end bytes Finished = Unit {0}

  -- at a stage this is left, and the unit stands right for it
  pub record Goes (unit : LinkState) (end : ℕ) (rest : List ℕ) (stage : Stage) : Type 0 where
    pub together : Together unit end [] stage
    pub left_is : rest ≡ left x stage

module _ (x : List ℕ) (can : CanBeLoaded x) (unit : LinkState) (up : is_upload unit ≡ true) where
  abbrev time : ℕ
  time = 60 * last_kept x

  -- behind a day
  behind_day : (second end : ℕ) → second % 86400 ≡ 0 → end ≡ time → Goes x unit end (days_left x (from_day (second + 86400) (sent_days x))) (next_day second end)
  behind_day second end first is = by (nat_le (second + 86400) end) refl
    where
      by : (b : Bool) → nat_le (second + 86400) end ≡ b → Goes x unit end (days_left x (from_day (second + 86400) (sent_days x))) (next_day second end)
      by true e =
          subst (λ (s : Stage). Goes x unit end (days_left x (from_day (second + 86400) (sent_days x))) s)
          (sym (ap (λ (b : Bool). if b then Asked (AskDay (second + 86400)) else Asked AskEvents) e))
          (record { together = (up, (omega (arith, first), yes_le (second + 86400) end e, is), refl); left_is = refl })
      by false e =
          let past : time < second + 86400 = omega (arith, no_le (second + 86400) end e, is) in
          subst (λ (s : Stage). Goes x unit end (days_left x (from_day (second + 86400) (sent_days x))) s)
          (sym (ap (λ (b : Bool). if b then Asked (AskDay (second + 86400)) else Asked AskEvents) e))
          (record { together = (up, tt, refl); left_is = ap (λ (ds : List StoredDay). days_left x ds) (none_left time (second + 86400) (sent_days x) can.days past) })

  -- behind an overview with this period
  behind_period : (ds : List StoredDay) → sent_days x ≡ ds → Goes x unit (period_of time ds).1 (days_left x (sent_days x)) (first_day (period_of time ds).0 (period_of time ds).1)
  behind_period [] is = record { together = (up, tt, refl); left_is = ap (λ (ds : List StoredDay). days_left x ds) is }
  behind_period (d ∷ ds) is =
      let follow : Follow 0 (d ∷ ds) = subst (λ (l : List StoredDay). Follow 0 l) is can.follow in
      let are : AreDays time (d ∷ ds) = subst (λ (l : List StoredDay). AreDays time l) is can.days in
      let stage : first_day d.date time ≡ Asked (AskDay d.date) =
      ap (λ (b : Bool). if b || nat_lt time d.date then Asked AskEvents else Asked (AskDay d.date)) (above_none d.date follow.0)
      ∙ ap (λ (b : Bool). if b then Asked AskEvents else Asked (AskDay d.date)) (not_below time d.date are.1) in
      subst (λ (s : Stage). Goes x unit time (days_left x (sent_days x)) s) (sym stage)
      (record {
        together = (up, (are.0, are.1, refl), refl);
        left_is = ap (λ (l : List StoredDay). days_left x l) (is ∙ sym (all_left d ds) ∙ ap (λ (l : List StoredDay). from_day d.date l) (sym is));
      })

  behind_overview : Goes x unit (overview_of x).end (days_left x (sent_days x)) (first_day (overview_of x).begin (overview_of x).end)
  unfolding overview_of
  behind_overview = behind_period (sent_days x) refl

  -- where there is no message of a day
  pub behind_no_day : (second end : ℕ) → IsAsked x end (AskDay second) → message_of x (AskDay second) ≡ None → Goes x unit end (left_at x (AskDay second)) (next_day second end)
  unfolding message_of
  behind_no_day second end asked lacks =
      let goes = behind_day second end asked.0 asked.2 in
      record { together = goes.together; left_is = ap (λ (l : List StoredDay). days_left x l) (day_lost time second 0 (sent_days x) asked.0 can.follow can.days (lost (day_at second (sent_days x)) lacks)) ∙ goes.left_is }
    where
      lost : (o : Option StoredDay) → option_map (told x) o ≡ None → o ≡ None
      lost None e = refl
      lost (Some d) e = absurd (cc)

  -- Behind a message: what it answers, and what is left.
  pub record Sent (request : Request) (end : ℕ) (m : Message) : Type 0 where
    pub asked : request ≡ request_of m
    pub rest : List ℕ
    pub spelled : left_at x request ≡ message_bytes m ++ rest
    pub goes : Goes x unit (end_told end m) rest (behind_message end m)

  abbrev same_message : Message → Option Message → Message
  same_message other None = other
  same_message other (Some m) = m

  -- a message that the image has
  fixed : (request : Request) (end : ℕ) (m n : Message) → Some m ≡ Some n → Sent request end m → Sent request end n
  fixed request end m n is sent = subst (λ (k : Message). Sent request end k) (ap (same_message m) is) sent

  overview_behind : (end : ℕ) → Sent AskOverview end (AnOverview (overview_of x))
  overview_behind end = record { asked = refl; rest = days_left x (sent_days x); spelled = file_spelled x; goes = behind_overview }

  day_behind : (second end : ℕ) (o : Option StoredDay) (m : Message) → IsAsked x end (AskDay second) → day_at second (sent_days x) ≡ o → option_map (told x) o ≡ Some m → Sent (AskDay second) end m
  unfolding day_message_of
  day_behind second end None m asked found is = absurd (cc)
  day_behind second end (Some d) m asked found is =
      let there = day_found time second 0 (sent_days x) d asked.0 can.follow can.days found in
      fixed (AskDay second) end (told x d) m is (of_day there.0 there.1)
    where
      of_day : d.date ≡ second → from_day second (sent_days x) ≡ d ∷ from_day (second + 86400) (sent_days x) → Sent (AskDay second) end (told x d)
      of_day date days =
          record {
            asked = ap AskDay (sym date);
            rest = days_left x (from_day (second + 86400) (sent_days x));
            spelled = ap (λ (l : List StoredDay). days_left x l) days;
            goes = subst (λ (n : ℕ). Goes x unit end (days_left x (from_day (second + 86400) (sent_days x))) (next_day n end)) (sym date) (behind_day second end asked.0 asked.2);
          }

  pub sent_behind : (request : Request) (end : ℕ) (m : Message) → IsAsked x end request → message_of x request ≡ Some m → Sent request end m
  unfolding message_of
  sent_behind AskOverview end m asked is = fixed AskOverview end (AnOverview (overview_of x)) m is (overview_behind end)
  sent_behind (AskDay second) end m asked is = day_behind second end (day_at second (sent_days x)) m asked refl is
  sent_behind AskEvents end m asked is = fixed AskEvents end (AnEventList (event_message_of x)) m is (record { asked = refl; rest = speed_left x; spelled = refl; goes = record { together = (up, tt, refl); left_is = refl } })
  sent_behind AskSpeed end m asked is = fixed AskSpeed end (ASpeedList (speed_message_of x)) m is (record { asked = refl; rest = technical_left x; spelled = refl; goes = record { together = (up, tt, refl); left_is = refl } })
  sent_behind AskTechnical end m asked is = fixed AskTechnical end (ATechnical (technical_message_of x)) m is (record { asked = refl; rest = []; spelled = refl; goes = record { together = (up, refl); left_is = refl } })
