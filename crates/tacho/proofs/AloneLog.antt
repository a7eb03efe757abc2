-- The log and the history of a trace without a card's line: it tells of no card, and the history is one, whatever the cards bring.
use Rattle.std.proofs.Common.{◌≡◌, ◌∙◌, inl, ℕ, zero, suc, ◌+◌, true, false, List, [], ◌∷◌, ◌++◌, filter, map, length, refl, ap, sym, subst, arith}
use Rattle.std.specs.Prelude.{flat_map, option_to_list}
use Rattle.std.specs.List.{AllByRecursion}
use Rattle.activity_codec.specs.declared.values.Slot.TheVariants.{Driver, CoDriver}
use Rattle.trace_model.specs.declared.Card.{Card}
use Rattle.trace_model.specs.declared.Action.{Action}
use Rattle.trace_model.specs.declared.Action.TheVariants.{Select, Insert, Withdraw, Tear, Place, Manual}
use Rattle.trace_model.specs.declared.Item.{Item}
use Rattle.trace_model.specs.declared.Item.TheVariants.{Run, Off, Act}
use Rattle.trace_model.specs.Trace.{TraceSecond, driven, dark, seconds_from, seconds_of}
use Rattle.run_model.specs.declared.Device.{Device}
use Rattle.run_model.specs.declared.Device.TheVariants.{Unit as OfUnit}
use Rattle.minute_model.specs.declared.Rule.{Rule}
use Rattle.minute_model.specs.declared.Minute.{Minute}
use Rattle.log_model.specs.declared.lines.Break.{Break}
use Rattle.log_model.specs.declared.lines.Break.TheVariants.{Cut, Tear as Torn}
use Rattle.log_model.specs.declared.lines.Verdict.{Verdict}
use Rattle.log_model.specs.Log.{RunLog, phase_of}
use Rattle.log_model.specs.Slots.{same_card}
use Rattle.log_model.specs.Course.{ToldSecond, went}
use Rattle.log_model.specs.Spans.{spans_of}
use Rattle.log_model.specs.Causes.{HasCauses, RoseBy, is_cut, cuts, tears, places, in_the_slot, torn_of, device_of}
use Rattle.history_model.specs.Minutes.{HistoryMinute}
use Rattle.history_model.specs.Presence.{Start}
use Rattle.history_model.specs.History.{minutes_after, decided_of, span_minutes, limited_to, lost_minute, limit_of, history_by, lost_by, unit_history, with_lost}
use Rattle.run_unit_course.specs.Turn.{IsSelection, ArePlain}
use Rattle.run_unit_course.proofs.Alike.{minutes-plain}
use Rattle.unit_events.specs.Plain.{IsWithoutCards, OnlySelect}
use Rattle.run_course.proofs.Telling.{each-of}
use Rattle.tacho.specs.Alone.{IsForUnit, NoVerdict}
use Rattle.tacho.proofs.Cardless.{IsCardless, AreCardless, cardless, none-found, none-torn-out, none-pulled, no-card-torn, nothing-found}
use Rattle.tacho.proofs.Unbroken.{no-places, no-tears}

-- ITS SECONDS have selections only
pub each-append : {T : Type 0} (P : T → Type 0) (xs ys : List T) → AllByRecursion P xs → AllByRecursion P ys → AllByRecursion P (xs ++ ys)
each-append P [] ys h k = k
each-append P (x ∷ xs) ys h k = (h.0, each-append P xs ys h.1 k)

abbrev selects : TraceSecond → Type 0
selects s = AllByRecursion IsSelection s.actions

driven-selects : (n number speed : ℕ) (actions : List Action) → AllByRecursion IsSelection actions → OnlySelect (driven n number speed actions)
driven-selects zero number speed actions each = tt
driven-selects (suc n) number speed actions each = (each, driven-selects n (number + 1) speed [] tt)

dark-selects : (n number : ℕ) → OnlySelect (dark n number)
dark-selects zero number = tt
dark-selects (suc n) number = (tt, dark-selects n (number + 1))

only-selects : (items : List Item) (number : ℕ) (waiting : List Action) → AllByRecursion IsSelection waiting → IsForUnit items → OnlySelect (seconds_from number waiting items)
only-selects [] number waiting each h = tt
only-selects (Run n speed ∷ items) number waiting each h =
    each-append selects (driven n number speed waiting) (seconds_from (number + n) [] items) (driven-selects n number speed waiting each) (only-selects items (number + n) [] tt h.1)
only-selects (Off n ∷ items) number waiting each h =
    each-append selects (dark n number) (seconds_from (number + n) waiting items) (dark-selects n number) (only-selects items (number + n) waiting each h.1)
only-selects (Act (Select slot pick) ∷ items) number waiting each h =
    only-selects items number (waiting ++ Select slot pick ∷ []) (each-append IsSelection waiting (Select slot pick ∷ []) each (tt, tt)) h.1
only-selects (Act (Insert slot card) ∷ items) number waiting each h = absurd (let no : false ≡ true = h.0 in cc)
only-selects (Act (Withdraw slot) ∷ items) number waiting each h = absurd (let no : false ≡ true = h.0 in cc)
only-selects (Act (Tear slot) ∷ items) number waiting each h = absurd (let no : false ≡ true = h.0 in cc)
only-selects (Act (Place slot ending country region) ∷ items) number waiting each h = absurd (let no : false ≡ true = h.0 in cc)
only-selects (Act (Manual slot pick minute) ∷ items) number waiting each h = absurd (let no : false ≡ true = h.0 in cc)

pub trace-selects : (start : ℕ) (items : List Item) → IsForUnit items → OnlySelect (seconds_of start items)
unfolding seconds_of
trace-selects start items h = only-selects items start [] tt h

-- ITS LOG: no card was torn out or pulled, and none found
off-tears : (log : RunLog) (bs : List Break) → flat_map places (tears false (record log { breaks = bs })) ≡ [] → tears false (record log { breaks = bs }) ≡ []
off-tears log [] none = refl
off-tears log (Cut second kept failed begun ∷ bs) none = off-tears log bs none
off-tears log (Torn second slot true begun late ∷ bs) none = off-tears log bs none
off-tears log (Torn second slot false begun late ∷ bs) none = absurd (let e : (second, phase_of begun late, slot) ∷ flat_map places (tears false (record log { breaks = bs })) ≡ [] = none in cc)

only-cuts : (log : RunLog) (bs : List Break) → tears true (record log { breaks = bs }) ≡ [] → tears false (record log { breaks = bs }) ≡ [] → AllByRecursion (λ (b : Break). is_cut b ≡ true) bs
only-cuts log [] failed off = tt
only-cuts log (Cut second kept by begun ∷ bs) failed off = (refl, only-cuts log bs failed off)
only-cuts log (Torn second slot true begun late ∷ bs) failed off = absurd (let e : Torn second slot true begun late ∷ tears true (record log { breaks = bs }) ≡ [] = failed in cc)
only-cuts log (Torn second slot false begun late ∷ bs) failed off = absurd (let e : Torn second slot false begun late ∷ tears false (record log { breaks = bs }) ≡ [] = off in cc)

map-none : {X Y : Type 0} (f : X → Y) (xs : List X) → map f xs ≡ [] → xs ≡ []
map-none f [] is = refl
map-none f (x ∷ xs) is = absurd (let e : f x ∷ map f xs ≡ [] = is in cc)

module _ (IsVerdict : Card → ℕ → Verdict → Type 0) (before now : Device → ℕ) (ss : List TraceSecond) (log : RunLog) (each : OnlySelect ss) (h : HasCauses IsVerdict before now ss log) where
  none-in : AreCardless (went log ss).told
  none-in = cardless log ss each

  pub no-failed-tears : tears true log ≡ []
  no-failed-tears =
      let none : torn_of (went log ss).told ≡ [] = none-torn-out (went log ss).told none-in in
      no-tears log log.breaks (no-places (flat_map places (tears true log)) (h.failed_tears Driver ∙ ap (in_the_slot Driver) none) (h.failed_tears CoDriver ∙ ap (in_the_slot CoDriver) none))

  pub without-cards : IsWithoutCards log
  without-cards = record {
    breaks = only-cuts log log.breaks no-failed-tears (off-tears log log.breaks (h.tear_lines ∙ none-pulled (went log ss).told none-in));
    finds = map-none _ log.finds (h.finds ∙ none-found (went log ss).told none-in);
  }

  -- so each line has its cause where nothing may be found of a card, whatever the cards are that were not called
  pub caused-alone : (b n : Device → ℕ) → b OfUnit ≡ before OfUnit → n OfUnit ≡ now OfUnit → ((card : Card) → n (device_of card) ≡ b (device_of card)) → HasCauses NoVerdict b n ss log
  caused-alone b n was is same = record {
    refused = h.refused;
    cut_seconds = h.cut_seconds;
    off_lines = h.off_lines;
    failed_cuts = subst (λ (k : ℕ). RoseBy (length (cuts true log)) k (n OfUnit)) (sym was) (subst (λ (k : ℕ). RoseBy (length (cuts true log)) (before OfUnit) k) (sym is) h.failed_cuts);
    tear_lines = h.tear_lines;
    failed_tears = h.failed_tears;
    torn_cards = λ card. subst (λ (cards : List Card). RoseBy (length (filter (same_card card) cards)) (b (device_of card)) (n (device_of card))) (sym (no-card-torn (went log ss).told none-in)) (inl (omega (arith, same card)));
    begun = h.begun;
    moments = h.moments;
    order = h.order;
    finds = h.finds;
    judged = h.judged;
    verdicts = λ t e v there found. nothing-found t e v (each-of IsCardless (went log ss).told t none-in there) found;
  }

-- ITS HISTORY, whatever the cards bring
module _ (rule : Rule) (a b : Start) (log : RunLog) (told : List ToldSecond) (plain : ArePlain told) where
  minutes-any : (past : List HistoryMinute) (ds : List Minute) → minutes_after a told past ds ≡ minutes_after b told past ds
  minutes-any past ds = minutes-plain a told past ds plain ∙ sym (minutes-plain b told past ds plain)

  history-any : (past : List HistoryMinute) (spans : List (List ToldSecond)) → history_by rule a (limit_of log) told past spans ≡ history_by rule b (limit_of log) told past spans
  history-any past [] = refl
  history-any past (span ∷ later) =
      let more : List HistoryMinute = limited_to (limit_of log span later) (span_minutes rule b told past span) in
      ap (λ (is : List HistoryMinute). limited_to (limit_of log span later) is ++ history_by rule a (limit_of log) told (past ++ limited_to (limit_of log span later) is) later) (minutes-any past (decided_of rule span))
      ∙ ap (λ (is : List HistoryMinute). more ++ is) (history-any (past ++ more) later)

  lost-any : (past : List HistoryMinute) (spans : List (List ToldSecond)) → lost_by rule a (limit_of log) told past spans ≡ lost_by rule b (limit_of log) told past spans
  lost-any past [] = refl
  lost-any past (span ∷ later) =
      let whole : List HistoryMinute = span_minutes rule b told past span in
      let more : List HistoryMinute = limited_to (limit_of log span later) whole in
      ap (λ (is : List HistoryMinute). map (λ i. past ++ (limited_to (limit_of log span later) is ++ i ∷ [])) (option_to_list (lost_minute (limit_of log span later) is))
      ++ lost_by rule a (limit_of log) told (past ++ limited_to (limit_of log span later) is) later) (minutes-any past (decided_of rule span))
      ∙ ap (λ (ls : List (List HistoryMinute)). map (λ i. past ++ (more ++ i ∷ [])) (option_to_list (lost_minute (limit_of log span later) whole)) ++ ls) (lost-any (past ++ more) later)

  pub unit-history-any : unit_history rule a log told ≡ unit_history rule b log told
  unfolding unit_history
  unit-history-any = history-any [] (spans_of told)

  pub with-lost-any : with_lost rule a log told ≡ with_lost rule b log told
  unfolding with_lost
  with-lost-any = lost-any [] (spans_of told)
