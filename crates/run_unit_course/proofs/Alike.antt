-- Without cards the history of spans is what they decide, up to the limits that count: two logs that tell the same of these give
-- the same history.
use Rattle.std.proofs.Common.{◌≡◌, ◌⊎◌, inl, inr, ℕ, Bool, true, false, cond, nat_eq, Option, Some, None, List, [], ◌∷◌, ◌++◌, map, filter, refl, ap, sym, ◌∙◌}
use Rattle.std.specs.Prelude.{option_to_list, option_map, unwrap_or}
use Rattle.std.specs.List.{AllByRecursion}
use Rattle.activity_codec.specs.declared.values.Slot.{Slot}
use Rattle.activity_codec.specs.declared.values.Slot.TheVariants.{Driver, CoDriver}
use Rattle.trace_model.specs.declared.Card.{Card}
use Rattle.minute_model.specs.declared.Rule.{Rule}
use Rattle.minute_model.specs.declared.Minute.{Minute}
use Rattle.minute_model.specs.Second.{minute_of}
use Rattle.minute_model.specs.Minute.{decided}
use Rattle.minute_model.specs.Activity.{last}
use Rattle.log_model.specs.declared.lines.Break.{Break}
use Rattle.log_model.specs.Log.{kept_after}
use Rattle.log_model.specs.Slots.{Slots, Sitting, in_slot}
use Rattle.log_model.specs.Course.{ToldSecond}
use Rattle.history_model.specs.Minutes.{HistoryMinute}
use Rattle.history_model.specs.Presence.{Start, in_minute, present_in, present_sitting}
use Rattle.history_model.specs.History.{seated, minutes_after, decided_of, span_minutes, limited_to, lost_minute, limit_by, cut_second, limit_of, any_long, history_by, lost_by}
use Rattle.history_model.specs.Growth.{closed_limit}
use Rattle.run_unit_course.specs.Turn.{empty_slots, ArePlain}
use Rattle.run_unit_course.specs.Lines.{log_of, tells_cut}
use Rattle.run_unit_course.specs.Keeping.{plain}
use Rattle.run_unit_course.specs.Followed.{IsKnown}

-- NO CARD IS PRESENT
plain-filter : (p : ToldSecond → Bool) (ts : List ToldSecond) → ArePlain ts → ArePlain (filter p ts)
plain-filter p [] h = tt
plain-filter p (t ∷ ts) h = go (p t) (plain-filter p ts h.1)
  where
    go : (b : Bool) → ArePlain (filter p ts) → ArePlain (cond b (t ∷ filter p ts) (filter p ts))
    go true rest = (h.0, rest)
    go false rest = rest

nobody : (slot : Slot) → in_slot empty_slots slot ≡ None
nobody Driver = refl
nobody CoDriver = refl

nobody-last : (slot : Slot) (ts : List ToldSecond) → ArePlain ts → unwrap_or (option_map {T = ToldSecond} (λ t. in_slot t.course.slots slot) (last ts)) None ≡ None
nobody-last slot [] h = refl
nobody-last slot (t ∷ []) h = ap (λ (s : Slots). in_slot s slot) h.0.0 ∙ nobody slot
nobody-last slot (t ∷ u ∷ ts) h = nobody-last slot (u ∷ ts) h.1

absent : (start : Start) (told : List ToldSecond) (past : List HistoryMinute) (m : ℕ) (slot : Slot) → ArePlain told → present_in start told past m slot ≡ None
unfolding present_in
absent start told past m slot h =
    ap (λ (o : Option Sitting). present_sitting start past m (in_minute m told) o) (nobody-last slot (in_minute m told) (plain-filter (λ t. nat_eq (minute_of t.second) m) told h))

seated-plain : (start : Start) (told : List ToldSecond) (past : List HistoryMinute) (d : Minute) → ArePlain told → seated start told past d ≡ plain d
seated-plain start told past d h =
    ap (λ (c : Option Card). record { minute = d.minute; driver = record { act = d.driver; card = c }; codriver = record { act = d.codriver; card = present_in start told past d.minute CoDriver } }) (absent start told past d.minute Driver h)
    ∙ ap (λ (c : Option Card). record { minute = d.minute; driver = record { act = d.driver; card = None }; codriver = record { act = d.codriver; card = c } }) (absent start told past d.minute CoDriver h)

pub minutes-plain : (start : Start) (told : List ToldSecond) (past : List HistoryMinute) (ds : List Minute) → ArePlain told → minutes_after start told past ds ≡ map plain ds
minutes-plain start told past [] h = refl
minutes-plain start told past (d ∷ ds) h =
    ap (λ (i : HistoryMinute). i ∷ minutes_after start told (past ++ i ∷ []) ds) (seated-plain start told past d h)
    ∙ ap (λ (is : List HistoryMinute). plain d ∷ is) (minutes-plain start told (past ++ plain d ∷ []) ds h)

-- SPANS WITH TWO LIMITS: each decided nothing, or the two are the same
abbrev pub Alike : Rule → (f g : List ToldSecond → List (List ToldSecond) → Option ℕ) → List (List ToldSecond) → Type 0
Alike rule f g [] = Unit {0}
Alike rule f g (span ∷ later) = ((decided_of rule span ≡ []) ⊎ (f span later ≡ g span later)) × Alike rule f g later

none-limited : (k : Option ℕ) → limited_to k [] ≡ []
none-limited None = refl
none-limited (Some k) = refl

none-lost : (k : Option ℕ) → lost_minute k [] ≡ None
none-lost None = refl
none-lost (Some k) = refl

limited-alike : (ds : List Minute) (k l : Option ℕ) → (ds ≡ []) ⊎ (k ≡ l) → limited_to k (map plain ds) ≡ limited_to l (map plain ds)
limited-alike ds k l (inl none) = ap (λ (ds : List Minute). limited_to k (map plain ds)) none ∙ none-limited k ∙ sym (ap (λ (ds : List Minute). limited_to l (map plain ds)) none ∙ none-limited l)
limited-alike ds k l (inr same) = ap (λ (o : Option ℕ). limited_to o (map plain ds)) same

lost-alike : (ds : List Minute) (k l : Option ℕ) → (ds ≡ []) ⊎ (k ≡ l) → lost_minute k (map plain ds) ≡ lost_minute l (map plain ds)
lost-alike ds k l (inl none) = ap (λ (ds : List Minute). lost_minute k (map plain ds)) none ∙ none-lost k ∙ sym (ap (λ (ds : List Minute). lost_minute l (map plain ds)) none ∙ none-lost l)
lost-alike ds k l (inr same) = ap (λ (o : Option ℕ). lost_minute o (map plain ds)) same

module _ (rule : Rule) (start : Start) (told later_told : List ToldSecond) (h : ArePlain told) (k : ArePlain later_told) (f g : List ToldSecond → List (List ToldSecond) → Option ℕ) where
  more-alike : (past : List HistoryMinute) (span : List ToldSecond) (later : List (List ToldSecond)) → (decided_of rule span ≡ []) ⊎ (f span later ≡ g span later) →
      limited_to (f span later) (span_minutes rule start told past span) ≡ limited_to (g span later) (span_minutes rule start later_told past span)
  more-alike past span later same =
      ap (limited_to (f span later)) (minutes-plain start told past (decided_of rule span) h)
      ∙ limited-alike (decided_of rule span) (f span later) (g span later) same
      ∙ ap (limited_to (g span later)) (sym (minutes-plain start later_told past (decided_of rule span) k))

  gone-alike : (past : List HistoryMinute) (span : List ToldSecond) (later : List (List ToldSecond)) → (decided_of rule span ≡ []) ⊎ (f span later ≡ g span later) →
      lost_minute (f span later) (span_minutes rule start told past span) ≡ lost_minute (g span later) (span_minutes rule start later_told past span)
  gone-alike past span later same =
      ap (lost_minute (f span later)) (minutes-plain start told past (decided_of rule span) h)
      ∙ lost-alike (decided_of rule span) (f span later) (g span later) same
      ∙ ap (lost_minute (g span later)) (sym (minutes-plain start later_told past (decided_of rule span) k))

  pub histories-alike : (past : List HistoryMinute) (spans : List (List ToldSecond)) → Alike rule f g spans → history_by rule start f told past spans ≡ history_by rule start g later_told past spans
  histories-alike past [] same = refl
  histories-alike past (span ∷ later) same =
      let more : List HistoryMinute = limited_to (g span later) (span_minutes rule start later_told past span) in
      ap (λ (is : List HistoryMinute). is ++ history_by rule start f told (past ++ is) later) (more-alike past span later same.0)
      ∙ ap (λ (is : List HistoryMinute). more ++ is) (histories-alike (past ++ more) later same.1)

  pub losses-alike : (past : List HistoryMinute) (spans : List (List ToldSecond)) → Alike rule f g spans → lost_by rule start f told past spans ≡ lost_by rule start g later_told past spans
  losses-alike past [] same = refl
  losses-alike past (span ∷ later) same =
      let more : List HistoryMinute = limited_to (g span later) (span_minutes rule start later_told past span) in
      let gone : Option HistoryMinute = lost_minute (f span later) (span_minutes rule start told past span) in
      ap (λ (is : List HistoryMinute). map (λ i. past ++ (is ++ i ∷ [])) (option_to_list gone) ++ lost_by rule start f told (past ++ is) later) (more-alike past span later same.0)
      ∙ ap (λ (o : Option HistoryMinute). map (λ i. past ++ (more ++ i ∷ [])) (option_to_list o) ++ lost_by rule start f told (past ++ more) later) (gone-alike past span later same.0)
      ∙ ap (λ (ls : List (List HistoryMinute)). map (λ i. past ++ (more ++ i ∷ [])) (option_to_list (lost_minute (g span later) (span_minutes rule start later_told past span))) ++ ls) (losses-alike (past ++ more) later same.1)

-- TWO LOGS that tell the same of what was kept after the cuts that these breaks tell of
module _ (rule : Rule) (found breaks later_breaks : List Break) (same : (u : ℕ) → tells_cut u found ≡ true → kept_after (log_of breaks) u ≡ kept_after (log_of later_breaks) u) where
  limit-known : (span : List ToldSecond) → IsKnown rule found span → (decided_of rule span ≡ []) ⊎ (limit_by (log_of breaks) (cut_second (last span)) ≡ limit_by (log_of later_breaks) (cut_second (last span)))
  limit-known span (inl none) = inl none
  limit-known span (inr known) = inr (
      ap (limit_by (log_of breaks)) known.1
      ∙ ap (λ (k : ℕ). Some k) (same known.0 known.2)
      ∙ ap (limit_by (log_of later_breaks)) (sym known.1))

  pub known-closed : (spans : List (List ToldSecond)) → AllByRecursion (IsKnown rule found) spans → Alike rule (closed_limit (log_of breaks)) (closed_limit (log_of later_breaks)) spans
  known-closed [] h = tt
  known-closed (span ∷ later) h = (limit-known span h.0, known-closed later h.1)

  opened : (span : List ToldSecond) (b : Bool) → (decided_of rule span ≡ []) ⊎ (limit_by (log_of breaks) (cut_second (last span)) ≡ limit_by (log_of later_breaks) (cut_second (last span))) →
      (decided_of rule span ≡ []) ⊎ (cond b (limit_by (log_of breaks) (cut_second (last span))) None ≡ cond b (limit_by (log_of later_breaks) (cut_second (last span))) None)
  opened span b (inl none) = inl none
  opened span b (inr same) = inr (ap (λ (o : Option ℕ). cond b o None) same)

  pub known-open : (spans : List (List ToldSecond)) → AllByRecursion (IsKnown rule found) spans → Alike rule (limit_of (log_of breaks)) (limit_of (log_of later_breaks)) spans
  known-open [] h = tt
  known-open (span ∷ later) h = (opened span (any_long later) (limit-known span h.0), known-open later h.1)

  -- spans, and others behind them
  pub known-parts : (spans behind : List (List ToldSecond)) → AllByRecursion (IsKnown rule found) spans → Alike rule (limit_of (log_of breaks)) (limit_of (log_of later_breaks)) behind →
      Alike rule (limit_of (log_of breaks)) (limit_of (log_of later_breaks)) (spans ++ behind)
  known-parts [] behind h others = others
  known-parts (span ∷ later) behind h others = (opened span (any_long (later ++ behind)) (limit-known span h.0), known-parts later behind h.1 others)

-- spans that decide nothing are alike by any limits
pub nothing-alike : (rule : Rule) (f g : List ToldSecond → List (List ToldSecond) → Option ℕ) (spans : List (List ToldSecond)) → AllByRecursion (λ (span : List ToldSecond). decided_of rule span ≡ []) spans → Alike rule f g spans
nothing-alike rule f g [] h = tt
nothing-alike rule f g (span ∷ later) h = (inl h.0, nothing-alike rule f g later h.1)

pub decided-empty : (rule : Rule) → decided_of rule [] ≡ []
unfolding decided
decided-empty rule = refl
