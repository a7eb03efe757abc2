-- A card at the start, behind a second more, and behind seconds that are all sure.
use Rattle.std.proofs.Common.{◌≡◌, ◌∙◌, ℕ, Bool, true, List, [], ◌∷◌, ◌++◌, refl, sym, ap, subst, append_assoc, append-nil}
use Rattle.std.specs.Prelude.{flat_map}
use Rattle.std.specs.List.{list_all}
use Rattle.trace_model.specs.declared.Card.{Card}
use Rattle.trace_model.specs.Trace.{TraceSecond}
use Rattle.tach_media.specs.Medium.{State}
use Rattle.tacho_types.specs.declared.texts.Registration.{Registration}
use Rattle.card_files.specs.declared.card_event.CardEvent.{CardEvent}
use Rattle.card_files.specs.declared.current_use.CurrentUse.{CurrentUse}
use Rattle.hand_model.specs.card_image.Own.{own_sizes}
use Rattle.log_model.specs.Log.{RunLog}
use Rattle.unit_notes.specs.event_model.Events.{Event, Seen, seen_of, seen_spans, gaps_between}
use Rattle.run_events.specs.Seconds.{gap_by, seen_next}
use Rattle.run_events.proofs.Growing.{spans-more, some-spans, gaps-with}
use Rattle.run_insertion.specs.CardEvents.{events_in, all_noted}
use Rattle.run_insertion.proofs.CardBrought.{noted-both}
use Rattle.run_acts.specs.OnCards.{MetSecond, as_accepted, unclosed_at, unclosed_by, events_by, accepted_in, accepted_on, moved_in, gaps_on, events_on, is_sure_in, are_sure_on, uses_past, met_behind, met_seconds, met_next, met_accepted, bringing, IsBrought, AreBrought, ShowsOn, ComesTo, AreUses}
use Rattle.run_acts.proofs.OnCards.{and-first, and-second, unclosed-none, uses-past, past-longer, events-append, events-none, gaps-append}
use Rattle.run_acts.proofs.CardSeconds.{met-more, accepted-met, brought-one, brought-longer, brought-images}

-- NOTHING IS SHOWN MORE at the start
pub start-shown : (c : Card) (own : Registration) (images : List ℕ → Type 0) (start : List ℕ) (log : RunLog) (card : State) → ((x : List ℕ) → card.may_leave x → x ≡ start) → ShowsOn c own images [] start log [] card
start-shown c own images start log card alone x left kind = ap (λ (l : List ℕ). events_in (own_sizes start) kind l) (alone x left)

no-uses : (images : List ℕ → Type 0) (uses : List CurrentUse) → AreUses images uses [] → uses ≡ []
no-uses images [] are = refl
no-uses images (current ∷ uses) are = absurd are

-- A SECOND MORE, by the same log
module _ (c : Card) (own : Registration) (start : List ℕ) (log : RunLog) (done : List TraceSecond) (s : TraceSecond) (images later : List ℕ → Type 0) (on : (x : List ℕ) → images x → later x) (uses more : List CurrentUse) (are : AreUses images uses (accepted_on c (seen_of log done))) where
  all : AreUses images uses (met_accepted c (met_seconds log done) ++ [])
  all = subst (AreUses images uses) (sym (append-nil (met_accepted c (met_seconds log done)) ∙ accepted-met c log [] (seen_of log done))) are

  -- no use of before is left for it
  left-is : uses_past (met_accepted c (met_seconds log done)) (uses ++ more) ≡ more
  left-is =
      past-longer images (met_accepted c (met_seconds log done)) [] uses more all
      ∙ ap (λ (us : List CurrentUse). us ++ more) (no-uses images (uses_past (met_accepted c (met_seconds log done)) uses) (uses-past images (met_accepted c (met_seconds log done)) [] uses all))

  pub second-shown : (old new : State) → ShowsOn c own images uses start log (met_seconds log done) old
      → ComesTo later (own_sizes start) (λ kind. is_sure_in c kind log (seen_next log done s)) (bringing c own (met_next log done s) (unclosed_by more (accepted_in c (seen_next log done s)))) old new
      → ShowsOn c own later (uses ++ more) start log (met_seconds log (done ++ s ∷ [])) new
  second-shown old new shown comes y at kind =
      let before = comes y at in
      let first : List (List ℕ) = events_in (own_sizes start) kind start in
      let mid : List (List ℕ) = events_in (own_sizes start) kind before.0 in
      let last : List (List ℕ) = events_in (own_sizes start) kind y in
      let n : MetSecond = met_next log done s in
      subst (λ (ms : List MetSecond). AreBrought c own later kind log ms (uses ++ more) first last) (sym (met-more log done s))
      (brought-one c own later kind log (met_seconds log done) n (uses ++ more) first mid last
      (brought-images c own images later on kind log (met_seconds log done) (uses ++ more) first mid (brought-longer c own images kind log (met_seconds log done) [] uses more first mid all (shown before.0 before.1 kind)))
      (subst (λ (us : List CurrentUse). IsBrought later kind (is_sure_in c kind log n.seen) (bringing c own n (unclosed_by us (accepted_in c n.seen))) mid last) (sym left-is) (before.2 kind)))

-- ---- seconds that are all sure

unclosed-split : (us vs : List ℕ) (uses : List CurrentUse) → unclosed_by uses (us ++ vs) ≡ unclosed_by uses us ++ unclosed_by (uses_past us uses) vs
unclosed-split [] vs uses = sym (ap (λ (es : List CardEvent). es ++ unclosed_by uses vs) (unclosed-none uses))
unclosed-split (u ∷ us) vs [] = refl
unclosed-split (u ∷ us) vs (current ∷ uses) =
    ap (λ (es : List CardEvent). unclosed_at current u ++ es) (unclosed-split us vs uses) ∙ sym (append_assoc (unclosed_at current u) (unclosed_by uses us) (unclosed_by (uses_past us uses) vs))

-- the interruptions of some seconds
abbrev gaps_met : List MetSecond → List Event
gaps_met ms = flat_map (λ m. m.gap) ms

gaps-met : (log : RunLog) (behind xs : List Seen) → gaps_between as_accepted log (seen_spans (behind ++ xs)) ≡ gaps_between as_accepted log (seen_spans behind) ++ gaps_met (met_behind log behind xs)
gaps-met log behind [] = ap (λ (ys : List Seen). gaps_between as_accepted log (seen_spans ys)) (append-nil behind) ∙ sym (append-nil (gaps_between as_accepted log (seen_spans behind)))
gaps-met log behind (x ∷ xs) =
    let rest : List Event = gaps_met (met_behind log (behind ++ x ∷ []) xs) in
    ap (λ (ys : List Seen). gaps_between as_accepted log (seen_spans ys)) (sym (append_assoc behind (x ∷ []) xs))
    ∙ gaps-met log (behind ++ x ∷ []) xs
    ∙ ap (λ (es : List Event). es ++ rest) (ap (gaps_between as_accepted log) (spans-more behind x) ∙ gaps-with as_accepted log (seen_spans behind) x (some-spans behind))
    ∙ append_assoc (gaps_between as_accepted log (seen_spans behind)) (gap_by as_accepted log (seen_spans behind) x) rest

module _ (c : Card) (own : Registration) (images : List ℕ → Type 0) (kind : ℕ) (log : RunLog) where
  all-sure : (behind xs : List Seen) (uses : List CurrentUse) (old new : List (List ℕ)) → list_all (is_sure_in c kind log) xs ≡ true → AreBrought c own images kind log (met_behind log behind xs) uses old new →
      new ≡ all_noted old (events_by kind (gaps_on c own (gaps_met (met_behind log behind xs))) (flat_map (moved_in c own) xs) (unclosed_by uses (accepted_on c xs)))
  all-sure behind [] uses old new sure h = h ∙ sym (ap (all_noted old) (ap (events_by kind [] []) (unclosed-none uses) ∙ events-none kind))
  all-sure behind (x ∷ xs) uses old new sure h =
      let gap : List Event = gap_by as_accepted log (seen_spans behind) x in
      let gaps : List Event = gaps_met (met_behind log (behind ++ x ∷ []) xs) in
      let us : List CardEvent = unclosed_by uses (accepted_in c x) in
      let vs : List CardEvent = unclosed_by (uses_past (accepted_in c x) uses) (accepted_on c xs) in
      let ms : List CardEvent = flat_map (moved_in c own) xs in
      let first : List CardEvent = events_by kind (gaps_on c own gap) (moved_in c own x) us in
      let rest : List CardEvent = events_by kind (gaps_on c own gaps) ms vs in
      let one : h.0 ≡ all_noted old first =
      subst (λ (q : Bool). IsBrought images kind q (bringing c own (record { seen = x; gap = gap }) us) old h.0) (and-first (is_sure_in c kind log x) (list_all (is_sure_in c kind log) xs) sure) h.1 in
      let then : new ≡ all_noted h.0 rest = all-sure (behind ++ x ∷ []) xs (uses_past (accepted_in c x) uses) h.0 new (and-second (is_sure_in c kind log x) (list_all (is_sure_in c kind log) xs) sure) h.2 in
      let events : events_by kind (gaps_on c own (gap ++ gaps)) (moved_in c own x ++ ms) (unclosed_by uses (accepted_in c x ++ accepted_on c xs)) ≡ first ++ rest =
      (λ i. events_by kind (gaps-append c own gap gaps i) (moved_in c own x ++ ms) (unclosed-split (accepted_in c x) (accepted_on c xs) uses i)) ∙ events-append kind (gaps_on c own gap) (moved_in c own x) us (gaps_on c own gaps) ms vs in
      then ∙ ap (λ (t : List (List ℕ)). all_noted t rest) one ∙ sym (noted-both old first rest) ∙ ap (all_noted old) (sym events)

-- WHAT IS SURE was noted, one event after another
pub sure-shown : (c : Card) (own : Registration) (images : List ℕ → Type 0) (uses : List CurrentUse) (start : List ℕ) (log : RunLog) (done : List TraceSecond) (card : State) → ShowsOn c own images uses start log (met_seconds log done) card → (x : List ℕ) → card.may_leave x → (kind : ℕ)
    → are_sure_on c kind log (seen_of log done) ≡ true → events_in (own_sizes start) kind x ≡ all_noted (events_in (own_sizes start) kind start) (events_on c own uses kind log done)
sure-shown c own images uses start log done card shown x left kind sure =
    all-sure c own images kind log [] (seen_of log done) uses (events_in (own_sizes start) kind start) (events_in (own_sizes start) kind x) sure (shown x left kind)
    ∙ ap (λ (gaps : List Event). all_noted (events_in (own_sizes start) kind start) (events_by kind (gaps_on c own gaps) (flat_map (moved_in c own) (seen_of log done)) (unclosed_by uses (accepted_on c (seen_of log done)))))
    (sym (gaps-met log [] (seen_of log done)))
