-- What a card shows behind some seconds, and behind one more; by a log that is sure of less, or tells more of the interruptions.
use Rattle.std.proofs.Common.{◌≡◌, ◌∙◌, ◌⊎◌, inl, inr, ℕ, true, false, List, [], ◌∷◌, ◌++◌, refl, sym, ap, subst, append_assoc, append-nil}
use Rattle.std.proofs.lemmas.Bool.{eqb-true}
use Rattle.trace_model.specs.declared.Card.{Card}
use Rattle.trace_model.specs.Trace.{TraceSecond}
use Rattle.tacho_types.specs.declared.texts.Registration.{Registration}
use Rattle.card_files.specs.declared.card_event.CardEvent.{CardEvent}
use Rattle.card_files.specs.declared.current_use.CurrentUse.{CurrentUse}
use Rattle.log_model.specs.Log.{RunLog}
use Rattle.unit_notes.specs.event_model.declared.kinds.TheConstants.{POWER_INTERRUPTION}
use Rattle.unit_notes.specs.event_model.Events.{Event, Seen, seen_of, seen_spans}
use Rattle.run_events.specs.Seconds.{gap_by, seen_next}
use Rattle.run_events.proofs.Growing.{seen-more}
use Rattle.run_acts.specs.OnCards.{MetSecond, as_accepted, unclosed_by, accepted_in, accepted_on, gaps_on, is_sure_in, uses_past, met_behind, met_seconds, met_next, met_accepted, bringing, IsBrought, AreBrought, AreUses}
use Rattle.run_acts.proofs.OnCards.{past-both, uses-past, past-longer, unclosed-longer, flat-one}
use Rattle.run_acts.proofs.CardBrings.{known-of, brought-less, brought-gap, brought-still}

-- ---- the seconds of a run

met-one : (log : RunLog) (behind xs : List Seen) (x : Seen) →
    met_behind log behind (xs ++ x ∷ []) ≡ met_behind log behind xs ++ record { seen = x; gap = gap_by as_accepted log (seen_spans (behind ++ xs)) x } ∷ []
met-one log behind [] x = ap (λ (ys : List Seen). record { seen = x; gap = gap_by as_accepted log (seen_spans ys) x } ∷ []) (sym (append-nil behind))
met-one log behind (y ∷ xs) x =
    ap (λ (ms : List MetSecond). record { seen = y; gap = gap_by as_accepted log (seen_spans behind) y } ∷ ms)
    (met-one log (behind ++ y ∷ []) xs x
    ∙ ap (λ (ys : List Seen). met_behind log (behind ++ y ∷ []) xs ++ record { seen = x; gap = gap_by as_accepted log (seen_spans ys) x } ∷ []) (append_assoc behind (y ∷ []) xs))

pub met-more : (log : RunLog) (done : List TraceSecond) (s : TraceSecond) → met_seconds log (done ++ s ∷ []) ≡ met_seconds log done ++ met_next log done s ∷ []
met-more log done s = ap (λ (xs : List Seen). met_behind log [] xs) (seen-more log done s) ∙ met-one log [] (seen_of log done) (seen_next log done s)

-- the seconds in which a card was accepted
pub accepted-met : (c : Card) (log : RunLog) (behind xs : List Seen) → met_accepted c (met_behind log behind xs) ≡ accepted_on c xs
accepted-met c log behind [] = refl
accepted-met c log behind (x ∷ xs) = ap (λ (us : List ℕ). accepted_in c x ++ us) (accepted-met c log (behind ++ x ∷ []) xs)

pub accepted-one : (c : Card) (ms : List MetSecond) (m : MetSecond) → met_accepted c (ms ++ m ∷ []) ≡ met_accepted c ms ++ accepted_in c m.seen
accepted-one c ms m = flat-one (λ (n : MetSecond). accepted_in c n.seen) ms m

-- ---- logs that tell more

-- a log is sure of no more
abbrev pub IsSureOfLess : Card → (kind : ℕ) → (log later : RunLog) → Type 0
IsSureOfLess c kind log later = (x : Seen) → is_sure_in c kind later x ≡ true → is_sure_in c kind log x ≡ true

module _ (c : Card) (own : Registration) where
  -- a log tells more of the interruptions: of each the same, or none was told of a second that is not sure
  abbrev pub GapGoes : (later : RunLog) → Seen → (gap now : List Event) → Type 0
  GapGoes later x gap now = (gaps_on c own now ≡ gaps_on c own gap) ⊎ ((gaps_on c own gap ≡ []) × (is_sure_in c POWER_INTERRUPTION later x ≡ false))

  abbrev pub GapsGo : (log later : RunLog) → (behind xs : List Seen) → Type 0
  GapsGo log later behind [] = Unit {0}
  GapsGo log later behind (x ∷ xs) = GapGoes later x (gap_by as_accepted log (seen_spans behind) x) (gap_by as_accepted later (seen_spans behind) x) × GapsGo log later (behind ++ x ∷ []) xs

-- ---- the places of a type

module _ (c : Card) (own : Registration) (images : List ℕ → Type 0) (kind : ℕ) where
  -- what a second brings by these uses
  abbrev IsThen : (log : RunLog) → MetSecond → List CurrentUse → (old new : List (List ℕ)) → Type 0
  IsThen log m uses old new = IsBrought images kind (is_sure_in c kind log m.seen) (bringing c own m (unclosed_by uses (accepted_in c m.seen))) old new

  -- some, and one more
  pub brought-one : (log : RunLog) (ms : List MetSecond) (m : MetSecond) (uses : List CurrentUse) (old mid new : List (List ℕ)) → AreBrought c own images kind log ms uses old mid →
      IsBrought images kind (is_sure_in c kind log m.seen) (bringing c own m (unclosed_by (uses_past (met_accepted c ms) uses) (accepted_in c m.seen))) mid new → AreBrought c own images kind log (ms ++ m ∷ []) uses old new
  brought-one log [] m uses old mid new first last = (new, subst (λ (t : List (List ℕ)). IsThen log m uses t new) first last, refl)
  brought-one log (x ∷ ms) m uses old mid new first last = (
    first.0,
    first.1,
    brought-one log ms m (uses_past (accepted_in c x.seen) uses) first.0 mid new first.2
        (subst (λ (us : List CurrentUse). IsThen log m us mid new) (past-both (accepted_in c x.seen) (met_accepted c ms) uses) last),
  )

  pub brought-split : (log : RunLog) (ms : List MetSecond) (m : MetSecond) (uses : List CurrentUse) (old new : List (List ℕ)) → AreBrought c own images kind log (ms ++ m ∷ []) uses old new →
      (mid : List (List ℕ)) × AreBrought c own images kind log ms uses old mid
      × IsBrought images kind (is_sure_in c kind log m.seen) (bringing c own m (unclosed_by (uses_past (met_accepted c ms) uses) (accepted_in c m.seen))) mid new
  brought-split log [] m uses old new h = (old, refl, subst (λ (t : List (List ℕ)). IsThen log m uses old t) (sym h.2) h.1)
  brought-split log (x ∷ ms) m uses old new h =
      let rest = brought-split log ms m (uses_past (accepted_in c x.seen) uses) h.0 new h.2 in
      (rest.0, (h.0, h.1, rest.1), subst (λ (us : List CurrentUse). IsThen log m us rest.0 new) (sym (past-both (accepted_in c x.seen) (met_accepted c ms) uses)) rest.2)

  -- the acceptances of the first of some seconds
  first-uses : (m : MetSecond) (ms : List MetSecond) (vs : List ℕ) (uses : List CurrentUse) → AreUses images uses (met_accepted c (m ∷ ms) ++ vs) → AreUses images uses (accepted_in c m.seen ++ (met_accepted c ms ++ vs))
  first-uses m ms vs uses are = subst (AreUses images uses) (append_assoc (accepted_in c m.seen) (met_accepted c ms) vs) are

  -- with more uses, which are found later
  pub brought-longer : (log : RunLog) (ms : List MetSecond) (vs : List ℕ) (uses more : List CurrentUse) (old new : List (List ℕ)) → AreUses images uses (met_accepted c ms ++ vs) → AreBrought c own images kind log ms uses old new → AreBrought c own images kind log ms (uses ++ more) old new
  brought-longer log [] vs uses more old new are h = h
  brought-longer log (m ∷ ms) vs uses more old new are h =
      let all : AreUses images uses (accepted_in c m.seen ++ (met_accepted c ms ++ vs)) = first-uses m ms vs uses are in (
        h.0,
        subst (λ (es : List CardEvent). IsBrought images kind (is_sure_in c kind log m.seen) (bringing c own m es) old h.0) (sym (unclosed-longer images (accepted_in c m.seen) (met_accepted c ms ++ vs) uses more all)) h.1,
        subst (λ (us : List CurrentUse). AreBrought c own images kind log ms us h.0 new) (sym (past-longer images (accepted_in c m.seen) (met_accepted c ms ++ vs) uses more all))
            (brought-longer log ms vs (uses_past (accepted_in c m.seen) uses) more h.0 new (uses-past images (accepted_in c m.seen) (met_accepted c ms ++ vs) uses all) h.2),
      )

  -- by a log that is sure of no more
  pub brought-later : (log later : RunLog) → IsSureOfLess c kind log later → (ms : List MetSecond) (vs : List ℕ) (uses : List CurrentUse) (old new : List (List ℕ)) → AreUses images uses (met_accepted c ms ++ vs) → AreBrought c own images kind log ms uses old new → AreBrought c own images kind later ms uses old new
  brought-later log later less [] vs uses old new are h = h
  brought-later log later less (m ∷ ms) vs uses old new are h =
      let all : AreUses images uses (accepted_in c m.seen ++ (met_accepted c ms ++ vs)) = first-uses m ms vs uses are in (
        h.0,
        brought-less images kind (is_sure_in c kind log m.seen) (is_sure_in c kind later m.seen) (less m.seen) (bringing c own m (unclosed_by uses (accepted_in c m.seen))) old h.0
            (known-of images c m.seen (met_accepted c ms ++ vs) uses all) h.1,
        brought-later log later less ms vs (uses_past (accepted_in c m.seen) uses) h.0 new (uses-past images (accepted_in c m.seen) (met_accepted c ms ++ vs) uses all) h.2,
      )

  -- and that tells more of the interruptions
  gap-goes : (later : RunLog) (x : Seen) (gap now : List Event) (us : List CardEvent) (old new : List (List ℕ)) → GapGoes c own later x gap now → IsBrought images kind (is_sure_in c kind later x) (bringing c own (record { seen = x; gap = gap }) us) old new →
      IsBrought images kind (is_sure_in c kind later x) (bringing c own (record { seen = x; gap = now }) us) old new
  gap-goes later x gap now us old new (inl same) h =
      subst (λ (gs : List CardEvent). IsBrought images kind (is_sure_in c kind later x) (record (bringing c own (record { seen = x; gap = gap }) us) { gaps = gs }) old new) (sym same) h
  gap-goes later x gap now us old new (inr none) h =
      brought-gap images kind (is_sure_in c kind later x) (bringing c own (record { seen = x; gap = gap }) us) (gaps_on c own now)
      (λ is. let same : kind ≡ POWER_INTERRUPTION = eqb-true kind POWER_INTERRUPTION is in ap (λ (k : ℕ). is_sure_in c k later x) same ∙ none.1) none.0 old new h

  pub brought-told : (log later : RunLog) → IsSureOfLess c kind log later → (behind xs : List Seen) (vs : List ℕ) (uses : List CurrentUse) (old new : List (List ℕ)) → AreUses images uses (accepted_on c xs ++ vs) → GapsGo c own log later behind xs →
      AreBrought c own images kind log (met_behind log behind xs) uses old new → AreBrought c own images kind later (met_behind later behind xs) uses old new
  brought-told log later less behind [] vs uses old new are go h = h
  brought-told log later less behind (x ∷ xs) vs uses old new are go h =
      let gap : List Event = gap_by as_accepted log (seen_spans behind) x in
      let now : List Event = gap_by as_accepted later (seen_spans behind) x in
      let us : List CardEvent = unclosed_by uses (accepted_in c x) in
      let all : AreUses images uses (accepted_in c x ++ (accepted_on c xs ++ vs)) = subst (AreUses images uses) (append_assoc (accepted_in c x) (accepted_on c xs) vs) are in (
        h.0,
        gap-goes later x gap now us old h.0 go.0
            (brought-less images kind (is_sure_in c kind log x) (is_sure_in c kind later x) (less x) (bringing c own (record { seen = x; gap = gap }) us) old h.0 (known-of images c x (accepted_on c xs ++ vs) uses all) h.1),
        brought-told log later less (behind ++ x ∷ []) xs vs (uses_past (accepted_in c x) uses) h.0 new (uses-past images (accepted_in c x) (accepted_on c xs ++ vs) uses all) go.1 h.2,
      )

-- by images of which there are no fewer
pub brought-images : (c : Card) (own : Registration) (images later : List ℕ → Type 0) → ((x : List ℕ) → images x → later x) → (kind : ℕ) (log : RunLog) (ms : List MetSecond) (uses : List CurrentUse) (old new : List (List ℕ)) →
    AreBrought c own images kind log ms uses old new → AreBrought c own later kind log ms uses old new
brought-images c own images later on kind log [] uses old new h = h
brought-images c own images later on kind log (m ∷ ms) uses old new h = (
  h.0,
  brought-still images later on kind (is_sure_in c kind log m.seen) (bringing c own m (unclosed_by uses (accepted_in c m.seen))) old h.0 h.1,
  brought-images c own images later on kind log ms (uses_past (accepted_in c m.seen) uses) h.0 new h.2,
)
