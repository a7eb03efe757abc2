-- What messages tell, and one more.
use Rattle.std.proofs.Common.{◌≡◌, ◌∙◌, ℕ, ◌++◌, List, [], ◌∷◌, map, refl, ap, sym, append_assoc, append-nil, ◌<◌, ◌≤◌, length, get_or, drop, arith}
use Rattle.link_model.specs.declared.request.Request.TheVariants.{Day as AskDay, Events as AskEvents}
use Rattle.message_model.specs.Messages.{Message, EventMessage, AnOverview, ADay, AnEventList, ASpeedList, ATechnical}
use Rattle.unit_messages.specs.Reading.{request_of}
use Rattle.view_model.specs.declared.marks.Gap.{Gap}
use Rattle.file_view.specs.UnitFiles.{days_told}
use Rattle.unit_marks.specs.declared.marks.Midnight.{Midnight}
use Rattle.unit_marks.specs.Marks.{gap_of, gaps_of, gaps_told, midnight_of, gained, gains_of}

pub gaps_more : (ms : List Message) (m : Message) → gaps_told (ms ++ m ∷ []) ≡ gaps_told ms ++ gaps_told (m ∷ [])
gaps_more [] m = refl
gaps_more (AnOverview x ∷ ms) m = gaps_more ms m
gaps_more (ADay x ∷ ms) m = gaps_more ms m
gaps_more (AnEventList x ∷ ms) m = ap (λ (l : List Gap). gaps_of x.events ++ l) (gaps_more ms m) ∙ sym (append_assoc (gaps_of x.events) (gaps_told ms) (gaps_told (m ∷ [])))
gaps_more (ASpeedList x ∷ ms) m = gaps_more ms m
gaps_more (ATechnical x ∷ ms) m = gaps_more ms m

abbrev pub midnights_told : List Message → List Midnight
midnights_told ms = map midnight_of (days_told ms)

pub midnights_more : (ms : List Message) (m : Message) → midnights_told (ms ++ m ∷ []) ≡ midnights_told ms ++ midnights_told (m ∷ [])
midnights_more [] m = refl
midnights_more (AnOverview x ∷ ms) m = midnights_more ms m
midnights_more (ADay x ∷ ms) m = ap (λ (l : List Midnight). midnight_of x ∷ l) (midnights_more ms m)
midnights_more (AnEventList x ∷ ms) m = midnights_more ms m
midnights_more (ASpeedList x ∷ ms) m = midnights_more ms m
midnights_more (ATechnical x ∷ ms) m = midnights_more ms m

-- the message that answers the request for events, and the others
pub events_asked : (m : Message) → AskEvents ≡ request_of m → (e : EventMessage) × (m ≡ AnEventList e)
events_asked (AnOverview o) is = absurd (cc)
events_asked (ADay d) is = absurd (cc)
events_asked (AnEventList x) is = (x, refl)
events_asked (ASpeedList x) is = absurd (cc)
events_asked (ATechnical x) is = absurd (cc)

pub others_asked : (m : Message) → (AskEvents ≡ request_of m → ⊥) → gaps_told (m ∷ []) ≡ []
others_asked (AnOverview o) no_events = refl
others_asked (ADay d) no_events = refl
others_asked (AnEventList x) no_events = absurd (no_events refl)
others_asked (ASpeedList x) no_events = refl
others_asked (ATechnical x) no_events = refl

-- the gaps of events and of one more
pub gaps_of_more : (events : List (List ℕ)) (event : List ℕ) → gaps_of (events ++ event ∷ []) ≡ gaps_of events ++ gap_of event
gaps_of_more [] event = append-nil (gap_of event)
gaps_of_more (e ∷ events) event = ap (λ (l : List Gap). gap_of e ++ l) (gaps_of_more events event) ∙ sym (append_assoc (gap_of e) (gaps_of events) (gap_of event))

pub no_day_asked : (m : Message) → ((date : ℕ) → AskDay date ≡ request_of m → ⊥) → midnights_told (m ∷ []) ≡ []
no_day_asked (AnOverview o) none = refl
no_day_asked (ADay d) none = absurd (none d.date refl)
no_day_asked (AnEventList x) none = refl
no_day_asked (ASpeedList x) none = refl
no_day_asked (ATechnical x) none = refl

-- what the first of some midnights tells, and that of one alone
pub first_gained : (rest : List Midnight) (d : Midnight) → 1 < length rest → gains_of rest ≡ gained (get_or rest 0 d) (get_or rest 1 d) ++ gains_of (drop 1 rest)
first_gained [] d long = absurd (omega arith)
first_gained (day ∷ []) d long = absurd (omega arith)
first_gained (day ∷ next ∷ rest) d long = refl

pub none_gained : (rest : List Midnight) → length rest ≤ 1 → gains_of rest ≡ []
none_gained [] short = refl
none_gained (day ∷ []) short = refl
none_gained (day ∷ next ∷ rest) short = absurd (omega (arith, short))
