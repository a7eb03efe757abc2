-- The marks that messages tell, and one more.
use Rattle.std.proofs.Common.{◌≡◌, ◌∙◌, ℕ, ◌++◌, List, [], ◌∷◌, map, refl, ap, sym, append_assoc}
use Rattle.link_model.specs.declared.request.Request.TheVariants.{Day as AskDay, Events as AskEvents}
use Rattle.message_model.specs.Messages.{Message, AnOverview, ADay, AnEventList, ASpeedList, ATechnical}
use Rattle.unit_messages.specs.Reading.{request_of}
use Rattle.view_model.specs.declared.marks.Mark.{Mark}
use Rattle.unit_marks.specs.declared.entries.Kind.{Kind}
use Rattle.unit_marks.specs.Entries.{mark_of, place_marks, event_marks, marks_told}

pub marks_more : (ms : List Message) (m : Message) → marks_told (ms ++ m ∷ []) ≡ marks_told ms ++ marks_told (m ∷ [])
marks_more [] m = refl
marks_more (AnOverview x ∷ ms) m = marks_more ms m
marks_more (ADay x ∷ ms) m = ap (λ (l : List Mark). place_marks x ++ l) (marks_more ms m) ∙ sym (append_assoc (place_marks x) (marks_told ms) (marks_told (m ∷ [])))
marks_more (AnEventList x ∷ ms) m = ap (λ (l : List Mark). event_marks x ++ l) (marks_more ms m) ∙ sym (append_assoc (event_marks x) (marks_told ms) (marks_told (m ∷ [])))
marks_more (ASpeedList x ∷ ms) m = marks_more ms m
marks_more (ATechnical x ∷ ms) m = marks_more ms m

-- the messages that answer other requests tell none
pub none_asked : (m : Message) → ((date : ℕ) → AskDay date ≡ request_of m → ⊥) → (AskEvents ≡ request_of m → ⊥) → marks_told (m ∷ []) ≡ []
none_asked (AnOverview o) no_day no_events = refl
none_asked (ADay d) no_day no_events = absurd (no_day d.date refl)
none_asked (AnEventList x) no_day no_events = absurd (no_events refl)
none_asked (ASpeedList x) no_day no_events = refl
none_asked (ATechnical x) no_day no_events = refl

-- the marks of entries, and of one more
pub mapped_more : (kind : Kind) (entries : List (List ℕ)) (entry : List ℕ) → map (mark_of kind) (entries ++ entry ∷ []) ≡ map (mark_of kind) entries ++ mark_of kind entry ∷ []
mapped_more kind [] entry = refl
mapped_more kind (e ∷ entries) entry = ap (λ (l : List Mark). mark_of kind e ∷ l) (mapped_more kind entries entry)

pub three_lists : (t a b c : List Mark) → ((t ++ a) ++ b) ++ c ≡ t ++ ((a ++ b) ++ c)
three_lists t a b c = simp append_assoc
