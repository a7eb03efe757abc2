-- What messages tell of speeds, and one more.
use Rattle.std.proofs.Common.{◌≡◌, ◌∙◌, ℕ, ◌++◌, List, [], ◌∷◌, map, refl, ap, sym, append_assoc}
use Rattle.link_model.specs.declared.request.Request.TheVariants.{Speed as AskSpeed}
use Rattle.message_model.specs.Messages.{Message, SpeedMessage, AnOverview, ADay, AnEventList, ASpeedList, ATechnical}
use Rattle.unit_messages.specs.Reading.{request_of}
use Rattle.unit_speeds.specs.declared.line.SpeedLine.{SpeedLine}
use Rattle.unit_speeds.specs.Speeds.{line_of, speeds_told}

pub speeds_more : (ms : List Message) (m : Message) → speeds_told (ms ++ m ∷ []) ≡ speeds_told ms ++ speeds_told (m ∷ [])
speeds_more [] m = refl
speeds_more (AnOverview x ∷ ms) m = speeds_more ms m
speeds_more (ADay x ∷ ms) m = speeds_more ms m
speeds_more (AnEventList x ∷ ms) m = speeds_more ms m
speeds_more (ASpeedList x ∷ ms) m =
    ap (λ (l : List SpeedLine). map line_of x.blocks ++ l) (speeds_more ms m) ∙ sym (append_assoc (map line_of x.blocks) (speeds_told ms) (speeds_told (m ∷ [])))
speeds_more (ATechnical x ∷ ms) m = speeds_more ms m

-- the message that answers the request for detailed speed, and the others
pub speeds_asked : (m : Message) → AskSpeed ≡ request_of m → (s : SpeedMessage) × (m ≡ ASpeedList s)
speeds_asked (AnOverview o) is = absurd (cc)
speeds_asked (ADay d) is = absurd (cc)
speeds_asked (AnEventList x) is = absurd (cc)
speeds_asked (ASpeedList x) is = (x, refl)
speeds_asked (ATechnical x) is = absurd (cc)

pub others_asked : (m : Message) → (AskSpeed ≡ request_of m → ⊥) → speeds_told (m ∷ []) ≡ []
others_asked (AnOverview o) none = refl
others_asked (ADay d) none = refl
others_asked (AnEventList x) none = refl
others_asked (ASpeedList x) none = absurd (none refl)
others_asked (ATechnical x) none = refl

-- what is told of blocks and of one more
pub told_more : (blocks : List (List ℕ)) (block : List ℕ) → map line_of (blocks ++ block ∷ []) ≡ map line_of blocks ++ line_of block ∷ []
told_more [] block = refl
told_more (x ∷ blocks) block = ap (λ (l : List SpeedLine). line_of x ∷ l) (told_more blocks block)
