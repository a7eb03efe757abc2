-- What a card in a slot does about a packet.
use Rattle.std.specs.Prelude.{◌≡◌, ℕ, ◌+◌, ◌≤◌, ◌==◌, nat_lt, if◌then◌else◌, List, [], ◌∷◌, ◌++◌, Option, option_map}
use Rattle.std.specs.Prelude.{Some, is_some, true}
use Rattle.card_layout.specs.declared.command.CardState.{CardState}
use Rattle.card_layout.specs.Images.{put}
use Rattle.card_layout.specs.Outcomes.{Effect, nothing, gives, puts, outcome_of, IsAnswered, after_reset}
use Rattle.tach_media.specs.Medium.{State, Rose, IsPartlyWritten}
use Rattle.card_service.specs.declared.serving.Asked.{Asked}
use Rattle.card_service.specs.declared.serving.Asked.TheVariants.{Reset, AnswerToReset, Command}

-- a card at a moment: its image, where it tells it; how many writes were begun; and by what it answers
pub record Card : Type 0 where
  pub image : Option (List ℕ)
  pub clock : ℕ
  pub state : CardState

-- a card as a chip tells of it
abbrev pub card_told : State → CardState → Card
card_told s state = record { image = s.image; clock = s.clock; state = state }

-- the image behind a command: an UPDATE BINARY that is done has put its bytes, and every other one leaves it
abbrev pub image_behind : Effect → Option (List ℕ) → Option (List ℕ)
image_behind nothing image = image
image_behind (gives file offset len) image = image
image_behind (puts place bytes) image = option_map (put place bytes) image

-- how many writes begin: of an UPDATE BINARY that is done one, unless that count stands at its last value; of every
-- other command none
abbrev pub Begins : Effect → (before behind : ℕ) → Type 0
Begins nothing before behind = behind ≡ before
Begins (gives file offset len) before behind = behind ≡ before
Begins (puts place bytes) before behind = Rose before behind × (behind ≤ before + 1)

-- A COMMAND is answered by the tables, and has done what they say.
pub record IsDone (command : List ℕ) (old new : Card) (answer : List ℕ) : Type 0 where
  pub answered : IsAnswered command old.image old.state new.state answer
  pub image : new.image ≡ image_behind (outcome_of old.state command).effect old.image
  pub begins : Begins (outcome_of old.state command).effect old.clock new.clock

-- the answer to reset: direct convention, no interface byte, so T=0 alone, and no historical byte (ISO/IEC 7816-3)
abbrev pub answer_to_reset : List ℕ
answer_to_reset = 0x3B ∷ 0x00 ∷ []

-- the answer to a command at which the card's memory failed (Appendix 2)
abbrev pub memory_failed : List ℕ
memory_failed = 0x65 ∷ 0x81 ∷ []

-- what a packet of one byte asks for: 0, 1 and 2, power off, power on and reset, reset the card, and 4 asks for the
-- answer to reset
abbrev pub asked_by_word : ℕ → Asked
asked_by_word word = if nat_lt 2 word then (if word == 4 then AnswerToReset else Command) else Reset

-- what a packet asks for: each but these four is a command
abbrev pub asked_by : List ℕ → Asked
asked_by [] = Command
asked_by (word ∷ []) = asked_by_word word
asked_by (class ∷ instruction ∷ rest) = Command

-- what a packet that asks so does to the card, and what goes back
abbrev pub HearsAs : Asked → Card → (packet : List ℕ) → Card → (answers : List (List ℕ)) → Type 0
HearsAs Reset old p new answers = (new ≡ record old { state = after_reset old.state }) × (answers ≡ [])
HearsAs AnswerToReset old p new answers = (new ≡ old) × (answers ≡ answer_to_reset ∷ [])
HearsAs Command old p new answers = (answer : List ℕ) × IsDone p old new answer × (answers ≡ answer ∷ [])

-- WHAT A PACKET DOES to the card, and what goes back
abbrev pub Hears : Card → (packet : List ℕ) → Card → (answers : List (List ℕ)) → Type 0
Hears old p new answers = HearsAs (asked_by p) old p new answers

-- THE ANSWERS to packets, one after the other
abbrev pub Serves : Card → (packets : List (List ℕ)) → Card → (answers : List (List ℕ)) → Type 0
Serves old [] new answers = (new ≡ old) × (answers ≡ [])
Serves old (p ∷ packets) new answers =
    (mid : Card) × (first : List (List ℕ)) × (rest : List (List ℕ))
    × Hears old p mid first × Serves mid packets new rest × (answers ≡ first ++ rest)

-- the card failed at a packet that asks so, and what goes back: nothing behind a reset, and 65 81 behind a command, of
-- which one write was begun at most
abbrev pub FailsAs : Asked → Card → Card → (answers : List (List ℕ)) → Type 0
FailsAs Reset old new answers = (new.state ≡ after_reset old.state) × (new.clock ≡ old.clock) × (answers ≡ [])
FailsAs AnswerToReset old new answers = ⊥
FailsAs Command old new answers = (new.state ≡ old.state) × (new.clock ≤ old.clock + 1)
    × (answers ≡ memory_failed ∷ [])

-- an image that a stop inside a command leaves: of an UPDATE BINARY the bytes are written in part
abbrev pub PartlyBy : Effect → (image : Option (List ℕ)) → List ℕ → Type 0
PartlyBy nothing image c = ⊥
PartlyBy (gives file offset len) image c = ⊥
PartlyBy (puts place bytes) image c = (x : List ℕ) × (image ≡ Some x) × IsPartlyWritten place bytes x c

-- an image that a stop inside a packet leaves: of a word to the slot none
abbrev pub LeavesAt : Card → (packet : List ℕ) → List ℕ → Type 0
LeavesAt card p c = (asked_by p ≡ Command) × PartlyBy (outcome_of card.state p).effect card.image c

-- the image that a reset leaves: that of a card that works stays, and of another one a stop might have left it
pub record IsRevived (old : State) (image : Option (List ℕ)) : Type 0 where
  pub same : old.works ≡ true → image ≡ old.image
  pub left : (x : List ℕ) → image ≡ Some x → old.may_leave x
  pub tells : is_some image ≡ is_some old.image
