-- Worked rows of entries by hand.
use Rattle.std.proofs.Common.{◌≡◌, [], ◌∷◌, refl}
use Rattle.activity_codec.specs.declared.values.Activity.TheVariants.{Rest, Available, Work}
use Rattle.activity_codec.specs.declared.values.Slot.TheVariants.{Driver, CoDriver}
use Rattle.card_image.specs.card_model.Days.{Day}
use Rattle.activity_codec.specs.declared.entries.Manual.{Manual}
use Rattle.hand_model.specs.Manual.{manual_word}
use Rattle.hand_model.specs.ByHand.{words_by_hand, by_hand_up_to}
use Rattle.hand_model.specs.Counted.{and_by_hand}

-- work from 05:00 on of 2010-03-01, entered by hand for the driver's slot
abbrev early : Manual
early = record { minute = 21123660; slot = Driver; act = Work }

its_word : manual_word early ≡ 0x712C
its_word = refl

-- the day that an insertion at 06:00 begins with it, and the first entry of the session, rest
abbrev day : Day
day = record { date = 1267401600; counter = 1; km = 0; words = 0x2000 ∷ 0x712C ∷ 0x0168 ∷ [] }

-- once the end mark is at the entry of 06:00, the entry by hand counts
shown : by_hand_up_to 21123720 (day ∷ []) ≡ early ∷ []
shown = refl

-- up to a mark of the day before it does not
hidden : by_hand_up_to 21123359 (day ∷ []) ≡ []
hidden = refl

-- a word of no card is none, nor is an entry's word, of crew or not
others : words_by_hand 21123720 1267401600 (0x2000 ∷ 0x0168 ∷ 0x4169 ∷ 0xA16A ∷ []) ≡ []
others = refl

-- three of one day: its expected words are three more, and those of another day as they were
counted : and_by_hand (early ∷ record { minute = 21123661; slot = CoDriver; act = Rest } ∷ record { minute = 21123662; slot = Driver; act = Available } ∷ [])
    (record { day = 14668; words = 4 } ∷ record { day = 14669; words = 2 } ∷ [])
    ≡ record { day = 14668; words = 4 } ∷ record { day = 14669; words = 5 } ∷ []
counted = refl
