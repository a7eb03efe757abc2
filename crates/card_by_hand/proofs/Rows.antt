-- Worked rows: the days of a card at a session's first keep behind entries by hand.
use Rattle.std.proofs.Common.{◌≡◌, false, List, [], ◌∷◌, refl}
use Rattle.activity_codec.specs.declared.values.Activity.TheVariants.{Rest, Work}
use Rattle.activity_codec.specs.declared.values.Slot.TheVariants.{Driver}
use Rattle.activity_codec.specs.declared.entries.Entry.{Entry}
use Rattle.card_session.specs.card_model.Days.{Day, len_of}
use Rattle.card_session.specs.card_model.Changes.{trimmed}
use Rattle.card_session.specs.Books.{gap_closed, entered_days}
use Rattle.card_session.specs.ByHand.{with_word_at}
use Rattle.activity_codec.specs.declared.entries.Manual.{Manual}
use Rattle.hand_model.specs.Manual.{manual_word}

-- 2010-03-01: work from 05:00 on by hand, and rest in the slot from 06:00 on
abbrev early : Manual
early = record { minute = 21123660; slot = Driver; act = Work }

abbrev rest : Entry
rest = record { minute = 21123720; slot = Driver; crew = false; act = Rest }

abbrev day : Day
day = record { date = 1267401600; counter = 1; km = 0; words = 0x2000 ∷ 0x712C ∷ [] }

abbrev after_it : List Day
after_it = with_word_at 13776 21123660 (manual_word early) []

-- of a blank card: its word begins the day, behind one of no card
its_day : after_it ≡ day ∷ []
its_day = refl

-- and the entry's word follows
its_keep : entered_days 13776 rest (gap_closed 13776 0 21123720 after_it) ≡ record { date = 1267401600; counter = 1; km = 0; words = 0x2000 ∷ 0x712C ∷ 0x0168 ∷ [] } ∷ []
its_keep = refl

-- until the end mark moves a repair cuts the whole day
its_repair : trimmed 0 (entered_days 13776 rest (gap_closed 13776 0 21123720 after_it)) ≡ []
its_repair = refl

-- at midnight it begins the day alone; a second one follows it
two_of_a_day : with_word_at 13776 21123361 0x7001 (with_word_at 13776 21123360 0x7000 []) ≡ record { date = 1267401600; counter = 1; km = 0; words = 0x7000 ∷ 0x7001 ∷ [] } ∷ []
two_of_a_day = refl

-- the most that a first keep writes and a repair cuts again: a day of ten words
ten_words : len_of (record { date = 1267401600; counter = 1; km = 0; words = 0 ∷ 1 ∷ 2 ∷ 3 ∷ 4 ∷ 5 ∷ 6 ∷ 7 ∷ 8 ∷ 9 ∷ [] }) ≡ 32
ten_words = refl
