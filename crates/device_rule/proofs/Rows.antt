-- Worked rows: from which minute on an entry may come on a card.
use Rattle.std.proofs.Common.{◌≡◌, ℕ, false, [], ◌∷◌, refl}
use Rattle.activity_codec.specs.declared.entries.Entry.{Entry}
use Rattle.activity_codec.specs.declared.values.Slot.TheVariants.{Driver}
use Rattle.activity_codec.specs.declared.values.Activity.TheVariants.{Work}
use Rattle.history_model.specs.Presence.{CardStart}
use Rattle.card_image.specs.View.{CardView}
use Rattle.device_rule.specs.Rules.{Out, In, Torn, comes_from}

abbrev at : ℕ → Entry
at minute = record { minute = minute; slot = Driver; crew = false; act = Work }

-- a card with an open session and entries up to 10:00, whose closing word is still to come
abbrev card : CardView
card = record { held = record { days = []; entries = [] }; mark = 21123960; session = 1267437600; newest = 21123961; word = 21123960; stored = 1267437600 }

abbrev start : CardStart
start = record { entries = []; owed = []; mark = 21123000; word = 0 }

-- of a card that is out the next entry comes behind its newest minute, since there a closing word is written
out_row : comes_from start Out [] card ≡ 21123962
out_row = refl

-- of one that was accepted, behind the last entry, at 10:01 too
in_row : comes_from start (In 1267437600 21123960) [] card ≡ 21123961
in_row = refl

-- and where an entry is owed, that one comes first
owed_row : comes_from start (Torn 1267437600 21123962 21123962) (at 21123962 ∷ at 21123963 ∷ []) card ≡ 21123962
owed_row = refl

-- words behind the end mark of a closed card count too
word_row : comes_from (record start { word = 21123990 }) Out [] card ≡ 21123991
word_row = refl
