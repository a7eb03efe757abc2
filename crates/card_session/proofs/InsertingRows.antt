-- Worked rows of an insertion: a card that was torn out in minute 601, with the word of that minute behind its end mark.
use Rattle.std.proofs.Common.{◌≡◌, ◌+◌, List, [], ◌∷◌, refl}
use Rattle.activity_codec.specs.declared.values.Activity.TheVariants.{Rest}
use Rattle.activity_codec.specs.declared.entries.Entry.{Entry}
use Rattle.card_session.specs.Books.{Book, closed}
use Rattle.card_session.specs.Inserting.{lacked, replayed_count, with_cut, repaired}
use Rattle.card_session.proofs.Rows.{midnight, day, this_vehicle, using, work, first}

-- three minutes are owed, the first of which it has
abbrev owed : List Entry
owed = work 600 ∷ work 601 ∷ work 603 ∷ []

two_are_lacked : lacked (midnight + 600) owed ≡ work 601 ∷ work 603 ∷ []
two_are_lacked = refl

-- with a session that was left open they are replayed, and none without one
two_replayed : replayed_count 1267437600 (midnight + 600) owed ≡ 2
two_replayed = refl

none_replayed : replayed_count 0 (midnight + 600) owed ≡ 0
none_replayed = refl

-- the word of driving behind the end mark is cut
abbrev torn : Book
torn = record { days = day 0 (0x2000 ∷ 0x1258 ∷ 0x1A59 ∷ []) ∷ []; vehicles = using 100 600 }

the_cut : with_cut (midnight + 600) torn ≡ first
the_cut = refl

-- the lacked minutes follow, without a km: the first tells the state that the card tells, the second follows a gap
abbrev mended : Book
mended = record { days = day 0 (0x2000 ∷ 0x1258 ∷ 0x225A ∷ 0x125B ∷ []) ∷ []; vehicles = using 104 603 }

the_repair : repaired 5544 this_vehicle 104 owed torn ≡ mended
the_repair = refl

-- and the closing word, with the end mark at it
abbrev shut : Book
shut = record { days = day 0 (0x2000 ∷ 0x1258 ∷ 0x225A ∷ 0x125B ∷ 0x225C ∷ []) ∷ []; vehicles = using 104 604 }

the_closing : closed 5544 Rest mended ≡ shut
the_closing = refl
