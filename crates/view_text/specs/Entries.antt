-- What a card shows of an entry.
use Rattle.activity_codec.specs.declared.entries.Entry.{Entry}
use Rattle.view_model.specs.declared.CardShown.{CardShown}
use Rattle.view_model.specs.declared.Viewed.{Viewed}

-- its slot, its activity and CREW
abbrev pub entry_shown : Entry → Viewed CardShown
entry_shown e = record { minute = e.minute; shown = record { slot = e.slot; act = e.act; crew = e.crew } }
