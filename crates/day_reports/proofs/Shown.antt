-- What is shown of a history is what its lines stand for.
use Rattle.std.proofs.Common.{◌≡◌, ◌∙◌, List, map, ap, sym}
use Rattle.activity_codec.specs.declared.entries.Entry.{Entry}
use Rattle.unit_model.specs.Days.{UnitMinute}
use Rattle.view_model.specs.declared.UnitShown.{UnitShown}
use Rattle.view_model.specs.declared.CardShown.{CardShown}
use Rattle.view_model.specs.declared.Viewed.{Viewed}
use Rattle.view_text.specs.Entries.{entry_shown}
use Rattle.file_view.specs.Histories.{minute_shown, minute_told, entry_told}
use Rattle.file_view.proofs.Lines.{told_shown, told_entries}

pub unit_shown : (minutes : List (Viewed UnitShown)) (told : List UnitMinute) → map minute_told minutes ≡ told → minutes ≡ map minute_shown told
unit_shown minutes told is = sym (told_shown minutes) ∙ ap (λ (l : List UnitMinute). map minute_shown l) is

pub card_shown : (minutes : List (Viewed CardShown)) (told : List Entry) → map entry_told minutes ≡ told → minutes ≡ map entry_shown told
card_shown minutes told is = sym (told_entries minutes) ∙ ap (λ (l : List Entry). map entry_shown l) is
