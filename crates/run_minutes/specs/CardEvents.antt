-- Calls that leave the events of a card, its current use and its places as they are (profile).
use Rattle.std.specs.Prelude.{◌≡◌, ℕ, List}
use Rattle.tach_media.specs.Medium.{State}
use Rattle.tach_media.specs.card_layout.declared.files.Application.{Application}
use Rattle.hand_model.specs.card_image.Fields.{file_bytes}

-- CALLS LEAVE THE EVENTS OF A CARD of these sizes as they are: each image that it may leave behind them has those of
-- one before, its current use and its places
abbrev pub LeavesEvents : Application → (old new : State) → Type 0
LeavesEvents app old new = (c : List ℕ) → new.may_leave c
    → (x : List ℕ) × old.may_leave x × (file_bytes app 0x0502 c ≡ file_bytes app 0x0502 x)
    × (file_bytes app 0x0507 c ≡ file_bytes app 0x0507 x) × (file_bytes app 0x0506 c ≡ file_bytes app 0x0506 x)
