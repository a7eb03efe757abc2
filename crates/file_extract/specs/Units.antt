-- What of a unit's download is whole and of the first generation (Annex IB, Appendix 7, 2.2.6).
use Rattle.std.specs.Prelude.{◌≡◌, ℕ, ◌≤◌, List, ◌++◌, length, map, take, drop, All}
use Rattle.card_layout.specs.Fields.{joined}
use Rattle.message_model.specs.Messages.{Message, message_bytes, IsMessage, IsUnitFile}
use Rattle.file_view.specs.UnitFiles.{HasNoMessage}

-- these messages stand at the front of the bytes, up to a place, and no message stands there
pub record IsUnitFront (bytes : List ℕ) (end : ℕ) (messages : List Message) : Type 0 where
  pub each : All IsMessage messages
  pub spelled : bytes ≡ joined (map message_bytes messages) ++ drop end bytes
  pub end_is : end ≡ length (joined (map message_bytes messages))
  pub inside : end ≤ length bytes
  pub ends : HasNoMessage (drop end bytes)

-- the bytes up to this place are passed on: they are a unit file, and no message stands behind them
pub record IsUnitPart (bytes : List ℕ) (end : ℕ) : Type 0 where
  pub messages : List Message
  pub front : IsUnitFront bytes end messages
  pub file : IsUnitFile messages (take end bytes)
