-- The text of a file in pieces, each of which is made by itself (profile).
use Rattle.std.specs.Prelude.{ℕ, ◌+◌, ◌≤◌, ◌≡◌, Bool, true, false, if◌then◌else◌, List, [], ◌∷◌, ◌++◌, length, drop}
use Rattle.std.specs.Prelude.{slice_index, codes}
use Rattle.byteorder.specs.Endian.{big_number}
use Rattle.card_layout.specs.Images.{bytes_at}
use Rattle.card_image.specs.CardFile.{FileEntry}
use Rattle.link_model.specs.declared.request.Request.{Request}
use Rattle.link_model.specs.declared.request.Request.TheVariants.{Overview as AskOverview, Day as AskDay}
use Rattle.link_model.specs.declared.request.Request.TheVariants.{Events as AskEvents, Speed as AskSpeed}
use Rattle.link_model.specs.declared.request.Request.TheVariants.{Technical as AskTechnical}
use Rattle.message_model.specs.Messages.{Message as FileMessage, IsMessage, message_bytes}
use Rattle.file_view.specs.declared.places.MessageAt.{MessageAt}
use Rattle.json.specs.Print.{print}
use Rattle.json.specs.Tree.{json_tokens}
use Rattle.file_json.specs.declared.pieces.Piece.{Piece}
use Rattle.file_json.specs.declared.pieces.Piece.TheVariants.{UnitBegin, CardBegin, Message, File, Comma, End}
use Rattle.file_json.specs.Units.{message_shown}
use Rattle.file_json.specs.Cards.{entry_shown}

-- the file of a card that is spelled by these bytes
abbrev pub entry_in : List ℕ → FileEntry
entry_in bytes = record { fid = big_number 2 bytes; kind = slice_index bytes 2; value = drop 5 bytes }

-- THE TEXT OF A PIECE
abbrev pub piece_text : List ℕ → Piece → List ℕ
piece_text b UnitBegin = codes "{\"file\":\"unit\",\"messages\":["
piece_text b CardBegin = codes "{\"file\":\"card\",\"files\":["
piece_text b (Message place len) = print (json_tokens (message_shown place (bytes_at b place len)))
piece_text b (File place len last) = print (json_tokens (entry_shown last place (entry_in (bytes_at b place len))))
piece_text b Comma = 44 ∷ []
piece_text b End = codes "]}\n"

-- and of pieces, one after the other
abbrev pub pieces_text : List ℕ → List Piece → List ℕ
pieces_text b [] = []
pieces_text b (p ∷ ps) = piece_text b p ++ pieces_text b ps

-- the message or the file of a piece stands there whole
abbrev pub IsPiece : List ℕ → Piece → Type 0
IsPiece b UnitBegin = Unit {0}
IsPiece b CardBegin = Unit {0}
IsPiece b (Message place len) = (place + len ≤ length b)
    × ((m : FileMessage) × IsMessage m × (bytes_at b place len ≡ message_bytes m))
IsPiece b (File place len last) = (place + len ≤ length b) × (5 ≤ len)
IsPiece b Comma = Unit {0}
IsPiece b End = Unit {0}

-- a message or a file, with a comma in front of it where another one stands there
abbrev pub item_pieces : (after : Bool) → Piece → List Piece
item_pieces true piece = Comma ∷ piece ∷ []
item_pieces false piece = piece ∷ []

-- a message that answers this is one of a day
abbrev pub asks_day : Request → Bool
asks_day AskOverview = false
asks_day (AskDay day) = true
asks_day AskEvents = false
asks_day AskSpeed = false
asks_day AskTechnical = false

-- one where a message that answers this is of a day
abbrev pub day_in : Request → ℕ
day_in request = if asks_day request then 1 else 0

-- how many messages are of days
abbrev pub days_asked : List MessageAt → ℕ
days_asked [] = 0
days_asked (at ∷ all) = day_in at.request + days_asked all
