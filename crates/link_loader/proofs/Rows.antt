-- Worked rows of a download.
use Rattle.std.proofs.Common.{◌≡◌, ℕ, ◌+◌, [], ◌∷◌, Some, None, refl, replicate}
use Rattle.link_model.specs.declared.request.Request.TheVariants.{Overview, Day, Events, Speed, Technical}
use Rattle.link_loader.specs.declared.stage.Stage.TheVariants.{Diagnostic, Upload, Asked, Acknowledged, Stop, Finished}
use Rattle.link_loader.specs.declared.kind.Kind.TheVariants.{Broken, Other}
use Rattle.link_loader.specs.Stages.{sent_at, first_day, next_day}
use Rattle.link_loader.specs.Coming.{kind_of}
use Rattle.link_loader.specs.Loading.{at_stage, begun, goes_on, closed}

-- 2010-03-01, and 00:20 of that day
abbrev day : ℕ
day = 1267401600

abbrev now : ℕ
now = 1267402800

-- the request of that day, and the acknowledgement of its first piece
day_asked : sent_at (Asked (Day day)) ≡ Some (0x36 ∷ 2 ∷ 0x4B ∷ 0x8B ∷ 0x03 ∷ 0x80 ∷ [])
day_asked = refl

piece_acknowledged : sent_at (Acknowledged (Day day) 258) ≡ Some (0x83 ∷ 0x76 ∷ 1 ∷ 2 ∷ [])
piece_acknowledged = refl

-- the days of a period: none, the one of 00:20, and two of which the second is the end's
days : (first_day 0 now ≡ Asked Events) × (first_day day now ≡ Asked (Day day)) × (next_day day now ≡ Asked Events) × (next_day day (day + 86400) ≡ Asked (Day 1267488000))
days = (refl, refl, refl, refl)

-- the way to the first message
opened : goes_on begun (0xC1 ∷ 0xEA ∷ 0x8F ∷ []) ≡ Some (at_stage 0 Diagnostic)
opened = refl

diagnosed : goes_on (at_stage 0 Diagnostic) (0x50 ∷ 0x81 ∷ []) ≡ Some (at_stage 0 Upload)
diagnosed = refl

uploaded : goes_on (at_stage 0 Upload) (0x75 ∷ 0x00 ∷ 0xFF ∷ []) ≡ Some (at_stage 0 (Asked Overview))
uploaded = refl

stopped : goes_on (at_stage now Stop) (0xC2 ∷ []) ≡ Some (at_stage now Finished)
stopped = refl

-- that there is no such day is passed over, and so is it of detailed speed; of an overview it is not
no_day : goes_on (at_stage now (Asked (Day day))) (0x7F ∷ 0x36 ∷ 0xFA ∷ []) ≡ Some (at_stage now (Asked Events))
no_day = refl

no_speed : goes_on (at_stage now (Asked Speed)) (0x7F ∷ 0x36 ∷ 0xFA ∷ []) ≡ Some (at_stage now (Asked Technical))
no_speed = refl

no_overview : goes_on (at_stage 0 (Asked Overview)) (0x7F ∷ 0x36 ∷ 0xFA ∷ []) ≡ None
no_overview = refl

other_code : goes_on (at_stage now (Asked (Day day))) (0x7F ∷ 0x36 ∷ 0x31 ∷ []) ≡ None
other_code = refl

-- as the answer to a request 255 bytes are a piece, whatever message they would be; its counter is 1
piece_or_message : kind_of (Asked Events) (0x76 ∷ 3 ∷ replicate 253 0) ≡ Broken 1 0
piece_or_message = refl

first_piece : goes_on (at_stage now (Asked Technical)) (0x76 ∷ 5 ∷ 0 ∷ 1 ∷ replicate 251 7) ≡ Some (record { stage = Acknowledged Technical 2; end = now; bytes = 0x76 ∷ 5 ∷ replicate 251 7 })
first_piece = refl

-- a last piece of 4 bytes closes what came before it
empty_last_piece : closed (record { stage = Acknowledged Technical 3; end = now; bytes = 0x76 ∷ 5 ∷ 7 ∷ [] }) (0x76 ∷ 5 ∷ 0 ∷ 3 ∷ []) ≡ Some (Technical, 0x76 ∷ 5 ∷ 7 ∷ [])
empty_last_piece = refl

-- a piece of another message is none, nor is one of 3 bytes
other_number : kind_of (Acknowledged Technical 3) (0x76 ∷ 3 ∷ 0 ∷ 3 ∷ []) ≡ Other
other_number = refl

no_counter : kind_of (Acknowledged Technical 3) (0x76 ∷ 5 ∷ 0 ∷ []) ≡ Other
no_counter = refl

-- the piece of the counter behind 65535 has counter 0
counter_again : goes_on (record { stage = Acknowledged Speed 65535; end = now; bytes = 0x76 ∷ [] }) (0x76 ∷ 4 ∷ 0xFF ∷ 0xFF ∷ replicate 251 0) ≡ Some (record { stage = Acknowledged Speed 0; end = now; bytes = 0x76 ∷ replicate 251 0 })
counter_again = refl
