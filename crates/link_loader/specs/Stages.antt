-- The loader's side of a download (Annex IB, Appendix 7): what it sends at each stage, and what it asks for next. That
-- the next day is asked for up to the period's end, and detailed speed whether there is any or not, is profile.
use Rattle.std.specs.Prelude.{ℕ, ◌+◌, ◌/◌, ◌%◌, ◌==◌, ◌&&◌, ◌||◌, nat_le, nat_lt, if◌then◌else◌, List, [], ◌∷◌, Option}
use Rattle.std.specs.Prelude.{Some, None}
use Rattle.byteorder.specs.Endian.{big_bytes}
use Rattle.link_model.specs.declared.request.Request.{Request}
use Rattle.link_model.specs.declared.request.Request.TheVariants.{Overview, Day, Events, Speed, Technical}
use Rattle.link_model.specs.declared.services.TheConstants.{START_COMMUNICATION, STOP_COMMUNICATION, START_DIAGNOSTIC}
use Rattle.link_model.specs.declared.services.TheConstants.{DIAGNOSTIC_SESSION, UPLOAD_REQUEST, TRANSFER_DATA}
use Rattle.link_model.specs.declared.services.TheConstants.{TRANSFER_EXIT, ACKNOWLEDGE, MESSAGE, DATA_NOT_AVAILABLE}
use Rattle.link_model.specs.declared.services.TheConstants.{DAY_NUMBER, DAY_SECONDS}
use Rattle.link_model.specs.Answers.{number_of}
use Rattle.message_model.specs.Messages.{Message, AnOverview, ADay, AnEventList, ASpeedList, ATechnical}
use Rattle.link_loader.specs.declared.stage.Stage.{Stage}
use Rattle.link_loader.specs.declared.stage.Stage.TheVariants.{Start, Diagnostic, Upload, Asked, Acknowledged, Exit}
use Rattle.link_loader.specs.declared.stage.Stage.TheVariants.{Stop, Finished}

-- a request names its message by the number, and a day by its first second too
abbrev pub request_bytes : Request → List ℕ
request_bytes (Day second) = TRANSFER_DATA ∷ DAY_NUMBER ∷ big_bytes 4 second
request_bytes request = TRANSFER_DATA ∷ number_of request ∷ []

-- a piece is acknowledged by the counter of the next one
abbrev pub acknowledgement : (counter : ℕ) → List ℕ
acknowledgement counter = ACKNOWLEDGE ∷ MESSAGE ∷ counter / 256 ∷ counter % 256 ∷ []

-- what is sent at a stage; nothing once the download is over
abbrev pub sent_at : Stage → Option (List ℕ)
sent_at Start = Some (START_COMMUNICATION ∷ [])
sent_at Diagnostic = Some (START_DIAGNOSTIC ∷ DIAGNOSTIC_SESSION ∷ [])
sent_at Upload = Some UPLOAD_REQUEST
sent_at (Asked request) = Some (request_bytes request)
sent_at (Acknowledged request counter) = Some (acknowledgement counter)
sent_at Exit = Some (TRANSFER_EXIT ∷ [])
sent_at Stop = Some (STOP_COMMUNICATION ∷ [])
sent_at Finished = None

-- the first day of a period is asked for, if it has one: 0 stands for none
abbrev pub first_day : (begin end : ℕ) → Stage
first_day begin end = if begin == 0 || nat_lt end begin then Asked Events else Asked (Day begin)

-- the day behind the one that begins at this second, up to the period's end
abbrev pub next_day : (second end : ℕ) → Stage
next_day second end =
    if nat_le (second + DAY_SECONDS) end then Asked (Day (second + DAY_SECONDS)) else Asked Events

-- what is asked for behind a message: behind the overview the first day of the period that it tells
abbrev pub behind_message : (end : ℕ) → Message → Stage
behind_message end (AnOverview m) = first_day m.begin m.end
behind_message end (ADay m) = next_day m.date end
behind_message end (AnEventList m) = Asked Speed
behind_message end (ASpeedList m) = Asked Technical
behind_message end (ATechnical m) = Exit

-- the period's end, which the overview tells
abbrev pub end_told : (end : ℕ) → Message → ℕ
end_told end (AnOverview m) = m.end
end_told end (ADay m) = end
end_told end (AnEventList m) = end
end_told end (ASpeedList m) = end
end_told end (ATechnical m) = end

-- a day, or detailed speed, of which there is no message is passed over
abbrev pub behind_lack : (end : ℕ) → Request → Option Stage
behind_lack end (Day second) = Some (next_day second end)
behind_lack end Speed = Some (Asked Technical)
behind_lack end request = None

-- so a negative answer is passed over: to the request of such a message, by the code that there is none
abbrev pub passed_over : (end : ℕ) → Stage → (service code : ℕ) → Option Stage
passed_over end (Asked request) service code =
    if service == TRANSFER_DATA && code == DATA_NOT_AVAILABLE then behind_lack end request else None
passed_over end stage service code = None

-- what is sent behind the positive answer to what asks for no message
abbrev pub behind_answer : Stage → Stage
behind_answer Start = Diagnostic
behind_answer Diagnostic = Upload
behind_answer Upload = Asked Overview
behind_answer Exit = Stop
behind_answer stage = Finished

-- the counter of the piece that is wanted: 1 for the first one
abbrev pub counter_at : Stage → ℕ
counter_at (Acknowledged request counter) = counter
counter_at stage = 1

-- the counter of the piece behind this one, in two bytes
abbrev pub next_counter : ℕ → ℕ
next_counter counter = (counter + 1) % 65536
