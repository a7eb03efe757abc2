-- Worked streams, read by the definitions themselves.
use Rattle.std.proofs.Common.{◌≡◌, ℕ, List, [], ◌∷◌, refl}
use Rattle.link_model.specs.declared.side.End.TheVariants as side
use Rattle.link_model.specs.Frames.{Heard, Right, Wrong}
use Rattle.link_model.specs.Hearing.{heard_in, kept_after}

-- what the unit hears of a stream, and what the other side hears
abbrev unit_hears : List ℕ → List Heard
unit_hears bytes = heard_in side.Unit [] bytes

abbrev loader_hears : List ℕ → List Heard
loader_hears bytes = heard_in side.Loader [] bytes

abbrev unit_keeps : List ℕ → List ℕ
unit_keeps bytes = kept_after side.Unit [] bytes

-- the start of communication, in the short form and in the long one
starts_short : unit_hears (0x81 ∷ 0xEE ∷ 0xF0 ∷ 0x81 ∷ 0xE0 ∷ []) ≡ Right (0x81 ∷ []) ∷ []
starts_short = refl

starts_long : unit_hears (0x80 ∷ 0xEE ∷ 0xF0 ∷ 0x01 ∷ 0x81 ∷ 0xE0 ∷ []) ≡ Right (0x81 ∷ []) ∷ []
starts_long = refl

-- start of diagnostics, and its answer
starts_diagnostics : unit_hears (0x80 ∷ 0xEE ∷ 0xF0 ∷ 0x02 ∷ 0x10 ∷ 0x81 ∷ 0xF1 ∷ []) ≡ Right (0x10 ∷ 0x81 ∷ []) ∷ []
starts_diagnostics = refl

answers_diagnostics : loader_hears (0x80 ∷ 0xF0 ∷ 0xEE ∷ 0x02 ∷ 0x50 ∷ 0x81 ∷ 0x31 ∷ []) ≡ Right (0x50 ∷ 0x81 ∷ []) ∷ []
answers_diagnostics = refl

-- a request of a day, and the answer that it is not recorded
requests_day : unit_hears (0x80 ∷ 0xEE ∷ 0xF0 ∷ 0x06 ∷ 0x36 ∷ 0x02 ∷ 0x4B ∷ 0x8B ∷ 0x03 ∷ 0x80 ∷ 0xF5 ∷ []) ≡ Right (0x36 ∷ 0x02 ∷ 0x4B ∷ 0x8B ∷ 0x03 ∷ 0x80 ∷ []) ∷ []
requests_day = refl

answers_no_day : loader_hears (0x80 ∷ 0xF0 ∷ 0xEE ∷ 0x03 ∷ 0x7F ∷ 0x36 ∷ 0xFA ∷ 0x10 ∷ []) ≡ Right (0x7F ∷ 0x36 ∷ 0xFA ∷ []) ∷ []
answers_no_day = refl

-- two refused requests one after the other
requests_two : unit_hears (0x80 ∷ 0xEE ∷ 0xF0 ∷ 0x01 ∷ 0x27 ∷ 0x86 ∷ 0x80 ∷ 0xEE ∷ 0xF0 ∷ 0x01 ∷ 0x36 ∷ 0x95 ∷ []) ≡ Right (0x27 ∷ []) ∷ Right (0x36 ∷ []) ∷ []
requests_two = refl

-- a sum that is wrong: the frame is taken whole, also where a frame stands inside it
hears_wrong_sum : unit_hears (0x80 ∷ 0xEE ∷ 0xF0 ∷ 0x01 ∷ 0x82 ∷ 0xE2 ∷ []) ≡ Wrong 0x82 ∷ []
hears_wrong_sum = refl

takes_whole : unit_hears (0x80 ∷ 0xEE ∷ 0xF0 ∷ 0x05 ∷ 0x81 ∷ 0xEE ∷ 0xF0 ∷ 0x81 ∷ 0xE0 ∷ 0x00 ∷ []) ≡ Wrong 0x81 ∷ []
takes_whole = refl

-- a length of 0 is no frame: its bytes are passed over, and the next frame is heard
passes_no_length : unit_hears (0x80 ∷ 0xEE ∷ 0xF0 ∷ 0x00 ∷ 0x5E ∷ []) ≡ []
passes_no_length = refl

hears_after_no_length : unit_hears (0x80 ∷ 0xEE ∷ 0xF0 ∷ 0x00 ∷ 0x5E ∷ 0x80 ∷ 0xEE ∷ 0xF0 ∷ 0x01 ∷ 0x82 ∷ 0xE1 ∷ []) ≡ Right (0x82 ∷ []) ∷ []
hears_after_no_length = refl

-- a frame at the second byte
hears_at_second : unit_hears (0x80 ∷ 0x80 ∷ 0xEE ∷ 0xF0 ∷ 0x01 ∷ 0x82 ∷ 0xE1 ∷ []) ≡ Right (0x82 ∷ []) ∷ []
hears_at_second = refl

-- a frame to the other side is none, and the short form is none to the loader
passes_other_side : unit_hears (0x80 ∷ 0xF0 ∷ 0xEE ∷ 0x01 ∷ 0x77 ∷ 0xD6 ∷ []) ≡ []
passes_other_side = refl

passes_short_to_loader : loader_hears (0x81 ∷ 0xF0 ∷ 0xEE ∷ 0x81 ∷ 0xE0 ∷ []) ≡ []
passes_short_to_loader = refl

-- a frame that is not whole is kept
keeps_beginning : unit_keeps (0x00 ∷ 0x80 ∷ 0xEE ∷ 0xF0 ∷ 0x02 ∷ 0x10 ∷ []) ≡ 0x80 ∷ 0xEE ∷ 0xF0 ∷ 0x02 ∷ 0x10 ∷ []
keeps_beginning = refl
