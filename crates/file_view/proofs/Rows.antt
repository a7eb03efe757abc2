-- Worked rows, computed by the checker: files that fail, with their places, and the newest days.
use Rattle.std.proofs.Common.{◌≡◌, inl, inr, ℕ, zero, suc, All, [], ◌∷◌, refl, arith}
use Rattle.std.proofs.lemmas.List.Elements.{All-nil}
use Rattle.card_image.specs.CardFile.{FileEntry, IsFileEntry}
use Rattle.message_model.specs.Messages.{IsMessage}
use Rattle.file_view.specs.CardFiles.{IsBadCardFile, newest}
use Rattle.file_view.specs.UnitFiles.{IsBadUnitFile}
use Rattle.file_view.proofs.Spelling.{kind_none}

-- no byte at all: 0, as a card file and as a unit file
empty_card : IsBadCardFile 0 []
empty_card = record { entries = []; rest = []; each = All-nil IsFileEntry; follow = refl; spelled = refl; place_is = refl; stuck = inl (refl, refl) }

empty_unit : IsBadUnitFile 0 []
empty_unit = record { messages = []; rest = []; each = All-nil IsMessage; spelled = refl; place_is = refl; stuck = λ m more is spelled. absurd (cc); stands = λ none. refl }

-- the one byte 76: 0
one_byte : IsBadUnitFile 0 (0x76 ∷ [])
one_byte = record { messages = []; rest = 0x76 ∷ []; each = All-nil IsMessage; spelled = refl; place_is = refl; stuck = λ m more is spelled. absurd (cc); stands = λ none. refl }

-- a signature of the days, which is passed over, and then no needed entry: the length, 5
abbrev signature : FileEntry
signature = record { fid = 0x0504; kind = 1; value = [] }

one_is : All IsFileEntry (signature ∷ [])
one_is zero d low = record { fid = omega arith; kind = omega arith; short = omega arith }
one_is (suc k) d low = absurd (omega (arith, low))

alone : IsBadCardFile 5 (0x05 ∷ 0x04 ∷ 1 ∷ 0 ∷ 0 ∷ [])
alone = record { entries = signature ∷ []; rest = []; each = one_is; follow = refl; spelled = refl; place_is = refl; stuck = inl (refl, refl) }

-- the days before the sizes: their entry
too_early : IsBadCardFile 0 (0x05 ∷ 0x04 ∷ 0 ∷ 0 ∷ 0 ∷ [])
too_early = record {
  entries = [];
  rest = 0x05 ∷ 0x04 ∷ 0 ∷ 0 ∷ 0 ∷ [];
  each = All-nil IsFileEntry;
  follow = refl;
  spelled = refl;
  place_is = refl;
  stuck = inr (inr (record { entry = record { fid = 0x0504; kind = 0; value = [] }; more = []; is = record { fid = omega arith; kind = omega arith; short = omega arith }; spelled = refl; unfit = refl }));
}

-- the kind 2, also under an identifier that is passed over
kind_two : IsBadCardFile 0 (0x05 ∷ 0x20 ∷ 2 ∷ 0 ∷ 0 ∷ [])
kind_two = record {
  entries = [];
  rest = 0x05 ∷ 0x20 ∷ 2 ∷ 0 ∷ 0 ∷ [];
  each = All-nil IsFileEntry;
  follow = refl;
  spelled = refl;
  place_is = refl;
  stuck = inr (inl ((λ empty. absurd (cc)), kind_none (0x05 ∷ 0x20 ∷ 2 ∷ 0 ∷ 0 ∷ []) (omega arith)));
}

-- the newest two of three days, and all of them
two_days : newest {X = ℕ} 2 (7 ∷ 8 ∷ 9 ∷ []) ≡ 8 ∷ 9 ∷ []
two_days = refl

all_days : newest {X = ℕ} 4 (7 ∷ 8 ∷ 9 ∷ []) ≡ 7 ∷ 8 ∷ 9 ∷ []
all_days = refl
