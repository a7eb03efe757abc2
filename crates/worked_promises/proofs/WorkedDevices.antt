-- Worked rows of what devices tell of themselves by their bytes and counts, of words of views, and of a card behind packets.
use Rattle.std.proofs.Common.{◌≡◌, ℕ, ◌+◌, ◌*◌, Bool, true, false, Option, Some, None, List, [], ◌∷◌, ◌++◌, map, length, replicate, refl}
use Rattle.std.specs.Prelude.{codes, take, drop}
use Rattle.activity_codec.specs.declared.values.Slot.TheVariants.{Driver, CoDriver}
use Rattle.activity_codec.specs.declared.values.Activity.TheVariants.{Rest, Available, Work, Driving}
use Rattle.view_model.specs.declared.State.{State as SlotState}
use Rattle.view_text.specs.ByHand.{by_hand_words}
use Rattle.view_text.specs.Text.{unit_words, card_words}
use Rattle.tach_media.specs.Medium.{State}
use Rattle.run_model.specs.declared.Device.TheVariants.{Unit as Recorder, CardA, CardB}
use Rattle.card_layout.specs.Application.{application_of}
use Rattle.card_layout.specs.Files.{files_of}
use Rattle.card_layout.specs.Outcomes.{nothing, gives, puts}
use Rattle.card_image.specs.Own.{own_sizes}
use Rattle.gated_ring.specs.Ring.{Shape}
use Rattle.unit_model.specs.Image.{stray_list}
use Rattle.unit_model.specs.Writing.{behind_index}
use Rattle.unit_memory.specs.Upgrades.{upgraded_from, version_before}
use Rattle.unit_rule.specs.Written.{MinuteWritten, last_behind}
use Rattle.safety_model.specs.Safe.{Devices}
use Rattle.run_opening.specs.Opening.{faults_of}
use Rattle.run_note_record.specs.OnCards.{places_in}
use Rattle.card_service.specs.Answering.{image_behind, answer_to_reset, memory_failed}
use Rattle.card_service.specs.Packets.{stream_of}
use Rattle.worked_promises.proofs.Images.{card, unit}

-- ---- counts

-- a device that tells nothing, with so many faults
abbrev silent : ℕ → State
silent faults = record {
  size = 0;
  behind = 0;
  writable = [];
  image = None;
  may_leave = λ x. ⊥;
  left_since = λ clock x. ⊥;
  clock = 0;
  works = true;
  faults = faults;
  breakdowns = 0;
  broke = λ t n. ⊥;
  layers = [];
}

abbrev pub three : Devices
three = record { unit = silent 7; card_a = silent 8; card_b = silent 9 }

faults_of_each : map (faults_of three) (Recorder ∷ CardA ∷ CardB ∷ []) ≡ 7 ∷ 8 ∷ 9 ∷ []
faults_of_each = refl

-- ---- a card's ring of places: behind 33 bytes of ICC and IC, the sizes, 44 of days and 64 of vehicles

its_ring_of_places : places_in card ≡ record { base = 151; width = 10; count = 1; pointer_width = 1; gate = 0 }
unfolding own_sizes application_of files_of
its_ring_of_places = refl

-- ---- a unit

abbrev a_minute : ℕ → MinuteWritten
a_minute number = record { minute = record { minute = number; driver = record { act = Rest; card = None }; codriver = record { act = Rest; card = None } }; odometer = 7 }

last_of_two : last_behind 7 (a_minute 8 ∷ a_minute 11 ∷ []) ≡ 11
last_of_two = refl

last_of_none : last_behind 7 [] ≡ 7
last_of_none = refl

strays : stray_list None ++ stray_list (Some 7) ≡ 7 ∷ []
strays = refl

-- of 366 places the 363 behind it, up to the last, then two from the first on
behind_the_third : take 2 (behind_index 2) ++ drop 361 (behind_index 2) ++ length (behind_index 2) ∷ [] ≡ 3 ∷ 4 ∷ 364 ∷ 365 ∷ 0 ∷ 1 ∷ 365 ∷ []
behind_the_third = refl

-- version 1 becomes 2, with rule byte 1; version 2 stays as it is
its_new_version : take 4 (upgraded_from unit) ++ take 3 (drop 560 (upgraded_from unit)) ≡ 0 ∷ 0 ∷ 0 ∷ 2 ∷ 0 ∷ 1 ∷ 0 ∷ []
its_new_version = refl

nothing_to_upgrade : upgraded_from (0 ∷ 0 ∷ 0 ∷ 2 ∷ 9 ∷ []) ≡ 0 ∷ 0 ∷ 0 ∷ 2 ∷ 9 ∷ []
nothing_to_upgrade = refl

versions_before : version_before true ∷ version_before false ∷ [] ≡ 1 ∷ 2 ∷ []
versions_before = refl

-- ---- words of a view

work_by_hand : by_hand_words (record { minute = 470; slot = Driver; act = Work }) ≡ codes " 07:50 driver=work by hand\n"
work_by_hand = refl

words_of_a_crew : unit_words (record { driver = record { act = Driving; present = true }; codriver = record { act = Available; present = true }; crew = true })
    ≡ codes "driver=drive,in codriver=available,in crew"
words_of_a_crew = refl

words_of_one : unit_words (record { driver = record { act = Rest; present = true }; codriver = record { act = Work; present = false }; crew = false })
    ≡ codes "driver=rest,in codriver=work,out single"
words_of_one = refl

words_of_a_card : card_words (record { slot = CoDriver; act = Available; crew = true }) ≡ codes "codriver=available crew"
words_of_a_card = refl

-- ---- a card in a slot

image_after_each : map (λ e. image_behind e (Some (1 ∷ 2 ∷ 3 ∷ []))) (nothing ∷ puts 1 (9 ∷ []) ∷ []) ≡ Some (1 ∷ 2 ∷ 3 ∷ []) ∷ Some (1 ∷ 9 ∷ 3 ∷ []) ∷ []
image_after_each = refl

-- direct convention, nothing more (ISO/IEC 7816-3); and the status word 6581 (Appendix 2: memory problems)
answers_of_no_command : answer_to_reset ++ memory_failed ≡ 0x3B ∷ 0 ∷ 0x65 ∷ 0x81 ∷ []
answers_of_no_command = refl

two_packets : stream_of ((7 ∷ []) ∷ replicate 258 9 ∷ []) ≡ 0 ∷ 1 ∷ 7 ∷ 1 ∷ 2 ∷ replicate 258 9
two_packets = refl
