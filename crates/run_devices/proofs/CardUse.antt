-- The current use of a card, as calls write its file or leave it.
use Rattle.std.proofs.Common.{◌≡◌, inl, inr, ⊎_elim, ℕ, ◌+◌, ◌<◌, ◌≤◌, ◌^◌, List, [], ◌∷◌, length, sym, ◌∙◌, ap, arith}
use Rattle.tach_media.specs.card_layout.Images.{big_number, bytes_at, SameOutside}
use Rattle.tach_media.proofs.card_layout.Images.{part_after, part_put, part_in, put_outside}
use Rattle.tach_media.proofs.card_layout.Numbers.{big_number-big_bytes}
use Rattle.device_calls.specs.tacho_types.declared.texts.Registration.{Registration}
use Rattle.device_calls.specs.tacho_types.Numbers.{time_bytes}
use Rattle.tach_media.specs.card_layout.declared.files.Application.{Application}
use Rattle.tach_media.specs.card_layout.Files.{files_of, place_of, size_of}
use Rattle.device_calls.specs.gated_ring.Ring.{place_of as entry_place, size_of as ring_size}
use Rattle.device_calls.proofs.gated_ring.Places.{place_high}
use Rattle.device_calls.specs.card_files.CurrentUses.{current_use_of}
use Rattle.device_calls.specs.card_files.Rings.{event_ring}
use Rattle.device_calls.proofs.card_files.Sets.{set_inside}
use Rattle.device_calls.specs.card_image.Fields.{file, place_ring, current_use}
use Rattle.device_calls.specs.card_session.Cards.{ended}
use Rattle.device_calls.specs.card_session.Inserting.{timed, registered, IsOpened}
use Rattle.device_calls.specs.CardNotes.{IsNote}
use Rattle.device_calls.specs.card_files.declared.current_use.CurrentUse.{CurrentUse}

-- of this vehicle from this second on; and without a session
abbrev pub opened : Registration → (second : ℕ) → CurrentUse
opened vehicle u = record { session = record { 0 = u }; registration = vehicle }

abbrev pub shut : CurrentUse → CurrentUse
shut held = record { session = record { 0 = 0 }; registration = held.registration }

module _ (app : Application) where
  -- what its nineteen bytes tell
  pub use-told : (y : List ℕ) → current_use app y
      ≡ record { session = record { 0 = big_number 4 (bytes_at y (place_of app (file 0x0507)) 4) }; registration = record { 0 = bytes_at y (place_of app (file 0x0507) + 4) 15 } }
  unfolding current_use files_of current_use_of
  use-told y = λ i. record {
    session = record { 0 = big_number 4 ((part_in y (place_of app (file 0x0507)) 19 0 4 (omega arith) ∙ at_front) i) };
    registration = record { 0 = part_in y (place_of app (file 0x0507)) 19 4 15 (omega arith) i };
  }
    where
      at_front : bytes_at y (place_of app (file 0x0507) + 0) 4 ≡ bytes_at y (place_of app (file 0x0507)) 4
      at_front = let none : place_of app (file 0x0507) + 0 ≡ place_of app (file 0x0507) = omega arith in ap (λ (p : ℕ). bytes_at y p 4) none

  pub use-same : (x c : List ℕ) → bytes_at c (place_of app (file 0x0507)) 19 ≡ bytes_at x (place_of app (file 0x0507)) 19 → current_use app c ≡ current_use app x
  unfolding current_use files_of
  use-same x c same = ap current_use_of same

  -- ---- files before it are written
  events-low : place_of app (file 0x0502) + size_of app (file 0x0502) ≤ place_of app (file 0x0507)
  unfolding files_of
  events-low = omega arith

  places-low : (place_ring app).base + ring_size (place_ring app) ≤ place_of app (file 0x0507)
  unfolding files_of
  places-low = omega arith

  pub event-use : (kind i : ℕ) (x c : List ℕ) → i < (event_ring app kind).count → SameOutside (entry_place (event_ring app kind) i) (event_ring app kind).width x c → current_use app c ≡ current_use app x
  event-use kind i x c below outside =
      use-same x c (part_after (entry_place (event_ring app kind) i) (event_ring app kind).width (place_of app (file 0x0507)) 19 x c outside (omega (arith, place_high (event_ring app kind) i below, set_inside app kind, events-low)))

  -- an event or a place is
  pub note-use : (x c : List ℕ) → IsNote app x c → current_use app c ≡ current_use app x
  note-use x c (inl noting) = ⊎_elim
      (λ same. ap (λ (l : List ℕ). current_use app l) same)
      (λ changed. ⊎_elim
      (λ absent. event-use noting.0.kind noting.1.place x c noting.1.takes.below absent.outside)
      (λ replaced. event-use noting.0.kind noting.1.place x c noting.1.takes.below replaced.outside) changed)
      noting.1.entry
  note-use x c (inr noting) = use-same x c (part_after (place_ring app).base (ring_size (place_ring app)) (place_of app (file 0x0507)) 19 x c noting.1.outside places-low)

  -- ---- it is written
  module _ (vehicle : Registration) (now : ℕ) (long : length vehicle.0 ≡ 15) (few : now < 2 ^ 32) (x : List ℕ) (fits : place_of app (file 0x0507) + 19 ≤ length x) where
    named-outside : SameOutside (place_of app (file 0x0507) + 4) (length vehicle.0) x (registered app vehicle x)
    named-outside = put_outside (place_of app (file 0x0507) + 4) vehicle.0 x (omega (arith, fits, long))

    named-room : place_of app (file 0x0507) + 19 ≤ length (registered app vehicle x)
    named-room = omega (arith, fits, named-outside.same_length)

    time-is : big_number 4 (bytes_at (timed app now (registered app vehicle x)) (place_of app (file 0x0507)) 4) ≡ now
    time-is =
        ap (big_number 4) (part_put (place_of app (file 0x0507)) (time_bytes (record { 0 = now })) (registered app vehicle x) (omega (arith, named-room))) ∙ big_number-big_bytes 4 now few

    name-is : bytes_at (timed app now (registered app vehicle x)) (place_of app (file 0x0507) + 4) 15 ≡ vehicle.0
    name-is =
        part_after (place_of app (file 0x0507)) 4 (place_of app (file 0x0507) + 4) 15 (registered app vehicle x) (timed app now (registered app vehicle x))
        (put_outside (place_of app (file 0x0507)) (time_bytes (record { 0 = now })) (registered app vehicle x) (omega (arith, named-room))) (omega arith)
        ∙ ap (λ (n : ℕ). bytes_at (registered app vehicle x) (place_of app (file 0x0507) + 4) n) (sym long)
        ∙ part_put (place_of app (file 0x0507) + 4) vehicle.0 x (omega (arith, fits, long))

    pub opened-use : (y : List ℕ) → IsOpened app vehicle now x y → current_use app y ≡ opened vehicle now
    opened-use y is =
        ap (λ (l : List ℕ). current_use app l) is ∙ use-told (timed app now (registered app vehicle x)) ∙ (λ i. record { session = record { 0 = time-is i }; registration = record { 0 = name-is i } })

  -- the session is closed: the vehicle stays
  pub ended-use : (k : List ℕ) → place_of app (file 0x0507) + 19 ≤ length k → current_use app (ended app k) ≡ shut (current_use app k)
  ended-use k fits =
      use-told (ended app k)
      ∙ (λ i. record {
        session = record { 0 = big_number 4 (part_put (place_of app (file 0x0507)) (0 ∷ 0 ∷ 0 ∷ 0 ∷ []) k (omega (arith, fits)) i) };
        registration = record { 0 = part_after (place_of app (file 0x0507)) 4 (place_of app (file 0x0507) + 4) 15 k (ended app k) (put_outside (place_of app (file 0x0507)) (0 ∷ 0 ∷ 0 ∷ 0 ∷ []) k (omega (arith, fits))) (omega arith) i };
      })
      ∙ sym (ap shut (use-told k))
