-- An event or a place is noted on a card: its string and its session stay.
use Rattle.std.proofs.Common.{◌≡◌, inl, inr, ⊎_elim, ℕ, ◌+◌, ◌/◌, ◌<◌, ◌≤◌, Option, option_map, List, [], ◌∷◌, length, refl, ap, subst, ◌∙◌, sym, arith}
use Rattle.tach_media.specs.Medium.{bytes_at, SameOutside}
use Rattle.tach_media.specs.card_layout.Images.{big_number}
use Rattle.tach_media.proofs.Images.{part_after, part_put}
use Rattle.tach_media.specs.card_layout.Files.{files_of, image_size_of, place_of, size_of}
use Rattle.device_calls.specs.card_files.Rings.{event_ring}
use Rattle.device_calls.proofs.card_files.Sets.{set_inside}
use Rattle.device_calls.proofs.gated_ring.Places.{place_high}
use Rattle.tach_media.specs.card_layout.declared.files.Application.{Application}
use Rattle.tach_media.specs.card_layout.Application.{IsApplication, first_bad_field, place_of_field}
use Rattle.device_calls.specs.card_model.Days.{Day}
use Rattle.device_calls.specs.card_image.Fields.{file, card_number, place_ring, day_string, vehicle_ring, card_days, end_mark, last_use, session_time}
use Rattle.device_calls.specs.card_image.Judging.{word_checks, IsValid}
use Rattle.device_calls.specs.card_image.Beside.{HaveSameIdentification}
use Rattle.device_calls.proofs.card_image.Beside.{days_same, session_same, last_use_same, number_same}
use Rattle.device_calls.specs.gated_ring.Ring.{place_of as entry_place, PointsInside, size_of as ring_size}
use Rattle.device_calls.proofs.gated_ring.Elsewhere.{points_elsewhere, newest_elsewhere}
use Rattle.device_calls.proofs.card_days.Elsewhere.{knows_elsewhere}
use Rattle.device_calls.specs.card_days.Held.{Knows}
use Rattle.device_calls.specs.card_retention.Shown.{is_open}
use Rattle.device_calls.specs.activity_codec.declared.entries.Entry.{Entry}
use Rattle.device_calls.specs.card_session.Books.{Book, mark_of}
use Rattle.device_calls.specs.card_session.Sessions.{Session, IsSession, IsOpenBook, newest_in, book_of}
use Rattle.device_calls.proofs.card_session.OnCard.{ring_shape}
use Rattle.device_calls.specs.hand_model.Written.{Hands}
use Rattle.device_calls.specs.card_by_hand.First.{IsShutAt}
use Rattle.device_calls.specs.card_string.Since.{SitsSince}
use Rattle.device_calls.proofs.card_string.SameBook.{same_book}
use Rattle.device_calls.proofs.card_string.Since.{goes_still}
use Rattle.device_calls.specs.CardNotes.{IsNote}
use Rattle.device_calls.proofs.CardNoted.{Leaves, left}
use Rattle.device_calls.proofs.Passed.{Passes, valid-passes, passes-valid, pointer-passes, passes-pointer}
use Rattle.device_calls.specs.card_model.Image.{oldest_pointer}
use Rattle.device_calls.specs.card_model.Checks.{first_failing}
use Rattle.device_calls.proofs.card_model.Elsewhere.{oldest_elsewhere, bad_elsewhere}
use Rattle.device_calls.specs.card_session.Cards.{ended, MayEnd}
use Rattle.device_calls.proofs.card_session.InsertingAgain.{ended_keeps}
use Rattle.device_calls.proofs.card_session.InsertingUse.{use_inside}
use Rattle.device_calls.proofs.card_session.Marks.{mark_told}
use Rattle.device_calls.proofs.card_session.Stopping.{ended_same, book_days}

-- the number lies behind
module _ (app : Application) where
  events_low : place_of app (file 0x0502) + size_of app (file 0x0502) ≤ place_of app (file 0x0520)
  unfolding files_of
  events_low = omega arith

  places_low : (place_ring app).base + ring_size (place_ring app) ≤ place_of app (file 0x0520)
  unfolding files_of
  places_low = omega arith

  event-behind : (kind i : ℕ) (x c : List ℕ) → i < (event_ring app kind).count → SameOutside (entry_place (event_ring app kind) i) (event_ring app kind).width x c → HaveSameIdentification app x c
  event-behind kind i x c below outside = part_after (entry_place (event_ring app kind) i) (event_ring app kind).width (place_of app (file 0x0520)) 17 x c outside
      (omega (arith, place_high (event_ring app kind) i below, set_inside app kind, events_low))

  pub note-identification : (x c : List ℕ) → IsNote app x c → HaveSameIdentification app x c
  note-identification x c (inl noting) = ⊎_elim
      (λ same. ap (λ (l : List ℕ). bytes_at l (place_of app (file 0x0520)) 17) same)
      (λ changed. ⊎_elim (λ absent. event-behind noting.0.kind noting.1.place x c noting.1.takes.below absent.outside) (λ replaced. event-behind noting.0.kind noting.1.place x c noting.1.takes.below replaced.outside) changed)
      noting.1.entry
  note-identification x c (inr noting) = part_after (place_ring app).base (ring_size (place_ring app)) (place_of app (file 0x0520)) 17 x c noting.1.outside places_low

-- ---- a note

module _ (app : Application) (sound : IsApplication app) (x : List ℕ) (valid : IsValid app x) (c : List ℕ) (note : IsNote app x c) where
  abbrev leaves : Leaves app x c
  leaves = left app sound x valid c note

  pub note-book : book_of app c ≡ book_of app x
  note-book = same_book app sound x c (pointer-passes (vehicle_ring app) x (valid-passes app x valid).vehicles) leaves.days leaves.vehicles

  pub note-session_time : session_time app c ≡ session_time app x
  note-session_time = session_same app x c leaves.session

  pub note-number : card_number app c ≡ card_number app x
  note-number = number_same app x c leaves.sizes (note-identification app x c note)

  pub note-sits : (image : List ℕ) (h : Hands) (has : List Entry) (next : ℕ) → SitsSince app image h has next x → SitsSince app image h has next c
  note-sits image h has next s = record { written = s.written; has_all = s.has_all; lie = s.lie; goes = goes_still app image x c note-book s.written next s.goes }

  -- no entry is open where none was
  pub note-shut : IsShutAt app x → IsShutAt app c
  note-shut shut =
      ap (λ (m : ℕ). is_open m (card_days app c)) (mark_told app c ∙ ap (λ (b : Book). mark_of b) note-book ∙ sym (mark_told app x))
      ∙ ap (λ (ds : List Day). is_open (end_mark app x) ds) (sym (book_days app c) ∙ ap (λ (b : Book). b.days) note-book ∙ book_days app x) ∙ shut

-- ---- a card that would be valid, were its session ended

abbrev words_on : Application → (oldest last session : ℕ) → List Day → Option ℕ
words_on app oldest last session ds = first_failing (word_checks app.activity oldest (last / 60) session ds)

-- what leaves these parts leaves a card valid
leaves-valid : (app : Application) (sound : IsApplication app) (x c : List ℕ) → Leaves app x c → IsValid app x → IsValid app c
leaves-valid app sound x c leaves valid = passes-valid app c (record {
  sizes = ap (λ (l : List ℕ). option_map place_of_field (first_bad_field l)) leaves.sizes ∙ passes.sizes;
  days = bad_elsewhere (day_string app) x c leaves.days ∙ passes.days;
  vehicles = passes-pointer (vehicle_ring app) c (points_elsewhere (vehicle_ring app) (ring_shape app sound) x c leaves.vehicles there);
  places = passes-pointer (place_ring app) c leaves.points;
  words = words ∙ passes.words;
})
  where
    passes : Passes app x
    passes = valid-passes app x valid

    there : PointsInside (vehicle_ring app) x
    there = pointer-passes (vehicle_ring app) x passes.vehicles

    words : words_on app (oldest_pointer (day_string app) c) (last_use app c) (session_time app c) (card_days app c) ≡ words_on app (oldest_pointer (day_string app) x) (last_use app x) (session_time app x) (card_days app x)
    words =
        ap (λ (o : ℕ). words_on app o (last_use app c) (session_time app c) (card_days app c)) (oldest_elsewhere (day_string app) x c leaves.days)
        ∙ ap (λ (u : ℕ). words_on app (oldest_pointer (day_string app) x) u (session_time app c) (card_days app c)) (last_use_same app x c sound there leaves.vehicles)
        ∙ ap (λ (s : ℕ). words_on app (oldest_pointer (day_string app) x) (last_use app x) s (card_days app c)) (session_same app x c leaves.session)
        ∙ ap (λ (ds : List Day). words_on app (oldest_pointer (day_string app) x) (last_use app x) (session_time app x) ds) (days_same app x c leaves.days)

-- the session's four bytes, once it is ended
ended-bytes : (app : Application) (y : List ℕ) → image_size_of app ≤ length y → bytes_at (ended app y) (place_of app (file 0x0507)) 4 ≡ 0 ∷ 0 ∷ 0 ∷ 0 ∷ []
ended-bytes app y fits = part_put (place_of app (file 0x0507)) (0 ∷ 0 ∷ 0 ∷ 0 ∷ []) y (omega (arith, use_inside app, fits))

pub note-ends : (app : Application) (sound : IsApplication app) (x c : List ℕ) → image_size_of app ≤ length x → image_size_of app ≤ length c → IsValid app x → IsNote app x c → MayEnd app x → MayEnd app c
note-ends app sound x c long_x long_c valid note ends =
    let leaves = left app sound x valid c note in
    let there = pointer-passes (vehicle_ring app) x (valid-passes app x valid).vehicles in
    let old = ended_keeps app x (ended app x) (omega (arith, use_inside app, long_x)) refl in
    let new = ended_keeps app c (ended app c) (omega (arith, use_inside app, long_c)) refl in
    let side = ended_same app sound x long_x there in
    let side_c = ended_same app sound c long_c (points_elsewhere (vehicle_ring app) (ring_shape app sound) x c leaves.vehicles there) in
    leaves-valid app sound (ended app x) (ended app c) (record {
      sizes = new.0 ∙ leaves.sizes ∙ sym old.0;
      days = side_c.0 ∙ leaves.days ∙ sym side.0;
      vehicles = side_c.1 ∙ leaves.vehicles ∙ sym side.1;
      session = ended-bytes app c long_c ∙ sym (ended-bytes app x long_x);
      points = subst (λ (l : List ℕ). big_number 1 l < app.places) (sym new.3) leaves.points;
    }) ends

-- what a session knows of the card it knows still
pub note-session : (t : Session) (value : t.days.shape ≡ day_string t.application) (sound : IsApplication t.application) (x : List ℕ) (valid : IsValid t.application x) (c : List ℕ) → IsNote t.application x c → IsSession t x → IsSession t c
note-session t value sound x valid c note knows =
    let leaves = left t.application sound x valid c note in
    let same : book_of t.application c ≡ book_of t.application x = same_book t.application sound x c knows.card.points leaves.days leaves.vehicles in
    record {
      card = record {
        days = subst (λ (b : Book). Knows t.days c b.days) (sym same) (knows_elsewhere t.days x c (subst (λ r. bytes_at c r.base (4 + r.size) ≡ bytes_at x r.base (4 + r.size)) (sym value) leaves.days) (book_of t.application x).days knows.card.days);
        points = points_elsewhere (vehicle_ring t.application) (ring_shape t.application sound) x c leaves.vehicles knows.card.points;
        newest = newest_elsewhere (vehicle_ring t.application) (ring_shape t.application sound) x c leaves.vehicles knows.card.points t.newest knows.card.newest;
        vehicle = knows.card.vehicle ∙ ap (λ (b : Book). b.vehicles.newest) (sym same);
      };
      book = subst IsOpenBook (sym same) knows.book;
      minute = knows.minute ∙ ap newest_in (sym same);
    }
