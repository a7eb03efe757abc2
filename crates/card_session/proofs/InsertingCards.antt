-- What a write outside the days and the vehicle entries leaves a session to know, and what a closing word does.
use Rattle.std.proofs.Common.{◌≡◌, inl, inr, ⊎_elim, ℕ, ◌+◌, ◌<◌, ◌≤◌, List, [], ◌∷◌, sym, ◌∙◌, ap, subst, arith}
use Rattle.std.specs.Prelude.{All}
use Rattle.std.specs.List.{AllByRecursion}
use Rattle.std.proofs.lemmas.List.Elements.{recursion_from_All}
use Rattle.card_layout.proofs.Images.{part_before, part_after}
use Rattle.activity_codec.specs.declared.entries.Entry.{Entry}
use Rattle.tacho_types.specs.declared.texts.Registration.{Registration}
use Rattle.card_layout.specs.declared.files.Application.{Application}
use Rattle.card_layout.specs.Files.{files_of, place_of, size_of}
use Rattle.tach_media.specs.Medium.{bytes_at, SameOutside}
use Rattle.card_files.specs.CurrentUses.{current_use_of}
use Rattle.card_files.specs.Rings.{event_ring}
use Rattle.card_files.proofs.Sets.{set_inside}
use Rattle.card_days.specs.card_model.Days.{Day}
use Rattle.card_days.specs.card_model.Image.{StringShape}
use Rattle.card_days.proofs.card_model.Elsewhere.{days_elsewhere}
use Rattle.gated_ring.specs.Ring.{Shape, PointsInside, place_of as entry_place, size_of as ring_size}
use Rattle.gated_ring.proofs.Places.{place_high}
use Rattle.gated_ring.proofs.Elsewhere.{points_elsewhere, newest_elsewhere}
use Rattle.card_days.specs.Held.{Knows}
use Rattle.card_days.proofs.Elsewhere.{knows_elsewhere}
use Rattle.card_validity.specs.card_image.Fields.{file, day_string, vehicle_ring, current_use, card_days}
use Rattle.card_validity.specs.card_image.Beside.{HaveSameDays, HaveSameVehicles, HaveSameSession}
use Rattle.card_session.specs.Vehicles.{Vehicles}
use Rattle.card_session.specs.Books.{Book, mark_of, with_entry}
use Rattle.card_session.specs.Sessions.{Session, IsValue, KnowsCard, book_of}
use Rattle.card_session.specs.Cards.{IsCard, days_and_vehicles}
use Rattle.card_session.specs.Inserting.{lacked, with_cut, with_owed, repaired, IsNoted, IsNoting}
use Rattle.card_session.proofs.Composing.{book_is}
use Rattle.card_session.proofs.InsertingBooks.{lacked_each}
use Rattle.card_session.proofs.OnCard.{ring_shape, ring_behind}
use Rattle.card_session.proofs.Round.{vehicles_same}
use Rattle.card_session.proofs.Marks.{current_same}
use Rattle.card_session.proofs.Preparing.{used_at}

-- ---- a write elsewhere

module _ (s : Session) (value : IsValue s) (x c : List ℕ) (days : HaveSameDays s.application x c) (vehicles : HaveSameVehicles s.application x c) where
  abbrev app : Application
  app = s.application

  days_beside : (book_of app c).days ≡ (book_of app x).days
  unfolding book_of card_days
  days_beside = days_elsewhere (day_string app) x c days

  vehicles_beside : PointsInside (vehicle_ring s.application) x → (book_of app c).vehicles ≡ (book_of app x).vehicles
  unfolding book_of
  vehicles_beside points = vehicles_same s.application (ring_shape s.application value.sizes) x c vehicles points

  pub knows_beside : KnowsCard s x → KnowsCard s c
  knows_beside knows =
      let newest = newest_elsewhere (vehicle_ring app) (ring_shape app value.sizes) x c vehicles knows.points s.newest knows.newest in
      record {
        days = subst (λ (ds : List Day). Knows s.days c ds) (sym days_beside)
            (knows_elsewhere s.days x c (subst (λ (q : StringShape). bytes_at c q.base (4 + q.size) ≡ bytes_at x q.base (4 + q.size)) (sym value.days) days) (book_of app x).days knows.days);
        points = points_elsewhere (vehicle_ring app) (ring_shape app value.sizes) x c vehicles knows.points;
        newest = newest;
        vehicle = knows.vehicle ∙ sym (ap (λ (v : Vehicles). v.newest) (vehicles_beside knows.points));
      }

  pub book_beside : KnowsCard s x → book_of app c ≡ book_of app x
  book_beside knows = book_is (book_of app x) (book_of app c).days (book_of app c).vehicles days_beside (vehicles_beside knows.points)

-- a part of the card behind the vehicle entries
pub behind_same : (app : Application) (place len : ℕ) (x c : List ℕ) → (day_string app).base + days_and_vehicles app ≤ place → SameOutside place len x c → HaveSameDays app x c × HaveSameVehicles app x c
behind_same app place len x c high outside = (
  part_before place len (day_string app).base (4 + (day_string app).size) x c outside (omega (arith, high)),
  part_before place len (vehicle_ring app).base (ring_size (vehicle_ring app)) x c outside (omega (arith, high, ring_behind app)),
)

-- the current use stands there
pub use_behind : (app : Application) → (day_string app).base + days_and_vehicles app ≤ place_of app (file 0x0507)
unfolding files_of
use_behind app = omega arith

-- the events stand before the days
events_before : (app : Application) → place_of app (file 0x0502) + size_of app (file 0x0502) ≤ (day_string app).base
unfolding files_of
events_before app = omega arith

rings_behind : (app : Application) → (day_string app).base ≤ (vehicle_ring app).base
rings_behind app = omega (arith, ring_behind app)

-- an event leaves the days, the vehicle entries and the session time
event_same : (app : Application) (i : ℕ) (x c : List ℕ) → i < (event_ring app 6).count → SameOutside (entry_place (event_ring app 6) i) (event_ring app 6).width x c → HaveSameDays app x c × HaveSameVehicles app x c × HaveSameSession app x c
event_same app i x c below outside =
    let r : Shape = event_ring app 6 in
    let high : entry_place r i + r.width ≤ (day_string app).base = omega (arith, place_high r i below, set_inside app 6, events_before app) in (
      part_after (entry_place r i) r.width (day_string app).base (4 + (day_string app).size) x c outside high,
      part_after (entry_place r i) r.width (vehicle_ring app).base (ring_size (vehicle_ring app)) x c outside (omega (arith, high, rings_behind app)),
      part_after (entry_place r i) r.width (place_of app (file 0x0507)) 4 x c outside (omega (arith, high, use_behind app)),
    )

still_same : (app : Application) (x c : List ℕ) → c ≡ x → HaveSameDays app x c × HaveSameVehicles app x c × HaveSameSession app x c
still_same app x c is = (
  ap (λ (l : List ℕ). bytes_at l (day_string app).base (4 + (day_string app).size)) is,
  ap (λ (l : List ℕ). bytes_at l (vehicle_ring app).base (ring_size (vehicle_ring app))) is,
  ap (λ (l : List ℕ). bytes_at l (place_of app (file 0x0507)) 4) is,
)

pub noted_same : (app : Application) (now : ℕ) (x c : List ℕ) → IsNoted app now x c → HaveSameDays app x c × HaveSameVehicles app x c × HaveSameSession app x c
noted_same app now x c (inl held) = still_same app x c held.1
noted_same app now x c (inr noted) = event_same app noted.1.place x c noted.1.takes.below noted.1.entry.outside

pub noting_same : (app : Application) (now : ℕ) (x c : List ℕ) → IsNoting app now x c → HaveSameDays app x c × HaveSameVehicles app x c × HaveSameSession app x c
noting_same app now x c noting = ⊎_elim
    (λ same. still_same app x c same)
    (λ changed. ⊎_elim
    (λ absent. event_same app noting.1.place x c noting.1.takes.below absent.outside)
    (λ replaced. event_same app noting.1.place x c noting.1.takes.below replaced.outside)
    changed) noting.1.entry

-- ---- a write on the days and the vehicle entries leaves the current use

pub use_same : (app : Application) (P : List Day → Vehicles → Type 0) (x c : List ℕ) → IsCard app P x c → current_use app c ≡ current_use app x
unfolding current_use
use_same app P x c is = ap current_use_of (current_same app P x c is)

-- ---- the end mark behind entries

owed_mark : (size : ℕ) (registration : Registration) (odometer limit : ℕ) (es : List Entry) (b : Book) → mark_of b < limit → AllByRecursion (λ e. e.minute < limit) es → mark_of (with_owed size registration odometer es b) < limit
owed_mark size registration odometer limit [] b low each = low
owed_mark size registration odometer limit (e ∷ es) b low each =
    owed_mark size registration odometer limit es (with_entry size registration odometer 0 b e) (subst (λ (n : ℕ). n < limit) (sym (used_at registration odometer e.minute b.vehicles)) each.0) each.1

pub repaired_mark : (size : ℕ) (registration : Registration) (odometer limit : ℕ) (owed : List Entry) → All (λ e. e.minute < limit) owed → (b : Book) → mark_of b < limit → mark_of (repaired size registration odometer owed b) < limit
repaired_mark size registration odometer limit owed each b low =
    owed_mark size registration odometer limit (lacked (mark_of b) owed) (with_cut (mark_of b) b) low
    (recursion_from_All (λ e. e.minute < limit) (lacked (mark_of b) owed) (lacked_each (λ e. e.minute < limit) (mark_of b) owed each))
