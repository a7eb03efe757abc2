-- What leaves the days and the vehicle entries of a card leaves what a session goes by.
use Rattle.std.proofs.Common.{◌≡◌, ℕ, List, ◌∙◌, ap}
use Rattle.tach_media.specs.card_layout.declared.files.Application.{Application}
use Rattle.tach_media.specs.card_layout.Application.{IsApplication}
use Rattle.card_by_hand.specs.card_model.Days.{Day}
use Rattle.card_by_hand.specs.gated_ring.Ring.{PointsInside}
use Rattle.card_by_hand.specs.card_image.Fields.{vehicle_ring, card_days}
use Rattle.card_by_hand.specs.card_image.Beside.{HaveSameDays, HaveSameVehicles}
use Rattle.card_by_hand.proofs.card_image.Beside.{days_same}
use Rattle.card_by_hand.specs.card_session.Books.{Book}
use Rattle.card_by_hand.specs.card_session.Vehicles.{Vehicles, vehicles_of}
use Rattle.card_by_hand.specs.card_session.Sessions.{book_of}
use Rattle.card_by_hand.proofs.card_session.OnCard.{ring_shape}
use Rattle.card_by_hand.proofs.card_session.Round.{vehicles_same}

module _ (app : Application) (sound : IsApplication app) (x c : List ℕ) (known : PointsInside (vehicle_ring app) x) (days : HaveSameDays app x c) (vehicles : HaveSameVehicles app x c) where
  pub same_book : book_of app c ≡ book_of app x
  unfolding book_of
  same_book =
      ap (λ (v : Vehicles). let b : Book = record { days = card_days app c; vehicles = v } in b) (vehicles_same app (ring_shape app sound) x c vehicles known)
      ∙ ap (λ (ds : List Day). let b : Book = record { days = ds; vehicles = vehicles_of app x } in b) (days_same app x c days)
