-- A download over a noisy link as it goes, and what of it is on the wire: each request when it is sent first, and each
-- answer when it is taken.
use Rattle.std.specs.Prelude.{◌≡◌, ℕ, ◌+◌, ◌<◌, ◌≤◌, Bool, true, false, List, [], ◌∷◌, ◌++◌, Option, Some, None, IfSome}
use Rattle.std.specs.Prelude.{slice_get, Result, Ok, Err}
use Rattle.std.specs.List.{AllByRecursion}
use Rattle.std.specs.Io.KnownBytes.{Appends}
use Rattle.card_layout.specs.Fields.{IsBytes}
use Rattle.unit_messages.specs.declared.joining.TheConstants.{LONGEST}
use Rattle.link_model.specs.Answers.{Idle}
use Rattle.link_session.specs.Told.{SessionView, Knows, fresh}
use Rattle.link_loader.specs.Loading.{Load, Takes, begun}
use Rattle.unit_download.specs.declared.wire.Passed.{Passed}
use Rattle.unit_download.specs.declared.fault.DownloadFault.{DownloadFault}
use Rattle.unit_download.specs.Wires.{of_loader, of_unit}
use Rattle.noisy_model.specs.declared.event.Event.{Event}
use Rattle.noisy_model.specs.declared.event.Event.TheVariants.{Send, ToUnit, ToLoader}
use Rattle.noisy_model.specs.Ends.{Sides, Taken, request_of}
use Rattle.noisy_model.specs.Worlds.{World, fresh_world, Passes}
use Rattle.noisy_link.specs.Sides.{Sized, IsReply, asked, puts_of}
use Rattle.noisy_link.specs.Steps.{frame_of, brought_by}
use Rattle.unit_download.specs.Ending.{IsDownloaded}

-- a loader, and the exchanges that have passed with it
pub record Listing : Type 0 where
  pub load : Load
  pub exchanges : List Passed

-- it takes an answer as it does, and the exchange is listed
pub record ListTakes (old : Listing) (frame : List ℕ) (new : Listing) (put : List ℕ) : Type 0 where
  pub takes : Takes old.load.loading frame new.load.loading put
  pub request : List ℕ
  pub asks : asked old.load ≡ Some request
  pub lists : new.exchanges ≡ old.exchanges ++ of_loader request ∷ of_unit frame ∷ []

-- it asks by the frame of its stage
abbrev pub asked_by : Listing → Option (List ℕ)
asked_by l = asked l.load

-- the two sides of a download, the one that asks with what has passed
abbrev pub listing_sides : (image : Option (List ℕ)) → Sides SessionView Listing
listing_sides image = record { asks = asked_by; Answers = IsReply image; Takes = ListTakes }

-- a loader with the exchanges that have passed with it
abbrev pub listing : Load → List Passed → Listing
listing load exchanges = record { load = load; exchanges = exchanges }

-- a world with these exchanges
abbrev pub with_list : World SessionView Load → List Passed → World SessionView Listing
with_list w exchanges = record {
  sent = w.sent;
  answers = w.answers;
  unit = w.unit;
  loader = record { number = w.loader.number; side = listing w.loader.side exchanges };
}

-- the request that is asked now was not sent, and the unit has answered none but those before
pub record IsUnsent (w : World SessionView Load) : Type 0 where
  pub none : AllByRecursion (λ p. p.number < w.loader.number) w.sent
  pub waits : w.unit.last + 1 ≡ w.loader.number

-- the wire has the exchanges that have passed, and behind them the request that is asked now where it was listed
abbrev pub Lists : (listed : Bool) → (exchanges : List Passed) → World SessionView Load → (wire : List Passed) → Type 0
Lists true exchanges w wire = (sent : List ℕ) × (asked w.loader.side ≡ Some sent)
    × (wire ≡ exchanges ++ of_loader sent ∷ [])
Lists false exchanges w wire = (wire ≡ exchanges) × IsUnsent w

-- the request that is asked now goes to the wire, if there is one and it is not there
abbrev pub RequestIsListed : (listed : Bool) → Option (List ℕ) → (wire : List Passed) → (now : Bool)
    → (grown : List Passed) → Type 0
RequestIsListed true asks wire now grown = (now ≡ true) × (grown ≡ wire)
RequestIsListed false None wire now grown = (now ≡ false) × (grown ≡ wire)
RequestIsListed false (Some frame) wire now grown = (now ≡ true) × (grown ≡ wire ++ of_loader frame ∷ [])

-- so does an answer that is brought, and the next request is not there
abbrev pub AnswerIsListed : Option (List ℕ) → (listed : Bool) → (wire : List Passed) → (now : Bool)
    → (grown : List Passed) → Type 0
AnswerIsListed None listed wire now grown = (now ≡ listed) × (grown ≡ wire)
AnswerIsListed (Some frame) listed wire now grown = (now ≡ false) × (grown ≡ wire ++ of_unit frame ∷ [])

-- what an event adds to the wire
abbrev pub IsListed : World SessionView Load → (listed : Bool) → Event → (wire : List Passed) → (now : Bool)
    → (grown : List Passed) → Type 0
IsListed w listed Send wire now grown = RequestIsListed listed (frame_of (request_of asked w.loader)) wire now grown
IsListed w listed (ToUnit place) wire now grown = (now ≡ listed) × (grown ≡ wire)
IsListed w listed (ToLoader place) wire now grown = AnswerIsListed (brought_by w (slice_get w.answers place)) listed
    wire now grown

-- A DOWNLOAD OVER A NOISY LINK AS IT GOES, over a unit that tells this image, or none: some events have passed, what
-- the answers that were taken put out has gone to the sink, and the wire has each exchange.
pub record IsUnderway (image held : Option (List ℕ)) (w : World SessionView Load) (listed : Bool) (wire : List Passed)
    (sunk : Option (List ℕ)) : Type 0 where
  pub load : Load
  pub begins : load.loading ≡ begun
  pub events : List Event
  pub took : List Taken
  pub exchanges : List Passed
  pub passes : Passes (listing_sides image) (fresh_world (fresh Idle) (listing load [])) events (with_list w exchanges)
      took
  pub put : Appends held sunk (puts_of took)
  pub lists : Lists listed exchanges w wire
  pub knows : IfSome image (Knows w.unit.side)
  pub room : LONGEST ≤ w.loader.side.room
  pub sized : Sized image
  pub bytes : IfSome image IsBytes

-- it goes on, or it has ended
abbrev pub DownloadGoesOn : Result (Unit {0}) DownloadFault → (image held : Option (List ℕ)) → World SessionView Load
    → (listed : Bool) → (wire : List Passed) → (sunk : Option (List ℕ)) → Type 0
DownloadGoesOn (Ok done) image held w listed wire sunk = IsUnderway image held w listed wire sunk
DownloadGoesOn (Err fault) image held w listed wire sunk = IsDownloaded (Err fault) image wire held sunk
