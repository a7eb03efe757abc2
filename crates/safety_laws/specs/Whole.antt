-- A session of a card, whole (profile): its insertion, its keeps and its withdrawal, from whatever valid card on.
use Rattle.std.specs.Prelude.{◌≡◌, ℕ, ◌<◌, ◌≤◌, ◌^◌, cond, List, [], ◌∷◌, ◌++◌, length, All, nat_eq}
use Rattle.activity_codec.specs.declared.entries.Entry.{Entry}
use Rattle.activity_codec.specs.declared.values.Activity.{Activity}
use Rattle.tacho_types.specs.declared.texts.Registration.{Registration}
use Rattle.card_layout.specs.Application.{IsApplication}
use Rattle.card_layout.specs.Files.{image_size_of}
use Rattle.card_retention.specs.Shown.{AllUpTo}
use Rattle.card_image.specs.Fields.{session_time, end_mark}
use Rattle.card_image.specs.Own.{own_sizes, IsOwnValid}
use Rattle.card_session.specs.Sessions.{Session, IsSession}
use Rattle.card_session.specs.Cards.{IsCardKept, IsCardKeeping, IsCardClosing}
use Rattle.card_session.specs.Inserting.{AreOwed, Follow, IsCardInserted, IsCardInserting}
use Rattle.card_session.specs.Repairs.{lacked_by}
use Rattle.card_string.specs.Each.{KeepsSince}

-- a card that may be inserted: an image of bytes that is long enough for its sizes, and valid
pub record IsInsertable (image : List ℕ) : Type 0 where
  pub bytes : All (λ b. b < 256) image
  pub sizes : IsApplication (own_sizes image)
  pub fits : image_size_of (own_sizes image) ≤ length image
  pub valid : IsOwnValid image

-- what an insertion brings: where a session was left open, those owed entries that the card lacks
abbrev pub brought_in : (image : List ℕ) → (owed : List Entry) → List Entry
brought_in image owed = cond (nat_eq (session_time (own_sizes image) image) 0) []
    (lacked_by (own_sizes image) image owed)

-- an insertion is asked for in this second, with these entries
pub record MayBegin (registration : Registration) (now : ℕ) (owed : List Entry) : Type 0 where
  pub long : length registration.0 ≡ 15
  pub some : 1 ≤ now
  pub few : now < 2 ^ 32
  pub are : AreOwed now owed

-- A SESSION SO FAR without an entry by hand, of a card that had this image: it was inserted, and then entries were
-- kept, each later than the newest minute. These entries were brought; the session knows this, and the card is so.
pub data IsSitting (image : List ℕ) : List Entry → Session → List ℕ → Type 0 where
  inserted : (registration : Registration) (odometer now : ℕ) (owed : List Entry) (s : Session) (x : List ℕ)
      → MayBegin registration now owed →
      IsCardInserted (own_sizes image) registration odometer owed now image x → s.application ≡ own_sizes image
      → IsSession s x → IsSitting image (brought_in image owed) s x
  kept : (brought : List Entry) (s t : Session) (e : Entry) (odometer : ℕ) (x y : List ℕ) → IsSitting image brought s x
      → s.minute < e.minute →
      IsCardKept s t e odometer x y → t.application ≡ s.application → IsSitting image (brought ++ e ∷ []) t y

-- A MOMENT of it, with the entries that were brought so far: an image that a stop may leave in its insertion, in a
-- keep, or in its withdrawal, or at its end.
pub data IsMoment (image : List ℕ) : List Entry → List ℕ → Type 0 where
  inserting : (registration : Registration) (odometer now : ℕ) (owed : List Entry) (x : List ℕ)
      → MayBegin registration now owed →
      IsCardInserting (own_sizes image) registration odometer owed now image x
      → IsMoment image (brought_in image owed) x
  keeping : (brought : List Entry) (s : Session) (e : Entry) (odometer : ℕ) (x y : List ℕ) → IsSitting image brought s x
      → s.minute < e.minute →
      IsCardKeeping s e odometer x y → IsMoment image (brought ++ e ∷ []) y
  closing : (brought : List Entry) (s : Session) (act : Activity) (x y : List ℕ) → IsSitting image brought s x
      → IsCardClosing s act x y → IsMoment image brought y

-- WHAT SUCH AN IMAGE SHOWS: the card is valid, with its sizes and its length; of its own entries and the brought ones,
-- those up to its end mark are there, but for what the stated overwriting took; and these are the first of the brought
-- ones: the others, which it lacks, are later.
pub record IsShown (image : List ℕ) (brought : List Entry) (x : List ℕ) : Type 0 where
  pub sizes : own_sizes x ≡ own_sizes image
  pub long : length x ≡ length image
  pub valid : IsOwnValid x
  pub keeps : KeepsSince image [] brought x
  pub first : List Entry
  pub rest : List Entry
  pub split : brought ≡ first ++ rest
  pub there : AllUpTo (end_mark (own_sizes image) x) first
  pub lacked : Follow (end_mark (own_sizes image) x) rest
