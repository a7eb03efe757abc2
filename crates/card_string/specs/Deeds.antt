-- What sessions have made of a card's days and of its vehicle entries since an image of it, deed by deed (profile).
use Rattle.std.specs.Prelude.{◌≡◌, ℕ, ◌<◌, ◌≤◌, List, [], ◌∷◌, ◌++◌}
use Rattle.std.specs.List.{AllByRecursion}
use Rattle.card_by_hand.specs.activity_codec.declared.values.Activity.{Activity}
use Rattle.card_by_hand.specs.activity_codec.declared.entries.Entry.{Entry}
use Rattle.card_by_hand.specs.activity_codec.declared.entries.Manual.{Manual}
use Rattle.tach_media.specs.card_layout.declared.files.Application.{Application}
use Rattle.card_by_hand.specs.tacho_types.declared.texts.Registration.{Registration}
use Rattle.card_by_hand.specs.card_session.Books.{Book, mark_of, with_entry, closed}
use Rattle.card_by_hand.specs.card_session.Sessions.{book_of}
use Rattle.card_by_hand.specs.card_session.Moments.{IsKeepMoment, IsCloseMoment}
use Rattle.card_by_hand.specs.card_session.ByHand.{by_hand, IsByHandMoment}
use Rattle.card_by_hand.specs.card_session.Inserting.{with_cut, IsCutting}

-- an entry that is kept: in which vehicle, with which odometer value, and how many km behind the one before
pub record EntryKept : Type 0 where
  pub entry : Entry
  pub registration : Registration
  pub odometer : ℕ
  pub km : ℕ

-- WHAT A SESSION DOES: it keeps an entry; it writes an entry by hand; it closes the words of the last one with an
-- activity, where its minute has room for that, and moves the end mark there; or, where another session was left open,
-- it cuts the days at the end mark.
pub data Deed : Type 0 where
  Keep : EntryKept → Deed
  Enter : Manual → Deed
  Close : Activity → Deed
  Cut : Deed

-- what that makes of the days, with their words and distances, and of the vehicle entries
abbrev pub after : (size : ℕ) → Deed → Book → Book
after size (Keep k) b = with_entry size k.registration k.odometer k.km b k.entry
after size (Enter h) b = by_hand size h b
after size (Close act) b = closed size act b
after size Cut b = with_cut (mark_of b) b

-- and a moment of it
abbrev pub IsDuring : (size : ℕ) → Deed → (b c : Book) → Type 0
IsDuring size (Keep k) b c = IsKeepMoment size k.registration k.odometer k.km k.entry b c.days c.vehicles
IsDuring size (Enter h) b c = IsByHandMoment size h b c.days c.vehicles
IsDuring size (Close act) b c = IsCloseMoment size act b c.days c.vehicles
IsDuring size Cut b c = IsCutting (mark_of b) b c.days c.vehicles

-- a deed that was done, or that was broken off at a moment of it
pub data Step : Type 0 where
  Done : Deed → Step
  Broken : Deed → Step

-- what a step makes of a book
abbrev pub Makes : (size : ℕ) → Step → (b c : Book) → Type 0
Makes size (Done d) b c = c ≡ after size d b
Makes size (Broken d) b c = IsDuring size d b c

-- ONE BOOK IS MADE OF ANOTHER by steps, one after the other
abbrev pub MadeBy : (size : ℕ) → List Step → (b c : Book) → Type 0
MadeBy size [] b c = c ≡ b
MadeBy size (s ∷ ss) b c = (y : Book) × Makes size s b y × MadeBy size ss y c

-- the entry of a keep that is done
abbrev pub kept_by : Step → List Entry
kept_by (Done (Keep k)) = k.entry ∷ []
kept_by (Done (Enter h)) = []
kept_by (Done (Close act)) = []
kept_by (Done Cut) = []
kept_by (Broken d) = []

-- the entries of the keeps that are done
abbrev pub kept_in : List Step → List Entry
kept_in [] = []
kept_in (s ∷ ss) = kept_by s ++ kept_in ss

-- EACH KEEP, done or broken off, is that of the next entry: of all these, behind those that were kept
abbrev pub AreNext : List Step → (all : List Entry) → Type 0
AreNext [] all = Unit {0}
AreNext (Done (Keep k) ∷ ss) [] = ⊥
AreNext (Done (Keep k) ∷ ss) (e ∷ all) = (k.entry ≡ e) × AreNext ss all
AreNext (Done (Enter h) ∷ ss) all = AreNext ss all
AreNext (Done (Close act) ∷ ss) all = AreNext ss all
AreNext (Done Cut ∷ ss) all = AreNext ss all
AreNext (Broken (Keep k) ∷ ss) [] = ⊥
AreNext (Broken (Keep k) ∷ ss) (e ∷ all) = (k.entry ≡ e) × AreNext ss (e ∷ all)
AreNext (Broken (Enter h) ∷ ss) all = AreNext ss all
AreNext (Broken (Close act) ∷ ss) all = AreNext ss all
AreNext (Broken Cut ∷ ss) all = AreNext ss all

-- by keeps of exactly these entries, in their order, with entries by hand, closings and cuts between them; and of all
-- these entries no keep was begun but that of the next
pub record IsMadeOf (size : ℕ) (start : Book) (more all : List Entry) (b : Book) : Type 0 where
  pub steps : List Step
  pub kept : kept_in steps ≡ more
  pub next : AreNext steps all
  pub made : MadeBy size steps start b

-- THE DAYS of a card, with their words and distances, AND ITS VEHICLE ENTRIES, all of them, are those that the keeps of
-- these entries make of an image at the start, with those that were broken off, each of the next of all that it is to
-- have.
pub record IsMade (app : Application) (image : List ℕ) (more all : List Entry) (x : List ℕ) : Type 0 where
  pub deeds : IsMadeOf app.activity (book_of app image) more all (book_of app x)

-- ---- since a minute

-- it keeps none but of a later minute
abbrev pub IsLaterStep : (minute : ℕ) → Step → Type 0
IsLaterStep minute (Done (Keep k)) = minute < k.entry.minute
IsLaterStep minute (Done (Enter h)) = Unit {0}
IsLaterStep minute (Done (Close act)) = Unit {0}
IsLaterStep minute (Done Cut) = Unit {0}
IsLaterStep minute (Broken (Keep k)) = minute < k.entry.minute
IsLaterStep minute (Broken (Enter h)) = Unit {0}
IsLaterStep minute (Broken (Close act)) = Unit {0}
IsLaterStep minute (Broken Cut) = Unit {0}

-- ONE IMAGE IS MADE OF ANOTHER since a minute: its days, with their words and distances, and its vehicle entries, by
-- keeps of later minutes, entries by hand, closings and cuts, each done or broken off.
pub record IsMadeSince (app : Application) (minute : ℕ) (z x : List ℕ) : Type 0 where
  pub steps : List Step
  pub later : AllByRecursion (IsLaterStep minute) steps
  pub made : MadeBy app.activity steps (book_of app z) (book_of app x)

-- ONE IMAGE GOES ON FROM ANOTHER: since each minute that the other's end mark counts it is made of it.
abbrev pub IsMadeOn : (app : Application) → (x y : List ℕ) → Type 0
IsMadeOn app x y = (minute : ℕ) → minute ≤ mark_of (book_of app x) → IsMadeSince app minute x y
