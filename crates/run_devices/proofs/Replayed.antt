-- The string of an image over an insertion: at each moment, and where the card is accepted.
use Rattle.std.proofs.Common.{◌≡◌, ◌⊎◌, inl, inr, ⊎_elim, ℕ, max, ◌<◌, ◌≤◌, Bool, true, cond, List, [], ◌∷◌, ◌++◌, length, refl, ap, subst, ◌∙◌, sym, arith}
use Rattle.std.specs.Prelude.{nat_lt}
use Rattle.std.proofs.lemmas.Bool.Decides.{nat_tests}
use Rattle.device_calls.specs.activity_codec.declared.entries.Entry.{Entry}
use Rattle.device_calls.specs.tacho_types.declared.texts.Registration.{Registration}
use Rattle.tach_media.specs.card_layout.declared.files.Application.{Application}
use Rattle.tach_media.specs.card_layout.Application.{IsApplication}
use Rattle.tach_media.specs.card_layout.Files.{image_size_of}
use Rattle.device_calls.specs.card_retention.Entries.{newest_minute, newest_word}
use Rattle.device_calls.specs.card_retention.Shown.{AllUpTo}
use Rattle.device_calls.specs.card_image.Fields.{card_days, end_mark, session_time}
use Rattle.device_calls.specs.card_image.Judging.{IsValid}
use Rattle.device_calls.specs.card_image.View.{card_view}
use Rattle.device_calls.specs.card_session.Sessions.{Session, IsSession, newest_in, book_of}
use Rattle.device_calls.specs.card_session.Inserting.{AreOwed, Follow, lacked, InsertsClosed, InsertingClosed, InsertsOpen, InsertingOpen}
use Rattle.device_calls.specs.card_session.Repairs.{first_minute, newest_behind, lacked_by}
use Rattle.device_calls.proofs.card_session.Ends.{closed_end}
use Rattle.device_calls.proofs.card_session.InsertingBooks.{lacked_follow}
use Rattle.device_calls.proofs.card_session.NewestStays.{view_word}
use Rattle.device_calls.specs.hand_model.Written.{Hands, entries_of}
use Rattle.device_calls.specs.card_string.Since.{GoesSince, BrokeSince, HoldsSince, SitsSince}
use Rattle.device_calls.proofs.card_string.Lists.{SameParts, same_parts}
use Rattle.device_calls.proofs.card_string.OfCards.{open_holds, all_at, sits_at, shut_goes, shut_inserting}
use Rattle.device_calls.proofs.card_string.Since.{later_holds, holds_up}

-- entries that follow an end mark are all lacked
is-later : (m n : ℕ) → m < n → nat_lt m n ≡ true
is-later m n lt = grind (arith, nat_tests)

pub lacks-all : (mark : ℕ) (es : List Entry) → Follow mark es → lacked mark es ≡ es
lacks-all mark [] follow = refl
lacks-all mark (e ∷ es) follow = ap (λ (b : Bool). cond b (e ∷ es) (lacked mark es)) (is-later mark e.minute follow.0)

-- behind an entry that is lacked no bound matters
pub holds-any : (app : Application) (image : List ℕ) (hd : Hands) (brought : List Entry) (n next : ℕ) (x : List ℕ) (h : HoldsSince app image hd brought n x) → (h.rest ≡ [] → n ≤ next) → HoldsSince app image hd brought next x
holds-any app image hd brought n next x h low = by h.rest refl
  where
    by : (es : List Entry) → h.rest ≡ es → HoldsSince app image hd brought next x
    by [] is = later_holds app image hd brought n next x (low is) h
    by (e ∷ es) is = record {
      written = h.written;
      rest = e ∷ es;
      split = h.split ∙ ap (λ (l : List Entry). entries_of h.written ++ l) is;
      lie = h.lie;
      behind = subst (Follow (end_mark app x)) is h.behind;
      stands = ⊎_elim (λ goes. inl goes) (λ broke. inr (record { session = broke.session; from = broke.from; later = broke.later; left = broke.left; tied = broke.tied; marked = broke.marked }))
          (subst (λ (l : List Entry). GoesSince app image h.written (first_minute n l) x ⊎ BrokeSince app image h.written l n x) is h.stands);
    }

minute-told : (app : Application) (y : List ℕ) → newest_in (book_of app y) ≡ max (end_mark app y) (newest_word (card_days app y))
unfolding book_of
minute-told app y = refl

pub minute-is : (app : Application) (y : List ℕ) (t : Session) → t.application ≡ app → IsSession t y → t.minute ≡ max (end_mark app y) (newest_word (card_days app y))
minute-is app y t same knows = knows.minute ∙ ap (λ (a : Application). newest_in (book_of a y)) same ∙ minute-told app y

-- ---- of a card whose session was left open

module _ (app : Application) (registration : Registration) (odometer now : ℕ) (owed : List Entry) (image : List ℕ) (hd : Hands) (done : List Entry) (n : ℕ) (x : List ℕ) (sound : IsApplication app) (fits : image_size_of app ≤ length x) (long : length registration.0 ≡ 15) (are : AreOwed now owed)
    (valid : IsValid app x) (session : 0 < session_time app x) (up : AllUpTo (end_mark app x) done) (h : HoldsSince app image hd (done ++ lacked_by app x owed) n x) (next : ℕ) (low : lacked_by app x owed ≡ [] → n ≤ next) (late : newest_behind (card_view app x).newest (lacked_by app x owed) < next) where
  ordered : Follow (end_mark app x) (lacked_by app x owed)
  ordered = lacked_follow 1439 (end_mark app x) owed are.0

  parts : SameParts (entries_of h.written) h.rest done (lacked_by app x owed)
  parts = same_parts (end_mark app x) (entries_of h.written) h.rest done (lacked_by app x owed) (sym h.split) (holds_up app image hd (done ++ lacked_by app x owed) n x h) up h.behind ordered

  wide : HoldsSince app image hd (done ++ lacked_by app x owed) next x
  wide = holds-any app image hd (done ++ lacked_by app x owed) n next x h (λ none. low (sym parts.second ∙ none))

  -- at each moment
  pub replays : (y : List ℕ) → InsertingOpen app registration odometer owed now x y → HoldsSince app image hd (done ++ lacked_by app x owed) next y
  replays y inserting = open_holds app registration odometer now owed image hd done next x sound fits long are valid session up wide next (omega arith) late y inserting

  -- at its end
  pub replayed-goes : (y : List ℕ) → InsertsOpen app registration odometer owed now x y → SitsSince app image hd (done ++ lacked_by app x owed) next y
  replayed-goes y inserts = sits_at app registration odometer now owed image hd done next x sound fits long are valid session up wide next (omega arith) late y inserts

  pub replayed-minute : (y : List ℕ) (t : Session) → InsertsOpen app registration odometer owed now x y → t.application ≡ app → IsSession t y → t.minute ≡ newest_behind (card_view app x).newest (lacked_by app x owed)
  replayed-minute y t inserts same knows =
      let all = all_at app registration odometer now owed image hd done next x sound fits long are valid session up wide next (omega arith) late y inserts in
      omega (arith, minute-is app y t same knows, all.mark, all.word, view_word app y)

-- ---- of a card without a session, to which nothing is owed

module _ (app : Application) (registration : Registration) (now : ℕ) (image : List ℕ) (hd : Hands) (brought : List Entry) (n : ℕ) (x : List ℕ) (sound : IsApplication app) (fits : image_size_of app ≤ length x) (long : length registration.0 ≡ 15) (valid : IsValid app x)
    (none : session_time app x ≡ 0) (up : AllUpTo (end_mark app x) brought) (h : HoldsSince app image hd brought n x) (next : ℕ) (le : n ≤ next) (late : newest_minute (end_mark app x) (card_days app x) < next) where
  pub shut-holds : (y : List ℕ) → InsertingClosed app registration now x y → HoldsSince app image hd brought next y
  shut-holds y inserting = shut_inserting app registration now image hd brought n x sound fits long valid none up h next le late y inserting

  pub shut-goes : (y : List ℕ) → InsertsClosed app registration now x y → SitsSince app image hd brought next y
  shut-goes y inserts = shut_goes app registration now image hd brought n x sound fits long valid none up h next le late y (closed_end app registration 0 now [] x y inserts)
