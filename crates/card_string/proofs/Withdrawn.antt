-- A withdrawal at each of its moments, and at its end.
use Rattle.std.proofs.Common.{◌≡◌, inl, inr, ⊎_elim, ℕ, ◌/◌, ◌<◌, ◌≤◌, List, length, sym, ◌∙◌, ap, subst, arith}
use Rattle.card_by_hand.specs.activity_codec.declared.entries.Entry.{Entry}
use Rattle.card_by_hand.specs.activity_codec.declared.values.Activity.{Activity}
use Rattle.tach_media.specs.card_layout.Application.{IsApplication}
use Rattle.tach_media.specs.card_layout.Files.{image_size_of}
use Rattle.tach_media.specs.card_layout.declared.files.Application.{Application}
use Rattle.card_by_hand.specs.card_retention.Expected.{Counted}
use Rattle.card_by_hand.specs.card_retention.Entries.{newest_minute}
use Rattle.card_by_hand.specs.card_retention.Shown.{Bound, is_open}
use Rattle.card_by_hand.specs.card_image.Fields.{card_days, end_mark}
use Rattle.card_by_hand.specs.card_session.Books.{closed}
use Rattle.card_by_hand.specs.card_session.Moments.{IsBook, IsCloseMoment}
use Rattle.card_by_hand.specs.card_session.Sessions.{Session, IsSession, book_of}
use Rattle.card_by_hand.specs.card_session.Cards.{IsCard, IsCardClosing, IsCardClosed, ended}
use Rattle.card_by_hand.proofs.card_session.Marks.{session_same, mark_told}
use Rattle.card_by_hand.proofs.card_session.Stopping.{days_there, mark_at, ended_days, ended_mark}
use Rattle.card_by_hand.proofs.card_session.Committed.{close_shows}
use Rattle.card_string.specs.Carried.{StringFollowsEntries}
use Rattle.card_string.proofs.Moved.{goes_moved}
use Rattle.card_string.specs.Closes.{IsClosedShown, IsCloseShown}
use Rattle.card_string.proofs.Shutting.{close_broke, close_done}

module _ (s : Session) (act : Activity) (x : List ℕ) (slack : Bound) (covered from next : ℕ) (c : Counted) (all : List Entry) (sound : IsApplication s.application) (later : from ≤ next) (late : newest_minute (end_mark s.application x) (card_days s.application x) < next)
    (least : 16 ≤ slack.bytes) (knows : IsSession s x) (g : StringFollowsEntries s.application slack covered from c all x) where
  abbrev app : Application
  app = s.application

  -- with the old end mark
  still : (y : List ℕ) → IsCard s.application (IsCloseMoment s.application.activity act (book_of s.application x)) x y → end_mark s.application y ≡ end_mark s.application x → IsCloseShown s.application slack covered next c all x y
  still y card at = inl (
    session_same app (IsCloseMoment s.application.activity act (book_of s.application x)) x y card,
    at,
    close_broke app sound x (days_there s x knows) knows.book act slack covered from next c all least later late g y card at,
  )

  -- with the closing word, and the end mark at it
  goes : (y : List ℕ) → IsCard s.application (IsCloseMoment s.application.activity act (book_of s.application x)) x y → IsBook (closed s.application.activity act (book_of s.application x)) (book_of s.application y).days (book_of s.application y).vehicles
      → IsClosedShown s.application slack covered next c all x y
  goes y card book =
      close_done app sound x (days_there s x knows) knows.book act slack covered from next c all least later late g y card.holds.ordered book (close_shows app sound x (days_there s x knows) all g.until g.lists act y card)

  -- ended, behind that
  ended_goes : (k : List ℕ) → image_size_of s.application ≤ length x → IsCard s.application (IsBook (closed s.application.activity act (book_of s.application x))) x k → IsClosedShown s.application slack covered next c all x (ended s.application k)
  ended_goes k fits card =
      let room : image_size_of app ≤ length k = omega (arith, fits, card.outside.same_length) in
      let before = goes k (record { outside = card.outside; holds = card.holds; points = card.points; told = inr card.told }) card.told in
      let mark : end_mark app (ended app k) ≡ end_mark app k = ended_mark app sound k room card.points in
      let days : card_days app (ended app k) ≡ card_days app k = ended_days app sound k room card.points in
      record {
        goes = goes_moved app slack covered next c all k (ended app k) days mark before.goes;
        day = ap (λ (n : ℕ). n / 1440) mark ∙ before.day;
        shut = ap (λ (n : ℕ). is_open n (card_days app (ended app k))) mark ∙ ap (is_open (end_mark app k)) days ∙ before.shut;
      }

  pub withdrawn : (y : List ℕ) → image_size_of s.application ≤ length x → IsCardClosed s act x y → IsClosedShown s.application slack covered next c all x y
  withdrawn y fits done = subst (λ (l : List ℕ). IsClosedShown s.application slack covered next c all x l) (sym done.session) (ended_goes done.before fits done.card)

  pub close_shown : (y : List ℕ) → image_size_of s.application ≤ length x → IsCardClosing s act x y → IsCloseShown s.application slack covered next c all x y
  close_shown y fits (inl card) = ⊎_elim
      (λ old. still y card (mark_at app (book_of s.application x) y old.0 ∙ sym (mark_told app x)))
      (λ book. inr (goes y card book))
      card.told
  close_shown y fits (inr done) = inr (withdrawn y fits done)
