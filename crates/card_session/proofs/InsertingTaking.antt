-- An accepted card is taken over: repaired where its session was left open, and its session opened.
use Rattle.std.proofs.Common.{◌≡◌, ◌≢◌, inl, inr, ⊎_elim, ℕ, ◌/◌, max, Bool, true, false, List, [], ◌∷◌, Option, refl, sym, ◌∙◌, ap, subst}
use Rattle.activity_codec.specs.declared.entries.Entry.{Entry}
use Rattle.tacho_types.specs.declared.texts.Registration.{Registration}
use Rattle.tacho_types.specs.declared.numbers.Odometer.{Odometer}
use Rattle.card_layout.specs.declared.files.Application.{Application}
use Rattle.tach_media.specs.Medium.{State}
use Rattle.card_files.specs.declared.vehicle.Vehicle.{Vehicle}
use Rattle.card_files.specs.declared.current_use.CurrentUse.{CurrentUse}
use Rattle.card_days.specs.card_model.Days.{Day, total}
use Rattle.card_days.specs.card_model.Image.{newest_pointer}
use Rattle.card_validity.specs.card_retention.Entries.{newest_word}
use Rattle.card_days.specs.declared.head.Tail.{Tail}
use Rattle.card_days.specs.Held.{Held, Knows, tail_in, tail_by}
use Rattle.gated_ring.specs.Ring.{Shape}
use Rattle.card_validity.specs.card_image.Fields.{last_use_of, session_time}
use Rattle.card_session.specs.Books.{Book}
use Rattle.card_session.specs.Telling.{minute_told}
use Rattle.card_session.specs.Sessions.{Session, IsSession, IsOpenBook, KnowsCard, book_of}
use Rattle.card_session.specs.Parts.{DoesPart}
use Rattle.card_session.specs.Inserting.{Both, During, IsStill, IsRepaired, IsRepairing, IsNoted, IsNoting, IsShut, IsShutting, IsReopened, IsReopening, IsShutThen, IsShutThenMoment, IsStarted, IsStartMoment, Mends, IsSessionMended, IsMendMoment, InsertingOpen, Takes, IsTaken, IsTaking}
use Rattle.card_session.proofs.Composing.{parts_then, part_as, part_failed}
use Rattle.card_session.proofs.Told.{session}

pub newest_tail : (place used : ℕ) (ds : List Day) → minute_told (tail_by place used ds) ≡ newest_word ds
newest_tail place used [] = refl
newest_tail place used (d ∷ []) = refl
newest_tail place used (d ∷ e ∷ ds) = newest_tail place used (e ∷ ds)

-- THE NEWEST MINUTE taken anew
pub recounted : (p : Application) (h : Held) (r : Shape) (n : Option ℕ) (v : Option Vehicle) (g : Registration) (m k : ℕ) (o : Option Odometer) (s : Session) → session p h r n v g m o ≡ s → (tail : Option Tail)
    → ((x : List ℕ) (days : List Day) → Knows h x days → tail ≡ tail_in h.shape x days) → k ≡ max (last_use_of v / 60) (minute_told tail)
    → (x : List ℕ) → KnowsCard s x → IsOpenBook (book_of s.application x) → IsSession (session p h r n v g k o) x
recounted p h r n v g m k o s is tail told count x knows ready =
    let here : KnowsCard (session p h r n v g m o) x = subst (λ (t : Session). KnowsCard t x) (sym is) knows in
    let b : Book = book_of p x in
    record {
      card = record { days = here.days; points = here.points; newest = here.newest; vehicle = here.vehicle };
      book = subst (λ (t : Session). IsOpenBook (book_of t.application x)) (sym is) ready;
      minute = count
          ∙ ap (λ (t : Option Tail). max (last_use_of v / 60) (minute_told t)) (told x b.days here.days)
          ∙ ap (λ (n : ℕ). max (last_use_of v / 60) n) (newest_tail (newest_pointer h.shape x) (total b.days) b.days)
          ∙ ap (λ (w : Option Vehicle). max (last_use_of w / 60) (newest_word b.days)) here.vehicle;
    }

module _ (s : Session) (current : CurrentUse) (odometer : ℕ) (owed : List Entry) (now : ℕ) where
  abbrev app : Application
  app = s.application

  abbrev g : Registration
  g = s.registration

  time_is : (x : List ℕ) → Takes s current x → session_time app x ≡ current.session.0
  time_is x takes = ap (λ (u : CurrentUse). u.session.0) (sym takes.current_is)

  -- A CARD WITHOUT A SESSION
  module _ (none : current.session.0 ≡ 0) where
    zero_is : (x : List ℕ) → Takes s current x → session_time app x ≡ 0
    zero_is x takes = time_is x takes ∙ none

    pub taken_closed : {old new : State} (t u : Session) → DoesPart old new false (IsStarted s t now) (IsStartMoment s now) → ((y : List ℕ) → KnowsCard t y → IsOpenBook (book_of t.application y) → IsSession u y)
        → DoesPart old new false (IsTaken s u current odometer owed now) (IsTaking s current odometer owed now)
    taken_closed t u part counted =
        part_as part
        (λ x y was one takes. let a = one takes.knows (takes.ready (zero_is x takes), takes.mark) in (inl (zero_is x takes, a.0), counted y a.1 a.2))
        (λ x c was one takes. inl (zero_is x takes, one takes.knows (takes.ready (zero_is x takes), takes.mark)))

    pub closed_failed : {old new : State} {failed : Bool} (t u : Session) → DoesPart old new true (IsStarted s t now) (IsStartMoment s now) → failed ≡ true
        → DoesPart old new failed (IsTaken s u current odometer owed now) (IsTaking s current odometer owed now)
    closed_failed t u part is = part_failed part is (λ x c was one takes. inl (zero_is x takes, one takes.knows (takes.ready (zero_is x takes), takes.mark)))

  -- ONE WHOSE SESSION WAS LEFT OPEN
  module _ (some : current.session.0 ≢ 0) where
    some_is : (x : List ℕ) → Takes s current x → session_time app x ≢ 0
    some_is x takes = λ none. some (sym (time_is x takes) ∙ none)

    mends : (x : List ℕ) → Takes s current x → Mends s current x
    mends x takes = record { knows = takes.knows; current_is = takes.current_is; strict = takes.strict (some_is x takes); mark = takes.mark }

    mending : (x c : List ℕ) → During (IsStill app) (IsStill app) (During (IsRepairing app g odometer owed) (IsRepaired app g odometer owed) (IsNoting app now)) x c → InsertingOpen app g odometer owed now x c
    mending x c (inl still) = inl still
    mending x c (inr later) = inr (later.0, later.1, ⊎_elim (λ repairing. inl repairing) (λ last. inr (last.0, last.1, inl last.2)) later.2)

    pub open_failed : {old new : State} {failed : Bool} (t u : Session) → DoesPart old new true (IsSessionMended s t current odometer owed now) (IsMendMoment s current odometer owed now) → failed ≡ true
        → DoesPart old new failed (IsTaken s u current odometer owed now) (IsTaking s current odometer owed now)
    open_failed t u part is = part_failed part is (λ x c was one takes. inr (some_is x takes, mending x c (one (mends x takes))))

    module _ (t u w : Session) (same : t.application ≡ s.application) (same_g : t.registration ≡ s.registration) where
      behind : (x y c : List ℕ) → Both (IsStill app) (Both (IsRepaired app g odometer owed) (IsNoted app now)) x y → During (IsShutting app) (IsShut app) (IsReopening app g now) y c → InsertingOpen app g odometer owed now x c
      behind x y c a is = inr (a.0, a.1, inr (a.2.0, a.2.1, inr (y, a.2.2, is)))

      pub taken_open : {old mid new : State} {failed : Bool} → DoesPart old mid false (IsSessionMended s t current odometer owed now) (IsMendMoment s current odometer owed now)
          → DoesPart mid new failed (IsShutThen t u (IsReopened t.application t.registration now)) (IsShutThenMoment t (IsReopening t.application t.registration now))
          → ((y : List ℕ) → KnowsCard u y → IsOpenBook (book_of u.application y) → IsSession w y)
          → DoesPart old new failed (IsTaken s w current odometer owed now) (IsTaking s current odometer owed now)
      taken_open first next counted =
          parts_then first next
          (λ x y z was one two takes.
          let a = one (mends x takes) in
          let d = two a.1 a.2 in
          let both = a.0 in
          let sized = subst (λ (p : Application). Both (IsShut p) (IsReopened p t.registration now) y z) same d.0 in
          let here = subst (λ (r : Registration). Both (IsShut app) (IsReopened app r now) y z) same_g sized in
          (inr (some_is x takes, (both.0, both.1, (both.2.0, both.2.1, (y, both.2.2, here)))), counted z d.1 d.2))
          (λ x c was one takes. inr (some_is x takes, mending x c (one (mends x takes))))
          (λ x y c was one moment takes.
          let a = one (mends x takes) in
          let sized = subst (λ (p : Application). During (IsShutting p) (IsShut p) (IsReopening p t.registration now) y c) same (moment a.1 a.2) in
          inr (some_is x takes, behind x y c a.0 (subst (λ (r : Registration). During (IsShutting app) (IsShut app) (IsReopening app r now) y c) same_g sized)))

      -- or the closing, or the opening, failed
      pub renew_failed : {old mid new : State} {failed : Bool} → DoesPart old mid false (IsSessionMended s t current odometer owed now) (IsMendMoment s current odometer owed now)
          → DoesPart mid new true (IsShutThen t u (IsReopened t.application t.registration now)) (IsShutThenMoment t (IsReopening t.application t.registration now)) → failed ≡ true
          → DoesPart old new failed (IsTaken s w current odometer owed now) (IsTaking s current odometer owed now)
      renew_failed {old} {mid} {new} {failed} first next is =
          let both : DoesPart old new true (λ x z. Unit {0}) (IsTaking s current odometer owed now) =
          parts_then first next (λ x y z was one two. tt)
          (λ x c was one takes. inr (some_is x takes, mending x c (one (mends x takes))))
          (λ x y c was one moment takes.
          let a = one (mends x takes) in
          let sized = subst (λ (p : Application). During (IsShutting p) (IsShut p) (IsReopening p t.registration now) y c) same (moment a.1 a.2) in
          inr (some_is x takes, behind x y c a.0 (subst (λ (r : Registration). During (IsShutting app) (IsShut app) (IsReopening app r now) y c) same_g sized))) in
          part_failed both is (λ x c was one. one)
