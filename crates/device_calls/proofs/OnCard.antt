-- A card keeps its entry: what its images show is a step of the joint rule.
use Rattle.std.proofs.Common.{◌≡◌, inl, inr, ⊎_elim, ℕ, suc, ◌/◌, ◌<◌, ◌≤◌, max, Bool, true, false, Option, Some, None, is_some, IfSome, List, [], ◌∷◌, ◌++◌, All, refl, ap, subst, ◌∙◌, sym, arith}
use Rattle.std.specs.Prelude.{OnOk, Result, Ok, Err}
use Rattle.activity_codec.specs.declared.entries.Entry.{Entry}
use Rattle.activity_codec.specs.declared.entries.Manual.{Manual}
use Rattle.trace_model.specs.declared.Card.{Card}
use Rattle.trace_model.specs.declared.Card.TheVariants.{A, B}
use Rattle.tach_media.specs.Medium.{State, IsCoherent, LeavesOnly}
use Rattle.tach_media.proofs.Runs.{at_image, weaken}
use Rattle.card_layout.specs.declared.files.Application.{Application}
use Rattle.card_layout.specs.declared.files.TheConstants.{APPLICATION_RANGE}
use Rattle.card_layout.specs.Application.{application_of, IsApplication}
use Rattle.card_layout.specs.Files.{files_of}
use Rattle.unit_rule.specs.card_model.Days.{Day}
use Rattle.unit_rule.specs.card_retention.Expected.{Counted, with_entry}
use Rattle.unit_rule.specs.card_retention.Shown.{Bound}
use Rattle.unit_rule.specs.card_retention.Entries.{newest_word}
use Rattle.card_validity.specs.card_image.Fields.{session_time, card_days, end_mark}
use Rattle.card_validity.specs.card_image.View.{CardView, Held, card_view}
use Rattle.card_validity.specs.card_image.Own.{own_sizes, own_view}
use Rattle.card_session.specs.Vehicles.{Vehicles, last_use_in}
use Rattle.card_session.specs.Books.{mark_of}
use Rattle.card_session.specs.Sessions.{Session, IsSession, book_of}
use Rattle.card_session.specs.Cards.{IsCard}
use Rattle.card_session.specs.Overwriting.{and_entry}
use Rattle.card_session.proofs.Composing.{card_as}
use Rattle.card_session.proofs.Marks.{before_days, mark_told}
use Rattle.card_session.proofs.Preparing.{used_at}
use Rattle.card_session.proofs.Stopping.{book_days}
use Rattle.hand_model.specs.Holding.{Holding, LieBetween}
use Rattle.hand_model.proofs.OfDay.{spans, day_lies, day_all}
use Rattle.card_by_hand.specs.First.{AreHandsOf, AreEntered, IsEntering, IsFirstKept, IsFirstKeeping}
use Rattle.card_by_hand.specs.Wider.{with_hands}
use Rattle.unit_rule.specs.card_string.Carried.{StringFollowsEntries}
use Rattle.unit_rule.specs.card_string.Shows.{IsDone, IsFirstReady, IsFirstShown}
use Rattle.unit_rule.proofs.card_string.Deeds.{entered_app}
use Rattle.unit_rule.proofs.card_string.FirstShown.{first_shown}
use Rattle.unit_rule.specs.log_model.declared.lines.Mark.{Mark}
use Rattle.unit_rule.specs.history_model.Book.{Book}
use Rattle.unit_rule.specs.history_model.Presence.{closed_at}
use Rattle.unit_rule.specs.device_rule.Views.{UnitView, unit_view}
use Rattle.unit_rule.specs.device_rule.Device.{LeavesViews, EndsWith}
use Rattle.unit_rule.specs.device_rule.Steps.{IsOnCard, IsNowOnCard}
use Rattle.unit_rule.specs.device_rule.Rules.{In, EntriesGoOn}
use Rattle.unit_rule.proofs.device_rule.Brought.{closed-same}
use Rattle.unit_rule.proofs.device_rule.Pairs.{closed-from}
use Rattle.unit_rule.proofs.device_rule.Viewed.{seen-run}
use Rattle.unit_rule.proofs.device_rule.KeepLaws.{on_card-card, on_card-torn}
use Rattle.unit_rule.specs.Rule.{Started}
use Rattle.unit_rule.specs.Marks.{UnitFollowsBook}
use Rattle.unit_rule.proofs.Moves.{ended}
use Rattle.device_calls.specs.Rule.{Both, opened, number_of, unit_seen, card_seen, AnyString, CardHolds}
use Rattle.device_calls.specs.OnCard.{SessionKnowsCard, CardMayTake, IsOnItsCard, hands_for}

abbrev pub AnyStep : ℕ → Held → List Entry → Held → Type 0
AnyStep next old taken new = Unit {0}

pub any-goes : EntriesGoOn AnyString AnyStep
any-goes = record { later = λ next n full x le is. tt; added = λ next full taken x y is step. tt }

pub own-is : (app : Application) (x : List ℕ) → own_sizes x ≡ app → own_view x ≡ card_view app x
unfolding own_view
own-is app x is = ap (λ (a : Application). card_view a x) is

pub session-is : (app : Application) (x : List ℕ) → (card_view app x).session ≡ session_time app x
unfolding card_view
session-is app x = refl

pub mark-is : (app : Application) (x : List ℕ) → (card_view app x).mark ≡ end_mark app x
unfolding card_view
mark-is app x = refl

word-is : (app : Application) (x : List ℕ) → (card_view app x).word ≡ newest_word (card_days app x)
unfolding card_view
word-is app x = refl

-- a keep leaves the sizes
pub sizes-same : (app : Application) (P : List Day → Vehicles → Type 0) (x y : List ℕ) → IsCard app P x y → own_sizes y ≡ own_sizes x
unfolding own_sizes files_of
sizes-same app P x y is = ap application_of (before_days app P x y is APPLICATION_RANGE.base APPLICATION_RANGE.len (omega arith))

-- the entries by hand that a keep writes are of its day, and lie before its minute
pub hands-are : (s : Session) (held : Holding) (minute : ℕ) → LieBetween s.minute minute held.entries → AreHandsOf s minute (hands_for held minute)
hands-are s held minute lie = record { lie = day_lies (minute / 1440) s.minute minute held.entries lie; day = day_all s.minute minute held.entries lie }

-- entries by hand leave the sizes, at each of their moments and behind them, and so does a first keep
entering-sizes : (hs : List Manual) (s : Session) (x c : List ℕ) → IsEntering hs s x c → own_sizes c ≡ own_sizes x
entering-sizes [] s x c entering = absurd entering
entering-sizes (h ∷ hs) s x c (inl now) = sizes-same s.application _ x c now.card
entering-sizes (h ∷ hs) s x c (inr behind) = entering-sizes hs behind.0 behind.1 c behind.4 ∙ sizes-same s.application _ x behind.1 behind.3.card

entered-sizes : (hs : List Manual) (s next : Session) (x y : List ℕ) → AreEntered hs s next x y → own_sizes y ≡ own_sizes x
entered-sizes [] s next x y entered = ap own_sizes entered.1
entered-sizes (h ∷ hs) s next x y entered = entered-sizes hs entered.0 next entered.1 y entered.4 ∙ sizes-same s.application _ x entered.1 entered.3.card

pub first-sizes : (s : Session) (hands : List Manual) (e : Entry) (odometer : ℕ) (x y : List ℕ) → IsFirstKeeping s hands e odometer x y → own_sizes y ≡ own_sizes x
first-sizes s hands e odometer x y (inl entering) = entering-sizes hands s x y entering
first-sizes s hands e odometer x y (inr behind) = sizes-same behind.between.application _ behind.card y behind.keeping.card ∙ entered-sizes hands s behind.between x behind.card behind.entered

-- the end of a first keep is a moment of it
pub first-moment : (s next : Session) (hands : List Manual) (e : Entry) (odometer : ℕ) (x y : List ℕ) → IsFirstKept s next hands e odometer x y → IsFirstKeeping s hands e odometer x y
first-moment s next hands e odometer x y kept = inr (record {
  between = kept.between;
  card = kept.card;
  entered = kept.entered;
  keeping = record { card = card_as kept.between.application _ _ kept.card y (λ ds v both. inr (both.0, inr both.1)) kept.kept.card };
})

module _ (s : Session) (slack : Bound) (covered from : ℕ) (c : Counted) (all : List Entry) (hands : List Manual) (e : Entry) (odometer : ℕ) (are : AreHandsOf s e.minute hands) (x y : List ℕ) (ready : CardMayTake s slack covered from c all hands e x) where
  abbrev app : Application
  app = s.application

  late : s.minute < e.minute
  late = spans s.minute e.minute hands are.lie

  first-ready : IsFirstReady s slack covered from c all hands e x
  first-ready = record {
    sizes = ready.carried.sizes;
    session = ready.carried.session;
    goes = ready.carried.goes;
    bytes = ready.carried.bytes;
    later = late;
    before = ready.before;
    clear = ready.clear;
    are = are;
    few = ready.few;
    shut = ready.shut;
  }

  pub shown : IsFirstKeeping s hands e odometer x y → IsFirstShown app slack covered c all hands e x y
  shown keeping = first_shown s slack covered from c all hands e odometer x y first-ready keeping

  new-view : IsFirstKeeping s hands e odometer x y → own_view y ≡ card_view app y
  new-view keeping = own-is app y (first-sizes s hands e odometer x y keeping ∙ ready.carried.application)

  on-card-views : IsFirstShown app slack covered c all hands e x y → IsOnCard AnyStep e (card_view app x) (card_view app y)
  on-card-views k = record {
    session = session-is app y ∙ k.session ∙ sym (session-is app x);
    side = ⊎_elim (λ stopped. inl (mark-is app y ∙ stopped.mark ∙ sym (mark-is app x), tt, stopped.newest)) (λ done. inr (mark-is app y ∙ done.mark, tt, done.newest ∙ sym (closed-same (Some e)))) k.side;
    bound = k.bound;
  }

  pub on-card : IsFirstKeeping s hands e odometer x y → IsOnCard AnyStep e (own_view x) (own_view y)
  on-card keeping = subst (λ (v : CardView). IsOnCard AnyStep e v (own_view y)) (sym (own-is app x ready.carried.application)) (subst (IsOnCard AnyStep e (card_view app x)) (sym (new-view keeping)) (on-card-views (shown keeping)))

  -- after the keep
  module _ (next : Session) (kept : IsFirstKept s next hands e odometer x y) where
    as-moment : IsFirstKeeping s hands e odometer x y
    as-moment = first-moment s next hands e odometer x y kept

    same-application : kept.between.application ≡ s.application
    same-application = entered_app hands s kept.between x kept.card kept.entered

    marked : mark_of (book_of s.application y) ≡ e.minute
    marked = subst (λ (a : Application). mark_of (book_of a y) ≡ e.minute) same-application
        (ap (λ (o : Vehicles). last_use_in o / 60) kept.kept.card.told.1 ∙ used_at kept.between.registration odometer e.minute (book_of kept.between.application kept.card).vehicles)

    pub done : IsDone app slack covered (with_hands covered c hands) all e x y
    done = ⊎_elim
        (λ stopped. absurd (let was : mark_of (book_of app x) ≡ e.minute = sym (mark_told app x) ∙ sym stopped.mark ∙ mark_told app y ∙ marked in omega (arith, was, ready.carried.session.minute, late)))
        (λ done. done) (shown as-moment).side

    pub now-on-card : next.application ≡ app → next.minute ≡ e.minute → IsNowOnCard AnyStep e (own_view x) (own_view y)
    now-on-card sizes at = subst (λ (v : CardView). IsNowOnCard AnyStep e v (own_view y)) (sym (own-is app x ready.carried.application)) (subst (IsNowOnCard AnyStep e (card_view app x)) (sym (new-view as-moment)) (record {
      session = (on-card-views (shown as-moment)).session;
      mark = mark-is app y ∙ done.mark;
      held = tt;
      newest = done.newest ∙ sym (closed-same (Some e));
      words =
          let knows : next.minute ≡ max (mark_of (book_of app y)) (newest_word (book_of app y).days) = subst (λ (a : Application). next.minute ≡ max (mark_of (book_of a y)) (newest_word (book_of a y).days)) sizes kept.kept.knows.minute in
          let word : (card_view app y).word ≡ newest_word (book_of app y).days = word-is app y ∙ ap newest_word (sym (book_days app y)) in
          let newest : (card_view app y).newest ≡ closed_at (Some e) = done.newest ∙ sym (closed-same (Some e)) in
          omega (arith, knows, word, at, newest, closed-from e);
    }))

    -- and the next entry may come
    pub carried : next.application ≡ app → SessionKnowsCard next (and_entry slack e) covered (suc e.minute) (with_entry covered (with_hands covered c hands) e) (all ++ e ∷ []) y
    carried same = record {
      application = first-sizes s hands e odometer x y as-moment ∙ ready.carried.application ∙ sym same;
      sizes = subst IsApplication (sym same) ready.carried.sizes;
      session = kept.kept.knows;
      bytes = ready.carried.bytes;
      goes = subst (λ (a : Application). StringFollowsEntries a (and_entry slack e) covered (suc e.minute) (with_entry covered (with_hands covered c hands) e) (all ++ e ∷ []) y) (sym same) done.goes;
    }

-- after a keep that did not fail
pub all-done : (s next : Session) (slack : Bound) (covered from : ℕ) (c : Counted) (all : List Entry) (hands : List Manual) (e : Entry) (odometer : ℕ) → AreHandsOf s e.minute hands → next.application ≡ s.application → {T E : Type 0} (result : Result T E) (o p : Option (List ℕ)) →
    OnOk result (IfSome o (λ x. IfSome p (λ y. IsSession s x → IsFirstKept s next hands e odometer x y)))
    → OnOk result (IfSome o (λ x. IfSome p (λ y. CardMayTake s slack covered from c all hands e x → IsDone s.application slack covered (with_hands covered c hands) all e x y
    × SessionKnowsCard next (and_entry slack e) covered (suc e.minute) (with_entry covered (with_hands covered c hands) e) (all ++ e ∷ []) y)))
all-done s next slack covered from c all hands e odometer are same (Ok t) o p said = by o p said
  where
    by : (o p : Option (List ℕ)) → IfSome o (λ x. IfSome p (λ y. IsSession s x → IsFirstKept s next hands e odometer x y))
        → IfSome o (λ x. IfSome p (λ y. CardMayTake s slack covered from c all hands e x → IsDone s.application slack covered (with_hands covered c hands) all e x y
        × SessionKnowsCard next (and_entry slack e) covered (suc e.minute) (with_entry covered (with_hands covered c hands) e) (all ++ e ∷ []) y))
    by (Some x) (Some y) said = λ ready. let kept : IsFirstKept s next hands e odometer x y = said ready.carried.session in
        (done s slack covered from c all hands e odometer are x y ready next kept, carried s slack covered from c all hands e odometer are x y ready next kept same)
    by (Some x) None said = tt
    by None p said = tt
all-done s next slack covered from c all hands e odometer are same (Err f) o p said = tt

-- the joint rule
module _ (r : Both) (which : Card) {U X Y : State} (s : Started) (due : ℕ) (b : Book) (marks : List Mark) (time : ℕ) (t : Session) (slack : Bound) (covered from : ℕ) (c : Counted) (all : List Entry) (hands : List Manual) (e : Entry) (odometer : ℕ) (are : AreHandsOf t e.minute hands)
    (unit : IsCoherent U) (tells : is_some U.image ≡ true) (whole : IsCoherent X) (h : UnitFollowsBook s due b marks U) (none : b.maybe ≡ None) (rule : CardHolds r which b (In time t.minute) [] (e ∷ []) U X) (fresh : (opened r which).start.word < e.minute)
    (ready : IfSome X.image (CardMayTake t slack covered from c all hands e)) (run : LeavesOnly X Y (λ x y. IsSession t x → IsFirstKeeping t hands e odometer x y)) where
  behind-newest : t.minute < e.minute
  behind-newest = spans t.minute e.minute hands are.lie

  keeps : LeavesViews (card_seen X) (card_seen Y) (IsOnCard AnyStep e)
  keeps = seen-run own_view (λ x y. IsOnCard AnyStep e (own_view x) (own_view y)) (IsOnCard AnyStep e) X Y whole
      (weaken run (λ x y told k. let is = at_image (CardMayTake t slack covered from c all hands e) told ready in on-card t slack covered from c all hands e odometer are x y is (k is.carried.session))) (λ x y k. k)

  sure : (u : UnitView) → (unit_seen r U).may_leave u → All (λ j. j.minute ≤ u.last) b.sure
  sure u on = ((h.unit_holds (number_of r A) (number_of r B)).now u on).sure

  -- an image that the unit leaves
  left : (o : Option (List ℕ)) → U.image ≡ o → is_some o ≡ true → (u : UnitView) × (unit_seen r U).may_leave u
  left (Some x) told is = (unit_view (number_of r A) (number_of r B) x, (x, unit.is_left x told, refl))
  left None told is = absurd (empty is)
    where
      empty : false ≡ true → ⊥
      empty e = cc

  one : (u : UnitView) × (unit_seen r U).may_leave u
  one = left U.image refl tells

  pub kept-torn : (failed : Bool) → (failed ≡ false → EndsWith (card_seen X) (card_seen Y) (IsNowOnCard AnyStep e)) → IsOnItsCard r which b time e failed U Y
  kept-torn failed ends = record {
    kept = λ well. on_card-card which (opened r which).start AnyString (opened r which).began b AnyStep any-goes time t.minute e none sure rule behind-newest fresh keeps one.0 one.1 (ends well);
    torn = λ bad. on_card-torn which (opened r which).start AnyString (opened r which).began b AnyStep any-goes time t.minute e none sure rule behind-newest fresh keeps one.0 one.1;
  }

  pub ends-on_card : (next : Session) → IsCoherent Y → Y.works ≡ true → X.works ≡ true → next.application ≡ t.application → next.minute ≡ e.minute → IfSome X.image (λ x. IfSome Y.image (λ y. IsSession t x → IsFirstKept t next hands e odometer x y)) → EndsWith (card_seen X) (card_seen Y) (IsNowOnCard AnyStep e)
  ends-on_card next after works before sizes at said = record {
    works = works;
    now = λ v on.
        let was = ended (λ x y. IsSession t x → IsFirstKept t next hands e odometer x y) whole after works run said on.0 on.1 in
        let is = at_image (CardMayTake t slack covered from c all hands e) (whole.only was.0 before was.1) ready in
        (own_view was.0, (was.0, was.1, refl), subst (IsNowOnCard AnyStep e (own_view was.0)) on.2 (now-on-card t slack covered from c all hands e odometer are was.0 on.0 is next (was.2 is.carried.session) sizes at));
  }
