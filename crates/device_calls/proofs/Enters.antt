-- A card is put in, or taken out: the rules of the unit and of both cards.
use Rattle.std.proofs.Common.{◌≡◌, ◌≢◌, ◌⊎◌, inl, inr, ⊎_elim, ℕ, ◌+◌, ◌/◌, ◌^◌, ◌<◌, ◌≤◌, true, false, Option, Some, None, is_some, IfSome, List, [], ◌∷◌, length, All, refl, ap, subst, ◌∙◌, sym, arith}
use Rattle.std.specs.Prelude.{IfOk, Result, Ok, Err}
use Rattle.activity_codec.specs.declared.entries.Entry.{Entry}
use Rattle.activity_codec.specs.declared.values.Activity.{Activity}
use Rattle.tacho_types.specs.declared.texts.Registration.{Registration}
use Rattle.trace_model.specs.declared.Card.{Card}
use Rattle.trace_model.specs.declared.Card.TheVariants.{A, B}
use Rattle.tach_media.specs.Medium.{State, IsCoherent, LeavesOnly, LiesInside, Unchanged}
use Rattle.tach_media.proofs.Runs.{at_image, weaken}
use Rattle.card_layout.specs.declared.files.Application.{Application}
use Rattle.card_layout.specs.Application.{application_of, IsApplication}
use Rattle.card_layout.specs.Files.{files_of, image_size_of, place_of}
use Rattle.card_layout.proofs.Images.{part_before, put_outside}
use Rattle.card_validity.specs.card_image.Fields.{file, file_bytes, card_number, end_mark, session_time}
use Rattle.card_validity.specs.card_image.Judging.{IsValid}
use Rattle.card_validity.specs.card_image.Own.{own_sizes, own_view, own_number}
use Rattle.card_validity.specs.card_image.View.{CardView, card_view}
use Rattle.card_session.specs.Sessions.{Session, IsSession}
use Rattle.card_session.specs.Cards.{IsCardClosing, ended as ended_image}
use Rattle.card_session.specs.Inserting.{AreOwed, IsCardInserting, IsCardInserted}
use Rattle.card_session.proofs.Ends.{inserted_moment}
use Rattle.card_session.proofs.InsertingAgain.{inserting_keeps}
use Rattle.card_session.proofs.InsertingUse.{use_inside}
use Rattle.card_session.proofs.Marks.{session_same}
use Rattle.card_session.proofs.Stopping.{closed_session}
use Rattle.card_session.proofs.Renewing.{closing_renews}
use Rattle.unit_rule.specs.log_model.declared.lines.Mark.{Mark}
use Rattle.unit_rule.specs.history_model.Minutes.{HistoryMinute}
use Rattle.unit_rule.specs.history_model.Book.{Book}
use Rattle.unit_rule.proofs.history_model.Books.{mark-earlier}
use Rattle.unit_minutes.specs.unit_owed.Owed.{Row, owed_to, row_view}
use Rattle.unit_minutes.specs.unit_model.declared.layout.TheConstants.{IMAGE_SIZE}
use Rattle.unit_minutes.specs.unit_model.Image.{last_kept, IsUnit}
use Rattle.unit_minutes.specs.declared.notes.Notes.{Notes}
use Rattle.unit_minutes.specs.Image.{Agrees}
use Rattle.unit_rule.specs.device_rule.Views.{UnitView, unit_view, row, owed, owed_in}
use Rattle.unit_rule.specs.device_rule.Device.{LeavesViews, EndsWith, Nothing}
use Rattle.unit_rule.specs.device_rule.Steps.{IsInserting, IsInserted, IsClosing}
use Rattle.unit_rule.specs.device_rule.Rules.{Standing, Out, In, IsEntered}
use Rattle.unit_rule.proofs.device_rule.CardLaws.{look-card, read-card}
use Rattle.unit_rule.proofs.device_rule.EnterLaws.{insert-card, insert-entered, close-card}
use Rattle.unit_rule.proofs.device_rule.OwedView.{owed-seen}
use Rattle.unit_rule.proofs.device_rule.Viewed.{seen-run}
use Rattle.unit_rule.specs.Rule.{Started}
use Rattle.unit_rule.specs.Marks.{UnitFollowsBook}
use Rattle.unit_rule.proofs.Moves.{shown-last}
use Rattle.unit_rule.proofs.Marking.{holds-read}
use Rattle.device_calls.specs.declared.entering.Entered.{Entered}
use Rattle.device_calls.specs.declared.entering.NotEntered.{NotEntered}
use Rattle.device_calls.specs.Entering.{owed_on, IsAsked, IsEntering}
use Rattle.device_calls.proofs.EntryOwed.{worked}
use Rattle.device_calls.specs.Rule.{Both, opened, number_of, unit_seen, card_seen, AnyString, CardHolds}
use Rattle.device_calls.proofs.OnCard.{AnyStep, any-goes, own-is, session-is, mark-is, sizes-same}
use Rattle.device_calls.proofs.Inserted.{inserting_open, inserted_open, inserting_shut, inserted_shut, bound_of, renews-mark}

same-one : {X : Type 0} (x y : X) → Some x ≡ Some y → x ≡ y
same-one x y is = cc

-- ---- calls that only read

pub unit-read : (r : Both) (c : Card) (b : Book) (z : Standing) (m d : List Entry) (U V X : State) → IsCoherent U → LeavesOnly U V Unchanged → CardHolds r c b z m d U X → CardHolds r c b z m d V X
unit-read r c b z m d U V X whole run rule =
    read-card c (opened r c).start AnyString {U = unit_seen r U} {V = unit_seen r V} {X = card_seen X} (opened r c).began b z m d
    (seen-run (unit_view (number_of r A) (number_of r B)) Unchanged Nothing U V whole run (λ x y never. absurd never)) rule

pub card-read : (r : Both) (c : Card) (b : Book) (m : List Entry) (U X Y : State) → IsCoherent X → LeavesOnly X Y Unchanged → CardHolds r c b Out m [] U X → CardHolds r c b Out m [] U Y
card-read r c b m U X Y whole run rule =
    look-card c (opened r c).start AnyString {U = unit_seen r U} {X = card_seen X} {Y = card_seen Y} (opened r c).began b m (seen-run own_view Unchanged Nothing X Y whole run (λ x y never. absurd never)) rule

-- so the unit is one still, and its journal agrees with it
pub unit-still : {R : List ℕ → List ℕ → Type 0} (U V : State) → LeavesOnly U V R → IsUnit U → IsUnit V
unit-still U V run unit = record { sized = run.size ∙ unit.sized; behind = run.behind ∙ unit.behind; writable = subst (λ (ws : List (ℕ × ℕ)). LiesInside ws 0 IMAGE_SIZE) (sym run.writable) unit.writable }

pub agrees-still : (j : Notes) (o p : Option (List ℕ)) → p ≡ o → IfSome o (Agrees j) → IfSome p (Agrees j)
agrees-still j o p same agrees = subst (λ (q : Option (List ℕ)). IfSome q (Agrees j)) (sym same) agrees

-- ---- an insertion

sizes-told : (app : Application) (x y : List ℕ) → file_bytes app 0x0501 y ≡ file_bytes app 0x0501 x → own_sizes y ≡ own_sizes x
unfolding own_sizes files_of
sizes-told app x y same = ap application_of same

number-told : (app : Application) (x : List ℕ) → own_sizes x ≡ app → own_number x ≡ card_number app x
unfolding own_number
number-told app x is = ap (λ (a : Application). card_number a x) is

-- the row of a card, as an image shows it
row-shown : (r : Both) (c : Card) (u : List ℕ) → row c (unit_view (number_of r A) (number_of r B) u) ≡ row_view (number_of r c) u
unfolding unit_view
row-shown r A u = refl
row-shown r B u = refl

module _ (r : Both) (c : Card) (s : Started) (due : ℕ) (b : Book) (marks : List Mark) {V X Y : State} (app : Application) (sound : IsApplication app) (registration : Registration) (long : length registration.0 ≡ 15) (odometer now : ℕ) (few : now < 2 ^ 32)
    (h : UnitFollowsBook s due b marks V) (none : b.maybe ≡ None) (late : due ≤ now / 60) (unit : IsCoherent V) (lit : V.works ≡ true) (u : List ℕ) (told : V.image ≡ Some u) (whole : IsCoherent X) (works : X.works ≡ true) (x : List ℕ) (is : X.image ≡ Some x)
    (fits : image_size_of app ≤ length x) (asked : IsAsked r c app x) (valid : IsValid app x) (are : AreOwed now (owed_on app u x))
    (rule : CardHolds r c b Out [] [] V X) (run : LeavesOnly X Y (λ x c. IsCardInserting app registration odometer (owed_on app u x) now x c)) where
  old-view : own_view x ≡ card_view app x
  old-view = own-is app x asked.sizes

  room : image_size_of app ≤ length x
  room = fits

  new-view : (y : List ℕ) → IsCardInserting app registration odometer (owed_on app u x) now x y → own_view y ≡ card_view app y
  new-view y moment = own-is app y (sizes-told app x y (inserting_keeps app registration odometer now (owed_on app u x) long x y (omega (arith, fits, use_inside app)) moment).0 ∙ asked.sizes)

  positive : session_time app x ≢ 0 → 0 < session_time app x
  positive apart = by (session_time app x) apart
    where
      by : (n : ℕ) → n ≢ 0 → 0 < n
      by n other = omega (arith, other)

  shown : (y : List ℕ) → IsCardInserting app registration odometer (owed_on app u x) now x y → IsInserting AnyStep (owed_on app u x) now (card_view app x) (card_view app y)
  shown y moment = ⊎_elim
      (λ closed. inserting_shut app sound x room registration long odometer now few (owed_on app u x) are valid closed.0 y closed.1)
      (λ open_. inserting_open app sound x room registration long odometer now few (owed_on app u x) are valid (positive open_.0) y open_.1)
      moment

  steps : (y : List ℕ) → IsCardInserting app registration odometer (owed_on app u x) now x y → IsInserting AnyStep (owed_on app u x) now (own_view x) (own_view y)
  steps y moment = subst (λ (v : CardView). IsInserting AnyStep (owed_on app u x) now v (own_view y)) (sym old-view) (subst (IsInserting AnyStep (owed_on app u x) now (card_view app x)) (sym (new-view y moment)) (shown y moment))

  inserts : LeavesViews (card_seen X) (card_seen Y) (IsInserting AnyStep (owed_on app u x) now)
  inserts = seen-run own_view (λ w y. IsInserting AnyStep (owed_on app u x) now (own_view w) (own_view y)) (IsInserting AnyStep (owed_on app u x) now) X Y whole
      (weaken run (λ w y this k. let at : x ≡ w = same-one x w (sym is ∙ this) in
      subst (λ (l : List ℕ). IsInserting AnyStep (owed_on app u x) now (own_view l) (own_view y)) at (steps y (subst (λ (l : List ℕ). IsCardInserting app registration odometer (owed_on app u l) now l y) (sym at) k)))) (λ w y k. k)

  -- what is put on it is what is owed to it
  owes : owed_on app u x ≡ owed c (unit_view (number_of r A) (number_of r B) u) (own_view x)
  owes =
      ap (λ (n : List ℕ). owed_to u n (session_time app x) (end_mark app x)) (sym (number-told app x asked.sizes) ∙ asked.number)
      ∙ owed-seen u (number_of r c) (session_time app x) (end_mark app x)
      ∙ ap (λ (w : Row). owed_in w (last_kept u) (session_time app x) (end_mark app x)) (sym (row-shown r c u))
      ∙ ap (λ (n : ℕ). owed_in (row c (unit_view (number_of r A) (number_of r B) u)) n (session_time app x) (end_mark app x)) (sym (shown-last (number_of r A) (number_of r B) u))
      ∙ ap (λ (n : ℕ). owed_in (row c (unit_view (number_of r A) (number_of r B) u)) (unit_view (number_of r A) (number_of r B) u).last n (end_mark app x)) (sym (ap (λ (v : CardView). v.session) old-view ∙ session-is app x))
      ∙ ap (λ (n : ℕ). owed_in (row c (unit_view (number_of r A) (number_of r B) u)) (unit_view (number_of r A) (number_of r B) u).last (own_view x).session n) (sym (ap (λ (v : CardView). v.mark) old-view ∙ mark-is app x))

  owes-all : (w : UnitView) (v : CardView) → (unit_seen r V).may_leave w → (card_seen X).may_leave v → owed_on app u x ≡ owed c w v
  owes-all w v on there =
      let unit_is : u ≡ on.0 = same-one u on.0 (sym told ∙ unit.only on.0 lit on.1) in
      let card_is : x ≡ there.0 = same-one x there.0 (sym is ∙ whole.only there.0 works there.1) in
      owes ∙ ap (λ (l : List ℕ). owed c (unit_view (number_of r A) (number_of r B) l) (own_view x)) unit_is ∙ ap (λ (a : UnitView). owed c a (own_view x)) on.2
      ∙ ap (λ (l : List ℕ). owed c w (own_view l)) card_is ∙ ap (owed c w) there.2

  sure : (w : UnitView) → (unit_seen r V).may_leave w → All (λ (j : HistoryMinute). j.minute ≤ w.last) b.sure
  sure w on = ((h.unit_holds (number_of r A) (number_of r B)).now w on).sure

  early : (w : UnitView) → (unit_seen r V).may_leave w → w.last < now / 60
  early w on = let held = h.unit_holds (number_of r A) (number_of r B) in omega (arith, late, mark-earlier s.first due b w.last held.order (held.now w on).mark)

  one : (unit_seen r V).may_leave (unit_view (number_of r A) (number_of r B) u)
  one = (u, unit.is_left u told, refl)

  -- at each moment
  pub put-in : CardHolds r c b Out [] [] V Y
  put-in = insert-card c (opened r c).start AnyString (opened r c).began b AnyStep any-goes {U = unit_seen r V} {X = card_seen X} (owed_on app u x) now 0 none sure early owes-all rule (unit_view (number_of r A) (number_of r B) u) one inserts

  -- at its end
  module _ (t : Session) (after : IsCoherent Y) (well : Y.works ≡ true) (y : List ℕ) (now_is : Y.image ≡ Some y) (same : t.application ≡ app) (knows : IsSession t y) (done : IsCardInserted app registration odometer (owed_on app u x) now x y) where
    moment_ : IsCardInserting app registration odometer (owed_on app u x) now x y
    moment_ = inserted_moment app registration odometer now (owed_on app u x) x y done

    ends-shown : IsInserted AnyStep (owed_on app u x) now t.minute (card_view app x) (card_view app y)
    ends-shown = by done moment_
      where
        by : IsCardInserted app registration odometer (owed_on app u x) now x y → IsCardInserting app registration odometer (owed_on app u x) now x y → IsInserted AnyStep (owed_on app u x) now t.minute (card_view app x) (card_view app y)
        by (inl closed) (inl moving) = inserted_shut app sound x room registration long odometer now few (owed_on app u x) are valid closed.0 y t same knows closed.1 moving.1
        by (inl closed) (inr moving) = absurd (moving.0 closed.0)
        by (inr open_) moving = inserted_open app sound x room registration long odometer now few (owed_on app u x) are valid (positive open_.0) y t same knows open_.1 (shown y moment_)

    ends : EndsWith (card_seen X) (card_seen Y) (IsInserted AnyStep (owed_on app u x) now t.minute)
    ends = record {
      works = well;
      now = λ w on.
          let at : y ≡ on.0 = same-one y on.0 (sym now_is ∙ after.only on.0 well on.1) in (
            own_view x,
            (x, whole.is_left x is, refl),
            subst (IsInserted AnyStep (owed_on app u x) now t.minute (own_view x)) (ap own_view at ∙ on.2)
                (subst (λ (v : CardView). IsInserted AnyStep (owed_on app u x) now t.minute v (own_view y)) (sym old-view) (subst (IsInserted AnyStep (owed_on app u x) now t.minute (card_view app x)) (sym (new-view y moment_)) ends-shown)),
          );
    }

    pub entered : IsEntered (opened r c).start (opened r c).began now t.minute (card_seen Y)
    entered =
        insert-entered c (opened r c).start AnyString (opened r c).began b AnyStep any-goes {U = unit_seen r V} {X = card_seen X} (owed_on app u x) now t.minute none sure early owes-all rule (unit_view (number_of r A) (number_of r B) u) (own_view y) one
        (y, after.is_left y now_is, refl) inserts ends

-- ---- an insertion, by its answer

module _ (r : Both) (c : Card) (s : Started) (due : ℕ) (b : Book) (marks : List Mark) {U V X Y : State} (app : Application) (sound : IsApplication app) (registration : Registration) (long : length registration.0 ≡ 15) (odometer now : ℕ) (few : now < 2 ^ 32)
    (h : UnitFollowsBook s due b marks U) (none : b.maybe ≡ None) (late : due ≤ now / 60) (unit : IsCoherent U) (unit_after : IsCoherent V) (whole : IsCoherent X) (fits : image_size_of app ≤ X.size) (tells : is_some U.image ≡ true) (tells_card : is_some X.image ≡ true)
    (asked : IfSome X.image (IsAsked r c app)) (rule : CardHolds r c b Out [] [] U X) (answer : Result Entered NotEntered) (enters : IsEntering app registration odometer now U V X Y answer) where
  some-image : (o : Option (List ℕ)) → is_some o ≡ true → (x : List ℕ) × (o ≡ Some x)
  some-image (Some x) is = (x, refl)
  some-image None is = absurd (empty is)
    where
      empty : false ≡ true → ⊥
      empty e = cc

  pub entering-holds : UnitFollowsBook s due b marks V
  entering-holds = holds-read s due b marks h unit enters.unit.leaves

  read : CardHolds r c b Out [] [] V X
  read = unit-read r c b Out [] [] U V X unit enters.unit.leaves rule

  module _ (u x : List ℕ) (told : U.image ≡ Some u) (is : X.image ≡ Some x) where
    room_ : image_size_of app ≤ length x
    room_ = omega (arith, fits, whole.sized x is)

    asks : IsAsked r c app x
    asks = at_image (IsAsked r c app) is asked

    leaves : LeavesOnly X Y (λ x c. IsCardInserting app registration odometer (owed_on app u x) now x c)
    leaves = at_image (λ u. LeavesOnly X Y (λ x c. IsCardInserting app registration odometer (owed_on app u x) now x c)) told enters.moments

    by-insertion : V.works ≡ true → X.works ≡ true → V.image ≡ U.image → IsValid app x → AreOwed now (owed_on app u x) → CardHolds r c b Out [] [] V Y
    by-insertion lit works same valid are =
        put-in r c s due b marks app sound registration long odometer now few entering-holds none late unit_after lit u (same ∙ told) whole works x is room_ asks valid are read leaves

    at-exit : CardHolds r c b Out [] [] V Y
    at-exit = ⊎_elim
        (λ only. card-read r c b [] V X Y whole only read)
        (λ both.
        let known = at_image (λ x. IsValid app x × AreOwed now (owed_on app u x)) is
        (at_image (λ u. IfSome X.image (λ x. IsValid app x × AreOwed now (owed_on app u x))) told both.3) in
        by-insertion both.0 both.1 both.2 known.0 known.1)
        enters.begun

  -- at each exit
  pub entering-rule : CardHolds r c b Out [] [] V Y
  entering-rule = let u = some-image U.image tells in let x = some-image X.image tells_card in at-exit u.0 x.0 u.1 x.1

-- where the card is accepted
module _ (r : Both) (c : Card) (s : Started) (due : ℕ) (b : Book) (marks : List Mark) {U V X Y : State} (app : Application) (sound : IsApplication app) (registration : Registration) (long : length registration.0 ≡ 15) (odometer now : ℕ) (few : now < 2 ^ 32)
    (h : UnitFollowsBook s due b marks U) (none : b.maybe ≡ None) (late : due ≤ now / 60) (unit : IsCoherent U) (unit_after : IsCoherent V) (whole : IsCoherent X) (after : IsCoherent Y) (fits : image_size_of app ≤ X.size) (tells : is_some U.image ≡ true) (tells_card : is_some X.image ≡ true)
    (asked : IfSome X.image (IsAsked r c app)) (rule : CardHolds r c b Out [] [] U X) (e : Entered) (enters : IsEntering app registration odometer now U V X Y (Ok e)) where
  some_image : (o : Option (List ℕ)) → is_some o ≡ true → (x : List ℕ) × (o ≡ Some x)
  some_image (Some x) is = (x, refl)
  some_image None is = absurd (empty is)
    where
      empty : false ≡ true → ⊥
      empty e = cc

  at-end : (u x y : List ℕ) → U.image ≡ Some u → X.image ≡ Some x → Y.image ≡ Some y → IsEntered (opened r c).start (opened r c).began now e.session.minute (card_seen Y)
  at-end u x y told is now_is =
      let took = enters.accepted in
      let owes : e.owed.items ≡ owed_on app u x = at_image (λ y. e.owed.items ≡ owed_on app u x) now_is (at_image (λ x. IfSome Y.image (λ y. e.owed.items ≡ owed_on app u x)) is (at_image (λ u. IfSome X.image (λ x. IfSome Y.image (λ y. e.owed.items ≡ owed_on app u x))) told took.owes)) in
      let done = subst (λ (os : List Entry). IsCardInserted app registration odometer os now x y) owes (at_image (IsCardInserted app registration odometer e.owed.items now x) now_is (at_image (λ x. IfSome Y.image (IsCardInserted app registration odometer e.owed.items now x)) is took.inserted)) in
      let valid = (at_image (λ x. IsValid app x × ((card_view app x).stored ≤ now)) is took.valid).0 in
      let knows = at_image (IsSession e.session) now_is (at_image (λ x. IfSome Y.image (IsSession e.session)) is took.knows) in
      let asks = at_image (IsAsked r c app) is asked in
      entered r c s due b marks app sound registration long odometer now few (holds-read s due b marks h unit enters.unit.leaves) none late unit_after (worked refl (enters.unit.cause refl)).0 u (enters.unit.same refl ∙ told) whole (worked refl enters.cause).1 x is
      (omega (arith, fits, whole.sized x is)) asks valid (subst (AreOwed now) owes took.fit) (unit-read r c b Out [] [] U V X unit enters.unit.leaves rule)
      (at_image (λ u. LeavesOnly X Y (λ x c. IsCardInserting app registration odometer (owed_on app u x) now x c)) told enters.moments) e.session after (worked refl enters.cause).0 y now_is took.sizes knows done

  pub entering-entered : IsEntered (opened r c).start (opened r c).began now e.session.minute (card_seen Y)
  entering-entered =
      let u = some_image U.image tells in
      let x = some_image X.image tells_card in
      let run = at_image (λ u. LeavesOnly X Y (λ x c. IsCardInserting app registration odometer (owed_on app u x) now x c)) u.1 enters.moments in
      let y = some_image Y.image (run.tells ∙ tells_card) in
      at-end u.0 x.0 y.0 u.1 x.1 y.1

-- of its answer
pub entered-answer : (r : Both) (c : Card) (s : Started) (due : ℕ) (b : Book) (marks : List Mark) {U V X Y : State} (app : Application) (sound : IsApplication app) (registration : Registration) (long : length registration.0 ≡ 15) (odometer now : ℕ) (few : now < 2 ^ 32)
    (h : UnitFollowsBook s due b marks U) (none : b.maybe ≡ None) (late : due ≤ now / 60) (unit : IsCoherent U) (unit_after : IsCoherent V) (whole : IsCoherent X) (after : IsCoherent Y) (fits : image_size_of app ≤ X.size) (tells : is_some U.image ≡ true) (tells_card : is_some X.image ≡ true)
    (asked : IfSome X.image (IsAsked r c app)) (rule : CardHolds r c b Out [] [] U X) (answer : Result Entered NotEntered) (enters : IsEntering app registration odometer now U V X Y answer)
    → IfOk answer (λ e. IsEntered (opened r c).start (opened r c).began now e.session.minute (card_seen Y))
entered-answer r c s due b marks app sound registration long odometer now few h none late unit unit_after whole after fits tells tells_card asked rule (Ok e) enters =
    entering-entered r c s due b marks app sound registration long odometer now few h none late unit unit_after whole after fits tells tells_card asked rule e enters
entered-answer r c s due b marks app sound registration long odometer now few h none late unit unit_after whole after fits tells tells_card asked rule (Err f) enters = tt

-- at each moment, of the entries that were owed then
pub entering-moments : (app : Application) (registration : Registration) (odometer now : ℕ) (U V X Y : State) (answer : Result Entered NotEntered) (u x : List ℕ) → IsEntering app registration odometer now U V X Y answer → U.image ≡ Some u → X.image ≡ Some x
    → LeavesOnly X Y Unchanged ⊎ (IsValid app x × AreOwed now (owed_on app u x) × LeavesOnly X Y (IsCardInserting app registration odometer (owed_on app u x) now))
entering-moments app registration odometer now U V X Y answer u x enters told is = ⊎_elim
    (λ only. inl only)
    (λ both.
    let known = at_image (λ x. IsValid app x × AreOwed now (owed_on app u x)) is (at_image (λ u. IfSome X.image (λ x. IsValid app x × AreOwed now (owed_on app u x))) told both.3) in
    inr (known.0, known.1, run))
    enters.begun
  where
    run : LeavesOnly X Y (IsCardInserting app registration odometer (owed_on app u x) now)
    run = weaken (at_image (λ u. LeavesOnly X Y (λ x c. IsCardInserting app registration odometer (owed_on app u x) now x c)) told enters.moments)
        (λ w y this k. let at : x ≡ w = same-one x w (sym is ∙ this) in subst (λ (l : List ℕ). IsCardInserting app registration odometer (owed_on app u l) now w y) (sym at) k)

-- ---- a withdrawal

sizes-ended : (app : Application) (k : List ℕ) → place_of app (file 0x0507) + 4 ≤ length k → own_sizes (ended_image app k) ≡ own_sizes k
unfolding own_sizes files_of
sizes-ended app k fits = ap application_of (part_before (place_of app (file 0x0507)) 4 33 10 k (ended_image app k) (put_outside (place_of app (file 0x0507)) (0 ∷ 0 ∷ 0 ∷ 0 ∷ []) k fits) (omega arith))

module _ (t : Session) (act : Activity) (x : List ℕ) (sound : IsApplication t.application) (fits : image_size_of t.application ≤ length x) (is : own_sizes x ≡ t.application) (knows : IsSession t x) where
  closing-sizes : (y : List ℕ) → IsCardClosing t act x y → own_sizes y ≡ t.application
  closing-sizes y (inl card) = sizes-same t.application _ x y card ∙ is
  closing-sizes y (inr closed) =
      ap own_sizes closed.session ∙ sizes-ended t.application closed.before (omega (arith, use_inside t.application, fits, closed.card.outside.same_length)) ∙ sizes-same t.application _ x closed.before closed.card ∙ is

  closing-session : (y : List ℕ) → IsCardClosing t act x y → (session_time t.application y ≡ session_time t.application x) ⊎ (session_time t.application y ≡ 0)
  closing-session y (inl card) = inl (session_same t.application _ x y card)
  closing-session y (inr closed) = inr (closed_session t act x y fits closed)

  pub closing-step : (y : List ℕ) → IsCardClosing t act x y → IsClosing AnyStep (own_view x) (own_view y)
  closing-step y closing =
      let app = t.application in
      let renews = closing_renews t act x y sound fits knows closing in
      subst (λ (v : CardView). IsClosing AnyStep v (own_view y)) (sym (own-is t.application x is))
      (subst (IsClosing AnyStep (card_view t.application x)) (sym (own-is t.application y (closing-sizes y closing)))
      (record {
        held = λ next late. tt;
        mark = renews-mark t.application x y renews;
        bound = bound_of t.application y;
        session = ⊎_elim
            (λ same. inl (session-is t.application y ∙ same ∙ sym (session-is t.application x)))
            (λ none. inr (session-is t.application y ∙ none)) (closing-session y closing);
        newest = renews.newest;
        words = omega (arith, renews.word, renews.newest);
      }))

-- what is asked of a card that is taken out
pub take-out : (r : Both) (c : Card) (s : Started) (due : ℕ) (b : Book) (marks : List Mark) {U X Y : State} (t : Session) (act : Activity) (time newest : ℕ) → IsApplication t.application → IsCoherent U → is_some U.image ≡ true → UnitFollowsBook s due b marks U → b.maybe ≡ None → IsCoherent X
    → image_size_of t.application ≤ X.size → IfSome X.image (λ x. (own_sizes x ≡ t.application) × IsSession t x) → LeavesOnly X Y (λ x y. IsSession t x → IsCardClosing t act x y) → CardHolds r c b (In time newest) [] [] U X → CardHolds r c b Out [] [] U Y
take-out r c s due b marks {U} {X} {Y} t act time newest sound unit tells h none whole room known run rule =
    close-card c (opened r c).start AnyString (opened r c).began b AnyStep any-goes {U = unit_seen r U} {X = card_seen X} {Y = card_seen Y} time newest (left U.image refl tells).0 (left U.image refl tells).1 none
    (λ w on. ((h.unit_holds (number_of r A) (number_of r B)).now w on).sure)
    (seen-run own_view (λ w y. IsClosing AnyStep (own_view w) (own_view y)) (IsClosing AnyStep) X Y whole
    (weaken run (λ w y told k. let is = at_image (λ x. (own_sizes x ≡ t.application) × IsSession t x) told known in closing-step t act w sound (omega (arith, room, whole.sized w told)) is.0 is.1 y (k is.1))) (λ w y k. k)) rule
  where
    left : (o : Option (List ℕ)) → U.image ≡ o → is_some o ≡ true → (u : UnitView) × (unit_seen r U).may_leave u
    left (Some x) told is = (unit_view (number_of r A) (number_of r B) x, (x, unit.is_left x told, refl))
    left None told is = absurd (empty is)
      where
        empty : false ≡ true → ⊥
        empty e = cc
