-- The last use of all images that a card might have left, behind a call on it.
use Rattle.std.proofs.Common.{◌≡◌, inl, inr, ⊎_elim, ℕ, ◌≤◌, Some, IfSome, List, [], ◌∷◌, length, sym, ◌∙◌, ap, arith}
use Rattle.activity_codec.specs.declared.values.Activity.{Activity}
use Rattle.activity_codec.specs.declared.entries.Entry.{Entry}
use Rattle.activity_codec.specs.declared.entries.Manual.{Manual}
use Rattle.tach_media.specs.Medium.{State, IsCoherent, LeavesOnly}
use Rattle.tach_media.proofs.Runs.{at_image}
use Rattle.tacho_types.specs.declared.texts.Registration.{Registration}
use Rattle.card_layout.specs.declared.files.Application.{Application}
use Rattle.card_layout.specs.Application.{IsApplication, application_of}
use Rattle.card_layout.specs.Files.{files_of, image_size_of}
use Rattle.card_validity.specs.card_image.Fields.{last_use, vehicle_ring}
use Rattle.card_validity.specs.card_image.Beside.{HaveSameSizes}
use Rattle.card_validity.specs.card_image.Judging.{IsValid}
use Rattle.card_validity.specs.card_image.Own.{own_sizes}
use Rattle.card_validity.proofs.card_image.Beside.{last_use_same}
use Rattle.card_session.specs.Sessions.{Session, IsSession, book_of}
use Rattle.card_session.specs.Books.{closed}
use Rattle.card_session.specs.Moments.{IsBook, IsKeepMoment, IsCloseMoment}
use Rattle.card_session.specs.Cards.{IsCard, IsCardKeeping, IsCardClosing, grown}
use Rattle.card_session.specs.ByHand.{by_hand, IsByHandMoment}
use Rattle.card_session.specs.Inserting.{IsCardInserting}
use Rattle.card_session.proofs.Marks.{sizes_still}
use Rattle.card_session.proofs.InsertingUse.{use_inside}
use Rattle.card_session.proofs.InsertingAgain.{ended_keeps, inserting_keeps}
use Rattle.card_by_hand.specs.First.{AreEntered, IsEntering, IsFirstKeeping}
use Rattle.device_calls.specs.CardNotes.{IsNote}
use Rattle.device_calls.proofs.CardNoted.{left}
use Rattle.device_calls.proofs.Passed.{valid-passes, pointer-passes}
use Rattle.device_calls.specs.Times.{own_use, IsWhole, AreTimedSince}
use Rattle.device_calls.proofs.Times.{whole-then, keeping-whole, written-whole, writing-whole, closing-whole, ended-whole, inserting-whole}

-- ---- by its own sizes

pub use-is : (app : Application) (x : List ℕ) → own_sizes x ≡ app → own_use x ≡ last_use app x
unfolding own_use
use-is app x is = ap (λ (a : Application). last_use a x) is

same-own : (app : Application) (x y : List ℕ) → HaveSameSizes app x y → own_sizes y ≡ own_sizes x
unfolding own_sizes files_of
same-own app x y same = ap application_of same

own-whole : (app : Application) (x y : List ℕ) → own_sizes x ≡ app → own_sizes y ≡ app → IsWhole (last_use app x) (last_use app y) → IsWhole (own_use x) (own_use y)
own-whole app x y at now whole = ⊎_elim (λ same. inl (use-is app y now ∙ same ∙ sym (use-is app x at))) (λ one. inr (one.0, use-is app y now ∙ one.1)) whole

-- ---- of a keep with entries by hand before it

step-still : (s : Session) (h : Manual) (x y : List ℕ) → own_sizes x ≡ s.application → IsCard s.application (IsBook (by_hand s.application.activity h (book_of s.application x))) x y → own_sizes y ≡ s.application
step-still s h x y own card = same-own s.application x y (sizes_still s.application (IsBook (by_hand s.application.activity h (book_of s.application x))) x y card) ∙ own

step-whole : (s : Session) (h : Manual) (x y : List ℕ) → own_sizes x ≡ s.application → IsCard s.application (IsBook (by_hand s.application.activity h (book_of s.application x))) x y → IsWhole (own_use x) (own_use y)
step-whole s h x y own card = own-whole s.application x y own (step-still s h x y own card) (written-whole s.application h x y card)

entered-still : (hands : List Manual) (s next : Session) (x y : List ℕ) → own_sizes x ≡ s.application → AreEntered hands s next x y → own_sizes y ≡ next.application
entered-still [] s next x y own entered = ap own_sizes entered.1 ∙ own ∙ sym (ap (λ (t : Session). t.application) entered.0)
entered-still (h ∷ hs) s next x y own entered = entered-still hs entered.0 next entered.1 y (step-still s h x entered.1 own entered.3.card ∙ sym entered.2.application) entered.4

entered-whole : (hands : List Manual) (s next : Session) (x y : List ℕ) → own_sizes x ≡ s.application → AreEntered hands s next x y → IsWhole (own_use x) (own_use y)
entered-whole [] s next x y own entered = inl (ap own_use entered.1)
entered-whole (h ∷ hs) s next x y own entered = whole-then (own_use x) (own_use entered.1) (own_use y) (step-whole s h x entered.1 own entered.3.card)
    (entered-whole hs entered.0 next entered.1 y (step-still s h x entered.1 own entered.3.card ∙ sym entered.2.application) entered.4)

entering-whole : (hands : List Manual) (s : Session) (x c : List ℕ) → own_sizes x ≡ s.application → IsEntering hands s x c → IsWhole (own_use x) (own_use c)
entering-whole [] s x c own moment = absurd moment
entering-whole (h ∷ hs) s x c own (inl one) =
    let P = IsByHandMoment s.application.activity h (book_of s.application x) in
    own-whole s.application x c own (same-own s.application x c (sizes_still s.application P x c one.card) ∙ own) (writing-whole s.application h x c one.card)
entering-whole (h ∷ hs) s x c own (inr later) = whole-then (own_use x) (own_use later.1) (own_use c) (step-whole s h x later.1 own later.3.card)
    (entering-whole hs later.0 later.1 c (step-still s h x later.1 own later.3.card ∙ sym later.2.application) later.4)

kept-whole : (s : Session) (e : Entry) (odometer : ℕ) (x c : List ℕ) → own_sizes x ≡ s.application → IsCardKeeping s e odometer x c → IsWhole (own_use x) (own_use c)
kept-whole s e odometer x c own keeping =
    let P = IsKeepMoment s.application.activity s.registration odometer (grown s.odometer odometer) e (book_of s.application x) in
    own-whole s.application x c own (same-own s.application x c (sizes_still s.application P x c keeping.card) ∙ own) (keeping-whole s.application s.registration odometer (grown s.odometer odometer) e x c keeping.card)

-- ---- of all images since a moment

module _ (first : List ℕ) (n : ℕ) (X Y : State) (low : n ≤ X.clock) (whole : IsCoherent X) (timed : AreTimedSince first n X) where
  pub timed-run : (R : List ℕ → List ℕ → Type 0) → LeavesOnly X Y R → ((x c : List ℕ) → X.image ≡ Some x → R x c → IsWhole (own_use x) (own_use c)) → AreTimedSince first n Y
  timed-run R run step c left = ⊎_elim
      (λ was. timed c was)
      (λ one. whole-then (own_use first) (own_use one.0) (own_use c) (timed one.0 (whole.counts_now n one.0 low (whole.is_left one.0 one.1))) (step one.0 c one.1 one.2))
      (run.since n c low left)

  -- an entry is kept, with entries by hand before it
  pub keeping-timed : (s : Session) (hands : List Manual) (e : Entry) (odometer : ℕ) → IfSome X.image (λ x. own_sizes x ≡ s.application) → IfSome X.image (IsSession s) → LeavesOnly X Y (λ x c. IsSession s x → IsFirstKeeping s hands e odometer x c) → AreTimedSince first n Y
  keeping-timed s hands e odometer sized session run = timed-run (λ x c. IsSession s x → IsFirstKeeping s hands e odometer x c) run (λ x c is moment.
      let own : own_sizes x ≡ s.application = at_image (λ (x : List ℕ). own_sizes x ≡ s.application) is sized in
      ⊎_elim
      (λ entering. entering-whole hands s x c own entering)
      (λ behind. whole-then (own_use x) (own_use behind.card) (own_use c) (entered-whole hands s behind.between x behind.card own behind.entered)
      (kept-whole behind.between e odometer behind.card c (entered-still hands s behind.between x behind.card own behind.entered) behind.keeping))
      (moment (at_image (IsSession s) is session)))

  -- a card is withdrawn
  pub closing-timed : (s : Session) (act : Activity) → IsApplication s.application → image_size_of s.application ≤ X.size → IfSome X.image (λ x. own_sizes x ≡ s.application) → LeavesOnly X Y (IsCardClosing s act) → AreTimedSince first n Y
  closing-timed s act sound size sized run = timed-run (IsCardClosing s act) run (λ x c is closing.
      let own : own_sizes x ≡ s.application = at_image (λ (x : List ℕ). own_sizes x ≡ s.application) is sized in
      let fits : image_size_of s.application ≤ length x = omega (arith, size, whole.sized x is) in
      ⊎_elim
      (λ card. own-whole s.application x c own (same-own s.application x c (sizes_still s.application (IsCloseMoment s.application.activity act (book_of s.application x)) x c card) ∙ own) (closing-whole s.application sound act x c card))
      (λ done.
      let P = IsBook (closed s.application.activity act (book_of s.application x)) in
      let keeps = ended_keeps s.application done.before c (omega (arith, use_inside s.application, fits, done.card.outside.same_length)) done.session in
      own-whole s.application x c own (same-own s.application done.before c keeps.0 ∙ same-own s.application x done.before (sizes_still s.application P x done.before done.card) ∙ own)
      (ended-whole s.application sound act x done.before c fits done.card done.session))
      closing)

  -- it is put in
  pub inserting-timed : (app : Application) → IsApplication app → image_size_of app ≤ X.size → IfSome X.image (λ x. own_sizes x ≡ app) → (registration : Registration) → length registration.0 ≡ 15 → (odometer now : ℕ) (owed : List ℕ → List Entry)
      → LeavesOnly X Y (λ x c. IsCardInserting app registration odometer (owed x) now x c) → AreTimedSince first n Y
  inserting-timed app sound size sized registration long odometer now owed run = timed-run (λ x c. IsCardInserting app registration odometer (owed x) now x c) run (λ x c is moment.
      let own : own_sizes x ≡ app = at_image (λ (x : List ℕ). own_sizes x ≡ app) is sized in
      let fits : image_size_of app ≤ length x = omega (arith, size, whole.sized x is) in
      own-whole app x c own (same-own app x c (inserting_keeps app registration odometer now (owed x) long x c (omega (arith, use_inside app, fits)) moment).0 ∙ own)
      (inserting-whole app sound registration long odometer now (owed x) x fits c moment))

  -- an event or a place is noted on it
  pub noting-timed : (app : Application) → IsApplication app → IfSome X.image (λ x. own_sizes x ≡ app) → IfSome X.image (IsValid app) → LeavesOnly X Y (IsNote app) → AreTimedSince first n Y
  noting-timed app sound sized valid run = timed-run (IsNote app) run (λ x c is note.
      let own : own_sizes x ≡ app = at_image (λ (x : List ℕ). own_sizes x ≡ app) is sized in
      let was : IsValid app x = at_image (IsValid app) is valid in
      let leaves = left app sound x was c note in
      own-whole app x c own (same-own app x c leaves.sizes ∙ own) (inl (last_use_same app x c sound (pointer-passes (vehicle_ring app) x (valid-passes app x was).vehicles) leaves.vehicles)))
