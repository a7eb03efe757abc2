-- The closing word and the end mark at it; and of a withdrawal, behind them, the session time.
use Rattle.std.proofs.Common.{◌≡◌, inl, inr, ⊎_elim, ℕ, suc, ◌+◌, ◌*◌, ◌/◌, ◌≤◌, Bool, true, false, cond, List, [], ◌∷◌, length, Option, Some, None, option_map, IfSome, refl, sym, ◌∙◌, ap, subst, arith}
use Rattle.std.specs.Prelude.{◌⊎◌}
use Rattle.activity_codec.specs.declared.values.Activity.{Activity}
use Rattle.card_layout.specs.declared.files.Application.{Application}
use Rattle.card_layout.specs.Files.{files_of, image_size_of, place_of}
use Rattle.tach_media.specs.Medium.{State, LeavesOnly, IsPartlyWritten, LiesInside, put}
use Rattle.tach_media.proofs.Runs.{weaken, goes_on, told_too, turned_into, where_told, at_image}
use Rattle.card_files.specs.declared.vehicle.Vehicle.{Vehicle}
use Rattle.card_days.specs.card_model.Days.{Day, total}
use Rattle.card_days.specs.card_model.Changes.{OnNewest, TakesWord}
use Rattle.card_days.specs.card_model.Image.{newest_pointer}
use Rattle.card_validity.specs.card_retention.Shown.{is_open}
use Rattle.gated_ring.specs.Ring.{IsNewest, entry_at}
use Rattle.card_days.specs.declared.head.Tail.{Tail}
use Rattle.card_days.specs.Held.{Knows, tail_in}
use Rattle.card_validity.specs.card_image.Fields.{file, vehicle_ring, last_use_of}
use Rattle.card_files.specs.Vehicles.{vehicle_of}
use Rattle.card_session.specs.Vehicles.{Vehicles}
use Rattle.card_session.specs.Books.{Book, mark_of, latest_of, closing_word, with_change, closed_days, closed, last_used, used}
use Rattle.card_session.specs.Telling.{closing_at}
use Rattle.card_session.specs.Sessions.{Session, IsValue, IsSession, IsOpenBook, KnowsCard, MayClose, book_of}
use Rattle.card_session.specs.Moments.{IsBook, IsClosingWord, IsCloseMoment}
use Rattle.card_session.specs.Cards.{IsCard, IsCardClosed, IsCardClosing, ended}
use Rattle.card_session.specs.Parts.{DoesPart, IsPartDone, IsPartMoment, TakesSome, with_some, IsAdding, AnyBook, with_last_use, IsSettingUse}
use Rattle.card_session.proofs.Composing.{part_as, part_failed, part_none, part_of, then_part, card_as}
use Rattle.card_session.proofs.OnCard.{newest_told, none_renewed}
use Rattle.card_session.proofs.Following.{takes_closing, closing_told}
use Rattle.card_session.proofs.InsertingDays.{still_card}

-- the days with the word, and then the end mark at it
abbrev pub worded : (size : ℕ) → Activity → Book → Book
worded size act b = record { days = closed_days size (mark_of b) act b.days; vehicles = b.vehicles }

abbrev marked : (size : ℕ) → Activity → Book → Book
marked size act b = record { days = closed_days size (mark_of b) act b.days; vehicles = last_used (60 * suc (mark_of b)) b.vehicles }

abbrev pub IsWording : (size : ℕ) → Activity → Book → List Day → Vehicles → Type 0
IsWording size act b ds v = IsClosingWord size act b ds × (v ≡ b.vehicles)

closed_open : (size : ℕ) (act : Activity) (b : Book) → is_open (mark_of b) b.days ≡ true → closed size act b ≡ marked size act b
closed_open size act b is = ap (λ (o : Bool). cond o (marked size act b) b) is

closed_shut : (size : ℕ) (act : Activity) (b : Book) → is_open (mark_of b) b.days ≡ false → closed size act b ≡ b
closed_shut size act b is = ap (λ (o : Bool). cond o (marked size act b) b) is

days_open : (size : ℕ) (act : Activity) (b : Book) → is_open (mark_of b) b.days ≡ true → closed_days size (mark_of b) act b.days ≡ with_change size (closing_word (suc (mark_of b)) act (latest_of b.days)) b.days
days_open size act b is = ap (λ (o : Bool). cond o (with_change size (closing_word (suc (mark_of b)) act (latest_of b.days)) b.days) b.days) is

some_same : (v w : ℕ) → Some v ≡ Some w → w ≡ v
some_same v w is = cc

-- what is left of a card whose session closes its words
abbrev pub ClosesWords : Session → Activity → List ℕ → List ℕ → Type 0
ClosesWords s act x y = KnowsCard s x → IsOpenBook (book_of s.application x) → IsCard s.application (IsBook (closed s.application.activity act (book_of s.application x))) x y

module _ (s : Session) (value : IsValue s) (act : Activity) (mark : ℕ) (mark_is : mark ≡ last_use_of s.vehicle / 60) (tail : Option Tail) (told : (x : List ℕ) (days : List Day) → Knows s.days x days → tail ≡ tail_in s.days.shape x days) where
  abbrev size : ℕ
  size = s.application.activity

  abbrev book : List ℕ → Book
  book x = book_of s.application x

  abbrev word_at : Book → ℕ
  word_at b = closing_word (suc (mark_of b)) act (latest_of b.days)

  mark_at : (x : List ℕ) → KnowsCard s x → mark ≡ mark_of (book x)
  mark_at x knows = mark_is ∙ ap (λ (o : Option Vehicle). last_use_of o / 60) knows.vehicle

  word_is : (x : List ℕ) → KnowsCard s x → closing_at mark act tail ≡ cond (is_open (mark_of (book x)) (book x).days) (Some (word_at (book x))) None
  word_is x knows =
      ap (λ (m : ℕ). closing_at m act tail) (mark_at x knows)
      ∙ ap (closing_at (mark_of (book x)) act) (told x (book x).days knows.days)
      ∙ closing_told 0 (mark_of (book x)) act (newest_pointer s.days.shape x) (total (book x).days) (book x).days knows.days.holds.ordered

  -- no word is to be written
  shut : (x : List ℕ) → KnowsCard s x → closing_at mark act tail ≡ None → is_open (mark_of (book x)) (book x).days ≡ false
  shut x knows none = by (is_open (mark_of (book x)) (book x).days) refl (sym (word_is x knows) ∙ none)
    where
      by : (o : Bool) → is_open (mark_of (book x)) (book x).days ≡ o → cond o (Some (word_at (book x))) None ≡ None → is_open (mark_of (book x)) (book x).days ≡ false
      by true is told_none = absurd (cc)
      by false is told_none = is

  -- or one is
  opened : (x : List ℕ) → KnowsCard s x → (w : ℕ) → closing_at mark act tail ≡ Some w → (is_open (mark_of (book x)) (book x).days ≡ true) × (w ≡ word_at (book x))
  opened x knows w some = by (is_open (mark_of (book x)) (book x).days) refl (sym (word_is x knows) ∙ some)
    where
      by : (o : Bool) → is_open (mark_of (book x)) (book x).days ≡ o → cond o (Some (word_at (book x))) None ≡ Some w → (is_open (mark_of (book x)) (book x).days ≡ true) × (w ≡ word_at (book x))
      by true is one = (is, some_same (word_at (book x)) w one)
      by false is one = absurd (cc)

  pub none_shut : closing_at mark act tail ≡ None → (state : State) → DoesPart state state false (IsPartDone s s IsOpenBook (closed size act)) (IsPartMoment s IsOpenBook (IsCloseMoment size act))
  none_shut none state = part_none state (λ x was knows ready. (
    subst (λ (c : Book). IsCard s.application (IsBook c) x x) (sym (closed_shut size act (book x) (shut x knows none))) (still_card s value x knows),
    knows,
  ))

  module _ (w : ℕ) (some : closing_at mark act tail ≡ Some w) (t : Session) where
    pub worded_part : {old new : State} {failed : Bool} → DoesPart old new failed (IsPartDone s t (TakesSome (Some w)) (with_some size (Some w))) (IsPartMoment s (TakesSome (Some w)) (IsAdding size (Some w)))
        → DoesPart old new failed (IsPartDone s t IsOpenBook (worded size act)) (IsPartMoment s IsOpenBook (IsWording size act))
    worded_part part =
        part_of s t (TakesSome (Some w)) IsOpenBook (with_some size (Some w)) (worded size act) (IsAdding size (Some w)) (IsWording size act) part
        (λ x knows ready.
        let o = opened x knows w some in
        subst (λ (n : ℕ). OnNewest (TakesWord n) (book x).days) (sym o.1) (takes_closing (mark_of (book x)) act (book x).days ready.ends ready.strict o.0))
        (λ x knows ready. ap (λ (l : List Day). let c : Book = record { days = l; vehicles = (book x).vehicles } in c) (changed x knows))
        (λ x knows ready ds v adding. (inr ((opened x knows w some).0, ⊎_elim (λ left. inl left) (λ done. inr (done ∙ changed x knows)) adding.0), adding.1))
      where
        changed : (x : List ℕ) → KnowsCard s x → with_change size w (book x).days ≡ closed_days size (mark_of (book x)) act (book x).days
        changed x knows =
            let o = opened x knows w some in
            ap (λ (n : ℕ). with_change size n (book x).days) o.1 ∙ sym (days_open size act (book x) o.0)

    pub word_failed : {old new : State} {failed : Bool} (u : Session) → DoesPart old new true (IsPartDone s t IsOpenBook (worded size act)) (IsPartMoment s IsOpenBook (IsWording size act)) → failed ≡ true
        → DoesPart old new failed (IsPartDone s u IsOpenBook (closed size act)) (IsPartMoment s IsOpenBook (IsCloseMoment size act))
    word_failed u part is = part_failed part is (λ x c was one knows ready. card_as s.application (IsWording size act (book x)) (IsCloseMoment size act (book x)) x c (λ ds v q. inl (q.1, q.0)) (one knows ready))

    -- without a vehicle entry nothing else
    pub word_alone : {old new : State} → DoesPart old new false (IsPartDone s t IsOpenBook (worded size act)) (IsPartMoment s IsOpenBook (IsWording size act)) → (s.newest ≡ None) ⊎ (s.vehicle ≡ None)
        → DoesPart old new false (IsPartDone s t IsOpenBook (closed size act)) (IsPartMoment s IsOpenBook (IsCloseMoment size act))
    word_alone part none =
        part_as part
        (λ x y was one knows ready.
        let a = one knows ready in
        (subst (λ (c : Book). IsCard s.application (IsBook c) x y) (sym (closed_open size act (book x) (opened x knows w some).0 ∙ no_mark x knows)) a.0, a.1))
        (λ x c was one knows ready. card_as s.application (IsWording size act (book x)) (IsCloseMoment size act (book x)) x c (λ ds v q. inl (q.1, q.0)) (one knows ready))
      where
        none_there : (x : List ℕ) → (o : Option ℕ) → IsNewest (vehicle_ring s.application) x o → (book x).vehicles.newest ≡ None → IsNewest (vehicle_ring s.application) x None
        none_there x None newest empty = newest
        none_there x (Some i) newest empty = let both : Some (vehicle_of (entry_at (vehicle_ring s.application) x i)) ≡ None = sym (newest_told s.application x (Some i) newest) ∙ empty in absurd (cc)

        no_vehicle : (x : List ℕ) → KnowsCard s x → IsNewest (vehicle_ring s.application) x None
        no_vehicle x knows = ⊎_elim
            (λ newest. subst (λ (o : Option ℕ). IsNewest (vehicle_ring s.application) x o) newest knows.newest)
            (λ vehicle. none_there x s.newest knows.newest (sym knows.vehicle ∙ vehicle)) none

        no_mark : (x : List ℕ) → KnowsCard s x → marked size act (book x) ≡ worded size act (book x)
        no_mark x knows =
            ap (λ (o : Vehicles). let c : Book = record { days = closed_days size (mark_of (book x)) act (book x).days; vehicles = o } in c)
            (none_renewed s.application x knows.points (no_vehicle x knows) (used (60 * suc (mark_of (book x)))))

    -- with one, its last use
    module _ (seconds : ℕ) (seconds_are : seconds ≡ 60 * suc mark) where
      abbrev IsMarking : Book → List Day → Vehicles → Type 0
      IsMarking b ds v = IsWording size act b ds v ⊎ ((ds ≡ (worded size act b).days) × ((v ≡ b.vehicles) ⊎ (v ≡ last_used seconds b.vehicles)))

      marked_at : (x : List ℕ) → KnowsCard s x → with_last_use seconds (worded size act (book x)) ≡ closed size act (book x)
      marked_at x knows =
          ap (λ (n : ℕ). with_last_use n (worded size act (book x))) (seconds_are ∙ ap (λ (m : ℕ). 60 * suc m) (mark_at x knows))
          ∙ sym (closed_open size act (book x) (opened x knows w some).0)

      vehicle_at : (x : List ℕ) → KnowsCard s x → last_used seconds (book x).vehicles ≡ (closed size act (book x)).vehicles
      vehicle_at x knows = ap (λ (c : Book). c.vehicles) (marked_at x knows)

      days_at : (x : List ℕ) → KnowsCard s x → (worded size act (book x)).days ≡ (closed size act (book x)).days
      days_at x knows = ap (λ (c : Book). c.days) (marked_at x knows)

      moment : (x : List ℕ) → KnowsCard s x → (ds : List Day) (v : Vehicles) → IsMarking (book x) ds v → IsCloseMoment size act (book x) ds v
      moment x knows ds v (inl word) = inl (word.1, word.0)
      moment x knows ds v (inr mark) = ⊎_elim
          (λ still. inl (still, inr ((opened x knows w some).0, inr mark.0)))
          (λ set. inr (mark.0 ∙ days_at x knows, set ∙ vehicle_at x knows))
          mark.1

      pub mark_then : {old mid new : State} {failed : Bool} (u : Session) → t.application ≡ s.application
          → DoesPart old mid false (IsPartDone s t IsOpenBook (worded size act)) (IsPartMoment s IsOpenBook (IsWording size act))
          → DoesPart mid new failed (IsPartDone t u AnyBook (with_last_use seconds)) (IsPartMoment t AnyBook (IsSettingUse seconds))
          → DoesPart old new failed (IsPartDone s u IsOpenBook (closed size act)) (IsPartMoment s IsOpenBook (IsCloseMoment size act))
      mark_then u app first next =
          part_as
          (then_part s t u IsOpenBook AnyBook (worded size act) (with_last_use seconds) (IsWording size act) (IsSettingUse seconds) IsMarking app first next (λ x y knows ready then. tt)
          (λ b ds v ready q. inl q) (λ b ds v ready q. inr q))
          (λ x y was one knows ready. let a = one knows ready in (subst (λ (c : Book). IsCard s.application (IsBook c) x y) (marked_at x knows) a.0, a.1))
          (λ x c was one knows ready. card_as s.application (IsMarking (book x)) (IsCloseMoment size act (book x)) x c (moment x knows) (one knows ready))

-- beside what the session then knows
pub closes : {old new : State} {failed : Bool} (s u : Session) (act : Activity) → DoesPart old new failed (IsPartDone s u IsOpenBook (closed s.application.activity act)) (IsPartMoment s IsOpenBook (IsCloseMoment s.application.activity act))
    → DoesPart old new failed (ClosesWords s act) (IsPartMoment s IsOpenBook (IsCloseMoment s.application.activity act))
closes s u act part = part_as part (λ x y was one knows ready. (one knows ready).0) (λ x c was one. one)

-- ---- the end of the session

-- the same by an activity that is the one
pub with_activity : {s : Session} {a b : Activity} {old new : State} {failed : Bool} → a ≡ b → DoesPart old new failed (ClosesWords s a) (IsPartMoment s IsOpenBook (IsCloseMoment s.application.activity a))
    → DoesPart old new failed (ClosesWords s b) (IsPartMoment s IsOpenBook (IsCloseMoment s.application.activity b))
with_activity {s} {a} {b} {old} {new} {failed} is part = subst (λ (c : Activity). DoesPart old new failed (ClosesWords s c) (IsPartMoment s IsOpenBook (IsCloseMoment s.application.activity c))) is part

inside : (a : Application) → place_of a (file 0x0507) + 4 ≤ image_size_of a
unfolding files_of
inside a = omega arith

-- what may be written still
pub may_end : (p q : Application) {old new : State} {R : List ℕ → List ℕ → Type 0} → LeavesOnly old new R → q ≡ p → MayClose p old → (place_of q (file 0x0507) + 4 ≤ new.size) × LiesInside new.writable (place_of q (file 0x0507)) 4
may_end p q {old} {new} run is may =
    subst (λ (a : Application). (place_of a (file 0x0507) + 4 ≤ new.size) × LiesInside new.writable (place_of a (file 0x0507)) 4) (sym is) (
      omega (arith, inside p, may.keep.fits, run.size),
      subst (λ (w : List (ℕ × ℕ)). LiesInside w (place_of p (file 0x0507)) 4) (sym run.writable) may.session,
    )

module _ (s : Session) (act : Activity) (place : ℕ) (bytes : List ℕ) (place_is : place ≡ place_of s.application (file 0x0507)) (bytes_are : bytes ≡ 0 ∷ 0 ∷ 0 ∷ 0 ∷ []) where
  ended_is : (y : List ℕ) → put place bytes y ≡ ended s.application y
  ended_is y = ap (λ (p : ℕ). put p bytes y) place_is ∙ ap (λ (l : List ℕ). put (place_of s.application (file 0x0507)) l y) bytes_are

  pub words_failed : {old new : State} → LeavesOnly old new (IsPartMoment s IsOpenBook (IsCloseMoment s.application.activity act)) → LeavesOnly old new (λ x c. IsSession s x → IsCardClosing s act x c)
  words_failed run = weaken run (λ x c was is knows. inl (is knows.card knows.book))

  module _ {old mid new : State} (part : DoesPart old mid false (ClosesWords s act) (IsPartMoment s IsOpenBook (IsCloseMoment s.application.activity act))) (next : LeavesOnly mid new (IsPartlyWritten place bytes)) where
    before : (x y : List ℕ) → old.image ≡ Some x → mid.image ≡ Some y → IsSession s x → IsCard s.application (IsBook (closed s.application.activity act (book_of s.application x))) x y
    before x y was is knows = at_image (λ y. ClosesWords s act x y) is (at_image (λ x. IfSome mid.image (ClosesWords s act x)) was (part.done refl)) knows.card knows.book

    pub end_moments : LeavesOnly old new (λ x c. IsSession s x → IsCardClosing s act x c)
    end_moments = goes_on (words_failed part.leaves) next (λ x y c was is partly knows.
        let card = before x y was is knows in
        ⊎_elim
        (λ unwritten. inl (subst (λ (l : List ℕ). IsCard s.application (IsCloseMoment s.application.activity act (book_of s.application x)) x l) (sym unwritten) (card_as s.application (IsBook (closed s.application.activity act (book_of s.application x))) (IsCloseMoment s.application.activity act (book_of s.application x)) x y (λ ds v q. inr q) card)))
        (λ written. inr (record { before = y; card = card; session = written ∙ ended_is y }))
        (partly.whole (omega (arith, ap length bytes_are))))

    pub end_closed : new.image ≡ option_map (put place bytes) mid.image → IfSome old.image (λ x. IfSome new.image (λ z. IsSession s x → IsCardClosed s act x z))
    end_closed written = where_told old.image new.image (λ x z. IsSession s x → IsCardClosed s act x z) (λ x z was is knows.
        let middle = told_too new.image mid.image z next.tells is in
        record { before = middle.0; card = before x middle.0 was middle.1 knows; session = turned_into (put place bytes) written middle.1 is ∙ ended_is middle.0 })
