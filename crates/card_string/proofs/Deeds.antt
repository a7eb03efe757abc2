-- What the moments of each call make of a card's days and of its vehicle entries, deed by deed.
use Rattle.std.proofs.Common.{◌≡◌, ◌⊎◌, inl, inr, ⊎_elim, ℕ, suc, ◌+◌, ◌*◌, ◌/◌, ◌<◌, ◌≤◌, Bool, true, false, cond, Option, Some, None, List, [], ◌∷◌, ◌++◌, append_assoc, length, refl, sym, ◌∙◌, ap, subst, arith, option_map}
use Rattle.std.proofs.lemmas.List.{append-nil}
use Rattle.card_by_hand.specs.activity_codec.declared.values.Activity.{Activity}
use Rattle.card_by_hand.specs.activity_codec.declared.values.Activity.TheVariants.{Rest}
use Rattle.card_by_hand.specs.activity_codec.declared.entries.Entry.{Entry}
use Rattle.card_by_hand.specs.activity_codec.declared.entries.Manual.{Manual}
use Rattle.card_by_hand.specs.tacho_types.declared.texts.Registration.{Registration}
use Rattle.tach_media.specs.card_layout.declared.files.Application.{Application}
use Rattle.tach_media.specs.card_layout.Application.{IsApplication}
use Rattle.tach_media.specs.card_layout.Files.{place_of, image_size_of}
use Rattle.card_by_hand.specs.card_retention.Shown.{AllUpTo, is_open}
use Rattle.card_by_hand.specs.gated_ring.Ring.{PointsInside}
use Rattle.card_by_hand.specs.card_image.Fields.{file, vehicle_ring, end_mark, last_use_of}
use Rattle.card_by_hand.specs.card_image.Beside.{HaveSameDays, HaveSameVehicles}
use Rattle.card_by_hand.specs.card_files.declared.vehicle.Vehicle.{Vehicle}
use Rattle.card_by_hand.specs.card_session.Books.{Book, mark_of, with_entry, closed, closed_days, last_used, used}
use Rattle.card_by_hand.specs.card_session.Sessions.{Session, book_of}
use Rattle.card_by_hand.specs.card_session.Moments.{IsKeepMoment, IsCloseMoment}
use Rattle.card_by_hand.specs.card_session.ByHand.{by_hand, IsByHandMoment}
use Rattle.card_by_hand.specs.card_session.Cards.{IsCardKeeping, IsCardClosing, ended, grown}
use Rattle.card_by_hand.specs.card_session.Vehicles.{Vehicles, last_use_in}
use Rattle.card_by_hand.specs.card_session.Inserting.{Follow, lacked, with_cut, with_owed, IsReplaying, repaired, IsRepairMoment, IsStill, IsRepaired, IsRepairing, IsNoted, IsNoting, IsShut, IsShutting, InsertingClosed, InsertingOpen}
use Rattle.card_by_hand.specs.First.{AreEntered, IsEntering, IsKeepingBehind, IsFirstKeeping}
use Rattle.card_by_hand.proofs.card_session.Composing.{book_is, told_book}
use Rattle.card_by_hand.proofs.card_session.InsertingBooks.{lacked_follow}
use Rattle.card_by_hand.proofs.card_session.InsertingCards.{noted_same, noting_same}
use Rattle.card_by_hand.proofs.card_session.InsertingUse.{use_inside}
use Rattle.card_by_hand.proofs.card_session.InsertingOpen.{opening_same, reopening_same}
use Rattle.card_by_hand.proofs.card_session.InsertingAgain.{noted_keeps}
use Rattle.card_by_hand.proofs.card_session.Marks.{mark_told}
use Rattle.card_by_hand.proofs.card_session.Preparing.{used_at}
use Rattle.card_by_hand.proofs.card_session.Stopping.{before_use, ended_same}
use Rattle.card_string.specs.Deeds.{EntryKept, Keep, Enter, Close, Cut, Step, Done, Broken, Makes, MadeBy, kept_by, kept_in, AreNext, IsMadeOf, IsMade}
use Rattle.card_string.proofs.Lists.{same_parts}
use Rattle.card_string.proofs.SameBook.{same_book}

-- ---- one step more

made_then : (size : ℕ) (ss : List Step) (s : Step) (b y c : Book) → MadeBy size ss b y → Makes size s y c → MadeBy size (ss ++ s ∷ []) b c
made_then size [] s b y c made last = (c, subst (λ (k : Book). Makes size s k c) made last, refl)
made_then size (t ∷ ss) s b y c made last = (made.0, made.1, made_then size ss s made.0 y c made.2 last)

kept_then : (ss : List Step) (s : Step) → kept_in (ss ++ s ∷ []) ≡ kept_in ss ++ kept_by s
kept_then [] s = append-nil (kept_by s)
kept_then (t ∷ ss) s = ap (λ (l : List Entry). kept_by t ++ l) (kept_then ss s) ∙ sym (append_assoc (kept_by t) (kept_in ss) (kept_by s))

-- of all entries those behind the kept ones
next_left : (ss : List Step) (all : List Entry) → AreNext ss all → (left : List Entry) × (all ≡ kept_in ss ++ left)
next_left [] all h = (all, refl)
next_left (Done (Keep k) ∷ ss) [] h = absurd h
next_left (Done (Keep k) ∷ ss) (e ∷ all) h = let r = next_left ss all h.1 in (r.0, λ i. sym h.0 i ∷ r.1 i)
next_left (Done (Enter hand) ∷ ss) all h = next_left ss all h
next_left (Done (Close act) ∷ ss) all h = next_left ss all h
next_left (Done Cut ∷ ss) all h = next_left ss all h
next_left (Broken (Keep k) ∷ ss) [] h = absurd h
next_left (Broken (Keep k) ∷ ss) (e ∷ all) h = next_left ss (e ∷ all) h.1
next_left (Broken (Enter hand) ∷ ss) all h = next_left ss all h
next_left (Broken (Close act) ∷ ss) all h = next_left ss all h
next_left (Broken Cut ∷ ss) all h = next_left ss all h

-- a step more, which begins no keep but that of the first of these
next_then : (ss : List Step) (s : Step) (all left : List Entry) → all ≡ kept_in ss ++ left → AreNext ss all → AreNext (s ∷ []) left → AreNext (ss ++ s ∷ []) all
next_then [] s all left are h last = subst (λ (l : List Entry). AreNext (s ∷ []) l) (sym are) last
next_then (Done (Keep k) ∷ ss) s [] left are h last = absurd h
next_then (Done (Keep k) ∷ ss) s (e ∷ all) left are h last = let rest : all ≡ kept_in ss ++ left = cc in (h.0, next_then ss s all left rest h.1 last)
next_then (Done (Enter hand) ∷ ss) s all left are h last = next_then ss s all left are h last
next_then (Done (Close act) ∷ ss) s all left are h last = next_then ss s all left are h last
next_then (Done Cut ∷ ss) s all left are h last = next_then ss s all left are h last
next_then (Broken (Keep k) ∷ ss) s [] left are h last = absurd h
next_then (Broken (Keep k) ∷ ss) s (e ∷ all) left are h last = (h.0, next_then ss s (e ∷ all) left are h.1 last)
next_then (Broken (Enter hand) ∷ ss) s all left are h last = next_then ss s all left are h last
next_then (Broken (Close act) ∷ ss) s all left are h last = next_then ss s all left are h last
next_then (Broken Cut ∷ ss) s all left are h last = next_then ss s all left are h last

-- entries more
next_more : (ss : List Step) (all others : List Entry) → AreNext ss all → AreNext ss (all ++ others)
next_more [] all others h = tt
next_more (Done (Keep k) ∷ ss) [] others h = absurd h
next_more (Done (Keep k) ∷ ss) (e ∷ all) others h = (h.0, next_more ss all others h.1)
next_more (Done (Enter hand) ∷ ss) all others h = next_more ss all others h
next_more (Done (Close act) ∷ ss) all others h = next_more ss all others h
next_more (Done Cut ∷ ss) all others h = next_more ss all others h
next_more (Broken (Keep k) ∷ ss) [] others h = absurd h
next_more (Broken (Keep k) ∷ ss) (e ∷ all) others h = (h.0, next_more ss (e ∷ all) others h.1)
next_more (Broken (Enter hand) ∷ ss) all others h = next_more ss all others h
next_more (Broken (Close act) ∷ ss) all others h = next_more ss all others h
next_more (Broken Cut ∷ ss) all others h = next_more ss all others h

-- entries up to a mark are up to a later one
pub up_later : (m n : ℕ) → m ≤ n → (es : List Entry) → AllUpTo m es → AllUpTo n es
up_later m n le [] up = tt
up_later m n le (e ∷ es) up = (omega (arith, up.0, le), up_later m n le es up.1)

-- a closing leaves the end mark or moves it on
pub used_low : (v : Vehicles) → last_use_in v / 60 ≤ last_use_in (last_used (60 * suc (last_use_in v / 60)) v) / 60
used_low v = by v.newest
  where
    by : (o : Option Vehicle) → last_use_of o / 60 ≤ last_use_of (option_map (used (60 * suc (last_use_of o / 60))) o) / 60
    by None = omega arith
    by (Some u) = omega arith

closed_low : (size : ℕ) (act : Activity) (b : Book) → mark_of b ≤ mark_of (closed size act b)
closed_low size act b = by (is_open (mark_of b) b.days)
  where
    by : (o : Bool) → mark_of b ≤ mark_of (cond o (let c : Book = record { days = closed_days size (mark_of b) act b.days; vehicles = last_used (60 * suc (mark_of b)) b.vehicles } in c) b)
    by true = used_low b.vehicles
    by false = omega arith

module _ (size : ℕ) (start : Book) where
  step_made : (more all left : List Entry) (s : Step) (b c : Book) → all ≡ more ++ left → AreNext (s ∷ []) left → Makes size s b c → IsMadeOf size start more all b → IsMadeOf size start (more ++ kept_by s) all c
  step_made more all left s b c are last makes m = record {
    steps = m.steps ++ s ∷ [];
    kept = kept_then m.steps s ∙ ap (λ (l : List Entry). l ++ kept_by s) m.kept;
    next = next_then m.steps s all left (are ∙ ap (λ (l : List Entry). l ++ left) (sym m.kept)) m.next last;
    made = made_then size m.steps s start b c m.made makes;
  }

  -- one that keeps no entry
  stay_made : (more all left : List Entry) (s : Step) (b c : Book) → kept_by s ≡ [] → all ≡ more ++ left → AreNext (s ∷ []) left → Makes size s b c → IsMadeOf size start more all b → IsMadeOf size start more all c
  stay_made more all left s b c none are last makes m =
      subst (λ (l : List Entry). IsMadeOf size start l all c) (ap (λ (l : List Entry). more ++ l) none ∙ append-nil more) (step_made more all left s b c are last makes m)

  -- nor begins one
  quiet_made : (more all : List Entry) (s : Step) (b c : Book) → kept_by s ≡ [] → ((left : List Entry) → AreNext (s ∷ []) left) → Makes size s b c → IsMadeOf size start more all b → IsMadeOf size start more all c
  quiet_made more all s b c none quiet makes m =
      let behind = next_left m.steps all m.next in
      stay_made more all behind.0 s b c none (behind.1 ∙ ap (λ (l : List Entry). l ++ behind.0) m.kept) (quiet behind.0) makes m

  pub same_made : (more all : List Entry) (b c : Book) → c ≡ b → IsMadeOf size start more all b → IsMadeOf size start more all c
  same_made more all b c same m = subst (IsMadeOf size start more all) (sym same) m

  -- ---- A KEEP

  module _ (registration : Registration) (odometer km : ℕ) (e : Entry) (b : Book) where
    abbrev kept_so : EntryKept
    kept_so = record { entry = e; registration = registration; odometer = odometer; km = km }

    keep_done : (more all left : List Entry) → all ≡ more ++ e ∷ left → IsMadeOf size start more all b → (c : Book) → c ≡ with_entry size registration odometer km b e → IsMadeOf size start (more ++ e ∷ []) all c
    keep_done more all left are m c is = step_made more all (e ∷ left) (Done (Keep kept_so)) b c are (refl, tt) is m

    keep_broken : (more all left : List Entry) → all ≡ more ++ e ∷ left → IsMadeOf size start more all b → (c : Book) → IsKeepMoment size registration odometer km e b c.days c.vehicles → IsMadeOf size start more all c
    keep_broken more all left are m c moment = stay_made more all (e ∷ left) (Broken (Keep kept_so)) b c refl are (refl, tt) moment m

    -- the end mark is the old one, or it is done
    keep_sides : (c : Book) → IsKeepMoment size registration odometer km e b c.days c.vehicles → (mark_of c ≡ mark_of b) ⊎ (c ≡ with_entry size registration odometer km b e)
    keep_sides c (inl old) = inl (ap (λ (v : Vehicles). last_use_in v / 60) old.0)
    keep_sides c (inr new) = ⊎_elim
        (λ unused. inl (before_use registration odometer e.minute b.vehicles c.vehicles unused))
        (λ used. inr (book_is (with_entry size registration odometer km b e) c.days c.vehicles new.0 used))
        new.1

  -- ---- AN ENTRY BY HAND, which keeps no entry and begins none

  entered_made : (hand : Manual) (b c : Book) (more all : List Entry) → c ≡ by_hand size hand b → IsMadeOf size start more all b → IsMadeOf size start more all c
  entered_made hand b c more all is m = quiet_made more all (Done (Enter hand)) b c refl (λ left. tt) is m

  entering_made : (hand : Manual) (b c : Book) (more all : List Entry) → IsByHandMoment size hand b c.days c.vehicles → IsMadeOf size start more all b → IsMadeOf size start more all c
  entering_made hand b c more all moment m = quiet_made more all (Broken (Enter hand)) b c refl (λ left. tt) moment m

  -- ---- A CLOSING

  closing_made : (act : Activity) (b c : Book) (more all : List Entry) → IsCloseMoment size act b c.days c.vehicles → IsMadeOf size start more all b → IsMadeOf size start more all c
  closing_made act b c more all (inl before) m = ⊎_elim
      (λ same. same_made more all b c (book_is b c.days c.vehicles same before.0) m)
      (λ word. quiet_made more all (Broken (Close act)) b c refl (λ left. tt) (inl before) m)
      before.1
  closing_made act b c more all (inr book) m = quiet_made more all (Done (Close act)) b c refl (λ left. tt) (book_is (closed size act b) c.days c.vehicles book.0 book.1) m

  closing_low : (act : Activity) (b c : Book) → IsCloseMoment size act b c.days c.vehicles → mark_of b ≤ mark_of c
  closing_low act b c (inl before) = let same : mark_of c ≡ mark_of b = ap (λ (v : Vehicles). last_use_in v / 60) before.0 in omega (arith, same)
  closing_low act b c (inr book) = let same : mark_of c ≡ mark_of (closed size act b) = ap (λ (v : Vehicles). last_use_in v / 60) book.1 in omega (arith, same, closed_low size act b)

  -- ---- A REPAIR

  -- of some entries the first are kept, up to the end mark, and the others come behind it
  record Parted (low : ℕ) (more es all : List Entry) (c : Book) : Type 0 where
    pub done : List Entry
    pub rest : List Entry
    pub split : es ≡ done ++ rest
    pub above : low ≤ mark_of c
    pub up : AllUpTo (mark_of c) done
    pub behind : Follow (mark_of c) rest
    pub made : IsMadeOf size start (more ++ done) all c

  -- all of them
  record Whole (low : ℕ) (more es all : List Entry) (c : Book) : Type 0 where
    pub above : low ≤ mark_of c
    pub up : AllUpTo (mark_of c) es
    pub made : IsMadeOf size start (more ++ es) all c

  whole_parted : (low : ℕ) (more es all : List Entry) (c : Book) → Whole low more es all c → Parted low more es all c
  whole_parted low more es all c w = record { done = es; rest = []; split = sym (append-nil es); above = w.above; up = w.up; behind = tt; made = w.made }

  whole_same : (low : ℕ) (more es all : List Entry) (b c : Book) → c ≡ b → Whole low more es all b → Whole low more es all c
  whole_same low more es all b c same w = subst (Whole low more es all) (sym same) w

  whole_closing : (act : Activity) (low : ℕ) (more es all : List Entry) (b c : Book) → IsCloseMoment size act b c.days c.vehicles → Whole low more es all b → Whole low more es all c
  whole_closing act low more es all b c moment w =
      let on : mark_of b ≤ mark_of c = closing_low act b c moment in
      record { above = omega (arith, w.above, on); up = up_later (mark_of b) (mark_of c) on es w.up; made = closing_made act b c (more ++ es) all moment w.made }

  none_done : (b c : Book) (more es all : List Entry) → mark_of c ≡ mark_of b → Follow (mark_of b) es → IsMadeOf size start more all c → Parted (mark_of b) more es all c
  none_done b c more es all same follow m = record {
    done = [];
    rest = es;
    split = refl;
    above = omega (arith, same);
    up = tt;
    behind = subst (λ (n : ℕ). Follow n es) (sym same) follow;
    made = subst (λ (l : List Entry). IsMadeOf size start l all c) (sym (append-nil more)) m;
  }

  one_done : (low : ℕ) (more es all : List Entry) (e : Entry) (c : Book) → low < e.minute → mark_of c ≡ e.minute → Follow e.minute es → IsMadeOf size start (more ++ e ∷ []) all c → Parted low more (e ∷ es) all c
  one_done low more es all e c late at follow m =
      record { done = e ∷ []; rest = es; split = refl; above = omega (arith, late, at); up = (omega (arith, at), tt); behind = subst (λ (n : ℕ). Follow n es) (sym at) follow; made = m }

  one_more : (low : ℕ) (more es all : List Entry) (e : Entry) (c : Book) → low < e.minute → Parted e.minute (more ++ e ∷ []) es all c → Parted low more (e ∷ es) all c
  one_more low more es all e c late p = record {
    done = e ∷ p.done;
    rest = p.rest;
    split = ap (λ (l : List Entry). e ∷ l) p.split;
    above = omega (arith, late, p.above);
    up = (p.above, p.up);
    behind = p.behind;
    made = subst (λ (l : List Entry). IsMadeOf size start l all c) (append_assoc more (e ∷ []) p.done) p.made;
  }

  module _ (registration : Registration) (odometer : ℕ) where
    abbrev next_book : Entry → Book → Book
    next_book e b = with_entry size registration odometer 0 b e

    next_mark : (e : Entry) (b : Book) → mark_of (next_book e b) ≡ e.minute
    next_mark e b = used_at registration odometer e.minute b.vehicles

    replaying_parted : (es : List Entry) (b c : Book) (more all : List Entry) → all ≡ more ++ es → Follow (mark_of b) es → IsReplaying size registration odometer es b c.days c.vehicles → IsMadeOf size start more all b → Parted (mark_of b) more es all c
    replaying_parted [] b c more all are follow is m = none_done b c more [] all (ap (λ (v : Vehicles). last_use_in v / 60) is.1) tt (same_made more all b c (book_is b c.days c.vehicles is.0 is.1) m)
    replaying_parted (e ∷ es) b c more all are follow (inl moment) m = ⊎_elim
        (λ old. none_done b c more (e ∷ es) all old follow (keep_broken registration odometer 0 e b more all es are m c moment))
        (λ done. one_done (mark_of b) more es all e c follow.0 (ap (λ (k : Book). mark_of k) done ∙ next_mark e b) follow.1 (keep_done registration odometer 0 e b more all es are m c done))
        (keep_sides registration odometer 0 e b c moment)
    replaying_parted (e ∷ es) b c more all are follow (inr later) m =
        one_more (mark_of b) more es all e c follow.0
        (subst (λ (n : ℕ). Parted n (more ++ e ∷ []) es all c) (next_mark e b)
        (replaying_parted es (next_book e b) c (more ++ e ∷ []) all (are ∙ sym (append_assoc more (e ∷ []) es)) (subst (λ (n : ℕ). Follow n es) (sym (next_mark e b)) follow.1) later
        (keep_done registration odometer 0 e b more all es are m (next_book e b) refl)))

    owed_whole : (es : List Entry) (b : Book) (more all : List Entry) → all ≡ more ++ es → Follow (mark_of b) es → IsMadeOf size start more all b → Whole (mark_of b) more es all (with_owed size registration odometer es b)
    owed_whole [] b more all are follow m = record { above = omega arith; up = tt; made = subst (λ (l : List Entry). IsMadeOf size start l all b) (sym (append-nil more)) m }
    owed_whole (e ∷ es) b more all are follow m =
        let w = owed_whole es (next_book e b) (more ++ e ∷ []) all (are ∙ sym (append_assoc more (e ∷ []) es)) (subst (λ (n : ℕ). Follow n es) (sym (next_mark e b)) follow.1) (keep_done registration odometer 0 e b more all es are m (next_book e b) refl) in
        record {
          above = omega (arith, follow.0, w.above, next_mark e b);
          up = (omega (arith, w.above, next_mark e b), w.up);
          made = subst (λ (l : List Entry). IsMadeOf size start l all (with_owed size registration odometer es (next_book e b))) (append_assoc more (e ∷ []) es) w.made;
        }

    module _ (owed : List Entry) (ordered : Follow 1439 owed) (b : Book) (more all : List Entry) (are : all ≡ more ++ lacked (mark_of b) owed) (m : IsMadeOf size start more all b) where
      follows : Follow (mark_of b) (lacked (mark_of b) owed)
      follows = lacked_follow 1439 (mark_of b) owed ordered

      cut_done : IsMadeOf size start more all (with_cut (mark_of b) b)
      cut_done = quiet_made more all (Done Cut) b (with_cut (mark_of b) b) refl (λ left. tt) refl m

      repair_parted : (c : Book) → IsRepairMoment size registration odometer owed b c.days c.vehicles → Parted (mark_of b) more (lacked (mark_of b) owed) all c
      repair_parted c (inl cutting) = none_done b c more (lacked (mark_of b) owed) all (ap (λ (v : Vehicles). last_use_in v / 60) cutting.1) follows (⊎_elim
          (λ shorter. quiet_made more all (Broken Cut) b c refl (λ left. tt) cutting m)
          (λ done. quiet_made more all (Done Cut) b c refl (λ left. tt) (book_is (with_cut (mark_of b) b) c.days c.vehicles done cutting.1) m) cutting.0)
      repair_parted c (inr replaying) = replaying_parted (lacked (mark_of b) owed) (with_cut (mark_of b) b) c more all are follows replaying cut_done

      repair_whole : Whole (mark_of b) more (lacked (mark_of b) owed) all (repaired size registration odometer owed b)
      repair_whole = owed_whole (lacked (mark_of b) owed) (with_cut (mark_of b) b) more all are follows cut_done

-- ---- OF A CARD

pub made_start : (app : Application) (image : List ℕ) → IsMade app image [] [] image
made_start app image = record { deeds = record { steps = []; kept = refl; next = tt; made = refl } }

made_by : (app : Application) (image : List ℕ) (more all : List Entry) (x : List ℕ) → IsMadeOf app.activity (book_of app image) more all (book_of app x) → IsMade app image more all x
made_by app image more all x deeds = record { deeds = deeds }

-- entries more that it is to have
pub made_more : (app : Application) (image : List ℕ) (more all others : List Entry) (x : List ℕ) → IsMade app image more all x → IsMade app image more (all ++ others) x
made_more app image more all others x m = record { deeds = record { steps = m.deeds.steps; kept = m.deeds.kept; next = next_more m.deeds.steps all others m.deeds.next; made = m.deeds.made } }

pub made_same : (app : Application) (image : List ℕ) (more all : List Entry) (x y : List ℕ) → book_of app y ≡ book_of app x → IsMade app image more all x → IsMade app image more all y
made_same app image more all x y same m = record { deeds = same_made app.activity (book_of app image) more all (book_of app x) (book_of app y) same m.deeds }

-- a keep
module _ (s : Session) (image : List ℕ) (more all left : List Entry) (e : Entry) (odometer : ℕ) (x y : List ℕ) (are : all ≡ more ++ e ∷ left) (m : IsMade s.application image more all x) (keeping : IsCardKeeping s e odometer x y) where
  pub keep_stopped : IsMade s.application image more all y
  keep_stopped = record { deeds = keep_broken s.application.activity (book_of s.application image) s.registration odometer (grown s.odometer odometer) e (book_of s.application x) more all left are m.deeds (book_of s.application y) keeping.card.told }

  pub keep_made : end_mark s.application x < e.minute → end_mark s.application y ≡ e.minute → IsMade s.application image (more ++ e ∷ []) all y
  keep_made late at = ⊎_elim
      (λ old. absurd (omega (arith, late, at, old, mark_told s.application x, mark_told s.application y)))
      (λ done. made_by s.application image (more ++ e ∷ []) all y (keep_done s.application.activity (book_of s.application image) s.registration odometer (grown s.odometer odometer) e (book_of s.application x) more all left are m.deeds (book_of s.application y) done))
      (keep_sides s.application.activity (book_of s.application image) s.registration odometer (grown s.odometer odometer) e (book_of s.application x) (book_of s.application y) keeping.card.told)

-- entries by hand, all of them and at a moment of them
entered_all : (hs : List Manual) (s next : Session) (image : List ℕ) (more all : List Entry) (x y : List ℕ) → IsMade s.application image more all x → AreEntered hs s next x y → IsMade s.application image more all y
entered_all [] s next image more all x y m entered = subst (λ (l : List ℕ). IsMade s.application image more all l) (sym entered.1) m
entered_all (h ∷ hs) s next image more all x y m entered =
    subst (λ (a : Application). IsMade a image more all y) entered.2.application
    (entered_all hs entered.0 next image more all entered.1 y (subst (λ (a : Application). IsMade a image more all entered.1) (sym entered.2.application) one) entered.4)
  where
    one : IsMade s.application image more all entered.1
    one = record {
      deeds = entered_made s.application.activity (book_of s.application image) h (book_of s.application x) (book_of s.application entered.1) more all
          (book_is (by_hand s.application.activity h (book_of s.application x)) (book_of s.application entered.1).days (book_of s.application entered.1).vehicles entered.3.card.told.0 entered.3.card.told.1) m.deeds;
    }

entering_all : (hs : List Manual) (s : Session) (image : List ℕ) (more all : List Entry) (x c : List ℕ) → IsMade s.application image more all x → IsEntering hs s x c → IsMade s.application image more all c
entering_all [] s image more all x c m entering = absurd entering
entering_all (h ∷ hs) s image more all x c m (inl now) =
    record { deeds = entering_made s.application.activity (book_of s.application image) h (book_of s.application x) (book_of s.application c) more all now.card.told m.deeds }
entering_all (h ∷ hs) s image more all x c m (inr behind) =
    subst (λ (a : Application). IsMade a image more all c) behind.2.application
    (entering_all hs behind.0 image more all behind.1 c (subst (λ (a : Application). IsMade a image more all behind.1) (sym behind.2.application) (entered_all (h ∷ []) s behind.0 image more all x behind.1 m (behind.0, behind.1, behind.2, behind.3, (refl, refl)))) behind.4)

-- the sizes stay with the sessions
pub entered_app : (hs : List Manual) (s next : Session) (x y : List ℕ) → AreEntered hs s next x y → next.application ≡ s.application
entered_app [] s next x y entered = ap (λ (t : Session). t.application) entered.0
entered_app (h ∷ hs) s next x y entered = entered_app hs entered.0 next entered.1 y entered.4 ∙ entered.2.application

-- a first keep
module _ (s : Session) (image : List ℕ) (more all left : List Entry) (hs : List Manual) (e : Entry) (odometer : ℕ) (x y : List ℕ) (are : all ≡ more ++ e ∷ left) (m : IsMade s.application image more all x) where
  module _ (behind : IsKeepingBehind s hs e odometer x y) where
    same : behind.between.application ≡ s.application
    same = entered_app hs s behind.between x behind.card behind.entered

    there : IsMade behind.between.application image more all behind.card
    there = subst (λ (a : Application). IsMade a image more all behind.card) (sym same) (entered_all hs s behind.between image more all x behind.card m behind.entered)

  pub first_stopped : IsFirstKeeping s hs e odometer x y → IsMade s.application image more all y
  first_stopped (inl entering) = entering_all hs s image more all x y m entering
  first_stopped (inr behind) =
      subst (λ (a : Application). IsMade a image more all y) (same behind) (keep_stopped behind.between image more all left e odometer behind.card y are (there behind) behind.keeping)

  -- whose end mark has moved, from that of the card behind its entries by hand
  pub first_made : (behind : IsKeepingBehind s hs e odometer x y) → end_mark behind.between.application behind.card < e.minute → end_mark s.application y ≡ e.minute → IsMade s.application image (more ++ e ∷ []) all y
  first_made behind late at =
      subst (λ (a : Application). IsMade a image (more ++ e ∷ []) all y) (same behind)
      (keep_made behind.between image more all left e odometer behind.card y are (there behind) behind.keeping late (subst (λ (a : Application). end_mark a y ≡ e.minute) (sym (same behind)) at))

-- a withdrawal
pub close_made : (s : Session) (act : Activity) (image : List ℕ) (more all : List Entry) (x y : List ℕ) → IsApplication s.application → image_size_of s.application ≤ length x → IsMade s.application image more all x → IsCardClosing s act x y → IsMade s.application image more all y
close_made s act image more all x y sound fits m (inl card) =
    record { deeds = closing_made s.application.activity (book_of s.application image) act (book_of s.application x) (book_of s.application y) more all card.told m.deeds }
close_made s act image more all x y sound fits m (inr done) =
    let k : List ℕ = done.before in
    let side = ended_same s.application sound k (omega (arith, fits, done.card.outside.same_length)) done.card.points in
    let same : book_of s.application y ≡ book_of s.application k = ap (book_of s.application) done.session ∙ same_book s.application sound k (ended s.application k) done.card.points side.0 side.1 in
    made_same s.application image more all k y same
    (record { deeds = closing_made s.application.activity (book_of s.application image) act (book_of s.application x) (book_of s.application k) more all (inr done.card.told) m.deeds })

-- of some entries the first are kept, up to a card's end mark, and the others come behind it
pub record PartedAt (app : Application) (image : List ℕ) (more es all : List Entry) (y : List ℕ) : Type 0 where
  pub done : List Entry
  pub rest : List Entry
  pub split : es ≡ done ++ rest
  pub up : AllUpTo (end_mark app y) done
  pub behind : Follow (end_mark app y) rest
  pub made : IsMade app image (more ++ done) all y

-- which are told by that
pub parted_made : (app : Application) (image : List ℕ) (more es all : List Entry) (y : List ℕ) → PartedAt app image more es all y → (done rest : List Entry) → es ≡ done ++ rest → AllUpTo (end_mark app y) done → Follow (end_mark app y) rest → IsMade app image (more ++ done) all y
parted_made app image more es all y p done rest split up behind =
    subst (λ (l : List Entry). IsMade app image (more ++ l) all y) (same_parts (end_mark app y) p.done p.rest done rest (sym p.split ∙ split) p.up up p.behind behind).first p.made

-- an insertion
module _ (app : Application) (sound : IsApplication app) (registration : Registration) (long : length registration.0 ≡ 15) (now : ℕ) (image : List ℕ) (more all : List Entry) (x : List ℕ) (fits : image_size_of app ≤ length x) (m : IsMade app image more all x) where
  abbrev start_book : Book
  start_book = book_of app image

  beside : (y z : List ℕ) → PointsInside (vehicle_ring app) y → HaveSameDays app y z → HaveSameVehicles app y z → book_of app z ≡ book_of app y
  beside y z points days vehicles = same_book app sound y z points days vehicles

  still_book : (y : List ℕ) → IsStill app x y → book_of app y ≡ book_of app x
  still_book y still = told_book app (book_of app x) x y still

  -- of a card without a session
  module _ (y : List ℕ) (still : IsStill app x y) where
    shut_made : (z : List ℕ) → IsShutting app y z → IsMade app image more all z
    shut_made z card =
        let was = made_same app image more all x y (still_book y still) m in
        record { deeds = closing_made app.activity start_book Rest (book_of app y) (book_of app z) more all card.told was.deeds }

    room_left : (z : List ℕ) → IsShut app y z → place_of app (file 0x0507) + 19 ≤ length z
    room_left z card = omega (arith, use_inside app, fits, still.outside.same_length, card.outside.same_length)

    shut_done : (z : List ℕ) → IsShut app y z → IsMade app image more all z
    shut_done z card =
        let was = made_same app image more all x y (still_book y still) m in
        record { deeds = closing_made app.activity start_book Rest (book_of app y) (book_of app z) more all (inr card.told) was.deeds }

  pub closed_made : (y : List ℕ) → InsertingClosed app registration now x y → IsMade app image more all y
  closed_made y (inl still) = made_same app image more all x y (still_book y still) m
  closed_made y (inr (x1, still, inl shutting)) = shut_made x1 still y shutting
  closed_made y (inr (x1, still, inr (x2, shut, opening))) =
      let side = opening_same app registration now long x2 y (room_left x1 still x2 shut) opening in
      made_same app image more all x2 y (beside x2 y shut.points side.0 side.1) (shut_done x1 still x2 shut)

  -- of one whose session was left open
  module _ (odometer : ℕ) (owed : List Entry) (ordered : Follow 1439 owed) (are : all ≡ more ++ lacked (end_mark app x) owed) where
    abbrev mark : ℕ
    mark = mark_of (book_of app x)

    abbrev lacks : List Entry
    lacks = lacked mark owed

    are_so : all ≡ more ++ lacks
    are_so = are ∙ ap (λ (n : ℕ). more ++ lacked n owed) (mark_told app x)

    abbrev Parts : List ℕ → Type 0
    Parts y = Parted app.activity start_book mark more lacks all (book_of app y)

    abbrev All_there : List ℕ → Type 0
    All_there y = Whole app.activity start_book mark more lacks all (book_of app y)

    still_parts : (y : List ℕ) → IsStill app x y → Parts y
    still_parts y still =
        none_done app.activity start_book (book_of app x) (book_of app y) more lacks all (ap (λ (k : Book). mark_of k) (still_book y still)) (lacked_follow 1439 mark owed ordered)
        (same_made app.activity start_book more all (book_of app x) (book_of app y) (still_book y still) m.deeds)

    module _ (y : List ℕ) (still : IsStill app x y) where
      repairing_parts : (z : List ℕ) → IsRepairing app registration odometer owed y z → Parts z
      repairing_parts z card = repair_parted app.activity start_book registration odometer owed ordered (book_of app x) more all are_so m.deeds (book_of app z)
          (subst (λ (k : Book). IsRepairMoment app.activity registration odometer owed k (book_of app z).days (book_of app z).vehicles) (still_book y still) card.told)

      module _ (z : List ℕ) (card : IsRepaired app registration odometer owed y z) where
        repaired_all : All_there z
        repaired_all = whole_same app.activity start_book mark more lacks all (repaired app.activity registration odometer owed (book_of app x)) (book_of app z)
            (told_book app (repaired app.activity registration odometer owed (book_of app y)) y z card ∙ ap (repaired app.activity registration odometer owed) (still_book y still))
            (repair_whole app.activity start_book registration odometer owed ordered (book_of app x) more all are_so m.deeds)

        noting_all : (w : List ℕ) → IsNoting app now z w → All_there w
        noting_all w noting =
            let side = noting_same app now z w noting in
            whole_same app.activity start_book mark more lacks all (book_of app z) (book_of app w) (beside z w card.points side.0 side.1) repaired_all

        module _ (w : List ℕ) (noted : IsNoted app now z w) where
          noted_all : All_there w
          noted_all =
              let side = noted_same app now z w noted in
              whole_same app.activity start_book mark more lacks all (book_of app z) (book_of app w) (beside z w card.points side.0 side.1) repaired_all

          shutting_all : (v : List ℕ) → IsShutting app w v → All_there v
          shutting_all v shutting = whole_closing app.activity start_book Rest mark more lacks all (book_of app w) (book_of app v) shutting.told noted_all

          shut_all : (v : List ℕ) → IsShut app w v → All_there v
          shut_all v shut = whole_closing app.activity start_book Rest mark more lacks all (book_of app w) (book_of app v) (inr shut.told) noted_all

          room : (v : List ℕ) → IsShut app w v → place_of app (file 0x0507) + 19 ≤ length v
          room v shut =
              let two : image_size_of app ≤ length z = omega (arith, fits, still.outside.same_length, card.outside.same_length) in
              omega (arith, use_inside app, two, (noted_keeps app now z w (omega (arith, use_inside app, two)) noted).1, shut.outside.same_length)

    all_parts : (y : List ℕ) → All_there y → Parts y
    all_parts y w = whole_parted app.activity start_book mark more lacks all (book_of app y) w

    open_parts : (y : List ℕ) → InsertingOpen app registration odometer owed now x y → Parts y
    open_parts y (inl still) = still_parts y still
    open_parts y (inr (x1, still, inl repairing)) = repairing_parts x1 still y repairing
    open_parts y (inr (x1, still, inr (x2, mended, inl noting))) = all_parts y (noting_all x1 still x2 mended y noting)
    open_parts y (inr (x1, still, inr (x2, mended, inr (x3, noted, inl shutting)))) = all_parts y (shutting_all x1 still x2 mended x3 noted y shutting)
    open_parts y (inr (x1, still, inr (x2, mended, inr (x3, noted, inr (x4, shut, reopening))))) =
        let side = reopening_same app registration now long x4 y (room x1 still x2 mended x3 noted x4 shut) reopening in
        all_parts y (whole_same app.activity start_book mark more lacks all (book_of app x4) (book_of app y) (beside x4 y shut.points side.0 side.1) (shut_all x1 still x2 mended x3 noted x4 shut))

    pub open_parted : (y : List ℕ) → InsertingOpen app registration odometer owed now x y → PartedAt app image more (lacked (end_mark app x) owed) all y
    open_parted y inserting =
        let p = open_parts y inserting in
        record {
          done = p.done;
          rest = p.rest;
          split = ap (λ (n : ℕ). lacked n owed) (mark_told app x) ∙ p.split;
          up = subst (λ (n : ℕ). AllUpTo n p.done) (sym (mark_told app y)) p.up;
          behind = subst (λ (n : ℕ). Follow n p.rest) (sym (mark_told app y)) p.behind;
          made = record { deeds = p.made };
        }
