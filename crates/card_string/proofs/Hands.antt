-- What a card's string tells of entries by hand since the start, at each moment of the calls on it.
use Rattle.std.proofs.Common.{◌≡◌, ◌⊎◌, inl, inr, ⊎_elim, ℕ, suc, ◌+◌, ◌-◌, ◌*◌, ◌/◌, ◌<◌, ◌≤◌, max, Bool, true, false, cond, List, [], ◌∷◌, ◌++◌, append_assoc, length, refl, sym, ◌∙◌, ap, subst, arith}
use Rattle.std.specs.List.{AllByRecursion}
use Rattle.std.specs.Prelude.{◌&&◌, not, nat_eq}
use Rattle.std.proofs.lemmas.Bool.{cases_lt}
use Rattle.card_by_hand.specs.activity_codec.Words.{word_absent}
use Rattle.card_by_hand.specs.activity_codec.declared.values.Activity.{Activity}
use Rattle.card_by_hand.specs.activity_codec.declared.values.Activity.TheVariants.{Rest}
use Rattle.card_by_hand.specs.activity_codec.declared.entries.Entry.{Entry}
use Rattle.card_by_hand.specs.activity_codec.declared.entries.Manual.{Manual}
use Rattle.card_by_hand.specs.tacho_types.declared.texts.Registration.{Registration}
use Rattle.tach_media.specs.card_layout.declared.files.Application.{Application}
use Rattle.tach_media.specs.card_layout.Application.{IsApplication}
use Rattle.tach_media.specs.card_layout.Files.{place_of, image_size_of}
use Rattle.card_by_hand.specs.gated_ring.Ring.{PointsInside}
use Rattle.card_by_hand.specs.card_model.Days.{Day, AreDays, last_word}
use Rattle.card_by_hand.specs.card_model.Changes.{fitting, date_of, trimmed}
use Rattle.card_by_hand.proofs.card_model.Ascending.{words_below}
use Rattle.card_by_hand.proofs.card_model.Retention.{remain_fitting}
use Rattle.card_by_hand.proofs.card_model.Trims.{are_trimmed, trimmed_twice, trim_from_moment}
use Rattle.card_by_hand.specs.card_retention.Expected.{WordDay, Counted, more, is_newest, closes, first_words, with_entry as counted_with}
use Rattle.card_by_hand.specs.card_retention.Entries.{last_entry, newest_word, EndsBy}
use Rattle.card_by_hand.specs.card_retention.Shown.{Bound, InDays, AllBefore, AllUpTo, sizes, is_open}
use Rattle.card_by_hand.specs.card_retention.ByHand.{with_by_hand, hands_in}
use Rattle.card_by_hand.proofs.card_retention.Entering.{closes_is}
use Rattle.card_by_hand.proofs.card_retention.Growing.{in_more, in_front}
use Rattle.card_by_hand.specs.card_image.Beside.{HaveSameDays, HaveSameVehicles}
use Rattle.card_by_hand.specs.card_image.Fields.{file, vehicle_ring, card_days, end_mark}
use Rattle.card_by_hand.specs.card_image.Own.{own_view, own_covered, counted_view}
use Rattle.card_by_hand.specs.card_image.View.{card_view}
use Rattle.card_by_hand.specs.hand_model.ByHand.{by_hand_up_to, TellsHands, HandsUpTo, HandsBefore}
use Rattle.card_by_hand.specs.hand_model.Holding.{LieBetween}
use Rattle.card_by_hand.specs.hand_model.Written.{Written, Written.Minute, Written.ByHand, Rises, GoesOnIn, IsUpTo, entries_of, hands_of, written_by, minutes_alone, counted_by}
use Rattle.card_by_hand.proofs.hand_model.Cuts.{tells_by, tells_trimmed, told_trimmed, hands_trimmed, up_append, up_more}
use Rattle.card_by_hand.proofs.hand_model.OfDay.{spans}
use Rattle.card_by_hand.proofs.hand_model.Told.{hands_before, tells_left}
use Rattle.card_by_hand.proofs.hand_model.Written.{counted_append, hands_append, hands_then, alone_hands, rises_then}
use Rattle.card_by_hand.specs.card_session.Books.{Book, mark_of, latest_of, closing_word, with_entry, with_change, closed_days, closed, last_used, gap_closed}
use Rattle.card_by_hand.specs.card_session.Cards.{IsCardKeeping, IsCardClosing, ended, grown}
use Rattle.card_by_hand.specs.card_session.Inserting.{Follow, lacked, with_cut, with_owed, IsBeforeAll, EndsCut, IsReplaying, repaired, IsRepairMoment, IsStill, IsRepaired, IsRepairing, IsNoted, IsNoting, IsShut, IsShutting, InsertingClosed, InsertingOpen}
use Rattle.card_by_hand.specs.card_session.Moments.{IsBeforeMark, IsKeepMoment, IsClosingWord, IsCloseMoment}
use Rattle.card_by_hand.specs.card_session.Overwriting.{BeginsBehind}
use Rattle.card_by_hand.specs.card_session.Parts.{IsBeforeGapOf}
use Rattle.card_by_hand.specs.card_session.Sessions.{Session, IsSession, EndsStrictly, book_of}
use Rattle.card_by_hand.specs.card_session.Vehicles.{Vehicles, last_use_in}
use Rattle.card_by_hand.proofs.card_session.Composing.{book_is, told_book}
use Rattle.card_by_hand.proofs.card_session.InsertingAgain.{noted_keeps}
use Rattle.card_by_hand.proofs.card_session.InsertingBooks.{cut_ready, trimmed_low}
use Rattle.card_by_hand.proofs.card_session.InsertingCards.{noted_same, noting_same}
use Rattle.card_by_hand.proofs.card_session.InsertingOpen.{opening_same, reopening_same}
use Rattle.card_by_hand.proofs.card_session.InsertingUse.{use_inside}
use Rattle.card_by_hand.proofs.card_session.Marks.{mark_told}
use Rattle.card_by_hand.proofs.card_session.NewestStays.{next_low}
use Rattle.card_by_hand.proofs.card_session.OnMark.{all_before}
use Rattle.card_by_hand.proofs.card_session.Preparing.{gap_are, used_at}
use Rattle.card_by_hand.proofs.card_session.Renewing.{keep_word}
use Rattle.card_by_hand.proofs.card_session.Repairing.{lacked_many}
use Rattle.card_by_hand.proofs.card_session.Replaying.{with_are, with_before, with_later}
use Rattle.card_by_hand.proofs.card_session.Stopping.{asked_at, before_use, book_days, days_there, ended_same}
use Rattle.card_by_hand.proofs.card_session.Surviving.{newest_gapped}
use Rattle.card_by_hand.specs.First.{IsFirstKeeping, MayTell, AreHandsOf}
use Rattle.card_by_hand.specs.Wider.{with_hands}
use Rattle.card_by_hand.proofs.FirstLaws.{entering_same, past_same, past_follows}
use Rattle.card_by_hand.proofs.Fresh.{alone}
use Rattle.card_by_hand.proofs.Listed.{closing_none}
use Rattle.card_by_hand.proofs.Staying.{late_of}
use Rattle.card_by_hand.proofs.Telling.{first_old, first_new}
use Rattle.card_by_hand.proofs.Told.{word_tells, keep_tells}
use Rattle.card_string.specs.Carried.{IsFresh}
use Rattle.card_string.specs.Inserts.{MayReplay, MayReplayOf}
use Rattle.card_string.specs.Since.{AllOnDays, TellsSince, GoesSince, all_since, counted_since, last_at, last_of, minute_of}
use Rattle.card_string.proofs.Clear.{adds_still, day_before, in_last, newest_is}
use Rattle.card_string.proofs.Deeds.{used_low}
use Rattle.card_string.proofs.Since.{TellsKeep, TellsClose, TellsReplay, may_come, goes_still, marked_still, all_still}
use Rattle.card_string.proofs.Lists.{up_back}
use Rattle.card_string.proofs.SameBook.{same_book}

-- ---- THE DAYS that count go on to

on_append : (ws : List WordDay) (es fs : List Manual) → AllOnDays ws es → AllOnDays ws fs → AllOnDays ws (es ++ fs)
on_append ws [] fs a b = b
on_append ws (e ∷ es) fs a b = (a.0, on_append ws es fs a.1 b)

on_still : (ws vs : List WordDay) → ((k : ℕ) → InDays k ws → InDays k vs) → (es : List Manual) → AllOnDays ws es → AllOnDays vs es
on_still ws vs still [] on = tt
on_still ws vs still (e ∷ es) on = (still (e.minute / 1440) on.0, on_still ws vs still es on.1)

-- of days before one
on_before : (k : ℕ) (ws : List WordDay) (es : List Manual) → AllBefore k ws → AllOnDays ws es → HandsBefore k es
on_before k ws [] b on = tt
on_before k ws (e ∷ es) b on = (day_before k (e.minute / 1440) ws b on.0, on_before k ws es b on.1)

module _ (covered : ℕ) (c : Counted) (minute : ℕ) where
  abbrev closed_so : List WordDay
  closed_so = closes covered c.before minute c.days

  abbrev its_day : WordDay
  its_day = record { day = minute / 1440; words = first_words minute }

  hand_still : (k : ℕ) → InDays k c.days → InDays k (with_by_hand covered c minute).days
  hand_still k i = by (is_newest (minute / 1440) closed_so)
    where
      there : InDays k (closes covered c.before minute c.days)
      there = closes_is (InDays k) covered c.before minute c.days i (in_more k c.days i)

      by : (b : Bool) → InDays k (cond b (more closed_so) (closed_so ++ its_day ∷ []))
      by true = in_more k closed_so there
      by false = in_front k closed_so (its_day ∷ []) there

  hand_in : InDays (minute / 1440) (with_by_hand covered c minute).days
  hand_in = by (is_newest (minute / 1440) closed_so) refl
    where
      by : (b : Bool) → is_newest (minute / 1440) closed_so ≡ b → InDays (minute / 1440) (cond b (more closed_so) (closed_so ++ its_day ∷ []))
      by true is = in_more (minute / 1440) closed_so (newest_is (minute / 1440) closed_so is)
      by false is = in_last (minute / 1440) closed_so its_day refl

pub hands_still : (covered : ℕ) (c : Counted) (hs : List Manual) (k : ℕ) → InDays k c.days → InDays k (with_hands covered c hs).days
hands_still covered c [] k i = i
hands_still covered c (h ∷ hs) k i = hands_still covered (with_by_hand covered c h.minute) hs k (hand_still covered c h.minute k i)

entry_still : (covered : ℕ) (c : Counted) (e : Entry) (k : ℕ) → InDays k c.days → InDays k (counted_with covered c e).days
entry_still covered c e k i = adds_still c.before e (closes covered c.before e.minute c.days) k (closes_is (InDays k) covered c.before e.minute c.days i (in_more k c.days i))

by_still : (covered : ℕ) (c : Counted) (ws : List Written) (k : ℕ) → InDays k c.days → InDays k (counted_by covered c ws).days
unfolding counted_by
by_still covered c [] k i = i
by_still covered c (Minute e ∷ ws) k i = by_still covered (counted_with covered c e) ws k (entry_still covered c e k i)
by_still covered c (ByHand h ∷ ws) k i = by_still covered (with_by_hand covered c h.minute) ws k (hand_still covered c h.minute k i)

by_in : (covered : ℕ) (c : Counted) (ws : List Written) → AllOnDays (counted_by covered c ws).days (hands_of ws)
unfolding counted_by
by_in covered c [] = tt
by_in covered c (Minute e ∷ ws) = by_in covered (counted_with covered c e) ws
by_in covered c (ByHand h ∷ ws) = (by_still covered (with_by_hand covered c h.minute) ws (h.minute / 1440) (hand_in covered c h.minute), by_in covered (with_by_hand covered c h.minute) ws)

module _ (image : List ℕ) (ws vs : List Written) where
  both_is : counted_since image (ws ++ vs) ≡ counted_by (own_covered image) (counted_since image ws) vs
  both_is = counted_append (own_covered image) (counted_view (own_view image)) ws vs

  pub list_is : (first : List Manual) → (first ++ hands_of ws) ++ hands_of vs ≡ first ++ hands_of (ws ++ vs)
  list_is first = append_assoc first (hands_of ws) (hands_of vs) ∙ ap (λ (l : List Manual). first ++ l) (sym (hands_append ws vs))

  pub within_more : (first : List Manual) → AllOnDays (counted_since image ws).days (first ++ hands_of ws) → AllOnDays (counted_since image (ws ++ vs)).days (first ++ hands_of (ws ++ vs))
  within_more first on =
      subst (λ (l : List Manual). AllOnDays (counted_since image (ws ++ vs)).days l) (list_is first)
      (subst (λ (c : Counted). AllOnDays c.days ((first ++ hands_of ws) ++ hands_of vs)) (sym both_is)
      (on_append (counted_by (own_covered image) (counted_since image ws) vs).days (first ++ hands_of ws) (hands_of vs)
      (on_still (counted_since image ws).days (counted_by (own_covered image) (counted_since image ws) vs).days (λ k i. by_still (own_covered image) (counted_since image ws) vs k i) (first ++ hands_of ws) on)
      (by_in (own_covered image) (counted_since image ws) vs)))

-- ---- THE DAY OF A NEXT MINUTE, where it is new

word_day : (k date : ℕ) (ds : List Day) → AreDays date ds → 0 < k → AllBefore k (sizes ds) → newest_word ds / 1440 < k
word_day k date [] are some b = omega (arith, some)
word_day k date (d ∷ []) are some b = let below = words_below d.words are.1.ordered in omega (arith, below, are.1.midnight, b.0)
word_day k date (d ∷ e ∷ ds) are some b = word_day k d.date (e ∷ ds) are.2 some b.1

module _ (s : Session) (image : List ℕ) (ws : List Written) (next : ℕ) (e : Entry) (x : List ℕ) (sizes_are : IsApplication s.application) (knows : IsSession s x) (later : s.minute < e.minute) (g : GoesSince s.application image ws next x) (le : next ≤ e.minute) where
  are_x : AreDays 0 (card_days s.application x)
  are_x = subst (λ (ds : List Day). AreDays 0 ds) (book_days s.application x) (days_there s x knows)

  last_is : s.minute ≡ last_of s.application x
  last_is = knows.minute ∙ ap (λ (m : ℕ). max m (newest_word (book_of s.application x).days)) (sym (mark_told s.application x)) ∙ ap (λ (ds : List Day). max (end_mark s.application x) (newest_word ds)) (book_days s.application x)

  word_low : newest_word (card_days s.application x) ≤ s.minute
  word_low = omega (arith, last_is)

  mark_low : end_mark s.application x ≤ s.minute
  mark_low = omega (arith, last_is)

  -- later than the newest minute's
  less : is_newest (e.minute / 1440) (sizes (card_days s.application x)) ≡ false → end_mark s.application x / 1440 < e.minute / 1440 → s.minute / 1440 < e.minute / 1440
  less other lt =
      let before = all_before (e.minute / 1440) e.minute 0 (card_days s.application x) are_x (omega (arith, word_low, later)) refl other in
      let word = word_day (e.minute / 1440) 0 (card_days s.application x) are_x (omega (arith, lt)) before in
      omega (arith, last_is, lt, word)

  pub may_tell : (all : List Manual) → HandsUpTo s.minute all → AllOnDays (counted_since image ws).days all → MayTell s e.minute all x
  may_tell all up on = record {
    sizes = sizes_are;
    knows = knows;
    later = later;
    clear = λ other. ⊎_elim
        (λ lt. hands_before s.minute (e.minute / 1440) all (less other lt) up)
        (λ ge. on_mark other ge (may_come s.application image ws next x g e le))
        (cases_lt (end_mark s.application x / 1440) (e.minute / 1440));
  }
    where
      on_mark : is_newest (e.minute / 1440) (sizes (card_days s.application x)) ≡ false → e.minute / 1440 ≤ end_mark s.application x / 1440
          → BeginsBehind s.application e x ⊎ IsFresh s.application (counted_since image ws) (all_since image (entries_of ws)) x → HandsBefore (e.minute / 1440) all
      on_mark other ge (inl begins) = absurd (omega (arith, begins other, ge))
      on_mark other ge (inr fresh) =
          let same : end_mark s.application x / 1440 ≡ e.minute / 1440 = omega (arith, ge, mark_low, later) in
          subst (λ (k : ℕ). HandsBefore k all) same (on_before (end_mark s.application x / 1440) (counted_since image ws).days all fresh.0 on)

-- ---- no word is behind the new end mark of a keep

word_is : (a : Application) (z : List ℕ) → (card_view a z).word ≡ newest_word (card_days a z)
unfolding card_view
word_is a z = refl

kept_word : (s : Session) (e : Entry) (odometer : ℕ) (x y : List ℕ) → IsApplication s.application → IsSession s x → s.minute < e.minute → IsCardKeeping s e odometer x y → end_mark s.application y ≡ e.minute → newest_word (card_days s.application y) ≤ e.minute
kept_word s e odometer x y sizes_are knows later keeping at =
    subst (λ (n : ℕ). n ≤ e.minute) (word_is s.application y)
    (keep_word s.application x s.registration odometer (grown s.odometer odometer) e y keeping.card sizes_are (days_there s x knows) (asked_at s x e.minute later knows) at)

first_word : (hs : List Manual) (s : Session) (e : Entry) (odometer : ℕ) (x y : List ℕ) → IsApplication s.application → IsSession s x → s.minute < e.minute → AreHandsOf s e.minute hs → IsFirstKeeping s hs e odometer x y → end_mark s.application y ≡ e.minute
    → newest_word (card_days s.application y) ≤ e.minute
first_word [] s e odometer x y sizes_are knows later hands keeping at = kept_word s e odometer x y sizes_are knows later (alone s e odometer x y keeping) at
first_word (h ∷ hs) s e odometer x y sizes_are knows later hands (inl entering) at =
    absurd (omega (arith, at, (entering_same (h ∷ hs) s x y entering).mark, late_of s x e.minute knows later, mark_told s.application x))
first_word (h ∷ hs) s e odometer x y sizes_are knows later hands (inr behind) at =
    let may = past_follows s h hs e odometer x y sizes_are hands behind in
    let same = (past_same s (h ∷ hs) e odometer x y behind).1 in
    subst (λ (a : Application). newest_word (card_days a y) ≤ e.minute) same
    (kept_word behind.between e odometer behind.card y may.sizes may.knows may.later behind.keeping (subst (λ (a : Application). end_mark a y ≡ e.minute) (sym same) at))

-- ---- A KEEP, the first one with its entries by hand

lie_up : (after before : ℕ) (hs : List Manual) → LieBetween after before hs → HandsUpTo before hs
lie_up after before [] lie = tt
lie_up after before (h ∷ hs) lie = let low : h.minute < before = spans h.minute before hs lie.1 in (omega (arith, low), lie_up h.minute before hs lie.1)

module _ (s : Session) (image : List ℕ) (ws : List Written) (next : ℕ) (hs : List Manual) (e : Entry) (odometer : ℕ) (x y : List ℕ) (sizes_are : IsApplication s.application) (knows : IsSession s x) (later : s.minute < e.minute) (hands : AreHandsOf s e.minute hs)
    (g : GoesSince s.application image ws next x) (le : next ≤ e.minute) (keeping : IsFirstKeeping s hs e odometer x y) where
  old_tells : end_mark s.application y ≡ end_mark s.application x → TellsSince image ws (end_mark s.application y) (card_days s.application y)
  old_tells at = record {
    first = g.marked.first;
    are = g.marked.are;
    told = first_old s hs e odometer x y (g.marked.first ++ hands_of ws)
        (may_tell s image ws next e x sizes_are knows later g le (g.marked.first ++ hands_of ws)
        (up_more (end_mark s.application x) s.minute (g.marked.first ++ hands_of ws) (mark_low s image ws next e x sizes_are knows later g le) g.marked.low) g.marked.within)
        hands g.marked.told keeping at;
    low = subst (λ (m : ℕ). HandsUpTo m (g.marked.first ++ hands_of ws)) (sym at) g.marked.low;
    within = g.marked.within;
  }

  -- its own entries by hand behind those so far
  whole_is : (first : List Manual) → (first ++ hands_of ws) ++ hs ≡ first ++ hands_of (ws ++ written_by hs e)
  whole_is first = append_assoc first (hands_of ws) hs ∙ ap (λ (l : List Manual). first ++ l) (sym (hands_then ws hs e))

  new_tells : end_mark s.application y ≡ e.minute → TellsSince image (ws ++ written_by hs e) e.minute (card_days s.application y)
  new_tells at =
      let all = g.hands.first ++ hands_of ws in
      let low : HandsUpTo s.minute (g.hands.first ++ hands_of ws) = subst (λ (m : ℕ). HandsUpTo m (g.hands.first ++ hands_of ws)) (sym (last_is s image ws next e x sizes_are knows later g le)) g.hands.low in
      let was : TellsHands e.minute (g.hands.first ++ hands_of ws) (card_days s.application x) =
      tells_by (last_of s.application x) e.minute all (card_days s.application x) (are_x s image ws next e x sizes_are knows later g le) (omega arith)
      (omega (arith, word_low s image ws next e x sizes_are knows later g le, later)) g.hands.told in
      record {
        first = g.hands.first;
        are = g.hands.are;
        told = subst (λ (l : List Manual). TellsHands e.minute l (card_days s.application y)) (whole_is g.hands.first)
            (first_new s hs e odometer x y (g.hands.first ++ hands_of ws) e.minute (may_tell s image ws next e x sizes_are knows later g le (g.hands.first ++ hands_of ws) low g.hands.within) hands (omega arith) was keeping at);
        low = subst (λ (l : List Manual). HandsUpTo e.minute l) (whole_is g.hands.first)
            (up_append e.minute (g.hands.first ++ hands_of ws) hs (up_more s.minute e.minute (g.hands.first ++ hands_of ws) (omega (arith, later)) low) (lie_up s.minute e.minute hs hands.lie));
        within = within_more image ws (written_by hs e) g.hands.first g.hands.within;
      }

  word_at : end_mark s.application y ≡ e.minute → newest_word (card_days s.application y) ≤ e.minute
  word_at at = first_word hs s e odometer x y sizes_are knows later hands keeping at

  pub keep_tells_since : TellsKeep s.application image ws hs e x y
  keep_tells_since = record {
    old = old_tells;
    marked = λ at. subst (λ (m : ℕ). TellsSince image (ws ++ written_by hs e) m (card_days s.application y)) (sym at) (new_tells at);
    all = λ at.
        let last : last_of s.application y ≡ e.minute = omega (arith, at, word_at at) in
        subst (λ (m : ℕ). TellsSince image (ws ++ written_by hs e) m (card_days s.application y)) (sym last) (new_tells at);
  }

-- ---- A CLOSING, which writes no entry by hand

module _ (size : ℕ) (m : ℕ) (all : List Manual) (act : Activity) (b : Book) (are : AreDays 0 b.days) (tells : TellsHands m all b.days) where
  closed_day_tells : TellsHands m all (closed_days size (mark_of b) act b.days)
  closed_day_tells = by (is_open (mark_of b) b.days)
    where
      by : (o : Bool) → TellsHands m all (cond o (with_change size (closing_word (suc (mark_of b)) act (latest_of b.days)) b.days) b.days)
      by true =
          word_tells m (closing_word (suc (mark_of b)) act (latest_of b.days)) all (fitting (size - 2) b.days) (closing_none (suc (mark_of b)) act (latest_of b.days))
          (tells_left m (size - 2) 0 all b.days (fitting (size - 2) b.days) are (remain_fitting (size - 2) b.days) tells)
      by false = tells

  closed_tells : TellsHands m all (closed size act b).days
  closed_tells = by (is_open (mark_of b) b.days)
    where
      by : (o : Bool) → TellsHands m all (cond o (let k : Book = record { days = closed_days size (mark_of b) act b.days; vehicles = last_used (60 * suc (mark_of b)) b.vehicles } in k) b).days
      by true = closed_day_tells
      by false = tells

  word_moment : (kept : List Day) → IsClosingWord size act b kept → TellsHands m all kept
  word_moment kept (inl still) = subst (λ (ds : List Day). TellsHands m all ds) (sym still) tells
  word_moment kept (inr rest) = ⊎_elim
      (λ gone. tells_left m (size - 2) 0 all b.days kept are gone tells)
      (λ word. subst (λ (ds : List Day). TellsHands m all ds) (sym word) closed_day_tells) rest.1

  pub close_tells : (ds : List Day) (v : Vehicles) → IsCloseMoment size act b ds v → TellsHands m all ds
  close_tells ds v (inl before) = word_moment ds before.1
  close_tells ds v (inr book) = subst (λ (l : List Day). TellsHands m all l) (sym book.0) closed_tells

-- an entry's word that is the latest is not behind the mark
open_low : (mark date : ℕ) (ds : List Day) → EndsBy mark ds → is_open mark ds ≡ true → newest_word ds ≤ mark
open_low mark date [] ends is = omega arith
open_low mark date (d ∷ []) ends is = ends (present (nat_eq d.date (date_of (suc mark))) (word_absent (last_word d.words)) is)
  where
    present : (a b : Bool) → a && not b ≡ true → b ≡ false
    present true true is = absurd (cc)
    present true false is = refl
    present false b is = absurd (cc)
open_low mark date (d ∷ e ∷ ds) ends is = open_low mark date (e ∷ ds) ends is

-- where the mark is after it: the old one, or the minute behind it where an entry was open
close_mark : (size : ℕ) (act : Activity) (b : Book) (v : Vehicles) (ds : List Day) → IsCloseMoment size act b ds v → (last_use_in v / 60 ≡ mark_of b) ⊎ ((is_open (mark_of b) b.days ≡ true) × (mark_of b ≤ last_use_in v / 60))
close_mark size act b v ds (inl before) = inl (ap (λ (o : Vehicles). last_use_in o / 60) before.0)
close_mark size act b v ds (inr book) = by (is_open (mark_of b) b.days) refl book.1
  where
    by : (o : Bool) → is_open (mark_of b) b.days ≡ o → v ≡ (cond o (let k : Book = record { days = closed_days size (mark_of b) act b.days; vehicles = last_used (60 * suc (mark_of b)) b.vehicles } in k) b).vehicles
        → (last_use_in v / 60 ≡ mark_of b) ⊎ ((is_open (mark_of b) b.days ≡ true) × (mark_of b ≤ last_use_in v / 60))
    by true is same = inr (is, subst (λ (o : Vehicles). mark_of b ≤ last_use_in o / 60) (sym same) (used_low b.vehicles))
    by false is same = inl (ap (λ (o : Vehicles). last_use_in o / 60) same)

-- BY A BOOK at such a moment: what is told by its mark, of what was told by the one before
module _ (size : ℕ) (all : List Manual) (act : Activity) (b : Book) (are : AreDays 0 b.days) (ends : EndsBy (mark_of b) b.days) where
  pub close_told : TellsHands (mark_of b) all b.days → (ds : List Day) (v : Vehicles) → IsCloseMoment size act b ds v → TellsHands (last_use_in v / 60) all ds × (mark_of b ≤ last_use_in v / 60)
  close_told tells ds v moment = ⊎_elim
      (λ same. (subst (λ (n : ℕ). TellsHands n all ds) (sym same) (close_tells size (mark_of b) all act b are tells ds v moment), omega (arith, same)))
      (λ on.
      let low = open_low (mark_of b) 0 b.days ends on.0 in
      (close_tells size (last_use_in v / 60) all act b are (tells_by (mark_of b) (last_use_in v / 60) all b.days are low (omega (arith, low, on.1)) tells) ds v moment, on.1))
      (close_mark size act b v ds moment)

-- ---- OF A CARD

module _ (app : Application) (act : Activity) (image : List ℕ) (ws : List Written) (n : ℕ) (x y : List ℕ) (are : AreDays 0 (book_of app x).days) (ends : EndsBy (mark_of (book_of app x)) (book_of app x).days) (g : GoesSince app image ws n x)
    (moment : IsCloseMoment app.activity act (book_of app x) (book_of app y).days (book_of app y).vehicles) where
  there : (P : List Day → Type 0) → P (card_days app x) → P (book_of app x).days
  there P p = subst P (sym (book_days app x)) p

  y_mark : last_use_in (book_of app y).vehicles / 60 ≡ end_mark app y
  y_mark = sym (mark_told app y)

  mark_up : mark_of (book_of app x) ≤ last_use_in (book_of app y).vehicles / 60
  mark_up = ⊎_elim (λ same. omega (arith, same)) (λ on. on.1) (close_mark app.activity act (book_of app x) (book_of app y).vehicles (book_of app y).days moment)

  -- up to the end mark
  close_marked : TellsSince image ws (end_mark app y) (card_days app y)
  close_marked =
      let was : TellsHands (mark_of (book_of app x)) (g.marked.first ++ hands_of ws) (book_of app x).days =
      there (λ ds. TellsHands (mark_of (book_of app x)) (g.marked.first ++ hands_of ws) ds) (subst (λ (m : ℕ). TellsHands m (g.marked.first ++ hands_of ws) (card_days app x)) (mark_told app x) g.marked.told) in
      let now = close_told app.activity (g.marked.first ++ hands_of ws) act (book_of app x) are ends was (book_of app y).days (book_of app y).vehicles moment in
      record {
        first = g.marked.first;
        are = g.marked.are;
        told = subst (λ (ds : List Day). TellsHands (end_mark app y) (g.marked.first ++ hands_of ws) ds) (book_days app y) (subst (λ (m : ℕ). TellsHands m (g.marked.first ++ hands_of ws) (book_of app y).days) y_mark now.0);
        low = up_more (end_mark app x) (end_mark app y) (g.marked.first ++ hands_of ws) (omega (arith, now.1, y_mark, mark_told app x)) g.marked.low;
        within = g.marked.within;
      }

  -- and in all: where no entry was open nothing has changed
  shut_same : is_open (mark_of (book_of app x)) (book_of app x).days ≡ false → book_of app y ≡ book_of app x
  shut_same shut = by moment
    where
      differ : true ≡ false → ⊥
      differ e = cc

      by : IsCloseMoment app.activity act (book_of app x) (book_of app y).days (book_of app y).vehicles → book_of app y ≡ book_of app x
      by (inl before) = ⊎_elim
          (λ still. book_is (book_of app x) (book_of app y).days (book_of app y).vehicles still before.0)
          (λ rest. absurd (differ (sym rest.0 ∙ shut))) before.1
      by (inr book) =
          let none : closed app.activity act (book_of app x) ≡ book_of app x =
          ap (λ (o : Bool). cond o (let k : Book = record { days = closed_days app.activity (mark_of (book_of app x)) act (book_of app x).days; vehicles = last_used (60 * suc (mark_of (book_of app x))) (book_of app x).vehicles } in k) (book_of app x)) shut in
          book_is (closed app.activity act (book_of app x)) (book_of app y).days (book_of app y).vehicles book.0 book.1 ∙ none

  open_all : is_open (mark_of (book_of app x)) (book_of app x).days ≡ true → TellsSince image ws (last_of app y) (card_days app y)
  open_all on =
      let low : newest_word (book_of app x).days ≤ mark_of (book_of app x) = open_low (mark_of (book_of app x)) 0 (book_of app x).days ends on in
      let up : mark_of (book_of app x) ≤ last_of app y = omega (arith, mark_up, y_mark) in
      let was : TellsHands (mark_of (book_of app x)) (g.marked.first ++ hands_of ws) (book_of app x).days =
      there (λ ds. TellsHands (mark_of (book_of app x)) (g.marked.first ++ hands_of ws) ds) (subst (λ (m : ℕ). TellsHands m (g.marked.first ++ hands_of ws) (card_days app x)) (mark_told app x) g.marked.told) in
      record {
        first = g.marked.first;
        are = g.marked.are;
        told = subst (λ (ds : List Day). TellsHands (last_of app y) (g.marked.first ++ hands_of ws) ds) (book_days app y)
            (close_tells app.activity (last_of app y) (g.marked.first ++ hands_of ws) act (book_of app x) are
            (tells_by (mark_of (book_of app x)) (last_of app y) (g.marked.first ++ hands_of ws) (book_of app x).days are low (omega (arith, low, up)) was) (book_of app y).days (book_of app y).vehicles moment);
        low = up_more (end_mark app x) (last_of app y) (g.marked.first ++ hands_of ws) (omega (arith, up, mark_told app x)) g.marked.low;
        within = g.marked.within;
      }

  pub close_all : TellsClose app image ws y
  close_all = record { marked = close_marked; all = by (is_open (mark_of (book_of app x)) (book_of app x).days) refl }
    where
      by : (o : Bool) → is_open (mark_of (book_of app x)) (book_of app x).days ≡ o → TellsSince image ws (last_of app y) (card_days app y)
      by true on = open_all on
      by false shut = (goes_still app image x y (shut_same shut) ws n g).hands

-- days and vehicle entries stay
close_moved : (app : Application) (image : List ℕ) (ws : List Written) (k y : List ℕ) → book_of app y ≡ book_of app k → TellsClose app image ws k → TellsClose app image ws y
close_moved app image ws k y same t = record { marked = marked_still app image k y same ws t.marked; all = all_still app image k y same ws t.all }

-- A WITHDRAWAL
pub withdrawal_tells : (s : Session) (act : Activity) (image : List ℕ) (ws : List Written) (n : ℕ) (x y : List ℕ) → IsApplication s.application → image_size_of s.application ≤ length x → IsSession s x → GoesSince s.application image ws n x → IsCardClosing s act x y
    → TellsClose s.application image ws y
withdrawal_tells s act image ws n x y sound fits knows g (inl card) = close_all s.application act image ws n x y (days_there s x knows) knows.book.ends g card.told
withdrawal_tells s act image ws n x y sound fits knows g (inr done) =
    let k : List ℕ = done.before in
    let side = ended_same s.application sound k (omega (arith, fits, done.card.outside.same_length)) done.card.points in
    let same : book_of s.application y ≡ book_of s.application k = ap (book_of s.application) done.session ∙ same_book s.application sound k (ended s.application k) done.card.points side.0 side.1 in
    close_moved s.application image ws k y same (close_all s.application act image ws n x k (days_there s x knows) knows.book.ends g (inr done.card.told))

-- AN INSERTION of a card without a session
module _ (app : Application) (sound : IsApplication app) (registration : Registration) (long : length registration.0 ≡ 15) (now : ℕ) (image : List ℕ) (ws : List Written) (n : ℕ) (x : List ℕ) (fits : image_size_of app ≤ length x) (g : GoesSince app image ws n x)
    (ends : EndsBy (mark_of (book_of app x)) (book_of app x).days) where
  module _ (y : List ℕ) (still : IsStill app x y) where
    y_book : book_of app y ≡ book_of app x
    y_book = told_book app (book_of app x) x y still

    y_goes : GoesSince app image ws n y
    y_goes = goes_still app image x y y_book ws n g

    y_are : AreDays 0 (book_of app y).days
    y_are = still.holds.ordered

    y_ends : EndsBy (mark_of (book_of app y)) (book_of app y).days
    y_ends = subst (λ (b : Book). EndsBy (mark_of b) b.days) (sym y_book) ends

    shutting_tells : (z : List ℕ) → IsShutting app y z → TellsClose app image ws z
    shutting_tells z card = close_all app Rest image ws n y z y_are y_ends y_goes card.told

    shut_tells : (z : List ℕ) → IsShut app y z → TellsClose app image ws z
    shut_tells z card = close_all app Rest image ws n y z y_are y_ends y_goes (inr card.told)

    shut_room : (z : List ℕ) → IsShut app y z → place_of app (file 0x0507) + 19 ≤ length z
    shut_room z card = omega (arith, use_inside app, fits, still.outside.same_length, card.outside.same_length)

  pub insertion_tells : (y : List ℕ) → InsertingClosed app registration now x y → TellsClose app image ws y
  insertion_tells y (inl still) = let h = y_goes y still in record { marked = h.marked; all = h.hands }
  insertion_tells y (inr (x1, still, inl shutting)) = shutting_tells x1 still y shutting
  insertion_tells y (inr (x1, still, inr (x2, shut, opening))) =
      let side = opening_same app registration now long x2 y (shut_room x1 still x2 shut) opening in
      close_moved app image ws x2 y (same_book app sound x2 y shut.points side.0 side.1) (shut_tells x1 still x2 shut)

-- ---- A REPAIR: what a book tells, no word of which is behind its mark

record TellsBook (all : List Manual) (b : Book) : Type 0 where
  pub are : AreDays 0 b.days
  pub told : TellsHands (mark_of b) all b.days
  pub low : newest_word b.days ≤ mark_of b
  pub up : HandsUpTo (mark_of b) all

-- the first of some entries, where its day is new, comes behind all entries by hand
abbrev pub BeginsClear : (all : List Manual) → List Entry → List Day → Type 0
BeginsClear all [] days = Unit {0}
BeginsClear all (e ∷ es) days = is_newest (e.minute / 1440) (sizes days) ≡ false → HandsBefore (e.minute / 1440) all

module _ (size : ℕ) (long : 5544 ≤ size) (registration : Registration) (odometer : ℕ) (all : List Manual) where
  -- with an entry
  module _ (b : Book) (t : TellsBook all b) (e : Entry) (gap : IsBeforeGapOf e.minute b) (some : 1440 ≤ e.minute) (clear : is_newest (e.minute / 1440) (sizes b.days) ≡ false → HandsBefore (e.minute / 1440) all) where
    gapped_are : AreDays 0 (gap_closed size (mark_of b) e.minute b.days)
    gapped_are = gap_are size long b t.are e.minute gap

    clear_there : is_newest (e.minute / 1440) (sizes (gap_closed size (mark_of b) e.minute b.days)) ≡ false → HandsBefore (e.minute / 1440) all
    clear_there other = clear (sym (newest_gapped size long b t.are e.minute (e.minute / 1440)) ∙ other)

    at_one : mark_of (with_entry size registration odometer 0 b e) ≡ e.minute
    at_one = used_at registration odometer e.minute b.vehicles

    one_stop : (kept : List Day) → IsBeforeMark size b (with_entry size registration odometer 0 b e) e kept → TellsHands (mark_of b) all kept
    one_stop kept moment = keep_tells size (mark_of b) b e t.are gapped_are all clear_there t.told registration odometer 0 kept b.vehicles (inl (refl, moment))

    one_told : TellsHands e.minute all (with_entry size registration odometer 0 b e).days
    one_told =
        keep_tells size e.minute b e t.are gapped_are all clear_there (tells_by (mark_of b) e.minute all b.days t.are t.low (omega (arith, t.low, gap.1)) t.told)
        registration odometer 0 (with_entry size registration odometer 0 b e).days (with_entry size registration odometer 0 b e).vehicles (inr (refl, inr refl))

    one_book : TellsBook all (with_entry size registration odometer 0 b e)
    one_book = record {
      are = with_are size long registration odometer 0 b t.are e gap some;
      told = subst (λ (m : ℕ). TellsHands m all (with_entry size registration odometer 0 b e).days) (sym at_one) one_told;
      low = omega (arith, next_low size long b t.are registration odometer 0 e gap, at_one);
      up = up_more (mark_of b) (mark_of (with_entry size registration odometer 0 b e)) all (omega (arith, gap.1, at_one)) t.up;
    }

    one_moment : (ds : List Day) (v : Vehicles) → IsKeepMoment size registration odometer 0 e b ds v → TellsHands (last_use_in v / 60) all ds × (mark_of b ≤ last_use_in v / 60)
    one_moment ds v (inl old) =
        let at : last_use_in v / 60 ≡ mark_of b = ap (λ (o : Vehicles). last_use_in o / 60) old.0 in
        (subst (λ (m : ℕ). TellsHands m all ds) (sym at) (one_stop ds old.1), omega (arith, at))
    one_moment ds v (inr new) = ⊎_elim
        (λ unused.
        let at : last_use_in v / 60 ≡ mark_of b = before_use registration odometer e.minute b.vehicles v unused in
        (subst (λ (m : ℕ). TellsHands m all ds) (sym at) (one_stop ds (inr (inr (inr new.0)))), omega (arith, at)))
        (λ used.
        let at : last_use_in v / 60 ≡ e.minute = ap (λ (o : Vehicles). last_use_in o / 60) used ∙ at_one in
        (subst (λ (m : ℕ). TellsHands m all ds) (sym at) (subst (λ (l : List Day). TellsHands e.minute all l) (sym new.0) one_told), omega (arith, at, gap.1)))
        new.1

    -- those behind it
    one_clear : (es : List Entry) → Follow e.minute es → BeginsClear all es (with_entry size registration odometer 0 b e).days
    one_clear [] follow = tt
    one_clear (f ∷ es) follow = λ other.
        hands_before (mark_of (with_entry size registration odometer 0 b e)) (f.minute / 1440) all (with_later size long registration odometer 0 b t.are e gap some (f ∷ es) follow other) one_book.up

  books_tell : (es : List Entry) (b : Book) → TellsBook all b → IsBeforeAll es b → AllByRecursion (λ e. 1440 ≤ e.minute) es → BeginsClear all es b.days
      → TellsBook all (with_owed size registration odometer es b) × (mark_of b ≤ mark_of (with_owed size registration odometer es b))
  books_tell [] b t before many clear = (t, omega arith)
  books_tell (e ∷ es) b t before many clear =
      let gap : IsBeforeGapOf e.minute b = (before.0, before.1.0) in
      let rest =
      books_tell es (with_entry size registration odometer 0 b e) (one_book b t e gap many.0 clear) (with_before size long registration odometer 0 b t.are e gap many.0 es before.1.1) many.1 (one_clear b t e gap many.0 clear es before.1.1) in
      (rest.0, omega (arith, rest.1, at_one b t e gap many.0 clear, gap.1))

  books_moment : (es : List Entry) (b : Book) → TellsBook all b → IsBeforeAll es b → AllByRecursion (λ e. 1440 ≤ e.minute) es → BeginsClear all es b.days → (ds : List Day) (v : Vehicles) → IsReplaying size registration odometer es b ds v
      → TellsHands (last_use_in v / 60) all ds × (mark_of b ≤ last_use_in v / 60)
  books_moment [] b t before many clear ds v is =
      let at : last_use_in v / 60 ≡ mark_of b = ap (λ (o : Vehicles). last_use_in o / 60) is.1 in
      (subst (λ (m : ℕ). TellsHands m all ds) (sym at) (subst (λ (l : List Day). TellsHands (mark_of b) all l) (sym is.0) t.told), omega (arith, at))
  books_moment (e ∷ es) b t before many clear ds v (inl moment) = one_moment b t e (before.0, before.1.0) many.0 clear ds v moment
  books_moment (e ∷ es) b t before many clear ds v (inr later) =
      let gap : IsBeforeGapOf e.minute b = (before.0, before.1.0) in
      let rest =
      books_moment es (with_entry size registration odometer 0 b e) (one_book b t e gap many.0 clear) (with_before size long registration odometer 0 b t.are e gap many.0 es before.1.1) many.1 (one_clear b t e gap many.0 clear es before.1.1) ds v later in
      (rest.0, omega (arith, rest.1, at_one b t e gap many.0 clear, gap.1))

-- and of the book that is repaired
module _ (size : ℕ) (long : 5544 ≤ size) (registration : Registration) (odometer : ℕ) (all : List Manual) (b : Book) (are : AreDays 0 b.days) (strict : EndsCut b) (owed : List Entry) (ordered : Follow 1439 owed)
    (told : TellsHands (mark_of b) all b.days) (up : HandsUpTo (mark_of b) all) (clear : BeginsClear all (lacked (mark_of b) owed) (trimmed (mark_of b) b.days)) where
  cut_tells : TellsBook all (with_cut (mark_of b) b)
  cut_tells = record {
    are = are_trimmed (mark_of b) 0 b.days are;
    told = tells_trimmed (mark_of b) all b.days are up told;
    low = trimmed_low (mark_of b) b.days are;
    up = up;
  }

  cut_before : IsBeforeAll (lacked (mark_of b) owed) (with_cut (mark_of b) b)
  cut_before = cut_ready 1439 (mark_of b) owed b are refl strict ordered

  lacked_late : AllByRecursion (λ e. 1440 ≤ e.minute) (lacked (mark_of b) owed)
  lacked_late = lacked_many (mark_of b) owed ordered

  whole_tells : TellsBook all (repaired size registration odometer owed b) × (mark_of b ≤ mark_of (repaired size registration odometer owed b))
  whole_tells = books_tell size long registration odometer all (lacked (mark_of b) owed) (with_cut (mark_of b) b) cut_tells cut_before lacked_late clear

  -- days that a cut to the mark leaves the same of
  same_cut : (ds : List Day) → AreDays 0 ds → trimmed (mark_of b) ds ≡ trimmed (mark_of b) b.days → TellsHands (mark_of b) all ds
  same_cut ds whole same =
      sym (told_trimmed (mark_of b) 0 ds whole) ∙ ap (by_hand_up_to (mark_of b)) same ∙ tells_trimmed (mark_of b) all b.days are up told
      ∙ ap (λ (l : List Day). hands_in (sizes l) all) (sym same) ∙ hands_trimmed (mark_of b) ds whole all up

  repair_told : (ds : List Day) (v : Vehicles) → AreDays 0 ds → IsRepairMoment size registration odometer owed b ds v → TellsHands (last_use_in v / 60) all ds × (mark_of b ≤ last_use_in v / 60)
  repair_told ds v whole (inl cutting) =
      let at : last_use_in v / 60 ≡ mark_of b = ap (λ (o : Vehicles). last_use_in o / 60) cutting.1 in (
        subst (λ (m : ℕ). TellsHands m all ds) (sym at)
            (same_cut ds whole (⊎_elim (λ shorter. trim_from_moment (mark_of b) b.days ds shorter) (λ done. ap (trimmed (mark_of b)) done ∙ trimmed_twice (mark_of b) b.days) cutting.0)),
        omega (arith, at),
      )
  repair_told ds v whole (inr replaying) = books_moment size long registration odometer all (lacked (mark_of b) owed) (with_cut (mark_of b) b) cut_tells cut_before lacked_late clear ds v replaying

-- ---- AN INSERTION of a card whose session was left open

ends_low : (mark : ℕ) (ds : List Day) → newest_word ds ≤ mark → EndsBy mark ds
ends_low mark [] low = tt
ends_low mark (d ∷ []) low = λ present. low
ends_low mark (d ∷ e ∷ ds) low = ends_low mark (e ∷ ds) low

module _ (app : Application) (sound : IsApplication app) (registration : Registration) (long : length registration.0 ≡ 15) (odometer now : ℕ) (x : List ℕ) (fits : image_size_of app ≤ length x) (all : List Manual) (owed : List Entry) (ordered : Follow 1439 owed)
    (strict : EndsCut (book_of app x)) (told : TellsHands (mark_of (book_of app x)) all (book_of app x).days) (up : HandsUpTo (mark_of (book_of app x)) all)
    (clear : BeginsClear all (lacked (mark_of (book_of app x)) owed) (trimmed (mark_of (book_of app x)) (book_of app x).days)) where
  abbrev Told_at : List ℕ → Type 0
  Told_at y = TellsHands (mark_of (book_of app y)) all (book_of app y).days × (mark_of (book_of app x) ≤ mark_of (book_of app y))

  -- and no word is behind the end mark
  abbrev Tells_at : List ℕ → Type 0
  Tells_at y = TellsBook all (book_of app y) × (mark_of (book_of app x) ≤ mark_of (book_of app y))

  beside : (y z : List ℕ) → PointsInside (vehicle_ring app) y → HaveSameDays app y z → HaveSameVehicles app y z → book_of app z ≡ book_of app y
  beside y z points days vehicles = same_book app sound y z points days vehicles

  module _ (y : List ℕ) (still : IsStill app x y) where
    still_is : book_of app y ≡ book_of app x
    still_is = told_book app (book_of app x) x y still

    are : AreDays 0 (book_of app x).days
    are = subst (λ (b : Book). AreDays 0 b.days) still_is still.holds.ordered

    still_told : Told_at y
    still_told = subst (λ (b : Book). TellsHands (mark_of b) all b.days × (mark_of (book_of app x) ≤ mark_of b)) (sym still_is) (told, omega arith)

    repairing_told : (z : List ℕ) → IsRepairing app registration odometer owed y z → Told_at z
    repairing_told z card =
        repair_told app.activity sound.string_least registration odometer all (book_of app x) are strict owed ordered told up clear (book_of app z).days (book_of app z).vehicles card.holds.ordered
        (subst (λ (k : Book). IsRepairMoment app.activity registration odometer owed k (book_of app z).days (book_of app z).vehicles) still_is card.told)

    module _ (z : List ℕ) (card : IsRepaired app registration odometer owed y z) where
      z_tells : Tells_at z
      z_tells =
          subst (λ (b : Book). TellsBook all b × (mark_of (book_of app x) ≤ mark_of b))
          (sym (told_book app (repaired app.activity registration odometer owed (book_of app y)) y z card ∙ ap (repaired app.activity registration odometer owed) still_is))
          (whole_tells app.activity sound.string_least registration odometer all (book_of app x) are strict owed ordered told up clear)

      beside_tells : (w : List ℕ) → book_of app w ≡ book_of app z → Tells_at w
      beside_tells w same = subst (λ (b : Book). TellsBook all b × (mark_of (book_of app x) ≤ mark_of b)) (sym same) z_tells

      told_of : (w : List ℕ) → Tells_at w → Told_at w
      told_of w t = (t.0.told, t.1)

      noting_told : (w : List ℕ) → IsNoting app now z w → Told_at w
      noting_told w noting = let side = noting_same app now z w noting in told_of w (beside_tells w (beside z w card.points side.0 side.1))

      module _ (w : List ℕ) (noted : IsNoted app now z w) where
        noted_tells : Tells_at w
        noted_tells = let side = noted_same app now z w noted in beside_tells w (beside z w card.points side.0 side.1)

        closing_told : (v : List ℕ) → IsCloseMoment app.activity Rest (book_of app w) (book_of app v).days (book_of app v).vehicles → Told_at v
        closing_told v moment =
            let t = noted_tells in
            let closed_so = close_told app.activity all Rest (book_of app w) t.0.are (ends_low (mark_of (book_of app w)) (book_of app w).days t.0.low) t.0.told (book_of app v).days (book_of app v).vehicles moment in
            (closed_so.0, omega (arith, closed_so.1, t.1))

        room : (v : List ℕ) → IsShut app w v → place_of app (file 0x0507) + 19 ≤ length v
        room v shut =
            let whole : image_size_of app ≤ length z = omega (arith, fits, still.outside.same_length, card.outside.same_length) in
            omega (arith, use_inside app, whole, (noted_keeps app now z w (omega (arith, use_inside app, whole)) noted).1, shut.outside.same_length)

  book_moment : (y : List ℕ) → InsertingOpen app registration odometer owed now x y → Told_at y
  book_moment y (inl still) = still_told y still
  book_moment y (inr (x1, still, inl repairing)) = repairing_told x1 still y repairing
  book_moment y (inr (x1, still, inr (x2, mended, inl noting))) = noting_told x1 still x2 mended y noting
  book_moment y (inr (x1, still, inr (x2, mended, inr (x3, noted, inl shutting)))) = closing_told x1 still x2 mended x3 noted y shutting.told
  book_moment y (inr (x1, still, inr (x2, mended, inr (x3, noted, inr (x4, shut, reopening))))) =
      let side = reopening_same app registration now long x4 y (room x1 still x2 mended x3 noted x4 shut) reopening in
      subst (λ (b : Book). TellsHands (mark_of b) all b.days × (mark_of (book_of app x) ≤ mark_of b)) (sym (beside x4 y shut.points side.0 side.1)) (closing_told x1 still x2 mended x3 noted x4 (inr shut.told))

-- ---- as what was written tells it

last_up : (m : ℕ) (es : List Entry) → AllUpTo m es → minute_of (last_entry es) ≤ m
last_up m [] up = omega arith
last_up m (e ∷ []) up = up.0
last_up m (e ∷ f ∷ es) up = last_up m (f ∷ es) up.1

up_front : (m : ℕ) (es fs : List Entry) → AllUpTo m (es ++ fs) → AllUpTo m es
up_front m [] fs up = tt
up_front m (e ∷ es) fs up = (up.0, up_front m es fs up.1)

-- an entry by hand comes before a minute, so none is later than the entries of minutes
pub up_of : (m after : ℕ) (ws : List Written) → AllUpTo m (entries_of ws) → Rises after ws → IsUpTo m ws
up_of m after [] up rises = tt
up_of m after (Minute e ∷ ws) up rises = (up.0, up_of m e.minute ws up.1 rises.1)
up_of m after (ByHand h ∷ ws) up rises = (behind ws rises.1 rises.2 (up_of m h.minute ws up rises.2), up_of m h.minute ws up rises.2)
  where
    behind : (vs : List Written) → GoesOnIn (h.minute / 1440) vs → Rises h.minute vs → IsUpTo m vs → h.minute ≤ m
    behind [] on rises up = absurd on
    behind (Minute e ∷ vs) on rises up = omega (arith, rises.0, up.0)
    behind (ByHand g ∷ vs) on rises up = omega (arith, rises.0, up.0)

follow_rises : (m : ℕ) (es : List Entry) → Follow m es → Rises m (minutes_alone es)
follow_rises m [] follow = tt
follow_rises m (e ∷ es) follow = (follow.0, follow_rises e.minute es follow.1)

follow_front : (m : ℕ) (es fs : List Entry) → Follow m (es ++ fs) → Follow m es
follow_front m [] fs follow = tt
follow_front m (e ∷ es) fs follow = (follow.0, follow_front e.minute es fs follow.1)

-- entries behind all that was written rise with it
pub rises_behind : (image : List ℕ) (m : ℕ) (ws vs : List Written) → AllUpTo m (all_since image (entries_of ws)) → Rises (last_at image) ws → Rises m vs → Rises (last_at image) (ws ++ vs)
rises_behind image m ws vs up order behind =
    rises_then (last_at image) m ws vs (last_up m (own_view image).held.entries (up_front m (own_view image).held.entries (entries_of ws) up)) (up_of m (last_at image) ws (up_back m (own_view image).held.entries (entries_of ws) up) order) order behind

-- the first of the entries that a card lacks, where its day is new
replay_clear : (size : ℕ) (slack : Bound) (covered from mark : ℕ) (c : Counted) (entries es : List Entry) (days : List Day) (all : List Manual) → MayReplayOf size slack covered from mark c entries es days → Follow mark es → HandsUpTo mark all → AllOnDays c.days all → BeginsClear all es (trimmed mark days)
replay_clear size slack covered from mark c entries [] days all may follow up on = tt
replay_clear size slack covered from mark c entries (e ∷ es) days all may follow up on = λ other. by other may
  where
    on_mark : mark / 1440 ≡ e.minute / 1440 → AllBefore (mark / 1440) c.days → HandsBefore (e.minute / 1440) all
    on_mark same fresh = subst (λ (k : ℕ). HandsBefore k all) same (on_before (mark / 1440) c.days all fresh on)

    by : is_newest (e.minute / 1440) (sizes (trimmed mark days)) ≡ false → MayReplayOf size slack covered from mark c entries (e ∷ es) days → HandsBefore (e.minute / 1440) all
    by other (inl (broke, inl begins)) = hands_before mark (e.minute / 1440) all (begins other) up
    by other (inl (broke, inr fresh)) = ⊎_elim
        (λ lt. hands_before mark (e.minute / 1440) all lt up)
        (λ ge. on_mark (omega (arith, ge, follow.0)) fresh.0) (cases_lt (mark / 1440) (e.minute / 1440))
    by other (inr (begun, here)) = on_mark (sym here) begun.fresh

module _ (app : Application) (sound : IsApplication app) (registration : Registration) (long : length registration.0 ≡ 15) (odometer now : ℕ) (image : List ℕ) (ws : List Written) (x : List ℕ) (fits : image_size_of app ≤ length x) (t : TellsSince image ws (end_mark app x) (card_days app x))
    (owed : List Entry) (ordered : Follow 1439 owed) (follow : Follow (end_mark app x) (lacked (end_mark app x) owed)) (strict : EndsStrictly (trimmed (end_mark app x) (card_days app x))) (until : AllUpTo (end_mark app x) (all_since image (entries_of ws))) (order : Rises (last_at image) ws)
    (slack : Bound) (covered from : ℕ) (entries : List Entry) (may : MayReplay app slack covered from (counted_since image ws) entries (lacked (end_mark app x) owed) x) where
  -- as its book tells it
  told_there : (y : List ℕ) → InsertingOpen app registration odometer owed now x y → TellsHands (end_mark app y) (t.first ++ hands_of ws) (card_days app y) × (end_mark app x ≤ end_mark app y)
  told_there y inserting =
      let now_told =
      book_moment app sound registration long odometer now x fits (t.first ++ hands_of ws) owed ordered
      (in_book (λ m ds. EndsStrictly (trimmed m ds)) strict)
      (in_book (λ m ds. TellsHands m (t.first ++ hands_of ws) ds) t.told)
      (in_book (λ m ds. HandsUpTo m (t.first ++ hands_of ws)) t.low)
      (in_book (λ m ds. BeginsClear (t.first ++ hands_of ws) (lacked m owed) (trimmed m ds))
      (replay_clear app.activity slack covered from (end_mark app x) (counted_since image ws) entries (lacked (end_mark app x) owed) (card_days app x) (t.first ++ hands_of ws) may follow t.low t.within)) y inserting in
      (out_book (λ m ds. TellsHands m (t.first ++ hands_of ws) ds) y now_told.0, omega (arith, now_told.1, mark_told app x, mark_told app y))
    where
      in_book : (P : ℕ → List Day → Type 0) → P (end_mark app x) (card_days app x) → P (mark_of (book_of app x)) (book_of app x).days
      in_book P p = subst (λ (ds : List Day). P (mark_of (book_of app x)) ds) (sym (book_days app x)) (subst (λ (m : ℕ). P m (card_days app x)) (mark_told app x) p)

      out_book : (P : ℕ → List Day → Type 0) (y : List ℕ) → P (mark_of (book_of app y)) (book_of app y).days → P (end_mark app y) (card_days app y)
      out_book P y p = subst (λ (m : ℕ). P m (card_days app y)) (sym (mark_told app y)) (subst (λ (ds : List Day). P (mark_of (book_of app y)) ds) (book_days app y) p)

  alone_all : (done : List Entry) → t.first ++ hands_of ws ≡ t.first ++ hands_of (ws ++ minutes_alone done)
  alone_all done = ap (λ (l : List Manual). t.first ++ l) (alone_hands ws done)

  replayed : (y : List ℕ) (done : List Entry) (m : ℕ) → end_mark app x ≤ m → TellsHands m (t.first ++ hands_of ws) (card_days app y) → TellsSince image (ws ++ minutes_alone done) m (card_days app y)
  replayed y done m le told = record {
    first = t.first;
    are = t.are;
    told = subst (λ (l : List Manual). TellsHands m l (card_days app y)) (alone_all done) told;
    low = subst (λ (l : List Manual). HandsUpTo m l) (alone_all done) (up_more (end_mark app x) m (t.first ++ hands_of ws) le t.low);
    within = within_more image ws (minutes_alone done) t.first t.within;
  }

  pub replay_tells : (y : List ℕ) → InsertingOpen app registration odometer owed now x y → TellsReplay app image ws (lacked (end_mark app x) owed) y
  replay_tells y inserting =
      let told = told_there y inserting in
      record {
        marked = λ done es split. replayed y done (end_mark app y) told.1 told.0;
        all = λ low.
            let last : last_of app y ≡ end_mark app y = omega (arith, low) in
            subst (λ (m : ℕ). TellsSince image (ws ++ minutes_alone (lacked (end_mark app x) owed)) m (card_days app y)) (sym last) (replayed y (lacked (end_mark app x) owed) (end_mark app y) told.1 told.0);
        order = λ done es split. rises_behind image (end_mark app x) ws (minutes_alone done) until order (follow_rises (end_mark app x) done (follow_front (end_mark app x) done es (subst (Follow (end_mark app x)) split follow)));
      }
