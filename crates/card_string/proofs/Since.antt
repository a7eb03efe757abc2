-- A card's string since the start, at each moment of the calls on it.
use Rattle.std.proofs.Common.{◌≡◌, ◌⊎◌, inl, inr, ⊎_elim, ℕ, suc, ◌/◌, ◌%◌, ◌<◌, ◌≤◌, max, Bool, true, false, cond, Some, List, [], ◌∷◌, ◌++◌, refl, sym, ◌∙◌, ap, subst, arith}
use Rattle.std.specs.Prelude.{nat_eq}
use Rattle.std.proofs.lemmas.Bool.Decides.{nat_tests}
use Rattle.std.proofs.lemmas.List.{append-nil}
use Rattle.card_by_hand.specs.activity_codec.declared.entries.Entry.{Entry}
use Rattle.card_by_hand.specs.activity_codec.declared.entries.Manual.{Manual}
use Rattle.tach_media.specs.card_layout.declared.files.Application.{Application}
use Rattle.tach_media.specs.card_layout.Application.{IsApplication}
use Rattle.card_by_hand.specs.card_model.Days.{Day}
use Rattle.card_by_hand.specs.card_model.Changes.{trimmed}
use Rattle.card_by_hand.specs.card_retention.Expected.{Counted, with_entry}
use Rattle.card_by_hand.specs.card_retention.Entries.{closed_at, newest_word}
use Rattle.card_by_hand.specs.card_retention.Shown.{Bound, InDays, AllUpTo}
use Rattle.card_by_hand.specs.card_image.Fields.{card_days, end_mark, session_time}
use Rattle.card_by_hand.specs.card_image.Own.{own_view, own_covered}
use Rattle.card_by_hand.specs.hand_model.Written.{Written, Hands, Lie, Rises, entries_of, hands_of, written_by, minutes_alone, and_given}
use Rattle.card_by_hand.proofs.hand_model.Written.{entries_then, hands_append, hands_alone, hands_then, lie_sure, lie_given, lie_less}
use Rattle.card_by_hand.specs.Wider.{with_hands}
use Rattle.card_by_hand.specs.card_session.Books.{Book, mark_of}
use Rattle.card_by_hand.specs.card_session.Sessions.{book_of}
use Rattle.card_by_hand.specs.card_session.Inserting.{Follow}
use Rattle.card_by_hand.specs.card_session.Overwriting.{BeginsBehind, and_entry}
use Rattle.card_by_hand.specs.card_session.Repairs.{first_minute, mark_behind, and_entries, with_entries, newest_behind, BeginsLater}
use Rattle.card_by_hand.proofs.card_session.Marks.{mark_told}
use Rattle.card_by_hand.proofs.card_session.Stopping.{book_days}
use Rattle.card_string.specs.Carried.{StringFollowsEntries, Broke, BrokeOf, Begun, BegunOf, IsFresh}
use Rattle.card_string.specs.Shows.{IsStopped, IsDone, IsFirstShown}
use Rattle.card_string.specs.Closes.{IsClosedShown, IsCloseShown}
use Rattle.card_string.specs.Inserts.{IsOnDay, MayReplay, IsReplayShown}
use Rattle.card_string.specs.Deeds.{IsMade}
use Rattle.card_string.specs.Since.{last_at, last_of, IsByEntries, all_since, bound_since, counted_since, IsTied, TellsSince, GoesSince, BrokeSince, HoldsSince}
use Rattle.card_string.proofs.Moved.{goes_moved, goes_broke}
use Rattle.card_string.proofs.Replayed.{broke_later, begun_later, follow_first}
use Rattle.card_string.proofs.Clear.{clear_of, told_more, told_still, last_in}
use Rattle.card_string.proofs.Deeds.{made_same, made_more, PartedAt, parted_made}
use Rattle.card_string.proofs.Lists.{all_alone, bound_alone, counted_alone, alone_is, all_by, bound_by, counted_then_keep, up_back, follow_behind, follow_tail, follow_on}

-- ---- with some entries more

module _ (app : Application) (image : List ℕ) (more : List Written) (es : List Entry) (from : ℕ) (y : List ℕ) where
  pub goes_more : StringFollowsEntries app (and_entries (bound_since image (entries_of more)) es) (own_covered image) from (with_entries (own_covered image) (counted_since image more) es) (all_since image (entries_of more) ++ es) y
      → StringFollowsEntries app (bound_since image (entries_of (more ++ minutes_alone es))) (own_covered image) from (counted_since image (more ++ minutes_alone es)) (all_since image (entries_of (more ++ minutes_alone es))) y
  goes_more g =
      subst (λ (b : Bound). StringFollowsEntries app b (own_covered image) from (counted_since image (more ++ minutes_alone es)) (all_since image (entries_of (more ++ minutes_alone es))) y) (bound_alone image more es)
      (subst (λ (c : Counted). StringFollowsEntries app (and_entries (bound_since image (entries_of more)) es) (own_covered image) from c (all_since image (entries_of (more ++ minutes_alone es))) y) (counted_alone image more es)
      (subst (λ (l : List Entry). StringFollowsEntries app (and_entries (bound_since image (entries_of more)) es) (own_covered image) from (with_entries (own_covered image) (counted_since image more) es) l y) (all_alone image more es) g))

  pub broke_more : Broke app (and_entries (bound_since image (entries_of more)) es) (own_covered image) from (with_entries (own_covered image) (counted_since image more) es) (all_since image (entries_of more) ++ es) y
      → Broke app (bound_since image (entries_of (more ++ minutes_alone es))) (own_covered image) from (counted_since image (more ++ minutes_alone es)) (all_since image (entries_of (more ++ minutes_alone es))) y
  broke_more g =
      subst (λ (b : Bound). Broke app b (own_covered image) from (counted_since image (more ++ minutes_alone es)) (all_since image (entries_of (more ++ minutes_alone es))) y) (bound_alone image more es)
      (subst (λ (c : Counted). Broke app (and_entries (bound_since image (entries_of more)) es) (own_covered image) from c (all_since image (entries_of (more ++ minutes_alone es))) y) (counted_alone image more es)
      (subst (λ (l : List Entry). Broke app (and_entries (bound_since image (entries_of more)) es) (own_covered image) from (with_entries (own_covered image) (counted_since image more) es) l y) (all_alone image more es) g))

  pub begun_more : Begun app (and_entries (bound_since image (entries_of more)) es) (own_covered image) from (with_entries (own_covered image) (counted_since image more) es) (all_since image (entries_of more) ++ es) y
      → Begun app (bound_since image (entries_of (more ++ minutes_alone es))) (own_covered image) from (counted_since image (more ++ minutes_alone es)) (all_since image (entries_of (more ++ minutes_alone es))) y
  begun_more g =
      subst (λ (b : Bound). Begun app b (own_covered image) from (counted_since image (more ++ minutes_alone es)) (all_since image (entries_of (more ++ minutes_alone es))) y) (bound_alone image more es)
      (subst (λ (c : Counted). Begun app (and_entries (bound_since image (entries_of more)) es) (own_covered image) from c (all_since image (entries_of (more ++ minutes_alone es))) y) (counted_alone image more es)
      (subst (λ (l : List Entry). Begun app (and_entries (bound_since image (entries_of more)) es) (own_covered image) from (with_entries (own_covered image) (counted_since image more) es) l y) (all_alone image more es) g))

-- ---- what ties them to the end mark

-- the mark of another image, on the same day
pub tied_still : (app : Application) (image : List ℕ) (more : List Written) (was all : List Entry) (x y : List ℕ) → end_mark app y / 1440 ≡ end_mark app x / 1440 → IsMade app image (entries_of more) all y → IsTied app image more was x → IsTied app image more all y
tied_still app image more was all x y same made t = record {
  told = told_still (bound_since image (entries_of more)) (end_mark app x) (end_mark app y) (counted_since image more) (all_since image (entries_of more)) same t.told;
  day = ⊎_elim (λ first. inl (same ∙ first)) (λ in_. inr (subst (λ (k : ℕ). InDays k (counted_since image more).days) (sym same) in_)) t.day;
  made = made;
  order = t.order;
}

-- entries more that the card is to have
pub tied_wider : (app : Application) (image : List ℕ) (more : List Written) (all others : List Entry) (x : List ℕ) → IsTied app image more all x → IsTied app image more (all ++ others) x
tied_wider app image more all others x t = record { told = t.told; day = t.day; made = made_more app image (entries_of more) all others x t.made; order = t.order }

told_list : (slack : Bound) (mark now covered : ℕ) (c : Counted) (all es : List Entry) → now / 1440 ≡ mark_behind mark es / 1440 → IsByEntries slack mark c all → IsByEntries (and_entries slack es) now (with_entries covered c es) (all ++ es)
told_list slack mark now covered c all [] same t = subst (λ (l : List Entry). IsByEntries slack now c l) (sym (append-nil all)) (told_still slack mark now c all same t)
told_list slack mark now covered c all (e ∷ es) same t =
    subst (λ (l : List Entry). IsByEntries (and_entries (and_entry slack e) es) now (with_entries covered (with_entry covered c e) es) l) (append_one all e es)
    (told_list (and_entry slack e) e.minute now covered (with_entry covered c e) (all ++ e ∷ []) es same (told_more slack (and_entry slack e) mark e.minute covered c all e refl t))
  where
    append_one : (all : List Entry) (e : Entry) (es : List Entry) → (all ++ e ∷ []) ++ es ≡ all ++ e ∷ es
    append_one [] e es = refl
    append_one (f ∷ all) e es = ap (λ (l : List Entry). f ∷ l) (append_one all e es)

-- the day of the last of them counts
day_list : (mark covered : ℕ) (c : Counted) (e : Entry) (es : List Entry) → InDays (mark_behind mark (e ∷ es) / 1440) (with_entries covered c (e ∷ es)).days
day_list mark covered c e [] = last_in covered c e
day_list mark covered c e (f ∷ es) = day_list e.minute covered (with_entry covered c e) f es

pub tied_more : (app : Application) (image : List ℕ) (more : List Written) (es was all : List Entry) (x y : List ℕ) → end_mark app y / 1440 ≡ mark_behind (end_mark app x) es / 1440 → Rises (last_at image) (more ++ minutes_alone es) → IsMade app image (entries_of (more ++ minutes_alone es)) all y → IsTied app image more was x
    → IsTied app image (more ++ minutes_alone es) all y
tied_more app image more es was all x y same order made t = record {
  told =
      subst (λ (b : Bound). IsByEntries b (end_mark app y) (counted_since image (more ++ minutes_alone es)) (all_since image (entries_of (more ++ minutes_alone es)))) (bound_alone image more es)
      (subst (λ (c : Counted). IsByEntries (and_entries (bound_since image (entries_of more)) es) (end_mark app y) c (all_since image (entries_of (more ++ minutes_alone es)))) (counted_alone image more es)
      (subst (λ (l : List Entry). IsByEntries (and_entries (bound_since image (entries_of more)) es) (end_mark app y) (with_entries (own_covered image) (counted_since image more) es) l) (all_alone image more es)
      (told_list (bound_since image (entries_of more)) (end_mark app x) (end_mark app y) (own_covered image) (counted_since image more) (all_since image (entries_of more)) es same t.told)));
  day = by es refl;
  made = made;
  order = order;
}
  where
    by : (fs : List Entry) → es ≡ fs → (end_mark app y / 1440 ≡ (own_view image).mark / 1440) ⊎ InDays (end_mark app y / 1440) (counted_since image (more ++ minutes_alone es)).days
    by [] none =
        let whole : more ≡ more ++ minutes_alone es = sym (append-nil more) ∙ ap (λ (l : List Entry). more ++ minutes_alone l) (sym none) in
        let at : end_mark app y / 1440 ≡ end_mark app x / 1440 = same ∙ ap (λ (l : List Entry). mark_behind (end_mark app x) l / 1440) none in
        subst (λ (l : List Written). (end_mark app y / 1440 ≡ (own_view image).mark / 1440) ⊎ InDays (end_mark app y / 1440) (counted_since image l).days) whole
        (tied_still app image more was all x y at (subst (λ (l : List Written). IsMade app image (entries_of l) all y) (sym whole) made) t).day
    by (e ∷ fs) some =
        inr (subst (λ (k : ℕ). InDays k (counted_since image (more ++ minutes_alone es)).days) (sym (same ∙ ap (λ (l : List Entry). mark_behind (end_mark app x) l / 1440) some))
        (subst (λ (c : Counted). InDays (mark_behind (end_mark app x) (e ∷ fs) / 1440) c.days) (ap (λ (l : List Entry). with_entries (own_covered image) (counted_since image more) l) (sym some) ∙ counted_alone image more es)
        (day_list (end_mark app x) (own_covered image) (counted_since image more) e fs)))

-- ---- the entries that are on a card are not later than its end mark

pub goes_up : (app : Application) (image : List ℕ) (more : List Written) (next : ℕ) (x : List ℕ) → GoesSince app image more next x → AllUpTo (end_mark app x) (entries_of more)
goes_up app image more next x s = up_back (end_mark app x) (own_view image).held.entries (entries_of more) s.goes.until

pub broke_up : (app : Application) (image : List ℕ) (more : List Written) (rest : List Entry) (next : ℕ) (x : List ℕ) → BrokeSince app image more rest next x → AllUpTo (end_mark app x) (entries_of more)
broke_up app image more rest next x s = up_back (end_mark app x) (own_view image).held.entries (entries_of more) (⊎_elim (λ broke. broke.until) (λ begun. begun.0.until) s.left)

pub holds_up : (app : Application) (image : List ℕ) (hands : Hands) (brought : List Entry) (next : ℕ) (x : List ℕ) (h : HoldsSince app image hands brought next x) → AllUpTo (end_mark app x) (entries_of h.written)
holds_up app image hands brought next x h = ⊎_elim
    (λ goes. goes_up app image h.written (first_minute next h.rest) x goes)
    (λ broke. broke_up app image h.written h.rest next x broke) h.stands

-- ---- A NEXT ENTRY MAY COME

module _ (app : Application) (image : List ℕ) (more : List Written) (next : ℕ) (x : List ℕ) where
  pub may_come : GoesSince app image more next x → (e : Entry) → next ≤ e.minute → BeginsBehind app e x ⊎ IsFresh app (counted_since image more) (all_since image (entries_of more)) x
  may_come s e le =
      clear_of app.activity (bound_since image (entries_of more)) (own_covered image) s.from (end_mark app x) (counted_since image more) (all_since image (entries_of more)) (card_days app x) s.goes.lives.rests s.tied.told e (omega (arith, s.later, le))

  may_replay : (from : ℕ) (es all : List Entry) → from ≤ first_minute next es → Broke app (bound_since image (entries_of more)) (own_covered image) from (counted_since image more) (all_since image (entries_of more)) x → IsTied app image more all x
      → BeginsLater (end_mark app x) es (trimmed (end_mark app x) (card_days app x)) ⊎ IsFresh app (counted_since image more) (all_since image (entries_of more)) x
  may_replay from [] all le broke tied = inl tt
  may_replay from (e ∷ es) all le broke tied =
      clear_of app.activity (bound_since image (entries_of more)) (own_covered image) from (end_mark app x) (counted_since image more) (all_since image (entries_of more)) (trimmed (end_mark app x) (card_days app x)) broke.rests tied.told e le

  -- a session that is open still may be repaired so
  pub since_replay : IsApplication app → (rest : List Entry) → GoesSince app image more (first_minute next rest) x ⊎ BrokeSince app image more rest next x
      → MayReplay app (bound_since image (entries_of more)) (own_covered image) (first_minute next rest) (counted_since image more) (all_since image (entries_of more)) rest x
  since_replay sound rest (inl s) =
      let broke = goes_broke app (bound_since image (entries_of more)) (own_covered image) s.from (counted_since image more) (all_since image (entries_of more)) sound (omega arith) (first_minute next rest) x s.later s.goes in
      inl (broke, may_replay (first_minute next rest) rest (entries_of more) (omega arith) broke s.tied)
  since_replay sound rest (inr s) = ⊎_elim
      (λ old.
      let broke = broke_later app.activity (bound_since image (entries_of more)) (own_covered image) (end_mark app x) (counted_since image more) (all_since image (entries_of more)) s.from (first_minute next rest) (card_days app x) s.later old in
      inl (broke, may_replay (first_minute next rest) rest (entries_of more ++ rest) (omega arith) broke s.tied))
      (λ begun.
      inr (
        begun_later app.activity (bound_since image (entries_of more)) (own_covered image) (end_mark app x) (counted_since image more) (all_since image (entries_of more)) s.from (first_minute next rest) (card_days app x) s.later begun.0,
        begun.1,
      )) s.left

pub goes_wider : (app : Application) (image : List ℕ) (more : List Written) (n to : ℕ) (x : List ℕ) → n ≤ to → GoesSince app image more n x → GoesSince app image more to x
goes_wider app image more n to x le g = record { from = g.from; later = omega (arith, g.later, le); goes = g.goes; tied = g.tied; marked = g.marked; hands = g.hands }

-- ---- A KEEP, the first one with its entries by hand

-- what its days tell of entries by hand: with the old end mark, and with the new one
pub record TellsKeep (app : Application) (image : List ℕ) (ws : List Written) (hs : List Manual) (e : Entry) (x y : List ℕ) : Type 0 where
  pub old : end_mark app y ≡ end_mark app x → TellsSince image ws (end_mark app y) (card_days app y)
  pub marked : end_mark app y ≡ e.minute → TellsSince image (ws ++ written_by hs e) (end_mark app y) (card_days app y)
  pub all : end_mark app y ≡ e.minute → TellsSince image (ws ++ written_by hs e) (last_of app y) (card_days app y)

module _ (app : Application) (image : List ℕ) (h : Hands) (ws : List Written) (es : List Entry) (hs : List Manual) (e : Entry) (n next : ℕ) (x y : List ℕ) (session : 0 < session_time app x) (before : n ≤ e.minute) (late : end_mark app x < e.minute) (follow : Follow e.minute es) (after : e.minute < next)
    (lie : Lie h (hands_of ws)) (order : Rises (last_at image) (ws ++ written_by hs e)) (s : GoesSince app image ws n x) (tells : TellsKeep app image ws hs e x y)
    (shown : IsFirstShown app (bound_since image (entries_of ws)) (own_covered image) (counted_since image ws) (all_since image (entries_of ws)) hs e x y) where
  abbrev Stopped : Type 0
  Stopped = IsStopped app (bound_since image (entries_of ws)) (own_covered image) (counted_since image ws) (all_since image (entries_of ws)) e x y

  abbrev KeepDone : Type 0
  KeepDone = IsDone app (bound_since image (entries_of ws)) (own_covered image) (with_hands (own_covered image) (counted_since image ws) hs) (all_since image (entries_of ws)) e x y

  kept_session : 0 < session_time app y
  kept_session = omega (arith, session, shown.session)

  stopped_holds : IsMade app image (entries_of ws) (entries_of ws ++ e ∷ es) y → Stopped → HoldsSince app image (and_given hs h) (entries_of ws ++ e ∷ es) next y
  stopped_holds made old = record {
    written = ws;
    rest = e ∷ es;
    split = refl;
    lie = lie_given h (hands_of ws) hs lie;
    behind = (omega (arith, late, old.mark), follow);
    stands = inr (record {
      session = kept_session;
      from = e.minute;
      later = omega arith;
      left = old.left;
      tied = tied_still app image ws (entries_of ws) (entries_of ws ++ e ∷ es) x y (ap (λ (n : ℕ). n / 1440) old.mark) made s.tied;
      marked = tells.old old.mark;
    });
  }

  goes_by : KeepDone → StringFollowsEntries app (bound_since image (entries_of (ws ++ written_by hs e))) (own_covered image) (suc e.minute) (counted_since image (ws ++ written_by hs e)) (all_since image (entries_of (ws ++ written_by hs e))) y
  goes_by new =
      subst (λ (b : Bound). StringFollowsEntries app b (own_covered image) (suc e.minute) (counted_since image (ws ++ written_by hs e)) (all_since image (entries_of (ws ++ written_by hs e))) y) (bound_by image ws hs e)
      (subst (λ (c : Counted). StringFollowsEntries app (and_entry (bound_since image (entries_of ws)) e) (own_covered image) (suc e.minute) c (all_since image (entries_of (ws ++ written_by hs e))) y) (counted_then_keep image ws hs e)
      (subst (λ (l : List Entry). StringFollowsEntries app (and_entry (bound_since image (entries_of ws)) e) (own_covered image) (suc e.minute) (with_entry (own_covered image) (with_hands (own_covered image) (counted_since image ws) hs) e) l y) (all_by image ws hs e) new.goes))

  pub kept_goes : IsTied app image (ws ++ written_by hs e) (entries_of (ws ++ written_by hs e)) y → KeepDone → GoesSince app image (ws ++ written_by hs e) (suc e.minute) y
  kept_goes tied new = record {
    from = suc e.minute;
    later = omega arith;
    goes = goes_by new;
    tied = tied;
    marked = tells.marked new.mark;
    hands = tells.all new.mark;
  }

  append_one : (done : List Entry) → done ++ e ∷ es ≡ (done ++ e ∷ []) ++ es
  append_one [] = refl
  append_one (f ∷ done) = ap (λ (l : List Entry). f ∷ l) (append_one done)

  done_holds : IsTied app image (ws ++ written_by hs e) (entries_of (ws ++ written_by hs e)) y → KeepDone → HoldsSince app image (and_given hs h) (entries_of ws ++ e ∷ es) next y
  done_holds tied new = record {
    written = ws ++ written_by hs e;
    rest = es;
    split = append_one (entries_of ws) ∙ ap (λ (l : List Entry). l ++ es) (sym (entries_then ws hs e));
    lie = subst (Lie (and_given hs h)) (sym (hands_then ws hs e)) (lie_less h (hands_of ws ++ hs) hs (lie_sure h (hands_of ws) hs lie));
    behind = subst (λ (m : ℕ). Follow m es) (sym new.mark) follow;
    stands = inl (goes_wider app image (ws ++ written_by hs e) (suc e.minute) (first_minute next es) y (follow_first e.minute next es follow after) (kept_goes tied new));
  }

  pub keep_holds : IsMade app image (entries_of ws) (entries_of ws ++ e ∷ es) y → (end_mark app y ≡ e.minute → IsTied app image (ws ++ written_by hs e) (entries_of (ws ++ written_by hs e)) y) → HoldsSince app image (and_given hs h) (entries_of ws ++ e ∷ es) next y
  keep_holds stopped tied = ⊎_elim (λ old. stopped_holds stopped old) (λ new. done_holds (tied new.mark) new) shown.side

-- ---- A WITHDRAWAL

-- what its days tell of entries by hand: up to the end mark, and in all
pub record TellsClose (app : Application) (image : List ℕ) (ws : List Written) (y : List ℕ) : Type 0 where
  pub marked : TellsSince image ws (end_mark app y) (card_days app y)
  pub all : TellsSince image ws (last_of app y) (card_days app y)

module _ (app : Application) (image : List ℕ) (h : Hands) (ws : List Written) (next : ℕ) (x y : List ℕ) (session : 0 < session_time app x) (lie : Lie h (hands_of ws)) (tied : IsTied app image ws (entries_of ws) x) (made : IsMade app image (entries_of ws) (entries_of ws) y) (tells : TellsClose app image ws y) where
  pub closed_goes : IsClosedShown app (bound_since image (entries_of ws)) (own_covered image) next (counted_since image ws) (all_since image (entries_of ws)) x y → GoesSince app image ws next y
  closed_goes shut = record {
    from = next;
    later = omega arith;
    goes = shut.goes;
    tied = tied_still app image ws (entries_of ws) (entries_of ws) x y shut.day made tied;
    marked = tells.marked;
    hands = tells.all;
  }

  pub close_holds : IsCloseShown app (bound_since image (entries_of ws)) (own_covered image) next (counted_since image ws) (all_since image (entries_of ws)) x y → HoldsSince app image h (entries_of ws) next y
  close_holds (inl open_) = record {
    written = ws;
    rest = [];
    split = sym (append-nil (entries_of ws));
    lie = lie;
    behind = tt;
    stands = inr (record {
      session = omega (arith, session, open_.0);
      from = next;
      later = omega arith;
      left = inl open_.2;
      tied = tied_still app image ws (entries_of ws) (entries_of ws ++ []) x y (ap (λ (n : ℕ). n / 1440) open_.1) (subst (λ (l : List Entry). IsMade app image (entries_of ws) l y) (sym (append-nil (entries_of ws))) made) tied;
      marked = tells.marked;
    });
  }
  close_holds (inr shut) = record {
    written = ws;
    rest = [];
    split = sym (append-nil (entries_of ws));
    lie = lie;
    behind = tt;
    stands = inl (closed_goes shut);
  }

-- ---- AN INSERTION

closed_day : (e : Entry) → closed_at (Some e) / 1440 ≡ e.minute / 1440
closed_day e = by (nat_eq (suc e.minute % 1440) 0) refl
  where
    not_zero : (n : ℕ) → nat_eq n 0 ≡ false → 0 < n
    not_zero n is = nz n is
      where
        nz : (n : ℕ) → nat_eq n 0 ≡ false → 0 < n
        nz n is = grind (arith, nat_tests)

    by : (b : Bool) → nat_eq (suc e.minute % 1440) 0 ≡ b → cond b e.minute (suc e.minute) / 1440 ≡ e.minute / 1440
    by true is = refl
    by false is = omega (arith, not_zero (suc e.minute % 1440) is)

-- the newest minute behind entries lies on the day of the last of them
newest_day : (mark newest : ℕ) (es : List Entry) → newest / 1440 ≡ mark / 1440 → newest_behind newest es / 1440 ≡ mark_behind mark es / 1440
newest_day mark newest [] same = same
newest_day mark newest (e ∷ es) same = newest_day e.minute (closed_at (Some e)) es (closed_day e)

-- what its days tell of entries by hand, whichever of the entries that it lacked are there
pub record TellsReplay (app : Application) (image : List ℕ) (ws : List Written) (rest : List Entry) (y : List ℕ) : Type 0 where
  pub marked : (done es : List Entry) → rest ≡ done ++ es → TellsSince image (ws ++ minutes_alone done) (end_mark app y) (card_days app y)
  pub all : newest_word (card_days app y) ≤ end_mark app y → TellsSince image (ws ++ minutes_alone rest) (last_of app y) (card_days app y)
  pub order : (done es : List Entry) → rest ≡ done ++ es → Rises (last_at image) (ws ++ minutes_alone done)

module _ (app : Application) (image : List ℕ) (h : Hands) (ws : List Written) (rest : List Entry) (next : ℕ) (x y : List ℕ) (follow : Follow (end_mark app x) rest) (session : 0 < session_time app x) (lie : Lie h (hands_of ws)) (was : List Entry) (tied : IsTied app image ws was x)
    (parted : PartedAt app image (entries_of ws) rest (entries_of ws ++ rest) y) (tells : TellsReplay app image ws rest y) where
  append_then : (more done rest : List Entry) → more ++ (done ++ rest) ≡ (more ++ done) ++ rest
  append_then [] done rest = refl
  append_then (e ∷ more) done rest = ap (λ (l : List Entry). e ∷ l) (append_then more done rest)

  first_follow : (done es : List Entry) → rest ≡ done ++ es → end_mark app y ≡ mark_behind (end_mark app x) done → Follow (end_mark app y) es
  first_follow done es split at = subst (λ (m : ℕ). Follow m es) (sym at) (follow_behind (end_mark app x) done es (subst (Follow (end_mark app x)) split follow))

  -- those that are there, behind what was written
  entries_with : (done : List Entry) → entries_of ws ++ done ≡ entries_of (ws ++ minutes_alone done)
  entries_with done = sym (alone_is ws done)

  split_with : (done es : List Entry) → rest ≡ done ++ es → entries_of ws ++ rest ≡ entries_of (ws ++ minutes_alone done) ++ es
  split_with done es split = ap (λ (l : List Entry). entries_of ws ++ l) split ∙ append_then (entries_of ws) done es ∙ ap (λ (l : List Entry). l ++ es) (entries_with done)

  lie_with : (done : List Entry) → Lie h (hands_of (ws ++ minutes_alone done))
  lie_with done = subst (Lie h) (sym (hands_append ws (minutes_alone done) ∙ ap (λ (l : List Manual). hands_of ws ++ l) (hands_alone done) ∙ append-nil (hands_of ws))) lie

  pub replay_holds : IsReplayShown app (bound_since image (entries_of ws)) (own_covered image) next (counted_since image ws) (all_since image (entries_of ws)) rest x y → HoldsSince app image h (entries_of ws ++ rest) next y
  replay_holds shown = record {
    written = ws ++ minutes_alone shown.first.done;
    rest = shown.first.rest;
    split = split_with shown.first.done shown.first.rest shown.first.split;
    lie = lie_with shown.first.done;
    behind = first_follow shown.first.done shown.first.rest shown.first.split shown.first.behind;
    stands = inr (record {
      session = omega (arith, session, shown.session);
      from = first_minute next shown.first.rest;
      later = omega arith;
      left = ⊎_elim
          (λ broke. inl (broke_more app image ws shown.first.done (first_minute next shown.first.rest) y broke))
          (λ begun. inr (begun_more app image ws shown.first.done (first_minute next shown.first.rest) y begun.0, begun.1)) shown.first.left;
      tied = tied_more app image ws shown.first.done was (entries_of (ws ++ minutes_alone shown.first.done) ++ shown.first.rest) x y (ap (λ (n : ℕ). n / 1440) shown.first.behind) (tells.order shown.first.done shown.first.rest shown.first.split)
          (subst (λ (l : List Entry). IsMade app image l (entries_of (ws ++ minutes_alone shown.first.done) ++ shown.first.rest) y) (entries_with shown.first.done)
          (subst (λ (l : List Entry). IsMade app image (entries_of ws ++ shown.first.done) l y) (split_with shown.first.done shown.first.rest shown.first.split)
          (parted_made app image (entries_of ws) rest (entries_of ws ++ rest) y parted shown.first.done shown.first.rest shown.first.split
          (up_back (end_mark app y) (all_since image (entries_of ws)) shown.first.done (⊎_elim (λ broke. broke.until) (λ begun. begun.0.until) shown.first.left))
          (first_follow shown.first.done shown.first.rest shown.first.split shown.first.behind)))) tied;
      marked = tells.marked shown.first.done shown.first.rest shown.first.split;
    });
  }

  module _ (newest : ℕ) (same : newest / 1440 ≡ end_mark app x / 1440) where
    pub all_goes : end_mark app y ≡ newest_behind newest rest → newest_word (card_days app y) ≤ end_mark app y → StringFollowsEntries app (and_entries (bound_since image (entries_of ws)) rest) (own_covered image) next (with_entries (own_covered image) (counted_since image ws) rest) (all_since image (entries_of ws) ++ rest) y
        → GoesSince app image (ws ++ minutes_alone rest) next y
    all_goes at low goes = record {
      from = next;
      later = omega arith;
      goes = goes_more app image ws rest next y goes;
      tied = tied_more app image ws rest was (entries_of (ws ++ minutes_alone rest)) x y (ap (λ (n : ℕ). n / 1440) at ∙ newest_day (end_mark app x) newest rest same) (tells.order rest [] (sym (append-nil rest)))
          (subst (λ (l : List Entry). IsMade app image l l y) (entries_with rest)
          (parted_made app image (entries_of ws) rest (entries_of ws ++ rest) y parted rest [] (sym (append-nil rest)) (up_back (end_mark app y) (all_since image (entries_of ws)) rest goes.until) tt)) tied;
      marked = tells.marked rest [] (sym (append-nil rest));
      hands = tells.all low;
    }

    pub all_holds : end_mark app y ≡ newest_behind newest rest → newest_word (card_days app y) ≤ end_mark app y → StringFollowsEntries app (and_entries (bound_since image (entries_of ws)) rest) (own_covered image) next (with_entries (own_covered image) (counted_since image ws) rest) (all_since image (entries_of ws) ++ rest) y
        → HoldsSince app image h (entries_of ws ++ rest) next y
    all_holds at low goes = record {
      written = ws ++ minutes_alone rest;
      rest = [];
      split = entries_with rest ∙ sym (append-nil (entries_of (ws ++ minutes_alone rest)));
      lie = lie_with rest;
      behind = tt;
      stands = inl (all_goes at low goes);
    }

-- ---- the days, the vehicle entries and the session stay, and a later bound

module _ (app : Application) (image : List ℕ) (x y : List ℕ) (same : book_of app y ≡ book_of app x) where
  days : card_days app y ≡ card_days app x
  days = sym (book_days app y) ∙ ap (λ (b : Book). b.days) same ∙ book_days app x

  mark : end_mark app y ≡ end_mark app x
  mark = mark_told app y ∙ ap (λ (b : Book). mark_of b) same ∙ sym (mark_told app x)

  -- and what they tell
  pub marked_still : (ws : List Written) → TellsSince image ws (end_mark app x) (card_days app x) → TellsSince image ws (end_mark app y) (card_days app y)
  marked_still ws t = subst (λ (ds : List Day). TellsSince image ws (end_mark app y) ds) (sym days) (subst (λ (n : ℕ). TellsSince image ws n (card_days app x)) (sym mark) t)

  last_still : last_of app y ≡ last_of app x
  last_still = ap (λ (n : ℕ). max n (newest_word (card_days app y))) mark ∙ ap (λ (ds : List Day). max (end_mark app x) (newest_word ds)) days

  pub all_still : (ws : List Written) → TellsSince image ws (last_of app x) (card_days app x) → TellsSince image ws (last_of app y) (card_days app y)
  all_still ws t =
      subst (λ (ds : List Day). TellsSince image ws (last_of app y) ds) (sym days) (subst (λ (n : ℕ). TellsSince image ws n (card_days app x)) (sym last_still) t)

  pub goes_still : (more : List Written) (next : ℕ) → GoesSince app image more next x → GoesSince app image more next y
  goes_still more next s = record {
    from = s.from;
    later = s.later;
    goes = goes_moved app (bound_since image (entries_of more)) (own_covered image) s.from (counted_since image more) (all_since image (entries_of more)) x y days mark s.goes;
    tied = tied_still app image more (entries_of more) (entries_of more) x y (ap (λ (n : ℕ). n / 1440) mark) (made_same app image (entries_of more) (entries_of more) x y same s.tied.made) s.tied;
    marked = marked_still more s.marked;
    hands = all_still more s.hands;
  }

  module _ (more : List Written) (rest : List Entry) (from : ℕ) where
    broke_still : Broke app (bound_since image (entries_of more)) (own_covered image) from (counted_since image more) (all_since image (entries_of more)) x → Broke app (bound_since image (entries_of more)) (own_covered image) from (counted_since image more) (all_since image (entries_of more)) y
    broke_still b =
        subst (λ (ds : List Day). BrokeOf app.activity (bound_since image (entries_of more)) (own_covered image) from (end_mark app y) (counted_since image more) (all_since image (entries_of more)) ds) (sym days)
        (subst (λ (n : ℕ). BrokeOf app.activity (bound_since image (entries_of more)) (own_covered image) from n (counted_since image more) (all_since image (entries_of more)) (card_days app x)) (sym mark) b)

    begun_still : Begun app (bound_since image (entries_of more)) (own_covered image) from (counted_since image more) (all_since image (entries_of more)) x → Begun app (bound_since image (entries_of more)) (own_covered image) from (counted_since image more) (all_since image (entries_of more)) y
    begun_still b =
        subst (λ (ds : List Day). BegunOf app.activity (bound_since image (entries_of more)) (own_covered image) from (end_mark app y) (counted_since image more) (all_since image (entries_of more)) ds) (sym days)
        (subst (λ (n : ℕ). BegunOf app.activity (bound_since image (entries_of more)) (own_covered image) from n (counted_since image more) (all_since image (entries_of more)) (card_days app x)) (sym mark) b)

  pub beside_holds : (hands : Hands) (brought : List Entry) (next : ℕ) → session_time app y ≡ session_time app x → HoldsSince app image hands brought next x → HoldsSince app image hands brought next y
  beside_holds hands brought next session h = record {
    written = h.written;
    rest = h.rest;
    split = h.split;
    lie = h.lie;
    behind = subst (λ (m : ℕ). Follow m h.rest) (sym mark) h.behind;
    stands = ⊎_elim
        (λ goes. inl (goes_still h.written (first_minute next h.rest) goes))
        (λ broke.
        inr (record {
          session = omega (arith, session, broke.session);
          from = broke.from;
          later = broke.later;
          left = ⊎_elim
              (λ old. inl (broke_still h.written h.rest broke.from old))
              (λ begun. inr (begun_still h.written h.rest broke.from begun.0, subst (λ (m : ℕ). IsOnDay m h.rest) (sym mark) begun.1)) broke.left;
          tied = tied_still app image h.written (entries_of h.written ++ h.rest) (entries_of h.written ++ h.rest) x y (ap (λ (n : ℕ). n / 1440) mark) (made_same app image (entries_of h.written) (entries_of h.written ++ h.rest) x y same broke.tied.made) broke.tied;
          marked = marked_still h.written broke.marked;
        })) h.stands;
  }

-- without a session nothing was broken off
pub none_goes : (app : Application) (image : List ℕ) (hands : Hands) (brought : List Entry) (n : ℕ) (x : List ℕ) → session_time app x ≡ 0 → (h : HoldsSince app image hands brought n x) → GoesSince app image h.written (first_minute n h.rest) x
none_goes app image hands brought n x none h = ⊎_elim (λ goes. goes) (λ broke. absurd (omega (arith, broke.session, none))) h.stands

module _ (app : Application) (image : List ℕ) (hands : Hands) (brought : List Entry) (n next : ℕ) (x : List ℕ) (le : n ≤ next) where
  wider : (es : List Entry) → first_minute n es ≤ first_minute next es
  wider [] = le
  wider (e ∷ es) = omega arith

  pub later_holds : HoldsSince app image hands brought n x → HoldsSince app image hands brought next x
  later_holds h = record {
    written = h.written;
    rest = h.rest;
    split = h.split;
    lie = h.lie;
    behind = h.behind;
    stands = ⊎_elim
        (λ goes. inl (record { from = goes.from; later = omega (arith, goes.later, wider h.rest); goes = goes.goes; tied = goes.tied; marked = goes.marked; hands = goes.hands }))
        (λ broke. inr (record { session = broke.session; from = broke.from; later = omega (arith, broke.later, wider h.rest); left = broke.left; tied = broke.tied; marked = broke.marked })) h.stands;
  }

-- further entries by hand that were given
pub given_holds : (app : Application) (image : List ℕ) (h : Hands) (hands : List Manual) (brought : List Entry) (n : ℕ) (x : List ℕ) → HoldsSince app image h brought n x → HoldsSince app image (and_given hands h) brought n x
given_holds app image h hands brought n x k = record { written = k.written; rest = k.rest; split = k.split; lie = lie_given h (hands_of k.written) hands k.lie; behind = k.behind; stands = k.stands }

-- ---- FURTHER ENTRIES, which a card lacks

on_first : (mark : ℕ) (rest es : List Entry) → IsOnDay mark rest → IsOnDay mark (rest ++ es)
on_first m [] es on = absurd on
on_first m (e ∷ rest) es on = on

first_on : (n next : ℕ) (rest es : List Entry) → n ≤ first_minute next es → first_minute n rest ≤ first_minute next (rest ++ es)
first_on n next [] es le = le
first_on n next (e ∷ rest) es le = omega arith

append_three : (more rest es : List Entry) → (more ++ rest) ++ es ≡ more ++ (rest ++ es)
append_three [] rest es = refl
append_three (e ∷ more) rest es = ap (λ (l : List Entry). e ∷ l) (append_three more rest es)

pub brought_holds : (app : Application) (image : List ℕ) (hands : Hands) (brought es : List Entry) (m n next : ℕ) (x : List ℕ) → Follow m (brought ++ es) → n ≤ first_minute next es → HoldsSince app image hands brought n x → HoldsSince app image hands (brought ++ es) next x
brought_holds app image hands brought es m n next x whole after h = record {
  written = h.written;
  rest = h.rest ++ es;
  lie = h.lie;
  split = ap (λ (l : List Entry). l ++ es) h.split ∙ append_three (entries_of h.written) h.rest es;
  behind = follow_on tail.0 (end_mark app x) n h.rest es tail.1 h.behind low after_es;
  stands = ⊎_elim
      (λ goes. inl (record { from = goes.from; later = omega (arith, goes.later, first_on n next h.rest es after); goes = goes.goes; tied = goes.tied; marked = goes.marked; hands = goes.hands }))
      (λ broke. inr (record {
        session = broke.session;
        from = broke.from;
        later = omega (arith, broke.later, first_on n next h.rest es after);
        left = ⊎_elim (λ old. inl old) (λ begun. inr (begun.0, on_first (end_mark app x) h.rest es begun.1)) broke.left;
        tied = subst (λ (l : List Entry). IsTied app image h.written l x) (append_three (entries_of h.written) h.rest es) (tied_wider app image h.written (entries_of h.written ++ h.rest) es x broke.tied);
        marked = broke.marked;
      })) h.stands;
}
  where
    tail : (k : ℕ) × Follow k (h.rest ++ es)
    tail = follow_tail m (entries_of h.written) (h.rest ++ es) (subst (Follow m) (ap (λ (l : List Entry). l ++ es) h.split ∙ append_three (entries_of h.written) h.rest es) whole)

    low : end_mark app x < first_minute n h.rest
    low = ⊎_elim
        (λ goes. omega (arith, goes.goes.lives.rests.later, goes.later))
        (λ broke. ⊎_elim (λ old. omega (arith, old.rests.later, broke.later)) (λ begun. omega (arith, begun.0.rests.later, broke.later)) broke.left) h.stands

    after_es : n ≤ first_minute n es
    after_es = by es after
      where
        by : (es : List Entry) → n ≤ first_minute next es → n ≤ first_minute n es
        by [] le = omega arith
        by (e ∷ es) le = le
