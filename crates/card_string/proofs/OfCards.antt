-- A card's string since the start, at each moment of a keep, a withdrawal and an insertion.
use Rattle.std.proofs.Common.{◌≡◌, ◌⊎◌, inl, inr, ⊎_elim, ℕ, suc, ◌/◌, ◌<◌, ◌≤◌, max, List, [], ◌∷◌, ◌++◌, length, refl, sym, ◌∙◌, ap, subst, arith}
use Rattle.std.proofs.lemmas.List.{append-nil}
use Rattle.card_by_hand.specs.activity_codec.declared.entries.Entry.{Entry}
use Rattle.card_by_hand.specs.activity_codec.declared.entries.Manual.{Manual}
use Rattle.card_by_hand.specs.activity_codec.declared.values.Activity.{Activity}
use Rattle.card_by_hand.specs.tacho_types.declared.texts.Registration.{Registration}
use Rattle.tach_media.specs.card_layout.declared.files.Application.{Application}
use Rattle.tach_media.specs.card_layout.Application.{IsApplication}
use Rattle.tach_media.specs.card_layout.Files.{image_size_of}
use Rattle.card_by_hand.specs.card_model.Days.{Day}
use Rattle.card_by_hand.specs.card_retention.Entries.{newest_minute, newest_word, EndsBy}
use Rattle.card_by_hand.specs.card_retention.Shown.{Bound, InDays, AllUpTo}
use Rattle.card_by_hand.proofs.card_retention.Growing.{still_in}
use Rattle.card_by_hand.specs.card_image.Fields.{card_days, end_mark, session_time}
use Rattle.card_by_hand.specs.card_image.Judging.{IsValid}
use Rattle.card_by_hand.specs.card_image.Own.{own_covered}
use Rattle.card_by_hand.specs.card_image.View.{card_view}
use Rattle.card_by_hand.specs.card_retention.Expected.{Counted, with_entry}
use Rattle.card_by_hand.specs.hand_model.Holding.{LieBetween}
use Rattle.card_by_hand.specs.hand_model.Written.{Written, Hands, Lie, Rises, entries_of, hands_of, written_by, minutes_alone, and_sure, and_given}
use Rattle.card_by_hand.proofs.hand_model.OfDay.{spans}
use Rattle.card_by_hand.proofs.hand_model.Written.{entries_then, hands_then, alone_hands, lie_sure, rises_by}
use Rattle.card_by_hand.specs.card_session.Books.{mark_of, with_entry as book_with}
use Rattle.card_by_hand.specs.card_session.Sessions.{Session, IsSession, newest_in, book_of}
use Rattle.card_by_hand.specs.card_session.Cards.{IsCardClosing, grown}
use Rattle.card_by_hand.specs.card_session.Inserting.{AreOwed, Follow, InsertsClosed, InsertingClosed, InsertsOpen, InsertingOpen}
use Rattle.card_by_hand.specs.card_session.Repairs.{first_minute, newest_behind, lacked_by}
use Rattle.card_by_hand.proofs.card_session.Ends.{closed_end, open_end}
use Rattle.card_by_hand.proofs.card_session.InsertingBooks.{lacked_follow}
use Rattle.card_by_hand.proofs.card_session.Marks.{mark_told}
use Rattle.card_by_hand.proofs.card_session.NewestStays.{view_word}
use Rattle.card_by_hand.proofs.card_session.Preparing.{used_at}
use Rattle.card_by_hand.proofs.card_session.Stopping.{asked_at, book_days, mark_at}
use Rattle.card_by_hand.proofs.card_session.Valid.{above_zero, valid_strict}
use Rattle.card_by_hand.specs.First.{IsFirstKept, IsFirstKeeping, IsKeepingBehind, first_written}
use Rattle.card_by_hand.specs.Wider.{with_hands}
use Rattle.card_by_hand.proofs.FirstLaws.{entering_same, past_same, kept_keeping}
use Rattle.card_string.specs.Deeds.{IsMade}
use Rattle.card_string.specs.Shows.{IsFirstReady, IsFirstShown}
use Rattle.card_string.specs.Inserts.{MayReplay, IsAllShown, IsInsertionShown}
use Rattle.card_string.specs.Since.{last_at, all_since, bound_since, counted_since, IsByEntries, IsTied, TellsSince, GoesSince, BrokeSince, HoldsSince, SitsSince, IsReadySince}
use Rattle.card_string.proofs.Clear.{told_within, last_in}
use Rattle.card_string.proofs.FirstShown.{first_shown}
use Rattle.card_string.proofs.Hands.{hands_still, keep_tells_since, withdrawal_tells, insertion_tells, replay_tells, rises_behind}
use Rattle.card_string.proofs.Start.{ends_card}
use Rattle.card_string.proofs.Withdrawn.{close_shown}
use Rattle.card_string.proofs.Inserted.{mark_day, days_of_open, shows_moments, shows_all}
use Rattle.card_string.proofs.Unclosed.{unclosed_shown, answered_late}
use Rattle.card_string.proofs.Deeds.{up_later, made_more, first_stopped, first_made, close_made, closed_made, PartedAt, open_parted}
use Rattle.card_string.proofs.Lists.{same_parts, alone_is, all_by, bound_by, counted_then_keep}
use Rattle.card_string.proofs.Since.{TellsKeep, TellsReplay, may_come, since_replay, keep_holds, kept_goes, close_holds, replay_holds, all_goes, all_holds, tied_still, tied_wider, none_goes, later_holds, holds_up}

-- ---- a keep, the first one of a session with its entries by hand

module _ (s : Session) (image : List ℕ) (h : Hands) (done : List Entry) (n : ℕ) (hands : List Manual) (e : Entry) (odometer : ℕ) (x y : List ℕ) (ready : IsReadySince s image h done n hands e x) where
  abbrev ws : List Written
  ws = ready.sits.written

  g : GoesSince s.application image ready.sits.written n x
  g = ready.sits.goes

  first_late : first_written hands e ≤ e.minute
  first_late = by hands ready.are.lie
    where
      by : (hs : List Manual) → LieBetween s.minute e.minute hs → first_written hs e ≤ e.minute
      by [] lie = omega arith
      by (g ∷ gs) lie = let low : g.minute < e.minute = spans g.minute e.minute gs lie.1 in omega (arith, low)

  before : n ≤ e.minute
  before = ⊎_elim (λ le. omega (arith, le, first_late)) (λ cut. cut.1) ready.before

  late_mark : end_mark s.application x < e.minute
  late_mark = let gap = asked_at s x e.minute ready.later ready.knows in omega (arith, gap.1, mark_told s.application x)

  up : AllUpTo (end_mark s.application x) (all_since image (entries_of ready.sits.written))
  up = ready.sits.goes.goes.until

  -- the newest minute is not earlier than the end mark
  mark_up : end_mark s.application x ≤ s.minute
  mark_up = omega (arith, ready.knows.minute, mark_told s.application x)

  order : Rises (last_at image) (ready.sits.written ++ written_by hands e)
  order = rises_behind image s.minute ready.sits.written (written_by hands e) (up_later (end_mark s.application x) s.minute mark_up (all_since image (entries_of ready.sits.written)) up) ready.sits.goes.tied.order
      (rises_by s.minute hands e ready.are.lie ready.are.day)

  first_ready : IsFirstReady s (bound_since image (entries_of ready.sits.written)) (own_covered image) ready.sits.goes.from (counted_since image ready.sits.written) (all_since image (entries_of ready.sits.written)) hands e x
  first_ready = record {
    sizes = ready.sizes;
    session = ready.knows;
    goes = ready.sits.goes.goes;
    bytes = omega arith;
    later = ready.later;
    before = ⊎_elim (λ le. inl (omega (arith, ready.sits.goes.later, le))) (λ cut. inr (cut.0, omega (arith, ready.sits.goes.later, cut.1))) ready.before;
    clear = may_come s.application image ready.sits.written n x ready.sits.goes e before;
    are = ready.are;
    few = ready.few;
    shut = ready.shut;
  }

  module _ (keeping : IsFirstKeeping s hands e odometer x y) where
    shown : IsFirstShown s.application (bound_since image (entries_of ready.sits.written)) (own_covered image) (counted_since image ready.sits.written) (all_since image (entries_of ready.sits.written)) hands e x y
    shown = first_shown s (bound_since image (entries_of ready.sits.written)) (own_covered image) ready.sits.goes.from (counted_since image ready.sits.written) (all_since image (entries_of ready.sits.written)) hands e odometer x y first_ready keeping

    tells : TellsKeep s.application image ready.sits.written hands e x y
    tells = keep_tells_since s image ready.sits.written n hands e odometer x y ready.sizes ready.knows ready.later ready.are ready.sits.goes before keeping

    stopped_made : (es : List Entry) → IsMade s.application image (entries_of ready.sits.written) (entries_of ready.sits.written ++ e ∷ es) y
    stopped_made es =
        first_stopped s image (entries_of ready.sits.written) (entries_of ready.sits.written ++ e ∷ es) es hands e odometer x y refl
        (made_more s.application image (entries_of ready.sits.written) (entries_of ready.sits.written) (e ∷ es) x ready.sits.goes.tied.made) keeping

    kept_made : end_mark s.application y ≡ e.minute → IsMade s.application image (entries_of (ready.sits.written ++ written_by hands e)) (entries_of (ready.sits.written ++ written_by hands e)) y
    kept_made at = subst (λ (l : List Entry). IsMade s.application image l l y) (sym (entries_then ready.sits.written hands e)) (by keeping)
      where
        by : IsFirstKeeping s hands e odometer x y → IsMade s.application image (entries_of ready.sits.written ++ e ∷ []) (entries_of ready.sits.written ++ e ∷ []) y
        by (inl entering) = absurd (omega (arith, at, (entering_same hands s x y entering).mark, late_mark))
        by (inr behind) =
            let same = past_same s hands e odometer x y behind in
            let old : end_mark behind.between.application behind.card < e.minute = omega (arith, same.0.mark, ap (λ (a : Application). end_mark a x) same.1, late_mark) in
            first_made s image (entries_of ready.sits.written) (entries_of ready.sits.written ++ e ∷ []) [] hands e odometer x y refl
            (made_more s.application image (entries_of ready.sits.written) (entries_of ready.sits.written) (e ∷ []) x ready.sits.goes.tied.made) behind old at

    tied : end_mark s.application y ≡ e.minute → IsTied s.application image (ready.sits.written ++ written_by hands e) (entries_of (ready.sits.written ++ written_by hands e)) y
    tied at = record {
      told =
          subst (λ (c : Counted). IsByEntries (bound_since image (entries_of (ready.sits.written ++ written_by hands e))) (end_mark s.application y) c (all_since image (entries_of (ready.sits.written ++ written_by hands e)))) (counted_then_keep image ready.sits.written hands e)
          (subst (λ (l : List Entry). IsByEntries (bound_since image (entries_of (ready.sits.written ++ written_by hands e))) (end_mark s.application y) (with_entry (own_covered image) (with_hands (own_covered image) (counted_since image ready.sits.written) hands) e) l) (all_by image ready.sits.written hands e)
          (told_within (bound_since image (entries_of ready.sits.written)) (bound_since image (entries_of (ready.sits.written ++ written_by hands e))) (end_mark s.application y) (own_covered image) (with_hands (own_covered image) (counted_since image ready.sits.written) hands)
          (all_since image (entries_of ready.sits.written)) e (ap (λ (b : Bound). b.all) (sym (bound_by image ready.sits.written hands e)))
          (still_in (counted_since image ready.sits.written).days (with_hands (own_covered image) (counted_since image ready.sits.written) hands).days (λ k i. hands_still (own_covered image) (counted_since image ready.sits.written) hands k i) 0 (all_since image (entries_of ready.sits.written))
          ready.sits.goes.tied.told.within)));
      day = inr (subst (λ (k : ℕ). InDays (k / 1440) (counted_since image (ready.sits.written ++ written_by hands e)).days) (sym at)
          (subst (λ (c : Counted). InDays (e.minute / 1440) c.days) (counted_then_keep image ready.sits.written hands e) (last_in (own_covered image) (with_hands (own_covered image) (counted_since image ready.sits.written) hands) e)));
      made = kept_made at;
      order = order;
    }

    pub card_keep_holds : (es : List Entry) (next : ℕ) → Follow e.minute es → e.minute < next → HoldsSince s.application image (and_given hands h) (done ++ e ∷ es) next y
    card_keep_holds es next follow after =
        subst (λ (l : List Entry). HoldsSince s.application image (and_given hands h) (l ++ e ∷ es) next y) ready.sits.has_all
        (keep_holds s.application image h ready.sits.written es hands e n next x y ready.session before late_mark follow after ready.sits.lie order ready.sits.goes tells shown (stopped_made es) tied)

    pub card_kept : end_mark s.application y ≡ e.minute → SitsSince s.application image (and_sure hands h) (done ++ e ∷ []) (suc e.minute) y
    card_kept at = record {
      written = ready.sits.written ++ written_by hands e;
      has_all = entries_then ready.sits.written hands e ∙ ap (λ (l : List Entry). l ++ e ∷ []) ready.sits.has_all;
      lie = subst (Lie (and_sure hands h)) (sym (hands_then ready.sits.written hands e)) (lie_sure h (hands_of ready.sits.written) hands ready.sits.lie);
      goes = ⊎_elim
          (λ old. absurd (omega (arith, old.mark, at, late_mark)))
          (λ new. kept_goes s.application image h ready.sits.written [] hands e n (suc e.minute) x y ready.session before late_mark tt (omega arith) ready.sits.lie order ready.sits.goes tells shown (tied at) new)
          shown.side;
    }

-- a keep that is done is a moment of itself, and has moved the end mark
pub kept_keeping_of : (s t : Session) (hands : List Manual) (e : Entry) (odometer : ℕ) (x y : List ℕ) → IsFirstKept s t hands e odometer x y → IsFirstKeeping s hands e odometer x y × (end_mark s.application y ≡ e.minute)
kept_keeping_of s t hands e odometer x y kept =
    let b = kept.between in
    let z = kept.card in
    let behind : IsKeepingBehind s hands e odometer x y = record { between = kept.between; card = kept.card; entered = kept.entered; keeping = kept_keeping kept.between t e odometer kept.card y kept.kept } in
    let same = past_same s hands e odometer x y behind in
    let at : end_mark kept.between.application y ≡ e.minute =
    mark_at b.application (book_with b.application.activity b.registration odometer (grown b.odometer odometer) (book_of b.application z) e) y kept.kept.card.told.1 ∙ used_at b.registration odometer e.minute (book_of b.application z).vehicles in
    (inr behind, subst (λ (a : Application). end_mark a y ≡ e.minute) same.1 at)

-- ---- a withdrawal

pub card_close_holds : (s : Session) (act : Activity) (image : List ℕ) (h : Hands) (done : List Entry) (n next : ℕ) (x y : List ℕ) → IsApplication s.application → image_size_of s.application ≤ length x → IsSession s x → 0 < session_time s.application x →
    n ≤ next → newest_minute (end_mark s.application x) (card_days s.application x) < next → SitsSince s.application image h done n x → IsCardClosing s act x y → HoldsSince s.application image h done next y
card_close_holds s act image h done n next x y sound fits knows session le late sits closing =
    let g = sits.goes in
    let ws = sits.written in
    subst (λ (l : List Entry). HoldsSince s.application image h l next y) sits.has_all
    (close_holds s.application image h ws next x y session sits.lie g.tied (close_made s act image (entries_of ws) (entries_of ws) x y sound fits g.tied.made closing)
    (withdrawal_tells s act image ws n x y sound fits knows g closing)
    (close_shown s act x (bound_since image (entries_of ws)) (own_covered image) g.from next (counted_since image ws) (all_since image (entries_of ws)) sound (omega (arith, g.later, le)) late (omega arith) knows g.goes y fits closing))

-- the newest minute that a session knows
in_told : (a : Application) (y : List ℕ) → newest_in (book_of a y) ≡ max (end_mark a y) (newest_word (card_days a y))
unfolding book_of
in_told a y = refl

minute_is : (app : Application) (y : List ℕ) (t : Session) → t.application ≡ app → IsSession t y → t.minute ≡ max (end_mark app y) (newest_word (card_days app y))
minute_is app y t same knows = knows.minute ∙ in_told t.application y ∙ ap (λ (a : Application). max (end_mark a y) (newest_word (card_days a y))) same

-- ---- an insertion of a card whose session was left open

module _ (app : Application) (registration : Registration) (odometer now : ℕ) (owed : List Entry) (image : List ℕ) (h : Hands) (done : List Entry) (n : ℕ) (x : List ℕ) (sound : IsApplication app) (fits : image_size_of app ≤ length x) (long : length registration.0 ≡ 15) (are : AreOwed now owed)
    (valid : IsValid app x) (session : 0 < session_time app x) (up : AllUpTo (end_mark app x) done) (holds : HoldsSince app image h (done ++ lacked_by app x owed) n x) where
  ordered : Follow (end_mark app x) (lacked_by app x owed)
  ordered = lacked_follow 1439 (end_mark app x) owed are.0

  module _ (next : ℕ) (le : n ≤ next) (late : newest_behind (card_view app x).newest (lacked_by app x owed) < next) where
    wide : HoldsSince app image h (done ++ lacked_by app x owed) next x
    wide = later_holds app image h (done ++ lacked_by app x owed) n next x le holds

    -- what is on the card and what it lacks
    pub record Stands : Type 0 where
      pub written : List Written
      pub has : entries_of written ≡ done
      pub lie : Lie h (hands_of written)
      pub tied : IsTied app image written (done ++ lacked_by app x owed) x
      pub stands : GoesSince app image written (first_minute next (lacked_by app x owed)) x ⊎ BrokeSince app image written (lacked_by app x owed) next x
      pub told : TellsSince image written (end_mark app x) (card_days app x)

    apart : (k : HoldsSince app image h (done ++ lacked_by app x owed) next x) → Stands
    apart k =
        let parts = same_parts (end_mark app x) (entries_of k.written) k.rest done (lacked_by app x owed) (sym k.split) (holds_up app image h (done ++ lacked_by app x owed) next x k) up k.behind ordered in
        ⊎_elim
        (λ goes. both parts.first
        (subst (λ (l : List Entry). IsTied app image k.written (l ++ lacked_by app x owed) x) parts.first (tied_wider app image k.written (entries_of k.written) (lacked_by app x owed) x goes.tied))
        (inl (subst (λ (l : List Entry). GoesSince app image k.written (first_minute next l) x) parts.second goes)) goes.marked)
        (λ broke. both parts.first
        (subst (λ (l : List Entry). IsTied app image k.written (l ++ lacked_by app x owed) x) parts.first (subst (λ (l : List Entry). IsTied app image k.written (entries_of k.written ++ l) x) parts.second broke.tied))
        (inr (subst (λ (l : List Entry). BrokeSince app image k.written l next x) parts.second broke)) broke.marked) k.stands
      where
        both : entries_of k.written ≡ done → IsTied app image k.written (done ++ lacked_by app x owed) x → GoesSince app image k.written (first_minute next (lacked_by app x owed)) x ⊎ BrokeSince app image k.written (lacked_by app x owed) next x
            → TellsSince image k.written (end_mark app x) (card_days app x) → Stands
        both has tied stands told = record { written = k.written; has = has; lie = k.lie; tied = tied; stands = stands; told = told }

    pub there : Stands
    there = apart wide

    same_day : (y : List ℕ) → InsertingOpen app registration odometer owed now x y → (card_view app x).newest / 1440 ≡ end_mark app x / 1440
    same_day y inserting = mark_day app x (days_of_open app x registration odometer now owed y inserting)

    may : MayReplay app (bound_since image (entries_of there.written)) (own_covered image) (first_minute next (lacked_by app x owed)) (counted_since image there.written) (all_since image (entries_of there.written)) (lacked_by app x owed) x
    may = since_replay app image there.written next x sound (lacked_by app x owed) there.stands

    shown_at : (y : List ℕ) → InsertingOpen app registration odometer owed now x y → IsInsertionShown app (bound_since image (entries_of there.written)) (own_covered image) next (counted_since image there.written) (all_since image (entries_of there.written)) (lacked_by app x owed) x y
    shown_at y inserting =
        shows_moments app sound x fits registration long odometer now owed are.0 (bound_since image (entries_of there.written)) (own_covered image) (first_minute next (lacked_by app x owed)) next (counted_since image there.written) (all_since image (entries_of there.written)) (omega arith) valid
        (above_zero (session_time app x) session) (omega arith) late may y inserting

    made_here : IsMade app image (entries_of there.written) (entries_of there.written ++ lacked_by app x owed) x
    made_here = subst (λ (l : List Entry). IsMade app image (entries_of there.written) (l ++ lacked_by app x owed) x) (sym there.has) there.tied.made

    parted_at : (y : List ℕ) → InsertingOpen app registration odometer owed now x y → PartedAt app image (entries_of there.written) (lacked_by app x owed) (entries_of there.written ++ lacked_by app x owed) y
    parted_at y inserting = open_parted app sound registration long now image (entries_of there.written) (entries_of there.written ++ lacked_by app x owed) x fits made_here odometer owed are.0 refl y inserting

    until : AllUpTo (end_mark app x) (all_since image (entries_of there.written))
    until = ⊎_elim (λ goes. goes.goes.until) (λ broke. ⊎_elim (λ old. old.until) (λ begun. begun.0.until) broke.left) there.stands

    tells_at : (y : List ℕ) → InsertingOpen app registration odometer owed now x y → TellsReplay app image there.written (lacked_by app x owed) y
    tells_at y inserting =
        replay_tells app sound registration long odometer now image there.written x fits there.told owed are.0 ordered
        (valid_strict app x valid (days_of_open app x registration odometer now owed y inserting) (above_zero (session_time app x) session)) until there.tied.order
        (bound_since image (entries_of there.written)) (own_covered image) (first_minute next (lacked_by app x owed)) (all_since image (entries_of there.written)) may y inserting

    -- by the entries that are there
    by_has : (y : List ℕ) → HoldsSince app image h (entries_of there.written ++ lacked_by app x owed) next y → HoldsSince app image h (done ++ lacked_by app x owed) next y
    by_has y k = subst (λ (l : List Entry). HoldsSince app image h (l ++ lacked_by app x owed) next y) there.has k

    all_low : (y : List ℕ) → IsAllShown app (bound_since image (entries_of there.written)) (own_covered image) next (counted_since image there.written) (all_since image (entries_of there.written)) (lacked_by app x owed) x y → newest_word (card_days app y) ≤ end_mark app y
    all_low y all = omega (arith, all.word, view_word app y)

    pub open_holds : (y : List ℕ) → InsertingOpen app registration odometer owed now x y → HoldsSince app image h (done ++ lacked_by app x owed) next y
    open_holds y inserting = by_has y (⊎_elim
        (λ first. replay_holds app image h there.written (lacked_by app x owed) next x y ordered session there.lie (done ++ lacked_by app x owed) there.tied (parted_at y inserting) (tells_at y inserting) first)
        (λ all. all_holds app image h there.written (lacked_by app x owed) next x y ordered session there.lie (done ++ lacked_by app x owed) there.tied (parted_at y inserting) (tells_at y inserting) (card_view app x).newest (same_day y inserting) all.mark (all_low y all) all.goes)
        (shown_at y inserting))

    pub all_at : (y : List ℕ) → InsertsOpen app registration odometer owed now x y → IsAllShown app (bound_since image (entries_of there.written)) (own_covered image) next (counted_since image there.written) (all_since image (entries_of there.written)) (lacked_by app x owed) x y
    all_at y inserts =
        shows_all app sound x fits registration long odometer now owed are.0 (bound_since image (entries_of there.written)) (own_covered image) (first_minute next (lacked_by app x owed)) next (counted_since image there.written) (all_since image (entries_of there.written)) (omega arith) valid
        (above_zero (session_time app x) session) (omega arith) late may y inserts

    pub sits_at : (y : List ℕ) → InsertsOpen app registration odometer owed now x y → SitsSince app image h (done ++ lacked_by app x owed) next y
    sits_at y inserts =
        let all = all_at y inserts in
        let moment = open_end app registration odometer now owed x y inserts in
        record {
          written = there.written ++ minutes_alone (lacked_by app x owed);
          has_all = alone_is there.written (lacked_by app x owed) ∙ ap (λ (l : List Entry). l ++ lacked_by app x owed) there.has;
          lie = subst (Lie h) (alone_hands there.written (lacked_by app x owed)) there.lie;
          goes = all_goes app image h there.written (lacked_by app x owed) next x y ordered session there.lie (done ++ lacked_by app x owed) there.tied (parted_at y moment) (tells_at y moment) (card_view app x).newest (same_day y moment) all.mark (all_low y all) all.goes;
        }

  pub open_sits : n ≤ suc (newest_behind (card_view app x).newest (lacked_by app x owed)) → (y : List ℕ) (t : Session) → InsertsOpen app registration odometer owed now x y → t.application ≡ app → IsSession t y
      → SitsSince app image h (done ++ lacked_by app x owed) (suc t.minute) y × (t.minute ≡ newest_behind (card_view app x).newest (lacked_by app x owed))
  open_sits le y t inserts same knows =
      let all = all_at (suc (newest_behind (card_view app x).newest (lacked_by app x owed))) le (omega arith) y inserts in
      let at : t.minute ≡ newest_behind (card_view app x).newest (lacked_by app x owed) = omega (arith, minute_is app y t same knows, all.mark, all.word, view_word app y) in
      (subst (λ (m : ℕ). SitsSince app image h (done ++ lacked_by app x owed) (suc m) y) (sym at) (sits_at (suc (newest_behind (card_view app x).newest (lacked_by app x owed))) le (omega arith) y inserts), at)

-- ---- of a card without a session, to which nothing is owed

module _ (app : Application) (registration : Registration) (now : ℕ) (image : List ℕ) (h : Hands) (brought : List Entry) (n : ℕ) (x : List ℕ) (sound : IsApplication app) (fits : image_size_of app ≤ length x) (long : length registration.0 ≡ 15) (valid : IsValid app x)
    (none : session_time app x ≡ 0) (up : AllUpTo (end_mark app x) brought) (holds : HoldsSince app image h brought n x) where
  sits_here : SitsSince app image h brought n x
  sits_here =
      let parts = same_parts (end_mark app x) (entries_of holds.written) holds.rest brought [] (sym holds.split ∙ sym (append-nil brought)) (holds_up app image h brought n x holds) up holds.behind tt in
      record {
        written = holds.written;
        has_all = parts.first;
        lie = holds.lie;
        goes = subst (λ (l : List Entry). GoesSince app image holds.written (first_minute n l) x) parts.second (none_goes app image h brought n x none holds);
      }

  pub shut_goes : (next : ℕ) → n ≤ next → newest_minute (end_mark app x) (card_days app x) < next → (y : List ℕ) → InsertingClosed app registration now x y → SitsSince app image h brought next y
  shut_goes next le late y inserting =
      let sits = sits_here in
      let s = sits.goes in
      let ws = sits.written in
      let shown =
      unclosed_shown app sound x fits registration long now valid none (bound_since image (entries_of ws)) (own_covered image) s.from next (counted_since image ws) (all_since image (entries_of ws)) (omega arith) (omega (arith, s.later, le)) late s.goes y inserting in
      let ends : EndsBy (end_mark app x) (card_days app x) = ends_card app x s.goes.lives.rests.ordered valid none in
      let tells = insertion_tells app sound registration long now image ws n x fits s
      (subst (λ (ds : List Day). EndsBy (mark_of (book_of app x)) ds) (sym (book_days app x)) (subst (λ (m : ℕ). EndsBy m (card_days app x)) (mark_told app x) ends)) y inserting in
      record {
        written = ws;
        has_all = sits.has_all;
        lie = sits.lie;
        goes = record {
          from = next;
          later = omega arith;
          goes = shown.0;
          tied = tied_still app image ws (entries_of ws) (entries_of ws) x y shown.1 (closed_made app sound registration long now image (entries_of ws) (entries_of ws) x fits s.tied.made y inserting) s.tied;
          marked = tells.marked;
          hands = tells.all;
        };
      }

  pub shut_inserting : (next : ℕ) → n ≤ next → newest_minute (end_mark app x) (card_days app x) < next → (y : List ℕ) → InsertingClosed app registration now x y → HoldsSince app image h brought next y
  shut_inserting next le late y inserting =
      let sits = shut_goes next le late y inserting in
      record { written = sits.written; rest = []; split = sym sits.has_all ∙ sym (append-nil (entries_of sits.written)); lie = sits.lie; behind = tt; stands = inl sits.goes }

  pub shut_sits : (y : List ℕ) (t : Session) → InsertsClosed app registration now x y → t.application ≡ app → IsSession t y → n ≤ suc t.minute → SitsSince app image h brought (suc t.minute) y
  shut_sits y t inserts same knows le =
      let sits = sits_here in
      let s = sits.goes in
      let ws = sits.written in
      let at : t.minute ≡ newest_in (book_of app y) = knows.minute ∙ ap (λ (a : Application). newest_in (book_of a y)) same in
      let late = answered_late app sound x fits registration long now valid none (bound_since image (entries_of ws)) (own_covered image) s.from (max s.from (suc (newest_minute (end_mark app x) (card_days app x)))) (counted_since image ws) (all_since image (entries_of ws)) (omega arith)
      (omega arith) (omega arith) s.goes y inserts in
      shut_goes (suc t.minute) le (omega (arith, late, at)) y (closed_end app registration 0 now [] x y inserts)
