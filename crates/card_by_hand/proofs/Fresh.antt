-- A session's first keep on a card whose end mark lies in a later day than its newest day: its first entry by hand begins that day, of which a
-- repair leaves the first word alone.
use Rattle.std.proofs.Common.{◌≡◌, ◌∙◌, inl, inr, ⊎_elim, ℕ, ◌+◌, ◌-◌, ◌*◌, ◌/◌, ◌%◌, ◌<◌, ◌≤◌, Bool, true, false, cond, List, [], ◌∷◌, ◌++◌, length, length-append, refl, sym, ap, subst, arith}
use Rattle.std.specs.Prelude.{◌⊎◌, nat_eq, nat_lt}
use Rattle.std.proofs.lemmas.Bool.{le-leb}
use Rattle.std.proofs.lemmas.Bool.Decides.{nat_tests}
use Rattle.activity_codec.specs.Words.{word_minute}
use Rattle.activity_codec.specs.declared.entries.Entry.{Entry}
use Rattle.activity_codec.specs.declared.entries.Manual.{Manual}
use Rattle.card_session.specs.tacho_types.declared.texts.Registration.{Registration}
use Rattle.tach_media.specs.card_layout.declared.files.Application.{Application}
use Rattle.tach_media.specs.card_layout.Application.{IsApplication}
use Rattle.card_session.specs.card_model.Days.{Day, AreDays, IsDay, len_of}
use Rattle.card_session.specs.card_model.Changes.{Remain, fitting, with_newest, with_word, with_km, with_early, cut, new_day, date_of, trimmed}
use Rattle.card_session.proofs.card_model.Retention.{remain_all, remain_then, remain_fitting}
use Rattle.card_session.proofs.card_model.Trims.{Behind, trimmed_word, with_last}
use Rattle.card_session.specs.card_retention.Expected.{WordDay, is_newest}
use Rattle.card_session.specs.card_retention.Entries.{latest, told_by, newest_word, day_entries}
use Rattle.card_session.specs.card_retention.Retains.{entries_in, begun_on}
use Rattle.card_session.specs.card_retention.Shown.{AllUpTo, AllBefore, sizes, size_day, is_open}
use Rattle.card_session.proofs.card_retention.Growing.{sizes_append}
use Rattle.card_session.proofs.card_retention.Listing.{Lists, lists_left}
use Rattle.card_session.proofs.card_retention.ListTrims.{cut_entries}
use Rattle.card_session.proofs.card_retention.Stops.{are_left}
use Rattle.hand_model.specs.card_image.Fields.{card_days, end_mark}
use Rattle.hand_model.specs.card_image.Judging.{IsValid}
use Rattle.hand_model.specs.Manual.{manual_word}
use Rattle.hand_model.proofs.Words.{minute_is}
use Rattle.card_session.specs.Books.{mark_of, bare_word, entry_word, day_words, with_change, tells_state, gap_closed, entered_days, with_new_day, km_after, travelled, with_entry}
use Rattle.card_session.specs.Sessions.{Session, EndsStrictly, book_of}
use Rattle.card_session.specs.Moments.{IsBeforeWords, IsBeforeMark, IsKeepMoment}
use Rattle.card_session.specs.Cards.{IsCard, IsCardKeeping, grown}
use Rattle.card_session.specs.Parts.{IsBeforeGapOf}
use Rattle.card_session.specs.Overwriting.{ShowsEntries, IsSilentBehind}
use Rattle.card_session.specs.ByHand.{IsCardByHand, IsCardEntering, words_from, with_day_from, with_word_at, word_len}
use Rattle.card_session.proofs.Following.{entry_minute}
use Rattle.card_session.proofs.Marks.{mark_told}
use Rattle.card_session.proofs.OnMark.{IsBegunOn, all_before, before_left, begun_strict, cut_first, bare_tells, none_day, entries_more, entries_same}
use Rattle.card_session.proofs.Stopping.{asked_at, book_days, days_there}
use Rattle.card_session.proofs.Surviving.{strict_survives}
use Rattle.card_session.proofs.Valid.{keep_valid, valid_open, valid_strict}
use Rattle.card_by_hand.specs.Over.{IsBegunOver, BeginsOver}
use Rattle.card_by_hand.specs.First.{Follows, AreEntered, IsEntering, IsFirstKeeping, MayCome, MayFollow, AreHandsOf, IsFreshFor}
use Rattle.card_by_hand.proofs.Along.{behind_one, newest_known, rest_hands}
use Rattle.card_by_hand.proofs.Card.{still, base_is, late, shut_there}
use Rattle.card_by_hand.proofs.Chain.{ends_on}
use Rattle.card_by_hand.proofs.Over.{remain_weaker, undayed}
use Rattle.card_by_hand.proofs.Silent.{silent_stays}
use Rattle.card_by_hand.proofs.Staying.{few_words, late_of, some_open}
use Rattle.card_by_hand.proofs.FirstLaws.{IsSame, same_first, same_moment, ended, app_of, past_same, MayBeValid, follow_valid, first_entry, first_or_behind, shut_known}

apart : (m n : ℕ) → n < m → nat_eq m n ≡ false
apart m n lt = grind (arith, nat_tests)

-- ---- DAYS

module _ (size mark : ℕ) (long : 5544 ≤ size) (days : List Day) where
  abbrev Begun : ℕ → List Day → Type 0
  Begun bytes over = IsBegunOver size mark bytes days over

  less_left : (bytes more len : ℕ) (base less : List Day) → len ≤ bytes → Remain (size - bytes) days base → Remain (size - more - len) base less → Remain (size - (bytes + more)) days less
  less_left bytes more len base less few one two =
      remain_then (size - (bytes + more)) days base less (remain_weaker (size - bytes) (size - (bytes + more)) days base (omega arith) one) (remain_weaker (size - more - len) (size - (bytes + more)) base less (omega (arith, few)) two)

  -- DROPS behind it
  begun_drops : (bytes more : ℕ) (over kept : List Day) → bytes ≤ 32 → more ≤ 16 → Begun bytes over → Remain (size - more) over kept → Begun (bytes + more) kept
  begun_drops bytes more over kept few little o left =
      let u = undayed (size - more) o.young o.base kept (omega (arith, o.few, few, little, long)) (subst (λ (l : List Day). Remain (size - more) l kept) o.is left) in
      record {
        base = u.base;
        young = o.young;
        is = u.is;
        left = less_left bytes more (len_of o.young) o.base u.base o.few o.left u.left;
        few = omega (arith, o.few);
        date = o.date;
        first = o.first;
      }

  -- a word behind the mark is cut again
  cut_of : (d : Day) → d.date ≡ date_of mark → trimmed mark (d ∷ []) ≡ cut mark d ∷ []
  cut_of d at = ap (λ (b : Bool). with_newest (cut mark) (cond b (d ∷ []) [])) (le-leb d.date (date_of mark) (omega (arith, at)))

  abbrev first_words : List Day → List ℕ
  first_words [] = []
  first_words (d ∷ ds) = d.words

  cut_more : (w : ℕ) (d : Day) → d.date ≡ date_of mark → mark % 1440 < word_minute w → (cut mark (with_word w d)).words ≡ (cut mark d).words
  cut_more w d at lt =
      let behind : Behind mark w d = record { day = omega (arith, at); minute = λ same. lt } in
      ap first_words (sym (cut_of (with_word w d) at) ∙ trimmed_word mark w (d ∷ []) behind ∙ cut_of d at)

  -- A WORD MORE
  begun_word : (bytes w : ℕ) (over : List Day) → bytes ≤ 32 → mark % 1440 < word_minute w → Begun bytes over → Begun (bytes + 2) (with_change size w over)
  begun_word bytes w over few lt o =
      let u = undayed (size - 2) o.young o.base (fitting (size - 2) over) (omega (arith, o.few, few, long)) (subst (λ (l : List Day). Remain (size - 2) l (fitting (size - 2) over)) o.is (remain_fitting (size - 2) over)) in
      record {
        base = u.base;
        young = with_word w o.young;
        is = ap (with_newest (with_word w)) u.is ∙ with_last (with_word w) u.base o.young;
        left = less_left bytes 2 (len_of o.young) o.base u.base o.few o.left u.left;
        few = omega (arith, o.few, length-append o.young.words (w ∷ []));
        date = o.date;
        first = cut_more w o.young o.date lt ∙ o.first;
      }

  -- another distance of the day
  cut_km : (km : ℕ) (d : Day) → (cut mark (with_km km d)).words ≡ (cut mark d).words
  cut_km km d = by (nat_eq d.date (date_of mark))
    where
      by : (b : Bool) → (cond b (with_early (mark % 1440) (with_km km d)) (with_km km d)).words ≡ (cond b (with_early (mark % 1440) d) d).words
      by true = refl
      by false = refl

  begun_km : (bytes more : ℕ) (over : List Day) → Begun bytes over → Begun bytes (travelled more over)
  begun_km bytes more over o = record {
    base = o.base;
    young = with_km (km_after more o.young.km) o.young;
    is = ap (travelled more) o.is ∙ with_last (λ d. with_km (km_after more d.km) d) o.base o.young;
    left = o.left;
    few = o.few;
    date = o.date;
    first = cut_km (km_after more o.young.km) o.young ∙ o.first;
  }

  -- ---- THE DAY is begun with a minute's word

  module _ (minute w : ℕ) (at : word_minute w ≡ minute % 1440) (after : mark < minute) (here : minute / 1440 ≡ mark / 1440) where
    abbrev young_day : Day
    young_day = new_day days (date_of minute) (words_from minute w)

    on_mark : date_of minute ≡ date_of mark
    on_mark = ap (λ (n : ℕ). n * 86400) here

    two : words_from minute w ≡ bare_word ∷ w ∷ []
    two = ap (λ (b : Bool). cond b (w ∷ []) (bare_word ∷ w ∷ [])) (apart (minute % 1440) 0 (omega (arith, here, after)))

    begun_first : Begun 16 (with_day_from size minute w days)
    begun_first = record {
      base = fitting (size - (12 + 2 * length (words_from minute w))) days;
      young = young_day;
      is = refl;
      left = remain_weaker (size - (12 + 2 * length (words_from minute w))) (size - 16) days (fitting (size - (12 + 2 * length (words_from minute w))) days) (omega (arith, few_words minute w))
          (remain_fitting (size - (12 + 2 * length (words_from minute w))) days);
      few = omega (arith, few_words minute w);
      date = on_mark;
      first = cut_first mark young_day bare_word w on_mark two refl (omega (arith, at, here, after));
    }

    -- the first entry by hand, where the minute's day is new
    begins : is_newest (minute / 1440) (sizes days) ≡ false → (kept : List Day) → (Remain (size - word_len minute w days) days kept) ⊎ (kept ≡ with_word_at size minute w days) → BeginsOver size mark 16 days kept
    begins new kept moment = ⊎_elim
        (λ gone. inl (remain_weaker (size - (12 + 2 * length (words_from minute w))) (size - 16) days kept (omega (arith, few_words minute w))
        (subst (λ (n : ℕ). Remain (size - n) days kept) (ap (λ (b : Bool). cond b 2 (12 + 2 * length (words_from minute w))) new) gone)))
        (λ done. inr (subst (λ (l : List Day). Begun 16 l) (sym (done ∙ ap (λ (b : Bool). cond b (with_change size w days) (with_day_from size minute w days)) new)) begun_first)) moment

    -- each further one
    begun_next : (bytes : ℕ) (over : List Day) → bytes ≤ 30 → is_newest (minute / 1440) (sizes over) ≡ true → Begun bytes over → (kept : List Day)
        → (Remain (size - word_len minute w over) over kept) ⊎ (kept ≡ with_word_at size minute w over) → Begun (bytes + 2) kept
    begun_next bytes over few newest o kept moment = ⊎_elim
        (λ gone. begun_drops bytes 2 over kept (omega (arith, few)) (omega arith) o (subst (λ (n : ℕ). Remain (size - n) over kept) (ap (λ (b : Bool). cond b 2 (12 + 2 * length (words_from minute w))) newest) gone))
        (λ done. subst (λ (l : List Day). Begun (bytes + 2) l) (sym (done ∙ ap (λ (b : Bool). cond b (with_change size w over) (with_day_from size minute w over)) newest))
        (begun_word bytes w over (omega (arith, few)) (omega (arith, at, here, after)) o)) moment

  -- ---- THE ENTRY of the keep behind them, before its end mark moves

  module _ (bytes : ℕ) (over : List Day) (few : bytes ≤ 30) (o : IsBegunOver size mark bytes days over) (e : Entry) (after : mark < e.minute) (here : e.minute / 1440 ≡ mark / 1440) (newest : is_newest (e.minute / 1440) (sizes over) ≡ true) where
    begun_still : Begun (bytes + 2) over
    begun_still = begun_drops bytes 2 over over (omega (arith, few)) (omega arith) o (remain_all (size - 2) over)

    begun_words : (kept : List Day) → IsBeforeWords size e over kept → Begun (bytes + 2) kept
    begun_words kept moment = ⊎_elim
        (λ same. subst (λ (l : List Day). Begun (bytes + 2) l) (sym same) begun_still)
        (λ gone. begun_drops bytes 2 over kept (omega (arith, few)) (omega arith) o (subst (λ (n : ℕ). Remain (size - n) over kept) (ap (λ (b : Bool). cond b 2 (12 + 2 * length (day_words e))) newest) gone.1))
        moment

    begun_entered : Begun (bytes + 2) (entered_days size e over)
    begun_entered = subst (λ (b : Bool). Begun (bytes + 2) (cond b (cond (tells_state e over) over (with_change size (entry_word e) over)) (with_new_day size e over))) (sym newest) (by (tells_state e over))
      where
        by : (t : Bool) → Begun (bytes + 2) (cond t over (with_change size (entry_word e) over))
        by true = begun_still
        by false = begun_word bytes (entry_word e) over (omega (arith, few)) (omega (arith, entry_minute e, here, after)) o

-- ---- UP TO THE MARK

module _ (size mark : ℕ) (long : 5544 ≤ size) (days : List Day) (are_days : AreDays 0 days) (low : AllBefore (mark / 1440) (sizes days)) where
  on_mark_of : (bytes : ℕ) (over : List Day) → (o : IsBegunOver size mark bytes days over) → IsBegunOn mark o.base o.young
  on_mark_of bytes over o = record {
    are = are_left (size - bytes) days o.base o.left are_days;
    before = before_left (mark / 1440) (size - bytes) days o.base o.left low;
    date = o.date;
    first = o.first;
  }

  -- the words of the newest day still rise
  strict_over : (bytes : ℕ) (over : List Day) → bytes ≤ 32 → BeginsOver size mark bytes days over → EndsStrictly (trimmed mark days) → EndsStrictly (trimmed mark over)
  strict_over bytes over few moment strict = ⊎_elim
      (λ gone. (strict_survives mark).drops (size - bytes) days over (omega (arith, long, few)) are_days gone strict)
      (λ o. subst (λ (ds : List Day). EndsStrictly (trimmed mark ds)) (sym o.is) (begun_strict mark o.base o.young (on_mark_of bytes over o))) moment

  -- no minute of the day that is begun tells an entry
  begun_none : (bytes : ℕ) (over : List Day) → (o : IsBegunOver size mark bytes days over) → AreDays 0 over → day_entries mark o.young ≡ []
  begun_none bytes over o whole =
      sym (cut_entries mark o.young (last_day o.base o.young 0 (subst (λ (ds : List Day). AreDays 0 ds) o.is whole)))
      ∙ none_day mark (cut mark o.young) (λ t le. ap (λ (ws : List ℕ). told_by ((cut mark o.young).date / 60 + t) (latest ws t)) o.first ∙ bare_tells ((cut mark o.young).date / 60 + t) t)
    where
      last_day : (ds : List Day) (d : Day) (date : ℕ) → AreDays date (ds ++ d ∷ []) → IsDay d
      last_day [] d date whole = whole.1
      last_day (f ∷ ds) d date whole = last_day ds d f.date whole.2

  begun_lists : (bytes : ℕ) (over : List Day) (all : List Entry) → IsBegunOver size mark bytes days over → AreDays 0 over → entries_in (begun_on (mark / 1440) ∷ []) all ≡ [] → Lists mark all days → Lists mark all over
  begun_lists bytes over all o whole empty lists =
      let on : (size_day o.young).day ≡ mark / 1440 = omega (arith, o.date) in
      subst (λ (ds : List Day). Lists mark all ds) (sym o.is)
      (entries_more mark o.base o.young (begun_none bytes over o whole) ∙ lists_left mark (size - bytes) 0 all days o.base are_days o.left lists
      ∙ sym (ap (λ (ws : List WordDay). entries_in ws all) (sizes_append o.base (o.young ∷ [])) ∙ entries_same (mark / 1440) (sizes o.base) (size_day o.young) on all empty))

-- ---- A CARD, at a moment of the first entry by hand

-- a minute of the day of the one behind it
pub first_fresh : (s : Session) (before : ℕ) (h : Manual) (hs : List Manual) (x : List ℕ) → IsFreshFor s before x → AreHandsOf s before (h ∷ hs) → IsFreshFor s h.minute x
first_fresh s before h hs x fresh hands = record {
  sizes = fresh.sizes;
  knows = fresh.knows;
  later = hands.lie.0;
  new = subst (λ (k : ℕ). is_newest k (sizes (card_days s.application x)) ≡ false) (sym hands.day.0) fresh.new;
  day = hands.day.0 ∙ fresh.day;
}

module _ (s : Session) (h : Manual) (x y : List ℕ) (fresh : IsFreshFor s h.minute x) (now : IsCardEntering s h x y) where
  abbrev app : Application
  app = s.application

  abbrev mark : ℕ
  mark = end_mark s.application x

  are_x : AreDays 0 (card_days s.application x)
  are_x = subst (λ (ds : List Day). AreDays 0 ds) (book_days s.application x) (days_there s x fresh.knows)

  are_y : AreDays 0 (card_days s.application y)
  are_y = subst (λ (ds : List Day). AreDays 0 ds) (book_days s.application y) now.card.holds.ordered

  same_mark : end_mark s.application y ≡ end_mark s.application x
  same_mark = (same_moment x s h x y now (same_first s.application x)).mark

  after : end_mark s.application x < h.minute
  after = omega (arith, late_of s x h.minute fresh.knows fresh.later, mark_told s.application x)

  word_low : newest_word (card_days s.application x) < h.minute
  word_low = subst (λ (ds : List Day). newest_word ds < h.minute) (book_days s.application x) (omega (arith, fresh.later, fresh.knows.minute))

  low : AllBefore (end_mark s.application x / 1440) (sizes (card_days s.application x))
  low = subst (λ (k : ℕ). AllBefore k (sizes (card_days s.application x))) fresh.day (all_before (h.minute / 1440) h.minute 0 (card_days s.application x) are_x word_low refl fresh.new)

  abbrev Moment : List Day → List Day → Type 0
  Moment ds kept = (Remain (s.application.activity - word_len h.minute (manual_word h) ds) ds kept) ⊎ (kept ≡ with_word_at s.application.activity h.minute (manual_word h) ds)

  begun_moment : BeginsOver s.application.activity (end_mark s.application x) 16 (card_days s.application x) (card_days s.application y)
  begun_moment =
      subst (λ (ds : List Day). BeginsOver s.application.activity (end_mark s.application x) 16 (card_days s.application x) ds) (book_days s.application y)
      (begins s.application.activity (end_mark s.application x) fresh.sizes.string_least (card_days s.application x) h.minute (manual_word h) (minute_is h) after fresh.day fresh.new (book_of s.application y).days
      (subst (λ (ds : List Day). Moment ds (book_of s.application y).days) (book_days s.application x) now.card.told.0))

  fresh_valid : MayBeValid s.application x → IsValid s.application y
  fresh_valid was =
      let open_ = some_open s.application x was.session in
      valid_open s.application x was.valid fresh.sizes was.fits y _ now.card open_
      (subst (λ (m : ℕ). EndsStrictly (trimmed m (card_days s.application y))) (sym same_mark)
      (strict_over s.application.activity (end_mark s.application x) fresh.sizes.string_least (card_days s.application x) are_x low 16 (card_days s.application y) (omega arith) begun_moment
      (valid_strict s.application x was.valid are_x open_)))

-- behind it, where its day is begun
module _ (s t : Session) (h : Manual) (x z : List ℕ) (fresh : IsFreshFor s h.minute x) (follows : Follows s t h) (done : IsCardByHand s t h x z) where
  now_done : IsCardEntering s h x z
  now_done = ended s t h x z done

  begun_there : IsBegunOver s.application.activity (end_mark s.application x) 16 (card_days s.application x) (card_days s.application z)
  begun_there =
      let days : card_days s.application z ≡ with_word_at s.application.activity h.minute (manual_word h) (card_days s.application x) =
      sym (book_days s.application z) ∙ done.card.told.0 ∙ ap (with_word_at s.application.activity h.minute (manual_word h)) (book_days s.application x) in
      subst (λ (ds : List Day). IsBegunOver s.application.activity (end_mark s.application x) 16 (card_days s.application x) ds)
      (sym (days ∙ ap (λ (b : Bool). cond b (with_change s.application.activity (manual_word h) (card_days s.application x)) (with_day_from s.application.activity h.minute (manual_word h) (card_days s.application x))) fresh.new))
      (begun_first s.application.activity (end_mark s.application x) fresh.sizes.string_least (card_days s.application x) h.minute (manual_word h) (minute_is h) (after s h x z fresh now_done) fresh.day)

  valid_there : MayBeValid s.application x → MayBeValid t.application z
  valid_there was =
      let same = same_moment x s h x z now_done (same_first s.application x) in
      subst (λ (a : Application). MayBeValid a z) (sym follows.application)
      (record {
        fits = omega (arith, was.fits, now_done.card.outside.same_length);
        session = subst (λ (n : ℕ). 0 < n) (sym same.session) was.session;
        valid = fresh_valid s h x z fresh now_done was;
      })

  shown_there : (all : List Entry) → entries_in (begun_on (end_mark s.application x / 1440) ∷ []) all ≡ [] → ShowsEntries s.application all x → ShowsEntries t.application all z
  shown_there all empty shown =
      subst (λ (a : Application). ShowsEntries a all z) (sym follows.application)
      (subst (λ (m : ℕ). Lists m all (card_days s.application z)) (sym (same_mark s h x z fresh now_done))
      (begun_lists s.application.activity (end_mark s.application x) fresh.sizes.string_least (card_days s.application x) (are_x s h x z fresh now_done) (low s h x z fresh now_done) 16 (card_days s.application z) all begun_there (are_y s h x z fresh now_done) empty shown))

  silent_there : IsSilentBehind (end_mark s.application x) (card_days s.application x) → IsSilentBehind (end_mark t.application z) (card_days t.application z)
  silent_there silent =
      subst (λ (a : Application). IsSilentBehind (end_mark a z) (card_days a z)) (sym follows.application) (silent_stays s h x z now_done (same_mark s h x z fresh now_done) silent)

-- ---- VALIDITY, whether the minute's day is new or not

differ : true ≡ false → ⊥
differ e = cc

-- a day of a minute behind the end mark is later than the mark's, or it is that one
pub follow_or_fresh : (s : Session) (minute : ℕ) (x : List ℕ) → MayCome s minute x → MayFollow s minute x ⊎ IsFreshFor s minute x
follow_or_fresh s minute x may = by (is_newest (minute / 1440) (sizes (card_days s.application x))) refl (nat_lt (end_mark s.application x / 1440) (minute / 1440)) refl
  where
    lt_of : (m n : ℕ) → nat_lt m n ≡ true → m < n
    lt_of m n is = grind (arith, nat_tests)

    ge_of : (m n : ℕ) → nat_lt m n ≡ false → n ≤ m
    ge_of m n is = grind (arith, nat_tests)

    behind_mark : end_mark s.application x < minute
    behind_mark = omega (arith, late_of s x minute may.knows may.later, mark_told s.application x)

    by : (n : Bool) → is_newest (minute / 1440) (sizes (card_days s.application x)) ≡ n → (l : Bool) → nat_lt (end_mark s.application x / 1440) (minute / 1440) ≡ l → MayFollow s minute x ⊎ IsFreshFor s minute x
    by true new l less = inl (record { sizes = may.sizes; knows = may.knows; later = may.later; clear = λ other. absurd (differ (sym new ∙ other)) })
    by false new true less = inl (record { sizes = may.sizes; knows = may.knows; later = may.later; clear = λ other. lt_of (end_mark s.application x / 1440) (minute / 1440) less })
    by false new false less =
        let ge = ge_of (end_mark s.application x / 1440) (minute / 1440) less in
        inr (record { sizes = may.sizes; knows = may.knows; later = may.later; new = new; day = omega (arith, ge, behind_mark) })

-- a first keep without an entry by hand is a keep
pub alone : (s : Session) (e : Entry) (odometer : ℕ) (x y : List ℕ) → IsFirstKeeping s [] e odometer x y → IsCardKeeping s e odometer x y
alone s e odometer x y (inl entering) = absurd entering
alone s e odometer x y (inr behind) =
    subst (λ (q : Session). IsCardKeeping q e odometer x y) behind.entered.0 (subst (λ (l : List ℕ). IsCardKeeping behind.between e odometer l y) behind.entered.1 behind.keeping)

keep_stays_valid : (s : Session) (e : Entry) (odometer : ℕ) (x y : List ℕ) → MayCome s e.minute x → MayBeValid s.application x → IsCardKeeping s e odometer x y → IsValid s.application y
keep_stays_valid s e odometer x y may was keeping =
    keep_valid s.application may.sizes x was.fits was.valid was.session (days_there s x may.knows) s.registration odometer (grown s.odometer odometer) e y (asked_at s x e.minute may.later may.knows) keeping.card

fresh_all_valid : (s : Session) (h : Manual) (hs : List Manual) (e : Entry) (odometer : ℕ) (x y : List ℕ) → IsFreshFor s e.minute x → AreHandsOf s e.minute (h ∷ hs) → MayBeValid s.application x → IsFirstKeeping s (h ∷ hs) e odometer x y → IsValid s.application y
fresh_all_valid s h hs e odometer x y fresh hands was keeping = ⊎_elim
    (λ now. fresh_valid s h x y (first_fresh s e.minute h hs x fresh hands) now was)
    (λ b. app_of (λ a l. IsValid a l) s.application b.next.application y b.follows.application
    (follow_valid b.next hs e odometer b.card y (behind_one s b.next e.minute h hs x b.card fresh.sizes hands b.follows b.done) (rest_hands s b.next e.minute h hs hands b.follows)
    (valid_there s b.next h x b.card (first_fresh s e.minute h hs x fresh hands) b.follows b.done was) b.keeping))
    (first_or_behind s h hs e odometer x y keeping)

pub first_valid : (s : Session) (hs : List Manual) (e : Entry) (odometer : ℕ) (x y : List ℕ) → MayCome s e.minute x → AreHandsOf s e.minute hs → MayBeValid s.application x → IsFirstKeeping s hs e odometer x y → IsValid s.application y
first_valid s [] e odometer x y may hands was keeping = keep_stays_valid s e odometer x y may was (alone s e odometer x y keeping)
first_valid s (h ∷ hs) e odometer x y may hands was keeping = ⊎_elim
    (λ follow. follow_valid s (h ∷ hs) e odometer x y follow hands was keeping)
    (λ fresh. fresh_all_valid s h hs e odometer x y fresh hands was keeping) (follow_or_fresh s e.minute x may)

-- ---- THE MINUTE'S OWN ENTRY, once the end mark has moved

pub fresh_entry : (s : Session) (h : Manual) (hs : List Manual) (e : Entry) (odometer : ℕ) (x y : List ℕ) → IsFreshFor s e.minute x → AreHandsOf s e.minute (h ∷ hs) → IsSilentBehind (end_mark s.application x) (card_days s.application x)
    → (all : List Entry) → entries_in (begun_on (end_mark s.application x / 1440) ∷ []) all ≡ [] → AllUpTo (end_mark s.application x) all → ShowsEntries s.application all x → IsFirstKeeping s (h ∷ hs) e odometer x y → end_mark s.application y ≡ e.minute
    → ShowsEntries s.application (all ++ e ∷ []) y
fresh_entry s h hs e odometer x y fresh hands silent all empty up shown keeping at = ⊎_elim
    (λ now.
    let same = (same_moment x s h x y now (same_first s.application x)).mark in
    absurd (omega (arith, at, same, late_of s x e.minute fresh.knows fresh.later, mark_told s.application x)))
    (λ b.
    let first = first_fresh s e.minute h hs x fresh hands in
    let t = b.next in
    let same = (same_moment x s h x b.card (ended s b.next h x b.card b.done) (same_first s.application x)).mark in
    app_of (λ a l. ShowsEntries a (all ++ e ∷ []) l) s.application b.next.application y b.follows.application
    (first_entry b.next hs e odometer b.card y (behind_one s b.next e.minute h hs x b.card fresh.sizes hands b.follows b.done) (rest_hands s b.next e.minute h hs hands b.follows)
    (silent_there s b.next h x b.card first b.follows b.done silent) all (subst (λ (a : Application). AllUpTo (end_mark a b.card) all) (sym b.follows.application) (subst (λ (m : ℕ). AllUpTo m all) (sym same) up))
    (shown_there s b.next h x b.card first b.follows b.done all empty shown) b.keeping (subst (λ (a : Application). end_mark a y ≡ e.minute) (sym b.follows.application) at)))
    (first_or_behind s h hs e odometer x y keeping)

-- ---- BEFORE THE END MARK MOVES

-- the keep of the minute behind them
module _ (app : Application) (sound : IsApplication app) (x : List ℕ) (ordered : AreDays 0 (book_of app x).days) (e : Entry) (registration : Registration) (odometer more : ℕ) (y : List ℕ) (before : IsBeforeGapOf e.minute (book_of app x))
    (card : IsCard app (IsKeepMoment app.activity registration odometer more e (book_of app x)) x y) (same : end_mark app y ≡ end_mark app x) (newest : is_newest (e.minute / 1440) (sizes (card_days app x)) ≡ true) (shut : is_open (end_mark app x) (card_days app x) ≡ false)
    (days : List Day) (bytes : ℕ) (few : bytes ≤ 30) (o : IsBegunOver app.activity (end_mark app x) bytes days (card_days app x)) (here : e.minute / 1440 ≡ end_mark app x / 1440) where
  abbrev gapped : List Day
  gapped = gap_closed app.activity (mark_of (book_of app x)) e.minute (book_of app x).days

  abbrev There : List Day → Type 0
  There kept = IsBegunOver app.activity (end_mark app x) (bytes + 2) days kept

  gap_is : gapped ≡ card_days app x
  gap_is = base_is app sound x ordered e registration odometer more y before card same newest shut

  behind_mark : end_mark app x < e.minute
  behind_mark = late app sound x ordered e registration odometer more y before card same newest shut

  with_it : There (entered_days app.activity e gapped)
  with_it = subst (λ (l : List Day). There (entered_days app.activity e l)) (sym gap_is) (begun_entered app.activity (end_mark app x) sound.string_least days bytes (card_days app x) few o e behind_mark here newest)

  words_then : (kept : List Day) → IsBeforeWords app.activity e (card_days app x) kept → There kept
  words_then kept words = begun_words app.activity (end_mark app x) sound.string_least days bytes (card_days app x) few o e behind_mark here newest kept words

  moment_then : (kept : List Day) → IsBeforeMark app.activity (book_of app x) (with_entry app.activity registration odometer more (book_of app x) e) e kept → There kept
  moment_then kept moment = ⊎_elim
      (λ gap. ⊎_elim
      (λ unchanged. subst There (sym (unchanged ∙ book_days app x)) (words_then (card_days app x) (inl refl)))
      (λ gone. absurd (differ (sym gone.0 ∙ shut_there app sound x ordered e registration odometer more y before card same newest shut))) gap)
      (λ rest. ⊎_elim
      (λ words. words_then kept (subst (λ (l : List Day). IsBeforeWords app.activity e l kept) gap_is words))
      (λ last. ⊎_elim
      (λ word. subst There (sym word) with_it)
      (λ km. subst There (sym km) (begun_km app.activity (end_mark app x) sound.string_least days (bytes + 2) more (entered_days app.activity e gapped) with_it))
      last) rest) moment

  keep_begun : There (card_days app y)
  keep_begun = subst There (book_days app y) (moment_then (book_of app y).days (still app sound x ordered e registration odometer more y before card same newest shut))

-- on the day of the mark, behind some of the entries by hand
record LiesBegun (first : List ℕ) (bytes : ℕ) (s : Session) (before : ℕ) (l : List ℕ) : Type 0 where
  pub may : MayFollow s before l
  pub same : IsSame first s.application l
  pub newest : is_newest (before / 1440) (sizes (card_days s.application l)) ≡ true
  pub shut : is_open (end_mark s.application l) (card_days s.application l) ≡ false
  pub here : before / 1440 ≡ end_mark s.application first / 1440
  pub begun : IsBegunOver s.application.activity (end_mark s.application first) bytes (card_days s.application first) (card_days s.application l)

-- a moment of one more
begun_at : (first : List ℕ) (bytes : ℕ) (s : Session) (before : ℕ) (e : Manual) (es : List Manual) (x c : List ℕ) → bytes ≤ 30 → LiesBegun first bytes s before x → AreHandsOf s before (e ∷ es) → IsCardEntering s e x c
    → IsBegunOver s.application.activity (end_mark s.application first) (bytes + 2) (card_days s.application first) (card_days s.application c)
begun_at first bytes s before e es x c few was hands now =
    subst (λ (ds : List Day). IsBegunOver s.application.activity (end_mark s.application first) (bytes + 2) (card_days s.application first) ds) (book_days s.application c)
    (begun_next s.application.activity (end_mark s.application first) was.may.sizes.string_least (card_days s.application first) e.minute (manual_word e) (minute_is e)
    (omega (arith, late_of s x e.minute was.may.knows hands.lie.0, mark_told s.application x, was.same.mark)) (hands.day.0 ∙ was.here) bytes (card_days s.application x) few
    (subst (λ (k : ℕ). is_newest k (sizes (card_days s.application x)) ≡ true) (sym hands.day.0) was.newest) was.begun (book_of s.application c).days
    (subst (λ (ds : List Day). (Remain (s.application.activity - word_len e.minute (manual_word e) ds) ds (book_of s.application c).days) ⊎ ((book_of s.application c).days ≡ with_word_at s.application.activity e.minute (manual_word e) ds)) (book_days s.application x) now.card.told.0))

begun_step : (first : List ℕ) (bytes : ℕ) (s t : Session) (before : ℕ) (e : Manual) (es : List Manual) (x z : List ℕ) → bytes ≤ 30 → LiesBegun first bytes s before x → AreHandsOf s before (e ∷ es) → Follows s t e → IsCardByHand s t e x z → LiesBegun first (bytes + 2) t before z
begun_step first bytes s t before e es x z few was hands follows done =
    let now = ended s t e x z done in
    let ends = ends_on t e.minute before hands.day.0 follows.ends in
    record {
      may = behind_one s t before e es x z was.may.sizes hands follows done;
      same = subst (λ (a : Application). IsSame first a z) (sym follows.application) (same_moment first s e x z now was.same);
      newest = newest_known t before z done.knows ends;
      shut = shut_known t before (end_mark t.application z) z done.knows ends;
      here = was.here ∙ ap (λ (a : Application). end_mark a first / 1440) (sym follows.application);
      begun = subst (λ (a : Application). IsBegunOver a.activity (end_mark a first) (bytes + 2) (card_days a first) (card_days a z)) (sym follows.application) (begun_at first bytes s before e es x z few was hands now);
    }

-- behind the first
begun_one : (s t : Session) (before : ℕ) (e : Manual) (es : List Manual) (x z : List ℕ) → IsFreshFor s before x → AreHandsOf s before (e ∷ es) → Follows s t e → IsCardByHand s t e x z → LiesBegun x 16 t before z
begun_one s t before e es x z fresh hands follows done =
    let ends = ends_on t e.minute before hands.day.0 follows.ends in
    record {
      may = behind_one s t before e es x z fresh.sizes hands follows done;
      same = subst (λ (a : Application). IsSame x a z) (sym follows.application) (same_moment x s e x z (ended s t e x z done) (same_first s.application x));
      newest = newest_known t before z done.knows ends;
      shut = shut_known t before (end_mark t.application z) z done.knows ends;
      here = fresh.day ∙ ap (λ (a : Application). end_mark a x / 1440) (sym follows.application);
      begun = subst (λ (a : Application). IsBegunOver a.activity (end_mark a x) 16 (card_days a x) (card_days a z)) (sym follows.application) (begun_there s t e x z (first_fresh s before e es x fresh hands) follows done);
    }

-- fewer bytes are so many
wider : (size mark bytes : ℕ) (days over : List Day) → bytes ≤ 32 → IsBegunOver size mark bytes days over → IsBegunOver size mark 32 days over
wider size mark bytes days over few o = record {
  base = o.base;
  young = o.young;
  is = o.is;
  left = remain_weaker (size - bytes) (size - 32) days o.base (omega (arith, few)) o.left;
  few = omega (arith, few, o.few);
  date = o.date;
  first = o.first;
}

module _ (first : List ℕ) (before : ℕ) where
  abbrev InEnd : Application → List ℕ → Type 0
  InEnd a l = IsBegunOver a.activity (end_mark a first) 32 (card_days a first) (card_days a l)

  begun_moments : (es : List Manual) (bytes : ℕ) (s : Session) (x c : List ℕ) → bytes + 2 * length es ≤ 30 → LiesBegun first bytes s before x → AreHandsOf s before es → IsEntering es s x c → InEnd s.application c
  begun_moments [] bytes s x c few was hands entering = absurd entering
  begun_moments (e ∷ es) bytes s x c few was hands (inl now) =
      wider s.application.activity (end_mark s.application first) (bytes + 2) (card_days s.application first) (card_days s.application c) (omega (arith, few)) (begun_at first bytes s before e es x c (omega (arith, few)) was hands now)
  begun_moments (e ∷ es) bytes s x c few was hands (inr behind) =
      app_of InEnd s.application behind.0.application c behind.2.application
      (begun_moments es (bytes + 2) behind.0 behind.1 c (omega (arith, few)) (begun_step first bytes s behind.0 before e es x behind.1 (omega (arith, few)) was hands behind.2 behind.3) (rest_hands s behind.0 before e es hands behind.2) behind.4)

  begun_kept : (es : List Manual) (bytes : ℕ) (s last : Session) (x y : List ℕ) (e : Entry) (odometer : ℕ) (c : List ℕ) → e.minute ≡ before → bytes + 2 * length es ≤ 30 → LiesBegun first bytes s before x → AreHandsOf s before es → AreEntered es s last x y
      → IsCardKeeping last e odometer y c → end_mark last.application c ≡ end_mark last.application first → InEnd last.application c
  begun_kept [] bytes s last x y e odometer c at few was hands entered keeping same =
      let w = subst (λ (q : Session). LiesBegun first bytes q before y) (sym entered.0) (subst (λ (l : List ℕ). LiesBegun first bytes s before l) (sym entered.1) was) in
      let may = subst (λ (m : ℕ). MayFollow last m y) (sym at) w.may in
      let mark : end_mark last.application first ≡ end_mark last.application y = sym w.same.mark in
      let kept : IsBegunOver last.application.activity (end_mark last.application y) (bytes + 2) (card_days last.application first) (card_days last.application c) =
      keep_begun last.application may.sizes y (days_there last y may.knows) e last.registration odometer (grown last.odometer odometer) c (asked_at last y e.minute may.later may.knows) keeping.card (same ∙ mark)
      (subst (λ (m : ℕ). is_newest (m / 1440) (sizes (card_days last.application y)) ≡ true) (sym at) w.newest) w.shut (card_days last.application first) bytes (omega (arith, few))
      (subst (λ (m : ℕ). IsBegunOver last.application.activity m bytes (card_days last.application first) (card_days last.application y)) mark w.begun)
      (ap (λ (m : ℕ). m / 1440) at ∙ w.here ∙ ap (λ (m : ℕ). m / 1440) mark) in
      wider last.application.activity (end_mark last.application first) (bytes + 2) (card_days last.application first) (card_days last.application c) (omega (arith, few))
      (subst (λ (m : ℕ). IsBegunOver last.application.activity m (bytes + 2) (card_days last.application first) (card_days last.application c)) (sym mark) kept)
  begun_kept (h ∷ es) bytes s last x y e odometer c at few was hands entered keeping same =
      begun_kept es (bytes + 2) entered.0 last entered.1 y e odometer c at (omega (arith, few)) (begun_step first bytes s entered.0 before h es x entered.1 (omega (arith, few)) was hands entered.2 entered.3)
      (rest_hands s entered.0 before h es hands entered.2) entered.4 keeping same

pub first_begins : (s : Session) (h : Manual) (hs : List Manual) (e : Entry) (odometer : ℕ) (x y : List ℕ) → IsFreshFor s e.minute x → AreHandsOf s e.minute (h ∷ hs) → length hs < 8 → IsFirstKeeping s (h ∷ hs) e odometer x y
    → end_mark s.application y ≡ end_mark s.application x → BeginsOver s.application.activity (end_mark s.application x) 32 (card_days s.application x) (card_days s.application y)
first_begins s h hs e odometer x y fresh hands few (inl (inl now)) same = ⊎_elim
    (λ gone. inl (remain_weaker (s.application.activity - 16) (s.application.activity - 32) (card_days s.application x) (card_days s.application y) (omega arith) gone))
    (λ o. inr (wider s.application.activity (end_mark s.application x) 16 (card_days s.application x) (card_days s.application y) (omega arith) o))
    (begun_moment s h x y (first_fresh s e.minute h hs x fresh hands) now)
first_begins s h hs e odometer x y fresh hands few (inl (inr behind)) same =
    inr (app_of (InEnd x e.minute) s.application behind.0.application y behind.2.application
    (begun_moments x e.minute hs 16 behind.0 behind.1 y (omega (arith, few)) (begun_one s behind.0 e.minute h hs x behind.1 fresh hands behind.2 behind.3) (rest_hands s behind.0 e.minute h hs hands behind.2) behind.4))
first_begins s h hs e odometer x y fresh hands few (inr behind) same =
    let is = (past_same s (h ∷ hs) e odometer x y behind).1 in
    let one = behind.entered in
    inr (app_of (InEnd x e.minute) s.application behind.between.application y is
    (begun_kept x e.minute hs 16 one.0 behind.between one.1 behind.card e odometer y refl (omega (arith, few)) (begun_one s one.0 e.minute h hs x one.1 fresh hands one.2 one.3) (rest_hands s one.0 e.minute h hs hands one.2) one.4
    behind.keeping (subst (λ (a : Application). end_mark a y ≡ end_mark a x) (sym is) same)))
