-- A card at the start of a run: nothing has come yet.
use Rattle.std.proofs.Common.{◌≡◌, ◌⊎◌, inl, inr, ⊎_elim, ℕ, suc, ◌*◌, ◌/◌, ◌<◌, ◌≤◌, Bool, true, false, cond, ◌&&◌, max, None, List, [], ◌∷◌, ◌++◌, refl, sym, ◌∙◌, ap, subst, arith}
use Rattle.std.specs.Prelude.{nat_eq, nat_lt, nat_le}
use Rattle.std.proofs.lemmas.Bool.{cases_lt}
use Rattle.std.proofs.lemmas.Bool.Decides.{nat_tests}
use Rattle.std.proofs.lemmas.List.{append-nil}
use Rattle.card_by_hand.specs.activity_codec.declared.entries.Entry.{Entry}
use Rattle.card_by_hand.specs.activity_codec.declared.entries.Manual.{Manual}
use Rattle.card_by_hand.specs.activity_codec.declared.values.Activity.TheVariants.{Rest}
use Rattle.card_by_hand.specs.activity_codec.declared.values.Slot.TheVariants.{Driver}
use Rattle.card_by_hand.specs.activity_codec.Words.{word_absent}
use Rattle.tach_media.specs.card_layout.declared.files.Application.{Application}
use Rattle.card_by_hand.specs.card_model.Days.{Day, AreDays, last_word}
use Rattle.card_by_hand.specs.card_model.Changes.{OnNewest, trimmed}
use Rattle.card_by_hand.specs.card_model.Checks.{first_failing}
use Rattle.card_by_hand.specs.card_model.Image.{oldest_pointer}
use Rattle.card_by_hand.proofs.card_model.Ascending.{words_ascend}
use Rattle.card_by_hand.proofs.card_model.Judging.{both_pass}
use Rattle.card_by_hand.proofs.card_model.Trims.{are_trimmed, trimmed_twice}
use Rattle.card_by_hand.specs.card_retention.Expected.{WordDay, more, is_newest, Counted}
use Rattle.card_by_hand.specs.card_retention.Entries.{entries_up_to, last_entry, newest_word, EndsBy, IsChecked}
use Rattle.card_by_hand.specs.card_retention.Retains.{entries_in}
use Rattle.card_by_hand.specs.card_retention.Shown.{Bound, InDays, AllIn, AllUpTo, EndsAbsent, IsFull, Rests, sizes, size_day, is_open, owing}
use Rattle.card_by_hand.proofs.card_retention.Checked.{closed_lives}
use Rattle.card_by_hand.proofs.card_retention.Growing.{in_more, still_in}
use Rattle.card_by_hand.proofs.card_retention.ListTrims.{entries_trimmed, ends_flat}
use Rattle.card_by_hand.proofs.card_retention.Retaining.{day_in}
use Rattle.card_by_hand.proofs.card_retention.Starting.{start_of, start_bound, starts, entries_by, entries_there}
use Rattle.card_by_hand.specs.card_image.Fields.{day_string, card_days, end_mark, session_time}
use Rattle.card_by_hand.specs.card_image.Judging.{days_placed, words_behind_mark, IsValid}
use Rattle.card_by_hand.specs.card_image.Own.{own_sizes, own_view, own_covered, most_slack}
use Rattle.card_by_hand.specs.card_image.View.{card_view, counting}
use Rattle.card_by_hand.specs.hand_model.AtStart.{marked_at, all_at, AreFirst}
use Rattle.card_by_hand.specs.hand_model.ByHand.{words_by_hand, by_hand_up_to, TellsHands, HandsUpTo}
use Rattle.card_by_hand.specs.hand_model.Written.{no_hands, counted_by}
use Rattle.card_by_hand.proofs.hand_model.Cuts.{told_trimmed, tells_own, up_told}
use Rattle.card_by_hand.proofs.hand_model.Told.{AllDay, words_day}
use Rattle.card_by_hand.specs.card_session.Inserting.{Follow}
use Rattle.card_by_hand.specs.card_session.Overwriting.{IsSilentBehind}
use Rattle.card_by_hand.specs.card_session.Repairs.{first_minute}
use Rattle.card_by_hand.proofs.card_session.InsertingBooks.{trimmed_low}
use Rattle.card_by_hand.proofs.card_session.InsertingValid.{closed_by_words}
use Rattle.card_by_hand.proofs.card_session.Valid.{valid_words}
use Rattle.card_string.specs.Since.{HasOn, day_marks, all_since, bound_since, counted_since, last_of, AllOnDays, TellsSince, IsTied, HoldsSince}
use Rattle.card_string.proofs.Deeds.{made_start}
use Rattle.card_string.proofs.Since.{tied_wider}
use Rattle.card_string.proofs.BehindMark.{quiet_all}
use Rattle.card_string.proofs.Clear.{newest_is}
use Rattle.card_string.proofs.Lists.{up_both}
use Rattle.card_string.proofs.Replayed.{follow_first}

-- ---- further entries are carried, whose days are there

all_from : (o : ℕ) (es : List Entry) (ws : List WordDay) → AllIn 0 es ws → AllIn o es ws
all_from o [] ws all = tt
all_from o (e ∷ es) ws all = (λ le. all.0 (omega arith), all_from o es ws all.1)

in_owing : (n mark : ℕ) (ds : List Day) (k : ℕ) → InDays k (sizes ds) → InDays k (owing n mark ds)
in_owing n mark ds k i = by (is_open mark ds && nat_lt (suc mark) n)
  where
    by : (o : Bool) → InDays k (cond o (more (sizes ds)) (sizes ds))
    by true = in_more k (sizes ds) i
    by false = i

rests_all : (size : ℕ) (slack wider : Bound) (covered from mark : ℕ) (c : Counted) (ds : List Day) → wider.bytes ≡ slack.bytes → AllUpTo mark wider.all → AllIn 0 wider.all (sizes ds) → Rests size slack covered from mark c ds → Rests size wider covered from mark c ds
rests_all size slack wider covered from mark c ds bytes up all r = record {
  ordered = r.ordered;
  rising = r.rising;
  filled = r.filled;
  top = r.top;
  words = r.words;
  entry = r.entry;
  low = r.low;
  next = r.next;
  later = r.later;
  by_mark = up;
  tells = r.tells;
  shows = λ n le. let s = r.shows n le in record {
    gone = s.gone;
    there = s.there;
    split = s.split;
    covers = s.covers;
    full = subst (λ (b : ℕ). IsFull size b s.gone s.there) (sym bytes) s.full;
    some = s.some;
    oldest = s.oldest;
    low = s.low;
    high = s.high;
    none = s.none;
    whole = all_from s.oldest wider.all (owing n mark ds) (still_in (sizes ds) (owing n mark ds) (λ k i. in_owing n mark ds k i) 0 wider.all all);
  };
}

-- ---- an entry on each day

in_append : (o : ℕ) (ws : List WordDay) (es fs : List Entry) → AllIn o es ws → AllIn o fs ws → AllIn o (es ++ fs) ws
in_append o ws [] fs a b = b
in_append o ws (e ∷ es) fs a b = (a.0, in_append o ws es fs a.1 b)

le_of : (m n : ℕ) → nat_le m n ≡ true → m ≤ n
le_of m n is = grind (arith, nat_tests)

marks_in : (mark : ℕ) (ws all : List WordDay) → ((k : ℕ) → InDays k ws → InDays k all) → AllIn 0 (day_marks mark ws) all
marks_in mark [] all i = tt
marks_in mark (d ∷ ds) all i = by (nat_le d.day (mark / 1440)) (marks_in mark ds all (λ k later. i k (inr later)))
  where
    by : (b : Bool) → AllIn 0 (day_marks mark ds) all → AllIn 0 (cond b (record { minute = d.day * 1440; slot = Driver; crew = false; act = Rest } ∷ day_marks mark ds) (day_marks mark ds)) all
    by true rest = let here : d.day ≡ d.day * 1440 / 1440 = omega arith in (λ le. subst (λ (k : ℕ). InDays k all) here (i d.day (inl refl)), rest)
    by false rest = rest

marks_up : (mark : ℕ) (ws : List WordDay) → AllUpTo mark (day_marks mark ws)
marks_up mark [] = tt
marks_up mark (d ∷ ds) = by (nat_le d.day (mark / 1440)) refl (marks_up mark ds)
  where
    by : (b : Bool) → nat_le d.day (mark / 1440) ≡ b → AllUpTo mark (day_marks mark ds) → AllUpTo mark (cond b (record { minute = d.day * 1440; slot = Driver; crew = false; act = Rest } ∷ day_marks mark ds) (day_marks mark ds))
    by true is rest = (omega (arith, le_of d.day (mark / 1440) is), rest)
    by false is rest = rest

on_front : (k : ℕ) (es fs : List Entry) → HasOn k es → HasOn k (es ++ fs)
on_front k [] fs has = absurd has
on_front k (e ∷ es) fs has = ⊎_elim (λ at. inl at) (λ later. inr (on_front k es fs later)) has

marks_on : (mark k : ℕ) (ws : List WordDay) → k ≤ mark / 1440 → InDays k ws → HasOn k (day_marks mark ws)
marks_on mark k [] le i = absurd i
marks_on mark k (d ∷ ds) le i = by (nat_le d.day (mark / 1440)) refl (λ later. marks_on mark k ds le later)
  where
    not_le : (m n : ℕ) → nat_le m n ≡ false → m ≤ n → ⊥
    not_le m n is le = grind (arith, nat_tests)

    by : (b : Bool) → nat_le d.day (mark / 1440) ≡ b → (InDays k ds → HasOn k (day_marks mark ds)) → HasOn k (cond b (record { minute = d.day * 1440; slot = Driver; crew = false; act = Rest } ∷ day_marks mark ds) (day_marks mark ds))
    by true is rest = ⊎_elim (λ at. let here : d.day * 1440 / 1440 ≡ k = omega (arith, at) in inl here) (λ later. inr (rest later)) i
    by false is rest = ⊎_elim (λ at. absurd (not_le d.day (mark / 1440) is (omega (arith, at, le)))) (λ later. rest later) i

-- entries whose days are there
entries_all : (es : List Entry) (ws : List WordDay) → AllIn 0 es ws → entries_in ws es ≡ es
entries_all [] ws all = refl
entries_all (e ∷ es) ws all =
    ap (λ (b : Bool). cond b (e ∷ entries_in ws es) (entries_in ws es)) (day_in (e.minute / 1440) ws (all.0 (omega arith)))
    ∙ ap (λ (l : List Entry). e ∷ l) (entries_all es ws all.1)

-- ---- the entries by hand that days tell are of their days

on_words : (ws : List WordDay) (k : ℕ) (es : List Manual) → InDays k ws → AllDay k es → AllOnDays ws es
on_words ws k [] i all = tt
on_words ws k (e ∷ es) i all = (subst (λ (n : ℕ). InDays n ws) (sym all.0) i, on_words ws k es i all.1)

on_both : (ws : List WordDay) (es fs : List Manual) → AllOnDays ws es → AllOnDays ws fs → AllOnDays ws (es ++ fs)
on_both ws [] fs a b = b
on_both ws (e ∷ es) fs a b = (a.0, on_both ws es fs a.1 b)

on_later : (w : WordDay) (ws : List WordDay) (es : List Manual) → AllOnDays ws es → AllOnDays (w ∷ ws) es
on_later w ws [] all = tt
on_later w ws (e ∷ es) all = (inr all.0, on_later w ws es all.1)

own_on : (m date : ℕ) (ds : List Day) → AreDays date ds → AllOnDays (sizes ds) (by_hand_up_to m ds)
own_on m date [] are = tt
own_on m date (d ∷ ds) are =
    on_both (sizes (d ∷ ds)) (words_by_hand m d.date d.words) (by_hand_up_to m ds)
    (on_words (sizes (d ∷ ds)) (d.date / 86400) (words_by_hand m d.date d.words) (inl refl) (words_day m d.date 0 d.words are.1.midnight (words_ascend d.words are.1.ordered)))
    (on_later (size_day d) (sizes ds) (by_hand_up_to m ds) (own_on m d.date ds are.2))

-- ---- the days that count at the start

module _ (image : List ℕ) where
  abbrev app : Application
  app = own_sizes image

  abbrev mark : ℕ
  mark = end_mark (own_sizes image) image

  mark_is : (own_view image).mark ≡ end_mark (own_sizes image) image
  unfolding own_view card_view
  mark_is = refl

  module _ (D : List Day) (is : counting (session_time (own_sizes image) image) (end_mark (own_sizes image) image) (card_days (own_sizes image) image) ≡ D) (are : AreDays 0 D) (ends : EndsBy (end_mark (own_sizes image) image) D) (from : ℕ) (above : end_mark (own_sizes image) image < from) (behind : newest_word D < from)
      (small : (d : Day) (es : List Day) → D ≡ d ∷ es → OnNewest (λ d. last_word d.words < 65536) D) (same : entries_up_to (end_mark (own_sizes image) image) D ≡ entries_up_to (end_mark (own_sizes image) image) (card_days (own_sizes image) image)) where
    days_is : (own_view image).held.days ≡ sizes D
    unfolding own_view card_view
    days_is = ap sizes is

    entries_is : (own_view image).held.entries ≡ entries_up_to (end_mark (own_sizes image) image) D
    unfolding own_view card_view
    entries_is = sym same

    all_is : all_since image [] ≡ entries_up_to (end_mark (own_sizes image) image) D
    all_is = append-nil (own_view image).held.entries ∙ entries_is

    covered_is : own_covered image ≡ newest_word D
    covered_is = ap newest_word is

    counted_is : counted_since image [] ≡ start_of (end_mark (own_sizes image) image) D
    unfolding counted_by
    counted_is = ap (λ (ws : List WordDay). let c : Counted = record { days = ws; before = last_entry (own_view image).held.entries } in c) days_is
        ∙ ap (λ (es : List Entry). let c : Counted = record { days = sizes D; before = last_entry es } in c) entries_is

    there : AllIn 0 (all_since image []) (sizes D)
    there = subst (λ (l : List Entry). AllIn 0 l (sizes D)) (sym all_is) (entries_there (end_mark (own_sizes image) image) 0 D are)

    up : AllUpTo (end_mark (own_sizes image) image) (all_since image [])
    up = subst (AllUpTo (end_mark (own_sizes image) image)) (sym all_is) (entries_by (end_mark (own_sizes image) image) D)

    bound_up : AllUpTo (end_mark (own_sizes image) image) (bound_since image []).all
    bound_up = up_both (end_mark (own_sizes image) image) (day_marks (own_view image).mark (own_view image).held.days) (all_since image [])
        (subst (λ (m : ℕ). AllUpTo m (day_marks (own_view image).mark (own_view image).held.days)) mark_is (marks_up (own_view image).mark (own_view image).held.days)) up

    bound_in : AllIn 0 (bound_since image []).all (sizes D)
    bound_in = in_append 0 (sizes D) (day_marks (own_view image).mark (own_view image).held.days) (all_since image [])
        (marks_in (own_view image).mark (own_view image).held.days (sizes D) (λ k i. subst (λ (ws : List WordDay). InDays k ws) days_is i)) there

    pub start_rests : Rests (own_sizes image).activity (bound_since image []) (own_covered image) from (end_mark (own_sizes image) image) (counted_since image []) D
    start_rests =
        subst (λ (n : ℕ). Rests (own_sizes image).activity (bound_since image []) n from (end_mark (own_sizes image) image) (counted_since image []) D) (sym covered_is)
        (subst (λ (c : Counted). Rests (own_sizes image).activity (bound_since image []) (newest_word D) from (end_mark (own_sizes image) image) c D) (sym counted_is)
        (rests_all (own_sizes image).activity (start_bound most_slack (end_mark (own_sizes image) image) D) (bound_since image []) (newest_word D) from (end_mark (own_sizes image) image) (start_of (end_mark (own_sizes image) image) D) D refl bound_up bound_in
        (starts (own_sizes image).activity most_slack from (end_mark (own_sizes image) image) D are ends small above behind)))

    pub start_tied : IsTied (own_sizes image) image [] [] image
    start_tied = record {
      told = record { newest = λ k newest. by k newest; within = subst (λ (c : Counted). AllIn 0 (all_since image []) c.days) (sym counted_is) there };
      day = inl (ap (λ (n : ℕ). n / 1440) (sym mark_is));
      made = made_start (own_sizes image) image;
      order = tt;
    }
      where
        by : (k : ℕ) → is_newest k (counted_since image []).days ≡ true → HasOn k (bound_since image []).all ⊎ (end_mark (own_sizes image) image / 1440 < k)
        by k newest = ⊎_elim
            (λ lt. inr lt)
            (λ le.
            inl (on_front k (day_marks (own_view image).mark (own_view image).held.days) (all_since image [])
            (marks_on (own_view image).mark k (own_view image).held.days (omega (arith, le, mark_is))
            (subst (λ (ws : List WordDay). InDays k ws) (sym days_is) (newest_is k (sizes D) (sym (ap (λ (c : Counted). is_newest k c.days) counted_is) ∙ newest))))))
            (cases_lt (end_mark (own_sizes image) image / 1440) k)

    -- what its days tell of entries by hand up to a mark
    pub start_tells : (m : ℕ) (first : List Manual) → AreDays 0 (card_days (own_sizes image) image) → first ≡ by_hand_up_to m (card_days (own_sizes image) image) → AreFirst image first → first ≡ by_hand_up_to m D → TellsSince image [] m (card_days (own_sizes image) image)
    start_tells m first whole is_so first_is on_d =
        let none : first ++ [] ≡ first = append-nil first in
        record {
          first = first;
          are = first_is;
          told = subst (λ (l : List Manual). TellsHands m l (card_days (own_sizes image) image)) (sym (none ∙ is_so)) (tells_own m (card_days (own_sizes image) image) whole);
          low = subst (λ (l : List Manual). HandsUpTo m l) (sym (none ∙ is_so)) (up_told m (card_days (own_sizes image) image));
          within = subst (λ (c : Counted). AllOnDays c.days (first ++ [])) (sym counted_is) (subst (λ (l : List Manual). AllOnDays (sizes D) l) (sym (none ∙ on_d)) (own_on m 0 D are));
        }

    start_lists : entries_up_to (end_mark (own_sizes image) image) (card_days (own_sizes image) image) ≡ entries_in (sizes D) (all_since image [])
    start_lists = sym same ∙ sym all_is ∙ sym (entries_all (all_since image []) (sizes D) there)

-- ---- a valid card without a session

-- words behind the mark end with one that is no entry's
absent_end : (mark : ℕ) (ds : List Day) → EndsBy mark ds → mark < newest_word ds → EndsAbsent ds
absent_end mark [] ends lt = absurd (omega (arith, lt))
absent_end mark (d ∷ []) ends lt = by (word_absent (last_word d.words)) refl
  where
    by : (b : Bool) → word_absent (last_word d.words) ≡ b → word_absent (last_word d.words) ≡ true
    by true is = is
    by false is = absurd (omega (arith, ends is, lt))
absent_end mark (d ∷ e ∷ ds) ends lt = absent_end mark (e ∷ ds) ends lt

module _ (app : Application) (x : List ℕ) (are : AreDays 0 (card_days app x)) (valid : IsValid app x) (none : session_time app x ≡ 0) where
  words_pass : first_failing (words_behind_mark (end_mark app x) (days_placed app.activity (oldest_pointer (day_string app) x) 0 (card_days app x))) ≡ None
  words_pass =
      subst (λ (n : ℕ). first_failing (cond (nat_eq n 0) (words_behind_mark (end_mark app x) (days_placed app.activity (oldest_pointer (day_string app) x) 0 (card_days app x))) []) ≡ None) none
      (both_pass (cond (nat_eq (session_time app x) 0) (words_behind_mark (end_mark app x) (days_placed app.activity (oldest_pointer (day_string app) x) 0 (card_days app x))) []) _ (valid_words app x valid)).0

  pub quiet_card : IsChecked (end_mark app x) (card_days app x) × (is_open (end_mark app x) (card_days app x) ≡ false → IsSilentBehind (end_mark app x) (card_days app x))
  quiet_card = quiet_all (end_mark app x) app.activity (oldest_pointer (day_string app) x) (card_days app x) are words_pass

  pub ends_card : EndsBy (end_mark app x) (card_days app x)
  ends_card = (closed_by_words app x are (valid_words app x valid) (ap (λ (n : ℕ). nat_eq n 0) none)).0

-- ---- the entries by hand of the start

marked_is : (image : List ℕ) → marked_at image ≡ by_hand_up_to (end_mark (own_sizes image) image) (card_days (own_sizes image) image)
marked_is image = ap (λ (m : ℕ). by_hand_up_to m (card_days (own_sizes image) image)) (mark_is image)

all_is_so : (image : List ℕ) → all_at image ≡ by_hand_up_to (last_of (own_sizes image) image) (card_days (own_sizes image) image)
all_is_so image = ap (λ (m : ℕ). by_hand_up_to (max m (newest_word (card_days (own_sizes image) image))) (card_days (own_sizes image) image)) (mark_is image)

session_is : (image : List ℕ) → session_time (own_sizes image) image ≡ 0 → (own_view image).session ≡ 0
unfolding own_view card_view
session_is image none = none

-- ---- with its session left open, and without one

module _ (image : List ℕ) (brought : List Entry) (next : ℕ) (follow : Follow (end_mark (own_sizes image) image) brought) (are : AreDays 0 (card_days (own_sizes image) image)) where
  open_is : 0 < session_time (own_sizes image) image → counting (session_time (own_sizes image) image) (end_mark (own_sizes image) image) (card_days (own_sizes image) image) ≡ trimmed (end_mark (own_sizes image) image) (card_days (own_sizes image) image)
  open_is session = ap (λ (b : Bool). cond b (card_days (own_sizes image) image) (trimmed (end_mark (own_sizes image) image) (card_days (own_sizes image) image))) (apart (session_time (own_sizes image) image) session)
    where
      apart : (m : ℕ) → 0 < m → nat_eq m 0 ≡ false
      apart m some = grind (arith, nat_tests)

  shut_is : session_time (own_sizes image) image ≡ 0 → counting (session_time (own_sizes image) image) (end_mark (own_sizes image) image) (card_days (own_sizes image) image) ≡ card_days (own_sizes image) image
  shut_is none = ap (λ (n : ℕ). cond (nat_eq n 0) (card_days (own_sizes image) image) (trimmed (end_mark (own_sizes image) image) (card_days (own_sizes image) image))) none

  pub starts_open : end_mark (own_sizes image) image < next → 0 < session_time (own_sizes image) image
      → ((d : Day) (es : List Day) → trimmed (end_mark (own_sizes image) image) (card_days (own_sizes image) image) ≡ d ∷ es → OnNewest (λ d. last_word d.words < 65536) (trimmed (end_mark (own_sizes image) image) (card_days (own_sizes image) image)))
      → HoldsSince (own_sizes image) image no_hands brought next image
  starts_open after session small =
      let m : ℕ = end_mark (own_sizes image) image in
      let cut : List Day = trimmed (end_mark (own_sizes image) image) (card_days (own_sizes image) image) in
      let whole : AreDays 0 cut = are_trimmed m 0 (card_days (own_sizes image) image) are in
      let ends : EndsBy m cut = ends_flat m cut whole (trimmed_twice m (card_days (own_sizes image) image)) in
      let low : newest_word cut ≤ m = trimmed_low m (card_days (own_sizes image) image) are in
      let same : entries_up_to m cut ≡ entries_up_to m (card_days (own_sizes image) image) = entries_trimmed m 0 (card_days (own_sizes image) image) are in
      record {
        written = [];
        rest = brought;
        split = refl;
        lie = record { all = tt; only = tt };
        behind = follow;
        stands = inr (record {
          session = session;
          from = suc m;
          later = follow_first m next brought follow after;
          left = inl (record {
            rests = start_rests image cut (open_is session) whole ends (suc m) (omega arith) (omega (arith, low)) small same;
            until = up image cut (open_is session) whole ends (suc m) (omega arith) (omega (arith, low)) small same;
            lists = start_lists image cut (open_is session) whole ends (suc m) (omega arith) (omega (arith, low)) small same;
          });
          tied = tied_wider (own_sizes image) image [] [] brought image (start_tied image cut (open_is session) whole ends (suc m) (omega arith) (omega (arith, low)) small same);
          marked = start_tells image cut (open_is session) whole ends (suc m) (omega arith) (omega (arith, low)) small same m (marked_at image) are (marked_is image) (inl refl) (marked_is image ∙ sym (told_trimmed m 0 (card_days (own_sizes image) image) are));
        });
      }

  pub starts_shut : IsValid (own_sizes image) image → session_time (own_sizes image) image ≡ 0 → max (end_mark (own_sizes image) image) (newest_word (card_days (own_sizes image) image)) < first_minute next brought
      → ((d : Day) (es : List Day) → card_days (own_sizes image) image ≡ d ∷ es → OnNewest (λ d. last_word d.words < 65536) (card_days (own_sizes image) image)) → HoldsSince (own_sizes image) image no_hands brought next image
  starts_shut valid none after small =
      let m : ℕ = end_mark (own_sizes image) image in
      let days : List Day = card_days (own_sizes image) image in
      let from : ℕ = suc (max m (newest_word days)) in
      let ends : EndsBy m days = ends_card (own_sizes image) image are valid none in
      let silent = quiet_card (own_sizes image) image are valid none in
      let rests = start_rests image days (shut_is none) are ends from (omega arith) (omega arith) small refl in
      record {
        written = [];
        rest = brought;
        split = refl;
        lie = record { all = tt; only = tt };
        behind = follow;
        stands = inl (record {
          from = from;
          later = omega (arith, after);
          goes = record {
            lives = closed_lives (own_sizes image).activity (bound_since image []) (own_covered image) from m (counted_since image []) days rests (omega (arith, covered_is image days (shut_is none) are ends from (omega arith) (omega arith) small refl)) silent.0
                (absent_end m days ends);
            until = up image days (shut_is none) are ends from (omega arith) (omega arith) small refl;
            lists = start_lists image days (shut_is none) are ends from (omega arith) (omega arith) small refl;
            silent = silent.1;
          };
          tied = start_tied image days (shut_is none) are ends from (omega arith) (omega arith) small refl;
          marked = start_tells image days (shut_is none) are ends from (omega arith) (omega arith) small refl m (marked_at image) are (marked_is image) (inl refl) (marked_is image);
          hands = start_tells image days (shut_is none) are ends from (omega arith) (omega arith) small refl (last_of (own_sizes image) image) (all_at image) are (all_is_so image) (inr (session_is image none, refl)) (all_is_so image);
        });
      }
